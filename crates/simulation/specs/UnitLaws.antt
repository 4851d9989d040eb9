-- Laws of whole runs: two units whose functions and tables correspond do the same.
use Rattle.std.proofs.Common.{◌≡◌, ℕ, suc, ◌+◌, List, [], ◌∷◌, ◌++◌, length, find, Bool, true, false, not, Option, Some, None, refl, sym, ap, ◌∙◌, subst, arith}
use Rattle.std.proofs.Common.{add-zero, if◌then◌else◌}
use Rattle.std.specs.Str.{bytes_eq}
use Rattle.std.specs.List.{list_all}
use Rattle.std.proofs.lemmas.Bool.{and_parts}
use Rattle.std.proofs.lemmas.List.{length-append}
use Rattle.std.proofs.lemmas.Slice.Eq.{bytes_eq-Decides}
use Rattle.c_tree.specs.declared.types.CType.{CType}
use Rattle.c_tree.specs.Tree.{Definition, External}
use Rattle.c_memory.specs.declared.blocks.Block.{Block}
use Rattle.c_memory.specs.declared.value.Value.{Value}
use Rattle.c_memory.specs.Matching.{ValuesMatch, GivenMatch}
use Rattle.c_memory.specs.Functions.{types_of, none_named}
use Rattle.c_memory.specs.Values.{IsMemory}
use Rattle.c_memory.specs.Written.{UnitsMatch, NoItems, AndFunction, AndTable, AndHelper as AndHelperItem, MatchingArguments, Follows, DoesTheSame}
use Rattle.c_memory.specs.MeaningState.{InBlock, Binding, State, Out, Done, Turns, Undefined}
use Rattle.c_memory.specs.Meaning.{Calls, call_of, with_function, outermost, functions, table_block, table_blocks, table_objects, outcome}
use Rattle.simulation.specs.Alike.{Relation, Given, Arguments, Blocks, Ends, Back, CallsAlike}
use Rattle.simulation.specs.Carried.{Number, Scope, outer}
use Rattle.simulation.specs.ScopeLaws.{same_marks}
use Rattle.simulation.specs.MemoryLaw.{MemoryLaw, TurnsLaw}
use Rattle.simulation.specs.Runs.{Runs, NoFunctions, AndBoth, AndHelper, AreGood, tables_in_scope, numbered}

-- ---- calls from outside

-- a name that some function has isn't that of a helper of which none has the name
other_name : (x y z : List ℕ) (v : Bool) → bytes_eq x z ≡ true → bytes_eq x y ≡ v → not (bytes_eq y z) ≡ true → v ≡ false
other_name x y z false a b c = refl
other_name x y z true a b c =
    let same : x ≡ y = (bytes_eq-Decides x y).0 b in
    let equal : bytes_eq y z ≡ true = subst (λ w. bytes_eq w z ≡ true) same a in
    let wrong : not true ≡ true = subst (λ w. not w ≡ true) equal c in
    absurd (cc)

not_helper : (x y : List ℕ) (fs : List Definition) (f : Definition) → find (λ g. bytes_eq x g.name) fs ≡ Some f → none_named y fs ≡ true → bytes_eq x y ≡ false
not_helper x y [] f e h = absurd (cc)
not_helper x y (g ∷ fs) f e h =
    let p = and_parts (not (bytes_eq y g.name)) (list_all (λ g. not (bytes_eq y g.name)) fs) h in
    at (bytes_eq x g.name) refl e p.0 (λ i. not_helper x y fs f i p.1)
  where
    at : (v : Bool) → bytes_eq x g.name ≡ v → (if v then Some g else find (λ g. bytes_eq x g.name) fs) ≡ Some f → not (bytes_eq y g.name) ≡ true
        → (find (λ g. bytes_eq x g.name) fs ≡ Some f → bytes_eq x y ≡ false) → bytes_eq x y ≡ false
    at true i j k next = other_name x y g.name (bytes_eq x y) i refl k
    at false i j k next = next j

module _ (n : ℕ) (R : Relation) (tables others : List Binding) (x : List ℕ) where
  pub outermost_alike : (c d : Calls) (fs gs : List Definition) (f : Definition) → Runs n R tables others c d fs gs → find (λ g. bytes_eq x g.name) fs ≡ Some f
      → CallsAlike n R (types_of f.params) f.result (outermost tables c fs x) (outermost others d gs x)
  outermost_alike _ _ _ _ f (NoFunctions c d) e = absurd (cc)
  outermost_alike _ _ _ _ f (AndBoth c d g h fs gs name alike rest) e =
      at (bytes_eq x g.name) (bytes_eq x h.name) (ap (bytes_eq x) name) e (λ i. outermost_alike (with_function tables g c)
      (with_function others h d) fs gs f rest i)
    where
      at : (v w : Bool) → w ≡ v → (if v then Some g else find (λ g. bytes_eq x g.name) fs) ≡ Some f
          → (find (λ g. bytes_eq x g.name) fs ≡ Some f → CallsAlike n R (types_of f.params) f.result (outermost tables (with_function tables g c) fs x)
          (outermost others (with_function others h d) gs x))
          → CallsAlike n R (types_of f.params) f.result (λ args. if v then call_of tables g c args else outermost tables
          (with_function tables g c) fs x args) (λ args. if w then call_of others h d args else outermost others (with_function others h d) gs x args)
      at true w i j next =
          let same : g ≡ f = cc in rw i (subst (λ z. CallsAlike n R (types_of z.params) z.result (call_of tables g c) (call_of others h d)) same alike)
      at false w i j next = rw i (next j)
  outermost_alike _ _ _ _ f (AndHelper c d h fs gs none rest) e =
      at (bytes_eq x h.name) (not_helper x h.name fs f e none) (outermost_alike c (with_function others h d) fs gs f rest e)
    where
      at : (w : Bool) → w ≡ false → CallsAlike n R (types_of f.params) f.result (outermost tables c fs x) (outermost others (with_function others h d) gs x)
          → CallsAlike n R (types_of f.params) f.result (outermost tables c fs x)
          (λ args. if w then call_of others h d args else outermost others (with_function others h d) gs x args)
      at w i k = rw i k

-- ---- tables

further : (n i : ℕ) → n + 1 + i ≡ n + suc i
further n i = omega arith

-- the tables of both, as objects in scope
pub tables_alike : (R : Relation) (written : CType → CType) (n : ℕ) (unit other : List External) → UnitsMatch written unit other
    → Scope R (tables_in_scope written unit) (numbered n) (table_objects n unit) (table_objects n other)
tables_alike R written n _ _ NoItems = tt
tables_alike R written n _ _ (AndFunction f g unit other h rest) = tables_alike R written n unit other rest
tables_alike R written n _ _ (AndTable d e is_static unit other h rest) = (
  record { name = refl; other_name = h.name; ty = refl; other_ty = h.ty },
  (ap InBlock (sym (add-zero n)), ap InBlock (sym (add-zero n))),
  same_marks R (tables_in_scope written unit) (numbered (n + 1)) (outer (numbered n)) (table_objects (n + 1) unit) (table_objects (n + 1) other)
      (λ i. ap Number (further n i)) (tables_alike R written (n + 1) unit other rest),
)
tables_alike R written n _ _ (AndHelperItem g unit other h rest) = tables_alike R written n unit other rest

-- and their blocks
pub same_blocks : (written : CType → CType) (unit other : List External) → UnitsMatch written unit other → table_blocks other ≡ table_blocks unit
same_blocks written _ _ NoItems = refl
same_blocks written _ _ (AndFunction f g unit other h rest) = same_blocks written unit other rest
same_blocks written _ _ (AndTable d e is_static unit other h rest) =
    ap (λ b. b ∷ table_blocks other) h.block ∙ ap (λ bs. table_block d ∷ bs) (same_blocks written unit other rest)
same_blocks written _ _ (AndHelperItem g unit other h rest) = same_blocks written unit other rest

-- ---- memories that a run begins with

memory_good : (m : List Block) → IsMemory m → AreGood m
memory_good [] h = tt
memory_good (b ∷ m) h = let good = h 0 b refl in (good.bytes, good.size, memory_good m (λ k c e. h (suc k) c e))

both_good : (m w : List Block) → AreGood m → AreGood w → AreGood (m ++ w)
both_good [] w h k = k
both_good (b ∷ m) w h k = (h.0, h.1, both_good m w h.2 k)

-- ---- outcomes

given_match : (R : Relation) (t : CType) (v w : Option Value) → ((a b : Value) → R t a b → ValuesMatch a b) → Given R t v w → GivenMatch v w
given_match R t None None leaves h = tt
given_match R t (Some v) (Some w) leaves h = leaves v w h
given_match R t None (Some w) leaves h = absurd h
given_match R t (Some v) None leaves h = absurd h

-- where values that are related match, so do outcomes
pub ends_match : MemoryLaw → (n : ℕ) (R : Relation) (t : CType) (s u : State) (o p : Out (Option Value)) → ((a b : Value) → R t a b → ValuesMatch a b)
    → Ends (Given R t) (Back n s u) o p → Follows n (outcome o) (outcome p)
ends_match law n R t s u Undefined p leaves h = tt
ends_match law n R t s u Turns Turns leaves h = tt
ends_match law n R t s u Turns (Done w v) leaves h = absurd h
ends_match law n R t s u Turns Undefined leaves h = absurd h
ends_match law n R t s u (Done v y) (Done w z) leaves h = (given_match R t v w leaves h.0, law.kept n y.memory z.memory h.1.memory)
ends_match law n R t s u (Done v y) Turns leaves h = absurd h
ends_match law n R t s u (Done v y) Undefined leaves h = absurd h

-- ---- whole runs

-- Two units whose tables match and whose functions correspond do the same, for rows that the runs are over, where matching arguments are related and
-- related values match.
pub runs_match : MemoryLaw → TurnsLaw → (R : Relation) (written : CType → CType) (rows other_rows : Calls) (unit other : List External)
    → UnitsMatch written unit other → AreGood (table_blocks unit)
    → ((memory : List Block) (types : List CType) (args others : List Value) → IsMemory memory → MatchingArguments written memory types args others
    → Arguments R types args others) → ((t : CType) (v w : Value) → R t v w → ValuesMatch v w)
    → ((m : ℕ) → Runs (m + length (table_blocks unit)) R (table_objects m unit) (table_objects m other) rows other_rows (functions unit) (functions other))
    → DoesTheSame rows other_rows written unit other
runs_match law turns R written rows other_rows unit other match good enters leaves runs name f args others memory turns_left named is matching =
    let m = length memory in
    let n = m + length (table_blocks unit) in
    let alike = outermost_alike n R (table_objects m unit) (table_objects m other) name rows other_rows (functions unit) (functions other) f (runs m) named in
    let both = law.itself (memory ++ table_blocks unit) (both_good memory (table_blocks unit) (memory_good memory is) good) in
    let start : Blocks n (memory ++ table_blocks unit) (memory ++ table_blocks unit) = subst
    (λ k. Blocks k (memory ++ table_blocks unit) (memory ++ table_blocks unit)) (length-append memory (table_blocks unit)) both in
    let first : State = record { objects = []; memory = memory ++ table_blocks unit; left = turns_left } in
    let second : State = record { objects = []; memory = memory ++ table_blocks other; left = turns_left } in
    let begins : Blocks n (memory ++ table_blocks unit) (memory ++ table_blocks other) = subst (λ w. Blocks n (memory ++ table_blocks unit) (memory ++ w))
    (sym (same_blocks written unit other match)) start in
    ends_match law n R f.result first second _ _ (leaves f.result) (alike.by args others first second
    (enters memory (types_of f.params) args others is matching) (begins, turns.same turns_left))
