-- The unit that is written for a unit of the form has the same functions, and these do the same.
use Rattle.std.proofs.Common.{◌≡◌, ℕ, ◌+◌, List, [], ◌∷◌, ◌++◌, length, Bool, true, false, cond, not, Option, Some, None, Ok, is_some, refl, ◌∙◌, ap, arith}
use Rattle.std.specs.Prelude.{find, nat_lt}
use Rattle.std.specs.Str.{bytes_eq}
use Rattle.std.proofs.lemmas.Bool.Decides.{nat_tests}
use Rattle.c_text.specs.declared.tokens.Dialect.TheVariants.{X86, Neon}
use Rattle.simd_top.specs.declared.rows.FormRow.{FormRow}
use Rattle.c_tree.specs.Tree.{Definition, External, Function, Table}
use Rattle.c_print.specs.Text.{text_of}
use Rattle.reading_again.specs.Plain.{PlainUnit}
use Rattle.scopes.specs.Scopes.{Callee, named}
use Rattle.vector_types.specs.Functions.{heading_of as function_heading, with_function as with_heading, with_items, is_before, check_function}
use Rattle.vector_types.specs.Units.{check_items, answer}
use Rattle.c_memory.specs.declared.blocks.Block.{Block as MemoryBlock}
use Rattle.c_memory.specs.declared.value.Value.{Value}
use Rattle.c_memory.specs.Matching.{written_type, ArgumentsMatch}
use Rattle.c_memory.specs.MeaningState.{State, Does}
use Rattle.c_memory.specs.Meaning.{Calls, call_of, with_function, outermost, functions, table_blocks, table_objects, outcome}
use Rattle.c_memory.specs.Values.{AreArguments}
use Rattle.c_memory.specs.Functions.{types_of}
use Rattle.c_memory.specs.Written.{UnitsMatch, NoItems, AndFunction, Follows, DoesTheSame}
use Rattle.simd_top.specs.Migrated.{parameters_of, Migrated}
use Rattle.simd_top.specs.Rows.{neon_name, moved_row}
use Rattle.simd_top.specs.Ran.{rows}
use Rattle.simd_top.specs.Source.{HasUnit}
use Rattle.simd_top.specs.Standing.{IsTypedAsWritten, AllStand}
use Rattle.simd_top.specs.Form.{is_in, is_free, is_function, first_outside}
use Rattle.simd_top.specs.Written.{moved_function, moved_unit}
use Rattle.simd_top.proofs.Conjunction.{split_and}
use Rattle.simd_top.proofs.Values.{named as row_named, intel_call, neon_call}
use Rattle.simd_top.proofs.Good.{good_unit}
use Rattle.simd_top.proofs.FreeNames.{other_than_intel, other_than_neon}
use Rattle.simd_top.proofs.Headings.{item_passes, result_and_name, heading_of}
use Rattle.simd_top.proofs.Expressions.{DoRows, HasNoRow}
use Rattle.simd_top.proofs.MovedParameters.{Unseen, unseen_more, named_more, not_in}
use Rattle.simd_top.proofs.Parameters.{equal}
use Rattle.simd_top.proofs.Bodies.{outside_functions, BothDone, function_moves}

-- ---- calls from outside

-- with a function the calls still do the rows
rows_stay : (f g : Definition) (c d : Calls) → is_free f.name ≡ true → g.name ≡ f.name → DoRows c d → DoRows (with_function [] f c) (with_function [] g d)
rows_stay f g c d free name do_rows x op a b s t h =
    let is = row_named x op h in
    let intel = other_than_intel op f.name free in
    let neon = other_than_neon op f.name free in
    let done = do_rows x op a b s t h in
    (rw (is, intel) (rw is at done.0), rw (name, neon) done.1)

rows_done : DoRows (rows X86) (rows Neon)
rows_done x op a b s t h = (rw (row_named x op h) (intel_call op a b s), neon_call op a b t)

-- functions with the same names, of which each pair returns the same register
abbrev AllDone : List Definition → List Definition → Type 0
AllDone [] [] = Unit {0}
AllDone (f ∷ fs) (g ∷ gs) = (is_function f ≡ true) × (g.name ≡ f.name)
    × ((c d : Calls) (args others : List Value) (memory : List MemoryBlock) (s : State) → DoRows c d → AreArguments memory (types_of f.params) args → ArgumentsMatch args others →
    BothDone (call_of [] f c args) (call_of [] g d others) s)
    × AllDone fs gs
AllDone fs gs = ⊥

free_name : (f : Definition) → is_function f ≡ true → is_free f.name ≡ true
free_name f h = (result_and_name f (heading_of f h).1).1

same_function : (f g : Definition) → Some f ≡ Some g → f ≡ g
same_function f g h = cc

outermost_done : (fs gs : List Definition) (c d : Calls) (name : List ℕ) (f : Definition) (args others : List Value) (memory : List MemoryBlock) (s : State) → DoRows c d → AllDone fs gs →
    find (λ g. bytes_eq name g.name) fs ≡ Some f → AreArguments memory (types_of f.params) args → ArgumentsMatch args others →
    BothDone (outermost [] c fs name args) (outermost [] d gs name others) s
outermost_done [] [] c d name f args others memory s do_rows all h k m = absurd (cc)
outermost_done [] (g ∷ gs) c d name f args others memory s do_rows all h k m = absurd all
outermost_done (e ∷ fs) [] c d name f args others memory s do_rows all h k m = absurd all
outermost_done (e ∷ fs) (g ∷ gs) c d name f args others memory s do_rows all h k m =
    go (bytes_eq name e.name) refl
    (λ rest. outermost_done fs gs (with_function [] e c) (with_function [] g d) name f args others memory s (rows_stay e g c d (free_name e all.0) all.1 do_rows) all.3 rest k m) h
  where
    go : (v : Bool) → bytes_eq name e.name ≡ v →
        (find (λ x. bytes_eq name x.name) fs ≡ Some f → BothDone (outermost [] (with_function [] e c) fs name args) (outermost [] (with_function [] g d) gs name others) s) →
        cond v (Some e) (find (λ x. bytes_eq name x.name) fs) ≡ Some f →
        BothDone (outermost [] c (e ∷ fs) name args) (outermost [] d (g ∷ gs) name others) s
    go true is later same =
        let done = all.2 c d args others memory s do_rows (rw (same_function e f same) k) m in
        record { register = done.register; first = rw is done.first; second = rw (ap (bytes_eq name) all.1 ∙ is) done.second }
    go false is later rest =
        let done = later rest in
        record { register = done.register; first = rw is done.first; second = rw (ap (bytes_eq name) all.1 ∙ is) done.second }

-- ---- the unit's functions

-- the functions with one more
abbrev with_one : ℕ → Definition → List (List ℕ × Callee) → List (List ℕ × Callee)
with_one i f all = all ++ (f.name, record { order = i; heading = function_heading Neon f }) ∷ []

one_with : (i : ℕ) (f : Definition) (all : List (List ℕ × Callee)) → named f.name all ≡ None → with_heading Neon i f all ≡ with_one i f all
one_with i f all h = rw h refl

items_keep : (us : List External) (i : ℕ) (all : List (List ℕ × Callee)) (x : List ℕ) (c : Callee) → named x all ≡ Some c → named x (with_items Neon i us all) ≡ Some c
items_keep [] i all x c h = h
items_keep (Function f ∷ us) i all x c h = items_keep us (i + 1) (with_heading Neon i f all) x c (go (is_some (named f.name all)))
  where
    go : (v : Bool) → named x (cond v all (with_one i f all)) ≡ Some c
    go true = h
    go false = rw (named_more x f.name (record { order = i; heading = function_heading Neon f }) all, h) refl
items_keep (Table d static ∷ us) i all x c h = items_keep us (i + 1) all x c h

none_before : (i : ℕ) → nat_lt i i ≡ false
none_before i = grind (arith, nat_tests)

not_before : (us : List External) (f : Definition) (i : ℕ) (all : List (List ℕ × Callee)) → named f.name all ≡ None → is_before (named f.name (with_items Neon (i + 1) us (with_one i f all))) i ≡ false
not_before us f i all h =
    rw (items_keep us (i + 1) (with_one i f all) f.name (record { order = i; heading = function_heading Neon f })
    (rw (named_more f.name f.name (record { order = i; heading = function_heading Neon f }) all, h, equal f.name) refl))
    (none_before i)

-- the names of functions that are written
no_row_items : (names : List (List ℕ)) (us : List External) (i : ℕ) (all : List (List ℕ × Callee)) → first_outside names us ≡ None → HasNoRow all → HasNoRow (with_items Neon i (moved_unit us) all)
no_row_items names [] i all h none = none
no_row_items names (Function f ∷ us) i all h none =
    let a = item_passes names (Function f) us h in
    no_row_items (names ++ f.name ∷ []) us (i + 1) (with_heading Neon i (moved_function f) all) a.1
    (λ op. go op (free_name f (split_and (is_function f) (not (is_in names f.name)) a.0).0) (is_some (named f.name all)))
  where
    go : (op : FormRow) → is_free f.name ≡ true → (v : Bool) → named (neon_name (moved_row op)) (cond v all (with_one i (moved_function f) all)) ≡ None
    go op free true = none op
    go op free false = rw (named_more (neon_name (moved_row op)) f.name (record { order = i; heading = function_heading Neon (moved_function f) }) all, none op, other_than_neon op f.name free) refl
no_row_items names (Table d static ∷ us) i all h none = let a = item_passes names (Table d static) us h in absurd (cc)

-- ---- the unit

-- The unit that is written for one of the form, as far as its items behind some functions go: it has its types as it is, with the same functions, which do the
-- same, and without tables, as the unit.
record MovesItems (us : List External) (before : List (List ℕ × Callee)) (here : ℕ) : Type 0 where
  typed : check_items (moved_unit us) (outside_functions before here) [] ≡ record { refusals = []; items = moved_unit us }
  plain : PlainUnit (moved_unit us)
  matches : UnitsMatch written_type us (moved_unit us)
  parameters : parameters_of (moved_unit us) ≡ parameters_of us
  all : AllDone (functions us) (functions (moved_unit us))
  no_blocks : (table_blocks us ≡ []) × (table_blocks (moved_unit us) ≡ [])
  no_objects : (n : ℕ) → (table_objects n us ≡ []) × (table_objects n (moved_unit us) ≡ [])

one_judged : (g : Definition) (vs : List External) (before : List (List ℕ × Callee)) (here : ℕ) → check_function g (outside_functions before here) ≡ Ok g →
    check_items vs (outside_functions before (here + 1)) [] ≡ record { refusals = []; items = vs } →
    check_items (Function g ∷ vs) (outside_functions before here) [] ≡ record { refusals = []; items = Function g ∷ vs }
one_judged g vs before here h k = rw (h, k) refl

items_move : (names : List (List ℕ)) (us : List External) (i : ℕ) (all before : List (List ℕ × Callee)) → first_outside names us ≡ None → before ≡ with_items Neon i (moved_unit us) all →
    Unseen names all → HasNoRow before → MovesItems us before i
items_move names [] i all before h is unseen none =
    record { typed = refl; plain = tt; matches = NoItems; parameters = refl; all = tt; no_blocks = (refl, refl); no_objects = λ n. (refl, refl) }
items_move names (Function f ∷ us) i all before h is unseen none =
    let a = item_passes names (Function f) us h in
    let b = split_and (is_function f) (not (is_in names f.name)) a.0 in
    let g = moved_function f in
    let new : named f.name all ≡ None = unseen f.name (not_in (is_in names f.name) b.1) in
    let grows : before ≡ with_items Neon (i + 1) (moved_unit us) (with_one i g all) = is ∙ ap (with_items Neon (i + 1) (moved_unit us)) (one_with i g all new) in
    let first : is_before (named f.name before) i ≡ false = ap (λ fs. is_before (named f.name fs) i) grows ∙ not_before (moved_unit us) g i all new in
    let r = function_moves f before i b.0 first none in
    let rest = items_move (names ++ f.name ∷ []) us (i + 1) (with_one i g all) before a.1 grows (unseen_more names f.name (record { order = i; heading = function_heading Neon g }) all unseen) none in
    record {
      typed = one_judged g (moved_unit us) before i r.typed rest.typed;
      plain = (r.plain, rest.plain);
      matches = AndFunction f g us (moved_unit us) r.heading rest.matches;
      parameters = rw (r.parameters, rest.parameters) refl;
      all = (b.0, refl, r.done, rest.all);
      no_blocks = rest.no_blocks;
      no_objects = rest.no_objects;
    }
items_move names (Table d static ∷ us) i all before h is unseen none = let a = item_passes names (Table d static) us h in absurd (cc)

-- outcomes of that kind match
follows : (n : ℕ) (p q : Does (Option Value)) (s : State) → BothDone p q s → Follows n (outcome (p s)) (outcome (q s))
follows n p q s done = rw (done.first, done.second) (refl, refl)

does_the_same : (us vs : List External) → AllDone (functions us) (functions vs) → (table_blocks us ≡ []) × (table_blocks vs ≡ []) → ((n : ℕ) → (table_objects n us ≡ []) × (table_objects n vs ≡ [])) →
    DoesTheSame (rows X86) (rows Neon) written_type us vs
does_the_same us vs all no_blocks no_objects name f args others memory turns found good m =
    rw (no_blocks.1, (no_objects (length memory)).1, no_blocks.0, (no_objects (length memory)).0)
    (follows (length memory + length {A = MemoryBlock} []) (outermost [] (rows X86) (functions us) name args) (outermost [] (rows Neon) (functions vs) name others)
    (record { objects = []; memory = memory ++ []; left = turns })
    (outermost_done (functions us) (functions vs) (rows X86) (rows Neon) name f args others memory (record { objects = []; memory = memory ++ []; left = turns }) rows_done all found m.first m.same))

-- The written unit can be read again, and the check gives it back as it is. It matches its source, with the same names of parameters, and does the same.
pub record IsMoved (unit : List External) : Type 0 where
  pub written : IsTypedAsWritten (moved_unit unit)
  pub matches : UnitsMatch written_type unit (moved_unit unit)
  pub parameters : parameters_of (moved_unit unit) ≡ parameters_of unit
  pub does : DoesTheSame (rows X86) (rows Neon) written_type unit (moved_unit unit)

pub is_moved : (us : List External) → first_outside [] us ≡ None → IsMoved us
is_moved us h =
    let r = items_move [] us 0 [] (with_items Neon 0 (moved_unit us) []) h refl (λ x k. refl) (no_row_items [] us 0 [] h (λ op. refl)) in
    record {
      written = record { good = good_unit [] us h; plain = r.plain; typed = ap answer r.typed };
      matches = r.matches;
      parameters = r.parameters;
      does = does_the_same us (moved_unit us) r.all r.no_blocks r.no_objects;
    }

pub migrated : AllStand → (source text : List ℕ) (u : List External) → HasUnit X86 source u → first_outside [] u ≡ None → text ≡ text_of (moved_unit u) → Migrated source text
migrated stand source text u has form is =
    let m = is_moved u form in
    let r = stand (moved_unit u) m.written in
    record {
      unit = u;
      written_unit = moved_unit u;
      typed_unit = r.read;
      has_unit = has;
      is_text = is;
      again = r.again;
      typed = r.typed;
      same_unit = r.same;
      same = r.matches written_type u m.matches;
      parameters = r.parameters ∙ m.parameters;
      does_the_same = r.does (rows X86) (rows Neon) written_type u m.does;
    }
