-- Calls of rows: arguments that fit, bytes read, and what the formula leaves.
use Rattle.std.proofs.Common.{◌≡◌, ℕ, List, [], ◌∷◌, ◌++◌, filter, replicate, Option, Some, None, Bool, true, false, if◌then◌else◌, refl, sym, ap, ◌∙◌, subst, arith}
use Rattle.std.specs.Prelude.{option_map, not, ◌==◌}
use Rattle.std.specs.Option.{option_and_then}
use Rattle.std.proofs.lemmas.Bool.{and_parts}
use Rattle.std.proofs.lemmas.Option.{same_Some}
use Rattle.lane_core.specs.declared.table.Access.{Access}
use Rattle.lane_core.specs.declared.table.Arg.{Arg}
use Rattle.lane_core.specs.declared.table.ParamKind.{ParamKind}
use Rattle.lane_core.specs.declared.table.ParamKind.TheVariants as kind
use Rattle.lane_core.specs.declared.table.Sig.{Sig}
use Rattle.lane_core.specs.Table.{IsArg, IsRegisterArg, FitsKind, FitsKinds, Fits, params_of, reads}
use Rattle.c_memory.specs.declared.blocks.Block.{Block}
use Rattle.c_memory.specs.declared.memory.Pointer.{Pointer}
use Rattle.c_memory.specs.declared.value.Value.{Value}
use Rattle.c_memory.specs.MeaningRows.{fits_kind, fits_kinds, passed, arguments, size_of_kind, register, bytes_of, given, read_each, write_each, with_bytes_read}
use Rattle.c_values.specs.Results.{Gives, Makes}
use Rattle.c_values.specs.Accesses.{AreArgs, reads_in, writes_in}
use Rattle.c_values.proofs.AccessLemmas.{reads_filtered, writes_filtered}

-- ---- arguments

fits_arg : (k : ParamKind) (v : Value) → fits_kind k v ≡ true → IsArg (passed k v) → FitsKind k (passed k v)
fits_arg (kind.Reg bytes) (Value.R8 r) h i = (grind (arith, h), i)
fits_arg (kind.Reg bytes) (Value.R16 r) h i = (grind (arith, h), i)
fits_arg (kind.Reg bytes) (Value.R32 r) h i = (grind (arith, h), i)
fits_arg (kind.Lane lanes false) (Value.R8 r) h i = (refl, i)
fits_arg (kind.Lane lanes true) (Value.R16 r) h i = (refl, i)
fits_arg kind.Pair (Value.R32 r) h i = (refl, i)
fits_arg (kind.Scalar t) (Value.Int n) h i = i
fits_arg kind.Immediate (Value.Int n) h i = tt
fits_arg (kind.PointerTo e constant) (Value.At p) h i = tt
fits_arg k v h i = absurd (cc)

fits_arguments : (ks : List ParamKind) (vs : List Value) → fits_kinds ks vs ≡ true → AreArgs (arguments ks vs) → FitsKinds ks (arguments ks vs)
fits_arguments [] [] h all = tt
fits_arguments [] (v ∷ vs) h all = absurd (cc)
fits_arguments (k ∷ ks) [] h all = absurd (cc)
fits_arguments (k ∷ ks) (v ∷ vs) h all =
    let both = and_parts (fits_kind k v) (fits_kinds ks vs) h in
    (fits_arg k v both.0 all.0, fits_arguments ks vs both.1 all.1)

-- the register that is read
sized : (n : ℕ) (r : List ℕ) (a : Arg) (b c d : Bool) → (n == 8) ≡ b → (n == 16) ≡ c → (n == 32) ≡ d
    → (if b then Some (Arg.R8 r) else if c then Some (Arg.R16 r) else if d then Some (Arg.R32 r) else None) ≡ Some a → IsArg a → IsRegisterArg n a
sized n r a true c d e f g h i = let same = same_Some (Arg.R8 r) a h in let P : Arg → Type 0 = λ x. IsArg x → IsRegisterArg n x in subst P same (λ j. (grind (arith, e), j)) i
sized n r a false true d e f g h i = let same = same_Some (Arg.R16 r) a h in let P : Arg → Type 0 = λ x. IsArg x → IsRegisterArg n x in subst P same (λ j. (grind (arith, f), j)) i
sized n r a false false true e f g h i = let same = same_Some (Arg.R32 r) a h in let P : Arg → Type 0 = λ x. IsArg x → IsRegisterArg n x in subst P same (λ j. (grind (arith, g), j)) i
sized n r a false false false e f g h i = absurd (cc)

register_sized : (n : ℕ) (r : List ℕ) (a : Arg) → register n r ≡ Some a → IsArg a → IsRegisterArg n a
register_sized n r a h i = sized n r a (n == 8) (n == 16) (n == 32) refl refl refl h i

register_fits : (k : ParamKind) (r : List ℕ) (a : Arg) → register (size_of_kind k) r ≡ Some a → IsArg a → FitsKind k a
register_fits (kind.Reg bytes) r a h i = register_sized bytes r a h i
register_fits (kind.Lane lanes false) r a h i = register_sized 8 r a h i
register_fits (kind.Lane lanes true) r a h i = register_sized 16 r a h i
register_fits kind.Pair r a h i = register_sized 32 r a h i
register_fits k r a h i = absurd (cc)

args_split : (front : List Arg) (a : Arg) → AreArgs (front ++ (a ∷ [])) → AreArgs front × IsArg a
args_split [] a h = (tt, h.0)
args_split (x ∷ front) a h = let rest = args_split front a h.1 in ((h.0, rest.0), rest.1)

fits_more : (ks : List ParamKind) (front : List Arg) (k : ParamKind) (a : Arg) → FitsKinds ks front → FitsKind k a → FitsKinds (ks ++ (k ∷ [])) (front ++ (a ∷ []))
fits_more [] [] k a h i = (i, tt)
fits_more [] (x ∷ front) k a h i = absurd h
fits_more (l ∷ ks) [] k a h i = absurd h
fits_more (l ∷ ks) (x ∷ front) k a h i = (h.0, fits_more ks front k a h.1 i)

fits_register : (ks : List ParamKind) (vs : List Value) (k : ParamKind) (r : List ℕ) (whole : List Arg) (o : Option Arg) → fits_kinds ks vs ≡ true → register (size_of_kind k) r ≡ o
    → option_map (λ a. arguments ks vs ++ (a ∷ [])) o ≡ Some whole → AreArgs whole → FitsKinds (ks ++ (k ∷ [])) whole
fits_register ks vs k r whole None h e f all = absurd (cc)
fits_register ks vs k r whole (Some a) h e f all =
    let same = same_Some (arguments ks vs ++ (a ∷ [])) whole f in
    let P : List Arg → Type 0 = λ args. AreArgs args → FitsKinds (ks ++ (k ∷ [])) args in
    subst P same (λ args. let both = args_split (arguments ks vs) a args in
    fits_more ks (arguments ks vs) k a (fits_arguments ks vs h both.0) (register_fits k r a e both.1)) all

fits_read : (ks : List ParamKind) (vs : List Value) (k : ParamKind) (whole : List Arg) (o : Option (List ℕ)) → fits_kinds ks vs ≡ true
    → option_and_then (λ r. option_map (λ a. arguments ks vs ++ (a ∷ [])) (register (size_of_kind k) r)) o ≡ Some whole → AreArgs whole → FitsKinds (ks ++ (k ∷ [])) whole
fits_read ks vs k whole None h f all = absurd (cc)
fits_read ks vs k whole (Some r) h f all = fits_register ks vs k r whole (register (size_of_kind k) r) h refl f all

fits_either : (ks : List ParamKind) (vs : List Value) (k : ParamKind) (whole : List Arg) (o : Option (List ℕ)) (b : Bool) → fits_kinds ks vs ≡ true
    → (if b then option_and_then (λ r. option_map (λ a. arguments ks vs ++ (a ∷ [])) (register (size_of_kind k) r)) o else Some (arguments ks vs)) ≡ Some whole → AreArgs whole
    → FitsKinds (if b then ks ++ (k ∷ []) else ks) whole
fits_either ks vs k whole o true h f all = fits_read ks vs k whole o h f all
fits_either ks vs k whole o false h f all =
    let P : List Arg → Type 0 = λ args. AreArgs args → FitsKinds ks args in
    subst P (same_Some (arguments ks vs) whole f) (fits_arguments ks vs h) all

-- the arguments of values that fit, with the bytes read, fit the signature
fits_whole : (sig : Sig) (memory : List Block) (p : Pointer) (all : List Access) (vs : List Value) (whole : List Arg) → fits_kinds (params_of sig) vs ≡ true
    → with_bytes_read sig memory p all (arguments (params_of sig) vs) ≡ Some whole → AreArgs whole → Fits sig whole
fits_whole sig memory p all vs whole h f args =
    fits_either (params_of sig) vs sig.result whole (read_each memory p (filter (λ a. not a.write) all) (replicate (size_of_kind sig.result) 0)) (reads (params_of sig)) h f args

what_is_given : (o : Option (List Arg)) (answer : Option (Unit {0})) (u : Unit {0}) (new : List Arg) → Gives o answer new → answer ≡ Some u → o ≡ Some new
what_is_given None answer u new h e = absurd (let k : answer ≡ None = h in cc)
what_is_given (Some due) answer u new h e = ap Some (sym h.1)

pub fits_called : (sig due : Sig) (memory : List Block) (p : Pointer) (all : List Access) (vs : List Value) (kinds : List ParamKind) (start args new known whole : List Arg) (answer : Option (Unit {0})) (u : Unit {0})
    → sig ≡ due → fits_kinds (params_of due) vs ≡ true → kinds ≡ params_of sig → start ≡ [] → args ≡ start ++ arguments kinds vs
    → Gives (with_bytes_read sig memory p all args) answer new → answer ≡ Some u → AreArgs known → known ≡ new → whole ≡ new → Fits due whole
fits_called sig due memory p all vs kinds start args new known whole answer u e h k s a g f r n w =
    let from : args ≡ arguments (params_of due) vs = a ∙ rw (s, k, e) refl in
    let P : Sig → List Arg → Type 0 = λ t l. Gives (with_bytes_read t memory p all l) answer new in
    let there : P due (arguments (params_of due) vs) = subst (P due) from (subst (λ t. P t args) e g) in
    let due_args = what_is_given (with_bytes_read due memory p all (arguments (params_of due) vs)) answer u new there f in
    subst (Fits due) (sym w) (fits_whole due memory p all vs new h due_args (subst AreArgs n r))

-- ---- bytes read

through : (args : List Arg) (size : ℕ) (o : Option (List ℕ)) →
    option_and_then (λ r. option_map (λ a. args ++ (a ∷ [])) (register size r)) o ≡ option_map (λ a. args ++ (a ∷ [])) (option_and_then (register size) o)
through args size None = refl
through args size (Some r) = refl

read_due : (sig : Sig) (memory : List Block) (p : Pointer) (all : List Access) (args : List Arg) (size : ℕ) → reads (params_of sig) ≡ true → size ≡ size_of_kind sig.result
    → with_bytes_read sig memory p all args ≡ option_map (λ a. args ++ (a ∷ [])) (option_and_then (register size) (reads_in memory p all (replicate size 0)))
read_due sig memory p all args size e f =
    rw (e, f, reads_filtered memory p all (replicate (size_of_kind sig.result) 0))
    (through args (size_of_kind sig.result) (read_each memory p (filter (λ a. not a.write) all) (replicate (size_of_kind sig.result) 0)))

pub pushed : (sig : Sig) (memory : List Block) (p : Pointer) (all : List Access) (args new : List Arg) (kinds : List ParamKind) (b : Bool) (size : ℕ) (found : Option Arg) (a : Arg)
    → kinds ≡ params_of sig → b ≡ reads kinds → b ≡ true → size ≡ size_of_kind sig.result
    → found ≡ option_and_then (register size) (reads_in memory p all (replicate size 0)) → found ≡ Some a → new ≡ args ++ (a ∷ []) → Gives (with_bytes_read sig memory p all args) (Some tt) new
pushed sig memory p all args new kinds b size found a k e t s f g n =
    let due : with_bytes_read sig memory p all args ≡ Some (args ++ (a ∷ [])) =
    read_due sig memory p all args size (ap reads (sym k) ∙ sym e ∙ t) s ∙ ap (option_map (λ x. args ++ (x ∷ []))) (sym f ∙ g) in
    rw due (refl, n)

pub not_pushed : (sig : Sig) (memory : List Block) (p : Pointer) (all : List Access) (args new : List Arg) (kinds : List ParamKind) (b : Bool) (size : ℕ) (found : Option Arg)
    → kinds ≡ params_of sig → b ≡ reads kinds → b ≡ true → size ≡ size_of_kind sig.result
    → found ≡ option_and_then (register size) (reads_in memory p all (replicate size 0)) → found ≡ None → Gives (with_bytes_read sig memory p all args) None new
not_pushed sig memory p all args new kinds b size found k e t s f g =
    let due : with_bytes_read sig memory p all args ≡ None =
    read_due sig memory p all args size (ap reads (sym k) ∙ sym e ∙ t) s ∙ ap (option_map (λ x. args ++ (x ∷ []))) (sym f ∙ g) in
    rw due refl

-- ---- what the formula leaves

made_some : (o : Option (List Block)) (v w : Option Value) (answer : Option (Unit {0})) (u : Unit {0}) (new : List Block) → Gives o answer new → answer ≡ Some u → w ≡ v
    → Makes (option_map (λ after. (v, after)) o) (Some w) new
made_some None v w answer u new h e f = absurd (let k : answer ≡ None = h in cc)
made_some (Some after) v w answer u new h e f = (ap Some f, h.1)

made_none : (o : Option (List Block)) (v : Option Value) (answer : Option (Unit {0})) (new : List Block) → Gives o answer new → answer ≡ None
    → Makes (option_map (λ after. (v, after)) o) None new
made_none None v answer new h e = refl
made_none (Some after) v answer new h e = absurd (let k : answer ≡ Some tt = h.0 in cc)

written : (due arg : Arg) (bytes : List ℕ) (p : Pointer) (all : List Access) (memory new : List Block) (answer : Option (Unit {0})) → arg ≡ due → bytes ≡ bytes_of arg
    → Gives (writes_in p bytes all memory) answer new → Gives (write_each p (bytes_of due) (filter (λ a. a.write) all) memory) answer new
written due arg bytes p all memory new answer e f h =
    let P : List ℕ → Type 0 = λ r. Gives (writes_in p r all memory) answer new in
    let Q : Option (List Block) → Type 0 = λ o. Gives o answer new in
    subst Q (writes_filtered p (bytes_of due) all memory) (subst P (f ∙ ap bytes_of e) h)

pub applied_some : (k j : ParamKind) (due arg : Arg) (bytes : List ℕ) (v : Option Value) (p : Pointer) (all : List Access) (memory new : List Block) (answer : Option (Unit {0})) (u : Unit {0})
    → arg ≡ due → j ≡ k → bytes ≡ bytes_of arg → v ≡ given j arg → Gives (writes_in p bytes all memory) answer new → answer ≡ Some u
    → Makes (option_map (λ after. (given k due, after)) (write_each p (bytes_of due) (filter (λ a. a.write) all) memory)) (Some v) new
applied_some k j due arg bytes v p all memory new answer u e i f g h a =
    made_some (write_each p (bytes_of due) (filter (λ b. b.write) all) memory) (given k due) v answer u new (written due arg bytes p all memory new answer e f h) a
    (g ∙ ap (λ (x : ParamKind). given x arg) i ∙ ap (given k) e)

pub applied_none : (k : ParamKind) (due arg : Arg) (bytes : List ℕ) (p : Pointer) (all : List Access) (memory new : List Block) (answer : Option (Unit {0}))
    → arg ≡ due → bytes ≡ bytes_of arg → Gives (writes_in p bytes all memory) answer new → answer ≡ None
    → Makes (option_map (λ after. (given k due, after)) (write_each p (bytes_of due) (filter (λ a. a.write) all) memory)) None new
applied_none k due arg bytes p all memory new answer e f h a =
    made_none (write_each p (bytes_of due) (filter (λ b. b.write) all) memory) (given k due) answer new (written due arg bytes p all memory new answer e f h) a
