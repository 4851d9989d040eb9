-- What the evaluator's answers say of the definitions.
use Rattle.std.proofs.Common.{Result, Ok, Err, IfOk, ◌≡◌, List, [], ◌∷◌, ◌++◌, Option, Some, None, refl, sym, ap, subst, ◌∙◌, arith, append_assoc}
use Rattle.std.specs.Prelude.{option_map, IsSome}
use Rattle.std.specs.Option.{option_and_then}
use Rattle.lane_core.specs.declared.table.Arg.{Arg}
use Rattle.c_memory.specs.declared.blocks.Block.{Block}
use Rattle.c_memory.specs.declared.value.Value.{Value}
use Rattle.c_values.specs.Results.{Makes}
use Rattle.seq_core.specs.Terms.{Sequence}
use Rattle.seq_core.specs.Values.{all_carried, sequence_value, evaluated, as_arg}
use Rattle.seq_core.specs.Actions.{Acts, then_acts, just, sequence_in}
use Rattle.seq_core.specs.Formed.{WellFormed}
use Rattle.seq_core.proofs.Pure.{sequence_gives}

-- an answer and what is left, as one
pub made_is : {A : Type 0} (x : Option (A × List Block)) (o : Option A) (m : List Block) → Makes x o m → x ≡ just o m
made_is None o m h = rw h refl
made_is (Some r) o m h = rw (h.0, h.1) refl

pub made_ok : {A E : Type 0} (r : Result (Option A) E) (x : Option (A × List Block)) (m : List Block) → IfOk r (λ o. Makes x o m) → IfOk r (λ o. x ≡ just o m)
made_ok (Ok o) x m h = made_is x o m h
made_ok (Err e) x m h = tt

pub just_again : {A : Type 0} (p : Acts A) (m : List Block) → then_acts p (λ a. just (Some a)) m ≡ p m
just_again {A = A} p m = by_result (p m)
  where
    by_result : (x : Option (A × List Block)) → option_and_then (λ r. just (Some r.0) r.1) x ≡ x
    by_result None = refl
    by_result (Some r) = refl

-- values that are added one after another
pub push_more : {A : Type 0} (p : Acts (List A)) (old : List A) (v : A) (m : List Block)
    → then_acts (then_acts p (λ vs. just (Some (v ∷ vs)))) (λ vs. just (Some (old ++ vs))) m ≡ then_acts p (λ vs. just (Some ((old ++ v ∷ []) ++ vs))) m
push_more {A = A} p old v m = by_result (p m)
  where
    by_result : (x : Option (List A × List Block)) → option_and_then (λ r. just (Some (old ++ r.0)) r.1) (option_and_then (λ r. just (Some (v ∷ r.0)) r.1) x) ≡ option_and_then (λ r. just (Some ((old ++ v ∷ []) ++ r.0)) r.1) x
    by_result None = refl
    by_result (Some r) = ap (λ (vs : List A). just (Some vs) r.1) (sym (append_assoc old (v ∷ []) r.0))

pub carried_more : {A : Type 0} (o : Option (List A)) (old : List A) (v : A) → option_map (λ vs. old ++ vs) (option_map (λ vs. v ∷ vs) o) ≡ option_map (λ vs. (old ++ v ∷ []) ++ vs) o
carried_more None old v = refl
carried_more {A = A} (Some vs) old v = ap (λ (ws : List A). Some ws) (sym (append_assoc old (v ∷ []) vs))

just_some : {A : Type 0} (r : Option A) (m n : List Block) (o : A) → just r n ≡ Some (o, m) → r ≡ Some o
just_some None m n o h = absurd (grind (arith, h))
just_some {A = A} (Some a) m n o h = ap (λ (x : Option (A × List Block)). option_map (λ y. y.0) x) h

abbrev nothing_there : Option Arg
nothing_there = None

none_there : IsSome nothing_there → ⊥
none_there h = grind (arith, h)

-- the sequence's value, where its steps are run over no memory at all
pub answer_is : (s : Sequence) (args : List Arg) (vs : List Value) (r : Option (Option Value)) → WellFormed s → IsSome (evaluated s args) → all_carried s.params args ≡ Some vs → option_map (λ x. x.0) (sequence_in s vs []) ≡ r
    → (o : Option Value) × (r ≡ Some o) × (evaluated s args ≡ Some (as_arg o))
answer_is s args vs r f d e g = by_value (sequence_value s vs) refl
  where
    known : evaluated s args ≡ option_map as_arg (sequence_value s vs)
    known = ap (λ x. option_map as_arg (option_and_then (sequence_value s) x)) e

    by_value : (x : Option (Option Value)) → sequence_value s vs ≡ x → (o : Option Value) × (r ≡ Some o) × (evaluated s args ≡ Some (as_arg o))
    by_value None h = absurd (none_there (subst IsSome (known ∙ ap (option_map as_arg) h) d))
    by_value (Some o) h = (o, sym g ∙ ap (option_map (λ x. x.0)) (sequence_gives s f vs o h []), known ∙ ap (option_map as_arg) h)

pub none_left : {A : Type 0} (r : Option A) (o : A) → r ≡ None → r ≡ Some o → ⊥
none_left r o n h = absurd (grind (arith, n, h))

pub one_left : {A : Type 0} (r : Option A) (o v : A) → r ≡ Some v → r ≡ Some o → o ≡ v
one_left r o v n h = cc
