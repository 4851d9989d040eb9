-- Braces round bodies change nothing.
use Rattle.std.proofs.Common.{◌≡◌, ℕ, zero, suc, ◌-◌, Bool, true, false, not, ◌&&◌, ◌||◌, List, [], ◌∷◌, map, drop, length, refl, ap, ◌∙◌, arith}
use Rattle.std.proofs.lemmas.List.{length-drop}
use mathlib.Core.Path.{fun_ext}
use Rattle.c_tree.specs.Tree.{Statement, Optional, Declare, Run, Block, If, While, DoWhile, For, Break, Continue, Return, Empty, Absent, Present, NoStatements, Then}
use Rattle.address_taken.specs.Addressed.{takes, takes_optional, takes_maybe, takes_statement, declares, declares_first}
use Rattle.c_memory.specs.declared.blocks.Block.{Block as MemoryBlock}
use Rattle.c_memory.specs.Memory.{ended, ended_from}
use Rattle.c_memory.specs.MeaningState.{Binding, State, Out, Done, Turns, Undefined, ◌>>=◌, ◌>>◌, then_do, leave, scoped}
use Rattle.c_memory.specs.Meaning.{Calls, Flow, Next, Broke, Continued, Returned, on_next, act, optional_act, optional_body, sequence, no_more, Later, expression, condition, choose, loops, loops_after, with_step, optional_condition, optional_value}
use Rattle.c_memory.specs.Braces.{braced, optional_braced, with_braces}

ended_again : (m : List MemoryBlock) → map ended (map ended m) ≡ map ended m
ended_again [] = refl
ended_again (b ∷ m) = ap (λ rest. ended b ∷ rest) (ended_again m)

ended_twice : (k : ℕ) (m : List MemoryBlock) → ended_from k (ended_from k m) ≡ ended_from k m
ended_twice zero m = ended_again m
ended_twice (suc k) [] = refl
ended_twice (suc k) (b ∷ m) = ap (λ rest. b ∷ rest) (ended_twice k m)

dropped_twice : (n : ℕ) (xs : List Binding) → drop (length (drop (length xs - n) xs) - n) (drop (length xs - n) xs) ≡ drop (length xs - n) xs
dropped_twice n xs =
    let none : length (drop (length xs - n) xs) - n ≡ 0 = rw length-drop (omega arith) in
    rw none refl

-- to leave a scope twice is to leave it once
left_twice : {A : Type 0} (s : State) (o : Out A) → then_do (then_do o (leave s)) (leave s) ≡ then_do o (leave s)
left_twice s (Done a t) = rw (dropped_twice (length s.objects) t.objects, ended_twice (length s.memory) t.memory) refl
left_twice s Turns = refl
left_twice s Undefined = refl

only : (o : Out Flow) → then_do o (λ f. on_next f (λ s. Done Next s)) ≡ o
only (Done Next s) = refl
only (Done Broke s) = refl
only (Done Continued s) = refl
only (Done (Returned v) s) = refl
only Turns = refl
only Undefined = refl

body_same : (s : Statement) (c : Calls) → scoped (act (braced s) no_more c) ≡ scoped (act s no_more c)
body_same s c = fun_ext (λ t. left_twice t (sequence (Then s NoStatements) c t) ∙ ap (λ o. then_do o (leave t)) (only (act s no_more c t)))

other_same : (o : Optional) (c : Calls) → optional_body (optional_braced o) c ≡ optional_body o c
other_same Absent c = refl
other_same (Present s) c = body_same s c

nothing_more : (b d : Bool) → (b || (not d && false)) ≡ b
nothing_more true d = refl
nothing_more false true = refl
nothing_more false false = refl

body_takes : (x : List ℕ) (s : Statement) → takes_statement x (braced s) ≡ takes_statement x s
body_takes x s = nothing_more (takes_statement x s) (declares x s)

other_takes : (x : List ℕ) (o : Optional) → takes_maybe x (optional_braced o) ≡ takes_maybe x o
other_takes x Absent = refl
other_takes x (Present s) = body_takes x s

pub same_acts : (s : Statement) (later : Later) (c : Calls) → act (with_braces s) later c ≡ act s later c
same_acts (Declare all) later c = refl
same_acts (Run e) later c = refl
same_acts (Block all) later c = refl
same_acts (If e s o) later c =
    ap (λ p. condition (expression e c) >>= (λ v. choose v p (optional_body (optional_braced o) c))) (body_same s c)
    ∙ ap (λ p. condition (expression e c) >>= (λ v. choose v (scoped (act s no_more c)) p)) (other_same o c)
same_acts (While e s) later c = ap (λ p t. loops t.left (condition (expression e c)) p t) (body_same s c)
same_acts (DoWhile s e) later c = ap (λ p t. loops_after t.left (condition (expression e c)) p t) (body_same s c)
same_acts (For i e n s) later c =
    let behind = λ (b : Statement) (x : List ℕ). takes_optional x e || (takes_optional x n || takes_statement x b) in
    ap (λ p. scoped (optional_act i (behind (braced s)) c >> (λ t. loops t.left (optional_condition e c) (with_step p (optional_value n c)) t))) (body_same s c)
    ∙ ap (λ l. scoped (optional_act i l c >> (λ t. loops t.left (optional_condition e c) (with_step (scoped (act s no_more c)) (optional_value n c)) t)))
    (fun_ext (λ x. ap (λ b. takes_optional x e || (takes_optional x n || b)) (body_takes x s)))
same_acts (Break p) later c = refl
same_acts (Continue p) later c = refl
same_acts (Return p e) later c = refl
same_acts Empty later c = refl

pub same_takes : (x : List ℕ) (s : Statement) → takes_statement x (with_braces s) ≡ takes_statement x s
same_takes x (Declare all) = refl
same_takes x (Run e) = refl
same_takes x (Block all) = refl
same_takes x (If e s o) =
    ap (λ b. takes x e || (b || takes_maybe x (optional_braced o))) (body_takes x s) ∙ ap (λ b. takes x e || (takes_statement x s || b)) (other_takes x o)
same_takes x (While e s) = ap (λ b. takes x e || b) (body_takes x s)
same_takes x (DoWhile s e) = ap (λ b. b || takes x e) (body_takes x s)
same_takes x (For i e n s) =
    ap (λ b. takes_maybe x i || (not (declares_first x i) && (takes_optional x e || (takes_optional x n || b)))) (body_takes x s)
same_takes x (Break p) = refl
same_takes x (Continue p) = refl
same_takes x (Return p e) = refl
same_takes x Empty = refl
