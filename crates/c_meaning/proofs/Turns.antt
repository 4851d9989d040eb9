-- One turn of each loop, and one more element of a row of trees.
use Rattle.std.proofs.Common.{◌≡◌, ℕ, zero, suc, ◌+◌, ◌-◌, ◌<◌, ◌≤◌, Bool, true, false, ◌||◌, List, [], ◌∷◌, ◌++◌, length, map, drop, Option, refl, sym, ap, ◌∙◌, arith, slice_index_or, ◌⊎◌, ⊎_elim}
use Rattle.std.proofs.lemmas.List.{append_assoc, drop_more}
use Rattle.c_tree.specs.declared.expressions.Expr.{Expr}
use Rattle.c_tree.specs.declared.statements.Declared.{Declared}
use Rattle.c_tree.specs.declared.statements.Stmt.{Stmt}
use Rattle.c_tree.specs.View.{view, views, view_declared, view_stmt, view_stmts}
use Rattle.c_memory.specs.declared.value.Value.{Value}
use Rattle.c_memory.specs.MeaningState.{State, Out, Done, Turns, Undefined, Does, then_do, pure, spend, ◌>>=◌, ◌>>◌}
use Rattle.c_tree.specs.Types.{is_array}
use Rattle.c_memory.specs.Meaning.{Calls, begin_object, initialised, choose, expression, its_value, values, on_loop, loops, loops_after, then_step, with_step}
use Rattle.c_memory.specs.Meaning as meaning
use Rattle.c_meaning.specs.declared.calls.Flow.{Flow}
use Rattle.c_meaning.specs.declared.calls.Flow.TheVariants.{Next, Continued}
use Rattle.c_meaning.specs.Callees.{seen_flow}
use Rattle.c_meaning.specs.Flagged.{declare, first_flag, other_flags}
use Rattle.c_meaning.specs.Weights.{weight, weights, optional_weight, objects_weight, statement_weight, statements_weight}

abbrev pub GoesOn : Flow → Type 0
GoesOn f = (f ≡ Next) ⊎ (f ≡ Continued)

goes_on : (f : Flow) (p : Does meaning.Flow) → GoesOn f → on_loop (seen_flow f) p ≡ p
goes_on f p h = ⊎_elim (λ e. ap (λ g. on_loop (seen_flow g) p) e) (λ e. ap (λ g. on_loop (seen_flow g) p) e) h

pub loop_turn : (n : ℕ) (test : Does Bool) (body : Does meaning.Flow) (s s1 s2 s3 : State) (b : Bool) (u : Unit {0}) (f : Flow) → 0 < n → test s ≡ Done b s1 → b ≡ true → spend s1 ≡ Done u s2 → body s2 ≡ Done (seen_flow f) s3 → GoesOn f → loops n test body s ≡ loops (n - 1) test body s3
loop_turn zero test body s s1 s2 s3 b u f lt e1 e2 e3 e4 h = absurd (omega arith)
loop_turn (suc n) test body s s1 s2 s3 b u f lt e1 e2 e3 e4 h =
    let after = λ (v : Bool). choose v (spend >> (body >>= (λ g. on_loop g (loops n test body)))) (pure meaning.Next) in
    ap (λ o. then_do o after) e1
    ∙ ap (λ v. after v s1) e2
    ∙ ap (λ o. then_do o (λ w. body >>= (λ g. on_loop g (loops n test body)))) e3
    ∙ ap (λ o. then_do o (λ g. on_loop g (loops n test body))) e4
    ∙ ap (λ p. p s3) (goes_on f (loops n test body) h)
    ∙ (let e : n ≡ suc n - 1 = omega arith in ap (λ k. loops k test body s3) e)

pub step_done : (body : Does meaning.Flow) (p : Does (Option Value)) (s s1 s2 : State) (f : Flow) (v : Option Value) → body s ≡ Done (seen_flow f) s1 → GoesOn f → p s1 ≡ Done v s2 → with_step body p s ≡ Done meaning.Next s2
step_done body p s s1 s2 f v e1 h e2 =
    ap (λ o. then_do o (λ g. then_step g p)) e1
    ∙ ⊎_elim (λ e. ap (λ g. then_step (seen_flow g) p s1) e) (λ e. ap (λ g. then_step (seen_flow g) p s1) e) h
    ∙ ap (λ o. then_do o (λ w. pure meaning.Next)) e2

-- where a loop stands: before its test, where it spends its turn, and before its body
abbrev pub entered : ℕ → Does Bool → Does meaning.Flow → Does meaning.Flow
entered zero test body = λ s. Turns
entered (suc n) test body = spend >> (body >>= (λ g. on_loop g (loops n test body)))

pub loop_fails : (n : ℕ) (test : Does Bool) (body : Does meaning.Flow) (s : State) (o : Out Bool) → test s ≡ o → loops n test body s ≡ then_do o (λ v. choose v (entered n test body) (pure meaning.Next))
loop_fails zero test body s o e = ap (λ x. then_do x (λ v. choose v (entered zero test body) (pure meaning.Next))) e
loop_fails (suc n) test body s o e = ap (λ x. then_do x (λ v. choose v (entered (suc n) test body) (pure meaning.Next))) e

pub loop_turns : (n : ℕ) (test : Does Bool) (body : Does meaning.Flow) (s : State) → test s ≡ Turns → loops n test body s ≡ Turns
loop_turns n test body s e = loop_fails n test body s Turns e

pub loop_undefined : (n : ℕ) (test : Does Bool) (body : Does meaning.Flow) (s : State) → test s ≡ Undefined → loops n test body s ≡ Undefined
loop_undefined n test body s e = loop_fails n test body s Undefined e

pub loop_ends : (n : ℕ) (test : Does Bool) (body : Does meaning.Flow) (s s1 : State) (b : Bool) → test s ≡ Done b s1 → b ≡ false → loops n test body s ≡ Done meaning.Next s1
loop_ends n test body s s1 b e f = loop_fails n test body s (Done b s1) e ∙ ap (λ v. choose v (entered n test body) (pure meaning.Next) s1) f

pub loop_spends : (n : ℕ) (test : Does Bool) (body : Does meaning.Flow) (s s1 : State) (b : Bool) → 0 < n → test s ≡ Done b s1 → b ≡ true → loops n test body s ≡ then_do (spend s1) (λ w. body >>= (λ g. on_loop g (loops (n - 1) test body)))
loop_spends zero test body s s1 b lt e t = absurd (omega arith)
loop_spends (suc n) test body s s1 b lt e t =
    loop_fails (suc n) test body s (Done b s1) e ∙ ap (λ v. choose v (entered (suc n) test body) (pure meaning.Next) s1) t
    ∙ (let same : n ≡ suc n - 1 = omega arith in ap (λ k. then_do (spend s1) (λ w. body >>= (λ g. on_loop g (loops k test body)))) same)

pub loop_enters : (n : ℕ) (test : Does Bool) (body : Does meaning.Flow) (s s1 s2 : State) (b : Bool) (u : Unit {0}) → 0 < n → test s ≡ Done b s1 → b ≡ true → spend s1 ≡ Done u s2 → loops n test body s ≡ then_do (body s2) (λ g. on_loop g (loops (n - 1) test body))
loop_enters n test body s s1 s2 b u lt e t spent = loop_spends n test body s s1 b lt e t ∙ ap (λ o. then_do o (λ w. body >>= (λ g. on_loop g (loops (n - 1) test body)))) spent

-- the same of a loop that tests after its body
pub after_spends : (n : ℕ) (test : Does Bool) (body : Does meaning.Flow) (s : State) → 0 < n → loops_after n test body s ≡ then_do (spend s) (λ w. body >>= (λ g. on_loop g (test >>= (λ v. choose v (loops_after (n - 1) test body) (pure meaning.Next)))))
after_spends zero test body s lt = absurd (omega arith)
after_spends (suc n) test body s lt =
    let same : n ≡ suc n - 1 = omega arith in
    ap (λ k. then_do (spend s) (λ w. body >>= (λ g. on_loop g (test >>= (λ v. choose v (loops_after k test body) (pure meaning.Next)))))) same

pub after_enters : (n : ℕ) (test : Does Bool) (body : Does meaning.Flow) (s s1 : State) (u : Unit {0}) → 0 < n → spend s ≡ Done u s1 → loops_after n test body s ≡ then_do (body s1) (λ g. on_loop g (test >>= (λ v. choose v (loops_after (n - 1) test body) (pure meaning.Next))))
after_enters n test body s s1 u lt e = after_spends n test body s lt ∙ ap (λ o. then_do o (λ w. body >>= (λ g. on_loop g (test >>= (λ v. choose v (loops_after (n - 1) test body) (pure meaning.Next)))))) e

pub after_tests : (n : ℕ) (test : Does Bool) (body : Does meaning.Flow) (s s1 s2 : State) (u : Unit {0}) (f : Flow) → 0 < n → spend s ≡ Done u s1 → body s1 ≡ Done (seen_flow f) s2 → GoesOn f → loops_after n test body s ≡ then_do (test s2) (λ v. choose v (loops_after (n - 1) test body) (pure meaning.Next))
after_tests n test body s s1 s2 u f lt e1 e2 h =
    let again = test >>= (λ v. choose v (loops_after (n - 1) test body) (pure meaning.Next)) in
    after_enters n test body s s1 u lt e1 ∙ ap (λ o. then_do o (λ g. on_loop g again)) e2 ∙ ap (λ p. p s2) (goes_on f again h)

-- a body, and then its step
pub steps : (body : Does meaning.Flow) (p : Does (Option Value)) (s s1 : State) (f : Flow) → body s ≡ Done (seen_flow f) s1 → GoesOn f → with_step body p s ≡ then_do (p s1) (λ w. pure meaning.Next)
steps body p s s1 f e h =
    ap (λ o. then_do o (λ g. then_step g p)) e ∙ ⊎_elim (λ x. ap (λ g. then_step (seen_flow g) p s1) x) (λ x. ap (λ g. then_step (seen_flow g) p s1) x) h

-- one more argument
put_before : (o : Out (List Value)) (given : List Value) (v : Value) → then_do (then_do o (λ vs. pure (v ∷ vs))) (λ vs. pure (given ++ vs)) ≡ then_do o (λ vs. pure ((given ++ v ∷ []) ++ vs))
put_before (Done vs s) given v = ap (λ l. Done l s) (sym (append_assoc given (v ∷ []) vs))
put_before Turns given v = refl
put_before Undefined given v = refl

pub values_more : (c : Calls) (all : List Expr) (k : ℕ) (e : Expr) (s s1 : State) (given more : List Value) (v : Value) → k < length all → e ≡ slice_index_or all k e → its_value (expression (view e) c) s ≡ Done v s1 → more ≡ given ++ v ∷ [] →
    then_do (values (views (drop k all)) c s) (λ vs. pure (given ++ vs)) ≡ then_do (values (views (drop (k + 1) all)) c s1) (λ vs. pure (more ++ vs))
values_more c all k e s s1 given more v lt is h pushed =
    let here : drop k all ≡ e ∷ drop (k + 1) all = drop_more all k e lt ∙ ap (λ x. x ∷ drop (k + 1) all) (sym is) in
    ap (λ l. then_do (values (views l) c s) (λ vs. pure (given ++ vs))) here
    ∙ ap (λ o. then_do (then_do o (λ w. values (views (drop (k + 1) all)) c >>= (λ vs. pure (w ∷ vs)))) (λ vs. pure (given ++ vs))) h
    ∙ put_before (values (views (drop (k + 1) all)) c s1) given v
    ∙ ap (λ l. then_do (values (views (drop (k + 1) all)) c s1) (λ vs. pure (l ++ vs))) (sym pushed)

pub after_turn : (n : ℕ) (test : Does Bool) (body : Does meaning.Flow) (s s1 s2 s3 : State) (b : Bool) (u : Unit {0}) (f : Flow) → 0 < n → spend s ≡ Done u s1 → body s1 ≡ Done (seen_flow f) s2 → GoesOn f → test s2 ≡ Done b s3 → b ≡ true → loops_after n test body s ≡ loops_after (n - 1) test body s3
after_turn zero test body s s1 s2 s3 b u f lt e1 e2 h e4 e5 = absurd (omega arith)
after_turn (suc n) test body s s1 s2 s3 b u f lt e1 e2 h e4 e5 =
    let after = λ (v : Bool). choose v (loops_after n test body) (pure meaning.Next) in
    let again = test >>= after in
    ap (λ o. then_do o (λ w. body >>= (λ g. on_loop g again))) e1
    ∙ ap (λ o. then_do o (λ g. on_loop g again)) e2
    ∙ ap (λ p. p s2) (goes_on f again h)
    ∙ ap (λ o. then_do o after) e4
    ∙ ap (λ v. after v s3) e5
    ∙ (let e : n ≡ suc n - 1 = omega arith in ap (λ k. loops_after k test body s3) e)

-- one more declarator
pub declare_starts : (c : Calls) (all : List Declared) (k : ℕ) (d : Declared) (flags : List Bool) (f b : Bool) (s s1 : State) (u : Unit {0}) → k < length all → d ≡ slice_index_or all k d → f ≡ first_flag flags → b ≡ (is_array d.ty || f) →
    begin_object (view_declared d) b s ≡ Done u s1 →
    declare (map view_declared (drop k all)) flags c s ≡ then_do (initialised (view_declared d) (view_declared d).init (view_declared d).list c s1) (λ w. declare (map view_declared (drop (k + 1) all)) (other_flags flags) c)
declare_starts c all k d flags f b s s1 u lt is same block begun =
    let here : drop k all ≡ d ∷ drop (k + 1) all = drop_more all k d lt ∙ ap (λ x. x ∷ drop (k + 1) all) (sym is) in
    let whole : b ≡ (is_array d.ty || first_flag flags) = block ∙ ap (λ x. is_array d.ty || x) same in
    ap (λ l. declare (map view_declared l) flags c s) here
    ∙ ap (λ x. then_do (then_do (begin_object (view_declared d) x s) (λ w. initialised (view_declared d) (view_declared d).init (view_declared d).list c)) (λ w. declare (map view_declared (drop (k + 1) all)) (other_flags flags) c)) (sym whole)
    ∙ ap (λ o. then_do (then_do o (λ w. initialised (view_declared d) (view_declared d).init (view_declared d).list c)) (λ w. declare (map view_declared (drop (k + 1) all)) (other_flags flags) c)) begun

pub declare_more : (c : Calls) (all : List Declared) (k : ℕ) (d : Declared) (flags more : List Bool) (f b : Bool) (s s1 s2 : State) (u w : Unit {0}) → k < length all → d ≡ slice_index_or all k d → f ≡ first_flag flags → b ≡ (is_array d.ty || f) →
    begin_object (view_declared d) b s ≡ Done u s1 → initialised (view_declared d) (view_declared d).init (view_declared d).list c s1 ≡ Done w s2 → more ≡ other_flags flags →
    declare (map view_declared (drop k all)) flags c s ≡ declare (map view_declared (drop (k + 1) all)) more c s2
declare_more c all k d flags more f b s s1 s2 u w lt is same block begun done others =
    declare_starts c all k d flags f b s s1 u lt is same block begun
    ∙ ap (λ o. then_do o (λ x. declare (map view_declared (drop (k + 1) all)) (other_flags flags) c)) done
    ∙ ap (λ l. declare (map view_declared (drop (k + 1) all)) l c s2) (sym others)

pub weights_at : (xs : List Expr) (k : ℕ) (d : Expr) → k < length xs → weight (view (slice_index_or xs k d)) ≤ weights (views xs)
weights_at [] k d h = absurd (omega arith)
weights_at (x ∷ xs) zero d h = omega arith
weights_at (x ∷ xs) (suc k) d h = omega (arith, weights_at xs k d (omega arith))

pub objects_weight_at : (xs : List Declared) (k : ℕ) (d : Declared) → k < length xs → optional_weight (view_declared (slice_index_or xs k d)).init ≤ objects_weight (map view_declared xs)
objects_weight_at [] k d h = absurd (omega arith)
objects_weight_at (x ∷ xs) zero d h = omega arith
objects_weight_at (x ∷ xs) (suc k) d h = omega (arith, objects_weight_at xs k d (omega arith))

pub statements_weight_at : (xs : List Stmt) (k : ℕ) (d : Stmt) → k < length xs → statement_weight (view_stmt (slice_index_or xs k d)) ≤ statements_weight (view_stmts xs)
statements_weight_at [] k d h = absurd (omega arith)
statements_weight_at (x ∷ xs) zero d h = omega arith
statements_weight_at (x ∷ xs) (suc k) d h = omega (arith, statements_weight_at xs k d (omega arith))
