-- What a statement has knows of what follows it only the names that the statement declares.
use Rattle.std.proofs.Common.{◌≡◌, ◌∙◌, ℕ, zero, suc, Bool, true, false, ◌||◌, List, [], ◌∷◌, drop, refl, ap}
use Rattle.std.specs.Cmp.Lexicographic.{bytes_decides}
use Rattle.std.specs.Str.{bytes_eq}
use Rattle.c_tree.specs.declared.statements.Stmt.{Stmt}
use Rattle.c_tree.specs.Tree.{Object, Statement, Optional, Declare, Run, Block, If, While, DoWhile, For, Break, Continue, Return, Empty, Absent, Present}
use Rattle.c_tree.specs.View.{view_stmt, view_stmts}
use Rattle.address_taken.specs.Addressed.{takes_optional, takes_declared, is_declared, declares, declares_first}
use Rattle.address_taken.specs.Marks.{declared_in}
use Rattle.address_taken.specs.Taken.{TakenTrees, Objects, Part, taken_objects, taken_statement, taken_optional}

or_true : (a b : Bool) → b ≡ true → (a || b) ≡ true
or_true true b e = refl
or_true false b e = e

objects_head : (d : Object) (rest : List Object) (f g : List ℕ → Bool) → f d.name ≡ g d.name →
    ◌≡◌ {A = List Bool} ((takes_optional d.name d.init || (takes_declared d.name rest || f d.name)) ∷ taken_objects rest f) ((takes_optional d.name d.init || (takes_declared d.name rest || g d.name)) ∷ taken_objects rest f)
objects_head d rest f g e = ap (λ b. (takes_optional d.name d.init || (takes_declared d.name rest || b)) ∷ taken_objects rest f) e

pub objects_agree : (ds : List Object) (f g : List ℕ → Bool) → ((x : List ℕ) → is_declared x ds ≡ true → f x ≡ g x) → taken_objects ds f ≡ taken_objects ds g
objects_agree [] f g h = refl
objects_agree (d ∷ rest) f g h =
    objects_head d rest f g (h d.name (ap (λ t. t || is_declared d.name rest) ((bytes_decides d.name d.name).1 refl)))
    ∙ ap (λ bs. (takes_optional d.name d.init || (takes_declared d.name rest || g d.name)) ∷ bs) (objects_agree rest f g (λ x p. h x (or_true (bytes_eq x d.name) (is_declared x rest) p)))

pub statement_agrees : (s : Statement) (f g : List ℕ → Bool) → ((x : List ℕ) → declares x s ≡ true → f x ≡ g x) → taken_statement s f ≡ taken_statement s g
statement_agrees (Declare all) f g h = ap Objects (objects_agree all f g h)
statement_agrees (Run e) f g h = refl
statement_agrees (Block all) f g h = refl
statement_agrees (If c s o) f g h = refl
statement_agrees (While c s) f g h = refl
statement_agrees (DoWhile s c) f g h = refl
statement_agrees (For i c n s) f g h = refl
statement_agrees (Break p) f g h = refl
statement_agrees (Continue p) f g h = refl
statement_agrees (Return p e) f g h = refl
statement_agrees Empty f g h = refl

pub optional_agrees : (o : Optional) (f g : List ℕ → Bool) (more : TakenTrees) → ((x : List ℕ) → declares_first x o ≡ true → f x ≡ g x) → taken_optional o f more ≡ taken_optional o g more
optional_agrees Absent f g more h = refl
optional_agrees (Present s) f g more h = ap (λ t. Part t more) (statement_agrees s f g h)

-- what a later statement declares
pub declared_later : (n : ℕ) (all : List Stmt) (x : List ℕ) → declared_in x (view_stmts (drop n all)) ≡ true → declared_in x (view_stmts all) ≡ true
declared_later zero all x h = h
declared_later (suc n) [] x h = h
declared_later (suc n) (s ∷ all) x h = or_true (declares x (view_stmt s)) (declared_in x (view_stmts all)) (declared_later n all x h)

pub declared_at : (n : ℕ) (all rest : List Stmt) (s : Stmt) (x : List ℕ) → drop n all ≡ s ∷ rest → declares x (view_stmt s) ≡ true → declared_in x (view_stmts all) ≡ true
declared_at n all rest s x here h = declared_later n all x (ap (λ l. declared_in x (view_stmts l)) here ∙ ap (λ t. t || declared_in x (view_stmts rest)) h)
