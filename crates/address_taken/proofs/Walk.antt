-- A turn of each walk from the end, and what stands at the end of a scope.
use Rattle.std.proofs.Common.{◌≡◌, ◌∙◌, ℕ, zero, suc, slice_index_or, option_map, Option, Some, None, Box, Bool, true, false, not, ◌&&◌, ◌||◌, List, [], ◌∷◌, ◌++◌, map, drop, reverse, Vec, Result, Ok, Err, OnOk, refl, sym, ap, rules}
use Rattle.std.proofs.lemmas.List.{map-append, reverse-append}
use Rattle.std.specs.declared.alloc.Global.{Global}
use Rattle.std.specs.Str.{bytes_eq}
use Rattle.c_tree.specs.declared.expressions.Expr.{Expr}
use Rattle.c_tree.specs.declared.statements.Declared.{Declared}
use Rattle.c_tree.specs.declared.expressions.ExprKind.{the_lemmas as kind_lemmas}
use Rattle.c_tree.specs.declared.expressions.ExprKind.TheVariants as Kinds
use Rattle.c_tree.specs.declared.statements.Stmt.{Stmt, the_lemmas as stmt_lemmas}
use Rattle.c_tree.specs.declared.statements.Stmt.TheVariants as Forms
use Rattle.c_tree.specs.Tree.{Tree, Object, Statement, Statements, Optional, Choice, If, While, DoWhile, For}
use Rattle.c_tree.specs.View.{view, view_kind, view_declared, view_stmt, view_stmts, view_optional}
use Rattle.address_taken.specs.Addressed.{takes_optional, takes_declared, is_declared, declares, declares_first, takes_statement, takes_maybe, takes_statements}
use Rattle.address_taken.specs.Marks.{is_among, declared_in}
use Rattle.address_taken.specs.declared.taken.Taken.{Taken, the_lemmas}
use Rattle.address_taken.specs.declared.taken.Taken.TheVariants as Form
use Rattle.address_taken.specs.Taken.{TakenTree, TakenTrees, Parts, NoParts, Part, FunctionTaken, no_more, taken_objects, taken_statement, taken_optional, taken_statements, and_parts, seen, seen_all}
use Rattle.address_taken.proofs.Truth.{row_step, object_step, object_answer, settled, back, back_around, three, or_false, beside}
use Rattle.address_taken.proofs.Agree.{statement_agrees, optional_agrees, declared_at}

abbrev pub Marked : Type 0
Marked = List ℕ → Bool

pub on_ok : {A E : Type 0} {P Q : Type 0} (r : Result A E) → (P → Q) → OnOk r P → OnOk r Q
on_ok (Ok a) f h = f h
on_ok (Err e) f h = tt

pub always_ok : {A E : Type 0} {P : Type 0} (r : Result A E) → P → OnOk r P
always_ok (Ok a) h = h
always_ok (Err e) h = tt

-- what is marked before declarators, where l is marked behind them
abbrev pub before_objects : List Declared → Marked → Marked
before_objects ds l x = takes_declared x (map view_declared ds) || (not (is_declared x (map view_declared ds)) && l x)

abbrev pub before_statements : List Stmt → Marked → Marked
before_statements ss l x = takes_statements x (view_stmts ss) || (not (declared_in x (view_stmts ss)) && l x)

pub object_marks : (all rest : List Declared) (d : Declared) (l f g : Marked) → all ≡ d ∷ rest → ((x : List ℕ) → f x ≡ before_objects rest l x) →
    ((x : List ℕ) → g x ≡ (not (bytes_eq x (view_declared d).name) && (takes_optional x (view_declared d).init || f x))) → (x : List ℕ) → g x ≡ before_objects all l x
object_marks all rest d l f g here was step x =
    step x ∙ ap (λ b. not (bytes_eq x (view_declared d).name) && (takes_optional x (view_declared d).init || b)) (was x)
    ∙ object_step (bytes_eq x (view_declared d).name) (takes_optional x (view_declared d).init) (takes_declared x (map view_declared rest)) (is_declared x (map view_declared rest)) (l x)
    ∙ ap (λ ds. before_objects ds l x) (sym here)

one_object : (d : Declared) (rest : List Declared) (l f : Marked) (b later : Bool) → ((x : List ℕ) → f x ≡ before_objects rest l x) → later ≡ l (view_declared d).name →
    b ≡ ((takes_optional (view_declared d).name (view_declared d).init || f (view_declared d).name) || later) →
    b ≡ (takes_optional (view_declared d).name (view_declared d).init || (takes_declared (view_declared d).name (map view_declared rest) || l (view_declared d).name))
one_object d rest l f b later was e h =
    let n = (view_declared d).name in let o = takes_optional (view_declared d).name (view_declared d).init in
    h ∙ ap (λ t. (o || f n) || t) e ∙ ap (λ t. (o || t) || l n) (was n)
    ∙ object_answer o (takes_declared n (map view_declared rest)) (is_declared n (map view_declared rest)) (l n)

pub object_answers : (all rest : List Declared) (d : Declared) (l f : Marked) (b later : Bool) (out new : List Bool) → all ≡ d ∷ rest → ((x : List ℕ) → f x ≡ before_objects rest l x) →
    later ≡ l (view_declared d).name → b ≡ ((takes_optional (view_declared d).name (view_declared d).init || f (view_declared d).name) || later) → new ≡ out ++ b ∷ [] →
    reverse out ≡ taken_objects (map view_declared rest) l → reverse new ≡ taken_objects (map view_declared all) l
object_answers all rest d l f b later out new here was e h grown done =
    ap reverse grown ∙ reverse-append out (b ∷ []) ∙ ap (λ bs. b ∷ bs) done
    ∙ ap (λ t. t ∷ taken_objects (map view_declared rest) l) (one_object d rest l f b later was e h)
    ∙ ap (λ ds. taken_objects (map view_declared ds) l) (sym here)

pub statement_marks : (all rest : List Stmt) (s : Stmt) (l f g : Marked) → all ≡ s ∷ rest → ((x : List ℕ) → f x ≡ before_statements rest l x) →
    ((x : List ℕ) → g x ≡ (takes_statement x (view_stmt s) || (not (declares x (view_stmt s)) && f x))) → (x : List ℕ) → g x ≡ before_statements all l x
statement_marks all rest s l f g here was step x =
    step x ∙ ap (λ b. takes_statement x (view_stmt s) || (not (declares x (view_stmt s)) && b)) (was x)
    ∙ row_step (takes_statement x (view_stmt s)) (declares x (view_stmt s)) (takes_statements x (view_stmts rest)) (declared_in x (view_stmts rest)) (l x)
    ∙ ap (λ ss. before_statements ss l x) (sym here)

one_statement : (n : ℕ) (all rest : List Stmt) (s : Stmt) (l f : Marked) (t : TakenTree) → drop n all ≡ s ∷ rest →
    ((x : List ℕ) → declared_in x (view_stmts all) ≡ true → l x ≡ false) → ((x : List ℕ) → f x ≡ before_statements rest l x) → t ≡ taken_statement (view_stmt s) f →
    t ≡ taken_statement (view_stmt s) (λ x. takes_statements x (view_stmts rest))
one_statement n all rest s l f t here none was made =
    made ∙ statement_agrees (view_stmt s) f (λ x. takes_statements x (view_stmts rest))
    (λ x p. was x ∙ settled (takes_statements x (view_stmts rest)) (declared_in x (view_stmts rest)) (l x) (none x (declared_at n all rest s x here p)))

pub statement_answers : (n : ℕ) (all rest : List Stmt) (s : Stmt) (l f : Marked) (t : Taken) (out new : List Taken) → drop n all ≡ s ∷ rest →
    ((x : List ℕ) → declared_in x (view_stmts all) ≡ true → l x ≡ false) → ((x : List ℕ) → f x ≡ before_statements rest l x) → seen t ≡ taken_statement (view_stmt s) f →
    new ≡ out ++ t ∷ [] → seen_all (reverse out) ≡ taken_statements (view_stmts rest) → seen_all (reverse new) ≡ taken_statements (view_stmts (drop n all))
statement_answers n all rest s l f t out new here none was made grown done =
    ap (λ ts. seen_all (reverse ts)) grown ∙ ap seen_all (reverse-append out (t ∷ [])) ∙ ap (λ ts. Part (seen t) ts) done
    ∙ ap (λ u. Part u (taken_statements (view_stmts rest))) (one_statement n all rest s l f (seen t) here none was made)
    ∙ ap (λ ss. taken_statements (view_stmts ss)) (sym here)

-- a scope with the names u of which it takes an address and the names d that it declares
pub scope_marks : (u d f g h k : Marked) (hidden none : List (List ℕ)) → none ≡ [] → ((x : List ℕ) → g x ≡ (not (d x) && f x)) →
    ((x : List ℕ) → (g x || is_among x hidden) ≡ (f x || is_among x none)) → ((x : List ℕ) → h x ≡ (u x || (not (d x) && g x))) →
    ((x : List ℕ) → k x ≡ (is_among x hidden || h x)) → (x : List ℕ) → k x ≡ (u x || f x)
scope_marks u d f g h k hidden none empty hid kept walked put x =
    put x ∙ ap (λ b. is_among x hidden || b) (walked x) ∙ ap (λ b. is_among x hidden || (u x || (not (d x) && b))) (hid x)
    ∙ back (u x) (d x) (is_among x hidden) (f x) (ap (λ b. b || is_among x hidden) (sym (hid x)) ∙ kept x ∙ ap (λ l. f x || is_among x l) empty)

pub around_marks : (u d f g h k l : Marked) (hidden none : List (List ℕ)) → none ≡ [] → ((x : List ℕ) → g x ≡ (not (d x) && f x)) →
    ((x : List ℕ) → (g x || is_among x hidden) ≡ (f x || is_among x none)) → ((x : List ℕ) → h x ≡ (u x || (not (d x) && (l x || g x)))) →
    ((x : List ℕ) → k x ≡ (is_among x hidden || h x)) → (x : List ℕ) → k x ≡ ((u x || (not (d x) && l x)) || f x)
around_marks u d f g h k l hidden none empty hid kept walked put x =
    put x ∙ ap (λ b. is_among x hidden || b) (walked x) ∙ ap (λ b. is_among x hidden || (u x || (not (d x) && (l x || b)))) (hid x)
    ∙ back_around (u x) (d x) (is_among x hidden) (f x) (l x) (ap (λ b. b || is_among x hidden) (sym (hid x)) ∙ kept x ∙ ap (λ ns. f x || is_among x ns) empty)

-- what a scope hides isn't marked in it
pub hidden_is_none : (d f g : Marked) → ((x : List ℕ) → g x ≡ (not (d x) && f x)) → (x : List ℕ) → d x ≡ true → g x ≡ false
hidden_is_none d f g hid x p = hid x ∙ ap (λ b. not b && f x) p

-- parts that grow by one
pub and_parts-append : (all : List TakenTree) (t : TakenTree) (more : TakenTrees) → and_parts (all ++ t ∷ []) more ≡ and_parts all (Part t more)
and_parts-append [] t more = refl
and_parts-append (u ∷ all) t more = ap (Part u) (and_parts-append all t more)

one_more : (all : List Taken) (t : Taken) (more : TakenTrees) → and_parts (map seen (all ++ t ∷ [])) more ≡ and_parts (map seen all) (Part (seen t) more)
one_more all t more = ap (λ l. and_parts l more) (map-append seen all (t ∷ [])) ∙ and_parts-append (map seen all) (seen t) more

pub seen_parts : (v : Vec Taken Global) → seen (Form.Parts v) ≡ Parts (seen_all v.items)
seen_parts v = search (rules, the_lemmas)

pub parts_and : (v w : Vec Taken Global) (t : Taken) → w.items ≡ v.items ++ t ∷ [] → seen (Form.Parts w) ≡ Parts (and_parts (map seen v.items) (Part (seen t) NoParts))
parts_and v w t grown = seen_parts w ∙ ap (λ l. Parts (seen_all l)) grown ∙ ap Parts (one_more v.items t NoParts)

pub part_and : (v w : Vec Taken Global) (t : Taken) → w.items ≡ t ∷ v.items → seen (Form.Parts w) ≡ Parts (Part (seen t) (seen_all v.items))
part_and v w t grown = seen_parts w ∙ ap (λ l. Parts (seen_all l)) grown

-- the parameters, where what is marked is what the body takes
pub parameters : (ds : List Object) (body : Statements) (f l : Marked) → ((x : List ℕ) → l x ≡ false) → ((x : List ℕ) → f x ≡ (takes_statements x body || (not (declared_in x body) && l x))) →
    map (λ d. f d.name) ds ≡ map (λ d. takes_statements d.name body) ds
parameters [] body f l none was = refl
parameters (d ∷ ds) body f l none was =
    ap (λ b. b ∷ map (λ e. f e.name) ds) (was d.name ∙ settled (takes_statements d.name body) (declared_in d.name body) (l d.name) (none d.name))
    ∙ ap (λ bs. takes_statements d.name body ∷ bs) (parameters ds body f l none was)

-- what was marked of an object before its declaration
later_at : (n : ℕ) (m : Marked) (all rest : List Declared) (d : Declared) (e : Bool) → drop n all ≡ d ∷ rest → slice_index_or (map (λ o. m o.name) (map view_declared all)) n e ≡ m (view_declared d).name
later_at zero m [] rest d e h = absurd (cc)
later_at zero m (a ∷ all) rest d e h = ap (λ l. m (view_declared (slice_index_or l zero a)).name) h
later_at (suc n) m [] rest d e h = absurd (cc)
later_at (suc n) m (a ∷ all) rest d e h = later_at n m all rest d e h

pub later_is : (n : ℕ) (m : Marked) (all rest : List Declared) (d : Declared) (ls : List Bool) (b e : Bool) → drop n all ≡ d ∷ rest → ls ≡ map (λ o. m o.name) (map view_declared all) →
    b ≡ slice_index_or ls n e → b ≡ m (view_declared d).name
later_is n m all rest d ls b e here made read = read ∙ ap (λ l. slice_index_or l n e) made ∙ later_at n m all rest d e here

-- the statement that the code's is
pub statement_marked : (alone : Bool) (now : Stmt) (s : Statement) (f k : Marked) → view_stmt now ≡ s → ((x : List ℕ) → declares x s ≡ false) →
    ((x : List ℕ) → k x ≡ (takes_statement x s || f x)) → (x : List ℕ) → k x ≡ (takes_statement x (view_stmt now) || (not (not alone && declares x (view_stmt now)) && f x))
statement_marked alone now s f k seen none h x =
    beside alone (declares x s) (takes_statement x s) (f x) (k x) (none x) (h x) ∙ ap (λ t. takes_statement x t || (not (not alone && declares x t) && f x)) (sym seen)

-- what follows the start of a loop
abbrev pub in_loop : Option Tree → Option Tree → Statement → Marked
in_loop c n s x = takes_optional x c || (takes_optional x n || takes_statement x s)

pub loop_marks : (c n : Option Tree) (s : Statement) (g p q r : Marked) → ((x : List ℕ) → p x ≡ (takes_statement x s || g x)) → ((x : List ℕ) → q x ≡ (takes_optional x n || p x)) →
    ((x : List ℕ) → r x ≡ (takes_optional x c || q x)) → (x : List ℕ) → r x ≡ (in_loop c n s x || g x)
loop_marks c n s g p q r body step condition x = three (takes_optional x n) (takes_statement x s) (takes_optional x c) (g x) (p x) (q x) (r x) (body x) (step x) (condition x)

pub for_marks : (i : Optional) (c n : Option Tree) (s : Statement) (hidden back none : List (List ℕ)) (f g r h k : Marked) → back ≡ hidden → none ≡ [] →
    ((x : List ℕ) → g x ≡ (not (declares_first x i) && f x)) → ((x : List ℕ) → (g x || is_among x hidden) ≡ (f x || is_among x none)) →
    ((x : List ℕ) → r x ≡ (in_loop c n s x || g x)) → ((x : List ℕ) → h x ≡ (takes_maybe x i || (not (declares_first x i) && r x))) →
    ((x : List ℕ) → k x ≡ (is_among x back || h x)) → (x : List ℕ) → k x ≡ (takes_statement x (For i c n s) || f x)
for_marks i c n s hidden back none f g r h k again empty hid kept loop walked put x =
    around_marks (λ y. takes_maybe y i) (λ y. declares_first y i) f g h k (in_loop c n s) hidden none empty hid kept
    (λ y. walked y ∙ ap (λ b. takes_maybe y i || (not (declares_first y i) && b)) (loop y)) (λ y. put y ∙ ap (λ l. is_among y l || h y) again) x

pub for_answer : (i : Optional) (c n : Option Tree) (s : Statement) (f g r later : Marked) (parts : List TakenTree) (part : TakenTree) →
    ((x : List ℕ) → g x ≡ (not (declares_first x i) && f x)) → ((x : List ℕ) → r x ≡ (in_loop c n s x || g x)) →
    ((more : TakenTrees) → and_parts parts more ≡ taken_optional i r more) → part ≡ taken_statement s no_more →
    Parts (and_parts parts (Part part NoParts)) ≡ taken_statement (For i c n s) later
for_answer i c n s f g r later parts part hid loop first body =
    ap Parts (first (Part part NoParts)
    ∙ optional_agrees i r (in_loop c n s) (Part part NoParts) (λ x p. loop x ∙ or_false (in_loop c n s x) (g x) (hidden_is_none (λ y. declares_first y i) f g hid x p)))
    ∙ ap (λ t. Parts (taken_optional i (in_loop c n s) (Part t NoParts))) body

pub function_taken : (p q : List Bool) (b c : TakenTrees) → p ≡ q → b ≡ c → ◌≡◌ {A = FunctionTaken} (record { params = p; body = b }) (record { params = q; body = c })
function_taken p q b c e f = ap {B = FunctionTaken} (λ l. record { params = l; body = b }) e ∙ ap {B = FunctionTaken} (λ t. record { params = q; body = t }) f

-- the code's forms
pub view_choice : (c a b : Expr) → view_kind (Kinds.Choice c a b) ≡ Choice (view c) (view a) (view b)
view_choice c a b = search (rules, kind_lemmas)

pub view_if : (c : Expr) (s : Box Stmt Global) (o : Option (Box Stmt Global)) → view_stmt (Forms.If c s o) ≡ If (view c) (view_stmt s.value) (view_optional o)
view_if c s None = search (rules, stmt_lemmas)
view_if c s (Some o) = search (rules, stmt_lemmas)

pub view_while : (c : Expr) (s : Box Stmt Global) → view_stmt (Forms.While c s) ≡ While (view c) (view_stmt s.value)
view_while c s = search (rules, stmt_lemmas)

pub view_do_while : (s : Box Stmt Global) (c : Expr) → view_stmt (Forms.DoWhile s c) ≡ DoWhile (view_stmt s.value) (view c)
view_do_while s c = search (rules, stmt_lemmas)

pub view_for : (i : Option (Box Stmt Global)) (c n : Option Expr) (s : Box Stmt Global) →
    view_stmt (Forms.For i c n s) ≡ For (view_optional i) (option_map view c) (option_map view n) (view_stmt s.value)
view_for None c n s = search (rules, stmt_lemmas)
view_for (Some i) c n s = search (rules, stmt_lemmas)
