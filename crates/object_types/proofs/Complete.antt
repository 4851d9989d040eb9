-- A declared object that is typed by the rules passes the check.
use Rattle.std.proofs.Common.{◌≡◌, ◌∙◌, ◌↔◌, ℕ, ◌+◌, ◌≤◌, ◌<◌, ◌⊎◌, inl, inr, Bool, true, false, not, if◌then◌else◌, nat_eq, List, Option, Some, None, Ok, Err, refl, sym, ap, subst, arith}
use Rattle.std.proofs.lemmas.Bool.{lt-ltb, ne_eqb}
use Rattle.c_text.specs.declared.tokens.Place.{Place}
use Rattle.lane_core.specs.declared.number.IntType.{IntType}
use Rattle.lane_core.specs.declared.vector.Pointee.TheVariants as target
use Rattle.c_tree.specs.declared.types.CType.{CType}
use Rattle.c_tree.specs.declared.types.CType.TheVariants.{Int, Array}
use Rattle.c_tree.specs.Tree.{Tree, Trees, NoTrees, More, Object}
use Rattle.c_tree.specs.Nodes.{node_type}
use Rattle.type_rules.specs.Types.{read_type, is_integer, is_zero, converted, assigned, is_assignable}
use Rattle.type_rules.specs.Rules.{Assigned}
use Rattle.scopes.specs.Scopes.{Env}
use Rattle.expression_types.specs.Check.{◌>>=◌, Checked, check}
use Rattle.expression_types.specs.Typed.{Typed}
use Rattle.object_types.specs.Objects.{Length, new_name, alignment, small, is_room, member, members, count_all, is_open, is_no_trees, length_of, aligned, small_once, counted, start, number_of, declared_type, behind_declarator, behind_name, check_object}
use Rattle.object_types.specs.Typed as t
use Rattle.object_types.specs.Typed.{IsOpen, IsSmall, MayDeclare, TypedLength, DeclaredType, PowerOfTwo, TypedAlignment, TypedMember, TypedMembers, Begins, TypedObject}
use Rattle.object_types.proofs.ObjectTests.{object-holds, void-pointer-holds, count-holds, small-holds, open-holds, closed-holds, alignment-holds, declared-holds}

-- one answer after another
go_on : {A B : Type 0} (r : Checked A) (f : A → Checked B) (x : A) (y : B) → r ≡ Ok x → f x ≡ Ok y → (r >>= f) ≡ Ok y
go_on r f x y e g = ap (λ z. z >>= f) e ∙ g

-- the first of two answers may be of two itself
front : {A B C : Type 0} (r : Checked A) (f : A → Checked B) (g : B → Checked C) (x : B) (y : C) → (r >>= f) ≡ Ok x → g x ≡ Ok y → (r >>= λ a. f a >>= g) ≡ Ok y
front (Ok a) f g x y e h = ap (λ z. z >>= g) e ∙ h
front (Err r) f g x y e h = cc

is_room-holds : (n : Option ℕ) (i : ℕ) → ((k : ℕ) → n ≡ Some k → i < k) → is_room i n ≡ true
is_room-holds (Some k) i h = lt-ltb i k (h k refl)
is_room-holds None i h = refl

-- the parts behind a name, of a type that the declarator gives
abbrev behind : Object → Option Tree → Env → Length → CType → Checked Object
behind d a env l u =
    small_once (not (is_open u)) d.name d.place u >>= λ _.
    aligned (not d.align_first) a (behind_declarator d.name d.constant u env) >>= λ b.
    start d.name d.place u d.init d.list (behind_declarator d.name d.constant u env) >>= λ s.
    Ok (record { place = d.place; name = d.name; ty = s.ty; length = l.expression; constant = d.constant; align = b; align_first = d.align_first; init = s.init; list = s.list })

name-holds : (x : List ℕ) (p : Place) (u : CType) (env : Env) → MayDeclare env x u → new_name x p u env ≡ Ok true
name-holds x p u env m = rw (m.unreserved, m.undeclared, object-holds u m.object, void-pointer-holds u m.admitted) refl

small-passes : (x : List ℕ) (p : Place) (u : CType) → IsSmall u → small x p u ≡ Ok true
small-passes x p u h = rw (small-holds u h) refl

once-holds : (x : List ℕ) (p : Place) (u : CType) → IsOpen u ⊎ IsSmall u → small_once (not (is_open u)) x p u ≡ Ok true
once-holds x p u (inl h) = rw (open-holds u h) refl
once-holds x p u (inr h) = by (is_open u)
  where
    by : (b : Bool) → small_once (not b) x p u ≡ Ok true
    by true = refl
    by false = small-passes x p u h

-- an alignment passes where it stands, before the name or behind it
record Aligned (first : Bool) (m : Option Tree) (env inner : Env) (b : Option Tree) : Type 0 where
  between : Option Tree
  before : aligned first m env ≡ Ok between
  behind : aligned (not first) between inner ≡ Ok b

-- an integer alone is given to an integer
integer-alone : (z : Bool) (u : CType) (s : IntType) → is_assignable z u (Int s) ≡ true → is_integer u ≡ true
integer-alone z (Int x) s h = refl
integer-alone z _ s h = cc

held : {A : Type 0} (b : Bool) (x v : A) → (if b then Some x else None) ≡ Some v → (b ≡ true) × (x ≡ v)
held true x v h = let e : x ≡ v = cc in (refl, e)
held false x v h = cc

-- a count of members
positive : (n : ℕ) → 1 ≤ n → nat_eq n 0 ≡ false
positive n h = ne_eqb n 0 (λ e. (let no : 1 ≤ 0 = subst (λ k. 1 ≤ k) e h in omega (arith, no)))

some_trees : (all : Trees) → 1 ≤ count_all all → is_no_trees all ≡ false
some_trees NoTrees h = absurd (omega (arith, h))
some_trees (More a rest) h = refl

-- what a list of members makes of an array
closed-list : (x : List ℕ) (p : Place) (s : IntType) (n : ℕ) (c : Bool) (all : Trees) → 1 ≤ n → is_no_trees all ≡ false →
    counted x p (Array (target.Int s) n c) all ≡ Ok (record { init = None; list = Some all; ty = Array (target.Int s) n c })
closed-list x p s n c all h k = rw (k, positive n h) refl

open-list : (x : List ℕ) (p : Place) (s : IntType) (c : Bool) (all : Trees) → is_no_trees all ≡ false → IsSmall (Array (target.Int s) (count_all all) c) →
    counted x p (Array (target.Int s) 0 c) all ≡ Ok (record { init = None; list = Some all; ty = Array (target.Int s) (count_all all) c })
open-list x p s c all k h = rw (k, small-passes x p (Array (target.Int s) (count_all all) c) h) refl

module _ (types : (env : Env) (u v : Tree) → (check u env ≡ Ok v) ↔ Typed env u v) (gives : (u : CType) (a v : Tree) → (assigned u a ≡ Some v) ↔ Assigned a u v) where
  length-holds : (m : Option Tree) (env : Env) (l : Option Tree) (n : Option ℕ) → TypedLength env m l n → length_of m env ≡ Ok (record { expression = l; number = n })
  length-holds m env l n t.unwritten = refl
  length-holds m env l n (t.written a a' k j x e w b) = rw ((types env a a').1 x, e, w, count-holds j b) refl

  power-holds : (a : Tree) (env : Env) (v : Tree) → PowerOfTwo env a v → alignment a env ≡ Ok v
  power-holds a env v (t.power_of_two b c n x e w) = rw ((types env b c).1 x, e, alignment-holds n.value w) refl

  aligned-holds : (first : Bool) (m : Option Tree) (env inner : Env) (b : Option Tree) → TypedAlignment env inner first m b → Aligned first m env inner b
  aligned-holds first m env inner b (t.unwritten z) = record { between = None; before = refl; behind = refl }
  aligned-holds first m env inner b (t.among_specifiers a v w) = record { between = Some v; before = rw (power-holds a env v w) refl; behind = refl }
  aligned-holds first m env inner b (t.behind_name a v w) = record { between = Some a; before = refl; behind = rw (power-holds a inner v w) refl }

  -- members
  given-integer : (s : IntType) (a b : Tree) → Assigned a (Int s) b → (is_integer (node_type a) ≡ true) × (converted (Int s) a ≡ b)
  given-integer s a b h =
      let q = held (is_assignable (is_zero a) (node_type a) (Int s)) (converted (Int s) a) b ((gives (Int s) a b).1 h) in
      (integer-alone (is_zero a) (node_type a) s q.0, q.1)

  member-holds : (s : IntType) (room : Bool) (a b : Tree) (env : Env) → room ≡ true → TypedMember env s a b → (check a env >>= λ v. member (Int s) room v) ≡ Ok b
  member-holds s room a b env r (t.member c a' d n x e g) =
      let q = given-integer s a' d g in
      rw ((types env c a').1 x, r, q.0, e, q.1) refl

  -- there is room for i + m members where there are at least so many elements, or where that isn't known
  members-hold : (env : Env) (s : IntType) (n : Option ℕ) (i : ℕ) (all v : Trees) → ((k : ℕ) → n ≡ Some k → i + count_all all ≤ k) → TypedMembers env s all v → members (Int s) n i all env ≡ Ok v
  members-hold env s n i all v room t.none = refl
  members-hold env s n i all v room (t.more a b rest more x y) =
      let here = is_room-holds n i (λ k e. (let fit = room k e in omega (arith, fit))) in
      let first = member-holds s (is_room i n) a b env here x in
      let others = members-hold env s n (i + 1) rest more (λ k e. (let fit = room k e in omega (arith, fit))) y in
      front (check a env) (λ w. member (Int s) (is_room i n) w) _ b (More b more) first (rw others refl)

  same-count : (env : Env) (s : IntType) (all v : Trees) → TypedMembers env s all v → count_all all ≡ count_all v
  same-count env s all v t.none = refl
  same-count env s all v (t.more a b rest more x y) = ap (λ k. k + 1) (same-count env s rest more y)

  begins-hold : (x : List ℕ) (p : Place) (u : CType) (init : Option Tree) (list : Option Trees) (env : Env) (w : CType) (i : Option Tree) (l : Option Trees) → Begins env u init list i l w →
      start x p u init list env ≡ Ok (record { init = i; list = l; ty = w })
  begins-hold x p u init list env w i l (t.nothing v h) = rw (closed-holds v h) refl
  begins-hold x p u init list env w i l (t.value v a a' b e g) = rw ((types env a a').1 e, (gives v a' b).1 g) refl
  begins-hold x p u init list env w i l (t.members s n c all rest e some room) =
      let least : 1 ≤ n = omega (arith, some, room) in
      let passes = members-hold env s (Some n) 0 all rest (λ k e. (let q : n ≡ k = cc in omega (arith, q, room))) e in
      let known : number_of (Array (target.Int s) n c) ≡ Some n = rw (positive n least) refl in
      go_on (members (Int s) (number_of (Array (target.Int s) n c)) 0 all env) _ rest _ (rw known passes)
      (closed-list x p s n c rest least (some_trees rest (subst (λ k. 1 ≤ k) (same-count env s all rest e) some)))
  begins-hold x p u init list env w i l (t.members_of_open s c all rest e some fits) =
      let same = same-count env s all rest e in
      let passes = members-hold env s None 0 all rest (λ k e. cc) e in
      go_on (members (Int s) None 0 all env) _ rest _ passes
      (open-list x p s c rest (some_trees rest (subst (λ k. 1 ≤ k) same some)) (subst (λ k. IsSmall (Array (target.Int s) k c)) same fits) ∙ ap (λ k. Ok (record { init = None; list = Some rest; ty = Array (target.Int s) k c })) (sym same))

  -- what stands behind the name, where the declarator gives the type u
  behind-holds : (env : Env) (e : Object) (l : Length) (a align init : Option Tree) (list : Option Trees) (u w : CType) → declared_type l.number e.ty env ≡ u → IsOpen u ⊎ IsSmall u →
      aligned (not e.align_first) a (behind_declarator e.name e.constant u env) ≡ Ok align → Begins (behind_declarator e.name e.constant u env) u e.init e.list init list w →
      behind_name e a env l ≡ Ok (record { place = e.place; name = e.name; ty = w; length = l.expression; constant = e.constant; align = align; align_first = e.align_first; init = init; list = list })
  behind-holds env e l a align init list u w s z g r =
      let inner = behind_declarator e.name e.constant u env in
      ap (behind e a env l) s ∙
      go_on (small_once (not (is_open u)) e.name e.place u) _ true _ (once-holds e.name e.place u z)
      (go_on (aligned (not e.align_first) a inner) _ align _ g
      (go_on (start e.name e.place u e.init e.list inner) _ (record { init = init; list = list; ty = w }) _ (begins-hold e.name e.place u e.init e.list inner w init list r) refl))

  pub complete : (env : Env) (d v : Object) → TypedObject env d v → check_object d env ≡ Ok v
  complete env d v (t.declared e length n u w align init list m k s z g r) =
      let a = aligned-holds e.align_first e.align env (behind_declarator e.name e.constant u env) align g in
      go_on (aligned e.align_first e.align env) _ a.between _ a.before
      (go_on (new_name e.name e.place (read_type env.dialect e.ty) env) _ true _ (name-holds e.name e.place (read_type env.dialect e.ty) env m)
      (go_on (length_of e.length env) _ (record { expression = length; number = n }) _ (length-holds e.length env length n k)
      (behind-holds env e (record { expression = length; number = n }) a.between align init list u w (declared-holds (read_type env.dialect e.ty) n u s) z a.behind r)))
