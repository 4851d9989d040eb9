-- A declared object that passes the check is typed by the rules.
use Rattle.std.proofs.Common.{◌≡◌, ◌∙◌, ◌↔◌, ℕ, ◌+◌, ◌≤◌, ◌⊎◌, inl, inr, Bool, true, false, not, ◌&&◌, if◌then◌else◌, nat_eq, is_some, List, Option, Some, None, Ok, Err, pos, int_le, unsigned_abs, refl, sym, ap, subst, arith}
use Rattle.std.proofs.lemmas.Bool.{eqb-true, ltb-true}
use Rattle.c_text.specs.declared.tokens.Place.{Place}
use Rattle.c_text.specs.declared.refusals.Refusal.{Refusal}
use Rattle.lane_core.specs.declared.number.IntType.{IntType}
use Rattle.lane_core.specs.declared.number.Num.{Num}
use Rattle.lane_core.specs.declared.vector.Pointee.TheVariants as target
use Rattle.const_imm.specs.Constant.{value_of}
use Rattle.const_imm.specs.Sizes.{size_of}
use Rattle.c_tree.specs.declared.types.CType.{CType}
use Rattle.c_tree.specs.declared.types.CType.TheVariants.{Void, Int, Array}
use Rattle.c_tree.specs.Tree.{Tree, Trees, NoTrees, More, Object}
use Rattle.c_tree.specs.Nodes.{node_type}
use Rattle.type_rules.specs.Types.{read_type, is_integer, is_zero, is_void_pointer, converted, assigned, is_assignable}
use Rattle.type_rules.specs.Rules.{Assigned}
use Rattle.scopes.specs.Scopes.{Env, named, is_declared_here}
use Rattle.c_tree.specs.Marks.{short}
use Rattle.expression_types.specs.Check.{◌>>=◌, Checked, refuse, check}
use Rattle.expression_types.specs.Typed.{Typed}
use Rattle.object_types.specs.Reserved.{is_reserved}
use Rattle.object_types.specs.Objects.{Length, Start, is_object_type, new_name, count_of, is_alignment, alignment_of, alignment, is_small, small, is_room, is_member, member, members, count_all, is_open, with_number, number_of, length_of, aligned, closed_type, small_once, value_fits, is_no_trees, start, declared_type, behind_declarator, check_object}
use Rattle.object_types.specs.Typed as t
use Rattle.object_types.specs.Typed.{IsOpen, IsSmall, MayDeclare, TypedLength, PowerOfTwo, TypedAlignment, TypedMember, TypedMembers, Begins, TypedObject}
use Rattle.object_types.proofs.ObjectTests.{both, unnegated, absent, object-says, void-pointer-says, count-says, size-says, open-says, closed-says, alignment-says, declared-says}

-- an answer that comes after another
record After {A B : Type 0} (r : Checked A) (f : A → Checked B) (y : B) : Type 0 where
  first : A
  gives : r ≡ Ok first
  goes : f first ≡ Ok y

after : {A B : Type 0} (r : Checked A) (f : A → Checked B) (y : B) → (r >>= f) ≡ Ok y → After r f y
after (Ok x) f y e = record { first = x; gives = refl; goes = e }
after (Err r) f y e = cc

abbrev ok : {A : Type 0} → A → Checked A
ok x = Ok x

same : {A : Type 0} (x v : A) → ok x ≡ ok v → x ≡ v
same x v e = cc

becomes : {A : Type 0} (P : A → Type 0) (x v : A) → ok x ≡ ok v → P x → P v
becomes P x v e = subst P (same x v e)

-- what a test refuses, and what it lets through
otherwise : {A : Type 0} (b : Bool) (r : Refusal) (m : Checked A) (v : A) → (if b then Err r else m) ≡ Ok v → (b ≡ false) × (m ≡ Ok v)
otherwise true r m v h = cc
otherwise false r m v h = (refl, h)

held : {A : Type 0} (b : Bool) (x v : A) (r : Refusal) → (if b then ok x else Err r) ≡ Ok v → (b ≡ true) × (x ≡ v)
held true x v r h = (refl, same x v h)
held false x v r h = cc

-- the name
name-says : (x : List ℕ) (p : Place) (u : CType) (env : Env) (b : Bool) → new_name x p u env ≡ Ok b → MayDeclare env x u
name-says x p u env b h =
    let r = otherwise (is_reserved env.dialect (env.neon x) x) _ _ b h in
    let d = otherwise (is_declared_here x env) _ _ b r.1 in
    let i = otherwise (not (is_object_type u)) _ _ b d.1 in
    let v = otherwise (is_void_pointer u) _ _ b i.1 in
    record { unreserved = r.0; undeclared = absent (named x env.innermost) d.0; object = object-says u (unnegated (is_object_type u) i.0); admitted = void-pointer-says u v.0 }

-- sizes
small-says : (x : List ℕ) (p : Place) (u : CType) (b : Bool) → small x p u ≡ Ok b → IsSmall u
small-says x p u b h = size-says (size_of u) (held (is_small (size_of u)) true b _ h).0

once-says : (x : List ℕ) (p : Place) (u : CType) (b : Bool) → small_once (not (is_open u)) x p u ≡ Ok b → IsOpen u ⊎ IsSmall u
once-says x p u b h = by (is_open u) refl h
  where
    by : (a : Bool) → is_open u ≡ a → small_once (not a) x p u ≡ Ok b → IsOpen u ⊎ IsSmall u
    by true e h = inl (open-says u e)
    by false e h = inr (small-says x p u b h)

-- a length's number, a constant
known-count : (a : Tree) (m : Option Num) (n : ℕ) → count_of a m ≡ Ok n → (k : Num) × (m ≡ Some k) × (k.value ≡ pos n) × (1 ≤ n)
known-count a (Some k) n h =
    let q = held (int_le (pos 1) k.value) (unsigned_abs k.value) n _ h in
    let w = count-says k.value n q.0 q.1 in
    (k, refl, w.0, w.1)
known-count a None n h = cc

-- an alignment's value, a constant
known-alignment : (a : Tree) (m : Option Num) (v : Tree) → alignment_of a m ≡ Ok v → (k : Num) × (m ≡ Some k) × t.IsAlignmentValue k.value × (a ≡ v)
known-alignment a (Some k) v h = let q = held (is_alignment k.value) a v _ h in (k, refl, alignment-says k.value q.0, q.1)
known-alignment a None v h = cc

-- members
given : (b : Option Num) → is_some b ≡ true → (n : Num) × (b ≡ Some n)
given (Some n) h = (n, refl)
given None h = cc

an_integer : (u : CType) → is_integer u ≡ true → (s : IntType) × (u ≡ Int s)
an_integer (Int s) h = (s, refl)
an_integer _ h = cc

no_members_of_void : (n : Option ℕ) (i : ℕ) (all : Trees) (env : Env) (v : Trees) → members Void n i all env ≡ Ok v → is_no_trees v ≡ true
no_members_of_void n i NoTrees env v h = becomes (λ z. is_no_trees z ≡ true) NoTrees v h refl
no_members_of_void n i (More a rest) env v h =
    let x = after (check a env) _ v h in
    let y = after (member Void (is_room i n) x.first) _ v x.goes in
    let q = held (is_member Void (is_room i n) x.first) _ y.first _ y.gives in
    let r = both (is_room i n && false && is_integer (node_type x.first)) (is_some (value_of x.first)) q.0 in
    let w = both (is_room i n && false) (is_integer (node_type x.first)) r.0 in
    let z = both (is_room i n) false w.0 in
    let no : false ≡ true = z.1 in cc

-- what a list of members makes of an object, whose type is an array with no number yet or isn't
abbrev counted : Bool → List ℕ → Place → CType → Trees → Checked Start
counted b x p u all =
    if is_no_trees all then refuse 11 p (short x)
    else (small_once b x p (with_number (if b then Some (count_all all) else None) u) >>= λ _. Ok (record { init = None; list = Some all; ty = with_number (if b then Some (count_all all) else None) u }))

module _ (types : (env : Env) (u v : Tree) → (check u env ≡ Ok v) ↔ Typed env u v) (gives : (u : CType) (a v : Tree) → (assigned u a ≡ Some v) ↔ Assigned a u v) where
  length-says : (m : Option Tree) (env : Env) (l : Length) → length_of m env ≡ Ok l → TypedLength env m l.expression l.number
  length-says None env l h = becomes (λ (z : Length). TypedLength env None z.expression z.number) _ l h t.unwritten
  length-says (Some a) env l h =
      let x = after (check a env) _ l h in
      let y = after (count_of x.first (value_of x.first)) _ l x.goes in
      let q = known-count x.first (value_of x.first) y.first y.gives in
      becomes (λ (z : Length). TypedLength env (Some a) z.expression z.number) _ l y.goes (t.written a x.first q.0 y.first ((types env a x.first).0 x.gives) q.1 q.2 q.3)

  power-says : (a : Tree) (env : Env) (v : Tree) → alignment a env ≡ Ok v → PowerOfTwo env a v
  power-says a env v h =
      let x = after (check a env) _ v h in
      let q = known-alignment x.first (value_of x.first) v x.goes in
      subst (PowerOfTwo env a) q.3 (t.power_of_two a x.first q.0 ((types env a x.first).0 x.gives) q.1 q.2)

  kept : (a b : Option Tree) (env : Env) → aligned false a env ≡ Ok b → a ≡ b
  kept None b env h = same None b h
  kept (Some x) b env h = same (Some x) b h

  alignment-typed : (first : Bool) (m : Option Tree) (env inner : Env) (a b : Option Tree) → aligned first m env ≡ Ok a → aligned (not first) a inner ≡ Ok b → TypedAlignment env inner first m b
  alignment-typed first None env inner a b h k =
      becomes (TypedAlignment env inner first None) None b (becomes (λ z. aligned (not first) z inner ≡ Ok b) a None (sym h) k) (t.unwritten first)
  alignment-typed true (Some x) env inner a b h k =
      let y = after (alignment x env) _ a h in
      subst (TypedAlignment env inner true (Some x)) (same (Some y.first) a y.goes ∙ kept a b inner k) (t.among_specifiers x y.first (power-says x env y.first y.gives))
  alignment-typed false (Some x) env inner a b h k =
      let r : aligned true (Some x) inner ≡ Ok b = becomes (λ z. aligned true z inner ≡ Ok b) a (Some x) (sym h) k in
      let y = after (alignment x inner) _ b r in
      becomes (TypedAlignment env inner false (Some x)) (Some y.first) b y.goes (t.behind_name x y.first (power-says x inner y.first y.gives))

  -- members, and what there is room for
  member-says : (s : IntType) (room : Bool) (a a' b : Tree) (env : Env) → check a env ≡ Ok a' → member (Int s) room a' ≡ Ok b → (room ≡ true) × TypedMember env s a b
  member-says s room a a' b env e h =
      let q = held (is_member (Int s) room a') (converted (Int s) a') b _ h in
      let r = both (room && true && is_integer (node_type a')) (is_some (value_of a')) q.0 in
      let w = both (room && true) (is_integer (node_type a')) r.0 in
      let n = given (value_of a') r.1 in
      let i = an_integer (node_type a') w.1 in
      let passes : assigned (Int s) a' ≡ Some b = ap (λ u. if is_assignable (is_zero a') u (Int s) then Some (converted (Int s) a') else None) i.1 ∙ ap Some q.1 in
      ((both room true w.0).0, t.member a a' b n.0 ((types env a a').0 e) n.1 ((gives (Int s) a' b).0 passes))

  members-say : (s : IntType) (n : Option ℕ) (i : ℕ) (all : Trees) (env : Env) (v : Trees) → members (Int s) n i all env ≡ Ok v → TypedMembers env s all v × (count_all all ≡ count_all v)
  members-say s n i NoTrees env v h = becomes (λ z. TypedMembers env s NoTrees z × (0 ≡ count_all z)) NoTrees v h (t.none, refl)
  members-say s n i (More a rest) env v h =
      let x = after (check a env) _ v h in
      let y = after (member (Int s) (is_room i n) x.first) _ v x.goes in
      let z = after (members (Int s) n (i + 1) rest env) _ v y.goes in
      let first = member-says s (is_room i n) a x.first y.first env x.gives y.gives in
      let others = members-say s n (i + 1) rest env z.first z.gives in
      becomes (λ w. TypedMembers env s (More a rest) w × (count_all rest + 1 ≡ count_all w)) _ v z.goes (t.more a y.first rest z.first first.1 others.0, ap (λ k. k + 1) others.1)

  members-fit : (s : IntType) (n i : ℕ) (all : Trees) (env : Env) (v : Trees) → members (Int s) (Some n) i all env ≡ Ok v → i ≤ n → i + count_all all ≤ n
  members-fit s n i NoTrees env v h k = omega (arith, k)
  members-fit s n i (More a rest) env v h k =
      let x = after (check a env) _ v h in
      let y = after (member (Int s) (is_room i (Some n)) x.first) _ v x.goes in
      let z = after (members (Int s) (Some n) (i + 1) rest env) _ v y.goes in
      let room = ltb-true i n (member-says s (is_room i (Some n)) a x.first y.first env x.gives y.gives).0 in
      let others = members-fit s n (i + 1) rest env z.first z.gives (omega (arith, room)) in
      omega (arith, others)

  -- what an object begins with
  some_members : (all : Trees) → is_no_trees all ≡ false → 1 ≤ count_all all
  some_members NoTrees h = cc
  some_members (More a rest) h = omega arith

  array-says : (x : List ℕ) (p : Place) (s : IntType) (n : ℕ) (c : Bool) (all : Trees) (env : Env) (r : Start) (b : Bool) (v : Trees) → nat_eq n 0 ≡ b → members (Int s) (if b then None else Some n) 0 all env ≡ Ok v →
      counted (not (is_some (if b then None else Some n))) x p (Array (target.Int s) n c) v ≡ Ok r → Begins env (Array (target.Int s) n c) None (Some all) r.init r.list r.ty
  array-says x p s n c all env r true v e h k =
      let q = otherwise (is_no_trees v) _ _ r k in
      let z = after (small_once true x p (Array (target.Int s) (count_all v) c)) _ r q.1 in
      let m = members-say s None 0 all env v h in
      let fits = small-says x p (Array (target.Int s) (count_all v) c) z.first z.gives in
      let some = subst (λ k. 1 ≤ k) (sym m.1) (some_members v q.0) in
      let made = t.members_of_open s c all v m.0 some (subst (λ k. IsSmall (Array (target.Int s) k c)) (sym m.1) fits) in
      becomes (λ (w : Start). Begins env (Array (target.Int s) n c) None (Some all) w.init w.list w.ty) _ r z.goes
      (subst (λ k. Begins env (Array (target.Int s) k c) None (Some all) None (Some v) (Array (target.Int s) (count_all v) c)) (sym (eqb-true n 0 e))
      (subst (λ k. Begins env (Array (target.Int s) 0 c) None (Some all) None (Some v) (Array (target.Int s) k c)) m.1 made))
  array-says x p s n c all env r false v e h k =
      let q = otherwise (is_no_trees v) _ _ r k in
      let m = members-say s (Some n) 0 all env v h in
      let some = subst (λ k. 1 ≤ k) (sym m.1) (some_members v q.0) in
      let fit = members-fit s n 0 all env v h (omega arith) in
      becomes (λ (w : Start). Begins env (Array (target.Int s) n c) None (Some all) w.init w.list w.ty) (record { init = None; list = Some v; ty = Array (target.Int s) n c }) r q.1 (t.members s n c all v m.0 some (omega (arith, fit)))

  value-fits : (x : List ℕ) (p : Place) (m : Option Tree) (v : Tree) → value_fits x p m ≡ Ok v → m ≡ Some v
  value-fits x p (Some w) v h = ap Some (same w v h)
  value-fits x p None v h = cc

  no_list : (x : List ℕ) (p : Place) (u : CType) (n : Option ℕ) (all : Trees) (env : Env) (r : Start) → (members Void n 0 all env >>= λ v. counted (is_open u) x p u v) ≡ Ok r → ⊥
  no_list x p u n all env r h =
      let m = after (members Void n 0 all env) _ r h in
      let q = otherwise (is_no_trees m.first) _ _ r m.goes in
      let e = no_members_of_void n 0 all env m.first m.gives in
      cc

  list-says : (x : List ℕ) (p : Place) (u : CType) (all : Trees) (env : Env) (r : Start) → start x p u None (Some all) env ≡ Ok r → Begins env u None (Some all) r.init r.list r.ty
  list-says x p (Array (target.Int s) n c) all env r h =
      let m = after (members (Int s) (number_of (Array (target.Int s) n c)) 0 all env) _ r h in
      array-says x p s n c all env r (nat_eq n 0) m.first refl m.gives m.goes
  list-says x p (Array target.Void n c) all env r h = absurd (no_list x p (Array target.Void n c) _ all env r h)
  list-says x p (Array target.M128 n c) all env r h = absurd (no_list x p (Array target.M128 n c) _ all env r h)
  list-says x p (Array target.M256 n c) all env r h = absurd (no_list x p (Array target.M256 n c) _ all env r h)
  list-says x p u all env r h = absurd (no_list x p u None all env r h)

  begins-says : (x : List ℕ) (p : Place) (u : CType) (init : Option Tree) (list : Option Trees) (env : Env) (r : Start) → start x p u init list env ≡ Ok r → Begins env u init list r.init r.list r.ty
  begins-says x p u None None env r h =
      let m = after (closed_type x p u) _ r h in
      let q = otherwise (is_open u) _ _ m.first m.gives in
      becomes (λ (w : Start). Begins env u None None w.init w.list w.ty) _ r (becomes (λ z. ok (record { init = None; list = None; ty = z }) ≡ Ok r) m.first u (sym q.1) m.goes) (t.nothing u (closed-says u q.0))
  begins-says x p u (Some a) None env r h =
      let m = after (check a env) _ r h in
      let w = after (value_fits x p (assigned u m.first)) _ r m.goes in
      becomes (λ (z : Start). Begins env u (Some a) None z.init z.list z.ty) _ r w.goes
      (t.value u a m.first w.first ((types env a m.first).0 m.gives) ((gives u m.first w.first).0 (value-fits x p (assigned u m.first) w.first w.gives)))
  begins-says x p u None (Some all) env r h = list-says x p u all env r h
  begins-says x p u (Some a) (Some all) env r h = cc

  pub sound : (env : Env) (d v : Object) → check_object d env ≡ Ok v → TypedObject env d v
  sound env d v h =
      let a = after (aligned d.align_first d.align env) _ v h in
      let b = after (new_name d.name d.place (read_type env.dialect d.ty) env) _ v a.goes in
      let l = after (length_of d.length env) _ v b.goes in
      let u = declared_type l.first.number d.ty env in
      let inner = behind_declarator d.name d.constant u env in
      let s = after (small_once (not (is_open u)) d.name d.place u) _ v l.goes in
      let g = after (aligned (not d.align_first) a.first inner) _ v s.goes in
      let r = after (start d.name d.place u d.init d.list inner) _ v g.goes in
      becomes (TypedObject env d) (record { place = d.place; name = d.name; ty = r.first.ty; length = l.first.expression; constant = d.constant; align = g.first; align_first = d.align_first; init = r.first.init; list = r.first.list }) v r.goes
      (t.declared d l.first.expression l.first.number u r.first.ty g.first r.first.init r.first.list (name-says d.name d.place (read_type env.dialect d.ty) env b.first b.gives) (length-says d.length env l.first l.gives)
      (declared-says (read_type env.dialect d.ty) l.first.number) (once-says d.name d.place u s.first s.gives) (alignment-typed d.align_first d.align env inner a.first g.first a.gives g.gives)
      (begins-says d.name d.place u d.init d.list inner r.first r.gives))
