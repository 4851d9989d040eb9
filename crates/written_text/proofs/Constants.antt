-- What is written for a constant expression is printed and read as it is (C11 6.6).
use Rattle.std.proofs.Common.{◌≡◌, ◌⊎◌, inl, inr, ℕ, Bool, true, false, Option, Some, None, if◌then◌else◌}
use Rattle.std.specs.Prelude.{option_map, option_and_then}
use Rattle.lane_core.specs.declared.number.IntType.{IntType}
use Rattle.lane_core.specs.declared.number.Num.{Num}
use Rattle.scalar_core.specs.Ranks.{common_of}
use Rattle.scalar_core.specs.Operators.{truth}
use Rattle.const_imm.specs.Constant as const
use Rattle.const_imm.specs.Constant.{value_of, kind_value, kind_type, on_both, typed_both, is_true, and_value, or_value, choice_value}
use Rattle.const_imm.specs.Sizes.{size_of}
use Rattle.c_text.specs.declared.tokens.Place.{Place}
use Rattle.c_tree.specs.declared.types.CType.{CType}
use Rattle.c_tree.specs.Nodes.{node_place}
use Rattle.c_tree.specs.Tree.{Tree, Kind, Node, Const, Unary, Binary, AndThen, OrElse, Choice, Cast, SizeOfType}
use Rattle.c_memory.specs.Matching.{written_integer, written_type}
use Rattle.c_memory.specs.Meaning.{type_of}
use Rattle.type_rules.specs.Types.{same_type}
use Rattle.written_forms.specs.Seen.{Sees}
use Rattle.written_forms.specs.Moved as form
use Rattle.written_forms.specs.Moved.{Plans, size, moved, moved_kind}
use Rattle.read_units.specs.Read.{Read, ReadKind}
use Rattle.written_text.proofs.Fine.{Fine, size_constant}
use Rattle.written_text.proofs.Expressions.{integer_good, number_good}

abbrev mutual
  -- an expression of constant form
  pub IsConstantForm : Tree → Type 0
  IsConstantForm (Node p t k) = IsConstantKind k

  pub IsConstantKind : Kind → Type 0
  IsConstantKind (Const n) = Unit {0}
  IsConstantKind (Unary o a) = IsConstantForm a
  IsConstantKind (Binary o a b) = IsConstantForm a × IsConstantForm b
  IsConstantKind (AndThen a b) = IsConstantForm a × IsConstantForm b
  IsConstantKind (OrElse a b) = IsConstantForm a × IsConstantForm b
  IsConstantKind (Choice c a b) = IsConstantForm c × IsConstantForm a × IsConstantForm b
  IsConstantKind (Cast (CType.Int s) a z) = IsConstantForm a
  IsConstantKind (SizeOfType u) = Unit {0}
  IsConstantKind k = ⊥

-- there is one
abbrev There : {A : Type 0} → Option A → Type 0
There None = ⊥
There (Some x) = Unit {0}

there : {A : Type 0} (o : Option A) (x : A) → o ≡ Some x → There o
there None x h = absurd (cc)
there (Some y) x h = tt

mapped_there : {A B : Type 0} (f : A → B) (o : Option A) → There (option_map f o) → There o
mapped_there f None h = h
mapped_there f (Some x) h = tt

then_there : {A B : Type 0} (f : A → Option B) (o : Option A) → There (option_and_then f o) → There o
then_there f None h = h
then_there f (Some x) h = tt

both_there : {A B : Type 0} (f : A → A → Option B) (a b : Option A) → There (on_both f a b) → There a × There b
both_there f None b h = absurd h
both_there f (Some x) None h = absurd h
both_there f (Some x) (Some y) h = (tt, tt)

-- what has a type is of constant form
mutual
  typed_form : (e : Tree) → There (const.type_of e) → IsConstantForm e
  typed_form (Node p t k) h = typed_kind k h

  typed_kind : (k : Kind) → There (kind_type k) → IsConstantKind k
  typed_kind (Const n) h = tt
  typed_kind (Unary o a) h = typed_form a (mapped_there _ (const.type_of a) h)
  typed_kind (Binary o a b) h = let t = both_there _ (const.type_of a) (const.type_of b) h in (typed_form a t.0, typed_form b t.1)
  typed_kind (AndThen a b) h = let t = both_there _ (const.type_of a) (const.type_of b) h in (typed_form a t.0, typed_form b t.1)
  typed_kind (OrElse a b) h = let t = both_there _ (const.type_of a) (const.type_of b) h in (typed_form a t.0, typed_form b t.1)
  typed_kind (Choice c a b) h =
      let t = both_there _ (const.type_of c) (typed_both common_of (const.type_of a) (const.type_of b)) h in
      let u = both_there _ (const.type_of a) (const.type_of b) t.1 in
      (typed_form c t.0, typed_form a u.0, typed_form b u.1)
  typed_kind (Cast (CType.Int s) a z) h = typed_form a (mapped_there _ (const.type_of a) h)
  typed_kind (SizeOfType u) h = tt
  typed_kind k h = absurd h

-- the second operand of `&&` and `||` has a type or a value
and_there : (a : Option Num) (t : Option IntType) (b : Option Num) → There (and_value a t b) → There a × (There b ⊎ There t)
and_there None t b h = absurd h
and_there (Some x) t b h = (tt, at (is_true x) h)
  where
    at : (z : Bool) → There (if z then option_map (λ y. truth (is_true y)) b else option_map (λ s. truth false) t) → There b ⊎ There t
    at true g = inl (mapped_there _ b g)
    at false g = inr (mapped_there _ t g)

or_there : (a : Option Num) (t : Option IntType) (b : Option Num) → There (or_value a t b) → There a × (There b ⊎ There t)
or_there None t b h = absurd h
or_there (Some x) t b h = (tt, at (is_true x) h)
  where
    at : (z : Bool) → There (if z then option_map (λ s. truth true) t else option_map (λ y. truth (is_true y)) b) → There b ⊎ There t
    at true g = inr (mapped_there _ t g)
    at false g = inl (mapped_there _ b g)

choice_there : (c : Option Num) (t : Option IntType) (a b : Option Num) → There (choice_value c t a b) → There c × There t
choice_there None t a b h = absurd h
choice_there (Some x) None a b h = absurd h
choice_there (Some x) (Some s) a b h = (tt, tt)

either_form : (b : Tree) → There (value_of b) ⊎ There (const.type_of b) → (There (value_of b) → IsConstantForm b) → IsConstantForm b
either_form b (inl h) f = f h
either_form b (inr h) f = typed_form b h

-- so is what has a value
mutual
  valued_form : (e : Tree) → There (value_of e) → IsConstantForm e
  valued_form (Node p t k) h = valued_kind k h

  valued_kind : (k : Kind) → There (kind_value k) → IsConstantKind k
  valued_kind (Const n) h = tt
  valued_kind (Unary o a) h = valued_form a (then_there _ (value_of a) h)
  valued_kind (Binary o a b) h = let t = both_there _ (value_of a) (value_of b) h in (valued_form a t.0, valued_form b t.1)
  valued_kind (AndThen a b) h = let t = and_there (value_of a) (const.type_of b) (value_of b) h in (valued_form a t.0, either_form b t.1 (valued_form b))
  valued_kind (OrElse a b) h = let t = or_there (value_of a) (const.type_of b) (value_of b) h in (valued_form a t.0, either_form b t.1 (valued_form b))
  valued_kind (Choice c a b) h =
      let t = choice_there (value_of c) (typed_both common_of (const.type_of a) (const.type_of b)) (value_of a) (value_of b) h in
      let u = both_there _ (const.type_of a) (const.type_of b) t.1 in
      (valued_form c t.0, typed_form a u.0, typed_form b u.1)
  valued_kind (Cast (CType.Int s) a z) h = valued_form a (mapped_there _ (value_of a) h)
  valued_kind (SizeOfType u) h = tt
  valued_kind k h = absurd h

cast_fine : (p : Place) (s : IntType) (u : CType) (a : Tree) (z : Bool) → Fine a → Fine (form.cast p (CType.Int (written_integer s)) u a z)
cast_fine p s u a true h = record { good = (integer_good s, h.good); plain = h.plain }
cast_fine p s u a false h = at (same_type u (CType.Int (written_integer s)))
  where
    at : (b : Bool) → Fine (if b then a else Node (node_place a) (CType.Int (written_integer s)) (Cast (CType.Int (written_integer s)) a false))
    at true = h
    at false = record { good = h.good; plain = h.plain }

size_fine : (p : Place) (o : Option ℕ) → Fine (size p o)
size_fine p None = record { good = size_constant 0; plain = tt }
size_fine p (Some n) = record { good = size_constant n; plain = tt }

mutual
  form_fine : (plans : Plans) (sees : Sees) (e : Tree) → IsConstantForm e → Read e → Fine (moved plans sees e)
  form_fine plans sees (Node p t k) h g = kind_fine plans sees p (written_type t) k h g

  kind_fine : (plans : Plans) (sees : Sees) (p : Place) (t : CType) (k : Kind) → IsConstantKind k → ReadKind k → Fine (moved_kind plans sees p t k)
  kind_fine plans sees p t (Const n) h g = record { good = number_good n g; plain = tt }
  kind_fine plans sees p t (Unary o a) h g = let m = form_fine plans sees a h g in record { good = m.good; plain = m.plain }
  kind_fine plans sees p t (Binary o a b) h g = let m = form_fine plans sees a h.0 g.0 in let n = form_fine plans sees b h.1 g.1 in record { good = (m.good, n.good); plain = (m.plain, n.plain) }
  kind_fine plans sees p t (AndThen a b) h g = let m = form_fine plans sees a h.0 g.0 in let n = form_fine plans sees b h.1 g.1 in record { good = (m.good, n.good); plain = (m.plain, n.plain) }
  kind_fine plans sees p t (OrElse a b) h g = let m = form_fine plans sees a h.0 g.0 in let n = form_fine plans sees b h.1 g.1 in record { good = (m.good, n.good); plain = (m.plain, n.plain) }
  kind_fine plans sees p t (Choice c a b) h g =
      let l = form_fine plans sees c h.0 g.0 in
      let m = form_fine plans sees a h.1 g.1 in
      let n = form_fine plans sees b h.2 g.2 in
      record { good = (l.good, m.good, n.good); plain = (l.plain, (m.plain, n.plain)) }
  kind_fine plans sees p t (Cast (CType.Int s) a z) h g = cast_fine p s (written_type (type_of a)) (moved plans sees a) z (form_fine plans sees a h g)
  kind_fine plans sees p t (SizeOfType u) h g = size_fine p (size_of u)
  kind_fine plans sees p t k h g = absurd h

pub constant_fine : (plans : Plans) (sees : Sees) (e : Tree) (n : Num) → value_of e ≡ Some n → Read e → Fine (moved plans sees e)
constant_fine plans sees e n h g = form_fine plans sees e (valued_form e (there (value_of e) n h)) g
