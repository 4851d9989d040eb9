-- Laws of equal values: what operators give for them in memories of which one covers the other is the same.
use Rattle.std.proofs.Common.{◌≡◌, ℕ, List, Bool, true, false, not, ◌&&◌, ◌==◌, Option, Some, None, refl, ap, slice_get, nat_lt, nat_le, if◌then◌else◌}
use Rattle.std.specs.Prelude.{ℤ, ◌*ℤ◌, pos, neg_ℤ, option_map}
use Rattle.std.specs.Option.{option_and_then}
use Rattle.lane_core.specs.declared.number.IntType.TheVariants as int
use Rattle.lane_core.specs.declared.number.Num.{Num}
use Rattle.lane_core.specs.declared.number.BinOp.{BinOp}
use Rattle.lane_core.specs.declared.number.BinOp.TheVariants as op
use Rattle.lane_core.specs.declared.number.UnOp.{UnOp}
use Rattle.lane_core.specs.declared.number.UnOp.TheVariants as sign
use Rattle.scalar_core.specs.Operators.{truth}
use Rattle.c_tree.specs.declared.types.CType.{CType}
use Rattle.c_memory.specs.declared.blocks.Block.{Block}
use Rattle.c_memory.specs.declared.memory.Pointer.{Pointer}
use Rattle.c_memory.specs.declared.memory.Pointer.TheVariants.{Null, At}
use Rattle.c_memory.specs.declared.value.Value.{Value}
use Rattle.c_memory.specs.MeaningValues.{is_alive, is_usable, at_distance, in_block, moved, stepped, stride, distance_in, in_one_block, equal_pointers, ordered}
use Rattle.c_memory.specs.MeaningValues.{pointers_give, pointer_and_integer, integer_and_pointer, operate, holds, as_int, operate_before, converted_value, next}
use Rattle.simulation.specs.Alike.{Blocks}
use Rattle.simulation.specs.BlockLaws.{Paired, get_alike}

alive_paired : (o r : Option Block) → Paired o r → is_alive o ≡ is_alive r
alive_paired None None h = refl
alive_paired (Some b) (Some c) h = h.1.alive
alive_paired None (Some c) h = absurd h
alive_paired (Some b) None h = absurd h

in_paired : (o r : Option Block) (k offset : ℕ) → Paired o r → in_block o k offset ≡ in_block r k offset
in_paired None None k offset h = refl
in_paired (Some b) (Some c) k offset h = rw (h.1.alive, h.1.bytes) refl
in_paired None (Some c) k offset h = absurd h
in_paired (Some b) None k offset h = absurd h

module _ (n : ℕ) (m w : List Block) (h : Blocks n m w) where
  alive_same : (k : ℕ) → is_alive (slice_get m k) ≡ is_alive (slice_get w k)
  alive_same k = alive_paired (slice_get m k) (slice_get w k) (get_alike n m w k h)

  usable_same : (p : Pointer) → is_usable m p ≡ is_usable w p
  usable_same Null = refl
  usable_same (At k offset) = alive_same k

  pub moved_same : (p : Pointer) (distance : ℤ) → moved m p distance ≡ moved w p distance
  moved_same Null distance = refl
  moved_same (At k offset) distance = at (at_distance offset distance)
    where
      at : (o : Option ℕ) → option_and_then (in_block (slice_get m k) k) o ≡ option_and_then (in_block (slice_get w k) k) o
      at None = refl
      at (Some place) = in_paired (slice_get m k) (slice_get w k) k place (get_alike n m w k h)

  stepped_same : (p : Pointer) (size : Option ℕ) (count : ℤ) → stepped m p size count ≡ stepped w p size count
  stepped_same p None count = refl
  stepped_same p (Some k) count = ap (option_map Value.At) (moved_same p (count *ℤ pos k))

  one_block_same : {A : Type 0} (f : ℕ → ℕ → Option A) (p q : Pointer) → in_one_block m f p q ≡ in_one_block w f p q
  one_block_same f (At k x) (At l y) = ap (λ b. if k == l && b then f x y else None) (alive_same k)
  one_block_same f Null q = refl
  one_block_same f (At k x) Null = refl

  equal_same : (wanted : Bool) (p q : Pointer) → equal_pointers m wanted p q ≡ equal_pointers w wanted p q
  equal_same wanted p q = rw (usable_same p, usable_same q) refl

  difference_same : (size : Option ℕ) (p q : Pointer)
      → option_and_then (λ n. in_one_block m (distance_in n) p q) size ≡ option_and_then (λ n. in_one_block w (distance_in n) p q) size
  difference_same None p q = refl
  difference_same (Some k) p q = one_block_same (distance_in k) p q

  order_same : (f : ℕ → ℕ → Bool) (p q : Pointer) → ordered m f p q ≡ ordered w f p q
  order_same f p q = one_block_same (λ x y. Some (Value.Int (truth (f x y)))) p q

  pointers_same : (o : BinOp) (size : Option ℕ) (p q : Pointer) → pointers_give m o size p q ≡ pointers_give w o size p q
  pointers_same op.Sub size p q = difference_same size p q
  pointers_same op.Eq size p q = equal_same true p q
  pointers_same op.Ne size p q = equal_same false p q
  pointers_same op.Lt size p q = order_same nat_lt p q
  pointers_same op.Gt size p q = order_same (λ x y. nat_lt y x) p q
  pointers_same op.Le size p q = order_same nat_le p q
  pointers_same op.Ge size p q = order_same (λ x y. nat_le y x) p q
  pointers_same _ size p q = refl

  pointer_integer_same : (o : BinOp) (size : Option ℕ) (p : Pointer) (a : Num) → pointer_and_integer m o size p a ≡ pointer_and_integer w o size p a
  pointer_integer_same op.Add size p a = stepped_same p size a.value
  pointer_integer_same op.Sub size p a = stepped_same p size (neg_ℤ a.value)
  pointer_integer_same _ size p a = refl

  integer_pointer_same : (o : BinOp) (size : Option ℕ) (a : Num) (p : Pointer) → integer_and_pointer m o size a p ≡ integer_and_pointer w o size a p
  integer_pointer_same op.Add size a p = stepped_same p size a.value
  integer_pointer_same _ size a p = refl

  -- an operator between values
  pub operate_same : (o : BinOp) (s t : CType) (u v : Value) → operate m o s t u v ≡ operate w o s t u v
  operate_same o s t (Value.Int a) (Value.Int b) = refl
  operate_same o s t (Value.At p) (Value.Int b) = pointer_integer_same o (stride s) p b
  operate_same o s t (Value.Int a) (Value.At q) = integer_pointer_same o (stride t) a q
  operate_same o s t (Value.At p) (Value.At q) = pointers_same o (stride s) p q
  operate_same o s t (Value.R8 a) v = refl
  operate_same o s t (Value.R16 a) v = refl
  operate_same o s t (Value.R32 a) v = refl
  operate_same o s t (Value.Int a) (Value.R8 b) = refl
  operate_same o s t (Value.Int a) (Value.R16 b) = refl
  operate_same o s t (Value.Int a) (Value.R32 b) = refl
  operate_same o s t (Value.At p) (Value.R8 b) = refl
  operate_same o s t (Value.At p) (Value.R16 b) = refl
  operate_same o s t (Value.At p) (Value.R32 b) = refl

  -- a condition
  pub holds_same : (v : Value) → holds m v ≡ holds w v
  holds_same (Value.Int a) = refl
  holds_same (Value.R8 a) = refl
  holds_same (Value.R16 a) = refl
  holds_same (Value.R32 a) = refl
  holds_same (Value.At Null) = refl
  holds_same (Value.At (At k offset)) = ap (λ b. if b then Some true else None) (alive_same k)

  -- an operator before a value
  pub before_same : (o : UnOp) (v : Value) → operate_before m o v ≡ operate_before w o v
  before_same sign.Not v = ap (option_map (λ b. as_int (not b))) (holds_same v)
  before_same sign.Plus (Value.Int a) = refl
  before_same sign.Neg (Value.Int a) = refl
  before_same sign.BitNot (Value.Int a) = refl
  before_same sign.Plus _ = refl
  before_same sign.Neg _ = refl
  before_same sign.BitNot _ = refl

  -- a step up or down
  pub next_same : (t : CType) (up : Bool) (v : Value) → next m t up v ≡ next w t up v
  next_same t up v = ap (option_and_then (converted_value t)) (operate_same (if up then op.Add else op.Sub) t (CType.Int int.Int) v (as_int true))
