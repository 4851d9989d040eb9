-- Laws of vector parameters in memory: a store of a register's bytes fills the array that is written for one.
use Rattle.std.proofs.Common.{◌≡◌, ℕ, ◌<◌, ◌^◌, List, [], ◌∷◌, length, None, refl, sym, ap, ◌∙◌, subst, arith}
use Rattle.lane_core.specs.Register.{IsRegister}
use Rattle.c_tree.specs.declared.types.CType.{CType}
use Rattle.c_tree.specs.Tree.{Object}
use Rattle.c_memory.specs.declared.memory.Pointer.TheVariants.{At}
use Rattle.c_memory.specs.declared.value.Value.{Value}
use Rattle.c_memory.specs.Memory.{after_write}
use Rattle.c_memory.specs.MeaningObjects.{unset_bytes}
use Rattle.c_memory.specs.MeaningState.{State, then_do, pure, to_memory}
use Rattle.c_memory.specs.Meaning.{Calls}
use Rattle.simulation.specs.ObjectLaws.{AreFirst}
use Rattle.simulation.specs.RegisterLaws.{set_register_bytes}
use Rattle.simulation.specs.WrittenValues.{WrittenValues}
use Rattle.simulation.specs.HeadLaws.{Fills}

-- the call writes the bytes of a register of so many, given as this value, to the first byte of a block
abbrev pub WritesRegister : Calls → List ℕ → ℕ → ℕ → (List ℕ → Value) → Type 0
WritesRegister d store align size value = (k : ℕ) (r : List ℕ) (t : State) → IsRegister size r
    → d store (Value.At (At k 0) ∷ value r ∷ []) t ≡ then_do (to_memory (λ m. after_write m (At k 0) align r) t) (λ u. pure None)

register_first : (size : ℕ) (r : List ℕ) → size < 2 ^ 63 → IsRegister size r → AreFirst r
register_first size r small h = record { bytes = set_register_bytes r h.bytes; size = subst (λ k. k < 2 ^ 63) (sym h.size) small }

module _ (d : Calls) (store : List ℕ) (align : ℕ) (l : Object) where
  -- 16 bytes
  pub vector_fills : length (unset_bytes l.ty) ≡ 16 → WritesRegister d store align 16 Value.R16 → (v w : Value) → WrittenValues CType.M128 v w → Fills WrittenValues d store align CType.M128 l v w
  vector_fills long writes (Value.R16 a) (Value.R16 b) h = record {
    bytes = a;
    are = refl;
    first = register_first 16 a (omega arith) h.0;
    size = long ∙ sym h.0.size;
    stores = λ k t. ap (λ r. d store (Value.At (At k 0) ∷ Value.R16 r ∷ []) t) (sym h.1) ∙ writes k a t h.0;
  }
  vector_fills long writes (Value.R16 a) (Value.Int j) h = absurd h
  vector_fills long writes (Value.R16 a) (Value.R8 b) h = absurd h
  vector_fills long writes (Value.R16 a) (Value.R32 b) h = absurd h
  vector_fills long writes (Value.R16 a) (Value.At q) h = absurd h
  vector_fills long writes (Value.Int j) w h = absurd h
  vector_fills long writes (Value.R8 a) w h = absurd h
  vector_fills long writes (Value.R32 a) w h = absurd h
  vector_fills long writes (Value.At q) w h = absurd h

  -- 32 bytes
  pub pair_fills : length (unset_bytes l.ty) ≡ 32 → WritesRegister d store align 32 Value.R32 → (v w : Value) → WrittenValues CType.M256 v w → Fills WrittenValues d store align CType.M256 l v w
  pair_fills long writes (Value.R32 a) (Value.R32 b) h = record {
    bytes = a;
    are = refl;
    first = register_first 32 a (omega arith) h.0;
    size = long ∙ sym h.0.size;
    stores = λ k t. ap (λ r. d store (Value.At (At k 0) ∷ Value.R32 r ∷ []) t) (sym h.1) ∙ writes k a t h.0;
  }
  pair_fills long writes (Value.R32 a) (Value.Int j) h = absurd h
  pair_fills long writes (Value.R32 a) (Value.R8 b) h = absurd h
  pair_fills long writes (Value.R32 a) (Value.R16 b) h = absurd h
  pair_fills long writes (Value.R32 a) (Value.At q) h = absurd h
  pair_fills long writes (Value.Int j) w h = absurd h
  pair_fills long writes (Value.R8 a) w h = absurd h
  pair_fills long writes (Value.R16 a) w h = absurd h
  pair_fills long writes (Value.At q) w h = absurd h
