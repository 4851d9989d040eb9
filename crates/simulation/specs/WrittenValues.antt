-- The relation of values between a source and the unit that is written for it: of what types they are isn't asked, only of which kind.
use Rattle.std.specs.Prelude.{◌≡◌, ◌<◌, ◌^◌, true, false}
use Rattle.lane_core.specs.Register.{IsRegister}
use Rattle.c_tree.specs.declared.types.CType.{CType}
use Rattle.c_memory.specs.declared.memory.Pointer.{Pointer}
use Rattle.c_memory.specs.declared.memory.Pointer.TheVariants.{Null, At}
use Rattle.c_memory.specs.declared.value.Value.{Value}
use Rattle.c_memory.specs.Matching.{written_integer}
use Rattle.simulation.specs.Alike.{Relation}

-- the offset of a pointer is below 2 ^ 63, as the sizes of blocks are
abbrev pub IsNear : Pointer → Type 0
IsNear Null = Unit {0}
IsNear (At block offset) = offset < 2 ^ 63

-- numbers are equal, and their types are as they are written; vectors are equal registers, and pointers are equal
abbrev pub WrittenValues : Relation
WrittenValues (CType.Int s) (Value.Int m) (Value.Int n) = (n.ty ≡ written_integer m.ty) × (m.value ≡ n.value)
WrittenValues CType.M128 (Value.R16 a) (Value.R16 b) = IsRegister 16 a × (a ≡ b)
WrittenValues CType.M256 (Value.R32 a) (Value.R32 b) = IsRegister 32 a × (a ≡ b)
WrittenValues (CType.Neon lanes true) (Value.R16 a) (Value.R16 b) = IsRegister 16 a × (a ≡ b)
WrittenValues (CType.Neon lanes false) (Value.R8 a) (Value.R8 b) = IsRegister 8 a × (a ≡ b)
WrittenValues CType.Pair (Value.R32 a) (Value.R32 b) = IsRegister 32 a × (a ≡ b)
WrittenValues (CType.Pointer e constant) (Value.At p) (Value.At q) = IsNear p × (p ≡ q)
WrittenValues t _ _ = ⊥
