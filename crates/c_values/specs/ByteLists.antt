-- Bytes as the code keeps them: of a value in an array, of a block set or unset.
use Rattle.std.specs.Prelude.{ℕ, List, Option}
use Rattle.std.specs.Option.{option_and_then}
use Rattle.const_imm.specs.Constant.{value_of}
use Rattle.c_tree.specs.declared.types.CType.{CType}
use Rattle.c_tree.specs.Tree.{Tree}
use Rattle.c_memory.specs.declared.value.Value.{Value}
use Rattle.c_memory.specs.MeaningValues.{converted_value}
use Rattle.c_memory.specs.MeaningObjects.{encoded}
use Rattle.c_values.specs.declared.encoding.ObjectBytes.{ObjectBytes}
use Rattle.c_values.specs.declared.encoding.ObjectBytes.TheVariants.{One, Two, Four, Eight, Sixteen, ThirtyTwo}

abbrev pub bytes_in : ObjectBytes → List ℕ
bytes_in (One bytes) = bytes
bytes_in (Two bytes) = bytes
bytes_in (Four bytes) = bytes
bytes_in (Eight bytes) = bytes
bytes_in (Sixteen bytes) = bytes
bytes_in (ThirtyTwo bytes) = bytes

-- the bytes of a constant in an object of this type
abbrev pub constant_encoded : CType → Tree → Option (List ℕ)
constant_encoded ty e = option_and_then (λ n. option_and_then (encoded ty) (converted_value ty (Value.Int n))) (value_of e)
