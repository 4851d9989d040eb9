-- What kinds of types there are.
use Rattle.std.specs.Prelude.{Bool, true, false}
use Rattle.c_tree.specs.declared.types.CType.{CType}
use Rattle.c_tree.specs.declared.types.CType.TheVariants.{Array}

abbrev pub is_array : CType → Bool
is_array (Array e n c) = true
is_array t = false
