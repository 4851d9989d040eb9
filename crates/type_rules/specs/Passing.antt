-- The headings of functions and of rows of a table, and the arguments of their calls (C11 6.5.2.2).
use Rattle.std.specs.Prelude.{Bool, true, false, ◌&&◌, ◌||◌, nat_eq, if◌then◌else◌, List, [], ◌∷◌, map, Option, Some, None, ℤ, pos, int_le}
use Rattle.std.specs.Ordering.{int_eq}
use Rattle.lane_core.specs.declared.table.ParamKind.{ParamKind}
use Rattle.lane_core.specs.declared.table.ParamKind.TheVariants as kind
use Rattle.lane_core.specs.declared.table.ImmRange.{ImmRange}
use Rattle.lane_core.specs.declared.table.ImmRange.TheVariants.{NoImmediate, Span, Scale}
use Rattle.lane_core.specs.declared.table.Sig.{Sig}
use Rattle.lane_core.specs.Table.{params_of}
use Rattle.c_tree.specs.declared.types.CType.{CType}
use Rattle.c_tree.specs.declared.types.CType.TheVariants.{Void, Int, M128, M256, Neon, Pair, Pointer}
use Rattle.c_tree.specs.Tree.{Tree, Trees, NoTrees, More}
use Rattle.type_rules.specs.declared.passing.Parameter.{Parameter}
use Rattle.type_rules.specs.declared.passing.Parameter.TheVariants.{Object, Immediate}
use Rattle.type_rules.specs.declared.passing.Heading.{Heading as CodeHeading}
use Rattle.c_tree.specs.Nodes.{node_type}
use Rattle.type_rules.specs.Types.{is_integer, assigned}

-- what a call gives, and what it takes
pub record Heading : Type 0 where
  pub result : CType
  pub params : List Parameter

-- what contracts see of the code's heading
abbrev pub heading : CodeHeading → Heading
heading h = record { result = h.result; params = h.params.items }

-- the type of a row's parameter or result; one without a value is `void`
abbrev pub kind_type : ParamKind → CType
kind_type (kind.Reg bytes) = if nat_eq bytes 32 then M256 else M128
kind_type (kind.Lane lanes wide) = Neon lanes wide
kind_type kind.Pair = Pair
kind_type (kind.Scalar t) = Int t
kind_type kind.Immediate = Void
kind_type (kind.PointerTo e c) = Pointer e c
kind_type kind.Nothing = Void

-- a parameter of a row: an object, or a constant that stands in the call
abbrev pub parameter : ParamKind → Parameter
parameter kind.Immediate = Immediate
parameter k = Object (kind_type k)

-- the heading of a row with this signature
abbrev pub row_heading : Sig → Heading
row_heading sig = record { result = kind_type sig.result; params = map parameter (params_of sig) }

-- an argument is given to an object of its parameter's type (6.5.2.2p2, p7); an immediate is an integer and stays as it is
abbrev pub given : Parameter → Tree → Option Tree
given (Object t) a = assigned t a
given Immediate a = if is_integer (node_type a) then Some a else None

-- an argument, and then the rest
abbrev pub and_rest : Option Tree → Option Trees → Option Trees
and_rest (Some a) (Some rest) = Some (More a rest)
and_rest _ _ = None

-- the arguments as they are passed, where there are as many as parameters and each fits its own
abbrev pub passed : List Parameter → Trees → Option Trees
passed [] NoTrees = Some NoTrees
passed (t ∷ ts) (More a rest) = and_rest (given t a) (passed ts rest)
passed _ _ = None

abbrev pub is_immediate : Parameter → Bool
is_immediate Immediate = true
is_immediate (Object t) = false

-- the argument that stands where the row has its immediate or lane number
abbrev pub immediate_of : List Parameter → Trees → Option Tree
immediate_of [] all = None
immediate_of (t ∷ ts) NoTrees = None
immediate_of (t ∷ ts) (More a rest) = if is_immediate t then Some a else immediate_of ts rest

-- the value is one that the row's immediate may have
abbrev pub is_in_range : ImmRange → ℤ → Bool
is_in_range NoImmediate z = int_eq z (pos 0)
is_in_range (Span low high) z = int_le (pos low) z && int_le z (pos high)
is_in_range Scale z = int_eq z (pos 1) || int_eq z (pos 2) || int_eq z (pos 4) || int_eq z (pos 8)
