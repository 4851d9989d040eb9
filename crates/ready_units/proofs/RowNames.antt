-- The names of rows: an Intel row's begins with `_mm` and doesn't end in a number behind `_`, and a Neon row's begins with `v`.
use Rattle.std.proofs.Common.{◌≡◌, refl, subst, ℕ, Bool, true, false, not, ◌&&◌, ◌||◌, ◌==◌, List, [], ◌∷◌, Some, nat_le, nat_eq, codes, IfSome}
use Rattle.std.specs.List.{list_all, starts_with}
use Rattle.intel_table.specs.declared.IntelOp.{IntelOp}
use Rattle.intel_table.specs.declared.Part.{Part}
use Rattle.intel_table.specs.declared.Part.TheVariants as part
use Rattle.intel_table.specs.Rows as intel
use Rattle.intel_table.specs.Found as intel_found
use Rattle.neon_table.specs.declared.NeonOp.{NeonOp}
use Rattle.neon_table.specs.declared.Part.{Part as NeonPart}
use Rattle.neon_table.specs.declared.Part.TheVariants as neon_part
use Rattle.neon_table.specs.Rows as neon
use Rattle.neon_table.specs.Found as neon_found
use Rattle.intel_base.specs.declared.arithmetic.Arithmetic.{Arithmetic as BaseArithmetic}
use Rattle.intel_base.specs.declared.arithmetic.Arithmetic.TheVariants as base_arithmetic
use Rattle.intel_base.specs.ArithmeticRows.{arithmetic_row as base_arithmetic_row}
use Rattle.intel_base.specs.declared.logic.Logic.{Logic as BaseLogic}
use Rattle.intel_base.specs.declared.logic.Logic.TheVariants as base_logic
use Rattle.intel_base.specs.LogicRows.{logic_row as base_logic_row}
use Rattle.intel_base.specs.declared.moves.Moves.{Moves as BaseMoves}
use Rattle.intel_base.specs.declared.moves.Moves.TheVariants as base_moves
use Rattle.intel_base.specs.MovesRows.{moves_row as base_moves_row}
use Rattle.intel_base.specs.declared.scalars.Scalars.{Scalars as BaseScalars}
use Rattle.intel_base.specs.declared.scalars.Scalars.TheVariants as base_scalars
use Rattle.intel_base.specs.ScalarsRows.{scalars_row as base_scalars_row}
use Rattle.intel_base.specs.declared.loads.Loads.{Loads as BaseLoads}
use Rattle.intel_base.specs.declared.loads.Loads.TheVariants as base_loads
use Rattle.intel_base.specs.LoadsRows.{loads_row as base_loads_row}
use Rattle.intel_more.specs.declared.arithmetic.Arithmetic.{Arithmetic as MoreArithmetic}
use Rattle.intel_more.specs.declared.arithmetic.Arithmetic.TheVariants as more_arithmetic
use Rattle.intel_more.specs.ArithmeticRows.{arithmetic_row as more_arithmetic_row}
use Rattle.intel_more.specs.declared.moves.Moves.{Moves as MoreMoves}
use Rattle.intel_more.specs.declared.moves.Moves.TheVariants as more_moves
use Rattle.intel_more.specs.MovesRows.{moves_row as more_moves_row}
use Rattle.intel_more.specs.declared.scalars.Scalars.{Scalars as MoreScalars}
use Rattle.intel_more.specs.declared.scalars.Scalars.TheVariants as more_scalars
use Rattle.intel_more.specs.ScalarsRows.{scalars_row as more_scalars_row}
use Rattle.intel_wide.specs.declared.avx2.Avx2.{Avx2 as WideAvx2}
use Rattle.intel_wide.specs.declared.avx2.Avx2.TheVariants as wide_avx2
use Rattle.intel_wide.specs.Avx2Rows.{avx2_row as wide_avx2_row}
use Rattle.intel_wide.specs.declared.arithmetic.Arithmetic.{Arithmetic as WideArithmetic}
use Rattle.intel_wide.specs.declared.arithmetic.Arithmetic.TheVariants as wide_arithmetic
use Rattle.intel_wide.specs.ArithmeticRows.{arithmetic_row as wide_arithmetic_row}
use Rattle.intel_wide.specs.declared.more_arithmetic.MoreArithmetic.{MoreArithmetic as WideMoreArithmetic}
use Rattle.intel_wide.specs.declared.more_arithmetic.MoreArithmetic.TheVariants as wide_more_arithmetic
use Rattle.intel_wide.specs.MoreArithmeticRows.{more_arithmetic_row as wide_more_arithmetic_row}
use Rattle.intel_wide.specs.declared.logic.Logic.{Logic as WideLogic}
use Rattle.intel_wide.specs.declared.logic.Logic.TheVariants as wide_logic
use Rattle.intel_wide.specs.LogicRows.{logic_row as wide_logic_row}
use Rattle.intel_wide.specs.declared.shifts.Shifts.{Shifts as WideShifts}
use Rattle.intel_wide.specs.declared.shifts.Shifts.TheVariants as wide_shifts
use Rattle.intel_wide.specs.ShiftsRows.{shifts_row as wide_shifts_row}
use Rattle.intel_wide.specs.declared.moves.Moves.{Moves as WideMoves}
use Rattle.intel_wide.specs.declared.moves.Moves.TheVariants as wide_moves
use Rattle.intel_wide.specs.MovesRows.{moves_row as wide_moves_row}
use Rattle.intel_wide.specs.declared.crossing.Crossing.{Crossing as WideCrossing}
use Rattle.intel_wide.specs.declared.crossing.Crossing.TheVariants as wide_crossing
use Rattle.intel_wide.specs.CrossingRows.{crossing_row as wide_crossing_row}
use Rattle.intel_wide.specs.declared.scalars.Scalars.{Scalars as WideScalars}
use Rattle.intel_wide.specs.declared.scalars.Scalars.TheVariants as wide_scalars
use Rattle.intel_wide.specs.ScalarsRows.{scalars_row as wide_scalars_row}
use Rattle.intel_wide.specs.declared.loads.Loads.{Loads as WideLoads}
use Rattle.intel_wide.specs.declared.loads.Loads.TheVariants as wide_loads
use Rattle.intel_wide.specs.LoadsRows.{loads_row as wide_loads_row}
use Rattle.intel_wide.specs.declared.half.Half.{Half as WideHalf}
use Rattle.intel_wide.specs.declared.half.Half.TheVariants as wide_half
use Rattle.intel_wide.specs.HalfRows.{half_row as wide_half_row}
use Rattle.neon_lane.specs.declared.arithmetic.Arithmetic.{Arithmetic as LaneArithmetic}
use Rattle.neon_lane.specs.declared.arithmetic.Arithmetic.TheVariants as lane_arithmetic
use Rattle.neon_lane.specs.ArithmeticRows.{arithmetic_row as lane_arithmetic_row}
use Rattle.neon_lane.specs.declared.saturating.Saturating.{Saturating as LaneSaturating}
use Rattle.neon_lane.specs.declared.saturating.Saturating.TheVariants as lane_saturating
use Rattle.neon_lane.specs.SaturatingRows.{saturating_row as lane_saturating_row}
use Rattle.neon_lane.specs.declared.extremes.Extremes.{Extremes as LaneExtremes}
use Rattle.neon_lane.specs.declared.extremes.Extremes.TheVariants as lane_extremes
use Rattle.neon_lane.specs.ExtremesRows.{extremes_row as lane_extremes_row}
use Rattle.neon_lane.specs.declared.logic.Logic.{Logic as LaneLogic}
use Rattle.neon_lane.specs.declared.logic.Logic.TheVariants as lane_logic
use Rattle.neon_lane.specs.LogicRows.{logic_row as lane_logic_row}
use Rattle.neon_lane.specs.declared.choices.Choices.{Choices as LaneChoices}
use Rattle.neon_lane.specs.declared.choices.Choices.TheVariants as lane_choices
use Rattle.neon_lane.specs.ChoicesRows.{choices_row as lane_choices_row}
use Rattle.neon_lane.specs.declared.shifts.Shifts.{Shifts as LaneShifts}
use Rattle.neon_lane.specs.declared.shifts.Shifts.TheVariants as lane_shifts
use Rattle.neon_lane.specs.ShiftsRows.{shifts_row as lane_shifts_row}
use Rattle.neon_lane.specs.declared.products.Products.{Products as LaneProducts}
use Rattle.neon_lane.specs.declared.products.Products.TheVariants as lane_products
use Rattle.neon_lane.specs.ProductsRows.{products_row as lane_products_row}
use Rattle.neon_move.specs.declared.widened.Widened.{Widened as MoveWidened}
use Rattle.neon_move.specs.declared.widened.Widened.TheVariants as move_widened
use Rattle.neon_move.specs.WidenedRows.{widened_row as move_widened_row}
use Rattle.neon_move.specs.declared.narrowed.Narrowed.{Narrowed as MoveNarrowed}
use Rattle.neon_move.specs.declared.narrowed.Narrowed.TheVariants as move_narrowed
use Rattle.neon_move.specs.NarrowedRows.{narrowed_row as move_narrowed_row}
use Rattle.neon_move.specs.declared.permuting.Permuting.{Permuting as MovePermuting}
use Rattle.neon_move.specs.declared.permuting.Permuting.TheVariants as move_permuting
use Rattle.neon_move.specs.PermutingRows.{permuting_row as move_permuting_row}
use Rattle.neon_move.specs.declared.halves.Halves.{Halves as MoveHalves}
use Rattle.neon_move.specs.declared.halves.Halves.TheVariants as move_halves
use Rattle.neon_move.specs.HalvesRows.{halves_row as move_halves_row}
use Rattle.neon_move.specs.declared.places.Places.{Places as MovePlaces}
use Rattle.neon_move.specs.declared.places.Places.TheVariants as move_places
use Rattle.neon_move.specs.PlacesRows.{places_row as move_places_row}
use Rattle.neon_move.specs.declared.to_unsigned.ToUnsigned.{ToUnsigned as MoveToUnsigned}
use Rattle.neon_move.specs.declared.to_unsigned.ToUnsigned.TheVariants as move_to_unsigned
use Rattle.neon_move.specs.ToUnsignedRows.{to_unsigned_row as move_to_unsigned_row}
use Rattle.neon_move.specs.declared.to_signed.ToSigned.{ToSigned as MoveToSigned}
use Rattle.neon_move.specs.declared.to_signed.ToSigned.TheVariants as move_to_signed
use Rattle.neon_move.specs.ToSignedRows.{to_signed_row as move_to_signed_row}
use Rattle.neon_move.specs.declared.bytes.Bytes.{Bytes as MoveBytes}
use Rattle.neon_move.specs.declared.bytes.Bytes.TheVariants as move_bytes
use Rattle.neon_move.specs.BytesRows.{bytes_row as move_bytes_row}
use Rattle.intel_base.specs.declared.BaseOp.{BaseOp}
use Rattle.intel_base.specs.declared.BaseOp.TheVariants as base_op
use Rattle.intel_base.specs.Named as base
use Rattle.intel_more.specs.declared.MoreOp.{MoreOp}
use Rattle.intel_more.specs.declared.MoreOp.TheVariants as more_op
use Rattle.intel_more.specs.Named as more
use Rattle.intel_wide.specs.declared.WideOp.{WideOp}
use Rattle.intel_wide.specs.declared.WideOp.TheVariants as wide_op
use Rattle.intel_wide.specs.Named as wide
use Rattle.neon_lane.specs.declared.LaneOp.{LaneOp}
use Rattle.neon_lane.specs.declared.LaneOp.TheVariants as lane_op
use Rattle.neon_lane.specs.Named as lane
use Rattle.neon_move.specs.declared.MoveOp.{MoveOp}
use Rattle.neon_move.specs.declared.MoveOp.TheVariants as move_op
use Rattle.neon_move.specs.Named as move

-- ---- what the names are

-- the bytes of `0` to `9`
abbrev pub is_digit : ℕ → Bool
is_digit c = nat_le 48 c && nat_le c 57

abbrev pub are_digits : List ℕ → Bool
are_digits all = list_all is_digit all

-- `_` and digits behind it are the end
abbrev pub ends_in_number : List ℕ → Bool
ends_in_number [] = false
ends_in_number (c ∷ rest) = (c == 95 && are_digits rest) || ends_in_number rest

abbrev pub is_intel_name : List ℕ → Bool
is_intel_name x = starts_with nat_eq x (codes "_mm") && not (ends_in_number x)

abbrev pub is_neon_name : List ℕ → Bool
is_neon_name x = starts_with nat_eq x (codes "v")

-- ---- each group

base_arithmetic_named : (r : BaseArithmetic) → is_intel_name (base_arithmetic_row r).name ≡ true
base_arithmetic_named base_arithmetic.AddEpi16 = refl
base_arithmetic_named r = refl

base_logic_named : (r : BaseLogic) → is_intel_name (base_logic_row r).name ≡ true
base_logic_named base_logic.AndSi128 = refl
base_logic_named r = refl

base_moves_named : (r : BaseMoves) → is_intel_name (base_moves_row r).name ≡ true
base_moves_named base_moves.BslliSi128 = refl
base_moves_named r = refl

base_scalars_named : (r : BaseScalars) → is_intel_name (base_scalars_row r).name ≡ true
base_scalars_named base_scalars.Cvtsi128Si32 = refl
base_scalars_named r = refl

base_loads_named : (r : BaseLoads) → is_intel_name (base_loads_row r).name ≡ true
base_loads_named base_loads.LddquSi128 = refl
base_loads_named r = refl

more_arithmetic_named : (r : MoreArithmetic) → is_intel_name (more_arithmetic_row r).name ≡ true
more_arithmetic_named more_arithmetic.AbsEpi16 = refl
more_arithmetic_named r = refl

more_moves_named : (r : MoreMoves) → is_intel_name (more_moves_row r).name ≡ true
more_moves_named more_moves.AlignrEpi8 = refl
more_moves_named r = refl

more_scalars_named : (r : MoreScalars) → is_intel_name (more_scalars_row r).name ≡ true
more_scalars_named more_scalars.ExtractEpi32 = refl
more_scalars_named r = refl

wide_avx2_named : (r : WideAvx2) → is_intel_name (wide_avx2_row r).name ≡ true
wide_avx2_named wide_avx2.BlendEpi32 = refl
wide_avx2_named r = refl

wide_arithmetic_named : (r : WideArithmetic) → is_intel_name (wide_arithmetic_row r).name ≡ true
wide_arithmetic_named wide_arithmetic.AddEpi16 = refl
wide_arithmetic_named r = refl

wide_more_arithmetic_named : (r : WideMoreArithmetic) → is_intel_name (wide_more_arithmetic_row r).name ≡ true
wide_more_arithmetic_named wide_more_arithmetic.AbsEpi16 = refl
wide_more_arithmetic_named r = refl

wide_logic_named : (r : WideLogic) → is_intel_name (wide_logic_row r).name ≡ true
wide_logic_named wide_logic.AndSi256 = refl
wide_logic_named r = refl

wide_shifts_named : (r : WideShifts) → is_intel_name (wide_shifts_row r).name ≡ true
wide_shifts_named wide_shifts.SllEpi16 = refl
wide_shifts_named r = refl

wide_moves_named : (r : WideMoves) → is_intel_name (wide_moves_row r).name ≡ true
wide_moves_named wide_moves.AlignrEpi8 = refl
wide_moves_named r = refl

wide_crossing_named : (r : WideCrossing) → is_intel_name (wide_crossing_row r).name ≡ true
wide_crossing_named wide_crossing.BroadcastbEpi8 = refl
wide_crossing_named r = refl

wide_scalars_named : (r : WideScalars) → is_intel_name (wide_scalars_row r).name ≡ true
wide_scalars_named wide_scalars.ExtractEpi32 = refl
wide_scalars_named r = refl

wide_loads_named : (r : WideLoads) → is_intel_name (wide_loads_row r).name ≡ true
wide_loads_named wide_loads.I32gatherEpi32 = refl
wide_loads_named r = refl

wide_half_named : (r : WideHalf) → is_intel_name (wide_half_row r).name ≡ true
wide_half_named wide_half.CmpgtEpi64 = refl

lane_arithmetic_named : (r : LaneArithmetic) → is_neon_name (lane_arithmetic_row r).name ≡ true
lane_arithmetic_named lane_arithmetic.VabsqS16 = refl
lane_arithmetic_named r = refl

lane_saturating_named : (r : LaneSaturating) → is_neon_name (lane_saturating_row r).name ≡ true
lane_saturating_named lane_saturating.VabdlHighU8 = refl
lane_saturating_named r = refl

lane_extremes_named : (r : LaneExtremes) → is_neon_name (lane_extremes_row r).name ≡ true
lane_extremes_named lane_extremes.VaddvU8 = refl
lane_extremes_named r = refl

lane_logic_named : (r : LaneLogic) → is_neon_name (lane_logic_row r).name ≡ true
lane_logic_named lane_logic.VandqS16 = refl
lane_logic_named r = refl

lane_choices_named : (r : LaneChoices) → is_neon_name (lane_choices_row r).name ≡ true
lane_choices_named lane_choices.VbslqS16 = refl
lane_choices_named r = refl

lane_shifts_named : (r : LaneShifts) → is_neon_name (lane_shifts_row r).name ≡ true
lane_shifts_named lane_shifts.VshlqNS16 = refl
lane_shifts_named r = refl

lane_products_named : (r : LaneProducts) → is_neon_name (lane_products_row r).name ≡ true
lane_products_named lane_products.VmullHighS16 = refl
lane_products_named r = refl

move_widened_named : (r : MoveWidened) → is_neon_name (move_widened_row r).name ≡ true
move_widened_named move_widened.VmovlHighS16 = refl
move_widened_named r = refl

move_narrowed_named : (r : MoveNarrowed) → is_neon_name (move_narrowed_row r).name ≡ true
move_narrowed_named move_narrowed.VmovnS16 = refl
move_narrowed_named r = refl

move_permuting_named : (r : MovePermuting) → is_neon_name (move_permuting_row r).name ≡ true
move_permuting_named move_permuting.Vrev16qU8 = refl
move_permuting_named r = refl

move_halves_named : (r : MoveHalves) → is_neon_name (move_halves_row r).name ≡ true
move_halves_named move_halves.VcombineS16 = refl
move_halves_named r = refl

move_places_named : (r : MovePlaces) → is_neon_name (move_places_row r).name ≡ true
move_places_named move_places.VdupqLaneqU16 = refl
move_places_named r = refl

move_to_unsigned_named : (r : MoveToUnsigned) → is_neon_name (move_to_unsigned_row r).name ≡ true
move_to_unsigned_named move_to_unsigned.VreinterpretqU16S16 = refl
move_to_unsigned_named r = refl

move_to_signed_named : (r : MoveToSigned) → is_neon_name (move_to_signed_row r).name ≡ true
move_to_signed_named move_to_signed.VreinterpretqS16S32 = refl
move_to_signed_named r = refl

move_bytes_named : (r : MoveBytes) → is_neon_name (move_bytes_row r).name ≡ true
move_bytes_named move_bytes.VcreateU8 = refl
move_bytes_named r = refl

base_named : (op : BaseOp) → is_intel_name (base.name_of op) ≡ true
base_named (base_op.Arithmetic r) = base_arithmetic_named r
base_named (base_op.Logic r) = base_logic_named r
base_named (base_op.Moves r) = base_moves_named r
base_named (base_op.Scalars r) = base_scalars_named r
base_named (base_op.Loads r) = base_loads_named r

more_named : (op : MoreOp) → is_intel_name (more.name_of op) ≡ true
more_named (more_op.Arithmetic r) = more_arithmetic_named r
more_named (more_op.Moves r) = more_moves_named r
more_named (more_op.Scalars r) = more_scalars_named r

wide_named : (op : WideOp) → is_intel_name (wide.name_of op) ≡ true
wide_named (wide_op.Avx2 r) = wide_avx2_named r
wide_named (wide_op.Arithmetic r) = wide_arithmetic_named r
wide_named (wide_op.MoreArithmetic r) = wide_more_arithmetic_named r
wide_named (wide_op.Logic r) = wide_logic_named r
wide_named (wide_op.Shifts r) = wide_shifts_named r
wide_named (wide_op.Moves r) = wide_moves_named r
wide_named (wide_op.Crossing r) = wide_crossing_named r
wide_named (wide_op.Scalars r) = wide_scalars_named r
wide_named (wide_op.Loads r) = wide_loads_named r
wide_named (wide_op.Half r) = wide_half_named r

lane_named : (op : LaneOp) → is_neon_name (lane.name_of op) ≡ true
lane_named (lane_op.Arithmetic r) = lane_arithmetic_named r
lane_named (lane_op.Saturating r) = lane_saturating_named r
lane_named (lane_op.Extremes r) = lane_extremes_named r
lane_named (lane_op.Logic r) = lane_logic_named r
lane_named (lane_op.Choices r) = lane_choices_named r
lane_named (lane_op.Shifts r) = lane_shifts_named r
lane_named (lane_op.Products r) = lane_products_named r

move_named : (op : MoveOp) → is_neon_name (move.name_of op) ≡ true
move_named (move_op.Widened r) = move_widened_named r
move_named (move_op.Narrowed r) = move_narrowed_named r
move_named (move_op.Permuting r) = move_permuting_named r
move_named (move_op.Halves r) = move_halves_named r
move_named (move_op.Places r) = move_places_named r
move_named (move_op.ToUnsigned r) = move_to_unsigned_named r
move_named (move_op.ToSigned r) = move_to_signed_named r
move_named (move_op.Bytes r) = move_bytes_named r

-- ---- the tables

intel_named : (op : IntelOp) → is_intel_name (intel.name_of op) ≡ true
intel_named op = at op.row
  where
    at : (r : Part) → is_intel_name (intel.part_name r) ≡ true
    at (part.Base r) = base_named r
    at (part.More r) = more_named r
    at (part.Wide r) = wide_named r

neon_named : (op : NeonOp) → is_neon_name (neon.name_of op) ≡ true
neon_named op = at op.row
  where
    at : (r : NeonPart) → is_neon_name (neon.part_name r) ≡ true
    at (neon_part.Lane r) = lane_named r
    at (neon_part.Move r) = move_named r

-- a row that is found has such a name
pub intel_name : (x : List ℕ) (op : IntelOp) → intel.find_of x ≡ Some op → is_intel_name x ≡ true
intel_name x op h = subst (λ y. is_intel_name y ≡ true) (subst (λ o. IfSome o (λ r. intel.name_of r ≡ x)) h (intel_found.found_has_its_name x)) (intel_named op)

pub neon_name : (x : List ℕ) (op : NeonOp) → neon.find_of x ≡ Some op → is_neon_name x ≡ true
neon_name x op h = subst (λ y. is_neon_name y ≡ true) (subst (λ o. IfSome o (λ r. neon.name_of r ≡ x)) h (neon_found.found_has_its_name x)) (neon_named op)
