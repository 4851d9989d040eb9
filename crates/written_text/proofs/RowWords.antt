-- The names of rows: each is a name of C, and a Neon row's is a name in a text of the Neon dialect.
use Rattle.std.proofs.Common.{◌≡◌, refl, subst, ℕ, Bool, true, false, not, ◌&&◌, List, Some, IfSome}
use Rattle.std.specs.Prelude.{bytes_eq}
use Rattle.std.specs.List.{list_any}
use Rattle.c_text.specs.declared.tokens.Dialect.TheVariants.{Neon}
use Rattle.c_text.specs.Forms.{is_name}
use Rattle.c_text.specs.PredefinedNames.{predefined_names}
use Rattle.c_parse.specs.declared.symbols.Symbol.{Symbol}
use Rattle.c_parse.specs.declared.symbols.Symbol.TheVariants as symbols
use Rattle.c_parse.specs.Symbols.{name_symbol}
use Rattle.intel_table.specs.declared.IntelOp.{IntelOp}
use Rattle.intel_table.specs.declared.Part.{Part}
use Rattle.intel_table.specs.declared.Part.TheVariants as part
use Rattle.intel_table.specs.Rows as intel
use Rattle.intel_table.specs.Found as intel_found
use Rattle.neon_table.specs.declared.NeonOp.{NeonOp}
use Rattle.neon_table.specs.declared.Part.{Part as NeonPart}
use Rattle.neon_table.specs.declared.Part.TheVariants as neon_part
use Rattle.neon_table.specs.Rows as neon
use Rattle.round_trip.specs.Good.{GoodName}
use Rattle.intel_base.specs.declared.arithmetic.Arithmetic.{Arithmetic as BaseArithmetic}
use Rattle.intel_base.specs.declared.arithmetic.Arithmetic.TheVariants as base_arithmetic
use Rattle.intel_base.specs.ArithmeticRows.{arithmetic_row as base_arithmetic_row}
use Rattle.intel_base.specs.declared.logic.Logic.{Logic as BaseLogic}
use Rattle.intel_base.specs.declared.logic.Logic.TheVariants as base_logic
use Rattle.intel_base.specs.LogicRows.{logic_row as base_logic_row}
use Rattle.intel_base.specs.declared.moves.Moves.{Moves as BaseMoves}
use Rattle.intel_base.specs.declared.moves.Moves.TheVariants as base_moves
use Rattle.intel_base.specs.MovesRows.{moves_row as base_moves_row}
use Rattle.intel_base.specs.declared.scalars.Scalars.{Scalars as BaseScalars}
use Rattle.intel_base.specs.declared.scalars.Scalars.TheVariants as base_scalars
use Rattle.intel_base.specs.ScalarsRows.{scalars_row as base_scalars_row}
use Rattle.intel_base.specs.declared.loads.Loads.{Loads as BaseLoads}
use Rattle.intel_base.specs.declared.loads.Loads.TheVariants as base_loads
use Rattle.intel_base.specs.LoadsRows.{loads_row as base_loads_row}
use Rattle.intel_more.specs.declared.arithmetic.Arithmetic.{Arithmetic as MoreArithmetic}
use Rattle.intel_more.specs.declared.arithmetic.Arithmetic.TheVariants as more_arithmetic
use Rattle.intel_more.specs.ArithmeticRows.{arithmetic_row as more_arithmetic_row}
use Rattle.intel_more.specs.declared.moves.Moves.{Moves as MoreMoves}
use Rattle.intel_more.specs.declared.moves.Moves.TheVariants as more_moves
use Rattle.intel_more.specs.MovesRows.{moves_row as more_moves_row}
use Rattle.intel_more.specs.declared.scalars.Scalars.{Scalars as MoreScalars}
use Rattle.intel_more.specs.declared.scalars.Scalars.TheVariants as more_scalars
use Rattle.intel_more.specs.ScalarsRows.{scalars_row as more_scalars_row}
use Rattle.intel_wide.specs.declared.avx2.Avx2.{Avx2 as WideAvx2}
use Rattle.intel_wide.specs.declared.avx2.Avx2.TheVariants as wide_avx2
use Rattle.intel_wide.specs.Avx2Rows.{avx2_row as wide_avx2_row}
use Rattle.intel_wide.specs.declared.arithmetic.Arithmetic.{Arithmetic as WideArithmetic}
use Rattle.intel_wide.specs.declared.arithmetic.Arithmetic.TheVariants as wide_arithmetic
use Rattle.intel_wide.specs.ArithmeticRows.{arithmetic_row as wide_arithmetic_row}
use Rattle.intel_wide.specs.declared.more_arithmetic.MoreArithmetic.{MoreArithmetic as WideMoreArithmetic}
use Rattle.intel_wide.specs.declared.more_arithmetic.MoreArithmetic.TheVariants as wide_more_arithmetic
use Rattle.intel_wide.specs.MoreArithmeticRows.{more_arithmetic_row as wide_more_arithmetic_row}
use Rattle.intel_wide.specs.declared.logic.Logic.{Logic as WideLogic}
use Rattle.intel_wide.specs.declared.logic.Logic.TheVariants as wide_logic
use Rattle.intel_wide.specs.LogicRows.{logic_row as wide_logic_row}
use Rattle.intel_wide.specs.declared.shifts.Shifts.{Shifts as WideShifts}
use Rattle.intel_wide.specs.declared.shifts.Shifts.TheVariants as wide_shifts
use Rattle.intel_wide.specs.ShiftsRows.{shifts_row as wide_shifts_row}
use Rattle.intel_wide.specs.declared.moves.Moves.{Moves as WideMoves}
use Rattle.intel_wide.specs.declared.moves.Moves.TheVariants as wide_moves
use Rattle.intel_wide.specs.MovesRows.{moves_row as wide_moves_row}
use Rattle.intel_wide.specs.declared.crossing.Crossing.{Crossing as WideCrossing}
use Rattle.intel_wide.specs.declared.crossing.Crossing.TheVariants as wide_crossing
use Rattle.intel_wide.specs.CrossingRows.{crossing_row as wide_crossing_row}
use Rattle.intel_wide.specs.declared.scalars.Scalars.{Scalars as WideScalars}
use Rattle.intel_wide.specs.declared.scalars.Scalars.TheVariants as wide_scalars
use Rattle.intel_wide.specs.ScalarsRows.{scalars_row as wide_scalars_row}
use Rattle.intel_wide.specs.declared.loads.Loads.{Loads as WideLoads}
use Rattle.intel_wide.specs.declared.loads.Loads.TheVariants as wide_loads
use Rattle.intel_wide.specs.LoadsRows.{loads_row as wide_loads_row}
use Rattle.intel_wide.specs.declared.half.Half.{Half as WideHalf}
use Rattle.intel_wide.specs.declared.half.Half.TheVariants as wide_half
use Rattle.intel_wide.specs.HalfRows.{half_row as wide_half_row}
use Rattle.neon_lane.specs.declared.arithmetic.Arithmetic.{Arithmetic as LaneArithmetic}
use Rattle.neon_lane.specs.declared.arithmetic.Arithmetic.TheVariants as lane_arithmetic
use Rattle.neon_lane.specs.ArithmeticRows.{arithmetic_row as lane_arithmetic_row}
use Rattle.neon_lane.specs.declared.saturating.Saturating.{Saturating as LaneSaturating}
use Rattle.neon_lane.specs.declared.saturating.Saturating.TheVariants as lane_saturating
use Rattle.neon_lane.specs.SaturatingRows.{saturating_row as lane_saturating_row}
use Rattle.neon_lane.specs.declared.extremes.Extremes.{Extremes as LaneExtremes}
use Rattle.neon_lane.specs.declared.extremes.Extremes.TheVariants as lane_extremes
use Rattle.neon_lane.specs.ExtremesRows.{extremes_row as lane_extremes_row}
use Rattle.neon_lane.specs.declared.logic.Logic.{Logic as LaneLogic}
use Rattle.neon_lane.specs.declared.logic.Logic.TheVariants as lane_logic
use Rattle.neon_lane.specs.LogicRows.{logic_row as lane_logic_row}
use Rattle.neon_lane.specs.declared.choices.Choices.{Choices as LaneChoices}
use Rattle.neon_lane.specs.declared.choices.Choices.TheVariants as lane_choices
use Rattle.neon_lane.specs.ChoicesRows.{choices_row as lane_choices_row}
use Rattle.neon_lane.specs.declared.shifts.Shifts.{Shifts as LaneShifts}
use Rattle.neon_lane.specs.declared.shifts.Shifts.TheVariants as lane_shifts
use Rattle.neon_lane.specs.ShiftsRows.{shifts_row as lane_shifts_row}
use Rattle.neon_lane.specs.declared.products.Products.{Products as LaneProducts}
use Rattle.neon_lane.specs.declared.products.Products.TheVariants as lane_products
use Rattle.neon_lane.specs.ProductsRows.{products_row as lane_products_row}
use Rattle.neon_move.specs.declared.widened.Widened.{Widened as MoveWidened}
use Rattle.neon_move.specs.declared.widened.Widened.TheVariants as move_widened
use Rattle.neon_move.specs.WidenedRows.{widened_row as move_widened_row}
use Rattle.neon_move.specs.declared.narrowed.Narrowed.{Narrowed as MoveNarrowed}
use Rattle.neon_move.specs.declared.narrowed.Narrowed.TheVariants as move_narrowed
use Rattle.neon_move.specs.NarrowedRows.{narrowed_row as move_narrowed_row}
use Rattle.neon_move.specs.declared.permuting.Permuting.{Permuting as MovePermuting}
use Rattle.neon_move.specs.declared.permuting.Permuting.TheVariants as move_permuting
use Rattle.neon_move.specs.PermutingRows.{permuting_row as move_permuting_row}
use Rattle.neon_move.specs.declared.halves.Halves.{Halves as MoveHalves}
use Rattle.neon_move.specs.declared.halves.Halves.TheVariants as move_halves
use Rattle.neon_move.specs.HalvesRows.{halves_row as move_halves_row}
use Rattle.neon_move.specs.declared.places.Places.{Places as MovePlaces}
use Rattle.neon_move.specs.declared.places.Places.TheVariants as move_places
use Rattle.neon_move.specs.PlacesRows.{places_row as move_places_row}
use Rattle.neon_move.specs.declared.to_unsigned.ToUnsigned.{ToUnsigned as MoveToUnsigned}
use Rattle.neon_move.specs.declared.to_unsigned.ToUnsigned.TheVariants as move_to_unsigned
use Rattle.neon_move.specs.ToUnsignedRows.{to_unsigned_row as move_to_unsigned_row}
use Rattle.neon_move.specs.declared.to_signed.ToSigned.{ToSigned as MoveToSigned}
use Rattle.neon_move.specs.declared.to_signed.ToSigned.TheVariants as move_to_signed
use Rattle.neon_move.specs.ToSignedRows.{to_signed_row as move_to_signed_row}
use Rattle.neon_move.specs.declared.bytes.Bytes.{Bytes as MoveBytes}
use Rattle.neon_move.specs.declared.bytes.Bytes.TheVariants as move_bytes
use Rattle.neon_move.specs.BytesRows.{bytes_row as move_bytes_row}
use Rattle.intel_base.specs.declared.BaseOp.{BaseOp}
use Rattle.intel_base.specs.declared.BaseOp.TheVariants as base_op
use Rattle.intel_base.specs.Named as base
use Rattle.intel_more.specs.declared.MoreOp.{MoreOp}
use Rattle.intel_more.specs.declared.MoreOp.TheVariants as more_op
use Rattle.intel_more.specs.Named as more
use Rattle.intel_wide.specs.declared.WideOp.{WideOp}
use Rattle.intel_wide.specs.declared.WideOp.TheVariants as wide_op
use Rattle.intel_wide.specs.Named as wide
use Rattle.neon_lane.specs.declared.LaneOp.{LaneOp}
use Rattle.neon_lane.specs.declared.LaneOp.TheVariants as lane_op
use Rattle.neon_lane.specs.Named as lane
use Rattle.neon_move.specs.declared.MoveOp.{MoveOp}
use Rattle.neon_move.specs.declared.MoveOp.TheVariants as move_op
use Rattle.neon_move.specs.Named as move

-- ---- what the names are

abbrev pub is_name_symbol : Symbol → Bool
is_name_symbol symbols.Name = true
is_name_symbol s = false

-- a name of C that is no word of the Neon dialect and no macro of it
abbrev pub is_word : List ℕ → Bool
is_word x = is_name x && (is_name_symbol (name_symbol Neon x) && not (list_any (λ m. bytes_eq x m.name) (predefined_names Neon)))

name_symbol_is : (s : Symbol) → is_name_symbol s ≡ true → s ≡ symbols.Name
name_symbol_is symbols.Name h = refl
name_symbol_is s h = absurd (cc)

first_true : (a b : Bool) → (a && b) ≡ true → a ≡ true
first_true true b h = refl
first_true false b h = absurd (cc)

second_true : (a b : Bool) → (a && b) ≡ true → b ≡ true
second_true true b h = h
second_true false b h = absurd (cc)

not_true : (a : Bool) → not a ≡ true → a ≡ false
not_true true h = absurd (cc)
not_true false h = refl

pub good_word : (x : List ℕ) → is_word x ≡ true → GoodName x
good_word x h =
    let macro = list_any (λ m. bytes_eq x m.name) (predefined_names Neon) in
    let rest = second_true (is_name x) (is_name_symbol (name_symbol Neon x) && not macro) h in
    record {
      named = first_true (is_name x) (is_name_symbol (name_symbol Neon x) && not macro) h;
      free = name_symbol_is (name_symbol Neon x) (first_true (is_name_symbol (name_symbol Neon x)) (not macro) rest);
      no_macro = not_true macro (second_true (is_name_symbol (name_symbol Neon x)) (not macro) rest);
    }

-- ---- each group

base_arithmetic_words : (r : BaseArithmetic) → is_name (base_arithmetic_row r).name ≡ true
base_arithmetic_words base_arithmetic.AddEpi16 = refl
base_arithmetic_words r = refl

base_logic_words : (r : BaseLogic) → is_name (base_logic_row r).name ≡ true
base_logic_words base_logic.AndSi128 = refl
base_logic_words r = refl

base_moves_words : (r : BaseMoves) → is_name (base_moves_row r).name ≡ true
base_moves_words base_moves.BslliSi128 = refl
base_moves_words r = refl

base_scalars_words : (r : BaseScalars) → is_name (base_scalars_row r).name ≡ true
base_scalars_words base_scalars.Cvtsi128Si32 = refl
base_scalars_words r = refl

base_loads_words : (r : BaseLoads) → is_name (base_loads_row r).name ≡ true
base_loads_words base_loads.LddquSi128 = refl
base_loads_words r = refl

more_arithmetic_words : (r : MoreArithmetic) → is_name (more_arithmetic_row r).name ≡ true
more_arithmetic_words more_arithmetic.AbsEpi16 = refl
more_arithmetic_words r = refl

more_moves_words : (r : MoreMoves) → is_name (more_moves_row r).name ≡ true
more_moves_words more_moves.AlignrEpi8 = refl
more_moves_words r = refl

more_scalars_words : (r : MoreScalars) → is_name (more_scalars_row r).name ≡ true
more_scalars_words more_scalars.ExtractEpi32 = refl
more_scalars_words r = refl

wide_avx2_words : (r : WideAvx2) → is_name (wide_avx2_row r).name ≡ true
wide_avx2_words wide_avx2.BlendEpi32 = refl
wide_avx2_words r = refl

wide_arithmetic_words : (r : WideArithmetic) → is_name (wide_arithmetic_row r).name ≡ true
wide_arithmetic_words wide_arithmetic.AddEpi16 = refl
wide_arithmetic_words r = refl

wide_more_arithmetic_words : (r : WideMoreArithmetic) → is_name (wide_more_arithmetic_row r).name ≡ true
wide_more_arithmetic_words wide_more_arithmetic.AbsEpi16 = refl
wide_more_arithmetic_words r = refl

wide_logic_words : (r : WideLogic) → is_name (wide_logic_row r).name ≡ true
wide_logic_words wide_logic.AndSi256 = refl
wide_logic_words r = refl

wide_shifts_words : (r : WideShifts) → is_name (wide_shifts_row r).name ≡ true
wide_shifts_words wide_shifts.SllEpi16 = refl
wide_shifts_words r = refl

wide_moves_words : (r : WideMoves) → is_name (wide_moves_row r).name ≡ true
wide_moves_words wide_moves.AlignrEpi8 = refl
wide_moves_words r = refl

wide_crossing_words : (r : WideCrossing) → is_name (wide_crossing_row r).name ≡ true
wide_crossing_words wide_crossing.BroadcastbEpi8 = refl
wide_crossing_words r = refl

wide_scalars_words : (r : WideScalars) → is_name (wide_scalars_row r).name ≡ true
wide_scalars_words wide_scalars.ExtractEpi32 = refl
wide_scalars_words r = refl

wide_loads_words : (r : WideLoads) → is_name (wide_loads_row r).name ≡ true
wide_loads_words wide_loads.I32gatherEpi32 = refl
wide_loads_words r = refl

wide_half_words : (r : WideHalf) → is_name (wide_half_row r).name ≡ true
wide_half_words wide_half.CmpgtEpi64 = refl

lane_arithmetic_words : (r : LaneArithmetic) → is_word (lane_arithmetic_row r).name ≡ true
lane_arithmetic_words lane_arithmetic.VabsqS16 = refl
lane_arithmetic_words r = refl

lane_saturating_words : (r : LaneSaturating) → is_word (lane_saturating_row r).name ≡ true
lane_saturating_words lane_saturating.VabdlHighU8 = refl
lane_saturating_words r = refl

lane_extremes_words : (r : LaneExtremes) → is_word (lane_extremes_row r).name ≡ true
lane_extremes_words lane_extremes.VaddvU8 = refl
lane_extremes_words r = refl

lane_logic_words : (r : LaneLogic) → is_word (lane_logic_row r).name ≡ true
lane_logic_words lane_logic.VandqS16 = refl
lane_logic_words r = refl

lane_choices_words : (r : LaneChoices) → is_word (lane_choices_row r).name ≡ true
lane_choices_words lane_choices.VbslqS16 = refl
lane_choices_words r = refl

lane_shifts_words : (r : LaneShifts) → is_word (lane_shifts_row r).name ≡ true
lane_shifts_words lane_shifts.VshlqNS16 = refl
lane_shifts_words r = refl

lane_products_words : (r : LaneProducts) → is_word (lane_products_row r).name ≡ true
lane_products_words lane_products.VmullHighS16 = refl
lane_products_words r = refl

move_widened_words : (r : MoveWidened) → is_word (move_widened_row r).name ≡ true
move_widened_words move_widened.VmovlHighS16 = refl
move_widened_words r = refl

move_narrowed_words : (r : MoveNarrowed) → is_word (move_narrowed_row r).name ≡ true
move_narrowed_words move_narrowed.VmovnS16 = refl
move_narrowed_words r = refl

move_permuting_words : (r : MovePermuting) → is_word (move_permuting_row r).name ≡ true
move_permuting_words move_permuting.Vrev16qU8 = refl
move_permuting_words r = refl

move_halves_words : (r : MoveHalves) → is_word (move_halves_row r).name ≡ true
move_halves_words move_halves.VcombineS16 = refl
move_halves_words r = refl

move_places_words : (r : MovePlaces) → is_word (move_places_row r).name ≡ true
move_places_words move_places.VdupqLaneqU16 = refl
move_places_words r = refl

move_to_unsigned_words : (r : MoveToUnsigned) → is_word (move_to_unsigned_row r).name ≡ true
move_to_unsigned_words move_to_unsigned.VreinterpretqU16S16 = refl
move_to_unsigned_words r = refl

move_to_signed_words : (r : MoveToSigned) → is_word (move_to_signed_row r).name ≡ true
move_to_signed_words move_to_signed.VreinterpretqS16S32 = refl
move_to_signed_words r = refl

move_bytes_words : (r : MoveBytes) → is_word (move_bytes_row r).name ≡ true
move_bytes_words move_bytes.VcreateU8 = refl
move_bytes_words r = refl

base_words : (op : BaseOp) → is_name (base.name_of op) ≡ true
base_words (base_op.Arithmetic r) = base_arithmetic_words r
base_words (base_op.Logic r) = base_logic_words r
base_words (base_op.Moves r) = base_moves_words r
base_words (base_op.Scalars r) = base_scalars_words r
base_words (base_op.Loads r) = base_loads_words r

more_words : (op : MoreOp) → is_name (more.name_of op) ≡ true
more_words (more_op.Arithmetic r) = more_arithmetic_words r
more_words (more_op.Moves r) = more_moves_words r
more_words (more_op.Scalars r) = more_scalars_words r

wide_words : (op : WideOp) → is_name (wide.name_of op) ≡ true
wide_words (wide_op.Avx2 r) = wide_avx2_words r
wide_words (wide_op.Arithmetic r) = wide_arithmetic_words r
wide_words (wide_op.MoreArithmetic r) = wide_more_arithmetic_words r
wide_words (wide_op.Logic r) = wide_logic_words r
wide_words (wide_op.Shifts r) = wide_shifts_words r
wide_words (wide_op.Moves r) = wide_moves_words r
wide_words (wide_op.Crossing r) = wide_crossing_words r
wide_words (wide_op.Scalars r) = wide_scalars_words r
wide_words (wide_op.Loads r) = wide_loads_words r
wide_words (wide_op.Half r) = wide_half_words r

lane_words : (op : LaneOp) → is_word (lane.name_of op) ≡ true
lane_words (lane_op.Arithmetic r) = lane_arithmetic_words r
lane_words (lane_op.Saturating r) = lane_saturating_words r
lane_words (lane_op.Extremes r) = lane_extremes_words r
lane_words (lane_op.Logic r) = lane_logic_words r
lane_words (lane_op.Choices r) = lane_choices_words r
lane_words (lane_op.Shifts r) = lane_shifts_words r
lane_words (lane_op.Products r) = lane_products_words r

move_words : (op : MoveOp) → is_word (move.name_of op) ≡ true
move_words (move_op.Widened r) = move_widened_words r
move_words (move_op.Narrowed r) = move_narrowed_words r
move_words (move_op.Permuting r) = move_permuting_words r
move_words (move_op.Halves r) = move_halves_words r
move_words (move_op.Places r) = move_places_words r
move_words (move_op.ToUnsigned r) = move_to_unsigned_words r
move_words (move_op.ToSigned r) = move_to_signed_words r
move_words (move_op.Bytes r) = move_bytes_words r

-- ---- the tables

intel_words : (op : IntelOp) → is_name (intel.name_of op) ≡ true
intel_words op = at op.row
  where
    at : (r : Part) → is_name (intel.part_name r) ≡ true
    at (part.Base r) = base_words r
    at (part.More r) = more_words r
    at (part.Wide r) = wide_words r

-- an Intel row that is found has a name of C
pub intel_named : (x : List ℕ) (op : IntelOp) → intel.find_of x ≡ Some op → is_name x ≡ true
intel_named x op h = subst (λ y. is_name y ≡ true) (subst (λ o. IfSome o (λ r. intel.name_of r ≡ x)) h (intel_found.found_has_its_name x)) (intel_words op)

neon_words : (op : NeonOp) → is_word (neon.name_of op) ≡ true
neon_words op = at op.row
  where
    at : (r : NeonPart) → is_word (neon.part_name r) ≡ true
    at (neon_part.Lane r) = lane_words r
    at (neon_part.Move r) = move_words r

pub neon_row_named : (op : NeonOp) → GoodName (neon.name_of op)
neon_row_named op = good_word (neon.name_of op) (neon_words op)
