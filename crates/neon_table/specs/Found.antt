-- What holds of the names.
use Rattle.std.proofs.Common.{◌≡◌, ℕ, List, [], ◌∷◌, map, Option, Some, None, sym, ◌∙◌, ap, refl}
use Rattle.std.specs.Prelude.{IfSome, IsNone, Contains, ◌↔◌}
use Rattle.std.specs.Option.{option_map, option_or}
use Rattle.row_names.specs.Groups.{first_named, named_in_both}
use Rattle.row_names.proofs.Found.{find_rows}
use Rattle.row_names.proofs.Named.{found_has_name, none_where_no_name}
use Rattle.neon_lane.specs.declared.LaneOp.TheVariants as lane_row
use Rattle.neon_lane.specs.Named as lane_named
use Rattle.neon_lane.specs.Rows as lane
use Rattle.neon_move.specs.declared.MoveOp.TheVariants as move_row
use Rattle.neon_move.specs.Named as move_named
use Rattle.neon_move.specs.Rows as moves
use Rattle.neon_table.specs.declared.NeonOp.{NeonOp}
use Rattle.neon_table.specs.declared.Part.{Part}
use Rattle.neon_table.specs.declared.Part.TheVariants.{Lane, Move}
use Rattle.neon_table.specs.Rows.{of_lane, of_move, part_name, name_of, lane_rows, move_rows, rows, names, find_of}
use Rattle.neon_lane.specs.ArithmeticRows as lane_arithmetic
use Rattle.neon_lane.specs.declared.arithmetic.Arithmetic.TheVariants as lane_arithmetic_row
use Rattle.neon_lane.specs.SaturatingRows as lane_saturating
use Rattle.neon_lane.specs.declared.saturating.Saturating.TheVariants as lane_saturating_row
use Rattle.neon_lane.specs.ExtremesRows as lane_extremes
use Rattle.neon_lane.specs.declared.extremes.Extremes.TheVariants as lane_extremes_row
use Rattle.neon_lane.specs.LogicRows as lane_logic
use Rattle.neon_lane.specs.declared.logic.Logic.TheVariants as lane_logic_row
use Rattle.neon_lane.specs.ChoicesRows as lane_choices
use Rattle.neon_lane.specs.declared.choices.Choices.TheVariants as lane_choices_row
use Rattle.neon_lane.specs.ShiftsRows as lane_shifts
use Rattle.neon_lane.specs.declared.shifts.Shifts.TheVariants as lane_shifts_row
use Rattle.neon_lane.specs.ProductsRows as lane_products
use Rattle.neon_lane.specs.declared.products.Products.TheVariants as lane_products_row
use Rattle.neon_move.specs.WidenedRows as move_widened
use Rattle.neon_move.specs.declared.widened.Widened.TheVariants as move_widened_row
use Rattle.neon_move.specs.NarrowedRows as move_narrowed
use Rattle.neon_move.specs.declared.narrowed.Narrowed.TheVariants as move_narrowed_row
use Rattle.neon_move.specs.PermutingRows as move_permuting
use Rattle.neon_move.specs.declared.permuting.Permuting.TheVariants as move_permuting_row
use Rattle.neon_move.specs.HalvesRows as move_halves
use Rattle.neon_move.specs.declared.halves.Halves.TheVariants as move_halves_row
use Rattle.neon_move.specs.PlacesRows as move_places
use Rattle.neon_move.specs.declared.places.Places.TheVariants as move_places_row
use Rattle.neon_move.specs.ToUnsignedRows as move_to_unsigned
use Rattle.neon_move.specs.declared.to_unsigned.ToUnsigned.TheVariants as move_to_unsigned_row
use Rattle.neon_move.specs.ToSignedRows as move_to_signed
use Rattle.neon_move.specs.declared.to_signed.ToSigned.TheVariants as move_to_signed_row
use Rattle.neon_move.specs.BytesRows as move_bytes
use Rattle.neon_move.specs.declared.bytes.Bytes.TheVariants as move_bytes_row

-- names that a part and the table agree on, over a list
map_names : {A : Type 0} (text : A → List ℕ) (row : A → NeonOp) → ((x : A) → text x ≡ name_of (row x)) → (xs : List A) → map text xs ≡ map name_of (map row xs)
map_names text row e [] = refl
map_names text row e (x ∷ xs) = rw (e x, map_names text row e xs) refl

-- the rows of a part among those of the table
found_in_part : {A : Type 0} (text : A → List ℕ) (row : A → NeonOp) (name : List ℕ) (xs : List A) → map text xs ≡ map name_of (map row xs)
    → first_named name_of (map row xs) name ≡ option_map row (first_named text xs name)
unfolding first_named
found_in_part text row name xs e = find_rows text row name_of name xs e

-- a row is found where the first part that has the name finds it
pub found_in_parts : (name : List ℕ) → find_of name ≡ option_or (option_map of_lane (lane.find_of name)) (option_map of_move (moves.find_of name))
unfolding find_of lane_rows move_rows
found_in_parts name =
    named_in_both name_of (map of_lane lane.rows) (map of_move moves.rows) name
    ∙ ap (λ o. option_or o (first_named name_of (map of_move moves.rows) name)) (found_in_part lane_named.name_of of_lane name lane.rows (map_names lane_named.name_of of_lane (λ x. refl) lane.rows))
    ∙ ap (option_or (option_map of_lane (lane.find_of name))) (found_in_part move_named.name_of of_move name moves.rows (map_names move_named.name_of of_move (λ x. refl) moves.rows))

-- the row that is found has the name
pub found_has_its_name : (name : List ℕ) → IfSome (find_of name) (λ op. name_of op ≡ name)
unfolding find_of first_named
found_has_its_name name = by (find_of name) refl
  where
    by : (r : Option NeonOp) → find_of name ≡ r → IfSome r (λ op. name_of op ≡ name)
    by None e = tt
    by (Some op) e = (found_has_name name_of name rows op e).0

-- none is found exactly where the name isn't in the list
pub none_exactly_outside : (name : List ℕ) → IsNone (find_of name) ↔ ¬ (Contains names name)
unfolding find_of first_named names
none_exactly_outside name = none_where_no_name name_of name rows (find_of name) refl

-- a row is found by its name: computed for each. A law names one row of a group, and its last line stands for the others
found_part : (row : Part) → find_of (part_name row) ≡ Some (record { row = row })
unfolding find_of first_named lane_rows move_rows lane_arithmetic.arithmetic_rows lane_saturating.saturating_rows lane_extremes.extremes_rows lane_logic.logic_rows lane_choices.choices_rows lane_shifts.shifts_rows lane_products.products_rows move_widened.widened_rows move_narrowed.narrowed_rows move_permuting.permuting_rows move_halves.halves_rows move_places.places_rows move_to_unsigned.to_unsigned_rows move_to_signed.to_signed_rows move_bytes.bytes_rows
found_part (Lane (lane_row.Arithmetic lane_arithmetic_row.VabsqS16)) = refl
found_part (Lane (lane_row.Arithmetic _)) = refl
found_part (Lane (lane_row.Saturating lane_saturating_row.VabdlHighU8)) = refl
found_part (Lane (lane_row.Saturating _)) = refl
found_part (Lane (lane_row.Extremes lane_extremes_row.VaddvU8)) = refl
found_part (Lane (lane_row.Extremes _)) = refl
found_part (Lane (lane_row.Logic lane_logic_row.VandqS16)) = refl
found_part (Lane (lane_row.Logic _)) = refl
found_part (Lane (lane_row.Choices lane_choices_row.VbslqS16)) = refl
found_part (Lane (lane_row.Choices _)) = refl
found_part (Lane (lane_row.Shifts lane_shifts_row.VshlqNS16)) = refl
found_part (Lane (lane_row.Shifts _)) = refl
found_part (Lane (lane_row.Products lane_products_row.VmullHighS16)) = refl
found_part (Lane (lane_row.Products _)) = refl
found_part (Move (move_row.Widened move_widened_row.VmovlHighS16)) = refl
found_part (Move (move_row.Widened _)) = refl
found_part (Move (move_row.Narrowed move_narrowed_row.VmovnS16)) = refl
found_part (Move (move_row.Narrowed _)) = refl
found_part (Move (move_row.Permuting move_permuting_row.Vrev16qU8)) = refl
found_part (Move (move_row.Permuting _)) = refl
found_part (Move (move_row.Halves move_halves_row.VcombineS16)) = refl
found_part (Move (move_row.Halves _)) = refl
found_part (Move (move_row.Places move_places_row.VdupqLaneqU16)) = refl
found_part (Move (move_row.Places _)) = refl
found_part (Move (move_row.ToUnsigned move_to_unsigned_row.VreinterpretqU16S16)) = refl
found_part (Move (move_row.ToUnsigned _)) = refl
found_part (Move (move_row.ToSigned move_to_signed_row.VreinterpretqS16S32)) = refl
found_part (Move (move_row.ToSigned _)) = refl
found_part (Move (move_row.Bytes move_bytes_row.VcreateU8)) = refl
found_part (Move (move_row.Bytes _)) = refl

pub found_by_name : (op : NeonOp) → find_of (name_of op) ≡ Some op
found_by_name op = found_part op.row

-- two rows with one name are the same
pub same_by_name : (op other : NeonOp) → name_of other ≡ name_of op → other ≡ op
same_by_name op other e = let found : Some other ≡ Some op = sym (found_by_name other) ∙ ap find_of e ∙ found_by_name op in cc
