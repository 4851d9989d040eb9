-- The names of parameters and steps are no row's, and differ from each other.
use Rattle.std.proofs.Common.{◌≡◌, ℕ, ◌<◌, ◌^◌, List, Bool, true, false, refl, sym, ap, ◌∙◌, arith, drop, is_some}
use Rattle.std.proofs.lemmas.Fmt.{decimal_injective}
use Rattle.std.specs.Cmp.Lexicographic.{bytes_decides}
use Rattle.row_names.specs.Groups.{first_named}
use Rattle.neon_lane.specs.ArithmeticRows as lane_arithmetic
use Rattle.neon_lane.specs.SaturatingRows as lane_saturating
use Rattle.neon_lane.specs.ExtremesRows as lane_extremes
use Rattle.neon_lane.specs.LogicRows as lane_logic
use Rattle.neon_lane.specs.ChoicesRows as lane_choices
use Rattle.neon_lane.specs.ShiftsRows as lane_shifts
use Rattle.neon_lane.specs.ProductsRows as lane_products
use Rattle.neon_move.specs.WidenedRows as move_widened
use Rattle.neon_move.specs.NarrowedRows as move_narrowed
use Rattle.neon_move.specs.PermutingRows as move_permuting
use Rattle.neon_move.specs.HalvesRows as move_halves
use Rattle.neon_move.specs.PlacesRows as move_places
use Rattle.neon_move.specs.ToUnsignedRows as move_to_unsigned
use Rattle.neon_move.specs.ToSignedRows as move_to_signed
use Rattle.neon_move.specs.BytesRows as move_bytes
use Rattle.neon_table.specs.declared.NeonOp.{NeonOp}
use Rattle.neon_table.specs.Rows.{name_of, find_of, lane_rows, move_rows}
use Rattle.neon_table.specs.Found.{found_by_name}
use Rattle.scopes.specs.Scopes.{same_name}
use Rattle.vector_types.specs.Rows.{is_neon_row}
use Rattle.seq_core.specs.Functions.{param_name, step_name}

-- every row's name begins with `v`
pub param_no_row : (k : ℕ) → is_neon_row (param_name k) ≡ false
unfolding find_of first_named lane_rows move_rows lane_arithmetic.arithmetic_rows lane_saturating.saturating_rows lane_extremes.extremes_rows lane_logic.logic_rows lane_choices.choices_rows lane_shifts.shifts_rows lane_products.products_rows move_widened.widened_rows move_narrowed.narrowed_rows move_permuting.permuting_rows move_halves.halves_rows move_places.places_rows move_to_unsigned.to_unsigned_rows move_to_signed.to_signed_rows move_bytes.bytes_rows
param_no_row k = refl

pub step_no_row : (k : ℕ) → is_neon_row (step_name k) ≡ false
unfolding find_of first_named lane_rows move_rows lane_arithmetic.arithmetic_rows lane_saturating.saturating_rows lane_extremes.extremes_rows lane_logic.logic_rows lane_choices.choices_rows lane_shifts.shifts_rows lane_products.products_rows move_widened.widened_rows move_narrowed.narrowed_rows move_permuting.permuting_rows move_halves.halves_rows move_places.places_rows move_to_unsigned.to_unsigned_rows move_to_signed.to_signed_rows move_bytes.bytes_rows
step_no_row k = refl

-- a row's name is a row's
pub row_is_row : (op : NeonOp) → is_neon_row (name_of op) ≡ true
row_is_row op = ap is_some (found_by_name op)

-- names that differ
pub not_same : (x y : List ℕ) → (x ≡ y → ⊥) → same_name x y ≡ false
not_same x y h = at (same_name x y) refl
  where
    at : (b : Bool) → same_name x y ≡ b → same_name x y ≡ false
    at true e = absurd (h ((bytes_decides x y).0 e))
    at false e = e

true_false : true ≡ false → ⊥
true_false h = cc

pub other_than_row : (op : NeonOp) (x : List ℕ) → is_neon_row x ≡ false → same_name (name_of op) x ≡ false
other_than_row op x h = not_same (name_of op) x (λ e. true_false (sym (row_is_row op) ∙ ap is_neon_row e ∙ h))

pub params_differ : (k n : ℕ) → n < k → k < 2 ^ 64 → same_name (param_name k) (param_name n) ≡ false
params_differ k n h l = not_same (param_name k) (param_name n) (λ e. let d = decimal_injective k n l (omega (arith, h, l)) (ap (drop 1) e) in omega (arith, d, h))

pub steps_differ : (k n : ℕ) → n < k → k < 2 ^ 64 → same_name (step_name k) (step_name n) ≡ false
steps_differ k n h l = not_same (step_name k) (step_name n) (λ e. let d = decimal_injective k n l (omega (arith, h, l)) (ap (drop 1) e) in omega (arith, d, h))

pub step_other_than_param : (k n : ℕ) → same_name (step_name k) (param_name n) ≡ false
step_other_than_param k n = refl

pub param_other_than_step : (k n : ℕ) → same_name (param_name k) (step_name n) ≡ false
param_other_than_step k n = refl
