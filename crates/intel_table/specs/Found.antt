-- What holds of the names.
use Rattle.std.proofs.Common.{◌≡◌, ℕ, List, [], ◌∷◌, ◌++◌, map, Option, Some, None, Bool, true, false, sym, ◌∙◌, ap, refl}
use Rattle.std.specs.Prelude.{IfSome, IsNone, Contains, ◌↔◌}
use Rattle.std.specs.Option.{option_map, option_or}
use Rattle.row_names.specs.Groups.{first_named, named_in_both}
use Rattle.row_names.proofs.Found.{find_rows}
use Rattle.row_names.proofs.Named.{found_has_name, none_where_no_name}
use Rattle.intel_base.specs.declared.BaseOp.TheVariants as base_row
use Rattle.intel_base.specs.Named as base_named
use Rattle.intel_base.specs.Rows as base
use Rattle.intel_more.specs.declared.MoreOp.TheVariants as more_row
use Rattle.intel_more.specs.Named as more_named
use Rattle.intel_more.specs.Rows as more
use Rattle.intel_wide.specs.declared.WideOp.TheVariants as wide_row
use Rattle.intel_wide.specs.Named as wide_named
use Rattle.intel_wide.specs.Rows as wide
use Rattle.intel_table.specs.declared.IntelOp.{IntelOp}
use Rattle.intel_table.specs.declared.Part.{Part}
use Rattle.intel_table.specs.declared.Part.TheVariants.{Base, More, Wide}
use Rattle.intel_table.specs.Rows.{of_base, of_more, of_wide, part_name, name_of, base_rows, more_rows, wide_rows, rows, names, find_of, is_half, listed}
use Rattle.intel_base.specs.ArithmeticRows as base_arithmetic
use Rattle.intel_base.specs.declared.arithmetic.Arithmetic.TheVariants as base_arithmetic_row
use Rattle.intel_base.specs.LogicRows as base_logic
use Rattle.intel_base.specs.declared.logic.Logic.TheVariants as base_logic_row
use Rattle.intel_base.specs.MovesRows as base_moves
use Rattle.intel_base.specs.declared.moves.Moves.TheVariants as base_moves_row
use Rattle.intel_base.specs.ScalarsRows as base_scalars
use Rattle.intel_base.specs.declared.scalars.Scalars.TheVariants as base_scalars_row
use Rattle.intel_base.specs.LoadsRows as base_loads
use Rattle.intel_base.specs.declared.loads.Loads.TheVariants as base_loads_row
use Rattle.intel_more.specs.ArithmeticRows as more_arithmetic
use Rattle.intel_more.specs.declared.arithmetic.Arithmetic.TheVariants as more_arithmetic_row
use Rattle.intel_more.specs.MovesRows as more_moves
use Rattle.intel_more.specs.declared.moves.Moves.TheVariants as more_moves_row
use Rattle.intel_more.specs.ScalarsRows as more_scalars
use Rattle.intel_more.specs.declared.scalars.Scalars.TheVariants as more_scalars_row
use Rattle.intel_wide.specs.Avx2Rows as wide_avx2
use Rattle.intel_wide.specs.declared.avx2.Avx2.TheVariants as wide_avx2_row
use Rattle.intel_wide.specs.ArithmeticRows as wide_arithmetic
use Rattle.intel_wide.specs.declared.arithmetic.Arithmetic.TheVariants as wide_arithmetic_row
use Rattle.intel_wide.specs.MoreArithmeticRows as wide_more_arithmetic
use Rattle.intel_wide.specs.declared.more_arithmetic.MoreArithmetic.TheVariants as wide_more_arithmetic_row
use Rattle.intel_wide.specs.LogicRows as wide_logic
use Rattle.intel_wide.specs.declared.logic.Logic.TheVariants as wide_logic_row
use Rattle.intel_wide.specs.ShiftsRows as wide_shifts
use Rattle.intel_wide.specs.declared.shifts.Shifts.TheVariants as wide_shifts_row
use Rattle.intel_wide.specs.MovesRows as wide_moves
use Rattle.intel_wide.specs.declared.moves.Moves.TheVariants as wide_moves_row
use Rattle.intel_wide.specs.CrossingRows as wide_crossing
use Rattle.intel_wide.specs.declared.crossing.Crossing.TheVariants as wide_crossing_row
use Rattle.intel_wide.specs.ScalarsRows as wide_scalars
use Rattle.intel_wide.specs.declared.scalars.Scalars.TheVariants as wide_scalars_row
use Rattle.intel_wide.specs.LoadsRows as wide_loads
use Rattle.intel_wide.specs.declared.loads.Loads.TheVariants as wide_loads_row
use Rattle.intel_wide.specs.declared.half.Half.TheVariants as half_row

-- names that a part and the table agree on, over a list
map_names : {A : Type 0} (text : A → List ℕ) (row : A → IntelOp) → ((x : A) → text x ≡ name_of (row x)) → (xs : List A) → map text xs ≡ map name_of (map row xs)
map_names text row e [] = refl
map_names text row e (x ∷ xs) = rw (e x, map_names text row e xs) refl

-- the rows of a part among those of the table
found_in_part : {A : Type 0} (text : A → List ℕ) (row : A → IntelOp) (name : List ℕ) (xs : List A) → map text xs ≡ map name_of (map row xs)
    → first_named name_of (map row xs) name ≡ option_map row (first_named text xs name)
unfolding first_named
found_in_part text row name xs e = find_rows text row name_of name xs e

-- a row is found where the first part that has the name finds it
pub found_in_parts : (name : List ℕ) → find_of name ≡ option_or (option_map of_base (base.find_of name)) (option_or (option_map of_more (more.find_of name)) (option_map of_wide (wide.find_of name)))
unfolding find_of base_rows more_rows wide_rows
found_in_parts name =
    named_in_both name_of (map of_base base.rows) (map of_more more.rows ++ map of_wide wide.rows) name
    ∙ ap (λ o. option_or o (first_named name_of (map of_more more.rows ++ map of_wide wide.rows) name)) (found_in_part base_named.name_of of_base name base.rows (map_names base_named.name_of of_base (λ x. refl) base.rows))
    ∙ ap (option_or (option_map of_base (base.find_of name)))
    (named_in_both name_of (map of_more more.rows) (map of_wide wide.rows) name
    ∙ ap (λ o. option_or o (first_named name_of (map of_wide wide.rows) name)) (found_in_part more_named.name_of of_more name more.rows (map_names more_named.name_of of_more (λ x. refl) more.rows))
    ∙ ap (option_or (option_map of_more (more.find_of name))) (found_in_part wide_named.name_of of_wide name wide.rows (map_names wide_named.name_of of_wide (λ x. refl) wide.rows)))

-- the row that is found has the name
pub found_has_its_name : (name : List ℕ) → IfSome (find_of name) (λ op. name_of op ≡ name)
unfolding find_of first_named
found_has_its_name name = by (find_of name) refl
  where
    by : (r : Option IntelOp) → find_of name ≡ r → IfSome r (λ op. name_of op ≡ name)
    by None e = tt
    by (Some op) e = (found_has_name name_of name rows op e).0

-- none is found exactly where the name isn't in the list
pub none_exactly_outside : (name : List ℕ) → IsNone (find_of name) ↔ ¬ (Contains names name)
unfolding find_of first_named names
none_exactly_outside name = none_where_no_name name_of name rows (find_of name) refl

-- a row of the list is found by its name: computed for each. A law names one row of a group, and its last line stands for the others
found_part : (row : Part) → find_of (part_name row) ≡ listed (record { row = row })
unfolding find_of first_named base_rows more_rows wide_rows base_arithmetic.arithmetic_rows base_logic.logic_rows base_moves.moves_rows base_scalars.scalars_rows base_loads.loads_rows more_arithmetic.arithmetic_rows more_moves.moves_rows more_scalars.scalars_rows wide_avx2.avx2_rows wide_arithmetic.arithmetic_rows wide_more_arithmetic.more_arithmetic_rows wide_logic.logic_rows wide_shifts.shifts_rows wide_moves.moves_rows wide_crossing.crossing_rows wide_scalars.scalars_rows wide_loads.loads_rows
found_part (Base (base_row.Arithmetic base_arithmetic_row.AddEpi16)) = refl
found_part (Base (base_row.Arithmetic _)) = refl
found_part (Base (base_row.Logic base_logic_row.AndSi128)) = refl
found_part (Base (base_row.Logic _)) = refl
found_part (Base (base_row.Moves base_moves_row.BslliSi128)) = refl
found_part (Base (base_row.Moves _)) = refl
found_part (Base (base_row.Scalars base_scalars_row.Cvtsi128Si32)) = refl
found_part (Base (base_row.Scalars _)) = refl
found_part (Base (base_row.Loads base_loads_row.LddquSi128)) = refl
found_part (Base (base_row.Loads _)) = refl
found_part (More (more_row.Arithmetic more_arithmetic_row.AbsEpi16)) = refl
found_part (More (more_row.Arithmetic _)) = refl
found_part (More (more_row.Moves more_moves_row.AlignrEpi8)) = refl
found_part (More (more_row.Moves _)) = refl
found_part (More (more_row.Scalars more_scalars_row.ExtractEpi32)) = refl
found_part (More (more_row.Scalars _)) = refl
found_part (Wide (wide_row.Avx2 wide_avx2_row.BlendEpi32)) = refl
found_part (Wide (wide_row.Avx2 _)) = refl
found_part (Wide (wide_row.Arithmetic wide_arithmetic_row.AddEpi16)) = refl
found_part (Wide (wide_row.Arithmetic _)) = refl
found_part (Wide (wide_row.MoreArithmetic wide_more_arithmetic_row.AbsEpi16)) = refl
found_part (Wide (wide_row.MoreArithmetic _)) = refl
found_part (Wide (wide_row.Logic wide_logic_row.AndSi256)) = refl
found_part (Wide (wide_row.Logic _)) = refl
found_part (Wide (wide_row.Shifts wide_shifts_row.SllEpi16)) = refl
found_part (Wide (wide_row.Shifts _)) = refl
found_part (Wide (wide_row.Moves wide_moves_row.AlignrEpi8)) = refl
found_part (Wide (wide_row.Moves _)) = refl
found_part (Wide (wide_row.Crossing wide_crossing_row.BroadcastbEpi8)) = refl
found_part (Wide (wide_row.Crossing _)) = refl
found_part (Wide (wide_row.Scalars wide_scalars_row.ExtractEpi32)) = refl
found_part (Wide (wide_row.Scalars _)) = refl
found_part (Wide (wide_row.Loads wide_loads_row.I32gatherEpi32)) = refl
found_part (Wide (wide_row.Loads _)) = refl
found_part (Wide (wide_row.Half half_row.CmpgtEpi64)) = refl

the_half : (row : Part) → is_half row ≡ true → row ≡ Wide (wide_row.Half half_row.CmpgtEpi64)
the_half (Wide (wide_row.Half half_row.CmpgtEpi64)) h = refl
the_half _ h = absurd (cc)

abbrev of_part : Part → IntelOp
of_part row = record { row = row }

abbrev part_or : Part → Option IntelOp → Part
part_or row None = row
part_or row (Some op) = op.row

-- a row of the table is told by what its name finds
same_if_listed : (row other : Part) (a b : Bool) → is_half row ≡ a → is_half other ≡ b → listed (record { row = other }) ≡ listed (record { row = row }) → other ≡ row
same_if_listed row other true true h k e = the_half other k ∙ sym (the_half row h)
same_if_listed row other true false h k e = absurd (cc)
same_if_listed row other false true h k e = absurd (cc)
same_if_listed row other false false h k e = let found : Some (of_part other) ≡ Some (of_part row) = cc in ap (part_or row) found

pub found_by_name : (op : IntelOp) → find_of (name_of op) ≡ listed op
found_by_name op = found_part op.row

-- two rows with one name are the same
pub same_by_name : (op other : IntelOp) → name_of other ≡ name_of op → other ≡ op
same_by_name op other e =
    let same : other.row ≡ op.row = same_if_listed op.row other.row (is_half op.row) (is_half other.row) refl refl (sym (found_part other.row) ∙ ap find_of e ∙ found_part op.row) in
    ap (λ r. record { row = r }) same
