-- A name that both units may declare is no row's.
use Rattle.std.proofs.Common.{◌≡◌, ℕ, List, Bool, true, false, ◌||◌, not, is_some, refl}
use Rattle.std.specs.Prelude.{nat_eq, codes}
use Rattle.std.specs.List.{starts_with}
use Rattle.std.specs.Str.{bytes_eq}
use Rattle.std.proofs.lemmas.Slice.Eq.{bytes_eq-Decides}
use Rattle.c_text.specs.declared.tokens.Dialect.TheVariants.{X86, Neon}
use Rattle.simd_top.specs.declared.rows.FormRow.{FormRow}
use Rattle.simd_top.specs.declared.rows.FormRow.TheVariants.{AddEpi8, SubEpi8, AvgEpu8, MinEpu8, XorSi128}
use Rattle.row_names.specs.Groups.{first_named}
use Rattle.neon_lane.specs.ArithmeticRows as neon_arithmetic
use Rattle.neon_lane.specs.SaturatingRows as neon_saturating
use Rattle.neon_lane.specs.ExtremesRows as neon_extremes
use Rattle.neon_lane.specs.LogicRows as neon_logic
use Rattle.neon_table.specs.Rows as neon_table
use Rattle.object_types.specs.Reserved.{is_reserved, is_vector_type, is_predefined}
use Rattle.vector_types.specs.Rows.{is_neon_row}
use Rattle.simd_top.specs.Rows.{neon_name, moved_row}
use Rattle.simd_top.specs.Form.{is_free}
use Rattle.simd_top.proofs.Conjunction.{split_and}
use Rattle.simd_top.proofs.Values.{intel_name}

not_reserved : (x : List ℕ) → is_free x ≡ true → is_reserved X86 (is_neon_row x) x ≡ false
not_reserved x h = go (is_reserved X86 (is_neon_row x) x) refl (split_and _ (not (is_reserved X86 (is_neon_row x) x)) h).1
  where
    go : (v : Bool) → is_reserved X86 (is_neon_row x) x ≡ v → not v ≡ true → is_reserved X86 (is_neon_row x) x ≡ false
    go true e k = absurd (cc)
    go false e k = e

pub neither : (v w : Bool) → (v || w) ≡ false → (v ≡ false) × (w ≡ false)
neither true w e = absurd (cc)
neither false w e = (refl, e)

pub no_neon_row : (x : List ℕ) → is_free x ≡ true → is_some (neon_table.find_of x) ≡ false
no_neon_row x free =
    let begins = starts_with nat_eq x (codes "mg_") || starts_with nat_eq x (codes "_mm") || starts_with nat_eq x (codes "__builtin_") in
    let a = neither (begins || is_some (neon_table.find_of x) || is_vector_type x || is_predefined X86 x) (is_predefined Neon x) (not_reserved x free) in
    let b = neither (begins || is_some (neon_table.find_of x) || is_vector_type x) (is_predefined X86 x) a.0 in
    let c = neither (begins || is_some (neon_table.find_of x)) (is_vector_type x) b.0 in
    (neither begins (is_some (neon_table.find_of x)) c.0).1

pub no_neon_macro : (x : List ℕ) → is_free x ≡ true → is_predefined Neon x ≡ false
no_neon_macro x free =
    let begins = starts_with nat_eq x (codes "mg_") || starts_with nat_eq x (codes "_mm") || starts_with nat_eq x (codes "__builtin_") in
    (neither (begins || is_some (neon_table.find_of x) || is_vector_type x || is_predefined X86 x) (is_predefined Neon x) (not_reserved x free)).1

intel_reserved : (op : FormRow) → is_reserved X86 (is_neon_row (intel_name op)) (intel_name op) ≡ true
intel_reserved AddEpi8 = refl
intel_reserved SubEpi8 = refl
intel_reserved AvgEpu8 = refl
intel_reserved MinEpu8 = refl
intel_reserved XorSi128 = refl

neon_reserved : (op : FormRow) → is_reserved X86 (is_neon_row (neon_name (moved_row op))) (neon_name (moved_row op)) ≡ true
unfolding neon_table.find_of neon_table.lane_rows first_named neon_arithmetic.arithmetic_rows neon_saturating.saturating_rows neon_extremes.extremes_rows neon_logic.logic_rows
neon_reserved AddEpi8 = refl
neon_reserved SubEpi8 = refl
neon_reserved AvgEpu8 = refl
neon_reserved MinEpu8 = refl
neon_reserved XorSi128 = refl

other_name : (x y : List ℕ) → is_reserved X86 (is_neon_row x) x ≡ true → is_reserved X86 (is_neon_row y) y ≡ false → bytes_eq x y ≡ false
other_name x y h k = go (bytes_eq x y) refl
  where
    go : (v : Bool) → bytes_eq x y ≡ v → bytes_eq x y ≡ false
    go true e = let same = (bytes_eq-Decides x y).0 e in absurd (cc)
    go false e = e

pub other_than_intel : (op : FormRow) (x : List ℕ) → is_free x ≡ true → bytes_eq (intel_name op) x ≡ false
other_than_intel op x free = other_name (intel_name op) x (intel_reserved op) (not_reserved x free)

pub other_than_neon : (op : FormRow) (x : List ℕ) → is_free x ≡ true → bytes_eq (neon_name (moved_row op)) x ≡ false
other_than_neon op x free = other_name (neon_name (moved_row op)) x (neon_reserved op) (not_reserved x free)
