-- The five rows of the first form: their names in both dialects, and which Neon row stands for which.
use Rattle.std.specs.Prelude.{ℕ, List, Option, Some, None, if◌then◌else◌, codes, bytes_eq}
use Rattle.simd_top.specs.declared.rows.FormRow.{FormRow}
use Rattle.simd_top.specs.declared.rows.FormRow.TheVariants.{AddEpi8, SubEpi8, AvgEpu8, MinEpu8, XorSi128}
use Rattle.neon_lane.specs.declared.LaneOp.{LaneOp}
use Rattle.neon_lane.specs.declared.LaneOp.TheVariants.{Arithmetic, Saturating, Extremes, Logic}
use Rattle.neon_lane.specs.declared.arithmetic.Arithmetic.TheVariants.{VaddqU8, VsubqU8}
use Rattle.neon_lane.specs.declared.saturating.Saturating.TheVariants.{VrhaddqU8}
use Rattle.neon_lane.specs.declared.extremes.Extremes.TheVariants.{VminqU8}
use Rattle.neon_lane.specs.declared.logic.Logic.TheVariants.{VeorqU8}
use Rattle.neon_lane.specs.Named.{name_of}

-- the row of a name, by Intel's Intrinsics Guide
abbrev pub intel_row : List ℕ → Option FormRow
intel_row x =
    if bytes_eq x (codes "_mm_add_epi8") then Some AddEpi8
    else if bytes_eq x (codes "_mm_sub_epi8") then Some SubEpi8
    else if bytes_eq x (codes "_mm_avg_epu8") then Some AvgEpu8
    else if bytes_eq x (codes "_mm_min_epu8") then Some MinEpu8
    else if bytes_eq x (codes "_mm_xor_si128") then Some XorSi128
    else None

-- the names of Arm's Neon Intrinsics Reference
abbrev pub neon_name : LaneOp → List ℕ
neon_name op = name_of op

-- the Neon row that stands for a row
abbrev pub moved_row : FormRow → LaneOp
moved_row AddEpi8 = Arithmetic VaddqU8
moved_row SubEpi8 = Arithmetic VsubqU8
moved_row AvgEpu8 = Saturating VrhaddqU8
moved_row MinEpu8 = Extremes VminqU8
moved_row XorSi128 = Logic VeorqU8
