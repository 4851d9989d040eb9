-- The row that a 256-bit compare has as its half, with its name and its form.
use Rattle.std.specs.Prelude.{codes}
use Rattle.intel_forms.specs.Row.{Row, row}
use Rattle.intel_forms.specs.declared.forms.Form.TheVariants as form
use Rattle.intel_forms.specs.declared.sizes.Size.TheVariants.{Xmm}
use Rattle.intel_lanes.specs.declared.blocks.Two.TheVariants as two
use Rattle.intel_lanes.specs.declared.lanes.Lane2.TheVariants as lane2
use Rattle.intel_lanes.specs.declared.lanes.Width.TheVariants.{Qword}
use Rattle.intel_wide.specs.declared.half.Half.{Half}
use Rattle.intel_wide.specs.declared.half.Half.TheVariants as v

abbrev pub half_row : Half → Row
half_row v.CmpgtEpi64 = row (codes "_mm_cmpgt_epi64") (form.Two Xmm (two.Lanes lane2.Greater Qword))
