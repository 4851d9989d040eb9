-- The one Neon row that a row is due, by its name. N is the lanes' width in bits.
use Rattle.std.specs.Prelude.{ℕ, ◌*◌, ◌==◌, nat_lt, List, [], ◌∷◌, ◌++◌, codes, Option, Some, None, if◌then◌else◌}
use Rattle.intel_lanes.specs.declared.lanes.Width.{Width}
use Rattle.intel_lanes.specs.declared.lanes.Width.TheVariants.{Byte, Word, Dword, Qword}
use Rattle.intel_lanes.specs.declared.lanes.Lane2.{Lane2}
use Rattle.intel_lanes.specs.declared.lanes.Lane2.TheVariants as op
use Rattle.intel_lanes.specs.declared.lanes.Lane1.TheVariants.{Absolute}
use Rattle.intel_lanes.specs.declared.lanes.Shift.{Shift}
use Rattle.intel_lanes.specs.declared.lanes.Shift.TheVariants.{Left, Right, Arithmetic}
use Rattle.intel_lanes.specs.declared.blocks.One.TheVariants as one
use Rattle.intel_lanes.specs.declared.blocks.Two.TheVariants as two
use Rattle.intel_lanes.specs.declared.blocks.OneImm.TheVariants as one_imm
use Rattle.intel_lanes.specs.Lanes.{bytes_of}
use Rattle.intel_forms.specs.declared.sizes.Size.TheVariants.{Xmm}
use Rattle.intel_forms.specs.declared.forms.Form.{Form}
use Rattle.intel_forms.specs.declared.forms.Form.TheVariants as form

abbrev pub bits : Width → List ℕ
bits Byte = codes "8"
bits Word = codes "16"
bits Dword = codes "32"
bits Qword = codes "64"

abbrev pub one_row : List ℕ → Width → List (List ℕ)
one_row name width = (name ++ bits width) ∷ []

abbrev pub listed2 : Lane2 → Width → Option (List (List ℕ))
listed2 op.Add width = Some (one_row (codes "vaddq_u") width)
listed2 op.Sub width = Some (one_row (codes "vsubq_u") width)
listed2 op.AddSaturate width = Some (one_row (codes "vqaddq_s") width)
listed2 op.SubSaturate width = Some (one_row (codes "vqsubq_s") width)
listed2 op.AddSaturateUnsigned width = Some (one_row (codes "vqaddq_u") width)
listed2 op.SubSaturateUnsigned width = Some (one_row (codes "vqsubq_u") width)
listed2 op.Average width = Some (one_row (codes "vrhaddq_u") width)
listed2 op.MultiplyLow width = Some (one_row (codes "vmulq_u") width)
listed2 op.Min width = Some (one_row (codes "vminq_s") width)
listed2 op.Max width = Some (one_row (codes "vmaxq_s") width)
listed2 op.MinUnsigned width = Some (one_row (codes "vminq_u") width)
listed2 op.MaxUnsigned width = Some (one_row (codes "vmaxq_u") width)
listed2 op.And width = Some (one_row (codes "vandq_u") width)
listed2 op.Or width = Some (one_row (codes "vorrq_u") width)
listed2 op.Xor width = Some (one_row (codes "veorq_u") width)
listed2 op.AndNot width = Some (one_row (codes "vbicq_u") width)
listed2 op.Equal width = Some (one_row (codes "vceqq_u") width)
listed2 op.Greater width = Some (one_row (codes "vcgtq_s") width)
listed2 op.Less width = Some (one_row (codes "vcgtq_s") width)
listed2 _ width = None

abbrev pub listed_pairs : Lane2 → Width → Option (List (List ℕ))
listed_pairs op.Add width = Some (one_row (codes "vpaddq_u") width)
listed_pairs _ width = None

-- none for a shift by 0, or by the width or more where that leaves zeros
abbrev pub listed_shift : Shift → Width → ℕ → List (List ℕ)
listed_shift Left width imm = if imm == 0 then [] else (if nat_lt imm (8 * bytes_of width) then one_row (codes "vshlq_n_u") width else [])
listed_shift Right width imm = if imm == 0 then [] else (if nat_lt imm (8 * bytes_of width) then one_row (codes "vshrq_n_u") width else [])
listed_shift Arithmetic width imm = if imm == 0 then [] else one_row (codes "vshrq_n_s") width

abbrev pub listed : Form → ℕ → Option (List (List ℕ))
listed (form.One Xmm (one.Lanes Absolute width)) imm = Some (one_row (codes "vabsq_s") width)
listed (form.Two Xmm (two.Lanes op width)) imm = listed2 op width
listed (form.Two Xmm (two.Pairs o width)) imm = listed_pairs o width
listed (form.OneImm Xmm (one_imm.Shifted shift width)) imm = Some (listed_shift shift width imm)
listed _ imm = None
