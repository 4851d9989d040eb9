-- The rows of SSE2 and SSE3 that load and store. One line for each, with its name and its form.
use Rattle.std.specs.Prelude.{List, [], ◌∷◌, map, codes, true, false}
use Rattle.intel_forms.specs.Row.{Row, row}
use Rattle.intel_forms.specs.declared.forms.Form.TheVariants as form
use Rattle.intel_forms.specs.declared.memory.Memory.TheVariants as memory
use Rattle.intel_forms.specs.declared.sizes.Size.TheVariants.{Xmm}
use Rattle.intel_base.specs.declared.BaseOp.{BaseOp}
use Rattle.intel_base.specs.declared.BaseOp.TheVariants as op
use Rattle.intel_base.specs.declared.loads.Loads.{Loads}
use Rattle.intel_base.specs.declared.loads.Loads.TheVariants as v

abbrev pub loads_row : Loads → Row
loads_row v.LddquSi128 = row (codes "_mm_lddqu_si128") (form.Memory (memory.Load Xmm false))
loads_row v.LoadSi128 = row (codes "_mm_load_si128") (form.Memory (memory.Load Xmm true))
loads_row v.LoadlEpi64 = row (codes "_mm_loadl_epi64") (form.Memory memory.LoadLow)
loads_row v.LoaduSi128 = row (codes "_mm_loadu_si128") (form.Memory (memory.Load Xmm false))
loads_row v.StoreSi128 = row (codes "_mm_store_si128") (form.Memory (memory.Store Xmm true))
loads_row v.StorelEpi64 = row (codes "_mm_storel_epi64") (form.Memory memory.StoreLow)
loads_row v.StoreuSi128 = row (codes "_mm_storeu_si128") (form.Memory (memory.Store Xmm false))

-- in ascending order of their names
unfoldable pub loads_rows : List BaseOp
loads_rows = map op.Loads (
    v.LddquSi128 ∷ v.LoadSi128 ∷ v.LoadlEpi64 ∷ v.LoaduSi128 ∷ v.StoreSi128 ∷ v.StorelEpi64 ∷ v.StoreuSi128 ∷ [])
