-- The rows on 32 bytes that load, store and gather. One line for each, with its name and its form.
use Rattle.std.specs.Prelude.{List, [], ◌∷◌, map, codes, true, false}
use Rattle.intel_forms.specs.Row.{Row, row}
use Rattle.intel_forms.specs.declared.forms.Form.TheVariants as form
use Rattle.intel_forms.specs.declared.memory.Indexing.TheVariants as index
use Rattle.intel_forms.specs.declared.memory.Memory.TheVariants as memory
use Rattle.intel_forms.specs.declared.sizes.Size.TheVariants.{Ymm}
use Rattle.intel_lanes.specs.declared.lanes.Width.TheVariants.{Dword, Qword}
use Rattle.intel_wide.specs.declared.WideOp.{WideOp}
use Rattle.intel_wide.specs.declared.WideOp.TheVariants as op
use Rattle.intel_wide.specs.declared.loads.Loads.{Loads}
use Rattle.intel_wide.specs.declared.loads.Loads.TheVariants as v

abbrev pub loads_row : Loads → Row
loads_row v.I32gatherEpi32 = row (codes "_mm256_i32gather_epi32") (form.Memory (memory.Gather Ymm index.DwordsByDwords))
loads_row v.I32gatherEpi64 = row (codes "_mm256_i32gather_epi64") (form.Memory (memory.Gather Ymm index.QwordsByDwords))
loads_row v.I64gatherEpi32 = row (codes "_mm256_i64gather_epi32") (form.Memory (memory.Gather Ymm index.DwordsByQwords))
loads_row v.I64gatherEpi64 = row (codes "_mm256_i64gather_epi64") (form.Memory (memory.Gather Ymm index.QwordsByQwords))
loads_row v.LddquSi256 = row (codes "_mm256_lddqu_si256") (form.Memory (memory.Load Ymm false))
loads_row v.LoadSi256 = row (codes "_mm256_load_si256") (form.Memory (memory.Load Ymm true))
loads_row v.LoaduSi256 = row (codes "_mm256_loadu_si256") (form.Memory (memory.Load Ymm false))
loads_row v.MaskI32gatherEpi32 = row (codes "_mm256_mask_i32gather_epi32") (form.Memory (memory.MaskGather Ymm index.DwordsByDwords))
loads_row v.MaskI32gatherEpi64 = row (codes "_mm256_mask_i32gather_epi64") (form.Memory (memory.MaskGather Ymm index.QwordsByDwords))
loads_row v.MaskI64gatherEpi32 = row (codes "_mm256_mask_i64gather_epi32") (form.Memory (memory.MaskGather Ymm index.DwordsByQwords))
loads_row v.MaskI64gatherEpi64 = row (codes "_mm256_mask_i64gather_epi64") (form.Memory (memory.MaskGather Ymm index.QwordsByQwords))
loads_row v.MaskloadEpi32 = row (codes "_mm256_maskload_epi32") (form.Memory (memory.MaskLoad Ymm Dword))
loads_row v.MaskloadEpi64 = row (codes "_mm256_maskload_epi64") (form.Memory (memory.MaskLoad Ymm Qword))
loads_row v.MaskstoreEpi32 = row (codes "_mm256_maskstore_epi32") (form.Memory (memory.MaskStore Ymm Dword))
loads_row v.MaskstoreEpi64 = row (codes "_mm256_maskstore_epi64") (form.Memory (memory.MaskStore Ymm Qword))
loads_row v.StoreSi256 = row (codes "_mm256_store_si256") (form.Memory (memory.Store Ymm true))
loads_row v.StoreuSi256 = row (codes "_mm256_storeu_si256") (form.Memory (memory.Store Ymm false))

-- in ascending order of their names
unfoldable pub loads_rows : List WideOp
loads_rows = map op.Loads (
    v.I32gatherEpi32 ∷ v.I32gatherEpi64 ∷ v.I64gatherEpi32 ∷ v.I64gatherEpi64 ∷ v.LddquSi256 ∷ v.LoadSi256 ∷ v.LoaduSi256 ∷
    v.MaskI32gatherEpi32 ∷ v.MaskI32gatherEpi64 ∷ v.MaskI64gatherEpi32 ∷ v.MaskI64gatherEpi64 ∷ v.MaskloadEpi32 ∷ v.MaskloadEpi64 ∷
    v.MaskstoreEpi32 ∷ v.MaskstoreEpi64 ∷ v.StoreSi256 ∷ v.StoreuSi256 ∷ [])
