-- The names of vector types: those of Intel's intrinsics (Intrinsics Guide) and those of Arm's (Neon reference).
use Rattle.std.specs.Prelude.{ℕ, List, [], ◌∷◌, codes, true, false}
use Rattle.c_text.specs.declared.tokens.Dialect.{Dialect}
use Rattle.c_text.specs.declared.tokens.Dialect.TheVariants as dialects
use Rattle.lane_core.specs.declared.vector.NeonLane.TheVariants.{U8, U16, U32, U64, S8, S16, S32, S64}
use Rattle.c_tree.specs.declared.types.CType.{CType}
use Rattle.c_tree.specs.declared.types.CType.TheVariants.{M128, M256, Neon, Pair}

abbrev pub x86_vectors : List (List ℕ × CType)
x86_vectors = (codes "__m128i", M128) ∷ (codes "__m256i", M256) ∷ []

abbrev pub neon_vectors : List (List ℕ × CType)
neon_vectors =
    (codes "uint8x8_t", Neon U8 false) ∷ (codes "uint16x4_t", Neon U16 false) ∷ (codes "uint32x2_t", Neon U32 false) ∷
    (codes "uint64x1_t", Neon U64 false) ∷ (codes "int8x8_t", Neon S8 false) ∷ (codes "int16x4_t", Neon S16 false) ∷
    (codes "int32x2_t", Neon S32 false) ∷ (codes "int64x1_t", Neon S64 false) ∷ (codes "uint8x16_t", Neon U8 true) ∷
    (codes "uint16x8_t", Neon U16 true) ∷ (codes "uint32x4_t", Neon U32 true) ∷ (codes "uint64x2_t", Neon U64 true) ∷
    (codes "int8x16_t", Neon S8 true) ∷ (codes "int16x8_t", Neon S16 true) ∷ (codes "int32x4_t", Neon S32 true) ∷
    (codes "int64x2_t", Neon S64 true) ∷ (codes "uint8x16x2_t", Pair) ∷ []

abbrev pub vectors : Dialect → List (List ℕ × CType)
vectors dialects.X86 = x86_vectors
vectors dialects.Neon = neon_vectors
