-- Words that are too few.
use Rattle.std.proofs.Common.{◌≡◌, ◌<◌, List, [], ◌∷◌, length, map, None, refl, arith, String, Global, string_bytes}
use Rattle.simd_top.specs.Words.{asked_to_run, asked_for_both}

pub few : (words : List (String Global)) → length words < 3 → None ≡ asked_to_run (map (λ w. string_bytes w) words)
few [] h = refl
few (a ∷ []) h = refl
few (a ∷ b ∷ []) h = refl
few (a ∷ b ∷ c ∷ rest) h = absurd (omega (arith, h))

pub few_for_both : (words : List (String Global)) → length words < 2 → None ≡ asked_for_both (map (λ w. string_bytes w) words)
few_for_both [] h = refl
few_for_both (a ∷ []) h = refl
few_for_both (a ∷ b ∷ rest) h = absurd (omega (arith, h))
