-- A turn of the loop that ends blocks.
use Rattle.std.proofs.Common.{◌≡◌, ℕ, zero, suc, ◌<◌, List, [], ◌∷◌, ◌++◌, length, map, take, drop, refl, ap, arith, slice_index_or, slice_set}
use Rattle.c_memory.specs.declared.blocks.Block.{Block}
use Rattle.c_memory.specs.Memory.{ended}

pub end_step : (xs : List Block) (i : ℕ) (d : Block) → i < length xs
    → slice_set (map ended (take i xs) ++ drop i xs) i (ended (slice_index_or (map ended (take i xs) ++ drop i xs) i d)) ≡ map ended (take (suc i) xs) ++ drop (suc i) xs
end_step [] i d h = absurd (omega arith)
end_step (x ∷ xs) zero d h = refl
end_step (x ∷ xs) (suc i) d h = ap (λ ys. ended x ∷ ys) (end_step xs i d (omega arith))
