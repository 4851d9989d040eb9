-- Blocks whose bytes become others.
use Rattle.std.proofs.Common.{◌≡◌, ℕ, zero, suc, ◌-◌, List, [], ◌∷◌, ◌++◌, length, map, replicate, Option, Some, None, refl, ap, ◌∙◌}
use Rattle.std.specs.Prelude.{option_map}
use Rattle.std.proofs.lemmas.List.{length-map, map-append}
use Rattle.std.proofs.lemmas.Option.{same_Some}
use Rattle.c_memory.specs.declared.blocks.Block.{Block}
use Rattle.c_memory.specs.Memory.{refilled}
use Rattle.c_memory.specs.Defined.{Leaves}
use Rattle.c_memory.specs.Meaning.{filled}

refilled_set : (m : List Block) (block : ℕ) (bytes : List ℕ) → refilled block (map Some bytes) m ≡ filled block bytes m
refilled_set [] block bytes = refl
refilled_set (b ∷ rest) zero bytes = refl
refilled_set (b ∷ rest) (suc block) bytes = ap (λ all. b ∷ all) (refilled_set rest block bytes)

-- a block that gets bytes that are all set
pub refill_leaves : (due : Option (List ℕ)) (items : List (Option ℕ)) (block : ℕ) (m new : List Block) → Some items ≡ option_map (map Some) due → new ≡ refilled block items m
    → Leaves (option_map (λ bytes. filled block bytes m) due) m (Some tt) new
refill_leaves None items block m new e f = absurd (cc)
refill_leaves (Some bytes) items block m new e f =
    (refl, f ∙ ap (λ all. refilled block all m) (same_Some items (map Some bytes) e) ∙ refilled_set m block bytes)

set_zeros : (n : ℕ) → replicate {A = Option ℕ} n (Some 0) ≡ map Some (replicate {A = ℕ} n 0)
set_zeros zero = refl
set_zeros (suc n) = ap (λ all. Some 0 ∷ all) (set_zeros n)

-- bytes with zeros behind them
pub padded_set : (due : Option (List ℕ)) (items all : List (Option ℕ)) (size : ℕ) → Some items ≡ option_map (map Some) due → all ≡ items ++ replicate (size - length items) (Some 0)
    → Some all ≡ option_map (map Some) (option_map (λ front. front ++ replicate (size - length front) 0) due)
padded_set None items all size e f = absurd (cc)
padded_set (Some front) items all size e f =
    let same : items ≡ map Some front = same_Some items (map Some front) e in
    ap Some (f ∙ rw (same, length-map, map-append, set_zeros) refl)
