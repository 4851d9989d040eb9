-- Lists of bytes, as loops change them and as reads see them.
use Rattle.std.proofs.Common.{◌≡◌, ℕ, zero, suc, ◌<◌, List, [], ◌∷◌, ◌++◌, length, map, take, drop, Option, Some, None, true, false, refl, ap, arith, slice_set, slice_index_or, is_some}
use Rattle.std.specs.List.{list_all}
use Rattle.std.specs.Option.{unwrap_or}
use Rattle.c_memory.specs.Memory.{set_bytes}

-- a turn of a loop that puts f of element i of one list into place i of another
pub put_step : {A B : Type 0} (f : A → B) (xs : List A) (ys : List B) (i : ℕ) (d : A) → i < length xs → length xs ≡ length ys
    → slice_set (map f (take i xs) ++ drop i ys) i (f (slice_index_or xs i d)) ≡ map f (take (suc i) xs) ++ drop (suc i) ys
put_step f [] ys i d h e = absurd (omega arith)
put_step f (x ∷ xs) [] i d h e = absurd (omega arith)
put_step f (x ∷ xs) (y ∷ ys) zero d h e = refl
put_step f (x ∷ xs) (y ∷ ys) (suc i) d h e = ap (λ zs. f x ∷ zs) (put_step f xs ys i d (omega arith) (omega arith))

-- bytes that are all set are read
pub read_all : (bytes : List (Option ℕ)) → list_all is_some bytes ≡ true → set_bytes bytes ≡ Some (map (λ byte. unwrap_or byte 0) bytes)
read_all [] h = refl
read_all (Some x ∷ rest) h = rw (read_all rest h) refl
read_all (None ∷ rest) h = grind (arith, h)

-- and else none is
pub read_none : (bytes : List (Option ℕ)) → list_all is_some bytes ≡ false → set_bytes bytes ≡ None
read_none [] h = grind (arith, h)
read_none (Some x ∷ rest) h = rw (read_none rest h) refl
read_none (None ∷ rest) h = refl
