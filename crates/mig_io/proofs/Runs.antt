-- What several reads or writes in a row did together.
use Rattle.std.proofs.Common.{◌≡◌, ℕ, ◌+◌, List, ◌++◌, length, take, drop, Option, Some, None, sym, ◌∙◌, ap, subst, arith, append_assoc, length-append}
use Rattle.std.proofs.lemmas.List.{take-append-drop}
use Rattle.std.proofs.Math.Seq.{take-add, drop-append_seam, drop-append-add}
use Rattle.mig_io.specs.Outside.{Reads, ReadsFrom, ReadsPast, IsRest, Grew}

-- after the first k bytes the next n were taken
pub grew_by_more : (old mid new : Option (List ℕ)) (bytes : List ℕ) (k n : ℕ)
    → Grew old (take k bytes) mid → Grew mid (take n (drop k bytes)) new → Grew old (take (k + n) bytes) new
grew_by_more (Some held) mid new bytes k n first next =
    let then : Grew (Some (held ++ take k bytes)) (take n (drop k bytes)) new = subst (λ o. Grew o (take n (drop k bytes)) new) first next in
    then ∙ ap (λ h. Some h) (append_assoc held (take k bytes) (take n (drop k bytes)) ∙ ap (λ t. held ++ t) (sym (take-add k n bytes)))
grew_by_more None mid new bytes k n first next = tt

-- these bytes were read, and what follows them is left, where the source tells its bytes
abbrev pub HasRead : Option (List ℕ) → Option (List ℕ) → List ℕ → Type 0
HasRead (Some left) after bytes = (rest : List ℕ) × (after ≡ Some rest) × (left ≡ bytes ++ rest)
HasRead None after bytes = Unit {0}

-- a further read adds the bytes that it brought
pub has_read_more : (old mid new : Option (List ℕ)) (bytes : List ℕ) (n : ℕ) (before buffer : List ℕ)
    → HasRead old mid bytes → Reads mid new n before buffer → HasRead old new (bytes ++ take n buffer)
has_read_more (Some left) mid new bytes n before buffer has reads =
    let from : ReadsFrom has.0 new n before buffer = subst (λ o. Reads o new n before buffer) has.1 reads in (
      drop n has.0,
      from.rest,
      has.2 ∙ ap (λ t. bytes ++ t) (sym (take-append-drop n has.0) ∙ ap (λ t. t ++ drop n has.0) (sym from.bytes))
          ∙ sym (append_assoc bytes (take n buffer) (drop n has.0)),
    )
has_read_more None mid new bytes n before buffer has reads = tt

-- what is left is a rest of what was left before
is_rest : (old new : Option (List ℕ)) (bytes : List ℕ) → HasRead old new bytes → IsRest old new
is_rest (Some left) new bytes has =
    (length bytes, has.1 ∙ ap (λ t. Some t) (sym (ap (drop (length bytes)) has.2 ∙ drop-append_seam bytes has.0)))
is_rest None new bytes has = tt

-- the last read brought the one byte too many
pub reads_past : (limit : ℕ) (old mid new : Option (List ℕ)) (bytes : List ℕ) (n : ℕ) (before buffer : List ℕ)
    → length bytes + n ≡ limit + 1 → HasRead old mid bytes → Reads mid new n before buffer → ReadsPast limit old new
reads_past limit (Some left) mid new bytes n before buffer count has reads =
    let from : ReadsFrom has.0 new n before buffer = subst (λ o. Reads o new n before buffer) has.1 reads in
    let size : length left ≡ length bytes + length has.0 = ap length has.2 ∙ length-append bytes has.0 in (
      omega (arith, from.held, size, count),
      from.rest ∙ ap (λ t. Some t) (sym (ap (λ k. drop k left) (sym count) ∙ ap (drop (length bytes + n)) has.2 ∙ drop-append-add bytes has.0 n)),
    )
reads_past limit None mid new bytes n before buffer count has reads = tt

-- what is left after a further read is a rest of what was left before all
pub is_rest_after : (old mid new : Option (List ℕ)) (bytes : List ℕ) (n : ℕ) (before buffer : List ℕ)
    → HasRead old mid bytes → Reads mid new n before buffer → IsRest old new
is_rest_after old mid new bytes n before buffer has reads =
    is_rest old new (bytes ++ take n buffer) (has_read_more old mid new bytes n before buffer has reads)
