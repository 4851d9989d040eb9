-- The list of forms, in the order in which one of least price is looked for.
use Rattle.std.specs.Prelude.{ℕ, zero, suc, ◌+◌, ◌-◌, ◌/◌, ◌%◌, ◌^◌, List, [], ◌∷◌, ◌++◌, map, ◌==◌, nat_lt, if◌then◌else◌}
use Rattle.price_choice.specs.declared.forms.FormKind.{FormKind}
use Rattle.price_choice.specs.declared.forms.FormKind.TheVariants.{Dup, Ext, Rev, Zip, Uzp, Trn}
use Rattle.price_choice.specs.declared.forms.Side.{Side}
use Rattle.price_choice.specs.declared.forms.Side.TheVariants as side
use Rattle.price_choice.specs.declared.forms.Form.{Form}
use Rattle.price_choice.specs.declared.forms.Form.TheVariants.{Same, One, Two, Table, TablePair}

abbrev pub both_sides : List Side
both_sides = side.A ∷ side.B ∷ []

abbrev pub widths : List ℕ
widths = 1 ∷ 2 ∷ 4 ∷ 8 ∷ []

abbrev pub Pair : Type 0
Pair = Side × Side

abbrev pub pairs : List Pair
pairs = (side.A, side.A) ∷ (side.A, side.B) ∷ (side.A, side.Zero) ∷ (side.B, side.A) ∷ (side.B, side.B) ∷ (side.B, side.Zero) ∷ (side.Zero, side.A) ∷ (side.Zero, side.B) ∷ []

-- n numbers from m on
abbrev pub numbers : ℕ → ℕ → List ℕ
numbers m zero = []
numbers m (suc n) = m ∷ numbers (m + 1) n

abbrev pub each : {A B : Type 0} → List A → (A → List B) → List B
each [] f = []
each (x ∷ xs) f = f x ++ each xs f

-- vrev16q_u8, vrev32q_u8, vrev32q_u16, vrev64q_u8, vrev64q_u16, vrev64q_u32: the lane width and the bytes of a group
abbrev pub groups : List (ℕ × ℕ)
groups = (1, 2) ∷ (1, 4) ∷ (2, 4) ∷ (1, 8) ∷ (2, 8) ∷ (4, 8) ∷ []

abbrev pub interleavings : FormKind → List Form
interleavings kind = each (1 ∷ 2 ∷ []) (λ n. each widths (λ w. map (λ p. Two kind w n p.0 p.1) pairs))

-- 3 operands; 2 * (16 + 8 + 4 + 2) dups; 8 * 15 exts; 6 * 2 revs; 3 * 2 * 4 * 8 zips, uzps and trns; 3 tables: 390
abbrev pub forms : List Form
forms = map Same (side.A ∷ side.B ∷ side.Zero ∷ [])
    ++ (each widths (λ w. each both_sides (λ x. map (λ n. One Dup w n x) (numbers 0 (16 / w))))
    ++ (each pairs (λ p. map (λ n. Two Ext 1 n p.0 p.1) (numbers 1 15))
    ++ (each groups (λ g. map (One Rev g.0 g.1) both_sides)
    ++ (each (Zip ∷ Uzp ∷ Trn ∷ []) interleavings
    ++ (Table side.A ∷ Table side.B ∷ TablePair ∷ [])))))

-- The same list by the place of each form.

abbrev pub side_at : ℕ → Side
side_at k = if k == 0 then side.A else if k == 1 then side.B else side.Zero

abbrev pub pair_at : ℕ → Pair
pair_at k = if nat_lt k 6 then (side_at (k / 3), side_at (k % 3)) else (side.Zero, side_at (k - 6))

abbrev pub group_at : ℕ → ℕ × ℕ
group_at k = if k == 0 then (1, 2) else if nat_lt k 3 then (k, 4) else (2 ^ (k - 3), 8)

abbrev pub kind_at : ℕ → FormKind
kind_at k = if k == 0 then Zip else if k == 1 then Uzp else Trn

abbrev pub dup_at : ℕ → Form
dup_at j =
    if nat_lt j 32 then One Dup 1 (j % 16) (side_at (j / 16))
    else if nat_lt j 48 then One Dup 2 (j % 8) (side_at ((j - 32) / 8))
    else if nat_lt j 56 then One Dup 4 (j % 4) (side_at ((j - 48) / 4))
    else One Dup 8 (j % 2) (side_at ((j - 56) / 2))

abbrev pub two_at : FormKind → ℕ → ℕ → Pair → Form
two_at kind w n p = Two kind w n p.0 p.1

unfoldable pub form_at : ℕ → Form
form_at i =
    if nat_lt i 3 then Same (side_at i)
    else if nat_lt i 63 then dup_at (i - 3)
    else if nat_lt i 183 then two_at Ext 1 ((i - 63) % 15 + 1) (pair_at ((i - 63) / 15))
    else if nat_lt i 195 then One Rev (group_at ((i - 183) / 2)).0 (group_at ((i - 183) / 2)).1 (side_at ((i - 183) % 2))
    else if nat_lt i 387 then two_at (kind_at ((i - 195) / 64)) (2 ^ ((i - 195) % 32 / 8)) ((i - 195) % 64 / 32 + 1) (pair_at ((i - 195) % 8))
    else if i == 387 then Table side.A
    else if i == 388 then Table side.B
    else TablePair
