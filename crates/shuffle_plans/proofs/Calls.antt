-- Rows that move lanes give the lanes that their forms name.
use Rattle.std.proofs.Common.{◌≡◌, ℕ, zero, suc, ◌+◌, ◌-◌, ◌*◌, ◌/◌, ◌%◌, ◌^◌, ◌<◌, ◌≤◌, List, [], ◌∷◌, ◌++◌, refl, ap, sym, subst, ◌∙◌, arith, rules, ◌⊎◌, inl, inr, true, Some}
use Rattle.std.specs.Prelude.{nat_lt, if◌then◌else◌, ◌==◌}
use Rattle.std.proofs.lemmas.Nat.{mod_below}
use Rattle.std.proofs.Math.Nat.{mod-eq_of_lt}
use Rattle.lane_core.specs.declared.vector.NeonLane.{NeonLane}
use Rattle.lane_core.specs.declared.vector.NeonLane.TheVariants.{U8, U16, U32, U64}
use Rattle.lane_core.specs.Register.{IsWidth, IsRegister, lane, build}
use Rattle.lane_core.proofs.Lanes.{lanes_fill, lane_inside, build_same, lane-append_left, lane-append_right}
use Rattle.c_memory.specs.declared.value.Value.{Value}
use Rattle.neon_elements.specs.declared.permutes.Reverse.{Reverse}
use Rattle.neon_elements.specs.declared.permutes.Reverse.TheVariants.{Rev16U8, Rev32U8, Rev32U16, Rev64U8, Rev64U16, Rev64U32}
use Rattle.neon_elements.specs.Elements.{bytes_of}
use Rattle.neon_elements.specs.Vectors.{extracted, zipped, unzipped, transposed, reversed_lane, container_of, reversed, duplicated_lane}
use Rattle.neon_elements.specs.Laws.{width_is}
use Rattle.neon_table.specs.Rows.{of_move}
use Rattle.price_choice.specs.declared.forms.FormKind.{FormKind}
use Rattle.price_choice.specs.declared.forms.FormKind.TheVariants.{Dup, Ext, Rev, Zip, Uzp, Trn}
use Rattle.price_choice.specs.Forms.{source_lane, IsListed, IsUnary, IsBinary}
use Rattle.seq_core.specs.Values.{called}
use Rattle.shuffle_plans.specs.Sequences.{lanes_of, row_of, constant_of}

-- ---- cases on widths and numbers

pub by_width : (P : ℕ → Type 0) (w : ℕ) → IsWidth w → P 1 → P 2 → P 4 → P 8 → P w
by_width P w h p q r s = elim h [ inl e ↦ subst P (sym e) p | inr h2 ↦ elim h2 [ inl e ↦ subst P (sym e) q | inr h3 ↦ elim h3 [ inl e ↦ subst P (sym e) r | inr e ↦ subst P (sym e) s ] ] ]

pub by_two : (P : ℕ → Type 0) (n : ℕ) → (n ≡ 1) ⊎ (n ≡ 2) → P 1 → P 2 → P n
by_two P n h p q = elim h [ inl e ↦ subst P (sym e) p | inr e ↦ subst P (sym e) q ]

-- the groups that lanes can have
pub by_group : (P : ℕ → ℕ → Type 0) (w n : ℕ) → IsListed Rev w n → P 1 2 → P 1 4 → P 1 8 → P 2 4 → P 2 8 → P 4 8 → P w n
by_group P w n h p12 p14 p18 p24 p28 p48 =
    elim h.0 [
      | inl e ↦ subst (λ v. P v n) (sym e) (elim h.1 [ inl d ↦ subst (P 1) (sym d) p12 | inr g ↦ elim g [ inl d ↦ subst (P 1) (sym d) p14 | inr d ↦ subst (P 1) (sym d) p18 ] ])
      | inr k ↦ elim k [
        | inl e ↦ subst (λ v. P v n) (sym e) (elim h.1 [ inl d ↦ absurd (omega (arith, e, d, h.2)) | inr g ↦ elim g [ inl d ↦ subst (P 2) (sym d) p24 | inr d ↦ subst (P 2) (sym d) p28 ] ])
        | inr e ↦ subst (λ v. P v n) (sym e) (elim h.1 [ inl d ↦ absurd (omega (arith, e, d, h.2)) | inr g ↦ elim g [ inl d ↦ absurd (omega (arith, e, d, h.2)) | inr d ↦ subst (P 4) (sym d) p48 ] ])
      ]
    ]

-- ---- a row that moves lanes of w bytes: lane k is lane s k of the operands, one behind the other

abbrev pub moved : ℕ → (ℕ → ℕ) → List ℕ → List ℕ
moved w s r = build w (16 / w) (λ k. lane w r (s k))

dup_moved : (t : NeonLane) (n : ℕ) (a : List ℕ) → n < 16 / bytes_of t → duplicated_lane t n a ≡ moved (bytes_of t) (source_lane Dup (bytes_of t) n) a
unfolding duplicated_lane
dup_moved t n a l = ap (λ m. build (bytes_of t) (16 / bytes_of t) (λ e. lane (bytes_of t) a m)) (mod-eq_of_lt l)

ext_moved : (a b : List ℕ) (n : ℕ) → n ≤ 15 → extracted a b n ≡ moved 1 (source_lane Ext 1 n) (a ++ b)
unfolding extracted
ext_moved a b n h =
    build_same 1 16 (λ k. if nat_lt (n + k) 32 then lane 1 (a ++ b) (n + k) else 0) (λ k. lane 1 (a ++ b) (k + n))
    (λ k l.
    let inside : n + k < 32 = omega (arith, h, l) in
    let t : nat_lt (n + k) 32 ≡ true = search (rules, inside) in
    let e : n + k ≡ k + n = omega arith in
    rw t (ap (λ p. lane 1 (a ++ b) p % 256 ^ 1) e))

rev_moved : (op : Reverse) (a : List ℕ) → reversed op a ≡ moved (bytes_of (reversed_lane op)) (source_lane Rev (bytes_of (reversed_lane op)) (container_of op)) a
unfolding reversed
rev_moved op a = refl

-- of two registers in turn
two_cases : (k : ℕ) → (k % 2 ≡ 0) ⊎ (k % 2 ≡ 1)
two_cases k = by (k % 2) (mod_below k 2 (omega arith))
  where
    by : (m : ℕ) → m < 2 → (m ≡ 0) ⊎ (m ≡ 1)
    by zero l = inl refl
    by (suc zero) l = inr refl
    by (suc (suc m)) l = absurd (omega (arith, l))

in_turn : (w : ℕ) (a b : List ℕ) (p k : ℕ) → IsWidth w → IsRegister 16 a → p < 16 / w → (if k % 2 == 0 then lane w a p else lane w b p) ≡ lane w (a ++ b) (p + k % 2 * (16 / w))
in_turn w a b p k width h l = elim (two_cases k) [
  | inl e ↦
      let none : p + 0 * (16 / w) ≡ p = omega arith in
      rw (e, none) (sym (lane-append_left w a b p (omega (arith, h.size, lane_inside w 16 p l))))
  | inr e ↦
      let next : p + 1 * (16 / w) ≡ 16 / w + p = omega arith in
      rw (e, next) (sym (lane-append_right w (16 / w) a b p (h.size ∙ sym (lanes_fill w 16 width (inr (inl refl))))))
]

-- the lane of a half, and every second lane
halves : (w : ℕ) → IsWidth w → 8 / w ≡ 16 / w / 2
halves w h = by_width (λ v. 8 / v ≡ 16 / v / 2) w h refl refl refl refl

in_half : (w part k : ℕ) → IsWidth w → part ≤ 1 → k < 16 / w → part * (8 / w) + k / 2 < 16 / w
in_half w part k h s l =
    by_width (λ v. k < 16 / v → part * (8 / v) + k / 2 < 16 / v) w h (λ i. omega (arith, s, i)) (λ i. omega (arith, s, i)) (λ i. omega (arith, s, i)) (λ i. omega (arith, s, i)) l

in_pair : (w part k : ℕ) → IsWidth w → part ≤ 1 → k < 16 / w → 2 * (k / 2) + part < 16 / w
in_pair w part k h s l =
    by_width (λ v. k < 16 / v → 2 * (k / 2) + part < 16 / v) w h (λ i. omega (arith, s, i)) (λ i. omega (arith, s, i)) (λ i. omega (arith, s, i)) (λ i. omega (arith, s, i)) l

zip_moved : (t : NeonLane) (part : ℕ) (a b : List ℕ) → part ≤ 1 → IsRegister 16 a → zipped part t a b ≡ moved (bytes_of t) (source_lane Zip (bytes_of t) (part + 1)) (a ++ b)
unfolding zipped
zip_moved t part a b s h =
    let w = bytes_of t in
    let e : part + 1 - 1 ≡ part = omega arith in
    build_same w (16 / w) (λ k. if k % 2 == 0 then lane w a (part * (8 / w) + k / 2) else lane w b (part * (8 / w) + k / 2)) (λ k. lane w (a ++ b) (source_lane Zip w (part + 1) k))
    (λ k l.
    ap (λ x. x % 256 ^ w)
    (in_turn w a b (part * (8 / w) + k / 2) k (width_is t) h (in_half w part k (width_is t) s l)
    ∙ ap (λ x. lane w (a ++ b) (part * x + k / 2 + k % 2 * (16 / w))) (halves w (width_is t))
    ∙ ap (λ m. lane w (a ++ b) (m * (16 / w / 2) + k / 2 + k % 2 * (16 / w))) (sym e)))

uzp1_moved : (t : NeonLane) (a b : List ℕ) → unzipped 0 t a b ≡ moved (bytes_of t) (source_lane Uzp (bytes_of t) 1) (a ++ b)
unfolding unzipped
uzp1_moved t a b = refl

uzp2_moved : (t : NeonLane) (a b : List ℕ) → unzipped 1 t a b ≡ moved (bytes_of t) (source_lane Uzp (bytes_of t) 2) (a ++ b)
unfolding unzipped
uzp2_moved t a b = refl

trn_moved : (t : NeonLane) (part : ℕ) (a b : List ℕ) → part ≤ 1 → IsRegister 16 a → transposed part t a b ≡ moved (bytes_of t) (source_lane Trn (bytes_of t) (part + 1)) (a ++ b)
unfolding transposed
trn_moved t part a b s h =
    let w = bytes_of t in
    build_same w (16 / w) (λ k. if k % 2 == 0 then lane w a (2 * (k / 2) + part) else lane w b (2 * (k / 2) + part)) (λ k. lane w (a ++ b) (source_lane Trn w (part + 1) k))
    (λ k l.
    let e : 2 * (k / 2) + part ≡ k / 2 * 2 + (part + 1 - 1) = omega arith in
    ap (λ x. x % 256 ^ w)
    (in_turn w a b (2 * (k / 2) + part) k (width_is t) h (in_pair w part k (width_is t) s l)
    ∙ ap (λ p. lane w (a ++ b) (p + k % 2 * (16 / w))) e))

-- ---- the rows of kinds

abbrev Gives1 : FormKind → List ℕ → ℕ → ℕ → Type 0
Gives1 kind r w n = called (of_move (row_of kind (lanes_of w) n)) (constant_of kind n) (Value.R16 r ∷ []) ≡ Some (Value.R16 (moved w (source_lane kind w n) r))

abbrev Gives2 : FormKind → List ℕ → List ℕ → ℕ → ℕ → Type 0
Gives2 kind r s w n = called (of_move (row_of kind (lanes_of w) n)) (constant_of kind n) (Value.R16 r ∷ Value.R16 s ∷ []) ≡ Some (Value.R16 (moved w (source_lane kind w n) (r ++ s)))

some : {r s : List ℕ} → r ≡ s → Some (Value.R16 r) ≡ Some (Value.R16 s)
some e = ap (λ x. Some (Value.R16 x)) e

pub unary_row : (kind : FormKind) (w n : ℕ) (r : List ℕ) → IsUnary kind → IsListed kind w n → Gives1 kind r w n
unary_row Dup w n r u h =
    by_width (λ v. n < 16 / v → Gives1 Dup r v n) w h.0 (λ l. some (dup_moved U8 n r l)) (λ l. some (dup_moved U16 n r l)) (λ l. some (dup_moved U32 n r l)) (λ l. some (dup_moved U64 n r l)) h.1
unary_row Rev w n r u h =
    by_group (Gives1 Rev r) w n h (some (rev_moved Rev16U8 r)) (some (rev_moved Rev32U8 r)) (some (rev_moved Rev64U8 r)) (some (rev_moved Rev32U16 r)) (some (rev_moved Rev64U16 r)) (some (rev_moved Rev64U32 r))
unary_row _ w n r u h = absurd u

pub binary_row : (kind : FormKind) (w n : ℕ) (r s : List ℕ) → IsBinary kind → IsListed kind w n → IsRegister 16 r → Gives2 kind r s w n
binary_row Ext w n r s u h i = subst (λ v. Gives2 Ext r s v n) (sym h.0) (some (ext_moved r s n h.2))
binary_row Zip w n r s u h i =
    by_two (Gives2 Zip r s w) n h.1
    (by_width (λ v. Gives2 Zip r s v 1) w h.0 (some (zip_moved U8 0 r s (omega arith) i)) (some (zip_moved U16 0 r s (omega arith) i)) (some (zip_moved U32 0 r s (omega arith) i)) (some (zip_moved U64 0 r s (omega arith) i)))
    (by_width (λ v. Gives2 Zip r s v 2) w h.0 (some (zip_moved U8 1 r s (omega arith) i)) (some (zip_moved U16 1 r s (omega arith) i)) (some (zip_moved U32 1 r s (omega arith) i)) (some (zip_moved U64 1 r s (omega arith) i)))
binary_row Uzp w n r s u h i =
    by_two (Gives2 Uzp r s w) n h.1
    (by_width (λ v. Gives2 Uzp r s v 1) w h.0 (some (uzp1_moved U8 r s)) (some (uzp1_moved U16 r s)) (some (uzp1_moved U32 r s)) (some (uzp1_moved U64 r s)))
    (by_width (λ v. Gives2 Uzp r s v 2) w h.0 (some (uzp2_moved U8 r s)) (some (uzp2_moved U16 r s)) (some (uzp2_moved U32 r s)) (some (uzp2_moved U64 r s)))
binary_row Trn w n r s u h i =
    by_two (Gives2 Trn r s w) n h.1
    (by_width (λ v. Gives2 Trn r s v 1) w h.0 (some (trn_moved U8 0 r s (omega arith) i)) (some (trn_moved U16 0 r s (omega arith) i)) (some (trn_moved U32 0 r s (omega arith) i)) (some (trn_moved U64 0 r s (omega arith) i)))
    (by_width (λ v. Gives2 Trn r s v 2) w h.0 (some (trn_moved U8 1 r s (omega arith) i)) (some (trn_moved U16 1 r s (omega arith) i)) (some (trn_moved U32 1 r s (omega arith) i)) (some (trn_moved U64 1 r s (omega arith) i)))
binary_row _ w n r s u h i = absurd u
