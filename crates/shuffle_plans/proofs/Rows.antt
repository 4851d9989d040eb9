-- Each block of a shuffle row's value has the bytes of the row's selection.
use Rattle.std.proofs.Common.{◌≡◌, ℕ, zero, suc, ◌+◌, ◌-◌, ◌*◌, ◌/◌, ◌%◌, ◌^◌, ◌<◌, ◌≤◌, List, [], ◌∷◌, ◌++◌, length, get_or, take, drop, refl, ap, sym, ◌∙◌, arith, rules, inl, inr, true, false}
use Rattle.std.specs.Prelude.{nat_lt}
use Rattle.std.proofs.lemmas.Bool.{cases_lt}
use Rattle.std.proofs.lemmas.Nat.{mod_below}
use Rattle.std.proofs.lemmas.List.{get_or-take, get_or-drop}
use Rattle.lane_core.specs.Register.{IsWidth, IsRegister, lane, build}
use Rattle.lane_core.specs.declared.table.Arg.{Arg}
use Rattle.lane_core.specs.declared.table.Arg.TheVariants as arg
use Rattle.lane_core.specs.declared.table.ParamKind.TheVariants as kind
use Rattle.lane_core.specs.Table.{FitsKinds, Fits}
use Rattle.lane_core.proofs.Laws.{build-append, IsRegister-low, IsRegister-high}
use Rattle.intel_lanes.specs.declared.lanes.Width.{Width}
use Rattle.intel_lanes.specs.declared.blocks.One.{One}
use Rattle.intel_lanes.specs.declared.blocks.One.TheVariants as one
use Rattle.intel_lanes.specs.declared.blocks.Two.{Two}
use Rattle.intel_lanes.specs.declared.blocks.Two.TheVariants as two
use Rattle.intel_lanes.specs.declared.blocks.OneImm.{OneImm}
use Rattle.intel_lanes.specs.declared.blocks.OneImm.TheVariants as one_imm
use Rattle.intel_lanes.specs.declared.blocks.TwoImm.TheVariants as two_imm
use Rattle.intel_lanes.specs.Lanes.{bytes_of}
use Rattle.intel_lanes.specs.Laws.{width_is}
use Rattle.intel_lanes.specs.Blocks.{one_of, two_of, one_imm_of, align_right, broadcast}
use Rattle.intel_forms.specs.declared.sizes.Size.{Size}
use Rattle.intel_forms.specs.declared.sizes.Size.TheVariants.{Xmm, Ymm}
use Rattle.intel_forms.specs.declared.across.Across.TheVariants as across
use Rattle.intel_forms.specs.declared.forms.Form.{Form}
use Rattle.intel_forms.specs.declared.forms.Form.TheVariants as form
use Rattle.intel_forms.specs.Sizes.{register}
use Rattle.intel_forms.specs.Across.{permute_qwords}
use Rattle.intel_forms.specs.Forms.{signature_of, value_of, one_value, two_value, one_imm_value, two_imm_value, across_blocks_value}
use Rattle.price_choice.specs.declared.forms.Pick.{Pick}
use Rattle.shuffle_plans.specs.Operands.{byte_picked, selected, picks, block, block_of, first_operand, second_operand}
use Rattle.shuffle_plans.specs.Selections.{low_pick, interleave_pick, dword_pick, low_word_pick, high_word_pick, up_pick, down_pick, align_pick, broadcast_pick, qword_byte, qword_pick, is_shuffle, picked_at}
use Rattle.shuffle_plans.proofs.Moves.{picked_lanes, moved_byte, selected_length, low_block, high_block}
use Rattle.shuffle_plans.proofs.Formulas.{low_moved, interleaved, dwords_shuffled, low_shuffled, high_shuffled, moved_up, moved_down, aligned, broadcast_block}

-- a formula of a block, and its selection
abbrev OneLaw : (List ℕ → List ℕ) → (ℕ → Pick) → Type 0
OneLaw f p = (a b : List ℕ) → IsRegister 16 a → f a ≡ selected (picks p) a b

abbrev TwoLaw : (List ℕ → List ℕ → List ℕ) → (ℕ → Pick) → Type 0
TwoLaw f p = (a b : List ℕ) → IsRegister 16 a → IsRegister 16 b → f a b ≡ selected (picks p) a b

one_size : (f : List ℕ → List ℕ) (p : ℕ → Pick) → OneLaw f p → (a : List ℕ) → IsRegister 16 a → length (f a) ≡ 16
one_size f p law a h = ap length (law a a h) ∙ selected_length (picks p) a a

one_block : (f : List ℕ → List ℕ) (p : ℕ → Pick) → OneLaw f p → (r : List ℕ) (half : ℕ) → half ≤ 1 → IsRegister 32 r
    → block half (f (take 16 r) ++ f (drop 16 r)) ≡ selected (picks p) (block half r) (block half r)
one_block f p law r zero l h =
    low_block (f (take 16 r)) (f (drop 16 r)) (one_size f p law (take 16 r) (IsRegister-low r h)) ∙ law (take 16 r) (take 16 r) (IsRegister-low r h)
one_block f p law r (suc zero) l h =
    high_block (f (take 16 r)) (f (drop 16 r)) (one_size f p law (take 16 r) (IsRegister-low r h)) ∙ law (drop 16 r) (drop 16 r) (IsRegister-high r h)
one_block f p law r (suc (suc n)) l h = absurd (omega (arith, l))

two_block : (f : List ℕ → List ℕ → List ℕ) (p : ℕ → Pick) → TwoLaw f p → (r s : List ℕ) (half : ℕ) → half ≤ 1 → IsRegister 32 r → IsRegister 32 s
    → block half (f (take 16 r) (take 16 s) ++ f (drop 16 r) (drop 16 s)) ≡ selected (picks p) (block half r) (block half s)
two_block f p law r s half l h i = go half l
  where
    low : f (take 16 r) (take 16 s) ≡ selected (picks p) (take 16 r) (take 16 s)
    low = law (take 16 r) (take 16 s) (IsRegister-low r h) (IsRegister-low s i)

    size : length (f (take 16 r) (take 16 s)) ≡ 16
    size = ap length low ∙ selected_length (picks p) (take 16 r) (take 16 s)

    go : (k : ℕ) → k ≤ 1 → block k (f (take 16 r) (take 16 s) ++ f (drop 16 r) (drop 16 s)) ≡ selected (picks p) (block k r) (block k s)
    go zero m = low_block (f (take 16 r) (take 16 s)) (f (drop 16 r) (drop 16 s)) size ∙ low
    go (suc zero) m = high_block (f (take 16 r) (take 16 s)) (f (drop 16 r) (drop 16 s)) size ∙ law (drop 16 r) (drop 16 s) (IsRegister-high r h) (IsRegister-high s i)
    go (suc (suc n)) m = absurd (omega (arith, m))

one_row : (size : Size) (op : One) (p : ℕ → Pick) → OneLaw (one_of op) p → (args : List Arg) (half : ℕ) → half ≤ 1 → FitsKinds (register size ∷ []) args
    → block_of half (one_value size (one_of op) args) ≡ selected (picks p) (first_operand (form.One size op) half args) (second_operand (form.One size op) half args)
one_row Xmm op p law (arg.R16 a ∷ []) half l h = law a a h.0.1
one_row Xmm op p law _ half l h = grind (arith, h)
one_row Ymm op p law (arg.R32 a ∷ []) half l h = one_block (one_of op) p law a half l h.0.1
one_row Ymm op p law _ half l h = grind (arith, h)

one_imm_row : (size : Size) (op : OneImm) (imm : ℕ) (p : ℕ → Pick) → OneLaw (λ a. one_imm_of op a imm) p → (args : List Arg) (half : ℕ) → half ≤ 1
    → FitsKinds (register size ∷ kind.Immediate ∷ []) args
    → block_of half (one_imm_value size (λ a. one_imm_of op a imm) args) ≡ selected (picks p) (first_operand (form.OneImm size op) half args) (second_operand (form.OneImm size op) half args)
one_imm_row Xmm op imm p law (arg.R16 a ∷ arg.Nothing ∷ []) half l h = law a a h.0.1
one_imm_row Xmm op imm p law _ half l h = grind (arith, h)
one_imm_row Ymm op imm p law (arg.R32 a ∷ arg.Nothing ∷ []) half l h = one_block (λ a. one_imm_of op a imm) p law a half l h.0.1
one_imm_row Ymm op imm p law _ half l h = grind (arith, h)

two_row : (size : Size) (op : Two) (p : ℕ → Pick) → TwoLaw (two_of op) p → (args : List Arg) (half : ℕ) → half ≤ 1 → FitsKinds (register size ∷ register size ∷ []) args
    → block_of half (two_value size (two_of op) args) ≡ selected (picks p) (first_operand (form.Two size op) half args) (second_operand (form.Two size op) half args)
two_row Xmm op p law (arg.R16 a ∷ arg.R16 b ∷ []) half l h = law a b h.0.1 h.1.0.1
two_row Xmm op p law _ half l h = grind (arith, h)
two_row Ymm op p law (arg.R32 a ∷ arg.R32 b ∷ []) half l h = two_block (two_of op) p law a b half l h.0.1 h.1.0.1
two_row Ymm op p law _ half l h = grind (arith, h)

align_row : (size : Size) (imm : ℕ) (args : List Arg) (half : ℕ) → half ≤ 1 → FitsKinds (register size ∷ register size ∷ kind.Immediate ∷ []) args
    → block_of half (two_imm_value size two_imm.AlignRight args imm)
    ≡ selected (picks (align_pick imm)) (first_operand (form.TwoImm size two_imm.AlignRight) half args) (second_operand (form.TwoImm size two_imm.AlignRight) half args)
align_row Xmm imm (arg.R16 a ∷ arg.R16 b ∷ arg.Nothing ∷ []) half l h = aligned a b imm h.1.0.1.size
align_row Xmm imm _ half l h = grind (arith, h)
align_row Ymm imm (arg.R32 a ∷ arg.R32 b ∷ arg.Nothing ∷ []) half l h =
    two_block (λ a b. align_right a b imm) (align_pick imm) (λ a b i j. aligned a b imm j.size) a b half l h.0.1 h.1.0.1
align_row Ymm imm _ half l h = grind (arith, h)

-- lane 0 in all lanes of both blocks
doubled : (w : ℕ) → IsWidth w → 32 / w ≡ 16 / w + 16 / w
doubled w h = elim h [ inl e ↦ rw e refl | inr h2 ↦ elim h2 [ inl e ↦ rw e refl | inr h3 ↦ elim h3 [ inl e ↦ rw e refl | inr e ↦ rw e refl ] ] ]

broadcast_half : (w : ℕ) (a : List ℕ) (half : ℕ) → half ≤ 1 → IsWidth w → IsRegister 16 a → block half (broadcast 32 w a) ≡ selected (picks (broadcast_pick w)) a a
unfolding broadcast
broadcast_half w a half l width h = ap (λ n. block half (build w n (λ k. lane w a 0))) (doubled w width) ∙ ap (block half) (build-append w (16 / w) (16 / w) (λ k. lane w a 0)) ∙ go half l
  where
    part : build w (16 / w) (λ k. lane w a 0) ≡ selected (picks (broadcast_pick w)) a a
    part = broadcast_block w a a width h.bytes

    size : length (build w (16 / w) (λ k. lane w a 0)) ≡ 16
    size = ap length part ∙ selected_length (picks (broadcast_pick w)) a a

    go : (k : ℕ) → k ≤ 1 → block k (build w (16 / w) (λ k. lane w a 0) ++ build w (16 / w) (λ k. lane w a 0)) ≡ selected (picks (broadcast_pick w)) a a
    go zero m = low_block (build w (16 / w) (λ k. lane w a 0)) (build w (16 / w) (λ k. lane w a 0)) size ∙ part
    go (suc zero) m = high_block (build w (16 / w) (λ k. lane w a 0)) (build w (16 / w) (λ k. lane w a 0)) size ∙ part
    go (suc (suc n)) m = absurd (omega (arith, m))

broadcast_whole : (w : ℕ) (a : List ℕ) → IsWidth w → IsRegister 16 a → broadcast 16 w a ≡ selected (picks (broadcast_pick w)) a a
unfolding broadcast
broadcast_whole w a width h = broadcast_block w a a width h.bytes

broadcast_row : (size : Size) (width : Width) (args : List Arg) (half : ℕ) → half ≤ 1 → FitsKinds (kind.Reg 16 ∷ []) args
    → block_of half (across_blocks_value size (λ n. broadcast n (bytes_of width)) args)
    ≡ selected (picks (broadcast_pick (bytes_of width))) (first_operand (form.Broadcast size width) half args) (second_operand (form.Broadcast size width) half args)
broadcast_row Xmm width (arg.R16 a ∷ []) half l h = broadcast_whole (bytes_of width) a (width_is width) h.0.1
broadcast_row Xmm width _ half l h = grind (arith, h)
broadcast_row Ymm width (arg.R16 a ∷ []) half l h = broadcast_half (bytes_of width) a half l (width_is width) h.0.1
broadcast_row Ymm width _ half l h = grind (arith, h)

-- a byte of a quadword of both blocks
qword_there : (a : List ℕ) (q i : ℕ) → q < 4 → get_or a (q * 8 + i % 8) 0 ≡ byte_picked (take 16 a) (drop 16 a) (qword_byte q i)
qword_there a q i l =
    let small : i % 8 < 8 = mod_below i 8 (omega arith) in
    elim (cases_lt q 2) [
      | inl s ↦
          let t : nat_lt q 2 ≡ true = search (rules, s) in
          rw t (sym (get_or-take 16 a (q * 8 + i % 8) 0 (omega (arith, s, small))))
      | inr s ↦
          let t : nat_lt q 2 ≡ false = search (rules, s) in
          let e : q * 8 + i % 8 ≡ 16 + ((q - 2) * 8 + i % 8) = omega (arith, s) in
          rw t (ap (λ p. get_or a p 0) e ∙ sym (get_or-drop 16 a ((q - 2) * 8 + i % 8) 0))
    ]

qword_block : (half imm : ℕ) (a : List ℕ) (g : ℕ → ℕ) → IsRegister 32 a → ((k : ℕ) → g k ≡ lane 8 a (imm / 4 ^ (2 * half + k) % 4))
    → build 8 2 g ≡ selected (picks (qword_pick imm half)) (take 16 a) (drop 16 a)
qword_block half imm a g h e =
    picked_lanes 8 (qword_pick imm half) g (take 16 a) (drop 16 a) (inr (inr (inr refl)))
    (λ i l.
    ap (λ x. x % 256 ^ 8 / 256 ^ (i % 8) % 256) (e (i / 8))
    ∙ moved_byte 8 a (imm / 4 ^ (2 * half + i / 8) % 4) (i % 8) h.bytes (mod_below i 8 (omega arith))
    ∙ qword_there a (imm / 4 ^ (2 * half + i / 8) % 4) i (mod_below (imm / 4 ^ (2 * half + i / 8)) 4 (omega arith)))

permuted : (half imm : ℕ) (a : List ℕ) → half ≤ 1 → IsRegister 32 a → block half (permute_qwords a imm) ≡ selected (picks (qword_pick imm half)) (take 16 a) (drop 16 a)
unfolding permute_qwords
permuted half imm a l h = ap (block half) (build-append 8 2 2 g) ∙ go half l
  where
    g : ℕ → ℕ
    g k = lane 8 a (imm / 4 ^ k % 4)

    low : build 8 2 g ≡ selected (picks (qword_pick imm 0)) (take 16 a) (drop 16 a)
    low = qword_block 0 imm a g h (λ k. let e : k ≡ 2 * 0 + k = omega arith in ap (λ n. lane 8 a (imm / 4 ^ n % 4)) e)

    size : length (build 8 2 g) ≡ 16
    size = ap length low ∙ selected_length (picks (qword_pick imm 0)) (take 16 a) (drop 16 a)

    go : (n : ℕ) → n ≤ 1 → block n (build 8 2 g ++ build 8 2 (λ k. g (2 + k))) ≡ selected (picks (qword_pick imm n)) (take 16 a) (drop 16 a)
    go zero m = low_block (build 8 2 g) (build 8 2 (λ k. g (2 + k))) size ∙ low
    go (suc zero) m =
        high_block (build 8 2 g) (build 8 2 (λ k. g (2 + k))) size
        ∙ qword_block 1 imm a (λ k. g (2 + k)) h (λ k. let e : 2 + k ≡ 2 * 1 + k = omega arith in ap (λ n. lane 8 a (imm / 4 ^ n % 4)) e)
    go (suc (suc n)) m = absurd (omega (arith, m))

qword_row : (imm : ℕ) (args : List Arg) (half : ℕ) → half ≤ 1 → FitsKinds (kind.Reg 32 ∷ kind.Immediate ∷ []) args
    → block_of half (value_of (form.Across across.PermuteQwords) args imm)
    ≡ selected (picks (qword_pick imm half)) (first_operand (form.Across across.PermuteQwords) half args) (second_operand (form.Across across.PermuteQwords) half args)
qword_row imm (arg.R32 a ∷ arg.Nothing ∷ []) half l h = permuted half imm a l h.0.1
qword_row imm _ half l h = grind (arith, h)

-- ---- all shuffle rows

pub selections_are_rows : (f : Form) (args : List Arg) (imm half : ℕ) → is_shuffle f ≡ true → Fits (signature_of f) args → half ≤ 1
    → block_of half (value_of f args imm) ≡ selected (picks (picked_at f imm half)) (first_operand f half args) (second_operand f half args)
selections_are_rows (form.One size one.MoveLow) args imm half s h l = one_row size one.MoveLow low_pick (λ a b i. low_moved a b i.bytes) args half l h
selections_are_rows (form.Two size (two.UnpackLow width)) args imm half s h l =
    two_row size (two.UnpackLow width) (interleave_pick 0 (bytes_of width)) (λ a b i j. interleaved 0 (bytes_of width) a b (width_is width) i.bytes j.bytes) args half l h
selections_are_rows (form.Two size (two.UnpackHigh width)) args imm half s h l =
    two_row size (two.UnpackHigh width) (interleave_pick (8 / bytes_of width) (bytes_of width))
    (λ a b i j. interleaved (8 / bytes_of width) (bytes_of width) a b (width_is width) i.bytes j.bytes) args half l h
selections_are_rows (form.OneImm size one_imm.ShuffleDwords) args imm half s h l =
    one_imm_row size one_imm.ShuffleDwords imm (dword_pick imm) (λ a b i. dwords_shuffled a b imm i.bytes) args half l h
selections_are_rows (form.OneImm size one_imm.ShuffleLow) args imm half s h l = one_imm_row size one_imm.ShuffleLow imm (low_word_pick imm) (λ a b i. low_shuffled a b imm i.bytes) args half l h
selections_are_rows (form.OneImm size one_imm.ShuffleHigh) args imm half s h l = one_imm_row size one_imm.ShuffleHigh imm (high_word_pick imm) (λ a b i. high_shuffled a b imm i.bytes) args half l h
selections_are_rows (form.OneImm size one_imm.BytesUp) args imm half s h l = one_imm_row size one_imm.BytesUp imm (up_pick imm) (λ a b i. moved_up a b imm) args half l h
selections_are_rows (form.OneImm size one_imm.BytesDown) args imm half s h l = one_imm_row size one_imm.BytesDown imm (down_pick imm) (λ a b i. moved_down a b imm) args half l h
selections_are_rows (form.TwoImm size two_imm.AlignRight) args imm half s h l = align_row size imm args half l h
selections_are_rows (form.Broadcast size width) args imm half s h l = broadcast_row size width args half l h
selections_are_rows (form.Across across.PermuteQwords) args imm half s h l = qword_row imm args half l h
selections_are_rows _ args imm half s h l = grind (arith, s)
