-- Lanes that are halved in width, and lanes that are extended.
use Rattle.std.proofs.Common.{◌≡◌, ℕ, ◌+◌, ◌-◌, ◌*◌, ◌/◌, ◌%◌, ◌^◌, ◌<◌, ◌≤◌, List, ◌++◌, take, drop, length, length-take, length-drop, refl, ap, sym, ◌∙◌, arith, ℤ, pos, negsuc, ◌-ℤ◌, ◌≤ℤ◌, ◌<ℤ◌, true, false}
use Rattle.std.specs.Prelude.{Bool, ◌==◌, if◌then◌else◌}
use Rattle.std.proofs.lemmas.Int.{ints}
use Rattle.std.proofs.Math.Nat.{mod-eq_of_lt, mod-mod}
use Rattle.lane_core.specs.Register.{Bytes, IsRegister, IsWidth, lane, build, signed, wrapped}
use Rattle.lane_core.proofs.Lists.{Bytes-take, Bytes-drop}
use Rattle.lane_core.proofs.Lanes.{lane-build, build_same, build-lane, length-build, Bytes-build, lane-append_left, lane-append_right, lane-take, lane-drop, lane_below}
use Rattle.lane_core.proofs.Laws.{build-append, IsRegister-build}
use Rattle.lane_core.proofs.Signed.{signed-wrapped, signed_least, signed_greatest, wrapped_below}
use Rattle.lane_core.specs.declared.vector.NeonLane.{NeonLane}
use Rattle.lane_core.specs.declared.vector.NeonLane.TheVariants.{U8, U16, U32, S8, S16, S32}
use Rattle.intel_lanes.specs.declared.lanes.Width.{Width}
use Rattle.intel_lanes.specs.declared.lanes.Width.TheVariants.{Byte, Word, Dword}
use Rattle.intel_lanes.specs.Lanes.{saturate, saturate_unsigned}
use Rattle.intel_lanes.specs.Blocks.{pack, pack_unsigned, extended}
use Rattle.intel_lanes.specs.Laws.{word, dword, xmm}
use Rattle.intel_forms.specs.declared.forms.Extension.{Extension}
use Rattle.intel_forms.specs.declared.forms.Extension.TheVariants.{ByteWord, ByteDword, ByteQword, WordDword, WordQword, DwordQword}
use Rattle.intel_forms.specs.Forms.{narrow_of, wide_of}
use Rattle.neon_elements.specs.declared.elements.Narrowing.TheVariants.{Saturate}
use Rattle.neon_elements.specs.Elements.{signed_sat, unsigned_sat}
use Rattle.neon_elements.specs.Vectors.{half, combined, narrowed, widened}

-- ---- packs

saturate_is : (w : ℕ) (z : ℤ) → signed_sat w z ≡ saturate w z
unfolding saturate signed_sat
saturate_is w (pos n) = refl
saturate_is w (negsuc n) = omega arith

saturate_unsigned_is : (w : ℕ) (z : ℤ) → unsigned_sat w z ≡ saturate_unsigned w z
unfolding saturate_unsigned unsigned_sat
saturate_unsigned_is w (pos n) = refl
saturate_unsigned_is w (negsuc n) = refl

-- two vectors of 64 bits as one of 128
joined : (a b : List ℕ) → length a ≡ 8 → length b ≡ 8 → Bytes a → Bytes b → combined a b ≡ a ++ b
unfolding combined build
joined a b k l x y =
    build-append 8 1 1 (λ e. if e == 0 then lane 8 a 0 else lane 8 b 0)
    ∙ ap (λ (z : List ℕ). z ++ build 8 1 (lane 8 b)) (build-lane 8 1 a x k)
    ∙ ap (λ (z : List ℕ). a ++ z) (build-lane 8 1 b y l)

-- f of the lanes of twice the width of two vectors, where g is the same
narrowed_both : (w n : ℕ) (f g : ℕ → ℕ) (a b : List ℕ) → n * w ≡ 8 → length a ≡ n * (2 * w) → ((k : ℕ) → k < n → k * (2 * w) + 2 * w ≤ length a) → ((x : ℕ) → f x ≡ g x)
    → combined (build w n (λ e. f (lane (2 * w) a e))) (build w n (λ e. f (lane (2 * w) b e))) ≡ build w (n + n) (λ k. g (lane (2 * w) (a ++ b) k))
narrowed_both w n f g a b fill len inside same =
    let lo = build w n (λ e. f (lane (2 * w) a e)) in
    let hi = build w n (λ e. f (lane (2 * w) b e)) in
    joined lo hi (length-build w n (λ e. f (lane (2 * w) a e)) ∙ fill) (length-build w n (λ e. f (lane (2 * w) b e)) ∙ fill) (Bytes-build w n (λ e. f (lane (2 * w) a e))) (Bytes-build w n (λ e. f (lane (2 * w) b e)))
    ∙ sym (build-append w n n (λ k. g (lane (2 * w) (a ++ b) k))
    ∙ ap (λ (z : List ℕ). z ++ build w n (λ k. g (lane (2 * w) (a ++ b) (n + k))))
    (build_same w n (λ k. g (lane (2 * w) (a ++ b) k)) (λ e. f (lane (2 * w) a e))
    (λ k l. ap (λ v. v % 256 ^ w) (sym (same (lane (2 * w) (a ++ b) k)) ∙ ap f (lane-append_left (2 * w) a b k (inside k l)))))
    ∙ ap (λ (z : List ℕ). lo ++ z)
    (build_same w n (λ k. g (lane (2 * w) (a ++ b) (n + k))) (λ e. f (lane (2 * w) b e))
    (λ k l. ap (λ v. v % 256 ^ w) (sym (same (lane (2 * w) (a ++ b) (n + k))) ∙ ap f (lane-append_right (2 * w) n a b k len)))))

pub pack_words : (a b : List ℕ) → IsRegister 16 a → combined (narrowed Saturate S8 S16 a) (narrowed Saturate S8 S16 b) ≡ pack 1 a b
unfolding narrowed pack
pack_words a b h =
    let len = h.size in
    narrowed_both 1 8 (λ x. signed_sat 1 (signed 2 x)) (λ x. saturate 1 (signed 2 x)) a b refl len (λ k l. omega (arith, len, l)) (λ x. saturate_is 1 (signed 2 x))

pub pack_dwords : (a b : List ℕ) → IsRegister 16 a → combined (narrowed Saturate S16 S32 a) (narrowed Saturate S16 S32 b) ≡ pack 2 a b
unfolding narrowed pack
pack_dwords a b h =
    let len = h.size in
    narrowed_both 2 4 (λ x. signed_sat 2 (signed 4 x)) (λ x. saturate 2 (signed 4 x)) a b refl len (λ k l. omega (arith, len, l)) (λ x. saturate_is 2 (signed 4 x))

pub pack_words_unsigned : (a b : List ℕ) → IsRegister 16 a → combined (narrowed Saturate U8 S16 a) (narrowed Saturate U8 S16 b) ≡ pack_unsigned 1 a b
unfolding narrowed pack_unsigned
pack_words_unsigned a b h =
    let len = h.size in
    narrowed_both 1 8 (λ x. unsigned_sat 1 (signed 2 x)) (λ x. saturate_unsigned 1 (signed 2 x)) a b refl len (λ k l. omega (arith, len, l)) (λ x. saturate_unsigned_is 1 (signed 2 x))

pub pack_dwords_unsigned : (a b : List ℕ) → IsRegister 16 a → combined (narrowed Saturate U16 S32 a) (narrowed Saturate U16 S32 b) ≡ pack_unsigned 2 a b
unfolding narrowed pack_unsigned
pack_dwords_unsigned a b h =
    let len = h.size in
    narrowed_both 2 4 (λ x. unsigned_sat 2 (signed 4 x)) (λ x. saturate_unsigned 2 (signed 4 x)) a b refl len (λ k l. omega (arith, len, l)) (λ x. saturate_unsigned_is 2 (signed 4 x))

-- ---- extensions

-- the low half of a vector
low_half : (a : List ℕ) → IsRegister 16 a → half 0 a ≡ take 8 a
unfolding half
low_half a h =
    build_same 8 1 (λ e. lane 8 a 0) (lane 8 (take 8 a)) (λ e l. let z : e ≡ 0 = omega (arith, l) in ap (λ v. v % 256 ^ 8) (sym (lane-take 8 8 a 0 (omega arith)) ∙ ap (lane 8 (take 8 a)) (sym z)))
    ∙ build-lane 8 1 (take 8 a) (Bytes-take 8 a h.bytes) (let s = h.size in omega (arith, length-take 8 a, s))

high_half : (a : List ℕ) → IsRegister 16 a → half 1 a ≡ drop 8 a
unfolding half
high_half a h =
    build_same 8 1 (λ e. lane 8 a 1) (lane 8 (drop 8 a)) (λ e l. let z : e ≡ 0 = omega (arith, l) in ap (λ v. v % 256 ^ 8) (sym (lane-drop 8 1 a 0) ∙ ap (lane 8 (drop 8 a)) (sym z)))
    ∙ build-lane 8 1 (drop 8 a) (Bytes-drop 8 a h.bytes) (let s = h.size in omega (arith, length-drop 8 a, s))

pub halves_joined : (a b : List ℕ) → IsRegister 16 a → IsRegister 16 b → combined (half 0 a) (half 1 b) ≡ take 8 a ++ drop 8 b
halves_joined a b h i =
    let s = h.size in
    let t = i.size in
    ap (λ r. combined r (half 1 b)) (low_half a h) ∙ ap (combined (take 8 a)) (high_half b i)
    ∙ joined (take 8 a) (drop 8 b) (omega (arith, length-take 8 a, s)) (omega (arith, length-drop 8 b, t)) (Bytes-take 8 a h.bytes) (Bytes-drop 8 b i.bytes)

-- g of the lanes of a low half, where h says what it is at each
of_low_half : (u w m : ℕ) (g h : ℕ → ℕ) (a : List ℕ) → IsRegister 16 a → ((e : ℕ) → e < m → e * u + u ≤ 8) → ((e : ℕ) → e < m → g (lane u a e) % 256 ^ w ≡ h e % 256 ^ w)
    → build w m (λ e. g (lane u (half 0 a) e)) ≡ build w m h
of_low_half u w m g h a r inside same =
    build_same w m (λ e. g (lane u (half 0 a) e)) h
    (λ e l. ap (λ v. g v % 256 ^ w) (ap (λ s. lane u s e) (low_half a r) ∙ lane-take u 8 a e (inside e l)) ∙ same e l)

-- a number of fewer bytes keeps its value
abbrev Keeps : ℕ → ℕ → Type 0
Keeps u v = (x : ℕ) → x < 256 ^ u → signed v (wrapped v (signed u x) % 256 ^ v) ≡ signed u x

keeps : (u v : ℕ) → 0 < u → 0 < v → ((z : ℤ) → (pos 0 -ℤ pos (2 ^ (8 * u - 1))) ≤ℤ z → (pos 0 -ℤ pos (2 ^ (8 * v - 1))) ≤ℤ z)
    → ((z : ℤ) → z <ℤ pos (2 ^ (8 * u - 1)) → z <ℤ pos (2 ^ (8 * v - 1))) → Keeps u v
keeps u v p q least greatest x h =
    ap (signed v) (mod-eq_of_lt (wrapped_below v (signed u x)))
    ∙ signed-wrapped v (signed u x) q (least (signed u x) (signed_least u x p)) (greatest (signed u x) (signed_greatest u x p h))

keeps_byte : Keeps 1 2
keeps_byte = keeps 1 2 (omega arith) (omega arith) (λ z l. omega (arith, ints, l)) (λ z l. omega (arith, ints, l))

keeps_byte_4 : Keeps 1 4
keeps_byte_4 = keeps 1 4 (omega arith) (omega arith) (λ z l. omega (arith, ints, l)) (λ z l. omega (arith, ints, l))

keeps_word : Keeps 2 4
keeps_word = keeps 2 4 (omega arith) (omega arith) (λ z l. omega (arith, ints, l)) (λ z l. omega (arith, ints, l))

-- one step, and a step over a step, each by its formula
widened_low : (u m : ℕ) (g h : ℕ → ℕ) (a : List ℕ) → IsRegister 16 a → ((e : ℕ) → e < m → e * u + u ≤ 8) → ((x : ℕ) → x < 256 ^ u → g x % 256 ^ (2 * u) ≡ h x % 256 ^ (2 * u))
    → build (2 * u) m (λ e. g (lane u (half 0 a) e)) ≡ build (2 * u) m (λ e. h (lane u a e))
widened_low u m g h a r inside same = of_low_half u (2 * u) m g (λ e. h (lane u a e)) a r inside (λ e l. same (lane u a e) (lane_below u a e r.bytes))

widened_more : (u v w m : ℕ) (f g h : ℕ → ℕ) (a : List ℕ) → IsRegister 16 a → IsWidth v → ((e : ℕ) → e < m → e * v + v ≤ 8) → ((e : ℕ) → e < m → e < 16 / v)
    → ((x : ℕ) → x < 256 ^ u → g (f x % 256 ^ v) % 256 ^ w ≡ h x % 256 ^ w)
    → build w m (λ e. g (lane v (half 0 (build v (16 / v) (λ k. f (lane u a k)))) e)) ≡ build w m (λ e. h (lane u a e))
widened_more u v w m f g h a r width inside below same =
    let s = build v (16 / v) (λ k. f (lane u a k)) in
    of_low_half v w m g (λ e. h (lane u a e)) s (IsRegister-build v 16 (λ k. f (lane u a k)) width xmm) inside
    (λ e l. ap (λ x. g x % 256 ^ w) (lane-build v (16 / v) (λ k. f (lane u a k)) e (below e l)) ∙ same (lane u a e) (lane_below u a e r.bytes))

-- with signs
signed_words : (a : List ℕ) → IsRegister 16 a → widened S8 (half 0 a) ≡ extended true 16 1 2 a
unfolding widened extended
signed_words a r = widened_low 1 8 (λ x. wrapped 2 (signed 1 x)) (λ x. wrapped 2 (signed 1 x)) a r (λ e l. omega (arith, l)) (λ x l. refl)

signed_dwords : (a : List ℕ) → IsRegister 16 a → widened S16 (half 0 a) ≡ extended true 16 2 4 a
unfolding widened extended
signed_dwords a r = widened_low 2 4 (λ x. wrapped 4 (signed 2 x)) (λ x. wrapped 4 (signed 2 x)) a r (λ e l. omega (arith, l)) (λ x l. refl)

signed_qwords : (a : List ℕ) → IsRegister 16 a → widened S32 (half 0 a) ≡ extended true 16 4 8 a
unfolding widened extended
signed_qwords a r = widened_low 4 2 (λ x. wrapped 8 (signed 4 x)) (λ x. wrapped 8 (signed 4 x)) a r (λ e l. omega (arith, l)) (λ x l. refl)

byte_dwords : (a : List ℕ) → IsRegister 16 a → widened S16 (half 0 (extended true 16 1 2 a)) ≡ extended true 16 1 4 a
unfolding widened extended
byte_dwords a r =
    widened_more 1 2 4 4 (λ x. wrapped 2 (signed 1 x)) (λ x. wrapped 4 (signed 2 x)) (λ x. wrapped 4 (signed 1 x)) a r word (λ e l. omega (arith, l)) (λ e l. omega (arith, l))
    (λ x l. ap (λ (z : ℤ). wrapped 4 z % 256 ^ 4) (keeps_byte x l))

byte_qwords : (a : List ℕ) → IsRegister 16 a → widened S32 (half 0 (extended true 16 1 4 a)) ≡ extended true 16 1 8 a
unfolding widened extended
byte_qwords a r =
    widened_more 1 4 8 2 (λ x. wrapped 4 (signed 1 x)) (λ x. wrapped 8 (signed 4 x)) (λ x. wrapped 8 (signed 1 x)) a r dword (λ e l. omega (arith, l)) (λ e l. omega (arith, l))
    (λ x l. ap (λ (z : ℤ). wrapped 8 z % 256 ^ 8) (keeps_byte_4 x l))

word_qwords : (a : List ℕ) → IsRegister 16 a → widened S32 (half 0 (extended true 16 2 4 a)) ≡ extended true 16 2 8 a
unfolding widened extended
word_qwords a r =
    widened_more 2 4 8 2 (λ x. wrapped 4 (signed 2 x)) (λ x. wrapped 8 (signed 4 x)) (λ x. wrapped 8 (signed 2 x)) a r dword (λ e l. omega (arith, l)) (λ e l. omega (arith, l))
    (λ x l. ap (λ (z : ℤ). wrapped 8 z % 256 ^ 8) (keeps_word x l))

-- without
unsigned_words : (a : List ℕ) → IsRegister 16 a → widened U8 (half 0 a) ≡ extended false 16 1 2 a
unfolding widened extended wrapped
unsigned_words a r = widened_low 1 8 (λ x. x % 256 ^ 2) (λ x. x) a r (λ e l. omega (arith, l)) (λ x l. mod-mod x (256 ^ 2))

unsigned_dwords : (a : List ℕ) → IsRegister 16 a → widened U16 (half 0 a) ≡ extended false 16 2 4 a
unfolding widened extended wrapped
unsigned_dwords a r = widened_low 2 4 (λ x. x % 256 ^ 4) (λ x. x) a r (λ e l. omega (arith, l)) (λ x l. mod-mod x (256 ^ 4))

unsigned_qwords : (a : List ℕ) → IsRegister 16 a → widened U32 (half 0 a) ≡ extended false 16 4 8 a
unfolding widened extended wrapped
unsigned_qwords a r = widened_low 4 2 (λ x. x % 256 ^ 8) (λ x. x) a r (λ e l. omega (arith, l)) (λ x l. mod-mod x (256 ^ 8))

unsigned_byte_dwords : (a : List ℕ) → IsRegister 16 a → widened U16 (half 0 (extended false 16 1 2 a)) ≡ extended false 16 1 4 a
unfolding widened extended wrapped
unsigned_byte_dwords a r =
    widened_more 1 2 4 4 (λ x. x) (λ x. x % 256 ^ 4) (λ x. x) a r word (λ e l. omega (arith, l)) (λ e l. omega (arith, l)) (λ x l. omega (arith, l))

unsigned_byte_qwords : (a : List ℕ) → IsRegister 16 a → widened U32 (half 0 (extended false 16 1 4 a)) ≡ extended false 16 1 8 a
unfolding widened extended wrapped
unsigned_byte_qwords a r =
    widened_more 1 4 8 2 (λ x. x) (λ x. x % 256 ^ 8) (λ x. x) a r dword (λ e l. omega (arith, l)) (λ e l. omega (arith, l)) (λ x l. omega (arith, l))

unsigned_word_qwords : (a : List ℕ) → IsRegister 16 a → widened U32 (half 0 (extended false 16 2 4 a)) ≡ extended false 16 2 8 a
unfolding widened extended wrapped
unsigned_word_qwords a r =
    widened_more 2 4 8 2 (λ x. x) (λ x. x % 256 ^ 8) (λ x. x) a r dword (λ e l. omega (arith, l)) (λ e l. omega (arith, l)) (λ x l. omega (arith, l))

-- the low lanes of a register in one, two and three steps
abbrev pub element : Bool → Width → NeonLane
element s Byte = if s then S8 else U8
element s Word = if s then S16 else U16
element s _ = if s then S32 else U32

-- the chain of steps for each extension
abbrev pub chained : Bool → Extension → List ℕ → List ℕ
chained s ByteWord a = widened (element s Byte) (half 0 a)
chained s ByteDword a = widened (element s Word) (half 0 (widened (element s Byte) (half 0 a)))
chained s ByteQword a = widened (element s Dword) (half 0 (widened (element s Word) (half 0 (widened (element s Byte) (half 0 a)))))
chained s WordDword a = widened (element s Word) (half 0 a)
chained s WordQword a = widened (element s Dword) (half 0 (widened (element s Word) (half 0 a)))
chained s DwordQword a = widened (element s Dword) (half 0 a)

pub chained_is : (s : Bool) (widths : Extension) (a : List ℕ) → IsRegister 16 a → chained s widths a ≡ extended s 16 (narrow_of widths) (wide_of widths) a
chained_is true ByteWord a r = signed_words a r
chained_is true ByteDword a r = ap (λ x. widened S16 (half 0 x)) (signed_words a r) ∙ byte_dwords a r
chained_is true ByteQword a r = ap (λ x. widened S32 (half 0 (widened S16 (half 0 x)))) (signed_words a r) ∙ ap (λ x. widened S32 (half 0 x)) (byte_dwords a r) ∙ byte_qwords a r
chained_is true WordDword a r = signed_dwords a r
chained_is true WordQword a r = ap (λ x. widened S32 (half 0 x)) (signed_dwords a r) ∙ word_qwords a r
chained_is true DwordQword a r = signed_qwords a r
chained_is false ByteWord a r = unsigned_words a r
chained_is false ByteDword a r = ap (λ x. widened U16 (half 0 x)) (unsigned_words a r) ∙ unsigned_byte_dwords a r
chained_is false ByteQword a r = ap (λ x. widened U32 (half 0 (widened U16 (half 0 x)))) (unsigned_words a r) ∙ ap (λ x. widened U32 (half 0 x)) (unsigned_byte_dwords a r) ∙ unsigned_byte_qwords a r
chained_is false WordDword a r = unsigned_dwords a r
chained_is false WordQword a r = ap (λ x. widened U32 (half 0 x)) (unsigned_dwords a r) ∙ unsigned_word_qwords a r
chained_is false DwordQword a r = unsigned_qwords a r
