-- What the formulas give: registers of 16 or of 8 bytes, and integers modulo 2 ^ 64.
use Rattle.std.proofs.Common.{ℕ, ◌≤◌, ◌*◌, ◌^◌, List, Bool, refl, inl, inr, arith}
use Rattle.lane_core.specs.Register.{IsRegister, IsWidth, IsSize}
use Rattle.lane_core.specs.declared.vector.NeonLane.{NeonLane}
use Rattle.lane_core.specs.declared.vector.NeonLane.TheVariants.{U8, U16, U32, U64, S8, S16, S32, S64}
use Rattle.lane_core.proofs.Laws.{IsRegister-build, IsRegister-map1, IsRegister-map2, IsRegister-pairwise}
use Rattle.neon_elements.specs.declared.elements.Unary.{Unary}
use Rattle.neon_elements.specs.declared.elements.Binary.{Binary}
use Rattle.neon_elements.specs.declared.elements.Compare.{Compare}
use Rattle.neon_elements.specs.declared.elements.Long.{Long}
use Rattle.neon_elements.specs.declared.elements.Narrowing.{Narrowing}
use Rattle.neon_elements.specs.declared.permutes.Permute.{Permute}
use Rattle.neon_elements.specs.declared.permutes.Permute.TheVariants.{Zip1, Zip2, Uzp1, Uzp2, Trn1, Trn2}
use Rattle.neon_elements.specs.declared.permutes.Reverse.{Reverse}
use Rattle.neon_elements.specs.Elements.{bytes_of}
use Rattle.neon_elements.specs.Vectors.{each1, each2, compared, selected, shifted, shifted_left, shifted_right, lengthened, lengthened_high, pair_sums, long_pair_sums, widened, widened_high, narrowed, shift_narrowed, extracted, looked_up, zipped, unzipped, transposed, permuted, reversed_lane, reversed, duplicated_lane, duplicated, created, combined, half}

pub width_is : (t : NeonLane) → IsWidth (bytes_of t)
width_is U8 = inl refl
width_is S8 = inl refl
width_is U16 = inr (inl refl)
width_is S16 = inr (inl refl)
width_is U32 = inr (inr (inl refl))
width_is S32 = inr (inr (inl refl))
width_is U64 = inr (inr (inr refl))
width_is S64 = inr (inr (inr refl))

pub double_width_is : (t : NeonLane) → bytes_of t ≤ 4 → IsWidth (2 * bytes_of t)
double_width_is U8 h = inr (inl refl)
double_width_is S8 h = inr (inl refl)
double_width_is U16 h = inr (inr (inl refl))
double_width_is S16 h = inr (inr (inl refl))
double_width_is U32 h = inr (inr (inr refl))
double_width_is S32 h = inr (inr (inr refl))
double_width_is U64 h = absurd (omega (arith, h))
double_width_is S64 h = absurd (omega (arith, h))

-- the bytes of a vector of 64 and of 128 bits
pub eight : IsSize 8
eight = inl refl

pub sixteen : IsSize 16
sixteen = inr (inl refl)

byte : IsWidth 1
byte = inl refl

qword : IsWidth 8
qword = inr (inr (inr refl))

pub each1_is : (op : Unary) (t : NeonLane) (a : List ℕ) → IsRegister 16 (each1 op t a)
unfolding each1
each1_is op t a = IsRegister-map1 (bytes_of t) 16 _ a (width_is t) sixteen

pub each2_is : (op : Binary) (t : NeonLane) (a b : List ℕ) → IsRegister 16 (each2 op t a b)
unfolding each2
each2_is op t a b = IsRegister-map2 (bytes_of t) 16 _ a b (width_is t) sixteen

pub compared_is : (op : Compare) (t : NeonLane) (a b : List ℕ) → IsRegister 16 (compared op t a b)
unfolding compared
compared_is op t a b = IsRegister-map2 (bytes_of t) 16 _ a b (width_is t) sixteen

pub selected_is : (t : NeonLane) (mask a b : List ℕ) → IsRegister 16 (selected t mask a b)
unfolding selected
selected_is t mask a b = IsRegister-build (bytes_of t) 16 _ (width_is t) sixteen

pub shifted_is : (t : NeonLane) (a c : List ℕ) → IsRegister 16 (shifted t a c)
unfolding shifted
shifted_is t a c = IsRegister-map2 (bytes_of t) 16 _ a c (width_is t) sixteen

pub shifted_left_is : (t : NeonLane) (n : ℕ) (a : List ℕ) → IsRegister 16 (shifted_left t n a)
unfolding shifted_left
shifted_left_is t n a = IsRegister-map1 (bytes_of t) 16 _ a (width_is t) sixteen

pub shifted_right_is : (t : NeonLane) (n : ℕ) (a : List ℕ) → IsRegister 16 (shifted_right t n a)
unfolding shifted_right
shifted_right_is t n a = IsRegister-map1 (bytes_of t) 16 _ a (width_is t) sixteen

pub lengthened_is : (op : Long) (t : NeonLane) (a b : List ℕ) → bytes_of t ≤ 4 → IsRegister 16 (lengthened op t a b)
unfolding lengthened
lengthened_is op t a b h = IsRegister-build (2 * bytes_of t) 16 _ (double_width_is t h) sixteen

pub lengthened_high_is : (op : Long) (t : NeonLane) (a b : List ℕ) → bytes_of t ≤ 4 → IsRegister 16 (lengthened_high op t a b)
unfolding lengthened_high
lengthened_high_is op t a b h = IsRegister-build (2 * bytes_of t) 16 _ (double_width_is t h) sixteen

pub pair_sums_is : (t : NeonLane) (a b : List ℕ) → IsRegister 16 (pair_sums t a b)
unfolding pair_sums
pair_sums_is t a b = IsRegister-pairwise (bytes_of t) 16 _ a b (width_is t) sixteen

pub long_pair_sums_is : (t : NeonLane) (a : List ℕ) → bytes_of t ≤ 4 → IsRegister 16 (long_pair_sums t a)
unfolding long_pair_sums
long_pair_sums_is t a h = IsRegister-build (2 * bytes_of t) 16 _ (double_width_is t h) sixteen

pub widened_is : (t : NeonLane) (a : List ℕ) → bytes_of t ≤ 4 → IsRegister 16 (widened t a)
unfolding widened
widened_is t a h = IsRegister-build (2 * bytes_of t) 16 _ (double_width_is t h) sixteen

pub widened_high_is : (t : NeonLane) (a : List ℕ) → bytes_of t ≤ 4 → IsRegister 16 (widened_high t a)
unfolding widened_high
widened_high_is t a h = IsRegister-build (2 * bytes_of t) 16 _ (double_width_is t h) sixteen

pub narrowed_is : (op : Narrowing) (to from : NeonLane) (a : List ℕ) → IsRegister 8 (narrowed op to from a)
unfolding narrowed
narrowed_is op to from a = IsRegister-build (bytes_of to) 8 _ (width_is to) eight

pub shift_narrowed_is : (rounding : Bool) (t : NeonLane) (n : ℕ) (a : List ℕ) → IsRegister 8 (shift_narrowed rounding t n a)
unfolding shift_narrowed
shift_narrowed_is rounding t n a = IsRegister-build (bytes_of t) 8 _ (width_is t) eight

pub extracted_is : (lo hi : List ℕ) (n : ℕ) → IsRegister 16 (extracted lo hi n)
unfolding extracted
extracted_is lo hi n = IsRegister-build 1 16 _ byte sixteen

pub looked_up_is : (size : ℕ) (table indices : List ℕ) → IsRegister 16 (looked_up size table indices)
unfolding looked_up
looked_up_is size table indices = IsRegister-build 1 16 _ byte sixteen

pub permuted_is : (op : Permute) (t : NeonLane) (a b : List ℕ) → IsRegister 16 (permuted op t a b)
unfolding zipped unzipped transposed
permuted_is Zip1 t a b = IsRegister-build (bytes_of t) 16 _ (width_is t) sixteen
permuted_is Zip2 t a b = IsRegister-build (bytes_of t) 16 _ (width_is t) sixteen
permuted_is Uzp1 t a b = IsRegister-build (bytes_of t) 16 _ (width_is t) sixteen
permuted_is Uzp2 t a b = IsRegister-build (bytes_of t) 16 _ (width_is t) sixteen
permuted_is Trn1 t a b = IsRegister-build (bytes_of t) 16 _ (width_is t) sixteen
permuted_is Trn2 t a b = IsRegister-build (bytes_of t) 16 _ (width_is t) sixteen

pub reversed_is : (op : Reverse) (a : List ℕ) → IsRegister 16 (reversed op a)
unfolding reversed
reversed_is op a = IsRegister-build (bytes_of (reversed_lane op)) 16 _ (width_is (reversed_lane op)) sixteen

pub duplicated_lane_is : (t : NeonLane) (n : ℕ) (a : List ℕ) → IsRegister 16 (duplicated_lane t n a)
unfolding duplicated_lane
duplicated_lane_is t n a = IsRegister-build (bytes_of t) 16 _ (width_is t) sixteen

pub duplicated_is : (t : NeonLane) (x : ℕ) → IsRegister 16 (duplicated t x)
unfolding duplicated
duplicated_is t x = IsRegister-build (bytes_of t) 16 _ (width_is t) sixteen

pub created_is : (x : ℕ) → IsRegister 8 (created x)
unfolding created
created_is x = IsRegister-build 8 8 _ qword eight

pub combined_is : (lo hi : List ℕ) → IsRegister 16 (combined lo hi)
unfolding combined
combined_is lo hi = IsRegister-build 8 16 _ qword sixteen

pub half_is : (part : ℕ) (a : List ℕ) → IsRegister 8 (half part a)
unfolding half
half_is part a = IsRegister-build 8 8 _ qword eight
