-- Where a form gives a selection, its sequence gives the selection's bytes, for all registers.
use Rattle.std.proofs.Common.{◌≡◌, ℕ, zero, suc, ◌+◌, ◌-◌, ◌*◌, ◌/◌, ◌%◌, ◌^◌, ◌<◌, ◌≤◌, List, [], ◌∷◌, ◌++◌, length, get_or, refl, ap, sym, subst, ◌∙◌, arith, rules, Bool, true, false, inl, inr, length-append, replicate, Option, Some, option_map}
use Rattle.std.specs.Prelude.{nat_lt, if◌then◌else◌, ◌&&◌}
use Rattle.std.specs.Option.{option_and_then}
use Rattle.std.proofs.lemmas.Bool.{cases_lt}
use Rattle.std.proofs.lemmas.Grind.{common_steps}
use Rattle.std.proofs.Math.Nat.{mod-eq_of_lt}
use Rattle.lane_core.specs.Register.{IsWidth, IsRegister, Bytes, lane, build}
use Rattle.lane_core.specs.declared.vector.NeonLane.{NeonLane}
use Rattle.lane_core.specs.declared.vector.NeonLane.TheVariants.{U8, U16, U32}
use Rattle.lane_core.proofs.Lists.{Bytes-append}
use Rattle.lane_core.proofs.Lanes.{width_pos, lanes_fill, build_same, build-lane, lane-build, lane_of_byte}
use Rattle.lane_core.proofs.Laws.{lanes_by_bytes, IsRegister-zeros}
use Rattle.c_memory.specs.declared.value.Value.{Value}
use Rattle.neon_elements.specs.Vectors.{looked_up}
use Rattle.neon_move.specs.declared.MoveOp.TheVariants as op
use Rattle.neon_move.specs.declared.to_unsigned.ToUnsigned.TheVariants as read
use Rattle.neon_move.specs.declared.bytes.Bytes.TheVariants as bytes
use Rattle.neon_table.specs.declared.NeonOp.{NeonOp}
use Rattle.neon_table.specs.Rows.{of_move}
use Rattle.price_choice.specs.declared.forms.FormKind.{FormKind}
use Rattle.price_choice.specs.declared.forms.FormKind.TheVariants.{Dup, Ext, Rev, Zip, Uzp, Trn, Tbl}
use Rattle.price_choice.specs.declared.forms.Pick.{Pick}
use Rattle.price_choice.specs.declared.forms.Pick.TheVariants as pick
use Rattle.price_choice.specs.declared.forms.Side.{Side}
use Rattle.price_choice.specs.declared.forms.Side.TheVariants as side
use Rattle.price_choice.specs.declared.forms.Form.{Form}
use Rattle.price_choice.specs.declared.forms.Form.TheVariants.{Same, One, Two, Table, TablePair}
use Rattle.price_choice.specs.Forms.{from_side, source_lane, source_byte, byte_of_two, same_pick, allowed, gives_from, gives_of, IsListed, IsForm, IsUnary, IsBinary}
use Rattle.seq_core.specs.Terms.{Term, Const, Call, PairOf, NoTerms, More}
use Rattle.seq_core.specs.Values.{value_of, called, paired}
use Rattle.shuffle_plans.specs.Operands.{byte_picked, selected, IsPlace}
use Rattle.shuffle_plans.specs.Sequences.{lanes_of, row_of, constant_of, into, back, side_term, index_in, index_in_pair, indices, one_call, two_call, form_term}
use Rattle.shuffle_plans.proofs.Moves.{left_byte, right_byte}
use Rattle.shuffle_plans.proofs.Calls.{by_width, by_two, by_group, moved, unary_row, binary_row}

-- ---- what `gives` says of each byte

first_of : (a b : Bool) → (a && b) ≡ true → a ≡ true
first_of true b h = refl
first_of false b h = h

second_of : (a b : Bool) → (a && b) ≡ true → b ≡ true
second_of true b h = h
second_of false b h = absurd (grind (arith, h))

allowed_from : (f : Form) (i : ℕ) (want : List Pick) → gives_from f i want ≡ true → (j : ℕ) → j < length want → allowed f (i + j) (get_or want j pick.Zero) ≡ true
allowed_from f i [] h j l = absurd (omega (arith, l))
allowed_from f i (p ∷ ps) h zero l = let e : i + 0 ≡ i = omega arith in rw e (first_of (allowed f i p) (gives_from f (i + 1) ps) h)
allowed_from f i (p ∷ ps) h (suc j) l =
    let e : i + 1 + j ≡ i + suc j = omega arith in
    rw (sym e) (allowed_from f (i + 1) ps (second_of (allowed f i p) (gives_from f (i + 1) ps) h) j (omega (arith, l)))

allowed_at : (f : Form) (want : List Pick) → gives_of f want ≡ true → (j : ℕ) → j < length want → allowed f j (get_or want j pick.Zero) ≡ true
allowed_at f want h j l = let e : 0 + j ≡ j = omega arith in subst (λ i. allowed f i (get_or want j pick.Zero) ≡ true) e (allowed_from f 0 want h j l)

same_is : (p q : Pick) → same_pick p q ≡ true → p ≡ q
same_is (pick.A m) (pick.A n) h = let e : m ≡ n = search (rules, h) in ap pick.A e
same_is (pick.B m) (pick.B n) h = let e : m ≡ n = search (rules, h) in ap pick.B e
same_is pick.Zero pick.Zero h = refl
same_is _ _ h = absurd (grind (arith, h))

-- ---- operands

abbrev pub operand : Side → List ℕ → List ℕ → List ℕ
operand side.A a b = a
operand side.B a b = b
operand side.Zero a b = replicate 16 0

zero_at : (p : ℕ) → ◌≡◌ {A = ℕ} (get_or (replicate 16 0) p 0) 0
zero_at p = grind (arith, common_steps)

side_byte : (x : Side) (a b : List ℕ) (p : ℕ) → byte_picked a b (from_side x p) ≡ get_or (operand x a b) p 0
side_byte side.A a b p = refl
side_byte side.B a b p = refl
side_byte side.Zero a b p = sym (zero_at p)

pub operand_register : (x : Side) (a b : List ℕ) → IsRegister 16 a → IsRegister 16 b → IsRegister 16 (operand x a b)
operand_register side.A a b h i = h
operand_register side.B a b h i = i
operand_register side.Zero a b h i = IsRegister-zeros

pair_byte : (x y : Side) (a b : List ℕ) → IsRegister 16 a → IsRegister 16 b → (p : ℕ) → byte_picked a b (byte_of_two x y p) ≡ get_or (operand x a b ++ operand y a b) p 0
pair_byte x y a b h i p =
    let size = (operand_register x a b h i).size in
    elim (cases_lt p 16) [
      | inl l ↦ let t : nat_lt p 16 ≡ true = search (rules, l) in rw t (side_byte x a b p ∙ sym (left_byte (operand x a b) (operand y a b) p 16 size l))
      | inr l ↦ let t : nat_lt p 16 ≡ false = search (rules, l) in rw t (side_byte y a b (p - 16) ∙ sym (right_byte (operand x a b) (operand y a b) p 16 size l))
    ]

-- ---- moves of lanes

pub listed_width : (kind : FormKind) (w n : ℕ) → IsListed kind w n → IsWidth w
listed_width Dup w n h = h.0
listed_width Ext w n h = inl h.0
listed_width Rev w n h = elim h.0 [ inl e ↦ inl e | inr h2 ↦ elim h2 [ inl e ↦ inr (inl e) | inr e ↦ inr (inr (inl e)) ] ]
listed_width Tbl w n h = inl h
listed_width _ w n h = h.0

-- once over all widths: a move of lanes is a move of bytes
moved_bytes : (w : ℕ) (s : ℕ → ℕ) (r : List ℕ) → IsWidth w → Bytes r → ((k : ℕ) → k < 16 / w → s k * w + w ≤ length r) → moved w s r ≡ build 1 16 (λ i. get_or r (s (i / w) * w + i % w) 0)
moved_bytes w s r h bytes inside =
    lanes_by_bytes w (16 / w) r s (width_pos w h) bytes inside ∙ ap (λ n. build 1 n (λ i. get_or r (s (i / w) * w + i % w) 0)) (lanes_fill w 16 h (inr (inl refl)))

-- bytes that agree with those of the selection
agree : (want : List Pick) (a b : List ℕ) (g : ℕ → ℕ) → ((i : ℕ) → i < 16 → byte_picked a b (get_or want i pick.Zero) ≡ g i) → build 1 16 g ≡ selected want a b
unfolding selected
agree want a b g h = build_same 1 16 g (λ i. byte_picked a b (get_or want i pick.Zero)) (λ i l. ap (λ x. x % 256 ^ 1) (sym (h i l)))

-- a lane of one operand, and of two
abbrev One16 : FormKind → ℕ → ℕ → Type 0
One16 kind n w = (k : ℕ) → k < 16 / w → source_lane kind w n k * w + w ≤ 16

abbrev Two32 : FormKind → ℕ → ℕ → Type 0
Two32 kind n w = (k : ℕ) → k < 16 / w → source_lane kind w n k * w + w ≤ 32

unary_inside : (kind : FormKind) (w n : ℕ) → IsUnary kind → IsListed kind w n → One16 kind n w
unary_inside Dup w n u h = by_width (λ v. n < 16 / v → One16 Dup n v) w h.0 (λ l k i. omega (arith, l)) (λ l k i. omega (arith, l)) (λ l k i. omega (arith, l)) (λ l k i. omega (arith, l)) h.1
unary_inside Rev w n u h = by_group (λ v m. One16 Rev m v) w n h (λ k i. omega (arith, i)) (λ k i. omega (arith, i)) (λ k i. omega (arith, i)) (λ k i. omega (arith, i)) (λ k i. omega (arith, i)) (λ k i. omega (arith, i))
unary_inside _ w n u h = absurd u

binary_inside : (kind : FormKind) (w n : ℕ) → IsBinary kind → IsListed kind w n → Two32 kind n w
binary_inside Ext w n u h = λ k i. let e : w ≡ 1 = h.0 in rw e (omega (arith, h.2, rw e at i))
binary_inside Zip w n u h =
    by_two (λ m. Two32 Zip m w) n h.1
    (by_width (λ v. Two32 Zip 1 v) w h.0 (λ k i. omega (arith, i)) (λ k i. omega (arith, i)) (λ k i. omega (arith, i)) (λ k i. omega (arith, i)))
    (by_width (λ v. Two32 Zip 2 v) w h.0 (λ k i. omega (arith, i)) (λ k i. omega (arith, i)) (λ k i. omega (arith, i)) (λ k i. omega (arith, i)))
binary_inside Uzp w n u h =
    by_two (λ m. Two32 Uzp m w) n h.1
    (by_width (λ v. Two32 Uzp 1 v) w h.0 (λ k i. omega (arith, i)) (λ k i. omega (arith, i)) (λ k i. omega (arith, i)) (λ k i. omega (arith, i)))
    (by_width (λ v. Two32 Uzp 2 v) w h.0 (λ k i. omega (arith, i)) (λ k i. omega (arith, i)) (λ k i. omega (arith, i)) (λ k i. omega (arith, i)))
binary_inside Trn w n u h =
    by_two (λ m. Two32 Trn m w) n h.1
    (by_width (λ v. Two32 Trn 1 v) w h.0 (λ k i. omega (arith, i)) (λ k i. omega (arith, i)) (λ k i. omega (arith, i)) (λ k i. omega (arith, i)))
    (by_width (λ v. Two32 Trn 2 v) w h.0 (λ k i. omega (arith, i)) (λ k i. omega (arith, i)) (λ k i. omega (arith, i)) (λ k i. omega (arith, i)))
binary_inside _ w n u h = absurd u

one_selected : (kind : FormKind) (w n : ℕ) (x : Side) (want : List Pick) (a b : List ℕ) → IsUnary kind → IsListed kind w n → gives_of (One kind w n x) want ≡ true → length want ≡ 16 → IsRegister 16 a → IsRegister 16 b
    → moved w (source_lane kind w n) (operand x a b) ≡ selected want a b
one_selected kind w n x want a b u g h len ra rb =
    let r = operand_register x a b ra rb in
    moved_bytes w (source_lane kind w n) (operand x a b) (listed_width kind w n g) r.bytes (λ k l. let m = unary_inside kind w n u g k l in omega (arith, m, r.size))
    ∙ agree want a b (λ i. get_or (operand x a b) (source_byte kind w n i) 0)
    (λ i l. ap (byte_picked a b) (same_is _ _ (allowed_at (One kind w n x) want h i (omega (arith, len, l)))) ∙ side_byte x a b (source_byte kind w n i))

two_selected : (kind : FormKind) (w n : ℕ) (x y : Side) (want : List Pick) (a b : List ℕ) → IsBinary kind → IsListed kind w n → gives_of (Two kind w n x y) want ≡ true → length want ≡ 16 → IsRegister 16 a → IsRegister 16 b
    → moved w (source_lane kind w n) (operand x a b ++ operand y a b) ≡ selected want a b
two_selected kind w n x y want a b u g h len ra rb =
    let r = operand_register x a b ra rb in
    let q = operand_register y a b ra rb in
    moved_bytes w (source_lane kind w n) (operand x a b ++ operand y a b) (listed_width kind w n g) (Bytes-append (operand x a b) (operand y a b) r.bytes q.bytes)
    (λ k l. let m = binary_inside kind w n u g k l in omega (arith, m, r.size, q.size, length-append (operand x a b) (operand y a b)))
    ∙ agree want a b (λ i. get_or (operand x a b ++ operand y a b) (source_byte kind w n i) 0)
    (λ i l. ap (byte_picked a b) (same_is _ _ (allowed_at (Two kind w n x y) want h i (omega (arith, len, l)))) ∙ pair_byte x y a b ra rb (source_byte kind w n i))

-- ---- tables

found : (r : List ℕ) (n j : ℕ) → j < n → (if nat_lt j n then get_or r j 0 else 0) ≡ get_or r j 0
found r n j l = let t : nat_lt j n ≡ true = search (rules, l) in rw t refl

table_byte : (x : Side) (a b : List ℕ) (i : ℕ) (p : Pick) → IsPlace p → allowed (Table x) i p ≡ true → byte_picked a b p ≡ (if nat_lt (index_in p) 16 then get_or (operand x a b) (index_in p) 0 else 0)
table_byte side.A a b i (pick.A k) l h = sym (found a 16 k l)
table_byte side.B a b i (pick.B k) l h = sym (found b 16 k l)
table_byte side.A a b i pick.Zero l h = refl
table_byte side.B a b i pick.Zero l h = refl
table_byte _ a b i _ l h = absurd (grind (arith, h))

pair_table_byte : (a b : List ℕ) → IsRegister 16 a → IsRegister 16 b → (p : Pick) → IsPlace p → byte_picked a b p ≡ (if nat_lt (index_in_pair p) 32 then get_or (a ++ b) (index_in_pair p) 0 else 0)
pair_table_byte a b h i (pick.A k) l = sym (left_byte a b k 16 h.size l) ∙ sym (found (a ++ b) 32 k (omega (arith, l)))
pair_table_byte a b h i (pick.B k) l =
    let e : 16 + k - 16 ≡ k = omega arith in
    sym (right_byte a b (16 + k) 16 h.size (omega arith) ∙ ap (λ p. get_or b p 0) e) ∙ sym (found (a ++ b) 32 (16 + k) (omega (arith, l)))
pair_table_byte a b h i pick.Zero l = refl

index_small : (p : Pick) → IsPlace p → index_in p < 256
index_small (pick.A k) l = omega (arith, l)
index_small (pick.B k) l = omega (arith, l)
index_small pick.Zero l = omega arith

pair_index_small : (p : Pick) → IsPlace p → index_in_pair p < 256
pair_index_small (pick.A k) l = omega (arith, l)
pair_index_small (pick.B k) l = omega (arith, l)
pair_index_small pick.Zero l = omega arith

-- a byte of the vector of indices
index_there : (index : Pick → ℕ) (want : List Pick) (i : ℕ) → i < 16 → index (get_or want i pick.Zero) < 256 → lane 1 (indices index want) i ≡ index (get_or want i pick.Zero)
unfolding indices
index_there index want i l small = lane-build 1 16 (λ i. index (get_or want i pick.Zero)) i l ∙ mod-eq_of_lt small

-- what is looked up by the indices of a selection
looked_selected : (size : ℕ) (index : Pick → ℕ) (table : List ℕ) (want : List Pick) (a b : List ℕ) → ((i : ℕ) → i < 16 → index (get_or want i pick.Zero) < 256)
    → ((i : ℕ) → i < 16 → byte_picked a b (get_or want i pick.Zero) ≡ (if nat_lt (index (get_or want i pick.Zero)) size then get_or table (index (get_or want i pick.Zero)) 0 else 0))
    → looked_up size table (indices index want) ≡ selected want a b
unfolding looked_up
looked_selected size index table want a b small there =
    agree want a b (λ e. if nat_lt (lane 1 (indices index want) e) size then lane 1 table (lane 1 (indices index want) e) else 0)
    (λ i l.
    there i l
    ∙ ap (λ g. if nat_lt (index (get_or want i pick.Zero)) size then g else 0) (sym (lane_of_byte table (index (get_or want i pick.Zero))))
    ∙ ap (λ m. if nat_lt m size then lane 1 table m else 0) (sym (index_there index want i l (small i l))))

-- ---- values of terms

abbrev pub Gives : List Value → List (Option Value) → Term → List ℕ → Type 0
Gives ps ss t r = value_of ps ss t ≡ Some (Value.R16 r)

called_one : (row : NeonOp) (imm : ℕ) (ps : List Value) (ss : List (Option Value)) (x : Term) (r : List ℕ) → Gives ps ss x r → value_of ps ss (Call row (More x NoTerms) imm) ≡ called row imm (Value.R16 r ∷ [])
called_one row imm ps ss x r h = ap (λ o. option_and_then (called row imm) (option_and_then (λ v. option_map (λ vs. v ∷ vs) (Some [])) o)) h

called_two : (row : NeonOp) (imm : ℕ) (ps : List Value) (ss : List (Option Value)) (x y : Term) (v w : Value) → value_of ps ss x ≡ Some v → value_of ps ss y ≡ Some w
    → value_of ps ss (Call row (More x (More y NoTerms)) imm) ≡ called row imm (v ∷ w ∷ [])
called_two row imm ps ss x y v w h i =
    ap (λ o. option_and_then (called row imm) (option_and_then (λ v. option_map (λ vs. v ∷ vs) (option_and_then (λ v. option_map (λ vs. v ∷ vs) (Some [])) (value_of ps ss y))) o)) h
    ∙ ap (λ o. option_and_then (called row imm) (option_map (λ vs. v ∷ vs) (option_and_then (λ v. option_map (λ vs. v ∷ vs) (Some [])) o))) i

into_gives : (t : NeonLane) (ps : List Value) (ss : List (Option Value)) (x : Term) (r : List ℕ) → Gives ps ss x r → Gives ps ss (into t x) r
into_gives U8 ps ss x r h = h
into_gives U16 ps ss x r h = called_one (of_move (op.ToUnsigned read.VreinterpretqU16U8)) 0 ps ss x r h
into_gives U32 ps ss x r h = called_one (of_move (op.ToUnsigned read.VreinterpretqU32U8)) 0 ps ss x r h
into_gives _ ps ss x r h = called_one (of_move (op.ToUnsigned read.VreinterpretqU64U8)) 0 ps ss x r h

back_gives : (t : NeonLane) (ps : List Value) (ss : List (Option Value)) (x : Term) (r : List ℕ) → Gives ps ss x r → Gives ps ss (back t x) r
back_gives U8 ps ss x r h = h
back_gives U16 ps ss x r h = called_one (of_move (op.ToUnsigned read.VreinterpretqU8U16)) 0 ps ss x r h
back_gives U32 ps ss x r h = called_one (of_move (op.ToUnsigned read.VreinterpretqU8U32)) 0 ps ss x r h
back_gives _ ps ss x r h = called_one (of_move (op.ToUnsigned read.VreinterpretqU8U64)) 0 ps ss x r h

side_gives : (x : Side) (ps : List Value) (ss : List (Option Value)) (s t : Term) (a b : List ℕ) → Gives ps ss s a → Gives ps ss t b → Gives ps ss (side_term x s t) (operand x a b)
side_gives side.A ps ss s t a b h i = h
side_gives side.B ps ss s t a b h i = i
side_gives side.Zero ps ss s t a b h i = refl

one_gives : (kind : FormKind) (w n : ℕ) (ps : List Value) (ss : List (Option Value)) (x : Term) (r : List ℕ) → IsUnary kind → IsListed kind w n → Gives ps ss x r
    → Gives ps ss (one_call kind (lanes_of w) n x) (moved w (source_lane kind w n) r)
one_gives kind w n ps ss x r u g h =
    let t = lanes_of w in
    back_gives t ps ss (Call (of_move (row_of kind t n)) (More (into t x) NoTerms) (constant_of kind n)) (moved w (source_lane kind w n) r)
    (called_one (of_move (row_of kind t n)) (constant_of kind n) ps ss (into t x) r (into_gives t ps ss x r h) ∙ unary_row kind w n r u g)

two_gives : (kind : FormKind) (w n : ℕ) (ps : List Value) (ss : List (Option Value)) (x y : Term) (r s : List ℕ) → IsBinary kind → IsListed kind w n → IsRegister 16 r → Gives ps ss x r → Gives ps ss y s
    → Gives ps ss (two_call kind (lanes_of w) n x y) (moved w (source_lane kind w n) (r ++ s))
two_gives kind w n ps ss x y r s u g reg h i =
    let t = lanes_of w in
    back_gives t ps ss (Call (of_move (row_of kind t n)) (More (into t x) (More (into t y) NoTerms)) (constant_of kind n)) (moved w (source_lane kind w n) (r ++ s))
    (called_two (of_move (row_of kind t n)) (constant_of kind n) ps ss (into t x) (into t y) (Value.R16 r) (Value.R16 s) (into_gives t ps ss x r h) (into_gives t ps ss y s i)
    ∙ binary_row kind w n r s u g reg)

pair_gives : (ps : List Value) (ss : List (Option Value)) (x y : Term) (a b : List ℕ) → Gives ps ss x a → Gives ps ss y b → value_of ps ss (PairOf x y) ≡ Some (Value.R32 (a ++ b))
pair_gives ps ss x y a b h i = ap (λ o. option_and_then (λ v. option_and_then (paired v) (value_of ps ss y)) o) h ∙ ap (λ o. option_and_then (paired (Value.R16 a)) o) i

-- ---- the law, by cases on the five shapes of a form

pub form_gives : (f : Form) (want : List Pick) (ps : List Value) (ss : List (Option Value)) (s t : Term) (a b : List ℕ) → IsForm f → gives_of f want ≡ true → length want ≡ 16
    → ((i : ℕ) → i < 16 → IsPlace (get_or want i pick.Zero)) → IsRegister 16 a → IsRegister 16 b → Gives ps ss s a → Gives ps ss t b → Gives ps ss (form_term f want s t) (selected want a b)
form_gives (Same x) want ps ss s t a b g h len small ra rb ga gb =
    let r = operand_register x a b ra rb in
    side_gives x ps ss s t a b ga gb
    ∙ ap (λ q. Some (Value.R16 q))
    (sym (build-lane 1 16 (operand x a b) r.bytes r.size)
    ∙ agree want a b (lane 1 (operand x a b)) (λ i l. ap (byte_picked a b) (same_is _ _ (allowed_at (Same x) want h i (omega (arith, len, l)))) ∙ side_byte x a b i ∙ sym (lane_of_byte (operand x a b) i)))
form_gives (One kind w n x) want ps ss s t a b g h len small ra rb ga gb =
    one_gives kind w n ps ss (side_term x s t) (operand x a b) g.0 g.1 (side_gives x ps ss s t a b ga gb)
    ∙ ap (λ q. Some (Value.R16 q)) (one_selected kind w n x want a b g.0 g.1 h len ra rb)
form_gives (Two kind w n x y) want ps ss s t a b g h len small ra rb ga gb =
    two_gives kind w n ps ss (side_term x s t) (side_term y s t) (operand x a b) (operand y a b) g.0 g.1 (operand_register x a b ra rb) (side_gives x ps ss s t a b ga gb) (side_gives y ps ss s t a b ga gb)
    ∙ ap (λ q. Some (Value.R16 q)) (two_selected kind w n x y want a b g.0 g.1 h len ra rb)
form_gives (Table x) want ps ss s t a b g h len small ra rb ga gb =
    called_two (of_move (op.Bytes bytes.Vqtbl1qU8)) 0 ps ss (side_term x s t) (Const (indices index_in want)) (Value.R16 (operand x a b)) (Value.R16 (indices index_in want)) (side_gives x ps ss s t a b ga gb) refl
    ∙ ap (λ q. Some (Value.R16 q))
    (looked_selected 16 index_in (operand x a b) want a b (λ i l. index_small (get_or want i pick.Zero) (small i l))
    (λ i l. table_byte x a b i (get_or want i pick.Zero) (small i l) (allowed_at (Table x) want h i (omega (arith, len, l)))))
form_gives TablePair want ps ss s t a b g h len small ra rb ga gb =
    called_two (of_move (op.Bytes bytes.Vqtbl2qU8)) 0 ps ss (PairOf s t) (Const (indices index_in_pair want)) (Value.R32 (a ++ b)) (Value.R16 (indices index_in_pair want)) (pair_gives ps ss s t a b ga gb) refl
    ∙ ap (λ q. Some (Value.R16 q))
    (looked_selected 32 index_in_pair (a ++ b) want a b (λ i l. pair_index_small (get_or want i pick.Zero) (small i l))
    (λ i l. pair_table_byte a b ra rb (get_or want i pick.Zero) (small i l)))
