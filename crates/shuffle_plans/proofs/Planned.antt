-- What holds of the sequences of shuffle rows.
use Rattle.std.proofs.Common.{◌≡◌, ℕ, zero, suc, ◌/◌, ◌<◌, ◌≤◌, List, [], ◌∷◌, ◌++◌, length, get_or, refl, ap, sym, subst, ◌∙◌, arith, Bool, true, false, inl, inr, Some, option_map}
use Rattle.std.specs.Prelude.{if◌then◌else◌, ◌&&◌, ◌||◌, not, IfOk, Result, Ok, Err}
use Rattle.lane_core.specs.Register.{IsWidth, IsRegister}
use Rattle.lane_core.specs.declared.vector.NeonLane.TheVariants.{U8, U16, U32, U64}
use Rattle.lane_core.specs.declared.table.Arg.{Arg}
use Rattle.lane_core.specs.declared.table.Arg.TheVariants as arg
use Rattle.lane_core.specs.Table.{Fits, FitsKind, params_of, InImmRange}
use Rattle.lane_core.proofs.Laws.{IsRegister-build, IsRegister-low, IsRegister-high, IsRegister-zeros}
use Rattle.c_tree.specs.declared.types.CType.{CType}
use Rattle.c_memory.specs.declared.value.Value.{Value}
use Rattle.intel_lanes.specs.declared.blocks.TwoImm.TheVariants as two_imm
use Rattle.intel_forms.specs.declared.sizes.Size.{Size}
use Rattle.intel_forms.specs.declared.sizes.Size.TheVariants.{Xmm, Ymm}
use Rattle.intel_forms.specs.declared.across.Across.TheVariants.{PermuteQwords}
use Rattle.intel_forms.specs.declared.forms.Form.{Form as Row}
use Rattle.intel_forms.specs.declared.forms.Form.TheVariants as row
use Rattle.intel_forms.specs.Sizes.{register}
use Rattle.intel_forms.specs.Forms.{signature_of as row_signature}
use Rattle.neon_move.specs.declared.MoveOp.TheVariants as op
use Rattle.neon_move.specs.declared.to_unsigned.ToUnsigned.TheVariants as read
use Rattle.neon_move.specs.declared.bytes.Bytes.TheVariants as bytes
use Rattle.neon_table.specs.declared.NeonOp.{NeonOp}
use Rattle.neon_table.specs.Rows.{of_move, form_of, signature_of, range_of}
use Rattle.price_choice.specs.declared.forms.FormKind.{FormKind}
use Rattle.price_choice.specs.declared.forms.FormKind.TheVariants.{Dup, Ext, Rev, Zip, Uzp, Trn}
use Rattle.price_choice.specs.declared.forms.Pick.{Pick}
use Rattle.price_choice.specs.declared.forms.Pick.TheVariants as pick
use Rattle.price_choice.specs.declared.forms.Side.{Side}
use Rattle.price_choice.specs.declared.forms.Side.TheVariants as side
use Rattle.price_choice.specs.declared.forms.Form.{Form}
use Rattle.price_choice.specs.declared.forms.Form.TheVariants.{Same, One, Two, Table, TablePair}
use Rattle.price_choice.specs.Forms.{gives_of, IsForm, IsListed, IsUnary, IsBinary}
use Rattle.price_choice.specs.List.{forms}
use Rattle.price_choice.specs.Choice.{IsFirstLeast, price_by}
use Rattle.price_choice.proofs.Lists.{how_many, form_there, listed_form}
use Rattle.seq_core.specs.declared.terms.Seq.{Seq}
use Rattle.seq_core.specs.View.{view_seq}
use Rattle.seq_core.specs.Rows.{is_reinterpreting, is_broadcasting, is_by_element}
use Rattle.seq_core.specs.Terms.{Term, Terms, Param, Const, Call, PairOf, NoTerms, More, Sequence}
use Rattle.seq_core.specs.Values.{evaluated, as_arg}
use Rattle.seq_core.specs.Formed.{vector, type_of, type_of_kind, operand_types, IsCarrier, IsFormed, WellFormed, sequence_type}
use Rattle.seq_core.specs.Called.{is_plain, are_constants, is_counted, rows_in, rows_called, plain}
use Rattle.shuffle_plans.specs.Operands.{selected, IsPlace, picks, block_of, first_operand, second_operand}
use Rattle.shuffle_plans.specs.Selections.{is_shuffle, picked_at}
use Rattle.shuffle_plans.specs.Laws.{PicksArePlaces}
use Rattle.shuffle_plans.specs.Sequences.{lanes_of, row_of, constant_of, into, back, side_term, index_in, index_in_pair, indices, form_term, sequence_of, calls_of}
use Rattle.shuffle_plans.specs.Plans.{has_two, plan_by, IsChoice, IsPlannedBy, IsPlan, GivesTheBlock, GivesTheRow, FormsGive}
use Rattle.shuffle_plans.proofs.Moves.{pick_there}
use Rattle.shuffle_plans.proofs.Rows.{selections_are_rows}
use Rattle.shuffle_plans.proofs.Calls.{by_width, by_two, by_group}
use Rattle.shuffle_plans.proofs.Selected.{form_gives, listed_width}

-- ---- values

one_value : (f : Form) (want : List Pick) (a : List ℕ) → IsForm f → gives_of f want ≡ true → length want ≡ 16 → ((i : ℕ) → i < 16 → IsPlace (get_or want i pick.Zero)) → IsRegister 16 a
    → evaluated (sequence_of false f want) (arg.R16 a ∷ []) ≡ Some (arg.R16 (selected want a a))
one_value f want a g h len small r = ap (λ o. option_map as_arg (option_map Some o)) (form_gives f want (Value.R16 a ∷ []) [] (Param 0) (Param 0) a a g h len small r r refl refl)

pub two_value : FormsGive
two_value f want a b g h len small r q = ap (λ o. option_map as_arg (option_map Some o)) (form_gives f want (Value.R16 a ∷ Value.R16 b ∷ []) [] (Param 0) (Param 1) a b g h len small r q refl refl)

either_value : (two : Bool) (f : Form) (want : List Pick) (a b : List ℕ) → (two ≡ false → b ≡ a) → IsForm f → gives_of f want ≡ true → length want ≡ 16 → ((i : ℕ) → i < 16 → IsPlace (get_or want i pick.Zero)) → IsRegister 16 a → IsRegister 16 b
    → evaluated (sequence_of two f want) (arg.R16 a ∷ (if two then arg.R16 b ∷ [] else [])) ≡ Some (arg.R16 (selected want a b))
either_value true f want a b same g h len small r q = two_value f want a b g h len small r q
either_value false f want a b same g h len small r q = one_value f want a g h len small r ∙ ap (λ c. Some (arg.R16 (selected want a c))) (sym (same refl))

-- a row with one operand has it as the second too
same_operand : (r : Row) (half : ℕ) (args : List Arg) → is_shuffle r ≡ true → has_two r ≡ false → second_operand r half args ≡ first_operand r half args
same_operand (row.One size o) half [] s h = refl
same_operand (row.One size o) half (x ∷ rest) s h = refl
same_operand (row.OneImm size o) half [] s h = refl
same_operand (row.OneImm size o) half (x ∷ rest) s h = refl
same_operand (row.Broadcast size width) half [] s h = refl
same_operand (row.Broadcast size width) half (x ∷ rest) s h = refl
same_operand (row.Two size o) half args s h = absurd (grind (arith, h))
same_operand (row.TwoImm size o) half args s h = absurd (grind (arith, h))
same_operand (row.Across PermuteQwords) half args s h = absurd (grind (arith, h))
same_operand _ half args s h = absurd (grind (arith, s))

-- operands are registers
block_register : (size : Size) (x : Arg) (half : ℕ) → half ≤ 1 → FitsKind (register size) x → IsRegister 16 (block_of half x)
block_register Xmm (arg.R16 r) half l h = h.1
block_register Ymm (arg.R32 r) zero l h = IsRegister-low r h.1
block_register Ymm (arg.R32 r) (suc zero) l h = IsRegister-high r h.1
block_register Ymm (arg.R32 r) (suc (suc n)) l h = absurd (omega (arith, l))
block_register _ _ half l h = absurd (grind (arith, h))

abbrev AreRegisters : Row → ℕ → List Arg → Type 0
AreRegisters r half args = IsRegister 16 (first_operand r half args) × IsRegister 16 (second_operand r half args)

registers : (r : Row) (half : ℕ) (args : List Arg) → is_shuffle r ≡ true → half ≤ 1 → Fits (row_signature r) args → AreRegisters r half args
registers (row.One size o) half (x ∷ []) s l h = let b = block_register size x half l h.0 in (b, b)
registers (row.OneImm size o) half (x ∷ y ∷ []) s l h = let b = block_register size x half l h.0 in (b, b)
registers (row.Broadcast size width) half (arg.R16 r ∷ []) s l h = (h.0.1, h.0.1)
registers (row.Two size o) half (x ∷ y ∷ []) s l h = (block_register size x half l h.0, block_register size y half l h.1.0)
registers (row.TwoImm size o) half (x ∷ y ∷ z ∷ []) s l h = (block_register size x half l h.0, block_register size y half l h.1.0)
registers (row.Across PermuteQwords) half (arg.R32 r ∷ y ∷ []) s l h = (IsRegister-low r h.0.1, IsRegister-high r h.0.1)
registers _ half _ s l h = absurd (grind (arith, s, h))

places_there : PicksArePlaces → (r : Row) (imm half : ℕ) → half ≤ 1 → (i : ℕ) → i < 16 → IsPlace (get_or (picks (picked_at r imm half)) i pick.Zero)
places_there law r imm half l i k = subst IsPlace (sym (pick_there (picked_at r imm half) i k)) (law r imm half i l k)

pub block_value : PicksArePlaces → (r : Row) (imm half : ℕ) (f : Form) → is_shuffle r ≡ true → half ≤ 1 → IsForm f → gives_of f (picks (picked_at r imm half)) ≡ true → GivesTheBlock r imm half (plan_by f r imm half)
block_value law r imm half f s l g h args fit =
    let q = registers r half args s l fit in
    either_value (has_two r) f (picks (picked_at r imm half)) (first_operand r half args) (second_operand r half args) (same_operand r half args s) g h refl (places_there law r imm half l) q.0 q.1
    ∙ ap (λ x. Some (arg.R16 x)) (sym (selections_are_rows r args imm half s fit l))

-- a row of 128 bits has its vectors as operands, and its value is the block
pub whole_value : (r : Row) (imm half : ℕ) (q : Sequence) → is_shuffle r ≡ true → GivesTheBlock r imm half q → GivesTheRow r imm q
whole_value (row.One Xmm o) imm half q s g (arg.R16 a ∷ []) w fit = g (arg.R16 a ∷ []) fit
whole_value (row.OneImm Xmm o) imm half q s g (arg.R16 a ∷ arg.Nothing ∷ []) w fit = g (arg.R16 a ∷ arg.Nothing ∷ []) fit
whole_value (row.Broadcast Xmm width) imm half q s g (arg.R16 a ∷ []) w fit = g (arg.R16 a ∷ []) fit
whole_value (row.Two Xmm o) imm half q s g (arg.R16 a ∷ arg.R16 b ∷ []) w fit = g (arg.R16 a ∷ arg.R16 b ∷ []) fit
whole_value (row.TwoImm Xmm two_imm.AlignRight) imm half q s g (arg.R16 a ∷ arg.R16 b ∷ arg.Nothing ∷ []) w fit = g (arg.R16 a ∷ arg.R16 b ∷ arg.Nothing ∷ []) fit
whole_value _ imm half q s g _ w fit = absurd (grind (arith, s, w, fit))

-- ---- types and calls

-- a term of that type, well formed and plain, with these calls
abbrev Fine : List CType → CType → List NeonOp → Term → Type 0
Fine ps t rows x = (type_of ps [] x ≡ t) × IsFormed ps [] x × (is_plain x ≡ true) × (rows_in x ≡ rows)

plain_call : (b e p c : Bool) → b ≡ false → e ≡ false → p ≡ true → ((b && c) || (not e && (not b && p))) ≡ true
plain_call b e p c h i j = rw (h, i, j) refl

counted : (b r c : Bool) (row : NeonOp) → b ≡ false → (if not r && not (b && c) then row ∷ [] else []) ≡ (if r then [] else row ∷ [])
counted b true c row h = refl
counted b false c row h = rw h refl

abbrev counted_row : NeonOp → List NeonOp
counted_row row = if is_reinterpreting (form_of row) then [] else row ∷ []

fine_one : (row : NeonOp) (imm : ℕ) (ps : List CType) (t : CType) (rs : List NeonOp) (x : Term) → Fine ps t rs x → t ∷ [] ≡ operand_types (params_of (signature_of row)) → InImmRange (range_of row) imm
    → is_broadcasting (form_of row) ≡ false → is_by_element (form_of row) ≡ false → Fine ps (type_of_kind (signature_of row).result) ((rs ++ []) ++ counted_row row) (Call row (More x NoTerms) imm)
fine_one row imm ps t rs x h types range b e = (
  refl,
  (ap (λ u. u ∷ []) h.0 ∙ types, range, (h.1, tt)),
  plain_call (is_broadcasting (form_of row)) (is_by_element (form_of row)) (is_plain x && true) (are_constants (More x NoTerms)) b e (ap (λ p. p && true) h.2),
  ap (λ xs. (xs ++ []) ++ counted_of (More x NoTerms)) h.3 ∙ ap (λ ys. (rs ++ []) ++ ys) (counted (is_broadcasting (form_of row)) (is_reinterpreting (form_of row)) (are_constants (More x NoTerms)) row b),
)
  where
    counted_of : Terms → List NeonOp
    counted_of all = if is_counted row all then row ∷ [] else []

fine_two : (row : NeonOp) (imm : ℕ) (ps : List CType) (t u : CType) (x y : Term) → Fine ps t [] x → Fine ps u [] y → t ∷ u ∷ [] ≡ operand_types (params_of (signature_of row)) → InImmRange (range_of row) imm
    → is_broadcasting (form_of row) ≡ false → is_by_element (form_of row) ≡ false → Fine ps (type_of_kind (signature_of row).result) (counted_row row) (Call row (More x (More y NoTerms)) imm)
fine_two row imm ps t u x y h i types range b e = (
  refl,
  (ap (λ v. v ∷ type_of ps [] y ∷ []) h.0 ∙ ap (λ v. t ∷ v ∷ []) i.0 ∙ types, range, (h.1, (i.1, tt))),
  plain_call (is_broadcasting (form_of row)) (is_by_element (form_of row)) (is_plain x && (is_plain y && true)) (are_constants (More x (More y NoTerms))) b e (ap (λ p. p && (is_plain y && true)) h.2 ∙ ap (λ p. p && true) i.2),
  ap (λ xs. (xs ++ (rows_in y ++ [])) ++ counted_of (More x (More y NoTerms))) h.3 ∙ ap (λ xs. (xs ++ []) ++ counted_of (More x (More y NoTerms))) i.3
      ∙ counted (is_broadcasting (form_of row)) (is_reinterpreting (form_of row)) (are_constants (More x (More y NoTerms))) row b,
)
  where
    counted_of : Terms → List NeonOp
    counted_of all = if is_counted row all then row ∷ [] else []

abbrev lanes : ℕ → CType
lanes w = CType.Neon (lanes_of w) true

into_fine : (ps : List CType) (x : Term) (w : ℕ) → IsWidth w → Fine ps vector [] x → Fine ps (lanes w) [] (into (lanes_of w) x)
into_fine ps x w width h =
    by_width (λ v. Fine ps (lanes v) [] (into (lanes_of v) x)) w width h
    (fine_one (of_move (op.ToUnsigned read.VreinterpretqU16U8)) 0 ps vector [] x h refl refl refl refl)
    (fine_one (of_move (op.ToUnsigned read.VreinterpretqU32U8)) 0 ps vector [] x h refl refl refl refl)
    (fine_one (of_move (op.ToUnsigned read.VreinterpretqU64U8)) 0 ps vector [] x h refl refl refl refl)

back_fine : (ps : List CType) (x : Term) (w : ℕ) (row : NeonOp) → IsWidth w → Fine ps (lanes w) (row ∷ []) x → Fine ps vector (row ∷ []) (back (lanes_of w) x)
back_fine ps x w row width =
    by_width (λ v. Fine ps (lanes v) (row ∷ []) x → Fine ps vector (row ∷ []) (back (lanes_of v) x)) w width (λ h. h)
    (λ h. fine_one (of_move (op.ToUnsigned read.VreinterpretqU8U16)) 0 ps (lanes 2) (row ∷ []) x h refl refl refl refl)
    (λ h. fine_one (of_move (op.ToUnsigned read.VreinterpretqU8U32)) 0 ps (lanes 4) (row ∷ []) x h refl refl refl refl)
    (λ h. fine_one (of_move (op.ToUnsigned read.VreinterpretqU8U64)) 0 ps (lanes 8) (row ∷ []) x h refl refl refl refl)

-- the rows of kinds
abbrev Row1 : List CType → FormKind → Term → ℕ → ℕ → Type 0
Row1 ps kind x w n = Fine ps (lanes w) (of_move (row_of kind (lanes_of w) n) ∷ []) (Call (of_move (row_of kind (lanes_of w) n)) (More x NoTerms) (constant_of kind n))

abbrev Row2 : List CType → FormKind → Term → Term → ℕ → ℕ → Type 0
Row2 ps kind x y w n = Fine ps (lanes w) (of_move (row_of kind (lanes_of w) n) ∷ []) (Call (of_move (row_of kind (lanes_of w) n)) (More x (More y NoTerms)) (constant_of kind n))

unary_fine : (ps : List CType) (kind : FormKind) (w n : ℕ) (x : Term) → IsUnary kind → IsListed kind w n → Fine ps (lanes w) [] x → Row1 ps kind x w n
unary_fine ps Dup w n x u g h =
    by_width (λ v. n < 16 / v → Fine ps (lanes v) [] x → Row1 ps Dup x v n) w g.0
    (λ l k. fine_one (of_move (row_of Dup U8 n)) n ps (lanes 1) [] x k refl (omega arith, omega (arith, l)) refl refl)
    (λ l k. fine_one (of_move (row_of Dup U16 n)) n ps (lanes 2) [] x k refl (omega arith, omega (arith, l)) refl refl)
    (λ l k. fine_one (of_move (row_of Dup U32 n)) n ps (lanes 4) [] x k refl (omega arith, omega (arith, l)) refl refl)
    (λ l k. fine_one (of_move (row_of Dup U64 n)) n ps (lanes 8) [] x k refl (omega arith, omega (arith, l)) refl refl) g.1 h
unary_fine ps Rev w n x u g h =
    by_group (λ v m. Fine ps (lanes v) [] x → Row1 ps Rev x v m) w n g
    (λ k. fine_one (of_move (row_of Rev U8 2)) 0 ps (lanes 1) [] x k refl refl refl refl)
    (λ k. fine_one (of_move (row_of Rev U8 4)) 0 ps (lanes 1) [] x k refl refl refl refl)
    (λ k. fine_one (of_move (row_of Rev U8 8)) 0 ps (lanes 1) [] x k refl refl refl refl)
    (λ k. fine_one (of_move (row_of Rev U16 4)) 0 ps (lanes 2) [] x k refl refl refl refl)
    (λ k. fine_one (of_move (row_of Rev U16 8)) 0 ps (lanes 2) [] x k refl refl refl refl)
    (λ k. fine_one (of_move (row_of Rev U32 8)) 0 ps (lanes 4) [] x k refl refl refl refl) h
unary_fine ps _ w n x u g h = absurd u

abbrev Both : List CType → FormKind → Term → Term → ℕ → ℕ → Type 0
Both ps kind x y w n = Fine ps (lanes w) [] x → Fine ps (lanes w) [] y → Row2 ps kind x y w n

binary_fine : (ps : List CType) (kind : FormKind) (w n : ℕ) (x y : Term) → IsBinary kind → IsListed kind w n → Both ps kind x y w n
binary_fine ps Ext w n x y u g =
    let most : n ≤ 15 = g.2 in
    subst (λ v. Both ps Ext x y v n) (sym g.0) (λ h i. fine_two (of_move (row_of Ext U8 n)) n ps (lanes 1) (lanes 1) x y h i refl (omega arith, most) refl refl)
binary_fine ps Zip w n x y u g =
    by_two (Both ps Zip x y w) n g.1
    (by_width (λ v. Both ps Zip x y v 1) w g.0 (λ h i. fine_two (of_move (row_of Zip U8 1)) 0 ps (lanes 1) (lanes 1) x y h i refl refl refl refl) (λ h i. fine_two (of_move (row_of Zip U16 1)) 0 ps (lanes 2) (lanes 2) x y h i refl refl refl refl)
    (λ h i. fine_two (of_move (row_of Zip U32 1)) 0 ps (lanes 4) (lanes 4) x y h i refl refl refl refl) (λ h i. fine_two (of_move (row_of Zip U64 1)) 0 ps (lanes 8) (lanes 8) x y h i refl refl refl refl))
    (by_width (λ v. Both ps Zip x y v 2) w g.0 (λ h i. fine_two (of_move (row_of Zip U8 2)) 0 ps (lanes 1) (lanes 1) x y h i refl refl refl refl) (λ h i. fine_two (of_move (row_of Zip U16 2)) 0 ps (lanes 2) (lanes 2) x y h i refl refl refl refl)
    (λ h i. fine_two (of_move (row_of Zip U32 2)) 0 ps (lanes 4) (lanes 4) x y h i refl refl refl refl) (λ h i. fine_two (of_move (row_of Zip U64 2)) 0 ps (lanes 8) (lanes 8) x y h i refl refl refl refl))
binary_fine ps Uzp w n x y u g =
    by_two (Both ps Uzp x y w) n g.1
    (by_width (λ v. Both ps Uzp x y v 1) w g.0 (λ h i. fine_two (of_move (row_of Uzp U8 1)) 0 ps (lanes 1) (lanes 1) x y h i refl refl refl refl) (λ h i. fine_two (of_move (row_of Uzp U16 1)) 0 ps (lanes 2) (lanes 2) x y h i refl refl refl refl)
    (λ h i. fine_two (of_move (row_of Uzp U32 1)) 0 ps (lanes 4) (lanes 4) x y h i refl refl refl refl) (λ h i. fine_two (of_move (row_of Uzp U64 1)) 0 ps (lanes 8) (lanes 8) x y h i refl refl refl refl))
    (by_width (λ v. Both ps Uzp x y v 2) w g.0 (λ h i. fine_two (of_move (row_of Uzp U8 2)) 0 ps (lanes 1) (lanes 1) x y h i refl refl refl refl) (λ h i. fine_two (of_move (row_of Uzp U16 2)) 0 ps (lanes 2) (lanes 2) x y h i refl refl refl refl)
    (λ h i. fine_two (of_move (row_of Uzp U32 2)) 0 ps (lanes 4) (lanes 4) x y h i refl refl refl refl) (λ h i. fine_two (of_move (row_of Uzp U64 2)) 0 ps (lanes 8) (lanes 8) x y h i refl refl refl refl))
binary_fine ps Trn w n x y u g =
    by_two (Both ps Trn x y w) n g.1
    (by_width (λ v. Both ps Trn x y v 1) w g.0 (λ h i. fine_two (of_move (row_of Trn U8 1)) 0 ps (lanes 1) (lanes 1) x y h i refl refl refl refl) (λ h i. fine_two (of_move (row_of Trn U16 1)) 0 ps (lanes 2) (lanes 2) x y h i refl refl refl refl)
    (λ h i. fine_two (of_move (row_of Trn U32 1)) 0 ps (lanes 4) (lanes 4) x y h i refl refl refl refl) (λ h i. fine_two (of_move (row_of Trn U64 1)) 0 ps (lanes 8) (lanes 8) x y h i refl refl refl refl))
    (by_width (λ v. Both ps Trn x y v 2) w g.0 (λ h i. fine_two (of_move (row_of Trn U8 2)) 0 ps (lanes 1) (lanes 1) x y h i refl refl refl refl) (λ h i. fine_two (of_move (row_of Trn U16 2)) 0 ps (lanes 2) (lanes 2) x y h i refl refl refl refl)
    (λ h i. fine_two (of_move (row_of Trn U32 2)) 0 ps (lanes 4) (lanes 4) x y h i refl refl refl refl) (λ h i. fine_two (of_move (row_of Trn U64 2)) 0 ps (lanes 8) (lanes 8) x y h i refl refl refl refl))
binary_fine ps _ w n x y u g = absurd u

side_fine : (ps : List CType) (x : Side) (s t : Term) → Fine ps vector [] s → Fine ps vector [] t → Fine ps vector [] (side_term x s t)
side_fine ps side.A s t h i = h
side_fine ps side.B s t h i = i
side_fine ps side.Zero s t h i = (refl, IsRegister-zeros, refl, refl)

indices_register : (index : Pick → ℕ) (want : List Pick) → IsRegister 16 (indices index want)
unfolding indices
indices_register index want = IsRegister-build 1 16 (λ i. index (get_or want i pick.Zero)) (inl refl) (inr (inl refl))

indices_fine : (ps : List CType) (index : Pick → ℕ) (want : List Pick) → Fine ps vector [] (Const (indices index want))
indices_fine ps index want = (refl, indices_register index want, refl, refl)

form_fine : (ps : List CType) (f : Form) (want : List Pick) (s t : Term) → IsForm f → Fine ps vector [] s → Fine ps vector [] t → Fine ps vector (calls_of f) (form_term f want s t)
form_fine ps (Same x) want s t g h i = side_fine ps x s t h i
form_fine ps (One kind w n x) want s t g h i =
    let width = listed_width kind w n g.1 in
    back_fine ps (Call (of_move (row_of kind (lanes_of w) n)) (More (into (lanes_of w) (side_term x s t)) NoTerms) (constant_of kind n)) w (of_move (row_of kind (lanes_of w) n)) width
    (unary_fine ps kind w n (into (lanes_of w) (side_term x s t)) g.0 g.1 (into_fine ps (side_term x s t) w width (side_fine ps x s t h i)))
form_fine ps (Two kind w n x y) want s t g h i =
    let width = listed_width kind w n g.1 in
    back_fine ps (Call (of_move (row_of kind (lanes_of w) n)) (More (into (lanes_of w) (side_term x s t)) (More (into (lanes_of w) (side_term y s t)) NoTerms)) (constant_of kind n)) w (of_move (row_of kind (lanes_of w) n)) width
    (binary_fine ps kind w n (into (lanes_of w) (side_term x s t)) (into (lanes_of w) (side_term y s t)) g.0 g.1 (into_fine ps (side_term x s t) w width (side_fine ps x s t h i)) (into_fine ps (side_term y s t) w width (side_fine ps y s t h i)))
form_fine ps (Table x) want s t g h i =
    fine_two (of_move (op.Bytes bytes.Vqtbl1qU8)) 0 ps vector vector (side_term x s t) (Const (indices index_in want)) (side_fine ps x s t h i) (indices_fine ps index_in want) refl refl refl refl
form_fine ps TablePair want s t g h i =
    fine_two (of_move (op.Bytes bytes.Vqtbl2qU8)) 0 ps CType.Pair vector (PairOf s t) (Const (indices index_in_pair want)) (refl, (h.0, i.0, h.1, i.1), rw (h.2, i.2) refl, rw (h.3, i.3) refl) (indices_fine ps index_in_pair want) refl refl refl refl

abbrev pub IsFine : Form → Sequence → Type 0
IsFine f q = WellFormed q × (plain q ≡ true) × (rows_called q ≡ calls_of f)

from_fine : (ps : List CType) (t : Term) (rows : List NeonOp) → Fine ps vector rows t → IsCarrier (type_of ps [] t) × IsFormed ps [] t
from_fine ps t rows h = (subst IsCarrier (sym h.0) tt, h.1)

pub sequence_fine : (two : Bool) (f : Form) (want : List Pick) → IsForm f → IsFine f (sequence_of two f want)
sequence_fine true f want g =
    let ps = vector ∷ vector ∷ [] in
    let h = form_fine ps f want (Param 0) (Param 1) g (refl, tt, refl, refl) (refl, tt, refl, refl) in
    (((tt, (tt, tt)), from_fine ps (form_term f want (Param 0) (Param 1)) (calls_of f) h), h.2, h.3)
sequence_fine false f want g =
    let ps = vector ∷ [] in
    let h = form_fine ps f want (Param 0) (Param 0) g (refl, tt, refl, refl) (refl, tt, refl, refl) in
    (((tt, tt), from_fine ps (form_term f want (Param 0) (Param 0)) (calls_of f) h), h.2, h.3)

pub form_type : (two : Bool) (f : Form) (want : List Pick) → IsForm f → sequence_type (sequence_of two f want) ≡ vector
form_type true f want g = (form_fine (vector ∷ vector ∷ []) f want (Param 0) (Param 1) g (refl, tt, refl, refl) (refl, tt, refl, refl)).0
form_type false f want g = (form_fine (vector ∷ []) f want (Param 0) (Param 0) g (refl, tt, refl, refl) (refl, tt, refl, refl)).0

few : (f : Form) → length (calls_of f) ≤ 1
few (Same x) = omega arith
few (One kind w n x) = omega arith
few (Two kind w n x y) = omega arith
few (Table x) = omega arith
few TablePair = omega arith

-- ---- the choice

choice_form : (stated : List ℕ) (r : Row) (imm half : ℕ) (f : Form) → IsChoice stated r imm half f → IsForm f × (gives_of f (picks (picked_at r imm half)) ≡ true)
choice_form stated r imm half f c =
    let inside : c.0 < 390 = omega (arith, c.1.inside, how_many) in (
      subst IsForm (sym (c.2 ∙ form_there c.0 inside)) (listed_form c.0 inside),
      subst (λ g. gives_of g (picks (picked_at r imm half)) ≡ true) (sym c.2) c.1.passed,
    )

-- all that holds of the sequence of the choice
pub record Holds (stated : List ℕ) (r : Row) (imm half : ℕ) (q : Sequence) : Type 0 where
  pub choice : IsPlan stated r imm half q
  pub value : GivesTheBlock r imm half q
  pub whole : GivesTheRow r imm q
  pub formed : WellFormed q
  pub unmarked : plain q ≡ true
  pub one : length (rows_called q) ≤ 1

pub plan_holds : PicksArePlaces → (stated : List ℕ) (r : Row) (imm half : ℕ) (f : Form) (q : Sequence) → is_shuffle r ≡ true → half ≤ 1 → IsChoice stated r imm half f → q ≡ plan_by f r imm half → Holds stated r imm half q
plan_holds law stated r imm half f q s l c e =
    let p = choice_form stated r imm half f c in
    let h = sequence_fine (has_two r) f (picks (picked_at r imm half)) p.0 in
    subst (Holds stated r imm half) (sym e) (record {
      choice = (f, c, refl, h.2);
      value = block_value law r imm half f s l p.0 p.1;
      whole = whole_value r imm half (plan_by f r imm half) s (block_value law r imm half f s l p.0 p.1);
      formed = h.0;
      unmarked = h.1;
      one = subst (λ xs. length xs ≤ 1) (sym h.2) (few f);
    })

-- the same of an answer
abbrev pub PlanHolds : {E : Type 0} → List ℕ → Row → ℕ → ℕ → Result Seq E → Type 0
PlanHolds stated r imm half answer = IfOk answer (λ s. Holds stated r imm half (view_seq s))

pub answer_holds : {E : Type 0} (answer : Result Seq E) → PicksArePlaces → (stated : List ℕ) (form r : Row) (imm half : ℕ) → form ≡ r → is_shuffle r ≡ true → half ≤ 1
    → IfOk answer (λ s. IsPlannedBy stated form imm half (view_seq s)) → PlanHolds stated r imm half answer
answer_holds (Ok s) law stated form r imm half e h l p =
    let q : IsPlannedBy stated r imm half (view_seq s) = subst (λ x. IsPlannedBy stated x imm half (view_seq s)) e p in
    plan_holds law stated r imm half q.0 (view_seq s) h l q.1 q.2
answer_holds (Err x) law stated form r imm half e h l p = tt

pub of_answer : {E : Type 0} (answer : Result Seq E) (P Q : Sequence → Type 0) → ((q : Sequence) → P q → Q q) → IfOk answer (λ s. P (view_seq s)) → IfOk answer (λ s. Q (view_seq s))
of_answer (Ok s) P Q f h = f (view_seq s) h
of_answer (Err e) P Q f h = tt

pub planned_by : {E : Type 0} (answer : Result Seq E) (stated : List ℕ) (r : Row) (imm half : ℕ) (want : List Pick) (two : Bool) (f : Form) → want ≡ picks (picked_at r imm half) → two ≡ has_two r
    → (i : ℕ) × IsFirstLeast (λ g. gives_of g want) (price_by stated) forms TablePair i × (f ≡ get_or forms i TablePair)
    → IfOk answer (λ s. view_seq s ≡ sequence_of two f want) → IfOk answer (λ s. IsPlannedBy stated r imm half (view_seq s))
planned_by (Ok s) stated r imm half want two f e d c h = (
  f,
  subst (λ w. (i : ℕ) × IsFirstLeast (λ g. gives_of g w) (price_by stated) forms TablePair i × (f ≡ get_or forms i TablePair)) e c,
  h ∙ ap (λ t. sequence_of t f want) d ∙ ap (sequence_of (has_two r) f) e,
)
planned_by (Err x) stated r imm half want two f e d c h = tt
