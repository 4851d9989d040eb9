-- The names of rows' functions: they begin with `mg_`, are no row's, and tell rows and immediates apart.
use Rattle.std.proofs.Common.{◌≡◌, refl, sym, ap, ◌∙◌, ◌⊎◌, inl, inr, arith, ℕ, ◌<◌, ◌^◌, Bool, true, false, not, ◌&&◌, ◌||◌, ◌==◌, List, [], ◌∷◌, ◌++◌, Option, Some, None, nat_le, nat_eq, codes, decimal, drop, take}
use Rattle.std.proofs.lemmas.Bool.Decides.{nat_tests}
use Rattle.std.proofs.lemmas.Fmt.{decimal_is_IsNumeral, decimal_injective}
use Rattle.std.proofs.lemmas.List.{append-nil}
use Rattle.std.specs.List.{starts_with}
use Rattle.std.proofs.lemmas.Str.Parse.{digit_from_value}
use Rattle.std.specs.Str.Parse.{AllDigits}
use Rattle.lane_core.specs.declared.table.ImmRange.{ImmRange}
use Rattle.lane_core.specs.declared.table.ImmRange.TheVariants.{NoImmediate, Span, Scale}
use Rattle.c_memory.specs.Meaning.{is_helper}
use Rattle.intel_table.specs.declared.IntelOp.{IntelOp}
use Rattle.intel_table.specs.Rows as intel
use Rattle.neon_table.specs.declared.NeonOp.{NeonOp}
use Rattle.neon_table.specs.Rows as neon
use Rattle.written_forms.specs.Moved.{suffix, helper_name}
use Rattle.ready_units.proofs.RowNames.{is_digit, are_digits, ends_in_number, is_neon_name, intel_name, neon_name}

first_true : (a b : Bool) → (a && b) ≡ true → a ≡ true
first_true true b h = refl
first_true false b h = absurd (cc)

second_true : (a b : Bool) → (a && b) ≡ true → b ≡ true
second_true true b h = h
second_true false b h = absurd (cc)

not_true : (a : Bool) → not a ≡ true → a ≡ false
not_true true h = absurd (cc)
not_true false h = refl

apart : (a : Bool) → a ≡ true → a ≡ false → {A : Type 0} → A
apart true h g = absurd (cc)
apart false h g = absurd (cc)

-- ---- how they begin

-- an Intel row's name begins with `_`
begins : (f : List ℕ) → starts_with nat_eq f (codes "_mm") ≡ true → take 1 f ≡ 95 ∷ []
begins [] h = absurd (cc)
begins (c ∷ rest) h =
    let same : nat_eq 95 c ≡ true = first_true (nat_eq 95 c) _ h in
    let is : c ≡ 95 = grind (arith, nat_tests, same) in ap (λ (x : ℕ). x ∷ []) is

helper_begins : (f : List ℕ) (range : ImmRange) (imm : ℕ) → take 1 f ≡ 95 ∷ [] → is_helper (helper_name f range imm) ≡ true
helper_begins [] range imm h = absurd (cc)
helper_begins (c ∷ rest) range imm h = let is : c ≡ 95 = cc in rw is refl

pub helper_is : (f : List ℕ) (op : IntelOp) (range : ImmRange) (imm : ℕ) → intel.find_of f ≡ Some op → is_helper (helper_name f range imm) ≡ true
helper_is f op range imm h = helper_begins f range imm (begins f (first_true (starts_with nat_eq f (codes "_mm")) (not (ends_in_number f)) (intel_name f op h)))

pub helper_no_neon : (f : List ℕ) (range : ImmRange) (imm : ℕ) → neon.find_of (helper_name f range imm) ≡ None
helper_no_neon f range imm = at (neon.find_of (helper_name f range imm)) refl
  where
    at : (o : Option NeonOp) → neon.find_of (helper_name f range imm) ≡ o → o ≡ None
    at None e = refl
    at (Some op) e = absurd (let h : is_neon_name (helper_name f range imm) ≡ true = neon_name (helper_name f range imm) op e in cc)

-- ---- how they end

plain_end : (f : List ℕ) (op : IntelOp) → intel.find_of f ≡ Some op → ends_in_number f ≡ false
plain_end f op h = not_true (ends_in_number f) (second_true (starts_with nat_eq f (codes "_mm")) (not (ends_in_number f)) (intel_name f op h))

digits_are : (ds : List ℕ) → AllDigits 10 ds → are_digits ds ≡ true
digits_are [] d = refl
digits_are (c ∷ cs) d = both (nat_le 48 c) (nat_le c 57) (let x = digit_from_value c d.0 in grind (arith, nat_tests, x)) (let x = digit_from_value c d.0 in grind (arith, nat_tests, x)) (digits_are cs d.1)
  where
    both : (a b : Bool) → a ≡ true → b ≡ true → are_digits cs ≡ true → ((a && b) && are_digits cs) ≡ true
    both a b e f g = rw (e, f) g

-- `_` is no digit
no_digits : (g e : List ℕ) → are_digits (g ++ 95 ∷ e) ≡ false
no_digits [] e = refl
no_digits (c ∷ g) e = at (is_digit c) (no_digits g e)
  where
    at : (b : Bool) → are_digits (g ++ 95 ∷ e) ≡ false → (b && are_digits (g ++ 95 ∷ e)) ≡ false
    at true h = h
    at false h = refl

ending : (g d : List ℕ) → are_digits d ≡ true → ends_in_number (g ++ 95 ∷ d) ≡ true
ending [] d h = rw h refl
ending (c ∷ g) d h = at (c == 95 && are_digits (g ++ 95 ∷ d)) (ending g d h)
  where
    at : (b : Bool) → ends_in_number (g ++ 95 ∷ d) ≡ true → (b || ends_in_number (g ++ 95 ∷ d)) ≡ true
    at true e = refl
    at false e = e

-- the last `_` and the digits behind it tell what stands before
record Split (f g d e : List ℕ) : Type 0 where
  pub front : f ≡ g
  pub end : d ≡ e

split : (f g d e : List ℕ) → are_digits d ≡ true → are_digits e ≡ true → f ++ 95 ∷ d ≡ g ++ 95 ∷ e → Split f g d e
split [] [] d e i j h = record { front = refl; end = ap (drop 1) h }
split [] (c ∷ g) d e i j h = apart (are_digits d) i (ap are_digits (ap (drop 1) h) ∙ no_digits g e)
split (c ∷ f) [] d e i j h = apart (are_digits e) j (ap are_digits (ap (drop 1) (sym h)) ∙ no_digits f d)
split (c ∷ f) (k ∷ g) d e i j h =
    let s = split f g d e i j (ap (drop 1) h) in
    let first : c ≡ k = cc in record { front = rw first (ap (λ x. k ∷ x) s.front); end = s.end }

-- nothing, or `_` and the immediate
suffix_is : (range : ImmRange) (imm : ℕ) → (range ≡ NoImmediate → imm ≡ 0) → ((suffix range imm ≡ []) × (imm ≡ 0)) ⊎ (suffix range imm ≡ 95 ∷ decimal imm)
suffix_is NoImmediate imm h = inl (refl, h refl)
suffix_is (Span low high) imm h = inr refl
suffix_is Scale imm h = inr refl

pub record Told (f g : List ℕ) (m n : ℕ) : Type 0 where
  pub row : f ≡ g
  pub imm : m ≡ n

tell : (f g s t : List ℕ) (m n : ℕ) → m < 2 ^ 64 → n < 2 ^ 64 → ends_in_number f ≡ false → ends_in_number g ≡ false → ((s ≡ []) × (m ≡ 0)) ⊎ (s ≡ 95 ∷ decimal m) → ((t ≡ []) × (n ≡ 0)) ⊎ (t ≡ 95 ∷ decimal n)
    → f ++ s ≡ g ++ t → Told f g m n
tell f g s t m n p q i j (inl a) (inl b) h = record { row = sym (append-nil f) ∙ ap (λ x. f ++ x) (sym a.0) ∙ h ∙ ap (λ x. g ++ x) b.0 ∙ append-nil g; imm = a.1 ∙ sym b.1 }
tell f g s t m n p q i j (inl a) (inr b) h =
    apart (ends_in_number f) (ap ends_in_number (sym (append-nil f) ∙ ap (λ x. f ++ x) (sym a.0) ∙ h ∙ ap (λ x. g ++ x) b) ∙ ending g (decimal n) (digits_are (decimal n) (decimal_is_IsNumeral n q).0.1)) i
tell f g s t m n p q i j (inr a) (inl b) h =
    apart (ends_in_number g) (ap ends_in_number (sym (append-nil g) ∙ ap (λ x. g ++ x) (sym b.0) ∙ sym h ∙ ap (λ x. f ++ x) a) ∙ ending f (decimal m) (digits_are (decimal m) (decimal_is_IsNumeral m p).0.1)) j
tell f g s t m n p q i j (inr a) (inr b) h =
    let d = digits_are (decimal m) (decimal_is_IsNumeral m p).0.1 in
    let e = digits_are (decimal n) (decimal_is_IsNumeral n q).0.1 in
    let both = split f g (decimal m) (decimal n) d e (ap (λ x. f ++ x) (sym a) ∙ h ∙ ap (λ x. g ++ x) b) in
    record { row = both.front; imm = decimal_injective m n p q both.end }

pub names_tell : (f g : List ℕ) (op o : IntelOp) (r s : ImmRange) (m n : ℕ) → intel.find_of f ≡ Some op → intel.find_of g ≡ Some o → (r ≡ NoImmediate → m ≡ 0) → (s ≡ NoImmediate → n ≡ 0) → m < 2 ^ 64 → n < 2 ^ 64
    → helper_name f r m ≡ helper_name g s n → Told f g m n
names_tell f g op o r s m n i j k l p q h = tell f g (suffix r m) (suffix s n) m n p q (plain_end f op i) (plain_end g o j) (suffix_is r m k) (suffix_is s n l) (ap (drop 2) h)
