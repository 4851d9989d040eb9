-- The names that are made for rows' functions, their parameters and their steps are names in a text of the Neon dialect.
use Rattle.std.proofs.Common.{◌≡◌, refl, subst, arith, ℕ, zero, suc, ◌+◌, ◌-◌, ◌<◌, ◌≤◌, ◌^◌, Bool, true, false, ◌&&◌, ◌||◌, List, [], ◌∷◌, ◌++◌, decimal, length}
use Rattle.std.proofs.lemmas.Bool.Decides.{nat_tests}
use Rattle.std.proofs.lemmas.Fmt.{decimal_is_IsNumeral, decimal_nonempty}
use Rattle.std.proofs.lemmas.Str.Parse.{digit_from_value}
use Rattle.std.specs.Prelude.{bytes_eq}
use Rattle.std.specs.List.{list_any}
use Rattle.std.specs.Str.Parse.{AllDigits}
use Rattle.lane_core.specs.declared.table.ImmRange.{ImmRange}
use Rattle.lane_core.specs.declared.table.ImmRange.TheVariants.{NoImmediate, Span, Scale}
use Rattle.c_text.specs.declared.tokens.Dialect.TheVariants.{Neon}
use Rattle.c_text.specs.Forms.{is_name, is_name_byte, all_are, is_letter, is_digit}
use Rattle.c_text.specs.PredefinedNames.{predefined_names}
use Rattle.c_parse.specs.declared.symbols.Symbol.TheVariants as symbols
use Rattle.c_parse.specs.Symbols.{name_symbol}
use Rattle.round_trip.specs.Good.{GoodName}
use Rattle.seq_core.specs.Functions.{param_name, step_name}
use Rattle.written_forms.specs.Moved.{suffix, helper_name}

-- ---- bytes of names

both : (a b : Bool) → a ≡ true → b ≡ true → (a && b) ≡ true
both a b h g = rw (h, g) refl

first_true : (a b : Bool) → (a && b) ≡ true → a ≡ true
first_true true b h = refl
first_true false b h = absurd (cc)

second_true : (a b : Bool) → (a && b) ≡ true → b ≡ true
second_true true b h = h
second_true false b h = absurd (cc)

or_first : (a b : Bool) → a ≡ true → (a || b) ≡ true
or_first true b h = refl
or_first false b h = absurd (cc)

or_second : (a b : Bool) → b ≡ true → (a || b) ≡ true
or_second true b h = refl
or_second false b h = h

all_behind : (xs ys : List ℕ) → all_are is_name_byte xs ≡ true → all_are is_name_byte ys ≡ true → all_are is_name_byte (xs ++ ys) ≡ true
all_behind [] ys h g = g
all_behind (x ∷ xs) ys h g =
    both (is_name_byte x) (all_are is_name_byte (xs ++ ys)) (first_true (is_name_byte x) (all_are is_name_byte xs) h) (all_behind xs ys (second_true (is_name_byte x) (all_are is_name_byte xs) h) g)

name_bytes : (x : List ℕ) → is_name x ≡ true → all_are is_name_byte x ≡ true
name_bytes [] h = absurd (cc)
name_bytes (b ∷ bs) h = both (is_name_byte b) (all_are is_name_byte bs) (or_first (is_letter b) (is_digit b) (first_true (is_letter b) (all_are is_name_byte bs) h)) (second_true (is_letter b) (all_are is_name_byte bs) h)

digit_is : (c : ℕ) → 48 ≤ c → c ≤ 57 → is_digit c ≡ true
digit_is c l h = grind (arith, nat_tests, l, h)

digit_bytes : (ds : List ℕ) → AllDigits 10 ds → all_are is_name_byte ds ≡ true
digit_bytes [] d = refl
digit_bytes (c ∷ cs) d =
    let r = digit_from_value c d.0 in
    both (is_name_byte c) (all_are is_name_byte cs) (or_second (is_letter c) (is_digit c) (digit_is c (omega (arith, r)) (omega (arith, r)))) (digit_bytes cs d.1)

decimal_bytes : (n : ℕ) → n < 2 ^ 64 → all_are is_name_byte (decimal n) ≡ true
decimal_bytes n h = digit_bytes (decimal n) (decimal_is_IsNumeral n h).0.1

-- ---- rows' functions

suffix_bytes : (range : ImmRange) (imm : ℕ) → imm < 2 ^ 64 → all_are is_name_byte (suffix range imm) ≡ true
suffix_bytes NoImmediate imm h = refl
suffix_bytes (Span low high) imm h = decimal_bytes imm h
suffix_bytes Scale imm h = decimal_bytes imm h

pub helper_named : (f : List ℕ) (range : ImmRange) (imm : ℕ) → is_name f ≡ true → imm < 2 ^ 64 → GoodName (helper_name f range imm)
helper_named f range imm h l = record { named = all_behind f (suffix range imm) (name_bytes f h) (suffix_bytes range imm l); free = refl; no_macro = refl }

-- ---- parameters and steps

by_digit : (P : ℕ → Type 0) → P 48 → P 49 → P 50 → P 51 → P 52 → P 53 → P 54 → P 55 → P 56 → P 57 → (d : ℕ) → d ≤ 9 → P (48 + d)
by_digit P a b c d e f g h i j zero l = a
by_digit P a b c d e f g h i j (suc zero) l = b
by_digit P a b c d e f g h i j (suc (suc zero)) l = c
by_digit P a b c d e f g h i j (suc (suc (suc zero))) l = d
by_digit P a b c d e f g h i j (suc (suc (suc (suc zero)))) l = e
by_digit P a b c d e f g h i j (suc (suc (suc (suc (suc zero))))) l = f
by_digit P a b c d e f g h i j (suc (suc (suc (suc (suc (suc zero)))))) l = g
by_digit P a b c d e f g h i j (suc (suc (suc (suc (suc (suc (suc zero))))))) l = h
by_digit P a b c d e f g h i j (suc (suc (suc (suc (suc (suc (suc (suc zero)))))))) l = i
by_digit P a b c d e f g h i j (suc (suc (suc (suc (suc (suc (suc (suc (suc zero))))))))) l = j
by_digit P a b c d e f g h i j (suc (suc (suc (suc (suc (suc (suc (suc (suc (suc k)))))))))) l = absurd (omega (arith, l))

-- a letter and a number
record Lettered (a : ℕ) (rest : List ℕ) (c : ℕ) : Type 0 where
  pub free : name_symbol Neon (a ∷ c ∷ rest) ≡ symbols.Name
  pub no_macro : list_any (λ m. bytes_eq (a ∷ c ∷ rest) m.name) (predefined_names Neon) ≡ false

of_a : (rest : List ℕ) (d : ℕ) → d ≤ 9 → Lettered 97 rest (48 + d)
of_a rest d l = by_digit (Lettered 97 rest) (record { free = refl; no_macro = refl }) (record { free = refl; no_macro = refl }) (record { free = refl; no_macro = refl }) (record { free = refl; no_macro = refl })
    (record { free = refl; no_macro = refl }) (record { free = refl; no_macro = refl }) (record { free = refl; no_macro = refl }) (record { free = refl; no_macro = refl }) (record { free = refl; no_macro = refl })
    (record { free = refl; no_macro = refl }) d l

of_s : (rest : List ℕ) (d : ℕ) → d ≤ 9 → Lettered 115 rest (48 + d)
of_s rest d l = by_digit (Lettered 115 rest) (record { free = refl; no_macro = refl }) (record { free = refl; no_macro = refl }) (record { free = refl; no_macro = refl }) (record { free = refl; no_macro = refl })
    (record { free = refl; no_macro = refl }) (record { free = refl; no_macro = refl }) (record { free = refl; no_macro = refl }) (record { free = refl; no_macro = refl }) (record { free = refl; no_macro = refl })
    (record { free = refl; no_macro = refl }) d l

numbered : (a : ℕ) (ds : List ℕ) → is_letter a ≡ true → ((rest : List ℕ) (d : ℕ) → d ≤ 9 → Lettered a rest (48 + d)) → AllDigits 10 ds → 0 < length ds → GoodName (a ∷ ds)
numbered a [] i f all h = absurd (omega (arith, h))
numbered a (c ∷ cs) i f all h =
    let r = digit_from_value c all.0 in
    let is : 48 + (c - 48) ≡ c = omega (arith, r) in
    let l = subst (Lettered a cs) is (f cs (c - 48) (omega (arith, r))) in
    record { named = both (is_letter a) (all_are is_name_byte (c ∷ cs)) i (digit_bytes (c ∷ cs) all); free = l.free; no_macro = l.no_macro }

pub param_named : (k : ℕ) → k < 2 ^ 64 → GoodName (param_name k)
param_named k h = numbered 97 (decimal k) refl of_a (decimal_is_IsNumeral k h).0.1 (decimal_nonempty k h)

pub step_named : (k : ℕ) → k < 2 ^ 64 → GoodName (step_name k)
step_named k h = numbered 115 (decimal k) refl of_s (decimal_is_IsNumeral k h).0.1 (decimal_nonempty k h)
