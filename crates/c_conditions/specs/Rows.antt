-- Small lines, whose tokens stand between spaces, with their values.
use Rattle.std.specs.Prelude.{◌≡◌, refl, ℕ, ◌==◌, List, [], ◌∷◌, Bool, true, false, if◌then◌else◌, Option, Some, None, option_map, codes, pos, ℤ}
use Rattle.std.specs.Str.{byte}
use Rattle.scalar_core.specs.Numbers.{num_of, converted}
use Rattle.scalar_core.specs.Operators.{binary_of, unary_of, operate, operate_unary, arithmetic, truth}
use Rattle.scalar_core.specs.Ranks.{common_of, promoted}
use Rattle.scalar_core.specs.TwosComplement.{wrapped, value_of_bits, bits_of}
use Rattle.c_text.specs.declared.tokens.TokenKind.{TokenKind}
use Rattle.c_text.specs.declared.tokens.TokenKind.TheVariants.{Name, Number, Quote, Mark}
use Rattle.c_text.specs.declared.tokens.Token.{Token}
use Rattle.c_constants.specs.IntegerConstant.{is_between}
use Rattle.c_constants.specs.Constant.{constant_of}
use Rattle.c_conditions.specs.Signs.{link_of, start}
use Rattle.c_conditions.specs.Value.{value, read}

abbrev kind_by : ℕ → TokenKind
kind_by b =
    if is_between (byte "0") (byte "9") b then Number
    else if is_between (byte "A") (byte "Z") b then Name
    else if is_between (byte "a") (byte "z") b then Name
    else if b == byte "'" then Quote
    else Mark

-- one more byte before tokens, told whether it is a space, and whether a token begins with the byte behind it
abbrev byte_before : Bool → ℕ → List (List ℕ) → List (List ℕ)
byte_before true b words = [] ∷ words
byte_before false b [] = (b ∷ []) ∷ []
byte_before false b (w ∷ words) = (b ∷ w) ∷ words

abbrev words : List ℕ → List (List ℕ)
words [] = []
words (b ∷ bs) = byte_before (b == byte " ") b (words bs)

abbrev tokens : List (List ℕ) → List Token
tokens [] = []
tokens ([] ∷ more) = tokens more
tokens ((b ∷ bs) ∷ more) = record { kind = kind_by b; text = b ∷ bs; place = record { line = 1; col = 1 }; spaced = true; first = false } ∷ tokens more

abbrev number : List ℕ → Option ℤ
number line = option_map (λ n. n.value) (value (tokens (words line)))

-- which operators bind tighter, and that they group from the left, but a choice from the right
levels :
    (number (codes "2 + 3 * 4 == 7 << 1") ≡ Some (pos 1)) ×
    (number (codes "8 - 4 - 2") ≡ Some (pos 2)) ×
    (number (codes "1 ? 2 : 3 ? 4 : 5") ≡ Some (pos 2)) ×
    (number (codes "! 0 + 1") ≡ Some (pos 2)) ×
    (number (codes "( 2 + 3 ) * 4") ≡ Some (pos 20))
unfolding read link_of start constant_of num_of converted binary_of operate arithmetic truth unary_of operate_unary common_of promoted wrapped
    value_of_bits bits_of
levels = (refl, refl, refl, refl, refl)

-- a part that isn't evaluated may have no value
evaluated :
    (number (codes "0 && 1 / 0") ≡ Some (pos 0)) ×
    (number (codes "1 || 1 / 0") ≡ Some (pos 1)) ×
    (number (codes "0 ? 1 / 0 : 7") ≡ Some (pos 7)) ×
    (number (codes "1 / 0") ≡ None) ×
    (number (codes "1 && 1 / 0") ≡ None) ×
    (number (codes "1 / 0 || 1") ≡ None)
unfolding read link_of start constant_of num_of converted binary_of operate arithmetic truth unary_of operate_unary common_of promoted wrapped
    value_of_bits bits_of
evaluated = (refl, refl, refl, refl, refl, refl)

-- all numbers have 64 bits, and one operand without a sign takes it from the other; what `long` has is signed without a `u`
typed :
    (number (codes "- 1 < 0u") ≡ Some (pos 0)) ×
    (number (codes "~ 0u > 0") ≡ Some (pos 1)) ×
    (number (codes "( 1 ? - 1 : 0u ) < 0") ≡ Some (pos 0)) ×
    (number (codes "- 1 < 0x80000000") ≡ Some (pos 1)) ×
    (number (codes "- 1 < 0x8000000000000000") ≡ Some (pos 0)) ×
    (number (codes "4294967295 + 1 == 4294967296") ≡ Some (pos 1))
unfolding read link_of start constant_of num_of converted binary_of operate arithmetic truth unary_of operate_unary common_of promoted wrapped
    value_of_bits bits_of
typed = (refl, refl, refl, refl, refl, refl)

-- a name is 0, and a character constant is signed
others :
    (number (codes "X || 1") ≡ Some (pos 1)) ×
    (number (codes "int") ≡ Some (pos 0)) ×
    (number (codes "'\\377' < 0") ≡ Some (pos 1))
unfolding read link_of start constant_of num_of converted binary_of operate arithmetic truth unary_of operate_unary common_of promoted wrapped
    value_of_bits bits_of
others = (refl, refl, refl)

-- what is no expression
refused :
    (number (codes "") ≡ None) ×
    (number (codes "( 1") ≡ None) ×
    (number (codes "1 )") ≡ None) ×
    (number (codes "1 2") ≡ None) ×
    (number (codes "1 +") ≡ None) ×
    (number (codes "1 ? 2") ≡ None) ×
    (number (codes "X = 1") ≡ None) ×
    (number (codes "1 , 2") ≡ None) ×
    (number (codes "1.0") ≡ None)
unfolding read link_of start constant_of num_of converted binary_of operate arithmetic truth unary_of operate_unary common_of promoted wrapped
    value_of_bits bits_of
refused = (refl, refl, refl, refl, refl, refl, refl, refl, refl)
