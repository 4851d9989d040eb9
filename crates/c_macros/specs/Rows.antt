-- Small lists of tokens, with what they expand to.
use Rattle.std.specs.Prelude.{◌≡◌, refl, ℕ, zero, suc, List, [], ◌∷◌, Bool, true, false, if◌then◌else◌, bytes_eq, Some, None, Ok, Err, codes}
use Rattle.c_text.specs.declared.tokens.TokenKind.{TokenKind}
use Rattle.c_text.specs.declared.tokens.TokenKind.TheVariants.{Name, Number, Mark}
use Rattle.c_text.specs.declared.tokens.Token.{Token}
use Rattle.c_macros.specs.declared.macros.Piece.{Piece}
use Rattle.c_macros.specs.Definition.{Definition, Macros}
use Rattle.c_macros.specs.Arguments.{sight}
use Rattle.c_text.specs.Details.{refusal_of}
use Rattle.c_macros.specs.Expansion.{Made, expand_in, bodies_in}

abbrev token : TokenKind → ℕ → List ℕ → Token
token kind col text = record { kind = kind; text = text; place = record { line = 3; col = col }; spaced = true; first = false }

abbrev name : ℕ → List ℕ → Token
name = token Name

abbrev mark : ℕ → List ℕ → Token
mark = token Mark

abbrev fixed : Token → Piece
fixed t = record { token = t; parameter = None }

abbrev parameter : ℕ → Token → Piece
parameter n t = record { token = t; parameter = Some n }

-- `#define P(x, y) x + y`, `#define Q P(1,` and `#define A A`
abbrev macro_p : Definition
macro_p = record {
  function_like = true;
  parameters = codes "x" ∷ codes "y" ∷ [];
  body = parameter 0 (name 17 (codes "x")) ∷ fixed (mark 19 (codes "+")) ∷ parameter 1 (name 21 (codes "y")) ∷ [];
  used = true ∷ true ∷ [];
}

abbrev macro_q : Definition
macro_q = record {
  function_like = false;
  parameters = [];
  body = fixed (name 11 (codes "P")) ∷ fixed (mark 12 (codes "(")) ∷ fixed (token Number 13 (codes "1")) ∷ fixed (mark 14 (codes ",")) ∷ [];
  used = [];
}

abbrev macro_a : Definition
macro_a = record { function_like = false; parameters = []; body = fixed (name 11 (codes "A")) ∷ []; used = [] }

abbrev macros : Macros
macros x =
    if bytes_eq x (codes "P") then Some macro_p else if bytes_eq x (codes "Q") then Some macro_q else if bytes_eq x (codes "A") then Some macro_a else None

-- `Q 2)`: the name `P` comes from the body of `Q` and has the place of its use
unclosed : expand_in 100 macros 64 [] None (name 22 (codes "Q") ∷ token Number 24 (codes "2") ∷ mark 25 (codes ")") ∷ []) 0 ≡ Err (refusal_of 7 (name 22 (codes "P")))
unfolding sight expand_in bodies_in
unclosed = refl

-- `P((1, 2), P(3, 4))`
nested : expand_in 100 macros 64 [] None
    (name 1 (codes "P") ∷ mark 2 (codes "(") ∷ mark 3 (codes "(") ∷ token Number 4 (codes "1") ∷ mark 5 (codes ",") ∷ token Number 6 (codes "2") ∷ mark 7 (codes ")") ∷
    mark 8 (codes ",") ∷ name 9 (codes "P") ∷ mark 10 (codes "(") ∷ token Number 11 (codes "3") ∷ mark 12 (codes ",") ∷ token Number 13 (codes "4") ∷ mark 14 (codes ")") ∷
    mark 15 (codes ")") ∷ []) 0 ≡
    Ok (
      mark 3 (codes "(") ∷ token Number 4 (codes "1") ∷ mark 5 (codes ",") ∷ token Number 6 (codes "2") ∷ mark 7 (codes ")") ∷ mark 1 (codes "+") ∷
          token Number 11 (codes "3") ∷ mark 9 (codes "+") ∷ token Number 13 (codes "4") ∷ [],
      14,
    )
unfolding sight expand_in bodies_in
nested = refl

-- a name in its own body
itself : expand_in 100 macros 64 [] None (name 5 (codes "A") ∷ []) 0 ≡ Err (refusal_of 7 (name 5 (codes "A")))
unfolding sight expand_in bodies_in
itself = refl

-- `#define Ak Aj Aj` and `#define A0 ;`, the number as a byte of the name: expanding `A3` is 37 of work, as that of `A19` is 2,621,437
abbrev doubled : ℕ → Definition
doubled zero = record { function_like = false; parameters = []; body = fixed (mark 9 (codes ";")) ∷ []; used = [] }
doubled (suc k) = record { function_like = false; parameters = []; body = fixed (name 9 (65 ∷ k ∷ [])) ∷ fixed (name 12 (65 ∷ k ∷ [])) ∷ []; used = [] }

abbrev doubling : Macros
doubling (a ∷ k ∷ []) = Some (doubled k)
doubling _ = None

abbrev is_made : {X : Type 0} → Made X → Bool
is_made (Ok x) = true
is_made (Err r) = false

enough_work : is_made (expand_in 37 doubling 64 [] None (name 1 (65 ∷ 3 ∷ []) ∷ []) 0) ≡ true
unfolding sight expand_in bodies_in
enough_work = refl

too_much_work : expand_in 36 doubling 64 [] None (name 1 (65 ∷ 3 ∷ []) ∷ []) 0 ≡ Err (refusal_of 20 (name 1 (65 ∷ 3 ∷ [])))
unfolding sight expand_in bodies_in
too_much_work = refl

-- `P(A3, 1)`, where the work of the argument is too much: the use that no other use surrounds is named
abbrev both : Macros
both x = if bytes_eq x (codes "P") then Some macro_p else doubling x

argument_named : expand_in 30 both 64 [] None
    (name 1 (codes "P") ∷ mark 2 (codes "(") ∷ name 3 (65 ∷ 3 ∷ []) ∷ mark 5 (codes ",") ∷ token Number 6 (codes "1") ∷ mark 7 (codes ")") ∷ []) 0 ≡ Err (refusal_of 20 (name 1 (codes "P")))
unfolding sight expand_in bodies_in
argument_named = refl

-- `#define Bk Bj` and `#define B0 ;`: a chain of 64 bodies from `B63`, and one of 65 from `B64`
abbrev chained : ℕ → Definition
chained zero = record { function_like = false; parameters = []; body = fixed (mark 9 (codes ";")) ∷ []; used = [] }
chained (suc k) = record { function_like = false; parameters = []; body = fixed (name 9 (66 ∷ k ∷ [])) ∷ []; used = [] }

abbrev chain : Macros
chain (a ∷ k ∷ []) = Some (chained k)
chain _ = None

chain_of_64 : expand_in 1000 chain 64 [] None (name 1 (66 ∷ 63 ∷ []) ∷ []) 0 ≡ Ok (mark 1 (codes ";") ∷ [], 128)
unfolding sight expand_in bodies_in
chain_of_64 = refl

chain_of_65 : expand_in 1000 chain 64 [] None (name 1 (66 ∷ 64 ∷ []) ∷ []) 0 ≡ Err (refusal_of 19 (name 1 (66 ∷ 64 ∷ [])))
unfolding sight expand_in bodies_in
chain_of_65 = refl
