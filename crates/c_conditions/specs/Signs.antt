-- What tokens are in the expression of an `#if` line, where macros are expanded (C11 6.10.1).
use Rattle.std.specs.Prelude.{ℕ, List, [], ◌∷◌, Bool, true, false, ◌&&◌, bytes_eq, codes, Option, Some, None, unwrap_or, ℤ, pos}
use Rattle.std.specs.Map.{lookup}
use Rattle.lane_core.specs.declared.number.IntType.{IntType}
use Rattle.lane_core.specs.declared.number.IntType.TheVariants.{Long}
use Rattle.lane_core.specs.declared.number.BinOp.TheVariants.{Mul, Div, Rem, Add, Sub, Shl, Shr, Lt, Gt, Le, Ge, Eq, Ne, BitAnd, BitXor, BitOr}
use Rattle.lane_core.specs.declared.number.UnOp.TheVariants.{Plus, Neg, BitNot, Not}
use Rattle.c_text.specs.declared.tokens.TokenKind.{TokenKind}
use Rattle.c_text.specs.declared.tokens.TokenKind.TheVariants.{Name, Number, Quote, Str, Mark, Lone}
use Rattle.c_text.specs.declared.tokens.Token.{Token}
use Rattle.c_constants.specs.Constant.{constant_of}
use Rattle.c_conditions.specs.declared.signs.Infix.TheVariants.{OrElse, AndThen, Operator}
use Rattle.c_conditions.specs.declared.signs.Link.{Link}
use Rattle.c_conditions.specs.declared.signs.Link.TheVariants as links
use Rattle.c_conditions.specs.declared.signs.Start.{Start}
use Rattle.c_conditions.specs.declared.signs.Start.TheVariants as starts
use Rattle.c_conditions.specs.Worths.{known, type_of_constant}

abbrev pub is_mark_kind : TokenKind → Bool
is_mark_kind Mark = true
is_mark_kind _ = false

-- the token is this mark
abbrev pub is_mark : List ℕ → Token → Bool
is_mark text t = is_mark_kind t.kind && bytes_eq t.text text

-- the marks that go on behind an operand: the `?` of a choice, and the operators between operands with their levels, of which 1 binds the loosest
-- (6.5.5 to 6.5.15)
abbrev pub links_by_mark : List (List ℕ × Link)
links_by_mark =
    (codes "?", links.Question) ∷
    (codes "||", links.Infix 1 OrElse) ∷
    (codes "&&", links.Infix 2 AndThen) ∷
    (codes "|", links.Infix 3 (Operator BitOr)) ∷
    (codes "^", links.Infix 4 (Operator BitXor)) ∷
    (codes "&", links.Infix 5 (Operator BitAnd)) ∷
    (codes "==", links.Infix 6 (Operator Eq)) ∷ (codes "!=", links.Infix 6 (Operator Ne)) ∷
    (codes "<", links.Infix 7 (Operator Lt)) ∷ (codes ">", links.Infix 7 (Operator Gt)) ∷
    (codes "<=", links.Infix 7 (Operator Le)) ∷ (codes ">=", links.Infix 7 (Operator Ge)) ∷
    (codes "<<", links.Infix 8 (Operator Shl)) ∷ (codes ">>", links.Infix 8 (Operator Shr)) ∷
    (codes "+", links.Infix 9 (Operator Add)) ∷ (codes "-", links.Infix 9 (Operator Sub)) ∷
    (codes "*", links.Infix 10 (Operator Mul)) ∷ (codes "/", links.Infix 10 (Operator Div)) ∷ (codes "%", links.Infix 10 (Operator Rem)) ∷ []

abbrev pub link_of_mark : List ℕ → Link
link_of_mark text = unwrap_or (lookup (bytes_eq text) links_by_mark) links.Nothing

-- how a token of this kind and text goes on behind an operand
abbrev pub link_by : TokenKind → List ℕ → Link
link_by Mark text = link_of_mark text
link_by _ text = links.Nothing

-- how a token goes on behind an operand
unfoldable pub link_of : Token → Link
link_of t = link_by t.kind t.text

-- the marks that begin an operand: the operators before it (6.5.3.3), and a bracket (6.5.1p5)
abbrev pub starts_by_mark : List (List ℕ × Start)
starts_by_mark =
    (codes "+", starts.Prefix Plus) ∷ (codes "-", starts.Prefix Neg) ∷ (codes "~", starts.Prefix BitNot) ∷
    (codes "!", starts.Prefix Not) ∷ (codes "(", starts.Bracket) ∷ []

-- what a mark begins
abbrev pub mark_start : List ℕ → Start
mark_start text = unwrap_or (lookup (bytes_eq text) starts_by_mark) starts.Nothing

-- a number or a character constant is an operand where it has a value
abbrev pub constant_start : List ℕ → Option (IntType × ℤ) → Start
constant_start text None = starts.Nothing
constant_start text (Some c) = starts.Operand (known (type_of_constant text c.1) c.1)

-- what a token of this kind and text begins: a name is 0, a keyword too (6.10.1p4)
abbrev pub start_of : TokenKind → List ℕ → Start
start_of Name text = starts.Operand (known Long (pos 0))
start_of Number text = constant_start text (constant_of Number text)
start_of Quote text = constant_start [] (constant_of Quote text)
start_of Str text = starts.Nothing
start_of Mark text = mark_start text
start_of Lone text = starts.Nothing

-- what a token begins where an operand must stand
unfoldable pub start : Token → Start
start t = start_of t.kind t.text
