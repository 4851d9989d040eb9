-- The value of the expression of an `#if` or `#elif` line, whose `defined`s are replaced and whose macros are expanded (C11 6.10.1). It is a constant
-- expression without assignments, commas, steps, calls and casts (6.6p3), so these productions of 6.5 are left: a primary expression, a unary expression, the
-- ten levels of operators between operands, and the conditional expression.
use Rattle.std.specs.Prelude.{ℕ, zero, suc, ◌+◌, ◌*◌, ◌==◌, nat_lt, List, [], ◌∷◌, length, Bool, true, false, not, if◌then◌else◌, codes, Option, Some, None}
use Rattle.std.specs.Prelude.{option_map, option_and_then}
use Rattle.lane_core.specs.declared.number.Num.{Num}
use Rattle.c_text.specs.declared.tokens.Token.{Token}
use Rattle.c_conditions.specs.declared.worths.Worth.{Worth}
use Rattle.c_conditions.specs.declared.signs.Infix.{Infix}
use Rattle.c_conditions.specs.declared.signs.Link.{Link}
use Rattle.c_conditions.specs.declared.signs.Link.TheVariants as links
use Rattle.c_conditions.specs.declared.signs.Start.{Start}
use Rattle.c_conditions.specs.declared.signs.Start.TheVariants as starts
use Rattle.c_conditions.specs.Worths.{joined, operated_before, chosen, is_zero}
use Rattle.c_conditions.specs.Signs.{is_mark, link_of, start}

-- What is to be read: an expression of a level, or what goes on at a level behind an operand, whose worth is told. Level 0 is a conditional expression
-- (6.5.15), levels 1 to 10 are those of the operators between operands, from `||` (6.5.14) to `*`, `/` and `%` (6.5.5), and 11 is a unary expression (6.5.3).
pub data Goal : Type 0 where
  Level : ℕ → Goal
  More : ℕ → Worth → Goal

-- what the tokens that were read are worth, and the tokens behind them; none where no such expression begins the tokens
abbrev pub Read : Type 0
Read = Option (Worth × List Token)

abbrev pub and_read : Read → (Worth → List Token → Read) → Read
and_read None f = None
and_read (Some (v, ts)) f = f v ts

-- the tokens behind this mark, if it comes next
abbrev pub after_mark : List ℕ → List Token → Option (List Token)
after_mark text [] = None
after_mark text (t ∷ ts) = if is_mark text t then Some ts else None

-- this mark must come next, and then what is read behind it
abbrev pub behind_mark : List ℕ → List Token → (List Token → Read) → Read
behind_mark text ts f = option_and_then f (after_mark text ts)

-- what reads a goal at the start of tokens
abbrev pub Reader : Type 0
Reader = Goal → List Token → Read

-- a unary expression, by what its first token begins: an operator and its operand, an expression in brackets, or an operand
abbrev pub begun : Start → List Token → Reader → Read
begun (starts.Prefix op) ts go = and_read (go (Level 11) ts) (λ v rest. Some (operated_before op v, rest))
begun starts.Bracket ts go = and_read (go (Level 0) ts) (λ v rest. behind_mark (codes ")") rest (λ after. Some (v, after)))
begun (starts.Operand v) ts go = Some (v, ts)
begun starts.Nothing ts go = None

abbrev pub unary : List Token → Reader → Read
unary [] go = None
unary (t ∷ ts) go = begun (start t) ts go

-- what goes on behind a condition, where its `?` is told to count: an expression, `:` and a conditional expression (6.5.15)
abbrev pub choice : Bool → Worth → Token → List Token → Reader → Read
choice false c t ts go = Some (c, t ∷ ts)
choice true c t ts go =
    and_read (go (Level 0) ts) (λ a rest. behind_mark (codes ":") rest (λ after. and_read (go (Level 0) after) (λ b end. Some (chosen c a b, end))))

-- what goes on at a level behind an operand, where the operator that follows is told to be of this level: an operand of the next level, and what goes on behind
-- both, since operators of a level group from the left (6.5.5 to 6.5.14)
abbrev pub joint : Bool → ℕ → Infix → Worth → Token → List Token → Reader → Read
joint false k op a t ts go = Some (a, t ∷ ts)
joint true k op a t ts go = and_read (go (Level (k + 1)) ts) (λ b rest. go (More k (joined op a b)) rest)

-- what goes on at a level behind an operand, by how its first token goes on
abbrev pub linked : ℕ → Worth → Link → Token → List Token → Reader → Read
linked k v links.Nothing t ts go = Some (v, t ∷ ts)
linked k v links.Question t ts go = choice (k == 0) v t ts go
linked k v (links.Infix l op) t ts go = joint (l == k) k op v t ts go

abbrev pub more : ℕ → Worth → List Token → Reader → Read
more k v [] go = Some (v, [])
more k v (t ∷ ts) go = linked k v (link_of t) t ts go

-- an expression of a level, which is told to be one of operators or not: one of the next level, and what goes on behind it; or a unary expression
abbrev pub level : Bool → ℕ → List Token → Reader → Read
level true k ts go = and_read (go (Level (k + 1)) ts) (λ v rest. go (More k v) rest)
level false k ts go = unary ts go

abbrev pub read_step : Reader → Goal → List Token → Read
read_step go (Level k) ts = level (nat_lt k 11) k ts go
read_step go (More k v) ts = more k v ts go

-- a goal that takes at most this many steps within one another
abbrev pub read_in : ℕ → Reader
read_in zero g ts = None
read_in (suc n) g ts = read_step (λ h us. read_in n h us) g ts

-- A goal at the start of tokens. Each token takes one step at most for each of the 12 levels, so 12 for each token and 12 more are always enough, and
-- `read g ts` is `read_step read g ts` (`read-step` of proofs/Fuel).
unfoldable pub read : Reader
read g ts = read_in (12 * (length ts + 1)) g ts

-- the value of what was read, where no token is left
abbrev pub whole : Read → Option Num
whole None = None
whole (Some (v, [])) = v.value
whole (Some (v, (t ∷ ts))) = None

-- the value of the expression that the tokens are; none where they are no expression, or where C leaves its value undefined
abbrev pub value : List Token → Option Num
value ts = whole (read (Level 0) ts)

-- whether it isn't 0 (6.10.1p6)
abbrev pub holds : List Token → Option Bool
holds ts = option_map (λ n. not (is_zero n)) (value ts)
