-- What is still to be read around the expression that is being read, as the code keeps it.
use Rattle.std.specs.Prelude.{◌≡◌, ◌<◌, length, ℕ, zero, suc, ◌+◌, ◌-◌, ◌*◌, List, [], ◌∷◌, codes, Option, Some, None}
use Rattle.lane_core.specs.declared.number.Num.{Num}
use Rattle.c_text.specs.declared.tokens.Token.{Token}
use Rattle.c_conditions.specs.declared.worths.Worth.{Worth}
use Rattle.c_conditions.specs.declared.reading.Pending.{Pending}
use Rattle.c_conditions.specs.declared.reading.Pending.TheVariants as pending
use Rattle.c_conditions.specs.declared.reading.Step.{Step}
use Rattle.c_conditions.specs.declared.reading.Step.TheVariants as steps
use Rattle.c_conditions.specs.Worths.{joined, operated_before, chosen}
use Rattle.c_conditions.specs.Value.{Level, More, Read, and_read, behind_mark, read, whole}

-- what goes on behind an operand at so many levels from this one on, the tightest level first
abbrev pub levels : ℕ → ℕ → Worth → List Token → Read
levels zero k v ts = Some (v, ts)
levels (suc d) k v ts = and_read (levels d (k + 1) v ts) (λ w rest. read (More k w) rest)

-- what is read of an expression of this level, whose first unary expression was read
abbrev pub behind_operand : ℕ → Worth → List Token → Read
behind_operand k v ts = levels (11 - k) k v ts

-- what is read of an expression of a level, of which nothing was read, or its first unary expression
abbrev pub left : ℕ → Option Worth → List Token → Read
left k None ts = read (Level k) ts
left k (Some v) ts = behind_operand k v ts

-- what is read behind the `:` of a choice
abbrev pub last : Worth → Worth → List Token → Read
last c a ts = and_read (read (Level 0) ts) (λ b rest. behind_operand 0 (chosen c a b) rest)

-- what is read around a part, where this is read of the part
abbrev pub around : Pending → Read → Read
around (pending.Joint outside op a) r = and_read r (λ b rest. behind_operand outside (joined op a b) rest)
around (pending.Prefix outside op) r = and_read r (λ v rest. behind_operand outside (operated_before op v) rest)
around (pending.Bracket outside) r = and_read r (λ v rest. behind_mark (codes ")") rest (λ after. behind_operand outside v after))
around (pending.Condition c) r = and_read r (λ a rest. behind_mark (codes ":") rest (λ after. last c a after))
around (pending.Choice c a) r = and_read r (λ b rest. behind_operand 0 (chosen c a b) rest)

-- what is read of all, where this is read of the innermost part: the outermost stands first
abbrev pub resumed : List Pending → Read → Read
resumed [] r = r
resumed (p ∷ ps) r = around p (resumed ps r)

-- the value is what is answered, or what is read of all with what is left
abbrev pub Goes : Option Num → Step → List Pending → Type 0
Goes o (steps.Done n) stack = o ≡ n
Goes o (steps.Next s) stack = o ≡ whole (resumed stack (left s.level s.operand s.tokens.now))

-- fewer tokens and parts are left, of which a token counts for two
abbrev pub IsShorter : ℕ → Step → List Pending → Type 0
IsShorter size (steps.Done n) stack = Unit {0}
IsShorter size (steps.Next s) stack = 2 * length s.tokens.now + length stack < size
