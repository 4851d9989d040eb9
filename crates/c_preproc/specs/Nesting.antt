-- Nesting and weight of a text, measured on its tokens.
use Rattle.std.specs.Prelude.{ℕ, ◌+◌, ◌-◌, List, [], ◌∷◌, length, filter, sum_by, codes, nat_lt, ◌&&◌, ◌||◌, not, Bool, true, false, if◌then◌else◌}
use Rattle.std.specs.List.{list_any}
use Rattle.c_text.specs.declared.tokens.Dialect.{Dialect}
use Rattle.c_text.specs.declared.tokens.Dialect.TheVariants.{X86, Neon}
use Rattle.c_text.specs.declared.tokens.Token.{Token}
use Rattle.c_preproc.specs.declared.roles.Role.{Role}
use Rattle.c_preproc.specs.declared.roles.Role.TheVariants.{OpensBracket, OpensBrace, ClosesBracket, ClosesBrace, Semicolon, Comma, Colon, Question, Do, While, Else, IfOrFor, Adds}
use Rattle.c_preproc.specs.declared.counts.Addition.{Addition}
use Rattle.c_preproc.specs.declared.counts.Addition.TheVariants.{Word, DoWord, Waiting, Other}
use Rattle.c_preproc.specs.declared.limits.Limits.{Limits}
use Rattle.c_preproc.specs.Role.{role_of, is_mark, is_name}

-- Contexts: the file is one, and each open bracket.

-- one of the words `if else for while do`
abbrev pub is_word : Addition → Bool
is_word Word = true
is_word DoWord = true
is_word Waiting = false
is_word Other = false

abbrev pub is_do : Addition → Bool
is_do Word = false
is_do DoWord = true
is_do Waiting = false
is_do Other = false

-- a `?` that waits for its `:`
abbrev pub is_waiting : Addition → Bool
is_waiting Word = false
is_waiting DoWord = false
is_waiting Waiting = true
is_waiting Other = false

-- a context with what has added one to its run since that was last 0, the latest first: the run is the length of this list
pub record Context : Type 0 where
  -- its bracket is a brace whose end ends a statement
  pub block : Bool
  pub additions : List Addition

abbrev pub run_of : Context → ℕ
run_of c = length c.additions

-- Rules: what each token does to the contexts that are open, the last opened first. That one is the current context.

-- one more in the run
abbrev pub added : Addition → Context → Context
added a c = record { block = c.block; additions = a ∷ c.additions }

-- the statement goes on behind its end: with `else`, or with the `while` of a `do`
abbrev pub goes_on : Role → List Addition → Bool
goes_on Else additions = true
goes_on While additions = list_any is_do additions
goes_on _ additions = false

-- the end of a statement sets the run to 0, unless the statement goes on
abbrev pub statement_ended : Role → Context → Context
statement_ended next c = if goes_on next c.additions then c else record { block = c.block; additions = [] }

-- a `,` lowers the run to its words, unless a `?` waits
abbrev pub comma_passed : Context → Context
comma_passed c = if list_any is_waiting c.additions then c else record { block = c.block; additions = filter is_word c.additions }

-- the last `?` that waits has found its `:`. One from before the run was last 0 may wait too; it is never the last while
-- another one waits, and no rule asks for it.
abbrev pub answered : List Addition → List Addition
answered [] = []
answered (Waiting ∷ before) = Other ∷ before
answered (a ∷ before) = a ∷ answered before

abbrev pub colon_passed : Context → Context
colon_passed c = record { block = c.block; additions = answered c.additions }

-- the current context behind a token that is no bracket, by its role and that of the next token
abbrev pub passed : Role → Role → Context → Context
passed Semicolon next c = statement_ended next c
passed Comma next c = comma_passed c
passed Colon next c = colon_passed c
passed Question next c = added Waiting c
passed Do next c = added DoWord c
passed While next c = added Word c
passed Else next c = added Word c
passed IfOrFor next c = added Word c
passed Adds next c = added Other c
passed _ next c = c

abbrev pub on_current : (Context → Context) → List Context → List Context
on_current f [] = []
on_current f (c ∷ cs) = f c ∷ cs

abbrev pub opened : Bool → List Context → List Context
opened block cs = record { block = block; additions = [] } ∷ cs

-- the last context ends, if a bracket is open
abbrev pub closed : List Context → List Context
closed [] = []
closed (c ∷ []) = c ∷ []
closed (c ∷ o ∷ cs) = o ∷ cs

-- the last context is a brace whose end ends a statement
abbrev pub is_block : List Context → Bool
is_block [] = false
is_block (c ∷ cs) = c.block

-- the contexts behind a token: by its role, whether a brace that it opens is a block, and the role of the next token
abbrev pub counted : Role → Bool → Role → List Context → List Context
counted OpensBracket block next cs = opened false (on_current (added Other) cs)
counted OpensBrace block next cs = opened block cs
counted ClosesBracket block next cs = closed cs
counted ClosesBrace block next cs = if is_block cs then on_current (statement_ended next) (closed cs) else closed cs
counted role block next cs = on_current (passed role next) cs

-- Prefixes of the text. They stand with their latest token first.

abbrev pub ends_with_equals : List Token → Bool
ends_with_equals [] = false
ends_with_equals (t ∷ ts) = is_mark (codes "=") t

-- the last three tokens are `(uint8x16x2_t)`
abbrev pub ends_with_pair : List Token → Bool
ends_with_pair (c ∷ b ∷ a ∷ ts) = is_mark (codes "(") a && is_name (codes "uint8x16x2_t") b && is_mark (codes ")") c
ends_with_pair _ = false

-- a `{` behind these tokens opens a block, and no list of an initializer
abbrev pub opens_block : List Token → Bool
opens_block before = not (ends_with_equals before || ends_with_pair before)

abbrev pub file : List Context
file = record { block = false; additions = [] } ∷ []

-- the contexts that are open behind these tokens, where the next token has this role
unfoldable pub contexts_behind : List Token → Role → List Context
contexts_behind [] next = file
contexts_behind (t ∷ before) next = counted (role_of t) (opens_block before) next (contexts_behind before (role_of t))

-- Limits.

abbrev pub limits_of : Dialect → Limits
limits_of X86 = record { brackets = 64; weight = 255 }
limits_of Neon = record { brackets = 256; weight = 1023 }

-- how many brackets are open: each has a context, and the file has one
abbrev pub open_brackets : List Context → ℕ
open_brackets cs = length cs - 1

-- the open brackets and the runs of all contexts
abbrev pub weight_of : List Context → ℕ
weight_of cs = open_brackets cs + sum_by run_of cs

abbrev pub is_too_deep : Limits → List Context → Bool
is_too_deep limits cs = nat_lt limits.brackets (open_brackets cs) || nat_lt limits.weight (weight_of cs)
