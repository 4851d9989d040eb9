-- Which sources are units with types, and why others are refused.
use Rattle.std.specs.Prelude.{◌≡◌, ℕ, List, [], ◌∷◌, Ok, Err, Some, None}
use Rattle.c_text.specs.declared.tokens.Dialect.{Dialect}
use Rattle.c_text.specs.declared.tokens.Dialect.TheVariants.{X86, Neon}
use Rattle.c_text.specs.declared.tokens.Token.{Token}
use Rattle.c_text.specs.declared.refusals.Refusal.{Refusal}
use Rattle.c_text.specs.Tokens.{Tokens, FirstFault}
use Rattle.c_directives.specs.Directives.{expansion}
use Rattle.c_preproc.specs.Scan.{first_refusal}
use Rattle.c_parse.specs.Items.{IsUnit}
use Rattle.c_parse.specs.Limits.{first_past, Refused}
use Rattle.c_tree.specs.Tree.{External}
use Rattle.vector_types.specs.Units.{check_unit}

-- the greatest number of bytes that a source of the dialect may have
abbrev pub source_limit : Dialect → ℕ
source_limit X86 = 1048576
source_limit Neon = 16777216

-- the source has tokens, of which directives and macros leave these (C11 6.10)
pub record HasTokens (dialect : Dialect) (source : List ℕ) (left : List Token) : Type 0 where
  pub tokens : List Token
  pub lexed : Tokens source tokens
  pub expanded : expansion dialect tokens ≡ Ok left

-- Expanded tokens are tokens of C within the profile, and are this unit, which is within the limits.
pub record AreUnit (dialect : Dialect) (left : List Token) (unit : List External) : Type 0 where
  pub scanned : first_refusal dialect left ≡ None
  pub is_unit : IsUnit dialect left unit
  pub within : first_past 0 unit ≡ None

-- The refusal of expanded tokens: of the first of these phases that fails. A token is refused by the scan; they are no unit within the limits.
pub data AreRefused (dialect : Dialect) (left : List Token) (r : Refusal) : Type 0 where
  Scanned : first_refusal dialect left ≡ Some r → AreRefused dialect left r
  Parsed : first_refusal dialect left ≡ None → Refused dialect left r → AreRefused dialect left r

-- the source has tokens that are this unit
pub record IsParsed (dialect : Dialect) (source : List ℕ) (unit : List External) : Type 0 where
  pub left : List Token
  pub has : HasTokens dialect source left
  pub are_unit : AreUnit dialect left unit

-- the refusal of a source that is no unit: its first fault, that of its directives and macros, or that of the tokens that they leave
pub data IsUnparsed (dialect : Dialect) (source : List ℕ) (r : Refusal) : Type 0 where
  Lexed : FirstFault source r → IsUnparsed dialect source r
  Expanded : (tokens : List Token) → Tokens source tokens → expansion dialect tokens ≡ Err r → IsUnparsed dialect source r
  Behind : (left : List Token) → HasTokens dialect source left → AreRefused dialect left r → IsUnparsed dialect source r

-- the source is a unit that has types, and with them it is this one
pub record HasUnit (dialect : Dialect) (source : List ℕ) (typed : List External) : Type 0 where
  pub unit : List External
  pub parsed : IsParsed dialect source unit
  pub checked : check_unit dialect unit ≡ Ok typed

-- The refusals of a source: the one for which it is no unit, or one for each item of the unit that has no types.
pub data AreFirst (dialect : Dialect) (source : List ℕ) (list : List Refusal) : Type 0 where
  Alone : (r : Refusal) → IsUnparsed dialect source r → list ≡ r ∷ [] → AreFirst dialect source list
  Checked : (unit : List External) → IsParsed dialect source unit → check_unit dialect unit ≡ Err list → AreFirst dialect source list
