-- Why sources are refused.
use Rattle.std.proofs.Common.{◌≡◌, ℕ, List, None, Result, Ok, Err, IfOk, IfErr, sym, ◌∙◌, ap, subst}
use Rattle.c_text.specs.declared.tokens.Dialect.{Dialect}
use Rattle.c_text.specs.declared.tokens.Token.{Token}
use Rattle.c_text.specs.declared.refusals.Fail.{Fail}
use Rattle.c_text.specs.declared.refusals.Fail.TheVariants as fails
use Rattle.c_text.specs.Tokens.{Tokens}
use Rattle.c_directives.specs.Directives.{expansion}
use Rattle.c_preproc.specs.Scan.{first_refusal}
use Rattle.c_text.specs.Details.{IfRefused}
use Rattle.c_parse.specs.Limits.{Refused}
use Rattle.c_tree.specs.Tree.{External}
use Rattle.c_tree.specs.View.{view_unit}
use Rattle.vector_types.specs.declared.typed_unit.TypedUnit.{TypedUnit}
use Rattle.vector_types.specs.declared.units.CheckFail.{CheckFail}
use Rattle.vector_types.specs.declared.units.CheckFail.TheVariants as many
use Rattle.vector_types.specs.Answers as lists
use Rattle.vector_types.specs.Units.{check_unit}
use Rattle.simd_top.specs.Seen.{IsAlone}
use Rattle.simd_top.specs.Source.{HasTokens, AreRefused, Parsed, IsParsed, IsUnparsed, Expanded, Behind, HasUnit, AreFirst, Alone, Checked}

pub parse_refused : {A : Type 0} (x : Dialect) (res : Result A Fail) (left : List Token) → first_refusal x left ≡ None → IfErr res (λ e. IfRefused e (Refused x left)) →
    IfErr res (λ e. IfRefused e (AreRefused x left))
parse_refused x (Ok a) left scanned h = tt
parse_refused x (Err fails.Memory) left scanned h = tt
parse_refused x (Err (fails.Refused r)) left scanned h = Parsed scanned h

pub expansion_refused : {A : Type 0} (x : Dialect) (res : Result A Fail) (source : List ℕ) (ts seen : List Token) → Tokens source ts → seen ≡ ts →
    IfErr res (λ e. IfRefused e (λ r. expansion x seen ≡ Err r)) → IfErr res (λ e. IfRefused e (IsUnparsed x source))
expansion_refused x (Ok a) source ts seen found same h = tt
expansion_refused x (Err fails.Memory) source ts seen found same h = tt
expansion_refused x (Err (fails.Refused r)) source ts seen found same h = Expanded ts found (ap (expansion x) (sym same) ∙ h)

pub behind_refused : {A : Type 0} (x : Dialect) (res : Result A Fail) (source : List ℕ) (left seen : List Token) → HasTokens x source left → seen ≡ left →
    IfErr res (λ e. IfRefused e (AreRefused x seen)) → IfErr res (λ e. IfRefused e (IsUnparsed x source))
behind_refused x (Ok a) source left seen has same h = tt
behind_refused x (Err fails.Memory) source left seen has same h = tt
behind_refused x (Err (fails.Refused r)) source left seen has same h = Behind left has (subst (λ y. AreRefused x y r) same h)

pub typed : (x : Dialect) (res : Result TypedUnit CheckFail) (source : List ℕ) (u : List External) → IsParsed x source u → IfOk res (λ v. check_unit x u ≡ Ok (view_unit v.unit)) →
    IfOk res (λ v. HasUnit x source (view_unit v.unit))
typed x (Ok v) source u is h = record { unit = u; parsed = is; checked = h }
typed x (Err e) source u is h = tt

pub untyped : (x : Dialect) (res : Result TypedUnit CheckFail) (source : List ℕ) (u : List External) → IsParsed x source u →
    IfErr res (λ e. lists.IfRefused e (λ list. check_unit x u ≡ Err list)) → IfErr res (λ e. lists.IfRefused e (AreFirst x source))
untyped x (Ok v) source u is h = tt
untyped x (Err many.Memory) source u is h = tt
untyped x (Err (many.Refused list)) source u is h = Checked u is h

pub alone : (x : Dialect) (source : List ℕ) (fail : Fail) (e : CheckFail) → IfRefused fail (IsUnparsed x source) → IsAlone fail e → lists.IfRefused e (AreFirst x source)
alone x source (fails.Refused r) (many.Refused list) h is = Alone r h is
alone x source (fails.Refused r) many.Memory h is = tt
alone x source fails.Memory (many.Refused list) h is = absurd is
alone x source fails.Memory many.Memory h is = tt
