-- An admitted source isn't refused.
use Rattle.std.proofs.Common.{◌≡◌, ℕ, List, [], Option, Some, None, Result, Ok, Err, ◌∙◌, ap, subst, arith, inl, inr}
use Rattle.c_text.specs.declared.tokens.Dialect.{Dialect}
use Rattle.c_text.specs.declared.tokens.Token.{Token}
use Rattle.c_text.specs.declared.refusals.Refusal.{Refusal as CodeRefusal}
use Rattle.c_text.specs.Tokens.{Tokens, FirstFault, first_of}
use Rattle.c_text.proofs.Cuts.{one_token_list, tokens_read, fault_read}
use Rattle.c_directives.specs.Directives.{expansion}
use Rattle.c_preproc.specs.Scan.{first_refusal}
use Rattle.c_parse.specs.Limits.{first_past}
use Rattle.c_parse.proofs.ItemsRead.{one_unit}
use Rattle.c_tree.specs.Tree.{External}
use Rattle.migrate_report.specs.Fits.{Fitting, NoFunction, DontFit, Fit, fitting}
use Rattle.vector_types.specs.Units.{check_unit}
use Rattle.simd_top.specs.Form.{first_outside}
use Rattle.simd_top.specs.Source.{HasTokens, AreUnit, AreRefused, Scanned, Parsed, IsParsed, IsUnparsed, Lexed, Expanded, Behind, HasUnit, AreFirst, Alone, Checked}
use Rattle.simd_top.specs.Refusals.{IsRefusedUnit, Outside, Nameless, Unfit, OutsideBoth, NamelessBoth, UnfitBoth, IsRefused, TooLong, First, Beyond, Serves, IsAdmitted}
use Rattle.simd_top.specs.TopCall.{Admits, Refuses, IsServed}
use Rattle.simd_top.specs.Words.{Command, Migrate, Run, Both, dialect_of, asked}

apart : {A : Type 0} (o : Option A) (x : A) → o ≡ None → o ≡ Some x → ⊥
apart o x e h = cc

no_fault : (source : List ℕ) (ts : List Token) (r : CodeRefusal) → Tokens source ts → FirstFault source r → ⊥
no_fault source ts r t f =
    let clean = (tokens_read source ts t).0 in
    let some = fault_read source r f in
    let nothing : first_of [] ≡ Some r = rw clean at some in cc

no_refusal : (x : Dialect) (left : List Token) (u : List External) (r : CodeRefusal) → AreUnit x left u → AreRefused x left r → ⊥
no_refusal x left u r is (Scanned s) = apart (first_refusal x left) r is.scanned s
no_refusal x left u r is (Parsed s (inl none)) = none.none u is.is_unit
no_refusal x left u r is (Parsed s (inr many)) =
    apart (first_past 0 u) many.function is.within (ap (first_past 0) (one_unit x left u many.unit is.is_unit many.is) ∙ many.first)

same_value : {A E : Type 0} (r : Result A E) (a b : A) → r ≡ Ok a → r ≡ Ok b → a ≡ b
same_value r a b h k = cc

no_value : {A E : Type 0} (r : Result A E) (a : A) (e : E) → r ≡ Ok a → r ≡ Err e → ⊥
no_value r a e h k = cc

-- the tokens that are left are determined
expands : (x : Dialect) (source : List ℕ) (ts left : List Token) → HasTokens x source left → Tokens source ts → expansion x ts ≡ Ok left
expands x source ts left has t = ap (expansion x) (one_token_list source ts has.tokens t has.lexed) ∙ has.expanded

one_expansion : (x : Dialect) (source : List ℕ) (left other : List Token) → HasTokens x source left → HasTokens x source other → other ≡ left
one_expansion x source left other has also = same_value (expansion x has.tokens) other left (expands x source has.tokens other also has.lexed) has.expanded

unparsed : (x : Dialect) (source : List ℕ) (u : List External) (r : CodeRefusal) → IsParsed x source u → IsUnparsed x source r → ⊥
unparsed x source u r is (Lexed f) = no_fault source is.has.tokens r is.has.lexed f
unparsed x source u r is (Expanded ts t e) = no_value (expansion x ts) is.left r (expands x source ts is.left is.has t) e
unparsed x source u r is (Behind left has refused) = no_refusal x is.left u r is.are_unit (subst (λ y. AreRefused x y r) (one_expansion x source is.left left is.has has) refused)

one_parse : (x : Dialect) (source : List ℕ) (u v : List External) → IsParsed x source u → IsParsed x source v → u ≡ v
one_parse x source u v a b =
    let other : AreUnit x a.left v = subst (λ ts. AreUnit x ts v) (one_expansion x source a.left b.left a.has b.has) b.are_unit in
    one_unit x a.left u v a.are_unit.is_unit other.is_unit

one_typed : (x : Dialect) (source : List ℕ) (t w : List External) → HasUnit x source t → HasUnit x source w → t ≡ w
one_typed x source t w a b =
    same_value (check_unit x a.unit) t w a.checked (ap (check_unit x) (one_parse x source a.unit b.unit a.parsed b.parsed) ∙ b.checked)

has_types : (x : Dialect) (source : List ℕ) (t : List External) (list : List CodeRefusal) → HasUnit x source t → AreFirst x source list → ⊥
has_types x source t list has (Alone r is e) = unparsed x source has.unit r has.parsed is
has_types x source t list has (Checked u is e) = no_value (check_unit x has.unit) t list has.checked (ap (check_unit x) (one_parse x source has.unit u has.parsed is) ∙ e)

no_function : (f : Fitting) (args : _) (memory : _) → f ≡ Fit args memory → f ≡ NoFunction → ⊥
no_function f args memory h k = cc

no_fit : (f : Fitting) (args : _) (memory : _) → f ≡ Fit args memory → f ≡ DontFit → ⊥
no_fit f args memory h k = cc

serves_stays : (c : Command) (t : List External) (r : CodeRefusal) → Serves c t → IsRefusedUnit c t r → ⊥
serves_stays Migrate t r serves (Outside u q h) = apart (first_outside [] t) r serves h
serves_stays (Run x name turns items) t r (args, memory, fits) (Nameless n k is u e) = no_function (fitting t name items) args memory fits e
serves_stays (Run x name turns items) t r (args, memory, fits) (Unfit n k is u e) = no_fit (fitting t name items) args memory fits e
serves_stays (Both name turns items) t r (form, args, memory, fits) (OutsideBoth n k is u q h) = apart (first_outside [] t) r form h
serves_stays (Both name turns items) t r (form, args, memory, fits) (NamelessBoth n k is u h e) = no_function (fitting t name items) args memory fits e
serves_stays (Both name turns items) t r (form, args, memory, fits) (UnfitBoth n k is u h e) = no_fit (fitting t name items) args memory fits e

not_refused : (c : Command) (source lines : List ℕ) → IsAdmitted c source → IsRefused c source lines → ⊥
not_refused c source lines is (TooLong long shown) = let within = is.within in omega (arith, long, within)
not_refused c source lines is (First within list first shown) = has_types (dialect_of c) source is.unit list is.has_unit first
not_refused c source lines is (Beyond within w has r refused shown) =
    serves_stays c is.unit r is.serves (subst (λ y. IsRefusedUnit c y r) (one_typed (dialect_of c) source w is.unit has is.has_unit) refused)

stays : (c : Command) (before : Option (List ℕ)) (lines : List ℕ) → Admits c before → Refuses c before lines → ⊥
stays c None lines is refused = is
stays c (Some source) lines is refused = not_refused c source lines is refused

one_command : {A : Type 0} (o : Option A) (c d : A) → o ≡ Some c → o ≡ Some d → c ≡ d
one_command o c d h k = cc

pub served_stays : (words : List (List ℕ)) (d : Command) (before : Option (List ℕ)) (lines : List ℕ) → asked words ≡ Some d → IsServed words before → Refuses d before lines → ⊥
served_stays words d before lines asks (c, is, admits) refused = stays c before lines admits (subst (λ x. Refuses x before lines) (one_command (asked words) d c asks is) refused)
