-- What is refused at a token, and at the first one.
use Rattle.std.proofs.Common.{◌≡◌, ℕ, ◌<◌, ◌≤◌, List, [], ◌∷◌, length, take, Option, Some, None, Bool, true, false, refl, sym, ◌∙◌, ap, subst, arith}
use Rattle.std.proofs.lemmas.Grind.{common_steps}
use Rattle.c_text.specs.declared.tokens.Dialect.{Dialect}
use Rattle.c_text.specs.declared.tokens.Token.{Token}
use Rattle.c_text.specs.declared.refusals.Refusal.{Refusal}
use Rattle.c_text.specs.declared.refusals.Fail.{Fail}
use Rattle.c_text.specs.declared.refusals.Fail.TheVariants.{Refused, Memory}
use Rattle.c_preproc.specs.declared.roles.Role.{Role}
use Rattle.c_constants.specs.Constant.{is_c_token}
use Rattle.c_preproc.specs.ExcludedWord.{is_excluded}
use Rattle.c_preproc.specs.Role.{role_of, next_role}
use Rattle.c_preproc.specs.declared.counts.Counts.{Counts}
use Rattle.c_preproc.specs.declared.limits.Limits.{Limits}
use Rattle.c_preproc.specs.Counts.{Shows}
use Rattle.c_preproc.specs.Nesting.{Context, contexts_behind, counted, opens_block, file, is_too_deep, limits_of}
use Rattle.c_preproc.specs.Scan.{refusal_at}
use Rattle.c_text.specs.Details.{refusal_of, IfRefused}

-- a refusal that was made for an answer
pub refused_as : (e : Fail) (answer : Option Refusal) (r : Refusal) → IfRefused e (λ x. x ≡ r) → answer ≡ Some r → IfRefused e (λ x. answer ≡ Some x)
refused_as (Refused x) answer r made is = is ∙ ap Some (sym made)
refused_as Memory answer r made is = tt

pub no_token : (d : Dialect) (before after : List Token) (t : Token) → is_c_token t.kind t.text ≡ false → refusal_at d before t after ≡ Some (refusal_of 4 t)
unfolding refusal_at
no_token d before after t h = rw h refl

pub excluded_word : (d : Dialect) (before after : List Token) (t : Token) → is_c_token t.kind t.text ≡ true → is_excluded d t.kind t.text ≡ true → refusal_at d before t after ≡ Some (refusal_of 18 t)
unfolding refusal_at
excluded_word d before after t h e = rw (h, e) refl

pub too_deep : (d : Dialect) (before after : List Token) (t : Token) → is_c_token t.kind t.text ≡ true → is_excluded d t.kind t.text ≡ false →
    is_too_deep (limits_of d) (contexts_behind (t ∷ before) (next_role after)) ≡ true → refusal_at d before t after ≡ Some (refusal_of 19 t)
unfolding refusal_at
too_deep d before after t h e deep = rw (h, e, deep) refl

pub passes : (d : Dialect) (before after : List Token) (t : Token) → is_c_token t.kind t.text ≡ true → is_excluded d t.kind t.text ≡ false →
    is_too_deep (limits_of d) (contexts_behind (t ∷ before) (next_role after)) ≡ false → refusal_at d before t after ≡ None
unfolding refusal_at
passes d before after t h e deep = rw (h, e, deep) refl

pub behind_none : (next : Role) → contexts_behind [] next ≡ file
unfolding contexts_behind
behind_none next = refl

pub behind_one : (t : Token) (before : List Token) (next : Role) → contexts_behind (t ∷ before) next ≡ counted (role_of t) (opens_block before) next (contexts_behind before (role_of t))
unfolding contexts_behind
behind_one t before next = refl

-- the contexts behind one more token, where they were counted by its role
pub behind_shown : (current : Counts) (outer : List Counts) (t : Token) (before after : List Token) (role next : Role) (block : Bool) →
    role ≡ role_of t → block ≡ opens_block before → next ≡ next_role after →
    Shows current outer (counted role block next (contexts_behind before (role_of t))) → Shows current outer (contexts_behind (t ∷ before) (next_role after))
behind_shown current outer t before after role next block is opens follows shown =
    let same : counted role block next (contexts_behind before (role_of t)) ≡ contexts_behind (t ∷ before) (next_role after) =
    rw (is, opens, follows) (sym (behind_one t before (next_role after))) in
    subst (λ (cs : List Context). Shows current outer cs) same shown

-- the test for depth, of contexts that are shown
pub depth_shown : (current : Counts) (outer : List Counts) (cs : List Context) (limits : Limits) (d : Dialect) (result known : Bool) →
    ((others : List Context) → Shows current outer others → result ≡ is_too_deep limits others) → Shows current outer cs → limits ≡ limits_of d → result ≡ known → is_too_deep (limits_of d) cs ≡ known
depth_shown current outer cs limits d result known tests shown is known_is =
    ap (λ (l : Limits). is_too_deep l cs) (sym is) ∙ sym (tests cs shown) ∙ known_is
