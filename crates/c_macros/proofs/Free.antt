-- Tokens among which no macro's name stands expand to themselves, without work.
use Rattle.std.proofs.Common.{◌≡◌, ◌∙◌, ℕ, Bool, true, false, cond, List, [], ◌∷◌, Option, None, Ok, refl, ap}
use Rattle.c_text.specs.declared.tokens.Token.{Token}
use Rattle.c_macros.specs.Definition.{Definition, Macros}
use Rattle.c_macros.specs.Arguments.{is_name_kind, Plain, found, among, sight}
use Rattle.c_macros.specs.Expansion.{and_then, behind, begun, expand_in, bodies_in}
use Rattle.c_macros.specs.Free.{AllFree}
use Rattle.c_macros.proofs.Fuel.{expand-first, expand-none}

free_found : (o : Option Definition) (busy : Bool) (ts : List Token) → o ≡ None → found o busy ts ≡ Plain
free_found o busy ts e = ap (λ x. found x busy ts) e

free_plain : (b : Bool) (o : Option Definition) (busy : Bool) (ts : List Token) → (b ≡ true → o ≡ None) → cond b (found o busy ts) Plain ≡ Plain
free_plain true o busy ts h = free_found o busy ts (h refl)
free_plain false o busy ts h = refl

pub free : (limit : ℕ) (macros : Macros) (depth : ℕ) (uses : List Token) (top : Option Token) (ts : List Token) (w : ℕ) → AllFree macros ts → expand_in limit macros depth uses top ts w ≡ Ok (ts, w)
unfolding sight
free limit macros depth uses top [] w h = expand-none limit macros depth uses top w
free limit macros depth uses top (t ∷ ts) w h =
    expand-first limit macros depth uses top t ts w ∙
    ap (λ s. begun limit (bodies_in limit macros depth) uses (expand_in limit macros depth uses) top t ts s w) (free_plain (is_name_kind t.kind) (macros t.text) (among t.text uses) ts h.0) ∙
    ap (λ m. and_then m (behind (t ∷ []))) (free limit macros depth uses top ts w h.1)
