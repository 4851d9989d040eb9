-- Why tokens are refused.
use Rattle.std.proofs.Common.{◌≡◌, ℕ, inl, inr, List, [], ◌∷◌, ◌++◌, ◌-◌, ◌<◌, ◌≤◌, arith, length, take, drop, Option, Some, None, option_map, refl, sym, ◌∙◌, ap}
use Rattle.std.proofs.lemmas.Grind.{common_steps}
use Rattle.std.proofs.lemmas.List.{take_rest}
use Rattle.c_text.specs.declared.refusals.Refusal.{Refusal}
use Rattle.c_text.specs.declared.refusals.Fail.{Fail}
use Rattle.c_text.specs.declared.refusals.Fail.TheVariants.{Refused, Memory}
use Rattle.c_text.specs.declared.tokens.Dialect.{Dialect}
use Rattle.c_text.specs.declared.tokens.Token.{Token}
use Rattle.c_text.specs.Details.{IfRefused}
use Rattle.c_tree.specs.Tree.{Definition, External}
use Rattle.c_parse.specs.Items.{IsUnit}
use Rattle.c_parse.specs.ItemReading.{unit_of}
use Rattle.c_parse.specs.Limits as limits
use Rattle.c_parse.specs.Limits.{end_place, first_past, syntax_at, too_many}
use Rattle.c_parse.proofs.ItemsRead.{unit_reads, unit_writes}

pub end_place_last : (ts : List Token) (t : Token) → end_place (ts ++ t ∷ []) ≡ t.place
end_place_last [] t = refl
end_place_last (u ∷ []) t = refl
end_place_last (u ∷ v ∷ ts) t = end_place_last (v ∷ ts) t

pub rest_is : (ts : List Token) (n : ℕ) → take (length ts - n) (drop n ts) ≡ drop n ts
rest_is ts n = take_rest ts n

no_unit : (d : Dialect) (ts : List Token) → unit_of d ts ≡ None → (unit : List External) → IsUnit d ts unit → ⊥
no_unit d ts none unit u = let h : None ≡ Some unit = sym none ∙ unit_reads d ts unit u in cc

pub refused_syntax : (d : Dialect) (ts : List Token) (n : ℕ) (f : Fail) → unit_of d ts ≡ None → IfRefused f (λ r. r ≡ syntax_at (end_place ts) (drop n ts)) → IfRefused f (limits.Refused d ts)
refused_syntax d ts n (Refused r) none e = inl (record { none = no_unit d ts none; before = n; shows = e })
refused_syntax d ts n Memory none e = tt

first_is : (d : Dialect) (ts : List Token) (unit : List External) (r : Refusal) (o : Option Definition) → unit_of d ts ≡ Some unit → first_past 0 unit ≡ o → option_map too_many o ≡ Some r → limits.Refused d ts r
first_is d ts unit r (Some f) e first shows = inr (record { unit = unit; is = unit_writes d ts unit e; function = f; first = first; shows = ap (λ (o : Option Refusal). get o) (sym shows) })
  where
    get : Option Refusal → Refusal
    get (Some x) = x
    get None = r
first_is d ts unit r None e first shows = absurd (cc)

pub refused_many : (d : Dialect) (ts : List Token) (unit : List External) (f : Fail) → unit_of d ts ≡ Some unit → IfRefused f (λ r. option_map too_many (first_past 0 unit) ≡ Some r) → IfRefused f (limits.Refused d ts)
refused_many d ts unit (Refused r) e shows = first_is d ts unit r (first_past 0 unit) e refl shows
refused_many d ts unit Memory e shows = tt
