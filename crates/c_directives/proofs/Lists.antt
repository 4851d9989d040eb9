-- Lists whose last is taken first.
use Rattle.std.proofs.Common.{◌≡◌, ◌∙◌, List, [], ◌∷◌, ◌++◌, Some, refl, ap}
use Rattle.std.proofs.lemmas.List.{reverse-append}
use mathlib.Core.List.{reverse}
use Rattle.c_text.specs.Details.{refusal_of}
use Rattle.c_directives.specs.declared.conditions.Condition.{Condition}
use Rattle.c_directives.specs.Directives.{unclosed, open_condition}

pub reverse-push : {A : Type 0} (xs : List A) (x : A) → reverse (xs ++ x ∷ []) ≡ x ∷ reverse xs
reverse-push xs x = reverse-append xs (x ∷ [])

-- the outermost stands last
pub unclosed_last : (cs : List Condition) (c : Condition) → unclosed (cs ++ c ∷ []) ≡ Some (refusal_of open_condition c.word)
unclosed_last [] c = refl
unclosed_last (d ∷ []) c = refl
unclosed_last (d ∷ e ∷ cs) c = unclosed_last (e ∷ cs) c

pub unclosed_first : (cs : List Condition) (c : Condition) → unclosed (reverse (c ∷ cs)) ≡ Some (refusal_of open_condition c.word)
unclosed_first cs c = ap unclosed (reverse-append (c ∷ []) cs) ∙ unclosed_last (reverse cs) c
