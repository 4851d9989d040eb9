-- Groups are passed over where arguments are cut.
use Rattle.std.proofs.Common.{◌≡◌, ◌∙◌, ℕ, suc, ◌+◌, ◌-◌, ◌<◌, ◌≤◌, List, [], ◌∷◌, ◌++◌, length, get_or, take, drop, refl, ap, sym, subst, append_assoc, arith}
use Rattle.std.proofs.Math.Seq.{take-add, drop-drop}
use Rattle.std.proofs.lemmas.List.{append-nil, take-append-drop, drop_more}
use Rattle.std.proofs.lemmas.Option.{slice_get-get_or}
use Rattle.c_text.specs.declared.tokens.Token.{Token}
use Rattle.c_macros.specs.declared.roles.Role.TheVariants.{Opens, Closes, Parts, Other}
use Rattle.c_macros.specs.Arguments.{Cut, onto, role, arguments}
use Rattle.c_macros.specs.Groups.{onto_all, IsGroup, IsOpen}
use Rattle.c_macros.specs.Seen.{glued}
use Rattle.c_macros.proofs.Cutting.{glued_more, so_far}

-- a token that is neither a bracket nor a comma; and brackets round a list of groups
pub group_other : (t : Token) → Other ≡ role t → IsGroup (t ∷ [])
group_other t e n rest = rw (← e) refl

onto_all-append : (a b : List Token) (c : Cut) → onto_all (a ++ b) c ≡ onto_all a (onto_all b c)
onto_all-append [] b c = refl
onto_all-append (t ∷ a) b c = ap (onto t) (onto_all-append a b c)

-- the same inside brackets, where a comma parts nothing
abbrev pub IsInside : List Token → Type 0
IsInside g = (n : ℕ) (rest : List Token) → arguments (suc n) (g ++ rest) ≡ onto_all g (arguments (suc n) rest)

pub inside_none : IsInside []
inside_none n rest = refl

pub inside_comma : (t : Token) → Parts ≡ role t → IsInside (t ∷ [])
inside_comma t e n rest = rw (← e) refl

pub inside_group : (g : List Token) → IsGroup g → IsInside g
inside_group g h n rest = h (suc n) rest

pub inside_append : (a b : List Token) → IsInside a → IsInside b → IsInside (a ++ b)
inside_append a b h g n rest =
    ap (arguments (suc n)) (append_assoc a b rest) ∙ h n (b ++ rest) ∙ ap (onto_all a) (g n rest) ∙ sym (onto_all-append a b (arguments (suc n) rest))

pub group_brackets : (t : Token) (g : List Token) (u : Token) → Opens ≡ role t → IsInside g → Closes ≡ role u → IsGroup (t ∷ (g ++ u ∷ []))
group_brackets t g u e h f n rest =
    let more : n + 1 ≡ suc n = omega arith in
    rw (← e) (ap (onto t)
    (ap (arguments (n + 1)) (append_assoc g (u ∷ []) rest) ∙ ap (λ k. arguments k (g ++ (u ∷ rest))) more ∙ h n (u ∷ rest) ∙
    ap (onto_all g) (closes_here n) ∙ sym (onto_all-append g (u ∷ []) (arguments n rest)))) where
      closes_here : (k : ℕ) → arguments (suc k) (u ∷ rest) ≡ onto u (arguments k rest)
      closes_here k = rw (← f) refl

-- what an argument has so far, a group on
glued_all : (done : List (List Token)) (start g : List Token) (c : Cut) → glued done start (onto_all g c) ≡ glued done (start ++ g) c
glued_all done start [] c = ap (λ x. glued done x c) (sym (append-nil start))
glued_all done start (t ∷ g) c =
    glued_more done start t (onto_all g c) ∙ glued_all done (start ++ t ∷ []) g c ∙ ap (λ x. glued done x c) (append_assoc start (t ∷ []) g)

drop_on : (i k : ℕ) (ts : List Token) → drop k (drop i ts) ≡ drop (i + k) ts
drop_on i k ts = drop-drop k i ts

pub jump_more : (ts : List Token) (start i k : ℕ) (done : List (List Token)) (n : ℕ) → start ≤ i → IsGroup (take k (drop i ts)) →
    glued done (take (i - start) (drop start ts)) (arguments n (drop i ts)) ≡ glued done (take (i + k - start) (drop start ts)) (arguments n (drop (i + k) ts))
jump_more ts start i k done n b g =
    let first = take (i - start) (drop start ts) in
    let far : i + k - start ≡ (i - start) + k = omega arith in
    let near : start + (i - start) ≡ i = omega arith in
    let parts : take (i + k - start) (drop start ts) ≡ first ++ take k (drop i ts) =
    ap (λ x. take x (drop start ts)) far ∙ take-add (i - start) k (drop start ts) ∙
    ap (λ x. first ++ take k x) (drop_on start (i - start) ts ∙ ap (λ x. drop x ts) near) in
    ap (λ x. glued done first (arguments n x)) (sym (take-append-drop k (drop i ts))) ∙
    ap (glued done first) (g n (drop k (drop i ts)) ∙ ap (λ x. onto_all (take k (drop i ts)) (arguments n x)) (drop_on i k ts)) ∙
    glued_all done first (take k (drop i ts)) (arguments n (drop (i + k) ts)) ∙
    ap (λ x. glued done x (arguments n (drop (i + k) ts))) (sym parts)

-- what is passed behind a bracket
abbrev pub passed_from : List Token → ℕ → ℕ → List Token
passed_from ts i j = take (j - (i + 1)) (drop (i + 1) ts)

inside_as : (a b : List Token) → a ≡ b → IsInside a → IsInside b
inside_as a b e h = let P : List Token → Type 0 = IsInside in subst P e h

pub inside_start : (ts : List Token) (i : ℕ) → IsInside (passed_from ts i (i + 1))
inside_start ts i = let none : i + 1 - (i + 1) ≡ 0 = omega arith in inside_as [] (passed_from ts i (i + 1)) (ap (λ k. take k (drop (i + 1) ts)) (sym none)) inside_none

pub inside_jump : (ts : List Token) (i j k : ℕ) → i < j → IsInside (passed_from ts i j) → IsGroup (take k (drop j ts)) → IsInside (passed_from ts i (j + k))
inside_jump ts i j k h inside g =
    let far : j + k - (i + 1) ≡ (j - (i + 1)) + k = omega arith in
    let near : (i + 1) + (j - (i + 1)) ≡ j = omega arith in
    let parts : passed_from ts i (j + k) ≡ passed_from ts i j ++ take k (drop j ts) =
    ap (λ x. take x (drop (i + 1) ts)) far ∙ take-add (j - (i + 1)) k (drop (i + 1) ts) ∙
    ap (λ x. passed_from ts i j ++ take k x) (drop_on (i + 1) (j - (i + 1)) ts ∙ ap (λ x. drop x ts) near) in
    inside_as (passed_from ts i j ++ take k (drop j ts)) (passed_from ts i (j + k)) (sym parts)
    (inside_append (passed_from ts i j) (take k (drop j ts)) inside (inside_group (take k (drop j ts)) g))

pub inside_token : (ts : List Token) (i j : ℕ) (t : Token) → i < j → j < length ts → t ≡ get_or ts j t → IsInside (passed_from ts i j) → IsInside (t ∷ []) → IsInside (passed_from ts i (j + 1))
inside_token ts i j t h g e inside one =
    inside_as (passed_from ts i j ++ t ∷ []) (passed_from ts i (j + 1)) (sym (so_far ts (i + 1) j t (omega arith) g e)) (inside_append (passed_from ts i j) (t ∷ []) inside one)

group_as : (a b : List Token) → a ≡ b → IsGroup a → IsGroup b
group_as a b e h = let P : List Token → Type 0 = IsGroup in subst P e h

pub group_found : (ts : List Token) (i j : ℕ) (u : Token) → i < j → j < length ts → u ≡ get_or ts j u → IsOpen ts i → Closes ≡ role u → IsInside (passed_from ts i j) →
    IsGroup (take (j - i + 1) (drop i ts))
group_found ts i j u h g e opens closes inside =
    let t = get_or ts i u in
    let within : i < length ts = omega arith in
    let more : j - i + 1 ≡ suc (j - i) = omega arith in
    let far : j - i ≡ j + 1 - (i + 1) = omega arith in
    let whole : take (j - i + 1) (drop i ts) ≡ t ∷ (passed_from ts i j ++ u ∷ []) =
    ap (λ x. take (j - i + 1) x) (drop_more ts i u within) ∙ ap (λ n. take n (t ∷ drop (i + 1) ts)) more ∙
    ap (λ x. t ∷ x) (ap (λ n. take n (drop (i + 1) ts)) far ∙ so_far ts (i + 1) j u (omega arith) g e) in
    group_as (t ∷ (passed_from ts i j ++ u ∷ [])) (take (j - i + 1) (drop i ts)) (sym whole)
    (group_brackets t (passed_from ts i j) u (opens t (slice_get-get_or ts i u within)) inside closes)
