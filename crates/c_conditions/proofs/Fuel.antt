-- A goal is read in the same way however many steps it may take, where they are enough.
use Rattle.std.proofs.Common.{◌≡◌, ◌∙◌, ℕ, zero, suc, ◌+◌, ◌-◌, ◌*◌, ◌≤◌, ◌==◌, nat_lt, Bool, true, false, cond, List, [], ◌∷◌, length, codes, Option, Some}
use Rattle.std.proofs.Common.{None, option_and_then, ◌<◌, refl, ap, arith}
use Rattle.std.proofs.lemmas.Bool.{ltb-true}
use Rattle.c_text.specs.declared.tokens.Token.{Token}
use Rattle.c_conditions.specs.declared.worths.Worth.{Worth}
use Rattle.c_conditions.specs.declared.signs.Infix.{Infix}
use Rattle.c_conditions.specs.declared.signs.Link.{Link}
use Rattle.c_conditions.specs.declared.signs.Link.TheVariants as links
use Rattle.c_conditions.specs.declared.signs.Start.{Start}
use Rattle.c_conditions.specs.declared.signs.Start.TheVariants as starts
use Rattle.c_conditions.specs.Worths.{joined, operated_before, chosen}
use Rattle.c_conditions.specs.Signs.{is_mark, link_of, start}
use Rattle.c_conditions.specs.Value.{Goal, Level, More, Read, Reader, and_read, after_mark, behind_mark, begun, unary, choice, joint, linked, level}
use Rattle.c_conditions.specs.Value.{read_step, read_in, read}

-- no more tokens than these are left
abbrev pub Within : ℕ → Read → Type 0
Within n None = Unit {0}
Within n (Some (v, ts)) = length ts ≤ n

within_more : (n m : ℕ) (r : Read) → n ≤ m → Within n r → Within m r
within_more n m None h w = tt
within_more n m (Some (v, ts)) h w = omega (arith, h, w)

within_then : (n : ℕ) (r : Read) (f : Worth → List Token → Read) → Within n r → ((v : Worth) (ts : List Token) → length ts ≤ n → Within n (f v ts)) →
    Within n (and_read r f)
within_then n None f w h = tt
within_then n (Some (v, ts)) f w h = h v ts w

-- what is left behind a mark
abbrev Cut : ℕ → Option (List Token) → Type 0
Cut n None = Unit {0}
Cut n (Some ts) = length ts ≤ n

cut_by : (b : Bool) (n : ℕ) (ts : List Token) → suc (length ts) ≤ n → Cut n (cond b (Some ts) None)
cut_by true n ts h = omega (arith, h)
cut_by false n ts h = tt

cut : (text : List ℕ) (n : ℕ) (ts : List Token) → length ts ≤ n → Cut n (after_mark text ts)
cut text n [] h = tt
cut text n (t ∷ ts) h = cut_by (is_mark text t) n ts h

cut_within : (n : ℕ) (o : Option (List Token)) (f : List Token → Read) → Cut n o → ((us : List Token) → length us ≤ n → Within n (f us)) →
    Within n (option_and_then f o)
cut_within n None f c h = tt
cut_within n (Some ts) f c h = h ts c

behind_within : (n : ℕ) (text : List ℕ) (ts : List Token) (f : List Token → Read) → length ts ≤ n → ((us : List Token) → length us ≤ n → Within n (f us)) →
    Within n (behind_mark text ts f)
behind_within n text ts f h g = cut_within n (after_mark text ts) f (cut text n ts h) g

-- nothing that is read leaves more tokens than there were
abbrev pub Shrinks : Reader → Type 0
Shrinks go = (g : Goal) (ts : List Token) → Within (length ts) (go g ts)

begun_within : (go : Reader) → Shrinks go → (s : Start) (ts : List Token) → Within (length ts) (begun s ts go)
begun_within go sh (starts.Prefix op) ts = within_then (length ts) (go (Level 11) ts) _ (sh (Level 11) ts) (λ v rest h. h)
begun_within go sh starts.Bracket ts =
    within_then (length ts) (go (Level 0) ts) _ (sh (Level 0) ts) (λ v rest h. behind_within (length ts) (codes ")") rest _ h (λ us k. k))
begun_within go sh (starts.Operand v) ts = omega arith
begun_within go sh starts.Nothing ts = tt

unary_within : (go : Reader) → Shrinks go → (ts : List Token) → Within (length ts) (unary ts go)
unary_within go sh [] = tt
unary_within go sh (t ∷ ts) = within_more (length ts) (length (t ∷ ts)) (begun (start t) ts go) (omega arith) (begun_within go sh (start t) ts)

choice_within : (go : Reader) → Shrinks go → (b : Bool) (c : Worth) (t : Token) (ts : List Token) → Within (length (t ∷ ts)) (choice b c t ts go)
choice_within go sh false c t ts = omega arith
choice_within go sh true c t ts =
    within_more (length ts) (length (t ∷ ts)) (choice true c t ts go) (omega arith)
    (within_then (length ts) (go (Level 0) ts) _ (sh (Level 0) ts) (λ a rest h.
    behind_within (length ts) (codes ":") rest _ h (λ us k.
    within_then (length ts) (go (Level 0) us) _ (within_more (length us) (length ts) (go (Level 0) us) k (sh (Level 0) us)) (λ b end e. e))))

joint_within : (go : Reader) → Shrinks go → (b : Bool) (k : ℕ) (op : Infix) (a : Worth) (t : Token) (ts : List Token) →
    Within (length (t ∷ ts)) (joint b k op a t ts go)
joint_within go sh false k op a t ts = omega arith
joint_within go sh true k op a t ts =
    within_more (length ts) (length (t ∷ ts)) (joint true k op a t ts go) (omega arith)
    (within_then (length ts) (go (Level (k + 1)) ts) _ (sh (Level (k + 1)) ts) (λ b rest h.
    within_more (length rest) (length ts) (go (More k (joined op a b)) rest) h (sh (More k (joined op a b)) rest)))

linked_within : (go : Reader) → Shrinks go → (k : ℕ) (v : Worth) (l : Link) (t : Token) (ts : List Token) → Within (length (t ∷ ts)) (linked k v l t ts go)
linked_within go sh k v links.Nothing t ts = omega arith
linked_within go sh k v links.Question t ts = choice_within go sh (k == 0) v t ts
linked_within go sh k v (links.Infix l op) t ts = joint_within go sh (l == k) k op v t ts

level_within : (go : Reader) → Shrinks go → (b : Bool) (k : ℕ) (ts : List Token) → Within (length ts) (level b k ts go)
level_within go sh true k ts =
    within_then (length ts) (go (Level (k + 1)) ts) _ (sh (Level (k + 1)) ts) (λ v rest h.
    within_more (length rest) (length ts) (go (More k v) rest) h (sh (More k v) rest))
level_within go sh false k ts = unary_within go sh ts

step_within : (go : Reader) → Shrinks go → Shrinks (read_step go)
step_within go sh (Level k) ts = level_within go sh (nat_lt k 11) k ts
step_within go sh (More k v) [] = omega arith
step_within go sh (More k v) (t ∷ ts) = linked_within go sh k v (link_of t) t ts

pub in_within : (n : ℕ) → Shrinks (read_in n)
in_within zero g ts = tt
in_within (suc n) g ts = step_within (λ h us. read_in n h us) (in_within n) g ts

-- how many steps within one another are enough
abbrev size : Goal → List Token → ℕ
size (Level k) ts = 12 * length ts + suc (11 - k)
size (More k v) ts = 12 * length ts + 1

-- both read in the same way what takes so many steps
abbrev Agree : ℕ → Reader → Reader → Type 0
Agree n f g = (h : Goal) (ts : List Token) → size h ts ≤ n → f h ts ≡ g h ts

then_same : (n : ℕ) (r : Read) (f g : Worth → List Token → Read) → Within n r → ((v : Worth) (ts : List Token) → length ts ≤ n → f v ts ≡ g v ts) →
    and_read r f ≡ and_read r g
then_same n None f g w h = refl
then_same n (Some (v, ts)) f g w h = h v ts w

cut_same : (n : ℕ) (o : Option (List Token)) (f g : List Token → Read) → Cut n o → ((us : List Token) → length us ≤ n → f us ≡ g us) →
    option_and_then f o ≡ option_and_then g o
cut_same n None f g c h = refl
cut_same n (Some ts) f g c h = h ts c

behind_same : (n : ℕ) (text : List ℕ) (ts : List Token) (f g : List Token → Read) → length ts ≤ n → ((us : List Token) → length us ≤ n → f us ≡ g us) →
    behind_mark text ts f ≡ behind_mark text ts g
behind_same n text ts f g h e = cut_same n (after_mark text ts) f g (cut text n ts h) e

module _ (n : ℕ) (f g : Reader) (sh : Shrinks g) (same : Agree n f g) where
  begun_same : (s : Start) (ts : List Token) → 12 * length ts + 12 ≤ n → begun s ts f ≡ begun s ts g
  begun_same (starts.Prefix op) ts h = ap (λ r. and_read r (λ v rest. Some (operated_before op v, rest))) (same (Level 11) ts (omega (arith, h)))
  begun_same starts.Bracket ts h =
      ap (λ r. and_read r (λ v rest. behind_mark (codes ")") rest (λ after. Some (v, after)))) (same (Level 0) ts (omega (arith, h)))
  begun_same (starts.Operand v) ts h = refl
  begun_same starts.Nothing ts h = refl

  unary_same : (ts : List Token) → 12 * length ts ≤ n → unary ts f ≡ unary ts g
  unary_same [] h = refl
  unary_same (t ∷ ts) h = begun_same (start t) ts (omega (arith, h))

  choice_same : (b : Bool) (c : Worth) (t : Token) (ts : List Token) → 12 * length ts + 12 ≤ n → choice b c t ts f ≡ choice b c t ts g
  choice_same false c t ts h = refl
  choice_same true c t ts h =
      ap (λ r. and_read r (λ a rest. behind_mark (codes ":") rest (λ after. and_read (f (Level 0) after) (λ b end. Some (chosen c a b, end)))))
      (same (Level 0) ts (omega (arith, h))) ∙
      then_same (length ts) (g (Level 0) ts) _ _ (sh (Level 0) ts) (λ a rest l.
      behind_same (length ts) (codes ":") rest _ _ l (λ us k.
      ap (λ r. and_read r (λ b end. Some (chosen c a b, end))) (same (Level 0) us (omega (arith, h, k)))))

  joint_same : (b : Bool) (k : ℕ) (op : Infix) (a : Worth) (t : Token) (ts : List Token) → 12 * length ts + 12 ≤ n →
      joint b k op a t ts f ≡ joint b k op a t ts g
  joint_same false k op a t ts h = refl
  joint_same true k op a t ts h =
      ap (λ r. and_read r (λ b rest. f (More k (joined op a b)) rest)) (same (Level (k + 1)) ts (omega (arith, h))) ∙
      then_same (length ts) (g (Level (k + 1)) ts) _ _ (sh (Level (k + 1)) ts) (λ b rest l. same (More k (joined op a b)) rest (omega (arith, h, l)))

  linked_same : (k : ℕ) (v : Worth) (l : Link) (t : Token) (ts : List Token) → 12 * length ts + 12 ≤ n → linked k v l t ts f ≡ linked k v l t ts g
  linked_same k v links.Nothing t ts h = refl
  linked_same k v links.Question t ts h = choice_same (k == 0) v t ts h
  linked_same k v (links.Infix l op) t ts h = joint_same (l == k) k op v t ts h

  level_same : (b : Bool) (k : ℕ) (ts : List Token) → nat_lt k 11 ≡ b → 12 * length ts + suc (11 - k) ≤ suc n → level b k ts f ≡ level b k ts g
  level_same true k ts e h =
      let few : k < 11 = ltb-true k 11 e in
      ap (λ r. and_read r (λ v rest. f (More k v) rest)) (same (Level (k + 1)) ts (omega (arith, h, few))) ∙
      then_same (length ts) (g (Level (k + 1)) ts) _ _ (sh (Level (k + 1)) ts) (λ v rest l. same (More k v) rest (omega (arith, h, l, few)))
  level_same false k ts e h = unary_same ts (omega (arith, h))

  step_same : (h : Goal) (ts : List Token) → size h ts ≤ suc n → read_step f h ts ≡ read_step g h ts
  step_same (Level k) ts h = level_same (nat_lt k 11) k ts refl h
  step_same (More k v) [] h = refl
  step_same (More k v) (t ∷ ts) h = linked_same k v (link_of t) t ts (omega (arith, h))

some_size : (g : Goal) (ts : List Token) → 1 ≤ size g ts
some_size (Level k) ts = omega arith
some_size (More k v) ts = omega arith

few_size : (g : Goal) (ts : List Token) → size g ts ≤ 12 * (length ts + 1)
few_size (Level k) ts = omega arith
few_size (More k v) ts = omega arith

in_same : (n m : ℕ) (g : Goal) (ts : List Token) → size g ts ≤ n → size g ts ≤ m → read_in n g ts ≡ read_in m g ts
in_same zero m g ts h k = absurd (omega (arith, h, some_size g ts))
in_same (suc n) zero g ts h k = absurd (omega (arith, k, some_size g ts))
in_same (suc n) (suc m) g ts h k =
    step_same (size g ts - 1) (λ u us. read_in n u us) (λ u us. read_in m u us) (in_within m)
    (λ u us l. in_same n m u us (omega (arith, h, l, some_size g ts)) (omega (arith, k, l, some_size g ts)))
    g ts (omega arith)

-- what is read, by its first step
pub read-step : (g : Goal) (ts : List Token) → read g ts ≡ read_step read g ts
unfolding read
read-step g ts =
    let next : 12 * (length ts + 1) ≡ suc (12 * length ts + 11) = omega arith in
    ap (λ n. read_in n g ts) next ∙
    step_same (size g ts - 1) (λ u us. read_in (12 * length ts + 11) u us) read (λ u us. in_within (12 * (length us + 1)) u us)
    (λ u us l. in_same (12 * length ts + 11) (12 * (length us + 1)) u us (omega (arith, l, few_size g ts, some_size g ts)) (few_size u us))
    g ts (omega arith)
