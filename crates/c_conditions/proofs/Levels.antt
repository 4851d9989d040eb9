-- How an expression of a level is read, from its first unary expression on.
use Rattle.std.proofs.Common.{◌≡◌, ◌∙◌, ℕ, zero, suc, ◌+◌, ◌-◌, ◌*◌, ◌≤◌, ◌<◌, ◌==◌, nat_lt, Bool, true, false, cond, List, [], ◌∷◌, length, Option}
use Rattle.std.proofs.Common.{Some, None, unwrap_or, option_and_then, bytes_eq, refl, ap, sym, subst, arith}
use Rattle.std.proofs.lemmas.Bool.{ltb-false, lt-ltb, le-ltb, leb-false, lt-leb, eq-eqb, eqb-true, eqb-false}
use Rattle.std.specs.Map.{lookup}
use Rattle.c_text.specs.declared.tokens.TokenKind.{TokenKind}
use Rattle.c_text.specs.declared.tokens.TokenKind.TheVariants.{Mark}
use Rattle.c_text.specs.declared.tokens.Token.{Token}
use Rattle.c_conditions.specs.declared.worths.Worth.{Worth}
use Rattle.c_conditions.specs.declared.signs.Infix.{Infix}
use Rattle.c_conditions.specs.declared.signs.Link.{Link}
use Rattle.c_conditions.specs.declared.signs.Link.TheVariants as links
use Rattle.c_conditions.specs.declared.reading.Pending.TheVariants as pending
use Rattle.c_conditions.specs.Worths.{joined, chosen}
use Rattle.c_conditions.specs.Signs.{links_by_mark, link_by, link_of}
use Rattle.c_conditions.specs.Levels.{IsLow, goes_on, first_link}
use Rattle.c_conditions.specs.Value.{Goal, Level, More, Read, Reader, and_read, unary, choice, joint, linked, level, read_step, read_in, read}
use Rattle.c_conditions.specs.Stack.{levels, behind_operand, around}
use Rattle.c_conditions.proofs.Fuel.{read-step}

-- both are the same, where both are read behind the same
pub and_read-same : (r : Read) (f g : Worth → List Token → Read) → ((v : Worth) (ts : List Token) → f v ts ≡ g v ts) → and_read r f ≡ and_read r g
and_read-same None f g h = refl
and_read-same (Some (v, ts)) f g h = h v ts

pub and_read-assoc : (r : Read) (f g : Worth → List Token → Read) → and_read (and_read r f) g ≡ and_read r (λ v ts. and_read (f v ts) g)
and_read-assoc None f g = refl
and_read-assoc (Some (v, ts)) f g = refl

and_read-some : (r : Read) → and_read r (λ v ts. Some (v, ts)) ≡ r
and_read-some None = refl
and_read-some (Some (v, ts)) = refl

-- a negated test, by its number
not_equal : (a b : ℕ) → (a ≡ b → ⊥) → (a == b) ≡ false
not_equal a b h = by (a == b) refl where
  by : (x : Bool) → (a == b) ≡ x → x ≡ false
  by true e = absurd (h (eqb-true a b e))
  by false e = refl

-- levels of operators

AllLow : List (List ℕ × Link) → Type 0
AllLow [] = Unit {0}
AllLow (e ∷ es) = IsLow e.1 × AllLow es

low_or : (b : Bool) (l : Link) (o : Option Link) → IsLow l → IsLow (unwrap_or o links.Nothing) → IsLow (unwrap_or (cond b (Some l) o) links.Nothing)
low_or true l o h g = h
low_or false l o h g = g

low_in : (text : List ℕ) (es : List (List ℕ × Link)) → AllLow es → IsLow (unwrap_or (lookup (bytes_eq text) es) links.Nothing)
unfolding AllLow
low_in text [] h = tt
low_in text (e ∷ es) h = low_or (bytes_eq text e.0) e.1 (lookup (bytes_eq text) es) h.0 (low_in text es h.1)

all_low : AllLow links_by_mark
unfolding AllLow
all_low = search arith

low_by : (kind : TokenKind) (text : List ℕ) → IsLow (link_by kind text)
low_by Mark text = low_in text links_by_mark all_low
low_by _ text = tt

low : (ts : List Token) → IsLow (first_link ts)
unfolding link_of
low [] = tt
low (t ∷ ts) = low_by t.kind t.text

-- nothing goes on at a level above those of operators
nothing_high : (k : ℕ) (l : Link) → 11 ≤ k → IsLow l → goes_on k l ≡ false
nothing_high k (links.Infix l op) h w = lt-leb k l (omega (arith, h, w))
nothing_high k links.Question h w = lt-leb k 0 (omega (arith, h))
nothing_high k links.Nothing h w = refl

-- what doesn't go on at a level or a tighter one doesn't at the tighter ones
wider : (k : ℕ) (l : Link) → goes_on k l ≡ false → goes_on (k + 1) l ≡ false
wider k (links.Infix l op) h = lt-leb (k + 1) l (omega (arith, leb-false k l h))
wider k links.Question h = lt-leb (k + 1) 0 (omega (arith, leb-false k 0 h))
wider k links.Nothing h = refl

-- where nothing goes on, the operand is all

linked_stays : (k : ℕ) (v : Worth) (l : Link) (t : Token) (ts : List Token) → goes_on k l ≡ false → linked k v l t ts read ≡ Some (v, t ∷ ts)
linked_stays k v links.Nothing t ts h = refl
linked_stays k v links.Question t ts h = ap (λ b. choice b v t ts read) (not_equal k 0 (λ e. omega (arith, e, leb-false k 0 h)))
linked_stays k v (links.Infix l op) t ts h = ap (λ b. joint b k op v t ts read) (not_equal l k (λ e. omega (arith, e, leb-false k l h)))

more_stays : (k : ℕ) (v : Worth) (ts : List Token) → goes_on k (first_link ts) ≡ false → read (More k v) ts ≡ Some (v, ts)
more_stays k v [] h = read-step (More k v) []
more_stays k v (t ∷ ts) h = read-step (More k v) (t ∷ ts) ∙ linked_stays k v (link_of t) t ts h

pub stays : (d k : ℕ) (v : Worth) (ts : List Token) → goes_on k (first_link ts) ≡ false → levels d k v ts ≡ Some (v, ts)
stays zero k v ts h = refl
stays (suc d) k v ts h =
    ap (λ r. and_read r (λ w rest. read (More k w) rest)) (stays d (k + 1) v ts (wider k (first_link ts) h)) ∙
    more_stays k v ts h

-- an expression of a level is a unary expression and what goes on behind it
level_levels : (d k : ℕ) (ts : List Token) → 11 - k ≡ d → read (Level k) ts ≡ and_read (unary ts read) (λ v rest. levels d k v rest)
level_levels zero k ts e =
    read-step (Level k) ts ∙ ap (λ b. level b k ts read) (le-ltb k 11 (omega (arith, e))) ∙
    sym (and_read-some (unary ts read))
level_levels (suc d) k ts e =
    read-step (Level k) ts ∙ ap (λ b. level b k ts read) (lt-ltb k 11 (omega (arith, e))) ∙
    ap (λ r. and_read r (λ v rest. read (More k v) rest)) (level_levels d (k + 1) ts (omega (arith, e))) ∙
    and_read-assoc (unary ts read) (λ v rest. levels d (k + 1) v rest) (λ v rest. read (More k v) rest)

pub split : (k : ℕ) (ts : List Token) → read (Level k) ts ≡ and_read (unary ts read) (λ v rest. behind_operand k v rest)
split k ts = level_levels (11 - k) k ts refl

-- nothing goes on at a level behind what was read of it

abbrev Stopped : ℕ → Read → Type 0
Stopped k None = Unit {0}
Stopped k (Some (v, ts)) = goes_on k (first_link ts) ≡ false

stopped_then : (k l : ℕ) (r : Read) (f : Worth → List Token → Read) → Stopped l r →
    ((v : Worth) (ts : List Token) → goes_on l (first_link ts) ≡ false → Stopped k (f v ts)) →
    Stopped k (and_read r f)
stopped_then k l None f s h = tt
stopped_then k l (Some (v, ts)) f s h = h v ts s

stopped_behind : (k : ℕ) (r : Read) (f : Worth → List Token → Read) → ((v : Worth) (ts : List Token) → Stopped k (f v ts)) → Stopped k (and_read r f)
stopped_behind k None f h = tt
stopped_behind k (Some (v, ts)) f h = h v ts

stopped_cut : (k : ℕ) (o : Option (List Token)) (f : List Token → Read) → ((ts : List Token) → Stopped k (f ts)) → Stopped k (option_and_then f o)
stopped_cut k None f h = tt
stopped_cut k (Some ts) f h = h ts

stopped_high : (k : ℕ) (r : Read) → 11 ≤ k → Stopped k r
stopped_high k None h = tt
stopped_high k (Some (v, ts)) h = nothing_high k (first_link ts) h (low ts)

abbrev Ready : Goal → List Token → Type 0
Ready (Level k) ts = Unit {0}
Ready (More k v) ts = goes_on (k + 1) (first_link ts) ≡ false

abbrev of_level : Goal → ℕ
of_level (Level k) = k
of_level (More k v) = k

abbrev Stops : Reader → Type 0
Stops go = (g : Goal) (ts : List Token) → Ready g ts → Stopped (of_level g) (go g ts)

module _ (go : Reader) (stops : Stops go) where
  choice_stops : (b : Bool) (k : ℕ) (c : Worth) (t : Token) (ts : List Token) → (k == 0) ≡ b → link_of t ≡ links.Question → Stopped k (choice b c t ts go)
  choice_stops false k c t ts e l = ap (goes_on k) l ∙ lt-leb k 0 (above k (eqb-false k 0 e)) where
    above : (n : ℕ) → (n ≡ 0 → ⊥) → 0 < n
    above zero h = absurd (h refl)
    above (suc n) h = omega arith
  choice_stops true k c t ts e l =
      subst {A = ℕ} (λ n. Stopped n (choice true c t ts go)) (sym (eqb-true k 0 e))
      (stopped_behind 0 (go (Level 0) ts) _ (λ a rest.
      stopped_cut 0 _ _ (λ after.
      stopped_then 0 0 (go (Level 0) after) _ (stops (Level 0) after tt) (λ b end h. h))))

  joint_stops : (b : Bool) (k l : ℕ) (op : Infix) (v : Worth) (t : Token) (ts : List Token) → (l == k) ≡ b → link_of t ≡ links.Infix l op →
      goes_on (k + 1) (link_of t) ≡ false →
      Stopped k (joint b k op v t ts go)
  joint_stops true k l op v t ts e i h =
      stopped_then k (k + 1) (go (Level (k + 1)) ts) _ (stops (Level (k + 1)) ts tt) (λ w rest g. stops (More k (joined op v w)) rest g)
  joint_stops false k l op v t ts e i h =
      ap (goes_on k) i ∙ lt-leb k l (below (leb-false (k + 1) l (sym (ap (goes_on (k + 1)) i) ∙ h)) (eqb-false l k e)) where
        below : l < k + 1 → (l ≡ k → ⊥) → l < k
        below h n = omega (arith, h, n)

  linked_stops : (k : ℕ) (v : Worth) (l : Link) (t : Token) (ts : List Token) → link_of t ≡ l → goes_on (k + 1) (link_of t) ≡ false →
      Stopped k (linked k v l t ts go)
  linked_stops k v links.Nothing t ts e h = ap (goes_on k) e
  linked_stops k v links.Question t ts e h = choice_stops (k == 0) k v t ts refl e
  linked_stops k v (links.Infix l op) t ts e h = joint_stops (l == k) k l op v t ts refl e h

  level_stops : (b : Bool) (k : ℕ) (ts : List Token) → nat_lt k 11 ≡ b → Stopped k (level b k ts go)
  level_stops true k ts e = stopped_then k (k + 1) (go (Level (k + 1)) ts) _ (stops (Level (k + 1)) ts tt) (λ v rest h. stops (More k v) rest h)
  level_stops false k ts e = stopped_high k (unary ts go) (ltb-false k 11 e)

  step_stops : Stops (read_step go)
  step_stops (Level k) ts h = level_stops (nat_lt k 11) k ts refl
  step_stops (More k v) [] h = refl
  step_stops (More k v) (t ∷ ts) h = linked_stops k v (link_of t) t ts refl h

in_stops : (n : ℕ) → Stops (read_in n)
in_stops zero g ts h = tt
in_stops (suc n) g ts h = step_stops (λ u us. read_in n u us) (in_stops n) g ts h

level_stopped : (k : ℕ) (ts : List Token) → Stopped k (read (Level k) ts)
unfolding read
level_stopped k ts = in_stops (12 * (length ts + 1)) (Level k) ts tt

-- both are the same behind what is read of a level, where they are so where nothing goes on at it
stopped_same : (k : ℕ) (r : Read) (f g : Worth → List Token → Read) → Stopped k r →
    ((v : Worth) (ts : List Token) → goes_on k (first_link ts) ≡ false → f v ts ≡ g v ts) →
    and_read r f ≡ and_read r g
stopped_same k None f g s h = refl
stopped_same k (Some (v, ts)) f g s h = h v ts s

-- an operator behind an operand

takes_here : (d k : ℕ) (v : Worth) (op : Infix) (t : Token) (ts : List Token) → link_of t ≡ links.Infix k op →
    levels (suc d) k v (t ∷ ts) ≡ and_read (read (Level (k + 1)) ts) (λ w rest. levels (suc d) k (joined op v w) rest)
takes_here d k v op t ts e =
    ap (λ r. and_read r (λ w rest. read (More k w) rest)) (stays d (k + 1) v (t ∷ ts) (ap (goes_on (k + 1)) e ∙ lt-leb (k + 1) k (omega arith))) ∙
    read-step (More k v) (t ∷ ts) ∙ ap (λ l. linked k v l t ts read) e ∙ ap (λ b. joint b k op v t ts read) (eq-eqb k k refl) ∙
    stopped_same (k + 1) (read (Level (k + 1)) ts) _ _ (level_stopped (k + 1) ts) (λ w rest h.
    sym (ap (λ r. and_read r (λ x us. read (More k x) us)) (stays d (k + 1) (joined op v w) rest h)))

-- the operator is of this level, or of a tighter one
takes_by : (b : Bool) (d k l : ℕ) (v : Worth) (op : Infix) (t : Token) (ts : List Token) → (l == k) ≡ b → link_of t ≡ links.Infix l op →
    (((l ≡ k) → ⊥) → levels d (k + 1) v (t ∷ ts) ≡ and_read (read (Level (l + 1)) ts) (λ w rest. levels d (k + 1) (joined op v w) rest)) →
    levels (suc d) k v (t ∷ ts) ≡ and_read (read (Level (l + 1)) ts) (λ w rest. levels (suc d) k (joined op v w) rest)
takes_by true d k l v op t ts same e tighter =
    let here : l ≡ k = eqb-true l k same in
    takes_here d k v op t ts (e ∙ ap (λ n. links.Infix n op) here) ∙
    ap (λ n. and_read (read (Level (n + 1)) ts) (λ w rest. levels (suc d) k (joined op v w) rest)) (sym here)
takes_by false d k l v op t ts other e tighter =
    ap (λ r. and_read r (λ w rest. read (More k w) rest)) (tighter (eqb-false l k other)) ∙
    and_read-assoc (read (Level (l + 1)) ts) (λ w rest. levels d (k + 1) (joined op v w) rest) (λ w rest. read (More k w) rest)

takes_at : (d k l : ℕ) (v : Worth) (op : Infix) (t : Token) (ts : List Token) → link_of t ≡ links.Infix l op → k ≤ l → l < k + d →
    levels d k v (t ∷ ts) ≡ and_read (read (Level (l + 1)) ts) (λ w rest. levels d k (joined op v w) rest)
takes_at zero k l v op t ts e h g = absurd (omega (arith, h, g))
takes_at (suc d) k l v op t ts e h g =
    takes_by (l == k) d k l v op t ts refl e (λ other. takes_at d (k + 1) l v op t ts e (omega (arith, h, other)) (omega (arith, g)))

pub takes-joint : (k l : ℕ) (v : Worth) (op : Infix) (t : Token) (ts : List Token) → link_of t ≡ links.Infix l op → k ≤ l →
    behind_operand k v (t ∷ ts) ≡ and_read (read (Level (l + 1)) ts) (λ w rest. behind_operand k (joined op v w) rest)
takes-joint k l v op t ts e h =
    let few : l ≤ 10 = subst {A = Link} IsLow e (low (t ∷ ts)) in
    takes_at (11 - k) k l v op t ts e h (omega (arith, few, h))

-- a `?` behind an operand

cut_same : (o : Option (List Token)) (f g : List Token → Read) → ((us : List Token) → f us ≡ g us) → option_and_then f o ≡ option_and_then g o
cut_same None f g h = refl
cut_same (Some ts) f g h = h ts

takes_question : (d : ℕ) (c : Worth) (t : Token) (ts : List Token) → link_of t ≡ links.Question →
    levels (suc d) 0 c (t ∷ ts) ≡ around (pending.Condition c) (read (Level 0) ts)
takes_question d c t ts e =
    ap (λ r. and_read r (λ w rest. read (More 0 w) rest)) (stays d (0 + 1) c (t ∷ ts) (ap (goes_on (0 + 1)) e ∙ lt-leb (0 + 1) 0 (omega arith))) ∙
    read-step (More 0 c) (t ∷ ts) ∙ ap (λ l. linked 0 c l t ts read) e ∙
    and_read-same (read (Level 0) ts) _ _ (λ a rest.
    cut_same _ _ _ (λ after.
    stopped_same 0 (read (Level 0) after) _ _ (level_stopped 0 after) (λ b end h. sym (stays (11 - 0) 0 (chosen c a b) end h))))

pub takes-question : (c : Worth) (t : Token) (ts : List Token) → link_of t ≡ links.Question →
    behind_operand 0 c (t ∷ ts) ≡ around (pending.Condition c) (read (Level 0) ts)
takes-question c t ts e = takes_question 10 c t ts e
