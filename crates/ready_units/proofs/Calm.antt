-- In an expression that keeps the order rule no operand of a row assigns to a variable that stands beside it (C11 6.5p2).
use Rattle.std.proofs.Common.{◌≡◌, ◌⊎◌, inl, inr, refl, ℕ, Bool, true, false, not, ◌&&◌, ◌||◌, List, [], ◌∷◌, Option, Some, None}
use Rattle.lane_core.specs.declared.number.BinOp.{BinOp}
use Rattle.std.proofs.lemmas.Slice.Eq.{bytes_eq-Decides}
use Rattle.std.specs.Prelude.{bytes_eq}
use Rattle.c_text.specs.declared.tokens.Place.{Place}
use Rattle.lane_core.specs.declared.table.ParamKind.{ParamKind}
use Rattle.lane_core.specs.declared.table.ParamKind.TheVariants as kind
use Rattle.lane_core.specs.Table.{params_of}
use Rattle.c_tree.specs.declared.types.CType.{CType}
use Rattle.c_tree.specs.Tree.{Tree, Kind, Trees, Node, Name, Unary, Step, Binary, AndThen, OrElse, Choice, Assign, Comma, Cast, Call, NoTrees, More}
use Rattle.c_tree.specs.Nodes.{root}
use Rattle.intel_table.specs.declared.IntelOp.{IntelOp}
use Rattle.intel_table.specs.Rows.{find_of, signature_of}
use Rattle.order_rule.specs.declared.times.Times.{Times}
use Rattle.order_rule.specs.declared.times.Times.TheVariants.{Never, Once, Often}
use Rattle.order_rule.specs.Callees.{Callees}
use Rattle.order_rule.specs.Memory.{Env}
use Rattle.order_rule.specs.Writing.{sum, once_if, occurrences, occurrences_in, occurrences_in_all, changes, changes_in, changes_in_all, is_target}
use Rattle.order_rule.specs.Parts.{Passes, assigns_once}
use Rattle.order_rule.specs.Rule.{EachPasses, EachPassesIn, EachPassesInAll}
use Rattle.written_forms.specs.Moved.{operands, are_plain}
use Rattle.written_forms.specs.Ready.{is_name, assigns, kind_assigns, any_assigns, StaysAmong, AllStayAmong, StayUnless, AreUndisturbed}

-- ---- truth values and numbers of times

either : (b c : Bool) → (b || c) ≡ true → (b ≡ true) ⊎ (c ≡ true)
either true c h = inl refl
either false c h = inr h

neither : (b c : Bool) → b ≡ false → c ≡ false → (b || c) ≡ false
neither true c h g = absurd (cc)
neither false c h g = g

by_first : (b c : Bool) → b ≡ true → (b || c) ≡ true
by_first true c h = refl
by_first false c h = absurd (cc)

by_second : (b c : Bool) → c ≡ true → (b || c) ≡ true
by_second true c h = refl
by_second false c h = h

isnt : (b : Bool) → b ≡ true → b ≡ false → {A : Type 0} → A
isnt true h g = absurd (cc)
isnt false h g = absurd (cc)

not_never : (s : Times) → s ≡ Once → s ≡ Never → {A : Type 0} → A
not_never s h g = absurd (cc)

pub never : (s t : Times) → sum s t ≡ Never → (s ≡ Never) × (t ≡ Never)
never Never t h = (refl, h)
never Once Never h = absurd (cc)
never Once Once h = absurd (cc)
never Once Often h = absurd (cc)
never Often t h = absurd (cc)

-- of two parts that are once together, one is once and the other never
once : (s t : Times) → sum s t ≡ Once → ((s ≡ Once) × (t ≡ Never)) ⊎ ((s ≡ Never) × (t ≡ Once))
once Never t h = inr (refl, h)
once Once Never h = inl (refl, refl)
once Once Once h = absurd (cc)
once Once Often h = absurd (cc)
once Often t h = absurd (cc)

-- ---- what doesn't occur isn't assigned to

unnamed : (x : List ℕ) (a : Tree) → occurrences x a ≡ Never → is_name x a ≡ false
unnamed x (Node p t (Name y)) h = at (bytes_eq x y) h
  where
    at : (b : Bool) → once_if b ≡ Never → b ≡ false
    at true h = absurd (cc)
    at false h = refl
unnamed x (Node p t k) h = refl

-- both parts
both_quiet : (s t : Times) (b c : Bool) → (s ≡ Never → b ≡ false) → (t ≡ Never → c ≡ false) → sum s t ≡ Never → (b || c) ≡ false
both_quiet s t b c f g h = let n = never s t h in neither b c (f n.0) (g n.1)

mutual
  quiet : (x : List ℕ) (e : Tree) → occurrences x e ≡ Never → assigns x e ≡ false
  quiet x (Node p t k) h = quiet_kind x k h

  quiet_kind : (x : List ℕ) (k : Kind) → occurrences_in x k ≡ Never → kind_assigns x k ≡ false
  quiet_kind x (Unary o a) h = quiet x a h
  quiet_kind x (Step a up before) h = unnamed x a h
  quiet_kind x (Binary o a b) h = both_quiet (occurrences x a) (occurrences x b) (assigns x a) (assigns x b) (quiet x a) (quiet x b) h
  quiet_kind x (AndThen a b) h = both_quiet (occurrences x a) (occurrences x b) (assigns x a) (assigns x b) (quiet x a) (quiet x b) h
  quiet_kind x (OrElse a b) h = both_quiet (occurrences x a) (occurrences x b) (assigns x a) (assigns x b) (quiet x a) (quiet x b) h
  quiet_kind x (Choice c a b) h =
      both_quiet (occurrences x c) (sum (occurrences x a) (occurrences x b)) (assigns x c) (assigns x a || assigns x b) (quiet x c)
      (both_quiet (occurrences x a) (occurrences x b) (assigns x a) (assigns x b) (quiet x a) (quiet x b)) h
  quiet_kind x (Assign o a b) h = both_quiet (occurrences x a) (occurrences x b) (is_name x a) (assigns x b) (unnamed x a) (quiet x b) h
  quiet_kind x (Comma all) h = quiet_all x all h
  quiet_kind x (Cast u a written) h = quiet x a h
  quiet_kind x (Call f all) h = quiet_all x all h
  quiet_kind x k h = refl

  quiet_all : (x : List ℕ) (all : Trees) → occurrences_in_all x all ≡ Never → any_assigns x all ≡ false
  quiet_all x NoTrees h = refl
  quiet_all x (More a rest) h = both_quiet (occurrences x a) (occurrences_in_all x rest) (assigns x a) (any_assigns x rest) (quiet x a) (quiet_all x rest) h

-- ---- what is assigned to is changed

targeted : (x : List ℕ) (a : Tree) → is_name x a ≡ true → is_target x a ≡ true
targeted x (Node p t (Name y)) h = h
targeted x (Node p t k) h = absurd (cc)

-- either part
or_from : (b c d e : Bool) → (b ≡ true → d ≡ true) → (c ≡ true → e ≡ true) → (b || c) ≡ true → (d || e) ≡ true
or_from true c d e f g h = by_first d e (f refl)
or_from false c d e f g h = by_second d e (g h)

mutual
  changed : (x : List ℕ) (e : Tree) → assigns x e ≡ true → changes x e ≡ true
  changed x (Node p t k) h = changed_kind x k h

  changed_kind : (x : List ℕ) (k : Kind) → kind_assigns x k ≡ true → changes_in x k ≡ true
  changed_kind x (Unary o a) h = changed x a h
  changed_kind x (Step a up before) h = by_first (is_target x a) (changes x a) (targeted x a h)
  changed_kind x (Binary o a b) h = or_from (assigns x a) (assigns x b) (changes x a) (changes x b) (changed x a) (changed x b) h
  changed_kind x (AndThen a b) h = or_from (assigns x a) (assigns x b) (changes x a) (changes x b) (changed x a) (changed x b) h
  changed_kind x (OrElse a b) h = or_from (assigns x a) (assigns x b) (changes x a) (changes x b) (changed x a) (changed x b) h
  changed_kind x (Choice c a b) h =
      or_from (assigns x c) (assigns x a || assigns x b) (changes x c) (changes x a || changes x b) (changed x c)
      (or_from (assigns x a) (assigns x b) (changes x a) (changes x b) (changed x a) (changed x b)) h
  changed_kind x (Assign o a b) h =
      or_from (is_name x a) (assigns x b) (is_target x a) (changes x a || changes x b) (targeted x a) (λ g. by_second (changes x a) (changes x b) (changed x b g)) h
  changed_kind x (Comma all) h = changed_all x all h
  changed_kind x (Cast u a written) h = changed x a h
  changed_kind x (Call f all) h = changed_all x all h
  changed_kind x k h = absurd (cc)

  changed_all : (x : List ℕ) (all : Trees) → any_assigns x all ≡ true → changes_in_all x all ≡ true
  changed_all x NoTrees h = absurd (cc)
  changed_all x (More a rest) h = or_from (assigns x a) (any_assigns x rest) (changes x a) (changes_in_all x rest) (changed x a) (changed_all x rest) h

-- ---- operands

-- each variable that is assigned to among these occurs once among them
abbrev LoneAmong : Trees → Type 0
LoneAmong all = (x : List ℕ) → any_assigns x all ≡ true → occurrences_in_all x all ≡ Once

-- the same of an expression
abbrev pub Lone : Tree → Type 0
Lone e = (x : List ℕ) → assigns x e ≡ true → occurrences x e ≡ Once

-- a part of what occurs once, that assigns and so occurs
first_lone : (s t : Times) (b : Bool) → (s ≡ Never → b ≡ false) → sum s t ≡ Once → b ≡ true → s ≡ Once
first_lone s t b quiet h g = at (once s t h)
  where
    at : ((s ≡ Once) × (t ≡ Never)) ⊎ ((s ≡ Never) × (t ≡ Once)) → s ≡ Once
    at (inl e) = e.0
    at (inr e) = isnt b g (quiet e.0)

second_lone : (s t : Times) (b : Bool) → (t ≡ Never → b ≡ false) → sum s t ≡ Once → b ≡ true → t ≡ Once
second_lone s t b quiet h g = at (once s t h)
  where
    at : ((s ≡ Once) × (t ≡ Never)) ⊎ ((s ≡ Never) × (t ≡ Once)) → t ≡ Once
    at (inl e) = isnt b g (quiet e.1)
    at (inr e) = e.1

pub rest_lone : (a : Tree) (rest : Trees) → LoneAmong (More a rest) → LoneAmong rest
rest_lone a rest l x h =
    second_lone (occurrences x a) (occurrences_in_all x rest) (any_assigns x rest) (quiet_all x rest) (l x (by_second (assigns x a) (any_assigns x rest) h)) h

pub front_lone : (a : Tree) (rest : Trees) → LoneAmong (More a rest) → Lone a
front_lone a rest l x h =
    first_lone (occurrences x a) (occurrences_in_all x rest) (assigns x a) (quiet x a) (l x (by_first (assigns x a) (any_assigns x rest) h)) h

-- without the immediate they occur no more often
operands_never : (x : List ℕ) (ks : List ParamKind) (all : Trees) → occurrences_in_all x all ≡ Never → occurrences_in_all x (operands ks all) ≡ Never
operands_never x [] all h = refl
operands_never x (kind.Immediate ∷ ks) NoTrees h = refl
operands_never x (kind.Immediate ∷ ks) (More a rest) h = operands_never x ks rest (never (occurrences x a) (occurrences_in_all x rest) h).1
operands_never x (k ∷ ks) NoTrees h = refl
operands_never x (k ∷ ks) (More a rest) h =
    let n = never (occurrences x a) (occurrences_in_all x rest) h in
    sum_never (occurrences x a) (occurrences_in_all x (operands ks rest)) n.0 (operands_never x ks rest n.1)
  where
    sum_never : (s t : Times) → s ≡ Never → t ≡ Never → sum s t ≡ Never
    sum_never s t e f = rw (e, f) refl

operands_assign : (x : List ℕ) (ks : List ParamKind) (all : Trees) → any_assigns x (operands ks all) ≡ true → any_assigns x all ≡ true
operands_assign x [] all h = absurd (cc)
operands_assign x (kind.Immediate ∷ ks) NoTrees h = absurd (cc)
operands_assign x (kind.Immediate ∷ ks) (More a rest) h = by_second (assigns x a) (any_assigns x rest) (operands_assign x ks rest h)
operands_assign x (k ∷ ks) NoTrees h = absurd (cc)
operands_assign x (k ∷ ks) (More a rest) h =
    or_from (assigns x a) (any_assigns x (operands ks rest)) (assigns x a) (any_assigns x rest) (λ g. g) (operands_assign x ks rest) h

operands_lone : (ks : List ParamKind) (all : Trees) → LoneAmong all → LoneAmong (operands ks all)
operands_lone [] all l x h = absurd (cc)
operands_lone (kind.Immediate ∷ ks) NoTrees l x h = absurd (cc)
operands_lone (kind.Immediate ∷ ks) (More a rest) l x h = operands_lone ks rest (rest_lone a rest l) x h
operands_lone (k ∷ ks) NoTrees l x h = absurd (cc)
operands_lone (k ∷ ks) (More a rest) l x h =
    at (once (occurrences x a) (occurrences_in_all x rest) (l x (operands_assign x (k ∷ ks) (More a rest) h))) (either (assigns x a) (any_assigns x (operands ks rest)) h)
    (operands_lone ks rest (rest_lone a rest l) x)
  where
    at : ((occurrences x a ≡ Once) × (occurrences_in_all x rest ≡ Never)) ⊎ ((occurrences x a ≡ Never) × (occurrences_in_all x rest ≡ Once))
        → (assigns x a ≡ true) ⊎ (any_assigns x (operands ks rest) ≡ true) → (any_assigns x (operands ks rest) ≡ true → occurrences_in_all x (operands ks rest) ≡ Once)
        → sum (occurrences x a) (occurrences_in_all x (operands ks rest)) ≡ Once
    at (inl e) g lone = rw (e.0, operands_never x ks rest e.1) refl
    at (inr e) (inl g) lone = isnt (assigns x a) g (quiet x a e.0)
    at (inr e) (inr g) lone = rw (e.0, lone g) refl

-- one of these is the variable
abbrev names_one : List ℕ → Trees → Bool
names_one x NoTrees = false
names_one x (More a rest) = is_name x a || names_one x rest

name_occurs : (x : List ℕ) (all : Trees) → occurrences_in_all x all ≡ Never → names_one x all ≡ false
name_occurs x NoTrees h = refl
name_occurs x (More a rest) h = both_quiet (occurrences x a) (occurrences_in_all x rest) (is_name x a) (names_one x rest) (unnamed x a) (name_occurs x rest) h

-- a variable assigns nothing
variable_quiet : (x y : List ℕ) (a : Tree) → is_name x a ≡ true → assigns y a ≡ false
variable_quiet x y (Node p t (Name z)) h = refl
variable_quiet x y (Node p t k) h = absurd (cc)

-- where a variable that is among these is assigned to, it occurs more than once
apart : (x : List ℕ) (all : Trees) → occurrences_in_all x all ≡ Once → any_assigns x all ≡ true → names_one x all ≡ false
apart x NoTrees h g = refl
apart x (More a rest) h g = at (once (occurrences x a) (occurrences_in_all x rest) h) (either (assigns x a) (any_assigns x rest) g) (apart x rest)
  where
    no_name : (b : Bool) → is_name x a ≡ b → assigns x a ≡ true → b ≡ false
    no_name true e f = isnt (assigns x a) f (variable_quiet x x a e)
    no_name false e f = refl

    at : ((occurrences x a ≡ Once) × (occurrences_in_all x rest ≡ Never)) ⊎ ((occurrences x a ≡ Never) × (occurrences_in_all x rest ≡ Once))
        → (assigns x a ≡ true) ⊎ (any_assigns x rest ≡ true) → (occurrences_in_all x rest ≡ Once → any_assigns x rest ≡ true → names_one x rest ≡ false)
        → (is_name x a || names_one x rest) ≡ false
    at (inl e) (inl f) more = neither (is_name x a) (names_one x rest) (no_name (is_name x a) refl f) (name_occurs x rest e.1)
    at (inl e) (inr f) more = isnt (any_assigns x rest) f (quiet_all x rest e.1)
    at (inr e) (inl f) more = isnt (assigns x a) f (quiet x a e.0)
    at (inr e) (inr f) more = neither (is_name x a) (names_one x rest) (unnamed x a e.0) (more e.1 f)

one_stays : (whole : Trees) (a : Tree) → ((x : List ℕ) → is_name x a ≡ true → any_assigns x whole ≡ false) → StaysAmong whole a
one_stays whole (Node p t (Name x)) h = h x ((bytes_eq-Decides x x).1 refl)
one_stays whole (Node p t k) h = tt

all_stay : (whole all : Trees) → ((x : List ℕ) → names_one x all ≡ true → any_assigns x whole ≡ false) → AllStayAmong whole all
all_stay whole NoTrees h = tt
all_stay whole (More a rest) h =
    (one_stays whole a (λ x g. h x (by_first (is_name x a) (names_one x rest) g)), all_stay whole rest (λ x g. h x (by_second (is_name x a) (names_one x rest) g)))

lone_stay : (all : Trees) → LoneAmong all → AllStayAmong all all
lone_stay all l = all_stay all all (λ x g. at x g (any_assigns x all) refl)
  where
    at : (x : List ℕ) → names_one x all ≡ true → (b : Bool) → any_assigns x all ≡ b → b ≡ false
    at x g true e = isnt (names_one x all) g (apart x all (l x e) e)
    at x g false e = refl

pub undisturbed : (ks : List ParamKind) (all : Trees) → LoneAmong all → AreUndisturbed (operands ks all)
undisturbed ks all l = at (are_plain (operands ks all))
  where
    at : (b : Bool) → StayUnless b (operands ks all)
    at true = tt
    at false = lone_stay (operands ks all) (operands_lone ks all l)

-- ---- expressions

-- no operand of a row that is called assigns to a variable beside it
abbrev pub CalmCall : Option IntelOp → Trees → Type 0
CalmCall None all = Unit {0}
CalmCall (Some op) all = AreUndisturbed (operands (params_of (signature_of op)) all)

abbrev mutual
  pub Calm : Tree → Type 0
  Calm (Node p t k) = CalmKind k

  pub CalmKind : Kind → Type 0
  CalmKind (Unary o a) = Calm a
  CalmKind (Binary o a b) = Calm a × Calm b
  CalmKind (AndThen a b) = Calm a × Calm b
  CalmKind (OrElse a b) = Calm a × Calm b
  CalmKind (Choice c a b) = Calm c × Calm a × Calm b
  CalmKind (Assign o a b) = Calm b
  CalmKind (Comma all) = AllCalm all
  CalmKind (Cast u a written) = Calm a
  CalmKind (Call f all) = CalmCall (find_of f) all × AllCalm all
  CalmKind k = Unit {0}

  pub AllCalm : Trees → Type 0
  AllCalm NoTrees = Unit {0}
  AllCalm (More a rest) = Calm a × AllCalm rest

calm_call : (o : Option IntelOp) (all : Trees) → LoneAmong all → CalmCall o all
calm_call None all l = tt
calm_call (Some op) all l = undisturbed (params_of (signature_of op)) all l

abbrev LoneKind : Kind → Type 0
LoneKind k = (x : List ℕ) → kind_assigns x k ≡ true → occurrences_in x k ≡ Once

first_of : (a b : Tree) → ((x : List ℕ) → (assigns x a || assigns x b) ≡ true → sum (occurrences x a) (occurrences x b) ≡ Once) → Lone a
first_of a b l x h = first_lone (occurrences x a) (occurrences x b) (assigns x a) (quiet x a) (l x (by_first (assigns x a) (assigns x b) h)) h

second_of : (a b : Tree) → ((x : List ℕ) → (assigns x a || assigns x b) ≡ true → sum (occurrences x a) (occurrences x b) ≡ Once) → Lone b
second_of a b l x h = second_lone (occurrences x a) (occurrences x b) (assigns x b) (quiet x b) (l x (by_second (assigns x a) (assigns x b) h)) h

condition_of : (c a b : Tree) → LoneKind (Choice c a b) → Lone c
condition_of c a b l x h =
    first_lone (occurrences x c) (sum (occurrences x a) (occurrences x b)) (assigns x c) (quiet x c) (l x (by_first (assigns x c) (assigns x a || assigns x b) h)) h

arms_of : (c a b : Tree) → LoneKind (Choice c a b) → (x : List ℕ) → (assigns x a || assigns x b) ≡ true → sum (occurrences x a) (occurrences x b) ≡ Once
arms_of c a b l x h =
    second_lone (occurrences x c) (sum (occurrences x a) (occurrences x b)) (assigns x a || assigns x b)
    (both_quiet (occurrences x a) (occurrences x b) (assigns x a) (assigns x b) (quiet x a) (quiet x b)) (l x (by_second (assigns x c) (assigns x a || assigns x b) h)) h

given_of : (o : Option BinOp) (a b : Tree) → LoneKind (Assign o a b) → Lone b
given_of o a b l x h = second_lone (occurrences x a) (occurrences x b) (assigns x b) (quiet x b) (l x (by_second (is_name x a) (assigns x b) h)) h

mutual
  pub lone_calm : (e : Tree) → Lone e → Calm e
  lone_calm (Node p t k) l = lone_kind k l

  lone_kind : (k : Kind) → LoneKind k → CalmKind k
  lone_kind (Unary o a) l = lone_calm a l
  lone_kind (Binary o a b) l = (lone_calm a (first_of a b l), lone_calm b (second_of a b l))
  lone_kind (AndThen a b) l = (lone_calm a (first_of a b l), lone_calm b (second_of a b l))
  lone_kind (OrElse a b) l = (lone_calm a (first_of a b l), lone_calm b (second_of a b l))
  lone_kind (Choice c a b) l = (lone_calm c (condition_of c a b l), lone_calm a (first_of a b (arms_of c a b l)), lone_calm b (second_of a b (arms_of c a b l)))
  lone_kind (Assign o a b) l = lone_calm b (given_of o a b l)
  lone_kind (Comma all) l = lone_all all l
  lone_kind (Cast u a written) l = lone_calm a l
  lone_kind (Call f all) l = (calm_call (find_of f) all l, lone_all all l)
  lone_kind k l = tt

  lone_all : (all : Trees) → LoneAmong all → AllCalm all
  lone_all NoTrees l = tt
  lone_all (More a rest) l = (lone_calm a (front_lone a rest l), lone_all rest (rest_lone a rest l))

-- ---- parts of full expressions

-- a part that passes and is no assignment
passed_lone : (env : Env) (callees : Callees) (p : Place) (t : CType) (k : Kind) → ((x : List ℕ) → assigns_once x (root (Node p t k)) ≡ false) → Passes env callees (Node p t k) → LoneKind k
passed_lone env callees p t k none h x g = at (h.o1 x (changed_kind x k g))
  where
    at : (occurrences_in x k ≡ Once) ⊎ (assigns_once x (root (Node p t k)) ≡ true) → occurrences_in x k ≡ Once
    at (inl e) = e
    at (inr e) = isnt (assigns_once x (root (Node p t k))) e (none x)

-- of an assignment what is given
passed_given : (env : Env) (callees : Callees) (p : Place) (t : CType) (o : Option BinOp) (a b : Tree) → Passes env callees (Node p t (Assign o a b)) → Lone b
passed_given env callees p t o a b h x g = at (h.o1 x (by_second (is_target x a) (changes x a || changes x b) (by_second (changes x a) (changes x b) (changed x b g))))
  where
    never_both : (b c : Bool) → (b && not c) ≡ true → c ≡ true → {A : Type 0} → A
    never_both true true e f = absurd (cc)
    never_both true false e f = absurd (cc)
    never_both false c e f = absurd (cc)

    at : (sum (occurrences x a) (occurrences x b) ≡ Once) ⊎ ((is_target x a && not (changes x b)) ≡ true) → occurrences x b ≡ Once
    at (inl e) = second_lone (occurrences x a) (occurrences x b) (assigns x b) (quiet x b) e g
    at (inr e) = never_both (is_target x a) (changes x b) e (changed x b g)

mutual
  pub passing_calm : (env : Env) (callees : Callees) (e : Tree) → EachPasses env callees e → Calm e
  passing_calm env callees (Node p t k) h = passing_kind env callees p t k h

  passing_kind : (env : Env) (callees : Callees) (p : Place) (t : CType) (k : Kind) → EachPassesIn env callees p t k → CalmKind k
  passing_kind env callees p t (AndThen a b) h = (passing_calm env callees a h.0, passing_calm env callees b h.1)
  passing_kind env callees p t (OrElse a b) h = (passing_calm env callees a h.0, passing_calm env callees b h.1)
  passing_kind env callees p t (Choice c a b) h = (passing_calm env callees c h.0, passing_calm env callees a h.1.0, passing_calm env callees b h.1.1)
  passing_kind env callees p t (Comma all) h = passing_all env callees all h
  passing_kind env callees p t (Cast u a false) h = passing_calm env callees a h
  passing_kind env callees p t (Cast u a true) h = lone_kind (Cast u a true) (passed_lone env callees p t (Cast u a true) (λ x. refl) h)
  passing_kind env callees p t (Assign o a b) h = lone_calm b (passed_given env callees p t o a b h)
  passing_kind env callees p t (Unary o a) h = lone_kind (Unary o a) (passed_lone env callees p t (Unary o a) (λ x. refl) h)
  passing_kind env callees p t (Binary o a b) h = lone_kind (Binary o a b) (passed_lone env callees p t (Binary o a b) (λ x. refl) h)
  passing_kind env callees p t (Call f all) h = lone_kind (Call f all) (passed_lone env callees p t (Call f all) (λ x. refl) h)
  passing_kind env callees p t k h = tt

  passing_all : (env : Env) (callees : Callees) (all : Trees) → EachPassesInAll env callees all → AllCalm all
  passing_all env callees NoTrees h = tt
  passing_all env callees (More a rest) h = (passing_calm env callees a h.0, passing_all env callees rest h.1)
