-- A declared object, a statement and a function with their types are given back by the check as they are.
use Rattle.std.proofs.Common.{◌≡◌, ℕ, ◌+◌, List, Bool, true, false, not, Option, Some, None, Ok, Err, refl, sym, ap, ◌∙◌, subst, if◌then◌else◌}
use Rattle.std.specs.Prelude.{is_some}
use Rattle.c_text.specs.declared.tokens.Place.{Place}
use Rattle.lane_core.specs.declared.number.Num.{Num}
use Rattle.const_imm.specs.Constant.{value_of}
use Rattle.c_tree.specs.declared.types.CType.{CType}
use Rattle.c_tree.specs.Tree.{Tree, Trees, NoTrees, More, Object}
use Rattle.c_tree.specs.Types.{is_array}
use Rattle.c_tree.specs.Marks.{short}
use Rattle.type_rules.specs.Types.{read_type, is_void_pointer, is_object, converted, assigned}
use Rattle.scopes.specs.Scopes.{Env, is_declared_here}
use Rattle.expression_types.specs.Check.{◌>>=◌, Checked, refuse, check}
use Rattle.object_types.specs.Reserved.{is_reserved}
use Rattle.object_types.specs.Objects.{is_object_type, new_name, unfit, count_of, is_alignment, alignment_of, alignment, is_room, is_member, member, members, count_all, element_of, number_of, is_open, with_number, Length, length_of, aligned, Start, closed_type, small_once, value_fits, number_for, is_no_trees, counted, start, declared_type, behind_declarator, check_object}
use Rattle.reading_again.proofs.Fixed.{Whenever, Each, Back, after, back_converted, anything, read_twice, read_twice_pointee, given_back, check_back}
use Rattle.reading_again.proofs.Expressions.{plain_type}
use Rattle.reading_again.proofs.Objects.{name_told, behind, on_side, on_later_side}

-- where there is an answer, it is this one
pub whenever_is : {A : Type 0} (x : Checked A) → Whenever x (λ a. x ≡ Ok a)
whenever_is (Ok a) = refl
whenever_is (Err r) = tt

-- with the answer itself
pub paired : {A : Type 0} (x : Checked A) (P : A → Type 0) → Whenever x P → Whenever x (λ a. (x ≡ Ok a) × P a)
paired (Ok a) P h = (refl, h)
paired (Err r) P h = tt

pub both : {A : Type 0} (x : Checked A) (P Q : A → Type 0) → Whenever x P → Whenever x Q → Whenever x (λ a. P a × Q a)
both (Ok a) P Q h k = (h, k)
both (Err r) P Q h k = tt

pub weaker : {A : Type 0} (P Q : A → Type 0) (x : Checked A) → ((a : A) → P a → Q a) → Whenever x P → Whenever x Q
weaker P Q (Ok a) f h = f a h
weaker P Q (Err r) f h = tt

-- ---- alignments and lengths

-- what an answer of a check with a test of its value is
tested_alignment : (v : Tree) (n : Option Num) → Whenever (alignment_of v n) (λ w. w ≡ v)
tested_alignment v None = tt
tested_alignment v (Some n) = at (is_alignment n.value)
  where
    at : (b : Bool) → Whenever (if b then Ok v else unfit v) (λ w. w ≡ v)
    at true = refl
    at false = tt

alignment_back : (e : Tree) (env : Env) → Whenever (alignment e env) (Back (λ v. alignment v env))
alignment_back e env =
    after (Back (λ v. check v env)) (Back (λ v. alignment v env)) (check e env) (λ v. alignment_of v (value_of v)) (check_back e env) (λ v _ h.
    at v h (alignment_of v (value_of v)) refl (tested_alignment v (value_of v)))
  where
    at : (v : Tree) → check v env ≡ Ok v → (x : Checked Tree) → alignment_of v (value_of v) ≡ x → Whenever x (λ w. w ≡ v) → Whenever x (Back (λ v. alignment v env))
    at v h (Ok w) e g = subst (λ u. alignment u env ≡ Ok w) (sym g) (ap (λ x. x >>= λ v. alignment_of v (value_of v)) h ∙ e)
    at v h (Err r) e g = tt

maybe_back : (a : Option Tree) (env : Env) → Whenever (aligned true a env) (Back (λ v. aligned true v env))
maybe_back None env = refl
maybe_back (Some e) env = after (Back (λ v. alignment v env)) (Back (λ v. aligned true v env)) (alignment e env) (λ v. Ok (Some v)) (alignment_back e env) (λ v _ h. ap (λ x. x >>= λ v. Ok (Some v)) h)

length_back : (a : Option Tree) (env : Env) → Whenever (length_of a env) (λ l. length_of l.expression env ≡ Ok l)
length_back None env = refl
length_back (Some e) env =
    after (Back (λ v. check v env)) (λ l. length_of l.expression env ≡ Ok l) (check e env) (λ v. count_of v (value_of v) >>= λ n. Ok (record { expression = Some v; number = Some n })) (check_back e env) (λ v _ h.
    after (λ n. count_of v (value_of v) ≡ Ok n) (λ l. length_of l.expression env ≡ Ok l) (count_of v (value_of v)) (λ n. Ok (record { expression = Some v; number = Some n })) (whenever_is (count_of v (value_of v))) (λ n _ g.
    ap (λ x. x >>= λ v. count_of v (value_of v) >>= λ n. Ok (record { expression = Some v; number = Some n })) h ∙ ap (λ x. x >>= λ n. Ok (record { expression = Some v; number = Some n })) g))

-- ---- the type of an object that has its types says of the declarator what the declared one does

plain_number : (n : Option ℕ) (t : CType) → is_array t ≡ false → with_number n t ≡ t
plain_number None t h = refl
plain_number (Some n) (CType.Array e m c) h = absurd (cc)
plain_number (Some n) t h = refl

pub plain_declared : (n : Option ℕ) (t : CType) (env : Env) → is_array (read_type env.dialect t) ≡ false → declared_type n t env ≡ read_type env.dialect t
plain_declared n t env h = ap (with_number n) (plain_type (read_type env.dialect t) h) ∙ plain_number n (read_type env.dialect t) h

-- the type of a plain object, with a number that changes nothing
pub plain_kept : (n m : Option ℕ) (t : CType) (env : Env) → is_array (read_type env.dialect t) ≡ false → with_number m (declared_type n t env) ≡ read_type env.dialect t
plain_kept n m t env h = ap (with_number m) (plain_declared n t env h) ∙ plain_number m (read_type env.dialect t) h

again_array : (env : Env) (t : CType) → is_array (read_type env.dialect t) ≡ false → is_array (read_type env.dialect (read_type env.dialect t)) ≡ false
again_array env t h = ap is_array (read_twice env.dialect t) ∙ h

plain_again : (n m : Option ℕ) (t : CType) (env : Env) → is_array (read_type env.dialect t) ≡ false → declared_type n (with_number m (declared_type n t env)) env ≡ declared_type n t env
plain_again n m t env h =
    ap (λ u. declared_type n u env) (plain_kept n m t env h) ∙ plain_declared n (read_type env.dialect t) env (again_array env t h) ∙ read_twice env.dialect t ∙ sym (plain_declared n t env h)

pub type_again : (n m : Option ℕ) (t : CType) (env : Env) → declared_type n (with_number m (declared_type n t env)) env ≡ declared_type n t env
type_again None None (CType.Array e k c) env = ap (λ f. CType.Array f 0 c) (read_twice_pointee env.dialect e)
type_again None (Some j) (CType.Array e k c) env = ap (λ f. CType.Array f 0 c) (read_twice_pointee env.dialect e)
type_again (Some i) None (CType.Array e k c) env = ap (λ f. CType.Array f i c) (read_twice_pointee env.dialect e)
type_again (Some i) (Some j) (CType.Array e k c) env = ap (λ f. CType.Array f i c) (read_twice_pointee env.dialect e)
type_again n m t env = plain_again n m t env refl

pub object_again : (n m : Option ℕ) (t : CType) (env : Env) → is_object_type (read_type env.dialect (with_number m (declared_type n t env))) ≡ is_object_type (read_type env.dialect t)
object_again None None (CType.Array e k c) env = ap is_object (read_twice_pointee env.dialect e)
object_again None (Some j) (CType.Array e k c) env = ap is_object (read_twice_pointee env.dialect e)
object_again (Some i) None (CType.Array e k c) env = ap is_object (read_twice_pointee env.dialect e)
object_again (Some i) (Some j) (CType.Array e k c) env = ap is_object (read_twice_pointee env.dialect e)
object_again n m t env = ap (λ u. is_object_type (read_type env.dialect u)) (plain_kept n m t env refl) ∙ ap is_object_type (read_twice env.dialect t)

void_again : (n m : Option ℕ) (t : CType) (env : Env) → is_void_pointer (read_type env.dialect (with_number m (declared_type n t env))) ≡ is_void_pointer (read_type env.dialect t)
void_again None None (CType.Array e k c) env = refl
void_again None (Some j) (CType.Array e k c) env = refl
void_again (Some i) None (CType.Array e k c) env = refl
void_again (Some i) (Some j) (CType.Array e k c) env = refl
void_again n m t env = ap (λ u. is_void_pointer (read_type env.dialect u)) (plain_kept n m t env refl) ∙ ap is_void_pointer (read_twice env.dialect t)

name_again : (x : List ℕ) (p : Place) (n m : Option ℕ) (t : CType) (env : Env) → new_name x p (read_type env.dialect (with_number m (declared_type n t env))) env ≡ new_name x p (read_type env.dialect t) env
name_again x p n m t env =
    ap (λ v. name_told (is_reserved env.dialect (env.neon x) x) (is_declared_here x env) (not v) (is_void_pointer (read_type env.dialect (with_number m (declared_type n t env)))) x p) (object_again n m t env)
    ∙ ap (λ v. name_told (is_reserved env.dialect (env.neon x) x) (is_declared_here x env) (not (is_object_type (read_type env.dialect t))) v x p) (void_again n m t env)

-- ---- what an object begins with

-- it is given back, and the type is the declared one with a number
abbrev pub Begun : List ℕ → Place → CType → Env → Start → Type 0
Begun x p t env s = (start x p t s.init s.list env ≡ Ok s) × ((m : Option ℕ) × (s.ty ≡ with_number m t))

-- the value, where there is one, is that of the declared object
abbrev pub Valued : Option Tree → Option Tree → Env → Type 0
Valued None None env = Unit {0}
Valued (Some e) (Some w) env = (a : Tree) × ((check e env ≡ Ok a) × (check w env ≡ Ok a))
Valued _ _ env = ⊥

closed_back : (x : List ℕ) (p : Place) (t : CType) → Whenever (closed_type x p t) (λ u. (closed_type x p t ≡ Ok u) × (u ≡ t))
closed_back x p t = at (is_open t)
  where
    at : (v : Bool) → Whenever (if v then refuse 11 p (short x) else Ok t) (λ u. ((if v then refuse 11 p (short x) else Ok t) ≡ Ok u) × (u ≡ t))
    at true = tt
    at false = (refl, refl)

of_value : (P : Tree → Type 0) (x : List ℕ) (p : Place) (v : Option Tree) → Each v P → Whenever (value_fits x p v) (λ w. P w × (value_fits x p v ≡ Ok w))
of_value P x p (Some v) h = (h, refl)
of_value P x p None h = tt

member_back : (t : CType) (room : Bool) (v : Tree) (env : Env) → check v env ≡ Ok v → Whenever (member t room v) (λ b. (check b env ≡ Ok v) × (member t room v ≡ Ok b))
member_back t room v env e = at (is_member t room v)
  where
    at : (w : Bool) → Whenever (if w then Ok (converted t v) else unfit v) (λ b. (check b env ≡ Ok v) × ((if w then Ok (converted t v) else unfit v) ≡ Ok b))
    at true = (back_converted t v env e, refl)
    at false = tt

members_back : (t : CType) (n : Option ℕ) (i : ℕ) (all : Trees) (env : Env) → Whenever (members t n i all env) (λ vs. members t n i vs env ≡ Ok vs)
members_back t n i NoTrees env = refl
members_back t n i (More a rest) env =
    after (Back (λ v. check v env)) (λ vs. members t n i vs env ≡ Ok vs) (check a env) (λ v. member t (is_room i n) v >>= λ b. members t n (i + 1) rest env >>= λ more. Ok (More b more)) (check_back a env) (λ v _ e.
    after (λ b. (check b env ≡ Ok v) × (member t (is_room i n) v ≡ Ok b)) (λ vs. members t n i vs env ≡ Ok vs) (member t (is_room i n) v) (λ b. members t n (i + 1) rest env >>= λ more. Ok (More b more)) (member_back t (is_room i n) v env e) (λ b _ h.
    after (λ vs. members t n (i + 1) vs env ≡ Ok vs) (λ vs. members t n i vs env ≡ Ok vs) (members t n (i + 1) rest env) (λ more. Ok (More b more)) (members_back t n (i + 1) rest env) (λ vs _ g.
    rw (h.0, h.1, g) refl)))

counted_back : (x : List ℕ) (p : Place) (t : CType) (all : Trees) → Whenever (counted x p t all) (λ s. s ≡ record { init = None; list = Some all; ty = with_number (number_for t (count_all all)) t })
counted_back x p t all = at (is_no_trees all)
  where
    whole : Start
    whole = record { init = None; list = Some all; ty = with_number (number_for t (count_all all)) t }

    at : (v : Bool) → Whenever (if v then refuse 11 p (short x) else (small_once (is_open t) x p (with_number (number_for t (count_all all)) t) >>= λ _. Ok whole)) (λ s. s ≡ whole)
    at true = tt
    at false = after (λ _. Unit {0}) (λ s. s ≡ whole) (small_once (is_open t) x p (with_number (number_for t (count_all all)) t)) (λ _. Ok whole) (anything (small_once (is_open t) x p (with_number (number_for t (count_all all)) t))) (λ _ _ _. refl)

start_back : (x : List ℕ) (p : Place) (t : CType) (init : Option Tree) (list : Option Trees) (env : Env) → Whenever (start x p t init list env) (Begun x p t env)
start_back x p t None None env =
    after (λ u. (closed_type x p t ≡ Ok u) × (u ≡ t)) (Begun x p t env) (closed_type x p t) (λ u. Ok (record { init = None; list = None; ty = u })) (closed_back x p t) (λ u _ h.
    (ap (λ x. x >>= λ u. Ok (record { init = None; list = None; ty = u })) h.0, (None, h.1)))
start_back x p t (Some e) None env =
    after (Back (λ v. check v env)) (Begun x p t env) (check e env) (λ v. value_fits x p (assigned t v) >>= λ w. Ok (record { init = Some w; list = None; ty = t })) (check_back e env) (λ v _ h.
    after (λ w. (check w env ≡ Ok v) × (value_fits x p (assigned t v) ≡ Ok w)) (Begun x p t env) (value_fits x p (assigned t v)) (λ w. Ok (record { init = Some w; list = None; ty = t })) (of_value (λ w. check w env ≡ Ok v) x p (assigned t v) (given_back t v env h)) (λ w _ g.
    (ap (λ y. y >>= λ v. value_fits x p (assigned t v) >>= λ w. Ok (record { init = Some w; list = None; ty = t })) g.0 ∙ ap (λ y. y >>= λ w. Ok (record { init = Some w; list = None; ty = t })) g.1, (None, refl))))
start_back x p t None (Some all) env =
    after (λ vs. members (element_of t) (number_of t) 0 vs env ≡ Ok vs) (Begun x p t env) (members (element_of t) (number_of t) 0 all env) (λ vs. counted x p t vs) (members_back (element_of t) (number_of t) 0 all env) (λ vs _ h.
    weaker (λ s. (counted x p t vs ≡ Ok s) × (s ≡ record { init = None; list = Some vs; ty = with_number (number_for t (count_all vs)) t })) (Begun x p t env) (counted x p t vs)
    (λ s g. (subst (λ r. start x p t r.init r.list env ≡ Ok s) (sym g.1) (ap (λ y. y >>= λ vs. counted x p t vs) h ∙ g.0), (number_for t (count_all vs), ap (λ r. r.ty) g.1)))
    (paired (counted x p t vs) (λ s. s ≡ record { init = None; list = Some vs; ty = with_number (number_for t (count_all vs)) t }) (counted_back x p t vs)))
start_back x p t (Some e) (Some all) env = tt

-- ---- objects

-- what is known of an object that is given back behind its alignment
pub record IsBack (first : Bool) (a : Option Tree) (d : Object) (env : Env) (v : Object) : Type 0 where
  pub back : behind first v.align v v.ty env ≡ Ok v
  pub side : v.align_first ≡ first
  pub kept : first ≡ true → v.align ≡ a
  pub name : v.name ≡ d.name
  pub constant : v.constant ≡ d.constant
  pub ty : (n : Option ℕ) × ((m : Option ℕ) × (v.ty ≡ with_number m (declared_type n d.ty env)))

alignment_kept : (first : Bool) (a : Option Tree) (env : Env) → Whenever (aligned (not first) a env) (λ b. (aligned (not first) b env ≡ Ok b) × (first ≡ true → b ≡ a))
alignment_kept true None env = (refl, λ _. refl)
alignment_kept true (Some e) env = (refl, λ _. refl)
alignment_kept false a env = weaker (Back (λ b. aligned true b env)) (λ b. (aligned true b env ≡ Ok b) × (false ≡ true → b ≡ a)) (aligned true a env) (λ b h. (h, λ e. absurd (cc))) (maybe_back a env)

behind_back : (first : Bool) (a : Option Tree) (d : Object) (env : Env) → Whenever (behind first a d d.ty env) (IsBack first a d env)
behind_back first a d env =
    after (λ u. new_name d.name d.place (read_type env.dialect d.ty) env ≡ Ok u) (IsBack first a d env) (new_name d.name d.place (read_type env.dialect d.ty) env) _ (whenever_is (new_name d.name d.place (read_type env.dialect d.ty) env)) (λ u _ name.
    after (λ l. length_of l.expression env ≡ Ok l) (IsBack first a d env) (length_of d.length env) _ (length_back d.length env) (λ l _ length.
    after (λ w. small_once (not (is_open (declared_type l.number d.ty env))) d.name d.place (declared_type l.number d.ty env) ≡ Ok w) (IsBack first a d env) (small_once (not (is_open (declared_type l.number d.ty env))) d.name d.place (declared_type l.number d.ty env)) _ (whenever_is (small_once (not (is_open (declared_type l.number d.ty env))) d.name d.place (declared_type l.number d.ty env))) (λ w _ size.
    after (λ b. (aligned (not first) b (scope l) ≡ Ok b) × (first ≡ true → b ≡ a)) (IsBack first a d env) (aligned (not first) a (scope l)) _ (alignment_kept first a (scope l)) (λ b _ align.
    after (Begun d.name d.place (declared_type l.number d.ty env) (scope l)) (IsBack first a d env) (start d.name d.place (declared_type l.number d.ty env) d.init d.list (scope l)) _ (start_back d.name d.place (declared_type l.number d.ty env) d.init d.list (scope l)) (λ s _ begun.
    record {
      back = again u l w b s name length size align.0 begun.0 begun.1.0 begun.1.1;
      side = refl;
      kept = align.1;
      name = refl;
      constant = refl;
      ty = (l.number, (begun.1.0, begun.1.1));
    })))))
  where
    scope : Length → Env
    scope l = behind_declarator d.name d.constant (declared_type l.number d.ty env) env

    whole : Length → Option Tree → Start → Object
    whole l b s = record { place = d.place; name = d.name; ty = s.ty; length = l.expression; constant = d.constant; align = b; align_first = first; init = s.init; list = s.list }

    typed : Length → Option Tree → Start → CType → Checked Object
    typed l b s t =
        small_once (not (is_open t)) d.name d.place t >>= λ _.
        aligned (not first) b (behind_declarator d.name d.constant t env) >>= λ c.
        start d.name d.place t s.init s.list (behind_declarator d.name d.constant t env) >>= λ r.
        Ok (whole l c r)

    again : (u : Bool) (l : Length) (w : Bool) (b : Option Tree) (s : Start) → new_name d.name d.place (read_type env.dialect d.ty) env ≡ Ok u → length_of l.expression env ≡ Ok l →
        small_once (not (is_open (declared_type l.number d.ty env))) d.name d.place (declared_type l.number d.ty env) ≡ Ok w → aligned (not first) b (scope l) ≡ Ok b →
        start d.name d.place (declared_type l.number d.ty env) s.init s.list (scope l) ≡ Ok s → (m : Option ℕ) → s.ty ≡ with_number m (declared_type l.number d.ty env) →
        behind first b (whole l b s) s.ty env ≡ Ok (whole l b s)
    again u l w b s name length size align begun m ty =
        ap (λ x. x >>= λ _. length_of l.expression env >>= λ k. typed k b s (declared_type k.number s.ty env)) (ap (λ t. new_name d.name d.place (read_type env.dialect t) env) ty ∙ name_again d.name d.place l.number m d.ty env ∙ name)
        ∙ ap (λ x. x >>= λ k. typed k b s (declared_type k.number s.ty env)) length
        ∙ ap (typed l b s) (ap (λ t. declared_type l.number t env) ty ∙ type_again l.number m d.ty env)
        ∙ ap (λ x. x >>= λ _. aligned (not first) b (scope l) >>= λ c. start d.name d.place (declared_type l.number d.ty env) s.init s.list (scope l) >>= λ r. Ok (whole l c r)) size
        ∙ ap (λ x. x >>= λ c. start d.name d.place (declared_type l.number d.ty env) s.init s.list (scope l) >>= λ r. Ok (whole l c r)) align
        ∙ ap (λ x. x >>= λ r. Ok (whole l b r)) begun

side_back : (first : Bool) (d : Object) (env : Env) → Whenever (on_side first d env) (λ v. on_side v.align_first v env ≡ Ok v)
side_back true d env =
    after (Back (λ b. aligned true b env)) (λ v. on_side v.align_first v env ≡ Ok v) (aligned true d.align env) (λ a. behind true a d d.ty env) (maybe_back d.align env) (λ a _ h.
    weaker (IsBack true a d env) (λ v. on_side v.align_first v env ≡ Ok v) (behind true a d d.ty env) (λ v k. subst (λ o. on_side o v env ≡ Ok v) (sym k.side)
    (ap (λ x. x >>= λ b. behind true b v v.ty env) (subst (λ o. aligned true o env ≡ Ok o) (sym (k.kept refl)) h) ∙ k.back))
    (behind_back true a d env))
side_back false d env =
    subst (λ x. Whenever x (λ v. on_side v.align_first v env ≡ Ok v)) (sym (on_later_side d env))
    (weaker (IsBack false d.align d env) (λ v. on_side v.align_first v env ≡ Ok v) (behind false d.align d d.ty env) (λ v k. subst (λ o. on_side o v env ≡ Ok v) (sym k.side) (on_later_side v env ∙ k.back)) (behind_back false d.align d env))

pub object_back : (d : Object) (env : Env) → Whenever (check_object d env) (Back (λ v. check_object v env))
object_back d env = side_back d.align_first d env

-- ---- what an object with its types keeps of the declared one

valued_start : (x : List ℕ) (p : Place) (t : CType) (init : Option Tree) (list : Option Trees) (env : Env) → Whenever (start x p t init list env) (λ s. Valued init s.init env × (is_some s.list ≡ is_some list))
valued_start x p t None None env = after (λ _. Unit {0}) (λ s. Valued None s.init env × (is_some s.list ≡ false)) (closed_type x p t) _ (anything (closed_type x p t)) (λ u _ _. (tt, refl))
valued_start x p t (Some e) None env =
    after (Back (λ v. check v env)) (λ s. Valued (Some e) s.init env × (is_some s.list ≡ false)) (check e env) _ (check_back e env) (λ v g h.
    after (λ w. (check w env ≡ Ok v) × (value_fits x p (assigned t v) ≡ Ok w)) (λ s. Valued (Some e) s.init env × (is_some s.list ≡ false)) (value_fits x p (assigned t v)) _ (of_value (λ w. check w env ≡ Ok v) x p (assigned t v) (given_back t v env h)) (λ w _ k.
    ((v, (g, k.0)), refl)))
valued_start x p t None (Some all) env =
    after (λ _. Unit {0}) (λ s. Valued None s.init env × (is_some s.list ≡ true)) (members (element_of t) (number_of t) 0 all env) _ (anything (members (element_of t) (number_of t) 0 all env)) (λ vs _ _.
    weaker (λ s. s ≡ record { init = None; list = Some vs; ty = with_number (number_for t (count_all vs)) t }) (λ s. Valued None s.init env × (is_some s.list ≡ true)) (counted x p t vs)
    (λ s g. subst (λ r. Valued None r.init env × (is_some r.list ≡ true)) (sym g) (tt, refl)) (counted_back x p t vs))
valued_start x p t (Some e) (Some all) env = tt

pub record Keeps (first : Bool) (d : Object) (env : Env) (v : Object) : Type 0 where
  pub place : v.place ≡ d.place
  pub name : v.name ≡ d.name
  pub constant : v.constant ≡ d.constant
  pub side : v.align_first ≡ first
  pub length : Option ℕ
  pub number : Option ℕ
  pub ty : v.ty ≡ with_number number (declared_type length d.ty env)
  pub valued : Valued d.init v.init (behind_declarator d.name d.constant (declared_type length d.ty env) env)
  pub listed : is_some v.list ≡ is_some d.list

behind_keeps : (first : Bool) (a : Option Tree) (d : Object) (env : Env) → Whenever (behind first a d d.ty env) (Keeps first d env)
behind_keeps first a d env =
    after (λ _. Unit {0}) (Keeps first d env) (new_name d.name d.place (read_type env.dialect d.ty) env) _ (anything (new_name d.name d.place (read_type env.dialect d.ty) env)) (λ _ _ _.
    after (λ _. Unit {0}) (Keeps first d env) (length_of d.length env) _ (anything (length_of d.length env)) (λ l _ _.
    after (λ _. Unit {0}) (Keeps first d env) (small_once (not (is_open (declared_type l.number d.ty env))) d.name d.place (declared_type l.number d.ty env)) _ (anything (small_once (not (is_open (declared_type l.number d.ty env))) d.name d.place (declared_type l.number d.ty env))) (λ _ _ _.
    after (λ _. Unit {0}) (Keeps first d env) (aligned (not first) a (scope l)) _ (anything (aligned (not first) a (scope l))) (λ b _ _.
    after (λ s. (Begun d.name d.place (declared_type l.number d.ty env) (scope l) s) × (Valued d.init s.init (scope l) × (is_some s.list ≡ is_some d.list))) (Keeps first d env) (start d.name d.place (declared_type l.number d.ty env) d.init d.list (scope l)) _
    (both (start d.name d.place (declared_type l.number d.ty env) d.init d.list (scope l)) (Begun d.name d.place (declared_type l.number d.ty env) (scope l)) (λ s. Valued d.init s.init (scope l) × (is_some s.list ≡ is_some d.list)) (start_back d.name d.place (declared_type l.number d.ty env) d.init d.list (scope l)) (valued_start d.name d.place (declared_type l.number d.ty env) d.init d.list (scope l)))
    (λ s _ h. record { place = refl; name = refl; constant = refl; side = refl; length = l.number; number = h.0.1.0; ty = h.0.1.1; valued = h.1.0; listed = h.1.1 })))))
  where
    scope : Length → Env
    scope l = behind_declarator d.name d.constant (declared_type l.number d.ty env) env

pub object_keeps : (d : Object) (env : Env) → Whenever (check_object d env) (Keeps d.align_first d env)
object_keeps d env = after (λ _. Unit {0}) (Keeps d.align_first d env) (aligned d.align_first d.align env) (λ a. behind d.align_first a d d.ty env) (anything (aligned d.align_first d.align env)) (λ a _ _. behind_keeps d.align_first a d env)
