-- What is left of a declared object gets the same types, and the same refusals where its alignment stands on the same side of its name.
use Rattle.std.proofs.Common.{◌≡◌, ◌+◌, ℕ, List, [], Bool, true, false, not, ◌&&◌, Option, Some, None, Ok, Err, refl, sym, ap, ◌∙◌, subst, if◌then◌else◌}
use Rattle.std.specs.Prelude.{option_map, int_le, pos, unsigned_abs}
use Rattle.c_text.specs.declared.tokens.Dialect.{Dialect}
use Rattle.c_text.specs.declared.tokens.Place.{Place}
use Rattle.c_text.specs.declared.refusals.Refusal.{Refusal}
use Rattle.lane_core.specs.declared.number.Num.{Num}
use Rattle.const_imm.specs.Constant.{value_of}
use Rattle.const_imm.specs.Sizes.{size_of}
use Rattle.c_tree.specs.declared.types.CType.{CType}
use Rattle.c_tree.specs.Tree as tree
use Rattle.c_tree.specs.Tree.{Tree, Kind, Trees, Node, NoTrees, More, Object}
use Rattle.c_tree.specs.Nodes.{node_type, node_place, root, root_kind}
use Rattle.c_tree.specs.Same.{nowhere, unnumbered, stripped, stripped_all, stripped_object}
use Rattle.c_tree.specs.Marks.{short, mark}
use Rattle.type_rules.specs.Types.{read_type, is_void_pointer, converted, assigned}
use Rattle.scopes.specs.Scopes.{Env, is_declared_here}
use Rattle.expression_types.specs.Check.{◌>>=◌, Checked, refuse, check}
use Rattle.object_types.specs.Reserved.{is_reserved}
use Rattle.object_types.specs.Objects.{is_object_type, new_name, unfit, count_of, is_alignment, alignment_of, alignment, is_small, is_room, is_member, member, members, count_all, element_of, number_of, is_open, with_number, Length, length_of, aligned, Start, closed_type, small_once, value_fits, number_for, is_no_trees, counted, start, declared_type, behind_declarator, check_object}
use Rattle.reading_again.specs.Unplaced.{unplaced, unplaced_kind, unplaced_all, unplaced_object}
use Rattle.reading_again.specs.Answers.{unplaced_answer}
use Rattle.reading_again.specs.Plain.{Plain, PlainAll, PlainPart, PlainList, PlainObject}
use Rattle.reading_again.specs.Left.{left_object}
use Rattle.reading_again.proofs.Answers.{Alike, go_on, refuse_alike}
use Rattle.reading_again.proofs.Constants.{closed, closed_env, formed, unformed, no_value}
use Rattle.reading_again.proofs.Expressions.{same_thing, check_alike}
use Rattle.reading_again.proofs.Meanings.{same_value}
use Rattle.reading_again.proofs.Nodes.{same_node_type, same_mark, same_converted, same_assigned}

-- ---- refusals that show a tree's root

mutual
  pub same_root : (a : Tree) → root (unplaced a) ≡ unplaced (root a)
  same_root (Node p t k) = same_root_kind k p t

  same_root_kind : (k : Kind) (p : Place) (t : CType) → root_kind nowhere t (unplaced_kind k) ≡ unplaced (root_kind p t k)
  same_root_kind (tree.Cast u a true) p t = refl
  same_root_kind (tree.Cast u a false) p t = same_root a
  same_root_kind k p t = refl

same_root_mark : (a b : Tree) → unplaced a ≡ unplaced b → mark (root a) ≡ mark (root b)
same_root_mark a b e = sym (same_mark (root a)) ∙ ap mark (sym (same_root a)) ∙ ap (λ t. mark (root t)) e ∙ ap mark (same_root b) ∙ same_mark (root b)

unfit_alike : {A B : Type 0} (exact : Bool) (f : A → B) (a b : Tree) → unplaced a ≡ unplaced b → Alike exact f (unfit a) (unfit b)
unfit_alike exact f a b e = subst (λ m. Alike exact f (refuse 11 (node_place (root a)) (mark (root a))) (refuse 11 (node_place (root b)) m)) (same_root_mark a b e) (refuse_alike exact f 11 (node_place (root a)) (node_place (root b)) (mark (root a)))

equal_values : (a b : Tree) → unplaced a ≡ unplaced b → value_of a ≡ value_of b
equal_values a b e = sym (same_value a) ∙ ap value_of e ∙ same_value b

-- what may be done to a value, or else a refusal of its tree
where_fit : {A B : Type 0} (exact v : Bool) (f : A → B) (x y : A) (a b : Tree) → f x ≡ f y → unplaced a ≡ unplaced b → Alike exact f (if v then Ok x else unfit a) (if v then Ok y else unfit b)
where_fit exact true f x y a b e same = ap (λ t. Ok t) e
where_fit exact false f x y a b e same = unfit_alike exact f a b same

-- ---- lengths and alignments

pub count_alike : (exact : Bool) (a b : Tree) → unplaced a ≡ unplaced b → Alike exact same_thing (count_of a (value_of a)) (count_of b (value_of b))
count_alike exact a b e = subst (λ n. Alike exact same_thing (count_of a (value_of a)) (count_of b n)) (equal_values a b e) (at (value_of a))
  where
    at : (n : Option Num) → Alike exact same_thing (count_of a n) (count_of b n)
    at (Some n) = where_fit exact (int_le (pos 1) n.value) same_thing (unsigned_abs n.value) (unsigned_abs n.value) a b refl e
    at None = unfit_alike exact same_thing a b e

alignment_alike : (exact : Bool) (e : Tree) (env : Env) → Plain e → Alike exact unplaced (alignment e env) (alignment (stripped e) env)
alignment_alike exact e env plain = go_on exact unplaced unplaced _ _ _ _ (check_alike exact e env plain) (λ a b h. subst (λ n. Alike exact unplaced (alignment_of a (value_of a)) (alignment_of b n)) (equal_values a b h) (at a b h (value_of a)))
  where
    at : (a b : Tree) → unplaced a ≡ unplaced b → (n : Option Num) → Alike exact unplaced (alignment_of a n) (alignment_of b n)
    at a b h (Some n) = where_fit exact (is_alignment n.value) unplaced a b a b h h
    at a b h None = unfit_alike exact unplaced a b h

-- an alignment that is judged now
abbrev pub maybe : Option Tree → Env → Checked (Option Tree)
maybe a env = aligned true a env

pub maybe_alike : (exact : Bool) (a : Option Tree) (env : Env) → PlainPart a → Alike exact (option_map unplaced) (maybe a env) (maybe (option_map stripped a) env)
maybe_alike exact None env plain = refl
maybe_alike exact (Some e) env plain = go_on exact unplaced (option_map unplaced) _ _ _ _ (alignment_alike exact e env plain) (λ a b h. ap (λ t. Ok (Some t)) h)

abbrev unplaced_length : Length → Length
unplaced_length l = record { expression = option_map unplaced l.expression; number = l.number }

length_alike : (exact : Bool) (a : Option Tree) (env : Env) → PlainPart a → Alike exact unplaced_length (length_of a env) (length_of (option_map stripped a) env)
length_alike exact None env plain = refl
length_alike exact (Some e) env plain =
    go_on exact unplaced unplaced_length _ _ _ _ (check_alike exact e env plain) (λ a b h. go_on exact same_thing unplaced_length _ _ _ _ (count_alike exact a b h) (λ n m k.
    rw (h, k) refl))

-- ---- names and sizes

pub same_object_type : (dialect : Dialect) (t : CType) → is_object_type (read_type dialect (unnumbered t)) ≡ is_object_type (read_type dialect t)
same_object_type dialect (CType.Array e n c) = refl
same_object_type dialect t = refl

same_void_pointer : (dialect : Dialect) (t : CType) → is_void_pointer (read_type dialect (unnumbered t)) ≡ is_void_pointer (read_type dialect t)
same_void_pointer dialect (CType.Array e n c) = refl
same_void_pointer dialect t = refl

pub same_declared : (n : Option ℕ) (t : CType) (env : Env) → declared_type n (unnumbered t) env ≡ declared_type n t env
same_declared n (CType.Array e m c) env = refl
same_declared n t env = refl

-- a name is refused for the first of four reasons
abbrev pub name_told : Bool → Bool → Bool → Bool → List ℕ → Place → Checked Bool
name_told a b c d x p = if a then refuse 12 p (short x) else if b then refuse 11 p (short x) else if c then refuse 11 p (short x) else if d then refuse 18 p (short x) else Ok true

pub told_alike : (exact a b c d : Bool) (x : List ℕ) (p q : Place) → Alike exact same_thing (name_told a b c d x p) (name_told a b c d x q)
told_alike exact true b c d x p q = refuse_alike exact same_thing 12 p q (short x)
told_alike exact false true c d x p q = refuse_alike exact same_thing 11 p q (short x)
told_alike exact false false true d x p q = refuse_alike exact same_thing 11 p q (short x)
told_alike exact false false false true x p q = refuse_alike exact same_thing 18 p q (short x)
told_alike exact false false false false x p q = refl

name_alike : (exact : Bool) (x : List ℕ) (p : Place) (t : CType) (env : Env) → Alike exact same_thing (new_name x p (read_type env.dialect t) env) (new_name x nowhere (read_type env.dialect (unnumbered t)) env)
name_alike exact x p t env = rw (same_object_type env.dialect t, same_void_pointer env.dialect t)
    (told_alike exact (is_reserved env.dialect (env.neon x) x) (is_declared_here x env) (not (is_object_type (read_type env.dialect t))) (is_void_pointer (read_type env.dialect t)) x p nowhere)

small_alike : (exact now : Bool) (x : List ℕ) (p q : Place) (t : CType) → Alike exact same_thing (small_once now x p t) (small_once now x q t)
small_alike exact false x p q t = refl
small_alike exact true x p q t = at (is_small (size_of t))
  where
    at : (v : Bool) → Alike {A = Bool} exact same_thing (if v then Ok true else refuse 20 p (short x)) (if v then Ok true else refuse 20 q (short x))
    at true = refl
    at false = refuse_alike exact same_thing 20 p q (short x)

-- ---- what an object begins with

pub member_alike : (exact : Bool) (t : CType) (room : Bool) (a b : Tree) → unplaced a ≡ unplaced b → Alike exact unplaced (member t room a) (member t room b)
member_alike exact t room a b e =
    let same : is_member t room a ≡ is_member t room b = rw (sym (same_node_type a) ∙ ap node_type e ∙ same_node_type b, equal_values a b e) refl in
    subst (λ v. Alike exact unplaced (member t room a) (if v then Ok (converted t b) else unfit b)) same
    (where_fit exact (is_member t room a) unplaced (converted t a) (converted t b) a b (same_converted t a ∙ ap (converted t) e ∙ sym (same_converted t b)) e)

members_alike : (exact : Bool) (t : CType) (n : Option ℕ) (i : ℕ) (all : Trees) (env : Env) → PlainAll all → Alike exact unplaced_all (members t n i all env) (members t n i (stripped_all all) env)
members_alike exact t n i NoTrees env plain = refl
members_alike exact t n i (More a rest) env plain =
    go_on exact unplaced unplaced_all _ _ _ _ (check_alike exact a env plain.0) (λ x y e. go_on exact unplaced unplaced_all _ _ _ _ (member_alike exact t (is_room i n) x y e) (λ v w f. go_on exact unplaced_all unplaced_all _ _ _ _ (members_alike exact t n (i + 1) rest env plain.1) (λ xs ys g.
    ap (λ t. Ok (More t (unplaced_all xs))) f ∙ ap (λ t. Ok (More (unplaced w) t)) g)))

abbrev unplaced_start : Start → Start
unplaced_start s = record { init = option_map unplaced s.init; list = option_map unplaced_all s.list; ty = s.ty }

same_no_trees : (all : Trees) → is_no_trees (unplaced_all all) ≡ is_no_trees all
same_no_trees NoTrees = refl
same_no_trees (More a rest) = refl

same_count : (all : Trees) → count_all (unplaced_all all) ≡ count_all all
same_count NoTrees = refl
same_count (More a rest) = rw (same_count rest) refl

closed_alike : (exact : Bool) (x : List ℕ) (p : Place) (t : CType) → Alike exact same_thing (closed_type x p t) (closed_type x nowhere t)
closed_alike exact x p t = at (is_open t)
  where
    at : (v : Bool) → Alike {A = CType} exact same_thing (if v then refuse 11 p (short x) else Ok t) (if v then refuse 11 nowhere (short x) else Ok t)
    at true = refuse_alike exact same_thing 11 p nowhere (short x)
    at false = refl

value_alike : (exact : Bool) (x : List ℕ) (p : Place) (v w : Option Tree) → option_map unplaced v ≡ option_map unplaced w → Alike exact unplaced (value_fits x p v) (value_fits x nowhere w)
value_alike exact x p (Some a) (Some b) e = ap (λ o. as_ok o) e
  where
    as_ok : Option Tree → Checked Tree
    as_ok (Some a) = Ok a
    as_ok None = refuse 11 nowhere []
value_alike exact x p None None e = refuse_alike exact unplaced 11 p nowhere (short x)
value_alike exact x p (Some a) None e = absurd (cc)
value_alike exact x p None (Some b) e = absurd (cc)

counted_alike : (exact : Bool) (x : List ℕ) (p : Place) (t : CType) (all others : Trees) → unplaced_all all ≡ unplaced_all others → Alike exact unplaced_start (counted x p t all) (counted x nowhere t others)
counted_alike exact x p t all others e =
    let none : is_no_trees all ≡ is_no_trees others = sym (same_no_trees all) ∙ ap is_no_trees e ∙ same_no_trees others in
    let count : count_all all ≡ count_all others = sym (same_count all) ∙ ap count_all e ∙ same_count others in
    subst (λ v. Alike exact unplaced_start (counted x p t all) (if v then refuse 11 nowhere (short x) else (small_once (is_open t) x nowhere (with_number (number_for t (count_all others)) t) >>= λ _. Ok (record { init = None; list = Some others; ty = with_number (number_for t (count_all others)) t })))) none
    (subst (λ n. Alike exact unplaced_start (counted x p t all) (if is_no_trees all then refuse 11 nowhere (short x) else (small_once (is_open t) x nowhere (with_number (number_for t n) t) >>= λ _. Ok (record { init = None; list = Some others; ty = with_number (number_for t n) t })))) count
    (at (is_no_trees all) (with_number (number_for t (count_all all)) t)))
  where
    at : (v : Bool) (u : CType) → Alike {A = Start} exact unplaced_start (if v then refuse 11 p (short x) else (small_once (is_open t) x p u >>= λ _. Ok (record { init = None; list = Some all; ty = u }))) (if v then refuse 11 nowhere (short x) else (small_once (is_open t) x nowhere u >>= λ _. Ok (record { init = None; list = Some others; ty = u })))
    at true u = refuse_alike exact unplaced_start 11 p nowhere (short x)
    at false u = go_on exact same_thing unplaced_start _ _ _ _ (small_alike exact (is_open t) x p nowhere u) (λ _ _ _. ap (λ l. Ok (record { init = None; list = Some l; ty = u })) e)

start_alike : (exact : Bool) (x : List ℕ) (p : Place) (t : CType) (init : Option Tree) (list : Option Trees) (env : Env) → PlainPart init → PlainList list → Alike exact unplaced_start (start x p t init list env) (start x nowhere t (option_map stripped init) (option_map stripped_all list) env)
start_alike exact x p t None None env h k = go_on exact same_thing unplaced_start _ _ _ _ (closed_alike exact x p t) (λ u v e. ap (λ w. Ok (record { init = None; list = None; ty = w })) e)
start_alike exact x p t (Some e) None env h k =
    go_on exact unplaced unplaced_start _ _ _ _ (check_alike exact e env h) (λ a b f. go_on exact unplaced unplaced_start _ _ _ _ (value_alike exact x p (assigned t a) (assigned t b) (same_assigned t a ∙ ap (assigned t) f ∙ sym (same_assigned t b))) (λ v w g.
    ap (λ o. Ok (record { init = Some o; list = None; ty = t })) g))
start_alike exact x p t None (Some all) env h k =
    go_on exact unplaced_all unplaced_start _ _ _ _ (members_alike exact (element_of t) (number_of t) 0 all env k) (λ a b f. counted_alike exact x p t a b f)
start_alike exact x p t (Some e) (Some all) env h k = refuse_alike exact unplaced_start 11 p nowhere (short x)

-- ---- objects

-- an object behind its alignment, which stands on this side
abbrev pub behind : Bool → Option Tree → Object → CType → Env → Checked Object
behind first a d t env =
    new_name d.name d.place (read_type env.dialect t) env >>= λ _.
    length_of d.length env >>= λ l.
    small_once (not (is_open (declared_type l.number t env))) d.name d.place (declared_type l.number t env) >>= λ _.
    aligned (not first) a (behind_declarator d.name d.constant (declared_type l.number t env) env) >>= λ b.
    start d.name d.place (declared_type l.number t env) d.init d.list (behind_declarator d.name d.constant (declared_type l.number t env) env) >>= λ s.
    Ok (record { place = d.place; name = d.name; ty = s.ty; length = l.expression; constant = d.constant; align = b; align_first = first; init = s.init; list = s.list })

-- an object whose alignment stands on this side
abbrev pub on_side : Bool → Object → Env → Checked Object
on_side first d env = aligned first d.align env >>= λ a. behind first a d d.ty env

behind_alike : (exact first second : Bool) (a b : Option Tree) (d : Object) (env : Env) → PlainObject d →
    ((x : List ℕ) (c : Bool) (t : CType) → Alike exact (option_map unplaced) (aligned (not first) a (behind_declarator x c t env)) (aligned (not second) b (behind_declarator x c t env))) →
    Alike exact unplaced_object (behind first a d d.ty env) (behind second b (stripped_object d) (unnumbered d.ty) env)
behind_alike exact first second a b d env plain sides =
    go_on exact same_thing unplaced_object _ _ _ _ (name_alike exact d.name d.place d.ty env) (λ _ _ _.
    go_on exact unplaced_length unplaced_object _ _ _ _ (length_alike exact d.length env plain.0) (λ l m e. same_rest l m e))
  where
    later : Length → CType → Checked Object
    later l t =
        small_once (not (is_open t)) d.name d.place t >>= λ _.
        aligned (not first) a (behind_declarator d.name d.constant t env) >>= λ b.
        start d.name d.place t d.init d.list (behind_declarator d.name d.constant t env) >>= λ s.
        Ok (record { place = d.place; name = d.name; ty = s.ty; length = l.expression; constant = d.constant; align = b; align_first = first; init = s.init; list = s.list })

    other : Length → CType → Checked Object
    other l t =
        small_once (not (is_open t)) d.name nowhere t >>= λ _.
        aligned (not second) b (behind_declarator d.name d.constant t env) >>= λ b.
        start d.name nowhere t (option_map stripped d.init) (option_map stripped_all d.list) (behind_declarator d.name d.constant t env) >>= λ s.
        Ok (record { place = nowhere; name = d.name; ty = s.ty; length = l.expression; constant = d.constant; align = b; align_first = second; init = s.init; list = s.list })

    whole : Option Tree → Option Tree → Start → Object
    whole length align s = record { place = nowhere; name = d.name; ty = s.ty; length = length; constant = d.constant; align = align; align_first = false; init = s.init; list = s.list }

    later_alike : (l m : Length) → unplaced_length l ≡ unplaced_length m → (t : CType) → Alike exact unplaced_object (later l t) (other m t)
    later_alike l m e t =
        go_on exact same_thing unplaced_object _ _ _ _ (small_alike exact (not (is_open t)) d.name d.place nowhere t) (λ _ _ _.
        go_on exact (option_map unplaced) unplaced_object _ _ _ _ (sides d.name d.constant t) (λ v w f.
        go_on exact unplaced_start unplaced_object _ _ _ _ (start_alike exact d.name d.place t d.init d.list (behind_declarator d.name d.constant t env) plain.1.1.0 plain.1.1.1) (λ s r g.
        ap (λ o. Ok (whole o.expression (option_map unplaced v) (unplaced_start s))) e ∙ ap (λ o. Ok (whole (option_map unplaced m.expression) o (unplaced_start s))) f ∙ ap (λ o. Ok (whole (option_map unplaced m.expression) (option_map unplaced w) o)) g)))

    same_rest : (l m : Length) → unplaced_length l ≡ unplaced_length m → Alike exact unplaced_object (later l (declared_type l.number d.ty env)) (other m (declared_type m.number (unnumbered d.ty) env))
    same_rest l m e = rw (same_declared m.number d.ty env, sym (ap (λ o. o.number) e)) (later_alike l m e (declared_type l.number d.ty env))

-- an alignment that is left for later stays as it is
pub aligned_later : (a : Option Tree) (env : Env) → aligned false a env ≡ Ok a
aligned_later None env = refl
aligned_later (Some e) env = refl

pub on_later_side : (d : Object) (env : Env) → on_side false d env ≡ behind false d.align d d.ty env
on_later_side d env = ap (λ v. v >>= λ a. behind false a d d.ty env) (aligned_later d.align env)

both_later : (exact : Bool) (a b : Option Tree) (env : Env) → option_map unplaced a ≡ option_map unplaced b → Alike exact (option_map unplaced) (aligned false a env) (aligned false b env)
both_later exact a b env e = rw (aligned_later a env, aligned_later b env) (ap (λ o. Ok o) e)

same_side : (exact first : Bool) (d : Object) (env : Env) → PlainObject d → Alike exact unplaced_object (on_side first d env) (on_side first (stripped_object d) env)
same_side exact true d env plain =
    go_on exact (option_map unplaced) unplaced_object _ _ _ _ (maybe_alike exact d.align env plain.1.0) (λ a b e. behind_alike exact true true a b d env plain (λ x c t. both_later exact a b (behind_declarator x c t env) e))
same_side exact false d env plain =
    subst (λ x. Alike exact unplaced_object x (on_side false (stripped_object d) env)) (sym (on_later_side d env))
    (subst (λ x. Alike exact unplaced_object (behind false d.align d d.ty env) x) (sym (on_later_side (stripped_object d) env))
    (behind_alike exact false false d.align (option_map stripped d.align) d env plain (λ x c t. maybe_alike exact d.align (behind_declarator x c t env) plain.1.0)))

-- ---- an alignment is the same on both sides of the name, where it is one

-- what a refusal is where only that there is one counts
abbrev pub one_refusal : Refusal
one_refusal = record { number = 0; place = nowhere; detail = [] }

abbrev pub Fails : {A : Type 0} → Checked A → Type 0
Fails x = unplaced_answer false same_thing x ≡ Err one_refusal

fails_at_first : {A B : Type 0} (x : Checked A) (h : A → Checked B) → Fails x → Fails (x >>= h)
fails_at_first (Ok a) h e = absurd (cc)
fails_at_first (Err r) h e = refl

pub fails_later : {A B : Type 0} (x : Checked A) (h : A → Checked B) → ((a : A) → Fails (h a)) → Fails (x >>= h)
fails_later (Ok a) h e = e a
fails_later (Err r) h e = refl

pub fails_by : {A B : Type 0} (f : A → B) (x : Checked A) → Fails x → unplaced_answer false f x ≡ Err one_refusal
fails_by f (Ok a) e = absurd (cc)
fails_by f (Err r) e = refl

pub by_fails : {A B : Type 0} (f : A → B) (x : Checked A) → unplaced_answer false f x ≡ Err one_refusal → Fails x
by_fails f (Ok a) e = absurd (cc)
by_fails f (Err r) e = refl

open_fails : (e : Tree) (env : Env) → closed e ≡ false → Fails (maybe (Some e) env)
open_fails e env h = fails_at_first (alignment e env) (λ v. Ok (Some v)) (at (check e env) (unformed e env h))
  where
    unset : (v : Tree) (n : Option Num) → n ≡ None → Fails (alignment_of v n)
    unset v None e = refl
    unset v (Some n) e = absurd (cc)

    at : (x : Checked Tree) → formed x ≡ None → Fails (x >>= λ v. alignment_of v (value_of v))
    at (Ok v) g = unset v (value_of v) (no_value v g)
    at (Err r) g = refl

-- a name in scope changes nothing of an alignment
pub maybe_env : (a : Option Tree) (env : Env) (x : List ℕ) (c : Bool) (t : CType) → Alike false (option_map unplaced) (maybe a (behind_declarator x c t env)) (maybe a env)
maybe_env None env x c t = refl
maybe_env (Some e) env x c t = at (closed e) refl
  where
    at : (v : Bool) → closed e ≡ v → Alike false (option_map unplaced) (maybe (Some e) (behind_declarator x c t env)) (maybe (Some e) env)
    at true h = ap (λ o. unplaced_answer false (option_map unplaced) ((o >>= λ v. alignment_of v (value_of v)) >>= λ v. Ok (Some v))) (closed_env e env x c t h)
    at false h = fails_by (option_map unplaced) (maybe (Some e) (behind_declarator x c t env)) (open_fails e (behind_declarator x c t env) h) ∙ sym (fails_by (option_map unplaced) (maybe (Some e) env) (open_fails e env h))

behind_fails : (b : Option Tree) (d : Object) (env : Env) → ((x : List ℕ) (c : Bool) (t : CType) → Fails (maybe b (behind_declarator x c t env))) → Fails (behind false b d d.ty env)
behind_fails b d env h =
    fails_later (new_name d.name d.place (read_type env.dialect d.ty) env) _ (λ _. fails_later (length_of d.length env) _ (λ l.
    fails_later (small_once (not (is_open (declared_type l.number d.ty env))) d.name d.place (declared_type l.number d.ty env)) _ (λ _.
    fails_at_first (maybe b (behind_declarator d.name d.constant (declared_type l.number d.ty env) env)) _ (h d.name d.constant (declared_type l.number d.ty env)))))

other_side : (d : Object) (env : Env) → PlainObject d → Alike false unplaced_object (on_side true d env) (on_side false (stripped_object d) env)
other_side d env plain = at (maybe d.align env) refl
  where
    -- the alignment of what is left, behind the name
    moved : (x : List ℕ) (c : Bool) (t : CType) → Alike false (option_map unplaced) (maybe d.align env) (maybe (option_map stripped d.align) (behind_declarator x c t env))
    moved x c t = sym (maybe_env d.align env x c t) ∙ maybe_alike false d.align (behind_declarator x c t env) plain.1.0

    at : (m : Checked (Option Tree)) → maybe d.align env ≡ m → Alike false unplaced_object (m >>= λ a. behind true a d d.ty env) (on_side false (stripped_object d) env)
    at (Ok a) e =
        subst (λ x. Alike false unplaced_object (behind true a d d.ty env) x) (sym (on_later_side (stripped_object d) env))
        (behind_alike false true false a (option_map stripped d.align) d env plain (λ x c t.
        ap (unplaced_answer false (option_map unplaced)) (aligned_later a (behind_declarator x c t env) ∙ sym e) ∙ moved x c t))
    at (Err r) e =
        subst (λ x. Alike {A = Object} false unplaced_object (Err r) x) (sym (on_later_side (stripped_object d) env))
        (sym (fails_by unplaced_object (behind false (option_map stripped d.align) (stripped_object d) (unnumbered d.ty) env) (behind_fails (option_map stripped d.align) (stripped_object d) env (λ x c t.
        by_fails (option_map unplaced) (maybe (option_map stripped d.align) (behind_declarator x c t env)) (sym (moved x c t) ∙ ap (unplaced_answer false (option_map unplaced)) e)))))

-- what is left of an object gets the same types
pub object_alike : (exact : Bool) (d : Object) (env : Env) → PlainObject d → Alike exact unplaced_object (check_object d env) (check_object (left_object exact d) env)
object_alike exact d env plain = at exact d.align_first
  where
    at : (exact first : Bool) → Alike exact unplaced_object (on_side first d env) (on_side (exact && first) (stripped_object d) env)
    at true first = same_side true first d env plain
    at false false = same_side false false d env plain
    at false true = other_side d env plain
