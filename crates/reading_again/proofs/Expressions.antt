-- What is left of an expression gets the same types and casts, and the same refusals.
use Rattle.std.proofs.Common.{◌≡◌, ℕ, List, Bool, true, false, Option, Some, None, Ok, refl, sym, ap, subst, ◌∙◌, if◌then◌else◌}
use Rattle.std.specs.Prelude.{option_map, codes, nat_lt, is_some}
use Rattle.c_text.specs.declared.tokens.Place.{Place}
use Rattle.lane_core.specs.declared.number.BinOp.{BinOp}
use Rattle.lane_core.specs.declared.number.Num.{Num}
use Rattle.lane_core.specs.declared.table.ImmRange.{ImmRange}
use Rattle.lane_core.specs.declared.table.ImmRange.TheVariants.{NoImmediate}
use Rattle.lane_core.specs.declared.number.IntType.TheVariants as int
use Rattle.lane_core.specs.declared.vector.Pointee.{Pointee}
use Rattle.const_imm.specs.Constant.{value_of}
use Rattle.const_imm.specs.Sizes.{size_of}
use Rattle.c_tree.specs.declared.types.CType.{CType}
use Rattle.c_tree.specs.Types.{is_array}
use Rattle.c_tree.specs.Tree as tree
use Rattle.c_tree.specs.Tree.{Tree, Kind, Trees, Node, NoTrees, More}
use Rattle.c_tree.specs.Nodes.{node_place, node_type}
use Rattle.c_tree.specs.Same.{nowhere, unnumbered, stripped, stripped_kind, stripped_all}
use Rattle.c_tree.specs.Marks.{short, mark}
use Rattle.type_rules.specs.Types.{read_type, read_pointee, is_void_pointer}
use Rattle.type_rules.specs.Operations.{unary_node, step_node, binary_node, and_node, or_node, choice_node, assign_node, comma_node, cast_node, is_cast, index_node, deref_node, half_node, pair_node, size_node, size_of_name_node, name_node}
use Rattle.type_rules.specs.Passing.{passed, immediate_of, is_in_range}
use Rattle.scopes.specs.declared.environment.Object.{Object}
use Rattle.scopes.specs.Scopes.{Env, Callee, Row, named, object_named}
use Rattle.expression_types.specs.Names.{is_widening, widening, is_unknown_intrinsic, is_function, Target}
use Rattle.expression_types.specs.Objects.{is_writable, address_node}
use Rattle.expression_types.specs.Check.{◌>>=◌, Checked, refuse, typed, admitted, used_as, used, row_called, function_called, object_called, called, in_range, immediate_fits, fitting, call, one, check, check_kind, check_all}
use Rattle.reading_again.specs.Unplaced.{unplaced, unplaced_all}
use Rattle.reading_again.specs.Plain.{Plain, PlainKind, PlainAll}
use Rattle.reading_again.proofs.Answers.{Alike, go_on, refuse_alike, typed_alike, admitted_alike}
use Rattle.reading_again.proofs.Meanings.{same_value}
use Rattle.reading_again.proofs.Nodes.{same_mark, where_holds, same_name, same_unary, same_step, same_binary, same_and, same_or, same_choice, same_assign, same_comma, same_cast, same_index, same_deref, same_half, same_pair, same_designated, same_address, same_passed, same_immediate}

-- a value of no tree
abbrev pub same_thing : {A : Type 0} → A → A
same_thing a = a

-- ---- names

used_alike : (exact : Bool) (x : List ℕ) (p q : Place) (env : Env) → Alike exact same_thing (used x p env) (used x q env)
used_alike exact x p q env = at (object_named x env)
  where
    no_object : (v : Bool) → Alike {A = Object} exact same_thing (if v then refuse 18 p (short x) else refuse 10 p (short x)) (if v then refuse 18 q (short x) else refuse 10 q (short x))
    no_object true = refuse_alike exact same_thing 18 p q (short x)
    no_object false = refuse_alike exact same_thing 10 p q (short x)

    at : (o : Option Object) → Alike exact same_thing (used_as x p env o) (used_as x q env o)
    at (Some o) = refl
    at None = no_object (is_function x env)

row_alike : (exact : Bool) (x : List ℕ) (p q : Place) (env : Env) (r : Option Row) → Alike exact same_thing (row_called x p env r) (row_called x q env r)
row_alike exact x p q env (Some r) = refl
row_alike exact x p q env None = at (is_widening env.dialect x)
  where
    wide : Target
    wide = record { heading = widening; range = NoImmediate; outside = true }

    at : (v : Bool) → Alike {A = Target} exact same_thing (if v then Ok wide else refuse 10 p (short x)) (if v then Ok wide else refuse 10 q (short x))
    at true = refl
    at false = refuse_alike exact same_thing 10 p q (short x)

function_alike : (exact : Bool) (x : List ℕ) (p q : Place) (env : Env) (f : Option Callee) → Alike exact same_thing (function_called x p env f) (function_called x q env f)
function_alike exact x p q env None = row_alike exact x p q env (env.rows x)
function_alike exact x p q env (Some f) = at (nat_lt f.order env.here)
  where
    at : (v : Bool) → Alike {A = Target} exact same_thing (if v then Ok (record { heading = f.heading; range = NoImmediate; outside = env.calls_none }) else refuse 17 p (short x)) (if v then Ok (record { heading = f.heading; range = NoImmediate; outside = env.calls_none }) else refuse 17 q (short x))
    at true = refl
    at false = refuse_alike exact same_thing 17 p q (short x)

called_alike : (exact : Bool) (x : List ℕ) (p q : Place) (env : Env) → Alike exact same_thing (called x p env) (called x q env)
called_alike exact x p q env = at (is_unknown_intrinsic x env)
  where
    of_object : (o : Option Object) → Alike exact same_thing (object_called x p env o) (object_called x q env o)
    of_object (Some o) = refuse_alike exact same_thing 11 p q (short x)
    of_object None = function_alike exact x p q env (named x env.functions)

    at : (v : Bool) → Alike {A = Target} exact same_thing (if v then refuse 13 p (short x) else object_called x p env (object_named x env)) (if v then refuse 13 q (short x) else object_called x q env (object_named x env))
    at true = refuse_alike exact same_thing 13 p q (short x)
    at false = of_object (object_named x env)

-- ---- calls

abbrev told : ImmRange → Place → List ℕ → Option Num → Checked Bool
told range p d (Some n) = if is_in_range range n.value then Ok true else refuse 15 p d
told range p d None = refuse 14 p d

in_range_told : (range : ImmRange) (a : Tree) (n : Option Num) → in_range range a n ≡ told range (node_place a) (mark a) n
in_range_told range a (Some n) = refl
in_range_told range a None = refl

told_alike : (exact : Bool) (range : ImmRange) (p q : Place) (d : List ℕ) (n : Option Num) → Alike exact same_thing (told range p d n) (told range q d n)
told_alike exact range p q d None = refuse_alike exact same_thing 14 p q d
told_alike exact range p q d (Some n) = at (is_in_range range n.value)
  where
    at : (v : Bool) → Alike {A = Bool} exact same_thing (if v then Ok true else refuse 15 p d) (if v then Ok true else refuse 15 q d)
    at true = refl
    at false = refuse_alike exact same_thing 15 p q d

in_range_alike : (exact : Bool) (range : ImmRange) (a b : Tree) → unplaced a ≡ unplaced b → Alike exact same_thing (in_range range a (value_of a)) (in_range range b (value_of b))
in_range_alike exact range a b e =
    rw (in_range_told range a (value_of a), in_range_told range b (value_of b), sym (same_value a) ∙ ap value_of e ∙ same_value b, sym (same_mark a) ∙ ap mark e ∙ same_mark b)
    (told_alike exact range (node_place a) (node_place b) (mark b) (value_of b))

immediate_alike : (exact : Bool) (range : ImmRange) (x y : Option Tree) → option_map unplaced x ≡ option_map unplaced y → Alike exact same_thing (immediate_fits range x) (immediate_fits range y)
immediate_alike exact range (Some a) (Some b) e = in_range_alike exact range a b (cc)
immediate_alike exact range None None e = refl
immediate_alike exact range (Some a) None e = absurd (cc)
immediate_alike exact range None (Some b) e = absurd (cc)

fitting_alike : (exact : Bool) (p q : Place) (d : List ℕ) (x y : Option Trees) → option_map unplaced_all x ≡ option_map unplaced_all y → Alike exact unplaced_all (fitting p d x) (fitting q d y)
fitting_alike exact p q d (Some a) (Some b) e = ap (λ o. as_ok o) e
  where
    as_ok : Option Trees → Checked Trees
    as_ok (Some a) = Ok a
    as_ok None = Ok NoTrees
fitting_alike exact p q d None None e = refuse_alike exact unplaced_all 11 p q d
fitting_alike exact p q d (Some a) None e = absurd (cc)
fitting_alike exact p q d None (Some b) e = absurd (cc)

call_alike : (exact : Bool) (t : Target) (f : List ℕ) (p q : Place) (all others : Trees) → unplaced_all all ≡ unplaced_all others → Alike exact unplaced (call t f p all) (call t f q others)
call_alike exact t f p q all others e =
    go_on exact unplaced_all unplaced _ _ _ _ (fitting_alike exact p q (short f) (passed t.heading.params all) (passed t.heading.params others) (same_passed t.heading.params all ∙ ap (passed t.heading.params) e ∙ sym (same_passed t.heading.params others)))
    (λ a b h. go_on exact same_thing unplaced _ _ _ _ (immediate_alike exact t.range (immediate_of t.heading.params a) (immediate_of t.heading.params b) (sym (same_immediate t.heading.params a) ∙ ap (immediate_of t.heading.params) h ∙ same_immediate t.heading.params b))
    (λ _ _ _. admitted_alike exact t.outside p q (short f) (Node p t.heading.result (tree.Call f a)) (Node q t.heading.result (tree.Call f b)) (ap (λ x. Node nowhere t.heading.result (tree.Call f x)) h)))

-- ---- nodes

-- one part, or two, that are the same without their places
by_one : (f g h : Tree → Option Tree) (a b : Tree) → option_map unplaced (f a) ≡ h (unplaced a) → option_map unplaced (g b) ≡ h (unplaced b) → unplaced a ≡ unplaced b → option_map unplaced (f a) ≡ option_map unplaced (g b)
by_one f g h a b e k same = e ∙ ap h same ∙ sym k

by_two : (f g h : Tree → Tree → Option Tree) (a b c d : Tree) → option_map unplaced (f a b) ≡ h (unplaced a) (unplaced b) → option_map unplaced (g c d) ≡ h (unplaced c) (unplaced d) → unplaced a ≡ unplaced c → unplaced b ≡ unplaced d → option_map unplaced (f a b) ≡ option_map unplaced (g c d)
by_two f g h a b c d e k same too = e ∙ ap (λ x. h x (unplaced b)) same ∙ ap (h (unplaced c)) too ∙ sym k

where_written : (v : Bool) (x y : Option Tree) → option_map unplaced x ≡ y → option_map unplaced (if v then x else None) ≡ (if v then y else None)
where_written true x y e = e
where_written false x y e = refl

written_step : (up before : Bool) (p : Place) (env : Env) (a : Tree) → option_map unplaced (if is_writable a env then step_node up before p a else None) ≡ (if is_writable (unplaced a) env then step_node up before nowhere (unplaced a) else None)
written_step up before p env a = rw (same_designated a env) (where_written (is_writable a env) (step_node up before p a) (step_node up before nowhere (unplaced a)) (same_step up before p a))

written_assign : (o : Option BinOp) (p : Place) (env : Env) (a b : Tree) → option_map unplaced (if is_writable a env then assign_node o p a b else None) ≡ (if is_writable (unplaced a) env then assign_node o nowhere (unplaced a) (unplaced b) else None)
written_assign o p env a b = rw (same_designated a env) (where_written (is_writable a env) (assign_node o p a b) (assign_node o nowhere (unplaced a) (unplaced b)) (same_assign o p a b))

cast_alike : (exact : Bool) (t : CType) (p : Place) (env : Env) (a b : Tree) → unplaced a ≡ unplaced b → Alike exact unplaced (one (tree.Cast t a true) p env a) (one (tree.Cast t b true) nowhere env b)
cast_alike exact t p env a b e =
    go_on exact unplaced unplaced _ _ _ _ (typed_alike exact p nowhere (codes "(") (cast_node (read_type env.dialect t) p a) (cast_node (read_type env.dialect t) nowhere b)
    (by_one (cast_node (read_type env.dialect t) p) (cast_node (read_type env.dialect t) nowhere) (cast_node (read_type env.dialect t) nowhere) a b (same_cast (read_type env.dialect t) p a) (same_cast (read_type env.dialect t) nowhere b) e))
    (λ v w h. admitted_alike exact (is_void_pointer t) p nowhere (codes "(") v w h)

no_cast : (s : CType) (d : Pointee) (n : ℕ) (c : Bool) → is_cast s (CType.Array d n c) ≡ false
no_cast CType.Void d n c = refl
no_cast (CType.Int t) d n c = refl
no_cast CType.M128 d n c = refl
no_cast CType.M256 d n c = refl
no_cast (CType.Neon l w) d n c = refl
no_cast CType.Pair d n c = refl
no_cast (CType.Pointer e b) d n c = refl
no_cast (CType.Array e m b) d n c = refl

-- a cast to an array is refused
refused_cast : (d : Pointee) (n : ℕ) (c : Bool) (p : Place) (a : Tree) (f : Tree → Checked Tree) → (typed p (codes "(") (cast_node (CType.Array d n c) p a) >>= f) ≡ refuse 11 p (codes "(")
refused_cast d n c p a f = ap (λ v. typed p (codes "(") (if v then Some (Node p (CType.Array d n c) (tree.Cast (CType.Array d n c) a true)) else None) >>= f) (no_cast (node_type a) d n c)

written_cast : (exact : Bool) (t : CType) (p : Place) (env : Env) (a b : Tree) → unplaced a ≡ unplaced b → Alike exact unplaced (one (tree.Cast t a true) p env a) (one (tree.Cast (unnumbered t) b true) nowhere env b)
written_cast exact (CType.Array d n c) p env a b e =
    subst (λ x. Alike exact unplaced x (one (tree.Cast (CType.Array d 0 c) b true) nowhere env b)) (sym (refused_cast (read_pointee env.dialect d) n c p a (λ v. admitted false p (codes "(") v)))
    (subst (λ y. Alike exact unplaced (refuse 11 p (codes "(")) y) (sym (refused_cast (read_pointee env.dialect d) 0 c nowhere b (λ v. admitted false nowhere (codes "(") v)))
    (refuse_alike exact unplaced 11 p nowhere (codes "(")))
written_cast exact t p env a b e = cast_alike exact t p env a b e

pub plain_type : (t : CType) → is_array t ≡ false → unnumbered t ≡ t
plain_type (CType.Array e n c) h = absurd (cc)
plain_type t h = refl

same_size : (t : CType) (p : Place) → option_map unplaced (size_node t p) ≡ size_node t nowhere
same_size t p = where_holds (is_some (size_of t)) (Node p (CType.Int int.ULong) (tree.SizeOfType t))

same_size_of_name : (x : List ℕ) (t : CType) (p : Place) → option_map unplaced (size_of_name_node x t p) ≡ size_of_name_node x t nowhere
same_size_of_name x t p = where_holds (is_some (size_of t)) (Node p (CType.Int int.ULong) (tree.SizeOfName x))

size_alike : (exact : Bool) (t : CType) (p : Place) (env : Env) → Alike exact unplaced (check_kind (tree.SizeOfType t) p env) (check_kind (tree.SizeOfType t) nowhere env)
size_alike exact t p env =
    go_on exact unplaced unplaced _ _ _ _ (typed_alike exact p nowhere (codes "sizeof") (size_node (read_type env.dialect t) p) (size_node (read_type env.dialect t) nowhere) (same_size (read_type env.dialect t) p ∙ sym (same_size (read_type env.dialect t) nowhere)))
    (λ v w h. admitted_alike exact (is_void_pointer t) p nowhere (codes "sizeof") v w h)

-- ---- the law

mutual
  pub check_alike : (exact : Bool) (e : Tree) (env : Env) → Plain e → Alike exact unplaced (check e env) (check (stripped e) env)
  check_alike exact (Node p t k) env plain = kind_alike exact k p env plain

  kind_alike : (exact : Bool) (k : Kind) (p : Place) (env : Env) → PlainKind k → Alike exact unplaced (check_kind k p env) (check (stripped_kind k) env)
  kind_alike exact (tree.Const n) p env plain = refl
  kind_alike exact (tree.Name x) p env plain =
      go_on exact same_thing unplaced _ _ _ _ (used_alike exact x p nowhere env) (λ a b e. ap (λ t. Ok t) (same_name x a.ty p ∙ ap (λ o. name_node x o.ty nowhere) e ∙ sym (same_name x b.ty nowhere)))
  kind_alike exact (tree.Unary o a) p env plain =
      go_on exact unplaced unplaced _ _ _ _ (check_alike exact a env plain) (λ x y e.
      typed_alike exact p nowhere _ _ _ (by_one (unary_node o p) (unary_node o nowhere) (unary_node o nowhere) x y (same_unary o p x) (same_unary o nowhere y) e))
  kind_alike exact (tree.Step a up before) p env plain =
      go_on exact unplaced unplaced _ _ _ _ (check_alike exact a env plain) (λ x y e.
      typed_alike exact p nowhere _ _ _ (by_one (λ a. if is_writable a env then step_node up before p a else None) (λ a. if is_writable a env then step_node up before nowhere a else None) (λ a. if is_writable a env then step_node up before nowhere a else None) x y (written_step up before p env x) (written_step up before nowhere env y) e))
  kind_alike exact (tree.Binary o a b) p env plain =
      go_on exact unplaced unplaced _ _ _ _ (check_alike exact a env plain.0) (λ x y e. go_on exact unplaced unplaced _ _ _ _ (check_alike exact b env plain.1) (λ z w f.
      typed_alike exact p nowhere _ _ _ (by_two (binary_node o p) (binary_node o nowhere) (binary_node o nowhere) x z y w (same_binary o p x z) (same_binary o nowhere y w) e f)))
  kind_alike exact (tree.AndThen a b) p env plain =
      go_on exact unplaced unplaced _ _ _ _ (check_alike exact a env plain.0) (λ x y e. go_on exact unplaced unplaced _ _ _ _ (check_alike exact b env plain.1) (λ z w f.
      typed_alike exact p nowhere _ _ _ (by_two (and_node p) (and_node nowhere) (and_node nowhere) x z y w (same_and p x z) (same_and nowhere y w) e f)))
  kind_alike exact (tree.OrElse a b) p env plain =
      go_on exact unplaced unplaced _ _ _ _ (check_alike exact a env plain.0) (λ x y e. go_on exact unplaced unplaced _ _ _ _ (check_alike exact b env plain.1) (λ z w f.
      typed_alike exact p nowhere _ _ _ (by_two (or_node p) (or_node nowhere) (or_node nowhere) x z y w (same_or p x z) (same_or nowhere y w) e f)))
  kind_alike exact (tree.Choice c a b) p env plain =
      go_on exact unplaced unplaced _ _ _ _ (check_alike exact c env plain.0) (λ u v d. go_on exact unplaced unplaced _ _ _ _ (check_alike exact a env plain.1.0) (λ x y e. go_on exact unplaced unplaced _ _ _ _ (check_alike exact b env plain.1.1) (λ z w f.
      typed_alike exact p nowhere _ _ _ (same_choice p u x z ∙ ap (λ t. choice_node nowhere t (unplaced x) (unplaced z)) d ∙ ap (λ t. choice_node nowhere (unplaced v) t (unplaced z)) e ∙ ap (choice_node nowhere (unplaced v) (unplaced y)) f ∙ sym (same_choice nowhere v y w)))))
  kind_alike exact (tree.Assign o a b) p env plain =
      go_on exact unplaced unplaced _ _ _ _ (check_alike exact a env plain.0) (λ x y e. go_on exact unplaced unplaced _ _ _ _ (check_alike exact b env plain.1) (λ z w f.
      typed_alike exact p nowhere _ _ _ (by_two (λ a b. if is_writable a env then assign_node o p a b else None) (λ a b. if is_writable a env then assign_node o nowhere a b else None) (λ a b. if is_writable a env then assign_node o nowhere a b else None) x z y w (written_assign o p env x z) (written_assign o nowhere env y w) e f)))
  kind_alike exact (tree.Comma all) p env plain =
      go_on exact unplaced_all unplaced _ _ _ _ (all_alike exact all env plain) (λ x y e.
      typed_alike exact p nowhere _ _ _ (same_comma p x ∙ ap (comma_node nowhere) e ∙ sym (same_comma nowhere y)))
  kind_alike exact (tree.Cast t a true) p env plain =
      go_on exact unplaced unplaced _ _ _ _ (check_alike exact a env plain) (λ x y e. written_cast exact t p env x y e)
  kind_alike exact (tree.Cast t a false) p env plain = check_alike exact a env plain
  kind_alike exact (tree.Index a b) p env plain =
      go_on exact unplaced unplaced _ _ _ _ (check_alike exact a env plain.0) (λ x y e. go_on exact unplaced unplaced _ _ _ _ (check_alike exact b env plain.1) (λ z w f.
      typed_alike exact p nowhere _ _ _ (by_two (index_node p) (index_node nowhere) (index_node nowhere) x z y w (same_index p x z) (same_index nowhere y w) e f)))
  kind_alike exact (tree.Deref a) p env plain =
      go_on exact unplaced unplaced _ _ _ _ (check_alike exact a env plain) (λ x y e.
      typed_alike exact p nowhere _ _ _ (by_one (deref_node p) (deref_node nowhere) (deref_node nowhere) x y (same_deref p x) (same_deref nowhere y) e))
  kind_alike exact (tree.Address a) p env plain =
      go_on exact unplaced unplaced _ _ _ _ (check_alike exact a env plain) (λ x y e.
      typed_alike exact p nowhere _ _ _ (by_one (λ a. address_node p a env) (λ a. address_node nowhere a env) (λ a. address_node nowhere a env) x y (same_address p x env) (same_address nowhere y env) e))
  kind_alike exact (tree.Call f all) p env plain =
      go_on exact same_thing unplaced _ _ _ _ (called_alike exact f p nowhere env) (λ t u e. go_on exact unplaced_all unplaced _ _ _ _ (all_alike exact all env plain) (λ x y h.
      subst (λ u. Alike exact unplaced (call t f p x) (call u f nowhere y)) e (call_alike exact t f p nowhere x y h)))
  kind_alike exact (tree.Half a k) p env plain =
      go_on exact unplaced unplaced _ _ _ _ (check_alike exact a env plain) (λ x y e.
      typed_alike exact p nowhere _ _ _ (by_one (half_node k p) (half_node k nowhere) (half_node k nowhere) x y (same_half k p x) (same_half k nowhere y) e))
  kind_alike exact (tree.PairOf a b) p env plain =
      go_on exact unplaced unplaced _ _ _ _ (check_alike exact a env plain.0) (λ x y e. go_on exact unplaced unplaced _ _ _ _ (check_alike exact b env plain.1) (λ z w f.
      typed_alike exact p nowhere _ _ _ (by_two (pair_node p) (pair_node nowhere) (pair_node nowhere) x z y w (same_pair p x z) (same_pair nowhere y w) e f)))
  kind_alike exact (tree.SizeOfType t) p env plain = subst (λ u. Alike exact unplaced (check_kind (tree.SizeOfType t) p env) (check_kind (tree.SizeOfType u) nowhere env)) (sym (plain_type t plain)) (size_alike exact t p env)
  kind_alike exact (tree.SizeOfName x) p env plain =
      go_on exact same_thing unplaced _ _ _ _ (used_alike exact x p nowhere env) (λ a b e.
      typed_alike exact p nowhere _ _ _ (same_size_of_name x a.ty p ∙ ap (λ o. size_of_name_node x o.ty nowhere) e ∙ sym (same_size_of_name x b.ty nowhere)))
  kind_alike exact (tree.Str x) p env plain = refuse_alike exact unplaced 11 p nowhere (short x)

  pub all_alike : (exact : Bool) (all : Trees) (env : Env) → PlainAll all → Alike exact unplaced_all (check_all all env) (check_all (stripped_all all) env)
  all_alike exact NoTrees env plain = refl
  all_alike exact (More a rest) env plain =
      go_on exact unplaced unplaced_all _ _ _ _ (check_alike exact a env plain.0) (λ x y e. go_on exact unplaced_all unplaced_all _ _ _ _ (all_alike exact rest env plain.1) (λ z w f.
      ap (λ t. Ok (More t (unplaced_all z))) e ∙ ap (λ t. Ok (More (unplaced y) t)) f))
