-- Laws of expressions, one for each form, for any relation of values. What an operator asks of related values is a premise.
use Rattle.std.proofs.Common.{◌≡◌, ℕ, List, [], ◌∷◌, map, length, Bool, true, false, Option, Some, None, refl, ap, ◌∙◌, subst, if◌then◌else◌}
use Rattle.std.specs.Option.{option_and_then}
use Rattle.lane_core.specs.declared.number.IntType.TheVariants as int
use Rattle.lane_core.specs.declared.number.Num.{Num}
use Rattle.lane_core.specs.declared.number.BinOp.{BinOp}
use Rattle.lane_core.specs.declared.number.BinOp.TheVariants as op
use Rattle.lane_core.specs.declared.number.UnOp.{UnOp}
use Rattle.c_text.specs.declared.tokens.Place.{Place}
use Rattle.c_tree.specs.declared.types.CType.{CType}
use Rattle.c_tree.specs.Tree.{Tree, Trees, Node, Const, Name, Unary, Step, Binary, AndThen, OrElse, Choice, Assign, Comma, Cast, Index, Deref, Address, Call, PairOf, SizeOfType, SizeOfName, NoTrees, More}
use Rattle.c_memory.specs.declared.blocks.Block.{Block}
use Rattle.c_memory.specs.declared.memory.Pointer.{Pointer}
use Rattle.c_memory.specs.declared.memory.Pointer.TheVariants.{At}
use Rattle.c_memory.specs.declared.value.Value.{Value}
use Rattle.c_memory.specs.Memory.{after_write}
use Rattle.c_memory.specs.Values.{AreBytes}
use Rattle.c_memory.specs.MeaningObjects.{encoded, load_from, load, stored_at, store, value_at, value_named, Target, Named, HalfNamed, There, read_target, set_target, target_of}
use Rattle.c_memory.specs.MeaningValues.{holds, as_int, operate, operate_before, converted_value, next}
use Rattle.c_memory.specs.MeaningState.{Location, Apart, Halves, InBlock, Binding, State, Out, Done, Turns, Undefined, then_do, pure, defined}
use Rattle.c_memory.specs.Meaning.{Calls, type_of, its_value, give, condition, object_value, array_value, there, address, cast_to, assigned_by, pair_of, size_value, element, element_of, expression, target, last, values}
use Rattle.c_tree.specs.Types.{is_array}
use Rattle.simulation.specs.Alike.{Relation, Options, Given, Arguments, Blocks, Objects, Stays, Sim, CallsTo}
use Rattle.simulation.specs.Carried.{Way, MayBeSet, Fixed, Held, InMemory, MayChange, Carried, Shared, Mark, Marks, Number, Unmarked, Values, AreSet, Places, Kept, Scope, carried, mark_of}
use Rattle.simulation.specs.BlockLaws.{write_stays, finer_same}
use Rattle.simulation.specs.MemoryLaw.{MemoryLaw}
use Rattle.simulation.specs.Steps.{bind_sim, bind_same, pure_sim, undefined_sim, defined_sim, from_memory_sim, to_memory_sim, choose_sim, its_value_sim, give_sim, call_sim, first_as, second_as}
use Rattle.simulation.specs.ScopeLaws.{Binds, object_sim, set_apart_sim}
use Rattle.simulation.specs.HeldLaws.{plain_value}
use Rattle.simulation.specs.ObjectLaws.{named_targets, AreNamed}

-- the pointer that a value is
abbrev pub pointer_in : Value → Option Pointer
pointer_in (Value.At p) = Some p
pointer_in v = None

-- the pointer that a target is, as a value
abbrev pub address_in : Target → Option Value
address_in (There p) = Some (Value.At p)
address_in place = None

-- places that two related pointers of the type point to
abbrev pub Located : Relation → CType → Target → Target → Type 0
Located R t (There p) (There q) = R t (Value.At p) (Value.At q)
Located R t _ _ = ⊥

-- both have the same bytes in memory
abbrev pub SameBytes : List ℕ → List ℕ → Type 0
SameBytes bytes others = (bytes ≡ others) × AreBytes (map Some bytes)

module _ (n : ℕ) (R : Relation) where
  -- ---- what is asked of values

  -- related values of the type hold or don't as a condition
  abbrev pub Tests : CType → Type 0
  Tests t = (m w : List Block) (u v : Value) → Blocks n m w → R t u v → Options ◌≡◌ (holds m u) (holds w v)

  -- an operator before a value gives values of type r that are related
  abbrev pub OperatesBefore : UnOp → CType → CType → Type 0
  OperatesBefore o s r = (m w : List Block) (u v : Value) → Blocks n m w → R s u v → Options (R r) (operate_before m o u) (operate_before w o v)

  -- so does one between values, for operands of types s and t in the first unit, and of p and q in the second
  abbrev pub Operates : BinOp → CType → CType → CType → BinOp → CType → CType → Type 0
  Operates o s t r o' p q = (m w : List Block) (u v x y : Value) → Blocks n m w → R s u v → R t x y → Options (R r) (operate m o s t u x) (operate w o' p q v y)

  -- so does one whose value is converted, to type r in the first unit and to z in the second
  abbrev pub OperatesInto : BinOp → CType → CType → CType → BinOp → CType → CType → CType → Type 0
  OperatesInto o s t r o' p q z =
      (m w : List Block) (u v x y : Value) → Blocks n m w → R s u v → R t x y → Options (R r) (option_and_then (converted_value r) (operate m o s t u x))
      (option_and_then (converted_value z) (operate w o' p q v y))

  -- the next value up or down, of type s in the first unit and of t in the second
  abbrev pub Steps : CType → CType → Bool → Type 0
  Steps s t up = (m w : List Block) (u v : Value) → Blocks n m w → R s u v → Options (R s) (next m s up u) (next w t up v)

  -- a conversion from type s to type t in the first unit, and to type q in the second
  abbrev pub Converts : CType → CType → CType → Type 0
  Converts s t q = (u v : Value) → R s u v → Options (R t) (converted_value t u) (converted_value q v)

  -- what is read of an object of type s in the first unit and of type t in the second
  abbrev pub Loads : CType → CType → Type 0
  Loads s t = (m w : List Block) (p : Pointer) → Blocks n m w → Options (R s) (load_from s p m) (load_from t p w)

  -- and what is written to it
  abbrev pub Stores : CType → CType → Type 0
  Stores s t = (u v : Value) → R s u v → Options SameBytes (encoded s u) (encoded t v)

  -- related pointers are equal
  abbrev pub Points : CType → Type 0
  Points t = (u v : Value) → R t u v → Options ◌≡◌ (pointer_in u) (pointer_in v)

  into : (r z : CType) (t : CType) (o p : Option Value) → Converts t r z → Options (R t) o p
      → Options (R r) (option_and_then (converted_value r) o) (option_and_then (converted_value z) p)
  into r z t None p k h = tt
  into r z t (Some u) (Some v) k h = k u v h
  into r z t (Some u) None k h = absurd h

  -- an operator, and then a conversion
  pub operates_into : (o : BinOp) (s t y r : CType) (o' : BinOp) (p q z : CType) → Operates o s t y o' p q → Converts y r z
      → ((m w : List Block) (u v a b : Value) → Blocks n m w → R s u v → R t a b
      → Options (R r) (option_and_then (converted_value r) (operate m o s t u a)) (option_and_then (converted_value z) (operate w o' p q v b)))
  operates_into o s t y r o' p q z h k m w u v a b i j l = into r z y (operate m o s t u a) (operate w o' p q v b) k (h m w u v a b i j l)

  -- a step adds or takes off 1 and converts
  pub steps_by : (s t : CType) (up : Bool) → ((o : BinOp) → OperatesInto o s (CType.Int int.Int) s o t (CType.Int int.Int) t)
      → R (CType.Int int.Int) (as_int true) (as_int true) → Steps s t up
  steps_by s t true h one m w u v i k = h op.Add m w u v (as_int true) (as_int true) i k one
  steps_by s t false h one m w u v i k = h op.Sub m w u v (as_int true) (as_int true) i k one

  -- ---- places

  there_located : (t : CType) (u v : Value) → Points t → R t u v → {E : Objects} → Sim n (Located R t) E E (there u) (there v)
  there_located t (Value.At p) (Value.At q) points h = pure_sim (There p) (There q) h
  there_located t (Value.At p) (Value.Int b) points h = absurd (points (Value.At p) (Value.Int b) h)
  there_located t (Value.At p) (Value.R8 b) points h = absurd (points (Value.At p) (Value.R8 b) h)
  there_located t (Value.At p) (Value.R16 b) points h = absurd (points (Value.At p) (Value.R16 b) h)
  there_located t (Value.At p) (Value.R32 b) points h = absurd (points (Value.At p) (Value.R32 b) h)
  there_located t (Value.Int a) v points h = undefined_sim _
  there_located t (Value.R8 a) v points h = undefined_sim _
  there_located t (Value.R16 a) v points h = undefined_sim _
  there_located t (Value.R32 a) v points h = undefined_sim _

  -- an object of the pointer's place is read
  pub read_located_sim : (E : Objects) (r s t : CType) (p q : Target) → Points r → Loads s t → Located R r p q
      → Sim n (R s) E E (read_target s p) (read_target t q)
  read_located_sim E r s t (There p) (There q) points loads h =
      let same : p ≡ q = points (Value.At p) (Value.At q) h in
      subst (λ z. Sim n (R s) E E (load s p) (load t z)) same (from_memory_sim (load_from s p) (load_from t p) (λ m w i. loads m w p i))
  read_located_sim E r s t (There p) (Named y) points loads h = absurd h
  read_located_sim E r s t (There p) (HalfNamed y k) points loads h = absurd h
  read_located_sim E r s t (Named x) q points loads h = absurd h
  read_located_sim E r s t (HalfNamed x k) q points loads h = absurd h

  encoded_alike : MemoryLaw → (m w : List Block) (p : Pointer) (o r : Option (List ℕ)) → Blocks n m w → Options SameBytes o r
      → Options (Blocks n) (option_and_then (λ bytes. after_write m p (length bytes) bytes) o)
      (option_and_then (λ bytes. after_write w p (length bytes) bytes) r)
  encoded_alike law m w p None r h k = tt
  encoded_alike law m w p (Some a) None h k = absurd k
  encoded_alike law m w p (Some a) (Some b) h k =
      subst (λ z. Options (Blocks n) (after_write m p (length a) a) (after_write w p (length z) z)) k.0
      (law.writes n m w p (length a) (length a) a (finer_same (length a)) k.1 h)

  encoded_stays : (w v : List Block) (p : Pointer) (o : Option (List ℕ)) → option_and_then (λ bytes. after_write w p (length bytes) bytes) o ≡ Some v
      → Stays w v
  encoded_stays w v p None e = absurd (cc)
  encoded_stays w v p (Some bytes) e = write_stays w v p (length bytes) bytes e

  -- and gets a value
  pub set_located_sim : MemoryLaw → (E : Objects) (r s t : CType) (p q : Target) (u v : Value) → Points r → Stores s t → Located R r p q → R s u v
      → Sim n ◌≡◌ E E (set_target s p u) (set_target t q v)
  set_located_sim law E r s t (There p) (There q) u v points stores h k =
      let same : p ≡ q = points (Value.At p) (Value.At q) h in
      subst (λ z. Sim n ◌≡◌ E E (store s p u) (store t z v)) same
      (to_memory_sim (stored_at s p u) (stored_at t p v) (λ m w i. encoded_alike law m w p (encoded s u) (encoded t v) i (stores u v k))
      (λ w z e. encoded_stays w z p (encoded t v) e))
  set_located_sim law E r s t (There p) (Named y) u v points stores h k = absurd h
  set_located_sim law E r s t (There p) (HalfNamed y i) u v points stores h k = absurd h
  set_located_sim law E r s t (Named x) q u v points stores h k = absurd h
  set_located_sim law E r s t (HalfNamed x i) q u v points stores h k = absurd h

  -- ---- objects by their names

  places_value_sim : (E : Objects) (s a b : CType) (l m : Location) → Places R s l m → Sim n (R s) E E (value_at a l) (value_at b m)
  places_value_sim E s a b (Apart (Some v)) (Apart (Some w)) h = pure_sim v w h
  places_value_sim E s a b (Apart None) m h = undefined_sim _
  places_value_sim E s a b (Halves f g) m h = undefined_sim _
  places_value_sim E s a b (Apart (Some v)) (Apart None) h = absurd h
  places_value_sim E s a b (Apart (Some v)) (Halves f g) h = absurd h
  places_value_sim E s a b (Apart (Some v)) (InBlock k) h = absurd h
  places_value_sim E s a b (InBlock k) m h = absurd h

  set_value_sim : (E : Objects) (s a b : CType) (v w : Value) (l m : Location) → AreSet R s v w l m → Sim n (R s) E E (value_at a l) (value_at b m)
  set_value_sim E s a b v w l m h = rw (h.first, h.second) (pure_sim v w h.values)

  -- what is asked of an object in memory
  abbrev pub Reads : Way → CType → CType → Type 0
  Reads InMemory s t = Loads s t
  Reads way s t = Unit {0}

  kept_value_sim : (E : Objects) (way : Way) (s t : CType) (mark : Mark) (l m : Location) → Reads way s t → Kept R way s mark l m
      → Sim n (R s) E E (value_at s l) (value_at t m)
  kept_value_sim E MayBeSet s t mark l m reads h = places_value_sim E s s t l m h
  kept_value_sim E Fixed s t mark l m reads h = set_value_sim E s s t h.0 h.1 l m h.2
  kept_value_sim E Held s t (Values v w) l m reads h = set_value_sim E s s t v w l m h
  kept_value_sim E Held s t Unmarked l m reads h = absurd h
  kept_value_sim E Held s t (Number k) l m reads h = absurd h
  kept_value_sim E InMemory s t (Number k) l m reads h =
      rw (h.0, h.1) (from_memory_sim (load_from s (At k 0)) (load_from t (At k 0)) (λ x y i. reads x y (At k 0) i))
  kept_value_sim E InMemory s t Unmarked l m reads h = absurd h
  kept_value_sim E InMemory s t (Values v w) l m reads h = absurd h

  -- the value of an object of both
  pub bound_value_sim : (E : Objects) (way : Way) (x : List ℕ) (s t : CType) (mark : Mark) (b c : Binding) → Reads way s t → Binds R way x s t mark b c
      → Sim n (R s) E E (value_named b) (value_named c)
  bound_value_sim E way x s t mark b c reads h = rw (h.0.ty, h.0.other_ty) (kept_value_sim E way s t mark b.location c.location reads h.1)

  module _ (scope : List Carried) (ks : Marks) where
    abbrev here : Objects
    here = Scope R scope ks

    -- the value of a name that isn't an array
    pub name_sim : (p q : Place) (u v : CType) (c d : Calls) (way : Way) (x : List ℕ) (s t : CType) → carried x scope ≡ Some (Shared way x s t)
        → is_array s ≡ false → is_array t ≡ false → Reads way s t
        → Sim n (Given R s) here here (expression (Node p u (Name x)) c) (expression (Node q v (Name x)) d)
    name_sim p q u v c d way x s t is plain other reads = give_sim R s (bind_sim (object_sim R scope ks way x s t is) (λ b e h.
        let first : object_value b.ty b ≡ value_named b = plain_value b.ty b (ap is_array h.0.ty ∙ plain) in
        let second : object_value e.ty e ≡ value_named e = plain_value e.ty e (ap is_array h.0.other_ty ∙ other) in
        rw (first, second) (bound_value_sim here way x s t (mark_of x scope ks) b e reads h)))

    array_at : (r s t : CType) (mark : Mark) (l m : Location) → ((k : ℕ) → R r (Value.At (At k 0)) (Value.At (At k 0))) → Kept R InMemory s mark l m
        → Sim n (R r) here here (array_value l) (array_value m)
    array_at r s t (Number k) l m points h = rw (h.0, h.1) (pure_sim (Value.At (At k 0)) (Value.At (At k 0)) (points k))
    array_at r s t Unmarked l m points h = absurd h
    array_at r s t (Values v w) l m points h = absurd h

    array_object : (t : CType) (b : Binding) → is_array t ≡ true → object_value t b ≡ array_value b.location
    array_object (CType.Array e k constant) b h = refl
    array_object (CType.Int s) b h = absurd (cc)
    array_object CType.M128 b h = absurd (cc)
    array_object CType.M256 b h = absurd (cc)
    array_object (CType.Neon l w) b h = absurd (cc)
    array_object CType.Pair b h = absurd (cc)
    array_object (CType.Pointer e k) b h = absurd (cc)
    array_object CType.Void b h = absurd (cc)

    -- an array of both is the pointer to its first element
    pub array_sim : (p q : Place) (u v r : CType) (c d : Calls) (x : List ℕ) (s t : CType) → carried x scope ≡ Some (Shared InMemory x s t)
        → is_array s ≡ true → is_array t ≡ true → ((k : ℕ) → R r (Value.At (At k 0)) (Value.At (At k 0)))
        → Sim n (Given R r) here here (expression (Node p u (Name x)) c) (expression (Node q v (Name x)) d)
    array_sim p q u v r c d x s t is first second points = give_sim R r (bind_sim (object_sim R scope ks InMemory x s t is) (λ b e h.
        let one : object_value b.ty b ≡ array_value b.location = array_object b.ty b (ap is_array h.0.ty ∙ first) in
        let other : object_value e.ty e ≡ array_value e.location = array_object e.ty e (ap is_array h.0.other_ty ∙ second) in
        rw (one, other) (array_at r s t (mark_of x scope ks) b.location e.location points h.1)))

    -- a name as what an assignment sets
    pub named_target_sim : (p q : Place) (u v : CType) (c d : Calls) (way : Way) (x : List ℕ) (s t : CType) → carried x scope ≡ Some (Shared way x s t)
        → MayChange way
        → Sim n (AreNamed x) here here (target (Node p u (Name x)) c) (target (Node q v (Name x)) d)
    named_target_sim p q u v c d way x s t is may =
        bind_sim (object_sim R scope ks way x s t is) (λ b e h. pure_sim (target_of b) (target_of e) (named_targets R way x s t (mark_of x scope ks) b e may h))

    block_at : (r s : CType) (x : List ℕ) (mark : Mark) (b c : Binding) → ((k : ℕ) → R r (Value.At (At k 0)) (Value.At (At k 0)))
        → Kept R InMemory s mark b.location c.location → Located R r (target_of b) (target_of c)
    block_at r s x (Number k) b c points h = rw (h.0, h.1) (points k)
    block_at r s x Unmarked b c points h = absurd h
    block_at r s x (Values v w) b c points h = absurd h

    pub block_target_sim : (p q : Place) (u v r : CType) (c d : Calls) (x : List ℕ) (s t : CType) → carried x scope ≡ Some (Shared InMemory x s t)
        → ((k : ℕ) → R r (Value.At (At k 0)) (Value.At (At k 0)))
        → Sim n (Located R r) here here (target (Node p u (Name x)) c) (target (Node q v (Name x)) d)
    block_target_sim p q u v r c d x s t is points =
        bind_sim (object_sim R scope ks InMemory x s t is) (λ b e h. pure_sim (target_of b) (target_of e) (block_at r s x (mark_of x scope ks) b e points h.1))

    pub read_named_sim : (way : Way) (x : List ℕ) (s t : CType) (p q : Target) → carried x scope ≡ Some (Shared way x s t) → MayChange way → AreNamed x p q
        → Sim n (R s) here here (read_target s p) (read_target t q)
    read_named_sim way x s t p q is may h =
        rw (h.first, h.second) (bind_sim (object_sim R scope ks way x s t is)
        (λ b e k. bound_value_sim here way x s t (mark_of x scope ks) b e (reads way may) k))
      where
        reads : (way : Way) → MayChange way → Reads way s t
        reads MayBeSet may = tt
        reads Fixed may = tt
        reads Held may = absurd may
        reads InMemory may = absurd may

    pub set_named_sim : (way : Way) (x : List ℕ) (s t : CType) (p q : Target) (u v : Value) → carried x scope ≡ Some (Shared way x s t) → MayChange way
        → AreNamed x p q → R s u v → Sim n ◌≡◌ here here (set_target s p u) (set_target t q v)
    set_named_sim way x s t p q u v is may h k = rw (h.first, h.second) (set_apart_sim R scope ks way x s t u v is may k)

  -- ---- one law a form, for any relation of the objects before and after

  module _ (c d : Calls) where
    -- their values are alike
    abbrev pub Valued : Objects → Objects → Tree → Tree → Type 0
    Valued E F a b = Sim n (R (type_of a)) E F (its_value (expression a c)) (its_value (expression b d))

    -- they hold alike as conditions
    abbrev pub Tested : Objects → Objects → Tree → Tree → Type 0
    Tested E F a b = Sim n ◌≡◌ E F (condition (expression a c)) (condition (expression b d))

    pub valued_sim : (E F : Objects) (a b : Tree) → Sim n (Given R (type_of a)) E F (expression a c) (expression b d) → Valued E F a b
    valued_sim E F a b h = its_value_sim R (type_of a) h

    pub tested_sim : (E F : Objects) (a b : Tree) → Valued E F a b → Tests (type_of a) → Tested E F a b
    tested_sim E F a b h tests = bind_sim h (λ u v k. from_memory_sim (λ m. holds m u) (λ m. holds m v) (λ m w i. tests m w u v i k))

    pub constant_sim : (E : Objects) (p q : Place) (s t : CType) (a b : Num) → R s (Value.Int a) (Value.Int b)
        → Sim n (Given R s) E E (expression (Node p s (Const a)) c) (expression (Node q t (Const b)) d)
    constant_sim E p q s t a b h = pure_sim (Some (Value.Int a)) (Some (Value.Int b)) h

    pub unary_sim : (E F : Objects) (p q : Place) (r t : CType) (o : UnOp) (a b : Tree) → Valued E F a b → OperatesBefore o (type_of a) r
        → Sim n (Given R r) E F (expression (Node p r (Unary o a)) c) (expression (Node q t (Unary o b)) d)
    unary_sim E F p q r t o a b h k =
        give_sim R r (bind_sim h (λ u v i. from_memory_sim (λ m. operate_before m o u) (λ m. operate_before m o v) (λ m w j. k m w u v j i)))

    pub binary_sim : (E F G : Objects) (p q : Place) (r t : CType) (o o' : BinOp) (a b a' b' : Tree) → Valued E F a a' → Valued F G b b'
        → Operates o (type_of a) (type_of b) r o' (type_of a') (type_of b')
        → Sim n (Given R r) E G (expression (Node p r (Binary o a b)) c) (expression (Node q t (Binary o' a' b')) d)
    binary_sim E F G p q r t o o' a b a' b' h k l = give_sim R r (bind_sim h (λ u v i. bind_sim k (λ x y j.
        from_memory_sim (λ m. operate m o (type_of a) (type_of b) u x) (λ m. operate m o' (type_of a') (type_of b') v y) (λ m w z. l m w u v x y z i j))))

    -- `&&`: the second operand may be left out, so it leaves the objects as it finds them
    pub and_sim : (E F : Objects) (p q : Place) (r t : CType) (a b a' b' : Tree) → Tested E F a a' → Tested F F b b' → ((w : Bool) → R r (as_int w) (as_int w))
        → Sim n (Given R r) E F (expression (Node p r (AndThen a b)) c) (expression (Node q t (AndThen a' b')) d)
    and_sim E F p q r t a b a' b' h k truths =
        give_sim R r (bind_same h (λ v. bind_same (choose_sim v k (pure_sim false false refl)) (λ w. pure_sim (as_int w) (as_int w) (truths w))))

    pub or_sim : (E F : Objects) (p q : Place) (r t : CType) (a b a' b' : Tree) → Tested E F a a' → Tested F F b b' → ((w : Bool) → R r (as_int w) (as_int w))
        → Sim n (Given R r) E F (expression (Node p r (OrElse a b)) c) (expression (Node q t (OrElse a' b')) d)
    or_sim E F p q r t a b a' b' h k truths =
        give_sim R r (bind_same h (λ v. bind_same (choose_sim v (pure_sim true true refl) k) (λ w. pure_sim (as_int w) (as_int w) (truths w))))

    pub choice_sim : (E F G : Objects) (p q : Place) (r t : CType) (e a b e' a' b' : Tree) → Tested E F e e'
        → Sim n (Given R r) F G (expression a c) (expression a' d) → Sim n (Given R r) F G (expression b c) (expression b' d)
        → Sim n (Given R r) E G (expression (Node p r (Choice e a b)) c) (expression (Node q t (Choice e' a' b')) d)
    choice_sim E F G p q r t e a b e' a' b' h k l = bind_same h (λ v. choose_sim v k l)

    -- the object first, then the value, then both are set
    pub assign_sim : {V : Target → Target → Type 0} (E F G H : Objects) (p q : Place) (s r t : CType) (o o' : Option BinOp) (a b a' b' : Tree)
        → Sim n V E F (target a c) (target a' d) → Valued F G b b'
        → ((x y : Target) (u v : Value) → V x y → R (type_of b) u v → Sim n (R s) G H (assigned_by o r (type_of b) x u) (assigned_by o' t (type_of b') y v))
        → Sim n (Given R s) E H (expression (Node p r (Assign o a b)) c) (expression (Node q t (Assign o' a' b')) d)
    assign_sim E F G H p q s r t o o' a b a' b' h k l = give_sim R s (bind_sim h (λ x y i. bind_sim k (λ u v j. l x y u v i j)))

    pub assigned_sim : (G H : Objects) (s r t z z' : CType) (x y : Target) (u v : Value) → R s u v → Sim n ◌≡◌ G H (set_target r x u) (set_target t y v)
        → Sim n (R s) G H (assigned_by None r z x u) (assigned_by None t z' y v)
    assigned_sim G H s r t z z' x y u v h k = bind_same k (λ i. pure_sim u v h)

    -- with an operator the target is read after both sides
    pub compound_sim : (F G H : Objects) (s t z z' : CType) (o o' : BinOp) (x y : Target) (u v : Value) → R z u v
        → Sim n (R s) F G (read_target s x) (read_target t y) → OperatesInto o s z s o' t z' t
        → ((i j : Value) → R s i j → Sim n ◌≡◌ G H (set_target s x i) (set_target t y j)) → Sim n (R s) F H (assigned_by (Some o) s z x u)
        (assigned_by (Some o') t z' y v)
    compound_sim F G H s t z z' o o' x y u v h k l set = bind_sim k (λ i j e. bind_sim
        (from_memory_sim (λ m. option_and_then (converted_value s) (operate m o s z i u)) (λ m. option_and_then (converted_value t) (operate m o' t z' j v))
        (λ m w b. l m w i j u v b e h))
        (λ i2 j2 e2. bind_same (set i2 j2 e2) (λ k2. pure_sim i2 j2 e2)))

    stepped_value : (s : CType) (before : Bool) (i j i2 j2 : Value) → R s i j → R s i2 j2 → R s (if before then i2 else i) (if before then j2 else j)
    stepped_value s true i j i2 j2 h k = k
    stepped_value s false i j i2 j2 h k = h

    -- `++` and `--`
    pub step_sim : {V : Target → Target → Type 0} (E F G H : Objects) (p q : Place) (s t : CType) (a b : Tree) (up before : Bool)
        → Sim n V E F (target a c) (target b d) → Steps s t up
        → ((x y : Target) → V x y → Sim n (R s) F G (read_target s x) (read_target t y)) →
        ((x y : Target) (i j : Value) → V x y → R s i j → Sim n ◌≡◌ G H (set_target s x i) (set_target t y j))
        → Sim n (Given R s) E H (expression (Node p s (Step a up before)) c) (expression (Node q t (Step b up before)) d)
    step_sim E F G H p q s t a b up before h steps read set = give_sim R s (bind_sim h (λ x y k. bind_sim (read x y k) (λ i j e.
        bind_sim (from_memory_sim (λ m. next m s up i) (λ m. next m t up j) (λ m w z. steps m w i j z e)) (λ i2 j2 e2.
        bind_same (set x y i2 j2 k e2) (λ z. pure_sim (if before then i2 else i) (if before then j2 else j) (stepped_value s before i j i2 j2 e e2))))))

    -- the expressions of a comma, of which the last one's value is given
    pub last_none_sim : {V : Option Value → Option Value → Type 0} (E : Objects) (v w : Option Value) → V v w
        → Sim n V E E (last v NoTrees c) (last w NoTrees d)
    last_none_sim E v w h = pure_sim v w h

    pub last_more_sim : {V W : Option Value → Option Value → Type 0} (E F G : Objects) (v w : Option Value) (a b : Tree) (rest rest' : Trees)
        → Sim n V E F (expression a c) (expression b d)
        → ((x y : Option Value) → V x y → Sim n W F G (last x rest c) (last y rest' d)) → Sim n W E G (last v (More a rest) c) (last w (More b rest') d)
    last_more_sim E F G v w a b rest rest' h k = bind_sim h k

    pub comma_sim : {V : Option Value → Option Value → Type 0} (E F : Objects) (p q : Place) (s t : CType) (all others : Trees)
        → Sim n V E F (last None all c) (last None others d)
        → Sim n V E F (expression (Node p s (Comma all)) c) (expression (Node q t (Comma others)) d)
    comma_sim E F p q s t all others h = h

    cast_value : (t : CType) (v : Option Value) → (t ≡ CType.Void → ⊥) → cast_to t v ≡ give (defined (option_and_then (converted_value t) v))
    cast_value (CType.Int s) v h = refl
    cast_value CType.M128 v h = refl
    cast_value CType.M256 v h = refl
    cast_value (CType.Neon l w) v h = refl
    cast_value CType.Pair v h = refl
    cast_value (CType.Pointer e k) v h = refl
    cast_value (CType.Array e k b) v h = refl
    cast_value CType.Void v h = absurd (h refl)

    converted_alike : (s r t : CType) (u v : Option Value) → Converts s r t → Given R s u v
        → Options (R r) (option_and_then (converted_value r) u) (option_and_then (converted_value t) v)
    converted_alike s r t None v h k = tt
    converted_alike s r t (Some u) (Some v) h k = h u v k
    converted_alike s r t (Some u) None h k = absurd k

    pub cast_sim : (E F : Objects) (p q : Place) (s z z' r t : CType) (a b : Tree) (i j : Bool) → (r ≡ CType.Void → ⊥) → (t ≡ CType.Void → ⊥)
        → Sim n (Given R s) E F (expression a c) (expression b d) → Converts s r t
        → Sim n (Given R r) E F (expression (Node p z (Cast r a i)) c) (expression (Node q z' (Cast t b j)) d)
    cast_sim E F p q s z z' r t a b i j some other h k =
        bind_sim h (λ u v e. rw (cast_value r u some, cast_value t v other) (give_sim R r (defined_sim _ _ (converted_alike s r t u v k e))))

    -- a cast to `void` gives nothing in both
    pub void_cast_sim : {V : Option Value → Option Value → Type 0} (E F : Objects) (p q : Place) (s z z' : CType) (a b : Tree) (i j : Bool)
        → Sim n V E F (expression a c) (expression b d)
        → Sim n (Given R s) E F (expression (Node p z (Cast CType.Void a i)) c) (expression (Node q z' (Cast CType.Void b j)) d)
    void_cast_sim E F p q s z z' a b i j h = bind_sim h (λ u v e. pure_sim None None tt)

    -- a cast that the second alone has
    pub added_cast_sim : (E F : Objects) (q : Place) (s z' r t : CType) (a b : Tree) (j : Bool) → (t ≡ CType.Void → ⊥)
        → Sim n (R s) E F (its_value (expression a c)) (its_value (expression b d)) → ((x y : Value) → R s x y → Options (R r) (Some x) (converted_value t y))
        → Sim n (R r) E F (its_value (expression a c)) (its_value (expression (Node q z' (Cast t b j)) d))
    added_cast_sim E F q s z' r t a b j other h k =
        first_as (λ x. same_value (its_value (expression a c) x)) (second_as (λ y. cast_bind (expression b d y))
        (bind_sim h (λ u v e. defined_sim (Some u) (converted_value t v) (k u v e))))
      where
        same_value : (o : Out Value) → then_do o (λ v. pure v) ≡ o
        same_value (Done v u) = refl
        same_value Turns = refl
        same_value Undefined = refl

        defined_bind : (o : Option Value) (y : State) → defined o y ≡ then_do (then_do (defined o y) (λ v. pure (Some v))) defined
        defined_bind None y = refl
        defined_bind (Some v) y = refl

        cast_bind : (o : Out (Option Value)) → then_do (then_do o defined) (λ v. defined (converted_value t v)) ≡ then_do (then_do o (cast_to t)) defined
        cast_bind (Done None y) = rw (cast_value t None other) refl
        cast_bind (Done (Some v) y) = rw (cast_value t (Some v) other) (defined_bind (converted_value t v) y)
        cast_bind Turns = refl
        cast_bind Undefined = refl

    -- ---- pointers

    element_sim : (E : Objects) (s t s' t' r : CType) (u v x y : Value) → Operates op.Add s t r op.Add s' t' → Points r → R s u v → R t x y
        → Sim n (Located R r) E E (element s t u x) (element s' t' v y)
    element_sim E s t s' t' r u v x y add points h k =
        bind_sim (from_memory_sim (λ m. operate m op.Add s t u x) (λ m. operate m op.Add s' t' v y) (λ m w i. add m w u v x y i h k))
        (λ i j e. there_located r i j points e)

    pub element_of_sim : (E F G : Objects) (r : CType) (a b a' b' : Tree) → Valued E F a a' → Valued F G b b'
        → Operates op.Add (type_of a) (type_of b) r op.Add (type_of a') (type_of b') → Points r
        → Sim n (Located R r) E G (element_of (type_of a) (type_of b) (expression a c) (expression b c))
        (element_of (type_of a') (type_of b') (expression a' d) (expression b' d))
    element_of_sim E F G r a b a' b' h k add points =
        bind_sim h (λ u v i. bind_sim k (λ x y j. element_sim G (type_of a) (type_of b) (type_of a') (type_of b') r u v x y add points i j))

    pub index_sim : (E F G : Objects) (p q : Place) (r s t : CType) (a b a' b' : Tree) → Valued E F a a' → Valued F G b b'
        → Operates op.Add (type_of a) (type_of b) r op.Add (type_of a') (type_of b') → Points r → Loads s t
        → Sim n (Given R s) E G (expression (Node p s (Index a b)) c) (expression (Node q t (Index a' b')) d)
    index_sim E F G p q r s t a b a' b' h k add points loads =
        give_sim R s (bind_sim (element_of_sim E F G r a b a' b' h k add points) (λ x y i. read_located_sim G r s t x y points loads i))

    pub index_target_sim : (E F G : Objects) (p q : Place) (r s t : CType) (a b a' b' : Tree) → Valued E F a a' → Valued F G b b'
        → Operates op.Add (type_of a) (type_of b) r op.Add (type_of a') (type_of b') → Points r
        → Sim n (Located R r) E G (target (Node p s (Index a b)) c) (target (Node q t (Index a' b')) d)
    index_target_sim E F G p q r s t a b a' b' h k add points = element_of_sim E F G r a b a' b' h k add points

    pub deref_sim : (E F : Objects) (p q : Place) (s t : CType) (a b : Tree) → Valued E F a b → Points (type_of a) → Loads s t
        → Sim n (Given R s) E F (expression (Node p s (Deref a)) c) (expression (Node q t (Deref b)) d)
    deref_sim E F p q s t a b h points loads =
        give_sim R s (bind_sim (bind_sim h (λ u v i. there_located (type_of a) u v points i)) (λ x y i. read_located_sim F (type_of a) s t x y points loads i))

    pub deref_target_sim : (E F : Objects) (p q : Place) (s t : CType) (a b : Tree) → Valued E F a b → Points (type_of a)
        → Sim n (Located R (type_of a)) E F (target (Node p s (Deref a)) c) (target (Node q t (Deref b)) d)
    deref_target_sim E F p q s t a b h points = bind_sim h (λ u v i. there_located (type_of a) u v points i)

    located_address : (E : Objects) (r : CType) (x y : Target) → Located R r x y → Sim n (R r) E E (address x) (address y)
    located_address E r (There p) (There q) h = pure_sim (Value.At p) (Value.At q) h
    located_address E r (There p) (Named y) h = absurd h
    located_address E r (There p) (HalfNamed y k) h = absurd h
    located_address E r (Named x) y h = absurd h
    located_address E r (HalfNamed x k) y h = absurd h

    pub address_sim : (E F : Objects) (p q : Place) (r s t : CType) (a b : Tree) → Sim n (Located R r) E F (target a c) (target b d)
        → Sim n (Given R r) E F (expression (Node p s (Address a)) c) (expression (Node q t (Address b)) d)
    address_sim E F p q r s t a b h = give_sim R r (bind_sim h (λ x y i. located_address F r x y i))

    -- ---- calls

    pub no_arguments_sim : (E : Objects) → Sim n (Arguments R []) E E (values NoTrees c) (values NoTrees d)
    no_arguments_sim E = pure_sim [] [] tt

    pub arguments_sim : (E F G : Objects) (ts : List CType) (a b : Tree) (rest rest' : Trees) → Valued E F a b
        → Sim n (Arguments R ts) F G (values rest c) (values rest' d)
        → Sim n (Arguments R (type_of a ∷ ts)) E G (values (More a rest) c) (values (More b rest') d)
    arguments_sim E F G ts a b rest rest' h k = bind_sim h (λ u v i. bind_sim k (λ us vs j. pure_sim (u ∷ us) (v ∷ vs) (i, j)))

    -- a function of both, a row and the one that stands for it, or a row and its helper
    pub call_expression_sim : (E F : Objects) (p q : Place) (f g : List ℕ) (ts : List CType) (r s t : CType) (all others : Trees) → CallsTo n R c d f ts r g
        → Sim n (Arguments R ts) E F (values all c) (values others d)
        → Sim n (Given R r) E F (expression (Node p s (Call f all)) c) (expression (Node q t (Call g others)) d)
    call_expression_sim E F p q f g ts r s t all others h k = bind_sim k (λ vs ws i. call_sim R c d f g ts r vs ws h i)

    -- ---- pairs and sizes

    pub pair_sim : (E F G : Objects) (p q : Place) (r s t : CType) (a b a' b' : Tree) → Valued E F a a' → Valued F G b b'
        → ((u v x y : Value) → R (type_of a) u v → R (type_of b) x y → Sim n (R r) G G (pair_of u x) (pair_of v y)) → Sim n (Given R r) E G
        (expression (Node p s (PairOf a b)) c) (expression (Node q t (PairOf a' b')) d)
    pair_sim E F G p q r s t a b a' b' h k l = give_sim R r (bind_sim h (λ u v i. bind_sim k (λ x y j. l u v x y i j)))

    pub size_sim : (E : Objects) (p q : Place) (r s t u v : CType) → Sim n (R r) E E (size_value u) (size_value v)
        → Sim n (Given R r) E E (expression (Node p s (SizeOfType u)) c) (expression (Node q t (SizeOfType v)) d)
    size_sim E p q r s t u v h = give_sim R r h

    pub size_of_name_sim : (scope : List Carried) (ks : Marks) (p q : Place) (r s t u v : CType) (way : Way) (x : List ℕ)
        → carried x scope ≡ Some (Shared way x u v) → Sim n (R r) (Scope R scope ks) (Scope R scope ks) (size_value u) (size_value v)
        → Sim n (Given R r) (Scope R scope ks) (Scope R scope ks) (expression (Node p s (SizeOfName x)) c) (expression (Node q t (SizeOfName x)) d)
    size_of_name_sim scope ks p q r s t u v way x is h = give_sim R r (bind_sim (object_sim R scope ks way x u v is) (λ b e k. rw (k.0.ty, k.0.other_ty) h))
