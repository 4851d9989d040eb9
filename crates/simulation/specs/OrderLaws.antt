-- The order in which objects of different names came into scope doesn't count: what a body does, it does with the outermost objects in another order too.
use Rattle.std.proofs.Common.{◌≡◌, ℕ, zero, suc, ◌+◌, ◌-◌, ◌≤◌, List, [], ◌∷◌, ◌++◌, length, drop, Bool, true, false, Option, Some, None, refl, sym, ap, ◌∙◌, subst, arith, if◌then◌else◌}
use Rattle.std.specs.Prelude.{option_map}
use Rattle.std.specs.Str.{bytes_eq}
use Rattle.std.proofs.lemmas.List.{length-append}
use Rattle.std.proofs.lemmas.Slice.Eq.{bytes_eq-Decides}
use Rattle.lane_core.specs.declared.number.BinOp.{BinOp}
use Rattle.c_tree.specs.declared.types.CType.{CType}
use Rattle.c_tree.specs.Tree.{Tree, Kind, Trees, Node, Const, Name, Unary, Step, Binary, AndThen, OrElse, Choice, Assign, Comma, Cast, Index, Deref, Address, Call, Half, PairOf, SizeOfType, SizeOfName, Str, NoTrees, More}
use Rattle.c_tree.specs.Tree.{Object, Statement, Statements, Optional, Declare, Run, Block, If, While, DoWhile, For, Break, Continue, Return, Empty, Absent, Present, NoStatements, Then, Definition}
use Rattle.c_memory.specs.declared.blocks.Block.{Block as MemoryBlock}
use Rattle.c_memory.specs.declared.value.Value.{Value}
use Rattle.c_memory.specs.Memory.{ended_from}
use Rattle.c_memory.specs.MeaningObjects.{encoded, Target, Named, HalfNamed, There, value_at, read_target, set_half, set_target}
use Rattle.c_memory.specs.MeaningState.{Location, Apart, Halves, InBlock, Binding, State, Out, Done, Turns, Undefined, Does, then_do, ◌>>=◌, ◌>>◌, pure, undefined, defined, from_memory, to_memory}
use Rattle.c_memory.specs.MeaningState.{found, object_of, changed, change, spend_from, spend, leave, scoped}
use Rattle.c_memory.specs.Meaning.{Calls, type_of, name_in, its_value, give, condition, choose, array_value, object_value, there, address, cast_to, assigned, assigned_by, step, half_target, half_of, half_expression, pair_of}
use Rattle.c_memory.specs.Meaning.{element_of, pointed, expression, kind_expression, target, kind_target, last, values, begin_object, fill, first_value, first_bytes, initialised, Later, declare}
use Rattle.c_memory.specs.Meaning.{Flow, Next, Broke, Continued, Returned, on_next, on_loop, loops, loops_after, then_step, optional_condition, optional_value, returned, no_more, act, optional_act, optional_body, sequence}
use Rattle.c_memory.specs.Meaning.{result, back_to, call_of, is_helper, with_function}
use Rattle.c_memory.specs.MeaningRows.{RowTable, row_done, row_result, found_call, call_of_row}

-- ---- objects in another order

-- The same objects in front, and behind them as many on both sides, among which each name finds the same object.
pub record Reordered (count : ℕ) (bs cs : List Binding) : Type 0 where
  pub front : List Binding
  pub one : List Binding
  pub other : List Binding
  pub first : bs ≡ front ++ one
  pub second : cs ≡ front ++ other
  pub long : length one ≡ count
  pub other_long : length other ≡ count
  pub alike : (x : List ℕ) → found x one ≡ found x other

found_behind : (x : List ℕ) (front a b : List Binding) → found x a ≡ found x b → found x (front ++ a) ≡ found x (front ++ b)
found_behind x [] a b h = h
found_behind x (g ∷ front) a b h = ap (λ o. if bytes_eq x g.name then Some g else o) (found_behind x front a b h)

pub found_alike : (count : ℕ) (x : List ℕ) (bs cs : List Binding) → Reordered count bs cs → found x bs ≡ found x cs
found_alike count x bs cs h = ap (found x) h.first ∙ found_behind x h.front h.one h.other (h.alike x) ∙ sym (ap (found x) h.second)

abbrev moved_to : (Location → Location) → Binding → Binding
moved_to f b = record b { location = f b.location }

-- what a name finds once an object has changed
found_changed : (x y : List ℕ) (f : Location → Location) (bs : List Binding)
    → found y (changed x f bs) ≡ (if bytes_eq y x then option_map (moved_to f) (found y bs) else found y bs)
found_changed x y f [] = at (bytes_eq y x)
  where
    at : (u : Bool) → None ≡ (if u then option_map (moved_to f) None else None)
    at true = refl
    at false = refl
found_changed x y f (b ∷ bs) = at (bytes_eq x b.name) (bytes_eq y b.name) (bytes_eq y x) refl refl refl (found_changed x y f bs)
  where
    same_test : bytes_eq x b.name ≡ true → bytes_eq y b.name ≡ bytes_eq y x
    same_test e = sym (ap (bytes_eq y) ((bytes_eq-Decides x b.name).0 e))

    both : bytes_eq y b.name ≡ true → bytes_eq y x ≡ true → bytes_eq x b.name ≡ true
    both e g = ap (λ z. bytes_eq z b.name) (sym ((bytes_eq-Decides y x).0 g)) ∙ e

    at : (v w u : Bool) → bytes_eq x b.name ≡ v → bytes_eq y b.name ≡ w → bytes_eq y x ≡ u
        → found y (changed x f bs) ≡ (if u then option_map (moved_to f) (found y bs) else found y bs)
        → found y (if v then moved_to f b ∷ bs else b ∷ changed x f bs) ≡ (if u then option_map (moved_to f) (if w then Some b else found y bs) else if w then Some b else found y bs)
    at true true true e g h k = rw g refl
    at true false false e g h k = rw g refl
    at true true false e g h k = let z = same_test e in absurd (cc)
    at true false true e g h k = let z = same_test e in absurd (cc)
    at false true true e g h k = let z = both g h in absurd (cc)
    at false true false e g h k = rw g refl
    at false false true e g h k = rw g k
    at false false false e g h k = rw g k

changed_long : (x : List ℕ) (f : Location → Location) (bs : List Binding) → length (changed x f bs) ≡ length bs
changed_long x f [] = refl
changed_long x f (b ∷ bs) = at (bytes_eq x b.name) (changed_long x f bs)
  where
    at : (v : Bool) → length (changed x f bs) ≡ length bs → length (if v then moved_to f b ∷ bs else b ∷ changed x f bs) ≡ suc (length bs)
    at true h = refl
    at false h = ap suc h

-- one more object in front of both
pub one_in_front : (count : ℕ) (b : Binding) (bs cs : List Binding) → Reordered count bs cs → Reordered count (b ∷ bs) (b ∷ cs)
one_in_front count b bs cs h = record {
  front = b ∷ h.front;
  one = h.one;
  other = h.other;
  first = ap (λ z. b ∷ z) h.first;
  second = ap (λ z. b ∷ z) h.second;
  long = h.long;
  other_long = h.other_long;
  alike = h.alike;
}

changed_behind : (count : ℕ) (x : List ℕ) (f : Location → Location) (front a b : List Binding) → length a ≡ count → length b ≡ count → ((y : List ℕ) → found y a ≡ found y b)
    → Reordered count (changed x f (front ++ a)) (changed x f (front ++ b))
changed_behind count x f [] a b e g h = record {
  front = [];
  one = changed x f a;
  other = changed x f b;
  first = refl;
  second = refl;
  long = changed_long x f a ∙ e;
  other_long = changed_long x f b ∙ g;
  alike = λ y. found_changed x y f a ∙ ap (λ o. if bytes_eq y x then option_map (moved_to f) o else o) (h y) ∙ sym (found_changed x y f b);
}
changed_behind count x f (c ∷ front) a b e g h = at (bytes_eq x c.name) (changed_behind count x f front a b e g h)
  where
    at : (v : Bool) → Reordered count (changed x f (front ++ a)) (changed x f (front ++ b))
        → Reordered count (if v then moved_to f c ∷ (front ++ a) else c ∷ changed x f (front ++ a)) (if v then moved_to f c ∷ (front ++ b) else c ∷ changed x f (front ++ b))
    at true k = record { front = moved_to f c ∷ front; one = a; other = b; first = refl; second = refl; long = e; other_long = g; alike = h }
    at false k = one_in_front count c (changed x f (front ++ a)) (changed x f (front ++ b)) k

changed_reordered : (count : ℕ) (x : List ℕ) (f : Location → Location) (bs cs : List Binding) → Reordered count bs cs → Reordered count (changed x f bs) (changed x f cs)
changed_reordered count x f bs cs h =
    subst (λ z. Reordered count (changed x f z) (changed x f cs)) (sym h.first) (subst (λ z. Reordered count (changed x f (h.front ++ h.one)) (changed x f z)) (sym h.second)
    (changed_behind count x f h.front h.one h.other h.long h.other_long h.alike))

dropped_front : (k : ℕ) (front a : List Binding) → k ≤ length front → drop k (front ++ a) ≡ drop k front ++ a
dropped_front zero front a h = refl
dropped_front (suc k) [] a h = absurd (omega (arith, h))
dropped_front (suc k) (b ∷ front) a h = dropped_front k front a (omega (arith, h))

-- objects that are in front of both go out of scope
left_reordered : (count i j : ℕ) (bs cs : List Binding) → Reordered count bs cs → count ≤ i → count ≤ j → i ≡ j
    → Reordered count (drop (length bs - i) bs) (drop (length cs - j) cs)
left_reordered count i j bs cs h k l e =
    let a : length bs ≡ length h.front + count = ap length h.first ∙ length-append h.front h.one ∙ ap (λ z. length h.front + z) h.long in
    let b : length cs ≡ length h.front + count = ap length h.second ∙ length-append h.front h.other ∙ ap (λ z. length h.front + z) h.other_long in
    let m : length bs - i ≤ length h.front = omega (arith, a, k) in
    let same : length cs - j ≡ length bs - i = omega (arith, a, b, e) in
    record {
      front = drop (length bs - i) h.front;
      one = h.one;
      other = h.other;
      first = ap (drop (length bs - i)) h.first ∙ dropped_front (length bs - i) h.front h.one m;
      second = ap (λ z. drop z cs) same ∙ ap (drop (length bs - i)) h.second ∙ dropped_front (length bs - i) h.front h.other m;
      long = h.long;
      other_long = h.other_long;
      alike = h.alike;
    }

same_long : (count : ℕ) (bs cs : List Binding) → Reordered count bs cs → (length bs ≡ length cs) × (count ≤ length bs)
same_long count bs cs h =
    let a : length bs ≡ length h.front + count = ap length h.first ∙ length-append h.front h.one ∙ ap (λ z. length h.front + z) h.long in
    let b : length cs ≡ length h.front + count = ap length h.second ∙ length-append h.front h.other ∙ ap (λ z. length h.front + z) h.other_long in
    (a ∙ sym b, omega (arith, a))

-- ---- steps that do the same from both

abbrev pub SameOut : {A : Type 0} → ℕ → Out A → Out A → Type 0
SameOut count Undefined Undefined = Unit {0}
SameOut count Turns Turns = Unit {0}
SameOut count (Done a s) (Done b t) = (a ≡ b) × Reordered count s.objects t.objects × (s.memory ≡ t.memory) × (s.left ≡ t.left)
SameOut count _ _ = ⊥

abbrev at_state : List Binding → List MemoryBlock → ℕ → State
at_state bs memory left = record { objects = bs; memory = memory; left = left }

-- the step ends the same with the outermost objects in another order
pub record Steady {A : Type 0} (count : ℕ) (p : Does A) : Type 0 where
  pub by : (bs cs : List Binding) (memory : List MemoryBlock) (left : ℕ) → Reordered count bs cs → SameOut count (p (at_state bs memory left)) (p (at_state cs memory left))

then_same : {A B : Type 0} (count : ℕ) (o r : Out A) (f : A → Does B) → SameOut count o r → ((a : A) → Steady count (f a)) → SameOut count (then_do o f) (then_do r f)
then_same count Undefined Undefined f h k = tt
then_same count Turns Turns f h k = tt
then_same count (Done a s) (Done b t) f h k =
    subst (λ z. SameOut count (f a s) (f z t)) h.0
    (subst (λ m. SameOut count (f a s) (f a (at_state t.objects m t.left))) h.2
    (subst (λ l. SameOut count (f a s) (f a (at_state t.objects s.memory l))) h.3 ((k a).by s.objects t.objects s.memory s.left h.1)))
then_same count Undefined Turns f h k = absurd h
then_same count Undefined (Done b t) f h k = absurd h
then_same count Turns Undefined f h k = absurd h
then_same count Turns (Done b t) f h k = absurd h
then_same count (Done a s) Undefined f h k = absurd h
then_same count (Done a s) Turns f h k = absurd h

module _ {n : ℕ} where
  pub steady_bind : {A B : Type 0} {p : Does A} {f : A → Does B} → Steady n p → ((a : A) → Steady n (f a)) → Steady n (p >>= f)
  steady_bind {p = p} {f = f} h k = record { by = λ bs cs m l r. then_same n (p (at_state bs m l)) (p (at_state cs m l)) f (h.by bs cs m l r) k }

  pub steady_pure : {A : Type 0} (a : A) → Steady n (pure a)
  steady_pure a = record { by = λ bs cs m l r. (refl, r, refl, refl) }

  pub steady_undefined : {A : Type 0} → Steady {A = A} n undefined
  steady_undefined = record { by = λ bs cs m l r. tt }

  pub steady_turns : {A : Type 0} → Steady {A = A} n (λ s. Turns)
  steady_turns = record { by = λ bs cs m l r. tt }

  pub steady_defined : {A : Type 0} (o : Option A) → Steady n (defined o)
  steady_defined None = steady_undefined
  steady_defined (Some a) = steady_pure a

  pub steady_from_memory : {A : Type 0} (f : List MemoryBlock → Option A) → Steady n (from_memory f)
  steady_from_memory f = record { by = λ bs cs m l r. (steady_defined (f m)).by bs cs m l r }

  put_same : (bs cs : List Binding) (m : List MemoryBlock) (l : ℕ) (o : Option (List MemoryBlock)) → Reordered n bs cs
      → SameOut {A = Unit {0}} n (then_do (defined o (at_state bs m l)) (λ memory t. Done tt (record t { memory = memory })))
      (then_do (defined o (at_state cs m l)) (λ memory t. Done tt (record t { memory = memory })))
  put_same bs cs m l None r = tt
  put_same bs cs m l (Some w) r = (refl, r, refl, refl)

  pub steady_to_memory : (f : List MemoryBlock → Option (List MemoryBlock)) → Steady n (to_memory f)
  steady_to_memory f = record { by = λ bs cs m l r. put_same bs cs m l (f m) r }

  pub steady_object : (x : List ℕ) → Steady n (object_of x)
  steady_object x = record {
    by = λ bs cs m l r. subst (λ o. SameOut n (defined (found x bs) (at_state bs m l)) (defined o (at_state cs m l))) (found_alike n x bs cs r) ((steady_defined (found x bs)).by bs cs m l r);
  }

  pub steady_change : (x : List ℕ) (f : Location → Location) → Steady n (change x f)
  steady_change x f = record { by = λ bs cs m l r. (refl, changed_reordered n x f bs cs r, refl, refl) }

  pub steady_begin : (d : Object) (b : Bool) → Steady n (begin_object d b)
  steady_begin d true = record { by = λ bs cs m l r. (refl, one_in_front n (record { name = d.name; ty = d.ty; location = InBlock (length m) }) bs cs r, refl, refl) }
  steady_begin d false = record { by = λ bs cs m l r. (refl, one_in_front n (record { name = d.name; ty = d.ty; location = Apart None }) bs cs r, refl, refl) }

  pub steady_fill : (k : ℕ) (bytes : List ℕ) → Steady n (fill k bytes)
  steady_fill k bytes = record { by = λ bs cs m l r. (refl, r, refl, refl) }

  spend_from_same : (k : ℕ) (bs cs : List Binding) (m : List MemoryBlock) (l : ℕ) → Reordered n bs cs → SameOut n (spend_from k (at_state bs m l)) (spend_from k (at_state cs m l))
  spend_from_same zero bs cs m l r = tt
  spend_from_same (suc k) bs cs m l r = (refl, r, refl, refl)

  pub steady_spend : Steady n spend
  steady_spend = record { by = λ bs cs m l r. spend_from_same l bs cs m l r }

  left_same : {A : Type 0} (bs cs : List Binding) (m : List MemoryBlock) (l : ℕ) (o r : Out A) → Reordered n bs cs → SameOut n o r
      → SameOut n (then_do o (leave (at_state bs m l))) (then_do r (leave (at_state cs m l)))
  left_same bs cs m l Undefined Undefined h k = tt
  left_same bs cs m l Turns Turns h k = tt
  left_same bs cs m l (Done a s) (Done b t) h k =
      let e = same_long n bs cs h in
      (k.0, left_reordered n (length bs) (length cs) s.objects t.objects k.1 e.1 (subst (λ z. n ≤ z) e.0 e.1) e.0, ap (ended_from (length m)) k.2, k.3)
  left_same bs cs m l Undefined Turns h k = absurd k
  left_same bs cs m l Undefined (Done b t) h k = absurd k
  left_same bs cs m l Turns Undefined h k = absurd k
  left_same bs cs m l Turns (Done b t) h k = absurd k
  left_same bs cs m l (Done a s) Undefined h k = absurd k
  left_same bs cs m l (Done a s) Turns h k = absurd k

  pub steady_scoped : {A : Type 0} {p : Does A} → Steady n p → Steady n (scoped p)
  steady_scoped {p = p} h = record { by = λ bs cs m l r. left_same bs cs m l (p (at_state bs m l)) (p (at_state cs m l)) r (h.by bs cs m l r) }

  pub steady_choose : {A : Type 0} {p q : Does A} (b : Bool) → Steady n p → Steady n q → Steady n (choose b p q)
  steady_choose true h k = h
  steady_choose false h k = k

  pub steady_its_value : {p : Does (Option Value)} → Steady n p → Steady n (its_value p)
  steady_its_value h = steady_bind h steady_defined

  pub steady_give : {p : Does Value} → Steady n p → Steady n (give p)
  steady_give h = steady_bind h (λ v. steady_pure (Some v))

  steady_condition : {p : Does (Option Value)} → Steady n p → Steady n (condition p)
  steady_condition h = steady_bind (steady_its_value h) (λ v. steady_from_memory _)

  -- ---- objects and targets

  steady_value_at : (t : CType) (l : Location) → Steady n (value_at t l)
  steady_value_at t (Apart v) = steady_defined v
  steady_value_at t (Halves a b) = steady_undefined
  steady_value_at t (InBlock k) = steady_from_memory _

  steady_array_value : (l : Location) → Steady n (array_value l)
  steady_array_value (InBlock k) = steady_pure _
  steady_array_value (Apart v) = steady_undefined
  steady_array_value (Halves a b) = steady_undefined

  steady_object_value : (t : CType) (b : Binding) → Steady n (object_value t b)
  steady_object_value (CType.Array e k c) b = steady_array_value b.location
  steady_object_value CType.Void b = steady_value_at b.ty b.location
  steady_object_value (CType.Int t) b = steady_value_at b.ty b.location
  steady_object_value CType.M128 b = steady_value_at b.ty b.location
  steady_object_value CType.M256 b = steady_value_at b.ty b.location
  steady_object_value (CType.Neon l w) b = steady_value_at b.ty b.location
  steady_object_value CType.Pair b = steady_value_at b.ty b.location
  steady_object_value (CType.Pointer e c) b = steady_value_at b.ty b.location

  steady_there : (v : Value) → Steady n (there v)
  steady_there (Value.At p) = steady_pure _
  steady_there (Value.Int m) = steady_undefined
  steady_there (Value.R8 a) = steady_undefined
  steady_there (Value.R16 a) = steady_undefined
  steady_there (Value.R32 a) = steady_undefined

  steady_address : (t : Target) → Steady n (address t)
  steady_address (There p) = steady_pure _
  steady_address (Named x) = steady_undefined
  steady_address (HalfNamed x k) = steady_undefined

  steady_read : (t : CType) (p : Target) → Steady n (read_target t p)
  steady_read t (Named x) = steady_bind (steady_object x) (λ b. steady_value_at b.ty b.location)
  steady_read t (HalfNamed x k) = steady_bind (steady_object x) (λ b. steady_defined _)
  steady_read t (There p) = steady_from_memory _

  steady_set_half : (x : List ℕ) (k : ℕ) (v : Value) → Steady n (set_half x k v)
  steady_set_half x k (Value.R16 r) = steady_change x _
  steady_set_half x k (Value.Int m) = steady_undefined
  steady_set_half x k (Value.R8 a) = steady_undefined
  steady_set_half x k (Value.R32 a) = steady_undefined
  steady_set_half x k (Value.At p) = steady_undefined

  steady_set : (t : CType) (p : Target) (v : Value) → Steady n (set_target t p v)
  steady_set t (Named x) v = steady_change x _
  steady_set t (HalfNamed x k) v = steady_set_half x k v
  steady_set t (There p) v = steady_to_memory _

  steady_assigned : (t : CType) (p : Target) (v : Value) → Steady n (assigned t p v)
  steady_assigned t p v = steady_bind (steady_set t p v) (λ u. steady_pure v)

  steady_assigned_by : (o : Option BinOp) (t u : CType) (p : Target) (w : Value) → Steady n (assigned_by o t u p w)
  steady_assigned_by None t u p w = steady_assigned t p w
  steady_assigned_by (Some o) t u p w = steady_bind (steady_read t p) (λ v. steady_bind (steady_from_memory _) (λ x. steady_assigned t p x))

  steady_step : (t : CType) (up before : Bool) (p : Target) → Steady n (step t up before p)
  steady_step t up before p = steady_bind (steady_read t p) (λ v. steady_bind (steady_from_memory _) (λ w. steady_bind (steady_set t p w) (λ u. steady_pure _)))

  steady_half_target : (k : ℕ) (p : Target) → Steady n (half_target k p)
  steady_half_target k (Named x) = steady_pure _
  steady_half_target k (HalfNamed x j) = steady_undefined
  steady_half_target k (There p) = steady_undefined

  steady_half_of : (k : ℕ) (v : Value) → Steady n (half_of k v)
  steady_half_of zero (Value.R32 a) = steady_pure _
  steady_half_of (suc k) (Value.R32 a) = steady_pure _
  steady_half_of zero (Value.Int m) = steady_undefined
  steady_half_of zero (Value.R8 a) = steady_undefined
  steady_half_of zero (Value.R16 a) = steady_undefined
  steady_half_of zero (Value.At p) = steady_undefined
  steady_half_of (suc k) (Value.Int m) = steady_undefined
  steady_half_of (suc k) (Value.R8 a) = steady_undefined
  steady_half_of (suc k) (Value.R16 a) = steady_undefined
  steady_half_of (suc k) (Value.At p) = steady_undefined

  steady_half_expression : {p : Does (Option Value)} (o : Option (List ℕ)) (k : ℕ) → Steady n p → Steady n (half_expression o k p)
  steady_half_expression (Some x) k h = steady_give (steady_bind (steady_object x) (λ b. steady_defined _))
  steady_half_expression None k h = steady_give (steady_bind (steady_its_value h) (steady_half_of k))

  steady_pair_of : (v w : Value) → Steady n (pair_of v w)
  steady_pair_of (Value.R16 a) (Value.R16 b) = steady_pure _
  steady_pair_of (Value.R16 a) (Value.Int m) = steady_undefined
  steady_pair_of (Value.R16 a) (Value.R8 b) = steady_undefined
  steady_pair_of (Value.R16 a) (Value.R32 b) = steady_undefined
  steady_pair_of (Value.R16 a) (Value.At p) = steady_undefined
  steady_pair_of (Value.Int m) w = steady_undefined
  steady_pair_of (Value.R8 a) w = steady_undefined
  steady_pair_of (Value.R32 a) w = steady_undefined
  steady_pair_of (Value.At p) w = steady_undefined

  steady_cast : (t : CType) (v : Option Value) → Steady n (cast_to t v)
  steady_cast CType.Void v = steady_pure None
  steady_cast (CType.Int t) v = steady_give (steady_defined _)
  steady_cast CType.M128 v = steady_give (steady_defined _)
  steady_cast CType.M256 v = steady_give (steady_defined _)
  steady_cast (CType.Neon l w) v = steady_give (steady_defined _)
  steady_cast CType.Pair v = steady_give (steady_defined _)
  steady_cast (CType.Pointer e c) v = steady_give (steady_defined _)
  steady_cast (CType.Array e k c) v = steady_give (steady_defined _)

  steady_element : {p q : Does (Option Value)} (s t : CType) → Steady n p → Steady n q → Steady n (element_of s t p q)
  steady_element s t h k = steady_bind (steady_its_value h) (λ v. steady_bind (steady_its_value k) (λ w. steady_bind (steady_from_memory _) steady_there))

  steady_pointed : {p : Does (Option Value)} → Steady n p → Steady n (pointed p)
  steady_pointed h = steady_bind (steady_its_value h) steady_there

  -- ---- whole trees

  module _ (c : Calls) (calls : (f : List ℕ) (vs : List Value) → Steady n (c f vs)) where
    mutual
      pub steady_expression : (e : Tree) → Steady n (expression e c)
      steady_expression (Node p t k) = steady_kind t k

      steady_kind : (t : CType) (k : Kind) → Steady n (kind_expression t k c)
      steady_kind t (Const m) = steady_pure _
      steady_kind t (Name x) = steady_give (steady_bind (steady_object x) (λ b. steady_object_value b.ty b))
      steady_kind t (Unary o a) = steady_give (steady_bind (steady_its_value (steady_expression a)) (λ v. steady_from_memory _))
      steady_kind t (Step a up before) = steady_give (steady_bind (steady_target a) (steady_step t up before))
      steady_kind t (Binary o a b) = steady_give (steady_bind (steady_its_value (steady_expression a)) (λ v. steady_bind (steady_its_value (steady_expression b)) (λ w. steady_from_memory _)))
      steady_kind t (AndThen a b) =
          steady_give (steady_bind (steady_condition (steady_expression a)) (λ v. steady_bind (steady_choose v (steady_condition (steady_expression b)) (steady_pure false)) (λ w. steady_pure _)))
      steady_kind t (OrElse a b) =
          steady_give (steady_bind (steady_condition (steady_expression a)) (λ v. steady_bind (steady_choose v (steady_pure true) (steady_condition (steady_expression b))) (λ w. steady_pure _)))
      steady_kind t (Choice d a b) = steady_bind (steady_condition (steady_expression d)) (λ v. steady_choose v (steady_expression a) (steady_expression b))
      steady_kind t (Assign o a b) = steady_give (steady_bind (steady_target a) (λ p. steady_bind (steady_its_value (steady_expression b)) (λ w. steady_assigned_by o t (type_of b) p w)))
      steady_kind t (Comma all) = steady_last None all
      steady_kind t (Cast u a written) = steady_bind (steady_expression a) (steady_cast u)
      steady_kind t (Index a b) = steady_give (steady_bind (steady_element (type_of a) (type_of b) (steady_expression a) (steady_expression b)) (steady_read t))
      steady_kind t (Deref a) = steady_give (steady_bind (steady_pointed (steady_expression a)) (steady_read t))
      steady_kind t (Address a) = steady_give (steady_bind (steady_target a) steady_address)
      steady_kind t (Call f all) = steady_bind (steady_values all) (calls f)
      steady_kind t (Half a k) = steady_half_expression (name_in a) k (steady_expression a)
      steady_kind t (PairOf a b) = steady_give (steady_bind (steady_its_value (steady_expression a)) (λ v. steady_bind (steady_its_value (steady_expression b)) (steady_pair_of v)))
      steady_kind t (SizeOfType u) = steady_give (steady_defined _)
      steady_kind t (SizeOfName x) = steady_give (steady_bind (steady_object x) (λ b. steady_defined _))
      steady_kind t (Str x) = steady_undefined

      steady_target : (e : Tree) → Steady n (target e c)
      steady_target (Node p t k) = steady_kind_target k

      steady_kind_target : (k : Kind) → Steady n (kind_target k c)
      steady_kind_target (Name x) = steady_bind (steady_object x) (λ b. steady_pure _)
      steady_kind_target (Index a b) = steady_element (type_of a) (type_of b) (steady_expression a) (steady_expression b)
      steady_kind_target (Deref a) = steady_pointed (steady_expression a)
      steady_kind_target (Half a k) = steady_bind (steady_target a) (steady_half_target k)
      steady_kind_target (Const m) = steady_undefined
      steady_kind_target (Unary o a) = steady_undefined
      steady_kind_target (Step a up before) = steady_undefined
      steady_kind_target (Binary o a b) = steady_undefined
      steady_kind_target (AndThen a b) = steady_undefined
      steady_kind_target (OrElse a b) = steady_undefined
      steady_kind_target (Choice d a b) = steady_undefined
      steady_kind_target (Assign o a b) = steady_undefined
      steady_kind_target (Comma all) = steady_undefined
      steady_kind_target (Cast u a written) = steady_undefined
      steady_kind_target (Address a) = steady_undefined
      steady_kind_target (Call f all) = steady_undefined
      steady_kind_target (PairOf a b) = steady_undefined
      steady_kind_target (SizeOfType u) = steady_undefined
      steady_kind_target (SizeOfName x) = steady_undefined
      steady_kind_target (Str x) = steady_undefined

      steady_last : (v : Option Value) (all : Trees) → Steady n (last v all c)
      steady_last v NoTrees = steady_pure v
      steady_last v (More a rest) = steady_bind (steady_expression a) (λ w. steady_last w rest)

      steady_values : (all : Trees) → Steady n (values all c)
      steady_values NoTrees = steady_pure []
      steady_values (More a rest) = steady_bind (steady_its_value (steady_expression a)) (λ v. steady_bind (steady_values rest) (λ vs. steady_pure (v ∷ vs)))

    -- ---- declarations and statements

    steady_first_value : (b : Binding) (v : Value) → Steady n (first_value b v)
    steady_first_value b v = at b.location refl
      where
        at : (l : Location) → b.location ≡ l → Steady n (first_value b v)
        at (Apart o) e = rw e (steady_change b.name _)
        at (Halves x y) e = rw e (steady_change b.name _)
        at (InBlock k) e = rw e (steady_bind (steady_defined (encoded b.ty v)) (steady_fill k))

    steady_first_bytes : (l : Location) (bytes : List ℕ) → Steady n (first_bytes l bytes)
    steady_first_bytes (InBlock k) bytes = steady_fill k bytes
    steady_first_bytes (Apart v) bytes = steady_undefined
    steady_first_bytes (Halves a b) bytes = steady_undefined

    steady_initialised : (d : Object) (i : Option Tree) (l : Option Trees) → Steady n (initialised d i l c)
    steady_initialised d (Some e) l = steady_bind (steady_its_value (steady_expression e)) (λ v. steady_bind (steady_object d.name) (λ b. steady_first_value b v))
    steady_initialised d None (Some all) = steady_bind (steady_object d.name) (λ b. steady_bind (steady_defined _) (steady_first_bytes b.location))
    steady_initialised d None None = steady_pure tt

    steady_declare : (all : List Object) (later : Later) → Steady n (declare all later c)
    steady_declare [] later = steady_pure tt
    steady_declare (d ∷ rest) later = steady_bind (steady_bind (steady_begin d _) (λ u. steady_initialised d d.init d.list)) (λ u. steady_declare rest later)

    steady_on_next : {p : Does Flow} (f : Flow) → Steady n p → Steady n (on_next f p)
    steady_on_next Next h = h
    steady_on_next Broke h = steady_pure _
    steady_on_next Continued h = steady_pure _
    steady_on_next (Returned v) h = steady_pure _

    steady_on_loop : {p : Does Flow} (f : Flow) → Steady n p → Steady n (on_loop f p)
    steady_on_loop Next h = h
    steady_on_loop Broke h = steady_pure _
    steady_on_loop Continued h = h
    steady_on_loop (Returned v) h = steady_pure _

    steady_loops : {test : Does Bool} {body : Does Flow} (k : ℕ) → Steady n test → Steady n body → Steady n (loops k test body)
    steady_loops zero h b = steady_bind h (λ v. steady_choose v steady_turns (steady_pure Next))
    steady_loops (suc k) h b =
        steady_bind h (λ v. steady_choose v (steady_bind steady_spend (λ u. steady_bind b (λ f. steady_on_loop f (steady_loops k h b)))) (steady_pure Next))

    steady_loops_after : {test : Does Bool} {body : Does Flow} (k : ℕ) → Steady n test → Steady n body → Steady n (loops_after k test body)
    steady_loops_after zero h b = steady_turns
    steady_loops_after (suc k) h b =
        steady_bind steady_spend (λ u. steady_bind b (λ f. steady_on_loop f (steady_bind h (λ v. steady_choose v (steady_loops_after k h b) (steady_pure Next)))))

    steady_while : {test : Does Bool} {body : Does Flow} → Steady n test → Steady n body → Steady n (λ s. loops s.left test body s)
    steady_while h b = record { by = λ bs cs m l r. (steady_loops l h b).by bs cs m l r }

    steady_do : {test : Does Bool} {body : Does Flow} → Steady n test → Steady n body → Steady n (λ s. loops_after s.left test body s)
    steady_do h b = record { by = λ bs cs m l r. (steady_loops_after l h b).by bs cs m l r }

    steady_then_step : {p : Does (Option Value)} (f : Flow) → Steady n p → Steady n (then_step f p)
    steady_then_step Next h = steady_bind h (λ v. steady_pure Next)
    steady_then_step Continued h = steady_bind h (λ v. steady_pure Next)
    steady_then_step Broke h = steady_pure _
    steady_then_step (Returned v) h = steady_pure _

    steady_optional_condition : (e : Option Tree) → Steady n (optional_condition e c)
    steady_optional_condition None = steady_pure true
    steady_optional_condition (Some e) = steady_condition (steady_expression e)

    steady_optional_value : (e : Option Tree) → Steady n (optional_value e c)
    steady_optional_value None = steady_pure None
    steady_optional_value (Some e) = steady_expression e

    steady_returned : (e : Option Tree) → Steady n (returned e c)
    steady_returned None = steady_pure _
    steady_returned (Some e) = steady_bind (steady_its_value (steady_expression e)) (λ v. steady_pure _)

    mutual
      steady_act : (s : Statement) (later : Later) → Steady n (act s later c)
      steady_act (Declare all) later = steady_bind (steady_declare all later) (λ u. steady_pure Next)
      steady_act (Run e) later = steady_bind (steady_expression e) (λ v. steady_pure Next)
      steady_act (Block all) later = steady_scoped (steady_sequence all)
      steady_act (If e s o) later = steady_bind (steady_condition (steady_expression e)) (λ v. steady_choose v (steady_scoped (steady_act s no_more)) (steady_optional_body o))
      steady_act (While e s) later = steady_while (steady_condition (steady_expression e)) (steady_scoped (steady_act s no_more))
      steady_act (DoWhile s e) later = steady_do (steady_condition (steady_expression e)) (steady_scoped (steady_act s no_more))
      steady_act (For i e m s) later =
          steady_scoped (steady_bind (steady_optional_act i _) (λ f. steady_while (steady_optional_condition e)
          (steady_bind (steady_scoped (steady_act s no_more)) (λ g. steady_then_step g (steady_optional_value m)))))
      steady_act (Break p) later = steady_pure Broke
      steady_act (Continue p) later = steady_pure Continued
      steady_act (Return p e) later = steady_returned e
      steady_act Empty later = steady_pure Next

      steady_optional_act : (o : Optional) (later : Later) → Steady n (optional_act o later c)
      steady_optional_act Absent later = steady_pure Next
      steady_optional_act (Present s) later = steady_act s later

      steady_optional_body : (o : Optional) → Steady n (optional_body o c)
      steady_optional_body Absent = steady_pure Next
      steady_optional_body (Present s) = steady_scoped (steady_act s no_more)

      pub steady_sequence : (all : Statements) → Steady n (sequence all c)
      steady_sequence NoStatements = steady_pure Next
      steady_sequence (Then s rest) = steady_bind (steady_act s _) (λ f. steady_on_next f (steady_sequence rest))

    pub steady_result : (t : CType) (f : Flow) → Steady n (result t f)
    steady_result t (Returned v) = steady_pure v
    steady_result CType.Void Next = steady_pure None
    steady_result (CType.Int s) Next = steady_undefined
    steady_result CType.M128 Next = steady_undefined
    steady_result CType.M256 Next = steady_undefined
    steady_result (CType.Neon a b) Next = steady_undefined
    steady_result CType.Pair Next = steady_undefined
    steady_result (CType.Pointer a b) Next = steady_undefined
    steady_result (CType.Array a b e) Next = steady_undefined
    steady_result t Broke = steady_undefined
    steady_result t Continued = steady_undefined

-- ---- calls

-- calls do the same whatever is in scope where they are made
abbrev pub AreSteady : Calls → Type 0
AreSteady c = (count : ℕ) (f : List ℕ) (vs : List Value) → Steady count (c f vs)

back_same : (count : ℕ) (bs cs : List Binding) (m : List MemoryBlock) (l : ℕ) (o : Out (Option Value)) → Reordered count bs cs
    → SameOut count (then_do o (back_to (at_state bs m l))) (then_do o (back_to (at_state cs m l)))
back_same count bs cs m l Undefined r = tt
back_same count bs cs m l Turns r = tt
back_same count bs cs m l (Done a s) r = (refl, r, refl, refl)

steady_call : (count : ℕ) (tables : List Binding) (f : Definition) (c : Calls) (vs : List Value) → Steady count (call_of tables f c vs)
steady_call count tables f c vs = record { by = λ bs cs m l r. back_same count bs cs m l _ r }

-- with a function of the unit, and so with all of them, they still do
pub steady_with_function : (tables : List Binding) (f : Definition) (c : Calls) → AreSteady c → AreSteady (with_function tables f c)
steady_with_function tables f c h count x vs = at (bytes_eq x f.name) (is_helper x)
  where
    at : (v w : Bool) → Steady count (if v then (if w then pure (tt {0}) else spend) >> call_of tables f c vs else c x vs)
    at true true = steady_bind (steady_pure (tt {0})) (λ u. steady_call count tables f c vs)
    at true false = steady_bind steady_spend (λ u. steady_call count tables f c vs)
    at false w = h count x vs

row_same : (count : ℕ) (bs cs : List Binding) (m : List MemoryBlock) (l : ℕ) (o : Option (Option Value × List MemoryBlock)) → Reordered count bs cs
    → SameOut count (row_done (at_state bs m l) o) (row_done (at_state cs m l) o)
row_same count bs cs m l None r = tt
row_same count bs cs m l (Some (v, w)) r = (refl, r, refl, refl)

-- calls of a table's rows do
pub steady_rows : {Op : Type 0} (table : RowTable Op) → AreSteady (call_of_row table)
steady_rows {Op = Op} table count x vs = at (table.find x)
  where
    at : (op : Option Op) → Steady count (found_call table op vs)
    at None = steady_undefined
    at (Some op) = record { by = λ bs cs m l r. row_same count bs cs m l (row_result table op vs m) r }
