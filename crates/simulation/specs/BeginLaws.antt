-- Laws of the order in which parameters begin: those apart from memory may begin first, and those that are blocks behind them.
use Rattle.std.proofs.Common.{◌≡◌, ℕ, zero, suc, ◌+◌, List, [], ◌∷◌, ◌++◌, length, Bool, true, false, ◌||◌, Option, Some, None, refl, sym, ap, ◌∙◌, subst, arith, zero-add, if◌then◌else◌}
use Rattle.std.specs.Prelude.{option_map}
use Rattle.std.specs.Option.{option_and_then}
use Rattle.std.specs.Str.{bytes_eq}
use Rattle.std.proofs.lemmas.List.{length-append}
use Rattle.std.proofs.lemmas.Slice.Eq.{bytes_eq-Decides}
use Rattle.c_tree.specs.Tree.{Object, Statements, Definition}
use Rattle.address_taken.specs.Addressed.{takes_statements}
use Rattle.c_memory.specs.declared.blocks.Block.{Block}
use Rattle.c_memory.specs.declared.value.Value.{Value}
use Rattle.c_memory.specs.MeaningObjects.{encoded}
use Rattle.c_memory.specs.MeaningState.{Apart, InBlock, Binding, State, Out, Done, Turns, Undefined, Does, then_do, ◌>>=◌, ◌>>◌, pure, undefined, defined, found}
use Rattle.c_memory.specs.Meaning.{Calls, filled, fill, begin_parameter, begin_parameters, sequence, result, back_to, call_of}
use Rattle.simulation.specs.ObjectLaws.{first_block}
use Rattle.simulation.specs.OrderLaws.{Reordered, SameOut, Steady, steady_bind, steady_sequence, steady_result, AreSteady}

-- an object of the name is among them
abbrev pub is_among : List ℕ → List Object → Bool
is_among x [] = false
is_among x (o ∷ os) = bytes_eq x o.name || is_among x os

abbrev pub AreDistinct : List Object → Type 0
AreDistinct [] = Unit {0}
AreDistinct (o ∷ os) = (is_among o.name os ≡ false) × AreDistinct os

-- as many objects as values
abbrev pub ArePaired : List Object → List Value → Type 0
ArePaired [] [] = Unit {0}
ArePaired (o ∷ os) (v ∷ vs) = ArePaired os vs
ArePaired _ _ = ⊥

-- the parameters of a body that are apart from memory begin, and those that are blocks
abbrev pub begin_apart : Statements → List Object → List Value → Does (Unit {0})
begin_apart body [] [] = pure tt
begin_apart body (o ∷ os) (v ∷ vs) = (if takes_statements o.name body then pure tt else begin_parameter body o v) >> begin_apart body os vs
begin_apart body _ _ = undefined

abbrev pub begin_blocks : Statements → List Object → List Value → Does (Unit {0})
begin_blocks body [] [] = pure tt
begin_blocks body (o ∷ os) (v ∷ vs) = (if takes_statements o.name body then begin_parameter body o v else pure tt) >> begin_blocks body os vs
begin_blocks body _ _ = undefined

-- ---- what is in scope and in memory then

abbrev apart : Object → Value → Binding
apart o v = record { name = o.name; ty = o.ty; location = Apart (Some v) }

abbrev block : Object → ℕ → Binding
block o k = record { name = o.name; ty = o.ty; location = InBlock k }

abbrev apart_in : Statements → List Object → List Value → List Binding → List Binding
apart_in body (o ∷ os) (v ∷ vs) bs = apart_in body os vs (if takes_statements o.name body then bs else apart o v ∷ bs)
apart_in body _ _ bs = bs

abbrev next : Bool → ℕ → ℕ
next true k = suc k
next false k = k

abbrev blocks_in : Statements → List Object → ℕ → List Binding → List Binding
blocks_in body [] k bs = bs
blocks_in body (o ∷ os) k bs = blocks_in body os (next (takes_statements o.name body) k) (if takes_statements o.name body then block o k ∷ bs else bs)

abbrev all_in : Statements → List Object → List Value → ℕ → List Binding → List Binding
all_in body (o ∷ os) (v ∷ vs) k bs = all_in body os vs (next (takes_statements o.name body) k) (if takes_statements o.name body then block o k ∷ bs else apart o v ∷ bs)
all_in body _ _ k bs = bs

abbrev block_added : Object → Value → List Block → Option (List Block)
block_added o v m = option_map (λ bytes. filled (length m) bytes (m ++ (first_block o ∷ []))) (encoded o.ty v)

abbrev memory_with : Statements → List Object → List Value → List Block → Option (List Block)
memory_with body (o ∷ os) (v ∷ vs) m = if takes_statements o.name body then option_and_then (memory_with body os vs) (block_added o v m) else memory_with body os vs m
memory_with body _ _ m = Some m

abbrev begun_at : State → List Binding → Option (List Block) → Out (Unit {0})
begun_at s bs None = Undefined
begun_at s bs (Some m) = Done tt (record s { objects = bs; memory = m })

-- ---- one parameter

pub apart_begins : (body : Statements) (o : Object) (v : Value) (s : State) → takes_statements o.name body ≡ false
    → begin_parameter body o v s ≡ Done tt (record s { objects = apart o v ∷ s.objects })
apart_begins body o v s e = let mine : bytes_eq o.name o.name ≡ true = (bytes_eq-Decides o.name o.name).1 refl in rw (e, mine, mine) refl

block_begins : (body : Statements) (o : Object) (v : Value) (s : State) → takes_statements o.name body ≡ true
    → begin_parameter body o v s ≡ begun_at s (block o (length s.memory) ∷ s.objects) (block_added o v s.memory)
block_begins body o v s e =
    let mine : bytes_eq o.name o.name ≡ true = (bytes_eq-Decides o.name o.name).1 refl in
    rw (e, mine) (at (encoded o.ty v))
  where
    at : (bytes : Option (List ℕ))
        → then_do (defined bytes (record s { objects = block o (length s.memory) ∷ s.objects; memory = s.memory ++ (first_block o ∷ []) })) (fill (length s.memory))
        ≡ begun_at s (block o (length s.memory) ∷ s.objects) (option_map (λ bytes. filled (length s.memory) bytes (s.memory ++ (first_block o ∷ []))) bytes)
    at None = refl
    at (Some bytes) = refl

filled_long : (k : ℕ) (bytes : List ℕ) (m : List Block) → length (filled k bytes m) ≡ length m
filled_long k bytes [] = refl
filled_long zero bytes (b ∷ m) = refl
filled_long (suc k) bytes (b ∷ m) = ap suc (filled_long k bytes m)

added_long : (m w : List Block) (b : Block) (o : Option (List ℕ)) → option_map (λ bytes. filled (length m) bytes (m ++ (b ∷ []))) o ≡ Some w → length w ≡ suc (length m)
added_long m w b None e = absurd (cc)
added_long m w b (Some bytes) e =
    let same : filled (length m) bytes (m ++ (b ∷ [])) ≡ w = cc in
    let long : length (m ++ (b ∷ [])) ≡ length m + 1 = length-append m (b ∷ []) in
    sym (ap length same) ∙ filled_long (length m) bytes (m ++ (b ∷ [])) ∙ long ∙ one (length m)
  where
    one : (k : ℕ) → k + 1 ≡ suc k
    one k = omega arith

pub neither : (p q : Bool) → (p || q) ≡ false → (p ≡ false) × (q ≡ false)
neither true q e = absurd (cc)
neither false q e = (refl, e)

-- ---- all of them

module _ (body : Statements) where
  pub all_begin : (os : List Object) (vs : List Value) (s : State) → ArePaired os vs
      → begin_parameters body os vs s ≡ begun_at s (all_in body os vs (length s.memory) s.objects) (memory_with body os vs s.memory)
  all_begin [] [] s h = refl
  all_begin [] (v ∷ vs) s h = absurd h
  all_begin (o ∷ os) [] s h = absurd h
  all_begin (o ∷ os) (v ∷ vs) s h = at (λ u. all_begin os vs u h) (takes_statements o.name body) refl
    where
      Later : Type 0
      Later = (u : State) → begin_parameters body os vs u ≡ begun_at u (all_in body os vs (length u.memory) u.objects) (memory_with body os vs u.memory)

      behind : Later → (m : Option (List Block)) → block_added o v s.memory ≡ m
          → then_do (begun_at s (block o (length s.memory) ∷ s.objects) m) (λ _. begin_parameters body os vs)
          ≡ begun_at s (all_in body os vs (suc (length s.memory)) (block o (length s.memory) ∷ s.objects)) (option_and_then (memory_with body os vs) m)
      behind later None e = refl
      behind later (Some m) e =
          later (record s { objects = block o (length s.memory) ∷ s.objects; memory = m })
          ∙ ap (λ k. begun_at s (all_in body os vs k (block o (length s.memory) ∷ s.objects)) (memory_with body os vs m)) (added_long s.memory m (first_block o) (encoded o.ty v) e)

      at : Later → (b : Bool) → takes_statements o.name body ≡ b
          → then_do (begin_parameter body o v s) (λ _. begin_parameters body os vs)
          ≡ begun_at s (all_in body os vs (next b (length s.memory)) (if b then block o (length s.memory) ∷ s.objects else apart o v ∷ s.objects))
          (if b then option_and_then (memory_with body os vs) (block_added o v s.memory) else memory_with body os vs s.memory)
      at later true e = ap (λ z. then_do z (λ _. begin_parameters body os vs)) (block_begins body o v s e) ∙ behind later (block_added o v s.memory) refl
      at later false e = ap (λ z. then_do z (λ _. begin_parameters body os vs)) (apart_begins body o v s e) ∙ later (record s { objects = apart o v ∷ s.objects })

  pub apart_begin : (os : List Object) (vs : List Value) (s : State) → ArePaired os vs → begin_apart body os vs s ≡ Done tt (record s { objects = apart_in body os vs s.objects })
  apart_begin [] [] s h = refl
  apart_begin [] (v ∷ vs) s h = absurd h
  apart_begin (o ∷ os) [] s h = absurd h
  apart_begin (o ∷ os) (v ∷ vs) s h = at (λ u. apart_begin os vs u h) (takes_statements o.name body) refl
    where
      at : ((u : State) → begin_apart body os vs u ≡ Done tt (record u { objects = apart_in body os vs u.objects })) → (b : Bool) → takes_statements o.name body ≡ b
          → then_do ((if b then pure tt else begin_parameter body o v) s) (λ _. begin_apart body os vs) ≡ Done tt (record s { objects = apart_in body os vs (if b then s.objects else apart o v ∷ s.objects) })
      at later true e = later s
      at later false e = ap (λ z. then_do z (λ _. begin_apart body os vs)) (apart_begins body o v s e) ∙ later (record s { objects = apart o v ∷ s.objects })

  pub blocks_begin : (os : List Object) (vs : List Value) (s : State) → ArePaired os vs
      → begin_blocks body os vs s ≡ begun_at s (blocks_in body os (length s.memory) s.objects) (memory_with body os vs s.memory)
  blocks_begin [] [] s h = refl
  blocks_begin [] (v ∷ vs) s h = absurd h
  blocks_begin (o ∷ os) [] s h = absurd h
  blocks_begin (o ∷ os) (v ∷ vs) s h = at (λ u. blocks_begin os vs u h) (takes_statements o.name body) refl
    where
      Later : Type 0
      Later = (u : State) → begin_blocks body os vs u ≡ begun_at u (blocks_in body os (length u.memory) u.objects) (memory_with body os vs u.memory)

      behind : Later → (m : Option (List Block)) → block_added o v s.memory ≡ m
          → then_do (begun_at s (block o (length s.memory) ∷ s.objects) m) (λ _. begin_blocks body os vs)
          ≡ begun_at s (blocks_in body os (suc (length s.memory)) (block o (length s.memory) ∷ s.objects)) (option_and_then (memory_with body os vs) m)
      behind later None e = refl
      behind later (Some m) e =
          later (record s { objects = block o (length s.memory) ∷ s.objects; memory = m })
          ∙ ap (λ k. begun_at s (blocks_in body os k (block o (length s.memory) ∷ s.objects)) (memory_with body os vs m)) (added_long s.memory m (first_block o) (encoded o.ty v) e)

      at : Later → (b : Bool) → takes_statements o.name body ≡ b
          → then_do ((if b then begin_parameter body o v else pure tt) s) (λ _. begin_blocks body os vs)
          ≡ begun_at s (blocks_in body os (next b (length s.memory)) (if b then block o (length s.memory) ∷ s.objects else s.objects))
          (if b then option_and_then (memory_with body os vs) (block_added o v s.memory) else memory_with body os vs s.memory)
      at later true e = ap (λ z. then_do z (λ _. begin_blocks body os vs)) (block_begins body o v s e) ∙ behind later (block_added o v s.memory) refl
      at later false e = later s

  -- ---- each name finds the same in both orders

  module _ (x : List ℕ) where
    front_same : (b : Binding) (bs cs : List Binding) → found x bs ≡ found x cs → found x (b ∷ bs) ≡ found x (b ∷ cs)
    front_same b bs cs h = ap (λ o. if bytes_eq x b.name then Some b else o) h

    blocks_same : (os : List Object) (k : ℕ) (bs cs : List Binding) → found x bs ≡ found x cs → found x (blocks_in body os k bs) ≡ found x (blocks_in body os k cs)
    blocks_same [] k bs cs h = h
    blocks_same (o ∷ os) k bs cs h = at (takes_statements o.name body) (blocks_same os (suc k) (block o k ∷ bs) (block o k ∷ cs) (front_same (block o k) bs cs h)) (blocks_same os k bs cs h)
      where
        at : (b : Bool) → found x (blocks_in body os (suc k) (block o k ∷ bs)) ≡ found x (blocks_in body os (suc k) (block o k ∷ cs))
            → found x (blocks_in body os k bs) ≡ found x (blocks_in body os k cs)
            → found x (blocks_in body os (next b k) (if b then block o k ∷ bs else bs)) ≡ found x (blocks_in body os (next b k) (if b then block o k ∷ cs else cs))
        at true one other = one
        at false one other = other

    apart_same : (os : List Object) (vs : List Value) (bs cs : List Binding) → found x bs ≡ found x cs → found x (apart_in body os vs bs) ≡ found x (apart_in body os vs cs)
    apart_same [] vs bs cs h = h
    apart_same (o ∷ os) [] bs cs h = h
    apart_same (o ∷ os) (v ∷ vs) bs cs h = at (takes_statements o.name body) (apart_same os vs bs cs h) (apart_same os vs (apart o v ∷ bs) (apart o v ∷ cs) (front_same (apart o v) bs cs h))
      where
        at : (b : Bool) → found x (apart_in body os vs bs) ≡ found x (apart_in body os vs cs)
            → found x (apart_in body os vs (apart o v ∷ bs)) ≡ found x (apart_in body os vs (apart o v ∷ cs)) → found x (apart_in body os vs (if b then bs else apart o v ∷ bs)) ≡ found x (apart_in body os vs (if b then cs else apart o v ∷ cs))
        at true one other = one
        at false one other = other

    -- a name that none of them has is looked for behind them
    apart_passed : (os : List Object) (vs : List Value) (bs : List Binding) → is_among x os ≡ false → found x (apart_in body os vs bs) ≡ found x bs
    apart_passed [] vs bs h = refl
    apart_passed (o ∷ os) [] bs h = refl
    apart_passed (o ∷ os) (v ∷ vs) bs h =
        let k = neither (bytes_eq x o.name) (is_among x os) h in
        at (takes_statements o.name body) (apart_passed os vs bs k.1) (apart_passed os vs (apart o v ∷ bs) k.1 ∙ ap (λ z. if z then Some (apart o v) else found x bs) k.0)
      where
        at : (b : Bool) → found x (apart_in body os vs bs) ≡ found x bs → found x (apart_in body os vs (apart o v ∷ bs)) ≡ found x bs
            → found x (apart_in body os vs (if b then bs else apart o v ∷ bs)) ≡ found x bs
        at true one other = one
        at false one other = other

    -- an object may come in front of those of other names
    apart_behind : (os : List Object) (vs : List Value) (b : Binding) (bs : List Binding) → is_among b.name os ≡ false → found x (apart_in body os vs (b ∷ bs)) ≡ found x (b ∷ apart_in body os vs bs)
    apart_behind os vs b bs h = at (bytes_eq x b.name) refl
      where
        at : (p : Bool) → bytes_eq x b.name ≡ p → found x (apart_in body os vs (b ∷ bs)) ≡ (if p then Some b else found x (apart_in body os vs bs))
        at true e =
            apart_passed os vs (b ∷ bs) (subst (λ y. is_among y os ≡ false) (sym ((bytes_eq-Decides x b.name).0 e)) h) ∙ ap (λ z. if z then Some b else found x bs) e
        at false e = apart_same os vs (b ∷ bs) bs (ap (λ z. if z then Some b else found x bs) e)

    all_found : (os : List Object) (vs : List Value) (k : ℕ) (bs cs : List Binding) → ArePaired os vs → AreDistinct os → found x bs ≡ found x cs
        → found x (all_in body os vs k bs) ≡ found x (blocks_in body os k (apart_in body os vs cs))
    all_found [] [] k bs cs p h e = e
    all_found [] (v ∷ vs) k bs cs p h e = absurd p
    all_found (o ∷ os) [] k bs cs p h e = absurd p
    all_found (o ∷ os) (v ∷ vs) k bs cs p h e =
        at (takes_statements o.name body)
        (all_found os vs (suc k) (block o k ∷ bs) (block o k ∷ cs) p h.1 (front_same (block o k) bs cs e)
        ∙ blocks_same os (suc k) (apart_in body os vs (block o k ∷ cs)) (block o k ∷ apart_in body os vs cs) (apart_behind os vs (block o k) cs h.0))
        (all_found os vs k (apart o v ∷ bs) (apart o v ∷ cs) p h.1 (front_same (apart o v) bs cs e))
      where
        at : (b : Bool) → found x (all_in body os vs (suc k) (block o k ∷ bs)) ≡ found x (blocks_in body os (suc k) (block o k ∷ apart_in body os vs cs))
            → found x (all_in body os vs k (apart o v ∷ bs)) ≡ found x (blocks_in body os k (apart_in body os vs (apart o v ∷ cs)))
            → found x (all_in body os vs (next b k) (if b then block o k ∷ bs else apart o v ∷ bs))
            ≡ found x (blocks_in body os (next b k) (if b then block o k ∷ apart_in body os vs (if b then cs else apart o v ∷ cs) else apart_in body os vs (if b then cs else apart o v ∷ cs)))
        at true one other = one
        at false one other = other

  -- ---- and there are as many

  abbrev pub one_if : Bool → ℕ
  one_if true = 1
  one_if false = 0

  -- how many of them are blocks
  abbrev pub how_many : List Object → ℕ
  how_many [] = 0
  how_many (o ∷ os) = one_if (takes_statements o.name body) + how_many os

  blocks_long : (os : List Object) (k : ℕ) (bs : List Binding) → length (blocks_in body os k bs) ≡ how_many os + length bs
  blocks_long [] k bs = sym (zero-add (length bs))
  blocks_long (o ∷ os) k bs = at (takes_statements o.name body) (blocks_long os (suc k) (block o k ∷ bs)) (blocks_long os k bs)
    where
      at : (b : Bool) → length (blocks_in body os (suc k) (block o k ∷ bs)) ≡ how_many os + suc (length bs) → length (blocks_in body os k bs) ≡ how_many os + length bs
          → length (blocks_in body os (next b k) (if b then block o k ∷ bs else bs)) ≡ one_if b + how_many os + length bs
      at true one other = omega (arith, one)
      at false one other = omega (arith, other)

  all_long : (os : List Object) (vs : List Value) (k : ℕ) (bs : List Binding) → ArePaired os vs → length (all_in body os vs k bs) ≡ length os + length bs
  all_long [] [] k bs p = sym (zero-add (length bs))
  all_long [] (v ∷ vs) k bs p = absurd p
  all_long (o ∷ os) [] k bs p = absurd p
  all_long (o ∷ os) (v ∷ vs) k bs p = at (takes_statements o.name body) (all_long os vs (suc k) (block o k ∷ bs) p) (all_long os vs k (apart o v ∷ bs) p)
    where
      at : (b : Bool) → length (all_in body os vs (suc k) (block o k ∷ bs)) ≡ length os + suc (length bs) → length (all_in body os vs k (apart o v ∷ bs)) ≡ length os + suc (length bs)
          → length (all_in body os vs (next b k) (if b then block o k ∷ bs else apart o v ∷ bs)) ≡ suc (length os) + length bs
      at true one other = omega (arith, one)
      at false one other = omega (arith, other)

  apart_long : (os : List Object) (vs : List Value) (bs : List Binding) → ArePaired os vs → how_many os + length (apart_in body os vs bs) ≡ length os + length bs
  apart_long [] [] bs p = refl
  apart_long [] (v ∷ vs) bs p = absurd p
  apart_long (o ∷ os) [] bs p = absurd p
  apart_long (o ∷ os) (v ∷ vs) bs p = at (takes_statements o.name body) (apart_long os vs bs p) (apart_long os vs (apart o v ∷ bs) p)
    where
      at : (b : Bool) → how_many os + length (apart_in body os vs bs) ≡ length os + length bs → how_many os + length (apart_in body os vs (apart o v ∷ bs)) ≡ length os + suc (length bs)
          → one_if b + how_many os + length (apart_in body os vs (if b then bs else apart o v ∷ bs)) ≡ suc (length os) + length bs
      at true one other = omega (arith, one)
      at false one other = omega (arith, other)

  reordered : (os : List Object) (vs : List Value) (k : ℕ) (bs : List Binding) → ArePaired os vs → AreDistinct os
      → Reordered (length os + length bs) (all_in body os vs k bs) (blocks_in body os k (apart_in body os vs bs))
  reordered os vs k bs p h = record {
    front = [];
    one = all_in body os vs k bs;
    other = blocks_in body os k (apart_in body os vs bs);
    first = refl;
    second = refl;
    long = all_long os vs k bs p;
    other_long = blocks_long os k (apart_in body os vs bs) ∙ apart_long os vs bs p;
    alike = λ x. all_found x os vs k bs bs p h refl;
  }

-- ---- a call

-- what a function does, with its parameters in that order
abbrev pub in_order : Definition → Calls → List Value → Does (Option Value)
in_order f c args = begin_apart f.body f.params args >> (begin_blocks f.body f.params args >> (sequence f.body c >>= result f.result))

back_equal : (count : ℕ) (s : State) (o r : Out (Option Value)) → SameOut count o r → then_do o (back_to s) ≡ then_do r (back_to s)
back_equal count s Undefined Undefined h = refl
back_equal count s Turns Turns h = refl
back_equal count s (Done a u) (Done b v) h = rw (h.0, h.2, h.3) refl
back_equal count s Undefined Turns h = absurd h
back_equal count s Undefined (Done b v) h = absurd h
back_equal count s Turns Undefined h = absurd h
back_equal count s Turns (Done b v) h = absurd h
back_equal count s (Done a u) Undefined h = absurd h
back_equal count s (Done a u) Turns h = absurd h

pub called_in_order : (tables : List Binding) (f : Definition) (c : Calls) (args : List Value) (s : State) → AreSteady c → AreDistinct f.params → ArePaired f.params args
    → call_of tables f c args s ≡ then_do (in_order f c args (record s { objects = tables })) (back_to s)
called_in_order tables f c args s steady distinct paired =
    let start : State = record s { objects = tables } in
    let rest : Does (Option Value) = sequence f.body c >>= result f.result in
    let count = length f.params + length tables in
    let calls : (g : List ℕ) (vs : List Value) → Steady count (c g vs) = λ g vs. steady count g vs in
    let goes : Steady count rest = steady_bind (steady_sequence c calls f.body) (λ flow. steady_result c calls f.result flow) in
    let all = all_in f.body f.params args (length s.memory) tables in
    let others = blocks_in f.body f.params (length s.memory) (apart_in f.body f.params args tables) in
    let order = reordered f.body f.params args (length s.memory) tables paired distinct in
    ap (λ o. then_do (then_do o (λ _. rest)) (back_to s)) (all_begin f.body f.params args start paired)
    ∙ at all others rest count order goes (memory_with f.body f.params args s.memory)
    ∙ sym (ap (λ o. then_do (then_do o (λ _. rest)) (back_to s)) (blocks_begin f.body f.params args (record start { objects = apart_in f.body f.params args tables }) paired))
    ∙ sym (ap (λ o. then_do (then_do o (λ _. begin_blocks f.body f.params args >> rest)) (back_to s)) (apart_begin f.body f.params args start paired))
  where
    at : (bs cs : List Binding) (p : Does (Option Value)) (count : ℕ) → Reordered count bs cs → Steady count p → (m : Option (List Block))
        → then_do (then_do (begun_at (record s { objects = tables }) bs m) (λ _. p)) (back_to s)
        ≡ then_do (then_do (begun_at (record s { objects = apart_in f.body f.params args tables }) cs m) (λ _. p)) (back_to s)
    at bs cs p count r h None = refl
    at bs cs p count r h (Some m) = back_equal count s (p (record { objects = bs; memory = m; left = s.left })) (p (record { objects = cs; memory = m; left = s.left })) (h.by bs cs m s.left r)
