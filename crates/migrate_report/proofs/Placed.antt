-- What fits: the memory is one, and the arguments are of the parameters' types and point into it.
use Rattle.std.proofs.Common.{◌≡◌, ◌∙◌, ℕ, zero, suc, ◌*◌, ◌<◌, ◌≤◌, ◌^◌, ◌⊎◌, inl, inr, Bool, true, false, Option, Some, None, Result, Ok, Err, List, [], ◌∷◌, ◌++◌, map, replicate, length, get_or, refl, sym, ap, subst, arith}
use Rattle.std.specs.Prelude.{◌==◌, ◌&&◌, ◌||◌, not, nat_le, if◌then◌else◌, filter, IsTrue, IfSome, IfOk, Vec, option_map, slice_get, ℤ, pos, neg_ℤ, codes}
use Rattle.std.specs.Option.{option_and_then}
use Rattle.std.specs.Result.{result_ok}
use Rattle.std.specs.Str.{bytes_eq}
use Rattle.std.proofs.lemmas.Bool.{eqb-true, leb-true}
use Rattle.std.proofs.lemmas.List.{length-map, length-replicate}
use Rattle.std.specs.declared.alloc.Global.{Global}
use Rattle.hex.specs.Hex.{decode_of, decode_sized}
use Rattle.hex.specs.declared.error.FromHexError.{FromHexError}
use Rattle.hex.proofs.HexLemmas.{decode_of-ok, decode_sized-ok, decode_sized-twice}
use Rattle.lane_core.specs.Register.{IsRegister}
use Rattle.lane_core.specs.declared.number.IntType.{IntType}
use Rattle.scalar_core.specs.TwosComplement.{holds}
use Rattle.scalar_core.specs.Numbers.{num_of}
use Rattle.c_tree.specs.declared.types.CType.{CType}
use Rattle.c_memory.specs.declared.blocks.Block.{Block as MemoryBlock}
use Rattle.c_memory.specs.declared.memory.Memory.{Memory}
use Rattle.c_memory.specs.declared.memory.Pointer.{Pointer}
use Rattle.c_memory.specs.declared.memory.Pointer.TheVariants as pointer
use Rattle.c_memory.specs.declared.value.Value.{Value}
use Rattle.c_memory.specs.declared.value.Value.TheVariants as values
use Rattle.c_memory.specs.Defined.{IsAlignment}
use Rattle.c_memory.specs.Values.{IsOfType, AreBytes, IsBlock, IsMemory, PointsInto, IsPlaced, AreArguments}
use Rattle.c_tree.specs.Tree.{Definition, External}
use Rattle.migrate_report.specs.declared.fits.FitFail.{FitFail}
use Rattle.migrate_report.specs.Items.{Item, Block, Space, Integer, Vector, At, Null, joined, single, cut, number_of, is_alignment, checked_alignment, alignment_of, writable_of, is_hex, block_of_fields, space_of_fields, integer_of, at_of_fields, item_of_kind, item_of_parts, item_of, items_of, is_number, value, is_vector, block_size, total_size, most_bytes, is_within, items_fit_form}
use Rattle.c_memory.specs.Functions.{types_of, function_named}
use Rattle.migrate_report.specs.Fits.{set_block, block_with, block_given, blocks_of, reaches, pointer_at, integer_of_type, vector_of_type, pointer_of_type, argument, gives_argument, arguments, Fit, fitted, fit_memory, fit_items, fit_function, fitting, Answers}

-- ---- what is said of the item that is there, if one is

abbrev IsAligned : Item → Type 0
IsAligned (Block align writable hex) = IsAlignment align
IsAligned (Space align count) = IsAlignment align
IsAligned item = Unit {0}

abbrev WhereItem : Option Item → Type 0
WhereItem o = (item : Item) → o ≡ Some item → IsAligned item

there : (item : Item) → IsAligned item → WhereItem (Some item)
there item h other e = let same : item ≡ other = cc in subst IsAligned same h

nowhere : WhereItem None
nowhere item e = cc

either : (b : Bool) (x y : Option Item) → WhereItem x → WhereItem y → WhereItem (if b then x else y)
either true x y h g = h
either false x y h g = g

then_item : {A : Type 0} (o : Option A) (f : A → Option Item) → ((a : A) → o ≡ Some a → WhereItem (f a)) → WhereItem (option_and_then f o)
then_item None f h = nowhere
then_item (Some a) f h = h a refl

made : {A : Type 0} (o : Option A) (f : A → Item) → ((a : A) → IsAligned (f a)) → WhereItem (option_map f o)
made None f h = nowhere
made (Some a) f h = there (f a) (h a)

-- ---- alignments

eq_or : (n k : ℕ) (b : Bool) {P : Type 0} → (b ≡ true → P) → ((n == k) || b) ≡ true → (n ≡ k) ⊎ P
eq_or n k b f h =
    let cases : ((n == k) ≡ true) ⊎ (b ≡ true) = or_parts (n == k) b h in
    elim cases [ inl e ↦ inl (eqb-true n k e) | inr g ↦ inr (f g) ]
  where
    or_parts : (x y : Bool) → (x || y) ≡ true → (x ≡ true) ⊎ (y ≡ true)
    or_parts true y h = inl refl
    or_parts false y h = inr h

is_aligned : (n : ℕ) → is_alignment n ≡ true → IsAlignment n
is_aligned n =
    eq_or n 1 _ (eq_or n 2 _ (eq_or n 4 _ (eq_or n 8 _ (eq_or n 16 _ (eq_or n 32 _ (λ (h : (n == 64) ≡ true). eqb-true n 64 h))))))

checked : (n m : ℕ) → checked_alignment n ≡ Some m → IsAlignment m
checked n m h = by_test (is_alignment n) refl h
  where
    by_test : (b : Bool) → is_alignment n ≡ b → (if b then Some n else None) ≡ Some m → IsAlignment m
    by_test true e g = let same : n ≡ m = cc in subst IsAlignment same (is_aligned n e)
    by_test false e g = cc

alignment_aligned : (text : List ℕ) (n : ℕ) → alignment_of text ≡ Some n → IsAlignment n
alignment_aligned text n h = by_number (number_of text) h
  where
    by_number : (o : Option ℕ) → option_and_then checked_alignment o ≡ Some n → IsAlignment n
    by_number None g = cc
    by_number (Some m) g = checked m n g

-- ---- each item that a word gives

block_aligned : (align access hex : List ℕ) → WhereItem (block_of_fields align access hex)
block_aligned align access hex =
    either (is_hex hex) (option_and_then (λ n. option_map (λ w. Block n w hex) (writable_of access)) (alignment_of align)) None
    (then_item (alignment_of align) (λ n. option_map (λ w. Block n w hex) (writable_of access)) (λ n e. made (writable_of access) (λ w. Block n w hex) (λ w. alignment_aligned align n e)))
    nowhere

space_aligned : (align count : List ℕ) → WhereItem (space_of_fields align count)
space_aligned align count =
    then_item (alignment_of align) (λ n. option_map (λ size. Space n size) (number_of count)) (λ n e. made (number_of count) (λ size. Space n size) (λ size. alignment_aligned align n e))

integer_aligned : (text : List ℕ) → WhereItem (integer_of text)
integer_aligned [] = nowhere
integer_aligned (c ∷ cs) =
    either (c == 45) _ _
    (either (is_number cs && not (bytes_eq cs (codes "0"))) (Some (Integer (neg_ℤ (pos (value cs))))) None (there (Integer (neg_ℤ (pos (value cs)))) tt) nowhere)
    (made (number_of (c ∷ cs)) (λ n. Integer (pos n)) (λ n. tt))

at_aligned : (block offset : List ℕ) → WhereItem (at_of_fields block offset)
at_aligned block offset = then_item (number_of block) (λ b. option_map (λ o. At b o) (number_of offset)) (λ b e. made (number_of offset) (λ o. At b o) (λ o. tt))

kind_aligned : (kind rest : List ℕ) → WhereItem (item_of_kind kind rest)
kind_aligned kind rest =
    either (bytes_eq kind (codes "block")) _ _ (then_item (cut rest) _ (λ p e. then_item (cut p.1) _ (λ q g. block_aligned p.0 q.0 q.1)))
    (either (bytes_eq kind (codes "space")) _ _ (then_item (cut rest) _ (λ p e. space_aligned p.0 p.1))
    (either (bytes_eq kind (codes "int")) _ _ (integer_aligned rest)
    (either (bytes_eq kind (codes "vec")) _ _ (either (is_vector rest) (Some (Vector rest)) None (there (Vector rest) tt) nowhere)
    (either (bytes_eq kind (codes "at")) _ _ (then_item (cut rest) _ (λ p e. at_aligned p.0 p.1)) nowhere))))

item_aligned : (word : List ℕ) → WhereItem (item_of word)
item_aligned word = by_parts (cut word)
  where
    by_parts : (o : Option (List ℕ × List ℕ)) → WhereItem (item_of_parts word o)
    by_parts None = either (bytes_eq word (codes "null")) (Some Null) None (there Null tt) nowhere
    by_parts (Some p) = kind_aligned p.0 p.1

-- ---- lists

abbrev AreAligned : List Item → Type 0
AreAligned [] = Unit {0}
AreAligned (item ∷ rest) = IsAligned item × AreAligned rest

abbrev Parts : {A : Type 0} → Option (List A) → Option (List A) → List A → Type 0
Parts {A} first rest all = (xs : List A) × (ys : List A) × (first ≡ Some xs) × (rest ≡ Some ys) × (all ≡ xs ++ ys)

parted : {A : Type 0} (first rest : Option (List A)) (all : List A) → joined first rest ≡ Some all → Parts first rest all
parted None rest all h = cc
parted (Some xs) None all h = cc
parted (Some xs) (Some ys) all h = let e : all ≡ xs ++ ys = cc in (xs, ys, refl, refl, e)

one : {A : Type 0} (o : Option A) (xs : List A) → single o ≡ Some xs → (x : A) × (o ≡ Some x) × (xs ≡ x ∷ [])
one None xs h = cc
one (Some x) xs h = let e : xs ≡ x ∷ [] = cc in (x, refl, e)

pub are_aligned : (words : List (List ℕ)) (items : List Item) → items_of words ≡ Some items → AreAligned items
are_aligned [] items h = let e : [] ≡ items = cc in subst AreAligned e tt
are_aligned (word ∷ rest) items h =
    let p = parted (single (item_of word)) (items_of rest) items h in
    let s = one (item_of word) p.0 p.2 in
    let e : items ≡ s.0 ∷ p.1 = cc (p.4, s.2) in
    subst AreAligned (sym e) (item_aligned word s.0 s.1, are_aligned rest p.1 p.3)

-- ---- the memory

is_block : (align : ℕ) (writable : Bool) (bytes : List (Option ℕ)) → IsAlignment align → length bytes < 2 ^ 63 → AreBytes bytes → IsBlock (block_with align writable bytes)
is_block align writable bytes h small are = record { size = small; bytes = are; align = h }

set_bytes : (bytes : List ℕ) → ((i : ℕ) → get_or bytes i 0 < 256) → AreBytes (map Some bytes)
set_bytes [] h = tt
set_bytes (b ∷ bs) h = (h 0, set_bytes bs (λ i. h (suc i)))

unset_bytes : (count : ℕ) → AreBytes (replicate count None)
unset_bytes zero = tt
unset_bytes (suc n) = unset_bytes n

abbrev AreBlocks : List MemoryBlock → Type 0
AreBlocks [] = Unit {0}
AreBlocks (b ∷ bs) = IsBlock b × AreBlocks bs

both_blocks : (bs cs : List MemoryBlock) → AreBlocks bs → AreBlocks cs → AreBlocks (bs ++ cs)
both_blocks [] cs h g = g
both_blocks (b ∷ bs) cs h g = (h.0, both_blocks bs cs h.1 g)

given_blocks : (item : Item) (bs : List MemoryBlock) → IsAligned item → block_size item < 2 ^ 63 → block_given item ≡ Some bs → AreBlocks bs
given_blocks (Block align writable hex) bs h small e = from_bytes (decode_of hex) refl e
  where
    from_bytes : (d : Result (List ℕ) FromHexError) → decode_of hex ≡ d → option_map (λ bytes. set_block align writable bytes ∷ []) (result_ok d) ≡ Some bs → AreBlocks bs
    from_bytes (Err x) f g = cc
    from_bytes (Ok bytes) f g =
        let made : bs ≡ set_block align writable bytes ∷ [] = cc in
        let all = decode_of-ok hex bytes f in
        let twice : length hex ≡ 2 * length bytes = all.2 in
        let size : length (map Some bytes) < 2 ^ 63 = rw length-map (omega arith) in
        subst AreBlocks (sym made) (is_block align writable (map Some bytes) h size (set_bytes bytes all.3), tt)
given_blocks (Space align count) bs h small e =
    let made : bs ≡ block_with align true (replicate count None) ∷ [] = cc in
    let unset : List (Option ℕ) = replicate count None in
    let size : length unset < 2 ^ 63 = rw length-replicate small in
    subst AreBlocks (sym made) (is_block align true unset h size (unset_bytes count), tt)
given_blocks (Integer z) bs h small e = let made : [] ≡ bs = cc in subst AreBlocks made tt
given_blocks (Vector hex) bs h small e = let made : [] ≡ bs = cc in subst AreBlocks made tt
given_blocks (At b o) bs h small e = let made : [] ≡ bs = cc in subst AreBlocks made tt
given_blocks Null bs h small e = let made : [] ≡ bs = cc in subst AreBlocks made tt

all_blocks : (items : List Item) (memory : List MemoryBlock) → AreAligned items → total_size items < 2 ^ 63 → blocks_of items ≡ Some memory → AreBlocks memory
all_blocks [] memory h small e = let none : [] ≡ memory = cc in subst AreBlocks none tt
all_blocks (item ∷ rest) memory h small e =
    let p = parted (block_given item) (blocks_of rest) memory e in
    subst AreBlocks (sym p.4) (both_blocks p.0 p.1 (given_blocks item p.0 h.0 (omega arith) p.2) (all_blocks rest p.1 h.1 (omega arith) p.3))

by_number : (memory : List MemoryBlock) → AreBlocks memory → IsMemory memory
by_number [] h k b e = cc
by_number (c ∷ cs) h zero b e = let same : c ≡ b = cc in subst IsBlock same h.0
by_number (c ∷ cs) h (suc k) b e = by_number cs h.1 k b e

pub is_memory : (words : List (List ℕ)) (items : List Item) (memory : List MemoryBlock) → items_of words ≡ Some items → total_size items < 2 ^ 63 → blocks_of items ≡ Some memory → IsMemory memory
is_memory words items memory h small e = by_number memory (all_blocks items memory (are_aligned words items h) small e)

-- ---- the arguments

abbrev FitsType : List MemoryBlock → CType → Value → Type 0
FitsType memory t v = IsOfType t v × IsPlaced memory v

register : (n : ℕ) (hex r : List ℕ) → decode_sized hex n ≡ Ok r → IsRegister n r
register n hex r e =
    let digits : length hex ≡ 2 * n = decode_sized-ok hex n r e in
    let all = decode_of-ok hex r (sym (decode_sized-twice hex n digits) ∙ e) in
    let twice : length hex ≡ 2 * length r = all.2 in
    record { size = omega arith; bytes = record { below = all.3 } }

from_hex : (make : List ℕ → Value) (t : CType) (memory : List MemoryBlock) (n : ℕ) (hex : List ℕ) (v : Value) → ((r : List ℕ) → IsRegister n r → FitsType memory t (make r))
    → option_map make (result_ok (decode_sized hex n)) ≡ Some v → FitsType memory t v
from_hex make t memory n hex v f e = by_result (decode_sized hex n) refl e
  where
    by_result : (d : Result (List ℕ) FromHexError) → decode_sized hex n ≡ d → option_map make (result_ok d) ≡ Some v → FitsType memory t v
    by_result (Err x) g h = cc
    by_result (Ok r) g h = let same : make r ≡ v = cc in subst (FitsType memory t) same (f r (register n hex r g))

vector_fits : (memory : List MemoryBlock) (t : CType) (hex : List ℕ) (v : Value) → vector_of_type t hex ≡ Some v → FitsType memory t v
vector_fits memory CType.M128 hex v e = from_hex values.R16 CType.M128 memory 16 hex v (λ r h. (h, tt)) e
vector_fits memory CType.M256 hex v e = from_hex values.R32 CType.M256 memory 32 hex v (λ r h. (h, tt)) e
vector_fits memory (CType.Neon lanes true) hex v e = from_hex values.R16 (CType.Neon lanes true) memory 16 hex v (λ r h. (h, tt)) e
vector_fits memory (CType.Neon lanes false) hex v e = from_hex values.R8 (CType.Neon lanes false) memory 8 hex v (λ r h. (h, tt)) e
vector_fits memory CType.Pair hex v e = from_hex values.R32 CType.Pair memory 32 hex v (λ r h. (h, tt)) e
vector_fits memory CType.Void hex v e = cc
vector_fits memory (CType.Int t) hex v e = cc
vector_fits memory (CType.Pointer p constant) hex v e = cc
vector_fits memory (CType.Array p n constant) hex v e = cc

of_type : (t : IntType) (z : ℤ) → (num_of t z).ty ≡ t
unfolding num_of
of_type t z = refl

integer_fits : (memory : List MemoryBlock) (t : CType) (z : ℤ) (v : Value) → integer_of_type t z ≡ Some v → FitsType memory t v
integer_fits memory (CType.Int t) z v e = by_test (holds t z) e
  where
    by_test : (b : Bool) → (if b then Some (values.Int (num_of t z)) else None) ≡ Some v → FitsType memory (CType.Int t) v
    by_test true g = let same : values.Int (num_of t z) ≡ v = cc in subst (FitsType memory (CType.Int t)) same (of_type t z, tt)
    by_test false g = cc
integer_fits memory CType.Void z v e = cc
integer_fits memory CType.M128 z v e = cc
integer_fits memory CType.M256 z v e = cc
integer_fits memory (CType.Neon lanes wide) z v e = cc
integer_fits memory CType.Pair z v e = cc
integer_fits memory (CType.Pointer p constant) z v e = cc
integer_fits memory (CType.Array p n constant) z v e = cc

pointer_fits : (memory : List MemoryBlock) (t : CType) (o : Option Value) (v : Value) → ((w : Value) → o ≡ Some w → (p : Pointer) × (w ≡ values.At p) × PointsInto memory p)
    → pointer_of_type t o ≡ Some v → FitsType memory t v
pointer_fits memory (CType.Pointer p constant) o v f e =
    let at = f v e in subst (FitsType memory (CType.Pointer p constant)) (sym at.1) (tt, at.2)
pointer_fits memory CType.Void o v f e = cc
pointer_fits memory (CType.Int t) o v f e = cc
pointer_fits memory CType.M128 o v f e = cc
pointer_fits memory CType.M256 o v f e = cc
pointer_fits memory (CType.Neon lanes wide) o v f e = cc
pointer_fits memory CType.Pair o v f e = cc
pointer_fits memory (CType.Array p n constant) o v f e = cc

points_into : (memory : List MemoryBlock) (block offset : ℕ) (w : Value) → pointer_at memory block offset ≡ Some w → (p : Pointer) × (w ≡ values.At p) × PointsInto memory p
points_into memory block offset w e = by_block (slice_get memory block) refl e
  where
    by_block : (o : Option MemoryBlock) → slice_get memory block ≡ o → (if reaches offset o then Some (values.At (pointer.At block offset)) else None) ≡ Some w
        → (p : Pointer) × (w ≡ values.At p) × PointsInto memory p
    by_block None g h = cc
    by_block (Some b) g h = by_length (nat_le offset (length b.bytes)) refl h
      where
        by_length : (x : Bool) → nat_le offset (length b.bytes) ≡ x → (if x then Some (values.At (pointer.At block offset)) else None) ≡ Some w
            → (p : Pointer) × (w ≡ values.At p) × PointsInto memory p
        by_length true k h = let same : w ≡ values.At (pointer.At block offset) = cc in (pointer.At block offset, same, (b, g, leb-true offset (length b.bytes) k))
        by_length false k h = cc

argument_fits : (memory : List MemoryBlock) (t : CType) (item : Item) (v : Value) → argument memory t item ≡ Some v → FitsType memory t v
argument_fits memory t (Integer z) v e = integer_fits memory t z v e
argument_fits memory t (Vector hex) v e = vector_fits memory t hex v e
argument_fits memory t (At block offset) v e = pointer_fits memory t (pointer_at memory block offset) v (points_into memory block offset) e
argument_fits memory t Null v e =
    pointer_fits memory t (Some (values.At pointer.Null)) v (λ w g. let same : w ≡ values.At pointer.Null = cc in (pointer.Null, same, tt)) e
argument_fits memory t (Block align writable hex) v e = cc
argument_fits memory t (Space align count) v e = cc

pub are_arguments : (memory : List MemoryBlock) (types : List CType) (items : List Item) (args : List Value) → arguments memory types items ≡ Some args → AreArguments memory types args
are_arguments memory [] [] args e = let none : [] ≡ args = cc in subst (AreArguments memory []) none tt
are_arguments memory [] (item ∷ rest) args e = cc
are_arguments memory (t ∷ ts) [] args e = cc
are_arguments memory (t ∷ ts) (item ∷ rest) args e =
    let p = parted (single (argument memory t item)) (arguments memory ts rest) args e in
    let s = one (argument memory t item) p.0 p.2 in
    let fit = argument_fits memory t item s.0 s.1 in
    let same : args ≡ s.0 ∷ p.1 = cc (p.4, s.2) in
    subst (AreArguments memory (t ∷ ts)) (sym same) (fit.0, fit.1, are_arguments memory ts rest p.1 p.3)

-- ---- the whole

record Whole (words : List (List ℕ)) (types : List CType) (args : List Value) (memory : List MemoryBlock) : Type 0 where
  items : List Item
  read : items_of words ≡ Some items
  blocks : blocks_of items ≡ Some memory
  taken : arguments memory types (filter gives_argument items) ≡ Some args

whole : (words : List (List ℕ)) (types : List CType) (args : List Value) (memory : List MemoryBlock) → fit_items types (items_of words) ≡ Fit args memory → Whole words types args memory
whole words types args memory e = by_items (items_of words) refl e
  where
    by_arguments : (items : List Item) → items_of words ≡ Some items → (m : List MemoryBlock) → blocks_of items ≡ Some m
        → (o : Option (List Value)) → arguments m types (filter gives_argument items) ≡ o → fitted m o ≡ Fit args memory → Whole words types args memory
    by_arguments items f m g None h k = cc
    by_arguments items f m g (Some vs) h k =
        let same : m ≡ memory = cc in
        let given : vs ≡ args = cc in
        record { items = items; read = f; blocks = g ∙ ap Some same; taken = subst (λ b. arguments b types (filter gives_argument items) ≡ Some vs) same h ∙ ap Some given }

    by_blocks : (items : List Item) → items_of words ≡ Some items → (o : Option (List MemoryBlock)) → blocks_of items ≡ o → fit_memory types items o ≡ Fit args memory → Whole words types args memory
    by_blocks items f None g h = cc
    by_blocks items f (Some m) g h = by_arguments items f m g (arguments m types (filter gives_argument items)) refl h

    by_items : (o : Option (List Item)) → items_of words ≡ o → fit_items types o ≡ Fit args memory → Whole words types args memory
    by_items None f g = cc
    by_items (Some items) f g = by_blocks items f (blocks_of items) refl g

within : (words : List (List ℕ)) (items : List Item) → IsTrue (items_fit_form words) → items_of words ≡ Some items → total_size items < 2 ^ 63
within words items h e =
    let form : nat_le (total_size items) most_bytes ≡ true = subst (λ o. IsTrue (is_within most_bytes o)) e h in
    let least : total_size items ≤ 1048576 = leb-true (total_size items) most_bytes form in
    omega arith

memory_from : (words : List (List ℕ)) (o : Option Definition) (args : List Value) (memory : List MemoryBlock) → IsTrue (items_fit_form words) → fit_function o words ≡ Fit args memory → IsMemory memory
memory_from words None args memory h e = cc
memory_from words (Some f) args memory h e =
    let all = whole words (types_of f.params) args memory e in
    is_memory words all.items memory all.read (within words all.items h all.read) all.blocks

arguments_from : (words : List (List ℕ)) (o : Option Definition) (args : List Value) (memory : List MemoryBlock) → fit_function o words ≡ Fit args memory → IfSome o (λ f. AreArguments memory (types_of f.params) args)
arguments_from words None args memory e = tt
arguments_from words (Some f) args memory e =
    let all = whole words (types_of f.params) args memory e in
    are_arguments memory (types_of f.params) (filter gives_argument all.items) args all.taken

pub memory_given : (unit : List External) (name : List ℕ) (words : List (List ℕ)) (r : Result (Vec Value Global × Memory) FitFail) → IsTrue (items_fit_form words) → Answers (fitting unit name words) r
    → IfOk r (λ p. IsMemory p.1.blocks)
memory_given unit name words (Ok p) h e = memory_from words (function_named name unit) p.0.items p.1.blocks h e
memory_given unit name words (Err x) h e = tt

pub arguments_given : (unit : List External) (name : List ℕ) (words : List (List ℕ)) (r : Result (Vec Value Global × Memory) FitFail) → Answers (fitting unit name words) r
    → IfOk r (λ p. IfSome (function_named name unit) (λ f. AreArguments p.1.blocks (types_of f.params) p.0.items))
arguments_given unit name words (Ok p) e = arguments_from words (function_named name unit) p.0.items p.1.blocks e
arguments_given unit name words (Err x) e = tt
