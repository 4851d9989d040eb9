-- Arguments have matching ones of the types that theirs are written as, and no others.
use Rattle.std.proofs.Common.{◌≡◌, ℕ, List, [], ◌∷◌, ◌++◌, map, take, drop, length, true, false, refl, sym, ap, ◌∙◌, arith, subst}
use Rattle.std.proofs.lemmas.List.{length-drop, take-append-drop}
use Rattle.std.proofs.Math.Seq.{take-length}
use Rattle.lane_core.specs.declared.number.IntType.{IntType}
use Rattle.lane_core.specs.declared.number.IntType.TheVariants as int
use Rattle.lane_core.specs.declared.number.Num.{Num}
use Rattle.lane_core.specs.IntRange.{InRange}
use Rattle.scalar_core.specs.Numbers.{num_of}
use Rattle.scalar_core.specs.NumberLaws.{num_same, num_of_in_range}
use Rattle.c_tree.specs.declared.types.CType.{CType}
use Rattle.c_tree.specs.declared.types.CType.TheVariants as ctypes
use Rattle.c_memory.specs.declared.blocks.Block.{Block}
use Rattle.c_memory.specs.declared.value.Value.{Value}
use Rattle.c_memory.specs.Matching.{half, written_integer, written_type, ValuesMatch, ArgumentsMatch}
use Rattle.c_memory.specs.Values.{IsOfType, IsPlaced, AreArguments}
use Rattle.c_memory.specs.Written.{MatchingArguments}

-- ---- one alone

number_type : (t : CType) (n : Num) → IsOfType t (Value.Int n) → t ≡ CType.Int n.ty
number_type (ctypes.Int t) n h = ap CType.Int (sym h)
number_type (ctypes.Neon lanes true) n h = absurd h
number_type (ctypes.Neon lanes false) n h = absurd h
number_type t n h = absurd h

number_same : (t : CType) (m n : Num) → IsOfType t (Value.Int m) → IsOfType t (Value.Int n) → m.value ≡ n.value → m ≡ n
number_same t m n h k e = let types : m.ty ≡ n.ty = (let a = number_type t m h in let b = number_type t n k in cc) in num_same m n types e

wide : (t : CType) (r : List ℕ) → IsOfType t (Value.R32 r) → length r ≡ 32
wide ctypes.M256 r h = h.size
wide ctypes.Pair r h = h.size
wide (ctypes.Neon lanes true) r h = absurd h
wide (ctypes.Neon lanes false) r h = absurd h
wide t r h = absurd h

-- the halves of 32 bytes are those of a pair
second_half : (r : List ℕ) → length r ≡ 32 → half 1 r ≡ drop 16 r
second_half r e =
    let long : length (drop 16 r) ≡ 16 = length-drop 16 r ∙ omega (arith, e) in
    subst (λ n. take n (drop 16 r) ≡ drop 16 r) long (take-length (drop 16 r))

halves_same : (a b c : List ℕ) → length b ≡ 32 → length c ≡ 32 → half 0 b ≡ take 16 a → half 1 b ≡ drop 16 a → half 0 c ≡ take 16 a → half 1 c ≡ drop 16 a → b ≡ c
halves_same a b c lb lc b0 b1 c0 c1 =
    let first : take 16 b ≡ take 16 c = b0 ∙ sym c0 in
    let second : drop 16 b ≡ drop 16 c = sym (second_half b lb) ∙ b1 ∙ sym c1 ∙ second_half c lc in
    sym (take-append-drop 16 b) ∙ ap (λ l. l ++ drop 16 b) first ∙ ap (λ l. take 16 c ++ l) second ∙ take-append-drop 16 c

one_value : (t : CType) (v w x : Value) → IsOfType t w → IsOfType t x → ValuesMatch v w → ValuesMatch v x → w ≡ x
one_value t (Value.Int m) (Value.Int n) (Value.Int o) h k e f = ap Value.Int (number_same t n o h k (sym e ∙ f))
one_value t (Value.R8 a) (Value.R8 b) (Value.R8 c) h k e f = ap Value.R8 (sym e ∙ f)
one_value t (Value.R16 a) (Value.R16 b) (Value.R16 c) h k e f = ap Value.R16 (sym e ∙ f)
one_value t (Value.R32 a) (Value.R32 b) (Value.R32 c) h k e f = ap Value.R32 (halves_same a b c (wide t b h) (wide t c k) e.0 e.1 f.0 f.1)
one_value t (Value.At p) (Value.At q) (Value.At r) h k e f = ap Value.At (sym e ∙ f)
one_value t (Value.Int m) (Value.Int n) x h k e f = absurd f
one_value t (Value.R8 a) (Value.R8 b) x h k e f = absurd f
one_value t (Value.R16 a) (Value.R16 b) x h k e f = absurd f
one_value t (Value.R32 a) (Value.R32 b) x h k e f = absurd f
one_value t (Value.At p) (Value.At q) x h k e f = absurd f
one_value t v w x h k e f = absurd e

all_same : (memory : List Block) (ts : List CType) (args others more : List Value) → AreArguments memory ts others → AreArguments memory ts more → ArgumentsMatch args others → ArgumentsMatch args more → others ≡ more
all_same memory [] [] [] [] h k e f = refl
all_same memory (t ∷ ts) (v ∷ vs) (w ∷ ws) (x ∷ xs) h k e f = ap (λ y. y ∷ ws) (one_value t v w x h.0 k.0 e.0 f.0) ∙ ap (λ l. x ∷ l) (all_same memory ts vs ws xs h.2 k.2 e.1 f.1)
all_same memory ts [] [] (x ∷ xs) h k e f = absurd f
all_same memory ts [] (w ∷ ws) more h k e f = absurd e
all_same memory ts (v ∷ vs) [] more h k e f = absurd e
all_same memory ts (v ∷ vs) (w ∷ ws) [] h k e f = absurd f
all_same memory [] (v ∷ vs) (w ∷ ws) (x ∷ xs) h k e f = absurd h
all_same memory (t ∷ ts) [] [] [] h k e f = absurd h

pub matching_are_same : (memory : List Block) (types : List CType) (args others more : List Value) → MatchingArguments written_type memory types args others → MatchingArguments written_type memory types args more → others ≡ more
matching_are_same memory types args others more h k = all_same memory (map written_type types) args others more h.second k.second h.same k.same

-- ---- one at least

-- a value of the type that t is written as, for a value of t
record Partner (memory : List Block) (t : CType) (v : Value) : Type 0 where
  value : Value
  of_type : IsOfType (written_type t) value
  placed : IsPlaced memory value
  same : ValuesMatch v value

written_range : (t : IntType) (n : Num) → n.ty ≡ t → InRange (written_integer t) n.value
written_range int.Char n e = subst (λ u. InRange u n.value) e n.in_range
written_range int.Boolean n e = subst (λ u. InRange u n.value) e n.in_range
written_range int.SChar n e = subst (λ u. InRange u n.value) e n.in_range
written_range int.UChar n e = subst (λ u. InRange u n.value) e n.in_range
written_range int.Short n e = subst (λ u. InRange u n.value) e n.in_range
written_range int.UShort n e = subst (λ u. InRange u n.value) e n.in_range
written_range int.Int n e = subst (λ u. InRange u n.value) e n.in_range
written_range int.UInt n e = subst (λ u. InRange u n.value) e n.in_range
written_range int.Long n e = subst (λ u. InRange u n.value) e n.in_range
written_range int.ULong n e = subst (λ u. InRange u n.value) e n.in_range
written_range int.LLong n e = subst (λ u. InRange u n.value) e n.in_range
written_range int.ULLong n e = subst (λ u. InRange u n.value) e n.in_range

num_type : (t : IntType) (n : Num) → n.ty ≡ t → (num_of (written_integer t) n.value).ty ≡ written_integer t
unfolding num_of
num_type t n e = refl

partner : (memory : List Block) (t : CType) (v : Value) → IsOfType t v → IsPlaced memory v → Partner memory t v
partner memory (ctypes.Int t) (Value.Int n) h p =
    record { value = Value.Int (num_of (written_integer t) n.value); of_type = num_type t n h; placed = tt; same = sym (num_of_in_range (written_integer t) n.value (written_range t n h)) }
partner memory ctypes.M128 (Value.R16 r) h p = record { value = Value.R16 r; of_type = h; placed = tt; same = refl }
partner memory ctypes.M256 (Value.R32 r) h p = record { value = Value.R32 r; of_type = h; placed = tt; same = (refl, second_half r h.size) }
partner memory (ctypes.Neon lanes true) (Value.R16 r) h p = record { value = Value.R16 r; of_type = h; placed = tt; same = refl }
partner memory (ctypes.Neon lanes false) (Value.R8 r) h p = record { value = Value.R8 r; of_type = h; placed = tt; same = refl }
partner memory ctypes.Pair (Value.R32 r) h p = record { value = Value.R32 r; of_type = h; placed = tt; same = (refl, second_half r h.size) }
partner memory (ctypes.Pointer element constant) (Value.At q) h p = record { value = Value.At q; of_type = tt; placed = p; same = refl }
partner memory (ctypes.Neon lanes true) v h p = absurd h
partner memory (ctypes.Neon lanes false) v h p = absurd h
partner memory t v h p = absurd h

pub matching_exist : (memory : List Block) (types : List CType) (args : List Value) → AreArguments memory types args → (others : List Value) × MatchingArguments written_type memory types args others
matching_exist memory [] [] h = ([], record { first = tt; second = tt; same = tt })
matching_exist memory (t ∷ ts) (v ∷ vs) h =
    let one = partner memory t v h.0 h.1 in
    let rest = matching_exist memory ts vs h.2 in
    (one.value ∷ rest.0, record { first = h; second = (one.of_type, one.placed, rest.1.second); same = (one.same, rest.1.same) })
matching_exist memory [] (v ∷ vs) h = absurd h
matching_exist memory (t ∷ ts) [] h = absurd h
