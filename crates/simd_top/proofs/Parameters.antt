-- The parameters of a function of the form, once they have their arguments.
use Rattle.std.proofs.Common.{◌≡◌, ℕ, suc, List, [], ◌∷◌, map, length, Bool, true, false, ◌||◌, Some, refl, sym, ◌∙◌, ap}
use Rattle.std.specs.Str.{bytes_eq}
use Rattle.std.proofs.lemmas.Slice.Eq.{bytes_eq-Decides}
use Rattle.lane_core.specs.Register.{IsRegister}
use Rattle.c_tree.specs.declared.types.CType.{CType}
use Rattle.c_tree.specs.declared.types.CType.TheVariants as ctypes
use Rattle.c_tree.specs.Tree.{Object, Statements}
use Rattle.address_taken.specs.Addressed.{takes_statements}
use Rattle.c_memory.specs.declared.blocks.Block.{Block}
use Rattle.c_memory.specs.declared.value.Value.{Value}
use Rattle.c_memory.specs.Matching.{ArgumentsMatch, ValuesMatch}
use Rattle.c_memory.specs.Values.{IsOfType, AreArguments}
use Rattle.c_memory.specs.MeaningState.{State, Binding, Apart, Done, found}
use Rattle.c_memory.specs.Meaning.{begin_parameters}
use Rattle.simd_top.specs.Form.{is_in, is_register, names_of}
use Rattle.c_memory.specs.Functions.{types_of}
use Rattle.simd_top.specs.Written.{moved_type}
use Rattle.simd_top.proofs.Expressions.{Known, name_value}

-- objects with the names of others, and types that are made of theirs
abbrev pub Heads : (CType → CType) → List Object → List Object → Type 0
Heads g [] [] = Unit {0}
Heads g (o ∷ os) (d ∷ ds) = (o.name ≡ d.name) × (o.ty ≡ g d.ty) × Heads g os ds
Heads g os ds = ⊥

-- parameters and their registers, the last one first
abbrev pub Pairs : Type 0
Pairs = List (Object × List ℕ)

abbrev pub paired : List Object → List (List ℕ) → Pairs → Pairs
paired [] rs zs = zs
paired (d ∷ ds) [] zs = zs
paired (d ∷ ds) (r ∷ rs) zs = paired ds rs ((d, r) ∷ zs)

abbrev pub binding : (CType → CType) → Object → List ℕ → Binding
binding g d r = record { name = d.name; ty = g d.ty; location = Apart (Some (Value.R16 r)) }

abbrev pub bindings : (CType → CType) → Pairs → List Binding
bindings g [] = []
bindings g (z ∷ zs) = binding g z.0 z.1 ∷ bindings g zs

-- the state with these parameters in scope
abbrev pub state : (CType → CType) → Pairs → List Block → ℕ → State
state g zs memory left = record { objects = bindings g zs; memory = memory; left = left }

pub equal : (x : List ℕ) → bytes_eq x x ≡ true
equal x = (bytes_eq-Decides x x).1 refl

one_begins : (g : CType → CType) (body : Statements) (o d : Object) (r : List ℕ) (os : List Object) (rs : List (List ℕ)) (zs : Pairs) (memory : List Block) (left : ℕ) → o.name ≡ d.name → o.ty ≡ g d.ty → takes_statements d.name body ≡ false →
    begin_parameters body (o ∷ os) (Value.R16 r ∷ map Value.R16 rs) (state g zs memory left) ≡ begin_parameters body os (map Value.R16 rs) (state g ((d, r) ∷ zs) memory left)
one_begins g body o d r os rs zs memory left name type h = rw (name, type, h, equal d.name, equal d.name) refl

pub parameters_begin : (g : CType → CType) (body : Statements) (os ds : List Object) (rs : List (List ℕ)) (zs : Pairs) (memory : List Block) (left : ℕ) →
    Heads g os ds → ((x : List ℕ) → takes_statements x body ≡ false) → length rs ≡ length ds →
    begin_parameters body os (map Value.R16 rs) (state g zs memory left) ≡ Done tt (state g (paired ds rs zs) memory left)
parameters_begin g body [] [] [] zs memory left heads h n = refl
parameters_begin g body [] [] (r ∷ rs) zs memory left heads h n = absurd (cc)
parameters_begin g body [] (d ∷ ds) rs zs memory left heads h n = absurd heads
parameters_begin g body (o ∷ os) [] rs zs memory left heads h n = absurd heads
parameters_begin g body (o ∷ os) (d ∷ ds) [] zs memory left heads h n = absurd (cc)
parameters_begin g body (o ∷ os) (d ∷ ds) (r ∷ rs) zs memory left heads h n =
    one_begins g body o d r os rs zs memory left heads.0 heads.1 (h d.name) ∙ parameters_begin g body os ds rs ((d, r) ∷ zs) memory left heads.2 h (cc)

-- ---- what a name denotes

abbrev pub AreRegisters : Pairs → Type 0
AreRegisters [] = Unit {0}
AreRegisters (z ∷ zs) = (is_register z.0.ty ≡ true) × IsRegister 16 z.1 × AreRegisters zs

abbrev pub has : Pairs → List ℕ → Bool
has [] x = false
has (z ∷ zs) x = bytes_eq x z.0.name || has zs x

-- the same parameter is found in both states
record FoundBoth (zs : Pairs) (x : List ℕ) : Type 0 where
  object : Object
  register : List ℕ
  is_register : IsRegister 16 register
  type : object.ty ≡ ctypes.M128
  first : found x (bindings (λ t. t) zs) ≡ Some (binding (λ t. t) object register)
  second : found x (bindings moved_type zs) ≡ Some (binding moved_type object register)

pub m128 : (t : CType) → is_register t ≡ true → t ≡ ctypes.M128
m128 ctypes.M128 h = refl
m128 ctypes.Void h = absurd (cc)
m128 (ctypes.Int t) h = absurd (cc)
m128 ctypes.M256 h = absurd (cc)
m128 (ctypes.Neon l w) h = absurd (cc)
m128 ctypes.Pair h = absurd (cc)
m128 (ctypes.Pointer p b) h = absurd (cc)
m128 (ctypes.Array p n b) h = absurd (cc)

found_both : (zs : Pairs) (x : List ℕ) → AreRegisters zs → has zs x ≡ true → FoundBoth zs x
found_both [] x h e = absurd (cc)
found_both (z ∷ zs) x h e = go (bytes_eq x z.0.name) refl (found_both zs x h.2) e
  where
    go : (v : Bool) → bytes_eq x z.0.name ≡ v → (has zs x ≡ true → FoundBoth zs x) → (v || has zs x) ≡ true → FoundBoth (z ∷ zs) x
    go true s rest e = record { object = z.0; register = z.1; is_register = h.1; type = m128 z.0.ty h.0; first = rw s refl; second = rw s refl }
    go false s rest e = let f = rest e in record { object = f.object; register = f.register; is_register = f.is_register; type = f.type; first = rw s f.first; second = rw s f.second }

source_name : (d : Object) (r x : List ℕ) (zs : Pairs) (memory : List Block) (left : ℕ) → d.ty ≡ ctypes.M128 → found x (bindings (λ t. t) zs) ≡ Some (binding (λ t. t) d r) →
    name_value x (state (λ t. t) zs memory left) ≡ Done (Some (Value.R16 r)) (state (λ t. t) zs memory left)
source_name d r x zs memory left t h = rw (h, t) refl

written_name : (d : Object) (r x : List ℕ) (zs : Pairs) (memory : List Block) (left : ℕ) → d.ty ≡ ctypes.M128 → found x (bindings moved_type zs) ≡ Some (binding moved_type d r) →
    name_value x (state moved_type zs memory left) ≡ Done (Some (Value.R16 r)) (state moved_type zs memory left)
written_name d r x zs memory left t h = rw (h, t) refl

either : (v w u : Bool) → ((v || w) || u) ≡ true → (w || (v || u)) ≡ true
either true true u h = refl
either true false u h = refl
either false w u h = h

-- a parameter's name is among the pairs
paired_has : (ds : List Object) (rs : List (List ℕ)) (zs : Pairs) (x : List ℕ) → length rs ≡ length ds → (is_in (names_of ds) x || has zs x) ≡ true → has (paired ds rs zs) x ≡ true
paired_has [] [] zs x n h = h
paired_has [] (r ∷ rs) zs x n h = absurd (cc)
paired_has (d ∷ ds) [] zs x n h = absurd (cc)
paired_has (d ∷ ds) (r ∷ rs) zs x n h = paired_has ds rs ((d, r) ∷ zs) x (cc) (either (bytes_eq x d.name) (is_in (names_of ds) x) (has zs x) h)

or_no : (v : Bool) → v ≡ true → (v || false) ≡ true
or_no true h = refl
or_no false h = absurd (cc)

pub known : (ds : List Object) (rs : List (List ℕ)) (memory : List Block) (left : ℕ) → length rs ≡ length ds → AreRegisters (paired ds rs []) →
    Known (names_of ds) (state (λ t. t) (paired ds rs []) memory left) (state moved_type (paired ds rs []) memory left)
known ds rs memory left n h x e =
    let f = found_both (paired ds rs []) x h (paired_has ds rs [] x n (or_no (is_in (names_of ds) x) e)) in
    record {
      register = f.register;
      is_register = f.is_register;
      first = source_name f.object f.register x (paired ds rs []) memory left f.type f.first;
      second = written_name f.object f.register x (paired ds rs []) memory left f.type f.second;
    }

-- ---- arguments

-- the arguments are registers, and those of the other call are the same
pub record Registers (ds : List Object) (args others : List Value) : Type 0 where
  pub registers : List (List ℕ)
  pub count : length registers ≡ length ds
  pub first : args ≡ map Value.R16 registers
  pub second : others ≡ map Value.R16 registers
  pub each : (zs : Pairs) → AreRegisters zs → AreRegisters (paired ds registers zs)

abbrev pub AllRegisters : List Object → Type 0
AllRegisters [] = Unit {0}
AllRegisters (d ∷ ds) = (is_register d.ty ≡ true) × AllRegisters ds

one_more : (d : Object) (ds : List Object) (r : List ℕ) (args others : List Value) → is_register d.ty ≡ true → IsRegister 16 r → Registers ds args others →
    Registers (d ∷ ds) (Value.R16 r ∷ args) (Value.R16 r ∷ others)
one_more d ds r args others t h rest = record {
  registers = r ∷ rest.registers;
  count = ap suc rest.count;
  first = ap (λ vs. Value.R16 r ∷ vs) rest.first;
  second = ap (λ vs. Value.R16 r ∷ vs) rest.second;
  each = λ zs k. rest.each ((d, r) ∷ zs) (t, h, k);
}

with_first : (d : Object) (ds : List Object) (v w : Value) (vs ws : List Value) → is_register d.ty ≡ true → (r : List ℕ) × IsRegister 16 r × (v ≡ Value.R16 r) × (w ≡ Value.R16 r) → Registers ds vs ws →
    Registers (d ∷ ds) (v ∷ vs) (w ∷ ws)
with_first d ds v w vs ws t (r, is, a, b) rest = rw (a, b) (one_more d ds r vs ws t is rest)

-- one argument of a register's type, and the one that matches it
one_argument : (t : CType) (v w : Value) → is_register t ≡ true → IsOfType t v → ValuesMatch v w → (r : List ℕ) × IsRegister 16 r × (v ≡ Value.R16 r) × (w ≡ Value.R16 r)
one_argument ctypes.M128 (Value.R16 a) (Value.R16 b) h k m = (a, k, refl, ap Value.R16 (sym m))
one_argument ctypes.M128 (Value.R16 a) (Value.Int n) h k m = absurd m
one_argument ctypes.M128 (Value.R16 a) (Value.R8 b) h k m = absurd m
one_argument ctypes.M128 (Value.R16 a) (Value.R32 b) h k m = absurd m
one_argument ctypes.M128 (Value.R16 a) (Value.At b) h k m = absurd m
one_argument ctypes.M128 (Value.Int n) w h k m = absurd k
one_argument ctypes.M128 (Value.R8 a) w h k m = absurd k
one_argument ctypes.M128 (Value.R32 a) w h k m = absurd k
one_argument ctypes.M128 (Value.At a) w h k m = absurd k
one_argument ctypes.Void v w h k m = absurd (cc)
one_argument (ctypes.Int t) v w h k m = absurd (cc)
one_argument ctypes.M256 v w h k m = absurd (cc)
one_argument (ctypes.Neon l n) v w h k m = absurd (cc)
one_argument ctypes.Pair v w h k m = absurd (cc)
one_argument (ctypes.Pointer p b) v w h k m = absurd (cc)
one_argument (ctypes.Array p n b) v w h k m = absurd (cc)

pub registers : (ds : List Object) (memory : List Block) (args others : List Value) → AllRegisters ds → AreArguments memory (types_of ds) args → ArgumentsMatch args others → Registers ds args others
registers [] memory [] [] h k m = record { registers = []; count = refl; first = refl; second = refl; each = λ zs k. k }
registers [] memory [] (w ∷ ws) h k m = absurd m
registers [] memory (v ∷ vs) others h k m = absurd k
registers (d ∷ ds) memory [] others h k m = absurd k
registers (d ∷ ds) memory (v ∷ vs) [] h k m = absurd m
registers (d ∷ ds) memory (v ∷ vs) (w ∷ ws) h k m = with_first d ds v w vs ws h.0 (one_argument d.ty v w h.0 k.0 m.0) (registers ds memory vs ws h.1 k.2 m.1)
