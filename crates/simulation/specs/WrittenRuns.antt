-- Laws of the relation of values between a source and the unit that is written for it: what it begins with, what matches, and whole runs.
use Rattle.std.proofs.Common.{◌≡◌, ℕ, ◌+◌, List, [], ◌∷◌, ◌++◌, map, take, drop, length, true, false, refl, sym, ap, ◌∙◌, subst, arith}
use Rattle.std.proofs.lemmas.List.{length-drop, take-append-drop}
use Rattle.std.proofs.Math.Seq.{take-length}
use Rattle.lane_core.specs.Register.{IsRegister}
use Rattle.c_tree.specs.declared.types.CType.{CType}
use Rattle.c_tree.specs.Tree.{External}
use Rattle.c_memory.specs.declared.blocks.Block.{Block}
use Rattle.c_memory.specs.declared.memory.Pointer.{Pointer}
use Rattle.c_memory.specs.declared.memory.Pointer.TheVariants.{Null, At}
use Rattle.c_memory.specs.declared.value.Value.{Value}
use Rattle.c_memory.specs.Matching.{half, written_integer, written_type, ValuesMatch, ArgumentsMatch}
use Rattle.c_memory.specs.Values.{IsOfType, IsMemory, IsPlaced, PointsInto, AreArguments}
use Rattle.c_memory.specs.Written.{UnitsMatch, DoesTheSame}
use Rattle.c_memory.specs.Meaning.{Calls, functions, table_blocks, table_objects}
use Rattle.simulation.specs.Alike.{Arguments}
use Rattle.simulation.specs.MemoryLaw.{MemoryLaw, TurnsLaw}
use Rattle.simulation.specs.Runs.{Runs, AreGood}
use Rattle.simulation.specs.UnitLaws.{runs_match}
use Rattle.simulation.specs.WrittenValues.{IsNear, WrittenValues}

second_half : (a : List ℕ) → length a ≡ 32 → take 16 (drop 16 a) ≡ drop 16 a
second_half a e =
    let long : length (drop 16 a) ≡ 16 = length-drop 16 a ∙ omega (arith, e) in
    subst (λ k. take k (drop 16 a) ≡ drop 16 a) long (take-length (drop 16 a))

halves_match : (a b : List ℕ) → IsRegister 32 a → a ≡ b → (half 0 b ≡ take 16 a) × (half 1 b ≡ drop 16 a)
halves_match a b h e = rw (← e) (refl, second_half a h.size)

wide_halves : (a b : List ℕ) → length b ≡ 32 → half 0 b ≡ take 16 a → half 1 b ≡ drop 16 a → a ≡ b
wide_halves a b long e f =
    let second : drop 16 a ≡ drop 16 b = sym f ∙ second_half b long in
    sym (take-append-drop 16 a) ∙ ap (λ l. l ++ drop 16 a) (sym e) ∙ ap (λ l. take 16 b ++ l) second ∙ take-append-drop 16 b

-- related values match
pub written_values_match : (t : CType) (v w : Value) → WrittenValues t v w → ValuesMatch v w
written_values_match (CType.Int s) (Value.Int m) (Value.Int n) h = h.1
written_values_match CType.M128 (Value.R16 a) (Value.R16 b) h = h.1
written_values_match CType.M256 (Value.R32 a) (Value.R32 b) h = halves_match a b h.0 h.1
written_values_match (CType.Neon lanes true) (Value.R16 a) (Value.R16 b) h = h.1
written_values_match (CType.Neon lanes false) (Value.R8 a) (Value.R8 b) h = h.1
written_values_match CType.Pair (Value.R32 a) (Value.R32 b) h = halves_match a b h.0 h.1
written_values_match (CType.Pointer e k) (Value.At p) (Value.At q) h = h.1
written_values_match (CType.Neon lanes true) v w h = absurd h
written_values_match (CType.Neon lanes false) v w h = absurd h
written_values_match t v w h = absurd h

near : (memory : List Block) (p : Pointer) → IsMemory memory → PointsInto memory p → IsNear p
near memory Null h k = tt
near memory (At block offset) h (b, e, inside) = let size = (h block b e).size in omega (arith, size, inside)

-- matching values of a type and of the one that it is written as are related
written_value : (memory : List Block) (t : CType) (v w : Value) → IsMemory memory → IsOfType t v → IsPlaced memory v → IsOfType (written_type t) w
    → ValuesMatch v w → WrittenValues t v w
written_value memory (CType.Int s) (Value.Int m) (Value.Int n) good h p k e = (k ∙ ap written_integer (sym h), e)
written_value memory CType.M128 (Value.R16 a) (Value.R16 b) good h p k e = (h, e)
written_value memory CType.M256 (Value.R32 a) (Value.R32 b) good h p k e = (h, wide_halves a b k.size e.0 e.1)
written_value memory (CType.Neon lanes true) (Value.R16 a) (Value.R16 b) good h p k e = (h, e)
written_value memory (CType.Neon lanes false) (Value.R8 a) (Value.R8 b) good h p k e = (h, e)
written_value memory CType.Pair (Value.R32 a) (Value.R32 b) good h p k e = (h, wide_halves a b k.size e.0 e.1)
written_value memory (CType.Pointer f constant) (Value.At p) (Value.At q) good h pl k e = (near memory p good pl, e)
written_value memory t (Value.Int m) (Value.R8 b) good h p k e = absurd e
written_value memory t (Value.Int m) (Value.R16 b) good h p k e = absurd e
written_value memory t (Value.Int m) (Value.R32 b) good h p k e = absurd e
written_value memory t (Value.Int m) (Value.At b) good h p k e = absurd e
written_value memory t (Value.R8 m) (Value.Int b) good h p k e = absurd e
written_value memory t (Value.R8 m) (Value.R16 b) good h p k e = absurd e
written_value memory t (Value.R8 m) (Value.R32 b) good h p k e = absurd e
written_value memory t (Value.R8 m) (Value.At b) good h p k e = absurd e
written_value memory t (Value.R16 m) (Value.Int b) good h p k e = absurd e
written_value memory t (Value.R16 m) (Value.R8 b) good h p k e = absurd e
written_value memory t (Value.R16 m) (Value.R32 b) good h p k e = absurd e
written_value memory t (Value.R16 m) (Value.At b) good h p k e = absurd e
written_value memory t (Value.R32 m) (Value.Int b) good h p k e = absurd e
written_value memory t (Value.R32 m) (Value.R8 b) good h p k e = absurd e
written_value memory t (Value.R32 m) (Value.R16 b) good h p k e = absurd e
written_value memory t (Value.R32 m) (Value.At b) good h p k e = absurd e
written_value memory t (Value.At m) (Value.Int b) good h p k e = absurd e
written_value memory t (Value.At m) (Value.R8 b) good h p k e = absurd e
written_value memory t (Value.At m) (Value.R16 b) good h p k e = absurd e
written_value memory t (Value.At m) (Value.R32 b) good h p k e = absurd e
written_value memory (CType.Neon lanes true) v w good h p k e = absurd h
written_value memory (CType.Neon lanes false) v w good h p k e = absurd h
written_value memory t v w good h p k e = absurd h

pub written_arguments : (memory : List Block) (types : List CType) (args others : List Value) → IsMemory memory → AreArguments memory types args
    → AreArguments memory (map written_type types) others → ArgumentsMatch args others
    → Arguments WrittenValues types args others
written_arguments memory [] [] [] good h k e = tt
written_arguments memory (t ∷ ts) (v ∷ vs) (w ∷ ws) good h k e =
    (written_value memory t v w good h.0 h.1 k.0 e.0, written_arguments memory ts vs ws good h.2 k.2 e.1)
written_arguments memory [] [] (w ∷ ws) good h k e = absurd e
written_arguments memory [] (v ∷ vs) ws good h k e = absurd h
written_arguments memory (t ∷ ts) [] ws good h k e = absurd h
written_arguments memory (t ∷ ts) (v ∷ vs) [] good h k e = absurd e

-- a source and what is written for it do the same, where their functions correspond
pub written_runs_match : MemoryLaw → TurnsLaw → (rows other_rows : Calls) (unit other : List External) → UnitsMatch written_type unit other
    → AreGood (table_blocks unit)
    → ((m : ℕ) → Runs (m + length (table_blocks unit)) WrittenValues (table_objects m unit) (table_objects m other) rows other_rows (functions unit)
    (functions other)) → DoesTheSame rows other_rows written_type unit other
written_runs_match law turns rows other_rows unit other match good runs =
    runs_match law turns WrittenValues written_type rows other_rows unit other match good
    (λ memory types args others is m. written_arguments memory types args others is m.first m.second m.same) written_values_match runs
