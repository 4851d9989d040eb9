-- What is read of a unit's text stands for the unit: the laws of what is read again, put together.
use Rattle.std.proofs.Common.{◌≡◌, ℕ, List, Ok, sym}
use Rattle.c_text.specs.declared.tokens.Dialect.{Dialect}
use Rattle.c_text.specs.declared.tokens.Dialect.TheVariants.{Neon}
use Rattle.c_tree.specs.declared.types.CType.{CType}
use Rattle.c_tree.specs.Same.{Same}
use Rattle.c_tree.specs.Tree.{External}
use Rattle.c_memory.specs.declared.blocks.Block.{Block}
use Rattle.c_memory.specs.declared.value.Value.{Value}
use Rattle.c_memory.specs.Meaning.{Calls, means}
use Rattle.c_memory.specs.Written.{UnitsMatch, DoesTheSame}
use Rattle.reading_again.specs.Plain.{PlainUnit}
use Rattle.reading_again.specs.Standing.{parameter_names}
use Rattle.reading_again.specs.Unplaced.{DifferInPlaces}
use Rattle.round_trip.specs.Again.{ReadAgain}
use Rattle.round_trip.specs.GoodUnits.{GoodUnit}
use Rattle.vector_types.specs.Units.{check_unit}
use Rattle.simd_top.specs.Standing.{IsTypedAsWritten, StandsFor}

module _
    (reads : (unit : List External) → GoodUnit unit → ReadAgain unit)
    (types : (dialect : Dialect) (u again typed : List External) → PlainUnit u → Same u again → check_unit dialect u ≡ Ok typed → (v : List External) × (check_unit dialect again ≡ Ok v) × DifferInPlaces typed v)
    (outcomes : (rows : Calls) (u v : List External) → DifferInPlaces u v → (name : List ℕ) (args : List Value) (memory : List Block) (turns : ℕ) → means rows u name args memory turns ≡ means rows v name args memory turns)
    (is_same : (u v : List External) → DifferInPlaces u v → Same u v)
    (names : (u v : List External) → DifferInPlaces u v → parameter_names u ≡ parameter_names v)
    (matching : (written : CType → CType) (source u v : List External) → UnitsMatch written source u → DifferInPlaces u v → UnitsMatch written source v)
    (doing : (rows other_rows : Calls) (written : CType → CType) (source u v : List External) → DoesTheSame rows other_rows written source u → DifferInPlaces u v → DoesTheSame rows other_rows written source v)
  where
    pub stands : (unit : List External) → IsTypedAsWritten unit → StandsFor unit
    stands unit h =
        let again = reads unit h.good in
        let (v, typed, differs) = types Neon unit again.again unit h.plain (sym again.same) h.typed in
        record {
          again = again;
          read = v;
          typed = typed;
          differs = differs;
          same = sym (is_same unit v differs);
          means = λ rows. outcomes rows unit v differs;
          parameters = sym (names unit v differs);
          matches = λ written source h. matching written source unit v h differs;
          does = λ rows other_rows written source h. doing rows other_rows written source unit v h differs;
        }
