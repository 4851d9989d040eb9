-- When a unit that is written for another has its functions and tables, and does the same.
use Rattle.std.specs.Prelude.{◌≡◌, ℕ, ◌+◌, IsTrue, Bool, List, [], ◌∷◌, length, map, Some}
use Rattle.c_tree.specs.declared.types.CType.{CType}
use Rattle.c_tree.specs.Tree.{Object, Definition, External, Function, Table}
use Rattle.c_memory.specs.declared.blocks.Block.{Block}
use Rattle.c_memory.specs.declared.value.Value.{Value}
use Rattle.c_memory.specs.Functions.{types_of, function_named}
use Rattle.c_memory.specs.Matching.{ArgumentsMatch, OutcomesMatch}
use Rattle.c_memory.specs.Meaning.{Calls, is_helper, means, table_block, table_blocks}
use Rattle.c_memory.specs.Outcomes.{Outcome, Undefined}
use Rattle.c_memory.specs.Values.{IsMemory, AreArguments}

-- ---- items

-- The functions have the same name and the same words `static` and `inline`, and the second has the types that those of the first are
-- written as. Its parameters may have other names.
pub record FunctionsMatch (written : CType → CType) (f g : Definition) : Type 0 where
  pub name : g.name ≡ f.name
  pub is_static : g.is_static ≡ f.is_static
  pub is_inline : g.is_inline ≡ f.is_inline
  pub result : g.result ≡ written f.result
  pub types : types_of g.params ≡ map written (types_of f.params)

-- The tables have the same name, and equal blocks; the second has the type that the first's is written as.
pub record TablesMatch (written : CType → CType) (d e : Object) : Type 0 where
  pub name : e.name ≡ d.name
  pub ty : e.ty ≡ written d.ty
  pub block : table_block e ≡ table_block d

-- The second unit has the functions and tables of the first in their order. What it has beside them are functions whose names begin with `mg_`.
pub data UnitsMatch (written : CType → CType) : List External → List External → Type 0 where
  NoItems : UnitsMatch written [] []
  AndFunction : (f g : Definition) (unit other : List External) → FunctionsMatch written f g → UnitsMatch written unit other →
      UnitsMatch written (Function f ∷ unit) (Function g ∷ other)
  AndTable : (d e : Object) (is_static : Bool) (unit other : List External) → TablesMatch written d e → UnitsMatch written unit other →
      UnitsMatch written (Table d is_static ∷ unit) (Table e is_static ∷ other)
  AndHelper : (g : Definition) (unit other : List External) → IsTrue (is_helper g.name) → UnitsMatch written unit other →
      UnitsMatch written unit (Function g ∷ other)

-- ---- what functions do

-- Arguments of these types, and matching ones of the types that these are written as. Pointers among them point into the memory.
pub record MatchingArguments (written : CType → CType) (memory : List Block) (types : List CType) (args others : List Value) : Type 0 where
  pub first : AreArguments memory types args
  pub second : AreArguments memory (map written types) others
  pub same : ArgumentsMatch args others

-- where the first outcome isn't undefined, the other matches it; n blocks are compared
abbrev pub Follows : ℕ → Outcome → Outcome → Type 0
Follows n Undefined other = Unit {0}
Follows n out other = OutcomesMatch n out other

-- The written unit does what its source does. For every function of the source, all arguments of its parameters' types, every memory and every
-- bound on turns for which the source is defined, the call of that function in the written unit, with the matching arguments, has a
-- matching outcome. The blocks of the memory and of the tables are compared. `rows` and `other_rows` are the calls of the rows of both sides.
abbrev pub DoesTheSame : Calls → Calls → (CType → CType) → List External → List External → Type 0
DoesTheSame rows other_rows written unit other =
    (name : List ℕ) (f : Definition) (args others : List Value) (memory : List Block) (turns : ℕ) →
    function_named name unit ≡ Some f → IsMemory memory → MatchingArguments written memory (types_of f.params) args others →
    Follows (length memory + length (table_blocks unit)) (means rows unit name args memory turns) (means other_rows other name others memory turns)
