-- Which functions and tables of two units correspond, so that all runs of the first are matched.
use Rattle.std.specs.Prelude.{◌≡◌, ℕ, ◌+◌, ◌<◌, ◌^◌, length, map, List, [], ◌∷◌, Some, true}
use Rattle.c_tree.specs.declared.types.CType.{CType}
use Rattle.c_tree.specs.Tree.{Definition, External, Function, Table}
use Rattle.c_memory.specs.declared.blocks.Block.{Block}
use Rattle.c_memory.specs.Values.{AreBytes}
use Rattle.c_memory.specs.Functions.{types_of, none_named}
use Rattle.c_memory.specs.MeaningState.{Binding}
use Rattle.c_memory.specs.Meaning.{Calls, call_of, with_function}
use Rattle.simulation.specs.Alike.{Relation, CallsAlike}
use Rattle.simulation.specs.Carried.{InMemory, Carried, Shared, Marks, Number}

-- Functions of two units in their order, over calls of those before them. Calls of the functions of both are alike; a helper of the second stands where
-- none of the first's that follow has its name.
pub data Runs (n : ℕ) (R : Relation) (tables others : List Binding) : Calls → Calls → List Definition → List Definition → Type 0 where
  NoFunctions : (c d : Calls) → Runs n R tables others c d [] []
  AndBoth : (c d : Calls) (f g : Definition) (fs gs : List Definition) → g.name ≡ f.name
      → CallsAlike n R (types_of f.params) f.result (call_of tables f c) (call_of others g d) →
      Runs n R tables others (with_function tables f c) (with_function others g d) fs gs → Runs n R tables others c d (f ∷ fs) (g ∷ gs)
  AndHelper : (c d : Calls) (g : Definition) (fs gs : List Definition) → none_named g.name fs ≡ true
      → Runs n R tables others c (with_function others g d) fs gs → Runs n R tables others c d fs (g ∷ gs)

-- each block has bytes, and fewer than 2 ^ 63 of them
abbrev pub AreGood : List Block → Type 0
AreGood [] = Unit {0}
AreGood (b ∷ rest) = AreBytes b.bytes × (length b.bytes < 2 ^ 63) × AreGood rest

-- bytes that a block gets
abbrev pub SetBytes : List ℕ → Type 0
SetBytes bytes = AreBytes (map Some bytes)

-- the tables of a unit as objects of both: one of the second has the type that the first's is written as
abbrev pub tables_in_scope : (CType → CType) → List External → List Carried
tables_in_scope written [] = []
tables_in_scope written (Function f ∷ rest) = tables_in_scope written rest
tables_in_scope written (Table d is_static ∷ rest) = Shared InMemory d.name d.ty (written d.ty) ∷ tables_in_scope written rest

-- blocks in a row, from that of number n on
abbrev pub numbered : ℕ → Marks
numbered n = λ i. Number (n + i)
