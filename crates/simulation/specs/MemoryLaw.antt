-- What the laws of steps ask of memories and of turns. Public functions of this crate have these laws as their contracts.
use Rattle.std.specs.Prelude.{◌≡◌, ℕ, List, length}
use Rattle.c_memory.specs.declared.blocks.Block.{Block}
use Rattle.c_memory.specs.declared.memory.Pointer.{Pointer}
use Rattle.c_memory.specs.Matching.{MemoriesMatch}
use Rattle.c_memory.specs.Memory.{bytes_read, after_write}
use Rattle.simulation.specs.Alike.{Options, Blocks, SameTurns}
use Rattle.simulation.specs.BlockLaws.{Finer}
use Rattle.simulation.specs.Runs.{AreGood, SetBytes}

-- What may be read in a memory gives the same in one that covers it, also with an alignment that is finer; what may be written to it leaves memories
-- of which the second covers the first; the blocks that are compared are equal in bytes, alignment and writability; and a memory covers itself.
pub record MemoryLaw : Type 0 where
  pub reads : (n : ℕ) (memory other : List Block) (p : Pointer) (finer align size : ℕ) → Finer finer align → Blocks n memory other
      → Options ◌≡◌ (bytes_read memory p align size) (bytes_read other p finer size)
  pub writes : (n : ℕ) (memory other : List Block) (p : Pointer) (finer align : ℕ) (bytes : List ℕ) → Finer finer align → SetBytes bytes
      → Blocks n memory other → Options (Blocks n) (after_write memory p align bytes) (after_write other p finer bytes)
  pub kept : (n : ℕ) (memory other : List Block) → Blocks n memory other → MemoriesMatch n memory other
  pub itself : (memory : List Block) → AreGood memory → Blocks (length memory) memory memory

-- runs that are alike have as many turns left, neither more nor fewer
pub record TurnsLaw : Type 0 where
  pub equal : (m k : ℕ) → SameTurns m k → m ≡ k
  pub same : (m : ℕ) → SameTurns m m
