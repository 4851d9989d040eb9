-- What the program counts of a context, in place of the list of what has added to its run.
use Rattle.std.specs.Prelude.{◌≡◌, ◌<◌, ◌≤◌, ◌^◌, List, ◌∷◌, length, filter, map, reverse}
use Rattle.std.specs.List.{list_any}
use Rattle.c_preproc.specs.declared.counts.Counts.{Counts}
use Rattle.c_preproc.specs.Nesting.{Context, is_word, is_do, is_waiting}

abbrev pub counts_of : Context → Counts
counts_of c = record {
  block = c.block;
  run = length c.additions;
  words = length (filter is_word c.additions);
  has_do = list_any is_do c.additions;
  waiting = length (filter is_waiting c.additions);
}

-- a run is far below the greatest `usize`, and no part of it is longer
pub record IsWithin (c : Counts) : Type 0 where
  pub run : c.run < 2 ^ 32
  pub words : c.words ≤ c.run
  pub waiting : c.waiting ≤ c.run

-- the counts of the current context, and of those around it with the file first, are those of these contexts
abbrev pub Shows : Counts → List Counts → List Context → Type 0
Shows current outer cs = map counts_of cs ≡ current ∷ reverse outer
