use Rattle.std.proofs.Common.{◌≡◌, ◌+◌, ◌*◌, ◌≤◌, map, length}
use Rattle.std.specs.Option.{option_copied}
use Rattle.c_macros.specs.Entries.{macros_of}
use Rattle.c_macros.specs.Expansion.{and_then, behind, expand_in}
use Rattle.c_macros.specs.Stack.{resumed}
use Rattle.c_macros.specs.Gives.{frame_seen, stack_size}
use Rattle.c_macros.proofs.expanding.+expansion.Given as goal

abbrev pub decreases-expand_in : goal.decreases-expand_in
decreases-expand_in l = 4 * l.depth + 3

abbrev pub decreases-read : goal.decreases-read
decreases-read l = 4 * l.depth + 2

abbrev pub decreases-close : goal.decreases-close
decreases-close l = 4 * l.depth + 2

abbrev pub decreases-advance : goal.decreases-advance
decreases-advance l = 4 * l.depth + 1

abbrev pub decreases-replace : goal.decreases-replace
decreases-replace l = 4 * l.depth

abbrev pub invariant-expand_in-reading : goal.invariant-expand_in-reading
invariant-expand_in-reading l = record {
  same : and_then (expand_in l.limit (macros_of l.macros) l.depth l.fn.uses.items (option_copied l.fn.outer) l.fn.tokens l.fn.made.work) (behind l.fn.made.tokens.items) ≡
      resumed l.limit (macros_of l.macros) l.depth l.fn.uses.items (map frame_seen l.stack.items)
      (and_then (expand_in l.limit (macros_of l.macros) l.depth l.fn.uses.items (option_copied l.left.outer) l.left.segment.tokens.now l.made.work) (behind l.made.tokens.items));
  within : l.made.work ≤ l.limit;
  kept : l.uses.items ≡ l.fn.uses.items;
}

abbrev pub decreases-expand_in-reading : goal.decreases-expand_in-reading
decreases-expand_in-reading l = stack_size (map frame_seen l.stack.items) + length l.left.segment.tokens.now
