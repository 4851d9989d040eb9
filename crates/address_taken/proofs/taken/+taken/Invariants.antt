use Rattle.std.proofs.Common.{◌≡◌, List, ℕ, drop, reverse}
use Rattle.c_tree.specs.View.{view_stmts}
use Rattle.address_taken.specs.Marks.{is_marked}
use Rattle.address_taken.specs.Taken.{taken_statements, seen_all}
use Rattle.address_taken.proofs.Walk.{before_statements}
use Rattle.address_taken.proofs.taken.+taken.Given as goal

abbrev pub invariant-taken_statements-loop-i : goal.invariant-taken_statements-loop-i
invariant-taken_statements-loop-i l = record {
  answer : seen_all (reverse l.out.items) ≡ taken_statements (view_stmts (drop l.i l.all));
  marked : (x : List ℕ) → is_marked l.marks x ≡ before_statements (drop l.i l.all) (is_marked l.fn.marks) x;
}
