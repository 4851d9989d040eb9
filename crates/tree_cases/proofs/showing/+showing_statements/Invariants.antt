use denote.Text.{Utf8}
use denote.Shadow.{shadow}
use Rattle.tree_cases.proofs.showing.+showing_statements.Given as goal

-- what stands between statements is text
abbrev pub invariant-show_stmts-loop-s : goal.invariant-show_stmts-loop-s
invariant-show_stmts-loop-s l = shadow (Utf8 l.before)
