-- What a refusal shows of an expression: the text of its operator, its mark, its name or its word, and a constant's value in decimal.
use Rattle.std.specs.Prelude.{ℕ, List, ◌++◌, take, Option, Some, None, codes}
use Rattle.std.specs.Fmt.{signed_decimal}
use Rattle.lane_core.specs.declared.number.BinOp.{BinOp}
use Rattle.c_tree.specs.Operators.{operator_text, prefix_text, step_text}
use Rattle.c_tree.specs.Tree as tree
use Rattle.c_tree.specs.Tree.{Tree, Kind, Node}

-- at most the first 255 bytes
abbrev pub short : List ℕ → List ℕ
short x = take 255 x

abbrev pub assign_mark : Option BinOp → List ℕ
assign_mark None = codes "="
assign_mark (Some o) = operator_text o ++ codes "="

abbrev pub mark_of : Kind → List ℕ
mark_of (tree.Const n) = signed_decimal n.value
mark_of (tree.Name x) = short x
mark_of (tree.Unary o a) = prefix_text o
mark_of (tree.Step a up before) = step_text up
mark_of (tree.Binary o a b) = operator_text o
mark_of (tree.AndThen a b) = codes "&&"
mark_of (tree.OrElse a b) = codes "||"
mark_of (tree.Choice c a b) = codes "?"
mark_of (tree.Assign o a b) = assign_mark o
mark_of (tree.Comma all) = codes ","
mark_of (tree.Cast t a written) = codes "("
mark_of (tree.Index a b) = codes "["
mark_of (tree.Deref a) = codes "*"
mark_of (tree.Address a) = codes "&"
mark_of (tree.Call f all) = short f
mark_of (tree.Half a k) = codes "."
mark_of (tree.PairOf a b) = codes "("
mark_of (tree.SizeOfType t) = codes "sizeof"
mark_of (tree.SizeOfName x) = short x
mark_of (tree.Str x) = short x

abbrev pub mark : Tree → List ℕ
mark (Node p t k) = mark_of k
