-- What is left of units, where the side of its object's name on which an alignment stands counts or doesn't. Where it doesn't this is what
-- the relation of units that are the same takes out.
use Rattle.std.specs.Prelude.{◌≡◌, ◌&&◌, Bool, List}
use Rattle.c_tree.specs.Tree.{Object, External}
use Rattle.c_tree.specs.Same.{unnumbered, stripped, stripped_object}
use Rattle.reading_again.specs.Rewritten.{Rewriting, unit}

abbrev pub left_object : Bool → Object → Object
left_object exact d = record (stripped_object d) { align_first = exact && d.align_first }

abbrev pub left : Bool → Rewriting
left exact = record { ty = unnumbered; object = left_object exact; tree = stripped }

-- the units are the same, and where `exact` is true each alignment stands on the same side of its object's name
abbrev pub SameUnits : Bool → List External → List External → Type 0
SameUnits exact u v = unit (left exact) u ≡ unit (left exact) v
