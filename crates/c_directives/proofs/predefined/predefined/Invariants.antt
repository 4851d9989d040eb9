use Rattle.std.proofs.Common.{◌≡◌, map, drop}
use Rattle.c_text.specs.PredefinedNames.{seen}
use Rattle.c_macros.specs.Entries.{macros_of}
use Rattle.c_directives.specs.Predefined.{predefined_in}
use Rattle.c_directives.proofs.predefined.predefined.Given as goal

abbrev pub invariant-loop-i : goal.invariant-loop-i
invariant-loop-i l = macros_of l.macros ≡ predefined_in (map seen (drop l.i l.names))
