-- What contracts see of objects in scope.
use Rattle.std.specs.Prelude.{List, [], take}
use Rattle.c_memory.specs.MeaningState as state
use Rattle.c_meaning.specs.declared.objects.Objects.{Objects}
use Rattle.c_meaning.specs.declared.tables.Tables.{Tables}
use Rattle.c_meaning.specs.Bindings.{stacked}

abbrev pub seen_tables : Tables → List state.Binding
seen_tables t = stacked t.bindings.items []

-- the tables that are in scope
abbrev pub shown_tables : Objects → List state.Binding
shown_tables o = stacked (take o.shown o.tables.now.bindings.items) []

abbrev pub seen_objects : Objects → List state.Binding
seen_objects o = stacked o.bindings.items (shown_tables o)
