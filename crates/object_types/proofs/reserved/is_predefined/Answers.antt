use Rattle.std.proofs.Common.{◌∙◌, sym, ap}
use Rattle.std.specs.List.{list_any}
use Rattle.c_text.specs.PredefinedNames.{Macro, seen}
use Rattle.scopes.specs.Scopes.{same_name}
use Rattle.object_types.proofs.Initialisers.{any-map}
use Rattle.object_types.proofs.reserved.is_predefined.Goals as goal

pub returns : goal.returns
returns c = c.is_macro.ensures ∙ sym (any-map (λ (m : Macro). same_name c.args.name.now m.name) seen c.predefined_names.result.now) ∙ ap (list_any (λ (m : Macro). same_name c.args.name.now m.name)) c.predefined_names.ensures
