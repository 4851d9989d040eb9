-- A call from outside is that of the first function of the name, which calls those before it.
use Rattle.std.proofs.Common.{◌≡◌, ℕ, List, [], ◌∷◌, ◌++◌, Bool, true, false, refl, ◌∙◌, ap}
use Rattle.std.specs.Prelude.{not, ◌&&◌}
use Rattle.std.specs.Str.{bytes_eq}
use Rattle.std.proofs.lemmas.Bool.{and_parts}
use Rattle.c_tree.specs.Tree.{Definition}
use Rattle.c_memory.specs.declared.value.Value.{Value}
use Rattle.c_memory.specs.Functions.{calls_of, none_named}
use Rattle.c_memory.specs.MeaningState.{Binding}
use Rattle.c_memory.specs.Meaning.{Calls, call_of, with_function, outermost}

is_false : (v : Bool) → not v ≡ true → v ≡ false
is_false true h = absurd (cc)
is_false false h = refl

pub outermost_first : (tables : List Binding) (c : Calls) (before after : List Definition) (f : Definition) (name : List ℕ) (args : List Value) → none_named name before ≡ true → bytes_eq name f.name ≡ true →
    outermost tables c (before ++ (f ∷ after)) name args ≡ call_of tables f (calls_of tables c before) args
outermost_first tables c [] after f name args none is = rw is refl
outermost_first tables c (g ∷ before) after f name args none is =
    let parts = and_parts (not (bytes_eq name g.name)) (none_named name before) none in
    rw (is_false (bytes_eq name g.name) parts.0) (outermost_first tables (with_function tables g c) before after f name args parts.1 is)
