-- Laws of operands whose conversions are written: they do what they did.
use Rattle.std.proofs.Common.{◌≡◌, ℕ, List, [], ◌∷◌, Bool, true, false, refl, sym, ap, ◌∙◌, subst}
use Rattle.c_tree.specs.declared.types.CType.{CType}
use Rattle.c_tree.specs.Tree.{Tree, Trees, Node, Cast, NoTrees, More}
use Rattle.address_taken.specs.Addressed.{takes}
use Rattle.c_memory.specs.declared.value.Value.{Value}
use Rattle.c_memory.specs.MeaningState.{State}
use Rattle.c_memory.specs.Meaning.{Calls, expression, type_of}
use Rattle.simulation.specs.Alike.{Given, Objects, Sim}
use Rattle.written_forms.specs.TypedValues.{TypedValues}
use Rattle.written_forms.specs.Moved.{stated, all_stated}
use Rattle.written_forms.proofs.Running.{Operand, Operands}
use Rattle.written_forms.proofs.PlainOperands.{Read}

pub stated_takes : (x : List ℕ) (e : Tree) → takes x (stated e) ≡ takes x e
stated_takes x (Node p t (Cast u a false)) = refl
stated_takes x (Node p t (Cast u a true)) = refl
stated_takes x (Node p t _) = refl

stated_runs : (e : Tree) (c : Calls) → expression (stated e) c ≡ expression e c
stated_runs (Node p t (Cast u a false)) c = refl
stated_runs (Node p t (Cast u a true)) c = refl
stated_runs (Node p t _) c = refl

pub read_stated : (d : Calls) (others : Trees) (ws : List Value) (y : State) → Read d others ws y → Read d (all_stated others) ws y
read_stated d NoTrees [] y h = tt
read_stated d (More b others) (w ∷ ws) y h = (ap (λ f. f y) (stated_runs b d) ∙ h.0, read_stated d others ws y h.1)
read_stated d NoTrees (w ∷ ws) y h = absurd h
read_stated d (More b others) [] y h = absurd h

module _ (n : ℕ) (E : Objects) (c d : Calls) where
  operand_stated : (f : Bool) (t : CType) (a b : Tree) → Operand n E c d f t a b → Operand n E c d f t a (stated b)
  operand_stated true t a b k = record { v = k.v; w = k.w; values = k.values; first = k.first; second = λ x y al. ap (λ f. f y) (stated_runs b d) ∙ k.second x y al }
  operand_stated false t a b k = subst (λ f. Sim n (Given TypedValues t) E E (expression a c) f) (sym (stated_runs b d)) k

  pub operands_stated : (fs : List Bool) (all others : Trees) → Operands n E c d fs all others → Operands n E c d fs all (all_stated others)
  operands_stated [] NoTrees NoTrees k = tt
  operands_stated (f ∷ fs) (More a rest) (More b others) k = (operand_stated f (type_of a) a b k.0, operands_stated fs rest others k.1)
  operands_stated [] NoTrees (More b others) k = absurd k
  operands_stated [] (More a rest) others k = absurd k
  operands_stated (f ∷ fs) NoTrees others k = absurd k
  operands_stated (f ∷ fs) (More a rest) NoTrees k = absurd k
