use Rattle.std.proofs.Common.{◌≡◌, take}
use Rattle.price_choice.specs.List.{forms}
use Rattle.shuffle_plans.proofs.listed.forms.Given as goal

abbrev pub invariant-loop-i : goal.invariant-loop-i
invariant-loop-i l = l.all.items ≡ take l.i forms
