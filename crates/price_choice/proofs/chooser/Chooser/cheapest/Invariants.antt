use Rattle.std.proofs.Common.{◌≡◌, ℕ, ◌<◌, ◌≤◌, true}
use Rattle.price_choice.specs.Forms.{gives_of}
use Rattle.price_choice.specs.List.{form_at}
use Rattle.price_choice.specs.Choice.{price_by}
use Rattle.price_choice.proofs.chooser.Chooser.cheapest.Given as goal

abbrev pub invariant-loop-i : goal.invariant-loop-i
invariant-loop-i g l = record {
  within : l.best < 390;
  set : l.least < 1001 → (l.best < l.i) × (gives_of (form_at l.best) l.want ≡ true) × (price_by l.self.stated (form_at l.best) ≡ l.least);
  lower : (j : ℕ) → j < l.i → gives_of (form_at j) l.want ≡ true → l.least ≤ price_by l.self.stated (form_at j);
  first : (j : ℕ) → j < l.best → gives_of (form_at j) l.want ≡ true → l.least < price_by l.self.stated (form_at j);
}
