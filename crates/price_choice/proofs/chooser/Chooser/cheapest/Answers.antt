use Rattle.std.proofs.Common.{rules, arith, ◌≤◌, ◌≡◌, true, ap, ◌∙◌, sym}
use Rattle.price_choice.specs.Forms.{gives_of}
use Rattle.price_choice.specs.List.{form_at}
use Rattle.price_choice.specs.Choice.{price_by}
use Rattle.price_choice.proofs.Lists.{chosen}
use Rattle.price_choice.proofs.Picks.{prices_small, up_to}
use Rattle.price_choice.proofs.chooser.Chooser.cheapest.Goals as goal

pub gives-requires : goal.gives-requires
gives-requires g c = c.form_at-form.ensures.listed

pub returns : goal.returns
returns g c =
    rw c.form_at.ensures.value
    (chosen c.args.want.now c.args.self.now.stated c.loop-i.best c.loop-i.least c.loop-i.i (search rules) (prices_small c.args.self.now.stated c.args.self.now.within)
    c.loop-i.invariant.within c.loop-i.invariant.set c.loop-i.invariant.lower c.loop-i.invariant.first)

pub loop-i-preserved-then-least-price : goal.loop-i-preserved-then-least-price
loop-i-preserved-then-least-price g c =
    let stated = c.args.self.now.stated in
    let i = c.loop-i.invariant in
    let p : price_by c.args.self.now.stated (form_at c.loop-i.i) ≡ c.price-price.result = ap (price_by c.args.self.now.stated) (sym c.form_at-form.ensures.value) ∙ sym c.price-price.ensures in
    record {
      within = i.within;
      set = λ l. let s = i.set l in (omega (arith, s.0), s.1, s.2);
      lower = up_to (λ j. gives_of (form_at j) c.args.want.now ≡ true → c.loop-i.least ≤ price_by c.args.self.now.stated (form_at j)) c.loop-i.i i.lower (λ q. omega (arith, p, c.if-least-price.true));
      first = i.first;
    }

pub loop-i-preserved : goal.loop-i-preserved
loop-i-preserved g c =
    let i = c.loop-i.invariant in
    let p : price_by c.args.self.now.stated (form_at c.loop-i.i) ≡ c.price-price.result = ap (price_by c.args.self.now.stated) (sym c.form_at-form.ensures.value) ∙ sym c.price-price.ensures in
    let yes : c.gives.result ≡ true = search rules in
    let passed : gives_of (form_at c.loop-i.i) c.args.want.now ≡ true = ap (λ f. gives_of f c.args.want.now) (sym c.form_at-form.ensures.value) ∙ sym c.gives.ensures ∙ yes in
    record {
      within = c.loop-i-test.true;
      set = λ l. (omega arith, passed, p);
      lower = up_to (λ j. gives_of (form_at j) c.args.want.now ≡ true → c.price-price.result ≤ price_by c.args.self.now.stated (form_at j)) c.loop-i.i (λ j l q. let b = i.lower j l q in omega (arith, b, c.if-least-price.false)) (λ q. omega (arith, p));
      first = λ j l q. let b = i.lower j l q in omega (arith, b, c.if-least-price.false);
    }
