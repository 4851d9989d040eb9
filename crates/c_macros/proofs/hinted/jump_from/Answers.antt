use Rattle.std.proofs.Common.{◌+◌, ◌∷◌, [], drop, take, arith}
use Rattle.c_macros.specs.Groups.{IsGroup}
use Rattle.c_macros.proofs.Groups.{group_found, inside_jump, inside_token, inside_comma, inside_group, group_other}
use Rattle.c_macros.proofs.hinted.jump_from.Goals as goal

pub returns-in-Closes : goal.returns-in-Closes
returns-in-Closes c =
    λ some within. group_found c.args.tokens.now c.args.i c.loop-j.j c.index-tokens-j.result c.loop-j.invariant.behind c.loop-j-test.true c.index-tokens-j.is
    c.requires.opens c.in-Closes.ensures c.loop-j.invariant.inside

pub loop-j-preserved-in-Opens : goal.loop-j-preserved-in-Opens
loop-j-preserved-in-Opens c =
    let e = c.jump_at-jump.ensures in
    let far = c.if-jump-tokens.false in
    let group : IsGroup (take (c.jump_at-jump.result + 1) (drop c.loop-j.j c.args.tokens.now)) = rw e (c.requires.sound c.loop-j.j (omega (arith, e, c.if-jump-eq0.false)) (omega (arith, e, far))) in
    record {
      behind = omega arith;
      within = omega (arith, far);
      inside = inside_jump c.args.tokens.now c.args.i c.loop-j.j (c.jump_at-jump.result + 1) c.loop-j.invariant.behind c.loop-j.invariant.inside group;
    }

pub loop-j-preserved-in-Parts : goal.loop-j-preserved-in-Parts
loop-j-preserved-in-Parts c = record {
  behind = omega arith;
  within = omega arith;
  inside = inside_token c.args.tokens.now c.args.i c.loop-j.j c.index-tokens-j.result c.loop-j.invariant.behind c.loop-j-test.true c.index-tokens-j.is
      c.loop-j.invariant.inside (inside_comma c.index-tokens-j.result c.in-Parts.ensures);
}

pub loop-j-preserved : goal.loop-j-preserved
loop-j-preserved c = record {
  behind = omega arith;
  within = omega arith;
  inside = inside_token c.args.tokens.now c.args.i c.loop-j.j c.index-tokens-j.result c.loop-j.invariant.behind c.loop-j-test.true c.index-tokens-j.is
      c.loop-j.invariant.inside (inside_group (c.index-tokens-j.result ∷ []) (group_other c.index-tokens-j.result c.in-Other.ensures));
}
