use Rattle.std.proofs.Common.{◌≡◌, reverse, true, false, arith, rules}
use Rattle.c_constants.specs.Constant.{is_c_token}
use Rattle.c_preproc.specs.ExcludedWord.{is_excluded}
use Rattle.c_text.specs.Details.{refusal_of}
use Rattle.c_preproc.proofs.Judging.{refused_as, no_token, excluded_word, too_deep, passes, behind_shown, depth_shown}
use Rattle.c_preproc.proofs.Weighing.{shown_within}
use Rattle.c_preproc.proofs.scanning.judge.Goals as goal

pub returns-then-not-is_c_token-clause-refused : goal.returns-then-not-is_c_token-clause-refused
returns-then-not-is_c_token-clause-refused c =
    let t = c.args.token.now in
    let no : is_c_token t.kind t.text ≡ false = search rules in
    refused_as _ _ (refusal_of 4 t) c.refuse_token.ensures (no_token c.args.dialect (reverse c.args.before.now) c.args.after.now t no)

pub returns-then-is_excluded-clause-refused : goal.returns-then-is_excluded-clause-refused
returns-then-is_excluded-clause-refused c =
    let t = c.args.token.now in
    let is : is_c_token t.kind t.text ≡ true = search rules in
    let excluded : is_excluded c.args.dialect t.kind t.text ≡ true = search rules in
    refused_as _ _ (refusal_of 18 t) c.refuse_token-then-is_excluded.ensures (excluded_word c.args.dialect (reverse c.args.before.now) c.args.after.now t is excluded)

pub count-requires-clause-within : goal.count-requires-clause-within
count-requires-clause-within c =
    let n = c.args.nesting.now in
    shown_within n.current n.outer.items _ c.requires.shown (omega (arith, n.total, c.requires.light))

pub returns-then-is_too_deep-clause-refused : goal.returns-then-is_too_deep-clause-refused
returns-then-is_too_deep-clause-refused c =
    let t = c.args.token.now in
    let before = reverse c.args.before.now in
    let n = c.count.new.self in
    let is : is_c_token t.kind t.text ≡ true = search rules in
    let allowed : is_excluded c.args.dialect t.kind t.text ≡ false = search rules in
    let shown = behind_shown n.current n.outer.items t before c.args.after.now _ _ _ c.token_role.ensures c.opens_block.ensures c.next_role.ensures (c.in_ok-count.ensures _ c.requires.shown) in
    let deep = depth_shown n.current n.outer.items _ c.dialect_limits.result c.args.dialect c.is_too_deep.result true c.is_too_deep.ensures.shown shown c.dialect_limits.ensures c.if-is_too_deep.true in
    refused_as _ _ (refusal_of 19 t) c.refuse_token-then-is_too_deep.ensures (too_deep c.args.dialect before c.args.after.now t is allowed deep)

pub returns-clause-ok : goal.returns-clause-ok
returns-clause-ok c =
    let t = c.args.token.now in
    let before = reverse c.args.before.now in
    let n = c.count.new.self in
    let is : is_c_token t.kind t.text ≡ true = search rules in
    let allowed : is_excluded c.args.dialect t.kind t.text ≡ false = search rules in
    let shown = behind_shown n.current n.outer.items t before c.args.after.now _ _ _ c.token_role.ensures c.opens_block.ensures c.next_role.ensures (c.in_ok-count.ensures _ c.requires.shown) in
    let flat = depth_shown n.current n.outer.items _ c.dialect_limits.result c.args.dialect c.is_too_deep.result false c.is_too_deep.ensures.shown shown c.dialect_limits.ensures c.if-is_too_deep.false in
    passes c.args.dialect before c.args.after.now t is allowed flat

pub returns-clause-shown : goal.returns-clause-shown
returns-clause-shown c =
    behind_shown c.count.new.self.current c.count.new.self.outer.items c.args.token.now (reverse c.args.before.now) c.args.after.now _ _ _
    c.token_role.ensures c.opens_block.ensures c.next_role.ensures (c.in_ok-count.ensures _ c.requires.shown)
