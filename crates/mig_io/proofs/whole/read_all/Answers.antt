use Rattle.std.proofs.Common.{◌≡◌, ◌+◌, length, arith}
use Rattle.std.proofs.lemmas.List.{length-take}
use Rattle.mig_io.proofs.Runs.{is_rest_after, reads_past}
use Rattle.mig_io.proofs.whole.read_all.Goals as goal

pub returns-then-n-eq0-clause-rest : goal.returns-then-n-eq0-clause-rest
returns-then-n-eq0-clause-rest g c =
    is_rest_after _ _ _ _ _ _ _ c.loop-bytes.invariant.1 c.in_ok-n.ensures.told

pub returns-then-n-more-clause-too_long : goal.returns-then-n-more-clause-too_long
returns-then-n-more-clause-too_long g c _ =
    let count : length c.loop-bytes.bytes.items + c.in_ok-n.n ≡ c.args.limit + 1 =
    omega (
      arith,
      c.len.ensures,
      c.min.ensures,
      c.in_ok-n.ensures.within,
      length-take c.min.result c.loop-bytes.buffer,
      c.loop-bytes.bytes.ok,
      c.loop-bytes.invariant.0,
      c.if-n-more.true,
    ) in
    reads_past _ _ _ _ _ _ _ _ count c.loop-bytes.invariant.1 c.in_ok-n.ensures.told

pub returns-then-n-more-clause-rest : goal.returns-then-n-more-clause-rest
returns-then-n-more-clause-rest g c =
    is_rest_after _ _ _ _ _ _ _ c.loop-bytes.invariant.1 c.in_ok-n.ensures.told

pub returns-in_err-extend_from_slice-clause-rest :
    goal.returns-in_err-extend_from_slice-clause-rest
returns-in_err-extend_from_slice-clause-rest g c =
    is_rest_after _ _ _ _ _ _ _ c.loop-bytes.invariant.1 c.in_ok-n.ensures.told
