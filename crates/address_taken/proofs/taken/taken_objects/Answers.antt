use Rattle.std.proofs.Common.{◌≡◌, ◌∷◌, ◌-◌, drop, arith}
use Rattle.std.proofs.lemmas.Grind.{common_steps}
use Rattle.address_taken.specs.Marks.{is_marked}
use Rattle.address_taken.proofs.Walk.{object_answers, object_marks, later_is}
use Rattle.address_taken.proofs.taken.taken_objects.Goals as goal

pub loop-i-preserved : goal.loop-i-preserved
loop-i-preserved c =
    let all = c.args.all.now in
    let here : drop (c.loop-i.i - 1) all ≡ c.index-all-i.result ∷ drop c.loop-i.i all = grind (arith, common_steps) in
    record {
      answer = object_answers (drop (c.loop-i.i - 1) all) (drop c.loop-i.i all) c.index-all-i.result (is_marked c.args.marks.now) (is_marked c.loop-i.marks) c.in_ok-is_taken.field-0 c.index.result.now c.loop-i.out.items c.push.new.self.items
          here c.loop-i.invariant.marked (later_is (c.loop-i.i - 1) (is_marked c.args.marks.now) all (drop c.loop-i.i all) c.index-all-i.result c.in_ok-later.later.items c.index.result.now c.index.result.now here c.in_ok-later.ensures c.index.ensures)
          c.in_ok-is_taken.ensures.answer c.in_ok-push.ensures.items c.loop-i.invariant.answer;
      marked = object_marks (drop (c.loop-i.i - 1) all) (drop c.loop-i.i all) c.index-all-i.result (is_marked c.args.marks.now) (is_marked c.loop-i.marks) (is_marked c.is_taken.new.marks)
          here c.loop-i.invariant.marked c.in_ok-is_taken.ensures.marked;
    }
