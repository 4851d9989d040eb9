use Rattle.std.proofs.Common.{ap, slice_set, ◌∙◌}
use Rattle.c_memory.specs.MeaningState.{changed}
use Rattle.c_meaning.specs.Bindings.{seen_location, relocated}
use Rattle.c_meaning.specs.Seen.{shown_tables}
use Rattle.c_meaning.proofs.Stacks.{relocated_at}
use Rattle.c_meaning.proofs.objects.Objects.relocate.Goals as goal

pub returns-in-Some : goal.returns-in-Some
returns-in-Some c =
    let it = c.index_mut.result.now in
    let all = c.place.new.self.bindings.items in
    let last = rw c.in-Some.is at c.in_ok-k.ensures.last in
    relocated_at c.args.name.now all (slice_set all c.in-Some.k (relocated it c.args.location)) c.in-Some.k it c.args.location (shown_tables c.place.new.self) last (ap (λ b. slice_set all c.in-Some.k (relocated b c.args.location)) c.index_mut.ensures.value)
    ∙ ap (changed c.args.name.now (λ _. seen_location c.args.location)) c.in_ok-k.ensures.same
