use Rattle.std.proofs.Common.{◌<◌, ◌∙◌, refl, sym, subst}
use Rattle.std.specs.Prelude.{slice_get}
use Rattle.cluster_model.specs.Next.{acknowledge_events}
use Rattle.cluster_model.specs.State.{Cluster}
use Rattle.world_stage.proofs.Acknowledgements.{acknowledge-end, acknowledge-fewer, acknowledge-more, telling, waiting_at}
use Rattle.world_model.proofs.Rest.{Left}
use Rattle.world_stage.proofs.Worlds.{seen}
use Rattle.world_stage.proofs.stage.Stage.acknowledge.Goals as goal

pub loop-commit-smaller : goal.loop-commit-smaller
loop-commit-smaller c =
    let place = c.args.member.id.number in
    subst (λ (b : Cluster).
    waiting_at (slice_get c.next_acknowledged.new.self place) < waiting_at (slice_get b.facts.servers place))
    c.self.view_is
    (acknowledge-fewer c.self.inside.servers c.next_acknowledged.new.self place c.in-Some.commit
    (sym c.next_acknowledged.ensures.commit ∙ c.in-Some.is) c.next_acknowledged.ensures.after)

pub loop-commit-preserved : goal.loop-commit-preserved
loop-commit-preserved c =
    let before = seen c.self.inside in
    let left =
    subst (λ (b : Cluster). Left c.args.self.now b c.args.events.now c.loop-commit.events
    (acknowledge_events c.args.self.now c.args.member) (acknowledge_events b c.args.member) 0 0)
    (sym c.self.view_is) c.loop-commit.invariant in
    acknowledge-more c.args.self.now before
    (telling before c.next_acknowledged.new.self c.tell_acknowledged.new.told) c.args.member c.in-Some.commit
    c.of-server.result c.next_acknowledged.new.self c.tell_acknowledged.new.told c.self.inside.clock
    c.args.events.now c.loop-commit.events c.tell_acknowledged.new.events c.note_losses.new.events _ left
    (sym c.next_acknowledged.ensures.commit ∙ c.in-Some.is) c.next_acknowledged.ensures.after
    c.in_ok-tell_acknowledged.ensures.told c.of-server.ensures refl c.in_ok-tell_acknowledged.ensures.event
    refl c.in_ok-note_losses.ensures

pub returns : goal.returns
returns c =
    let before = seen c.self.inside in
    let left =
    subst (λ (b : Cluster). Left c.args.self.now b c.args.events.now c.loop-commit.events
    (acknowledge_events c.args.self.now c.args.member) (acknowledge_events b c.args.member) 0 0)
    (sym c.self.view_is) c.loop-commit.invariant in
    acknowledge-end c.args.self.now before c.args.member c.next_acknowledged.new.self c.args.events.now
    c.loop-commit.events _ left
    (sym c.next_acknowledged.ensures.commit ∙ c.in_default.is) c.next_acknowledged.ensures.after
