use Rattle.std.proofs.Common.{ap}
use Rattle.std.proofs.lemmas.Result.{on_ok_weaker}
use Rattle.event_book.specs.declared.event.EventKind.TheVariants as kinds
use Rattle.event_book.specs.declared.event.AgentEvent.TheVariants.{Woken}
use Rattle.cluster_model.specs.State.{Cluster}
use Rattle.world_stage.proofs.Comings.{Emits-told}
use Rattle.world_stage.proofs.stage.Stage.rouse.Goals as goal

pub returns-clause-emits : goal.returns-clause-emits
returns-clause-emits c =
    on_ok_weaker c.write_down.result
    (λ has. Emits-told c.args.self.now c.agent_hears.new.self c.self.inside.clock
    (kinds.Agent (Woken c.args.agent)) c.args.events.now c.write_down.new.events tt c.agent_hears.ensures.world
    (ap (λ (b : Cluster). b.facts.clock) c.self.view_is) has)
    c.write_down.ensures
