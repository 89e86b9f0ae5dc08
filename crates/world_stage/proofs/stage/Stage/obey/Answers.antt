use Rattle.std.proofs.Common.{◌≡◌, ◌∷◌, [], ap, subst}
use Rattle.std.proofs.lemmas.Result.{on_ok_weaker}
use Rattle.event_list.specs.Listed.{◌+++◌}
use Rattle.store_keys.specs.declared.action.OperatorAction.{OperatorAction}
use Rattle.event_book.specs.declared.event.EventKind.TheVariants as kinds
use Rattle.event_book.specs.declared.event.AgentEvent.TheVariants.{Operated}
use Rattle.cluster_model.specs.State.{Cluster}
use Rattle.world_stage.proofs.Comings.{Emits-told}
use Rattle.world_stage.proofs.stage.Stage.obey.Goals as goal

pub returns-clause-emits : goal.returns-clause-emits
returns-clause-emits c =
    on_ok_weaker c.write_down.result
    (λ has. Emits-told c.args.self.now c.agent_hears.new.self c.self.inside.clock
    (kinds.Agent (Operated c.args.agent c.args.action)) c.args.events.now c.write_down.new.events tt
    c.agent_hears.ensures.world
    (ap (λ (b : Cluster). b.facts.clock) c.self.view_is)
    (subst (λ (a : OperatorAction). c.write_down.new.events ≡ c.args.events.now +++ record {
      tick = c.self.inside.clock;
      kind = kinds.Agent (Operated c.args.agent a);
    } ∷ []) c.in_ok-told.ensures has))
    c.write_down.ensures
