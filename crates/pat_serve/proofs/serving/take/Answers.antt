use Rattle.std.proofs.Common.{ap, ◌∙◌}
use Rattle.event_list.specs.Listed.{Listed, ◌+++◌}
use Rattle.cluster_model.specs.Next.{next_events}
use Rattle.serve_model.specs.Connections.{reply_in}
use Rattle.pat_serve.proofs.Kept.{kept-reply}
use Rattle.pat_serve.proofs.serving.take.Goals as goal

pub returns-clause-replied : goal.returns-clause-replied
returns-clause-replied g c =
    let member = c.args.member in
    let has : Listed = c.step.new.events in
    c.in_ok-reply.ensures ∙ ap (reply_in member) c.kept.ensures ∙ kept-reply has.traced member has.items
    ∙ ap (λ (l : Listed). reply_in member l.items)
    (c.in_ok-step.ensures.emits.event
    ∙ ap (λ (l : Listed). l +++ next_events (g.W.Simulation.facts c.args.world.now).cluster c.args.step.now)
    c.new-brought.ensures)
