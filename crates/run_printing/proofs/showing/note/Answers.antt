use Rattle.std.proofs.Common.{ap, ◌∙◌}
use Rattle.summary_model.specs.Sights.{noted_step}
use Rattle.event_list.proofs.Noted.{kept-noted}
use Rattle.run_printing.proofs.showing.note.Goals as goal

pub returns : goal.returns
returns c = c.note_all.ensures.noted ∙ ap (noted_step c.args.summary.now) c.kept.ensures
    ∙ kept-noted c.args.summary.now c.args.events.now.traced c.args.events.now.items
