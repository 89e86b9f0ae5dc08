use Rattle.std.proofs.Common.{◌∙◌}
use Rattle.leader_race.proofs.Winning.{outcome-by}
use Rattle.leader_race.proofs.outcome.wins_by.Goals as goal

pub returns : goal.returns
returns c =
    c.judged.ensures ∙ c.first_bar.ensures
    ∙ outcome-by c.args.view.now c.args.keys.now c.args.answers.now c.racer_of-racer.result
    c.is_candidate-names_me.result c.other_writes.result c.ahead.result c.unless.result c.priority.result
    c.unless-2.result
    c.racer_of-racer.ensures c.is_candidate-names_me.ensures
    c.other_writes.ensures c.ahead.ensures c.unless.ensures c.priority.ensures c.unless-2.ensures
