use Rattle.std.proofs.Common.{ap, ◌∙◌}
use Rattle.leader_race.specs.declared.racer.RaceKeys.{RaceKeys}
use Rattle.leader_race.specs.Outcome.{outcome_by}
use Rattle.leader_race.proofs.outcome.wins.Goals as goal

pub returns : goal.returns
returns c = c.wins_by.ensures
    ∙ ap (λ (keys : RaceKeys). outcome_by c.args.view.now keys c.args.answers.now) c.race_keys_in.ensures
