use Rattle.std.proofs.Common.{◌∙◌, position, ap}
use Rattle.indexmap.specs.IndexMap.{keys}
use Rattle.cluster_script.proofs.Spelled.{spells, place-spelled}
use Rattle.cluster_script.proofs.members.place_spelled.Goals as goal

pub returns-clause-place : goal.returns-clause-place
returns-clause-place c =
    c.place_among.ensures.place
    ∙ ap (position (spells c.args.word.now)) (c.as_slice.ensures ∙ c.keys.ensures.rest)
    ∙ place-spelled (keys c.args.members.now) c.args.word.now
