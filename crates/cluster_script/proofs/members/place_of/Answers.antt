use Rattle.std.proofs.Common.{◌∙◌}
use Rattle.indexmap.specs.IndexMap.{keys}
use Rattle.pat_base.proofs.Names.{same_fields-Decides}
use Rattle.script_grammar.proofs.Places.{place_of-position}
use Rattle.cluster_script.proofs.members.place_of.Goals as goal

pub returns-clause-place : goal.returns-clause-place
returns-clause-place c = c.get_index_of.ensures.index
    ∙ place_of-position _ c.args.name (λ m. same_fields-Decides c.args.name m) (keys c.args.members.now)
