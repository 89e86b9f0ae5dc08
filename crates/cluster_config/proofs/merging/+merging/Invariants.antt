use Rattle.std.proofs.Common.{◌≡◌}
use Rattle.serde_json.specs.View.{members_view}
use Rattle.cluster_config.specs.ConfigMerging.{merged}
use Rattle.cluster_config.proofs.merging.+merging.Given as goal

-- merging what is left gives the whole
abbrev pub invariant-merged-loop-name : goal.invariant-merged-loop-name
invariant-merged-loop-name l = merged (members_view l.object.entries) (members_view l.name-iterator)
    ≡ merged (members_view l.fn.present.entries) (members_view l.patch.entries)
