use Rattle.std.proofs.Common.{◌≤◌, Option, Some, None, IfSome, option_map}
use Rattle.serde_json.specs.Data.{depth}
use Rattle.serde_json.specs.Read.{max_depth}
use Rattle.serde_json.specs.View.{view}
use Rattle.serde_json.specs.declared.value.Value.{Value}
use Rattle.cluster_config.proofs.DepthLaws.{IsShallow, with_patch-depth}
use Rattle.cluster_config.proofs.config_text.ConfigValueConfigText.patch.Goals as goal

shallow : (present : Option Value) → IfSome present (λ v. depth (view v) ≤ max_depth)
    → IsShallow max_depth (option_map view present)
shallow None nests = tt
shallow (Some v) nests = nests

pub judged-requires-clause-nests : goal.judged-requires-clause-nests
judged-requires-clause-nests c =
    rw c.in_ok-merged.ensures
    (with_patch-depth max_depth (option_map view c.in_ok-present.present) (view c.in_ok-patch.patch)
    (shallow c.in_ok-present.present c.in_ok-present.ensures.nests) c.in_ok-patch.ensures.nests)
