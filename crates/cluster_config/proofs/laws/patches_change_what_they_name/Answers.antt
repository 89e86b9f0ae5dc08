use Rattle.serde_json.specs.Data.{null}
use Rattle.cluster_config.proofs.EmptyPatch.{config_patched-empty}
use Rattle.cluster_config.proofs.PatchLaws.{merged-unnamed, merged-named, merged-along}
use Rattle.cluster_config.proofs.laws.patches_change_what_they_name.Goals as goal

pub returns : goal.returns
returns c = record {
  nothing = λ settings is. config_patched-empty settings is;
  removes = λ name present patch distinct each e. merged-named name present patch null distinct each e;
  named = λ name present patch value distinct each e. merged-named name present patch value distinct each e;
  unnamed = λ name present patch e. merged-unnamed name present patch e;
  deep = λ path present patch value alone found. merged-along path present patch value alone found;
}
