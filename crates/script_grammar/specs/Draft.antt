-- What is kept of a script while its lines are read.
use Rattle.std.specs.Prelude.{ℕ, ◌≡◌, ◌≤◌, List, [], Option, Some, None, IfSome, length}
use Rattle.pat_base.specs.declared.name.Name.{Name}
use Rattle.store_keys.specs.Settings.{Settings}
use Rattle.cluster_config.specs.ConfigReading.{IsConfiguration}
use Rattle.pat_base.specs.declared.member_id.TheConstants.{MOST_MEMBERS}
use Rattle.script_model.specs.Script.{MemberText, ScriptText, config_or_default, base_or_default}
use Rattle.script_model.specs.declared.line.Line.{Line}

-- what the lines so far say, from the cluster's on: no configuration and no base where none of them does
pub record DraftText : Type 0 where
  pub cluster : Name
  pub config : Option Settings
  pub base : Option ℕ
  pub members : List MemberText
  pub body : List Line

-- nothing stands before the cluster's line
abbrev pub draft_of : Option Name → Option Settings → Option ℕ → List MemberText → List Line → Option DraftText
draft_of None config base members body = None
draft_of (Some cluster) config base members body =
    Some (record { cluster = cluster; config = config; base = base; members = members; body = body })

-- the script that these lines are, if no more follow
abbrev pub script_so_far : DraftText → ScriptText
script_so_far d = record {
  head = record {
    cluster = d.cluster;
    config = config_or_default d.config;
    base = base_or_default d.base;
    members = d.members;
  };
  body = d.body;
}

-- no more members than there may be, a configuration that is what its
-- text says, and nothing before the line of the cluster
pub record IsDraft (cluster : Option Name) (config : Option Settings) (base : Option ℕ)
    (members : List MemberText) (body : List Line) : Type 0 where
  pub few : length members ≤ MOST_MEMBERS
  pub configured : IfSome config IsConfiguration
  pub no_config : cluster ≡ None → config ≡ None
  pub no_base : cluster ≡ None → base ≡ None
  pub no_members : cluster ≡ None → members ≡ []
  pub no_body : cluster ≡ None → body ≡ []
