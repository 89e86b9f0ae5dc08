-- How long ago an agent's last turn may be, in ticks.
use Rattle.std.specs.Prelude.{ℕ, ◌-◌, ◌*◌, nat_le, Bool, false, Option, Some, None}
use Rattle.pat_base.specs.declared.ticks.Ticks.{Ticks}
use Rattle.pat_base.specs.declared.ticks.TheConstants.{TICKS_OF_SECOND}
use Rattle.store_keys.specs.Defaults.{default_config}
use Rattle.store_keys.specs.declared.config.Config.{Config}
use Rattle.cluster_view.specs.KeyValues.{config_in}
use Rattle.cluster_view.specs.Snapshots.{SnapshotFacts}

-- the settings of the newest snapshot, and the defaults before the first
abbrev pub config_on : Option SnapshotFacts → Config
config_on None = default_config
config_on (Some seen) = config_in seen

-- how long ago the last turn of a primary's agent may be: its ttl
abbrev pub primary_span : Config → ℕ
primary_span config = TICKS_OF_SECOND * config.ttl

-- how many times the ttl that of any other may be: twice
abbrev pub ttls_of_others : ℕ
ttls_of_others = 2

-- so long ago
abbrev pub other_span : Config → ℕ
other_span config = ttls_of_others * primary_span config

-- a turn of this incarnation began, the last one at most so long ago
abbrev pub is_fresh : Ticks → Option Ticks → ℕ → Bool
is_fresh moment None most = false
is_fresh moment (Some turn) most = nat_le (moment.0 - turn.0) most
