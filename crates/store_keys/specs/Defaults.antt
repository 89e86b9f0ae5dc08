-- The configuration where nothing is set.
use Rattle.std.specs.Prelude.{false, codes, refl}
use Rattle.std.proofs.Common.{lit≤}
use Rattle.store_keys.specs.declared.config.Config.{Config}
use Rattle.store_keys.specs.Settings.{Settings}

-- times in seconds, the lag in bytes
abbrev pub default_config : Config
default_config = record {
  loop_wait = 10;
  retry_timeout = 10;
  ttl = 30;
  maximum_lag_on_failover = 1048576;
  primary_start_timeout = 300;
  synchronous_node_count = 1;
  synchronous_mode = false;
  quorum = false;
  synchronous_mode_strict = false;
  standby_cluster = false;
  failsafe_mode = false;
  pause = false;
  use_pg_rewind = false;
  loop_wait_range = (lit≤ tt, lit≤ tt);
  retry_timeout_range = (lit≤ tt, lit≤ tt);
  ttl_range = (lit≤ tt, lit≤ tt);
  maximum_lag_on_failover_range = lit≤ tt;
  primary_start_timeout_range = lit≤ tt;
  synchronous_node_count_range = (lit≤ tt, lit≤ tt);
  quorum_is_synchronous = refl;
  standby_stands_alone = refl;
}

-- the configuration of a cluster that begins with none
abbrev pub default_settings : Settings
default_settings = record { text = codes "{}"; config = default_config }
