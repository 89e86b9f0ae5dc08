-- What a configuration has at the settings' keys, as JSON values, and what that sets.
use Rattle.std.specs.Prelude.{◌≡◌, ℕ, Bool, true, false, not, ◌||◌, ◌&&◌, List, nat_le, bytes_eq, codes, cond, if◌then◌else◌, Option, Some, None, option_and_then, unwrap_or, refl}
use Rattle.std.proofs.Common.{zero-le}
use Rattle.std.proofs.lemmas.Bool.{leb-true}
use Rattle.store_keys.specs.Defaults.{default_config}
use Rattle.store_keys.specs.declared.config.Config.{Config}
use Rattle.serde_json.specs.Data.{Num, unsigned, negative, float, Data, null, boolean, number, string, array, object}
use Rattle.serde_json.specs.Find.{get, as_number}
use Rattle.cluster_config.specs.declared.setting.Setting.{Setting}
use Rattle.cluster_config.specs.declared.setting.Setting.TheVariants as settings
use Rattle.cluster_config.specs.declared.setting.SettingRange.{SettingRange}
use Rattle.cluster_config.specs.declared.setting_value.WholeNumber.{WholeNumber}
use Rattle.cluster_config.specs.declared.setting_value.WholeNumber.TheVariants.{BelowZero, FromZero}
use Rattle.cluster_config.specs.SettingTable.{setting_name, IsWithin, loop_wait_range, retry_timeout_range, ttl_range, maximum_lag_range, primary_start_timeout_range, node_count_range}

-- what an object has at a setting's key
abbrev pub found_at : Setting → Data → Option Data
found_at settings.UsePgRewind d = option_and_then (get (codes "use_pg_rewind")) (get (codes "postgresql") d)
found_at setting d = get (setting_name setting) d

-- a null counts as absent
abbrev pub unless_null : Data → Option Data
unless_null null = None
unless_null (boolean b) = Some (boolean b)
unless_null (number n) = Some (number n)
unless_null (string s) = Some (string s)
unless_null (array ds) = Some (array ds)
unless_null (object ms) = Some (object ms)

-- what a configuration has at a setting's key
abbrev pub value_at : Setting → Data → Option Data
value_at setting d = option_and_then unless_null (found_at setting d)

-- the whole number that a number is: one that the text writes with a point, an exponent or more than 64 bits is none
abbrev pub whole_number_of : Num → Option WholeNumber
whole_number_of (unsigned n) = Some (FromZero n)
whole_number_of (negative z) = Some BelowZero
whole_number_of (float x) = None

-- the whole number that a value is
abbrev pub whole_number : Data → Option WholeNumber
whole_number d = option_and_then whole_number_of (as_number d)

-- the truth value that a text says
abbrev pub truth_word : List ℕ → Option Bool
truth_word text = if bytes_eq text (codes "on") || bytes_eq text (codes "true") then Some true
    else if bytes_eq text (codes "off") || bytes_eq text (codes "false") then Some false else None

-- the truth value that a value is
abbrev pub truth_value : Data → Option Bool
truth_value null = None
truth_value (boolean b) = Some b
truth_value (number n) = None
truth_value (string s) = truth_word s
truth_value (array ds) = None
truth_value (object ms) = None

-- a number where it is within a range, and else another
abbrev pub within_or : SettingRange → ℕ → ℕ → ℕ
within_or range other n = if nat_le range.least n then (if nat_le n range.greatest then n else other) else other

-- the same of a whole number
abbrev pub whole_or : SettingRange → ℕ → Option WholeNumber → ℕ
whole_or range other None = other
whole_or range other (Some BelowZero) = other
whole_or range other (Some (FromZero n)) = within_or range other n

-- the number that a value sets, or the default where it sets none
abbrev pub number_or : SettingRange → ℕ → Option Data → ℕ
number_or range other found = whole_or range other (option_and_then whole_number found)

-- the truth value that a value sets, or false where it sets none
abbrev pub truth_or_false : Option Data → Bool
truth_or_false found = unwrap_or (option_and_then truth_value found) false

-- a text that turns quorum commit on
abbrev pub is_quorum_word : Data → Bool
is_quorum_word (string s) = bytes_eq s (codes "quorum")
is_quorum_word _ = false

-- a value says that commits wait for so many of a set of standbys
abbrev pub says_quorum : Option Data → Bool
says_quorum None = false
says_quorum (Some d) = is_quorum_word d

-- a value is an object
abbrev pub is_object : Data → Bool
is_object (object ms) = true
is_object _ = false

-- there is a value, and it is an object
abbrev pub says_object : Option Data → Bool
says_object None = false
says_object (Some d) = is_object d

-- quorum commit is a synchronous mode
abbrev pub quorum-is_synchronous : (truth quorum : Bool) → (not quorum || (truth || quorum)) ≡ true
quorum-is_synchronous truth false = refl
quorum-is_synchronous true true = refl
quorum-is_synchronous false true = refl

-- a standby cluster has neither mode
abbrev pub standby-stands_alone : (is mode : Bool) → ((is && not mode) && mode) ≡ false
standby-stands_alone false mode = refl
standby-stands_alone true false = refl
standby-stands_alone true true = refl

tested : {A : Type 0} (P : A → Type 0) (b : Bool) (x y : A) → (b ≡ true → P x) → P y → P (cond b x y)
tested P true x y first second = first refl
tested P false x y first second = second

-- what is taken is within the range, since the other number is
pub within_or-within : (range : SettingRange) (other n : ℕ) → IsWithin range other
    → IsWithin range (within_or range other n)
within_or-within range other n within =
    tested (IsWithin range) (nat_le range.least n) _ _
    (λ least. tested (IsWithin range) (nat_le n range.greatest) _ _
    (λ greatest. (leb-true range.least n least, leb-true n range.greatest greatest)) within)
    within

pub whole_or-within : (range : SettingRange) (other : ℕ) (found : Option WholeNumber) → IsWithin range other
    → IsWithin range (whole_or range other found)
whole_or-within range other None within = within
whole_or-within range other (Some BelowZero) within = within
whole_or-within range other (Some (FromZero n)) within = within_or-within range other n within

pub number_or-within : (range : SettingRange) (other : ℕ) (found : Option Data) → IsWithin range other
    → IsWithin range (number_or range other found)
number_or-within range other found within = whole_or-within range other (option_and_then whole_number found) within

-- what a configuration sets: for each setting the value at its key, and the default where
-- there is none; a standby cluster where neither synchronous nor failsafe mode is on
abbrev pub config_in : Data → Config
config_in d = record {
  loop_wait = number_or loop_wait_range default_config.loop_wait (value_at settings.LoopWait d);
  retry_timeout = number_or retry_timeout_range default_config.retry_timeout (value_at settings.RetryTimeout d);
  ttl = number_or ttl_range default_config.ttl (value_at settings.Ttl d);
  maximum_lag_on_failover =
      number_or maximum_lag_range default_config.maximum_lag_on_failover (value_at settings.MaximumLagOnFailover d);
  primary_start_timeout = number_or primary_start_timeout_range default_config.primary_start_timeout
      (value_at settings.PrimaryStartTimeout d);
  synchronous_node_count =
      number_or node_count_range default_config.synchronous_node_count (value_at settings.SynchronousNodeCount d);
  synchronous_mode = truth_or_false (value_at settings.SynchronousMode d)
      || says_quorum (value_at settings.SynchronousMode d);
  quorum = says_quorum (value_at settings.SynchronousMode d);
  synchronous_mode_strict = truth_or_false (value_at settings.SynchronousModeStrict d);
  standby_cluster = says_object (value_at settings.StandbyCluster d) && not
      ((truth_or_false (value_at settings.SynchronousMode d) || says_quorum (value_at settings.SynchronousMode d))
      || truth_or_false (value_at settings.FailsafeMode d));
  failsafe_mode = truth_or_false (value_at settings.FailsafeMode d);
  pause = truth_or_false (value_at settings.Pause d);
  use_pg_rewind = truth_or_false (value_at settings.UsePgRewind d);
  loop_wait_range = number_or-within loop_wait_range default_config.loop_wait
      (value_at settings.LoopWait d) default_config.loop_wait_range;
  retry_timeout_range = number_or-within retry_timeout_range default_config.retry_timeout
      (value_at settings.RetryTimeout d) default_config.retry_timeout_range;
  ttl_range = number_or-within ttl_range default_config.ttl (value_at settings.Ttl d) default_config.ttl_range;
  maximum_lag_on_failover_range =
      (number_or-within maximum_lag_range default_config.maximum_lag_on_failover
      (value_at settings.MaximumLagOnFailover d) (zero-le, default_config.maximum_lag_on_failover_range)).1;
  primary_start_timeout_range =
      (number_or-within primary_start_timeout_range default_config.primary_start_timeout
      (value_at settings.PrimaryStartTimeout d) (zero-le, default_config.primary_start_timeout_range)).1;
  synchronous_node_count_range = number_or-within node_count_range default_config.synchronous_node_count
      (value_at settings.SynchronousNodeCount d) default_config.synchronous_node_count_range;
  quorum_is_synchronous = quorum-is_synchronous (truth_or_false (value_at settings.SynchronousMode d))
      (says_quorum (value_at settings.SynchronousMode d));
  standby_stands_alone = standby-stands_alone (says_object (value_at settings.StandbyCluster d))
      ((truth_or_false (value_at settings.SynchronousMode d) || says_quorum (value_at settings.SynchronousMode d))
      || truth_or_false (value_at settings.FailsafeMode d));
}
