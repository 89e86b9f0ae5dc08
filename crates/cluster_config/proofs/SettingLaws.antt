-- What a configuration that is read sets is what its text has at the settings' keys.
use Rattle.std.proofs.Common.{◌≡◌, ℕ, List, Bool, true, false, not, cond, is_some, Option, Some, None, option_map, option_and_then, unwrap_or, find, Ok, nat_lt, ◌||◌, bytes_eq, codes, true≢false, refl, sym, ap, subst, ◌∙◌, arith}
use Rattle.std.proofs.lemmas.Bool.Decides.{nat_tests}
use Rattle.std.proofs.lemmas.Slice.Eq.{bytes_eq-Decides}
use Rattle.store_keys.specs.Defaults.{default_config}
use Rattle.store_keys.specs.Settings.{Settings}
use Rattle.serde_json.specs.Data.{Num, unsigned, negative, float, Data, null, boolean, number, string, array, object}
use Rattle.serde_json.specs.Find.{as_number}
use Rattle.serde_json.specs.Written.{has_float}
use Rattle.cluster_config.specs.declared.config_fault.ConfigFault.{ConfigFault}
use Rattle.cluster_config.specs.declared.config_fault.ConfigFault.TheVariants as faults
use Rattle.cluster_config.specs.declared.setting.Setting.{Setting}
use Rattle.cluster_config.specs.declared.setting.Setting.TheVariants as settings
use Rattle.cluster_config.specs.declared.setting.SettingKind.TheVariants as setting_kinds
use Rattle.cluster_config.specs.declared.setting.SettingRange.{SettingRange}
use Rattle.cluster_config.specs.declared.setting_value.WholeNumber.{WholeNumber}
use Rattle.cluster_config.specs.declared.setting_value.WholeNumber.TheVariants.{BelowZero, FromZero}
use Rattle.cluster_config.specs.ConfigFaults.{is_bad_number, is_low_number, is_bad_if_some, is_low_if_some, is_bad, is_low, keeps_times, or_next, fault_if, fault_of}
use Rattle.cluster_config.specs.ConfigLaws.{number_set, truth_set}
use Rattle.cluster_config.specs.ConfigReading.{on_ok, json_of, object_in, object_if_json, judged, config_read}
use Rattle.cluster_config.specs.SettingTable.{settings_in_order, loop_wait_range, retry_timeout_range, ttl_range, maximum_lag_range, primary_start_timeout_range, node_count_range}
use Rattle.cluster_config.specs.SettingValues.{value_at, whole_number, whole_number_of, truth_value, truth_word, within_or, whole_or, number_or, truth_or_false, is_quorum_word, says_quorum, config_in}
use Rattle.cluster_config.proofs.ConfigFacts.{err-not-ok, had-no-fault}
use Rattle.cluster_config.proofs.ReadingLaws.{none_after}

some-not-none : {A : Type 0} (x : A) → Some x ≡ None → ⊥
some-not-none x e = cc

same-some : {A : Type 0} (x y : A) → Some x ≡ Some y → x ≡ y
same-some x y e = cc

no-first : (b : Bool) (x : Setting) (rest : Option Setting) → cond b (Some x) rest ≡ None → (b ≡ false) × (rest ≡ None)
no-first true x rest e = absurd (some-not-none x e)
no-first false x rest e = (refl, e)

-- where no setting is found, none passes the test
pub none-found : (p : Setting → Bool) → find p settings_in_order ≡ None → (setting : Setting) → p setting ≡ false
none-found p e =
    let a = no-first (p settings.FailsafeMode) settings.FailsafeMode _ e in
    let b = no-first (p settings.LoopWait) settings.LoopWait _ a.1 in
    let c = no-first (p settings.MaximumLagOnFailover) settings.MaximumLagOnFailover _ b.1 in
    let d = no-first (p settings.Pause) settings.Pause _ c.1 in
    let f = no-first (p settings.UsePgRewind) settings.UsePgRewind _ d.1 in
    let g = no-first (p settings.PrimaryStartTimeout) settings.PrimaryStartTimeout _ f.1 in
    let h = no-first (p settings.RetryTimeout) settings.RetryTimeout _ g.1 in
    let m = no-first (p settings.StandbyCluster) settings.StandbyCluster _ h.1 in
    let i = no-first (p settings.SynchronousMode) settings.SynchronousMode _ m.1 in
    let j = no-first (p settings.SynchronousModeStrict) settings.SynchronousModeStrict _ i.1 in
    let k = no-first (p settings.SynchronousNodeCount) settings.SynchronousNodeCount _ j.1 in
    let l = no-first (p settings.Ttl) settings.Ttl _ k.1 in
    all_of p a.0 b.0 c.0 d.0 f.0 g.0 h.0 m.0 i.0 j.0 k.0 l.0
  where
    all_of : (p : Setting → Bool) → p settings.FailsafeMode ≡ false → p settings.LoopWait ≡ false
        → p settings.MaximumLagOnFailover ≡ false → p settings.Pause ≡ false → p settings.UsePgRewind ≡ false
        → p settings.PrimaryStartTimeout ≡ false → p settings.RetryTimeout ≡ false → p settings.StandbyCluster ≡ false
        → p settings.SynchronousMode ≡ false → p settings.SynchronousModeStrict ≡ false
        → p settings.SynchronousNodeCount ≡ false → p settings.Ttl ≡ false
        → (setting : Setting) → p setting ≡ false
    all_of p a b c d f g h m i j k l settings.FailsafeMode = a
    all_of p a b c d f g h m i j k l settings.LoopWait = b
    all_of p a b c d f g h m i j k l settings.MaximumLagOnFailover = c
    all_of p a b c d f g h m i j k l settings.Pause = d
    all_of p a b c d f g h m i j k l settings.UsePgRewind = f
    all_of p a b c d f g h m i j k l settings.PrimaryStartTimeout = g
    all_of p a b c d f g h m i j k l settings.RetryTimeout = h
    all_of p a b c d f g h m i j k l settings.StandbyCluster = m
    all_of p a b c d f g h m i j k l settings.SynchronousMode = i
    all_of p a b c d f g h m i j k l settings.SynchronousModeStrict = j
    all_of p a b c d f g h m i j k l settings.SynchronousNodeCount = k
    all_of p a b c d f g h m i j k l settings.Ttl = l

within-itself : (range : SettingRange) (other n : ℕ) → nat_lt range.greatest n ≡ false
    → nat_lt n range.least ≡ false → within_or range other n ≡ n
within-itself range other n high low = grind (arith, nat_tests)

in-order : (range : SettingRange) (other : ℕ) (found : Option WholeNumber) → is_bad_number range found ≡ false
    → is_low_number range found ≡ false → found ≡ Some (FromZero (whole_or range other found))
in-order range other None bad low = absurd (true≢false bad)
in-order range other (Some BelowZero) bad low = absurd (true≢false low)
in-order range other (Some (FromZero n)) bad low =
    ap (λ (m : ℕ). Some (FromZero m)) (sym (within-itself range other n bad low))

-- a number at a setting's key is what is set
number-there : (range : SettingRange) (other : ℕ) (found : Option Data) (value : Data)
    → is_bad_if_some (setting_kinds.Number range) found ≡ false → is_low_if_some (Some range) found ≡ false
    → found ≡ Some value → whole_number value ≡ Some (FromZero (number_or range other found))
number-there range other None value bad low is = absurd (some-not-none value (sym is))
number-there range other (Some d) value bad low is =
    let same : d ≡ value = same-some d value is in
    ap whole_number (sym same) ∙ in-order range other (whole_number d) bad low

truth-if : (t : Option Bool) → not (is_some t) ≡ false → t ≡ Some (unwrap_or t false)
truth-if None e = absurd (true≢false e)
truth-if (Some b) e = refl

truth-there : (found : Option Data) (value : Data) → is_bad_if_some setting_kinds.Truth found ≡ false
    → found ≡ Some value
    → truth_value value ≡ Some (truth_or_false found)
truth-there None value bad is = absurd (some-not-none value (sym is))
truth-there (Some d) value bad is =
    let same : d ≡ value = same-some d value is in
    ap truth_value (sym same) ∙ truth-if (truth_value d) bad

-- a truth value is no text that turns quorum commit on
quorum-word : (text : List ℕ) → bytes_eq text (codes "quorum") ≡ true → truth_word text ≡ None
quorum-word text is =
    subst (λ (t : List ℕ). truth_word t ≡ None) (sym ((bytes_eq-Decides text (codes "quorum")).0 is)) refl

none-or : (truth quorum : Bool) → quorum ≡ false → (truth || quorum) ≡ truth
none-or true quorum none = refl
none-or false quorum none = none

says-none : (d : Data) → not (is_some (truth_value d)) ≡ false → is_quorum_word d ≡ false
says-none null bad = refl
says-none (boolean b) bad = refl
says-none (number n) bad = refl
says-none (string s) bad = by (bytes_eq s (codes "quorum")) refl
  where
    by : (test : Bool) → bytes_eq s (codes "quorum") ≡ test → test ≡ false
    by false is = refl
    by true is =
        absurd (true≢false (sym (ap (λ (t : Option Bool). not (is_some t)) (quorum-word s is)) ∙ bad))
says-none (array ds) bad = refl
says-none (object ms) bad = refl

no-quorum : (found : Option Data) → is_bad_if_some setting_kinds.Truth found ≡ false
    → (truth_or_false found || says_quorum found) ≡ truth_or_false found
no-quorum None bad = refl
no-quorum (Some d) bad = none-or (truth_or_false (Some d)) (is_quorum_word d) (says-none d bad)

pub number-set : (d value : Data) (setting : Setting) (n : ℕ) → is_bad d setting ≡ false → is_low d setting ≡ false
    → number_set setting (config_in d) ≡ Some n → value_at setting d ≡ Some value
    → whole_number value ≡ Some (FromZero n)
number-set d value settings.FailsafeMode n bad low set is = absurd (some-not-none n (sym set))
number-set d value settings.LoopWait n bad low set is =
    number-there loop_wait_range default_config.loop_wait (value_at settings.LoopWait d) value bad low is
    ∙ ap (option_map FromZero) set
number-set d value settings.MaximumLagOnFailover n bad low set is =
    number-there maximum_lag_range default_config.maximum_lag_on_failover
    (value_at settings.MaximumLagOnFailover d) value bad low is
    ∙ ap (option_map FromZero) set
number-set d value settings.Pause n bad low set is = absurd (some-not-none n (sym set))
number-set d value settings.UsePgRewind n bad low set is = absurd (some-not-none n (sym set))
number-set d value settings.PrimaryStartTimeout n bad low set is =
    number-there primary_start_timeout_range default_config.primary_start_timeout
    (value_at settings.PrimaryStartTimeout d) value bad low is
    ∙ ap (option_map FromZero) set
number-set d value settings.RetryTimeout n bad low set is =
    number-there retry_timeout_range default_config.retry_timeout (value_at settings.RetryTimeout d) value bad low is
    ∙ ap (option_map FromZero) set
number-set d value settings.StandbyCluster n bad low set is = absurd (some-not-none n (sym set))
number-set d value settings.SynchronousMode n bad low set is = absurd (some-not-none n (sym set))
number-set d value settings.SynchronousModeStrict n bad low set is = absurd (some-not-none n (sym set))
number-set d value settings.SynchronousNodeCount n bad low set is =
    number-there node_count_range default_config.synchronous_node_count
    (value_at settings.SynchronousNodeCount d) value bad low is
    ∙ ap (option_map FromZero) set
number-set d value settings.Ttl n bad low set is =
    number-there ttl_range default_config.ttl (value_at settings.Ttl d) value bad low is ∙ ap (option_map FromZero) set

pub truth-set : (d value : Data) (setting : Setting) (truth : Bool) → is_bad d setting ≡ false
    → truth_set setting (config_in d) ≡ Some truth → value_at setting d ≡ Some value → truth_value value ≡ Some truth
truth-set d value settings.FailsafeMode truth bad set is =
    truth-there (value_at settings.FailsafeMode d) value bad is ∙ set
truth-set d value settings.LoopWait truth bad set is = absurd (some-not-none truth (sym set))
truth-set d value settings.MaximumLagOnFailover truth bad set is = absurd (some-not-none truth (sym set))
truth-set d value settings.Pause truth bad set is = truth-there (value_at settings.Pause d) value bad is ∙ set
truth-set d value settings.UsePgRewind truth bad set is =
    truth-there (value_at settings.UsePgRewind d) value bad is ∙ set
truth-set d value settings.PrimaryStartTimeout truth bad set is = absurd (some-not-none truth (sym set))
truth-set d value settings.RetryTimeout truth bad set is = absurd (some-not-none truth (sym set))
truth-set d value settings.StandbyCluster truth bad set is = absurd (some-not-none truth (sym set))
truth-set d value settings.SynchronousMode truth bad set is =
    truth-there (value_at settings.SynchronousMode d) value bad is
    ∙ ap Some (sym (no-quorum (value_at settings.SynchronousMode d) bad))
    ∙ set
truth-set d value settings.SynchronousModeStrict truth bad set is =
    truth-there (value_at settings.SynchronousModeStrict d) value bad is ∙ set
truth-set d value settings.SynchronousNodeCount truth bad set is = absurd (some-not-none truth (sym set))
truth-set d value settings.Ttl truth bad set is = absurd (some-not-none truth (sym set))

first-none : (first next : Option ConfigFault) → or_next first next ≡ None → first ≡ None
first-none None next e = refl
first-none (Some fault) next e = absurd (some-not-none fault e)

none-named : (named : Setting → ConfigFault) (found : Option Setting) → option_map named found ≡ None → found ≡ None
none-named named None e = refl
none-named named (Some setting) e = absurd (some-not-none (named setting) e)

object-judged : (d : Data) (s : Settings) → on_ok (object_in d) judged ≡ Ok s → judged d ≡ Ok s
object-judged null s e = absurd (err-not-ok faults.NotObject s e)
object-judged (boolean b) s e = absurd (err-not-ok faults.NotObject s e)
object-judged (number n) s e = absurd (err-not-ok faults.NotObject s e)
object-judged (string t) s e = absurd (err-not-ok faults.NotObject s e)
object-judged (array ds) s e = absurd (err-not-ok faults.NotObject s e)
object-judged (object ms) s e = e

-- a configuration that is read sets what its value sets, and has no setting in disorder
record IsRead (d : Data) (s : Settings) : Type 0 where
  config : config_in d ≡ s.config
  bad : find (is_bad d) settings_in_order ≡ None
  low : find (is_low d) settings_in_order ≡ None

was-read : (bytes : List ℕ) (d : Data) (s : Settings) → json_of bytes ≡ Some d → config_read bytes ≡ Ok s → IsRead d s
was-read bytes d s is e =
    let whole = object-judged d s (sym (ap (λ (o : Option Data). on_ok (object_if_json o) judged) is) ∙ e) in
    let parts = had-no-fault (fault_of d (config_in d)) _ s whole in
    let times =
    or_next (fault_if (not (keeps_times (config_in d))) faults.TimesRule) (fault_if (has_float d) faults.Fraction) in
    let low = option_map faults.BelowMinimum (find (is_low d) settings_in_order) in
    let bad = option_map faults.BadValue (find (is_bad d) settings_in_order) in
    record {
      config = ap (λ (x : Settings). x.config) parts.1;
      bad = none-named faults.BadValue (find (is_bad d) settings_in_order) (first-none bad (or_next low times) parts.0);
      low = none-named faults.BelowMinimum (find (is_low d) settings_in_order)
          (first-none low times (none_after bad (or_next low times) parts.0));
    }

unsigned-is : (o : Option Num) (n : ℕ) → option_and_then whole_number_of o ≡ Some (FromZero n) → o ≡ Some (unsigned n)
unsigned-is None n e = absurd (some-not-none (FromZero n) (sym e))
unsigned-is (Some (unsigned m)) n e = ap (λ (k : ℕ). Some (unsigned k)) (same-number m n e)
  where
    same-number : (m n : ℕ) → Some (FromZero m) ≡ Some (FromZero n) → m ≡ n
    same-number m n e = cc
unsigned-is (Some (negative z)) n e = absurd (not-below n e)
  where
    not-below : (n : ℕ) → Some BelowZero ≡ Some (FromZero n) → ⊥
    not-below n e = cc
unsigned-is (Some (float x)) n e = absurd (some-not-none (FromZero n) (sym e))

-- a number that is set is the one at its key
pub read-number : (bytes : List ℕ) (d : Data) (s : Settings) (setting : Setting) (value : Data) (n : ℕ)
    → json_of bytes ≡ Some d → config_read bytes ≡ Ok s
    → value_at setting d ≡ Some value → number_set setting s.config ≡ Some n → as_number value ≡ Some (unsigned n)
read-number bytes d s setting value n is e there set =
    let was : IsRead d s = was-read bytes d s is e in
    unsigned-is (as_number value) n
    (number-set d value setting n (none-found (is_bad d) was.bad setting) (none-found (is_low d) was.low setting)
    (ap (number_set setting) was.config ∙ set) there)

-- a truth value that is set is the one at its key
pub read-truth : (bytes : List ℕ) (d : Data) (s : Settings) (setting : Setting) (value : Data) (truth : Bool)
    → json_of bytes ≡ Some d → config_read bytes ≡ Ok s
    → value_at setting d ≡ Some value → truth_set setting s.config ≡ Some truth → truth_value value ≡ Some truth
read-truth bytes d s setting value truth is e there set =
    let was : IsRead d s = was-read bytes d s is e in
    truth-set d value setting truth (none-found (is_bad d) was.bad setting)
    (ap (truth_set setting) was.config ∙ set) there
