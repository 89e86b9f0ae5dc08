-- A request is refused that changes failsafe mode: a configuration that
-- an agent is asked for has the mode that its newest snapshot has.
use Rattle.std.proofs.Common.{◌≡◌, ℕ, Bool, true, false, List, Option, Some, None, Result, Ok, Err, refl, sym, subst, ap, ◌∙◌}
use Rattle.std.specs.Prelude.{find, if◌then◌else◌, option_map}
use Rattle.pat_base.specs.declared.ticks.Ticks.{Ticks}
use Rattle.store_keys.specs.declared.action.OperatorRequest.{OperatorRequest}
use Rattle.store_keys.specs.declared.action.OperatorRequest.TheVariants as requests
use Rattle.store_keys.specs.declared.config.Config.{Config}
use Rattle.store_keys.specs.declared.key.Key.TheVariants as keys
use Rattle.store_keys.specs.declared.value.KeyEntry.{KeyEntry}
use Rattle.store_keys.specs.declared.value.Value.{Value}
use Rattle.store_keys.specs.declared.value.Value.TheVariants as values
use Rattle.store_keys.specs.Defaults.{default_config}
use Rattle.store_keys.specs.Settings.{Settings}
use Rattle.cluster_config.specs.declared.config_fault.ConfigFault.{ConfigFault}
use Rattle.cluster_config.specs.declared.config_fault.ConfigFault.TheVariants as faults
use Rattle.cluster_config.specs.declared.setting.Setting.{Setting}
use Rattle.cluster_config.specs.declared.setting.Setting.TheVariants as settings
use Rattle.cluster_config.specs.ConfigFaults.{is_changed, is_switched}
use Rattle.cluster_config.specs.ConfigReading.{config_read, in_place_of, judged, object_of, on_ok as on_configured, unless_fault, with_patch, json_of}
use Rattle.cluster_config.specs.SettingTable.{settings_in_order}
use Rattle.cluster_view.specs.declared.view.AgentView.{AgentView}
use Rattle.cluster_view.specs.Snapshots.{SnapshotFacts, entry_in, settings_by, settings_of_entry}
use Rattle.operator_keys.specs.declared.config_checks.ConfigChange.{ConfigChange}
use Rattle.operator_keys.specs.declared.config_checks.ConfigChange.TheVariants as ways
use Rattle.operator_keys.specs.declared.refusal.Refused.{Refused}
use Rattle.operator_keys.specs.ConfigChecks.{changed, configuration_by, configuration_from, configuration_of_entry, configuration_on, unless_faulty}
use Rattle.operator_keys.specs.Refusals.{unless_refused}
use Rattle.operator_keys.proofs.Holds.{hold-asked, seen-asked}
use Rattle.rest_message.specs.Requests.{RequestText}
use Rattle.rest_message.specs.Targets.{lag_of, path_of}
use Rattle.rest_paths.specs.declared.asking.Ask.{Ask}
use Rattle.rest_paths.specs.declared.asking.Ask.TheVariants as asks
use Rattle.rest_paths.specs.declared.change.Change.{Change}
use Rattle.rest_paths.specs.declared.change.Change.TheVariants as changes
use Rattle.rest_paths.specs.Asking.{ask_of}
use Rattle.rest_answer.specs.Answers.{Acts, Replies, answer_by, decided}
use Rattle.rest_answer.specs.Decisions.{asking_for, change_on}
use Rattle.agent_model.specs.Agents.{Outcome}
use Rattle.agent_model.specs.Views.{shown}
use Rattle.agent_sending.specs.Modes.{IsModeRequested, TellsMode}
use Rattle.cluster_model.specs.Requests.{answer_at}
use Rattle.lease_model.proofs.Tools.{none-some}
use Rattle.lease_parts.specs.Bridged.{SeesMode}

same-ok : {A E : Type 0} (x y : A) → ◌≡◌ {A = Result A E} (Ok x) (Ok y) → x ≡ y
same-ok x y e = cc

no-err : {A E : Type 0} (y : E) (x : A) → ◌≡◌ {A = Result A E} (Err y) (Ok x) → ⊥
no-err y x e = cc

same-acts : (x y : OperatorRequest) → Acts x ≡ Acts y → x ≡ y
same-acts x y e = cc

no-reply : (reply : _) (x : OperatorRequest) → Replies reply ≡ Acts x → ⊥
no-reply reply x e = cc

-- ---- a configuration in place of another
switched-not : (a b : Bool) → is_switched a b ≡ false → b ≡ a
switched-not true true e = refl
switched-not true false e = sym e
switched-not false b e = e

first-not : {A : Type 0} (test : Bool) (x : A) (rest : Option A) → (if test then Some x else rest) ≡ None → test ≡ false
first-not true x rest e = absurd (none-some x (sym e))
first-not false x rest e = refl

unfaulty : (found : Option Setting) (next config : Settings)
    → unless_fault (option_map faults.NotBuilt found) next ≡ Ok config → (found ≡ None) × (next ≡ config)
unfaulty None next config e = (refl, same-ok next config e)
unfaulty (Some setting) next config e = absurd (no-err _ config e)

in-place : (present : Config) (next config : Settings) → in_place_of present next ≡ Ok config
    → config.config.failsafe_mode ≡ present.failsafe_mode
in-place present next config e =
    let ok = unfaulty (find (is_changed present next.config) settings_in_order) next config e in
    subst (λ (s : Settings). s.config.failsafe_mode ≡ present.failsafe_mode) ok.1
    (switched-not present.failsafe_mode next.config.failsafe_mode
    (first-not (is_changed present next.config settings.FailsafeMode) settings.FailsafeMode _ ok.0))

then-in-place : (present : Config) (read : Result Settings ConfigFault) (config : Settings)
    → on_configured read (in_place_of present) ≡ Ok config → config.config.failsafe_mode ≡ present.failsafe_mode
then-in-place present (Ok next) config e = in-place present next config e
then-in-place present (Err fault) config e = absurd (no-err fault config e)

changed-mode : (change : ConfigChange) (present : Settings) (bytes : List ℕ) (config : Settings)
    → changed change present bytes ≡ Ok config → config.config.failsafe_mode ≡ present.config.failsafe_mode
changed-mode ways.Patch present bytes config e = then-in-place present.config
    (on_configured (object_of bytes) (λ patch. judged (with_patch (json_of present.text) patch))) config e
changed-mode ways.Replace present bytes config e = then-in-place present.config (config_read bytes) config e

faultless : (result : Result Settings ConfigFault) (config : Settings) → unless_faulty result ≡ Ok config
    → result ≡ Ok config
faultless (Ok next) config e = ap Ok (same-ok next config e)
faultless (Err fault) config e = absurd (no-err _ config e)

-- ---- the one that a snapshot has
no-mode : (mode : Bool) → ((settings : Config) → settings.failsafe_mode ≡ mode) → ⊥
no-mode mode all =
    both (let on : Config = record default_config { failsafe_mode = true } in all default_config ∙ sym (all on))
  where
    both : false ≡ true → ⊥
    both e = cc

value-mode : (mode : Bool) (change : ConfigChange) (bytes : List ℕ) (value : Value) (config : Settings)
    → ((settings : Config) → (settings_by settings value).failsafe_mode ≡ mode)
    → configuration_from change (configuration_by value) bytes ≡ Ok config → config.config.failsafe_mode ≡ mode
value-mode mode change bytes (values.Config present) config tells e =
    changed-mode change present bytes config (faultless (changed change present bytes) config e) ∙ tells default_config
value-mode mode change bytes _ config tells e = absurd (no-mode mode tells)

entry-mode : (mode : Bool) (change : ConfigChange) (bytes : List ℕ) (found : Option KeyEntry) (config : Settings)
    → ((settings : Config) → (settings_of_entry settings found).failsafe_mode ≡ mode)
    → configuration_from change (configuration_of_entry found) bytes ≡ Ok config → config.config.failsafe_mode ≡ mode
entry-mode mode change bytes None config tells e = absurd (no-mode mode tells)
entry-mode mode change bytes (Some found) config tells e = value-mode mode change bytes found.value config tells e

configured-mode : (mode : Bool) (seen : Option SnapshotFacts) (waits : Bool) (change : ConfigChange) (bytes : List ℕ)
    (config : Settings) → ((snapshot : SnapshotFacts) → seen ≡ Some snapshot → TellsMode mode snapshot)
    → configuration_on seen waits change bytes ≡ Ok config → config.config.failsafe_mode ≡ mode
configured-mode mode None waits change bytes config tells e = absurd (no-err _ config e)
configured-mode mode (Some snapshot) true change bytes config tells e = absurd (no-err _ config e)
configured-mode mode (Some snapshot) false change bytes config tells e =
    entry-mode mode change bytes (entry_in keys.Config snapshot) config (tells snapshot refl) e

-- ---- what is asked
request-is : {A : Type 0} (P : OperatorRequest → Type 0) (request : A → OperatorRequest)
    (result : Result A Refused) (asked : OperatorRequest) → ((x : A) → result ≡ Ok x → P (request x))
    → asking_for request result ≡ Ok asked → P asked
request-is P request (Ok x) asked all e = subst P (same-ok (request x) asked e) (all x refl)
request-is P request (Err refused) asked all e = absurd (no-err refused asked e)

unless-is : (P : OperatorRequest → Type 0) (refusal : Option Refused) (request asked : OperatorRequest)
    → P request → unless_refused refusal request ≡ Ok asked → P asked
unless-is P None request asked one e = subst P (same-ok request asked e) one
unless-is P (Some refused) request asked one e = absurd (no-err refused asked e)

change-mode : (mode : Bool) (view : AgentView) (seen : Option SnapshotFacts) (change : Change) (bytes : List ℕ)
    (asked : OperatorRequest) → ((snapshot : SnapshotFacts) → seen ≡ Some snapshot → TellsMode mode snapshot)
    → change_on view seen change bytes ≡ Ok asked → IsModeRequested mode asked
change-mode mode view seen changes.Switchover bytes asked tells e =
    request-is (IsModeRequested mode) _ _ asked (λ x _. tt) e
change-mode mode view seen changes.DropSwitchover bytes asked tells e = absurd (no-err _ asked e)
change-mode mode view seen changes.Failover bytes asked tells e =
    request-is (IsModeRequested mode) _ _ asked (λ x _. tt) e
change-mode mode view seen changes.Restart bytes asked tells e =
    unless-is (IsModeRequested mode) _ requests.Restart asked tt e
change-mode mode view seen changes.Reinitialize bytes asked tells e =
    unless-is (IsModeRequested mode) _ requests.Reinit asked tt e
change-mode mode view seen changes.PatchConfiguration bytes asked tells e =
    request-is (IsModeRequested mode) requests.Configuration (configuration_on seen view.waits ways.Patch bytes) asked
    (λ config is. configured-mode mode seen view.waits ways.Patch bytes config tells is) e
change-mode mode view seen changes.ReplaceConfiguration bytes asked tells e =
    request-is (IsModeRequested mode) requests.Configuration (configuration_on seen view.waits ways.Replace bytes) asked
    (λ config is. configured-mode mode seen view.waits ways.Replace bytes config tells is) e
change-mode mode view seen changes.Failsafe bytes asked tells e =
    let there = seen-asked view.me seen bytes asked e in
    subst (IsModeRequested mode) (sym (hold-asked view.me seen bytes asked there.0 there.1 e).asks) tt

decided-is : (result : Result OperatorRequest Refused) (asked : OperatorRequest) → decided result ≡ Acts asked
    → result ≡ Ok asked
decided-is (Ok request) asked e = ap Ok (same-acts request asked e)
decided-is (Err refused) asked e = absurd (no-reply _ asked e)

answer-mode : (mode : Bool) (view : AgentView) (seen : Option SnapshotFacts) (lag : Option (List ℕ))
    (bytes : List ℕ) (ask : Ask) (asked : OperatorRequest)
    → ((snapshot : SnapshotFacts) → seen ≡ Some snapshot → TellsMode mode snapshot)
    → answer_by view seen lag bytes ask ≡ Acts asked → IsModeRequested mode asked
answer-mode mode view seen lag bytes asks.NotFound asked tells e = absurd (no-reply _ asked e)
answer-mode mode view seen lag bytes asks.NotAllowed asked tells e = absurd (no-reply _ asked e)
answer-mode mode view seen lag bytes (asks.Health endpoint told) asked tells e = absurd (no-reply _ asked e)
answer-mode mode view seen lag bytes (asks.Page page) asked tells e = absurd (no-reply _ asked e)
answer-mode mode view seen lag bytes (asks.Change change) asked tells e =
    change-mode mode view seen change bytes asked tells (decided-is (change_on view seen change bytes) asked e)

-- an agent that answers a request so asks for no change of failsafe mode
pub asked-mode : (mode : Bool) (now : Ticks) (o : Outcome) (request : RequestText) (asked : OperatorRequest)
    → SeesMode mode o.knows → answer_at now o request ≡ Acts asked → IsModeRequested mode asked
asked-mode mode now o request asked sees e = answer-mode mode (shown now o) o.knows.seen
    (lag_of request.target) request.body (ask_of request.verb (path_of request.target)) asked sees e
