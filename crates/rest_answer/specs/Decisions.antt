-- What an agent makes of a request for a change, by what it shows.
use Rattle.std.specs.Prelude.{ℕ, List, Option, Result, Ok, Err}
use Rattle.store_keys.specs.declared.action.FailoverKind.TheVariants as failover_kinds
use Rattle.store_keys.specs.declared.action.OperatorRequest.{OperatorRequest}
use Rattle.store_keys.specs.declared.action.OperatorRequest.TheVariants as requests
use Rattle.cluster_view.specs.Snapshots.{SnapshotFacts}
use Rattle.cluster_view.specs.declared.view.AgentView.{AgentView}
use Rattle.operator_answers.specs.declared.answer_text.Text.TheVariants as texts
use Rattle.operator_keys.specs.declared.config_checks.ConfigChange.TheVariants as changes
use Rattle.operator_keys.specs.declared.refusal.Refused.{Refused}
use Rattle.operator_keys.specs.Checks.{switchover_on, failover_on}
use Rattle.operator_keys.specs.ConfigChecks.{configuration_on}
use Rattle.operator_keys.specs.FailsafeChecks.{failsafe_on}
use Rattle.operator_keys.specs.Refusals.{unless_refused}
use Rattle.operator_keys.specs.ServerChecks.{restart_refusal, reinit_refusal}
use Rattle.operator_answers.specs.Statuses.{not_found}
use Rattle.rest_paths.specs.declared.change.Change.{Change}
use Rattle.rest_paths.specs.declared.change.Change.TheVariants as asked

-- no switchover is scheduled: scheduled actions aren't built
abbrev pub no_scheduled_switchover : Refused
no_scheduled_switchover = record { status = not_found; text = texts.NoScheduledSwitchover }

-- an agent is to do what comes of a check that passed
abbrev pub asking_for : {A : Type 0} → (A → OperatorRequest) → Result A Refused → Result OperatorRequest Refused
asking_for request (Ok x) = Ok (request x)
asking_for request (Err refused) = Err refused

-- what an agent that shows this, and whose newest snapshot is this one, is
-- to do to make this change with this content, or what it is refused with
abbrev pub change_on : AgentView → Option SnapshotFacts → Change → List ℕ → Result OperatorRequest Refused
change_on view seen asked.Switchover body =
    asking_for (requests.Failover failover_kinds.Switchover) (switchover_on seen view.waits body)
change_on view seen asked.DropSwitchover body = Err no_scheduled_switchover
change_on view seen asked.Failover body =
    asking_for (requests.Failover failover_kinds.Failover) (failover_on seen view.waits body)
change_on view seen asked.Restart body = unless_refused (restart_refusal view) requests.Restart
change_on view seen asked.Reinitialize body = unless_refused (reinit_refusal view) requests.Reinit
change_on view seen asked.PatchConfiguration body =
    asking_for requests.Configuration (configuration_on seen view.waits changes.Patch body)
change_on view seen asked.ReplaceConfiguration body =
    asking_for requests.Configuration (configuration_on seen view.waits changes.Replace body)
change_on view seen asked.Failsafe body = failsafe_on view.me seen body
