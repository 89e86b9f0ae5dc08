-- The checks of restarts and reinitializations.
use Rattle.std.specs.Prelude.{◌||◌, not, Bool, true, false, Option}
use Rattle.pat_base.specs.declared.server_state.State.{State}
use Rattle.pat_base.specs.declared.server_state.State.TheVariants as states
use Rattle.pat_base.specs.ServerState.{live}
use Rattle.cluster_view.specs.declared.view.AgentView.{AgentView}
use Rattle.cluster_view.specs.Roles.{has_key}
use Rattle.operator_answers.specs.declared.answer_text.Text.TheVariants as texts
use Rattle.operator_keys.specs.declared.refusal.Refused.{Refused}
use Rattle.operator_keys.specs.Refusals.{refused_where}
use Rattle.operator_answers.specs.Statuses.{service_unavailable}

-- a server in this state runs
abbrev pub is_running : State → Bool
is_running states.Primary = true
is_running states.Replica = true
is_running _ = false

-- what refuses a restart; nothing where the server runs
abbrev pub restart_refusal : AgentView → Option Refused
restart_refusal view = refused_where (not (is_running view.state)) service_unavailable texts.NotRunning

-- what refuses a reinitialization; nothing where the agent doesn't have the leader
-- key, and its server doesn't accept writes, and won't when its start is complete
abbrev pub reinit_refusal : AgentView → Option Refused
reinit_refusal view = refused_where (has_key view.role || live view.state) service_unavailable texts.IsLeader
