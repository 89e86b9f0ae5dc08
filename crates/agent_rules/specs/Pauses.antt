-- What an agent does to its server in a pause (Patroni's documentation, "Pause/Resume mode for the cluster").
use Rattle.std.specs.Prelude.{◌≡◌, ◌⊎◌, true, All}
use Rattle.pat_base.specs.declared.server_state.State.TheVariants as states
use Rattle.store_keys.specs.declared.action.OperatorRequest.TheVariants as requests
use Rattle.cluster_view.specs.KeyValues.{failover_in}
use Rattle.cluster_view.specs.Naming.{is_candidate}
use Rattle.agent_model.specs.declared.heard.Heard.{Heard}
use Rattle.agent_model.specs.declared.heard.Heard.TheVariants as heards
use Rattle.agent_model.specs.declared.output.Output.{Output}
use Rattle.agent_model.specs.declared.output.Output.TheVariants as outputs
use Rattle.agent_model.specs.declared.output.ServerOrder.TheVariants as orders
use Rattle.agent_model.specs.declared.output.Repair.TheVariants.{Rewind}
use Rattle.agent_model.specs.declared.why.Why.TheVariants.{HandOver}
use Rattle.agent_model.specs.Agents.{RoleFacts, Ending, Outcome}
use Rattle.agent_model.specs.Pausing.{is_paused}
use Rattle.agent_rules.specs.Grounds.{IsReinit}

-- the agent ends its server to hand over
abbrev pub HandsOver : RoleFacts → Type 0
HandsOver (Ending revision HandOver) = Unit {0}
HandsOver _ = ⊥

-- an operator asks that the server start again
abbrev pub IsRestart : Heard → Type 0
IsRestart (heards.Operated action) = action.asked ≡ requests.Restart
IsRestart _ = ⊥

-- an operator wants this member to lead, by the failover key of the turn or of the snapshot that comes with a grant
abbrev pub NamesAsCandidate : Heard → Outcome → Type 0
NamesAsCandidate (heards.Granted sequence grant snapshot) o = (is_candidate o.knows.who.me o.knows.turn_failover ≡ true)
    ⊎ (is_candidate o.knows.who.me (failover_in snapshot) ≡ true)
NamesAsCandidate _ o = ⊥

-- an output that an agent makes in a pause in an input that hears this, in this role behind it. It ends its
-- server only to hand over, starts it as a replica only after a handover of its own, begins only with a replica
-- that an operator wants to lead, and rewinds nothing; what else comes to its server an operator asks for
abbrev pub IsRestrained : Heard → Outcome → RoleFacts → Output → Type 0
IsRestrained heard o role (outputs.Server (orders.Stop reason)) = ⊥
IsRestrained heard o role (outputs.Server orders.ShutDown) = HandsOver role
IsRestrained heard o role (outputs.Server (orders.StartReplica leader)) = o.knows.handed_over ≡ true
IsRestrained heard o role (outputs.Server orders.Begin) =
    NamesAsCandidate heard o × (o.machine.server.state ≡ states.Replica)
IsRestrained heard o role (outputs.Server (orders.Repair leader Rewind)) = ⊥
IsRestrained heard o role (outputs.Server (orders.Restart as_primary)) = IsRestart heard
IsRestrained heard o role (outputs.Server orders.Wipe) = IsReinit heard
IsRestrained heard o role _ = Unit {0}

-- an input behind which the cluster is paused, by the newest snapshot, has such outputs alone
abbrev pub RestrainsInPause : Heard → Outcome → Outcome → Type 0
RestrainsInPause heard o after = is_paused after.knows ≡ true → All (IsRestrained heard o after.role) after.outputs
