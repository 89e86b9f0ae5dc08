-- Agents that are woken, and act.
use Rattle.std.proofs.Common.{◌≡◌, ℕ, ◌+◌, ◌≤◌, Bool, true, List, [], All, length, Option, Some, None, arith, sym, subst}
use Rattle.std.specs.Prelude.{if◌then◌else◌, slice_get}
use Rattle.std.proofs.lemmas.List.Elements.{All-nil}
use Rattle.pat_base.specs.declared.ticks.Ticks.{Ticks}
use Rattle.wal_model.specs.declared.entry.HistoryPoint.{HistoryPoint}
use Rattle.store_keys.specs.declared.action.OperatorAction.{OperatorAction}
use Rattle.event_book.specs.declared.agent_process.AgentProcess.{AgentProcess}
use Rattle.event_book.specs.declared.event.EventKind.TheVariants as kinds
use Rattle.event_book.specs.declared.event.AgentEvent.{AgentEvent}
use Rattle.event_book.specs.declared.event.AgentEvent.TheVariants.{Woken, Operated}
use Rattle.event_book.specs.declared.member.Member.{Member}
use Rattle.event_list.specs.Listed.{Listed}
use Rattle.agent_model.specs.declared.heard.Heard.{Heard}
use Rattle.agent_model.specs.declared.heard.Heard.TheVariants.{Wake, Operated as HearsOperator}
use Rattle.agent_model.specs.declared.machine.Machine.{Machine}
use Rattle.agent_model.specs.declared.output.Output.{Output}
use Rattle.agent_model.specs.Agents.{AgentFacts, outcome_from}
use Rattle.agent_model.specs.Outputs.{most_outputs}
use Rattle.cluster_model.specs.Inputs.{agent_at, may_act, moment_of, outcome_at, outcome_of, outcome_of_heard, outputs_of, standing_of}
use Rattle.cluster_model.specs.Machines.{machine_of, points_of}
use Rattle.cluster_model.specs.Messages.{input_events, no_message, operate_events, output_events, own_input_events, turn_events, turn_events_if, wake_events, wake_events_if, wake_events_of}
use Rattle.cluster_model.specs.Parts.{each, event_of, for_some}
use Rattle.cluster_model.specs.State.{Cluster}
use Rattle.world_model.specs.Emits.{Emits}
use Rattle.world_model.specs.Idle.{IsAwake, WakesAt}
use Rattle.world_model.specs.Room.{request_cost, hearing_cost, input_cost, outputs_cost}
use Rattle.agent_model.specs.Asked.{AsksShortly}
use Rattle.agent_cases.proofs.Bounds.{step-small}
use Rattle.world_model.proofs.Taking.{Emits-then, found-took}

-- what an input did is little, and asks shortly
pub record AreFew (outputs : List Output) : Type 0 where
  pub few : length outputs ≤ most_outputs
  pub short : All AsksShortly outputs

no-outputs : AreFew []
no-outputs = record { few = omega arith; short = All-nil AsksShortly }

outcome-few : (now : Ticks) (points : List HistoryPoint) (heard : Heard) (agent : Option AgentFacts)
    (machine : Option Machine) → AreFew (outputs_of (outcome_at now points heard agent machine))
outcome-few now points heard None machine = no-outputs
outcome-few now points heard (Some agent) None = no-outputs
outcome-few now points heard (Some agent) (Some machine) =
    let small = step-small now points heard (outcome_from agent.role agent.knows machine []) in
    record { few = small.few; short = small.short (All-nil AsksShortly) }

pub input-few : (cluster : Cluster) (member : Member) (heard : Option Heard)
    → AreFew (outputs_of (outcome_of_heard cluster member heard))
input-few cluster member None = no-outputs
input-few cluster member (Some heard) = outcome-few (moment_of cluster) (points_of cluster member) heard
    (agent_at cluster.agents member.id.number) (machine_of cluster member)

-- an agent acts on an input that no message brings
own-input-took : (cluster acting after : Cluster) (member : Member) (input : AgentEvent) (heard : Heard)
    (cost : ℕ) (outputs : List Output) (had mid has : Listed) → hearing_cost + outputs_cost ≤ cost
    → Emits cluster acting had mid (event_of cluster (kinds.Agent input)) hearing_cost
    → outputs ≡ outputs_of (outcome_of cluster member heard)
    → Emits acting after mid has (each (output_events member no_message) acting outputs) outputs_cost
    → Emits cluster after had has (own_input_events cluster member input heard) cost
own-input-took cluster acting after member input heard cost outputs had mid has fits one is rest =
    Emits-then cluster acting after had mid has (event_of cluster (kinds.Agent input))
    (λ later. input_events later member no_message (outcome_of cluster member heard)) hearing_cost outputs_cost cost one
    (subst (λ (os : List Output).
    Emits acting after mid has (each (output_events member no_message) acting os) outputs_cost)
    is rest)
    fits

-- an agent is woken, and acts
pub awaken-took : (cluster rousing after : Cluster) (member : Member) (outputs : List Output) (had mid has : Listed)
    → Emits cluster rousing had mid (event_of cluster (kinds.Agent (Woken member))) hearing_cost
    → outputs ≡ outputs_of (outcome_of cluster member Wake)
    → Emits rousing after mid has (each (output_events member no_message) rousing outputs) outputs_cost
    → Emits cluster after had has (wake_events_of cluster member) input_cost
awaken-took cluster rousing after member outputs had mid has one is rest = own-input-took cluster rousing after member
    (Woken member) Wake input_cost outputs had mid has (omega arith) one is rest

-- an agent does what an operator asks
pub operate-took : (cluster obeying after : Cluster) (member : Member) (action : OperatorAction)
    (outputs : List Output) (had mid has : Listed)
    → Emits cluster obeying had mid (event_of cluster (kinds.Agent (Operated member action))) hearing_cost
    → outputs ≡ outputs_of (outcome_of cluster member (HearsOperator action))
    → Emits obeying after mid has (each (output_events member no_message) obeying outputs) outputs_cost
    → Emits cluster after had has (operate_events cluster member action) request_cost
operate-took cluster obeying after member action outputs had mid has one is rest = own-input-took cluster obeying after
    member (Operated member action) (HearsOperator action) request_cost outputs had mid has (omega arith) one is rest

-- an agent is woken that is to be
woken-if : (cluster after : Cluster) (member : Member) (found : Option AgentProcess) (had has : Listed)
    → IsAwake cluster.facts.clock found (standing_of cluster member)
    → Emits cluster after had has (wake_events_of cluster member) input_cost
    → Emits cluster after had has (for_some found (wake_events_if cluster member)) input_cost
woken-if cluster after member None had has awake woken = absurd awake
woken-if cluster after member (Some process) had has awake woken =
    subst (λ (b : Bool). Emits cluster after had has (if b then wake_events_of cluster member else []) input_cost)
    (sym awake) woken

pub wake-took : (cluster after : Cluster) (member : Member) (had has : Listed)
    → WakesAt cluster.facts.clock cluster member
    → Emits cluster after had has (wake_events_of cluster member) input_cost
    → Emits cluster after had has (wake_events cluster member) input_cost
wake-took cluster after member had has awake woken =
    woken-if cluster after member (slice_get cluster.facts.processes member.id.number) had has awake woken

-- an agent is woken that may act, by a script
pub turn-took : (cluster after : Cluster) (member : Member) (process : AgentProcess) (had has : Listed)
    → slice_get cluster.facts.processes member.id.number ≡ Some process
    → may_act process ≡ true → Emits cluster after had has (wake_events_of cluster member) input_cost
    → Emits cluster after had has (turn_events cluster member) input_cost
turn-took cluster after member process had has there ready woken =
    found-took AgentProcess cluster after had has (turn_events_if cluster member)
    (slice_get cluster.facts.processes member.id.number) process input_cost there
    (subst (λ (b : Bool). Emits cluster after had has (if b then wake_events_of cluster member else []) input_cost)
    (sym ready) woken)
