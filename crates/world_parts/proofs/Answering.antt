-- Requests to agents: what is answered, and what that brings.
use Rattle.std.proofs.Common.{◌≡◌, ℕ, ◌+◌, ◌<◌, true, false, List, [], Option, Some, None, arith, refl, ◌∙◌, ap, sym, subst}
use Rattle.std.specs.Prelude.{option_and_then, option_copied, slice_get}
use Rattle.pat_base.specs.declared.ticks.Ticks.{Ticks}
use Rattle.store_keys.specs.declared.action.OperatorRequest.{OperatorRequest}
use Rattle.cluster_view.specs.declared.view.AgentView.{AgentView}
use Rattle.cluster_view.specs.Snapshots.{SnapshotFacts}
use Rattle.rest_answer.specs.Answers.{Answered, Acts, Replies, answer_by, answer_to}
use Rattle.rest_message.specs.Replies.{ReplyText}
use Rattle.rest_paths.specs.declared.asking.Ask.{Ask}
use Rattle.rest_paths.specs.declared.asking.Ask.TheVariants as asks
use Rattle.rest_paths.specs.declared.change.Change.TheVariants as changes
use Rattle.rest_paths.specs.declared.resource.Page.TheVariants as pages
use Rattle.rest_paths.specs.Asking.{ask_of}
use Rattle.rest_message.specs.Targets.{lag_of, path_of}
use Rattle.rest_message.specs.Requests.{RequestText}
use Rattle.event_book.specs.declared.event.EventKind.{EventKind}
use Rattle.event_book.specs.declared.member.Member.{Member}
use Rattle.event_list.specs.Listed.{Listed}
use Rattle.agent_model.specs.declared.machine.Machine.{Machine}
use Rattle.agent_model.specs.Agents.{AgentFacts, Outcome, outcome_from, most_messages}
use Rattle.agent_model.specs.Views.{shown}
use Rattle.cluster_model.specs.Inputs.{agent_at, moment_of, standing, standing_of}
use Rattle.cluster_model.specs.Machines.{machine_of}
use Rattle.cluster_model.specs.Messages.{answered_events, operate_events, request_events_of}
use Rattle.cluster_model.specs.Parts.{event_of, for_some}
use Rattle.cluster_model.specs.Requests.{answer_at, replying}
use Rattle.cluster_model.specs.State.{Cluster}
use Rattle.world_model.specs.Emits.{Emits}
use Rattle.world_model.specs.Room.{HasNumbers, HasRoom, request_cost}
use Rattle.world_model.proofs.ServerRooms.{All-at}
use Rattle.world_model.proofs.Taking.{Emits-weaker, found-took}

-- the snapshot that an agent shows is read beside the view alone
reply-without-seen : (view : AgentView) (seen : Option SnapshotFacts) (lag : Option (List ℕ)) (body : List ℕ)
    (ask : Ask) → answer_by (record view { seen = None }) seen lag body ask ≡ answer_by view seen lag body ask
reply-without-seen view seen lag body asks.NotFound = refl
reply-without-seen view seen lag body asks.NotAllowed = refl
reply-without-seen view seen lag body (asks.Health endpoint true) = refl
reply-without-seen view seen lag body (asks.Health endpoint false) = refl
reply-without-seen view seen lag body (asks.Page pages.Patroni) = refl
reply-without-seen view seen lag body (asks.Page pages.Cluster) = refl
reply-without-seen view seen lag body (asks.Page pages.History) = refl
reply-without-seen view seen lag body (asks.Page pages.Config) = refl
reply-without-seen view seen lag body (asks.Page pages.Failsafe) = refl
reply-without-seen view seen lag body (asks.Change changes.Switchover) = refl
reply-without-seen view seen lag body (asks.Change changes.DropSwitchover) = refl
reply-without-seen view seen lag body (asks.Change changes.Failover) = refl
reply-without-seen view seen lag body (asks.Change changes.Restart) = refl
reply-without-seen view seen lag body (asks.Change changes.Reinitialize) = refl
reply-without-seen view seen lag body (asks.Change changes.PatchConfiguration) = refl
reply-without-seen view seen lag body (asks.Change changes.ReplaceConfiguration) = refl
reply-without-seen view seen lag body (asks.Change changes.Failsafe) = refl

-- an agent answers by what it shows
answered-same : (view : AgentView) (now : Ticks) (o : Outcome) (asked : RequestText)
    → record view { seen = None } ≡ shown now o → option_copied view.seen ≡ o.knows.seen
    → answer_to view (option_copied view.seen) asked ≡ answer_at now o asked
answered-same view now o asked shows seen =
    sym (reply-without-seen view (option_copied view.seen) (lag_of asked.target) asked.body
    (ask_of asked.verb (path_of asked.target)))
    ∙ ap (λ (v : AgentView). answer_to v (option_copied view.seen) asked) shows
    ∙ ap (λ (s : Option SnapshotFacts). answer_to (shown now o) s asked) seen

no-agent : (agent : AgentFacts) → ◌≡◌ {A = Option AgentFacts} None (Some agent) → ⊥
no-agent agent e = cc

some-agent : (found : Option (Option AgentFacts)) (agent : AgentFacts)
    → option_and_then (λ (a : Option AgentFacts). a) found ≡ Some agent → found ≡ Some (Some agent)
some-agent (Some (Some other)) agent is = ap Some is
some-agent (Some None) agent is = absurd (no-agent agent is)
some-agent None agent is = absurd (no-agent agent is)

-- an agent has a number for its next message
pub numbers-left : (cluster : Cluster) (member : Member) (agent : AgentFacts) → HasRoom cluster request_cost
    → agent_at cluster.agents member.id.number ≡ Some agent → agent.knows.sequence < most_messages
numbers-left cluster member agent room is =
    let has : HasNumbers request_cost (Some agent) = All-at (Option AgentFacts) (HasNumbers request_cost) cluster.agents
    member.id.number (Some agent) room.agents (some-agent (slice_get cluster.agents member.id.number) agent is) in
    omega (arith, has)

-- an agent that stands with its machine shows this, and its next message has this number
pub record IsAsked (cluster : Cluster) (member : Member) (agent : AgentFacts) (machine : Machine)
    (view : AgentView) (request : ℕ) : Type 0 where
  pub agent_is : agent_at cluster.agents member.id.number ≡ Some agent
  pub machine_is : machine_of cluster member ≡ Some machine
  pub shows : record view { seen = None } ≡ shown (moment_of cluster) (outcome_from agent.role agent.knows machine [])
  pub seen : option_copied view.seen ≡ agent.knows.seen
  pub next : request ≡ agent.knows.sequence + 1

-- an agent is found with its machine, and asked by what it shows at this moment
pub found-asked : (cluster : Cluster) (member : Member) (agent : AgentFacts) (machine : Machine)
    (view : AgentView) (request : ℕ) (moment : Ticks) (found : Option AgentFacts) (has : Option Machine)
    → found ≡ agent_at cluster.agents member.id.number → found ≡ Some agent → has ≡ machine_of cluster member
    → has ≡ Some machine → moment.0 ≡ cluster.facts.clock
    → record view { seen = None } ≡ shown moment (outcome_from agent.role agent.knows machine [])
    → option_copied view.seen ≡ agent.knows.seen → request ≡ agent.knows.sequence + 1
    → IsAsked cluster member agent machine view request
found-asked cluster member agent machine view request moment found has at is its there clock shows seen next = record {
  agent_is = sym at ∙ is;
  machine_is = sym its ∙ there;
  shows = shows ∙ ap (λ (t : ℕ). shown (record { 0 = t }) (outcome_from agent.role agent.knows machine [])) clock;
  seen = seen;
  next = next;
}

module _ (cluster : Cluster) (member : Member) (agent : AgentFacts) (machine : Machine) (view : AgentView)
    (request : ℕ) (asks : IsAsked cluster member agent machine view request) where
  abbrev stands : Outcome
  stands = outcome_from agent.role agent.knows machine []

  stands-so : standing_of cluster member ≡ Some stands
  stands-so = ap (λ (a : Option AgentFacts). standing a (machine_of cluster member)) asks.agent_is
      ∙ ap (λ (m : Option Machine). standing (Some agent) m) asks.machine_is

  answered-took : (after : Cluster) (call : RequestText) (answer : Answered) (had has : Listed)
      → answer ≡ answer_to view (option_copied view.seen) call
      → Emits cluster after had has (answered_events cluster member stands answer) request_cost
      → Emits cluster after had has
      (for_some (standing_of cluster member) (request_events_of cluster call member)) request_cost
  answered-took after call answer had has is took =
      found-took Outcome cluster after had has (request_events_of cluster call member)
      (standing_of cluster member) stands request_cost stands-so
      (subst (λ (a : Answered). Emits cluster after had has (answered_events cluster member stands a) request_cost)
      (is ∙ answered-same view (moment_of cluster) stands call asks.shows asks.seen) took)

  -- it does what it is asked
  pub acts-took : (after : Cluster) (call : RequestText) (asked : OperatorRequest) (had has : Listed)
      → Acts asked ≡ answer_to view (option_copied view.seen) call
      → Emits cluster after had has
      (operate_events cluster member (record { request = request; asked = asked })) request_cost
      → Emits cluster after had has
      (for_some (standing_of cluster member) (request_events_of cluster call member)) request_cost
  acts-took after call asked had has is took =
      answered-took after call (Acts asked) had has is
      (subst (λ (n : ℕ).
      Emits cluster after had has (operate_events cluster member (record { request = n; asked = asked })) request_cost)
      asks.next took)

  -- or replies at once
  pub replies-took : (after : Cluster) (call : RequestText) (reply : ReplyText) (kind : EventKind) (had has : Listed)
      → Replies reply ≡ answer_to view (option_copied view.seen) call → kind ≡ replying member reply
      → Emits cluster after had has (event_of cluster kind) 1
      → Emits cluster after had has
      (for_some (standing_of cluster member) (request_events_of cluster call member)) request_cost
  replies-took after call reply kind had has is kind_is took =
      answered-took after call (Replies reply) had has is
      (Emits-weaker cluster after had has (event_of cluster (replying member reply)) 1 request_cost
      (subst (λ (k : EventKind). Emits cluster after had has (event_of cluster k) 1) kind_is took) (omega arith))
