-- Each part of a step keeps it, and so does each run.
use Rattle.std.proofs.Common.{ℕ, ◌≡◌, ◌≤◌, ◌+◌, ◌++◌, Bool, true, false, List, [], ◌∷◌, length, map, slice_get, Option, Some, None, option_map, refl, sym, ap, subst, ◌∙◌}
use Rattle.std.specs.Prelude.{replicate}
use Rattle.std.proofs.lemmas.List.{length-replicate}
use Rattle.pat_base.specs.declared.member_id.MemberId.{MemberId}
use Rattle.pat_base.specs.declared.member_id.TheConstants.{MOST_MEMBERS}
use Rattle.pat_base.specs.declared.ticks.Ticks.{Ticks}
use Rattle.store_keys.specs.declared.action.OperatorAction.{OperatorAction}
use Rattle.wal_model.specs.declared.entry.Entry.{Entry}
use Rattle.pg_cluster.specs.Servers.{entry_for}
use Rattle.script_model.specs.declared.line.Command.{Command}
use Rattle.script_model.specs.Script.{HeadText, IsHead, names_of}
use Rattle.event_book.specs.declared.agent_process.AgentProcess.{AgentProcess}
use Rattle.event_book.specs.declared.event.AgentEvent.TheVariants as agents
use Rattle.event_book.specs.declared.event.Event.{Event}
use Rattle.event_book.specs.declared.event.EventKind.{EventKind}
use Rattle.event_book.specs.declared.event.EventKind.TheVariants as kinds
use Rattle.event_book.specs.declared.event.MessageEvent.TheVariants as messages
use Rattle.event_book.specs.declared.event.ServerEvent.TheVariants as servers
use Rattle.event_book.specs.declared.event.StoreEvent.TheVariants as stores
use Rattle.event_book.specs.declared.event.WatchdogEvent.TheVariants as watchdogs
use Rattle.event_book.specs.declared.event.Note.{Note}
use Rattle.event_book.specs.declared.link.LinkEnd.TheVariants as ends
use Rattle.event_book.specs.declared.member.Member.{Member}
use Rattle.event_book.specs.Flight.{InFlightFacts, in_flight}
use Rattle.event_book.specs.Kinds.{AllAre}
use Rattle.agent_model.specs.declared.heard.Heard.{Heard}
use Rattle.agent_model.specs.declared.heard.Heard.TheVariants as heards
use Rattle.agent_model.specs.Agents.{AgentFacts, Outcome}
use Rattle.cluster_model.specs.declared.step.Step.{Step}
use Rattle.cluster_model.specs.Cluster.{agent_facts_reached, agent_facts_reached_at, agent_facts_with, cluster_after, cluster_over}
use Rattle.cluster_model.specs.Commands.{kinds_of}
use Rattle.cluster_model.specs.Hearing.{heard_from}
use Rattle.cluster_model.specs.Inputs.{outcome_of, outcome_of_heard}
use Rattle.cluster_model.specs.Messages.{arrival_events_at, hear_events, heard_message, input_events, no_message, operate_events, wake_events_of}
use Rattle.cluster_model.specs.Next.{acknowledge_events, agent_start_events, command_kind, declared, promote_events, receive_events_at_most, run_events}
use Rattle.cluster_model.specs.Parts.{event_of, events_of, for_some}
use Rattle.cluster_model.specs.Requests.{action_of}
use Rattle.cluster_model.specs.ServerCommands.{commit_of}
use Rattle.cluster_model.specs.Starting.{cluster_of}
use Rattle.cluster_model.specs.State.{Cluster}
use Rattle.cluster_model.specs.Ticking.{tick_events}
use Rattle.cluster_model.proofs.Commanding.{command-holds, each-command-holds}
use Rattle.cluster_model.proofs.Lists.{all-kinds, all-more, one-kind}
use Rattle.run_promise.specs.Members.{IsDeclared, declared_members}
use Rattle.run_promise.specs.Parts.{InputsUphold, PartsUphold}
use Rattle.run_promise.specs.Promise.{IsComposable, Upholds}
use Rattle.run_promise.proofs.Members.{declared-in, few-names, numbered}
use Rattle.run_promise.proofs.Walking.{upholds-run}
use Rattle.lease_model.proofs.Tools.{some-is}
use Rattle.lease_parts.specs.Asides.{IsAsideIn}
use Rattle.lease_parts.specs.Waiting.{IsKnownEnd}
use Rattle.lease_parts.proofs.Ticks.{IsBeside, Rest, rest-beside}
use Rattle.lease_inputs.proofs.EveryInput.{unchanged}
use Rattle.lease_owners.specs.Kept.{IsOwned, owners}
use Rattle.lease_owners.specs.Owning.{OwnTheirLeases}
use Rattle.lease_owners.proofs.Agents.{IsStill}
use Rattle.lease_owners.proofs.Arrivals.{arrival-owned}
use Rattle.lease_owners.proofs.First.{owned-first}
use Rattle.lease_owners.proofs.Hearing.{message-own, operated-own, wake-own}
use Rattle.lease_owners.proofs.Inputs.{idle-owned, input-owned}
use Rattle.lease_owners.proofs.Parts.{HoldsOfStreams, acknowledges-hold, promotes-hold, receives-hold, starts-hold}
use Rattle.lease_owners.proofs.Stills.{still-over}

pub composable : (head : HeadText) → IsComposable (owners head)
composable head = record { front = λ front rest meets. tt; now = λ book cluster good. tt }

-- ---- events at which nobody acts
streams-still : HoldsOfStreams IsStill
streams-still = record {
  replicated = λ happening. tt;
  received = λ server from count. tt;
  diverged = λ server from at. tt;
}

aside-still : (kind : EventKind) → IsBeside (λ n. Unit {0}) kind → IsStill kind
aside-still (kinds.Message (messages.Sent number message)) is = absurd is.0
aside-still (kinds.Message (messages.Delivered number)) is = absurd is.0
aside-still (kinds.Store (stores.Granted number by txn standbys)) is = absurd is.0
aside-still (kinds.Agent (agents.Woken by)) is = absurd is.0
aside-still (kinds.Agent (agents.Operated by action)) is = absurd is.0
aside-still _ is = tt

tick-still : (cluster : Cluster) → AllAre IsStill (tick_events cluster)
tick-still cluster = (
  tt,
  all-more (IsBeside (λ n. Unit {0})) IsStill (Rest cluster) aside-still
      (rest-beside (λ n. Unit {0}) cluster (λ n lives. tt)),
)

commit-still : (member : Member) (entry : Option Entry) → IsStill (commit_of member entry)
commit-still member None = tt
commit-still member (Some entry) = tt

command-still : (cluster : Cluster) (command : Command)
    → AllAre IsStill (events_of cluster (kinds_of (command_kind cluster command)))
command-still cluster command =
    all-kinds IsStill cluster (kinds_of (command_kind cluster command))
    (one-kind IsStill (command_kind cluster command)
    (each-command-holds IsStill cluster (record { killed = λ m. tt; crashed = λ m. tt }) command
    (λ is. command-holds IsStill cluster (record {
      suspended = λ m. tt;
      resumed = λ m. tt;
      committed = λ m bytes least.
          commit-still m (entry_for cluster.facts.servers m.id.number (cluster.facts.commits + 1) bytes);
      frozen = λ m. tt;
      thawed = λ m. tt;
      slowed = λ m stop start. tt;
      links = λ change. tt;
    }) command is)))

start-still : (cluster : Cluster) (found : Option Member)
    → AllAre IsStill (for_some found (agent_start_events cluster))
start-still cluster None = tt
start-still cluster (Some member) = starts-hold IsStill member tt (λ incarnation. tt) tt cluster

-- ---- parts at which nobody acts
module _ (head : HeadText) (cluster : Cluster) where
  pub lost-owned : (number : ℕ) → IsOwned head cluster
      → IsOwned head (cluster_over cluster (event_of cluster (kinds.Message (messages.Lost number))))
  lost-owned number good =
      still-over head cluster (event_of cluster (kinds.Message (messages.Lost number))) (tt, tt) good

  pub noted-owned : (note : Note) → IsOwned head cluster
      → IsOwned head (cluster_over cluster (event_of cluster (kinds.Note note)))
  noted-owned note good = still-over head cluster (event_of cluster (kinds.Note note)) (tt, tt) good

  pub tick-owned : IsOwned head cluster → IsOwned head (cluster_over cluster (tick_events cluster))
  tick-owned good = still-over head cluster (tick_events cluster) (tick-still cluster) good

  pub received-owned : (most : ℕ) (member : Member) → IsOwned head cluster
      → IsOwned head (cluster_over cluster (receive_events_at_most cluster most member))
  received-owned most member good =
      still-over head cluster (receive_events_at_most cluster most member)
      (receives-hold IsStill streams-still cluster most member) good

  pub acknowledged-owned : (member : Member) → IsOwned head cluster
      → IsOwned head (cluster_over cluster (acknowledge_events cluster member))
  acknowledged-owned member good =
      still-over head cluster (acknowledge_events cluster member)
      (acknowledges-hold IsStill streams-still cluster member) good

  pub started-owned : (found : Option Member) → IsOwned head cluster
      → IsOwned head (cluster_over cluster (for_some found (agent_start_events cluster)))
  started-owned found good =
      still-over head cluster (for_some found (agent_start_events cluster)) (start-still cluster found) good

  pub promoted-owned : (member : Member) → IsOwned head cluster
      → IsOwned head (cluster_over cluster (promote_events cluster member))
  promoted-owned member good =
      still-over head cluster (promote_events cluster member)
      (promotes-hold IsStill streams-still cluster member tt (λ timeline. tt)) good

  pub commanded-owned : (command : Command) → IsOwned head cluster
      → IsOwned head (cluster_over cluster (events_of cluster (kinds_of (command_kind cluster command))))
  commanded-owned command good =
      still-over head cluster (events_of cluster (kinds_of (command_kind cluster command)))
      (command-still cluster command) good

upheld : (head : HeadText) (book : List Event) (cluster : Cluster) (events : List Event)
    → IsOwned head (cluster_over cluster events) → Upholds (owners head) book cluster events
upheld head book cluster events good = record { inside = λ front rest e meets. tt; behind = λ meets. good }

-- ---- agents
module _ (head : HeadText) (few : length (names_of head) ≤ MOST_MEMBERS) where
  stands-declared : (cluster : Cluster) (member : Member) → IsOwned head cluster → IsDeclared head member
      → slice_get cluster.facts.members member.id.number ≡ Some member
  stands-declared cluster member good is = ap (λ (l : List Member). slice_get l member.id.number) good.members ∙ is

  pub stand-numbered : (cluster : Cluster) → IsOwned head cluster → (n : ℕ) (member : Member)
      → slice_get cluster.facts.members n ≡ Some member → member.id.number ≡ n
  stand-numbered cluster good n member is =
      numbered head few n member (ap (λ (l : List Member). slice_get l n) (sym good.members) ∙ is)

  -- a message comes to an agent
  module _ (cluster : Cluster) (number : ℕ) (carried : InFlightFacts) (member : Member) (good : IsOwned head cluster)
      (found : in_flight cluster.facts.flight number ≡ Some carried)
      (to : carried.message.to ≡ ends.Member member) where
    abbrev Arrived : EventKind
    Arrived = kinds.Message (messages.Delivered number)

    stands : slice_get cluster.facts.members member.id.number ≡ Some member
    stands = subst (IsKnownEnd cluster.facts.members) to (good.facts.sent number carried found).0.to

    acted : (cluster_after cluster Arrived).agents
        ≡ agent_facts_with cluster.agents member (outcome_of_heard cluster member (heard_from cluster carried))
    acted = ap (agent_facts_reached cluster) found ∙ ap (agent_facts_reached_at cluster carried) to

    heard-by : (heard : Option Heard) → heard_from cluster carried ≡ heard
        → IsOwned head
        (cluster_over (cluster_after cluster Arrived)
        (input_events (cluster_after cluster Arrived) member (heard_message number carried)
        (outcome_of_heard cluster member heard)))
    heard-by None h =
        idle-owned head few cluster good member stands heards.Wake
        (wake-own cluster.facts.keys member.id.number) (Some number) (heard_message number carried) Arrived refl
        (acted ∙ ap (λ (h : Option Heard). agent_facts_with cluster.agents member (outcome_of_heard cluster member h)) h
        ∙ unchanged cluster.agents member.id.number)
    heard-by (Some heard) h =
        input-owned head few cluster good member stands heard
        (message-own cluster.facts.keys member.id.number cluster carried (good.facts.sent number carried found).1
        heard h) (Some number) (heard_message number carried) Arrived refl
        (acted
        ∙ ap (λ (h : Option Heard). agent_facts_with cluster.agents member (outcome_of_heard cluster member h)) h)

    pub hears-owned : IsOwned head (cluster_over cluster (hear_events cluster number carried member))
    hears-owned = heard-by (heard_from cluster carried) refl

  pub wake-owned : (cluster : Cluster) (member : Member) → IsDeclared head member → IsOwned head cluster
      → IsOwned head (cluster_over cluster (wake_events_of cluster member))
  wake-owned cluster member is good =
      input-owned head few cluster good member (stands-declared cluster member good is) heards.Wake
      (wake-own cluster.facts.keys member.id.number) None no_message (kinds.Agent (agents.Woken member)) refl refl

  operated-owned : (cluster : Cluster) (member : Member) (action : OperatorAction) → IsDeclared head member
      → IsOwned head cluster → IsOwned head (cluster_over cluster (operate_events cluster member action))
  operated-owned cluster member action is good =
      input-owned head few cluster good member (stands-declared cluster member good is) (heards.Operated action)
      (operated-own cluster.facts.keys member.id.number action) None no_message
      (kinds.Agent (agents.Operated member action)) refl refl

  inputs : InputsUphold (IsDeclared head) (owners head)
  inputs = record {
    wakes = λ book cluster member process good is found acts. upheld head book cluster (wake_events_of cluster member)
        (wake-owned cluster member is good);
    hears = λ book cluster number carried member good found to opened. upheld head book cluster
        (hear_events cluster number carried member) (hears-owned cluster number carried member good found to);
    operates = λ book cluster member process o request asked good is found acts stands answers. upheld head book cluster
        (operate_events cluster member (action_of o asked))
        (operated-owned cluster member (action_of o asked) is good);
  }

  pub parts-keep : PartsUphold (IsDeclared head) (owners head)
  parts-keep = record {
    members = λ book cluster good. declared-in head few cluster good.members;
    inputs = inputs;
    arrivals = λ book cluster number carried good found to. upheld head book cluster
        (arrival_events_at cluster number carried ends.Store) (arrival-owned head cluster number carried good found to);
    losses =
        λ number book cluster good. upheld head book cluster (event_of cluster (kinds.Message (messages.Lost number)))
        (lost-owned head cluster number good);
    notes = λ note book cluster good. upheld head book cluster (event_of cluster (kinds.Note note))
        (noted-owned head cluster note good);
    ticks = λ book cluster good. upheld head book cluster (tick_events cluster) (tick-owned head cluster good);
    receipts = λ most member book cluster good. upheld head book cluster (receive_events_at_most cluster most member)
        (received-owned head cluster most member good);
    acknowledgements = λ member book cluster good. upheld head book cluster (acknowledge_events cluster member)
        (acknowledged-owned head cluster member good);
    restarts = λ id book cluster good. upheld head book cluster
        (for_some (declared cluster id) (agent_start_events cluster))
        (started-owned head cluster (declared cluster id) good);
    promotions = λ member is book cluster good. upheld head book cluster (promote_events cluster member)
        (promoted-owned head cluster member good);
    commands = λ command book cluster good. upheld head book cluster
        (events_of cluster (kinds_of (command_kind cluster command))) (commanded-owned head cluster command good);
  }

  pub owned-behind : (steps : List Step)
      → IsOwned head (cluster_over (cluster_of head) (run_events (cluster_of head) steps))
  owned-behind steps = (upholds-run (IsDeclared head) (owners head) (composable head) parts-keep steps []
      (cluster_of head) (owned-first head few)).behind tt

pub own-of : (head : HeadText) (cluster : Cluster) → IsOwned head cluster → OwnTheirLeases cluster
own-of head cluster good = record {
  flight = λ i carried is. (good.facts.sent i carried is).1;
  agents = λ m agent is. (good.agents m agent is).1;
}

pub runs-own : (head : HeadText) (steps : List Step) → IsHead head
    → OwnTheirLeases (cluster_over (cluster_of head) (run_events (cluster_of head) steps))
runs-own head steps is = own-of head _ (owned-behind head (few-names head is) steps)
