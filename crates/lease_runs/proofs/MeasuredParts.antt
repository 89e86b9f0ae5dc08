-- Each step of a run tells before each feed from when it is measured.
use Rattle.std.proofs.Common.{ℕ, ◌≡◌, refl, ap, ◌∙◌, ◌+◌, ◌++◌, Bool, true, false, cond, List, [], ◌∷◌, slice_get, Option, Some, None}
use Rattle.pat_base.specs.declared.ticks.Ticks.{Ticks}
use Rattle.pat_base.specs.ServerState.{live}
use Rattle.store_keys.specs.declared.txn.Txn.{Txn}
use Rattle.lease_store.specs.Decision.{Decision, Grant, Refusal, decision_on}
use Rattle.pg_model.specs.declared.answers.Streamed.{Streamed}
use Rattle.pg_model.specs.declared.answers.Streamed.TheVariants as streams
use Rattle.pg_model.specs.Facts.{ServerFacts, is_replica}
use Rattle.pg_cluster.specs.Servers.{news_at}
use Rattle.event_book.specs.declared.agent_process.AgentProcess.{AgentProcess}
use Rattle.event_book.specs.declared.event.AgentEvent.TheVariants as agents
use Rattle.event_book.specs.declared.event.Event.{Event}
use Rattle.event_book.specs.declared.event.EventKind.{EventKind}
use Rattle.event_book.specs.declared.event.EventKind.TheVariants as kinds
use Rattle.event_book.specs.declared.event.MessageEvent.TheVariants as messages
use Rattle.event_book.specs.declared.event.ServerEvent.TheVariants as servers
use Rattle.event_book.specs.declared.event.StoreEvent.TheVariants as stores
use Rattle.event_book.specs.declared.event.WatchdogEvent.TheVariants as watchdogs
use Rattle.event_book.specs.declared.link.LinkEnd.{LinkEnd}
use Rattle.event_book.specs.declared.link.LinkEnd.TheVariants as ends
use Rattle.event_book.specs.declared.member.Member.{Member}
use Rattle.event_book.specs.declared.message.Body.{Body}
use Rattle.event_book.specs.declared.message.Body.TheVariants as bodies
use Rattle.event_book.specs.declared.message.Message.{Message}
use Rattle.event_book.specs.Members.{server_of}
use Rattle.event_book.specs.declared.event.Note.TheVariants.{AlreadyRunning}
use Rattle.agent_model.specs.declared.machine.Machine.{Machine}
use Rattle.cluster_model.specs.Machines.{machine_of}
use Rattle.event_book.specs.Flight.{InFlightFacts, in_flight}
use Rattle.script_model.specs.declared.line.Command.{Command}
use Rattle.cluster_model.specs.Acknowledging.{acknowledge_kinds}
use Rattle.cluster_model.specs.Cluster.{agent_facts_reached, agent_facts_reached_at, cluster_after}
use Rattle.cluster_model.specs.Commands.{disarm_at_start, disarm_if, disarm_of, kinds_of, agent_started}
use Rattle.cluster_model.specs.Losing.{beginning_kinds, loss_if}
use Rattle.cluster_model.specs.Messages.{answer_events_by, answer_message, decision_body, decision_kind, send_events, arrival_events_at, decision_events}
use Rattle.cluster_model.specs.Next.{acknowledge_events, command_kind, confirm_events, promote_events, receive_events, receive_events_at_most, agent_start_events}
use Rattle.cluster_model.specs.Parts.{event_of, events_of, for_some}
use Rattle.cluster_model.specs.ServerCommands.{promote_kinds}
use Rattle.cluster_model.specs.State.{Cluster}
use Rattle.cluster_model.specs.Streaming.{confirm_of, source_of, unconfirmed_end}
use Rattle.cluster_model.specs.Ticking.{tick_events}
use Rattle.event_book.specs.Premises.{Moments, moments_after}
use Rattle.event_book.specs.Kinds.{AllAre}
use Rattle.lease_parts.specs.Asides.{IsAsideIn, IsQuiet}
use Rattle.lease_parts.proofs.Commands.{command-quiet}
use Rattle.cluster_model.proofs.Commanding.{each-command-holds}
use Rattle.cluster_model.proofs.Founds.{holds-unless}
use Rattle.cluster_model.proofs.Lists.{AllKinds, HoldsIf, all-kinds, all-more, one-kind}
use Rattle.lease_runs.proofs.AskedMore.{unheard-one}
use Rattle.lease_runs.proofs.AskedOnce.{neutral-one, started-one}
use Rattle.lease_runs.proofs.Measuring.{IsPlain, Knows, Measures, Tells, tells-none, tells-send, told-for_some, told-plain, told-then}
use Rattle.lease_parts.proofs.Streams.{acknowledge-quiet, confirm-quiet}
use Rattle.lease_parts.proofs.Ticks.{IsBeside, Rest, rest-beside}

-- ---- what feeds, sends and grants nothing
aside-plain : (May : ℕ → Type 0) (kind : EventKind) → IsAsideIn May kind → IsPlain kind
aside-plain May (kinds.Watchdog (watchdogs.Armed member until answer)) is = absurd is
aside-plain May (kinds.Watchdog (watchdogs.Fed member until basis)) is = absurd is
aside-plain May (kinds.Watchdog (watchdogs.HoldTaken member until from incarnation sequence)) is = absurd is
aside-plain May (kinds.Message (messages.Sent number message)) is = absurd is
aside-plain May (kinds.Message (messages.Delivered number)) is = absurd is
aside-plain May (kinds.Agent (agents.Woken member)) is = absurd is
aside-plain May (kinds.Agent (agents.Operated member action)) is = absurd is
aside-plain May (kinds.Agent (agents.Started member incarnation)) is = absurd is
aside-plain May (kinds.Store (stores.Granted number by txn standbys)) is = absurd is
aside-plain May _ is = tt

quiet-plain : (kind : EventKind) → IsQuiet kind → IsPlain kind
quiet-plain (kinds.Watchdog happening) is = absurd is
quiet-plain (kinds.Message happening) is = absurd is
quiet-plain (kinds.Agent (agents.Woken member)) is = absurd is
quiet-plain (kinds.Agent (agents.Operated member action)) is = absurd is
quiet-plain (kinds.Agent (agents.Started member incarnation)) is = absurd is
quiet-plain (kinds.Store (stores.Granted number by txn standbys)) is = absurd is
quiet-plain _ is = tt

-- what holds of more kinds holds of the one that is found, if one is
pub holds-more : (P Q : EventKind → Type 0) (found : Option EventKind)
    → ((kind : EventKind) → P kind → Q kind) → HoldsIf P found → HoldsIf Q found
holds-more P Q None more is = tt
holds-more P Q (Some kind) more is = more kind is

beside-plain : (May : ℕ → Type 0) (events : List Event) → AllAre (IsBeside May) events → AllAre IsPlain events
beside-plain May [] all = tt
beside-plain May (event ∷ events) all = (aside-plain May event.kind all.0.0, beside-plain May events all.1)

plain-if : (cluster : Cluster) (found : Option EventKind) → HoldsIf IsPlain found
    → AllAre IsPlain (events_of cluster (kinds_of found))
plain-if cluster found is = all-kinds IsPlain cluster (kinds_of found) (one-kind IsPlain found is)

-- ---- a tick
pub tells-tick : Tells tick_events
tells-tick moments cluster knows = told-plain moments cluster (tick_events cluster)
    (tt, beside-plain (λ n. Unit {0}) (Rest cluster) (rest-beside (λ n. Unit {0}) cluster (λ n lives. tt))) knows

-- ---- streams
confirms-quiet : (cluster : Cluster) (member from : Member) → AllAre IsQuiet (confirm_events cluster member from)
confirms-quiet cluster member from =
    let end = unconfirmed_end member (slice_get cluster.facts.servers member.id.number)
    (slice_get cluster.facts.servers from.id.number) in
    all-kinds IsQuiet cluster (kinds_of (confirm_of member from end))
    (one-kind IsQuiet (confirm_of member from end) (confirm-quiet member from end))

receive-quiet : (cluster : Cluster) (member from : Member) (news : Option Streamed)
    → AllAre IsQuiet (receive_events cluster member from news)
receive-quiet cluster member from None = confirms-quiet cluster member from
receive-quiet cluster member from (Some streams.NotConnected) = tt
receive-quiet cluster member from (Some (streams.Diverged at)) = (tt, tt)
receive-quiet cluster member from (Some (streams.Received count)) = (tt, confirms-quiet _ member from)

receives-quiet : (cluster : Cluster) (most : ℕ) (member : Member) (source : Option Member)
    → AllAre IsQuiet
    (for_some source
    (λ from. receive_events cluster member from (news_at cluster.facts.servers member.id.number from.id.number most)))
receives-quiet cluster most member None = tt
receives-quiet cluster most member (Some from) =
    receive-quiet cluster member from (news_at cluster.facts.servers member.id.number from.id.number most)

pub most-quiet : (cluster : Cluster) (most : ℕ) (member : Member)
    → AllAre IsQuiet (receive_events_at_most cluster most member)
most-quiet cluster most member =
    receives-quiet cluster most member (source_of cluster.facts.members cluster.facts.servers cluster.facts.cuts member)

told-quiet : (moments : Moments) (cluster : Cluster) (events : List Event) → AllAre IsQuiet events
    → Knows moments cluster → Measures moments cluster events
told-quiet moments cluster events all knows =
    told-plain moments cluster events (all-more IsQuiet IsPlain events quiet-plain all) knows

pub tells-receive-at-most : (most : ℕ) (member : Member) → Tells (λ cluster. receive_events_at_most cluster most member)
tells-receive-at-most most member moments cluster knows =
    told-quiet moments cluster (receive_events_at_most cluster most member) (most-quiet cluster most member) knows

pub acknowledges-quiet : (cluster : Cluster) (member : Member) → AllAre IsQuiet (acknowledge_events cluster member)
acknowledges-quiet cluster member =
    let found = slice_get cluster.facts.servers member.id.number in
    all-kinds IsQuiet cluster (acknowledge_kinds cluster.facts.servers cluster.facts.members member found)
    (acknowledge-quiet cluster.facts.servers cluster.facts.members member found)

pub tells-acknowledge : (member : Member) → Tells (λ cluster. acknowledge_events cluster member)
tells-acknowledge member moments cluster knows =
    told-quiet moments cluster (acknowledge_events cluster member) (acknowledges-quiet cluster member) knows

-- ---- commands
kind-plain : (cluster : Cluster) (command : Command) → HoldsIf IsPlain (command_kind cluster command)
kind-plain cluster command =
    each-command-holds IsPlain cluster (record { killed = λ m. tt; crashed = λ m. tt }) command
    (λ is. holds-more IsQuiet IsPlain (command_kind cluster command) quiet-plain (command-quiet cluster command is))

pub tells-kind : (command : Command) → Tells (λ cluster. events_of cluster (kinds_of (command_kind cluster command)))
tells-kind command moments cluster knows =
    told-plain moments cluster _ (plain-if cluster (command_kind cluster command) (kind-plain cluster command)) knows

loss-plain : (member : Member) (test : Bool) → AllKinds IsPlain (kinds_of (loss_if member test))
loss-plain member true = (tt, tt)
loss-plain member false = tt

promoted-plain : (member : Member) (acknowledged : List ℕ) (s : ServerFacts) (test : Bool)
    → AllKinds IsPlain
    (cond test
    (kinds.Server (servers.Promoted (server_of member))
    ∷ beginning_kinds member (s.timeline + 1) acknowledged s.log) [])
promoted-plain member acknowledged s true = (tt, (tt, loss-plain member _))
promoted-plain member acknowledged s false = tt

pub tells-promote : (member : Member) → Tells (λ cluster. promote_events cluster member)
tells-promote member moments cluster knows =
    told-for_some moments cluster (slice_get cluster.facts.servers member.id.number) _ knows (λ s is.
    told-plain moments cluster _
    (all-kinds IsPlain cluster (promote_kinds member cluster.facts.acknowledged s)
    (promoted-plain member cluster.facts.acknowledged s (is_replica s.state)))
    knows)

-- what holds of the events at the start of an agent holds of those that it brings
module _ (P : EventKind → Type 0) (member : Member) where
  disarm-holds : (deadline : Option Ticks) → P (kinds.Watchdog (watchdogs.Disarmed member))
      → HoldsIf P (disarm_if member deadline)
  disarm-holds None is = tt
  disarm-holds (Some deadline) is = is

  disarms-hold : (machine : Option Machine) → P (kinds.Watchdog (watchdogs.Disarmed member))
      → HoldsIf P (disarm_of member machine)
  disarms-hold None is = tt
  disarms-hold (Some machine) is =
      holds-unless P (live machine.server.state) _ (disarm-holds machine.watchdog.deadline is)

  starts-by : (test : Bool) (incarnation : ℕ) → P (kinds.Note (AlreadyRunning member))
      → P (kinds.Agent (agents.Started member incarnation))
      → P (cond test (kinds.Note (AlreadyRunning member)) (kinds.Agent (agents.Started member incarnation)))
  starts-by true incarnation runs starts = runs
  starts-by false incarnation runs starts = starts

  pub starts-hold : (process : AgentProcess) (machine : Option Machine) → P (kinds.Note (AlreadyRunning member))
      → P (kinds.Agent (agents.Started member (process.incarnation + 1)))
      → P (kinds.Watchdog (watchdogs.Disarmed member))
      → AllKinds P (agent_started member process ∷ kinds_of (disarm_at_start member process machine))
  starts-hold process machine runs starts disarmed = (
    starts-by process.running (process.incarnation + 1) runs starts,
    one-kind P (disarm_at_start member process machine)
        (holds-unless P process.running (disarm_of member machine) (disarms-hold machine disarmed)),
  )

told-started : (moments : Moments) (cluster : Cluster) (member : Member) (process : AgentProcess)
    → slice_get cluster.facts.processes member.id.number ≡ Some process → Knows moments cluster → (running : Bool)
    → Measures moments cluster
    (event_of cluster
    (cond running (kinds.Note (AlreadyRunning member)) (kinds.Agent (agents.Started member (process.incarnation + 1)))))
told-started moments cluster member process is knows true = told-plain moments cluster _ (tt, tt) knows
told-started moments cluster member process is knows false = record {
  measured = λ since. (tt, tt);
  numbered = (tt, tt);
  decided = (tt, tt);
  asks = started-one moments cluster member process is knows.asks;
}

pub tells-restart : (member : Member) → Tells (λ cluster. agent_start_events cluster member)
tells-restart member moments cluster knows =
    told-for_some moments cluster (slice_get cluster.facts.processes member.id.number) _ knows (λ process is.
    let machine = machine_of cluster member in
    let first : EventKind = agent_started member process in
    let rest : List EventKind = kinds_of (disarm_at_start member process machine) in
    told-then moments cluster (event_of cluster first) (events_of (cluster_after cluster first) rest) knows
    (told-started moments cluster member process is knows process.running)
    (λ later. told-plain (moments_after moments first) (cluster_after cluster first) _
    (all-kinds IsPlain (cluster_after cluster first) rest
    (one-kind IsPlain (disarm_at_start member process machine)
    (holds-unless IsPlain process.running (disarm_of member machine) (disarms-hold IsPlain member machine tt))))
    later))

-- ---- the key store
told-event : (moments : Moments) (cluster : Cluster) (kind : EventKind) (more : Cluster → List Event)
    → IsPlain kind → Knows moments cluster → Tells more
    → Measures moments cluster (event_of cluster kind ++ more (cluster_after cluster kind))
told-event moments cluster kind more is knows rest =
    told-then moments cluster (event_of cluster kind) (more (cluster_after cluster kind)) knows
    (told-plain moments cluster (event_of cluster kind) (is, tt) knows)
    (λ later. rest _ (cluster_after cluster kind) later)

told-granted : (moments : Moments) (cluster : Cluster) (number : ℕ) (by : Member) (txn : Txn)
    (more : Cluster → List Event) → decision_on cluster.facts.keys cluster.facts.clock txn ≡ Grant
    → Knows moments cluster → Tells more
    → Measures moments cluster
    (event_of cluster (decision_kind cluster.facts.members number by txn Grant)
    ++ more (cluster_after cluster (decision_kind cluster.facts.members number by txn Grant)))
told-granted moments cluster number by txn more granted knows rest =
    let kind : EventKind = decision_kind cluster.facts.members number by txn Grant in
    told-then moments cluster (event_of cluster kind) (more (cluster_after cluster kind)) knows
    (record {
      measured = λ since. (tt, tt);
      numbered = (tt, tt);
      decided = (granted, tt);
      asks = neutral-one moments cluster kind tt knows.sending.order knows.asks;
    }) (λ later. rest _ (cluster_after cluster kind) later)

told-decision : (moments : Moments) (cluster : Cluster) (number : ℕ) (message : Message) (txn : Txn)
    (decision : Decision) (from : LinkEnd) → decision_on cluster.facts.keys cluster.facts.clock txn ≡ decision
    → Knows moments cluster
    → Measures moments cluster (decision_events cluster number message txn decision from)
told-decision moments cluster number message txn decision ends.Store is knows = tells-none moments cluster knows
told-decision moments cluster number message txn Grant (ends.Member by) is knows =
    let answer : Message = answer_message message (decision_body number txn Grant) in
    told-granted moments cluster number by txn (λ later. send_events later answer) is knows
    (tells-send answer (refl, refl))
told-decision moments cluster number message txn (Refusal key found) (ends.Member by) is knows =
    let answer : Message = answer_message message (decision_body number txn (Refusal key found)) in
    told-event moments cluster (decision_kind cluster.facts.members number by txn (Refusal key found))
    (λ later. send_events later answer) tt knows (tells-send answer (refl, refl))

tells-answer : (number : ℕ) (message : Message) (body : Body)
    → Tells (λ cluster. answer_events_by cluster number message body)
tells-answer number message bodies.Read moments cluster knows =
    tells-send (answer_message message bodies.Snapshot) (refl, refl) moments cluster knows
tells-answer number message (bodies.Request txn) moments cluster knows = told-decision moments cluster number
    message txn (decision_on cluster.facts.keys cluster.facts.clock txn) message.from refl knows
tells-answer number message _ moments cluster knows = tells-none moments cluster knows

pub told-store : (moments : Moments) (cluster : Cluster) (number : ℕ) (message : InFlightFacts)
    → Knows moments cluster → in_flight cluster.facts.flight number ≡ Some message → message.message.to ≡ ends.Store
    → Measures moments cluster (arrival_events_at cluster number message ends.Store)
told-store moments cluster number message knows found to =
    let kind : EventKind = kinds.Message (messages.Delivered number) in
    told-then moments cluster (event_of cluster kind)
    (answer_events_by (cluster_after cluster kind) number message.message message.message.body) knows
    (record {
      measured = λ since. (tt, tt);
      numbered = (tt, tt);
      decided = (tt, tt);
      asks = unheard-one moments cluster (Some number) kind refl
          (ap (agent_facts_reached cluster) found ∙ ap (agent_facts_reached_at cluster message) to)
          knows.sending.order knows.asks;
    })
    (λ later. tells-answer number message.message message.message.body _ (cluster_after cluster kind) later)
