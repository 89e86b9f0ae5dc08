-- What outputs of a leader leave of the cluster: whom its commits wait for, a feed, and an answer.
use Rattle.std.proofs.Common.{ℕ, ◌≡◌, ◌≢◌, ◌+◌, ◌==◌, nat_le, Bool, true, false, cond, List, [], length, Option, Some, None, option_map, option_and_then, slice_get, refl, sym, ap, subst, ◌∙◌, arith}
use Rattle.pat_base.specs.declared.server_state.Required.{Required}
use Rattle.pat_base.specs.declared.server_state.State.{State}
use Rattle.pat_base.specs.declared.ticks.Ticks.{Ticks}
use Rattle.pat_base.specs.Changes.{with_changed}
use Rattle.pg_model.specs.Facts.{ServerFacts}
use Rattle.pg_model.specs.Replication.{requiring}
use Rattle.event_book.specs.declared.event.EventKind.{EventKind}
use Rattle.event_book.specs.declared.event.EventKind.TheVariants as kinds
use Rattle.event_book.specs.declared.event.ReplicationEvent.TheVariants as replications
use Rattle.event_book.specs.declared.event.WatchdogEvent.TheVariants as watchdogs
use Rattle.event_book.specs.declared.link.LinkEnd.TheVariants as ends
use Rattle.event_book.specs.declared.member.Member.{Member}
use Rattle.event_book.specs.declared.message.Body.{Body}
use Rattle.event_book.specs.declared.message.Body.TheVariants as bodies
use Rattle.event_book.specs.declared.message.Message.{Message}
use Rattle.event_book.specs.declared.reason.Basis.TheVariants as bases
use Rattle.event_book.specs.Flight.{Flight, InFlightFacts, in_flight, launched}
use Rattle.event_book.specs.Members.{server_of}
use Rattle.cluster_model.specs.Limits.{most_in_flight}
use Rattle.agent_model.specs.declared.output.Output.{Output}
use Rattle.agent_model.specs.declared.output.Output.TheVariants as outputs
use Rattle.agent_model.specs.declared.output.Feeding.TheVariants as feedings
use Rattle.agent_model.specs.declared.output.Outgoing.TheVariants as outgoing
use Rattle.agent_model.specs.Acting.{fed_until}
use Rattle.cluster_model.specs.declared.heard_message.HeardMessage.{HeardMessage}
use Rattle.cluster_model.specs.Cluster.{cluster_after, cluster_over}
use Rattle.cluster_model.specs.Commands.{kinds_of}
use Rattle.cluster_model.specs.Messages.{agent_message, lost_at_once, output_events, replying_events, server_order_events}
use Rattle.cluster_model.specs.Orders.{require_of, required_names, is_same_required, server_at}
use Rattle.cluster_model.specs.Parts.{events_of}
use Rattle.cluster_model.specs.State.{Cluster}
use Rattle.cluster_model.proofs.Places.{get-changed, get-here}
use Rattle.lease_model.proofs.Tools.{none-some, put-here, put-there, some-is}
use Rattle.lease_book.specs.Flights.{Rises}
use Rattle.lease_book.proofs.Entries.{in-with, in-without, rises-with}
use Rattle.leading_law.specs.Leading.{IsAnswer}
use Rattle.leading_law.specs.OwnInputs.{AsksNothing, IsGuardedSo, IsUntouched, SendsNothing, SendsOne, deadline_fed}
use Rattle.leading_law.proofs.Sending.{Next, Over, over-one}

-- ---- what an output leaves that sends nothing
pub record IsSame (n : ℕ) (before after : Cluster) : Type 0 where
  pub untouched : IsUntouched n before after
  pub guards : IsGuardedSo n before after
  pub silent : SendsNothing before after
  pub agents : after.agents ≡ before.agents

same-self : (n : ℕ) (cluster : Cluster) → IsSame n cluster cluster
same-self n cluster = record {
  untouched =
      record { clock = refl; keys = refl; members = refl; cuts = refl; processes = refl; hold = refl; state = refl };
  guards = record { deadline = refl; basis = refl };
  silent = record { flight = refl; sent = refl };
  agents = refl;
}

abbrev StateOf : ℕ → List ServerFacts → Option State
StateOf n known = option_map (λ (s : ServerFacts). s.state) (slice_get known n)

mapped : (found : Option ServerFacts) (change : ServerFacts → ServerFacts)
    → ((s : ServerFacts) → (change s).state ≡ s.state)
    → option_map (λ (s : ServerFacts). s.state) (option_map change found)
    ≡ option_map (λ (s : ServerFacts). s.state) found
mapped None change same = refl
mapped (Some s) change same = ap Some (same s)

either : (n : ℕ) (known : List ServerFacts) (change : ServerFacts → ServerFacts) (here : Bool)
    → ((s : ServerFacts) → (change s).state ≡ s.state)
    → option_map (λ (s : ServerFacts). s.state) (cond here (option_map change (slice_get known n)) (slice_get known n))
    ≡ StateOf n known
either n known change true same = mapped (slice_get known n) change same
either n known change false same = refl

state-kept : (n : ℕ) (known : List ServerFacts) (k : ℕ) (change : ServerFacts → ServerFacts)
    → ((s : ServerFacts) → (change s).state ≡ s.state) → StateOf n (with_changed known k change) ≡ StateOf n known
state-kept n known k change same =
    ap (option_map (λ (s : ServerFacts). s.state)) (get-changed known k n change) ∙ either n known change (n == k) same

-- commits wait for others
abbrev pub Required_at : Cluster → Member → Required → Cluster
Required_at cluster member required =
    cluster_over cluster (server_order_events cluster member (require_of cluster.facts.members member required))

required-set : (n : ℕ) (cluster : Cluster) (member : Member) (required : Required) (same : Bool)
    (kind : Option EventKind)
    → kind
    ≡ cond same None
    (Some (kinds.Replication (replications.RequiredSet (server_of member) required
    (required_names cluster.facts.members required))))
    → IsSame n cluster (cluster_over cluster (events_of cluster (kinds_of kind)))
required-set n cluster member required true kind is =
    subst (λ (k : Option EventKind). IsSame n cluster (cluster_over cluster (events_of cluster (kinds_of k))))
    (sym is) (same-self n cluster)
required-set n cluster member required false kind is =
    subst (λ (k : Option EventKind). IsSame n cluster (cluster_over cluster (events_of cluster (kinds_of k))))
    (sym is) (record {
      untouched = record {
        clock = refl;
        keys = refl;
        members = refl;
        cuts = refl;
        processes = refl;
        hold = refl;
        state = state-kept n cluster.facts.servers member.id.number (requiring required) (λ s. refl);
      };
      guards = record { deadline = refl; basis = refl };
      silent = record { flight = refl; sent = refl };
      agents = refl;
    })

required-by : (n : ℕ) (cluster : Cluster) (member : Member) (required : Required) (found : Option ServerFacts)
    → IsSame n cluster
    (cluster_over cluster
    (events_of cluster (kinds_of (option_and_then (require_of cluster.facts.members member required) found))))
required-by n cluster member required None = same-self n cluster
required-by n cluster member required (Some s) = required-set n cluster member required
    (is_same_required s.required required) (require_of cluster.facts.members member required s) refl

pub required-same : (n : ℕ) (cluster : Cluster) (member : Member) (required : Required)
    → IsSame n cluster (Required_at cluster member required)
required-same n cluster member required = required-by n cluster member required (server_at cluster member)

-- its watchdog gets this deadline, if it gets one
abbrev pub FedAt : Member → HeardMessage → Cluster → Option Ticks → Cluster
FedAt member said cluster None = cluster
FedAt member said cluster (Some until) =
    cluster_after (cluster_after cluster (kinds.Watchdog (watchdogs.Measured member said.sent)))
    (kinds.Watchdog (watchdogs.Fed member until (bases.Grant said.number)))

pub record IsFed (n : ℕ) (until : Option Ticks) (before after : Cluster) : Type 0 where
  pub untouched : IsUntouched n before after
  pub silent : SendsNothing before after
  pub agents : after.agents ≡ before.agents
  pub deadline : slice_get after.facts.deadlines n ≡ deadline_fed until (slice_get before.facts.deadlines n)

pub fed-at : (member : Member) (said : HeardMessage) (cluster : Cluster) (until : Option Ticks)
    → IsFed member.id.number until cluster (FedAt member said cluster until)
fed-at member said cluster None = record {
  untouched =
      record { clock = refl; keys = refl; members = refl; cuts = refl; processes = refl; hold = refl; state = refl };
  silent = record { flight = refl; sent = refl };
  agents = refl;
  deadline = refl;
}
fed-at member said cluster (Some until) = record {
  untouched =
      record { clock = refl; keys = refl; members = refl; cuts = refl; processes = refl; hold = refl; state = refl };
  silent = record { flight = refl; sent = refl };
  agents = refl;
  deadline = get-here cluster.facts.deadlines member.id.number _;
}

pub over-fed : (member : Member) (said : HeardMessage) (cluster : Cluster) (until : Option Ticks)
    → Over member said cluster (fed_until until []) ≡ FedAt member said cluster until
over-fed member said cluster None = refl
over-fed member said cluster (Some until) = over-one member said cluster (outputs.Watchdog (feedings.Fed until))

pub untouched-then : (n : ℕ) (first second third : Cluster) → IsUntouched n first second
    → IsUntouched n second third → IsUntouched n first third
untouched-then n first second third a b = record {
  clock = b.clock ∙ a.clock;
  keys = b.keys ∙ a.keys;
  members = b.members ∙ a.members;
  cuts = b.cuts ∙ a.cuts;
  processes = b.processes ∙ a.processes;
  hold = b.hold ∙ a.hold;
  state = b.state ∙ a.state;
}

pub sent-untouched : (n : ℕ) (cluster : Cluster) (message : Message) → IsUntouched n cluster (Next cluster message)
sent-untouched n cluster message =
    record { clock = refl; keys = refl; members = refl; cuts = refl; processes = refl; hold = refl; state = refl }

-- one message behind what sends nothing
pub one-behind : (message : Message) (first second third : Cluster) → SendsNothing first second
    → second.facts.clock ≡ first.facts.clock → SendsOne message second third → SendsOne message first third
one-behind message first second third silent clock one = record {
  carried = one.carried;
  is = subst (λ (n : ℕ). in_flight third.facts.flight (n + 1) ≡ Some one.carried) silent.sent one.is;
  message_is = one.message_is;
  at = one.at ∙ clock;
  others = λ i other. one.others i (subst (λ (n : ℕ). i ≢ n + 1) (sym silent.sent) other)
      ∙ ap (λ (f : Flight). in_flight f i) silent.flight;
  sent = one.sent ∙ ap (λ (n : ℕ). n + 1) silent.sent;
}

-- ---- an answer to another member
pub record IsAnswering (n : ℕ) (before after : Cluster) : Type 0 where
  pub untouched : IsUntouched n before after
  pub guards : IsGuardedSo n before after
  pub silent : AsksNothing before after
  pub agents : after.agents ≡ before.agents

answering-none : (n : ℕ) (cluster : Cluster)
    → ((carried : InFlightFacts) → in_flight cluster.facts.flight (cluster.facts.sent + 1) ≡ Some carried → ⊥)
    → IsAnswering n cluster cluster
answering-none n cluster fresh = record {
  untouched =
      record { clock = refl; keys = refl; members = refl; cuts = refl; processes = refl; hold = refl; state = refl };
  guards = record { deadline = refl; basis = refl };
  silent = record { others = λ i other. refl; answers = λ carried is. absurd (fresh carried is) };
  agents = refl;
}

answering-sent : (n : ℕ) (cluster : Cluster) (message : Message) (test : Bool) → (message.to ≡ ends.Store → ⊥)
    → (message.from ≡ ends.Store → ⊥) → Rises 0 cluster.facts.flight
    → IsAnswering n cluster
    (cluster_over (Next cluster message)
    (events_of (Next cluster message) (lost_at_once test (cluster.facts.sent + 1))))
answering-sent n cluster message true apart member rises =
    let number : ℕ = cluster.facts.sent + 1 in
    let carried : InFlightFacts = launched cluster.facts.clock cluster.facts.keys message in
    let without = λ (i : ℕ). in-without 0 (Next cluster message).facts.flight number i
    (rises-with 0 cluster.facts.flight number carried (omega arith) rises) in
    record {
      untouched = record {
        clock = refl;
        keys = refl;
        members = refl;
        cuts = refl;
        processes = refl;
        hold = refl;
        state = refl;
      };
      guards = record { deadline = refl; basis = refl };
      silent = record {
        others = λ i other. without i ∙ put-there (in_flight (Next cluster message).facts.flight) number None i other
            ∙ in-with cluster.facts.flight number carried i
            ∙ put-there (in_flight cluster.facts.flight) number (Some carried) i other;
        answers = λ one is.
            absurd (none-some one
            (sym (without number ∙ put-here (in_flight (Next cluster message).facts.flight) number None) ∙ is));
      };
      agents = refl;
    }
answering-sent n cluster message false apart member rises =
    let number : ℕ = cluster.facts.sent + 1 in
    let carried : InFlightFacts = launched cluster.facts.clock cluster.facts.keys message in
    record {
      untouched = record {
        clock = refl;
        keys = refl;
        members = refl;
        cuts = refl;
        processes = refl;
        hold = refl;
        state = refl;
      };
      guards = record { deadline = refl; basis = refl };
      silent = record {
        others = λ i other. in-with cluster.facts.flight number carried i
            ∙ put-there (in_flight cluster.facts.flight) number (Some carried) i other;
        answers = λ one is.
            let same = some-is carried one
            (sym (in-with cluster.facts.flight number carried number
            ∙ put-here (in_flight cluster.facts.flight) number (Some carried))
            ∙ is) in (
              λ to. apart (ap (λ (c : InFlightFacts). c.message.to) same ∙ to),
              λ from. member (ap (λ (c : InFlightFacts). c.message.from) same ∙ from),
            );
      };
      agents = refl;
    }

member-end : (peer : Member) → ends.Member peer ≡ ends.Store → ⊥
member-end peer e = cc

answering-by : (n : ℕ) (member : Member) (cluster : Cluster) (incarnation sequence : ℕ) (body : Body)
    (found : Option Member) → Rises 0 cluster.facts.flight
    → ((carried : InFlightFacts) → in_flight cluster.facts.flight (cluster.facts.sent + 1) ≡ Some carried → ⊥)
    → IsAnswering n cluster
    (cluster_over cluster
    (replying_events cluster member (option_map (λ (peer : Member). ends.Member peer) found) incarnation sequence body))
answering-by n member cluster incarnation sequence body None rises fresh = answering-none n cluster fresh
answering-by n member cluster incarnation sequence body (Some peer) rises fresh =
    answering-sent n cluster (agent_message member (ends.Member peer) incarnation sequence body)
    (nat_le most_in_flight (length cluster.facts.flight)) (member-end peer) (member-end member) rises

pub answering : (n : ℕ) (member : Member) (said : HeardMessage) (cluster : Cluster) (output : Output)
    → IsAnswer output → Rises 0 cluster.facts.flight
    → ((carried : InFlightFacts) → in_flight cluster.facts.flight (cluster.facts.sent + 1) ≡ Some carried → ⊥)
    → IsAnswering n cluster (cluster_over cluster (output_events member said cluster output))
answering n member said cluster (outputs.Message (outgoing.Answer to incarnation sequence answer)) is rises fresh =
    answering-by n member
    cluster incarnation sequence (bodies.Answer answer) (slice_get cluster.facts.members to.number) rises fresh
answering n member said cluster (outputs.Message (outgoing.FailsafeAnswer to incarnation sequence accepted)) is rises
    fresh =
    answering-by n member cluster incarnation sequence (bodies.FailsafeAnswer accepted)
    (slice_get cluster.facts.members to.number) rises fresh
answering n member said cluster _ is rises fresh = absurd is
