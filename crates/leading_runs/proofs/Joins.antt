-- The parts of a leader's turn join.
use Rattle.std.proofs.Common.{ℕ, ◌≡◌, ◌==◌, ◌&&◌, ◌-◌, ◌/◌, nat_lt, true, false, Option, Some, None, option_map, slice_get, refl, ap, ◌∙◌, arith}
use Rattle.std.specs.Prelude.{is_some}
use Rattle.std.proofs.lemmas.Bool.Decides.{nat_tests}
use Rattle.pat_base.specs.declared.ticks.Ticks.{Ticks}
use Rattle.pat_base.specs.declared.server_state.State.TheVariants as states
use Rattle.store_keys.specs.declared.txn.Txn.{Txn}
use Rattle.lease_store.specs.declared.granted.Granted.{Granted}
use Rattle.leader_key.specs.Watchdog.{is_late}
use Rattle.member_options.specs.declared.member_option.MemberOptions.{MemberOptions}
use Rattle.pg_model.specs.Facts.{ServerFacts}
use Rattle.event_book.specs.declared.link.LinkEnd.TheVariants as ends
use Rattle.event_book.specs.declared.member.Member.{Member}
use Rattle.event_book.specs.declared.message.Body.{Body}
use Rattle.event_book.specs.declared.message.Body.TheVariants as bodies
use Rattle.event_book.specs.declared.message.Message.{Message}
use Rattle.event_book.specs.Flight.{InFlightFacts, grant_for}
use Rattle.agent_model.specs.declared.heard.Heard.{Heard}
use Rattle.agent_model.specs.declared.heard.Heard.TheVariants as heard
use Rattle.agent_model.specs.declared.knowledge.Knowledge.{Knowledge}
use Rattle.agent_model.specs.declared.knowledge.PendingQuestion.{PendingQuestion}
use Rattle.agent_model.specs.declared.knowledge.Question.{Question}
use Rattle.agent_model.specs.declared.knowledge.Question.TheVariants.{Renewing}
use Rattle.agent_model.specs.declared.machine.Machine.{Machine}
use Rattle.agent_model.specs.Acting.{comes_late}
use Rattle.agent_model.specs.Agents.{AgentFacts, Leader}
use Rattle.agent_model.specs.Decisions.{asks_lease}
use Rattle.cluster_model.specs.FailsafeDeadlines.{is_set_by_failsafe}
use Rattle.cluster_model.specs.Hearing.{heard_from, heard_in, snapshot_in}
use Rattle.cluster_model.specs.Inputs.{agent_at, standing}
use Rattle.cluster_model.specs.Machines.{machine_from, machine_of, replication_of}
use Rattle.cluster_model.specs.Messages.{agent_message, answer_message}
use Rattle.cluster_model.specs.State.{Cluster}
use Rattle.cluster_model.specs.Streaming.{source_of}
use Rattle.cluster_model.proofs.Places.{eq-self}
use Rattle.lease_model.specs.Leases.{LeaderKey}
use Rattle.leading_parts.specs.Holding.{ShowsKey}
use Rattle.leading_runs.specs.Joining.{HearsOwnKey, HearsRenewal, StandsLeading}

abbrev Asked : Member → ℕ → ℕ → Body → Message
Asked member incarnation sequence body = agent_message member ends.Store incarnation sequence body

-- what a message says, by its words and its number
says : (cluster : Cluster) (carried : InFlightFacts) (message : Message) → carried.message ≡ message
    → heard_from cluster carried ≡ heard_in cluster carried message.body
says cluster carried message is = ap (λ (m : Message). heard_in cluster carried m.body) is

pub hears-key : (member : Member) (incarnation sequence : ℕ) (key : LeaderKey) (cluster : Cluster)
    (carried : InFlightFacts)
    → carried.message ≡ answer_message (Asked member incarnation sequence bodies.Read) bodies.Snapshot
    → ShowsKey key carried.snapshot → key.holder ≡ member.id.number
    → HearsOwnKey member sequence key cluster carried
hears-key member incarnation sequence key cluster carried is shows holder = record {
  to = ap (λ (m : Message). m.to) is;
  heard = says cluster carried (answer_message (Asked member incarnation sequence bodies.Read) bodies.Snapshot) is
      ∙ ap (λ (n : ℕ). let one : Heard = heard.ReadAnswered n (snapshot_in cluster carried) in Some one)
      (ap (λ (m : Message). m.sequence) is);
  leader = shows.leader;
  there = shows.is;
  mine = ap (λ (n : ℕ). n == member.id.number) (shows.holder ∙ holder) ∙ eq-self member.id.number;
  revision = shows.revision;
}

pub hears-renewal : (member : Member) (incarnation sequence request revision : ℕ) (txn : Txn)
    (waited : PendingQuestion) (knows : Knowledge) (cluster : Cluster) (carried : InFlightFacts)
    → carried.message
    ≡ answer_message (Asked member incarnation sequence (bodies.Request txn)) (bodies.Granted request true)
    → carried.grant ≡ grant_for (bodies.Granted request true) (ends.Member member) revision
    → knows.waited ≡ Some waited → waited.question ≡ Renewing → waited.sequence ≡ sequence
    → knows.who.me.number ≡ member.id.number → HearsRenewal member sequence revision waited knows cluster carried
hears-renewal member incarnation sequence request revision txn waited knows cluster carried is granted some asks number
    me =
    let grant : Granted = record { revision = revision; by = member.id; leased = true } in
    record {
      to = ap (λ (m : Message). m.to) is;
      grant = grant;
      heard = says cluster carried
          (answer_message (Asked member incarnation sequence (bodies.Request txn)) (bodies.Granted request true)) is
          ∙ ap (λ (g : Option Granted).
          option_map (λ (g : Granted). let one : Heard =
          heard.Granted carried.message.sequence g (snapshot_in cluster carried) in one)
          g)
          granted
          ∙ ap (λ (n : ℕ). let one : Heard = heard.Granted n grant (snapshot_in cluster carried) in Some one)
          (ap (λ (m : Message). m.sequence) is);
      awaited = record {
        waited = waited;
        is = some;
        decision = ap (λ (q : Question). asks_lease q && (waited.sequence == sequence)) asks
            ∙ ap (λ (n : ℕ). n == sequence) number ∙ eq-self sequence;
        mine = ap (λ (k : ℕ). member.id.number == k) me ∙ eq-self member.id.number;
      };
      same = refl;
      revision_is = refl;
    }

-- an answer of the same moment isn't late
at-once : (n h : ℕ) → nat_lt h (n - n) ≡ false
at-once n h = grind (arith, nat_tests)

not-late : (margin : Option Ticks) (now ttl : ℕ) → is_late margin now now ttl ≡ false
not-late None now ttl = at-once now (ttl / 2)
not-late (Some margin) now ttl = refl

pub in-time : (now : Ticks) (waited : PendingQuestion) (machine : Machine) → waited.sent ≡ now
    → comes_late now waited machine ≡ false
in-time now waited machine same = ap (λ (t : Ticks). is_late machine.watchdog.margin now.0 t.0 waited.ttl.0) same
    ∙ not-late machine.watchdog.margin now.0 waited.ttl.0

-- a member whose parts are there stands
module _ (member : Member) (cluster : Cluster) (agent : AgentFacts) (server : ServerFacts)
    (options : MemberOptions) (deadline hold : Option Ticks) (revision : ℕ) where
  abbrev From : Option ServerFacts → Option MemberOptions → Option (Option Ticks) → Option (Option Ticks)
      → Option Machine
  From servers options deadlines holds =
      machine_from (is_some (source_of cluster.facts.members cluster.facts.servers cluster.facts.cuts member))
      (is_set_by_failsafe (slice_get cluster.failsafe_deadlines member.id.number))
      (option_map (replication_of cluster.facts.members cluster.facts.servers cluster.facts.cuts member) servers)
      options deadlines holds servers

  pub stands-leading : agent_at cluster.agents member.id.number ≡ Some agent
      → slice_get cluster.facts.servers member.id.number ≡ Some server
      → slice_get cluster.options member.id.number ≡ Some options
      → slice_get cluster.facts.deadlines member.id.number ≡ Some deadline
      → slice_get cluster.facts.holds member.id.number ≡ Some hold → agent.role ≡ Leader revision
      → server.state ≡ states.Primary → StandsLeading member agent options cluster
  stands-leading agent_is server_is options_are deadline_is hold_is role primary = record {
    o = _;
    stands = ap (λ (a : Option AgentFacts). standing a (machine_of cluster member)) agent_is
        ∙ ap (λ (s : Option ServerFacts). standing (Some agent)
        (From s (slice_get cluster.options member.id.number)
        (slice_get cluster.facts.deadlines member.id.number) (slice_get cluster.facts.holds member.id.number)))
        server_is
        ∙ ap (λ (x : Option MemberOptions). standing (Some agent)
        (From (Some server) x (slice_get cluster.facts.deadlines member.id.number)
        (slice_get cluster.facts.holds member.id.number)))
        options_are
        ∙ ap (λ (x : Option (Option Ticks)).
        standing (Some agent) (From (Some server) (Some options) x (slice_get cluster.facts.holds member.id.number)))
        deadline_is
        ∙ ap (λ (x : Option (Option Ticks)).
        standing (Some agent) (From (Some server) (Some options) (Some deadline) x))
        hold_is;
    leads = record { revision = revision; role = role; primary = primary };
    knows = refl;
    role = refl;
    nothing = refl;
    mode = refl;
    works = refl;
    margin = refl;
  }
