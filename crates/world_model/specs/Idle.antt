-- Clusters in which nothing happens for a while but that time passes.
use Rattle.std.specs.Prelude.{ℕ, ◌≡◌, ◌<◌, nat_le, Bool, true, false, List, [], All, Option, Some, None, slice_get, zero, suc}
use Rattle.pat_base.specs.declared.lsn.Lsn.{Lsn}
use Rattle.pat_base.specs.declared.ticks.Ticks.{Ticks}
use Rattle.leader_key.specs.Watchdog.{is_due_at}
use Rattle.lease_store.specs.Answers.{expired_keys}
use Rattle.pg_model.specs.declared.answers.Streamed.{Streamed}
use Rattle.pg_model.specs.declared.answers.Streamed.TheVariants as streams
use Rattle.pg_cluster.specs.Completing.{NoneComplete}
use Rattle.pg_model.specs.Facts.{ServerFacts}
use Rattle.pg_cluster.specs.Servers.{news_at}
use Rattle.event_book.specs.declared.agent_process.AgentProcess.{AgentProcess}
use Rattle.event_book.specs.declared.event.EventKind.TheVariants as kinds
use Rattle.event_book.specs.declared.member.Member.{Member}
use Rattle.event_book.specs.Flight.{Flight, InFlightFacts, in_flight}
use Rattle.event_book.specs.Links.{CutLinks}
use Rattle.cluster_model.specs.declared.step.Step.{Step}
use Rattle.cluster_model.specs.declared.step.Step.TheVariants as steps
use Rattle.member_options.specs.declared.member_option.MemberOptions.{MemberOptions}
use Rattle.agent_model.specs.Agents.{AgentFacts, Outcome}
use Rattle.agent_model.specs.Wake.{due_from}
use Rattle.cluster_model.specs.declared.delivery.Delivery.TheVariants.{Suspended}
use Rattle.cluster_model.specs.Acknowledging.{AreAcknowledged}
use Rattle.cluster_model.specs.Cluster.{cluster_over}
use Rattle.cluster_model.specs.Deliveries.{delivery_of}
use Rattle.cluster_model.specs.Inputs.{has_work, is_to_wake, standing_of}
use Rattle.cluster_model.specs.Next.{all_entries, next_events}
use Rattle.cluster_model.specs.Parts.{event_of}
use Rattle.cluster_model.specs.State.{Cluster}
use Rattle.cluster_model.specs.Streaming.{source_of, unconfirmed_end}

-- a cluster at another moment
abbrev pub at_moment : Cluster → ℕ → Cluster
at_moment cluster now = record cluster { facts = record cluster.facts { clock = now } }

-- from this moment on there is something to do for an agent with its machine, or there never is
abbrev pub HasWorkFrom : Option Outcome → Option Ticks → Type 0
HasWorkFrom o None = (now : Ticks) → has_work now o ≡ false
HasWorkFrom o (Some from) = (now : Ticks) → has_work now o ≡ nat_le from.0 now.0

-- from when on there is something to do for an agent of a member with these
-- options, this deadline, this hold and this server, where there are all of them
abbrev pub work_moment : Option MemberOptions → Option (Option Ticks) → Option (Option Ticks)
    → Option ServerFacts → Option AgentFacts → Option Ticks
work_moment (Some options) (Some deadline) (Some hold) (Some s) (Some agent) =
    Some (due_from agent.role agent.knows s.state)
work_moment _ _ _ _ _ = None

-- at this moment an agent of this process, with its machine, isn't to be woken
abbrev pub IsAsleep : ℕ → Option AgentProcess → Option Outcome → Type 0
IsAsleep now None o = Unit {0}
IsAsleep now (Some process) o = is_to_wake (record { 0 = now }) process o ≡ false

-- at this moment the agent of a member isn't to be woken
abbrev pub SleepsAt : ℕ → Cluster → Member → Type 0
SleepsAt now cluster member =
    IsAsleep now (slice_get cluster.facts.processes member.id.number) (standing_of cluster member)

-- at this moment an agent of this process, with its machine, is to be woken
abbrev pub IsAwake : ℕ → Option AgentProcess → Option Outcome → Type 0
IsAwake now None o = ⊥
IsAwake now (Some process) o = is_to_wake (record { 0 = now }) process o ≡ true

-- at this moment the agent of a member is to be woken
abbrev pub WakesAt : ℕ → Cluster → Member → Type 0
WakesAt now cluster member =
    IsAwake now (slice_get cluster.facts.processes member.id.number) (standing_of cluster member)

-- no watchdog resets its machine at this moment or before
abbrev pub NoneResets : ℕ → List (Option Ticks) → Type 0
NoneResets now deadlines = All (λ deadline. is_due_at now deadline ≡ false) deadlines

-- up to this moment nothing ends by the clock: no watchdog resets its
-- machine, no key expires, and no start or stop of a server is complete
pub record NothingEnds (now : ℕ) (cluster : Cluster) : Type 0 where
  pub watchdogs : NoneResets now cluster.facts.deadlines
  pub keys : expired_keys cluster.facts.keys now ≡ []
  pub servers : NoneComplete now cluster.facts.servers

-- up to this moment nothing is due by the clock: nothing ends, and no agent has something to do
pub record NothingIsDue (now : ℕ) (cluster : Cluster) : Type 0 where
  pub ends : NothingEnds now cluster
  pub agents : All (SleepsAt now cluster) cluster.facts.members

-- such news of a replica from its upstream bring nothing, with this end of its log where that isn't confirmed there
abbrev pub IsNoNews : Option Streamed → Option Lsn → Type 0
IsNoNews None unconfirmed = unconfirmed ≡ None
IsNoNews (Some streams.NotConnected) unconfirmed = Unit {0}
IsNoNews (Some (streams.Diverged at)) unconfirmed = ⊥
IsNoNews (Some (streams.Received count)) unconfirmed = ⊥

-- the server of a member receives and confirms nothing from that of another one, if there is one
abbrev pub HasNoNewsFrom : List ServerFacts → Member → Option Member → Type 0
HasNoNewsFrom servers member None = Unit {0}
HasNoNewsFrom servers member (Some from) =
    IsNoNews (news_at servers member.id.number from.id.number all_entries)
    (unconfirmed_end member (slice_get servers member.id.number) (slice_get servers from.id.number))

-- the server of a member, frozen or not, receives and confirms nothing
abbrev pub ReceivesNone : List Member → List ServerFacts → CutLinks → Member → Option Bool → Type 0
ReceivesNone members servers cuts member (Some false) =
    HasNoNewsFrom servers member (source_of members servers cuts member)
ReceivesNone members servers cuts member _ = Unit {0}

-- the servers, but for those that are frozen, receive and confirm nothing
abbrev pub AreCaughtUp : Cluster → Type 0
AreCaughtUp cluster =
    All (λ member. ReceivesNone cluster.facts.members cluster.facts.servers cluster.facts.cuts member
    (slice_get cluster.facts.frozen member.id.number))
    cluster.facts.members

-- they do where that is known
abbrev pub IfCaughtUp : Bool → Cluster → Type 0
IfCaughtUp known cluster = known ≡ true → AreCaughtUp cluster

-- the servers have caught up, and no commit may be acknowledged
abbrev pub AreSettled : Cluster → Type 0
AreSettled cluster = AreCaughtUp cluster × AreAcknowledged cluster.facts.members cluster.facts.servers

-- that is so where it is known
abbrev pub IfSettled : Bool → Cluster → Type 0
IfSettled known cluster = known ≡ true → AreSettled cluster

-- each message in flight is kept for a receiver that is suspended
abbrev pub AreKept : Flight → List AgentProcess → CutLinks → Type 0
AreKept flight agents cuts = (n : ℕ) (message : InFlightFacts) → in_flight flight n ≡ Some message
    → delivery_of cuts agents message.message ≡ Suspended

-- nothing moves but by the clock: no message comes or is lost, no replica
-- receives or confirms anything, and no commit may be acknowledged
pub record NothingMoves (cluster : Cluster) : Type 0 where
  pub messages : AreKept cluster.facts.flight cluster.facts.processes cluster.facts.cuts
  pub replicas : AreCaughtUp cluster
  pub commits : AreAcknowledged cluster.facts.members cluster.facts.servers

-- up to this moment nothing happens in steps of the default schedule but their ticks
pub record IsIdle (now : ℕ) (cluster : Cluster) : Type 0 where
  pub due : NothingIsDue now cluster
  pub moves : NothingMoves cluster

-- up to this moment nothing happens in plain ticks but themselves
pub record IsIdleButForAgents (now : ℕ) (cluster : Cluster) : Type 0 where
  pub ends : NothingEnds now cluster
  pub commits : AreAcknowledged cluster.facts.members cluster.facts.servers

-- up to this moment steps of this kind bring their ticks and nothing else
abbrev pub IsIdleIn : Step → ℕ → Cluster → Type 0
IsIdleIn steps.Scheduled now cluster = IsIdle now cluster
IsIdleIn steps.Tick now cluster = IsIdleButForAgents now cluster
IsIdleIn (steps.Command command) now cluster = ⊥
IsIdleIn (steps.Connection id visit) now cluster = ⊥

-- so it is at each moment before this one
abbrev pub IsIdleBefore : Step → ℕ → Cluster → Type 0
IsIdleBefore step moment cluster = (now : ℕ) → now < moment → IsIdleIn step now cluster

-- a tick, alone or of the default schedule
abbrev pub IsTick : Step → Type 0
IsTick (steps.Command command) = ⊥
IsTick (steps.Connection id visit) = ⊥
IsTick _ = Unit {0}

-- each of so many steps of one kind brings its tick and nothing else
unfoldable pub BringsTicks : Cluster → Step → ℕ → Type 0
BringsTicks cluster step zero = Unit {0}
BringsTicks cluster step (suc count) = (next_events cluster step ≡ event_of cluster kinds.Tick)
    × BringsTicks (cluster_over cluster (next_events cluster step)) step count
