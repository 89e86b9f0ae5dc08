-- Parts of a step tell before each feed from when it is measured, number
-- messages above those before them, and grant by the keys of the moment.
use Rattle.std.proofs.Common.{ℕ, ◌≡◌, ◌<◌, ◌+◌, ◌++◌, nat_le, Bool, true, false, List, [], ◌∷◌, length, slice_get, Option, Some, None, refl, sym, subst, ap, ◌∙◌, arith}
use Rattle.pat_base.specs.declared.ticks.Ticks.{Ticks}
use Rattle.event_book.specs.declared.event.AgentEvent.TheVariants as agents
use Rattle.event_book.specs.declared.event.Event.{Event}
use Rattle.event_book.specs.declared.event.EventKind.{EventKind}
use Rattle.event_book.specs.declared.event.EventKind.TheVariants as kinds
use Rattle.event_book.specs.declared.event.MessageEvent.TheVariants as messages
use Rattle.event_book.specs.declared.event.StoreEvent.TheVariants as stores
use Rattle.event_book.specs.declared.event.WatchdogEvent.TheVariants as watchdogs
use Rattle.event_book.specs.declared.member.Member.{Member}
use Rattle.event_book.specs.declared.message.Message.{Message}
use Rattle.event_book.specs.Flight.{sent_after}
use Rattle.cluster_model.specs.Cluster.{cluster_after, cluster_over}
use Rattle.cluster_model.specs.Limits.{most_in_flight}
use Rattle.cluster_model.specs.Messages.{lost_at_once, send_events}
use Rattle.cluster_model.specs.Parts.{event_of, events_of, for_some}
use Rattle.cluster_model.specs.State.{Cluster}
use Rattle.cluster_model.proofs.Lists.{all-more}
use Rattle.event_book.specs.Premises.{Moments, moments_after}
use Rattle.event_book.specs.Kinds.{AllAre}
use Rattle.lease_book.specs.Groups.{AreNumberedAbove, IsNumberedAbove}
use Rattle.summary_model.specs.Sights.{since_after}
use Rattle.summary_model.specs.Telling.{AreMeasured, IsMeasured}
use Rattle.lease_runs.proofs.Fencing.{AreDecided, IsUngranted, decided-both, ungranted-decided}
use Rattle.lease_runs.proofs.AskedOnce.{AsksOnce, IsNeutral, IsOther, neutral-one, neutral-over}
use Rattle.lease_runs.proofs.Moments.{KnowsSending, moments-append, moments_over, sending-over}
use Rattle.run_promise.proofs.Members.{members-over}
use Rattle.run_promise.proofs.Upholding.{over-append}

-- behind a book it is known when each message in flight was sent, and
-- who asked whom, and members stand at their numbers
pub record Knows (moments : Moments) (cluster : Cluster) : Type 0 where
  pub sending : KnowsSending moments cluster.facts
  pub asks : AsksOnce moments cluster
  pub members : (n : ℕ) (peer : Member) → slice_get cluster.facts.members n ≡ Some peer → peer.id.number ≡ n

pub record Measures (moments : Moments) (cluster : Cluster) (events : List Event) : Type 0 where
  pub measured : (since : Ticks) → AreMeasured moments since events
  pub numbered : AreNumberedAbove cluster.facts.sent events
  pub decided : AreDecided cluster events
  pub asks : AsksOnce (moments_over moments events) (cluster_over cluster events)

-- so it is behind these events
pub knows-over : (moments : Moments) (cluster : Cluster) (events : List Event) → Knows moments cluster
    → Measures moments cluster events → Knows (moments_over moments events) (cluster_over cluster events)
knows-over moments cluster events knows tells = record {
  sending = sending-over moments cluster events tells.numbered knows.sending;
  asks = tells.asks;
  members = λ n peer is.
      knows.members n peer (ap (λ (l : List Member). slice_get l n) (sym (members-over cluster events)) ∙ is);
}

-- a part does, wherever that is known
abbrev pub Tells : (Cluster → List Event) → Type 0
Tells part = (moments : Moments) (cluster : Cluster) → Knows moments cluster → Measures moments cluster (part cluster)

pub measured-both : (moments : Moments) (since : Ticks) (xs ys : List Event) → AreMeasured moments since xs
    → ((later : Ticks) → AreMeasured (moments_over moments xs) later ys) → AreMeasured moments since (xs ++ ys)
measured-both moments since [] ys first second = second since
measured-both moments since (x ∷ xs) ys first second =
    (first.0, measured-both (moments_after moments x.kind) (since_after since x.kind) xs ys first.1 second)

numbered-both : (cluster : Cluster) (xs ys : List Event) → AreNumberedAbove cluster.facts.sent xs
    → AreNumberedAbove (cluster_over cluster xs).facts.sent ys → AreNumberedAbove cluster.facts.sent (xs ++ ys)
numbered-both cluster [] ys first second = second
numbered-both cluster (x ∷ xs) ys first second =
    (first.0, numbered-both (cluster_after cluster x.kind) xs ys first.1 second)

pub tells-none : (moments : Moments) (cluster : Cluster) → Knows moments cluster → Measures moments cluster []
tells-none moments cluster knows = record { measured = λ since. tt; numbered = tt; decided = tt; asks = knows.asks }

pub told-then : (moments : Moments) (cluster : Cluster) (xs ys : List Event) → Knows moments cluster
    → Measures moments cluster xs
    → (Knows (moments_over moments xs) (cluster_over cluster xs) →
    Measures (moments_over moments xs) (cluster_over cluster xs) ys)
    → Measures moments cluster (xs ++ ys)
told-then moments cluster xs ys knows first second =
    let rest = second (knows-over moments cluster xs knows first) in
    record {
      measured = λ since. measured-both moments since xs ys (first.measured since) rest.measured;
      numbered = numbered-both cluster xs ys first.numbered rest.numbered;
      decided = decided-both cluster xs ys first.decided rest.decided;
      asks = subst (λ (m : Moments). AsksOnce m (cluster_over cluster (xs ++ ys))) (sym (moments-append moments xs ys))
          (subst (AsksOnce (moments_over (moments_over moments xs) ys)) (sym (over-append cluster xs ys)) rest.asks);
    }

pub told-for_some : {X : Type 0} (moments : Moments) (cluster : Cluster) (found : Option X) (part : X → List Event)
    → Knows moments cluster → ((x : X) → found ≡ Some x → Measures moments cluster (part x))
    → Measures moments cluster (for_some found part)
told-for_some moments cluster None part knows all = tells-none moments cluster knows
told-for_some moments cluster (Some x) part knows all = all x refl

-- ---- events that feed nothing
abbrev pub IsUnfed : EventKind → Type 0
IsUnfed (kinds.Watchdog (watchdogs.Armed member until answer)) = ⊥
IsUnfed (kinds.Watchdog (watchdogs.Fed member until basis)) = ⊥
IsUnfed _ = Unit {0}

unfed-one : (moments : Moments) (since : Ticks) (kind : EventKind) → IsUnfed kind → IsMeasured moments since kind
unfed-one moments since (kinds.Watchdog (watchdogs.Armed member until answer)) is = absurd is
unfed-one moments since (kinds.Watchdog (watchdogs.Fed member until basis)) is = absurd is
unfed-one moments since _ is = tt

pub unfed-measured : (moments : Moments) (since : Ticks) (events : List Event) → AllAre IsUnfed events
    → AreMeasured moments since events
unfed-measured moments since [] all = tt
unfed-measured moments since (event ∷ events) all = (
  unfed-one moments since event.kind all.0,
  unfed-measured (moments_after moments event.kind) (since_after since event.kind) events all.1,
)

-- and send, hold and grant nothing, at which no agent acts or starts
abbrev pub IsPlain : EventKind → Type 0
IsPlain (kinds.Watchdog (watchdogs.Armed member until answer)) = ⊥
IsPlain (kinds.Watchdog (watchdogs.Fed member until basis)) = ⊥
IsPlain (kinds.Watchdog (watchdogs.HoldTaken member until from incarnation sequence)) = ⊥
IsPlain (kinds.Message (messages.Sent number message)) = ⊥
IsPlain (kinds.Message (messages.Delivered number)) = ⊥
IsPlain (kinds.Agent (agents.Woken member)) = ⊥
IsPlain (kinds.Agent (agents.Operated member action)) = ⊥
IsPlain (kinds.Agent (agents.Started member incarnation)) = ⊥
IsPlain (kinds.Store (stores.Granted number by txn standbys)) = ⊥
IsPlain _ = Unit {0}

plain-unfed : (kind : EventKind) → IsPlain kind → IsUnfed kind
plain-unfed (kinds.Watchdog (watchdogs.Armed member until answer)) is = absurd is
plain-unfed (kinds.Watchdog (watchdogs.Fed member until basis)) is = absurd is
plain-unfed _ is = tt

plain-numbered : (last : ℕ) (kind : EventKind) → IsPlain kind → IsNumberedAbove last kind
plain-numbered last (kinds.Message (messages.Sent number message)) is = absurd is
plain-numbered last _ is = tt

plain-ungranted : (kind : EventKind) → IsPlain kind → IsUngranted kind
plain-ungranted (kinds.Store (stores.Granted number by txn standbys)) is = absurd is
plain-ungranted _ is = tt

plain-all : (last : ℕ) (events : List Event) → AllAre IsPlain events → AreNumberedAbove last events
plain-all last [] all = tt
plain-all last (event ∷ events) all =
    (plain-numbered last event.kind all.0, plain-all (sent_after last event.kind) events all.1)

plain-none : (events : List Event) → AllAre IsPlain events → AllAre IsUnfed events
plain-none [] all = tt
plain-none (event ∷ events) all = (plain-unfed event.kind all.0, plain-none events all.1)

plain-neutral : (kind : EventKind) → IsPlain kind → IsNeutral kind
plain-neutral (kinds.Watchdog (watchdogs.HoldTaken member until from incarnation sequence)) is = absurd is
plain-neutral (kinds.Message (messages.Sent number message)) is = absurd is
plain-neutral (kinds.Message (messages.Delivered number)) is = absurd is
plain-neutral (kinds.Agent (agents.Woken member)) is = absurd is
plain-neutral (kinds.Agent (agents.Operated member action)) is = absurd is
plain-neutral (kinds.Agent (agents.Started member incarnation)) is = absurd is
plain-neutral _ is = tt

pub told-plain : (moments : Moments) (cluster : Cluster) (events : List Event) → AllAre IsPlain events
    → Knows moments cluster → Measures moments cluster events
told-plain moments cluster events all knows =
    let above : AreNumberedAbove cluster.facts.sent events = plain-all cluster.facts.sent events all in
    record {
      measured = λ since. unfed-measured moments since events (plain-none events all);
      numbered = above;
      decided = ungranted-decided cluster events (all-more IsPlain IsUngranted events plain-ungranted all);
      asks = neutral-over moments cluster events
          (all-more IsPlain IsNeutral events plain-neutral all) above knows.sending knows.asks;
    }

-- ---- a message that is sent
next-above : (sent : ℕ) → sent < sent + 1
next-above sent = omega arith

lost-plain : (cluster : Cluster) (test : Bool) (number : ℕ)
    → AllAre IsPlain (events_of cluster (lost_at_once test number))
lost-plain cluster true number = (tt, tt)
lost-plain cluster false number = tt

-- a message that is sent in this event is lost at once where too many are in flight
pub told-send : (message : Message) (moments : Moments) (cluster : Cluster)
    → (let sent : EventKind = kinds.Message (messages.Sent (cluster.facts.sent + 1) message) in
    AsksOnce (moments_after moments sent) (cluster_after cluster sent))
    → Knows moments cluster
    → Measures moments cluster (send_events cluster message)
told-send message moments cluster asks knows =
    let sent : EventKind = kinds.Message (messages.Sent (cluster.facts.sent + 1) message) in
    let lost : List Event = events_of (cluster_after cluster sent)
    (lost_at_once (nat_le most_in_flight (length cluster.facts.flight)) (cluster.facts.sent + 1)) in
    told-then moments cluster (event_of cluster sent) lost knows (record {
      measured = λ since. (tt, tt);
      numbered = (next-above cluster.facts.sent, tt);
      decided = (tt, tt);
      asks = asks;
    })
    (λ later. told-plain (moments_after moments sent) (cluster_after cluster sent) lost
    (lost-plain (cluster_after cluster sent) (nat_le most_in_flight (length cluster.facts.flight))
    (cluster.facts.sent + 1))
    later)

-- one that is no failsafe request, and acknowledges none
pub tells-send : (message : Message) → IsOther message → Tells (λ cluster. send_events cluster message)
tells-send message other moments cluster knows =
    told-send message moments cluster
    (neutral-one moments cluster
    (kinds.Message (messages.Sent (cluster.facts.sent + 1) message)) other knows.sending.order knows.asks)
    knows
