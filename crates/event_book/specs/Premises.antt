-- What the claim of one writer asks of a book: feeds keep the margin, and nobody pauses or promotes by hand.
use Rattle.std.specs.Prelude.{ℕ, zero, suc, ◌≡◌, ◌≤◌, ◌+◌, ◌⊎◌, Bool, true, false, List, [], ◌∷◌, Option, Some, None}
use Rattle.event_book.specs.Functions.{put_at, set_members}
use Rattle.store_keys.specs.Settings.{Settings}
use Rattle.store_keys.specs.declared.txn.Txn.{Txn}
use Rattle.store_keys.specs.declared.txn.Txn.TheVariants as txns
use Rattle.store_keys.specs.declared.txn.OperatorTxn.TheVariants as operator_txns
use Rattle.event_book.specs.declared.event.Event.{Event}
use Rattle.event_book.specs.declared.event.EventKind.{EventKind}
use Rattle.event_book.specs.declared.event.EventKind.TheVariants as kinds
use Rattle.event_book.specs.declared.event.MessageEvent.TheVariants as messages
use Rattle.event_book.specs.declared.event.StoreEvent.TheVariants as stores
use Rattle.event_book.specs.declared.event.ServerEvent.TheVariants as servers
use Rattle.event_book.specs.declared.event.AgentEvent.TheVariants as agents
use Rattle.event_book.specs.declared.event.WatchdogEvent.{WatchdogEvent}
use Rattle.event_book.specs.declared.event.WatchdogEvent.TheVariants as watchdogs
use Rattle.event_book.specs.declared.reason.Basis.{Basis}
use Rattle.event_book.specs.declared.reason.Basis.TheVariants as bases
use Rattle.event_book.specs.Clock.{now_after}

-- a member took a hold at this moment, for a failsafe request of another
pub record Taking : Type 0 where
  pub by : ℕ
  pub from : ℕ
  pub incarnation : ℕ
  pub sequence : ℕ
  pub moment : ℕ

-- this hold is among those that were taken
abbrev pub IsTaken : List Taking → Taking → Type 0
IsTaken [] taking = ⊥
IsTaken (one ∷ others) taking = (one ≡ taking) ⊎ IsTaken others taking

-- the moment at which each message was sent, after an event
abbrev pub moments_sent_after : ℕ → (ℕ → Option ℕ) → EventKind → ℕ → Option ℕ
moments_sent_after clock sent (kinds.Message (messages.Sent number message)) = put_at sent number (Some clock)
moments_sent_after clock sent _ = sent

-- each hold that was taken, with this member's for a failsafe request. Requests count from 1,
-- and a hold under number 0 is one that an operator had the member take, on which nobody is fed
abbrev pub taken_with : ℕ → List Taking → ℕ → ℕ → ℕ → ℕ → List Taking
taken_with clock taken by from incarnation zero = taken
taken_with clock taken by from incarnation (suc before) =
    record { by = by; from = from; incarnation = incarnation; sequence = suc before; moment = clock } ∷ taken

-- each hold that was taken, after an event
abbrev pub taken_after : ℕ → List Taking → EventKind → List Taking
taken_after clock taken (kinds.Watchdog (watchdogs.HoldTaken member until from incarnation sequence)) =
    taken_with clock taken member.id.number from.id.number incarnation sequence
taken_after clock taken _ = taken

-- the incarnation of each agent, after an event
abbrev pub runs_after : (ℕ → ℕ) → EventKind → ℕ → ℕ
runs_after runs (kinds.Agent (agents.Started agent incarnation)) = put_at runs agent.id.number incarnation
runs_after runs _ = runs

-- a watchdog is armed or fed at most the margin after this moment; without a margin that is so of each moment
abbrev pub IsOnTime : Option ℕ → ℕ → ℕ → Type 0
IsOnTime (Some margin) now moment = now ≤ moment + margin
IsOnTime None now moment = Unit {0}

-- the moments that feeds are measured from: the clock, when each message
-- was sent, each hold that was taken, and the incarnation of each agent
pub record Moments : Type 0 where
  pub clock : ℕ
  pub sent : ℕ → Option ℕ
  pub taken : List Taking
  pub runs : ℕ → ℕ

-- the moments that feeds are measured from, after an event
abbrev pub moments_after : Moments → EventKind → Moments
moments_after moments kind = record {
  clock = now_after moments.clock kind;
  sent = moments_sent_after moments.clock moments.sent kind;
  taken = taken_after moments.clock moments.taken kind;
  runs = runs_after moments.runs kind;
}

-- before the first event: nothing was sent, no hold was taken, and each agent is in its first incarnation
abbrev pub first_moments : Moments
first_moments = record { clock = 0; sent = λ i. None; taken = []; runs = λ m. 1 }

-- a feed of this member's watchdog on this basis is measured from this moment: the
-- answer that tells the grant was sent then; or one of the acknowledging members took
-- its hold then for the failsafe request of this number, in its sender's incarnation
abbrev pub IsFedFrom : Moments → ℕ → Basis → ℕ → Type 0
IsFedFrom moments m (bases.Grant answer) moment = moments.sent answer ≡ Some moment
IsFedFrom moments m (bases.Acknowledgements members sequence) moment =
    (by : ℕ) × (set_members members by ≡ true)
    × IsTaken moments.taken
    (record { by = by; from = m; incarnation = moments.runs m; sequence = sequence; moment = moment })

-- where this happening arms or feeds a watchdog, this holds of its member and of the basis
abbrev pub OnWatchdogFeed : (ℕ → Basis → Type 0) → WatchdogEvent → Type 0
OnWatchdogFeed P (watchdogs.Armed member until answer) = P member.id.number (bases.Grant answer)
OnWatchdogFeed P (watchdogs.Fed member until basis) = P member.id.number basis
OnWatchdogFeed P _ = Unit {0}

-- where this event arms or feeds a watchdog, this holds of its member and of the basis
abbrev pub OnFeed : (ℕ → Basis → Type 0) → EventKind → Type 0
OnFeed P (kinds.Watchdog happening) = OnWatchdogFeed P happening
OnFeed P _ = Unit {0}

-- a feed comes at most the margin after each moment that it is measured from
abbrev pub IsFeedInTime : (ℕ → Option ℕ) → Moments → ℕ → Basis → Type 0
IsFeedInTime margin moments m basis =
    (moment : ℕ) → IsFedFrom moments m basis moment → IsOnTime (margin m) moments.clock moment

-- where this event arms or feeds a watchdog, it does so in time
abbrev pub IsKindInTime : (ℕ → Option ℕ) → Moments → EventKind → Type 0
IsKindInTime margin moments kind = OnFeed (IsFeedInTime margin moments) kind

-- each watchdog is armed and fed in time in these events
abbrev pub AreInTime : (ℕ → Option ℕ) → Moments → List Event → Type 0
AreInTime margin moments [] = Unit {0}
AreInTime margin moments (event ∷ events) =
    IsKindInTime margin moments event.kind × AreInTime margin (moments_after moments event.kind) events

-- each watchdog of this book is armed and fed in time, with these margins of the members
abbrev pub IsTimely : (ℕ → Option ℕ) → List Event → Type 0
IsTimely margin book = AreInTime margin first_moments book

-- a granted configuration doesn't pause the cluster
abbrev pub IsUnpaused : Txn → Type 0
IsUnpaused (txns.Operators (operator_txns.SetConfig revision config)) = config.config.pause ≡ false
IsUnpaused _ = Unit {0}

-- in this event no configuration that pauses is granted, and no operator promotes a server
abbrev pub IsHandsOffKind : EventKind → Type 0
IsHandsOffKind (kinds.Store (stores.Granted number by txn standbys)) = IsUnpaused txn
IsHandsOffKind (kinds.Server (servers.Promoted server)) = ⊥
IsHandsOffKind _ = Unit {0}

-- in none of these events does anybody pause or promote by hand
abbrev pub AreHandsOff : List Event → Type 0
AreHandsOff [] = Unit {0}
AreHandsOff (event ∷ events) = IsHandsOffKind event.kind × AreHandsOff events

-- nobody pauses or promotes by hand: neither the first configuration nor one in the book
-- pauses, no operator promotes a server, and each member has a watchdog that is on and works
pub record IsHandsOff (first : Settings) (works : ℕ → Bool) (book : List Event) : Type 0 where
  pub unpaused : first.config.pause ≡ false
  pub watched : (m : ℕ) → works m ≡ true
  pub events : AreHandsOff book

-- the premises of one writer hold of this book, with these margins of the members,
-- over those whose watchdog is on and works and the first configuration: each watchdog
-- is armed and fed in time, is on and works, and nobody pauses or promotes by hand
pub record ArePremisesMet (margin : ℕ → Option ℕ) (works : ℕ → Bool) (first : Settings) (book : List Event) : Type
    0 where
  pub timely : IsTimely margin book
  pub hands_off : IsHandsOff first works book
