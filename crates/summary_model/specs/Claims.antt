-- What the closing summary says of a book.
use Rattle.std.specs.Prelude.{ℕ, ◌≡◌, ◌⊎◌, ◌≤◌, Bool, true, false, List, [], ◌∷◌, ◌++◌, Option, Some, None, length, slice_get, is_some}
use Rattle.pat_base.specs.declared.name.Name.{Name}
use Rattle.pat_base.specs.declared.ticks.Ticks.{Ticks}
use Rattle.store_keys.specs.Settings.{Settings}
use Rattle.store_keys.specs.declared.txn.Txn.{Txn}
use Rattle.store_keys.specs.declared.txn.Txn.TheVariants as txns
use Rattle.store_keys.specs.declared.txn.OperatorTxn.TheVariants as operator_txns
use Rattle.event_book.specs.declared.event.AgentEvent.TheVariants as agents
use Rattle.event_book.specs.declared.event.Event.{Event}
use Rattle.event_book.specs.declared.event.EventKind.{EventKind}
use Rattle.event_book.specs.declared.event.EventKind.TheVariants as kinds
use Rattle.event_book.specs.declared.event.ServerEvent.TheVariants as servers
use Rattle.event_book.specs.declared.event.StoreEvent.TheVariants as stores
use Rattle.event_book.specs.declared.event.WatchdogEvent.TheVariants as watchdogs
use Rattle.event_book.specs.Acknowledged.{acknowledged_in}
use Rattle.event_book.specs.Kept.{KeepsCommits}
use Rattle.event_book.specs.Logs.{Logs}
use Rattle.event_book.specs.Writers.{HasOneWriter, writes_over}
use Rattle.event_book.specs.Premises.{ArePremisesMet}
use Rattle.summary_model.specs.declared.answers.TheConstants.{SERVERS}
use Rattle.summary_model.specs.declared.answers.Breach.{Breach}
use Rattle.summary_model.specs.declared.answers.Breach.TheVariants as breaches
use Rattle.summary_model.specs.declared.answers.Closing.{Closing}
use Rattle.summary_model.specs.declared.answers.FirstMoment.{FirstMoment}
use Rattle.summary_model.specs.declared.answers.FirstMoment.TheVariants as firsts
use Rattle.summary_model.specs.declared.answers.Premises.{Premises}
use Rattle.summary_model.specs.declared.answers.Premises.TheVariants as premises
use Rattle.summary_model.specs.declared.answers.Synchronous.{Synchronous}
use Rattle.summary_model.specs.declared.answers.Synchronous.TheVariants as synchronous
use Rattle.summary_model.specs.declared.answers.WatchOf.{WatchOf}
use Rattle.summary_model.specs.Heads.{is_watching, first_unwatched, head_breach}
use Rattle.summary_model.specs.Moments.{now_over, AreAllFronts, IsFirstBreak, IsToldFirst}
use Rattle.summary_model.specs.Noting.{WatchFacts, margin_at}

-- a margin as a number of ticks
abbrev pub margin_ticks : Option Ticks → Option ℕ
margin_ticks None = None
margin_ticks (Some ticks) = Some ticks.0

-- the margin that is declared of a member's watchdog, none where there is no such member
abbrev pub declared_margin : Option WatchOf → Option Ticks
declared_margin None = None
declared_margin (Some watchdog) = watchdog.margin

-- the margin of the member of this number, in ticks
abbrev pub margin_of : List WatchOf → ℕ → Option ℕ
margin_of members m = margin_ticks (declared_margin (slice_get members m))

-- a watchdog that is declared is on and works
abbrev pub is_working : Option WatchOf → Bool
is_working None = true
is_working (Some watchdog) = is_watching watchdog

-- the watchdog of the member of this number is on and works, if there is such a member
abbrev pub works_of : List WatchOf → ℕ → Bool
works_of members m = is_working (slice_get members m)

-- this granted transaction pauses the cluster
abbrev pub PausesBy : Txn → Type 0
PausesBy (txns.Operators (operator_txns.SetConfig revision config)) = config.config.pause ≡ true
PausesBy _ = ⊥

-- this event is the breach that is told: it is of the member, or the configuration
abbrev pub IsBreachBy : Breach → EventKind → Type 0
IsBreachBy (breaches.LateWatchdog name) (kinds.Watchdog (watchdogs.Armed member until answer)) = member.name ≡ name
IsBreachBy (breaches.LateWatchdog name) (kinds.Watchdog (watchdogs.Fed member until basis)) = member.name ≡ name
IsBreachBy breaches.Pause (kinds.Store (stores.Granted number by txn standbys)) = PausesBy txn
IsBreachBy (breaches.Operator name) (kinds.Server (servers.Promoted server)) = server.name ≡ name
IsBreachBy _ _ = ⊥

-- the last event of this front is the breach; where there is no event, the head is
abbrev pub IsWhy : List WatchOf → Settings → List Event → Breach → Type 0
IsWhy members first front why =
    ((front ≡ []) × (head_breach (first_unwatched members) first.config.pause ≡ Some why))
    ⊎ ((before : List Event) × (event : Event) × (front ≡ before ++ event ∷ []) × IsBreachBy why event.kind)

-- the premises were broken first at this moment, by this breach
pub record IsFirstBreach (members : List WatchOf) (first : Settings) (book : List Event) (moment : ℕ)
    (why : Breach) : Type 0 where
  pub break : IsFirstBreak (ArePremisesMet (margin_of members) (works_of members) first) book moment
  pub why_is : IsWhy members first break.front why

-- what is told of the premises is so: they are met by each front, or broken first at that moment
abbrev pub IsToldOfPremises : List WatchOf → Settings → List Event → Premises → Type 0
IsToldOfPremises members first book premises.Met =
    AreAllFronts (ArePremisesMet (margin_of members) (works_of members) first) book
IsToldOfPremises members first book (premises.Broken tick why) = IsFirstBreach members first book tick.0 why

-- a granted configuration has this mode
abbrev pub HasMode : Bool → Txn → Type 0
HasMode on (txns.Operators (operator_txns.SetConfig revision config)) = config.config.synchronous_mode ≡ on
HasMode on _ = Unit {0}

-- in this event synchronous mode stays so, and no member outside the sync key takes the leader key
abbrev pub KeepsMode : Bool → EventKind → Type 0
KeepsMode on (kinds.Store (stores.Granted number by txn standbys)) = HasMode on txn
KeepsMode on (kinds.Agent (agents.Passed agent)) = ⊥
KeepsMode on _ = Unit {0}

-- the same of each of these events
abbrev pub KeepMode : Bool → List Event → Type 0
KeepMode on [] = Unit {0}
KeepMode on (event ∷ events) = KeepsMode on event.kind × KeepMode on events

-- what is told of synchronous mode is so: it is on, or off, by the first
-- configuration and all the time, or that was broken first at that moment
abbrev pub IsToldOfMode : Settings → List Event → Synchronous → Type 0
IsToldOfMode first book synchronous.On = (first.config.synchronous_mode ≡ true) × AreAllFronts (KeepMode true) book
IsToldOfMode first book synchronous.Off = (first.config.synchronous_mode ≡ false) × AreAllFronts (KeepMode false) book
IsToldOfMode first book (synchronous.Broken tick) = IsFirstBreak (KeepMode first.config.synchronous_mode) book tick.0

-- there is such a server, and it is named as one that accepts writes
abbrev pub is_named : Option (Option Name) → Bool
is_named None = false
is_named (Some name) = is_some name

-- the server of this number is among those that accept writes
abbrev pub is_writer : List (Option Name) → ℕ → Bool
is_writer writers server = is_named (slice_get writers server)

-- each answer is so of this book, over the declared members, the first
-- configuration and the logs that servers began with
pub record IsSummaryOf (members : List WatchOf) (first : Settings) (logs : Logs) (book : List Event)
    (closing : Closing) : Type 0 where
  -- the end is the clock's
  pub end : closing.end.0 ≡ now_over 0 book
  pub premises : IsToldOfPremises members first book closing.premises
  pub synchronous : IsToldOfMode first book closing.synchronous
  -- at most one server accepts writes at the end of each front, or two did first at that moment
  pub two_writers : IsToldFirst HasOneWriter book closing.two_writers
  -- those that are listed accept writes at the end, and no others do
  pub writers : (server : ℕ) → is_writer closing.writers server ≡ writes_over (λ n. false) book server
  -- so many commits were acknowledged
  pub acknowledged : closing.acknowledged ≡ length (acknowledged_in book)
  -- each server that accepts writes has each acknowledged commit at
  -- the end of each front, or one lacked some first at that moment
  pub lost : IsToldFirst (KeepsCommits logs) book closing.lost

-- the summary keeps what this book makes of it
pub record WatchStandsFor (members : List WatchOf) (first : Settings) (logs : Logs) (book : List Event)
    (facts : WatchFacts) : Type 0 where
  pub margins : (m : ℕ) → margin_ticks (margin_at facts.margins m) ≡ margin_of members m
  pub places : length facts.closing.writers ≡ SERVERS
  pub closing : IsSummaryOf members first logs book facts.closing

-- this was not so before the moment
abbrev pub IsNotBefore : FirstMoment → ℕ → Type 0
IsNotBefore firsts.Never moment = Unit {0}
IsNotBefore (firsts.At first) moment = moment ≤ first.0

-- where the premises are met no two servers accepted writes, and where they were broken none did before
abbrev pub IsGuarded : Premises → FirstMoment → Type 0
IsGuarded premises.Met two_writers = two_writers ≡ firsts.Never
IsGuarded (premises.Broken tick why) two_writers = IsNotBefore two_writers tick.0

-- where the premises are met and synchronous mode is on no commit was lost, and where one of
-- them was broken none was before, or before the other was; with the mode off nothing is said
abbrev pub AreCommitsGuarded : Premises → Synchronous → FirstMoment → Type 0
AreCommitsGuarded premises.Met synchronous.On lost = lost ≡ firsts.Never
AreCommitsGuarded premises.Met synchronous.Off lost = Unit {0}
AreCommitsGuarded premises.Met (synchronous.Broken tick) lost = IsNotBefore lost tick.0
AreCommitsGuarded (premises.Broken tick why) synchronous.On lost = IsNotBefore lost tick.0
AreCommitsGuarded (premises.Broken tick why) synchronous.Off lost = Unit {0}
AreCommitsGuarded (premises.Broken tick why) (synchronous.Broken other) lost =
    IsNotBefore lost tick.0 ⊎ IsNotBefore lost other.0
