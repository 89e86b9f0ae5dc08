-- A delivery to the key store as actions, in synchronous mode: creates
-- of the leader key compare no sync key, and nobody removes it.
use Rattle.std.specs.Prelude.{ℕ, ◌≡◌, Bool, true, false, List, [], ◌∷◌, Some, None}
use Rattle.pat_base.specs.declared.name.Name.{Name}
use Rattle.pat_base.specs.declared.ticks.Ticks.{Ticks}
use Rattle.store_keys.specs.declared.txn.Txn.{Txn}
use Rattle.store_keys.specs.declared.txn.Txn.TheVariants as txns
use Rattle.store_keys.specs.declared.txn.LeaseTxn.TheVariants as lease_txns
use Rattle.store_keys.specs.declared.txn.SyncTxn.TheVariants as sync_txns
use Rattle.lease_store.specs.Writes.{is_lease}
use Rattle.event_book.specs.declared.event.Event.{Event}
use Rattle.event_book.specs.declared.event.EventKind.TheVariants as kinds
use Rattle.event_book.specs.declared.event.MessageEvent.TheVariants.{Sent}
use Rattle.event_book.specs.declared.link.LinkEnd.TheVariants as ends
use Rattle.event_book.specs.declared.member.Member.{Member}
use Rattle.event_book.specs.declared.message.Body.TheVariants as bodies
use Rattle.event_book.specs.Facts.{Facts, facts_over}
use Rattle.lease_model.specs.Showing.{granted_events}
use Rattle.commit_actions.specs.Actions.{Action, Create, Decide, Note, OtherWrite, Release, Renew, SendSnapshot, IsNumbered}
use Rattle.commit_showing.specs.Books.{Transition, AreAllowed, book_of}
use Rattle.commit_actions.specs.Past.{Setup, Past, VolatileState, past_over}
use Rattle.commit_showing.specs.Showing.{carries_set, decided_events, event_at}
use Rattle.commit_actions.specs.States.{State}
use Rattle.commit_book.specs.Flights.{IsSameBook}

-- one action, after which each member is as before it in what no event says
abbrev pub transition_of : (ℕ → VolatileState) → Action → List Event → Transition
transition_of volatile_states action events =
    record { action = action; events = events; volatile_states = volatile_states }

-- the answer to a request goes out that was granted
abbrev pub told_events : Ticks → ℕ → ℕ → Member → ℕ → ℕ → Txn → List Event
told_events tick number answer by incarnation sequence txn =
    event_at tick (kinds.Message (Sent answer (record {
      from = ends.Store;
      to = ends.Member by;
      incarnation = incarnation;
      sequence = sequence;
      body = bodies.Granted number (is_lease txn);
    })))

-- what the grant of a request is, with the answer under this number where it tells more than the keys
abbrev pub granted_action : ℕ → ℕ → ℕ → ℕ → ℕ → Txn → Action
granted_action number answer member incarnation sequence (txns.Lease (lease_txns.Create info ttl failsafe sync)) =
    Create member incarnation sequence answer
granted_action number answer member incarnation sequence
    (txns.Lease (lease_txns.Renew revision info ttl status row failsafe)) =
    Renew member incarnation sequence answer (carries_set failsafe)
granted_action number answer member incarnation sequence (txns.Sync (sync_txns.Claim revision sync)) =
    Decide number answer
granted_action number answer member incarnation sequence
    (txns.Sync (sync_txns.SetSync revision sync standbys may_lack)) =
    Decide number answer
granted_action number answer member incarnation sequence (txns.Lease (lease_txns.Release revision)) = Release
granted_action number answer member incarnation sequence _ = OtherWrite

-- its answer tells more than the keys: the lease, or the sync key that it wrote
abbrev pub is_told : Txn → Bool
is_told (txns.Lease (lease_txns.Create info ttl failsafe sync)) = true
is_told (txns.Lease (lease_txns.Renew revision info ttl status row failsafe)) = true
is_told (txns.Sync (sync_txns.Claim revision sync)) = true
is_told (txns.Sync (sync_txns.SetSync revision sync standbys may_lack)) = true
is_told _ = false

-- a request is granted and answered in one action; or in two, where the answer shows the keys alone
abbrev pub granted_if : Bool → (ℕ → VolatileState) → Action → Ticks → ℕ → ℕ → Member → ℕ → ℕ → Txn → List Name
    → List Transition
granted_if true volatile_states action tick number answer by incarnation sequence txn standbys =
    transition_of volatile_states action (granted_events tick number answer by incarnation sequence txn standbys) ∷ []
granted_if false volatile_states action tick number answer by incarnation sequence txn standbys =
    transition_of volatile_states action (decided_events tick number by txn standbys)
    ∷ transition_of volatile_states (SendSnapshot false false answer)
    (told_events tick number answer by incarnation sequence txn)
    ∷ []

-- the actions that the delivery of a request is which is granted
abbrev pub granted_actions : (ℕ → VolatileState) → Ticks → ℕ → ℕ → Member → ℕ → ℕ → Txn → List Name → List Transition
granted_actions volatile_states tick number answer by incarnation sequence txn standbys =
    granted_if (is_told txn) volatile_states (granted_action number answer by.id.number incarnation sequence txn)
    tick number answer by incarnation sequence txn standbys

-- what a refusal is: a decision on a request that compares the sync key; of another one commits read nothing
abbrev pub refused_action : ℕ → ℕ → Txn → Action
refused_action number answer (txns.Sync (sync_txns.Claim revision sync)) = Decide number answer
refused_action number answer (txns.Sync (sync_txns.SetSync revision sync standbys may_lack)) = Decide number answer
refused_action number answer txn = Note

-- a create compares no sync key
abbrev pub ComparesNoSync : Txn → Type 0
ComparesNoSync (txns.Lease (lease_txns.Create info ttl failsafe (Some sync))) = ⊥
ComparesNoSync _ = Unit {0}

-- what is asked of a request beside that it is granted: a create or a renewal is of an incarnation and
-- a number that its sender's agents gave; a create compares no sync key, and nobody removes that key
abbrev pub MayBeGranted : State → ℕ → ℕ → ℕ → Txn → Type 0
MayBeGranted s member incarnation sequence (txns.Lease (lease_txns.Create info ttl failsafe None)) =
    IsNumbered (s.members member) incarnation sequence
MayBeGranted s member incarnation sequence (txns.Lease (lease_txns.Create info ttl failsafe (Some sync))) = ⊥
MayBeGranted s member incarnation sequence (txns.Lease (lease_txns.Renew revision info ttl status row failsafe)) =
    IsNumbered (s.members member) incarnation sequence
MayBeGranted s member incarnation sequence (txns.Sync (sync_txns.DropSync revision sync)) = ⊥
MayBeGranted s member incarnation sequence _ = Unit {0}

-- these events are those of these actions, which are allowed one after the
-- other and shown by them; and after them past and facts are still of one book
pub record IsDelivered (setup : Setup) (past : Past) (facts : Facts) (volatile_states : ℕ → VolatileState)
    (events : List Event) (transitions : List Transition) : Type 0 where
  pub whole : book_of transitions ≡ events
  pub allowed : AreAllowed setup past volatile_states transitions
  pub same : IsSameBook (past_over past events) (facts_over facts events)
