-- Whoever leads outside the sync key has read that this doesn't name it.
use Rattle.std.specs.Prelude.{ℕ, ◌≡◌, ◌≢◌, ◌++◌, false, List, ◌∷◌, Some, slice_get}
use Rattle.std.specs.FinMap.{find}
use Rattle.pat_base.specs.declared.ticks.Ticks.{Ticks}
use Rattle.store_keys.specs.declared.key.Key.TheVariants as keys
use Rattle.store_keys.specs.declared.value.KeyEntry.{KeyEntry}
use Rattle.store_keys.specs.declared.value.SyncKey.{SyncKey}
use Rattle.store_keys.specs.declared.value.Value.TheVariants as values
use Rattle.lease_store.specs.Answers.{present_pairs}
use Rattle.lease_store.specs.KeyOrder.{key_cmp}
use Rattle.event_book.specs.declared.event.AgentEvent.TheVariants as agents
use Rattle.event_book.specs.declared.event.Event.{Event}
use Rattle.event_book.specs.declared.event.EventKind.{EventKind}
use Rattle.event_book.specs.declared.event.EventKind.TheVariants as kinds
use Rattle.event_book.specs.declared.event.MessageEvent.TheVariants as messages
use Rattle.event_book.specs.declared.link.LinkEnd.{LinkEnd}
use Rattle.event_book.specs.declared.link.LinkEnd.TheVariants as ends
use Rattle.event_book.specs.declared.message.Body.TheVariants as bodies
use Rattle.event_book.specs.declared.message.Message.{Message}
use Rattle.event_book.specs.Facts.{Facts, facts_over}
use Rattle.event_book.specs.Kinds.{AllAre}
use Rattle.agent_model.specs.declared.knowledge.SyncRead.{SyncRead}
use Rattle.agent_model.specs.Agents.{AgentFacts}
use Rattle.cluster_model.specs.Cluster.{cluster_over}
use Rattle.cluster_model.specs.Starting.{cluster_of}
use Rattle.commit_runs.specs.Runs.{start_in}
use Rattle.script_model.specs.Script.{HeadText}
use Rattle.sync_order.specs.Order.{has}

-- at this moment the key store has this sync key, under this revision
pub record HasSync (facts : Facts) (key : SyncKey) (revision : ℕ) : Type 0 where
  pub stored : KeyEntry
  pub is : find key_cmp keys.Sync (present_pairs facts.clock facts.keys.pairs) ≡ Some stored
  pub value : stored.value ≡ values.Sync key
  pub written : stored.revision ≡ revision

-- this end of a link is the member of this number
abbrev pub IsMemberAt : ℕ → LinkEnd → Type 0
IsMemberAt m ends.Store = ⊥
IsMemberAt m (ends.Member member) = member.id.number ≡ m

-- the agent of the member of this number doesn't start in this event
abbrev pub StartsNone : ℕ → EventKind → Type 0
StartsNone m (kinds.Agent (agents.Started member incarnation)) = member.id.number ≢ m
StartsNone m _ = Unit {0}

-- behind these events, which began with these facts, the agent of the member of this number has read this sync
-- key: since it last started an answer to a read came to it, which was sent while the key store had that key
pub record HasRead (start : Facts) (book : List Event) (m : ℕ) (key : SyncKey) (revision : ℕ) : Type 0 where
  pub earlier : List Event
  pub between : List Event
  pub later : List Event
  pub sent : Ticks
  pub came : Ticks
  pub number : ℕ
  pub message : Message
  pub is : book ≡ earlier ++ record { tick = sent; kind = kinds.Message (messages.Sent number message) }
      ∷ (between ++ record { tick = came; kind = kinds.Message (messages.Delivered number) } ∷ later)
  pub answers : message.body ≡ bodies.Snapshot
  pub to : IsMemberAt m message.to
  pub tells : HasSync (facts_over start earlier) key revision
  pub since : AllAre (StartsNone m) later

-- behind this book of a cluster of this head the sync key that the last turn of the member of this number
-- read, as its agent stands then, doesn't name it, neither as the leader nor as a standby; and it has read it
pub record HasReadOthers (head : HeadText) (book : List Event) (m : ℕ) : Type 0 where
  pub agent : AgentFacts
  pub stands : slice_get (cluster_over (cluster_of head) book).agents m ≡ Some (Some agent)
  pub turn : SyncRead
  pub is : agent.knows.turn_sync ≡ Some turn
  pub read : HasRead (start_in head) book m turn.key turn.revision
  pub leader : turn.key.leader.number ≢ m
  pub standbys : has turn.key.standbys m ≡ false

-- whoever leads outside the sync key by this event has read, in the events before it, that the key doesn't name it
abbrev pub PassesOutside : HeadText → List Event → EventKind → Type 0
PassesOutside head before (kinds.Agent (agents.Passed member)) = HasReadOthers head before member.id.number
PassesOutside head before _ = Unit {0}

-- so it is wherever a member does in this book of a cluster of this head
abbrev pub PassOutside : HeadText → List Event → Type 0
PassOutside head book = (front rest : List Event) (event : Event) → front ++ event ∷ rest ≡ book
    → PassesOutside head front event.kind
