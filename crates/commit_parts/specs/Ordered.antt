-- Required lists and sync key of a run in order: at each moment, and
-- at each event that changes the sync key or asks to.
use Rattle.std.specs.Prelude.{ℕ, List, [], ◌∷◌, Option, Some, slice_get}
use Rattle.store_keys.specs.declared.txn.Txn.TheVariants as txns
use Rattle.store_keys.specs.declared.txn.SyncTxn.TheVariants as sync_txns
use Rattle.script_model.specs.Script.{HeadText}
use Rattle.event_book.specs.declared.event.Event.{Event}
use Rattle.event_book.specs.declared.event.EventKind.{EventKind}
use Rattle.event_book.specs.declared.event.EventKind.TheVariants as kinds
use Rattle.event_book.specs.declared.event.MessageEvent.TheVariants.{Sent}
use Rattle.event_book.specs.declared.event.StoreEvent.TheVariants as stores
use Rattle.event_book.specs.declared.link.LinkEnd.{LinkEnd}
use Rattle.event_book.specs.declared.link.LinkEnd.TheVariants as ends
use Rattle.event_book.specs.declared.message.Body.{Body}
use Rattle.event_book.specs.declared.message.Body.TheVariants as bodies
use Rattle.agent_model.specs.Agents.{AgentFacts}
use Rattle.sync_state.specs.Standbys.{noted_position}
use Rattle.cluster_model.specs.Cluster.{cluster_after}
use Rattle.cluster_model.specs.Starting.{cluster_of}
use Rattle.cluster_model.specs.State.{Cluster}
use Rattle.event_book.specs.Functions.{set_members}
use Rattle.commit_actions.specs.Carried.{NamesMember}
use Rattle.commit_actions.specs.Past.{Past, past_after, publish_request}
use Rattle.commit_showing.specs.Order.{IsAwaiting}
use Rattle.commit_showing.specs.Requests.{PublishesAwaited}
use Rattle.commit_parts.specs.Reading.{past_of}

-- the log position that an agent noted, 0 where it noted none or isn't
-- there: a standby must confirm it before it is published
abbrev pub noted_by : Option (Option AgentFacts) → ℕ
noted_by (Some (Some agent)) = noted_position agent.knows.noted
noted_by _ = 0

-- a member that asks to publish standbys does so in order: each that
-- it adds is awaited, and has confirmed what it noted
abbrev pub AsksInOrder : Past → Cluster → LinkEnd → ℕ → ℕ → Body → Type 0
AsksInOrder past cluster (ends.Member by) incarnation sequence
    (bodies.Request (txns.Sync (sync_txns.SetSync leader sync standbys may_lack))) =
    PublishesAwaited past by.id.number (noted_by (slice_get cluster.agents by.id.number))
    (publish_request by.id.number incarnation sequence leader sync standbys may_lack) (set_members standbys)
AsksInOrder past cluster from incarnation sequence body = Unit {0}

-- a claim that is granted found no sync key, or one that names its
-- sender as leader or standby; and who asks to publish does so in order
abbrev pub HappensInOrder : Past → Cluster → EventKind → Type 0
HappensInOrder past cluster (kinds.Message (Sent number message)) =
    AsksInOrder past cluster message.from message.incarnation message.sequence message.body
HappensInOrder past cluster
    (kinds.Store (stores.Granted number by (txns.Sync (sync_txns.Claim leader sync)) standbys)) =
    NamesMember past.sync by.id.number
HappensInOrder past cluster _ = Unit {0}

-- each of these events does, behind this past and cluster
abbrev pub AllInOrder : Past → Cluster → List Event → Type 0
AllInOrder past cluster [] = Unit {0}
AllInOrder past cluster (event ∷ events) = HappensInOrder past cluster event.kind
    × AllInOrder (past_after past event.kind) (cluster_after cluster event.kind) events

-- at the end of this book of a cluster of this head the order is kept, and it was at each of its events
pub record StaysInOrder (head : HeadText) (book : List Event) : Type 0 where
  pub now : IsAwaiting (past_of head book)
  pub each : AllInOrder (past_of head []) (cluster_of head) book
