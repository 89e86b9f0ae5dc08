-- The leader key of a member, who asks for it, and how the key store answers its holder.
use Rattle.std.specs.Prelude.{ℕ, ◌≡◌, ◌≢◌, ◌+◌, ◌<◌, ◌⊎◌, true, List, Some, None, length}
use Rattle.std.specs.FinMap.{find}
use Rattle.store_keys.specs.declared.key.Key.{Key}
use Rattle.store_keys.specs.declared.key.Key.TheVariants as keys
use Rattle.store_keys.specs.declared.txn.Txn.{Txn}
use Rattle.store_keys.specs.declared.value.KeyEntry.{KeyEntry}
use Rattle.lease_store.specs.Answers.{present_pairs}
use Rattle.lease_store.specs.Decision.{Decision}
use Rattle.lease_store.specs.KeyOrder.{key_cmp}
use Rattle.cluster_view.specs.declared.snapshot.LeaderEntry.{LeaderEntry}
use Rattle.cluster_view.specs.Snapshots.{found_by, leader_by}
use Rattle.event_book.specs.declared.event.EventKind.{EventKind}
use Rattle.event_book.specs.declared.event.EventKind.TheVariants as kinds
use Rattle.event_book.specs.declared.event.StoreEvent.TheVariants as stores
use Rattle.event_book.specs.declared.link.LinkEnd.{LinkEnd}
use Rattle.event_book.specs.declared.link.LinkEnd.TheVariants as ends
use Rattle.event_book.specs.declared.message.Body.{Body}
use Rattle.event_book.specs.declared.message.Body.TheVariants as bodies
use Rattle.event_book.specs.declared.message.Message.{Message}
use Rattle.event_book.specs.Flight.{Flight, InFlightFacts, grant_for, in_flight, snapshot_for, without_message}
use Rattle.cluster_model.specs.Limits.{most_in_flight}
use Rattle.cluster_model.specs.Messages.{answer_message, decision_body}
use Rattle.cluster_model.specs.State.{Cluster}
use Rattle.lease_owners.specs.Asking.{AsksFor}
use Rattle.leading_parts.specs.Alone.{IsOwnRequest}
use Rattle.lease_book.specs.Flights.{Rises}
use Rattle.lease_model.specs.Leases.{LeaderKey}
use Rattle.lease_model.specs.Outcomes.{renewed}
use Rattle.lease_model.specs.Stores.{leader_key_of}

-- the key store has this leader key
abbrev pub HasKey : LeaderKey → Cluster → Type 0
HasKey key cluster = leader_key_of (find key_cmp keys.Leader cluster.facts.keys.pairs) ≡ Some key

-- the leader key is as it was before
abbrev pub LeavesKey : Cluster → Cluster → Type 0
LeavesKey before after =
    find key_cmp keys.Leader after.facts.keys.pairs ≡ find key_cmp keys.Leader before.facts.keys.pairs

-- this end of a link is the member of this number
abbrev pub IsMemberOf : ℕ → LinkEnd → Type 0
IsMemberOf n (ends.Member member) = member.id.number ≡ n
IsMemberOf n ends.Store = ⊥

-- neither a renewal nor a release of the leader key of this revision is on its way
abbrev pub NoneAsks : ℕ → Flight → Type 0
NoneAsks revision flight = (i : ℕ) (carried : InFlightFacts) → in_flight flight i ≡ Some carried
    → AsksFor revision carried.message.body → ⊥

-- once the message of this number came, fewer are in flight than may be
abbrev pub HasRoom : Cluster → ℕ → Type 0
HasRoom cluster number = length (without_message cluster.facts.flight number) < most_in_flight

-- the entries that a message carries show this leader key
pub record ShowsKey (key : LeaderKey) (entries : List (Key × KeyEntry)) : Type 0 where
  pub leader : LeaderEntry
  pub is : found_by leader_by (find key_cmp keys.Leader entries) ≡ Some leader
  pub holder : leader.holder.number ≡ key.holder
  pub revision : leader.revision ≡ key.revision

-- the key store's answer to this question is in flight under this number:
-- it says this, was sent at this moment, and shows this leader key
pub record IsAnswered (question : Message) (body : Body) (key : LeaderKey) (number : ℕ) (cluster : Cluster) : Type
    0 where
  pub carried : InFlightFacts
  pub is : in_flight cluster.facts.flight number ≡ Some carried
  pub message : carried.message ≡ answer_message question body
  pub sent : carried.sent.0 ≡ cluster.facts.clock
  pub shows : ShowsKey key carried.snapshot
  pub taken : carried.snapshot
      ≡ snapshot_for body (present_pairs cluster.facts.clock cluster.facts.keys.pairs)
  pub grant : carried.grant ≡ grant_for body question.from cluster.facts.keys.revision

-- the leader key after its renewal at this moment for this span
abbrev pub renewed_key : Cluster → LeaderKey → ℕ → LeaderKey
renewed_key cluster key ttl = renewed cluster.facts.clock (cluster.facts.keys.revision + 1) ttl key

-- the renewal of the leader key for this span is granted, by the message of this
-- number: the key has the next revision and lasts longer, its holder's answer is in
-- flight in place of its question, and nobody asks for that revision yet
pub record IsRenewal (question : Message) (request ttl : ℕ) (key : LeaderKey) (before after : Cluster) : Type 0 where
  pub has : HasKey (renewed_key before key ttl) after
  pub granted : after.facts.keys.revision ≡ before.facts.keys.revision + 1
  pub answered : IsAnswered question (bodies.Granted request true) (renewed_key before key ttl)
      (before.facts.sent + 1) after
  pub alone : NoneAsks (before.facts.keys.revision + 1) after.facts.flight

-- no operator's request is granted in this event
abbrev pub GrantsNoOperator : EventKind → Type 0
GrantsNoOperator (kinds.Store (stores.Granted number by txn standbys)) = IsOwnRequest txn
GrantsNoOperator _ = Unit {0}

-- nothing that operators ask for is in the key store: neither a failover nor a scheduled switchover
pub record IsUnasked (pairs : List (Key × KeyEntry)) : Type 0 where
  pub failover : find key_cmp keys.Failover pairs ≡ None
  pub scheduled : find key_cmp keys.Scheduled pairs ≡ None

-- the configuration is as it was, and operators ask for nothing if they asked for nothing
pub record LeavesSettings (before after : Cluster) : Type 0 where
  pub config : find key_cmp keys.Config after.facts.keys.pairs ≡ find key_cmp keys.Config before.facts.keys.pairs
  pub unasked : IsUnasked before.facts.keys.pairs → IsUnasked after.facts.keys.pairs

-- the message of this number came to the key store: it is in flight no more, and all that is new is an answer to it
pub record LeavesAnswer (question : Message) (number : ℕ) (before after : Cluster) : Type 0 where
  pub clock : after.facts.clock ≡ before.facts.clock
  pub order : Rises 0 after.facts.flight
  pub sent : after.facts.sent ≡ before.facts.sent + 1
  pub others : (i : ℕ) → i ≢ number → i ≢ before.facts.sent + 1
      → in_flight after.facts.flight i ≡ in_flight before.facts.flight i
  pub fresh : (i : ℕ) (carried : InFlightFacts) → in_flight after.facts.flight i ≡ Some carried
      → ((i ≢ number) × (in_flight before.facts.flight i ≡ Some carried))
      ⊎ ((i ≡ before.facts.sent + 1) × ((body : Body) × (carried.message ≡ answer_message question body)))

-- the key store's decision on this request is in flight to who asked
pub record IsDecidedOn (question : Message) (request : ℕ) (txn : Txn) (number : ℕ) (after : Cluster) : Type 0 where
  pub carried : InFlightFacts
  pub is : in_flight after.facts.flight number ≡ Some carried
  pub decision : Decision
  pub message : carried.message ≡ answer_message question (decision_body request txn decision)
  pub taken : carried.snapshot
      ≡ snapshot_for (decision_body request txn decision)
      (present_pairs after.facts.clock after.facts.keys.pairs)
  pub grant : carried.grant ≡ grant_for (decision_body request txn decision) question.from after.facts.keys.revision
