-- Whose the revisions of the leader key are that messages in flight carry, and that agents hold.
use Rattle.std.specs.Prelude.{ℕ, ◌≡◌, true, Some, slice_get}
use Rattle.std.specs.FinMap.{find}
use Rattle.store_keys.specs.declared.key.Key.TheVariants as keys
use Rattle.lease_store.specs.declared.granted.Granted.{Granted}
use Rattle.lease_store.specs.KeyOrder.{key_cmp}
use Rattle.lease_store.specs.Keys.{Keys}
use Rattle.cluster_view.specs.Snapshots.{found_by, leader_by}
use Rattle.event_book.specs.declared.link.LinkEnd.TheVariants as ends
use Rattle.event_book.specs.declared.member.Member.{Member}
use Rattle.event_book.specs.Flight.{InFlightFacts, in_flight}
use Rattle.agent_model.specs.Agents.{AgentFacts}
use Rattle.agent_roles.specs.Powers.{lease_of}
use Rattle.agent_roles.specs.Seen.{leader_entry_seen, leader_seen_if}
use Rattle.cluster_model.specs.State.{Cluster}
use Rattle.lease_model.specs.Carried.{IsVouched}
use Rattle.lease_model.specs.Leases.{LeaderSeen}
use Rattle.lease_model.specs.Stores.{leader_key_of}
use Rattle.lease_owners.specs.Asking.{AsksFor}

-- the revision was given, and where the leader key has it, this member is its holder
abbrev pub IsOf : Keys → ℕ → ℕ → Type 0
IsOf known m revision = IsVouched (leader_key_of (find key_cmp keys.Leader known.pairs)) known.revision m revision

-- a message in flight: who asks for the leader key of a revision had it,
-- who is told of a lease has it, and whom a snapshot shows as the holder
pub record CarriesOwn (known : Keys) (carried : InFlightFacts) : Type 0 where
  pub asks : (by : Member) (revision : ℕ) → carried.message.from ≡ ends.Member by
      → AsksFor revision carried.message.body → IsOf known by.id.number revision
  pub tells : (granted : Granted) → carried.grant ≡ Some granted → granted.leased ≡ true
      → IsOf known granted.by.number granted.revision
  pub shows : (seen : LeaderSeen)
      → leader_entry_seen (found_by leader_by (find key_cmp keys.Leader carried.snapshot)) ≡ Some seen
      → IsOf known seen.holder seen.revision

-- an agent of this member: its lease, and what its newest snapshot shows
pub record HoldsOwn (known : Keys) (m : ℕ) (agent : AgentFacts) : Type 0 where
  pub held : (revision : ℕ) → lease_of agent.role ≡ Some revision → IsOf known m revision
  pub read : (seen : LeaderSeen) → leader_seen_if agent.knows.seen ≡ Some seen → IsOf known seen.holder seen.revision

-- each message in flight, and each agent
pub record OwnTheirLeases (cluster : Cluster) : Type 0 where
  pub flight : (i : ℕ) (carried : InFlightFacts) → in_flight cluster.facts.flight i ≡ Some carried
      → CarriesOwn cluster.facts.keys carried
  pub agents : (m : ℕ) (agent : AgentFacts) → slice_get cluster.agents m ≡ Some (Some agent)
      → HoldsOwn cluster.facts.keys m agent
