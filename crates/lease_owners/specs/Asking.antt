-- What an input of an agent asks of the leader key, and whence it has the revision.
use Rattle.std.specs.Prelude.{ℕ, ◌≡◌, Some}
use Rattle.store_keys.specs.declared.txn.Txn.TheVariants as txns
use Rattle.store_keys.specs.declared.txn.LeaseTxn.TheVariants as lease_txns
use Rattle.event_book.specs.declared.message.Body.{Body}
use Rattle.event_book.specs.declared.message.Body.TheVariants as bodies
use Rattle.agent_model.specs.declared.heard.Heard.{Heard}
use Rattle.agent_model.specs.declared.heard.Heard.TheVariants as heards
use Rattle.agent_model.specs.declared.output.Output.{Output}
use Rattle.agent_model.specs.declared.output.Output.TheVariants as outputs
use Rattle.agent_model.specs.declared.output.Outgoing.TheVariants as outgoing
use Rattle.agent_model.specs.declared.output.Target.TheVariants as targets
use Rattle.agent_model.specs.Agents.{Outcome}
use Rattle.agent_roles.specs.Powers.{IsAwaitedLease, lease_of}
use Rattle.agent_roles.specs.Seen.{leader_seen_if}

-- this asks for the renewal or the release of the leader key of this revision
abbrev pub AsksFor : ℕ → Body → Type 0
AsksFor revision (bodies.Request (txns.Lease (lease_txns.Renew compared info ttl status row failsafe))) =
    compared ≡ revision
AsksFor revision (bodies.Request (txns.Lease (lease_txns.Release compared))) = compared ≡ revision
AsksFor revision _ = ⊥

-- an agent hears the grant of the lease that it waits for, with this revision
abbrev pub Gives : Heard → Outcome → ℕ → Type 0
Gives (heards.Granted sequence grant snapshot) o revision =
    IsAwaitedLease sequence grant o.knows × (grant.revision ≡ revision)
Gives _ o revision = ⊥

-- whence an agent has a revision for which it asks: its newest snapshot shows the leader key
-- with it as its own, it was that of its lease, or the input gives the lease
pub data HasRevision (heard : Heard) (o after : Outcome) (revision : ℕ) : Type 0 where
  Read : (shown : leader_seen_if after.knows.seen
      ≡ Some (record { holder = after.knows.who.me.number; revision = revision })) → HasRevision heard o after revision
  Held : (was : lease_of o.role ≡ Some revision) → HasRevision heard o after revision
  Given : (gives : Gives heard o revision) → HasRevision heard o after revision

-- an output asks the key store only for what its agent has so
abbrev pub AsksOwn : Heard → Outcome → Outcome → Output → Type 0
AsksOwn heard o after (outputs.Message (outgoing.Send targets.Store sequence body)) =
    (revision : ℕ) → AsksFor revision body → HasRevision heard o after revision
AsksOwn heard o after _ = Unit {0}
