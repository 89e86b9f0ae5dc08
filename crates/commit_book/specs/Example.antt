-- A book with the grant of a claim in flight.
use Rattle.std.specs.Prelude.{false, List, [], ◌∷◌, ◌++◌}
use Rattle.store_keys.specs.declared.txn.Expected.TheVariants.{Absent}
use Rattle.store_keys.specs.declared.txn.Txn.{Txn}
use Rattle.store_keys.specs.declared.txn.Txn.TheVariants as txns
use Rattle.store_keys.specs.declared.txn.SyncTxn.TheVariants as sync_txns
use Rattle.store_keys.specs.declared.value.MemberInfo.{MemberInfo}
use Rattle.event_book.specs.declared.event.Event.{Event}
use Rattle.event_book.specs.declared.event.EventKind.TheVariants as kinds
use Rattle.event_book.specs.declared.event.MessageEvent.TheVariants as messages
use Rattle.event_book.specs.declared.link.LinkEnd.TheVariants as ends
use Rattle.event_book.specs.declared.member.Member.{Member}
use Rattle.event_book.specs.declared.message.Body.TheVariants as bodies
use Rattle.lease_model.specs.Showing.{granted_events}
use Rattle.lease_book.specs.Example.{asked_and_granted}
use Rattle.commit_actions.specs.Keys.{strict_quorum}
use Rattle.commit_actions.specs.Flights.{SyncGrant}

-- a claim of who holds the leader key of revision 2, where there is no sync key
abbrev pub claim_of : Txn
claim_of = txns.Sync (sync_txns.Claim 2 Absent)

-- this member claims the sync key, and the key store grants it
abbrev pub claimed : Member → List Event
claimed by =
    record {
      tick = record { 0 = 0 };
      kind = kinds.Message (messages.Sent 3 (record {
        from = ends.Member by;
        to = ends.Store;
        incarnation = 1;
        sequence = 2;
        body = bodies.Request claim_of;
      }));
    }
    ∷ granted_events (record { 0 = 0 }) 3 4 by 1 2 claim_of []

-- it asks for the leader key before that, and the key store grants both
abbrev pub led_and_claimed : Member → MemberInfo → List Event
led_and_claimed by info = asked_and_granted by info ++ claimed by

-- the grant of the claim that is in flight then
abbrev pub claim_flying : Member → SyncGrant
claim_flying by = record {
  member = by.id.number;
  incarnation = 1;
  sequence = 2;
  key = record { leader = by.id.number; standbys = λ n. false; quorum = strict_quorum; revision = 3 };
}
