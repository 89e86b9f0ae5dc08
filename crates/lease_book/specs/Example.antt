-- A book with a grant in flight.
use Rattle.std.specs.Prelude.{List, [], ◌∷◌, Some, None}
use Rattle.store_keys.specs.declared.txn.Txn.{Txn}
use Rattle.store_keys.specs.declared.txn.Txn.TheVariants as txns
use Rattle.store_keys.specs.declared.txn.LeaseTxn.TheVariants as lease_txns
use Rattle.store_keys.specs.declared.value.MemberInfo.{MemberInfo}
use Rattle.event_book.specs.declared.event.Event.{Event}
use Rattle.event_book.specs.declared.event.EventKind.TheVariants as kinds
use Rattle.event_book.specs.declared.event.MessageEvent.TheVariants as messages
use Rattle.event_book.specs.declared.link.LinkEnd.TheVariants as ends
use Rattle.event_book.specs.declared.member.Member.{Member}
use Rattle.event_book.specs.declared.message.Body.TheVariants as bodies
use Rattle.lease_model.specs.Leases.{Answer}
use Rattle.lease_model.specs.Showing.{granted_events}

-- a create with a lease of 300 ticks, which expects nothing of other keys
abbrev pub create_of : MemberInfo → Txn
create_of info = txns.Lease (lease_txns.Create info (record { 0 = 300 }) None None)

-- this member asks for the leader key, and the key store grants it
abbrev pub asked_and_granted : Member → MemberInfo → List Event
asked_and_granted by info =
    record {
      tick = record { 0 = 0 };
      kind = kinds.Message (messages.Sent 1 (record {
        from = ends.Member by;
        to = ends.Store;
        incarnation = 1;
        sequence = 1;
        body = bodies.Request (create_of info);
      }));
    }
    ∷ granted_events (record { 0 = 0 }) 1 2 by 1 1 (create_of info) []

-- the answer that is in flight then
abbrev pub answer_flying : Member → Answer
answer_flying by = record {
  member = by.id.number;
  incarnation = 1;
  sequence = 1;
  leader = Some (record { holder = by.id.number; revision = 2 });
  failsafe = None;
  grant = Some (record { revision = 2; sent = 0; moment = 0; ttl = 300; failsafe = None });
}
