-- What the events of an input may send.
use Rattle.std.specs.Prelude.{ℕ, ◌≡◌, Option, Some}
use Rattle.event_book.specs.declared.event.EventKind.{EventKind}
use Rattle.event_book.specs.declared.event.EventKind.TheVariants as kinds
use Rattle.event_book.specs.declared.event.MessageEvent.TheVariants.{Sent}
use Rattle.event_book.specs.declared.message.Message.{Message}
use Rattle.lease_model.specs.Leases.{Flying}
use Rattle.lease_model.specs.Past.{first_past, flying_of}
use Rattle.lease_book.specs.Groups.{IsMemberEnd}

-- what the law reads of a message that a member sends at this moment
abbrev pub flying_from : ℕ → Message → Option Flying
flying_from clock message = flying_of (record first_past { clock = clock }) message.from message.to
    message.incarnation message.sequence message.body

-- at this moment members alone send messages, and this holds of each that the law reads
abbrev pub SendsOnly : (Flying → Type 0) → ℕ → EventKind → Type 0
SendsOnly P clock kinds.Tick = ⊥
SendsOnly P clock (kinds.Message (Sent number message)) =
    IsMemberEnd message.from × ((flying : Flying) → flying_from clock message ≡ Some flying → P flying)
SendsOnly P clock _ = Unit {0}
