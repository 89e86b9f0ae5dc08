-- What an agent may ask: the key store, and other members.
use Rattle.event_book.specs.declared.message.Body.{Body}
use Rattle.event_book.specs.declared.message.Body.TheVariants as bodies
use Rattle.lease_model.specs.Stores.{IsSpannedTxn}

-- a question to the key store: a read, or a request, of which a create asks for a lease of at least one tick
abbrev pub IsQuestion : Body → Type 0
IsQuestion bodies.Read = Unit {0}
IsQuestion (bodies.Request txn) = IsSpannedTxn txn
IsQuestion _ = ⊥

-- a question that members ask one another
abbrev pub IsAsk : Body → Type 0
IsAsk bodies.Ask = Unit {0}
IsAsk (bodies.FailsafeRequest ttl) = Unit {0}
IsAsk _ = ⊥
