-- What agents ask: the key store for leases that it can write, and other members.
use Rattle.std.specs.Prelude.{◌≤◌, ◌^◌}
use Rattle.lease_store.specs.Writes.{ttl_of}
use Rattle.event_book.specs.declared.message.Body.{Body}
use Rattle.event_book.specs.declared.message.Body.TheVariants as bodies
use Rattle.agent_model.specs.declared.output.Output.{Output}
use Rattle.agent_model.specs.declared.output.Output.TheVariants as outputs
use Rattle.agent_model.specs.declared.output.Outgoing.{Outgoing}
use Rattle.agent_model.specs.declared.output.Outgoing.TheVariants as outgoing

-- what an agent asks: the key store for leases that it can write, and other members
abbrev pub IsAsked : Body → Type 0
IsAsked bodies.Read = Unit {0}
IsAsked bodies.Ask = Unit {0}
IsAsked (bodies.Request txn) = ttl_of txn ≤ 2 ^ 40
IsAsked (bodies.FailsafeRequest ttl) = ttl.0 ≤ 2 ^ 40
IsAsked _ = ⊥

-- so does what it writes
abbrev pub SendsShortly : Outgoing → Type 0
SendsShortly (outgoing.Send to sequence body) = IsAsked body
SendsShortly _ = Unit {0}

-- so does an output
abbrev pub AsksShortly : Output → Type 0
AsksShortly (outputs.Message written) = SendsShortly written
AsksShortly _ = Unit {0}
