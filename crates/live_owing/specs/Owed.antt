-- Who is owed what the agent of one member replies later.
use Rattle.std.specs.Prelude.{ℕ, ◌+◌, ◌==◌, nat_lt, Bool, true, false, if◌then◌else◌, Option, Some, None}
use Rattle.live_owing.specs.declared.waiting.Owner.{Owner}
use Rattle.live_owing.specs.declared.waiting.Owner.TheVariants as owners
use Rattle.live_owing.specs.declared.waiting.Debt.{Debt}
use Rattle.live_owing.specs.declared.waiting.Outcome.{Outcome}
use Rattle.live_owing.specs.declared.waiting.Outcome.TheVariants as outcomes

-- the most ticks for which a client waits
abbrev pub most_waiting : ℕ
most_waiting = 600

-- what happens at a member
pub data Happening : Type 0 where
  -- it is asked by this one, and replies in the same step, or doesn't
  Asked : Owner → Bool → Happening
  -- it replies in a step in which nobody asks it
  Replied : Happening
  -- a tick has passed
  Ticked : Happening
  -- the client of this number is gone
  Left : ℕ → Happening

-- what is owed to who has just asked
abbrev pub begun : Owner → Debt
begun owner = record { owner = owner; waited = 0 }

-- what is owed after one more tick, to one who waited for so many: a
-- client waits for so many at most, a line without end
abbrev pub waited_on : Owner → ℕ → Option Debt
waited_on (owners.Client client) waited =
    if nat_lt (waited + 1) most_waiting then Some (record { owner = owners.Client client; waited = waited + 1 })
    else None
waited_on owner waited = Some (record { owner = owner; waited = waited })

abbrev pub after_tick : Option Debt → Option Debt
after_tick None = None
after_tick (Some debt) = waited_on debt.owner debt.waited

-- whether it is this client
abbrev pub is_client : ℕ → Owner → Bool
is_client client (owners.Client number) = number == client
is_client client owner = false

-- what is owed once this client is gone
abbrev pub after_leaving : ℕ → Option Debt → Option Debt
after_leaving client None = None
after_leaving client (Some debt) = if is_client client debt.owner then None else Some debt

-- what is owed after what happened: who asked last without a reply waits for one
abbrev pub owed_after : Option Debt → Happening → Option Debt
owed_after owed (Asked owner true) = owed
owed_after owed (Asked owner false) = Some (begun owner)
owed_after owed Replied = None
owed_after owed Ticked = after_tick owed
owed_after owed (Left client) = after_leaving client owed

-- who waits in vain is told so where it is a client
abbrev pub refusal_to : Owner → Option Outcome
refusal_to (owners.Client client) = Some (outcomes.NoResult client)
refusal_to owner = None

abbrev pub refusal : Option Debt → Option Outcome
refusal None = None
refusal (Some debt) = refusal_to debt.owner

-- the same, once nothing is owed any more
abbrev pub refusal_unless : Option Debt → Option Debt → Option Outcome
refusal_unless None owed = refusal owed
refusal_unless (Some left) owed = None

-- the reply is that of who waits
abbrev pub reply_due : Option Debt → Option Outcome
reply_due None = None
reply_due (Some debt) = Some (outcomes.Reply debt.owner)

-- what comes of it, and to whom
abbrev pub given : Option Debt → Happening → Option Outcome
given owed (Asked owner true) = Some (outcomes.Reply owner)
given owed (Asked owner false) = refusal owed
given owed Replied = reply_due owed
given owed Ticked = refusal_unless (after_tick owed) owed
given owed (Left client) = None
