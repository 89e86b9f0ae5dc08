-- What a server does in each state.
use Rattle.std.specs.Prelude.{Bool, true, false}
use Rattle.pat_base.specs.declared.server_state.State.{State}
use Rattle.pat_base.specs.declared.server_state.State.TheVariants as states

-- it was shut down, or crashed
abbrev pub is_down : State → Bool
is_down states.Stopped = true
is_down states.Crashed = true
is_down _ = false

-- it runs as a replica
abbrev pub is_replica : State → Bool
is_replica states.Replica = true
is_replica _ = false

-- it runs and accepts writes
abbrev pub is_primary : State → Bool
is_primary states.Primary = true
is_primary _ = false

-- it accepts writes
abbrev pub writes : State → Bool
writes states.Primary = true
writes (states.Stopping was_primary at) = was_primary
writes _ = false

-- it accepts writes, or will when its start is complete
abbrev pub live : State → Bool
live states.Primary = true
live (states.Stopping was_primary at) = was_primary
live (states.Starting as_primary at) = as_primary
live _ = false
