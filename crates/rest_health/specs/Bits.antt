-- The bit of each fact in a word.
use Rattle.std.specs.Prelude.{ℕ}

-- the server runs as the primary
abbrev pub primary : ℕ
primary = 1

-- the server runs as a replica
abbrev pub replica : ℕ
replica = 2

-- the agent holds the leader key
abbrev pub has_key : ℕ
has_key = 4

-- the member's tag noloadbalance is set
abbrev pub no_load_balance : ℕ
no_load_balance = 8

-- the sync key names the member as a synchronous standby
abbrev pub standby : ℕ
standby = 16

-- the member lags no further than the query allows
abbrev pub within_lag : ℕ
within_lag = 32

-- the agent's last turn was at most the ttl ago, as a primary's has to be
abbrev pub fresh_as_primary : ℕ
fresh_as_primary = 64

-- the agent's last turn was at most twice the ttl ago, as that of any other member has to be
abbrev pub fresh_otherwise : ℕ
fresh_otherwise = 128

-- a word with no bits but these is below this
abbrev pub bound : ℕ
bound = 256
