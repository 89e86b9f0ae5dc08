-- A PostgreSQL server as data.
use Rattle.std.specs.Prelude.{ℕ, Bool, true, false, List, [], ◌∷◌, Option, Some, None, replicate}
use Rattle.pat_base.specs.declared.lsn.Lsn.{Lsn}
use Rattle.pat_base.specs.declared.ticks.Ticks.{Ticks}
use Rattle.pat_base.specs.declared.server_id.ServerId.{ServerId}
use Rattle.pat_base.specs.declared.member_set.MemberSet.{MemberSet}
use Rattle.pat_base.specs.declared.server_state.State.{State}
use Rattle.pat_base.specs.declared.server_state.State.TheVariants as states
use Rattle.pat_base.specs.declared.server_state.Required.{Required}
pub use Rattle.pat_base.specs.ServerState.{is_down, is_replica}
use Rattle.pat_base.specs.declared.server_state.Required.TheVariants as required
use Rattle.wal_model.specs.declared.entry.Entry.{Entry}
use Rattle.wal_model.specs.declared.entry.HistoryPoint.{HistoryPoint}
use Rattle.pg_model.specs.declared.waiting.Waiting.{Waiting}
use Rattle.pat_base.specs.declared.member_id.TheConstants.{MOST_MEMBERS}

-- all that a server keeps
pub record ServerFacts : Type 0 where
  pub state : State
  pub log : Option (List Entry)
  pub timeline : ℕ
  pub history : List HistoryPoint
  -- for how many more points of the history there is room
  pub spare : ℕ
  -- whom it follows as a replica
  pub upstream : Option ServerId
  -- its log is no prefix of its upstream's
  pub diverged : Bool
  -- its last run was a primary
  pub was_primary : Bool
  -- whose confirmation its commits wait for
  pub required : Required
  -- the position that each member confirmed, by its number
  pub confirmed : List (Option Lsn)
  -- the commits that wait for acknowledgement, the oldest first
  pub waiting : List Waiting
  -- how long later stops and starts take
  pub stop_delay : Ticks
  pub start_delay : Ticks
  -- what it was told last: whether it receives from its upstream, and which members are connected to it
  pub receives : Bool
  pub connected : MemberSet

-- no member confirmed a position
abbrev pub none_confirmed : List (Option Lsn)
none_confirmed = replicate MOST_MEMBERS None

-- a new server: a running replica on timeline 1, whose log has so many bytes and no commit
abbrev pub fresh : ℕ → ServerFacts
fresh base = record {
  state = states.Replica;
  log = Some (record { serial = 0; timeline = 1; bytes = base } ∷ []);
  timeline = 1;
  history = [];
  spare = 0;
  upstream = None;
  diverged = false;
  was_primary = false;
  required = required.Nobody;
  confirmed = none_confirmed;
  waiting = [];
  stop_delay = record { 0 = 0 };
  start_delay = record { 0 = 0 };
  receives = false;
  connected = record { bits = 0 };
}

-- the entries of a log, none where it is absent
abbrev pub entries_of : Option (List Entry) → List Entry
entries_of None = []
entries_of (Some entries) = entries

-- it waits for a copy of another server, and has no log
abbrev pub is_creating : State → Bool
is_creating states.Creating = true
is_creating _ = false

-- it runs, or starts
abbrev pub is_up : State → Bool
is_up (states.Starting as_primary at) = true
is_up states.Replica = true
is_up states.Primary = true
is_up _ = false

-- it runs, as a primary or as a replica
abbrev pub is_running : State → Bool
is_running states.Replica = true
is_running states.Primary = true
is_running _ = false

-- it has a log
abbrev pub has_data : State → Bool
has_data states.Creating = false
has_data _ = true
