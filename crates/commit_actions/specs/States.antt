-- The state of a cluster, as far as commits need it.
use Rattle.std.specs.Prelude.{ℕ, ◌≡◌, ◌⊎◌, ◌≤◌, Bool, true, false, List, [], ◌∷◌, ◌++◌, Option, Some, None}
use Rattle.wal_model.specs.declared.entry.Entry.{Entry}
use Rattle.wal_model.specs.Log.{IsPrefixOf}
use Rattle.commit_actions.specs.Keys.{SyncKey, Confirmers}
use Rattle.commit_actions.specs.Flights.{Flying}

-- a race for the leader key: the number of its asks, and where the logs end of the members that answered
pub record Race : Type 0 where
  pub sequence : ℕ
  pub ends : ℕ → Option ℕ

-- an agent that runs
pub record Agent : Type 0 where
  -- its incarnation, and the greatest number of a request of this incarnation
  pub incarnation : ℕ
  pub last : ℕ
  -- the number of the create, the renewal or the write of the sync key that it waits for
  pub waits : Option ℕ
  -- the sync key in the snapshot of its turn, the race of its turn, and whether it won that
  pub turn : Option SyncKey
  pub race : Option Race
  pub won : Bool
  -- it is Ready: armed, and about to begin; it leads
  pub ready : Bool
  pub leads : Bool
  -- the log position that it noted: a standby must confirm it before it is published
  pub noted : ℕ

-- the machine of a member
pub record Machine : Type 0 where
  -- its server accepts writes, or will when its start is complete; it accepts writes
  pub live : Bool
  pub writes : Bool
  -- whom its commits wait for, and the log positions that others confirmed to it
  pub required : Confirmers
  pub confirmed : ℕ → Option ℕ
  -- its log, which is absent after a wipe
  pub log : Option (List Entry)
  pub agent : Option Agent
  -- how many incarnations of its agent have begun
  pub runs : ℕ

-- what commits need of all that happened
pub record State : Type 0 where
  -- members have numbers below this one
  pub member_count : ℕ
  -- creates of the leader key compare the sync key: in quorum mode with failsafe mode
  pub creates_compare : Bool
  pub sync : Option SyncKey
  -- the revision of the leader key, the member that it names, and
  -- whether that member was live when it asked for a renewal of it
  pub leader : Option ℕ
  pub holder : ℕ
  pub holder_was_live : Bool
  -- the revision of the failsafe key
  pub failsafe_revision : Option ℕ
  -- the last granted revision
  pub revision : ℕ
  -- the messages in flight by their numbers
  pub flight : ℕ → Option Flying
  pub members : ℕ → Machine
  -- the longest log up to an acknowledged commit, and the numbers of all acknowledged commits
  pub acknowledged_log : List Entry
  pub acknowledged : List ℕ

-- the agent runs, and is Ready
abbrev pub is_ready : Option Agent → Bool
is_ready None = false
is_ready (Some agent) = agent.ready

-- its server is live, or its agent is Ready
abbrev pub Acts : Machine → Type 0
Acts x = (x.live ≡ true) ⊎ (is_ready x.agent ≡ true)

-- there is no log, or one that begins with these entries
abbrev pub Includes : List Entry → Option (List Entry) → Type 0
Includes entries None = Unit {0}
Includes entries (Some log) = IsPrefixOf entries log

-- there is no log, or one that has not diverged from these entries: one of both is a front of the other
abbrev pub IsUndiverged : List Entry → Option (List Entry) → Type 0
IsUndiverged entries None = Unit {0}
IsUndiverged entries (Some log) = IsPrefixOf entries log ⊎ IsPrefixOf log entries

-- the second log is absent, or a front of the first
abbrev pub IsBehind : Option (List Entry) → Option (List Entry) → Type 0
IsBehind mine None = Unit {0}
IsBehind None (Some theirs) = ⊥
IsBehind (Some mine) (Some theirs) = IsPrefixOf theirs mine

-- what was confirmed is at or past this position
abbrev pub Reaches : ℕ → Option ℕ → Type 0
Reaches position None = ⊥
Reaches position (Some end) = position ≤ end

-- the log is there
pub record HasLog (log : Option (List Entry)) : Type 0 where
  pub entries : List Entry
  pub is : log ≡ Some entries

-- the log has an entry of this commit
pub record HasEntryOf (commit : ℕ) (log : List Entry) : Type 0 where
  pub front : List Entry
  pub entry : Entry
  pub rest : List Entry
  pub whole : log ≡ front ++ entry ∷ rest
  pub serial : entry.serial ≡ commit

-- each entry has bytes
abbrev pub HaveBytes : List Entry → Type 0
HaveBytes [] = Unit {0}
HaveBytes (entry ∷ entries) = (1 ≤ entry.bytes) × HaveBytes entries

-- the agent of this machine waits, in this incarnation, for the answer to the request of this number
pub record Waits (x : Machine) (incarnation sequence : ℕ) : Type 0 where
  pub agent : Agent
  pub is : x.agent ≡ Some agent
  pub run_is : agent.incarnation ≡ incarnation
  pub waits : agent.waits ≡ Some sequence
