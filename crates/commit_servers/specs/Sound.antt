-- What holds of each server of a cluster, at each moment.
use Rattle.std.specs.Prelude.{ℕ, ◌≡◌, ◌≤◌, ◌<◌, ◌^◌, true, false, List, [], ◌∷◌, Some, slice_get, length}
use Rattle.std.specs.Int.{bit_at}
use Rattle.pat_base.specs.declared.server_state.Required.{Required}
use Rattle.pat_base.specs.declared.server_state.Required.TheVariants as requireds
use Rattle.pat_base.specs.ServerState.{writes}
use Rattle.wal_model.specs.declared.entry.Entry.{Entry}
use Rattle.wal_model.specs.Log.{end_of}
use Rattle.pg_model.specs.declared.waiting.Waiting.{Waiting}
use Rattle.pg_model.specs.Facts.{ServerFacts, entries_of, has_data}
use Rattle.event_book.specs.Facts.{Facts}
use Rattle.commit_actions.specs.Past.{front_to}
use Rattle.commit_actions.specs.States.{HasLog, HasEntryOf}
use Rattle.pat_base.specs.declared.member_id.TheConstants.{MOST_MEMBERS}

-- these entries are of commits up to this number, or of the data before the first commit
abbrev pub AreUpTo : ℕ → List Entry → Type 0
AreUpTo commits [] = Unit {0}
AreUpTo commits (entry ∷ entries) = (entry.serial ≤ commits) × AreUpTo commits entries

-- a commit that waits has an entry in this log, and its end is that of the log up to the first such entry
pub record StandsIn (log : List Entry) (waiting : Waiting) : Type 0 where
  pub entry : HasEntryOf waiting.serial log
  pub end : end_of (front_to waiting.serial log) ≡ waiting.end.position

-- this is so of each of these commits
abbrev pub AllStandIn : List Entry → List Waiting → Type 0
AllStandIn log [] = Unit {0}
AllStandIn log (first ∷ more) = StandsIn log first × AllStandIn log more

-- commits that wait for a set wait for members only
abbrev pub WaitsForMembers : Required → Type 0
WaitsForMembers (requireds.All set) = (m : ℕ) → bit_at set.bits m ≡ 1 → m < MOST_MEMBERS
WaitsForMembers _ = Unit {0}

-- what holds of a server where the last commit has this number
pub record IsServerSound (commits : ℕ) (s : ServerFacts) : Type 0 where
  -- its log ends where a position may be
  pub end : end_of (entries_of s.log) ≤ 2 ^ 63
  pub log : has_data s.state ≡ true → HasLog s.log
  pub numbered : AreUpTo commits (entries_of s.log)
  pub waiting : AllStandIn (entries_of s.log) s.waiting
  -- none waits at a server that accepts no writes
  pub none_waits : writes s.state ≡ false → s.waiting ≡ []
  -- there is a place for what each member may confirm
  pub places : length s.confirmed ≡ MOST_MEMBERS
  pub required : WaitsForMembers s.required

-- it holds of each server that a book leaves
pub record AreServersSound (facts : Facts) : Type 0 where
  pub each : (m : ℕ) (s : ServerFacts) → slice_get facts.servers m ≡ Some s → IsServerSound facts.commits s
