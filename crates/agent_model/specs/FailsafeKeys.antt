-- What an agent reads of the failsafe key, and what it writes there (Patroni documentation, "DCS Failsafe Mode").
use Rattle.std.specs.Prelude.{ℕ, ◌&&◌, if◌then◌else◌, not, Bool, is_some, Option, Some, None}
use Rattle.pat_base.specs.declared.member_set.MemberSet.{MemberSet}
use Rattle.store_keys.specs.declared.key.Key.TheVariants as keys
use Rattle.store_keys.specs.declared.txn.Expected.{Expected}
use Rattle.store_keys.specs.declared.txn.Expected.TheVariants.{Absent, Revision}
use Rattle.store_keys.specs.declared.value.Value.{Value}
use Rattle.cluster_view.specs.Snapshots.{SnapshotFacts, entry_in, failsafe_by, found_by}
use Rattle.failsafe.specs.Listing.{set_to_write}
use Rattle.agent_model.specs.declared.knowledge.Knowledge.{Knowledge}
use Rattle.agent_model.specs.declared.knowledge.FailsafeRead.{FailsafeRead}
use Rattle.agent_model.specs.declared.machine.Machine.{Machine}
use Rattle.agent_model.specs.Agents.{Outcome, is_leader}

-- a failsafe key that was written under this revision
abbrev pub failsafe_read_by : ℕ → Option MemberSet → Option FailsafeRead
failsafe_read_by revision None = None
failsafe_read_by revision (Some members) = Some (record { members = members; revision = revision })

-- the same of a value of it
abbrev pub failsafe_read_at : ℕ → Value → Option FailsafeRead
failsafe_read_at revision value = failsafe_read_by revision (failsafe_by value)

-- the failsafe key that a snapshot has, with its revision
abbrev pub failsafe_read_in : SnapshotFacts → Option FailsafeRead
failsafe_read_in snapshot = found_by failsafe_read_at (entry_in keys.Failsafe snapshot)

-- what a request expects of a failsafe key that was read so
abbrev pub failsafe_expected : Option FailsafeRead → Expected
failsafe_expected None = Absent
failsafe_expected (Some read) = Revision read.revision

-- what a create expects of the failsafe key: with failsafe mode that it is as the turn read it
abbrev pub failsafe_compared : Knowledge → Option Expected
failsafe_compared knows =
    if knows.turn_settings.failsafe_mode then Some (failsafe_expected knows.turn_failsafe) else None

-- acknowledgements set the deadline of the watchdog last, if it has one
abbrev pub is_fed_by_failsafe : Machine → Bool
is_fed_by_failsafe machine = is_some machine.watchdog.deadline && machine.by_failsafe

-- whom an agent is to write into the failsafe key that read this
abbrev pub set_in : Bool → Option SnapshotFacts → Option MemberSet
set_in mode None = None
set_in mode (Some snapshot) = set_to_write mode snapshot

-- whom it writes there with its renewal: it leads, and its deadline is
-- by a grant, so that it asks these before the next one that isn't
abbrev pub set_carried : Outcome → Option MemberSet
set_carried o = if is_leader o.role && not (is_fed_by_failsafe o.machine)
    then set_in o.knows.settings.failsafe_mode o.knows.seen else None
