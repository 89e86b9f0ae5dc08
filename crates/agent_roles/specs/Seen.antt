-- What the law of the lease sees of an agent and of its machine.
use Rattle.std.specs.Prelude.{ℕ, if◌then◌else◌, Option, Some, None}
use Rattle.pat_base.specs.declared.member_set.MemberSet.{MemberSet}
use Rattle.pat_base.specs.declared.ticks.Ticks.{Ticks}
use Rattle.pat_base.specs.ServerState.{live}
use Rattle.store_keys.specs.declared.key.Key.TheVariants as keys
use Rattle.store_keys.specs.declared.value.KeyEntry.{KeyEntry}
use Rattle.cluster_view.specs.declared.snapshot.LeaderEntry.{LeaderEntry}
use Rattle.cluster_view.specs.Snapshots.{SnapshotFacts, entry_in, leader_in, failsafe_by}
use Rattle.lease_model.specs.Leases.{LeaderSeen, FailsafeKey}
use Rattle.event_book.specs.Functions.{set_members}
use Rattle.failsafe.specs.declared.asks.Ask.{Ask}
use Rattle.lease_model.specs.States.{FailsafeCheck, Agent as AgentSeen, Machine as MachineSeen}
use Rattle.agent_model.specs.declared.knowledge.FailsafeRead.{FailsafeRead}
use Rattle.agent_model.specs.StayingPrimary.{is_staying}
use Rattle.agent_model.specs.declared.knowledge.Knowledge.{Knowledge}
use Rattle.agent_model.specs.declared.knowledge.PendingQuestion.{PendingQuestion}
use Rattle.agent_model.specs.declared.machine.Machine.{Machine}
use Rattle.agent_model.specs.Agents.{RoleFacts, is_ready}
use Rattle.agent_model.specs.Decisions.{asks_lease}
use Rattle.agent_roles.specs.Powers.{lease_of, leads}

-- the number of what is waited for, if that is a create or a renewal
abbrev pub lease_asked : Option PendingQuestion → Option ℕ
lease_asked None = None
lease_asked (Some waited) = if asks_lease waited.question then Some waited.sequence else None

-- what the law sees of a leader
abbrev pub leader_entry_seen : Option LeaderEntry → Option LeaderSeen
leader_entry_seen None = None
leader_entry_seen (Some leader) = Some (record { holder = leader.holder.number; revision = leader.revision })

-- what the law sees of a failsafe key of this revision that lists these members
abbrev pub failsafe_listed : ℕ → Option MemberSet → Option FailsafeKey
failsafe_listed revision None = None
failsafe_listed revision (Some members) = Some (record { revision = revision; members = set_members members })

-- the same of the entry of the failsafe key
abbrev pub failsafe_entry_seen : Option KeyEntry → Option FailsafeKey
failsafe_entry_seen None = None
failsafe_entry_seen (Some found) = failsafe_listed found.revision (failsafe_by found.value)

-- what the law sees of the leader key of a snapshot
abbrev pub leader_seen : SnapshotFacts → Option LeaderSeen
leader_seen snapshot = leader_entry_seen (leader_in snapshot)

-- what the law sees of the failsafe key of a snapshot
abbrev pub failsafe_seen : SnapshotFacts → Option FailsafeKey
failsafe_seen snapshot = failsafe_entry_seen (entry_in keys.Failsafe snapshot)

-- the same of a snapshot that may be absent
abbrev pub leader_seen_if : Option SnapshotFacts → Option LeaderSeen
leader_seen_if None = None
leader_seen_if (Some snapshot) = leader_seen snapshot

-- the same of a snapshot that may be absent
abbrev pub failsafe_seen_if : Option SnapshotFacts → Option FailsafeKey
failsafe_seen_if None = None
failsafe_seen_if (Some snapshot) = failsafe_seen snapshot

-- what the law sees of a failsafe key that a turn read
abbrev pub failsafe_read_seen : Option FailsafeRead → Option FailsafeKey
failsafe_read_seen None = None
failsafe_read_seen (Some read) = Some (record { revision = read.revision; members = set_members read.members })

-- what the law sees of the acknowledgements that an agent waits for, if it does
abbrev pub check_seen : Ask → Option PendingQuestion → Option FailsafeCheck
check_seen ask None = None
check_seen ask (Some waited) = if is_staying waited.question then Some (record {
  sequence = waited.sequence;
  ttl = waited.ttl.0;
  sent = waited.sent.0;
  members = set_members ask.members;
  yes = set_members ask.acknowledged;
})
    else None

-- what the law sees of an agent in this role
abbrev pub agent_seen : RoleFacts → Knowledge → AgentSeen
agent_seen role knows = record {
  incarnation = knows.incarnation;
  last = knows.sequence;
  waits = lease_asked knows.waited;
  lease = lease_of role;
  ready = is_ready role;
  leads = leads role;
  leader = leader_seen_if knows.seen;
  failsafe = failsafe_read_seen knows.turn_failsafe;
  known = set_members knows.known;
  informed = knows.informed;
  failsafe_check = check_seen knows.failsafe knows.waited;
}

-- a moment as the law counts it, if there is one
abbrev pub moment_seen : Option Ticks → Option ℕ
moment_seen None = None
moment_seen (Some moment) = Some moment.0

-- the end of a hold as the law counts it: 0 where none was taken
abbrev pub hold_seen : Option Ticks → ℕ
hold_seen None = 0
hold_seen (Some hold) = hold.0

-- what the law sees of a machine, by its agent if that runs, and by how many incarnations have begun
abbrev pub machine_with : Option AgentSeen → Machine → ℕ → MachineSeen
machine_with agent machine runs = record {
  live = live machine.server.state;
  deadline = moment_seen machine.watchdog.deadline;
  by_failsafe = machine.by_failsafe;
  hold = hold_seen machine.hold;
  agent = agent;
  runs = runs;
}

-- the same with an agent in this role
abbrev pub machine_seen : RoleFacts → Knowledge → Machine → ℕ → MachineSeen
machine_seen role knows machine runs = machine_with (Some (agent_seen role knows)) machine runs
