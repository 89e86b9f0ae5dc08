-- What an agent does once it has read what the key store holds.
use Rattle.std.specs.Prelude.{ℕ, ◌==◌, ◌&&◌, ◌||◌, if◌then◌else◌, not, Bool, true, false, is_some, find, List, Option, Some, None}
use Rattle.std.specs.Int.Bits.{bit_or}
use Rattle.std.specs.Option.{option_map}
use Rattle.pat_base.specs.declared.lsn.Lsn.{Lsn}
use Rattle.pat_base.specs.declared.member_id.MemberId.{MemberId}
use Rattle.pat_base.specs.declared.member_set.MemberSet.{MemberSet}
use Rattle.pat_base.specs.declared.server_state.State.{State}
use Rattle.pat_base.specs.declared.server_state.State.TheVariants as states
use Rattle.pat_base.specs.declared.ticks.Ticks.{Ticks}
use Rattle.store_keys.specs.declared.txn.Txn.{Txn}
use Rattle.store_keys.specs.declared.txn.Txn.TheVariants as txns
use Rattle.store_keys.specs.declared.txn.LeaseTxn.TheVariants as lease_txns
use Rattle.store_keys.specs.declared.value.HistoryRow.{HistoryRow}
use Rattle.wal_model.specs.declared.entry.HistoryPoint.{HistoryPoint}
use Rattle.pg_model.specs.declared.status.ServerStatus.{ServerStatus}
use Rattle.pg_model.specs.Running.{is_primary}
use Rattle.event_book.specs.declared.message.Body.TheVariants as bodies
use Rattle.event_book.specs.declared.reason.Reason.TheVariants.{LeaderKeyLost}
use Rattle.cluster_view.specs.declared.snapshot.LeaderEntry.{LeaderEntry}
use Rattle.cluster_view.specs.KeyValues.{failover_in}
use Rattle.cluster_view.specs.Snapshots.{SnapshotFacts, leader_in, settings_in, failsafe_in, has_row}
use Rattle.agent_model.specs.declared.knowledge.Knowledge.{Knowledge}
use Rattle.agent_model.specs.declared.knowledge.Question.{Question}
use Rattle.agent_model.specs.declared.knowledge.Question.TheVariants.{Reading, Renewing}
use Rattle.agent_model.specs.declared.knowledge.PendingQuestion.{PendingQuestion}
use Rattle.agent_model.specs.declared.why.Why.TheVariants.{Lost}
use Rattle.agent_model.specs.Acting.{seconds_after, lease_span, asking, touching, waiting_no_more, ending_server, shutting_down, starting_replica, following_server, is_hold_active}
use Rattle.agent_model.specs.Agents.{RoleFacts, Follower, Holder, Leader, Ending, Unleased, Outcome}
use Rattle.agent_model.specs.FailsafeKeys.{failsafe_read_in, set_carried}
use Rattle.agent_model.specs.Info.{info_of}
use Rattle.agent_model.specs.Repairs.{is_upstream, repair_of, repaired_if}
use Rattle.agent_model.specs.Pausing.{is_paused, may_start_behind, ends_forks, running_without_key}
use Rattle.agent_model.specs.Racing.{creating, finds_free}
use Rattle.agent_model.specs.Synchronous.{sync_read_in}

-- the members that are known, with those that a failsafe key lists
abbrev pub known_with : MemberSet → Option MemberSet → MemberSet
known_with known None = known
known_with known (Some members) = record { bits = bit_or known.bits members.bits }

-- a snapshot is the newest: its settings hold from now on, its
-- failsafe key's members are known, and nothing is waited for
abbrev pub informed : SnapshotFacts → Knowledge → Knowledge
informed snapshot knows = record knows {
  waited = None;
  seen = Some snapshot;
  settings = settings_in knows.settings snapshot;
  known = known_with knows.known (failsafe_in snapshot);
  informed = knows.informed || is_some (failsafe_in snapshot);
}

-- the leader key is lost: a leader ends its server, and will have no lease when that has ended
abbrev pub leader_loses_key : Ticks → ℕ → Outcome → Outcome
leader_loses_key now revision o = record (ending_server now LeaderKeyLost o) { role = Ending revision Lost }

-- so does one that has no lease while its server is live
abbrev pub unleased_loses_key : Ticks → Outcome → Outcome
unleased_loses_key now o = ending_server now LeaderKeyLost o

-- a leader doesn't have the leader key: in a pause its server runs on
abbrev pub leader_without_key : Ticks → ℕ → Outcome → Outcome
leader_without_key now revision o = if is_paused o.knows then running_without_key o else leader_loses_key now revision o

-- so does that of one that has no lease
abbrev pub unleased_without_key : Ticks → Outcome → Outcome
unleased_without_key now o = if is_paused o.knows then running_without_key o else unleased_loses_key now o

-- a server runs on while nobody leads, and its agent asks for the leader key
abbrev pub asks_as_unleased : Ticks → Outcome → Outcome
asks_as_unleased now o = creating now (running_without_key o)

-- a leader finds that nobody leads
abbrev pub leader_finds_free : Ticks → ℕ → Outcome → Outcome
leader_finds_free now revision o = if is_paused o.knows then asks_as_unleased now o else leader_loses_key now revision o

-- so does one that has no lease
abbrev pub unleased_finds_free : Ticks → Outcome → Outcome
unleased_finds_free now o = if is_paused o.knows then asks_as_unleased now o else unleased_loses_key now o

-- a primary tells where its log ends
abbrev pub status_told : ServerStatus → Option Lsn
status_told server = if is_primary server.state then server.end else None

-- the row of the history for a point, as its member writes it at this moment
abbrev pub row_at : Ticks → MemberId → HistoryPoint → HistoryRow
row_at now me point = record { timeline = point.timeline; at = point.at; tick = now; leader = me }

-- the first point of a history that a snapshot has no row for
abbrev pub missing_point : SnapshotFacts → List HistoryPoint → Option HistoryPoint
missing_point snapshot points = find (λ point. not (has_row point.timeline snapshot)) points

-- the row for it, over the newest snapshot
abbrev pub missing_row : Ticks → MemberId → Option SnapshotFacts → List HistoryPoint → Option HistoryRow
missing_row now me None points = None
missing_row now me (Some snapshot) points = option_map (row_at now me) (missing_point snapshot points)

-- the row that a primary tells with its renewal, if one is missing
abbrev pub row_told : Ticks → List HistoryPoint → Knowledge → ServerStatus → Option HistoryRow
row_told now points knows server =
    if is_primary server.state then missing_row now knows.who.me knows.seen points else None

-- the renewal of this revision, with what it tells of the member and
-- of its server, and whom it writes into the failsafe key
abbrev pub renewal : Ticks → List HistoryPoint → ℕ → Knowledge → ServerStatus → Option MemberSet → Txn
renewal now points revision knows server carried = txns.Lease (lease_txns.Renew revision (info_of knows.who server)
    (lease_span knows.settings) (status_told server) (row_told now points knows server) carried)

-- when the turn began that asks this
abbrev pub turn_start : Ticks → Option Ticks → Ticks
turn_start now None = now
turn_start now (Some moment) = moment

-- the members that it writes into the failsafe key are known
abbrev pub carrying : Option MemberSet → Outcome → Outcome
carrying carried o = record o { knows = record o.knows { known = known_with o.knows.known carried } }

-- the agent asks for the renewal of the leader key that it read, and writes these members into the failsafe key, if any
abbrev pub renewing_with : Ticks → List HistoryPoint → ℕ → Option MemberSet → Outcome → Outcome
renewing_with now points revision carried o =
    asking now Renewing (seconds_after (turn_start now o.knows.last_turn) o.knows.settings.retry_timeout)
    (bodies.Request (renewal now points revision o.knows o.machine.server carried)) (carrying carried o)

-- the agent asks for the renewal of the leader key that it read
abbrev pub renewing : Ticks → List HistoryPoint → ℕ → Outcome → Outcome
renewing now points revision o = renewing_with now points revision (set_carried o) o

-- an agent that isn't leading finds the leader key its own: it asks for
-- the renewal, unless its hold is active; in a pause it asks in any case
abbrev pub finds_own_key : Ticks → List HistoryPoint → ℕ → Outcome → Outcome
finds_own_key now points revision o =
    if is_hold_active now o.machine.hold && not (is_paused o.knows) then touching o else renewing now points revision o

-- the leader key is its own
abbrev pub own_key : Ticks → List HistoryPoint → ℕ → RoleFacts → Outcome → Outcome
own_key now points revision (Leader held) o = renewing now points revision o
own_key now points revision Unleased o = renewing now points revision o
own_key now points revision Follower o = finds_own_key now points revision o
own_key now points revision (Holder held) o = finds_own_key now points revision o
own_key now points revision _ o = o

-- a server that is down starts as a replica of this member's, or of none, unless its log diverged
abbrev pub starts_behind : Ticks → Option MemberId → Outcome → Outcome
starts_behind now leader o = if o.machine.server.diverged then o else starting_replica now leader o

-- so it does where its agent may start it
abbrev pub starts_if : Bool → Ticks → MemberId → Outcome → Outcome
starts_if true now leader o = starts_behind now (Some leader) o
starts_if false now leader o = o

-- a replica whose log diverged shuts down, where it may not be rewound
abbrev pub ends_fork : Ticks → Outcome → Outcome
ends_fork now o = if o.machine.server.diverged && ends_forks o.knows.settings then shutting_down now o else o

-- a replica of another server, or of none, follows this member's
abbrev pub follows_anew : Ticks → MemberId → Outcome → Outcome
follows_anew now leader o =
    if is_upstream leader o.machine.server.upstream then ends_fork now o else following_server leader o

-- what a server does under another leader, by whether its agent may start it
abbrev pub follow_row : Bool → Ticks → MemberId → State → Outcome → Outcome
follow_row may_start now leader states.Stopped o = starts_if may_start now leader o
follow_row may_start now leader states.Crashed o = starts_if may_start now leader o
follow_row may_start now leader states.Replica o = follows_anew now leader o
follow_row may_start now leader _ o = o

-- an agent without a lease, under another leader: a handover of its own is over
abbrev pub led_by_another : Outcome → Outcome
led_by_another o = record o { role = Follower; knows = record o.knows { handed_over = false } }

-- another member leads: the server follows that one's, and the agent
-- tells of itself; a log that has to be is repaired behind that
abbrev pub follows : Ticks → MemberId → Outcome → Outcome
follows now leader o =
    repaired_if leader (repair_of o.knows.settings leader o.machine.server)
    (touching (follow_row (may_start_behind o.knows) now leader o.machine.server.state (led_by_another o)))

-- the leader key is another's
abbrev pub others_key : Ticks → MemberId → RoleFacts → Outcome → Outcome
others_key now leader (Leader held) o = leader_without_key now held o
others_key now leader Unleased o = unleased_without_key now o
others_key now leader Follower o = follows now leader o
others_key now leader (Holder held) o = follows now leader o
others_key now leader _ o = o

-- the leader key is absent
abbrev pub no_key : Ticks → RoleFacts → Outcome → Outcome
no_key now (Leader held) o = leader_finds_free now held o
no_key now Unleased o = unleased_finds_free now o
no_key now Follower o = finds_free now o
no_key now (Holder held) o = finds_free now o
no_key now _ o = o

-- what the agent does where somebody leads
abbrev pub led_by : Ticks → List HistoryPoint → LeaderEntry → Outcome → Outcome
led_by now points leader o =
    if leader.holder.number == o.knows.who.me.number then own_key now points leader.revision o.role o
    else others_key now leader.holder o.role o

-- what the agent does on the leader key
abbrev pub led : Ticks → List HistoryPoint → Option LeaderEntry → Outcome → Outcome
led now points None o = no_key now o.role o
led now points (Some leader) o = led_by now points leader o

-- an agent that ends its server doesn't read, and asks for no renewal
abbrev pub is_active : RoleFacts → Bool
is_active (Ending revision why) = false
is_active _ = true

-- a question that reads the key store
abbrev pub is_read : Question → Bool
is_read Reading = true
is_read _ = false

-- the answer to this read is waited for
abbrev pub awaits_read : Option PendingQuestion → ℕ → Bool
awaits_read None sequence = false
awaits_read (Some waited) sequence = is_read waited.question && waited.sequence == sequence

-- a read was answered at this moment, with this snapshot: what this turn asks for
-- is judged by its settings, its sync key, its failover key and its failsafe key
abbrev pub read_noted : Ticks → SnapshotFacts → Knowledge → Knowledge
read_noted now snapshot knows = record (informed snapshot knows) {
  last_read = Some now;
  turn_settings = settings_in knows.settings snapshot;
  turn_sync = sync_read_in snapshot;
  turn_failover = failover_in snapshot;
  turn_failsafe = failsafe_read_in snapshot;
}

-- the answer to a read that is waited for is used by a role that reads
abbrev pub accepted : Ticks → List HistoryPoint → SnapshotFacts → Outcome → Outcome
accepted now points snapshot o =
    if is_active o.role then led now points (leader_in snapshot) (record o { knows = read_noted now snapshot o.knows })
    else waiting_no_more o

-- the answer to a read: what is waited for is used, and any other dropped
abbrev pub read_answered : Ticks → List HistoryPoint → ℕ → SnapshotFacts → Outcome → Outcome
read_answered now points sequence snapshot o =
    if awaits_read o.knows.waited sequence then accepted now points snapshot o else o
