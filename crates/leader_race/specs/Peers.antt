-- What the answers of other members say to one that races.
use Rattle.std.specs.Prelude.{◌==◌, ◌&&◌, not, nat_lt, int_lt, if◌then◌else◌, Bool, true, false, List, [], ◌∷◌, Option, Some, None}
use Rattle.pat_base.specs.declared.lsn.Lsn.{Lsn}
use Rattle.pat_base.specs.declared.member_id.MemberId.{MemberId}
use Rattle.store_keys.specs.declared.value.SyncKey.{SyncKey}
use Rattle.pat_base.specs.declared.peer_answer.PeerAnswer.{PeerAnswer}
use Rattle.cluster_view.specs.Naming.{is_standby}
use Rattle.leader_race.specs.declared.racer.Racer.{Racer}
use Rattle.leader_race.specs.declared.racer.Rule.{Rule}
use Rattle.leader_race.specs.declared.racer.Rule.TheVariants as rules
use Rattle.leader_race.specs.Eligibility.{may_fail_over}

-- an answer counts: another member gave it, which may fail over
abbrev pub counts : MemberId → PeerAnswer → Bool
counts me answer = not (answer.member.number == me.number) && may_fail_over answer.tags

-- where the synchronous mode is active, the member is a standby in the sync key
abbrev pub is_standby_if : Option SyncKey → MemberId → Bool
is_standby_if None member = true
is_standby_if (Some sync) member = is_standby member sync

-- the member that answered is compared with the one that races
abbrev pub is_compared : Racer → PeerAnswer → Bool
is_compared racer answer = counts racer.me answer && is_standby_if racer.sync answer.member

-- the first end lies below the second; where there is no log, it lies below every end
abbrev pub is_below : Option Lsn → Option Lsn → Bool
is_below end None = false
is_below None (Some other) = true
is_below (Some end) (Some other) = nat_lt end.position other.position

-- both logs are there, and end at one position
abbrev pub is_level : Option Lsn → Option Lsn → Bool
is_level None other = false
is_level (Some end) None = false
is_level (Some end) (Some other) = end.position == other.position

-- the server of the member accepts writes
abbrev pub writes_elsewhere : Racer → PeerAnswer → Bool
writes_elsewhere racer answer = counts racer.me answer && answer.writes

-- the member is compared, and its log ends further on
abbrev pub is_ahead : Racer → PeerAnswer → Bool
is_ahead racer answer = is_compared racer answer && is_below racer.end answer.end

-- the member is compared, its log ends at the same position, and its priority is higher
abbrev pub is_preferred : Racer → PeerAnswer → Bool
is_preferred racer answer =
    is_compared racer answer && (is_level racer.end answer.end && int_lt racer.priority answer.tags.failover_priority)

-- an answer bars by this rule
abbrev pub bars_by : Racer → Rule → PeerAnswer → Bool
bars_by racer rules.OtherWrites answer = writes_elsewhere racer answer
bars_by racer rules.Ahead answer = is_ahead racer answer
bars_by racer rules.Priority answer = is_preferred racer answer

-- this member, where it is so
abbrev pub member_where : Bool → MemberId → Option MemberId
member_where false member = None
member_where true member = Some member

-- of two members the one that the script declares first
abbrev pub earlier : Option MemberId → Option MemberId → Option MemberId
earlier None other = other
earlier (Some member) None = Some member
earlier (Some member) (Some other) = if nat_lt other.number member.number then Some other else Some member

-- of the members whose answers pass, the one that the script declares first; members have their numbers in that order
abbrev pub first_of : (PeerAnswer → Bool) → List PeerAnswer → Option MemberId
first_of passes [] = None
first_of passes (answer ∷ answers) = earlier (member_where (passes answer) answer.member) (first_of passes answers)
