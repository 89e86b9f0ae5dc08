-- How a leader goes on without the key store by the word of all other members,
-- and how these acknowledge it (Patroni documentation, "DCS Failsafe Mode").
use Rattle.std.specs.Prelude.{ℕ, zero, suc, ◌+◌, ◌==◌, ◌&&◌, ◌||◌, if◌then◌else◌, not, Bool, true, false, List, Option, Some, None}
use Rattle.pat_base.specs.MemberId.{member_of}
use Rattle.pat_base.specs.declared.member_id.MemberId.{MemberId}
use Rattle.pat_base.specs.declared.member_id.TheConstants.{MOST_MEMBERS}
use Rattle.pat_base.specs.declared.member_set.MemberSet.{MemberSet}
use Rattle.pat_base.specs.declared.ticks.Ticks.{Ticks}
use Rattle.event_book.specs.declared.message.Body.TheVariants as bodies
use Rattle.event_book.specs.declared.reason.Reason.TheVariants.{FailsafeNotAcknowledged}
use Rattle.event_book.specs.Watchdogs.{prolonged_to}
use Rattle.failsafe.specs.Asks.{has, asked, heard, moment_of_all}
use Rattle.failsafe.specs.Holding.{may_hold}
use Rattle.failsafe.specs.Listing.{without_member}
use Rattle.leader_key.specs.Watchdog.{fed, is_armable}
use Rattle.agent_model.specs.declared.knowledge.Knowledge.{Knowledge}
use Rattle.agent_model.specs.declared.knowledge.Question.{Question}
use Rattle.agent_model.specs.declared.knowledge.Question.TheVariants.{Creating, Renewing, StayingPrimary}
use Rattle.agent_model.specs.declared.knowledge.PendingQuestion.{PendingQuestion}
use Rattle.agent_model.specs.declared.machine.Machine.{Machine}
use Rattle.agent_model.specs.declared.output.Output.{Output}
use Rattle.agent_model.specs.declared.output.Output.TheVariants as outputs
use Rattle.agent_model.specs.declared.output.Feeding.TheVariants as feedings
use Rattle.agent_model.specs.declared.output.Noting.TheVariants as notings
use Rattle.agent_model.specs.declared.output.Outgoing.TheVariants as outgoing
use Rattle.agent_model.specs.declared.output.Telling.TheVariants as tellings
use Rattle.agent_model.specs.declared.output.Target.TheVariants as targets
use Rattle.agent_model.specs.declared.why.Why.TheVariants.{Lost}
use Rattle.agent_model.specs.Acting.{comes_late, counted, deadline_after, ending_server, lease_span, waiting, waiting_no_more}
use Rattle.agent_model.specs.Agents.{RoleFacts, Leader, Ending, Outcome}
use Rattle.agent_model.specs.Outputs.{with_output}
use Rattle.agent_model.specs.Pausing.{is_paused}
use Rattle.agent_model.specs.Racing.{answers_until}
use Rattle.agent_model.specs.Views.{shown}

-- ---- asking
-- the other members that failsafe keys listed
abbrev pub others_known : Knowledge → MemberSet
others_known knows = without_member knows.known knows.who.me

-- the failsafe request to this member, where it is in the set
abbrev pub requesting_one : MemberSet → ℕ → Ticks → Option MemberId → List Output → List Output
requesting_one members sequence ttl None out = out
requesting_one members sequence ttl (Some member) out = if has members member.number
    then with_output
    (outputs.Message (outgoing.Send (targets.Member member) sequence (bodies.FailsafeRequest ttl))) out else out

-- the failsafe requests to those of the set among so many first members, all under one number
abbrev pub requesting_first : MemberSet → ℕ → Ticks → ℕ → List Output → List Output
requesting_first members sequence ttl zero out = out
requesting_first members sequence ttl (suc count) out =
    requesting_one members sequence ttl (member_of count) (requesting_first members sequence ttl count out)

-- the failsafe requests to all of the set
abbrev pub requesting_all : MemberSet → ℕ → Ticks → List Output → List Output
requesting_all members sequence ttl out = requesting_first members sequence ttl MOST_MEMBERS out

-- the agent asks these members to let it stay primary for the span of its leases, and waits for the answers
abbrev pub asking_to_stay : Ticks → MemberSet → Outcome → Outcome
asking_to_stay now members o = record o {
  knows = record (waiting now StayingPrimary (answers_until now) (counted o.knows)) { failsafe = asked members now };
  outputs = requesting_all members (o.knows.sequence + 1) (lease_span o.knows.settings) o.outputs;
}

-- ---- staying
-- the machine once acknowledgements fed its watchdog, over leases of this span
abbrev pub with_failsafe_feed : Ticks → Ticks → Machine → Machine
with_failsafe_feed now ttl machine = record machine {
  watchdog = fed now.0 ttl.0 machine.watchdog;
  by_failsafe = is_armable machine.watchdog.mode machine.watchdog.works || machine.by_failsafe;
}

-- a deadline by acknowledgements is told, if there is one: who gave them, of which request, and since when
abbrev pub fed_by_failsafe : Option Ticks → MemberSet → ℕ → Ticks → List Output → List Output
fed_by_failsafe None members sequence since out = out
fed_by_failsafe (Some until) members sequence since out =
    with_output (outputs.Watchdog (feedings.FedByFailsafe until members sequence since)) out

-- the member stays primary: its watchdog is fed for this span, and it waits for nothing
abbrev pub stays : Ticks → Ticks → ℕ → Ticks → Outcome → Outcome
stays now ttl sequence since o = record o {
  knows = record o.knows { waited = None };
  machine = with_failsafe_feed now ttl o.machine;
  outputs = with_output (outputs.Note notings.StaysByFailsafe)
      (fed_by_failsafe (deadline_after now ttl o.machine.watchdog) o.knows.failsafe.members sequence since o.outputs);
}

-- nobody is to be asked: it stays primary at once
abbrev pub stays_alone : Ticks → MemberSet → Outcome → Outcome
stays_alone now members o = stays now (lease_span o.knows.settings) o.knows.sequence now
    (record o { knows = record o.knows { failsafe = asked members now } })

-- a leader without the key store asks these members to let it stay primary; with nobody to ask it stays so at once
abbrev pub seeks_to_stay : Ticks → MemberSet → Outcome → Outcome
seeks_to_stay now members o = if members.bits == 0 then stays_alone now members o else asking_to_stay now members o

-- with failsafe mode, a leader may ask that was granted its key with a failsafe key there
abbrev pub may_stay : Knowledge → Bool
may_stay knows = knows.settings.failsafe_mode && knows.confirmed

-- ---- answers
-- one that was asked didn't acknowledge in time, or refused: the leader ends its server
abbrev pub leader_unacknowledged : Ticks → ℕ → Outcome → Outcome
leader_unacknowledged now revision o =
    record (ending_server now FailsafeNotAcknowledged o) { role = Ending revision Lost }

-- so does a leader; nothing is waited for any more
abbrev pub unacknowledged_as : Ticks → RoleFacts → Outcome → Outcome
unacknowledged_as now (Leader revision) o = leader_unacknowledged now revision o
unacknowledged_as now _ o = o

-- in a pause it goes on
abbrev pub unacknowledged : Ticks → Outcome → Outcome
unacknowledged now o = if is_paused o.knows then waiting_no_more o else unacknowledged_as now o.role (waiting_no_more o)

-- all acknowledged, the first of them at this moment: the member stays
-- primary, unless the last answer comes too late outside a pause
abbrev pub stays_by : Ticks → PendingQuestion → Ticks → Outcome → Outcome
stays_by now waited since o = if not (is_paused o.knows) && comes_late now waited o.machine
    then waiting_no_more o else stays now waited.ttl waited.sequence since o

-- the member stays primary once each that was asked has acknowledged
abbrev pub stays_if : Ticks → PendingQuestion → Option Ticks → Outcome → Outcome
stays_if now waited None o = o
stays_if now waited (Some since) o = stays_by now waited since o

-- an acknowledgement that was sent at this moment is counted
abbrev pub counting : MemberId → Ticks → Outcome → Outcome
counting from sent o = record o { knows = record o.knows { failsafe = heard o.knows.failsafe from true sent } }

-- a leader hears an acknowledgement
abbrev pub acknowledged_to : Ticks → PendingQuestion → MemberId → Ticks → Outcome → Outcome
acknowledged_to now waited from sent o =
    stays_if now waited (moment_of_all (heard o.knows.failsafe from true sent)) (counting from sent o)

-- an answer that is waited for counts for a leader; one refusal is
-- enough. In another role nothing is waited for any more
abbrev pub accepted_failsafe : Ticks → PendingQuestion → MemberId → Bool → Ticks → RoleFacts → Outcome → Outcome
accepted_failsafe now waited from accepted sent (Leader revision) o =
    if accepted then acknowledged_to now waited from sent o else unacknowledged now o
accepted_failsafe now waited from accepted sent _ o = waiting_no_more o

-- the question to all other members whether it may stay primary
abbrev pub is_staying : Question → Bool
is_staying StayingPrimary = true
is_staying _ = false

-- the answers to the failsafe request of this number are waited for
abbrev pub awaits_failsafe : PendingQuestion → ℕ → Bool
awaits_failsafe waited sequence = is_staying waited.question && waited.sequence == sequence

-- an answer to a failsafe request, by what is waited for
abbrev pub failsafe_answered_for : Ticks → MemberId → ℕ → Bool → Ticks → Option PendingQuestion → Outcome → Outcome
failsafe_answered_for now from sequence accepted sent None o = o
failsafe_answered_for now from sequence accepted sent (Some waited) o =
    if awaits_failsafe waited sequence then accepted_failsafe now waited from accepted sent o.role o else o

-- an answer to a failsafe request: what is waited for is used, and any other dropped
abbrev pub failsafe_answered : Ticks → MemberId → ℕ → Bool → Ticks → Outcome → Outcome
failsafe_answered now from sequence accepted sent o =
    failsafe_answered_for now from sequence accepted sent o.knows.waited o

-- ---- being asked
-- the question asks for a lease of the leader key
abbrev pub is_lease_question : Question → Bool
is_lease_question Creating = true
is_lease_question Renewing = true
is_lease_question _ = false

-- the agent waits for the leader key or for its renewal
abbrev pub awaits_lease : Option PendingQuestion → Bool
awaits_lease None = false
awaits_lease (Some waited) = is_lease_question waited.question

-- the moment this span after another one
abbrev pub span_after : Ticks → Ticks → Ticks
span_after now span = record { 0 = now.0 + span.0 }

-- what a member answers a failsafe request
abbrev pub answering_failsafe : MemberId → ℕ → ℕ → Bool → Outcome → Outcome
answering_failsafe to incarnation sequence accepted o = record o {
  outputs = with_output (outputs.Message (outgoing.FailsafeAnswer to incarnation sequence accepted)) o.outputs;
}

-- a member promises not to take the leader key for this span, on the
-- failsafe request of this number; a longer promise stays
abbrev pub holding_for : Ticks → MemberId → ℕ → Ticks → Outcome → Outcome
holding_for now from sequence ttl o = record o {
  machine = record o.machine { hold = prolonged_to (span_after now ttl) o.machine.hold };
  outputs = with_output (outputs.Tell (tellings.HoldTaken (span_after now ttl) from sequence)) o.outputs;
}

-- a member that is asked acknowledges and holds, where it may
abbrev pub failsafe_asked : Ticks → MemberId → ℕ → ℕ → Ticks → Outcome → Outcome
failsafe_asked now from incarnation sequence ttl o =
    if may_hold (shown now o) (awaits_lease o.knows.waited)
    then answering_failsafe from incarnation sequence true (holding_for now from sequence ttl o)
    else answering_failsafe from incarnation sequence false o
