-- The machine that an input leaves is what its outputs make of the machine before.
use Rattle.std.proofs.Common.{◌≡◌, ◌+◌, ◌++◌, ◌&&◌, ◌||◌, not, ℕ, Bool, true, false, if◌then◌else◌, List, [], ◌∷◌, Option, Some, None, All, refl, sym, subst, ap, ◌∙◌, zero, suc}
use Rattle.std.proofs.lemmas.List.Elements.{All-push, All-nil, All-weaker, All-head, All-tail}
use Rattle.pat_base.specs.MemberId.{member_of}
use Rattle.pat_base.specs.declared.member_id.MemberId.{MemberId}
use Rattle.pat_base.specs.declared.peer_answer.PeerAnswer.{PeerAnswer}
use Rattle.pat_base.specs.declared.ticks.Ticks.{Ticks}
use Rattle.lease_store.specs.declared.granted.Granted.{Granted}
use Rattle.store_keys.specs.declared.txn.Txn.TheVariants as txns
use Rattle.store_keys.specs.declared.txn.LeaseTxn.TheVariants as lease_txns
use Rattle.wal_model.specs.declared.entry.HistoryPoint.{HistoryPoint}
use Rattle.cluster_view.specs.Snapshots.{SnapshotFacts}
use Rattle.event_book.specs.declared.agent_note.AgentNote.TheVariants as agent_notes
use Rattle.event_book.specs.declared.message.Body.{Body}
use Rattle.event_book.specs.declared.message.Body.TheVariants as bodies
use Rattle.event_book.specs.declared.reason.Reason.{Reason}
use Rattle.event_book.specs.declared.reason.Reason.TheVariants.{FailsafeNotAcknowledged, StoreOutOfReach, LeaderKeyLost, StartTooLong, WatchdogNotArmed}
use Rattle.leader_key.specs.Watchdog.{is_armable, timeout_of}
use Rattle.agent_model.specs.declared.output.Repair.{Repair}
use Rattle.agent_model.specs.Repairs.{repair_of, repairing}
use Rattle.agent_model.specs.declared.heard.Heard.{Heard}
use Rattle.agent_model.specs.declared.heard.Heard.TheVariants.{Wake, ReadAnswered, Granted as HeardGranted, Mismatch, Asked, Answered, FailsafeAsked, FailsafeAnswered, Operated as HearsOperator}
use Rattle.agent_model.specs.declared.knowledge.Knowledge.{Knowledge}
use Rattle.agent_model.specs.declared.machine.Machine.{Machine}
use Rattle.agent_model.specs.declared.output.Output.{Output}
use Rattle.agent_model.specs.declared.output.Output.TheVariants as outputs
use Rattle.agent_model.specs.declared.output.Feeding.TheVariants as feedings
use Rattle.agent_model.specs.declared.output.Noting.TheVariants as notings
use Rattle.agent_model.specs.declared.output.Outgoing.TheVariants as outgoing
use Rattle.agent_model.specs.declared.output.ServerOrder.TheVariants as orders
use Rattle.agent_model.specs.declared.output.Telling.TheVariants as tellings
use Rattle.agent_model.specs.declared.output.Target.TheVariants as targets
use Rattle.agent_model.specs.declared.why.Why.{Why}
use Rattle.agent_model.specs.declared.why.Why.TheVariants.{HandOver, Lost}
use Rattle.agent_model.specs.Acting.{arming, requiring, feeding, armed, fed_until, disarmed, without_deadline, disarming, sending, touching, ending_server, starting_replica, following_server, is_refusing, shutting_down, waiting_no_more, deadline_after, lease_span}
use Rattle.agent_model.specs.Agents.{RoleFacts, Follower, Outcome, outcome_from}
use Rattle.agent_model.specs.Reconciling.{has_ended, reconciled}
use Rattle.agent_model.specs.Claiming.{begins, begins_or_claims, passing, postpones}
use Rattle.agent_model.specs.Decisions.{cannot_arm, leader_renewed, takes_over, unleased_renewed, may_take, gives_back, arms, takes_key, granted, refused, takes_key_in_pause}
use Rattle.agent_model.specs.Planning.{noting}
use Rattle.agent_model.specs.Synchronous.{unnamed}
use Rattle.pat_base.specs.declared.server_state.Required.{Required}
use Rattle.agent_outputs.specs.Orders.{machine_after_output, machine_after_outputs, IsOfTable, IsCarriedOut, EndsRepairing, RepairsLast}
use Rattle.agent_roles.specs.Asks.{IsAsk}
use Rattle.agent_model.specs.Outputs.{with_output}
use Rattle.agent_model.specs.Snapshots.{informed, follows, read_noted, read_answered, follow_row, leader_loses_key, unleased_loses_key, renewing, asks_as_unleased, led_by_another}
use Rattle.agent_model.specs.Racing.{finds_free, judged, unheard}
use Rattle.agent_model.specs.HandingOver.{asking_whom}
use Rattle.agent_model.specs.Operators.{looked, given_up, learned, operated, restarting, wiping, unnumbered}
use Rattle.pat_base.specs.declared.member_set.MemberSet.{MemberSet}
use Rattle.failsafe.specs.Asks.{asked, has}
use Rattle.agent_model.specs.StayingPrimary.{counting, failsafe_answered, failsafe_asked, fed_by_failsafe, holding_for, others_known, requesting_first, requesting_one, span_after, stays, with_failsafe_feed}
use Rattle.agent_model.specs.Table.{step, granted_any, refused_any}
use Rattle.pg_model.specs.Running.{is_primary}
use Rattle.agent_model.specs.Wake.{overdue, turned, woken}
use Rattle.agent_cases.proofs.Rows.{HandoverRows, ReplyRows, ActRows, looked-by, given-up-by, refused-any-by, operated-by, if-cases, before-by, overdue-by, turn-by, wake-by, got-by, refused-by, follow-by, free-by, repaired-by, judged-by, answered-by}
use Rattle.agent_cases.proofs.FailsafeRows.{failsafe-asked-by, failsafe-answered-by}
use Rattle.agent_cases.proofs.Grants.{granted-any-by, kept_on, led_on, judges-start-by, renewed-by, passing-by, begins-or-claims-by, granted-by, DutyRows, duties-of, leading_in_pause, takes-in-pause-by}
use Rattle.agent_model.specs.Answers.{is_other, asking_one, asking_first}
use Rattle.pat_base.specs.declared.member_id.TheConstants.{MOST_MEMBERS}
use Rattle.agent_model.specs.Peers.{keeping, answered}
use Rattle.agent_model.specs.declared.who.Who.{Who}
use Rattle.agent_model.specs.Pausing.{may_start_behind, disabling_told, disabling_watchdog, running_without_key}

after-push : (now : Ticks) (machine : Machine) (outs : List Output) (output : Output)
    → machine_after_outputs now machine (outs ++ output ∷ [])
    ≡ machine_after_output now (machine_after_outputs now machine outs) output
after-push now machine [] output = refl
after-push now machine (one ∷ outs) output = after-push now (machine_after_output now machine one) outs output

-- an output that the table makes, and that repairs no log
abbrev IsPlain : Output → Type 0
IsPlain (outputs.Message (outgoing.Send (targets.Member member) sequence body)) = IsAsk body
IsPlain (outputs.Server (orders.Repair leader repair)) = ⊥
IsPlain _ = Unit {0}

-- a machine and the outputs so far: it is what they make of the machine before, and none of them repairs a log
record Reached (now : Ticks) (start machine : Machine) (outs : List Output) : Type 0 where
  machine_is : machine ≡ machine_after_outputs now start outs
  kinds : All IsPlain outs

one-more : (now : Ticks) (start machine : Machine) (outs : List Output) (output : Output) → IsPlain output
    → Reached now start machine outs → Reached now start (machine_after_output now machine output) (outs ++ output ∷ [])
one-more now start machine outs output plain r = record {
  machine_is =
      ap (λ (x : Machine). machine_after_output now x output) r.machine_is ∙ sym (after-push now start outs output);
  kinds = All-push IsPlain outs output r.kinds plain;
}

plain-table : (output : Output) → IsPlain output → IsOfTable output
plain-table (outputs.Message (outgoing.Send (targets.Member member) sequence body)) plain = plain
plain-table (outputs.Server (orders.Repair leader repair)) plain = tt
plain-table _ plain = tt

plain-ends : (output : Output) (later : List Output) → IsPlain output → EndsRepairing output later
plain-ends (outputs.Server (orders.Repair leader repair)) later plain = absurd plain
plain-ends _ later plain = tt

plain-last : (outs : List Output) → All IsPlain outs → RepairsLast outs
plain-last [] plain = tt
plain-last (output ∷ later) plain = (
  plain-ends output later (All-head IsPlain output later plain),
  plain-last later (All-tail IsPlain output later plain),
)

repair-last : (leader : MemberId) (r : Repair) (outs : List Output) → All IsPlain outs
    → RepairsLast (outs ++ outputs.Server (orders.Repair leader r) ∷ [])
repair-last leader r [] plain = (refl, tt)
repair-last leader r (output ∷ later) plain = (
  plain-ends output (later ++ outputs.Server (orders.Repair leader r) ∷ []) (All-head IsPlain output later plain),
  repair-last leader r later (All-tail IsPlain output later plain),
)

-- behind plain outputs the log may be repaired
carried-out : (now : Ticks) (start : Machine) (o : Outcome) → Reached now start o.machine o.outputs
    → IsCarriedOut now start o
carried-out now start o r = record {
  machine_is = r.machine_is;
  kinds = All-weaker IsPlain IsOfTable plain-table o.outputs r.kinds;
  last = plain-last o.outputs r.kinds;
}

repaired-out : (now : Ticks) (start : Machine) (leader : MemberId) (repair : Repair) (o : Outcome)
    → Reached now start o.machine o.outputs → IsCarriedOut now start (repairing leader repair o)
repaired-out now start leader repair o r = record {
  machine_is = r.machine_is ∙ sym (after-push now start o.outputs (outputs.Server (orders.Repair leader repair)));
  kinds = All-push IsOfTable o.outputs (outputs.Server (orders.Repair leader repair))
      (All-weaker IsPlain IsOfTable plain-table o.outputs r.kinds) tt;
  last = repair-last leader repair o.outputs r.kinds;
}

disarms : (now : Ticks) (start machine : Machine) (outs : List Output) (deadline : Option Ticks)
    → machine.watchdog.deadline ≡ deadline → Reached now start machine outs
    → Reached now start (without_deadline machine) (disarmed deadline outs)
disarms now start machine outs (Some deadline) is r =
    one-more now start machine outs (outputs.Watchdog feedings.Disarmed) tt r
disarms now start machine outs None is r = subst (λ (x : Machine). Reached now start x outs)
    (ap (λ (d : Option Ticks). record machine { watchdog = record machine.watchdog { deadline = d } }) is) r

feeds : (now : Ticks) (start machine : Machine) (outs : List Output) (until : Ticks) (armable : Bool)
    → Reached now start machine outs
    → Reached now start (record machine {
      watchdog = if armable then record machine.watchdog { deadline = Some until } else machine.watchdog;
      by_failsafe = not armable && machine.by_failsafe;
    }) (fed_until (if armable then Some until else None) outs)
feeds now start machine outs until true r = one-more now start machine outs (outputs.Watchdog (feedings.Fed until)) tt r
feeds now start machine outs until false r = r

arms-it : (now : Ticks) (start machine : Machine) (outs : List Output) (until : Ticks) (armable : Bool)
    → Reached now start machine outs
    → Reached now start (record machine {
      watchdog = if armable then record machine.watchdog { deadline = Some until } else machine.watchdog;
      by_failsafe = not armable && machine.by_failsafe;
    }) (armed (if armable then Some until else None) outs)
arms-it now start machine outs until true r =
    one-more now start machine outs (outputs.Watchdog (feedings.Armed until)) tt r
arms-it now start machine outs until false r = r

stays-fed : (now : Ticks) (start machine : Machine) (outs : List Output) (until : Ticks) (members : MemberSet)
    (sequence : ℕ) (since : Ticks) (armable : Bool) → Reached now start machine outs
    → Reached now start (record machine {
      watchdog = if armable then record machine.watchdog { deadline = Some until } else machine.watchdog;
      by_failsafe = armable || machine.by_failsafe;
    }) (fed_by_failsafe (if armable then Some until else None) members sequence since outs)
stays-fed now start machine outs until members sequence since true r =
    one-more now start machine outs (outputs.Watchdog (feedings.FedByFailsafe until members sequence since)) tt r
stays-fed now start machine outs until members sequence since false r = r

abbrev Reaches : Ticks → Machine → Outcome → Type 0
Reaches now start o = Reached now start o.machine o.outputs

disarm-reaches : (now : Ticks) (start : Machine) (o : Outcome) → Reaches now start o → Reaches now start (disarming o)
disarm-reaches now start o r = disarms now start o.machine o.outputs o.machine.watchdog.deadline refl r

send-reaches : (now : Ticks) (start : Machine) (body : Body) (o : Outcome) → Reaches now start o
    → Reaches now start (sending body o)
send-reaches now start body o r =
    one-more now start o.machine o.outputs
    (outputs.Message (outgoing.Send targets.Store (o.knows.sequence + 1) body)) tt r

touch-reaches : (now : Ticks) (start : Machine) (o : Outcome) → Reaches now start o → Reaches now start (touching o)
touch-reaches now start o r = one-more now start o.machine o.outputs _ tt r

end-reaches : (now : Ticks) (start : Machine) (reason : Reason) (o : Outcome) → Reaches now start o
    → Reaches now start (ending_server now reason o)
end-reaches now start reason o r = one-more now start o.machine o.outputs (outputs.Server (orders.Stop reason)) tt r

start-reaches : (now : Ticks) (start : Machine) (leader : Option MemberId) (o : Outcome) → Reaches now start o
    → Reaches now start (starting_replica now leader o)
start-reaches now start leader o r =
    one-more now start o.machine o.outputs (outputs.Server (orders.StartReplica leader)) tt r

follow-one-reaches : (now : Ticks) (start : Machine) (leader : MemberId) (o : Outcome) → Reaches now start o
    → Reaches now start (following_server leader o)
follow-one-reaches now start leader o r =
    one-more now start o.machine o.outputs (outputs.Server (orders.Follow leader)) tt r

feed-reaches : (now ttl : Ticks) (start : Machine) (o : Outcome) → Reaches now start o
    → Reaches now start (feeding now ttl o)
feed-reaches now ttl start o r =
    feeds now start o.machine o.outputs (record { 0 = now.0 + timeout_of o.machine.watchdog.margin ttl.0 })
    (is_armable o.machine.watchdog.mode o.machine.watchdog.works) r

arm-reaches : (now ttl : Ticks) (start : Machine) (o : Outcome) → Reaches now start o
    → Reaches now start (arming now ttl o)
arm-reaches now ttl start o r =
    arms-it now start o.machine o.outputs (record { 0 = now.0 + timeout_of o.machine.watchdog.margin ttl.0 })
    (is_armable o.machine.watchdog.mode o.machine.watchdog.works) r

ended-reaches : (now : Ticks) (start : Machine) (why : Why) (held : ℕ) (o : Outcome) → Reaches now start o
    → Reaches now start (has_ended why held o)
ended-reaches now start HandOver held o r = send-reaches now start _ (disarming o) (disarm-reaches now start o r)
ended-reaches now start Lost held o r = disarm-reaches now start o r

before-reaches : (now : Ticks) (start : Machine) (o : Outcome) → Reaches now start o
    → Reaches now start (reconciled now o)
before-reaches now start o r = before-by (Reaches now start) now o (record {
  kept = λ _. r;
  leader = λ held _ _. disarm-reaches now start o r;
  ending = λ held why _ _. ended-reaches now start why held o r;
  follower = λ _ _. r;
  holder = λ held _ _. r;
  ready = λ held _ _. disarm-reaches now start o r;
  unleased = λ _ _. disarm-reaches now start o r;
})

judged-reaches : (now : Ticks) (start : Machine) (o : Outcome) → Reaches now start o → Reaches now start (judged now o)
judged-reaches now start o r = judged-by (Reaches now start) now o (one-more now start o.machine o.outputs _ tt r)
    (λ bar. touch-reaches now start
    (record (waiting_no_more o) {
      outputs =
          with_output (outputs.Note (notings.Agent (agent_notes.DoesNotRace bar))) o.outputs;
    })
    (one-more now start o.machine o.outputs (outputs.Note (notings.Agent (agent_notes.DoesNotRace bar))) tt r))

-- asks of other members leave the machine alone
ask-reaches : (now : Ticks) (start machine : Machine) (who : Who) (sequence : ℕ) (member : Option MemberId)
    (outs : List Output) → Reached now start machine outs
    → Reached now start machine (asking_one who sequence member outs)
ask-reaches now start machine who sequence None outs r = r
ask-reaches now start machine who sequence (Some member) outs r =
    if-cases (Reached now start machine) (is_other who member)
    (with_output (outputs.Message (outgoing.Send (targets.Member member) sequence bodies.Ask)) outs) outs
    (λ _.
    one-more now start machine outs (outputs.Message (outgoing.Send (targets.Member member) sequence bodies.Ask)) tt r)
    (λ _. r)

asks-reach : (now : Ticks) (start machine : Machine) (who : Who) (sequence count : ℕ) (outs : List Output)
    → Reached now start machine outs → Reached now start machine (asking_first who sequence count outs)
asks-reach now start machine who sequence zero outs r = r
asks-reach now start machine who sequence (suc count) outs r = ask-reaches now start machine who sequence
    (member_of count) (asking_first who sequence count outs) (asks-reach now start machine who sequence count outs r)

-- so do those to a candidate, or to all
whom-reach : (now : Ticks) (start machine : Machine) (who : Who) (candidate : Option MemberId) (sequence : ℕ)
    (outs : List Output) → Reached now start machine outs
    → Reached now start machine (asking_whom who candidate sequence outs)
whom-reach now start machine who None sequence outs r = asks-reach now start machine who sequence MOST_MEMBERS outs r
whom-reach now start machine who (Some candidate) sequence outs r =
    ask-reaches now start machine who sequence (Some candidate) outs r

shut-reaches : (now : Ticks) (start : Machine) (o : Outcome) → Reaches now start o
    → Reaches now start (shutting_down now o)
shut-reaches now start o r = one-more now start o.machine o.outputs (outputs.Server orders.ShutDown) tt r

handover-rows : (now : Ticks) (start : Machine) (revision : ℕ) (o : Outcome) → Reaches now start o
    → HandoverRows (Reaches now start) now revision o
handover-rows now start revision o r = record {
  kept = r;
  clears = λ compared. send-reaches now start _ (waiting_no_more o) r;
  hands = λ candidate. shut-reaches now start
      (record (waiting_no_more o) {
        outputs =
            with_output (outputs.Note (notings.Agent (agent_notes.HandsOver candidate))) o.outputs;
      })
      (one-more now start o.machine o.outputs (outputs.Note (notings.Agent (agent_notes.HandsOver candidate))) tt r);
}

reply-rows : (now : Ticks) (start : Machine) (o : Outcome) → Reaches now start o → ReplyRows (Reaches now start) o
reply-rows now start o r = record {
  kept = r;
  answers = λ request told. one-more now start o.machine o.outputs (outputs.Tell (tellings.Told request told)) tt r;
}

require-reaches : (now : Ticks) (start : Machine) (required : Required) (o : Outcome) → Reaches now start o
    → Reaches now start (requiring required o)
require-reaches now start required o r = one-more now start o.machine o.outputs (outputs.Require required) tt r

postpone-reaches : (now : Ticks) (start : Machine) (held : ℕ) (o : Outcome) → Reaches now start o
    → Reaches now start (postpones held o)
postpone-reaches now start held o r = one-more now start (disarming o).machine (disarming o).outputs
    (outputs.Note (notings.Agent agent_notes.PostponesPromotion)) tt (disarm-reaches now start o r)

-- requests to other members leave the machine alone
request-reaches : (now : Ticks) (start machine : Machine) (members : MemberSet) (sequence : ℕ) (ttl : Ticks)
    (member : Option MemberId) (outs : List Output) → Reached now start machine outs
    → Reached now start machine (requesting_one members sequence ttl member outs)
request-reaches now start machine members sequence ttl None outs r = r
request-reaches now start machine members sequence ttl (Some member) outs r =
    if-cases (Reached now start machine) (has members member.number)
    (with_output (outputs.Message (outgoing.Send (targets.Member member) sequence (bodies.FailsafeRequest ttl))) outs)
    outs
    (λ _.
    one-more now start machine outs
    (outputs.Message (outgoing.Send (targets.Member member) sequence (bodies.FailsafeRequest ttl))) tt r)
    (λ _. r)

requests-reach : (now : Ticks) (start machine : Machine) (members : MemberSet) (sequence : ℕ) (ttl : Ticks)
    (count : ℕ) (outs : List Output) → Reached now start machine outs
    → Reached now start machine (requesting_first members sequence ttl count outs)
requests-reach now start machine members sequence ttl zero outs r = r
requests-reach now start machine members sequence ttl (suc count) outs r =
    request-reaches now start machine members sequence ttl (member_of count)
    (requesting_first members sequence ttl count outs)
    (requests-reach now start machine members sequence ttl count outs r)

-- a leader stays primary
stays-reaches : (now ttl : Ticks) (sequence : ℕ) (since : Ticks) (start : Machine) (o : Outcome)
    → Reaches now start o → Reaches now start (stays now ttl sequence since o)
stays-reaches now ttl sequence since start o r =
    let until : Ticks = record { 0 = now.0 + timeout_of o.machine.watchdog.margin ttl.0 } in
    one-more now start (with_failsafe_feed now ttl o.machine)
    (fed_by_failsafe (deadline_after now ttl o.machine.watchdog) o.knows.failsafe.members sequence since o.outputs)
    (outputs.Note notings.StaysByFailsafe) tt
    (stays-fed now start o.machine o.outputs until o.knows.failsafe.members sequence since
    (is_armable o.machine.watchdog.mode o.machine.watchdog.works) r)

overdue-reaches : (now : Ticks) (start : Machine) (o : Outcome) → Reaches now start o
    → Reaches now start (overdue now o)
overdue-reaches now start o r = overdue-by (Reaches now start) now o (record {
  kept = r;
  quiet = r;
  leader = λ held _. end-reaches now start StoreOutOfReach o r;
  seeks = λ held _. requests-reach now start o.machine (others_known o.knows) (o.knows.sequence + 1)
      (lease_span o.knows.settings) MOST_MEMBERS o.outputs r;
  alone = λ held _. stays-reaches now (lease_span o.knows.settings) o.knows.sequence now start
      (record (waiting_no_more o) {
        knows =
            record (waiting_no_more o).knows { failsafe = asked (others_known o.knows) now };
      })
      r;
  silent = λ held _. end-reaches now start FailsafeNotAcknowledged o r;
  unleased = λ _. end-reaches now start StoreOutOfReach o r;
  judges = λ _. judged-reaches now start o r;
  ready = λ held _. postpone-reaches now start held (waiting_no_more o) r;
  checks = λ held _. handover-rows now start held o r;
})

turn-reaches : (now : Ticks) (start : Machine) (o : Outcome) → Reaches now start o → Reaches now start (turned now o)
turn-reaches now start o r = turn-by (Reaches now start) now o
    (record { kept = r; quiet = r; reads = λ _. one-more now start o.machine o.outputs _ tt r })

wake-reaches : (now : Ticks) (start : Machine) (o : Outcome) → Reaches now start o → Reaches now start (woken now o)
wake-reaches now start o r = let first = before-reaches now start o r in
    let answers =
    given-up-by (Reaches now start) now (reconciled now o) (reply-rows now start (reconciled now o) first) in
    wake-by (Reaches now start) now o first
    (turn-reaches now start (overdue now (given_up now (reconciled now o)))
    (overdue-reaches now start (given_up now (reconciled now o)) answers))

follow-carries : (now : Ticks) (start : Machine) (leader : MemberId) (o : Outcome) → Reaches now start o
    → IsCarriedOut now start (follows now leader o)
follow-carries now start leader o r = let x : Outcome = led_by_another o in
    let may : Bool = may_start_behind o.knows in
    let row : Outcome = follow_row may now leader o.machine.server.state x in
    let told : Reaches now start (touching row) = touch-reaches now start row
    (follow-by (Reaches now start) may now leader o.machine.server.state x r (start-reaches now start (Some leader) x r)
    (follow-one-reaches now start leader x r) (shut-reaches now start x r)) in
    repaired-by (IsCarriedOut now start) leader (repair_of o.knows.settings leader o.machine.server) (touching row)
    (carried-out now start (touching row) told) (λ repair. repaired-out now start leader repair (touching row) told)

free-reaches : (now : Ticks) (start : Machine) (o : Outcome) → Reaches now start o
    → Reaches now start (finds_free now o)
free-reaches now start o r = let x : Outcome = record o { role = Follower } in
    free-by (Reaches now start) now x (record {
      starts = touch-reaches now start (starting_replica now None x) (start-reaches now start None x r);
      touches = touch-reaches now start x r;
      bars = λ bar. touch-reaches now start (record x {
        outputs = with_output (outputs.Note (notings.Agent (agent_notes.DoesNotRace bar))) x.outputs;
      }) (one-more now start o.machine o.outputs (outputs.Note (notings.Agent (agent_notes.DoesNotRace bar))) tt r);
      judges = judged-reaches now start (unheard x) r;
      asks = asks-reach now start o.machine o.knows.who (o.knows.sequence + 1) MOST_MEMBERS o.outputs r;
    })

answered-reaches : (now : Ticks) (start : Machine) (sequence : ℕ) (answer : PeerAnswer) (o : Outcome)
    → Reaches now start o → Reaches now start (answered now sequence answer o)
answered-reaches now start sequence answer o r = answered-by (Reaches now start) now sequence answer o (record {
  kept = r;
  quiet = r;
  keeps = r;
  judges = λ _. judged-reaches now start (keeping answer o) r;
  checks = λ revision _. handover-rows now start revision (keeping answer o) r;
})

-- a primary runs on without the leader key
run-reaches : (now : Ticks) (start : Machine) (o : Outcome) → Reaches now start o
    → Reaches now start (running_without_key o)
run-reaches now start o r =
    one-more now start o.machine o.outputs (outputs.Note (notings.Agent agent_notes.RunsWithoutKey)) tt r

got-carries : (now : Ticks) (points : List HistoryPoint) (start : Machine) (sequence : ℕ) (snapshot : SnapshotFacts)
    (o : Outcome) → Reaches now start o → IsCarriedOut now start (read_answered now points sequence snapshot o)
got-carries now points start sequence snapshot o r =
    let read : Outcome = record o { knows = read_noted now snapshot o.knows } in
    got-by (IsCarriedOut now start) now points sequence snapshot o (record {
      kept = carried-out now start o r;
      quiet = carried-out now start (waiting_no_more o) r;
      other = carried-out now start read r;
      leader =
          λ held _. carried-out now start (leader_loses_key now held read) (end-reaches now start LeaderKeyLost read r);
      unleased = λ _. carried-out now start (unleased_loses_key now read) (end-reaches now start LeaderKeyLost read r);
      renews = λ _ leader _ _. carried-out now start (renewing now points leader.revision read)
          (one-more now start o.machine o.outputs _ tt r);
      touches = carried-out now start (touching read) (touch-reaches now start read r);
      follows = λ leader _ _. follow-carries now start leader.holder read r;
      free = λ _ _. carried-out now start (finds_free now read) (free-reaches now start read r);
      runs_on = λ _. carried-out now start (running_without_key read) (run-reaches now start read r);
      asks_on = λ _. carried-out now start (asks_as_unleased now read)
          (one-more now start (running_without_key read).machine (running_without_key read).outputs _ tt
          (run-reaches now start read r));
    })

refused-reaches : (now : Ticks) (start : Machine) (sequence : ℕ) (o : Outcome) → Reaches now start o
    → Reaches now start (refused now sequence o)
refused-reaches now start sequence o r = refused-by (Reaches now start) now sequence o (record {
  kept = r;
  quiet = r;
  leader = λ held _. end-reaches now start LeaderKeyLost o r;
  unleased = λ _. end-reaches now start LeaderKeyLost o r;
  follower = λ held _. r;
  ready = λ held _. postpone-reaches now start held (waiting_no_more o) r;
  runs_on = λ _. run-reaches now start (waiting_no_more o) r;
})

-- what a leader owes its cluster
duty-reaches : (now : Ticks) (start : Machine) (revision : ℕ) (o : Outcome) → Reaches now start o
    → DutyRows (Reaches now start) now revision o
duty-reaches now start revision o r = record {
  plan = record {
    kept = r;
    writes = λ settling txn _. send-reaches now start _ o r;
    adds = λ required. require-reaches now start required (noting o) r;
    drops = λ required. require-reaches now start required o r;
  };
  clears = λ compared. send-reaches now start _ o r;
  asks = λ candidate. whom-reach now start o.machine o.knows.who candidate (o.knows.sequence + 1) o.outputs r;
  judges = handover-rows now start revision (unheard o) r;
}

renewed-reaches : (now ttl : Ticks) (start : Machine) (revision : ℕ) (o : Outcome) → Reaches now start o
    → Reaches now start (leader_renewed now ttl revision o)
renewed-reaches now ttl start revision o r = let led : Outcome = led_on now ttl revision o in
    let fed : Reaches now start led = feed-reaches now ttl start o r in
    renewed-by (Reaches now start) now ttl revision o (end-reaches now start StartTooLong led fed)
    (duty-reaches now start revision led fed)

-- a watchdog that rests
rests : (now : Ticks) (start machine : Machine) (outs : List Output) (renews : Bool) (deadline : Option Ticks)
    → machine.watchdog.deadline ≡ deadline → Reached now start machine outs
    → Reached now start (without_deadline machine) (disabling_told renews deadline outs)
rests now start machine outs true (Some deadline) is r =
    one-more now start (without_deadline machine) (with_output (outputs.Watchdog feedings.Disarmed) outs)
    (outputs.Note (notings.Agent agent_notes.DisablesWatchdog)) tt (disarms now start machine outs (Some deadline) is r)
rests now start machine outs false (Some deadline) is r = disarms now start machine outs (Some deadline) is r
rests now start machine outs renews None is r = disarms now start machine outs None is r

disabled-reaches : (now : Ticks) (start : Machine) (renews : Bool) (o : Outcome) → Reaches now start o
    → Reaches now start (disabling_watchdog renews o)
disabled-reaches now start renews o r = rests now start o.machine o.outputs renews o.machine.watchdog.deadline refl r

unleased-reaches : (now ttl : Ticks) (start : Machine) (revision : ℕ) (o : Outcome) → Reaches now start o
    → Reaches now start (unleased_renewed now ttl revision o)
unleased-reaches now ttl start revision o r =
    if-cases (Reaches now start) (is_refusing o.machine.watchdog.mode o.machine.watchdog.works)
    (ending_server now WatchdogNotArmed o) (takes_over now revision (arming now ttl o))
    (λ _. end-reaches now start WatchdogNotArmed o r) (λ _. arm-reaches now ttl start o r)

begin-reaches : (now : Ticks) (start : Machine) (revision : ℕ) (o : Outcome) → Reaches now start o
    → Reaches now start (begins now revision o)
begin-reaches now start revision o r = let waits : Outcome = requiring (unnamed o.knows.turn_settings) o in one-more now
    start waits.machine waits.outputs (outputs.Server orders.Begin) tt
    (require-reaches now start (unnamed o.knows.turn_settings) o r)

passing-reaches : (now : Ticks) (start : Machine) (o : Outcome) → Reaches now start o → Reaches now start (passing o)
passing-reaches now start o r = passing-by (λ (outs : List Output). Reached now start o.machine outs) o r
    (one-more now start o.machine o.outputs (outputs.Tell tellings.ClaimsOutsideSync) tt r)

cannot-reaches : (now : Ticks) (start : Machine) (revision : ℕ) (o : Outcome) → Reaches now start o
    → Reaches now start (cannot_arm revision o)
cannot-reaches now start revision o r =
    send-reaches now start (bodies.Request (txns.Lease (lease_txns.Release revision))) (record o {
      outputs = with_output (outputs.Note (notings.Agent agent_notes.CannotArm)) o.outputs;
    }) (one-more now start o.machine o.outputs (outputs.Note (notings.Agent agent_notes.CannotArm)) tt r)

arms-reaches : (now ttl : Ticks) (start : Machine) (revision : ℕ) (o : Outcome) → Reaches now start o
    → Reaches now start (arms now ttl revision o)
arms-reaches now ttl start revision o r =
    if-cases (Reaches now start) (is_refusing o.machine.watchdog.mode o.machine.watchdog.works)
    (cannot_arm revision o) (begins_or_claims now revision (arming now ttl o))
    (λ _. cannot-reaches now start revision o r)
    (λ _. let arm : Outcome = arming now ttl o in let fed : Reaches now start arm = arm-reaches now ttl start o r in
    begins-or-claims-by (Reaches now start) now revision arm (begin-reaches now start revision arm fed)
    (send-reaches now start _ (passing arm) (passing-reaches now start arm fed)))

takes-reaches : (now ttl : Ticks) (start : Machine) (revision : ℕ) (o : Outcome) → Reaches now start o
    → Reaches now start (takes_key now ttl revision o)
takes-reaches now ttl start revision o r =
    if-cases (Reaches now start) (may_take now o.knows o.machine) (arms now ttl revision o) (gives_back revision o)
    (λ _. arms-reaches now ttl start revision o r) (λ _. one-more now start o.machine o.outputs _ tt r)

-- in a pause who is wanted takes the key with a watchdog that rests
leading-in-pause-reaches : (now : Ticks) (start : Machine) (renews : Bool) (revision : ℕ) (o : Outcome)
    → Reaches now start o → Reaches now start (takes_key_in_pause now renews revision o)
leading-in-pause-reaches now start renews revision o r = let rest : Outcome = disabling_watchdog renews o in
    let rested : Reaches now start rest = disabled-reaches now start renews o r in
    takes-in-pause-by (Reaches now start) now renews revision o
    (one-more now start o.machine o.outputs _ tt r) (begin-reaches now start revision rest rested)
    (send-reaches now start _ (passing rest) (passing-reaches now start rest rested))

granted-reaches : (now : Ticks) (start : Machine) (sequence : ℕ) (grant : Granted) (snapshot : SnapshotFacts)
    (o : Outcome) → Reaches now start o → Reaches now start (granted now sequence grant snapshot o)
granted-reaches now start sequence grant snapshot o r =
    let told : Outcome = record o { knows = informed snapshot o.knows } in
    granted-by (Reaches now start) now sequence grant snapshot o r r
    (λ waited _ _. record {
      other = r;
      leader = λ held _. renewed-reaches now waited.ttl start grant.revision told r;
      unleased = λ _. unleased-reaches now waited.ttl start grant.revision told r;
      takes = λ _. takes-reaches now waited.ttl start grant.revision told r;
      keeps_late = λ held _. let kept : Outcome = kept_on grant.revision told in
          judges-start-by (Reaches now start) now grant.revision kept
          (end-reaches now start StartTooLong kept r) (duty-reaches now start grant.revision kept r);
      ends_late = λ _. end-reaches now start WatchdogNotArmed told r;
      refuses_late = λ _. cannot-reaches now start grant.revision told r;
      returns_late = λ _. one-more now start told.machine told.outputs _ tt r;
      leads_in_pause = λ renews _ held _.
          duties-of (Reaches now start) now grant.revision (leading_in_pause renews grant.revision told)
          (duty-reaches now start grant.revision (leading_in_pause renews grant.revision told)
          (disabled-reaches now start renews told r));
      unleased_in_pause = λ renews _ _. disabled-reaches now start renews told r;
      takes_in_pause = λ renews _ _. leading-in-pause-reaches now start renews grant.revision told r;
    })
    (λ after reached. reached)
    (record {
      other = r;
      begins = λ revision _. begin-reaches now start revision told r;
      postpones = λ revision _. postpone-reaches now start revision told r;
      settles = λ required _. require-reaches now start required told r;
    })

act-rows : (now : Ticks) (start : Machine) (request : ℕ) (o : Outcome) → Reaches now start o
    → ActRows (Reaches now start) now request o
act-rows now start request o r = record {
  asks = λ operation txn _. send-reaches now start (bodies.Request txn) o r;
  restarts =
      λ told. one-more now start (restarting now o).machine (restarting now o).outputs
      (outputs.Tell (tellings.Told request told)) tt
      (one-more now start o.machine o.outputs
      (outputs.Server (orders.Restart (is_primary o.machine.server.state))) tt r);
  wipes =
      λ told. one-more now start (wiping o).machine (wiping o).outputs (outputs.Tell (tellings.Told request told)) tt
      (one-more now start o.machine o.outputs (outputs.Server orders.Wipe) tt r);
  holds = λ ttl told _. let held : Outcome = holding_for now o.knows.who.me unnumbered ttl o in
      one-more now start held.machine held.outputs (outputs.Tell (tellings.Told request told)) tt
      (one-more now start o.machine o.outputs
      (outputs.Tell (tellings.HoldTaken (span_after now ttl) o.knows.who.me unnumbered)) tt r);
  refuses = λ told. one-more now start o.machine o.outputs (outputs.Tell (tellings.Told request told)) tt r;
}

step-carries : (now : Ticks) (points : List HistoryPoint) (heard : Heard) (start : Machine) (o : Outcome)
    → Reaches now start o → IsCarriedOut now start (step now points heard o)
step-carries now points Wake start o r = carried-out now start (woken now o) (wake-reaches now start o r)
step-carries now points (ReadAnswered sequence snapshot) start o r =
    got-carries now points start sequence snapshot (looked sequence snapshot (reconciled now o))
    (looked-by (Reaches now start) sequence snapshot (reconciled now o)
    (reply-rows now start (reconciled now o) (before-reaches now start o r)))
step-carries now points (HeardGranted sequence grant snapshot) start o r =
    let first : Outcome = reconciled now o in
    let fresh : Reaches now start first = before-reaches now start o r in
    carried-out now start (granted_any now sequence grant snapshot first)
    (granted-any-by (Reaches now start) now sequence grant snapshot first fresh
    (reply-rows now start (learned snapshot first) fresh)
    (granted-reaches now start sequence grant snapshot first fresh))
step-carries now points (Mismatch sequence key found) start o r =
    let first : Outcome = reconciled now o in
    let fresh : Reaches now start first = before-reaches now start o r in
    carried-out now start (refused_any now sequence first)
    (refused-any-by (Reaches now start) now sequence first (reply-rows now start first fresh)
    (refused-reaches now start sequence first fresh))
step-carries now points (Asked from incarnation sequence) start o r =
    carried-out now start (step now points (Asked from incarnation sequence) o)
    (one-more now start (reconciled now o).machine (reconciled now o).outputs _ tt (before-reaches now start o r))
step-carries now points (Answered sequence answer) start o r =
    carried-out now start (answered now sequence answer (reconciled now o))
    (answered-reaches now start sequence answer (reconciled now o) (before-reaches now start o r))
step-carries now points (FailsafeAsked from incarnation sequence ttl) start o r =
    let first : Outcome = reconciled now o in
    let fresh : Reaches now start first = before-reaches now start o r in
    carried-out now start (failsafe_asked now from incarnation sequence ttl first)
    (failsafe-asked-by (Reaches now start) now from incarnation sequence ttl first
    (λ _. one-more now start (holding_for now from sequence ttl first).machine
    (holding_for now from sequence ttl first).outputs
    (outputs.Message (outgoing.FailsafeAnswer from incarnation sequence true)) tt
    (one-more now start first.machine first.outputs
    (outputs.Tell (tellings.HoldTaken (span_after now ttl) from sequence)) tt fresh))
    (one-more now start first.machine first.outputs
    (outputs.Message (outgoing.FailsafeAnswer from incarnation sequence false)) tt fresh))
step-carries now points (FailsafeAnswered from sequence accepted sent) start o r =
    let first : Outcome = reconciled now o in
    let fresh : Reaches now start first = before-reaches now start o r in
    carried-out now start (failsafe_answered now from sequence accepted sent first)
    (failsafe-answered-by (Reaches now start) now from sequence accepted sent first (record {
      kept = fresh;
      quiet = fresh;
      counts = λ _ _. fresh;
      counts_late = λ _ _ _. fresh;
      stays = λ _ _ waited _ _ since _ _.
          stays-reaches now waited.ttl waited.sequence since start (counting from sent first) fresh;
      fails = λ _ _ _. end-reaches now start FailsafeNotAcknowledged first fresh;
    }))
step-carries now points (HearsOperator action) start o r = let first : Outcome = reconciled now o in
    carried-out now start (operated now action.request action.asked first)
    (operated-by (Reaches now start) now action.request action.asked first
    (act-rows now start action.request first (before-reaches now start o r)))

nothing : (now : Ticks) (machine : Machine) → Reached now machine machine []
nothing now machine = record { machine_is = refl; kinds = All-nil IsPlain }

pub step-carried-out : (now : Ticks) (points : List HistoryPoint) (heard : Heard) (role : RoleFacts) (knows : Knowledge)
    (machine : Machine) → IsCarriedOut now machine (step now points heard (outcome_from role knows machine []))
step-carried-out now points heard role knows machine =
    step-carries now points heard machine (outcome_from role knows machine []) (nothing now machine)
