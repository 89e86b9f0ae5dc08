-- What an input of an agent brings at most: messages of its incarnation, and outputs.
use Rattle.std.proofs.Common.{ℕ, ◌+◌, ◌≤◌, ◌^◌, Bool, true, false, List, [], ◌∷◌, All, length, length-append, Option, Some, None, arith, zero, suc}
use Rattle.std.proofs.lemmas.List.Elements.{All-push}
use Rattle.pat_base.specs.MemberId.{member_of}
use Rattle.pat_base.specs.declared.member_id.MemberId.{MemberId}
use Rattle.pat_base.specs.declared.member_set.MemberSet.{MemberSet}
use Rattle.pat_base.specs.declared.peer_answer.PeerAnswer.{PeerAnswer}
use Rattle.pat_base.specs.declared.ticks.Ticks.{Ticks}
use Rattle.store_keys.specs.declared.action.OperatorRequest.{OperatorRequest}
use Rattle.store_keys.specs.declared.action.OperatorRequest.TheVariants as requests
use Rattle.lease_store.specs.declared.granted.Granted.{Granted}
use Rattle.store_keys.specs.declared.txn.Txn.{Txn}
use Rattle.store_keys.specs.declared.txn.Txn.TheVariants as txns
use Rattle.store_keys.specs.declared.txn.SyncTxn.TheVariants as sync_txns
use Rattle.lease_store.specs.Writes.{ttl_of}
use Rattle.wal_model.specs.declared.entry.HistoryPoint.{HistoryPoint}
use Rattle.cluster_view.specs.Snapshots.{SnapshotFacts}
use Rattle.agent_model.specs.declared.heard.Heard.{Heard}
use Rattle.agent_model.specs.declared.heard.Heard.TheVariants as heards
use Rattle.agent_model.specs.declared.output.Output.{Output}
use Rattle.agent_model.specs.declared.output.Output.TheVariants as outputs
use Rattle.agent_model.specs.declared.output.Feeding.TheVariants as feedings
use Rattle.agent_model.specs.declared.output.Noting.TheVariants as notings
use Rattle.agent_model.specs.declared.output.Outgoing.TheVariants as outgoing
use Rattle.agent_model.specs.declared.output.ServerOrder.TheVariants as orders
use Rattle.agent_model.specs.declared.output.Telling.TheVariants as tellings
use Rattle.agent_model.specs.declared.output.Target.TheVariants as targets
use Rattle.agent_model.specs.declared.why.Why.{Why}
use Rattle.agent_model.specs.declared.who.Who.{Who}
use Rattle.event_book.specs.declared.agent_note.AgentNote.TheVariants as agent_notes
use Rattle.event_book.specs.declared.message.Body.TheVariants as bodies
use Rattle.agent_model.specs.declared.why.Why.TheVariants.{HandOver, Lost}
use Rattle.agent_model.specs.Acting.{arming, armed, deadline_after, disarmed, fed_until, is_refusing, lease_span, touching, waiting_no_more}
use Rattle.agent_model.specs.Agents.{Follower, Outcome}
use Rattle.agent_model.specs.Reconciling.{reconciled, has_ended}
use Rattle.agent_model.specs.Claiming.{begins, begins_or_claims, claims, passing, postpones}
use Rattle.agent_model.specs.Decisions.{arms, cannot_arm, gives_back, granted, judges_start, leader_renewed, may_take, refused, unleased_renewed, takes_key, takes_over, takes_key_in_pause}
use Rattle.agent_model.specs.HandingOver.{asking_whom, hands_over}
use Rattle.agent_model.specs.Operators.{given_up, looked, operated, unnumbered}
use Rattle.agent_model.specs.Outputs.{with_output}
use Rattle.agent_model.specs.Racing.{finds_free, judged, unheard}
use Rattle.agent_model.specs.Repairs.{repair_of}
use Rattle.agent_model.specs.Snapshots.{follow_row, follows, read_answered, informed, read_noted, led_by_another}
use Rattle.agent_model.specs.StayingPrimary.{others_known, requesting_one, requesting_first, asking_to_stay, fed_by_failsafe, stays, leader_unacknowledged, counting, span_after, holding_for, failsafe_asked, failsafe_answered}
use Rattle.failsafe.specs.Asks.{asked, has}
use Rattle.agent_model.specs.Table.{granted_any, refused_any, step}
use Rattle.agent_model.specs.Wake.{overdue, turned, woken}
use Rattle.agent_cases.specs.Bounds.{IsSmall}
use Rattle.agent_cases.proofs.Rows.{HandoverRows, ReplyRows, if-cases, before-by, overdue-by, turn-by, wake-by, got-by, refused-by, follow-by, repaired-by, free-by, judged-by, answered-by, given-up-by, looked-by, refused-any-by, asked-to-hold-by}
use Rattle.agent_cases.proofs.FailsafeRows.{failsafe-asked-by, failsafe-answered-by}
use Rattle.agent_cases.proofs.Grants.{WritesSync, kept_on, led_on, begins-or-claims-by, passing-by, judges-start-by, granted-by, granted-any-by, DutyRows, duties-of, leading_in_pause, takes-in-pause-by}
use Rattle.agent_model.specs.Answers.{is_other, asking_one, asking_first}
use Rattle.pat_base.specs.declared.member_id.TheConstants.{MOST_MEMBERS}
use Rattle.agent_model.specs.Peers.{keeping, answered}
use Rattle.agent_model.specs.Asked.{AsksShortly}
use Rattle.agent_model.specs.Pausing.{may_start_behind, disabling_told, disabling_watchdog}

-- from this number of messages and these outputs on there are so many
-- more at most, and each asks shortly if each did before
record Grows (most sequence later : ℕ) (before after : List Output) : Type 0 where
  numbers : later ≤ sequence + most
  few : length after ≤ length before + most
  short : All AsksShortly before → All AsksShortly after

-- a race asks at most so many others
more : (sequence later : ℕ) (before after : List Output) → Grows 9 sequence later before after
    → Grows MOST_MEMBERS sequence later before after
more sequence later before after one =
    record { numbers = omega (arith, one.numbers); few = omega (arith, one.few); short = one.short }

kept : {sequence : ℕ} {outputs : List Output} → Grows 9 sequence sequence outputs outputs
kept = record { numbers = omega arith; few = omega arith; short = λ all. all }

-- one output more, and at most one message
one : (sequence later : ℕ) (before : List Output) (output : Output) → later ≤ sequence + 1
    → AsksShortly output → Grows 1 sequence later before (with_output output before)
one sequence later before output h asks = record {
  numbers = h;
  few = omega (arith, length-append before (output ∷ []));
  short = λ all. All-push AsksShortly before output all asks;
}

none : (sequence : ℕ) (outputs : List Output) → Grows 1 sequence sequence outputs outputs
none sequence outputs = record { numbers = omega arith; few = omega arith; short = λ all. all }

grows-then : (a b c first second third : ℕ) (x y z : List Output) → a + b ≤ c → Grows a first second x y
    → Grows b second third y z → Grows c first third x z
grows-then a b c first second third x y z h one two = record {
  numbers = omega (arith, h, one.numbers, two.numbers);
  few = omega (arith, h, one.few, two.few);
  short = λ all. two.short (one.short all);
}

weaker : (a b first second : ℕ) (x y : List Output) → a ≤ b → Grows a first second x y → Grows b first second x y
weaker a b first second x y h one =
    record { numbers = omega (arith, h, one.numbers); few = omega (arith, h, one.few); short = one.short }

-- what an outcome brings after another one
abbrev Brings : ℕ → Outcome → Outcome → Type 0
Brings most o after = Grows most o.knows.sequence after.knows.sequence o.outputs after.outputs

-- a row of the table brings so much at most
abbrev Row : Outcome → Outcome → Type 0
Row o after = Brings 9 o after

said : (sequence later : ℕ) (before : List Output) (output : Output) → later ≤ sequence + 1
    → AsksShortly output → Grows 9 sequence later before (with_output output before)
said sequence later before output h asks =
    weaker 1 9 sequence later before (with_output output before) (omega arith) (one sequence later before output h asks)

-- one thing, and then a message
both : (sequence : ℕ) (before : List Output) (first second : Output) → AsksShortly first → AsksShortly second
    → Grows 2 sequence (sequence + 1) before (with_output second (with_output first before))
both sequence before first second asks also =
    grows-then 1 1 2 sequence sequence (sequence + 1) before (with_output first before)
    (with_output second (with_output first before)) (omega arith)
    (one sequence sequence before first (omega arith) asks)
    (one sequence (sequence + 1) (with_output first before) second (omega arith) also)

said-both : (sequence : ℕ) (before : List Output) (first second : Output) → AsksShortly first
    → AsksShortly second → Grows 9 sequence (sequence + 1) before (with_output second (with_output first before))
said-both sequence before first second asks also =
    weaker 2 9 _ _ _ _ (omega arith) (both sequence before first second asks also)

disarmed-one : (sequence : ℕ) (deadline : Option Ticks) (before : List Output)
    → Grows 1 sequence sequence before (disarmed deadline before)
disarmed-one sequence None before = none sequence before
disarmed-one sequence (Some deadline) before =
    one sequence sequence before (outputs.Watchdog feedings.Disarmed) (omega arith) tt

disarmed-row : (sequence : ℕ) (deadline : Option Ticks) (before : List Output)
    → Grows 9 sequence sequence before (disarmed deadline before)
disarmed-row sequence deadline before =
    weaker 1 9 sequence sequence before (disarmed deadline before) (omega arith) (disarmed-one sequence deadline before)

armed-one : (sequence : ℕ) (deadline : Option Ticks) (before : List Output)
    → Grows 1 sequence sequence before (armed deadline before)
armed-one sequence None before = none sequence before
armed-one sequence (Some deadline) before =
    one sequence sequence before (outputs.Watchdog (feedings.Armed deadline)) (omega arith) tt

fed-one : (sequence : ℕ) (deadline : Option Ticks) (before : List Output)
    → Grows 1 sequence sequence before (fed_until deadline before)
fed-one sequence None before = none sequence before
fed-one sequence (Some deadline) before =
    one sequence sequence before (outputs.Watchdog (feedings.Fed deadline)) (omega arith) tt

ended-row : (why : Why) (held : ℕ) (o : Outcome) → Row o (has_ended why held o)
ended-row Lost held o = disarmed-row o.knows.sequence o.machine.watchdog.deadline o.outputs
ended-row HandOver held o =
    grows-then 1 1 9 o.knows.sequence o.knows.sequence (o.knows.sequence + 1) o.outputs
    (disarmed o.machine.watchdog.deadline o.outputs) _ (omega arith)
    (disarmed-one o.knows.sequence o.machine.watchdog.deadline o.outputs)
    (one o.knows.sequence (o.knows.sequence + 1) (disarmed o.machine.watchdog.deadline o.outputs) _
    (omega arith) (omega arith))

before-row : (now : Ticks) (o : Outcome) → Row o (reconciled now o)
before-row now o = before-by (Row o) now o (record {
  kept = λ _. kept;
  leader = λ held _ _. disarmed-row o.knows.sequence o.machine.watchdog.deadline o.outputs;
  ending = λ held why _ _. ended-row why held o;
  follower = λ _ _. kept;
  holder = λ held _ _. kept;
  ready = λ held _ _. disarmed-row o.knows.sequence o.machine.watchdog.deadline o.outputs;
  unleased = λ _ _. disarmed-row o.knows.sequence o.machine.watchdog.deadline o.outputs;
})

judged-row : (now : Ticks) (o : Outcome) → Row o (judged now o)
judged-row now o = judged-by (Row o) now o
    (said o.knows.sequence (o.knows.sequence + 1) o.outputs _ (omega arith) (omega (arith, o.knows.settings.ttl_range)))
    (λ bar. said-both o.knows.sequence o.outputs _ _ tt (omega (arith, o.knows.settings.ttl_range)))

-- a promotion that is postponed
postponed-row : (held : ℕ) (o : Outcome) → Row o (postpones held o)
postponed-row held o =
    grows-then 1 1 9 o.knows.sequence o.knows.sequence o.knows.sequence o.outputs
    (disarmed o.machine.watchdog.deadline o.outputs) _ (omega arith)
    (disarmed-one o.knows.sequence o.machine.watchdog.deadline o.outputs)
    (one o.knows.sequence o.knows.sequence (disarmed o.machine.watchdog.deadline o.outputs)
    (outputs.Note (notings.Agent agent_notes.PostponesPromotion)) (omega arith) tt)

-- a leader hands over
hands-row : (now : Ticks) (held : ℕ) (candidate : MemberId) (o : Outcome) → Brings 2 o (hands_over now held candidate o)
hands-row now held candidate o =
    grows-then 1 1 2 o.knows.sequence o.knows.sequence o.knows.sequence o.outputs
    (with_output (outputs.Note (notings.Agent (agent_notes.HandsOver candidate))) o.outputs) _ (omega arith)
    (one o.knows.sequence o.knows.sequence o.outputs
    (outputs.Note (notings.Agent (agent_notes.HandsOver candidate))) (omega arith) tt)
    (one o.knows.sequence o.knows.sequence
    (with_output (outputs.Note (notings.Agent (agent_notes.HandsOver candidate))) o.outputs)
    (outputs.Server orders.ShutDown) (omega arith) tt)

handover-rows : (now : Ticks) (held : ℕ) (o : Outcome) → HandoverRows (Brings 2 o) now held o
handover-rows now held o = record {
  kept = weaker 1 2 _ _ _ _ (omega arith) (none o.knows.sequence o.outputs);
  clears = λ compared. weaker 1 2 _ _ _ _ (omega arith)
      (one o.knows.sequence (o.knows.sequence + 1) o.outputs _ (omega arith) (omega arith));
  hands = λ candidate. hands-row now held candidate (waiting_no_more o);
}

-- the same behind what came before
handed-on : (most whole : ℕ) (now : Ticks) (held : ℕ) (start o : Outcome) → most + 2 ≤ whole
    → Brings most start o → HandoverRows (Brings whole start) now held o
handed-on most whole now held start o h before =
    let rows = handover-rows now held o in
    record {
      kept = grows-then most 2 whole _ _ _ _ _ _ h before rows.kept;
      clears = λ compared. grows-then most 2 whole _ _ _ _ _ _ h before (rows.clears compared);
      hands = λ candidate. grows-then most 2 whole _ _ _ _ _ _ h before (rows.hands candidate);
    }

-- operators are answered
reply-rows : (most : ℕ) (o : Outcome) → 1 ≤ most → ReplyRows (Brings most o) o
reply-rows most o some = record {
  kept = weaker 1 most _ _ _ _ some (none o.knows.sequence o.outputs);
  answers = λ request told. weaker 1 most _ _ _ _ some
      (one o.knows.sequence o.knows.sequence o.outputs (outputs.Tell (tellings.Told request told)) (omega arith) tt);
}

looked-row : (sequence : ℕ) (snapshot : SnapshotFacts) (o : Outcome) → Brings 1 o (looked sequence snapshot o)
looked-row sequence snapshot o = looked-by (Brings 1 o) sequence snapshot o (reply-rows 1 o (omega arith))

given-up-row : (now : Ticks) (o : Outcome) → Brings 1 o (given_up now o)
given-up-row now o = given-up-by (Brings 1 o) now o (reply-rows 1 o (omega arith))

-- what an operator asks is done
operated-row : (now : Ticks) (request : ℕ) (asked : OperatorRequest) (o : Outcome)
    → Brings 2 o (operated now request asked o)
operated-row now request (requests.Failover kind failover) o =
    weaker 1 2 _ _ _ _ (omega arith)
    (one o.knows.sequence (o.knows.sequence + 1) o.outputs _ (omega arith) (omega (arith, o.knows.settings.ttl_range)))
operated-row now request (requests.Configuration config) o = weaker 1 2 _ _ _ _ (omega arith)
    (one o.knows.sequence (o.knows.sequence + 1) o.outputs _ (omega arith) (omega arith))
operated-row now request requests.Restart o =
    grows-then 1 1 2 o.knows.sequence o.knows.sequence o.knows.sequence o.outputs _ _ (omega arith)
    (one o.knows.sequence o.knows.sequence o.outputs _ (omega arith) tt)
    (one o.knows.sequence o.knows.sequence _ _ (omega arith) tt)
operated-row now request requests.Reinit o =
    grows-then 1 1 2 o.knows.sequence o.knows.sequence o.knows.sequence o.outputs _ _ (omega arith)
    (one o.knows.sequence o.knows.sequence o.outputs (outputs.Server orders.Wipe) (omega arith) tt)
    (one o.knows.sequence o.knows.sequence _ _ (omega arith) tt)
operated-row now request (requests.Hold from ttl) o =
    asked-to-hold-by (Brings 2 o) now request (record { 0 = ttl }) o
    (λ text _.
    grows-then 1 1 2 o.knows.sequence o.knows.sequence o.knows.sequence o.outputs held.outputs _ (omega arith)
    (one o.knows.sequence o.knows.sequence o.outputs
    (outputs.Tell (tellings.HoldTaken (span_after now (record { 0 = ttl })) o.knows.who.me unnumbered))
    (omega arith) tt)
    (one o.knows.sequence o.knows.sequence held.outputs _ (omega arith) tt))
    (λ text. weaker 1 2 _ _ _ _ (omega arith) (one o.knows.sequence o.knows.sequence o.outputs _ (omega arith) tt))
  where
    held : Outcome
    held = holding_for now o.knows.who.me unnumbered (record { 0 = ttl }) o

-- the requests to those that a leader asks to let it stay
requested-few : (members : MemberSet) (sequence : ℕ) (ttl : Ticks) (member : Option MemberId) (outs : List Output)
    → length (requesting_one members sequence ttl member outs) ≤ length outs + 1
requested-few members sequence ttl None outs = omega arith
requested-few members sequence ttl (Some member) outs =
    if-cases (λ (l : List Output). length l ≤ length outs + 1) (has members member.number)
    (with_output (outputs.Message (outgoing.Send (targets.Member member) sequence (bodies.FailsafeRequest ttl))) outs)
    outs
    (λ _.
    omega (
      arith,
      length-append outs
          (outputs.Message (outgoing.Send (targets.Member member) sequence (bodies.FailsafeRequest ttl)) ∷ []),
    ))
    (λ _. omega arith)

requests-few : (members : MemberSet) (sequence : ℕ) (ttl : Ticks) (count : ℕ) (outs : List Output)
    → length (requesting_first members sequence ttl count outs) ≤ length outs + count
requests-few members sequence ttl zero outs = omega arith
requests-few members sequence ttl (suc count) outs = omega (
  arith,
  requested-few members sequence ttl (member_of count) (requesting_first members sequence ttl count outs),
  requests-few members sequence ttl count outs,
)

requested-short : (members : MemberSet) (sequence : ℕ) (ttl : Ticks) (member : Option MemberId) (outs : List Output)
    → ttl.0 ≤ 2 ^ 40 → All AsksShortly outs → All AsksShortly (requesting_one members sequence ttl member outs)
requested-short members sequence ttl None outs few all = all
requested-short members sequence ttl (Some member) outs few all =
    if-cases (λ (l : List Output). All AsksShortly l) (has members member.number)
    (with_output (outputs.Message (outgoing.Send (targets.Member member) sequence (bodies.FailsafeRequest ttl))) outs)
    outs
    (λ _.
    All-push AsksShortly outs
    (outputs.Message (outgoing.Send (targets.Member member) sequence (bodies.FailsafeRequest ttl))) all few)
    (λ _. all)

requests-short : (members : MemberSet) (sequence : ℕ) (ttl : Ticks) (count : ℕ) (outs : List Output)
    → ttl.0 ≤ 2 ^ 40 → All AsksShortly outs → All AsksShortly (requesting_first members sequence ttl count outs)
requests-short members sequence ttl zero outs few all = all
requests-short members sequence ttl (suc count) outs few all = requested-short members sequence ttl (member_of count)
    (requesting_first members sequence ttl count outs) few (requests-short members sequence ttl count outs few all)

seeks-row : (now : Ticks) (members : MemberSet) (o : Outcome) → Brings MOST_MEMBERS o (asking_to_stay now members o)
seeks-row now members o = record {
  numbers = omega arith;
  few = requests-few members (o.knows.sequence + 1) (lease_span o.knows.settings) MOST_MEMBERS o.outputs;
  short = requests-short members (o.knows.sequence + 1) (lease_span o.knows.settings) MOST_MEMBERS o.outputs
      (omega (arith, o.knows.settings.ttl_range));
}

-- a leader stays
stay-fed-one : (sequence number : ℕ) (deadline : Option Ticks) (members : MemberSet) (since : Ticks)
    (before : List Output) → Grows 1 sequence sequence before (fed_by_failsafe deadline members number since before)
stay-fed-one sequence number None members since before = none sequence before
stay-fed-one sequence number (Some until) members since before =
    one sequence sequence before (outputs.Watchdog (feedings.FedByFailsafe until members number since)) (omega arith) tt

stays-row : (now ttl : Ticks) (sequence : ℕ) (since : Ticks) (o : Outcome) → Row o (stays now ttl sequence since o)
stays-row now ttl sequence since o =
    let told : List Output =
    fed_by_failsafe (deadline_after now ttl o.machine.watchdog) o.knows.failsafe.members sequence since o.outputs in
    grows-then 1 1 9 o.knows.sequence o.knows.sequence o.knows.sequence o.outputs told _ (omega arith)
    (stay-fed-one o.knows.sequence sequence
    (deadline_after now ttl o.machine.watchdog) o.knows.failsafe.members since o.outputs)
    (one o.knows.sequence o.knows.sequence told (outputs.Note notings.StaysByFailsafe) (omega arith) tt)

ends-row : (now : Ticks) (held : ℕ) (o : Outcome) → Row o (leader_unacknowledged now held (waiting_no_more o))
ends-row now held o = said o.knows.sequence o.knows.sequence o.outputs _ (omega arith) tt

overdue-row : (now : Ticks) (o : Outcome) → Brings MOST_MEMBERS o (overdue now o)
overdue-row now o = overdue-by (Brings MOST_MEMBERS o) now o (record {
  kept = more _ _ _ _ kept;
  quiet = more _ _ _ _ kept;
  leader = λ held _. more _ _ _ _ (said o.knows.sequence o.knows.sequence o.outputs _ (omega arith) tt);
  seeks = λ held _. seeks-row now (others_known o.knows) (waiting_no_more o);
  alone = λ held _. more _ _ _ _ (stays-row now (lease_span o.knows.settings) o.knows.sequence now (record o {
    knows = record o.knows { waited = None; failsafe = asked (others_known o.knows) now };
  }));
  silent = λ held _. more _ _ _ _ (ends-row now held o);
  unleased = λ _. more _ _ _ _ (said o.knows.sequence o.knows.sequence o.outputs _ (omega arith) tt);
  judges = λ _. more _ _ _ _ (judged-row now o);
  ready = λ held _. more _ _ _ _ (postponed-row held (waiting_no_more o));
  checks = λ held _. handed-on 1 MOST_MEMBERS now held o o (omega arith) (none o.knows.sequence o.outputs);
})

turn-row : (now : Ticks) (o : Outcome) → Row o (turned now o)
turn-row now o = turn-by (Row o) now o (record {
  kept = kept;
  quiet = kept;
  reads = λ _. said o.knows.sequence (o.knows.sequence + 1) o.outputs _ (omega arith) tt;
})

follow-told : (now : Ticks) (leader : MemberId) (o : Outcome)
    → Brings 2 o (touching (follow_row (may_start_behind o.knows) now leader o.machine.server.state (led_by_another o)))
follow-told now leader o = follow-by (λ (y : Outcome). Brings 2 o (touching y))
    (may_start_behind o.knows) now leader o.machine.server.state (led_by_another o)
    (weaker 1 2 _ _ _ _ (omega arith)
    (one o.knows.sequence (o.knows.sequence + 1) o.outputs _ (omega arith) (omega (arith, o.knows.settings.ttl_range))))
    (both o.knows.sequence o.outputs _ _ tt (omega (arith, o.knows.settings.ttl_range)))
    (both o.knows.sequence o.outputs _ _ tt (omega (arith, o.knows.settings.ttl_range)))
    (both o.knows.sequence o.outputs _ _ tt (omega (arith, o.knows.settings.ttl_range)))

follow-row : (now : Ticks) (leader : MemberId) (o : Outcome) → Row o (follows now leader o)
follow-row now leader o =
    let row : Outcome =
    touching (follow_row (may_start_behind o.knows) now leader o.machine.server.state (led_by_another o)) in
    let told = follow-told now leader o in
    repaired-by (Row o) leader (repair_of o.knows.settings leader o.machine.server) row
    (weaker 2 9 _ _ _ _ (omega arith) told)
    (λ r. grows-then 2 1 9 _ _ _ _ _ _ (omega arith) told
    (one row.knows.sequence row.knows.sequence row.outputs (outputs.Server (orders.Repair leader r)) (omega arith) tt))

-- the asks of a race
asked-few : (who : Who) (sequence : ℕ) (member : Option MemberId) (outs : List Output)
    → length (asking_one who sequence member outs) ≤ length outs + 1
asked-few who sequence None outs = omega arith
asked-few who sequence (Some member) outs = if-cases (λ (l : List Output). length l ≤ length outs + 1)
    (is_other who member)
    (with_output (outputs.Message (outgoing.Send (targets.Member member) sequence bodies.Ask)) outs) outs
    (λ _. omega
    (arith, length-append outs (outputs.Message (outgoing.Send (targets.Member member) sequence bodies.Ask) ∷ [])))
    (λ _. omega arith)

asks-few : (who : Who) (sequence count : ℕ) (outs : List Output)
    → length (asking_first who sequence count outs) ≤ length outs + count
asks-few who sequence zero outs = omega arith
asks-few who sequence (suc count) outs = omega (
  arith,
  asked-few who sequence (member_of count) (asking_first who sequence count outs),
  asks-few who sequence count outs,
)

asked-short : (who : Who) (sequence : ℕ) (member : Option MemberId) (outs : List Output)
    → All AsksShortly outs → All AsksShortly (asking_one who sequence member outs)
asked-short who sequence None outs all = all
asked-short who sequence (Some member) outs all = if-cases (λ (l : List Output). All AsksShortly l)
    (is_other who member)
    (with_output (outputs.Message (outgoing.Send (targets.Member member) sequence bodies.Ask)) outs) outs
    (λ _.
    All-push AsksShortly outs (outputs.Message (outgoing.Send (targets.Member member) sequence bodies.Ask)) all tt)
    (λ _. all)

asks-short : (who : Who) (sequence count : ℕ) (outs : List Output) → All AsksShortly outs
    → All AsksShortly (asking_first who sequence count outs)
asks-short who sequence zero outs all = all
asks-short who sequence (suc count) outs all = asked-short who sequence (member_of count)
    (asking_first who sequence count outs) (asks-short who sequence count outs all)

asks-row : (who : Who) (sequence count : ℕ) (outs : List Output) → count ≤ MOST_MEMBERS
    → Grows MOST_MEMBERS sequence (sequence + 1) outs (asking_first who (sequence + 1) count outs)
asks-row who sequence count outs most = record {
  numbers = omega arith;
  few = omega (arith, most, asks-few who (sequence + 1) count outs);
  short = asks-short who (sequence + 1) count outs;
}

-- those of a leader that is to hand over
whom-row : (who : Who) (candidate : Option MemberId) (sequence : ℕ) (outs : List Output)
    → Grows MOST_MEMBERS sequence (sequence + 1) outs (asking_whom who candidate (sequence + 1) outs)
whom-row who None sequence outs = asks-row who sequence MOST_MEMBERS outs (omega arith)
whom-row who (Some candidate) sequence outs = record {
  numbers = omega arith;
  few = omega (arith, asked-few who (sequence + 1) (Some candidate) outs);
  short = asked-short who (sequence + 1) (Some candidate) outs;
}

free-row : (now : Ticks) (o : Outcome) → Brings MOST_MEMBERS o (finds_free now o)
free-row now o = free-by (Brings MOST_MEMBERS o) now (record o { role = Follower }) (record {
  starts = more _ _ _ _ (said-both o.knows.sequence o.outputs _ _ tt (omega (arith, o.knows.settings.ttl_range)));
  touches = more _ _ _ _
      (said o.knows.sequence (o.knows.sequence + 1) o.outputs _ (omega arith)
      (omega (arith, o.knows.settings.ttl_range)));
  bars = λ bar. more _ _ _ _ (said-both o.knows.sequence o.outputs _ _ tt (omega (arith, o.knows.settings.ttl_range)));
  judges = more _ _ _ _ (judged-row now (unheard (record o { role = Follower })));
  asks = asks-row o.knows.who o.knows.sequence MOST_MEMBERS o.outputs (omega arith);
})

got-row : (now : Ticks) (points : List HistoryPoint) (sequence : ℕ) (snapshot : SnapshotFacts) (o : Outcome)
    → Brings MOST_MEMBERS o (read_answered now points sequence snapshot o)
got-row now points sequence snapshot o =
    let read : Outcome = record o { knows = read_noted now snapshot o.knows } in
    let still : Grows MOST_MEMBERS o.knows.sequence o.knows.sequence o.outputs o.outputs = more _ _ _ _ kept in
    got-by (Brings MOST_MEMBERS o) now points sequence snapshot o (record {
      kept = still;
      quiet = still;
      other = still;
      leader = λ held _. more _ _ _ _ (said o.knows.sequence o.knows.sequence o.outputs _ (omega arith) tt);
      unleased = λ _. more _ _ _ _ (said o.knows.sequence o.knows.sequence o.outputs _ (omega arith) tt);
      renews = λ leader _ _ _. more _ _ _ _
          (said o.knows.sequence (o.knows.sequence + 1) o.outputs _ (omega arith)
          (omega (arith, read.knows.settings.ttl_range)));
      touches = more _ _ _ _
          (said o.knows.sequence (o.knows.sequence + 1) o.outputs _ (omega arith)
          (omega (arith, read.knows.settings.ttl_range)));
      follows = λ leader _ _. more _ _ _ _ (follow-row now leader.holder read);
      free = λ _ _. free-row now read;
      runs_on = λ _. more _ _ _ _
          (said o.knows.sequence o.knows.sequence o.outputs
          (outputs.Note (notings.Agent agent_notes.RunsWithoutKey)) (omega arith) tt);
      asks_on = λ _.
          more _ _ _ _ (said-both o.knows.sequence o.outputs _ _ tt (omega (arith, read.knows.settings.ttl_range)));
    })

answered-row : (now : Ticks) (sequence : ℕ) (answer : PeerAnswer) (o : Outcome) → Row o (answered now sequence answer o)
answered-row now sequence answer o = answered-by (Row o) now sequence answer o (record {
  kept = kept;
  quiet = kept;
  keeps = kept;
  judges = λ _. judged-row now (keeping answer o);
  checks = λ held _. handed-on 1 9 now held o (keeping answer o) (omega arith) (none o.knows.sequence o.outputs);
})

refused-row : (now : Ticks) (sequence : ℕ) (o : Outcome) → Row o (refused now sequence o)
refused-row now sequence o = refused-by (Row o) now sequence o (record {
  kept = kept;
  quiet = kept;
  leader = λ held _. said o.knows.sequence o.knows.sequence o.outputs _ (omega arith) tt;
  unleased = λ _. said o.knows.sequence o.knows.sequence o.outputs _ (omega arith) tt;
  follower = λ held _. kept;
  ready = λ held _. postponed-row held (waiting_no_more o);
  runs_on =
      λ _. said o.knows.sequence o.knows.sequence o.outputs
      (outputs.Note (notings.Agent agent_notes.RunsWithoutKey)) (omega arith) tt;
})

back-row : (held : ℕ) (o : Outcome) → Brings 1 o (gives_back held o)
back-row held o = one o.knows.sequence (o.knows.sequence + 1) o.outputs _ (omega arith) (omega arith)

begins-row : (now : Ticks) (held : ℕ) (o : Outcome) → Brings 2 o (begins now held o)
begins-row now held o =
    grows-then 1 1 2 o.knows.sequence o.knows.sequence o.knows.sequence o.outputs _ _ (omega arith)
    (one o.knows.sequence o.knows.sequence o.outputs _ (omega arith) tt)
    (one o.knows.sequence o.knows.sequence _ (outputs.Server orders.Begin) (omega arith) tt)

-- what a member notes of the sync key, and its claim of that
passing-row : (o : Outcome) → Brings 1 o (passing o)
passing-row o =
    passing-by (Grows 1 o.knows.sequence o.knows.sequence o.outputs) o (none o.knows.sequence o.outputs)
    (one o.knows.sequence o.knows.sequence o.outputs (outputs.Tell tellings.ClaimsOutsideSync) (omega arith) tt)

claims-row : (now : Ticks) (held : ℕ) (o : Outcome) → Brings 2 o (claims now held (passing o))
claims-row now held o =
    grows-then 1 1 2 o.knows.sequence o.knows.sequence (o.knows.sequence + 1) o.outputs (passing o).outputs _
    (omega arith) (passing-row o)
    (one o.knows.sequence (o.knows.sequence + 1) (passing o).outputs _ (omega arith) (omega arith))

begun-row : (now : Ticks) (held : ℕ) (o : Outcome) → Brings 2 o (begins_or_claims now held o)
begun-row now held o = begins-or-claims-by (Brings 2 o) now held o (begins-row now held o) (claims-row now held o)

cannot-row : (held : ℕ) (o : Outcome) → Row o (cannot_arm held o)
cannot-row held o =
    grows-then 1 1 9 o.knows.sequence o.knows.sequence (o.knows.sequence + 1) o.outputs
    (with_output (outputs.Note (notings.Agent agent_notes.CannotArm)) o.outputs) _ (omega arith)
    (one o.knows.sequence o.knows.sequence o.outputs (outputs.Note (notings.Agent agent_notes.CannotArm))
    (omega arith) tt)
    (back-row held (record o { outputs = with_output (outputs.Note (notings.Agent agent_notes.CannotArm)) o.outputs }))

arms-row : (now ttl : Ticks) (held : ℕ) (o : Outcome) → Row o (arms now ttl held o)
arms-row now ttl held o = if-cases (Row o) (is_refusing o.machine.watchdog.mode o.machine.watchdog.works)
    (cannot_arm held o) (begins_or_claims now held (arming now ttl o))
    (λ _. cannot-row held o)
    (λ _. grows-then 1 2 9 o.knows.sequence o.knows.sequence _ o.outputs
    (armed (deadline_after now ttl o.machine.watchdog) o.outputs) _ (omega arith)
    (armed-one o.knows.sequence (deadline_after now ttl o.machine.watchdog) o.outputs)
    (begun-row now held (arming now ttl o)))

takes-row : (now ttl : Ticks) (held : ℕ) (o : Outcome) → Row o (takes_key now ttl held o)
takes-row now ttl held o = if-cases (Row o) (may_take now o.knows o.machine) (arms now ttl held o)
    (gives_back held o) (λ _. arms-row now ttl held o)
    (λ _. weaker 1 9 o.knows.sequence (o.knows.sequence + 1) o.outputs _ (omega arith) (back-row held o))

-- a write of the sync key asks for no lease
sync-short : (txn : Txn) → WritesSync txn → ttl_of txn ≤ 2 ^ 40
sync-short (txns.Sync (sync_txns.SetSync revision sync standbys may_lack)) writes = omega arith
sync-short (txns.Sync (sync_txns.DropSync revision sync)) writes = omega arith
sync-short _ writes = absurd writes

-- what a leader owes its cluster, behind what became of its watchdog
duties-row : (most whole : ℕ) (now : Ticks) (held : ℕ) (start led : Outcome) → most + MOST_MEMBERS ≤ whole
    → Brings most start led → DutyRows (Brings whole start) now held led
duties-row most whole now held start led h before =
    let and-one : (later : ℕ) (output : Output) → later ≤ led.knows.sequence + 1 → AsksShortly output
    → Grows whole start.knows.sequence later start.outputs (with_output output led.outputs) =
    λ later output next asks. grows-then most 1 whole _ _ _ _ _ _ (omega (arith, h)) before
    (one led.knows.sequence later led.outputs output next asks) in
    record {
      plan = record {
        kept = weaker most whole _ _ _ _ (omega (arith, h)) before;
        writes = λ settling txn writes. and-one (led.knows.sequence + 1) _ (omega arith) (sync-short txn writes);
        adds = λ required. and-one led.knows.sequence (outputs.Require required) (omega arith) tt;
        drops = λ required. and-one led.knows.sequence (outputs.Require required) (omega arith) tt;
      };
      clears = λ compared. and-one (led.knows.sequence + 1) _ (omega arith) (omega arith);
      asks = λ candidate. grows-then most 16 whole _ _ _ _ _ _ h before
          (whom-row led.knows.who candidate led.knows.sequence led.outputs);
      judges = handed-on most whole now held start (unheard led) (omega (arith, h)) before;
    }

-- a watchdog that rests
disabled-one : (sequence : ℕ) (renews : Bool) (deadline : Option Ticks) (before : List Output)
    → Grows 2 sequence sequence before (disabling_told renews deadline before)
disabled-one sequence renews None before = weaker 1 2 _ _ _ _ (omega arith) (none sequence before)
disabled-one sequence true (Some deadline) before =
    grows-then 1 1 2 sequence sequence sequence before
    (with_output (outputs.Watchdog feedings.Disarmed) before) _ (omega arith)
    (one sequence sequence before (outputs.Watchdog feedings.Disarmed) (omega arith) tt)
    (one sequence sequence (with_output (outputs.Watchdog feedings.Disarmed) before)
    (outputs.Note (notings.Agent agent_notes.DisablesWatchdog))
    (omega arith) tt)
disabled-one sequence false (Some deadline) before =
    weaker 1 2 _ _ _ _ (omega arith)
    (one sequence sequence before (outputs.Watchdog feedings.Disarmed) (omega arith) tt)

disabling-row : (renews : Bool) (o : Outcome) → Brings 2 o (disabling_watchdog renews o)
disabling-row renews o = disabled-one o.knows.sequence renews o.machine.watchdog.deadline o.outputs

takes-in-pause-row : (now : Ticks) (renews : Bool) (held : ℕ) (o : Outcome)
    → Row o (takes_key_in_pause now renews held o)
takes-in-pause-row now renews held o =
    let rest : Outcome = disabling_watchdog renews o in
    takes-in-pause-by (Row o) now renews held o (weaker 1 9 _ _ _ _ (omega arith) (back-row held o))
    (grows-then 2 2 9 _ _ _ _ _ _ (omega arith) (disabling-row renews o) (begins-row now held rest))
    (grows-then 2 2 9 _ _ _ _ _ _ (omega arith) (disabling-row renews o) (claims-row now held rest))

-- a leader whose lease is renewed, behind what became of its watchdog
start-row : (now : Ticks) (held : ℕ) (o led : Outcome) → Brings 1 o led → Brings 17 o (judges_start now held led)
start-row now held o led before =
    judges-start-by (Brings 17 o) now held led
    (grows-then 1 1 17 _ _ _ _ _ _ (omega arith) before
    (one led.knows.sequence led.knows.sequence led.outputs _ (omega arith) tt))
    (duties-row 1 17 now held o led (omega arith) before)

renewed-row : (now ttl : Ticks) (held : ℕ) (o : Outcome) → Brings 17 o (leader_renewed now ttl held o)
renewed-row now ttl held o = start-row now held o (led_on now ttl held o)
    (fed-one o.knows.sequence (deadline_after now ttl o.machine.watchdog) o.outputs)

unleased-row : (now ttl : Ticks) (held : ℕ) (o : Outcome) → Row o (unleased_renewed now ttl held o)
unleased-row now ttl held o = if-cases (Row o)
    (is_refusing o.machine.watchdog.mode o.machine.watchdog.works) _ (takes_over now held (arming now ttl o))
    (λ _. said o.knows.sequence o.knows.sequence o.outputs _ (omega arith) tt)
    (λ _. weaker 1 9 o.knows.sequence o.knows.sequence o.outputs _ (omega arith)
    (armed-one o.knows.sequence (deadline_after now ttl o.machine.watchdog) o.outputs))

granted-row : (now : Ticks) (sequence : ℕ) (grant : Granted) (snapshot : SnapshotFacts) (o : Outcome)
    → Brings 18 o (granted now sequence grant snapshot o)
granted-row now sequence grant snapshot o =
    let told : Outcome = record o { knows = informed snapshot o.knows } in
    let still : Grows 18 o.knows.sequence o.knows.sequence o.outputs o.outputs = as-much _ _ _ _ kept in
    granted-by (Brings 18 o) now sequence grant snapshot o still still (λ given _ _. record {
      other = still;
      leader = λ held _. weaker 17 18 _ _ _ _ (omega arith) (renewed-row now given.ttl grant.revision told);
      unleased = λ _. as-much _ _ _ _ (unleased-row now given.ttl grant.revision told);
      takes = λ _. as-much _ _ _ _ (takes-row now given.ttl grant.revision told);
      keeps_late = λ held _. weaker 17 18 _ _ _ _ (omega arith)
          (start-row now grant.revision told (kept_on grant.revision told) (none o.knows.sequence o.outputs));
      ends_late = λ _. as-much _ _ _ _ (said o.knows.sequence o.knows.sequence o.outputs _ (omega arith) tt);
      refuses_late = λ _. as-much _ _ _ _ (cannot-row grant.revision told);
      returns_late = λ _. weaker 1 18 _ _ _ _ (omega arith) (back-row grant.revision told);
      leads_in_pause = λ renews _ held _. let led : Outcome = leading_in_pause renews grant.revision told in
          duties-of (Brings 18 o) now grant.revision led
          (duties-row 2 18 now grant.revision o led (omega arith) (disabling-row renews told));
      unleased_in_pause = λ renews _ _. weaker 2 18 _ _ _ _ (omega arith) (disabling-row renews told);
      takes_in_pause = λ renews _ _. as-much _ _ _ _ (takes-in-pause-row now renews grant.revision told);
    })
    (λ after row. row)
    (record {
      other = still;
      begins = λ held _. weaker 2 18 _ _ _ _ (omega arith) (begins-row now held told);
      postpones = λ held _. as-much _ _ _ _ (postponed-row held told);
      settles = λ required _. as-much _ _ _ _
          (said o.knows.sequence o.knows.sequence o.outputs (outputs.Require required) (omega arith) tt);
    })
  where
    as-much : (sequence later : ℕ) (before after : List Output) → Grows 9 sequence later before after
        → Grows 18 sequence later before after
    as-much sequence later before after row = weaker 9 18 sequence later before after (omega arith) row

-- a grant or a refusal, of what an operator wants or the agent by itself
granted-any-row : (now : Ticks) (sequence : ℕ) (grant : Granted) (snapshot : SnapshotFacts) (o : Outcome)
    → Brings 18 o (granted_any now sequence grant snapshot o)
granted-any-row now sequence grant snapshot o =
    let replies = reply-rows 18 o (omega arith) in
    granted-any-by (Brings 18 o) now sequence grant snapshot o replies.kept
    (record { kept = replies.kept; answers = replies.answers }) (granted-row now sequence grant snapshot o)

refused-any-row : (now : Ticks) (sequence : ℕ) (o : Outcome) → Row o (refused_any now sequence o)
refused-any-row now sequence o =
    refused-any-by (Row o) now sequence o (reply-rows 9 o (omega arith)) (refused-row now sequence o)

small : (o mid after : Outcome) → Row o mid → Brings 31 mid after → IsSmall o after
small o mid after one two = record {
  sequence = omega (arith, one.numbers, two.numbers);
  few = omega (arith, one.few, two.few);
  short = λ all. two.short (one.short all);
}

woken-small : (now : Ticks) (o : Outcome) → IsSmall o (woken now o)
woken-small now o =
    let found : Outcome = reconciled now o in
    let over : Outcome = given_up now found in
    wake-by (IsSmall o) now o
    (small o found found (before-row now o) (weaker 9 31 _ _ _ _ (omega arith) kept))
    (small o found _ (before-row now o)
    (grows-then 17 9 31 _ _ _ _ _ _ (omega arith)
    (grows-then 1 16 17 _ _ _ _ _ _ (omega arith) (given-up-row now found) (overdue-row now over))
    (turn-row now (overdue now over))))

one-more : (o mid after : Outcome) → Row o mid → Row mid after → IsSmall o after
one-more o mid after one two = small o mid after one (weaker 9 31 _ _ _ _ (omega arith) two)

-- another member asks to stay primary, or answers this one
failsafe-asked-row : (now : Ticks) (from : MemberId) (incarnation sequence : ℕ) (ttl : Ticks) (o : Outcome)
    → Row o (failsafe_asked now from incarnation sequence ttl o)
failsafe-asked-row now from incarnation sequence ttl o = failsafe-asked-by (Row o) now from incarnation sequence ttl o
    (λ _. let held : Outcome = holding_for now from sequence ttl o in
    grows-then 1 1 9 o.knows.sequence o.knows.sequence o.knows.sequence o.outputs held.outputs _ (omega arith)
    (one o.knows.sequence o.knows.sequence o.outputs
    (outputs.Tell (tellings.HoldTaken (span_after now ttl) from sequence))
    (omega arith) tt)
    (one o.knows.sequence o.knows.sequence held.outputs
    (outputs.Message (outgoing.FailsafeAnswer from incarnation sequence true)) (omega arith) tt))
    (said o.knows.sequence o.knows.sequence o.outputs
    (outputs.Message (outgoing.FailsafeAnswer from incarnation sequence false))
    (omega arith) tt)

failsafe-answered-row : (now : Ticks) (from : MemberId) (sequence : ℕ) (accepted : Bool) (sent : Ticks) (o : Outcome)
    → Row o (failsafe_answered now from sequence accepted sent o)
failsafe-answered-row now from sequence accepted sent o =
    failsafe-answered-by (Row o) now from sequence accepted sent o (record {
      kept = kept;
      quiet = kept;
      counts = λ held _. kept;
      stays = λ held _ waited _ _ since _ _. stays-row now waited.ttl waited.sequence since (counting from sent o);
      counts_late = λ held _ _. kept;
      fails = λ held _ _. ends-row now held o;
    })

-- so it is with each input
pub step-small : (now : Ticks) (points : List HistoryPoint) (heard : Heard) (o : Outcome)
    → IsSmall o (step now points heard o)
step-small now points heards.Wake o = woken-small now o
step-small now points (heards.ReadAnswered sequence snapshot) o =
    let found : Outcome = reconciled now o in
    small o found _ (before-row now o)
    (grows-then 1 16 31 _ _ _ _ _ _ (omega arith) (looked-row sequence snapshot found)
    (got-row now points sequence snapshot (looked sequence snapshot found)))
step-small now points (heards.Granted sequence grant snapshot) o =
    small o (reconciled now o) _ (before-row now o)
    (weaker 18 31 _ _ _ _ (omega arith) (granted-any-row now sequence grant snapshot (reconciled now o)))
step-small now points (heards.Mismatch sequence key found) o =
    one-more o (reconciled now o) _ (before-row now o) (refused-any-row now sequence (reconciled now o))
step-small now points (heards.Asked from incarnation sequence) o = one-more o (reconciled now o) _ (before-row now o)
    (said (reconciled now o).knows.sequence (reconciled now o).knows.sequence (reconciled now o).outputs _
    (omega arith) tt)
step-small now points (heards.Answered sequence answer) o =
    one-more o (reconciled now o) _ (before-row now o) (answered-row now sequence answer (reconciled now o))
step-small now points (heards.FailsafeAsked from incarnation sequence ttl) o = one-more o (reconciled now o) _
    (before-row now o) (failsafe-asked-row now from incarnation sequence ttl (reconciled now o))
step-small now points (heards.FailsafeAnswered from sequence accepted sent) o = one-more o (reconciled now o) _
    (before-row now o) (failsafe-answered-row now from sequence accepted sent (reconciled now o))
step-small now points (heards.Operated action) o = small o (reconciled now o) _ (before-row now o)
    (weaker 2 31 _ _ _ _ (omega arith) (operated-row now action.request action.asked (reconciled now o)))
