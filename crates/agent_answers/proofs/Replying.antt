-- An input answers another member only where that one asks, and no row but an operator's answers an operator.
use Rattle.std.proofs.Common.{Bool, true, false, ℕ, ◌≡◌, ◌+◌, ◌++◌, List, [], ◌∷◌, Option, Some, None, All, refl, sym, ap, ◌∙◌, zero, suc, append_assoc, append-nil}
use Rattle.std.proofs.lemmas.List.Elements.{All-push, All-nil, All-weaker}
use Rattle.pat_base.specs.MemberId.{member_of}
use Rattle.pat_base.specs.declared.member_id.MemberId.{MemberId}
use Rattle.pat_base.specs.declared.member_set.MemberSet.{MemberSet}
use Rattle.pat_base.specs.declared.peer_answer.PeerAnswer.{PeerAnswer}
use Rattle.pat_base.specs.declared.ticks.Ticks.{Ticks}
use Rattle.lease_store.specs.declared.granted.Granted.{Granted}
use Rattle.wal_model.specs.declared.entry.HistoryPoint.{HistoryPoint}
use Rattle.cluster_view.specs.Snapshots.{SnapshotFacts}
use Rattle.pg_model.specs.Running.{is_primary}
use Rattle.failsafe.specs.Asks.{asked, has}
use Rattle.event_book.specs.declared.agent_note.AgentNote.TheVariants as agent_notes
use Rattle.event_book.specs.declared.message.Body.TheVariants as bodies
use Rattle.agent_model.specs.declared.heard.Heard.{Heard}
use Rattle.agent_model.specs.declared.heard.Heard.TheVariants.{Wake, ReadAnswered, Granted as HeardGranted, Mismatch, Asked, Answered, FailsafeAsked, FailsafeAnswered, Operated as HearsOperator}
use Rattle.agent_model.specs.declared.knowledge.Knowledge.{Knowledge}
use Rattle.agent_model.specs.declared.machine.Machine.{Machine}
use Rattle.agent_model.specs.declared.operating.Operating.{Operating}
use Rattle.agent_model.specs.declared.operating.Told.{Told}
use Rattle.agent_model.specs.declared.output.Output.{Output}
use Rattle.agent_model.specs.declared.output.Output.TheVariants as outputs
use Rattle.agent_model.specs.declared.output.Feeding.TheVariants as feedings
use Rattle.agent_model.specs.declared.output.Noting.TheVariants as notings
use Rattle.agent_model.specs.declared.output.Outgoing.TheVariants as outgoing
use Rattle.agent_model.specs.declared.output.ServerOrder.TheVariants as orders
use Rattle.agent_model.specs.declared.output.Telling.TheVariants as tellings
use Rattle.agent_model.specs.declared.output.Target.TheVariants as targets
use Rattle.agent_model.specs.declared.why.Why.{Why}
use Rattle.agent_model.specs.declared.why.Why.TheVariants.{HandOver, Lost}
use Rattle.agent_model.specs.declared.who.Who.{Who}
use Rattle.agent_model.specs.Acting.{arming, lease_span, waiting_no_more, armed, fed_until, disarmed, deadline_after, is_refusing, touching}
use Rattle.agent_model.specs.Agents.{RoleFacts, Follower, Outcome, outcome_from}
use Rattle.agent_model.specs.Answers.{is_other, asking_one, asking_first}
use Rattle.pat_base.specs.declared.member_id.TheConstants.{MOST_MEMBERS}
use Rattle.agent_model.specs.Reconciling.{has_ended, reconciled}
use Rattle.agent_model.specs.Claiming.{begins, begins_or_claims, passing, postpones}
use Rattle.agent_model.specs.Decisions.{cannot_arm, leader_renewed, takes_over, unleased_renewed, may_take, gives_back, arms, takes_key, granted, refused}
use Rattle.agent_answers.specs.OperatorAnswers.{told_by, told_in}
use Rattle.agent_model.specs.Outputs.{with_output}
use Rattle.agent_model.specs.Peers.{keeping, answered}
use Rattle.agent_model.specs.HandingOver.{asking_whom}
use Rattle.agent_model.specs.Operators.{looked, given_up, learned, unnumbered}
use Rattle.agent_model.specs.Racing.{judged, unheard, finds_free}
use Rattle.agent_model.specs.Repairs.{repair_of}
use Rattle.agent_model.specs.StayingPrimary.{counting, failsafe_answered, fed_by_failsafe, others_known, requesting_first, requesting_one, span_after, stays}
use Rattle.agent_answers.specs.Replies.{RepliesTo}
use Rattle.agent_model.specs.Snapshots.{follow_row, follows, read_noted, read_answered, informed, led_by_another}
use Rattle.agent_model.specs.Table.{step}
use Rattle.agent_model.specs.Wake.{overdue, turned, woken}
use Rattle.agent_cases.proofs.Rows.{HandoverRows, ReplyRows, ActRows, looked-by, given-up-by, refused-any-by, operated-by, if-cases, before-by, overdue-by, turn-by, wake-by, got-by, refused-by, follow-by, repaired-by, free-by, judged-by, answered-by}
use Rattle.agent_cases.proofs.FailsafeRows.{failsafe-answered-by, failsafe-asked-by}
use Rattle.agent_cases.proofs.Grants.{granted-any-by, kept_on, led_on, judges-start-by, renewed-by, passing-by, begins-or-claims-by, granted-by, DutyRows, duties-of, leading_in_pause, takes-in-pause-by}
use Rattle.agent_model.specs.Pausing.{may_start_behind, disabling_told, disabling_watchdog}

-- an output that answers neither a member nor an operator
abbrev pub NoReply : Output → Type 0
NoReply (outputs.Message (outgoing.Answer to incarnation sequence answer)) = ⊥
NoReply (outputs.Message (outgoing.FailsafeAnswer to incarnation sequence accepted)) = ⊥
NoReply (outputs.Tell (tellings.Told request told)) = ⊥
NoReply _ = Unit {0}

-- an output that answers no member
abbrev pub NoAnswer : Output → Type 0
NoAnswer (outputs.Message (outgoing.Answer to incarnation sequence answer)) = ⊥
NoAnswer (outputs.Message (outgoing.FailsafeAnswer to incarnation sequence accepted)) = ⊥
NoAnswer _ = Unit {0}

-- no member is answered that this outcome doesn't answer, operators
-- are told what it tells them, and the same request waits
pub record Says (f : Outcome) (outs : List Output) (waiting : Option Operating) : Type 0 where
  pub all : All NoAnswer f.outputs → All NoAnswer outs
  pub told : told_in outs ≡ told_in f.outputs
  pub waits : waiting ≡ f.knows.operating

abbrev pub Quiet : Outcome → Outcome → Type 0
Quiet f o = Says f o.outputs o.knows.operating

no-answer : (output : Output) → NoReply output → NoAnswer output
no-answer (outputs.Message (outgoing.Answer to incarnation sequence answer)) none = none
no-answer (outputs.Message (outgoing.FailsafeAnswer to incarnation sequence accepted)) none = none
no-answer _ none = tt

none-told : (output : Output) → NoReply output → told_by output ≡ []
none-told (outputs.Tell (tellings.Told request told)) none = absurd none
none-told _ none = refl

-- what one more output tells operators is told behind what the others do
pub told-more : (outs : List Output) (output : Output)
    → told_in (with_output output outs) ≡ told_in outs ++ told_by output
told-more [] output = append-nil (told_by output)
told-more (first ∷ later) output = ap (λ (l : List (ℕ × Told)). told_by first ++ l) (told-more later output)
    ∙ sym (append_assoc (told_by first) (told_in later) (told_by output))

pub told-same : (outs : List Output) (output : Output) → NoReply output
    → told_in (with_output output outs) ≡ told_in outs
told-same outs output none = told-more outs output
    ∙ (ap (λ (l : List (ℕ × Told)). told_in outs ++ l) (none-told output none) ∙ append-nil (told_in outs))

said : {f : Outcome} {w : Option Operating} (outs : List Output) (output : Output) → NoReply output
    → Says f outs w → Says f (with_output output outs) w
said outs output none says = record {
  all = λ before-it. All-push NoAnswer outs output (says.all before-it) (no-answer output none);
  told = told-same outs output none ∙ says.told;
  waits = says.waits;
}

-- an outcome says what it says
pub as-said : (o : Outcome) → Quiet o o
as-said o = record { all = λ all. all; told = refl; waits = refl }

disarmed-quiet : (f : Outcome) (deadline : Option Ticks) {w : Option Operating} (outs : List Output)
    → Says f outs w → Says f (disarmed deadline outs) w
disarmed-quiet f None outs all = all
disarmed-quiet f (Some deadline) outs all = said outs (outputs.Watchdog feedings.Disarmed) tt all

armed-quiet : (f : Outcome) (deadline : Option Ticks) {w : Option Operating} (outs : List Output)
    → Says f outs w → Says f (armed deadline outs) w
armed-quiet f None outs all = all
armed-quiet f (Some deadline) outs all = said outs (outputs.Watchdog (feedings.Armed deadline)) tt all

fed-quiet : (f : Outcome) (deadline : Option Ticks) {w : Option Operating} (outs : List Output)
    → Says f outs w → Says f (fed_until deadline outs) w
fed-quiet f None outs all = all
fed-quiet f (Some deadline) outs all = said outs (outputs.Watchdog (feedings.Fed deadline)) tt all

ended-quiet : (f : Outcome) (why : Why) (held : ℕ) (o : Outcome) → Quiet f o → Quiet f (has_ended why held o)
ended-quiet f HandOver held o all = said _ _ tt (disarmed-quiet f o.machine.watchdog.deadline o.outputs all)
ended-quiet f Lost held o all = disarmed-quiet f o.machine.watchdog.deadline o.outputs all

pub before-quiet : (f : Outcome) (now : Ticks) (o : Outcome) → Quiet f o → Quiet f (reconciled now o)
before-quiet f now o all =
    let gone : Says f (disarmed o.machine.watchdog.deadline o.outputs) o.knows.operating =
    disarmed-quiet f o.machine.watchdog.deadline o.outputs all in
    before-by (Quiet f) now o (record {
      kept = λ _. all;
      leader = λ _ _ _. gone;
      ending = λ held why _ _. ended-quiet f why held o all;
      follower = λ _ _. all;
      holder = λ _ _ _. all;
      ready = λ _ _ _. gone;
      unleased = λ _ _. gone;
    })

judged-quiet : (f : Outcome) (now : Ticks) (o : Outcome) → Quiet f o → Quiet f (judged now o)
judged-quiet f now o all = judged-by (Quiet f) now o (said o.outputs _ tt all)
    (λ bar. said _ _ tt (said o.outputs (outputs.Note (notings.Agent (agent_notes.DoesNotRace bar))) tt all))

ask-quiet : (f : Outcome) (w : Option Operating) (who : Who) (sequence : ℕ) (member : Option MemberId)
    (outs : List Output) → Says f outs w → Says f (asking_one who sequence member outs) w
ask-quiet f w who sequence None outs all = all
ask-quiet f w who sequence (Some member) outs all =
    if-cases (λ (l : List Output). Says f l w) (is_other who member)
    (with_output (outputs.Message (outgoing.Send (targets.Member member) sequence bodies.Ask)) outs) outs
    (λ _. said outs (outputs.Message (outgoing.Send (targets.Member member) sequence bodies.Ask)) tt all) (λ _. all)

asks-quiet : (f : Outcome) (w : Option Operating) (who : Who) (sequence count : ℕ) (outs : List Output)
    → Says f outs w → Says f (asking_first who sequence count outs) w
asks-quiet f w who sequence zero outs all = all
asks-quiet f w who sequence (suc count) outs all = ask-quiet f w who sequence (member_of count)
    (asking_first who sequence count outs) (asks-quiet f w who sequence count outs all)

whom-quiet : (f : Outcome) (w : Option Operating) (who : Who) (candidate : Option MemberId) (sequence : ℕ)
    (outs : List Output) → Says f outs w → Says f (asking_whom who candidate sequence outs) w
whom-quiet f w who None sequence outs all = asks-quiet f w who sequence MOST_MEMBERS outs all
whom-quiet f w who (Some candidate) sequence outs all = ask-quiet f w who sequence (Some candidate) outs all

handover-quiet : (f : Outcome) (now : Ticks) (revision : ℕ) (o : Outcome) → Quiet f o
    → HandoverRows (Quiet f) now revision o
handover-quiet f now revision o all = record {
  kept = all;
  clears = λ compared. said o.outputs _ tt all;
  hands = λ candidate. said (with_output (outputs.Note (notings.Agent (agent_notes.HandsOver candidate))) o.outputs)
      (outputs.Server orders.ShutDown) tt
      (said o.outputs (outputs.Note (notings.Agent (agent_notes.HandsOver candidate))) tt all);
}

postpones-quiet : (f : Outcome) (held : ℕ) (o : Outcome) → Quiet f o → Quiet f (postpones held o)
postpones-quiet f held o all = said (disarmed o.machine.watchdog.deadline o.outputs)
    (outputs.Note (notings.Agent agent_notes.PostponesPromotion)) tt
    (disarmed-quiet f o.machine.watchdog.deadline o.outputs all)

-- the requests to all other members to stay primary
request-quiet : (f : Outcome) (w : Option Operating) (members : MemberSet) (sequence : ℕ) (ttl : Ticks)
    (member : Option MemberId) (outs : List Output) → Says f outs w
    → Says f (requesting_one members sequence ttl member outs) w
request-quiet f w members sequence ttl None outs all = all
request-quiet f w members sequence ttl (Some member) outs all =
    if-cases (λ (l : List Output). Says f l w) (has members member.number)
    (with_output (outputs.Message (outgoing.Send (targets.Member member) sequence (bodies.FailsafeRequest ttl))) outs)
    outs
    (λ _.
    said outs (outputs.Message (outgoing.Send (targets.Member member) sequence (bodies.FailsafeRequest ttl))) tt all)
    (λ _. all)

requests-quiet : (f : Outcome) (w : Option Operating) (members : MemberSet) (sequence : ℕ) (ttl : Ticks)
    (count : ℕ) (outs : List Output) → Says f outs w → Says f (requesting_first members sequence ttl count outs) w
requests-quiet f w members sequence ttl zero outs all = all
requests-quiet f w members sequence ttl (suc count) outs all = request-quiet f w members sequence ttl (member_of count)
    (requesting_first members sequence ttl count outs) (requests-quiet f w members sequence ttl count outs all)

by-failsafe-quiet : (f : Outcome) (deadline : Option Ticks) (members : MemberSet) (sequence : ℕ)
    (since : Ticks) {w : Option Operating} (outs : List Output) → Says f outs w
    → Says f (fed_by_failsafe deadline members sequence since outs) w
by-failsafe-quiet f None members sequence since outs all = all
by-failsafe-quiet f (Some until) members sequence since outs all =
    said outs (outputs.Watchdog (feedings.FedByFailsafe until members sequence since)) tt all

-- a leader stays primary
stays-quiet : (f : Outcome) (now ttl : Ticks) (sequence : ℕ) (since : Ticks) (o : Outcome) → Quiet f o
    → Quiet f (stays now ttl sequence since o)
stays-quiet f now ttl sequence since o all = said _ (outputs.Note notings.StaysByFailsafe) tt
    (by-failsafe-quiet f
    (deadline_after now ttl o.machine.watchdog) o.knows.failsafe.members sequence since o.outputs all)

overdue-quiet : (f : Outcome) (now : Ticks) (o : Outcome) → Quiet f o → Quiet f (overdue now o)
overdue-quiet f now o all = overdue-by (Quiet f) now o (record {
  kept = all;
  quiet = all;
  leader = λ _ _. said o.outputs _ tt all;
  seeks = λ _ _. requests-quiet f o.knows.operating (others_known o.knows) (o.knows.sequence + 1)
      (lease_span o.knows.settings) MOST_MEMBERS o.outputs all;
  alone = λ _ _. stays-quiet f now (lease_span o.knows.settings) o.knows.sequence now
      (record (waiting_no_more o) {
        knows =
            record o.knows { waited = None; failsafe = asked (others_known o.knows) now };
      })
      all;
  silent = λ _ _. said o.outputs _ tt all;
  unleased = λ _. said o.outputs _ tt all;
  judges = λ _. judged-quiet f now o all;
  ready = λ held _. postpones-quiet f held (waiting_no_more o) all;
  checks = λ held _. handover-quiet f now held o all;
})

turn-quiet : (f : Outcome) (now : Ticks) (o : Outcome) → Quiet f o → Quiet f (turned now o)
turn-quiet f now o all =
    turn-by (Quiet f) now o (record { kept = all; quiet = all; reads = λ _. said o.outputs _ tt all })

-- a wake's rows behind an operator whose time is over
pub roused-quiet : (f : Outcome) (now : Ticks) (o : Outcome) → Quiet f o → Quiet f (turned now (overdue now o))
roused-quiet f now o all = turn-quiet f now (overdue now o) (overdue-quiet f now o all)

follow-quiet : (f : Outcome) (now : Ticks) (leader : MemberId) (o : Outcome) → Quiet f o
    → Quiet f (follows now leader o)
follow-quiet f now leader o all = let x : Outcome = led_by_another o in
    let may : Bool = may_start_behind o.knows in
    let row : Outcome = touching (follow_row may now leader o.machine.server.state x) in
    let told : Quiet f row = follow-by (λ (y : Outcome). Quiet f (touching y)) may now leader o.machine.server.state x
    (said o.outputs _ tt all) (said _ _ tt (said o.outputs _ tt all)) (said _ _ tt (said o.outputs _ tt all))
    (said _ _ tt (said o.outputs _ tt all)) in
    repaired-by (Quiet f) leader (repair_of o.knows.settings leader o.machine.server) row told
    (λ r. said row.outputs (outputs.Server (orders.Repair leader r)) tt told)

free-quiet : (f : Outcome) (now : Ticks) (o : Outcome) → Quiet f o → Quiet f (finds_free now o)
free-quiet f now o all = let x : Outcome = record o { role = Follower } in free-by (Quiet f) now x (record {
  starts = said _ _ tt (said o.outputs _ tt all);
  touches = said o.outputs _ tt all;
  bars = λ bar. said _ _ tt (said o.outputs (outputs.Note (notings.Agent (agent_notes.DoesNotRace bar))) tt all);
  judges = judged-quiet f now (unheard x) all;
  asks = asks-quiet f o.knows.operating o.knows.who (o.knows.sequence + 1) MOST_MEMBERS o.outputs all;
})

pub got-quiet : (f : Outcome) (now : Ticks) (points : List HistoryPoint) (sequence : ℕ)
    (snapshot : SnapshotFacts) (o : Outcome) → Quiet f o → Quiet f (read_answered now points sequence snapshot o)
got-quiet f now points sequence snapshot o all =
    let read : Outcome = record o { knows = read_noted now snapshot o.knows } in
    got-by (Quiet f) now points sequence snapshot o (record {
      kept = all;
      quiet = all;
      other = all;
      leader = λ _ _. said o.outputs _ tt all;
      unleased = λ _. said o.outputs _ tt all;
      renews = λ _ _ _ _. said o.outputs _ tt all;
      touches = said o.outputs _ tt all;
      follows = λ leader _ _. follow-quiet f now leader.holder read all;
      free = λ _ _. free-quiet f now read all;
      runs_on = λ _. said o.outputs (outputs.Note (notings.Agent agent_notes.RunsWithoutKey)) tt all;
      asks_on = λ _. said _ _ tt (said o.outputs (outputs.Note (notings.Agent agent_notes.RunsWithoutKey)) tt all);
    })

pub refused-quiet : (f : Outcome) (now : Ticks) (sequence : ℕ) (o : Outcome) → Quiet f o
    → Quiet f (refused now sequence o)
refused-quiet f now sequence o all = refused-by (Quiet f) now sequence o (record {
  kept = all;
  quiet = all;
  leader = λ _ _. said o.outputs _ tt all;
  unleased = λ _. said o.outputs _ tt all;
  follower = λ _ _. all;
  ready = λ held _. postpones-quiet f held (waiting_no_more o) all;
  runs_on = λ _. said o.outputs (outputs.Note (notings.Agent agent_notes.RunsWithoutKey)) tt all;
})

duty-quiet : (f : Outcome) (now : Ticks) (revision : ℕ) (led : Outcome) → Quiet f led
    → DutyRows (Quiet f) now revision led
duty-quiet f now revision led told = record {
  plan = record {
    kept = told;
    writes = λ settling txn _. said led.outputs _ tt told;
    adds = λ required. said led.outputs (outputs.Require required) tt told;
    drops = λ required. said led.outputs (outputs.Require required) tt told;
  };
  clears = λ compared. said led.outputs _ tt told;
  asks =
      λ candidate. whom-quiet f led.knows.operating led.knows.who candidate (led.knows.sequence + 1) led.outputs told;
  judges = handover-quiet f now revision (unheard led) told;
}

renewed-quiet : (f : Outcome) (now ttl : Ticks) (revision : ℕ) (o : Outcome) → Quiet f o
    → Quiet f (leader_renewed now ttl revision o)
renewed-quiet f now ttl revision o all = let led : Outcome = led_on now ttl revision o in
    let told : Quiet f led = fed-quiet f (deadline_after now ttl o.machine.watchdog) o.outputs all in
    renewed-by (Quiet f) now ttl revision o (said led.outputs _ tt told) (duty-quiet f now revision led told)

disabled-quiet : (f : Outcome) (renews : Bool) (deadline : Option Ticks) {w : Option Operating} (outs : List Output)
    → Says f outs w → Says f (disabling_told renews deadline outs) w
disabled-quiet f renews None outs all = all
disabled-quiet f true (Some deadline) outs all =
    said _ (outputs.Note (notings.Agent agent_notes.DisablesWatchdog)) tt
    (said outs (outputs.Watchdog feedings.Disarmed) tt all)
disabled-quiet f false (Some deadline) outs all = said outs (outputs.Watchdog feedings.Disarmed) tt all

unleased-quiet : (f : Outcome) (now ttl : Ticks) (revision : ℕ) (o : Outcome) → Quiet f o
    → Quiet f (unleased_renewed now ttl revision o)
unleased-quiet f now ttl revision o all = if-cases (Quiet f)
    (is_refusing o.machine.watchdog.mode o.machine.watchdog.works) _ (takes_over now revision (arming now ttl o))
    (λ _. said o.outputs _ tt all) (λ _. armed-quiet f (deadline_after now ttl o.machine.watchdog) o.outputs all)

begins-quiet : (f : Outcome) (now : Ticks) (revision : ℕ) (o : Outcome) → Quiet f o → Quiet f (begins now revision o)
begins-quiet f now revision o all = said _ (outputs.Server orders.Begin) tt (said o.outputs _ tt all)

passing-quiet : (f o : Outcome) → Quiet f o → Quiet f (passing o)
passing-quiet f o all = passing-by (λ (outs : List Output). Says f outs o.knows.operating) o all
    (said o.outputs (outputs.Tell tellings.ClaimsOutsideSync) tt all)

cannot-quiet : (f : Outcome) (revision : ℕ) (o : Outcome) → Quiet f o → Quiet f (cannot_arm revision o)
cannot-quiet f revision o all = said _ _ tt (said o.outputs (outputs.Note (notings.Agent agent_notes.CannotArm)) tt all)

arms-quiet : (f : Outcome) (now ttl : Ticks) (revision : ℕ) (o : Outcome) → Quiet f o
    → Quiet f (arms now ttl revision o)
arms-quiet f now ttl revision o all = if-cases (Quiet f) (is_refusing o.machine.watchdog.mode o.machine.watchdog.works)
    (cannot_arm revision o) (begins_or_claims now revision (arming now ttl o))
    (λ _. cannot-quiet f revision o all)
    (λ _. begins-or-claims-by (Quiet f) now revision (arming now ttl o)
    (begins-quiet f now revision (arming now ttl o)
    (armed-quiet f (deadline_after now ttl o.machine.watchdog) o.outputs all))
    (said _ _ tt
    (passing-quiet f (arming now ttl o) (armed-quiet f (deadline_after now ttl o.machine.watchdog) o.outputs all))))

takes-quiet : (f : Outcome) (now ttl : Ticks) (revision : ℕ) (o : Outcome) → Quiet f o
    → Quiet f (takes_key now ttl revision o)
takes-quiet f now ttl revision o all = if-cases (Quiet f) (may_take now o.knows o.machine) (arms now ttl revision o)
    (gives_back revision o) (λ _. arms-quiet f now ttl revision o all) (λ _. said o.outputs _ tt all)

pub granted-quiet : (f : Outcome) (now : Ticks) (sequence : ℕ) (grant : Granted) (snapshot : SnapshotFacts)
    (o : Outcome) → Quiet f o → Quiet f (granted now sequence grant snapshot o)
granted-quiet f now sequence grant snapshot o all =
    let told : Outcome = record o { knows = informed snapshot o.knows } in
    granted-by (Quiet f) now sequence grant snapshot o all all (λ waited _ _. record {
      other = all;
      leader = λ _ _. renewed-quiet f now waited.ttl grant.revision told all;
      unleased = λ _. unleased-quiet f now waited.ttl grant.revision told all;
      takes = λ _. takes-quiet f now waited.ttl grant.revision told all;
      keeps_late = λ _ _. let kept : Outcome = kept_on grant.revision told in judges-start-by (Quiet f) now
          grant.revision kept (said o.outputs _ tt all) (duty-quiet f now grant.revision kept all);
      ends_late = λ _. said o.outputs _ tt all;
      refuses_late = λ _. cannot-quiet f grant.revision told all;
      returns_late = λ _. said o.outputs _ tt all;
      leads_in_pause = λ renews _ _ _. let led : Outcome = leading_in_pause renews grant.revision told in
          duties-of (Quiet f) now grant.revision led
          (duty-quiet f now grant.revision led (disabled-quiet f renews o.machine.watchdog.deadline o.outputs all));
      unleased_in_pause = λ renews _ _. disabled-quiet f renews o.machine.watchdog.deadline o.outputs all;
      takes_in_pause = λ renews _ _. let rest : Outcome = disabling_watchdog renews told in
          let rested : Quiet f rest = disabled-quiet f renews o.machine.watchdog.deadline o.outputs all in
          takes-in-pause-by (Quiet f) now renews grant.revision told (said o.outputs _ tt all)
          (begins-quiet f now grant.revision rest rested) (said _ _ tt (passing-quiet f rest rested));
    })
    (λ _ said-so. said-so)
    (record {
      other = all;
      begins = λ revision _. begins-quiet f now revision told all;
      postpones = λ revision _. postpones-quiet f revision told all;
      settles = λ required _. said o.outputs (outputs.Require required) tt all;
    })

pub answered-quiet : (f : Outcome) (now : Ticks) (sequence : ℕ) (answer : PeerAnswer) (o : Outcome)
    → Quiet f o → Quiet f (answered now sequence answer o)
answered-quiet f now sequence answer o all = answered-by (Quiet f) now sequence answer o (record {
  kept = all;
  quiet = all;
  keeps = all;
  judges = λ _. judged-quiet f now (keeping answer o) all;
  checks = λ revision _. handover-quiet f now revision (keeping answer o) all;
})

pub failsafe-quiet : (f : Outcome) (now : Ticks) (from : MemberId) (sequence : ℕ) (accepted : Bool)
    (sent : Ticks) (o : Outcome) → Quiet f o → Quiet f (failsafe_answered now from sequence accepted sent o)
failsafe-quiet f now from sequence accepted sent o all =
    failsafe-answered-by (Quiet f) now from sequence accepted sent o (record {
      kept = all;
      quiet = all;
      counts = λ _ _. all;
      counts_late = λ _ _ _. all;
      stays = λ _ _ waited _ _ since _ _. stays-quiet f now waited.ttl waited.sequence since (counting from sent o) all;
      fails = λ _ _ _. said o.outputs _ tt all;
    })

abbrev NoneAnswered : Outcome → Type 0
NoneAnswered o = All NoAnswer o.outputs

told-none : (o : Outcome) → NoneAnswered o → ReplyRows NoneAnswered o
told-none o all =
    record {
      kept = all;
      answers = λ request told. All-push NoAnswer o.outputs (outputs.Tell (tellings.Told request told)) all tt;
    }

acts-none : (now : Ticks) (request : ℕ) (o : Outcome) → NoneAnswered o → ActRows NoneAnswered now request o
acts-none now request o all = record {
  asks = λ operation txn _. All-push NoAnswer o.outputs _ all tt;
  restarts = λ told. All-push NoAnswer _ (outputs.Tell (tellings.Told request told))
      (All-push NoAnswer o.outputs (outputs.Server (orders.Restart (is_primary o.machine.server.state))) all tt) tt;
  wipes = λ told. All-push NoAnswer _ (outputs.Tell (tellings.Told request told))
      (All-push NoAnswer o.outputs (outputs.Server orders.Wipe) all tt) tt;
  holds = λ ttl told _. All-push NoAnswer _ (outputs.Tell (tellings.Told request told))
      (All-push NoAnswer o.outputs
      (outputs.Tell (tellings.HoldTaken (span_after now ttl) o.knows.who.me unnumbered)) all tt)
      tt;
  refuses = λ told. All-push NoAnswer o.outputs (outputs.Tell (tellings.Told request told)) all tt;
}

no-reply : (heard : Heard) (output : Output) → NoAnswer output → RepliesTo heard output
no-reply heard (outputs.Message (outgoing.Answer to incarnation sequence answer)) none = absurd none
no-reply heard (outputs.Message (outgoing.FailsafeAnswer to incarnation sequence accepted)) none = absurd none
no-reply heard _ none = tt

none-replies : (heard : Heard) (o : Outcome) → NoneAnswered o → All (RepliesTo heard) o.outputs
none-replies heard o all = All-weaker NoAnswer (RepliesTo heard) (no-reply heard) o.outputs all

pub step-replies : (now : Ticks) (points : List HistoryPoint) (heard : Heard) (role : RoleFacts) (knows : Knowledge)
    (machine : Machine) → All (RepliesTo heard) (step now points heard (outcome_from role knows machine [])).outputs
step-replies now points heard role knows machine = by heard
  where
    o : Outcome
    o = outcome_from role knows machine []

    b : Outcome
    b = reconciled now o

    none : NoneAnswered b
    none = (before-quiet o now o (as-said o)).all (All-nil NoAnswer)

    told : ReplyRows NoneAnswered b
    told = told-none b none

    by : (heard : Heard) → All (RepliesTo heard) (step now points heard o).outputs
    by Wake = let late : Outcome = given_up now b in
        none-replies Wake (woken now o)
        (wake-by NoneAnswered now o none
        ((roused-quiet late now late (as-said late)).all (given-up-by NoneAnswered now b told)))
    by (ReadAnswered sequence snapshot) = let shown : Outcome = looked sequence snapshot b in
        none-replies (ReadAnswered sequence snapshot) (step now points (ReadAnswered sequence snapshot) o)
        ((got-quiet shown now points sequence snapshot shown (as-said shown)).all
        (looked-by NoneAnswered sequence snapshot b told))
    by (HeardGranted sequence grant snapshot) =
        none-replies (HeardGranted sequence grant snapshot) (step now points (HeardGranted sequence grant snapshot) o)
        (granted-any-by NoneAnswered now sequence grant snapshot b none (told-none (learned snapshot b) none)
        ((granted-quiet b now sequence grant snapshot b (as-said b)).all none))
    by (Mismatch sequence key found) =
        none-replies (Mismatch sequence key found) (step now points (Mismatch sequence key found) o)
        (refused-any-by NoneAnswered now sequence b told ((refused-quiet b now sequence b (as-said b)).all none))
    by (HearsOperator action) = none-replies (HearsOperator action) (step now points (HearsOperator action) o)
        (operated-by NoneAnswered now action.request action.asked b (acts-none now action.request b none))
    by (Asked from incarnation sequence) = All-push (RepliesTo (Asked from incarnation sequence)) b.outputs _
        (none-replies (Asked from incarnation sequence) b none) (refl, refl, refl)
    by (Answered sequence answer) = none-replies (Answered sequence answer) (answered now sequence answer b)
        ((answered-quiet b now sequence answer b (as-said b)).all none)
    by (FailsafeAnswered from sequence accepted sent) =
        none-replies (FailsafeAnswered from sequence accepted sent)
        (failsafe_answered now from sequence accepted sent b)
        ((failsafe-quiet b now from sequence accepted sent b (as-said b)).all none)
    by (FailsafeAsked from incarnation sequence ttl) =
        let heard : Heard = FailsafeAsked from incarnation sequence ttl in
        failsafe-asked-by (λ (x : Outcome). All (RepliesTo heard) x.outputs) now from incarnation sequence ttl b
        (λ _. All-push (RepliesTo heard) _ (outputs.Message (outgoing.FailsafeAnswer from incarnation sequence true))
        (All-push (RepliesTo heard) b.outputs (outputs.Tell (tellings.HoldTaken (span_after now ttl) from sequence))
        (none-replies heard b none) tt)
        (refl, refl, refl))
        (All-push (RepliesTo heard) b.outputs
        (outputs.Message (outgoing.FailsafeAnswer from incarnation sequence false))
        (none-replies heard b none) (refl, refl, refl))
