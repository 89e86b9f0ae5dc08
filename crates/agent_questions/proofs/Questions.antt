-- Each input of the decision table asks under new numbers, and waits on as it should.
use Rattle.std.proofs.Common.{ℕ, Bool, true, false, List, [], Option, Some, None, All, refl, arith}
use Rattle.std.proofs.lemmas.List.Elements.{All-nil}
use Rattle.pat_base.specs.declared.member_id.MemberId.{MemberId}
use Rattle.pat_base.specs.declared.peer_answer.PeerAnswer.{PeerAnswer}
use Rattle.pat_base.specs.declared.ticks.Ticks.{Ticks}
use Rattle.store_keys.specs.declared.action.OperatorRequest.{OperatorRequest}
use Rattle.lease_store.specs.declared.granted.Granted.{Granted}
use Rattle.store_keys.specs.declared.txn.Txn.{Txn}
use Rattle.store_keys.specs.declared.txn.Txn.TheVariants as txns
use Rattle.store_keys.specs.declared.txn.LeaseTxn.TheVariants as lease_txns
use Rattle.store_keys.specs.declared.txn.OperatorTxn.TheVariants as operator_txns
use Rattle.store_keys.specs.declared.txn.SyncTxn.TheVariants as sync_txns
use Rattle.lease_store.specs.Writes.{nobody}
use Rattle.wal_model.specs.declared.entry.HistoryPoint.{HistoryPoint}
use Rattle.cluster_view.specs.Snapshots.{SnapshotFacts}
use Rattle.event_book.specs.declared.agent_note.AgentNote.TheVariants as agent_notes
use Rattle.event_book.specs.declared.message.Body.{Body}
use Rattle.event_book.specs.declared.message.Body.TheVariants as bodies
use Rattle.event_book.specs.declared.reason.Reason.TheVariants.{StartTooLong}
use Rattle.sync_state.specs.declared.steps.Plan.{Plan}
use Rattle.sync_state.specs.declared.steps.Plan.TheVariants as plans
use Rattle.sync_state.specs.Plans.{plan_of}
use Rattle.agent_model.specs.declared.heard.Heard.{Heard}
use Rattle.agent_model.specs.declared.heard.Heard.TheVariants.{Wake, ReadAnswered, Granted as HeardGranted, Mismatch, Asked, Answered, FailsafeAsked, FailsafeAnswered, Operated}
use Rattle.agent_model.specs.declared.knowledge.Knowledge.{Knowledge}
use Rattle.agent_model.specs.declared.knowledge.Question.TheVariants.{Reading, Creating, Renewing, Claiming, Syncing}
use Rattle.agent_model.specs.declared.knowledge.Settling.{Settling}
use Rattle.agent_model.specs.declared.knowledge.Settling.TheVariants.{KeepsList, NamesStandbys, ClearsList}
use Rattle.agent_model.specs.declared.knowledge.SyncRead.{SyncRead}
use Rattle.agent_model.specs.declared.machine.Machine.{Machine}
use Rattle.agent_model.specs.declared.operating.Told.{Told}
use Rattle.agent_model.specs.declared.output.Output.{Output}
use Rattle.agent_model.specs.declared.output.Output.TheVariants as outputs
use Rattle.agent_model.specs.declared.output.Feeding.TheVariants as feedings
use Rattle.agent_model.specs.declared.output.Noting.TheVariants as notings
use Rattle.agent_model.specs.declared.output.Outgoing.TheVariants as outgoing
use Rattle.agent_model.specs.declared.output.ServerOrder.TheVariants as orders
use Rattle.agent_model.specs.declared.output.Telling.TheVariants as tellings
use Rattle.agent_model.specs.declared.why.Why.TheVariants.{HandOver}
use Rattle.agent_model.specs.Acting.{requiring, ending_server, seconds_after, lease_span, arming, feeding, sending, touching, starting_replica, is_refusing, deadline_after, waiting_no_more}
use Rattle.agent_model.specs.Agents.{RoleFacts, Follower, Ending, Outcome, outcome_from}
use Rattle.agent_model.specs.Reconciling.{reconciled}
use Rattle.agent_model.specs.Claiming.{begins, claims, begins_or_claims, passing, postpones}
use Rattle.agent_model.specs.Decisions.{cannot_arm, confirming, is_start_too_long, judges_start, leader_renewed, takes_over, unleased_renewed, may_take, gives_back, arms, takes_key, granted, refused}
use Rattle.agent_model.specs.Planning.{writing_sync, switching_off, planned_as, planned_on, leader_view, noting}
use Rattle.agent_model.specs.Synchronous.{expected_of, sync_read_if, unnamed, waiting_for}
use Rattle.pat_base.specs.declared.server_state.Required.{Required}
use Rattle.pat_base.specs.declared.server_state.Required.TheVariants as needs
use Rattle.agent_model.specs.HandingOver.{duties}
use Rattle.agent_model.specs.Operators.{given_up, learned, looked, operated, operating, restarting, wiping, unnumbered}
use Rattle.agent_model.specs.Outputs.{with_output}
use Rattle.agent_model.specs.Racing.{finds_free, unheard}
use Rattle.agent_model.specs.Repairs.{repair_of}
use Rattle.agent_model.specs.Snapshots.{carrying, informed, follows, read_noted, read_answered, follow_row, led_by_another}
use Rattle.pat_base.specs.declared.member_set.MemberSet.{MemberSet}
use Rattle.failsafe.specs.Asks.{asked as asked_nobody}
use Rattle.agent_model.specs.FailsafeKeys.{set_carried}
use Rattle.agent_model.specs.StayingPrimary.{counting, failsafe_answered, fed_by_failsafe, holding_for, others_known, span_after, stays}
use Rattle.agent_model.specs.Table.{granted_any, refused_any, step}
use Rattle.agent_model.specs.Wake.{turn_noted, overdue, turned, woken}
use Rattle.agent_cases.proofs.Rows.{IsOperatorTxn, if-cases, given-up-by, looked-by, operated-by, overdue-by, refused-any-by, turn-by, wake-by, got-by, refused-by, follow-by, repaired-by, free-by, answered-by}
use Rattle.agent_cases.proofs.FailsafeRows.{failsafe-asked-by, failsafe-answered-by}
use Rattle.agent_cases.proofs.Grants.{kept_on, led_on, begins-or-claims-by, passing-by, duties-by, granted-any-by, granted-by, leading_in_pause, takes-in-pause-by}
use Rattle.agent_model.specs.Peers.{keeping, answered}
use Rattle.lease_model.proofs.Tools.{both}
use Rattle.agent_questions.specs.Questions.{IsPutBy, SendsBetween, Same, AsksAnew}
use Rattle.agent_roles.specs.Asks.{IsQuestion}
use Rattle.agent_model.specs.Pausing.{may_start_behind, disabling_told, disabling_watchdog, running_without_key}
use Rattle.agent_questions.proofs.Asking.{Reaches, arms-it, ask-reaches, before-reaches, check-reaches, drop-reaches, feeds, goes-on, handover-reaches, is-spanned, judged-reaches, one-more, others-reach, postpone-reaches, reply-reaches, rests, seek-reaches, send-reaches}

-- a leader stays primary
stay-fed : (now : Ticks) (known knows : Knowledge) (outs : List Output) (until : Option Ticks)
    (members : MemberSet) (sequence : ℕ) (since : Ticks) → AsksAnew now known knows outs
    → AsksAnew now known knows (fed_by_failsafe until members sequence since outs)
stay-fed now known knows outs None members sequence since r = r
stay-fed now known knows outs (Some until) members sequence since r =
    one-more now known knows outs (outputs.Watchdog (feedings.FedByFailsafe until members sequence since)) tt r

stay-reaches : (now ttl : Ticks) (known : Knowledge) (sequence : ℕ) (since : Ticks) (o : Outcome)
    → Reaches now known o → Reaches now known (stays now ttl sequence since o)
stay-reaches now ttl known sequence since o r =
    let until : Option Ticks = deadline_after now ttl o.machine.watchdog in
    let fed : List Output = fed_by_failsafe until o.knows.failsafe.members sequence since o.outputs in
    rests now known o.knows (stays now ttl sequence since o).knows
    (with_output (outputs.Note notings.StaysByFailsafe) fed) refl refl refl refl
    (one-more now known o.knows fed (outputs.Note notings.StaysByFailsafe) tt
    (stay-fed now known o.knows o.outputs until o.knows.failsafe.members sequence since r))

overdue-reaches : (now : Ticks) (known : Knowledge) (o : Outcome) → Reaches now known o
    → Reaches now known (overdue now o)
overdue-reaches now known o r =
    let quiet : AsksAnew now known (let none : Knowledge = record o.knows { waited = None } in none) o.outputs =
    rests now known o.knows _ o.outputs refl refl refl refl r in
    overdue-by (Reaches now known) now o (record {
      kept = r;
      quiet = quiet;
      leader = λ held _. one-more now known _ o.outputs _ tt quiet;
      seeks = λ held _. seek-reaches now known (others_known o.knows) (waiting_no_more o) quiet;
      alone = λ held _. let begun : Outcome =
          record (waiting_no_more o) {
            knows =
                record (waiting_no_more o).knows { failsafe = asked_nobody (others_known o.knows) now };
          } in
          stay-reaches now (lease_span o.knows.settings) known o.knows.sequence now begun
          (goes-on now known (waiting_no_more o).knows begun.knows o.outputs refl refl refl refl quiet);
      silent = λ held _. one-more now known _ o.outputs _ tt quiet;
      unleased = λ _. one-more now known _ o.outputs _ tt quiet;
      judges = λ _. judged-reaches now known o r;
      ready = λ held _. postpone-reaches now known held (waiting_no_more o) quiet;
      checks = λ held _. handover-reaches now known held o r;
    })

turn-reaches : (now : Ticks) (known : Knowledge) (o : Outcome) → Reaches now known o → Reaches now known (turned now o)
turn-reaches now known o r =
    let noted : Outcome = record o { knows = turn_noted now o.knows } in
    let begun : Reaches now known noted = goes-on now known o.knows noted.knows o.outputs refl refl refl refl r in
    turn-by (Reaches now known) now o (record {
      kept = r;
      quiet = begun;
      reads = λ _. ask-reaches now known Reading (seconds_after now noted.knows.settings.retry_timeout)
          bodies.Read noted tt (λ e. absurd (both e)) (λ e. absurd (both e)) begun;
    })

wake-reaches : (now : Ticks) (known : Knowledge) (o : Outcome) → Reaches now known o → Reaches now known (woken now o)
wake-reaches now known o r = let first = before-reaches now known o r in
    let told : Outcome = given_up now (reconciled now o) in
    wake-by (Reaches now known) now o first
    (turn-reaches now known (overdue now told)
    (overdue-reaches now known told
    (given-up-by (Reaches now known) now (reconciled now o) (reply-reaches now known (reconciled now o) first))))

touch-reaches : (now : Ticks) (known : Knowledge) (o : Outcome) → Reaches now known o → Reaches now known (touching o)
touch-reaches now known o r = send-reaches now known _ o tt r

follow-reaches : (now : Ticks) (known : Knowledge) (leader : MemberId) (o : Outcome) → Reaches now known o
    → Reaches now known (follows now leader o)
follow-reaches now known leader o r = let x : Outcome = led_by_another o in
    let may : Bool = may_start_behind o.knows in
    let row : Outcome = follow_row may now leader o.machine.server.state x in
    let led : Reaches now known x = goes-on now known o.knows x.knows o.outputs refl refl refl refl r in
    let told : Reaches now known (touching row) = touch-reaches now known row
    (follow-by (Reaches now known) may now leader o.machine.server.state x led
    (one-more now known x.knows o.outputs (outputs.Server (orders.StartReplica (Some leader))) tt led)
    (one-more now known x.knows o.outputs (outputs.Server (orders.Follow leader)) tt led)
    (one-more now known x.knows o.outputs (outputs.Server orders.ShutDown) tt led)) in
    repaired-by (Reaches now known) leader (repair_of o.knows.settings leader o.machine.server) (touching row) told
    (λ repair. one-more now known (touching row).knows (touching row).outputs
    (outputs.Server (orders.Repair leader repair)) tt told)

free-reaches : (now : Ticks) (known : Knowledge) (o : Outcome) → Reaches now known o
    → Reaches now known (finds_free now o)
free-reaches now known o r = let x : Outcome = record o { role = Follower } in
    let alone : Reaches now known (unheard x) =
    goes-on now known o.knows (unheard x).knows o.outputs refl refl refl refl r in
    free-by (Reaches now known) now x (record {
      starts = touch-reaches now known (starting_replica now None x)
          (one-more now known o.knows o.outputs (outputs.Server (orders.StartReplica None)) tt r);
      touches = touch-reaches now known x r;
      bars = λ bar. touch-reaches now known (record x {
        outputs = with_output (outputs.Note (notings.Agent (agent_notes.DoesNotRace bar))) x.outputs;
      }) (one-more now known o.knows o.outputs (outputs.Note (notings.Agent (agent_notes.DoesNotRace bar))) tt r);
      judges = judged-reaches now known (unheard x) alone;
      asks = others-reach now known (unheard x) alone;
    })

-- another member answers a failsafe request
staying-reaches : (now : Ticks) (known : Knowledge) (from : MemberId) (sequence : ℕ) (accepted : Bool) (sent : Ticks)
    (o : Outcome) → Reaches now known o → Reaches now known (failsafe_answered now from sequence accepted sent o)
staying-reaches now known from sequence accepted sent o r =
    let quiet : AsksAnew now known (let none : Knowledge = record o.knows { waited = None } in none) o.outputs =
    rests now known o.knows _ o.outputs refl refl refl refl r in
    let counts : Reaches now known (counting from sent o) =
    goes-on now known o.knows (counting from sent o).knows o.outputs refl refl refl refl r in
    failsafe-answered-by (Reaches now known) now from sequence accepted sent o (record {
      kept = r;
      quiet = quiet;
      counts = λ _ _. counts;
      stays = λ _ _ waited _ _ since _ _.
          stay-reaches now waited.ttl known waited.sequence since (counting from sent o) counts;
      counts_late = λ _ _ _. rests now known (counting from sent o).knows _ o.outputs refl refl refl refl counts;
      fails = λ _ _ _. one-more now known _ o.outputs _ tt quiet;
    })

answered-reaches : (now : Ticks) (known : Knowledge) (sequence : ℕ) (answer : PeerAnswer) (o : Outcome)
    → Reaches now known o → Reaches now known (answered now sequence answer o)
answered-reaches now known sequence answer o r =
    let kept : Reaches now known (keeping answer o) =
    goes-on now known o.knows (keeping answer o).knows o.outputs refl refl refl refl r in
    answered-by (Reaches now known) now sequence answer o (record {
      kept = r;
      quiet = rests now known o.knows _ o.outputs refl refl refl refl r;
      keeps = kept;
      judges = λ _. judged-reaches now known (keeping answer o) kept;
      checks = λ held _. handover-reaches now known held (keeping answer o) kept;
    })

got-reaches : (now : Ticks) (points : List HistoryPoint) (known : Knowledge) (sequence : ℕ) (snapshot : SnapshotFacts)
    (o : Outcome) → Reaches now known o → Reaches now known (read_answered now points sequence snapshot o)
got-reaches now points known sequence snapshot o r =
    let read : Outcome = record o { knows = read_noted now snapshot o.knows } in
    let told : Reaches now known read = rests now known o.knows read.knows o.outputs refl refl refl refl r in
    got-by (Reaches now known) now points sequence snapshot o (record {
      kept = r;
      quiet = rests now known o.knows _ o.outputs refl refl refl refl r;
      other = told;
      leader = λ held _. one-more now known read.knows o.outputs _ tt told;
      unleased = λ _. one-more now known read.knows o.outputs _ tt told;
      renews = λ _ leader _ _. let lists : Outcome = carrying (set_carried read) read in
          ask-reaches now known Renewing _ _ lists tt (λ _. refl) (λ e. absurd (both e))
          (goes-on now known read.knows lists.knows o.outputs refl refl refl refl told);
      touches = touch-reaches now known read told;
      follows = λ leader _ _. follow-reaches now known leader.holder read told;
      free = λ _ _. free-reaches now known read told;
      runs_on = λ _.
          one-more now known read.knows o.outputs (outputs.Note (notings.Agent agent_notes.RunsWithoutKey)) tt told;
      asks_on = λ _. ask-reaches now known Creating (seconds_after now read.knows.settings.retry_timeout) _
          (running_without_key read) (is-spanned read.knows.settings) (λ _. refl) (λ e. absurd (both e))
          (one-more now known read.knows o.outputs (outputs.Note (notings.Agent agent_notes.RunsWithoutKey)) tt told);
    })

refused-reaches : (now : Ticks) (known : Knowledge) (sequence : ℕ) (o : Outcome) → Reaches now known o
    → Reaches now known (refused now sequence o)
refused-reaches now known sequence o r =
    let quiet : AsksAnew now known (let none : Knowledge = record o.knows { waited = None } in none) o.outputs =
    rests now known o.knows _ o.outputs refl refl refl refl r in
    refused-by (Reaches now known) now sequence o (record {
      kept = r;
      quiet = quiet;
      leader = λ held _. one-more now known _ o.outputs _ tt quiet;
      unleased = λ _. one-more now known _ o.outputs _ tt quiet;
      follower = λ held _. quiet;
      ready = λ held _. postpone-reaches now known held (waiting_no_more o) quiet;
      runs_on = λ _. one-more now known _ o.outputs (outputs.Note (notings.Agent agent_notes.RunsWithoutKey)) tt quiet;
    })

feed-reaches : (now ttl : Ticks) (known : Knowledge) (o : Outcome) → Reaches now known o
    → Reaches now known (feeding now ttl o)
feed-reaches now ttl known o r = feeds now known o.knows o.outputs (deadline_after now ttl o.machine.watchdog) r

arm-reaches : (now ttl : Ticks) (known : Knowledge) (o : Outcome) → Reaches now known o
    → Reaches now known (arming now ttl o)
arm-reaches now ttl known o r = arms-it now known o.knows o.outputs (deadline_after now ttl o.machine.watchdog) r

-- a write of the sync key, which says what it settles
writes-question : (settling : Settling) (txn : Txn) → IsPutBy (Syncing settling) txn → IsQuestion (bodies.Request txn)
writes-question KeepsList (txns.Sync (sync_txns.SetSync revision sync standbys may_lack)) puts = tt
writes-question (NamesStandbys set) (txns.Sync (sync_txns.SetSync revision sync standbys may_lack)) puts = tt
writes-question ClearsList (txns.Sync (sync_txns.DropSync revision sync)) puts = tt
writes-question _ _ puts = absurd puts

write-reaches : (now : Ticks) (known : Knowledge) (settling : Settling) (txn : Txn) (o : Outcome)
    → IsPutBy (Syncing settling) txn → Reaches now known o → Reaches now known (writing_sync now settling txn o)
write-reaches now known settling txn o puts r = ask-reaches now known (Syncing settling) _
    (bodies.Request txn) o (writes-question settling txn puts) (λ e. absurd (both e)) (λ _. puts) r

require-reaches : (now : Ticks) (known : Knowledge) (required : Required) (o : Outcome) → Reaches now known o
    → Reaches now known (requiring required o)
require-reaches now known required o r = one-more now known o.knows o.outputs (outputs.Require required) tt r

-- a leader's step with its standbys
off-reaches : (now : Ticks) (known : Knowledge) (revision : ℕ) (read : Option SyncRead) (o : Outcome)
    → Reaches now known o → Reaches now known (switching_off now revision read o)
off-reaches now known revision None o r = r
off-reaches now known revision (Some read) o r =
    write-reaches now known ClearsList (txns.Sync (sync_txns.DropSync revision read.revision)) o tt r

plan-reaches : (now : Ticks) (known : Knowledge) (revision : ℕ) (plan : Plan) (o : Outcome)
    → Reaches now known o → Reaches now known (planned_as now revision plan o)
plan-reaches now known revision plans.Keep o r = r
plan-reaches now known revision plans.SwitchOff o r = off-reaches now known revision (sync_read_if o.knows.seen) o r
plan-reaches now known revision plans.Mark o r = write-reaches now known (NamesStandbys nobody)
    (txns.Sync (sync_txns.SetSync revision (expected_of (sync_read_if o.knows.seen)) nobody None)) o refl r
plan-reaches now known revision (plans.Withdraw standbys) o r = write-reaches now known (NamesStandbys standbys)
    (txns.Sync (sync_txns.SetSync revision (expected_of (sync_read_if o.knows.seen)) standbys None)) o refl r
plan-reaches now known revision (plans.AddRequired members) o r = require-reaches now known (needs.All members)
    (noting o) (goes-on now known o.knows (noting o).knows o.outputs refl refl refl refl r)
plan-reaches now known revision (plans.Publish standbys) o r =
    write-reaches now known KeepsList
    (txns.Sync (sync_txns.SetSync revision (expected_of (sync_read_if o.knows.seen)) standbys None)) o tt r
plan-reaches now known revision (plans.DropRequired members) o r =
    require-reaches now known (waiting_for o.knows.settings members) o r

planned-reaches : (now : Ticks) (known : Knowledge) (revision : ℕ) (seen : Option SnapshotFacts) (o : Outcome)
    → Reaches now known o → Reaches now known (planned_on now revision seen o)
planned-reaches now known revision None o r = r
planned-reaches now known revision (Some snapshot) o r =
    plan-reaches now known revision (plan_of (leader_view now o.knows o.machine) snapshot) o r

-- what it owes its cluster with each renewal
duties-reach : (now : Ticks) (known : Knowledge) (revision : ℕ) (o : Outcome) → Reaches now known o
    → Reaches now known (duties now revision o)
duties-reach now known revision o r =
    let alone : Reaches now known (unheard o) =
    goes-on now known o.knows (unheard o).knows o.outputs refl refl refl refl r in
    duties-by (Reaches now known) now revision o (planned-reaches now known revision o.knows.seen o r) (record {
      kept = r;
      clears = λ compared. drop-reaches now known compared o r;
      asks = λ candidate. check-reaches now known candidate (unheard o) alone;
      judges = handover-reaches now known revision (unheard o) alone;
    })

-- a leader under the lease of this revision, whatever became of its watchdog
start-reaches : (now : Ticks) (known : Knowledge) (revision : ℕ) (led : Outcome) → Reaches now known led
    → Reaches now known (judges_start now revision led)
start-reaches now known revision led r =
    if-cases (Reaches now known) (is_start_too_long now led.knows led.machine.server.state)
    (record (ending_server now StartTooLong led) { role = Ending revision HandOver }) (duties now revision led)
    (λ _. one-more now known led.knows led.outputs _ tt r) (λ _. duties-reach now known revision led r)

renewed-reaches : (now ttl : Ticks) (known : Knowledge) (revision : ℕ) (o : Outcome) → Reaches now known o
    → Reaches now known (leader_renewed now ttl revision o)
renewed-reaches now ttl known revision o r =
    start-reaches now known revision (led_on now ttl revision o) (feed-reaches now ttl known o r)

unleased-reaches : (now ttl : Ticks) (known : Knowledge) (revision : ℕ) (o : Outcome) → Reaches now known o
    → Reaches now known (unleased_renewed now ttl revision o)
unleased-reaches now ttl known revision o r = let armed-now : Outcome = arming now ttl o in
    if-cases (Reaches now known) (is_refusing o.machine.watchdog.mode o.machine.watchdog.works) _
    (takes_over now revision armed-now)
    (λ _. one-more now known o.knows o.outputs _ tt r)
    (λ _. goes-on now known armed-now.knows _ armed-now.outputs refl refl refl refl (arm-reaches now ttl known o r))

begin-reaches : (now : Ticks) (known : Knowledge) (revision : ℕ) (o : Outcome) → Reaches now known o
    → Reaches now known (begins now revision o)
begin-reaches now known revision o r = goes-on now known o.knows _ _ refl refl refl refl
    (one-more now known o.knows _ (outputs.Server orders.Begin) tt
    (require-reaches now known (unnamed o.knows.turn_settings) o r))

-- a claim, behind what is noted of the sync key
claim-reaches : (now : Ticks) (known : Knowledge) (revision : ℕ) (o : Outcome) → Reaches now known o
    → Reaches now known (claims now revision (passing o))
claim-reaches now known revision o r =
    ask-reaches now known Claiming _ _ (passing o) tt (λ e. absurd (both e)) (λ _. tt)
    (passing-by (AsksAnew now known o.knows) o r
    (one-more now known o.knows o.outputs (outputs.Tell tellings.ClaimsOutsideSync) tt r))

cannot-reaches : (now : Ticks) (known : Knowledge) (revision : ℕ) (o : Outcome) → Reaches now known o
    → Reaches now known (cannot_arm revision o)
cannot-reaches now known revision o r =
    send-reaches now known (bodies.Request (txns.Lease (lease_txns.Release revision))) (record o {
      outputs = with_output (outputs.Note (notings.Agent agent_notes.CannotArm)) o.outputs;
    }) tt (one-more now known o.knows o.outputs (outputs.Note (notings.Agent agent_notes.CannotArm)) tt r)

arms-reaches : (now ttl : Ticks) (known : Knowledge) (revision : ℕ) (o : Outcome) → Reaches now known o
    → Reaches now known (arms now ttl revision o)
arms-reaches now ttl known revision o r =
    if-cases (Reaches now known) (is_refusing o.machine.watchdog.mode o.machine.watchdog.works)
    (cannot_arm revision o) (begins_or_claims now revision (arming now ttl o))
    (λ _. cannot-reaches now known revision o r)
    (λ _. let arm : Outcome = arming now ttl o in let fed : Reaches now known arm = arm-reaches now ttl known o r in
    begins-or-claims-by (Reaches now known) now revision arm (begin-reaches now known revision arm fed)
    (claim-reaches now known revision arm fed))

takes-reaches : (now ttl : Ticks) (known : Knowledge) (revision : ℕ) (o : Outcome) → Reaches now known o
    → Reaches now known (takes_key now ttl revision o)
takes-reaches now ttl known revision o r =
    if-cases (Reaches now known) (may_take now o.knows o.machine) (arms now ttl revision o) (gives_back revision o)
    (λ _. arms-reaches now ttl known revision o r)
    (λ _. send-reaches now known (bodies.Request (txns.Lease (lease_txns.Release revision))) o tt r)

-- a watchdog that rests
rests-told : (now : Ticks) (known after : Knowledge) (renews : Bool) (deadline : Option Ticks) (outs : List Output)
    → AsksAnew now known after outs → AsksAnew now known after (disabling_told renews deadline outs)
rests-told now known after renews None outs r = r
rests-told now known after true (Some deadline) outs r =
    one-more now known after (with_output (outputs.Watchdog feedings.Disarmed) outs)
    (outputs.Note (notings.Agent agent_notes.DisablesWatchdog)) tt
    (one-more now known after outs (outputs.Watchdog feedings.Disarmed) tt r)
rests-told now known after false (Some deadline) outs r =
    one-more now known after outs (outputs.Watchdog feedings.Disarmed) tt r

disabled-reaches : (now : Ticks) (known : Knowledge) (renews : Bool) (o : Outcome) → Reaches now known o
    → Reaches now known (disabling_watchdog renews o)
disabled-reaches now known renews o r = rests-told now known o.knows renews o.machine.watchdog.deadline o.outputs r

granted-reaches : (now : Ticks) (known : Knowledge) (sequence : ℕ) (grant : Granted) (snapshot : SnapshotFacts)
    (o : Outcome) → Reaches now known o → Reaches now known (granted now sequence grant snapshot o)
granted-reaches now known sequence grant snapshot o r =
    let told : Outcome = record o { knows = informed snapshot o.knows } in
    let next : Reaches now known told = rests now known o.knows told.knows o.outputs refl refl refl refl r in
    granted-by (Reaches now known) now sequence grant snapshot o r
    (rests now known o.knows _ o.outputs refl refl refl refl r)
    (λ waited _ _. record {
      other = next;
      leader = λ held _. renewed-reaches now waited.ttl known grant.revision told next;
      unleased = λ _. unleased-reaches now waited.ttl known grant.revision told next;
      takes = λ _. takes-reaches now waited.ttl known grant.revision told next;
      keeps_late = λ held _. start-reaches now known grant.revision (kept_on grant.revision told) next;
      ends_late = λ _. one-more now known told.knows told.outputs _ tt next;
      refuses_late = λ _. cannot-reaches now known grant.revision told next;
      returns_late =
          λ _. send-reaches now known (bodies.Request (txns.Lease (lease_txns.Release grant.revision))) told tt next;
      leads_in_pause = λ renews _ held _. duties-reach now known grant.revision
          (leading_in_pause renews grant.revision told) (disabled-reaches now known renews told next);
      unleased_in_pause = λ renews _ _. goes-on now known told.knows _
          (disabling_watchdog renews told).outputs refl refl refl refl (disabled-reaches now known renews told next);
      takes_in_pause = λ renews _ _. let rest : Outcome = disabling_watchdog renews told in
          let rested : Reaches now known rest = disabled-reaches now known renews told next in
          takes-in-pause-by (Reaches now known) now renews grant.revision told
          (send-reaches now known (bodies.Request (txns.Lease (lease_txns.Release grant.revision))) told tt next)
          (begin-reaches now known grant.revision rest rested) (claim-reaches now known grant.revision rest rested);
    })
    (λ after reached.
    goes-on now known after.knows (confirming snapshot after).knows after.outputs refl refl refl refl reached)
    (record {
      other = next;
      begins = λ revision _. begin-reaches now known revision told next;
      postpones = λ revision _. postpone-reaches now known revision told next;
      settles = λ required _. require-reaches now known required told next;
    })

-- what an operator waits for was granted, or refused
granted-any-reaches : (now : Ticks) (known : Knowledge) (sequence : ℕ) (grant : Granted) (snapshot : SnapshotFacts)
    (o : Outcome) → Reaches now known o → Reaches now known (granted_any now sequence grant snapshot o)
granted-any-reaches now known sequence grant snapshot o r =
    granted-any-by (Reaches now known) now sequence grant snapshot o r
    (reply-reaches now known (learned snapshot o)
    (goes-on now known o.knows (learned snapshot o).knows o.outputs refl refl refl refl r))
    (granted-reaches now known sequence grant snapshot o r)

refused-any-reaches : (now : Ticks) (known : Knowledge) (sequence : ℕ) (o : Outcome) → Reaches now known o
    → Reaches now known (refused_any now sequence o)
refused-any-reaches now known sequence o r = refused-any-by (Reaches now known) now sequence o
    (reply-reaches now known o r) (refused-reaches now known sequence o r)

-- what an operator asks is done
operator-question : (txn : Txn) → IsOperatorTxn txn → IsQuestion (bodies.Request txn)
operator-question (txns.Operators (operator_txns.SetFailover failover ttl)) is = tt
operator-question (txns.Operators (operator_txns.SetConfig revision config)) is = tt
operator-question _ is = absurd is

operated-reaches : (now : Ticks) (known : Knowledge) (request : ℕ) (asked : OperatorRequest) (o : Outcome)
    → Reaches now known o → Reaches now known (operated now request asked o)
operated-reaches now known request asked o r = operated-by (Reaches now known) now request asked o (record {
  asks = λ operation txn is.
      let body : Body = bodies.Request txn in
      goes-on now known (sending body o).knows (operating now request operation body o).knows _ refl refl refl refl
      (send-reaches now known body o (operator-question txn is) r);
  restarts = λ told.
      let again : Outcome = restarting now o in
      one-more now known again.knows again.outputs (outputs.Tell (tellings.Told request told)) tt
      (goes-on now known o.knows again.knows again.outputs refl refl refl refl
      (one-more now known o.knows o.outputs _ tt r));
  wipes = λ told. one-more now known o.knows (wiping o).outputs (outputs.Tell (tellings.Told request told)) tt
      (one-more now known o.knows o.outputs (outputs.Server orders.Wipe) tt r);
  holds = λ ttl told _. one-more now known o.knows (holding_for now o.knows.who.me unnumbered ttl o).outputs
      (outputs.Tell (tellings.Told request told)) tt
      (one-more now known o.knows o.outputs
      (outputs.Tell (tellings.HoldTaken (span_after now ttl) o.knows.who.me unnumbered)) tt r);
  refuses = λ told. one-more now known o.knows o.outputs (outputs.Tell (tellings.Told request told)) tt r;
})

step-reaches : (now : Ticks) (points : List HistoryPoint) (heard : Heard) (known : Knowledge) (o : Outcome)
    → Reaches now known o → Reaches now known (step now points heard o)
step-reaches now points Wake known o r = wake-reaches now known o r
step-reaches now points (ReadAnswered sequence snapshot) known o r =
    got-reaches now points known sequence snapshot (looked sequence snapshot (reconciled now o))
    (looked-by (Reaches now known) sequence snapshot (reconciled now o)
    (reply-reaches now known (reconciled now o) (before-reaches now known o r)))
step-reaches now points (HeardGranted sequence grant snapshot) known o r =
    granted-any-reaches now known sequence grant snapshot (reconciled now o) (before-reaches now known o r)
step-reaches now points (Mismatch sequence key found) known o r =
    refused-any-reaches now known sequence (reconciled now o) (before-reaches now known o r)
step-reaches now points (Asked from incarnation sequence) known o r =
    one-more now known (reconciled now o).knows (reconciled now o).outputs _ tt (before-reaches now known o r)
step-reaches now points (Answered sequence answer) known o r =
    answered-reaches now known sequence answer (reconciled now o) (before-reaches now known o r)
step-reaches now points (FailsafeAsked from incarnation sequence ttl) known o r =
    let first : Outcome = reconciled now o in
    let fresh : Reaches now known first = before-reaches now known o r in
    failsafe-asked-by (Reaches now known) now from incarnation sequence ttl first
    (λ _. one-more now known first.knows (holding_for now from sequence ttl first).outputs
    (outputs.Message (outgoing.FailsafeAnswer from incarnation sequence true)) tt
    (one-more now known first.knows first.outputs
    (outputs.Tell (tellings.HoldTaken (span_after now ttl) from sequence)) tt fresh))
    (one-more now known first.knows first.outputs
    (outputs.Message (outgoing.FailsafeAnswer from incarnation sequence false)) tt fresh)
step-reaches now points (FailsafeAnswered from sequence accepted sent) known o r =
    staying-reaches now known from sequence accepted sent (reconciled now o) (before-reaches now known o r)
step-reaches now points (Operated action) known o r =
    operated-reaches now known action.request action.asked (reconciled now o) (before-reaches now known o r)

pub step-asks-anew : (now : Ticks) (points : List HistoryPoint) (heard : Heard) (role : RoleFacts)
    (knows : Knowledge) (machine : Machine)
    → let after = step now points heard (outcome_from role knows machine []) in
    AsksAnew now knows after.knows after.outputs
step-asks-anew now points heard role knows machine =
    step-reaches now points heard knows (outcome_from role knows machine []) (record {
      who = refl;
      incarnation = refl;
      last = omega arith;
      sends = All-nil (SendsBetween knows.sequence knows.sequence);
      waits = Same refl;
    })
