-- What an input makes of what an agent knows: of its questions, and of the keys that a snapshot tells.
use Rattle.std.proofs.Common.{◌≡◌, ℕ, ◌+◌, ◌≤◌, Bool, true, false, List, Option, Some, None, refl, sym, ◌∙◌, arith, inl, inr}
use Rattle.pat_base.specs.declared.member_id.MemberId.{MemberId}
use Rattle.pat_base.specs.declared.member_set.MemberSet.{MemberSet}
use Rattle.pat_base.specs.declared.peer_answer.PeerAnswer.{PeerAnswer}
use Rattle.pat_base.specs.declared.ticks.Ticks.{Ticks}
use Rattle.store_keys.specs.declared.action.OperatorAction.{OperatorAction}
use Rattle.lease_store.specs.declared.granted.Granted.{Granted}
use Rattle.store_keys.specs.declared.key.Key.TheVariants as keys
use Rattle.store_keys.specs.declared.value.KeyEntry.{KeyEntry}
use Rattle.wal_model.specs.declared.entry.HistoryPoint.{HistoryPoint}
use Rattle.cluster_view.specs.Snapshots.{SnapshotFacts, entry_in, failsafe_by, found_by}
use Rattle.event_book.specs.declared.agent_note.AgentNote.TheVariants as agent_notes
use Rattle.event_book.specs.declared.reason.Reason.TheVariants.{StartTooLong, WatchdogNotArmed}
use Rattle.lease_model.proofs.Tools.{none-some}
use Rattle.agent_model.specs.declared.heard.Heard.{Heard}
use Rattle.agent_model.specs.declared.heard.Heard.TheVariants.{Wake, ReadAnswered, Granted as HeardGranted, Mismatch, Asked, Answered, FailsafeAsked, FailsafeAnswered, Operated as HearsOperator}
use Rattle.agent_model.specs.declared.knowledge.PendingQuestion.{PendingQuestion}
use Rattle.agent_model.specs.declared.output.Output.{Output}
use Rattle.agent_model.specs.declared.output.Output.TheVariants as outputs
use Rattle.agent_model.specs.declared.output.Noting.TheVariants as notings
use Rattle.agent_model.specs.declared.why.Why.{Why}
use Rattle.agent_model.specs.declared.why.Why.TheVariants.{HandOver, Lost}
use Rattle.agent_model.specs.Acting.{disarming, arming, ending_server, requiring, shutting_down, touching, starting_replica, following_server, is_refusing, waiting_no_more}
use Rattle.agent_model.specs.Agents.{RoleFacts, Follower, Holder, Ready, Leader, Ending, Unleased, Outcome}
use Rattle.agent_model.specs.Reconciling.{leader_finds_ended, has_ended, finds_live, unleased_finds_ended, reconciled}
use Rattle.agent_model.specs.Decisions.{cannot_arm, confirming, judges_start, may_create, leader_renewed, takes_over, unleased_renewed, unleased_unarmed, may_take, gives_back, arms, takes_key, granted, refused, takes_key_in_pause}
use Rattle.agent_model.specs.Claiming.{begins, claims, begins_or_claims, passing, postpones}
use Rattle.agent_model.specs.Planning.{writing_sync, noting}
use Rattle.agent_model.specs.Outputs.{with_output}
use Rattle.agent_roles.specs.Seen.{lease_asked, failsafe_listed, failsafe_entry_seen, failsafe_read_seen, failsafe_seen, hold_seen}
use Rattle.agent_model.specs.Repairs.{repair_of, repairing}
use Rattle.agent_model.specs.Snapshots.{informed, is_active, carrying, renewing_with, follow_row, follows, leader_loses_key, unleased_loses_key, read_noted, read_answered, asks_as_unleased, led_by_another}
use Rattle.agent_model.specs.Racing.{creating, barred, finds_free, judged, asking_others, unheard}
use Rattle.agent_model.specs.Peers.{asked, keeping, answered}
use Rattle.agent_model.specs.HandingOver.{checking, hands_over}
use Rattle.agent_model.specs.Operators.{answering, given_up, learned, looked, operated, operating, restarting, telling, wiping, unnumbered}
use Rattle.agent_model.specs.FailsafeKeys.{failsafe_read_by, failsafe_read_in, set_carried, failsafe_read_at}
use Rattle.agent_model.specs.StayingPrimary.{answering_failsafe, asking_to_stay, counting, failsafe_answered, failsafe_asked, leader_unacknowledged, others_known, span_after, stays, stays_alone, holding_for}
use Rattle.event_book.specs.Watchdogs.{prolonged_to}
use Rattle.agent_model.specs.Table.{step, granted_any, refused_any}
use Rattle.event_book.specs.declared.message.Body.TheVariants as bodies
use Rattle.agent_model.specs.Wake.{reading, turn_noted, leader_out_of_reach, unleased_out_of_reach, overdue, turned, woken}
use Rattle.agent_roles.proofs.Granting.{Told}
use Rattle.agent_roles.proofs.Living.{no-way}
use Rattle.agent_cases.proofs.Rows.{HandoverRows, ReplyRows, ActRows, dropping, looked-by, given-up-by, refused-any-by, operated-by, if-cases, before-by, overdue-by, turn-by, wake-by, got-by, refused-by, follow-by, repaired-by, free-by, judged-by, answered-by}
use Rattle.agent_cases.proofs.FailsafeRows.{failsafe-asked-by, failsafe-answered-by}
use Rattle.agent_cases.proofs.Grants.{granted-any-by, led_on, judges-start-by, begins-or-claims-by, granted-by, DutyRows, duties-of, leading_in_pause, takes-in-pause-by}
use Rattle.agent_model.specs.Pausing.{may_start_behind, disabling_watchdog, running_without_key}
use Rattle.agent_model.specs.declared.machine.Machine.{Machine}
use Rattle.agent_roles.proofs.GoingOn.{Onward, asked-new, asks-on, at-most, keeps, known-more, learns, onward-then, read_by, rests, same, tells, waits-on}

ended-onward : (told : Option SnapshotFacts) (why : Why) (held : ℕ) (o : Outcome) → Onward told o (has_ended why held o)
ended-onward told HandOver held o =
    waits-on told o (has_ended HandOver held o) refl refl refl refl refl refl (omega arith) refl refl refl
ended-onward told Lost held o =
    waits-on told o (has_ended Lost held o) refl refl refl refl refl refl (omega arith) refl refl refl

pub before-onward : (told : Option SnapshotFacts) (now : Ticks) (o : Outcome) → Onward told o (reconciled now o)
before-onward told now o = before-by (Onward told o) now o (record {
  kept = λ _. same told o;
  leader = λ held _ _.
      waits-on told o (leader_finds_ended now held o) refl refl refl refl refl refl (omega arith) refl refl refl;
  ending = λ held why _ _. ended-onward told why held o;
  follower = λ _ _. waits-on told o (finds_live o) refl refl refl refl refl refl (omega arith) refl refl refl;
  holder = λ held _ _. waits-on told o (finds_live o) refl refl refl refl refl refl (omega arith) refl refl refl;
  ready =
      λ held _ _. waits-on told o (finds_live (disarming o)) refl refl refl refl refl refl (omega arith) refl refl refl;
  unleased = λ _ _. waits-on told o (unleased_finds_ended o) refl refl refl refl refl refl (omega arith) refl refl refl;
})

-- what was read last stays through what comes before an input
abbrev pub IsAsRead : Outcome → Outcome → Type 0
IsAsRead o x = (x.knows.settings ≡ o.knows.settings) × (x.knows.seen ≡ o.knows.seen)

ended-read : (why : Why) (held : ℕ) (o : Outcome) → IsAsRead o (has_ended why held o)
ended-read HandOver held o = (refl, refl)
ended-read Lost held o = (refl, refl)

pub before-read : (now : Ticks) (o : Outcome) → IsAsRead o (reconciled now o)
before-read now o = before-by (IsAsRead o) now o
    (record {
      kept = λ _. (refl, refl);
      leader = λ _ _ _. (refl, refl);
      ending = λ held why _ _. ended-read why held o;
      follower = λ _ _. (refl, refl);
      holder = λ _ _ _. (refl, refl);
      ready = λ _ _ _. (refl, refl);
      unleased = λ _ _. (refl, refl);
    })

pub creates-active : (role : RoleFacts) → may_create role ≡ true → is_active role ≡ true
creates-active Follower may = refl
creates-active (Holder held) may = refl
creates-active (Ready held) may = refl
creates-active (Leader held) may = refl
creates-active (Ending held why) may = absurd (no-way may)
creates-active Unleased may = refl

leads-active : (role : RoleFacts) (held : ℕ) → role ≡ Leader held → is_active role ≡ true
leads-active role held is = rw is refl

judged-onward : (told : Option SnapshotFacts) (now : Ticks) (o : Outcome) → may_create o.role ≡ true
    → Onward told o (judged now o)
judged-onward told now o may = judged-by (Onward told o) now o
    (asks-on told o (creating now (waiting_no_more o)) refl refl refl refl refl refl (omega arith)
    (λ n e. asked-new o.knows.sequence n e) refl (creates-active o.role may) _ refl refl)
    (λ bar. rests told o (barred bar (waiting_no_more o)) refl refl refl refl refl refl (omega arith) refl refl)

-- a handover is judged
handover-onward : (told : Option SnapshotFacts) (now : Ticks) (held : ℕ) (o b : Outcome) → Onward told o b
    → HandoverRows (Onward told o) now held b
handover-onward told now held o b first = record {
  kept = onward-then told o b (waiting_no_more b) first
      (rests told b (waiting_no_more b) refl refl refl refl refl refl (omega arith) refl refl);
  clears = λ compared. onward-then told o b (dropping compared (waiting_no_more b)) first
      (rests told b (dropping compared (waiting_no_more b)) refl refl refl refl refl refl (omega arith) refl refl);
  hands = λ candidate. onward-then told o b (hands_over now held candidate (waiting_no_more b)) first
      (rests told b (hands_over now held candidate (waiting_no_more b)) refl refl refl refl refl refl
      (omega arith) refl refl);
}

-- an operator is answered
pub told-onward : (told : Option SnapshotFacts) (o b : Outcome) → Onward told o b → ReplyRows (Onward told o) b
told-onward told o b first = record {
  kept = first;
  answers = λ request said. onward-then told o b (answering request said b) first
      (keeps told b (answering request said b) refl refl refl refl refl refl (omega arith) (λ n e. inl e) refl
      (λ alone. alone) (λ counted. counted));
}

-- a hold isn't shortened
prolonged : (until : Ticks) (hold : Option Ticks) → hold_seen hold ≤ hold_seen (prolonged_to until hold)
prolonged until None = omega arith
prolonged until (Some before) = omega arith

holds-onward : (told : Option SnapshotFacts) (now : Ticks) (from : MemberId) (sequence : ℕ) (ttl : Ticks) (o : Outcome)
    → Onward told o (holding_for now from sequence ttl o)
holds-onward told now from sequence ttl o = record {
  who = refl;
  incarnation = refl;
  last = omega arith;
  waits = λ n e. inl e;
  known = λ p e. e;
  informed = λ e. inl e;
  failsafe = λ key e. inl e;
  leader = λ seen e. inl e;
  pauses = λ e. inl e;
  hold = prolonged (span_after now ttl) o.machine.hold;
  ends = λ alone. alone;
  counts = λ counted. counted;
}

-- what one asks is done
acts-onward : (told : Option SnapshotFacts) (now : Ticks) (request : ℕ) (o : Outcome)
    → ActRows (Onward told o) now request o
acts-onward told now request o = record {
  asks = λ operation txn _.
      keeps told o (operating now request operation (bodies.Request txn) o) refl refl refl refl refl refl
      (omega arith) (λ n e. inl e) refl (λ alone. alone) (λ counted one is. at-most (counted one is) (omega arith));
  restarts = λ said. keeps told o (telling request said (restarting now o)) refl refl refl refl refl refl
      (omega arith) (λ n e. inl e) refl (λ alone. alone) (λ counted. counted);
  wipes = λ said. keeps told o (telling request said (wiping o)) refl refl refl refl refl refl (omega arith)
      (λ n e. inl e) refl (λ alone. alone) (λ counted. counted);
  holds = λ ttl said _. let held : Outcome = holding_for now o.knows.who.me unnumbered ttl o in
      onward-then told o held (telling request said held) (holds-onward told now o.knows.who.me unnumbered ttl o)
      (keeps told held (telling request said held) refl refl refl refl refl refl (omega arith)
      (λ n e. inl e) refl (λ alone. alone) (λ counted. counted));
  refuses = λ said. keeps told o (telling request said o) refl refl refl refl refl refl (omega arith)
      (λ n e. inl e) refl (λ alone. alone) (λ counted. counted);
}

pub overdue-onward : (told : Option SnapshotFacts) (now : Ticks) (o : Outcome) → Onward told o (overdue now o)
overdue-onward told now o = overdue-by (Onward told o) now o (record {
  kept = same told o;
  quiet = rests told o (waiting_no_more o) refl refl refl refl refl refl (omega arith) refl refl;
  leader = λ held _. rests told o
      (leader_out_of_reach now held (waiting_no_more o)) refl refl refl refl refl refl (omega arith) refl refl;
  seeks = λ held is. asks-on told o (asking_to_stay now (others_known o.knows) (waiting_no_more o)) refl refl refl
      refl refl refl (omega arith) (λ n e. absurd (none-some _ e)) refl (leads-active o.role held is) _ refl refl;
  alone = λ held _. rests told o (stays_alone now (others_known o.knows) (waiting_no_more o)) refl refl refl
      refl refl refl (omega arith) refl refl;
  silent = λ held _. rests told o
      (leader_unacknowledged now held (waiting_no_more o)) refl refl refl refl refl refl (omega arith) refl refl;
  unleased = λ _. rests told o (unleased_out_of_reach now (waiting_no_more o)) refl refl refl refl refl refl
      (omega arith) refl refl;
  judges = λ may. judged-onward told now o may;
  ready =
      λ held _. rests told o (postpones held (waiting_no_more o)) refl refl refl refl refl refl (omega arith) refl refl;
  checks = λ held _. handover-onward told now held o o (same told o);
})

pub turn-onward : (told : Option SnapshotFacts) (now : Ticks) (o : Outcome) → Onward told o (turned now o)
turn-onward told now o = turn-by (Onward told o) now o (record {
  kept = same told o;
  quiet = keeps told o (record o { knows = turn_noted now o.knows }) refl refl refl refl refl refl
      (omega arith) (λ n e. inl e) refl (λ alone. alone) (λ counted. counted);
  reads = λ active. asks-on told o (reading now (record o { knows = turn_noted now o.knows })) refl refl refl
      refl refl refl (omega arith) (λ n e. absurd (none-some _ e)) refl active _ refl refl;
})

pub given-up-onward : (told : Option SnapshotFacts) (now : Ticks) (o : Outcome)
    → Onward told o (given_up now (reconciled now o))
given-up-onward told now o = given-up-by (Onward told o) now (reconciled now o)
    (told-onward told o (reconciled now o) (before-onward told now o))

pub wake-onward : (told : Option SnapshotFacts) (now : Ticks) (o : Outcome) → Onward told o (woken now o)
wake-onward told now o = let b : Outcome = given_up now (reconciled now o) in
    wake-by (Onward told o) now o (before-onward told now o)
    (onward-then told o (overdue now b) (turned now (overdue now b))
    (onward-then told o b (overdue now b) (given-up-onward told now o) (overdue-onward told now b))
    (turn-onward told now (overdue now b)))

-- a failsafe key that a snapshot tells is the turn's
read-told : (snapshot : SnapshotFacts) → failsafe_read_seen (failsafe_read_in snapshot) ≡ failsafe_seen snapshot
read-told snapshot = by-entry (entry_in keys.Failsafe snapshot)
  where
    by-members : (revision : ℕ) (members : Option MemberSet)
        → failsafe_read_seen (failsafe_read_by revision members) ≡ failsafe_listed revision members
    by-members revision None = refl
    by-members revision (Some members) = refl

    by-entry : (found : Option KeyEntry)
        → failsafe_read_seen (found_by failsafe_read_at found) ≡ failsafe_entry_seen found
    by-entry None = refl
    by-entry (Some found) = by-members found.revision (failsafe_by found.value)

abbrev Read : Ticks → SnapshotFacts → Outcome → Outcome
Read now snapshot o = record o { knows = read_noted now snapshot o.knows }

-- a read is noted
reads : (now : Ticks) (snapshot : SnapshotFacts) (o : Outcome) → Onward (Some snapshot) o (Read now snapshot o)
reads now snapshot o = let told : Onward (Some snapshot) o (Told snapshot o) = tells snapshot o in record {
  who = refl;
  incarnation = refl;
  last = omega arith;
  waits = λ n e. absurd (none-some _ e);
  known = told.known;
  informed = told.informed;
  failsafe = λ key e. inr (sym (read-told snapshot) ∙ e);
  leader = λ seen e. inr e;
  pauses = told.pauses;
  hold = omega arith;
  ends = λ _ _. refl;
  counts = λ _ one is. absurd (none-some one is);
}

-- a row behind a read, which waits for nothing after it
quiet-read : (now : Ticks) (snapshot : SnapshotFacts) (o after : Outcome) → after.knows.who ≡ o.knows.who
    → after.knows.incarnation ≡ o.knows.incarnation → read_by after.knows ≡ read_by (Read now snapshot o).knows
    → after.knows.known ≡ (Told snapshot o).knows.known → after.knows.informed ≡ (Told snapshot o).knows.informed
    → after.knows.settings ≡ (Told snapshot o).knows.settings
    → o.knows.sequence ≤ after.knows.sequence → after.knows.waited ≡ None
    → after.machine.hold ≡ o.machine.hold → Onward (Some snapshot) o after
quiet-read now snapshot o after who incarnation seen known inform settings last waited hold =
    onward-then (Some snapshot) o (Read now snapshot o) after (reads now snapshot o)
    (rests (Some snapshot) (Read now snapshot o) after who incarnation seen known inform settings last waited hold)

-- a row behind one that asks for a lease
asks-read : (now : Ticks) (snapshot : SnapshotFacts) (o after : Outcome) → after.knows.who ≡ o.knows.who
    → after.knows.incarnation ≡ o.knows.incarnation → read_by after.knows ≡ read_by (Read now snapshot o).knows
    → after.knows.known ≡ (Told snapshot o).knows.known → after.knows.informed ≡ (Told snapshot o).knows.informed
    → after.knows.settings ≡ (Told snapshot o).knows.settings
    → o.knows.sequence ≤ after.knows.sequence → lease_asked after.knows.waited ≡ Some (o.knows.sequence + 1)
    → after.machine.hold ≡ o.machine.hold → is_active after.role ≡ true → (asked : PendingQuestion)
    → after.knows.waited ≡ Some asked → asked.sequence ≡ after.knows.sequence → Onward (Some snapshot) o after
asks-read now snapshot o after who incarnation seen known inform settings last waited hold active asked is number =
    onward-then (Some snapshot) o (Read now snapshot o) after (reads now snapshot o)
    (asks-on (Some snapshot) (Read now snapshot o) after who incarnation seen known inform settings last
    (λ n e. asked-new o.knows.sequence n (sym waited ∙ e)) hold active asked is number)

-- a row behind a snapshot that is the newest, which waits for nothing after it
quiet-told : (snapshot : SnapshotFacts) (o after : Outcome) → after.knows.who ≡ o.knows.who
    → after.knows.incarnation ≡ o.knows.incarnation → read_by after.knows ≡ read_by (Told snapshot o).knows
    → after.knows.known ≡ (Told snapshot o).knows.known → after.knows.informed ≡ (Told snapshot o).knows.informed
    → after.knows.settings ≡ (Told snapshot o).knows.settings
    → o.knows.sequence ≤ after.knows.sequence → after.knows.waited ≡ None
    → after.machine.hold ≡ o.machine.hold → Onward (Some snapshot) o after
quiet-told snapshot o after who incarnation seen known inform settings last waited hold =
    onward-then (Some snapshot) o (Told snapshot o) after (tells snapshot o)
    (rests (Some snapshot) (Told snapshot o) after who incarnation seen known inform settings last waited hold)

-- a row behind it that asks for a lease
asks-told : (snapshot : SnapshotFacts) (o after : Outcome) → after.knows.who ≡ o.knows.who
    → after.knows.incarnation ≡ o.knows.incarnation → read_by after.knows ≡ read_by (Told snapshot o).knows
    → after.knows.known ≡ (Told snapshot o).knows.known → after.knows.informed ≡ (Told snapshot o).knows.informed
    → after.knows.settings ≡ (Told snapshot o).knows.settings
    → o.knows.sequence ≤ after.knows.sequence → lease_asked after.knows.waited ≡ Some (o.knows.sequence + 1)
    → after.machine.hold ≡ o.machine.hold → is_active after.role ≡ true → (asked : PendingQuestion)
    → after.knows.waited ≡ Some asked → asked.sequence ≡ after.knows.sequence → Onward (Some snapshot) o after
asks-told snapshot o after who incarnation seen known inform settings last waited hold active asked is number =
    onward-then (Some snapshot) o (Told snapshot o) after (tells snapshot o)
    (asks-on (Some snapshot) (Told snapshot o) after who incarnation seen known inform settings last
    (λ n e. asked-new o.knows.sequence n (sym waited ∙ e)) hold active asked is number)

-- a leader that writes the failsafe key knows whom it lists there
renews-onward : (now : Ticks) (points : List HistoryPoint) (revision : ℕ) (snapshot : SnapshotFacts)
    (o : Outcome) (carried : Option MemberSet) → is_active o.role ≡ true
    → Onward (Some snapshot) o (renewing_with now points revision carried (Read now snapshot o))
renews-onward now points revision snapshot o carried active =
    let read : Outcome = Read now snapshot o in let lists : Outcome = carrying carried read in
    onward-then (Some snapshot) o lists (renewing_with now points revision carried read)
    (onward-then (Some snapshot) o read lists (reads now snapshot o) (record {
      who = refl;
      incarnation = refl;
      last = omega arith;
      waits = λ n e. inl e;
      known = λ p e. known-more read.knows.known carried p e;
      informed = λ e. inl e;
      failsafe = λ key e. inl e;
      leader = λ seen e. inl e;
      pauses = λ e. inl e;
      hold = omega arith;
      ends = λ alone. alone;
      counts = λ counted. counted;
    }))
    (asks-on (Some snapshot) lists (renewing_with now points revision carried read) refl refl refl refl refl refl
    (omega arith) (λ n e. asked-new o.knows.sequence n e) refl active _ refl refl)

follow-onward : (now : Ticks) (snapshot : SnapshotFacts) (leader : MemberId) (o : Outcome)
    → Onward (Some snapshot) o (follows now leader (record o { knows = read_noted now snapshot o.knows }))
follow-onward now snapshot leader o = let read : Outcome = record o { knows = read_noted now snapshot o.knows } in
    let x : Outcome = led_by_another read in
    let may : Bool = may_start_behind read.knows in
    let row : Outcome = touching (follow_row may now leader o.machine.server.state x) in
    repaired-by (Onward (Some snapshot) o) leader (repair_of x.knows.settings leader o.machine.server) row
    (follow-by (λ (y : Outcome). Onward (Some snapshot) o (touching y)) may now leader o.machine.server.state x
    (quiet-read now snapshot o (touching x) refl refl refl refl refl refl (omega arith) refl refl)
    (quiet-read now snapshot o (touching (starting_replica now (Some leader) x)) refl refl refl refl refl refl
    (omega arith) refl refl)
    (quiet-read now snapshot o (touching (following_server leader x)) refl refl refl refl refl refl
    (omega arith) refl refl)
    (quiet-read now snapshot o (touching (shutting_down now x)) refl refl refl refl refl refl (omega arith) refl refl))
    (λ r. follow-by (λ (y : Outcome). Onward (Some snapshot) o (repairing leader r (touching y))) may now
    leader o.machine.server.state x
    (quiet-read now snapshot o (repairing leader r (touching x)) refl refl refl refl refl refl (omega arith) refl refl)
    (quiet-read now snapshot o (repairing leader r (touching (starting_replica now (Some leader) x))) refl
    refl refl refl refl refl (omega arith) refl refl)
    (quiet-read now snapshot o
    (repairing leader r (touching (following_server leader x))) refl refl refl refl refl refl (omega arith) refl refl)
    (quiet-read now snapshot o
    (repairing leader r (touching (shutting_down now x))) refl refl refl refl refl refl (omega arith) refl refl))

free-onward : (now : Ticks) (snapshot : SnapshotFacts) (o : Outcome)
    → Onward (Some snapshot) o (finds_free now (record o { knows = read_noted now snapshot o.knows }))
free-onward now snapshot o = let x : Outcome = record o { role = Follower; knows = read_noted now snapshot o.knows } in
    free-by (Onward (Some snapshot) o) now x (record {
      starts = quiet-read now snapshot o
          (touching (starting_replica now None x)) refl refl refl refl refl refl (omega arith) refl refl;
      touches = quiet-read now snapshot o (touching x) refl refl refl refl refl refl (omega arith) refl refl;
      bars = λ bar. quiet-read now snapshot o (barred bar x) refl refl refl refl refl refl (omega arith) refl refl;
      judges = onward-then (Some snapshot) o (unheard x) (judged now (unheard x))
          (quiet-read now snapshot o (unheard x) refl refl refl refl refl refl (omega arith) refl refl)
          (judged-onward (Some snapshot) now (unheard x) refl);
      asks = onward-then (Some snapshot) o (Read now snapshot o) (asking_others now (unheard x)) (reads now snapshot o)
          (asks-on (Some snapshot) (Read now snapshot o) (asking_others now (unheard x)) refl refl refl refl refl refl
          (omega arith) (λ n e. absurd (none-some _ e)) refl refl _ refl refl);
    })

pub got-onward : (now : Ticks) (points : List HistoryPoint) (sequence : ℕ) (snapshot : SnapshotFacts) (o : Outcome)
    → Onward (Some snapshot) o (read_answered now points sequence snapshot o)
got-onward now points sequence snapshot o = let read : Outcome = record o { knows = read_noted now snapshot o.knows } in
    got-by (Onward (Some snapshot) o) now points sequence snapshot o (record {
      kept = same (Some snapshot) o;
      quiet = rests (Some snapshot) o (waiting_no_more o) refl refl refl refl refl refl (omega arith) refl refl;
      other = quiet-read now snapshot o read refl refl refl refl refl refl (omega arith) refl refl;
      leader = λ held _. quiet-read now snapshot o
          (leader_loses_key now held read) refl refl refl refl refl refl (omega arith) refl refl;
      unleased = λ _. quiet-read now snapshot o (unleased_loses_key now read) refl refl refl refl refl refl
          (omega arith) refl refl;
      renews = λ active leader _ _. renews-onward now points leader.revision snapshot o (set_carried read) active;
      touches = quiet-read now snapshot o (touching read) refl refl refl refl refl refl (omega arith) refl refl;
      follows = λ leader _ _. follow-onward now snapshot leader.holder o;
      free = λ _ _. free-onward now snapshot o;
      runs_on = λ _.
          quiet-read now snapshot o (running_without_key read) refl refl refl refl refl refl (omega arith) refl refl;
      asks_on = λ _. asks-read now snapshot o (asks_as_unleased now read) refl refl refl refl refl refl
          (omega arith) refl refl refl _ refl refl;
    })

pub refused-onward : (told : Option SnapshotFacts) (now : Ticks) (sequence : ℕ) (o : Outcome)
    → Onward told o (refused now sequence o)
refused-onward told now sequence o = refused-by (Onward told o) now sequence o (record {
  kept = same told o;
  quiet = rests told o (waiting_no_more o) refl refl refl refl refl refl (omega arith) refl refl;
  leader = λ held _. rests told o
      (leader_loses_key now held (waiting_no_more o)) refl refl refl refl refl refl (omega arith) refl refl;
  unleased = λ _.
      rests told o (unleased_loses_key now (waiting_no_more o)) refl refl refl refl refl refl (omega arith) refl refl;
  follower = λ held _. rests told o
      (record (waiting_no_more o) { role = Follower }) refl refl refl refl refl refl (omega arith) refl refl;
  ready =
      λ held _. rests told o (postpones held (waiting_no_more o)) refl refl refl refl refl refl (omega arith) refl refl;
  runs_on =
      λ _. rests told o (running_without_key (waiting_no_more o)) refl refl refl refl refl refl (omega arith) refl refl;
})

-- a row behind it that asks for another write
writes-told : (snapshot : SnapshotFacts) (o after : Outcome) → after.knows.who ≡ o.knows.who
    → after.knows.incarnation ≡ o.knows.incarnation → read_by after.knows ≡ read_by (Told snapshot o).knows
    → after.knows.known ≡ (Told snapshot o).knows.known → after.knows.informed ≡ (Told snapshot o).knows.informed
    → after.knows.settings ≡ (Told snapshot o).knows.settings
    → o.knows.sequence ≤ after.knows.sequence → lease_asked after.knows.waited ≡ None
    → after.machine.hold ≡ o.machine.hold → is_active after.role ≡ true → (asked : PendingQuestion)
    → after.knows.waited ≡ Some asked → asked.sequence ≡ after.knows.sequence → Onward (Some snapshot) o after
writes-told snapshot o after who incarnation seen known inform settings last none hold active asked is number =
    onward-then (Some snapshot) o (Told snapshot o) after (tells snapshot o)
    (asks-on (Some snapshot) (Told snapshot o) after who incarnation seen known inform settings last
    (λ n e. absurd (none-some _ (sym none ∙ e))) hold active asked is number)

-- what a leader owes its cluster, whatever became of its watchdog
duty-onward : (now : Ticks) (revision : ℕ) (snapshot : SnapshotFacts) (o : Outcome) (machine : Machine)
    (outs : List Output) → machine.hold ≡ o.machine.hold
    → DutyRows (Onward (Some snapshot) o) now revision
    (record (Told snapshot o) { role = Leader revision; machine = machine; outputs = outs })
duty-onward now revision snapshot o machine outs hold =
    let led : Outcome = record (Told snapshot o) { role = Leader revision; machine = machine; outputs = outs } in
    record {
      plan = record {
        kept = quiet-told snapshot o led refl refl refl refl refl refl (omega arith) refl hold;
        writes = λ settling txn _. writes-told snapshot o
            (writing_sync now settling txn led) refl refl refl refl refl refl (omega arith) refl hold refl _ refl refl;
        adds = λ required.
            quiet-told snapshot o (requiring required (noting led)) refl refl refl refl refl refl
            (omega arith) refl hold;
        drops = λ required.
            quiet-told snapshot o (requiring required led) refl refl refl refl refl refl (omega arith) refl hold;
      };
      clears =
          λ compared.
          quiet-told snapshot o (dropping compared led) refl refl refl refl refl refl (omega arith) refl hold;
      asks = λ candidate. writes-told snapshot o (checking now candidate (unheard led)) refl refl refl refl refl refl
          (omega arith) refl hold refl _ refl refl;
      judges = handover-onward (Some snapshot) now revision o (unheard led)
          (quiet-told snapshot o (unheard led) refl refl refl refl refl refl (omega arith) refl hold);
    }

start-onward : (now : Ticks) (revision : ℕ) (snapshot : SnapshotFacts) (o : Outcome) (machine : Machine)
    (outs : List Output) → machine.hold ≡ o.machine.hold
    → Onward (Some snapshot) o
    (judges_start now revision (record (Told snapshot o) { role = Leader revision; machine = machine; outputs = outs }))
start-onward now revision snapshot o machine outs hold =
    let led : Outcome = record (Told snapshot o) { role = Leader revision; machine = machine; outputs = outs } in
    let ended : Outcome = record (ending_server now StartTooLong led) { role = Ending revision HandOver } in
    judges-start-by (Onward (Some snapshot) o) now revision led
    (quiet-told snapshot o ended refl refl refl refl refl refl (omega arith) refl hold)
    (duty-onward now revision snapshot o machine outs hold)

renewed-onward : (now ttl : Ticks) (revision : ℕ) (snapshot : SnapshotFacts) (o : Outcome)
    → Onward (Some snapshot) o (leader_renewed now ttl revision (Told snapshot o))
renewed-onward now ttl revision snapshot o = let led : Outcome = led_on now ttl revision (Told snapshot o) in
    start-onward now revision snapshot o led.machine led.outputs refl

unleased-onward : (now ttl : Ticks) (revision : ℕ) (snapshot : SnapshotFacts) (o : Outcome)
    → Onward (Some snapshot) o (unleased_renewed now ttl revision (Told snapshot o))
unleased-onward now ttl revision snapshot o =
    let over : Outcome = takes_over now revision (arming now ttl (Told snapshot o)) in
    let ended : Outcome = ending_server now WatchdogNotArmed (Told snapshot o) in
    if-cases (Onward (Some snapshot) o) (is_refusing o.machine.watchdog.mode o.machine.watchdog.works) ended over
    (λ _. quiet-told snapshot o ended refl refl refl refl refl refl (omega arith) refl refl)
    (λ _. quiet-told snapshot o over refl refl refl refl refl refl (omega arith) refl refl)

arms-onward : (now ttl : Ticks) (revision : ℕ) (snapshot : SnapshotFacts) (o : Outcome)
    → Onward (Some snapshot) o (arms now ttl revision (Told snapshot o))
arms-onward now ttl revision snapshot o =
    let back : Outcome = gives_back revision
    (record (Told snapshot o) {
      outputs =
          with_output (outputs.Note (notings.Agent agent_notes.CannotArm)) o.outputs;
    }) in
    let arm : Outcome = arming now ttl (Told snapshot o) in
    if-cases (Onward (Some snapshot) o) (is_refusing o.machine.watchdog.mode o.machine.watchdog.works) back
    (begins_or_claims now revision arm)
    (λ _. quiet-told snapshot o back refl refl refl refl refl refl (omega arith) refl refl)
    (λ _. begins-or-claims-by (Onward (Some snapshot) o) now revision arm
    (quiet-told snapshot o (begins now revision arm) refl refl refl refl refl refl (omega arith) refl refl)
    (writes-told snapshot o (claims now revision (passing arm)) refl refl refl refl refl refl
    (omega arith) refl refl refl _ refl refl))

takes-onward : (now ttl : Ticks) (revision : ℕ) (snapshot : SnapshotFacts) (o : Outcome)
    → Onward (Some snapshot) o (takes_key now ttl revision (Told snapshot o))
takes-onward now ttl revision snapshot o = let back : Outcome = gives_back revision (Told snapshot o) in
    if-cases (Onward (Some snapshot) o) (may_take now (Told snapshot o).knows o.machine)
    (arms now ttl revision (Told snapshot o)) back
    (λ _. arms-onward now ttl revision snapshot o)
    (λ _. quiet-told snapshot o back refl refl refl refl refl refl (omega arith) refl refl)

leading-in-pause-onward : (now : Ticks) (renews : Bool) (revision : ℕ) (snapshot : SnapshotFacts) (o : Outcome)
    → Onward (Some snapshot) o (takes_key_in_pause now renews revision (Told snapshot o))
leading-in-pause-onward now renews revision snapshot o =
    let rest : Outcome = disabling_watchdog renews (Told snapshot o) in
    takes-in-pause-by (Onward (Some snapshot) o) now renews revision (Told snapshot o)
    (quiet-told snapshot o (gives_back revision (Told snapshot o)) refl refl refl refl refl refl
    (omega arith) refl refl)
    (quiet-told snapshot o (begins now revision rest) refl refl refl refl refl refl (omega arith) refl refl)
    (writes-told snapshot o (claims now revision (passing rest)) refl refl refl refl refl refl
    (omega arith) refl refl refl _ refl refl)

pub granted-onward : (now : Ticks) (sequence : ℕ) (grant : Granted) (snapshot : SnapshotFacts) (o : Outcome)
    → Onward (Some snapshot) o (granted now sequence grant snapshot o)
granted-onward now sequence grant snapshot o = granted-by (Onward (Some snapshot) o) now sequence grant snapshot o
    (same (Some snapshot) o)
    (rests (Some snapshot) o (waiting_no_more o) refl refl refl refl refl refl (omega arith) refl refl)
    (λ waited _ _. record {
      other = tells snapshot o;
      leader = λ held _. renewed-onward now waited.ttl grant.revision snapshot o;
      unleased = λ _. unleased-onward now waited.ttl grant.revision snapshot o;
      takes = λ _. takes-onward now waited.ttl grant.revision snapshot o;
      keeps_late = λ held _. start-onward now grant.revision snapshot o o.machine o.outputs refl;
      ends_late = λ _. quiet-told snapshot o
          (unleased_unarmed now (Told snapshot o)) refl refl refl refl refl refl (omega arith) refl refl;
      refuses_late = λ _. quiet-told snapshot o
          (cannot_arm grant.revision (Told snapshot o)) refl refl refl refl refl refl (omega arith) refl refl;
      returns_late = λ _. quiet-told snapshot o
          (gives_back grant.revision (Told snapshot o)) refl refl refl refl refl refl (omega arith) refl refl;
      leads_in_pause = λ renews _ held _. let led : Outcome =
          leading_in_pause renews grant.revision (Told snapshot o) in duties-of (Onward (Some snapshot) o) now
          grant.revision led (duty-onward now grant.revision snapshot o led.machine led.outputs refl);
      unleased_in_pause = λ renews _ _. quiet-told snapshot o
          (takes_over now grant.revision (disabling_watchdog renews (Told snapshot o))) refl refl refl refl refl refl
          (omega arith) refl refl;
      takes_in_pause = λ renews _ _. leading-in-pause-onward now renews grant.revision snapshot o;
    })
    (λ after first. onward-then (Some snapshot) o after (confirming snapshot after) first
    (keeps (Some snapshot) after (confirming snapshot after) refl refl refl refl refl refl (omega arith)
    (λ n e. inl e) refl (λ alone. alone) (λ counted. counted)))
    (record {
      other = tells snapshot o;
      begins = λ revision _. quiet-told snapshot o
          (begins now revision (Told snapshot o)) refl refl refl refl refl refl (omega arith) refl refl;
      postpones = λ revision _. quiet-told snapshot o
          (postpones revision (Told snapshot o)) refl refl refl refl refl refl (omega arith) refl refl;
      settles = λ required _. quiet-told snapshot o
          (requiring required (Told snapshot o)) refl refl refl refl refl refl (omega arith) refl refl;
    })

pub answered-onward : (told : Option SnapshotFacts) (now : Ticks) (sequence : ℕ) (answer : PeerAnswer) (o : Outcome)
    → Onward told o (answered now sequence answer o)
answered-onward told now sequence answer o =
    let kept : Onward told o (keeping answer o) = keeps told o (keeping answer o) refl refl refl refl refl refl
    (omega arith) (λ n e. inl e) refl (λ alone. alone) (λ counted. counted) in
    answered-by (Onward told o) now sequence answer o (record {
      kept = same told o;
      quiet = rests told o (waiting_no_more o) refl refl refl refl refl refl (omega arith) refl refl;
      keeps = kept;
      judges = λ may. onward-then told o (keeping answer o) (judged now (keeping answer o)) kept
          (judged-onward told now (keeping answer o) may);
      checks = λ held _. handover-onward told now held o (keeping answer o) kept;
    })

pub asked-onward : (told : Option SnapshotFacts) (from : MemberId) (incarnation sequence : ℕ) (o : Outcome)
    → Onward told o (asked from incarnation sequence o)
asked-onward told from incarnation sequence o = keeps told o (asked from incarnation sequence o) refl refl
    refl refl refl refl (omega arith) (λ n e. inl e) refl (λ alone. alone) (λ counted. counted)

-- another member answers a failsafe request
pub staying-onward : (told : Option SnapshotFacts) (now : Ticks) (from : MemberId) (sequence : ℕ) (accepted : Bool)
    (sent : Ticks) (o : Outcome) → Onward told o (failsafe_answered now from sequence accepted sent o)
staying-onward told now from sequence accepted sent o =
    failsafe-answered-by (Onward told o) now from sequence accepted sent o (record {
      kept = same told o;
      quiet = rests told o (waiting_no_more o) refl refl refl refl refl refl (omega arith) refl refl;
      counts = λ held _. keeps told o (counting from sent o) refl refl refl refl refl refl (omega arith)
          (λ n e. inl e) refl (λ alone. alone) (λ counted. counted);
      stays = λ held _ waited _ _ since _ _.
          rests told o (stays now waited.ttl waited.sequence since (counting from sent o)) refl refl refl refl refl refl
          (omega arith) refl refl;
      counts_late = λ held _ _.
          rests told o (waiting_no_more (counting from sent o)) refl refl refl refl refl refl (omega arith) refl refl;
      fails = λ held _ _. rests told o
          (leader_unacknowledged now held (waiting_no_more o)) refl refl refl refl refl refl (omega arith) refl refl;
    })

-- another member asks to stay primary
pub holding-onward : (told : Option SnapshotFacts) (now : Ticks) (from : MemberId) (incarnation sequence : ℕ)
    (ttl : Ticks) (o : Outcome) → Onward told o (failsafe_asked now from incarnation sequence ttl o)
holding-onward told now from incarnation sequence ttl o =
    failsafe-asked-by (Onward told o) now from incarnation sequence ttl o
    (λ _. let held : Outcome = holding_for now from sequence ttl o in
    onward-then told o held (answering_failsafe from incarnation sequence true held)
    (holds-onward told now from sequence ttl o)
    (keeps told held (answering_failsafe from incarnation sequence true held) refl refl refl refl refl refl
    (omega arith) (λ n e. inl e) refl (λ alone. alone) (λ counted. counted)))
    (keeps told o (answering_failsafe from incarnation sequence false o) refl refl refl refl refl refl
    (omega arith) (λ n e. inl e) refl (λ alone. alone) (λ counted. counted))

-- the snapshot that comes with what is heard
abbrev pub told_by : Heard → Option SnapshotFacts
told_by Wake = None
told_by (ReadAnswered sequence snapshot) = Some snapshot
told_by (HeardGranted sequence grant snapshot) = Some snapshot
told_by (Mismatch sequence key found) = None
told_by (Asked from incarnation sequence) = None
told_by (Answered sequence answer) = None
told_by (FailsafeAsked from incarnation sequence ttl) = None
told_by (FailsafeAnswered from sequence accepted sent) = None
told_by (HearsOperator action) = None

-- an operator is answered behind what precedes an input, by what is read
pub looked-onward : (told : Option SnapshotFacts) (now : Ticks) (sequence : ℕ) (snapshot : SnapshotFacts) (o : Outcome)
    → Onward told o (looked sequence snapshot (reconciled now o))
looked-onward told now sequence snapshot o = looked-by (Onward told o) sequence snapshot (reconciled now o)
    (told-onward told o (reconciled now o) (before-onward told now o))

-- what an operator wants, or the agent by itself, is granted; or refused
pub any-granted-onward : (now : Ticks) (sequence : ℕ) (grant : Granted) (snapshot : SnapshotFacts) (o : Outcome)
    → Onward (Some snapshot) o (granted_any now sequence grant snapshot o)
any-granted-onward now sequence grant snapshot o =
    granted-any-by (Onward (Some snapshot) o) now sequence grant snapshot o (same (Some snapshot) o)
    (told-onward (Some snapshot) o (learned snapshot o) (learns snapshot o))
    (granted-onward now sequence grant snapshot o)

pub any-refused-onward : (now : Ticks) (sequence : ℕ) (o : Outcome) → Onward None o (refused_any now sequence o)
any-refused-onward now sequence o = refused-any-by (Onward None o) now sequence o
    (told-onward None o o (same None o)) (refused-onward None now sequence o)

pub operated-onward : (now : Ticks) (action : OperatorAction) (o : Outcome)
    → Onward None o (operated now action.request action.asked o)
operated-onward now action o =
    operated-by (Onward None o) now action.request action.asked o (acts-onward None now action.request o)

pub step-onward : (now : Ticks) (points : List HistoryPoint) (heard : Heard) (o : Outcome)
    → Onward (told_by heard) o (step now points heard o)
step-onward now points Wake o = wake-onward None now o
step-onward now points (ReadAnswered sequence snapshot) o =
    let p : Outcome = looked sequence snapshot (reconciled now o) in
    onward-then (Some snapshot) o p (read_answered now points sequence snapshot p)
    (looked-onward (Some snapshot) now sequence snapshot o) (got-onward now points sequence snapshot p)
step-onward now points (HeardGranted sequence grant snapshot) o = let b : Outcome = reconciled now o in
    onward-then (Some snapshot) o b (granted_any now sequence grant snapshot b)
    (before-onward (Some snapshot) now o) (any-granted-onward now sequence grant snapshot b)
step-onward now points (Mismatch sequence key found) o = let b : Outcome = reconciled now o in
    onward-then None o b (refused_any now sequence b) (before-onward None now o) (any-refused-onward now sequence b)
step-onward now points (Asked from incarnation sequence) o =
    onward-then None o (reconciled now o) (asked from incarnation sequence (reconciled now o))
    (before-onward None now o) (asked-onward None from incarnation sequence (reconciled now o))
step-onward now points (Answered sequence answer) o =
    onward-then None o (reconciled now o) (answered now sequence answer (reconciled now o))
    (before-onward None now o) (answered-onward None now sequence answer (reconciled now o))
step-onward now points (FailsafeAsked from incarnation sequence ttl) o =
    onward-then None o (reconciled now o) (failsafe_asked now from incarnation sequence ttl (reconciled now o))
    (before-onward None now o) (holding-onward None now from incarnation sequence ttl (reconciled now o))
step-onward now points (FailsafeAnswered from sequence accepted sent) o =
    onward-then None o (reconciled now o) (failsafe_answered now from sequence accepted sent (reconciled now o))
    (before-onward None now o) (staying-onward None now from sequence accepted sent (reconciled now o))
step-onward now points (HearsOperator action) o = let b : Outcome = reconciled now o in onward-then None o b
    (operated now action.request action.asked b) (before-onward None now o) (operated-onward now action b)
