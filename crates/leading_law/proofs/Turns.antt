-- What a leader does in its turn.
use Rattle.std.proofs.Common.{ℕ, ◌+◌, ◌≡◌, ◌&&◌, ◌||◌, ◌==◌, nat_le, not, Bool, true, false, List, [], ◌∷◌, Option, Some, None, refl, sym, ap, subst, ◌∙◌}
use Rattle.std.specs.Prelude.{is_none}
use Rattle.std.specs.Option.{ForSome}
use Rattle.pat_base.specs.declared.member_id.MemberId.{MemberId}
use Rattle.pat_base.specs.declared.server_state.State.{State}
use Rattle.pat_base.specs.declared.ticks.Ticks.{Ticks}
use Rattle.pat_base.specs.ServerState.{live}
use Rattle.store_keys.specs.declared.value.FailoverKey.{FailoverKey}
use Rattle.lease_store.specs.declared.granted.Granted.{Granted}
use Rattle.wal_model.specs.declared.entry.HistoryPoint.{HistoryPoint}
use Rattle.cluster_view.specs.declared.snapshot.LeaderEntry.{LeaderEntry}
use Rattle.cluster_view.specs.Snapshots.{SnapshotFacts, leader_in, settings_in}
use Rattle.sync_state.specs.declared.steps.Plan.{Plan}
use Rattle.sync_state.specs.declared.steps.Plan.TheVariants as plans
use Rattle.sync_state.specs.Plans.{plan_of}
use Rattle.agent_model.specs.declared.heard.Heard.TheVariants.{Wake, ReadAnswered, Granted as HeardGranted, Asked, FailsafeAsked}
use Rattle.agent_model.specs.declared.knowledge.Knowledge.{Knowledge}
use Rattle.agent_model.specs.declared.knowledge.PendingQuestion.{PendingQuestion}
use Rattle.agent_model.specs.declared.knowledge.Question.{Question}
use Rattle.agent_model.specs.declared.knowledge.Question.TheVariants.{Renewing}
use Rattle.agent_model.specs.declared.knowledge.SyncRead.{SyncRead}
use Rattle.agent_model.specs.declared.machine.Machine.{Machine}
use Rattle.event_book.specs.declared.message.Body.TheVariants as bodies
use Rattle.agent_model.specs.declared.output.Output.{Output}
use Rattle.agent_model.specs.declared.output.Output.TheVariants as outputs
use Rattle.agent_model.specs.declared.output.Outgoing.TheVariants as outgoing
use Rattle.agent_model.specs.declared.output.Telling.TheVariants as tellings
use Rattle.agent_model.specs.declared.operating.Told.{Told}
use Rattle.agent_model.specs.declared.output.Target.TheVariants as targets
use Rattle.agent_model.specs.Outputs.{with_output}
use Rattle.agent_model.specs.Acting.{comes_late, feeding, seconds_after, waiting_no_more}
use Rattle.agent_model.specs.Agents.{RoleFacts, Leader, Outcome, is_leader, word_of}
use Rattle.agent_model.specs.StayingPrimary.{answering_failsafe, awaits_lease, failsafe_asked, holding_for}
use Rattle.agent_model.specs.Views.{shown}
use Rattle.failsafe.specs.Holding.{is_follower, may_hold}
use Rattle.agent_model.specs.Decisions.{accepted_grant, asks_in_pause, asks_lease, asks_renewal, asks_sync, confirming, granted, granted_for, granted_in_pause, granted_late, granted_write, is_decision, is_lease_of, is_start_too_long, is_write_of, lease_granted, lease_heard, lease_used, uses_lease}
use Rattle.agent_model.specs.HandingOver.{duties, duty_on}
use Rattle.agent_model.specs.Operators.{given_up, grants_operator, looked, operator_granted, awaits_number, is_asked_for}
use Rattle.agent_model.specs.Answers.{peer_answer_of}
use Rattle.agent_model.specs.Pausing.{is_paused}
use Rattle.agent_model.specs.Planning.{planned, planned_as, leader_view, switching_off}
use Rattle.agent_model.specs.Reconciling.{before_as, leader_finds_ended, reconciled}
use Rattle.agent_model.specs.Snapshots.{accepted, awaits_read, informed, is_active, led, others_key, own_key, read_answered, read_noted, renewing, turn_start}
use Rattle.agent_model.specs.Synchronous.{sync_read_if}
use Rattle.agent_model.specs.Table.{granted_any, prepared, step}
use Rattle.agent_model.specs.Wake.{has_turn, is_due, is_overdue, overdue, overdue_for, reading, roused, finds_ended, turn_as, turn_begins, turn_noted, turned}
use Rattle.agent_model.proofs.Judging.{if-true, if-false}
use Rattle.agent_cases.proofs.Rows.{ReplyRows, given-up-by, looked-by}
use Rattle.agent_roles.specs.Powers.{IsAwaitedLease}
use Rattle.leading_law.specs.Leading.{AreTold, IsLeading, BeginsTurn, AsksRenewal, IsRenewed, AnswersAlone, Requires, Stays, StepsOnce, Writes}

pub no-way : false ≡ true → ⊥
no-way e = cc

some-none : {X : Type 0} (x : X) → Some x ≡ None → ⊥
some-none x e = cc

-- a leader with a primary is as it was before an input
pub leads-before : (now : Ticks) (o : Outcome) → IsLeading o → reconciled now o ≡ o
leads-before now o is =
    ap (λ (r : RoleFacts). before_as now r o) is.role
    ∙ if-true (live o.machine.server.state) o (leader_finds_ended now is.revision o) (ap live is.primary)

-- nothing but an operator is answered
record IsAsBefore (o x : Outcome) : Type 0 where
  role : x.role ≡ o.role
  machine : x.machine ≡ o.machine
  knows : record x.knows { operating = None } ≡ record o.knows { operating = None }
  operating : o.knows.operating ≡ None → x.knows.operating ≡ None
  tells : AreTold o.outputs → AreTold x.outputs

-- an operator is told one thing more
told-more : (xs : List Output) (request : ℕ) (told : Told) → AreTold xs
    → AreTold (with_output (outputs.Tell (tellings.Told request told)) xs)
told-more [] request told all = (tt, tt)
told-more (x ∷ xs) request told all = (all.0, told-more xs request told all.1)

as-before : (o : Outcome) → ReplyRows (IsAsBefore o) o
as-before o = record {
  kept = record { role = refl; machine = refl; knows = refl; operating = λ none. none; tells = λ all. all };
  answers = λ request told. record {
    role = refl;
    machine = refl;
    knows = refl;
    operating = λ none. refl;
    tells = told-more o.outputs request told;
  };
}

given-up : (now : Ticks) (o : Outcome) → IsAsBefore o (given_up now o)
given-up now o = given-up-by (IsAsBefore o) now o (as-before o)

looked-at : (sequence : ℕ) (snapshot : SnapshotFacts) (o : Outcome) → IsAsBefore o (looked sequence snapshot o)
looked-at sequence snapshot o = looked-by (IsAsBefore o) sequence snapshot o (as-before o)

either-last : (a b c : Bool) → c ≡ true → a || (b || c) ≡ true
either-last true b c e = refl
either-last false true c e = refl
either-last false false c e = e

pub both-true : (a b : Bool) → a ≡ true → b ≡ true → a && b ≡ true
both-true true b first second = second
both-true false b first second = absurd (no-way first)

-- ---- a wake
turn-due : (now : Ticks) (knows : Knowledge) → knows.waited ≡ None → nat_le knows.next_turn.0 now.0 ≡ true
    → has_turn now knows ≡ true
turn-due now knows none due = both-true (is_none knows.waited) (nat_le knows.next_turn.0 now.0) (ap is_none none) due

is-due : (now : Ticks) (o : Outcome) → o.knows.waited ≡ None → nat_le o.knows.next_turn.0 now.0 ≡ true
    → is_due now o.role o.knows o.machine ≡ true
is-due now o none due = either-last (finds_ended o.role o.machine.server.state)
    (is_overdue now o.knows.waited) (has_turn now o.knows) (turn-due now o.knows none due)

turn-taken : (now : Ticks) (x : Outcome) (revision : ℕ) → x.role ≡ Leader revision → x.knows.waited ≡ None
    → nat_le x.knows.next_turn.0 now.0 ≡ true
    → turned now (overdue now x) ≡ reading now (record x { knows = turn_noted now x.knows })
turn-taken now x revision role none due =
    ap (λ (w : Option PendingQuestion). turned now (overdue_for now w x)) none
    ∙ if-true (has_turn now x.knows) (turn_begins now x) x (turn-due now x.knows none due)
    ∙ ap (λ (r : RoleFacts). turn_as now r (record x { knows = turn_noted now x.knows })) role

wake-turns : (now : Ticks) (points : List HistoryPoint) (o : Outcome) → IsLeading o → o.knows.waited ≡ None
    → nat_le o.knows.next_turn.0 now.0 ≡ true
    → step now points Wake o ≡ reading now (record (given_up now o) { knows = turn_noted now (given_up now o).knows })
wake-turns now points o is none due =
    let x : Outcome = given_up now o in
    let same : IsAsBefore o x = given-up now o in
    if-true (is_due now o.role o.knows o.machine) (roused now o) (reconciled now o) (is-due now o none due)
    ∙ ap (λ (y : Outcome). turned now (overdue now (given_up now y))) (leads-before now o is)
    ∙ turn-taken now x is.revision (same.role ∙ is.role) (ap (λ (k : Knowledge). k.waited) same.knows ∙ none)
    (ap (λ (k : Knowledge). nat_le k.next_turn.0 now.0) same.knows ∙ due)

wake-prepared : (now : Ticks) (o : Outcome) → IsLeading o → o.knows.waited ≡ None
    → nat_le o.knows.next_turn.0 now.0 ≡ true → prepared now Wake o ≡ given_up now o
wake-prepared now o is none due =
    if-true (is_due now o.role o.knows o.machine) (given_up now (reconciled now o)) (reconciled now o)
    (is-due now o none due)
    ∙ ap (given_up now) (leads-before now o is)

pub begins : (now : Ticks) (points : List HistoryPoint) (o : Outcome) → IsLeading o → o.knows.waited ≡ None
    → nat_le o.knows.next_turn.0 now.0 ≡ true → BeginsTurn now o (step now points Wake o)
begins now points o is none due =
    let x : Outcome = given_up now o in
    let same : IsAsBefore o x = given-up now o in
    subst (BeginsTurn now o) (sym (wake-turns now points o is none due)) (record {
      on = record { leads = ap is_leader (same.role ∙ is.role); server = ap (λ (m : Machine). m.server) same.machine };
      machine = same.machine;
      last = refl;
      next = ap (λ (k : Knowledge). seconds_after now k.settings.loop_wait) same.knows;
      settings = ap (λ (k : Knowledge). k.settings) same.knows;
      operating = same.operating;
      waited = _;
      waits = refl;
      numbered = ap (λ (k : Knowledge). k.sequence + 1) same.knows;
      counted = ap (λ (k : Knowledge). k.sequence + 1) same.knows;
      asks = refl;
      until = ap (λ (k : Knowledge). seconds_after now k.settings.retry_timeout) same.knows;
      outputs_are =
          ap (λ (p : Outcome).
          with_output (outputs.Message (outgoing.Send targets.Store (x.knows.sequence + 1) bodies.Read)) p.outputs)
          (sym (wake-prepared now o is none due));
      told = subst (λ (p : Outcome). AreTold o.outputs → AreTold p.outputs)
          (sym (wake-prepared now o is none due)) same.tells;
    })

not-due : (a b c : Bool) → a ≡ false → b ≡ false → c ≡ false → a || (b || c) ≡ false
not-due false false c first second third = third
not-due false true c first second third = absurd (no-way (sym second))
not-due true b c first second third = absurd (no-way (sym first))

pub second-false : (a b : Bool) → b ≡ false → a && b ≡ false
second-false true b e = e
second-false false b e = refl

-- a leader finds no end that it waits for
leads-on : (role : RoleFacts) (state : State) (revision : ℕ) → role ≡ Leader revision → finds_ended role state ≡ false
leads-on role state revision is = ap (λ (r : RoleFacts). finds_ended r state) is

wake-idles : (now : Ticks) (points : List HistoryPoint) (o : Outcome) → IsLeading o
    → is_overdue now o.knows.waited ≡ false → has_turn now o.knows ≡ false → step now points Wake o ≡ o
wake-idles now points o is early rests =
    if-false (is_due now o.role o.knows o.machine) (roused now o) (reconciled now o)
    (not-due (finds_ended o.role o.machine.server.state) (is_overdue now o.knows.waited)
    (has_turn now o.knows) (leads-on o.role o.machine.server.state is.revision is.role) early rests)
    ∙ leads-before now o is

pub sleeps : (now : Ticks) (points : List HistoryPoint) (o : Outcome) → IsLeading o → o.knows.waited ≡ None
    → nat_le o.knows.next_turn.0 now.0 ≡ false → step now points Wake o ≡ o
sleeps now points o is none early = wake-idles now points o is (ap (is_overdue now) none)
    (second-false (is_none o.knows.waited) (nat_le o.knows.next_turn.0 now.0) early)

pub waits : (now : Ticks) (points : List HistoryPoint) (waited : PendingQuestion) (o : Outcome) → IsLeading o
    → o.knows.waited ≡ Some waited → nat_le waited.until.0 now.0 ≡ false → step now points Wake o ≡ o
waits now points waited o is some early =
    wake-idles now points o is (ap (is_overdue now) some ∙ early)
    (ap (λ (w : Option PendingQuestion). is_none w && nat_le o.knows.next_turn.0 now.0) some)

-- ---- its read is answered
read-renews : (now : Ticks) (points : List HistoryPoint) (sequence : ℕ) (snapshot : SnapshotFacts)
    (leader : LeaderEntry) (p : Outcome) (held : ℕ) → p.role ≡ Leader held
    → awaits_read p.knows.waited sequence ≡ true → leader_in snapshot ≡ Some leader
    → leader.holder.number == p.knows.who.me.number ≡ true
    → read_answered now points sequence snapshot p
    ≡ renewing now points leader.revision (record p { knows = read_noted now snapshot p.knows })
read-renews now points sequence snapshot leader p held role waits there mine =
    let read : Outcome = record p { knows = read_noted now snapshot p.knows } in
    if-true (awaits_read p.knows.waited sequence) (accepted now points snapshot p) p waits
    ∙ if-true (is_active p.role) (led now points (leader_in snapshot) read) (waiting_no_more p) (ap is_active role)
    ∙ ap (λ (l : Option LeaderEntry). led now points l read) there
    ∙ if-true (leader.holder.number == p.knows.who.me.number) (own_key now points leader.revision p.role read)
    (others_key now leader.holder p.role read) mine
    ∙ ap (λ (r : RoleFacts). own_key now points leader.revision r read) role

pub renews : (now : Ticks) (points : List HistoryPoint) (sequence : ℕ) (snapshot : SnapshotFacts)
    (leader : LeaderEntry) (o : Outcome) → IsLeading o → awaits_read o.knows.waited sequence ≡ true
    → leader_in snapshot ≡ Some leader → leader.holder.number == o.knows.who.me.number ≡ true
    → AsksRenewal now snapshot leader.revision o (step now points (ReadAnswered sequence snapshot) o)
renews now points sequence snapshot leader o is waiting there mine =
    let p : Outcome = looked sequence snapshot o in
    let same : IsAsBefore o p = looked-at sequence snapshot o in
    let whole : step now points (ReadAnswered sequence snapshot) o
    ≡ renewing now points leader.revision (record p { knows = read_noted now snapshot p.knows }) =
    ap (λ (y : Outcome). read_answered now points sequence snapshot (looked sequence snapshot y))
    (leads-before now o is)
    ∙ read-renews now points sequence snapshot leader p is.revision (same.role ∙ is.role)
    (ap (λ (k : Knowledge). awaits_read k.waited sequence) same.knows ∙ waiting) there
    (ap (λ (k : Knowledge). leader.holder.number == k.who.me.number) same.knows ∙ mine) in
    subst (AsksRenewal now snapshot leader.revision o) (sym whole) (record {
      on = record { leads = ap is_leader (same.role ∙ is.role); server = ap (λ (m : Machine). m.server) same.machine };
      machine = same.machine;
      next = ap (λ (k : Knowledge). k.next_turn) same.knows;
      settings = ap (λ (k : Knowledge). settings_in k.settings snapshot) same.knows;
      operating = same.operating;
      failover = refl;
      waited = _;
      waits = refl;
      numbered = ap (λ (k : Knowledge). k.sequence + 1) same.knows;
      counted = ap (λ (k : Knowledge). k.sequence + 1) same.knows;
      asks = refl;
      until =
          ap (λ (k : Knowledge).
          seconds_after (turn_start now k.last_turn) (settings_in p.knows.settings snapshot).retry_timeout)
          same.knows;
      span = refl;
      sent = refl;
      info = _;
      status = _;
      row = _;
      listed = _;
      before = p;
      told = same.tells;
      outputs_are = refl;
    })

-- ---- others ask
pub answers-asked : (now : Ticks) (points : List HistoryPoint) (from : MemberId) (incarnation sequence : ℕ)
    (o : Outcome) → IsLeading o → AnswersAlone o (step now points (Asked from incarnation sequence) o)
answers-asked now points from incarnation sequence o is =
    let same : reconciled now o ≡ o = leads-before now o is in
    record {
      role = ap (λ (x : Outcome). x.role) same;
      knows = ap (λ (x : Outcome). x.knows) same;
      machine = ap (λ (x : Outcome). x.machine) same;
      answer = _;
      answers = tt;
      outputs_are =
          ap (λ (x : Outcome).
          with_output (outputs.Message (outgoing.Answer from incarnation sequence
          (peer_answer_of (reconciled now o).knows.who (reconciled now o).machine.server)))
          x.outputs)
          same;
    }

refusal-alone : (now : Ticks) (from : MemberId) (incarnation sequence : ℕ) (ttl : Ticks) (o : Outcome) (revision : ℕ)
    → o.role ≡ Leader revision → AnswersAlone o (failsafe_asked now from incarnation sequence ttl o)
refusal-alone now from incarnation sequence ttl o revision role =
    subst (AnswersAlone o)
    (sym (if-false (may_hold (shown now o) (awaits_lease o.knows.waited))
    (answering_failsafe from incarnation sequence true (holding_for now from sequence ttl o))
    (answering_failsafe from incarnation sequence false o)
    (ap (λ (r : RoleFacts). is_follower (word_of r) && not (awaits_lease o.knows.waited)) role)))
    (record {
      role = refl;
      knows = refl;
      machine = refl;
      answer = outputs.Message (outgoing.FailsafeAnswer from incarnation sequence false);
      answers = refl;
      outputs_are = refl;
    })

pub refuses : (now : Ticks) (points : List HistoryPoint) (from : MemberId) (incarnation sequence : ℕ) (ttl : Ticks)
    (o : Outcome) → IsLeading o → AnswersAlone o (step now points (FailsafeAsked from incarnation sequence ttl) o)
refuses now points from incarnation sequence ttl o is =
    subst (λ (x : Outcome). AnswersAlone o (failsafe_asked now from incarnation sequence ttl x))
    (sym (leads-before now o is)) (refusal-alone now from incarnation sequence ttl o is.revision is.role)

-- ---- its renewal is granted
second-true : (a b : Bool) → a && b ≡ true → b ≡ true
second-true true b e = e
second-true false b e = absurd (no-way e)

not-own : (asked own write : Bool) → own ≡ true → (asked && not own) && write ≡ false
not-own true true write e = refl
not-own false own write e = refl
not-own true false write e = absurd (no-way e)

own-grant : (sequence : ℕ) (grant : Granted) (knows : Knowledge) → IsAwaitedLease sequence grant knows
    → grants_operator sequence grant knows ≡ false
own-grant sequence grant knows awaited =
    not-own (is_asked_for knows.operating sequence) (awaits_number knows.waited sequence)
    (is_write_of knows.who.me grant)
    (ap (λ (w : Option PendingQuestion). awaits_number w sequence) awaited.is
    ∙ second-true (asks_lease awaited.waited.question) _ awaited.decision)

-- what a step of its plan leaves
record IsPlanned (now : Ticks) (y z : Outcome) : Type 0 where
  role : z.role ≡ y.role
  server : z.machine.server ≡ y.machine.server
  watchdog : z.machine.watchdog ≡ y.machine.watchdog
  next : z.knows.next_turn ≡ y.knows.next_turn
  settings : z.knows.settings ≡ y.knows.settings
  operating : z.knows.operating ≡ y.knows.operating
  syncs : ForSome z.knows.waited (λ waited. asks_sync waited.question ≡ true)
  steps : StepsOnce now y.knows.sequence y.outputs z

none-syncs : (waited : Option PendingQuestion) → waited ≡ None → ForSome waited (λ w. asks_sync w.question ≡ true)
none-syncs waited none w is = absurd (some-none w (sym is ∙ none))

same-some : {X : Type 0} (x y : X) → Some x ≡ Some y → x ≡ y
same-some x y e = cc

some-syncs : (waited : PendingQuestion) → asks_sync waited.question ≡ true
    → ForSome (Some waited) (λ w. asks_sync w.question ≡ true)
some-syncs waited asks w is = subst (λ (v : PendingQuestion). asks_sync v.question ≡ true) (same-some waited w is) asks

confirmed-steps : (now : Ticks) (snapshot : SnapshotFacts) (last : ℕ) (before : List Output) (z : Outcome)
    → StepsOnce now last before z → StepsOnce now last before (confirming snapshot z)
confirmed-steps now snapshot last before z (Stays none counted same) = Stays none counted same
confirmed-steps now snapshot last before z (Requires required none counted same) = Requires required none counted same
confirmed-steps now snapshot last before z (Writes waited settling txn some asks until numbered counted writes same) =
    Writes waited settling txn some asks until numbered counted writes same

stays : (now : Ticks) (y : Outcome) → y.knows.waited ≡ None → IsPlanned now y y
stays now y none = record {
  role = refl;
  server = refl;
  watchdog = refl;
  next = refl;
  settings = refl;
  operating = refl;
  syncs = none-syncs y.knows.waited none;
  steps = Stays none refl refl;
}

switched : (now : Ticks) (revision : ℕ) (read : Option SyncRead) (y : Outcome) → y.knows.waited ≡ None
    → IsPlanned now y (switching_off now revision read y)
switched now revision None y none = stays now y none
switched now revision (Some read) y none = record {
  role = refl;
  server = refl;
  watchdog = refl;
  next = refl;
  settings = refl;
  operating = refl;
  syncs = some-syncs _ refl;
  steps = Writes _ _ _ refl refl refl refl refl tt refl;
}

plan-kept : (now : Ticks) (revision : ℕ) (plan : Plan) (y : Outcome) → y.knows.waited ≡ None
    → IsPlanned now y (planned_as now revision plan y)
plan-kept now revision plans.Keep y none = stays now y none
plan-kept now revision plans.SwitchOff y none = switched now revision (sync_read_if y.knows.seen) y none
plan-kept now revision plans.Mark y none = record {
  role = refl;
  server = refl;
  watchdog = refl;
  next = refl;
  settings = refl;
  operating = refl;
  syncs = some-syncs _ refl;
  steps = Writes _ _ _ refl refl refl refl refl tt refl;
}
plan-kept now revision (plans.Withdraw standbys) y none = record {
  role = refl;
  server = refl;
  watchdog = refl;
  next = refl;
  settings = refl;
  operating = refl;
  syncs = some-syncs _ refl;
  steps = Writes _ _ _ refl refl refl refl refl tt refl;
}
plan-kept now revision (plans.AddRequired members) y none = record {
  role = refl;
  server = refl;
  watchdog = refl;
  next = refl;
  settings = refl;
  operating = refl;
  syncs = none-syncs y.knows.waited none;
  steps = Requires _ none refl refl;
}
plan-kept now revision (plans.Publish standbys) y none = record {
  role = refl;
  server = refl;
  watchdog = refl;
  next = refl;
  settings = refl;
  operating = refl;
  syncs = some-syncs _ refl;
  steps = Writes _ _ _ refl refl refl refl refl tt refl;
}
plan-kept now revision (plans.DropRequired members) y none = record {
  role = refl;
  server = refl;
  watchdog = refl;
  next = refl;
  settings = refl;
  operating = refl;
  syncs = none-syncs y.knows.waited none;
  steps = Requires _ none refl refl;
}

-- what is granted, before the step of its plan
abbrev renewed-with : Ticks → Ticks → ℕ → SnapshotFacts → Outcome → Outcome
renewed-with now ttl revision snapshot o =
    record (feeding now ttl (record o { knows = informed snapshot o.knows })) { role = Leader revision }

grant-plans : (now : Ticks) (sequence : ℕ) (grant : Granted) (snapshot : SnapshotFacts) (o : Outcome)
    → IsLeading o → (awaited : IsAwaitedLease sequence grant o.knows) → awaited.waited.question ≡ Renewing
    → is_paused (informed snapshot o.knows) ≡ false → comes_late now awaited.waited o.machine ≡ false
    → o.knows.turn_failover ≡ None
    → granted now sequence grant snapshot o
    ≡ confirming snapshot (planned now grant.revision (renewed-with now awaited.waited.ttl grant.revision snapshot o))
grant-plans now sequence grant snapshot o is awaited asks unpaused in_time none =
    let waited = awaited.waited in
    let told : Outcome = record o { knows = informed snapshot o.knows } in
    let y : Outcome = renewed-with now waited.ttl grant.revision snapshot o in
    ap (λ (w : Option PendingQuestion). granted_for now sequence grant snapshot w o) awaited.is
    ∙ if-true (is_decision waited sequence && is_lease_of o.knows.who.me grant)
    (accepted_grant now waited grant.revision snapshot o) (granted_write now sequence grant snapshot waited o)
    (both-true (is_decision waited sequence) (is_lease_of o.knows.who.me grant) awaited.decision awaited.mine)
    ∙ if-true (uses_lease (is_paused told.knows) waited.question o.role)
    (confirming snapshot (lease_used now waited grant.revision told)) (waiting_no_more o)
    (ap (λ (q : Question). uses_lease (is_paused told.knows) q o.role) asks
    ∙ ap (λ (r : RoleFacts). is_active r || (is_paused told.knows && asks_in_pause Renewing r)) is.role)
    ∙ ap (confirming snapshot)
    (if-false (is_paused told.knows) (granted_in_pause now (asks_renewal waited.question) grant.revision o.role told)
    (lease_heard now waited grant.revision told) unpaused
    ∙ if-false (comes_late now waited o.machine) (granted_late now grant.revision o.role told)
    (lease_granted now waited.ttl grant.revision o.role told) in_time
    ∙ ap (λ (r : RoleFacts). lease_granted now waited.ttl grant.revision r told) is.role
    ∙ if-false (is_start_too_long now y.knows y.machine.server.state) _ (duties now grant.revision y)
    (ap (λ (s : State). is_start_too_long now y.knows s) is.primary)
    ∙ ap (λ (f : Option FailoverKey). duty_on now grant.revision f y) none
    ∙ if-false (is_paused y.knows) y (planned now grant.revision y) unpaused)

pub renewed : (now : Ticks) (points : List HistoryPoint) (sequence : ℕ) (grant : Granted)
    (snapshot : SnapshotFacts) (o : Outcome) → IsLeading o → (awaited : IsAwaitedLease sequence grant o.knows)
    → awaited.waited.question ≡ Renewing → is_paused (informed snapshot o.knows) ≡ false
    → comes_late now awaited.waited o.machine ≡ false → o.knows.turn_failover ≡ None
    → IsRenewed now awaited.waited.ttl grant.revision snapshot o
    (step now points (HeardGranted sequence grant snapshot) o)
renewed now points sequence grant snapshot o is awaited asks unpaused in_time none =
    let y : Outcome = renewed-with now awaited.waited.ttl grant.revision snapshot o in
    let kept : IsPlanned now y (planned now grant.revision y) =
    plan-kept now grant.revision (plan_of (leader_view now y.knows y.machine) snapshot) y refl in
    let whole : step now points (HeardGranted sequence grant snapshot) o
    ≡ confirming snapshot (planned now grant.revision y) =
    ap (λ (x : Outcome). granted_any now sequence grant snapshot x) (leads-before now o is)
    ∙ if-false (grants_operator sequence grant o.knows) (operator_granted snapshot o.knows.operating o)
    (granted now sequence grant snapshot o) (own-grant sequence grant o.knows awaited)
    ∙ grant-plans now sequence grant snapshot o is awaited asks unpaused in_time none in
    subst (IsRenewed now awaited.waited.ttl grant.revision snapshot o) (sym whole) (record {
      role = kept.role;
      server = kept.server;
      watchdog = kept.watchdog;
      next = kept.next;
      settings = kept.settings;
      operating = kept.operating;
      syncs = kept.syncs;
      steps = confirmed-steps now snapshot y.knows.sequence y.outputs (planned now grant.revision y) kept.steps;
    })
