-- What an input tells: only a grant of the leader key that is waited for arms or feeds a watchdog by a grant,
-- and lets a member tell that the sync key doesn't name it; and only a read changes what its turn read of that.
use Rattle.std.proofs.Common.{◌≡◌, ◌+◌, ◌&&◌, ℕ, Bool, true, false, zero, suc, List, [], Option, None, Some, All, refl, sym, ap, ◌∙◌, inl, inr}
use Rattle.std.proofs.lemmas.List.Elements.{All-nil, All-push, All-weaker}
use Rattle.pat_base.specs.MemberId.{member_of}
use Rattle.pat_base.specs.declared.member_id.MemberId.{MemberId}
use Rattle.pat_base.specs.declared.member_id.TheConstants.{MOST_MEMBERS}
use Rattle.pat_base.specs.declared.peer_answer.PeerAnswer.{PeerAnswer}
use Rattle.pat_base.specs.declared.ticks.Ticks.{Ticks}
use Rattle.lease_store.specs.declared.granted.Granted.{Granted}
use Rattle.wal_model.specs.declared.entry.HistoryPoint.{HistoryPoint}
use Rattle.cluster_view.specs.Snapshots.{SnapshotFacts}
use Rattle.event_book.specs.declared.agent_note.AgentNote.TheVariants as agent_notes
use Rattle.event_book.specs.declared.message.Body.{Body}
use Rattle.event_book.specs.declared.message.Body.TheVariants as bodies
use Rattle.failsafe.specs.Asks.{has}
use Rattle.pat_base.specs.declared.member_set.MemberSet.{MemberSet}
use Rattle.store_keys.specs.declared.action.OperatorRequest.{OperatorRequest}
use Rattle.pg_model.specs.Running.{is_primary}
use Rattle.event_book.specs.declared.reason.Reason.TheVariants.{FailsafeNotAcknowledged, LeaderKeyLost, StartTooLong, StoreOutOfReach, WatchdogNotArmed}
use Rattle.agent_model.specs.declared.heard.Heard.{Heard}
use Rattle.agent_model.specs.declared.heard.Heard.TheVariants as heards
use Rattle.agent_model.specs.declared.knowledge.SyncRead.{SyncRead}
use Rattle.agent_model.specs.declared.why.Why.TheVariants.{HandOver, Lost}
use Rattle.agent_model.specs.declared.output.Output.{Output}
use Rattle.agent_model.specs.declared.output.Output.TheVariants as outputs
use Rattle.agent_model.specs.declared.output.Feeding.TheVariants as feedings
use Rattle.agent_model.specs.declared.output.Noting.TheVariants as notings
use Rattle.agent_model.specs.declared.output.Outgoing.TheVariants as outgoing
use Rattle.agent_model.specs.declared.output.ServerOrder.TheVariants as orders
use Rattle.agent_model.specs.declared.output.Telling.TheVariants as tellings
use Rattle.agent_model.specs.declared.output.Target.TheVariants as targets
use Rattle.agent_model.specs.declared.who.Who.{Who}
use Rattle.agent_model.specs.declared.why.Why.{Why}
use Rattle.agent_model.specs.Acting.{armed, arming, deadline_after, disarmed, fed_until, is_refusing, lease_span, requiring, touching, waiting_no_more}
use Rattle.agent_model.specs.Agents.{AgentFacts, Follower, Outcome, outcome_from}
use Rattle.agent_model.specs.Answers.{asking_first, asking_one, is_other}
use Rattle.agent_model.specs.Claiming.{begins, begins_or_claims, passing, postpones, told_passing}
use Rattle.agent_model.specs.Decisions.{arms, cannot_arm, confirming, gives_back, granted, is_decision, is_lease_of, may_take, takes_over, unleased_unarmed}
use Rattle.agent_model.specs.HandingOver.{asking_whom}
use Rattle.agent_model.specs.Operators.{given_up, learned, looked, operated, restarting, unnumbered, wiping}
use Rattle.agent_model.specs.Wake.{overdue, turned, woken}
use Rattle.agent_model.specs.Outputs.{with_output}
use Rattle.agent_model.specs.Pausing.{disabling_told, disabling_watchdog, is_wanted, may_start_behind}
use Rattle.agent_model.specs.Peers.{answered, asked, keeping}
use Rattle.agent_model.specs.Racing.{finds_free, judged, unheard}
use Rattle.agent_model.specs.Reconciling.{has_ended, reconciled}
use Rattle.agent_model.specs.Repairs.{repair_of}
use Rattle.agent_model.specs.Snapshots.{follow_row, follows, informed, led_by_another, read_answered, read_noted}
use Rattle.agent_model.specs.StayingPrimary.{counting, failsafe_answered, failsafe_asked, fed_by_failsafe, others_known, requesting_first, requesting_one, span_after}
use Rattle.agent_model.specs.Synchronous.{is_named_if, unnamed}
use Rattle.agent_model.specs.Table.{granted_any, refused_any, step}
use Rattle.agent_cases.proofs.Rows.{HandoverRows, ReplyRows, answered-by, before-by, follow-by, free-by, given-up-by, got-by, if-cases, judged-by, looked-by, operated-by, overdue-by, refused-any-by, refused-by, repaired-by, turn-by, wake-by}
use Rattle.agent_cases.proofs.FailsafeRows.{failsafe-answered-by, failsafe-asked-by}
use Rattle.agent_cases.proofs.Grants.{DutyRows, GrantRows, begins-or-claims-by, duties-of, granted-any-by, granted-by, judges-start-by, kept_on, leading_in_pause, led_on, renewed-by}
use Rattle.agent_commit_law.proofs.CommitIdling.{Idle, TurnsOn, answered-idle, any-refused-idle, asked-idle, before-idle, got-idle, looked-idle, operated-idle, stay-answered-idle, stay-asked-idle, wake-idle}
use Rattle.agent_roles.proofs.Granting.{both-true}
use Rattle.agent_roles.proofs.Knowing.{before-onward}
use Rattle.lease_model.proofs.Tools.{none-some}
use Rattle.agent_model.specs.declared.machine.Machine.{Machine}

-- what no member tells another: that a request was granted
abbrev pub IsInquiry : Body → Type 0
IsInquiry (bodies.Granted request leased) = ⊥
IsInquiry _ = Unit {0}

-- U holds where the member tells that the sync key doesn't name it, and F where its watchdog is armed or fed by a grant
abbrev pub TellsOnly : Type 0 → Type 0 → Output → Type 0
TellsOnly U F (outputs.Tell tellings.ClaimsOutsideSync) = U
TellsOnly U F (outputs.Watchdog (feedings.Armed until)) = F
TellsOnly U F (outputs.Watchdog (feedings.Fed until)) = F
TellsOnly U F (outputs.Message (outgoing.Send to sequence body)) = IsInquiry body
TellsOnly U F _ = Unit {0}

module _ (U F : Type 0) where
  abbrev Only : Output → Type 0
  Only output = TellsOnly U F output

  abbrev Fine : Outcome → Type 0
  Fine x = All Only x.outputs

  more : (outs : List Output) (output : Output) → All Only outs → Only output → All Only (with_output output outs)
  more outs output all is = All-push Only outs output all is

  -- ---- lists of outputs
  fine-disarmed : (deadline : Option Ticks) (outs : List Output) → All Only outs → All Only (disarmed deadline outs)
  fine-disarmed None outs all = all
  fine-disarmed (Some until) outs all = more outs (outputs.Watchdog feedings.Disarmed) all tt

  fine-ask : (who : Who) (sequence : ℕ) (member : Option MemberId) (outs : List Output) → All Only outs
      → All Only (asking_one who sequence member outs)
  fine-ask who sequence None outs all = all
  fine-ask who sequence (Some member) outs all = if-cases (All Only) (is_other who member)
      (with_output (outputs.Message (outgoing.Send (targets.Member member) sequence bodies.Ask)) outs) outs
      (λ _. more outs (outputs.Message (outgoing.Send (targets.Member member) sequence bodies.Ask)) all tt) (λ _. all)

  fine-asks : (who : Who) (sequence count : ℕ) (outs : List Output) → All Only outs
      → All Only (asking_first who sequence count outs)
  fine-asks who sequence zero outs all = all
  fine-asks who sequence (suc count) outs all =
      fine-ask who sequence (member_of count) (asking_first who sequence count outs)
      (fine-asks who sequence count outs all)

  fine-whom : (who : Who) (candidate : Option MemberId) (sequence : ℕ) (outs : List Output) → All Only outs
      → All Only (asking_whom who candidate sequence outs)
  fine-whom who None sequence outs all = fine-asks who sequence MOST_MEMBERS outs all
  fine-whom who (Some candidate) sequence outs all = fine-ask who sequence (Some candidate) outs all

  fine-failsafe : (deadline : Option Ticks) (members : _) (sequence : ℕ) (since : Ticks) (outs : List Output)
      → All Only outs → All Only (fed_by_failsafe deadline members sequence since outs)
  fine-failsafe None members sequence since outs all = all
  fine-failsafe (Some until) members sequence since outs all =
      more outs (outputs.Watchdog (feedings.FedByFailsafe until members sequence since)) all tt

  -- ---- what comes before an input
  fine-ended : (why : Why) (held : ℕ) (o : Outcome) → Fine o → Fine (has_ended why held o)
  fine-ended HandOver held o all = more (disarmed o.machine.watchdog.deadline o.outputs) _
      (fine-disarmed o.machine.watchdog.deadline o.outputs all) tt
  fine-ended Lost held o all = fine-disarmed o.machine.watchdog.deadline o.outputs all

  fine-before : (now : Ticks) (o : Outcome) → Fine o → Fine (reconciled now o)
  fine-before now o all = before-by Fine now o (record {
    kept = λ _. all;
    leader = λ _ _ _. fine-disarmed o.machine.watchdog.deadline o.outputs all;
    ending = λ held why _ _. fine-ended why held o all;
    follower = λ _ _. all;
    holder = λ _ _ _. all;
    ready = λ _ _ _. fine-disarmed o.machine.watchdog.deadline o.outputs all;
    unleased = λ _ _. fine-disarmed o.machine.watchdog.deadline o.outputs all;
  })

  fine-replies : (o : Outcome) → Fine o → ReplyRows Fine o
  fine-replies o all =
      record { kept = all; answers = λ request told. more o.outputs (outputs.Tell (tellings.Told request told)) all tt }

  fine-judged : (now : Ticks) (o : Outcome) → Fine o → Fine (judged now o)
  fine-judged now o all = judged-by Fine now o (more o.outputs _ all tt)
      (λ bar. more (with_output (outputs.Note (notings.Agent (agent_notes.DoesNotRace bar))) o.outputs) _
      (more o.outputs (outputs.Note (notings.Agent (agent_notes.DoesNotRace bar))) all tt) tt)

  fine-handover : (now : Ticks) (held : ℕ) (o : Outcome) → Fine o → HandoverRows Fine now held o
  fine-handover now held o all = record {
    kept = all;
    clears = λ compared. more o.outputs _ all tt;
    hands = λ candidate. more (with_output (outputs.Note (notings.Agent (agent_notes.HandsOver candidate))) o.outputs)
        (outputs.Server orders.ShutDown)
        (more o.outputs (outputs.Note (notings.Agent (agent_notes.HandsOver candidate))) all tt) tt;
  }

  -- ---- a read
  fine-follows : (now : Ticks) (leader : MemberId) (o : Outcome) → Fine o → Fine (follows now leader o)
  fine-follows now leader o all = let x : Outcome = led_by_another o in
      let row : Outcome = follow_row (may_start_behind o.knows) now leader o.machine.server.state x in
      let first : Fine row = follow-by Fine (may_start_behind o.knows) now leader o.machine.server.state x all
      (more o.outputs (outputs.Server (orders.StartReplica (Some leader))) all tt)
      (more o.outputs (outputs.Server (orders.Follow leader)) all tt)
      (more o.outputs (outputs.Server orders.ShutDown) all tt) in
      let told : Fine (touching row) = more row.outputs _ first tt in
      repaired-by Fine leader (repair_of o.knows.settings leader o.machine.server) (touching row) told
      (λ r. more (touching row).outputs (outputs.Server (orders.Repair leader r)) told tt)

  fine-free : (now : Ticks) (o : Outcome) → Fine o → Fine (finds_free now o)
  fine-free now o all = free-by Fine now (record o { role = Follower }) (record {
    starts = more (with_output (outputs.Server (orders.StartReplica None)) o.outputs) _
        (more o.outputs (outputs.Server (orders.StartReplica None)) all tt) tt;
    touches = more o.outputs _ all tt;
    bars = λ bar. more (with_output (outputs.Note (notings.Agent (agent_notes.DoesNotRace bar))) o.outputs) _
        (more o.outputs (outputs.Note (notings.Agent (agent_notes.DoesNotRace bar))) all tt) tt;
    judges = fine-judged now (unheard (record o { role = Follower })) all;
    asks = fine-asks o.knows.who (o.knows.sequence + 1) MOST_MEMBERS o.outputs all;
  })

  fine-got : (now : Ticks) (points : List HistoryPoint) (sequence : ℕ) (snapshot : SnapshotFacts) (o : Outcome)
      → Fine o → Fine (read_answered now points sequence snapshot o)
  fine-got now points sequence snapshot o all =
      let read : Outcome = record o { knows = read_noted now snapshot o.knows } in
      got-by Fine now points sequence snapshot o (record {
        kept = all;
        quiet = all;
        other = all;
        leader = λ held _. more o.outputs (outputs.Server (orders.Stop LeaderKeyLost)) all tt;
        unleased = λ _. more o.outputs (outputs.Server (orders.Stop LeaderKeyLost)) all tt;
        renews = λ _ leader _ _. more o.outputs _ all tt;
        touches = more o.outputs _ all tt;
        follows = λ leader _ _. fine-follows now leader.holder read all;
        free = λ _ _. fine-free now read all;
        runs_on = λ _. more o.outputs (outputs.Note (notings.Agent agent_notes.RunsWithoutKey)) all tt;
        asks_on = λ _. more (with_output (outputs.Note (notings.Agent agent_notes.RunsWithoutKey)) o.outputs) _
            (more o.outputs (outputs.Note (notings.Agent agent_notes.RunsWithoutKey)) all tt) tt;
      })

  -- ---- refusals, and what other members ask and answer
  fine-postpones : (deadline : Option Ticks) (outs : List Output) → All Only outs
      → All Only (with_output (outputs.Note (notings.Agent agent_notes.PostponesPromotion)) (disarmed deadline outs))
  fine-postpones deadline outs all =
      more (disarmed deadline outs) (outputs.Note (notings.Agent agent_notes.PostponesPromotion))
      (fine-disarmed deadline outs all) tt

  fine-refused : (now : Ticks) (sequence : ℕ) (o : Outcome) → Fine o → Fine (refused_any now sequence o)
  fine-refused now sequence o all = refused-any-by Fine now sequence o (fine-replies o all)
      (refused-by Fine now sequence o (record {
        kept = all;
        quiet = all;
        leader = λ held _. more o.outputs (outputs.Server (orders.Stop LeaderKeyLost)) all tt;
        unleased = λ _. more o.outputs (outputs.Server (orders.Stop LeaderKeyLost)) all tt;
        follower = λ held _. all;
        ready = λ held _. fine-postpones o.machine.watchdog.deadline o.outputs all;
        runs_on = λ _. more o.outputs (outputs.Note (notings.Agent agent_notes.RunsWithoutKey)) all tt;
      }))

  fine-answered : (now : Ticks) (sequence : ℕ) (answer : PeerAnswer) (o : Outcome) → Fine o
      → Fine (answered now sequence answer o)
  fine-answered now sequence answer o all = answered-by Fine now sequence answer o (record {
    kept = all;
    quiet = all;
    keeps = all;
    judges = λ _. fine-judged now (keeping answer o) all;
    checks = λ held _. fine-handover now held (keeping answer o) all;
  })

  fine-stay-answered : (now : Ticks) (from : MemberId) (sequence : ℕ) (accepted : Bool) (sent : Ticks) (o : Outcome)
      → Fine o → Fine (failsafe_answered now from sequence accepted sent o)
  fine-stay-answered now from sequence accepted sent o all =
      failsafe-answered-by Fine now from sequence accepted sent o (record {
        kept = all;
        quiet = all;
        counts = λ _ _. all;
        counts_late = λ _ _ _. all;
        stays = λ _ _ waited _ _ since _ _. more _ (outputs.Note notings.StaysByFailsafe)
            (fine-failsafe (deadline_after now waited.ttl o.machine.watchdog)
            (counting from sent o).knows.failsafe.members waited.sequence since o.outputs all) tt;
        fails = λ held _ _. more o.outputs (outputs.Server (orders.Stop FailsafeNotAcknowledged)) all tt;
      })

  fine-stay-asked : (now : Ticks) (from : MemberId) (incarnation sequence : ℕ) (ttl : Ticks) (o : Outcome) → Fine o
      → Fine (failsafe_asked now from incarnation sequence ttl o)
  fine-stay-asked now from incarnation sequence ttl o all = failsafe-asked-by Fine now from incarnation sequence ttl o
      (λ _. more _ (outputs.Message (outgoing.FailsafeAnswer from incarnation sequence true))
      (more o.outputs (outputs.Tell (tellings.HoldTaken _ from sequence)) all tt) tt)
      (more o.outputs (outputs.Message (outgoing.FailsafeAnswer from incarnation sequence false)) all tt)

  -- ---- a wake, and what an operator asks
  fine-request : (members : MemberSet) (sequence : ℕ) (ttl : Ticks) (member : Option MemberId) (outs : List Output)
      → All Only outs → All Only (requesting_one members sequence ttl member outs)
  fine-request members sequence ttl None outs all = all
  fine-request members sequence ttl (Some member) outs all = if-cases (All Only) (has members member.number)
      (with_output (outputs.Message (outgoing.Send (targets.Member member) sequence (bodies.FailsafeRequest ttl))) outs)
      outs
      (λ _.
      more outs (outputs.Message (outgoing.Send (targets.Member member) sequence (bodies.FailsafeRequest ttl))) all tt)
      (λ _. all)

  fine-requests : (members : MemberSet) (sequence : ℕ) (ttl : Ticks) (count : ℕ) (outs : List Output) → All Only outs
      → All Only (requesting_first members sequence ttl count outs)
  fine-requests members sequence ttl zero outs all = all
  fine-requests members sequence ttl (suc count) outs all =
      fine-request members sequence ttl (member_of count) (requesting_first members sequence ttl count outs)
      (fine-requests members sequence ttl count outs all)

  fine-overdue : (now : Ticks) (o : Outcome) → Fine o → Fine (overdue now o)
  fine-overdue now o all = overdue-by Fine now o (record {
    kept = all;
    quiet = all;
    leader = λ held _. more o.outputs (outputs.Server (orders.Stop StoreOutOfReach)) all tt;
    seeks = λ held _. fine-requests (others_known o.knows) (o.knows.sequence + 1)
        (lease_span o.knows.settings) MOST_MEMBERS o.outputs all;
    alone = λ held _. more _ (outputs.Note notings.StaysByFailsafe)
        (fine-failsafe (deadline_after now (lease_span o.knows.settings) o.machine.watchdog)
        (others_known o.knows) o.knows.sequence now o.outputs all) tt;
    silent = λ held _. more o.outputs (outputs.Server (orders.Stop FailsafeNotAcknowledged)) all tt;
    unleased = λ _. more o.outputs (outputs.Server (orders.Stop StoreOutOfReach)) all tt;
    judges = λ _. fine-judged now o all;
    ready = λ held _. fine-postpones o.machine.watchdog.deadline o.outputs all;
    checks = λ held _. fine-handover now held o all;
  })

  fine-turned : (now : Ticks) (o : Outcome) → Fine o → Fine (turned now o)
  fine-turned now o all = turn-by Fine now o (record {
    kept = all;
    quiet = all;
    reads =
        λ _. more o.outputs (outputs.Message (outgoing.Send targets.Store (o.knows.sequence + 1) bodies.Read)) all tt;
  })

  fine-woken : (now : Ticks) (o : Outcome) → Fine (reconciled now o) → Fine (woken now o)
  fine-woken now o all = let b : Outcome = reconciled now o in
      let given : Fine (given_up now b) = given-up-by Fine now b (fine-replies b all) in
      wake-by Fine now o all
      (fine-turned now (overdue now (given_up now b)) (fine-overdue now (given_up now b) given))

  fine-operated : (now : Ticks) (request : ℕ) (asked : OperatorRequest) (o : Outcome) → Fine o
      → Fine (operated now request asked o)
  fine-operated now request asked o all = operated-by Fine now request asked o (record {
    asks = λ operation txn is.
        more o.outputs
        (outputs.Message (outgoing.Send targets.Store (o.knows.sequence + 1) (bodies.Request txn))) all tt;
    restarts = λ told. more (restarting now o).outputs (outputs.Tell (tellings.Told request told))
        (more o.outputs (outputs.Server (orders.Restart (is_primary o.machine.server.state))) all tt) tt;
    wipes = λ told. more (wiping o).outputs (outputs.Tell (tellings.Told request told))
        (more o.outputs (outputs.Server orders.Wipe) all tt) tt;
    holds = λ ttl told _. more _ (outputs.Tell (tellings.Told request told))
        (more o.outputs (outputs.Tell (tellings.HoldTaken (span_after now ttl) o.knows.who.me unnumbered)) all tt) tt;
    refuses = λ told. more o.outputs (outputs.Tell (tellings.Told request told)) all tt;
  })

-- ---- a grant
-- what its turn read of the sync key stays, and so does who it is
record Goes (U F : Type 0) (b x : Outcome) : Type 0 where
  outs : All (TellsOnly U F) x.outputs
  turn : x.knows.turn_sync ≡ b.knows.turn_sync
  who : x.knows.who ≡ b.knows.who

module _ (U F : Type 0) (now : Ticks) (sequence : ℕ) (grant : Granted) (snapshot : SnapshotFacts) (b : Outcome)
    (all : All (TellsOnly U F) b.outputs) where
  abbrev Row : Outcome → Type 0
  Row x = Goes U F b x

  abbrev Told : Outcome
  Told = record b { knows = informed snapshot b.knows }

  goes : (x : Outcome) → All (TellsOnly U F) x.outputs → x.knows.turn_sync ≡ b.knows.turn_sync
      → x.knows.who ≡ b.knows.who → Row x
  goes x outs turn who = record { outs = outs; turn = turn; who = who }

  onto : (x : Outcome) (output : Output) → Row x → TellsOnly U F output
      → All (TellsOnly U F) (with_output output x.outputs)
  onto x output row is = more U F x.outputs output row.outs is

  duty-rows : (revision : ℕ) (led : Outcome) → Row led → DutyRows Row now revision led
  duty-rows revision led row = record {
    plan = record {
      kept = row;
      writes = λ settling txn _. goes _ (onto led _ row tt) row.turn row.who;
      adds = λ required. goes _ (onto led (outputs.Require required) row tt) row.turn row.who;
      drops = λ required. goes _ (onto led (outputs.Require required) row tt) row.turn row.who;
    };
    clears = λ compared. goes _ (onto led _ row tt) row.turn row.who;
    asks = λ candidate. goes _
        (fine-whom U F led.knows.who candidate (led.knows.sequence + 1) led.outputs row.outs) row.turn row.who;
    judges = record {
      kept = goes _ row.outs row.turn row.who;
      clears = λ compared. goes _ (onto led _ row tt) row.turn row.who;
      hands = λ candidate. goes _
          (more U F (with_output (outputs.Note (notings.Agent (agent_notes.HandsOver candidate))) led.outputs)
          (outputs.Server orders.ShutDown)
          (onto led (outputs.Note (notings.Agent (agent_notes.HandsOver candidate))) row tt) tt)
          row.turn row.who;
    };
  }

  fed-outs : (deadline : Option Ticks) → F → All (TellsOnly U F) (fed_until deadline b.outputs)
  fed-outs None is = all
  fed-outs (Some until) is = more U F b.outputs (outputs.Watchdog (feedings.Fed until)) all is

  armed-outs : (deadline : Option Ticks) → F → All (TellsOnly U F) (armed deadline b.outputs)
  armed-outs None is = all
  armed-outs (Some until) is = more U F b.outputs (outputs.Watchdog (feedings.Armed until)) all is

  disabled-outs : (renews : Bool) (deadline : Option Ticks)
      → All (TellsOnly U F) (disabling_told renews deadline b.outputs)
  disabled-outs renews None = all
  disabled-outs true (Some until) =
      more U F (with_output (outputs.Watchdog feedings.Disarmed) b.outputs)
      (outputs.Note (notings.Agent agent_notes.DisablesWatchdog))
      (more U F b.outputs (outputs.Watchdog feedings.Disarmed) all tt) tt
  disabled-outs false (Some until) = more U F b.outputs (outputs.Watchdog feedings.Disarmed) all tt

  module _ (passes : is_named_if b.knows.who.me b.knows.turn_sync ≡ false → U) (feeds : F) where
    passed : (named : Bool) → (named ≡ false → U) → (outs : List Output) → All (TellsOnly U F) outs
        → All (TellsOnly U F) (told_passing named outs)
    passed true is outs told = told
    passed false is outs told = more U F outs (outputs.Tell tellings.ClaimsOutsideSync) told (is refl)

    -- the member takes the leader key
    begins-row : (revision : ℕ) (x : Outcome) → Row x → Row (begins_or_claims now revision x)
    begins-row revision x row = begins-or-claims-by Row now revision x
        (goes _
        (more U F (with_output (outputs.Require (unnamed x.knows.turn_settings)) x.outputs)
        (outputs.Server orders.Begin)
        (onto x (outputs.Require (unnamed x.knows.turn_settings)) row tt) tt) row.turn row.who)
        (goes _ (more U F (passing x).outputs _
        (passed (is_named_if x.knows.who.me x.knows.turn_sync)
        (λ unnamed. passes (sym (ap (λ (w : Who). is_named_if w.me x.knows.turn_sync) row.who
        ∙ ap (λ (read : Option SyncRead). is_named_if b.knows.who.me read) row.turn) ∙ unnamed)) x.outputs row.outs) tt)
        row.turn row.who)

    back-row : (revision : ℕ) (x : Outcome) → Row x → Row (gives_back revision x)
    back-row revision x row = goes (gives_back revision x) (onto x _ row tt) row.turn row.who

    told-row : Row Told
    told-row = goes Told all refl refl

    cannot-row : (revision : ℕ) → Row (cannot_arm revision Told)
    cannot-row revision = goes (cannot_arm revision Told)
        (more U F (with_output (outputs.Note (notings.Agent agent_notes.CannotArm)) b.outputs) _
        (more U F b.outputs (outputs.Note (notings.Agent agent_notes.CannotArm)) all tt) tt) refl refl

    armed-row : (ttl : Ticks) → Row (arming now ttl Told)
    armed-row ttl =
        goes (arming now ttl Told) (armed-outs (deadline_after now ttl b.machine.watchdog) feeds) refl refl

    rested-row : (renews : Bool) → Row (disabling_watchdog renews Told)
    rested-row renews =
        goes (disabling_watchdog renews Told) (disabled-outs renews b.machine.watchdog.deadline) refl refl

    -- a lease of the leader key that is waited for
    lease-rows : (ttl : Ticks) → GrantRows Row now ttl grant.revision Told
    lease-rows ttl = record {
      other = told-row;
      leader = λ held _. let led : Outcome = led_on now ttl grant.revision Told in
          let row : Row led =
          goes led (fed-outs (deadline_after now ttl b.machine.watchdog) feeds) refl refl in
          renewed-by Row now ttl grant.revision Told
          (goes _ (onto led (outputs.Server (orders.Stop StartTooLong)) row tt) refl refl)
          (duty-rows grant.revision led row);
      unleased = λ _. if-cases Row (is_refusing b.machine.watchdog.mode b.machine.watchdog.works)
          (unleased_unarmed now Told) (takes_over now grant.revision (arming now ttl Told))
          (λ _. goes _ (onto Told (outputs.Server (orders.Stop WatchdogNotArmed)) told-row tt) refl refl)
          (λ _. goes _ (armed-row ttl).outs refl refl);
      takes = λ _. if-cases Row (may_take now Told.knows b.machine) (arms now ttl grant.revision Told)
          (gives_back grant.revision Told)
          (λ _. if-cases Row (is_refusing b.machine.watchdog.mode b.machine.watchdog.works)
          (cannot_arm grant.revision Told) (begins_or_claims now grant.revision (arming now ttl Told))
          (λ _. cannot-row grant.revision) (λ _. begins-row grant.revision (arming now ttl Told) (armed-row ttl)))
          (λ _. back-row grant.revision Told told-row);
      keeps_late = λ held _. let kept : Outcome = kept_on grant.revision Told in
          let row : Row kept = goes kept all refl refl in
          judges-start-by Row now grant.revision kept
          (goes _ (onto kept (outputs.Server (orders.Stop StartTooLong)) row tt) refl refl)
          (duty-rows grant.revision kept row);
      ends_late = λ _. goes _ (onto Told (outputs.Server (orders.Stop WatchdogNotArmed)) told-row tt) refl refl;
      refuses_late = λ _. cannot-row grant.revision;
      returns_late = λ _. back-row grant.revision Told told-row;
      leads_in_pause = λ renews _ held _. let led : Outcome = leading_in_pause renews grant.revision Told in
          duties-of Row now grant.revision led (duty-rows grant.revision led
          (goes led (rested-row renews).outs refl refl));
      unleased_in_pause = λ renews _ _. goes _ (rested-row renews).outs refl refl;
      takes_in_pause = λ renews _ _. let rest : Outcome = disabling_watchdog renews Told in
          if-cases Row
          (is_wanted b.knows.who.me b.knows.turn_failover b.machine.server.state && may_take now Told.knows b.machine)
          (begins_or_claims now grant.revision rest) (gives_back grant.revision Told)
          (λ _. begins-row grant.revision rest (rested-row renews)) (λ _. back-row grant.revision Told told-row);
    }

-- what lets a watchdog be fed by a grant: it is one of the leader key, to this member
module _ (U : Type 0) (now : Ticks) (sequence : ℕ) (grant : Granted) (snapshot : SnapshotFacts) (b : Outcome)
    (all : All (TellsOnly U (is_lease_of b.knows.who.me grant ≡ true)) b.outputs)
    (passes : is_named_if b.knows.who.me b.knows.turn_sync ≡ false → U) where
  abbrev Mine : Type 0
  Mine = is_lease_of b.knows.who.me grant ≡ true

  abbrev Seen : Outcome
  Seen = record b { knows = informed snapshot b.knows }

  abbrev Does : Outcome → Type 0
  Does x = Goes U Mine b x

  does : (x : Outcome) → All (TellsOnly U Mine) x.outputs → x.knows.turn_sync ≡ b.knows.turn_sync
      → x.knows.who ≡ b.knows.who → Does x
  does x outs turn who = record { outs = outs; turn = turn; who = who }

  own-does : Does (granted now sequence grant snapshot b)
  own-does = granted-by Does now sequence grant snapshot b (does b all refl refl)
      (does (waiting_no_more b) all refl refl)
      (λ asked waits decision. lease-rows U Mine now sequence grant snapshot b all passes
      (both-true (is_decision asked sequence) (is_lease_of b.knows.who.me grant) decision).1 asked.ttl)
      (λ after old. does (confirming snapshot after) old.outs old.turn old.who)
      (record {
        other = does Seen all refl refl;
        begins = λ revision _. does (begins now revision Seen)
            (more U Mine (with_output (outputs.Require (unnamed b.knows.turn_settings)) b.outputs)
            (outputs.Server orders.Begin)
            (more U Mine b.outputs (outputs.Require (unnamed b.knows.turn_settings)) all tt) tt) refl refl;
        postpones = λ revision _. does (postpones revision Seen)
            (fine-postpones U Mine b.machine.watchdog.deadline b.outputs all) refl refl;
        settles = λ required _. does (requiring required Seen)
            (more U Mine b.outputs (outputs.Require required) all tt) refl refl;
      })

  grant-does : Does (granted_any now sequence grant snapshot b)
  grant-does = granted-any-by Does now sequence grant snapshot b (does b all refl refl) (record {
    kept = does (learned snapshot b) all refl refl;
    answers =
        λ request told. does _ (more U Mine b.outputs (outputs.Tell (tellings.Told request told)) all tt) refl refl;
  }) own-does

-- ---- a whole input
-- what a read tells
abbrev pub told_by : Heard → Option SnapshotFacts
told_by (heards.ReadAnswered sequence snapshot) = Some snapshot
told_by _ = None

-- a grant of the leader key to this member is heard
abbrev pub HearsLease : MemberId → Heard → Type 0
HearsLease me (heards.Granted sequence grant snapshot) = is_lease_of me grant ≡ true
HearsLease me _ = ⊥

-- what its turn read of the sync key doesn't name it
abbrev pub IsOutside : Outcome → Type 0
IsOutside x = is_named_if x.knows.who.me x.knows.turn_sync ≡ false

-- what is told of this input
pub record IsTold (heard : Heard) (o x : Outcome) : Type 0 where
  pub outs : All (TellsOnly (IsOutside x) (HearsLease o.knows.who.me heard)) x.outputs
  pub turn : TurnsOn (told_by heard) o x

turned-on : (told : Option SnapshotFacts) (o b x : Outcome) → Idle None o b → TurnsOn told b x → TurnsOn told o x
turned-on told o b x idle (inr read) = inr read
turned-on told o b x idle (inl same) = elim idle.turn [
  | inl before ↦ inl (same ∙ before)
  | inr read ↦ absurd (none-some read.0 read.1)
]

module _ (now : Ticks) (points : List HistoryPoint) (agent : AgentFacts) (machine : Machine) where
  abbrev Standing : Outcome
  Standing = outcome_from agent.role agent.knows machine []

  abbrev Behind : Outcome
  Behind = reconciled now Standing

  abbrev After : Heard → Outcome
  After heard = step now points heard Standing

  fine : (U F : Type 0) → All (TellsOnly U F) Behind.outputs
  fine U F = fine-before U F now Standing (All-nil (TellsOnly U F))

  -- an input without a grant
  idle-told : (heard : Heard)
      → All (TellsOnly (IsOutside (After heard)) (HearsLease agent.knows.who.me heard)) (After heard).outputs
      → Idle (told_by heard) Behind (After heard) → IsTold heard Standing (After heard)
  idle-told heard outs idle = record {
    outs = outs;
    turn = turned-on (told_by heard) Standing Behind (After heard) (before-idle None now Standing) idle.turn;
  }

  before-who : Behind.knows.who ≡ agent.knows.who
  before-who = (before-onward None now Standing).who

  before-turn : Behind.knows.turn_sync ≡ agent.knows.turn_sync
  before-turn =
      elim (before-idle None now Standing).turn [ inl same ↦ same | inr read ↦ absurd (none-some read.0 read.1) ]

  granted-told : (sequence : ℕ) (grant : Granted) (snapshot : SnapshotFacts)
      → IsTold (heards.Granted sequence grant snapshot) Standing (After (heards.Granted sequence grant snapshot))
  granted-told sequence grant snapshot =
      let heard : Heard = heards.Granted sequence grant snapshot in
      let x : Outcome = After heard in
      let U : Type 0 = IsOutside Behind in
      let does = grant-does U now sequence grant snapshot Behind
      (fine U (is_lease_of Behind.knows.who.me grant ≡ true)) (λ outside. outside) in
      record {
        outs = All-weaker (TellsOnly U (is_lease_of Behind.knows.who.me grant ≡ true))
            (TellsOnly (IsOutside x) (HearsLease agent.knows.who.me heard))
            (weaker U (IsOutside x) (is_lease_of Behind.knows.who.me grant ≡ true) (HearsLease agent.knows.who.me heard)
            (λ outside. ap (λ (w : Who). is_named_if w.me x.knows.turn_sync) does.who
            ∙ ap (λ (read : Option SyncRead). is_named_if Behind.knows.who.me read) does.turn ∙ outside)
            (λ mine. sym (ap (λ (w : Who). is_lease_of w.me grant) before-who) ∙ mine))
            x.outputs does.outs;
        turn = inl (does.turn ∙ before-turn);
      }
    where
      weaker : (U V F G : Type 0) → (U → V) → (F → G) → (output : Output) → TellsOnly U F output → TellsOnly V G output
      weaker U V F G first second (outputs.Tell tellings.ClaimsOutsideSync) is = first is
      weaker U V F G first second (outputs.Watchdog (feedings.Armed until)) is = second is
      weaker U V F G first second (outputs.Watchdog (feedings.Fed until)) is = second is
      weaker U V F G first second (outputs.Message (outgoing.Send to sequence body)) is = is
      weaker U V F G first second _ is = is

  -- what an input tells
  pub step-told : (heard : Heard) → IsTold heard Standing (After heard)
  step-told heards.Wake =
      let idle : Idle None Behind (After heards.Wake) = wake-idle None now Standing in
      let U : Type 0 = IsOutside (After heards.Wake) in
      idle-told heards.Wake (fine-woken U ⊥ now Standing (fine U ⊥)) idle
  step-told (heards.ReadAnswered sequence snapshot) =
      let heard : Heard = heards.ReadAnswered sequence snapshot in
      let looks : Outcome = looked sequence snapshot Behind in
      let U : Type 0 = IsOutside (After heard) in
      let looks-fine : All (TellsOnly U ⊥) looks.outputs =
      looked-by (λ (y : Outcome). All (TellsOnly U ⊥) y.outputs) sequence snapshot Behind
      (fine-replies U ⊥ Behind (fine U ⊥)) in
      record {
        outs = fine-got U ⊥ now points sequence snapshot looks looks-fine;
        turn = turned-on (Some snapshot) Standing Behind (After heard) (before-idle None now Standing)
            (turns-both (Some snapshot) Behind looks (After heard)
            (looked-idle (Some snapshot) sequence snapshot Behind).turn
            (got-idle now points sequence snapshot looks).turn);
      }
    where
      turns-both : (told : Option SnapshotFacts) (a b c : Outcome) → TurnsOn told a b → TurnsOn told b c
          → TurnsOn told a c
      turns-both told a b c first (inr read) = inr read
      turns-both told a b c (inl before) (inl same) = inl (same ∙ before)
      turns-both told a b c (inr read) (inl same) = inr (read.0, read.1, same ∙ read.2)
  step-told (heards.Granted sequence grant snapshot) = granted-told sequence grant snapshot
  step-told (heards.Mismatch sequence key found) =
      let heard : Heard = heards.Mismatch sequence key found in
      let U : Type 0 = IsOutside (After heard) in
      idle-told heard (fine-refused U ⊥ now sequence Behind (fine U ⊥)) (any-refused-idle None now sequence Behind)
  step-told (heards.Asked from incarnation sequence) =
      let heard : Heard = heards.Asked from incarnation sequence in
      let U : Type 0 = IsOutside (After heard) in
      idle-told heard (more U ⊥ Behind.outputs _ (fine U ⊥) tt) (asked-idle None from incarnation sequence Behind)
  step-told (heards.Answered sequence answer) =
      let heard : Heard = heards.Answered sequence answer in
      let U : Type 0 = IsOutside (After heard) in
      idle-told heard (fine-answered U ⊥ now sequence answer Behind (fine U ⊥))
      (answered-idle None now sequence answer Behind)
  step-told (heards.FailsafeAsked from incarnation sequence ttl) =
      let heard : Heard = heards.FailsafeAsked from incarnation sequence ttl in
      let U : Type 0 = IsOutside (After heard) in
      idle-told heard (fine-stay-asked U ⊥ now from incarnation sequence ttl Behind (fine U ⊥))
      (stay-asked-idle None now from incarnation sequence ttl Behind)
  step-told (heards.FailsafeAnswered from sequence accepted sent) =
      let heard : Heard = heards.FailsafeAnswered from sequence accepted sent in
      let U : Type 0 = IsOutside (After heard) in
      idle-told heard (fine-stay-answered U ⊥ now from sequence accepted sent Behind (fine U ⊥))
      (stay-answered-idle None now from sequence accepted sent Behind)
  step-told (heards.Operated action) =
      let heard : Heard = heards.Operated action in
      let idle : Idle None Behind (After heard) = operated-idle None now action.request action.asked Behind in
      let U : Type 0 = IsOutside (After heard) in
      idle-told heard (fine-operated U ⊥ now action.request action.asked Behind (fine U ⊥)) idle
