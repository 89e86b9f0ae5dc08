-- What each row of the agent sends.
use Rattle.std.proofs.Common.{◌≡◌, ℕ, ◌+◌, ◌≤◌, ◌==◌, ◌&&◌, not, if◌then◌else◌, Bool, true, false, List, [], Option, Some, None, All, refl, sym, subst, ap, ◌∙◌, arith, inl, inr}
use Rattle.std.proofs.lemmas.List.Elements.{All-push, All-weaker}
use Rattle.std.proofs.lemmas.Bool.Decides.{nat_tests}
use Rattle.pat_base.specs.declared.ineligibility.Ineligibility.{Ineligibility}
use Rattle.pat_base.specs.declared.member_id.MemberId.{MemberId}
use Rattle.pat_base.specs.declared.member_set.MemberSet.{MemberSet}
use Rattle.pat_base.specs.declared.peer_answer.PeerAnswer.{PeerAnswer}
use Rattle.pat_base.specs.declared.ticks.Ticks.{Ticks}
use Rattle.pat_base.specs.ServerState.{live}
use Rattle.lease_store.specs.declared.granted.Granted.{Granted}
use Rattle.store_keys.specs.declared.txn.Expected.{Expected}
use Rattle.store_keys.specs.declared.txn.Txn.{Txn}
use Rattle.store_keys.specs.declared.txn.Txn.TheVariants as txns
use Rattle.store_keys.specs.declared.txn.LeaseTxn.TheVariants as lease_txns
use Rattle.store_keys.specs.declared.txn.OperatorTxn.TheVariants as operator_txns
use Rattle.store_keys.specs.declared.txn.SyncTxn.TheVariants as sync_txns
use Rattle.wal_model.specs.declared.entry.HistoryPoint.{HistoryPoint}
use Rattle.cluster_view.specs.declared.snapshot.LeaderEntry.{LeaderEntry}
use Rattle.cluster_view.specs.Snapshots.{SnapshotFacts, leader_in}
use Rattle.event_book.specs.declared.agent_note.AgentNote.TheVariants as agent_notes
use Rattle.event_book.specs.declared.message.Body.{Body}
use Rattle.event_book.specs.declared.message.Body.TheVariants as bodies
use Rattle.event_book.specs.declared.reason.Reason.TheVariants.{LeaderKeyLost, StartTooLong, WatchdogNotArmed}
use Rattle.event_book.specs.Functions.{set_members}
use Rattle.lease_model.specs.Leases.{LeaderSeen}
use Rattle.agent_model.specs.declared.output.Repair.{Repair}
use Rattle.agent_model.specs.Repairs.{repair_of, repairing}
use Rattle.agent_model.specs.declared.knowledge.Settling.{Settling}
use Rattle.agent_model.specs.declared.knowledge.PendingQuestion.{PendingQuestion}
use Rattle.agent_model.specs.declared.output.Output.{Output}
use Rattle.agent_model.specs.declared.output.Output.TheVariants as outputs
use Rattle.agent_model.specs.declared.output.Feeding.TheVariants as feedings
use Rattle.agent_model.specs.declared.output.Noting.TheVariants as notings
use Rattle.agent_model.specs.declared.output.Outgoing.TheVariants as outgoing
use Rattle.agent_model.specs.declared.output.ServerOrder.TheVariants as orders
use Rattle.agent_model.specs.declared.output.Telling.TheVariants as tellings
use Rattle.agent_model.specs.declared.output.Target.TheVariants as targets
use Rattle.agent_model.specs.declared.who.Who.{Who}
use Rattle.agent_model.specs.declared.why.Why.TheVariants.{HandOver}
use Rattle.agent_model.specs.Acting.{deadline_after, lease_span, arming, ending_server, requiring, touching, starting_replica, following_server, is_refusing, waiting_no_more, shutting_down}
use Rattle.agent_model.specs.Agents.{RoleFacts, Follower, Holder, Ready, Leader, Ending, Unleased, Outcome, is_leader}
use Rattle.agent_model.specs.FailsafeKeys.{failsafe_compared, is_fed_by_failsafe, set_carried, set_in}
use Rattle.agent_model.specs.StayingPrimary.{holding_for, span_after}
use Rattle.agent_model.specs.Reconciling.{reconciled}
use Rattle.agent_model.specs.Claiming.{begins, claims, begins_or_claims, passing, postpones}
use Rattle.agent_model.specs.Decisions.{cannot_arm, confirming, is_decision, is_lease_of, leader_kept, leader_renewed, takes_over, unleased_renewed, unleased_unarmed, may_take, gives_back, arms, takes_key, granted, refused}
use Rattle.agent_model.specs.Fits.{Fits}
use Rattle.agent_model.specs.Outputs.{with_output}
use Rattle.agent_model.specs.Planning.{writing_sync, noting}
use Rattle.agent_model.specs.Synchronous.{unnamed}
use Rattle.agent_roles.specs.Seen.{leader_entry_seen}
use Rattle.agent_model.specs.Snapshots.{known_with, renewing, follows, leader_loses_key, unleased_loses_key, read_noted, read_answered, follow_row, asks_as_unleased, led_by_another}
use Rattle.agent_model.specs.HandingOver.{checking, hands_over}
use Rattle.agent_model.specs.Operators.{config_revision, learned, looked, operated, operating, restarting, telling, unnumbered, wiping}
use Rattle.agent_model.specs.Table.{granted_any, refused_any}
use Rattle.agent_model.specs.declared.operating.Told.{Told as Tells}
use Rattle.store_keys.specs.declared.action.OperatorAction.{OperatorAction}
use Rattle.store_keys.specs.declared.action.OperatorRequest.{OperatorRequest}
use Rattle.store_keys.specs.declared.action.OperatorRequest.TheVariants as requests
use Rattle.store_keys.specs.declared.config_value.ConfigValue.{ConfigValue}
use Rattle.agent_model.specs.declared.operating.Operation.{Operation}
use Rattle.agent_model.specs.declared.operating.Operation.TheVariants.{FailingOver, Configuring}
use Rattle.agent_model.specs.declared.operating.Told.TheVariants as tolds
use Rattle.operator_answers.specs.Statuses.{internal_server_error, ok}
use Rattle.operator_answers.specs.declared.answer_text.Text.TheVariants as texts
use Rattle.pg_model.specs.Running.{is_primary}
use Rattle.pg_model.specs.declared.status.ServerStatus.{ServerStatus}
use Rattle.agent_model.specs.Racing.{bar_of, barred, can_start, finds_free, free_key, judged, asking_others, races_unless, starts_alone, unheard}
use Rattle.agent_model.specs.Answers.{all_answered}
use Rattle.agent_model.specs.Peers.{asked, awaits_others, keeping, answered}
use Rattle.agent_roles.proofs.Granting.{Told, both-true}
use Rattle.lease_model.proofs.Tools.{none-some, some-is}
use Rattle.agent_roles.proofs.GoingOn.{IsAlone, known-listed}
use Rattle.agent_roles.proofs.Knowing.{before-onward}
use Rattle.agent_roles.proofs.Staying.{before-leaves, before-waits}
use Rattle.agent_roles.proofs.Fitting.{ended-for}
use Rattle.agent_roles.proofs.Leaving.{rests-by, told-fits}
use Rattle.agent_roles.proofs.Living.{no-way, primary-live, restart-live, wipe-live}
use Rattle.agent_cases.proofs.Rows.{asked-to-hold-by, HandoverRows, dropping, looked-by, refused-any-by, if-cases, got-by, refused-by, follow-by, repaired-by, answered-when}
use Rattle.agent_cases.proofs.Grants.{granted-any-by, WritesSync, kept_on, led_on, judges-start-by, renewed-by, passing-by, begins-or-claims-by, granted-by, DutyRows, duties-of, leading_in_pause, takes-in-pause-by}
use Rattle.agent_model.specs.Pausing.{is_paused, may_start_behind, disabling_watchdog, running_without_key}
use Rattle.agent_sending.proofs.MaySend.{IsSilent, Grounds, CarriesSet, CarriesSetIf, MayTransact, MayAskStore, MayPut, AllMay, front, push, silently, silent-armed, silent-fed, silent-disabled, IsReleaseOr, Fronts, IsMild, AllMild, mild-all, mild-front, judged-mild, others-mild, handover-mild, checking-mild, before-fronts, released, fronts-may, postpones-silent, told-fronts, before-compares, CreatesAsCompared, creates-behind, sends, told-may, front-of}
use Rattle.agent_sending.proofs.MaySend.Fronts.{Silent, Released}

seen_at : ℕ → ℕ → Option LeaderSeen
seen_at revision holder = Some (record { holder = holder; revision = revision })

leader-shown : (entry : Option LeaderEntry) (leader : LeaderEntry) (me : ℕ) → entry ≡ Some leader
    → leader.holder.number == me ≡ true
    → leader_entry_seen entry ≡ Some (record { holder = me; revision = leader.revision })
unfolding seen_at
leader-shown entry leader me some mine = let is : leader.holder.number ≡ me = grind (arith, nat_tests) in
    ap (λ (e : Option LeaderEntry). leader_entry_seen e) some ∙ ap (λ (h : ℕ). seen_at leader.revision h) is

-- the agent tells of itself
touches : (G : Grounds) (o x : Outcome) (outs : List Output) → o.knows.sequence ≤ x.knows.sequence
    → All IsSilent x.outputs → AllMay G o (touching x)
touches G o x outs later silent = push G o (touching x) x.outputs _ (front G o (touching x) x.outputs silent)
    (sends G o (touching x) x.knows.sequence _ later refl tt)

-- and has the log of its server repaired
touches-repairing : (G : Grounds) (leader : MemberId) (r : Repair) (o x : Outcome)
    → o.knows.sequence ≤ x.knows.sequence → All IsSilent x.outputs → AllMay G o (repairing leader r (touching x))
touches-repairing G leader r o x later silent = let y : Outcome = repairing leader r (touching x) in
    push G o y (touching x).outputs (outputs.Server (orders.Repair leader r))
    (push G o y x.outputs _ (front G o y x.outputs silent) (sends G o y x.knows.sequence _ later refl tt)) tt

follow-may : (G : Grounds) (now : Ticks) (leader : MemberId) (o b : Outcome)
    → o.knows.sequence ≤ b.knows.sequence → All IsSilent b.outputs → AllMay G o (follows now leader b)
follow-may G now leader o b later silent = let x : Outcome = led_by_another b in
    let may : Bool = may_start_behind b.knows in
    let row : Outcome = touching (follow_row may now leader b.machine.server.state x) in
    repaired-by (AllMay G o) leader (repair_of b.knows.settings leader b.machine.server) row
    (follow-by (λ (y : Outcome). AllMay G o (touching y)) may now leader b.machine.server.state x
    (touches G o x x.outputs later silent)
    (touches G o (starting_replica now (Some leader) x) x.outputs later
    (silently b.outputs (outputs.Server (orders.StartReplica (Some leader))) silent tt))
    (touches G o (following_server leader x) x.outputs later
    (silently b.outputs (outputs.Server (orders.Follow leader)) silent tt))
    (touches G o (shutting_down now x) x.outputs later (silently b.outputs (outputs.Server orders.ShutDown) silent tt)))
    (λ r.
    follow-by (λ (y : Outcome). AllMay G o (repairing leader r (touching y))) may now leader b.machine.server.state x
    (touches-repairing G leader r o x later silent)
    (touches-repairing G leader r o (starting_replica now (Some leader) x) later
    (silently b.outputs (outputs.Server (orders.StartReplica (Some leader))) silent tt))
    (touches-repairing G leader r o (following_server leader x) later
    (silently b.outputs (outputs.Server (orders.Follow leader)) silent tt))
    (touches-repairing G leader r o (shutting_down now x) later
    (silently b.outputs (outputs.Server orders.ShutDown) silent tt)))

-- what a member without a lease does while nobody leads, where it is known that nothing bars it as it races
pub free-when : (P : Outcome → Type 0) (now : Ticks) (o : Outcome)
    → P (touching (starting_replica now None o)) → P (touching o) → ((by : Ineligibility) → P (barred by o))
    → (bar_of now o.knows o.machine ≡ None → P (judged now (unheard o)))
    → (bar_of now o.knows o.machine ≡ None → P (asking_others now (unheard o))) → P (free_key now o)
free-when P now o starts touches bars judges asks =
    if-cases P (can_start o.machine.server) (touching (starts_alone now o))
    (races_unless now (bar_of now o.knows o.machine) o)
    (λ _. if-cases (λ (x : Outcome). P (touching x)) (is_paused o.knows) o (starting_replica now None o)
    (λ _. touches) (λ _. starts))
    (λ _. unless (bar_of now o.knows o.machine) refl)
  where
    unless : (bar : Option Ineligibility) → bar_of now o.knows o.machine ≡ bar → P (races_unless now bar o)
    unless None is = if-cases P (all_answered o.knows.who []) (judged now (unheard o))
        (asking_others now (unheard o)) (λ _. judges is) (λ _. asks is)
    unless (Some by) is = bars by

free-may : (G : Grounds) (now : Ticks) (o b : Outcome)
    → (bar_of now b.knows b.machine ≡ None → G.creates (failsafe_compared b.knows))
    → o.knows.sequence ≤ b.knows.sequence → All IsSilent b.outputs → AllMay G o (finds_free now b)
free-may G now o b creates later silent = let x : Outcome = record b { role = Follower } in
    free-when (AllMay G o) now x
    (touches G o (starting_replica now None x) x.outputs later
    (silently b.outputs (outputs.Server (orders.StartReplica None)) silent tt))
    (touches G o x x.outputs later silent)
    (λ bar. touches G o (record x {
      outputs = with_output (outputs.Note (notings.Agent (agent_notes.DoesNotRace bar))) x.outputs;
    }) x.outputs later (silently b.outputs (outputs.Note (notings.Agent (agent_notes.DoesNotRace bar))) silent tt))
    (λ free. mild-all G o (judged now (unheard x))
    (judged-mild G.creates o.knows.sequence now (unheard x) (creates free) later silent))
    (λ free.
    mild-all G o (asking_others now (unheard x)) (others-mild G.creates o.knows.sequence now (unheard x) later silent))

-- on what grounds an agent creates that reads this snapshot: nothing bars it; or there is a pause
pub record CreatesOnRead (G : Grounds) (now : Ticks) (snapshot : SnapshotFacts) (b : Outcome) : Type 0 where
  pub free : bar_of now (read_noted now snapshot b.knows) b.machine ≡ None
      → G.creates (failsafe_compared (read_noted now snapshot b.knows))
  pub paused : is_paused (read_noted now snapshot b.knows) ≡ true
      → G.creates (failsafe_compared (read_noted now snapshot b.knows))

-- the set that a renewal carries is one that it may
set-may : (mode : Bool) (snapshot : Option SnapshotFacts) (set : MemberSet) → set_in mode snapshot ≡ Some set
    → mode ≡ true
set-may true snapshot set is = refl
set-may false None set is = absurd (none-some set is)
set-may false (Some snapshot) set is = absurd (none-some set is)

carry-may : (after : Outcome) (mode : Bool) (seen : Option SnapshotFacts) (test : Bool) (carried : Option MemberSet)
    → (if test then set_in mode seen else None) ≡ carried
    → (test ≡ true → mode ≡ true → (set : MemberSet) → carried ≡ Some set → CarriesSet after set)
    → CarriesSetIf after carried
carry-may after mode seen test None is gives = tt
carry-may after mode seen true (Some set) is gives = gives refl (set-may mode seen set is) set refl
carry-may after mode seen false (Some set) is gives = absurd (none-some set is)

carries-set : (now : Ticks) (points : List HistoryPoint) (revision : ℕ) (read : Outcome)
    → Fits read.role (live read.machine.server.state)
    → CarriesSetIf (renewing now points revision read) (set_carried read)
carries-set now points revision read fits =
    carry-may (renewing now points revision read) read.knows.settings.failsafe_mode read.knows.seen
    (is_leader read.role && not (is_fed_by_failsafe read.machine)) (set_carried read) refl
    (λ test mode set is. let both = both-true (is_leader read.role) (not (is_fed_by_failsafe read.machine)) test in
    record {
      mode = mode;
      live = leader-live read.role (live read.machine.server.state) both.0 fits;
      by_grant = not-so (is_fed_by_failsafe read.machine) both.1;
      known = λ p e. known-carried read.knows.known (set_carried read) set is p e;
    })
  where
    leader-live : (role : RoleFacts) (lives : Bool) → is_leader role ≡ true → Fits role lives → lives ≡ true
    leader-live (Leader held) lives e fits = fits
    leader-live Follower lives e fits = absurd (no-way e)
    leader-live (Holder held) lives e fits = absurd (no-way e)
    leader-live (Ready held) lives e fits = absurd (no-way e)
    leader-live (Ending held why) lives e fits = absurd (no-way e)
    leader-live Unleased lives e fits = absurd (no-way e)

    not-so : (b : Bool) → not b ≡ true → b ≡ false
    not-so true e = absurd (no-way e)
    not-so false e = refl

    known-carried : (known : MemberSet) (carried : Option MemberSet) (set : MemberSet) → carried ≡ Some set
        → (p : ℕ) → set_members set p ≡ true → set_members (known_with known carried) p ≡ true
    known-carried known None set is p e = absurd (none-some set is)
    known-carried known (Some members) set is p e =
        known-listed known members p (ap (λ (x : MemberSet). set_members x p) (some-is members set is) ∙ e)

got-silent : (G : Grounds) (now : Ticks) (points : List HistoryPoint) (sequence : ℕ)
    (snapshot : SnapshotFacts) (o b : Outcome) → CreatesOnRead G now snapshot b
    → Fits b.role (live b.machine.server.state) → o.knows.sequence ≤ b.knows.sequence → All IsSilent b.outputs
    → AllMay G o (read_answered now points sequence snapshot b)
got-silent G now points sequence snapshot o b creates fits later silent =
    let read : Outcome = record b { knows = read_noted now snapshot b.knows } in
    got-by (AllMay G o) now points sequence snapshot b (record {
      kept = front G o b b.outputs silent;
      quiet = front G o (waiting_no_more b) b.outputs silent;
      other = front G o read b.outputs silent;
      leader = λ held _. let lost : Outcome = leader_loses_key now held read in
          push G o lost b.outputs (outputs.Server (orders.Stop LeaderKeyLost)) (front G o lost b.outputs silent) tt;
      unleased = λ _. let lost : Outcome = unleased_loses_key now read in
          push G o lost b.outputs (outputs.Server (orders.Stop LeaderKeyLost)) (front G o lost b.outputs silent) tt;
      renews = λ _ leader some mine. let renews : Outcome = renewing now points leader.revision read in
          push G o renews b.outputs _ (front G o renews b.outputs silent)
          (sends G o renews b.knows.sequence _ later refl (
            leader-shown (leader_in snapshot) leader b.knows.who.me.number some mine,
            refl,
            carries-set now points leader.revision read fits,
          ));
      touches = touches G o read read.outputs later silent;
      follows = λ leader _ _. follow-may G now leader.holder o read later silent;
      free = λ _ _. free-may G now o read creates.free later silent;
      runs_on = λ _. let runs : Outcome = running_without_key read in
          front G o runs runs.outputs
          (silently b.outputs (outputs.Note (notings.Agent agent_notes.RunsWithoutKey)) silent tt);
      asks_on = λ paused. let asks : Outcome = asks_as_unleased now read in
          let runs : List Output = with_output (outputs.Note (notings.Agent agent_notes.RunsWithoutKey)) b.outputs in
          push G o asks runs _
          (front G o asks runs (silently b.outputs (outputs.Note (notings.Agent agent_notes.RunsWithoutKey)) silent tt))
          (sends G o asks b.knows.sequence _ later refl (creates.paused paused));
    })

pub got-none : (now : Ticks) (points : List HistoryPoint) (sequence : ℕ) (snapshot : SnapshotFacts) (o : Outcome)
    → o.knows.waited ≡ None → read_answered now points sequence snapshot o ≡ o
got-none now points sequence snapshot o is = rw is refl

got-fronts : (G : Grounds) (now : Ticks) (points : List HistoryPoint) (sequence : ℕ) (snapshot : SnapshotFacts)
    (o b : Outcome) → CreatesOnRead G now snapshot b → Fits b.role (live b.machine.server.state)
    → o.knows.sequence ≤ b.knows.sequence → Fronts o b → AllMay G o (read_answered now points sequence snapshot b)
got-fronts G now points sequence snapshot o b creates fits later (Silent all) =
    got-silent G now points sequence snapshot o b creates fits later all
got-fronts G now points sequence snapshot o b creates fits later (Released revision held alone role ended counted all) =
    subst (λ (z : Outcome). AllMay G o z) (sym (got-none now points sequence snapshot b alone))
    (released G o b revision b.outputs held role ended counted all)

-- a read that is looked at for an operator
pub looked-fronts : (now : Ticks) (sequence : ℕ) (snapshot : SnapshotFacts) (o : Outcome) → IsAlone o
    → All IsSilent o.outputs → Fronts o (looked sequence snapshot (reconciled now o))
looked-fronts now sequence snapshot o alone silent = looked-by (Fronts o) sequence snapshot (reconciled now o)
    (told-fronts o (reconciled now o) (before-fronts now o alone silent))

pub looked-later : (now : Ticks) (sequence : ℕ) (snapshot : SnapshotFacts) (o : Outcome)
    → o.knows.sequence ≤ (looked sequence snapshot (reconciled now o)).knows.sequence
looked-later now sequence snapshot o =
    let later : o.knows.sequence ≤ (reconciled now o).knows.sequence = (before-onward None now o).last in
    looked-by (λ (x : Outcome). o.knows.sequence ≤ x.knows.sequence) sequence snapshot (reconciled now o)
    (record { kept = later; answers = λ request told. later })

looked-fits : (now : Ticks) (sequence : ℕ) (snapshot : SnapshotFacts) (o : Outcome)
    → Fits (looked sequence snapshot (reconciled now o)).role
    (live (looked sequence snapshot (reconciled now o)).machine.server.state)
looked-fits now sequence snapshot o = looked-by (λ (x : Outcome). Fits x.role (live x.machine.server.state))
    sequence snapshot (reconciled now o) (told-fits now o)

pub got-may : (G : Grounds) (now : Ticks) (points : List HistoryPoint) (sequence : ℕ) (snapshot : SnapshotFacts)
    (o : Outcome) → CreatesOnRead G now snapshot (looked sequence snapshot (reconciled now o)) → IsAlone o
    → All IsSilent o.outputs
    → AllMay G o (read_answered now points sequence snapshot (looked sequence snapshot (reconciled now o)))
got-may G now points sequence snapshot o creates alone silent = got-fronts G now points sequence snapshot o
    (looked sequence snapshot (reconciled now o)) creates (looked-fits now sequence snapshot o)
    (looked-later now sequence snapshot o) (looked-fronts now sequence snapshot o alone silent)

refused-silent : (now : Ticks) (sequence : ℕ) (o : Outcome) → All IsSilent o.outputs
    → All IsSilent (refused now sequence o).outputs
refused-silent now sequence o silent = refused-by (λ (x : Outcome). All IsSilent x.outputs) now sequence o (record {
  kept = silent;
  quiet = silent;
  leader = λ held _. silently o.outputs (outputs.Server (orders.Stop LeaderKeyLost)) silent tt;
  unleased = λ _. silently o.outputs (outputs.Server (orders.Stop LeaderKeyLost)) silent tt;
  follower = λ held _. silent;
  ready = λ held _. postpones-silent held (waiting_no_more o) silent;
  runs_on = λ _. silently o.outputs (outputs.Note (notings.Agent agent_notes.RunsWithoutKey)) silent tt;
})

refused-none : (now : Ticks) (sequence : ℕ) (o : Outcome) → o.knows.waited ≡ None → refused now sequence o ≡ o
refused-none now sequence o is = rw is refl

refused-fronts : (G : Grounds) (now : Ticks) (sequence : ℕ) (o b : Outcome) → Fronts o b
    → AllMay G o (refused now sequence b)
refused-fronts G now sequence o b (Silent all) =
    front G o (refused now sequence b) (refused now sequence b).outputs (refused-silent now sequence b all)
refused-fronts G now sequence o b (Released revision held alone role ended counted all) =
    subst (λ (z : Outcome). AllMay G o z) (sym (refused-none now sequence b alone))
    (released G o b revision b.outputs held role ended counted all)

pub refused-may : (G : Grounds) (now : Ticks) (sequence : ℕ) (o : Outcome) → IsAlone o
    → All IsSilent o.outputs → AllMay G o (refused_any now sequence (reconciled now o))
refused-may G now sequence o alone silent =
    let fronts : Fronts o (reconciled now o) = before-fronts now o alone silent in
    refused-any-by (AllMay G o) now sequence (reconciled now o) (told-may G o (reconciled now o) fronts)
    (refused-fronts G now sequence o (reconciled now o) fronts)

pub answered-none : (now : Ticks) (sequence : ℕ) (answer : PeerAnswer) (o : Outcome) → o.knows.waited ≡ None
    → answered now sequence answer o ≡ o
answered-none now sequence answer o is = rw is refl

answered-mild : (K : Option Expected → Type 0) (low : ℕ) (now : Ticks) (sequence : ℕ) (answer : PeerAnswer)
    (o : Outcome) → (awaits_others o.knows.waited ≡ true → K (failsafe_compared o.knows))
    → low ≤ o.knows.sequence → All IsSilent o.outputs → AllMild K low (answered now sequence answer o)
answered-mild K low now sequence answer o creates less silent =
    let same : All (IsMild K low o.knows.sequence) o.outputs = mild-front K low o.knows.sequence o.outputs silent in
    answered-when (AllMild K low) now sequence answer o (record {
      kept = same;
      quiet = same;
      keeps = same;
      judges = λ awaits _. judged-mild K low now (keeping answer o) (creates awaits) less silent;
      checks = λ held _. handover-mild K low now held (keeping answer o) less silent;
    })

answered-fronts : (G : Grounds) (now : Ticks) (sequence : ℕ) (answer : PeerAnswer) (o b : Outcome)
    → CreatesAsCompared G b → o.knows.sequence ≤ b.knows.sequence → Fronts o b
    → AllMay G o (answered now sequence answer b)
answered-fronts G now sequence answer o b creates later (Silent all) = mild-all G o (answered now sequence answer b)
    (answered-mild G.creates o.knows.sequence now sequence answer b creates later all)
answered-fronts G now sequence answer o b creates later (Released revision held alone role ended counted all) =
    subst (λ (z : Outcome). AllMay G o z) (sym (answered-none now sequence answer b alone))
    (released G o b revision b.outputs held role ended counted all)

pub answered-may : (G : Grounds) (now : Ticks) (sequence : ℕ) (answer : PeerAnswer) (o : Outcome)
    → CreatesAsCompared G o → IsAlone o → o.knows.sequence ≤ (reconciled now o).knows.sequence
    → All IsSilent o.outputs → AllMay G o (answered now sequence answer (reconciled now o))
answered-may G now sequence answer o creates alone later silent =
    answered-fronts G now sequence answer o (reconciled now o)
    (creates-behind G o (reconciled now o) (before-waits now o) (before-compares now o) creates) later
    (before-fronts now o alone silent)

-- an answer to another member is silent: the key store isn't asked
asked-fronts : (from : MemberId) (incarnation sequence : ℕ) (o b : Outcome) → Fronts o b
    → Fronts o (asked from incarnation sequence b)
asked-fronts from incarnation sequence o b (Silent all) = Silent (silently b.outputs _ all tt)
asked-fronts from incarnation sequence o b (Released revision held alone role ended counted all) =
    Released revision held alone role ended counted
    (All-push (IsReleaseOr (o.knows.sequence + 1) revision) b.outputs _ all (inl tt))

pub asked-may : (G : Grounds) (now : Ticks) (from : MemberId) (incarnation sequence : ℕ) (o : Outcome)
    → IsAlone o → All IsSilent o.outputs → AllMay G o (asked from incarnation sequence (reconciled now o))
asked-may G now from incarnation sequence o alone silent =
    fronts-may G o (asked from incarnation sequence (reconciled now o))
    (asked-fronts from incarnation sequence o (reconciled now o) (before-fronts now o alone silent))

-- a write of the sync key is sent under the next number
writes-ask : (G : Grounds) (o after : Outcome) (sequence : ℕ) (txn : Txn) → WritesSync txn
    → MayTransact G o after sequence txn
writes-ask G o after sequence (txns.Sync (sync_txns.SetSync revision sync standbys may_lack)) e = tt
writes-ask G o after sequence (txns.Sync (sync_txns.DropSync revision sync)) e = tt
writes-ask G o after sequence _ e = absurd e

writes-may : (G : Grounds) (now : Ticks) (settling : Settling) (txn : Txn) (o b : Outcome) → WritesSync txn
    → o.knows.sequence ≤ b.knows.sequence → All IsSilent b.outputs → AllMay G o (writing_sync now settling txn b)
writes-may G now settling txn o b writes later silent = let after : Outcome = writing_sync now settling txn b in
    push G o after b.outputs _ (front G o after b.outputs silent)
    (sends G o after b.knows.sequence _ later refl (writes-ask G o after (b.knows.sequence + 1) txn writes))

handover-may : (G : Grounds) (now : Ticks) (held : ℕ) (o b : Outcome) → o.knows.sequence ≤ b.knows.sequence
    → All IsSilent b.outputs → HandoverRows (AllMay G o) now held b
handover-may G now held o b later silent =
    let rows : HandoverRows (AllMild G.creates o.knows.sequence) now held b =
    handover-mild G.creates o.knows.sequence now held b later silent in
    record {
      kept = mild-all G o (waiting_no_more b) rows.kept;
      clears = λ compared. mild-all G o (dropping compared (waiting_no_more b)) (rows.clears compared);
      hands = λ candidate. mild-all G o (hands_over now held candidate (waiting_no_more b)) (rows.hands candidate);
    }

-- what a leader owes its cluster, behind silent outputs
duty-may : (G : Grounds) (now : Ticks) (revision : ℕ) (o led : Outcome) → o.knows.sequence ≤ led.knows.sequence
    → All IsSilent led.outputs → DutyRows (AllMay G o) now revision led
duty-may G now revision o led later rest = record {
  plan = record {
    kept = front G o led led.outputs rest;
    writes = λ settling txn writes. writes-may G now settling txn o led writes later rest;
    adds = λ required.
        front G o (requiring required (noting led)) _ (silently led.outputs (outputs.Require required) rest tt);
    drops = λ required. front G o (requiring required led) _ (silently led.outputs (outputs.Require required) rest tt);
  };
  clears = λ compared. mild-all G o (dropping compared led)
      ((handover-mild G.creates o.knows.sequence now revision led later rest).clears compared);
  asks = λ candidate. mild-all G o (checking now candidate (unheard led))
      (checking-mild G.creates o.knows.sequence now candidate (unheard led) later rest);
  judges = handover-may G now revision o (unheard led) later rest;
}

renewed-may : (G : Grounds) (now ttl : Ticks) (revision : ℕ) (o b : Outcome) → o.knows.sequence ≤ b.knows.sequence
    → All IsSilent b.outputs → AllMay G o (leader_renewed now ttl revision b)
renewed-may G now ttl revision o b later silent = let led : Outcome = led_on now ttl revision b in
    let ended : Outcome = record (ending_server now StartTooLong led) { role = Ending revision HandOver } in
    let rest : All IsSilent led.outputs = silent-fed (deadline_after now ttl b.machine.watchdog) b.outputs silent in
    renewed-by (AllMay G o) now ttl revision b
    (front G o ended ended.outputs (silently led.outputs (outputs.Server (orders.Stop StartTooLong)) rest tt))
    (duty-may G now revision o led later rest)

kept-may : (G : Grounds) (now : Ticks) (revision : ℕ) (o b : Outcome) → o.knows.sequence ≤ b.knows.sequence
    → All IsSilent b.outputs → AllMay G o (leader_kept now revision b)
kept-may G now revision o b later silent = let led : Outcome = kept_on revision b in
    let ended : Outcome = record (ending_server now StartTooLong led) { role = Ending revision HandOver } in
    judges-start-by (AllMay G o) now revision led
    (front G o ended ended.outputs (silently b.outputs (outputs.Server (orders.Stop StartTooLong)) silent tt))
    (duty-may G now revision o led later silent)

unarmed-may : (G : Grounds) (now : Ticks) (o b : Outcome) → All IsSilent b.outputs → AllMay G o (unleased_unarmed now b)
unarmed-may G now o b silent = let ended : Outcome = ending_server now WatchdogNotArmed b in
    front G o ended ended.outputs (silently b.outputs (outputs.Server (orders.Stop WatchdogNotArmed)) silent tt)

unleased-may : (G : Grounds) (now ttl : Ticks) (revision : ℕ) (o b : Outcome) → All IsSilent b.outputs
    → AllMay G o (unleased_renewed now ttl revision b)
unleased-may G now ttl revision o b silent = let over : Outcome = takes_over now revision (arming now ttl b) in
    if-cases (AllMay G o) (is_refusing b.machine.watchdog.mode b.machine.watchdog.works) (unleased_unarmed now b) over
    (λ _. unarmed-may G now o b silent)
    (λ _. front G o over over.outputs (silent-armed (deadline_after now ttl b.machine.watchdog) b.outputs silent))

-- the lease that a grant gives is given back by who doesn't act
gives-back-may : (G : Grounds) (revision : ℕ) (o b : Outcome) → o.knows.sequence ≤ b.knows.sequence
    → live b.machine.server.state ≡ false → G.gives revision → All IsSilent b.outputs
    → AllMay G o (gives_back revision b)
gives-back-may G revision o b later ended given silent = let back : Outcome = gives_back revision b in
    push G o back b.outputs _ (front G o back b.outputs silent)
    (sends G o back b.knows.sequence _ later refl (rests-by back ended refl, inr given))

cannot-arm-may : (G : Grounds) (revision : ℕ) (o b : Outcome) → o.knows.sequence ≤ b.knows.sequence
    → live b.machine.server.state ≡ false → G.gives revision → All IsSilent b.outputs
    → AllMay G o (cannot_arm revision b)
cannot-arm-may G revision o b later ended given silent =
    gives-back-may G revision o
    (record b { outputs = with_output (outputs.Note (notings.Agent agent_notes.CannotArm)) b.outputs })
    later ended given (silently b.outputs (outputs.Note (notings.Agent agent_notes.CannotArm)) silent tt)

begins-may : (G : Grounds) (now : Ticks) (revision : ℕ) (o b : Outcome) → G.gives revision
    → All IsSilent b.outputs → AllMay G o (begins now revision b)
begins-may G now revision o b given silent = let begun : Outcome = begins now revision b in
    let required : Output = outputs.Require (unnamed b.knows.turn_settings) in
    push G o begun (with_output required b.outputs) (outputs.Server orders.Begin)
    (front G o begun (with_output required b.outputs) (silently b.outputs required silent tt)) (revision, given)

-- a note of the sync key is silent
pub silent-passing : (o : Outcome) → All IsSilent o.outputs → All IsSilent (passing o).outputs
silent-passing o silent =
    passing-by (All IsSilent) o silent (silently o.outputs (outputs.Tell tellings.ClaimsOutsideSync) silent tt)

claims-may : (G : Grounds) (now : Ticks) (revision : ℕ) (o b : Outcome) → o.knows.sequence ≤ b.knows.sequence
    → All IsSilent b.outputs → AllMay G o (claims now revision b)
claims-may G now revision o b later silent = let after : Outcome = claims now revision b in
    push G o after b.outputs _ (front G o after b.outputs silent) (sends G o after b.knows.sequence _ later refl tt)

arms-may : (G : Grounds) (now ttl : Ticks) (revision : ℕ) (o b : Outcome)
    → o.knows.sequence ≤ b.knows.sequence → live b.machine.server.state ≡ false → G.gives revision
    → All IsSilent b.outputs → AllMay G o (arms now ttl revision b)
arms-may G now ttl revision o b later ended given silent = let arm : Outcome = arming now ttl b in
    let rest : All IsSilent arm.outputs = silent-armed (deadline_after now ttl b.machine.watchdog) b.outputs silent in
    if-cases (AllMay G o) (is_refusing b.machine.watchdog.mode b.machine.watchdog.works)
    (cannot_arm revision b) (begins_or_claims now revision arm)
    (λ _. cannot-arm-may G revision o b later ended given silent)
    (λ _. begins-or-claims-by (AllMay G o) now revision arm (begins-may G now revision o arm given rest)
    (claims-may G now revision o (passing arm) later (silent-passing arm rest)))

takes-may : (G : Grounds) (now ttl : Ticks) (revision : ℕ) (o b : Outcome)
    → o.knows.sequence ≤ b.knows.sequence → live b.machine.server.state ≡ false → G.gives revision
    → All IsSilent b.outputs → AllMay G o (takes_key now ttl revision b)
takes-may G now ttl revision o b later ended given silent =
    if-cases (AllMay G o) (may_take now b.knows b.machine) (arms now ttl revision b) (gives_back revision b)
    (λ _. arms-may G now ttl revision o b later ended given silent)
    (λ _. gives-back-may G revision o b later ended given silent)

-- the decision is waited for, and grants this member the leader key
abbrev pub Decides : ℕ → Granted → Outcome → Type 0
Decides sequence grant o = (waited : PendingQuestion) × (o.knows.waited ≡ Some waited)
    × (is_decision waited sequence && is_lease_of o.knows.who.me grant ≡ true)

-- of whom the leader key is, G holds where the agent is about to begin on it
abbrev pub HoldsOfReady : Grounds → Outcome → Type 0
HoldsOfReady G b = (revision : ℕ) → b.role ≡ Ready revision → G.gives revision

-- what an input may send it may where its set is confirmed besides
confirm-put : (G : Grounds) (snapshot : SnapshotFacts) (o after : Outcome) (output : Output)
    → MayPut G o after output → MayPut G o (confirming snapshot after) output
confirm-put G snapshot o after (outputs.Message (outgoing.Send targets.Store sequence body)) may =
    record { later = may.later; counted = may.counted; asks = confirm-asks body may.asks }
  where
    confirm-set : (carried : Option MemberSet) → CarriesSetIf after carried
        → CarriesSetIf (confirming snapshot after) carried
    confirm-set None carries = tt
    confirm-set (Some set) carries =
        record { mode = carries.mode; live = carries.live; by_grant = carries.by_grant; known = carries.known }

    confirm-txn : (txn : Txn) → MayTransact G o after sequence txn
        → MayTransact G o (confirming snapshot after) sequence txn
    confirm-txn (txns.Lease (lease_txns.Create info ttl failsafe sync)) asks = asks
    confirm-txn (txns.Lease (lease_txns.Renew revision info ttl status row failsafe)) asks =
        (asks.0, asks.1, confirm-set failsafe asks.2)
    confirm-txn (txns.Lease (lease_txns.Release revision)) asks = asks
    confirm-txn (txns.Operators (operator_txns.SetConfig revision config)) asks = asks
    confirm-txn _ asks = tt

    confirm-asks : (body : Body) → MayAskStore G o after sequence body
        → MayAskStore G o (confirming snapshot after) sequence body
    confirm-asks bodies.Read asks = tt
    confirm-asks (bodies.Request txn) asks = confirm-txn txn asks
    confirm-asks _ asks = absurd asks
confirm-put G snapshot o after (outputs.Message (outgoing.Send (targets.Member member) sequence body)) may = may
confirm-put G snapshot o after (outputs.Message (outgoing.FailsafeAnswer to incarnation sequence accepted)) may = may
confirm-put G snapshot o after (outputs.Tell (tellings.HoldTaken until from sequence)) may = may
confirm-put G snapshot o after (outputs.Watchdog (feedings.FedByFailsafe until members sequence since)) may = may
confirm-put G snapshot o after (outputs.Server orders.Begin) may = may
confirm-put G snapshot o after (outputs.Server (orders.Restart as_primary)) may = may
confirm-put G snapshot o after _ may = tt

confirm-may : (G : Grounds) (snapshot : SnapshotFacts) (o after : Outcome) → AllMay G o after
    → AllMay G o (confirming snapshot after)
confirm-may G snapshot o after all = All-weaker (MayPut G o after) (MayPut G o (confirming snapshot after))
    (confirm-put G snapshot o after) after.outputs all

granted-silent : (G : Grounds) (now : Ticks) (sequence : ℕ) (grant : Granted) (snapshot : SnapshotFacts) (o b : Outcome)
    → o.knows.sequence ≤ b.knows.sequence → Fits b.role (live b.machine.server.state)
    → (Decides sequence grant b → G.gives grant.revision) → HoldsOfReady G b → All IsSilent b.outputs
    → AllMay G o (granted now sequence grant snapshot b)
granted-silent G now sequence grant snapshot o b later fits gives readies silent =
    granted-by (AllMay G o) now sequence grant snapshot b (front G o b b.outputs silent)
    (front G o (waiting_no_more b) b.outputs silent)
    (λ waited is decision. record {
      other = front G o (Told snapshot b) b.outputs silent;
      leader = λ held _. renewed-may G now waited.ttl grant.revision o (Told snapshot b) later silent;
      unleased = λ _. unleased-may G now waited.ttl grant.revision o (Told snapshot b) silent;
      takes = λ may. takes-may G now waited.ttl grant.revision o (Told snapshot b) later
          (ended-for b.role (live b.machine.server.state) may fits) (gives (waited, is, decision)) silent;
      keeps_late = λ held _. kept-may G now grant.revision o (Told snapshot b) later silent;
      ends_late = λ _. unarmed-may G now o (Told snapshot b) silent;
      refuses_late = λ may. cannot-arm-may G grant.revision o (Told snapshot b) later
          (ended-for b.role (live b.machine.server.state) may fits) (gives (waited, is, decision)) silent;
      returns_late = λ may. gives-back-may G grant.revision o (Told snapshot b) later
          (ended-for b.role (live b.machine.server.state) may fits) (gives (waited, is, decision)) silent;
      leads_in_pause = λ renews _ held _. let led : Outcome =
          leading_in_pause renews grant.revision (Told snapshot b) in duties-of (AllMay G o) now grant.revision led
          (duty-may G now grant.revision o led later
          (silent-disabled renews b.machine.watchdog.deadline b.outputs silent));
      unleased_in_pause = λ renews _ _. let over : Outcome =
          takes_over now grant.revision (disabling_watchdog renews (Told snapshot b)) in
          front G o over over.outputs (silent-disabled renews b.machine.watchdog.deadline b.outputs silent);
      takes_in_pause = λ renews _ may. let told : Outcome = Told snapshot b in
          let rest : Outcome = disabling_watchdog renews told in
          let quiet : All IsSilent rest.outputs = silent-disabled renews b.machine.watchdog.deadline b.outputs silent in
          takes-in-pause-by (AllMay G o) now renews grant.revision told
          (gives-back-may G grant.revision o told later
          (ended-for b.role (live b.machine.server.state) may fits) (gives (waited, is, decision)) silent)
          (begins-may G now grant.revision o rest (gives (waited, is, decision)) quiet)
          (claims-may G now grant.revision o (passing rest) later (silent-passing rest quiet));
    })
    (λ after all. confirm-may G snapshot o after all)
    (record {
      other = front G o (Told snapshot b) b.outputs silent;
      begins = λ revision is. begins-may G now revision o (Told snapshot b) (readies revision is) silent;
      postpones = λ revision _.
          front G o (postpones revision (Told snapshot b)) _ (postpones-silent revision (Told snapshot b) silent);
      settles = λ required _.
          front G o (requiring required (Told snapshot b)) _ (silently b.outputs (outputs.Require required) silent tt);
    })

pub learned-fronts : (snapshot : SnapshotFacts) (o b : Outcome) → Fronts o b → Fronts o (learned snapshot b)
learned-fronts snapshot o b (Silent all) = Silent all
learned-fronts snapshot o b (Released revision held alone role ended counted all) =
    Released revision held alone role ended counted all

pub granted-none : (now : Ticks) (sequence : ℕ) (grant : Granted) (snapshot : SnapshotFacts) (o : Outcome)
    → o.knows.waited ≡ None → granted now sequence grant snapshot o ≡ o
granted-none now sequence grant snapshot o is = rw is refl

granted-fronts : (G : Grounds) (now : Ticks) (sequence : ℕ) (grant : Granted) (snapshot : SnapshotFacts) (o b : Outcome)
    → o.knows.sequence ≤ b.knows.sequence → Fits b.role (live b.machine.server.state)
    → (Decides sequence grant b → G.gives grant.revision) → HoldsOfReady G b → Fronts o b
    → AllMay G o (granted now sequence grant snapshot b)
granted-fronts G now sequence grant snapshot o b later fits gives readies (Silent all) =
    granted-silent G now sequence grant snapshot o b later fits gives readies all
granted-fronts G now sequence grant snapshot o b later fits gives readies
    (Released revision held alone role ended counted all) =
    subst (λ (z : Outcome). AllMay G o z) (sym (granted-none now sequence grant snapshot b alone))
    (released G o b revision b.outputs held role ended counted all)

pub granted-may : (G : Grounds) (now : Ticks) (sequence : ℕ) (grant : Granted) (snapshot : SnapshotFacts) (o : Outcome)
    → IsAlone o → o.knows.sequence ≤ (reconciled now o).knows.sequence
    → Fits (reconciled now o).role (live (reconciled now o).machine.server.state)
    → (Decides sequence grant (reconciled now o) → G.gives grant.revision) → HoldsOfReady G (reconciled now o)
    → All IsSilent o.outputs → AllMay G o (granted_any now sequence grant snapshot (reconciled now o))
granted-may G now sequence grant snapshot o alone later fits gives readies silent =
    let b : Outcome = reconciled now o in
    let fronts : Fronts o b = before-fronts now o alone silent in
    granted-any-by (AllMay G o) now sequence grant snapshot b (fronts-may G o b fronts)
    (told-may G o (learned snapshot b) (learned-fronts snapshot o b fronts))
    (granted-fronts G now sequence grant snapshot o b later fits gives readies fronts)

acts-may : (G : Grounds) (now : Ticks) (request : ℕ) (o b : Outcome) → Fronts o b → b.knows.who ≡ o.knows.who
    → o.knows.sequence ≤ b.knows.sequence
    → (is_primary b.machine.server.state ≡ true → live o.machine.server.state ≡ true)
    → (asked : OperatorRequest) → ((config : ConfigValue) → asked ≡ requests.Configuration config → G.configures config)
    → AllMay G o (operated now request asked b)
acts-may G now request o b fronts who later primary asked configures = by asked configures
  where
    put : (operation : Operation) (txn : Txn)
        → MayTransact G o (operating now request operation (bodies.Request txn) b) (b.knows.sequence + 1) txn
        → AllMay G o (operating now request operation (bodies.Request txn) b)
    put operation txn may = let after : Outcome = operating now request operation (bodies.Request txn) b in
        push G o after b.outputs _ (front-of G o b after fronts (omega arith) refl (λ e. e))
        (sends G o after b.knows.sequence _ later refl may)

    restarts : (told : Tells) → AllMay G o (telling request told (restarting now b))
    restarts told = let after : Outcome = telling request told (restarting now b) in
        let restart : Output = outputs.Server (orders.Restart (is_primary b.machine.server.state)) in
        push G o after (with_output restart b.outputs) (outputs.Tell (tellings.Told request told))
        (push G o after b.outputs restart
        (front-of G o b after fronts (omega arith) refl (restart-live now b.machine.server)) primary)
        tt

    wipes : (told : Tells) → AllMay G o (telling request told (wiping b))
    wipes told = let after : Outcome = telling request told (wiping b) in
        push G o after (with_output (outputs.Server orders.Wipe) b.outputs) (outputs.Tell (tellings.Told request told))
        (push G o after b.outputs (outputs.Server orders.Wipe)
        (front-of G o b after fronts (omega arith) refl (wipe-live b.machine.server)) tt)
        tt

    holds : (ttl : Ticks) (told : Tells)
        → AllMay G o (telling request told (holding_for now b.knows.who.me unnumbered ttl b))
    holds ttl told = let after : Outcome = telling request told (holding_for now b.knows.who.me unnumbered ttl b) in
        let hold : Output = outputs.Tell (tellings.HoldTaken (span_after now ttl) b.knows.who.me unnumbered) in
        push G o after (with_output hold b.outputs) (outputs.Tell (tellings.Told request told))
        (push G o after b.outputs hold (front-of G o b after fronts (omega arith) refl (λ e. e))
        (inl (refl, ap (λ (w : Who). w.me) who)))
        tt

    refuses : (told : Tells) → AllMay G o (telling request told b)
    refuses told = let after : Outcome = telling request told b in push G o after b.outputs
        (outputs.Tell (tellings.Told request told)) (front-of G o b after fronts (omega arith) refl (λ e. e)) tt

    by : (asked : OperatorRequest)
        → ((config : ConfigValue) → asked ≡ requests.Configuration config → G.configures config)
        → AllMay G o (operated now request asked b)
    by (requests.Hold from ttl) configures = asked-to-hold-by (AllMay G o) now request (record { 0 = ttl }) b
        (λ text _. holds (record { 0 = ttl }) (tolds.Text ok text))
        (λ text. refuses (tolds.Text internal_server_error text))
    by (requests.Failover kind failover) configures =
        put (FailingOver kind) (txns.Operators (operator_txns.SetFailover failover (lease_span b.knows.settings))) tt
    by (requests.Configuration config) configures =
        put Configuring (txns.Operators (operator_txns.SetConfig (config_revision b.knows.seen) config))
        (configures config refl)
    by requests.Restart configures = restarts (tolds.Text ok texts.Restarted)
    by requests.Reinit configures = wipes (tolds.Text ok texts.ReinitializeStarted)

pub operated-may : (G : Grounds) (now : Ticks) (action : OperatorAction) (o : Outcome)
    → ((config : ConfigValue) → action.asked ≡ requests.Configuration config → G.configures config) → IsAlone o
    → All IsSilent o.outputs → AllMay G o (operated now action.request action.asked (reconciled now o))
operated-may G now action o configures alone silent = let b : Outcome = reconciled now o in
    acts-may G now action.request o b (before-fronts now o alone silent) (before-onward None now o).who
    (before-onward None now o).last
    (λ e. subst (λ (s : ServerStatus). live s.state ≡ true) (before-leaves now o).server
    (primary-live b.machine.server.state e))
    action.asked configures
