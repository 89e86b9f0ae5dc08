-- What an input leaves of the acknowledgements that are waited for, and of what its agent knows of failsafe mode.
use Rattle.std.proofs.Common.{◌≡◌, ◌⊎◌, ℕ, ◌==◌, ◌&&◌, ◌||◌, not, Bool, true, false, is_some, List, Option, Some, None, refl, sym, ap, ◌∙◌, arith, inl, inr}
use Rattle.pat_base.specs.declared.member_id.MemberId.{MemberId}
use Rattle.pat_base.specs.declared.peer_answer.PeerAnswer.{PeerAnswer}
use Rattle.pat_base.specs.declared.ticks.Ticks.{Ticks}
use Rattle.store_keys.specs.declared.action.OperatorAction.{OperatorAction}
use Rattle.lease_store.specs.declared.granted.Granted.{Granted}
use Rattle.wal_model.specs.declared.entry.HistoryPoint.{HistoryPoint}
use Rattle.cluster_view.specs.Snapshots.{SnapshotFacts, failsafe_in}
use Rattle.leader_race.specs.Eligibility.{paused}
use Rattle.event_book.specs.declared.reason.Reason.TheVariants.{WatchdogNotArmed}
use Rattle.failsafe.specs.Asks.{heard as ask_heard, moment_of_all}
use Rattle.failsafe.specs.declared.asks.Ask.{Ask}
use Rattle.lease_model.proofs.Tools.{some-is}
use Rattle.agent_model.specs.declared.heard.Heard.{Heard}
use Rattle.agent_model.specs.declared.heard.Heard.TheVariants.{Wake, ReadAnswered, Granted as HeardGranted, Mismatch, Asked, Answered, FailsafeAsked, FailsafeAnswered, Operated as HearsOperator}
use Rattle.agent_model.specs.declared.knowledge.PendingQuestion.{PendingQuestion}
use Rattle.agent_model.specs.Acting.{arming, comes_late, ending_server, is_refusing, requiring, waiting_no_more}
use Rattle.agent_model.specs.Agents.{RoleFacts, Follower, Holder, Ready, Leader, Ending, Unleased, Outcome, is_leader}
use Rattle.agent_model.specs.Claiming.{begins, begins_or_claims, claims, may_begin_on_claim, passing, postpones}
use Rattle.agent_model.specs.Decisions.{accepted_grant, accepted_sync, belongs, is_sync_decision, is_write_of, sync_granted, asks_renewal, cannot_arm, confirming, gives_back, granted, granted_for, granted_in_pause, granted_late, granted_write, is_decision, is_lease_of, lease_granted, lease_heard, lease_used, may_take, arms, takes_key, takes_over, uses_lease}
use Rattle.agent_model.specs.HandingOver.{checking}
use Rattle.agent_model.specs.Operators.{learned, looked, operated}
use Rattle.agent_model.specs.Pausing.{is_paused}
use Rattle.agent_model.specs.Peers.{answered, asked, keeping}
use Rattle.agent_model.specs.Planning.{noting, settled, writing_sync}
use Rattle.agent_model.specs.Synchronous.{waiting_for}
use Rattle.pat_base.specs.declared.server_state.Required.TheVariants.{Nobody}
use Rattle.agent_model.specs.declared.knowledge.Settling.{Settling}
use Rattle.agent_model.specs.declared.knowledge.Settling.TheVariants.{KeepsList, NamesStandbys, ClearsList}
use Rattle.agent_model.specs.declared.knowledge.Question.{Question}
use Rattle.agent_model.specs.declared.knowledge.Question.TheVariants.{Reading, ComparingPositions, Creating, Renewing, Claiming, Syncing, FindingCandidate, StayingPrimary}
use Rattle.std.proofs.lemmas.Bool.Decides.{nat_tests}
use Rattle.agent_model.specs.Racing.{judged, unheard}
use Rattle.agent_model.specs.Reconciling.{reconciled}
use Rattle.agent_model.specs.Snapshots.{informed, read_answered}
use Rattle.agent_model.specs.StayingPrimary.{accepted_failsafe, awaits_failsafe, counting, failsafe_answered, failsafe_answered_for, failsafe_asked, is_staying, stays, stays_if, unacknowledged, unacknowledged_as}
use Rattle.agent_model.specs.Table.{granted_any, refused_any, step}
use Rattle.agent_cases.proofs.Rows.{HandoverRows, dropping, looked-by, refused-any-by, operated-by, if-cases, refused-by, answered-when}
use Rattle.agent_cases.proofs.FailsafeRows.{failsafe-asked-by}
use Rattle.agent_cases.proofs.Grants.{DutyRows, GrantWhen, granted-any-by, kept_on, led_on, judges-start-by, renewed-by, takes-late-by, begins-or-claims-by, duties-of, leading_in_pause, takes-in-pause-by}
use Rattle.agent_roles.proofs.Granting.{Told, both-true}
use Rattle.agent_roles.proofs.Living.{no-way}
use Rattle.agent_roles.proofs.Staying.{before-leaves, before-waits}
use Rattle.agent_sending.specs.Modes.{KeepsMode, LeavesMode, TellsMode}
use Rattle.agent_sending.proofs.CheckingWakes.{Goes, asks-else, before-goes, goes-on, goes-then, got-goes, handover-goes, judged-goes, keeps-as, learned-goes, replies-go, rests, same-goes, told-goes, wake-goes}

-- ---- a grant
-- a row goes on, and what is known of a failsafe key stays so
record Both (mode : Bool) (o x : Outcome) : Type 0 where
  goes : Goes mode o x
  informed : x.knows.informed ≡ o.knows.informed

both-then : (mode : Bool) (a b c : Outcome) → Both mode a b → Goes mode b c
    → c.knows.informed ≡ b.knows.informed → Both mode a c
both-then mode a b c first second informed =
    record { goes = goes-then mode a b c first.goes second; informed = informed ∙ first.informed }

duty-goes : (mode : Bool) (now : Ticks) (revision : ℕ) (o led : Outcome) → Both mode o led
    → DutyRows (Both mode o) now revision led
duty-goes mode now revision o led both =
    let onto : (x : Outcome) → Goes mode led x → x.knows.informed ≡ led.knows.informed → Both mode o x =
    λ x next informed. both-then mode o led x both next informed in
    let judges : HandoverRows (Goes mode (unheard led)) now revision (unheard led) =
    handover-goes mode now revision (unheard led) in
    let quiet : Both mode o (unheard led) = onto (unheard led) (goes-on mode led _ refl refl refl) refl in record {
      plan = record {
        kept = both;
        writes = λ settling txn _.
            onto (writing_sync now settling txn led) (asks-else mode led _ _ refl refl refl refl) refl;
        adds = λ required. onto (requiring required (noting led)) (goes-on mode led _ refl refl refl) refl;
        drops = λ required. onto (requiring required led) (goes-on mode led _ refl refl refl) refl;
      };
      clears = λ compared. onto (dropping compared led) (goes-on mode led _ refl refl refl) refl;
      asks = λ candidate. onto (checking now candidate (unheard led)) (asks-else mode led _ _ refl refl refl refl) refl;
      judges = record {
        kept = both-then mode o (unheard led) _ quiet judges.kept refl;
        clears = λ compared. both-then mode o (unheard led) _ quiet (judges.clears compared) refl;
        hands = λ candidate. both-then mode o (unheard led) _ quiet (judges.hands candidate) refl;
      };
    }

takes-goes : (mode : Bool) (now ttl : Ticks) (revision : ℕ) (o : Outcome) → Both mode o (takes_key now ttl revision o)
takes-goes mode now ttl revision o =
    let back : Outcome = cannot_arm revision o in let arm : Outcome = arming now ttl o in
    if-cases (Both mode o) (may_take now o.knows o.machine) (arms now ttl revision o) (gives_back revision o)
    (λ _. if-cases (Both mode o) (is_refusing o.machine.watchdog.mode o.machine.watchdog.works) back
    (begins_or_claims now revision arm) (λ _. kept back (goes-on mode o _ refl refl refl) refl)
    (λ _. begins-or-claims-by (Both mode o) now revision arm
    (kept (begins now revision arm) (goes-on mode o _ refl refl refl) refl)
    (kept (claims now revision (passing arm)) (asks-else mode o _ _ refl refl refl refl) refl)))
    (λ _. kept (gives_back revision o) (goes-on mode o _ refl refl refl) refl)
  where
    kept : (x : Outcome) → Goes mode o x → x.knows.informed ≡ o.knows.informed → Both mode o x
    kept x goes informed = record { goes = goes; informed = informed }

-- what a lease brings that is used
lease-rows : (mode : Bool) (now : Ticks) (waited : PendingQuestion) (revision : ℕ) (o : Outcome)
    → GrantWhen (Both mode o) now waited revision o
lease-rows mode now waited revision o = record {
  other = kept o (same-goes mode o) refl;
  leader = λ held _ _ _. let led : Outcome = led_on now waited.ttl revision o in
      renewed-by (Both mode o) now waited.ttl revision o (kept _ (goes-on mode o _ refl refl refl) refl)
      (duty-goes mode now revision o led (kept led (goes-on mode o led refl refl refl) refl));
  keeps_late = λ held _ _ _. let led : Outcome = kept_on revision o in
      judges-start-by (Both mode o) now revision led (kept _ (goes-on mode o _ refl refl refl) refl)
      (duty-goes mode now revision o led (kept led (goes-on mode o led refl refl refl) refl));
  ends_late = λ _ _. kept _ (goes-on mode o _ refl refl refl) refl;
  refuses_late = λ _ _. kept _ (goes-on mode o _ refl refl refl) refl;
  returns_late = λ _ _. kept _ (goes-on mode o _ refl refl refl) refl;
  unleased = λ _ _ _. if-cases (Both mode o) (is_refusing o.machine.watchdog.mode o.machine.watchdog.works)
      (ending_server now WatchdogNotArmed o) (takes_over now revision (arming now waited.ttl o))
      (λ _. kept _ (goes-on mode o _ refl refl refl) refl) (λ _. kept _ (goes-on mode o _ refl refl refl) refl);
  takes = λ _ _ _. takes-goes mode now waited.ttl revision o;
  leads_in_pause = λ renews _ held _. let led : Outcome = leading_in_pause renews revision o in duties-of (Both mode o)
      now revision led (duty-goes mode now revision o led (kept led (goes-on mode o led refl refl refl) refl));
  unleased_in_pause = λ renews _ _. kept _ (goes-on mode o _ refl refl refl) refl;
  takes_in_pause = λ renews _ _.
      takes-in-pause-by (Both mode o) now renews revision o (kept _ (goes-on mode o _ refl refl refl) refl)
      (kept _ (goes-on mode o _ refl refl refl) refl) (kept _ (asks-else mode o _ _ refl refl refl refl) refl);
}
  where
    kept : (x : Outcome) → Goes mode o x → x.knows.informed ≡ o.knows.informed → Both mode o x
    kept x goes informed = record { goes = goes; informed = informed }

used-in-pause : (mode : Bool) (now : Ticks) (waited : PendingQuestion) (renews : Bool) (revision : ℕ) (role : RoleFacts)
    (o : Outcome) → o.role ≡ role → is_paused o.knows ≡ true → Both mode o (granted_in_pause now renews revision role o)
used-in-pause mode now waited renews revision (Leader held) o is paused =
    (lease-rows mode now waited revision o).leads_in_pause renews paused held is
used-in-pause mode now waited renews revision Unleased o is paused =
    (lease-rows mode now waited revision o).unleased_in_pause renews paused is
used-in-pause mode now waited renews revision Follower o is paused =
    (lease-rows mode now waited revision o).takes_in_pause renews paused (rw is refl)
used-in-pause mode now waited renews revision (Holder held) o is paused =
    (lease-rows mode now waited revision o).takes_in_pause renews paused (rw is refl)
used-in-pause mode now waited renews revision (Ready held) o is paused = (lease-rows mode now waited revision o).other
used-in-pause mode now waited renews revision (Ending held why) o is paused =
    (lease-rows mode now waited revision o).other

used-goes : (mode : Bool) (now : Ticks) (waited : PendingQuestion) (revision : ℕ) (role : RoleFacts) (o : Outcome)
    → o.role ≡ role → is_paused o.knows ≡ false → comes_late now waited o.machine ≡ false
    → Both mode o (lease_granted now waited.ttl revision role o)
used-goes mode now waited revision (Leader held) o is unpaused in_time =
    (lease-rows mode now waited revision o).leader held unpaused in_time is
used-goes mode now waited revision Unleased o is unpaused in_time =
    (lease-rows mode now waited revision o).unleased unpaused in_time is
used-goes mode now waited revision Follower o is unpaused in_time =
    (lease-rows mode now waited revision o).takes unpaused in_time (rw is refl)
used-goes mode now waited revision (Holder held) o is unpaused in_time =
    (lease-rows mode now waited revision o).takes unpaused in_time (rw is refl)
used-goes mode now waited revision (Ready held) o is unpaused in_time = (lease-rows mode now waited revision o).other
used-goes mode now waited revision (Ending held why) o is unpaused in_time =
    (lease-rows mode now waited revision o).other

used-late : (mode : Bool) (now : Ticks) (waited : PendingQuestion) (revision : ℕ) (role : RoleFacts) (o : Outcome)
    → o.role ≡ role → is_paused o.knows ≡ false → comes_late now waited o.machine ≡ true
    → Both mode o (granted_late now revision role o)
used-late mode now waited revision (Leader held) o is unpaused late =
    (lease-rows mode now waited revision o).keeps_late held unpaused late is
used-late mode now waited revision Unleased o is unpaused late =
    (lease-rows mode now waited revision o).ends_late unpaused is
used-late mode now waited revision Follower o is unpaused late =
    takes-late-by (Both mode o) now revision o
    ((lease-rows mode now waited revision o).refuses_late unpaused (rw is refl))
    ((lease-rows mode now waited revision o).returns_late unpaused (rw is refl))
used-late mode now waited revision (Holder held) o is unpaused late =
    takes-late-by (Both mode o) now revision o
    ((lease-rows mode now waited revision o).refuses_late unpaused (rw is refl))
    ((lease-rows mode now waited revision o).returns_late unpaused (rw is refl))
used-late mode now waited revision (Ready held) o is unpaused late = (lease-rows mode now waited revision o).other
used-late mode now waited revision (Ending held why) o is unpaused late = (lease-rows mode now waited revision o).other

-- its set is confirmed besides, if the snapshot has a failsafe key
confirm-goes : (mode : Bool) (snapshot : SnapshotFacts) (o x : Outcome) → TellsMode mode snapshot
    → Both mode (Told snapshot o) x → Goes mode o (confirming snapshot x)
confirm-goes mode snapshot o x tells both =
    let goes : Goes mode o x = goes-then mode o (Told snapshot o) x (told-goes mode snapshot o tells) both.goes in
    record {
      check = λ waited is staying. goes.check waited is staying;
      keeps = λ keeps. let kept : KeepsMode mode x.knows = goes.keeps keeps in record {
        settings = kept.settings;
        confirmed =
            λ e.
            known x.knows.confirmed (is_leader x.role) (is_some (failsafe_in snapshot)) e kept.confirmed both.informed;
        races = λ e. let may = kept.races e in record { turn = may.turn; listed = may.listed };
      };
    }
  where
    there : (a b : Bool) → b ≡ true → a || b ≡ true
    there true b e = refl
    there false b e = e

    known : (confirmed leads found : Bool) → confirmed || (leads && found) ≡ true
        → (confirmed ≡ true → x.knows.informed ≡ true) → x.knows.informed ≡ (o.knows.informed || found)
        → x.knows.informed ≡ true
    known true leads found e before-it informed = before-it refl
    known false true found e before-it informed = informed ∙ there o.knows.informed found e
    known false false found e before-it informed = absurd (no-way e)

-- a grant of what is waited for
granted-goes : (mode : Bool) (now : Ticks) (sequence : ℕ) (grant : Granted) (snapshot : SnapshotFacts) (o : Outcome)
    → TellsMode mode snapshot → Goes mode o (granted now sequence grant snapshot o)
granted-goes mode now sequence grant snapshot o tells = by-waited o.knows.waited
  where
    told : Outcome
    told = Told snapshot o

    used : (waited : PendingQuestion) → Goes mode o (accepted_grant now waited grant.revision snapshot o)
    used waited = if-cases (Goes mode o) (uses_lease (is_paused told.knows) waited.question o.role)
        (confirming snapshot (lease_used now waited grant.revision told)) (waiting_no_more o)
        (λ _. confirm-goes mode snapshot o (lease_used now waited grant.revision told) tells
        (if-cases (Both mode told) (is_paused told.knows)
        (granted_in_pause now (asks_renewal waited.question) grant.revision told.role told)
        (lease_heard now waited grant.revision told)
        (λ paused.
        used-in-pause mode now waited (asks_renewal waited.question) grant.revision told.role told refl paused)
        (λ unpaused. if-cases (Both mode told) (comes_late now waited told.machine)
        (granted_late now grant.revision told.role told) (lease_granted now waited.ttl grant.revision told.role told)
        (λ late. used-late mode now waited grant.revision told.role told refl unpaused late)
        (λ in_time. used-goes mode now waited grant.revision told.role told refl unpaused in_time))))
        (λ _. rests mode o (waiting_no_more o) refl refl)

    written : (x : Outcome) → Goes mode told x → Goes mode o x
    written x goes = goes-then mode o told x (told-goes mode snapshot o tells) goes

    syncs : (settling : Settling) → Goes mode o (settled settling told)
    syncs KeepsList = told-goes mode snapshot o tells
    syncs (NamesStandbys standbys) =
        written (requiring (waiting_for told.knows.settings standbys) told) (goes-on mode told _ refl refl refl)
    syncs ClearsList = written (requiring Nobody told) (goes-on mode told _ refl refl refl)

    claimed : (role : RoleFacts) → Goes mode o (sync_granted now Claiming role told)
    claimed (Ready revision) =
        if-cases (Goes mode o) (may_begin_on_claim told.knows told.machine.server) (begins now revision told)
        (postpones revision told) (λ _. written (begins now revision told) (goes-on mode told _ refl refl refl))
        (λ _. written (postpones revision told) (goes-on mode told _ refl refl refl))
    claimed Follower = told-goes mode snapshot o tells
    claimed (Holder held) = told-goes mode snapshot o tells
    claimed (Leader held) = told-goes mode snapshot o tells
    claimed (Ending held why) = told-goes mode snapshot o tells
    claimed Unleased = told-goes mode snapshot o tells

    writes : (question : Question) → Goes mode o (sync_granted now question o.role told)
    writes Claiming = claimed o.role
    writes (Syncing settling) = syncs settling
    writes Reading = told-goes mode snapshot o tells
    writes ComparingPositions = told-goes mode snapshot o tells
    writes Creating = told-goes mode snapshot o tells
    writes Renewing = told-goes mode snapshot o tells
    writes FindingCandidate = told-goes mode snapshot o tells
    writes StayingPrimary = told-goes mode snapshot o tells

    by-waited : (waited : Option PendingQuestion) → Goes mode o (granted_for now sequence grant snapshot waited o)
    by-waited None = same-goes mode o
    by-waited (Some waited) = if-cases (Goes mode o) (is_decision waited sequence && is_lease_of o.knows.who.me grant)
        (accepted_grant now waited grant.revision snapshot o) (granted_write now sequence grant snapshot waited o)
        (λ _. used waited)
        (λ _. if-cases (Goes mode o) (is_sync_decision waited sequence && is_write_of o.knows.who.me grant)
        (accepted_sync now waited snapshot o) o
        (λ _. if-cases (Goes mode o) (belongs waited.question o.role) (sync_granted now waited.question o.role told)
        (waiting_no_more o) (λ _. writes waited.question) (λ _. rests mode o (waiting_no_more o) refl refl))
        (λ _. same-goes mode o))

any-granted-goes : (mode : Bool) (now : Ticks) (sequence : ℕ) (grant : Granted) (snapshot : SnapshotFacts) (o : Outcome)
    → TellsMode mode snapshot → Goes mode o (granted_any now sequence grant snapshot o)
any-granted-goes mode now sequence grant snapshot o tells =
    granted-any-by (Goes mode o) now sequence grant snapshot o (same-goes mode o)
    (replies-go mode o (learned snapshot o) (learned-goes mode snapshot o tells))
    (granted-goes mode now sequence grant snapshot o tells)

-- ---- what else is heard
any-refused-goes : (mode : Bool) (now : Ticks) (sequence : ℕ) (o : Outcome) → Goes mode o (refused_any now sequence o)
any-refused-goes mode now sequence o = refused-any-by (Goes mode o) now sequence o
    (replies-go mode o o (same-goes mode o)) (refused-by (Goes mode o) now sequence o (record {
      kept = same-goes mode o;
      quiet = rests mode o (waiting_no_more o) refl refl;
      leader = λ held _. rests mode o _ refl refl;
      unleased = λ _. rests mode o _ refl refl;
      follower = λ held _. rests mode o _ refl refl;
      ready = λ held _. rests mode o _ refl refl;
      runs_on = λ _. rests mode o _ refl refl;
    }))

answered-goes : (mode : Bool) (now : Ticks) (sequence : ℕ) (answer : PeerAnswer) (o : Outcome)
    → Goes mode o (answered now sequence answer o)
answered-goes mode now sequence answer o =
    let kept : Goes mode o (keeping answer o) = goes-on mode o (keeping answer o) refl refl refl in
    let onto : (x : Outcome) → Goes mode (keeping answer o) x → Goes mode o x =
    λ x goes. goes-then mode o (keeping answer o) x kept goes in
    answered-when (Goes mode o) now sequence answer o (record {
      kept = same-goes mode o;
      quiet = rests mode o (waiting_no_more o) refl refl;
      keeps = kept;
      judges = λ _ _. onto (judged now (keeping answer o)) (judged-goes mode now (keeping answer o));
      checks = λ held _. let rows : HandoverRows (Goes mode (keeping answer o)) now held (keeping answer o) =
          handover-goes mode now held (keeping answer o) in record {
            kept = onto _ rows.kept;
            clears = λ compared. onto _ (rows.clears compared);
            hands = λ candidate. onto _ (rows.hands candidate);
          };
    })

failsafe-asked-goes : (mode : Bool) (now : Ticks) (from : MemberId) (incarnation sequence : ℕ) (ttl : Ticks)
    (o : Outcome) → Goes mode o (failsafe_asked now from incarnation sequence ttl o)
failsafe-asked-goes mode now from incarnation sequence ttl o = failsafe-asked-by (Goes mode o) now from
    incarnation sequence ttl o (λ _. goes-on mode o _ refl refl refl) (goes-on mode o _ refl refl refl)

-- ---- an answer to a failsafe request
-- the agent counts this yes of the member among those that it waits for
pub record Counts (from : MemberId) (sequence : ℕ) (sent : Ticks) (mode : Bool) (o x : Outcome) : Type 0 where
  pub waits : x.knows.waited ≡ o.knows.waited
  pub awaited : (waited : PendingQuestion) → o.knows.waited ≡ Some waited → waited.sequence ≡ sequence
  pub ask : x.knows.failsafe ≡ ask_heard o.knows.failsafe from true sent
  pub keeps : KeepsMode mode o.knows → KeepsMode mode x.knows

abbrev HearsSo : MemberId → ℕ → Bool → Ticks → Bool → Outcome → Outcome → Type 0
HearsSo from sequence accepted sent mode o x = Goes mode o x ⊎ ((accepted ≡ true) × Counts from sequence sent mode o x)

-- who waits for nothing more, and whose server may end
ends-goes : (mode : Bool) (now : Ticks) (o : Outcome) → Goes mode o (unacknowledged now o)
ends-goes mode now o =
    if-cases (Goes mode o) (is_paused o.knows) (waiting_no_more o) (unacknowledged_as now o.role (waiting_no_more o))
    (λ _. rests mode o (waiting_no_more o) refl refl) (λ _. by-role o.role)
  where
    by-role : (role : RoleFacts) → Goes mode o (unacknowledged_as now role (waiting_no_more o))
    by-role (Leader held) = rests mode o _ refl refl
    by-role Follower = rests mode o _ refl refl
    by-role (Holder held) = rests mode o _ refl refl
    by-role (Ready held) = rests mode o _ refl refl
    by-role (Ending held why) = rests mode o _ refl refl
    by-role Unleased = rests mode o _ refl refl

hears-yes : (now : Ticks) (from : MemberId) (sequence : ℕ) (sent : Ticks) (mode : Bool) (waited : PendingQuestion)
    (all : Option Ticks) (o : Outcome) → o.knows.waited ≡ Some waited → waited.sequence ≡ sequence
    → HearsSo from sequence true sent mode o (stays_if now waited all (counting from sent o))
hears-yes now from sequence sent mode waited None o is number = inr (
  refl,
  record {
    waits = refl;
    awaited = λ one e. ap (λ (w : PendingQuestion). w.sequence) (some-is one waited (sym e ∙ is)) ∙ number;
    ask = refl;
    keeps = keeps-as mode o.knows (counting from sent o).knows refl (λ keeps awaits. keeps.races awaits);
  },
)
hears-yes now from sequence sent mode waited (Some since) o is number =
    if-cases (HearsSo from sequence true sent mode o) (not (is_paused o.knows) && comes_late now waited o.machine)
    (waiting_no_more (counting from sent o)) (stays now waited.ttl waited.sequence since (counting from sent o))
    (λ _. inl (rests mode o _ refl refl)) (λ _. inl (rests mode o _ refl refl))

hears-as : (now : Ticks) (from : MemberId) (sequence : ℕ) (accepted : Bool) (sent : Ticks) (mode : Bool)
    (waited : PendingQuestion) (role : RoleFacts) (o : Outcome) → o.knows.waited ≡ Some waited
    → waited.sequence ≡ sequence
    → HearsSo from sequence accepted sent mode o (accepted_failsafe now waited from accepted sent role o)
hears-as now from sequence true sent mode waited (Leader held) o is number =
    hears-yes now from sequence sent mode waited (moment_of_all (ask_heard o.knows.failsafe from true sent)) o is number
hears-as now from sequence false sent mode waited (Leader held) o is number = inl (ends-goes mode now o)
hears-as now from sequence accepted sent mode waited Follower o is number = inl (rests mode o _ refl refl)
hears-as now from sequence accepted sent mode waited (Holder held) o is number = inl (rests mode o _ refl refl)
hears-as now from sequence accepted sent mode waited (Ready held) o is number = inl (rests mode o _ refl refl)
hears-as now from sequence accepted sent mode waited (Ending held why) o is number = inl (rests mode o _ refl refl)
hears-as now from sequence accepted sent mode waited Unleased o is number = inl (rests mode o _ refl refl)

same-number : (n sequence : ℕ) → n == sequence ≡ true → n ≡ sequence
same-number n sequence e = grind (arith, nat_tests)

pub failsafe-answered-goes : (now : Ticks) (from : MemberId) (sequence : ℕ) (accepted : Bool) (sent : Ticks)
    (mode : Bool) (o : Outcome)
    → HearsSo from sequence accepted sent mode o (failsafe_answered now from sequence accepted sent (reconciled now o))
failsafe-answered-goes now from sequence accepted sent mode o = elim (by b.knows.waited refl) [
  | inl goes ↦ inl (goes-then mode o b (failsafe_answered now from sequence accepted sent b) first goes)
  | inr counts ↦ inr (
    counts.0,
    record {
      waits = counts.1.waits ∙ before-waits now o;
      awaited = λ waited is. counts.1.awaited waited (before-waits now o ∙ is);
      ask = counts.1.ask ∙ ap (λ (ask : Ask). ask_heard ask from true sent) (before-leaves now o).asked;
      keeps = λ keeps. counts.1.keeps (first.keeps keeps);
    },
  )
]
  where
    b : Outcome
    b = reconciled now o

    first : Goes mode o b
    first = before-goes mode now o

    by : (waited : Option PendingQuestion) → b.knows.waited ≡ waited
        → HearsSo from sequence accepted sent mode b (failsafe_answered_for now from sequence accepted sent waited b)
    by None is = inl (same-goes mode b)
    by (Some waited) is = if-cases (HearsSo from sequence accepted sent mode b)
        (awaits_failsafe waited sequence) (accepted_failsafe now waited from accepted sent b.role b) b
        (λ awaits. hears-as now from sequence accepted sent mode waited b.role b is
        (same-number waited.sequence sequence
        (both-true (is_staying waited.question) (waited.sequence == sequence) awaits).1))
        (λ _. inl (same-goes mode b))

-- ---- the whole of an input
pub got-step-goes : (mode : Bool) (now : Ticks) (points : List HistoryPoint) (sequence : ℕ)
    (snapshot : SnapshotFacts) (o : Outcome) → TellsMode mode snapshot
    → Goes mode o (read_answered now points sequence snapshot (looked sequence snapshot (reconciled now o)))
got-step-goes mode now points sequence snapshot o tells =
    let b : Outcome = reconciled now o in let p : Outcome = looked sequence snapshot b in
    goes-then mode o p (read_answered now points sequence snapshot p)
    (looked-by (Goes mode o) sequence snapshot b (replies-go mode o b (before-goes mode now o)))
    (got-goes mode now points sequence snapshot p tells)

pub granted-step-goes : (mode : Bool) (now : Ticks) (sequence : ℕ) (grant : Granted) (snapshot : SnapshotFacts)
    (o : Outcome) → TellsMode mode snapshot → Goes mode o (granted_any now sequence grant snapshot (reconciled now o))
granted-step-goes mode now sequence grant snapshot o tells = goes-then mode o (reconciled now o) _
    (before-goes mode now o) (any-granted-goes mode now sequence grant snapshot (reconciled now o) tells)

pub refused-step-goes : (mode : Bool) (now : Ticks) (sequence : ℕ) (o : Outcome)
    → Goes mode o (refused_any now sequence (reconciled now o))
refused-step-goes mode now sequence o = goes-then mode o (reconciled now o) _ (before-goes mode now o)
    (any-refused-goes mode now sequence (reconciled now o))

pub asked-step-goes : (mode : Bool) (now : Ticks) (from : MemberId) (incarnation sequence : ℕ) (o : Outcome)
    → Goes mode o (asked from incarnation sequence (reconciled now o))
asked-step-goes mode now from incarnation sequence o =
    goes-then mode o (reconciled now o) _ (before-goes mode now o) (goes-on mode (reconciled now o) _ refl refl refl)

pub answered-step-goes : (mode : Bool) (now : Ticks) (sequence : ℕ) (answer : PeerAnswer) (o : Outcome)
    → Goes mode o (answered now sequence answer (reconciled now o))
answered-step-goes mode now sequence answer o = goes-then mode o (reconciled now o) _ (before-goes mode now o)
    (answered-goes mode now sequence answer (reconciled now o))

pub failsafe-asked-step-goes : (mode : Bool) (now : Ticks) (from : MemberId) (incarnation sequence : ℕ)
    (ttl : Ticks) (o : Outcome) → Goes mode o (failsafe_asked now from incarnation sequence ttl (reconciled now o))
failsafe-asked-step-goes mode now from incarnation sequence ttl o = goes-then mode o (reconciled now o) _
    (before-goes mode now o) (failsafe-asked-goes mode now from incarnation sequence ttl (reconciled now o))

pub operated-step-goes : (mode : Bool) (now : Ticks) (action : OperatorAction) (o : Outcome)
    → Goes mode o (operated now action.request action.asked (reconciled now o))
operated-step-goes mode now action o = let b : Outcome = reconciled now o in
    operated-by (Goes mode o) now action.request action.asked b (record {
      asks = λ operation txn _. goes-then mode o b _ (before-goes mode now o) (goes-on mode b _ refl refl refl);
      restarts = λ told. goes-then mode o b _ (before-goes mode now o) (goes-on mode b _ refl refl refl);
      wipes = λ told. goes-then mode o b _ (before-goes mode now o) (goes-on mode b _ refl refl refl);
      holds = λ ttl told _. goes-then mode o b _ (before-goes mode now o) (goes-on mode b _ refl refl refl);
      refuses = λ told. goes-then mode o b _ (before-goes mode now o) (goes-on mode b _ refl refl refl);
    })

-- an input leaves what is known of the mode so
pub mode-kept : (now : Ticks) (points : List HistoryPoint) (heard : Heard) (o : Outcome)
    → LeavesMode heard o (step now points heard o)
mode-kept now points Wake o mode hears keeps =
    elim (wake-goes mode now o) [ inl goes ↦ goes.keeps keeps | inr begun ↦ begun.keeps keeps ]
mode-kept now points (ReadAnswered sequence snapshot) o mode hears keeps =
    (got-step-goes mode now points sequence snapshot o hears).keeps keeps
mode-kept now points (HeardGranted sequence grant snapshot) o mode hears keeps =
    (granted-step-goes mode now sequence grant snapshot o hears).keeps keeps
mode-kept now points (Mismatch sequence key found) o mode hears keeps =
    (refused-step-goes mode now sequence o).keeps keeps
mode-kept now points (Asked from incarnation sequence) o mode hears keeps =
    (asked-step-goes mode now from incarnation sequence o).keeps keeps
mode-kept now points (Answered sequence answer) o mode hears keeps =
    (answered-step-goes mode now sequence answer o).keeps keeps
mode-kept now points (FailsafeAsked from incarnation sequence ttl) o mode hears keeps =
    (failsafe-asked-step-goes mode now from incarnation sequence ttl o).keeps keeps
mode-kept now points (FailsafeAnswered from sequence accepted sent) o mode hears keeps =
    elim (failsafe-answered-goes now from sequence accepted sent mode
    o) [ inl goes ↦ goes.keeps keeps | inr counts ↦ counts.1.keeps keeps ]
mode-kept now points (HearsOperator action) o mode hears keeps = (operated-step-goes mode now action o).keeps keeps
