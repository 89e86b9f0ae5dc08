-- Each input of the table is lawful, by what is heard.
use Rattle.std.proofs.Common.{◌≡◌, ◌⊎◌, ℕ, ◌+◌, ◌≤◌, ◌<◌, ◌==◌, ◌&&◌, not, if◌then◌else◌, Bool, true, false, List, [], Option, Some, None, All, refl, sym, subst, ap, ◌∙◌, inl, inr}
use Rattle.std.proofs.lemmas.List.Elements.{All-nil}
use Rattle.pat_base.specs.declared.member_id.MemberId.{MemberId}
use Rattle.pat_base.specs.declared.member_set.MemberSet.{MemberSet}
use Rattle.pat_base.specs.declared.peer_answer.PeerAnswer.{PeerAnswer}
use Rattle.pat_base.specs.declared.ticks.Ticks.{Ticks}
use Rattle.pat_base.specs.ServerState.{live}
use Rattle.lease_store.specs.declared.granted.Granted.{Granted}
use Rattle.store_keys.specs.declared.key.Key.TheVariants as keys
use Rattle.wal_model.specs.declared.entry.HistoryPoint.{HistoryPoint}
use Rattle.cluster_view.specs.Snapshots.{SnapshotFacts, entry_in, failsafe_by, found_by}
use Rattle.leader_key.specs.Watchdog.{is_armable, timeout_of}
use Rattle.store_keys.specs.declared.config.Config.{Config}
use Rattle.store_keys.specs.declared.value.KeyEntry.{KeyEntry}
use Rattle.failsafe.specs.Asks.{asked as ask_of}
use Rattle.failsafe.specs.declared.asks.Ask.{Ask}
use Rattle.failsafe.specs.Listing.{without_member}
use Rattle.failsafe.proofs.Members.{differ, has-nobody, numbers-same}
use Rattle.failsafe.proofs.Present.{without-has}
use Rattle.lease_model.specs.Leases.{FailsafeKey}
use Rattle.lease_model.specs.States.{Agent as AgentSeen, FailsafeCheck, Machine as MachineSeen, State}
use Rattle.lease_model.specs.Inputs.{AgentInput, HeardFailsafe, FedKnown, WatchdogMay, SetByGrant, SetAlone, Owns, MayCreate, MayRequestFailsafe, ContinuesCheck, BeginsCheck}
use Rattle.event_book.specs.Functions.{set_members}
use Rattle.lease_model.proofs.Tools.{some-is, none-some}
use Rattle.agent_model.specs.declared.heard.Heard.{Heard}
use Rattle.agent_model.specs.declared.heard.Heard.TheVariants.{Wake, ReadAnswered, Granted as HeardGranted, Mismatch, Asked, Answered, FailsafeAsked, FailsafeAnswered, Operated as HearsOperator}
use Rattle.agent_model.specs.declared.knowledge.FailsafeRead.{FailsafeRead}
use Rattle.agent_model.specs.FailsafeKeys.{failsafe_compared, failsafe_expected, failsafe_read_by, failsafe_read_at}
use Rattle.agent_model.specs.StayingPrimary.{is_staying, others_known}
use Rattle.agent_model.specs.Acting.{lease_span}
use Rattle.agent_model.specs.Peers.{awaits_others}
use Rattle.agent_model.specs.Snapshots.{read_noted}
use Rattle.agent_model.specs.declared.knowledge.Knowledge.{Knowledge}
use Rattle.agent_model.specs.declared.knowledge.PendingQuestion.{PendingQuestion}
use Rattle.agent_model.specs.declared.machine.Machine.{Machine}
use Rattle.agent_model.specs.declared.output.Output.{Output}
use Rattle.agent_model.specs.declared.who.Who.{Who}
use Rattle.agent_model.specs.Agents.{RoleFacts, EndsAlone, IsSoundAgent, Outcome, outcome_from, is_ready}
use Rattle.agent_model.specs.Reconciling.{reconciled}
use Rattle.agent_model.specs.Decisions.{asks_lease, is_lease_of}
use Rattle.agent_sending.specs.Modes.{KeepsMode, MayTakeKey}
use Rattle.agent_lease_law.specs.Lawful.{CanFeed, StandsIn, HearsAnswer, TellsLease, HearsGrant, IsInputOf, MayPromote, IsLawfulAnd, IsLawfulFrom}
use Rattle.agent_roles.specs.Powers.{AcknowledgesOperated, Acts, BringsNothing, DeadlineMay, LeavesMachine, IsAwaitedLease, StaysAlone, GrantMay, leads, lease_of}
use Rattle.agent_roles.specs.Powers.DeadlineMay.{Kept as DeadlineKept, Removed as DeadlineRemoved, Undone as DeadlineUndone}
use Rattle.agent_roles.proofs.Acknowledging.{operated-leaves, wake-leaves}
use Rattle.agent_roles.specs.Powers.GrantMay.{Nothing, Leads, Keeps, Rests, Begins}
use Rattle.agent_roles.specs.Seen.{check_seen, failsafe_entry_seen, failsafe_listed, failsafe_read_seen}
use Rattle.agent_model.specs.Peers.{asked, answered}
use Rattle.agent_model.specs.Snapshots.{read_answered}
use Rattle.store_keys.specs.declared.action.OperatorAction.{OperatorAction}
use Rattle.store_keys.specs.declared.action.OperatorRequest.{OperatorRequest}
use Rattle.store_keys.specs.declared.action.OperatorRequest.TheVariants as requests
use Rattle.agent_model.specs.Fits.{Fits}
use Rattle.agent_model.specs.Operators.{given_up, looked, operated}
use Rattle.agent_model.specs.Table.{step, granted_any, refused_any}
use Rattle.agent_model.specs.Wake.{overdue, turned, woken}
use Rattle.agent_roles.proofs.Bringing.{acting-brings, any-refused-brings, operated-brings, ready-leads, brings-then, before-brings, overdue-brings, turn-brings, wake-brings, got-brings, answer-brings, read-brings, refusal-brings, asked-brings, answered-brings}
use Rattle.agent_roles.proofs.Fitting.{before-fits, ready-same}
use Rattle.agent_roles.proofs.Granting.{both-true, awaited-lease, any-granted-may as grant-may}
use Rattle.agent_roles.proofs.GoingOn.{told-pause, IsAlone, alone-of, Onward, onward-then}
use Rattle.agent_roles.proofs.Knowing.{any-granted-onward, any-refused-onward, looked-onward, operated-onward, before-onward, wake-onward, got-onward, answered-onward, asked-onward}
use Rattle.agent_sending.proofs.CheckingWakes.{Begins as BeginsToStay, Goes, free-takes, wake-goes}
use Rattle.agent_sending.proofs.Checking.{answered-step-goes, asked-step-goes, got-step-goes, granted-step-goes, operated-step-goes, refused-step-goes}
use Rattle.agent_lease_law.proofs.Lawful.{AreLawfulGrounds, lease-only, ready-left, takes-nothing, watchdog-by, watchdog-left, was_of, acts-seen, seen-acts, watchdog-kept, watchdog-leaves, parted-by, lawful-of}
use Rattle.agent_lease_law.proofs.LawfulGrants.{heard-leader, heard-failsafe, hears-grant, fed-of, entry-known, armable-before, late-before, new-deadline, free-of}
use Rattle.agent_roles.proofs.Leaving.{given-up-fits, acts-before, stays, told-fits, leaves-then, before-leaves, read-leaves, refusal-leaves, asked-leaves, answered-leaves}
use Rattle.agent_roles.proofs.Living.{no-way}
use Rattle.agent_roles.proofs.Staying.{before-waits, stays-unpaused}
use Rattle.agent_cases.proofs.Rows.{wake-by, looked-by}
use Rattle.agent_lease_law.proofs.Behind.{BeginsOn, grant-begins, begins-weaker}
use Rattle.agent_lease_law.proofs.Behind.BeginsOn.{WasReady, OnLease}
use Rattle.agent_sending.proofs.MaySend.{Grounds, IsSilent, AllMay}
use Rattle.agent_sending.proofs.StayingSends.{AsksToStay, staying, wake-may}
use Rattle.agent_sending.proofs.Sending.{CreatesOnRead, operated-may, Decides, got-may, refused-may, granted-may as granted-sends, asked-may, answered-may}
use Rattle.agent_lease_law.proofs.LawfulWaits.{Ungranted, ungranted-lawful, checks-waited, seen-check, goes-check, lawful-with, without-grant, AsksLeases, span-of, later-deadline, settings-span, leader-leads, leader-unready, failsafe-deadline, failsafe-basis}
use Rattle.agent_lease_law.proofs.LawfulFailsafe.{failsafe-asked-lawful, failsafe-answered-lawful}

-- ---- what a create expects
-- who may take the key may create as it compares
may-create : (s : State) (m : ℕ) (heard : Option ℕ) (was : AgentSeen) (knows : Knowledge)
    → MayTakeKey s.declared.failsafe knows → knows.who.me.number ≡ m
    → ((key : FailsafeKey) → failsafe_read_seen knows.turn_failsafe ≡ Some key →
    (was.failsafe ≡ Some key) ⊎ HeardFailsafe s heard key)
    → MayCreate s m heard was (failsafe_compared knows)
may-create s m heard was knows may me read = by knows.turn_settings.failsafe_mode refl
  where
    expects : s.declared.failsafe ≡ true → (turn : Option FailsafeRead) → knows.turn_failsafe ≡ turn
        → MayCreate s m heard was (Some (failsafe_expected turn))
    expects on None is = tt
    expects on (Some one) is = (
      record { revision = one.revision; members = set_members one.members },
      read (record { revision = one.revision; members = set_members one.members })
          (ap (λ (x : Option FailsafeRead). failsafe_read_seen x) is),
      refl,
      subst (λ (n : ℕ). set_members one.members n ≡ true) me (may.listed on one is),
    )

    by : (mode : Bool) → knows.turn_settings.failsafe_mode ≡ mode
        → MayCreate s m heard was (if mode then Some (failsafe_expected knows.turn_failsafe) else None)
    by true is = expects (sym may.turn ∙ is) knows.turn_failsafe refl
    by false is = sym may.turn ∙ is

-- one that compares positions
compares-create : (s : State) (m runs : ℕ) (now : Ticks) (input : AgentInput) (o : Outcome) → StandsIn s m runs now o
    → awaits_others o.knows.waited ≡ true → MayCreate s m input.heard (was_of o) (failsafe_compared o.knows)
compares-create s m runs now input o stands awaits =
    may-create s m input.heard (was_of o) o.knows (stands.mode.races awaits) stands.me (λ key e. inl e)

wake-parted : (now : Ticks) (o : Outcome) → is_ready (woken now o).role ≡ true
    → live (woken now o).machine.server.state ≡ false
wake-parted now o = let b : Outcome = given_up now (reconciled now o) in
    wake-by (λ (x : Outcome). is_ready x.role ≡ true → live x.machine.server.state ≡ false) now o
    (parted-by (reconciled now o) (reconciled now o) (before-fits now o)
    (record { live = λ e. e; leads = λ e. e; ready = λ e. e; lease = λ revision e. e }))
    (parted-by b (turned now (overdue now b)) (given-up-fits now o)
    (brings-then b (overdue now b) (turned now (overdue now b)) (overdue-brings now b)
    (turn-brings now (overdue now b))))

-- what is waited for behind it was waited for before it
abbrev awaited-before : (sequence : ℕ) (grant : Granted) (o b : Outcome) → b.knows.waited ≡ o.knows.waited
    → b.knows.who ≡ o.knows.who → IsAwaitedLease sequence grant b.knows → IsAwaitedLease sequence grant o.knows
awaited-before sequence grant o b waits who awaited = record {
  waited = awaited.waited;
  is = sym waits ∙ awaited.is;
  decision = awaited.decision;
  mine = subst (λ (w : Who). is_lease_of w.me grant ≡ true) who awaited.mine;
}

-- a revision that the grant gives which is waited for, or that of the agent's lease
abbrev Gives : ℕ → Granted → Outcome → ℕ → Type 0
Gives sequence grant b revision =
    (Decides sequence grant b × (grant.revision ≡ revision)) ⊎ (lease_of b.role ≡ Some revision)

abbrev awaited-by : (sequence : ℕ) (grant : Granted) (now : Ticks) (o : Outcome)
    → Decides sequence grant (reconciled now o) → IsAwaitedLease sequence grant o.knows
awaited-by sequence grant now o decides =
    awaited-before sequence grant o (reconciled now o) (before-waits now o) (before-onward None now o).who
    (awaited-lease sequence grant (reconciled now o) decides.0 decides.1 decides.2)

gives-owns : (s : State) (m runs sequence : ℕ) (input : AgentInput) (now : Ticks) (grant : Granted)
    (snapshot : SnapshotFacts) (o : Outcome) → StandsIn s m runs now o
    → HearsGrant s m input.heard sequence grant snapshot o
    → IsAwaitedLease sequence grant o.knows → (revision : ℕ) → grant.revision ≡ revision
    → Owns s m input.heard (was_of o) revision
gives-owns s m runs sequence input now grant snapshot o stands hears awaited revision is =
    inr (
      (hears.lease awaited).told,
      hears-grant s m runs sequence input.heard now grant snapshot o stands hears awaited,
      (hears.lease awaited).revision ∙ is,
    )

-- what an input that hears a grant brings of the leader key
record Brought (s : State) (m : ℕ) (input : AgentInput) (o after : Outcome) : Type 0 where
  watchdog : WatchdogMay s m input (was_of o) (was_of after)
  parted : is_ready after.role ≡ true → live after.machine.server.state ≡ false
  leads_by : leads after.role ≡ true → (leads o.role ≡ true) ⊎ FedKnown s m input (was_of after)
  lease : (revision : ℕ) → lease_of after.role ≡ Some revision → Owns s m input.heard (was_of o) revision
  ready : is_ready after.role ≡ true → after.machine.by_failsafe ≡ false

-- what two inputs, one behind the other, do to the deadline
deadline-then : (o middle after : Outcome) → LeavesMachine o middle
    → Fits middle.role (live middle.machine.server.state) → DeadlineMay middle after
    → BringsNothing middle after → DeadlineMay o after
deadline-then o middle after first fits deadline brings =
    elim (leaves-then o middle kept first fits (record { deadline = second; basis = refl; hold = refl })
    (record { live = brings.live; leads = brings.leads; ready = brings.ready; lease = brings.lease })).deadline [
      | DeadlineKept same ↦ DeadlineKept same
      | DeadlineRemoved is rests ↦ DeadlineRemoved is rests
      | DeadlineUndone is ready lives ↦ DeadlineUndone is ready lives
    ]
  where
    kept : Outcome
    kept = record after {
      machine = record after.machine { by_failsafe = middle.machine.by_failsafe; hold = middle.machine.hold };
    }

    second : DeadlineMay middle kept
    second = elim deadline [
      | DeadlineKept same ↦ DeadlineKept same
      | DeadlineRemoved is rests ↦ DeadlineRemoved is rests
      | DeadlineUndone is ready lives ↦ DeadlineUndone is ready lives
    ]

-- who waited for a lease waits for no acknowledgements behind its grant
no-check : (mode : Bool) (sequence : ℕ) (grant : Granted) (o after : Outcome) → Goes mode o after
    → IsAwaitedLease sequence grant o.knows → check_seen after.knows.failsafe after.knows.waited ≡ None
no-check mode sequence grant o after goes awaited = by after.knows.waited refl
  where
    by-test : (one : PendingQuestion) (test : Bool) → is_staying one.question ≡ test
        → after.knows.waited ≡ Some one → check_seen after.knows.failsafe (Some one) ≡ None
    by-test one false staying is = rw staying refl
    by-test one true staying is =
        let same : one ≡ awaited.waited = some-is one awaited.waited (sym (goes.check one is staying).0 ∙ awaited.is) in
        absurd (no-way (sym (lease-only awaited.waited.question
        (both-true (asks_lease awaited.waited.question) (awaited.waited.sequence == sequence) awaited.decision).0)
        ∙ (ap (λ (w : PendingQuestion). is_staying w.question) (sym same) ∙ staying)))

    by : (waited : Option PendingQuestion) → after.knows.waited ≡ waited → check_seen after.knows.failsafe waited ≡ None
    by None is = refl
    by (Some one) is = by-test one (is_staying one.question) refl is

-- a deadline by a grant is by no acknowledgements
by-grant-now : (armable by_failsafe : Bool) → armable ≡ true → not armable && by_failsafe ≡ false
by-grant-now armable by_failsafe is = rw is refl

leads-brought : (s : State) (m runs sequence : ℕ) (input : AgentInput) (now : Ticks) (grant : Granted)
    (snapshot : SnapshotFacts) (o after : Outcome) → AsksLeases o.knows → StandsIn s m runs now o
    → HearsGrant s m input.heard sequence grant snapshot o → IsInputOf s m runs o after input
    → GrantMay now sequence grant snapshot (reconciled now o) after → Goes s.declared.failsafe o after
    → Brought s m input o after
leads-brought s m runs sequence input now grant snapshot o after sound stands hears is (Nothing brings deadline basis)
    goes =
    let all : BringsNothing o after = brings-then o (reconciled now o) after (before-brings now o) brings in record {
      watchdog = watchdog-left s m runs input now o after stands is
          (deadline-then o (reconciled now o) after (before-leaves now o) (before-fits now o) deadline brings)
          (basis ∙ (before-leaves now o).basis) all;
      parted = parted-by (reconciled now o) after (before-fits now o) brings;
      leads_by = λ e. inl (all.leads e);
      lease = λ revision e. inl (all.lease revision e);
      ready = ready-left s m runs now o after stands all (basis ∙ (before-leaves now o).basis);
    }
leads-brought s m runs sequence input now grant snapshot o after sound stands hears is
    (Begins was-ready ready same basis lease) goes =
    let ready-before : is_ready o.role ≡ true = (before-brings now o).ready was-ready in record {
      watchdog = watchdog-kept s m runs input now o after stands is (same ∙ ready-same now o was-ready)
          (basis ∙ (before-leaves now o).basis) (λ _. seen-acts (s.members m) runs o stands.member (inr ready-before));
      parted = λ e. absurd (no-way (sym ready ∙ e));
      leads_by = λ _. inl (ready-leads o.role ready-before);
      lease = λ revision e. inl ((before-brings now o).lease revision (sym lease ∙ e));
      ready = λ e. absurd (no-way (sym ready ∙ e));
    }
leads-brought s m runs sequence input now grant snapshot o after sound stands hears is
    (Leads later in_time fed basis lease parted known told free armed) goes =
    let b : Outcome = reconciled now o in
    let awaited : IsAwaitedLease sequence grant o.knows =
    awaited-before sequence grant o b (before-waits now o) (before-onward None now o).who later in
    let tells : TellsLease grant snapshot o.machine awaited.waited hears.answer.answer = hears.lease awaited in
    let can : is_armable b.machine.watchdog.mode b.machine.watchdog.works ≡ true =
    armable-before o b (before-leaves now o) tells.feeds.armable in
    let by-grant : after.machine.by_failsafe ≡ false = basis
    ∙ by-grant-now (is_armable b.machine.watchdog.mode b.machine.watchdog.works) b.machine.by_failsafe can in
    let waits-else : check_seen after.knows.failsafe after.knows.waited ≡ None =
    no-check s.declared.failsafe sequence grant o after goes awaited in
    let knows-it : FedKnown s m input (was_of after) = record {
      fed = fed-of s m runs sequence input.heard now grant snapshot o stands hears awaited
          (span-of o.knows awaited.waited sound awaited.is)
          (late-before now awaited.waited o b (before-leaves now o) in_time);
      feeds = is.feeds ∙ told can;
      by_grant = ap (λ (x : MachineSeen). x.by_failsafe) is.machine ∙ by-grant;
      known = λ key e p listed. ap (λ (set : MemberSet). set_members set p) known
          ∙ entry-known b.knows.known (entry_in keys.Failsafe snapshot) key (sym tells.failsafe ∙ e) p listed;
    } in record {
      watchdog = SetByGrant knows-it
          (ap (λ (x : MachineSeen). x.deadline) is.machine
          ∙ new-deadline now awaited.waited.ttl.0 o b after (before-leaves now o) tells.feeds.armable fed)
          waits-else
          (λ acts. elim (free (acts-seen input.machine runs after is.machine acts)) [
            | inl was ↦ inl (seen-acts (s.members m) runs o stands.member (inl ((before-brings now o).live was)))
            | inr over ↦ inr (free-of s m runs now o b stands (before-leaves now o) over)
          ]);
      parted = parted;
      leads_by = λ e. inr knows-it;
      lease = λ revision e. gives-owns s m runs sequence input now grant snapshot o stands hears awaited revision
          (some-is grant.revision revision (sym lease ∙ e));
      ready = λ _. by-grant;
    }
leads-brought s m runs sequence input now grant snapshot o after sound stands hears is
    (Keeps later late led same basis lease ready known lives) goes =
    let b : Outcome = reconciled now o in
    let awaited : IsAwaitedLease sequence grant o.knows =
    awaited-before sequence grant o b (before-waits now o) (before-onward None now o).who later in
    let on : Outcome =
    record b { machine = record after.machine { by_failsafe = b.machine.by_failsafe; hold = b.machine.hold } } in
    let lived : Acts after → live after.machine.server.state ≡ true =
    λ acts. elim acts [ inl live ↦ live | inr again ↦ absurd (no-way (sym ready ∙ again)) ] in
    let deadline : DeadlineMay o after =
    elim (leaves-then o b on (before-leaves now o) (before-fits now o)
    (record { deadline = DeadlineKept same; basis = refl; hold = refl })
    (record { live = lives; leads = λ e. e; ready = λ e. e; lease = λ revision e. e })).deadline [
      | DeadlineKept kept ↦ DeadlineKept kept
      | DeadlineRemoved gone rests ↦ DeadlineRemoved gone (λ acts. rests (inl (lived acts)))
      | DeadlineUndone gone was-ready live ↦ DeadlineUndone gone was-ready live
    ] in record {
      watchdog = watchdog-by s m runs input now o after stands is deadline (basis ∙ (before-leaves now o).basis)
          (λ acts. inl ((before-brings now o).live (lives (lived acts))));
      parted = λ e. absurd (no-way (sym ready ∙ e));
      leads_by = λ _. inl ((before-brings now o).leads (leader-leads b.role led));
      lease = λ revision e. gives-owns s m runs sequence input now grant snapshot o stands hears awaited revision
          (some-is grant.revision revision (sym lease ∙ e));
      ready = λ e. absurd (no-way (sym ready ∙ e));
    }
leads-brought s m runs sequence input now grant snapshot o after sound stands hears is
    (Rests paused later rested lease free) goes =
    absurd (no-way (sym (stays-unpaused now snapshot o stands.unpaused hears.answer.unpaused) ∙ paused))

others-none : (known : MemberSet) (me : MemberId) → (without_member known me).bits ≡ 0 → (p : ℕ)
    → set_members known p ≡ true → p ≡ me.number
others-none known me nobody p e = by (p == me.number) refl
  where
    absent : set_members (without_member known me) p ≡ false
    absent = ap (λ (bits : ℕ). set_members (record { bits = bits }) p) nobody ∙ has-nobody p

    by : (same : Bool) → (p == me.number) ≡ same → p ≡ me.number
    by true is = numbers-same p me.number is
    by false is = absurd
        (no-way (sym absent ∙ (without-has known me p ∙ (ap (λ (b : Bool). b && not (p == me.number)) e ∙ ap not is))))

-- a leader with nobody to ask
alone-watchdog : (s : State) (m runs : ℕ) (input : AgentInput) (now : Ticks) (o after : Outcome)
    → StandsIn s m runs now o → IsInputOf s m runs o after input → CanFeed o.machine → BringsNothing o after
    → StaysAlone now o after → WatchdogMay s m input (was_of o) (was_of after)
alone-watchdog s m runs input now o after stands is can brings alone =
    SetAlone (now.0 + timeout_of o.machine.watchdog.margin (lease_span o.knows.settings).0)
    (ap (λ (x : MachineSeen). x.deadline) is.machine
    ∙ failsafe-deadline now (lease_span o.knows.settings) o after can alone.fed)
    (ap (λ (x : MachineSeen). x.by_failsafe) is.machine
    ∙ failsafe-basis now (lease_span o.knows.settings) o after can alone.fed)
    (λ acts. seen-acts (s.members m) runs o stands.member
    (acts-before o after brings (acts-seen input.machine runs after is.machine acts)))
    (record {
      leads = leader-leads after.role alone.fed.leads;
      informed = alone.fed.informed
          ∙ stands.mode.confirmed (both-true o.knows.settings.failsafe_mode o.knows.confirmed alone.may).1;
      later = subst (λ (n : ℕ). n < now.0 + timeout_of o.machine.watchdog.margin (lease_span o.knows.settings).0)
          (sym stands.clock)
          (later-deadline o.machine.watchdog.margin now.0 (lease_span o.knows.settings).0
          (settings-span o.knows.settings) can.margin);
      alone = λ p e.
          others-none o.knows.known o.knows.who.me alone.nobody p
          (sym (ap (λ (set : MemberSet). set_members set p) alone.fed.known) ∙ e)
          ∙ stands.me;
    })

-- a leader begins to wait for all others that it knows
begins-check : (s : State) (m runs : ℕ) (now : Ticks) (o after : Outcome) → StandsIn s m runs now o
    → after.knows.who ≡ o.knows.who → (begun : BeginsToStay now s.declared.failsafe o after)
    → (check : FailsafeCheck) → check_seen after.knows.failsafe after.knows.waited ≡ Some check
    → ContinuesCheck s m (was_of o) check ⊎ BeginsCheck s m (was_of o) (was_of after) check
begins-check s m runs now o after stands who begun check e =
    let waits = checks-waited after.knows.failsafe after.knows.waited check e in
    let same : begun.waited ≡ waits.one = some-is begun.waited waits.one (sym begun.is ∙ waits.is) in
    let number : check.sequence ≡ begun.waited.sequence = ap (λ (x : FailsafeCheck). x.sequence) waits.check_is
    ∙ ap (λ (w : PendingQuestion). w.sequence) (sym same) in
    let ask : after.knows.failsafe ≡ ask_of (others_known after.knows) now = begun.ask in
    let me : after.knows.who.me.number ≡ m = ap (λ (w : Who). w.me.number) who ∙ stands.me in
    inr (record {
      later = subst (λ (n : ℕ). o.knows.sequence < n) (sym number) begun.later;
      counted = subst (λ (n : ℕ). n ≤ after.knows.sequence) (sym number) begun.counted;
      yes = λ p. ap (λ (x : FailsafeCheck). x.yes p) waits.check_is
          ∙ (ap (λ (x : Ask). set_members x.acknowledged p) ask ∙ has-nobody p);
      leads = leader-leads after.role begun.leads;
      informed = (begun.keeps stands.mode).confirmed begun.confirmed;
      all = λ p known other. ap (λ (x : FailsafeCheck). x.members p) waits.check_is
          ∙ (ap (λ (x : Ask). set_members x.members p) ask
          ∙ (without-has after.knows.known after.knows.who.me p
          ∙ (ap (λ (b : Bool). b && not (p == after.knows.who.me.number)) known
          ∙ ap not (differ p after.knows.who.me.number (λ same. other (same ∙ me))))));
    })

-- its requests are of what it waits for
stay-requests : (s : State) (m runs : ℕ) (now : Ticks) (o after : Outcome) → StandsIn s m runs now o
    → (sequence : ℕ) (ttl : Ticks) → AsksToStay now after sequence ttl
    → MayRequestFailsafe s m (was_of o) (was_of after)
    (record { member = m; incarnation = o.knows.incarnation; sequence = sequence; ttl = ttl.0; sent = s.clock })
stay-requests s m runs now o after stands sequence ttl asks = record {
  member = refl;
  incarnation = refl;
  sent = refl;
  failsafe_check = record {
    sequence = asks.waited.sequence;
    ttl = asks.waited.ttl.0;
    sent = asks.waited.sent.0;
    members = set_members after.knows.failsafe.members;
    yes = set_members after.knows.failsafe.acknowledged;
  };
  is = ap (λ (w : Option PendingQuestion). check_seen after.knows.failsafe w) asks.is
      ∙ seen-check after.knows.failsafe asks.waited asks.staying;
  sequence = asks.sequence_is;
  ttl = ap (λ (t : Ticks). t.0) asks.ttl_is;
  check_sent = ap (λ (t : Ticks). t.0) asks.sent ∙ sym stands.clock;
}

wake-lawful : (s : State) (m runs : ℕ) (input : AgentInput) (now : Ticks) (o : Outcome) → IsAlone o
    → All IsSilent o.outputs → StandsIn s m runs now o → CanFeed o.machine
    → IsInputOf s m runs o (woken now o) input → IsLawfulAnd s m (woken now o) input
wake-lawful s m runs input now o alone silent stands can is =
    lawful-with s m runs input now None G o after stands is
    (wake-onward None now o) watchdog brings ready mode sends grounds (λ revision e. e)
    (takes-nothing s m runs input G o after is (λ to run sequence e. e) sends) check
    (λ key e. absurd (none-some _ e)) (λ seen e. absurd (none-some _ e))
  where
    after : Outcome
    after = woken now o

    G : Grounds
    G = staying now after (Ungranted s m input o)

    brings : BringsNothing o after
    brings = wake-brings now o

    sends : AllMay G o after
    sends = wake-may (Ungranted s m input o) now o (compares-create s m runs now input o stands)
        (λ _ members number _. tt) alone silent

    grounds : AreLawfulGrounds s m input G o after
    grounds = record {
      owns = λ revision e. absurd e;
      creates = λ expected may. may;
      requests = stay-requests s m runs now o after stands;
      acknowledges = λ to run sequence _ e. absurd e;
    }

    watchdog : WatchdogMay s m input (was_of o) (was_of after)
    watchdog = elim (wake-leaves now o) [
      | inl leaves ↦ watchdog-leaves s m runs input now o after stands is leaves brings
      | inr stays ↦ alone-watchdog s m runs input now o after stands is can brings stays
    ]

    ready : is_ready after.role ≡ true → (live after.machine.server.state ≡ false) × (after.machine.by_failsafe ≡ false)
    ready e = (
      wake-parted now o e,
      elim (wake-leaves now o) [
        | inl leaves ↦ ready-left s m runs now o after stands brings leaves.basis e
        | inr stays ↦ absurd (leader-unready after.role stays.fed.leads e)
      ],
    )

    mode : KeepsMode s.declared.failsafe after.knows
    mode = elim (wake-goes s.declared.failsafe now o) [
      | inl goes ↦ goes.keeps stands.mode
      | inr begun ↦ begun.keeps stands.mode
    ]

    check : (check : FailsafeCheck) → check_seen after.knows.failsafe after.knows.waited ≡ Some check
        → ContinuesCheck s m (was_of o) check ⊎ BeginsCheck s m (was_of o) (was_of after) check
    check one e = elim (wake-goes s.declared.failsafe now o) [
      | inl goes ↦ goes-check s m s.declared.failsafe o after goes one e
      | inr begun ↦ begins-check s m runs now o after stands (wake-onward None now o).who begun one e
    ]

-- what an operator asks leaves the machine but for a hold, which is for no message
operated-left : (now : Ticks) (asked : OperatorRequest) (o after : Outcome)
    → LeavesMachine o after ⊎ AcknowledgesOperated now asked o after
    → DeadlineMay o after × (after.machine.by_failsafe ≡ o.machine.by_failsafe)
operated-left now asked o after (inl leaves) = (leaves.deadline, leaves.basis)
operated-left now (requests.Hold from ttl) o after (inr holds) = (holds.deadline, holds.basis)
operated-left now (requests.Failover kind failover) o after (inr never) = absurd never
operated-left now (requests.Configuration config) o after (inr never) = absurd never
operated-left now requests.Restart o after (inr never) = absurd never
operated-left now requests.Reinit o after (inr never) = absurd never

operated-lawful : (s : State) (m runs : ℕ) (input : AgentInput) (now : Ticks) (action : OperatorAction) (o : Outcome)
    → IsAlone o → All IsSilent o.outputs → StandsIn s m runs now o
    → IsInputOf s m runs o (operated now action.request action.asked (reconciled now o)) input
    → IsLawfulAnd s m (operated now action.request action.asked (reconciled now o)) input
operated-lawful s m runs input now action o alone silent stands is =
    let b : Outcome = reconciled now o in
    let after : Outcome = operated now action.request action.asked b in
    let left = operated-left now action.asked o after (operated-leaves now action o) in
    let brings : BringsNothing o after = operated-brings now action o in
    let goes : Goes s.declared.failsafe o after = operated-step-goes s.declared.failsafe now action o in
    let sends : AllMay (Ungranted s m input o) o after =
    operated-may (Ungranted s m input o) now action o (λ config _. tt) alone silent in
    lawful-with s m runs input now None (Ungranted s m input o) o after stands is
    (onward-then None o b after (before-onward None now o) (operated-onward now action b))
    (watchdog-left s m runs input now o after stands is left.0 left.1 brings) brings
    (λ e. (
      parted-by b after (before-fits now o) (acting-brings now action b) e,
      ready-left s m runs now o after stands brings left.1 e,
    )) (goes.keeps stands.mode) sends (ungranted-lawful s m input o after) (λ revision e. e)
    (takes-nothing s m runs input (Ungranted s m input o) o after is (λ to run sequence e. e) sends)
    (goes-check s m s.declared.failsafe o after goes) (λ key e. absurd (none-some _ e))
    (λ seen e. absurd (none-some _ e))

-- who read that the key is free creates as its turn's failsafe key was read then
read-creates : (s : State) (m runs : ℕ) (input : AgentInput) (now : Ticks) (sequence : ℕ) (snapshot : SnapshotFacts)
    (o : Outcome) → StandsIn s m runs now o → HearsAnswer s m input.heard sequence snapshot o.knows
    → CreatesOnRead (Ungranted s m input o) now snapshot (looked sequence snapshot (reconciled now o))
read-creates s m runs input now sequence snapshot o stands hears =
    let p : Outcome = looked sequence snapshot (reconciled now o) in
    let who : p.knows.who ≡ o.knows.who = (looked-onward None now sequence snapshot o).who in record {
      free = λ free. may-create s m input.heard (was_of o) (read_noted now snapshot p.knows)
          (free-takes s.declared.failsafe now snapshot p hears.mode free)
          (ap (λ (w : Who). w.me.number) who ∙ stands.me)
          (λ key e.
          inr (heard-failsafe s m sequence input.heard snapshot o.knows hears key
          (sym (read-seen (entry_in keys.Failsafe snapshot)) ∙ e)));
      paused = λ paused. absurd (elim (told-pause p.knows.settings (entry_in keys.Config snapshot) paused) [
        | inl before-it ↦ elim ((looked-onward None now sequence snapshot o).pauses before-it) [
          | inl was ↦ no-way (sym stands.unpaused ∙ was)
          | inr new ↦ no-way new
        ]
        | inr new ↦ no-way (sym hears.unpaused ∙ new)
      ]);
    }
  where
    read-seen : (found : Option KeyEntry)
        → failsafe_read_seen (found_by failsafe_read_at found) ≡ failsafe_entry_seen found
    read-seen None = refl
    read-seen (Some found) = by (failsafe_by found.value)
      where
        by : (listed : Option MemberSet)
            → failsafe_read_seen (failsafe_read_by found.revision listed) ≡ failsafe_listed found.revision listed
        by None = refl
        by (Some members) = refl

got-lawful : (s : State) (m runs : ℕ) (input : AgentInput) (now : Ticks) (points : List HistoryPoint) (sequence : ℕ)
    (snapshot : SnapshotFacts) (o : Outcome) → IsAlone o → All IsSilent o.outputs → StandsIn s m runs now o
    → HearsAnswer s m input.heard sequence snapshot o.knows
    → IsInputOf s m runs o
    (read_answered now points sequence snapshot (looked sequence snapshot (reconciled now o))) input
    → IsLawfulAnd s m (read_answered now points sequence snapshot (looked sequence snapshot (reconciled now o))) input
got-lawful s m runs input now points sequence snapshot o alone silent stands hears is =
    let p : Outcome = looked sequence snapshot (reconciled now o) in
    without-grant s m runs input now (Some snapshot) o (read_answered now points sequence snapshot p) stands is
    (onward-then (Some snapshot) o p (read_answered now points sequence snapshot p)
    (looked-onward (Some snapshot) now sequence snapshot o) (got-onward now points sequence snapshot p))
    (read-leaves now points sequence snapshot o) (read-brings now points sequence snapshot o)
    (parted-by p (read_answered now points sequence snapshot p)
    (looked-by (λ (x : Outcome). Fits x.role (live x.machine.server.state)) sequence snapshot
    (reconciled now o) (told-fits now o))
    (got-brings now points sequence snapshot p))
    (got-step-goes s.declared.failsafe now points sequence snapshot o hears.mode)
    (got-may (Ungranted s m input o) now points sequence snapshot o
    (read-creates s m runs input now sequence snapshot o stands hears) alone silent)
    (heard-failsafe s m sequence input.heard snapshot o.knows hears)
    (heard-leader s m sequence input.heard snapshot o.knows hears)

refused-lawful : (s : State) (m runs : ℕ) (input : AgentInput) (now : Ticks) (sequence : ℕ) (o : Outcome)
    → IsAlone o → All IsSilent o.outputs → StandsIn s m runs now o
    → IsInputOf s m runs o (refused_any now sequence (reconciled now o)) input
    → IsLawfulAnd s m (refused_any now sequence (reconciled now o)) input
refused-lawful s m runs input now sequence o alone silent stands is = let b : Outcome = reconciled now o in
    let after : Outcome = refused_any now sequence b in
    without-grant s m runs input now None o after stands is
    (onward-then None o b after (before-onward None now o) (any-refused-onward now sequence b))
    (refusal-leaves now sequence o) (refusal-brings now sequence o)
    (parted-by b after (before-fits now o) (any-refused-brings now sequence b))
    (refused-step-goes s.declared.failsafe now sequence o)
    (refused-may (Ungranted s m input o) now sequence o alone silent) (λ key e. absurd (none-some _ e))
    (λ seen e. absurd (none-some _ e))

answered-lawful : (s : State) (m runs : ℕ) (input : AgentInput) (now : Ticks) (sequence : ℕ)
    (answer : PeerAnswer) (o : Outcome) → IsAlone o → All IsSilent o.outputs → StandsIn s m runs now o
    → IsInputOf s m runs o (answered now sequence answer (reconciled now o)) input
    → IsLawfulAnd s m (answered now sequence answer (reconciled now o)) input
answered-lawful s m runs input now sequence answer o alone silent stands is = let b : Outcome = reconciled now o in
    without-grant s m runs input now None o (answered now sequence answer b) stands is
    (onward-then None o b (answered now sequence answer b) (before-onward None now o)
    (answered-onward None now sequence answer b))
    (answered-leaves now sequence answer o) (answered-brings now sequence answer o)
    (parted-by b (answered now sequence answer b) (before-fits now o) (answer-brings now sequence answer b))
    (answered-step-goes s.declared.failsafe now sequence answer o)
    (answered-may (Ungranted s m input o) now sequence answer o
    (compares-create s m runs now input o stands) alone (before-onward None now o).last silent)
    (λ key e. absurd (none-some _ e)) (λ seen e. absurd (none-some _ e))

asked-lawful : (s : State) (m runs : ℕ) (input : AgentInput) (now : Ticks) (from : MemberId)
    (incarnation sequence : ℕ) (o : Outcome) → IsAlone o → All IsSilent o.outputs → StandsIn s m runs now o
    → IsInputOf s m runs o (asked from incarnation sequence (reconciled now o)) input
    → IsLawfulAnd s m (asked from incarnation sequence (reconciled now o)) input
asked-lawful s m runs input now from incarnation sequence o alone silent stands is =
    let b : Outcome = reconciled now o in
    without-grant s m runs input now None o (asked from incarnation sequence b) stands is
    (onward-then None o b (asked from incarnation sequence b) (before-onward None now o)
    (asked-onward None from incarnation sequence b))
    (asked-leaves now from incarnation sequence o) (asked-brings now from incarnation sequence o)
    (parted-by b b (before-fits now o)
    (record { live = λ e. e; leads = λ e. e; ready = λ e. e; lease = λ revision e. e }))
    (asked-step-goes s.declared.failsafe now from incarnation sequence o)
    (asked-may (Ungranted s m input o) now from incarnation sequence o alone silent)
    (λ key e. absurd (none-some _ e)) (λ seen e. absurd (none-some _ e))

may-promote : (s : State) (m runs sequence : ℕ) (input : AgentInput) (now : Ticks) (grant : Granted)
    (snapshot : SnapshotFacts) (o : Outcome) → AsksLeases o.knows → StandsIn s m runs now o
    → HearsGrant s m input.heard sequence grant snapshot o
    → (outs : List Output) → BeginsOn now sequence grant (reconciled now o) outs → MayPromote s m input outs
may-promote s m runs sequence input now grant snapshot o sound stands hears outs (WasReady ready) =
    inl (seen-acts (s.members m) runs o stands.member (inr ((before-brings now o).ready ready)))
may-promote s m runs sequence input now grant snapshot o sound stands hears outs (OnLease decides in_time free armed) =
    let awaited : IsAwaitedLease sequence grant o.knows = awaited-by sequence grant now o decides in inr (record {
      fed = fed-of s m runs sequence input.heard now grant snapshot o stands hears awaited
          (span-of o.knows awaited.waited sound awaited.is)
          (late-before now awaited.waited o (reconciled now o) (before-leaves now o) in_time);
      free = free-of s m runs now o (reconciled now o) stands (before-leaves now o) free;
      armed = armed;
    })

grant-lawful : (s : State) (m runs : ℕ) (input : AgentInput) (now : Ticks) (sequence : ℕ) (grant : Granted)
    (snapshot : SnapshotFacts) (o : Outcome) → AsksLeases o.knows → IsAlone o → All IsSilent o.outputs
    → StandsIn s m runs now o
    → HearsGrant s m input.heard sequence grant snapshot o
    → IsInputOf s m runs o (granted_any now sequence grant snapshot (reconciled now o)) input
    → IsLawfulAnd s m (granted_any now sequence grant snapshot (reconciled now o)) input
grant-lawful s m runs input now sequence grant snapshot o sound alone silent stands hears is =
    let b : Outcome = reconciled now o in
    let after : Outcome = granted_any now sequence grant snapshot b in
    let gives : (revision : ℕ) → Gives sequence grant b revision → Owns s m input.heard (was_of o) revision =
    λ revision e. elim e [
      | inl given ↦ gives-owns s m runs sequence input now grant snapshot o stands hears
          (awaited-by sequence grant now o given.0) revision given.1
      | inr held ↦ inl ((before-brings now o).lease revision held)
    ] in
    let onward : Onward (Some snapshot) b after = any-granted-onward now sequence grant snapshot b in
    let goes : Goes s.declared.failsafe o after =
    granted-step-goes s.declared.failsafe now sequence grant snapshot o hears.answer.mode in
    let brought : Brought s m input o after = leads-brought s m runs sequence input now grant snapshot o after
    sound stands hears is (grant-may now sequence grant snapshot b (before-fits now o)) goes in
    let G : Grounds = record {
      gives = Gives sequence grant b;
      creates = λ expected. ⊥;
      requests = λ number ttl. ⊥;
      acknowledges = λ to run number. ⊥;
      configures = λ config. Unit {0};
      feeds = λ members number. Unit {0};
    } in
    let sends : AllMay G o after = granted-sends G now sequence grant snapshot o alone (before-onward None now o).last
    (before-fits now o) (λ decides. inl (decides, refl)) (λ revision ready. inr (rw ready refl)) silent in
    record {
      lawful = lawful-of s m runs input now (Some snapshot) G o after stands is (record {
        onward = onward-then (Some snapshot) o b after (before-onward (Some snapshot) now o) onward;
        watchdog = brought.watchdog;
        parted = brought.parted;
        ready = brought.ready;
        mode = goes.keeps stands.mode;
        sends = sends;
        grounds = record {
          owns = gives;
          creates = λ expected e. absurd e;
          requests = λ number ttl e. absurd e;
          acknowledges = λ to run number _ e. absurd e;
        };
        takes = takes-nothing s m runs input G o after is (λ to run number e. e) sends;
        check = goes-check s m s.declared.failsafe o after goes;
        leads_by = brought.leads_by;
        lease = brought.lease;
        failsafe = heard-failsafe s m sequence input.heard snapshot o.knows hears.answer;
        leader = heard-leader s m sequence input.heard snapshot o.knows hears.answer;
      });
      begins = begins-weaker (BeginsOn now sequence grant b) (MayPromote s m input)
          (may-promote s m runs sequence input now grant snapshot o sound stands hears) [] after.outputs
          (grant-begins now sequence grant snapshot o alone
          (stays-unpaused now snapshot o stands.unpaused hears.answer.unpaused)
          (λ decides. armable-before o b (before-leaves now o)
          (hears.lease (awaited-by sequence grant now o decides)).feeds.armable)
          silent);
    }

step-lawful : (now : Ticks) (points : List HistoryPoint) (heard : Heard) (o : Outcome) → AsksLeases o.knows
    → IsAlone o → All IsSilent o.outputs → IsLawfulFrom now heard o (step now points heard o)
step-lawful now points Wake o sound alone silent s m runs input stands hears is =
    wake-lawful s m runs input now o alone silent stands hears is
step-lawful now points (ReadAnswered sequence snapshot) o sound alone silent s m runs input stands hears is =
    got-lawful s m runs input now points sequence snapshot o alone silent stands hears is
step-lawful now points (HeardGranted sequence grant snapshot) o sound alone silent s m runs input stands hears is =
    grant-lawful s m runs input now sequence grant snapshot o sound alone silent stands hears is
step-lawful now points (Mismatch sequence key found) o sound alone silent s m runs input stands hears is =
    refused-lawful s m runs input now sequence o alone silent stands is
step-lawful now points (Asked from incarnation sequence) o sound alone silent s m runs input stands hears is =
    asked-lawful s m runs input now from incarnation sequence o alone silent stands is
step-lawful now points (Answered sequence answer) o sound alone silent s m runs input stands hears is =
    answered-lawful s m runs input now sequence answer o alone silent stands is
step-lawful now points (FailsafeAsked from incarnation sequence ttl) o sound alone silent s m runs input stands hears
    is =
    failsafe-asked-lawful s m runs input now from incarnation sequence ttl o alone silent stands hears is
step-lawful now points (FailsafeAnswered from sequence accepted sent) o sound alone silent s m runs input stands hears
    is =
    failsafe-answered-lawful s m runs input now from sequence accepted sent o sound alone silent stands hears is
step-lawful now points (HearsOperator action) o sound alone silent s m runs input stands hears is =
    operated-lawful s m runs input now action o alone silent stands is

-- each input of the table is lawful, whenever the agent's turns began
pub input-lawful-from : (now : Ticks) (points : List HistoryPoint) (heard : Heard) (role : RoleFacts)
    (knows : Knowledge) (machine : Machine) → AsksLeases knows → EndsAlone role knows.waited
    → IsLawfulFrom now heard (outcome_from role knows machine [])
    (step now points heard (outcome_from role knows machine []))
input-lawful-from now points heard role knows machine asks ends =
    let o : Outcome = outcome_from role knows machine [] in
    step-lawful now points heard o asks (alone-of o ends) (All-nil IsSilent)

-- so is that of a sound agent
pub input-lawful : (now : Ticks) (points : List HistoryPoint) (heard : Heard) (role : RoleFacts)
    (knows : Knowledge) (machine : Machine) → IsSoundAgent role knows
    → IsLawfulFrom now heard (outcome_from role knows machine [])
    (step now points heard (outcome_from role knows machine []))
input-lawful now points heard role knows machine sound =
    input-lawful-from now points heard role knows machine sound.sound.span sound.ends

-- the same of what is made of an input, where no output stood before
pub input-lawful-as : (now : Ticks) (points : List HistoryPoint) (heard : Heard) (role : RoleFacts)
    (knows : Knowledge) (machine : Machine) (outs : List Output) (after : Outcome)
    → after ≡ step now points heard (outcome_from role knows machine outs) → IsSoundAgent role knows
    → outs ≡ [] → IsLawfulFrom now heard (outcome_from role knows machine []) after
input-lawful-as now points heard role knows machine outs after is sound none =
    let same : after ≡ step now points heard (outcome_from role knows machine []) = is
    ∙ ap (λ (l : List Output). step now points heard (outcome_from role knows machine l)) none in
    subst (λ (x : Outcome). IsLawfulFrom now heard (outcome_from role knows machine []) x) (sym same)
    (input-lawful now points heard role knows machine sound)
