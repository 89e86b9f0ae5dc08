-- A failsafe request and an answer to one are lawful, by what is heard.
use Rattle.std.proofs.Common.{◌≡◌, ◌⊎◌, ℕ, ◌+◌, ◌≤◌, ◌<◌, ◌==◌, ◌||◌, cond, if◌then◌else◌, Bool, true, false, List, [], ◌∷◌, Option, Some, None, All, refl, sym, subst, ap, ◌∙◌, arith, inl, inr}
use Rattle.std.proofs.lemmas.List.Elements.{All-head, All-tail, All-weaker}
use Rattle.pat_base.specs.declared.member_id.MemberId.{MemberId}
use Rattle.pat_base.specs.declared.member_set.MemberSet.{MemberSet}
use Rattle.pat_base.specs.declared.ticks.Ticks.{Ticks}
use Rattle.pat_base.specs.ServerState.{live}
use Rattle.leader_key.specs.Watchdog.{IsLeaseSpan, timeout_of}
use Rattle.event_book.specs.Watchdogs.{prolonged_to}
use Rattle.failsafe.specs.Asks.{counts, earliest_or, has, heard as ask_heard, is_within, moment_of_all, with_acknowledgement}
use Rattle.failsafe.specs.declared.asks.Ask.{Ask}
use Rattle.failsafe.proofs.Members.{has-with, numbers-same, within-has}
use Rattle.lease_model.specs.Leases.{FailsafeRequest, Acknowledgement, Flying}
use Rattle.lease_model.specs.States.{FailsafeCheck, Machine as MachineSeen, State}
use Rattle.lease_model.specs.Inputs.{AgentInput, HeardYes, IsDeadline, WatchdogMay, SetByFailsafe, MayAcknowledge, MayTake, ContinuesCheck, BeginsCheck}
use Rattle.event_book.specs.Functions.{set_members}
use Rattle.lease_model.proofs.Tools.{some-is, none-some}
use Rattle.agent_model.specs.declared.heard.Heard.TheVariants.{FailsafeAsked, FailsafeAnswered}
use Rattle.agent_model.specs.declared.output.Output.TheVariants as outputs
use Rattle.agent_model.specs.declared.output.Outgoing.TheVariants as outgoing
use Rattle.agent_model.specs.StayingPrimary.{accepted_failsafe, awaits_failsafe, failsafe_answered, failsafe_answered_for, failsafe_asked, is_staying, span_after, unacknowledged_as}
use Rattle.agent_model.specs.Acting.{waiting_no_more}
use Rattle.agent_model.specs.Outputs.{has_one, with_output}
use Rattle.agent_model.specs.Pausing.{is_paused}
use Rattle.agent_model.specs.declared.knowledge.PendingQuestion.{PendingQuestion}
use Rattle.agent_model.specs.declared.output.Output.{Output}
use Rattle.agent_model.specs.Agents.{RoleFacts, Follower, Holder, Ready, Leader, Ending, Unleased, Outcome, is_ready}
use Rattle.agent_model.specs.Reconciling.{reconciled}
use Rattle.agent_sending.specs.Modes.{KeepsMode}
use Rattle.agent_lease_law.specs.Lawful.{HearsRequest, HearsYes, is_yes, request_heard, request_in, request_taken, StandsIn, IsInputOf, IsLawfulAnd}
use Rattle.agent_roles.specs.Powers.{BringsNothing, DeadlineMay, LeavesMachine, StaysByWord, leads}
use Rattle.agent_roles.proofs.Leaving.WatchdogStays.{Same}
use Rattle.agent_roles.proofs.Acknowledging.{answer-leaves, request-leaves}
use Rattle.agent_roles.specs.Seen.{check_seen, hold_seen}
use Rattle.agent_model.specs.Peers.{asked}
use Rattle.agent_roles.proofs.Bringing.{holding-brings, staying-brings, brings-then, before-brings}
use Rattle.agent_roles.proofs.Fitting.{before-fits}
use Rattle.agent_roles.proofs.Granting.{both-true}
use Rattle.agent_roles.proofs.GoingOn.{IsAlone}
use Rattle.agent_roles.proofs.Knowing.{step-onward}
use Rattle.agent_sending.proofs.CheckingWakes.{Goes}
use Rattle.agent_sending.proofs.Checking.{Counts, failsafe-answered-goes, failsafe-asked-step-goes}
use Rattle.agent_lease_law.proofs.Lawful.{AreLawfulGrounds, ready-left, takes-nothing, watchdog-left, was_of, acts-seen, seen-acts, watchdog-leaves, parted-by}
use Rattle.agent_lease_law.proofs.LawfulGrants.{deadline-of}
use Rattle.agent_roles.proofs.Leaving.{Stays, acts-before, behind, stays, before-leaves}
use Rattle.agent_roles.proofs.Living.{no-way}
use Rattle.agent_roles.proofs.Staying.{before-waits}
use Rattle.agent_cases.proofs.Rows.{if-cases}
use Rattle.agent_cases.proofs.FailsafeRows.{failsafe-asked-by}
use Rattle.agent_sending.proofs.MaySend.Fronts.{Silent, Released}
use Rattle.agent_sending.proofs.MaySend.{Fronts, Grounds, IsReleaseOr, before-fronts, IsSilent, AllMay}
use Rattle.agent_sending.proofs.StayingSends.{failsafe-answered-may, failsafe-asked-may, staying}
use Rattle.agent_lease_law.proofs.LawfulWaits.{Ungranted, ungranted-lawful, checks-waited, seen-check, goes-check, lawful-with, AsksLeases, later-deadline, leader-unready, failsafe-deadline, failsafe-basis}

-- ---- a failsafe request
acknowledges-taken : (s : State) (m runs : ℕ) (input : AgentInput) (now : Ticks) (from : MemberId)
    (incarnation sequence : ℕ) (ttl : Ticks) (o after : Outcome) → StandsIn s m runs now o
    → IsInputOf s m runs o after input → HearsRequest s input.heard from incarnation sequence ttl
    → has_one is_yes after.outputs ≡ true
    → MayAcknowledge m input (record { member = from.number; incarnation = incarnation; sequence = sequence; by = m })
acknowledges-taken s m runs input now from incarnation sequence ttl o after stands is hears says = record {
  by = refl;
  failsafe_request =
      record { member = from.number; incarnation = incarnation; sequence = sequence; ttl = ttl.0; sent = hears.sent };
  takes = is.takes
      ∙ (ap (λ (b : Bool). request_taken b (request_heard s.flight input.heard)) says
      ∙ (ap (λ (h : Option ℕ). request_heard s.flight h) hears.heard_is
      ∙ ap (λ (f : Option Flying). request_in f) hears.is));
  member = refl;
  incarnation = refl;
  sequence = refl;
}

taken-request : (s : State) (m runs : ℕ) (input : AgentInput) (from : MemberId) (incarnation sequence : ℕ)
    (ttl : Ticks) (o after : Outcome) → IsInputOf s m runs o after input
    → (hears : HearsRequest s input.heard from incarnation sequence ttl) → (says : Bool)
    → has_one is_yes after.outputs ≡ says → (request : FailsafeRequest) → input.takes ≡ Some request
    → (says ≡ true)
    × (request
    ≡ (record { member = from.number; incarnation = incarnation; sequence = sequence; ttl = ttl.0; sent = hears.sent }))
taken-request s m runs input from incarnation sequence ttl o after is hears true says request takes = (
  refl,
  some-is request _
      (sym takes
      ∙ (is.takes
      ∙ (ap (λ (b : Bool). request_taken b (request_heard s.flight input.heard)) says
      ∙ (ap (λ (h : Option ℕ). request_heard s.flight h) hears.heard_is
      ∙ ap (λ (f : Option Flying). request_in f) hears.is)))),
)
taken-request s m runs input from incarnation sequence ttl o after is hears false says request takes =
    absurd (none-some request
    (sym (is.takes ∙ ap (λ (b : Bool). request_taken b (request_heard s.flight input.heard)) says) ∙ takes))

holds-for : (now ttl : Ticks) (hold : Option Ticks) → now.0 + ttl.0 ≤ hold_seen (prolonged_to (span_after now ttl) hold)
holds-for now ttl None = omega arith
holds-for now ttl (Some before-it) = omega arith

-- a member that answers a failsafe request either left its machine so, and says no, or holds
record AnswersRequest (now ttl : Ticks) (o after : Outcome) : Type 0 where
  deadline : DeadlineMay o after
  basis : after.machine.by_failsafe ≡ o.machine.by_failsafe
  held : has_one is_yes after.outputs ≡ true → now.0 + ttl.0 ≤ hold_seen after.machine.hold

no-yes-before : (outs : List Output) → All (λ (output : Output). is_yes output ≡ false) outs
    → (output : Output) → has_one is_yes (with_output output outs) ≡ is_yes output
no-yes-before [] all output = or-false (is_yes output)
  where
    or-false : (b : Bool) → b || false ≡ b
    or-false true = refl
    or-false false = refl
no-yes-before (one ∷ outs) all output = rw (All-head (λ (x : Output). is_yes x ≡ false) one outs all)
    (no-yes-before outs (All-tail (λ (x : Output). is_yes x ≡ false) one outs all) output)

front-no : (o b : Outcome) → Fronts o b → All (λ (output : Output). is_yes output ≡ false) b.outputs
front-no o b (Silent all) = All-weaker IsSilent (λ (output : Output). is_yes output ≡ false) silent-no b.outputs all
  where
    silent-no : (output : Output) → IsSilent output → is_yes output ≡ false
    silent-no (outputs.Message (outgoing.FailsafeAnswer to run sequence accepted)) e = absurd e
    silent-no _ e = refl
front-no o b (Released revision held alone role ended counted all) = All-weaker
    (IsReleaseOr (o.knows.sequence + 1) revision) (λ (output : Output). is_yes output ≡ false) release-no b.outputs all
  where
    silent-no : (output : Output) → IsSilent output → is_yes output ≡ false
    silent-no (outputs.Message (outgoing.FailsafeAnswer to run sequence accepted)) e = absurd e
    silent-no _ e = refl

    release-no : (output : Output) → IsReleaseOr (o.knows.sequence + 1) revision output → is_yes output ≡ false
    release-no output (inl silent) = silent-no output silent
    release-no output (inr is) = ap is_yes is

request-answers : (now : Ticks) (from : MemberId) (incarnation sequence : ℕ) (ttl : Ticks) (o : Outcome)
    → IsAlone o → All IsSilent o.outputs
    → AnswersRequest now ttl o (failsafe_asked now from incarnation sequence ttl (reconciled now o))
request-answers now from incarnation sequence ttl o alone silent = let b : Outcome = reconciled now o in
    elim (request-leaves now from incarnation sequence ttl o) [
      | inl leaves ↦ record { deadline = leaves.deadline; basis = leaves.basis; held = held-so }
      | inr holds ↦ record { deadline = holds.deadline; basis = holds.basis; held = held-so }
    ]
  where
    before-it : All (λ (output : Output). is_yes output ≡ false) (reconciled now o).outputs
    before-it = front-no o (reconciled now o) (before-fronts now o alone silent)

    held-so : has_one is_yes (failsafe_asked now from incarnation sequence ttl (reconciled now o)).outputs ≡ true
        → now.0 + ttl.0 ≤ hold_seen (failsafe_asked now from incarnation sequence ttl (reconciled now o)).machine.hold
    held-so =
        failsafe-asked-by (λ (x : Outcome). has_one is_yes x.outputs ≡ true → now.0 + ttl.0 ≤ hold_seen x.machine.hold)
        now from incarnation sequence ttl (reconciled now o)
        (λ _ _. holds-for now ttl (reconciled now o).machine.hold)
        (λ e.
        absurd (no-way (sym (no-yes-before (reconciled now o).outputs before-it
        (outputs.Message (outgoing.FailsafeAnswer from incarnation sequence false)))
        ∙ e)))

-- this member's yes to that request
abbrev yes-to : ℕ → MemberId → ℕ → ℕ → Acknowledgement
yes-to m to run sequence = record { member = to.number; incarnation = run; sequence = sequence; by = m }

pub failsafe-asked-lawful : (s : State) (m runs : ℕ) (input : AgentInput) (now : Ticks) (from : MemberId)
    (incarnation sequence : ℕ) (ttl : Ticks) (o : Outcome) → IsAlone o → All IsSilent o.outputs
    → StandsIn s m runs now o → HearsRequest s input.heard from incarnation sequence ttl
    → IsInputOf s m runs o (failsafe_asked now from incarnation sequence ttl (reconciled now o)) input
    → IsLawfulAnd s m (failsafe_asked now from incarnation sequence ttl (reconciled now o)) input
failsafe-asked-lawful s m runs input now from incarnation sequence ttl o alone silent stands hears is =
    by (has_one is_yes after.outputs) refl
  where
    b : Outcome
    b = reconciled now o

    after : Outcome
    after = failsafe_asked now from incarnation sequence ttl b

    answers : AnswersRequest now ttl o after
    answers = request-answers now from incarnation sequence ttl o alone silent

    brings : BringsNothing o after
    brings = brings-then o b after (before-brings now o) (holding-brings now from incarnation sequence ttl b)

    goes : Goes s.declared.failsafe o after
    goes = failsafe-asked-step-goes s.declared.failsafe now from incarnation sequence ttl o

    by : (says : Bool) → has_one is_yes after.outputs ≡ says → IsLawfulAnd s m after input
    by says e = lawful-with s m runs input now None G o after stands is
        (step-onward now [] (FailsafeAsked from incarnation sequence ttl) o)
        (watchdog-left s m runs input now o after stands is answers.deadline answers.basis brings) brings
        (λ ready. (
          parted-by b after (before-fits now o) (holding-brings now from incarnation sequence ttl b) ready,
          ready-left s m runs now o after stands brings answers.basis ready,
        )) (goes.keeps stands.mode) sends grounds (λ revision none. none) takes
        (goes-check s m s.declared.failsafe o after goes) (λ key none. absurd (none-some _ none))
        (λ seen none. absurd (none-some _ none))
      where
        G : Grounds
        G = record {
          gives = λ revision. ⊥;
          creates = λ expected. ⊥;
          requests = λ number span. ⊥;
          acknowledges = λ to run number. yes-to m to run number ≡ yes-to m from incarnation sequence;
          configures = λ config. Unit {0};
          feeds = λ members number. Unit {0};
        }

        sends : AllMay G o after
        sends = failsafe-asked-may G now from incarnation sequence ttl o refl alone silent

        grounds : AreLawfulGrounds s m input G o after
        grounds = record {
          owns = λ revision none. absurd none;
          creates = λ expected none. absurd none;
          requests = λ number span none. absurd none;
          acknowledges =
              λ to run number said same. subst (λ (said : Acknowledgement). MayAcknowledge m input said) (sym same)
              (acknowledges-taken s m runs input now from incarnation sequence ttl o after stands is hears said);
        }

        takes : (request : FailsafeRequest) → input.takes ≡ Some request → MayTake s input request
        takes request taken =
            let it = taken-request s m runs input from incarnation sequence ttl o after is hears says e request taken in
            let held : now.0 + ttl.0 ≤ hold_seen after.machine.hold = answers.held (e ∙ it.0) in
            let hold : input.machine.hold ≡ hold_seen after.machine.hold =
            ap (λ (x : MachineSeen). x.hold) is.machine in
            subst (λ (r : FailsafeRequest). MayTake s input r) (sym it.1)
            (record { number = hears.number; is = hears.is; lasts = omega (arith, held, hold, stands.clock) })

-- ---- an answer to a failsafe request
all-within : (ask : Ask) (since : Ticks) → moment_of_all ask ≡ Some since
    → is_within ask.members ask.acknowledged ≡ true
all-within ask since e = by (is_within ask.members ask.acknowledged) refl e
  where
    by : (test : Bool) → is_within ask.members ask.acknowledged ≡ test
        → (if test then Some (earliest_or ask.made ask.earliest) else None) ≡ Some since
        → is_within ask.members ask.acknowledged ≡ true
    by true is e = is
    by false is e = absurd (none-some since e)

heard-members : (ask : Ask) (from : MemberId) (sent : Ticks) → (ask_heard ask from true sent).members ≡ ask.members
heard-members ask from sent = if-cases (λ (x : Ask). x.members ≡ ask.members) (counts ask from true)
    (with_acknowledgement ask from sent) ask (λ _. refl) (λ _. refl)

heard-has : (ask : Ask) (from : MemberId) (sent : Ticks) (p : ℕ)
    → set_members (ask_heard ask from true sent).acknowledged p ≡ true
    → (set_members ask.acknowledged p ≡ true) ⊎ (from.number ≡ p)
heard-has ask from sent p = if-cases
    (λ (x : Ask). set_members x.acknowledged p ≡ true → (set_members ask.acknowledged p ≡ true) ⊎ (from.number ≡ p))
    (counts ask from true) (with_acknowledgement ask from sent) ask
    (λ _ e. elim (either (has ask.acknowledged p) (from.number == p) (sym (has-with ask.acknowledged from p) ∙ e)) [
      | inl before ↦ inl before
      | inr same ↦ inr (numbers-same from.number p same)
    ]) (λ _ e. inl e)
  where
    either : (a b : Bool) → a || b ≡ true → (a ≡ true) ⊎ (b ≡ true)
    either true b e = inl refl
    either false b e = inr e

-- the acknowledgement that is heard
heard-yes : (s : State) (m : ℕ) (heard : Option ℕ) (from : MemberId) (sequence number p : ℕ) (o : Outcome)
    → HearsYes s m heard from sequence o → number ≡ sequence → from.number ≡ p
    → HeardYes s m o.knows.incarnation number p
heard-yes s m heard from sequence number p o hears same by = record {
  number = hears.number;
  said = record { member = m; incarnation = o.knows.incarnation; sequence = sequence; by = from.number };
  is = hears.is;
  member = refl;
  run_is = refl;
  sequence_is = sym same;
  by = by;
}

-- a leader that counts one more yes
counts-check : (s : State) (m : ℕ) (mode : Bool) (heard : Option ℕ) (from : MemberId) (sequence : ℕ) (sent : Ticks)
    (o after : Outcome) → HearsYes s m heard from sequence o → Counts from sequence sent mode o after
    → (check : FailsafeCheck) → check_seen after.knows.failsafe after.knows.waited ≡ Some check
    → ContinuesCheck s m (was_of o) check ⊎ BeginsCheck s m (was_of o) (was_of after) check
counts-check s m mode heard from sequence sent o after hears said check e =
    let waits = checks-waited after.knows.failsafe after.knows.waited check e in
    let was : o.knows.waited ≡ Some waits.one = sym said.waits ∙ waits.is in
    let before-it : FailsafeCheck = record {
      sequence = waits.one.sequence;
      ttl = waits.one.ttl.0;
      sent = waits.one.sent.0;
      members = set_members o.knows.failsafe.members;
      yes = set_members o.knows.failsafe.acknowledged;
    } in
    inl (record {
      before = before-it;
      is = ap (λ (w : Option PendingQuestion). check_seen o.knows.failsafe w) was
          ∙ seen-check o.knows.failsafe waits.one waits.staying;
      sequence = ap (λ (x : FailsafeCheck). x.sequence) waits.check_is;
      ttl = ap (λ (x : FailsafeCheck). x.ttl) waits.check_is;
      sent = ap (λ (x : FailsafeCheck). x.sent) waits.check_is;
      members = ap (λ (x : FailsafeCheck). x.members) waits.check_is
          ∙ ap (λ (set : MemberSet). set_members set)
          (ap (λ (x : Ask). x.members) said.ask ∙ heard-members o.knows.failsafe from sent);
      yes = λ p acked.
          elim (heard-has o.knows.failsafe from sent p
          (sym (ap (λ (x : FailsafeCheck). x.yes p) waits.check_is
          ∙ ap (λ (x : Ask). set_members x.acknowledged p) said.ask)
          ∙ acked)) [
            | inl before ↦ inl before
            | inr it ↦
                inr (heard-yes s m heard from sequence waits.one.sequence p o hears (said.awaited waits.one was) it)
          ];
    })

-- a leader stays primary, since all acknowledged
word-watchdog : (s : State) (m runs : ℕ) (input : AgentInput) (now : Ticks) (from : MemberId) (sequence : ℕ)
    (sent : Ticks) (o after : Outcome) → AsksLeases o.knows → StandsIn s m runs now o
    → IsInputOf s m runs o after input → HearsYes s m input.heard from sequence o → BringsNothing o after
    → (word : StaysByWord now from sent o after) → word.waited.sequence ≡ sequence
    → WatchdogMay s m input (was_of o) (was_of after)
word-watchdog s m runs input now from sequence sent o after sound stands is hears brings word number =
    let one : PendingQuestion = word.waited in
    let span : IsLeaseSpan one.ttl.0 = sound one word.is in
    let until : ℕ = now.0 + timeout_of o.machine.watchdog.margin one.ttl.0 in
    let check : FailsafeCheck = record {
      sequence = one.sequence;
      ttl = one.ttl.0;
      sent = one.sent.0;
      members = set_members o.knows.failsafe.members;
      yes = set_members o.knows.failsafe.acknowledged;
    } in
    SetByFailsafe until (is.feeds ∙ word.fed.told hears.feeds.armable)
    (ap (λ (x : MachineSeen). x.deadline) is.machine ∙ failsafe-deadline now one.ttl o after hears.feeds word.fed)
    (ap (λ (x : MachineSeen). x.by_failsafe) is.machine ∙ failsafe-basis now one.ttl o after hears.feeds word.fed)
    (λ acts. seen-acts (s.members m) runs o stands.member
    (acts-before o after brings (acts-seen input.machine runs after is.machine acts)))
    (record {
      failsafe_check = check;
      is = ap (λ (w : Option PendingQuestion). check_seen o.knows.failsafe w) word.is
          ∙ seen-check o.knows.failsafe one word.staying;
      later = subst (λ (n : ℕ). n < until) (sym stands.clock)
          (later-deadline o.machine.watchdog.margin now.0 one.ttl.0 span hears.feeds.margin);
      deadline_is =
          subst (λ (margin : Option ℕ). IsDeadline margin s.clock one.ttl.0 one.sent.0 until) (sym stands.margin)
          (deadline-of o.machine.watchdog.margin now one s.clock one.ttl.0 one.sent.0 stands.clock refl refl
          span hears.feeds.margin (word.in_time stands.unpaused));
      yes = λ p asked.
          elim (heard-has o.knows.failsafe from sent p
          (within-has (ask_heard o.knows.failsafe from true sent).members
          (ask_heard o.knows.failsafe from true sent).acknowledged
          (all-within (ask_heard o.knows.failsafe from true sent) word.since word.all) p
          (ap (λ (set : MemberSet). set_members set p) (heard-members o.knows.failsafe from sent) ∙ asked))) [
            | inl before ↦ inl before
            | inr it ↦ inr (heard-yes s m input.heard from sequence one.sequence p o hears number it)
          ];
    })

-- a refusal leaves the machine so
refused-stays : (now : Ticks) (from : MemberId) (sequence : ℕ) (sent : Ticks) (b : Outcome)
    → Stays b (failsafe_answered now from sequence false sent b)
refused-stays now from sequence sent b = by b.knows.waited
  where
    quiet : Stays b (waiting_no_more b)
    quiet = record { watchdog = Same refl; basis = refl; hold = refl }

    by-role : (role : RoleFacts) → Stays b (unacknowledged_as now role (waiting_no_more b))
    by-role (Leader held) = record { watchdog = Same refl; basis = refl; hold = refl }
    by-role Follower = quiet
    by-role (Holder held) = quiet
    by-role (Ready held) = quiet
    by-role (Ending held why) = quiet
    by-role Unleased = quiet

    accepted : (waited : PendingQuestion) (role : RoleFacts)
        → Stays b (accepted_failsafe now waited from false sent role b)
    accepted waited (Leader held) = if-cases (Stays b) (is_paused b.knows) (waiting_no_more b)
        (unacknowledged_as now b.role (waiting_no_more b)) (λ _. quiet) (λ _. by-role b.role)
    accepted waited Follower = quiet
    accepted waited (Holder held) = quiet
    accepted waited (Ready held) = quiet
    accepted waited (Ending held why) = quiet
    accepted waited Unleased = quiet

    by : (waited : Option PendingQuestion) → Stays b (failsafe_answered_for now from sequence false sent waited b)
    by None = stays
    by (Some waited) = if-cases (Stays b) (awaits_failsafe waited sequence)
        (accepted_failsafe now waited from false sent b.role b) b (λ _. accepted waited b.role) (λ _. stays)

-- an answer leaves the machine so, or it is a yes to what is waited for, the last one
abbrev WordFor : Ticks → MemberId → ℕ → Ticks → Outcome → Outcome → Type 0
WordFor now from sequence sent o after = (word : StaysByWord now from sent o after) × (word.waited.sequence ≡ sequence)

answer-does : (now : Ticks) (from : MemberId) (sequence : ℕ) (accepted : Bool) (sent : Ticks) (o : Outcome)
    → LeavesMachine o (failsafe_answered now from sequence accepted sent (reconciled now o))
    ⊎ ((accepted ≡ true) ×
    WordFor now from sequence sent o (failsafe_answered now from sequence accepted sent (reconciled now o)))
answer-does now from sequence false sent o = let b : Outcome = reconciled now o in
    inl (behind o b (failsafe_answered now from sequence false sent b) (before-leaves now o)
    (refused-stays now from sequence sent b) (staying-brings now from sequence false sent b))
answer-does now from sequence true sent o = elim (answer-leaves now from sequence true sent o) [
  | inl leaves ↦ inl leaves
  | inr word ↦ by word (awaits_failsafe word.waited sequence) refl
]
  where
    b : Outcome
    b = reconciled now o

    after : Outcome
    after = failsafe_answered now from sequence true sent b

    other : (waited : PendingQuestion) → b.knows.waited ≡ Some waited
        → awaits_failsafe waited sequence ≡ false → after ≡ b
    other waited is test = ap (λ (w : Option PendingQuestion). failsafe_answered_for now from sequence true sent w b) is
        ∙ ap (λ (t : Bool). cond t (accepted_failsafe now waited from true sent b.role b) b) test

    by : (word : StaysByWord now from sent o after) (test : Bool) → awaits_failsafe word.waited sequence ≡ test
        → LeavesMachine o after ⊎ ((true ≡ true) × WordFor now from sequence sent o after)
    by word true test = inr (
      refl,
      (
        word,
        numbers-same word.waited.sequence sequence
            (both-true (is_staying word.waited.question) (word.waited.sequence == sequence) test).1,
      ),
    )
    by word false test =
        inl (subst (λ (x : Outcome). LeavesMachine o x)
        (sym (other word.waited (before-waits now o ∙ word.is) test)) (before-leaves now o))

pub failsafe-answered-lawful : (s : State) (m runs : ℕ) (input : AgentInput) (now : Ticks) (from : MemberId)
    (sequence : ℕ) (accepted : Bool) (sent : Ticks) (o : Outcome) → AsksLeases o.knows → IsAlone o
    → All IsSilent o.outputs → StandsIn s m runs now o → (accepted ≡ true → HearsYes s m input.heard from sequence o)
    → IsInputOf s m runs o (failsafe_answered now from sequence accepted sent (reconciled now o)) input
    → IsLawfulAnd s m (failsafe_answered now from sequence accepted sent (reconciled now o)) input
failsafe-answered-lawful s m runs input now from sequence accepted sent o sound alone silent stands hears is =
    lawful-with s m runs input now None G o after stands is
    (step-onward now [] (FailsafeAnswered from sequence accepted sent) o) watchdog brings ready mode sends
    (ungranted-lawful s m input o after) (λ revision e. e)
    (takes-nothing s m runs input G o after is (λ to run number e. e) sends) check
    (λ key e. absurd (none-some _ e)) (λ seen e. absurd (none-some _ e))
  where
    b : Outcome
    b = reconciled now o

    after : Outcome
    after = failsafe_answered now from sequence accepted sent b

    G : Grounds
    G = Ungranted s m input o

    brings : BringsNothing o after
    brings = brings-then o b after (before-brings now o) (staying-brings now from sequence accepted sent b)

    sends : AllMay G o after
    sends = failsafe-answered-may G now from sequence accepted sent o (λ waited is _. tt) alone silent

    watchdog : WatchdogMay s m input (was_of o) (was_of after)
    watchdog = elim (answer-does now from sequence accepted sent o) [
      | inl leaves ↦ watchdog-leaves s m runs input now o after stands is leaves brings
      | inr does ↦ word-watchdog s m runs input now from sequence sent o after sound stands is
          (hears does.0) brings does.1.0 does.1.1
    ]

    ready : is_ready after.role ≡ true → (live after.machine.server.state ≡ false) × (after.machine.by_failsafe ≡ false)
    ready e = (
      parted-by b after (before-fits now o) (staying-brings now from sequence accepted sent b) e,
      elim (answer-does now from sequence accepted sent o) [
        | inl leaves ↦ ready-left s m runs now o after stands brings leaves.basis e
        | inr does ↦ absurd (leader-unready after.role does.1.0.fed.leads e)
      ],
    )

    mode : KeepsMode s.declared.failsafe after.knows
    mode = elim (failsafe-answered-goes now from sequence accepted sent s.declared.failsafe o) [
      | inl goes ↦ goes.keeps stands.mode
      | inr said ↦ said.1.keeps stands.mode
    ]

    check : (check : FailsafeCheck) → check_seen after.knows.failsafe after.knows.waited ≡ Some check
        → ContinuesCheck s m (was_of o) check ⊎ BeginsCheck s m (was_of o) (was_of after) check
    check one e = elim (failsafe-answered-goes now from sequence accepted sent s.declared.failsafe o) [
      | inl goes ↦ goes-check s m s.declared.failsafe o after goes one e
      | inr said ↦
          counts-check s m s.declared.failsafe input.heard from sequence sent o after (hears said.0) said.1 one e
    ]
