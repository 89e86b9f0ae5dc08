-- What a leader does with answers to its other questions: to those
-- that it no longer waits for, and on its write of the sync key.
use Rattle.std.proofs.Common.{ℕ, ◌≡◌, ◌&&◌, ◌||◌, ◌==◌, not, Bool, true, false, cond, List, Option, Some, None, refl, sym, ap, subst, ◌∙◌, arith, inl, inr}
use Rattle.std.proofs.lemmas.Bool.Decides.{nat_tests}
use Rattle.pat_base.specs.declared.member_id.MemberId.{MemberId}
use Rattle.pat_base.specs.declared.ticks.Ticks.{Ticks}
use Rattle.lease_store.specs.declared.granted.Granted.{Granted}
use Rattle.wal_model.specs.declared.entry.HistoryPoint.{HistoryPoint}
use Rattle.cluster_view.specs.Snapshots.{SnapshotFacts, settings_in}
use Rattle.agent_model.specs.declared.heard.Heard.{Heard}
use Rattle.agent_model.specs.declared.heard.Heard.TheVariants.{ReadAnswered, Granted as HeardGranted, Mismatch, Answered, FailsafeAnswered}
use Rattle.agent_model.specs.declared.knowledge.Settling.{Settling}
use Rattle.agent_model.specs.declared.knowledge.Settling.TheVariants.{KeepsList, NamesStandbys, ClearsList}
use Rattle.agent_model.specs.declared.operating.Operating.{Operating}
use Rattle.pat_base.specs.declared.peer_answer.PeerAnswer.{PeerAnswer}
use Rattle.store_keys.specs.declared.key.Key.{Key}
use Rattle.store_keys.specs.declared.txn.Expected.{Expected}
use Rattle.agent_model.specs.Peers.{answered, answered_for, awaits_answer, awaits_check, is_asking, is_checking}
use Rattle.agent_model.specs.declared.knowledge.Knowledge.{Knowledge}
use Rattle.agent_model.specs.declared.knowledge.PendingQuestion.{PendingQuestion}
use Rattle.agent_model.specs.declared.knowledge.Question.{Question}
use Rattle.agent_model.specs.declared.knowledge.Question.TheVariants.{Syncing}
use Rattle.agent_model.specs.Acting.{waiting_no_more}
use Rattle.agent_model.specs.Agents.{Outcome, is_leader}
use Rattle.agent_model.specs.StayingPrimary.{awaits_failsafe, failsafe_answered, failsafe_answered_for, is_staying}
use Rattle.agent_model.specs.Decisions.{accepted_sync, awaits_decision, is_sync_decision, refused, refused_as, refused_for, sync_granted, asks_lease, asks_sync, belongs, granted, granted_for, granted_write, is_decision, is_lease_of, is_write_of}
use Rattle.agent_model.specs.Operators.{grants_operator, looked, looked_by, operates, operator_refused, operator_granted, awaits_number, is_asked_for}
use Rattle.agent_model.specs.Planning.{settled}
use Rattle.agent_model.specs.Snapshots.{accepted, awaits_read, informed, is_active, is_read, read_answered}
use Rattle.agent_model.specs.Table.{granted_any, refused_any, step}
use Rattle.agent_model.proofs.Judging.{if-true, if-false}
use Rattle.leading_law.specs.Leading.{AwaitsNoPeer, IsPeerAnswer, IsLeading, AnswersNumber, HasSynced}
use Rattle.leading_law.proofs.Turns.{no-way, leads-before, both-true, second-false}

equal-is : (n : ℕ) → (n == n) ≡ true
equal-is n = grind (arith, nat_tests)

-- ---- answers to other questions
both-false : (a b c : Bool) → a ≡ false → (a && b) && c ≡ false
both-false false b c e = refl
both-false true b c e = absurd (no-way (sym e))

-- nobody operates, and this isn't waited for
not-operated : (sequence : ℕ) (grant : Granted) (knows : Knowledge) → knows.operating ≡ None
    → grants_operator sequence grant knows ≡ false
not-operated sequence grant knows none =
    both-false (is_asked_for knows.operating sequence) (not (awaits_number knows.waited sequence))
    (is_write_of knows.who.me grant) (ap (λ (x : Option Operating). is_asked_for x sequence) none)

module _ (now : Ticks) (points : List HistoryPoint) (o : Outcome) (leads : IsLeading o)
    (nobody : o.knows.operating ≡ None) where
  drops-read : (sequence : ℕ) (snapshot : SnapshotFacts) (waited : Option PendingQuestion) → o.knows.waited ≡ waited
      → awaits_number waited sequence ≡ false → step now points (ReadAnswered sequence snapshot) o ≡ o
  drops-read sequence snapshot waited some other =
      let unread : awaits_read o.knows.waited sequence ≡ false =
      ap (λ (w : Option PendingQuestion). awaits_read w sequence) some ∙ unread-by waited sequence other in
      ap (λ (y : Outcome). read_answered now points sequence snapshot (looked sequence snapshot y))
      (leads-before now o leads)
      ∙ ap (read_answered now points sequence snapshot)
      (if-false (awaits_read o.knows.waited sequence && is_active o.role)
      (looked_by o.knows.operating snapshot o) o (ap (λ (b : Bool). b && is_active o.role) unread))
      ∙ if-false (awaits_read o.knows.waited sequence) (accepted now points snapshot o) o unread
    where
      unread-by : (w : Option PendingQuestion) (n : ℕ) → awaits_number w n ≡ false → awaits_read w n ≡ false
      unread-by None n e = refl
      unread-by (Some w) n e = second-false (is_read w.question) (w.sequence == n) e

  drops-grant : (sequence : ℕ) (grant : Granted) (snapshot : SnapshotFacts) (waited : Option PendingQuestion)
      → o.knows.waited ≡ waited → awaits_number waited sequence ≡ false
      → step now points (HeardGranted sequence grant snapshot) o ≡ o
  drops-grant sequence grant snapshot waited some other =
      ap (λ (x : Outcome). granted_any now sequence grant snapshot x) (leads-before now o leads)
      ∙ if-false (grants_operator sequence grant o.knows) (operator_granted snapshot o.knows.operating o)
      (granted now sequence grant snapshot o) (not-operated sequence grant o.knows nobody)
      ∙ ap (λ (w : Option PendingQuestion). granted_for now sequence grant snapshot w o) some
      ∙ ungranted waited other
    where
      ungranted : (w : Option PendingQuestion) → awaits_number w sequence ≡ false
          → granted_for now sequence grant snapshot w o ≡ o
      ungranted None e = refl
      ungranted (Some w) e =
          if-false (is_decision w sequence && is_lease_of o.knows.who.me grant) _
          (granted_write now sequence grant snapshot w o)
          (both-false' (asks_lease w.question) (w.sequence == sequence) (is_lease_of o.knows.who.me grant) e)
          ∙ if-false (is_sync_decision w sequence && is_write_of o.knows.who.me grant) _ o
          (both-false' (asks_sync w.question) (w.sequence == sequence) (is_write_of o.knows.who.me grant) e)
        where
          both-false' : (a b c : Bool) → b ≡ false → (a && b) && c ≡ false
          both-false' false b c f = refl
          both-false' true b c f = ap (λ (x : Bool). x && c) f

  drops-refusal : (sequence : ℕ) (key : Key) (there : Expected) (waited : Option PendingQuestion)
      → o.knows.waited ≡ waited → awaits_number waited sequence ≡ false
      → step now points (Mismatch sequence key there) o ≡ o
  drops-refusal sequence key there waited some other =
      ap (λ (x : Outcome). refused_any now sequence x) (leads-before now o leads)
      ∙ if-false (operates o.knows sequence) (operator_refused o.knows.operating o) (refused now sequence o)
      (ap (λ (x : Option Operating). is_asked_for x sequence && not (awaits_number o.knows.waited sequence)) nobody)
      ∙ ap (λ (w : Option PendingQuestion). refused_for now sequence w o) some
      ∙ unrefused waited other
    where
      neither : (a b c : Bool) → c ≡ false → (a && c) || (b && c) ≡ false
      neither a b c e = ap (λ (x : Bool). (a && x) || (b && x)) e ∙ none a b
        where
          none : (x y : Bool) → (x && false) || (y && false) ≡ false
          none true true = refl
          none true false = refl
          none false true = refl
          none false false = refl

      unrefused : (w : Option PendingQuestion) → awaits_number w sequence ≡ false → refused_for now sequence w o ≡ o
      unrefused None e = refl
      unrefused (Some w) e = if-false (awaits_decision w sequence) _ o
          (neither (asks_lease w.question) (asks_sync w.question) (w.sequence == sequence) e)

  drops-answer : (sequence : ℕ) (answer : PeerAnswer) (waited : Option PendingQuestion) → o.knows.waited ≡ waited
      → awaits_number waited sequence ≡ false → step now points (Answered sequence answer) o ≡ o
  drops-answer sequence answer waited some other =
      ap (answered now sequence answer) (leads-before now o leads)
      ∙ ap (λ (w : Option PendingQuestion). answered_for now sequence answer w o) some ∙ unanswered waited other
    where
      unanswered : (w : Option PendingQuestion) → awaits_number w sequence ≡ false
          → answered_for now sequence answer w o ≡ o
      unanswered None e = refl
      unanswered (Some w) e =
          if-false (awaits_answer w sequence) _ _ (second-false (is_asking w.question) (w.sequence == sequence) e)
          ∙ if-false (awaits_check w sequence) _ o (second-false (is_checking w.question) (w.sequence == sequence) e)

  drops-failsafe : (from : MemberId) (sequence : ℕ) (acknowledged : Bool) (sent : Ticks)
      (waited : Option PendingQuestion) → o.knows.waited ≡ waited → awaits_number waited sequence ≡ false
      → step now points (FailsafeAnswered from sequence acknowledged sent) o ≡ o
  drops-failsafe from sequence acknowledged sent waited some other =
      ap (failsafe_answered now from sequence acknowledged sent) (leads-before now o leads)
      ∙ ap (λ (w : Option PendingQuestion). failsafe_answered_for now from sequence acknowledged sent w o) some
      ∙ unanswered waited other
    where
      unanswered : (w : Option PendingQuestion) → awaits_number w sequence ≡ false
          → failsafe_answered_for now from sequence acknowledged sent w o ≡ o
      unanswered None e = refl
      unanswered (Some w) e =
          if-false (awaits_failsafe w sequence) _ o (second-false (is_staying w.question) (w.sequence == sequence) e)

  numbered : (number sequence : ℕ) → sequence ≡ number → awaits_number o.knows.waited number ≡ false
      → awaits_number o.knows.waited sequence ≡ false
  numbered number sequence same other = ap (awaits_number o.knows.waited) same ∙ other

  pub drops : (number : ℕ) (heard : Heard) → AnswersNumber number heard
      → awaits_number o.knows.waited number ≡ false → step now points heard o ≡ o
  drops number (ReadAnswered sequence snapshot) same other =
      drops-read sequence snapshot o.knows.waited refl (numbered number sequence same other)
  drops number (HeardGranted sequence grant snapshot) same other =
      drops-grant sequence grant snapshot o.knows.waited refl (numbered number sequence same other)
  drops number (Mismatch sequence key there) same other =
      drops-refusal sequence key there o.knows.waited refl (numbered number sequence same other)
  drops number (Answered sequence answer) same other =
      drops-answer sequence answer o.knows.waited refl (numbered number sequence same other)
  drops number (FailsafeAnswered from sequence acknowledged sent) same other =
      drops-failsafe from sequence acknowledged sent o.knows.waited refl (numbered number sequence same other)
  drops number _ same other = absurd same

  -- the answer of another member, while none of those is waited for
  unasked-answer : (sequence : ℕ) (answer : PeerAnswer) (waited : Option PendingQuestion) → AwaitsNoPeer waited
      → answered_for now sequence answer waited o ≡ o
  unasked-answer sequence answer None none = refl
  unasked-answer sequence answer (Some w) none =
      if-false (awaits_answer w sequence) _ _ (ap (λ (b : Bool). b && (w.sequence == sequence)) none.0)
      ∙ if-false (awaits_check w sequence) _ o (ap (λ (b : Bool). b && (w.sequence == sequence)) none.1.0)

  unasked-failsafe : (from : MemberId) (sequence : ℕ) (acknowledged : Bool) (sent : Ticks)
      (waited : Option PendingQuestion) → AwaitsNoPeer waited
      → failsafe_answered_for now from sequence acknowledged sent waited o ≡ o
  unasked-failsafe from sequence acknowledged sent None none = refl
  unasked-failsafe from sequence acknowledged sent (Some w) none =
      if-false (awaits_failsafe w sequence) _ o (ap (λ (b : Bool). b && (w.sequence == sequence)) none.1.1)

  pub drops-peer : (heard : Heard) → IsPeerAnswer heard → AwaitsNoPeer o.knows.waited → step now points heard o ≡ o
  drops-peer (Answered sequence answer) is none =
      ap (answered now sequence answer) (leads-before now o leads)
      ∙ unasked-answer sequence answer o.knows.waited none
  drops-peer (FailsafeAnswered from sequence acknowledged sent) is none =
      ap (failsafe_answered now from sequence acknowledged sent) (leads-before now o leads)
      ∙ unasked-failsafe from sequence acknowledged sent o.knows.waited none
  drops-peer _ is none = absurd is

  -- ---- its write of the sync key is decided
  settled-so : (snapshot : SnapshotFacts) (settling : Settling)
      → HasSynced (settings_in o.knows.settings snapshot) o
      (settled settling (record o { knows = informed snapshot o.knows }))
  settled-so snapshot KeepsList =
      record {
        role = refl;
        settings_are = refl;
        counted = refl;
        operating = refl;
        server = refl;
        watchdog = refl;
        next = refl;
        waits = refl;
        outputs_are = inl refl;
      }
  settled-so snapshot (NamesStandbys standbys) =
      record {
        role = refl;
        settings_are = refl;
        counted = refl;
        operating = refl;
        server = refl;
        watchdog = refl;
        next = refl;
        waits = refl;
        outputs_are = inr (_, refl);
      }
  settled-so snapshot ClearsList =
      record {
        role = refl;
        settings_are = refl;
        counted = refl;
        operating = refl;
        server = refl;
        watchdog = refl;
        next = refl;
        waits = refl;
        outputs_are = inr (_, refl);
      }

  pub synced : (waited : PendingQuestion) (settling : Settling) (grant : Granted) (snapshot : SnapshotFacts)
      → o.knows.waited ≡ Some waited → waited.question ≡ Syncing settling → is_write_of o.knows.who.me grant ≡ true
      → HasSynced (settings_in o.knows.settings snapshot) o
      (step now points (HeardGranted waited.sequence grant snapshot) o)
  synced waited settling grant snapshot some asks mine =
      let told : Outcome = record o { knows = informed snapshot o.knows } in
      let whole : step now points (HeardGranted waited.sequence grant snapshot) o ≡ settled settling told =
      ap (λ (x : Outcome). granted_any now waited.sequence grant snapshot x) (leads-before now o leads)
      ∙ if-false (grants_operator waited.sequence grant o.knows) (operator_granted snapshot o.knows.operating o)
      (granted now waited.sequence grant snapshot o) (not-operated waited.sequence grant o.knows nobody)
      ∙ ap (λ (w : Option PendingQuestion). granted_for now waited.sequence grant snapshot w o) some
      ∙ if-false (is_decision waited waited.sequence && is_lease_of o.knows.who.me grant) _
      (granted_write now waited.sequence grant snapshot waited o)
      (ap (λ (q : Question).
      (asks_lease q && (waited.sequence == waited.sequence)) && is_lease_of o.knows.who.me grant)
      asks)
      ∙ if-true (is_sync_decision waited waited.sequence && is_write_of o.knows.who.me grant)
      (accepted_sync now waited snapshot o) o
      (both-true (is_sync_decision waited waited.sequence) (is_write_of o.knows.who.me grant)
      (ap (λ (q : Question). asks_sync q && (waited.sequence == waited.sequence)) asks ∙ equal-is waited.sequence)
      mine)
      ∙ ap (λ (q : Question). cond (belongs q o.role) (sync_granted now q o.role told) (waiting_no_more o)) asks
      ∙ if-true (is_leader o.role) (settled settling told) (waiting_no_more o) (ap is_leader leads.role) in
      subst (HasSynced (settings_in o.knows.settings snapshot) o) (sym whole) (settled-so snapshot settling)

  pub unsynced : (waited : PendingQuestion) (settling : Settling) (key : Key) (there : Expected)
      → o.knows.waited ≡ Some waited → waited.question ≡ Syncing settling
      → HasSynced o.knows.settings o (step now points (Mismatch waited.sequence key there) o)
  unsynced waited settling key there some asks =
      let whole : step now points (Mismatch waited.sequence key there) o ≡ waiting_no_more o =
      ap (λ (x : Outcome). refused_any now waited.sequence x) (leads-before now o leads)
      ∙ if-false (operates o.knows waited.sequence) (operator_refused o.knows.operating o)
      (refused now waited.sequence o)
      (ap (λ (x : Option Operating).
      is_asked_for x waited.sequence && not (awaits_number o.knows.waited waited.sequence))
      nobody)
      ∙ ap (λ (w : Option PendingQuestion). refused_for now waited.sequence w o) some
      ∙ if-true (awaits_decision waited waited.sequence) (refused_as now waited.question (waiting_no_more o)) o
      (ap (λ (q : Question). (asks_lease q && (waited.sequence == waited.sequence))
      || (asks_sync q && (waited.sequence == waited.sequence)))
      asks ∙ equal-is waited.sequence)
      ∙ ap (λ (q : Question). refused_as now q (waiting_no_more o)) asks in
      subst (HasSynced o.knows.settings o) (sym whole)
      (record {
        role = refl;
        settings_are = refl;
        counted = refl;
        operating = refl;
        server = refl;
        watchdog = refl;
        next = refl;
        waits = refl;
        outputs_are = inl refl;
      })
