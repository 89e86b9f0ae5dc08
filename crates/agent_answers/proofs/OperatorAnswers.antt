-- Each answer to an operator has its cause, and what waits for a result was asked.
use Rattle.std.proofs.Common.{◌≡◌, ◌⊎◌, ◌≤◌, ℕ, ◌++◌, ◌==◌, ◌&&◌, not, nat_le, eq-eqb, Bool, true, false, List, [], ◌∷◌, Option, Some, None, All, refl, sym, subst, ap, ◌∙◌, inl, inr, append-nil}
use Rattle.std.proofs.lemmas.Bool.{eqb-true, leb-true}
use Rattle.std.proofs.lemmas.List.Elements.{All-cons, All-nil, Contains-push, Contains-append_left}
use Rattle.pat_base.specs.declared.member_id.MemberId.{MemberId}
use Rattle.pat_base.specs.declared.name.Name.{Name}
use Rattle.pat_base.specs.declared.ticks.Ticks.{Ticks}
use Rattle.store_keys.specs.declared.action.FailoverKind.{FailoverKind}
use Rattle.store_keys.specs.declared.action.FailoverKind.TheVariants as kinds
use Rattle.store_keys.specs.declared.action.OperatorAction.{OperatorAction}
use Rattle.store_keys.specs.declared.action.OperatorRequest.{OperatorRequest}
use Rattle.store_keys.specs.declared.action.OperatorRequest.TheVariants as requests
use Rattle.lease_store.specs.declared.granted.Granted.{Granted}
use Rattle.store_keys.specs.declared.txn.Txn.{Txn}
use Rattle.store_keys.specs.declared.txn.Txn.TheVariants as txns
use Rattle.store_keys.specs.declared.txn.OperatorTxn.TheVariants as operator_txns
use Rattle.store_keys.specs.declared.value.FailoverKey.{FailoverKey}
use Rattle.wal_model.specs.declared.entry.HistoryPoint.{HistoryPoint}
use Rattle.pg_model.specs.Running.{is_primary}
use Rattle.cluster_view.specs.KeyValues.{failover_in}
use Rattle.cluster_view.specs.Snapshots.{SnapshotFacts}
use Rattle.operator_answers.specs.declared.answer_text.Text.TheVariants as texts
use Rattle.operator_answers.specs.Statuses.{service_unavailable, ok, internal_server_error}
use Rattle.event_book.specs.declared.message.Body.TheVariants as bodies
use Rattle.lease_model.proofs.Tools.{some-is, none-some}
use Rattle.agent_model.specs.declared.heard.Heard.{Heard}
use Rattle.agent_model.specs.declared.heard.Heard.TheVariants.{Wake, ReadAnswered, Granted as HeardGranted, Mismatch, Asked, Answered, FailsafeAsked, FailsafeAnswered, Operated as HearsOperator}
use Rattle.agent_model.specs.declared.knowledge.Knowledge.{Knowledge}
use Rattle.agent_model.specs.declared.machine.Machine.{Machine}
use Rattle.agent_model.specs.declared.operating.Operating.{Operating}
use Rattle.agent_model.specs.declared.operating.Operation.{Operation}
use Rattle.agent_model.specs.declared.operating.Operation.TheVariants.{FailingOver, Configuring}
use Rattle.agent_model.specs.declared.operating.Told.{Told}
use Rattle.agent_model.specs.declared.operating.Told.TheVariants as tolds
use Rattle.agent_model.specs.declared.output.Output.{Output}
use Rattle.agent_model.specs.declared.output.Output.TheVariants as outputs
use Rattle.agent_model.specs.declared.output.Outgoing.TheVariants as outgoing
use Rattle.agent_model.specs.declared.output.ServerOrder.TheVariants as orders
use Rattle.agent_model.specs.declared.output.Telling.TheVariants as tellings
use Rattle.agent_model.specs.declared.output.Target.TheVariants as targets
use Rattle.agent_model.specs.declared.knowledge.PendingQuestion.{PendingQuestion}
use Rattle.agent_model.specs.declared.who.Who.{Who}
use Rattle.agent_model.specs.declared.why.Why.{Why}
use Rattle.agent_model.specs.declared.why.Why.TheVariants.{HandOver, Lost}
use Rattle.agent_model.specs.Agents.{RoleFacts, Outcome, outcome_from}
use Rattle.agent_model.specs.Reconciling.{reconciled, has_ended}
use Rattle.agent_model.specs.Decisions.{granted, is_write_of, refused}
use Rattle.agent_answers.specs.OperatorAnswers.{told_by, told_in, HasNewLeader, HasOldLeader, IsResultBy, IsReason, AnswersWaiting, IsDoneIn, AnswersAtOnce, AnswersOneAtMost, IsWish, IsAskedFor, WaitsAsAsked, IsRefused, HasCause, HaveCauses, AwaitsDecision, TellsDecision}
use Rattle.agent_model.specs.Operators.{awaits_number, answering, answering_if, operating, config_revision, operated, done_by, failed_by, done_text, failed_text, holder_in, holder_if, name_in, is_same_member, result_as, looked_by, uses_read, looked, operator_until, late_answer, given_up_by, given_up, learned, granted_as, is_asked_for, operates, grants_operator, operator_granted, refusal_of, operator_refused, telling, unnumbered}
use Rattle.agent_model.specs.Acting.{lease_span}
use Rattle.agent_model.specs.Outputs.{with_output}
use Rattle.agent_model.specs.StayingPrimary.{answering_failsafe, awaits_lease, holding_for, span_after}
use Rattle.agent_model.specs.Table.{step}
use Rattle.agent_model.specs.Wake.{woken}
use Rattle.agent_roles.proofs.Granting.{both-true}
use Rattle.agent_roles.proofs.Living.{no-way}
use Rattle.agent_roles.proofs.Knowing.{before-onward, before-read}
use Rattle.agent_answers.proofs.Replying.{Quiet, as-said, told-more, told-same, before-quiet, roused-quiet, got-quiet, refused-quiet, granted-quiet, answered-quiet, failsafe-quiet}
use Rattle.agent_model.proofs.Judging.{if-true}
use Rattle.agent_cases.proofs.Rows.{before-by, if-cases, wake-by}
use Rattle.agent_cases.proofs.FailsafeRows.{failsafe-asked-by}
use Rattle.agent_model.specs.Views.{shown as view_shown}
use Rattle.failsafe.specs.Holding.{may_hold}

-- no operator is told anything yet, and the same request waits as before
abbrev Untold : Outcome → Outcome → Type 0
Untold o x = (told_in x.outputs ≡ []) × (x.knows.operating ≡ o.knows.operating)

-- what an input made of operators' requests so far: nothing, or the one that waited is answered
data Owed (now : Ticks) (heard : Heard) (o x : Outcome) : Type 0 where
  Silent : Untold o x → Owed now heard o x
  Tells : (answer : ℕ × Told) → told_in x.outputs ≡ answer ∷ [] → AnswersWaiting now heard o x answer
      → Owed now heard o x

-- rows that are no operator's leave it so
owed-on : (now : Ticks) (heard : Heard) (o x y : Outcome) → Quiet x y → Owed now heard o x → Owed now heard o y
owed-on now heard o x y quiet (Silent untold) = Owed.Silent (quiet.told ∙ untold.0, quiet.waits ∙ untold.1)
owed-on now heard o x y quiet (Tells answer one answers) = Owed.Tells answer (quiet.told ∙ one) (record {
  waiting = answers.waiting;
  waited = answers.waited;
  request = answers.request;
  reason = answers.reason;
  over = quiet.waits ∙ answers.over;
})

-- the request that waits is answered for a reason
tells : (now : Ticks) (heard : Heard) (o b : Outcome) (waiting : Operating) (told : Told) → Untold o b
    → b.knows.operating ≡ Some waiting → IsReason now heard o waiting told
    → Owed now heard o (answering waiting.request told b)
tells now heard o b waiting told untold is reason = Owed.Tells (waiting.request, told)
    (told-more b.outputs (outputs.Tell (tellings.Told waiting.request told))
    ∙ ap (λ (l : List (ℕ × Told)). l ++ (waiting.request, told) ∷ []) untold.0)
    (record {
      waiting = waiting;
      waited = sym untold.1 ∙ is;
      request = refl;
      reason = reason;
      over = refl;
    })

-- what a law says of an input and operators
pub record IsRight (now : Ticks) (heard : Heard) (o after : Outcome) : Type 0 where
  pub answers : AnswersOneAtMost now heard o after (told_in after.outputs)
  pub waits : WaitsAsAsked now heard o after

right-of : (now : Ticks) (heard : Heard) (o x : Outcome) → Owed now heard o x → IsRight now heard o x
right-of now heard o x (Silent untold) = record {
  answers = subst (AnswersOneAtMost now heard o x) (sym untold.0) tt;
  waits = λ waiting is. inl (sym untold.1 ∙ is);
}
right-of now heard o x (Tells answer one answers) = record {
  answers = subst (AnswersOneAtMost now heard o x) (sym one) (inl answers);
  waits = λ waiting is. absurd (none-some waiting (sym answers.over ∙ is));
}

-- a wake
given-up-as : (now : Ticks) (o b : Outcome) (waiting : Option Operating) → Untold o b → b.knows.operating ≡ waiting
    → b.knows.settings ≡ o.knows.settings → Owed now Wake o (given_up_by now waiting b)
given-up-as now o b None untold is settings = Owed.Silent untold
given-up-as now o b (Some waiting) untold is settings =
    if-cases (Owed now Wake o) (nat_le (operator_until b.knows.settings waiting.operation waiting.since).0 now.0)
    (answering waiting.request (late_answer waiting.operation) b) b
    (λ late. tells now Wake o b waiting (late_answer waiting.operation) untold is
    (leb-true (operator_until o.knows.settings waiting.operation waiting.since).0 now.0 (rw (sym settings) late), refl))
    (λ _. Owed.Silent untold)

-- what a snapshot shows
named : (kind : FailoverKind) (was : Option MemberId) (snapshot : SnapshotFacts) (told : Told) (leader : MemberId)
    (name : Option Name) → holder_in snapshot ≡ Some leader → is_same_member was (Some leader) ≡ false
    → name_in snapshot.members (Some leader) ≡ name → done_by kind name ≡ Some told
    → HasNewLeader kind was snapshot told
named kind was snapshot told leader None leads other is done = absurd (none-some told done)
named kind was snapshot told leader (Some name) leads other is done = record {
  leader = leader;
  leads = leads;
  other = other;
  name = name;
  named = is;
  says = sym (some-is (tolds.Text ok (done_text kind name)) told done);
}

leads-now : (kind : FailoverKind) (was : Option MemberId) (snapshot : SnapshotFacts) (told : Told)
    (leader : Option MemberId) → holder_in snapshot ≡ leader → is_same_member was leader ≡ false
    → done_by kind (name_in snapshot.members leader) ≡ Some told → HasNewLeader kind was snapshot told
leads-now kind was snapshot told None leads other done = absurd (none-some told done)
leads-now kind was snapshot told (Some leader) leads other done =
    named kind was snapshot told leader (name_in snapshot.members (Some leader)) leads other refl done

leads-still : (kind : FailoverKind) (was : Option MemberId) (snapshot : SnapshotFacts) (told : Told)
    (failover : Option FailoverKey) → is_same_member was (holder_in snapshot) ≡ true → failover_in snapshot ≡ failover
    → failed_by kind failover ≡ Some told → HasOldLeader kind was snapshot told
leads-still kind was snapshot told None same over failed = record {
  same = same;
  over = over;
  says = sym (some-is (tolds.Text service_unavailable (failed_text kind)) told failed);
}
leads-still kind was snapshot told (Some failover) same over failed = absurd (none-some told failed)

shown : (operation : Operation) (was : Option MemberId) (snapshot : SnapshotFacts) (told : Told)
    → result_as operation was snapshot ≡ Some told → IsResultBy operation was snapshot told
shown (FailingOver kind) was snapshot told is =
    if-cases (λ (result : Option Told). result ≡ Some told →
    HasNewLeader kind was snapshot told ⊎ HasOldLeader kind was snapshot told)
    (is_same_member was (holder_in snapshot))
    (failed_by kind (failover_in snapshot)) (done_by kind (name_in snapshot.members (holder_in snapshot)))
    (λ same failed. inr (leads-still kind was snapshot told (failover_in snapshot) same refl failed))
    (λ other done. inl (leads-now kind was snapshot told (holder_in snapshot) refl other done)) is
shown Configuring was snapshot told is = absurd (none-some told is)

-- the answer to a read
result-shown : (now : Ticks) (sequence : ℕ) (snapshot : SnapshotFacts) (o : Outcome) (waiting : Operating)
    (result : Option Told) → Untold o (reconciled now o) → (reconciled now o).knows.operating ≡ Some waiting
    → uses_read sequence (reconciled now o) ≡ true → result_as waiting.operation waiting.leader snapshot ≡ result
    → Owed now (ReadAnswered sequence snapshot) o (answering_if waiting.request result (reconciled now o))
result-shown now sequence snapshot o waiting None untold is used result = Owed.Silent untold
result-shown now sequence snapshot o waiting (Some told) untold is used result =
    tells now (ReadAnswered sequence snapshot) o (reconciled now o) waiting told untold is
    (used, shown waiting.operation waiting.leader snapshot told result)

looked-as : (now : Ticks) (sequence : ℕ) (snapshot : SnapshotFacts) (o : Outcome) (waiting : Option Operating)
    → Untold o (reconciled now o) → (reconciled now o).knows.operating ≡ waiting
    → uses_read sequence (reconciled now o) ≡ true
    → Owed now (ReadAnswered sequence snapshot) o (looked_by waiting snapshot (reconciled now o))
looked-as now sequence snapshot o None untold is used = Owed.Silent untold
looked-as now sequence snapshot o (Some waiting) untold is used = result-shown now sequence snapshot o waiting
    (result_as waiting.operation waiting.leader snapshot) untold is used refl

-- the grant and the refusal of what was asked for
granted-as : (now : Ticks) (sequence : ℕ) (grant : Granted) (snapshot : SnapshotFacts) (o b : Outcome)
    (waiting : Operating) (operation : Operation) → Untold o b → b.knows.operating ≡ Some waiting
    → waiting.sequence ≡ sequence → is_write_of o.knows.who.me grant ≡ true → waiting.operation ≡ operation
    → Owed now (HeardGranted sequence grant snapshot) o (granted_as operation waiting.request (learned snapshot b))
granted-as now sequence grant snapshot o b waiting (FailingOver kind) untold is number own operation =
    Owed.Silent untold
granted-as now sequence grant snapshot o b waiting Configuring untold is number own operation =
    tells now (HeardGranted sequence grant snapshot) o (learned snapshot b) waiting tolds.Written untold is
    (number, own, operation, refl)

operator-granted-as : (now : Ticks) (sequence : ℕ) (grant : Granted) (snapshot : SnapshotFacts)
    (o b : Outcome) (waiting : Option Operating) → Untold o b → b.knows.operating ≡ waiting
    → is_asked_for waiting sequence ≡ true → is_write_of o.knows.who.me grant ≡ true
    → Owed now (HeardGranted sequence grant snapshot) o (operator_granted snapshot waiting b)
operator-granted-as now sequence grant snapshot o b None untold is asked own = Owed.Silent untold
operator-granted-as now sequence grant snapshot o b (Some waiting) untold is asked own = granted-as now sequence
    grant snapshot o b waiting waiting.operation untold is (eqb-true waiting.sequence sequence asked) own refl

operator-refused-as : (now : Ticks) (heard : Heard) (o b : Outcome) (waiting : Option Operating) → Untold o b
    → b.knows.operating ≡ waiting
    → ((found : Operating) → waiting ≡ Some found → IsReason now heard o found (refusal_of found.operation))
    → Owed now heard o (operator_refused waiting b)
operator-refused-as now heard o b None untold is reason = Owed.Silent untold
operator-refused-as now heard o b (Some waiting) untold is reason =
    tells now heard o b waiting (refusal_of waiting.operation) untold is (reason waiting refl)

asked-number : (waiting : Option Operating) (sequence : ℕ) (found : Operating)
    → is_asked_for waiting sequence ≡ true → waiting ≡ Some found → found.sequence ≡ sequence
asked-number None sequence found asked is = absurd (none-some found is)
asked-number (Some waiting) sequence found asked is = subst (λ (w : Operating). w.sequence ≡ sequence)
    (some-is waiting found is) (eqb-true waiting.sequence sequence asked)

operates-asked : (knows : Knowledge) (sequence : ℕ) → operates knows sequence ≡ true
    → is_asked_for knows.operating sequence ≡ true
operates-asked knows sequence is = (both-true (is_asked_for knows.operating sequence) _ is).0

-- what an operator asks
asks-store : (now : Ticks) (action : OperatorAction) (o b : Outcome) (operation : Operation) (txn : Txn)
    → Untold o b → b.knows.seen ≡ o.knows.seen → IsWish action.asked operation txn
    → IsRight now (HearsOperator action) o (operating now action.request operation (bodies.Request txn) b)
asks-store now action o b operation txn untold seen wish =
    let after : Outcome = operating now action.request operation (bodies.Request txn) b in record {
      answers = subst (AnswersOneAtMost now (HearsOperator action) o after)
          (sym (told-same b.outputs (outputs.Message (outgoing.Send targets.Store _ (bodies.Request txn))) tt
          ∙ untold.0))
          tt;
      waits = λ waiting is. inr (subst (IsAskedFor now action o after) (some-is _ waiting is) (record {
        request = refl;
        since = refl;
        leader = ap (λ (x : Option SnapshotFacts). holder_if x) seen;
        txn = txn;
        wish = wish;
        sent = Contains-push b.outputs _;
      }));
    }

done-at-once : (now : Ticks) (action : OperatorAction) (o b x : Outcome) (outs : List Output) (told : Told)
    → Untold o b → told_in outs ≡ told_in b.outputs → x.knows.operating ≡ b.knows.operating
    → x.outputs ≡ with_output (outputs.Tell (tellings.Told action.request told)) outs
    → IsDoneIn x.outputs action.asked told
    → IsRight now (HearsOperator action) o x
done-at-once now action o b x outs told untold silent waits are done = record {
  answers = subst (AnswersOneAtMost now (HearsOperator action) o x)
      (sym (ap (λ (l : List Output). told_in l) are
      ∙ (told-more outs (outputs.Tell (tellings.Told action.request told))
      ∙ ap (λ (l : List (ℕ × Told)). l ++ (action.request, told) ∷ []) (silent ∙ untold.0))))
      (inr (refl, done));
  waits = λ waiting is. inl (sym untold.1 ∙ (sym waits ∙ is));
}

does : (now : Ticks) (action : OperatorAction) (asked : OperatorRequest) (o b : Outcome) → Untold o b
    → b.knows.seen ≡ o.knows.seen → action.asked ≡ asked
    → IsRight now (HearsOperator action) o (operated now action.request asked b)
does now action (requests.Failover kind failover) o b untold seen is = asks-store now action o b (FailingOver kind)
    (txns.Operators (operator_txns.SetFailover failover (lease_span b.knows.settings))) untold seen
    (rw is (refl, (_, refl)))
does now action (requests.Configuration config) o b untold seen is = asks-store now action o b Configuring
    (txns.Operators (operator_txns.SetConfig (config_revision b.knows.seen) config)) untold seen
    (rw is (refl, (_, refl)))
does now action requests.Restart o b untold seen is =
    let output : Output = outputs.Server (orders.Restart (is_primary b.machine.server.state)) in
    done-at-once now action o b (operated now action.request requests.Restart b) (with_output output b.outputs)
    (tolds.Text ok texts.Restarted) untold (told-same b.outputs output tt) refl refl
    (rw is ((_, Contains-append_left _ _ output (Contains-push b.outputs output)), refl))
does now action requests.Reinit o b untold seen is =
    done-at-once now action o b (operated now action.request requests.Reinit b)
    (with_output (outputs.Server orders.Wipe) b.outputs)
    (tolds.Text ok texts.ReinitializeStarted) untold (told-same b.outputs (outputs.Server orders.Wipe) tt) refl refl
    (rw is (
      Contains-append_left _ _ (outputs.Server orders.Wipe) (Contains-push b.outputs (outputs.Server orders.Wipe)),
      refl,
    ))
does now action (requests.Hold from ttl) o b untold seen is =
    if-cases (λ (x : Outcome). IsRight now (HearsOperator action) o x)
    (may_hold (view_shown now b) (awaits_lease b.knows.waited))
    (telling action.request (tolds.Text ok texts.Accepted) held)
    (telling action.request (tolds.Text internal_server_error texts.Refused) b)
    (λ _. done-at-once now action o b (telling action.request (tolds.Text ok texts.Accepted) held) held.outputs
    (tolds.Text ok texts.Accepted) untold (told-same b.outputs output tt) refl refl
    (rw is (inl ((_, (_, Contains-append_left _ _ output (Contains-push b.outputs output))), refl))))
    (λ _. done-at-once now action o b (telling action.request (tolds.Text internal_server_error texts.Refused) b)
    b.outputs (tolds.Text internal_server_error texts.Refused) untold refl refl refl (rw is (inr refl)))
  where
    held : Outcome
    held = holding_for now b.knows.who.me unnumbered (record { 0 = ttl }) b

    output : Output
    output = outputs.Tell (tellings.HoldTaken (span_after now (record { 0 = ttl })) b.knows.who.me unnumbered)

-- one more output that tells no operator anything
told-none-more : (outs : List Output) (output : Output) → told_by output ≡ [] → told_in outs ≡ []
    → told_in (with_output output outs) ≡ []
told-none-more outs output none silent = told-more outs output
    ∙ (ap (λ (l : List (ℕ × Told)). told_in outs ++ l) none ∙ (append-nil (told_in outs) ∙ silent))

pub step-right : (now : Ticks) (points : List HistoryPoint) (heard : Heard) (role : RoleFacts)
    (knows : Knowledge) (machine : Machine)
    → IsRight now heard (outcome_from role knows machine [])
    (step now points heard (outcome_from role knows machine []))
step-right now points heard role knows machine = by heard
  where
    o : Outcome
    o = outcome_from role knows machine []

    b : Outcome
    b = reconciled now o

    first : Quiet o b
    first = before-quiet o now o (as-said o)

    untold : Untold o b
    untold = (first.told, first.waits)

    goes : (heard : Heard) (x y : Outcome) → Owed now heard o x → Quiet x y → IsRight now heard o y
    goes heard x y owed quiet = right-of now heard o y (owed-on now heard o x y quiet owed)

    by : (heard : Heard) → IsRight now heard o (step now points heard o)
    by Wake = let late : Outcome = given_up now b in
        right-of now Wake o (woken now o)
        (wake-by (Owed now Wake o) now o (Owed.Silent untold)
        (owed-on now Wake o late _ (roused-quiet late now late (as-said late))
        (given-up-as now o b b.knows.operating untold refl (before-read now o).0)))
    by (ReadAnswered sequence snapshot) = let seen : Outcome = looked sequence snapshot b in
        goes (ReadAnswered sequence snapshot) seen (step now points (ReadAnswered sequence snapshot) o)
        (if-cases (Owed now (ReadAnswered sequence snapshot) o) (uses_read sequence b)
        (looked_by b.knows.operating snapshot b) b
        (λ used. looked-as now sequence snapshot o b.knows.operating untold refl used) (λ _. Owed.Silent untold))
        (got-quiet seen now points sequence snapshot seen (as-said seen))
    by (HeardGranted sequence grant snapshot) = right-of now (HeardGranted sequence grant snapshot) o _
        (if-cases (Owed now (HeardGranted sequence grant snapshot) o) (grants_operator sequence grant b.knows)
        (operator_granted snapshot b.knows.operating b) (granted now sequence grant snapshot b)
        (λ grants. let both : (operates b.knows sequence ≡ true) × (is_write_of b.knows.who.me grant ≡ true) =
        both-true (operates b.knows sequence) (is_write_of b.knows.who.me grant) grants in
        operator-granted-as now sequence grant snapshot o b b.knows.operating untold refl
        (operates-asked b.knows sequence both.0)
        (subst (λ (w : Who). is_write_of w.me grant ≡ true) (before-onward None now o).who both.1))
        (λ _. owed-on now (HeardGranted sequence grant snapshot) o b _
        (granted-quiet b now sequence grant snapshot b (as-said b)) (Owed.Silent untold)))
    by (Mismatch sequence key found) = right-of now (Mismatch sequence key found) o _
        (if-cases (Owed now (Mismatch sequence key found) o) (operates b.knows sequence)
        (operator_refused b.knows.operating b) (refused now sequence b)
        (λ is. operator-refused-as now (Mismatch sequence key found) o b b.knows.operating untold refl
        (λ waiting waits.
        (asked-number b.knows.operating sequence waiting (operates-asked b.knows sequence is) waits, refl)))
        (λ _. owed-on now (Mismatch sequence key found) o b _ (refused-quiet b now sequence b (as-said b))
        (Owed.Silent untold)))
    by (HearsOperator action) = does now action action.asked o b untold (before-read now o).1 refl
    by (Asked from incarnation sequence) = right-of now (Asked from incarnation sequence) o _
        (Owed.Silent (told-more b.outputs _ ∙ (append-nil (told_in b.outputs) ∙ untold.0), untold.1))
    by (Answered sequence answer) =
        goes (Answered sequence answer) b _ (Owed.Silent untold) (answered-quiet b now sequence answer b (as-said b))
    by (FailsafeAsked from incarnation sequence ttl) =
        let heard : Heard = FailsafeAsked from incarnation sequence ttl in
        let held : Outcome = holding_for now from sequence ttl b in
        let holds : told_in held.outputs ≡ [] =
        told-none-more b.outputs (outputs.Tell (tellings.HoldTaken (span_after now ttl) from sequence)) refl untold.0 in
        failsafe-asked-by (IsRight now heard o) now from incarnation sequence ttl b
        (λ _. right-of now heard o (answering_failsafe from incarnation sequence true held) (Owed.Silent (
          told-none-more held.outputs
              (outputs.Message (outgoing.FailsafeAnswer from incarnation sequence true)) refl holds,
          untold.1,
        )))
        (right-of now heard o (answering_failsafe from incarnation sequence false b) (Owed.Silent (
          told-none-more b.outputs
              (outputs.Message (outgoing.FailsafeAnswer from incarnation sequence false)) refl untold.0,
          untold.1,
        )))
    by (FailsafeAnswered from sequence accepted sent) = goes (FailsafeAnswered from sequence accepted sent) b _
        (Owed.Silent untold) (failsafe-quiet b now from sequence accepted sent b (as-said b))

-- ---- words that tell of want of time, or of a refusal, have their cause
late-cause : (now : Ticks) (knows : Knowledge) (request : ℕ) (waiting : Operating) (operation : Operation)
    → knows.operating ≡ Some waiting → request ≡ waiting.request → waiting.operation ≡ operation
    → (operator_until knows.settings operation waiting.since).0 ≤ now.0
    → HasCause now Wake knows (request, late_answer operation)
late-cause now knows request waiting (FailingOver kind) is number failing over = (
  refl,
  record {
    waiting = waiting;
    waits = is;
    number = sym number;
    so = record { kind = kind; operation = failing; over = over };
  },
)
late-cause now knows request waiting Configuring is number configuring over = inr (
  refl,
  record {
    waiting = waiting;
    waits = is;
    number = sym number;
    so = record { operation = configuring; unheard = refl; over = over };
  },
)

refusal-cause : (now : Ticks) (heard : Heard) (knows : Knowledge) (request : ℕ) (waiting : Operating)
    (operation : Operation) → knows.operating ≡ Some waiting → request ≡ waiting.request → waiting.operation ≡ operation
    → IsRefused heard waiting → HasCause now heard knows (request, refusal_of operation)
refusal-cause now heard knows request waiting (FailingOver kind) is number failing refused = (
  refl,
  record {
    waiting = waiting;
    waits = is;
    number = sym number;
    so = record { kind = kind; operation = failing; refused = refused };
  },
)
refusal-cause now heard knows request waiting Configuring is number configuring refused = inl (
  refl,
  record {
    waiting = waiting;
    waits = is;
    number = sym number;
    so = record { operation = configuring; refused = refused };
  },
)

done-free : (now : Ticks) (heard : Heard) (knows : Knowledge) (request : ℕ) (kind : FailoverKind) (name : Name)
    → HasCause now heard knows (request, tolds.Text ok (done_text kind name))
done-free now heard knows request kinds.Switchover name = tt
done-free now heard knows request kinds.Failover name = tt

failed-free : (now : Ticks) (heard : Heard) (knows : Knowledge) (request : ℕ) (kind : FailoverKind)
    → HasCause now heard knows (request, tolds.Text service_unavailable (failed_text kind))
failed-free now heard knows request kinds.Switchover = tt
failed-free now heard knows request kinds.Failover = tt

result-free : (now : Ticks) (heard : Heard) (knows : Knowledge) (request : ℕ) (operation : Operation)
    (was : Option MemberId) (snapshot : SnapshotFacts) (told : Told) → IsResultBy operation was snapshot told
    → HasCause now heard knows (request, told)
result-free now heard knows request (FailingOver kind) was snapshot told (inl led) =
    subst (λ (t : Told). HasCause now heard knows (request, t)) (sym led.says)
    (done-free now heard knows request kind led.name)
result-free now heard knows request (FailingOver kind) was snapshot told (inr leads) = subst
    (λ (t : Told). HasCause now heard knows (request, t)) (sym leads.says) (failed-free now heard knows request kind)
result-free now heard knows request Configuring was snapshot told never = absurd never

reason-cause : (now : Ticks) (heard : Heard) (o : Outcome) (request : ℕ) (told : Told) (waiting : Operating)
    → o.knows.operating ≡ Some waiting → request ≡ waiting.request → IsReason now heard o waiting told
    → HasCause now heard o.knows (request, told)
reason-cause now Wake o request told waiting is number reason =
    subst (λ (t : Told). HasCause now Wake o.knows (request, t)) (sym reason.1)
    (late-cause now o.knows request waiting waiting.operation is number refl reason.0)
reason-cause now (ReadAnswered sequence snapshot) o request told waiting is number reason = result-free now
    (ReadAnswered sequence snapshot) o.knows request waiting.operation waiting.leader snapshot told reason.1
reason-cause now (HeardGranted sequence grant snapshot) o request told waiting is number reason =
    subst (λ (t : Told). HasCause now (HeardGranted sequence grant snapshot) o.knows (request, t)) (sym reason.3) tt
reason-cause now (Mismatch sequence key found) o request told waiting is number reason =
    subst (λ (t : Told). HasCause now (Mismatch sequence key found) o.knows (request, t)) (sym reason.1)
    (refusal-cause now (Mismatch sequence key found) o.knows request waiting waiting.operation is number refl
    (record { key = key; found = found; hears = ap (λ (s : ℕ). Mismatch s key found) (sym reason.0) }))
reason-cause now (Asked from incarnation sequence) o request told waiting is number never = absurd never
reason-cause now (Answered sequence answer) o request told waiting is number never = absurd never
reason-cause now (FailsafeAsked from incarnation sequence ttl) o request told waiting is number never = absurd never
reason-cause now (FailsafeAnswered from sequence accepted sent) o request told waiting is number never = absurd never
reason-cause now (HearsOperator action) o request told waiting is number never = absurd never

done-cause : (now : Ticks) (heard : Heard) (knows : Knowledge) (outs : List Output) (request : ℕ)
    (asked : OperatorRequest) (told : Told) → IsDoneIn outs asked told → HasCause now heard knows (request, told)
done-cause now heard knows outs request requests.Restart told done =
    subst (λ (t : Told). HasCause now heard knows (request, t)) (sym done.1) tt
done-cause now heard knows outs request requests.Reinit told done =
    subst (λ (t : Told). HasCause now heard knows (request, t)) (sym done.1) tt
done-cause now heard knows outs request (requests.Hold from ttl) told (inl done) =
    subst (λ (t : Told). HasCause now heard knows (request, t)) (sym done.1) tt
done-cause now heard knows outs request (requests.Hold from ttl) told (inr done) =
    subst (λ (t : Told). HasCause now heard knows (request, t)) (sym done) tt
done-cause now heard knows outs request (requests.Failover kind failover) told never = absurd never
done-cause now heard knows outs request (requests.Configuration config) told never = absurd never

at-once-cause : (now : Ticks) (heard : Heard) (knows : Knowledge) (after : Outcome) (answer : ℕ × Told)
    → AnswersAtOnce heard after answer → HasCause now heard knows answer
at-once-cause now (HearsOperator action) knows after answer done =
    done-cause now (HearsOperator action) knows after.outputs answer.0 action.asked answer.1 done.1
at-once-cause now Wake knows after answer never = absurd never
at-once-cause now (ReadAnswered sequence snapshot) knows after answer never = absurd never
at-once-cause now (HeardGranted sequence grant snapshot) knows after answer never = absurd never
at-once-cause now (Mismatch sequence key found) knows after answer never = absurd never
at-once-cause now (Asked from incarnation sequence) knows after answer never = absurd never
at-once-cause now (Answered sequence told) knows after answer never = absurd never
at-once-cause now (FailsafeAsked from incarnation sequence ttl) knows after answer never = absurd never
at-once-cause now (FailsafeAnswered from sequence accepted sent) knows after answer never = absurd never

-- each answer has its cause
pub told-causes : (now : Ticks) (heard : Heard) (o after : Outcome) (told : List (ℕ × Told))
    → AnswersOneAtMost now heard o after told → All (HasCause now heard o.knows) told
told-causes now heard o after [] answers = All-nil (HasCause now heard o.knows)
told-causes now heard o after (answer ∷ []) (inl waited) =
    All-cons (HasCause now heard o.knows) answer []
    (reason-cause now heard o answer.0 answer.1 waited.waiting waited.waited waited.request waited.reason)
    (All-nil (HasCause now heard o.knows))
told-causes now heard o after (answer ∷ []) (inr at-once) = All-cons (HasCause now heard o.knows) answer []
    (at-once-cause now heard o.knows after answer at-once) (All-nil (HasCause now heard o.knows))
told-causes now heard o after (first ∷ second ∷ others) never = absurd never

pub right-causes : (now : Ticks) (heard : Heard) (o after : Outcome) → IsRight now heard o after
    → HaveCauses now heard o.knows after.outputs
right-causes now heard o after right = told-causes now heard o after (told_in after.outputs) right.answers

-- whatever is the outcome of the table, behind no outputs
pub input-right-as : (now : Ticks) (points : List HistoryPoint) (heard : Heard) (role : RoleFacts)
    (knows : Knowledge) (machine : Machine) (outs : List Output) (after : Outcome)
    → after ≡ step now points heard (outcome_from role knows machine outs)
    → outs ≡ [] → IsRight now heard (outcome_from role knows machine []) after
input-right-as now points heard role knows machine outs after is none =
    let same : after ≡ step now points heard (outcome_from role knows machine []) = is
    ∙ ap (λ (l : List Output). step now points heard (outcome_from role knows machine l)) none in
    subst (λ (x : Outcome). IsRight now heard (outcome_from role knows machine []) x) (sym same)
    (step-right now points heard role knows machine)

-- ---- what the key store decided on the request that waits is told at once
ended-waited : (why : Why) (held : ℕ) (o : Outcome) → (has_ended why held o).knows.waited ≡ o.knows.waited
ended-waited HandOver held o = refl
ended-waited Lost held o = refl

before-waited : (now : Ticks) (o : Outcome) → (reconciled now o).knows.waited ≡ o.knows.waited
before-waited now o = before-by (λ (x : Outcome). x.knows.waited ≡ o.knows.waited) now o
    (record {
      kept = λ _. refl;
      leader = λ _ _ _. refl;
      ending = λ held why _ _. ended-waited why held o;
      follower = λ _ _. refl;
      holder = λ _ _ _. refl;
      ready = λ _ _ _. refl;
      unleased = λ _ _. refl;
    })

asked-so : (operating : Option Operating) (sequence : ℕ) (waiting : Operating) → operating ≡ Some waiting
    → waiting.sequence ≡ sequence → is_asked_for operating sequence ≡ true
asked-so None sequence waiting is number = absurd (none-some waiting is)
asked-so (Some found) sequence waiting is number = subst (λ (w : Operating). w.sequence == sequence ≡ true)
    (sym (some-is found waiting is)) (eq-eqb waiting.sequence sequence number)

operates-so : (asked own : Bool) → asked ≡ true → own ≡ false → asked && not own ≡ true
operates-so true false asked alone = refl
operates-so true true asked alone = absurd (no-way (sym alone))
operates-so false own asked alone = absurd (no-way asked)

both-so : (a b : Bool) → a ≡ true → b ≡ true → a && b ≡ true
both-so true true a b = refl
both-so true false a b = absurd (no-way b)
both-so false b a is = absurd (no-way a)

before-operates : (now : Ticks) (sequence : ℕ) (waiting : Operating) (o : Outcome)
    → AwaitsDecision sequence waiting o.knows → Untold o (reconciled now o)
    → operates (reconciled now o).knows sequence ≡ true
before-operates now sequence waiting o awaits untold = let b : Outcome = reconciled now o in
    operates-so (is_asked_for b.knows.operating sequence) (awaits_number b.knows.waited sequence)
    (asked-so b.knows.operating sequence waiting (untold.1 ∙ awaits.waits) awaits.number)
    (ap (λ (w : Option PendingQuestion). awaits_number w sequence) (before-waited now o) ∙ awaits.alone)

tells-one : (o b : Outcome) (request : ℕ) (told : Told) → Untold o b
    → told_in (answering request told b).outputs ≡ (request, told) ∷ []
tells-one o b request told untold =
    told-more b.outputs (outputs.Tell (tellings.Told request told))
    ∙ ap (λ (l : List (ℕ × Told)). l ++ (request, told) ∷ []) untold.0

refusal-told : (o b : Outcome) (waiting : Operating) → Untold o b → b.knows.operating ≡ Some waiting
    → told_in (operator_refused b.knows.operating b).outputs ≡ (waiting.request, refusal_of waiting.operation) ∷ []
refusal-told o b waiting untold is = ap (λ (w : Option Operating). told_in (operator_refused w b).outputs) is
    ∙ tells-one o b waiting.request (refusal_of waiting.operation) untold

written-told : (snapshot : SnapshotFacts) (o b : Outcome) (waiting : Operating) → Untold o b
    → b.knows.operating ≡ Some waiting → waiting.operation ≡ Configuring
    → told_in (operator_granted snapshot b.knows.operating b).outputs ≡ (waiting.request, tolds.Written) ∷ []
written-told snapshot o b waiting untold is configuring =
    ap (λ (w : Option Operating). told_in (operator_granted snapshot w b).outputs) is
    ∙ ap (λ (operation : Operation). told_in (granted_as operation waiting.request (learned snapshot b)).outputs)
    configuring
    ∙ tells-one o (learned snapshot b) waiting.request tolds.Written untold

pub step-decides : (now : Ticks) (points : List HistoryPoint) (heard : Heard) (role : RoleFacts) (knows : Knowledge)
    (machine : Machine) → TellsDecision heard knows (step now points heard (outcome_from role knows machine [])).outputs
step-decides now points heard role knows machine = by heard
  where
    o : Outcome
    o = outcome_from role knows machine []

    b : Outcome
    b = reconciled now o

    untold : Untold o b
    untold = let first : Quiet o b = before-quiet o now o (as-said o) in (first.told, first.waits)

    by : (heard : Heard) → TellsDecision heard knows (step now points heard o).outputs
    by (Mismatch sequence key found) = λ waiting awaits. ap (λ (x : Outcome). told_in x.outputs)
        (if-true (operates b.knows sequence) (operator_refused b.knows.operating b) (refused now sequence b)
        (before-operates now sequence waiting o awaits untold))
        ∙ refusal-told o b waiting untold (untold.1 ∙ awaits.waits)
    by (HeardGranted sequence grant snapshot) =
        λ waiting awaits own configuring. ap (λ (x : Outcome). told_in x.outputs)
        (if-true (grants_operator sequence grant b.knows) (operator_granted snapshot b.knows.operating b)
        (granted now sequence grant snapshot b)
        (both-so (operates b.knows sequence) (is_write_of b.knows.who.me grant)
        (before-operates now sequence waiting o awaits untold)
        (subst (λ (w : Who). is_write_of w.me grant ≡ true) (sym (before-onward None now o).who) own)))
        ∙ written-told snapshot o b waiting untold (untold.1 ∙ awaits.waits) configuring
    by Wake = tt
    by (ReadAnswered sequence snapshot) = tt
    by (Asked from incarnation sequence) = tt
    by (Answered sequence answer) = tt
    by (FailsafeAsked from incarnation sequence ttl) = tt
    by (FailsafeAnswered from sequence accepted sent) = tt
    by (HearsOperator action) = tt

pub input-decides-as : (now : Ticks) (points : List HistoryPoint) (heard : Heard) (role : RoleFacts)
    (knows : Knowledge) (machine : Machine) (outs : List Output) (after : Outcome)
    → after ≡ step now points heard (outcome_from role knows machine outs)
    → outs ≡ [] → TellsDecision heard knows after.outputs
input-decides-as now points heard role knows machine outs after is none =
    let same : after ≡ step now points heard (outcome_from role knows machine []) = is
    ∙ ap (λ (l : List Output). step now points heard (outcome_from role knows machine l)) none in
    subst (λ (x : Outcome). TellsDecision heard knows x.outputs) (sym same)
    (step-decides now points heard role knows machine)
