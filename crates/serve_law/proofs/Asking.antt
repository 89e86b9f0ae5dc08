-- What an agent acts on that an operator asks.
use Rattle.std.proofs.Common.{ℕ, ◌≡◌, ◌⊎◌, ◌++◌, Bool, true, false, List, [], ◌∷◌, Option, Some, None, Result, Ok, Err, refl, inl, inr, subst, sym}
use Rattle.pat_base.specs.declared.member_id.MemberId.{MemberId}
use Rattle.pat_base.specs.declared.ticks.Ticks.{Ticks}
use Rattle.store_keys.specs.declared.action.OperatorRequest.{OperatorRequest}
use Rattle.store_keys.specs.declared.action.OperatorRequest.TheVariants as requests
use Rattle.store_keys.specs.declared.action.FailoverKind.TheVariants as failover_kinds
use Rattle.cluster_view.specs.declared.view.AgentView.{AgentView}
use Rattle.cluster_view.specs.Snapshots.{SnapshotFacts}
use Rattle.operator_answers.specs.declared.answer_text.Text.{Text}
use Rattle.operator_answers.specs.declared.answer_text.Text.TheVariants as texts
use Rattle.operator_keys.specs.declared.config_checks.ConfigChange.TheVariants as changes
use Rattle.operator_keys.specs.declared.refusal.Refused.{Refused}
use Rattle.operator_keys.specs.Bodies.{body_of}
use Rattle.operator_keys.specs.FailsafeChecks.{failsafe_on}
use Rattle.operator_keys.proofs.Holds.{hold-asked, seen-asked}
use Rattle.operator_keys.specs.Checks.{failover_by, failover_on, seen_if, switchover_by, switchover_on}
use Rattle.operator_keys.specs.ConfigChecks.{configuration_from, configuration_in, configuration_on}
use Rattle.operator_keys.specs.Refusals.{on_ok, unless_refused}
use Rattle.operator_keys.specs.ServerChecks.{reinit_refusal, restart_refusal}
use Rattle.operator_answers.specs.Statuses.{ok, internal_server_error}
use Rattle.rest_paths.specs.declared.asking.Ask.{Ask}
use Rattle.rest_paths.specs.declared.asking.Ask.TheVariants as asks
use Rattle.rest_paths.specs.declared.change.Change.{Change}
use Rattle.rest_paths.specs.declared.change.Change.TheVariants as asked
use Rattle.rest_answer.specs.Answers.{Acts, Replies, answer_by, decided}
use Rattle.rest_answer.specs.Decisions.{asking_for, change_on}
use Rattle.agent_model.specs.declared.operating.Told.TheVariants as tolds
use Rattle.agent_model.specs.declared.output.Output.{Output}
use Rattle.agent_model.specs.declared.output.Output.TheVariants as outputs
use Rattle.agent_model.specs.declared.output.Telling.TheVariants as tellings
use Rattle.agent_model.specs.Agents.{Outcome}
use Rattle.agent_model.specs.Operators.{operated, restarting, unnumbered, wiping}
use Rattle.agent_model.specs.StayingPrimary.{holding_for}
use Rattle.agent_cases.proofs.Rows.{asked-to-hold-by}

-- a request that is done at once, whether or not another one waits
abbrev pub IsDoneAtOnce : OperatorRequest → Type 0
IsDoneAtOnce requests.Restart = Unit {0}
IsDoneAtOnce requests.Reinit = Unit {0}
IsDoneAtOnce (requests.Hold from ttl) = Unit {0}
IsDoneAtOnce _ = ⊥

acts-so : {r : Result OperatorRequest Refused} {request : OperatorRequest} → decided r ≡ Acts request → r ≡ Ok request
acts-so {r = Ok found} e = cc
acts-so {r = Err refused} e = cc

refused-ok : {A : Type 0} {refused : Refused} {x : A} → Err refused ≡ Ok x → ⊥
refused-ok e = cc

asked-so : {A : Type 0} (f : A → OperatorRequest) (r : Result A Refused) (request : OperatorRequest)
    → asking_for f r ≡ Ok request → (x : A) × (r ≡ Ok x)
asked-so f (Ok x) request e = (x, refl)
asked-so f (Err refused) request e = absurd (refused-ok e)

-- what passes a check of the snapshot passes it while no other request waits
seen-alone : {A : Type 0} (seen : Option SnapshotFacts) (waits : Bool) (f : SnapshotFacts → Result A Refused) (x : A)
    → on_ok (seen_if seen waits) f ≡ Ok x → waits ≡ false
seen-alone None waits f x e = cc
seen-alone (Some found) false f x e = refl
seen-alone (Some found) true f x e = cc

body-alone : {A B : Type 0} (body : Result B Refused) (seen : Option SnapshotFacts) (waits : Bool)
    (f : B → SnapshotFacts → Result A Refused) (x : A)
    → on_ok body (λ found. on_ok (seen_if seen waits) (f found)) ≡ Ok x → waits ≡ false
body-alone (Ok found) seen waits f x e = seen-alone seen waits (f found) x e
body-alone (Err refused) seen waits f x e = cc

done-in : (request : OperatorRequest) (r : Result OperatorRequest Refused) (found : OperatorRequest)
    → r ≡ Ok found → IsDoneAtOnce found → r ≡ Ok request → IsDoneAtOnce request
done-in request r found is done e = subst IsDoneAtOnce (same is e) done
  where
    same : r ≡ Ok found → r ≡ Ok request → found ≡ request
    same is e = cc

done-by : (request found : OperatorRequest) (refusal : Option Refused) → IsDoneAtOnce found
    → unless_refused refusal found ≡ Ok request → IsDoneAtOnce request
done-by request found None done e = done-in request (unless_refused None found) found refl done e
done-by request found (Some refused) done e = absurd (refused-ok e)

-- what a failsafe request asks for that passes its check is a hold
hold-in : (me : MemberId) (seen : Option SnapshotFacts) (body : List ℕ) (request : OperatorRequest)
    → failsafe_on me seen body ≡ Ok request → IsDoneAtOnce request
hold-in me seen body request e = let found = seen-asked me seen body request e in
    subst IsDoneAtOnce (sym (hold-asked me seen body request found.0 found.1 e).asks) tt

change-alone : (view : AgentView) (seen : Option SnapshotFacts) (change : Change) (body : List ℕ)
    (request : OperatorRequest) → change_on view seen change body ≡ Ok request
    → (view.waits ≡ false) ⊎ IsDoneAtOnce request
change-alone view seen asked.Switchover body request e =
    let r = asked-so (requests.Failover failover_kinds.Switchover) (switchover_on seen view.waits body) request e in
    inl (body-alone (body_of body) seen view.waits switchover_by r.0 r.1)
change-alone view seen asked.DropSwitchover body request e = cc
change-alone view seen asked.Failover body request e =
    let r = asked-so (requests.Failover failover_kinds.Failover) (failover_on seen view.waits body) request e in
    inl (body-alone (body_of body) seen view.waits failover_by r.0 r.1)
change-alone view seen asked.Restart body request e = inr (done-by request requests.Restart (restart_refusal view) tt e)
change-alone view seen asked.Reinitialize body request e =
    inr (done-by request requests.Reinit (reinit_refusal view) tt e)
change-alone view seen asked.PatchConfiguration body request e =
    let r = asked-so requests.Configuration (configuration_on seen view.waits changes.Patch body) request e in
    inl (seen-alone seen view.waits
    (λ snapshot. configuration_from changes.Patch (configuration_in snapshot) body) r.0 r.1)
change-alone view seen asked.ReplaceConfiguration body request e =
    let r = asked-so requests.Configuration (configuration_on seen view.waits changes.Replace body) request e in
    inl (seen-alone seen view.waits
    (λ snapshot. configuration_from changes.Replace (configuration_in snapshot) body) r.0 r.1)
change-alone view seen asked.Failsafe body request e = inr (hold-in view.me seen body request e)

-- what an agent is to do it does while no other request waits, or at once
pub acts-alone : (view : AgentView) (seen : Option SnapshotFacts) (lag : Option (List ℕ)) (body : List ℕ)
    (ask : Ask) (request : OperatorRequest) → answer_by view seen lag body ask ≡ Acts request
    → (view.waits ≡ false) ⊎ IsDoneAtOnce request
acts-alone view seen lag body (asks.Change change) request e = change-alone view seen change body request (acts-so e)
acts-alone view seen lag body asks.NotFound request e = cc
acts-alone view seen lag body asks.NotAllowed request e = cc
acts-alone view seen lag body (asks.Health endpoint told) request e = absurd (replied e)
  where
    replied : {r : _} → Replies r ≡ Acts request → ⊥
    replied e = cc
acts-alone view seen lag body (asks.Page page) request e = absurd (replied e)
  where
    replied : {r : _} → Replies r ≡ Acts request → ⊥
    replied e = cc

-- these outputs end with what this request is told, in words
pub record EndsTelling (number : ℕ) (outs : List Output) : Type 0 where
  pub before : List Output
  pub status : ℕ
  pub text : Text
  pub is : outs ≡ before ++ outputs.Tell (tellings.Told number (tolds.Text status text)) ∷ []

-- what is done at once is told in that input
pub told-at-once : (now : Ticks) (number : ℕ) (request : OperatorRequest) (o : Outcome) → IsDoneAtOnce request
    → EndsTelling number (operated now number request o).outputs
told-at-once now number requests.Restart o done =
    record { before = (restarting now o).outputs; status = ok; text = texts.Restarted; is = refl }
told-at-once now number requests.Reinit o done =
    record { before = (wiping o).outputs; status = ok; text = texts.ReinitializeStarted; is = refl }
told-at-once now number (requests.Hold from ttl) o done =
    asked-to-hold-by (λ (x : Outcome). EndsTelling number x.outputs) now number (record { 0 = ttl }) o
    (λ text _. record {
      before = (holding_for now o.knows.who.me unnumbered (record { 0 = ttl }) o).outputs;
      status = ok;
      text = text;
      is = refl;
    }) (λ text. record { before = o.outputs; status = internal_server_error; text = text; is = refl })
told-at-once now number (requests.Failover kind key) o done = absurd done
told-at-once now number (requests.Configuration config) o done = absurd done
