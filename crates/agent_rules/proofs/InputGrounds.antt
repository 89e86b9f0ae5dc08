-- Each whole input has its grounds, by the rows of the decision table.
use Rattle.std.proofs.Common.{ℕ, ◌≡◌, ◌⊎◌, true, List, [], Option, Some, None, All, refl, sym, subst, ap, ◌∙◌, inl, inr}
use Rattle.std.proofs.lemmas.List.Elements.{All-push, All-nil, All-contains}
use Rattle.pat_base.specs.declared.ticks.Ticks.{Ticks}
use Rattle.pat_base.specs.ServerState.{live}
use Rattle.store_keys.specs.declared.action.OperatorRequest.{OperatorRequest}
use Rattle.store_keys.specs.declared.action.OperatorRequest.TheVariants as requests
use Rattle.lease_store.specs.declared.granted.Granted.{Granted}
use Rattle.wal_model.specs.declared.entry.HistoryPoint.{HistoryPoint}
use Rattle.pg_model.specs.declared.status.ServerStatus.{ServerStatus}
use Rattle.pg_model.specs.Status.{status_wiped}
use Rattle.cluster_view.specs.Snapshots.{SnapshotFacts}
use Rattle.agent_model.specs.declared.heard.Heard.{Heard}
use Rattle.agent_model.specs.declared.heard.Heard.TheVariants as heards
use Rattle.agent_model.specs.declared.knowledge.Knowledge.{Knowledge}
use Rattle.agent_model.specs.declared.machine.Machine.{Machine}
use Rattle.agent_model.specs.declared.output.Output.{Output}
use Rattle.agent_model.specs.declared.output.Output.TheVariants as outputs
use Rattle.agent_model.specs.declared.output.Feeding.TheVariants as feedings
use Rattle.agent_model.specs.declared.output.ServerOrder.TheVariants as orders
use Rattle.agent_model.specs.declared.why.Why.{Why}
use Rattle.agent_model.specs.declared.why.Why.TheVariants.{HandOver, Lost}
use Rattle.agent_model.specs.Acting.{disarmed}
use Rattle.agent_model.specs.Agents.{RoleFacts, Outcome, EndsAlone, IsSoundAgent, outcome_from}
use Rattle.agent_model.specs.Reconciling.{has_ended, reconciled}
use Rattle.agent_model.specs.Operators.{given_up, learned, looked, operated}
use Rattle.agent_model.specs.Peers.{asked}
use Rattle.agent_model.specs.Snapshots.{read_answered}
use Rattle.agent_model.specs.Table.{step, granted_any}
use Rattle.agent_model.specs.Wake.{overdue, woken}
use Rattle.agent_cases.proofs.Rows.{before-by, looked-by, given-up-by, refused-any-by, wake-by}
use Rattle.agent_cases.proofs.Grants.{granted-any-by}
use Rattle.agent_roles.specs.Powers.{lease_of}
use Rattle.agent_rules.specs.Grounds.{HasGround, HasGrounds}
use Rattle.agent_model.specs.Fits.{Fits}
use Rattle.agent_roles.proofs.Fitting.{before-fits}
use Rattle.agent_rules.proofs.Grounds.{KeepsLeases, Like, So, Sofar, answered-so, got-so, grounds-of, like-self, more, operated-so, overdue-so, refused-so, reply-so, stay-answered-so, stay-asked-so, told-like, turn-so, unwiped}
use Rattle.agent_rules.proofs.GrantGrounds.{granted-so}
use Rattle.agent_rules.proofs.Reaching.{none-out, wake-asks-each}

-- what precedes an input gives no lease back, or leaves none, with nothing that is waited for
abbrev Fresh : Outcome → Type 0
Fresh x = All KeepsLeases x.outputs ⊎ ((lease_of x.role ≡ None) × (x.knows.waited ≡ None))

disarmed-all : (P : Output → Type 0) → P (outputs.Watchdog feedings.Disarmed)
    → (deadline : Option Ticks) (outs : List Output)
    → All P outs → All P (disarmed deadline outs)
disarmed-all P is None outs all = all
disarmed-all P is (Some deadline) outs all = All-push P outs (outputs.Watchdog feedings.Disarmed) all is

ended-grounds : (now : Ticks) (heard : Heard) (b : Outcome) (why : Why) (held : ℕ) (o : Outcome)
    → All (HasGround now heard b) o.outputs → All (HasGround now heard b) (has_ended why held o).outputs
ended-grounds now heard b HandOver held o all = All-push (HasGround now heard b) _ _
    (disarmed-all (HasGround now heard b) tt o.machine.watchdog.deadline o.outputs all) tt
ended-grounds now heard b Lost held o all =
    disarmed-all (HasGround now heard b) tt o.machine.watchdog.deadline o.outputs all

before-grounds : (now : Ticks) (heard : Heard) (b o : Outcome) → All (HasGround now heard b) o.outputs
    → All (HasGround now heard b) (reconciled now o).outputs
before-grounds now heard b o all =
    let rest : All (HasGround now heard b) (disarmed o.machine.watchdog.deadline o.outputs) =
    disarmed-all (HasGround now heard b) tt o.machine.watchdog.deadline o.outputs all in
    before-by (λ (x : Outcome). All (HasGround now heard b) x.outputs) now o (record {
      kept = λ _. all;
      leader = λ held _ _. rest;
      ending = λ held why _ _. ended-grounds now heard b why held o all;
      follower = λ _ _. all;
      holder = λ held _ _. all;
      ready = λ held _ _. rest;
      unleased = λ _ _. rest;
    })

ended-fresh : (why : Why) (held : ℕ) (o : Outcome) → o.knows.waited ≡ None → All KeepsLeases o.outputs
    → Fresh (has_ended why held o)
ended-fresh HandOver held o none all = inr (refl, none)
ended-fresh Lost held o none all = inl (disarmed-all KeepsLeases tt o.machine.watchdog.deadline o.outputs all)

before-fresh : (now : Ticks) (o : Outcome) → EndsAlone o.role o.knows.waited → All KeepsLeases o.outputs
    → Fresh (reconciled now o)
before-fresh now o alone all =
    let rest : All KeepsLeases (disarmed o.machine.watchdog.deadline o.outputs) =
    disarmed-all KeepsLeases tt o.machine.watchdog.deadline o.outputs all in
    before-by Fresh now o (record {
      kept = λ _. inl all;
      leader = λ held _ _. inl rest;
      ending =
          λ held why is _. ended-fresh why held o (subst (λ (r : RoleFacts). EndsAlone r o.knows.waited) is alone) all;
      follower = λ _ _. inl all;
      holder = λ held _ _. inl all;
      ready = λ held _ _. inl rest;
      unleased = λ _ _. inl rest;
    })

-- a wipe leaves a live server as it is
wiped-live : (server : ServerStatus) → live server.state ≡ true → status_wiped server ≡ server
wiped-live server lives = rw lives refl

operated-wipes : (now : Ticks) (request : ℕ) (asked : OperatorRequest) (b : Outcome) → asked ≡ requests.Reinit
    → live b.machine.server.state ≡ true → (operated now request asked b).machine.server ≡ b.machine.server
operated-wipes now request asked b is lives =
    ap (λ (a : OperatorRequest). (operated now request a b).machine.server) is ∙ wiped-live b.machine.server lives

module _ (now : Ticks) (points : List HistoryPoint) (role : RoleFacts) (knows : Knowledge) (machine : Machine)
    (sound : IsSoundAgent role knows) where
  abbrev Start : Outcome
  Start = outcome_from role knows machine []

  abbrev First : Outcome
  First = reconciled now Start

  fresh : Fresh First
  fresh = before-fresh now Start sound.ends (All-nil KeepsLeases)

  first-so : (heard : Heard) → Sofar now heard First First.outputs First.role First.knows.waited
  first-so heard = record {
    grounds = before-grounds now heard First Start (All-nil (HasGround now heard First));
    keeps = elim fresh [ inl all ↦ inl all | inr none ↦ inr none.0 ];
    asks = λ e. inl e;
  }

  fits : Fits First.role (live First.machine.server.state)
  fits = before-fits now Start

  woken-so : So now heards.Wake First (woken now Start)
  woken-so =
      let s = first-so heards.Wake in
      let told : Outcome = given_up now First in
      let t : So now heards.Wake First told =
      given-up-by (So now heards.Wake First) now First (reply-so now heards.Wake First First s) in
      wake-by (So now heards.Wake First) now Start s
      (turn-so now heards.Wake First (overdue now told)
      (overdue-so now heards.Wake First told refl
      (given-up-by (Like now heards.Wake First) now First (told-like now heards.Wake First)) fits t))

  read-so : (sequence : ℕ) (snapshot : SnapshotFacts)
      → So now (heards.ReadAnswered sequence snapshot) First
      (read_answered now points sequence snapshot (looked sequence snapshot First))
  read-so sequence snapshot =
      let heard : Heard = heards.ReadAnswered sequence snapshot in
      got-so now heard First points sequence snapshot (looked sequence snapshot First) refl
      (looked-by (Like now heard First) sequence snapshot First (told-like now heard First))
      (looked-by (So now heard First) sequence snapshot First (reply-so now heard First First (first-so heard)))

  grant-so : (sequence : ℕ) (grant : Granted) (snapshot : SnapshotFacts)
      → So now (heards.Granted sequence grant snapshot) First (granted_any now sequence grant snapshot First)
  grant-so sequence grant snapshot =
      let heard : Heard = heards.Granted sequence grant snapshot in
      let s = first-so heard in
      granted-any-by (So now heard First) now sequence grant snapshot First s
      (reply-so now heard First (learned snapshot First) s)
      (granted-so now heard First sequence grant snapshot refl
      (elim fresh [ inl all ↦ inl all | inr none ↦ inr none.1 ]) s)

  pub input-has-grounds-of : (heard : Heard) → HasGrounds now heard First (step now points heard Start)
  input-has-grounds-of heards.Wake =
      unwiped now heards.Wake First _ (λ e. e) (wake-asks-each now points Start) woken-so
  input-has-grounds-of (heards.ReadAnswered sequence snapshot) =
      unwiped now (heards.ReadAnswered sequence snapshot) First _ (λ e. e)
      (none-out now (heards.ReadAnswered sequence snapshot) First _ refl) (read-so sequence snapshot)
  input-has-grounds-of (heards.Granted sequence grant snapshot) =
      unwiped now (heards.Granted sequence grant snapshot) First _ (λ e. e)
      (none-out now (heards.Granted sequence grant snapshot) First _ refl) (grant-so sequence grant snapshot)
  input-has-grounds-of (heards.Mismatch sequence key found) =
      let heard : Heard = heards.Mismatch sequence key found in
      unwiped now heard First _ (λ e. e) (none-out now heard First _ refl)
      (refused-any-by (So now heard First) now sequence First (reply-so now heard First First (first-so heard))
      (refused-so now heard First sequence First (first-so heard)))
  input-has-grounds-of (heards.Asked from incarnation sequence) =
      let heard : Heard = heards.Asked from incarnation sequence in
      unwiped now heard First _ (λ e. e) (none-out now heard First _ refl)
      (more now heard First First.outputs First.role First.knows.waited _ tt tt (first-so heard))
  input-has-grounds-of (heards.Answered sequence answer) =
      let heard : Heard = heards.Answered sequence answer in
      unwiped now heard First _ (λ e. e) (none-out now heard First _ refl)
      (answered-so now heard First sequence answer First (like-self now heard First) (first-so heard))
  input-has-grounds-of (heards.FailsafeAsked from incarnation sequence ttl) =
      let heard : Heard = heards.FailsafeAsked from incarnation sequence ttl in
      unwiped now heard First _ (λ e. e) (none-out now heard First _ refl)
      (stay-asked-so now heard First from incarnation sequence ttl refl fits (first-so heard))
  input-has-grounds-of (heards.FailsafeAnswered from sequence accepted sent) =
      let heard : Heard = heards.FailsafeAnswered from sequence accepted sent in
      unwiped now heard First _ (λ e. e) (none-out now heard First _ refl)
      (stay-answered-so now heard First from sequence accepted sent refl (first-so heard))
  input-has-grounds-of (heards.Operated action) =
      let heard : Heard = heards.Operated action in
      let s =
      operated-so now heard First action.request action.asked (λ e. e) (λ until asked. asked) fits (first-so heard) in
      let after : Outcome = operated now action.request action.asked First in
      grounds-of now heard First after s
      (λ wipes lives. operated-wipes now action.request action.asked First
      (All-contains (HasGround now heard First) after.outputs (outputs.Server orders.Wipe) s.grounds wipes) lives)
      (none-out now heard First after refl)

pub input-has-grounds : (now : Ticks) (points : List HistoryPoint) (heard : Heard) (role : RoleFacts)
    (knows : Knowledge) (machine : Machine) → IsSoundAgent role knows
    → HasGrounds now heard (reconciled now (outcome_from role knows machine []))
    (step now points heard (outcome_from role knows machine []))
input-has-grounds now points heard role knows machine sound =
    input-has-grounds-of now points role knows machine sound heard

-- the same of what is made of an input, where no output stood before
pub input-has-grounds-as : (now : Ticks) (points : List HistoryPoint) (heard : Heard) (role : RoleFacts)
    (knows : Knowledge) (machine : Machine) (outs : List Output) (after : Outcome)
    → after ≡ step now points heard (outcome_from role knows machine outs) → IsSoundAgent role knows
    → outs ≡ [] → HasGrounds now heard (reconciled now (outcome_from role knows machine [])) after
input-has-grounds-as now points heard role knows machine outs after is sound none =
    subst (λ (x : Outcome). HasGrounds now heard (reconciled now (outcome_from role knows machine [])) x)
    (sym (is ∙ ap (λ (l : List Output). step now points heard (outcome_from role knows machine l)) none))
    (input-has-grounds now points heard role knows machine sound)
