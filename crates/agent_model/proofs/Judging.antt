-- The race is judged.
use Rattle.std.proofs.Common.{ℕ, ◌≡◌, Bool, true, false, if◌then◌else◌, List, [], Option, Some, None, refl, sym, subst, ap, ◌∙◌}
use Rattle.pat_base.specs.declared.ineligibility.Ineligibility.{Ineligibility}
use Rattle.pat_base.specs.declared.peer_answer.PeerAnswer.{PeerAnswer}
use Rattle.pat_base.specs.declared.ticks.Ticks.{Ticks}
use Rattle.cluster_view.specs.declared.view.AgentView.{AgentView}
use Rattle.cluster_view.specs.declared.view.RoleWord.{RoleWord}
use Rattle.cluster_view.specs.Snapshots.{SnapshotFacts}
use Rattle.leader_race.specs.declared.racer.RaceKeys.{RaceKeys}
use Rattle.leader_race.specs.Outcome.{outcome_by}
use Rattle.cluster_view.specs.declared.view.LeaderView.{LeaderView}
use Rattle.sync_state.specs.declared.steps.Plan.{Plan}
use Rattle.sync_state.specs.Candidates.{candidates_in}
use Rattle.sync_state.specs.Plans.{plan_of}
use Rattle.agent_model.specs.Planning.{leader_view, planned_as, planned_on, planned}
use Rattle.agent_model.specs.Acting.{waiting_no_more, touching}
use Rattle.agent_model.specs.Agents.{Outcome, word_of}
use Rattle.agent_model.specs.Answers.{all_answered}
use Rattle.agent_model.specs.Racing.{can_start, bar_of, turn_keys, judged_as, judged, asking_others, unheard, races, races_unless, free_key, starts_alone}
use Rattle.agent_model.specs.Views.{view_of}

pub if-true : {A : Type 0} (test : Bool) (x y : A) → test ≡ true → (if test then x else y) ≡ x
if-true test x y is = rw is refl

pub if-false : {A : Type 0} (test : Bool) (x y : A) → test ≡ false → (if test then x else y) ≡ y
if-false test x y is = rw is refl

-- what bars a member that shows the same beside its newest snapshot, by the keys that its turn read
pub outcome-shown : (view shows : AgentView) (keys read : RaceKeys) (answers : List PeerAnswer)
    (result : Option Ineligibility) → record view { seen = None } ≡ shows → keys ≡ read
    → result ≡ outcome_by view keys answers → result ≡ outcome_by shows read answers
outcome-shown view shows keys read answers result shown same is =
    is ∙ ap (λ (v : AgentView). outcome_by v keys answers) shown
    ∙ ap (λ (k : RaceKeys). outcome_by shows k answers) same

-- what bars the member decides
pub judged-by : (now : Ticks) (word : RoleWord) (o after : Outcome) (bar : Option Ineligibility)
    → word_of o.role ≡ word → bar ≡ outcome_by (view_of now word o.knows o.machine) (turn_keys o.knows) o.knows.answers
    → after ≡ judged_as now bar (waiting_no_more o) → after ≡ judged now o
judged-by now word o after bar role is made-is =
    made-is
    ∙ ap (λ (b : Option Ineligibility). judged_as now b (waiting_no_more o))
    (is ∙ ap (λ (w : RoleWord). outcome_by (view_of now w o.knows o.machine) (turn_keys o.knows) o.knows.answers)
    (sym role))

-- where there is nobody to ask, the race is judged at once
pub raced-by : (now : Ticks) (o after : Outcome) (answers : List PeerAnswer) → answers ≡ []
    → all_answered o.knows.who answers ≡ true
    → after ≡ judged now (record o { knows = record o.knows { answers = answers } }) → after ≡ races now o
raced-by now o after answers none all is =
    is ∙ ap (λ (l : List PeerAnswer). judged now (record o { knows = record o.knows { answers = l } })) none
    ∙ sym (if-true (all_answered o.knows.who []) (judged now (unheard o)) (asking_others now (unheard o))
    (subst (λ (l : List PeerAnswer). all_answered o.knows.who l ≡ true) none all))

-- what bars the member decides whether it races
pub unless-by : (now : Ticks) (o after : Outcome) (bar by : Option Ineligibility) → bar ≡ by
    → after ≡ races_unless now by o → after ≡ races_unless now bar o
unless-by now o after bar by same is = is ∙ ap (λ (b : Option Ineligibility). races_unless now b o) (sym same)

-- a server that can't start is left to the race
pub free-by : (now : Ticks) (o after : Outcome) (bar : Option Ineligibility) → can_start o.machine.server ≡ false
    → bar ≡ bar_of now o.knows o.machine → after ≡ races_unless now bar o → after ≡ free_key now o
free-by now o after bar down same is =
    is ∙ ap (λ (b : Option Ineligibility). races_unless now b o) same
    ∙ sym (if-false (can_start o.machine.server) (touching (starts_alone now o))
    (races_unless now (bar_of now o.knows o.machine) o) down)

-- the plan doesn't read the snapshot that a view holds
plan-shown : (view : LeaderView) (snapshot : SnapshotFacts)
    → plan_of view snapshot ≡ plan_of (record view { view = record view.view { seen = None } }) snapshot
unfolding candidates_in
plan-shown view snapshot = refl

-- the step that a leader takes is the plan's for what it shows, beside which the newest snapshot stands
pub step-shown : (now : Ticks) (revision : ℕ) (view : LeaderView) (snapshot : SnapshotFacts) (plan : Plan)
    (o after : Outcome)
    → ◌≡◌ {A = LeaderView} (record view { view = record view.view { seen = None } }) (leader_view now o.knows o.machine)
    → o.knows.seen ≡ Some snapshot
    → plan ≡ plan_of view snapshot → after ≡ planned_as now revision plan o → after ≡ planned now revision o
step-shown now revision view snapshot plan o after shown there is made-is =
    made-is
    ∙ ap (λ (p : Plan). planned_as now revision p o)
    (is ∙ plan-shown view snapshot ∙ ap (λ (v : LeaderView). plan_of v snapshot) shown)
    ∙ ap (λ (s : Option SnapshotFacts). planned_on now revision s o) (sym there)
