-- What each row of the plan comes to.
use Rattle.std.proofs.Common.{◌≡◌, ℕ, ◌+◌, ◌-◌, ◌<◌, ◌==◌, ◌&&◌, not, nat_lt, Bool, true, false, cond, List, [], ◌∷◌, Option, Some, None, refl, sym, ap, subst, ◌∙◌, arith}
use Rattle.std.proofs.lemmas.Bool.Decides.{nat_tests}
use Rattle.std.proofs.lemmas.Nat.Bits.{bit_at_or}
use Rattle.pat_base.specs.declared.member_set.MemberSet.{MemberSet}
use Rattle.store_keys.specs.declared.value.SyncKey.{SyncKey}
use Rattle.cluster_view.specs.declared.view.LeaderView.{LeaderView}
use Rattle.cluster_view.specs.KeyValues.{config_in, sync_in}
use Rattle.cluster_view.specs.Snapshots.{SnapshotFacts}
use Rattle.sync_state.specs.Sets.{either}
use Rattle.sync_state.proofs.SetBits.{same-set}
use Rattle.quorum_commit.specs.declared.quorums.Need.{Need}
use Rattle.quorum_commit.specs.declared.quorums.Quorum.{Quorum}
use Rattle.quorum_commit.specs.declared.steps.Aim.{Aim}
use Rattle.quorum_commit.specs.declared.steps.QuorumPlan.{QuorumPlan}
use Rattle.quorum_commit.specs.declared.steps.QuorumPlan.TheVariants as plans
use Rattle.quorum_commit.specs.Laws.{IsLawfulPlan}
use Rattle.quorum_commit.specs.Plans.{aim_of, first_plan, plan_where, published_need, publishing, quorum_change_of, quorum_plan_of, quorum_plan_off, quorum_plan_on, requiring, same_key, same_need, target_key, target_need, widest_key}
use Rattle.quorum_commit.specs.Quorums.{may_publish, overlap, size}

no-way : false ≡ true → ⊥
no-way e = cc

second : (a b : Bool) → (a && b) ≡ true → b ≡ true
second true b e = e
second false b e = absurd (no-way e)

-- what holds of a row's plan
IsLawfulRow : Aim → Option QuorumPlan → Type 0
IsLawfulRow aim None = Unit {0}
IsLawfulRow aim (Some plan) = IsLawfulPlan aim plan

row : (aim : Aim) (applies : Bool) (plan : QuorumPlan) → (applies ≡ true → IsLawfulPlan aim plan)
    → IsLawfulRow aim (plan_where applies plan)
unfolding IsLawfulRow
row aim false plan h = tt
row aim true plan h = h refl

first : (aim : Aim) (row : Option QuorumPlan) (rows : List (Option QuorumPlan)) → IsLawfulRow aim row
    → IsLawfulPlan aim (first_plan rows) → IsLawfulPlan aim (first_plan (row ∷ rows))
unfolding IsLawfulRow
first aim None rows here behind = behind
first aim (Some plan) rows here behind = here

either-itself : (set : MemberSet) → either set set ≡ set
either-itself set = same-set (either set set) set (λ k. omega (arith, bit_at_or set.bits set.bits k))

less-to : (m n : ℕ) → m < n → nat_lt m n ≡ true
less-to m n h = grind (arith, nat_tests)

-- the published standbys themselves, but for as many as may lack a commit, overlap what is published
overlaps-published : (aim : Aim) → overlap aim.key (published_need aim) ≡ true
overlaps-published aim =
    let all = size aim.key.standbys in
    ap (λ (s : MemberSet). nat_lt (size s) (all - aim.key.number + aim.key.number + 1)) (either-itself aim.key.standbys)
    ∙ less-to all (all - aim.key.number + aim.key.number + 1) (omega arith)

lawful-change : (aim : Aim) → IsLawfulPlan aim (quorum_change_of aim)
lawful-change aim =
    let key : Quorum = target_key aim.count aim.wanted in
    let need : Need = target_need aim.count aim.wanted in
    let publish = λ (next : Quorum). row aim
    (not (same_key aim.key next) && may_publish aim.key next aim.need aim.confirmed) (plans.Publish next)
    (second (not (same_key aim.key next)) (may_publish aim.key next aim.need aim.confirmed)) in
    first aim (plan_where (same_key aim.key key && same_need aim.need need) plans.Keep) _
    (row aim (same_key aim.key key && same_need aim.need need) plans.Keep (λ e. tt))
    (first aim (publishing aim key) _ (publish key)
    (first aim (requiring aim need) _ (row aim (not (same_need aim.need need) && overlap aim.key need)
    (plans.Require need) (second (not (same_need aim.need need)) (overlap aim.key need)))
    (first aim (plan_where (same_need aim.need need) plans.Keep) _
    (row aim (same_need aim.need need) plans.Keep (λ e. tt))
    (first aim (publishing aim (widest_key aim)) _ (publish (widest_key aim))
    (first aim (plan_where (not (same_need aim.need (published_need aim))) (plans.Require (published_need aim))) []
    (row aim (not (same_need aim.need (published_need aim))) (plans.Require (published_need aim))
    (λ e. overlaps-published aim)) tt)))))

lawful-led : (aim : Aim) (leads : Bool) → IsLawfulPlan aim (cond leads (quorum_change_of aim) plans.Mark)
lawful-led aim true = lawful-change aim
lawful-led aim false = tt

lawful-there : (view : LeaderView) (seen : SnapshotFacts) (sync : SyncKey) (on : Bool)
    → IsLawfulPlan (aim_of view seen sync)
    (cond on (quorum_plan_on view seen (Some sync)) (quorum_plan_off (Some sync)))
lawful-there view seen sync true = lawful-led (aim_of view seen sync) (sync.leader.number == view.view.me.number)
lawful-there view seen sync false = tt

pub lawful-plan : (view : LeaderView) (seen : SnapshotFacts) (sync : SyncKey) → sync_in seen ≡ Some sync
    → IsLawfulPlan (aim_of view seen sync) (quorum_plan_of view seen)
lawful-plan view seen sync there =
    let on = (config_in seen).synchronous_mode in
    subst (λ (key : Option SyncKey). IsLawfulPlan (aim_of view seen sync)
    (cond on (quorum_plan_on view seen key) (quorum_plan_off key))) (sym there) (lawful-there view seen sync on)
