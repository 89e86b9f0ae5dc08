-- Who is healthy, in the words of the laws.
use Rattle.std.proofs.Common.{◌≡◌, ℕ, ◌+◌, ◌≤◌, Bool, true, false, cond, not, ◌&&◌, List, Option, Some, None, arith, refl, sym, ap, ◌∙◌}
use Rattle.std.specs.Bool.{Decides}
use Rattle.std.proofs.lemmas.Bool.{false≢true}
use Rattle.std.proofs.lemmas.Bool.Decides.{Decides-and, Decides-at, nat_tests}
use Rattle.std.proofs.lemmas.Option.{none-some, same_Some}
use Rattle.pat_base.specs.declared.lsn.Lsn.{Lsn}
use Rattle.pat_base.specs.declared.server_state.State.{State}
use Rattle.pat_base.specs.declared.server_state.State.TheVariants as states
use Rattle.pat_base.specs.declared.ticks.Ticks.{Ticks}
use Rattle.store_keys.specs.declared.config.Config.{Config}
use Rattle.store_keys.specs.declared.value.SyncKey.{SyncKey}
use Rattle.rest_health.specs.Health.{status_where}
use Rattle.rest_health.specs.Laws.{IsOkWhere}
use Rattle.cluster_view.specs.declared.view.AgentView.{AgentView}
use Rattle.cluster_view.specs.KeyValues.{sync_in}
use Rattle.cluster_view.specs.Naming.{is_standby}
use Rattle.cluster_view.specs.Snapshots.{SnapshotFacts}
use Rattle.rest_facts.specs.Lags.{limit_of, status_on, is_within_limit}
use Rattle.pat_base.specs.ServerState.{is_primary, is_replica}
use Rattle.rest_facts.specs.Members.{is_standby_of, is_standby_on}
use Rattle.rest_facts.specs.Turns.{config_on, primary_span, other_span, is_fresh}
use Rattle.rest_facts.specs.Laws.{TakesLoad, IsNamed, KeepsUp, TakesTurns, allowed_span}

-- a status says what its test decides
pub ok-where : {Healthy : Type 0} (test : Bool) → Decides test Healthy → IsOkWhere (status_where test) Healthy
ok-where true decides =
    record { ok_where = (λ _. decides.0 refl, λ _. refl); unavailable_else = λ sick. absurd (sick (decides.0 refl)) }
ok-where false decides = record {
  ok_where = (λ ok. absurd (omega (arith, ok)), λ healthy. absurd (false≢true (decides.1 healthy)));
  unavailable_else = λ _. refl;
}

replica-decides : (state : State) → Decides (is_replica state) (state ≡ states.Replica)
replica-decides states.Creating = (λ e. cc, λ e. cc)
replica-decides states.Stopped = (λ e. cc, λ e. cc)
replica-decides (states.Starting as_primary at) = (λ e. cc, λ e. cc)
replica-decides states.Replica = (λ _. refl, λ _. refl)
replica-decides states.Primary = (λ e. cc, λ e. cc)
replica-decides (states.Stopping was_primary at) = (λ e. cc, λ e. cc)
replica-decides states.Crashed = (λ e. cc, λ e. cc)

unset-decides : (tag : Bool) → Decides (not tag) (tag ≡ false)
unset-decides true = (λ e. cc, λ e. cc)
unset-decides false = (λ _. refl, λ _. refl)

pub load-decides : (view : AgentView) → Decides (is_replica view.state && not view.tags.noloadbalance) (TakesLoad view)
load-decides view =
    Decides-and (is_replica view.state) (not view.tags.noloadbalance) (replica-decides view.state)
    (unset-decides view.tags.noloadbalance)

-- what a log within a limit keeps, and the other way round
within-keeps : (limit : Option ℕ) (status end : Option Lsn) → is_within_limit limit status end ≡ true
    → (most : ℕ) (told : Lsn) → limit ≡ Some most → status ≡ Some told
    → (own : Lsn) × (end ≡ Some own) × (told.position ≤ own.position + most)
within-keeps None status end within most told none is = absurd (none-some most none)
within-keeps (Some limit) None end within most told is none = absurd (none-some told none)
within-keeps (Some limit) (Some status) None within most told is_limit is_status = absurd (false≢true within)
within-keeps (Some limit) (Some status) (Some end) within most told is_limit is_status =
    let near : status.position ≤ end.position + limit = grind (arith, nat_tests) in
    (end, refl, rw (sym (same_Some limit most is_limit), sym (same_Some status told is_status)) near)

keeps-within : (limit : Option ℕ) (status end : Option Lsn)
    → ((most : ℕ) (told : Lsn) → limit ≡ Some most → status ≡ Some told →
    (own : Lsn) × (end ≡ Some own) × (told.position ≤ own.position + most))
    → is_within_limit limit status end ≡ true
keeps-within None status end keeps = refl
keeps-within (Some limit) None end keeps = refl
keeps-within (Some limit) (Some status) None keeps =
    let own = keeps limit status refl refl in
    absurd (none-some own.0 own.1)
keeps-within (Some limit) (Some status) (Some end) keeps =
    let own = keeps limit status refl refl in
    let near : status.position ≤ end.position + limit = rw (same_Some end own.0 own.1) own.2 in
    grind (arith, nat_tests)

pub lag-decides : (view : AgentView) (seen : Option SnapshotFacts) (lag : Option (List ℕ))
    → Decides (is_within_limit (limit_of lag) (status_on seen) view.end) (KeepsUp view seen lag)
lag-decides view seen lag =
    (within-keeps (limit_of lag) (status_on seen) view.end, keeps-within (limit_of lag) (status_on seen) view.end)

named-by : (view : AgentView) (seen : SnapshotFacts) (sync : Option SyncKey) → sync_in seen ≡ sync
    → Decides (is_standby_of view.me sync) (IsNamed view (Some seen))
named-by view seen None is = (
  λ e. absurd (false≢true e),
  λ named. absurd (none-some named.1 (sym is ∙ (ap sync_in (same_Some seen named.0 named.2) ∙ named.3))),
)
named-by view seen (Some sync) is = (
  λ named. (seen, sync, refl, is, named),
  λ named.
      let same : sync ≡ named.1 =
      same_Some sync named.1 (sym is ∙ (ap sync_in (same_Some seen named.0 named.2) ∙ named.3)) in
      ap (is_standby view.me) same ∙ named.4,
)

pub standby-decides : (view : AgentView) (seen : Option SnapshotFacts)
    → Decides (is_standby_on view.me seen) (IsNamed view seen)
standby-decides view None = (λ e. absurd (false≢true e), λ named. absurd (none-some named.0 named.2))
standby-decides view (Some seen) = named-by view seen (sync_in seen) refl

fresh-decides : (moment : Ticks) (last : Option Ticks) (most : ℕ)
    → Decides (is_fresh moment last most) ((turn : Ticks) × (last ≡ Some turn) × (moment.0 ≤ turn.0 + most))
fresh-decides moment None most = (λ e. absurd (false≢true e), λ turned. absurd (none-some turned.0 turned.1))
fresh-decides moment (Some turn) most = (
  λ fresh. (turn, refl, grind (arith, nat_tests)),
  λ turned.
      let late : moment.0 ≤ turn.0 + most = rw (same_Some turn turned.0 turned.1) turned.2 in
      grind (arith, nat_tests),
)

fresh-by : (state : State) (moment : Ticks) (last : Option Ticks) (config : Config)
    → cond (is_primary state) (is_fresh moment last (primary_span config)) (is_fresh moment last (other_span config))
    ≡ is_fresh moment last (allowed_span state config)
fresh-by states.Creating moment last config = refl
fresh-by states.Stopped moment last config = refl
fresh-by (states.Starting as_primary at) moment last config = refl
fresh-by states.Replica moment last config = refl
fresh-by states.Primary moment last config = refl
fresh-by (states.Stopping was_primary at) moment last config = refl
fresh-by states.Crashed moment last config = refl

pub turns-decide : (view : AgentView) (seen : Option SnapshotFacts)
    → Decides (cond (is_primary view.state) (is_fresh view.moment view.last_turn (primary_span (config_on seen)))
    (is_fresh view.moment view.last_turn (other_span (config_on seen))))
    (TakesTurns view seen)
turns-decide view seen =
    Decides-at _ (is_fresh view.moment view.last_turn (allowed_span view.state (config_on seen)))
    (fresh-by view.state view.moment view.last_turn (config_on seen))
    (fresh-decides view.moment view.last_turn (allowed_span view.state (config_on seen)))
