-- What the rules of the race come to.
use Rattle.std.proofs.Common.{◌≡◌, ℕ, ◌==◌, ◌++◌, ◌&&◌, not, Bool, true, false, List, [], ◌∷◌, Option, Some, None, refl, sym, ap, ◌∙◌, arith}
use Rattle.std.specs.Prelude.{nat_lt, int_lt, pos, negsuc, ℤ, IsSome, Contains}
use Rattle.std.specs.Option.{option_map}
use Rattle.std.proofs.lemmas.Bool.Decides.{nat_tests}
use Rattle.pat_base.specs.declared.lsn.Lsn.{Lsn}
use Rattle.pat_base.specs.declared.server_state.State.{State}
use Rattle.pat_base.specs.declared.server_state.State.TheVariants as states
use Rattle.pat_base.proofs.Positions.{lsn-injective}
use Rattle.pat_base.specs.declared.ineligibility.Ineligibility.{Ineligibility}
use Rattle.pat_base.specs.declared.ineligibility.Ineligibility.TheVariants as bars
use Rattle.store_keys.specs.declared.value.SyncKey.{SyncKey}
use Rattle.pat_base.specs.declared.peer_answer.PeerAnswer.{PeerAnswer}
use Rattle.cluster_view.specs.declared.view.AgentView.{AgentView}
use Rattle.cluster_view.specs.KeyValues.{config_in, failover_in, status_in, active_sync_in}
use Rattle.cluster_view.specs.Naming.{candidate_of, is_candidate, is_failover_to, is_named}
use Rattle.cluster_view.specs.Snapshots.{SnapshotFacts, failsafe_in}
use Rattle.leader_race.specs.declared.racer.RaceKeys.{RaceKeys}
use Rattle.leader_race.specs.declared.racer.Racer.{Racer}
use Rattle.leader_race.specs.declared.racer.Rule.{Rule}
use Rattle.leader_race.specs.declared.racer.Rule.TheVariants as rules
use Rattle.leader_race.specs.Bars.{first_bar}
use Rattle.leader_race.specs.Eligibility.{not_running, may_fail_over, no_failover, paused, other_candidate, not_sync, too_far_behind, not_listed, holding, eligibility_of}
use Rattle.leader_race.specs.Peers.{counts, is_standby_if, is_compared, is_below, is_level, bars_by, first_of}
use Rattle.leader_race.specs.Outcome.{racer_of, other_writes, ahead, priority, unless, outcome_by, ComparesWith}
use Rattle.leader_race.proofs.Barring.{no, no-bar, first_bar-none, bar_where-none, option_map-none, first_of-none, first_of-skip_at}

-- ---- who may race
running : (state : State) → not_running state ≡ None → state ≡ states.Replica
running states.Replica e = refl
running _ e = absurd (no-bar bars.NotRunning e)

not-false : (b : Bool) → not b ≡ false → b ≡ true
not-false true e = refl
not-false false e = absurd (no e)

-- no rule applies to whoever may race
record MayRace (view : AgentView) (seen : SnapshotFacts) : Type 0 where
  running : not_running view.state ≡ None
  tags : no_failover view.tags ≡ None
  sync : not_sync view.me (failover_in seen) (active_sync_in seen) ≡ None
  hold : holding view.moment view.hold ≡ None

may-race : (view : AgentView) (seen : SnapshotFacts) → eligibility_of view seen ≡ None → MayRace view seen
may-race view seen e =
    let first = first_bar-none (not_running view.state) _ e in
    let second = first_bar-none (no_failover view.tags) _ first.1 in
    let third = first_bar-none (paused (config_in seen).pause (is_candidate view.me (failover_in seen))) _ second.1 in
    let fourth = first_bar-none (other_candidate view.me (candidate_of (failover_in seen))) _ third.1 in
    let fifth = first_bar-none (not_sync view.me (failover_in seen) (active_sync_in seen)) _ fourth.1 in
    let sixth =
    first_bar-none (too_far_behind (config_in seen).maximum_lag_on_failover (status_in seen) view.end
    (is_candidate view.me (failover_in seen)))
    _ fifth.1 in
    let seventh = first_bar-none (not_listed view.me (config_in seen).failsafe_mode (failsafe_in seen)) _ sixth.1 in
    let eighth = first_bar-none (holding view.moment view.hold) _ seventh.1 in
    record { running = first.0; tags = second.0; sync = fifth.0; hold = eighth.0 }

pub race-replica : (view : AgentView) (seen : SnapshotFacts) → eligibility_of view seen ≡ None
    → view.state ≡ states.Replica
race-replica view seen e = running view.state (may-race view seen e).running

pub race-tags : (view : AgentView) (seen : SnapshotFacts) → eligibility_of view seen ≡ None
    → may_fail_over view.tags ≡ true
race-tags view seen e = not-false (may_fail_over view.tags)
    (bar_where-none (not (may_fail_over view.tags)) bars.NoFailover (may-race view seen e).tags)

pub race-hold : (view : AgentView) (seen : SnapshotFacts) → eligibility_of view seen ≡ None
    → holding view.moment view.hold ≡ None
race-hold view seen e = (may-race view seen e).hold

either : (named failover : Bool) → (not named && not failover) ≡ false → failover ≡ false → named ≡ true
either true failover e f = refl
either false true e f = absurd (no f)
either false false e f = absurd (no e)

pub race-sync : (view : AgentView) (seen : SnapshotFacts) (sync : SyncKey) → eligibility_of view seen ≡ None
    → active_sync_in seen ≡ Some sync → is_failover_to view.me (failover_in seen) ≡ false → is_named view.me sync ≡ true
race-sync view seen sync e active other =
    let bar : not_sync view.me (failover_in seen) (Some sync) ≡ None =
    ap (not_sync view.me (failover_in seen)) (sym active) ∙ (may-race view seen e).sync in
    either (is_named view.me sync) (is_failover_to view.me (failover_in seen))
    (bar_where-none (not (is_named view.me sync) && not (is_failover_to view.me (failover_in seen))) bars.NotSync bar)
    other

-- ---- who wins
record Wins (view : AgentView) (keys : RaceKeys) (answers : List PeerAnswer) : Type 0 where
  writes : first_of (bars_by (racer_of view keys) rules.OtherWrites) answers ≡ None
  ahead : unless (is_candidate view.me keys.failover) (ahead (racer_of view keys) answers) ≡ None
  priority : unless (is_candidate view.me keys.failover) (priority (racer_of view keys) answers) ≡ None

wins-by : (view : AgentView) (keys : RaceKeys) (answers : List PeerAnswer)
    → outcome_by view keys answers ≡ None → Wins view keys answers
wins-by view keys answers e =
    let racer = racer_of view keys in
    let named = is_candidate view.me keys.failover in
    let first = first_bar-none (other_writes racer answers) _ e in
    let second = first_bar-none (unless named (ahead racer answers)) _ first.1 in
    let third = first_bar-none (unless named (priority racer answers)) _ second.1 in
    record {
      writes = option_map-none bars.OtherWrites (first_of (bars_by racer rules.OtherWrites) answers) first.0;
      ahead = second.0;
      priority = third.0;
    }

and-rest : (a b : Bool) → a ≡ true → (a && b) ≡ false → b ≡ false
and-rest true b e h = h
and-rest false b e h = absurd (no (sym e))

no-rule : (named : Bool) (bar : Option Ineligibility) → named ≡ false → unless named bar ≡ None → bar ≡ None
no-rule false bar e h = h
no-rule true bar e h = absurd (no e)

pub win-no_writer : (view : AgentView) (keys : RaceKeys) (answers : List PeerAnswer) (answer : PeerAnswer)
    → outcome_by view keys answers ≡ None → Contains answers answer → counts view.me answer ≡ true
    → answer.writes ≡ false
win-no_writer view keys answers answer e there counted =
    and-rest (counts view.me answer) answer.writes counted
    (first_of-none (bars_by (racer_of view keys) rules.OtherWrites) answers answer
    (wins-by view keys answers e).writes there)

pub win-not_behind : (view : AgentView) (keys : RaceKeys) (answers : List PeerAnswer) (answer : PeerAnswer)
    → outcome_by view keys answers ≡ None → is_candidate view.me keys.failover ≡ false → Contains answers answer
    → is_compared (racer_of view keys) answer ≡ true → is_below view.end answer.end ≡ false
win-not_behind view keys answers answer e other there compared =
    let racer = racer_of view keys in
    let nobody = option_map-none bars.Ahead (first_of (bars_by racer rules.Ahead) answers)
    (no-rule (is_candidate view.me keys.failover) (ahead racer answers) other
    (wins-by view keys answers e).ahead) in
    and-rest (is_compared racer answer) (is_below view.end answer.end) compared
    (first_of-none (bars_by racer rules.Ahead) answers answer nobody there)

pub win-preferred : (view : AgentView) (keys : RaceKeys) (answers : List PeerAnswer) (answer : PeerAnswer)
    → outcome_by view keys answers ≡ None → is_candidate view.me keys.failover ≡ false
    → Contains answers answer → is_compared (racer_of view keys) answer ≡ true → is_level view.end answer.end ≡ true
    → int_lt view.tags.failover_priority answer.tags.failover_priority ≡ false
win-preferred view keys answers answer e other there compared level =
    let racer = racer_of view keys in
    let nobody = option_map-none bars.Priority (first_of (bars_by racer rules.Priority) answers)
    (no-rule (is_candidate view.me keys.failover) (priority racer answers) other
    (wins-by view keys answers e).priority) in
    let lower = int_lt view.tags.failover_priority answer.tags.failover_priority in
    and-rest (is_level view.end answer.end) lower level
    (and-rest (is_compared racer answer) (is_level view.end answer.end && lower) compared
    (first_of-none (bars_by racer rules.Priority) answers answer nobody there))

-- ---- the own answer
same-number : (m n : ℕ) → m ≡ n → (m == n) ≡ true
same-number m n e = grind (arith, nat_tests)

own-bars : (racer : Racer) (rule : Rule) (answer : PeerAnswer) → counts racer.me answer ≡ false
    → bars_by racer rule answer ≡ false
own-bars racer rules.OtherWrites answer e = ap (λ t. t && answer.writes) e
own-bars racer rules.Ahead answer e =
    ap (λ t. (t && is_standby_if racer.sync answer.member) && is_below racer.end answer.end) e
own-bars racer rules.Priority answer e =
    ap (λ t. (t && is_standby_if racer.sync answer.member)
    && (is_level racer.end answer.end && int_lt racer.priority answer.tags.failover_priority))
    e

pub win-own : (view : AgentView) (keys : RaceKeys) (before : List PeerAnswer) (answer : PeerAnswer)
    (after : List PeerAnswer) → answer.member.number ≡ view.me.number
    → outcome_by view keys (before ++ answer ∷ after) ≡ outcome_by view keys (before ++ after)
win-own view keys before answer after mine =
    let racer : Racer = racer_of view keys in
    let named : Bool = is_candidate view.me keys.failover in
    let all : List PeerAnswer = before ++ answer ∷ after in
    let others : List PeerAnswer = before ++ after in
    let counted : counts view.me answer ≡ false =
    ap (λ t. not t && may_fail_over answer.tags) (same-number answer.member.number view.me.number mine) in
    let skip =
    λ (rule : Rule). first_of-skip_at (bars_by racer rule) before answer after (own-bars racer rule answer counted) in
    ap (λ o.
    first_bar (option_map bars.OtherWrites o ∷ unless named (ahead racer all) ∷ unless named (priority racer all) ∷ []))
    (skip rules.OtherWrites)
    ∙ ap (λ o. first_bar
    (other_writes racer others ∷ unless named (option_map bars.Ahead o) ∷ unless named (priority racer all) ∷ []))
    (skip rules.Ahead)
    ∙ ap (λ o. first_bar
    (other_writes racer others ∷ unless named (ahead racer others) ∷ unless named (option_map bars.Priority o) ∷ []))
    (skip rules.Priority)

-- ---- two that compared each other
squeezed : (m n : ℕ) → nat_lt m n ≡ false → nat_lt n m ≡ false → m ≡ n
squeezed m n p q = grind (arith, nat_tests)

level-ends : (x y : Option Lsn) → is_below x y ≡ false → is_below y x ≡ false → x ≡ y
level-ends None None p q = refl
level-ends None (Some y) p q = absurd (no p)
level-ends (Some x) None p q = absurd (no q)
level-ends (Some x) (Some y) p q = ap (λ e. Some e) (lsn-injective x y (squeezed x.position y.position p q))

level-self : (x : Option Lsn) → IsSome x → is_level x x ≡ true
level-self None there = absurd (no (sym there))
level-self (Some x) there = same-number x.position x.position refl

level-priorities : (x y : ℤ) → int_lt x y ≡ false → int_lt y x ≡ false → x ≡ y
level-priorities (pos m) (pos n) p q = ap (λ k. pos k) (squeezed m n p q)
level-priorities (pos m) (negsuc n) p q = absurd (no q)
level-priorities (negsuc m) (pos n) p q = absurd (no p)
level-priorities (negsuc m) (negsuc n) p q = ap (λ k. negsuc k) (squeezed m n q p)

not-behind : (view other : AgentView) (keys : RaceKeys) (answers : List PeerAnswer)
    → ComparesWith view keys answers other → outcome_by view keys answers ≡ None → is_below view.end other.end ≡ false
not-behind view other keys answers c e =
    ap (is_below view.end) (sym c.end) ∙ win-not_behind view keys answers c.answer e c.no_candidate c.heard c.compared

not-lower : (view other : AgentView) (keys : RaceKeys) (answers : List PeerAnswer)
    → ComparesWith view keys answers other → outcome_by view keys answers ≡ None
    → is_level view.end other.end ≡ true → int_lt view.tags.failover_priority other.tags.failover_priority ≡ false
not-lower view other keys answers c e level =
    ap (λ tags. int_lt view.tags.failover_priority tags.failover_priority) (sym c.tags)
    ∙ win-preferred view keys answers c.answer e c.no_candidate c.heard c.compared
    (ap (is_level view.end) c.end ∙ level)

pub both-end : (a b : AgentView) (read_by_a read_by_b : RaceKeys) (heard_by_a heard_by_b : List PeerAnswer)
    → ComparesWith a read_by_a heard_by_a b → ComparesWith b read_by_b heard_by_b a
    → outcome_by a read_by_a heard_by_a ≡ None → outcome_by b read_by_b heard_by_b ≡ None → a.end ≡ b.end
both-end a b read_by_a read_by_b heard_by_a heard_by_b c d wins_a wins_b =
    level-ends a.end b.end (not-behind a b read_by_a heard_by_a c wins_a) (not-behind b a read_by_b heard_by_b d wins_b)

pub both-priority : (a b : AgentView) (read_by_a read_by_b : RaceKeys) (heard_by_a heard_by_b : List PeerAnswer)
    → ComparesWith a read_by_a heard_by_a b → ComparesWith b read_by_b heard_by_b a
    → outcome_by a read_by_a heard_by_a ≡ None → outcome_by b read_by_b heard_by_b ≡ None → IsSome a.end
    → a.tags.failover_priority ≡ b.tags.failover_priority
both-priority a b read_by_a read_by_b heard_by_a heard_by_b c d wins_a wins_b there =
    let ends = both-end a b read_by_a read_by_b heard_by_a heard_by_b c d wins_a wins_b in
    let level : is_level a.end b.end ≡ true = ap (is_level a.end) (sym ends) ∙ level-self a.end there in
    let level' : is_level b.end a.end ≡ true = ap (λ t. is_level t a.end) (sym ends) ∙ level-self a.end there in
    level-priorities a.tags.failover_priority b.tags.failover_priority
    (not-lower a b read_by_a heard_by_a c wins_a level) (not-lower b a read_by_b heard_by_b d wins_b level')

-- ---- what the rules give, one by one
pub outcome-by : (view : AgentView) (keys : RaceKeys) (answers : List PeerAnswer) (racer : Racer)
    (named : Bool) (writing further furthest preferred most : Option Ineligibility) → racer ≡ racer_of view keys
    → named ≡ is_candidate view.me keys.failover → writing ≡ other_writes racer answers
    → further ≡ ahead racer answers → furthest ≡ unless named further → preferred ≡ priority racer answers
    → most ≡ unless named preferred → first_bar (writing ∷ furthest ∷ most ∷ []) ≡ outcome_by view keys answers
outcome-by view keys answers racer named writing further furthest preferred most racing naming first second second'
    third third' =
    let theirs : Racer = racer_of view keys in
    ap (λ o. first_bar (o ∷ furthest ∷ most ∷ [])) (first ∙ ap (λ (r : Racer). other_writes r answers) racing)
    ∙ ap (λ o. first_bar (other_writes theirs answers ∷ o ∷ most ∷ []))
    (second' ∙ ap (unless named) (second ∙ ap (λ (r : Racer). ahead r answers) racing)
    ∙ ap (λ n. unless n (ahead theirs answers)) naming)
    ∙ ap (λ o. first_bar
    (other_writes theirs answers ∷ unless (is_candidate view.me keys.failover) (ahead theirs answers) ∷ o ∷ []))
    (third' ∙ ap (unless named) (third ∙ ap (λ (r : Racer). priority r answers) racing)
    ∙ ap (λ n. unless n (priority theirs answers)) naming)
