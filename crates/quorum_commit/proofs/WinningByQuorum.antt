-- What bars nobody who wins by quorum.
use Rattle.std.proofs.Common.{◌≡◌, ℕ, ◌≤◌, ◌==◌, ◌&&◌, ◌⊎◌, inl, inr, Bool, true, false, List, Option, Some, None, refl, sym, ap, ◌∙◌, arith}
use Rattle.std.specs.Prelude.{nat_lt, Contains}
use Rattle.std.proofs.lemmas.Bool.Decides.{nat_tests}
use Rattle.pat_base.specs.declared.ineligibility.Ineligibility.{Ineligibility}
use Rattle.pat_base.specs.declared.ineligibility.Ineligibility.TheVariants as bars
use Rattle.pat_base.specs.declared.peer_answer.PeerAnswer.{PeerAnswer}
use Rattle.store_keys.specs.declared.value.SyncKey.{SyncKey}
use Rattle.cluster_view.specs.declared.view.AgentView.{AgentView}
use Rattle.cluster_view.specs.Naming.{is_candidate}
use Rattle.leader_race.specs.declared.racer.RaceKeys.{RaceKeys}
use Rattle.leader_race.specs.declared.racer.Racer.{Racer}
use Rattle.leader_race.specs.Outcome.{ahead, other_writes, racer_of, unless}
use Rattle.leader_race.specs.Peers.{counts, first_of, is_ahead, is_below, is_compared, writes_elsewhere}
use Rattle.leader_race.proofs.Barring.{bar_where-none, first_bar-none, first_of-none, option_map-none}
use Rattle.quorum_commit.specs.Laws.{WinsAsStandby}
use Rattle.quorum_commit.specs.Quorums.{size}
use Rattle.quorum_commit.specs.Race.{compared, is_leader_in, outcome_among, outcome_with, quorum_outcome_by, too_few}

no-way : true ≡ false → ⊥
no-way e = cc

and-rest : (a b : Bool) → a ≡ true → (a && b) ≡ false → b ≡ false
and-rest true b e h = h
and-rest false b e h = absurd (no-way (sym e))

applies : (excepted : Bool) (bar : Option Ineligibility) → excepted ≡ false → unless excepted bar ≡ None → bar ≡ None
applies false bar e h = h
applies true bar e h = absurd (no-way e)

not-below : (m n : ℕ) → nat_lt m n ≡ false → n ≤ m
not-below m n e = grind (arith, nat_tests)

is-number : (m n : ℕ) → (m == n) ≡ true → m ≡ n
is-number m n e = grind (arith, nat_tests)

-- whoever isn't the key's leader, and wins
as-standby : (racer : Racer) (sync : SyncKey) (named : Bool) (answers : List PeerAnswer)
    → is_leader_in sync racer ≡ false → outcome_among racer sync named answers ≡ None → WinsAsStandby racer sync answers
as-standby racer sync named answers other e =
    let leads = is_leader_in sync racer in
    let few = too_few sync.quorum (compared racer answers) in
    let first = first_bar-none (other_writes racer answers) _ e in
    let second = first_bar-none (unless leads (ahead racer answers)) _ first.1 in
    let third = first_bar-none (unless leads few) _ second.1 in
    let nobody = option_map-none bars.Ahead (first_of (is_ahead racer) answers)
    (applies leads (ahead racer answers) other second.0) in
    record {
      not_behind = λ answer there is. and-rest (is_compared racer answer) (is_below racer.end answer.end) is
          (first_of-none (is_ahead racer) answers answer nobody there);
      enough = not-below (size (compared racer answers)) sync.quorum
          (bar_where-none (nat_lt (size (compared racer answers)) sync.quorum) bars.TooFewAnswers
          (applies leads few other third.0));
    }

among : (racer : Racer) (sync : SyncKey) (named : Bool) (answers : List PeerAnswer) (leads : Bool)
    → is_leader_in sync racer ≡ leads → outcome_among racer sync named answers ≡ None
    → (sync.leader.number ≡ racer.me.number) ⊎ WinsAsStandby racer sync answers
among racer sync named answers true is e = inl (is-number sync.leader.number racer.me.number is)
among racer sync named answers false is e = inr (as-standby racer sync named answers is e)

pub wins-standby : (view : AgentView) (keys : RaceKeys) (sync : SyncKey) (answers : List PeerAnswer)
    → quorum_outcome_by view keys answers ≡ None → keys.sync ≡ Some sync
    → (sync.leader.number ≡ view.me.number) ⊎ WinsAsStandby (racer_of view keys) sync answers
wins-standby view keys sync answers e there =
    let racer : Racer = racer_of view keys in
    let named : Bool = is_candidate view.me keys.failover in
    among racer sync named answers (is_leader_in sync racer) refl
    (ap (λ (s : Option SyncKey). outcome_with racer s named answers) (sym there) ∙ e)

no-writing : (racer : Racer) (sync : Option SyncKey) (named : Bool) (answers : List PeerAnswer)
    → outcome_with racer sync named answers ≡ None → other_writes racer answers ≡ None
no-writing racer None named answers e = e
no-writing racer (Some sync) named answers e = let first = first_bar-none (other_writes racer answers) _ e in first.0

pub wins-no_writer : (view : AgentView) (keys : RaceKeys) (answers : List PeerAnswer) (answer : PeerAnswer)
    → quorum_outcome_by view keys answers ≡ None → Contains answers answer → counts view.me answer ≡ true
    → answer.writes ≡ false
wins-no_writer view keys answers answer e there counted =
    let racer : Racer = racer_of view keys in
    and-rest (counts view.me answer) answer.writes counted
    (first_of-none (writes_elsewhere racer) answers answer
    (option_map-none bars.OtherWrites (first_of (writes_elsewhere racer) answers)
    (no-writing racer keys.sync (is_candidate view.me keys.failover) answers e))
    there)
