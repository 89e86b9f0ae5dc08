-- So does what it does in a race.
use Rattle.std.proofs.Common.{◌≡◌, ℕ, ◌≤◌, ◌<◌, ◌==◌, ◌||◌, Bool, true, false, Option, Some, ◌∙◌, ap, sym, subst, arith, inl, inr}
use Rattle.wal_model.specs.Log.{end_of}
use Rattle.commit_actions.specs.Keys.{SyncKey, count}
use Rattle.commit_actions.specs.Flights.{SnapshotView}
use Rattle.commit_actions.specs.States.{Race, Agent, State, Includes, HasLog, IsUndiverged}
use Rattle.commit_actions.specs.Inputs.{IsUnled, AgentInput, Races, AddsAnswer, HearsAnswer, Judges, AsItStood, WithAnswer, WinsRace, WhyUnled, WasKeyless, WasLeaderless, OnlyHolderLives, OnlyHolderLivesIf}
use Rattle.commit_actions.specs.Carried.{IsComplete, IsRead, IsRaceKept, IsWonKept, IsSound, IsSnapshotKept, HolderIsNotLive}
use Rattle.lease_model.proofs.Tools.{some-is, none-some, not-false, eq-from}
use Rattle.commit_actions.proofs.Tools.{or-cases}
use Rattle.commit_law.proofs.Prefixes.{undiverged-end}
use Rattle.commit_actions.proofs.Counting.{beyond, count-with}
use Rattle.commit_law.proofs.Logs.{key-some}
use Rattle.commit_law.proofs.Machines.{IsMachineKept}
use Rattle.commit_law.proofs.InputServers.{Goes, race-same, role-kept, was-turn}

-- where creations compare the sync key: whoever is live would hold the leader key, and its holder isn't live
holder-unled : (s : State) (failsafe_revision : Option ℕ) (revision : ℕ) → OnlyHolderLives s failsafe_revision
    → s.failsafe_revision ≡ failsafe_revision
    → HolderIsNotLive s.flight s.members s.leader s.holder s.holder_was_live revision
    → IsUnled s.flight s.members revision
holder-unled s failsafe_revision revision holds same_lists d = record {
  live = nobody;
  pending = λ i a at same waits acts.
      elim acts [ inl live ↦ nobody a.member live | inr ready ↦ d.nobody_ready i a at same waits ready ];
}
  where
    nobody : (n : ℕ) → (s.members n).live ≡ true → ⊥
    nobody n live = let h = holds same_lists n live in
        not-false (s.members n).live (ap (λ (k : ℕ). (s.members k).live) (sym h.2) ∙ d.holder_not_live h.0 h.1) live

-- nobody is live while the sync key is as a snapshot told that was free, or read without a leader key
race-unled : (s : State) (view : SnapshotView) (key now : SyncKey) (unled : WhyUnled s view.keyless view.leaderless)
    → OnlyHolderLivesIf s view.keyless view.leaderless view.failsafe_revision unled
    → IsSnapshotKept s.creates_compare s.leader s.holder s.failsafe_revision s.holder_was_live s.sync
    s.revision s.flight s.members view
    → view.sync ≡ Some key → s.sync ≡ Some now → now.revision ≡ key.revision → IsUnled s.flight s.members key.revision
race-unled s view key now (WasKeyless is) held v k e same = v.unled is key now k e same
race-unled s view key now (WasLeaderless compares is) held v k e same = holder-unled s view.failsafe_revision
    key.revision held (v.listed is compares key now k e same) (v.not_live is compares key now k e same)

-- races
pub races-kept : (s : State) (m : ℕ) (input : AgentInput) (was : Agent) → IsSound s → Goes s m input was
    → (does : Races s m input was)
    → OnlyHolderLivesIf s does.view.keyless does.view.leaderless does.view.failsafe_revision does.unled
    → IsMachineKept s m input was
races-kept s m input was inv goes does held =
    let shown : SnapshotView = record {
      sync = input.agent.turn;
      keyless = does.view.keyless;
      leaderless = does.view.leaderless;
      failsafe_revision = does.view.failsafe_revision;
    } in
    let view = inv.shown does.view.number shown does.view.is in
    let read : IsRead s.sync s.revision input.agent.turn = view.read in
    role-kept s m input was inv goes does.keeps read
    (record {
      race = λ race key now r k e same.
          let race_is : does.race ≡ race = some-is does.race race (sym does.race_is ∙ r) in
          let old = (key-some s key inv (e ∙ ap (λ (x : SyncKey). Some x) ((read key k).same now e same))).1 in
          record {
            unled = race-unled s shown key now does.unled held view k e same;
            spared = old.spared;
            few = old.few;
            complete = old.others;
            heard = λ n end named other is.
                absurd (none-some end (sym (does.ends n) ∙ ap (λ (x : Race). x.ends n) race_is ∙ is));
            coming = λ i y at mine run_is sequence_is named other.
                absurd (omega (
                  arith,
                  (inv.replied i y at).sequence_old was (ap (λ (n : ℕ). (s.members n).agent) mine ∙ goes.was_is)
                      (sym goes.incarnation ∙ sym run_is),
                  does.later,
                  sequence_is,
                  ap (λ (x : Race). x.sequence) race_is,
                ));
          };
      counted = λ race r.
          omega (arith, does.counted, ap (λ (x : Race). x.sequence) (some-is does.race race (sym does.race_is ∙ r)));
      won = λ key now w k e same. absurd (not-false input.agent.won does.won w);
    })

-- a race with one more answer, while the sync key is as its agent read it
race-heard : (s : State) (m : ℕ) (input : AgentInput) (was : Agent) (race : Race) (key now : SyncKey)
    → IsSound s → (s.members m).agent ≡ Some was → AddsAnswer s m input was race → was.turn ≡ Some key
    → s.sync ≡ Some now → now.revision ≡ key.revision
    → IsRaceKept s.member_count s.acknowledged_log s.flight s.members m was.incarnation race key
race-heard s m input was race key now inv was_is adds turn e same =
    let old = (inv.kept m was was_is).turn_kept.race adds.before key now adds.before_is turn e same in record {
      unled = old.unled;
      spared = old.spared;
      few = old.few;
      complete = old.complete;
      heard = λ n end named other is. elim (adds.ends n end is) [
        | inl before ↦ old.heard n end named other before
        | inr new ↦ omega (
          arith,
          new.1,
          old.coming adds.number adds.race_answer adds.is adds.member (sym adds.incarnation)
              (sym adds.sequence) (ap key.standbys (sym new.0) ∙ named) (ap old.spared (sym new.0) ∙ other),
        )
      ];
      coming = λ i y at mine run_is sequence_is. old.coming i y at mine run_is (sequence_is ∙ adds.sequence_same);
    }

-- hears an answer
pub hears-kept : (s : State) (m : ℕ) (input : AgentInput) (was : Agent) → IsSound s → Goes s m input was
    → HearsAnswer s m input was → IsMachineKept s m input was
hears-kept s m input was inv goes does =
    let turn_kept = (inv.kept m was goes.was_is).turn_kept in
    role-kept s m input was inv goes does.keeps (was-turn s m was input.agent.turn inv goes.was_is does.turn)
    (record {
      race = λ race key now r k e same.
          race-same s m was.incarnation input.agent.incarnation race key (sym goes.incarnation)
          (subst (λ (x : Race). IsRaceKept s.member_count s.acknowledged_log s.flight s.members m was.incarnation x key)
          (some-is does.race race (sym does.race_is ∙ r))
          (race-heard s m input was does.race key now inv goes.was_is does.adds (sym does.turn ∙ k) e same));
      counted = λ race r. omega (
        arith,
        turn_kept.counted does.adds.before does.adds.before_is,
        does.adds.sequence_same,
        goes.last,
        ap (λ (x : Race). x.sequence) (some-is does.race race (sym does.race_is ∙ r)),
      );
      won = λ key now w k e same. turn_kept.won key now (does.won w) (sym does.turn ∙ k) e same;
    })

-- the race that is judged
race-judged : (s : State) (m : ℕ) (input : AgentInput) (was : Agent) (race : Race) (key now : SyncKey)
    → IsSound s → (s.members m).agent ≡ Some was → Judges s m input was race → was.turn ≡ Some key
    → s.sync ≡ Some now → now.revision ≡ key.revision
    → IsRaceKept s.member_count s.acknowledged_log s.flight s.members m was.incarnation race key
race-judged s m input was race key now inv was_is (AsItStood is) turn e same =
    (inv.kept m was was_is).turn_kept.race race key now is turn e same
race-judged s m input was race key now inv was_is (WithAnswer adds) turn e same =
    race-heard s m input was race key now inv was_is adds turn e same

-- of the winner and of who answered one isn't spared
winner-complete : (s : State) (m : ℕ) (race : Race) (key : SyncKey) (incarnation : ℕ)
    (log : HasLog (s.members m).log) (answered : ℕ → Bool) → IsSound s → s.sync ≡ Some key
    → IsRaceKept s.member_count s.acknowledged_log s.flight s.members m incarnation race key → m < s.member_count
    → key.standbys m ≡ true → answered m ≡ false → ((n : ℕ) → answered n ≡ true → key.standbys n ≡ true)
    → ((n : ℕ) → answered n ≡ true → (end : ℕ) × (race.ends n ≡ Some end) × (end ≤ end_of log.entries))
    → key.quorum ≤ count s.member_count answered → IsComplete s.acknowledged_log s.members m
winner-complete s m race key incarnation log answered inv sync r less named others standbys ends enough =
    let all : ℕ → Bool = λ k. (k == m) || answered k in
    let b = beyond s.member_count all r.spared
    (omega (arith, r.few, enough, count-with s.member_count m answered less others)) in
    elim (or-cases (b.number == m) (answered b.number) b.of) [
      | inl here ↦ subst (IsComplete s.acknowledged_log s.members) (eq-from b.number m here)
          (r.complete b.number (ap key.standbys (eq-from b.number m here) ∙ named) b.not_of)
      | inr there ↦
          let e = ends b.number there in
          subst (Includes s.acknowledged_log) (sym log.is)
          (undiverged-end s.acknowledged_log log.entries inv.servers.acknowledged_bytes
          (subst (IsUndiverged s.acknowledged_log) log.is ((inv.servers.undiverged key sync).undiverged m named))
          (omega (arith, r.heard b.number e.0 (standbys b.number there) b.not_of e.1, e.2)))
    ]

pub wins-kept : (s : State) (m : ℕ) (input : AgentInput) (was : Agent) → IsSound s → Goes s m input was
    → WinsRace s m input was → IsMachineKept s m input was
wins-kept s m input was inv goes does =
    let kept = inv.kept m was goes.was_is in
    role-kept s m input was inv goes does.keeps (was-turn s m was input.agent.turn inv goes.was_is does.turn)
    (record {
      race = λ race key now r. absurd (none-some race (sym does.race_gone ∙ r));
      counted = λ race r. absurd (none-some race (sym does.race_gone ∙ r));
      won = λ key now w k e same.
          let key_is : does.key ≡ key = some-is does.key key (sym does.key_is ∙ sym does.turn ∙ k) in
          let there : s.sync ≡ Some does.key = e ∙ ap (λ (x : SyncKey). Some x)
          ((kept.turn does.key does.key_is).same now e (same ∙ ap (λ (x : SyncKey). x.revision) (sym key_is))) in
          let old = race-judged s m input was does.race does.key now inv goes.was_is does.judges does.key_is e
          (same ∙ ap (λ (x : SyncKey). x.revision) (sym key_is)) in
          subst (IsWonKept s.acknowledged_log s.flight s.members m) key_is (record {
            unled = old.unled;
            named = does.named;
            complete = winner-complete s m does.race does.key was.incarnation does.log does.answered inv there
                old does.counts does.named does.others does.standbys does.ends does.enough;
          });
    })
