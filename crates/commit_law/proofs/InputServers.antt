-- What an input does with its server, its list and its role keeps what commits rest on.
use Rattle.std.proofs.Common.{◌≡◌, ◌⊎◌, ℕ, ◌≤◌, ◌<◌, Bool, true, false, List, Option, Some, None, refl, ◌∙◌, ap, sym, subst, arith, inl, inr}
use Rattle.wal_model.specs.declared.entry.Entry.{Entry}
use Rattle.wal_model.specs.Log.{end_of}
use Rattle.commit_actions.specs.Keys.{SyncKey, Confirmers, Nobody, Meets, Overlaps}
use Rattle.commit_actions.specs.Flights.{Aim, ClaimSync, PublishStandbys, SyncRequest, LeaseGrant, SyncGrant, Requested, CreateLeader}
use Rattle.pg_model.specs.Facts.{entries_of}
use Rattle.commit_actions.specs.States.{Race, Agent, State, is_ready, Acts, IsBehind, Waits}
use Rattle.commit_actions.specs.Inputs.{AgentInput, HearsLeaseGrant, HearsSyncGrant, KeepsTurn, KeepsServer, KeepsRole, Sends, Idles, Arms, TakesOver, ChangesRequired, Publishes, Promotes, SettlesRequired, ArmsAlone}
use Rattle.commit_actions.specs.Actions.{machine_after}
use Rattle.commit_actions.specs.Carried.{IsComplete, IsRead, IsAsRead, AreNear, IsAimKept, IsRaceKept, IsTurnKept, IsSound}
use Rattle.lease_model.proofs.Tools.{some-is, none-some, not-false}
use Rattle.commit_law.proofs.Prefixes.{end-le}
use Rattle.commit_actions.proofs.Counting.{narrows-gives, count-empty}
use Rattle.commit_law.proofs.Logs.{live-complete, complete-some}
use Rattle.commit_law.proofs.Storing.{read-revision}
use Rattle.commit_law.proofs.Machines.{IsChangeFor, IsMachineKept}

-- the law's facts of the input without what it does
pub record Goes (s : State) (m : ℕ) (input : AgentInput) (was : Agent) : Type 0 where
  pub was_is : (s.members m).agent ≡ Some was
  pub incarnation : input.agent.incarnation ≡ was.incarnation
  pub last : was.last ≤ input.agent.last
  pub waits : (sequence : ℕ) → input.agent.waits ≡ Some sequence → (was.waits ≡ Some sequence) ⊎ (was.last < sequence)

was-ready : (s : State) (m : ℕ) (was : Agent) → (s.members m).agent ≡ Some was → was.ready ≡ true
    → is_ready (s.members m).agent ≡ true
was-ready s m was is r = ap is_ready is ∙ r

same-acts : (s : State) (m : ℕ) (input : AgentInput) (was : Agent) → (s.members m).agent ≡ Some was
    → input.live ≡ (s.members m).live → (input.agent.ready ≡ true → was.ready ≡ true)
    → Acts (machine_after (s.members m) input) → Acts (s.members m)
same-acts s m input was is live ready (inl e) = inl (sym live ∙ e)
same-acts s m input was is live ready (inr e) = inr (was-ready s m was is (ready e))

aim-for : (s : State) (m n : ℕ) (live : Bool) (aim : Aim) → n ≡ m → live ≡ (s.members m).live
    → IsAimKept s.member_count s.acknowledged_log s.members s.sync n aim
    → IsChangeFor s m live (s.members m).required aim
aim-for s m n live CreateLeader same l c = tt
aim-for s m n live ClaimSync same l c = l ∙ ap (λ (k : ℕ). (s.members k).live) (sym same) ∙ c.0
aim-for s m n live (PublishStandbys standbys quorum) same l c = (
  λ e. subst (λ (k : ℕ). (s.members k).live ≡ true → Overlaps s.member_count standbys quorum (s.members k).required)
      same c.2 (sym l ∙ e),
  λ e. (subst (λ (k : ℕ). AreNear s.acknowledged_log s.members k standbys) same c.3).behind (sym l ∙ e),
)

aim-not-live : (s : State) (m : ℕ) (live : Bool) (required : Confirmers) (aim : Aim) → live ≡ false
    → IsChangeFor s m live required aim
aim-not-live s m live required CreateLeader not_live = tt
aim-not-live s m live required ClaimSync not_live = not_live
aim-not-live s m live required (PublishStandbys standbys quorum) not_live =
    (λ e. absurd (not-false live not_live e), λ e. absurd (not-false live not_live e))

-- a live server's log ends no earlier than what was acknowledged
end-noted : (s : State) (m : ℕ) → IsSound s → (s.members m).live ≡ true
    → end_of s.acknowledged_log ≤ end_of (entries_of (s.members m).log)
end-noted s m inv live =
    let log = inv.servers.log m live in
    omega (
      arith,
      end-le s.acknowledged_log log.entries
          (complete-some s.acknowledged_log log.entries (s.members m).log log.is (live-complete s m inv live)),
      ap (λ (o : Option (List Entry)). end_of (entries_of o)) log.is,
    )

-- the standbys of a live server
pub live-behind : (s : State) (m : ℕ) (key : SyncKey) (n : ℕ) → IsSound s → (s.members m).live ≡ true
    → s.sync ≡ Some key → key.standbys n ≡ true → IsBehind (s.members m).log (s.members n).log
live-behind s m key n inv live is named =
    let l = inv.servers.led m live in
    let mine : key.leader ≡ m = ap (λ (k : SyncKey). k.leader) (some-is key l.key (sym is ∙ l.is)) ∙ l.leader in
    (subst (λ (k : ℕ). AreNear s.acknowledged_log s.members k key.standbys) mine (inv.servers.undiverged key is)).behind
    live n named

-- server and list stay, and nobody comes to act
steady : (s : State) (m : ℕ) (input : AgentInput) (was : Agent) → IsSound s → Goes s m input was
    → KeepsServer s m input → (input.agent.ready ≡ true → was.ready ≡ true) → IsRead s.sync s.revision input.agent.turn
    → IsTurnKept s.member_count s.acknowledged_log s.sync s.flight s.members m input.agent
    → (input.agent.leads ≡ true → (s.members m).live ≡ true → (end_of s.acknowledged_log ≤ input.agent.noted) ⊎
    Meets s.member_count (s.members m).required (IsComplete s.acknowledged_log s.members))
    → IsMachineKept s m input was
steady s m input was inv goes same ready turn turn_kept noted = record {
  was_is = goes.was_is;
  incarnation = goes.incarnation;
  last = goes.last;
  waits = goes.waits;
  led = λ live. inv.servers.led m (sym same.live ∙ live);
  log = λ live. inv.servers.log m (sym same.live ∙ live);
  overlaps = λ key live is. subst (λ (r : Confirmers). Overlaps s.member_count key.standbys key.quorum r)
      (sym same.required) (inv.servers.overlaps m key (sym same.live ∙ live) is);
  lives = λ w. same.live ∙ inv.servers.lives m w;
  parted = λ r. same.live ∙ inv.servers.parted m (was-ready s m was goes.was_is (ready r));
  noted = λ leads live.
      subst (λ (r : Confirmers). (end_of s.acknowledged_log ≤ input.agent.noted) ⊎
      Meets s.member_count r (IsComplete s.acknowledged_log s.members))
      (sym same.required) (noted leads (sym same.live ∙ live));
  turn = turn;
  turn_kept = turn_kept;
  behind = λ key live is n named. live-behind s m key n inv (sym same.live ∙ live) is named;
  rises = λ live. inl (sym same.live ∙ live);
  sole = λ n an ay. inv.servers.sole n m an (acts ay);
  still = λ sequence le waits ay. acts ay;
  alone = λ i w at is ay. (inv.asked i w at).alone is m (acts ay);
  readied = λ sequence le waits r. ready r;
  creates = λ i w at mine is read. same.live ∙ ap (λ (k : ℕ). (s.members k).live) (sym mine)
      ∙ (inv.asked i w at).creates is read;
  aim = λ i w at mine is read. subst (λ (r : Confirmers). IsChangeFor s m input.live r w.aim) (sym same.required)
      (aim-for s m w.member input.live w.aim mine same.live ((inv.asked i w at).aim is read));
}
  where
    acts : Acts (machine_after (s.members m) input) → Acts (s.members m)
    acts = same-acts s m input was goes.was_is same.live ready

pub was-turn : (s : State) (m : ℕ) (was : Agent) (turn : Option SyncKey) → IsSound s
    → (s.members m).agent ≡ Some was → turn ≡ was.turn → IsRead s.sync s.revision turn
was-turn s m was turn inv is e = subst (IsRead s.sync s.revision) (sym e) (inv.kept m was is).turn

was-noted : (s : State) (m : ℕ) (was agent : Agent) → IsSound s → (s.members m).agent ≡ Some was
    → (agent.leads ≡ true → was.leads ≡ true) → agent.noted ≡ was.noted → agent.leads ≡ true → (s.members m).live ≡ true
    → (end_of s.acknowledged_log ≤ agent.noted)
    ⊎ Meets s.member_count (s.members m).required (IsComplete s.acknowledged_log s.members)
was-noted s m was agent inv is leads noted led live =
    subst (λ (n : ℕ). (end_of s.acknowledged_log ≤ n) ⊎
    Meets s.member_count (s.members m).required (IsComplete s.acknowledged_log s.members))
    (sym noted) ((inv.kept m was is).noted (leads led) live)

turn-idle : (s : State) (m : ℕ) (agent : Agent) → agent.race ≡ None → agent.won ≡ false
    → IsTurnKept s.member_count s.acknowledged_log s.sync s.flight s.members m agent
turn-idle s m agent race won = record {
  race = λ r key now is k e same. absurd (none-some r (sym race ∙ is));
  counted = λ r is. absurd (none-some r (sym race ∙ is));
  won = λ key now w k e same. absurd (not-false agent.won won w);
}

pub race-same : (s : State) (m : ℕ) (incarnation run' : ℕ) (race : Race) (key : SyncKey) → incarnation ≡ run'
    → IsRaceKept s.member_count s.acknowledged_log s.flight s.members m incarnation race key
    → IsRaceKept s.member_count s.acknowledged_log s.flight s.members m run' race key
race-same s m incarnation run' race key e old =
    subst (λ (r : ℕ). IsRaceKept s.member_count s.acknowledged_log s.flight s.members m r race key) e old

pub was-turned : (s : State) (m : ℕ) (input : AgentInput) (was : Agent) → IsSound s → Goes s m input was
    → KeepsTurn was input.agent → IsTurnKept s.member_count s.acknowledged_log s.sync s.flight s.members m input.agent
was-turned s m input was inv goes stays =
    let old = (inv.kept m was goes.was_is).turn_kept in
    record {
      race = λ race key now r k e same. elim stays.race [
        | inl is ↦ race-same s m was.incarnation input.agent.incarnation race key (sym goes.incarnation)
            (old.race race key now (sym is ∙ r) (sym stays.turn ∙ k) e same)
        | inr none ↦ absurd (none-some race (sym none ∙ r))
      ];
      counted = λ race r. elim stays.race [
        | inl is ↦ omega (arith, old.counted race (sym is ∙ r), goes.last)
        | inr none ↦ absurd (none-some race (sym none ∙ r))
      ];
      won = λ key now w k e same. old.won key now (stays.won w) (sym stays.turn ∙ k) e same;
    }

-- server, list, role and noted position stay
pub role-kept : (s : State) (m : ℕ) (input : AgentInput) (was : Agent) → IsSound s → Goes s m input was
    → KeepsRole s m input was → IsRead s.sync s.revision input.agent.turn
    → IsTurnKept s.member_count s.acknowledged_log s.sync s.flight s.members m input.agent → IsMachineKept s m input was
role-kept s m input was inv goes keeps turn turn_kept = steady s m input was inv goes keeps.server keeps.ready
    turn turn_kept (was-noted s m was input.agent inv goes.was_is keeps.leads keeps.noted)

pub idles-kept : (s : State) (m : ℕ) (input : AgentInput) (was : Agent) → IsSound s → Goes s m input was
    → Idles s m input was → IsMachineKept s m input was
idles-kept s m input was inv goes does =
    role-kept s m input was inv goes does.keeps
    (elim does.turn [
      | inl e ↦ was-turn s m was input.agent.turn inv goes.was_is e.turn
      | inr h ↦ (inv.shown h.view.number (record {
        sync = input.agent.turn;
        keyless = h.view.keyless;
        leaderless = h.view.leaderless;
        failsafe_revision = h.view.failsafe_revision;
      }) h.view.is).read
    ])
    (elim does.turn [ inl e ↦ was-turned s m input was inv goes e | inr h ↦ turn-idle s m input.agent h.race h.won ])

pub takes-over-kept : (s : State) (m : ℕ) (input : AgentInput) (was : Agent) → IsSound s → Goes s m input was
    → TakesOver s m input was → IsMachineKept s m input was
takes-over-kept s m input was inv goes does =
    steady s m input was inv goes does.keeps does.ready
    (was-turn s m was input.agent.turn inv goes.was_is does.turn.turn) (was-turned s m input was inv goes does.turn)
    (λ leads live. inl (omega (arith, end-noted s m inv live, does.noted)))

grant-waits : (s : State) (m : ℕ) (input : AgentInput) (was : Agent) (g : LeaseGrant) → (s.members m).agent ≡ Some was
    → HearsLeaseGrant s m input was g → Waits (s.members g.member) g.incarnation g.sequence
grant-waits s m input was g is h = subst (λ (n : ℕ). Waits (s.members n) g.incarnation g.sequence)
    (sym h.member) (record { agent = was; is = is; run_is = h.incarnation; waits = h.waits })

sync-waits : (s : State) (m : ℕ) (input : AgentInput) (was : Agent) (a : SyncGrant) → (s.members m).agent ≡ Some was
    → HearsSyncGrant s m input was a → Waits (s.members a.member) a.incarnation a.sequence
sync-waits s m input was a is h = subst (λ (n : ℕ). Waits (s.members n) a.incarnation a.sequence)
    (sym h.member) (record { agent = was; is = is; run_is = h.incarnation; waits = h.waits })

-- where m acts, the sync key is as its renewal told
pub grant-current : (s : State) (m : ℕ) (input : AgentInput) (was : Agent) (g : LeaseGrant) → IsSound s
    → (s.members m).agent ≡ Some was → HearsLeaseGrant s m input was g → Acts (s.members m) → s.sync ≡ g.sync
grant-current s m input was g inv is h acts = (inv.leased h.number g h.is).current
    (grant-waits s m input was g is h) (subst (λ (n : ℕ). Acts (s.members n)) (sym h.member) acts)

sync-current : (s : State) (m : ℕ) (input : AgentInput) (was : Agent) (a : SyncGrant) → IsSound s
    → (s.members m).agent ≡ Some was → HearsSyncGrant s m input was a → Acts (s.members m) → s.sync ≡ Some a.key
sync-current s m input was a inv is h acts = (inv.synced h.number a h.is).current
    (sync-waits s m input was a is h) (subst (λ (n : ℕ). Acts (s.members n)) (sym h.member) acts)

-- a sync write of m that would be granted isn't in flight while m hears a renewal, or the grant of a sync write
grant-none : (s : State) (m : ℕ) (input : AgentInput) (was : Agent) (g : LeaseGrant) → IsSound s
    → (s.members m).agent ≡ Some was → HearsLeaseGrant s m input was g → (i : ℕ) (w : SyncRequest)
    → s.flight i ≡ Some (Requested w) → w.member ≡ m → s.leader ≡ Some w.leader → ⊥
grant-none s m input was g inv is h i w at mine leader =
    let ok = inv.leased h.number g h.is in
    omega (arith, ok.older (grant-waits s m input was g is h) i w at (mine ∙ sym h.member), ok.passed w.leader leader)

sync-none : (s : State) (m : ℕ) (input : AgentInput) (was : Agent) (a : SyncGrant) → IsSound s
    → (s.members m).agent ≡ Some was → HearsSyncGrant s m input was a → Acts (s.members m)
    → (i : ℕ) (w : SyncRequest) → s.flight i ≡ Some (Requested w) → w.member ≡ m → IsAsRead s.sync w.sync → ⊥
sync-none s m input was a inv is h acts i w at mine read =
    (inv.synced h.number a h.is).last (sync-waits s m input was a is h) i w at (mine ∙ sym h.member)
    (read-revision s.sync w.sync a.key read (sync-current s m input was a inv is h acts))

pub changes-required-kept : (s : State) (m : ℕ) (input : AgentInput) (was : Agent) → IsSound s
    → Goes s m input was → ChangesRequired s m input was → IsMachineKept s m input was
changes-required-kept s m input was inv goes does = record {
  was_is = goes.was_is;
  incarnation = goes.incarnation;
  last = goes.last;
  waits = goes.waits;
  led = λ live. inv.servers.led m (sym does.live ∙ live);
  log = λ live. inv.servers.log m (sym does.live ∙ live);
  overlaps = λ key live is.
      let same : does.key ≡ key = some-is does.key key
      (sym does.key_is
      ∙ sym (grant-current s m input was does.grant inv goes.was_is does.hears (inl (sym does.live ∙ live))) ∙ is) in
      subst (λ (k : SyncKey). Overlaps s.member_count k.standbys k.quorum input.required) same does.overlaps;
  lives = λ w. does.live ∙ inv.servers.lives m w;
  parted = λ r. does.live ∙ inv.servers.parted m (was-ready s m was goes.was_is (does.ready r));
  noted = λ leads live. elim does.notes [
    | inl at_end ↦ inl (omega (arith, end-noted s m inv (sym does.live ∙ live), at_end))
    | inr less ↦ elim (was-noted s m was input.agent inv goes.was_is does.leads less.1 leads (sym does.live ∙ live)) [
      | inl le ↦ inl le
      | inr met ↦
          inr (narrows-gives s.member_count (s.members m).required input.required
          (IsComplete s.acknowledged_log s.members) less.0 met)
    ]
  ];
  turn = was-turn s m was input.agent.turn inv goes.was_is does.turn.turn;
  turn_kept = was-turned s m input was inv goes does.turn;
  behind = λ key live is n named. live-behind s m key n inv (sym does.live ∙ live) is named;
  rises = λ live. inl (sym does.live ∙ live);
  sole = λ n an ay. inv.servers.sole n m an (acts ay);
  still = λ sequence le waits ay. acts ay;
  alone = λ i w at is ay. (inv.asked i w at).alone is m (acts ay);
  readied = λ sequence le waits r. does.ready r;
  creates = λ i w at mine is read. does.live ∙ ap (λ (k : ℕ). (s.members k).live) (sym mine)
      ∙ (inv.asked i w at).creates is read;
  aim = λ i w at mine is read. absurd (grant-none s m input was does.grant inv goes.was_is does.hears i w at mine is);
}
  where
    acts : Acts (machine_after (s.members m) input) → Acts (s.members m)
    acts = same-acts s m input was goes.was_is does.live does.ready

not-live-or-live : (s : State) (m : ℕ) (b : Bool) → (s.members m).live ≡ b
    → ((s.members m).live ≡ false) ⊎ ((s.members m).live ≡ true)
not-live-or-live s m true e = inr e
not-live-or-live s m false e = inl e

pub settles-required-kept : (s : State) (m : ℕ) (input : AgentInput) (was : Agent) → IsSound s
    → Goes s m input was → SettlesRequired s m input was → IsMachineKept s m input was
settles-required-kept s m input was inv goes does = record {
  was_is = goes.was_is;
  incarnation = goes.incarnation;
  last = goes.last;
  waits = goes.waits;
  led = λ live. inv.servers.led m (sym does.live ∙ live);
  log = λ live. inv.servers.log m (sym does.live ∙ live);
  overlaps = λ key live is.
      let same : does.sync_grant.key ≡ key = some-is does.sync_grant.key key
      (sym (sync-current s m input was does.sync_grant inv goes.was_is does.hears (inl (sym does.live ∙ live))) ∙ is) in
      subst (λ (k : SyncKey). Overlaps s.member_count k.standbys k.quorum input.required) same does.overlaps;
  lives = λ w. does.live ∙ inv.servers.lives m w;
  parted = λ r. does.live ∙ inv.servers.parted m (was-ready s m was goes.was_is (does.ready r));
  noted = λ leads live. elim does.notes [
    | inl at_end ↦ inl (omega (arith, end-noted s m inv (sym does.live ∙ live), at_end))
    | inr less ↦ elim (was-noted s m was input.agent inv goes.was_is does.leads less.1 leads (sym does.live ∙ live)) [
      | inl le ↦ inl le
      | inr met ↦
          inr (narrows-gives s.member_count (s.members m).required input.required
          (IsComplete s.acknowledged_log s.members) less.0 met)
    ]
  ];
  turn = was-turn s m was input.agent.turn inv goes.was_is does.turn.turn;
  turn_kept = was-turned s m input was inv goes does.turn;
  behind = λ key live is n named. live-behind s m key n inv (sym does.live ∙ live) is named;
  rises = λ live. inl (sym does.live ∙ live);
  sole = λ n an ay. inv.servers.sole n m an (acts ay);
  still = λ sequence le waits ay. acts ay;
  alone = λ i w at is ay. (inv.asked i w at).alone is m (acts ay);
  readied = λ sequence le waits r. does.ready r;
  creates = λ i w at mine is read. does.live ∙ ap (λ (k : ℕ). (s.members k).live) (sym mine)
      ∙ (inv.asked i w at).creates is read;
  aim = λ i w at mine is read. elim (not-live-or-live s m (s.members m).live refl) [
    | inl not_live ↦ aim-not-live s m input.live input.required w.aim (does.live ∙ not_live)
    | inr live ↦ absurd (sync-none s m input was does.sync_grant inv goes.was_is does.hears (inl live) i w at mine read)
  ];
}
  where
    acts : Acts (machine_after (s.members m) input) → Acts (s.members m)
    acts = same-acts s m input was goes.was_is does.live does.ready

pub promotes-kept : (s : State) (m : ℕ) (input : AgentInput) (was : Agent) → IsSound s → Goes s m input was
    → Promotes s m input was → IsMachineKept s m input was
promotes-kept s m input was inv goes does = record {
  was_is = goes.was_is;
  incarnation = goes.incarnation;
  last = goes.last;
  waits = goes.waits;
  led = λ live. record {
    key = does.sync_grant.key;
    is = current;
    leader = (inv.synced does.hears.number does.sync_grant does.hears.is).leader ∙ does.hears.member;
  };
  log = λ live. does.log;
  overlaps =
      λ key live is. subst (λ (r : Confirmers). Overlaps s.member_count key.standbys key.quorum r) (sym does.required)
      (subst (λ (k : SyncKey). Overlaps s.member_count k.standbys k.quorum Nobody)
      (some-is does.sync_grant.key key (sym current ∙ is))
      (omega (arith, count-empty s.member_count does.sync_grant.key.standbys does.claim)));
  lives = λ w. absurd (not-false (s.members m).live (inv.servers.parted m ready) (inv.servers.lives m w));
  parted = λ r. absurd (not-false input.agent.ready does.ready r);
  noted = λ leads live.
      inr (subst (λ (r : Confirmers). Meets s.member_count r (IsComplete s.acknowledged_log s.members))
      (sym does.required) tt);
  turn = was-turn s m was input.agent.turn inv goes.was_is does.turn.turn;
  turn_kept = was-turned s m input was inv goes does.turn;
  behind = λ key live is n named.
      absurd (not-false (key.standbys n)
      (ap (λ (k : SyncKey). k.standbys n) (some-is key does.sync_grant.key (sym is ∙ current)) ∙ does.claim n) named);
  rises = λ live. inr (record {
    i = does.hears.number;
    sync_grant = does.sync_grant;
    at = does.hears.is;
    key = current;
    waits = sync-waits s m input was does.sync_grant goes.was_is does.hears;
    acts = subst (λ (n : ℕ). Acts (s.members n)) (sym does.hears.member) (inr ready);
    ready = subst (λ (n : ℕ). is_ready (s.members n).agent ≡ true) (sym does.hears.member) ready;
  });
  sole = λ n an ay. inv.servers.sole n m an (inr ready);
  still = λ sequence le waits ay. inr ready;
  alone = λ i w at is ay. (inv.asked i w at).alone is m (inr ready);
  readied = λ sequence le waits r. absurd (not-false input.agent.ready does.ready r);
  creates = λ i w at mine is read.
      absurd (sync-none s m input was does.sync_grant inv goes.was_is does.hears (inr ready) i w at mine read);
  aim = λ i w at mine is read.
      absurd (sync-none s m input was does.sync_grant inv goes.was_is does.hears (inr ready) i w at mine read);
}
  where
    ready : is_ready (s.members m).agent ≡ true
    ready = was-ready s m was goes.was_is does.was_ready

    current : s.sync ≡ Some does.sync_grant.key
    current = sync-current s m input was does.sync_grant inv goes.was_is does.hears
        (inr (was-ready s m was goes.was_is does.was_ready))

pub sent-waits : (m : ℕ) (input : AgentInput) (was : Agent) (w : SyncRequest) → Sends m input was w
    → (sequence : ℕ) → sequence ≤ was.last → input.agent.waits ≡ Some sequence → ⊥
sent-waits m input was w sends sequence le waits =
    omega (arith, sends.later, some-is w.sequence sequence (sym sends.waits ∙ waits), le)

pub arms-kept : (s : State) (m : ℕ) (input : AgentInput) (was : Agent) → IsSound s → Goes s m input was
    → (does : Arms s m input was) → ArmsAlone s m does.grant.revision → IsMachineKept s m input was
arms-kept s m input was inv goes does given = record {
  was_is = goes.was_is;
  incarnation = goes.incarnation;
  last = goes.last;
  waits = goes.waits;
  led = λ live. absurd (not-false input.live not_live live);
  log = λ live. absurd (not-false input.live not_live live);
  overlaps = λ key live is. absurd (not-false input.live not_live live);
  lives = λ w. absurd (not-false (s.members m).live does.not_live (inv.servers.lives m w));
  parted = λ r. not_live;
  noted = λ leads live. absurd (not-false input.live not_live live);
  turn = was-turn s m was input.agent.turn inv goes.was_is does.turn.turn;
  turn_kept = was-turned s m input was inv goes does.turn;
  behind = λ key live. absurd (not-false input.live not_live live);
  rises = λ live. absurd (not-false input.live not_live live);
  sole = λ n an ay. given.alone n an;
  still = λ sequence le waits ay. absurd (sent-waits m input was does.request does.sends sequence le waits);
  alone = λ i w at is ay.
      absurd ((inv.leased does.hears.number does.grant does.hears.is).fresh i
      w at (some-is w.leader does.grant.revision (sym is ∙ given.present)));
  readied = λ sequence le waits r. absurd (sent-waits m input was does.request does.sends sequence le waits);
  creates = λ i w at mine is read. not_live;
  aim = λ i w at mine is read. aim-not-live s m input.live input.required w.aim not_live;
}
  where
    not_live : input.live ≡ false
    not_live = does.keeps.live ∙ does.not_live

pub publishes-kept : (s : State) (m : ℕ) (input : AgentInput) (was : Agent) → IsSound s → Goes s m input was
    → Publishes s m input was → IsMachineKept s m input was
publishes-kept s m input was inv goes does =
    steady s m input was inv goes does.keeps does.ready
    (was-turn s m was input.agent.turn inv goes.was_is does.turn.turn) (was-turned s m input was inv goes does.turn)
    (was-noted s m was input.agent inv goes.was_is (λ e. does.led) does.noted)
