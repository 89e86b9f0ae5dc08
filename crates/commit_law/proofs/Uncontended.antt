-- Actions in which nobody comes to act, and nothing more is acknowledged.
use Rattle.std.proofs.Common.{◌≡◌, ◌⊎◌, ℕ, ◌≤◌, ◌<◌, Bool, true, false, List, Option, Some, None, refl, ◌∙◌, sym, subst, arith, inl, inr}
use Rattle.wal_model.specs.declared.entry.Entry.{Entry}
use Rattle.event_book.specs.Functions.{put_at}
use Rattle.commit_actions.specs.Keys.{SyncKey, Confirmers, Meets, Overlaps}
use Rattle.commit_actions.specs.Flights.{Aim, ClaimSync, PublishStandbys, Flying, CreateLeader}
use Rattle.commit_actions.specs.States.{Agent, Machine, State, is_ready, Acts, Includes, HasLog, IsUndiverged, IsBehind, HaveBytes, Waits}
use Rattle.commit_actions.specs.Inputs.{IsUnled}
use Rattle.commit_actions.specs.Actions.{IsNumbered}
use Rattle.commit_actions.specs.Carried.{IsComplete, IsSyncKeyKept, IsConfirmed, AreNear, IsAimKept, IsTurnKept, IsSound}
use Rattle.lease_model.proofs.Tools.{none-some, not-false, put-all}
use Rattle.commit_actions.proofs.Counting.{but-sub, meets-sub}

-- an agent that has just started
pub record NewRun (x y : Machine) (agent : Agent) : Type 0 where
  pub later : x.runs < agent.incarnation
  pub known : agent.incarnation ≤ y.runs
  pub waits : agent.waits ≡ None
  pub turn : agent.turn ≡ None
  pub race : agent.race ≡ None
  pub leads : agent.leads ≡ false

-- what becomes of a machine: it doesn't come to act
pub record NobodyActsAnew (acknowledged_log : List Entry) (x y : Machine) : Type 0 where
  pub live : y.live ≡ true → x.live ≡ true
  pub lives : y.writes ≡ true → y.live ≡ true
  pub ready : is_ready y.agent ≡ true → is_ready x.agent ≡ true
  pub required : x.required ≡ y.required
  pub complete : Includes acknowledged_log x.log → Includes acknowledged_log y.log
  pub undiverged : IsUndiverged acknowledged_log x.log → IsUndiverged acknowledged_log y.log
  pub log : y.live ≡ true → HasLog y.log
  pub have_bytes : (log : List Entry) → y.log ≡ Some log → HaveBytes log
  pub runs : x.runs ≤ y.runs
  pub agent : (g : Agent) → y.agent ≡ Some g → (x.agent ≡ Some g) ⊎ NewRun x y g

acts-uncontended : (acknowledged_log : List Entry) (x y : Machine) → NobodyActsAnew acknowledged_log x y
    → Acts y → Acts x
acts-uncontended acknowledged_log x y c (inl e) = inl (c.live e)
acts-uncontended acknowledged_log x y c (inr e) = inr (c.ready e)

numbered-uncontended : (acknowledged_log : List Entry) (x y : Machine) (incarnation sequence : ℕ)
    → NobodyActsAnew acknowledged_log x y → IsNumbered x incarnation sequence → IsNumbered y incarnation sequence
numbered-uncontended acknowledged_log x y incarnation sequence c n = record {
  run_old = omega (arith, n.run_old, c.runs);
  sequence_old = λ g is same. elim (c.agent g is) [
    | inl p ↦ n.sequence_old g p same
    | inr p ↦ absurd (omega (arith, p.later, same, n.run_old))
  ];
}

waits-uncontended : (acknowledged_log : List Entry) (x y : Machine) (incarnation sequence : ℕ)
    → NobodyActsAnew acknowledged_log x y → Waits y incarnation sequence → Waits x incarnation sequence
waits-uncontended acknowledged_log x y incarnation sequence c w = elim (c.agent w.agent w.is) [
  | inl p ↦ record { agent = w.agent; is = p; run_is = w.run_is; waits = w.waits }
  | inr p ↦ absurd (none-some sequence (sym p.waits ∙ w.waits))
]

pub key-sub : (member_count : ℕ) (acknowledged_log acknowledged_log' : List Entry)
    (members members' : ℕ → Machine) (sync : Option SyncKey)
    → ((n : ℕ) → IsComplete acknowledged_log members n → IsComplete acknowledged_log' members' n)
    → ((n : ℕ) → (members' n).live ≡ true → (members n).live ≡ true)
    → IsSyncKeyKept member_count acknowledged_log members sync
    → IsSyncKeyKept member_count acknowledged_log' members' sync
key-sub member_count acknowledged_log acknowledged_log' members members' None complete live k =
    (λ n. complete n (k.0 n), λ n is. k.1 n (live n is))
key-sub member_count acknowledged_log acknowledged_log' members members' (Some key) complete live k = (
  complete key.leader k.0,
  but-sub member_count key.standbys key.quorum (IsComplete acknowledged_log members)
      (IsComplete acknowledged_log' members') complete k.1,
)

-- logs stay behind others
abbrev pub StayBehind : (ℕ → Machine) → (ℕ → Machine) → Type 0
StayBehind members members' = (m n : ℕ) → (members' m).live ≡ true → IsBehind (members m).log (members n).log
    → IsBehind (members' m).log (members' n).log

undiverged-uncontended : (acknowledged_log : List Entry) (members members' : ℕ → Machine) (m : ℕ) (standbys : ℕ → Bool)
    → ((n : ℕ) → NobodyActsAnew acknowledged_log (members n) (members' n)) → StayBehind members members'
    → AreNear acknowledged_log members m standbys → AreNear acknowledged_log members' m standbys
undiverged-uncontended acknowledged_log members members' m standbys uncontended behind a = record {
  undiverged = λ n is. (uncontended n).undiverged (a.undiverged n is);
  behind = λ live n is. behind m n live (a.behind ((uncontended m).live live) n is);
}

unled-uncontended : (acknowledged_log : List Entry) (flight : ℕ → Option Flying) (members members' : ℕ → Machine)
    (revision : ℕ) → ((n : ℕ) → NobodyActsAnew acknowledged_log (members n) (members' n))
    → IsUnled flight members revision → IsUnled flight members' revision
unled-uncontended acknowledged_log flight members members' revision uncontended q = record {
  live = λ n live. q.live n ((uncontended n).live live);
  pending = λ i a at same waits acts. q.pending i a at same
      (waits-uncontended acknowledged_log (members a.member) (members' a.member) a.incarnation a.sequence
      (uncontended a.member) waits)
      (acts-uncontended acknowledged_log (members a.member) (members' a.member) (uncontended a.member) acts);
}

turn-uncontended : (member_count : ℕ) (acknowledged_log : List Entry) (sync : Option SyncKey)
    (flight : ℕ → Option Flying) (members members' : ℕ → Machine) (m : ℕ) (agent : Agent)
    → ((n : ℕ) → NobodyActsAnew acknowledged_log (members n) (members' n))
    → IsTurnKept member_count acknowledged_log sync flight members m agent
    → IsTurnKept member_count acknowledged_log sync flight members' m agent
turn-uncontended member_count acknowledged_log sync flight members members' m agent uncontended t = record {
  race = λ race key now r k n e. let old = t.race race key now r k n e in record {
    unled = unled-uncontended acknowledged_log flight members members' key.revision uncontended old.unled;
    spared = old.spared;
    few = old.few;
    complete = λ i is other. (uncontended i).complete (old.complete i is other);
    heard = old.heard;
    coming = old.coming;
  };
  counted = t.counted;
  won = λ key now w k n e. let old = t.won key now w k n e in record {
    unled = unled-uncontended acknowledged_log flight members members' key.revision uncontended old.unled;
    named = old.named;
    complete = (uncontended m).complete old.complete;
  };
}

aim-uncontended : (member_count : ℕ) (acknowledged_log : List Entry) (members members' : ℕ → Machine)
    (sync : Option SyncKey) (m : ℕ) (aim : Aim) → ((n : ℕ) → NobodyActsAnew acknowledged_log (members n) (members' n))
    → StayBehind members members' → IsAimKept member_count acknowledged_log members sync m aim
    → IsAimKept member_count acknowledged_log members' sync m aim
aim-uncontended member_count acknowledged_log members members' sync m CreateLeader uncontended behind c = tt
aim-uncontended member_count acknowledged_log members members' sync m ClaimSync uncontended behind c =
    (not_live (members' m).live refl, (uncontended m).complete c.1, c.2)
  where
    not_live : (b : Bool) → (members' m).live ≡ b → (members' m).live ≡ false
    not_live true e = absurd (not-false (members m).live c.0 ((uncontended m).live e))
    not_live false e = e
aim-uncontended member_count acknowledged_log members members' sync m (PublishStandbys standbys quorum) uncontended
    behind c = (
      c.0,
      but-sub member_count standbys quorum (IsComplete acknowledged_log members)
          (IsComplete acknowledged_log members') (λ n. (uncontended n).complete) c.1,
      λ live. subst (λ (r : Confirmers). Overlaps member_count standbys quorum r) (uncontended m).required
          (c.2 ((uncontended m).live live)),
      undiverged-uncontended acknowledged_log members members' m standbys uncontended behind c.3,
    )

parted-at : (x y : Machine) (b : Bool) → y.live ≡ b → (y.live ≡ true → x.live ≡ true) → x.live ≡ false → y.live ≡ false
parted-at x y true e live p = absurd (not-false x.live p (live e))
parted-at x y false e live p = e

pub inv-uncontended : (s : State) (members : ℕ → Machine)
    → ((n : ℕ) → NobodyActsAnew s.acknowledged_log (s.members n) (members n))
    → ((m n end : ℕ) → (members m).writes ≡ true → (members m).confirmed n ≡ Some end →
    IsConfirmed (members m).log (members n).log end)
    → StayBehind s.members members → IsSound s → IsSound (record s { members = members })
inv-uncontended s members uncontended confirmed behind inv = record {
  sync_bound = inv.sync_bound;
  leader_bound = inv.leader_bound;
  leader_given = inv.leader_given;
  servers = record {
    key = key-sub s.member_count s.acknowledged_log s.acknowledged_log s.members members s.sync
        (λ n. (uncontended n).complete) (λ n. (uncontended n).live) inv.servers.key;
    led = λ m live. inv.servers.led m ((uncontended m).live live);
    log = λ m live. (uncontended m).log live;
    overlaps = λ m key live is. subst (λ (r : Confirmers). Overlaps s.member_count key.standbys key.quorum r)
        (uncontended m).required (inv.servers.overlaps m key ((uncontended m).live live) is);
    lives = λ m w. (uncontended m).lives w;
    undiverged = λ key is. undiverged-uncontended s.acknowledged_log s.members members key.leader key.standbys
        uncontended behind (inv.servers.undiverged key is);
    acknowledged_bytes = inv.servers.acknowledged_bytes;
    confirmed = confirmed;
    have_bytes = λ m log is. (uncontended m).have_bytes log is;
    sole = λ m n am an. inv.servers.sole m n (acts m am) (acts n an);
    parted = λ m ready. parted-at (s.members m) (members m) (members m).live refl (uncontended m).live
        (inv.servers.parted m ((uncontended m).ready ready));
    entered = inv.servers.entered;
  };
  asked = λ i w at. let old = inv.asked i w at in record {
    numbered = numbered w.member w.incarnation w.sequence old.numbered;
    leader_bound = old.leader_bound;
    sync_bound = old.sync_bound;
    alone = λ is n an. old.alone is n (acts n an);
    creates = λ is read. parted-at (s.members w.member) (members w.member) (members w.member).live refl
        (uncontended w.member).live (old.creates is read);
    aim = λ is read. aim-uncontended s.member_count s.acknowledged_log s.members members s.sync w.member w.aim
        uncontended behind (old.aim is read);
  };
  leased = λ i g at. let old = inv.leased i g at in record {
    numbered = numbered g.member g.incarnation g.sequence old.numbered;
    given = old.given;
    bound = old.bound;
    read = old.read;
    passed = old.passed;
    fresh = old.fresh;
    single = old.single;
    older = λ w. old.older (waits g.member g.incarnation g.sequence w);
    current = λ w a. old.current (waits g.member g.incarnation g.sequence w) (acts g.member a);
  };
  synced = λ i a at. let old = inv.synced i a at in record {
    numbered = numbered a.member a.incarnation a.sequence old.numbered;
    leader = old.leader;
    bound = old.bound;
    current = λ w c. old.current (waits a.member a.incarnation a.sequence w) (acts a.member c);
    last = λ w. old.last (waits a.member a.incarnation a.sequence w);
  };
  shown = λ i v at. let old = inv.shown i v at in record {
    read = old.read;
    unled = λ keyless key now k n e. unled-uncontended s.acknowledged_log s.flight s.members members
        key.revision uncontended (old.unled keyless key now k n e);
    listed = old.listed;
    not_live = λ leaderless creates_compare key now k n e. let d =
        old.not_live leaderless creates_compare key now k n e in record {
          was_not_live = d.was_not_live;
          holder_not_live = λ r is. parted-at (s.members s.holder) (members s.holder) (members s.holder).live refl
              (uncontended s.holder).live (d.holder_not_live r is);
          nobody_ready = λ j a at' same w ready.
              d.nobody_ready j a at' same (waits a.member a.incarnation a.sequence w)
              ((uncontended a.member).ready ready);
        };
  };
  replied = λ i r at. numbered r.member r.incarnation r.sequence (inv.replied i r at);
  kept = λ m g is. elim ((uncontended m).agent g is) [
    | inl p ↦ let old = inv.kept m g p in record {
      incarnation = omega (arith, old.incarnation, (uncontended m).runs);
      turn = old.turn;
      turn_kept = turn-uncontended s.member_count s.acknowledged_log s.sync s.flight s.members members m g
          uncontended old.turn_kept;
      noted = λ leads live. elim (old.noted leads ((uncontended m).live live)) [
        | inl le ↦ inl le
        | inr met ↦
            inr (subst (λ (r : Confirmers). Meets s.member_count r (IsComplete s.acknowledged_log members))
            (uncontended m).required
            (meets-sub s.member_count (s.members m).required (IsComplete s.acknowledged_log s.members)
            (IsComplete s.acknowledged_log members) (λ n. (uncontended n).complete) met))
      ];
    }
    | inr p ↦ record {
      incarnation = p.known;
      turn = λ key e. absurd (none-some key (sym p.turn ∙ e));
      turn_kept = record {
        race = λ race key now r k n e. absurd (none-some race (sym p.race ∙ r));
        counted = λ race r. absurd (none-some race (sym p.race ∙ r));
        won = λ key now w k n e. absurd (none-some key (sym p.turn ∙ k));
      };
      noted = λ leads live. absurd (not-false g.leads p.leads leads);
    }
  ];
}
  where
    acts : (n : ℕ) → Acts (members n) → Acts (s.members n)
    acts n = acts-uncontended s.acknowledged_log (s.members n) (members n) (uncontended n)

    numbered : (n incarnation sequence : ℕ) → IsNumbered (s.members n) incarnation sequence
        → IsNumbered (members n) incarnation sequence
    numbered n incarnation sequence =
        numbered-uncontended s.acknowledged_log (s.members n) (members n) incarnation sequence (uncontended n)

    waits : (n incarnation sequence : ℕ) → Waits (members n) incarnation sequence
        → Waits (s.members n) incarnation sequence
    waits n incarnation sequence =
        waits-uncontended s.acknowledged_log (s.members n) (members n) incarnation sequence (uncontended n)

-- a machine that stays as it is
pub same-uncontended : (s : State) (m : ℕ) → IsSound s → NobodyActsAnew s.acknowledged_log (s.members m) (s.members m)
same-uncontended s m inv = record {
  live = λ e. e;
  lives = inv.servers.lives m;
  ready = λ e. e;
  required = refl;
  complete = λ h. h;
  undiverged = λ h. h;
  log = inv.servers.log m;
  have_bytes = inv.servers.have_bytes m;
  runs = omega arith;
  agent = λ g is. inl is;
}

pub put-uncontended : (s : State) (m : ℕ) (y : Machine) → IsSound s → NobodyActsAnew s.acknowledged_log (s.members m) y
    → (n : ℕ) → NobodyActsAnew s.acknowledged_log (s.members n) (put_at s.members m y n)
put-uncontended s m y inv c = put-all s.members m y
    (λ n z. NobodyActsAnew s.acknowledged_log (s.members n) z) c (λ n other. same-uncontended s n inv)
