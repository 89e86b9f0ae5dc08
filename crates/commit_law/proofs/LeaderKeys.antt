-- What the key store decides on the leader key.
use Rattle.std.proofs.Common.{◌≡◌, ◌⊎◌, ℕ, ◌+◌, ◌≤◌, ◌<◌, Bool, true, false, Option, Some, None, refl, ◌∙◌, ap, sym, subst, arith, inl, inr}
use Rattle.event_book.specs.Functions.{put_at}
use Rattle.commit_actions.specs.Flights.{SyncRequest, LeaseGrant, SyncGrant, RaceAnswer, Requested, LeaseGranted, SyncGranted, SnapshotSent, RaceAnswered, SnapshotView, CreateLeader}
use Rattle.commit_actions.specs.States.{State}
use Rattle.commit_actions.specs.Actions.{Create, Renew, act, MayRenew, lease_grant_by, failsafe_revision_if, IsNumbered, with_leader_created}
use Rattle.commit_actions.specs.Carried.{IsAsRead, IsLeaseGrantKept, IsSound, HolderIsNotLive}
use Rattle.lease_model.proofs.Tools.{some-is, none-some, not-false, put-all}
use Rattle.commit_actions.proofs.Tools.{stood}
use Rattle.commit_law.proofs.Flights.{inv-lose, lease-grant-is, read-onward, snapshot-flight, sync-grant-flight, turn-flight}

-- the leader key goes, or gets a new revision; revisions grow
inv-onward : (s : State) (leader : Option ℕ) (holder : ℕ) (holder_was_live : Bool) (revision : ℕ)
    → s.revision ≤ revision → ((r : ℕ) → leader ≡ Some r → (s.leader ≡ Some r) ⊎ ((s.revision < r) × (r ≤ revision)))
    → ((r : ℕ) → leader ≡ Some r → s.creates_compare ≡ true →
    ((q : ℕ) × (s.leader ≡ Some q) × (holder ≡ s.holder) × (holder_was_live ≡ s.holder_was_live)) ⊎
    (((s.members holder).live ≡ false) × (holder_was_live ≡ false)))
    → IsSound s
    → IsSound (record s { leader = leader; holder = holder; holder_was_live = holder_was_live; revision = revision })
inv-onward s leader holder holder_was_live revision le after not_live inv = record {
  sync_bound = λ key is. omega (arith, inv.sync_bound key is, le);
  leader_bound = λ r is. elim (after r is) [ inl e ↦ omega (arith, inv.leader_bound r e, le) | inr e ↦ e.1 ];
  leader_given = λ r is. elim (after r is) [ inl e ↦ inv.leader_given r e | inr e ↦ omega (arith, e.0) ];
  servers = inv.servers;
  asked = λ i w at. let old = inv.asked i w at in record {
    numbered = old.numbered;
    leader_bound = omega (arith, old.leader_bound, le);
    sync_bound = λ r is. omega (arith, old.sync_bound r is, le);
    creates = old.creates;
    alone = λ is n an.
        elim (after w.leader is) [ inl e ↦ old.alone e n an | inr e ↦ absurd (omega (arith, e.0, old.leader_bound)) ];
    aim = λ is read.
        elim (after w.leader is) [ inl e ↦ old.aim e read | inr e ↦ absurd (omega (arith, e.0, old.leader_bound)) ];
  };
  leased = λ i g at. let old = inv.leased i g at in record {
    numbered = old.numbered;
    given = old.given;
    bound = omega (arith, old.bound, le);
    read = read-onward s.sync s.revision revision g.sync le old.read;
    passed = λ r is. elim (after r is) [ inl e ↦ old.passed r e | inr e ↦ omega (arith, e.0, old.bound) ];
    fresh = old.fresh;
    single = old.single;
    older = old.older;
    current = old.current;
  };
  synced = λ i a at. let old = inv.synced i a at in record {
    numbered = old.numbered;
    leader = old.leader;
    bound = omega (arith, old.bound, le);
    current = old.current;
    last = old.last;
  };
  shown = λ i k at. let old = inv.shown i k at in record {
    read = read-onward s.sync s.revision revision k.sync le old.read;
    unled = old.unled;
    listed = old.listed;
    not_live = λ leaderless creates_compare key now k_is n e. let d =
        old.not_live leaderless creates_compare key now k_is n e in record {
          holder_not_live = λ r is. elim (not_live r is creates_compare) [
            | inl same ↦ ap (λ (h : ℕ). (s.members h).live) same.2 ∙ d.holder_not_live same.0 same.1
            | inr gone ↦ gone.0
          ];
          was_not_live = λ r is. elim (not_live r is creates_compare) [
            | inl same ↦ same.3 ∙ d.was_not_live same.0 same.1
            | inr gone ↦ gone.1
          ];
          nobody_ready = d.nobody_ready;
        };
  };
  replied = inv.replied;
  kept = λ n g is. let old = inv.kept n g is in record {
    incarnation = old.incarnation;
    turn = read-onward s.sync s.revision revision g.turn le old.turn;
    turn_kept = old.turn_kept;
    noted = old.noted;
  };
}

pub inv-drop : (s : State) → IsSound s → IsSound (record s { leader = None; holder = 0 })
inv-drop s inv = inv-onward s None 0 s.holder_was_live s.revision (omega arith)
    (λ r is. absurd (none-some r is)) (λ r is. absurd (none-some r is)) inv

pub inv-release : (s : State) → IsSound s → IsSound (record s { leader = None; holder = 0; revision = s.revision + 1 })
inv-release s inv = inv-onward s None 0 s.holder_was_live (s.revision + 1) (omega arith)
    (λ r is. absurd (none-some r is)) (λ r is. absurd (none-some r is)) inv

pub inv-other : (s : State) → IsSound s → IsSound (record s { revision = s.revision + 1 })
inv-other s inv = inv-onward s s.leader s.holder s.holder_was_live (s.revision + 1) (omega arith)
    (λ r is. inl is) (λ r is creates_compare. inl (r, is, refl, refl)) inv

-- what no fact but those of a snapshot speaks of
pub inv-aside : (s : State) (failsafe_revision : Option ℕ) (holder_was_live : Bool) → IsSound s
    → (s.creates_compare ≡ true → (revision : ℕ) →
    HolderIsNotLive s.flight s.members s.leader s.holder s.holder_was_live revision → ⊥)
    → IsSound (record s { failsafe_revision = failsafe_revision; holder_was_live = holder_was_live })
inv-aside s failsafe_revision holder_was_live inv can = record {
  sync_bound = inv.sync_bound;
  leader_bound = inv.leader_bound;
  leader_given = inv.leader_given;
  servers = inv.servers;
  asked = λ i w at. inv.asked i w at;
  leased = λ i g at. let old = inv.leased i g at in record {
    numbered = old.numbered;
    given = old.given;
    bound = old.bound;
    read = old.read;
    passed = old.passed;
    fresh = old.fresh;
    single = old.single;
    older = old.older;
    current = old.current;
  };
  synced = λ i a at. let old = inv.synced i a at in record {
    numbered = old.numbered;
    leader = old.leader;
    bound = old.bound;
    current = old.current;
    last = old.last;
  };
  shown = λ i k at. let old = inv.shown i k at in record {
    read = old.read;
    unled = old.unled;
    not_live = λ leaderless creates_compare key now k_is n e.
        absurd (can creates_compare key.revision (old.not_live leaderless creates_compare key now k_is n e));
    listed = λ leaderless creates_compare key now k_is n e.
        absurd (can creates_compare key.revision (old.not_live leaderless creates_compare key now k_is n e));
  };
  replied = inv.replied;
  kept = λ n g is. let old = inv.kept n g is in
      record { incarnation = old.incarnation; turn = old.turn; turn_kept = old.turn_kept; noted = old.noted };
}

-- a new grant is on its way
inv-lease-grant : (s : State) (number : ℕ) (g : LeaseGrant) → 1 ≤ g.revision
    → IsNumbered (s.members g.member) g.incarnation g.sequence → g.revision ≤ s.revision → s.sync ≡ g.sync
    → s.leader ≡ Some g.revision → ((j : ℕ) (w : SyncRequest) → s.flight j ≡ Some (Requested w) → w.leader < g.revision)
    → ((j : ℕ) (h : LeaseGrant) → s.flight j ≡ Some (LeaseGranted h) → h.revision < g.revision) → IsSound s
    → IsSound (record s { flight = put_at s.flight number (Some (LeaseGranted g)) })
inv-lease-grant s number g given numbered bound sync leader older newest inv = record {
  sync_bound = inv.sync_bound;
  leader_bound = inv.leader_bound;
  leader_given = inv.leader_given;
  servers = inv.servers;
  asked = λ i w at. inv.asked i w (writing i w at);
  leased = put-all s.flight number (Some (LeaseGranted g))
      (λ i o. (h : LeaseGrant) → o ≡ Some (LeaseGranted h) →
      IsLeaseGrantKept (record s { flight = put_at s.flight number (Some (LeaseGranted g)) }) i h)
      (λ h e. subst (λ (x : LeaseGrant). IsLeaseGrantKept (record s {
        flight = put_at s.flight number (Some (LeaseGranted g));
      }) number x) (lease-grant-is g h e) (record {
        numbered = numbered;
        given = given;
        bound = bound;
        read = λ key is. record {
          bound = inv.sync_bound key (sync ∙ is);
          same = λ k k_is same. some-is k key (sym k_is ∙ sync ∙ is);
        };
        passed = λ r is. omega (arith, some-is g.revision r (sym leader ∙ is));
        fresh = λ j w at same. omega (arith, older j w (writing j w at), same);
        single = put-all s.flight number (Some (LeaseGranted g))
            (λ j o. (h : LeaseGrant) → o ≡ Some (LeaseGranted h) → h.revision ≡ g.revision → j ≡ number)
            (λ h e same. refl) (λ j other h e same. absurd (omega (arith, newest j h e, same)));
        older = λ x j w at mine. older j w (writing j w at);
        current = λ x acts. sync;
      }))
      (λ i other h e. let old = inv.leased i h e in record {
        numbered = old.numbered;
        given = old.given;
        bound = old.bound;
        read = old.read;
        passed = old.passed;
        fresh = λ j w at. old.fresh j w (writing j w at);
        single = put-all s.flight number (Some (LeaseGranted g))
            (λ j o. (x : LeaseGrant) → o ≡ Some (LeaseGranted x) → x.revision ≡ h.revision → j ≡ i)
            (λ x e' same.
            absurd (omega (arith, newest i h e, same, ap (λ (y : LeaseGrant). y.revision) (lease-grant-is g x e'))))
            (λ j other' x e' same. old.single j x e' same);
        older = λ x j w at. old.older x j w (writing j w at);
        current = old.current;
      });
  synced = λ i a at.
      sync-grant-flight s (put_at s.flight number (Some (LeaseGranted g))) a writing (inv.synced i a (synced i a at));
  shown = λ i k at.
      snapshot-flight s (put_at s.flight number (Some (LeaseGranted g))) k synced (inv.shown i k (shown i k at));
  replied = λ i r at. inv.replied i r (replied i r at);
  kept = λ n x is. let old = inv.kept n x is in record {
    incarnation = old.incarnation;
    turn = old.turn;
    noted = old.noted;
    turn_kept = turn-flight s.member_count s.acknowledged_log s.sync s.flight
        (put_at s.flight number (Some (LeaseGranted g))) s.members n x synced replied old.turn_kept;
  };
}
  where
    replied : (i : ℕ) (r : RaceAnswer) → put_at s.flight number (Some (LeaseGranted g)) i ≡ Some (RaceAnswered r)
        → s.flight i ≡ Some (RaceAnswered r)
    replied i r = stood s.flight number (LeaseGranted g) (RaceAnswered r) (λ e. cc) i

    writing : (i : ℕ) (w : SyncRequest) → put_at s.flight number (Some (LeaseGranted g)) i ≡ Some (Requested w)
        → s.flight i ≡ Some (Requested w)
    writing i w = stood s.flight number (LeaseGranted g) (Requested w) (λ e. cc) i

    synced : (i : ℕ) (a : SyncGrant) → put_at s.flight number (Some (LeaseGranted g)) i ≡ Some (SyncGranted a)
        → s.flight i ≡ Some (SyncGranted a)
    synced i a = stood s.flight number (LeaseGranted g) (SyncGranted a) (λ e. cc) i

    shown : (i : ℕ) (k : SnapshotView) → put_at s.flight number (Some (LeaseGranted g)) i ≡ Some (SnapshotSent k)
        → s.flight i ≡ Some (SnapshotSent k)
    shown i k = stood s.flight number (LeaseGranted g) (SnapshotSent k) (λ e. cc) i

-- the leader key is created by a request that compares no sync key
pub inv-create : (s : State) (m incarnation sequence number : ℕ) → IsSound s
    → IsNumbered (s.members m) incarnation sequence × (s.creates_compare ≡ false)
    → IsSound (act s (Create m incarnation sequence number))
inv-create s m incarnation sequence number inv can =
    inv-lease-grant
    (record s { leader = Some (s.revision + 1); holder = m; holder_was_live = false; revision = s.revision + 1 }) number
    (lease_grant_by s m incarnation sequence) (omega arith) can.0 (omega arith) refl refl
    (λ j w at. omega (arith, (inv.asked j w at).leader_bound))
    (λ j h at. omega (arith, (inv.leased j h at).bound))
    (inv-onward s (Some (s.revision + 1)) m false (s.revision + 1) (omega arith)
    (λ r is. inr (omega (arith, some-is (s.revision + 1) r is), omega (arith, some-is (s.revision + 1) r is)))
    (λ r is creates_compare. absurd (not-false s.creates_compare can.1 creates_compare)) inv)

-- the leader key is renewed, and the failsafe key written with it by who has been live under it
inv-carried : (s : State) (carries : Bool) (r : ℕ) → IsSound s → MayRenew s carries
    → IsSound (record s { failsafe_revision = failsafe_revision_if carries r s.failsafe_revision })
inv-carried s false r inv may = inv
inv-carried s true r inv may = inv-aside s (Some r) s.holder_was_live inv
    (λ creates_compare revision d. let l = may.leader creates_compare in
    not-false s.holder_was_live (d.was_not_live l.0 l.1) (may.holder_was_live creates_compare refl))

pub inv-renew : (s : State) (m incarnation sequence number : ℕ) (carries : Bool) → IsSound s
    → IsNumbered (s.members m) incarnation sequence × MayRenew s carries
    → IsSound (act s (Renew m incarnation sequence number carries))
inv-renew s m incarnation sequence number carries inv can =
    let failsafe_revision : Option ℕ = failsafe_revision_if carries (s.revision + 1) s.failsafe_revision in
    let listed : IsSound (record s { failsafe_revision = failsafe_revision }) =
    inv-carried s carries (s.revision + 1) inv can.1 in
    inv-lease-grant (record s {
      leader = Some (s.revision + 1);
      failsafe_revision = failsafe_revision;
      revision = s.revision + 1;
    }) number (lease_grant_by s m incarnation sequence) (omega arith) can.0 (omega arith) refl refl
    (λ j w at. omega (arith, (inv.asked j w at).leader_bound))
    (λ j h at. omega (arith, (inv.leased j h at).bound))
    (inv-onward (record s { failsafe_revision = failsafe_revision })
    (Some (s.revision + 1)) s.holder s.holder_was_live (s.revision + 1) (omega arith)
    (λ r is. inr (omega (arith, some-is (s.revision + 1) r is), omega (arith, some-is (s.revision + 1) r is)))
    (λ r is creates_compare. let l = can.1.leader creates_compare in inl (l.0, l.1, refl, refl)) listed)

-- the leader key is created
pub taken-inv : (s : State) (i j : ℕ) (w : SyncRequest) → IsSound s → s.flight i ≡ Some (Requested w)
    → w.aim ≡ CreateLeader → IsAsRead s.sync w.sync → IsSound (with_leader_created s i j w)
taken-inv s i j w inv at aim read =
    let old = inv.asked i w at in
    let gone : IsSound (record s { flight = put_at s.flight i None }) = inv-lose s i inv in
    inv-lease-grant (record s {
      leader = Some (s.revision + 1);
      holder = w.member;
      holder_was_live = false;
      revision = s.revision + 1;
      flight = put_at s.flight i None;
    }) j (lease_grant_by s w.member w.incarnation w.sequence) (omega arith) old.numbered (omega arith) refl refl
    (λ k v v_at. omega (arith, (gone.asked k v v_at).leader_bound))
    (λ k h h_at. omega (arith, (gone.leased k h h_at).bound))
    (inv-onward (record s { flight = put_at s.flight i None }) (Some (s.revision + 1)) w.member false
    (s.revision + 1) (omega arith)
    (λ r is. inr (omega (arith, some-is (s.revision + 1) r is), omega (arith, some-is (s.revision + 1) r is)))
    (λ r is creates_compare. inr (old.creates aim read, refl)) gone)
