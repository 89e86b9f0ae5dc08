-- Messages in flight: what is known of them where some are lost.
use Rattle.std.proofs.Common.{◌≡◌, ℕ, ◌≤◌, List, Option, Some, None, arith}
use Rattle.event_book.specs.Functions.{put_at}
use Rattle.commit_actions.specs.Keys.{SyncKey}
use Rattle.commit_actions.specs.Flights.{SyncRequest, LeaseGrant, SyncGrant, RaceAnswer, Flying, Requested, LeaseGranted, SyncGranted, SnapshotSent, RaceAnswered, SnapshotView}
use Rattle.wal_model.specs.declared.entry.Entry.{Entry}
use Rattle.commit_actions.specs.States.{Agent, Machine, State}
use Rattle.commit_actions.specs.Inputs.{IsUnled}
use Rattle.commit_actions.specs.Carried.{IsRead, IsTurnKept, IsLeaseGrantKept, IsSyncGrantKept, IsSound, IsSnapshotKept}
use Rattle.lease_model.proofs.Tools.{dropped}

pub answered-is : (a b : RaceAnswer) → ◌≡◌ {A = Option Flying} (Some (RaceAnswered a)) (Some (RaceAnswered b)) → a ≡ b
answered-is a b e = cc

pub lease-grant-is : (g h : LeaseGrant)
    → ◌≡◌ {A = Option Flying} (Some (LeaseGranted g)) (Some (LeaseGranted h)) → g ≡ h
lease-grant-is g h e = cc

pub sync-grant-is : (a b : SyncGrant) → ◌≡◌ {A = Option Flying} (Some (SyncGranted a)) (Some (SyncGranted b)) → a ≡ b
sync-grant-is a b e = cc

pub requested-is : (a b : SyncRequest) → ◌≡◌ {A = Option Flying} (Some (Requested a)) (Some (Requested b)) → a ≡ b
requested-is a b e = cc

pub snapshot-is : (a b : SnapshotView) → ◌≡◌ {A = Option Flying} (Some (SnapshotSent a)) (Some (SnapshotSent b)) → a ≡ b
snapshot-is a b e = cc

pub unled-flight : (flight flight' : ℕ → Option Flying) (members : ℕ → Machine) (revision : ℕ)
    → ((i : ℕ) (a : SyncGrant) → flight' i ≡ Some (SyncGranted a) → flight i ≡ Some (SyncGranted a))
    → IsUnled flight members revision → IsUnled flight' members revision
unled-flight flight flight' members revision synced q =
    record { live = q.live; pending = λ i a at. q.pending i a (synced i a at) }

pub snapshot-flight : (s : State) (flight : ℕ → Option Flying) (view : SnapshotView)
    → ((i : ℕ) (a : SyncGrant) → flight i ≡ Some (SyncGranted a) → s.flight i ≡ Some (SyncGranted a))
    → IsSnapshotKept s.creates_compare s.leader s.holder s.failsafe_revision s.holder_was_live s.sync
    s.revision s.flight s.members view
    → IsSnapshotKept s.creates_compare s.leader s.holder s.failsafe_revision s.holder_was_live s.sync
    s.revision flight s.members view
snapshot-flight s flight view synced v = record {
  read = v.read;
  unled = λ keyless key now k n e.
      unled-flight s.flight flight s.members key.revision synced (v.unled keyless key now k n e);
  listed = v.listed;
  not_live = λ leaderless creates_compare key now k n e. let d = v.not_live leaderless creates_compare key now k n e in
      record {
        holder_not_live = d.holder_not_live;
        was_not_live = d.was_not_live;
        nobody_ready = λ i a at. d.nobody_ready i a (synced i a at);
      };
}

-- what holds of an agent's turn is kept where no answer to it comes in flight
pub turn-flight : (member_count : ℕ) (acknowledged_log : List Entry) (sync : Option SyncKey)
    (flight flight' : ℕ → Option Flying) (members : ℕ → Machine) (m : ℕ) (agent : Agent)
    → ((i : ℕ) (a : SyncGrant) → flight' i ≡ Some (SyncGranted a) → flight i ≡ Some (SyncGranted a))
    → ((i : ℕ) (r : RaceAnswer) → flight' i ≡ Some (RaceAnswered r) → flight i ≡ Some (RaceAnswered r))
    → IsTurnKept member_count acknowledged_log sync flight members m agent
    → IsTurnKept member_count acknowledged_log sync flight' members m agent
turn-flight member_count acknowledged_log sync flight flight' members m agent synced replied t = record {
  race = λ race key now r k n e. let old = t.race race key now r k n e in record {
    unled = unled-flight flight flight' members key.revision synced old.unled;
    spared = old.spared;
    few = old.few;
    complete = old.complete;
    heard = old.heard;
    coming = λ i x at. old.coming i x (replied i x at);
  };
  counted = t.counted;
  won = λ key now w k n e. let old = t.won key now w k n e in record {
    unled = unled-flight flight flight' members key.revision synced old.unled;
    named = old.named;
    complete = old.complete;
  };
}

-- a grant in flight is kept where no request and no grant comes in flight
pub lease-grant-flight : (s : State) (flight : ℕ → Option Flying) (i : ℕ) (g : LeaseGrant)
    → ((j : ℕ) (w : SyncRequest) → flight j ≡ Some (Requested w) → s.flight j ≡ Some (Requested w))
    → ((j : ℕ) (h : LeaseGrant) → flight j ≡ Some (LeaseGranted h) → s.flight j ≡ Some (LeaseGranted h))
    → IsLeaseGrantKept s i g → IsLeaseGrantKept (record s { flight = flight }) i g
lease-grant-flight s flight i g requested leased old = record {
  numbered = old.numbered;
  given = old.given;
  bound = old.bound;
  read = old.read;
  passed = old.passed;
  fresh = λ j w e. old.fresh j w (requested j w e);
  single = λ j h e. old.single j h (leased j h e);
  older = λ x j w e. old.older x j w (requested j w e);
  current = old.current;
}

pub sync-grant-flight : (s : State) (flight : ℕ → Option Flying) (a : SyncGrant)
    → ((j : ℕ) (w : SyncRequest) → flight j ≡ Some (Requested w) → s.flight j ≡ Some (Requested w))
    → IsSyncGrantKept s a → IsSyncGrantKept (record s { flight = flight }) a
sync-grant-flight s flight a requested old = record {
  numbered = old.numbered;
  leader = old.leader;
  bound = old.bound;
  current = old.current;
  last = λ x j w e. old.last x j w (requested j w e);
}

-- messages are lost
pub inv-fewer : (s : State) (flight : ℕ → Option Flying)
    → ((i : ℕ) (x : Flying) → flight i ≡ Some x → s.flight i ≡ Some x) → IsSound s
    → IsSound (record s { flight = flight })
inv-fewer s flight fewer inv = record {
  sync_bound = inv.sync_bound;
  leader_bound = inv.leader_bound;
  leader_given = inv.leader_given;
  servers = inv.servers;
  asked = λ i w at. let old = inv.asked i w (fewer i (Requested w) at) in record {
    numbered = old.numbered;
    leader_bound = old.leader_bound;
    sync_bound = old.sync_bound;
    alone = old.alone;
    creates = old.creates;
    aim = old.aim;
  };
  leased = λ i g at. lease-grant-flight s flight i g (λ j w. fewer j (Requested w))
      (λ j h. fewer j (LeaseGranted h)) (inv.leased i g (fewer i (LeaseGranted g) at));
  synced = λ i a at.
      sync-grant-flight s flight a (λ j w. fewer j (Requested w)) (inv.synced i a (fewer i (SyncGranted a) at));
  shown = λ i k at. snapshot-flight s flight k (λ j a at'. fewer j (SyncGranted a) at')
      (inv.shown i k (fewer i (SnapshotSent k) at));
  replied = λ i r at. inv.replied i r (fewer i (RaceAnswered r) at);
  kept = λ n g is. let old = inv.kept n g is in record {
    incarnation = old.incarnation;
    turn = old.turn;
    noted = old.noted;
    turn_kept = turn-flight s.member_count s.acknowledged_log s.sync s.flight flight s.members n g
        (λ i a at. fewer i (SyncGranted a) at) (λ i r at. fewer i (RaceAnswered r) at) old.turn_kept;
  };
}

pub inv-lose : (s : State) (i : ℕ) → IsSound s → IsSound (record s { flight = put_at s.flight i None })
inv-lose s i inv = inv-fewer s (put_at s.flight i None) (dropped s.flight i) inv

pub read-onward : (sync : Option SyncKey) (revision revision' : ℕ) (read : Option SyncKey) → revision ≤ revision'
    → IsRead sync revision read → IsRead sync revision' read
read-onward sync revision revision' read le r = λ key is. let v = r key is in
    record { bound = omega (arith, v.bound, le); same = v.same }
