-- So does the write of the sync key, or the creation of the leader key, that it asks for.
use Rattle.std.proofs.Common.{◌≡◌, ◌⊎◌, ℕ, ◌≤◌, ◌<◌, true, false, List, Option, Some, None, refl, ◌∙◌, ap, sym, subst, arith, inl, inr}
use Rattle.wal_model.specs.declared.entry.Entry.{Entry}
use Rattle.wal_model.specs.Log.{end_of}
use Rattle.event_book.specs.Functions.{put_at}
use Rattle.commit_actions.specs.Functions.{forget}
use Rattle.commit_actions.specs.Keys.{SyncKey, AllBut, Overlaps}
use Rattle.commit_actions.specs.Flights.{SyncRequest, LeaseGrant, SyncGrant, RaceAnswer, Flying, Requested, LeaseGranted, SyncGranted, SnapshotSent, RaceAnswered, SnapshotView}
use Rattle.commit_actions.specs.States.{Agent, Machine, State, Acts, IsBehind, Reaches, Waits}
use Rattle.commit_actions.specs.Inputs.{Sending, AgentInput, sync_revision_of, HearsLeaseGrant, WinsByName, Sends, HasConfirmed, Arms, Publishes, ArmsAlone}
use Rattle.commit_actions.specs.Actions.{send, machine_after, IsNumbered}
use Rattle.commit_actions.specs.Carried.{IsComplete, IsSyncKeyKept, IsLed, IsRead, IsConfirmed, IsAsRead, AreNear, NamesMember, IsAimKept, IsRequestKept, IsSound}
use Rattle.lease_model.proofs.Tools.{some-is, none-some, put-all}
use Rattle.commit_actions.proofs.Tools.{forgotten, gone, stood}
use Rattle.commit_law.proofs.Prefixes.{behind-undiverged}
use Rattle.commit_actions.proofs.Counting.{none-of, overlap-gives, publish-gives}
use Rattle.commit_law.proofs.Logs.{key-some, live-complete, complete-some}
use Rattle.commit_law.proofs.Acks.{reached}
use Rattle.commit_law.proofs.Flights.{inv-fewer, turn-flight, requested-is, snapshot-flight}
use Rattle.commit_law.proofs.Storing.{claim-take, publish-take}
use Rattle.commit_law.proofs.Machines.{IsMachineKept, inv-machine, complete-put, undiverged-put}
use Rattle.commit_law.proofs.InputServers.{Goes, grant-current, live-behind, sent-waits}

-- a sync write is sent
pub record IsSentKept (s : State) (w : SyncRequest) : Type 0 where
  pub request : IsRequestKept s w
  pub fresh : (i : ℕ) (g : LeaseGrant) → s.flight i ≡ Some (LeaseGranted g) → w.leader ≡ g.revision → ⊥
  pub lease_unwaited : (i : ℕ) (g : LeaseGrant) → s.flight i ≡ Some (LeaseGranted g) → w.member ≡ g.member
      → Waits (s.members g.member) g.incarnation g.sequence → ⊥
  pub sync_unwaited : (i : ℕ) (a : SyncGrant) → s.flight i ≡ Some (SyncGranted a) → w.member ≡ a.member
      → Waits (s.members a.member) a.incarnation a.sequence → ⊥

inv-sent : (s : State) (number : ℕ) (w : SyncRequest) → IsSound s → IsSentKept s w
    → IsSound (record s { flight = put_at s.flight number (Some (Requested w)) })
inv-sent s number w inv sent = record {
  sync_bound = inv.sync_bound;
  leader_bound = inv.leader_bound;
  leader_given = inv.leader_given;
  servers = inv.servers;
  asked = put-all s.flight number (Some (Requested w))
      (λ i o. (v : SyncRequest) → o ≡ Some (Requested v) → IsRequestKept (record s { flight = flight }) v)
      (λ v e.
      subst (λ (x : SyncRequest). IsRequestKept (record s { flight = flight }) x) (requested-is w v e) sent.request)
      (λ i other v e. inv.asked i v e);
  leased = λ i g at. let before = leased i g at in let old = inv.leased i g before in record {
    numbered = old.numbered;
    given = old.given;
    bound = old.bound;
    read = old.read;
    passed = old.passed;
    fresh = put-all s.flight number (Some (Requested w))
        (λ j o. (v : SyncRequest) → o ≡ Some (Requested v) → v.leader ≡ g.revision → ⊥)
        (λ v e same. sent.fresh i g before (ap (λ (x : SyncRequest). x.leader) (requested-is w v e) ∙ same))
        (λ j other v e same. old.fresh j v e same);
    single = λ j h e. old.single j h (leased j h e);
    older = λ waits. put-all s.flight number (Some (Requested w))
        (λ j o. (v : SyncRequest) → o ≡ Some (Requested v) → v.member ≡ g.member → v.leader < g.revision)
        (λ v e mine.
        absurd (sent.lease_unwaited i g before (ap (λ (x : SyncRequest). x.member) (requested-is w v e) ∙ mine) waits))
        (λ j other v e mine. old.older waits j v e mine);
    current = old.current;
  };
  synced = λ i a at. let before = synced i a at in let old = inv.synced i a before in record {
    numbered = old.numbered;
    leader = old.leader;
    bound = old.bound;
    current = old.current;
    last = λ waits. put-all s.flight number (Some (Requested w))
        (λ j o. (v : SyncRequest) → o ≡ Some (Requested v) → v.member ≡ a.member → v.sync ≡ Some a.key.revision → ⊥)
        (λ v e mine same.
        sent.sync_unwaited i a before (ap (λ (x : SyncRequest). x.member) (requested-is w v e) ∙ mine) waits)
        (λ j other v e mine same. old.last waits j v e mine same);
  };
  shown =
      λ i k at. snapshot-flight s (put_at s.flight number (Some (Requested w))) k synced (inv.shown i k (shown i k at));
  replied = λ i r at. inv.replied i r (replied i r at);
  kept = λ n x is. let old = inv.kept n x is in record {
    incarnation = old.incarnation;
    turn = old.turn;
    noted = old.noted;
    turn_kept = turn-flight s.member_count s.acknowledged_log s.sync s.flight
        (put_at s.flight number (Some (Requested w))) s.members n x synced replied old.turn_kept;
  };
}
  where
    flight : ℕ → Option Flying
    flight = put_at s.flight number (Some (Requested w))

    replied : (i : ℕ) (r : RaceAnswer) → put_at s.flight number (Some (Requested w)) i ≡ Some (RaceAnswered r)
        → s.flight i ≡ Some (RaceAnswered r)
    replied i r = stood s.flight number (Requested w) (RaceAnswered r) (λ e. cc) i

    leased : (i : ℕ) (g : LeaseGrant) → put_at s.flight number (Some (Requested w)) i ≡ Some (LeaseGranted g)
        → s.flight i ≡ Some (LeaseGranted g)
    leased i g = stood s.flight number (Requested w) (LeaseGranted g) (λ e. cc) i

    synced : (i : ℕ) (a : SyncGrant) → put_at s.flight number (Some (Requested w)) i ≡ Some (SyncGranted a)
        → s.flight i ≡ Some (SyncGranted a)
    synced i a = stood s.flight number (Requested w) (SyncGranted a) (λ e. cc) i

    shown : (i : ℕ) (k : SnapshotView) → put_at s.flight number (Some (Requested w)) i ≡ Some (SnapshotSent k)
        → s.flight i ≡ Some (SnapshotSent k)
    shown i k = stood s.flight number (Requested w) (SnapshotSent k) (λ e. cc) i

-- whom the sync key names without a race has what was acknowledged
named-key : (member_count : ℕ) (acknowledged_log : List Entry) (members : ℕ → Machine) (key : SyncKey) (m : ℕ)
    → m < member_count
    → IsComplete acknowledged_log members key.leader
    × AllBut member_count key.standbys key.quorum (IsComplete acknowledged_log members)
    → WinsByName (Some key) m → IsComplete acknowledged_log members m
named-key member_count acknowledged_log members key m less k (inl is) =
    subst (IsComplete acknowledged_log members) is k.0
named-key member_count acknowledged_log members key m less k (inr is) =
    k.1.others m is.0 (none-of member_count k.1.spared (omega (arith, k.1.few, is.1)) m less)

named-complete : (member_count : ℕ) (acknowledged_log : List Entry) (members : ℕ → Machine)
    (sync turn : Option SyncKey) (revision m : ℕ) → m < member_count
    → IsSyncKeyKept member_count acknowledged_log members sync → IsRead sync revision turn
    → IsAsRead sync (sync_revision_of turn) → WinsByName turn m → IsComplete acknowledged_log members m
named-complete member_count acknowledged_log members None None revision m less k read same named = k.0 m
named-complete member_count acknowledged_log members None (Some t) revision m less k read same named = absurd same
named-complete member_count acknowledged_log members (Some key) None revision m less k read same named = absurd same
named-complete member_count acknowledged_log members (Some key) (Some t) revision m less k read same named =
    named-key member_count acknowledged_log members key m less k
    (subst (λ (x : SyncKey). WinsByName (Some x) m) (sym ((read t refl).same key refl same)) named)

pub turn-bound : (sync : Option SyncKey) (revision : ℕ) (turn : Option SyncKey) (r : ℕ)
    → IsRead sync revision turn → sync_revision_of turn ≡ Some r → r ≤ revision
turn-bound sync revision None r read e = absurd (none-some r e)
turn-bound sync revision (Some key) r read e = omega (arith, (read key refl).bound, some-is key.revision r e)

-- the state after the machine's part, before anything is sent
abbrev pub between : State → ℕ → AgentInput → State
between s m input =
    record s { flight = forget input.heard s.flight; members = put_at s.members m (machine_after (s.members m) input) }

pub between-inv : (s : State) (m : ℕ) (input : AgentInput) (was : Agent) → IsSound s → IsMachineKept s m input was
    → IsSound (between s m input)
between-inv s m input was inv ok = inv-fewer (record s {
  members = put_at s.members m (machine_after (s.members m) input);
}) (forget input.heard s.flight) (forgotten input.heard s.flight) (inv-machine s m input was inv ok)

-- an answer that was given before isn't waited for after a sync write was sent
pub unwaited : (s : State) (m : ℕ) (input : AgentInput) (was : Agent) (w : SyncRequest) (n incarnation sequence : ℕ)
    → Goes s m input was → Sends m input was w → IsNumbered (s.members n) incarnation sequence → w.member ≡ n
    → Waits (put_at s.members m (machine_after (s.members m) input) n) incarnation sequence → ⊥
unwaited s m input was w n incarnation sequence goes sends numbered mine waits =
    put-all s.members m (machine_after (s.members m) input)
    (λ k z. k ≡ m → IsNumbered (s.members k) incarnation sequence → Waits z incarnation sequence → ⊥)
    (λ e old v.
    let same : input.agent ≡ v.agent = some-is input.agent v.agent v.is in
    sent-waits m input was w sends sequence
    (old.sequence_old was goes.was_is (sym goes.incarnation ∙ ap (λ (x : Agent). x.incarnation) same ∙ v.run_is))
    (ap (λ (x : Agent). x.waits) same ∙ v.waits))
    (λ k other e old v. other e) n (sym mine ∙ sends.member) numbered waits

pub sent-numbered : (s : State) (m : ℕ) (input : AgentInput) (was : Agent) (w : SyncRequest) → IsSound s
    → Goes s m input was → Sends m input was w
    → IsNumbered (put_at s.members m (machine_after (s.members m) input) w.member) w.incarnation w.sequence
sent-numbered s m input was w inv goes sends =
    put-all s.members m (machine_after (s.members m) input) (λ k z. k ≡ m → IsNumbered z w.incarnation w.sequence)
    (λ e. record {
      run_old = omega (arith, (inv.kept m was goes.was_is).incarnation, sends.incarnation);
      sequence_old = λ g is same. omega (arith, sends.counted, ap (λ (x : Agent). x.last) (some-is input.agent g is));
    })
    (λ k other e. absurd (other e)) w.member sends.member

pub sent-kept : (s : State) (m : ℕ) (input : AgentInput) (was : Agent) (g : LeaseGrant) (w : SyncRequest)
    → IsSound s → Goes s m input was → HearsLeaseGrant s m input was g → Sends m input was w
    → w.leader ≡ g.revision → IsRequestKept (between s m input) w → IsSentKept (between s m input) w
sent-kept s m input was g w inv goes hears sends leader request =
    let ok = inv.leased hears.number g hears.is in
    record {
      request = request;
      fresh = λ i h at same. gone input.heard s.flight hears.number i (LeaseGranted h)
          hears.heard at (ok.single i h (forgotten input.heard s.flight i (LeaseGranted h) at) (sym same ∙ leader));
      lease_unwaited = λ i h at mine waits. unwaited s m input was w h.member h.incarnation h.sequence goes sends
          (inv.leased i h (forgotten input.heard s.flight i (LeaseGranted h) at)).numbered mine waits;
      sync_unwaited = λ i a at mine waits. unwaited s m input was w a.member a.incarnation a.sequence goes sends
          (inv.synced i a (forgotten input.heard s.flight i (SyncGranted a) at)).numbered mine waits;
    }

named-names : (key : SyncKey) (m : ℕ) → WinsByName (Some key) m → NamesMember (Some key) m
named-names key m (inl is) = inl is
named-names key m (inr is) = inr is.0

-- a claim names who the sync key names
claim-names : (s : State) (m : ℕ) (was : Agent) → IsSound s → (s.members m).agent ≡ Some was
    → WinsByName was.turn m ⊎ (was.won ≡ true) → (sync turn : Option SyncKey) → s.sync ≡ sync
    → was.turn ≡ turn → IsAsRead sync (sync_revision_of turn) → NamesMember sync m
claim-names s m was inv is named None turn e t read = tt
claim-names s m was inv is named (Some now) None e t read = absurd read
claim-names s m was inv is (inl named) (Some now) (Some key) e t read =
    subst (λ (k : SyncKey). NamesMember (Some k) m) (sym (((inv.kept m was is).turn key t).same now e read))
    (named-names key m (subst (λ (o : Option SyncKey). WinsByName o m) t named))
claim-names s m was inv is (inr won) (Some now) (Some key) e t read =
    subst (λ (k : SyncKey). NamesMember (Some k) m) (sym (((inv.kept m was is).turn key t).same now e read))
    (inr ((inv.kept m was is).turn_kept.won key now won t e read).named)

-- who won its race has what was acknowledged, while the sync key is as it read it
won-complete : (s : State) (m : ℕ) (was : Agent) → IsSound s → (s.members m).agent ≡ Some was → was.won ≡ true
    → (sync turn : Option SyncKey) → s.sync ≡ sync → was.turn ≡ turn → IsAsRead sync (sync_revision_of turn)
    → IsComplete s.acknowledged_log s.members m
won-complete s m was inv is won None None e t read =
    (subst (IsSyncKeyKept s.member_count s.acknowledged_log s.members) e inv.servers.key).0 m
won-complete s m was inv is won None (Some key) e t read = absurd read
won-complete s m was inv is won (Some now) None e t read = absurd read
won-complete s m was inv is won (Some now) (Some key) e t read =
    ((inv.kept m was is).turn_kept.won key now won t e read).complete

pub arms-request : (s : State) (m : ℕ) (input : AgentInput) (was : Agent) → IsSound s → Goes s m input was
    → (does : Arms s m input was) → ArmsAlone s m does.grant.revision → IsRequestKept (between s m input) does.request
arms-request s m input was inv goes does given =
    let w : SyncRequest = does.request in
    let turn : IsRead s.sync s.revision was.turn = (inv.kept m was goes.was_is).turn in
    record {
      numbered = sent-numbered s m input was w inv goes does.sends;
      leader_bound = omega (arith, does.leader, (inv.leased does.hears.number does.grant does.hears.is).bound);
      sync_bound = λ r is. turn-bound s.sync s.revision was.turn r turn (sym does.sync ∙ is);
      alone = λ is n an. put-all s.members m (machine_after (s.members m) input) (λ k z. Acts z → k ≡ w.member)
          (λ ak. sym does.sends.member) (λ k other ak. absurd (other (given.alone k ak))) n an;
      creates = λ is read. absurd (claim-take (sym does.aim ∙ is));
      aim = λ is read.
          subst (IsAimKept s.member_count s.acknowledged_log
          (put_at s.members m (machine_after (s.members m) input)) s.sync w.member)
          (sym does.aim) (
            put-all s.members m (machine_after (s.members m) input) (λ k z. k ≡ m → z.live ≡ false)
                (λ e. does.keeps.live ∙ does.not_live) (λ k other e. absurd (other e)) w.member does.sends.member,
            complete-put s.acknowledged_log s.members m (machine_after (s.members m) input) refl w.member
                (subst (IsComplete s.acknowledged_log s.members) (sym does.sends.member)
                (elim does.named [
                  | inl named ↦ named-complete s.member_count s.acknowledged_log s.members s.sync was.turn
                      s.revision m does.counts inv.servers.key turn (subst (IsAsRead s.sync) does.sync read) named
                  | inr won ↦ won-complete s m was inv goes.was_is won s.sync was.turn refl refl
                      (subst (IsAsRead s.sync) does.sync read)
                ])),
            subst (NamesMember s.sync) (sym does.sends.member)
                (claim-names s m was inv goes.was_is does.named s.sync was.turn refl refl
                (subst (IsAsRead s.sync) does.sync read)),
          );
    }

-- all standbys that are published but a few have what was acknowledged
published : (s : State) (m : ℕ) (input : AgentInput) (was : Agent) → IsSound s → Goes s m input was
    → (does : Publishes s m input was)
    → AllBut s.member_count does.standbys does.quorum (IsComplete s.acknowledged_log s.members)
published s m input was inv goes does =
    let sync : s.sync ≡ Some does.key =
    grant-current s m input was does.grant inv goes.was_is does.hears (inl does.live) ∙ does.key_is in
    let log = inv.servers.log m does.live in
    elim ((inv.kept m was goes.was_is).noted does.led does.live) [
      | inl le ↦ publish-gives s.member_count does.key.standbys does.key.quorum does.standbys does.quorum
          (s.members m).required (HasConfirmed (s.members m) was.noted)
          (IsComplete s.acknowledged_log s.members) does.overlaps does.may (key-some s does.key inv sync).1
          (λ n c. reached s m n s.acknowledged_log log.entries inv c.0 log.is
          (complete-some s.acknowledged_log log.entries (s.members m).log log.is (live-complete s m inv does.live))
          (reaches-less (end_of s.acknowledged_log) was.noted ((s.members m).confirmed n) le c.1))
      | inr met ↦ overlap-gives s.member_count does.standbys does.quorum (s.members m).required
          (IsComplete s.acknowledged_log s.members) does.overlaps met
    ]
  where
    reaches-less : (a b : ℕ) (o : Option ℕ) → a ≤ b → Reaches b o → Reaches a o
    reaches-less a b None le r = r
    reaches-less a b (Some end) le r = omega (arith, le, r)

confirmed-is-behind : (mine theirs : Option (List Entry)) (end : ℕ) → IsConfirmed mine theirs end → IsBehind mine theirs
confirmed-is-behind mine None end c = tt
confirmed-is-behind None (Some y) end c = absurd c
confirmed-is-behind (Some x) (Some y) end c = c.0

confirmed-behind : (s : State) (m n : ℕ) (o : Option ℕ) → IsSound s → (s.members m).writes ≡ true
    → (s.members m).confirmed n ≡ o → Reaches 0 o → IsBehind (s.members m).log (s.members n).log
confirmed-behind s m n None inv writes e r = absurd r
confirmed-behind s m n (Some end) inv writes e r =
    confirmed-is-behind (s.members m).log (s.members n).log end (inv.servers.confirmed m n end writes e)

-- standbys that are published haven't parted
published-undiverged : (s : State) (m : ℕ) (input : AgentInput) (was : Agent) → IsSound s → Goes s m input was
    → (does : Publishes s m input was) → AreNear s.acknowledged_log s.members m does.standbys
published-undiverged s m input was inv goes does = record {
  undiverged = λ n named. behind-undiverged s.acknowledged_log (s.members m).log (s.members n).log
      (live-complete s m inv does.live) (behind n named);
  behind = λ live. behind;
}
  where
    sync : s.sync ≡ Some does.key
    sync = grant-current s m input was does.grant inv goes.was_is does.hears (inl does.live) ∙ does.key_is

    behind : (n : ℕ) → does.standbys n ≡ true → IsBehind (s.members m).log (s.members n).log
    behind n named = elim (does.connected n named) [
      | inl old ↦ live-behind s m does.key n inv does.live sync old
      | inr c ↦ confirmed-behind s m n ((s.members m).confirmed n) inv c.0 refl c.1
    ]

pub publishes-request : (s : State) (m : ℕ) (input : AgentInput) (was : Agent) → IsSound s → Goes s m input was
    → (does : Publishes s m input was) → IsRequestKept (between s m input) does.request
publishes-request s m input was inv goes does =
    let w : SyncRequest = does.request in
    let ok = inv.leased does.hears.number does.grant does.hears.is in
    record {
      numbered = sent-numbered s m input was w inv goes does.sends;
      leader_bound = omega (arith, does.leader, ok.bound);
      sync_bound =
          λ r is. omega (arith, (ok.read does.key does.key_is).bound, some-is does.key.revision r (sym does.sync ∙ is));
      alone = λ is n an. put-all s.members m (machine_after (s.members m) input) (λ k z. Acts z → k ≡ w.member)
          (λ ak. sym does.sends.member) (λ k other ak. absurd (other (inv.servers.sole k m ak (inl does.live)))) n an;
      creates = λ is read. absurd (publish-take does.standbys does.quorum (sym does.aim ∙ is));
      aim = λ is read.
          subst (IsAimKept s.member_count s.acknowledged_log
          (put_at s.members m (machine_after (s.members m) input)) s.sync w.member)
          (sym does.aim) (
            subst (IsLed s.sync) (sym does.sends.member) (inv.servers.led m does.live),
            all-complete (published s m input was inv goes does),
            put-all s.members m (machine_after (s.members m) input)
                (λ k z. k ≡ m → z.live ≡ true → Overlaps s.member_count does.standbys does.quorum z.required)
                (λ e live.
                subst (Overlaps s.member_count does.standbys does.quorum) (sym does.keeps.required) does.overlaps)
                (λ k other e live. absurd (other e)) w.member does.sends.member,
            undiverged-put s.acknowledged_log s.members m
                (machine_after (s.members m) input) w.member does.standbys refl
                (λ e live. (published-undiverged s m input was inv goes does).behind does.live)
                (subst (λ (k : ℕ). AreNear s.acknowledged_log s.members k does.standbys) (sym does.sends.member)
                (published-undiverged s m input was inv goes does)),
          );
    }
  where
    all-complete : AllBut s.member_count does.standbys does.quorum (IsComplete s.acknowledged_log s.members)
        → AllBut s.member_count does.standbys does.quorum
        (IsComplete s.acknowledged_log (put_at s.members m (machine_after (s.members m) input)))
    all-complete a = record {
      spared = a.spared;
      few = a.few;
      others = λ n is other.
          complete-put s.acknowledged_log s.members m (machine_after (s.members m) input) refl n (a.others n is other);
    }

-- the state after it
abbrev pub done : State → ℕ → AgentInput → State
done s m input = record s {
  flight = send input.sends (forget input.heard s.flight);
  members = put_at s.members m (machine_after (s.members m) input);
}

-- nothing is sent, or one sync write
pub sent-none : (s : State) (m : ℕ) (input : AgentInput) → input.sends ≡ None → IsSound (between s m input)
    → IsSound (done s m input)
sent-none s m input none inv = subst (λ (o : Option Sending). IsSound (record s {
  flight = send o (forget input.heard s.flight);
  members = put_at s.members m (machine_after (s.members m) input);
}))
    (sym none) inv

pub sent-one : (s : State) (m : ℕ) (input : AgentInput) (number : ℕ) (w : SyncRequest)
    → input.sends ≡ Some (record { number = number; request = w }) → IsSound (between s m input)
    → IsSentKept (between s m input) w → IsSound (done s m input)
sent-one s m input number w one inv sent = subst (λ (o : Option Sending). IsSound (record s {
  flight = send o (forget input.heard s.flight);
  members = put_at s.members m (machine_after (s.members m) input);
}))
    (sym one)
    (inv-sent (between s m input) number w inv sent)
