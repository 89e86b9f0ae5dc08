-- What a granted request rests on: what comes before an input, the
-- grant that is heard, and the sync key of a live leader.
use Rattle.std.proofs.Common.{◌≡◌, ℕ, ◌≤◌, ◌==◌, ◌&&◌, ◌||◌, Bool, true, false, if◌then◌else◌, List, Option, Some, None, refl, sym, subst, ap, ◌∙◌, arith, inl, inr}
use Rattle.std.proofs.lemmas.Bool.Decides.{nat_tests}
use Rattle.pat_base.specs.declared.lsn.Lsn.{Lsn}
use Rattle.pat_base.specs.declared.member_id.MemberId.{MemberId}
use Rattle.pat_base.specs.declared.ticks.Ticks.{Ticks}
use Rattle.pat_base.specs.ServerState.{live}
use Rattle.lease_store.specs.declared.granted.Granted.{Granted}
use Rattle.store_keys.specs.declared.key.Key.TheVariants as keys
use Rattle.store_keys.specs.declared.value.KeyEntry.{KeyEntry}
use Rattle.store_keys.specs.declared.value.SyncKey.{SyncKey as StoredKey}
use Rattle.wal_model.specs.declared.entry.Entry.{Entry}
use Rattle.wal_model.specs.Log.{end_of}
use Rattle.pg_model.specs.declared.status.ServerStatus.{ServerStatus}
use Rattle.pg_model.specs.Facts.{entries_of}
use Rattle.cluster_view.specs.KeyValues.{sync_by, sync_in}
use Rattle.cluster_view.specs.Naming.{is_standby}
use Rattle.cluster_view.specs.Snapshots.{SnapshotFacts, entry_in, found_by, value_by}
use Rattle.lease_model.proofs.Tools.{some-is, none-some, eq-from}
use Rattle.event_book.specs.Functions.{set_members}
use Rattle.sync_state.specs.Published.{standbys_of, published_in}
use Rattle.sync_state.specs.Standbys.{required_members, noted_position}
use Rattle.commit_actions.proofs.Tools.{or-cases}
use Rattle.commit_actions.specs.Keys.{SyncKey, Confirmers, Overlaps, IsOfQuorum, strict_quorum}
use Rattle.commit_actions.specs.Stored.{key_seen, quorum_of}
use Rattle.commit_actions.specs.Flights.{LeaseGrant, SyncGrant}
use Rattle.commit_actions.specs.States.{State, Reaches, Waits}
use Rattle.commit_actions.specs.Inputs.{AgentInput, HearsLeaseGrant, HearsSyncGrant, WinsByName, HasConfirmed, sync_revision_of}
use Rattle.commit_actions.specs.Carried.{IsSound, IsLed}
use Rattle.commit_actions.specs.Past.{confirmers_in, revision_in}
use Rattle.agent_model.specs.declared.knowledge.Knowledge.{Knowledge}
use Rattle.agent_model.specs.declared.knowledge.SyncRead.{SyncRead}
use Rattle.agent_model.specs.declared.knowledge.PendingQuestion.{PendingQuestion}
use Rattle.agent_model.specs.declared.why.Why.{Why}
use Rattle.agent_model.specs.declared.why.Why.TheVariants.{HandOver, Lost}
use Rattle.agent_model.specs.declared.who.Who.{Who}
use Rattle.agent_model.specs.Agents.{RoleFacts, Leader, Outcome, Ready, is_leader, is_ready}
use Rattle.agent_model.specs.Reconciling.{reconciled, before_as, finds_live, has_ended}
use Rattle.agent_commit_law.specs.Committing.{sync_seen, number_waited, IsConnected, IsEndOf, StandsToCommit, IsAwaitedWrite, HearsLease, HearsWrite}
use Rattle.commit_actions.proofs.Counting.{none-less}
use Rattle.agent_model.specs.Decisions.{asks_lease, asks_sync, is_lease_of, is_write_of, may_create}
use Rattle.agent_model.specs.Fits.{Fits}
use Rattle.agent_roles.specs.Powers.{IsAwaitedLease}
use Rattle.agent_model.specs.Synchronous.{sync_read_by, sync_read_in, expected_of, is_named_if, sync_read_at}
use Rattle.agent_commit_law.proofs.CommitIdling.{TurnsOn, Idle, before-idle}
use Rattle.agent_commit_law.proofs.CommitLawful.{was_of}
use Rattle.agent_commit_law.proofs.CommitSteps.{IsForeign}
use Rattle.agent_commit_law.proofs.CommitTools.{IsWithin, HasReached, required-covers}
use Rattle.agent_roles.proofs.Fitting.{before-fits}
use Rattle.agent_roles.proofs.Leaving.{before-leaves}
use Rattle.agent_roles.proofs.GoingOn.{Onward}
use Rattle.agent_roles.proofs.Knowing.{before-onward}
use Rattle.agent_roles.proofs.Staying.{before-waits}
use Rattle.agent_roles.proofs.Living.{no-way}
use Rattle.agent_cases.proofs.Rows.{before-by, if-cases}
use Rattle.agent_model.specs.Acting.{disarming}

-- what stands after what comes before an input
pub record IsBehind (o b : Outcome) : Type 0 where
  pub who : b.knows.who ≡ o.knows.who
  pub incarnation : b.knows.incarnation ≡ o.knows.incarnation
  pub last : o.knows.sequence ≤ b.knows.sequence
  pub waited : b.knows.waited ≡ o.knows.waited
  pub turn : b.knows.turn_sync ≡ o.knows.turn_sync
  pub server : b.machine.server ≡ o.machine.server
  pub replication : b.machine.replication ≡ o.machine.replication
  pub hold : b.machine.hold ≡ o.machine.hold
  pub fits : Fits b.role (live b.machine.server.state)
  pub idle : Idle None o b

ended-machine : (why : Why) (held : ℕ) (o : Outcome)
    → ((has_ended why held o).machine.server ≡ o.machine.server)
    × ((has_ended why held o).machine.replication ≡ o.machine.replication)
ended-machine HandOver held o = (refl, refl)
ended-machine Lost held o = (refl, refl)

before-machine : (now : Ticks) (o : Outcome)
    → ((reconciled now o).machine.server ≡ o.machine.server)
    × ((reconciled now o).machine.replication ≡ o.machine.replication)
before-machine now o =
    before-by (λ (x : Outcome). (x.machine.server ≡ o.machine.server) × (x.machine.replication ≡ o.machine.replication))
    now o (record {
      kept = λ _. (refl, refl);
      leader = λ _ _ _. (refl, refl);
      ending = λ held why _ _. ended-machine why held o;
      follower = λ _ _. (refl, refl);
      holder = λ _ _ _. (refl, refl);
      ready = λ _ _ _. (refl, refl);
      unleased = λ _ _. (refl, refl);
    })

untold : (o b : Outcome) → TurnsOn None o b → b.knows.turn_sync ≡ o.knows.turn_sync
untold o b (inl same) = same
untold o b (inr read) = absurd (none-some read.0 read.1)

pub before-behind : (now : Ticks) (o : Outcome) → IsBehind o (reconciled now o)
before-behind now o = let onward : Onward None o (reconciled now o) = before-onward None now o in
    let idle : Idle None o (reconciled now o) = before-idle None now o in record {
      who = onward.who;
      incarnation = onward.incarnation;
      last = onward.last;
      waited = before-waits now o;
      turn = untold o (reconciled now o) idle.turn;
      server = (before-machine now o).0;
      replication = (before-machine now o).1;
      hold = (before-leaves now o).hold;
      fits = before-fits now o;
      idle = idle;
    }

-- what is waited for behind that was waited for before it
abbrev pub lease-before : (sequence : ℕ) (grant : Granted) (o b : Outcome) → IsBehind o b
    → IsAwaitedLease sequence grant b.knows → IsAwaitedLease sequence grant o.knows
lease-before sequence grant o b behind awaited = record {
  waited = awaited.waited;
  is = sym behind.waited ∙ awaited.is;
  decision = awaited.decision;
  mine = subst (λ (w : Who). is_lease_of w.me grant ≡ true) behind.who awaited.mine;
}

abbrev pub write-before : (sequence : ℕ) (grant : Granted) (o b : Outcome) → IsBehind o b
    → IsAwaitedWrite sequence grant b.knows → IsAwaitedWrite sequence grant o.knows
write-before sequence grant o b behind awaited = record {
  waited = awaited.waited;
  is = sym behind.waited ∙ awaited.is;
  decision = awaited.decision;
  mine = subst (λ (w : Who). is_write_of w.me grant ≡ true) behind.who awaited.mine;
}

some_of : ℕ → Option ℕ
some_of n = Some n

-- its number is that which the law sees waited for
number-lease : (lease sync : Bool) (number sequence : ℕ) → lease && number == sequence ≡ true
    → ◌≡◌ {A = Option ℕ} (if lease || sync then Some number else None) (Some sequence)
unfolding some_of
number-lease true sync number sequence e = ap some_of (eq-from number sequence e)
number-lease false sync number sequence e = absurd (no-way e)

number-sync : (lease sync : Bool) (number sequence : ℕ) → sync && number == sequence ≡ true
    → ◌≡◌ {A = Option ℕ} (if lease || sync then Some number else None) (Some sequence)
unfolding some_of
number-sync true true number sequence e = ap some_of (eq-from number sequence e)
number-sync false true number sequence e = ap some_of (eq-from number sequence e)
number-sync lease false number sequence e = absurd (no-way e)

lease-number : (sequence : ℕ) (grant : Granted) (knows : Knowledge) → IsAwaitedLease sequence grant knows
    → number_waited knows.waited ≡ Some sequence
lease-number sequence grant knows awaited = ap (λ (w : Option PendingQuestion). number_waited w) awaited.is
    ∙ number-lease (asks_lease awaited.waited.question)
    (asks_sync awaited.waited.question) awaited.waited.sequence sequence awaited.decision

write-number : (sequence : ℕ) (grant : Granted) (knows : Knowledge) → IsAwaitedWrite sequence grant knows
    → number_waited knows.waited ≡ Some sequence
write-number sequence grant knows awaited = ap (λ (w : Option PendingQuestion). number_waited w) awaited.is
    ∙ number-sync (asks_lease awaited.waited.question)
    (asks_sync awaited.waited.question) awaited.waited.sequence sequence awaited.decision

-- the grants that the law sees
abbrev pub lease_granted_as : ℕ → ℕ → ℕ → SnapshotFacts → Outcome → LeaseGrant
lease_granted_as m sequence revision snapshot o = record {
  member = m;
  incarnation = o.knows.incarnation;
  sequence = sequence;
  revision = revision;
  sync = sync_seen (sync_read_in snapshot);
}

abbrev pub write_granted_as : ℕ → ℕ → SyncKey → Outcome → SyncGrant
write_granted_as m sequence key o =
    record { member = m; incarnation = o.knows.incarnation; sequence = sequence; key = key }

pub hears-lease : (s : State) (m sequence : ℕ) (grant : Granted) (snapshot : SnapshotFacts)
    (input : AgentInput) (o : Outcome) → HearsLease s m input.heard sequence grant.revision snapshot o.knows
    → IsAwaitedLease sequence grant o.knows
    → HearsLeaseGrant s m input (was_of o) (lease_granted_as m sequence grant.revision snapshot o)
hears-lease s m sequence grant snapshot input o hears awaited = record {
  number = hears.number;
  heard = hears.heard_is;
  is = hears.is;
  member = refl;
  incarnation = refl;
  waits = lease-number sequence grant o.knows awaited;
}

pub hears-write : (s : State) (m sequence : ℕ) (grant : Granted) (input : AgentInput) (o : Outcome)
    (awaited : IsAwaitedWrite sequence grant o.knows)
    → (hears : HearsWrite s m input.heard sequence awaited.waited.question o.knows)
    → HearsSyncGrant s m input (was_of o) (write_granted_as m sequence hears.key o)
hears-write s m sequence grant input o awaited hears = record {
  number = hears.number;
  heard = hears.heard_is;
  is = hears.is;
  member = refl;
  incarnation = refl;
  waits = write-number sequence grant o.knows awaited;
}

waits-for : {quorum : ℕ} (s : State) (m sequence : ℕ) (o : Outcome) → StandsToCommit s m quorum o
    → number_waited o.knows.waited ≡ Some sequence → Waits (s.members m) o.knows.incarnation sequence
waits-for s m sequence o stands number = record { agent = was_of o; is = stands.agent; run_is = refl; waits = number }

leader-lives : (role : RoleFacts) (lives : Bool) → is_leader role ≡ true → Fits role lives → lives ≡ true
leader-lives (Leader held) lives leads fits = fits
leader-lives _ lives leads fits = absurd (no-way leads)

-- who leads behind what comes before an input has a live server, and led before it
pub leads-live : {quorum : ℕ} (s : State) (m : ℕ) (o b : Outcome) → StandsToCommit s m quorum o → IsBehind o b
    → is_leader b.role ≡ true → (s.members m).live ≡ true
leads-live s m o b stands behind leads = stands.live
    ∙ (sym (ap (λ (x : ServerStatus). live x.state) behind.server)
    ∙ leader-lives b.role (live b.machine.server.state) leads behind.fits)

-- of no sync key that was read may a standby lack a commit, since none says a number
pub none-lacks : (read : Option SyncRead) (key : SyncKey) → sync_seen read ≡ Some key → key.quorum ≤ strict_quorum
unfolding quorum_of
none-lacks None key is = absurd (none-some key is)
none-lacks (Some read) key is =
    subst (λ (k : SyncKey). k.quorum ≤ strict_quorum) (some-is (key_seen read.key read.revision) key is) (none-below 0)
  where
    none-below : (n : ℕ) → 0 ≤ n
    none-below n = omega arith

-- what the key that is seen in a snapshot has of the one that is there
seen-stored : (revision : ℕ) (stored : Option StoredKey) (key : SyncKey)
    → sync_seen (sync_read_by revision stored) ≡ Some key
    → (there : StoredKey) × (stored ≡ Some there) × (key ≡ key_seen there revision)
seen-stored revision None key e = absurd (none-some key e)
seen-stored revision (Some there) key e = (there, refl, sym (some-is (key_seen there revision) key e))

seen-entry : (found : Option KeyEntry) (key : SyncKey) → sync_seen (found_by sync_read_at found) ≡ Some key
    → (there : StoredKey) × (value_by sync_by found ≡ Some there) × (key.leader ≡ there.leader.number)
    × (key.standbys ≡ set_members there.standbys)
seen-entry None key e = absurd (none-some key e)
seen-entry (Some found) key e = let stored = seen-stored found.revision (sync_by found.value) key e in
    (stored.0, stored.1, ap (λ (k : SyncKey). k.leader) stored.2, ap (λ (k : SyncKey). k.standbys) stored.2)

-- the sync key of a live leader that hears a grant of its lease: it is
-- the present one and that of the snapshot, and names this member
pub record IsLedBy (s : State) (m quorum : ℕ) (snapshot : SnapshotFacts) (o : Outcome) : Type 0 where
  pub key : SyncKey
  pub present : s.sync ≡ Some key
  pub seen : sync_seen (sync_read_in snapshot) ≡ Some key
  pub few : key.quorum ≤ quorum
  pub standbys : key.standbys ≡ set_members (published_in snapshot)
  pub named : IsForeign o.knows.who.me.number (sync_in snapshot) → ⊥

same-true : (a b : ℕ) → a ≡ b → a == b ≡ true
same-true a b e = grind (arith, nat_tests)

-- where no standby may lack a commit, the required list covers the standbys of the present key
pub key-covers : (s : State) (m : ℕ) (o : Outcome) (key : SyncKey) → IsSound s
    → StandsToCommit s m strict_quorum o → (s.members m).live ≡ true → s.sync ≡ Some key
    → IsWithin key.standbys (set_members (required_members o.machine.replication.required))
key-covers s m o key sound stands lives sync =
    let strict : IsOfQuorum s.member_count strict_quorum key = stands.strict key sync in
    required-covers s.member_count key.standbys o.machine.replication.required strict.members
    (subst (λ (q : ℕ). Overlaps s.member_count key.standbys q (confirmers_in o.machine.replication.required))
    (none-less key.quorum strict.few)
    (subst (λ (n : Confirmers). Overlaps s.member_count key.standbys key.quorum n) stands.required
    (sound.servers.overlaps m key lives sync)))

pub led-by : {quorum : ℕ} (s : State) (m sequence : ℕ) (grant : Granted) (snapshot : SnapshotFacts)
    (input : AgentInput) (o : Outcome) → IsSound s → StandsToCommit s m quorum o
    → HearsLease s m input.heard sequence grant.revision snapshot o.knows → IsAwaitedLease sequence grant o.knows
    → (s.members m).live ≡ true → IsLedBy s m quorum snapshot o
led-by s m sequence grant snapshot input o sound stands hears awaited lives =
    let current : s.sync ≡ sync_seen (sync_read_in snapshot) =
    (sound.leased hears.number (lease_granted_as m sequence grant.revision snapshot o) hears.is).current
    (waits-for s m sequence o stands (lease-number sequence grant o.knows awaited)) (inl lives) in
    let led : IsLed s.sync m = sound.servers.led m lives in
    let seen : sync_seen (sync_read_in snapshot) ≡ Some led.key = sym current ∙ led.is in
    let entry = seen-entry (entry_in keys.Sync snapshot) led.key seen in
    let standbys : led.key.standbys ≡ set_members (published_in snapshot) = entry.3
    ∙ ap (λ (k : Option StoredKey). set_members (standbys_of k)) (sym entry.1) in
    record {
      key = led.key;
      present = led.is;
      seen = seen;
      few = (stands.strict led.key led.is).few;
      standbys = standbys;
      named = λ foreign. foreign entry.0 entry.1
          (same-true entry.0.leader.number o.knows.who.me.number (sym entry.2 ∙ (led.leader ∙ sym stands.me)));
    }

-- and so it covers those of the snapshot
pub led-covers : (s : State) (m : ℕ) (snapshot : SnapshotFacts) (o : Outcome) → IsSound s
    → StandsToCommit s m strict_quorum o → (s.members m).live ≡ true → IsLedBy s m strict_quorum snapshot o
    → IsWithin (set_members (published_in snapshot)) (set_members (required_members o.machine.replication.required))
led-covers s m snapshot o sound stands lives led =
    subst (λ (set : ℕ → Bool). IsWithin set (set_members (required_members o.machine.replication.required)))
    led.standbys (key-covers s m o led.key sound stands lives led.present)

-- the key of a granted write is the present one, for a live leader that waits for the grant
pub written : {quorum : ℕ} (s : State) (m sequence : ℕ) (grant : Granted) (input : AgentInput) (o : Outcome)
    (awaited : IsAwaitedWrite sequence grant o.knows)
    → (hears : HearsWrite s m input.heard sequence awaited.waited.question o.knows) → IsSound s
    → StandsToCommit s m quorum o
    → (s.members m).live ≡ true → s.sync ≡ Some hears.key
written s m sequence grant input o awaited hears sound stands lives =
    (sound.synced hears.number (write_granted_as m sequence hears.key o) hears.is).current
    (waits-for s m sequence o stands (write-number sequence grant o.knows awaited)) (inl lives)

-- what a request compares of a key that was read
pub compared-as : (read : Option SyncRead) → revision_in (expected_of read) ≡ sync_revision_of (sync_seen read)
compared-as None = refl
compared-as (Some read) = refl

-- whom the key names that its turn read wins without a race, where no standby may lack a commit
pub wins-named : (me : MemberId) (m : ℕ) (read : Option SyncRead)
    → ((key : SyncKey) → sync_seen read ≡ Some key → key.quorum ≤ strict_quorum) → me.number ≡ m
    → is_named_if me read ≡ true → WinsByName (sync_seen read) m
wins-named me m None few is named = tt
wins-named me m (Some read) few is named =
    elim (or-cases (read.key.leader.number == me.number) (is_standby me read.key) named) [
      | inl leads ↦ inl (eq-from read.key.leader.number me.number leads ∙ is)
      | inr standby ↦ inr (
        subst (λ (n : ℕ). set_members read.key.standbys n ≡ true) is standby,
        none-less (quorum_of read.key) (few (key_seen read.key read.revision) refl),
      )
    ]

-- a connected member that reached a position has confirmed it, to a server that accepts writes
pub has-confirmed : {quorum : ℕ} (s : State) (m : ℕ) (o : Outcome) (position n : ℕ) → StandsToCommit s m quorum o
    → HasReached o.machine.replication.confirmed_positions position n → HasConfirmed (s.members m) position n
has-confirmed s m o position n stands reached =
    let connected : IsConnected s m n reached.end = stands.connected n reached.end reached.is in
    (connected.writes, subst (λ (p : Option ℕ). Reaches position p) (sym connected.confirmed) reached.reached)

pub confirmed-any : (s : State) (m position n : ℕ) → HasConfirmed (s.members m) position n
    → HasConfirmed (s.members m) 0 n
confirmed-any s m position n has = (has.0, reaches-any position ((s.members m).confirmed n) has.1)
  where
    reaches-any : (position : ℕ) (found : Option ℕ) → Reaches position found → Reaches 0 found
    reaches-any position None reaches = reaches
    reaches-any position (Some end) reaches = omega arith

end-is : (end : Option Lsn) (log : Option (List Entry)) → IsEndOf end log → noted_position end ≡ end_of (entries_of log)
end-is None None is = refl
end-is None (Some log) is = absurd is
end-is (Some end) None is = absurd is
end-is (Some end) (Some log) is = is

-- the end of the server's log, once it is noted
pub noted-end : {quorum : ℕ} (s : State) (m : ℕ) (o b : Outcome) → StandsToCommit s m quorum o → IsBehind o b
    → noted_position b.machine.server.end ≡ end_of (entries_of (s.members m).log)
noted-end s m o b stands behind = ap (λ (x : ServerStatus). noted_position x.end) behind.server
    ∙ end-is o.machine.server.end (s.members m).log stands.end

-- who may take the leader key wasn't about to begin
unready-as : (now : Ticks) (role : RoleFacts) (o : Outcome) → o.role ≡ role
    → may_create (before_as now role o).role ≡ true → is_ready role ≡ false
unready-as now (Ready held) o is creates =
    absurd (if-cases (λ (x : Outcome). may_create x.role ≡ true → ⊥) (live o.machine.server.state)
    (finds_live (disarming o)) o (λ _ e. no-way e)
    (λ _ e. no-way (subst (λ (r : RoleFacts). may_create r ≡ true) is e)) creates)
  where
    no-way : false ≡ true → ⊥
    no-way e = cc
unready-as now _ o is creates = refl

pub before-unready : (now : Ticks) (o : Outcome) → may_create (reconciled now o).role ≡ true → is_ready o.role ≡ false
before-unready now o creates = unready-as now o.role o refl creates
