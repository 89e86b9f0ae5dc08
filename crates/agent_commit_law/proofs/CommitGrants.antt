-- Each granted request is lawful for kept commits.
use Rattle.std.proofs.Common.{◌≡◌, ◌⊎◌, ℕ, ◌+◌, ◌≤◌, Bool, true, false, Option, Some, None, All, refl, sym, subst, ap, ◌∙◌, arith, inl, inr}
use Rattle.pat_base.specs.declared.member_set.MemberSet.{MemberSet}
use Rattle.pat_base.specs.declared.ticks.Ticks.{Ticks}
use Rattle.lease_store.specs.declared.granted.Granted.{Granted}
use Rattle.store_keys.specs.declared.txn.Txn.{Txn}
use Rattle.store_keys.specs.declared.txn.Txn.TheVariants as txns
use Rattle.store_keys.specs.declared.txn.SyncTxn.TheVariants as sync_txns
use Rattle.wal_model.specs.Log.{end_of}
use Rattle.pg_model.specs.Facts.{entries_of}
use Rattle.cluster_view.specs.Snapshots.{SnapshotFacts}
use Rattle.event_book.specs.declared.message.Body.TheVariants as bodies
use Rattle.event_book.specs.Functions.{set_members}
use Rattle.sync_state.specs.Published.{published_in}
use Rattle.sync_state.specs.Standbys.{required_members, noted_position}
use Rattle.commit_actions.specs.Keys.{SyncKey, Confirmers, Overlaps, Added, Narrows}
use Rattle.commit_actions.specs.Stored.{quorum_written}
use Rattle.commit_actions.specs.Flights.{SyncRequest}
use Rattle.commit_actions.specs.States.{Agent, State}
use Rattle.commit_actions.specs.Inputs.{AgentInput, ChangingRequired, Publishing, SettlingRequired, sync_revision_of}
use Rattle.commit_actions.specs.Carried.{IsSound}
use Rattle.commit_actions.specs.Past.{confirmers_in, publish_request}
use Rattle.agent_model.specs.declared.heard.Heard.TheVariants.{Granted as HeardGranted}
use Rattle.agent_model.specs.declared.knowledge.Settling.{Settling}
use Rattle.agent_model.specs.declared.machine.Replication.{Replication}
use Rattle.agent_model.specs.declared.output.Output.{Output}
use Rattle.agent_model.specs.declared.output.Output.TheVariants as outputs
use Rattle.agent_model.specs.declared.output.Outgoing.TheVariants as outgoing
use Rattle.agent_model.specs.declared.output.Target.TheVariants as targets
use Rattle.agent_model.specs.Agents.{RoleFacts, Ready, Leader, Outcome, is_ready, is_leader}
use Rattle.agent_commit_law.specs.Committing.{StandsToCommit, IsAwaitedWrite, HearsLease, HearsWrite, GrowsByConnected, IsLawfulAs}
use Rattle.agent_commit_law.proofs.CommitShown.{IsShown}
use Rattle.agent_model.specs.Planning.{naming}
use Rattle.agent_roles.specs.Powers.{IsAwaitedLease}
use Rattle.agent_model.specs.Synchronous.{sync_read_in, expected_of}
use Rattle.agent_commit_law.proofs.CommitGrounds.{IsBehind, lease_granted_as, write_granted_as, hears-lease, hears-write, leads-live, IsLedBy, compared-as, has-confirmed, confirmed-any}
use Rattle.agent_commit_law.proofs.CommitIdling.{Idle, idle-then, waits-nothing, waits-new}
use Rattle.agent_commit_law.proofs.CommitLeaders.{WatchdogAfter, led_by}
use Rattle.agent_commit_law.proofs.CommitLawful.{was_of, lawful-as, keeps-turn, keeps-live, keeps-server, keeps-ready, keeps-noted, sends-nothing, sends-one, idle-lawful}
use Rattle.agent_commit_law.proofs.CommitQuiet.{Stands, IsUnasking, asks-none, asks-unbegun, last-request, last-unbegun, unasking}
use Rattle.agent_commit_law.proofs.CommitTools.{IsWithin, HasReached, covers-required}
use Rattle.agent_roles.proofs.GoingOn.{Onward}
use Rattle.agent_roles.proofs.Living.{no-way}

-- what a granted request is heard on, with what stands after what comes before it
pub record Ground (s : State) (m quorum : ℕ) (o b : Outcome) : Type 0 where
  pub sound : IsSound s
  pub stands : StandsToCommit s m quorum o
  pub behind : IsBehind o b
  pub quiet : All (Stands true) o.outputs

-- what is made of it is lawful, where the agent goes on
abbrev pub Lawful : ℕ → Ticks → ℕ → Granted → SnapshotFacts → State → ℕ → AgentInput → Outcome → Outcome → Type 0
Lawful quorum now sequence grant snapshot s m input o x = Onward (Some snapshot) o x → IsShown s m o x input
    → IsLawfulAs now (HeardGranted sequence grant snapshot) quorum o s m input

-- a row that leaves what commits depend on
pub rests : {quorum : ℕ} (now : Ticks) (sequence : ℕ) (grant : Granted) (snapshot : SnapshotFacts) (s : State)
    (m : ℕ) (input : AgentInput) (o b x : Outcome) → Ground s m quorum o b → Idle None b x
    → Lawful quorum now sequence grant snapshot s m input o x
rests now sequence grant snapshot s m input o b x ground idle onward is =
    idle-lawful now (HeardGranted sequence grant snapshot) None (Some snapshot) s m input o x ground.stands is onward
    (idle-then None o b x ground.behind.idle idle ground.behind.last) ground.quiet (λ told e. absurd (none-told told e))
  where
    none-told : (told : SnapshotFacts) → ◌≡◌ {A = Option SnapshotFacts} None (Some told) → ⊥
    none-told told e = cc

-- what is known of a lease that is heard
pub record Leased (s : State) (m sequence : ℕ) (grant : Granted) (snapshot : SnapshotFacts)
    (input : AgentInput) (o : Outcome) : Type 0 where
  pub awaited : IsAwaitedLease sequence grant o.knows
  pub hears : HearsLease s m input.heard sequence grant.revision snapshot o.knows

-- who leads isn't about to begin
pub unready : (role : RoleFacts) → is_leader role ≡ true → is_ready role ≡ false
unready (Leader held) leads = refl
unready (Ready held) leads = absurd (no-way leads)
unready _ leads = refl

-- a leader whose required list changes
pub record Changes (s : State) (m : ℕ) (o x : Outcome) : Type 0 where
  pub ready : is_ready x.role ≡ false
  pub turn : x.knows.turn_sync ≡ o.knows.turn_sync
  pub waited : x.knows.waited ≡ None
  pub unasking : All (IsUnasking true) x.outputs
  pub notes : (noted_position x.knows.noted ≡ end_of (entries_of (s.members m).log))
      ⊎ (Narrows (s.members m).required (confirmers_in x.machine.replication.required) ×
      (x.knows.noted ≡ o.knows.noted))

notes-shown : (s : State) (m : ℕ) (input : AgentInput) (o x : Outcome) → IsShown s m o x input → Changes s m o x
    → (input.agent.noted ≡ end_of (entries_of (s.members m).log))
    ⊎ (Narrows (s.members m).required input.required × (input.agent.noted ≡ (was_of o).noted))
notes-shown s m input o x is changes = elim changes.notes [
  | inl end ↦ inl (ap (λ (a : Agent). a.noted) is.agent ∙ end)
  | inr narrows ↦
      inr (subst (Narrows (s.members m).required) (sym is.required) narrows.0, keeps-noted s m input o x is narrows.1)
]

overlaps-shown : (s : State) (m : ℕ) (input : AgentInput) (o x : Outcome) (key : SyncKey) (standbys : ℕ → Bool)
    → IsShown s m o x input → key.standbys ≡ standbys
    → Overlaps s.member_count standbys key.quorum (confirmers_in x.machine.replication.required)
    → Overlaps s.member_count key.standbys key.quorum input.required
overlaps-shown s m input o x key standbys is same over =
    subst (λ (n : Confirmers). Overlaps s.member_count key.standbys key.quorum n) (sym is.required)
    (subst (λ (set : ℕ → Bool). Overlaps s.member_count set key.quorum (confirmers_in x.machine.replication.required))
    (sym same) over)

-- in a turn
pub changes-lawful : {quorum : ℕ} (now : Ticks) (sequence : ℕ) (grant : Granted) (snapshot : SnapshotFacts) (s : State)
    (m : ℕ) (input : AgentInput) (o b x : Outcome) → Ground s m quorum o b → Leased s m sequence grant snapshot input o
    → (led : IsLedBy s m quorum snapshot o) → is_leader b.role ≡ true → Changes s m o x
    → Overlaps s.member_count (set_members (published_in snapshot)) led.key.quorum
    (confirmers_in x.machine.replication.required)
    → GrowsByConnected o (s.members m).required (confirmers_in x.machine.replication.required)
    → Lawful quorum now sequence grant snapshot s m input o x
changes-lawful now sequence grant snapshot s m input o b x ground leased led leads changes over grows onward is =
    lawful-as now (HeardGranted sequence grant snapshot) (Some snapshot) s m input o x ground.stands is onward
    (waits-nothing o x changes.waited)
    (ChangingRequired (record {
      grant = lease_granted_as m sequence grant.revision snapshot o;
      hears = hears-lease s m sequence grant snapshot input o leased.hears leased.awaited;
      live = keeps-live s m input o x ground.stands is (asks-unbegun true x.outputs changes.unasking);
      sends = sends-nothing s m input o x is (asks-none true m o.knows.incarnation x.outputs changes.unasking);
      ready = keeps-ready s m input o x is (λ e. absurd (no-way (sym changes.ready ∙ e)));
      leads = λ _. ground.behind.idle.leads leads;
      turn = keeps-turn s m input o x is changes.turn;
      key = led.key;
      key_is = led.seen;
      overlaps = overlaps-shown s m input o x led.key (set_members (published_in snapshot)) is led.standbys over;
      notes = notes-shown s m input o x is changes;
    })) (subst (GrowsByConnected o (s.members m).required) (sym is.required) grows)

-- on a granted write of the sync key
pub settles-lawful : {quorum : ℕ} (now : Ticks) (sequence : ℕ) (grant : Granted) (snapshot : SnapshotFacts)
    (s : State) (m : ℕ) (input : AgentInput) (o b x : Outcome) → Ground s m quorum o b
    → (awaited : IsAwaitedWrite sequence grant o.knows)
    → (hears : HearsWrite s m input.heard sequence awaited.waited.question o.knows)
    → is_leader b.role ≡ true → Changes s m o x
    → Overlaps s.member_count hears.key.standbys hears.key.quorum (confirmers_in x.machine.replication.required)
    → GrowsByConnected o (s.members m).required (confirmers_in x.machine.replication.required)
    → Lawful quorum now sequence grant snapshot s m input o x
settles-lawful now sequence grant snapshot s m input o b x ground awaited hears leads changes over grows onward is =
    lawful-as now (HeardGranted sequence grant snapshot) (Some snapshot) s m input o x ground.stands is onward
    (waits-nothing o x changes.waited)
    (SettlingRequired (record {
      sync_grant = write_granted_as m sequence hears.key o;
      hears = hears-write s m sequence grant input o awaited hears;
      live = keeps-live s m input o x ground.stands is (asks-unbegun true x.outputs changes.unasking);
      sends = sends-nothing s m input o x is (asks-none true m o.knows.incarnation x.outputs changes.unasking);
      ready = keeps-ready s m input o x is (λ e. absurd (no-way (sym changes.ready ∙ e)));
      leads = λ _. ground.behind.idle.leads leads;
      turn = keeps-turn s m input o x is changes.turn;
      overlaps = overlaps-shown s m input o x hears.key hears.key.standbys is refl over;
      notes = notes-shown s m input o x is changes;
    })) (subst (GrowsByConnected o (s.members m).required) (sym is.required) grows)

-- a leader that asks for standbys that are required, and are published already or
-- have confirmed the noted position, of which no fewer may lack a commit than before
pub publishes-lawful : {quorum : ℕ} (now : Ticks) (sequence : ℕ) (grant : Granted) (snapshot : SnapshotFacts)
    (s : State) (m : ℕ) (input : AgentInput) (o b : Outcome) (w : WatchdogAfter b) → Ground s m quorum o b
    → Leased s m sequence grant snapshot input o → (led : IsLedBy s m quorum snapshot o)
    → is_leader b.role ≡ true → (settling : Settling) (set : MemberSet)
    → IsWithin (set_members set) (set_members (required_members o.machine.replication.required))
    → ((n : ℕ) → set_members set n ≡ true → (set_members (published_in snapshot) n ≡ true) ⊎
    HasReached o.machine.replication.confirmed_positions (noted_position o.knows.noted) n)
    → led.key.quorum
    ≤ quorum_written (txns.Sync (sync_txns.SetSync grant.revision (expected_of (sync_read_in snapshot)) set None))
    → Lawful quorum now sequence grant snapshot s m input o
    (naming now grant.revision settling set (led_by b w grant.revision snapshot))
publishes-lawful now sequence grant snapshot s m input o b w ground leased led leads settling set required each fewer
    onward is =
    let fed : Outcome = led_by b w grant.revision snapshot in
    let x : Outcome = naming now grant.revision settling set fed in
    let fed-quiet : All (Stands true) fed.outputs =
    w.quiet true (ground.behind.idle.quiet true (λ _ _. refl) ground.quiet) in
    let txn : Txn = txns.Sync (sync_txns.SetSync grant.revision (expected_of (sync_read_in snapshot)) set None) in
    let output : Output = outputs.Message (outgoing.Send targets.Store (b.knows.sequence + 1) (bodies.Request txn)) in
    let request : SyncRequest = publish_request m o.knows.incarnation (b.knows.sequence + 1) grant.revision
    (expected_of (sync_read_in snapshot)) set None in
    let lives : (s.members m).live ≡ true = leads-live s m o b ground.stands ground.behind leads in
    let was-published : (n : ℕ) → set_members (published_in snapshot) n ≡ true → led.key.standbys n ≡ true =
    λ n e. ap (λ (f : ℕ → Bool). f n) led.standbys ∙ e in
    lawful-as now (HeardGranted sequence grant snapshot) (Some snapshot) s m input o x ground.stands is onward
    (waits-new o x _ refl (omega (arith, ground.behind.last)))
    (Publishing (record {
      grant = lease_granted_as m sequence grant.revision snapshot o;
      hears = hears-lease s m sequence grant snapshot input o leased.hears leased.awaited;
      keeps = keeps-server s m input o x ground.stands is
          (last-unbegun true fed.outputs output (unasking true fed.outputs fed-quiet) refl)
          (ap (λ (r : Replication). r.required) ground.behind.replication);
      live = lives;
      led = ground.behind.idle.leads leads;
      ready = keeps-ready s m input o x is (λ e. absurd (no-way e));
      noted = keeps-noted s m input o x is ground.behind.idle.noted;
      turn = keeps-turn s m input o x is ground.behind.turn;
      key = led.key;
      key_is = led.seen;
      request = request;
      sends = sends-one s m input o x request is (last-request true m o.knows.incarnation fed.outputs output fed-quiet)
          refl refl (omega (arith, ground.behind.last)) (omega arith) refl;
      leader = refl;
      sync = compared-as (sync_read_in snapshot) ∙ ap sync_revision_of led.seen;
      standbys = set_members set;
      quorum = quorum_written txn;
      aim = refl;
      overlaps = subst (λ (n : Confirmers). Overlaps s.member_count (set_members set) (quorum_written txn) n)
          (sym ground.stands.required)
          (covers-required s.member_count (quorum_written txn)
          (set_members set) o.machine.replication.required required);
      connected = λ n e. elim (each n e) [
        | inl was ↦ inl (was-published n was)
        | inr reached ↦
            inr (confirmed-any s m (noted_position o.knows.noted) n
            (has-confirmed s m o (noted_position o.knows.noted) n ground.stands reached))
      ];
      may = Added (λ n e. elim (each n e) [
        | inl was ↦ inl (was-published n was)
        | inr reached ↦ inr (has-confirmed s m o (noted_position o.knows.noted) n ground.stands reached)
      ]) fewer;
    })) tt
