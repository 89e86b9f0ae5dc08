-- Each granted request is lawful for kept commits: who takes the leader key, claims and begins, and all rows together.
use Rattle.std.proofs.Common.{◌≡◌, ℕ, ◌+◌, ◌≤◌, Bool, true, false, Option, Some, None, List, All, refl, sym, subst, ap, ◌∙◌, arith, inl, inr, slice_get}
use Rattle.pat_base.specs.declared.lsn.Lsn.{Lsn}
use Rattle.pat_base.specs.declared.member_set.MemberSet.{MemberSet}
use Rattle.pat_base.specs.declared.server_state.Required.{Required}
use Rattle.pat_base.specs.declared.server_state.Required.TheVariants as requireds
use Rattle.pat_base.specs.declared.server_state.State.{State as ServerState}
use Rattle.pat_base.specs.declared.server_state.State.TheVariants as states
use Rattle.pat_base.specs.declared.ticks.Ticks.{Ticks}
use Rattle.pat_base.specs.ServerState.{live}
use Rattle.lease_store.specs.declared.granted.Granted.{Granted}
use Rattle.lease_model.proofs.Tools.{not-false}
use Rattle.store_keys.specs.declared.txn.Txn.{Txn}
use Rattle.store_keys.specs.declared.txn.Txn.TheVariants as txns
use Rattle.store_keys.specs.declared.txn.SyncTxn.TheVariants as sync_txns
use Rattle.pg_model.specs.declared.status.ServerStatus.{ServerStatus}
use Rattle.pg_model.specs.Facts.{has_data}
use Rattle.cluster_view.specs.KeyValues.{sync_in}
use Rattle.cluster_view.specs.Snapshots.{SnapshotFacts}
use Rattle.event_book.specs.declared.agent_note.AgentNote.TheVariants as agent_notes
use Rattle.event_book.specs.declared.message.Body.TheVariants as bodies
use Rattle.event_book.specs.declared.reason.Reason.TheVariants.{StartTooLong, WatchdogNotArmed}
use Rattle.event_book.specs.Functions.{set_members}
use Rattle.sync_state.specs.Published.{published_in}
use Rattle.sync_state.specs.Sets.{both, either, is_within}
use Rattle.sync_state.specs.Standbys.{required_members, noted_position}
use Rattle.commit_actions.specs.Keys.{Confirmers, Narrows, strict_quorum}
use Rattle.commit_actions.specs.Stored.{quorum_written}
use Rattle.commit_actions.specs.Flights.{SyncRequest}
use Rattle.commit_actions.specs.States.{Agent, State}
use Rattle.commit_actions.specs.Inputs.{AgentInput, WinsByName, Arming, TakingOver, Promoting, sync_revision_of}
use Rattle.commit_actions.specs.Carried.{IsSound}
use Rattle.commit_actions.specs.Past.{confirmers_in, claim_request}
use Rattle.agent_model.specs.declared.heard.Heard.TheVariants.{Granted as HeardGranted}
use Rattle.agent_model.specs.declared.knowledge.Question.{Question}
use Rattle.agent_model.specs.declared.knowledge.Question.TheVariants.{Claiming, Syncing}
use Rattle.agent_model.specs.declared.knowledge.Settling.TheVariants.{KeepsList, NamesStandbys}
use Rattle.agent_model.specs.declared.knowledge.SyncRead.{SyncRead}
use Rattle.agent_model.specs.declared.machine.Replication.{Replication}
use Rattle.agent_model.specs.declared.output.Output.{Output}
use Rattle.agent_model.specs.declared.output.Output.TheVariants as outputs
use Rattle.agent_model.specs.declared.output.Noting.TheVariants as notings
use Rattle.agent_model.specs.declared.output.Outgoing.TheVariants as outgoing
use Rattle.agent_model.specs.declared.output.ServerOrder.TheVariants as orders
use Rattle.agent_model.specs.declared.output.Telling.TheVariants as tellings
use Rattle.agent_model.specs.declared.output.Target.TheVariants as targets
use Rattle.agent_model.specs.declared.why.Why.TheVariants.{HandOver}
use Rattle.agent_model.specs.declared.who.Who.{Who}
use Rattle.agent_model.specs.Acting.{deadline_after, ending_server, arming, requiring, waiting_no_more}
use Rattle.agent_model.specs.Agents.{Ready, Ending, Outcome, is_leader, is_ready}
use Rattle.agent_model.specs.Reconciling.{reconciled}
use Rattle.agent_model.specs.Claiming.{begins, claims, passing, postpones, can_begin_on_claim, told_passing}
use Rattle.agent_commit_law.specs.Committing.{sync_seen, StandsToCommit, IsAwaitedWrite, IsAskedBy, HearsWrite, HearsGranted, IsSynchronousSnapshot, FollowsSynchronousMode, AsksInSynchronousMode, ListsMember, is_claim_outside_sync, IsLawfulAs}
use Rattle.agent_commit_law.proofs.CommitShown.{IsShown}
use Rattle.agent_model.specs.Decisions.{cannot_arm, confirming, takes_over, gives_back, may_create, granted}
use Rattle.agent_model.specs.HandingOver.{checking, hands_over}
use Rattle.agent_model.specs.Outputs.{has_one, with_output}
use Rattle.agent_model.specs.Planning.{leader_view, noting}
use Rattle.agent_roles.specs.Powers.{IsAwaitedLease}
use Rattle.agent_model.specs.Racing.{unheard}
use Rattle.agent_model.specs.Synchronous.{expected_of, is_named_if, unnamed, waiting_for}
use Rattle.agent_commit_law.proofs.CommitAsking.{before-asks, leases-on}
use Rattle.agent_commit_law.proofs.CommitGrants.{Ground, Lawful, rests, Leased, unready, changes-lawful, settles-lawful, publishes-lawful}
use Rattle.agent_commit_law.proofs.CommitGrounds.{IsBehind, before-behind, before-unready, lease-before, write-before, lease_granted_as, write_granted_as, hears-lease, hears-write, leads-live, IsLedBy, key-covers, led-by, led-covers, written, compared-as, wins-named, noted-end, none-lacks}
use Rattle.agent_commit_law.proofs.CommitIdling.{Idle, idle-then, waits-nothing, waits-new, stays, falls, same-idle, quiet-idle, postpones-idle, failover-idle}
use Rattle.agent_commit_law.proofs.CommitLeaders.{WatchdogAfter, as-it-was, fed-by, led_by}
use Rattle.agent_commit_law.proofs.CommitLawful.{lawful-as, keeps-turn, keeps-server, keeps-ready, sends-nothing, sends-one}
use Rattle.agent_commit_law.proofs.CommitGrowing.{narrows-grows, required-needs, wanted-connected}
use Rattle.agent_commit_law.proofs.CommitQuiet.{Stands, IsUnasking, asks-last, quietly, quiet-armed, quiet-none, quiet-unbegun, last-unbegun, passing-unasked, unasked}
use Rattle.agent_commit_law.proofs.CommitSteps.{IsForeign, wanted_at, confirmed_at, required_at, PlanSteps, LedSteps, LeaseSteps, WriteSteps, granted-steps}
use Rattle.agent_commit_law.proofs.CommitTools.{IsWithin, HasReached, within-set, both-first, either-first, either-one, either-within, unnamed-confirmers, waiting-covers, waiting-narrows, confirmed-reached}
use Rattle.agent_roles.proofs.Fitting.{ended-for}
use Rattle.agent_roles.proofs.Granting.{Told, one-before, one-last}
use Rattle.agent_roles.proofs.GoingOn.{onward-then}
use Rattle.agent_roles.proofs.Knowing.{before-onward, granted-onward}
use Rattle.agent_roles.proofs.Living.{no-way}
use Rattle.agent_cases.proofs.Rows.{dropping}
use Rattle.agent_cases.proofs.Grants.{FailoverRows}
use Rattle.agent_model.specs.Pausing.{is_paused}
use Rattle.agent_roles.proofs.Staying.{stays-unpaused}

-- where nobody passes the sync key, that names who claims it
inside-named : (named : Bool) (outs : List Output) (claim : Output)
    → has_one is_claim_outside_sync (with_output claim (told_passing named outs)) ≡ false → named ≡ true
inside-named true outs claim inside = refl
inside-named false outs claim inside =
    absurd (not-false (has_one is_claim_outside_sync (with_output claim (told_passing false outs))) inside
    (one-before is_claim_outside_sync (with_output (outputs.Tell tellings.ClaimsOutsideSync) outs) claim
    (one-last is_claim_outside_sync outs (outputs.Tell tellings.ClaimsOutsideSync) refl)))

-- a member that takes the key claims the sync key that its turn read, which names it
arms-lawful : (now ttl : Ticks) (sequence : ℕ) (grant : Granted) (snapshot : SnapshotFacts) (s : State)
    (m : ℕ) (input : AgentInput) (o b : Outcome) → Ground s m strict_quorum o b
    → Leased s m sequence grant snapshot input o → may_create b.role ≡ true → is_ready o.role ≡ false
    → Lawful strict_quorum now sequence grant snapshot s m input o
    (claims now grant.revision (passing (arming now ttl (Told snapshot b))))
arms-lawful now ttl sequence grant snapshot s m input o b ground leased creates unready-before onward is =
    let behind : IsBehind o b = ground.behind in
    let arm : Outcome = arming now ttl (Told snapshot b) in
    let noted : Outcome = passing arm in
    let x : Outcome = claims now grant.revision noted in
    let still : All (IsUnasking true) noted.outputs = passing-unasked true arm
    (quiet-armed true (deadline_after now ttl b.machine.watchdog) b.outputs
    (behind.idle.quiet true (λ _ _. refl) ground.quiet)) in
    let output : Output = outputs.Message (outgoing.Send targets.Store (b.knows.sequence + 1)
    (bodies.Request (txns.Sync (sync_txns.Claim grant.revision (expected_of b.knows.turn_sync))))) in
    let request : SyncRequest =
    claim_request m o.knows.incarnation (b.knows.sequence + 1) grant.revision (expected_of b.knows.turn_sync) in
    let named : WinsByName (sync_seen b.knows.turn_sync) m = wins-named b.knows.who.me m b.knows.turn_sync
    (none-lacks b.knows.turn_sync) (ap (λ (w : Who). w.me.number) behind.who ∙ ground.stands.me)
    (inside-named (is_named_if b.knows.who.me b.knows.turn_sync) arm.outputs output is.inside) in
    lawful-as now (HeardGranted sequence grant snapshot) (Some snapshot) s m input o x ground.stands is onward
    (waits-new o x _ refl (omega (arith, behind.last)))
    (Arming (record {
      grant = lease_granted_as m sequence grant.revision snapshot o;
      hears = hears-lease s m sequence grant snapshot input o leased.hears leased.awaited;
      keeps = keeps-server s m input o x ground.stands is (last-unbegun true noted.outputs output still refl)
          (ap (λ (r : Replication). r.required) behind.replication);
      not_live = ground.stands.live
          ∙ (sym (ap (λ (y : ServerStatus). live y.state) behind.server)
          ∙ ended-for b.role (live b.machine.server.state) creates behind.fits);
      turn = keeps-turn s m input o x is behind.turn;
      request = request;
      sends = sends-one s m input o x request is (asks-last true m o.knows.incarnation noted.outputs output still)
          refl refl (omega (arith, behind.last)) (omega arith) refl;
      aim = refl;
      leader = refl;
      sync = compared-as b.knows.turn_sync ∙ ap (λ (r : Option SyncRead). sync_revision_of (sync_seen r)) behind.turn;
      counts = ground.stands.counts;
      named = inl (subst (λ (r : Option SyncRead). WinsByName (sync_seen r) m) behind.turn named);
    })) ((leased.awaited, refl, unready-before), ap (λ (a : Agent). a.ready) is.agent)

-- a server that runs without its lease is taken over, and the end of its log is noted
takes-over-lawful : {quorum : ℕ} (now ttl : Ticks) (sequence : ℕ) (grant : Granted) (snapshot : SnapshotFacts)
    (s : State) (m : ℕ) (input : AgentInput) (o b : Outcome) → Ground s m quorum o b
    → Lawful quorum now sequence grant snapshot s m input o
    (takes_over now grant.revision (arming now ttl (Told snapshot b)))
takes-over-lawful now ttl sequence grant snapshot s m input o b ground onward is =
    let behind : IsBehind o b = ground.behind in
    let x : Outcome = takes_over now grant.revision (arming now ttl (Told snapshot b)) in
    let quiet : All (Stands true) x.outputs = quiet-armed true
    (deadline_after now ttl b.machine.watchdog) b.outputs (behind.idle.quiet true (λ _ _. refl) ground.quiet) in
    lawful-as now (HeardGranted sequence grant snapshot) (Some snapshot) s m input o x ground.stands is onward
    (waits-nothing o x refl)
    (TakingOver (record {
      keeps = keeps-server s m input o x ground.stands is (quiet-unbegun true x.outputs quiet)
          (ap (λ (r : Replication). r.required) behind.replication);
      sends = sends-nothing s m input o x is (quiet-none true m o.knows.incarnation x.outputs quiet);
      ready = keeps-ready s m input o x is (λ e. absurd (no-way e));
      noted = ap (λ (a : Agent). a.noted) is.agent ∙ noted-end s m o b ground.stands behind;
      turn = keeps-turn s m input o x is behind.turn;
    })) tt

pub begins-data : (was_primary : Bool) (state : ServerState) → can_begin_on_claim was_primary state ≡ true
    → has_data state ≡ true
begins-data was_primary states.Replica e = refl
begins-data was_primary states.Stopped e = refl
begins-data was_primary states.Crashed e = refl
begins-data was_primary states.Creating e = absurd (no-way e)
begins-data was_primary (states.Starting as_primary at) e = absurd (no-way e)
begins-data was_primary states.Primary e = absurd (no-way e)
begins-data was_primary (states.Stopping was at) e = absurd (no-way e)

-- who was about to begin begins on the grant of its claim
promotes-lawful : {quorum : ℕ} (now : Ticks) (sequence revision : ℕ) (grant : Granted)
    (snapshot : SnapshotFacts) (s : State) (m : ℕ) (input : AgentInput) (o b : Outcome)
    → Ground s m quorum o b → (awaited : IsAwaitedWrite sequence grant o.knows)
    → (hears : HearsWrite s m input.heard sequence awaited.waited.question o.knows)
    → awaited.waited.question ≡ Claiming → b.role ≡ Ready revision
    → can_begin_on_claim b.machine.server.was_primary b.machine.server.state ≡ true
    → Lawful quorum now sequence grant snapshot s m input o (begins now revision (Told snapshot b))
promotes-lawful now sequence revision grant snapshot s m input o b ground awaited hears question role can onward is =
    let behind : IsBehind o b = ground.behind in
    let x : Outcome = begins now revision (Told snapshot b) in
    let required : Output = outputs.Require (unnamed b.knows.turn_settings) in
    let all : All (IsUnasking true) (with_output required b.outputs) =
    unasked true b.outputs (unnamed b.knows.turn_settings) (behind.idle.quiet true (λ _ _. refl) ground.quiet) in
    let asked : (n : ℕ) → hears.key.standbys n ≡ false =
    subst (λ (q : Question). IsAskedBy q hears.key) question hears.asked in
    lawful-as now (HeardGranted sequence grant snapshot) (Some snapshot) s m input o x ground.stands is onward
    (waits-nothing o x refl)
    (Promoting (record {
      sync_grant = write_granted_as m sequence hears.key o;
      hears = hears-write s m sequence grant input o awaited hears;
      was_ready = behind.idle.ready (rw role refl);
      ready = ap (λ (a : Agent). a.ready) is.agent;
      required = is.required ∙ unnamed-confirmers b.knows.turn_settings;
      sends = sends-nothing s m input o x is
          (asks-last true m o.knows.incarnation (with_output required b.outputs) (outputs.Server orders.Begin) all);
      turn = keeps-turn s m input o x is behind.turn;
      log =
          ground.stands.has_log (ap (λ (y : ServerStatus). has_data y.state) (sym behind.server)
          ∙ begins-data b.machine.server.was_primary b.machine.server.state can);
      claim = asked;
    })) tt

-- a withdrawal is granted: the required list shrinks to the standbys that it left
withdrawn-lawful : (now : Ticks) (sequence : ℕ) (grant : Granted) (snapshot : SnapshotFacts) (s : State)
    (m : ℕ) (input : AgentInput) (o b : Outcome) → Ground s m strict_quorum o b
    → (awaited : IsAwaitedWrite sequence grant o.knows)
    → (hears : HearsWrite s m input.heard sequence awaited.waited.question o.knows)
    → (set : MemberSet) → awaited.waited.question ≡ Syncing (NamesStandbys set) → is_leader b.role ≡ true
    → Lawful strict_quorum now sequence grant snapshot s m input o
    (requiring (waiting_for (Told snapshot b).knows.settings set) (Told snapshot b))
withdrawn-lawful now sequence grant snapshot s m input o b ground awaited hears set question leads =
    let behind : IsBehind o b = ground.behind in
    let required : Required = waiting_for (Told snapshot b).knows.settings set in
    let x : Outcome = requiring required (Told snapshot b) in
    let lives : (s.members m).live ≡ true = leads-live s m o b ground.stands behind leads in
    let sync : s.sync ≡ Some hears.key =
    written s m sequence grant input o awaited hears ground.sound ground.stands lives in
    let asked : (n : ℕ) → hears.key.standbys n ≡ set_members set n =
    subst (λ (q : Question). IsAskedBy q hears.key) question hears.asked in
    let covers : IsWithin hears.key.standbys (set_members (required_members o.machine.replication.required)) =
    key-covers s m o hears.key ground.sound ground.stands lives sync in
    let narrows : Narrows (s.members m).required (confirmers_in required) =
    subst (λ (n : Confirmers). Narrows n (confirmers_in required)) (sym ground.stands.required)
    (waiting-narrows o.machine.replication.required (Told snapshot b).knows.settings set
    (λ n e. covers n (asked n ∙ e))) in
    settles-lawful now sequence grant snapshot s m input o b x ground awaited hears leads (record {
      ready = unready b.role leads;
      turn = behind.turn;
      waited = refl;
      unasking = unasked true b.outputs required (behind.idle.quiet true (λ _ _. refl) ground.quiet);
      notes = inr (narrows, behind.idle.noted);
    })
    (waiting-covers s.member_count hears.key.quorum hears.key.standbys
    (Told snapshot b).knows.settings set (λ n e. sym (asked n) ∙ e))
    (narrows-grows o (s.members m).required (confirmers_in required) narrows)

-- a renewed leader without a step
pub led-idle : (revision : ℕ) (snapshot : SnapshotFacts) (b : Outcome) (w : WatchdogAfter b)
    → is_leader b.role ≡ true → Idle None b (led_by b w revision snapshot)
led-idle revision snapshot b w leads = record {
  required = refl;
  ready = λ e. absurd (no-way e);
  leads = λ _. leads;
  noted = refl;
  turn = inl refl;
  waits = waits-nothing b (led_by b w revision snapshot) refl;
  quiet = λ leads h q. w.quiet leads q;
}

told-idle : (snapshot : SnapshotFacts) (b : Outcome) → Idle None b (Told snapshot b)
told-idle snapshot b =
    stays None b (Told snapshot b) refl refl refl refl (waits-nothing b (Told snapshot b) refl) (λ leads h q. q)

-- what is required behind what comes before an input was required before it
required-before : (o b : Outcome) → IsBehind o b → set_members (required_at b) ≡ set_members (required_at o)
required-before o b behind = ap (λ (r : Replication). set_members (required_members r.required)) behind.replication

reached-before : (o b : Outcome) (n : ℕ) → IsBehind o b
    → HasReached b.machine.replication.confirmed_positions (noted_position b.knows.noted) n
    → HasReached o.machine.replication.confirmed_positions (noted_position o.knows.noted) n
reached-before o b n behind reached =
    subst (λ (r : Replication). HasReached r.confirmed_positions (noted_position o.knows.noted) n) behind.replication
    (subst (λ (l : Option Lsn). HasReached b.machine.replication.confirmed_positions (noted_position l) n)
    behind.idle.noted reached)

-- where none may lack a commit, any number may be published in place
none-above : (few more : ℕ) → few ≤ strict_quorum → few ≤ more
none-above few more none = omega (arith, none)

-- a leader's step with its standbys
plan-lawful : (now : Ticks) (sequence : ℕ) (grant : Granted) (snapshot : SnapshotFacts) (s : State) (m : ℕ)
    (input : AgentInput) (o b : Outcome) (w : WatchdogAfter b) → Ground s m strict_quorum o b
    → Leased s m sequence grant snapshot input o → is_leader b.role ≡ true
    → PlanSteps (Lawful strict_quorum now sequence grant snapshot s m input o) now grant.revision snapshot
    (led_by b w grant.revision snapshot)
plan-lawful now sequence grant snapshot s m input o b w ground leased leads =
    let behind : IsBehind o b = ground.behind in
    let fed : Outcome = led_by b w grant.revision snapshot in
    let quiet : All (Stands true) fed.outputs = w.quiet true (behind.idle.quiet true (λ _ _. refl) ground.quiet) in
    let lives : (s.members m).live ≡ true = leads-live s m o b ground.stands behind leads in
    let led : IsLedBy s m strict_quorum snapshot o =
    led-by s m sequence grant snapshot input o ground.sound ground.stands leased.hears leased.awaited lives in
    let covers : IsWithin (set_members (published_in snapshot)) (set_members (required_at o)) =
    led-covers s m snapshot o ground.sound ground.stands lives led in
    let fewer : (txn : Txn) → led.key.quorum ≤ quorum_written txn =
    λ txn. none-above led.key.quorum (quorum_written txn) led.few in
    let published : MemberSet = published_in snapshot in
    let wanted : MemberSet = wanted_at now snapshot fed in
    let required : ℕ → Bool = set_members (required_at o) in
    let within : is_within wanted (required_at b) ≡ true → IsWithin (set_members wanted) required =
    λ e. subst (IsWithin (set_members wanted)) (required-before o b behind) (within-set wanted (required_at b) e) in
    record {
      kept = rests now sequence grant snapshot s m input o b fed ground (led-idle grant.revision snapshot b w leads);
      mark = λ foreign.
          absurd (led.named (subst (λ (w : Who). IsForeign w.me.number (sync_in snapshot)) behind.who foreign));
      withdraws = publishes-lawful now sequence grant snapshot s m input o b w ground leased led leads
          (NamesStandbys (both published wanted)) (both published wanted)
          (λ n e. covers n (both-first published wanted n e)) (λ n e. inl (both-first published wanted n e)) (fewer _);
      adds = let set : MemberSet = either (required_at b) wanted in
          changes-lawful now sequence grant snapshot s m input o b
          (requiring (requireds.All set) (noting fed)) ground leased led leads (record {
            ready = refl;
            turn = behind.turn;
            waited = refl;
            unasking = unasked true fed.outputs (requireds.All set) quiet;
            notes = inl (noted-end s m o b ground.stands behind);
          })
          (λ n e. either-first (required_at b) wanted n
          (subst (λ (f : ℕ → Bool). f n ≡ true) (sym (required-before o b behind)) (covers n e)))
          (λ n e. elim (either-one (required_at b) wanted n e) [
            | inl before-it ↦
                inl (subst (λ (confirmers : Confirmers). ListsMember confirmers n) (sym ground.stands.required)
                (required-needs o.machine.replication.required n
                (subst (λ (f : ℕ → Bool). f n ≡ true) (required-before o b behind) before-it)))
            | inr new ↦ let there = wanted-connected (leader_view now fed.knows fed.machine) snapshot n new in inr (
              there.0,
              subst (λ (r : Replication). slice_get r.confirmed_positions n ≡ Some (Some there.0))
                  behind.replication there.1,
            )
          ]);
      publishes = λ covered confirmed. publishes-lawful now sequence grant snapshot s m input o b w ground
          leased led leads KeepsList wanted (within covered)
          (λ n e.
          inr (reached-before o b n behind
          (confirmed-reached (leader_view now fed.knows fed.machine) n
          (within-set wanted (confirmed_at now fed) confirmed n e))))
          (fewer _);
      drops = λ covered. let set : MemberSet = either published wanted in
          let list : Required = waiting_for fed.knows.settings set in
          let narrows : Narrows (s.members m).required (confirmers_in list) =
          subst (λ (n : Confirmers). Narrows n (confirmers_in list)) (sym ground.stands.required)
          (waiting-narrows o.machine.replication.required fed.knows.settings set
          (either-within published wanted required covers (within covered))) in
          changes-lawful now sequence grant snapshot s m input o b
          (requiring list fed) ground leased led leads (record {
            ready = refl;
            turn = behind.turn;
            waited = refl;
            unasking = unasked true fed.outputs list quiet;
            notes = inr (narrows, behind.idle.noted);
          })
          (waiting-covers s.member_count led.key.quorum (set_members published) fed.knows.settings set
          (either-first published wanted))
          (narrows-grows o (s.members m).required (confirmers_in list) narrows);
    }

-- what it does under a failover key leaves what commits depend on
failover-lawful : {quorum : ℕ} (now : Ticks) (sequence : ℕ) (grant : Granted) (snapshot : SnapshotFacts)
    (s : State) (m : ℕ) (input : AgentInput) (o b : Outcome) (watch : WatchdogAfter b) → Ground s m quorum o b
    → is_leader b.role ≡ true
    → FailoverRows (Lawful quorum now sequence grant snapshot s m input o) now grant.revision
    (led_by b watch grant.revision snapshot)
failover-lawful {quorum = quorum} now sequence grant snapshot s m input o b watch ground leads =
    let led : Outcome = led_by b watch grant.revision snapshot in
    let u : Outcome = unheard led in
    let w : Outcome = waiting_no_more u in
    let idle : FailoverRows (Idle None b) now grant.revision led =
    failover-idle None now grant.revision b led (led-idle grant.revision snapshot b watch leads) (omega arith) in
    let still : (x : Outcome) → Idle None b x → Lawful quorum now sequence grant snapshot s m input o x =
    λ x after. rests now sequence grant snapshot s m input o b x ground after in
    record {
      kept = still led idle.kept;
      clears = λ compared. still (dropping compared led) (idle.clears compared);
      asks = λ candidate. still (checking now candidate u) (idle.asks candidate);
      judges = record {
        kept = still w idle.judges.kept;
        clears = λ compared. still (dropping compared w) (idle.judges.clears compared);
        hands = λ candidate. still (hands_over now grant.revision candidate w) (idle.judges.hands candidate);
      };
    }

-- a leader under its lease
led-lawful : (now : Ticks) (sequence : ℕ) (grant : Granted) (snapshot : SnapshotFacts) (s : State) (m : ℕ)
    (input : AgentInput) (o b : Outcome) (w : WatchdogAfter b) → Ground s m strict_quorum o b
    → Leased s m sequence grant snapshot input o → is_leader b.role ≡ true
    → LedSteps (Lawful strict_quorum now sequence grant snapshot s m input o) now grant.revision snapshot
    (led_by b w grant.revision snapshot)
led-lawful now sequence grant snapshot s m input o b w ground leased leads =
    let led : Outcome = led_by b w grant.revision snapshot in
    let ended : Outcome = record (ending_server now StartTooLong led) { role = Ending grant.revision HandOver } in
    record {
      ends = rests now sequence grant snapshot s m input o b ended ground
          (falls None b ended refl refl refl refl refl (waits-nothing b ended refl)
          (λ leads h q. quietly leads led.outputs (outputs.Server (orders.Stop StartTooLong)) (w.quiet leads q) tt));
      plans = plan-lawful now sequence grant snapshot s m input o b w ground leased leads;
      fails_over = failover-lawful now sequence grant snapshot s m input o b w ground leads;
    }

-- what each role does with a lease
lease-lawful : (now ttl : Ticks) (sequence : ℕ) (grant : Granted) (snapshot : SnapshotFacts) (s : State)
    (m : ℕ) (input : AgentInput) (o b : Outcome) → Ground s m strict_quorum o b
    → Leased s m sequence grant snapshot input o → (may_create b.role ≡ true → is_ready o.role ≡ false)
    → LeaseSteps (Lawful strict_quorum now sequence grant snapshot s m input o) now ttl grant.revision snapshot b
lease-lawful now ttl sequence grant snapshot s m input o b ground leased unready-before =
    let told : Outcome = Told snapshot b in
    let stopped : Outcome = ending_server now WatchdogNotArmed told in
    let back : Outcome = gives_back grant.revision told in
    let refused : Outcome = cannot_arm grant.revision told in
    let still : (x : Outcome) → Idle None b x → Lawful strict_quorum now sequence grant snapshot s m input o x =
    λ x idle. rests now sequence grant snapshot s m input o b x ground idle in
    record {
      other = still told (told-idle snapshot b);
      leads =
          λ held is. led-lawful now sequence grant snapshot s m input o b (fed-by now ttl b) ground leased (rw is refl);
      keeps = λ held is. led-lawful now sequence grant snapshot s m input o b (as-it-was b) ground leased (rw is refl);
      stops = λ _. still stopped
          (stays None b stopped refl refl refl refl (waits-nothing b stopped refl)
          (λ leads h q. quietly leads b.outputs (outputs.Server (orders.Stop WatchdogNotArmed)) q tt));
      takes_over = λ _. takes-over-lawful now ttl sequence grant snapshot s m input o b ground;
      returns = still back
          (falls None b back refl refl refl refl refl (waits-nothing b back refl)
          (λ leads h q. quietly leads b.outputs _ q tt));
      refuses = still refused
          (falls None b refused refl refl refl refl refl (waits-nothing b refused refl)
          (λ leads h q. quietly leads (with_output (outputs.Note (notings.Agent agent_notes.CannotArm)) b.outputs) _
          (quietly leads b.outputs (outputs.Note (notings.Agent agent_notes.CannotArm)) q tt) tt));
      claims = λ creates.
          arms-lawful now ttl sequence grant snapshot s m input o b ground leased creates (unready-before creates);
    }

-- what a granted write of the sync key comes to
write-lawful : (now : Ticks) (sequence : ℕ) (grant : Granted) (snapshot : SnapshotFacts) (s : State) (m : ℕ)
    (input : AgentInput) (o b : Outcome) → Ground s m strict_quorum o b
    → (awaited : IsAwaitedWrite sequence grant o.knows)
    → HearsWrite s m input.heard sequence awaited.waited.question o.knows
    → FollowsSynchronousMode o.knows.turn_settings.synchronous_mode awaited.waited.question
    → WriteSteps (Lawful strict_quorum now sequence grant snapshot s m input o) now awaited.waited.question snapshot b
write-lawful now sequence grant snapshot s m input o b ground awaited hears follows =
    let told : Outcome = Told snapshot b in record {
      other = rests now sequence grant snapshot s m input o b told ground (told-idle snapshot b);
      begins = λ revision question role can.
          promotes-lawful now sequence revision grant snapshot s m input o b ground awaited hears question role can;
      postpones = λ revision. rests now sequence grant snapshot s m input o b (postpones revision told) ground
          (idle-then None b told (postpones revision told) (told-idle snapshot b)
          (postpones-idle None revision told) (omega arith));
      lists = λ set question leads.
          withdrawn-lawful now sequence grant snapshot s m input o b ground awaited hears set question leads;
      empties = λ question. absurd
          (subst (λ (q : Question). FollowsSynchronousMode o.knows.turn_settings.synchronous_mode q) question follows);
    }

-- the law doesn't see whether the failsafe set is confirmed
confirmed-lawful : {quorum : ℕ} (now : Ticks) (sequence : ℕ) (grant : Granted) (snapshot : SnapshotFacts) (s : State)
    (m : ℕ) (input : AgentInput) (o after : Outcome) → Lawful quorum now sequence grant snapshot s m input o after
    → Lawful quorum now sequence grant snapshot s m input o (confirming snapshot after)
confirmed-lawful now sequence grant snapshot s m input o after does onward is = does
    (record {
      who = onward.who;
      incarnation = onward.incarnation;
      last = onward.last;
      waits = onward.waits;
      known = onward.known;
      informed = onward.informed;
      failsafe = onward.failsafe;
      leader = onward.leader;
      pauses = onward.pauses;
      hold = onward.hold;
      ends = onward.ends;
      counts = onward.counts;
    })
    (record {
      agent = is.agent;
      live = is.live;
      required = is.required;
      sends = is.sends;
      holder_was_live = is.holder_was_live;
      inside = is.inside;
    })

-- a granted request
pub grant-commits : (now : Ticks) (sequence : ℕ) (grant : Granted) (snapshot : SnapshotFacts) (s : State)
    (m : ℕ) (input : AgentInput) (o : Outcome) → IsSound s → StandsToCommit s m strict_quorum o
    → All (Stands true) o.outputs → is_paused o.knows ≡ false → AsksInSynchronousMode o.knows
    → IsSynchronousSnapshot snapshot → HearsGranted s m input.heard sequence grant snapshot o.knows
    → IsShown s m o (granted now sequence grant snapshot (reconciled now o)) input
    → IsLawfulAs now (HeardGranted sequence grant snapshot) strict_quorum o s m input
grant-commits now sequence grant snapshot s m input o sound stands quiet was asks on hears is =
    let b : Outcome = reconciled now o in
    let behind : IsBehind o b = before-behind now o in
    let ground : Ground s m strict_quorum o b =
    record { sound = sound; stands = stands; behind = behind; quiet = quiet } in
    let mode : IsAwaitedLease sequence grant b.knows → b.knows.turn_settings.synchronous_mode ≡ true =
    λ awaited. leases-on sequence grant b.knows (before-asks now o asks) awaited in
    granted-steps (Lawful strict_quorum now sequence grant snapshot s m input o) now sequence grant snapshot b on
    (record {
      kept = rests now sequence grant snapshot s m input o b b ground (same-idle None b);
      quiet = rests now sequence grant snapshot s m input o b (waiting_no_more b) ground (quiet-idle None b);
      confirms = λ after does. confirmed-lawful now sequence grant snapshot s m input o after does;
      unpaused = stays-unpaused now snapshot o was on.unpaused;
      mode = mode;
      leases = λ awaited. let before-it : IsAwaitedLease sequence grant o.knows =
          lease-before sequence grant o b behind awaited in
          lease-lawful now awaited.waited.ttl sequence grant snapshot s m input o b ground
          (record { awaited = before-it; hears = hears.lease before-it }) (before-unready now o);
      writes = λ awaited. let before-it : IsAwaitedWrite sequence grant o.knows =
          write-before sequence grant o b behind awaited in
          write-lawful now sequence grant snapshot s m input o b ground before-it (hears.write before-it)
          (asks before-it.waited before-it.is);
    })
    (onward-then (Some snapshot) o b (granted now sequence grant snapshot b)
    (before-onward (Some snapshot) now o) (granted-onward now sequence grant snapshot b))
    is
