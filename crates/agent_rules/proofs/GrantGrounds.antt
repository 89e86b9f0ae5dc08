-- What comes of a grant has its grounds, by the rows of the decision table.
use Rattle.std.proofs.Common.{ℕ, ◌≡◌, ◌⊎◌, ◌+◌, ◌&&◌, Bool, true, false, List, Option, Some, None, All, refl, sym, subst, ap, ◌∙◌, inl, inr, ◌==◌}
use Rattle.std.proofs.lemmas.List.Elements.{All-push}
use Rattle.lease_model.proofs.Tools.{none-some}
use Rattle.pat_base.specs.declared.member_set.MemberSet.{MemberSet}
use Rattle.pat_base.specs.declared.ticks.Ticks.{Ticks}
use Rattle.store_keys.specs.declared.config.Config.{Config}
use Rattle.lease_store.specs.declared.granted.Granted.{Granted}
use Rattle.store_keys.specs.declared.txn.Txn.{Txn}
use Rattle.store_keys.specs.declared.txn.Txn.TheVariants as txns
use Rattle.store_keys.specs.declared.txn.SyncTxn.TheVariants as sync_txns
use Rattle.cluster_view.specs.Snapshots.{SnapshotFacts, settings_in}
use Rattle.event_book.specs.declared.agent_note.AgentNote.TheVariants as agent_notes
use Rattle.event_book.specs.declared.message.Body.TheVariants as bodies
use Rattle.event_book.specs.declared.reason.Reason.TheVariants.{StartTooLong, WatchdogNotArmed}
use Rattle.leader_key.specs.Watchdog.{is_armable, timeout_of}
use Rattle.agent_model.specs.declared.heard.Heard.{Heard}
use Rattle.agent_model.specs.declared.heard.Heard.TheVariants as heards
use Rattle.agent_model.specs.declared.knowledge.PendingQuestion.{PendingQuestion}
use Rattle.agent_model.specs.declared.machine.Machine.{Machine}
use Rattle.agent_model.specs.declared.output.Output.{Output}
use Rattle.agent_model.specs.declared.output.Output.TheVariants as outputs
use Rattle.agent_model.specs.declared.output.Feeding.TheVariants as feedings
use Rattle.agent_model.specs.declared.output.Noting.TheVariants as notings
use Rattle.agent_model.specs.declared.output.Outgoing.TheVariants as outgoing
use Rattle.agent_model.specs.declared.output.Telling.TheVariants as tellings
use Rattle.agent_model.specs.declared.output.Target.TheVariants as targets
use Rattle.agent_model.specs.declared.why.Why.TheVariants.{HandOver}
use Rattle.agent_model.specs.Acting.{comes_late, arming, armed, deadline_after, ending_server, is_refusing}
use Rattle.agent_model.specs.Agents.{Ready, Leader, Ending, Outcome, outcome_from, is_leader}
use Rattle.agent_model.specs.Claiming.{begins, begins_or_claims, claims, passing, postpones}
use Rattle.agent_model.specs.Decisions.{arms, cannot_arm, gives_back, granted, may_create, may_take, unleased_renewed, takes_key, takes_key_in_pause, takes_over, judges_start, leader_renewed, asks_sync, is_decision, is_lease_of, is_start_too_long, is_sync_decision, is_write_of}
use Rattle.agent_model.specs.HandingOver.{duties}
use Rattle.agent_model.specs.Outputs.{with_output}
use Rattle.agent_model.specs.Pausing.{is_paused, is_wanted, disabling_told, disabling_watchdog}
use Rattle.agent_model.specs.Peers.{asked}
use Rattle.agent_model.specs.Snapshots.{informed}
use Rattle.agent_model.specs.Synchronous.{expected_of, sync_read_in, waiting_for}
use Rattle.agent_cases.proofs.Rows.{if-cases}
use Rattle.agent_cases.proofs.Grants.{led_on, leading_in_pause, passing-by, duties-when, granted-heard}
use Rattle.agent_roles.proofs.Living.{no-way}
use Rattle.agent_rules.specs.Grounds.{RequestGround, TakeGround, GrantDeadline, HearsOwnWrite, NamesByPlan, PlanGround}
use Rattle.agent_rules.specs.Grounds.BeginGround.{Takes, WasReady}
use Rattle.agent_rules.proofs.Taking.{Decides, first-true, may-take, second-true}
use Rattle.pat_base.specs.declared.server_state.Required.TheVariants.{Nobody, All as AllOf}
use Rattle.lease_store.specs.Writes.{nobody}
use Rattle.cluster_view.specs.declared.view.LeaderView.{LeaderView}
use Rattle.sync_state.specs.declared.steps.Plan.{Plan}
use Rattle.sync_state.specs.declared.steps.Plan.TheVariants as plans
use Rattle.sync_state.specs.Plans.{plan_of}
use Rattle.agent_model.specs.declared.knowledge.Question.{Question}
use Rattle.agent_model.specs.declared.knowledge.Question.TheVariants.{Claiming, Syncing}
use Rattle.agent_model.specs.declared.knowledge.Settling.{Settling}
use Rattle.agent_model.specs.declared.knowledge.Settling.TheVariants.{KeepsList, NamesStandbys, ClearsList}
use Rattle.agent_model.specs.declared.knowledge.SyncRead.{SyncRead}
use Rattle.agent_model.specs.Planning.{leader_view, naming, planned_as, settled, switching_off, writing_sync}
use Rattle.agent_roles.specs.Powers.{IsAwaitedLease}
use Rattle.agent_rules.specs.Grounds.RequireGround.{Plans, Settles}
use Rattle.agent_rules.proofs.Grounds.{Ground, KeepsLeases, So, Sofar, arm-so, begin-so, disabled-so, end-so, failover-so, feed-so, from-lease, kept-by, more, postpone-so, quiet, waits, with-role}

-- over what precedes the input, `b`, which hears this
module _ (now : Ticks) (heard : Heard) (b : Outcome) where
  -- ---- a grant
  armed-keeps : (outs : List Output) (deadline : Option Ticks) → All KeepsLeases outs
      → All KeepsLeases (armed deadline outs)
  armed-keeps outs None all = all
  armed-keeps outs (Some until) all = All-push KeepsLeases outs (outputs.Watchdog (feedings.Armed until)) all tt

  disabled-keeps : (outs : List Output) (renews : Bool) (deadline : Option Ticks) → All KeepsLeases outs
      → All KeepsLeases (disabling_told renews deadline outs)
  disabled-keeps outs renews None all = all
  disabled-keeps outs true (Some deadline) all =
      All-push KeepsLeases (with_output (outputs.Watchdog feedings.Disarmed) outs)
      (outputs.Note (notings.Agent agent_notes.DisablesWatchdog))
      (All-push KeepsLeases outs (outputs.Watchdog feedings.Disarmed) all tt) tt
  disabled-keeps outs false (Some deadline) all = All-push KeepsLeases outs (outputs.Watchdog feedings.Disarmed) all tt

  gives-so : (revision : ℕ) (x : Outcome) → So now heard b x → So now heard b (gives_back revision x)
  gives-so revision x s =
      record { grounds = All-push (Ground now heard b) x.outputs _ s.grounds tt; keeps = inr refl; asks = s.asks }

  -- who takes the leader key begins, or claims the sync key
  begins-or-claims-so : (revision : ℕ) (x : Outcome) → TakeGround now heard b revision
      → x.knows.turn_settings ≡ b.knows.turn_settings → x.knows.turn_sync ≡ b.knows.turn_sync
      → All KeepsLeases x.outputs → So now heard b x → So now heard b (begins_or_claims now revision x)
  begins-or-claims-so revision x takes settings sync all s =
      if-cases (So now heard b) x.knows.turn_settings.synchronous_mode (claims now revision (passing x))
      (begins now revision x)
      (λ on. let y : Outcome = passing x in
      let both : Sofar now heard b y.outputs x.role x.knows.waited × All KeepsLeases y.outputs =
      passing-by (λ (outs : List Output). Sofar now heard b outs x.role x.knows.waited × All KeepsLeases outs) x
      (s, all) (
        more now heard b x.outputs x.role x.knows.waited (outputs.Tell tellings.ClaimsOutsideSync) tt tt s,
        All-push KeepsLeases x.outputs (outputs.Tell tellings.ClaimsOutsideSync) all tt,
      ) in
      with-role now heard b (claims now revision y).outputs x.role (Ready revision) _
      (All-push KeepsLeases y.outputs _ both.1 tt)
      (waits now heard b _ x.role x.knows.waited _ refl (more now heard b y.outputs x.role x.knows.waited _ (
        takes,
        ap (λ (c : Config). c.synchronous_mode) (sym settings) ∙ on,
        ap expected_of sync,
      ) tt both.0)))
      (λ off.
      begin-so now heard b revision x (Takes revision takes
      (ap (λ (c : Config). c.synchronous_mode) (sym settings) ∙ off)) settings all s)

  module _ (sequence : ℕ) (grant : Granted) (snapshot : SnapshotFacts)
      (is : heard ≡ heards.Granted sequence grant snapshot) where
    abbrev Heard_so : Outcome
    Heard_so = record b { knows = informed snapshot b.knows }

    -- the deadline that the grant of the lease sets, which is waited for
    fed-ground : (awaited : IsAwaitedLease sequence grant b.knows) → comes_late now awaited.waited b.machine ≡ false
        → GrantDeadline now heard b
        (record { 0 = now.0 + timeout_of b.machine.watchdog.margin awaited.waited.ttl.0 })
    fed-ground awaited in_time = record {
      sequence = sequence;
      grant = grant;
      snapshot = snapshot;
      is = is;
      awaited = awaited;
      until_is = refl;
      in_time = in_time;
    }

    -- ---- a leader's step with its standbys, under its watchdog's new deadline
    module _ (awaited : IsAwaitedLease sequence grant b.knows) (leads : is_leader b.role ≡ true) (machine : Machine)
        (outs : List Output)
        (same : leader_view now (informed snapshot b.knows) machine ≡ leader_view now b.knows b.machine) where
      abbrev Led : Outcome
      Led = outcome_from (Leader grant.revision) (informed snapshot b.knows) machine outs

      plan-ground : (plan : Plan) → is_paused (informed snapshot b.knows) ≡ false → b.knows.turn_failover ≡ None
          → plan_of (leader_view now (informed snapshot b.knows) machine) snapshot ≡ plan
          → PlanGround now heard b grant.revision snapshot plan
      plan-ground plan unpaused alone planned_is = record {
        sequence = sequence;
        grant = grant;
        is = is;
        revision_is = refl;
        awaited = awaited;
        leads = leads;
        unpaused = unpaused;
        alone = alone;
        planned = ap (λ (view : LeaderView). plan_of view snapshot) (sym same) ∙ planned_is;
      }

      write-so : (settling : Settling) (txn : Txn) → RequestGround now heard b txn
          → KeepsLeases (outputs.Message (outgoing.Send targets.Store (Led.knows.sequence + 1) (bodies.Request txn)))
          → So now heard b Led
          → So now heard b (writing_sync now settling txn Led)
      write-so settling txn ground keeps s =
          waits now heard b _ Led.role None _ refl (more now heard b outs Led.role None _ ground keeps s)

      drop-so : (read : Option SyncRead) → sync_read_in snapshot ≡ read
          → PlanGround now heard b grant.revision snapshot plans.SwitchOff → So now heard b Led
          → So now heard b (switching_off now grant.revision read Led)
      drop-so None found ground s = s
      drop-so (Some read) found ground s =
          write-so ClearsList (txns.Sync (sync_txns.DropSync grant.revision read.revision)) (record {
            snapshot = snapshot;
            plan = plans.SwitchOff;
            ground = ground;
            names = tt;
            compared = ap expected_of (sym found);
          }) tt s

      name-so : (plan : Plan) (settling : Settling) (standbys : MemberSet)
          → PlanGround now heard b grant.revision snapshot plan → NamesByPlan plan standbys → So now heard b Led
          → So now heard b (naming now grant.revision settling standbys Led)
      name-so plan settling standbys ground names s =
          write-so settling
          (txns.Sync (sync_txns.SetSync grant.revision (expected_of (sync_read_in snapshot)) standbys None))
          (record { snapshot = snapshot; plan = plan; ground = ground; names = names; compared = refl }) tt s

      plan-so : (plan : Plan) → PlanGround now heard b grant.revision snapshot plan → So now heard b Led
          → So now heard b (planned_as now grant.revision plan Led)
      plan-so plans.Keep ground s = s
      plan-so plans.SwitchOff ground s = drop-so (sync_read_in snapshot) refl ground s
      plan-so plans.Mark ground s = name-so plans.Mark (NamesStandbys nobody) nobody ground refl s
      plan-so (plans.Withdraw standbys) ground s =
          name-so (plans.Withdraw standbys) (NamesStandbys standbys) standbys ground refl s
      plan-so (plans.AddRequired members) ground s =
          more now heard b outs Led.role None (outputs.Require (AllOf members))
          (Plans grant.revision snapshot (plans.AddRequired members) ground refl) tt s
      plan-so (plans.Publish standbys) ground s = name-so (plans.Publish standbys) KeepsList standbys ground refl s
      plan-so (plans.DropRequired members) ground s =
          more now heard b outs Led.role None
          (outputs.Require (waiting_for (settings_in b.knows.settings snapshot) members))
          (Plans grant.revision snapshot (plans.DropRequired members) ground refl) tt s

      duties-so : All KeepsLeases outs → So now heard b Led → So now heard b (duties now grant.revision Led)
      duties-so all s = duties-when (So now heard b) now grant.revision Led
          (λ alone unpaused. plan-so (plan_of (leader_view now Led.knows machine) snapshot)
          (plan-ground (plan_of (leader_view now Led.knows machine) snapshot) unpaused alone refl) s)
          (failover-so now heard b grant.revision Led all s)

      -- whose server may have been starting for too long
      start-so : All KeepsLeases outs → So now heard b Led → So now heard b (judges_start now grant.revision Led)
      start-so all s = if-cases (So now heard b) (is_start_too_long now Led.knows machine.server.state)
          (record (ending_server now StartTooLong Led) { role = Ending grant.revision HandOver })
          (duties now grant.revision Led)
          (λ _. from-lease now heard b _ Led.role (Ending grant.revision HandOver) None grant.revision refl
          (end-so now heard b StartTooLong Led s))
          (λ _. duties-so all s)

    -- where one is waited for, nothing was given back before
    renewed-so : (awaited : IsAwaitedLease sequence grant b.knows) → comes_late now awaited.waited b.machine ≡ false
        → (held : ℕ) → b.role ≡ Leader held → So now heard b Heard_so
        → So now heard b (leader_renewed now awaited.waited.ttl grant.revision Heard_so)
    renewed-so awaited in_time held role s =
        let ttl : Ticks = awaited.waited.ttl in
        let led : Outcome = led_on now ttl grant.revision Heard_so in
        let fed : Sofar now heard b led.outputs b.role None =
        feed-so now heard b b.outputs b.role None (record { 0 = now.0 + timeout_of b.machine.watchdog.margin ttl.0 })
        (is_armable b.machine.watchdog.mode b.machine.watchdog.works) (λ e. (e, fed-ground awaited in_time)) s in
        let all : All KeepsLeases led.outputs = kept-by now heard b led.outputs b.role None held (rw role refl) fed in
        start-so awaited (rw role refl) led.machine led.outputs refl all
        (with-role now heard b led.outputs b.role (Leader grant.revision) None all fed)

    unleased-so : (awaited : IsAwaitedLease sequence grant b.knows) → comes_late now awaited.waited b.machine ≡ false
        → All KeepsLeases b.outputs → So now heard b Heard_so
        → So now heard b (unleased_renewed now awaited.waited.ttl grant.revision Heard_so)
    unleased-so awaited in_time all s =
        let ttl : Ticks = awaited.waited.ttl in
        if-cases (So now heard b) (is_refusing b.machine.watchdog.mode b.machine.watchdog.works)
        (ending_server now WatchdogNotArmed Heard_so) (takes_over now grant.revision (arming now ttl Heard_so))
        (λ _. end-so now heard b WatchdogNotArmed Heard_so s)
        (λ _. with-role now heard b (arming now ttl Heard_so).outputs b.role (Leader grant.revision) None
        (armed-keeps b.outputs (deadline_after now ttl b.machine.watchdog) all)
        (arm-so now heard b b.outputs b.role None (record { 0 = now.0 + timeout_of b.machine.watchdog.margin ttl.0 })
        (is_armable b.machine.watchdog.mode b.machine.watchdog.works) (λ e. (e, fed-ground awaited in_time)) s))

    cannot-so : So now heard b Heard_so → So now heard b (cannot_arm grant.revision Heard_so)
    cannot-so r = gives-so grant.revision (record Heard_so {
      outputs = with_output (outputs.Note (notings.Agent agent_notes.CannotArm)) b.outputs;
    }) (more now heard b b.outputs b.role None (outputs.Note (notings.Agent agent_notes.CannotArm)) tt tt r)

    -- the lease that is decided on is the one that is waited for
    abbrev awaits : Decides sequence grant b → IsAwaitedLease sequence grant b.knows
    awaits decides = record {
      waited = decides.asked;
      is = decides.is;
      decision = first-true (is_decision decides.asked sequence) (is_lease_of b.knows.who.me grant) decides.decision;
      mine = second-true (is_decision decides.asked sequence) (is_lease_of b.knows.who.me grant) decides.decision;
    }

    takes-so : (decides : Decides sequence grant b) → is_paused (informed snapshot b.knows) ≡ false
        → comes_late now decides.asked b.machine ≡ false → All KeepsLeases b.outputs → So now heard b b
        → So now heard b (takes_key now decides.asked.ttl grant.revision Heard_so)
    takes-so decides unpaused in_time all s =
        let r : So now heard b Heard_so = quiet now heard b b s in
        let ttl : Ticks = decides.asked.ttl in
        if-cases (So now heard b) (may_take now (informed snapshot b.knows) b.machine)
        (arms now ttl grant.revision Heard_so) (gives_back grant.revision Heard_so)
        (λ may. if-cases (So now heard b) (is_refusing b.machine.watchdog.mode b.machine.watchdog.works)
        (cannot_arm grant.revision Heard_so) (begins_or_claims now grant.revision (arming now ttl Heard_so))
        (λ _. cannot-so r)
        (λ works. begins-or-claims-so grant.revision (arming now ttl Heard_so)
        (subst (λ (h : Heard). TakeGround now h b grant.revision) (sym is)
        (may-take now sequence grant snapshot b decides may (λ _. works) (λ _. in_time)
        (λ paused. absurd (no-way (sym unpaused ∙ paused)))))
        refl refl
        (armed-keeps b.outputs (deadline_after now ttl b.machine.watchdog) all)
        (arm-so now heard b b.outputs b.role None (record { 0 = now.0 + timeout_of b.machine.watchdog.margin ttl.0 })
        (is_armable b.machine.watchdog.mode b.machine.watchdog.works)
        (λ e. (e, fed-ground (awaits decides) in_time)) r)))
        (λ _. gives-so grant.revision Heard_so r)

    takes-in-pause-so : (renews : Bool) → Decides sequence grant b → is_paused (informed snapshot b.knows) ≡ true
        → All KeepsLeases b.outputs → So now heard b b
        → So now heard b (takes_key_in_pause now renews grant.revision Heard_so)
    takes-in-pause-so renews decides paused all s =
        let r : So now heard b Heard_so = quiet now heard b b s in
        if-cases (So now heard b)
        (is_wanted b.knows.who.me b.knows.turn_failover b.machine.server.state
        && may_take now (informed snapshot b.knows) b.machine)
        (begins_or_claims now grant.revision (disabling_watchdog renews Heard_so)) (gives_back grant.revision Heard_so)
        (λ both. begins-or-claims-so grant.revision (disabling_watchdog renews Heard_so)
        (subst (λ (h : Heard). TakeGround now h b grant.revision) (sym is)
        (may-take now sequence grant snapshot b decides
        (second-true (is_wanted b.knows.who.me b.knows.turn_failover b.machine.server.state) _ both)
        (λ unpaused. absurd (no-way (sym unpaused ∙ paused))) (λ unpaused. absurd (no-way (sym unpaused ∙ paused)))
        (λ _. first-true (is_wanted b.knows.who.me b.knows.turn_failover b.machine.server.state) _ both))) refl refl
        (disabled-keeps b.outputs renews b.machine.watchdog.deadline all)
        (disabled-so now heard b b.outputs b.role None renews b.machine.watchdog.deadline r))
        (λ _. gives-so grant.revision Heard_so r)

    -- the grant of a write of the sync key that is waited for
    abbrev own-write : (question : Question) (asked : PendingQuestion) → b.knows.waited ≡ Some asked
        → is_sync_decision asked sequence && is_write_of b.knows.who.me grant ≡ true → asked.question ≡ question
        → HearsOwnWrite heard b question
    own-write question asked waited decision asks = record {
      sequence = sequence;
      grant = grant;
      snapshot = snapshot;
      is = is;
      waited = asked;
      waits = waited;
      asks = asks;
      number = second-true (asks_sync asked.question) (asked.sequence == sequence)
          (first-true (is_sync_decision asked sequence) (is_write_of b.knows.who.me grant) decision);
      mine = second-true (is_sync_decision asked sequence) (is_write_of b.knows.who.me grant) decision;
    }

    settle-so : (settling : Settling) → (written : HearsOwnWrite heard b (Syncing settling))
        → written.snapshot ≡ snapshot → is_leader b.role ≡ true → So now heard b Heard_so
        → So now heard b (settled settling Heard_so)
    settle-so KeepsList written same leads r = r
    settle-so (NamesStandbys standbys) written same leads r = more now heard b b.outputs b.role None
        (outputs.Require (waiting_for (settings_in b.knows.settings snapshot) standbys))
        (Settles (NamesStandbys standbys) written leads
        (ap (λ (n : SnapshotFacts). waiting_for (settings_in b.knows.settings n) standbys) (sym same))) tt r
    settle-so ClearsList written same leads r = more now heard b b.outputs b.role None (outputs.Require Nobody)
        (Settles ClearsList written leads refl) tt r

    -- a grant is used by who waits now heard b for it, and then gave nothing back before
    pub granted-so : (All KeepsLeases b.outputs ⊎ (b.knows.waited ≡ None)) → So now heard b b
        → So now heard b (granted now sequence grant snapshot b)
    granted-so fresh s =
        let r : So now heard b Heard_so = quiet now heard b b s in
        let front : (asked : PendingQuestion) → b.knows.waited ≡ Some asked → All KeepsLeases b.outputs =
        λ asked waits. elim fresh [ inl all ↦ all | inr none ↦ absurd (none-some asked (sym none ∙ waits)) ] in
        granted-heard (So now heard b) now sequence grant snapshot b s (quiet now heard b b s)
        (λ asked waited decision.
        let all : All KeepsLeases b.outputs = front asked waited in
        let decides : may_create b.role ≡ true → Decides sequence grant b =
        λ may. record { asked = asked; is = waited; decision = decision; role = may } in
        let awaited : IsAwaitedLease sequence grant b.knows = record {
          waited = asked;
          is = waited;
          decision = first-true (is_decision asked sequence) (is_lease_of b.knows.who.me grant) decision;
          mine = second-true (is_decision asked sequence) (is_lease_of b.knows.who.me grant) decision;
        } in
        record {
          other = r;
          leader = λ held _ in_time role. renewed-so awaited in_time held role r;
          unleased = λ _ in_time _. unleased-so awaited in_time all r;
          takes = λ unpaused in_time may. takes-so (decides may) unpaused in_time all s;
          keeps_late = λ held _ _ role. start-so awaited (rw role refl) b.machine b.outputs refl all
              (with-role now heard b b.outputs b.role (Leader grant.revision) None all r);
          ends_late = λ _ _. end-so now heard b WatchdogNotArmed Heard_so r;
          refuses_late = λ _ _. cannot-so r;
          returns_late = λ _ _. gives-so grant.revision Heard_so r;
          leads_in_pause = λ renews paused held role.
              let led : Outcome = leading_in_pause renews grant.revision Heard_so in
              let rested : All KeepsLeases led.outputs =
              disabled-keeps b.outputs renews b.machine.watchdog.deadline all in
              duties-so awaited (rw role refl) led.machine led.outputs refl rested
              (with-role now heard b led.outputs b.role (Leader grant.revision) None rested
              (disabled-so now heard b b.outputs b.role None renews b.machine.watchdog.deadline r));
          unleased_in_pause = λ renews _ _. with-role now heard b _ b.role (Leader grant.revision) None
              (disabled-keeps b.outputs renews b.machine.watchdog.deadline all)
              (disabled-so now heard b b.outputs b.role None renews b.machine.watchdog.deadline r);
          takes_in_pause = λ renews paused may. takes-in-pause-so renews (decides may) paused all s;
        })
        (λ _ so. so)
        (λ asked waited decision. record {
          other = r;
          begins = λ asks revision role _. begin-so now heard b revision Heard_so
              (WasReady (own-write Claiming asked waited decision asks) (rw role refl)) refl
              (kept-by now heard b b.outputs b.role None revision (rw role refl) r) r;
          postpones = λ revision role. postpone-so now heard b revision Heard_so (rw role refl) r;
          settles = λ settling asks leads.
              settle-so settling (own-write (Syncing settling) asked waited decision asks) refl leads r;
        })
