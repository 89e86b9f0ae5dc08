-- Each input of the table is lawful for kept commits, and leaves the synchronous mode on.
use Rattle.std.proofs.Common.{◌≡◌, ℕ, ◌+◌, ◌<◌, ◌≤◌, Bool, true, ◌∷◌, slice_get, List, [], Option, Some, None, All, refl, sym, subst, ap, ◌∙◌, if◌then◌else◌, false, arith, inl, inr}
use Rattle.std.proofs.lemmas.List.Elements.{All-nil, All-push}
use Rattle.std.proofs.lemmas.List.{append_assoc}
use Rattle.pat_base.specs.declared.member_set.MemberSet.{MemberSet}
use Rattle.pat_base.specs.declared.server_state.Required.{Required}
use Rattle.pat_base.specs.declared.server_state.Required.TheVariants as requireds
use Rattle.pat_base.specs.ServerState.{live}
use Rattle.pat_base.specs.declared.ticks.Ticks.{Ticks}
use Rattle.lease_store.specs.declared.granted.Granted.{Granted}
use Rattle.store_keys.specs.declared.txn.Expected.{Expected}
use Rattle.store_keys.specs.declared.txn.Txn.{Txn}
use Rattle.store_keys.specs.declared.txn.Txn.TheVariants as txns
use Rattle.store_keys.specs.declared.txn.SyncTxn.TheVariants as sync_txns
use Rattle.lease_store.specs.Writes.{nobody}
use Rattle.wal_model.specs.declared.entry.HistoryPoint.{HistoryPoint}
use Rattle.pg_model.specs.declared.status.ServerStatus.{ServerStatus}
use Rattle.cluster_view.specs.Snapshots.{SnapshotFacts}
use Rattle.event_book.specs.declared.agent_note.AgentNote.TheVariants as agent_notes
use Rattle.event_book.specs.declared.message.Body.{Body}
use Rattle.event_book.specs.declared.message.Body.TheVariants as bodies
use Rattle.event_book.specs.declared.reason.Reason.TheVariants.{LeaderKeyLost, StartTooLong, WatchdogNotArmed}
use Rattle.event_book.specs.Functions.{set_members}
use Rattle.lease_model.proofs.Tools.{some-is, none-some, not-false}
use Rattle.sync_state.specs.Published.{published_in}
use Rattle.sync_state.specs.Sets.{both, either}
use Rattle.commit_actions.specs.Keys.{strict_quorum}
use Rattle.commit_actions.specs.Stored.{quorum_written}
use Rattle.commit_actions.specs.Actions.{fresh_agent}
use Rattle.commit_actions.specs.States.{Agent, State}
use Rattle.commit_actions.specs.Inputs.{AgentInput, HearsSnapshot, Does, Idling, Racing, HearingAnswer, WinningRace, CreatingLeader, Arming, TakingOver, ChangingRequired, Publishing, Promoting, SettlingRequired, ArmsAlone, IsGivenByLease}
use Rattle.agent_model.specs.declared.heard.Heard.{Heard}
use Rattle.agent_model.specs.declared.heard.Heard.TheVariants.{Wake, ReadAnswered, Granted as HeardGranted, Mismatch, Asked, Answered, FailsafeAsked, FailsafeAnswered, Operated as HearsOperator}
use Rattle.agent_model.specs.declared.knowledge.Knowledge.{Knowledge}
use Rattle.agent_model.specs.declared.knowledge.Question.{Question}
use Rattle.agent_model.specs.declared.knowledge.Question.TheVariants.{Syncing}
use Rattle.agent_model.specs.declared.knowledge.Settling.{Settling}
use Rattle.agent_model.specs.declared.knowledge.Settling.TheVariants as settlings
use Rattle.agent_model.specs.declared.knowledge.Settling.TheVariants.{NamesStandbys}
use Rattle.agent_model.specs.declared.knowledge.PendingQuestion.{PendingQuestion}
use Rattle.agent_model.specs.declared.machine.Machine.{Machine}
use Rattle.agent_model.specs.declared.machine.Replication.{Replication}
use Rattle.agent_model.specs.declared.output.Output.{Output}
use Rattle.agent_model.specs.declared.output.Output.TheVariants as outputs
use Rattle.agent_model.specs.declared.output.Noting.TheVariants as notings
use Rattle.agent_model.specs.declared.output.Outgoing.TheVariants as outgoing
use Rattle.agent_model.specs.declared.output.ServerOrder.TheVariants as orders
use Rattle.agent_model.specs.declared.output.Telling.TheVariants as tellings
use Rattle.agent_model.specs.declared.output.Target.TheVariants as targets
use Rattle.agent_model.specs.declared.why.Why.{Why}
use Rattle.agent_model.specs.declared.why.Why.TheVariants.{HandOver, Lost}
use Rattle.agent_model.specs.declared.who.Who.{Who}
use Rattle.agent_model.specs.Acting.{deadline_after, disarmed, ending_server, arming, requiring, waiting_no_more}
use Rattle.agent_model.specs.Agents.{RoleFacts, Follower, Holder, Ready, Leader, Ending, Unleased, Outcome, is_leader, outcome_from, fresh_knowledge}
use Rattle.agent_model.specs.Fits.{Fits}
use Rattle.agent_model.specs.Reconciling.{reconciled, has_ended}
use Rattle.agent_model.specs.Claiming.{begins, can_begin_on_claim, claims, passing, postpones}
use Rattle.agent_commit_law.specs.Committing.{sync_seen, committer_seen, ArmsOn, DoesAs, IsSynchronousSnapshot, HearsSynchronousMode, HearsToCommit, KnowsBelow, AsksInSynchronousMode, FollowsSynchronousMode, requests_of, is_begin, is_carrying, IsOneAtMost, IsCovered, IsSynchronousTxn, IsSynchronousBody, IsSynchronousOutput, HasForm, Ordered, NoMore, Asks, ClaimsOutsideSync, Requires, StaysInSynchronousMode, CommitsFrom}
use Rattle.agent_model.specs.Decisions.{cannot_arm, takes_over, gives_back, granted}
use Rattle.agent_model.specs.HandingOver.{checking, hands_over}
use Rattle.agent_model.specs.Operators.{grants_operator, looked, operated, operator_granted}
use Rattle.agent_model.specs.Outputs.{has_one, with_output}
use Rattle.agent_model.specs.Peers.{asked, answered}
use Rattle.agent_model.specs.Planning.{leader_view, naming, noting}
use Rattle.agent_model.specs.Racing.{unheard}
use Rattle.agent_model.specs.FailsafeKeys.{set_carried}
use Rattle.agent_model.specs.Snapshots.{read_answered, read_noted, renewal, informed}
use Rattle.agent_model.specs.Synchronous.{expected_of, sync_read_in, unnamed, waiting_for}
use Rattle.agent_model.specs.StayingPrimary.{failsafe_answered, failsafe_asked}
use Rattle.agent_model.specs.Table.{granted_any, refused_any, step}
use Rattle.agent_model.specs.Wake.{woken}
use Rattle.agent_commit_law.proofs.CommitAsking.{before-asks, wake-asks-behind, looked-asks, got-asks, any-refused-asks, operator-granted-asks, operated-asks, answered-asks, stay-answered-asks, stay-asked-asks, leases-on}
use Rattle.agent_commit_law.proofs.CommitIdling.{follow-idle, free-idle, Idle, idle-then, before-idle, wake-idle, looked-idle, got-idle, any-refused-idle, operator-granted-idle, operated-idle, answered-idle, asked-idle, stay-answered-idle, stay-asked-idle, quiet-of, postpones-idle, failover-idle}
use Rattle.agent_commit_law.proofs.CommitLeaders.{WatchdogAfter, as-it-was, fed-by, led_by}
use Rattle.agent_commit_law.proofs.CommitLawful.{idle-lawful}
use Rattle.agent_commit_law.proofs.CommitShown.{shown}
use Rattle.agent_commit_law.proofs.CommitQuiet.{IsUnasking, carried-last, carried-leads, Stands, plain, all-armed, all-disarmed, covered, keeps-mode, last-one, last-unbegun, passing-unasked, quiet-one, quiet-unbegun, quietly, unasked, unasking}
use Rattle.agent_commit_law.proofs.CommitRows.{grant-commits, led-idle}
use Rattle.agent_commit_law.proofs.CommitGrounds.{IsBehind, before-behind}
use Rattle.agent_commit_law.proofs.CommitTools.{both-first, confirmed-reached, no-members, within-set}
use Rattle.agent_commit_law.proofs.CommitSteps.{confirmed_at, wanted_at, required_at, PlanSteps, LedSteps, LeaseSteps, WriteSteps, granted-steps}
use Rattle.agent_roles.proofs.Granting.{Told}
use Rattle.agent_roles.proofs.Living.{no-way}
use Rattle.agent_roles.proofs.GoingOn.{Onward, onward-then}
use Rattle.agent_roles.proofs.Knowing.{before-onward, wake-onward, looked-onward, got-onward, any-granted-onward, any-refused-onward, operated-onward, answered-onward, asked-onward, holding-onward, staying-onward}
use Rattle.agent_cases.proofs.Rows.{dropping, before-by, got-by, if-cases, looked-by}
use Rattle.agent_cases.proofs.Grants.{FailoverRows, passing-by}
use Rattle.agent_model.specs.Pausing.{is_paused}
use Rattle.agent_roles.proofs.Staying.{stays-unpaused}

-- what comes before an input is covered by it
pub before-covered : (now : Ticks) (o : Outcome) → All IsCovered o.outputs → All IsCovered (reconciled now o).outputs
before-covered now o all = before-by (λ (x : Outcome). All IsCovered x.outputs) now o (record {
  kept = λ _. all;
  leader = λ held _ _. disarms;
  ending = λ held why _ _. ended-covered why held;
  follower = λ _ _. all;
  holder = λ held _ _. all;
  ready = λ held _ _. disarms;
  unleased = λ _ _. disarms;
})
  where
    disarms : All IsCovered (disarmed o.machine.watchdog.deadline o.outputs)
    disarms = all-disarmed IsCovered o.outputs all o.machine.watchdog.deadline tt

    ended-covered : (why : Why) (held : ℕ) → All IsCovered (has_ended why held o).outputs
    ended-covered HandOver held = All-push IsCovered (disarmed o.machine.watchdog.deadline o.outputs) _ disarms tt
    ended-covered Lost held = disarms

-- behind quiet outputs the mode stays on
quiet-stays : (quorum : ℕ) (heard : Heard) (o x : Outcome) → AsksInSynchronousMode x.knows
    → All (Stands false) x.outputs → StaysInSynchronousMode quorum heard o x
quiet-stays quorum heard o x asks quiet = record {
  asks = asks;
  one = quiet-one false o.knows.who.me.number o.knows.incarnation x.outputs quiet;
  sends = λ count below. keeps-mode false count quorum x.outputs (unasking false x.outputs quiet);
  form = Ordered [] NoMore x.outputs (All-nil IsCovered) (plain x.outputs quiet) refl;
  begins = λ e. absurd (not-false (has_one is_begin x.outputs) (quiet-unbegun false x.outputs quiet) e);
  carries = λ e. absurd (no-way (carried-leads false x.outputs (unasking false x.outputs quiet) e));
}

-- with one more output behind those that send no other request
last-stays : (quorum : ℕ) (heard : Heard) (o x : Outcome) (outs : List Output) (output : Output)
    → AsksInSynchronousMode x.knows → x.outputs ≡ with_output output outs → is_begin output ≡ false
    → is_carrying output ≡ false → All (IsUnasking false) outs → HasForm x.outputs
    → ((count : ℕ) → KnowsBelow count heard o → IsSynchronousOutput count quorum output)
    → StaysInSynchronousMode quorum heard o x
last-stays quorum heard o x outs output asks is unbegun uncarried still form sends =
    record {
      asks = asks;
      one = subst (λ (l : List Output). IsOneAtMost (requests_of o.knows.who.me.number o.knows.incarnation l))
          (sym is) (last-one false o.knows.who.me.number o.knows.incarnation outs output still);
      sends = λ count below. subst (λ (l : List Output). All (IsSynchronousOutput count quorum) l) (sym is)
          (All-push (IsSynchronousOutput count quorum) outs output (keeps-mode false count quorum outs still)
          (sends count below));
      form = form;
      begins = λ e.
          absurd (not-false (has_one is_begin x.outputs)
          (ap (has_one is_begin) is ∙ last-unbegun false outs output still unbegun) e);
      carries = λ e.
          absurd (not-false (has_one is_carrying x.outputs)
          (ap (has_one is_carrying) is ∙ carried-last outs output still uncarried) e);
    }

-- a question to the key store is the last output
asks-stays : (quorum : ℕ) (heard : Heard) (o x : Outcome) (outs : List Output) (sequence : ℕ) (body : Body)
    → AsksInSynchronousMode x.knows
    → x.outputs ≡ with_output (outputs.Message (outgoing.Send targets.Store sequence body)) outs
    → is_carrying (outputs.Message (outgoing.Send targets.Store sequence body)) ≡ false → All IsCovered outs
    → ((count : ℕ) → KnowsBelow count heard o → IsSynchronousBody count quorum body)
    → StaysInSynchronousMode quorum heard o x
asks-stays quorum heard o x outs sequence body asks is uncarried all sends =
    last-stays quorum heard o x outs
    (outputs.Message (outgoing.Send targets.Store sequence body)) asks is refl uncarried
    (unasking false outs (covered false outs all)) (Ordered outs (Asks sequence body) [] all refl (sym is)) sends

-- so is a claim, behind the note that the sync key doesn't name the member, if that is so
claims-form : (o : Outcome) (sequence revision : ℕ) (sync : Expected) → All IsCovered o.outputs
    → HasForm (with_output (outputs.Message (outgoing.Send targets.Store sequence
    (bodies.Request (txns.Sync (sync_txns.Claim revision sync)))))
    (passing o).outputs)
claims-form o sequence revision sync all =
    let claim : Output = outputs.Message
    (outgoing.Send targets.Store sequence (bodies.Request (txns.Sync (sync_txns.Claim revision sync)))) in
    passing-by (λ (outs : List Output). HasForm (with_output claim outs)) o
    (Ordered o.outputs (Asks sequence (bodies.Request (txns.Sync (sync_txns.Claim revision sync)))) [] all refl refl)
    (ClaimsOutsideSync o.outputs sequence revision sync all
    (sym (append_assoc o.outputs ((outputs.Tell tellings.ClaimsOutsideSync) ∷ []) (claim ∷ []))))

-- nothing is waited for, or this question
rest : (knows : Knowledge) → knows.waited ≡ None → AsksInSynchronousMode knows
rest knows none waited is = absurd (none-some waited (sym none ∙ is))

asks-this : (knows : Knowledge) (asked : PendingQuestion) → knows.waited ≡ Some asked
    → FollowsSynchronousMode knows.turn_settings.synchronous_mode asked.question → AsksInSynchronousMode knows
asks-this knows asked is follows waited waits =
    subst (λ (w : PendingQuestion). FollowsSynchronousMode knows.turn_settings.synchronous_mode w.question)
    (some-is asked waited (sym is ∙ waits)) follows

requires-stays : (quorum : ℕ) (heard : Heard) (o y : Outcome) (required : Required) → y.knows.waited ≡ None
    → All IsCovered y.outputs → StaysInSynchronousMode quorum heard o (requiring required y)
requires-stays quorum heard o y required none all =
    last-stays quorum heard o (requiring required y) y.outputs (outputs.Require required)
    (rest y.knows none) refl refl refl (unasking false y.outputs (covered false y.outputs all))
    (Ordered y.outputs (Requires required) [] all (inl refl) refl) (λ count below. tt)

-- no transaction says a number, so none of the standbys that it writes may lack a commit
none-written : (txn : Txn) (quorum : ℕ) → quorum_written txn ≤ quorum
unfolding quorum_written
none-written txn quorum = none-below quorum
  where
    none-below : (n : ℕ) → 0 ≤ n
    none-below n = omega arith

-- the rows of a grant, on what comes before it
module _ (quorum : ℕ) (now : Ticks) (sequence : ℕ) (grant : Granted) (snapshot : SnapshotFacts)
    (o b : Outcome) (behind : IsBehind o b) (all : All IsCovered b.outputs) where
  abbrev Hears : Heard
  Hears = HeardGranted sequence grant snapshot

  abbrev Stays : Outcome → Type 0
  Stays x = StaysInSynchronousMode quorum Hears o x

  quiet : All (Stands false) b.outputs
  quiet = covered false b.outputs all

  rests-quiet : (x : Outcome) → AsksInSynchronousMode x.knows → All (Stands false) x.outputs → Stays x
  rests-quiet x asks still = quiet-stays quorum Hears o x asks still

  -- a leader that asks for a write of the sync key
  names-stays : (w : WatchdogAfter b) (settling : Settling) (set : MemberSet)
      → ((on : Bool) → FollowsSynchronousMode on (Syncing settling))
      → ((count : ℕ) → KnowsBelow count Hears o → (n : ℕ) → set_members set n ≡ true → n < count)
      → Stays (naming now grant.revision settling set (led_by b w grant.revision snapshot))
  names-stays w settling set follows below =
      let fed : Outcome = led_by b w grant.revision snapshot in
      let x : Outcome = naming now grant.revision settling set fed in
      asks-stays quorum Hears o x fed.outputs (b.knows.sequence + 1)
      (bodies.Request (txns.Sync (sync_txns.SetSync grant.revision (expected_of (sync_read_in snapshot)) set None)))
      (asks-this x.knows _ refl (follows b.knows.turn_settings.synchronous_mode)) refl refl (w.covered all)
      (λ count knows. (
        below count knows,
        none-written (txns.Sync (sync_txns.SetSync grant.revision (expected_of (sync_read_in snapshot)) set None))
            quorum,
      ))

  nobody-below : (count n : ℕ) → set_members nobody n ≡ true → n < count
  nobody-below count n is = absurd (not-false (set_members nobody n) (no-members nobody refl n) is)

  plan-stays : (w : WatchdogAfter b) → PlanSteps Stays now grant.revision snapshot (led_by b w grant.revision snapshot)
  plan-stays w =
      let fed : Outcome = led_by b w grant.revision snapshot in
      let still : All IsCovered fed.outputs = w.covered all in
      let published : MemberSet = published_in snapshot in
      let wanted : MemberSet = wanted_at now snapshot fed in record {
        kept = rests-quiet fed (rest fed.knows refl) (covered false fed.outputs still);
        mark = λ _. names-stays w (NamesStandbys nobody) nobody (λ on. tt) (λ count _. nobody-below count);
        withdraws = names-stays w (NamesStandbys (both published wanted)) (both published wanted) (λ on. tt)
            (λ count below n is. below.published n (both-first published wanted n is));
        adds = requires-stays quorum Hears o (noting fed) (requireds.All (either (required_at fed) wanted)) refl still;
        publishes = λ _ confirmed. names-stays w settlings.KeepsList wanted (λ on. tt) (λ count below n is.
            let reached = confirmed-reached (leader_view now fed.knows fed.machine) n
            (within-set wanted (confirmed_at now fed) confirmed n is) in
            below.connected n reached.end
            (subst (λ (r : Replication). slice_get r.confirmed_positions n ≡ Some (Some reached.end))
            behind.replication reached.is));
        drops = λ _.
            requires-stays quorum Hears o fed (waiting_for fed.knows.settings (either published wanted)) refl still;
      }

  -- what it does under a failover key
  failover-stays : (watch : WatchdogAfter b) → is_leader b.role ≡ true
      → FailoverRows Stays now grant.revision (led_by b watch grant.revision snapshot)
  failover-stays watch leads =
      let fed : Outcome = led_by b watch grant.revision snapshot in
      let u : Outcome = unheard fed in
      let w : Outcome = waiting_no_more u in
      let idle : FailoverRows (Idle None b) now grant.revision fed =
      failover-idle None now grant.revision b fed (led-idle grant.revision snapshot b watch leads) (omega arith) in
      let still : (x : Outcome) → Idle None b x → AsksInSynchronousMode x.knows → Stays x =
      λ x after asks. rests-quiet x asks (quiet-of false after quiet) in
      record {
        kept = still fed idle.kept (rest fed.knows refl);
        clears =
            λ compared. still (dropping compared fed) (idle.clears compared) (rest (dropping compared fed).knows refl);
        asks = λ candidate. let x : Outcome = checking now candidate u in
            still x (idle.asks candidate) (asks-this x.knows _ refl tt);
        judges = record {
          kept = still w idle.judges.kept (rest w.knows refl);
          clears = λ compared.
              still (dropping compared w) (idle.judges.clears compared) (rest (dropping compared w).knows refl);
          hands = λ candidate. let x : Outcome = hands_over now grant.revision candidate w in
              still x (idle.judges.hands candidate) (rest x.knows refl);
        };
      }

  led-stays : (w : WatchdogAfter b) → is_leader b.role ≡ true
      → LedSteps Stays now grant.revision snapshot (led_by b w grant.revision snapshot)
  led-stays w leads =
      let led : Outcome = led_by b w grant.revision snapshot in
      let ended : Outcome = record (ending_server now StartTooLong led) { role = Ending grant.revision HandOver } in
      record {
        ends = rests-quiet ended (rest ended.knows refl)
            (quietly false led.outputs (outputs.Server (orders.Stop StartTooLong)) (w.quiet false quiet) tt);
        plans = plan-stays w;
        fails_over = failover-stays w leads;
      }

  lease-stays : (ttl : Ticks) → LeaseSteps Stays now ttl grant.revision snapshot b
  lease-stays ttl =
      let told : Outcome = Told snapshot b in
      let revision : ℕ = grant.revision in
      let arm : Outcome = arming now ttl told in
      let armed : All IsCovered arm.outputs =
      all-armed IsCovered b.outputs all (deadline_after now ttl b.machine.watchdog) (λ until. tt) in
      let stopped : Outcome = ending_server now WatchdogNotArmed told in
      let over : Outcome = takes_over now revision arm in
      let back : Outcome = gives_back revision told in
      let refused-it : Outcome = cannot_arm revision told in
      let claimed : Outcome = claims now revision (passing arm) in
      let read : Expected = expected_of b.knows.turn_sync in record {
        other = rests-quiet told (rest told.knows refl) quiet;
        leads = λ held is. led-stays (fed-by now ttl b) (rw is refl);
        keeps = λ held is. led-stays (as-it-was b) (rw is refl);
        stops = λ _. rests-quiet stopped (rest stopped.knows refl)
            (quietly false b.outputs (outputs.Server (orders.Stop WatchdogNotArmed)) quiet tt);
        takes_over = λ _. rests-quiet over (rest over.knows refl) (covered false arm.outputs armed);
        returns = rests-quiet back (rest back.knows refl) (quietly false b.outputs _ quiet tt);
        refuses = rests-quiet refused-it (rest refused-it.knows refl)
            (quietly false (with_output (outputs.Note (notings.Agent agent_notes.CannotArm)) b.outputs) _
            (quietly false b.outputs (outputs.Note (notings.Agent agent_notes.CannotArm)) quiet tt) tt);
        claims = λ _. last-stays quorum Hears o claimed (passing arm).outputs
            (outputs.Message (outgoing.Send targets.Store (b.knows.sequence + 1)
            (bodies.Request (txns.Sync (sync_txns.Claim revision read)))))
            (asks-this claimed.knows _ refl tt) refl refl refl
            (passing-unasked false arm (covered false arm.outputs armed))
            (claims-form arm (b.knows.sequence + 1) revision read armed) (λ count below. tt);
      }

  begins-stays : (revision : ℕ) → can_begin_on_claim b.machine.server.was_primary b.machine.server.state ≡ true
      → Stays (begins now revision (Told snapshot b))
  begins-stays revision can =
      let x : Outcome = begins now revision (Told snapshot b) in
      let list : Required = unnamed b.knows.turn_settings in
      let required : Output = outputs.Require list in
      let asking-none : All (IsUnasking false) (with_output required b.outputs) = unasked false b.outputs list quiet in
      record {
        asks = rest x.knows refl;
        one = last-one false o.knows.who.me.number o.knows.incarnation
            (with_output required b.outputs) (outputs.Server orders.Begin) asking-none;
        sends = λ count below. All-push (IsSynchronousOutput count quorum) (with_output required b.outputs)
            (outputs.Server orders.Begin)
            (keeps-mode false count quorum (with_output required b.outputs) asking-none) tt;
        form = Ordered b.outputs (Requires list) ((outputs.Server orders.Begin) ∷ []) all (inr refl)
            (sym (append_assoc b.outputs (required ∷ []) ((outputs.Server orders.Begin) ∷ [])));
        begins = λ _. subst (λ (server : ServerStatus). can_begin_on_claim server.was_primary server.state ≡ true)
            behind.server can;
        carries = λ e.
            absurd (not-false (has_one is_carrying x.outputs)
            (carried-last (with_output required b.outputs) (outputs.Server orders.Begin) asking-none refl) e);
      }

  write-stays : (question : Question) → WriteSteps Stays now question snapshot b
  write-stays question =
      let told : Outcome = Told snapshot b in record {
        other = rests-quiet told (rest told.knows refl) quiet;
        begins = λ revision _ _ can. begins-stays revision can;
        postpones = λ revision. let x : Outcome = postpones revision told in
            rests-quiet x (rest x.knows refl) (quiet-of false (postpones-idle None revision told) quiet);
        lists = λ set _ _. requires-stays quorum Hears o told (waiting_for told.knows.settings set) refl all;
        empties = λ _. requires-stays quorum Hears o told requireds.Nobody refl all;
      }

  grant-stays : is_paused (informed snapshot b.knows) ≡ false → AsksInSynchronousMode b.knows
      → IsSynchronousSnapshot snapshot → Stays (granted now sequence grant snapshot b)
  grant-stays unpaused asks on = granted-steps Stays now sequence grant snapshot b on (record {
    kept = rests-quiet b asks quiet;
    quiet = rests-quiet (waiting_no_more b) (rest (waiting_no_more b).knows refl) quiet;
    confirms = λ after s.
        record { asks = s.asks; one = s.one; sends = s.sends; form = s.form; begins = s.begins; carries = s.carries };
    unpaused = unpaused;
    mode = λ awaited. leases-on sequence grant b.knows asks awaited;
    leases = λ awaited. lease-stays awaited.waited.ttl;
    writes = λ awaited. write-stays awaited.waited.question;
  })

-- who leads behind what comes before an input leads with a live server
led-kept : (role : RoleFacts) (lives : Bool) → Fits role lives → is_leader role ≡ true → lives ≡ true
led-kept (Leader held) lives fits leads = fits
led-kept Follower lives fits leads = absurd (no-way leads)
led-kept (Holder held) lives fits leads = absurd (no-way leads)
led-kept (Ready held) lives fits leads = absurd (no-way leads)
led-kept (Ending held why) lives fits leads = absurd (no-way leads)
led-kept Unleased lives fits leads = absurd (no-way leads)

ended-unled : (why : Why) (held : ℕ) (o : Outcome) → is_leader (has_ended why held o).role ≡ true
    → live o.machine.server.state ≡ true
ended-unled HandOver held o leads = absurd (no-way leads)
ended-unled Lost held o leads = absurd (no-way leads)

led-lives : (now : Ticks) (o : Outcome) → is_leader (reconciled now o).role ≡ true → live o.machine.server.state ≡ true
led-lives now o =
    before-by (λ (x : Outcome). is_leader x.role ≡ true → live o.machine.server.state ≡ true) now o (record {
      kept = λ fits leads. led-kept o.role (live o.machine.server.state) fits leads;
      leader = λ held _ _ leads. absurd (no-way leads);
      ending = λ held why _ _ leads. ended-unled why held o leads;
      follower = λ _ _ leads. absurd (no-way leads);
      holder = λ held _ _ leads. absurd (no-way leads);
      ready = λ held _ _ leads. absurd (no-way leads);
      unleased = λ _ _ leads. absurd (no-way leads);
    })

-- an input that leaves what commits depend on, behind what comes before it
rests : (now : Ticks) (heard : Heard) (told onto : Option SnapshotFacts) (o x : Outcome)
    → All IsCovered o.outputs → Onward onto o x → Idle told (reconciled now o) x
    → (AsksInSynchronousMode o.knows → HearsSynchronousMode heard → StaysInSynchronousMode strict_quorum heard o x)
    → ((s : State) (m : ℕ) (input : AgentInput) → HearsToCommit s m input heard o → (snapshot : SnapshotFacts) →
    told ≡ Some snapshot → HearsSnapshot s input (sync_seen (sync_read_in snapshot)))
    → CommitsFrom now heard o x
rests now heard told onto o x all onward behind stays hears =
    let idle : Idle told o x =
    idle-then told o (reconciled now o) x (before-idle told now o) behind (before-onward None now o).last in
    record {
      stays = λ _ on hears-on. stays on hears-on;
      lawful = λ _ on hears-on s m input sound stands heard-it is. idle-lawful now heard told onto s m input o x stands
          (shown s m o x input is (stays on hears-on).carries) onward idle (covered true o.outputs all)
          (hears s m input heard-it);
    }

none-told : (snapshot : SnapshotFacts) → ◌≡◌ {A = Option SnapshotFacts} None (Some snapshot) → ⊥
none-told snapshot e = cc

-- it tells no snapshot
still-rests : (now : Ticks) (heard : Heard) (onto : Option SnapshotFacts) (o x : Outcome)
    → All IsCovered o.outputs → Onward onto o x → Idle None (reconciled now o) x
    → (AsksInSynchronousMode (reconciled now o).knows → AsksInSynchronousMode x.knows) → CommitsFrom now heard o x
still-rests now heard onto o x all onward behind asks =
    let b : Outcome = reconciled now o in
    rests now heard None onto o x all onward behind
    (λ on _. quiet-stays strict_quorum heard o x (asks (before-asks now o on))
    (quiet-of false behind (covered false b.outputs (before-covered now o all))))
    (λ s m input _ snapshot e. absurd (none-told snapshot e))

told-is : (told snapshot : SnapshotFacts) → ◌≡◌ {A = Option SnapshotFacts} (Some told) (Some snapshot) → told ≡ snapshot
told-is told snapshot e = cc

-- so does one that hears no snapshot
behind-commits : (now : Ticks) (heard : Heard) (o x : Outcome) → All IsCovered o.outputs
    → Onward None (reconciled now o) x → Idle None (reconciled now o) x
    → (AsksInSynchronousMode (reconciled now o).knows → AsksInSynchronousMode x.knows) → CommitsFrom now heard o x
behind-commits now heard o x all onward idle asks = still-rests now heard None o x all
    (onward-then None o (reconciled now o) x (before-onward None now o) onward) idle asks

-- ---- a read
-- what the answer to it brings: outputs that stand alone, or others
-- that are covered and a question to the key store behind them
data ReadForm (outs : List Output) : Type 0 where
  Alone : All (Stands false) outs → ReadForm outs
  AsksLast : (front : List Output) (sequence : ℕ) (txn : Txn) → All IsCovered front
      → ((count quorum : ℕ) → IsSynchronousTxn count quorum txn)
      → outs ≡ with_output (outputs.Message (outgoing.Send targets.Store sequence (bodies.Request txn))) front
      → ReadForm outs

read-form : (now : Ticks) (points : List HistoryPoint) (sequence : ℕ) (snapshot : SnapshotFacts) (o : Outcome)
    → All IsCovered o.outputs → ReadForm (read_answered now points sequence snapshot o).outputs
read-form now points sequence snapshot o all =
    let read : Outcome = record o { knows = read_noted now snapshot o.knows } in
    let quiet : All (Stands false) o.outputs = covered false o.outputs all in
    got-by (λ (x : Outcome). ReadForm x.outputs) now points sequence snapshot o (record {
      kept = ReadForm.Alone quiet;
      quiet = ReadForm.Alone quiet;
      other = ReadForm.Alone quiet;
      leader = λ held _. ReadForm.Alone (quietly false o.outputs (outputs.Server (orders.Stop LeaderKeyLost)) quiet tt);
      unleased = λ _. ReadForm.Alone (quietly false o.outputs (outputs.Server (orders.Stop LeaderKeyLost)) quiet tt);
      renews = λ _ leader _ _. ReadForm.AsksLast o.outputs (o.knows.sequence + 1)
          (renewal now points leader.revision read.knows read.machine.server (set_carried read)) all
          (λ count quorum. tt) refl;
      touches = ReadForm.Alone (quietly false o.outputs _ quiet tt);
      follows = λ leader _ _. ReadForm.Alone (quiet-of false (follow-idle None now leader.holder read) quiet);
      free = λ _ _. ReadForm.Alone (quiet-of false (free-idle None now read) quiet);
      runs_on = λ _.
          ReadForm.Alone (quietly false o.outputs (outputs.Note (notings.Agent agent_notes.RunsWithoutKey)) quiet tt);
      asks_on = λ _.
          ReadForm.Alone (quietly false
          (with_output (outputs.Note (notings.Agent agent_notes.RunsWithoutKey)) o.outputs) _
          (quietly false o.outputs (outputs.Note (notings.Agent agent_notes.RunsWithoutKey)) quiet tt) refl);
    })

looked-covered : (sequence : ℕ) (snapshot : SnapshotFacts) (o : Outcome) → All IsCovered o.outputs
    → All IsCovered (looked sequence snapshot o).outputs
looked-covered sequence snapshot o all =
    looked-by (λ (x : Outcome). All IsCovered x.outputs) sequence snapshot o (record {
      kept = all;
      answers = λ request answer. All-push IsCovered o.outputs (outputs.Tell (tellings.Told request answer)) all tt;
    })

-- a set for the failsafe key is carried by who leads with a live server
reads-stay : (now : Ticks) (sequence : ℕ) (snapshot : SnapshotFacts) (o x : Outcome) → AsksInSynchronousMode x.knows
    → ReadForm x.outputs → (has_one is_carrying x.outputs ≡ true → live o.machine.server.state ≡ true)
    → StaysInSynchronousMode strict_quorum (ReadAnswered sequence snapshot) o x
reads-stay now sequence snapshot o x asks (Alone quiet) lives =
    quiet-stays strict_quorum (ReadAnswered sequence snapshot) o x asks quiet
reads-stay now sequence snapshot o x asks (AsksLast front number txn all synchronous is) lives =
    let output : Output = outputs.Message (outgoing.Send targets.Store number (bodies.Request txn)) in
    let still : All (IsUnasking false) front = unasking false front (covered false front all) in
    let unbegun : has_one is_begin x.outputs ≡ false = ap (has_one is_begin) is
    ∙ last-unbegun false front output still refl in
    record {
      asks = asks;
      one = subst (λ (l : List Output). IsOneAtMost (requests_of o.knows.who.me.number o.knows.incarnation l))
          (sym is) (last-one false o.knows.who.me.number o.knows.incarnation front output still);
      sends = λ count below. subst (λ (l : List Output). All (IsSynchronousOutput count strict_quorum) l) (sym is)
          (All-push (IsSynchronousOutput count strict_quorum) front output
          (keeps-mode false count strict_quorum front still) (synchronous count strict_quorum));
      form = Ordered front (Asks number (bodies.Request txn)) [] all refl (sym is);
      begins = λ e. absurd (not-false (has_one is_begin x.outputs) unbegun e);
      carries =
          λ e. ap (λ (begun : Bool). if begun then live x.machine.server.state else live o.machine.server.state) unbegun
          ∙ lives e;
    }

read-commits : (now : Ticks) (points : List HistoryPoint) (sequence : ℕ) (snapshot : SnapshotFacts) (o : Outcome)
    → All IsCovered o.outputs
    → CommitsFrom now (ReadAnswered sequence snapshot) o (step now points (ReadAnswered sequence snapshot) o)
read-commits now points sequence snapshot o all =
    let told : Option SnapshotFacts = Some snapshot in
    let b : Outcome = reconciled now o in
    let l : Outcome = looked sequence snapshot b in
    let x : Outcome = read_answered now points sequence snapshot l in
    let first : Onward told o l = looked-onward told now sequence snapshot o in
    let last : b.knows.sequence ≤ l.knows.sequence = looked-by (λ (y : Outcome). b.knows.sequence ≤ y.knows.sequence)
    sequence snapshot b (record { kept = omega arith; answers = λ request answer. omega arith }) in
    let behind : Idle told b x =
    idle-then told b l x (looked-idle told sequence snapshot b) (got-idle now points sequence snapshot l) last in
    let front : All IsCovered b.outputs = before-covered now o all in
    let leads : Bool = is_leader b.role in
    let quiet : All (Stands leads) x.outputs = behind.quiet leads (λ _ e. e) (covered leads b.outputs front) in
    let lives : has_one is_carrying x.outputs ≡ true → live o.machine.server.state ≡ true =
    λ e. led-lives now o (carried-leads leads x.outputs (unasking leads x.outputs quiet) e) in
    rests now (ReadAnswered sequence snapshot) told told o x all
    (onward-then told o l x first (got-onward now points sequence snapshot l)) behind
    (λ on is. reads-stay now sequence snapshot o x
    (got-asks now points sequence snapshot l is (looked-asks sequence snapshot b (before-asks now o on)))
    (read-form now points sequence snapshot l (looked-covered sequence snapshot b front)) lives)
    (λ s m input hears other e.
    subst (λ (y : SnapshotFacts). HearsSnapshot s input (sync_seen (sync_read_in y))) (told-is snapshot other e) hears)

-- whatever is heard, what stands for it is lawful
step-commits : (now : Ticks) (points : List HistoryPoint) (heard : Heard) (o : Outcome)
    → All IsCovered o.outputs → CommitsFrom now heard o (step now points heard o)
step-commits now points Wake o all = still-rests now Wake None o (woken now o) all (wake-onward None now o)
    (wake-idle None now o) (λ on. wake-asks-behind now o on)
step-commits now points (ReadAnswered sequence snapshot) o all = read-commits now points sequence snapshot o all
step-commits now points (HeardGranted sequence grant snapshot) o all =
    let told : Option SnapshotFacts = Some snapshot in let b : Outcome = reconciled now o in
    if-cases (λ (x : Outcome). Onward told o x → CommitsFrom now (HeardGranted sequence grant snapshot) o x)
    (grants_operator sequence grant b.knows) (operator_granted snapshot b.knows.operating b)
    (granted now sequence grant snapshot b)
    (λ _ onward. let x : Outcome = operator_granted snapshot b.knows.operating b in
    still-rests now (HeardGranted sequence grant snapshot) told o x all onward
    (operator-granted-idle None snapshot b.knows.operating b)
    (λ on. operator-granted-asks snapshot b.knows.operating b on))
    (λ _ _. let stays : is_paused o.knows ≡ false → AsksInSynchronousMode o.knows → IsSynchronousSnapshot snapshot →
    StaysInSynchronousMode strict_quorum (HeardGranted sequence grant snapshot) o
    (granted now sequence grant snapshot b) =
    λ was on is. grant-stays strict_quorum now sequence grant snapshot o b (before-behind now o)
    (before-covered now o all) (stays-unpaused now snapshot o was is.unpaused) (before-asks now o on) is in
    record {
      stays = stays;
      lawful = λ was on is s m input sound stands hears input-is.
          grant-commits now sequence grant snapshot s m input o sound stands (covered true o.outputs all) was on is
          hears (shown s m o (granted now sequence grant snapshot b) input input-is (stays was on is).carries);
    })
    (onward-then told o b (granted_any now sequence grant snapshot b) (before-onward told now o)
    (any-granted-onward now sequence grant snapshot b))
step-commits now points (Mismatch sequence key found) o all = let b : Outcome = reconciled now o in
    behind-commits now (Mismatch sequence key found) o (refused_any now sequence b) all
    (any-refused-onward now sequence b) (any-refused-idle None now sequence b)
    (λ on. any-refused-asks now sequence b on)
step-commits now points (Asked from incarnation sequence) o all = let b : Outcome = reconciled now o in
    behind-commits now (Asked from incarnation sequence) o (asked from incarnation sequence b) all
    (asked-onward None from incarnation sequence b) (asked-idle None from incarnation sequence b) (λ on. on)
step-commits now points (Answered sequence answer) o all = let b : Outcome = reconciled now o in
    behind-commits now (Answered sequence answer) o (answered now sequence answer b) all
    (answered-onward None now sequence answer b) (answered-idle None now sequence answer b)
    (λ on. answered-asks now sequence answer b on)
step-commits now points (FailsafeAsked from incarnation sequence ttl) o all = let b : Outcome = reconciled now o in
    behind-commits now (FailsafeAsked from incarnation sequence ttl) o
    (failsafe_asked now from incarnation sequence ttl b) all (holding-onward None now from incarnation sequence ttl b)
    (stay-asked-idle None now from incarnation sequence ttl b)
    (λ on. stay-asked-asks now from incarnation sequence ttl b on)
step-commits now points (FailsafeAnswered from sequence accepted sent) o all = let b : Outcome = reconciled now o in
    behind-commits now (FailsafeAnswered from sequence accepted sent) o
    (failsafe_answered now from sequence accepted sent b) all (staying-onward None now from sequence accepted sent b)
    (stay-answered-idle None now from sequence accepted sent b)
    (λ on. stay-answered-asks now from sequence accepted sent b on)
step-commits now points (HearsOperator action) o all = let b : Outcome = reconciled now o in
    behind-commits now (HearsOperator action) o (operated now action.request action.asked b) all
    (operated-onward now action b) (operated-idle None now action.request action.asked b)
    (λ on. operated-asks now action.request action.asked b on)

-- the same of what is made of an input, where no output stood before
pub input-commits-as : (now : Ticks) (points : List HistoryPoint) (heard : Heard) (role : RoleFacts)
    (knows : Knowledge) (machine : Machine) (outs : List Output) (after : Outcome)
    → after ≡ step now points heard (outcome_from role knows machine outs)
    → outs ≡ [] → CommitsFrom now heard (outcome_from role knows machine []) after
input-commits-as now points heard role knows machine outs after is none =
    let same : after ≡ step now points heard (outcome_from role knows machine []) = is
    ∙ ap (λ (l : List Output). step now points heard (outcome_from role knows machine l)) none in
    subst (λ (x : Outcome). CommitsFrom now heard (outcome_from role knows machine []) x) (sym same)
    (step-commits now points heard (outcome_from role knows machine []) (All-nil IsCovered))

-- an agent that starts waits for nothing, and is to the law one that starts
pub fresh-asks : (who : Who) (first : Ticks) (incarnation : ℕ)
    → AsksInSynchronousMode (fresh_knowledge who first incarnation)
fresh-asks who first incarnation waited is = absurd (none-some waited is)

pub fresh-seen : (who : Who) (first : Ticks) (incarnation : ℕ)
    → committer_seen Follower (fresh_knowledge who first incarnation) ≡ fresh_agent incarnation
fresh-seen who first incarnation = refl

-- what the timed lease gives to an input: to one that arms, that it
-- hears the present leader key and that nobody else acts
pub given-by-lease : (now : Ticks) (heard : Heard) (o : Outcome) (s : State) (m : ℕ) (input : AgentInput)
    (was : Agent) (does : Does s m input was) → DoesAs now heard strict_quorum o s m input was does
    → ((revision : ℕ) → ArmsOn now heard o revision → (s.members m).live ≡ false → input.agent.ready ≡ true →
    ArmsAlone s m revision)
    → IsGivenByLease s m input was does
given-by-lease now heard o s m input was (Racing races) as-it gives = absurd as-it
given-by-lease now heard o s m input was (HearingAnswer answer) as-it gives = absurd as-it
given-by-lease now heard o s m input was (WinningRace wins) as-it gives = absurd as-it
given-by-lease now heard o s m input was (CreatingLeader creates) as-it gives = absurd as-it
given-by-lease now heard o s m input was (Arming arms) as-it gives =
    gives arms.grant.revision as-it.0 arms.not_live as-it.1
given-by-lease now heard o s m input was (Idling idles) as-it gives = tt
given-by-lease now heard o s m input was (TakingOver takes) as-it gives = tt
given-by-lease now heard o s m input was (ChangingRequired changes) as-it gives = tt
given-by-lease now heard o s m input was (Publishing publishes) as-it gives = tt
given-by-lease now heard o s m input was (Promoting promotes) as-it gives = tt
given-by-lease now heard o s m input was (SettlingRequired settles) as-it gives = tt
