-- What a granted request brings an agent.
use Rattle.std.proofs.Common.{◌≡◌, ℕ, ◌+◌, ◌&&◌, ◌||◌, Bool, true, false, not, if◌then◌else◌, List, [], ◌∷◌, Option, Some, None, zero, suc, refl, sym, ap, ◌∙◌, inl, inr, ◌⊎◌}
use Rattle.pat_base.specs.declared.ticks.Ticks.{Ticks}
use Rattle.lease_store.specs.declared.granted.Granted.{Granted}
use Rattle.leader_key.specs.Watchdog.{is_armable, fed}
use Rattle.cluster_view.specs.Snapshots.{SnapshotFacts, failsafe_in}
use Rattle.event_book.specs.declared.agent_note.AgentNote.TheVariants as agent_notes
use Rattle.event_book.specs.declared.reason.Reason.TheVariants.{StartTooLong, WatchdogNotArmed}
use Rattle.pat_base.specs.ServerState.{live}
use Rattle.agent_model.specs.declared.knowledge.PendingQuestion.{PendingQuestion}
use Rattle.agent_model.specs.declared.output.Output.{Output}
use Rattle.agent_model.specs.declared.output.Output.TheVariants as outputs
use Rattle.agent_model.specs.declared.output.Feeding.TheVariants as feedings
use Rattle.agent_model.specs.declared.output.Noting.TheVariants as notings
use Rattle.agent_model.specs.declared.output.Outgoing.TheVariants as outgoing
use Rattle.agent_model.specs.declared.output.ServerOrder.TheVariants as orders
use Rattle.agent_model.specs.declared.output.Telling.TheVariants as tellings
use Rattle.agent_model.specs.declared.why.Why.TheVariants.{HandOver}
use Rattle.agent_model.specs.Acting.{armed, comes_late, fed_until, arming, ending_server, requiring, is_hold_active, is_refusing, waiting_no_more}
use Rattle.agent_model.specs.Agents.{Ending, Outcome, is_leader, is_ready}
use Rattle.agent_model.specs.Claiming.{begins_or_claims, passing, postpones}
use Rattle.agent_model.specs.Decisions.{cannot_arm, confirming, is_decision, is_lease_of, judges_start, leader_renewed, takes_over, unleased_renewed, unleased_unarmed, can_begin, may_take, gives_back, arms, takes_key, granted, takes_key_in_pause}
use Rattle.agent_model.specs.Fits.{Fits}
use Rattle.agent_model.specs.Outputs.{with_output, is_feeding, has_one}
use Rattle.agent_model.specs.Planning.{writing_sync, noting}
use Rattle.agent_roles.specs.Powers.{IsAwaitedLease, GrantMay, BringsNothing, DeadlineMay, Acts, lease_of}
use Rattle.agent_roles.specs.Powers.DeadlineMay.{Kept, Removed, Undone}
use Rattle.agent_roles.specs.Powers.GrantMay.{Nothing, Leads, Keeps, Rests, Begins}
use Rattle.agent_model.specs.Snapshots.{informed, known_with}
use Rattle.agent_model.specs.Synchronous.{may_lead_in_sync, unnamed}
use Rattle.agent_roles.proofs.Bringing.{same-role, no-lease, postpones-brings}
use Rattle.agent_roles.proofs.Fitting.{ended-for}
use Rattle.agent_roles.proofs.Leaving.{ready-is, behind-by, postpones-stays}
use Rattle.agent_roles.proofs.Living.{no-way, stop-live}
use Rattle.agent_model.specs.HandingOver.{asking_whom, checking, hands_over}
use Rattle.agent_model.specs.Operators.{answering, learned}
use Rattle.agent_model.specs.Racing.{unheard}
use Rattle.agent_model.specs.Table.{granted_any}
use Rattle.agent_model.specs.Answers.{is_other, asking_one, asking_first}
use Rattle.pat_base.specs.declared.member_id.TheConstants.{MOST_MEMBERS}
use Rattle.agent_model.specs.declared.who.Who.{Who}
use Rattle.pat_base.specs.MemberId.{member_of}
use Rattle.pat_base.specs.declared.member_id.MemberId.{MemberId}
use Rattle.event_book.specs.declared.message.Body.TheVariants as bodies
use Rattle.agent_model.specs.declared.output.Target.TheVariants as targets
use Rattle.agent_cases.proofs.Rows.{dropping, if-cases}
use Rattle.agent_cases.proofs.Grants.{granted-any-by, SyncWhen, kept_on, led_on, granted-when, judges-start-by, renewed-by, passing-by, begins-or-claims-by, DutyRows, duties-of, leading_in_pause}
use Rattle.agent_model.specs.Pausing.{is_paused, is_wanted, disabling_watchdog}

pub take-free : (held can : Bool) → not held && can ≡ true → held ≡ false
take-free true can e = sym e
take-free false can e = refl

either-true : (a b : Bool) → b ≡ true → a || b ≡ true
either-true true b e = refl
either-true false b e = e

either-more : (a b c : Bool) → (b ≡ true → c ≡ true) → a || b ≡ true → a || c ≡ true
either-more true b c more e = refl
either-more false b c more e = more e

-- a test that a further output passes
pub one-last : (test : Output → Bool) (outs : List Output) (output : Output) → test output ≡ true
    → has_one test (with_output output outs) ≡ true
one-last test [] output is = rw is refl
one-last test (one ∷ outs) output is =
    either-true (test one) (has_one test (with_output output outs)) (one-last test outs output is)

-- a test that one before it passes
pub one-before : (test : Output → Bool) (outs : List Output) (output : Output) → has_one test outs ≡ true
    → has_one test (with_output output outs) ≡ true
one-before test [] output is = absurd (no-way is)
one-before test (one ∷ outs) output is =
    either-more (test one) (has_one test outs) (has_one test (with_output output outs)) (one-before test outs output) is

fed-told : (outs : List Output) (until : Ticks) (armable : Bool) → armable ≡ true
    → has_one is_feeding (fed_until (if armable then Some until else None) outs) ≡ true
fed-told outs until true is = one-last is_feeding outs (outputs.Watchdog (feedings.Fed until)) refl
fed-told outs until false is = absurd (no-way is)

armed-told : (outs : List Output) (until : Ticks) (armable : Bool) → armable ≡ true
    → has_one is_feeding (armed (if armable then Some until else None) outs) ≡ true
armed-told outs until true is = one-last is_feeding outs (outputs.Watchdog (feedings.Armed until)) refl
armed-told outs until false is = absurd (no-way is)

abbrev pub Told : SnapshotFacts → Outcome → Outcome
Told snapshot o = record o { knows = informed snapshot o.knows }

-- whoever acts in a role that isn't about to begin has a live server
acts-live : (after : Outcome) (X Y : Type 0) → is_ready after.role ≡ false
    → (live after.machine.server.state ≡ true → X) → Acts after → X ⊎ Y
acts-live after X Y unready lives (inl acts) = inl (lives acts)
acts-live after X Y unready lives (inr ready) = absurd (no-way (sym unready ∙ ready))

-- the lease of the grant, with the watchdog fed on it, over a server that was live before if it is after
leads-live : (now : Ticks) (sequence : ℕ) (grant : Granted) (snapshot : SnapshotFacts) (o after : Outcome)
    (awaited : IsAwaitedLease sequence grant o.knows) → comes_late now awaited.waited o.machine ≡ false
    → after.machine.watchdog ≡ fed now.0 awaited.waited.ttl.0 o.machine.watchdog
    → after.machine.by_failsafe
    ≡ (not (is_armable o.machine.watchdog.mode o.machine.watchdog.works) && o.machine.by_failsafe)
    → lease_of after.role ≡ Some grant.revision → is_ready after.role ≡ false
    → after.knows.known ≡ known_with o.knows.known (failsafe_in snapshot)
    → (is_armable o.machine.watchdog.mode o.machine.watchdog.works ≡ true → has_one is_feeding after.outputs ≡ true)
    → (live after.machine.server.state ≡ true → live o.machine.server.state ≡ true)
    → GrantMay now sequence grant snapshot o after
leads-live now sequence grant snapshot o after awaited in_time fed-is basis lease unready known told lives =
    Leads awaited in_time fed-is basis lease (λ ready. absurd (no-way (sym unready ∙ ready))) known told
    (acts-live after _ _ unready lives) (acts-live after _ _ unready lives)

-- asks stand behind what was told before
ask-told : (who : Who) (sequence : ℕ) (member : Option MemberId) (outs : List Output)
    → has_one is_feeding outs ≡ true → has_one is_feeding (asking_one who sequence member outs) ≡ true
ask-told who sequence None outs told = told
ask-told who sequence (Some member) outs told = if-cases (λ (l : List Output). has_one is_feeding l ≡ true)
    (is_other who member)
    (with_output (outputs.Message (outgoing.Send (targets.Member member) sequence bodies.Ask)) outs) outs
    (λ _. one-before is_feeding outs (outputs.Message (outgoing.Send (targets.Member member) sequence bodies.Ask)) told)
    (λ _. told)

asks-told : (who : Who) (sequence count : ℕ) (outs : List Output) → has_one is_feeding outs ≡ true
    → has_one is_feeding (asking_first who sequence count outs) ≡ true
asks-told who sequence zero outs told = told
asks-told who sequence (suc count) outs told = ask-told who sequence (member_of count)
    (asking_first who sequence count outs) (asks-told who sequence count outs told)

whom-told : (who : Who) (candidate : Option MemberId) (sequence : ℕ) (outs : List Output)
    → has_one is_feeding outs ≡ true → has_one is_feeding (asking_whom who candidate sequence outs) ≡ true
whom-told who None sequence outs told = asks-told who sequence MOST_MEMBERS outs told
whom-told who (Some candidate) sequence outs told = ask-told who sequence (Some candidate) outs told

renewed-may : (now : Ticks) (sequence : ℕ) (grant : Granted) (snapshot : SnapshotFacts) (o : Outcome)
    (awaited : IsAwaitedLease sequence grant o.knows) → comes_late now awaited.waited o.machine ≡ false
    → GrantMay now sequence grant snapshot o (leader_renewed now awaited.waited.ttl grant.revision (Told snapshot o))
renewed-may now sequence grant snapshot o awaited in_time =
    let led : Outcome = led_on now awaited.waited.ttl grant.revision (Told snapshot o) in
    let told : is_armable o.machine.watchdog.mode o.machine.watchdog.works ≡ true
    → has_one is_feeding led.outputs ≡ true =
    fed-told o.outputs _ (is_armable o.machine.watchdog.mode o.machine.watchdog.works) in
    let ended : Outcome = record (ending_server now StartTooLong led) { role = Ending grant.revision HandOver } in
    renewed-by (GrantMay now sequence grant snapshot o) now awaited.waited.ttl grant.revision (Told snapshot o)
    (leads-live now sequence grant snapshot o ended awaited in_time refl refl refl refl refl
    (λ armable. one-before is_feeding led.outputs (outputs.Server (orders.Stop StartTooLong)) (told armable))
    (stop-live now o.machine.server))
    (record {
      plan = record {
        kept = leads-live now sequence grant snapshot o led awaited in_time refl refl refl refl refl told (λ e. e);
        writes = λ settling txn _. leads-live now sequence grant snapshot o (writing_sync now settling txn led) awaited
            in_time refl refl refl refl refl (λ armable. one-before is_feeding led.outputs _ (told armable)) (λ e. e);
        adds = λ required. leads-live now sequence grant snapshot o
            (requiring required (noting led)) awaited in_time refl refl refl refl refl
            (λ armable. one-before is_feeding led.outputs (outputs.Require required) (told armable)) (λ e. e);
        drops = λ required.
            leads-live now sequence grant snapshot o (requiring required led) awaited in_time refl refl refl refl refl
            (λ armable. one-before is_feeding led.outputs (outputs.Require required) (told armable)) (λ e. e);
      };
      clears = λ compared. leads-live now sequence grant snapshot o (dropping compared led) awaited in_time
          refl refl refl refl refl (λ armable. one-before is_feeding led.outputs _ (told armable)) (λ e. e);
      asks = λ candidate. leads-live now sequence grant snapshot o
          (checking now candidate (unheard led)) awaited in_time refl refl refl refl refl
          (λ armable. whom-told led.knows.who candidate (led.knows.sequence + 1) led.outputs (told armable)) (λ e. e);
      judges = record {
        kept = leads-live now sequence grant snapshot o
            (waiting_no_more (unheard led)) awaited in_time refl refl refl refl refl told (λ e. e);
        clears = λ compared. leads-live now sequence grant snapshot o
            (dropping compared (waiting_no_more (unheard led))) awaited in_time refl refl refl refl refl
            (λ armable. one-before is_feeding led.outputs _ (told armable)) (λ e. e);
        hands = λ candidate. leads-live now sequence grant snapshot o
            (hands_over now grant.revision candidate (waiting_no_more (unheard led))) awaited in_time refl
            refl refl refl refl
            (λ armable. one-before is_feeding
            (with_output (outputs.Note (notings.Agent (agent_notes.HandsOver candidate))) led.outputs)
            (outputs.Server orders.ShutDown)
            (one-before is_feeding led.outputs
            (outputs.Note (notings.Agent (agent_notes.HandsOver candidate))) (told armable)))
            (stop-live now o.machine.server);
      };
    })

unleased-may : (now : Ticks) (sequence : ℕ) (grant : Granted) (snapshot : SnapshotFacts) (o : Outcome)
    (awaited : IsAwaitedLease sequence grant o.knows) → comes_late now awaited.waited o.machine ≡ false
    → GrantMay now sequence grant snapshot o (unleased_renewed now awaited.waited.ttl grant.revision (Told snapshot o))
unleased-may now sequence grant snapshot o awaited in_time =
    let over : Outcome = takes_over now grant.revision (arming now awaited.waited.ttl (Told snapshot o)) in
    if-cases (GrantMay now sequence grant snapshot o) (is_refusing o.machine.watchdog.mode o.machine.watchdog.works)
    (ending_server now WatchdogNotArmed (Told snapshot o)) over
    (λ _.
    Nothing (same-role o (ending_server now WatchdogNotArmed (Told snapshot o)) refl (stop-live now o.machine.server))
    (Kept refl) refl)
    (λ _. leads-live now sequence grant snapshot o over awaited in_time refl refl refl refl refl
    (armed-told o.outputs _ (is_armable o.machine.watchdog.mode o.machine.watchdog.works)) (λ e. e))

-- a note of the sync key takes nothing from what was fed
passing-told : (o : Outcome) → has_one is_feeding o.outputs ≡ true → has_one is_feeding (passing o).outputs ≡ true
passing-told o told = passing-by (λ (outs : List Output). has_one is_feeding outs ≡ true) o told
    (one-before is_feeding o.outputs (outputs.Tell tellings.ClaimsOutsideSync) told)

arms-may : (now : Ticks) (sequence : ℕ) (grant : Granted) (snapshot : SnapshotFacts) (o : Outcome)
    (awaited : IsAwaitedLease sequence grant o.knows) → comes_late now awaited.waited o.machine ≡ false
    → live o.machine.server.state ≡ false → is_hold_active now o.machine.hold ≡ false
    → GrantMay now sequence grant snapshot o (arms now awaited.waited.ttl grant.revision (Told snapshot o))
arms-may now sequence grant snapshot o awaited in_time ended free =
    let back : Outcome = gives_back grant.revision
    (record (Told snapshot o) {
      outputs =
          with_output (outputs.Note (notings.Agent agent_notes.CannotArm)) o.outputs;
    }) in
    let arm : Outcome = arming now awaited.waited.ttl (Told snapshot o) in
    let told : is_armable o.machine.watchdog.mode o.machine.watchdog.works ≡ true
    → has_one is_feeding arm.outputs ≡ true =
    armed-told o.outputs _ (is_armable o.machine.watchdog.mode o.machine.watchdog.works) in
    if-cases (GrantMay now sequence grant snapshot o)
    (is_refusing o.machine.watchdog.mode o.machine.watchdog.works) back (begins_or_claims now grant.revision arm)
    (λ _. Nothing (no-lease o back refl refl (λ e. e)) (Kept refl) refl)
    (λ ready. begins-or-claims-by (GrantMay now sequence grant snapshot o) now grant.revision arm
    (Leads awaited in_time refl refl refl (λ e. absurd (no-way e)) refl
    (λ armable.
    one-before is_feeding (with_output (outputs.Require (unnamed arm.knows.turn_settings)) arm.outputs)
    (outputs.Server orders.Begin)
    (one-before is_feeding arm.outputs (outputs.Require (unnamed arm.knows.turn_settings)) (told armable)))
    (λ _. inr free) (λ _. inr ready))
    (Leads awaited in_time refl refl refl (λ _. ended) refl
    (λ armable. one-before is_feeding (passing arm).outputs _ (passing-told arm (told armable)))
    (λ _. inr free) (λ _. inr ready)))

takes-may : (now : Ticks) (sequence : ℕ) (grant : Granted) (snapshot : SnapshotFacts) (o : Outcome)
    (awaited : IsAwaitedLease sequence grant o.knows) → comes_late now awaited.waited o.machine ≡ false
    → live o.machine.server.state ≡ false
    → GrantMay now sequence grant snapshot o (takes_key now awaited.waited.ttl grant.revision (Told snapshot o))
takes-may now sequence grant snapshot o awaited in_time ended =
    let back : Outcome = gives_back grant.revision (Told snapshot o) in
    if-cases (GrantMay now sequence grant snapshot o) (may_take now (Told snapshot o).knows o.machine)
    (arms now awaited.waited.ttl grant.revision (Told snapshot o)) back
    (λ may. arms-may now sequence grant snapshot o awaited in_time ended
    (take-free (is_hold_active now o.machine.hold)
    (can_begin now o.knows o.machine.server o.machine.server.state && may_lead_in_sync o.knows) may))
    (λ _. Nothing (no-lease o back refl refl (λ e. e)) (Kept refl) refl)

-- a leader that hears of its renewal too late
kept-may : (now : Ticks) (sequence : ℕ) (grant : Granted) (snapshot : SnapshotFacts) (o : Outcome)
    (awaited : IsAwaitedLease sequence grant o.knows) → comes_late now awaited.waited o.machine ≡ true
    → is_leader o.role ≡ true
    → GrantMay now sequence grant snapshot o
    (judges_start now grant.revision (kept_on grant.revision (Told snapshot o)))
kept-may now sequence grant snapshot o awaited late led =
    let kept : Outcome = kept_on grant.revision (Told snapshot o) in
    judges-start-by (GrantMay now sequence grant snapshot o) now grant.revision kept
    (Keeps awaited late led refl refl refl refl refl (stop-live now o.machine.server)) (record {
      plan = record {
        kept = Keeps awaited late led refl refl refl refl refl (λ e. e);
        writes = λ settling txn _. Keeps awaited late led refl refl refl refl refl (λ e. e);
        adds = λ required. Keeps awaited late led refl refl refl refl refl (λ e. e);
        drops = λ required. Keeps awaited late led refl refl refl refl refl (λ e. e);
      };
      clears = λ compared. Keeps awaited late led refl refl refl refl refl (λ e. e);
      asks = λ candidate. Keeps awaited late led refl refl refl refl refl (λ e. e);
      judges = record {
        kept = Keeps awaited late led refl refl refl refl refl (λ e. e);
        clears = λ compared. Keeps awaited late led refl refl refl refl refl (λ e. e);
        hands = λ candidate. Keeps awaited late led refl refl refl refl refl (stop-live now o.machine.server);
      };
    })

pub both-true : (a b : Bool) → a && b ≡ true → (a ≡ true) × (b ≡ true)
both-true true b e = (refl, e)
both-true false b e = absurd (no-way e)

-- the lease of the grant in a pause, with no deadline, over a server that was live before if it is after
paused-live : (now : Ticks) (sequence : ℕ) (grant : Granted) (snapshot : SnapshotFacts) (o after : Outcome)
    → is_paused (informed snapshot o.knows) ≡ true → IsAwaitedLease sequence grant o.knows
    → after.machine.watchdog ≡ record o.machine.watchdog { deadline = None }
    → lease_of after.role ≡ Some grant.revision → is_ready after.role ≡ false
    → (live after.machine.server.state ≡ true → live o.machine.server.state ≡ true)
    → GrantMay now sequence grant snapshot o after
paused-live now sequence grant snapshot o after paused awaited rested lease unready lives =
    Rests paused awaited rested lease (acts-live after _ _ unready lives)

leading-in-pause-may : (now : Ticks) (sequence : ℕ) (grant : Granted) (snapshot : SnapshotFacts) (renews : Bool)
    (o : Outcome) → is_paused (informed snapshot o.knows) ≡ true → IsAwaitedLease sequence grant o.knows
    → DutyRows (GrantMay now sequence grant snapshot o) now grant.revision
    (leading_in_pause renews grant.revision (Told snapshot o))
leading-in-pause-may now sequence grant snapshot renews o paused awaited =
    let led : Outcome = leading_in_pause renews grant.revision (Told snapshot o) in
    let leads : (after : Outcome) → after.machine.watchdog ≡ record o.machine.watchdog { deadline = None }
    → lease_of after.role ≡ Some grant.revision → is_ready after.role ≡ false
    → (live after.machine.server.state ≡ true → live o.machine.server.state ≡ true)
    → GrantMay now sequence grant snapshot o after
    = λ after rested lease unready lives.
    paused-live now sequence grant snapshot o after paused awaited rested lease unready lives in
    record {
      plan = record {
        kept = leads led refl refl refl (λ e. e);
        writes = λ settling txn _. leads (writing_sync now settling txn led) refl refl refl (λ e. e);
        adds = λ required. leads (requiring required (noting led)) refl refl refl (λ e. e);
        drops = λ required. leads (requiring required led) refl refl refl (λ e. e);
      };
      clears = λ compared. leads (dropping compared led) refl refl refl (λ e. e);
      asks = λ candidate. leads (checking now candidate (unheard led)) refl refl refl (λ e. e);
      judges = record {
        kept = leads (waiting_no_more (unheard led)) refl refl refl (λ e. e);
        clears = λ compared. leads (dropping compared (waiting_no_more (unheard led))) refl refl refl (λ e. e);
        hands = λ candidate. leads (hands_over now grant.revision candidate (waiting_no_more (unheard led)))
            refl refl refl (stop-live now o.machine.server);
      };
    }

-- in a pause who is wanted takes the key, with no deadline
takes-in-pause-may : (now : Ticks) (sequence : ℕ) (grant : Granted) (snapshot : SnapshotFacts) (renews : Bool)
    (o : Outcome) → is_paused (informed snapshot o.knows) ≡ true → IsAwaitedLease sequence grant o.knows
    → GrantMay now sequence grant snapshot o (takes_key_in_pause now renews grant.revision (Told snapshot o))
takes-in-pause-may now sequence grant snapshot renews o paused awaited =
    let rest : Outcome = disabling_watchdog renews (Told snapshot o) in
    let taken : Bool = may_take now o.knows o.machine in
    if-cases (GrantMay now sequence grant snapshot o)
    (is_wanted o.knows.who.me o.knows.turn_failover o.machine.server.state && taken)
    (begins_or_claims now grant.revision rest) (gives_back grant.revision (Told snapshot o))
    (λ may. let free : is_hold_active now o.machine.hold ≡ false = take-free (is_hold_active now o.machine.hold)
    (can_begin now o.knows o.machine.server o.machine.server.state && may_lead_in_sync o.knows)
    (both-true (is_wanted o.knows.who.me o.knows.turn_failover o.machine.server.state) taken may).1 in
    begins-or-claims-by (GrantMay now sequence grant snapshot o) now grant.revision rest
    (Rests paused awaited refl refl (λ _. inr free)) (Rests paused awaited refl refl (λ _. inr free)))
    (λ _. Nothing (no-lease o (gives_back grant.revision (Told snapshot o)) refl refl (λ e. e)) (Kept refl) refl)

-- an agent that was about to begin begins, or keeps its lease
sync-may : (now : Ticks) (sequence : ℕ) (grant : Granted) (snapshot : SnapshotFacts) (o : Outcome)
    → Fits o.role (live o.machine.server.state)
    → SyncWhen (GrantMay now sequence grant snapshot o) now (Told snapshot o)
sync-may now sequence grant snapshot o fits = record {
  other = Nothing (same-role o (Told snapshot o) refl (λ e. e)) (Kept refl) refl;
  begins = λ revision is _. Begins (ready-is o.role revision is) refl refl refl (sym (ap lease_of is));
  postpones = λ revision is. let brings : BringsNothing o (postpones revision (Told snapshot o)) =
      postpones-brings o revision (Told snapshot o) is refl in
      Nothing brings
      (behind-by o o (postpones revision (Told snapshot o)) (Kept refl)
      (postpones-stays o revision (Told snapshot o) is fits refl).watchdog brings)
      refl;
  settles = λ required _. Nothing (same-role o (requiring required (Told snapshot o)) refl (λ e. e)) (Kept refl) refl;
}

abbrev pub awaited-lease : (sequence : ℕ) (grant : Granted) (o : Outcome) (waited : PendingQuestion)
    → o.knows.waited ≡ Some waited → is_decision waited sequence && is_lease_of o.knows.who.me grant ≡ true
    → IsAwaitedLease sequence grant o.knows
awaited-lease sequence grant o waited is both =
    let parts : (is_decision waited sequence ≡ true) × (is_lease_of o.knows.who.me grant ≡ true) =
    both-true (is_decision waited sequence) (is_lease_of o.knows.who.me grant) both in
    record { waited = waited; is = is; decision = parts.0; mine = parts.1 }

-- a failsafe set that is confirmed changes nothing of it
confirms-may : (now : Ticks) (sequence : ℕ) (grant : Granted) (snapshot : SnapshotFacts) (o after : Outcome)
    → GrantMay now sequence grant snapshot o after → GrantMay now sequence grant snapshot o (confirming snapshot after)
confirms-may now sequence grant snapshot o after (Nothing brings deadline basis) =
    Nothing (record { live = brings.live; leads = brings.leads; ready = brings.ready; lease = brings.lease })
    (still deadline) basis
  where
    still : DeadlineMay o after → DeadlineMay o (confirming snapshot after)
    still (Kept same) = Kept same
    still (Removed is rests) = Removed is (λ acts. rests acts)
    still (Undone is ready live) = Undone is ready live
confirms-may now sequence grant snapshot o after
    (Leads awaited in_time fed-is basis lease parted known told free armed) =
    Leads awaited in_time fed-is basis lease parted known told (λ acts. free acts) (λ acts. armed acts)
confirms-may now sequence grant snapshot o after (Keeps awaited late led same basis lease ready known lives) =
    Keeps awaited late led same basis lease ready known (λ is. lives is)
confirms-may now sequence grant snapshot o after (Rests paused awaited rested lease free) =
    Rests paused awaited rested lease (λ acts. free acts)
confirms-may now sequence grant snapshot o after (Begins was_ready ready same basis lease) =
    Begins was_ready ready same basis lease

pub granted-may : (now : Ticks) (sequence : ℕ) (grant : Granted) (snapshot : SnapshotFacts) (o : Outcome)
    → Fits o.role (live o.machine.server.state)
    → GrantMay now sequence grant snapshot o (granted now sequence grant snapshot o)
granted-may now sequence grant snapshot o fits =
    granted-when (GrantMay now sequence grant snapshot o) now sequence grant snapshot o
    (Nothing (same-role o o refl (λ e. e)) (Kept refl) refl)
    (Nothing (same-role o (waiting_no_more o) refl (λ e. e)) (Kept refl) refl)
    (λ waited is decision. let awaited = awaited-lease sequence grant o waited is decision in record {
      other = Nothing (same-role o (Told snapshot o) refl (λ e. e)) (Kept refl) refl;
      leader = λ held _ in_time _. renewed-may now sequence grant snapshot o awaited in_time;
      unleased = λ _ in_time _. unleased-may now sequence grant snapshot o awaited in_time;
      takes = λ _ in_time may. takes-may now sequence grant snapshot o awaited in_time
          (ended-for o.role (live o.machine.server.state) may fits);
      keeps_late = λ held _ late is. kept-may now sequence grant snapshot o awaited late (rw is refl);
      ends_late = λ _ _. Nothing
          (same-role o (unleased_unarmed now (Told snapshot o)) refl (stop-live now o.machine.server)) (Kept refl) refl;
      refuses_late =
          λ _ _. Nothing (no-lease o (cannot_arm grant.revision (Told snapshot o)) refl refl (λ e. e)) (Kept refl) refl;
      returns_late =
          λ _ _. Nothing (no-lease o (gives_back grant.revision (Told snapshot o)) refl refl (λ e. e)) (Kept refl) refl;
      leads_in_pause = λ renews paused held _. duties-of (GrantMay now sequence grant snapshot o) now grant.revision
          (leading_in_pause renews grant.revision (Told snapshot o))
          (leading-in-pause-may now sequence grant snapshot renews o paused awaited);
      unleased_in_pause = λ renews paused _. paused-live now sequence grant snapshot o
          (takes_over now grant.revision (disabling_watchdog renews (Told snapshot o))) paused awaited refl refl refl
          (λ e. e);
      takes_in_pause = λ renews paused _. takes-in-pause-may now sequence grant snapshot renews o paused awaited;
    })
    (confirms-may now sequence grant snapshot o)
    (sync-may now sequence grant snapshot o fits)

-- a grant of what an operator wants brings nothing
pub any-granted-may : (now : Ticks) (sequence : ℕ) (grant : Granted) (snapshot : SnapshotFacts) (o : Outcome)
    → Fits o.role (live o.machine.server.state)
    → GrantMay now sequence grant snapshot o (granted_any now sequence grant snapshot o)
any-granted-may now sequence grant snapshot o fits =
    granted-any-by (GrantMay now sequence grant snapshot o) now sequence grant snapshot o
    (Nothing (same-role o o refl (λ e. e)) (Kept refl) refl)
    (record {
      kept = Nothing (same-role o (learned snapshot o) refl (λ e. e)) (Kept refl) refl;
      answers = λ request told.
          Nothing (same-role o (answering request told (learned snapshot o)) refl (λ e. e)) (Kept refl) refl;
    })
    (granted-may now sequence grant snapshot o fits)
