-- What leaves agents with nothing to do.
use Rattle.std.proofs.Common.{◌≡◌, ◌≢◌, ◌&&◌, ℕ, ◌+◌, ◌-◌, ◌≤◌, ◌<◌, ◌++◌, Bool, false, cond, List, [], ◌∷◌, drop, length, length-append, Option, Some, None, IfSome, option_and_then, option_map, is_some, arith, true≢false, zero, suc, inl, inr, refl, ap, sym, subst, ◌∙◌}
use Rattle.std.specs.Prelude.{slice_get, slice_set}
use Rattle.std.proofs.Math.Seq.{drop-append_seam}
use Rattle.std.proofs.lemmas.Bool.{cases_eq, or_parts}
use Rattle.std.proofs.lemmas.Option.{none-some, same_Some}
use Rattle.pat_base.specs.declared.server_state.State.{State}
use Rattle.pat_base.specs.declared.ticks.Ticks.{Ticks}
use Rattle.pat_base.specs.Changes.{changed_at, with_changed}
use Rattle.pg_model.specs.Facts.{ServerFacts}
use Rattle.pg_model.specs.Replication.{appended, confirming, received_from, requiring}
use Rattle.pg_model.proofs.Lists.{got-set_other}
use Rattle.event_book.specs.declared.agent_process.AgentProcess.{AgentProcess}
use Rattle.event_book.specs.declared.event.AgentEvent.TheVariants.{Woken}
use Rattle.event_book.specs.declared.event.Event.{Event}
use Rattle.event_book.specs.declared.event.EventKind.{EventKind}
use Rattle.event_book.specs.declared.event.EventKind.TheVariants as kinds
use Rattle.event_book.specs.declared.event.LogEvent.TheVariants as logs
use Rattle.event_book.specs.declared.event.MessageEvent.TheVariants as messages
use Rattle.event_book.specs.declared.event.ReplicationEvent.TheVariants as replications
use Rattle.event_book.specs.declared.event.WatchdogEvent.TheVariants as watchdogs
use Rattle.event_book.specs.declared.member.Member.{Member}
use Rattle.event_book.specs.Remote.{server_at}
use Rattle.event_book.specs.Servers.{received_by}
use Rattle.event_book.specs.Watchdogs.{prolonged_to}
use Rattle.event_list.specs.Listed.{Listed, ◌+++◌}
use Rattle.event_list.specs.Marks.{rouse_agents, rouses_agents}
use Rattle.event_list.proofs.Appended.{appended_assoc}
use Rattle.agent_model.specs.declared.heard.Heard.TheVariants.{Wake}
use Rattle.agent_model.specs.Agents.{AgentFacts, Outcome}
use Rattle.agent_model.specs.Wake.{due_from}
use Rattle.cluster_model.specs.Cluster.{agent_after, cluster_after, cluster_over}
use Rattle.cluster_model.specs.Inputs.{agent_at, has_work, may_act, outcome_of, standing_of}
use Rattle.cluster_model.specs.Messages.{input_events, no_message, wake_events, wake_events_if, wake_events_of}
use Rattle.cluster_model.specs.Parts.{event_of, for_some}
use Rattle.cluster_model.specs.FailsafeDeadlines.{failsafe_deadlines_by}
use Rattle.cluster_model.specs.State.{Cluster}
use Rattle.cluster_model.proofs.Places.{there}
use Rattle.world_model.specs.Emits.{Emits}
use Rattle.world_model.specs.Idle.{HasWorkFrom, IsAsleep, SleepsAt, at_moment, work_moment}
use Rattle.world_model.specs.Room.{input_cost}
use Rattle.world_model.proofs.Idling.{work-from}
use Rattle.world_model.proofs.Rest.{EachLeft, EachLeft-members, EachLeft-more}
use Rattle.world_model.proofs.Taking.{Emits-nothing}
use Rattle.world_acts.specs.Asleep.{AreAsleep, until_of}
use Rattle.world_acts.specs.declared.sleepers.Sleepers.{Sleepers}

-- ---- lists of which one item changes
set-there : {X : Type 0} (xs : List X) (i : ℕ) (y : X) (n : ℕ)
    → is_some (slice_get (slice_set xs i y) n) ≡ is_some (slice_get xs n)
set-there [] i y n = refl
set-there (x ∷ xs) zero y zero = refl
set-there (x ∷ xs) zero y (suc n) = refl
set-there (x ∷ xs) (suc i) y zero = refl
set-there (x ∷ xs) (suc i) y (suc n) = set-there xs i y n

changed-there : {X : Type 0} (xs : List X) (k : ℕ) (change : X → X) (found : Option X) (n : ℕ)
    → is_some (slice_get (changed_at xs k change found) n) ≡ is_some (slice_get xs n)
changed-there xs k change None n = refl
changed-there xs k change (Some x) n = set-there xs k (change x) n

changed-elsewhere : {X : Type 0} (xs : List X) (k : ℕ) (change : X → X) (found : Option X) (n : ℕ) → n ≢ k
    → slice_get (changed_at xs k change found) n ≡ slice_get xs n
changed-elsewhere xs k change None n other = refl
changed-elsewhere xs k change (Some x) n other = got-set_other xs k n (change x) other

-- ---- from when on there is something to do
-- for the agent of the member of this number
abbrev pub work_at : Cluster → ℕ → Option Ticks
work_at cluster n = work_moment (slice_get cluster.options n) (slice_get cluster.facts.deadlines n)
    (slice_get cluster.facts.holds n) (slice_get cluster.facts.servers n) (agent_at cluster.agents n)

-- that doesn't depend on which deadline and which hold there are
work-by : (options : Option _) (deadline before hold held : Option (Option Ticks)) (s : Option ServerFacts)
    (agent : Option AgentFacts) → is_some deadline ≡ is_some before → is_some hold ≡ is_some held
    → work_moment options deadline hold s agent ≡ work_moment options before held s agent
work-by None deadline before hold held s agent same too = refl
work-by (Some options) None None hold held s agent same too = refl
work-by (Some options) None (Some b) hold held s agent same too = absurd (true≢false (sym same))
work-by (Some options) (Some d) None hold held s agent same too = absurd (true≢false same)
work-by (Some options) (Some d) (Some b) None None s agent same too = refl
work-by (Some options) (Some d) (Some b) None (Some held) s agent same too = absurd (true≢false (sym too))
work-by (Some options) (Some d) (Some b) (Some hold) None s agent same too = absurd (true≢false too)
work-by (Some options) (Some d) (Some b) (Some hold) (Some held) s agent same too = refl

work-same : (before after : Option Outcome) (from : Option Ticks) → HasWorkFrom before from
    → HasWorkFrom after from → (now : Ticks) → has_work now after ≡ has_work now before
work-same before after None was is now = is now ∙ sym (was now)
work-same before after (Some from) was is now = is now ∙ sym (was now)

asleep-same : (now : ℕ) (found : Option AgentProcess) (before after : Option Outcome)
    → has_work (record { 0 = now }) after ≡ has_work (record { 0 = now }) before → IsAsleep now found before
    → IsAsleep now found after
asleep-same now None before after same asleep = tt
asleep-same now (Some process) before after same asleep = ap (λ (b : Bool). may_act process && b) same ∙ asleep

-- an agent sleeps as another one does, here or before, that has something to do from the same moment on
pub sleeps-as : (before after : Cluster) (now : ℕ) (member other : Member)
    → slice_get after.facts.processes other.id.number ≡ slice_get before.facts.processes member.id.number
    → work_at after other.id.number ≡ work_at before member.id.number
    → SleepsAt now before member → SleepsAt now after other
sleeps-as before after now member other process work asleep =
    let was = work-from before member (work_at before member.id.number) refl in
    let is =
    subst (HasWorkFrom (standing_of after other)) work (work-from after other (work_at after other.id.number) refl) in
    subst (λ (found : Option AgentProcess). IsAsleep now found (standing_of after other)) (sym process)
    (asleep-same now (slice_get before.facts.processes member.id.number) (standing_of before member)
    (standing_of after other)
    (work-same (standing_of before member) (standing_of after other) (work_at before member.id.number) was is
    (record { 0 = now }))
    asleep)

-- agents sleep on where only deadlines and holds change
armed-asleep : (asleep : Sleepers) (cluster : Cluster) (deadlines : List (Option Ticks))
    (failsafe_deadlines : List Bool) (holds : List (Option Ticks))
    → ((n : ℕ) → is_some (slice_get deadlines n) ≡ is_some (slice_get cluster.facts.deadlines n))
    → ((n : ℕ) → is_some (slice_get holds n) ≡ is_some (slice_get cluster.facts.holds n)) → AreAsleep asleep cluster
    → AreAsleep asleep (record cluster {
      facts = record cluster.facts { deadlines = deadlines; holds = holds };
      failsafe_deadlines = failsafe_deadlines;
    })
armed-asleep asleep cluster deadlines failsafe_deadlines holds same too sleep = record {
  each = λ member now before. let n = member.id.number in
      sleeps-as cluster (record cluster {
        facts = record cluster.facts { deadlines = deadlines; holds = holds };
        failsafe_deadlines = failsafe_deadlines;
      }) now member member refl
      (work-by (slice_get cluster.options n) (slice_get deadlines n) (slice_get cluster.facts.deadlines n)
      (slice_get holds n) (slice_get cluster.facts.holds n) (slice_get cluster.facts.servers n)
      (agent_at cluster.agents n) (same n) (too n))
      (sleep.each member now before);
}

changed-deadline : (asleep : Sleepers) (cluster : Cluster) (k : ℕ) (change : Option Ticks → Option Ticks)
    (failsafe_deadlines : List Bool) → AreAsleep asleep cluster
    → AreAsleep asleep (record cluster {
      facts = record cluster.facts { deadlines = with_changed cluster.facts.deadlines k change };
      failsafe_deadlines = failsafe_deadlines;
    })
changed-deadline asleep cluster k change failsafe_deadlines sleep =
    armed-asleep asleep cluster (with_changed cluster.facts.deadlines k change) failsafe_deadlines cluster.facts.holds
    (λ n. changed-there cluster.facts.deadlines k change (slice_get cluster.facts.deadlines k) n) (λ n. refl) sleep

changed-hold : (asleep : Sleepers) (cluster : Cluster) (k : ℕ) (change : Option Ticks → Option Ticks)
    → AreAsleep asleep cluster
    → AreAsleep asleep
    (record cluster { facts = record cluster.facts { holds = with_changed cluster.facts.holds k change } })
changed-hold asleep cluster k change sleep =
    armed-asleep asleep cluster cluster.facts.deadlines cluster.failsafe_deadlines
    (with_changed cluster.facts.holds k change) (λ n. refl)
    (λ n. changed-there cluster.facts.holds k change (slice_get cluster.facts.holds k) n) sleep

-- nor does it depend on more of a server than its state
abbrev state_of : ServerFacts → State
state_of s = s.state

work-by-state : (options : Option _) (deadline hold : Option (Option Ticks)) (s before : Option ServerFacts)
    (agent : Option AgentFacts) → option_map state_of s ≡ option_map state_of before
    → work_moment options deadline hold s agent ≡ work_moment options deadline hold before agent
work-by-state None deadline hold s before agent same = refl
work-by-state (Some options) None hold s before agent same = refl
work-by-state (Some options) (Some d) None s before agent same = refl
work-by-state (Some options) (Some d) (Some h) None None agent same = refl
work-by-state (Some options) (Some d) (Some h) None (Some b) agent same = absurd (none-some (state_of b) same)
work-by-state (Some options) (Some d) (Some h) (Some s) None agent same = absurd (none-some (state_of s) (sym same))
work-by-state (Some options) (Some d) (Some h) (Some s) (Some b) None same = refl
work-by-state (Some options) (Some d) (Some h) (Some s) (Some b) (Some agent) same =
    ap (λ (state : State). Some (due_from agent.role agent.knows state)) (same_Some s.state b.state same)

set-state : (known : List ServerFacts) (k : ℕ) (s : ServerFacts) (n : ℕ)
    → option_map state_of (slice_get known k) ≡ Some s.state
    → option_map state_of (slice_get (slice_set known k s) n) ≡ option_map state_of (slice_get known n)
set-state [] k s n same = refl
set-state (x ∷ known) zero s zero same = sym same
set-state (x ∷ known) zero s (suc n) same = refl
set-state (x ∷ known) (suc k) s zero same = refl
set-state (x ∷ known) (suc k) s (suc n) same = set-state known k s n same

changed-state : (known : List ServerFacts) (k : ℕ) (change : ServerFacts → ServerFacts) (found : Option ServerFacts)
    (n : ℕ) → ((s : ServerFacts) → (change s).state ≡ s.state) → slice_get known k ≡ found
    → option_map state_of (slice_get (changed_at known k change found) n) ≡ option_map state_of (slice_get known n)
changed-state known k change None n keeps is = refl
changed-state known k change (Some s) n keeps is =
    set-state known k (change s) n (ap (option_map state_of) is ∙ ap (λ (state : State). Some state) (sym (keeps s)))

-- so agents sleep on where servers keep their states
served-asleep : (asleep : Sleepers) (cluster after : Cluster) → after.options ≡ cluster.options
    → after.agents ≡ cluster.agents → after.facts.processes ≡ cluster.facts.processes
    → after.facts.deadlines ≡ cluster.facts.deadlines
    → after.facts.holds ≡ cluster.facts.holds
    → ((n : ℕ) →
    option_map state_of (slice_get after.facts.servers n) ≡ option_map state_of (slice_get cluster.facts.servers n))
    → AreAsleep asleep cluster → AreAsleep asleep after
served-asleep asleep cluster after options agents processes deadlines holds same sleep = record {
  each = λ member now before. let n = member.id.number in
      sleeps-as cluster after now member member (ap (λ (known : List AgentProcess). slice_get known n) processes)
      (work-by-state (slice_get after.options n) (slice_get after.facts.deadlines n) (slice_get after.facts.holds n)
      (slice_get after.facts.servers n) (slice_get cluster.facts.servers n) (agent_at after.agents n) (same n)
      ∙ ap (λ (known : List _). work_moment (slice_get known n) (slice_get after.facts.deadlines n)
      (slice_get after.facts.holds n) (slice_get cluster.facts.servers n) (agent_at after.agents n))
      options
      ∙ ap (λ (known : List (Option Ticks)). work_moment (slice_get cluster.options n) (slice_get known n)
      (slice_get after.facts.holds n) (slice_get cluster.facts.servers n) (agent_at after.agents n))
      deadlines
      ∙ ap (λ (known : List (Option Ticks)).
      work_moment (slice_get cluster.options n) (slice_get cluster.facts.deadlines n) (slice_get known n)
      (slice_get cluster.facts.servers n) (agent_at after.agents n))
      holds
      ∙ ap (λ (known : List (Option AgentFacts)).
      work_moment (slice_get cluster.options n) (slice_get cluster.facts.deadlines n)
      (slice_get cluster.facts.holds n) (slice_get cluster.facts.servers n) (agent_at known n))
      agents)
      (sleep.each member now before);
}

received-state : (known : List ServerFacts) (k count : ℕ) (found : Option ServerFacts) (n : ℕ)
    → option_map state_of (slice_get (received_by known k count found) n) ≡ option_map state_of (slice_get known n)
received-state known k count None n = refl
received-state known k count (Some upstream) n =
    changed-state known k (λ s. received_from count s upstream) (slice_get known k) n (λ s. refl) refl

-- ---- happenings that rouse nobody
asleep-after : (asleep : Sleepers) (cluster : Cluster) (kind : EventKind) → rouses_agents kind ≡ false
    → AreAsleep asleep cluster → AreAsleep asleep (cluster_after cluster kind)
asleep-after asleep cluster (kinds.Message (messages.Sent number message)) isnt sleep = record { each = sleep.each }
asleep-after asleep cluster (kinds.Message (messages.Lost number)) isnt sleep = record { each = sleep.each }
asleep-after asleep cluster (kinds.Store happening) isnt sleep = record { each = sleep.each }
asleep-after asleep cluster (kinds.Watchdog (watchdogs.Armed member until answer)) isnt sleep =
    let failsafe_deadlines = failsafe_deadlines_by cluster.failsafe_deadlines (watchdogs.Armed member until answer) in
    record {
      each = (changed-deadline asleep cluster member.id.number (λ before. Some until) failsafe_deadlines sleep).each;
    }
asleep-after asleep cluster (kinds.Watchdog (watchdogs.Fed member until basis)) isnt sleep =
    let failsafe_deadlines = failsafe_deadlines_by cluster.failsafe_deadlines (watchdogs.Fed member until basis) in
    record {
      each = (changed-deadline asleep cluster member.id.number (λ before. Some until) failsafe_deadlines sleep).each;
    }
asleep-after asleep cluster (kinds.Watchdog (watchdogs.Disarmed member)) isnt sleep = record {
  each = (changed-deadline asleep cluster member.id.number (λ before. None) cluster.failsafe_deadlines sleep).each;
}
asleep-after asleep cluster (kinds.Watchdog (watchdogs.Measured member since)) isnt sleep = record { each = sleep.each }
asleep-after asleep cluster (kinds.Watchdog (watchdogs.HoldTaken member until from incarnation sequence)) isnt sleep =
    record { each = (changed-hold asleep cluster member.id.number (prolonged_to until) sleep).each }
asleep-after asleep cluster (kinds.Log (logs.Appended server entry)) isnt sleep =
    served-asleep asleep cluster
    (cluster_after cluster (kinds.Log (logs.Appended server entry))) refl refl refl refl refl
    (λ n. changed-state cluster.facts.servers server.id.number (appended entry)
    (slice_get cluster.facts.servers server.id.number) n (λ s. refl) refl)
    sleep
asleep-after asleep cluster (kinds.Log (logs.Received server from count)) isnt sleep =
    served-asleep asleep cluster
    (cluster_after cluster (kinds.Log (logs.Received server from count))) refl refl refl refl refl
    (received-state cluster.facts.servers server.id.number count
    (server_at cluster.facts.servers cluster.facts.remote from.id.number))
    sleep
asleep-after asleep cluster (kinds.Replication (replications.RequiredSet server required names)) isnt sleep =
    served-asleep asleep cluster
    (cluster_after cluster (kinds.Replication (replications.RequiredSet server required names))) refl refl
    refl refl refl
    (λ n. changed-state cluster.facts.servers server.id.number (requiring required)
    (slice_get cluster.facts.servers server.id.number) n (λ s. refl) refl)
    sleep
asleep-after asleep cluster (kinds.Replication (replications.Confirmed server by end)) isnt sleep =
    served-asleep asleep cluster
    (cluster_after cluster (kinds.Replication (replications.Confirmed server by end))) refl refl refl refl refl
    (λ n. changed-state cluster.facts.servers server.id.number (confirming by.id end)
    (slice_get cluster.facts.servers server.id.number) n (λ s. refl) refl)
    sleep
asleep-after asleep cluster (kinds.Replication (replications.Acknowledged server commit)) isnt sleep =
    served-asleep asleep cluster
    (cluster_after cluster (kinds.Replication (replications.Acknowledged server commit))) refl refl refl refl refl
    (λ n. changed-state cluster.facts.servers server.id.number (λ s. record s { waiting = drop 1 s.waiting })
    (slice_get cluster.facts.servers server.id.number) n (λ s. refl) refl)
    sleep
asleep-after asleep cluster (kinds.Replication (replications.Lacks server)) isnt sleep = record { each = sleep.each }
asleep-after asleep cluster (kinds.Note note) isnt sleep = record { each = sleep.each }
asleep-after asleep cluster _ isnt sleep = absurd (true≢false isnt)

pub asleep-over : (asleep : Sleepers) (cluster : Cluster) (events : List Event) → rouse_agents events ≡ false
    → AreAsleep asleep cluster → AreAsleep asleep (cluster_over cluster events)
asleep-over asleep cluster [] isnt sleep = sleep
asleep-over asleep cluster (event ∷ events) isnt sleep =
    let both = or_parts (rouses_agents event.kind) (rouse_agents events) isnt in
    asleep-over asleep (cluster_after cluster event.kind) events both.1
    (asleep-after asleep cluster event.kind both.0 sleep)

-- ---- agents that change
pub agent-elsewhere : (agents : List (Option AgentFacts)) (k : ℕ) (change : Option AgentFacts → Option AgentFacts)
    (n : ℕ) → n ≢ k → agent_at (with_changed agents k change) n ≡ agent_at agents n
agent-elsewhere agents k change n other =
    ap (λ (found : Option (Option AgentFacts)). option_and_then (λ agent. agent) found)
    (changed-elsewhere agents k change (slice_get agents k) n other)

-- those that stay the same sleep as before
pub agents-asleep : (was asleep : Sleepers) (cluster : Cluster) (agents : List (Option AgentFacts))
    → AreAsleep was cluster
    → ((n now : ℕ) → now < until_of asleep n → (now < until_of was n) × (agent_at agents n ≡ agent_at cluster.agents n))
    → AreAsleep asleep (record cluster { agents = agents })
agents-asleep was asleep cluster agents sleep same = record {
  each = λ member now before. let n = member.id.number in
      sleeps-as cluster (record cluster { agents = agents }) now member member refl
      (ap (work_moment (slice_get cluster.options n) (slice_get cluster.facts.deadlines n)
      (slice_get cluster.facts.holds n) (slice_get cluster.facts.servers n))
      (same n now before).1)
      (sleep.each member now (same n now before).0);
}

-- where an agent is woken that isn't known to sleep, the others sleep as before
woken-asleep : (asleep : Sleepers) (cluster : Cluster) (member : Member) → until_of asleep member.id.number ≡ 0
    → AreAsleep asleep cluster → AreAsleep asleep (cluster_after cluster (kinds.Agent (Woken member)))
woken-asleep asleep cluster member out sleep =
    let change = agent_after (outcome_of cluster member Wake) in
    agents-asleep asleep asleep cluster (with_changed cluster.agents member.id.number change) sleep
    (λ n now before. (
      before,
      agent-elsewhere cluster.agents member.id.number change n
          (λ e. omega (arith, before, out, ap (until_of asleep) e)),
    ))

-- ---- who is known to sleep
pub none-asleep : (asleep : Sleepers) (cluster : Cluster) → ((k : ℕ) → until_of asleep k ≡ 0) → AreAsleep asleep cluster
none-asleep asleep cluster none = record {
  each = λ member now before. absurd (omega (arith, before, none member.id.number));
}

-- one more agent, before a moment up to which it has nothing to do
pub one-more-asleep : (asleep more : Sleepers) (cluster : Cluster) (member : Member) (until : ℕ)
    → AreAsleep asleep cluster → ((now : ℕ) → now < until → SleepsAt now cluster member)
    → until_of more member.id.number ≡ until
    → ((k : ℕ) → k ≢ member.id.number → until_of more k ≡ until_of asleep k) → AreAsleep more cluster
one-more-asleep asleep more cluster member until sleep here same others = record {
  each = λ other now before. elim (cases_eq other.id.number member.id.number) [
    | inl e ↦ sleeps-as cluster cluster now member other (ap (slice_get cluster.facts.processes) e)
        (ap (work_at cluster) e) (here now (omega (arith, before, same, ap (until_of more) e)))
    | inr apart ↦ sleep.each other now (omega (arith, before, others other.id.number apart))
  ];
}

-- one fewer, of which nothing is known any more
pub one-less-asleep : (asleep less : Sleepers) (cluster : Cluster) (member : Member)
    → AreAsleep asleep cluster → until_of less member.id.number ≡ 0
    → ((k : ℕ) → k ≢ member.id.number → until_of less k ≡ until_of asleep k) → AreAsleep less cluster
one-less-asleep asleep less cluster member sleep out others =
    one-more-asleep asleep less cluster member 0 sleep (λ now before. absurd (omega (arith, before))) out others

-- nor does it matter what the clock says
pub later-asleep : (asleep : Sleepers) (cluster after : Cluster) (now : ℕ) → after ≡ at_moment cluster now
    → AreAsleep asleep cluster → AreAsleep asleep after
later-asleep asleep cluster after now is sleep = subst (AreAsleep asleep) (sym is) (record { each = sleep.each })

-- behind these events, as by those behind a place in the list of all
pub asleep-behind : (asleep left : Sleepers) (before after : Cluster) (had has : Listed) (events : List Event)
    (from : ℕ) → after ≡ cluster_over before events → has ≡ had +++ events → from ≡ length had.items
    → AreAsleep asleep before
    → ((cluster : Cluster) → AreAsleep asleep cluster → AreAsleep left (cluster_over cluster (drop from has.items)))
    → AreAsleep left after
asleep-behind asleep left before after had has events from state event is sleep still =
    let behind : drop from has.items ≡ events = ap (λ (n : ℕ). drop n has.items) is
    ∙ ap (λ (l : Listed). drop (length had.items) l.items) event ∙ drop-append_seam had.items events in
    subst (AreAsleep left) (sym state)
    (subst (λ (es : List Event). AreAsleep left (cluster_over before es)) behind (still before sleep))

-- an agent that sleeps isn't woken
none-woken : (cluster : Cluster) (member : Member) (found : Option AgentProcess)
    → IsAsleep cluster.facts.clock found (standing_of cluster member)
    → for_some found (wake_events_if cluster member) ≡ []
none-woken cluster member None asleep = refl
none-woken cluster member (Some process) asleep = ap (λ (b : Bool). cond b (wake_events_of cluster member) []) asleep

pub asleep-took : (cluster : Cluster) (member : Member) (had : Listed) → SleepsAt cluster.facts.clock cluster member
    → Emits cluster cluster had had (wake_events cluster member) input_cost
asleep-took cluster member had asleep =
    let none = none-woken cluster member (slice_get cluster.facts.processes member.id.number) asleep in
    subst (λ (es : List Event). Emits cluster cluster had had es input_cost) (sym none)
    (Emits-nothing cluster had input_cost)

-- what an agent does that is woken: the events behind the first
abbrev acts_of : Cluster → Member → List Event
acts_of cluster member =
    input_events (cluster_after cluster (kinds.Agent (Woken member))) member no_message (outcome_of cluster member Wake)

-- that it was woken is an event more
pub woken-more : (cluster after : Cluster) (member : Member) (had has : Listed)
    → Emits cluster after had has (wake_events_of cluster member) input_cost → length had.items < length has.items
woken-more cluster after member had has took =
    let first = event_of cluster (kinds.Agent (Woken member)) in
    omega (
      arith,
      ap (λ (l : Listed). length l.items) took.event,
      length-append had.items (first ++ acts_of cluster member),
      length-append first (acts_of cluster member),
    )

-- by those alone others may be roused
pub woken-behind : (asleep left : Sleepers) (cluster after : Cluster) (member : Member) (had has : Listed) (from : ℕ)
    → Emits cluster after had has (wake_events_of cluster member) input_cost → from ≡ length had.items
    → until_of asleep member.id.number ≡ 0 → AreAsleep asleep cluster
    → ((c : Cluster) → AreAsleep asleep c → AreAsleep left (cluster_over c (drop (from + 1) has.items)))
    → AreAsleep left after
woken-behind asleep left cluster after member had has from took is out sleep still =
    let first = event_of cluster (kinds.Agent (Woken member)) in
    asleep-behind asleep left (cluster_after cluster (kinds.Agent (Woken member))) after (had +++ first) has
    (acts_of cluster member) (from + 1) took.state
    (took.event ∙ sym (appended_assoc had first (acts_of cluster member)))
    (omega (arith, is, length-append had.items first)) (woken-asleep asleep cluster member out sleep) still

-- members that are known to have nothing to do may be passed over
asleep-passed : (asleep : Sleepers) (start cluster : Cluster) (had has : Listed) (members : List Member)
    (from count : ℕ) → AreAsleep asleep cluster → EachLeft wake_events input_cost start cluster had has members from
    → from + count ≤ length members
    → ((place : ℕ) → from ≤ place → place < from + count →
    IfSome (slice_get members place) (λ member. cluster.facts.clock < until_of asleep member.id.number))
    → EachLeft wake_events input_cost start cluster had has members (from + count)
asleep-passed asleep start cluster had has members from zero sleep left within passed =
    subst (λ (place : ℕ). EachLeft wake_events input_cost start cluster had has members place) (omega arith) left
asleep-passed asleep start cluster had has members from (suc count) sleep left within passed =
    let found = there members (from + count) (omega (arith, within)) in
    let before_it : cluster.facts.clock < until_of asleep found.0.id.number =
    subst (λ (o : Option Member). IfSome o (λ member. cluster.facts.clock < until_of asleep member.id.number)) found.1
    (passed (from + count) (omega arith) (omega arith)) in
    let before = asleep-passed asleep start cluster had has members from count sleep left
    (omega (arith, within)) (λ place least most. passed place least (omega (arith, most))) in
    subst (λ (place : ℕ). EachLeft wake_events input_cost start cluster had has members place) (omega arith)
    (EachLeft-more Member wake_events input_cost start cluster cluster had has has members (from + count)
    found.0 before found.1 (asleep-took cluster found.0 has (sleep.each found.0 cluster.facts.clock before_it)))

-- the next agent to wake is the first that isn't known to sleep at this moment
pub passed-over : (asleep : Sleepers) (start cluster : Cluster) (had has : Listed) (members : List Member)
    (from to moment : ℕ) → members ≡ cluster.facts.members → moment ≡ cluster.facts.clock → AreAsleep asleep cluster
    → EachLeft wake_events input_cost start cluster had has start.facts.members from
    → (from ≤ to) × (to ≤ length members)
    → ((place : ℕ) → from ≤ place → place < to →
    IfSome (slice_get members place) (λ member. moment < until_of asleep member.id.number))
    → EachLeft wake_events input_cost start cluster had has start.facts.members to
passed-over asleep start cluster had has members from to moment is now sleep left range passed =
    let same : members ≡ start.facts.members = is
    ∙ EachLeft-members Member wake_events input_cost start cluster had has start.facts.members from left in
    subst (λ (place : ℕ). EachLeft wake_events input_cost start cluster had has start.facts.members place)
    (omega (arith, range.0))
    (asleep-passed asleep start cluster had has start.facts.members from (to - from) sleep left
    (omega (arith, range.0, range.1, ap length same))
    (λ place least most.
    subst (λ (ms : List Member).
    IfSome (slice_get ms place) (λ member. cluster.facts.clock < until_of asleep member.id.number))
    same
    (subst (λ (m : ℕ). IfSome (slice_get members place) (λ member. m < until_of asleep member.id.number)) now
    (passed place least (omega (arith, most, range.0))))))
