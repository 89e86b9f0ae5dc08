-- Each event by which a member takes over its running server leaves noted where the log of that ends.
use Rattle.std.proofs.Common.{ℕ, ◌≡◌, ◌≢◌, ◌++◌, Bool, true, false, List, [], ◌∷◌, slice_get, Option, Some, None, is_some, option_and_then, option_map, refl, ◌∙◌, ap, sym, subst, inl, inr}
use Rattle.std.proofs.lemmas.Bool.{cases_eq}
use Rattle.std.proofs.lemmas.Option.{slice_get-map}
use Rattle.pat_base.specs.ServerState.{live}
use Rattle.pat_base.specs.Changes.{with_changed}
use Rattle.pat_base.specs.Lsn.{lsn_at}
use Rattle.pat_base.specs.declared.ticks.Ticks.{Ticks}
use Rattle.member_options.specs.declared.member_option.MemberOptions.{MemberOptions}
use Rattle.wal_model.specs.Log.{end_of}
use Rattle.wal_model.specs.declared.entry.Entry.{Entry}
use Rattle.pg_model.specs.Facts.{ServerFacts, entries_of}
use Rattle.pg_model.specs.Status.{end_in}
use Rattle.script_model.specs.Script.{HeadText}
use Rattle.event_book.specs.declared.event.AgentEvent.TheVariants as agents
use Rattle.event_book.specs.declared.event.Event.{Event}
use Rattle.event_book.specs.declared.event.EventKind.{EventKind}
use Rattle.event_book.specs.declared.event.EventKind.TheVariants as kinds
use Rattle.event_book.specs.declared.event.MessageEvent.TheVariants as messages
use Rattle.event_book.specs.declared.event.WatchdogEvent.TheVariants as watchdogs
use Rattle.event_book.specs.declared.link.LinkEnd.{LinkEnd}
use Rattle.event_book.specs.declared.link.LinkEnd.TheVariants as ends
use Rattle.event_book.specs.declared.member.Member.{Member}
use Rattle.event_book.specs.Flight.{InFlightFacts, in_flight}
use Rattle.event_book.specs.Logs.{Logs, entries_at, entries_found, logs_in, logs_over}
use Rattle.event_book.proofs.Told.{logs-told}
use Rattle.sync_state.specs.Standbys.{noted_position}
use Rattle.agent_model.specs.declared.heard.Heard.{Heard}
use Rattle.agent_model.specs.declared.heard.Heard.TheVariants as heards
use Rattle.agent_model.specs.declared.machine.Machine.{Machine}
use Rattle.agent_model.specs.declared.machine.Replication.{Replication}
use Rattle.agent_model.specs.Agents.{AgentFacts, Outcome, is_leader, outcome_from}
use Rattle.agent_model.specs.Table.{step}
use Rattle.cluster_model.specs.Cluster.{agent_after, agent_facts_after, agent_facts_reached, agent_facts_reached_at, agent_facts_with, cluster_after, cluster_over}
use Rattle.cluster_model.specs.Hearing.{heard_from}
use Rattle.cluster_model.specs.Inputs.{agent_at, moment_of, outcome_at, outcome_of_heard}
use Rattle.cluster_model.specs.FailsafeDeadlines.{is_set_by_failsafe}
use Rattle.cluster_model.specs.Machines.{machine_from, machine_of, points_of, replication_of}
use Rattle.cluster_model.specs.Streaming.{source_of}
use Rattle.event_book.specs.Facts.{Facts, facts_over}
use Rattle.cluster_model.specs.Starting.{cluster_of}
use Rattle.cluster_model.specs.State.{Cluster}
use Rattle.cluster_model.proofs.Places.{get-elsewhere, get-here}
use Rattle.commit_parts.specs.Ordered.{noted_by}
use Rattle.commit_runs.specs.Runs.{first_logs}
use Rattle.agent_roles.proofs.Living.{no-way}
use Rattle.premise_law.specs.TakingOver.{NotesTakeOvers, is_led_by}
use Rattle.premise_law.proofs.Leading.{taking-notes}

pub some-same : {A : Type 0} (x y : A) → ◌≡◌ {A = Option A} (Some x) (Some y) → x ≡ y
some-same x y e = cc

pub none-some : {A : Type 0} (x : A) → ◌≡◌ {A = Option A} None (Some x) → ⊥
none-some x e = cc

abbrev pub agent_in : Option (Option AgentFacts) → Option AgentFacts
agent_in found = option_and_then (λ agent. agent) found

-- the agent at a place
pub at-place : (found : Option (Option AgentFacts)) (agent : AgentFacts)
    → agent_in found ≡ Some agent → found ≡ Some (Some agent)
at-place None agent e = absurd (none-some agent e)
at-place (Some None) agent e = absurd (none-some agent e)
at-place (Some (Some one)) agent e = ap (λ (a : AgentFacts). Some (Some a)) (some-same one agent e)

-- ---- what an agent finds of its server
record Finds (machine : Machine) (s : ServerFacts) : Type 0 where
  state : machine.server.state ≡ s.state
  end : machine.server.end ≡ end_in s.log

finds : (receives by_failsafe : Bool) (replication : Option Replication) (options : Option MemberOptions)
    (deadline hold : Option (Option Ticks)) (s : ServerFacts) (machine : Machine)
    → machine_from receives by_failsafe replication options deadline hold (Some s) ≡ Some machine → Finds machine s
finds receives by_failsafe (Some replication) (Some options) (Some deadline) (Some hold) s machine e =
    let is = some-same _ machine e in
    record { state = ap (λ (m : Machine). m.server.state) (sym is); end = ap (λ (m : Machine). m.server.end) (sym is) }
finds receives by_failsafe None options deadline hold s machine e = absurd (none-some machine e)
finds receives by_failsafe (Some replication) None deadline hold s machine e = absurd (none-some machine e)
finds receives by_failsafe (Some replication) (Some options) None hold s machine e = absurd (none-some machine e)
finds receives by_failsafe (Some replication) (Some options) (Some deadline) None s machine e =
    absurd (none-some machine e)

noted-end : (log : Option (List Entry)) → noted_position (end_in log) ≡ (lsn_at (end_of (entries_of log))).position
unfolding lsn_at
noted-end None = refl
noted-end (Some entries) = refl

-- ---- who leads behind an input
module _ (cluster : Cluster) (m : ℕ) (s : ServerFacts) (here : slice_get cluster.facts.servers m ≡ Some s)
    (lives : live s.state ≡ true) (not : is_led_by (slice_get cluster.agents m) ≡ false) where
  -- where one of these leads, it has noted where the log of the server ends
  abbrev Notes : List (Option AgentFacts) → Type 0
  Notes after = is_led_by (slice_get after m) ≡ true → noted_by (slice_get after m)
      ≡ (lsn_at (end_of (entries_of s.log))).position

  same : (after : List (Option AgentFacts)) → slice_get after m ≡ slice_get cluster.agents m → Notes after
  same after is leads = absurd (no-way (sym not ∙ ap is_led_by (sym is) ∙ leads))

  -- another member's agent changed
  other : (k : ℕ) (change : Option AgentFacts → Option AgentFacts) → m ≢ k
      → Notes (with_changed cluster.agents k change)
  other k change differs = same (with_changed cluster.agents k change) (get-elsewhere cluster.agents k m change differs)

  -- it ended
  ended-by : (found : Option (Option AgentFacts)) → is_led_by (option_map (λ agent. None) found) ≡ true → ⊥
  ended-by None leads = no-way leads
  ended-by (Some agent) leads = no-way leads

  ended : (k : ℕ) → Notes (with_changed cluster.agents k (λ agent. None))
  ended k = elim (cases_eq m k) [
    | inl is ↦ λ leads. absurd (ended-by (slice_get cluster.agents m)
        (ap is_led_by (sym (ap (λ n. slice_get (with_changed cluster.agents n (λ agent. None)) m) (sym is)
        ∙ get-here cluster.agents m (λ agent. None))) ∙ leads))
    | inr differs ↦ other k (λ agent. None) differs
  ]

  -- it starts
  started-by : (agent : AgentFacts) → is_leader agent.role ≡ false → (found : Option (Option AgentFacts))
      → is_led_by (option_map (λ old. Some agent) found) ≡ true → ⊥
  started-by agent follows None leads = no-way leads
  started-by agent follows (Some old) leads = no-way (sym follows ∙ leads)

  started : (k : ℕ) (agent : AgentFacts) → is_leader agent.role ≡ false
      → Notes (with_changed cluster.agents k (λ old. Some agent))
  started k agent follows = elim (cases_eq m k) [
    | inl is ↦ λ leads. absurd (started-by agent follows (slice_get cluster.agents m)
        (ap is_led_by (sym (ap (λ n. slice_get (with_changed cluster.agents n (λ old. Some agent)) m) (sym is)
        ∙ get-here cluster.agents m (λ old. Some agent))) ∙ leads))
    | inr differs ↦ other k (λ old. Some agent) differs
  ]

  -- nobody hears
  unheard-by : (found : Option (Option AgentFacts)) → option_map (agent_after None) found ≡ found
  unheard-by None = refl
  unheard-by (Some agent) = refl

  unheard : (member : Member) → Notes (agent_facts_with cluster.agents member None)
  unheard member = elim (cases_eq m member.id.number) [
    | inl is ↦ same (agent_facts_with cluster.agents member None)
        (ap (λ n. slice_get (with_changed cluster.agents n (agent_after None)) m) (sym is)
        ∙ get-here cluster.agents m (agent_after None) ∙ unheard-by (slice_get cluster.agents m))
    | inr differs ↦ other member.id.number (agent_after None) differs
  ]

  -- an agent hears something
  finds-it : (member : Member) (machine : Machine) → m ≡ member.id.number → machine_of cluster member ≡ Some machine
      → Finds machine s
  finds-it member machine is found = finds
      (is_some (source_of cluster.facts.members cluster.facts.servers cluster.facts.cuts member))
      (is_set_by_failsafe (slice_get cluster.failsafe_deadlines member.id.number))
      (option_map (replication_of cluster.facts.members cluster.facts.servers cluster.facts.cuts member) (Some s))
      (slice_get cluster.options member.id.number) (slice_get cluster.facts.deadlines member.id.number)
      (slice_get cluster.facts.holds member.id.number) s machine
      (subst (λ (server : Option ServerFacts).
      machine_from (is_some (source_of cluster.facts.members cluster.facts.servers cluster.facts.cuts member))
      (is_set_by_failsafe (slice_get cluster.failsafe_deadlines member.id.number))
      (option_map (replication_of cluster.facts.members cluster.facts.servers cluster.facts.cuts member) server)
      (slice_get cluster.options member.id.number) (slice_get cluster.facts.deadlines member.id.number)
      (slice_get cluster.facts.holds member.id.number) server
      ≡ Some machine)
      (ap (λ n. slice_get cluster.facts.servers n) (sym is) ∙ here) found)

  acts : (member : Member) (heard : Heard) (agent : AgentFacts) (machine : Machine)
      → agent_at cluster.agents member.id.number ≡ Some agent → machine_of cluster member ≡ Some machine
      → Notes (agent_facts_with cluster.agents member
      (Some (step (moment_of cluster) (points_of cluster member) heard
      (outcome_from agent.role agent.knows machine []))))
  acts member heard agent machine a found = elim (cases_eq m member.id.number) [
    | inl is ↦ λ leads.
        let x : Outcome = step (moment_of cluster) (points_of cluster member) heard
        (outcome_from agent.role agent.knows machine []) in
        let there : slice_get cluster.agents m ≡ Some (Some agent) =
        at-place (slice_get cluster.agents m) agent (ap (agent_at cluster.agents) is ∙ a) in
        let after : slice_get (agent_facts_with cluster.agents member (Some x)) m
        ≡ Some (Some (record { role = x.role; knows = x.knows })) =
        ap (λ n. slice_get (with_changed cluster.agents n (agent_after (Some x))) m) (sym is)
        ∙ get-here cluster.agents m (agent_after (Some x)) ∙ ap (option_map (agent_after (Some x))) there in
        let its = finds-it member machine is found in
        ap noted_by after
        ∙ ap noted_position (taking-notes (moment_of cluster) (points_of cluster member)
        (outcome_from agent.role agent.knows machine []) (sym (ap is_led_by there) ∙ not) (ap live its.state ∙ lives)
        heard (sym (ap is_led_by after) ∙ leads) ∙ its.end)
        ∙ noted-end s.log
    | inr differs ↦ other member.id.number _ differs
  ]

  hears-by : (member : Member) (heard : Heard) (agent : Option AgentFacts) (machine : Option Machine)
      → agent_at cluster.agents member.id.number ≡ agent → machine_of cluster member ≡ machine
      → Notes (agent_facts_with cluster.agents member
      (outcome_at (moment_of cluster) (points_of cluster member) heard agent machine))
  hears-by member heard None machine a found = unheard member
  hears-by member heard (Some agent) None a found = unheard member
  hears-by member heard (Some agent) (Some machine) a found = acts member heard agent machine a found

  hears : (member : Member) (heard : Option Heard)
      → Notes (agent_facts_with cluster.agents member (outcome_of_heard cluster member heard))
  hears member None = unheard member
  hears member (Some heard) =
      hears-by member heard (agent_at cluster.agents member.id.number) (machine_of cluster member) refl refl

  reached-at : (message : InFlightFacts) (end : LinkEnd) → Notes (agent_facts_reached_at cluster message end)
  reached-at message ends.Store = same cluster.agents refl
  reached-at message (ends.Member member) = hears member (heard_from cluster message)

  reached : (found : Option InFlightFacts) → Notes (agent_facts_reached cluster found)
  reached None = same cluster.agents refl
  reached (Some message) = reached-at message message.message.to

  -- ---- one event
  one-notes : (kind : EventKind) → Notes (agent_facts_after cluster kind)
  one-notes (kinds.Message (messages.Delivered number)) = reached (in_flight cluster.facts.flight number)
  one-notes (kinds.Message _) = same cluster.agents refl
  one-notes (kinds.Watchdog (watchdogs.Reset member)) = ended member.id.number
  one-notes (kinds.Watchdog _) = same cluster.agents refl
  one-notes (kinds.Agent (agents.Woken member)) = hears member (Some heards.Wake)
  one-notes (kinds.Agent (agents.Operated member action)) = hears member (Some (heards.Operated action))
  one-notes (kinds.Agent (agents.Killed member)) = ended member.id.number
  one-notes (kinds.Agent (agents.Started member incarnation)) = started member.id.number _ refl
  one-notes (kinds.Agent _) = same cluster.agents refl
  one-notes _ = same cluster.agents refl

-- ---- every book
found-log : (found : Option ServerFacts) (s : ServerFacts) → found ≡ Some s
    → entries_found (option_map (λ (x : ServerFacts). x.log) found) ≡ entries_of s.log
found-log None s e = absurd (none-some s e)
found-log (Some one) s e = ap (λ (x : ServerFacts). entries_of x.log) (some-same one s e)

pub over-one : (cluster : Cluster) (front : List Event) (event : Event)
    → cluster_over cluster (front ++ event ∷ []) ≡ cluster_after (cluster_over cluster front) event.kind
over-one cluster [] event = refl
over-one cluster (first ∷ more) event = over-one (cluster_after cluster first.kind) more event

pub facts-of : (cluster : Cluster) (front : List Event)
    → (cluster_over cluster front).facts ≡ facts_over cluster.facts front
facts-of cluster [] = refl
facts-of cluster (first ∷ more) = facts-of (cluster_after cluster first.kind) more

pub take-overs : (head : HeadText) (book : List Event) → NotesTakeOvers head book
take-overs head book front rest event m parts takes =
    let start : Cluster = cluster_of head in
    let cluster : Cluster = cluster_over start front in
    let logs : logs_in cluster.facts ≡ logs_over (first_logs head) front =
    ap logs_in (facts-of start front) ∙ logs-told start.facts front in
    ap (λ (c : Cluster). noted_by (slice_get c.agents m)) (over-one start front event)
    ∙ one-notes cluster m takes.server takes.is takes.live takes.before event.kind takes.after
    ∙ sym (ap (λ (l : Logs). (lsn_at (end_of (entries_at l m))).position) (sym logs)
    ∙ ap (λ (l : List Entry). (lsn_at (end_of l)).position)
    (ap entries_found (slice_get-map (λ (x : ServerFacts). x.log) cluster.facts.servers m)
    ∙ found-log (slice_get cluster.facts.servers m) takes.server takes.is))
