-- Why a step of an idle cluster brings its tick and nothing else.
use Rattle.std.proofs.Common.{◌≡◌, ℕ, ◌+◌, ◌≤◌, ◌<◌, ◌&&◌, nat_le, not, Bool, true, false, cond, List, [], ◌∷◌, ◌++◌, map, filter, Option, Some, None, option_and_then, arith, append-nil, if◌then◌else◌, inl, inr, is_some, length, get_or, refl, ap, sym, subst, ◌∙◌}
use Rattle.std.specs.Map.{keys_of}
use Rattle.std.specs.Prelude.{All, option_map, slice_get}
use Rattle.std.proofs.Math.Bool.{and-false}
use Rattle.std.proofs.lemmas.Bool.{cases_lt}
use Rattle.std.proofs.lemmas.Bool.Decides.{nat_tests}
use Rattle.std.proofs.lemmas.List.Elements.{All-head, All-tail}
use Rattle.std.proofs.lemmas.Option.{same_Some, slice_get-get_or}
use Rattle.pat_base.specs.declared.lsn.Lsn.{Lsn}
use Rattle.pat_base.specs.declared.server_state.Required.{Required}
use Rattle.pat_base.specs.declared.server_state.State.{State}
use Rattle.pat_base.specs.declared.server_state.State.TheVariants as states
use Rattle.pat_base.specs.declared.ticks.Ticks.{Ticks}
use Rattle.pat_base.specs.ServerState.{live, writes}
use Rattle.leader_key.specs.Watchdog.{is_due_at}
use Rattle.store_keys.specs.declared.key.Key.{Key}
use Rattle.store_keys.specs.declared.value.KeyEntry.{KeyEntry}
use Rattle.lease_store.specs.Answers.{absent_keys, expired_holder, expired_keys, present_pairs}
use Rattle.lease_store.specs.Keys.{Keys, is_present}
use Rattle.pg_model.specs.declared.answers.Streamed.{Streamed}
use Rattle.pg_model.specs.declared.answers.Streamed.TheVariants as streams
use Rattle.pg_model.specs.declared.waiting.Waiting.{Waiting}
use Rattle.pg_cluster.specs.Completing.{NoneComplete, is_complete_at}
use Rattle.pg_model.specs.Facts.{ServerFacts}
use Rattle.pg_model.specs.Replication.{first_is_met}
use Rattle.pg_model.specs.Running.{completed, started, stopped, ticked_unless_live}
use Rattle.pg_cluster.specs.Servers.{news_at}
use Rattle.pg_model.specs.Status.{status_of}
use Rattle.event_book.specs.declared.agent_process.AgentProcess.{AgentProcess}
use Rattle.event_book.specs.declared.event.Event.{Event}
use Rattle.event_book.specs.declared.event.EventKind.TheVariants as kinds
use Rattle.event_book.specs.declared.event.WatchdogEvent.TheVariants as watchdogs
use Rattle.event_book.specs.declared.member.Member.{Member}
use Rattle.member_options.specs.declared.member_option.MemberOptions.{MemberOptions}
use Rattle.cluster_model.specs.declared.step.Step.{Step}
use Rattle.cluster_model.specs.declared.step.Step.TheVariants as steps
use Rattle.agent_model.specs.declared.machine.Replication.{Replication}
use Rattle.agent_model.specs.Agents.{AgentFacts, Outcome}
use Rattle.agent_model.specs.Wake.{due_from}
use Rattle.agent_model.proofs.Waiting.{due-at}
use Rattle.cluster_model.specs.Acknowledging.{AreAcknowledged, IsDone, acknowledge_kinds, acknowledgements, confirmed_front}
use Rattle.cluster_model.specs.Cluster.{cluster_after, cluster_over}
use Rattle.cluster_model.specs.declared.beginning.Completion.{Completion}
use Rattle.cluster_model.specs.declared.beginning.Completion.TheVariants as completions
use Rattle.cluster_model.specs.Beginnings.{completed_by, completion_in, completion_kinds}
use Rattle.cluster_model.specs.Commands.{kinds_of}
use Rattle.cluster_model.specs.Inputs.{agent_at, has_work, is_to_wake, may_act, standing, standing_of}
use Rattle.cluster_model.specs.Limits.{most_rounds}
use Rattle.cluster_model.specs.FailsafeDeadlines.{is_set_by_failsafe}
use Rattle.cluster_model.specs.Machines.{machine_from, replication_of, watchdog_of}
use Rattle.cluster_model.specs.Messages.{message_events, wake_events, wake_events_if, wake_events_of}
use Rattle.cluster_model.specs.Next.{acknowledge_events, all_entries, next_events, step_events, receive_events, receive_events_at_most, receive_events_of, round_events, rounds_events, scheduled_events}
use Rattle.cluster_model.specs.Orders.{declared_member}
use Rattle.cluster_model.specs.Parts.{each, event_of, events_of, events_then, for_some}
use Rattle.cluster_model.specs.State.{Cluster}
use Rattle.cluster_model.specs.Streaming.{confirm_of, source_of, unconfirmed_end}
use Rattle.cluster_model.specs.Ticking.{completion_events, expiries_of, next_expiries, reset_events, reset_of, tick_events}
use Rattle.world_model.specs.Idle.{at_moment, AreCaughtUp, HasNoNewsFrom, HasWorkFrom, IsAsleep, IsIdle, IsIdleButForAgents, IsIdleIn, IsNoNews, NoneResets, NothingEnds, ReceivesNone, SleepsAt, work_moment}
use Rattle.world_model.proofs.Rest.{rounds_events-still}
use Rattle.world_model.proofs.ServerRooms.{All-at, All-weaker}
use Rattle.world_model.proofs.Silence.{kept-still}

-- a part that brings nothing
pub then-nothing : (cluster : Cluster) (events : List Event) (more : Cluster → List Event) → events ≡ []
    → events_then cluster events more ≡ more cluster
then-nothing cluster events more none = ap (λ (es : List Event). es ++ more (cluster_over cluster es)) none

pub each-nothing : (X : Type 0) (events : Cluster → X → List Event) (cluster : Cluster) (xs : List X)
    → All (λ x. events cluster x ≡ []) xs → each events cluster xs ≡ []
each-nothing X events cluster [] none = refl
each-nothing X events cluster (x ∷ xs) none =
    then-nothing cluster (events cluster x) (λ later. each events later xs)
    (All-head (λ (y : X). events cluster y ≡ []) x xs none)
    ∙ each-nothing X events cluster xs (All-tail (λ (y : X). events cluster y ≡ []) x xs none)

none-ever : (X : Type 0) (events : Cluster → X → List Event) (cluster : Cluster) (xs : List X)
    → ((x : X) → events cluster x ≡ []) → each events cluster xs ≡ []
none-ever X events cluster [] none = refl
none-ever X events cluster (x ∷ xs) none =
    then-nothing cluster (events cluster x) (λ later. each events later xs) (none x)
    ∙ none-ever X events cluster xs none

-- what isn't so yet at a moment wasn't before
earlier : (moment now later : ℕ) → now ≤ later → nat_le moment later ≡ false → nat_le moment now ≡ false
earlier moment now later h isnt = grind (arith, nat_tests)

-- watchdogs
deadline-earlier : (now later : ℕ) (deadline : Option Ticks) → now ≤ later → is_due_at later deadline ≡ false
    → is_due_at now deadline ≡ false
deadline-earlier now later None h isnt = refl
deadline-earlier now later (Some deadline) h isnt = earlier deadline.0 now later h isnt

reset-none : (cluster : Cluster) (member : Member) (found : Option (Option Ticks))
    → ((deadline : Option Ticks) → found ≡ Some deadline → is_due_at cluster.facts.clock deadline ≡ false)
    → events_of cluster (kinds_of (option_and_then (reset_of cluster.facts.clock member) found)) ≡ []
reset-none cluster member None isnt = refl
reset-none cluster member (Some deadline) isnt =
    ap (λ (b : Bool). events_of cluster (kinds_of (cond b (Some (kinds.Watchdog (watchdogs.Reset member))) None)))
    (isnt deadline refl)

resets-none : (cluster : Cluster) (later : ℕ) → cluster.facts.clock ≤ later
    → NoneResets later cluster.facts.deadlines → (member : Member) → reset_events cluster member ≡ []
resets-none cluster later h none member = reset-none cluster member (slice_get cluster.facts.deadlines member.id.number)
    (λ deadline is. deadline-earlier cluster.facts.clock later deadline h
    (All-at (Option Ticks)
    (λ (d : Option Ticks). is_due_at later d ≡ false) cluster.facts.deadlines member.id.number deadline none is))

-- keys
abbrev Pairs : Type 0
Pairs = List (Key × KeyEntry)

abbrev absent : ℕ → Pairs → Pairs
absent now pairs = filter (λ pair. not (is_present now pair.1.expiry)) pairs

abbrev keys_of_pairs : Pairs → List Key
keys_of_pairs pairs = map (λ pair. pair.0) pairs

clash : {X : Type 0} (key : Key) (keys : List Key) → key ∷ keys ≡ [] → X
clash key keys e = absurd (no-key e)
  where
    no-key : key ∷ keys ≡ [] → ⊥
    no-key e = cc

present-then : (pair : Key × KeyEntry) (rest : Pairs) (present : Bool)
    → keys_of_pairs (cond (not present) (pair ∷ rest) rest) ≡ [] → (present ≡ true) × (keys_of_pairs rest ≡ [])
present-then pair rest true e = (refl, e)
present-then pair rest false e = clash pair.0 (keys_of_pairs rest) e

present-earlier : (now later : ℕ) (expiry : Option Ticks) → now ≤ later → is_present later expiry ≡ true
    → is_present now expiry ≡ true
present-earlier now later None h is = refl
present-earlier now later (Some expiry) h is = grind (arith, nat_tests)

all-present : (now later : ℕ) (pairs : Pairs) → now ≤ later → absent_keys later pairs ≡ []
    → (present_pairs now pairs ≡ pairs) × (absent_keys now pairs ≡ [])
all-present now later [] h none = (refl, refl)
all-present now later (pair ∷ pairs) h none =
    let both = present-then pair (absent later pairs) (is_present later pair.1.expiry) none in
    let here = present-earlier now later pair.1.expiry h both.0 in
    let rest = all-present now later pairs h both.1 in (
      ap (λ (b : Bool). cond b (pair ∷ present_pairs now pairs) (present_pairs now pairs)) here
          ∙ ap (λ (ps : Pairs). pair ∷ ps) rest.0,
      ap (λ (b : Bool). keys_of_pairs (cond (not b) (pair ∷ absent now pairs) (absent now pairs))) here ∙ rest.1,
    )

-- servers
incomplete-earlier : (now later : ℕ) (state : State) → now ≤ later → is_complete_at later state ≡ false
    → is_complete_at now state ≡ false
incomplete-earlier now later (states.Starting as_primary at) h isnt = earlier at.0 now later h isnt
incomplete-earlier now later (states.Stopping was_primary at) h isnt = earlier at.0 now later h isnt
incomplete-earlier now later _ h isnt = refl

not-completed : (now : Ticks) (state : State) (s : ServerFacts) → is_complete_at now.0 state ≡ false
    → completed now state s ≡ s
not-completed now (states.Starting as_primary at) s isnt = ap (λ (b : Bool). cond b (started as_primary s) s) isnt
not-completed now (states.Stopping was_primary at) s isnt = ap (λ (b : Bool). cond b (stopped s) s) isnt
not-completed now _ s isnt = refl

unless-live : (is_live : Bool) (s t : ServerFacts) → t ≡ s → cond is_live s t ≡ s
unless-live true s t e = refl
unless-live false s t e = e

same-servers : (now later : ℕ) (known : List ServerFacts) → now ≤ later → NoneComplete later known
    → map (ticked_unless_live (record { 0 = now })) known ≡ known
same-servers now later [] h none = refl
same-servers now later (s ∷ known) h none =
    let at : Ticks = record { 0 = now } in
    let here = incomplete-earlier now later s.state h
    (All-head (λ (t : ServerFacts). is_complete_at later t.state ≡ false) s known none) in
    ap (λ (t : ServerFacts). t ∷ map (ticked_unless_live at) known)
    (unless-live (live s.state) s (completed at s.state s) (not-completed at s.state s here))
    ∙ ap (λ (ts : List ServerFacts). s ∷ ts)
    (same-servers now later known h (All-tail (λ (t : ServerFacts). is_complete_at later t.state ≡ false) s known none))

isnt-completion : (now timeline : ℕ) (state : State) → is_complete_at now state ≡ false
    → completion_in now timeline state ≡ None
isnt-completion now timeline (states.Starting true at) isnt =
    ap (λ (b : Bool). cond b (Some (completions.Begins timeline)) None) isnt
isnt-completion now timeline (states.Stopping true at) isnt =
    ap (λ (b : Bool). cond b (Some completions.Ends) None) isnt
isnt-completion now timeline _ isnt = refl

completion-none : (cluster : Cluster) (member : Member) (found : Option ServerFacts)
    → ((s : ServerFacts) → found ≡ Some s → is_complete_at cluster.facts.clock s.state ≡ false)
    → for_some found (λ s. events_of cluster (completion_kinds cluster.facts.clock member cluster.facts.acknowledged s))
    ≡ []
completion-none cluster member None isnt = refl
completion-none cluster member (Some s) isnt =
    ap (λ (o : Option Completion). events_of cluster (completed_by member cluster.facts.acknowledged s.log o))
    (isnt-completion cluster.facts.clock s.timeline s.state (isnt s refl))

completions-none : (cluster : Cluster) (later : ℕ) → cluster.facts.clock ≤ later
    → NoneComplete later cluster.facts.servers → (member : Member) → completion_events cluster member ≡ []
completions-none cluster later h none member =
    completion-none cluster member (slice_get cluster.facts.servers member.id.number)
    (λ s is. incomplete-earlier cluster.facts.clock later s.state h
    (All-at ServerFacts
    (λ (t : ServerFacts). is_complete_at later t.state ≡ false) cluster.facts.servers member.id.number s none is))

abbrev ticked_with : Cluster → Keys → List ServerFacts → Cluster
ticked_with cluster known ss = record cluster {
  facts = record cluster.facts { clock = cluster.facts.clock + 1; keys = known; servers = ss };
}

-- a tick changes nothing but the clock
pub ticked-idle : (cluster : Cluster) (later : ℕ) → cluster.facts.clock + 1 ≤ later → NothingEnds later cluster
    → cluster_after cluster kinds.Tick ≡ at_moment cluster (cluster.facts.clock + 1)
ticked-idle cluster later h ends =
    let now = cluster.facts.clock + 1 in
    let pairs = (all-present now later cluster.facts.keys.pairs h ends.keys).0 in
    ap (λ (ps : Pairs). let known : Keys = record cluster.facts.keys { pairs = ps } in
    ticked_with cluster known (map (ticked_unless_live (record { 0 = now })) cluster.facts.servers))
    pairs
    ∙ ap (λ (ss : List ServerFacts). ticked_with cluster cluster.facts.keys ss)
    (same-servers now later cluster.facts.servers h ends.servers)

tick-rest : (cluster now : Cluster) (later : ℕ) → now.facts.clock ≤ later
    → NoneResets later now.facts.deadlines → next_expiries cluster ≡ [] → NoneComplete later now.facts.servers
    → events_then now (each reset_events now now.facts.members)
    (λ reset. events_then reset (events_of reset (next_expiries cluster))
    (λ expired. each completion_events expired expired.facts.members))
    ≡ []
tick-rest cluster now later h watchdogs keys servers =
    then-nothing now (each reset_events now now.facts.members)
    (λ reset. events_then reset (events_of reset (next_expiries cluster))
    (λ expired. each completion_events expired expired.facts.members))
    (none-ever Member reset_events now now.facts.members (resets-none now later h watchdogs))
    ∙ then-nothing now (events_of now (next_expiries cluster))
    (λ expired. each completion_events expired expired.facts.members) (ap (events_of now) keys)
    ∙ none-ever Member completion_events now now.facts.members (completions-none now later h servers)

expiries-none : (cluster : Cluster) (later : ℕ) → cluster.facts.clock + 1 ≤ later
    → expired_keys cluster.facts.keys later ≡ [] → next_expiries cluster ≡ []
expiries-none cluster later h keys =
    ap
    (expiries_of (declared_member cluster.facts.members (expired_holder cluster.facts.keys (cluster.facts.clock + 1))))
    (all-present (cluster.facts.clock + 1) later cluster.facts.keys.pairs h keys).1

-- a tick brings nothing but itself
pub tick-idle : (cluster : Cluster) (later : ℕ) → cluster.facts.clock + 1 ≤ later → NothingEnds later cluster
    → tick_events cluster ≡ event_of cluster kinds.Tick
tick-idle cluster later h ends =
    let ticked = cluster_after cluster kinds.Tick in
    let same = ticked-idle cluster later h ends in
    let rest =
    subst (λ (c : Cluster). events_then c (each reset_events c c.facts.members)
    (λ reset. events_then reset (events_of reset (next_expiries cluster))
    (λ expired. each completion_events expired expired.facts.members))
    ≡ [])
    (sym same)
    (tick-rest cluster (at_moment cluster (cluster.facts.clock + 1)) later h ends.watchdogs
    (expiries-none cluster later h ends.keys) ends.servers) in
    ap (λ (es : List Event). event_of cluster kinds.Tick ++ es) rest ∙ append-nil (event_of cluster kinds.Tick)

-- agents
work-earlier : (now later : ℕ) (o : Option Outcome) → now ≤ later → has_work (record { 0 = later }) o ≡ false
    → has_work (record { 0 = now }) o ≡ false
work-earlier now later None h isnt = refl
work-earlier now later (Some o) h isnt =
    let from = due_from o.role o.knows o.machine.server.state in
    let was = due-at o.role o.knows o.machine.server.state (record { 0 = now }) o.machine refl in
    let behind = due-at o.role o.knows o.machine.server.state (record { 0 = later }) o.machine refl in
    was ∙ earlier from.0 now later h (sym behind ∙ isnt)

may-earlier : (may : Bool) (before after : Bool) → (after ≡ false → before ≡ false) → (may && after) ≡ false
    → (may && before) ≡ false
may-earlier true before after weaker isnt = weaker isnt
may-earlier false before after weaker isnt = refl

wake-none : (cluster : Cluster) (later : ℕ) (member : Member) (found : Option AgentProcess)
    → cluster.facts.clock ≤ later → IsAsleep later found (standing_of cluster member)
    → for_some found (wake_events_if cluster member) ≡ []
wake-none cluster later member None h asleep = refl
wake-none cluster later member (Some process) h asleep =
    let o = standing_of cluster member in
    let now = may-earlier (may_act process) (has_work (record { 0 = cluster.facts.clock }) o)
    (has_work (record { 0 = later }) o) (work-earlier cluster.facts.clock later o h) asleep in
    ap (λ (b : Bool). cond b (wake_events_of cluster member) []) now

wakes-none : (cluster : Cluster) (later : ℕ) → cluster.facts.clock ≤ later
    → All (SleepsAt later cluster) cluster.facts.members → each wake_events cluster cluster.facts.members ≡ []
wakes-none cluster later h asleep =
    each-nothing Member wake_events cluster cluster.facts.members
    (All-weaker Member (SleepsAt later cluster) (λ (m : Member). wake_events cluster m ≡ []) cluster.facts.members
    (λ m sleeps. wake-none cluster later m (slice_get cluster.facts.processes m.id.number) h sleeps) asleep)

-- replicas
confirms-none : (cluster : Cluster) (member from : Member) (unconfirmed : Option Lsn) → unconfirmed ≡ None
    → events_of cluster (kinds_of (confirm_of member from unconfirmed)) ≡ []
confirms-none cluster member from unconfirmed none =
    ap (λ (u : Option Lsn). events_of cluster (kinds_of (confirm_of member from u))) none

no-news : (cluster : Cluster) (member from : Member) (news : Option Streamed)
    → IsNoNews news
    (unconfirmed_end member (slice_get cluster.facts.servers member.id.number)
    (slice_get cluster.facts.servers from.id.number))
    → receive_events cluster member from news ≡ []
no-news cluster member from None none = confirms-none cluster member from
    (unconfirmed_end member (slice_get cluster.facts.servers member.id.number)
    (slice_get cluster.facts.servers from.id.number))
    none
no-news cluster member from (Some streams.NotConnected) none = refl
no-news cluster member from (Some (streams.Diverged at)) none = absurd none
no-news cluster member from (Some (streams.Received count)) none = absurd none

source-none : (cluster : Cluster) (member : Member) (source : Option Member)
    → HasNoNewsFrom cluster.facts.servers member source
    → for_some source
    (λ from.
    receive_events cluster member from (news_at cluster.facts.servers member.id.number from.id.number all_entries))
    ≡ []
source-none cluster member None none = refl
source-none cluster member (Some from) none =
    no-news cluster member from (news_at cluster.facts.servers member.id.number from.id.number all_entries) none

receive-none : (cluster : Cluster) (member : Member) (frozen : Option Bool)
    → ReceivesNone cluster.facts.members cluster.facts.servers cluster.facts.cuts member frozen
    → for_some frozen (λ is_frozen. if is_frozen then [] else receive_events_at_most cluster all_entries member) ≡ []
receive-none cluster member None none = refl
receive-none cluster member (Some true) none = refl
receive-none cluster member (Some false) none =
    source-none cluster member (source_of cluster.facts.members cluster.facts.servers cluster.facts.cuts member) none

-- acknowledgements
front-none : (can : Bool) (required : Required) (confirmed : List (Option Lsn)) (waiting : List Waiting)
    → (can && first_is_met required confirmed waiting) ≡ false
    → (if can then confirmed_front required confirmed waiting else []) ≡ []
front-none false required confirmed waiting isnt = refl
front-none true required confirmed [] isnt = refl
front-none true required confirmed (first ∷ more) isnt =
    ap (λ (b : Bool). cond b (first.serial ∷ confirmed_front required confirmed more) []) isnt

acknowledges-none : (cluster : Cluster) (member : Member) (found : Option ServerFacts) → IsDone found
    → events_of cluster (acknowledge_kinds cluster.facts.servers cluster.facts.members member found) ≡ []
acknowledges-none cluster member None done = refl
acknowledges-none cluster member (Some s) done =
    ap (λ (commits : List ℕ).
    events_of cluster (acknowledgements cluster.facts.servers cluster.facts.members member commits))
    (front-none (writes s.state) s.required s.confirmed s.waiting done)

pub acknowledged-none : (cluster : Cluster) → AreAcknowledged cluster.facts.members cluster.facts.servers
    → each acknowledge_events cluster cluster.facts.members ≡ []
acknowledged-none cluster done =
    each-nothing Member acknowledge_events cluster cluster.facts.members
    (All-weaker Member (λ (m : Member). IsDone (slice_get cluster.facts.servers m.id.number))
    (λ (m : Member). acknowledge_events cluster m ≡ []) cluster.facts.members
    (λ m is. acknowledges-none cluster m (slice_get cluster.facts.servers m.id.number) is) done)

pub received-none : (cluster : Cluster) → AreCaughtUp cluster
    → each receive_events_of cluster cluster.facts.members ≡ []
received-none cluster caught_up =
    each-nothing Member receive_events_of cluster cluster.facts.members
    (All-weaker Member
    (λ (m : Member). ReceivesNone cluster.facts.members cluster.facts.servers cluster.facts.cuts m
    (slice_get cluster.facts.frozen m.id.number))
    (λ (m : Member). receive_events_of cluster m ≡ []) cluster.facts.members
    (λ m none. receive-none cluster m (slice_get cluster.facts.frozen m.id.number) none) caught_up)

-- a round in which no agent is to be woken
round-none : (cluster : Cluster) (later : ℕ) → cluster.facts.clock ≤ later → IsIdle later cluster
    → round_events cluster ≡ []
round-none cluster later h idle =
    then-nothing cluster (each wake_events cluster cluster.facts.members)
    (λ after. each message_events after (keys_of after.facts.flight)) (wakes-none cluster later h idle.due.agents)
    ∙ none-ever ℕ message_events cluster (keys_of cluster.facts.flight)
    (λ n. kept-still cluster n (λ message is. idle.moves.messages n message is))

scheduled-none : (cluster : Cluster) (later : ℕ) → cluster.facts.clock ≤ later → IsIdle later cluster
    → scheduled_events cluster ≡ []
scheduled-none cluster later h idle =
    then-nothing cluster (each receive_events_of cluster cluster.facts.members)
    (λ after. rounds_events after most_rounds) (received-none cluster idle.moves.replicas)
    ∙ rounds_events-still cluster (round-none cluster later h idle)

-- what is so of an idle cluster doesn't depend on its clock
ends-at : (cluster : Cluster) (later now : ℕ) → NothingEnds later cluster → NothingEnds later (at_moment cluster now)
ends-at cluster later now ends = record { watchdogs = ends.watchdogs; keys = ends.keys; servers = ends.servers }

pub idle-at : (step : Step) (cluster : Cluster) (later now : ℕ) → IsIdleIn step later cluster
    → IsIdleIn step later (at_moment cluster now)
idle-at steps.Scheduled cluster later now idle = record {
  due = record { ends = ends-at cluster later now idle.due.ends; agents = idle.due.agents };
  moves = record { messages = idle.moves.messages; replicas = idle.moves.replicas; commits = idle.moves.commits };
}
idle-at steps.Tick cluster later now idle =
    record { ends = ends-at cluster later now idle.ends; commits = idle.commits }
idle-at (steps.Command command) cluster later now idle = absurd idle
idle-at (steps.Connection id visit) cluster later now idle = absurd idle

-- nothing ends in it, and no commit of it may be acknowledged
pub idle-ends : (step : Step) (cluster : Cluster) (later : ℕ) → IsIdleIn step later cluster → NothingEnds later cluster
idle-ends steps.Scheduled cluster later idle = idle.due.ends
idle-ends steps.Tick cluster later idle = idle.ends
idle-ends (steps.Command command) cluster later idle = absurd idle
idle-ends (steps.Connection id visit) cluster later idle = absurd idle

pub idle-commits : (step : Step) (cluster : Cluster) (later : ℕ) → IsIdleIn step later cluster
    → AreAcknowledged cluster.facts.members cluster.facts.servers
idle-commits steps.Scheduled cluster later idle = idle.moves.commits
idle-commits steps.Tick cluster later idle = idle.commits
idle-commits (steps.Command command) cluster later idle = absurd idle
idle-commits (steps.Connection id visit) cluster later idle = absurd idle

-- where steps of the default schedule bring nothing but their ticks, plain ticks don't either
pub idle-ticks : (cluster : Cluster) (later : ℕ) → IsIdle later cluster → IsIdleButForAgents later cluster
idle-ticks cluster later idle = record { ends = idle.due.ends; commits = idle.moves.commits }

-- what a tick leaves is idle as before
pub idle-after : (step : Step) (cluster : Cluster) (later : ℕ) → cluster.facts.clock + 1 ≤ later
    → IsIdleIn step later cluster → IsIdleIn step later (cluster_after cluster kinds.Tick)
idle-after step cluster later h idle =
    subst (IsIdleIn step later) (sym (ticked-idle cluster later h (idle-ends step cluster later idle)))
    (idle-at step cluster later (cluster.facts.clock + 1) idle)

-- a step of the default schedule, or a plain tick, brings exactly its tick
pub next-idle : (step : Step) (cluster : Cluster) (later : ℕ) → cluster.facts.clock + 1 ≤ later
    → IsIdleIn step later cluster → next_events cluster step ≡ event_of cluster kinds.Tick
next-idle step cluster later h idle =
    let ticked = cluster_after cluster kinds.Tick in
    ap (λ (es : List Event). events_then cluster es (λ now. each acknowledge_events now now.facts.members))
    (step-idle step cluster later h idle)
    ∙ ap (λ (es : List Event). event_of cluster kinds.Tick ++ es)
    (acknowledged-none ticked (idle-commits step ticked later (idle-after step cluster later h idle)))
    ∙ append-nil (event_of cluster kinds.Tick)
  where
    step-idle : (step : Step) (cluster : Cluster) (later : ℕ) → cluster.facts.clock + 1 ≤ later
        → IsIdleIn step later cluster → step_events cluster step ≡ event_of cluster kinds.Tick
    step-idle steps.Scheduled cluster later h idle =
        ap (λ (es : List Event). events_then cluster es scheduled_events) (tick-idle cluster later h idle.due.ends)
        ∙ ap (λ (es : List Event). event_of cluster kinds.Tick ++ es)
        (scheduled-none (cluster_after cluster kinds.Tick) later h (idle-after steps.Scheduled cluster later h idle))
        ∙ append-nil (event_of cluster kinds.Tick)
    step-idle steps.Tick cluster later h idle = tick-idle cluster later h idle.ends
    step-idle (steps.Command command) cluster later h idle = absurd idle
    step-idle (steps.Connection id visit) cluster later h idle = absurd idle

-- an agent with no machine never has anything to do
no-machine : (agent : Option AgentFacts) → HasWorkFrom (standing agent None) None
no-machine None = λ now. refl
no-machine (Some agent) = λ now. refl

work-of : (receives by_failsafe : Bool) (on : ServerFacts → Replication) (options : Option MemberOptions)
    (deadline hold : Option (Option Ticks)) (s : Option ServerFacts) (agent : Option AgentFacts)
    → HasWorkFrom (standing agent (machine_from receives by_failsafe (option_map on s) options deadline hold s))
    (work_moment options deadline hold s agent)
work-of receives by_failsafe on None deadline hold None agent = no-machine agent
work-of receives by_failsafe on None deadline hold (Some s) agent = no-machine agent
work-of receives by_failsafe on (Some options) None hold None agent = no-machine agent
work-of receives by_failsafe on (Some options) None hold (Some s) agent = no-machine agent
work-of receives by_failsafe on (Some options) (Some deadline) None None agent = no-machine agent
work-of receives by_failsafe on (Some options) (Some deadline) None (Some s) agent = no-machine agent
work-of receives by_failsafe on (Some options) (Some deadline) (Some hold) None agent = no-machine agent
work-of receives by_failsafe on (Some options) (Some deadline) (Some hold) (Some s) None = λ now. refl
work-of receives by_failsafe on (Some options) (Some deadline) (Some hold) (Some s) (Some agent) = λ now.
    due-at agent.role agent.knows s.state now (record {
      server = record (status_of s) { receives = receives };
      replication = on s;
      watchdog = watchdog_of options deadline;
      by_failsafe = by_failsafe;
      hold = hold;
    }) refl

-- from when on there is something to do for the agent of a member
pub work-from : (cluster : Cluster) (member : Member) (found : Option Ticks)
    → found
    ≡ work_moment (slice_get cluster.options member.id.number) (slice_get cluster.facts.deadlines member.id.number)
    (slice_get cluster.facts.holds member.id.number) (slice_get cluster.facts.servers member.id.number)
    (agent_at cluster.agents member.id.number)
    → HasWorkFrom (standing_of cluster member) found
work-from cluster member found is =
    subst (λ (moment : Option Ticks). HasWorkFrom (standing_of cluster member) moment) (sym is)
    (work-of (is_some (source_of cluster.facts.members cluster.facts.servers cluster.facts.cuts member))
    (is_set_by_failsafe (slice_get cluster.failsafe_deadlines member.id.number))
    (replication_of cluster.facts.members cluster.facts.servers cluster.facts.cuts member)
    (slice_get cluster.options member.id.number) (slice_get cluster.facts.deadlines member.id.number)
    (slice_get cluster.facts.holds member.id.number)
    (slice_get cluster.facts.servers member.id.number) (agent_at cluster.agents member.id.number))

same-item : {X : Type 0} (xs : List X) (k place : ℕ) (x y : X) → k ≡ place → slice_get xs place ≡ Some x
    → slice_get xs k ≡ Some y → x ≡ y
same-item xs k place x y e is there = same_Some x y (sym is ∙ ap (slice_get xs) (sym e) ∙ there)

-- so it is of the first of them: before a moment, as the fact says it
pub record AreSoTo {X : Type 0} (P : ℕ → X → Type 0) (first : ℕ) (xs : List X) (place : ℕ) : Type 0 where
  pub each : (now : ℕ) → now < first → (k : ℕ) (x : X) → k < place → slice_get xs k ≡ Some x → P now x

pub so-none : {X : Type 0} (P : ℕ → X → Type 0) (first : ℕ) (xs : List X) → AreSoTo P first xs 0
so-none P first xs = record { each = λ now h k x below is. absurd (omega (arith, below)) }

pub so-more : {X : Type 0} (P : ℕ → X → Type 0) (first next : ℕ) (xs : List X) (place : ℕ) (x : X)
    → AreSoTo P first xs place → next ≤ first → slice_get xs place ≡ Some x
    → ((now : ℕ) → now < next → P now x) → AreSoTo P next xs (place + 1)
so-more {X = X} P first next xs place x so sooner is here = record {
  each = λ now h k y below there. elim (cases_lt k place) [
    | inl before ↦ so.each now (omega (arith, h, sooner)) k y before there
    | inr behind ↦ subst (P now) (same-item xs k place x y (omega (arith, behind, below)) is there) (here now h)
  ];
}

pub so-all : {X : Type 0} (P : ℕ → X → Type 0) (first : ℕ) (xs : List X) (place : ℕ)
    → AreSoTo P first xs place → length xs ≤ place → (now : ℕ) → now < first → All (P now) xs
so-all P first xs place so past now h =
    λ k d below. so.each now h k (get_or xs k d) (omega (arith, below, past)) (slice_get-get_or xs k d below)

-- an agent isn't to be woken that may not act, that never has anything
-- to do, or that has something to do only from a later moment on
pub sleeps-suspended : (process : AgentProcess) (o : Option Outcome) (now : Ticks) → may_act process ≡ false
    → is_to_wake now process o ≡ false
sleeps-suspended process o now may = ap (λ (b : Bool). b && has_work now o) may

sleeps-idle : (process : AgentProcess) (o : Option Outcome) (now : Ticks) → has_work now o ≡ false
    → is_to_wake now process o ≡ false
sleeps-idle process o now isnt = ap (λ (b : Bool). may_act process && b) isnt ∙ and-false (may_act process)

pub sleeps-never : (process : AgentProcess) (o : Option Outcome) (now : Ticks) → HasWorkFrom o None
    → is_to_wake now process o ≡ false
sleeps-never process o now none = sleeps-idle process o now (none now)

not-yet : (from now : ℕ) → now < from → nat_le from now ≡ false
not-yet from now h = grind (arith, nat_tests)

pub sleeps-before : (process : AgentProcess) (o : Option Outcome) (from now : Ticks)
    → HasWorkFrom o (Some from) → now.0 < from.0 → is_to_wake now process o ≡ false
sleeps-before process o from now works h = sleeps-idle process o now (works now ∙ not-yet from.0 now.0 h)
