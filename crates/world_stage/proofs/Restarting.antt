-- Servers that start again in their role.
use Rattle.std.proofs.Common.{◌≤◌, ◌≡◌, ℕ, ◌==◌, not, Bool, true, false, List, [], ◌∷◌, Option, Some, None, arith, set-set, refl, ◌∙◌, ap, sym, subst}
use Rattle.std.specs.Prelude.{if◌then◌else◌, option_and_then, option_map, slice_get, slice_set}
use Rattle.std.proofs.lemmas.Option.{same_Some, slice_get_within}
use Rattle.pat_base.specs.declared.server_state.State.{State}
use Rattle.pat_base.specs.declared.server_state.State.TheVariants as states
use Rattle.pat_base.specs.declared.ticks.Ticks.{Ticks}
use Rattle.pat_base.specs.Changes.{changed_at, with_changed}
use Rattle.pg_model.specs.Facts.{ServerFacts}
use Rattle.pg_model.specs.Running.{moment_after, primary_started, restarted, restarted_in, started, stopped}
use Rattle.pg_model.proofs.Lists.{got-set_same}
use Rattle.event_book.specs.declared.event.EventKind.{EventKind}
use Rattle.event_book.specs.declared.event.EventKind.TheVariants as kinds
use Rattle.event_book.specs.declared.event.ServerEvent.TheVariants as servers
use Rattle.event_book.specs.declared.member.Member.{Member}
use Rattle.event_book.specs.declared.member.ServerOf.{ServerOf}
use Rattle.event_book.specs.Members.{server_of}
use Rattle.event_book.specs.Servers.{begun_in, starts_as_primary}
use Rattle.event_list.specs.Listed.{Listed, ◌+++◌}
use Rattle.cluster_model.specs.declared.beginning.Beginning.{Beginning}
use Rattle.cluster_model.specs.declared.beginning.Beginning.TheVariants as beginnings
use Rattle.cluster_model.specs.Beginnings.{again_by, kinds_by, server_restart_in, server_restart_kinds}
use Rattle.cluster_model.specs.Cluster.{cluster_after}
use Rattle.cluster_model.specs.Commands.{kinds_of}
use Rattle.cluster_model.specs.Inputs.{moment_of}
use Rattle.cluster_model.specs.Messages.{server_restart_events}
use Rattle.cluster_model.specs.Parts.{event_of, events_of, for_some}
use Rattle.cluster_model.specs.State.{Cluster}
use Rattle.world_model.specs.Comes.{Counts}
use Rattle.world_model.specs.Emits.{Emits}
use Rattle.world_model.specs.Promoting.{loss_of_any}
use Rattle.world_model.specs.Room.{HasRoom, beginning_cost, server_restart_cost, event_cost}
use Rattle.world_stage.proofs.Comings.{Emits-told}
use Rattle.world_stage.proofs.Promoting.{as-took}
use Rattle.world_stage.proofs.Streams.{with_servers}
use Rattle.world_model.proofs.Taking.{Emits-more, Emits-then, Emits-weaker}

-- the cluster once a server is restarted
abbrev pub restarted_at : Cluster → Member → Cluster
restarted_at cluster member =
    with_servers cluster (with_changed cluster.facts.servers member.id.number (restarted (moment_of cluster)))

-- two changes of a server are one
changed-twice : (known : List ServerFacts) (place : ℕ) (first next both : ServerFacts → ServerFacts) (s : ServerFacts)
    → slice_get known place ≡ Some s → next (first s) ≡ both s
    → with_changed known place both ≡ with_changed (with_changed known place first) place next
changed-twice known place first next both s there same =
    let once : with_changed known place first ≡ slice_set known place (first s) =
    ap (λ (o : Option ServerFacts). changed_at known place first o) there in
    let here : slice_get (slice_set known place (first s)) place ≡ Some (first s) =
    got-set_same known place (first s) (slice_get_within known place s there) in
    ap (λ (o : Option ServerFacts). changed_at known place both o) there
    ∙ ap (λ (t : ServerFacts). slice_set known place t) (sym same)
    ∙ sym (set-set known place (first s) (next (first s)))
    ∙ sym (ap (λ (o : Option ServerFacts). changed_at (slice_set known place (first s)) place next o) here)
    ∙ ap (λ (xs : List ServerFacts). with_changed xs place next) (sym once)

-- a primary that ends and starts at once is restarted
begins-again : (now : Ticks) (s : ServerFacts) → s.state ≡ states.Primary → (s.start_delay.0 == 0) ≡ true
    → begun_in states.Stopped (stopped s) ≡ restarted now s
begins-again now s is quick =
    sym (ap (λ (state : State). restarted_in state now s) is
    ∙ ap (λ (b : Bool). if b then started true (stopped s)
    else record (stopped s) { state = states.Starting true (moment_after now s.start_delay) })
    quick)

-- a primary that ends and starts slowly is restarted
starts-again : (now : ℕ) (s : ServerFacts) → s.state ≡ states.Primary → (s.start_delay.0 == 0) ≡ false
    → starts_as_primary now (stopped s) ≡ restarted (record { 0 = now }) s
starts-again now s is slow =
    ap (λ (b : Bool). if not b then primary_started (record { 0 = now }) (stopped s) else stopped s) slow
    ∙ sym (ap (λ (state : State). restarted_in state (record { 0 = now }) s) is)

same-timeline : (own timeline : ℕ) → beginnings.AtOnce own ≡ beginnings.AtOnce timeline → own ≡ timeline
same-timeline own timeline e = cc

no-start : (own : ℕ) → beginnings.AtOnce own ≡ beginnings.WithItsStart → ⊥
no-start own e = cc

-- who begins again at once has starts that take no time
at-once : (quick : Bool) (own timeline : ℕ)
    → (if quick then beginnings.AtOnce own else beginnings.WithItsStart) ≡ beginnings.AtOnce timeline → quick ≡ true
at-once true own timeline is = refl
at-once false own timeline is = absurd (no-start timeline (sym is))

with-start : (quick : Bool) (own : ℕ)
    → (if quick then beginnings.AtOnce own else beginnings.WithItsStart) ≡ beginnings.WithItsStart → quick ≡ false
with-start true own is = absurd (no-start own is)
with-start false own is = refl

-- the server of a member is a primary that begins again so
pub record BeginsAgain (cluster : Cluster) (member : Member) (beginning : Beginning) : Type 0 where
  pub server : ServerFacts
  pub there : slice_get cluster.facts.servers member.id.number ≡ Some server
  pub primary : server.state ≡ states.Primary
  pub again : again_by server.timeline server.start_delay ≡ beginning

none-some : {A : Type 0} (x : A) → ◌≡◌ {A = Option A} None (Some x) → ⊥
none-some x e = cc

again-from : (cluster : Cluster) (member : Member) (beginning : Beginning) (found : Option ServerFacts)
    → slice_get cluster.facts.servers member.id.number ≡ found
    → option_map (λ (s : ServerFacts). s.state) found ≡ Some states.Primary
    → option_map (λ (s : ServerFacts). again_by s.timeline s.start_delay) found ≡ Some beginning
    → BeginsAgain cluster member beginning
again-from cluster member beginning None there primary again = absurd (none-some states.Primary primary)
again-from cluster member beginning (Some s) there primary again = record {
  server = s;
  there = there;
  primary = same_Some s.state states.Primary primary;
  again = same_Some (again_by s.timeline s.start_delay) beginning again;
}

pub begins-again-at : (cluster : Cluster) (member : Member) (beginning : Beginning)
    → option_map (λ (s : ServerFacts). s.state) (slice_get cluster.facts.servers member.id.number) ≡ Some states.Primary
    → option_map (λ (s : ServerFacts). again_by s.timeline s.start_delay)
    (slice_get cluster.facts.servers member.id.number) ≡ Some beginning
    → BeginsAgain cluster member beginning
begins-again-at cluster member beginning primary again =
    again-from cluster member beginning (slice_get cluster.facts.servers member.id.number) refl primary again

-- what the restart of a primary comes to
primary-restarts : (cluster : Cluster) (member : Member) (beginning : Beginning)
    (a : BeginsAgain cluster member beginning)
    → server_restart_events cluster member
    ≡ events_of cluster
    (kinds.Server (servers.Ended (server_of member))
    ∷ kinds_by member cluster.facts.acknowledged a.server.log (Some beginning))
primary-restarts cluster member beginning a =
    ap (λ (o : Option ServerFacts).
    for_some o (λ s. events_of cluster (server_restart_kinds member cluster.facts.acknowledged s)))
    a.there
    ∙ ap (λ (state : State). events_of cluster (server_restart_in member cluster.facts.acknowledged state a.server))
    a.primary
    ∙ ap (λ (b : Beginning). events_of cluster
    (kinds.Server (servers.Ended (server_of member))
    ∷ kinds_by member cluster.facts.acknowledged a.server.log (Some b)))
    a.again

-- its end is noted, and then how it starts
abbrev NotesBoth : ServerOf → (ServerOf → EventKind) → Ticks → Listed → Listed → Listed → Type 0
NotesBoth server next tick had one two =
    (one ≡ had +++ record { tick = tick; kind = kinds.Server (servers.Ended server) } ∷ [])
    × (two ≡ one +++ record { tick = tick; kind = next server } ∷ [])

-- both are what happened
both-took : (cluster : Cluster) (member : Member) (server : ServerOf) (next : ServerOf → EventKind)
    (tick : Ticks) (had one two : Listed) → server ≡ server_of member → tick.0 ≡ cluster.facts.clock
    → Counts (cluster_after cluster (kinds.Server (servers.Ended server))) (next server) → event_cost (next server) ≤ 1
    → restarted_at cluster member
    ≡ cluster_after (cluster_after cluster (kinds.Server (servers.Ended (server_of member)))) (next (server_of member))
    → NotesBoth server next tick had one two
    → Emits cluster (restarted_at cluster member) had two
    (events_of cluster (kinds.Server (servers.Ended server) ∷ next server ∷ [])) beginning_cost
both-took cluster member server next tick had one two server_is at counts few leaves notes =
    let kind : EventKind = kinds.Server (servers.Ended server) in
    let down : Cluster = cluster_after cluster kind in
    let up : restarted_at cluster member ≡ cluster_after down (next server) =
    subst (λ (x : ServerOf).
    restarted_at cluster member ≡ cluster_after (cluster_after cluster (kinds.Server (servers.Ended x))) (next x))
    (sym server_is) leaves in
    Emits-more cluster down (restarted_at cluster member) had one two kind (next server ∷ []) 1 beginning_cost
    (Emits-told cluster down tick kind had one tt refl at notes.0)
    (Emits-weaker down (restarted_at cluster member) one two (event_of down (next server)) (event_cost (next server)) 1
    (Emits-told down (restarted_at cluster member) tick (next server) one two counts up at notes.1) few)
    (omega arith)

abbrev beginning : ℕ → ServerOf → EventKind
beginning timeline server = kinds.Server (servers.Began server timeline)

abbrev starting : ServerOf → EventKind
starting server = kinds.Server (servers.StartsAsPrimary server)

-- it ends, and begins at once: before its loss is told
begun-took : (cluster : Cluster) (member : Member) (timeline : ℕ) (server : ServerOf) (tick : Ticks)
    (had one two : Listed) → BeginsAgain cluster member (beginnings.AtOnce timeline)
    → server ≡ server_of member → tick.0 ≡ cluster.facts.clock
    → NotesBoth server (beginning timeline) tick had one two
    → Emits cluster (restarted_at cluster member) had two
    (events_of cluster (kinds.Server (servers.Ended server) ∷ beginning timeline server ∷ [])) beginning_cost
begun-took cluster member timeline server tick had one two a server_is at notes =
    let now : Ticks = moment_of cluster in
    let s : ServerFacts = a.server in
    both-took cluster member server (beginning timeline) tick had one two server_is at tt (omega arith)
    (ap (with_servers cluster)
    (changed-twice cluster.facts.servers member.id.number stopped (λ s. begun_in s.state s) (restarted now) s a.there
    (begins-again now s a.primary (at-once (s.start_delay.0 == 0) s.timeline timeline a.again))))
    notes

-- there is room for the note of its loss then
pub begun-room : (cluster : Cluster) (member : Member) (timeline : ℕ) (server : ServerOf) (tick : Ticks)
    (had one two : Listed) → BeginsAgain cluster member (beginnings.AtOnce timeline)
    → server ≡ server_of member → tick.0 ≡ cluster.facts.clock
    → NotesBoth server (beginning timeline) tick had one two → HasRoom cluster server_restart_cost
    → HasRoom (restarted_at cluster member) 1
begun-room cluster member timeline server tick had one two a server_is at notes room =
    (begun-took cluster member timeline server tick had one two a server_is at notes).room 1 room

-- it ends, and begins at once
pub begins-took : (cluster after : Cluster) (member : Member) (timeline : ℕ) (server : ServerOf)
    (loss : Option EventKind) (tick : Ticks) (had one two has : Listed)
    → BeginsAgain cluster member (beginnings.AtOnce timeline) → server ≡ server_of member → tick.0 ≡ cluster.facts.clock
    → loss
    ≡ option_and_then (loss_of_any cluster.facts.acknowledged member) (slice_get cluster.facts.servers member.id.number)
    → NotesBoth server (beginning timeline) tick had one two
    → Emits (restarted_at cluster member) after two has (events_of (restarted_at cluster member) (kinds_of loss)) 1
    → Emits cluster after had has (server_restart_events cluster member) server_restart_cost
begins-took cluster after member timeline server loss tick had one two has a server_is at lost notes rest =
    let kind : EventKind = kinds.Server (servers.Ended server) in
    let both = Emits-then cluster (restarted_at cluster member) after had two has
    (events_of cluster (kind ∷ beginning timeline server ∷ []))
    (λ later. events_of later (kinds_of loss)) beginning_cost 1 server_restart_cost
    (begun-took cluster member timeline server tick had one two a server_is at notes) rest (omega arith) in
    let told = lost ∙ ap (option_and_then (loss_of_any cluster.facts.acknowledged member)) a.there in
    as-took cluster after had has (events_of cluster (kind ∷ beginning timeline server ∷ kinds_of loss))
    (server_restart_events cluster member) server_restart_cost
    (primary-restarts cluster member (beginnings.AtOnce timeline) a
    ∙ ap (λ (o : Option EventKind). events_of cluster
    (kinds.Server (servers.Ended (server_of member)) ∷ beginning timeline (server_of member) ∷ kinds_of o))
    (sym told)
    ∙ ap (λ (x : ServerOf). events_of cluster (kinds.Server (servers.Ended x) ∷ beginning timeline x ∷ kinds_of loss))
    (sym server_is))
    both

-- it ends, and its start begins
pub starts-took : (cluster : Cluster) (member : Member) (server : ServerOf) (tick : Ticks) (had one two : Listed)
    → BeginsAgain cluster member beginnings.WithItsStart → server ≡ server_of member → tick.0 ≡ cluster.facts.clock
    → NotesBoth server starting tick had one two
    → Emits cluster (restarted_at cluster member) had two (server_restart_events cluster member) server_restart_cost
starts-took cluster member server tick had one two a server_is at notes =
    let now : ℕ = cluster.facts.clock in
    let s : ServerFacts = a.server in
    let kind : EventKind = kinds.Server (servers.Ended server) in
    let both = both-took cluster member server starting tick had one two server_is at tt (omega arith)
    (ap (with_servers cluster)
    (changed-twice cluster.facts.servers member.id.number stopped (starts_as_primary now)
    (restarted (moment_of cluster)) s a.there
    (starts-again now s a.primary (with-start (s.start_delay.0 == 0) s.timeline a.again))))
    notes in
    as-took cluster (restarted_at cluster member) had two (events_of cluster (kind ∷ starting server ∷ []))
    (server_restart_events cluster member) server_restart_cost
    (primary-restarts cluster member beginnings.WithItsStart a
    ∙ ap (λ (x : ServerOf). events_of cluster (kinds.Server (servers.Ended x) ∷ starting x ∷ [])) (sym server_is))
    (Emits-weaker cluster (restarted_at cluster member) had two
    (events_of cluster (kind ∷ starting server ∷ [])) beginning_cost server_restart_cost both (omega arith))
