-- Which servers are live after an event.
use Rattle.std.proofs.Common.{ℕ, ◌≡◌, ◌==◌, Bool, true, false, nat_le, cond, List, map, slice_get, Option, Some, None, option_map, refl, ◌∙◌, ap, sym, inl, inr}
use Rattle.std.proofs.lemmas.Bool.{cases_eq}
use Rattle.std.proofs.lemmas.Option.{slice_get-map}
use Rattle.pat_base.specs.declared.server_id.ServerId.{ServerId}
use Rattle.pat_base.specs.declared.server_state.State.{State}
use Rattle.pat_base.specs.declared.server_state.State.TheVariants as states
use Rattle.pat_base.specs.declared.ticks.Ticks.{Ticks}
use Rattle.pat_base.specs.Changes.{with_changed}
use Rattle.pat_base.specs.ServerState.{live}
use Rattle.pg_model.specs.Facts.{ServerFacts}
use Rattle.pg_model.specs.Running.{completed, crashed, crashed_state, moment_after, replica_started, started, stopped, ticked_unless_live}
use Rattle.event_book.specs.declared.event.EventKind.{EventKind}
use Rattle.event_book.specs.declared.event.EventKind.TheVariants as kinds
use Rattle.event_book.specs.declared.event.ServerEvent.{ServerEvent}
use Rattle.event_book.specs.declared.event.ServerEvent.TheVariants as servers
use Rattle.event_book.specs.declared.event.WatchdogEvent.TheVariants as watchdogs
use Rattle.event_book.specs.Facts.{Facts}
use Rattle.event_book.specs.Servers.{begun_in, replica_starts_in, servers_by, servers_after}
use Rattle.event_book.proofs.Changed.{same-if}
use Rattle.event_book.proofs.Parts.{logged-kept, replicated-kept}
use Rattle.lease_model.proofs.Tools.{put-all}
use Rattle.commit_actions.specs.Past.{VolatileState}
use Rattle.commit_showing.specs.Showing.{with_server_down}
use Rattle.commit_servers.specs.Matching.{live_now, live_in, IsLiveAs, IsLiveAhead, volatile_after}
use Rattle.commit_servers.specs.Happening.{IsLiveAt, MayHappen, MayHappenToServer}
use Rattle.commit_servers.proofs.Places.{changed-here, changed-there, changed-none, seen-kept, seen-each}

-- ---- who is live by the states of all
said : Option Bool → Bool
said None = false
said (Some is) = is

live-said : (found : Option ServerFacts) → live_now found ≡ said (option_map (λ s. live s.state) found)
unfolding said
live-said None = refl
live-said (Some s) = refl

live-at : (known : List ServerFacts) (m : ℕ) → live_in known m ≡ said (slice_get (map (λ s. live s.state) known) m)
live-at known m = live-said (slice_get known m) ∙ ap said (sym (slice_get-map (λ s. live s.state) known m))

-- where the states say of all servers alike whether they are live, each is live exactly where it was
pub live-kept : (before known : List ServerFacts) (m : ℕ)
    → map (λ s. live s.state) known ≡ map (λ s. live s.state) before → live_in known m ≡ live_in before m
live-kept before known m same = live-at known m ∙ ap (λ xs. said (slice_get xs m)) same ∙ sym (live-at before m)

-- ---- what leaves it
live-completed : (now : Ticks) (state : State) (s : ServerFacts) → s.state ≡ state
    → live (cond (live state) s (completed now state s)).state ≡ live s.state
live-completed now (states.Starting true at) s is = refl
live-completed now (states.Starting false at) s is =
    same-if (λ s. live s.state) (nat_le at.0 now.0) (started false s) s (live s.state) (sym (ap live is)) refl
live-completed now (states.Stopping true at) s is = refl
live-completed now (states.Stopping false at) s is =
    same-if (λ s. live s.state) (nat_le at.0 now.0) (stopped s) s (live s.state) (sym (ap live is)) refl
live-completed now _ s is = refl

pub live-ticked : (now : Ticks) (known : List ServerFacts) (m : ℕ)
    → live_in (map (ticked_unless_live now) known) m ≡ live_in known m
live-ticked now known m = seen-each live_now known (ticked_unless_live now) (λ s. live-completed now s.state s refl) m

live-starts : (now : Ticks) (upstream : Option ServerId) (s : ServerFacts)
    → live (replica_started now upstream s).state ≡ false
live-starts now upstream s =
    let told : ServerFacts = record s { upstream = upstream; was_primary = false } in
    same-if (λ s. live s.state) (s.start_delay.0 == 0) (started false told)
    (record told { state = states.Starting false (moment_after now s.start_delay) }) false refl refl

live-replica : (now : Ticks) (state : State) (s : ServerFacts) → s.state ≡ state
    → live (replica_starts_in state now s).state ≡ live s.state
live-replica now states.Stopped s is = live-starts now None s ∙ sym (ap live is)
live-replica now states.Crashed s is = live-starts now None s ∙ sym (ap live is)
live-replica now states.Replica s is = live-starts now s.upstream s ∙ sym (ap live is)
live-replica now _ s is = refl

live-begun : (state : State) (s : ServerFacts) → live (begun_in state s).state ≡ true
live-begun states.Replica s = refl
live-begun _ s = refl

live-crashed : (state : State) → live (crashed_state state) ≡ false
live-crashed states.Creating = refl
live-crashed _ = refl

-- ---- a server ends
down-here : (known : List ServerFacts) (k : ℕ) (change : ServerFacts → ServerFacts) (found : Option ServerFacts)
    → slice_get known k ≡ found
    → ((s : ServerFacts) → live (change s).state ≡ false) → false ≡ live_in (with_changed known k change) k
down-here known k change None is down =
    sym (ap (λ (servers : List ServerFacts). live_now (slice_get servers k)) (changed-none known k change is)
    ∙ ap live_now is)
down-here known k change (Some s) is down = sym (ap live_now (changed-here known k change s is) ∙ down s)

pub live-ended : (volatile_states : ℕ → VolatileState) (known : List ServerFacts) (k : ℕ)
    (change : ServerFacts → ServerFacts) → ((s : ServerFacts) → live (change s).state ≡ false)
    → IsLiveAs volatile_states known → IsLiveAs (with_server_down volatile_states k) (with_changed known k change)
live-ended volatile_states known k change down is = record {
  live = λ n.
      put-all volatile_states k (record (volatile_states k) { live = false })
      (λ m state. state.live ≡ live_in (with_changed known k change) m)
      (down-here known k change (slice_get known k) refl down)
      (λ m other. is.live m ∙ sym (ap live_now (changed-there known k change m other))) n;
}

-- ---- a server begins, which was live before by its state or by the order of its agent
pub ahead-of : (volatile_states : ℕ → VolatileState) (known : List ServerFacts) (m : ℕ) → IsLiveAt known m
    → IsLiveAs volatile_states known → IsLiveAhead volatile_states known m
ahead-of volatile_states known m at is =
    record { here = is.live m ∙ ap live_now at.is ∙ at.is_live; others = λ n other. is.live n }

pub live-begins : (volatile_states : ℕ → VolatileState) (known : List ServerFacts) (m : ℕ) (s : ServerFacts)
    → slice_get known m ≡ Some s
    → IsLiveAhead volatile_states known m
    → IsLiveAs volatile_states (with_changed known m (λ before. begun_in before.state before))
live-begins volatile_states known m s is ahead = record {
  live = λ n. elim (cases_eq n m) [
    | inl e ↦ ap (λ (k : ℕ). (volatile_states k).live) e ∙ ahead.here
        ∙ sym (ap (λ (k : ℕ). live_in (with_changed known m (λ before. begun_in before.state before)) k) e
        ∙ ap live_now (changed-here known m (λ before. begun_in before.state before) s is) ∙ live-begun s.state s)
    | inr other ↦ ahead.others n other
        ∙ sym (ap live_now (changed-there known m (λ before. begun_in before.state before) n other))
  ];
}

-- ---- all that may happen
stays : (volatile_states : ℕ → VolatileState) (before known : List ServerFacts)
    → ((m : ℕ) → live_in known m ≡ live_in before m) → IsLiveAs volatile_states before → IsLiveAs volatile_states known
stays volatile_states before known same is = record { live = λ m. is.live m ∙ sym (same m) }

one-stays : (known : List ServerFacts) (k : ℕ) (change : ServerFacts → ServerFacts)
    → ((s : ServerFacts) → live (change s).state ≡ live s.state) → (m : ℕ)
    → live_in (with_changed known k change) m ≡ live_in known m
one-stays known k change same m = seen-kept live_now known k change (λ s is. same s) m

live-server : (volatile_states : ℕ → VolatileState) (now : ℕ) (known : List ServerFacts) (happening : ServerEvent)
    → MayHappenToServer known happening
    → IsLiveAs volatile_states known
    → IsLiveAs (volatile_after volatile_states (kinds.Server happening)) (servers_by now known happening)
live-server volatile_states now known (servers.Began server timeline) may is = live-begins volatile_states
    known server.id.number may.server may.is (ahead-of volatile_states known server.id.number may is)
live-server volatile_states now known (servers.Ended server) may is =
    live-ended volatile_states known server.id.number stopped (λ s. refl) is
live-server volatile_states now known (servers.Crashed server) may is =
    live-ended volatile_states known server.id.number crashed (λ s. live-crashed s.state) is
live-server volatile_states now known (servers.Stops server) may is = absurd may
live-server volatile_states now known (servers.StartsAsPrimary server) may is = absurd may
live-server volatile_states now known (servers.StartsAsReplica server) may is = stays volatile_states known _
    (one-stays known server.id.number _ (λ s. live-replica (record { 0 = now }) s.state s refl)) is
live-server volatile_states now known (servers.Follows server upstream) may is =
    stays volatile_states known _ (one-stays known server.id.number _ (λ s. refl)) is
live-server volatile_states now known (servers.Diverged server upstream at) may is =
    stays volatile_states known _ (one-stays known server.id.number _ (λ s. refl)) is
live-server volatile_states now known (servers.Slowed server stop start) may is =
    stays volatile_states known _ (one-stays known server.id.number _ (λ s. refl)) is
live-server volatile_states now known (servers.Promoted server) may is = is
live-server volatile_states now known (servers.Frozen server) may is = is
live-server volatile_states now known (servers.Thawed server) may is = is

pub live-after : (volatile_states : ℕ → VolatileState) (now : ℕ) (facts : Facts) (kind : EventKind)
    → MayHappen facts kind
    → IsLiveAs volatile_states facts.servers
    → IsLiveAs (volatile_after volatile_states kind) (servers_after now facts.servers facts.remote kind)
live-after volatile_states now facts kinds.Tick may is = absurd may
live-after volatile_states now facts (kinds.Server happening) may is =
    live-server volatile_states now facts.servers happening may is
live-after volatile_states now facts (kinds.Log happening) may is =
    stays volatile_states facts.servers _
    (λ m. live-kept facts.servers _ m
    (logged-kept (λ s. live s.state) (λ s t live writes required confirmed. live) facts.servers facts.remote happening))
    is
live-after volatile_states now facts (kinds.Replication happening) may is =
    stays volatile_states facts.servers _
    (λ m. live-kept facts.servers _ m
    (replicated-kept (λ s. live s.state) (λ s t state log. ap live state) facts.servers happening))
    is
live-after volatile_states now facts (kinds.Watchdog (watchdogs.Reset member)) may is =
    live-ended volatile_states facts.servers member.id.number crashed (λ s. live-crashed s.state) is
live-after volatile_states now facts (kinds.Watchdog _) may is = is
live-after volatile_states now facts _ may is = is
