-- Events that change nothing of what the law reads keep it.
use Rattle.std.proofs.Common.{ℕ, ◌≡◌, ◌++◌, Bool, true, false, List, [], ◌∷◌, map, slice_get, Option, Some, None, option_map, refl, ◌∙◌, ap, sym}
use Rattle.std.proofs.lemmas.Option.{slice_get-map}
use Rattle.pat_base.specs.Changes.{with_changed}
use Rattle.pat_base.specs.ServerState.{live}
use Rattle.pg_model.specs.Facts.{ServerFacts}
use Rattle.event_book.specs.declared.event.AgentEvent.TheVariants as agents
use Rattle.event_book.specs.declared.event.Event.{Event}
use Rattle.event_book.specs.declared.event.EventKind.{EventKind}
use Rattle.event_book.specs.declared.event.EventKind.TheVariants as kinds
use Rattle.event_book.specs.declared.event.ServerEvent.{ServerEvent}
use Rattle.event_book.specs.declared.event.ServerEvent.TheVariants as servers
use Rattle.event_book.specs.declared.event.StoreEvent.TheVariants as stores
use Rattle.event_book.specs.Servers.{servers_by}
use Rattle.event_book.proofs.Parts.{logged-kept, replicated-kept}
use Rattle.cluster_model.specs.Cluster.{cluster_after}
use Rattle.script_model.specs.Script.{HeadText}
use Rattle.cluster_model.specs.Parts.{event_of, events_of}
use Rattle.cluster_model.specs.State.{Cluster}
use Rattle.lease_model.specs.Actions.{Note}
use Rattle.lease_model.specs.Showing.{IsLocal}
use Rattle.cluster_model.proofs.Lists.{AllKinds}
use Rattle.lease_parts.specs.Asides.{IsAside, IsQuiet}
use Rattle.lease_parts.specs.Bridged.{Bridged}
use Rattle.lease_parts.specs.Kept.{IsKept}
use Rattle.lease_parts.specs.Machines.{live_in, live_now, run_now}
use Rattle.lease_parts.specs.Volatile.{machine_in}
use Rattle.lease_parts.proofs.Actions.{local-kept}
use Rattle.lease_parts.proofs.Composing.{kept-none, kept-then}
use Rattle.lease_parts.proofs.Machines.{seen-kept, suspended-run}
use Rattle.lease_parts.proofs.SameMachine.{machine-same}

-- whether a server is live, by what a list says of it
abbrev said : Option Bool → Bool
said None = false
said (Some is) = is

live-said : (found : Option ServerFacts) → live_now found ≡ said (option_map (λ s. live s.state) found)
live-said None = refl
live-said (Some s) = refl

live-at : (known : List ServerFacts) (m : ℕ) → live_in known m ≡ said (slice_get (map (λ s. live s.state) known) m)
live-at known m = live-said (slice_get known m) ∙ ap said (sym (slice_get-map (λ s. live s.state) known m))

-- who is live stays so where all states do
pub live-kept : (before known : List ServerFacts) (m : ℕ)
    → map (λ s. live s.state) known ≡ map (λ s. live s.state) before → live_in known m ≡ live_in before m
live-kept before known m same = live-at known m ∙ ap (λ xs. said (slice_get xs m)) same ∙ sym (live-at before m)

live-mapped : (change : ServerFacts → ServerFacts) → ((s : ServerFacts) → live (change s).state ≡ live s.state)
    → (found : Option ServerFacts) → live_now (option_map change found) ≡ live_now found
live-mapped change same None = refl
live-mapped change same (Some s) = same s

-- and where the one that changes does
pub live-one : (known : List ServerFacts) (k m : ℕ) (change : ServerFacts → ServerFacts)
    → ((s : ServerFacts) → live (change s).state ≡ live s.state)
    → live_in (with_changed known k change) m ≡ live_in known m
live-one known k m change same = seen-kept live_now known k m change (live-mapped change same)

quiet-server : (now : ℕ) (known : List ServerFacts) (happening : ServerEvent) (m : ℕ)
    → IsQuiet (kinds.Server happening) → live_in (servers_by now known happening) m ≡ live_in known m
quiet-server now known (servers.Follows server upstream) m is = live-one known server.id.number m _ (λ s. refl)
quiet-server now known (servers.Diverged server upstream at) m is = live-one known server.id.number m _ (λ s. refl)
quiet-server now known (servers.Slowed server stop start) m is = live-one known server.id.number m _ (λ s. refl)
quiet-server now known (servers.Frozen server) m is = refl
quiet-server now known (servers.Thawed server) m is = refl
quiet-server now known _ m is = absurd is

pub quiet-machine : (cluster : Cluster) (kind : EventKind) → IsQuiet kind → (m : ℕ)
    → machine_in (cluster_after cluster kind) m ≡ machine_in cluster m
quiet-machine cluster (kinds.Store happening) is m = refl
quiet-machine cluster (kinds.Server happening) is m = machine-same _ _ _ _ _ _ _ _ _ _ _ _
    (quiet-server cluster.facts.clock cluster.facts.servers happening m is) refl refl refl refl refl
quiet-machine cluster (kinds.Log happening) is m =
    machine-same _ _ _ _ _ _ _ _ _ _ _ _
    (live-kept cluster.facts.servers _ m
    (logged-kept (λ s. live s.state)
    (λ s t live writes required confirmed. live) cluster.facts.servers cluster.facts.remote happening))
    refl refl refl refl refl
quiet-machine cluster (kinds.Replication happening) is m =
    machine-same _ _ _ _ _ _ _ _ _ _ _ _
    (live-kept cluster.facts.servers _ m
    (replicated-kept (λ s. live s.state) (λ s t state log. ap live state) cluster.facts.servers happening))
    refl refl refl refl refl
quiet-machine cluster (kinds.Agent (agents.Suspended agent)) is m = machine-same _ _ _ _ _ _ _ _ _ _ _ _ refl
    refl refl refl refl (seen-kept run_now cluster.facts.processes agent.id.number m _ (suspended-run true))
quiet-machine cluster (kinds.Agent (agents.Resumed agent)) is m = machine-same _ _ _ _ _ _ _ _ _ _ _ _ refl
    refl refl refl refl (seen-kept run_now cluster.facts.processes agent.id.number m _ (suspended-run false))
quiet-machine cluster (kinds.Agent (agents.Passed agent)) is m = refl
quiet-machine cluster (kinds.Link happening) is m = refl
quiet-machine cluster (kinds.Note note) is m = refl
quiet-machine cluster _ is m = absurd is

pub quiet-aside : (kind : EventKind) → IsQuiet kind → IsAside kind
quiet-aside (kinds.Store (stores.Granted number by txn standbys)) is = absurd is
quiet-aside (kinds.Store (stores.Refused number by request key found)) is = tt
quiet-aside (kinds.Store (stores.LeaderExpired holder)) is = tt
quiet-aside (kinds.Store (stores.Expired key)) is = tt
quiet-aside (kinds.Server (servers.Follows server upstream)) is = tt
quiet-aside (kinds.Server (servers.Diverged server upstream at)) is = tt
quiet-aside (kinds.Server (servers.Frozen server)) is = tt
quiet-aside (kinds.Server (servers.Thawed server)) is = tt
quiet-aside (kinds.Server (servers.Slowed server stop start)) is = tt
quiet-aside (kinds.Log happening) is = tt
quiet-aside (kinds.Replication happening) is = tt
quiet-aside (kinds.Agent (agents.Suspended agent)) is = tt
quiet-aside (kinds.Agent (agents.Resumed agent)) is = tt
quiet-aside (kinds.Agent (agents.Passed agent)) is = tt
quiet-aside (kinds.Link happening) is = tt
quiet-aside (kinds.Note note) is = tt
quiet-aside _ is = absurd is

pub quiet-local : (kind : EventKind) → IsQuiet kind → IsLocal kind
quiet-local (kinds.Store (stores.Granted number by txn standbys)) is = absurd is
quiet-local kinds.Tick is = absurd is
quiet-local (kinds.Message happening) is = absurd is
quiet-local (kinds.Watchdog happening) is = absurd is
quiet-local _ is = tt

-- one such event, as it happens
pub kept-quiet : (head : HeadText) (book : List Event) (cluster : Cluster) (kind : EventKind) → IsQuiet kind
    → Bridged head book cluster → IsKept head book cluster (event_of cluster kind)
kept-quiet head book cluster kind is good =
    local-kept head book cluster (event_of cluster kind) Note good tt (quiet-aside kind is, tt)
    (quiet-local kind is, tt) (quiet-machine cluster kind is)

-- such events, one after another
pub kept-quietly : (head : HeadText) (kinds : List EventKind) → AllKinds IsQuiet kinds → (book : List Event)
    (cluster : Cluster) → Bridged head book cluster → IsKept head book cluster (events_of cluster kinds)
kept-quietly head [] all book cluster good = kept-none head book cluster good
kept-quietly head (kind ∷ more) all book cluster good =
    kept-then head book cluster (event_of cluster kind) (events_of (cluster_after cluster kind) more)
    (kept-quiet head book cluster kind all.0 good)
    (λ later. kept-quietly head more all.1 (book ++ event_of cluster kind) (cluster_after cluster kind) later)
