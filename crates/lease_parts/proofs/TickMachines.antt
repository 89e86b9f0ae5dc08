-- What a tick makes of machines: those whose watchdogs are due are reset,
-- servers end whose stops are complete, and servers begin that were live before.
use Rattle.std.proofs.Common.{ℕ, ◌≡◌, ◌≢◌, ◌<◌, ◌+◌, ◌==◌, ◌&&◌, ◌||◌, nat_le, Bool, true, false, cond, List, [], ◌∷◌, length, slice_get, Option, Some, None, option_and_then, option_map, refl, ◌∙◌, ap, sym, subst}
use Rattle.pat_base.specs.declared.server_state.State.{State}
use Rattle.pat_base.specs.declared.server_state.State.TheVariants as states
use Rattle.pat_base.specs.declared.ticks.Ticks.{Ticks}
use Rattle.pat_base.specs.ServerState.{live}
use Rattle.pg_model.specs.Facts.{ServerFacts, entries_of}
use Rattle.pg_model.specs.Running.{completed, started, stopped, ticked_unless_live}
use Rattle.event_book.specs.declared.event.EventKind.{EventKind}
use Rattle.event_book.specs.declared.event.EventKind.TheVariants as kinds
use Rattle.event_book.specs.declared.event.ServerEvent.TheVariants as servers
use Rattle.event_book.specs.declared.event.WatchdogEvent.TheVariants as watchdogs
use Rattle.event_book.specs.declared.member.Member.{Member}
use Rattle.event_book.specs.Members.{server_of}
use Rattle.event_book.proofs.Changed.{kept-each, same-if}
use Rattle.cluster_model.specs.Cluster.{cluster_after, cluster_over}
use Rattle.cluster_model.specs.declared.beginning.Completion.TheVariants as completions
use Rattle.cluster_model.specs.Beginnings.{completed_by, completion_in, completion_kinds}
use Rattle.cluster_model.specs.Commands.{kinds_of}
use Rattle.cluster_model.specs.Losing.{loss_if}
use Rattle.wal_model.specs.Lacking.{lacks_in}
use Rattle.event_book.specs.Servers.{begun_in}
use Rattle.event_book.specs.declared.event.ReplicationEvent.TheVariants as replications
use Rattle.cluster_model.specs.Parts.{each, events_of, for_some}
use Rattle.cluster_model.specs.State.{Cluster}
use Rattle.cluster_model.specs.Ticking.{completion_events, reset_events, reset_of}
use Rattle.lease_model.specs.States.{Machine, is_due, tick_machine}
use Rattle.lease_model.proofs.Tools.{eq-from, ne-from}
use Rattle.cluster_model.proofs.Lists.{AllKinds}
use Rattle.lease_parts.specs.Asides.{IsQuiet}
use Rattle.lease_parts.specs.Machines.{deadline_in, deadline_now, live_now, run_now}
use Rattle.run_promise.specs.Members.{is_listed}
use Rattle.lease_parts.specs.Volatile.{agent_now, machine_in}
use Rattle.run_promise.proofs.Upholding.{Each, over-append}
use Rattle.lease_parts.proofs.Ending.{agent-without, crashed-now}
use Rattle.lease_parts.proofs.Machines.{ended-run, no-deadline, seen-kept}
use Rattle.lease_parts.proofs.SameMachine.{machine-same}
use Rattle.cluster_model.proofs.Places.{get-here, get-elsewhere, length-changed}
use Rattle.lease_parts.proofs.Quiet.{live-kept, quiet-machine}

-- ---- the clock grows
ticked-live : (now : Ticks) (state : State) (s : ServerFacts) → s.state ≡ state
    → live (cond (live state) s (completed now state s)).state ≡ live s.state
ticked-live now (states.Starting true at) s is = refl
ticked-live now (states.Starting false at) s is =
    same-if (λ s. live s.state) (nat_le at.0 now.0) (started false s) s (live s.state) (sym (ap live is)) refl
ticked-live now (states.Stopping true at) s is = refl
ticked-live now (states.Stopping false at) s is =
    same-if (λ s. live s.state) (nat_le at.0 now.0) (stopped s) s (live s.state) (sym (ap live is)) refl
ticked-live now _ s is = refl

pub ticked-machine : (cluster : Cluster) (m : ℕ)
    → machine_in (cluster_after cluster kinds.Tick) m ≡ machine_in cluster m
ticked-machine cluster m =
    let now : Ticks = record { 0 = cluster.facts.clock + 1 } in
    machine-same _ _ _ _ _ _ _ _ _ _ _ _
    (live-kept cluster.facts.servers _ m
    (kept-each (λ s. live s.state) (ticked_unless_live now)
    (λ s. ticked-live now s.state s refl) cluster.facts.servers))
    refl refl refl refl refl

-- ---- machines are reset
reset-found : (now : ℕ) (x : Member) (found : Option (Option Ticks))
    → option_and_then (reset_of now x) found
    ≡ cond (is_due now (deadline_now found)) (Some (kinds.Watchdog (watchdogs.Reset x))) None
reset-found now x None = refl
reset-found now x (Some None) = refl
reset-found now x (Some (Some deadline)) = refl

-- the cluster behind the reset of this member's machine, if it is due
abbrev after-reset : Cluster → Member → Bool → Cluster
after-reset cluster x due =
    cluster_over cluster (events_of cluster (kinds_of (cond due (Some (kinds.Watchdog (watchdogs.Reset x))) None)))

reset-machine : (cluster : Cluster) (x : Member) → x.id.number < length cluster.agents
    → machine_in (after-reset cluster x true) x.id.number ≡ tick_machine true false (machine_in cluster x.id.number)
reset-machine cluster x small =
    let k : ℕ = x.id.number in
    machine-same _ _ _ _ _ _ _ _ _ _ _ _
    (ap live_now (get-here cluster.facts.servers k _) ∙ crashed-now (slice_get cluster.facts.servers k))
    (ap deadline_now (get-here cluster.facts.deadlines k _) ∙ no-deadline (slice_get cluster.facts.deadlines k))
    refl refl
    (ap agent_now (get-here cluster.agents k _) ∙ agent-without cluster.agents k small)
    (seen-kept run_now cluster.facts.processes k k _ ended-run)

reset-elsewhere : (cluster : Cluster) (x : Member) (m : ℕ) → m ≢ x.id.number
    → machine_in (after-reset cluster x true) m ≡ machine_in cluster m
reset-elsewhere cluster x m other =
    let k : ℕ = x.id.number in
    machine-same _ _ _ _ _ _ _ _ _ _ _ _
    (ap live_now (get-elsewhere cluster.facts.servers k m _ other))
    (ap deadline_now (get-elsewhere cluster.facts.deadlines k m _ other)) refl refl
    (ap agent_now (get-elsewhere cluster.agents k m _ other))
    (seen-kept run_now cluster.facts.processes k m _ ended-run)

-- whether the watchdog of a machine is due
abbrev due_seen : Cluster → ℕ → Bool
due_seen cluster m = is_due cluster.facts.clock (deadline_in cluster.facts.deadlines m)

reset-at : (cluster : Cluster) (x : Member) (m : ℕ) (due same : Bool) → x.id.number < length cluster.agents
    → due_seen cluster x.id.number ≡ due → (m == x.id.number) ≡ same
    → machine_in (after-reset cluster x due) m ≡ tick_machine (same && due_seen cluster m) false (machine_in cluster m)
reset-at cluster x m true true small is e =
    subst (λ (n : ℕ).
    machine_in (after-reset cluster x true) n ≡ tick_machine (due_seen cluster n) false (machine_in cluster n))
    (sym (eq-from m x.id.number e))
    (reset-machine cluster x small ∙ ap (λ b. tick_machine b false (machine_in cluster x.id.number)) (sym is))
reset-at cluster x m true false small is e = reset-elsewhere cluster x m (ne-from m x.id.number e)
reset-at cluster x m false true small is e =
    ap (λ b. tick_machine b false (machine_in cluster m))
    (sym (ap (λ (n : ℕ). due_seen cluster n) (eq-from m x.id.number e) ∙ is))
reset-at cluster x m false false small is e = refl

reset-one : (cluster : Cluster) (x : Member) (m : ℕ) → x.id.number < length cluster.agents
    → machine_in (cluster_over cluster (reset_events cluster x)) m
    ≡ tick_machine ((m == x.id.number) && due_seen cluster m) false (machine_in cluster m)
reset-one cluster x m small =
    ap (λ (o : Option EventKind). machine_in (cluster_over cluster (events_of cluster (kinds_of o))) m)
    (reset-found cluster.facts.clock x (slice_get cluster.facts.deadlines x.id.number))
    ∙ reset-at cluster x m (due_seen cluster x.id.number) (m == x.id.number) small refl refl

-- what a reset leaves of the clock and of how many agents there are
record SameMoment (before after : Cluster) : Type 0 where
  clock : after.facts.clock ≡ before.facts.clock
  count : length after.agents ≡ length before.agents

reset-moment : (cluster : Cluster) (x : Member) (found : Option (Option Ticks)) (now : ℕ)
    → SameMoment cluster (cluster_over cluster (events_of cluster (kinds_of (option_and_then (reset_of now x) found))))
reset-moment cluster x found now =
    subst (λ (o : Option EventKind). SameMoment cluster (cluster_over cluster (events_of cluster (kinds_of o))))
    (sym (reset-found now x found)) (reset-moment-by (is_due now (deadline_now found)))
  where
    reset-moment-by : (due : Bool) → SameMoment cluster (after-reset cluster x due)
    reset-moment-by true = record { clock = refl; count = length-changed cluster.agents x.id.number _ }
    reset-moment-by false = record { clock = refl; count = refl }

-- reset once is reset
twice-reset : (now : ℕ) (machine : Machine) (same more due : Bool) → is_due now machine.deadline ≡ due
    → tick_machine (more && is_due now (tick_machine (same && due) false machine).deadline) false
    (tick_machine (same && due) false machine)
    ≡ tick_machine ((same || more) && due) false machine
twice-reset now machine false more due is = ap (λ b. tick_machine (more && b) false machine) is
twice-reset now machine true false true is = refl
twice-reset now machine true true true is = refl
twice-reset now machine true false false is = refl
twice-reset now machine true true false is = ap (λ b. tick_machine b false machine) is

pub resets : (xs : List Member) (cluster : Cluster)
    → Each (λ (x : Member). x.id.number < length cluster.agents) xs → (m : ℕ)
    → machine_in (cluster_over cluster (each reset_events cluster xs)) m
    ≡ tick_machine (is_listed m xs && due_seen cluster m) false (machine_in cluster m)
resets [] cluster small m = refl
resets (x ∷ xs) cluster small m =
    let later : Cluster = cluster_over cluster (reset_events cluster x) in
    let moment = reset-moment cluster x (slice_get cluster.facts.deadlines x.id.number) cluster.facts.clock in
    let one = reset-one cluster x m small.0 in
    ap (λ (c : Cluster). machine_in c m) (over-append cluster (reset_events cluster x) (each reset_events later xs))
    ∙ resets xs later (still xs small.1 (length later.agents) moment.count) m
    ∙ ap (λ (now : ℕ).
    tick_machine (is_listed m xs && is_due now (machine_in later m).deadline) false (machine_in later m))
    moment.clock
    ∙ ap (λ (machine : Machine).
    tick_machine (is_listed m xs && is_due cluster.facts.clock machine.deadline) false machine)
    one
    ∙ twice-reset cluster.facts.clock (machine_in cluster m) (m == x.id.number) (is_listed m xs)
    (due_seen cluster m) refl
  where
    still : (xs : List Member) → Each (λ (x : Member). x.id.number < length cluster.agents) xs → (count : ℕ)
        → count ≡ length cluster.agents → Each (λ (x : Member). x.id.number < count) xs
    still xs small count same = subst (λ (n : ℕ). Each (λ (x : Member). x.id.number < n) xs) (sym same) small

-- ---- what expires
pub quiet-machines : (kinds : List EventKind) → AllKinds IsQuiet kinds → (cluster : Cluster) (m : ℕ)
    → machine_in (cluster_over cluster (events_of cluster kinds)) m ≡ machine_in cluster m
quiet-machines [] all cluster m = refl
quiet-machines (kind ∷ more) all cluster m =
    quiet-machines more all.1 (cluster_after cluster kind) m ∙ quiet-machine cluster kind all.0 m

-- ---- servers end
-- a stop of a primary is complete
abbrev stops_by : ℕ → State → Bool
stops_by now (states.Stopping true at) = nat_le at.0 now
stops_by now _ = false

-- so it is with the server that is there
abbrev pub stops_now : ℕ → Option ServerFacts → Bool
stops_now now None = false
stops_now now (Some s) = stops_by now s.state

-- and with that of this number
abbrev pub stops_seen : Cluster → ℕ → Bool
stops_seen cluster m = stops_now cluster.facts.clock (slice_get cluster.facts.servers m)

-- the cluster behind the end of this member's server, if its stop is complete
abbrev after-end : Cluster → Member → Bool → Cluster
after-end cluster x ends = cluster_over cluster
    (events_of cluster (kinds_of (cond ends (Some (kinds.Server (servers.Ended (server_of x)))) None)))

stopped-now : (found : Option ServerFacts) → live_now (option_map stopped found) ≡ false
stopped-now None = refl
stopped-now (Some s) = refl

stopped-stops : (now : ℕ) (found : Option ServerFacts) → stops_now now (option_map stopped found) ≡ false
stopped-stops now None = refl
stopped-stops now (Some s) = refl

-- what a server that begins or ends leaves of one machine, and of whether its stop is complete
pub record EndsAs (cluster later : Cluster) (m : ℕ) (same : Bool) : Type 0 where
  pub machine : machine_in later m ≡ tick_machine false (same && stops_seen cluster m) (machine_in cluster m)
  pub stops : stops_seen later m ≡ cond (same && stops_seen cluster m) false (stops_seen cluster m)

end-at : (cluster : Cluster) (x : Member) (m : ℕ) (ends same : Bool) → stops_seen cluster x.id.number ≡ ends
    → (m == x.id.number) ≡ same → EndsAs cluster (after-end cluster x ends) m same
end-at cluster x m true true is e =
    let k : ℕ = x.id.number in
    subst (λ (n : ℕ). EndsAs cluster (after-end cluster x true) n true) (sym (eq-from m k e)) (record {
      machine = machine-same _ _ _ _ _ _ _ _ _ _ _ _
          (ap live_now (get-here cluster.facts.servers k _) ∙ stopped-now (slice_get cluster.facts.servers k))
          refl refl refl refl refl
          ∙ ap (λ b. tick_machine false b (machine_in cluster k)) (sym is);
      stops = ap (stops_now cluster.facts.clock) (get-here cluster.facts.servers k _)
          ∙ stopped-stops cluster.facts.clock (slice_get cluster.facts.servers k)
          ∙ ap (λ b. cond b false (stops_seen cluster k)) (sym is);
    })
end-at cluster x m true false is e =
    let k : ℕ = x.id.number in
    let other : m ≢ k = ne-from m k e in
    record {
      machine = machine-same _ _ _ _ _ _ _ _ _ _ _ _
          (ap live_now (get-elsewhere cluster.facts.servers k m _ other)) refl refl refl refl refl;
      stops = ap (stops_now cluster.facts.clock) (get-elsewhere cluster.facts.servers k m _ other);
    }
end-at cluster x m false true is e =
    let none : stops_seen cluster m ≡ false = ap (λ (n : ℕ). stops_seen cluster n) (eq-from m x.id.number e) ∙ is in
    record {
      machine = ap (λ b. tick_machine false b (machine_in cluster m)) (sym none);
      stops = none ∙ sym (ap (λ b. cond b false b) none);
    }
end-at cluster x m false false is e = record { machine = refl; stops = refl }

-- a server that begins was live, and its stop isn't complete
begun-live : (state : State) (s : ServerFacts) → live (begun_in state s).state ≡ true
begun-live states.Replica s = refl
begun-live _ s = refl

begun-stops : (now : ℕ) (state : State) (s : ServerFacts) → stops_by now (begun_in state s).state ≡ false
begun-stops now states.Replica s = refl
begun-stops now _ s = refl

-- the cluster behind the beginning of this member's server
abbrev after-begin : Cluster → Member → ℕ → Bool → Cluster
after-begin cluster x timeline lacks = cluster_over cluster
    (events_of cluster (kinds.Server (servers.Began (server_of x) timeline) ∷ kinds_of (loss_if x lacks)))

lacking-leaves : (cluster : Cluster) (x : Member) (m : ℕ) (same lacks : Bool) (before : Cluster)
    → EndsAs before cluster m same
    → EndsAs before (cluster_over cluster (events_of cluster (kinds_of (loss_if x lacks)))) m same
lacking-leaves cluster x m same true before ends = record {
  machine = quiet-machine cluster (kinds.Replication (replications.Lacks (server_of x))) tt m ∙ ends.machine;
  stops = ends.stops;
}
lacking-leaves cluster x m same false before ends = ends

begin-at : (cluster : Cluster) (x : Member) (m timeline : ℕ) (lacks same : Bool) (s : ServerFacts)
    → slice_get cluster.facts.servers x.id.number ≡ Some s → live s.state ≡ true
    → stops_by cluster.facts.clock s.state ≡ false → (m == x.id.number) ≡ same
    → EndsAs cluster (after-begin cluster x timeline lacks) m same
begin-at cluster x m timeline lacks true s is lives none e =
    let k : ℕ = x.id.number in
    let stays : stops_seen cluster k ≡ false = ap (stops_now cluster.facts.clock) is ∙ none in
    lacking-leaves (cluster_after cluster (kinds.Server (servers.Began (server_of x) timeline))) x m true lacks cluster
    (subst (λ (n : ℕ).
    EndsAs cluster (cluster_after cluster (kinds.Server (servers.Began (server_of x) timeline))) n true)
    (sym (eq-from m k e)) (record {
      machine = machine-same _ _ _ _ _ _ _ _ _ _ _ _
          (ap live_now (get-here cluster.facts.servers k _)
          ∙ ap (λ (found : Option ServerFacts). live_now (option_map (λ s. begun_in s.state s) found)) is
          ∙ begun-live s.state s ∙ sym (ap live_now is ∙ lives))
          refl refl refl refl refl
          ∙ ap (λ b. tick_machine false b (machine_in cluster k)) (sym stays);
      stops = ap (stops_now cluster.facts.clock) (get-here cluster.facts.servers k _)
          ∙ ap (λ (found : Option ServerFacts).
          stops_now cluster.facts.clock (option_map (λ s. begun_in s.state s) found))
          is
          ∙ begun-stops cluster.facts.clock s.state s ∙ sym (ap (λ b. cond b false b) stays);
    }))
begin-at cluster x m timeline lacks false s is lives none e =
    let k : ℕ = x.id.number in
    let other : m ≢ k = ne-from m k e in
    lacking-leaves (cluster_after cluster (kinds.Server (servers.Began (server_of x) timeline))) x m false lacks cluster
    (record {
      machine = machine-same _ _ _ _ _ _ _ _ _ _ _ _
          (ap live_now (get-elsewhere cluster.facts.servers k m _ other)) refl refl refl refl refl;
      stops = ap (stops_now cluster.facts.clock) (get-elsewhere cluster.facts.servers k m _ other);
    })

-- nothing is complete at this server
still-at : (cluster : Cluster) (x : Member) (m : ℕ) (found : Option ServerFacts)
    → slice_get cluster.facts.servers x.id.number ≡ found → stops_now cluster.facts.clock found ≡ false
    → EndsAs cluster cluster m (m == x.id.number)
still-at cluster x m found is none =
    end-at cluster x m false (m == x.id.number) (ap (stops_now cluster.facts.clock) is ∙ none) refl

begin-if : (cluster : Cluster) (x : Member) (m : ℕ) (due : Bool) (s : ServerFacts)
    → slice_get cluster.facts.servers x.id.number ≡ Some s → live s.state ≡ true
    → stops_by cluster.facts.clock s.state ≡ false
    → EndsAs cluster
    (cluster_over cluster
    (events_of cluster
    (completed_by x cluster.facts.acknowledged s.log (cond due (Some (completions.Begins s.timeline)) None))))
    m (m == x.id.number)
begin-if cluster x m true s is lives none = begin-at cluster x m s.timeline
    (lacks_in (entries_of s.log) cluster.facts.acknowledged) (m == x.id.number) s is lives none refl
begin-if cluster x m false s is lives none = still-at cluster x m (Some s) is none

end-if : (cluster : Cluster) (x : Member) (m : ℕ) (due : Bool) (s : ServerFacts)
    → slice_get cluster.facts.servers x.id.number ≡ Some s → stops_by cluster.facts.clock s.state ≡ due
    → EndsAs cluster
    (cluster_over cluster
    (events_of cluster (completed_by x cluster.facts.acknowledged s.log (cond due (Some completions.Ends) None))))
    m (m == x.id.number)
end-if cluster x m true s is due =
    end-at cluster x m true (m == x.id.number) (ap (stops_now cluster.facts.clock) is ∙ due) refl
end-if cluster x m false s is due = still-at cluster x m (Some s) is due

complete-by : (cluster : Cluster) (x : Member) (m : ℕ) (s : ServerFacts) (state : State)
    → slice_get cluster.facts.servers x.id.number ≡ Some s → s.state ≡ state
    → EndsAs cluster
    (cluster_over cluster
    (events_of cluster
    (completed_by x cluster.facts.acknowledged s.log (completion_in cluster.facts.clock s.timeline state))))
    m (m == x.id.number)
complete-by cluster x m s (states.Starting true at) is here =
    begin-if cluster x m (nat_le at.0 cluster.facts.clock) s is (ap live here) (ap (stops_by cluster.facts.clock) here)
complete-by cluster x m s (states.Starting false at) is here =
    still-at cluster x m (Some s) is (ap (stops_by cluster.facts.clock) here)
complete-by cluster x m s (states.Stopping true at) is here =
    end-if cluster x m (nat_le at.0 cluster.facts.clock) s is (ap (stops_by cluster.facts.clock) here)
complete-by cluster x m s (states.Stopping false at) is here =
    still-at cluster x m (Some s) is (ap (stops_by cluster.facts.clock) here)
complete-by cluster x m s _ is here = still-at cluster x m (Some s) is (ap (stops_by cluster.facts.clock) here)

complete-at : (cluster : Cluster) (x : Member) (m : ℕ) (found : Option ServerFacts)
    → slice_get cluster.facts.servers x.id.number ≡ found
    → EndsAs cluster
    (cluster_over cluster
    (for_some found (λ s. events_of cluster (completion_kinds cluster.facts.clock x cluster.facts.acknowledged s))))
    m (m == x.id.number)
complete-at cluster x m None is = still-at cluster x m None is refl
complete-at cluster x m (Some s) is = complete-by cluster x m s s.state is refl

pub end-one : (cluster : Cluster) (x : Member) (m : ℕ)
    → EndsAs cluster (cluster_over cluster (completion_events cluster x)) m (m == x.id.number)
end-one cluster x m = complete-at cluster x m (slice_get cluster.facts.servers x.id.number) refl

twice-ended : (machine : Machine) (same more ends : Bool)
    → tick_machine false (more && cond (same && ends) false ends) (tick_machine false (same && ends) machine)
    ≡ tick_machine false ((same || more) && ends) machine
twice-ended machine false more ends = refl
twice-ended machine true false true = refl
twice-ended machine true true true = refl
twice-ended machine true false false = refl
twice-ended machine true true false = refl

pub ends : (xs : List Member) (cluster : Cluster) (m : ℕ)
    → machine_in (cluster_over cluster (each completion_events cluster xs)) m
    ≡ tick_machine false (is_listed m xs && stops_seen cluster m) (machine_in cluster m)
ends [] cluster m = refl
ends (x ∷ xs) cluster m =
    let later : Cluster = cluster_over cluster (completion_events cluster x) in
    let one = end-one cluster x m in
    ap (λ (c : Cluster). machine_in c m)
    (over-append cluster (completion_events cluster x) (each completion_events later xs))
    ∙ ends xs later m
    ∙ ap (λ b. tick_machine false (is_listed m xs && b) (machine_in later m)) one.stops
    ∙ ap (λ (machine : Machine). tick_machine false
    (is_listed m xs && cond ((m == x.id.number) && stops_seen cluster m) false (stops_seen cluster m)) machine)
    one.machine
    ∙ twice-ended (machine_in cluster m) (m == x.id.number) (is_listed m xs) (stops_seen cluster m)
