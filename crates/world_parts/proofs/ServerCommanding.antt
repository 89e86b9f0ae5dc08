-- What commands do at servers.
use Rattle.std.proofs.Common.{◌≡◌, ◌≢◌, ℕ, ◌+◌, ◌^◌, ◌<◌, ◌&&◌, nat_le, Bool, true, false, List, Option, Some, None, arith, refl, ◌∙◌, ap, sym, subst}
use Rattle.std.specs.Prelude.{slice_get, slice_set, if◌then◌else◌, IfSome}
use Rattle.std.proofs.lemmas.List.{set-get_or}
use Rattle.std.proofs.lemmas.Option.{get_or_from_slice_get, none-some, same_Some}
use Rattle.pat_base.specs.declared.server_state.State.{State}
use Rattle.pat_base.specs.declared.server_state.State.TheVariants as states
use Rattle.pat_base.specs.declared.ticks.Ticks.{Ticks}
use Rattle.pat_base.specs.Changes.{changed_at, with_changed}
use Rattle.pat_base.specs.ServerState.{writes}
use Rattle.wal_model.specs.declared.entry.Entry.{Entry}
use Rattle.wal_model.specs.Log.{end_of}
use Rattle.pg_model.specs.Facts.{ServerFacts, entries_of, is_down}
use Rattle.pg_model.specs.Replication.{entry_of}
use Rattle.pg_model.specs.Running.{primary_started, stopping}
use Rattle.pg_cluster.specs.Servers.{entry_at, entry_for}
use Rattle.event_book.specs.declared.member.Member.{Member}
use Rattle.event_book.specs.Servers.{replica_starts_in, starts_as_primary, starts_as_replica, starts_slowly, stops, stops_quietly}
use Rattle.cluster_model.specs.State.{Cluster}
use Rattle.world_model.specs.Comes.{MayCome}
use Rattle.world_model.specs.Room.{HasRoom}
use Rattle.cluster_model.specs.ServerCommands.{commit_of}
use Rattle.world_model.proofs.ServerRooms.{All-at}

-- an entry is that of a commit with this number and of so many bytes
pub record IsEntry (serial bytes : ℕ) (entry : Entry) : Type 0 where
  pub serial_is : entry.serial ≡ serial
  pub bytes_are : entry.bytes ≡ bytes

entry-if : (accepts : Bool) (s : ServerFacts) (serial bytes : ℕ) (entry : Entry)
    → (if accepts then Some (entry_of s serial bytes) else None) ≡ Some entry → IsEntry serial bytes entry
entry-if true s serial bytes entry is = subst (λ (e : Entry). IsEntry serial bytes e)
    (same_Some (entry_of s serial bytes) entry is) (record { serial_is = refl; bytes_are = refl })
entry-if false s serial bytes entry is = absurd (none-some entry is)

entry-is : (found : Option ServerFacts) (serial bytes : ℕ) (entry : Entry)
    → entry_at found serial bytes ≡ Some entry → IsEntry serial bytes entry
entry-is None serial bytes entry is = absurd (none-some entry is)
entry-is (Some s) serial bytes entry is =
    entry-if (writes s.state && nat_le (end_of (entries_of s.log) + bytes) (2 ^ 63)) s serial bytes entry is

comes-if : (cluster : Cluster) (member : Member) (bytes : ℕ) (found : Option Entry)
    → entry_for cluster.facts.servers member.id.number (cluster.facts.commits + 1) bytes ≡ found
    → MayCome cluster (commit_of member found)
comes-if cluster member bytes None is = record { bare = tt; counts = tt; serves = tt }
comes-if cluster member bytes (Some entry) is =
    let entry_is =
    entry-is (slice_get cluster.facts.servers member.id.number) (cluster.facts.commits + 1) bytes entry is in
    let place = member.id.number in
    let same = ap (λ (n : ℕ). entry_for cluster.facts.servers place n entry.bytes) entry_is.serial_is
    ∙ ap (λ (n : ℕ). entry_for cluster.facts.servers place (cluster.facts.commits + 1) n) entry_is.bytes_are ∙ is in
    record { bare = tt; counts = omega (arith, entry_is.serial_is); serves = same }

-- a commit with the next number may be appended, or be refused
pub commit-comes : (cluster : Cluster) (member : Member) (bytes : ℕ)
    → MayCome cluster
    (commit_of member (entry_for cluster.facts.servers member.id.number (cluster.facts.commits + 1) bytes))
commit-comes cluster member bytes = comes-if cluster member bytes
    (entry_for cluster.facts.servers member.id.number (cluster.facts.commits + 1) bytes) refl

roomy-at : (known : List ServerFacts) (place : ℕ) (found : Option ServerFacts) → slice_get known place ≡ found
    → ((s : ServerFacts) → slice_get known place ≡ Some s → s.timeline + 2 < 2 ^ 60)
    → IfSome found (λ s. s.timeline < 2 ^ 60)
roomy-at known place None is room = tt
roomy-at known place (Some s) is room = omega (arith, room s is)

-- where there is room for two more events, the timeline of no server is at its end
pub timeline-below : (cluster : Cluster) (place : ℕ) → HasRoom cluster 2
    → IfSome (slice_get cluster.facts.servers place) (λ s. s.timeline < 2 ^ 60)
timeline-below cluster place room =
    roomy-at cluster.facts.servers place (slice_get cluster.facts.servers place) refl
    (λ s is. All-at ServerFacts (λ s. s.timeline + 2 < 2 ^ 60) cluster.facts.servers place s room.timelines is)

pub replica-if : (replica : Bool) (next timeline : ℕ) → (if replica then Some next else None) ≡ Some timeline
    → (replica ≡ true) × (next ≡ timeline)
replica-if true next timeline is = (refl, same_Some next timeline is)
replica-if false next timeline is = absurd (none-some timeline is)

set-got : (known : List ServerFacts) (place : ℕ) (s : ServerFacts) → slice_get known place ≡ Some s
    → slice_set known place s ≡ known
set-got known place s there =
    ap (λ (t : ServerFacts). slice_set known place t) (sym (get_or_from_slice_get known place s s there))
    ∙ set-get_or known place s

-- a server that is neither down nor a replica doesn't start as a replica
pub others-stay-at : (known : List ServerFacts) (place : ℕ) (now : Ticks) (s : ServerFacts)
    → slice_get known place ≡ Some s → s.state ≢ states.Stopped → s.state ≢ states.Crashed → s.state ≢ states.Replica
    → known ≡ with_changed known place (starts_as_replica now.0)
others-stay-at known place now s there not_stopped not_crashed not_replica =
    sym (ap (λ (o : Option ServerFacts). changed_at known place (starts_as_replica now.0) o) there
    ∙ ap (slice_set known place) (stays s.state not_stopped not_crashed not_replica) ∙ set-got known place s there)
  where
    stays : (state : State) → state ≢ states.Stopped → state ≢ states.Crashed → state ≢ states.Replica
        → replica_starts_in state now s ≡ s
    stays states.Stopped not_stopped not_crashed not_replica = absurd (not_stopped refl)
    stays states.Crashed not_stopped not_crashed not_replica = absurd (not_crashed refl)
    stays states.Replica not_stopped not_crashed not_replica = absurd (not_replica refl)
    stays _ not_stopped not_crashed not_replica = refl

-- one that is not down doesn't start as a primary, nor does one whose starts take no time, with an event of its own
pub no-primary-start : (known : List ServerFacts) (place now : ℕ) (s : ServerFacts) → slice_get known place ≡ Some s
    → is_down s.state && starts_slowly s ≡ false → known ≡ with_changed known place (starts_as_primary now)
no-primary-start known place now s there quick =
    sym (ap (λ (o : Option ServerFacts). changed_at known place (starts_as_primary now) o) there
    ∙ ap (λ (slow : Bool). slice_set known place (if slow then primary_started (record { 0 = now }) s else s)) quick
    ∙ set-got known place s there)

-- where there is room for one more event, the timeline of no server is at its end
pub timeline-under : (cluster : Cluster) (place : ℕ) → HasRoom cluster 1
    → IfSome (slice_get cluster.facts.servers place) (λ s. s.timeline < 2 ^ 60)
timeline-under cluster place room = roomy-under cluster.facts.servers place (slice_get cluster.facts.servers place) refl
    (λ s is. All-at ServerFacts (λ s. s.timeline + 1 < 2 ^ 60) cluster.facts.servers place s room.timelines is)
  where
    roomy-under : (known : List ServerFacts) (place : ℕ) (found : Option ServerFacts) → slice_get known place ≡ found
        → ((s : ServerFacts) → slice_get known place ≡ Some s → s.timeline + 1 < 2 ^ 60)
        → IfSome found (λ s. s.timeline < 2 ^ 60)
    roomy-under known place None is room = tt
    roomy-under known place (Some s) is room = omega (arith, room s is)

-- a server that doesn't stop quietly stays as it is where its shutdown is told
pub not-quiet : (known : List ServerFacts) (place now : ℕ) (s : ServerFacts) → slice_get known place ≡ Some s
    → stops_quietly s ≡ false → known ≡ with_changed known place (stops now)
not-quiet known place now s there loud =
    sym (ap (λ (o : Option ServerFacts). changed_at known place (stops now) o) there
    ∙ ap (λ (quiet : Bool). slice_set known place (if quiet then stopping (record { 0 = now }) s else s)) loud
    ∙ set-got known place s there)
