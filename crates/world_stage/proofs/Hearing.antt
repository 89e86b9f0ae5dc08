-- What an agent hears, and what becomes of it.
use Rattle.std.proofs.Common.{◌≡◌, ℕ, ◌^◌, ◌<◌, Bool, is_some, List, Option, Some, None, Vec, refl, ◌∙◌, ap, sym}
use Rattle.std.specs.Prelude.{IfSome, option_map, slice_get, slice_set}
use Rattle.std.proofs.lemmas.Bool.{false≢true}
use Rattle.std.proofs.lemmas.List.{set-get_or}
use Rattle.std.proofs.lemmas.Option.{get_or_from_slice_get}
use Rattle.pat_base.specs.declared.ticks.Ticks.{Ticks}
use Rattle.pat_base.specs.Changes.{changed_at, with_changed}
use Rattle.store_keys.specs.declared.key.Key.{Key}
use Rattle.store_keys.specs.declared.value.KeyEntry.{KeyEntry}
use Rattle.lease_store.specs.Copied.{items_if}
use Rattle.wal_model.specs.declared.entry.HistoryPoint.{HistoryPoint}
use Rattle.pg_model.specs.Facts.{ServerFacts}
use Rattle.pg_cluster.specs.Servers.{without_spare}
use Rattle.cluster_view.specs.Snapshots.{IsRead}
use Rattle.member_options.specs.declared.member_option.MemberOptions.{MemberOptions}
use Rattle.event_book.specs.declared.member.Member.{Member}
use Rattle.agent_model.specs.declared.heard.Heard.{Heard}
use Rattle.agent_model.specs.declared.machine.Machine.{Machine}
use Rattle.agent_model.specs.declared.machine.Replication.{Replication}
use Rattle.agent_model.specs.declared.output.Output.{Output}
use Rattle.agent_model.specs.Agents.{AgentFacts, Outcome}
use Rattle.cluster_model.specs.Cluster.{agent_after, agent_facts_with}
use Rattle.cluster_model.specs.Inputs.{agent_at, moment_of, outcome_at, outcome_of, outputs_of}
use Rattle.cluster_model.specs.FailsafeDeadlines.{is_set_by_failsafe}
use Rattle.cluster_model.specs.Machines.{machine_from, machine_of, points_of, replication_of}
use Rattle.cluster_model.specs.State.{Cluster}
use Rattle.cluster_model.specs.Streaming.{source_of}

set-got : (X : Type 0) (xs : List X) (place : ℕ) (x : X) → slice_get xs place ≡ Some x → slice_set xs place x ≡ xs
set-got X xs place x there =
    ap (λ (y : X). slice_set xs place y) (sym (get_or_from_slice_get xs place x x there)) ∙ set-get_or xs place x

unchanged : (X : Type 0) (xs : List X) (place : ℕ) (found : Option X) → slice_get xs place ≡ found
    → changed_at xs place (λ x. x) found ≡ xs
unchanged X xs place None is = refl
unchanged X xs place (Some x) is = set-got X xs place x is

abbrev pub with_agents : Cluster → List (Option AgentFacts) → Cluster
with_agents cluster agents = record cluster { agents = agents }

-- where nobody hears, all stay
pub unheard : (cluster : Cluster) (member : Member)
    → cluster ≡ record cluster { agents = agent_facts_with cluster.agents member None }
unheard cluster member = ap (with_agents cluster)
    (sym (unchanged (Option AgentFacts) cluster.agents member.id.number
    (slice_get cluster.agents member.id.number) refl))

no-outcome : (cluster : Cluster) (member : Member) (heard : Heard) (agent : Option AgentFacts)
    (machine : Option Machine) → machine ≡ None
    → outcome_at (moment_of cluster) (points_of cluster member) heard agent machine ≡ None
no-outcome cluster member heard None machine is = refl
no-outcome cluster member heard (Some agent) machine is =
    ap (outcome_at (moment_of cluster) (points_of cluster member) heard (Some agent)) is

-- without a machine nobody hears
pub no-machine : (cluster : Cluster) (member : Member) (heard : Heard) → machine_of cluster member ≡ None
    → outcome_of cluster member heard ≡ None
no-machine cluster member heard is =
    no-outcome cluster member heard (agent_at cluster.agents member.id.number) (machine_of cluster member) is

pub unheard-by : (cluster : Cluster) (member : Member) (heard : Heard) → machine_of cluster member ≡ None
    → cluster ≡ record cluster { agents = agent_facts_with cluster.agents member (outcome_of cluster member heard) }
unheard-by cluster member heard is = unheard cluster member
    ∙ ap (λ (o : Option Outcome). with_agents cluster (agent_facts_with cluster.agents member o))
    (sym (no-machine cluster member heard is))

heard-outcome : (cluster : Cluster) (member : Member) (heard : Heard) (points : List HistoryPoint) (machine : Machine)
    → points ≡ points_of cluster member → machine_of cluster member ≡ Some machine
    → outcome_at (moment_of cluster) points heard (agent_at cluster.agents member.id.number) (Some machine)
    ≡ outcome_of cluster member heard
heard-outcome cluster member heard points machine told is =
    ap (λ (ps : List HistoryPoint).
    outcome_at (moment_of cluster) ps heard (agent_at cluster.agents member.id.number) (Some machine))
    told
    ∙ ap (λ (m : Option Machine).
    outcome_at (moment_of cluster) (points_of cluster member) heard (agent_at cluster.agents member.id.number) m)
    (sym is)

-- the agent of a member has acted on what it heard
pub heard-state : (cluster : Cluster) (member : Member) (heard : Heard) (points : List HistoryPoint) (machine : Machine)
    (agents : List (Option AgentFacts)) → points ≡ points_of cluster member → machine_of cluster member ≡ Some machine
    → agents
    ≡ with_changed cluster.agents member.id.number
    (agent_after (outcome_at (moment_of cluster) points heard (agent_at cluster.agents member.id.number)
    (Some machine)))
    → ◌≡◌ {A = Cluster} (record cluster { agents = agents })
    (record cluster { agents = agent_facts_with cluster.agents member (outcome_of cluster member heard) })
heard-state cluster member heard points machine agents told is changed =
    ap (with_agents cluster)
    (changed ∙ ap (λ (o : Option Outcome). agent_facts_with cluster.agents member o)
    (heard-outcome cluster member heard points machine told is))

-- and that is what it did
pub heard-outputs : (cluster : Cluster) (member : Member) (heard : Heard) (points : List HistoryPoint)
    (machine : Machine) (outputs : List Output) → points ≡ points_of cluster member
    → machine_of cluster member ≡ Some machine
    → outputs
    ≡ outputs_of (outcome_at (moment_of cluster) points heard (agent_at cluster.agents member.id.number) (Some machine))
    → outputs ≡ outputs_of (outcome_of cluster member heard)
heard-outputs cluster member heard points machine outputs told is did =
    did ∙ ap outputs_of (heard-outcome cluster member heard points machine told is)

-- a machine is that of a member where each part of it is
pub machine-is : (cluster : Cluster) (member : Member) (result : Option Machine) (receives by_failsafe : Bool)
    (replication : Option Replication) (options : Option MemberOptions)
    (deadline hold : Option (Option Ticks)) (server : Option ServerFacts)
    → result ≡ machine_from receives by_failsafe replication options deadline hold server
    → receives ≡ is_some (source_of cluster.facts.members cluster.facts.servers cluster.facts.cuts member)
    → by_failsafe ≡ is_set_by_failsafe (slice_get cluster.failsafe_deadlines member.id.number)
    → replication
    ≡ option_map (replication_of cluster.facts.members cluster.facts.servers cluster.facts.cuts member)
    (slice_get cluster.facts.servers member.id.number)
    → options ≡ slice_get cluster.options member.id.number
    → deadline ≡ slice_get cluster.facts.deadlines member.id.number
    → hold ≡ slice_get cluster.facts.holds member.id.number
    → server ≡ slice_get cluster.facts.servers member.id.number → result ≡ machine_of cluster member
machine-is cluster member result receives by_failsafe replication options deadline hold server is from set told said due
    held there =
    let place = member.id.number in
    let source = is_some (source_of cluster.facts.members cluster.facts.servers cluster.facts.cuts member) in
    let known = option_map (replication_of cluster.facts.members cluster.facts.servers cluster.facts.cuts member)
    (slice_get cluster.facts.servers place) in
    let basis = is_set_by_failsafe (slice_get cluster.failsafe_deadlines place) in
    is ∙ ap (λ (r : Bool). machine_from r by_failsafe replication options deadline hold server) from
    ∙ ap (λ (b : Bool). machine_from source b replication options deadline hold server) set
    ∙ ap (λ (r : Option Replication). machine_from source basis r options deadline hold server) told
    ∙ ap (λ (o : Option MemberOptions). machine_from source basis known o deadline hold server) said
    ∙ ap
    (λ (d : Option (Option Ticks)). machine_from source basis known (slice_get cluster.options place) d hold server) due
    ∙ ap (λ (h : Option (Option Ticks)). machine_from source basis known (slice_get cluster.options place)
    (slice_get cluster.facts.deadlines place) h server)
    held
    ∙ ap (λ (s : Option ServerFacts). machine_from source basis known (slice_get cluster.options place)
    (slice_get cluster.facts.deadlines place) (slice_get cluster.facts.holds place) s)
    there

-- the room of its history has nothing to do with the timeline of a server
pub unspared : (found : Option ServerFacts) → IfSome (option_map without_spare found) (λ s. s.timeline < 2 ^ 60)
    → IfSome found (λ s. s.timeline < 2 ^ 60)
unspared None below = tt
unspared (Some s) below = below

-- what a read tells is carried
pub none-read : {Z : Type 0} (entries : Option (Vec (Key × KeyEntry) Z)) → entries ≡ None
    → IsRead (items_if entries) → ⊥
none-read None is read = false≢true read.config
none-read (Some entries) is read = cc
