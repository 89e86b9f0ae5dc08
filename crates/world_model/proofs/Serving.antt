-- What happens at servers, one event at a time.
use Rattle.std.proofs.Common.{◌≡◌, ◌≤◌, ℕ, Bool, arith, List, [], ◌∷◌, Option, refl, ◌∙◌, ap, sym}
use Rattle.pat_base.specs.declared.ticks.Ticks.{Ticks}
use Rattle.pg_model.specs.Facts.{ServerFacts}
use Rattle.event_book.specs.declared.event.EventKind.{EventKind}
use Rattle.event_book.specs.declared.event.EventKind.TheVariants as kinds
use Rattle.event_book.specs.Acknowledged.{acknowledged_after, commits_after}
use Rattle.event_book.specs.Frozen.{frozen_after}
use Rattle.event_book.specs.Servers.{remote_after, servers_after}
use Rattle.event_list.specs.Listed.{Listed, ◌+++◌}
use Rattle.cluster_model.specs.Cluster.{cluster_after}
use Rattle.cluster_model.specs.State.{Cluster}
use Rattle.cluster_model.specs.Parts.{event_of}
use Rattle.world_model.specs.Emits.{Emits}
use Rattle.world_model.proofs.Deciding.{stamped-is}
use Rattle.world_model.specs.Comes.{Counts}
use Rattle.world_model.specs.Room.{event_cost}
use Rattle.world_model.proofs.Taking.{Emits-one, Emits-weaker}

-- a cluster with other servers, another remote, other frozen ones, another last commit and other acknowledged ones
abbrev pub serving : Cluster → List ServerFacts → Option ServerFacts → List Bool → ℕ → List ℕ → Cluster
serving cluster servers remote frozen commits acknowledged = record cluster {
  facts = record cluster.facts {
    servers = servers;
    remote = remote;
    frozen = frozen;
    commits = commits;
    acknowledged = acknowledged;
  };
}

-- what concerns servers, their logs and their replication, and notes
abbrev pub IsServing : EventKind → Type 0
IsServing (kinds.Server happening) = Unit {0}
IsServing (kinds.Log happening) = Unit {0}
IsServing (kinds.Replication happening) = Unit {0}
IsServing (kinds.Note note) = Unit {0}
IsServing _ = ⊥

abbrev pub served : Cluster → EventKind → Cluster
served cluster kind = serving cluster
    (servers_after cluster.facts.clock cluster.facts.servers cluster.facts.remote kind)
    (remote_after cluster.facts.remote kind) (frozen_after cluster.facts.frozen kind)
    (commits_after cluster.facts.commits kind)
    (acknowledged_after cluster.facts.acknowledged kind)

-- it changes nothing else
pub serving-cluster_after : (cluster : Cluster) (kind : EventKind) → IsServing kind
    → cluster_after cluster kind ≡ served cluster kind
serving-cluster_after cluster (kinds.Server happening) is = refl
serving-cluster_after cluster (kinds.Log happening) is = refl
serving-cluster_after cluster (kinds.Replication happening) is = refl
serving-cluster_after cluster (kinds.Note note) is = refl
serving-cluster_after cluster _ is = absurd is

-- it counts one number up by one at most
serving-cost : (kind : EventKind) → IsServing kind → event_cost kind ≤ 1
serving-cost (kinds.Server happening) is = omega arith
serving-cost (kinds.Log happening) is = omega arith
serving-cost (kinds.Replication happening) is = omega arith
serving-cost (kinds.Note note) is = omega arith
serving-cost _ is = absurd is

-- one thing happened at servers
pub serving-took : (cluster after : Cluster) (kind : EventKind) (tick : Ticks) (had has : Listed)
    → IsServing kind → Counts cluster kind → after ≡ served cluster kind → tick.0 ≡ cluster.facts.clock
    → has ≡ had +++ record { tick = tick; kind = kind } ∷ [] → Emits cluster after had has (event_of cluster kind) 1
serving-took cluster after kind tick had has is counts state at has_is =
    Emits-weaker cluster after had has (event_of cluster kind) (event_cost kind) 1
    (Emits-one cluster after had has kind counts (state ∙ sym (serving-cluster_after cluster kind is))
    (has_is ∙ ap (λ es. had +++ es) (stamped-is cluster tick kind
    (at ∙ ap (λ (c : Cluster). c.facts.clock) (sym (serving-cluster_after cluster kind is))))))
    (serving-cost kind is)
