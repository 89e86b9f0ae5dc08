-- Events at which nobody acts keep what a run keeps.
use Rattle.std.proofs.Common.{ℕ, ◌≡◌, List, [], ◌∷◌, Some}
use Rattle.script_model.specs.Script.{HeadText}
use Rattle.event_book.specs.declared.event.AgentEvent.TheVariants as agents
use Rattle.event_book.specs.declared.event.Event.{Event}
use Rattle.event_book.specs.declared.event.EventKind.{EventKind}
use Rattle.event_book.specs.declared.event.EventKind.TheVariants as kinds
use Rattle.event_book.specs.declared.event.MessageEvent.TheVariants as messages
use Rattle.event_book.specs.declared.event.StoreEvent.TheVariants as stores
use Rattle.event_book.specs.declared.member.Member.{Member}
use Rattle.event_book.specs.Facts.{Facts}
use Rattle.event_book.specs.Kinds.{AllAre}
use Rattle.cluster_model.specs.Cluster.{cluster_after, cluster_over}
use Rattle.cluster_model.specs.State.{Cluster}
use Rattle.run_promise.specs.Members.{member_count}
use Rattle.lease_parts.proofs.Machines.{sized-by}
use Rattle.lease_owners.specs.Kept.{AgentsAreKept, IsOwned}
use Rattle.lease_owners.proofs.Agents.{IsStill, holds-on, still-agents}
use Rattle.lease_owners.proofs.Flights.{IsTidy, kept-by, of-kept}

still-tidy : (members : List Member) (facts : Facts) (kind : EventKind) → IsStill kind → IsTidy members facts kind
still-tidy members facts (kinds.Message (messages.Sent number message)) is = absurd is
still-tidy members facts (kinds.Store (stores.Granted number by txn standbys)) is = absurd is
still-tidy members facts _ is = tt

module _ (head : HeadText) where
  still-one : (cluster : Cluster) (kind : EventKind) → IsStill kind → IsOwned head cluster
      → IsOwned head (cluster_after cluster kind)
  still-one cluster kind is good =
      let tidy = still-tidy cluster.facts.members cluster.facts kind is in
      record {
        members = good.members;
        sized = sized-by (member_count head) cluster.facts kind good.sized;
        facts = kept-by cluster.facts.members cluster.facts good.facts kind tidy;
        agents = λ m agent there.
            let was = still-agents cluster.facts.keys cluster good.agents kind is m agent there in (
              was.0,
              holds-on cluster.facts.keys _ m agent
                  (of-kept cluster.facts.members cluster.facts good.facts kind tidy) was.1,
            );
      }

  pub still-over : (cluster : Cluster) (events : List Event) → AllAre IsStill events → IsOwned head cluster
      → IsOwned head (cluster_over cluster events)
  still-over cluster [] all good = good
  still-over cluster (event ∷ events) all good =
      still-over (cluster_after cluster event.kind) events all.1 (still-one cluster event.kind all.0 good)
