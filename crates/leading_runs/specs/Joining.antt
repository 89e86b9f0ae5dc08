-- How the parts of a leader's turn join.
use Rattle.std.specs.Prelude.{ℕ, ◌≡◌, ◌==◌, true, [], Some}
use Rattle.lease_store.specs.declared.granted.Granted.{Granted}
use Rattle.cluster_view.specs.declared.snapshot.LeaderEntry.{LeaderEntry}
use Rattle.cluster_view.specs.Snapshots.{leader_in}
use Rattle.member_options.specs.declared.member_option.MemberOptions.{MemberOptions}
use Rattle.member_options.specs.Options.{margin_span}
use Rattle.event_book.specs.declared.link.LinkEnd.TheVariants as ends
use Rattle.event_book.specs.declared.member.Member.{Member}
use Rattle.event_book.specs.Flight.{InFlightFacts}
use Rattle.agent_model.specs.declared.heard.Heard.TheVariants as heard
use Rattle.agent_model.specs.declared.knowledge.Knowledge.{Knowledge}
use Rattle.agent_model.specs.declared.knowledge.PendingQuestion.{PendingQuestion}
use Rattle.agent_model.specs.Agents.{AgentFacts, Outcome}
use Rattle.agent_roles.specs.Powers.{IsAwaitedLease}
use Rattle.cluster_model.specs.Hearing.{heard_from, snapshot_in}
use Rattle.cluster_model.specs.Inputs.{standing_of}
use Rattle.cluster_model.specs.State.{Cluster}
use Rattle.lease_model.specs.Leases.{LeaderKey}
use Rattle.leading_law.specs.Leading.{IsLeading}

-- this message answers the member's read of this number, and shows its own key
pub record HearsOwnKey (member : Member) (sequence : ℕ) (key : LeaderKey) (cluster : Cluster)
    (carried : InFlightFacts) : Type 0 where
  pub to : carried.message.to ≡ ends.Member member
  pub heard : heard_from cluster carried ≡ Some (heard.ReadAnswered sequence (snapshot_in cluster carried))
  pub leader : LeaderEntry
  pub there : leader_in (snapshot_in cluster carried) ≡ Some leader
  pub mine : leader.holder.number == member.id.number ≡ true
  pub revision : leader.revision ≡ key.revision

-- this message tells the member the grant of the renewal that its agent waits for, under this revision
pub record HearsRenewal (member : Member) (sequence revision : ℕ) (waited : PendingQuestion)
    (knows : Knowledge) (cluster : Cluster) (carried : InFlightFacts) : Type 0 where
  pub to : carried.message.to ≡ ends.Member member
  pub grant : Granted
  pub heard : heard_from cluster carried ≡ Some (heard.Granted sequence grant (snapshot_in cluster carried))
  pub awaited : IsAwaitedLease sequence grant knows
  pub same : awaited.waited ≡ waited
  pub revision_is : grant.revision ≡ revision

-- the agent of a member stands so, and leads
pub record StandsLeading (member : Member) (agent : AgentFacts) (options : MemberOptions) (cluster : Cluster) : Type
    0 where
  pub o : Outcome
  pub stands : standing_of cluster member ≡ Some o
  pub leads : IsLeading o
  pub knows : o.knows ≡ agent.knows
  pub role : o.role ≡ agent.role
  pub nothing : o.outputs ≡ []
  pub mode : o.machine.watchdog.mode ≡ options.watchdog
  pub works : o.machine.watchdog.works ≡ options.device_works
  pub margin : o.machine.watchdog.margin ≡ margin_span options.margin
