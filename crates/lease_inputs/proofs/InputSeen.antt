-- What the law sees of a machine is what its agent finds of it.
use Rattle.std.proofs.Common.{◌≡◌, ◌≤◌, ℕ, Bool, true, List, Option, Some, None, IfSome, slice_get, option_map, is_some, refl, sym, subst, ap, ◌∙◌, arith}
use Rattle.std.proofs.lemmas.Option.{slice_get-map}
use Rattle.pat_base.specs.declared.ticks.Ticks.{Ticks}
use Rattle.member_options.specs.Options.{margin_span}
use Rattle.member_options.specs.declared.member_option.MemberOptions.{MemberOptions}
use Rattle.member_options.specs.declared.ranges.SafetyMargin.{SafetyMargin}
use Rattle.member_options.specs.declared.ranges.SafetyMargin.TheVariants.{HalfOfLease, Seconds}
use Rattle.script_model.specs.Script.{HeadText, MemberText}
use Rattle.pg_model.specs.Facts.{ServerFacts}
use Rattle.leader_key.specs.Watchdog.{HasMargin, is_armable}
use Rattle.event_book.specs.declared.member.Member.{Member}
use Rattle.agent_model.specs.declared.machine.Machine.{Machine}
use Rattle.agent_model.specs.Agents.{AgentFacts}
use Rattle.agent_lease_law.specs.Lawful.{CanFeed}
use Rattle.agent_roles.specs.Seen.{moment_seen, hold_seen, machine_seen}
use Rattle.cluster_model.specs.FailsafeDeadlines.{is_set_by_failsafe}
use Rattle.cluster_model.specs.Machines.{machine_from, machine_of, replication_of}
use Rattle.agent_model.specs.declared.machine.Replication.{Replication}
use Rattle.cluster_model.specs.State.{Cluster}
use Rattle.cluster_model.specs.Streaming.{source_of}
use Rattle.lease_model.specs.Past.{Past}
use Rattle.lease_model.proofs.Tools.{none-some, some-is}
use Rattle.lease_parts.specs.Bridged.{IsMatched}
use Rattle.lease_parts.specs.Declaring.{declared_of, margin_said, works_of, works_said}
use Rattle.lease_parts.specs.Machines.{deadline_now, hold_now, run_in}
use Rattle.lease_parts.specs.Volatile.{agent_now, machine_in}
use Rattle.lease_inputs.proofs.InputServers.{Mirrors}
use Rattle.lease_inputs.proofs.InputMachines.{Resembles}
use Rattle.lease_parts.proofs.SameMachine.{machine-same}

-- ---- the machine that an agent finds
pub record IsFound (cluster : Cluster) (member : Member) (machine : Machine) : Type 0 where
  pub options : MemberOptions
  pub options_is : slice_get cluster.options member.id.number ≡ Some options
  pub mirrors : Mirrors cluster member.id.number machine
  pub basis : is_set_by_failsafe (slice_get cluster.failsafe_deadlines member.id.number) ≡ machine.by_failsafe
  pub mode : machine.watchdog.mode ≡ options.watchdog
  pub works : machine.watchdog.works ≡ options.device_works
  pub margin : machine.watchdog.margin ≡ margin_span options.margin

found-by : (cluster : Cluster) (member : Member) (receives by_failsafe : Bool)
    (replication : Option Replication) (machine : Machine) (options : Option MemberOptions)
    (deadline hold : Option (Option Ticks)) (s : Option ServerFacts)
    → slice_get cluster.options member.id.number ≡ options
    → slice_get cluster.facts.deadlines member.id.number ≡ deadline
    → slice_get cluster.facts.holds member.id.number ≡ hold → slice_get cluster.facts.servers member.id.number ≡ s
    → is_set_by_failsafe (slice_get cluster.failsafe_deadlines member.id.number) ≡ by_failsafe
    → machine_from receives by_failsafe replication options deadline hold s ≡ Some machine
    → IsFound cluster member machine
found-by cluster member receives by_failsafe None machine options deadline hold s a b c d f e =
    absurd (none-some machine e)
found-by cluster member receives by_failsafe (Some replication) machine (Some options) (Some deadline) (Some hold)
    (Some s) a b c d f e =
    subst (IsFound cluster member) (some-is _ machine e) (record {
      options = options;
      options_is = a;
      mirrors = record { server = record { server = s; is = d; seen_is = refl }; deadline = b; hold = c };
      mode = refl;
      works = refl;
      margin = refl;
      basis = f;
    })
found-by cluster member receives by_failsafe (Some replication) machine None deadline hold s a b c d f e =
    absurd (none-some machine e)
found-by cluster member receives by_failsafe (Some replication) machine (Some options) None hold s a b c d f e =
    absurd (none-some machine e)
found-by cluster member receives by_failsafe (Some replication) machine (Some options) (Some deadline) None s a b c d f
    e =
    absurd (none-some machine e)
found-by cluster member receives by_failsafe (Some replication) machine (Some options) (Some deadline) (Some hold) None
    a b c d f e =
    absurd (none-some machine e)

pub found-of : (cluster : Cluster) (member : Member) (machine : Machine)
    → machine_of cluster member ≡ Some machine → IsFound cluster member machine
found-of cluster member machine e =
    found-by cluster member (is_some (source_of cluster.facts.members cluster.facts.servers cluster.facts.cuts member))
    (is_set_by_failsafe (slice_get cluster.failsafe_deadlines member.id.number))
    (option_map (replication_of cluster.facts.members cluster.facts.servers cluster.facts.cuts member)
    (slice_get cluster.facts.servers member.id.number))
    machine
    (slice_get cluster.options member.id.number) (slice_get cluster.facts.deadlines member.id.number)
    (slice_get cluster.facts.holds member.id.number)
    (slice_get cluster.facts.servers member.id.number) refl refl refl refl refl e

-- ---- what the law sees of it
deadline-is : (deadline : Option Ticks) → deadline_now (Some deadline) ≡ moment_seen deadline
deadline-is None = refl
deadline-is (Some deadline) = refl

hold-is : (hold : Option Ticks) → hold_now (Some hold) ≡ hold_seen hold
hold-is None = refl
hold-is (Some hold) = refl

pub seen-of : (cluster : Cluster) (m : ℕ) (agent : AgentFacts) (machine : Machine) → Resembles cluster m machine
    → is_set_by_failsafe (slice_get cluster.failsafe_deadlines m) ≡ machine.by_failsafe
    → slice_get cluster.agents m ≡ Some (Some agent)
    → machine_in cluster m ≡ machine_seen agent.role agent.knows machine (run_in cluster.facts.processes m)
seen-of cluster m agent machine resembles basis is =
    machine-same _ _ _ _ _ _ _ _ _ _ _ _
    resembles.lives
    (ap deadline_now resembles.deadline ∙ deadline-is machine.watchdog.deadline)
    basis
    (ap hold_now resembles.hold ∙ hold-is machine.hold)
    (ap agent_now is)
    refl

-- ---- what its member declares
declared-by : (found : Option MemberText) (options : MemberOptions)
    → option_map (λ (member : MemberText). member.options) found ≡ Some options
    → (margin_said found ≡ moment_seen (margin_span options.margin))
    × (works_said found ≡ is_armable options.watchdog options.device_works)
declared-by None options e = absurd (none-some options e)
declared-by (Some member) options e =
    let same = some-is member.options options e in (
      ap (λ (o : MemberOptions). moment_seen (margin_span o.margin)) same,
      ap (λ (o : MemberOptions). is_armable o.watchdog o.device_works) same,
    )

declared-of : (head : HeadText) (past : Past) (cluster : Cluster) (member : Member) (machine : Machine)
    → IsMatched head past cluster → (found : IsFound cluster member machine)
    → (margin_said (slice_get head.members member.id.number) ≡ moment_seen (margin_span found.options.margin))
    × (works_of head member.id.number ≡ is_armable found.options.watchdog found.options.device_works)
declared-of head past cluster member machine matched found =
    declared-by (slice_get head.members member.id.number) found.options
    (sym (slice_get-map (λ (member : MemberText). member.options) head.members member.id.number)
    ∙ ap (λ (l : List MemberOptions). slice_get l member.id.number) (sym matched.options) ∙ found.options_is)

pub armable-of : (head : HeadText) (past : Past) (cluster : Cluster) (member : Member) (machine : Machine)
    → IsMatched head past cluster → (found : IsFound cluster member machine) → works_of head member.id.number ≡ true
    → is_armable machine.watchdog.mode machine.watchdog.works ≡ true
armable-of head past cluster member machine matched found works =
    ap (λ mode. is_armable mode machine.watchdog.works) found.mode
    ∙ ap (λ (b : Bool). is_armable found.options.watchdog b) found.works
    ∙ sym (declared-of head past cluster member machine matched found).1 ∙ works

pub margin-of : (head : HeadText) (past : Past) (cluster : Cluster) (member : Member) (machine : Machine)
    → IsMatched head past cluster → (found : IsFound cluster member machine)
    → (declared_of head).margin member.id.number ≡ moment_seen machine.watchdog.margin
margin-of head past cluster member machine matched found =
    (declared-of head past cluster member machine matched found).0 ∙ sym (ap moment_seen found.margin)

pub has-margin : (cluster : Cluster) (member : Member) (machine : Machine)
    → (found : IsFound cluster member machine) → HasMargin machine.watchdog
has-margin cluster member machine found =
    subst (λ (o : Option Ticks). IfSome o (λ margin. margin.0 ≤ 150)) (sym found.margin) (short found.options.margin)
  where
    short : (margin : SafetyMargin) → IfSome (margin_span margin) (λ margin. margin.0 ≤ 150)
    short HalfOfLease = tt
    short (Seconds margin) = omega (arith, margin.most)

-- its watchdog can be fed
pub can-feed : (head : HeadText) (past : Past) (cluster : Cluster) (member : Member) (machine : Machine)
    → IsMatched head past cluster → (found : IsFound cluster member machine)
    → works_of head member.id.number ≡ true → CanFeed machine
can-feed head past cluster member machine matched found works = record {
  armable = armable-of head past cluster member machine matched found works;
  margin = has-margin cluster member machine found;
}
