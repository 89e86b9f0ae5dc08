-- What holds of each event that a command may bring holds of the one that it brings, of those that bring one at most.
use Rattle.std.proofs.Common.{ℕ, ◌+◌, ◌≤◌, ◌==◌, Bool, true, false, List, slice_get, Option, option_and_then}
use Rattle.pat_base.specs.declared.member_id.MemberId.{MemberId}
use Rattle.pat_base.specs.declared.ticks.Ticks.{Ticks}
use Rattle.pg_model.specs.Facts.{ServerFacts}
use Rattle.pg_cluster.specs.Servers.{entry_for}
use Rattle.event_book.specs.declared.event.AgentEvent.TheVariants as agents
use Rattle.event_book.specs.declared.event.EventKind.{EventKind}
use Rattle.event_book.specs.declared.event.EventKind.TheVariants as kinds
use Rattle.event_book.specs.declared.event.LinkEvent.{LinkEvent}
use Rattle.event_book.specs.declared.event.LinkEvent.TheVariants as changes
use Rattle.event_book.specs.declared.event.ServerEvent.TheVariants as servers
use Rattle.event_book.specs.declared.member.Member.{Member}
use Rattle.event_book.specs.Links.{is_cut}
use Rattle.event_book.specs.Members.{server_of}
use Rattle.script_model.specs.declared.line.Command.{Command}
use Rattle.script_model.specs.declared.line.Command.TheVariants as commands
use Rattle.script_model.specs.declared.line.SlowedCall.{SlowedCall}
use Rattle.script_model.specs.declared.line.SlowedCall.TheVariants as slowed_calls
use Rattle.script_model.specs.declared.ranges.Delay.{Delay}
use Rattle.cluster_model.specs.Commands.{cut_of, join_of, kill_of, link_of, resume_of, suspend_of}
use Rattle.cluster_model.specs.Next.{command_kind, declared}
use Rattle.cluster_model.specs.ServerCommands.{commit_of, crash_of, freezing_of, is_gone, slow_of}
use Rattle.cluster_model.specs.State.{Cluster}
use Rattle.cluster_model.proofs.Founds.{holds-if, holds-mapped, holds-then, holds-unless}
use Rattle.cluster_model.proofs.Lists.{HoldsIf}

-- it holds of each event by which a command ends no agent and no server
pub record HoldsOfCommands (P : EventKind → Type 0) (cluster : Cluster) : Type 0 where
  pub suspended : (member : Member) → P (kinds.Agent (agents.Suspended member))
  pub resumed : (member : Member) → P (kinds.Agent (agents.Resumed member))
  pub committed : (member : Member) (bytes : ℕ) → 1 ≤ bytes
      → P (commit_of member (entry_for cluster.facts.servers member.id.number (cluster.facts.commits + 1) bytes))
  pub frozen : (member : Member) → P (kinds.Server (servers.Frozen (server_of member)))
  pub thawed : (member : Member) → P (kinds.Server (servers.Thawed (server_of member)))
  pub slowed : (member : Member) (stop start : Option Ticks)
      → P (kinds.Server (servers.Slowed (server_of member) stop start))
  pub links : (change : LinkEvent) → P (kinds.Link change)

-- it holds of each end that a command brings
pub record HoldsOfEnds (P : EventKind → Type 0) : Type 0 where
  pub killed : (member : Member) → P (kinds.Agent (agents.Killed member))
  pub crashed : (member : Member) → P (kinds.Server (servers.Crashed (server_of member)))

-- a command ends no agent and no server
abbrev pub EndsNothing : Command → Type 0
EndsNothing (commands.Kill id) = ⊥
EndsNothing (commands.Crash id) = ⊥
EndsNothing command = Unit {0}

module _ (P : EventKind → Type 0) (cluster : Cluster) where
  at-declared : {X : Type 0} (id : MemberId) (known : List X) (change : Member → X → Option EventKind)
      → ((m : Member) (x : X) → HoldsIf P (change m x))
      → HoldsIf P
      (option_and_then (λ m. option_and_then (change m) (slice_get known m.id.number)) (declared cluster id))
  at-declared id known change all =
      holds-then P _ (declared cluster id) (λ m. holds-then P (change m) (slice_get known m.id.number) (all m))

  freezing-holds : HoldsOfCommands P cluster → (to : Bool) (member : Member) (frozen : Bool)
      → HoldsIf P (freezing_of to member frozen)
  freezing-holds all true member false = all.frozen member
  freezing-holds all false member true = all.thawed member
  freezing-holds all true member true = tt
  freezing-holds all false member false = tt

  slow-holds : HoldsOfCommands P cluster → (slowed : SlowedCall) (delay : Delay) (member : Member) (s : ServerFacts)
      → HoldsIf P (slow_of member slowed delay s)
  slow-holds all slowed_calls.Stop delay member s =
      holds-unless P (s.stop_delay.0 == delay.ticks) _ (all.slowed member _ _)
  slow-holds all slowed_calls.Start delay member s =
      holds-unless P (s.start_delay.0 == delay.ticks) _ (all.slowed member _ _)

  pub command-holds : HoldsOfCommands P cluster → (command : Command) → EndsNothing command
      → HoldsIf P (command_kind cluster command)
  command-holds all (commands.Suspend id) is =
      at-declared id cluster.facts.processes suspend_of (λ m process. holds-if P _ _ (all.suspended m))
  command-holds all (commands.Resume id) is =
      at-declared id cluster.facts.processes resume_of (λ m process. holds-if P process.suspended _ (all.resumed m))
  command-holds all (commands.Kill id) is = absurd is
  command-holds all (commands.Crash id) is = absurd is
  command-holds all (commands.Commit id size) is =
      holds-mapped P _ (declared cluster id) (λ m. all.committed m size.bytes size.least)
  command-holds all (commands.Freeze id) is =
      at-declared id cluster.facts.frozen (freezing_of true) (freezing-holds all true)
  command-holds all (commands.Thaw id) is =
      at-declared id cluster.facts.frozen (freezing_of false) (freezing-holds all false)
  command-holds all (commands.Slow id slowed delay) is =
      at-declared id cluster.facts.servers (λ m. slow_of m slowed delay) (slow-holds all slowed delay)
  command-holds all (commands.Cut first second) is =
      holds-then P (cut_of cluster.facts.cuts) (link_of cluster.facts.members first second)
      (λ link. holds-unless P (is_cut cluster.facts.cuts link) _ (all.links (changes.Cut link)))
  command-holds all (commands.Join first second) is =
      holds-then P (join_of cluster.facts.cuts) (link_of cluster.facts.members first second)
      (λ link. holds-if P (is_cut cluster.facts.cuts link) _ (all.links (changes.Joined link)))
  command-holds all _ is = tt

  -- it holds of what each command brings, where it does of those that end nothing
  pub each-command-holds : HoldsOfEnds P → (command : Command)
      → (EndsNothing command → HoldsIf P (command_kind cluster command)) → HoldsIf P (command_kind cluster command)
  each-command-holds ends (commands.Kill id) others =
      at-declared id cluster.facts.processes kill_of (λ m process. holds-if P process.running _ (ends.killed m))
  each-command-holds ends (commands.Crash id) others =
      at-declared id cluster.facts.servers crash_of (λ m s. holds-unless P (is_gone s.state) _ (ends.crashed m))
  each-command-holds ends command others = others tt
