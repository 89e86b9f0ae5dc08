-- Counters come no farther than the steps that were taken.
use Rattle.std.proofs.Common.{◌≡◌, ℕ, ◌+◌, ◌-◌, ◌^◌, ◌≤◌, ◌<◌, List, [], ◌∷◌, All, Option, Some, None, length, map, replicate, arith, subst, suc, zero}
use Rattle.std.proofs.lemmas.List.Elements.{All-nil, All-cons, All-weaker}
use Rattle.pat_base.specs.declared.name.Name.{Name}
use Rattle.pg_model.specs.Facts.{ServerFacts, fresh}
use Rattle.member_options.specs.declared.member_option.MemberOptions.{MemberOptions}
use Rattle.script_model.specs.Script.{HeadText, names_of}
use Rattle.event_book.specs.declared.agent_process.AgentProcess.{AgentProcess}
use Rattle.event_book.specs.declared.member.Member.{Member}
use Rattle.event_book.specs.Processes.{first_processes, running_in}
use Rattle.agent_model.specs.Agents.{AgentFacts}
use Rattle.cluster_model.specs.Starting.{cluster_of, first_agent}
use Rattle.cluster_model.specs.State.{Cluster}
use Rattle.world_model.specs.Counted.{AreCounted, HasNumbered, counted_by}
use Rattle.world_model.specs.Room.{HasNumbers, HasRoom, most_steps, step_cost}
use Rattle.world_model.specs.Idle.{at_moment}
use Rattle.world_model.proofs.ServerRooms.{HasTimeline, remote-weaker}

abbrev RunsBelow : ℕ → AgentProcess → Type 0
RunsBelow bound state = state.incarnation < bound

abbrev RunsWith : ℕ → AgentProcess → Type 0
RunsWith events state = state.incarnation + events < 2 ^ 60

abbrev HasTimelineBelow : ℕ → ServerFacts → Type 0
HasTimelineBelow bound s = s.timeline < bound

numbers-left : (bound cost : ℕ) → bound + cost ≤ 2 ^ 60 → (agent : Option AgentFacts)
    → HasNumbered bound agent → HasNumbers cost agent
numbers-left bound cost enough None has = tt
numbers-left bound cost enough (Some agent) has = omega (arith, enough, has)

numbers-taken : (bound more : ℕ) → bound + more ≡ 2 ^ 60 → (agent : Option AgentFacts) → HasNumbers more agent
    → HasNumbered bound agent
numbers-taken bound more whole None has = tt
numbers-taken bound more whole (Some agent) has = omega (arith, whole, has)

numbers-more : (bound greater : ℕ) → bound ≤ greater → (agent : Option AgentFacts) → HasNumbered bound agent
    → HasNumbered greater agent
numbers-more bound greater h None has = tt
numbers-more bound greater h (Some agent) has = omega (arith, h, has)

-- what is counted so far has the rest of its room
pub counted-room : (cluster : Cluster) (bound cost : ℕ) → bound + cost ≤ 2 ^ 60 → AreCounted cluster bound
    → HasRoom cluster cost
counted-room cluster bound cost enough counted = record {
  clock = omega (arith, enough, counted.clock);
  revision = omega (arith, enough, counted.revision);
  sent = omega (arith, enough, counted.sent);
  runs = All-weaker (RunsBelow bound) (RunsWith cost)
      (λ state has. omega (arith, enough, has)) cluster.facts.processes counted.runs;
  numbers = omega (arith, enough);
  agents =
      All-weaker (HasNumbered bound) (HasNumbers cost) (numbers-left bound cost enough) cluster.agents counted.agents;
  timelines = All-weaker (HasTimelineBelow bound) (HasTimeline cost)
      (λ s has. omega (arith, enough, has)) cluster.facts.servers counted.timelines;
  remote = remote-weaker (HasTimelineBelow bound) (HasTimeline cost) cluster.facts.remote
      (λ s has. omega (arith, enough, has)) counted.remote;
  commits = omega (arith, enough, counted.commits);
}

-- and what has room for the rest is counted so far at most
pub room-counted : (cluster : Cluster) (bound more : ℕ) → bound + more ≡ 2 ^ 60 → HasRoom cluster more
    → AreCounted cluster bound
room-counted cluster bound more whole room = record {
  clock = omega (arith, whole, room.clock);
  revision = omega (arith, whole, room.revision);
  sent = omega (arith, whole, room.sent);
  runs = All-weaker (RunsWith more) (RunsBelow bound)
      (λ state has. omega (arith, whole, has)) cluster.facts.processes room.runs;
  agents = All-weaker (HasNumbers more) (HasNumbered bound) (numbers-taken bound more whole) cluster.agents room.agents;
  timelines = All-weaker (HasTimeline more) (HasTimelineBelow bound)
      (λ s has. omega (arith, whole, has)) cluster.facts.servers room.timelines;
  remote = remote-weaker (HasTimeline more) (HasTimelineBelow bound) cluster.facts.remote
      (λ s has. omega (arith, whole, has)) room.remote;
  commits = omega (arith, whole, room.commits);
}

-- so what takes no more room than its cost counts no farther than by that
pub counted-more : (before after : Cluster) (bound cost : ℕ) → bound + cost ≤ 2 ^ 60
    → ((more : ℕ) → HasRoom before (cost + more) → HasRoom after more) → AreCounted before bound
    → AreCounted after (bound + cost)
counted-more before after bound cost enough room counted =
    let left : ℕ = 2 ^ 60 - (bound + cost) in
    room-counted after (bound + cost) left (omega (arith, enough))
    (room left (counted-room before bound (cost + left) (omega (arith, enough)) counted))

-- a step counts by no more than a step's cost
pub counted-step : (before after : Cluster) (steps : ℕ) → steps + 1 ≤ most_steps
    → ((more : ℕ) → HasRoom before (step_cost + more) → HasRoom after more)
    → AreCounted before (counted_by steps) → AreCounted after (counted_by (steps + 1))
counted-step before after steps few room counted =
    let next : counted_by steps + step_cost ≡ counted_by (steps + 1) = omega arith in
    subst (AreCounted after) next
    (counted-more before after (counted_by steps) step_cost (omega (arith, few)) room counted)

-- a greater bound is one too, however much the clock passed within it
pub counted-passed : (cluster : Cluster) (bound greater moment : ℕ) → bound ≤ greater → moment < greater
    → AreCounted cluster bound → AreCounted (at_moment cluster moment) greater
counted-passed cluster bound greater moment h within counted = record {
  clock = within;
  revision = omega (arith, h, counted.revision);
  sent = omega (arith, h, counted.sent);
  runs = All-weaker (RunsBelow bound) (RunsBelow greater)
      (λ state has. omega (arith, h, has)) cluster.facts.processes counted.runs;
  agents =
      All-weaker (HasNumbered bound) (HasNumbered greater) (numbers-more bound greater h) cluster.agents counted.agents;
  timelines = All-weaker (HasTimelineBelow bound) (HasTimelineBelow greater)
      (λ s has. omega (arith, h, has)) cluster.facts.servers counted.timelines;
  remote = remote-weaker (HasTimelineBelow bound) (HasTimelineBelow greater) cluster.facts.remote
      (λ s has. omega (arith, h, has)) counted.remote;
  commits = omega (arith, h, counted.commits);
}

first-runs : (count : ℕ) → All (RunsBelow (counted_by 0)) (first_processes count)
first-runs zero = All-nil (RunsBelow (counted_by 0))
first-runs (suc count) =
    All-cons (RunsBelow (counted_by 0)) (running_in 1) (first_processes count) (omega arith) (first-runs count)

first-numbered : (scope : Name) (options : List MemberOptions) (members all : List Member)
    → All (HasNumbered (counted_by 0)) (map (first_agent scope options members) all)
first-numbered scope options members [] = All-nil (HasNumbered (counted_by 0))
first-numbered scope options members (member ∷ more) =
    All-cons (HasNumbered (counted_by 0)) (first_agent scope options members member)
    (map (first_agent scope options members) more) (omega arith) (first-numbered scope options members more)

first-timelines : (base count : ℕ) → All (HasTimelineBelow (counted_by 0)) (replicate count (fresh base))
first-timelines base zero = All-nil (HasTimelineBelow (counted_by 0))
first-timelines base (suc count) = All-cons (HasTimelineBelow (counted_by 0)) (fresh base)
    (replicate count (fresh base)) (omega arith) (first-timelines base count)

-- before the first event nothing is counted farther than before the first step
pub counted-first : (head : HeadText) → AreCounted (cluster_of head) (counted_by 0)
counted-first head = record {
  clock = omega arith;
  revision = omega arith;
  sent = omega arith;
  runs = first-runs (length (names_of head));
  agents = first-numbered head.cluster (cluster_of head).options (cluster_of head).facts.members
      (cluster_of head).facts.members;
  timelines = first-timelines head.base (length (names_of head));
  remote = tt;
  commits = omega arith;
}
