-- What comes before every input: the agent's role is brought to what it finds of its server.
use Rattle.std.specs.Prelude.{ℕ, if◌then◌else◌, Option, Some, None}
use Rattle.pat_base.specs.declared.ticks.Ticks.{Ticks}
use Rattle.pat_base.specs.ServerState.{live}
use Rattle.agent_model.specs.declared.why.Why.{Why}
use Rattle.agent_model.specs.declared.why.Why.TheVariants.{HandOver, Lost}
use Rattle.agent_model.specs.Acting.{disarming, releasing}
use Rattle.agent_model.specs.Agents.{RoleFacts, Follower, Holder, Ready, Leader, Ending, Unleased, Outcome}

-- the moment that was noted, or this one
abbrev pub noted_or : Ticks → Option Ticks → Ticks
noted_or now None = now
noted_or now (Some moment) = moment

-- a leader finds that its server has ended: it keeps the leader key, and the crash is noted
abbrev pub leader_finds_ended : Ticks → ℕ → Outcome → Outcome
leader_finds_ended now revision o = record (disarming o) {
  role = Holder revision;
  knows = record o.knows { crashed = Some (noted_or now o.knows.crashed) };
}

-- an agent that ends its server finds that it has ended: it gives up the leader key, if it has that still
abbrev pub has_ended : Why → ℕ → Outcome → Outcome
has_ended HandOver revision o = record (releasing revision (disarming o)) { role = Follower }
has_ended Lost revision o = record (disarming o) { role = Follower }

-- an agent finds its server live, without a lease of its making: any lease counts as lost
abbrev pub finds_live : Outcome → Outcome
finds_live o = record o { role = Unleased }

-- an agent without a lease finds that its server has ended
abbrev pub unleased_finds_ended : Outcome → Outcome
unleased_finds_ended o = record (disarming o) { role = Follower }

-- what each role comes to before an input, by whether its server is live
abbrev pub before_as : Ticks → RoleFacts → Outcome → Outcome
before_as now (Leader revision) o = if live o.machine.server.state then o else leader_finds_ended now revision o
before_as now (Ending revision why) o = if live o.machine.server.state then o else has_ended why revision o
before_as now Follower o = if live o.machine.server.state then finds_live o else o
before_as now (Holder revision) o = if live o.machine.server.state then finds_live o else o
before_as now (Ready revision) o = if live o.machine.server.state then finds_live (disarming o) else o
before_as now Unleased o = if live o.machine.server.state then o else unleased_finds_ended o

-- what comes before an input
abbrev pub reconciled : Ticks → Outcome → Outcome
reconciled now o = before_as now o.role o
