-- What an agent shows of itself and of its server.
use Rattle.std.specs.Prelude.{is_some, None}
use Rattle.pat_base.specs.declared.ticks.Ticks.{Ticks}
use Rattle.cluster_view.specs.declared.view.AgentView.{AgentView}
use Rattle.cluster_view.specs.declared.view.RoleWord.{RoleWord}
use Rattle.agent_model.specs.declared.knowledge.Knowledge.{Knowledge}
use Rattle.agent_model.specs.declared.machine.Machine.{Machine}
use Rattle.agent_model.specs.Agents.{Outcome, word_of}

-- what an agent in this role shows at a moment, but for its newest snapshot, which stands beside it
abbrev pub view_of : Ticks → RoleWord → Knowledge → Machine → AgentView
view_of now role knows machine = record {
  moment = now;
  scope = knows.who.scope;
  me = knows.who.me;
  name = knows.who.name;
  tags = knows.who.tags;
  state = machine.server.state;
  timeline = machine.server.timeline;
  end = machine.server.end;
  receives = machine.server.receives;
  diverged = machine.server.diverged;
  was_primary = machine.server.was_primary;
  role = role;
  seen = None;
  last_read = knows.last_read;
  last_turn = knows.last_turn;
  hold = machine.hold;
  waits = is_some knows.operating;
}

-- what the agent shows that stands so
abbrev pub shown : Ticks → Outcome → AgentView
shown now o = view_of now (word_of o.role) o.knows o.machine
