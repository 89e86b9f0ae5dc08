-- Where an agent stands.
use Rattle.std.specs.Prelude.{ℕ, ◌≡◌, ◌≤◌, ◌<◌, ◌^◌, Bool, true, false, List, [], Option, None}
use Rattle.std.specs.Option.{ForSome}
use Rattle.pat_base.specs.declared.ticks.Ticks.{Ticks}
use Rattle.leader_key.specs.Watchdog.{IsLeaseSpan}
use Rattle.store_keys.specs.Defaults.{default_config}
use Rattle.cluster_view.specs.declared.view.RoleWord.{RoleWord}
use Rattle.cluster_view.specs.declared.view.RoleWord.TheVariants as words
use Rattle.pg_model.specs.declared.status.ServerStatus.{ServerStatus}
use Rattle.agent_model.specs.declared.knowledge.Knowledge.{Knowledge}
use Rattle.agent_model.specs.declared.knowledge.PendingQuestion.{PendingQuestion}
use Rattle.agent_model.specs.declared.machine.Machine.{Machine}
use Rattle.agent_model.specs.declared.output.Output.{Output}
use Rattle.agent_model.specs.declared.why.Why.{Why}
use Rattle.agent_model.specs.declared.who.Who.{Who}
use Rattle.pat_base.specs.Moments.{latest}
use Rattle.failsafe.specs.Asks.{asked}

-- a role: in place of its values the revisions of the leader key that they were granted with
pub data RoleFacts : Type 0 where
  Follower : RoleFacts
  Holder : (revision : ℕ) → RoleFacts
  Ready : (revision : ℕ) → RoleFacts
  Leader : (revision : ℕ) → RoleFacts
  Ending : (revision : ℕ) (why : Why) → RoleFacts
  Unleased : RoleFacts

-- the word for a role, as views show it
abbrev pub word_of : RoleFacts → RoleWord
word_of Follower = words.Follower
word_of (Holder revision) = words.Holder
word_of (Ready revision) = words.Ready
word_of (Leader revision) = words.Leader
word_of (Ending revision why) = words.Ending
word_of Unleased = words.Unleased

-- an agent is about to begin
abbrev pub is_ready : RoleFacts → Bool
is_ready (Ready revision) = true
is_ready _ = false

-- an agent leads
abbrev pub is_leader : RoleFacts → Bool
is_leader (Leader revision) = true
is_leader _ = false

-- where an agent stands: its role, and all that it knows beside it
pub record AgentFacts : Type 0 where
  pub role : RoleFacts
  pub knows : Knowledge

-- so many messages an incarnation may send
abbrev pub most_messages : ℕ
most_messages = 2 ^ 60

-- what holds of all that an agent knows: its turns began at moments that are reckoned with,
-- what it asked for are leases, and what an operator waits for was asked at such a moment
pub record IsSound (knows : Knowledge) : Type 0 where
  pub turn : ForSome knows.last_turn (λ moment. moment.0 ≤ latest)
  pub span : ForSome knows.waited (λ waited. IsLeaseSpan waited.ttl.0)
  pub since : ForSome knows.operating (λ waiting. waiting.since.0 ≤ latest)

-- who ends its server waits for no answer
abbrev pub EndsAlone : RoleFacts → Option PendingQuestion → Type 0
EndsAlone (Ending revision why) waited = waited ≡ None
EndsAlone _ waited = Unit {0}

-- what is waited for has a number that is counted
abbrev pub HasCounted : Knowledge → Type 0
HasCounted knows = ForSome knows.waited (λ waited. waited.sequence ≤ knows.sequence)

-- what holds of an agent
pub record IsSoundAgent (role : RoleFacts) (knows : Knowledge) : Type 0 where
  pub sound : IsSound knows
  pub ends : EndsAlone role knows.waited
  pub counted : HasCounted knows

-- what holds of a server that is reckoned with
pub record IsWithin (server : ServerStatus) : Type 0 where
  pub timeline : server.timeline < 2 ^ 60
  pub stop : server.stop_delay.0 ≤ 2 ^ 40
  pub start : server.start_delay.0 ≤ 2 ^ 40

-- what an agent knows as it starts
abbrev pub fresh_knowledge : Who → Ticks → ℕ → Knowledge
fresh_knowledge who first incarnation = record {
  who = who;
  incarnation = incarnation;
  waited = None;
  sequence = 0;
  last_turn = None;
  next_turn = first;
  last_read = None;
  seen = None;
  settings = default_config;
  turn_settings = default_config;
  turn_sync = None;
  turn_failover = None;
  turn_failsafe = None;
  noted = None;
  begun = None;
  crashed = None;
  known = record { bits = 0 };
  informed = false;
  confirmed = false;
  failsafe = asked (record { bits = 0 }) (record { 0 = 0 });
  handed_over = false;
  answers = [];
  operating = None;
}

-- what an input has made so far: the agent's role and what it knows, its machine, and all outputs
pub record Outcome : Type 0 where
  pub role : RoleFacts
  pub knows : Knowledge
  pub machine : Machine
  pub outputs : List Output

-- the outcome of these parts
abbrev pub outcome_from : RoleFacts → Knowledge → Machine → List Output → Outcome
outcome_from role knows machine outputs = record { role = role; knows = knows; machine = machine; outputs = outputs }
