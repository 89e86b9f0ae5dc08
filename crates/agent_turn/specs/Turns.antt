-- An input on its way: what it has come to, and what it may still use.
use Rattle.std.specs.Prelude.{ℕ, ◌≡◌, ◌≤◌, ◌+◌}
use Rattle.pat_base.specs.Moments.{latest}
use Rattle.agent_model.specs.Agents.{RoleFacts, Follower, IsSound, Outcome, outcome_from, most_messages}
use Rattle.agent_turn.specs.declared.turn.Turn.{Turn}

-- what an input has come to so far, with its agent in this role
abbrev pub reached : RoleFacts → Turn → Outcome
reached role turn = outcome_from role turn.knows.now turn.machine.now turn.out.now.outputs

-- room for so many outputs, and numbers for so many messages; the moment
-- is one that is reckoned with, and what the agent knows is sound
pub record HasLeft (most numbers : ℕ) (turn : Turn) : Type 0 where
  pub moment : turn.moment.0 ≤ latest
  pub sound : IsSound turn.knows.now
  pub room : most ≤ turn.out.now.spare
  pub counted : turn.knows.now.sequence + numbers ≤ most_messages

-- at most so many outputs and numbers more are used; the moment and
-- what is lent are the same, and what the agent knows is sound
pub record Spent (most numbers : ℕ) (before after : Turn) : Type 0 where
  pub knows : after.knows.ghost_name ≡ before.knows.ghost_name
  pub machine : after.machine.ghost_name ≡ before.machine.ghost_name
  pub out : after.out.ghost_name ≡ before.out.ghost_name
  pub moment : after.moment ≡ before.moment
  pub sound : IsSound after.knows.now
  pub room : before.out.now.spare ≤ after.out.now.spare + most
  pub counted : after.knows.now.sequence ≤ before.knows.now.sequence + numbers

-- this is done, which no role changes and which changes no role
pub record ComesTo (step : Outcome → Outcome) (before after : Turn) : Type 0 where
  pub knows : after.knows.now ≡ (step (reached Follower before)).knows
  pub machine : after.machine.now ≡ (step (reached Follower before)).machine
  pub outputs : after.out.now.outputs ≡ (step (reached Follower before)).outputs
