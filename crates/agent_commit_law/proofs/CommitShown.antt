-- What is shown of the input of the law that stands for one of the table.
use Rattle.std.proofs.Common.{ℕ, ◌≡◌, ◌⊎◌, ◌∙◌, true, false, inl, inr}
use Rattle.commit_actions.specs.States.{State}
use Rattle.commit_actions.specs.Inputs.{AgentInput, HolderCarries}
use Rattle.commit_actions.specs.Past.{confirmers_in}
use Rattle.agent_model.specs.Agents.{Outcome}
use Rattle.agent_model.specs.Outputs.{has_one}
use Rattle.agent_commit_law.specs.Committing.{IsCommitInputOf, IsSent, is_carrying, committer_seen, is_claim_outside_sync, live_shown, requests_of}

-- who holds the leader key asks with a live server that it carry a set for the failsafe key
pub record IsShown (s : State) (m : ℕ) (o after : Outcome) (input : AgentInput) : Type 0 where
  pub agent : input.agent ≡ committer_seen after.role after.knows
  pub live : input.live ≡ live_shown o after
  pub required : input.required ≡ confirmers_in after.machine.replication.required
  pub sends : IsSent (requests_of m o.knows.incarnation after.outputs) input.sends
  pub holder_was_live : (input.holder_was_live ≡ s.holder_was_live) ⊎ HolderCarries s m input
  pub inside : has_one is_claim_outside_sync after.outputs ≡ false

pub shown : (s : State) (m : ℕ) (o after : Outcome) (input : AgentInput) → IsCommitInputOf s m o after input
    → (has_one is_carrying after.outputs ≡ true → live_shown o after ≡ true) → IsShown s m o after input
shown s m o after input is carried = record {
  agent = is.agent;
  live = is.live;
  required = is.required;
  sends = is.sends;
  holder_was_live = elim is.holder_was_live [
    | inl same ↦ inl same
    | inr asks ↦ inr (record {
      revision = asks.revision;
      leader = asks.leader;
      holder = asks.holder;
      live = is.live ∙ carried asks.carries;
    })
  ];
  inside = is.inside;
}
