-- Answers to members that ask.
use Rattle.std.specs.Prelude.{ℕ, ◌≡◌}
use Rattle.pat_base.specs.declared.lsn.Lsn.{Lsn}
use Rattle.wal_model.specs.Log.{end_of}
use Rattle.agent_model.specs.declared.output.Output.{Output}
use Rattle.agent_model.specs.declared.output.Output.TheVariants as outputs
use Rattle.agent_model.specs.declared.output.Outgoing.TheVariants as outgoing
use Rattle.commit_actions.specs.States.{HasLog, State}

-- an output that answers no other member
abbrev pub AnswersNone : Output → Type 0
AnswersNone (outputs.Message (outgoing.Answer to incarnation sequence answer)) = ⊥
AnswersNone _ = Unit {0}

-- the log of this member is there, and ends at this position
pub record LogEndsAt (s : State) (m : ℕ) (end : Lsn) : Type 0 where
  pub log : HasLog (s.members m).log
  pub end_is : end.position ≡ end_of log.entries
