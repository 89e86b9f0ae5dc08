use Rattle.std.proofs.Common.{◌≡◌, drop}
use Rattle.leader_race.specs.Peers.{earlier, first_of}
use Rattle.agent_model.specs.HandingOver.{is_successor}
use Rattle.agent_leadership.proofs.handing_over.successor_by.Given as goal

abbrev pub invariant-loop-answer : goal.invariant-loop-answer
invariant-loop-answer l =
    earlier l.first (first_of (is_successor l.knows l.server l.failover) (drop l.answer-index l.knows.answers))
    ≡ first_of (is_successor l.knows l.server l.failover) l.knows.answers
