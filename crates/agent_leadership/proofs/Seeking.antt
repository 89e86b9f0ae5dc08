-- How a leader that can't reach the key store comes to stay primary.
use Rattle.std.proofs.Common.{ℕ, ◌≡◌, ◌==◌, Bool, true, false, cond, if◌then◌else◌, List, sym, ap, ◌∙◌}
use Rattle.pat_base.specs.declared.member_set.MemberSet.{MemberSet}
use Rattle.pat_base.specs.declared.ticks.Ticks.{Ticks}
use Rattle.agent_model.specs.declared.knowledge.Knowledge.{Knowledge}
use Rattle.agent_model.specs.declared.machine.Machine.{Machine}
use Rattle.agent_model.specs.declared.output.Output.{Output}
use Rattle.agent_model.specs.Agents.{RoleFacts, Follower, Leader, Outcome, outcome_from}
use Rattle.agent_model.specs.StayingPrimary.{asking_to_stay, may_stay, others_known, seeks_to_stay, stays_alone}
use Rattle.agent_model.specs.Wake.{leader_out_of_reach, leader_unanswered}
use Rattle.agent_turn.specs.Turns.{ComesTo, reached}
use Rattle.agent_turn.specs.declared.turn.Turn.{Turn}

same-outcome : (role : RoleFacts) (k k' : Knowledge) (m m' : Machine) (o o' : List Output) → k ≡ k' → m ≡ m'
    → o ≡ o' → outcome_from role k m o ≡ outcome_from role k' m' o'
same-outcome role k k' m m' o o' a b c = ap (λ (x : Knowledge). outcome_from role x m o) a
    ∙ ap (λ (x : Machine). outcome_from role k' x o) b ∙ ap (λ (x : List Output). outcome_from role k' m' x) c

-- whatever the role, which stays
seeks-by : (now : Ticks) (members : MemberSet) (role : RoleFacts) (before after : Turn)
    → ComesTo (seeks_to_stay now members) before after
    → reached role after ≡ seeks_to_stay now members (reached role before)
seeks-by now members role before after comes = by (members.bits == 0) comes.knows comes.machine comes.outputs
  where
    by : (alone : Bool)
        → after.knows.now
        ≡ (if alone then stays_alone now members (reached Follower before)
        else asking_to_stay now members (reached Follower before)).knows
        → after.machine.now
        ≡ (if alone then stays_alone now members (reached Follower before)
        else asking_to_stay now members (reached Follower before)).machine
        → after.out.now.outputs
        ≡ (if alone then stays_alone now members (reached Follower before)
        else asking_to_stay now members (reached Follower before)).outputs
        → reached role after
        ≡ (if alone then stays_alone now members (reached role before)
        else asking_to_stay now members (reached role before))
    by true knows machine outs = same-outcome role _ _ _ _ _ _ knows machine outs
    by false knows machine outs = same-outcome role _ _ _ _ _ _ knows machine outs

pub seeks-where : (now : Ticks) (revision : ℕ) (before after : Turn) (members : MemberSet)
    → ComesTo (seeks_to_stay now members) before after → members ≡ others_known before.knows.now
    → may_stay before.knows.now ≡ true
    → reached (Leader revision) after ≡ leader_unanswered now revision (reached (Leader revision) before)
seeks-where now revision before after members comes is may =
    let o : Outcome = reached (Leader revision) before in
    seeks-by now members (Leader revision) before after comes ∙ ap (λ (m : MemberSet). seeks_to_stay now m o) is
    ∙ sym (ap (λ (b : Bool). cond b (seeks_to_stay now (others_known o.knows) o) (leader_out_of_reach now revision o))
    may)
