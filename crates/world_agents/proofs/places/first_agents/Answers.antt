use Rattle.std.proofs.Common.{◌≡◌, ◌∙◌, ◌++◌, [], ◌∷◌, Option, arith, rules}
use Rattle.agent_model.specs.Agents.{AgentFacts}
use Rattle.event_book.specs.declared.member.Member.{Member}
use Rattle.cluster_model.specs.Starting.{first_agent}
use Rattle.world_model.proofs.Starting.{mapped-end, mapped-more}
use Rattle.world_agents.proofs.places.first_agents.Goals as goal

pub push_reserved-requires : goal.push_reserved-requires
push_reserved-requires c =
    omega (arith, c.loop-member.invariant.len, c.loop-member.invariant.capacity, c.loop-member-test.true)

pub loop-member-preserved : goal.loop-member-preserved
loop-member-preserved c =
    let pushed : c.push_reserved.new.self.items ≡ c.loop-member.agents.items
    ++ first_agent c.args.scope c.args.options.now c.args.members.now c.member-item.result ∷ [] =
    search rules in
    record {
      made = mapped-more Member (Option AgentFacts)
          (first_agent c.args.scope c.args.options.now c.args.members.now) c.args.members.now c.loop-member.member-index
          c.member-item.result _ _ c.loop-member-test.true c.member-item.is c.loop-member.invariant.made pushed;
      len = omega (arith, c.loop-member.invariant.len, c.push_reserved.ensures.len);
      capacity = c.push_reserved.ensures.capacity ∙ c.loop-member.invariant.capacity;
    }

pub returns : goal.returns
returns c = mapped-end Member (Option AgentFacts) (first_agent c.args.scope c.args.options.now c.args.members.now)
    c.args.members.now c.loop-member.member-index _ c.loop-member-test.false c.loop-member.invariant.made
