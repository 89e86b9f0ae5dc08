use Rattle.std.proofs.Common.{nat_le, ap, ◌∙◌}
use Rattle.pat_base.specs.declared.member_set.MemberSet.{MemberSet}
use Rattle.sync_state.specs.Sets.{both}
use Rattle.quorum_commit.specs.declared.quorums.Need.{Need}
use Rattle.quorum_commit.specs.Plans.{need_of}
use Rattle.quorum_commit.specs.Quorums.{size}
use Rattle.quorum_commit.proofs.Sets.{both-size}
use Rattle.quorum_commit.proofs.aims.confirmed_by.Goals as goal

pub returns : goal.returns
returns c =
    let need : Need = c.need_of-need.result in
    let sure : MemberSet = c.confirmed-sure.result in
    let needed : Need = need_of c.args.view.now.required in
    ap (nat_le need.number) (c.size.ensures ∙ both-size need.of sure c.intersection.result c.intersection.ensures)
    ∙ ap (λ (n : Need). nat_le n.number (size (both n.of sure))) c.need_of-need.ensures
    ∙ ap (λ (s : MemberSet). nat_le needed.number (size (both needed.of s))) c.confirmed-sure.ensures
