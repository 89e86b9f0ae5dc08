use Rattle.world_fields.proofs.Losses.{losses-end, losses-more}
use Rattle.world_fields.proofs.acknowledging.tell_losses.Goals as goal

pub loop-member-preserved : goal.loop-member-preserved
loop-member-preserved c =
    losses-more c.args.commit c.args.servers.now c.args.members.now c.args.tick c.loop-member.events
    c.tell_loss.new.events _ c.loop-member.member-index c.member-item.result c.loop-member-test.true c.member-item.is
    c.in_ok-tell_loss.ensures c.loop-member.invariant

pub returns : goal.returns
returns c = losses-end c.args.commit c.args.servers.now c.args.members.now c.args.tick c.loop-member.events _
    c.loop-member.member-index c.loop-member-test.false c.loop-member.invariant
