use Rattle.std.proofs.Common.{◌++◌, [], ◌∷◌, List, ap, ◌∙◌}
use Rattle.pat_base.specs.declared.host.Host.{Host}
use Rattle.pat_base.specs.declared.name.Name.{Name}
use Rattle.member_options.specs.declared.member_option.MemberOptions.{MemberOptions}
use Rattle.cluster_model.specs.Machines.{declared_options}
use Rattle.event_book.specs.declared.member.Member.{Member}
use Rattle.world_model.proofs.Starting.{mapped-end, mapped-more}
use Rattle.world_parts.proofs.from_head.hosts_of.Goals as goal

pub loop-member-preserved : goal.loop-member-preserved
loop-member-preserved c =
    let pushed = c.in_ok-push.ensures.items
    ∙ ap (λ (options : MemberOptions). let hosts : List (Name × Host) =
    c.loop-member.hosts.items ++ (c.member-item.result.name, options.host) ∷ [] in hosts)
    c.declared_options.ensures in
    mapped-more Member (Name × Host) (λ (m : Member). (m.name, (declared_options c.args.options.now m).host))
    c.args.members.now c.loop-member.member-index c.member-item.result _ _ c.loop-member-test.true
    c.member-item.is c.loop-member.invariant pushed

pub returns : goal.returns
returns c = mapped-end Member (Name × Host) (λ (m : Member). (m.name, (declared_options c.args.options.now m).host))
    c.args.members.now c.loop-member.member-index _ c.loop-member-test.false c.loop-member.invariant
