use Rattle.std.proofs.Common.{arith}
use Rattle.std.proofs.lemmas.List.{length-map}
use Rattle.event_book.specs.declared.member.Member.{Member}
use Rattle.world_fields.proofs.members.declared.Goals as goal

pub bounds-members-id : goal.bounds-members-id
bounds-members-id c = omega (arith, c.requires, length-map c.args.members.now (λ (member : Member). member.name))
