use Rattle.std.proofs.Common.{ap, sym, ◌∙◌}
use Rattle.pg_cluster.specs.Completing.{first_completion}
use Rattle.pg_cluster.proofs.Completions.{first-seen, next-is}
use Rattle.pg_cluster.proofs.servers.Servers.next_completion.Goals as goal

pub returns : goal.returns
returns c =
    let most = c.args.most.0 in
    let first = c.first_completion.ensures ∙ ap (first_completion most) c.deref.ensures.value
    ∙ sym (first-seen most c.self.inside.servers.items) ∙ ap (first_completion most) c.self.view_is in
    let next = next-is most c.first_completion.result.0 c.args.self.now first in
    record { most = next.within; before = next.before; least = next.least }
