use Rattle.std.proofs.Common.{map, ap, ◌∙◌}
use Rattle.pg_cluster.specs.Servers.{without_spare}
use Rattle.pg_cluster.proofs.Rounds.{without_spare-fresh}
use Rattle.pg_cluster.proofs.servers.Servers.new.Goals as goal

pub returns : goal.returns
returns c = ap (map without_spare) c.in_ok-servers.ensures ∙ without_spare-fresh c.args.count c.args.base
