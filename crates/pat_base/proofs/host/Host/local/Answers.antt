use Rattle.pat_base.specs.Host.{local_host}
use Rattle.pat_base.proofs.Hosts.{host_bytes-injective}
use Rattle.pat_base.proofs.host.Host.local.Goals as goal

pub returns : goal.returns
returns c = host_bytes-injective c.made.result local_host c.made.ensures
