use Rattle.agent_roles.proofs.Fitting.{before-fits}
use Rattle.agent_roles.proofs.laws.role_fits_server.Goals as goal

pub returns : goal.returns
returns c now o = before-fits now o
