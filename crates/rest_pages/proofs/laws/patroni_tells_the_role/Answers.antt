use Rattle.rest_pages.proofs.Told.{role-is-told, standby-is-told}
use Rattle.rest_pages.proofs.laws.patroni_tells_the_role.Goals as goal

pub returns-clause-role : goal.returns-clause-role
returns-clause-role c = role-is-told

pub returns-clause-standby : goal.returns-clause-standby
returns-clause-standby c = standby-is-told
