use Rattle.std.proofs.Common.{◌∙◌, refl}
use Rattle.rest_pages.proofs.Told.{role-of-row}
use Rattle.rest_pages.proofs.laws.roles_are_those_of_the_keys.Goals as goal

pub returns-clause-leader : goal.returns-clause-leader
returns-clause-leader c = λ keys row leader. role-of-row keys row ∙ rw leader refl

pub returns-clause-standby : goal.returns-clause-standby
returns-clause-standby c = λ keys row other named. role-of-row keys row ∙ rw (other, named) refl

pub returns-clause-replica : goal.returns-clause-replica
returns-clause-replica c = λ keys row other unnamed. role-of-row keys row ∙ rw (other, unnamed) refl
