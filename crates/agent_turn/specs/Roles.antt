-- What is seen of a role.
use Rattle.leader_key.specs.Lease.{lease_revision, armed_revision, writer_revision}
use Rattle.agent_turn.specs.declared.role.Role.{Role}
use Rattle.agent_turn.specs.declared.role.Role.TheVariants as roles
use Rattle.agent_model.specs.Agents.{RoleFacts, Follower, Holder, Ready, Leader, Ending, Unleased}

-- what is seen of a role
abbrev pub role_of : Role → RoleFacts
role_of roles.Follower = Follower
role_of (roles.Holder lease) = Holder (lease_revision lease)
role_of (roles.Ready armed) = Ready (armed_revision armed)
role_of (roles.Leader writer) = Leader (writer_revision writer)
role_of (roles.Ending writer why) = Ending (writer_revision writer) why
role_of roles.Unleased = Unleased
