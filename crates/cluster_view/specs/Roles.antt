-- What the role of an agent says.
use Rattle.std.specs.Prelude.{Bool, true, false}
use Rattle.cluster_view.specs.declared.view.RoleWord.{RoleWord}
use Rattle.cluster_view.specs.declared.view.RoleWord.TheVariants as roles

-- an agent in this role has the leader key
abbrev pub has_key : RoleWord → Bool
has_key roles.Follower = false
has_key roles.Holder = true
has_key roles.Ready = true
has_key roles.Leader = true
has_key roles.Ending = true
has_key roles.Unleased = false
