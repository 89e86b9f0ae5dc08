-- Who may acknowledge another member's request (Patroni documentation, "DCS Failsafe Mode").
use Rattle.std.specs.Prelude.{◌&&◌, not, Bool, true, false}
use Rattle.cluster_view.specs.declared.view.AgentView.{AgentView}
use Rattle.cluster_view.specs.declared.view.RoleWord.{RoleWord}
use Rattle.cluster_view.specs.declared.view.RoleWord.TheVariants as words

-- an agent without a lease whose server isn't live
abbrev pub is_follower : RoleWord → Bool
is_follower words.Follower = true
is_follower _ = false

-- it promises not to take the leader key, where it doesn't wait for that key or for its renewal
abbrev pub may_hold : AgentView → Bool → Bool
may_hold view waiting = is_follower view.role && not waiting
