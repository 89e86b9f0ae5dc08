-- How the role of an agent and its server go together.
use Rattle.std.specs.Prelude.{◌≡◌, Bool, true, false}
use Rattle.agent_model.specs.Agents.{RoleFacts, Follower, Holder, Ready, Leader, Ending, Unleased}

-- who leads, ends its server or is without a lease has a live server, and who follows or is about to lead has none
abbrev pub Fits : RoleFacts → Bool → Type 0
Fits Follower live = live ≡ false
Fits (Holder revision) live = live ≡ false
Fits (Ready revision) live = live ≡ false
Fits (Leader revision) live = live ≡ true
Fits (Ending revision why) live = live ≡ true
Fits Unleased live = live ≡ true
