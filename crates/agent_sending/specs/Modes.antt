-- What an agent knows of failsafe mode, where each configuration has it as it is declared.
use Rattle.std.specs.Prelude.{◌≡◌, Bool, true, Some}
use Rattle.store_keys.specs.declared.action.OperatorRequest.{OperatorRequest}
use Rattle.store_keys.specs.declared.action.OperatorRequest.TheVariants as requests
use Rattle.store_keys.specs.declared.config.Config.{Config}
use Rattle.lease_model.specs.Modes.{IsModeAsked}
use Rattle.agent_model.specs.declared.output.Output.{Output}
use Rattle.agent_model.specs.declared.output.Output.TheVariants as outputs
use Rattle.agent_model.specs.declared.output.Outgoing.TheVariants as outgoing
use Rattle.cluster_view.specs.Snapshots.{SnapshotFacts, settings_in}
use Rattle.event_book.specs.Functions.{set_members}
use Rattle.agent_model.specs.declared.knowledge.Knowledge.{Knowledge}
use Rattle.agent_model.specs.declared.knowledge.FailsafeRead.{FailsafeRead}
use Rattle.agent_model.specs.declared.heard.Heard.{Heard}
use Rattle.agent_model.specs.declared.heard.Heard.TheVariants as heards
use Rattle.agent_model.specs.Agents.{Outcome}
use Rattle.agent_model.specs.Peers.{awaits_others}

-- this snapshot has a configuration, and the mode in that is so
abbrev pub TellsMode : Bool → SnapshotFacts → Type 0
TellsMode mode snapshot = (settings : Config) → (settings_in settings snapshot).failsafe_mode ≡ mode

-- an agent may ask for the free leader key: its turn read the mode so,
-- and with the mode on a failsafe key that the turn read lists its member
pub record MayTakeKey (mode : Bool) (knows : Knowledge) : Type 0 where
  pub turn : knows.turn_settings.failsafe_mode ≡ mode
  pub listed : mode ≡ true → (read : FailsafeRead) → knows.turn_failsafe ≡ Some read
      → set_members read.members knows.who.me.number ≡ true

-- an agent takes the mode to be on only where it is, knows of a failsafe key where its
-- set is confirmed, and compares positions only where it may ask for the leader key then
pub record KeepsMode (mode : Bool) (knows : Knowledge) : Type 0 where
  pub settings : knows.settings.failsafe_mode ≡ true → mode ≡ true
  pub confirmed : knows.confirmed ≡ true → knows.informed ≡ true
  pub races : awaits_others knows.waited ≡ true → MayTakeKey mode knows

-- a configuration that an operator asks for has the mode so
abbrev pub IsModeRequested : Bool → OperatorRequest → Type 0
IsModeRequested mode (requests.Configuration config) = config.config.failsafe_mode ≡ mode
IsModeRequested mode _ = Unit {0}

-- the snapshot that is heard, or the configuration that an operator asks for, if there is one, has the mode so
abbrev pub HearsMode : Bool → Heard → Type 0
HearsMode mode (heards.ReadAnswered sequence snapshot) = TellsMode mode snapshot
HearsMode mode (heards.Granted sequence grant snapshot) = TellsMode mode snapshot
HearsMode mode (heards.Operated action) = IsModeRequested mode action.asked
HearsMode mode _ = Unit {0}

-- a configuration that an output asks for has the mode so
abbrev pub AsksMode : Bool → Output → Type 0
AsksMode mode (outputs.Message (outgoing.Send to sequence body)) = IsModeAsked mode body
AsksMode mode _ = Unit {0}

-- an input leaves that so
abbrev pub LeavesMode : Heard → Outcome → Outcome → Type 0
LeavesMode heard o after = (mode : Bool) → HearsMode mode heard → KeepsMode mode o.knows → KeepsMode mode after.knows
