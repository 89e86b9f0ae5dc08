pub use Rattle.agent_turn.specs.Roles
pub use Rattle.agent_turn.specs.Room
