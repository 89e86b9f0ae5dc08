-- Lists of outputs, with room for more.
use Rattle.std.specs.Prelude.{ℕ, List}
use Rattle.agent_model.specs.declared.output.Output.{Output}

-- the outputs in order, and for how many more there is room
pub record OutputsFacts : Type 0 where
  pub outputs : List Output
  pub spare : ℕ
