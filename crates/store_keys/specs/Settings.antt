-- Configurations as data.
use Rattle.std.specs.Prelude.{ℕ, List}
use Rattle.store_keys.specs.declared.config.Config.{Config}

-- the text of a configuration, and what it sets
pub record Settings : Type 0 where
  pub text : List ℕ
  pub config : Config
