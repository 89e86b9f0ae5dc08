-- The remote primary that a standby cluster follows.
use Rattle.std.specs.Prelude.{◌≡◌, ℕ, ◌++◌, [], ◌∷◌, Some}
use Rattle.pat_base.specs.declared.server_state.State.TheVariants as states
use Rattle.pat_base.specs.declared.server_state.Required.TheVariants as requireds
use Rattle.pg_model.specs.Facts.{ServerFacts, fresh, entries_of}
use Rattle.pg_model.specs.Replication.{entry_of}
use Rattle.pg_model.specs.Running.{promoted, reserved}

-- at first: a server over so many bytes of data that was promoted once, so that it is on timeline 2
abbrev pub remote_of : ℕ → ServerFacts
remote_of base = promoted (reserved (fresh base))

-- it runs as a primary, and no commit of its clients waits for anybody
pub record IsRemote (s : ServerFacts) : Type 0 where
  pub primary : s.state ≡ states.Primary
  pub required : s.required ≡ requireds.Nobody
  pub waiting : s.waiting ≡ []

-- a commit of so many bytes stands at the end of its log
abbrev pub supplied : ℕ → ℕ → ServerFacts → ServerFacts
supplied serial bytes s = record s { log = Some (entries_of s.log ++ entry_of s serial bytes ∷ []) }
