-- What inputs an agent takes.
use Rattle.std.specs.Prelude.{◌≤◌, ◌^◌}
use Rattle.agent_model.specs.declared.heard.Heard.{Heard}
use Rattle.agent_model.specs.declared.heard.Heard.TheVariants.{FailsafeAsked}

-- who asks to stay primary asks for a span that is reckoned with
abbrev pub IsSpannedInput : Heard → Type 0
IsSpannedInput (FailsafeAsked from incarnation sequence ttl) = ttl.0 ≤ 2 ^ 40
IsSpannedInput _ = Unit {0}
