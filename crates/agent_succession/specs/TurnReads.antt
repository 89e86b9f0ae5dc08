-- What a turn read of the key store stays until the next turn reads it.
use Rattle.std.specs.Prelude.{◌≡◌, false}
use Rattle.agent_model.specs.declared.heard.Heard.{Heard}
use Rattle.agent_model.specs.declared.heard.Heard.TheVariants.{ReadAnswered}
use Rattle.agent_model.specs.Agents.{Outcome}
use Rattle.agent_model.specs.Racing.{turn_keys}
use Rattle.agent_model.specs.Snapshots.{awaits_read}

-- the keys that a race is judged by are those that the last turn read: no input changes them
-- but the answer to the read that is waited for, whatever snapshot it brings
abbrev pub KeepsTurnKeys : Heard → Outcome → Outcome → Type 0
KeepsTurnKeys (ReadAnswered sequence snapshot) o after = awaits_read o.knows.waited sequence ≡ false
    → turn_keys after.knows ≡ turn_keys o.knows
KeepsTurnKeys _ o after = turn_keys after.knows ≡ turn_keys o.knows
