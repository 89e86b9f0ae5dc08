use Rattle.std.proofs.Common.{◌∙◌}
use Rattle.command_line.proofs.Telling.{told-text}
use Rattle.command_line.proofs.reporting.report.Goals as goal

pub returns : goal.returns
returns g c = told-text c.write_all.result
    (c.as_bytes.ensures.value ∙ (c.as_str.ensures.value ∙ c.message-line.ensures)) c.write_all.ensures
