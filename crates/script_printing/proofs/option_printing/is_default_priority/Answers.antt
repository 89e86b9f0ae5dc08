use Rattle.script_printing.proofs.OptionLaws.{priority-test}
use Rattle.script_printing.proofs.option_printing.is_default_priority.Goals as goal

pub returns : goal.returns
returns c = priority-test c.args.number c.unsaid.result c.ranges.number.sfits c.unsaid.ensures
