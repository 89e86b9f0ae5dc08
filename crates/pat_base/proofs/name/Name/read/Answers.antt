use Rattle.std.proofs.Common.{◌∙◌, sym}
use Rattle.pat_base.proofs.Names.{name_of-is, name_of-none}
use Rattle.pat_base.proofs.name.Name.read.Goals as goal

pub returns-then-is_name-clause-value : goal.returns-then-is_name-clause-value
returns-then-is_name-clause-value c =
    sym (name_of-is c.args.bytes.now (record { text = c.new.result; legal = _ }) c.new.ensures)

pub returns-else-is_name-clause-value : goal.returns-else-is_name-clause-value
returns-else-is_name-clause-value c = sym (name_of-none c.args.bytes.now (sym c.is_name.ensures ∙ c.if-is_name.false))
