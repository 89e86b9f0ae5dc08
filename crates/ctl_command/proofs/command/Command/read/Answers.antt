use Rattle.ctl_command.proofs.FirstWords.{line-read}
use Rattle.ctl_command.proofs.command.Command.read.Goals as goal

pub returns : goal.returns
returns c = line-read c.args.cluster.now c.args.members.now c.args.words.now _ c.command_named.result _
    c.if-is_empty.ensures c.cut_once.ensures c.command_named.ensures c.command_by.ensures
