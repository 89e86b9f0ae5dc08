use Rattle.script_model.specs.Script.{names_of}
use Rattle.script_printing.proofs.RequestTexts.{method-text, body-text}
use Rattle.script_printing.proofs.command_printing.write_rest.Goals as goal

pub write_request-requires-clause-method : goal.write_request-requires-clause-method
write_request-requires-clause-method c =
    method-text (names_of c.args.head.now) c.args.member c.args.request.now c.requires

pub write_request-requires-clause-body : goal.write_request-requires-clause-body
write_request-requires-clause-body c = body-text (names_of c.args.head.now) c.args.member c.args.request.now c.requires
