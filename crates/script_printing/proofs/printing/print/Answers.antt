use Rattle.std.proofs.Common.{[], ◌++◌, ◌∙◌}
use Rattle.script_words.specs.Lines.{ended}
use Rattle.script_model.specs.Script.{names_of, head_lines, body_lines}
use Rattle.script_printing.proofs.LineLaws.{two-in-turn}
use Rattle.script_printing.proofs.printing.print.Goals as goal

pub returns : goal.returns
returns c =
    two-in-turn [] _ _ (head_lines c.args.script.now.head)
    (body_lines (names_of c.args.script.now.head) c.args.script.now.body)
    (c.in_ok-write_head.ensures ∙ (λ i. c.new-text.ensures.bytes i ++ ended (head_lines (c.head.ensures.value i))))
    c.in_ok-write_body.ensures
