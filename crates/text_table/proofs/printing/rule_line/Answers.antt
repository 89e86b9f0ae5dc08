use Rattle.std.proofs.Common.{◌≡◌, ◌∙◌, ap, subst, sym, take}
use Rattle.std.proofs.lemmas.List.{take_all}
use Rattle.std.specs.Str.{IsAscii}
use Rattle.text_table.specs.Tables.{rule_line}
use Rattle.text_table.proofs.Rules.{ascii-rule}
use Rattle.text_table.proofs.printing.rule_line.Goals as goal

pub returns-clause-ascii : goal.returns-clause-ascii
returns-clause-ascii c =
    let slots = c.args.slots.now in
    let all : take c.loop-slot.slot-index slots ≡ slots =
    take_all c.loop-slot.slot-index slots c.loop-slot-test.false in
    subst IsAscii (sym (c.loop-slot.invariant ∙ ap rule_line all)) (ascii-rule slots)
