use Rattle.std.proofs.Common.{◌≡◌, Option, None, Ok, sym, ap, ◌∙◌}
use Rattle.script_words.specs.Lines.{lines_in}
use Rattle.script_grammar.specs.Reading.{after_lines}
use Rattle.script_grammar.specs.Draft.{DraftText}
use Rattle.script_grammar.proofs.ReadLaws.{lines-cut, lines-read}
use Rattle.cluster_script.proofs.script_lines.ScriptLines.read.Goals as goal

pub finish-requires : goal.finish-requires
finish-requires c =
    let all : after_lines 1 None (lines_in c.self.inside.bytes.now) ≡ Ok c.add_lines.new.self =
    ap (λ (o : Option DraftText). after_lines 1 o (lines_in c.self.inside.bytes.now)) (sym c.new-draft.ensures)
    ∙ c.in_ok-end.ensures.value
    in
    λ text f.
    (lines-read (lines_in c.self.inside.bytes.now) c.add_lines.new.self text
    (lines-cut c.self.inside.bytes.now) all f).script
