use Rattle.std.proofs.Common.{ℕ, List, ◌++◌, string_bytes, ap, ◌∙◌, sym}
use Rattle.script_words.specs.Lines.{ended}
use Rattle.script_printing.proofs.LineLaws.{written-more, member-here}
use Rattle.script_printing.proofs.head_printing.write_member_at.Goals as goal

pub returns : goal.returns
returns c =
    written-more c.write_declaration.result c.write_declaration.ensures (λ wrote.
    wrote ∙ ap (λ (lines : List (List ℕ)). string_bytes c.args.text.now ++ ended lines)
    (member-here c.args.head.now.members c.args.place c.in-Some-Some.name c.in-Some-Some.options
    (sym c.member.ensures.value ∙ c.in-Some-Some.is-0) (sym c.options.ensures.value ∙ c.in-Some-Some.is-1)))
