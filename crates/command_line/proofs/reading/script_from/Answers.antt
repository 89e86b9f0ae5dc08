use Rattle.std.proofs.Common.{◌∙◌, ap, sym, Some, []}
use Rattle.std.proofs.lemmas.Result.{IfOk-weaker, IfErr-weaker, MatchResult-from_both}
use Rattle.script_grammar.specs.Limits.{limit_of}
use Rattle.script_grammar.specs.Reading.{script_of}
use Rattle.command_line.proofs.Input.{limit_of-take, reads-all, refuses-none, Refuses-all, some-bytes}
use Rattle.command_line.proofs.reading.script_from.Goals as goal

pub returns-clause-script : goal.returns-clause-script
returns-clause-script g c =
    IfOk-weaker c.script_in.result _ _
    (λ script read all is.
    let front = sym (c.deref.ensures.value ∙ c.in_ok-bytes.ensures.bytes all is) in
    let none = ap (limit_of c.args.waited) front ∙ read.0 in (
      sym (limit_of-take c.args.waited all) ∙ none,
      ap script_of (sym (reads-all c.args.waited all none).0 ∙ front) ∙ read.1,
    ))
    c.script_in.ensures.script

pub returns-clause-end : goal.returns-clause-end
returns-clause-end g c =
    IfOk-weaker c.script_in.result _ _
    (λ script read all is. c.in_ok-bytes.ensures.after all is ∙ ap Some
    (reads-all c.args.waited all
    (ap (limit_of c.args.waited) (sym (c.deref.ensures.value ∙ c.in_ok-bytes.ensures.bytes all is)) ∙ read.0)).1)
    c.script_in.ensures.script

pub returns-clause-refuses : goal.returns-clause-refuses
returns-clause-refuses g c =
    IfErr-weaker c.script_in.result _ _
    (λ ending refuses all is.
    Refuses-all c.args.waited ending _ all (c.deref.ensures.value ∙ c.in_ok-bytes.ensures.bytes all is) refuses)
    c.script_in.ensures.refuses

pub returns-in_err-bytes-clause-bytes : goal.returns-in_err-bytes-clause-bytes
returns-in_err-bytes-clause-bytes g c =
    some-bytes (g.S.Source.rest c.args.input.now) [] _
    (λ all is.
    refuses-none c.args.waited c.in_err-bytes.field-0.0 c.from_residual.result _ all c.from_residual.ensures.1)
    (refuses-none c.args.waited c.in_err-bytes.field-0.0 c.from_residual.result _ [] c.from_residual.ensures.1)

pub returns-clause-bytes : goal.returns-clause-bytes
returns-clause-bytes g c =
    some-bytes (g.S.Source.rest c.args.input.now) c.in_ok-bytes.bytes.items _
    (λ all is.
    MatchResult-from_both c.script_in.result _ _
    (IfOk-weaker c.script_in.result _ _ (λ script read. read all is) (returns-clause-script g c))
    (IfErr-weaker c.script_in.result _ _ (λ ending refuses. refuses all is) (returns-clause-refuses g c)))
    (rw c.deref.ensures.value at
    (MatchResult-from_both c.script_in.result _ _ c.script_in.ensures.script c.script_in.ensures.refuses))
