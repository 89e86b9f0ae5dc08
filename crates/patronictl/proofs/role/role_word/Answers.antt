use Rattle.std.proofs.Common.{◌∙◌, ap, unwrap_or}
use Rattle.pat_cases.specs.Cases.{first_answer}
use Rattle.patronictl.specs.Roles.{word_of}
use Rattle.patronictl.specs.declared.role.TheConstants.{REPLICA}
use Rattle.patronictl.proofs.Words.{role_rows, table-words}
use Rattle.patronictl.proofs.role.role_word.Goals as goal

pub returns : goal.returns
returns c =
    c.word_of.ensures
    ∙ ap word_of c.unwrap_or.ensures
    ∙ ap (λ found. word_of (unwrap_or found REPLICA))
    (c.first.ensures.first ∙ ap (λ facts. first_answer facts role_rows) c.fact_word.ensures)
    ∙ table-words c.args.leads c.args.standby
