use Rattle.std.proofs.Common.{◌∙◌, ap, length, unwrap_or}
use Rattle.member_rows.specs.Rows.{is_before}
use Rattle.member_rows.proofs.Placing.{position-or-length}
use Rattle.member_rows.proofs.rows.place_of.Goals as goal

pub returns-clause-place : goal.returns-clause-place
returns-clause-place c =
    c.unwrap_or.ensures
    ∙ ap (λ place. unwrap_or place (length c.args.rows.now)) c.first_later.ensures
    ∙ position-or-length (is_before c.args.row.now) c.args.rows.now
