use Rattle.std.proofs.Common.{◌≡◌, ◌∙◌, sym, ap, arith, []}
use Rattle.std.specs.List.{filter_map, range_with_len}
use Rattle.member_rows.specs.Rows.{in_name_order, placed, row_numbered, with_found}
use Rattle.member_rows.proofs.Walks.{walk-more}
use Rattle.member_rows.proofs.rows.rows_of.Goals as goal

pub loop-number-preserved : goal.loop-number-preserved
loop-number-preserved c =
    c.in_ok-place_found.ensures
    ∙ ap (with_found placed c.loop-number.rows.items) c.row_numbered.ensures
    ∙ ap (λ rows. with_found placed rows (row_numbered c.args.snapshot.now c.loop-number.number))
    c.loop-number.invariant
    ∙ sym (walk-more placed [] (row_numbered c.args.snapshot.now) c.loop-number.number)

pub returns : goal.returns
returns c =
    let all : c.loop-number.number ≡ 16 = omega arith in
    c.loop-number.invariant
    ∙ ap (λ n. in_name_order (filter_map (row_numbered c.args.snapshot.now) (range_with_len 0 n))) all
