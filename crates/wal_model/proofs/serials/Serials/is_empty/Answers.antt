use Rattle.std.proofs.Common.{◌≡◌, ◌∙◌, length, ap, sym, arith}
use Rattle.std.proofs.lemmas.Bool.Decides.{nat_tests}
use Rattle.std.proofs.lemmas.List.{nil_from_length}
use Rattle.wal_model.specs.Serials.{serials_in}
use Rattle.wal_model.proofs.Successions.{no-runs}
use Rattle.wal_model.proofs.serials.Serials.is_empty.Goals as goal

pub returns : goal.returns
returns c =
    let runs = c.self.inside.runs.items in (
      λ empty. sym c.self.view_is
          ∙ ap serials_in (nil_from_length runs (grind (arith, nat_tests, c.is_empty.ensures, empty))),
      λ none. let e : length runs ≡ 0 = ap length (no-runs runs (c.self.view_is ∙ none)) in
          grind (arith, nat_tests, c.is_empty.ensures),
    )
