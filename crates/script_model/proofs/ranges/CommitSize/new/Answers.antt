use Rattle.std.proofs.Common.{inl, inr, sym, arith, refl}
use Rattle.script_model.proofs.RangeLaws.{commit_size_of-Some, commit_size_of-None}
use Rattle.script_model.proofs.ranges.CommitSize.new.Goals as goal

pub returns-then-number-gt-LONGEST_COMMIT-clause-by_number :
    goal.returns-then-number-gt-LONGEST_COMMIT-clause-by_number
returns-then-number-gt-LONGEST_COMMIT-clause-by_number c =
    sym (commit_size_of-None c.args.number
    (λ least most. elim c.if-number-gt-LONGEST_COMMIT.either [ inl none ↦ omega arith | inr many ↦ omega arith ]))

pub returns-else-number-gt-LONGEST_COMMIT-clause-by_number :
    goal.returns-else-number-gt-LONGEST_COMMIT-clause-by_number
returns-else-number-gt-LONGEST_COMMIT-clause-by_number c = sym (commit_size_of-Some c.args.number _ refl)
