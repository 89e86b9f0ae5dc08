use Rattle.std.proofs.Common.{◌≤◌, ◌∙◌, rules, arith}
use Rattle.std.proofs.lemmas.Bool.{false≢true}
use Rattle.pat_outside.proofs.transfer.read_more.Goals as goal

pub returns-in_err-count-clause-consumed : goal.returns-in_err-count-clause-consumed
returns-in_err-count-clause-consumed g c = record {
  some = λ all told. (0, omega arith, c.in_err-count.ensures.same ∙ told);
}

pub returns-in_err-count-clause-fault : goal.returns-in_err-count-clause-fault
returns-in_err-count-clause-fault g c _ = c.in_err-count.ensures.failed

pub returns-in_err-count-clause-reliable : goal.returns-in_err-count-clause-reliable
returns-in_err-count-clause-reliable g c reliable = absurd (false≢true (c.in_err-count.ensures.reliable reliable).0)

pub returns-in_err-extend_from_slice-clause-consumed : goal.returns-in_err-extend_from_slice-clause-consumed
returns-in_err-extend_from_slice-clause-consumed g c =
    let within : c.in_ok-count.count ≤ c.args.most = search rules in
    record { some = λ all told. (c.in_ok-count.count, within, c.in_ok-count.ensures.after all told) }

pub returns-clause-after : goal.returns-clause-after
returns-clause-after g c = c.in_ok-count.ensures.after

pub returns-clause-consumed : goal.returns-clause-consumed
returns-clause-consumed g c =
    let within : c.in_ok-count.count ≤ c.args.most = search rules in
    record { some = λ all told. (c.in_ok-count.count, within, c.in_ok-count.ensures.after all told) }

pub returns-clause-reliable : goal.returns-clause-reliable
returns-clause-reliable g c reliable = ((c.in_ok-count.ensures.reliable reliable).1, λ e. cc)
