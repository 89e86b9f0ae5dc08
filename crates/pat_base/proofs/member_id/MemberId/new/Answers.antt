use Rattle.std.proofs.Common.{sym}
use Rattle.pat_base.proofs.Members.{member_of-number}
use Rattle.pat_base.proofs.member_id.MemberId.new.Goals as goal

pub returns-then-from-lt-MOST_MEMBERS-clause-by_number : goal.returns-then-from-lt-MOST_MEMBERS-clause-by_number
returns-then-from-lt-MOST_MEMBERS-clause-by_number c =
    sym (member_of-number (record { number = c.args.number; below = _ }))
