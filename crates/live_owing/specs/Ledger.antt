-- What is owed at all members.
use Rattle.std.specs.Prelude.{ℕ, ◌==◌, if◌then◌else◌, List, [], ◌∷◌, Option, None, replicate, slice_index_or, slice_set}
use Rattle.pat_base.specs.declared.member_id.MemberId.{MemberId}
use Rattle.pat_base.specs.declared.member_id.TheConstants.{MOST_MEMBERS}
use Rattle.live_owing.specs.declared.waiting.Debt.{Debt}
use Rattle.live_owing.specs.Owed.{Happening, owed_after}

-- nobody waits
abbrev pub nothing_owed : List (Option Debt)
nothing_owed = replicate MOST_MEMBERS None

-- what is owed at this member
abbrev pub owed_at : List (Option Debt) → MemberId → Option Debt
owed_at ledger member = slice_index_or ledger member.number None

-- after something happened at this member
abbrev pub happened_at : MemberId → Happening → List (Option Debt) → List (Option Debt)
happened_at member happening ledger =
    slice_set ledger member.number (owed_after (owed_at ledger member) happening)

-- something that happened at a member
pub record HappenedAt : Type 0 where
  pub member : MemberId
  pub happening : Happening

-- after all this happened, one after another
abbrev pub ledger_behind : List (Option Debt) → List HappenedAt → List (Option Debt)
ledger_behind ledger [] = ledger
ledger_behind ledger (first ∷ more) = ledger_behind (happened_at first.member first.happening ledger) more

-- of all this what happened at one member
abbrev pub happenings_at : MemberId → List HappenedAt → List Happening
happenings_at member [] = []
happenings_at member (first ∷ more) =
    if first.member.number == member.number then first.happening ∷ happenings_at member more
    else happenings_at member more
