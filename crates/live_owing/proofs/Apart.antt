-- What is owed at a member comes of what happened there.
use Rattle.std.proofs.Common.{ℕ, ◌≡◌, ◌≢◌, ◌<◌, Bool, true, false, List, [], ◌∷◌, length, arith, refl, sym, ap, subst, ◌∙◌}
use Rattle.std.specs.Prelude.{◌==◌, if◌then◌else◌, Option, None, slice_index_or, slice_set}
use Rattle.std.proofs.lemmas.Bool.Decides.{nat_tests}
use Rattle.std.proofs.lemmas.List.{get_or-set_other, get_or-replicate, length-set}
use Rattle.std.proofs.lemmas.Grind.{get_or-set_at}
use Rattle.pat_base.specs.declared.member_id.MemberId.{MemberId}
use Rattle.pat_base.specs.declared.member_id.TheConstants.{MOST_MEMBERS}
use Rattle.live_owing.specs.declared.waiting.Debt.{Debt}
use Rattle.live_owing.specs.Courses.{owed_behind}
use Rattle.live_owing.specs.Ledger.{HappenedAt, happened_at, happenings_at, ledger_behind, nothing_owed, owed_at}
use Rattle.live_owing.specs.Owed.{Happening, owed_after}

-- what happens at a member changes what is owed there, and nothing elsewhere
at-one : (ledger : List (Option Debt)) (member other : MemberId) (happening : Happening) (it : Bool)
    → length ledger ≡ MOST_MEMBERS → (other.number == member.number) ≡ it
    → owed_at (happened_at other happening ledger) member
    ≡ (if it then owed_after (owed_at ledger member) happening else owed_at ledger member)
at-one ledger member other happening true long it =
    let same : member.number ≡ other.number = grind (arith, nat_tests, it) in
    get_or-set_at ledger other.number member.number (owed_after (owed_at ledger other) happening) None same
    (omega (arith, long, other.below))
    ∙ ap (λ n. owed_after (slice_index_or ledger n None) happening) (sym same)
at-one ledger member other happening false long it =
    let apart : member.number ≢ other.number = grind (arith, nat_tests, it) in
    get_or-set_other ledger other.number member.number (owed_after (owed_at ledger other) happening) None apart

by-test : (it : Bool) (owed : Option Debt) (happening : Happening) (more : List Happening)
    → owed_behind (if it then owed_after owed happening else owed) more
    ≡ owed_behind owed (if it then happening ∷ more else more)
by-test true owed happening more = refl
by-test false owed happening more = refl

pub apart-from : (course : List HappenedAt) (ledger : List (Option Debt)) (member : MemberId)
    → length ledger ≡ MOST_MEMBERS
    → owed_at (ledger_behind ledger course) member ≡ owed_behind (owed_at ledger member) (happenings_at member course)
apart-from [] ledger member long = refl
apart-from (first ∷ more) ledger member long =
    apart-from more (happened_at first.member first.happening ledger) member
    (length-set ledger first.member.number (owed_after (owed_at ledger first.member) first.happening) ∙ long)
    ∙ ap (λ o. owed_behind o (happenings_at member more))
    (at-one ledger member first.member first.happening (first.member.number == member.number) long refl)
    ∙ by-test (first.member.number == member.number) (owed_at ledger member) first.happening (happenings_at member more)

pub apart : (course : List HappenedAt) (member : MemberId)
    → owed_at (ledger_behind nothing_owed course) member ≡ owed_behind None (happenings_at member course)
apart course member =
    apart-from course nothing_owed member refl
    ∙ ap (λ o. owed_behind o (happenings_at member course))
    (get_or-replicate MOST_MEMBERS member.number None None (omega (arith, member.below)))
