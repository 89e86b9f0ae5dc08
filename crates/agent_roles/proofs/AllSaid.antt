-- Who has acknowledged a failsafe request once one more acknowledgement is heard.
use Rattle.std.proofs.Common.{◌≡◌, ◌⊎◌, ℕ, ◌==◌, ◌||◌, Bool, true, false, if◌then◌else◌, Option, Some, None, refl, sym, ◌∙◌, inl, inr}
use Rattle.pat_base.specs.declared.member_id.MemberId.{MemberId}
use Rattle.pat_base.specs.declared.ticks.Ticks.{Ticks}
use Rattle.failsafe.specs.declared.asks.Ask.{Ask}
use Rattle.failsafe.specs.Asks.{counts, earliest_or, has, heard, is_within, moment_of_all, with_acknowledgement}
use Rattle.failsafe.proofs.Members.{has-with, numbers-same, within-has}
use Rattle.lease_model.proofs.Tools.{none-some}
use Rattle.agent_cases.proofs.Rows.{if-cases}

-- all that were asked have acknowledged, where there is a moment of all
pub all-within : (ask : Ask) (since : Ticks) → moment_of_all ask ≡ Some since
    → is_within ask.members ask.acknowledged ≡ true
all-within ask since e = by (is_within ask.members ask.acknowledged) refl e
  where
    by : (test : Bool) → is_within ask.members ask.acknowledged ≡ test
        → (if test then Some (earliest_or ask.made ask.earliest) else None) ≡ Some since
        → is_within ask.members ask.acknowledged ≡ true
    by true is e = is
    by false is e = absurd (none-some since e)

pub heard-members : (ask : Ask) (from : MemberId) (sent : Ticks) → (heard ask from true sent).members ≡ ask.members
heard-members ask from sent = if-cases (λ (x : Ask). x.members ≡ ask.members) (counts ask from true)
    (with_acknowledgement ask from sent) ask (λ _. refl) (λ _. refl)

-- who has acknowledged then did so before, or is the one that is heard
pub heard-has : (ask : Ask) (from : MemberId) (sent : Ticks) (p : ℕ)
    → has (heard ask from true sent).acknowledged p ≡ true → (has ask.acknowledged p ≡ true) ⊎ (from.number ≡ p)
heard-has ask from sent p = if-cases
    (λ (x : Ask). has x.acknowledged p ≡ true → (has ask.acknowledged p ≡ true) ⊎ (from.number ≡ p))
    (counts ask from true) (with_acknowledgement ask from sent) ask
    (λ _ e. elim (either (has ask.acknowledged p) (from.number == p) (sym (has-with ask.acknowledged from p) ∙ e)) [
      | inl before ↦ inl before
      | inr same ↦ inr (numbers-same from.number p same)
    ]) (λ _ e. inl e)
  where
    either : (a b : Bool) → a || b ≡ true → (a ≡ true) ⊎ (b ≡ true)
    either true b e = inl refl
    either false b e = inr e

-- where all that were asked have acknowledged with this acknowledgement,
-- each of them did so before, or gives this one
pub all-said : (ask : Ask) (from : MemberId) (sent since : Ticks)
    → moment_of_all (heard ask from true sent) ≡ Some since
    → (p : ℕ) → has ask.members p ≡ true → (has ask.acknowledged p ≡ true) ⊎ (from.number ≡ p)
all-said ask from sent since all p member = heard-has ask from sent p
    (within-has (heard ask from true sent).members (heard ask from true sent).acknowledged
    (all-within (heard ask from true sent) since all) p (heard-is-member member))
  where
    heard-is-member : has ask.members p ≡ true → has (heard ask from true sent).members p ≡ true
    heard-is-member is = if-cases (λ (x : Ask). has x.members p ≡ true) (counts ask from true)
        (with_acknowledgement ask from sent) ask (λ _. is) (λ _. is)
