-- What the law of one writer gives to an agent that arms.
use Rattle.std.proofs.Common.{◌≡◌, ℕ, ◌≤◌, true, false, List, [], ◌∷◌, Option, Some, None, refl, ◌∙◌, ap, sym, arith, inl, inr}
use Rattle.event_book.specs.declared.event.Event.{Event}
use Rattle.lease_model.specs.Leases.{LeaderKey, FailsafeKey}
use Rattle.lease_model.specs.States as lease
use Rattle.lease_model.specs.Inputs.{Fed}
use Rattle.event_book.specs.Premises.{IsOnTime}
use Rattle.lease_model.specs.Carried as lease_carried
use Rattle.lease_model.specs.Past as lease_past
use Rattle.lease_law.proofs.Fed.{fed-ok, newcomer}
use Rattle.lease_model.proofs.Tools.{none-some, both}
use Rattle.commit_actions.specs.States.{Machine, is_ready, Acts}
use Rattle.commit_actions.specs.Past.{Past, past_after, past_over, leader_revision, is_keyless}

-- what the law of one writer reads of a book
pub same-lease : (past : Past) (book : List Event) → (past_over past book).lease ≡ lease_past.past_over past.lease book
same-lease past [] = refl
same-lease past (event ∷ book) = same-lease (past_after past event.kind) book

-- a grant that is heard in time is the present leader key
pub grant-present : (s : lease.State) (m : ℕ) (heard : Option ℕ) → lease_carried.IsSound s → (fed : Fed s m heard)
    → IsOnTime (s.declared.margin m) s.clock fed.grant.moment → leader_revision s.leader ≡ Some fed.grant.revision
grant-present s m heard inv fed in_time =
    let p = (fed-ok s m heard inv fed in_time).present in
    ap leader_revision p.key_is ∙ ap (λ (r : ℕ). Some r) p.revision

acts-same : (x : Machine) (y : lease.Machine) → x.live ≡ y.live → is_ready x.agent ≡ lease.is_ready y.agent
    → Acts x → lease.Acts y
acts-same x y live ready (inl e) = inl (sym live ∙ e)
acts-same x y live ready (inr e) = inr (sym ready ∙ e)

-- where no hold is active, nobody acts beside who hears it
pub grant-alone : (s : lease.State) (members : ℕ → Machine) (m : ℕ) (heard : Option ℕ) → lease_carried.IsSound s
    → (fed : Fed s m heard) → IsOnTime (s.declared.margin m) s.clock fed.grant.moment → (s.members m).hold ≤ s.clock →
    ((n : ℕ) → (members n).live ≡ (s.members n).live)
    → ((n : ℕ) → is_ready (members n).agent ≡ lease.is_ready (s.members n).agent) → (n : ℕ) → Acts (members n) → n ≡ m
grant-alone s members m heard inv fed in_time free live ready n acts =
    newcomer s m heard inv fed in_time free n (acts-same (members n) (s.members n) (live n) (ready n) acts)

free-leader : (leader : Option LeaderKey) (failsafe : Option FailsafeKey) → is_keyless leader failsafe ≡ true
    → leader ≡ None
free-leader None failsafe e = refl
free-leader (Some key) None e = absurd (both e)
free-leader (Some key) (Some f) e = absurd (both e)

free-failsafe : (leader : Option LeaderKey) (failsafe : Option FailsafeKey)
    → is_keyless leader failsafe ≡ true → failsafe ≡ None
free-failsafe None None e = refl
free-failsafe None (Some f) e = absurd (both e)
free-failsafe (Some key) None e = absurd (both e)
free-failsafe (Some key) (Some f) e = absurd (both e)

-- without a leader key and a failsafe key nobody acts
pub grant-free : (s : lease.State) (members : ℕ → Machine) → lease_carried.IsSound s
    → is_keyless s.leader s.failsafe ≡ true →
    ((n : ℕ) → (members n).live ≡ (s.members n).live)
    → ((n : ℕ) → is_ready (members n).agent ≡ lease.is_ready (s.members n).agent) → (n : ℕ) → Acts (members n) → ⊥
grant-free s members inv free live ready n acts =
    elim (inv.guarded n (acts-same (members n) (s.members n) (live n) (ready n) acts)).cover [
      | inl c ↦ none-some c.1.found_key (sym (free-leader s.leader s.failsafe free) ∙ c.1.key_is)
      | inr h ↦ none-some h.1.f (sym (free-failsafe s.leader s.failsafe free) ∙ h.1.is)
    ]

-- without a leader key nobody is Ready
pub grant-absent : (s : lease.State) (members : ℕ → Machine) → lease_carried.IsSound s → s.leader ≡ None →
    ((n : ℕ) → is_ready (members n).agent ≡ lease.is_ready (s.members n).agent) → (n : ℕ)
    → is_ready (members n).agent ≡ true → ⊥
grant-absent s members inv gone ready n e = elim (inv.guarded n (inr (sym (ready n) ∙ e))).cover [
  | inl c ↦ none-some c.1.found_key (sym gone ∙ c.1.key_is)
  | inr h ↦ both (sym (inv.ready_by_grant n (sym (ready n) ∙ e)) ∙ h.0)
]

-- where a member that isn't live has no active hold, and the failsafe
-- key lists it, whoever is live holds the leader key
pub grant-holds : (s : lease.State) (members : ℕ → Machine) (m : ℕ) → lease_carried.IsSound s
    → (s.members m).hold ≤ s.clock → ((f : FailsafeKey) → s.failsafe ≡ Some f → f.members m ≡ true)
    → (s.members m).live ≡ false →
    ((n : ℕ) → (members n).live ≡ (s.members n).live) → (n : ℕ) → (members n).live ≡ true
    → (k : LeaderKey) × (s.leader ≡ Some k) × (k.holder ≡ n)
grant-holds s members m inv free listed rests live n e =
    let g = inv.guarded n (inl (sym (live n) ∙ e)) in
    elim g.cover [
      | inl c ↦ (c.1.found_key, c.1.key_is, c.1.holder)
      | inr h ↦ absurd (omega (
        arith,
        g.later,
        free,
        h.1.spans.listed h.1.f h.1.is m (listed h.1.f h.1.is)
            (λ same. both (sym rests ∙ ap (λ (j : ℕ). (s.members j).live) same ∙ sym (live n) ∙ e)),
      ))
    ]
