-- What the law of one writer gives to this one.
use Rattle.std.specs.Prelude.{ℕ, ◌≡◌, ◌≤◌, true, false, List, Option, Some, None}
use Rattle.event_book.specs.declared.event.Event.{Event}
use Rattle.lease_model.specs.Leases.{LeaderKey, FailsafeKey}
use Rattle.lease_model.specs.States as lease
use Rattle.lease_model.specs.Inputs.{Fed}
use Rattle.event_book.specs.Premises.{IsOnTime}
use Rattle.lease_model.specs.Carried as lease_carried
use Rattle.lease_model.specs.Past as lease_past
use Rattle.commit_actions.specs.States.{Machine, is_ready, Acts}
use Rattle.commit_actions.specs.Past.{Past, past_over, leader_revision, is_keyless}

-- what lease_law gives: where both laws see the same servers live and the same agents Ready
pub record LeaseGives : Type 0 where
  -- the law of one writer reads the same of a book
  pub reads : (past : Past) (book : List Event) → (past_over past book).lease ≡ lease_past.past_over past.lease book
  -- a grant that is heard in time is the present leader key
  pub present : (s : lease.State) (m : ℕ) (heard : Option ℕ) → lease_carried.IsSound s → (fed : Fed s m heard)
      → IsOnTime (s.declared.margin m) s.clock fed.grant.moment → leader_revision s.leader ≡ Some fed.grant.revision
  -- where no hold is active, nobody acts beside who hears it
  pub alone : (s : lease.State) (members : ℕ → Machine) (m : ℕ) (heard : Option ℕ) → lease_carried.IsSound s
      → (fed : Fed s m heard) → IsOnTime (s.declared.margin m) s.clock fed.grant.moment → (s.members m).hold ≤ s.clock
      → ((n : ℕ) → (members n).live ≡ (s.members n).live)
      → ((n : ℕ) → is_ready (members n).agent ≡ lease.is_ready (s.members n).agent) → (n : ℕ) → Acts (members n) → n ≡ m
  -- without a leader key and a failsafe key nobody acts
  pub keyless : (s : lease.State) (members : ℕ → Machine) → lease_carried.IsSound s
      → is_keyless s.leader s.failsafe ≡ true
      → ((n : ℕ) → (members n).live ≡ (s.members n).live)
      → ((n : ℕ) → is_ready (members n).agent ≡ lease.is_ready (s.members n).agent) → (n : ℕ) → Acts (members n) → ⊥
  -- without a leader key nobody is Ready
  pub leaderless : (s : lease.State) (members : ℕ → Machine) → lease_carried.IsSound s → s.leader ≡ None
      → ((n : ℕ) → is_ready (members n).agent ≡ lease.is_ready (s.members n).agent) → (n : ℕ)
      → is_ready (members n).agent ≡ true → ⊥
  -- where a member that isn't live has no active hold, and the
  -- failsafe key lists it, whoever is live holds the leader key
  pub holds : (s : lease.State) (members : ℕ → Machine) (m : ℕ) → lease_carried.IsSound s → (s.members m).hold ≤ s.clock
      → ((f : FailsafeKey) → s.failsafe ≡ Some f → f.members m ≡ true) → (s.members m).live ≡ false
      → ((n : ℕ) → (members n).live ≡ (s.members n).live) → (n : ℕ) → (members n).live ≡ true
      → (k : LeaderKey) × (s.leader ≡ Some k) × (k.holder ≡ n)
