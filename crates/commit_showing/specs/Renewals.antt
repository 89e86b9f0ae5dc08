-- Renewals that carry a set for the failsafe key: who asks for one is live.
use Rattle.std.specs.Prelude.{ℕ, ◌≡◌, ◌≤◌, true, Some}
use Rattle.event_book.specs.declared.event.EventKind.{EventKind}
use Rattle.event_book.specs.declared.event.EventKind.TheVariants as kinds
use Rattle.event_book.specs.declared.event.MessageEvent.TheVariants.{Sent}
use Rattle.lease_model.specs.Leases.{LeaderKey}
use Rattle.commit_actions.specs.Past.{Past, CarryQuery, query_sent}

-- a renewal that is sent, and carries a set, compares a revision that was given before: it was read
abbrev pub ComparesGiven : Past → EventKind → Type 0
ComparesGiven past (kinds.Message (Sent number message)) =
    (m r : ℕ) → query_sent message.from message.incarnation message.sequence message.body ≡ CarryQuery m r
    → r ≤ past.lease.revision
ComparesGiven past _ = Unit {0}

-- each renewal so far that carries a set compares a revision that was given, and where the leader
-- key is its sender's and of that revision, the book says that its holder was live when it asked
pub record AreCarriedLive (past : Past) : Type 0 where
  pub given : (i m r : ℕ) → past.asked i ≡ CarryQuery m r → r ≤ past.lease.revision
  pub live : (i m r : ℕ) (key : LeaderKey) → past.asked i ≡ CarryQuery m r → past.lease.leader ≡ Some key
      → key.revision ≡ r → key.holder ≡ m → past.holder_was_live ≡ true
