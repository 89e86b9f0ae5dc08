-- What a leader owes that asks to publish standbys.
use Rattle.std.specs.Prelude.{ℕ, ◌≡◌, Bool, true, false, Some, slice_get}
use Rattle.commit_actions.specs.Flights.{SyncRequest}
use Rattle.commit_actions.specs.Keys.{MayPublish, Overlaps, SyncKey}
use Rattle.commit_actions.specs.Past.{Past, confirmers_of, position_of}
use Rattle.commit_actions.specs.States.{Reaches}
use Rattle.commit_showing.specs.Order.{IsConfirmer}

-- the request compares the present sync key, whose standbys these may be published in place of, so many of
-- which may lack a commit: they overlap the leader's required list; and by who has confirmed the position that
-- the leader noted, and so by who has confirmed the end that its log had when its required list last grew
pub record MayBePublished (member_count : ℕ) (past : Past) (leader noted : ℕ) (request : SyncRequest)
    (standbys : ℕ → Bool) (quorum : ℕ) : Type 0 where
  pub key : SyncKey
  pub is : past.sync ≡ Some key
  pub compares : request.sync ≡ Some key.revision
  pub overlaps : Overlaps member_count standbys quorum (confirmers_of (slice_get past.required leader))
  pub confirmed : MayPublish member_count key.standbys key.quorum standbys quorum
      (confirmers_of (slice_get past.required leader))
      (λ n. Reaches noted (position_of (slice_get past.confirmed leader) n))
  pub since : MayPublish member_count key.standbys key.quorum standbys quorum
      (confirmers_of (slice_get past.required leader))
      (λ n. Reaches (past.grown leader) (position_of (slice_get past.confirmed leader) n))

-- ---- in synchronous mode
-- the request compares the present sync key; and each standby that it adds to that is
-- one that the leader's commits wait for already, and has confirmed the position that
-- the leader noted, and the end that its log had when its required list last grew
pub record PublishesAwaited (past : Past) (leader noted : ℕ) (request : SyncRequest) (standbys : ℕ → Bool) : Type
    0 where
  pub key : SyncKey
  pub is : past.sync ≡ Some key
  pub compares : request.sync ≡ Some key.revision
  pub awaited : (standby : ℕ) → standbys standby ≡ true
      → IsConfirmer (confirmers_of (slice_get past.required leader)) standby
  pub confirmed : (standby : ℕ) → standbys standby ≡ true → key.standbys standby ≡ false
      → Reaches noted (position_of (slice_get past.confirmed leader) standby)
  pub since : (standby : ℕ) → standbys standby ≡ true → key.standbys standby ≡ false
      → Reaches (past.grown leader) (position_of (slice_get past.confirmed leader) standby)
