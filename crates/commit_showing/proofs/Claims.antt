-- A claim that the key store grants names its sender.
use Rattle.std.proofs.Common.{ℕ, ◌≡◌, ◌&&◌, Bool, true, false, Option, Some, None, ap, subst}
use Rattle.lease_model.proofs.Tools.{and-first, both, eq-from}
use Rattle.commit_actions.specs.Actions.{at_revision, is_as_read, is_granted, is_leader_as_read}
use Rattle.commit_actions.specs.Carried.{IsAsRead, IsSound, NamesMember}
use Rattle.commit_actions.specs.Flights.{Aim, ClaimSync, Requested, SyncRequest}
use Rattle.commit_actions.specs.Keys.{SyncKey}
use Rattle.commit_actions.specs.States.{State}
use Rattle.commit_law.proofs.SyncOrder.{sound-order}

and-second : (a b : Bool) → (a && b) ≡ true → b ≡ true
and-second true b e = e
and-second false b e = absurd (both e)

as-read : (sync : Option SyncKey) (compared : Option ℕ) → is_as_read sync compared ≡ true → IsAsRead sync compared
as-read None None e = tt
as-read None (Some r) e = absurd (both e)
as-read (Some key) None e = absurd (both e)
as-read (Some key) (Some r) e = eq-from key.revision r e

at-leader : (leader : Option ℕ) (r : ℕ) → at_revision leader r ≡ true → leader ≡ Some r
at-leader None r e = absurd (both e)
at-leader (Some k) r e = ap (λ (n : ℕ). Some n) (eq-from k r e)

pub claim-named : (s : State) (number : ℕ) (request : SyncRequest) → IsSound s
    → s.flight number ≡ Some (Requested request) → request.aim ≡ ClaimSync
    → is_granted s.leader s.sync request ≡ true → NamesMember s.sync request.member
claim-named s number request sound at aim granted =
    (sound-order s sound).claims number request at aim
    (at-leader s.leader request.leader
    (subst (λ (a : Aim). is_leader_as_read s.leader a request.leader ≡ true) aim
    (and-first (is_leader_as_read s.leader request.aim request.leader) (is_as_read s.sync request.sync) granted)))
    (as-read s.sync request.sync
    (and-second (is_leader_as_read s.leader request.aim request.leader) (is_as_read s.sync request.sync) granted))
