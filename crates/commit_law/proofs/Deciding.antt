-- A decision of the key store leaves the members as they were.
use Rattle.std.proofs.Common.{ℕ, ◌≡◌, Bool, true, false, Option, Some, refl}
use Rattle.commit_actions.specs.Actions.{decide_at, with_decision, with_grant}
use Rattle.commit_actions.specs.Flights.{Aim, ClaimSync, CreateLeader, Flying, PublishStandbys, Requested, SyncRequest}
use Rattle.commit_actions.specs.States.{State}

granted-members : (s : State) (i j : ℕ) (request : SyncRequest) (aim : Aim)
    → (with_grant s i j request aim).members ≡ s.members
granted-members s i j request CreateLeader = refl
granted-members s i j request ClaimSync = refl
granted-members s i j request (PublishStandbys standbys quorum) = refl

decision-members : (s : State) (i j : ℕ) (request : SyncRequest) (granted : Bool)
    → (with_decision s i j request granted).members ≡ s.members
decision-members s i j request true = granted-members s i j request request.aim
decision-members s i j request false = refl

pub decided-members : (s : State) (i j : ℕ) (found : Option Flying) → (decide_at s i j found).members ≡ s.members
decided-members s i j (Some (Requested request)) = decision-members s i j request _
decided-members s i j _ = refl
