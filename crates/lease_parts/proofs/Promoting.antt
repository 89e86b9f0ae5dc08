-- Behind an operator's promotion nothing is owed.
use Rattle.std.proofs.Common.{◌≡◌, ◌++◌, List, [], ◌∷◌, subst}
use Rattle.event_book.specs.declared.event.Event.{Event}
use Rattle.event_book.specs.Writers.{HasOneWriter}
use Rattle.script_model.specs.Script.{HeadText}
use Rattle.cluster_model.specs.State.{Cluster}
use Rattle.lease_model.specs.Actions.{Note}
use Rattle.event_book.specs.Premises.{AreHandsOff, IsHandsOffKind}
use Rattle.lease_law.proofs.Runs.{head-is, one-front-of}
use Rattle.lease_parts.specs.Bridged.{Bridged}
use Rattle.lease_parts.specs.Declaring.{declared_of}
use Rattle.lease_parts.specs.Kept.{MeetsPremises, IsKept}
use Rattle.lease_parts.specs.Volatile.{volatile_of}

pub hands-off-back : (book rest : List Event) → AreHandsOff (book ++ rest) → AreHandsOff rest
hands-off-back [] rest is = is
hands-off-back (event ∷ book) rest is = hands-off-back book rest is.1

-- events of which the first breaks a premise
pub kept-breach : (head : HeadText) (book : List Event) (cluster : Cluster) (event : Event) (events : List Event)
    → (IsHandsOffKind event.kind → ⊥) → Bridged head book cluster
    → IsKept head book cluster (event ∷ events)
kept-breach head book cluster event events breach good = record {
  inside = sole;
  behind = λ meets. absurd (breach (hands-off-back book (event ∷ events) meets.hands_off.events).0);
}
  where
    sole : (front rest : List Event) → front ++ rest ≡ event ∷ events → MeetsPremises head (book ++ front)
        → HasOneWriter (book ++ front)
    sole [] rest e meets = one-front-of (declared_of head) book (volatile_of cluster) Note [] good.carried tt
    sole (x ∷ front) rest e meets =
        absurd (breach (subst (λ (z : Event). IsHandsOffKind z.kind) (head-is x event (front ++ rest) events e)
        (hands-off-back book (x ∷ front) meets.hands_off.events).0))
