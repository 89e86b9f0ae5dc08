-- Parts of a step that keep the law keep it one after another.
use Rattle.std.proofs.Common.{◌≡◌, ◌++◌, List, [], Option, Some, subst}
use Rattle.script_model.specs.Script.{HeadText}
use Rattle.event_book.specs.declared.event.Event.{Event}
use Rattle.event_book.specs.Writers.{HasOneWriter}
use Rattle.cluster_model.specs.Cluster.{cluster_over}
use Rattle.cluster_model.specs.Parts.{events_then, for_some}
use Rattle.cluster_model.specs.State.{Cluster}
use Rattle.lease_model.specs.Actions.{Note}
use Rattle.lease_law.proofs.Falling.{timely-front, hands-off-front}
use Rattle.lease_law.proofs.Runs.{none-more, one-front-of}
use Rattle.lease_parts.specs.Bridged.{Bridged}
use Rattle.lease_parts.specs.Declaring.{declared_of, works_of}
use Rattle.lease_parts.specs.Kept.{MeetsPremises, IsKept, Keeps, one_writer}
use Rattle.run_promise.specs.Promise.{IsComposable}
use Rattle.lease_parts.specs.Volatile.{volatile_of}
use Rattle.run_promise.proofs.Upholding.{upheld-for_some, upheld-none, upheld-then, upholds-then}

pub premises-front : (head : HeadText) (front rest : List Event) → MeetsPremises head (front ++ rest)
    → MeetsPremises head front
premises-front head front rest meets = record {
  timely = timely-front (declared_of head).margin front rest meets.timely;
  hands_off = hands-off-front head.config (works_of head) front rest meets.hands_off;
}

-- where the law's state is bridged, at most one server accepts writes
pub one-now : (head : HeadText) (book : List Event) (cluster : Cluster) → Bridged head book cluster → HasOneWriter book
one-now head book cluster good = subst HasOneWriter (none-more book)
    (one-front-of (declared_of head) book (volatile_of cluster) Note [] good.carried tt)

pub composable : (head : HeadText) → IsComposable (one_writer head)
composable head = record { front = premises-front head; now = one-now head }

pub kept-none : (head : HeadText) (book : List Event) (cluster : Cluster) → Bridged head book cluster
    → IsKept head book cluster []
kept-none head = upheld-none (one_writer head) (composable head)

pub kept-then : (head : HeadText) (book : List Event) (cluster : Cluster) (xs ys : List Event)
    → IsKept head book cluster xs
    → (Bridged head (book ++ xs) (cluster_over cluster xs) → IsKept head (book ++ xs) (cluster_over cluster xs) ys)
    → IsKept head book cluster (xs ++ ys)
kept-then head = upheld-then (one_writer head) (composable head)

pub keeps-then : (head : HeadText) (first : Cluster → List Event) (second : Cluster → List Event)
    → Keeps head first → Keeps head second
    → Keeps head (λ cluster. events_then cluster (first cluster) second)
keeps-then head = upholds-then (one_writer head) (composable head)

pub kept-for_some : {X : Type 0} (head : HeadText) (book : List Event) (cluster : Cluster) (found : Option X)
    (part : X → List Event) → Bridged head book cluster
    → ((x : X) → found ≡ Some x → IsKept head book cluster (part x)) → IsKept head book cluster (for_some found part)
kept-for_some head = upheld-for_some (one_writer head) (composable head)
