-- That servers lack commits changes nothing.
use Rattle.std.proofs.Common.{◌≡◌, ℕ, ◌+◌, Bool, true, false, List, [], ◌∷◌, ◌++◌, Option, Some, None, append_assoc, arith, refl, ◌∙◌, ap, sym}
use Rattle.std.specs.Prelude.{slice_get}
use Rattle.std.proofs.lemmas.List.{map-append}
use Rattle.pg_model.specs.Facts.{ServerFacts}
use Rattle.event_book.specs.declared.event.Event.{Event}
use Rattle.event_book.specs.declared.event.EventKind.{EventKind}
use Rattle.event_book.specs.declared.member.Member.{Member}
use Rattle.event_list.specs.Listed.{Listed, ◌+++◌}
use Rattle.cluster_model.specs.Cluster.{cluster_over}
use Rattle.cluster_model.specs.Commands.{kinds_of}
use Rattle.cluster_model.specs.Losing.{is_lacking, loss_if, loss_of, losses_of}
use Rattle.cluster_model.specs.Parts.{events_at, events_of}
use Rattle.cluster_model.specs.State.{Cluster}
use Rattle.world_model.specs.Emits.{Emits}
use Rattle.world_model.proofs.Rooms.{HasRoom-fewer}
use Rattle.world_model.proofs.Taking.{cluster_over-append}

-- these happenings, at the moment of a cluster
abbrev pub at_once : Cluster → List EventKind → List Event
at_once cluster kinds = events_at (record { 0 = cluster.facts.clock }) kinds

-- they change nothing
pub record IsQuiet (cluster : Cluster) (kinds : List EventKind) : Type 0 where
  pub behind : (more : List EventKind)
      → events_of cluster (kinds ++ more) ≡ at_once cluster kinds ++ events_of cluster more
  pub still : cluster_over cluster (at_once cluster kinds) ≡ cluster

quiet-none : (cluster : Cluster) → IsQuiet cluster []
quiet-none cluster = record { behind = λ more. refl; still = refl }

quiet-both : (cluster : Cluster) (xs ys : List EventKind) → IsQuiet cluster xs → IsQuiet cluster ys
    → IsQuiet cluster (xs ++ ys)
quiet-both cluster xs ys one two = record {
  behind = λ more. ap (events_of cluster) (append_assoc xs ys more) ∙ one.behind (ys ++ more)
      ∙ ap (λ es. at_once cluster xs ++ es) (two.behind more)
      ∙ sym (append_assoc (at_once cluster xs) (at_once cluster ys) (events_of cluster more))
      ∙ ap (λ es. es ++ events_of cluster more) (sym (map-append _ xs ys));
  still = ap (cluster_over cluster) (map-append _ xs ys)
      ∙ cluster_over-append cluster (at_once cluster xs) (at_once cluster ys)
      ∙ ap (λ c. cluster_over c (at_once cluster ys)) one.still ∙ two.still;
}

quiet-if : (cluster : Cluster) (member : Member) (is : Bool) → IsQuiet cluster (kinds_of (loss_if member is))
quiet-if cluster member true = record { behind = λ more. refl; still = refl }
quiet-if cluster member false = quiet-none cluster

quiet-at : (cluster : Cluster) (commit : ℕ) (member : Member) (found : Option ServerFacts)
    → IsQuiet cluster (loss_of commit member found)
quiet-at cluster commit member None = quiet-none cluster
quiet-at cluster commit member (Some s) = quiet-if cluster member (is_lacking commit s)

pub losses-quiet : (cluster : Cluster) (commit : ℕ) (known : List ServerFacts) (members : List Member)
    → IsQuiet cluster (losses_of commit known members)
losses-quiet cluster commit known [] = quiet-none cluster
losses-quiet cluster commit known (member ∷ members) =
    quiet-both cluster (loss_of commit member (slice_get known member.id.number)) (losses_of commit known members)
    (quiet-at cluster commit member (slice_get known member.id.number)) (losses-quiet cluster commit known members)

-- they were written down
pub quiet-took : (cluster : Cluster) (kinds : List EventKind) (had has : Listed) → IsQuiet cluster kinds
    → has ≡ had +++ at_once cluster kinds → Emits cluster cluster had has (at_once cluster kinds) 0
quiet-took cluster kinds had has quiet is = record {
  state = sym quiet.still;
  event = is;
  room = λ more room. HasRoom-fewer cluster (0 + more) more (omega arith) room;
}
