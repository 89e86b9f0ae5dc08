-- Lists of events that may happen one after another.
use Rattle.std.proofs.Common.{◌≡◌, Bool, true, false, cond, List, Option, Some, None, option_map, refl, subst}
use Rattle.std.proofs.lemmas.Option.{same_Some, none-some}
use Rattle.event_book.specs.declared.event.Event.{Event}
use Rattle.event_book.specs.declared.event.EventKind.{EventKind}
use Rattle.event_book.specs.Facts.{Facts}
use Rattle.cluster_model.specs.Commands.{kinds_of}
use Rattle.cluster_model.specs.Parts.{events_of, for_some}
use Rattle.cluster_model.specs.State.{Cluster}
use Rattle.commit_servers.specs.Happening.{MayHappen, MayFollow}

pub follow-if : (cluster : Cluster) (found : Option EventKind)
    → ((kind : EventKind) → found ≡ Some kind → MayHappen cluster.facts kind)
    → MayFollow cluster.facts (events_of cluster (kinds_of found))
follow-if cluster None may = tt
follow-if cluster (Some kind) may = (may kind refl, tt)

pub follow-for_some : {X : Type 0} (facts : Facts) (found : Option X) (part : X → List Event)
    → ((x : X) → found ≡ Some x → MayFollow facts (part x)) → MayFollow facts (for_some found part)
follow-for_some facts None part may = tt
follow-for_some facts (Some x) part may = may x refl

-- where nothing is found in the first case, it is what is found in the second
pub unless-some : {X : Type 0} (b : Bool) (o : Option X) (x : X) → cond b None o ≡ Some x → o ≡ Some x
unless-some true o x e = absurd (none-some x e)
unless-some false o x e = e

-- what is found and then changed
pub mapped-some : {X Y : Type 0} (f : X → Y) (o : Option X) (P : Y → Type 0) (y : Y) → option_map f o ≡ Some y
    → ((x : X) → o ≡ Some x → P (f x)) → P y
mapped-some f None P y e each = absurd (none-some y e)
mapped-some f (Some x) P y e each = subst P (same_Some (f x) y e) (each x refl)
