-- Lists of events and of kinds of which something holds.
use Rattle.std.proofs.Common.{List, [], ◌∷◌, ◌++◌, Option, Some, None}
use Rattle.event_book.specs.declared.event.Event.{Event}
use Rattle.event_book.specs.declared.event.EventKind.{EventKind}
use Rattle.cluster_model.specs.Cluster.{cluster_after}
use Rattle.cluster_model.specs.Commands.{kinds_of}
use Rattle.cluster_model.specs.Parts.{events_of}
use Rattle.cluster_model.specs.State.{Cluster}
use Rattle.event_book.specs.Kinds.{AllAre}

-- it holds of each kind
abbrev pub AllKinds : (EventKind → Type 0) → List EventKind → Type 0
AllKinds P [] = Unit {0}
AllKinds P (kind ∷ more) = P kind × AllKinds P more

-- it holds of the kind that is found, if one is
abbrev pub HoldsIf : (EventKind → Type 0) → Option EventKind → Type 0
HoldsIf P None = Unit {0}
HoldsIf P (Some kind) = P kind

pub all-kinds : (P : EventKind → Type 0) (cluster : Cluster) (list : List EventKind) → AllKinds P list
    → AllAre P (events_of cluster list)
all-kinds P cluster [] all = tt
all-kinds P cluster (kind ∷ more) all = (all.0, all-kinds P (cluster_after cluster kind) more all.1)

pub one-kind : (P : EventKind → Type 0) (found : Option EventKind) → HoldsIf P found → AllKinds P (kinds_of found)
one-kind P None is = tt
one-kind P (Some kind) is = (is, tt)

pub all-both : (P : EventKind → Type 0) (xs ys : List Event) → AllAre P xs → AllAre P ys → AllAre P (xs ++ ys)
all-both P [] ys first second = second
all-both P (x ∷ xs) ys first second = (first.0, all-both P xs ys first.1 second)

pub all-more : (P Q : EventKind → Type 0) (xs : List Event) → ((kind : EventKind) → P kind → Q kind)
    → AllAre P xs → AllAre Q xs
all-more P Q [] more all = tt
all-more P Q (x ∷ xs) more all = (more x.kind all.0, all-more P Q xs more all.1)

pub all-front : (P : EventKind → Type 0) (xs ys : List Event) → AllAre P (xs ++ ys) → AllAre P xs
all-front P [] ys all = tt
all-front P (x ∷ xs) ys all = (all.0, all-front P xs ys all.1)

pub all-back : (P : EventKind → Type 0) (xs ys : List Event) → AllAre P (xs ++ ys) → AllAre P ys
all-back P [] ys all = all
all-back P (x ∷ xs) ys all = all-back P xs ys all.1

pub kinds-both : (P : EventKind → Type 0) (xs ys : List EventKind) → AllKinds P xs → AllKinds P ys
    → AllKinds P (xs ++ ys)
kinds-both P [] ys first second = second
kinds-both P (x ∷ xs) ys first second = (first.0, kinds-both P xs ys first.1 second)
