-- What a run promises of each of its moments, and how a part of a step keeps it.
use Rattle.std.specs.Prelude.{◌≡◌, ◌++◌, List}
use Rattle.event_book.specs.declared.event.Event.{Event}
use Rattle.cluster_model.specs.Cluster.{cluster_over}
use Rattle.cluster_model.specs.State.{Cluster}

-- what is promised of a book that meets premises; and what holds of book and cluster between two parts of a step
pub record Promise : Type 1 where
  pub premises : List Event → Type 0
  pub moment : List Event → Type 0
  pub between : List Event → Cluster → Type 0

-- behind this book and cluster these events keep the promise: at each moment inside them it
-- is so, and behind them the same holds between parts; each as long as the premises are met
pub record Upholds (promise : Promise) (book : List Event) (cluster : Cluster) (events : List Event) : Type 0 where
  pub inside : (front rest : List Event) → front ++ rest ≡ events → promise.premises (book ++ front)
      → promise.moment (book ++ front)
  pub behind : promise.premises (book ++ events) → promise.between (book ++ events) (cluster_over cluster events)

-- a part of a step does, behind each book and cluster of which that holds
abbrev pub UpholdsAlways : Promise → (Cluster → List Event) → Type 0
UpholdsAlways promise part =
    (book : List Event) (cluster : Cluster) → promise.between book cluster → Upholds promise book cluster (part cluster)

-- a promise that parts can keep one after another: premises of a book
-- are met by each front of it, and between two parts it is so
pub record IsComposable (promise : Promise) : Type 0 where
  pub front : (front rest : List Event) → promise.premises (front ++ rest) → promise.premises front
  pub now : (book : List Event) (cluster : Cluster) → promise.between book cluster → promise.moment book
