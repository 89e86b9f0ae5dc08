-- Events that keep the law of one writer.
use Rattle.std.specs.Prelude.{◌≡◌, ◌++◌, List}
use Rattle.script_model.specs.Script.{HeadText}
use Rattle.event_book.specs.declared.event.Event.{Event}
use Rattle.event_book.specs.Writers.{HasOneWriter}
use Rattle.cluster_model.specs.Cluster.{cluster_over}
use Rattle.cluster_model.specs.State.{Cluster}
use Rattle.event_book.specs.Premises.{ArePremisesMet}
use Rattle.lease_model.specs.Actions.{Action, IsLawfulAction}
use Rattle.lease_model.specs.Books.{IsShown}
use Rattle.lease_model.specs.Claims.{ShowsIt}
use Rattle.lease_model.specs.Past.{past_of, state_of}
use Rattle.lease_parts.specs.Bridged.{Bridged, IsMatched}
use Rattle.run_promise.specs.Promise.{Promise, Upholds, UpholdsAlways}
use Rattle.lease_parts.specs.Volatile.{volatile_of}
use Rattle.lease_parts.specs.Declaring.{declared_of, works_of}

-- the premises of one writer, with the margins and the watchdogs that a head declares
abbrev pub MeetsPremises : HeadText → List Event → Type 0
MeetsPremises head book = ArePremisesMet (declared_of head).margin (works_of head) head.config book

-- this is so of each front of the book that meets the premises
abbrev pub WhereMet : HeadText → List Event → (List Event → Type 0) → Type 0
WhereMet head book claim = (front rest : List Event) → front ++ rest ≡ book → MeetsPremises head front → claim front

-- at most one server accepts writes, as long as the premises are met, over books and clusters that are bridged
abbrev pub one_writer : HeadText → Promise
one_writer head = record { premises = MeetsPremises head; moment = HasOneWriter; between = Bridged head }

-- behind this book and cluster these events keep the law
abbrev pub IsKept : HeadText → List Event → Cluster → List Event → Type 0
IsKept head book cluster events = Upholds (one_writer head) book cluster events

-- a part of a step keeps the law behind each book and cluster that are bridged
abbrev pub Keeps : HeadText → (Cluster → List Event) → Type 0
Keeps head part = UpholdsAlways (one_writer head) part

-- these events are this action: it is lawful, they tell it, and cluster and book fit behind them
pub record TellsAction (head : HeadText) (book : List Event) (cluster : Cluster) (events : List Event)
    (action : Action) : Type 0 where
  pub lawful : IsLawfulAction (state_of (declared_of head) (past_of book) (volatile_of cluster)) action
  pub shows : ShowsIt (state_of (declared_of head) (past_of book) (volatile_of cluster)) action events
  pub shown : IsShown (declared_of head) book (volatile_of cluster)
      (record { action = action; events = events; volatile_states = volatile_of (cluster_over cluster events) })
  pub matched : IsMatched head (past_of (book ++ events)) (cluster_over cluster events)
