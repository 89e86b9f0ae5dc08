-- Worlds and the books that they stand for.
use Rattle.std.proofs.Common.{◌≡◌, ℕ, List, [], ◌∷◌, ◌++◌, ◌∙◌, ap, sym, refl}
use Rattle.pg_model.specs.Facts.{ServerFacts}
use Rattle.event_book.specs.declared.event.Event.{Event}
use Rattle.event_book.specs.Facts.{Facts, facts_over}
use Rattle.event_book.specs.Logs.{logs_in}
use Rattle.event_book.specs.Required.{required_in, confirmed_in}
use Rattle.event_book.specs.Writers.{writes_in}
use Rattle.event_book.proofs.Told.{logs-told, writes-told, required-told, confirmed-told, acknowledged-told}
use Rattle.event_list.specs.Listed.{Listed}
use Rattle.cluster_model.specs.declared.step.Step.{Step}
use Rattle.simulation.specs.Book.{StandsFor, left_by, next_of}
use Rattle.cluster_model.specs.Cluster.{cluster_after, cluster_over}
use Rattle.cluster_model.specs.State.{Cluster}
use Rattle.cluster_model.specs.Next.{next_events}
use Rattle.world_model.specs.Emits.{Emits}
use Rattle.world_model.proofs.Taking.{cluster_over-append}

-- what a book leaves is what it leaves of the facts, and where the agents stand
book-left : (cluster : Cluster) (events : List Event)
    → (cluster_over cluster events).facts ≡ facts_over cluster.facts events
book-left cluster [] = refl
book-left cluster (event ∷ events) = book-left (cluster_after cluster event.kind) events

-- what a book leaves stands for it
pub is-stands : (start : Cluster) (book : List Event) (world : Cluster) → world ≡ left_by start book
    → StandsFor start book world
is-stands start book world is =
    let facts : world.facts ≡ facts_over start.facts book = ap (λ (w : Cluster). w.facts) is ∙ book-left start book in
    let servers : world.facts.servers ≡ (facts_over start.facts book).servers = ap (λ (f : Facts). f.servers) facts in
    record {
      world_is = is;
      logs = ap logs_in facts ∙ logs-told start.facts book;
      writers = λ n declared. ap (λ (known : List ServerFacts). writes_in known n) servers
          ∙ writes-told start.facts book n declared;
      required = ap required_in servers ∙ required-told start.facts book;
      confirmed = ap confirmed_in servers ∙ confirmed-told start.facts book;
      acknowledged = ap (λ (f : Facts). f.acknowledged) facts ∙ acknowledged-told start.facts book;
    }

-- a step adds the events that come next to the book
pub step-stands : (start : Cluster) (book : List Event) (world new : Cluster) (had has : Listed) (step : Step)
    (cost : ℕ) → StandsFor start book world → Emits world new had has (next_events world step) cost
    → (has.items ≡ had.items ++ next_of start book step) × StandsFor start (book ++ next_of start book step) new
step-stands start book world new had has step cost stands took =
    let is = stands.world_is in (
      ap (λ (l : Listed). l.items) took.event ∙ ap (λ w. had.items ++ next_events w step) is,
      is-stands start (book ++ next_of start book step) new
          (took.state ∙ ap (λ w. cluster_over w (next_events w step)) is
          ∙ sym (cluster_over-append start book (next_of start book step))),
    )
