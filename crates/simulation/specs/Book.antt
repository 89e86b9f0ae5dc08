-- Which books a world stands for.
use Rattle.std.specs.Prelude.{ℕ, ◌≡◌, ◌<◌, ◌++◌, List, length}
use Rattle.event_book.specs.declared.event.Event.{Event}
use Rattle.event_book.specs.Acknowledged.{acknowledged_in}
use Rattle.event_book.specs.Logs.{logs_in, logs_over}
use Rattle.event_book.specs.Required.{required_in, required_over, confirmed_in, confirmed_over}
use Rattle.event_book.specs.Writers.{writes_in, writes_over}
use Rattle.cluster_model.specs.declared.step.Step.{Step}
use Rattle.cluster_model.specs.Cluster.{cluster_over}
use Rattle.cluster_model.specs.State.{Cluster}
use Rattle.cluster_model.specs.Next.{next_events}

-- what a book that began so determines
abbrev pub left_by : Cluster → List Event → Cluster
left_by start book = cluster_over start book

-- a world is what the book determines, and what the book alone says of servers and commits is so of those that it keeps
pub record StandsFor (start : Cluster) (book : List Event) (world : Cluster) : Type 0 where
  pub world_is : world ≡ left_by start book
  pub logs : logs_in world.facts ≡ logs_over (logs_in start.facts) book
  pub writers : (n : ℕ) → n < length start.facts.servers
      → writes_in world.facts.servers n ≡ writes_over (writes_in start.facts.servers) book n
  pub required : required_in world.facts.servers ≡ required_over (required_in start.facts.servers) book
  pub confirmed : confirmed_in world.facts.servers ≡ confirmed_over (confirmed_in start.facts.servers) book
  pub acknowledged : world.facts.acknowledged ≡ start.facts.acknowledged ++ acknowledged_in book

-- the events that a step adds to a book
abbrev pub next_of : Cluster → List Event → Step → List Event
next_of start book step = next_events (left_by start book) step
