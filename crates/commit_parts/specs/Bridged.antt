-- What a book and a cluster in synchronous mode keep between two parts of a step, and what is promised of each moment.
use Rattle.std.specs.Prelude.{ℕ, ◌≡◌, true, List, []}
use Rattle.script_model.specs.Script.{HeadText}
use Rattle.event_book.specs.declared.event.Event.{Event}
use Rattle.cluster_model.specs.Cluster.{cluster_over}
use Rattle.cluster_model.specs.Starting.{cluster_of}
use Rattle.cluster_model.specs.State.{Cluster}
use Rattle.lease_model.specs.Past as lease_past
use Rattle.commit_law.specs.Noted.{AreNoted}
use Rattle.commit_showing.specs.Books.{KeepsNow}
use Rattle.commit_actions.specs.Keys.{strict_quorum}
use Rattle.commit_actions.specs.Carried.{IsSound}
use Rattle.commit_actions.specs.Past.{Past}
use Rattle.commit_book.specs.Flights.{IsSameBook}
use Rattle.commit_servers.specs.Acting.{Fits}
use Rattle.lease_parts.specs.Bridged.{Bridged}
use Rattle.run_promise.specs.Members.{member_count}
use Rattle.lease_parts.specs.Kept.{MeetsPremises}
use Rattle.run_promise.specs.Promise.{Promise}
use Rattle.summary_model.specs.Claims.{KeepMode}
use Rattle.commit_parts.specs.Agents.{AreAgentsSynchronous, AreSynchronous, AsksAreNumbered, TellsMembers}
use Rattle.commit_showing.specs.Order.{NamesMembers}
use Rattle.commit_parts.specs.Modes.{IsSynchronous}
use Rattle.commit_parts.specs.Ordered.{AllInOrder, StaysInOrder}
use Rattle.commit_parts.specs.Reading.{past_of, state_of_run, volatile_of}

-- what commits and the law of one writer read of a book fits a cluster of so
-- many members, in whose sync key at most so many standbys may lack a commit
pub record FitsBy (count quorum : ℕ) (past : Past) (named : lease_past.Past) (cluster : Cluster) : Type 0 where
  pub store : IsSameBook past cluster.facts
  pub servers : Fits past cluster.facts (volatile_of cluster)
  pub mode : IsSynchronous cluster.facts
  pub strict : NamesMembers count quorum past.sync
  pub told : TellsMembers count quorum cluster.facts.flight
  pub requests : AreSynchronous count quorum cluster.facts.flight
  pub agents : AreAgentsSynchronous count named.asked past.asked cluster.agents

-- a book fits a cluster of this head, of whose standbys none may lack a commit
abbrev pub FitsCommits : HeadText → List Event → Cluster → Type 0
FitsCommits head book cluster =
    FitsBy (member_count head) strict_quorum (past_of head book) (lease_past.past_of book) cluster

-- a book and a cluster that it leaves, between two actions: what both laws carry holds of them
pub record CommitsBridged (head : HeadText) (book : List Event) (cluster : Cluster) : Type 0 where
  pub lease : Bridged head book cluster
  pub fits : FitsCommits head book cluster
  pub sound : IsSound (state_of_run head book cluster)
  pub asks : AsksAreNumbered (state_of_run head book cluster) cluster.facts.flight
  pub noted : AreNoted (state_of_run head book cluster).members (past_of head book).grown
  pub reached : cluster ≡ cluster_over (cluster_of head) book
  pub ordered : AllInOrder (past_of head []) (cluster_of head) book

-- the premises: those of one writer, and synchronous mode throughout
pub record MeetsMode (head : HeadText) (book : List Event) : Type 0 where
  pub timely : MeetsPremises head book
  pub mode : KeepMode true book

-- what is promised of each moment: each server that accepts writes holds
-- each acknowledged commit, and required lists and sync key are in order
pub record KeepsInOrder (head : HeadText) (book : List Event) : Type 0 where
  pub kept : KeepsNow (past_of head book)
  pub order : StaysInOrder head book

-- that holds of each moment as long as the premises are met
abbrev pub kept_commits : HeadText → Promise
kept_commits head = record { premises = MeetsMode head; moment = KeepsInOrder head; between = CommitsBridged head }
