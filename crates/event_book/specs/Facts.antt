-- What a book of events leaves.
use Rattle.std.specs.Prelude.{ℕ, Bool, false, List, [], ◌∷◌, Option, None, length, replicate}
use Rattle.pat_base.specs.declared.name.Name.{Name}
use Rattle.pat_base.specs.declared.ticks.Ticks.{Ticks}
use Rattle.lease_store.specs.Keys.{Keys, first_keys}
use Rattle.store_keys.specs.Settings.{Settings}
use Rattle.pg_model.specs.Facts.{ServerFacts, fresh}
use Rattle.event_book.specs.declared.event.Event.{Event}
use Rattle.event_book.specs.declared.event.EventKind.{EventKind}
use Rattle.event_book.specs.declared.member.Member.{Member}
use Rattle.event_book.specs.declared.agent_process.AgentProcess.{AgentProcess}
use Rattle.event_book.specs.Acknowledged.{acknowledged_after, commits_after}
use Rattle.event_book.specs.Processes.{processes_after, first_processes}
use Rattle.event_book.specs.Clock.{now_after}
use Rattle.event_book.specs.Flight.{Flight, flight_after, sent_after}
use Rattle.event_book.specs.Frozen.{frozen_after}
use Rattle.event_book.specs.Keys.{keys_after}
use Rattle.event_book.specs.Links.{CutLinks, cuts_after, none_cut}
use Rattle.event_book.specs.Members.{members_from}
use Rattle.event_book.specs.Servers.{remote_after, servers_after}
use Rattle.event_book.specs.Watchdogs.{deadlines_after, holds_after}

-- what a book determines over the declared members: the clock, the keys, which agents run, which links
-- are cut, the messages in flight, the number of the message that was sent last, the servers of members,
-- the remote, which of the servers are frozen, when each armed watchdog resets its machine, until when each
-- member promised not to take the leader key, the number of the last commit, and the commits that were
-- acknowledged
pub record Facts : Type 0 where
  pub clock : ℕ
  pub keys : Keys
  pub members : List Member
  pub processes : List AgentProcess
  pub cuts : CutLinks
  pub flight : Flight
  pub sent : ℕ
  pub servers : List ServerFacts
  -- the primary of another cluster, whose server has the first number that no member has; absent where there is none
  pub remote : Option ServerFacts
  pub frozen : List Bool
  pub deadlines : List (Option Ticks)
  pub holds : List (Option Ticks)
  pub commits : ℕ
  pub acknowledged : List ℕ

-- what one more event leaves
abbrev pub facts_after : Facts → EventKind → Facts
facts_after facts kind = record {
  clock = now_after facts.clock kind;
  keys = keys_after (now_after facts.clock kind) facts.keys kind;
  members = facts.members;
  processes = processes_after facts.processes kind;
  cuts = cuts_after facts.cuts kind;
  flight = flight_after facts.clock facts.keys facts.flight kind;
  sent = sent_after facts.sent kind;
  servers = servers_after (now_after facts.clock kind) facts.servers facts.remote kind;
  remote = remote_after facts.remote kind;
  frozen = frozen_after facts.frozen kind;
  deadlines = deadlines_after facts.deadlines kind;
  holds = holds_after facts.holds kind;
  commits = commits_after facts.commits kind;
  acknowledged = acknowledged_after facts.acknowledged kind;
}

-- what these events leave
abbrev pub facts_over : Facts → List Event → Facts
facts_over facts [] = facts
facts_over facts (event ∷ events) = facts_over (facts_after facts event.kind) events

-- what there is before the first event, where the key store holds this configuration,
-- over members of these names, each with a server whose log has so many bytes of data
abbrev pub start_of : Settings → List Name → ℕ → Facts
start_of first names base = record {
  clock = 0;
  keys = first_keys first;
  members = members_from 0 names;
  processes = first_processes (length names);
  cuts = none_cut;
  flight = [];
  sent = 0;
  servers = replicate (length names) (fresh base);
  remote = None;
  frozen = replicate (length names) false;
  deadlines = replicate (length names) None;
  holds = replicate (length names) None;
  commits = 0;
  acknowledged = [];
}
