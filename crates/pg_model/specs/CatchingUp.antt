-- A replica that hears of its upstream.
use Rattle.std.specs.Prelude.{◌≡◌, ℕ, Bool, true, false, List, Option, option_map}
use Rattle.pat_base.specs.declared.server_id.ServerId.{ServerId}
use Rattle.wal_model.specs.declared.entry.Entry.{Entry}
use Rattle.wal_model.specs.declared.entry.HistoryPoint.{HistoryPoint}
use Rattle.wal_model.specs.Log.{IsPrefixOf, fork_of}
use Rattle.pat_base.specs.Lsn.{lsn_at}
use Rattle.pg_model.specs.declared.answers.Streamed.{Streamed}
use Rattle.pg_model.specs.declared.answers.Streamed.TheVariants as streams
use Rattle.pg_model.specs.declared.server.catching_up.Met.{Met}
use Rattle.pg_model.specs.declared.server.catching_up.Met.TheVariants as mets
use Rattle.pg_model.specs.Facts.{ServerFacts, entries_of}
use Rattle.pg_model.specs.Replication.{news_of, after_news}

-- what a server has of the cluster's log, and whom it follows
pub record LogPosition : Type 0 where
  pub log : List Entry
  pub timeline : ℕ
  pub history : List HistoryPoint
  -- the number of the server that it follows
  pub upstream : Option ℕ

-- whom a server follows, by number
abbrev pub upstream_number_of : Option ServerId → Option ℕ
upstream_number_of upstream = option_map (λ server. server.number) upstream

-- where a server stands
abbrev pub log_position_of : ServerFacts → LogPosition
log_position_of s = record {
  log = entries_of s.log;
  timeline = s.timeline;
  history = s.history;
  upstream = upstream_number_of s.upstream;
}

-- the upstream's log begins with the replica's, and they are on one timeline with one history
pub record IsBehind (s upstream : LogPosition) : Type 0 where
  pub log : IsPrefixOf s.log upstream.log
  pub timeline : s.timeline ≡ upstream.timeline
  pub history : s.history ≡ upstream.history

-- what a replica met at its upstream, as its answer
abbrev pub answer_of : Met → ServerFacts → ServerFacts → Streamed
answer_of mets.Nothing s upstream = streams.NotConnected
answer_of mets.Parted s upstream = streams.Diverged (lsn_at (fork_of (entries_of s.log) (entries_of upstream.log)))
answer_of (mets.Received count) s upstream = streams.Received count

-- it received from its upstream
abbrev pub has_received : Met → Bool
has_received (mets.Received count) = true
has_received _ = false

-- a replica is this one after it heard of its upstream, with these news; where it
-- is told to have received, it is behind the upstream, and else it stands as before
pub record CatchesUp (s upstream : ServerFacts) (most : ℕ) (after : ServerFacts) (news : Option Streamed)
    (received : Bool) : Type 0 where
  pub news_are : news ≡ news_of s upstream most
  pub after_is : after ≡ after_news news s upstream
  pub behind : received ≡ true → IsBehind (log_position_of after) (log_position_of upstream)
  pub log_position : received ≡ false → log_position_of after ≡ log_position_of s
