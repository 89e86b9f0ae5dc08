-- The servers of a cluster, by the number of their member.
use Rattle.std.specs.Prelude.{ℕ, ◌+◌, ◌^◌, ◌&&◌, nat_le, if◌then◌else◌, List, Option, Some, None, slice_get}
use Rattle.pat_base.specs.Changes.{with_changed}
use Rattle.pat_base.specs.ServerState.{writes}
use Rattle.wal_model.specs.declared.entry.Entry.{Entry}
use Rattle.wal_model.specs.Log.{end_of}
use Rattle.pg_model.specs.declared.answers.Streamed.{Streamed}
use Rattle.pg_model.specs.Facts.{ServerFacts, entries_of}
use Rattle.pg_model.specs.Replication.{entry_of, appended, news_of, after_streamed}

-- what a server is to others: without the room of its history
abbrev pub without_spare : ServerFacts → ServerFacts
without_spare s = record s { spare = 0 }

-- the entry of a commit at this server, if there is one
abbrev pub entry_at : Option ServerFacts → ℕ → ℕ → Option Entry
entry_at None serial bytes = None
entry_at (Some s) serial bytes = if writes s.state && nat_le (end_of (entries_of s.log) + bytes) (2 ^ 63)
    then Some (entry_of s serial bytes) else None

-- the entry of a commit, where the server at the place accepts writes and its log doesn't pass 2^63 bytes
abbrev pub entry_for : List ServerFacts → ℕ → ℕ → ℕ → Option Entry
entry_for servers place serial bytes = entry_at (slice_get servers place) serial bytes

-- a server with the entry, if there is one
abbrev pub after_entry : Option Entry → ServerFacts → ServerFacts
after_entry None s = s
after_entry (Some entry) s = appended entry s

-- the servers after that
abbrev pub committed_at : List ServerFacts → ℕ → Option Entry → List ServerFacts
committed_at servers place None = servers
committed_at servers place (Some entry) = with_changed servers place (appended entry)

-- what the first of these servers gets from the second, if both are there
abbrev pub news_between : Option ServerFacts → Option ServerFacts → ℕ → Option Streamed
news_between None upstream most = None
news_between (Some s) None most = None
news_between (Some s) (Some upstream) most = news_of s upstream most

-- what the replica at a place gets from the server at another one, where that changes anything
abbrev pub news_at : List ServerFacts → ℕ → ℕ → ℕ → Option Streamed
news_at servers place from most = news_between (slice_get servers place) (slice_get servers from) most

-- the servers after such news from an upstream, if it is there
abbrev pub after_streamed_from : List ServerFacts → ℕ → Streamed → Option ServerFacts → List ServerFacts
after_streamed_from servers place news None = servers
after_streamed_from servers place news (Some upstream) =
    with_changed servers place (λ s. after_streamed news s upstream)

-- the servers after such news, if there are any
abbrev pub after_news_at : List ServerFacts → ℕ → ℕ → Option Streamed → List ServerFacts
after_news_at servers place from None = servers
after_news_at servers place from (Some news) = after_streamed_from servers place news (slice_get servers from)

-- the servers after that
abbrev pub streamed_at : List ServerFacts → ℕ → ℕ → ℕ → List ServerFacts
streamed_at servers place from most = after_news_at servers place from (news_at servers place from most)
