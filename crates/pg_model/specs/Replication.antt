-- Commits, streaming and acknowledgement.
use Rattle.std.specs.Prelude.{ℕ, ◌≡◌, ◌≤◌, ◌<◌, ◌+◌, ◌-◌, ◌++◌, ◌==◌, ◌&&◌, ◌||◌, nat_le, min, if◌then◌else◌, not, Bool, true, false, IsSomeAnd, Any, ⊤, List, [], ◌∷◌, length, drop, Option, Some, None, slice_set, slice_index_or, count_ones}
use Rattle.std.specs.List.{list_any}
use Rattle.std.specs.Int.{bit_at}
use Rattle.pat_base.specs.declared.lsn.Lsn.{Lsn}
use Rattle.pat_base.specs.declared.member_id.MemberId.{MemberId}
use Rattle.pat_base.specs.declared.member_set.MemberSet.{MemberSet}
use Rattle.pat_base.specs.declared.server_id.ServerId.{ServerId}
use Rattle.pat_base.specs.declared.server_state.Required.{Required}
use Rattle.pat_base.specs.declared.server_state.Required.TheVariants as required
use Rattle.pat_base.specs.Lsn.{lsn_at}
use Rattle.pat_base.specs.ServerState.{writes}
use Rattle.wal_model.specs.declared.entry.Entry.{Entry}
use Rattle.wal_model.specs.History.{same_points}
use Rattle.wal_model.specs.Log.{end_of, is_prefix, fork_of, received}
use Rattle.pg_model.specs.declared.answers.Streamed.{Streamed}
use Rattle.pg_model.specs.declared.answers.Streamed.TheVariants as streams
use Rattle.pg_model.specs.declared.waiting.Waiting.{Waiting}
use Rattle.pg_model.specs.Facts.{ServerFacts, entries_of}

-- it follows this server, and may receive from it
abbrev pub following : ServerId → ServerFacts → ServerFacts
following upstream s = record s { upstream = Some upstream; diverged = false }

-- the entry of a commit of so many bytes, on the timeline of the server
abbrev pub entry_of : ServerFacts → ℕ → ℕ → Entry
entry_of s serial bytes = record { serial = serial; timeline = s.timeline; bytes = bytes }

-- an entry stands at the log's end, and waits for acknowledgement
abbrev pub appended : Entry → ServerFacts → ServerFacts
appended entry s =
    let log = entries_of s.log ++ entry ∷ [] in
    record s { log = Some log; waiting = s.waiting ++ record { serial = entry.serial; end = lsn_at (end_of log) } ∷ [] }

-- a commit of so many bytes stands at the log's end, and waits for acknowledgement
abbrev pub committed : ℕ → ℕ → ServerFacts → ServerFacts
committed serial bytes s = appended (entry_of s serial bytes) s

-- what a replica gets, by whether the upstream writes, and by the two logs
abbrev pub stream_by : Bool → List Entry → List Entry → ℕ → Streamed
stream_by false mine theirs most = streams.NotConnected
stream_by true mine theirs most = if is_prefix mine theirs
    then streams.Received (min most (length theirs - length mine)) else streams.Diverged (lsn_at (fork_of mine theirs))

-- what a replica gets from its upstream: nothing where that one doesn't write, no entry where its own log is no prefix
-- of the upstream's, and else the next entries, at most so many
abbrev pub stream_of : ServerFacts → ServerFacts → ℕ → Streamed
stream_of s upstream most = stream_by (writes upstream.state) (entries_of s.log) (entries_of upstream.log) most

-- the replica has so many more entries of its upstream's log, and its timeline and history
abbrev pub received_from : ℕ → ServerFacts → ServerFacts → ServerFacts
received_from count s upstream = record s {
  log = Some (received (entries_of s.log) (entries_of upstream.log) count);
  timeline = upstream.timeline;
  history = upstream.history;
}

-- the replica after such an answer
abbrev pub after_streamed : Streamed → ServerFacts → ServerFacts → ServerFacts
after_streamed streams.NotConnected s upstream = s
after_streamed (streams.Diverged at) s upstream = record s { diverged = true }
after_streamed (streams.Received count) s upstream = received_from count s upstream

-- the replica after it got what it gets
abbrev pub streamed : ServerFacts → ServerFacts → ℕ → ServerFacts
streamed s upstream most = after_streamed (stream_of s upstream most) s upstream

-- its timeline and its history are the upstream's
abbrev pub is_current : ServerFacts → ServerFacts → Bool
is_current s upstream = (s.timeline == upstream.timeline) && same_points s.history upstream.history

-- what of an answer changes anything: by whether the logs were known to have parted, and whether the replica had the
-- timeline and the history
abbrev pub news_where : Streamed → Bool → Bool → Option Streamed
news_where streams.NotConnected diverged current = None
news_where (streams.Diverged at) diverged current = if diverged then None else Some (streams.Diverged at)
news_where (streams.Received count) diverged current =
    if (count == 0) && current then None else Some (streams.Received count)

-- what of an answer changes anything at a replica
abbrev pub news_by : Streamed → ServerFacts → ServerFacts → Option Streamed
news_by answer s upstream = news_where answer s.diverged (is_current s upstream)

-- what a replica gets from its upstream, where that changes anything: a divergence that wasn't found before, an entry,
-- or another timeline or history
abbrev pub news_of : ServerFacts → ServerFacts → ℕ → Option Streamed
news_of s upstream most = news_by (stream_of s upstream most) s upstream

-- the replica after such news
abbrev pub after_news : Option Streamed → ServerFacts → ServerFacts → ServerFacts
after_news None s upstream = s
after_news (Some news) s upstream = after_streamed news s upstream

-- a member has flushed the log up to this position
abbrev pub confirming : MemberId → Lsn → ServerFacts → ServerFacts
confirming by end s = record s { confirmed = slice_set s.confirmed by.number (Some end) }

-- its commits wait for these
abbrev pub requiring : Required → ServerFacts → ServerFacts
requiring required s = record s { required = required }

-- what was confirmed is at or past the end of a commit
abbrev pub reaches : Lsn → Option Lsn → Bool
reaches end None = false
reaches end (Some confirmed) = nat_le end.position confirmed.position

-- a member isn't waited for: it is not in the set, or has confirmed the end of the commit
abbrev pub is_free : MemberSet → ℕ → Lsn → Option Lsn → Bool
is_free members number end confirmed = not (bit_at members.bits number == 1) || reaches end confirmed

-- each member of the set, of those from this number on, has confirmed the end of a commit
abbrev pub all_reach : ℕ → MemberSet → Lsn → List (Option Lsn) → Bool
all_reach number members end [] = true
all_reach number members end (confirmed ∷ more) =
    is_free members number end confirmed && all_reach (number + 1) members end more

-- a member of the set has confirmed the end of a commit
abbrev pub is_sure : MemberSet → ℕ → Lsn → Option Lsn → Bool
is_sure members number end confirmed = (bit_at members.bits number == 1) && reaches end confirmed

-- how many members of the set, of those from this number on, have
abbrev pub sure_count : ℕ → MemberSet → Lsn → List (Option Lsn) → ℕ
sure_count number members end [] = 0
sure_count number members end (confirmed ∷ more) =
    (if is_sure members number end confirmed then 1 else 0) + sure_count (number + 1) members end more

-- the end of a commit is confirmed by whom it waits for
abbrev pub is_met : Required → Lsn → List (Option Lsn) → Bool
is_met required.Nobody end confirmed = true
is_met required.AnyOne end confirmed = list_any (reaches end) confirmed
is_met (required.All members) end confirmed = all_reach 0 members end confirmed
is_met (required.AtLeast number of) end confirmed = nat_le number (sure_count 0 of end confirmed)

-- the oldest of these commits may be acknowledged
abbrev pub first_is_met : Required → List (Option Lsn) → List Waiting → Bool
first_is_met list confirmed [] = false
first_is_met list confirmed (first ∷ more) = is_met list first.end confirmed

-- it accepts writes, and its oldest waiting commit may be acknowledged
abbrev pub may_acknowledge : ServerFacts → Bool
may_acknowledge s = writes s.state && first_is_met s.required s.confirmed s.waiting

-- the number of the oldest of these commits
abbrev pub first_serial : List Waiting → Option ℕ
first_serial [] = None
first_serial (first ∷ more) = Some first.serial

-- the commit that is acknowledged next, if one may be
abbrev pub next_acknowledged : ServerFacts → Option ℕ
next_acknowledged s = if may_acknowledge s then first_serial s.waiting else None

-- and the server after that
abbrev pub acknowledged : ServerFacts → ServerFacts
acknowledged s = if may_acknowledge s then record s { waiting = drop 1 s.waiting } else s

-- what was confirmed is at or past the end of a commit, as a fact
abbrev pub Reaches : Lsn → Option Lsn → Type 0
Reaches end confirmed = IsSomeAnd confirmed (λ position. end.position ≤ position.position)

-- these members of a set are so many, and each has confirmed the end of a commit
pub record EnoughReach (number : ℕ) (of : MemberSet) (end : Lsn) (confirmed : List (Option Lsn)) : Type 0 where
  pub members : MemberSet
  pub enough : number ≤ count_ones members.bits
  pub within : (member : ℕ) → bit_at members.bits member ≡ 1 → bit_at of.bits member ≡ 1
  pub each : (member : ℕ) → bit_at members.bits member ≡ 1 → Reaches end (slice_index_or confirmed member None)

-- the end of a commit is confirmed by whom it waits for: by nobody, by any one
-- member, by each member of a set, or by so many of one, whichever they are
abbrev pub MeetsRequired : Required → Lsn → List (Option Lsn) → Type 0
MeetsRequired required.Nobody end confirmed = ⊤
MeetsRequired required.AnyOne end confirmed = Any (Reaches end) confirmed
MeetsRequired (required.All members) end confirmed = (member : ℕ) → member < length confirmed
    → bit_at members.bits member ≡ 1 → Reaches end (slice_index_or confirmed member None)
MeetsRequired (required.AtLeast number of) end confirmed = EnoughReach number of end confirmed
