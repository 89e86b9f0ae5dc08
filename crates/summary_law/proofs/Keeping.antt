-- Events that lose no commit.
use Rattle.std.proofs.Common.{◌≡◌, ℕ, ◌==◌, ◌||◌, List, [], ◌∷◌, ◌++◌, length, take, drop, append-nil, Option, Some, None, Bool, true, false, refl, sym, ap, subst, ◌∙◌, inl, inr}
use Rattle.std.specs.Prelude.{◌↔◌, not, Contains, slice_get, slice_set}
use Rattle.std.proofs.lemmas.Option.{slice_get_within}
use Rattle.wal_model.specs.declared.entry.Entry.{Entry}
use Rattle.wal_model.specs.Log.{received}
use Rattle.pat_base.specs.Changes.{changed_at}
use Rattle.pg_model.specs.Facts.{entries_of}
use Rattle.pg_model.proofs.Lists.{got-set_same, got-set_other}
use Rattle.event_book.specs.declared.event.Event.{Event}
use Rattle.event_book.specs.declared.event.EventKind.{EventKind}
use Rattle.event_book.specs.declared.event.EventKind.TheVariants as kinds
use Rattle.event_book.specs.declared.event.LogEvent.{LogEvent}
use Rattle.event_book.specs.declared.event.LogEvent.TheVariants as logs
use Rattle.event_book.specs.declared.event.ReplicationEvent.TheVariants as replications
use Rattle.event_book.specs.declared.event.ServerEvent.{ServerEvent}
use Rattle.event_book.specs.declared.event.ServerEvent.TheVariants as servers
use Rattle.event_book.specs.declared.event.WatchdogEvent.{WatchdogEvent}
use Rattle.event_book.specs.declared.event.WatchdogEvent.TheVariants as watchdogs
use Rattle.event_book.specs.declared.member.ServerOf.{ServerOf}
use Rattle.event_book.specs.Acknowledged.{acknowledged_of, acknowledged_in}
use Rattle.event_book.specs.Functions.{put_at}
use Rattle.event_book.specs.Kept.{KeepsCommits}
use Rattle.event_book.specs.Logs.{Logs, MemberLogs, entries_at, entries_found, log_at, log_received, log_with, logs_after, logs_by, logs_over}
use Rattle.event_book.specs.Writers.{writes_by_server, writes_by_watchdog, writes_after, writes_over, AcceptsWrites}
use Rattle.lease_model.proofs.Tools.{both, put-all, put-here, put-there}
use Rattle.std.proofs.lemmas.Bool.{cases_eq}
use Rattle.wal_model.specs.Lacking.{has_serial, lacks_in}
use Rattle.summary_model.specs.Losses.{may_lose, may_lose_by_server, may_lose_by_log, WriterLacksOf}
use Rattle.summary_model.specs.Seeing.{LacksOne, WriterLacks}
use Rattle.wal_model.proofs.Lookups.{lacks-some}
use Rattle.summary_law.proofs.Losing.{none-if-hold}
use Rattle.summary_law.proofs.Standing.{acknowledged-more}
use Rattle.summary_law.proofs.Writing.{over-more}

not-true : true ≡ false → ⊥
not-true e = both (sym e)

-- who accepts writes did before
off-before : (writes : ℕ → Bool) (k n : ℕ) → put_at writes k false n ≡ true → writes n ≡ true
off-before writes k =
    put-all writes k false (λ p w. w ≡ true → writes p ≡ true) (λ none. absurd (both none)) (λ p other w. w)

server-before : (writes : ℕ → Bool) (happening : ServerEvent) (n : ℕ) → may_lose_by_server happening ≡ false
    → writes_by_server writes happening n ≡ true → writes n ≡ true
server-before writes (servers.Began server timeline) n few now = absurd (not-true few)
server-before writes (servers.Ended server) n few now = off-before writes server.id.number n now
server-before writes (servers.Crashed server) n few now = off-before writes server.id.number n now
server-before writes _ n few now = now

watchdog-before : (writes : ℕ → Bool) (happening : WatchdogEvent) (n : ℕ)
    → writes_by_watchdog writes happening n ≡ true → writes n ≡ true
watchdog-before writes (watchdogs.Reset member) n now = off-before writes member.id.number n now
watchdog-before writes _ n now = now

writes-before : (writes : ℕ → Bool) (kind : EventKind) (n : ℕ) → may_lose kind ≡ false
    → writes_after writes kind n ≡ true → writes n ≡ true
writes-before writes (kinds.Server happening) n few now = server-before writes happening n few now
writes-before writes (kinds.Watchdog happening) n few now = watchdog-before writes happening n now
writes-before writes _ n few now = now

-- nothing is acknowledged
none-told : (kind : EventKind) → may_lose kind ≡ false → acknowledged_of kind ≡ []
none-told (kinds.Replication (replications.Acknowledged server commit)) few = absurd (not-true few)
none-told _ few = refl

-- logs that grow keep their entries
has-left : (xs ys : List Entry) (c : ℕ) → has_serial xs c ≡ true → has_serial (xs ++ ys) c ≡ true
has-left [] ys c has = absurd (both has)
has-left (x ∷ xs) ys c has = go (x.serial == c) has (has-left xs ys c)
  where
    go : (test : Bool) → (test || has_serial xs c) ≡ true
        → (has_serial xs c ≡ true → has_serial (xs ++ ys) c ≡ true) → (test || has_serial (xs ++ ys) c) ≡ true
    go true there others = refl
    go false there others = others there

-- a change of one log that keeps its entries
abbrev Grows : (Option (List Entry) → Option (List Entry)) → Type 0
Grows change = (log : Option (List Entry)) (c : ℕ) → has_serial (entries_of log) c ≡ true
    → has_serial (entries_of (change log)) c ≡ true

grown-at : (known : MemberLogs) (k : ℕ) (change : Option (List Entry) → Option (List Entry))
    (found : Option (Option (List Entry))) → slice_get known k ≡ found → Grows change → (n c : ℕ)
    → has_serial (entries_found (slice_get known n)) c ≡ true
    → has_serial (entries_found (slice_get (changed_at known k change found) n)) c ≡ true
grown-at known k change None is grows n c has = has
grown-at known k change (Some log) is grows n c has =
    elim (cases_eq n k) as (λ w. has_serial (entries_found (slice_get (slice_set known k (change log)) n)) c ≡ true) [
      | inl same ↦
          let was : has_serial (entries_found (Some log)) c ≡ true =
          subst (λ o. has_serial (entries_found o) c ≡ true) (ap (slice_get known) same ∙ is) has in
          subst (λ m. has_serial (entries_found (slice_get (slice_set known k (change log)) m)) c ≡ true) (sym same)
          (subst (λ o. has_serial (entries_found o) c ≡ true)
          (sym (got-set_same known k (change log) (slice_get_within known k log is))) (grows log c was))
      | inr other ↦
          subst (λ o. has_serial (entries_found o) c ≡ true) (sym (got-set_other known k n (change log) other)) has
    ]

received-at : (known : MemberLogs) (k count : ℕ) (theirs : Option (Option (List Entry))) (n c : ℕ)
    → has_serial (entries_found (slice_get known n)) c ≡ true
    → has_serial (entries_found (slice_get (log_received known k count theirs) n)) c ≡ true
received-at known k count None n c has = has
received-at known k count (Some theirs) n c has =
    grown-at known k (λ log. Some (received (entries_of log) (entries_of theirs) count)) (slice_get known k) refl
    (λ log s there. has-left (entries_of log) (take count (drop (length (entries_of log)) (entries_of theirs))) s there)
    n c has

log-grows : (known : Logs) (happening : LogEvent) (n c : ℕ) → may_lose_by_log happening ≡ false
    → has_serial (entries_at known n) c ≡ true → has_serial (entries_at (logs_by known happening) n) c ≡ true
log-grows known (logs.Appended server entry) n c few has =
    grown-at known.members server.id.number (log_with entry)
    (slice_get known.members server.id.number) refl
    (λ log s there. has-left (entries_of log) (entry ∷ []) s there) n c has
log-grows known (logs.Received server from count) n c few has =
    received-at known.members server.id.number count (log_at known from.id.number) n c has
log-grows known (logs.Rewound server from kept at) n c few has = absurd (not-true few)
log-grows known (logs.Copied server from) n c few has = absurd (not-true few)
log-grows known (logs.Wiped server) n c few has = absurd (not-true few)

kind-grows : (known : Logs) (kind : EventKind) (n c : ℕ) → may_lose kind ≡ false
    → has_serial (entries_at known n) c ≡ true → has_serial (entries_at (logs_after known kind) n) c ≡ true
kind-grows known (kinds.Log happening) n c few has = log-grows known happening n c few has
kind-grows known _ n c few has = has

logs-more : (known : Logs) (book : List Event) (event : Event)
    → logs_over known (book ++ event ∷ []) ≡ logs_after (logs_over known book) event.kind
logs-more known [] event = refl
logs-more known (x ∷ book) event = logs-more (logs_after known x.kind) book event

-- what is acknowledged with one more event
told-more : (book : List Event) (event : Event) (told : List ℕ) → acknowledged_of event.kind ≡ told
    → acknowledged_in (book ++ event ∷ []) ≡ acknowledged_in book ++ told
told-more book event told is = acknowledged-more book (event ∷ [])
    ∙ ap (λ l. acknowledged_in book ++ l) (append-nil (acknowledged_of event.kind) ∙ is)

writes-more : (book : List Event) (event : Event) (n : ℕ)
    → writes_over (λ m. false) (book ++ event ∷ []) n ≡ writes_after (writes_over (λ m. false) book) event.kind n
writes-more book event n = ap (λ (w : ℕ → Bool). w n) (over-more book event)

holds-more : (known : Logs) (book : List Event) (event : Event) → may_lose event.kind ≡ false
    → KeepsCommits known book → KeepsCommits known (book ++ event ∷ [])
holds-more known book event few hold server writes commit there =
    subst (λ ls. has_serial (entries_at ls server) commit ≡ true) (sym (logs-more known book event))
    (kind-grows (logs_over known book) event.kind server commit few
    (hold server
    (writes-before (writes_over (λ m. false) book) event.kind server few (sym (writes-more book event server) ∙ writes))
    commit
    (subst (λ l. Contains l commit)
    (told-more book event [] (none-told event.kind few) ∙ append-nil (acknowledged_in book)) there)))

pub others-keep : (known : Logs) (book : List Event) (event : Event) → may_lose event.kind ≡ false
    → KeepsCommits known book → WriterLacks known (book ++ event ∷ []) → ⊥
others-keep known book event few hold = none-if-hold known (book ++ event ∷ []) (holds-more known book event few hold)

-- a server begins
lacks-began : (known : Logs) (book : List Event) (event : Event) (server : ServerOf) (timeline n : ℕ)
    → event.kind ≡ kinds.Server (servers.Began server timeline)
    → lacks_in (entries_at (logs_over known (book ++ event ∷ [])) n) (acknowledged_in (book ++ event ∷ []))
    ≡ lacks_in (entries_at (logs_over known book) n) (acknowledged_in book)
lacks-began known book event server timeline n is =
    ap (λ ls. lacks_in (entries_at ls n) (acknowledged_in (book ++ event ∷ [])))
    (logs-more known book event ∙ ap (logs_after (logs_over known book)) is)
    ∙ ap (lacks_in (entries_at (logs_over known book) n))
    (told-more book event [] (ap acknowledged_of is) ∙ append-nil (acknowledged_in book))

began-writes : (book : List Event) (event : Event) (server : ServerOf) (timeline n : ℕ)
    → event.kind ≡ kinds.Server (servers.Began server timeline)
    → writes_over (λ m. false) (book ++ event ∷ []) n ≡ put_at (writes_over (λ m. false) book) server.id.number true n
began-writes book event server timeline n is =
    writes-more book event n ∙ ap (λ k. writes_after (writes_over (λ m. false) book) k n) is

pub began-lacks : (known : Logs) (book : List Event) (event : Event) (server : ServerOf) (timeline : ℕ)
    → event.kind ≡ kinds.Server (servers.Began server timeline) → KeepsCommits known book
    → WriterLacks known (book ++ event ∷ []) ↔ LacksOne known book server.id.number
began-lacks known book event server timeline is hold = (
  λ some.
      let lacks : LacksOne known book some.0 = sym (lacks-began known book event server timeline some.0 is) ∙ some.2 in
      elim (cases_eq some.0 server.id.number) [
        | inl same ↦ subst (LacksOne known book) same lacks
        | inr other ↦ absurd (lacks-some (entries_at (logs_over known book) some.0) (acknowledged_in book) lacks
            (hold some.0
            (sym (put-there (writes_over (λ m. false) book) server.id.number true some.0 other)
            ∙ sym (began-writes book event server timeline some.0 is) ∙ some.1)))
      ],
  λ lacks. (
    server.id.number,
    began-writes book event server timeline server.id.number is
        ∙ put-here (writes_over (λ m. false) book) server.id.number true,
    lacks-began known book event server timeline server.id.number is ∙ lacks,
  ),
)

-- a commit is acknowledged
lacks-append : (log : List Entry) (serials : List ℕ) (c : ℕ)
    → lacks_in log (serials ++ c ∷ []) ≡ (lacks_in log serials || not (has_serial log c))
lacks-append log [] c = go (not (has_serial log c))
  where
    go : (b : Bool) → (b || false) ≡ b
    go true = refl
    go false = refl
lacks-append log (s ∷ ss) c = go (not (has_serial log s)) (lacks-append log ss c)
  where
    go : (b : Bool) → lacks_in log (ss ++ c ∷ []) ≡ (lacks_in log ss || not (has_serial log c))
        → (b || lacks_in log (ss ++ c ∷ [])) ≡ ((b || lacks_in log ss) || not (has_serial log c))
    go true e = refl
    go false e = e

told-lacks : (known : Logs) (book : List Event) (event : Event) (server : ServerOf) (commit n : ℕ)
    → event.kind ≡ kinds.Replication (replications.Acknowledged server commit)
    → lacks_in (entries_at (logs_over known (book ++ event ∷ [])) n) (acknowledged_in (book ++ event ∷ []))
    ≡ (lacks_in (entries_at (logs_over known book) n) (acknowledged_in book)
    || not (has_serial (entries_at (logs_over known book) n) commit))
told-lacks known book event server commit n is =
    ap (λ ls. lacks_in (entries_at ls n) (acknowledged_in (book ++ event ∷ [])))
    (logs-more known book event ∙ ap (logs_after (logs_over known book)) is)
    ∙ ap (lacks_in (entries_at (logs_over known book) n)) (told-more book event (commit ∷ []) (ap acknowledged_of is))
    ∙ lacks-append (entries_at (logs_over known book) n) (acknowledged_in book) commit

told-writes : (book : List Event) (event : Event) (server : ServerOf) (commit n : ℕ)
    → event.kind ≡ kinds.Replication (replications.Acknowledged server commit)
    → writes_over (λ m. false) (book ++ event ∷ []) n ≡ writes_over (λ m. false) book n
told-writes book event server commit n is =
    writes-more book event n ∙ ap (λ k. writes_after (writes_over (λ m. false) book) k n) is

lacks-this : (log : List Entry) (serials : List ℕ) (c : ℕ) (lacks has : Bool) → lacks_in log serials ≡ lacks
    → has_serial log c ≡ has → ((serial : ℕ) → Contains serials serial → has_serial log serial ≡ true)
    → (lacks || not has) ≡ true → has ≡ false
lacks-this log serials c true has is some each either = absurd (lacks-some log serials is each)
lacks-this log serials c false true is some each either = absurd (both either)
lacks-this log serials c false false is some each either = refl

or-not : (a b : Bool) → b ≡ false → (a || not b) ≡ true
or-not true b e = refl
or-not false b e = ap not e

pub acknowledged-lacks : (known : Logs) (book : List Event) (event : Event) (server : ServerOf) (commit : ℕ)
    → event.kind ≡ kinds.Replication (replications.Acknowledged server commit) → KeepsCommits known book
    → WriterLacks known (book ++ event ∷ []) ↔ WriterLacksOf known book commit
acknowledged-lacks known book event server commit is hold = (
  λ some.
      let log = entries_at (logs_over known book) some.0 in
      let writes : AcceptsWrites book some.0 = sym (told-writes book event server commit some.0 is) ∙ some.1 in (
        some.0,
        writes,
        lacks-this log (acknowledged_in book) commit (lacks_in log (acknowledged_in book)) (has_serial log commit)
            refl refl (hold some.0 writes) (sym (told-lacks known book event server commit some.0 is) ∙ some.2),
      ),
  λ some. (
    some.0,
    told-writes book event server commit some.0 is ∙ some.1,
    told-lacks known book event server commit some.0 is
        ∙ or-not (lacks_in (entries_at (logs_over known book) some.0) (acknowledged_in book))
        (has_serial (entries_at (logs_over known book) some.0) commit) some.2,
  ),
)
