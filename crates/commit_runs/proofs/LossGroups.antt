-- What may bring a loss, a server that begins and a commit that is
-- acknowledged, tells it; and a log that is repaired or wiped brings none.
use Rattle.std.proofs.Common.{ℕ, ◌≡◌, ◌⊎◌, ◌<◌, ◌≤◌, ◌++◌, ◌&&◌, ◌∙◌, not, Bool, true, false, List, [], ◌∷◌, length, map, slice_get, Option, Some, None, option_map, take, zero, suc, refl, ap, sym, subst, inl, inr}
use Rattle.std.proofs.lemmas.Bool.{and_parts, cases_eq}
use Rattle.std.proofs.lemmas.Option.{none-some, same_Some, slice_get-map, slice_get_within}
use Rattle.pat_base.specs.Changes.{with_changed}
use Rattle.pat_base.specs.ServerState.{writes}
use Rattle.wal_model.specs.declared.entry.Entry.{Entry}
use Rattle.pg_model.specs.Facts.{ServerFacts, entries_of}
use Rattle.script_model.specs.Script.{HeadText, names_of}
use Rattle.event_book.specs.declared.event.Event.{Event}
use Rattle.event_book.specs.declared.event.EventKind.{EventKind}
use Rattle.event_book.specs.declared.event.EventKind.TheVariants as kinds
use Rattle.event_book.specs.declared.event.LogEvent.TheVariants as log_events
use Rattle.event_book.specs.declared.event.ReplicationEvent.TheVariants as replications
use Rattle.event_book.specs.declared.event.ServerEvent.TheVariants as servers
use Rattle.event_book.specs.declared.member.Member.{Member}
use Rattle.event_book.specs.declared.member.ServerOf.{ServerOf}
use Rattle.event_book.specs.Acknowledged.{acknowledged_in}
use Rattle.event_book.specs.Facts.{Facts}
use Rattle.event_book.specs.Kept.{KeepsCommits}
use Rattle.event_book.specs.Logs.{Logs, MemberLogs, entries_at, entries_found, log_at, log_copied, logs_over}
use Rattle.event_book.specs.Members.{server_of}
use Rattle.event_book.specs.Writers.{Begins, BeginsKind, writes_in, writes_now}
use Rattle.cluster_model.specs.Acknowledging.{acknowledge_kinds, acknowledgement, acknowledgements, ready_commits}
use Rattle.cluster_model.specs.Cluster.{cluster_after}
use Rattle.cluster_model.specs.Commands.{kinds_of}
use Rattle.cluster_model.specs.Losing.{beginning_kinds, is_lacking, loss_if, loss_of, losses_of}
use Rattle.cluster_model.specs.Next.{acknowledge_events}
use Rattle.cluster_model.specs.Parts.{event_of, events_of}
use Rattle.cluster_model.specs.State.{Cluster}
use Rattle.event_book.specs.Kinds.{AllAre}
use Rattle.lease_model.proofs.Tools.{both}
use Rattle.commit_showing.specs.Books.{KeepsNow}
use Rattle.commit_actions.specs.Past.{Past, past_after}
use Rattle.commit_servers.specs.Happening.{MayHappen, Takes}
use Rattle.commit_servers.specs.Matching.{IsSameServers}
use Rattle.commit_servers.proofs.Keeping.{not-live-quiet}
use Rattle.commit_servers.proofs.Places.{changed-there}
use Rattle.lease_parts.specs.Asides.{IsQuiet}
use Rattle.run_promise.specs.Members.{declared_members, member_count}
use Rattle.run_promise.specs.Promise.{Upholds, UpholdsAlways}
use Rattle.cluster_model.proofs.Lists.{all-kinds}
use Rattle.run_promise.proofs.Members.{counted, numbered}
use Rattle.cluster_model.proofs.Places.{there}
use Rattle.lease_parts.proofs.Streams.{acknowledge-quiet}
use Rattle.wal_model.specs.Lacking.{has_serial, lacks_in}
use Rattle.summary_model.specs.Losses.{WriterLacksOf}
use Rattle.summary_model.specs.Seeing.{WriterLacks}
use Rattle.summary_model.specs.Sights.{is_loss}
use Rattle.summary_law.proofs.Keeping.{acknowledged-lacks, began-lacks}
use Rattle.summary_law.proofs.Losing.{none-if-hold}
use Rattle.commit_parts.specs.Reading.{past_of}
use Rattle.commit_runs.specs.Runs.{first_logs}
use Rattle.commit_runs.proofs.Holding.{book-acknowledged, book-logs, book-writes, held-by-book, held-by-past}
use Rattle.commit_runs.proofs.Losses.{Tells, TellsSoFar, losses_told, lost-tells, none-lost, some-lost, upheld-tells}
use Rattle.commit_parts.proofs.Transitions.{past-more}
use Rattle.pat_base.specs.declared.member_id.TheConstants.{MOST_MEMBERS}

-- the event of this kind at its moment
abbrev event_now : Cluster → EventKind → Event
event_now cluster kind = record { tick = record { 0 = (cluster_after cluster kind).facts.clock }; kind = kind }

-- ---- a server begins
module _ (head : HeadText) (book : List Event) (cluster : Cluster) (good : TellsSoFar head book cluster) where
  -- its log is the book's, and lacks what it lacks by the book
  log-now : (k : ℕ) (s : ServerFacts) → slice_get cluster.facts.servers k ≡ Some s
      → entries_at (logs_over (first_logs head) book) k ≡ entries_of s.log
  log-now k s is =
      ap (λ (l : Logs). entries_at l k) (sym (book-logs head book) ∙ good.same.logs)
      ∙ ap entries_found
      (slice_get-map (λ (x : ServerFacts). x.log) cluster.facts.servers k
      ∙ ap (option_map (λ (x : ServerFacts). x.log)) is)

  lacks-now : (k : ℕ) (s : ServerFacts) → slice_get cluster.facts.servers k ≡ Some s
      → lacks_in (entries_at (logs_over (first_logs head) book) k) (acknowledged_in book)
      ≡ lacks_in (entries_of s.log) cluster.facts.acknowledged
  lacks-now k s is =
      ap (λ (l : List Entry). lacks_in l (acknowledged_in book)) (log-now k s is)
      ∙ ap (λ (a : List ℕ). lacks_in (entries_of s.log) a) (sym (book-acknowledged head book) ∙ good.same.acknowledged)

  module _ (member : Member) (timeline : ℕ) where
    abbrev Beginning : EventKind
    Beginning = kinds.Server (servers.Began (server_of member) timeline)

    begun-by : (test : Bool)
        → lacks_in (entries_at (logs_over (first_logs head) book) member.id.number) (acknowledged_in book) ≡ test
        → Tells (first_logs head) book (events_of cluster (Beginning ∷ kinds_of (loss_if member test)))
    begun-by true is =
        let behind : List Event =
        event_of (cluster_after cluster Beginning) (kinds.Replication (replications.Lacks (server_of member))) in
        let lost = some-lost (first_logs head) book (event_now cluster Beginning) behind refl
        (λ hold.
        (began-lacks (first_logs head) book (event_now cluster Beginning) (server_of member) timeline refl hold).1
        is) in
        record {
          begins = refl;
          told = (lost.0, lost-tells (first_logs head) (book ++ event_now cluster Beginning ∷ []) behind lost.1);
        }
    begun-by false is = record {
      begins = refl;
      told = (
        none-lost (first_logs head) book (event_now cluster Beginning) [] refl
            (λ hold lacks.
            both (sym is
            ∙ (began-lacks (first_logs head) book (event_now cluster Beginning) (server_of member) timeline refl hold).0
            lacks)),
        tt,
      );
    }

    begun-within : (test : Bool) → member.id.number < member_count head
        → Begins (λ n. n < member_count head) (events_of cluster (Beginning ∷ kinds_of (loss_if member test)))
    begun-within true small = (small, (tt, tt))
    begun-within false small = (small, tt)

    pub upheld-begun : (s : ServerFacts) → slice_get cluster.facts.servers member.id.number ≡ Some s
        → Upholds (losses_told head) book cluster
        (events_of cluster (beginning_kinds member timeline cluster.facts.acknowledged s.log))
    upheld-begun s is =
        let lacks : Bool = lacks_in (entries_of s.log) cluster.facts.acknowledged in
        upheld-tells head book cluster (events_of cluster (Beginning ∷ kinds_of (loss_if member lacks))) good
        (begun-by lacks (lacks-now member.id.number s is))
        (begun-within lacks
        (subst (λ (n : ℕ). member.id.number < n) good.sized
        (slice_get_within cluster.facts.servers member.id.number s is)))

-- ---- commits are acknowledged
-- what is told of these servers begins with a loss, and one of them lacks the commit
record FindsLoss (commit : ℕ) (known : List ServerFacts) (list : List EventKind) : Type 0 where
  first : ServerOf
  more : List EventKind
  is : list ≡ kinds.Replication (replications.Lacks first) ∷ more
  place : ℕ
  server : ServerFacts
  stands : slice_get known place ≡ Some server
  lacks : is_lacking commit server ≡ true

-- nothing is told of them, and no member's lacks it
record FindsNone (commit : ℕ) (known : List ServerFacts) (members : List Member) (list : List EventKind) : Type 0 where
  is : list ≡ []
  none : (i : ℕ) (m : Member) → slice_get members i ≡ Some m → (s : ServerFacts)
      → slice_get known m.id.number ≡ Some s → is_lacking commit s ≡ false

module _ (commit : ℕ) (known : List ServerFacts) where
  abbrev Finds : List Member → List EventKind → Type 0
  Finds members list = FindsLoss commit known list ⊎ FindsNone commit known members list

  -- one member more, of whose server nothing is told
  finds-more : (m : Member) (members : List Member) (list : List EventKind)
      → ((s : ServerFacts) → slice_get known m.id.number ≡ Some s → is_lacking commit s ≡ false)
      → Finds members list → Finds (m ∷ members) list
  finds-more m members list here (inl found) = inl found
  finds-more m members list here (inr found) = inr (record { is = found.is; none = each })
    where
      each : (i : ℕ) (n : Member) → slice_get (m ∷ members) i ≡ Some n → (s : ServerFacts)
          → slice_get known n.id.number ≡ Some s → is_lacking commit s ≡ false
      each zero n at s is = here s (ap (λ (x : Member). slice_get known x.id.number) (same_Some m n at) ∙ is)
      each (suc i) n at s is = found.none i n at s is

  finds-at : (m : Member) (members : List Member) (s : ServerFacts) (test : Bool) → slice_get known m.id.number ≡ Some s
      → is_lacking commit s ≡ test → Finds members (losses_of commit known members)
      → Finds (m ∷ members) (kinds_of (loss_if m test) ++ losses_of commit known members)
  finds-at m members s true at is rest = inl (record {
    first = server_of m;
    more = losses_of commit known members;
    is = refl;
    place = m.id.number;
    server = s;
    stands = at;
    lacks = is;
  })
  finds-at m members s false at is rest = finds-more m members (losses_of commit known members)
      (λ t there. subst (λ (x : ServerFacts). is_lacking commit x ≡ false) (same_Some s t (sym at ∙ there)) is) rest

  finds-by : (m : Member) (members : List Member) (found : Option ServerFacts)
      → slice_get known m.id.number ≡ found → Finds members (losses_of commit known members)
      → Finds (m ∷ members) (loss_of commit m found ++ losses_of commit known members)
  finds-by m members None at rest =
      finds-more m members (losses_of commit known members) (λ s there. absurd (none-some s (sym at ∙ there))) rest
  finds-by m members (Some s) at rest = finds-at m members s (is_lacking commit s) at refl rest

  losses-found : (members : List Member) → Finds members (losses_of commit known members)
  losses-found [] = inr (record { is = refl; none = λ i m at. absurd (none-some m at) })
  losses-found (m ∷ members) = finds-by m members (slice_get known m.id.number) refl (losses-found members)

lacking-parts : (commit : ℕ) (s : ServerFacts) → is_lacking commit s ≡ true
    → (writes s.state ≡ true) × (has_serial (entries_of s.log) commit ≡ false)
lacking-parts commit s is = let parts = and_parts (writes s.state) (not (has_serial (entries_of s.log) commit)) is in
    (parts.0, not-has (has_serial (entries_of s.log) commit) parts.1)
  where
    not-has : (b : Bool) → not b ≡ true → b ≡ false
    not-has true e = absurd (both e)
    not-has false e = refl

lacking-by : (test has : Bool) → test ≡ true → has ≡ false → (test && not has) ≡ true
lacking-by test has e f = ap (λ (t : Bool). t && not has) e ∙ ap not f

-- a book leaves the logs and the writers of these servers
record Agrees (head : HeadText) (known : List ServerFacts) (book : List Event) : Type 0 where
  logs : (past_of head book).logs.members ≡ map (λ s. s.log) known
  writing : (n : ℕ) → (past_of head book).lease.writes n ≡ writes_in known n

module _ (head : HeadText) (known : List ServerFacts) (members : List Member) (member : Member)
    (finds : (n : ℕ) → n < length known → (m : Member) × (slice_get members n ≡ Some m) × (m.id.number ≡ n)) where
  serial-at : (book : List Event) → Agrees head known book → (n : ℕ) (s : ServerFacts) (commit : ℕ)
      → slice_get known n ≡ Some s
      → has_serial (entries_at (logs_over (first_logs head) book) n) commit ≡ has_serial (entries_of s.log) commit
  serial-at book agrees n s commit at =
      ap (λ (l : Logs). has_serial (entries_at l n) commit) (sym (book-logs head book))
      ∙ ap (λ (l : MemberLogs). has_serial (entries_found (slice_get l n)) commit) agrees.logs
      ∙ ap (λ (o : Option (Option (List Entry))). has_serial (entries_found o) commit)
      (slice_get-map (λ (x : ServerFacts). x.log) known n ∙ ap (option_map (λ (x : ServerFacts). x.log)) at)

  -- who accepts writes and lacks the commit is found
  writer-found : (book : List Event) (commit : ℕ) → Agrees head known book
      → FindsNone commit known members (losses_of commit known members)
      → (lacks : WriterLacksOf (first_logs head) book commit) → (found : Option ServerFacts)
      → slice_get known lacks.0 ≡ found → ⊥
  writer-found book commit agrees none lacks None at =
      both (sym (ap writes_now at) ∙ sym (agrees.writing lacks.0) ∙ book-writes head book lacks.0 ∙ lacks.1)
  writer-found book commit agrees none lacks (Some s) at =
      let writing : writes s.state ≡ true = sym (ap writes_now at) ∙ sym (agrees.writing lacks.0)
      ∙ book-writes head book lacks.0 ∙ lacks.1 in
      let hasnt : has_serial (entries_of s.log) commit ≡ false =
      sym (serial-at book agrees lacks.0 s commit at) ∙ lacks.2 in
      let here = finds lacks.0 (slice_get_within known lacks.0 s at) in
      both (sym (none.none lacks.0 here.0 here.1 s (ap (slice_get known) here.2 ∙ at))
      ∙ lacking-by (writes s.state) (has_serial (entries_of s.log) commit) writing hasnt)

  agrees-more : (book : List Event) (cluster : Cluster) (commit : ℕ) → Agrees head known book
      → Agrees head known (book ++ event_now cluster (acknowledgement member commit) ∷ [])
  agrees-more book cluster commit agrees =
      let more = past-more head book (event_now cluster (acknowledgement member commit) ∷ []) in
      record {
        logs = ap (λ (p : Past). p.logs.members) more ∙ agrees.logs;
        writing = λ n. ap (λ (p : Past). p.lease.writes n) more ∙ agrees.writing n;
      }

  acknowledged-by : (book : List Event) (cluster : Cluster) (commit : ℕ) (commits : List ℕ) → Agrees head known book
      → ((b : List Event) (c : Cluster) → Agrees head known b →
      Tells (first_logs head) b (events_of c (acknowledgements known members member commits)))
      → Finds commit known members (losses_of commit known members)
      → Tells (first_logs head) book (events_of cluster (acknowledgements known members member (commit ∷ commits)))
  acknowledged-by book cluster commit commits agrees others (inl found) =
      let kind : EventKind = acknowledgement member commit in
      let event : Event = event_now cluster kind in
      let rest : List EventKind = acknowledgements known members member commits in
      let behind : List Event = events_of (cluster_after cluster kind)
      (kinds.Replication (replications.Lacks found.first) ∷ (found.more ++ rest)) in
      let lacking = lacking-parts commit found.server found.lacks in
      let lost = some-lost (first_logs head) book event behind refl
      (λ hold. (acknowledged-lacks (first_logs head) book event (server_of member) commit refl hold).1 (
        found.place,
        sym (book-writes head book found.place) ∙ agrees.writing found.place ∙ ap writes_now found.stands ∙ lacking.0,
        serial-at book agrees found.place found.server commit found.stands ∙ lacking.1,
      )) in
      subst (λ (l : List EventKind). Tells (first_logs head) book (events_of cluster (kind ∷ (l ++ rest))))
      (sym found.is)
      (record { begins = refl; told = (lost.0, lost-tells (first_logs head) (book ++ event ∷ []) behind lost.1) })
  acknowledged-by book cluster commit commits agrees others (inr none) =
      let kind : EventKind = acknowledgement member commit in
      let event : Event = event_now cluster kind in
      let rest : List EventKind = acknowledgements known members member commits in
      let tells : Tells (first_logs head) (book ++ event ∷ []) (events_of (cluster_after cluster kind) rest) =
      others (book ++ event ∷ []) (cluster_after cluster kind) (agrees-more book cluster commit agrees) in
      subst (λ (l : List EventKind). Tells (first_logs head) book (events_of cluster (kind ∷ (l ++ rest))))
      (sym none.is) (record {
        begins = refl;
        told = (
          none-lost (first_logs head) book event (events_of (cluster_after cluster kind) rest) tells.begins
              (λ hold lacks.
              let some =
              (acknowledged-lacks (first_logs head) book event (server_of member) commit refl hold).0 lacks in
              writer-found book commit agrees none some (slice_get known some.0) refl),
          tells.told,
        );
      })

  acknowledgements-tell : (commits : List ℕ) (book : List Event) (cluster : Cluster) → Agrees head known book
      → Tells (first_logs head) book (events_of cluster (acknowledgements known members member commits))
  acknowledgements-tell [] book cluster agrees = record { begins = refl; told = tt }
  acknowledgements-tell (commit ∷ commits) book cluster agrees = acknowledged-by book cluster commit commits agrees
      (acknowledgements-tell commits) (losses-found commit known members)

  acknowledge-tells : (found : Option ServerFacts) (book : List Event) (cluster : Cluster) → Agrees head known book
      → Tells (first_logs head) book (events_of cluster (acknowledge_kinds known members member found))
  acknowledge-tells None book cluster agrees = record { begins = refl; told = tt }
  acknowledge-tells (Some s) book cluster agrees = acknowledgements-tell (ready_commits s) book cluster agrees

-- nobody begins in what is quiet
quiet-begins : (P : ℕ → Type 0) (kind : EventKind) → IsQuiet kind → BeginsKind P kind
quiet-begins P (kinds.Server (servers.Began server timeline)) is = absurd is
quiet-begins P (kinds.Server _) is = tt
quiet-begins P _ is = tt

all-quiet-begin : (P : ℕ → Type 0) (events : List Event) → AllAre IsQuiet events → Begins P events
all-quiet-begin P [] all = tt
all-quiet-begin P (event ∷ events) all = (quiet-begins P event.kind all.0, all-quiet-begin P events all.1)

pub upheld-acknowledge : (head : HeadText) → length (names_of head) ≤ MOST_MEMBERS → (member : Member)
    → UpholdsAlways (losses_told head) (λ cluster. acknowledge_events cluster member)
upheld-acknowledge head few member book cluster good =
    let found : Option ServerFacts = slice_get cluster.facts.servers member.id.number in
    let list : List EventKind = acknowledge_kinds cluster.facts.servers cluster.facts.members member found in
    let finds : (n : ℕ) → n < length cluster.facts.servers
    → (m : Member) × (slice_get cluster.facts.members n ≡ Some m) × (m.id.number ≡ n) = (λ n small.
    let at =
    there (declared_members head) n (subst (λ (count : ℕ). n < count) (good.sized ∙ sym (counted head few)) small) in
    (at.0, ap (λ (ms : List Member). slice_get ms n) good.members ∙ at.1, numbered head few n at.0 at.1)) in
    upheld-tells head book cluster (acknowledge_events cluster member) good
    (acknowledge-tells head cluster.facts.servers cluster.facts.members member finds found book cluster
    (record { logs = ap (λ (l : Logs). l.members) good.same.logs; writing = good.same.writes }))
    (all-quiet-begin (λ n. n < member_count head) (events_of cluster list)
    (all-kinds IsQuiet cluster list (acknowledge-quiet cluster.facts.servers cluster.facts.members member found)))

-- ---- a log is repaired or wiped, of a server that accepts no writes
abbrev pub IsRepair : EventKind → Type 0
IsRepair (kinds.Log (log_events.Rewound server from kept at)) = Unit {0}
IsRepair (kinds.Log (log_events.Copied server from)) = Unit {0}
IsRepair (kinds.Log (log_events.Wiped server)) = Unit {0}
IsRepair _ = ⊥

-- another log at a place where nobody writes
hold-changed : (past : Past) (k : ℕ) (change : Option (List Entry) → Option (List Entry))
    → past.lease.writes k ≡ false → KeepsNow past
    → KeepsNow (record past { logs = record past.logs { members = with_changed past.logs.members k change } })
hold-changed past k change quiet hold server writing commit told = elim (cases_eq server k) [
  | inl same ↦ absurd (both (sym quiet ∙ ap past.lease.writes (sym same) ∙ writing))
  | inr other ↦ subst (λ (o : Option (Option (List Entry))). has_serial (entries_found o) commit ≡ true)
      (sym (changed-there past.logs.members k change server other)) (hold server writing commit told)
]

hold-copied : (past : Past) (k : ℕ) (found : Option (Option (List Entry))) → past.lease.writes k ≡ false
    → KeepsNow past
    → KeepsNow (record past { logs = record past.logs { members = log_copied past.logs.members k found } })
hold-copied past k None quiet hold = hold
hold-copied past k (Some theirs) quiet hold = hold-changed past k (λ log. theirs) quiet hold

quiet-taker : (past : Past) (facts : Facts) (k from : ℕ) → IsSameServers past facts
    → Takes facts.servers k from → past.lease.writes k ≡ false
quiet-taker past facts k from same takes =
    same.writes k ∙ ap writes_now takes.is ∙ not-live-quiet takes.server.state takes.not_live

hold-repaired : (past : Past) (facts : Facts) (kind : EventKind) → IsSameServers past facts → IsRepair kind
    → MayHappen facts kind → KeepsNow past → KeepsNow (past_after past kind)
hold-repaired past facts (kinds.Log (log_events.Rewound server from kept at)) same is may hold =
    hold-changed past server.id.number (λ log. Some (take kept (entries_of log)))
    (quiet-taker past facts server.id.number from.id.number same may.takes) hold
hold-repaired past facts (kinds.Log (log_events.Copied server from)) same is may hold =
    hold-copied past server.id.number (log_at past.logs from.id.number)
    (quiet-taker past facts server.id.number from.id.number same may.takes) hold
hold-repaired past facts (kinds.Log (log_events.Wiped server)) same is may hold =
    hold-changed past server.id.number (λ log. None)
    (same.writes server.id.number ∙ ap writes_now may.is ∙ not-live-quiet may.server.state may.not_live) hold
hold-repaired past facts _ same is may hold = absurd is

repair-begins : (P : ℕ → Type 0) (kind : EventKind) → IsRepair kind → BeginsKind P kind
repair-begins P (kinds.Server happening) is = absurd is
repair-begins P _ is = tt

repair-tells : (kind : EventKind) → IsRepair kind → is_loss kind ≡ false
repair-tells (kinds.Log happening) is = refl
repair-tells _ is = absurd is

pub upheld-repair : (head : HeadText) (book : List Event) (cluster : Cluster) (kind : EventKind)
    → TellsSoFar head book cluster → IsRepair kind → MayHappen cluster.facts kind
    → Upholds (losses_told head) book cluster (event_of cluster kind)
upheld-repair head book cluster kind good is may =
    let event : Event = event_now cluster kind in
    let keeps : KeepsCommits (first_logs head) book → WriterLacks (first_logs head) (book ++ event ∷ []) → ⊥ = (λ hold.
    none-if-hold (first_logs head) (book ++ event ∷ []) (held-by-book head (book ++ event ∷ [])
    (subst KeepsNow (sym (past-more head book (event ∷ [])))
    (hold-repaired (past_of head book) cluster.facts kind good.same is may (held-by-past head book hold))))) in
    upheld-tells head book cluster (event_of cluster kind) good
    (record { begins = repair-tells kind is; told = (none-lost (first_logs head) book event [] refl keeps, tt) })
    (repair-begins (λ n. n < member_count head) kind is, tt)
