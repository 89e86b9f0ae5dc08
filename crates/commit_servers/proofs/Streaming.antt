-- What replicas receive and confirm.
use Rattle.std.proofs.Common.{ℕ, ◌≡◌, ◌-◌, ◌&&◌, not, min, Bool, true, false, cond, List, [], length, slice_get, Option, Some, None, refl, ◌∙◌, ap, sym, subst}
use Rattle.std.specs.Prelude.{slice_index_or}
use Rattle.std.proofs.lemmas.Bool.{and_parts, not-true}
use Rattle.std.proofs.lemmas.Option.{cond_some, none-some, same_Some}
use Rattle.pat_base.proofs.Positions.{lsn_at-position}
use Rattle.pat_base.specs.declared.lsn.Lsn.{Lsn}
use Rattle.pat_base.specs.declared.server_id.ServerId.{ServerId}
use Rattle.pat_base.specs.declared.server_state.State.{State}
use Rattle.pat_base.specs.declared.server_state.State.TheVariants as states
use Rattle.pat_base.specs.Changes.{with_changed}
use Rattle.pat_base.specs.Lsn.{lsn_at}
use Rattle.pat_base.specs.ServerState.{writes, live}
use Rattle.wal_model.specs.declared.entry.Entry.{Entry}
use Rattle.wal_model.specs.Log.{IsPrefixOf, end_of, fork_of, is_prefix}
use Rattle.wal_model.proofs.Entries.{is_prefix-to}
use Rattle.pg_model.specs.declared.answers.Streamed.{Streamed}
use Rattle.pg_model.specs.declared.answers.Streamed.TheVariants as streams
use Rattle.pg_model.specs.Facts.{ServerFacts, entries_of, has_data, is_replica}
use Rattle.pg_model.specs.Replication.{is_current, news_of, news_where, received_from, stream_by}
use Rattle.pg_cluster.specs.Servers.{news_at, news_between}
use Rattle.pg_model.proofs.News.{news-answer}
use Rattle.event_book.specs.declared.event.EventKind.{EventKind}
use Rattle.event_book.specs.declared.event.EventKind.TheVariants as kinds
use Rattle.event_book.specs.declared.event.LogEvent.TheVariants as logs
use Rattle.event_book.specs.declared.event.ReplicationEvent.TheVariants as replications
use Rattle.event_book.specs.declared.member.Member.{Member}
use Rattle.event_book.specs.Facts.{Facts, facts_after}
use Rattle.event_book.specs.Links.{CutLinks, is_cut}
use Rattle.event_book.specs.Members.{server_of}
use Rattle.event_book.specs.Remote.{server_at}
use Rattle.event_book.specs.Servers.{received_by}
use Rattle.event_book.proofs.Remote.{server-listed}
use Rattle.cluster_model.specs.Cluster.{cluster_after}
use Rattle.cluster_model.specs.Next.{all_entries, confirm_events, receive_events, receive_events_at_most, receive_events_of}
use Rattle.cluster_model.specs.State.{Cluster}
use Rattle.cluster_model.specs.Streaming.{confirm_of, end_unless_confirmed, is_confirmed, link_of_members, source_at, source_for, source_named, source_of, unconfirmed_end}
use Rattle.lease_model.proofs.Tools.{both}
use Rattle.commit_law.proofs.Prefixes.{received-prefix}
use Rattle.commit_servers.specs.Sound.{AreServersSound}
use Rattle.commit_servers.specs.Happening.{AreInPlace, MayFollow, MayHappen, Receives}
use Rattle.commit_servers.proofs.Following.{follow-for_some, follow-if}
use Rattle.commit_servers.proofs.Keeping.{sound-by}
use Rattle.commit_servers.proofs.Places.{changed-here, changed-there}

-- ---- from whom a server receives
-- the server of a member is a replica of which no divergence is known, and that of another one accepts writes
record Sources (known : List ServerFacts) (member from : Member) : Type 0 where
  s : ServerFacts
  is : slice_get known member.id.number ≡ Some s
  replica : is_replica s.state ≡ true
  undiverged : s.diverged ≡ false
  source : ServerFacts
  source_is : slice_get known from.id.number ≡ Some source
  is_writer : writes source.state ≡ true

-- who accepts writes is found at the number of this member
record WritesAt (known : List ServerFacts) (from : Member) : Type 0 where
  source : ServerFacts
  source_is : slice_get known from.id.number ≡ Some source
  is_writer : writes source.state ≡ true

module _ (known : List ServerFacts) (cuts : CutLinks) (member from : Member) where
  at-found : (number : ℕ) (other : Member) (upstream : Option ServerFacts) → other.id.number ≡ number
      → slice_get known number ≡ upstream → source_at cuts member (Some other) upstream ≡ Some from
      → WritesAt known from
  at-found number other None place is e = absurd (none-some from e)
  at-found number other (Some upstream) place is e =
      let found = cond_some (writes upstream.state && not (is_cut cuts (link_of_members member other))) other from e in
      record {
        source = upstream;
        source_is = ap (λ (m : Member). slice_get known m.id.number) (sym found.1) ∙ ap (slice_get known) place ∙ is;
        is_writer = (and_parts (writes upstream.state) (not (is_cut cuts (link_of_members member other))) found.0).0;
      }

  at-member : (members : List Member) (number : ℕ) (found : Option Member) → AreInPlace members
      → slice_get members number ≡ found → source_at cuts member found (slice_get known number) ≡ Some from
      → WritesAt known from
  at-member members number None placed is e = absurd (none-some from e)
  at-member members number (Some other) placed is e =
      at-found number other (slice_get known number) (placed.number number other is) refl e

  named : (members : List Member) (upstream : Option ServerId) → AreInPlace members
      → source_named members known cuts member upstream ≡ Some from → WritesAt known from
  named members None placed e = absurd (none-some from e)
  named members (Some id) placed e = at-member members id.number (slice_get members id.number) placed refl e

  source-if : (members : List Member) (s : ServerFacts) (test : Bool) → AreInPlace members
      → slice_get known member.id.number ≡ Some s → (is_replica s.state && not s.diverged) ≡ test
      → cond test (source_named members known cuts member s.upstream) None ≡ Some from → Sources known member from
  source-if members s true placed is t e =
      let parts = and_parts (is_replica s.state) (not s.diverged) t in
      let writer = named members s.upstream placed e in
      record {
        s = s;
        is = is;
        replica = parts.0;
        undiverged = not-true s.diverged parts.1;
        source = writer.source;
        source_is = writer.source_is;
        is_writer = writer.is_writer;
      }
  source-if members s false placed is t e = absurd (none-some from e)

  sources-found : (members : List Member) (found : Option ServerFacts) → AreInPlace members
      → slice_get known member.id.number ≡ found → source_for members known cuts member found ≡ Some from
      → Sources known member from
  sources-found members None placed is e = absurd (none-some from e)
  sources-found members (Some s) placed is e =
      source-if members s (is_replica s.state && not s.diverged) placed is refl e

  sources : (members : List Member) → AreInPlace members → source_of members known cuts member ≡ Some from
      → Sources known member from
  sources members placed e = sources-found members (slice_get known member.id.number) placed refl e

-- ---- states
replica-data : (state : State) → is_replica state ≡ true → has_data state ≡ true
replica-data states.Replica e = refl
replica-data states.Creating e = absurd (both e)
replica-data states.Stopped e = refl
replica-data (states.Starting as_primary at) e = refl
replica-data states.Primary e = refl
replica-data (states.Stopping was_primary at) e = refl
replica-data states.Crashed e = refl

replica-not-live : (state : State) → is_replica state ≡ true → live state ≡ false
replica-not-live states.Replica e = refl
replica-not-live states.Creating e = absurd (both e)
replica-not-live states.Stopped e = absurd (both e)
replica-not-live (states.Starting as_primary at) e = absurd (both e)
replica-not-live states.Primary e = absurd (both e)
replica-not-live (states.Stopping was_primary at) e = absurd (both e)
replica-not-live states.Crashed e = absurd (both e)

replica-quiet : (state : State) → is_replica state ≡ true → writes state ≡ true → ⊥
replica-quiet states.Replica e w = both w
replica-quiet states.Creating e w = both e
replica-quiet states.Stopped e w = both e
replica-quiet (states.Starting as_primary at) e w = both e
replica-quiet states.Primary e w = both e
replica-quiet (states.Stopping was_primary at) e w = both e
replica-quiet states.Crashed e w = both e

-- ---- a replica confirms
-- the two servers, and that the log of the first is a front of the other's
record Behind (facts : Facts) (member from : Member) : Type 0 where
  between : Sources facts.servers member from
  prefix : IsPrefixOf (entries_of between.s.log) (entries_of between.source.log)

unless-told : (end : Lsn) (confirmed : Option Lsn) (told : Lsn) (test : Bool)
    → cond test None (Some end) ≡ Some told → end ≡ told
unless-told end confirmed told true e = absurd (none-some told e)
unless-told end confirmed told false e = same_Some end told e

end-told : (log : Option (List Entry)) (confirmed : Option Lsn) (told : Lsn)
    → end_unless_confirmed log confirmed ≡ Some told → told ≡ lsn_at (end_of (entries_of log))
end-told None confirmed told e = absurd (none-some told e)
end-told (Some log) confirmed told e =
    sym (unless-told (lsn_at (end_of log)) confirmed told (is_confirmed (lsn_at (end_of log)) confirmed) e)

confirm-kind : (facts : Facts) (member from : Member) (end : Option Lsn) (kind : EventKind)
    → ((told : Lsn) → end ≡ Some told →
    MayHappen facts (kinds.Replication (replications.Confirmed (server_of from) member told)))
    → confirm_of member from end ≡ Some kind → MayHappen facts kind
confirm-kind facts member from None kind may e = absurd (none-some kind e)
confirm-kind facts member from (Some end) kind may e = subst (MayHappen facts)
    (same_Some (kinds.Replication (replications.Confirmed (server_of from) member end)) kind e) (may end refl)

confirm-may : (cluster : Cluster) (member from : Member) → AreServersSound cluster.facts
    → Behind cluster.facts member from → MayFollow cluster.facts (confirm_events cluster member from)
confirm-may cluster member from sound behind =
    let between = behind.between in
    let s : ServerFacts = between.s in
    let end : Option Lsn = unconfirmed_end member (slice_get cluster.facts.servers member.id.number)
    (slice_get cluster.facts.servers from.id.number) in
    let is_end : end ≡ end_unless_confirmed s.log (slice_index_or between.source.confirmed member.id.number None) =
    ap (λ (o : Option ServerFacts). unconfirmed_end member o (slice_get cluster.facts.servers from.id.number))
    between.is ∙ ap (λ (o : Option ServerFacts). unconfirmed_end member (Some s) o) between.source_is in
    follow-if cluster (confirm_of member from end) (λ kind e. confirm-kind cluster.facts member from end kind
    (λ told is. record {
      server = between.source;
      is = between.source_is;
      is_writer = between.is_writer;
      standby = s;
      standby_is = between.is;
      with_data = replica-data s.state between.replica;
      prefix = behind.prefix;
      end_is =
          ap (λ (l : Lsn). l.position)
          (end-told s.log (slice_index_or between.source.confirmed member.id.number None) told (sym is_end ∙ is))
          ∙ lsn_at-position (end_of (entries_of s.log)) (sound.each member.id.number s between.is).end;
    }) e)

-- ---- and receives
stream-prefix : (mine theirs : List Entry) (most count : ℕ) (test : Bool) → is_prefix mine theirs ≡ test
    → cond test (streams.Received (min most (length theirs - length mine)))
    (streams.Diverged (lsn_at (fork_of mine theirs))) ≡ streams.Received count
    → IsPrefixOf mine theirs
stream-prefix mine theirs most count true is e = is_prefix-to mine theirs is
stream-prefix mine theirs most count false is e = cc

received-front : (writing : Bool) (mine theirs : List Entry) (most count : ℕ)
    → stream_by writing mine theirs most ≡ streams.Received count → IsPrefixOf mine theirs
received-front false mine theirs most count e = cc
received-front true mine theirs most count e = stream-prefix mine theirs most count (is_prefix mine theirs) refl e

-- where nothing is new
none-diverged : (mine theirs : List Entry) (most : ℕ) (diverged current test : Bool) → diverged ≡ false
    → is_prefix mine theirs ≡ test
    → news_where (cond test (streams.Received (min most (length theirs - length mine)))
    (streams.Diverged (lsn_at (fork_of mine theirs))))
    diverged current ≡ None
    → IsPrefixOf mine theirs
none-diverged mine theirs most diverged current true un is e = is_prefix-to mine theirs is
none-diverged mine theirs most true current false un is e = absurd (both (sym un))
none-diverged mine theirs most false current false un is e = cc

none-front : (writing : Bool) (mine theirs : List Entry) (most : ℕ) (diverged current : Bool) → writing ≡ true
    → diverged ≡ false → news_where (stream_by writing mine theirs most) diverged current ≡ None
    → IsPrefixOf mine theirs
none-front false mine theirs most diverged current writes un e = absurd (both writes)
none-front true mine theirs most diverged current writes un e =
    none-diverged mine theirs most diverged current (is_prefix mine theirs) un refl e

-- the news of the two servers
news-are : (known : List ServerFacts) (member from : Member) (most : ℕ) (between : Sources known member from)
    → news_at known member.id.number from.id.number most ≡ news_of between.s between.source most
news-are known member from most between =
    ap (λ (o : Option ServerFacts). news_between o (slice_get known from.id.number) most) between.is
    ∙ ap (λ (o : Option ServerFacts). news_between (Some between.s) o most) between.source_is

-- behind what was received
behind-received : (facts : Facts) (member from : Member) (count : ℕ) (between : Sources facts.servers member from)
    → IsPrefixOf (entries_of between.s.log) (entries_of between.source.log)
    → Behind (facts_after facts (kinds.Log (logs.Received (server_of member) (server_of from) count))) member from
behind-received facts member from count between prefix =
    let s : ServerFacts = between.s in
    let source : ServerFacts = between.source in
    let after : List ServerFacts =
    with_changed facts.servers member.id.number (λ (t : ServerFacts). received_from count t source) in
    let changed : received_by facts.servers member.id.number count
    (server_at facts.servers facts.remote from.id.number) ≡ after =
    ap (received_by facts.servers member.id.number count)
    (server-listed facts.servers facts.remote from.id.number source between.source_is) in
    let other : from.id.number ≡ member.id.number → ⊥ = λ e.
    let same : s ≡ source =
    same_Some s source (sym between.is ∙ ap (slice_get facts.servers) (sym e) ∙ between.source_is) in
    replica-quiet s.state between.replica (ap (λ (t : ServerFacts). writes t.state) same ∙ between.is_writer) in
    record {
      between = record {
        s = received_from count s source;
        is = ap (λ (xs : List ServerFacts). slice_get xs member.id.number) changed
            ∙ changed-here facts.servers member.id.number
            (λ (t : ServerFacts). received_from count t source) s between.is;
        replica = between.replica;
        undiverged = between.undiverged;
        source = source;
        source_is = ap (λ (xs : List ServerFacts). slice_get xs from.id.number) changed
            ∙ changed-there facts.servers member.id.number
            (λ (t : ServerFacts). received_from count t source) from.id.number other
            ∙ between.source_is;
        is_writer = between.is_writer;
      };
      prefix = received-prefix (entries_of s.log) (entries_of source.log) count prefix;
    }

receive-may : (cluster : Cluster) (member from : Member) (most : ℕ) (news : Option Streamed)
    → AreServersSound cluster.facts → (between : Sources cluster.facts.servers member from)
    → news_of between.s between.source most ≡ news
    → MayFollow cluster.facts (receive_events cluster member from news)
receive-may cluster member from most None sound between is =
    let s : ServerFacts = between.s in
    let source : ServerFacts = between.source in
    confirm-may cluster member from sound (record {
      between = between;
      prefix = none-front (writes source.state) (entries_of s.log) (entries_of source.log) most s.diverged
          (is_current s source) between.is_writer between.undiverged is;
    })
receive-may cluster member from most (Some streams.NotConnected) sound between is = tt
receive-may cluster member from most (Some (streams.Diverged at)) sound between is = (tt, tt)
receive-may cluster member from most (Some (streams.Received count)) sound between is =
    let s : ServerFacts = between.s in
    let source : ServerFacts = between.source in
    let kind : EventKind = kinds.Log (logs.Received (server_of member) (server_of from) count) in
    let prefix : IsPrefixOf (entries_of s.log) (entries_of source.log) = received-front (writes source.state)
    (entries_of s.log) (entries_of source.log) most count (news-answer s source most (streams.Received count) is) in
    let may : Receives cluster.facts.servers member.id.number from.id.number = record {
      takes = record {
        server = s;
        is = between.is;
        not_live = replica-not-live s.state between.replica;
        source = source;
        source_is = between.source_is;
        is_writer = between.is_writer;
      };
      with_data = replica-data s.state between.replica;
      prefix = prefix;
    } in (
      may,
      confirm-may (cluster_after cluster kind) member from (sound-by cluster.facts kind may sound)
          (behind-received cluster.facts member from count between prefix),
    )

pub receive-at-most : (cluster : Cluster) (most : ℕ) (member : Member) → AreInPlace cluster.facts.members
    → AreServersSound cluster.facts → MayFollow cluster.facts (receive_events_at_most cluster most member)
receive-at-most cluster most member placed sound =
    follow-for_some cluster.facts (source_of cluster.facts.members cluster.facts.servers cluster.facts.cuts member)
    (λ from. receive_events cluster member from (news_at cluster.facts.servers member.id.number from.id.number most))
    (λ from is. let between =
    sources cluster.facts.servers cluster.facts.cuts member from cluster.facts.members placed is in
    receive-may cluster member from most (news_at cluster.facts.servers member.id.number from.id.number most)
    sound between (sym (news-are cluster.facts.servers member from most between)))

receive-unless : (cluster : Cluster) (member : Member) (frozen : Bool) → AreInPlace cluster.facts.members
    → AreServersSound cluster.facts
    → MayFollow cluster.facts (cond frozen [] (receive_events_at_most cluster all_entries member))
receive-unless cluster member true placed sound = tt
receive-unless cluster member false placed sound = receive-at-most cluster all_entries member placed sound

pub receive-of : (cluster : Cluster) (member : Member) → AreInPlace cluster.facts.members
    → AreServersSound cluster.facts → MayFollow cluster.facts (receive_events_of cluster member)
receive-of cluster member placed sound =
    follow-for_some cluster.facts (slice_get cluster.facts.frozen member.id.number)
    (λ frozen. cond frozen [] (receive_events_at_most cluster all_entries member))
    (λ frozen is. receive-unless cluster member frozen placed sound)
