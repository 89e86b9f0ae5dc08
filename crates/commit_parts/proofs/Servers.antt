-- What servers receive, confirm and acknowledge, and what commands bring at them, upholds commits.
use Rattle.std.proofs.Common.{ℕ, ◌≤◌, List, [], ◌∷◌, length, slice_get, Option, Some, None, refl, sym, subst}
use Rattle.pg_model.specs.declared.answers.Streamed.{Streamed}
use Rattle.pg_model.specs.declared.answers.Streamed.TheVariants as streams
use Rattle.pg_cluster.specs.Servers.{news_at}
use Rattle.event_book.specs.declared.event.AgentEvent.TheVariants as agents
use Rattle.event_book.specs.declared.event.Event.{Event}
use Rattle.event_book.specs.declared.event.EventKind.{EventKind}
use Rattle.event_book.specs.declared.event.EventKind.TheVariants as kinds
use Rattle.event_book.specs.declared.event.LogEvent.TheVariants as logs
use Rattle.event_book.specs.declared.event.Note.{Note}
use Rattle.event_book.specs.declared.event.ServerEvent.TheVariants as servers
use Rattle.event_book.specs.declared.member.Member.{Member}
use Rattle.event_book.specs.declared.member.ServerOf.{ServerOf}
use Rattle.event_book.specs.Members.{server_of}
use Rattle.script_model.specs.Script.{HeadText, names_of}
use Rattle.cluster_model.specs.Acknowledging.{acknowledge_kinds}
use Rattle.cluster_model.specs.Cluster.{cluster_after, cluster_over}
use Rattle.cluster_model.specs.Commands.{kinds_of}
use Rattle.cluster_model.specs.Next.{acknowledge_events, confirm_events, receive_events, receive_events_at_most}
use Rattle.cluster_model.specs.Parts.{event_of, events_of, for_some}
use Rattle.cluster_model.specs.State.{Cluster}
use Rattle.cluster_model.specs.Streaming.{confirm_of, source_of}
use Rattle.lease_model.specs.Past as lease_past
use Rattle.event_book.specs.Kinds.{AllAre}
use Rattle.commit_actions.specs.Keys.{strict_quorum}
use Rattle.commit_actions.specs.Past.{Past, Setup, past_after, past_over}
use Rattle.commit_actions.specs.States.{State}
use Rattle.commit_book.specs.Flights.{AreCausal}
use Rattle.commit_servers.specs.Acting.{Fits}
use Rattle.commit_servers.specs.Happening.{AreInPlace, MayFollow, MayHappen}
use Rattle.commit_servers.proofs.Acknowledging.{acknowledge-follow}
use Rattle.commit_servers.proofs.First.{in-place}
use Rattle.commit_servers.proofs.Streaming.{receive-at-most}
use Rattle.lease_parts.specs.Asides.{IsQuiet}
use Rattle.run_promise.specs.Members.{member_count}
use Rattle.lease_parts.specs.Kept.{IsKept}
use Rattle.run_promise.specs.Promise.{Upholds, UpholdsAlways}
use Rattle.cluster_model.proofs.Lists.{AllKinds, HoldsIf, all-kinds, all-more}
use Rattle.lease_parts.proofs.Ending.{kept-crash}
use Rattle.lease_parts.proofs.Quiet.{kept-quiet}
use Rattle.lease_parts.proofs.Streams.{IsQuietIf, acknowledge-quiet, confirm-quiet, keeps-acknowledge, keeps-receive-at-most}
use Rattle.run_promise.proofs.Upholding.{upheld-none}
use Rattle.commit_parts.specs.Bridged.{CommitsBridged, kept_commits}
use Rattle.commit_parts.specs.Ordered.{AllInOrder}
use Rattle.commit_parts.specs.Reading.{past_of, setup_of, volatile_of}
use Rattle.commit_parts.proofs.Moving.{OnlyLeave, agents-leave, leave-then, moves-none, moves-then, upheld-moves}
use Rattle.commit_parts.specs.Moving.{Moves}
use Rattle.commit_parts.proofs.Over.{AskSynchronously}
use Rattle.commit_parts.proofs.Still.{IsStill, leaves-still, moves-still}
use Rattle.commit_parts.proofs.Transitions.{composable, state_behind}
use Rattle.pat_base.specs.declared.member_id.TheConstants.{MOST_MEMBERS}

-- ---- events one after another
module _ (setup : Setup) where
  pub moves-follow : (past : Past) (cluster : Cluster) (events : List Event)
      → Fits past cluster.facts (volatile_of cluster) → AllAre IsStill events → MayFollow cluster.facts events
      → Moves setup past cluster events
  moves-follow past cluster [] fits still may = moves-none setup past cluster fits
  moves-follow past cluster (event ∷ events) fits still may =
      moves-then setup past cluster (event ∷ []) events (moves-still setup past cluster event fits still.0 may.0)
      (λ later. moves-follow (past_after past event.kind) (cluster_after cluster event.kind) events later still.1 may.1)

-- what such events leave as it was
pub record LeaveAgents (count quorum : ℕ) (named : lease_past.Past) (past : Past) (cluster : Cluster)
    (events : List Event) : Type 0 where
  pub leave : OnlyLeave named past cluster (lease_past.past_over named events) (past_over past events)
      (cluster_over cluster events)
  pub causal : AreCausal past cluster.facts events
  pub asks : (s : State) → AskSynchronously s count quorum events
  pub ordered : AllInOrder past cluster events

pub leave-follow : (count quorum : ℕ) (named : lease_past.Past) (past : Past) (cluster : Cluster) (events : List Event)
    → AllAre IsStill events → MayFollow cluster.facts events → LeaveAgents count quorum named past cluster events
leave-follow count quorum named past cluster [] still may = record {
  leave = record { agents = λ m agent is. is; asked = λ i question is. (is, refl) };
  causal = (tt, tt);
  asks = λ s. tt;
  ordered = tt;
}
leave-follow count quorum named past cluster (event ∷ events) still may =
    let first = leaves-still named past cluster event.kind still.0 may.0 in
    let rest = leave-follow count quorum (lease_past.past_after named event.kind) (past_after past event.kind)
    (cluster_after cluster event.kind) events still.1 may.1 in
    record {
      leave = leave-then _ _ _ _ _ _ _ _ _ first.leave rest.leave;
      causal = ((first.causal.0.0, (first.causal.0.1.0, rest.causal.0)), (first.causal.1.0, rest.causal.1));
      asks = λ s. ((first.asks s count quorum).0, rest.asks s);
      ordered = (first.ordered.0, rest.ordered);
    }

-- events at servers uphold commits, where they keep the law of one writer
pub upheld-follow : (head : HeadText) (book : List Event) (cluster : Cluster) (events : List Event)
    → CommitsBridged head book cluster → AllAre IsStill events → MayFollow cluster.facts events
    → IsKept head book cluster events → Upholds (kept_commits head) book cluster events
upheld-follow head book cluster events good still may kept =
    let left = leave-follow (member_count head) strict_quorum (lease_past.past_of book)
    (past_of head book) cluster events still may in
    upheld-moves head book cluster events good
    (moves-follow (setup_of head) (past_of head book) cluster events good.fits.servers still may) kept left.causal
    (left.asks (state_behind head book cluster events)) left.ordered
    (agents-leave (member_count head) (lease_past.past_of book) (past_of head book) cluster
    (lease_past.past_over (lease_past.past_of book) events) (past_over (past_of head book) events)
    (cluster_over cluster events) left.leave good.fits.agents)

pub upheld-still : (head : HeadText) (book : List Event) (cluster : Cluster) (kind : EventKind)
    → CommitsBridged head book cluster → IsStill kind → MayHappen cluster.facts kind
    → IsKept head book cluster (event_of cluster kind)
    → Upholds (kept_commits head) book cluster (event_of cluster kind)
upheld-still head book cluster kind good still may kept =
    upheld-follow head book cluster (event_of cluster kind) good (still, tt) (may, tt) kept

-- ---- what is quiet for the law of one writer is still
pub quiet-still : (kind : EventKind) → IsQuiet kind → IsStill kind
quiet-still (kinds.Watchdog happening) quiet = absurd quiet
quiet-still (kinds.Agent (agents.Woken agent)) quiet = absurd quiet
quiet-still (kinds.Agent (agents.Operated agent action)) quiet = absurd quiet
quiet-still (kinds.Agent (agents.Started agent incarnation)) quiet = absurd quiet
quiet-still (kinds.Agent (agents.Killed agent)) quiet = absurd quiet
quiet-still kinds.Tick quiet = absurd quiet
quiet-still (kinds.Message happening) quiet = absurd quiet
quiet-still _ quiet = tt

quiet-kinds : (cluster : Cluster) (list : List EventKind) → AllKinds IsQuiet list
    → AllAre IsStill (events_of cluster list)
quiet-kinds cluster list quiet =
    all-more IsQuiet IsStill (events_of cluster list) quiet-still (all-kinds IsQuiet cluster list quiet)

still-if : (cluster : Cluster) (found : Option EventKind) → IsQuietIf found
    → AllAre IsStill (events_of cluster (kinds_of found))
still-if cluster None quiet = tt
still-if cluster (Some kind) quiet = (quiet-still kind quiet, tt)

still-confirm : (cluster : Cluster) (member from : Member) → AllAre IsStill (confirm_events cluster member from)
still-confirm cluster member from = still-if cluster (confirm_of member from _) (confirm-quiet member from _)

still-receive : (cluster : Cluster) (member from : Member) (news : Option Streamed)
    → AllAre IsStill (receive_events cluster member from news)
still-receive cluster member from None = still-confirm cluster member from
still-receive cluster member from (Some streams.NotConnected) = tt
still-receive cluster member from (Some (streams.Diverged at)) = (tt, tt)
still-receive cluster member from (Some (streams.Received count)) = (
  tt,
  still-confirm (cluster_after cluster (kinds.Log (logs.Received (server_of member) (server_of from) count)))
      member from,
)

still-from : (cluster : Cluster) (most : ℕ) (member : Member) (source : Option Member)
    → AllAre IsStill
    (for_some source
    (λ from. receive_events cluster member from (news_at cluster.facts.servers member.id.number from.id.number most)))
still-from cluster most member None = tt
still-from cluster most member (Some from) =
    still-receive cluster member from (news_at cluster.facts.servers member.id.number from.id.number most)

-- ---- the parts
in-place-now : (head : HeadText) → length (names_of head) ≤ MOST_MEMBERS → (book : List Event) (cluster : Cluster)
    → CommitsBridged head book cluster → AreInPlace cluster.facts.members
in-place-now head few book cluster good =
    subst AreInPlace (sym good.lease.matched.members) (in-place head.config (names_of head) head.base few)

pub upholds-receive : (head : HeadText) → length (names_of head) ≤ MOST_MEMBERS → (most : ℕ) (member : Member)
    → UpholdsAlways (kept_commits head) (λ cluster. receive_events_at_most cluster most member)
upholds-receive head few most member book cluster good =
    upheld-follow head book cluster (receive_events_at_most cluster most member) good
    (still-from cluster most member (source_of cluster.facts.members cluster.facts.servers cluster.facts.cuts member))
    (receive-at-most cluster most member (in-place-now head few book cluster good) good.fits.servers.sound)
    (keeps-receive-at-most head most member book cluster good.lease)

pub upholds-acknowledge : (head : HeadText) (member : Member)
    → UpholdsAlways (kept_commits head) (λ cluster. acknowledge_events cluster member)
upholds-acknowledge head member book cluster good =
    let found = slice_get cluster.facts.servers member.id.number in
    upheld-follow head book cluster (acknowledge_events cluster member) good
    (quiet-kinds cluster (acknowledge_kinds cluster.facts.servers cluster.facts.members member found)
    (acknowledge-quiet cluster.facts.servers cluster.facts.members member found))
    (acknowledge-follow cluster member) (keeps-acknowledge head member book cluster good.lease)

-- ---- commands and notes
pub upholds-note : (head : HeadText) (note : Note)
    → UpholdsAlways (kept_commits head) (λ cluster. event_of cluster (kinds.Note note))
upholds-note head note book cluster good = upheld-still head book cluster (kinds.Note note) good tt tt
    (kept-quiet head book cluster (kinds.Note note) tt good.lease)

-- one event that is quiet for the law of one writer, if one happens
pub upheld-quiet-if : (head : HeadText) (book : List Event) (cluster : Cluster) (found : Option EventKind)
    → CommitsBridged head book cluster → IsQuietIf found → HoldsIf (MayHappen cluster.facts) found
    → Upholds (kept_commits head) book cluster (events_of cluster (kinds_of found))
upheld-quiet-if head book cluster None good quiet may =
    upheld-none (kept_commits head) (composable head) book cluster good
upheld-quiet-if head book cluster (Some kind) good quiet may = upheld-still head book cluster kind good
    (quiet-still kind quiet) may (kept-quiet head book cluster kind quiet good.lease)

pub upholds-crash : (head : HeadText) (book : List Event) (cluster : Cluster) (server : ServerOf)
    → CommitsBridged head book cluster
    → Upholds (kept_commits head) book cluster (event_of cluster (kinds.Server (servers.Crashed server)))
upholds-crash head book cluster server good = upheld-still head book cluster
    (kinds.Server (servers.Crashed server)) good tt tt (kept-crash head book cluster server good.lease)
