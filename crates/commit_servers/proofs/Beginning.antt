-- A server begins by the order of its agent, and agents end.
use Rattle.std.proofs.Common.{ℕ, ◌≡◌, ◌<◌, Bool, true, List, [], length, Option, slice_get, Some, None, ◌∙◌, ap, sym}
use Rattle.std.proofs.lemmas.Option.{slice_get_within}
use Rattle.pg_model.specs.Facts.{ServerFacts, entries_of, has_data}
use Rattle.event_book.specs.declared.event.EventKind.{EventKind}
use Rattle.event_book.specs.declared.event.EventKind.TheVariants as kinds
use Rattle.event_book.specs.declared.event.ServerEvent.TheVariants as servers
use Rattle.event_book.specs.declared.event.WatchdogEvent.TheVariants as watchdogs
use Rattle.event_book.specs.declared.member.Member.{Member}
use Rattle.event_book.specs.Clock.{now_after}
use Rattle.event_book.specs.Facts.{Facts, facts_after}
use Rattle.event_book.specs.Functions.{put_at}
use Rattle.event_book.specs.Members.{server_of}
use Rattle.event_book.specs.Servers.{servers_after}
use Rattle.event_book.specs.Writers.{BeginsKind}
use Rattle.cluster_model.specs.Commands.{kinds_of}
use Rattle.cluster_model.specs.Cluster.{cluster_after}
use Rattle.cluster_model.specs.Losing.{beginning_kinds, loss_if}
use Rattle.cluster_model.specs.Parts.{events_of}
use Rattle.cluster_model.specs.State.{Cluster}
use Rattle.wal_model.specs.Lacking.{lacks_in}
use Rattle.lease_model.proofs.Tools.{put-all, put-here, put-there}
use Rattle.commit_actions.specs.Actions.{Kill}
use Rattle.commit_showing.specs.Books.{IsShown}
use Rattle.commit_actions.specs.Past.{Setup, Past, VolatileState, machine_of, past_after, state_of}
use Rattle.commit_actions.specs.States.{Agent, Machine}
use Rattle.commit_showing.proofs.ShownServers.{members-shown}
use Rattle.commit_servers.specs.Matching.{IsSameServers, IsLiveAs, IsLiveAhead, live_in}
use Rattle.commit_servers.specs.Sound.{AreServersSound}
use Rattle.commit_servers.specs.Happening.{LeavesSound}
use Rattle.commit_servers.specs.Acting.{AreActions, Fits, IsAside, Leads}
use Rattle.commit_servers.proofs.Acting.{actions-of, began-action}
use Rattle.commit_servers.proofs.Completions.{loss-may}
use Rattle.commit_servers.proofs.Following.{follow-if}
use Rattle.commit_servers.proofs.Keeping.{sound-by}
use Rattle.commit_servers.proofs.Live.{live-begins, live-ticked}
use Rattle.commit_servers.proofs.Matching.{same-by}

-- ---- a beginning ahead of which the server was made live
began-leads : (setup : Setup) (past : Past) (facts : Facts) (volatile_states : ℕ → VolatileState)
    (member : Member) (timeline : ℕ) (s : ServerFacts) → IsSameServers past facts → AreServersSound facts
    → IsLiveAhead volatile_states facts.servers member.id.number
    → slice_get facts.servers member.id.number ≡ Some s → has_data s.state ≡ true
    → Leads setup past facts volatile_states (kinds.Server (servers.Began (server_of member) timeline)) volatile_states
began-leads setup past facts volatile_states member timeline s same sound ahead is with_data =
    let kind : EventKind = kinds.Server (servers.Began (server_of member) timeline) in
    record {
      action = began-action setup past facts volatile_states (server_of member) timeline s same is ahead.here;
      fits = record {
        same = same-by past facts kind (slice_get_within facts.servers member.id.number s is) same;
        live = live-begins volatile_states facts.servers member.id.number s is ahead;
        sound = sound-by facts kind (record { server = s; is = is; with_data = with_data }) sound;
      };
    }

pub begins-ahead : (setup : Setup) (past : Past) (cluster : Cluster) (volatile_states : ℕ → VolatileState)
    (member : Member) (timeline : ℕ) (s : ServerFacts) (acknowledged : List ℕ)
    → IsSameServers past cluster.facts → AreServersSound cluster.facts
    → IsLiveAhead volatile_states cluster.facts.servers member.id.number
    → slice_get cluster.facts.servers member.id.number ≡ Some s → has_data s.state ≡ true
    → AreActions setup past cluster.facts volatile_states
    (events_of cluster (beginning_kinds member timeline acknowledged s.log))
begins-ahead setup past cluster volatile_states member timeline s acknowledged same sound ahead is with_data =
    let kind : EventKind = kinds.Server (servers.Began (server_of member) timeline) in
    let later : Cluster = cluster_after cluster kind in
    let lacks : Bool = lacks_in (entries_of s.log) acknowledged in
    let leads =
    began-leads setup past cluster.facts volatile_states member timeline s same sound ahead is with_data in (
      leads,
      actions-of setup (past_after past kind) later.facts volatile_states
          (events_of later (kinds_of (loss_if member lacks))) leads.fits
          (follow-if later (loss_if member lacks) (loss-may later.facts member lacks)),
    )

-- ---- an agent ends with no event of its own
agent-of : (past : Past) (m : ℕ) (a b : VolatileState) → a ≡ b → machine_of past a m ≡ machine_of past b m
agent-of past m a b e = ap (λ (v : VolatileState). machine_of past v m) e

pub killed-shown : (setup : Setup) (past : Past) (volatile_states : ℕ → VolatileState) (m : ℕ) →
    IsShown setup past volatile_states (record {
      action = Kill m;
      events = [];
      volatile_states = put_at volatile_states m (record (volatile_states m) { agent = None });
    })
killed-shown setup past volatile_states m =
    let ended : VolatileState = record (volatile_states m) { agent = None } in
    ap (λ (members : ℕ → Machine). record (state_of setup past volatile_states) { members = members })
    (members-shown past past volatile_states (put_at volatile_states m ended) m
    (record (machine_of past (volatile_states m) m) { agent = None })
    (agent-of past m _ _ (put-here volatile_states m ended))
    (λ n other. agent-of past n _ _ (put-there volatile_states m ended n other)))

-- whatever agents there are
pub fits-agents : (past : Past) (facts : Facts) (volatile_states : ℕ → VolatileState) (m : ℕ) (agent : Option Agent)
    → Fits past facts volatile_states
    → Fits past facts (put_at volatile_states m (record (volatile_states m) { agent = agent }))
fits-agents past facts volatile_states m agent fits = record {
  same = fits.same;
  live = record {
    live = put-all volatile_states m (record (volatile_states m) { agent = agent })
        (λ n state. state.live ≡ live_in facts.servers n) (fits.live.live m) (λ n other. fits.live.live n);
  };
  sound = fits.sound;
}

-- ---- what changes no server but those whose start or stop is complete with a tick
live-aside : (volatile_states : ℕ → VolatileState) (now : ℕ) (facts : Facts) (kind : EventKind) → IsAside kind
    → IsLiveAs volatile_states facts.servers
    → IsLiveAs volatile_states (servers_after now facts.servers facts.remote kind)
live-aside volatile_states now facts kinds.Tick aside is = record {
  live = λ m. is.live m ∙ sym (live-ticked (record { 0 = now }) facts.servers m);
}
live-aside volatile_states now facts (kinds.Message happening) aside is = is
live-aside volatile_states now facts (kinds.Store happening) aside is = is
live-aside volatile_states now facts (kinds.Watchdog (watchdogs.Reset member)) aside is = absurd aside
live-aside volatile_states now facts (kinds.Watchdog (watchdogs.Armed member until answer)) aside is = is
live-aside volatile_states now facts (kinds.Watchdog (watchdogs.Fed member until basis)) aside is = is
live-aside volatile_states now facts (kinds.Watchdog (watchdogs.Disarmed member)) aside is = is
live-aside volatile_states now facts (kinds.Watchdog (watchdogs.Measured member since)) aside is = is
live-aside volatile_states now facts (kinds.Watchdog (watchdogs.HoldTaken member until from incarnation sequence)) aside
    is =
    is
live-aside volatile_states now facts (kinds.Server happening) aside is = absurd aside
live-aside volatile_states now facts (kinds.Log happening) aside is = absurd aside
live-aside volatile_states now facts (kinds.Replication happening) aside is = absurd aside
live-aside volatile_states now facts (kinds.Agent happening) aside is = is
live-aside volatile_states now facts (kinds.Link happening) aside is = is
live-aside volatile_states now facts (kinds.Note happening) aside is = is

begins-aside : (facts : Facts) (kind : EventKind) → IsAside kind → BeginsKind (λ n. n < length facts.servers) kind
begins-aside facts (kinds.Server happening) aside = absurd aside
begins-aside facts _ aside = tt

sound-aside : (facts : Facts) (kind : EventKind) → IsAside kind → LeavesSound facts kind
sound-aside facts (kinds.Server happening) aside = absurd aside
sound-aside facts (kinds.Log happening) aside = absurd aside
sound-aside facts (kinds.Replication happening) aside = absurd aside
sound-aside facts _ aside = tt

pub fits-aside : (past : Past) (facts : Facts) (volatile_states : ℕ → VolatileState) (kind : EventKind) → IsAside kind
    → Fits past facts volatile_states → Fits (past_after past kind) (facts_after facts kind) volatile_states
fits-aside past facts volatile_states kind aside fits = record {
  same = same-by past facts kind (begins-aside facts kind aside) fits.same;
  live = live-aside volatile_states (now_after facts.clock kind) facts kind aside fits.live;
  sound = sound-by facts kind (sound-aside facts kind aside) fits.sound;
}
