-- Events of other concerns.
use Rattle.std.proofs.Common.{ℕ, ◌≡◌, ◌≢◌, Bool, List, Option, refl}
use Rattle.pat_base.specs.declared.ticks.Ticks.{Ticks}
use Rattle.lease_store.specs.Keys.{Keys}
use Rattle.pg_model.specs.Facts.{ServerFacts}
use Rattle.event_book.specs.declared.agent_process.AgentProcess.{AgentProcess}
use Rattle.event_book.specs.declared.event.EventKind.{EventKind}
use Rattle.event_book.specs.declared.event.EventKind.TheVariants as kinds
use Rattle.event_book.specs.Acknowledged.{acknowledged_after, commits_after}
use Rattle.event_book.specs.Processes.{processes_after}
use Rattle.event_book.specs.Clock.{now_after}
use Rattle.event_book.specs.Flight.{Flight, flight_after, sent_after}
use Rattle.event_book.specs.Frozen.{frozen_after}
use Rattle.event_book.specs.Keys.{keys_after}
use Rattle.event_book.specs.Links.{CutLinks, cuts_after}
use Rattle.event_book.specs.Servers.{remote_after, servers_after}
use Rattle.event_book.specs.Watchdogs.{deadlines_after, holds_after}
use Rattle.cluster_model.specs.Cluster.{agent_facts_after}
use Rattle.cluster_model.specs.FailsafeDeadlines.{failsafe_deadlines_after}
use Rattle.cluster_model.specs.State.{Cluster}
use Rattle.cluster_model.specs.Concerns.{concern_of, Time, Messages, Store, Watchdogs, Servers, Logs, Replication, Agents, Links}

pub clock-stays : (now : ℕ) (kind : EventKind) → concern_of kind ≢ Time → now_after now kind ≡ now
clock-stays now kinds.Tick other = absurd (other refl)
clock-stays now _ other = refl

pub store-stays : (now : ℕ) (known : Keys) (kind : EventKind) → concern_of kind ≢ Time
    → concern_of kind ≢ Store → keys_after now known kind ≡ known
store-stays now known kinds.Tick time store = absurd (time refl)
store-stays now known (kinds.Store happening) time store = absurd (store refl)
store-stays now known _ time store = refl

pub processes-stay : (states : List AgentProcess) (kind : EventKind) → concern_of kind ≢ Agents
    → concern_of kind ≢ Watchdogs → processes_after states kind ≡ states
processes-stay states (kinds.Agent happening) agents watchdogs = absurd (agents refl)
processes-stay states (kinds.Watchdog happening) agents watchdogs = absurd (watchdogs refl)
processes-stay states _ agents watchdogs = refl

pub agents-stay : (cluster : Cluster) (kind : EventKind) → concern_of kind ≢ Messages
    → concern_of kind ≢ Agents → concern_of kind ≢ Watchdogs → agent_facts_after cluster kind ≡ cluster.agents
agents-stay cluster (kinds.Message happening) messages agents watchdogs = absurd (messages refl)
agents-stay cluster (kinds.Agent happening) messages agents watchdogs = absurd (agents refl)
agents-stay cluster (kinds.Watchdog happening) messages agents watchdogs = absurd (watchdogs refl)
agents-stay cluster _ messages agents watchdogs = refl

pub deadlines-stay : (deadlines : List (Option Ticks)) (kind : EventKind) → concern_of kind ≢ Watchdogs
    → deadlines_after deadlines kind ≡ deadlines
deadlines-stay deadlines (kinds.Watchdog happening) other = absurd (other refl)
deadlines-stay deadlines _ other = refl

pub failsafe-deadlines-stay : (before : List Bool) (kind : EventKind) → concern_of kind ≢ Watchdogs
    → failsafe_deadlines_after before kind ≡ before
failsafe-deadlines-stay before (kinds.Watchdog happening) other = absurd (other refl)
failsafe-deadlines-stay before _ other = refl

pub holds-stay : (holds : List (Option Ticks)) (kind : EventKind) → concern_of kind ≢ Watchdogs
    → holds_after holds kind ≡ holds
holds-stay holds (kinds.Watchdog happening) other = absurd (other refl)
holds-stay holds _ other = refl

pub links-stay : (cuts : CutLinks) (kind : EventKind) → concern_of kind ≢ Links → cuts_after cuts kind ≡ cuts
links-stay cuts (kinds.Link happening) other = absurd (other refl)
links-stay cuts _ other = refl

pub messages-stay : (now : ℕ) (known : Keys) (flight : Flight) (kind : EventKind) → concern_of kind ≢ Messages
    → flight_after now known flight kind ≡ flight
messages-stay now known flight (kinds.Message happening) other = absurd (other refl)
messages-stay now known flight _ other = refl

pub numbers-stay : (last : ℕ) (kind : EventKind) → concern_of kind ≢ Messages → sent_after last kind ≡ last
numbers-stay last (kinds.Message happening) other = absurd (other refl)
numbers-stay last _ other = refl

pub servers-stay : (now : ℕ) (known : List ServerFacts) (remote : Option ServerFacts) (kind : EventKind)
    → concern_of kind ≢ Time → concern_of kind ≢ Servers → concern_of kind ≢ Logs → concern_of kind ≢ Replication
    → concern_of kind ≢ Watchdogs → servers_after now known remote kind ≡ known
servers-stay now known remote kinds.Tick time servers logs replication watchdogs = absurd (time refl)
servers-stay now known remote (kinds.Watchdog happening) time servers logs replication watchdogs =
    absurd (watchdogs refl)
servers-stay now known remote (kinds.Server happening) time servers logs replication watchdogs = absurd (servers refl)
servers-stay now known remote (kinds.Log happening) time servers logs replication watchdogs = absurd (logs refl)
servers-stay now known remote (kinds.Replication happening) time servers logs replication watchdogs =
    absurd (replication refl)
servers-stay now known remote _ time servers logs replication watchdogs = refl

pub remote-stays : (remote : Option ServerFacts) (kind : EventKind) → concern_of kind ≢ Logs
    → remote_after remote kind ≡ remote
remote-stays remote (kinds.Log happening) other = absurd (other refl)
remote-stays remote _ other = refl

pub frozen-stay : (frozen : List Bool) (kind : EventKind) → concern_of kind ≢ Servers
    → frozen_after frozen kind ≡ frozen
frozen-stay frozen (kinds.Server happening) other = absurd (other refl)
frozen-stay frozen _ other = refl

pub commits-stay : (last : ℕ) (kind : EventKind) → concern_of kind ≢ Logs → commits_after last kind ≡ last
commits-stay last (kinds.Log happening) other = absurd (other refl)
commits-stay last _ other = refl

pub acknowledged-stay : (told : List ℕ) (kind : EventKind) → concern_of kind ≢ Replication
    → acknowledged_after told kind ≡ told
acknowledged-stay told (kinds.Replication happening) other = absurd (other refl)
acknowledged-stay told _ other = refl
