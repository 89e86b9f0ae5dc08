-- Events beside agents and messages that may happen to servers and logs: each is one action.
use Rattle.std.proofs.Common.{ℕ, ◌≡◌, ◌==◌, Bool, true, false, cond, List, [], ◌∷◌, Option, slice_get, refl, ◌∙◌, ap, sym, subst, inr}
use Rattle.std.proofs.Math.Path.{fun_ext}
use Rattle.event_book.specs.declared.event.AgentEvent.TheVariants as agents
use Rattle.event_book.specs.declared.event.Event.{Event}
use Rattle.event_book.specs.declared.event.EventKind.{EventKind}
use Rattle.event_book.specs.declared.event.EventKind.TheVariants as kinds
use Rattle.event_book.specs.declared.event.ServerEvent.TheVariants as servers
use Rattle.event_book.specs.declared.event.StoreEvent.TheVariants as stores
use Rattle.event_book.specs.declared.event.WatchdogEvent.TheVariants as watchdogs
use Rattle.agent_model.specs.Agents.{AgentFacts}
use Rattle.cluster_model.specs.Cluster.{agent_facts_after, cluster_after}
use Rattle.cluster_model.specs.Parts.{event_of}
use Rattle.cluster_model.specs.State.{Cluster}
use Rattle.lease_model.specs.Past as lease_past
use Rattle.lease_model.proofs.Tools.{eq-from}
use Rattle.commit_actions.specs.Past.{Past, Setup, VolatileState, past_after}
use Rattle.commit_actions.specs.States.{Agent, State}
use Rattle.commit_book.specs.Flights.{AreCausal}
use Rattle.commit_servers.specs.Acting.{Fits, Leads}
use Rattle.commit_servers.specs.Happening.{MayHappen}
use Rattle.commit_servers.specs.Matching.{volatile_after}
use Rattle.commit_servers.proofs.Acting.{leads-to}
use Rattle.commit_servers.proofs.Kept.{change-once}
use Rattle.commit_parts.specs.Ordered.{AllInOrder}
use Rattle.commit_parts.specs.Reading.{agent_now, volatile_of}
use Rattle.commit_parts.proofs.Moving.{OnlyLeave}
use Rattle.commit_parts.specs.Moving.{Moves}
use Rattle.commit_parts.proofs.Over.{AskSynchronously}

-- an event at which no agent starts, ends or acts
abbrev pub IsStill : EventKind → Type 0
IsStill kinds.Tick = ⊥
IsStill (kinds.Message happening) = ⊥
IsStill (kinds.Watchdog (watchdogs.Reset member)) = ⊥
IsStill (kinds.Agent (agents.Woken agent)) = ⊥
IsStill (kinds.Agent (agents.Operated agent action)) = ⊥
IsStill (kinds.Agent (agents.Started agent incarnation)) = ⊥
IsStill (kinds.Agent (agents.Killed agent)) = ⊥
IsStill _ = Unit {0}

-- what such an event leaves as it was
pub record LeavesAgents (named : lease_past.Past) (past : Past) (cluster : Cluster) (kind : EventKind) : Type 0 where
  pub agents : agent_facts_after cluster kind ≡ cluster.agents
  pub leave : OnlyLeave named past cluster (lease_past.past_after named kind) (past_after past kind)
      (cluster_after cluster kind)
  pub causal : AreCausal past cluster.facts (event_of cluster kind)
  pub asks : (s : State) (count quorum : ℕ) → AskSynchronously s count quorum (event_of cluster kind)
  pub ordered : AllInOrder past cluster (event_of cluster kind)

pub leaves-still : (named : lease_past.Past) (past : Past) (cluster : Cluster) (kind : EventKind)
    → IsStill kind → MayHappen cluster.facts kind → LeavesAgents named past cluster kind
leaves-still named past cluster kinds.Tick still may = absurd still
leaves-still named past cluster (kinds.Message happening) still may = absurd still
leaves-still named past cluster (kinds.Store (stores.Granted number by txn standbys)) still may = absurd may
leaves-still named past cluster (kinds.Watchdog (watchdogs.Reset member)) still may = absurd still
leaves-still named past cluster (kinds.Agent (agents.Woken agent)) still may = absurd still
leaves-still named past cluster (kinds.Agent (agents.Operated agent action)) still may = absurd still
leaves-still named past cluster (kinds.Agent (agents.Started agent incarnation)) still may = absurd still
leaves-still named past cluster (kinds.Agent (agents.Killed agent)) still may = absurd still
leaves-still named past cluster _ still may =
    record {
      agents = refl;
      leave = record { agents = λ m agent is. is; asked = λ i question is. (is, refl) };
      causal = ((tt, (tt, tt)), (tt, tt));
      asks = λ s count quorum. (tt, tt);
      ordered = (tt, tt);
    }

down-agent : (volatile_states : ℕ → VolatileState) (k m : ℕ) (here : Bool) → (m == k) ≡ here
    → (cond here (record (volatile_states k) { live = false }) (volatile_states m)).agent ≡ (volatile_states m).agent
down-agent volatile_states k m true here = ap (λ (n : ℕ). (volatile_states n).agent) (sym (eq-from m k here))
down-agent volatile_states k m false here = refl

pub agent-stays : (volatile_states : ℕ → VolatileState) (kind : EventKind) (m : ℕ)
    → (volatile_after volatile_states kind m).agent ≡ (volatile_states m).agent
agent-stays volatile_states (kinds.Server (servers.Ended server)) m =
    down-agent volatile_states server.id.number m (m == server.id.number) refl
agent-stays volatile_states (kinds.Server (servers.Crashed server)) m =
    down-agent volatile_states server.id.number m (m == server.id.number) refl
agent-stays volatile_states (kinds.Watchdog (watchdogs.Reset member)) m =
    down-agent volatile_states member.id.number m (m == member.id.number) refl
agent-stays volatile_states _ m = refl

pub volatile-same : (a b : Bool) (x y : Option Agent) → a ≡ b → x ≡ y
    → ◌≡◌ {A = VolatileState} (record { live = a; agent = x }) (record { live = b; agent = y })
volatile-same a b x y p q = cc

-- it is one action
module _ (setup : Setup) (past : Past) (cluster : Cluster) (event : Event)
    (fits : Fits past cluster.facts (volatile_of cluster)) (still : IsStill event.kind)
    (may : MayHappen cluster.facts event.kind) where
  leads : Leads setup past cluster.facts (volatile_of cluster) event.kind
      (volatile_after (volatile_of cluster) event.kind)
  leads = leads-to setup past cluster.facts (volatile_of cluster) event.kind fits may

  volatile-behind : volatile_after (volatile_of cluster) event.kind ≡ volatile_of (cluster_after cluster event.kind)
  volatile-behind = fun_ext (λ m. volatile-same _ _ _ _ (leads.fits.live.live m)
      (agent-stays (volatile_of cluster) event.kind m
      ∙ ap (λ (agents : List (Option AgentFacts)). agent_now (slice_get agents m))
      (sym (leaves-still lease_past.first_past past cluster event.kind still may).agents)))

  pub moves-still : Moves setup past cluster (event ∷ [])
  moves-still = record {
    transitions = record {
      action = leads.action.action;
      events = event ∷ [];
      volatile_states = volatile_after (volatile_of cluster) event.kind;
    } ∷ [];
    whole = refl;
    allowed = (leads.action.allowed, leads.action.shown event.tick, change-once event.tick event.kind, tt);
    once = (inr tt, tt);
    last = volatile-behind;
    fits =
        subst (λ (v : ℕ → VolatileState). Fits (past_after past event.kind) (cluster_after cluster event.kind).facts v)
        volatile-behind leads.fits;
  }
