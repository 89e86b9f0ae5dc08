-- The event with which an input begins takes what is heard out of flight, and leaves all else.
use Rattle.std.proofs.Common.{ℕ, ◌≡◌, ◌<◌, ◌==◌, Bool, true, false, cond, Option, Some, None, refl, sym, ap, ◌∙◌, subst}
use Rattle.event_book.specs.declared.event.AgentEvent.TheVariants as agents
use Rattle.event_book.specs.declared.event.EventKind.{EventKind}
use Rattle.event_book.specs.declared.event.EventKind.TheVariants as kinds
use Rattle.event_book.specs.declared.event.MessageEvent.TheVariants.{Delivered}
use Rattle.cluster_model.specs.Cluster.{cluster_after}
use Rattle.cluster_model.specs.Parts.{event_of}
use Rattle.cluster_model.specs.State.{Cluster}
use Rattle.commit_showing.specs.Books.{AllLeaveCommits}
use Rattle.commit_actions.specs.Flights.{Flying}
use Rattle.commit_actions.specs.Functions.{forget}
use Rattle.commit_actions.specs.Past.{Past, past_after}
use Rattle.commit_showing.specs.Showing.{AreOwn}
use Rattle.lease_inputs.proofs.InputKinds.{IsOpening}
use Rattle.commit_showing.specs.Changes.{LeavesOrder}
use Rattle.commit_parts.specs.Ordered.{HappensInOrder}
use Rattle.commit_outputs.proofs.Covering.{NoneAbove, told_of}

-- what that event leaves, where its agent hears this message, if any
pub record Opens (m : ℕ) (heard : Option ℕ) (past : Past) (cluster : Cluster) (kind : EventKind) : Type 0 where
  pub flight : (i : ℕ) → (past_after past kind).flight i ≡ forget heard past.flight i
  pub live : (past_after past kind).holder_was_live ≡ past.holder_was_live
  pub leader : (past_after past kind).lease.leader ≡ past.lease.leader
  pub told : told_of (past_after past kind) ≡ told_of past
  pub servers : (cluster_after cluster kind).facts.servers ≡ cluster.facts.servers
  pub remote : (cluster_after cluster kind).facts.remote ≡ cluster.facts.remote
  pub commits : (cluster_after cluster kind).facts.commits ≡ cluster.facts.commits
  pub acknowledged : (cluster_after cluster kind).facts.acknowledged ≡ cluster.facts.acknowledged
  pub processes : (cluster_after cluster kind).facts.processes ≡ cluster.facts.processes
  pub sent : (cluster_after cluster kind).facts.sent ≡ cluster.facts.sent

pub opens : (m : ℕ) (heard : Option ℕ) (past : Past) (cluster : Cluster) (kind : EventKind)
    → IsOpening heard kind → Opens m heard past cluster kind
opens m heard past cluster (kinds.Agent (agents.Woken by)) is =
    record {
      flight = λ i. ap (λ (h : Option ℕ). forget h past.flight i) (sym is);
      live = refl;
      leader = refl;
      told = refl;
      servers = refl;
      remote = refl;
      commits = refl;
      acknowledged = refl;
      processes = refl;
      sent = refl;
    }
opens m heard past cluster (kinds.Agent (agents.Operated by action)) is =
    record {
      flight = λ i. ap (λ (h : Option ℕ). forget h past.flight i) (sym is);
      live = refl;
      leader = refl;
      told = refl;
      servers = refl;
      remote = refl;
      commits = refl;
      acknowledged = refl;
      processes = refl;
      sent = refl;
    }
opens m heard past cluster (kinds.Message (Delivered number)) is =
    record {
      flight = λ i. ap (λ (h : Option ℕ). forget h past.flight i) (sym is);
      live = refl;
      leader = refl;
      told = refl;
      servers = refl;
      remote = refl;
      commits = refl;
      acknowledged = refl;
      processes = refl;
      sent = refl;
    }
opens m heard past cluster _ is = absurd is

forgot-none : (heard : Option ℕ) (flight : ℕ → Option Flying) (i : ℕ) → flight i ≡ None → forget heard flight i ≡ None
forgot-none None flight i is = is
forgot-none (Some number) flight i is = by (i == number)
  where
    by : (here : Bool) → cond here None (flight i) ≡ None
    by true = refl
    by false = is

pub opened-none : (m : ℕ) (heard : Option ℕ) (past : Past) (cluster : Cluster) (kind : EventKind)
    → Opens m heard past cluster kind → NoneAbove past cluster
    → NoneAbove (past_after past kind) (cluster_after cluster kind)
opened-none m heard past cluster kind open_is none i above =
    open_is.flight i ∙ forgot-none heard past.flight i (none i (subst (λ (n : ℕ). n < i) open_is.sent above))

-- ---- it is its agent's own, and in order
pub opening-own : (m : ℕ) (heard : Option ℕ) (cluster : Cluster) (kind : EventKind) → IsOpening heard kind
    → AreOwn m (event_of cluster kind) × AllLeaveCommits (event_of cluster kind)
opening-own m heard cluster (kinds.Agent (agents.Woken by)) is = ((tt, tt), (tt, tt))
opening-own m heard cluster (kinds.Agent (agents.Operated by action)) is = ((tt, tt), (tt, tt))
opening-own m heard cluster (kinds.Message (Delivered number)) is = ((tt, tt), (tt, tt))
opening-own m heard cluster _ is = absurd is

pub opening-aside : (heard : Option ℕ) (cluster : Cluster) (kind : EventKind) → IsOpening heard kind → LeavesOrder kind
opening-aside heard cluster (kinds.Agent (agents.Woken by)) is = tt
opening-aside heard cluster (kinds.Agent (agents.Operated by action)) is = tt
opening-aside heard cluster (kinds.Message (Delivered number)) is = tt
opening-aside heard cluster _ is = absurd is

pub opening-ordered : (past : Past) (cluster : Cluster) (heard : Option ℕ) (kind : EventKind)
    → IsOpening heard kind → HappensInOrder past cluster kind
opening-ordered past cluster heard (kinds.Agent (agents.Woken by)) is = tt
opening-ordered past cluster heard (kinds.Agent (agents.Operated by action)) is = tt
opening-ordered past cluster heard (kinds.Message (Delivered number)) is = tt
opening-ordered past cluster heard _ is = absurd is
