-- The order to restart a server is actions of its own: a primary
-- accepts no writes for a moment, and is live all the while.
use Rattle.std.proofs.Common.{ℕ, ◌≡◌, ◌==◌, not, Bool, true, false, if◌then◌else◌, List, ◌∷◌, ◌++◌, slice_get, Some, refl, ◌∙◌, ap, sym, inr}
use Rattle.pat_base.specs.declared.server_state.State.{State}
use Rattle.pat_base.specs.declared.server_state.State.TheVariants as states
use Rattle.pat_base.specs.declared.ticks.Ticks.{Ticks}
use Rattle.pat_base.specs.ServerState.{live}
use Rattle.pg_model.specs.Facts.{ServerFacts, has_data}
use Rattle.pg_model.specs.Running.{started, stopped}
use Rattle.event_book.specs.declared.event.Event.{Event}
use Rattle.event_book.specs.declared.event.EventKind.{EventKind}
use Rattle.event_book.specs.declared.event.EventKind.TheVariants as kinds
use Rattle.event_book.specs.declared.event.ServerEvent.TheVariants as servers
use Rattle.event_book.specs.declared.member.Member.{Member}
use Rattle.event_book.specs.Members.{server_of}
use Rattle.event_book.specs.Servers.{starts_as_primary}
use Rattle.cluster_model.specs.declared.beginning.Beginning.TheVariants as beginnings
use Rattle.cluster_model.specs.Beginnings.{kinds_by, server_restart_in, server_restart_kinds}
use Rattle.cluster_model.specs.Cluster.{cluster_after}
use Rattle.cluster_model.specs.Parts.{event_of, events_of}
use Rattle.cluster_model.specs.State.{Cluster}
use Rattle.commit_actions.specs.Actions.{Cease}
use Rattle.commit_actions.specs.Past.{Past, Setup, past_after}
use Rattle.commit_showing.proofs.ShownServers.{cease-shown}
use Rattle.commit_servers.specs.Acting.{Fits}
use Rattle.commit_servers.specs.Matching.{IsLiveAhead, IsSameServers, live_in, live_now}
use Rattle.commit_servers.specs.Sound.{AreServersSound}
use Rattle.commit_servers.proofs.Keeping.{sound-by}
use Rattle.commit_servers.proofs.Kept.{change-once}
use Rattle.commit_servers.proofs.Matching.{same-by}
use Rattle.commit_servers.proofs.Places.{changed-here, changed-there}
use Rattle.commit_parts.specs.Reading.{volatile_of}
use Rattle.commit_parts.proofs.Moving.{moves-none}
use Rattle.commit_parts.specs.Moving.{Moves, MovesFrom}
use Rattle.commit_parts.proofs.Servers.{moves-follow}
use Rattle.commit_outputs.proofs.Beginning.{begins-at-once, starts-begin}

-- a start as a primary that takes time leaves the server live
live-starting : (s : ServerFacts) (at : Ticks) (at_once : Bool) → at_once ≡ false
    → live (if not at_once
    then (if at_once then started true s else record s { state = states.Starting true at }) else s).state
    ≡ true
live-starting s at true e = absurd (not-so e)
  where
    not-so : true ≡ false → ⊥
    not-so e = cc
live-starting s at false e = refl

module _ (setup : Setup) (past : Past) (cluster : Cluster) (fits : Fits past cluster.facts (volatile_of cluster))
    (member : Member) (s : ServerFacts) (is : slice_get cluster.facts.servers member.id.number ≡ Some s) where
  abbrev M : ℕ
  M = member.id.number

  abbrev Ending : EventKind
  Ending = kinds.Server (servers.Ended (server_of member))

  abbrev Later : Cluster
  Later = cluster_after cluster Ending

  -- ---- a primary: it is live ahead of the books, from its end to its beginning
  module _ (primary : s.state ≡ states.Primary) where
    found : slice_get Later.facts.servers M ≡ Some (stopped s)
    found = changed-here cluster.facts.servers M stopped s is

    same : IsSameServers (past_after past Ending) Later.facts
    same = same-by past cluster.facts Ending tt fits.same

    sound : AreServersSound Later.facts
    sound = sound-by cluster.facts Ending (record { server = s; is = is; with_data = ap has_data primary }) fits.sound

    ahead : IsLiveAhead (volatile_of cluster) Later.facts.servers M
    ahead = record {
      here = ap live_now is ∙ ap live primary;
      others = λ n other. sym (ap live_now (changed-there cluster.facts.servers M stopped n other));
    }

    starts-live : (s.start_delay.0 == 0) ≡ false
        → live_in (cluster_after Later (kinds.Server (servers.StartsAsPrimary (server_of member)))).facts.servers M
        ≡ true
    starts-live slow =
        ap live_now (changed-here Later.facts.servers M (starts_as_primary Later.facts.clock) (stopped s) found)
        ∙ live-starting (stopped s) _ (s.start_delay.0 == 0) slow

    begins : (at_once : Bool) → (s.start_delay.0 == 0) ≡ at_once
        → MovesFrom setup (past_after past Ending) (volatile_of cluster) Later
        (events_of Later
        (kinds_by member cluster.facts.acknowledged s.log
        (Some (if at_once then beginnings.AtOnce s.timeline else beginnings.WithItsStart))))
    begins true e = begins-at-once setup (past_after past Ending)
        (volatile_of cluster) Later member same sound ahead (λ n. refl) s.timeline (stopped s) found refl
    begins false e = starts-begin setup (past_after past Ending)
        (volatile_of cluster) Later member same sound ahead (λ n. refl) (starts-live e)

    primary-moves : Moves setup past cluster
        (events_of cluster (server_restart_in member cluster.facts.acknowledged states.Primary s))
    primary-moves =
        let begun = begins (s.start_delay.0 == 0) refl in
        record {
          transitions =
              record { action = Cease M; events = event_of cluster Ending; volatile_states = volatile_of cluster }
              ∷ begun.transitions;
          whole = ap (λ (l : List Event). event_of cluster Ending ++ l) begun.whole;
          allowed = (
            tt,
            cease-shown setup past (volatile_of cluster) (record { 0 = Later.facts.clock }) (server_of member),
            change-once (record { 0 = Later.facts.clock }) Ending,
            begun.allowed,
          );
          once = (inr tt, begun.once);
          last = begun.last;
          fits = begun.fits;
        }

  -- ---- each
  moves-in : (state : State) → s.state ≡ state
      → Moves setup past cluster (events_of cluster (server_restart_in member cluster.facts.acknowledged state s))
  moves-in states.Primary is = primary-moves is
  moves-in states.Replica is = moves-follow setup past cluster
      (event_of cluster (kinds.Server (servers.StartsAsReplica (server_of member)))) fits (tt, tt) (tt, tt)
  moves-in _ is = moves-none setup past cluster fits

  -- a server that is there restarts, if it runs
  pub restart-moves : Moves setup past cluster
      (events_of cluster (server_restart_kinds member cluster.facts.acknowledged s))
  restart-moves = moves-in s.state refl
