-- Events that are actions one after another, with what they leave of agents and messages.
use Rattle.std.proofs.Common.{ℕ, ◌++◌, List, [], ◌∷◌, refl, sym, subst}
use Rattle.script_model.specs.Script.{HeadText}
use Rattle.event_book.specs.declared.event.Event.{Event}
use Rattle.cluster_model.specs.Cluster.{cluster_after, cluster_over}
use Rattle.cluster_model.specs.State.{Cluster}
use Rattle.lease_model.specs.Past as lease_past
use Rattle.event_book.specs.Kinds.{AllAre}
use Rattle.lease_law.proofs.Showing.{past-append as lease-append}
use Rattle.commit_actions.specs.Keys.{strict_quorum}
use Rattle.commit_actions.specs.Past.{Past, Setup, past_after, past_over}
use Rattle.commit_showing.proofs.Fronts.{past-append}
use Rattle.commit_actions.specs.States.{State}
use Rattle.commit_book.specs.Flights.{AreCausal}
use Rattle.commit_servers.specs.Acting.{Fits}
use Rattle.commit_servers.specs.Happening.{MayFollow}
use Rattle.run_promise.specs.Members.{member_count}
use Rattle.lease_parts.specs.Kept.{IsKept}
use Rattle.run_promise.specs.Promise.{Upholds}
use Rattle.run_promise.proofs.Upholding.{over-append}
use Rattle.commit_parts.specs.Bridged.{CommitsBridged, kept_commits}
use Rattle.commit_parts.specs.Reading.{past_of, setup_of, volatile_of}
use Rattle.commit_parts.proofs.Moving.{OnlyLeave, agents-leave, leave-then, moves-none, moves-then, upheld-moves}
use Rattle.commit_parts.specs.Moving.{Moves}
use Rattle.commit_parts.proofs.Ordering.{order-then}
use Rattle.commit_parts.proofs.Over.{AskSynchronously}
use Rattle.commit_parts.proofs.Servers.{LeaveAgents, leave-follow, moves-follow}
use Rattle.commit_parts.proofs.Still.{IsStill}
use Rattle.commit_parts.proofs.Transitions.{state_behind}

-- these events are allowed actions which they show, nobody comes in them, and nothing is asked
pub record Goes (setup : Setup) (named : lease_past.Past) (past : Past) (cluster : Cluster) (events : List Event) : Type
    0 where
  pub moves : Moves setup past cluster events
  pub left : LeaveAgents setup.member_count strict_quorum named past cluster events

-- whatever both laws read of a book whose servers fit
abbrev pub GoesFrom : Setup → Cluster → List Event → Type 0
GoesFrom setup cluster events = (named : lease_past.Past) (past : Past)
    → Fits past cluster.facts (volatile_of cluster) → Goes setup named past cluster events

causal-then : (past : Past) (cluster : Cluster) (xs ys : List Event) → AreCausal past cluster.facts xs
    → AreCausal (past_over past xs) (cluster_over cluster xs).facts ys → AreCausal past cluster.facts (xs ++ ys)
causal-then past cluster [] ys first second = second
causal-then past cluster (x ∷ xs) ys first second =
    let rest =
    causal-then (past_after past x.kind) (cluster_after cluster x.kind) xs ys (first.0.1.1, first.1.1) second in
    ((first.0.0, (first.0.1.0, rest.0)), (first.1.0, rest.1))

asks-then : (s : State) (count quorum : ℕ) (xs ys : List Event) → AskSynchronously s count quorum xs
    → AskSynchronously s count quorum ys → AskSynchronously s count quorum (xs ++ ys)
asks-then s count quorum [] ys first second = second
asks-then s count quorum (x ∷ xs) ys first second = (first.0, asks-then s count quorum xs ys first.1 second)

module _ (setup : Setup) where
  pub goes-none : (cluster : Cluster) → GoesFrom setup cluster []
  goes-none cluster named past fits = record {
    moves = moves-none setup past cluster fits;
    left = record {
      leave = record { agents = λ m agent is. is; asked = λ i question is. (is, refl) };
      causal = (tt, tt);
      asks = λ s. tt;
      ordered = tt;
    };
  }

  pub goes-after : (named : lease_past.Past) (past : Past) (cluster : Cluster) (xs ys : List Event)
      → Goes setup named past cluster xs → GoesFrom setup (cluster_over cluster xs) ys
      → Goes setup named past cluster (xs ++ ys)
  goes-after named past cluster xs ys one second =
      let other = second (lease_past.past_over named xs) (past_over past xs) one.moves.fits in
      record {
        moves = moves-then setup past cluster xs ys one.moves (λ later. other.moves);
        left = record {
          leave =
              subst (λ (n : lease_past.Past).
              OnlyLeave named past cluster n (past_over past (xs ++ ys)) (cluster_over cluster (xs ++ ys)))
              (sym (lease-append named xs ys))
              (subst (λ (p : Past). OnlyLeave named past cluster
              (lease_past.past_over (lease_past.past_over named xs) ys) p (cluster_over cluster (xs ++ ys)))
              (sym (past-append past xs ys))
              (subst (λ (c : Cluster). OnlyLeave named past cluster
              (lease_past.past_over (lease_past.past_over named xs) ys) (past_over (past_over past xs) ys) c)
              (sym (over-append cluster xs ys))
              (leave-then _ _ _ _ _ _ _ _ _ one.left.leave other.left.leave)));
          causal = causal-then past cluster xs ys one.left.causal other.left.causal;
          asks = λ s. asks-then s setup.member_count strict_quorum xs ys (one.left.asks s) (other.left.asks s);
          ordered = order-then past cluster xs ys one.left.ordered other.left.ordered;
        };
      }

  pub goes-then : (cluster : Cluster) (xs ys : List Event) → GoesFrom setup cluster xs
      → GoesFrom setup (cluster_over cluster xs) ys → GoesFrom setup cluster (xs ++ ys)
  goes-then cluster xs ys first second named past fits =
      goes-after named past cluster xs ys (first named past fits) second

  pub goes-follow : (cluster : Cluster) (events : List Event) → AllAre IsStill events
      → MayFollow cluster.facts events → GoesFrom setup cluster events
  goes-follow cluster events still may named past fits = record {
    moves = moves-follow setup past cluster events fits still may;
    left = leave-follow setup.member_count strict_quorum named past cluster events still may;
  }

-- such events uphold commits, where they keep the law of one writer
pub upheld-gone : (head : HeadText) (book : List Event) (cluster : Cluster) (events : List Event)
    → CommitsBridged head book cluster
    → Goes (setup_of head) (lease_past.past_of book) (past_of head book) cluster events
    → IsKept head book cluster events → Upholds (kept_commits head) book cluster events
upheld-gone head book cluster events good went kept =
    upheld-moves head book cluster events good went.moves kept went.left.causal
    (went.left.asks (state_behind head book cluster events)) went.left.ordered
    (agents-leave (member_count head) (lease_past.past_of book) (past_of head book) cluster
    (lease_past.past_over (lease_past.past_of book) events) (past_over (past_of head book) events)
    (cluster_over cluster events) went.left.leave good.fits.agents)

pub upheld-goes : (head : HeadText) (book : List Event) (cluster : Cluster) (events : List Event)
    → CommitsBridged head book cluster → GoesFrom (setup_of head) cluster events → IsKept head book cluster events
    → Upholds (kept_commits head) book cluster events
upheld-goes head book cluster events good goes kept = upheld-gone head book cluster events good
    (goes (lease_past.past_of book) (past_of head book) good.fits.servers) kept
