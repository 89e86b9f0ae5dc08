-- Events that are actions one after another, behind which books and clusters fit.
use Rattle.std.proofs.Common.{ℕ, ◌≡◌, ◌<◌, ◌++◌, List, [], ◌∷◌, length, Some, slice_get, refl, ◌∙◌, ap, sym, subst, inr}
use Rattle.script_model.specs.Script.{HeadText}
use Rattle.event_book.specs.declared.event.Event.{Event}
use Rattle.event_book.specs.declared.event.EventKind.{EventKind}
use Rattle.event_book.specs.Writers.{BeginsKind}
use Rattle.agent_model.specs.Agents.{AgentFacts}
use Rattle.cluster_model.specs.Cluster.{cluster_after, cluster_over}
use Rattle.cluster_model.specs.Parts.{event_of}
use Rattle.cluster_model.specs.State.{Cluster}
use Rattle.lease_model.specs.Leases.{Question as Asked}
use Rattle.lease_model.specs.Past as lease_past
use Rattle.lease_law.proofs.Runs.{assoc}
use Rattle.lease_law.proofs.Showing.{past-append as lease-append}
use Rattle.commit_actions.specs.Keys.{strict_quorum}
use Rattle.commit_actions.specs.Actions.{Action, IsAllowed}
use Rattle.commit_showing.specs.Books.{AreAllowed, IsShown, Transition, book_of}
use Rattle.commit_actions.specs.Past.{Past, Setup, VolatileState, past_over, state_of}
use Rattle.commit_actions.specs.States.{State}
use Rattle.commit_showing.proofs.Fronts.{past-append}
use Rattle.commit_book.specs.Flights.{AreCausal}
use Rattle.commit_servers.specs.Acting.{Fits}
use Rattle.commit_servers.specs.Happening.{LeavesSound}
use Rattle.commit_servers.specs.Matching.{IsSameServers}
use Rattle.commit_servers.specs.Sound.{AreServersSound}
use Rattle.commit_servers.proofs.Keeping.{sound-by}
use Rattle.commit_servers.proofs.Kept.{change-once}
use Rattle.commit_servers.proofs.Matching.{same-by}
use Rattle.run_promise.specs.Members.{member_count}
use Rattle.lease_parts.specs.Kept.{IsKept}
use Rattle.run_promise.specs.Promise.{Upholds}
use Rattle.run_promise.proofs.Upholding.{over-append}
use Rattle.commit_parts.specs.Agents.{AreAgentsSynchronous}
use Rattle.commit_parts.specs.Bridged.{CommitsBridged, FitsBy, kept_commits}
use Rattle.commit_parts.specs.Reading.{past_of, setup_of, state_of_run, volatile_of}
use Rattle.commit_parts.proofs.Numbers.{StayNumbered, ask-numbered, numbered-last}
use Rattle.commit_parts.proofs.Over.{AskSynchronously, StoreFits, store-over, strict-front}
use Rattle.commit_parts.specs.Ordered.{AllInOrder}
use Rattle.commit_showing.specs.Changes.{EachChangesOnce}
use Rattle.commit_parts.proofs.Transitions.{FitsBehind, past-more, state_behind, upheld-by}
use Rattle.commit_parts.specs.Moving.{volatile_last, MovesFrom, Moves}

book-both : (first second : List Transition) → book_of (first ++ second) ≡ book_of first ++ book_of second
book-both [] second = refl
book-both (t ∷ first) second = ap (λ (l : List Event). t.events ++ l) (book-both first second)
    ∙ sym (assoc t.events (book_of first) (book_of second))

last-both : (volatile_states : ℕ → VolatileState) (first second : List Transition)
    → volatile_last volatile_states (first ++ second) ≡ volatile_last (volatile_last volatile_states first) second
last-both volatile_states [] second = refl
last-both volatile_states (t ∷ first) second = last-both t.volatile_states first second

allowed-both : (setup : Setup) (past : Past) (volatile_states : ℕ → VolatileState) (first second : List Transition)
    → AreAllowed setup past volatile_states first
    → AreAllowed setup (past_over past (book_of first)) (volatile_last volatile_states first) second
    → AreAllowed setup past volatile_states (first ++ second)
allowed-both setup past volatile_states [] second one other = other
allowed-both setup past volatile_states (t ∷ first) second one other = (
  one.0,
  one.1,
  one.2,
  allowed-both setup (past_over past t.events) t.volatile_states first second one.3
      (subst (λ (p : Past). AreAllowed setup p (volatile_last t.volatile_states first) second)
      (past-append past t.events (book_of first)) other),
)

once-both : (first second : List Transition) → EachChangesOnce first → EachChangesOnce second
    → EachChangesOnce (first ++ second)
once-both [] second one other = other
once-both (t ∷ first) second one other = (one.0, once-both first second one.1 other)

pub moves-none : (setup : Setup) (past : Past) (cluster : Cluster)
    → Fits past cluster.facts (volatile_of cluster) → Moves setup past cluster []
moves-none setup past cluster fits =
    record { transitions = []; whole = refl; allowed = tt; once = tt; last = refl; fits = fits }

-- what comes behind stands where the first events lead
pub moves-from-then : (setup : Setup) (past : Past) (states : ℕ → VolatileState) (cluster : Cluster)
    (xs ys : List Event) → MovesFrom setup past states cluster xs
    → (Fits (past_over past xs) (cluster_over cluster xs).facts (volatile_of (cluster_over cluster xs)) →
    Moves setup (past_over past xs) (cluster_over cluster xs) ys)
    → MovesFrom setup past states cluster (xs ++ ys)
moves-from-then setup past states cluster xs ys first later =
    let second = later first.fits in
    record {
      transitions = first.transitions ++ second.transitions;
      whole = book-both first.transitions second.transitions
          ∙ ap (λ (l : List Event). l ++ book_of second.transitions) first.whole
          ∙ ap (λ (l : List Event). xs ++ l) second.whole;
      allowed = allowed-both setup past states first.transitions second.transitions first.allowed
          (subst (λ (l : List Event).
          AreAllowed setup (past_over past l) (volatile_last states first.transitions) second.transitions)
          (sym first.whole)
          (subst (λ (v : ℕ → VolatileState). AreAllowed setup (past_over past xs) v second.transitions)
          (sym first.last) second.allowed));
      once = once-both first.transitions second.transitions first.once second.once;
      last = last-both states first.transitions second.transitions
          ∙ ap (λ (v : ℕ → VolatileState). volatile_last v second.transitions) first.last ∙ second.last
          ∙ ap volatile_of (sym (over-append cluster xs ys));
      fits = subst
          (λ (p : Past). Fits p (cluster_over cluster (xs ++ ys)).facts (volatile_of (cluster_over cluster (xs ++ ys))))
          (sym (past-append past xs ys))
          (subst (λ (c : Cluster). Fits (past_over (past_over past xs) ys) c.facts (volatile_of c))
          (sym (over-append cluster xs ys)) second.fits);
    }

pub moves-then : (setup : Setup) (past : Past) (cluster : Cluster) (xs ys : List Event) → Moves setup past cluster xs
    → (Fits (past_over past xs) (cluster_over cluster xs).facts (volatile_of (cluster_over cluster xs)) →
    Moves setup (past_over past xs) (cluster_over cluster xs) ys)
    → Moves setup past cluster (xs ++ ys)
moves-then setup past cluster xs ys first later =
    moves-from-then setup past (volatile_of cluster) cluster xs ys first later

-- one event that is one action, which leaves each server sound
pub moves-one : (setup : Setup) (past : Past) (states : ℕ → VolatileState) (cluster : Cluster)
    (kind : EventKind) (action : Action) → IsSameServers past cluster.facts → AreServersSound cluster.facts
    → BeginsKind (λ n. n < length cluster.facts.servers) kind → LeavesSound cluster.facts kind
    → IsAllowed (state_of setup past states) action
    → IsShown setup past states (record {
      action = action;
      events = event_of cluster kind;
      volatile_states = volatile_of (cluster_after cluster kind);
    })
    → MovesFrom setup past states cluster (event_of cluster kind)
moves-one setup past states cluster kind action same sound begins leaves allowed shown = record {
  transitions = record {
    action = action;
    events = event_of cluster kind;
    volatile_states = volatile_of (cluster_after cluster kind);
  } ∷ [];
  whole = refl;
  allowed = (allowed, shown, change-once (record { 0 = (cluster_after cluster kind).facts.clock }) kind, tt);
  once = (inr tt, tt);
  last = refl;
  fits = record {
    same = same-by past cluster.facts kind begins same;
    live = record { live = λ m. refl };
    sound = sound-by cluster.facts kind leaves sound;
  };
}

-- what was asked, and who runs: nobody is new, and nothing that is known was asked anew
pub record OnlyLeave (named : lease_past.Past) (past : Past) (cluster : Cluster) (named' : lease_past.Past)
    (past' : Past) (cluster' : Cluster) : Type 0 where
  pub agents : (m : ℕ) (agent : AgentFacts) → slice_get cluster'.agents m ≡ Some (Some agent)
      → slice_get cluster.agents m ≡ Some (Some agent)
  pub asked : (i : ℕ) (question : Asked) → named'.asked i ≡ Some question
      → (named.asked i ≡ Some question) × (past'.asked i ≡ past.asked i)

pub leave-then : (n n' n'' : lease_past.Past) (p p' p'' : Past) (c c' c'' : Cluster)
    → OnlyLeave n p c n' p' c' → OnlyLeave n' p' c' n'' p'' c'' → OnlyLeave n p c n'' p'' c''
leave-then n n' n'' p p' p'' c c' c'' first second = record {
  agents = λ m agent is. first.agents m agent (second.agents m agent is);
  asked = λ i question is.
      let later = second.asked i question is in
      let before = first.asked i question later.0 in
      (before.0, later.1 ∙ before.1);
}

pub agents-leave : (count : ℕ) (named : lease_past.Past) (past : Past) (cluster : Cluster) (named' : lease_past.Past)
    (past' : Past) (cluster' : Cluster) → OnlyLeave named past cluster named' past' cluster'
    → AreAgentsSynchronous count named.asked past.asked cluster.agents
    → AreAgentsSynchronous count named'.asked past'.asked cluster'.agents
agents-leave count named past cluster named' past' cluster' leave all = record {
  each = λ m agent is.
      let old = all.each m agent (leave.agents m agent is) in
      record {
        on = old.on;
        writes = λ waited waits asks i question asked member in_run sequence.
            let before = leave.asked i question asked in
            let write = old.writes waited waits asks i question before.0 member in_run sequence in
            (write.0, before.1 ∙ write.1, write.2);
      };
  members = λ i question asked. all.members i question (leave.asked i question asked).0;
}

-- such events uphold commits, where they keep the law of one writer, and agents know behind them what they wait for
pub upheld-moves : (head : HeadText) (book : List Event) (cluster : Cluster) (events : List Event)
    → CommitsBridged head book cluster
    → Moves (setup_of head) (past_of head book) cluster events → IsKept head book cluster events
    → AreCausal (past_of head book) cluster.facts events
    → AskSynchronously (state_behind head book cluster events) (member_count head) strict_quorum events
    → AllInOrder (past_of head book) cluster events
    → AreAgentsSynchronous (member_count head) (lease_past.past_over (lease_past.past_of book) events).asked
    (past_over (past_of head book) events).asked (cluster_over cluster events).agents
    → Upholds (kept_commits head) book cluster events
upheld-moves head book cluster events good moves kept causal asks ordered agents =
    subst (λ (l : List Event). Upholds (kept_commits head) book cluster l) moves.whole
    (upheld-by head book cluster moves.transitions good moves.allowed moves.once
    (moves.last ∙ ap (λ (l : List Event). volatile_of (cluster_over cluster l)) (sym moves.whole))
    (subst (λ (l : List Event). IsKept head book cluster l) (sym moves.whole) kept)
    (λ front back e. strict-front (state_behind head book cluster events) (member_count head) strict_quorum
    (past_of head book) front back events (e ∙ moves.whole) asks good.fits.strict)
    (subst (λ (l : List Event). AllInOrder (past_of head book) cluster l) (sym moves.whole) ordered)
    (subst (λ (l : List Event). FitsBehind head book cluster l) (sym moves.whole) fits))
  where
    later : State
    later = state_behind head book cluster events

    -- what is numbered stays so
    stay : StayNumbered (state_of_run head book cluster).members (state_behind head book cluster events).members
    stay =
        subst (λ (v : ℕ → VolatileState). StayNumbered (state_of_run head book cluster).members
        (state_of (setup_of head) (past_over (past_of head book) events) v).members)
        moves.last
        (subst (λ (l : List Event). StayNumbered (state_of_run head book cluster).members
        (state_of (setup_of head) (past_over (past_of head book) l)
        (volatile_last (volatile_of cluster) moves.transitions)).members)
        moves.whole
        (numbered-last (setup_of head) (past_of head book) (volatile_of cluster) moves.transitions moves.allowed))

    begins : StoreFits (state_behind head book cluster events) (member_count head) strict_quorum
        (past_of head book) cluster
    begins = record {
      store = good.fits.store;
      mode = good.fits.mode;
      strict = good.fits.strict;
      told = good.fits.told;
      requests = good.fits.requests;
      asks = λ i carried is. ask-numbered (state_of_run head book cluster) later stay carried.message.from
          carried.message.incarnation carried.message.sequence carried.message.body (good.asks i carried is);
    }

    fits : FitsBehind head book cluster events
    fits mode lease =
        let store =
        store-over later (member_count head) strict_quorum (past_of head book) cluster events causal mode asks begins in
        let all : FitsBy (member_count head) strict_quorum (past_over (past_of head book) events)
        (lease_past.past_over (lease_past.past_of book) events) (cluster_over cluster events) = record {
          store = store.store;
          servers = moves.fits;
          mode = store.mode;
          strict = store.strict;
          told = store.told;
          requests = store.requests;
          agents = agents;
        } in
        let named : FitsBy (member_count head) strict_quorum (past_over (past_of head book) events)
        (lease_past.past_of (book ++ events)) (cluster_over cluster events) =
        subst (λ (n : lease_past.Past).
        FitsBy (member_count head) strict_quorum (past_over (past_of head book) events) n (cluster_over cluster events))
        (sym (lease-append lease_past.first_past book events)) all in (
          subst (λ (p : Past). FitsBy (member_count head) strict_quorum p
              (lease_past.past_of (book ++ events)) (cluster_over cluster events))
              (sym (past-more head book events)) named,
          store.asks,
        )
