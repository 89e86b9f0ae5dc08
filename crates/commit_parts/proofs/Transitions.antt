-- Actions one after another keep what the law carries, and commits at each moment inside them.
use Rattle.std.proofs.Common.{ℕ, ◌≡◌, ◌++◌, true, List, [], ◌∷◌, refl, ◌∙◌, ap, sym, subst, inl, inr}
use Rattle.script_model.specs.Script.{HeadText}
use Rattle.event_book.specs.declared.event.Event.{Event}
use Rattle.cluster_model.specs.Cluster.{cluster_over}
use Rattle.cluster_model.specs.State.{Cluster}
use Rattle.commit_showing.specs.Books.{AreAllowed, KeepsNow, Transition, book_of}
use Rattle.commit_actions.specs.Keys.{strict_quorum}
use Rattle.commit_actions.specs.Carried.{IsSound}
use Rattle.commit_actions.specs.Past.{Past, Setup, VolatileState, past_over, state_of}
use Rattle.commit_actions.specs.States.{State}
use Rattle.commit_law.specs.Noted.{AreNoted}
use Rattle.commit_servers.proofs.Growing.{noted-behind}
use Rattle.commit_servers.proofs.Kept.{keeps-now}
use Rattle.commit_showing.proofs.Fronts.{kept-after, kept-inside, past-append}
use Rattle.lease_law.proofs.Runs.{cuts, no-cons}
use Rattle.lease_parts.specs.Bridged.{Bridged}
use Rattle.lease_parts.specs.Kept.{IsKept}
use Rattle.run_promise.specs.Promise.{IsComposable, Upholds}
use Rattle.lease_parts.proofs.Composing.{premises-front}
use Rattle.summary_model.specs.Claims.{KeepMode}
use Rattle.commit_parts.specs.Agents.{AsksAreNumbered}
use Rattle.commit_parts.specs.Bridged.{CommitsBridged, FitsCommits, KeepsInOrder, kept_commits}
use Rattle.commit_parts.specs.Ordered.{AllInOrder}
use Rattle.commit_parts.specs.Reading.{past_of, setup_of, volatile_of}
use Rattle.commit_parts.proofs.Ordering.{order-front, order-then}
use Rattle.commit_showing.specs.Changes.{EachChangesOnce}
use Rattle.commit_showing.specs.Order.{IsAwaiting, NamesMembers}
use Rattle.commit_showing.proofs.Inside.{order-inside, order-now}
use Rattle.cluster_model.specs.Starting.{cluster_of}
use Rattle.run_promise.specs.Members.{member_count}
use Rattle.run_promise.proofs.Upholding.{over-append}
use Rattle.commit_parts.specs.Moving.{volatile_last}

sound-last : (setup : Setup) (past : Past) (volatile_states : ℕ → VolatileState) (transitions : List Transition)
    → AreAllowed setup past volatile_states transitions → IsSound (state_of setup past volatile_states)
    → IsSound (state_of setup (past_over past (book_of transitions)) (volatile_last volatile_states transitions))
sound-last setup past volatile_states [] all sound = sound
sound-last setup past volatile_states (t ∷ ts) all sound =
    subst (λ (p : Past). IsSound (state_of setup p (volatile_last t.volatile_states ts)))
    (sym (past-append past t.events (book_of ts)))
    (sound-last setup (past_over past t.events) t.volatile_states ts all.3
    (kept-after setup past volatile_states t sound all.0 all.1))

noted-last : (setup : Setup) (past : Past) (volatile_states : ℕ → VolatileState) (transitions : List Transition)
    → AreAllowed setup past volatile_states transitions → EachChangesOnce transitions
    → AreNoted (state_of setup past volatile_states).members past.grown
    → AreNoted (state_of setup (past_over past (book_of transitions))
    (volatile_last volatile_states transitions)).members
    (past_over past (book_of transitions)).grown
noted-last setup past volatile_states [] all once noted = noted
noted-last setup past volatile_states (t ∷ ts) all once noted =
    subst (λ (p : Past). AreNoted (state_of setup p (volatile_last t.volatile_states ts)).members p.grown)
    (sym (past-append past t.events (book_of ts)))
    (noted-last setup (past_over past t.events) t.volatile_states ts all.3 once.1
    (noted-behind setup past volatile_states t all.0 all.1 all.2 once.0 noted))

none-left : (front back : List Event) → front ++ back ≡ [] → front ≡ []
none-left [] back e = refl
none-left (x ∷ front) back e = absurd (no-cons x (front ++ back) e)

keeps-inside : (setup : Setup) (past : Past) (volatile_states : ℕ → VolatileState)
    (transitions : List Transition) (front back : List Event)
    → AreAllowed setup past volatile_states transitions → IsSound (state_of setup past volatile_states)
    → front ++ back ≡ book_of transitions → KeepsNow (past_over past front)
keeps-inside setup past volatile_states [] front back all sound e =
    subst (λ (l : List Event). KeepsNow (past_over past l)) (sym (none-left front back e))
    (keeps-now setup past volatile_states sound)
keeps-inside setup past volatile_states (t ∷ ts) front back all sound e =
    elim (cuts front back t.events (book_of ts) e) [
      | inl cut ↦ kept-inside setup past volatile_states t front cut.0 sound all.0 all.1 all.2 cut.1
      | inr cut ↦
          subst (λ (l : List Event). KeepsNow (past_over past l)) (sym cut.1)
          (subst KeepsNow (sym (past-append past t.events cut.0))
          (keeps-inside setup (past_over past t.events) t.volatile_states ts cut.0 back all.3
          (kept-after setup past volatile_states t sound all.0 all.1) cut.2))
    ]

-- the order holds inside each transition
order-inside-all : (setup : Setup) (past : Past) (volatile_states : ℕ → VolatileState) (transitions : List Transition)
    (front back : List Event) → AreAllowed setup past volatile_states transitions → EachChangesOnce transitions
    → IsSound (state_of setup past volatile_states) → front ++ back ≡ book_of transitions
    → NamesMembers setup.member_count strict_quorum (past_over past front).sync → IsAwaiting (past_over past front)
order-inside-all setup past volatile_states [] front back all once sound e members =
    let none = none-left front back e in
    subst (λ (l : List Event). IsAwaiting (past_over past l)) (sym none)
    (order-now setup past volatile_states sound
    (subst (λ (l : List Event). NamesMembers setup.member_count strict_quorum (past_over past l).sync) none members))
order-inside-all setup past volatile_states (t ∷ ts) front back all once sound e members =
    elim (cuts front back t.events (book_of ts) e) [
      | inl cut ↦ order-inside setup past volatile_states t front cut.0 sound all.0 all.1 once.0 cut.1 members
      | inr cut ↦
          let same : past_over past front ≡ past_over (past_over past t.events) cut.0 = ap (past_over past) cut.1
          ∙ past-append past t.events cut.0 in
          subst IsAwaiting (sym same)
          (order-inside-all setup (past_over past t.events) t.volatile_states ts cut.0 back all.3 once.1
          (kept-after setup past volatile_states t sound all.0 all.1) cut.2
          (subst (λ (p : Past). NamesMembers setup.member_count strict_quorum p.sync) same members))
    ]

-- ---- of a run
pub past-more : (head : HeadText) (book events : List Event)
    → past_of head (book ++ events) ≡ past_over (past_of head book) events
past-more head book events = past-append (past_of head []) book events

mode-front : (front rest : List Event) → KeepMode true (front ++ rest) → KeepMode true front
mode-front [] rest mode = tt
mode-front (event ∷ front) rest mode = (mode.0, mode-front front rest mode.1)

-- between two parts
pub kept-now : (head : HeadText) (book : List Event) (cluster : Cluster) → CommitsBridged head book cluster
    → KeepsInOrder head book
kept-now head book cluster good = record {
  kept = keeps-now (setup_of head) (past_of head book) (volatile_of cluster) good.sound;
  order = record {
    now = order-now (setup_of head) (past_of head book) (volatile_of cluster) good.sound good.fits.strict;
    each = good.ordered;
  };
}

pub composable : (head : HeadText) → IsComposable (kept_commits head)
composable head = record {
  front = λ front rest meets.
      record { timely = premises-front head front rest meets.timely; mode = mode-front front rest meets.mode };
  now = λ book cluster good. kept-now head book cluster good;
}

pub mode-back : (book rest : List Event) → KeepMode true (book ++ rest) → KeepMode true rest
mode-back [] rest mode = mode
mode-back (event ∷ book) rest mode = mode-back book rest mode.1

-- the state of the law behind these events
abbrev pub state_behind : HeadText → List Event → Cluster → List Event → State
state_behind head book cluster events =
    state_of (setup_of head) (past_over (past_of head book) events) (volatile_of (cluster_over cluster events))

-- what is bridged behind actions, but for what the law carries
abbrev pub FitsBehind : HeadText → List Event → Cluster → List Event → Type 0
FitsBehind head book cluster events = KeepMode true events → Bridged head (book ++ events) (cluster_over cluster events)
    → FitsCommits head (book ++ events) (cluster_over cluster events)
    × AsksAreNumbered (state_behind head book cluster events) (cluster_over cluster events).facts.flight

-- events that happen in order behind a run's book
pub order-behind : (head : HeadText) (book : List Event) (cluster : Cluster) (events : List Event)
    → CommitsBridged head book cluster → AllInOrder (past_of head book) cluster events
    → AllInOrder (past_of head []) (cluster_of head) (book ++ events)
order-behind head book cluster events good ordered =
    order-then (past_of head []) (cluster_of head) book events good.ordered
    (subst (λ (c : Cluster). AllInOrder (past_of head book) c events) good.reached ordered)

-- these events are allowed actions, one after another, which they show
-- and which happen in order; and behind them all fits
pub upheld-by : (head : HeadText) (book : List Event) (cluster : Cluster) (transitions : List Transition)
    → CommitsBridged head book cluster
    → AreAllowed (setup_of head) (past_of head book) (volatile_of cluster) transitions
    → EachChangesOnce transitions
    → volatile_last (volatile_of cluster) transitions ≡ volatile_of (cluster_over cluster (book_of transitions))
    → IsKept head book cluster (book_of transitions)
    → ((front back : List Event) → front ++ back ≡ book_of transitions →
    NamesMembers (member_count head) strict_quorum (past_over (past_of head book) front).sync)
    → AllInOrder (past_of head book) cluster (book_of transitions)
    → FitsBehind head book cluster (book_of transitions)
    → Upholds (kept_commits head) book cluster (book_of transitions)
upheld-by head book cluster transitions good allowed once same kept members ordered fits = record {
  inside = λ front rest e meets. record {
    kept = subst KeepsNow (sym (past-more head book front))
        (keeps-inside (setup_of head) (past_of head book)
        (volatile_of cluster) transitions front rest allowed good.sound e);
    order = record {
      now = subst IsAwaiting (sym (past-more head book front))
          (order-inside-all (setup_of head) (past_of head book)
          (volatile_of cluster) transitions front rest allowed once good.sound e (members front rest e));
      each = order-behind head book cluster front good
          (order-front (past_of head book) cluster front rest
          (subst (λ (l : List Event). AllInOrder (past_of head book) cluster l) (sym e) ordered));
    };
  };
  behind = λ meets.
      let lease = kept.behind meets.timely in
      let behind = fits (mode-back book (book_of transitions) meets.mode) lease in
      record {
        lease = lease;
        fits = behind.0;
        sound =
            subst (λ (p : Past).
            IsSound (state_of (setup_of head) p (volatile_of (cluster_over cluster (book_of transitions)))))
            (sym (past-more head book (book_of transitions)))
            (subst (λ (v : ℕ → VolatileState).
            IsSound (state_of (setup_of head) (past_over (past_of head book) (book_of transitions)) v))
            same
            (sound-last (setup_of head) (past_of head book) (volatile_of cluster) transitions allowed good.sound));
        asks =
            subst (λ (p : Past).
            AsksAreNumbered (state_of (setup_of head) p (volatile_of (cluster_over cluster (book_of transitions))))
            (cluster_over cluster (book_of transitions)).facts.flight)
            (sym (past-more head book (book_of transitions)))
            behind.1;
        noted =
            subst (λ (p : Past). AreNoted
            (state_of (setup_of head) p (volatile_of (cluster_over cluster (book_of transitions)))).members p.grown)
            (sym (past-more head book (book_of transitions)))
            (subst (λ (v : ℕ → VolatileState).
            AreNoted (state_of (setup_of head) (past_over (past_of head book) (book_of transitions)) v).members
            (past_over (past_of head book) (book_of transitions)).grown)
            same
            (noted-last (setup_of head) (past_of head book) (volatile_of cluster) transitions allowed once good.noted));
        reached = ap (λ (c : Cluster). cluster_over c (book_of transitions)) good.reached
            ∙ sym (over-append (cluster_of head) book (book_of transitions));
        ordered = order-behind head book cluster (book_of transitions) good ordered;
      };
}
