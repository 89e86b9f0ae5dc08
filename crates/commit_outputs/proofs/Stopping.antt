-- The order to shut a server down is an action of its own.
use Rattle.std.proofs.Common.{ℕ, ◌≡◌, ◌⊎◌, ◌==◌, ◌&&◌, not, Bool, true, false, cond, slice_get, Some, None, refl, ◌∙◌, ap, sym, subst, inl, inr}
use Rattle.std.proofs.Math.Path.{fun_ext}
use Rattle.pat_base.specs.declared.server_state.State.{State}
use Rattle.pat_base.specs.declared.server_state.State.TheVariants as states
use Rattle.pat_base.specs.ServerState.{live, writes}
use Rattle.pg_model.specs.Facts.{ServerFacts, is_up}
use Rattle.pg_model.specs.Running.{is_primary, moment_after, stopped}
use Rattle.event_book.specs.declared.event.EventKind.{EventKind}
use Rattle.event_book.specs.declared.event.EventKind.TheVariants as kinds
use Rattle.event_book.specs.declared.event.ServerEvent.TheVariants as servers
use Rattle.event_book.specs.declared.member.Member.{Member}
use Rattle.event_book.specs.declared.member.ServerOf.{ServerOf}
use Rattle.event_book.specs.Members.{server_of}
use Rattle.event_book.specs.Servers.{stops}
use Rattle.event_book.proofs.Changed.{same-if}
use Rattle.cluster_model.specs.Cluster.{cluster_after}
use Rattle.cluster_model.specs.Commands.{kinds_of}
use Rattle.cluster_model.specs.Orders.{stop_of}
use Rattle.cluster_model.specs.Parts.{event_of, events_of}
use Rattle.cluster_model.specs.State.{Cluster}
use Rattle.lease_model.proofs.Tools.{both, some-is}
use Rattle.commit_actions.specs.Actions.{End, Note}
use Rattle.commit_showing.specs.Books.{IsShown}
use Rattle.commit_actions.specs.Past.{Past, Setup, VolatileState, machine_of, state_of}
use Rattle.commit_actions.specs.States.{Machine}
use Rattle.commit_showing.proofs.ShownServers.{members-shown}
use Rattle.commit_showing.proofs.Showing.{idle-shown}
use Rattle.commit_servers.specs.Acting.{Fits}
use Rattle.commit_servers.specs.Matching.{live_now}
use Rattle.commit_servers.proofs.Acting.{writes-at}
use Rattle.commit_servers.proofs.Places.{changed-here, changed-there, seen-kept}
use Rattle.commit_parts.specs.Reading.{volatile_of}
use Rattle.commit_parts.proofs.Moving.{moves-none, moves-one}
use Rattle.commit_parts.specs.Moving.{Moves}
use Rattle.commit_parts.proofs.Still.{moves-still, volatile-same}

-- ---- a stop that ends no writing at once leaves who is live, or ends
-- a start as a primary, in which nothing is written yet
abbrev StopsAt : ℕ → ServerFacts → Type 0
StopsAt now s =
    (live (stops now s).state ≡ live s.state) ⊎ ((live (stops now s).state ≡ false) × (writes s.state ≡ false))

-- the stop of a server that accepts no writes
down-then : (now : ℕ) (s : ServerFacts) → live (cond (s.stop_delay.0 == 0) (stopped s) (record s {
  state = states.Stopping false (moment_after (record { 0 = now }) s.stop_delay);
})).state ≡ false
down-then now s = same-if (λ (t : ServerFacts). live t.state) (s.stop_delay.0 == 0) (stopped s)
    (record s { state = states.Stopping false (moment_after (record { 0 = now }) s.stop_delay) }) false refl refl

-- a primary accepts writes until its stop is complete, and one that stops at once ends by another event
primary-stays : (atonce : Bool) (s ended stopping : ServerFacts) → live s.state ≡ true
    → live stopping.state ≡ true → live (cond (not atonce) (cond atonce ended stopping) s).state ≡ true
primary-stays true s ended stopping here later = here
primary-stays false s ended stopping here later = later

stops-at : (now : ℕ) (state : State) (s : ServerFacts) → StopsAt now (record s { state = state })
stops-at now states.Replica s = inl (down-then now (record s { state = states.Replica }))
stops-at now (states.Starting as_primary at) s =
    inr (down-then now (record s { state = states.Starting as_primary at }), refl)
stops-at now states.Primary s =
    inl (primary-stays (s.stop_delay.0 == 0) (record s { state = states.Primary }) (stopped s) (record s {
      state = states.Stopping true (moment_after (record { 0 = now }) s.stop_delay);
    }) refl refl)
stops-at now _ s = inl refl

primary-live : (state : State) (test : Bool) → (is_primary state && test) ≡ true → live state ≡ true
primary-live states.Primary test e = refl
primary-live _ test e = absurd (both e)

module _ (setup : Setup) (past : Past) (cluster : Cluster) (fits : Fits past cluster.facts (volatile_of cluster)) where
  module _ (server : ServerOf) (s : ServerFacts) (is : slice_get cluster.facts.servers server.id.number ≡ Some s) where
    abbrev Kind : EventKind
    Kind = kinds.Server (servers.Stops server)

    stays-moves : live (stops cluster.facts.clock s).state ≡ live s.state
        → Moves setup past cluster (event_of cluster Kind)
    stays-moves stays =
        let later : Cluster = cluster_after cluster Kind in
        let same : volatile_of cluster ≡ volatile_of later = fun_ext (λ m. volatile-same _ _ _ _
        (sym (seen-kept live_now cluster.facts.servers server.id.number (stops cluster.facts.clock)
        (λ item at. subst (λ (t : ServerFacts). live (stops cluster.facts.clock t).state ≡ live t.state)
        (some-is s item (sym is ∙ at)) stays) m))
        refl) in
        moves-one setup past (volatile_of cluster) cluster Kind Note fits.same fits.sound tt tt tt
        (subst (λ (v : ℕ → VolatileState). IsShown setup past (volatile_of cluster)
        (record { action = Note; events = event_of cluster Kind; volatile_states = v }))
        same
        (idle-shown setup past (volatile_of cluster) (event_of cluster Kind) (tt, tt)))

    down-moves : live (stops cluster.facts.clock s).state ≡ false → writes s.state ≡ false
        → Moves setup past cluster (event_of cluster Kind)
    down-moves down quiet =
        let later : Cluster = cluster_after cluster Kind in
        let k : ℕ = server.id.number in
        let before : Machine = machine_of past (volatile_of cluster k) k in
        moves-one setup past (volatile_of cluster) cluster Kind (End k) fits.same fits.sound tt tt tt
        (ap (λ (members : ℕ → Machine). record (state_of setup past (volatile_of cluster)) { members = members })
        (members-shown past past (volatile_of cluster) (volatile_of later) k
        (record before { live = false; writes = false })
        (ap (λ (b : Bool). record before { live = b })
        (ap live_now (changed-here cluster.facts.servers k (stops cluster.facts.clock) s is) ∙ down)
        ∙ ap (λ (w : Bool). record before { live = false; writes = w })
        (writes-at past cluster.facts fits.same k s is ∙ quiet))
        (λ n other. ap (λ (b : Bool). record (machine_of past (volatile_of cluster n) n) { live = b })
        (ap live_now (changed-there cluster.facts.servers k (stops cluster.facts.clock) n other)))))

    stops-moves : Moves setup past cluster (event_of cluster Kind)
    stops-moves = elim (stops-at cluster.facts.clock s.state s) [
      | inl stays ↦ stays-moves stays
      | inr ends ↦ down-moves ends.0 ends.1
    ]

  shut-moves : (member : Member) (s : ServerFacts) (up ends : Bool)
      → slice_get cluster.facts.servers member.id.number ≡ Some s → (ends ≡ true → live s.state ≡ true)
      → Moves setup past cluster
      (events_of cluster
      (kinds_of (cond up
      (Some (cond ends (kinds.Server (servers.Ended (server_of member)))
      (kinds.Server (servers.Stops (server_of member)))))
      None)))
  shut-moves member s false ends is is_live = moves-none setup past cluster fits
  shut-moves member s true true is is_live =
      let kind : EventKind = kinds.Server (servers.Ended (server_of member)) in
      moves-still setup past cluster (record { tick = record { 0 = cluster.facts.clock }; kind = kind }) fits tt
      (record { server = s; is = is; is_live = is_live refl })
  shut-moves member s true false is is_live = stops-moves (server_of member) s is

  -- a server that is there shuts down, if it runs or starts
  pub stop-moves : (member : Member) (s : ServerFacts) → slice_get cluster.facts.servers member.id.number ≡ Some s
      → Moves setup past cluster (events_of cluster (kinds_of (stop_of member s)))
  stop-moves member s is = shut-moves member s (is_up s.state) (is_primary s.state && s.stop_delay.0 == 0) is
      (primary-live s.state (s.stop_delay.0 == 0))
