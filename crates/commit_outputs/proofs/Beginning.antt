-- A server begins by the order of its agent, ahead of which the law's input made it live.
use Rattle.std.proofs.Common.{ℕ, ◌≡◌, true, List, [], slice_get, Option, Some, None, refl, ◌∙◌, ap, sym, subst, inl, inr}
use Rattle.std.proofs.Math.Path.{fun_ext}
use Rattle.std.proofs.lemmas.Bool.{cases_eq}
use Rattle.std.proofs.lemmas.Option.{slice_get_within}
use Rattle.pg_model.specs.Facts.{ServerFacts, entries_of, has_data}
use Rattle.event_book.specs.declared.event.EventKind.{EventKind}
use Rattle.event_book.specs.declared.event.EventKind.TheVariants as kinds
use Rattle.event_book.specs.declared.event.ServerEvent.TheVariants as servers
use Rattle.event_book.specs.declared.member.Member.{Member}
use Rattle.event_book.specs.Members.{server_of}
use Rattle.event_book.specs.Servers.{starts_as_primary}
use Rattle.agent_model.specs.Agents.{AgentFacts}
use Rattle.cluster_model.specs.declared.beginning.Beginning.{Beginning}
use Rattle.cluster_model.specs.declared.beginning.Beginning.TheVariants as beginnings
use Rattle.cluster_model.specs.Beginnings.{begin_kinds, beginning_of, kinds_by}
use Rattle.cluster_model.specs.Cluster.{cluster_after, cluster_over}
use Rattle.cluster_model.specs.Commands.{kinds_of}
use Rattle.cluster_model.specs.Losing.{beginning_kinds, loss_if}
use Rattle.cluster_model.specs.Messages.{begin_events}
use Rattle.cluster_model.specs.Orders.{server_at}
use Rattle.cluster_model.specs.Parts.{event_of, events_of, for_some}
use Rattle.cluster_model.specs.State.{Cluster}
use Rattle.wal_model.specs.Lacking.{lacks_in}
use Rattle.lease_model.proofs.Tools.{none-some, some-is}
use Rattle.commit_actions.specs.Actions.{Note}
use Rattle.commit_showing.specs.Books.{IsShown}
use Rattle.commit_actions.specs.Past.{Past, Setup, VolatileState, past_over}
use Rattle.commit_showing.proofs.Showing.{idle-shown}
use Rattle.commit_servers.specs.Matching.{IsLiveAhead, IsSameServers, live_in, live_now}
use Rattle.commit_servers.specs.Sound.{AreServersSound}
use Rattle.commit_servers.proofs.Beginning.{begins-ahead}
use Rattle.commit_servers.proofs.Completions.{loss-may}
use Rattle.commit_servers.proofs.Following.{follow-if}
use Rattle.commit_servers.proofs.Places.{changed-there}
use Rattle.cluster_model.proofs.Lists.{all-kinds}
use Rattle.commit_parts.specs.Reading.{agent_now, volatile_of}
use Rattle.commit_parts.proofs.Moving.{moves-from-then, moves-one}
use Rattle.commit_parts.specs.Moving.{MovesFrom}
use Rattle.commit_parts.proofs.Servers.{moves-follow}
use Rattle.commit_parts.proofs.Still.{IsStill, volatile-same}
use Rattle.commit_parts.proofs.Ticks.{loss-still}

-- these servers are live where the law has it, which is ahead of the
-- books at one that is live in the end, and agents are the same
ahead-stands : (states : ℕ → VolatileState) (before later : Cluster) (k : ℕ) → IsLiveAhead states before.facts.servers k
    → ((n : ℕ) → (states n).agent ≡ (volatile_of before n).agent) → later.agents ≡ before.agents
    → live_in later.facts.servers k ≡ true
    → ((n : ℕ) → (n ≡ k → ⊥) → live_in later.facts.servers n ≡ live_in before.facts.servers n)
    → states ≡ volatile_of later
ahead-stands states before later k ahead agents same here others =
    fun_ext (λ n. volatile-same _ _ _ _ (live n)
    (agents n ∙ ap (λ (known : List (Option AgentFacts)). agent_now (slice_get known n)) (sym same)))
  where
    live : (n : ℕ) → (states n).live ≡ live_in later.facts.servers n
    live n = elim (cases_eq n k) [
      | inl e ↦ ap (λ (m : ℕ). (states m).live) e ∙ ahead.here ∙ sym here
          ∙ sym (ap (λ (m : ℕ). live_in later.facts.servers m) e)
      | inr other ↦ ahead.others n other ∙ sym (others n other)
    ]

module _ (setup : Setup) (past : Past) (states : ℕ → VolatileState) (cluster : Cluster) (member : Member)
    (same : IsSameServers past cluster.facts) (sound : AreServersSound cluster.facts)
    (ahead : IsLiveAhead states cluster.facts.servers member.id.number)
    (agents : (n : ℕ) → (states n).agent ≡ (volatile_of cluster n).agent) where
  -- it isn't to begin, and was live before
  none-begins : live_in cluster.facts.servers member.id.number ≡ true → MovesFrom setup past states cluster []
  none-begins here =
      let stands : states ≡ volatile_of cluster =
      ahead-stands states cluster cluster member.id.number ahead agents refl here (λ n other. refl) in
      record {
        transitions = [];
        whole = refl;
        allowed = tt;
        once = tt;
        last = stands;
        fits = record { same = same; live = record { live = λ m. refl }; sound = sound };
      }

  -- it begins with its start, which takes time
  pub starts-begin : let kind : EventKind = kinds.Server (servers.StartsAsPrimary (server_of member)) in
      live_in (cluster_after cluster kind).facts.servers member.id.number ≡ true
      → MovesFrom setup past states cluster (event_of cluster kind)
  starts-begin here =
      let kind : EventKind = kinds.Server (servers.StartsAsPrimary (server_of member)) in
      let later : Cluster = cluster_after cluster kind in
      let stands : states ≡ volatile_of later =
      ahead-stands states cluster later member.id.number ahead agents refl here
      (λ n other. ap live_now
      (changed-there cluster.facts.servers member.id.number (starts_as_primary cluster.facts.clock) n other)) in
      moves-one setup past states cluster kind Note same sound tt tt tt
      (subst (λ (v : ℕ → VolatileState).
      IsShown setup past states (record { action = Note; events = event_of cluster kind; volatile_states = v }))
      stands
      (idle-shown setup past states (event_of cluster kind) (tt, tt)))

  -- it begins at once
  pub begins-at-once : (timeline : ℕ) (s : ServerFacts)
      → slice_get cluster.facts.servers member.id.number ≡ Some s → has_data s.state ≡ true
      → MovesFrom setup past states cluster
      (events_of cluster (beginning_kinds member timeline cluster.facts.acknowledged s.log))
  begins-at-once timeline s is with_data =
      let kind : EventKind = kinds.Server (servers.Began (server_of member) timeline) in
      let later : Cluster = cluster_after cluster kind in
      let lacks : Option EventKind = loss_if member (lacks_in (entries_of s.log) cluster.facts.acknowledged) in
      let leads =
      (begins-ahead setup past cluster states member timeline s cluster.facts.acknowledged same sound ahead is
      with_data).0 in
      let stands : states ≡ volatile_of later =
      fun_ext (λ n. volatile-same _ _ _ _ (leads.fits.live.live n) (agents n)) in
      moves-from-then setup past states cluster (event_of cluster kind) (events_of later (kinds_of lacks))
      (moves-one setup past states cluster kind leads.action.action same sound
      (slice_get_within cluster.facts.servers member.id.number s is)
      (record { server = s; is = is; with_data = with_data })
      leads.action.allowed
      (subst (λ (v : ℕ → VolatileState). IsShown setup past states
      (record { action = leads.action.action; events = event_of cluster kind; volatile_states = v }))
      stands
      (leads.action.shown (record { 0 = cluster.facts.clock }))))
      (λ fits. moves-follow setup (past_over past (event_of cluster kind)) later (events_of later (kinds_of lacks)) fits
      (all-kinds IsStill later (kinds_of lacks)
      (loss-still member (lacks_in (entries_of s.log) cluster.facts.acknowledged)))
      (follow-if later lacks (loss-may later.facts member (lacks_in (entries_of s.log) cluster.facts.acknowledged))))

  begins-by : (s : ServerFacts) (how : Option Beginning)
      → slice_get cluster.facts.servers member.id.number ≡ Some s → has_data s.state ≡ true
      → live_in (cluster_over cluster
      (events_of cluster (kinds_by member cluster.facts.acknowledged s.log how))).facts.servers
      member.id.number
      ≡ true
      → MovesFrom setup past states cluster (events_of cluster (kinds_by member cluster.facts.acknowledged s.log how))
  begins-by s None is with_data here = none-begins here
  begins-by s (Some (beginnings.AtOnce timeline)) is with_data here = begins-at-once timeline s is with_data
  begins-by s (Some beginnings.WithItsStart) is with_data here = starts-begin here

  begins-found : (s : ServerFacts) (found : Option ServerFacts)
      → slice_get cluster.facts.servers member.id.number ≡ Some s → found ≡ Some s → has_data s.state ≡ true
      → live_in (cluster_over cluster
      (for_some found (λ s. events_of cluster (begin_kinds member cluster.facts.acknowledged s)))).facts.servers
      member.id.number
      ≡ true
      → MovesFrom setup past states cluster
      (for_some found (λ s. events_of cluster (begin_kinds member cluster.facts.acknowledged s)))
  begins-found s None is at with_data here = absurd (none-some s at)
  begins-found s (Some one) is at with_data here = begins-by one (beginning_of one) (is ∙ sym at)
      (subst (λ (t : ServerFacts). has_data t.state ≡ true) (sym (some-is one s at)) with_data) here

  -- a server with data begins by its agent's order: the law had it live ahead, and so it is behind
  pub begin-moves : (s : ServerFacts) → slice_get cluster.facts.servers member.id.number ≡ Some s
      → has_data s.state ≡ true
      → live_in (cluster_over cluster (begin_events cluster member)).facts.servers member.id.number ≡ true
      → MovesFrom setup past states cluster (begin_events cluster member)
  begin-moves s is with_data here = begins-found s (server_at cluster member) is is with_data here
