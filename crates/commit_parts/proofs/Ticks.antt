-- A tick upholds commits: the clock, resets, expiries, and the starts and stops of primaries that are complete.
use Rattle.std.proofs.Common.{ℕ, ◌≡◌, ◌⊎◌, ◌<◌, ◌≤◌, ◌+◌, ◌++◌, nat_le, Bool, true, false, cond, List, [], ◌∷◌, length, slice_get, Option, Some, None, option_and_then, refl, ◌∙◌, ap, sym, subst, inl, inr}
use Rattle.std.proofs.Math.Path.{fun_ext}
use Rattle.pat_base.specs.declared.ticks.Ticks.{Ticks}
use Rattle.store_keys.specs.declared.key.Key.{Key}
use Rattle.store_keys.specs.declared.key.Key.TheVariants as keys
use Rattle.pg_model.specs.Facts.{ServerFacts}
use Rattle.event_book.specs.declared.event.Event.{Event}
use Rattle.event_book.specs.declared.event.EventKind.{EventKind}
use Rattle.event_book.specs.declared.event.EventKind.TheVariants as kinds
use Rattle.event_book.specs.declared.event.WatchdogEvent.TheVariants as watchdogs
use Rattle.event_book.specs.declared.member.Member.{Member}
use Rattle.event_book.specs.Facts.{Facts}
use Rattle.event_book.specs.Functions.{put_at}
use Rattle.script_model.specs.Script.{HeadText, names_of}
use Rattle.cluster_model.specs.Cluster.{cluster_after, cluster_over}
use Rattle.cluster_model.specs.Commands.{kinds_of}
use Rattle.cluster_model.specs.Parts.{each, event_of, events_of, for_some}
use Rattle.cluster_model.specs.State.{Cluster}
use Rattle.cluster_model.specs.Ticking.{completion_events, expiries_of, expiry_of, leader_expiry, next_expiries, reset_events, reset_of, tick_events}
use Rattle.leader_key.specs.Watchdog.{is_due_at}
use Rattle.lease_model.specs.Leases.{LeaderKey}
use Rattle.event_book.specs.Kinds.{AllAre}
use Rattle.lease_model.specs.States.{kept_if, leader_kept}
use Rattle.commit_actions.specs.Actions.{Expire, Kill, Note}
use Rattle.commit_showing.specs.Books.{AreAllowed, Transition}
use Rattle.commit_actions.specs.Past.{Past, Setup, VolatileState, past_after}
use Rattle.commit_showing.specs.Showing.{event_at}
use Rattle.commit_showing.proofs.ShownMessages.{expired-shown, tick-shown}
use Rattle.commit_servers.specs.Acting.{Fits, Leads}
use Rattle.commit_servers.specs.Happening.{MayFollow, MayHappen}
use Rattle.commit_servers.specs.Matching.{volatile_after}
use Rattle.commit_servers.proofs.Acting.{leads-to}
use Rattle.commit_servers.proofs.Beginning.{fits-agents, fits-aside, killed-shown}
use Rattle.commit_servers.proofs.Kept.{change-once}
use Rattle.run_promise.specs.Promise.{UpholdsAlways}
use Rattle.cluster_model.proofs.Places.{length-changed}
use Rattle.run_promise.proofs.Upholding.{Each}
use Rattle.wal_model.specs.declared.entry.Entry.{Entry}
use Rattle.lease_store.specs.Answers.{expired_holder, expired_keys}
use Rattle.event_book.specs.declared.event.StoreEvent.TheVariants as stores
use Rattle.cluster_model.specs.declared.beginning.Completion.{Completion}
use Rattle.cluster_model.specs.declared.beginning.Completion.TheVariants as completions
use Rattle.cluster_model.specs.Beginnings.{completed_by, completion_kinds, completion_of}
use Rattle.cluster_model.specs.Losing.{loss_if}
use Rattle.cluster_model.specs.Orders.{declared_member}
use Rattle.commit_servers.proofs.Completions.{complete-follow}
use Rattle.cluster_model.proofs.Lists.{AllKinds, all-kinds, all-more, kinds-both}
use Rattle.run_promise.proofs.Members.{declared-within, each-declared}
use Rattle.lease_parts.proofs.Ticks.{keeps-tick}
use Rattle.commit_parts.specs.Bridged.{kept_commits}
use Rattle.commit_parts.specs.Reading.{setup_of, volatile_of}
use Rattle.commit_parts.proofs.Agents.{gone-leave, volatile-gone}
use Rattle.commit_parts.proofs.Going.{GoesFrom, goes-follow, goes-none, goes-then, upheld-goes}
use Rattle.commit_parts.specs.Moving.{Moves}
use Rattle.commit_showing.specs.Changes.{ChangeOrderOnce}
use Rattle.commit_parts.proofs.Still.{IsStill, agent-stays, volatile-same}
use Rattle.pat_base.specs.declared.member_id.TheConstants.{MOST_MEMBERS}

-- ---- the clock
kept-or-gone : (test : Bool) (key : LeaderKey) → (kept_if test key ≡ Some key) ⊎ (kept_if test key ≡ None)
kept-or-gone true key = inr refl
kept-or-gone false key = inl refl

stays-or-expires : (now : ℕ) (leader : Option LeaderKey)
    → (leader_kept now leader ≡ leader) ⊎ (leader_kept now leader ≡ None)
stays-or-expires now None = inl refl
stays-or-expires now (Some key) = kept-or-gone (nat_le key.expiry now) key

-- ---- what expires is told, and is no grant
abbrev pub IsExpiry : EventKind → Type 0
IsExpiry (kinds.Store (stores.LeaderExpired holder)) = Unit {0}
IsExpiry (kinds.Store (stores.Expired key)) = Unit {0}
IsExpiry _ = ⊥

expiry-still : (kind : EventKind) → IsExpiry kind → IsStill kind
expiry-still (kinds.Store (stores.LeaderExpired holder)) is = tt
expiry-still (kinds.Store (stores.Expired key)) is = tt
expiry-still _ is = absurd is

expiry-may : (facts : Facts) (kind : EventKind) → IsExpiry kind → MayHappen facts kind
expiry-may facts (kinds.Store (stores.LeaderExpired holder)) is = tt
expiry-may facts (kinds.Store (stores.Expired key)) is = tt
expiry-may facts _ is = absurd is

expiries-follow : (cluster : Cluster) (list : List EventKind) → AllKinds IsExpiry list
    → MayFollow cluster.facts (events_of cluster list)
expiries-follow cluster [] all = tt
expiries-follow cluster (kind ∷ more) all =
    (expiry-may cluster.facts kind all.0, expiries-follow (cluster_after cluster kind) more all.1)

leader-expires : (holder : Option Member) → AllKinds IsExpiry (leader_expiry holder)
leader-expires None = tt
leader-expires (Some holder) = (tt, tt)

expires : (holder : Option Member) (key : Key) → AllKinds IsExpiry (expiry_of holder key)
expires holder keys.Leader = leader-expires holder
expires holder _ = (tt, tt)

all-expire : (holder : Option Member) (known : List Key) → AllKinds IsExpiry (expiries_of holder known)
all-expire holder [] = tt
all-expire holder (key ∷ more) =
    kinds-both IsExpiry (expiry_of holder key) (expiries_of holder more) (expires holder key) (all-expire holder more)

pub next-expiries : (cluster : Cluster) → AllKinds IsExpiry (next_expiries cluster)
next-expiries cluster =
    all-expire (declared_member cluster.facts.members (expired_holder cluster.facts.keys (cluster.facts.clock + 1)))
    (expired_keys cluster.facts.keys (cluster.facts.clock + 1))

-- ---- no agent ends where a start or a stop is complete
pub loss-still : (member : Member) (test : Bool) → AllKinds IsStill (kinds_of (loss_if member test))
loss-still member true = (tt, tt)
loss-still member false = tt

completion-still : (member : Member) (acknowledged : List ℕ) (log : Option (List Entry)) (found : Option Completion)
    → AllKinds IsStill (completed_by member acknowledged log found)
completion-still member acknowledged log None = tt
completion-still member acknowledged log (Some (completions.Begins timeline)) = (tt, loss-still member _)
completion-still member acknowledged log (Some completions.Ends) = (tt, tt)

completed-still : (cluster : Cluster) (member : Member) (found : Option ServerFacts)
    → AllAre IsStill
    (for_some found (λ s. events_of cluster (completion_kinds cluster.facts.clock member cluster.facts.acknowledged s)))
completed-still cluster member None = tt
completed-still cluster member (Some s) =
    all-kinds IsStill cluster (completion_kinds cluster.facts.clock member cluster.facts.acknowledged s)
    (completion-still member cluster.facts.acknowledged s.log (completion_of cluster.facts.clock s))

module _ (setup : Setup) where
  tick-allowed : (past : Past) (states : ℕ → VolatileState) (tick : Ticks)
      → (leader_kept (past.lease.clock + 1) past.lease.leader ≡ past.lease.leader)
      ⊎ (leader_kept (past.lease.clock + 1) past.lease.leader ≡ None)
      → (transition : Transition) × (transition.events ≡ event_at tick kinds.Tick)
      × (transition.volatile_states ≡ states) × AreAllowed setup past states (transition ∷ [])
  tick-allowed past states tick (inl stays) = (
    record { action = Note; events = event_at tick kinds.Tick; volatile_states = states },
    refl,
    refl,
    (tt, tick-shown setup past states tick stays, change-once tick kinds.Tick, tt),
  )
  tick-allowed past states tick (inr gone) = (
    record { action = Expire; events = event_at tick kinds.Tick; volatile_states = states },
    refl,
    refl,
    (tt, expired-shown setup past states tick gone, change-once tick kinds.Tick, tt),
  )

  -- the clock changes which servers start and stop, but not which are live
  pub goes-tick : (cluster : Cluster) → GoesFrom setup cluster (event_of cluster kinds.Tick)
  goes-tick cluster named past fits =
      let later : Cluster = cluster_after cluster kinds.Tick in
      let tick : Ticks = record { 0 = later.facts.clock } in
      let told =
      tick-allowed past (volatile_of cluster) tick (stays-or-expires (past.lease.clock + 1) past.lease.leader) in
      let behind : Fits (past_after past kinds.Tick) later.facts (volatile_of cluster) =
      fits-aside past cluster.facts (volatile_of cluster) kinds.Tick tt fits in
      let same : volatile_of cluster ≡ volatile_of later =
      fun_ext (λ m. volatile-same _ _ _ _ (behind.live.live m) refl) in
      record {
        moves = record {
          transitions = told.0 ∷ [];
          whole = ap (λ (l : List Event). l ++ []) told.1;
          allowed = told.3;
          once = (subst ChangeOrderOnce (sym told.1) (inr tt), tt);
          last = told.2 ∙ same;
          fits = subst (λ (v : ℕ → VolatileState). Fits (past_after past kinds.Tick) later.facts v) same behind;
        };
        left = record {
          leave = record { agents = λ m agent is. is; asked = λ i question is. (is, refl) };
          causal = ((tt, (tt, tt)), (tt, tt));
          asks = λ s. (tt, tt);
          ordered = (tt, tt);
        };
      }

  -- ---- a machine is reset: its server ends, and its agent is gone
  module _ (cluster : Cluster) (member : Member) (small : member.id.number < length cluster.agents) where
    abbrev Kind : EventKind
    Kind = kinds.Watchdog (watchdogs.Reset member)

    abbrev Later : Cluster
    Later = cluster_after cluster Kind

    moves-reset : (past : Past) → Fits past cluster.facts (volatile_of cluster)
        → Moves setup past cluster (event_of cluster Kind)
    moves-reset past fits =
        let tick : Ticks = record { 0 = Later.facts.clock } in
        let k : ℕ = member.id.number in
        let leads : Leads setup past cluster.facts (volatile_of cluster) Kind
        (volatile_after (volatile_of cluster) Kind) =
        leads-to setup past cluster.facts (volatile_of cluster) Kind fits tt in
        let down : (ℕ → VolatileState) = volatile_after (volatile_of cluster) Kind in
        let gone : (ℕ → VolatileState) = put_at down k (record (down k) { agent = None }) in
        let same : gone ≡ volatile_of Later = volatile-gone cluster member Later refl small down leads.fits.live.live
        (agent-stays (volatile_of cluster) Kind) in
        record {
          transitions = record { action = leads.action.action; events = event_of cluster Kind; volatile_states = down }
              ∷ record { action = Kill k; events = []; volatile_states = gone } ∷ [];
          whole = refl;
          allowed = (
            leads.action.allowed,
            leads.action.shown tick,
            change-once tick Kind,
            (tt, killed-shown setup (past_after past Kind) down k, tt, tt),
          );
          once = (inr tt, (tt, tt));
          last = same;
          fits = subst (λ (v : ℕ → VolatileState). Fits (past_after past Kind) Later.facts v) same
              (fits-agents (past_after past Kind) Later.facts down k None leads.fits);
        }

    pub goes-reset : GoesFrom setup cluster (event_of cluster Kind)
    goes-reset named past fits = record {
      moves = moves-reset past fits;
      left = record {
        leave = record { agents = (gone-leave cluster member named past).agents; asked = λ i question is. (is, refl) };
        causal = ((tt, (tt, tt)), (tt, tt));
        asks = λ s. (tt, tt);
        ordered = (tt, tt);
      };
    }

  reset-by : (cluster : Cluster) (member : Member) (due : Bool) → member.id.number < length cluster.agents
      → GoesFrom setup cluster
      (events_of cluster (kinds_of (cond due (Some (kinds.Watchdog (watchdogs.Reset member))) None)))
  reset-by cluster member true small =
      goes-then setup cluster (event_of cluster (kinds.Watchdog (watchdogs.Reset member))) []
      (goes-reset cluster member small) (goes-none setup _)
  reset-by cluster member false small = goes-none setup cluster

  reset-found : (cluster : Cluster) (member : Member) (now : ℕ) (found : Option (Option Ticks))
      → member.id.number < length cluster.agents
      → GoesFrom setup cluster (events_of cluster (kinds_of (option_and_then (reset_of now member) found)))
  reset-found cluster member now None small = goes-none setup cluster
  reset-found cluster member now (Some deadline) small = reset-by cluster member (is_due_at now deadline) small

  -- as many agents stand behind a reset
  count-by : (cluster : Cluster) (member : Member) (due : Bool)
      → length (cluster_over cluster
      (events_of cluster (kinds_of (cond due (Some (kinds.Watchdog (watchdogs.Reset member))) None)))).agents
      ≡ length cluster.agents
  count-by cluster member true = length-changed cluster.agents member.id.number _
  count-by cluster member false = refl

  count-reset : (cluster : Cluster) (member : Member) (now : ℕ) (found : Option (Option Ticks))
      → length (cluster_over cluster
      (events_of cluster (kinds_of (option_and_then (reset_of now member) found)))).agents
      ≡ length cluster.agents
  count-reset cluster member now None = refl
  count-reset cluster member now (Some deadline) = count-by cluster member (is_due_at now deadline)

  goes-resets : (members : List Member) (cluster : Cluster)
      → Each (λ (m : Member). m.id.number < length cluster.agents) members
      → GoesFrom setup cluster (each reset_events cluster members)
  goes-resets [] cluster small = goes-none setup cluster
  goes-resets (m ∷ members) cluster small =
      let deadline = slice_get cluster.facts.deadlines m.id.number in
      goes-then setup cluster (reset_events cluster m)
      (each reset_events (cluster_over cluster (reset_events cluster m)) members)
      (reset-found cluster m cluster.facts.clock deadline small.0)
      (goes-resets members (cluster_over cluster (reset_events cluster m))
      (subst (λ (n : ℕ). Each (λ (x : Member). x.id.number < n) members)
      (sym (count-reset cluster m cluster.facts.clock deadline)) small.1))

  -- ---- what expires is told
  goes-kinds : (cluster : Cluster) (list : List EventKind) → AllKinds IsExpiry list
      → GoesFrom setup cluster (events_of cluster list)
  goes-kinds cluster list all = goes-follow setup cluster (events_of cluster list)
      (all-more IsExpiry IsStill (events_of cluster list) expiry-still (all-kinds IsExpiry cluster list all))
      (expiries-follow cluster list all)

  -- ---- starts and stops are complete
  goes-completions : (members : List Member) (cluster : Cluster)
      → GoesFrom setup cluster (each completion_events cluster members)
  goes-completions [] cluster = goes-none setup cluster
  goes-completions (m ∷ members) cluster =
      goes-then setup cluster (completion_events cluster m)
      (each completion_events (cluster_over cluster (completion_events cluster m)) members)
      (goes-follow setup cluster (completion_events cluster m)
      (completed-still cluster m (slice_get cluster.facts.servers m.id.number)) (complete-follow cluster m))
      (goes-completions members (cluster_over cluster (completion_events cluster m)))

-- ---- the whole tick
pub upholds-tick : (head : HeadText) → length (names_of head) ≤ MOST_MEMBERS
    → UpholdsAlways (kept_commits head) tick_events
upholds-tick head few book cluster good =
    let setup : Setup = setup_of head in
    let ticked : Cluster = cluster_after cluster kinds.Tick in
    let members : List Member = ticked.facts.members in
    let reset : Cluster = cluster_over ticked (each reset_events ticked members) in
    let expiries : List Event = events_of reset (next_expiries cluster) in
    let expired : Cluster = cluster_over reset expiries in
    let within = each-declared head few (λ (x : Member). x.id.number < length cluster.agents)
    (λ x is.
    subst (λ (n : ℕ). x.id.number < n) (sym good.lease.matched.agents_sized) (declared-within head few x is)) in
    let small = subst (λ (xs : List Member). Each (λ (x : Member). x.id.number < length cluster.agents) xs)
    (sym good.lease.matched.members) within in
    upheld-goes head book cluster (tick_events cluster) good
    (goes-then setup cluster (event_of cluster kinds.Tick)
    (each reset_events ticked members ++ (expiries ++ each completion_events expired expired.facts.members))
    (goes-tick setup cluster)
    (goes-then setup ticked (each reset_events ticked members)
    (expiries ++ each completion_events expired expired.facts.members) (goes-resets setup members ticked small)
    (goes-then setup reset expiries (each completion_events expired expired.facts.members)
    (goes-kinds setup reset (next_expiries cluster) (next-expiries cluster))
    (goes-completions setup expired.facts.members expired))))
    (keeps-tick head few book cluster good.lease)
