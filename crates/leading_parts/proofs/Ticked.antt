-- A tick leaves a primary whose watchdog doesn't fire.
use Rattle.std.proofs.Common.{ℕ, ◌≡◌, ◌≢◌, ◌+◌, ◌<◌, ◌==◌, ◌++◌, nat_le, Bool, true, false, cond, List, [], ◌∷◌, Option, Some, None, option_map, option_and_then, slice_get, refl, sym, ap, subst, ◌∙◌, arith}
use Rattle.std.proofs.lemmas.Bool.Decides.{nat_tests}
use Rattle.std.proofs.lemmas.Option.{slice_get-map}
use Rattle.pat_base.specs.declared.server_state.State.{State}
use Rattle.pat_base.specs.declared.server_state.State.TheVariants as states
use Rattle.pat_base.specs.declared.ticks.Ticks.{Ticks}
use Rattle.pat_base.specs.ServerState.{live}
use Rattle.store_keys.specs.declared.key.Key.{Key}
use Rattle.store_keys.specs.declared.key.Key.TheVariants as keys
use Rattle.wal_model.specs.declared.entry.Entry.{Entry}
use Rattle.wal_model.specs.Lacking.{lacks_in}
use Rattle.pg_model.specs.Facts.{ServerFacts, entries_of}
use Rattle.pg_model.specs.Running.{ticked, ticked_unless_live}
use Rattle.leader_key.specs.Watchdog.{is_due_at}
use Rattle.event_book.specs.declared.event.Event.{Event}
use Rattle.event_book.specs.declared.event.EventKind.{EventKind}
use Rattle.event_book.specs.declared.event.EventKind.TheVariants as kinds
use Rattle.event_book.specs.declared.event.WatchdogEvent.TheVariants as watchdogs
use Rattle.event_book.specs.declared.member.Member.{Member}
use Rattle.cluster_model.specs.declared.beginning.Completion.{Completion}
use Rattle.cluster_model.specs.declared.beginning.Completion.TheVariants as completions
use Rattle.cluster_model.specs.Beginnings.{completed_by, completion_in, completion_kinds, completion_of}
use Rattle.cluster_model.specs.Cluster.{cluster_after, cluster_over}
use Rattle.cluster_model.specs.Commands.{kinds_of}
use Rattle.cluster_model.specs.Losing.{loss_if}
use Rattle.cluster_model.specs.Orders.{declared_member}
use Rattle.lease_store.specs.Answers.{expired_holder, expired_keys}
use Rattle.cluster_model.specs.Parts.{each, events_of, for_some}
use Rattle.cluster_model.specs.State.{Cluster}
use Rattle.cluster_model.specs.Ticking.{completion_events, expiries_of, expiry_of, leader_expiry, next_expiries, reset_events, reset_of, tick_events}
use Rattle.cluster_model.proofs.Lists.{AllKinds, all-kinds, kinds-both}
use Rattle.lease_model.proofs.Tools.{eq-from, ne-from, some-is}
use Rattle.leading_parts.specs.Elsewhere.{AreElsewhere, IsElsewhere, StandsSame}
use Rattle.leading_parts.specs.Ticked.{FiresPast, IsPrimary}
use Rattle.leading_parts.proofs.Frames.{same-over, same-then}
use Rattle.leading_parts.proofs.Others.{Apart, apart-are}

module _ (n : ℕ) where
  abbrev StateIn : Option ServerFacts → Option State
  StateIn found = option_map (λ (s : ServerFacts). s.state) found

  -- ---- with the tick itself
  live-ticked : (now : Ticks) (s : ServerFacts) → s.state ≡ states.Primary → (ticked_unless_live now s).state ≡ s.state
  live-ticked now s primary = ap (λ (b : Bool). (cond b s (ticked now s)).state) (ap live primary)

  found-ticked : (now : Ticks) (found : Option ServerFacts) → StateIn found ≡ Some states.Primary
      → StateIn (option_map (ticked_unless_live now) found) ≡ StateIn found
  found-ticked now None primary = refl
  found-ticked now (Some s) primary = ap Some (live-ticked now s (some-is s.state states.Primary primary))

  tick-same : (cluster : Cluster) → IsPrimary n cluster → StandsSame n cluster (cluster_after cluster kinds.Tick)
  tick-same cluster primary =
      let now : Ticks = record { 0 = cluster.facts.clock + 1 } in
      record {
        agent = refl;
        process = refl;
        deadline = refl;
        basis = refl;
        hold = refl;
        state = ap StateIn (slice_get-map (ticked_unless_live now) cluster.facts.servers n)
            ∙ found-ticked now (slice_get cluster.facts.servers n) primary;
      }

  -- no time passes elsewhere
  clock-one : (cluster : Cluster) (kind : EventKind) → IsElsewhere n cluster kind
      → (cluster_after cluster kind).facts.clock ≡ cluster.facts.clock
  clock-one cluster kinds.Tick other = absurd other
  clock-one cluster _ other = refl

  clock-over : (cluster : Cluster) (events : List Event) → AreElsewhere n cluster events
      → (cluster_over cluster events).facts.clock ≡ cluster.facts.clock
  clock-over cluster [] all = refl
  clock-over cluster (event ∷ events) all =
      clock-over (cluster_after cluster event.kind) events all.1 ∙ clock-one cluster event.kind all.0

  pub elsewhere-both : (cluster : Cluster) (xs ys : List Event) → AreElsewhere n cluster xs
      → AreElsewhere n (cluster_over cluster xs) ys → AreElsewhere n cluster (xs ++ ys)
  elsewhere-both cluster [] ys first second = second
  elsewhere-both cluster (x ∷ xs) ys first second =
      (first.0, elsewhere-both (cluster_after cluster x.kind) xs ys first.1 second)

  -- ---- resets
  abbrev Outlasts : Cluster → Type 0
  Outlasts cluster = FiresPast cluster.facts.clock (slice_get cluster.facts.deadlines n)

  not-both : (deadline now : ℕ) → nat_le deadline now ≡ true → now < deadline → ⊥
  not-both deadline now e less = grind (arith, nat_tests, e, less)

  never-due : (now : ℕ) (found : Option (Option Ticks)) (deadline : Option Ticks) → found ≡ Some deadline
      → is_due_at now deadline ≡ true → FiresPast now found → ⊥
  never-due now found None is due past = absurd (clash due)
    where
      clash : false ≡ true → ⊥
      clash e = cc
  never-due now found (Some deadline) is due past = not-both deadline.0 now due (subst (FiresPast now) is past)

  reset-test : (cluster : Cluster) (member : Member) (deadline : Option Ticks) (due here : Bool)
      → slice_get cluster.facts.deadlines member.id.number ≡ Some deadline
      → is_due_at cluster.facts.clock deadline ≡ due → (n == member.id.number) ≡ here → Outlasts cluster
      → AreElsewhere n cluster
      (events_of cluster (kinds_of (cond due (Some (kinds.Watchdog (watchdogs.Reset member))) None)))
  reset-test cluster member deadline false here found is same outlasts = tt
  reset-test cluster member deadline true true found is same outlasts =
      absurd (never-due cluster.facts.clock (slice_get cluster.facts.deadlines n) deadline
      (ap (slice_get cluster.facts.deadlines) (eq-from n member.id.number same) ∙ found) is outlasts)
  reset-test cluster member deadline true false found is same outlasts = (ne-from n member.id.number same, tt)

  reset-found : (cluster : Cluster) (member : Member) (found : Option (Option Ticks))
      → slice_get cluster.facts.deadlines member.id.number ≡ found → Outlasts cluster
      → AreElsewhere n cluster
      (events_of cluster (kinds_of (option_and_then (reset_of cluster.facts.clock member) found)))
  reset-found cluster member None is outlasts = tt
  reset-found cluster member (Some deadline) is outlasts = reset-test cluster member deadline
      (is_due_at cluster.facts.clock deadline) (n == member.id.number) is refl refl outlasts

  outlasts-later : (cluster : Cluster) (events : List Event) → AreElsewhere n cluster events → Outlasts cluster
      → Outlasts (cluster_over cluster events)
  outlasts-later cluster events all outlasts =
      let after : Cluster = cluster_over cluster events in
      subst (λ (now : ℕ). FiresPast now (slice_get after.facts.deadlines n)) (sym (clock-over cluster events all))
      (subst (FiresPast cluster.facts.clock) (sym (same-over n cluster events all).deadline) outlasts)

  resets-elsewhere : (cluster : Cluster) (members : List Member) → Outlasts cluster
      → AreElsewhere n cluster (each reset_events cluster members)
  resets-elsewhere cluster [] outlasts = tt
  resets-elsewhere cluster (member ∷ more) outlasts =
      let first : List Event = reset_events cluster member in
      let here = reset-found cluster member (slice_get cluster.facts.deadlines member.id.number) refl outlasts in
      elsewhere-both cluster first (each reset_events (cluster_over cluster first) more) here
      (resets-elsewhere (cluster_over cluster first) more (outlasts-later cluster first here outlasts))

  -- ---- expiries
  expired-apart : (holder : Option Member) → AllKinds (Apart n) (leader_expiry holder)
  expired-apart None = tt
  expired-apart (Some member) = (λ cluster. tt, tt)

  expiry-apart : (holder : Option Member) (key : Key) → AllKinds (Apart n) (expiry_of holder key)
  expiry-apart holder keys.Leader = expired-apart holder
  expiry-apart holder _ = (λ cluster. tt, tt)

  expiries-apart : (holder : Option Member) (list : List Key) → AllKinds (Apart n) (expiries_of holder list)
  expiries-apart holder [] = tt
  expiries-apart holder (key ∷ more) = kinds-both (Apart n) (expiry_of holder key) (expiries_of holder more)
      (expiry-apart holder key) (expiries-apart holder more)

  expiries-elsewhere : (cluster : Cluster) (list : List EventKind) → AllKinds (Apart n) list
      → AreElsewhere n cluster (events_of cluster list)
  expiries-elsewhere cluster list all =
      apart-are n cluster (events_of cluster list) (all-kinds (Apart n) cluster list all)

  -- ---- completions
  loss-apart : (member : Member) (test : Bool) → AllKinds (Apart n) (kinds_of (loss_if member test))
  loss-apart member true = (λ cluster. tt, tt)
  loss-apart member false = tt

  completed-apart : (member : Member) (acknowledged : List ℕ) (log : Option (List Entry))
      (completion : Option Completion) → n ≢ member.id.number
      → AllKinds (Apart n) (completed_by member acknowledged log completion)
  completed-apart member acknowledged log None other = tt
  completed-apart member acknowledged log (Some (completions.Begins timeline)) other =
      (λ cluster. other, loss-apart member (lacks_in (entries_of log) acknowledged))
  completed-apart member acknowledged log (Some completions.Ends) other = (λ cluster. other, tt)

  completion-elsewhere : (cluster : Cluster) (member : Member) (here : Bool) (found : Option ServerFacts)
      → (n == member.id.number) ≡ here → slice_get cluster.facts.servers member.id.number ≡ found → IsPrimary n cluster
      → AreElsewhere n cluster
      (for_some found
      (λ s. events_of cluster (completion_kinds cluster.facts.clock member cluster.facts.acknowledged s)))
  completion-elsewhere cluster member here None same is primary = tt
  completion-elsewhere cluster member true (Some s) same is primary =
      let at : s.state ≡ states.Primary = some-is s.state states.Primary
      (sym (ap StateIn (ap (slice_get cluster.facts.servers) (eq-from n member.id.number same) ∙ is)) ∙ primary) in
      subst (λ (state : State). AreElsewhere n cluster (events_of cluster
      (completed_by member cluster.facts.acknowledged s.log (completion_in cluster.facts.clock s.timeline state))))
      (sym at) tt
  completion-elsewhere cluster member false (Some s) same is primary =
      expiries-elsewhere cluster (completion_kinds cluster.facts.clock member cluster.facts.acknowledged s)
      (completed-apart member cluster.facts.acknowledged s.log (completion_of cluster.facts.clock s)
      (ne-from n member.id.number same))

  completions-elsewhere : (cluster : Cluster) (members : List Member) → IsPrimary n cluster
      → AreElsewhere n cluster (each completion_events cluster members)
  completions-elsewhere cluster [] primary = tt
  completions-elsewhere cluster (member ∷ more) primary =
      let first : List Event = completion_events cluster member in
      let later : Cluster = cluster_over cluster first in
      let here = completion-elsewhere cluster member (n == member.id.number)
      (slice_get cluster.facts.servers member.id.number) refl refl primary in
      elsewhere-both cluster first (each completion_events later more) here
      (completions-elsewhere later more ((same-over n cluster first here).state ∙ primary))

  -- ---- the whole tick
  abbrev pub Ticked : Cluster → Cluster
  Ticked cluster = cluster_after cluster kinds.Tick

  abbrev pub Resets : Cluster → List Event
  Resets cluster = each reset_events (Ticked cluster) (Ticked cluster).facts.members

  abbrev pub Expiries : Cluster → List Event
  Expiries cluster = events_of (cluster_over (Ticked cluster) (Resets cluster)) (next_expiries cluster)

  abbrev pub Expired : Cluster → Cluster
  Expired cluster = cluster_over (cluster_over (Ticked cluster) (Resets cluster)) (Expiries cluster)

  abbrev pub Ends : Cluster → List Event
  Ends cluster = each completion_events (Expired cluster) (Expired cluster).facts.members

  -- what follows the clock
  abbrev pub Rest : Cluster → List Event
  Rest cluster = Resets cluster ++ (Expiries cluster ++ Ends cluster)

  pub rest-elsewhere : (cluster : Cluster) → FiresPast (cluster.facts.clock + 1) (slice_get cluster.facts.deadlines n)
      → IsPrimary n cluster → AreElsewhere n (Ticked cluster) (Rest cluster)
  rest-elsewhere cluster outlasts primary =
      let ticked : Cluster = Ticked cluster in
      let reset : Cluster = cluster_over ticked (Resets cluster) in
      let first = resets-elsewhere ticked ticked.facts.members outlasts in
      let second = expiries-elsewhere reset (next_expiries cluster)
      (expiries-apart (declared_member cluster.facts.members
      (expired_holder cluster.facts.keys (cluster.facts.clock + 1)))
      (expired_keys cluster.facts.keys (cluster.facts.clock + 1))) in
      elsewhere-both ticked (Resets cluster) (Expiries cluster ++ Ends cluster) first
      (elsewhere-both reset (Expiries cluster) (Ends cluster) second
      (completions-elsewhere (Expired cluster) (Expired cluster).facts.members
      ((same-over n reset (Expiries cluster) second).state ∙ (same-over n ticked (Resets cluster) first).state
      ∙ (tick-same cluster primary).state ∙ primary)))

  pub tick-leaves : (cluster : Cluster) → FiresPast (cluster.facts.clock + 1) (slice_get cluster.facts.deadlines n)
      → IsPrimary n cluster → StandsSame n cluster (cluster_over cluster (tick_events cluster))
  tick-leaves cluster outlasts primary =
      same-then n cluster (Ticked cluster) (cluster_over (Ticked cluster) (Rest cluster)) (tick-same cluster primary)
      (same-over n (Ticked cluster) (Rest cluster) (rest-elsewhere cluster outlasts primary))
