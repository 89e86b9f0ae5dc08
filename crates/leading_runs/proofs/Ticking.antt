-- A tick finds a steady leader asleep, and the rounds behind it end its turn.
use Rattle.std.proofs.Common.{Bool, List, None, Option, Some, [], ap, arith, false, inl, inr, length, nat_le, option_and_then, refl, slice_get, subst, suc, sym, true, ℕ, ◌+◌, ◌<◌, ◌∙◌, ◌∷◌, ◌≡◌, ◌≤◌}
use Rattle.agent_model.specs.Agents.{AgentFacts}
use Rattle.cluster_model.specs.Cluster.{cluster_over}
use Rattle.cluster_model.specs.Limits.{most_rounds}
use Rattle.cluster_model.specs.Next.{receive_events_of, rounds_events, scheduled_events}
use Rattle.cluster_model.specs.Parts.{each}
use Rattle.cluster_model.specs.State.{Cluster}
use Rattle.cluster_model.specs.Ticking.{tick_events}
use Rattle.event_book.specs.Flight.{InFlightFacts, in_flight}
use Rattle.event_book.specs.Kinds.{AllAre}
use Rattle.event_book.specs.declared.event.Event.{Event}
use Rattle.event_book.specs.declared.member.Member.{Member}
use Rattle.leading_parts.proofs.Aside.{aside-beside, leaves-over, serves-elsewhere}
use Rattle.leading_parts.proofs.Askers.{asks-own}
use Rattle.leading_parts.proofs.Entry.{tick-leaves as key-ticks}
use Rattle.leading_parts.proofs.Settings.{settings-ticked}
use Rattle.leading_parts.proofs.Ticked.{Rest, Ticked, rest-elsewhere, tick-leaves}
use Rattle.leading_parts.specs.Aside.{IsBeside, IsOther, LeavesMail}
use Rattle.leading_parts.specs.Elsewhere.{AreElsewhere, StandsSame}
use Rattle.lease_owners.specs.Asking.{AsksFor}
use Rattle.leading_parts.specs.Holding.{IsMemberOf, LeavesKey, LeavesSettings}
use Rattle.leading_parts.specs.Ticked.{FiresPast}
use Rattle.leading_runs.proofs.Keeping.{options-over, other-harmless, settings-same, undisturbed-left}
use Rattle.leading_runs.proofs.Rounds.{round}
use Rattle.leading_runs.proofs.Stages.{Decides, Grants, IsDue, IsOwn, LastsOn, Mail, OlderMail, OnlyMail, Reads, Renews, Seen, Shows, Sleeps, Stage, Stands, Syncs, Turns, mail_rank, next_seen, rank_of}
use Rattle.leading_runs.proofs.Steps.{keeps-receives}
use Rattle.leading_runs.proofs.Walking.{Goes, Keeps, Leave, Within, keeps-each, keeps-then, rounds-end}
use Rattle.lease_model.specs.Showing.{IsLocal}
use Rattle.lease_model.proofs.Tools.{gt-from, le-from}
use Rattle.lease_model.specs.Stores.{leader_key_of}
use Rattle.lease_parts.proofs.Ticks.{IsBeside as IsBesideTick, rest-beside}
use Rattle.lease_owners.proofs.EveryRun.{tick-owned}
use Rattle.lease_owners.specs.Kept.{IsOwned}
use Rattle.lease_store.specs.KeyOrder.{key_cmp}
use Rattle.lease_store.specs.Keys.{Keys}
use Rattle.pat_base.specs.declared.member_id.TheConstants.{MOST_MEMBERS}
use Rattle.pat_base.specs.declared.ticks.Ticks.{Ticks}
use Rattle.run_promise.proofs.Members.{members-over}
use Rattle.run_promise.specs.Members.{IsDeclared}
use Rattle.script_model.specs.Script.{HeadText, names_of}
use Rattle.std.specs.FinMap.{find}
use Rattle.std.specs.Prelude.{◌⊎◌}
use Rattle.store_keys.specs.declared.key.Key.TheVariants as keys

module _ (head : HeadText) (few : length (names_of head) ≤ MOST_MEMBERS) (member : Member)
    (declared : IsDeclared head member) where
  abbrev N : ℕ
  N = member.id.number

  abbrev In : ℕ → Cluster → Type 0
  In rank = Within head member rank

  -- ---- a tick
  sooner : (clock next : ℕ) → clock < next → (test : Bool) → nat_le next (clock + 1) ≡ test
      → (clock + 1 < next) ⊎ (clock + 1 ≡ next)
  sooner clock next less true is = inr (omega (arith, less, le-from next (clock + 1) is))
  sooner clock next less false is = inl (gt-from next (clock + 1) is)

  fires-past : (now moment : ℕ) (found : Option (Option Ticks)) → now ≤ moment → FiresPast moment found
      → FiresPast now found
  fires-past now moment None less past = tt
  fires-past now moment (Some None) less past = tt
  fires-past now moment (Some (Some deadline)) less past = omega (arith, less, past)

  abbrev later : Seen → Seen
  later seen = record seen { clock = seen.clock + 1 }

  rest-besides : (last : ℕ) (events : List Event) → AllAre (IsBesideTick (λ n. Unit {0})) events
      → AllAre (IsBeside N last) events
  rest-besides last [] all = tt
  rest-besides last (event ∷ events) all = (
    aside-beside N last (λ n. Unit {0}) event.kind all.0.0 (λ same. subst IsLocal same all.0.1),
    rest-besides last events all.1,
  )

  module _ (cluster : Cluster) (good : IsOwned head cluster) (seen : Seen)
      (stands : Stands member seen cluster) (waits : seen.agent.knows.waited ≡ None)
      (still : seen.clock < next_seen seen) (past : LastsOn seen)
      (none : (i : ℕ) (one : InFlightFacts) → in_flight cluster.facts.flight i ≡ Some one →
      AsksFor seen.key.revision one.message.body → ⊥)
      (older : (i : ℕ) (one : InFlightFacts) → in_flight cluster.facts.flight i ≡ Some one →
      IsOwn member seen one.message → one.message.sequence < seen.agent.knows.sequence + 1)
      (leave : Leave head member cluster (tick_events cluster)) where
    abbrev Tick_first : Cluster
    Tick_first = Ticked N cluster

    abbrev After : Cluster
    After = cluster_over cluster (tick_events cluster)

    then : IsOwned head After
    then = tick-owned head cluster good

    now-next : cluster.facts.clock + 1 ≤ next_seen seen
    now-next = omega (arith, still, stands.clock_is)

    outlasts : FiresPast (cluster.facts.clock + 1) (slice_get cluster.facts.deadlines N)
    outlasts = fires-past (cluster.facts.clock + 1) (next_seen seen) (slice_get cluster.facts.deadlines N) now-next
        (subst (FiresPast (next_seen seen)) (sym stands.deadline_is) past.guard)

    elsewhere : AreElsewhere N Tick_first (Rest N cluster)
    elsewhere = rest-elsewhere N cluster outlasts stands.primary

    left : LeavesMail N 0 Tick_first After
    left = leaves-over N 0 Tick_first (Rest N cluster)
        (rest-besides 0 (Rest N cluster) (rest-beside (λ n. Unit {0}) cluster (λ n lives. tt)))
        leave.1 good.facts.order (omega arith)

    same : StandsSame N cluster After
    same = tick-leaves N cluster outlasts stands.primary

    key-lasts : cluster.facts.clock + 1 < seen.key.expiry
    key-lasts = omega (arith, now-next, past.key)

    leader-left : LeavesKey cluster After
    leader-left = ap (λ (k : Keys). find key_cmp keys.Leader k.pairs) left.keys
        ∙ key-ticks head cluster seen.key good stands.key_is key-lasts

    settings-left-so : LeavesSettings cluster After
    settings-left-so =
        let ticked = settings-ticked head cluster good in
        let rest = settings-same Tick_first After left.keys in
        record {
          config = rest.config ∙ ticked.config;
          unasked = λ absent. rest.unasked (ticked.unasked absent);
        }

    stands-later : Stands member (later seen) After
    stands-later = record {
      clock_is = left.clock ∙ ap (λ (k : ℕ). k + 1) stands.clock_is;
      process_is = same.process ∙ stands.process_is;
      acts = stands.acts;
      agent_is = ap (option_and_then (λ (a : Option AgentFacts). a)) same.agent ∙ stands.agent_is;
      revision = stands.revision;
      role = stands.role;
      unasked = stands.unasked;
      declared =
          ap (λ (ms : List Member). slice_get ms N) (members-over cluster (tick_events cluster)) ∙ stands.declared;
      options_are = ap (λ os. slice_get os N) (options-over cluster (tick_events cluster)) ∙ stands.options_are;
      primary = same.state ∙ stands.primary;
      key_is = ap leader_key_of leader-left ∙ stands.key_is;
      holder = stands.holder;
      deadline_is = same.deadline ∙ stands.deadline_is;
      settings = undisturbed-left member seen cluster After settings-left-so stands.settings;
      times = stands.times;
    }

    tick-only : (i : ℕ) (one : InFlightFacts) → in_flight After.facts.flight i ≡ Some one
        → AsksFor seen.key.revision one.message.body → ⊥
    tick-only i one found asks = by (left.fresh i one found)
      where
        by : (in_flight cluster.facts.flight i ≡ Some one) ⊎ IsOther N one.message.from → ⊥
        by (inl was) = none i one was asks
        by (inr other) = (other-harmless member seen 0 one.message other).unasked
            (subst (λ (n : ℕ). IsMemberOf n one.message.from) stands.holder
            (asks-own head After then i one found seen.key stands-later.key_is asks))
            asks

    tick-older : (i : ℕ) (one : InFlightFacts) → in_flight After.facts.flight i ≡ Some one
        → IsOwn member seen one.message → one.message.sequence < seen.agent.knows.sequence + 1
    tick-older i one found own = by (left.fresh i one found)
      where
        by : (in_flight cluster.facts.flight i ≡ Some one) ⊎ IsOther N one.message.from
            → one.message.sequence < seen.agent.knows.sequence + 1
        by (inl was) = older i one was own
        by (inr other) = (other-harmless member seen (seen.agent.knows.sequence + 1) one.message other).older own

    ticked : (seen.clock + 1 < next_seen seen) ⊎ (seen.clock + 1 ≡ next_seen seen) → In 7 After
    ticked (inl soon) = (
      0,
      record {
        seen = later seen;
        stands = stands-later;
        stage = Sleeps waits soon (record { key = past.key; guard = past.guard });
        numbered = refl;
        ranked = omega arith;
        flying = tt;
        only = tick-only;
        older = λ i one found apart own. tick-older i one found own;
      },
    )
    ticked (inr due) = (
      0,
      record {
        seen = later seen;
        stands = stands-later;
        stage = IsDue waits due;
        numbered = refl;
        ranked = omega arith;
        flying = tt;
        only = tick-only;
        older = λ i one found apart own. tick-older i one found own;
      },
    )

    goes-tick : Goes head member (In 7) cluster (tick_events cluster)
    goes-tick = record {
      good = then;
      within = ticked (sooner seen.clock (next_seen seen) still (nat_le (next_seen seen) (seen.clock + 1)) refl);
      serves = (tt, serves-elsewhere N Tick_first (Rest N cluster) elsewhere);
    }

  -- a phase of rank 0 sleeps
  no-rank : (n : ℕ) → suc n ≤ 0 → ⊥
  no-rank n e = omega (arith, e)

  tick-by : (cluster : Cluster) (good : IsOwned head cluster) (seen : Seen)
      (stands : Stands member seen cluster) (stage : Stage member seen) → rank_of member seen stage ≤ 0
      → OnlyMail member seen stage cluster.facts.flight → OlderMail member seen stage cluster.facts.flight
      → Leave head member cluster (tick_events cluster)
      → Goes head member (In 7) cluster (tick_events cluster)
  tick-by cluster good seen stands (Sleeps waits still past) less only older leave =
      goes-tick cluster good seen stands waits still past only
      (λ i one found own. older i one found (λ no. no) own)
      leave
  tick-by cluster good seen stands (IsDue waits due) less only older leave = absurd (no-rank 6 less)
  tick-by cluster good seen stands (Turns number carried turn mail) less only older leave =
      absurd (by mail less)
    where
      by : (mail : Mail member seen turn.waited carried) → mail_rank member seen turn.waited carried mail ≤ 0 → ⊥
      by (Reads asks last is) e = no-rank 5 e
      by (Shows asks last is shows sets failover) e = no-rank 4 e
      by (Renews asks sent span none info status row listed is) e = no-rank 3 e
      by (Grants asks sent span none txn request is grant sets lasts) e = no-rank 2 e
      by (Syncs settling asks past txn writes is) e = no-rank 1 e
      by (Decides settling asks past txn writes request decision is granted grant sets) e = no-rank 0 e

  pub keeps-ticks : Keeps head member (In 0) (In 7) tick_events
  keeps-ticks cluster good within leave =
      let phase = within.1 in
      tick-by cluster good phase.seen phase.stands phase.stage phase.ranked phase.only phase.older leave

  -- ---- a tick of the default schedule
  keeps-receiving : Keeps head member (In 7) (In 7) (λ cluster. each receive_events_of cluster cluster.facts.members)
  keeps-receiving cluster good within leave =
      keeps-each head member (In 7) receive_events_of
      (keeps-receives head few member 7) cluster.facts.members cluster
      good within leave

  pub keeps-scheduled : Keeps head member (In 7) (In 0) scheduled_events
  keeps-scheduled =
      keeps-then head member (In 7) (In 7) (In 0) (λ c. each receive_events_of c c.facts.members)
      (λ later_c. rounds_events later_c most_rounds) keeps-receiving
      (rounds-end head member (round head few member declared) 7 most_rounds (omega arith) (omega arith))
