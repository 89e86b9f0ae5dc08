-- A steady leader leads on, and its server accepts writes throughout.
use Rattle.std.proofs.Common.{Bool, List, None, Option, Some, [], ap, arith, false, length, option_map, replicate, refl, slice_get, subst, suc, sym, true, zero, ℕ, ◌++◌, ◌+◌, ◌<◌, ◌∙◌, ◌∷◌, ◌≡◌, ◌≤◌}
use Rattle.std.proofs.lemmas.Option.{slice_get_within}
use Rattle.cluster_model.proofs.Lists.{all-front}
use Rattle.cluster_model.specs.Cluster.{cluster_after, cluster_over}
use Rattle.cluster_model.specs.Next.{run_events}
use Rattle.cluster_model.specs.Starting.{cluster_of}
use Rattle.cluster_model.specs.State.{Cluster}
use Rattle.cluster_model.specs.declared.step.Step.{Step}
use Rattle.event_book.specs.Kinds.{AllAre}
use Rattle.event_book.specs.Writers.{AcceptsWrites, writes_after, writes_in, writes_now, writes_over}
use Rattle.event_book.specs.Facts.{Facts, facts_over}
use Rattle.event_book.proofs.Told.{count-told, writes-same, writes-told}
use Rattle.event_book.specs.declared.event.Event.{Event}
use Rattle.event_book.specs.declared.event.EventKind.TheVariants as kinds
use Rattle.event_book.specs.declared.event.EventKind.{EventKind}
use Rattle.event_book.specs.declared.event.ServerEvent.TheVariants as servers
use Rattle.event_book.specs.declared.event.WatchdogEvent.TheVariants as watchdogs
use Rattle.event_book.specs.declared.member.Member.{Member}
use Rattle.leading_parts.specs.Alone.{LeaveAlone}
use Rattle.leading_parts.specs.Aside.{ServesOn}
use Rattle.leading_parts.specs.Ticked.{FiresPast, IsPrimary}
use Rattle.leading_runs.proofs.Stages.{Decides, Grants, IsDue, Mail, OlderMail, OnlyMail, Reads, Renews, Seen, Shows, Sleeps, Stage, Stands, Syncs, Turns, mail_rank, next_seen, rank_of}
use Rattle.leading_runs.proofs.Commands.{run}
use Rattle.leading_runs.proofs.Walking.{Goes, Within}
use Rattle.leading_runs.specs.Lasting.{LeadOn, LeadsOnOver}
use Rattle.leading_runs.specs.Schedule.{KeepSchedule}
use Rattle.leading_runs.specs.Steady.{IsSteady}
use Rattle.lease_model.proofs.Tools.{none-some, put-all, put-there, some-is}
use Rattle.lease_owners.specs.Kept.{IsOwned}
use Rattle.lease_owners.proofs.EveryRun.{owned-behind}
use Rattle.pat_base.specs.ServerState.{writes}
use Rattle.pat_base.specs.declared.server_state.State.TheVariants as states
use Rattle.pg_model.specs.Facts.{ServerFacts, fresh}
use Rattle.run_promise.proofs.Members.{few-names}
use Rattle.script_model.specs.Script.{HeadText, IsHead, names_of}

-- ---- a steady leader's turn is over, and whose is over is steady
pub asleep : (head : HeadText) (member : Member) (cluster : Cluster) → IsSteady member cluster
    → Within head member 0 cluster
asleep head member cluster steady =
    let leads = steady.leads in
    let seen : Seen = record {
      clock = cluster.facts.clock;
      process = leads.process;
      agent = leads.agent;
      options = steady.options;
      key = steady.key.key;
      deadline = slice_get cluster.facts.deadlines member.id.number;
    } in (
      0,
      record {
        seen = seen;
        stands = record {
          clock_is = refl;
          process_is = leads.process_is;
          acts = leads.acts;
          agent_is = leads.agent_is;
          revision = leads.revision;
          role = leads.role;
          unasked = leads.unasked;
          declared = steady.declared;
          options_are = steady.options_are;
          primary = steady.primary;
          key_is = steady.key.key_is;
          holder = steady.key.holder;
          deadline_is = refl;
          settings = steady.settings;
          times = steady.times;
        };
        stage = Sleeps leads.waits leads.later (record { key = steady.key.lasts; guard = steady.guard });
        numbered = refl;
        ranked = omega arith;
        flying = tt;
        only = steady.alone;
        older = λ i carried found apart own. below carried.message.sequence leads.agent.knows.sequence
            (steady.counted i carried found own);
      },
    )
  where
    below : (sequence last : ℕ) → sequence ≤ last → sequence < last + 1
    below sequence last small = omega (arith, small)

awake : (member : Member) (cluster : Cluster) (seen : Seen) → Stands member seen cluster → (stage : Stage member seen)
    → rank_of member seen stage ≤ 0 → OnlyMail member seen stage cluster.facts.flight
    → OlderMail member seen stage cluster.facts.flight → IsSteady member cluster
awake member cluster seen stands (IsDue waits due) less only older = absurd (seven less)
  where
    seven : 7 ≤ 0 → ⊥
    seven e = omega (arith, e)
awake member cluster seen stands (Turns number carried turn mail) less only older =
    absurd (no-mail mail less)
  where
    no-rank : (n : ℕ) → suc n ≤ 0 → ⊥
    no-rank n e = omega (arith, e)

    no-mail : (mail : Mail member seen turn.waited carried) → mail_rank member seen turn.waited carried mail ≤ 0 → ⊥
    no-mail (Reads asks last is) e = no-rank 5 e
    no-mail (Shows asks last is shows sets failover) e = no-rank 4 e
    no-mail (Renews asks sent span none info status row listed is) e = no-rank 3 e
    no-mail (Grants asks sent span none txn request is grant sets lasts) e = no-rank 2 e
    no-mail (Syncs settling asks past txn writes is) e = no-rank 1 e
    no-mail (Decides settling asks past txn writes request decision is granted grant sets) e = no-rank 0 e
awake member cluster seen stands (Sleeps waits later past) less only older = record {
  declared = stands.declared;
  options = seen.options;
  options_are = stands.options_are;
  leads = record {
    process = seen.process;
    process_is = stands.process_is;
    acts = stands.acts;
    agent = seen.agent;
    agent_is = stands.agent_is;
    revision = stands.revision;
    role = stands.role;
    waits = waits;
    unasked = stands.unasked;
    later = subst (λ (now : ℕ). now < next_seen seen) (sym stands.clock_is) later;
  };
  primary = stands.primary;
  key = record { key = seen.key; key_is = stands.key_is; holder = stands.holder; lasts = past.key };
  alone = only;
  counted = λ i carried found own. within carried.message.sequence seen.agent.knows.sequence
      (older i carried found (λ no. no) own);
  guard = subst (FiresPast (next_seen seen)) (sym stands.deadline_is) past.guard;
  settings = stands.settings;
  times = stands.times;
}
  where
    within : (sequence last : ℕ) → sequence < last + 1 → sequence ≤ last
    within sequence last small = omega (arith, small)

-- ---- its server accepts writes at each front
writes-one : (n : ℕ) (writes : ℕ → Bool) (kind : EventKind) → ServesOn n kind → writes n ≡ true
    → writes_after writes kind n ≡ true
writes-one n writes (kinds.Server (servers.Began server timeline)) serves is =
    put-all writes server.id.number true (λ k b. k ≡ n → b ≡ true) (λ same. refl)
    (λ k other same. ap writes same ∙ is) n refl
writes-one n writes (kinds.Server (servers.Ended server)) serves is =
    put-there writes server.id.number false n serves ∙ is
writes-one n writes (kinds.Server (servers.Crashed server)) serves is =
    put-there writes server.id.number false n serves ∙ is
writes-one n writes (kinds.Watchdog (watchdogs.Reset member)) serves is =
    put-there writes member.id.number false n serves ∙ is
writes-one n writes _ serves is = is

writes-on : (n : ℕ) (writes : ℕ → Bool) (events : List Event) → AllAre (ServesOn n) events → writes n ≡ true
    → writes_over writes events n ≡ true
writes-on n writes [] all is = is
writes-on n writes (event ∷ events) all is =
    writes-on n (writes_after writes event.kind) events all.1 (writes-one n writes event.kind all.0 is)

over-both : (writes : ℕ → Bool) (xs ys : List Event)
    → writes_over writes (xs ++ ys) ≡ writes_over (writes_over writes xs) ys
over-both writes [] ys = refl
over-both writes (x ∷ xs) ys = over-both (writes_after writes x.kind) xs ys

-- ---- the book has a server accept writes as its state says
none-write : (base count n : ℕ) → writes_in (replicate count (fresh base)) n ≡ false
none-write base zero n = refl
none-write base (suc count) zero = refl
none-write base (suc count) (suc n) = none-write base count n

facts-left : (cluster : Cluster) (events : List Event)
    → (cluster_over cluster events).facts ≡ facts_over cluster.facts events
facts-left cluster [] = refl
facts-left cluster (event ∷ events) = facts-left (cluster_after cluster event.kind) events

primary-writes : (found : Option ServerFacts)
    → option_map (λ (s : ServerFacts). s.state) found ≡ Some states.Primary
    → (s : ServerFacts) × ((found ≡ Some s) × (writes_now found ≡ true))
primary-writes None e = absurd (none-some states.Primary e)
primary-writes (Some s) e = (s, (refl, ap writes (some-is s.state states.Primary e)))

primary-accepts : (head : HeadText) (book : List Event) (n : ℕ) → IsPrimary n (cluster_over (cluster_of head) book)
    → AcceptsWrites book n
primary-accepts head book n primary =
    let start : Facts = (cluster_of head).facts in
    let known : List ServerFacts = (cluster_over (cluster_of head) book).facts.servers in
    let same : known ≡ (facts_over start book).servers =
    ap (λ (f : Facts). f.servers) (facts-left (cluster_of head) book) in
    let found = primary-writes (slice_get known n) primary in
    let small : n < length start.servers =
    subst (λ (count : ℕ). n < count) (ap (λ (l : List ServerFacts). length l) same ∙ count-told start book)
    (slice_get_within known n found.0 found.1.0) in
    sym (writes-same (writes_in start.servers) (λ m. false) book n (none-write head.base (length (names_of head)) n))
    ∙ sym (writes-told start book n small) ∙ ap (λ (l : List ServerFacts). writes_in l n) (sym same) ∙ found.1.1

module _ (head : HeadText) (is : IsHead head) (before later : List Step) (member : Member)
    (keep : KeepSchedule later) where
  abbrev First : List Event
  First = run_events (cluster_of head) before

  abbrev Start : Cluster
  Start = cluster_over (cluster_of head) First

  abbrev Later : List Event
  Later = run_events Start later

  module _ (steady : IsSteady member Start) (alone : LeaveAlone member.id.number Start Later) where
    owned : IsOwned head Start
    owned = owned-behind head (few-names head is) before

    goes : Goes head member (Within head member 0) Start Later
    goes = run head (few-names head is) member
        (sym (ap (λ (ms : List Member). slice_get ms member.id.number) owned.members) ∙ steady.declared)
        later keep Start owned (asleep head member Start steady) alone

    stays-steady : IsSteady member (cluster_over Start Later)
    stays-steady =
        let phase = goes.within.1 in
        awake member (cluster_over Start Later) phase.seen phase.stands phase.stage phase.ranked phase.only phase.older

    began-writing : writes_over (λ n. false) First member.id.number ≡ true
    began-writing = primary-accepts head First member.id.number steady.primary

    writes-throughout : (front rest : List Event) → front ++ rest ≡ Later
        → AcceptsWrites (First ++ front) member.id.number
    writes-throughout front rest whole =
        ap (λ (w : ℕ → Bool). w member.id.number) (over-both (λ n. false) First front)
        ∙ writes-on member.id.number (writes_over (λ n. false) First) front
        (all-front (ServesOn member.id.number) front rest
        (subst (AllAre (ServesOn member.id.number)) (sym whole) goes.serves))
        began-writing

    pub leads-on-over : LeadsOnOver head before later member
    leads-on-over = record { steady = stays-steady; writes = writes-throughout }

-- so it is of a run, wherever that is cut
pub leads-on : (head : HeadText) → IsHead head → (steps : List Step) → LeadOn head steps
leads-on head is steps before later rest member cut keep steady alone =
    leads-on-over head is before later member keep steady alone
