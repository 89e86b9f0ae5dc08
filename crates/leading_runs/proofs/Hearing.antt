-- What a leader hears beside what it waits for: it answers other members, and drops the rest.
use Rattle.std.proofs.Common.{ℕ, ◌≡◌, ◌≢◌, ◌+◌, ◌≤◌, ◌<◌, ◌==◌, ◌&&◌, ◌||◌, not, Bool, true, false, cond, Option, Some, None, option_map, slice_get, refl, sym, ap, subst, ◌∙◌, inl, inr, arith}
use Rattle.std.proofs.lemmas.Bool.Decides.{nat_tests}
use Rattle.std.specs.Prelude.{◌⊎◌}
use Rattle.pat_base.specs.declared.member_id.MemberId.{MemberId}
use Rattle.lease_store.specs.declared.granted.Granted.{Granted}
use Rattle.script_model.specs.Script.{HeadText}
use Rattle.event_book.specs.declared.event.EventKind.TheVariants as kinds
use Rattle.event_book.specs.declared.event.MessageEvent.TheVariants.{Delivered}
use Rattle.event_book.specs.declared.link.LinkEnd.{LinkEnd}
use Rattle.event_book.specs.declared.link.LinkEnd.TheVariants as ends
use Rattle.event_book.specs.declared.member.Member.{Member}
use Rattle.event_book.specs.declared.message.Body.{Body}
use Rattle.event_book.specs.declared.message.Body.TheVariants as bodies
use Rattle.event_book.specs.Flight.{Flight, InFlightFacts, grant_for, in_flight}
use Rattle.event_book.specs.Kinds.{AllAre}
use Rattle.agent_model.specs.declared.heard.Heard.{Heard}
use Rattle.agent_model.specs.declared.heard.Heard.TheVariants as heards
use Rattle.agent_model.specs.declared.knowledge.Knowledge.{Knowledge}
use Rattle.agent_model.specs.declared.knowledge.PendingQuestion.{PendingQuestion}
use Rattle.agent_model.specs.declared.knowledge.Question.{Question}
use Rattle.agent_model.specs.declared.knowledge.Question.TheVariants.{Reading, Renewing, Syncing}
use Rattle.agent_model.specs.Agents.{AgentFacts, Outcome, RoleFacts}
use Rattle.agent_model.specs.Operators.{awaits_number}
use Rattle.agent_model.specs.Outputs.{with_output}
use Rattle.agent_model.specs.Peers.{is_asking, is_checking}
use Rattle.agent_model.specs.StayingPrimary.{is_staying}
use Rattle.agent_model.specs.Table.{step}
use Rattle.cluster_model.specs.declared.delivery.Delivery.{Delivery}
use Rattle.cluster_model.specs.declared.delivery.Delivery.TheVariants as deliveries
use Rattle.cluster_model.specs.Cluster.{cluster_after, cluster_over}
use Rattle.cluster_model.specs.Deliveries.{delivery_of, delivery_to, delivery_to_agent, is_answer, is_stale}
use Rattle.cluster_model.specs.Hearing.{heard_from, heard_in, member_at_end, snapshot_in}
use Rattle.cluster_model.specs.Inputs.{moment_of, outcome_of_heard}
use Rattle.cluster_model.specs.Machines.{points_of}
use Rattle.cluster_model.specs.Messages.{hear_events, heard_message, input_events}
use Rattle.cluster_model.specs.State.{Cluster}
use Rattle.lease_model.proofs.Tools.{ne-from, put-there}
use Rattle.lease_book.proofs.Entries.{in-without}
use Rattle.lease_owners.specs.Kept.{IsOwned}
use Rattle.lease_parts.specs.Waiting.{IsAddressed}
use Rattle.leading_law.specs.Leading.{AnswersAlone, AnswersNumber, AwaitsNoPeer, IsPeerAnswer}
use Rattle.leading_law.specs.OwnInputs.{AnswersOnly, AsksNothing, IsGuardedSo, IsUntouched, NumbersRise, SleepsOn, StandsSo}
use Rattle.leading_law.proofs.Inputs.{drops-it, drops-peers, numbered-ask, numbered-failsafe}
use Rattle.leading_law.proofs.Dropping.{drops, drops-peer}
use Rattle.leading_law.proofs.Turns.{answers-asked, refuses}
use Rattle.leading_parts.specs.Aside.{ServesOn}
use Rattle.lease_owners.specs.Asking.{AsksFor}
use Rattle.leading_parts.specs.Holding.{IsMemberOf}
use Rattle.leading_parts.proofs.Answering.{without-there}
use Rattle.leading_runs.specs.Joining.{StandsLeading}
use Rattle.leading_runs.specs.Steady.{IsOfRun}
use Rattle.leading_runs.proofs.Keeping.{IsHarmless, Leaves, leader-same, options-over, phase-left, settings-same}
use Rattle.leading_runs.proofs.Own.{AreMild, answer-mild, input-serves}
use Rattle.leading_runs.proofs.Stages.{Decides, Grants, IsDue, IsFlying, IsMail, IsOwn, Mail, Phase, Reads, Renews, Seen, Shows, Sleeps, Stage, Stands, Syncs, Turns, limit_of}
use Rattle.leading_runs.proofs.Standing.{standing}

-- ---- what it waits for is no other member's answer
mail-peer : (member : Member) (seen : Seen) (waited : PendingQuestion) (carried : InFlightFacts)
    → Mail member seen waited carried → AwaitsNoPeer (Some waited)
mail-peer member seen waited carried mail = by mail
  where
    no-peer : Question → Type 0
    no-peer q = (is_asking q ≡ false) × ((is_checking q ≡ false) × (is_staying q ≡ false))

    so : (q : Question) → waited.question ≡ q → no-peer q → no-peer waited.question
    so q same is = subst no-peer (sym same) is

    by : Mail member seen waited carried → no-peer waited.question
    by (Reads asks last is) = so Reading asks (refl, (refl, refl))
    by (Shows asks last is shows sets failover) = so Reading asks (refl, (refl, refl))
    by (Renews asks sent span none info status row listed is) = so Renewing asks (refl, (refl, refl))
    by (Grants asks sent span none txn request is grant sets lasts) = so Renewing asks (refl, (refl, refl))
    by (Syncs settling asks past txn writes is) = so (Syncing settling) asks (refl, (refl, refl))
    by (Decides settling asks past txn writes request decision is granted grant sets) =
        so (Syncing settling) asks (refl, (refl, refl))

stage-peer : (member : Member) (seen : Seen) → Stage member seen → AwaitsNoPeer seen.agent.knows.waited
stage-peer member seen (Sleeps waits later past) = subst AwaitsNoPeer (sym waits) tt
stage-peer member seen (IsDue waits due) = subst AwaitsNoPeer (sym waits) tt
stage-peer member seen (Turns number carried turn mail) =
    subst AwaitsNoPeer (sym turn.waits) (mail-peer member seen turn.waited carried mail)

-- ---- an older answer isn't waited for
other-number : (waited sequence last : ℕ) → waited ≡ last → sequence < last → waited == sequence ≡ false
other-number waited sequence last same less = grind (arith, nat_tests, same, less)

unawaited : (member : Member) (seen : Seen) (stage : Stage member seen) (sequence : ℕ)
    → sequence < limit_of member seen stage → awaits_number seen.agent.knows.waited sequence ≡ false
unawaited member seen (Sleeps waits later past) sequence less =
    ap (λ (w : Option PendingQuestion). awaits_number w sequence) waits
unawaited member seen (IsDue waits due) sequence less =
    ap (λ (w : Option PendingQuestion). awaits_number w sequence) waits
unawaited member seen (Turns number carried turn mail) sequence less =
    ap (λ (w : Option PendingQuestion). awaits_number w sequence) turn.waits
    ∙ other-number turn.waited.sequence sequence seen.agent.knows.sequence turn.numbered less

-- ---- an answer that comes is of this incarnation
not-free : deliveries.Gone ≡ deliveries.Open → ⊥
not-free e = cc

not-suspended : deliveries.Suspended ≡ deliveries.Open → ⊥
not-suspended e = cc

not-cut : deliveries.Cut ≡ deliveries.Open → ⊥
not-cut e = cc

fresh-by : (suspended running stale : Bool)
    → cond suspended deliveries.Suspended (cond (not running || stale) deliveries.Gone deliveries.Open)
    ≡ deliveries.Open
    → stale ≡ false
fresh-by true running stale e = absurd (not-suspended e)
fresh-by false false stale e = absurd (not-free e)
fresh-by false true true e = absurd (not-free e)
fresh-by false true false e = refl

uncut : (cut : Bool) (delivery : Delivery) → cond cut deliveries.Cut delivery ≡ deliveries.Open
    → delivery ≡ deliveries.Open
uncut true delivery e = absurd (not-cut e)
uncut false delivery e = e

same-run : (answer : Bool) (incarnation run : ℕ) → answer ≡ true → answer && not (incarnation == run) ≡ false
    → incarnation ≡ run
same-run true incarnation run is fresh = grind (arith, nat_tests, fresh)
same-run false incarnation run is fresh = absurd (clash is)
  where
    clash : false ≡ true → ⊥
    clash e = cc

-- ---- what it does then leaves how far its turn has come
no-own : (n run incarnation : ℕ) (from to : LinkEnd) → (to ≡ ends.Store → ⊥) → (from ≡ ends.Store → ⊥)
    → IsOfRun n run from to incarnation → ⊥
no-own n run incarnation (ends.Member by) ends.Store apart member own = apart refl
no-own n run incarnation (ends.Member by) (ends.Member other) apart member own = own
no-own n run incarnation ends.Store (ends.Member other) apart member own = member refl
no-own n run incarnation ends.Store ends.Store apart member own = own

peer-asks : (revision : ℕ) (by other : Member) (body : Body) → IsAddressed (ends.Member by) (ends.Member other) body
    → AsksFor revision body → ⊥
peer-asks revision by other (bodies.Request txn) addressed asks = addressed
peer-asks revision by other _ addressed asks = asks

none-asked : (n revision : ℕ) (from to : LinkEnd) (body : Body) → IsAddressed from to body → (to ≡ ends.Store → ⊥)
    → IsMemberOf n from → AsksFor revision body → ⊥
none-asked n revision (ends.Member by) ends.Store body addressed apart same asks = apart refl
none-asked n revision (ends.Member by) (ends.Member other) body addressed apart same asks =
    peer-asks revision by other body addressed asks
none-asked n revision ends.Store to body addressed apart same asks = same

module _ (head : HeadText) (member : Member) (rank mailed : ℕ) (cluster : Cluster)
    (phase : Phase member rank mailed cluster) (good : IsOwned head cluster) (number : ℕ)
    (carried : InFlightFacts) (flies : in_flight cluster.facts.flight number ≡ Some carried)
    (to : carried.message.to ≡ ends.Member member)
    (free : delivery_of cluster.facts.cuts cluster.facts.processes carried.message ≡ deliveries.Open)
    (other : IsMail member phase.seen phase.stage number → ⊥)
    (then : IsOwned head (cluster_over cluster (hear_events cluster number carried member))) where
  abbrev seen : Seen
  seen = phase.seen

  abbrev stands : Stands member seen cluster
  stands = phase.stands

  abbrev Here : StandsLeading member seen.agent seen.options cluster
  Here = standing head cluster member seen good stands

  abbrev O : Outcome
  O = Here.o

  abbrev Arrived : Cluster
  Arrived = cluster_after cluster (kinds.Message (Delivered number))

  abbrev After : Cluster
  After = cluster_over cluster (hear_events cluster number carried member)

  rises : NumbersRise cluster
  rises = record { order = good.facts.order; flown = good.facts.flown }

  -- what it did, with how far its turn has come
  pub record Hears : Type 0 where
    pub phase_is : Phase member rank mailed After
    pub serves : AllAre (ServesOn member.id.number) (hear_events cluster number carried member)

  nobody : O.knows.operating ≡ None
  nobody = ap (λ (k : Knowledge). k.operating) Here.knows ∙ stands.unasked

  stays-so : StandsSo member O After → IsUntouched member.id.number Arrived After
      → IsGuardedSo member.id.number Arrived After → Leaves member cluster After
  stays-so agent same guards = record {
    clock = same.clock;
    agent = agent
        ∙ ap (λ (r : RoleFacts). let one : AgentFacts = record { role = r; knows = O.knows } in Some one) Here.role
        ∙ ap (λ (k : Knowledge). let one : AgentFacts = record { role = seen.agent.role; knows = k } in Some one)
        Here.knows
        ∙ sym stands.agent_is;
    process = ap (λ xs. slice_get xs member.id.number) same.processes;
    deadline = guards.deadline;
    state = same.state;
    members = same.members;
    options = options-over cluster (hear_events cluster number carried member);
    leader = leader-same cluster After same.keys;
    settings = settings-same cluster After same.keys;
  }

  -- what was in flight is so, but for what came
  abbrev Kept : Type 0
  Kept = (i : ℕ) → i ≢ number → i ≤ cluster.facts.sent
      → in_flight After.facts.flight i ≡ in_flight Arrived.facts.flight i

  still-flying : (stage : Stage member seen) → (IsMail member seen stage number → ⊥)
      → IsFlying member seen stage cluster.facts.flight → Kept → IsFlying member seen stage After.facts.flight
  still-flying (Sleeps waits later_is past) apart flying kept = tt
  still-flying (IsDue waits due) apart flying kept = tt
  still-flying (Turns mail one turn is) apart flying kept =
      let away : mail ≢ number = λ same. apart (sym same) in
      kept mail away (good.facts.flown mail one flying)
      ∙ in-without 0 cluster.facts.flight number mail good.facts.order
      ∙ put-there (in_flight cluster.facts.flight) number None mail away ∙ flying

  was-flying : (i : ℕ) (one : InFlightFacts) → in_flight Arrived.facts.flight i ≡ Some one
      → in_flight cluster.facts.flight i ≡ Some one
  was-flying i one found =
      (without-there cluster.facts.flight number good.facts.order i one found).1

  -- it dropped it
  dropped-it : SleepsOn member O Arrived After → Phase member rank mailed After
  dropped-it sleeps =
      let same : (i : ℕ) → in_flight After.facts.flight i ≡ in_flight Arrived.facts.flight i =
      λ i. ap (λ (f : Flight). in_flight f i) sleeps.silent.flight in
      phase-left head member rank mailed cluster After phase then
      (stays-so sleeps.agent sleeps.untouched sleeps.guards)
      (still-flying phase.stage other phase.flying (λ i apart low. same i))
      (λ i one found. inl (was-flying i one (sym (same i) ∙ found)))

  -- it answered
  abbrev Added : ℕ → InFlightFacts → Type 0
  Added i one = (in_flight cluster.facts.flight i ≡ Some one)
      ⊎ IsHarmless member seen (limit_of member seen phase.stage) one.message

  new-harmless : (one : InFlightFacts) (i : ℕ) → in_flight After.facts.flight i ≡ Some one
      → (one.message.to ≡ ends.Store → ⊥) → (one.message.from ≡ ends.Store → ⊥)
      → IsHarmless member seen (limit_of member seen phase.stage) one.message
  new-harmless one i found apart from = record {
    unasked = none-asked member.id.number seen.key.revision one.message.from one.message.to one.message.body
        (then.facts.sent i one found).0.addressed apart;
    older = λ own. absurd (no-own member.id.number seen.process.incarnation one.message.incarnation one.message.from
        one.message.to apart from own);
  }

  answered-by : AsksNothing Arrived After → (i : ℕ) (one : InFlightFacts) → in_flight After.facts.flight i ≡ Some one
      → (new : Bool) → (i == Arrived.facts.sent + 1) ≡ new → Added i one
  answered-by silent i one found true same =
      let at : i ≡ Arrived.facts.sent + 1 = grind (arith, nat_tests, same) in
      let here : in_flight After.facts.flight (Arrived.facts.sent + 1) ≡ Some one =
      subst (λ (k : ℕ). in_flight After.facts.flight k ≡ Some one) at found in
      let apart = silent.answers one here in
      inr (new-harmless one i found apart.0 apart.1)
  answered-by silent i one found false same =
      inl (was-flying i one (sym (silent.others i (ne-from i (Arrived.facts.sent + 1) same)) ∙ found))

  apart-next : (i sent : ℕ) → i ≤ sent → i ≡ sent + 1 → ⊥
  apart-next i sent low same = omega (arith, low, same)

  answered-it : AnswersOnly member O Arrived After → Phase member rank mailed After
  answered-it answers =
      phase-left head member rank mailed cluster After phase then
      (stays-so answers.agent answers.untouched answers.guards)
      (still-flying phase.stage other phase.flying
      (λ i apart low. answers.silent.others i (apart-next i cluster.facts.sent low)))
      (λ i one found. answered-by answers.silent i one found (i == Arrived.facts.sent + 1) refl)

  -- its server serves on
  serves-as : (heard : Heard) → heard_from cluster carried ≡ Some heard
      → AreMild (step (moment_of cluster) (points_of cluster member) heard O).outputs
      → AllAre (ServesOn member.id.number) (hear_events cluster number carried member)
  serves-as heard says mild = (
    tt,
    subst (λ (h : Option Heard). AllAre (ServesOn member.id.number)
        (input_events Arrived member (heard_message number carried) (outcome_of_heard cluster member h))) (sym says)
        (input-serves member.id.number member (heard_message number carried) cluster Arrived heard O Here.stands mild),
  )

  serves-same : (heard : Heard) → heard_from cluster carried ≡ Some heard
      → step (moment_of cluster) (points_of cluster member) heard O ≡ O
      → AllAre (ServesOn member.id.number) (hear_events cluster number carried member)
  serves-same heard says same =
      serves-as heard says (subst AreMild (sym (ap (λ (x : Outcome). x.outputs) same ∙ Here.nothing)) tt)

  serves-answer : (heard : Heard) → heard_from cluster carried ≡ Some heard
      → AnswersAlone O (step (moment_of cluster) (points_of cluster member) heard O)
      → AllAre (ServesOn member.id.number) (hear_events cluster number carried member)
  serves-answer heard says alone =
      serves-as heard says (subst AreMild (sym (alone.outputs_are ∙ ap (with_output alone.answer) Here.nothing))
      (answer-mild alone.answer alone.answers, tt))

  -- ---- by what came
  older-answer : carried.message.from ≡ ends.Store → is_answer carried.message.body ≡ true
      → awaits_number O.knows.waited carried.message.sequence ≡ false
  older-answer from answers =
      let delivery : delivery_to cluster.facts.processes carried.message carried.message.to ≡ deliveries.Open =
      uncut _ _ free in
      let mine : delivery_to_agent carried.message (slice_get cluster.facts.processes member.id.number)
      ≡ deliveries.Open =
      ap (delivery_to cluster.facts.processes carried.message) (sym to) ∙ delivery in
      let found : delivery_to_agent carried.message (Some seen.process) ≡ deliveries.Open =
      ap (delivery_to_agent carried.message) (sym stands.process_is) ∙ mine in
      let run = same-run (is_answer carried.message.body) carried.message.incarnation seen.process.incarnation answers
      (fresh-by seen.process.suspended seen.process.running (is_stale carried.message seen.process) found) in
      let own : IsOwn member seen carried.message =
      subst (λ (end : LinkEnd). IsOfRun member.id.number seen.process.incarnation end carried.message.to
      carried.message.incarnation) (sym from)
      (subst (λ (end : LinkEnd). IsOfRun member.id.number seen.process.incarnation ends.Store end
      carried.message.incarnation) (sym to) (refl, run)) in
      ap (λ (k : Knowledge). awaits_number k.waited carried.message.sequence) Here.knows
      ∙ unawaited member seen phase.stage carried.message.sequence (phase.older number carried flies other own)

  drops-answer : (heard : Heard) → heard_from cluster carried ≡ Some heard → carried.message.from ≡ ends.Store
      → is_answer carried.message.body ≡ true → AnswersNumber carried.message.sequence heard → Hears
  drops-answer heard says from answers numbered =
      let older = older-answer from answers in
      record {
        phase_is = dropped-it (drops-it member cluster seen.process O number carried stands.process_is Here.stands
            Here.leads flies to carried.message.sequence heard says numbered nobody older);
        serves = serves-same heard says (drops (moment_of cluster) (points_of cluster member) O Here.leads nobody
            carried.message.sequence heard numbered older);
      }

  drops-other : (heard : Heard) → heard_from cluster carried ≡ Some heard → IsPeerAnswer heard → Hears
  drops-other heard says peer =
      let none =
      subst AwaitsNoPeer (sym (ap (λ (k : Knowledge). k.waited) Here.knows)) (stage-peer member seen phase.stage) in
      record {
        phase_is = dropped-it (drops-peers member cluster seen.process O number carried stands.process_is Here.stands
            Here.leads flies to heard says peer nobody none);
        serves = serves-same heard says
            (drops-peer (moment_of cluster) (points_of cluster member) O Here.leads nobody heard peer none);
      }

  from-store : (body : Body) → carried.message.body ≡ body → carried.message.from ≡ ends.Store
      → IsAddressed ends.Store (ends.Member member) body → Hears
  from-store bodies.Snapshot says from addressed =
      drops-answer (heards.ReadAnswered carried.message.sequence (snapshot_in cluster carried))
      (ap (heard_in cluster carried) says) from (ap is_answer says) refl
  from-store (bodies.Granted request leased) says from addressed =
      let grant = (good.facts.sent number carried flies).0.grant in
      let one : Granted = record { revision = grant.0; by = member.id; leased = leased } in
      drops-answer (heards.Granted carried.message.sequence one (snapshot_in cluster carried))
      (ap (heard_in cluster carried) says
      ∙ ap (option_map (λ (g : Granted). let told : Heard =
      heards.Granted carried.message.sequence g (snapshot_in cluster carried) in told))
      (grant.1 ∙ ap (λ (b : Body). grant_for b carried.message.to grant.0) says
      ∙ ap (λ (end : LinkEnd). grant_for (bodies.Granted request leased) end grant.0) to))
      from (ap is_answer says) refl
  from-store (bodies.Refused request key there) says from addressed =
      drops-answer (heards.Mismatch carried.message.sequence key there) (ap (heard_in cluster carried) says) from
      (ap is_answer says) refl
  from-store _ says from addressed = absurd addressed

  from-member : (by : Member) (body : Body) → carried.message.body ≡ body → carried.message.from ≡ ends.Member by
      → IsAddressed (ends.Member by) (ends.Member member) body → Hears
  from-member by bodies.Ask says from addressed =
      let heard : Heard = heards.Asked by.id carried.message.incarnation carried.message.sequence in
      let told : heard_from cluster carried ≡ Some heard =
      ap (heard_in cluster carried) says
      ∙ ap (λ (end : LinkEnd). option_map (λ (id : MemberId). let one : Heard =
      heards.Asked id carried.message.incarnation carried.message.sequence in one) (member_at_end end)) from in
      record {
        phase_is = answered-it (numbered-ask member cluster seen.process O number carried rises
            stands.process_is Here.stands Here.leads flies to by.id carried.message.incarnation
            carried.message.sequence told);
        serves = serves-answer heard told (answers-asked (moment_of cluster) (points_of cluster member) by.id
            carried.message.incarnation carried.message.sequence O Here.leads);
      }
  from-member by (bodies.Answer answer) says from addressed =
      drops-other (heards.Answered carried.message.sequence answer) (ap (heard_in cluster carried) says) tt
  from-member by (bodies.FailsafeRequest ttl) says from addressed =
      let heard : Heard = heards.FailsafeAsked by.id carried.message.incarnation carried.message.sequence ttl in
      let told : heard_from cluster carried ≡ Some heard =
      ap (heard_in cluster carried) says
      ∙ ap (λ (end : LinkEnd). option_map (λ (id : MemberId). let one : Heard =
      heards.FailsafeAsked id carried.message.incarnation carried.message.sequence ttl in one) (member_at_end end))
      from in
      record {
        phase_is = answered-it (numbered-failsafe member cluster seen.process O number carried rises
            stands.process_is Here.stands Here.leads flies to by.id carried.message.incarnation
            carried.message.sequence ttl told);
        serves = serves-answer heard told (refuses (moment_of cluster) (points_of cluster member) by.id
            carried.message.incarnation carried.message.sequence ttl O Here.leads);
      }
  from-member by (bodies.FailsafeAnswer accepted) says from addressed =
      drops-other (heards.FailsafeAnswered by.id carried.message.sequence accepted carried.sent)
      (ap (heard_in cluster carried) says
      ∙ ap (λ (end : LinkEnd). option_map (λ (id : MemberId). let one : Heard =
      heards.FailsafeAnswered id carried.message.sequence accepted carried.sent in one) (member_at_end end)) from)
      tt
  from-member by _ says from addressed = absurd addressed

  by-sender : (from : LinkEnd) → carried.message.from ≡ from
      → IsAddressed from (ends.Member member) carried.message.body → Hears
  by-sender ends.Store from addressed = from-store carried.message.body refl from addressed
  by-sender (ends.Member by) from addressed = from-member by carried.message.body refl from addressed

  pub hears-beside : Hears
  hears-beside = by-sender carried.message.from refl
      (subst (λ (end : LinkEnd). IsAddressed carried.message.from end carried.message.body) to
      (good.facts.sent number carried flies).0.addressed)
