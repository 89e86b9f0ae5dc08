-- What an input adds: failsafe requests under new numbers, a hold for one
-- that was asked, its acknowledgement, and what an agent has counted.
use Rattle.std.proofs.Common.{◌≡◌, ◌≢◌, ◌⊎◌, ◌==◌, ◌||◌, ◌≤◌, ◌<◌, ℕ, zero, suc, nat_lt, bit_and, not, Bool, true, false, if◌then◌else◌, List, ◌∷◌, Option, Some, None, slice_get, refl, sym, subst, ap, ◌∙◌, arith, inl, inr}
use Rattle.std.specs.Int.Bits.{and_zero_r}
use Rattle.std.proofs.lemmas.Bool.Decides.{nat_tests}
use Rattle.pat_base.specs.Changes.{with_changed}
use Rattle.pat_base.specs.declared.member_id.MemberId.{MemberId}
use Rattle.pat_base.specs.declared.member_set.MemberSet.{MemberSet}
use Rattle.pat_base.specs.declared.ticks.Ticks.{Ticks}
use Rattle.event_book.specs.declared.event.AgentEvent.TheVariants as agents
use Rattle.event_book.specs.declared.event.EventKind.{EventKind}
use Rattle.event_book.specs.declared.event.EventKind.TheVariants as kinds
use Rattle.event_book.specs.declared.event.MessageEvent.TheVariants as messages
use Rattle.event_book.specs.declared.event.WatchdogEvent.TheVariants as watchdogs
use Rattle.event_book.specs.declared.member.Member.{Member}
use Rattle.event_book.specs.declared.message.Message.{Message}
use Rattle.event_book.specs.declared.reason.Basis.TheVariants as bases
use Rattle.event_book.specs.Flight.{Flight, InFlightFacts, in_flight, launched}
use Rattle.event_book.specs.Premises.{IsTaken, Moments, Taking, moments_after}
use Rattle.failsafe.specs.declared.asks.Ask.{Ask}
use Rattle.failsafe.specs.Asks.{asked as ask_of, earlier, has, heard as ask_heard, is_awaited, is_within, moment_of_all, earliest_or, with_acknowledgement}
use Rattle.failsafe.proofs.Members.{has-nobody, has-with, within-has}
use Rattle.agent_model.specs.Agents.{AgentFacts, Outcome}
use Rattle.cluster_model.specs.Cluster.{agent_after, agent_facts_after, cluster_after}
use Rattle.cluster_model.specs.State.{Cluster}
use Rattle.lease_model.proofs.Tools.{and-first, none-some, some-is}
use Rattle.lease_book.specs.Flights.{Rises}
use Rattle.lease_book.proofs.Entries.{in-with, in-without}
use Rattle.lease_inputs.proofs.InputKinds.{IsOpening}
use Rattle.lease_runs.proofs.AskedOnce.{AskOnce, AsksOnce, IsCounted, IsGiven, KnowAsked, KnowsAsked, Request, changed-at, gone-sub, once-sub, request_of, sent-then, taking, yes_of}
use Rattle.summary_model.specs.Telling.{IsEarliest}

-- ---- holds
same-request : (r s : Request) (a b : ℕ) → taking r a ≡ taking s b → (r ≡ s) × (a ≡ b)
same-request r s a b e = (
  same r s (ap (λ (t : Taking). t.by) e) (ap (λ (t : Taking). t.from) e)
      (ap (λ (t : Taking). t.incarnation) e) (ap (λ (t : Taking). t.sequence) e),
  ap (λ (t : Taking). t.moment) e,
)
  where
    same : (r s : Request) → r.by ≡ s.by → r.from ≡ s.from → r.incarnation ≡ s.incarnation
        → r.sequence ≡ s.sequence → r ≡ s
    same r s a b c d =
        ap (λ (n : ℕ). let x : Request =
        record { by = n; from = r.from; incarnation = r.incarnation; sequence = r.sequence } in x)
        a
        ∙ ap (λ (n : ℕ). let x : Request =
        record { by = s.by; from = n; incarnation = r.incarnation; sequence = r.sequence } in x)
        b
        ∙ ap (λ (n : ℕ). let x : Request =
        record { by = s.by; from = s.from; incarnation = n; sequence = r.sequence } in x)
        c
        ∙ ap (λ (n : ℕ). let x : Request =
        record { by = s.by; from = s.from; incarnation = s.incarnation; sequence = n } in x)
        d

-- nobody asks this of that member, or holds for it
pub record IsUnasked (taken : List Taking) (flight : Flight) (r : Request) : Type 0 where
  pub flying : (i : ℕ) (c : InFlightFacts) → in_flight flight i ≡ Some c → request_of c.message ≡ Some r → ⊥
  pub held : (moment : ℕ) → IsTaken taken (taking r moment) → ⊥

counted-more : (taken : List Taking) (one : Taking) (m run sequence : ℕ) (ask : Ask)
    → IsCounted taken m run sequence ask → IsCounted (one ∷ taken) m run sequence ask
counted-more taken one m run sequence ask old = record {
  some = old.some;
  none = old.none;
  each = λ p e is hs. let was = old.each p e is hs in (was.0, (inr was.1.0, was.1.1));
  one = λ e is. let was = old.one e is in (was.0, (was.1.0, inr was.1.1));
}

-- a member takes a hold for a request that came, and is in flight no more
pub hold-taken : (moments : Moments) (cluster : Cluster) (by from : Member) (until : Ticks) (run sequence : ℕ)
    → 0 < sequence
    → (let r : Request = record { by = by.id.number; from = from.id.number; incarnation = run; sequence = sequence } in
    IsUnasked moments.taken cluster.facts.flight r × IsGiven moments.runs cluster.agents r)
    → AsksOnce moments cluster
    → AsksOnce (moments_after moments (kinds.Watchdog (watchdogs.HoldTaken by until from run sequence)))
    (cluster_after cluster (kinds.Watchdog (watchdogs.HoldTaken by until from run sequence)))
hold-taken moments cluster by from until run zero counted new old = absurd (omega (arith, counted))
hold-taken moments cluster by from until run (suc before) counted new old = record {
  runs = old.runs;
  agents = λ m agent is. let was = old.agents m agent is in record {
    run_is = was.run_is;
    ends = was.ends;
    counted = was.counted;
    stays = λ waited at staying. counted-more moments.taken (taking r moments.clock) m
        (moments.runs m) waited.sequence agent.knows.failsafe (was.stays waited at staying);
  };
  asks = record {
    once = old.asks.once;
    fresh = λ i c s moment is rc taken_is. elim taken_is [
      | inl same ↦ new.0.flying i c is
          (subst (λ (x : Request). request_of c.message ≡ Some x)
          (sym (same-request r s moments.clock moment same).0) rc)
      | inr was ↦ old.asks.fresh i c s moment is rc was
    ];
    unique = λ s a b first second. elim first [
      | inl same ↦ elim second [
        | inl also ↦ sym (same-request r s moments.clock a same).1 ∙ (same-request r s moments.clock b also).1
        | inr was ↦
            absurd (new.0.held b
            (subst (λ (x : Request). IsTaken moments.taken (taking x b))
            (sym (same-request r s moments.clock a same).0) was))
      ]
      | inr was ↦ elim second [
        | inl same ↦
            absurd (new.0.held a
            (subst (λ (x : Request). IsTaken moments.taken (taking x a))
            (sym (same-request r s moments.clock b same).0) was))
        | inr also ↦ old.asks.unique s a b was also
      ]
    ];
    yes = λ i c s is yc. inr (old.asks.yes i c s is yc);
    asked = old.asks.asked;
    held = λ s moment is. elim is [
      | inl same ↦ subst (IsGiven moments.runs cluster.agents) (same-request r s moments.clock moment same).0 new.1
      | inr was ↦ old.asks.held s moment was
    ];
  };
}
  where
    r : Request
    r = record { by = by.id.number; from = from.id.number; incarnation = run; sequence = suc before }

-- ---- messages
-- what is in flight behind the sending of a message
flies-then : (cluster : Cluster) (number : ℕ) (message : Message) (i : ℕ) (c : InFlightFacts)
    → in_flight (cluster_after cluster (kinds.Message (messages.Sent number message))).facts.flight i ≡ Some c
    → ((i ≢ number) × (in_flight cluster.facts.flight i ≡ Some c))
    ⊎ ((i ≡ number) × (launched cluster.facts.clock cluster.facts.keys message ≡ c))
flies-then cluster number message i c at =
    let one : InFlightFacts = launched cluster.facts.clock cluster.facts.keys message in
    sent-then cluster.facts.flight number one i c (sym (in-with cluster.facts.flight number one i) ∙ at)

-- a request is sent that nobody has asked before
pub request-sent : (moments : Moments) (cluster : Cluster) (number : ℕ) (message : Message) (r : Request)
    → request_of message ≡ Some r → yes_of message ≡ None → IsUnasked moments.taken cluster.facts.flight r
    → IsGiven moments.runs cluster.agents r
    → AsksOnce moments cluster
    → AsksOnce (moments_after moments (kinds.Message (messages.Sent number message)))
    (cluster_after cluster (kinds.Message (messages.Sent number message)))
request-sent moments cluster number message r is none new given old = record {
  runs = old.runs;
  agents = old.agents;
  asks = record {
    once = λ i j c d s at there rc rd. elim (flies-then cluster number message i c at) [
      | inl first ↦ elim (flies-then cluster number message j d there) [
        | inl second ↦ old.asks.once i j c d s first.1 second.1 rc rd
        | inr here ↦ absurd (new.flying i c first.1 (rc ∙ ap Some (is-new d s here.1 rd)))
      ]
      | inr here ↦ elim (flies-then cluster number message j d there) [
        | inl second ↦ absurd (new.flying j d second.1 (rd ∙ ap Some (is-new c s here.1 rc)))
        | inr also ↦ here.0 ∙ sym also.0
      ]
    ];
    fresh = λ i c s moment at rc taken_is. elim (flies-then cluster number message i c at) [
      | inl first ↦ old.asks.fresh i c s moment first.1 rc taken_is
      | inr here ↦ new.held moment
          (subst (λ (x : Request). IsTaken moments.taken (taking x moment)) (is-new c s here.1 rc) taken_is)
    ];
    unique = old.asks.unique;
    yes = λ i c s at yc. elim (flies-then cluster number message i c at) [
      | inl first ↦ old.asks.yes i c s first.1 yc
      | inr here ↦ absurd (none-some s (sym none ∙ ap (λ (x : InFlightFacts). yes_of x.message) here.1 ∙ yc))
    ];
    asked = λ i c s at rc. elim (flies-then cluster number message i c at) [
      | inl first ↦ old.asks.asked i c s first.1 rc
      | inr here ↦ subst (IsGiven moments.runs cluster.agents) (sym (is-new c s here.1 rc)) given
    ];
    held = old.asks.held;
  };
}
  where
    one : InFlightFacts
    one = launched cluster.facts.clock cluster.facts.keys message

    is-new : (c : InFlightFacts) (s : Request) → one ≡ c → request_of c.message ≡ Some s → s ≡ r
    is-new c s same rc = some-is s r (sym rc ∙ ap (λ (x : InFlightFacts). request_of x.message) (sym same) ∙ is)

-- a request is acknowledged that is held for from this moment on
pub yes-sent : (moments : Moments) (cluster : Cluster) (number : ℕ) (message : Message) (r : Request)
    → yes_of message ≡ Some r → request_of message ≡ None → IsTaken moments.taken (taking r cluster.facts.clock)
    → AsksOnce moments cluster
    → AsksOnce (moments_after moments (kinds.Message (messages.Sent number message)))
    (cluster_after cluster (kinds.Message (messages.Sent number message)))
yes-sent moments cluster number message r is none taken_is old = record {
  runs = old.runs;
  agents = old.agents;
  asks = record {
    once = λ i j c d s at there rc rd. elim (flies-then cluster number message i c at) [
      | inl first ↦ elim (flies-then cluster number message j d there) [
        | inl second ↦ old.asks.once i j c d s first.1 second.1 rc rd
        | inr here ↦ absurd (asks-not d s here.1 rd)
      ]
      | inr here ↦ absurd (asks-not c s here.1 rc)
    ];
    fresh = λ i c s moment at rc held. elim (flies-then cluster number message i c at) [
      | inl first ↦ old.asks.fresh i c s moment first.1 rc held
      | inr here ↦ absurd (asks-not c s here.1 rc)
    ];
    unique = old.asks.unique;
    yes = λ i c s at yc. elim (flies-then cluster number message i c at) [
      | inl first ↦ old.asks.yes i c s first.1 yc
      | inr here ↦ subst (λ (n : ℕ). IsTaken moments.taken (taking s n)) (ap (λ (x : InFlightFacts). x.sent.0) here.1)
          (subst (λ (x : Request). IsTaken moments.taken (taking x cluster.facts.clock))
          (some-is r s (sym is ∙ ap (λ (x : InFlightFacts). yes_of x.message) here.1 ∙ yc)) taken_is)
    ];
    asked = λ i c s at rc. elim (flies-then cluster number message i c at) [
      | inl first ↦ old.asks.asked i c s first.1 rc
      | inr here ↦ absurd (asks-not c s here.1 rc)
    ];
    held = old.asks.held;
  };
}
  where
    one : InFlightFacts
    one = launched cluster.facts.clock cluster.facts.keys message

    asks-not : (c : InFlightFacts) (s : Request) → one ≡ c → request_of c.message ≡ Some s → ⊥
    asks-not c s same rc = none-some s (sym none ∙ ap (λ (x : InFlightFacts). request_of x.message) same ∙ rc)

-- ---- the event with which an input begins
module _ (moments : Moments) (cluster : Cluster) (m : ℕ) (agent : AgentFacts) (after : Outcome)
    (here : slice_get cluster.agents m ≡ Some (Some agent)) (same : after.knows.incarnation ≡ agent.knows.incarnation)
    (later : agent.knows.sequence ≤ after.knows.sequence) where
  abbrev Become : List (Option AgentFacts)
  Become = with_changed cluster.agents m (agent_after (Some after))

  -- the agents behind it
  becomes : (n : ℕ) (x : AgentFacts) → slice_get Become n ≡ Some (Some x)
      → (slice_get cluster.agents n ≡ Some (Some x))
      ⊎ ((n ≡ m) × (record { role = after.role; knows = after.knows } ≡ x))
  becomes n x is = elim (changed-at cluster.agents m n (agent_after (Some after)) (Some x) is) [
    | inl other ↦ inl other.1
    | inr here ↦ inr (here.0, some-is _ x here.1.1.1)
  ]

  pub given-opened : (r : Request) → IsGiven moments.runs cluster.agents r → IsGiven moments.runs Become r
  given-opened r old = record {
    counted = old.counted;
    run = old.run;
    given = λ x is run. elim (becomes r.from x is) [
      | inl was ↦ old.given x was run
      | inr now ↦
          let b : r.sequence ≤ agent.knows.sequence =
          old.given agent (subst (λ (n : ℕ). slice_get cluster.agents n ≡ Some (Some agent)) (sym now.0) here)
          (run ∙ ap (λ (y : AgentFacts). y.knows.incarnation) (sym now.1) ∙ same) in
          let c : after.knows.sequence ≡ x.knows.sequence = ap (λ (y : AgentFacts). y.knows.sequence) now.1 in
          omega (arith, b, c, later)
    ];
  }

  asks-opened : (flight : Flight)
      → ((i : ℕ) (c : InFlightFacts) → in_flight flight i ≡ Some c → in_flight cluster.facts.flight i ≡ Some c)
      → AskOnce moments.taken moments.runs cluster.facts.flight cluster.agents
      → AskOnce moments.taken moments.runs flight Become
  asks-opened flight sub old = record {
    once = λ i j c d r is at rc rd. old.once i j c d r (sub i c is) (sub j d at) rc rd;
    fresh = λ i c r moment is rc taken_is. old.fresh i c r moment (sub i c is) rc taken_is;
    unique = old.unique;
    yes = λ i c r is yc. old.yes i c r (sub i c is) yc;
    asked = λ i c r is rc. given-opened r (old.asked i c r (sub i c is) rc);
    held = λ r moment is. given-opened r (old.held r moment is);
  }

  agents-opened : KnowsAsked moments.taken m (moments.runs m) (record { role = after.role; knows = after.knows })
      → KnowAsked moments.taken moments.runs cluster.agents → KnowAsked moments.taken moments.runs Become
  agents-opened new old n x is = elim (becomes n x is) [
    | inl was ↦ old n x was
    | inr now ↦ subst (λ (k : ℕ). KnowsAsked moments.taken k (moments.runs k) x) (sym now.0)
        (subst (KnowsAsked moments.taken m (moments.runs m)) now.1 new)
  ]

  pub opened : (hn : Option ℕ) (kind : EventKind) → IsOpening hn kind → agent_facts_after cluster kind ≡ Become
      → KnowsAsked moments.taken m (moments.runs m) (record { role = after.role; knows = after.knows })
      → Rises 0 cluster.facts.flight
      → AsksOnce moments cluster → AsksOnce (moments_after moments kind) (cluster_after cluster kind)
  opened hn (kinds.Agent (agents.Woken by)) is acts new order old = record {
    runs = old.runs;
    agents = subst (KnowAsked moments.taken moments.runs) (sym acts) (agents-opened new old.agents);
    asks = subst (AskOnce moments.taken moments.runs cluster.facts.flight) (sym acts)
        (asks-opened cluster.facts.flight (λ i c at. at) old.asks);
  }
  opened hn (kinds.Agent (agents.Operated by action)) is acts new order old = record {
    runs = old.runs;
    agents = subst (KnowAsked moments.taken moments.runs) (sym acts) (agents-opened new old.agents);
    asks = subst (AskOnce moments.taken moments.runs cluster.facts.flight) (sym acts)
        (asks-opened cluster.facts.flight (λ i c at. at) old.asks);
  }
  opened hn (kinds.Message (messages.Delivered number)) is acts new order old = record {
    runs = old.runs;
    agents = subst (KnowAsked moments.taken moments.runs) (sym acts) (agents-opened new old.agents);
    asks = subst (AskOnce moments.taken moments.runs _) (sym acts)
        (asks-opened _
        (λ i c at.
        gone-sub cluster.facts.flight number order i c (sym (in-without 0 cluster.facts.flight number i order) ∙ at))
        old.asks);
  }
  opened hn _ is acts new order old = absurd is

-- a message that comes to no agent
pub unheard-one : (moments : Moments) (cluster : Cluster) (hn : Option ℕ) (kind : EventKind)
    → IsOpening hn kind → agent_facts_after cluster kind ≡ cluster.agents → Rises 0 cluster.facts.flight
    → AsksOnce moments cluster → AsksOnce (moments_after moments kind) (cluster_after cluster kind)
unheard-one moments cluster hn (kinds.Agent (agents.Woken by)) is acts order old = record {
  runs = old.runs;
  agents = subst (KnowAsked moments.taken moments.runs) (sym acts) old.agents;
  asks = subst (AskOnce moments.taken moments.runs cluster.facts.flight) (sym acts) old.asks;
}
unheard-one moments cluster hn (kinds.Agent (agents.Operated by action)) is acts order old = record {
  runs = old.runs;
  agents = subst (KnowAsked moments.taken moments.runs) (sym acts) old.agents;
  asks = subst (AskOnce moments.taken moments.runs cluster.facts.flight) (sym acts) old.asks;
}
unheard-one moments cluster hn (kinds.Message (messages.Delivered number)) is acts order old = record {
  runs = old.runs;
  agents = subst (KnowAsked moments.taken moments.runs) (sym acts) old.agents;
  asks = subst (AskOnce moments.taken moments.runs _) (sym acts)
      (once-sub moments.taken moments.runs cluster.facts.flight _ cluster.agents cluster.agents
      (λ i c at. inl
      (gone-sub cluster.facts.flight number order i c (sym (in-without 0 cluster.facts.flight number i order) ∙ at)))
      (λ k x at. at) old.asks);
}
unheard-one moments cluster hn _ is acts order old = absurd is

-- ---- what an agent counts
-- it begins to wait for some whom it asks
pub counts-none : (taken : List Taking) (m run sequence : ℕ) (members : MemberSet) (now : Ticks)
    → members.bits == 0 ≡ false → IsCounted taken m run sequence (ask_of members now)
counts-none taken m run sequence members now some = record {
  some = some;
  none = λ _. refl;
  each = λ p e is _. absurd (none-some e is);
  one = λ e is. absurd (none-some e is);
}

earlier-first : (before sent : Ticks) → (earlier (Some before) sent).0 ≤ before.0
earlier-first before sent = by (nat_lt before.0 sent.0) refl
  where
    by : (test : Bool) → nat_lt before.0 sent.0 ≡ test → (if test then before else sent).0 ≤ before.0
    by true is = omega arith
    by false is = grind (arith, nat_tests)

earlier-second : (before : Option Ticks) (sent : Ticks) → (earlier before sent).0 ≤ sent.0
earlier-second None sent = omega arith
earlier-second (Some before) sent = by (nat_lt before.0 sent.0) refl
  where
    by : (test : Bool) → nat_lt before.0 sent.0 ≡ test → (if test then before else sent).0 ≤ sent.0
    by true is = grind (arith, nat_tests)
    by false is = omega arith

earlier-either : (before sent : Ticks) → (earlier (Some before) sent ≡ before) ⊎ (earlier (Some before) sent ≡ sent)
earlier-either before sent = by (nat_lt before.0 sent.0)
  where
    by : (test : Bool) → ((if test then before else sent) ≡ before) ⊎ ((if test then before else sent) ≡ sent)
    by true = inl refl
    by false = inr refl

same-number : (m n : ℕ) → (m == n) ≡ true → m ≡ n
same-number m n e = grind (arith, nat_tests)

or-either : (a b : Bool) → (a || b) ≡ true → (a ≡ true) ⊎ (b ≡ true)
or-either true b e = inl refl
or-either false b e = inr e

-- an acknowledgement that comes of a member that holds is counted
pub counts-one : (taken : List Taking) (m run sequence : ℕ) (ask : Ask) (from : MemberId) (sent : Ticks)
    → IsTaken taken (record { by = from.number; from = m; incarnation = run; sequence = sequence; moment = sent.0 })
    → IsCounted taken m run sequence ask → IsCounted taken m run sequence (ask_heard ask from true sent)
counts-one taken m run sequence ask from sent holds old = by (is_awaited ask from) refl
  where
    Counted : Ask → Type 0
    Counted x = IsCounted taken m run sequence x

    asked-was : is_awaited ask from ≡ true → has ask.members from.number ≡ true
    asked-was awaited = and-first (has ask.members from.number) (not (has ask.acknowledged from.number)) awaited

    each-by : (earliest : Option Ticks) → ask.earliest ≡ earliest → (p : ℕ) (e : Ticks)
        → earlier earliest sent ≡ e → (has ask.acknowledged p ≡ true) ⊎ ((from.number == p) ≡ true)
        → (t : ℕ)
        × (IsTaken taken (record { by = p; from = m; incarnation = run; sequence = sequence; moment = t }) × (e.0 ≤ t))
    each-by earliest is p e same (inr here) = (
      sent.0,
      (
        subst (λ (n : ℕ).
            IsTaken taken (record { by = n; from = m; incarnation = run; sequence = sequence; moment = sent.0 }))
            (same-number from.number p here) holds,
        subst (λ (x : Ticks). x.0 ≤ sent.0) same (earlier-second earliest sent),
      ),
    )
    each-by None is p e same (inl was) =
        absurd (no-member p (subst (λ (n : ℕ). has (record { bits = n }) p ≡ true) (old.none is) was))
      where
        no-member : (p : ℕ) → has (record { bits = 0 }) p ≡ true → ⊥
        no-member p there = no-way (sym (has-nobody p) ∙ there)
          where
            no-way : false ≡ true → ⊥
            no-way e = cc
    each-by (Some before) is p e same (inl was) =
        let one = old.each p before is was in
        let a : (earlier (Some before) sent).0 ≤ before.0 = earlier-first before sent in
        let b : before.0 ≤ one.0 = one.1.1 in
        let c : (earlier (Some before) sent).0 ≡ e.0 = ap (λ (x : Ticks). x.0) same in
        (one.0, (one.1.0, omega (arith, a, b, c)))

    from-one : (p : ℕ) (e : Ticks) → has ask.members p ≡ true
        → IsTaken taken (record { by = p; from = m; incarnation = run; sequence = sequence; moment = e.0 })
        → (q : ℕ)
        × ((has ask.members q ≡ true) ×
        IsTaken taken (record { by = q; from = m; incarnation = run; sequence = sequence; moment = e.0 }))
    from-one p e among taken_is = (p, (among, taken_is))

    one-by : is_awaited ask from ≡ true → (earliest : Option Ticks) → ask.earliest ≡ earliest → (e : Ticks)
        → earlier earliest sent ≡ e
        → (p : ℕ)
        × ((has ask.members p ≡ true) ×
        IsTaken taken (record { by = p; from = m; incarnation = run; sequence = sequence; moment = e.0 }))
    one-by awaited None is e same = from-one from.number e (asked-was awaited)
        (subst (λ (x : Ticks).
        IsTaken taken (record { by = from.number; from = m; incarnation = run; sequence = sequence; moment = x.0 }))
        same holds)
    one-by awaited (Some before) is e same = elim (earlier-either before sent) [
      | inl first ↦ old.one e (is ∙ ap Some (sym first ∙ same))
      | inr second ↦ from-one from.number e (asked-was awaited)
          (subst (λ (x : Ticks).
          IsTaken taken (record { by = from.number; from = m; incarnation = run; sequence = sequence; moment = x.0 }))
          (sym second ∙ same) holds)
    ]

    by : (test : Bool) → is_awaited ask from ≡ test → Counted (if test then with_acknowledgement ask from sent else ask)
    by false is = old
    by true awaited = record {
      some = old.some;
      none = λ e. absurd (none-some (earlier ask.earliest sent) (sym e));
      each = λ p e is hs. each-by ask.earliest refl p e (some-is (earlier ask.earliest sent) e is)
          (or-either (has ask.acknowledged p) (from.number == p) (sym (has-with ask.acknowledged from p) ∙ hs));
      one = λ e is. one-by awaited ask.earliest refl e (some-is (earlier ask.earliest sent) e is);
    }

-- ---- a feed
all-is : (ask : Ask) (moment : Ticks) → moment_of_all ask ≡ Some moment
    → (is_within ask.members ask.acknowledged ≡ true) × (earliest_or ask.made ask.earliest ≡ moment)
all-is ask moment e = by (is_within ask.members ask.acknowledged) refl e
  where
    by : (test : Bool) → is_within ask.members ask.acknowledged ≡ test
        → (if test then Some (earliest_or ask.made ask.earliest) else None) ≡ Some moment
        → (is_within ask.members ask.acknowledged ≡ true) × (earliest_or ask.made ask.earliest ≡ moment)
    by true is g = (is, some-is (earliest_or ask.made ask.earliest) moment g)
    by false is g = absurd (none-some moment g)

-- a feed on all acknowledgements is measured from the earliest hold
pub fed-earliest : (moments : Moments) (m sequence : ℕ) (ask : Ask) (since : Ticks)
    → ((r : Request) (a b : ℕ) → IsTaken moments.taken (taking r a) → IsTaken moments.taken (taking r b) → a ≡ b)
    → IsCounted moments.taken m (moments.runs m) sequence ask
    → moment_of_all ask ≡ Some since → IsEarliest moments m (bases.Acknowledgements ask.members sequence) since.0
fed-earliest moments m sequence ask since unique counted all = by ask.earliest refl
  where
    parts : (is_within ask.members ask.acknowledged ≡ true) × (earliest_or ask.made ask.earliest ≡ since)
    parts = all-is ask since all

    none-within : (members : MemberSet) (bits : ℕ) → bits ≡ 0
        → is_within members (record { bits = bits }) ≡ true → members.bits == 0 ≡ false → ⊥
    none-within members bits zero_is within some =
        let e : bit_and members.bits 0 == members.bits ≡ true =
        subst (λ (n : ℕ). bit_and members.bits n == members.bits ≡ true) zero_is within in
        let f : 0 == members.bits ≡ true = subst (λ (n : ℕ). n == members.bits ≡ true) (and_zero_r members.bits) e in
        both members.bits f some
      where
        both : (n : ℕ) → 0 == n ≡ true → n == 0 ≡ false → ⊥
        both n a b = grind (arith, nat_tests)

    by : (earliest : Option Ticks) → ask.earliest ≡ earliest
        → IsEarliest moments m (bases.Acknowledgements ask.members sequence) since.0
    by None is = absurd (none-within ask.members ask.acknowledged.bits (counted.none is) parts.0 counted.some)
    by (Some e) is =
        let same : e.0 ≡ since.0 = ap (λ (x : Ticks). x.0) (ap (earliest_or ask.made) (sym is) ∙ parts.1) in
        record {
          none_earlier = λ moment fed.
              let one = counted.each fed.0 e is (within-has ask.members ask.acknowledged parts.0 fed.0 fed.1) in
              let at : one.0 ≡ moment =
              unique (record { by = fed.0; from = m; incarnation = moments.runs m; sequence = sequence })
              one.0 moment one.1.0 fed.2 in
              let low : e.0 ≤ one.0 = one.1.1 in
              omega (arith, same, at, low);
          one = let first = counted.one e is in inr (
            first.0,
            first.1.0,
            subst (λ (n : ℕ). IsTaken moments.taken
                (record { by = first.0; from = m; incarnation = moments.runs m; sequence = sequence; moment = n }))
                same first.1.1,
          );
        }

-- with nobody to ask it is measured from the clock
pub fed-alone : (moments : Moments) (m : ℕ) (members : MemberSet) (sequence : ℕ) → members.bits ≡ 0
    → IsEarliest moments m (bases.Acknowledgements members sequence) moments.clock
fed-alone moments m members sequence nobody = record {
  none_earlier =
      λ moment fed. absurd (nobody-is fed.0 (subst (λ (n : ℕ). has (record { bits = n }) fed.0 ≡ true) nobody fed.1));
  one = inl refl;
}
  where
    nobody-is : (p : ℕ) → has (record { bits = 0 }) p ≡ true → ⊥
    nobody-is p there = no-way (sym (has-nobody p) ∙ there)
      where
        no-way : false ≡ true → ⊥
        no-way e = cc
