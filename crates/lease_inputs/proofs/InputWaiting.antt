-- What agents wait for, behind an input of one of them.
use Rattle.std.proofs.Common.{◌≡◌, ◌≢◌, ◌⊎◌, ◌==◌, ◌≤◌, ◌<◌, ℕ, Bool, true, false, cond, List, Option, Some, None, All, Contains, slice_get, option_map, refl, sym, subst, ap, ◌∙◌, arith, inl, inr}
use Rattle.std.specs.Option.{ForSome}
use Rattle.std.proofs.lemmas.List.Elements.{All-contains}
use Rattle.pat_base.specs.declared.ticks.Ticks.{Ticks}
use Rattle.pat_base.specs.Changes.{with_changed}
use Rattle.leader_key.specs.Watchdog.{IsLeaseSpan}
use Rattle.event_book.specs.declared.agent_process.AgentProcess.{AgentProcess}
use Rattle.event_book.specs.declared.message.Body.{Body}
use Rattle.event_book.specs.declared.message.Body.TheVariants as bodies
use Rattle.agent_model.specs.declared.knowledge.Knowledge.{Knowledge}
use Rattle.agent_model.specs.declared.knowledge.PendingQuestion.{PendingQuestion}
use Rattle.agent_model.specs.declared.output.Output.{Output}
use Rattle.agent_model.specs.declared.output.Output.TheVariants as outputs
use Rattle.agent_model.specs.declared.output.Outgoing.TheVariants as outgoing
use Rattle.agent_model.specs.declared.output.Target.TheVariants as targets
use Rattle.agent_model.specs.Agents.{AgentFacts, Outcome, EndsAlone}
use Rattle.agent_lease_law.specs.Lawful.{query_in, IsSentBy, AsksStore, AsksMember, SaysYes}
use Rattle.agent_sending.specs.Modes.{KeepsMode}
use Rattle.cluster_model.specs.Cluster.{agent_after}
use Rattle.lease_model.specs.Leases.{Query, Read, Question, FailsafeRequest, Acknowledgement, Flying, Requested, FailsafeRequested, Acknowledged}
use Rattle.lease_model.specs.Past.{lease_span, query_of}
use Rattle.lease_model.proofs.Tools.{eq-from, ne-from, none-some, some-is}
use Rattle.lease_book.specs.Waiting.{IsLastAsked, IsLastRun}
use Rattle.lease_parts.specs.Bridged.{KnowsItself, KnowThemselves, SeesMode}
use Rattle.lease_parts.specs.Machines.{run_in}
use Rattle.agent_questions.specs.Questions.{span_asked, SendsBetween, AsksFor, WaitsOn, Same, Nothing, New, AsksAnew}
use Rattle.lease_parts.specs.Waiting.{IsAwaited, IsAgentSound, AreAgentsSound}
use Rattle.cluster_model.proofs.Places.{get-changed}
use Rattle.agent_model.specs.Pausing.{is_paused}

requested-is : (a b : Question) → ◌≡◌ {A = Flying} (Requested a) (Requested b) → a ≡ b
requested-is a b e = cc

span-is : (body : Body) (query : Query) → query_in body ≡ Some query → lease_span query ≡ span_asked body
span-is bodies.Read query e = sym (ap lease_span (some-is Read query e))
span-is (bodies.Request txn) query e = sym (ap lease_span (some-is (query_of txn) query e))
span-is _ query e = absurd (none-way query e)
  where
    none-way : (query : Query) → ◌≡◌ {A = Option Query} None (Some query) → ⊥
    none-way query e = cc

-- a question that the input asks
pub record IsNew (m incarnation clock : ℕ) (outs : List Output) (q : Question) : Type 0 where
  pub sequence : ℕ
  pub body : Body
  pub query : Query
  pub among : Contains outs (outputs.Message (outgoing.Send targets.Store sequence body))
  pub query_is : query_in body ≡ Some query
  pub is : q ≡ record { member = m; incarnation = incarnation; sequence = sequence; sent = clock; query = query }

pub new-of : (m incarnation clock : ℕ) (outs : List Output) (q : Question)
    → IsSentBy m incarnation clock outs (Requested q) → IsNew m incarnation clock outs q
new-of m incarnation clock outs q (AsksStore sequence body query among query_is is) = record {
  sequence = sequence;
  body = body;
  query = query;
  among = among;
  query_is = query_is;
  is = requested-is q _ is;
}
new-of m incarnation clock outs q (AsksMember to sequence ttl among is) = absurd (not-asked _ is)
  where
    not-asked : (request : FailsafeRequest) → ◌≡◌ {A = Flying} (Requested q) (FailsafeRequested request) → ⊥
    not-asked request e = cc
new-of m incarnation clock outs q (SaysYes to run sequence among is) = absurd (not-said _ is)
  where
    not-said : (said : Acknowledgement) → ◌≡◌ {A = Flying} (Requested q) (Acknowledged said) → ⊥
    not-said said e = cc

-- ---- the agent whose input it is
module _ (m clock : ℕ) (now : Ticks) (known knows : Knowledge) (outs : List Output)
    (asked after : ℕ → Option Question) where
  abbrev Questions : Type 0
  Questions = (i : ℕ) (q : Question) → after i ≡ Some q
      → (asked i ≡ Some q) ⊎ IsSentBy m known.incarnation clock outs (Requested q)

  pub new-number : (q : Question) (new : IsNew m known.incarnation clock outs q)
      → All (SendsBetween known.sequence knows.sequence) outs
      → (known.sequence < q.sequence) × (q.sequence ≤ knows.sequence)
  new-number q new sends =
      let between = All-contains (SendsBetween known.sequence knows.sequence) outs
      (outputs.Message (outgoing.Send targets.Store new.sequence new.body)) sends new.among in
      let is : q.sequence ≡ new.sequence = ap (λ (x : Question). x.sequence) new.is in
      (omega (arith, is, between.0), omega (arith, is, between.1))

  last-after : Questions → AsksAnew now known knows outs → IsLastAsked asked m known.incarnation known.sequence
      → IsLastAsked after m knows.incarnation knows.sequence
  last-after questions anew last i q e member incarnation = elim (questions i q e) [
    | inl old ↦ let low = last i q old member (incarnation ∙ anew.incarnation) in omega (arith, low, anew.last)
    | inr sent ↦ (new-number q (new-of m known.incarnation clock outs q sent) anew.sends).1
  ]

  -- it waits on
  same-after : Questions → AsksAnew now known knows outs → (waited : PendingQuestion)
      → IsAwaited asked m known.incarnation known.sequence waited
      → IsAwaited after m knows.incarnation knows.sequence waited
  same-after questions anew waited old = record {
    span = old.span;
    counted = omega (arith, old.counted, anew.last);
    as_asked = λ leasing i q e member incarnation sequence. elim (questions i q e) [
      | inl was ↦ old.as_asked leasing i q was member (incarnation ∙ anew.incarnation) sequence
      | inr sent ↦ let high = (new-number q (new-of m known.incarnation clock outs q sent) anew.sends).0 in
          absurd (omega (arith, high, sequence, old.counted))
    ];
  }

  -- it waits for what it asks
  new-after : Questions → AsksAnew now known knows outs → now.0 ≡ clock
      → IsLastAsked asked m known.incarnation known.sequence → (waited : PendingQuestion)
      → known.sequence < waited.sequence → waited.sequence ≤ knows.sequence → waited.sent ≡ now
      → IsLeaseSpan waited.ttl.0
      → All (AsksFor waited) outs → IsAwaited after m knows.incarnation knows.sequence waited
  new-after questions anew at last waited later counts sent-at span asks = record {
    span = span;
    counted = counts;
    as_asked = λ leasing i q e member incarnation sequence. elim (questions i q e) [
      | inl was ↦
          let low = last i q was member (incarnation ∙ anew.incarnation) in absurd (omega (arith, low, sequence, later))
      | inr sent ↦
          let new = new-of m known.incarnation clock outs q sent in
          let for-it =
          All-contains (AsksFor waited) outs
          (outputs.Message (outgoing.Send targets.Store new.sequence new.body)) asks new.among in (
            ap (λ (x : Question). x.sent) new.is ∙ sym at ∙ sym (ap (λ (t : Ticks). t.0) sent-at),
            ap (λ (x : Question). lease_span x.query) new.is ∙ span-is new.body new.query new.query_is
                ∙ (for-it (sym (ap (λ (x : Question). x.sequence) new.is) ∙ sequence)).lease leasing,
          )
    ];
  }

  some-waited : {was is : Option PendingQuestion} → was ≡ is → (waited : PendingQuestion) → is ≡ Some waited
      → was ≡ Some waited
  some-waited e waited is = e ∙ is

  waits-by : Questions → AsksAnew now known knows outs → now.0 ≡ clock
      → IsLastAsked asked m known.incarnation known.sequence
      → ForSome known.waited (IsAwaited asked m known.incarnation known.sequence) → WaitsOn now known knows outs
      → (waited : PendingQuestion) → knows.waited ≡ Some waited
      → IsAwaited after m knows.incarnation knows.sequence waited
  waits-by questions anew at last old (Same is) waited e = same-after questions anew waited (old waited (sym is ∙ e))
  waits-by questions anew at last old (Nothing is) waited e = absurd (none-way waited (sym is ∙ e))
    where
      none-way : (waited : PendingQuestion) → ◌≡◌ {A = Option PendingQuestion} None (Some waited) → ⊥
      none-way waited e = cc
  waits-by questions anew at last old (New one is later counts sent span asks) waited e =
      subst (λ (w : PendingQuestion). IsAwaited after m knows.incarnation knows.sequence w)
      (some-is one waited (sym is ∙ e)) (new-after questions anew at last one later counts sent span asks)

-- ---- all agents
other-after : (m incarnation clock n : ℕ) (outs : List Output) (asked after : ℕ → Option Question) (agent : AgentFacts)
    → n ≢ m
    → ((i : ℕ) (q : Question) → after i ≡ Some q → (asked i ≡ Some q) ⊎ IsSentBy m incarnation clock outs (Requested q))
    → IsAgentSound asked n agent → IsAgentSound after n agent
other-after m incarnation clock n outs asked after agent other questions old =
    let mine : (q : Question) → IsSentBy m incarnation clock outs (Requested q) → q.member ≡ n → ⊥ =
    λ q sent member. other (sym member ∙ ap (λ (x : Question). x.member) (new-of m incarnation clock outs q sent).is) in
    record {
      last = λ i q e member in-run.
          elim (questions i q e) [ inl was ↦ old.last i q was member in-run | inr sent ↦ absurd (mine q sent member) ];
      waits = λ waited is. let w = old.waits waited is in record {
        span = w.span;
        counted = w.counted;
        as_asked = λ leasing i q e member in-run sequence. elim (questions i q e) [
          | inl was ↦ w.as_asked leasing i q was member in-run sequence
          | inr sent ↦ absurd (mine q sent member)
        ];
      };
      ends = old.ends;
    }

pub the-after : (found : Option (Option AgentFacts)) (outcome : Outcome) (agent : AgentFacts)
    → option_map (agent_after (Some outcome)) found ≡ Some (Some agent)
    → ◌≡◌ {A = AgentFacts} (record { role = outcome.role; knows = outcome.knows }) agent
the-after None outcome agent e = absurd (none-some (Some agent) e)
the-after (Some found) outcome agent e = some-is (record { role = outcome.role; knows = outcome.knows }) agent
    (some-is (Some (record { role = outcome.role; knows = outcome.knows })) (Some agent) e)

-- by whether it is the one whose input it is
pub agents-after : (m clock : ℕ) (now : Ticks) (agent : AgentFacts) (outcome : Outcome)
    (asked after : ℕ → Option Question) (agents : List (Option AgentFacts)) → slice_get agents m ≡ Some (Some agent)
    → ((i : ℕ) (q : Question) → after i ≡ Some q →
    (asked i ≡ Some q) ⊎ IsSentBy m agent.knows.incarnation clock outcome.outputs (Requested q))
    → AsksAnew now agent.knows outcome.knows outcome.outputs → now.0 ≡ clock
    → EndsAlone outcome.role outcome.knows.waited → AreAgentsSound asked agents
    → AreAgentsSound after (with_changed agents m (agent_after (Some outcome)))
agents-after m clock now agent outcome asked after agents here questions anew at ends old n one is =
    by (n == m) refl (sym (get-changed agents m n (agent_after (Some outcome))) ∙ is)
  where
    by : (same : Bool) → (n == m) ≡ same
        → cond same (option_map (agent_after (Some outcome)) (slice_get agents n)) (slice_get agents n)
        ≡ Some (Some one)
        → IsAgentSound after n one
    by true same e =
        let sound = old m agent here in
        subst (λ (a : AgentFacts). IsAgentSound after n a) (the-after (slice_get agents n) outcome one e)
        (subst (λ (k : ℕ). IsAgentSound after k (record { role = outcome.role; knows = outcome.knows }))
        (sym (eq-from n m same)) (record {
          last = last-after m clock now agent.knows outcome.knows outcome.outputs asked after questions anew sound.last;
          waits = waits-by m clock now agent.knows outcome.knows outcome.outputs asked after questions
              anew at sound.last sound.waits anew.waits;
          ends = ends;
        }))
    by false same e = other-after m agent.knows.incarnation clock n outcome.outputs asked after one
        (ne-from n m same) questions (old n one e)

-- no question is of a run to come
pub runs-after : (m clock : ℕ) (incarnation : ℕ) (outs : List Output) (asked after : ℕ → Option Question)
    (processes : List AgentProcess) → incarnation ≡ run_in processes m
    → ((i : ℕ) (q : Question) → after i ≡ Some q → (asked i ≡ Some q) ⊎ IsSentBy m incarnation clock outs (Requested q))
    → ((n : ℕ) → IsLastRun asked n (run_in processes n)) → (n : ℕ) → IsLastRun after n (run_in processes n)
runs-after m clock incarnation outs asked after processes in-run questions old n i q e member = elim (questions i q e) [
  | inl was ↦ old n i q was member
  | inr sent ↦
      let new = new-of m incarnation clock outs q sent in
      let same : q.incarnation ≡ run_in processes n = ap (λ (x : Question). x.incarnation) new.is ∙ in-run
      ∙ ap (run_in processes) (sym (ap (λ (x : Question). x.member) new.is) ∙ member) in
      omega (arith, same)
]

-- agents know themselves
pub knows-after : (mode : Bool) (m : ℕ) (agent : AgentFacts) (outcome : Outcome) (processes : List AgentProcess)
    (agents : List (Option AgentFacts)) → slice_get agents m ≡ Some (Some agent)
    → outcome.knows.who ≡ agent.knows.who → outcome.knows.incarnation ≡ agent.knows.incarnation
    → KeepsMode mode outcome.knows → SeesMode mode outcome.knows → is_paused outcome.knows ≡ false
    → KnowThemselves mode processes agents
    → KnowThemselves mode processes (with_changed agents m (agent_after (Some outcome)))
knows-after mode m agent outcome processes agents here who incarnation keeps sees unpaused old n one is =
    by (n == m) refl (sym (get-changed agents m n (agent_after (Some outcome))) ∙ is)
  where
    by : (same : Bool) → (n == m) ≡ same
        → cond same (option_map (agent_after (Some outcome)) (slice_get agents n)) (slice_get agents n)
        ≡ Some (Some one)
        → KnowsItself mode n (slice_get processes n) one
    by true same e =
        let was = old m agent here in
        subst (λ (a : AgentFacts). KnowsItself mode n (slice_get processes n) a)
        (the-after (slice_get agents n) outcome one e)
        (subst (λ (k : ℕ).
        KnowsItself mode k (slice_get processes k) (record { role = outcome.role; knows = outcome.knows }))
        (sym (eq-from n m same)) (record {
          found = was.found;
          is = was.is;
          running = was.running;
          incarnation = incarnation ∙ was.incarnation;
          me = ap (λ w. w.me.number) who ∙ was.me;
          keeps = keeps;
          sees = sees;
          unpaused = unpaused;
        }))
    by false same e = old n one e
