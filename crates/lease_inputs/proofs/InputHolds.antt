-- The holds that an input takes: none, but under number 0, or one for
-- the failsafe request that is heard, which it acknowledges.
use Rattle.std.proofs.Common.{◌≡◌, ◌<◌, ◌||◌, ◌+◌, ℕ, zero, suc, Bool, true, false, List, [], ◌∷◌, Option, Some, All, option_map, refl, sym, subst, ap, ◌∙◌, arith, inl, inr}
use Rattle.std.proofs.lemmas.List.Elements.{All-head, All-nil, All-tail, All-weaker}
use Rattle.pat_base.specs.declared.member_id.MemberId.{MemberId}
use Rattle.pat_base.specs.declared.ticks.Ticks.{Ticks}
use Rattle.wal_model.specs.declared.entry.HistoryPoint.{HistoryPoint}
use Rattle.event_book.specs.declared.event.Event.{Event}
use Rattle.event_book.specs.declared.event.EventKind.{EventKind}
use Rattle.event_book.specs.declared.event.EventKind.TheVariants as kinds
use Rattle.event_book.specs.declared.member.Member.{Member}
use Rattle.event_book.specs.declared.message.Body.{Body}
use Rattle.event_book.specs.declared.message.Body.TheVariants as bodies
use Rattle.event_book.specs.Kinds.{AllAre}
use Rattle.store_keys.specs.declared.txn.Txn.TheVariants as txns
use Rattle.store_keys.specs.declared.txn.LeaseTxn.TheVariants as lease_txns
use Rattle.event_book.specs.Premises.{Taking, taken_after, taken_with}
use Rattle.agent_model.specs.declared.heard.Heard.{Heard}
use Rattle.agent_model.specs.declared.heard.Heard.TheVariants as heards
use Rattle.agent_model.specs.declared.knowledge.Knowledge.{Knowledge}
use Rattle.agent_model.specs.declared.output.Output.{Output}
use Rattle.agent_model.specs.declared.output.Output.TheVariants as outputs
use Rattle.agent_model.specs.declared.output.Outgoing.TheVariants as outgoing
use Rattle.agent_model.specs.declared.output.Telling.TheVariants as tellings
use Rattle.agent_model.specs.declared.output.Target.TheVariants as targets
use Rattle.agent_model.specs.Agents.{EndsAlone, Outcome}
use Rattle.agent_model.specs.Outputs.{has_one, with_output}
use Rattle.agent_model.specs.Reconciling.{reconciled}
use Rattle.agent_model.specs.StayingPrimary.{failsafe_asked, span_after}
use Rattle.agent_model.specs.Table.{step}
use Rattle.agent_cases.proofs.FailsafeRows.{failsafe-asked-by}
use Rattle.agent_roles.proofs.GoingOn.{alone-of}
use Rattle.agent_outputs.specs.Orders.{IsOfTable}
use Rattle.agent_sending.specs.Asking.{HearsFailsafe, StandsOn}
use Rattle.agent_lease_law.specs.Lawful.{is_yes, request_heard, request_taken}
use Rattle.agent_sending.proofs.MaySend.{Fronts, IsReleaseOr, IsSilent, before-fronts}
use Rattle.agent_sending.proofs.MaySend.Fronts.{Silent, Released}
use Rattle.cluster_model.specs.declared.heard_message.HeardMessage.{HeardMessage}
use Rattle.cluster_model.specs.Cluster.{cluster_over}
use Rattle.cluster_model.specs.Commands.{kinds_of}
use Rattle.cluster_model.specs.Messages.{output_events}
use Rattle.cluster_model.specs.Orders.{hold_taken}
use Rattle.cluster_model.specs.Parts.{each, events_of}
use Rattle.cluster_model.specs.State.{Cluster}
use Rattle.lease_model.specs.Actions.{taken_by}
use Rattle.lease_model.specs.Leases.{FailsafeRequest, Flying}
use Rattle.lease_model.specs.Past.{Past, past_after, past_over}
use Rattle.lease_law.proofs.Showing.{past-append}
use Rattle.lease_hearing.specs.Hearing.{IsRequestHeard}
use Rattle.lease_inputs.specs.InputEvents.{IsOfInput, RunsAmong}
use Rattle.lease_inputs.proofs.InputEvents.{output-mine}
use Rattle.lease_inputs.proofs.InputKinds.{mine-taken}
use Rattle.lease_inputs.proofs.InputMachines.{IsHeldFor}
use Rattle.lease_inputs.proofs.InputOutputs.{held-later, runs-later}

pub taken-over : (past : Past) (events : List Event)
    → AllAre (λ kind. (clock : ℕ) (taken : List Taking) → taken_after clock taken kind ≡ taken) events
    → (past_over past events).taken ≡ past.taken
taken-over past [] all = refl
taken-over past (event ∷ events) all =
    taken-over (past_after past event.kind) events all.1 ∙ all.0 past.clock past.taken

all-as : (P R : EventKind → Type 0) → ((kind : EventKind) → P kind → R kind) → (events : List Event)
    → AllAre P events → AllAre R events
all-as P R weaker [] all = tt
all-as P R weaker (event ∷ events) all = (weaker event.kind all.0, all-as P R weaker events all.1)

-- what holds of silent outputs and of questions to the key store holds of what precedes an input
pub fronts-hold : (P : Output → Type 0) → ((output : Output) → IsSilent output → P output)
    → ((sequence : ℕ) (body : Body) → P (outputs.Message (outgoing.Send targets.Store sequence body))) → (o b : Outcome)
    → Fronts o b → All P b.outputs
fronts-hold P silent asks o b (Silent all) = All-weaker IsSilent P silent b.outputs all
fronts-hold P silent asks o b (Released revision held alone role ended counted all) =
    All-weaker (IsReleaseOr (o.knows.sequence + 1) revision) P by b.outputs all
  where
    by : (output : Output) → IsReleaseOr (o.knows.sequence + 1) revision output → P output
    by output (inl is) = silent output is
    by output (inr is) =
        subst P (sym is) (asks (o.knows.sequence + 1) (bodies.Request (txns.Lease (lease_txns.Release revision))))

-- ---- the holds of each output
-- no hold is taken by this output
abbrev NoHold : Output → Type 0
NoHold (outputs.Tell (tellings.HoldTaken until from sequence)) = ⊥
NoHold _ = Unit {0}

-- nor is a failsafe request answered
abbrev IsPlain : Output → Type 0
IsPlain (outputs.Tell (tellings.HoldTaken until from sequence)) = ⊥
IsPlain (outputs.Message (outgoing.FailsafeAnswer to run sequence accepted)) = ⊥
IsPlain _ = Unit {0}

module _ (member : Member) (incarnation : ℕ) (message : HeardMessage) where
  -- the holds that were taken, behind an output that is carried out at this moment
  abbrev pub taken_of : ℕ → Output → List Taking → List Taking
  taken_of clock (outputs.Tell (tellings.HoldTaken until from sequence)) taken =
      taken_with clock taken member.id.number from.number message.incarnation sequence
  taken_of clock _ taken = taken

  abbrev pub taken_by_outputs : ℕ → List Output → List Taking → List Taking
  taken_by_outputs clock [] taken = taken
  taken_by_outputs clock (output ∷ more) taken = taken_by_outputs clock more (taken_of clock output taken)

  abbrev Brings : Cluster → Output → List Event
  Brings cluster output = output_events member message cluster output

  abbrev Any : Output → Type 0
  Any output = Unit {0}

  still : (past : Past) (kind : EventKind) → IsOfInput member incarnation message.number Any kind
      → (past_after past kind).clock ≡ past.clock
  still past kinds.Tick is = absurd is
  still past _ is = refl

  still-over : (past : Past) (events : List Event) → AllAre (IsOfInput member incarnation message.number Any) events
      → (past_over past events).clock ≡ past.clock
  still-over past [] all = refl
  still-over past (event ∷ events) all =
      still-over (past_after past event.kind) events all.1 ∙ still past event.kind all.0

  none-taken : (past : Past) (cluster : Cluster) (output : Output) → RunsAmong member incarnation cluster.facts
      → IsOfTable output → NoHold output → (past_over past (Brings cluster output)).taken ≡ past.taken
  none-taken past cluster output runs table none =
      taken-over past (Brings cluster output)
      (all-as (IsOfInput member incarnation message.number NoHold)
      (λ kind. (clock : ℕ) (taken : List Taking) → taken_after clock taken kind ≡ taken)
      (λ kind is clock taken.
      mine-taken member incarnation message.number NoHold (λ until id sequence hold. absurd hold) clock taken kind is)
      (Brings cluster output)
      (output-mine member incarnation message.number NoHold cluster message refl runs output table none))

  one-taken : (past : Past) (cluster : Cluster) (output : Output) → RunsAmong member incarnation cluster.facts
      → IsOfTable output → IsHeldFor cluster.facts.members output
      → (past_over past (Brings cluster output)).taken ≡ taken_of past.clock output past.taken
  one-taken past cluster (outputs.Tell (tellings.HoldTaken until from sequence)) runs table held =
      subst (λ (found : Option Member).
      (past_over past
      (events_of cluster (kinds_of (option_map (hold_taken member until message.incarnation sequence) found)))).taken
      ≡ taken_with past.clock past.taken member.id.number from.number message.incarnation sequence)
      (sym held.1)
      (ap (λ (n : ℕ). taken_with past.clock past.taken member.id.number n message.incarnation sequence)
      (runs.numbered from.number held.0 held.1))
  one-taken past cluster output runs table held = none-taken past cluster output runs table tt

  pub each-taken : (clock : ℕ) (past : Past) (cluster : Cluster) (outs : List Output)
      → RunsAmong member incarnation cluster.facts → All IsOfTable outs
      → All (IsHeldFor cluster.facts.members) outs → past.clock ≡ clock
      → (past_over past (each (output_events member message) cluster outs)).taken
      ≡ taken_by_outputs clock outs past.taken
  each-taken clock past cluster [] runs table held now = refl
  each-taken clock past cluster (output ∷ more) runs table held now =
      let one = All-head IsOfTable output more table in
      let next : Cluster = cluster_over cluster (Brings cluster output) in
      let then : Past = past_over past (Brings cluster output) in
      ap (λ (p : Past). p.taken)
      (past-append past (Brings cluster output) (each (output_events member message) next more))
      ∙ each-taken clock then next more (runs-later member incarnation message cluster output runs one)
      (All-tail IsOfTable output more table)
      (held-later member incarnation message cluster output runs one more
      (All-tail (IsHeldFor cluster.facts.members) output more held))
      (still-over past (Brings cluster output)
      (output-mine member incarnation message.number Any cluster message refl runs output one tt) ∙ now)
      ∙ ap (taken_by_outputs clock more)
      (one-taken past cluster output runs one (All-head (IsHeldFor cluster.facts.members) output more held)
      ∙ ap (λ (n : ℕ). taken_of n output past.taken) now)

  -- ---- of outputs that take none
  taken-push : (clock : ℕ) (outs : List Output) (output : Output) (taken : List Taking)
      → taken_by_outputs clock (with_output output outs) taken
      ≡ taken_of clock output (taken_by_outputs clock outs taken)
  taken-push clock [] output taken = refl
  taken-push clock (one ∷ outs) output taken = taken-push clock outs output (taken_of clock one taken)

  plain-one : (clock : ℕ) (output : Output) (taken : List Taking) → IsPlain output → taken_of clock output taken ≡ taken
  plain-one clock (outputs.Tell (tellings.HoldTaken until from sequence)) taken plain = absurd plain
  plain-one clock _ taken plain = refl

  plain-taken : (clock : ℕ) (outs : List Output) (taken : List Taking) → All IsPlain outs
      → taken_by_outputs clock outs taken ≡ taken
  plain-taken clock [] taken plain = refl
  plain-taken clock (output ∷ more) taken plain =
      ap (taken_by_outputs clock more) (plain-one clock output taken (All-head IsPlain output more plain))
      ∙ plain-taken clock more taken (All-tail IsPlain output more plain)

  -- where no failsafe request is heard, a member takes holds under number 0 alone
  stands-one : (clock : ℕ) (heard : Heard) (knows : Knowledge) (output : Output) (taken : List Taking)
      → ((from : MemberId) (run sequence : ℕ) → HearsFailsafe heard from run sequence → ⊥)
      → StandsOn heard knows output → taken_of clock output taken ≡ taken
  stands-one clock heard knows (outputs.Tell (tellings.HoldTaken until from sequence)) taken none stands = elim stands [
    | inl mine ↦ ap (taken_with clock taken member.id.number from.number message.incarnation) mine.0
    | inr asked ↦ absurd (none from asked.0 sequence asked.1)
  ]
  stands-one clock heard knows _ taken none stands = refl

  unasked-taken : (clock : ℕ) (heard : Heard) (knows : Knowledge) (outs : List Output) (taken : List Taking)
      → ((from : MemberId) (run sequence : ℕ) → HearsFailsafe heard from run sequence → ⊥)
      → All (StandsOn heard knows) outs → taken_by_outputs clock outs taken ≡ taken
  unasked-taken clock heard knows [] taken none stands = refl
  unasked-taken clock heard knows (output ∷ more) taken none stands =
      ap (taken_by_outputs clock more)
      (stands-one clock heard knows output taken none (All-head (StandsOn heard knows) output more stands))
      ∙ unasked-taken clock heard knows more taken none (All-tail (StandsOn heard knows) output more stands)

  -- ---- of those behind a failsafe request
  counted-taken : (clock : ℕ) (from : MemberId) (run sequence ttl sent : ℕ) (taken : List Taking)
      → 0 < sequence → message.incarnation ≡ run
      → taken_with clock taken member.id.number from.number message.incarnation sequence
      ≡ taken_by member.id.number clock
      (Some (record { member = from.number; incarnation = run; sequence = sequence; ttl = ttl; sent = sent })) taken
  counted-taken clock from run zero ttl sent taken counted same = absurd (omega (arith, counted))
  counted-taken clock from run (suc before) ttl sent taken counted same =
      ap (λ (n : ℕ). taken_with clock taken member.id.number from.number n (suc before)) same

  asked-taken : (clock : ℕ) (now : Ticks) (from : MemberId) (run sequence ttl sent : ℕ) (span : Ticks)
      (b : Outcome) (taken : List Taking) → All IsPlain b.outputs → 0 < sequence → message.incarnation ≡ run
      → taken_by_outputs clock (failsafe_asked now from run sequence span b).outputs taken
      ≡ taken_by member.id.number clock
      (request_taken (has_one is_yes (failsafe_asked now from run sequence span b).outputs)
      (Some (record { member = from.number; incarnation = run; sequence = sequence; ttl = ttl; sent = sent })))
      taken
  asked-taken clock now from run sequence ttl sent span b taken plain counted same =
      failsafe-asked-by As now from run sequence span b
      (λ _. let hold : Output = outputs.Tell (tellings.HoldTaken (span_after now span) from sequence) in
      let yes : Output = outputs.Message (outgoing.FailsafeAnswer from run sequence true) in
      taken-push clock (with_output hold b.outputs) yes taken
      ∙ taken-push clock b.outputs hold taken
      ∙ ap (taken_of clock hold) (plain-taken clock b.outputs taken plain)
      ∙ counted-taken clock from run sequence ttl sent taken counted same
      ∙ ap (λ (test : Bool). taken_by member.id.number clock (request_taken test (Some request)) taken)
      (sym (yes-push (with_output hold b.outputs) yes refl)))
      (let refusal : Output = outputs.Message (outgoing.FailsafeAnswer from run sequence false) in
      taken-push clock b.outputs refusal taken
      ∙ plain-taken clock b.outputs taken plain
      ∙ ap (λ (test : Bool). taken_by member.id.number clock (request_taken test (Some request)) taken)
      (sym (no-push b.outputs refusal plain refl)))
    where
      request : FailsafeRequest
      request = record { member = from.number; incarnation = run; sequence = sequence; ttl = ttl; sent = sent }

      As : Outcome → Type 0
      As x = taken_by_outputs clock x.outputs taken
          ≡ taken_by member.id.number clock (request_taken (has_one is_yes x.outputs) (Some request)) taken

      or-true : (b c : Bool) → c ≡ true → (b || c) ≡ true
      or-true true c e = refl
      or-true false c e = e

      or-false : (b c : Bool) → b ≡ false → c ≡ false → (b || c) ≡ false
      or-false b c e f = ap (λ (x : Bool). x || c) e ∙ f

      yes-push : (outs : List Output) (output : Output) → is_yes output ≡ true
          → has_one is_yes (with_output output outs) ≡ true
      yes-push [] output is = ap (λ (x : Bool). x || false) is
      yes-push (one ∷ outs) output is =
          or-true (is_yes one) (has_one is_yes (with_output output outs)) (yes-push outs output is)

      plain-no : (output : Output) → IsPlain output → is_yes output ≡ false
      plain-no (outputs.Message (outgoing.FailsafeAnswer to run sequence accepted)) plain = absurd plain
      plain-no _ plain = refl

      no-push : (outs : List Output) (output : Output) → All IsPlain outs → is_yes output ≡ false
          → has_one is_yes (with_output output outs) ≡ false
      no-push [] output plain is = ap (λ (x : Bool). x || false) is
      no-push (one ∷ outs) output plain is =
          or-false (is_yes one) (has_one is_yes (with_output output outs))
          (plain-no one (All-head IsPlain one outs plain)) (no-push outs output (All-tail IsPlain one outs plain) is)

  -- what precedes an input takes none
  silent-plain : (output : Output) → IsSilent output → IsPlain output
  silent-plain (outputs.Tell (tellings.HoldTaken until from sequence)) silent = absurd silent
  silent-plain (outputs.Message (outgoing.FailsafeAnswer to run sequence accepted)) silent = absurd silent
  silent-plain _ silent = tt

  -- ---- of any input
  abbrev is_asked : Heard → Bool
  is_asked (heards.FailsafeAsked from run sequence ttl) = true
  is_asked _ = false

  not-asked : (heard : Heard) → is_asked heard ≡ false → (from : MemberId) (run sequence : ℕ)
      → HearsFailsafe heard from run sequence → ⊥
  not-asked heard off from run sequence is = no-way (sym off ∙ ap is_asked is.1)
    where
      no-way : false ≡ true → ⊥
      no-way e = cc

  -- where no failsafe request is heard, none is acknowledged
  no-yes : (heard : Heard) (knows : Knowledge)
      → ((from : MemberId) (run sequence : ℕ) → HearsFailsafe heard from run sequence → ⊥)
      → (outs : List Output) → All (StandsOn heard knows) outs → has_one is_yes outs ≡ false
  no-yes heard knows none [] stands = refl
  no-yes heard knows none (output ∷ outs) stands =
      neither (is_yes output) (has_one is_yes outs) (one output (All-head (StandsOn heard knows) output outs stands))
      (no-yes heard knows none outs (All-tail (StandsOn heard knows) output outs stands))
    where
      one : (output : Output) → StandsOn heard knows output → is_yes output ≡ false
      one (outputs.Message (outgoing.FailsafeAnswer to run sequence true)) is = absurd (none to run sequence (is refl))
      one (outputs.Message (outgoing.FailsafeAnswer to run sequence false)) is = refl
      one _ is = refl

      neither : (b c : Bool) → b ≡ false → c ≡ false → (b || c) ≡ false
      neither b c e f = ap (λ (x : Bool). x || c) e ∙ f

  module _ (members : List Member) (flight : ℕ → Option Flying) (number : Option ℕ) (clock : ℕ) (now : Ticks)
      (points : List HistoryPoint) (o : Outcome) (alone : EndsAlone o.role o.knows.waited)
      (none : o.outputs ≡ []) (taken : List Taking) where
    unasked-so : (heard : Heard) → is_asked heard ≡ false
        → All (StandsOn heard o.knows) (step now points heard o).outputs
        → taken_by_outputs clock (step now points heard o).outputs taken
        ≡ taken_by member.id.number clock
        (request_taken (has_one is_yes (step now points heard o).outputs) (request_heard flight number)) taken
    unasked-so heard off stands = let outs : List Output = (step now points heard o).outputs in
        unasked-taken clock heard o.knows outs taken (not-asked heard off) stands
        ∙ ap (λ (test : Bool). taken_by member.id.number clock (request_taken test (request_heard flight number)) taken)
        (sym (no-yes heard o.knows (not-asked heard off) outs stands))

    -- an input takes the hold of the failsafe request that it hears and acknowledges
    pub input-taken : (heard : Heard)
        → ((from : MemberId) (run sequence : ℕ) → HearsFailsafe heard from run sequence →
        IsRequestHeard members flight number message from run sequence)
        → All (StandsOn heard o.knows) (step now points heard o).outputs
        → taken_by_outputs clock (step now points heard o).outputs taken
        ≡ taken_by member.id.number clock
        (request_taken (has_one is_yes (step now points heard o).outputs) (request_heard flight number)) taken
    input-taken (heards.FailsafeAsked from run sequence ttl) asked stands =
        let is = asked from run sequence (ttl, refl) in
        let outs : List Output = (failsafe_asked now from run sequence ttl (reconciled now o)).outputs in
        asked-taken clock now from run sequence is.ttl is.sent ttl (reconciled now o) taken
        (fronts-hold IsPlain silent-plain (λ number body. tt) o (reconciled now o)
        (before-fronts now o (alone-of o alone) (subst (All IsSilent) (sym none) (All-nil IsSilent))))
        is.counted is.incarnation
        ∙ ap (λ (request : Option FailsafeRequest).
        taken_by member.id.number clock (request_taken (has_one is_yes outs) request) taken)
        (sym is.is)
    input-taken heard asked stands = unasked-so heard refl stands
