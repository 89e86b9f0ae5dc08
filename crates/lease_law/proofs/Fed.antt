-- What an input does with the watchdog: who acts after it, and what guards it.
use Rattle.std.proofs.Common.{◌≡◌, ◌⊎◌, ℕ, ◌+◌, ◌≤◌, ◌<◌, Bool, true, false, List, Option, Some, None, refl, ◌∙◌, ap, sym, subst, arith, inl, inr}
use Rattle.lease_model.specs.Leases.{LeaderKey, FailsafeKey, Query, Renew, Release, Question, Grant, Requested}
use Rattle.event_book.specs.Premises.{Taking, IsOnTime}
use Rattle.lease_model.specs.States.{FailsafeCheck, Agent, Machine, State, Acts}
use Rattle.lease_model.specs.Inputs.{AgentInput, HeardGrant, HeardYes, IsDeadline, Fed, FedKnown, AllYes, WatchdogMay, Kept, Removed, SetByGrant, SetByFailsafe, SetAlone, Undone, Owns, MayCarry, MayCarryIf, MayQuery, MayAsk, IsLawful, IsInTime}
use Rattle.lease_model.proofs.Tools.{some-is, none-some, not-false}
use Rattle.std.proofs.lemmas.Bool.{cases_eq}
use Rattle.lease_model.specs.Carried.{Spans, IsGuarded, IsThere, ActsAlone, IsAtRest, HasTaken, IsPresent, IsSound}
use Rattle.lease_law.proofs.Onward.{spans-sub, holds-grow}

-- a deadline that is set in time is ahead, and not after the end of the lease
set-in-time : (margin : Option ℕ) (clock ttl sent moment until : ℕ) → IsDeadline margin clock ttl sent until
    → IsOnTime margin clock moment → sent ≤ moment → (clock < until) × (until ≤ moment + ttl)
set-in-time (Some k) clock ttl sent moment until set time order =
    (omega (arith, set.0, set.1), omega (arith, set.0, set.1, time))
set-in-time None clock ttl sent moment until set time order =
    (omega (arith, set.0, set.2), omega (arith, set.1, set.2, order))

-- a heard grant that isn't over: the key is m's by it
heard-present : (s : State) (m : ℕ) (heard : Option ℕ) (grant : Grant) → IsSound s → HeardGrant s m heard grant
    → s.clock < grant.moment + grant.ttl → IsPresent s.leader s.failsafe s.flight m grant
heard-present s m heard grant inv h soon = subst (λ (n : ℕ). IsPresent s.leader s.failsafe s.flight n grant) h.member
    (elim (inv.fresh h.number h.answer grant h.is h.grant_is
    h.waited) [ inl over ↦ absurd (omega (arith, over, soon)) | inr p ↦ p ])

pub record FedOk (s : State) (m : ℕ) (grant : Grant) (until : ℕ) : Type 0 where
  pub later : s.clock < until
  pub present : IsPresent s.leader s.failsafe s.flight m grant
  pub lasts : until ≤ grant.moment + grant.ttl

pub fed-ok : (s : State) (m : ℕ) (heard : Option ℕ) → IsSound s → (fed : Fed s m heard)
    → IsOnTime (s.declared.margin m) s.clock fed.grant.moment → FedOk s m fed.grant fed.deadline
fed-ok s m heard inv fed time =
    let h = fed.hears in
    let set = set-in-time (s.declared.margin m) s.clock fed.grant.ttl fed.grant.sent fed.grant.moment
    fed.deadline fed.deadline_is time ((inv.said h.number h.answer h.is).order fed.grant h.grant_is) in
    record {
      later = set.0;
      lasts = set.1;
      present = heard-present s m heard fed.grant inv h (omega (arith, set.0, set.1));
    }

pub known-ok : (s : State) (m : ℕ) (input : AgentInput) (agent : Agent) → IsSound s → IsInTime s m input
    → (fed : FedKnown s m input agent) → FedOk s m fed.fed.grant fed.fed.deadline
known-ok s m input agent inv timely fed =
    fed-ok s m input.heard inv fed.fed (timely.by_grant fed.feeds fed.by_grant fed.fed.grant fed.fed.hears)

-- whoever is fed by a grant, without a hold, finds no other that acts
pub newcomer : (s : State) (m : ℕ) (heard : Option ℕ) → IsSound s → (fed : Fed s m heard)
    → IsOnTime (s.declared.margin m) s.clock fed.grant.moment → (s.members m).hold ≤ s.clock → (n : ℕ)
    → Acts (s.members n) → n ≡ m
newcomer s m heard inv fed time free n acts =
    let p = (fed-ok s m heard inv fed time).present in
    let g = inv.guarded n acts in
    elim g.cover [
      | inl c ↦ let h = c.1 in sym h.holder
          ∙ ap (λ (x : LeaderKey). x.holder) (some-is h.found_key p.found_key (sym h.key_is ∙ p.key_is)) ∙ p.holder
      | inr c ↦ let h = c.1 in elim (h.owner p.found_key p.key_is) [
        | inl e ↦ sym e ∙ p.holder
        | inr e ↦ elim (cases_eq m n) [
          | inl same ↦ sym same
          | inr other ↦
              absurd (omega (arith, h.spans.listed h.f h.is m (ap h.f.members (sym p.holder) ∙ e) other, free, g.later))
        ]
      ]
    ]

-- where m acts after its input, no other did before it
pub sole-new : (s : State) (m : ℕ) (input : AgentInput) (was agent : Agent) → IsSound s → IsInTime s m input
    → WatchdogMay s m input was agent → Acts input.machine → (n : ℕ) → Acts (s.members n) → (n ≡ m → ⊥) → ⊥
sole-new s m input was agent inv timely (Kept same basis acts) ya n an other = other (inv.sole n m an (acts ya))
sole-new s m input was agent inv timely (Removed rests) ya n an other = rests ya
sole-new s m input was agent inv timely (SetByGrant fed is none free) ya n an other = elim (free ya) [
  | inl ax ↦ other (inv.sole n m an ax)
  | inr idle ↦
      other (newcomer s m input.heard inv fed.fed
      (timely.by_grant fed.feeds fed.by_grant fed.fed.grant fed.fed.hears) idle n an)
]
sole-new s m input was agent inv timely (SetByFailsafe until feeds is basis acts all) ya n an other =
    other (inv.sole n m an (acts ya))
sole-new s m input was agent inv timely (SetAlone until is basis acts alone) ya n an other =
    other (inv.sole n m an (acts ya))
sole-new s m input was agent inv timely (Undone ready live) ya n an other =
    not-false (s.members m).live (inv.parted m ready) live

-- m acted before, or is fed by a grant and begs nothing
pub was-acting : (s : State) (m : ℕ) (input : AgentInput) (was agent : Agent) → IsSound s
    → WatchdogMay s m input was agent → Acts input.machine
    → Acts (s.members m) ⊎ (FedKnown s m input agent × (agent.failsafe_check ≡ None))
was-acting s m input was agent inv (Kept same basis acts) ya = inl (acts ya)
was-acting s m input was agent inv (Removed rests) ya = absurd (rests ya)
was-acting s m input was agent inv (SetByGrant fed is none free) ya = inr (fed, none)
was-acting s m input was agent inv (SetByFailsafe until feeds is basis acts all) ya = inl (acts ya)
was-acting s m input was agent inv (SetAlone until is basis acts alone) ya = inl (acts ya)
was-acting s m input was agent inv (Undone ready live) ya =
    absurd (not-false (s.members m).live (inv.parted m ready) live)

pub may-renew : (s : State) (m : ℕ) (input : AgentInput) (was agent : Agent) (seq : ℕ) (query : Query)
    (compared ttl : ℕ) (carried : Option (ℕ → Bool)) → MayQuery s m input was agent seq query
    → query ≡ Renew compared ttl carried
    → (agent.leader ≡ Some (record { holder = m; revision = compared })) × (agent.waits ≡ Some seq)
    × MayCarryIf s input agent carried
may-renew s m input was agent seq query compared ttl carried may is =
    subst (λ (t : Query). MayQuery s m input was agent seq t) is may

pub may-release : (s : State) (m : ℕ) (input : AgentInput) (was agent : Agent) (seq : ℕ) (query : Query) (compared : ℕ)
    → MayQuery s m input was agent seq query → query ≡ Release compared
    → (Acts input.machine → ⊥) × Owns s m input.heard was compared
may-release s m input was agent seq query compared may is =
    subst (λ (t : Query). MayQuery s m input was agent seq t) is may

abbrev pub Sends : State → ℕ → AgentInput → Agent → Agent → Type 0
Sends s m input was agent = (i : ℕ) (q : Question) → input.flight i ≡ Some (Requested q)
    → (s.flight i ≡ Some (Requested q)) ⊎ MayAsk s m input was agent q

-- the renewals that this input sends carry only sets of which the same holds
pub spans-input : (s : State) (m : ℕ) (input : AgentInput) (was agent : Agent) (n : ℕ) (X : ℕ → Type 0)
    → Sends s m input was agent → ((set : ℕ → Bool) → MayCarry s input agent set → (p : ℕ) → set p ≡ true → X p)
    → Spans s.failsafe s.leader s.flight n X → Spans s.failsafe s.leader input.flight n X
spans-input s m input was agent n X sends carries old = record {
  listed = old.listed;
  coming = λ j q compared ttl set k at txn is same p e other. elim (sends j q at) [
    | inl before ↦ old.coming j q compared ttl set k before txn is same p e other
    | inr new ↦
        carries set (may-renew s m input was agent q.sequence q.query compared ttl (Some set) new.query txn).2 p e
  ];
}

-- after a grant that is acted on, what is known spans the failsafe key
spans-fed : (s : State) (m : ℕ) (input : AgentInput) (was agent : Agent) → IsSound s → IsInTime s m input
    → Sends s m input was agent → FedKnown s m input agent
    → Spans s.failsafe s.leader input.flight m (λ p. agent.known p ≡ true)
spans-fed s m input was agent inv timely sends fed =
    let p = (known-ok s m input agent inv timely fed).present in
    record {
      listed = λ f is n e other. fed.known f (sym p.listed ∙ is) n e;
      coming = λ j q compared ttl set k at txn is same n e other. elim (sends j q at) [
        | inl before ↦
            absurd (p.alone j q compared ttl (Some set) before txn
            (sym same ∙ ap (λ (x : LeaderKey). x.revision) (some-is k p.found_key (sym is ∙ p.key_is)) ∙ p.revision))
        | inr new ↦ (may-renew s m input was agent q.sequence q.query compared ttl (Some set) new.query txn).2.known n e
      ];
    }

pub sends-of : (s : State) (m : ℕ) (input : AgentInput) → (law : IsLawful s m input) → Sends s m input law.was law.agent
sends-of s m input law i q at = law.flight i (Requested q) at

pub spans-listed : (s : State) (m : ℕ) (input : AgentInput) → IsSound s → IsInTime s m input
    → (law : IsLawful s m input) → Acts input.machine → law.agent.leads ≡ true
    → Spans s.failsafe s.leader input.flight m (λ p. law.agent.known p ≡ true)
spans-listed s m input inv timely law ya leads =
    let fed : (FedKnown s m input law.agent →
    Spans s.failsafe s.leader input.flight m (λ p. law.agent.known p ≡ true)) =
    λ f. spans-fed s m input law.was law.agent inv timely (sends-of s m input law) f in
    elim (was-acting s m input law.was law.agent inv law.watchdog ya) [
      | inl ax ↦ elim (law.leads leads) [
        | inl led ↦ spans-input s m input law.was law.agent m (λ p. law.agent.known p ≡ true)
            (sends-of s m input law) (λ set c p e. c.known p e)
            (spans-sub s.failsafe s.leader s.flight m (λ p. law.was.known p ≡ true)
            (λ p. law.agent.known p ≡ true) (λ p other e. law.known p e) (inv.spans m law.was law.was_is ax led))
        | inr f ↦ fed f
      ]
      | inr f ↦ fed f.0
    ]

pub took-same : (taken : List Taking) (p p' m m' incarnation run' seq seq' : ℕ) → p ≡ p' → m ≡ m'
    → incarnation ≡ run' → seq ≡ seq' → HasTaken taken p m incarnation seq → HasTaken taken p' m' run' seq'
took-same taken p p' m m' incarnation run' seq seq' e f g h t =
    subst (λ (x : ℕ). HasTaken taken x m' run' seq') e
    (subst (λ (x : ℕ). HasTaken taken p x run' seq') f
    (subst (λ (x : ℕ). HasTaken taken p m x seq') g (subst (λ (x : ℕ). HasTaken taken p m incarnation x) h t)))

-- who said yes took a hold
pub said-yes : (s : State) (m : ℕ) (was : Agent) (b : FailsafeCheck) (p : ℕ) → IsSound s
    → (s.members m).agent ≡ Some was → was.failsafe_check ≡ Some b
    → (b.yes p ≡ true) ⊎ HeardYes s m was.incarnation b.sequence p → HasTaken s.taken p m was.incarnation b.sequence
said-yes s m was b p inv was_is failsafe_request (inl e) = (inv.failsafe_check m was b was_is failsafe_request).yes p e
said-yes s m was b p inv was_is failsafe_request (inr h) =
    took-same s.taken h.said.by p h.said.member m h.said.incarnation was.incarnation h.said.sequence
    b.sequence h.by h.member h.run_is h.sequence_is (inv.yeses h.number h.said h.is)

-- who owns the key while m acts
owner-of : (s : State) (m : ℕ) (f : FailsafeKey) → IsSound s → Acts (s.members m) → s.failsafe ≡ Some f
    → (k : LeaderKey) → s.leader ≡ Some k → (k.holder ≡ m) ⊎ (f.members k.holder ≡ true)
owner-of s m f inv acts is k k_is = elim (inv.guarded m acts).cover [
  | inl c ↦
      let h = c.1 in inl (ap (λ (x : LeaderKey). x.holder) (some-is k h.found_key (sym k_is ∙ h.key_is)) ∙ h.holder)
  | inr c ↦ let h = c.1 in elim (h.owner k k_is) [
    | inl e ↦ inl e
    | inr e ↦ inr (ap (λ (g : FailsafeKey). g.members k.holder) (some-is f h.f (sym is ∙ h.is)) ∙ e)
  ]
]

pub informed-there : (s : State) (m : ℕ) (input : AgentInput) → IsSound s → (law : IsLawful s m input)
    → law.agent.informed ≡ true → IsThere s.failsafe
informed-there s m input inv law informed = elim (law.informed informed) [
  | inl e ↦ (inv.kept m law.was law.was_is).informed e
  | inr o ↦ let h = o.1 in ((inv.said h.number h.answer h.is).listed o.0 h.key_is).there
]

-- the holds of those that acknowledged last until the deadline that is set on them
yes-holds : (s : State) (m : ℕ) (input : AgentInput) (was : Agent) (until : ℕ) → IsSound s → IsInTime s m input
    → (s.members m).agent ≡ Some was → input.feeds ≡ true → input.machine.by_failsafe ≡ true
    → (all : AllYes s m was until) → (p : ℕ) → all.failsafe_check.members p ≡ true → until ≤ (s.members p).hold
yes-holds s m input was until inv timely was_is feeds basis all p e =
    let t = said-yes s m was all.failsafe_check p inv was_is all.is (all.yes p e) in
    let y = (inv.taken (record {
      by = p;
      from = m;
      incarnation = was.incarnation;
      sequence = all.failsafe_check.sequence;
      moment = t.moment;
    }) t.is).matches all.failsafe_check
    (record { agent = was; is = was_is; run_is = refl; failsafe_check = all.is; sequence_is = refl }) in
    let time = timely.by_failsafe feeds basis was all.failsafe_check was_is all.is p t.moment e t.is in
    omega (
      arith,
      (set-in-time (s.declared.margin m) s.clock all.failsafe_check.ttl all.failsafe_check.sent t.moment until
          all.deadline_is time y.1).1,
      y.0,
    )

-- no set is carried under a deadline that acknowledgements set
not-carried : (input : AgentInput) (until : ℕ) → input.machine.deadline ≡ Some until
    → input.machine.by_failsafe ≡ true → (input.machine.deadline ≡ None) ⊎ (input.machine.by_failsafe ≡ false) → ⊥
not-carried input until is basis (inl none) = none-some until (sym none ∙ is)
not-carried input until is basis (inr by) = not-false input.machine.by_failsafe by basis

pub watchdog-guards : (s : State) (m : ℕ) (input : AgentInput) (members : ℕ → Machine) → IsSound s
    → IsInTime s m input → (law : IsLawful s m input) → WatchdogMay s m input law.was law.agent
    → ((p : ℕ) → (s.members p).hold ≤ (members p).hold) → Acts input.machine
    → IsGuarded s.clock s.failsafe s.leader input.flight members m input.machine.deadline input.machine.by_failsafe
watchdog-guards s m input members inv timely law (Kept same basis acts) grow ya =
    let g = inv.guarded m (acts ya) in
    record {
      until = g.until;
      is = same ∙ g.is;
      later = g.later;
      cover = elim g.cover [
        | inl c ↦ inl (basis ∙ c.0, c.1)
        | inr c ↦ let h = holds-grow s.failsafe s.leader s.flight s.members members m g.until grow c.1 in
            inr (
              basis ∙ c.0,
              record {
                f = h.f;
                is = h.is;
                owner = h.owner;
                spans =
                    spans-input s m input law.was law.agent m (λ p. g.until ≤ (members p).hold) (sends-of s m input law)
                    (λ set r p e. absurd (not-carried input g.until (same ∙ g.is) (basis ∙ c.0) r.by_grant)) h.spans;
              },
            )
      ];
    }
watchdog-guards s m input members inv timely law (Removed rests) grow ya = absurd (rests ya)
watchdog-guards s m input members inv timely law (SetByGrant fed is none free) grow ya =
    let ok = known-ok s m input law.agent inv timely fed in
    let p = ok.present in
    record {
      until = fed.fed.deadline;
      is = is;
      later = ok.later;
      cover = inl (
        fed.by_grant,
        record {
          found_key = p.found_key;
          key_is = p.key_is;
          holder = p.holder;
          lasts = omega (arith, ok.lasts, p.lasts);
        },
      );
    }
watchdog-guards s m input members inv timely law (SetByFailsafe until feeds is basis acts all) grow ya =
    let b = inv.failsafe_check m law.was all.failsafe_check law.was_is all.is in
    record {
      until = until;
      is = is;
      later = all.later;
      cover = inr (
        basis,
        record {
          f = b.there.f;
          is = b.there.is;
          owner = owner-of s m b.there.f inv (acts ya) b.there.is;
          spans = spans-input s m input law.was law.agent m (λ p. until ≤ (members p).hold)
              (sends-of s m input law) (λ set r p e. absurd (not-carried input until is basis r.by_grant))
              (spans-sub s.failsafe s.leader s.flight m (λ p. all.failsafe_check.members p ≡ true)
              (λ p. until ≤ (members p).hold)
              (λ p other e.
              omega (arith, yes-holds s m input law.was until inv timely law.was_is feeds basis all p e, grow p))
              (b.spans (acts ya)));
        },
      );
    }
watchdog-guards s m input members inv timely law (SetAlone until is basis acts alone) grow ya =
    let there = informed-there s m input inv law alone.informed in
    record {
      until = until;
      is = is;
      later = alone.later;
      cover = inr (
        basis,
        record {
          f = there.f;
          is = there.is;
          owner = owner-of s m there.f inv (acts ya) there.is;
          spans = spans-sub s.failsafe s.leader input.flight m (λ p. law.agent.known p ≡ true)
              (λ p. until ≤ (members p).hold)
              (λ p other e. absurd (other (alone.alone p e)))
              (spans-listed s m input inv timely law ya alone.leads);
        },
      );
    }
watchdog-guards s m input members inv timely law (Undone ready live) grow ya =
    absurd (not-false (s.members m).live (inv.parted m ready) live)

-- a release in flight still finds its member at rest, and a carried set its sender alone
pub watchdog-unheard : (s : State) (m : ℕ) (input : AgentInput) (was agent : Agent) (j : ℕ) (q : Question) (r : ℕ)
    → IsSound s → IsInTime s m input → WatchdogMay s m input was agent → s.flight j ≡ Some (Requested q)
    → q.query ≡ Release r → IsAtRest s.leader (s.members m) r → IsAtRest s.leader input.machine r
watchdog-unheard s m input was agent j q r inv timely dog at txn quiet k k_is e a =
    elim (was-acting s m input was agent inv dog a) [
      | inl ax ↦ quiet k k_is e ax
      | inr f ↦
          let p = (known-ok s m input agent inv timely f.0).present in
          let h = f.0.fed.hears in
          let same : r ≡ f.0.fed.grant.revision = sym e
          ∙ ap (λ (x : LeaderKey). x.revision) (some-is k p.found_key (sym k_is ∙ p.key_is)) ∙ p.revision in
          (inv.tokens h.number h.answer f.0.fed.grant h.is h.grant_is).released j
          q at (txn ∙ ap (λ (n : ℕ). Release n) same)
    ]

pub watchdog-carrier : (s : State) (m : ℕ) (input : AgentInput) (was agent : Agent) (j : ℕ) (q : Question)
    (compared ttl : ℕ) (set : ℕ → Bool) → IsSound s → IsInTime s m input → WatchdogMay s m input was agent
    → s.flight j ≡ Some (Requested q) → q.query ≡ Renew compared ttl (Some set)
    → ActsAlone s.leader s.members q.member compared → (k : LeaderKey) → s.leader ≡ Some k
    → k.revision ≡ compared → Acts input.machine → m ≡ q.member
watchdog-carrier s m input was agent j q compared ttl set inv timely dog at txn c k k_is e a =
    elim (was-acting s m input was agent inv dog a) [
      | inl ax ↦ c k k_is e m ax
      | inr f ↦
          let p = (known-ok s m input agent inv timely f.0).present in
          absurd (p.alone j q compared ttl (Some set) at txn
          (sym e ∙ ap (λ (x : LeaderKey). x.revision) (some-is k p.found_key (sym k_is ∙ p.key_is)) ∙ p.revision))
    ]
