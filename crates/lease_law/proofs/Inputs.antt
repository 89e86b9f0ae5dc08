-- One lawful input of an agent, in time.
use Rattle.std.proofs.Common.{◌≡◌, ◌⊎◌, ℕ, ◌+◌, ◌≤◌, Bool, true, false, List, Option, Some, None, refl, ◌∙◌, ap, sym, subst, arith, inl, inr}
use Rattle.store_keys.specs.declared.txn.Expected.TheVariants.{Absent, Revision}
use Rattle.event_book.specs.Functions.{put_at}
use Rattle.lease_model.specs.Leases.{LeaderSeen, FailsafeKey, Query, Create, Renew, Release, Write, Read, Question, Grant, Answer, FailsafeRequest, Acknowledgement, Requested, Answered, FailsafeRequested, Acknowledged}
use Rattle.event_book.specs.Premises.{Taking, IsTaken}
use Rattle.lease_model.specs.States.{FailsafeCheck, Agent, Machine, State, is_ready, Acts}
use Rattle.lease_model.specs.Inputs.{AgentInput, Waits, HeardLeader, HeardFailsafe, WatchdogMay, Owns, MayQuery, ContinuesCheck, BeginsCheck, IsLawful, IsInTime}
use Rattle.lease_model.specs.Actions.{taken_by, with_input}
use Rattle.lease_model.proofs.Tools.{some-is, none-some, not-false, put-all}
use Rattle.lease_model.specs.Carried.{Spans, IsGuarded, IsFailsafeVouched, IsVouched, IsAtRest, IsQueryKept, IsNumbered, IsQuestionKept, AwaitsIt, IsFailsafeRequestKept, HasTaken, IsTakingKept, IsFailsafeCheckKept, IsAgentKept, IsFresh, IsToken, IsSound}
use Rattle.lease_law.proofs.Onward.{spans-sub, holds-grow}
use Rattle.lease_law.proofs.Fed.{sole-new, was-acting, may-renew, may-release, sends-of, spans-input, spans-listed, took-same, said-yes, informed-there, watchdog-guards, watchdog-unheard, watchdog-carrier}

old-asked : (s : State) (m : ℕ) (input : AgentInput) (was agent : Agent) (j : ℕ) (q : Question) (query : Query)
    → IsSound s → IsInTime s m input → WatchdogMay s m input was agent → s.flight j ≡ Some (Requested q)
    → q.query ≡ query → IsQueryKept s.declared.failsafe s.leader s.failsafe s.revision s.members q.member query
    → IsQueryKept s.declared.failsafe s.leader s.failsafe s.revision (put_at s.members m input.machine) q.member query
old-asked s m input was agent j q (Renew compared ttl None) inv timely dog at txn a = a
old-asked s m input was agent j q (Renew compared ttl (Some set)) inv timely dog at txn a = (
  a.0,
  λ k is e.
      put-all s.members m input.machine (λ n z. Acts z → n ≡ q.member)
      (watchdog-carrier s m input was agent j q compared ttl set inv timely dog at txn a.1 k is e)
      (λ n other an. a.1 k is e n an),
  a.2,
)
old-asked s m input was agent j q (Release compared) inv timely dog at txn a = (
  a.0,
  put-all s.members m input.machine (λ n z. IsAtRest s.leader (s.members n) compared → IsAtRest s.leader z compared)
      (watchdog-unheard s m input was agent j q compared inv timely dog at txn) (λ n other quiet. quiet) q.member a.1,
)
old-asked s m input was agent j q (Create ttl None) inv timely dog at txn a = a
old-asked s m input was agent j q (Create ttl (Some Absent)) inv timely dog at txn a = tt
old-asked s m input was agent j q (Create ttl (Some (Revision r))) inv timely dog at txn a = a
old-asked s m input was agent j q Write inv timely dog at txn a = tt
old-asked s m input was agent j q Read inv timely dog at txn a = tt

owns-vouched : (s : State) (m : ℕ) (heard : Option ℕ) (was : Agent) (r : ℕ) → IsSound s
    → (s.members m).agent ≡ Some was → Owns s m heard was r → IsVouched s.leader s.revision m r
owns-vouched s m heard was r inv was_is (inl e) = (inv.kept m was was_is).lease r e
owns-vouched s m heard was r inv was_is (inr o) =
    let h = o.1 in
    subst (λ (n : ℕ). IsVouched s.leader s.revision n r) h.member
    (subst (λ (n : ℕ). IsVouched s.leader s.revision h.answer.member n) o.2
    ((inv.said h.number h.answer h.is).grant o.0 h.grant_is))

-- an answer in flight after an input was in flight before, and wasn't heard in it
answered-before : (s : State) (m : ℕ) (input : AgentInput) (law : IsLawful s m input) (i : ℕ) (a : Answer)
    → input.flight i ≡ Some (Answered a) → s.flight i ≡ Some (Answered a)
answered-before s m input law i a at = elim (law.flight i (Answered a) at) [ inl old ↦ old | inr never ↦ absurd never ]

-- a revision that the agent owns is handed out by no other answer
spent : (s : State) (m : ℕ) (input : AgentInput) (law : IsLawful s m input) (r : ℕ) (i : ℕ) (a : Answer) (grant : Grant)
    → IsSound s → Owns s m input.heard law.was r → input.flight i ≡ Some (Answered a) → a.grant ≡ Some grant
    → grant.revision ≡ r → ⊥
spent s m input law r i a grant inv (inl e) at is same =
    (inv.tokens i a grant (answered-before s m input law i a at) is).valued m law.was law.was_is
    (e ∙ ap (λ (n : ℕ). Some n) (sym same))
spent s m input law r i a grant inv (inr o) at is same =
    let h = o.1 in
    let one : i ≡ h.number = (inv.tokens h.number h.answer o.0 h.is h.grant_is).single i a grant
    (answered-before s m input law i a at) is (same ∙ sym o.2) in
    none-some (Answered a) (sym (law.gone h.number h.heard_is) ∙ ap input.flight (sym one) ∙ at)

seen-vouched : (s : State) (m : ℕ) (heard : Option ℕ) (was : Agent) (z : LeaderSeen) → IsSound s
    → (s.members m).agent ≡ Some was → (was.leader ≡ Some z) ⊎ HeardLeader s heard z
    → IsVouched s.leader s.revision z.holder z.revision
seen-vouched s m heard was z inv was_is (inl e) = (inv.kept m was was_is).seen z e
seen-vouched s m heard was z inv was_is (inr h) = (inv.said h.number h.answer h.is).seen z h.seen_is

failsafe-vouched : (s : State) (m : ℕ) (heard : Option ℕ) (was : Agent) (f : FailsafeKey) → IsSound s
    → (s.members m).agent ≡ Some was → (was.failsafe ≡ Some f) ⊎ HeardFailsafe s heard f
    → IsFailsafeVouched s.failsafe s.revision f
failsafe-vouched s m heard was f inv was_is (inl e) = (inv.kept m was was_is).failsafe f e
failsafe-vouched s m heard was f inv was_is (inr h) = (inv.said h.number h.answer h.is).listed f h.key_is

new-asked : (s : State) (m : ℕ) (input : AgentInput) (seq : ℕ) (query : Query) → IsSound s
    → IsInTime s m input → (law : IsLawful s m input) → MayQuery s m input law.was law.agent seq query
    → IsQueryKept s.declared.failsafe s.leader s.failsafe s.revision (put_at s.members m input.machine) m query
new-asked s m input seq (Renew compared ttl None) inv timely law may =
    seen-vouched s m input.heard law.was (record { holder = m; revision = compared }) inv law.was_is
    (law.leader (record { holder = m; revision = compared }) may.0)
new-asked s m input seq (Renew compared ttl (Some set)) inv timely law may = (
  seen-vouched s m input.heard law.was (record { holder = m; revision = compared }) inv law.was_is
      (law.leader (record { holder = m; revision = compared }) may.0),
  λ k is e. put-all s.members m input.machine (λ n z. Acts z → n ≡ m) (λ ya. refl)
      (λ n other an. absurd (sole-new s m input law.was law.agent inv timely law.watchdog (inl may.2.live) n an other)),
  may.2.mode,
)
new-asked s m input seq (Release compared) inv timely law may = (
  owns-vouched s m input.heard law.was compared inv law.was_is may.1,
  put-all s.members m input.machine (λ n z. n ≡ m → IsAtRest s.leader z compared) (λ mine k is e a. may.0 a)
      (λ n other mine. absurd (other mine)) m refl,
)
new-asked s m input seq (Create ttl None) inv timely law may = may
new-asked s m input seq (Create ttl (Some Absent)) inv timely law may = tt
new-asked s m input seq (Create ttl (Some (Revision r))) inv timely law may =
    let v = failsafe-vouched s m input.heard law.was may.0 inv law.was_is may.1 in
    record { bound = omega (arith, v.bound, may.2); lists = λ f is e. v.same f is (e ∙ sym may.2) m ∙ may.3 }
new-asked s m input seq Write inv timely law may = tt
new-asked s m input seq Read inv timely law may = tt

-- the numbers of old messages stay old
numbered-input : (x y : Machine) (was agent : Agent) (incarnation seq : ℕ) → x.agent ≡ Some was
    → y.agent ≡ Some agent → y.runs ≡ x.runs → agent.incarnation ≡ was.incarnation → was.last ≤ agent.last
    → IsNumbered x incarnation seq → IsNumbered y incarnation seq
numbered-input x y was agent incarnation seq was_is agent_is runs same last n = record {
  run_old = omega (arith, n.run_old, runs);
  sequence_old = λ g is e. let one : agent ≡ g = some-is agent g (sym agent_is ∙ is) in
      omega (
        arith,
        n.sequence_old was was_is (sym same ∙ ap (λ (z : Agent). z.incarnation) one ∙ e),
        last,
        ap (λ (z : Agent). z.last) one,
      );
}

-- new numbers are counted
numbered-new : (s : State) (m : ℕ) (input : AgentInput) (incarnation seq : ℕ) → IsSound s → (law : IsLawful s m input)
    → incarnation ≡ law.was.incarnation → seq ≤ law.agent.last → IsNumbered input.machine incarnation seq
numbered-new s m input incarnation seq inv law same counted = record {
  run_old = omega (arith, same, (inv.kept m law.was law.was_is).incarnation, law.runs);
  sequence_old =
      λ g is e. omega (arith, counted, ap (λ (z : Agent). z.last) (some-is law.agent g (sym law.agent_is ∙ is)));
}

-- what is waited for after an input with an old number was waited for before it
record WasMatched (s : State) (m : ℕ) (incarnation seq : ℕ) (b : FailsafeCheck) : Type 0 where
  before : FailsafeCheck
  matches : AwaitsIt (s.members m) incarnation seq before
  ttl : b.ttl ≡ before.ttl
  sent : b.sent ≡ before.sent

was-matched : (s : State) (m : ℕ) (input : AgentInput) (incarnation seq : ℕ) (b : FailsafeCheck)
    → (law : IsLawful s m input) → IsNumbered (s.members m) incarnation seq
    → AwaitsIt input.machine incarnation seq b → WasMatched s m incarnation seq b
was-matched s m input incarnation seq b law numbered w =
    let one : law.agent ≡ w.agent = some-is law.agent w.agent (sym law.agent_is ∙ w.is) in
    let same : law.was.incarnation ≡ incarnation = sym law.incarnation ∙ ap (λ (z : Agent). z.incarnation) one
    ∙ w.run_is in
    elim (law.failsafe_check b (ap (λ (z : Agent). z.failsafe_check) one ∙ w.failsafe_check)) [
      | inl g ↦ record {
        before = g.before;
        matches = record {
          agent = law.was;
          is = law.was_is;
          run_is = same;
          failsafe_check = g.is;
          sequence_is = sym g.sequence ∙ w.sequence_is;
        };
        ttl = g.ttl;
        sent = g.sent;
      }
      | inr n ↦ absurd (omega (arith, numbered.sequence_old law.was law.was_is same, n.later, w.sequence_is))
    ]

failsafe_request-input : (s : State) (m : ℕ) (input : AgentInput) (q : FailsafeRequest) → (law : IsLawful s m input)
    → IsFailsafeRequestKept s.clock (s.members m) q → IsFailsafeRequestKept s.clock input.machine q
failsafe_request-input s m input q law ok = record {
  numbered = numbered-input (s.members m) input.machine law.was law.agent q.incarnation q.sequence law.was_is
      law.agent_is law.runs law.incarnation law.last ok.numbered;
  sent = ok.sent;
  matches = λ b w. let p = was-matched s m input q.incarnation q.sequence b law ok.numbered w in
      let old = ok.matches p.before p.matches in (old.0 ∙ sym p.ttl, old.1 ∙ sym p.sent);
}

taken-input : (s : State) (m : ℕ) (input : AgentInput) (hold : ℕ) (t : Taking) → (law : IsLawful s m input)
    → IsTakingKept (s.members m) hold t → IsTakingKept input.machine hold t
taken-input s m input hold t law ok = record {
  numbered = numbered-input (s.members m) input.machine law.was law.agent t.incarnation t.sequence law.was_is
      law.agent_is law.runs law.incarnation law.last ok.numbered;
  matches = λ b w. let p = was-matched s m input t.incarnation t.sequence b law ok.numbered w in
      let old = ok.matches p.before p.matches in (omega (arith, old.0, p.ttl), omega (arith, old.1, p.sent));
}

-- the holds that are taken after an input
taken-more : (m clock : ℕ) (takes : Option FailsafeRequest) (taken : List Taking) (t : Taking)
    → IsTaken taken t → IsTaken (taken_by m clock takes taken) t
taken-more m clock None taken t old = old
taken-more m clock (Some failsafe_request) taken t old = inr old

took-more : (m clock : ℕ) (takes : Option FailsafeRequest) (taken : List Taking) (p n incarnation seq : ℕ)
    → HasTaken taken p n incarnation seq → HasTaken (taken_by m clock takes taken) p n incarnation seq
took-more m clock takes taken p n incarnation seq t = record {
  moment = t.moment;
  is = taken-more m clock takes taken
      (record { by = p; from = n; incarnation = incarnation; sequence = seq; moment = t.moment }) t.is;
}

took-new : (m clock : ℕ) (takes : Option FailsafeRequest) (taken : List Taking) (failsafe_request : FailsafeRequest)
    → takes ≡ Some failsafe_request
    → HasTaken (taken_by m clock takes taken) m failsafe_request.member failsafe_request.incarnation
    failsafe_request.sequence
took-new m clock None taken failsafe_request is = absurd (none-some failsafe_request is)
took-new m clock (Some b) taken failsafe_request is = record {
  moment = clock;
  is =
      inl (ap (λ (z : FailsafeRequest).
      record { by = m; from = z.member; incarnation = z.incarnation; sequence = z.sequence; moment = clock })
      (some-is b failsafe_request is));
}

taken-cases : (m clock : ℕ) (takes : Option FailsafeRequest) (taken : List Taking) (P : Taking → Type 0)
    → ((t : Taking) → IsTaken taken t → P t)
    → ((failsafe_request : FailsafeRequest) → takes ≡ Some failsafe_request → P (record {
      by = m;
      from = failsafe_request.member;
      incarnation = failsafe_request.incarnation;
      sequence = failsafe_request.sequence;
      moment = clock;
    }))
    → (t : Taking) → IsTaken (taken_by m clock takes taken) t → P t
taken-cases m clock None taken P old new t is = old t is
taken-cases m clock (Some failsafe_request) taken P old new t (inl e) = subst P e (new failsafe_request refl)
taken-cases m clock (Some failsafe_request) taken P old new t (inr before) = old t before

-- a failsafe request that is waited for has a counted number
counted-failsafe_request : (s : State) (m : ℕ) (input : AgentInput) (b : FailsafeCheck) → IsSound s
    → (law : IsLawful s m input) → law.agent.failsafe_check ≡ Some b → b.sequence ≤ law.agent.last
counted-failsafe_request s m input b inv law is = elim (law.failsafe_check b is) [
  | inl g ↦ omega (arith, g.sequence, (inv.failsafe_check m law.was g.before law.was_is g.is).counted, law.last)
  | inr n ↦ n.counted
]

failsafe_check-input : (s : State) (m : ℕ) (input : AgentInput) (b : FailsafeCheck) → IsSound s
    → IsInTime s m input → (law : IsLawful s m input) → law.agent.failsafe_check ≡ Some b
    → ContinuesCheck s m law.was b ⊎ BeginsCheck s m law.was law.agent b
    → IsFailsafeCheckKept s.failsafe s.leader input.flight
    (taken_by m s.clock input.takes s.taken) m input.machine law.agent b
failsafe_check-input s m input b inv timely law is (inl g) =
    let old = inv.failsafe_check m law.was g.before law.was_is g.is in record {
      counted = omega (arith, g.sequence, old.counted, law.last);
      there = old.there;
      spans = λ ya. elim (was-acting s m input law.was law.agent inv law.watchdog ya) [
        | inl ax ↦
            subst (λ (set : ℕ → Bool). Spans s.failsafe s.leader input.flight m (λ p. set p ≡ true)) (sym g.members)
            (spans-input s m input law.was law.agent m (λ p. g.before.members p ≡ true) (sends-of s m input law)
            (λ set c p e. absurd (none-some b (sym c.failsafe_check ∙ is))) (old.spans ax))
        | inr f ↦ absurd (none-some b (sym f.1 ∙ is))
      ];
      yes = λ p e. took-more m s.clock input.takes s.taken p m law.agent.incarnation b.sequence
          (took-same s.taken p p m m law.was.incarnation law.agent.incarnation g.before.sequence b.sequence refl refl
          (sym law.incarnation) (sym g.sequence) (said-yes s m law.was g.before p inv law.was_is g.is (g.yes p e)));
    }
failsafe_check-input s m input b inv timely law is (inr n) = record {
  counted = n.counted;
  there = informed-there s m input inv law n.informed;
  spans = λ ya. spans-sub s.failsafe s.leader input.flight m (λ p. law.agent.known p ≡ true)
      (λ p. b.members p ≡ true) (λ p other e. n.all p e other) (spans-listed s m input inv timely law ya n.leads);
  yes = λ p e. absurd (not-false (b.yes p) (n.yes p) e);
}

-- the machine of each member after an input
abbrev After : State → ℕ → AgentInput → ℕ → Machine
After s m input = put_at s.members m input.machine

input-holds : (s : State) (m : ℕ) (input : AgentInput) → IsLawful s m input → (p : ℕ)
    → (s.members p).hold ≤ (After s m input p).hold
input-holds s m input law =
    put-all s.members m input.machine (λ n z. (s.members n).hold ≤ z.hold) law.hold (λ n other. omega arith)

input-numbered : (s : State) (m : ℕ) (input : AgentInput) (incarnation seq : ℕ) → (law : IsLawful s m input)
    → (n : ℕ) → IsNumbered (s.members n) incarnation seq → IsNumbered (After s m input n) incarnation seq
input-numbered s m input incarnation seq law =
    put-all s.members m input.machine (λ k z. IsNumbered (s.members k) incarnation seq → IsNumbered z incarnation seq)
    (numbered-input (s.members m) input.machine law.was law.agent incarnation seq law.was_is law.agent_is
    law.runs law.incarnation law.last)
    (λ k other old. old)

input-failsafe_requests : (s : State) (m : ℕ) (input : AgentInput) (q : FailsafeRequest) → (law : IsLawful s m input)
    → (n : ℕ) → IsFailsafeRequestKept s.clock (s.members n) q → IsFailsafeRequestKept s.clock (After s m input n) q
input-failsafe_requests s m input q law = put-all s.members m input.machine
    (λ k z. IsFailsafeRequestKept s.clock (s.members k) q → IsFailsafeRequestKept s.clock z q)
    (failsafe_request-input s m input q law) (λ k other old. old)

input-alone : (s : State) (m : ℕ) (input : AgentInput) → IsSound s → IsInTime s m input → IsLawful s m input
    → Acts input.machine → (n : ℕ) → Acts (s.members n) → (n ≡ m → ⊥) → ⊥
input-alone s m input inv timely law = sole-new s m input law.was law.agent inv timely law.watchdog

input-guarded : (s : State) (m : ℕ) (input : AgentInput) → IsSound s → IsInTime s m input → IsLawful s m input
    → (n : ℕ) → Acts (After s m input n)
    → IsGuarded s.clock s.failsafe s.leader input.flight (After s m input) n (After s m input n).deadline
    (After s m input n).by_failsafe
input-guarded s m input inv timely law = put-all s.members m input.machine
    (λ n z. Acts z → IsGuarded s.clock s.failsafe s.leader input.flight (After s m input) n z.deadline z.by_failsafe)
    (watchdog-guards s m input (After s m input) inv timely law law.watchdog (input-holds s m input law))
    (λ n other an. let g = inv.guarded n an in record {
      until = g.until;
      is = g.is;
      later = g.later;
      cover = elim g.cover [
        | inl c ↦ inl c
        | inr c ↦
            let h = holds-grow s.failsafe s.leader s.flight s.members (After s m input) n g.until
            (input-holds s m input law) c.1 in
            inr (
              c.0,
              record {
                f = h.f;
                is = h.is;
                owner = h.owner;
                spans = spans-input s m input law.was law.agent n (λ p. g.until ≤ (After s m input p).hold)
                    (sends-of s m input law)
                    (λ set r p e. absurd (input-alone s m input inv timely law (inl r.live) n an other)) h.spans;
              },
            )
      ];
    })

input-sole : (s : State) (m : ℕ) (input : AgentInput) → IsSound s → IsInTime s m input → IsLawful s m input
    → (a b : ℕ) → Acts (After s m input a) → Acts (After s m input b) → a ≡ b
input-sole s m input inv timely law = let alone = input-alone s m input inv timely law in
    put-all s.members m input.machine (λ a z. (b : ℕ) → Acts z → Acts (After s m input b) → a ≡ b)
    (λ b ya ab. put-all s.members m input.machine (λ c z. Acts z → m ≡ c) (λ q. refl)
    (λ c other ac. absurd (alone ya c ac other)) b ab)
    (λ a other b aa ab. put-all s.members m input.machine (λ c z. Acts z → a ≡ c)
    (λ ya. absurd (alone ya a aa other)) (λ c more ac. inv.sole a c aa ac) b ab)

input-asked : (s : State) (m : ℕ) (input : AgentInput) → IsSound s → IsInTime s m input → IsLawful s m input
    → (i : ℕ) (q : Question) → input.flight i ≡ Some (Requested q)
    → IsQuestionKept s.declared.failsafe s.clock s.leader s.failsafe s.revision (After s m input) q
input-asked s m input inv timely law i q at = elim (law.flight i (Requested q) at) [
  | inl old ↦ let ok = inv.asked i q old in record {
    numbered = input-numbered s m input q.incarnation q.sequence law q.member ok.numbered;
    sent = ok.sent;
    query = old-asked s m input law.was law.agent i q q.query inv timely law.watchdog old refl ok.query;
  }
  | inr new ↦ record {
    numbered = put-all s.members m input.machine (λ n z. n ≡ m → IsNumbered z q.incarnation q.sequence)
        (λ mine. numbered-new s m input q.incarnation q.sequence inv law new.incarnation new.counted)
        (λ n other mine. absurd (other mine)) q.member new.member;
    sent = omega (arith, new.sent);
    query =
        subst (λ (n : ℕ). IsQueryKept s.declared.failsafe s.leader s.failsafe s.revision (After s m input) n q.query)
        (sym new.member) (new-asked s m input q.sequence q.query inv timely law new.query);
  }
]

input-failsafe_request : (s : State) (m : ℕ) (input : AgentInput) → IsSound s → IsLawful s m input
    → (i : ℕ) (q : FailsafeRequest) → input.flight i ≡ Some (FailsafeRequested q)
    → IsFailsafeRequestKept s.clock (After s m input q.member) q
input-failsafe_request s m input inv law i q at = elim (law.flight i (FailsafeRequested q) at) [
  | inl old ↦ input-failsafe_requests s m input q law q.member (inv.failsafe_requests i q old)
  | inr new ↦ put-all s.members m input.machine (λ n z. n ≡ m → IsFailsafeRequestKept s.clock z q)
      (λ mine. record {
        numbered = numbered-new s m input q.incarnation q.sequence inv law new.incarnation
            (omega (arith, new.sequence, counted-failsafe_request s m input new.failsafe_check inv law new.is));
        sent = omega (arith, new.sent);
        matches = λ b w.
            let one : law.agent ≡ w.agent = some-is law.agent w.agent (sym law.agent_is ∙ w.is) in
            let same : new.failsafe_check ≡ b =
            some-is new.failsafe_check b (sym new.is ∙ ap (λ (z : Agent). z.failsafe_check) one ∙ w.failsafe_check) in (
              sym new.ttl ∙ ap (λ (c : FailsafeCheck). c.ttl) same,
              sym new.check_sent ∙ ap (λ (c : FailsafeCheck). c.sent) same,
            );
      })
      (λ n other mine. absurd (other mine)) q.member new.member
]

input-yes : (s : State) (m : ℕ) (input : AgentInput) → IsSound s → IsLawful s m input
    → (i : ℕ) (h : Acknowledgement) → input.flight i ≡ Some (Acknowledged h)
    → HasTaken (taken_by m s.clock input.takes s.taken) h.by h.member h.incarnation h.sequence
input-yes s m input inv law i h at = elim (law.flight i (Acknowledged h) at) [
  | inl old ↦ took-more m s.clock input.takes s.taken h.by h.member h.incarnation h.sequence (inv.yeses i h old)
  | inr new ↦ took-same (taken_by m s.clock input.takes s.taken) m h.by new.failsafe_request.member h.member
      new.failsafe_request.incarnation h.incarnation new.failsafe_request.sequence h.sequence
      (sym new.by) new.member new.incarnation new.sequence
      (took-new m s.clock input.takes s.taken new.failsafe_request new.takes)
]

input-taken : (s : State) (m : ℕ) (input : AgentInput) → IsSound s → IsLawful s m input → (t : Taking)
    → IsTaken (taken_by m s.clock input.takes s.taken) t
    → IsTakingKept (After s m input t.from) (After s m input t.by).hold t
input-taken s m input inv law =
    taken-cases m s.clock input.takes s.taken (λ t. IsTakingKept (After s m input t.from) (After s m input t.by).hold t)
    (λ t old. let ok = inv.taken t old in
    let far : IsTakingKept (s.members t.from) (After s m input t.by).hold t = record {
      numbered = ok.numbered;
      matches = λ b w. let o = ok.matches b w in (omega (arith, o.0, input-holds s m input law t.by), o.1);
    } in
    put-all s.members m input.machine
    (λ n z. IsTakingKept (s.members n) (After s m input t.by).hold t → IsTakingKept z (After s m input t.by).hold t)
    (taken-input s m input (After s m input t.by).hold t law) (λ n other o. o) t.from far)
    (λ failsafe_request takes. let new = law.takes failsafe_request takes in
    let ok = input-failsafe_requests s m input failsafe_request law failsafe_request.member
    (inv.failsafe_requests new.number failsafe_request new.is) in
    let lasts : s.clock + failsafe_request.ttl ≤ (After s m input m).hold =
    put-all s.members m input.machine (λ n z. n ≡ m → s.clock + failsafe_request.ttl ≤ z.hold)
    (λ mine. new.lasts) (λ n other mine. absurd (other mine)) m refl in
    record {
      numbered = ok.numbered;
      matches = λ b w. let o = ok.matches b (record {
        agent = w.agent;
        is = w.is;
        run_is = w.run_is;
        failsafe_check = w.failsafe_check;
        sequence_is = w.sequence_is;
      }) in (omega (arith, lasts, o.0), omega (arith, ok.sent, o.1));
    })

input-kept : (s : State) (m : ℕ) (input : AgentInput) → IsSound s → IsLawful s m input → (n : ℕ) (g : Agent)
    → (After s m input n).agent ≡ Some g → IsAgentKept s.leader s.failsafe s.revision n (After s m input n).runs g
input-kept s m input inv law = put-all s.members m input.machine
    (λ n z. (g : Agent) → z.agent ≡ Some g → IsAgentKept s.leader s.failsafe s.revision n z.runs g)
    (λ g is. subst (λ (h : Agent). IsAgentKept s.leader s.failsafe s.revision m input.machine.runs h)
    (some-is law.agent g (sym law.agent_is ∙ is)) (record {
      incarnation = omega (arith, (inv.kept m law.was law.was_is).incarnation, law.incarnation, law.runs);
      lease = λ r e. owns-vouched s m input.heard law.was r inv law.was_is (law.lease r e);
      seen = λ z e. seen-vouched s m input.heard law.was z inv law.was_is (law.leader z e);
      failsafe = λ f e. failsafe-vouched s m input.heard law.was f inv law.was_is (law.failsafe f e);
      informed = λ e. informed-there s m input inv law e;
    }))
    (λ n other g is. inv.kept n g is)

input-spans : (s : State) (m : ℕ) (input : AgentInput) → IsSound s → IsInTime s m input → IsLawful s m input
    → (n : ℕ) (g : Agent) → (After s m input n).agent ≡ Some g → Acts (After s m input n) → g.leads ≡ true
    → Spans s.failsafe s.leader input.flight n (λ p. g.known p ≡ true)
input-spans s m input inv timely law = put-all s.members m input.machine
    (λ n z. (g : Agent) → z.agent ≡ Some g → Acts z → g.leads ≡ true →
    Spans s.failsafe s.leader input.flight n (λ p. g.known p ≡ true))
    (λ g is ya leads. let one = some-is law.agent g (sym law.agent_is ∙ is) in
    subst (λ (h : Agent). Spans s.failsafe s.leader input.flight m (λ p. h.known p ≡ true)) one
    (spans-listed s m input inv timely law ya (ap (λ (h : Agent). h.leads) one ∙ leads)))
    (λ n other g is an leads. spans-input s m input law.was law.agent n (λ p. g.known p ≡ true) (sends-of s m input law)
    (λ set r p e. absurd (input-alone s m input inv timely law (inl r.live) n an other)) (inv.spans n g is an leads))

input-failsafe_check : (s : State) (m : ℕ) (input : AgentInput) → IsSound s → IsInTime s m input → IsLawful s m input
    → (n : ℕ) (g : Agent) (b : FailsafeCheck) → (After s m input n).agent ≡ Some g → g.failsafe_check ≡ Some b
    → IsFailsafeCheckKept s.failsafe s.leader input.flight (taken_by m s.clock input.takes s.taken) n
    (After s m input n) g b
input-failsafe_check s m input inv timely law n g b = put-all s.members m input.machine
    (λ n z. z.agent ≡ Some g → g.failsafe_check ≡ Some b →
    IsFailsafeCheckKept s.failsafe s.leader input.flight (taken_by m s.clock input.takes s.taken) n z g b)
    (λ is e. let one = some-is law.agent g (sym law.agent_is ∙ is) in
    let failsafe_request : law.agent.failsafe_check ≡ Some b = ap (λ (h : Agent). h.failsafe_check) one ∙ e in
    subst (λ (h : Agent).
    IsFailsafeCheckKept s.failsafe s.leader input.flight (taken_by m s.clock input.takes s.taken) m input.machine h b)
    one (failsafe_check-input s m input b inv timely law failsafe_request (law.failsafe_check b failsafe_request)))
    (λ k other is e. let old = inv.failsafe_check k g b is e in record {
      counted = old.counted;
      there = old.there;
      spans = λ ak. spans-input s m input law.was law.agent k (λ p. b.members p ≡ true) (sends-of s m input law)
          (λ set r p e'. absurd (input-alone s m input inv timely law (inl r.live) k ak other)) (old.spans ak);
      yes = λ p t. took-more m s.clock input.takes s.taken p k g.incarnation b.sequence (old.yes p t);
    })
    n

input-fresh : (s : State) (m : ℕ) (input : AgentInput) → IsSound s → IsLawful s m input
    → (i : ℕ) (a : Answer) (grant : Grant) → input.flight i ≡ Some (Answered a) → a.grant ≡ Some grant
    → Waits (After s m input a.member) a → IsFresh s.clock s.leader s.failsafe input.flight a.member grant
input-fresh s m input inv law i a grant at is = let at' = answered-before s m input law i a at in
    put-all s.members m input.machine
    (λ n z. a.member ≡ n → Waits z a → IsFresh s.clock s.leader s.failsafe input.flight a.member grant)
    (λ mine w.
    let one : law.agent ≡ w.agent = some-is law.agent w.agent (sym law.agent_is ∙ w.is) in
    let waits : law.agent.waits ≡ Some a.sequence = ap (λ (z : Agent). z.waits) one ∙ w.sequence in
    let incarnation : law.was.incarnation ≡ a.incarnation = sym law.incarnation
    ∙ ap (λ (z : Agent). z.incarnation) one ∙ w.incarnation in
    let old-seq : a.sequence ≤ law.was.last =
    (subst (λ (n : ℕ). IsNumbered (s.members n) a.incarnation a.sequence) mine (inv.said i a at').numbered).sequence_old
    law.was law.was_is incarnation in
    elim (law.waits a.sequence waits) [
      | inl before ↦ elim (inv.fresh i a grant at' is (record {
        agent = law.was;
        is = ap (λ (n : ℕ). (s.members n).agent) mine ∙ law.was_is;
        incarnation = incarnation;
        sequence = before;
      })) [
        | inl over ↦ inl over
        | inr p ↦ inr (record {
          found_key = p.found_key;
          key_is = p.key_is;
          revision = p.revision;
          holder = p.holder;
          lasts = p.lasts;
          listed = p.listed;
          alone = λ j q compared ttl carried at-q txn same. elim (law.flight j (Requested q) at-q) [
            | inl old ↦ p.alone j q compared ttl carried old txn same
            | inr new ↦ omega (
              arith,
              new.later,
              old-seq,
              some-is q.sequence a.sequence
                  (sym (may-renew s m input law.was law.agent q.sequence q.query compared ttl carried new.query txn).1
                  ∙ waits),
            )
          ];
        })
      ]
      | inr later ↦ absurd (omega (arith, later, old-seq))
    ])
    (λ n other mine w. elim (inv.fresh i a grant at' is (subst (λ (k : ℕ). Waits (s.members k) a) (sym mine) w)) [
      | inl over ↦ inl over
      | inr p ↦ inr (record {
        found_key = p.found_key;
        key_is = p.key_is;
        revision = p.revision;
        holder = p.holder;
        lasts = p.lasts;
        listed = p.listed;
        alone = λ j q compared ttl carried at-q txn same. elim (law.flight j (Requested q) at-q) [
          | inl old ↦ p.alone j q compared ttl carried old txn same
          | inr new ↦
              let z : LeaderSeen = record { holder = m; revision = compared } in
              let v = seen-vouched s m input.heard law.was z inv law.was_is
              (law.leader z
              (may-renew s m input law.was law.agent q.sequence q.query compared ttl carried new.query txn).0) in
              other (sym mine ∙ sym p.holder ∙ v.owner p.found_key p.key_is (p.revision ∙ sym same))
        ];
      })
    ])
    a.member refl

input-tokens : (s : State) (m : ℕ) (input : AgentInput) → IsSound s → IsLawful s m input
    → (i : ℕ) (a : Answer) (grant : Grant) → input.flight i ≡ Some (Answered a) → a.grant ≡ Some grant
    → IsToken input.flight (After s m input) i grant.revision
input-tokens s m input inv law i a grant at is =
    let t = inv.tokens i a grant (answered-before s m input law i a at) is in record {
      released = λ j q at-q txn. elim (law.flight j (Requested q) at-q) [
        | inl old ↦ t.released j q old txn
        | inr new ↦ spent s m input law grant.revision i a grant inv
            (may-release s m input law.was law.agent q.sequence q.query grant.revision new.query txn).1 at is refl
      ];
      valued =
          put-all s.members m input.machine (λ n z. (g : Agent) → z.agent ≡ Some g → g.lease ≡ Some grant.revision → ⊥)
          (λ g e v. spent s m input law grant.revision i a grant inv
          (law.lease grant.revision (ap (λ (z : Agent). z.lease) (some-is law.agent g (sym law.agent_is ∙ e)) ∙ v)) at
          is
          refl)
          (λ n other g e v. t.valued n g e v);
      single = λ j b h at-b e same. t.single j b h (answered-before s m input law j b at-b) e same;
    }

pub inv-input : (s : State) (m : ℕ) (input : AgentInput) → IsSound s → IsInTime s m input → IsLawful s m input
    → IsSound (with_input s m input)
inv-input s m input inv timely law = record {
  guarded = input-guarded s m input inv timely law;
  sole = input-sole s m input inv timely law;
  parted = put-all s.members m input.machine (λ n z. is_ready z.agent ≡ true → z.live ≡ false) law.parted
      (λ n other r. inv.parted n r);
  ready_by_grant = put-all s.members m input.machine
      (λ n z. is_ready z.agent ≡ true → z.by_failsafe ≡ false) law.ready_by_grant (λ n other r. inv.ready_by_grant n r);
  off = inv.off;
  bounded = inv.bounded;
  failsafe_bounded = inv.failsafe_bounded;
  asked = input-asked s m input inv timely law;
  said = λ i a at. let old = inv.said i a (answered-before s m input law i a at) in
      record {
        numbered = input-numbered s m input a.incarnation a.sequence law a.member old.numbered;
        seen = old.seen;
        grant = old.grant;
        order = old.order;
        listed = old.listed;
      };
  failsafe_requests = input-failsafe_request s m input inv law;
  yeses = input-yes s m input inv law;
  taken = input-taken s m input inv law;
  kept = input-kept s m input inv law;
  spans = input-spans s m input inv timely law;
  failsafe_check = input-failsafe_check s m input inv timely law;
  fresh = input-fresh s m input inv law;
  tokens = input-tokens s m input inv law;
}
