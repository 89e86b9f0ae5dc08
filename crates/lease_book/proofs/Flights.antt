-- Each event keeps that the law has the messages in flight as the book leaves them.
use Rattle.std.proofs.Common.{◌≡◌, ℕ, ◌≤◌, ◌<◌, ◌==◌, nat_lt, Bool, true, false, cond, List, Option, Some, None, refl, ◌∙◌, ap, sym, subst, arith, inl, inr, ◌⊎◌}
use Rattle.std.specs.FinMap.{find}
use Rattle.std.specs.Ordering.{nat_cmp}
use Rattle.std.specs.BTreeMap.{insert_entry}
use Rattle.pat_base.specs.declared.name.Name.{Name}
use Rattle.pat_base.specs.declared.ticks.Ticks.{Ticks}
use Rattle.lease_store.specs.Answers.{present_pairs}
use Rattle.store_keys.specs.declared.key.Key.TheVariants as keys
use Rattle.store_keys.specs.declared.value.KeyEntry.{KeyEntry}
use Rattle.store_keys.specs.declared.value.Value.{Value}
use Rattle.store_keys.specs.declared.value.Value.TheVariants as values
use Rattle.lease_store.specs.KeyOrder.{key_cmp}
use Rattle.lease_store.specs.Keys.{is_present, present}
use Rattle.lease_store.proofs.Keeping.{find_present}
use Rattle.event_book.specs.declared.event.EventKind.{EventKind}
use Rattle.event_book.specs.declared.event.EventKind.TheVariants as kinds
use Rattle.event_book.specs.declared.event.MessageEvent.{MessageEvent}
use Rattle.event_book.specs.declared.event.MessageEvent.TheVariants.{Sent, Delivered, Lost}
use Rattle.event_book.specs.declared.link.LinkEnd.{LinkEnd}
use Rattle.event_book.specs.declared.link.LinkEnd.TheVariants as ends
use Rattle.event_book.specs.declared.member.Member.{Member}
use Rattle.event_book.specs.declared.message.Body.{Body}
use Rattle.event_book.specs.declared.message.Body.TheVariants as bodies
use Rattle.store_keys.specs.Settings.{Settings}
use Rattle.event_book.specs.declared.message.Message.{Message}
use Rattle.event_book.specs.Flight.{InFlightFacts, Flight, in_flight, without_message, launched, snapshot_for, grant_for}
use Rattle.event_book.specs.Facts.{Facts, facts_after, start_of}
use Rattle.event_book.specs.Functions.{put_at}
use Rattle.lease_model.specs.Leases.{LeaderKey, FailsafeKey, Read, Question, Grant, FailsafeRequest, Acknowledgement, Flying, Requested, Answered, FailsafeRequested, Acknowledged}
use Rattle.lease_model.specs.Outcomes.{seen_of}
use Rattle.lease_model.specs.Past.{Past, first_past, query_of, lease_span, grant_of, answer_of, question_in_flight_of, answer_in_flight_of, peer_in_flight_of, flying_of, asked_with, past_after}
use Rattle.lease_model.specs.Stores.{leader_value, leader_key_of, failsafe_key_of, IsSameStore}
use Rattle.lease_law.proofs.SameStore.{ge-from, present-endless}
use Rattle.lease_model.proofs.Tools.{some-is, none-some, put-all, put-here, put-there, dropped, answered-requested}
use Rattle.std.proofs.lemmas.Bool.{cases_eq}
use Rattle.lease_book.specs.Flights.{past_at_sending, flying_carried, flying_if, AnswersBody, Answers, IsSameFlight, IsCausal}
use Rattle.lease_book.proofs.Entries.{in-with, in-without, rises-with, rises-without}

pub flight-first : (first : Settings) (names : List Name) (base : ℕ)
    → IsSameFlight first_past (start_of first names base)
flight-first first names base = record {
  same = λ i. refl;
  order = tt;
  flown = λ i carried e. absurd (none-some carried e);
  asked = λ i q e. absurd (none-some q e);
  moments = λ i carried e. absurd (none-some carried e);
  asked_when = λ i q e. absurd (none-some q e);
  kept = λ i q e. absurd (none-some (Requested q) e);
  grants = λ i carried e. absurd (none-some carried e);
  answers = λ i carried e. absurd (none-some carried e);
}

-- ---- the keys of a snapshot
held-none : (b : Bool) (o : Option KeyEntry) → leader_key_of o ≡ None → leader_key_of (cond b o None) ≡ None
held-none true o e = e
held-none false o e = refl

lease-if : (b : Bool) (now : ℕ) (expiry : Ticks) (held : KeyEntry) → nat_lt now expiry.0 ≡ b → now < expiry.0
    → leader_key_of (cond b (Some held) None) ≡ leader_key_of (Some held)
lease-if true now expiry held e before = refl
lease-if false now expiry held e before = absurd (omega (arith, ge-from now expiry.0 e, before))

present-value : (now revision : ℕ) (value : Value) (expiry : Option Ticks)
    → ((key : LeaderKey) → leader_value value revision expiry ≡ Some key → now < key.expiry)
    → leader_key_of (present now (Some (record { value = value; revision = revision; expiry = expiry })))
    ≡ leader_value value revision expiry
present-value now revision (values.Leader member) (Some expiry) has = lease-if (nat_lt now expiry.0) now expiry
    (record { value = values.Leader member; revision = revision; expiry = Some expiry }) refl
    (has (record { holder = member.number; revision = revision; expiry = expiry.0 }) refl)
present-value now revision (values.Leader member) None has = refl
present-value now revision (values.Config config) expiry has = held-none (is_present now expiry)
    (Some (record { value = values.Config config; revision = revision; expiry = expiry })) refl
present-value now revision (values.Member info) expiry has = held-none (is_present now expiry)
    (Some (record { value = values.Member info; revision = revision; expiry = expiry })) refl
present-value now revision (values.Failover key) expiry has = held-none (is_present now expiry)
    (Some (record { value = values.Failover key; revision = revision; expiry = expiry })) refl
present-value now revision (values.Sync key) expiry has = held-none (is_present now expiry)
    (Some (record { value = values.Sync key; revision = revision; expiry = expiry })) refl
present-value now revision (values.Status end) expiry has = held-none (is_present now expiry)
    (Some (record { value = values.Status end; revision = revision; expiry = expiry })) refl
present-value now revision (values.History row) expiry has = held-none (is_present now expiry)
    (Some (record { value = values.History row; revision = revision; expiry = expiry })) refl
present-value now revision (values.Failsafe members) expiry has = held-none (is_present now expiry)
    (Some (record { value = values.Failsafe members; revision = revision; expiry = expiry })) refl
present-value now revision (values.Scheduled planned) expiry has = held-none (is_present now expiry)
    (Some (record { value = values.Scheduled planned; revision = revision; expiry = expiry })) refl

present-leader : (now : ℕ) (found : Option KeyEntry)
    → ((key : LeaderKey) → leader_key_of found ≡ Some key → now < key.expiry)
    → leader_key_of (present now found) ≡ leader_key_of found
present-leader now None has = refl
present-leader now (Some held) has = present-value now held.revision held.value held.expiry has

pub snapshot-leader : (past : Past) (facts : Facts) → IsSameStore past facts
    → past.leader ≡ leader_key_of (find key_cmp keys.Leader (present_pairs facts.clock facts.keys.pairs))
snapshot-leader past facts store =
    store.leader
    ∙ sym (present-leader facts.clock (find key_cmp keys.Leader facts.keys.pairs)
    (λ key e. omega (arith, store.clock, store.present key (store.leader ∙ e))))
    ∙ ap leader_key_of (sym (find_present facts.clock keys.Leader facts.keys.pairs store.kept.order))

pub snapshot-failsafe : (past : Past) (facts : Facts) → IsSameStore past facts
    → past.failsafe ≡ failsafe_key_of (find key_cmp keys.Failsafe (present_pairs facts.clock facts.keys.pairs))
snapshot-failsafe past facts store =
    store.failsafe
    ∙ ap failsafe_key_of
    (sym (find_present facts.clock keys.Failsafe facts.keys.pairs store.kept.order
    ∙ present-endless facts.clock (find key_cmp keys.Failsafe facts.keys.pairs) store.endless))

-- ---- what the law reads of a message as it is sent: the same of two pasts that agree on these parts
abbrev ReadsSameBody : Past → Past → Body → Type 0
ReadsSameBody p q bodies.Snapshot = (p.leader ≡ q.leader) × (p.failsafe ≡ q.failsafe)
ReadsSameBody p q (bodies.Granted request leased) = (p.leader ≡ q.leader)
    × ((p.failsafe ≡ q.failsafe) × ((p.revision ≡ q.revision) × (p.asked request ≡ q.asked request)))
ReadsSameBody p q _ = Unit {0}

abbrev ReadsSame : Past → Past → LinkEnd → LinkEnd → Body → Type 0
ReadsSame p q ends.Store (ends.Member member) body = ReadsSameBody p q body
ReadsSame p q _ to body = Unit {0}

answered-eq : (m incarnation sequence : ℕ) (l k : Option LeaderKey) (f h : Option FailsafeKey) (g r : Option Grant)
    → l ≡ k → f ≡ h → g ≡ r
    → ◌≡◌ {A = Option Flying} (Some (Answered (record {
      member = m;
      incarnation = incarnation;
      sequence = sequence;
      leader = seen_of l;
      failsafe = f;
      grant = g;
    }))) (Some (Answered (record {
      member = m;
      incarnation = incarnation;
      sequence = sequence;
      leader = seen_of k;
      failsafe = h;
      grant = r;
    })))
answered-eq m incarnation sequence l k f h g r a b c =
    ap (λ (x : Option LeaderKey). Some (Answered (record {
      member = m;
      incarnation = incarnation;
      sequence = sequence;
      leader = seen_of x;
      failsafe = f;
      grant = g;
    }))) a
    ∙ ap (λ (x : Option FailsafeKey). Some (Answered (record {
      member = m;
      incarnation = incarnation;
      sequence = sequence;
      leader = seen_of k;
      failsafe = x;
      grant = g;
    }))) b
    ∙ ap (λ (x : Option Grant). Some (Answered (record {
      member = m;
      incarnation = incarnation;
      sequence = sequence;
      leader = seen_of k;
      failsafe = h;
      grant = x;
    }))) c

grant-eq : (r v s c d t : ℕ) (f h : Option FailsafeKey) → r ≡ v → c ≡ d → f ≡ h
    → ◌≡◌ {A = Option Grant} (Some (record { revision = r; sent = s; moment = c; ttl = t; failsafe = f }))
    (Some (record { revision = v; sent = s; moment = d; ttl = t; failsafe = h }))
grant-eq r v s c d t f h a b e = cc

grant-same : (leased : Bool) (p q : Past) (asked : Option Question) → p.revision ≡ q.revision
    → p.clock ≡ q.clock → p.failsafe ≡ q.failsafe → grant_of leased p asked ≡ grant_of leased q asked
grant-same true p q (Some request) a b c =
    grant-eq p.revision q.revision request.sent p.clock q.clock (lease_span request.query) p.failsafe q.failsafe a b c
grant-same true p q None a b c = refl
grant-same false p q asked a b c = refl

answer-same : (p q : Past) (m incarnation sequence : ℕ) (body : Body) → p.clock ≡ q.clock → ReadsSameBody p q body
    → answer_in_flight_of p m incarnation sequence body ≡ answer_in_flight_of q m incarnation sequence body
answer-same p q m incarnation sequence bodies.Snapshot clock is =
    answered-eq m incarnation sequence p.leader q.leader p.failsafe q.failsafe None None is.0 is.1 refl
answer-same p q m incarnation sequence (bodies.Granted request leased) clock is =
    answered-eq m incarnation sequence p.leader q.leader p.failsafe q.failsafe
    (grant_of leased p (p.asked request)) (grant_of leased q (q.asked request)) is.0 is.1.0
    (grant-same leased p q (p.asked request) is.1.1.0 clock is.1.0
    ∙ ap (λ (o : Option Question). grant_of leased q o) is.1.1.1)
answer-same p q m incarnation sequence (bodies.Refused request key found) clock is = refl
answer-same p q m incarnation sequence _ clock is = refl

question-same : (p q : Past) (m incarnation sequence : ℕ) (body : Body) → p.clock ≡ q.clock
    → question_in_flight_of p m incarnation sequence body ≡ question_in_flight_of q m incarnation sequence body
question-same p q m incarnation sequence bodies.Read clock =
    ap (λ (c : ℕ).
    Some (Requested (record { member = m; incarnation = incarnation; sequence = sequence; sent = c; query = Read })))
    clock
question-same p q m incarnation sequence (bodies.Request txn) clock =
    ap (λ (c : ℕ). Some
    (Requested (record { member = m; incarnation = incarnation; sequence = sequence; sent = c; query = query_of txn })))
    clock
question-same p q m incarnation sequence _ clock = refl

peer-same : (p q : Past) (by m incarnation sequence : ℕ) (body : Body) → p.clock ≡ q.clock
    → peer_in_flight_of p by m incarnation sequence body ≡ peer_in_flight_of q by m incarnation sequence body
peer-same p q by m incarnation sequence (bodies.FailsafeRequest ttl) clock =
    ap (λ (c : ℕ). Some
    (FailsafeRequested (record { member = by; incarnation = incarnation; sequence = sequence; ttl = ttl.0; sent = c })))
    clock
peer-same p q by m incarnation sequence (bodies.FailsafeAnswer true) clock = refl
peer-same p q by m incarnation sequence (bodies.FailsafeAnswer false) clock = refl
peer-same p q by m incarnation sequence _ clock = refl

pub flying-same : (p q : Past) (from to : LinkEnd) (incarnation sequence : ℕ) (body : Body)
    → p.clock ≡ q.clock → ReadsSame p q from to body
    → flying_of p from to incarnation sequence body ≡ flying_of q from to incarnation sequence body
flying-same p q (ends.Member by) ends.Store incarnation sequence body clock is =
    question-same p q by.id.number incarnation sequence body clock
flying-same p q ends.Store (ends.Member member) incarnation sequence body clock is =
    answer-same p q member.id.number incarnation sequence body clock is
flying-same p q (ends.Member by) (ends.Member member) incarnation sequence body clock is =
    peer-same p q by.id.number member.id.number incarnation sequence body clock
flying-same p q ends.Store ends.Store incarnation sequence body clock is = refl

-- an answer that is sent asks nothing
answer-asks : (past : Past) (number m incarnation sequence : ℕ) (body : Body) (r : ℕ)
    → past.asked r ≡ asked_with past.asked number (answer_in_flight_of past m incarnation sequence body) r
answer-asks past number m incarnation sequence bodies.Snapshot r = refl
answer-asks past number m incarnation sequence (bodies.Granted request leased) r = refl
answer-asks past number m incarnation sequence (bodies.Refused request key found) r = refl
answer-asks past number m incarnation sequence _ r = refl

-- what is carried with a message of this body
abbrev Carried : Facts → Message → LinkEnd → Body → InFlightFacts
Carried facts message to body = record {
  message = message;
  sent = record { 0 = facts.clock };
  snapshot = snapshot_for body (present_pairs facts.clock facts.keys.pairs);
  grant = grant_for body to facts.keys.revision;
}

sent-reads-body : (past : Past) (facts : Facts) (message : Message) (number : ℕ) (member : Member)
    (incarnation sequence : ℕ) (body : Body) → IsSameStore past facts
    → ReadsSameBody past
    (past_at_sending (asked_with past.asked number
    (answer_in_flight_of past member.id.number incarnation sequence body))
    (Carried facts message (ends.Member member) body))
    body
sent-reads-body past facts message number member incarnation sequence bodies.Snapshot store =
    (snapshot-leader past facts store, snapshot-failsafe past facts store)
sent-reads-body past facts message number member incarnation sequence (bodies.Granted request leased) store = (
  snapshot-leader past facts store,
  (
    snapshot-failsafe past facts store,
    (
      store.revision,
      answer-asks past number member.id.number incarnation sequence (bodies.Granted request leased) request,
    ),
  ),
)
sent-reads-body past facts message number member incarnation sequence _ store = tt

sent-reads : (past : Past) (facts : Facts) (message : Message) (number : ℕ) (from to : LinkEnd)
    (incarnation sequence : ℕ) (body : Body) → IsSameStore past facts
    → ReadsSame past
    (past_at_sending (asked_with past.asked number (flying_of past from to incarnation sequence body))
    (Carried facts message to body))
    from to body
sent-reads past facts message number (ends.Member by) to incarnation sequence body store = tt
sent-reads past facts message number ends.Store ends.Store incarnation sequence body store = tt
sent-reads past facts message number ends.Store (ends.Member member) incarnation sequence body store =
    sent-reads-body past facts message number member incarnation sequence body store

flying-sent : (past : Past) (facts : Facts) (message : Message) (number : ℕ) → IsSameStore past facts →
    let flying : Option Flying =
    flying_of past message.from message.to message.incarnation message.sequence message.body in
    flying ≡ flying_carried (asked_with past.asked number flying) (launched facts.clock facts.keys message)
flying-sent past facts message number store =
    let flying : Option Flying =
    flying_of past message.from message.to message.incarnation message.sequence message.body in
    flying-same past (past_at_sending (asked_with past.asked number flying) (launched facts.clock facts.keys message))
    message.from message.to message.incarnation message.sequence message.body store.clock
    (sent-reads past facts message number message.from message.to message.incarnation message.sequence
    message.body store)

-- ---- more questions are asked
abbrev Grows : (ℕ → Option Question) → (ℕ → Option Question) → Type 0
Grows asked more = (i : ℕ) (q : Question) → asked i ≡ Some q → more i ≡ Some q

grown-reads-body : (asked more : ℕ → Option Question) (carried : InFlightFacts) (m incarnation sequence : ℕ)
    (body : Body) → Grows asked more → AnswersBody asked m incarnation sequence body
    → ReadsSameBody (past_at_sending asked carried) (past_at_sending more carried) body
grown-reads-body asked more carried m incarnation sequence bodies.Snapshot grows is = (refl, refl)
grown-reads-body asked more carried m incarnation sequence (bodies.Granted request leased) grows is =
    (refl, (refl, (refl, is.is ∙ sym (grows request is.question is.is))))
grown-reads-body asked more carried m incarnation sequence _ grows is = tt

grown-reads : (asked more : ℕ → Option Question) (carried : InFlightFacts) (from to : LinkEnd)
    (incarnation sequence : ℕ) (body : Body) → Grows asked more → Answers asked from to incarnation sequence body
    → ReadsSame (past_at_sending asked carried) (past_at_sending more carried) from to body
grown-reads asked more carried (ends.Member by) to incarnation sequence body grows is = tt
grown-reads asked more carried ends.Store ends.Store incarnation sequence body grows is = tt
grown-reads asked more carried ends.Store (ends.Member member) incarnation sequence body grows is =
    grown-reads-body asked more carried member.id.number incarnation sequence body grows is

grown-body : (asked more : ℕ → Option Question) (m incarnation sequence : ℕ) (body : Body) → Grows asked more
    → AnswersBody asked m incarnation sequence body → AnswersBody more m incarnation sequence body
grown-body asked more m incarnation sequence (bodies.Granted request leased) grows is =
    record {
      question = is.question;
      is = grows request is.question is.is;
      asker = is.asker;
      in_run = is.in_run;
      numbered = is.numbered;
      leasing = is.leasing;
    }
grown-body asked more m incarnation sequence _ grows is = tt

grown-answers : (asked more : ℕ → Option Question) (from to : LinkEnd) (incarnation sequence : ℕ) (body : Body)
    → Grows asked more → Answers asked from to incarnation sequence body
    → Answers more from to incarnation sequence body
grown-answers asked more (ends.Member by) to incarnation sequence body grows is = tt
grown-answers asked more ends.Store ends.Store incarnation sequence body grows is = tt
grown-answers asked more ends.Store (ends.Member member) incarnation sequence body grows is =
    grown-body asked more member.id.number incarnation sequence body grows is

flying-grown : (asked more : ℕ → Option Question) (found : Option InFlightFacts) → Grows asked more
    → ((carried : InFlightFacts) → found ≡ Some carried → Answers asked carried.message.from
    carried.message.to carried.message.incarnation carried.message.sequence carried.message.body)
    → flying_if asked found ≡ flying_if more found
flying-grown asked more None grows is = refl
flying-grown asked more (Some carried) grows is =
    flying-same (past_at_sending asked carried) (past_at_sending more carried) carried.message.from
    carried.message.to carried.message.incarnation carried.message.sequence carried.message.body refl
    (grown-reads asked more carried carried.message.from carried.message.to carried.message.incarnation
    carried.message.sequence carried.message.body grows (is carried refl))

-- ---- a message is sent
pub failsafe_requested-requested : (b : FailsafeRequest) (q : Question)
    → ◌≡◌ {A = Option Flying} (Some (FailsafeRequested b)) (Some (Requested q)) → ⊥
failsafe_requested-requested b q e = cc

pub acknowledged-requested : (h : Acknowledgement) (q : Question)
    → ◌≡◌ {A = Option Flying} (Some (Acknowledged h)) (Some (Requested q)) → ⊥
acknowledged-requested h q e = cc

pub none-requested : (q : Question) → ◌≡◌ {A = Option Flying} None (Some (Requested q)) → ⊥
none-requested q e = cc

pub requested-is : (r q : Question) → ◌≡◌ {A = Option Flying} (Some (Requested r)) (Some (Requested q)) → r ≡ q
requested-is r q e = cc

asked-here : (asked : ℕ → Option Question) (number : ℕ) (flying : Option Flying) (q : Question)
    → flying ≡ Some (Requested q) → asked_with asked number flying number ≡ Some q
asked-here asked number (Some (Requested r)) q e =
    put-here asked number (Some r) ∙ ap (λ (x : Question). Some x) (requested-is r q e)
asked-here asked number (Some (Answered a)) q e = absurd (answered-requested a q e)
asked-here asked number (Some (FailsafeRequested b)) q e = absurd (failsafe_requested-requested b q e)
asked-here asked number (Some (Acknowledged h)) q e = absurd (acknowledged-requested h q e)
asked-here asked number None q e = absurd (none-requested q e)

pub asked-there : (asked : ℕ → Option Question) (number : ℕ) (flying : Option Flying) (n : ℕ)
    → (n ≡ number → ⊥) → asked_with asked number flying n ≡ asked n
asked-there asked number (Some (Requested r)) n other = put-there asked number (Some r) n other
asked-there asked number (Some (Answered a)) n other = refl
asked-there asked number (Some (FailsafeRequested b)) n other = refl
asked-there asked number (Some (Acknowledged h)) n other = refl
asked-there asked number None n other = refl

pub asked-new : (asked : ℕ → Option Question) (number : ℕ) (flying : Option Flying) (q : Question)
    → asked_with asked number flying number ≡ Some q → (flying ≡ Some (Requested q)) ⊎ (asked number ≡ Some q)
asked-new asked number (Some (Requested r)) q e =
    inl (ap (λ (x : Question). Some (Requested x)) (some-is r q (sym (put-here asked number (Some r)) ∙ e)))
asked-new asked number (Some (Answered a)) q e = inr e
asked-new asked number (Some (FailsafeRequested b)) q e = inr e
asked-new asked number (Some (Acknowledged h)) q e = inr e
asked-new asked number None q e = inr e

-- a question is sent at the moment of its sending
answer-now : (past : Past) (m incarnation sequence : ℕ) (body : Body) (q : Question)
    → answer_in_flight_of past m incarnation sequence body ≡ Some (Requested q) → q.sent ≡ past.clock
answer-now past m incarnation sequence bodies.Snapshot q e =
    absurd (answered-requested (answer_of past m incarnation sequence true None) q e)
answer-now past m incarnation sequence (bodies.Granted request leased) q e = absurd
    (answered-requested (answer_of past m incarnation sequence true (grant_of leased past (past.asked request))) q e)
answer-now past m incarnation sequence (bodies.Refused request key found) q e =
    absurd (answered-requested (answer_of past m incarnation sequence false None) q e)
answer-now past m incarnation sequence _ q e = absurd (none-requested q e)

question-now : (past : Past) (m incarnation sequence : ℕ) (body : Body) (q : Question)
    → question_in_flight_of past m incarnation sequence body ≡ Some (Requested q) → q.sent ≡ past.clock
question-now past m incarnation sequence bodies.Read q e = ap (λ (x : Question). x.sent)
    (sym (requested-is
    (record { member = m; incarnation = incarnation; sequence = sequence; sent = past.clock; query = Read }) q e))
question-now past m incarnation sequence (bodies.Request txn) q e = ap (λ (x : Question). x.sent)
    (sym (requested-is (record {
      member = m;
      incarnation = incarnation;
      sequence = sequence;
      sent = past.clock;
      query = query_of txn;
    }) q e))
question-now past m incarnation sequence _ q e = absurd (none-requested q e)

peer-now : (past : Past) (by m incarnation sequence : ℕ) (body : Body) (q : Question)
    → peer_in_flight_of past by m incarnation sequence body ≡ Some (Requested q) → q.sent ≡ past.clock
peer-now past by m incarnation sequence (bodies.FailsafeRequest ttl) q e =
    absurd (failsafe_requested-requested
    (record { member = by; incarnation = incarnation; sequence = sequence; ttl = ttl.0; sent = past.clock }) q e)
peer-now past by m incarnation sequence (bodies.FailsafeAnswer true) q e =
    absurd (acknowledged-requested (record { member = m; incarnation = incarnation; sequence = sequence; by = by }) q e)
peer-now past by m incarnation sequence (bodies.FailsafeAnswer false) q e = absurd (none-requested q e)
peer-now past by m incarnation sequence _ q e = absurd (none-requested q e)

asks-now : (past : Past) (from to : LinkEnd) (incarnation sequence : ℕ) (body : Body) (q : Question)
    → flying_of past from to incarnation sequence body ≡ Some (Requested q) → q.sent ≡ past.clock
asks-now past (ends.Member by) ends.Store incarnation sequence body q e =
    question-now past by.id.number incarnation sequence body q e
asks-now past ends.Store (ends.Member member) incarnation sequence body q e =
    answer-now past member.id.number incarnation sequence body q e
asks-now past (ends.Member by) (ends.Member member) incarnation sequence body q e =
    peer-now past by.id.number member.id.number incarnation sequence body q e
asks-now past ends.Store ends.Store incarnation sequence body q e = absurd (none-requested q e)

-- a question of a number above those asked is one more
asked-grows : (past : Past) (facts : Facts) (number : ℕ) (flying : Option Flying) → facts.sent < number
    → IsSameFlight past facts → Grows past.asked (asked_with past.asked number flying)
asked-grows past facts number flying above old i q is =
    asked-there past.asked number flying i (λ e. omega (arith, e, above, old.asked i q is)) ∙ is

sent-at : (past : Past) (facts : Facts) (number : ℕ) (message : Message) (i : ℕ) (b : Bool)
    → IsSameStore past facts → IsSameFlight past facts → facts.sent < number →
    let flying : Option Flying =
    flying_of past message.from message.to message.incarnation message.sequence message.body in
    cond b flying (past.flight i)
    ≡ flying_if (asked_with past.asked number flying)
    (cond b (Some (launched facts.clock facts.keys message)) (in_flight facts.flight i))
sent-at past facts number message i true store old above = flying-sent past facts message number store
sent-at past facts number message i false store old above =
    let flying : Option Flying =
    flying_of past message.from message.to message.incarnation message.sequence message.body in
    old.same i
    ∙ flying-grown past.asked (asked_with past.asked number flying) (in_flight facts.flight i)
    (asked-grows past facts number flying above old) (old.answers i)

flight-sent : (past : Past) (facts : Facts) (number : ℕ) (message : Message) → facts.sent < number
    → Answers past.asked message.from message.to message.incarnation message.sequence message.body
    → IsSameStore past facts → IsSameFlight past facts
    → IsSameFlight (past_after past (kinds.Message (Sent number message)))
    (facts_after facts (kinds.Message (Sent number message)))
flight-sent past facts number message above answers store old =
    let flying : Option Flying =
    flying_of past message.from message.to message.incarnation message.sequence message.body in
    let more : (ℕ → Option Question) = asked_with past.asked number flying in
    let one : InFlightFacts = launched facts.clock facts.keys message in
    let grows : Grows past.asked more = asked-grows past facts number flying above old in
    let with_it : Flight = insert_entry nat_cmp facts.flight number one in
    record {
      same = λ i. sent-at past facts number message i (i == number) store old above
          ∙ ap (λ (o : Option InFlightFacts). flying_if more o) (sym (in-with facts.flight number one i));
      order = rises-with 0 facts.flight number one (omega arith) old.order;
      flown = λ i carried e. put-all (in_flight facts.flight) number (Some one) (λ n o. o ≡ Some carried → n ≤ number)
          (λ is. omega arith) (λ n other is. omega (arith, above, old.flown n carried is)) i
          (sym (in-with facts.flight number one i) ∙ e);
      asked = λ i q e. asked-below i q (cases_eq i number) e;
      moments = λ i carried e. moment-with i carried (cases_eq i number) (sym (in-with facts.flight number one i) ∙ e);
      asked_when = λ i q e. when-with i q (cases_eq i number) e;
      kept = λ i q at. put-all past.flight number flying (λ n o. o ≡ Some (Requested q) → more n ≡ Some q)
          (λ e. asked-here past.asked number flying q e)
          (λ n other e. grows n q (old.kept n q e)) i at;
      grants = λ i carried e. put-all (in_flight facts.flight) number (Some one)
          (λ n o. o ≡ Some carried →
          (revision : ℕ) × (carried.grant ≡ grant_for carried.message.body carried.message.to revision))
          (λ is.
          subst (λ (c : InFlightFacts). (revision : ℕ) × (c.grant ≡ grant_for c.message.body c.message.to revision))
          (some-is one carried is) (facts.keys.revision, refl))
          (λ n other is. old.grants n carried is) i (sym (in-with facts.flight number one i) ∙ e);
      answers = λ i carried e. put-all (in_flight facts.flight) number (Some one)
          (λ n o. o ≡ Some carried → Answers more carried.message.from carried.message.to
          carried.message.incarnation carried.message.sequence carried.message.body)
          (λ is.
          subst (λ (c : InFlightFacts).
          Answers more c.message.from c.message.to c.message.incarnation c.message.sequence c.message.body)
          (some-is one carried is)
          (grown-answers past.asked more message.from message.to message.incarnation message.sequence
          message.body grows answers))
          (λ n other is. grown-answers past.asked more carried.message.from carried.message.to
          carried.message.incarnation carried.message.sequence carried.message.body grows (old.answers n carried is))
          i (sym (in-with facts.flight number one i) ∙ e);
    }
  where
    asked-below : (i : ℕ) (q : Question) → ((i ≡ number) ⊎ (i ≡ number → ⊥))
        → asked_with past.asked number
        (flying_of past message.from message.to message.incarnation message.sequence message.body) i ≡ Some q
        → i ≤ number
    asked-below i q (inl e) is = omega (arith, e)
    asked-below i q (inr other) is =
        omega (
          arith,
          above,
          old.asked i q
              (sym (asked-there past.asked number
              (flying_of past message.from message.to message.incarnation message.sequence message.body) i other)
              ∙ is),
        )

    moment-with : (i : ℕ) (carried : InFlightFacts) → ((i ≡ number) ⊎ (i ≡ number → ⊥))
        → put_at (in_flight facts.flight) number (Some (launched facts.clock facts.keys message)) i ≡ Some carried
        → (put_at past.sent number (Some past.clock) i ≡ Some carried.sent.0) × (carried.sent.0 ≤ past.clock)
    moment-with i carried (inl e) is =
        let one : InFlightFacts = launched facts.clock facts.keys message in
        let same : one ≡ carried = some-is one carried
        (sym (put-here (in_flight facts.flight) number (Some one))
        ∙ ap (λ (n : ℕ). put_at (in_flight facts.flight) number (Some one) n) (sym e) ∙ is) in
        let at : past.clock ≡ carried.sent.0 = store.clock ∙ ap (λ (c : InFlightFacts). c.sent.0) same in (
          ap (λ (n : ℕ). put_at past.sent number (Some past.clock) n) e
              ∙ put-here past.sent number (Some past.clock) ∙ ap (λ (n : ℕ). Some n) at,
          omega (arith, at),
        )
    moment-with i carried (inr other) is =
        let m = old.moments i carried
        (sym (put-there (in_flight facts.flight) number (Some (launched facts.clock facts.keys message)) i other)
        ∙ is) in
        (put-there past.sent number (Some past.clock) i other ∙ m.0, m.1)

    when-with : (i : ℕ) (q : Question) → ((i ≡ number) ⊎ (i ≡ number → ⊥))
        → asked_with past.asked number
        (flying_of past message.from message.to message.incarnation message.sequence message.body) i ≡ Some q
        → put_at past.sent number (Some past.clock) i ≡ Some q.sent
    when-with i q (inl e) is =
        let flying : Option Flying =
        flying_of past message.from message.to message.incarnation message.sequence message.body in
        let here : asked_with past.asked number flying number ≡ Some q =
        ap (λ (n : ℕ). asked_with past.asked number flying n) (sym e) ∙ is in
        ap (λ (n : ℕ). put_at past.sent number (Some past.clock) n) e ∙ put-here past.sent number (Some past.clock)
        ∙ ap (λ (n : ℕ). Some n) (sym (elim (asked-new past.asked number flying q here) [
          | inl new ↦ asks-now past message.from message.to message.incarnation message.sequence message.body q new
          | inr was ↦ absurd (omega (arith, above, old.asked number q was))
        ]))
    when-with i q (inr other) is =
        put-there past.sent number (Some past.clock) i other
        ∙ old.asked_when i q
        (sym (asked-there past.asked number
        (flying_of past message.from message.to message.incarnation message.sequence message.body) i other)
        ∙ is)

-- ---- a message is in flight no more
gone-at : (past : Past) (facts : Facts) (i : ℕ) (b : Bool) → IsSameFlight past facts
    → cond b None (past.flight i) ≡ flying_if past.asked (cond b None (in_flight facts.flight i))
gone-at past facts i true old = refl
gone-at past facts i false old = old.same i

-- the past without a message, and what the book leaves without it
abbrev pub PastWithout : Past → ℕ → Past
PastWithout past number = record past { flight = put_at past.flight number None }

abbrev pub FactsWithout : Facts → ℕ → Facts
FactsWithout facts number = record facts { flight = without_message facts.flight number }

flight-gone : (past : Past) (facts : Facts) (number : ℕ) → IsSameFlight past facts
    → IsSameFlight (PastWithout past number) (FactsWithout facts number)
flight-gone past facts number old =
    let found =
    λ (i : ℕ) (carried : InFlightFacts) (e : in_flight (without_message facts.flight number) i ≡ Some carried).
    dropped (in_flight facts.flight) number i carried (sym (in-without 0 facts.flight number i old.order) ∙ e) in
    record {
      same = λ i. gone-at past facts i (i == number) old
          ∙ ap (λ (o : Option InFlightFacts). flying_if past.asked o)
          (sym (in-without 0 facts.flight number i old.order));
      order = rises-without 0 facts.flight number old.order;
      flown = λ i carried e. old.flown i carried (found i carried e);
      asked = old.asked;
      moments = λ i carried e. old.moments i carried (found i carried e);
      asked_when = old.asked_when;
      kept = λ i q at. old.kept i q (dropped past.flight number i (Requested q) at);
      grants = λ i carried e. old.grants i carried (found i carried e);
      answers = λ i carried e. old.answers i carried (found i carried e);
    }

flight-message : (past : Past) (facts : Facts) (e : MessageEvent) → IsCausal past facts (kinds.Message e)
    → IsSameStore past facts → IsSameFlight past facts
    → IsSameFlight (past_after past (kinds.Message e)) (facts_after facts (kinds.Message e))
flight-message past facts (Sent number message) causal store old =
    flight-sent past facts number message causal.0 causal.1 store old
flight-message past facts (Delivered number) causal store old =
    let less = flight-gone past facts number old in
    record {
      same = less.same;
      order = less.order;
      flown = less.flown;
      asked = less.asked;
      moments = less.moments;
      asked_when = less.asked_when;
      kept = less.kept;
      grants = less.grants;
      answers = less.answers;
    }
flight-message past facts (Lost number) causal store old =
    let less = flight-gone past facts number old in
    record {
      same = less.same;
      order = less.order;
      flown = less.flown;
      asked = less.asked;
      moments = less.moments;
      asked_when = less.asked_when;
      kept = less.kept;
      grants = less.grants;
      answers = less.answers;
    }

pub flight-by : (past : Past) (facts : Facts) (kind : EventKind) → IsCausal past facts kind → IsSameStore past facts
    → IsSameFlight past facts → IsSameFlight (past_after past kind) (facts_after facts kind)
flight-by past facts (kinds.Message e) causal store old = flight-message past facts e causal store old
flight-by past facts kinds.Tick causal store old = record {
  same = old.same;
  order = old.order;
  flown = old.flown;
  asked = old.asked;
  moments = λ i carried e. let m = old.moments i carried e in (m.0, omega (arith, m.1));
  asked_when = old.asked_when;
  kept = old.kept;
  grants = old.grants;
  answers = old.answers;
}
flight-by past facts (kinds.Store e) causal store old = record {
  same = old.same;
  order = old.order;
  flown = old.flown;
  asked = old.asked;
  moments = old.moments;
  asked_when = old.asked_when;
  kept = old.kept;
  grants = old.grants;
  answers = old.answers;
}
flight-by past facts _ causal store old = record {
  same = old.same;
  order = old.order;
  flown = old.flown;
  asked = old.asked;
  moments = old.moments;
  asked_when = old.asked_when;
  kept = old.kept;
  grants = old.grants;
  answers = old.answers;
}
