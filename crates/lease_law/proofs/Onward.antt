-- What is said of keys and revisions stays true as they go on: a key
-- that is there is the old one, or has a new revision.
use Rattle.std.proofs.Common.{◌≡◌, ◌⊎◌, ℕ, ◌≤◌, ◌<◌, Bool, Option, Some, None, arith, inl, inr}
use Rattle.store_keys.specs.declared.txn.Expected.TheVariants.{Absent, Revision}
use Rattle.lease_model.specs.Leases.{LeaderKey, FailsafeKey, Query, Create, Renew, Release, Write, Read, Question, Grant, Answer, Flying, Requested}
use Rattle.lease_model.specs.States.{Agent, Machine}
use Rattle.lease_model.specs.Carried.{Spans, HoldsCover, IsThere, IsFailsafeVouched, IsListed, IsVouched, IsQueryKept, IsQuestionKept, IsAnswerKept, IsAgentKept, IsPresent}

pub record KeyAfter (key : Option LeaderKey) (top : ℕ) (key' : Option LeaderKey) (top' : ℕ) : Type 0 where
  pub grows : top ≤ top'
  pub known : (k : LeaderKey) → key' ≡ Some k → (key ≡ Some k) ⊎ ((top < k.revision) × (k.revision ≤ top'))

pub record FAfter (fkey : Option FailsafeKey) (top : ℕ) (fkey' : Option FailsafeKey) (top' : ℕ) : Type 0 where
  pub grows : top ≤ top'
  pub known : (f : FailsafeKey) → fkey' ≡ Some f → (fkey ≡ Some f) ⊎ ((top < f.revision) × (f.revision ≤ top'))
  pub stays : IsThere fkey → IsThere fkey'

pub f-same : (fkey : Option FailsafeKey) (top top' : ℕ) → top ≤ top' → FAfter fkey top fkey top'
f-same fkey top top' grows = record { grows = grows; known = λ f is. inl is; stays = λ t. t }

pub vouched-after : (key key' : Option LeaderKey) (top top' m r : ℕ) → KeyAfter key top key' top'
    → IsVouched key top m r → IsVouched key' top' m r
vouched-after key key' top top' m r a v = record {
  bound = omega (arith, v.bound, a.grows);
  owner = λ k is same.
      elim (a.known k is) [ inl p ↦ v.owner k p same | inr p ↦ absurd (omega (arith, p.0, same, v.bound)) ];
}

fvouched-after : (fkey fkey' : Option FailsafeKey) (top top' : ℕ) (z : FailsafeKey)
    → FAfter fkey top fkey' top' → IsFailsafeVouched fkey top z → IsFailsafeVouched fkey' top' z
fvouched-after fkey fkey' top top' z a v = record {
  bound = omega (arith, v.bound, a.grows);
  same =
      λ f is same. elim (a.known f is) [ inl p ↦ v.same f p same | inr p ↦ absurd (omega (arith, p.0, same, v.bound)) ];
  there = a.stays v.there;
}

flisted-after : (fkey fkey' : Option FailsafeKey) (top top' m r : ℕ) → FAfter fkey top fkey' top'
    → IsListed fkey top m r → IsListed fkey' top' m r
flisted-after fkey fkey' top top' m r a v = record {
  bound = omega (arith, v.bound, a.grows);
  lists = λ f is same.
      elim (a.known f is) [ inl p ↦ v.lists f p same | inr p ↦ absurd (omega (arith, p.0, same, v.bound)) ];
}

pub asked-after : (mode : Bool) (key key' : Option LeaderKey) (fkey fkey' : Option FailsafeKey) (top top' : ℕ)
    (members : ℕ → Machine) (m : ℕ) (query : Query) → KeyAfter key top key' top' → FAfter fkey top fkey' top'
    → IsQueryKept mode key fkey top members m query → IsQueryKept mode key' fkey' top' members m query
asked-after mode key key' fkey fkey' top top' members m (Renew compared ttl None) a b v =
    vouched-after key key' top top' m compared a v
asked-after mode key key' fkey fkey' top top' members m (Renew compared ttl (Some set)) a b v = (
  vouched-after key key' top top' m compared a v.0,
  λ k is same n acts.
      elim (a.known k is) [ inl p ↦ v.1 k p same n acts | inr p ↦ absurd (omega (arith, p.0, same, v.0.bound)) ],
  v.2,
)
asked-after mode key key' fkey fkey' top top' members m (Release compared) a b v = (
  vouched-after key key' top top' m compared a v.0,
  λ k is same acts.
      elim (a.known k is) [ inl p ↦ v.1 k p same acts | inr p ↦ absurd (omega (arith, p.0, same, v.0.bound)) ],
)
asked-after mode key key' fkey fkey' top top' members m (Create ttl None) a b v = v
asked-after mode key key' fkey fkey' top top' members m (Create ttl (Some Absent)) a b v = tt
asked-after mode key key' fkey fkey' top top' members m (Create ttl (Some (Revision r))) a b v =
    flisted-after fkey fkey' top top' m r b v
asked-after mode key key' fkey fkey' top top' members m Write a b v = tt
asked-after mode key key' fkey fkey' top top' members m Read a b v = tt

pub request-after : (mode : Bool) (clock clock' : ℕ) (key key' : Option LeaderKey)
    (fkey fkey' : Option FailsafeKey) (top top' : ℕ) (members : ℕ → Machine) (q : Question) → clock ≤ clock'
    → KeyAfter key top key' top' → FAfter fkey top fkey' top'
    → IsQuestionKept mode clock key fkey top members q → IsQuestionKept mode clock' key' fkey' top' members q
request-after mode clock clock' key key' fkey fkey' top top' members q later a b ok = record {
  numbered = ok.numbered;
  sent = omega (arith, ok.sent, later);
  query = asked-after mode key key' fkey fkey' top top' members q.member q.query a b ok.query;
}

pub answer-after : (key key' : Option LeaderKey) (fkey fkey' : Option FailsafeKey) (top top' : ℕ)
    (x : Machine) (c : Answer) → KeyAfter key top key' top' → FAfter fkey top fkey' top'
    → IsAnswerKept key fkey top x c → IsAnswerKept key' fkey' top' x c
answer-after key key' fkey fkey' top top' x c a b ok = record {
  numbered = ok.numbered;
  seen = λ z is. vouched-after key key' top top' z.holder z.revision a (ok.seen z is);
  grant = λ g is. vouched-after key key' top top' c.member g.revision a (ok.grant g is);
  order = ok.order;
  listed = λ f is. fvouched-after fkey fkey' top top' f b (ok.listed f is);
}

pub agent-after : (key key' : Option LeaderKey) (fkey fkey' : Option FailsafeKey) (top top' m runs : ℕ) (agent : Agent)
    → KeyAfter key top key' top' → FAfter fkey top fkey' top' → IsAgentKept key fkey top m runs agent
    → IsAgentKept key' fkey' top' m runs agent
agent-after key key' fkey fkey' top top' m runs agent a b ok = record {
  incarnation = ok.incarnation;
  lease = λ r is. vouched-after key key' top top' m r a (ok.lease r is);
  seen = λ z is. vouched-after key key' top top' z.holder z.revision a (ok.seen z is);
  failsafe = λ f is. fvouched-after fkey fkey' top top' f b (ok.failsafe f is);
  informed = λ is. b.stays (ok.informed is);
}

-- with fewer questions in flight
pub present-fewer : (key : Option LeaderKey) (fkey : Option FailsafeKey) (flight flight' : ℕ → Option Flying) (m : ℕ)
    (grant : Grant) → ((i : ℕ) (q : Question) → flight' i ≡ Some (Requested q) → flight i ≡ Some (Requested q))
    → IsPresent key fkey flight m grant → IsPresent key fkey flight' m grant
present-fewer key fkey flight flight' m grant fewer p = record {
  found_key = p.found_key;
  key_is = p.key_is;
  revision = p.revision;
  holder = p.holder;
  lasts = p.lasts;
  alone = λ j q compared ttl carried at is same. p.alone j q compared ttl carried (fewer j q at) is same;
  listed = p.listed;
}

pub spans-fewer : (fkey : Option FailsafeKey) (key : Option LeaderKey) (flight flight' : ℕ → Option Flying) (m : ℕ)
    (X : ℕ → Type 0) → ((i : ℕ) (q : Question) → flight' i ≡ Some (Requested q) → flight i ≡ Some (Requested q))
    → Spans fkey key flight m X → Spans fkey key flight' m X
spans-fewer fkey key flight flight' m X fewer p = record {
  listed = p.listed;
  coming = λ j q compared ttl set k at is. p.coming j q compared ttl set k (fewer j q at) is;
}

-- what holds of the spanned members may be weakened
pub spans-sub : (fkey : Option FailsafeKey) (key : Option LeaderKey) (flight : ℕ → Option Flying) (m : ℕ)
    (X Y : ℕ → Type 0) → ((p : ℕ) → (p ≡ m → ⊥) → X p → Y p) → Spans fkey key flight m X → Spans fkey key flight m Y
spans-sub fkey key flight m X Y sub s = record {
  listed = λ f is p e other. sub p other (s.listed f is p e other);
  coming = λ j q compared ttl set k at is' is same p e other.
      sub p other (s.coming j q compared ttl set k at is' is same p e other);
}

pub holds-grow : (fkey : Option FailsafeKey) (key : Option LeaderKey) (flight : ℕ → Option Flying)
    (members members' : ℕ → Machine) (m until : ℕ) → ((p : ℕ) → (members p).hold ≤ (members' p).hold)
    → HoldsCover fkey key flight members m until → HoldsCover fkey key flight members' m until
holds-grow fkey key flight members members' m until grow h = record {
  f = h.f;
  is = h.is;
  owner = h.owner;
  spans = spans-sub fkey key flight m (λ p. until ≤ (members p).hold) (λ p. until ≤ (members' p).hold)
      (λ p other e. omega (arith, e, grow p)) h.spans;
}
