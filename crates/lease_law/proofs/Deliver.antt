-- The key store decides on a question.
use Rattle.std.proofs.Common.{◌≡◌, ◌⊎◌, ℕ, ◌+◌, ◌≤◌, ◌<◌, ◌==◌, ◌&&◌, Bool, true, false, Option, Some, None, max, refl, ◌∙◌, ap, sym, subst, arith, inl, inr}
use Rattle.store_keys.specs.declared.txn.Expected.{Expected}
use Rattle.store_keys.specs.declared.txn.Expected.TheVariants.{Absent, Revision}
use Rattle.event_book.specs.Functions.{put_at}
use Rattle.lease_model.specs.Leases.{LeaderKey, LeaderSeen, FailsafeKey, Query, Create, Renew, Release, Write, Read, Question, Grant, Answer, FailsafeRequest, Acknowledgement, Flying, Requested, Answered, FailsafeRequested, Acknowledged}
use Rattle.lease_model.specs.States.{Machine, State, Acts}
use Rattle.lease_model.specs.Outcomes.{seen_of, Outcome, is_as_read, create_if, create_on, failsafe_carried, renew_if, renew_on, release_if, release_on, write_if, outcome_of, shown_if, outcome_answer, with_outcome, with_question, delivered}
use Rattle.lease_model.specs.Inputs.{Waits}
use Rattle.lease_model.proofs.Tools.{some-is, none-some, both, not-false, and-first, eq-from, put-all, dropped, answered-requested, answered-failsafe_requested, answered-acknowledged, answered-is}
use Rattle.lease_model.specs.Carried.{Covers, Spans, HoldsCover, IsGuarded, IsVouched, IsAtRest, IsQueryKept, IsQuestionKept, IsAnswerKept, IsPresent, IsFresh, IsToken, IsSound}
use Rattle.lease_law.proofs.Onward.{KeyAfter, FAfter, f-same, request-after, answer-after, agent-after, present-fewer, spans-fewer}

-- what a grant hands out
record Granted (s : State) (q : Question) (d : Outcome) (grant : Grant) : Type 0 where
  revision : grant.revision ≡ d.revision
  risen : s.revision < d.revision
  found_key : LeaderKey
  key_is : d.leader ≡ Some found_key
  held_revision : found_key.revision ≡ grant.revision
  holder : found_key.holder ≡ q.member
  lasts : grant.moment + grant.ttl ≤ found_key.expiry
  sent : grant.sent ≡ q.sent
  moment : grant.moment ≡ s.clock
  listed : d.failsafe ≡ grant.failsafe

abbrev NoRelease : (ℕ → Option Flying) → ℕ → Type 0
NoRelease flight r = (j : ℕ) (q : Question) → flight j ≡ Some (Requested q) → q.query ≡ Release r → ⊥

record OutcomeOk (s : State) (q : Question) (d : Outcome) : Type 1 where
  off : s.declared.failsafe ≡ false → d.failsafe ≡ None
  onward : KeyAfter s.leader s.revision d.leader d.revision
  fonward : FAfter s.failsafe s.revision d.failsafe d.revision
  keys : (m until : ℕ) → Acts (s.members m) → Covers s.leader m until → Covers d.leader m until
  spans : (m : ℕ) (X : ℕ → Type 0) → Acts (s.members m) → Spans s.failsafe s.leader s.flight m X
      → Spans d.failsafe d.leader s.flight m X
  owns : (m until : ℕ) → Acts (s.members m) → HoldsCover s.failsafe s.leader s.flight s.members m until
      → (f : FailsafeKey) × (d.failsafe ≡ Some f)
      × ((k : LeaderKey) → d.leader ≡ Some k → (k.holder ≡ m) ⊎ (f.members k.holder ≡ true))
  presents : (m : ℕ) (grant : Grant) → IsPresent s.leader s.failsafe s.flight m grant
      → NoRelease s.flight grant.revision → IsPresent d.leader d.failsafe s.flight m grant
  granted : (grant : Grant) → d.grant ≡ Some grant → Granted s q d grant

-- no request in flight names a revision above the greatest
renew-vouched : (mode : Bool) (key : Option LeaderKey) (fkey : Option FailsafeKey) (top : ℕ)
    (members : ℕ → Machine) (m compared ttl : ℕ) (carried : Option (ℕ → Bool))
    → IsQueryKept mode key fkey top members m (Renew compared ttl carried) → IsVouched key top m compared
renew-vouched mode key fkey top members m compared ttl None a = a
renew-vouched mode key fkey top members m compared ttl (Some set) a = a.0

pub renew-bound : (mode : Bool) (key : Option LeaderKey) (fkey : Option FailsafeKey) (top : ℕ)
    (members : ℕ → Machine) (m : ℕ) (query : Query) (compared ttl : ℕ) (carried : Option (ℕ → Bool))
    → IsQueryKept mode key fkey top members m query → query ≡ Renew compared ttl carried → IsVouched key top m compared
renew-bound mode key fkey top members m query compared ttl carried ok is = renew-vouched mode key fkey top
    members m compared ttl carried (subst (λ (t : Query). IsQueryKept mode key fkey top members m t) is ok)

pub release-bound : (mode : Bool) (key : Option LeaderKey) (fkey : Option FailsafeKey) (top : ℕ)
    (members : ℕ → Machine) (m : ℕ) (query : Query) (compared : ℕ) → IsQueryKept mode key fkey top members m query
    → query ≡ Release compared → IsVouched key top m compared × IsAtRest key (members m) compared
release-bound mode key fkey top members m query compared ok is =
    subst (λ (t : Query). IsQueryKept mode key fkey top members m t) is ok

no-new-renew : (s : State) (j : ℕ) (q : Question) (compared ttl : ℕ) (carried : Option (ℕ → Bool)) → IsSound s
    → s.flight j ≡ Some (Requested q) → q.query ≡ Renew compared ttl carried → s.revision < compared → ⊥
no-new-renew s j q compared ttl carried inv at txn new = omega (
  arith,
  (renew-bound s.declared.failsafe s.leader s.failsafe s.revision s.members q.member q.query compared ttl carried
      (inv.asked j q at).query txn).bound,
  new,
)

-- the keys stay
same-ok : (s : State) (q : Question) (key : Option LeaderKey) (top : ℕ) (snapshot : Bool) → IsSound s
    → s.leader ≡ key → s.revision ≤ top
    → OutcomeOk s q (record { leader = key; failsafe = s.failsafe; revision = top; snapshot = snapshot; grant = None })
same-ok s q key top snapshot inv is grows = record {
  off = inv.off;
  onward = record { grows = grows; known = λ k e. inl (is ∙ e) };
  fonward = f-same s.failsafe s.revision top grows;
  keys = λ m until acts c. subst (λ (k : Option LeaderKey). Covers k m until) is c;
  spans = λ m X acts p. subst (λ (k : Option LeaderKey). Spans s.failsafe k s.flight m X) is p;
  owns = λ m until acts h. (h.f, h.is, λ k e. h.owner k (is ∙ e));
  presents = λ m grant p none. subst (λ (k : Option LeaderKey). IsPresent k s.failsafe s.flight m grant) is p;
  granted = λ grant e. absurd (none-some grant e);
}

as-absent : (fkey : Option FailsafeKey) (f : FailsafeKey) → is_as_read (Some Absent) fkey ≡ true → fkey ≡ Some f → ⊥
as-absent None f e is = none-some f is
as-absent (Some g) f e is = both e

as-revision : (fkey : Option FailsafeKey) (f : FailsafeKey) (r : ℕ)
    → is_as_read (Some (Revision r)) fkey ≡ true → fkey ≡ Some f → f.revision ≡ r
as-revision None f r e is = absurd (none-some f is)
as-revision (Some g) f r e is = sym (ap (λ (z : FailsafeKey). z.revision) (some-is g f is)) ∙ eq-from g.revision r e

-- a create that is granted is by a member that the failsafe key lists, where that is there
create-lists : (s : State) (m ttl : ℕ) (expected : Option Expected) (f : FailsafeKey) → IsSound s
    → IsQueryKept s.declared.failsafe s.leader s.failsafe s.revision s.members m (Create ttl expected)
    → is_as_read expected s.failsafe ≡ true → s.failsafe ≡ Some f → f.members m ≡ true
create-lists s m ttl None f inv a e is = absurd (none-some f (sym (inv.off a) ∙ is))
create-lists s m ttl (Some Absent) f inv a e is = absurd (as-absent s.failsafe f e is)
create-lists s m ttl (Some (Revision r)) f inv a e is = a.lists f is (as-revision s.failsafe f r e is)

create-if-ok : (b : Bool) (s : State) (q : Question) (ttl : ℕ) (expected : Option Expected)
    → (b ≡ true → is_as_read expected s.failsafe ≡ true) → IsSound s → s.leader ≡ None
    → IsQueryKept s.declared.failsafe s.leader s.failsafe s.revision s.members q.member (Create ttl expected)
    → OutcomeOk s q (create_if b s.clock s.failsafe s.revision q.member q.sent ttl)
create-if-ok false s q ttl expected e inv is a = same-ok s q None s.revision false inv is (omega arith)
create-if-ok true s q ttl expected e inv is a =
    let new : LeaderKey = record { holder = q.member; revision = s.revision + 1; expiry = s.clock + ttl } in
    record {
      off = inv.off;
      onward = record {
        grows = omega arith;
        known = λ k n. inr (
          omega (arith, ap (λ (x : LeaderKey). x.revision) (some-is new k n)),
          omega (arith, ap (λ (x : LeaderKey). x.revision) (some-is new k n)),
        );
      };
      fonward = f-same s.failsafe s.revision (s.revision + 1) (omega arith);
      keys = λ m until acts c. absurd (none-some c.found_key (sym is ∙ c.key_is));
      spans = λ m X acts p. record {
        listed = p.listed;
        coming = λ j r compared t set k at txn k_is same.
            absurd (no-new-renew s j r compared t (Some set) inv at txn
            (omega (arith, same, ap (λ (x : LeaderKey). x.revision) (some-is new k k_is))));
      };
      owns = λ m until acts h. (
        h.f,
        h.is,
        λ k n.
            let mine : h.f.members q.member ≡ true = create-lists s q.member ttl expected h.f inv a (e refl) h.is in
            inr (ap (λ (x : LeaderKey). h.f.members x.holder) (sym (some-is new k n)) ∙ mine),
      );
      presents = λ m grant p none. absurd (none-some p.found_key (sym is ∙ p.key_is));
      granted = λ grant n.
          subst (λ (g : Grant). Granted s q (create_if true s.clock s.failsafe s.revision q.member q.sent ttl) g)
          (some-is
          (record { revision = s.revision + 1; sent = q.sent; moment = s.clock; ttl = ttl; failsafe = s.failsafe })
          grant n)
          (record {
            revision = refl;
            risen = omega arith;
            found_key = new;
            key_is = refl;
            held_revision = refl;
            holder = refl;
            lasts = omega arith;
            sent = refl;
            moment = refl;
            listed = refl;
          });
    }

create-ok : (granted : Bool) (s : State) (q : Question) (key : Option LeaderKey) (ttl : ℕ) (expected : Option Expected)
    → IsSound s → s.leader ≡ key
    → IsQueryKept s.declared.failsafe s.leader s.failsafe s.revision s.members q.member (Create ttl expected)
    → OutcomeOk s q (create_on granted s.clock key s.failsafe s.revision q.member q.sent ttl expected)
create-ok granted s q (Some key) ttl expected inv is a = same-ok s q (Some key) s.revision false inv is (omega arith)
create-ok granted s q None ttl expected inv is a = create-if-ok (is_as_read expected s.failsafe && granted) s
    q ttl expected (λ e. and-first (is_as_read expected s.failsafe) granted e) inv is a

carry-after : (s : State) (carried : Option (ℕ → Bool))
    → FAfter s.failsafe s.revision (failsafe_carried (s.revision + 1) carried s.failsafe) (s.revision + 1)
carry-after s None = f-same s.failsafe s.revision (s.revision + 1) (omega arith)
carry-after s (Some set) = let new : FailsafeKey = record { revision = s.revision + 1; members = set } in record {
  grows = omega arith;
  known = λ f n. inr (
    omega (arith, ap (λ (x : FailsafeKey). x.revision) (some-is new f n)),
    omega (arith, ap (λ (x : FailsafeKey). x.revision) (some-is new f n)),
  );
  stays = λ t. record { f = new; is = refl };
}

-- the new failsafe key spans what the old one and the renewal spanned
carry-lists : (s : State) (i : ℕ) (q : Question) (key : LeaderKey) (compared ttl : ℕ) (carried : Option (ℕ → Bool))
    (m : ℕ) (X : ℕ → Type 0) → s.leader ≡ Some key → key.revision ≡ compared → s.flight i ≡ Some (Requested q)
    → q.query ≡ Renew compared ttl carried → Spans s.failsafe s.leader s.flight m X → (f : FailsafeKey)
    → failsafe_carried (s.revision + 1) carried s.failsafe ≡ Some f → (p : ℕ) → f.members p ≡ true → (p ≡ m → ⊥) → X p
carry-lists s i q key compared ttl None m X is same at txn spans f n p e other = spans.listed f n p e other
carry-lists s i q key compared ttl (Some set) m X is same at txn spans f n p e other =
    spans.coming i q compared ttl set key at txn is same p
    (ap (λ (x : FailsafeKey). x.members p) (some-is (record { revision = s.revision + 1; members = set }) f n) ∙ e)
    other

carry-owns : (s : State) (q : Question) (key : LeaderKey) (compared ttl : ℕ) (carried : Option (ℕ → Bool)) (m until : ℕ)
    → s.leader ≡ Some key → key.revision ≡ compared
    → IsQueryKept s.declared.failsafe s.leader s.failsafe s.revision s.members q.member (Renew compared ttl carried)
    → Acts (s.members m) → HoldsCover s.failsafe s.leader s.flight s.members m until
    → (f : FailsafeKey) × (failsafe_carried (s.revision + 1) carried s.failsafe ≡ Some f)
    × ((key.holder ≡ m) ⊎ (f.members key.holder ≡ true))
carry-owns s q key compared ttl None m until is same a acts h = (h.f, h.is, h.owner key is)
carry-owns s q key compared ttl (Some set) m until is same a acts h = (
  record { revision = s.revision + 1; members = set },
  refl,
  inl (a.0.owner key is same ∙ sym (a.1 key is same m acts)),
)

carry-off : (s : State) (key : LeaderKey) (compared ttl : ℕ) (carried : Option (ℕ → Bool)) (m : ℕ) → IsSound s
    → IsQueryKept s.declared.failsafe s.leader s.failsafe s.revision s.members m (Renew compared ttl carried)
    → s.declared.failsafe ≡ false → failsafe_carried (s.revision + 1) carried s.failsafe ≡ None
carry-off s key compared ttl None m inv a off = inv.off off
carry-off s key compared ttl (Some set) m inv a off = absurd (not-false s.declared.failsafe off a.2)

renew-if-ok : (b : Bool) (s : State) (i : ℕ) (q : Question) (key : LeaderKey) (compared ttl : ℕ)
    (carried : Option (ℕ → Bool)) → (key.revision == compared) ≡ b → IsSound s → s.leader ≡ Some key
    → s.flight i ≡ Some (Requested q) → q.query ≡ Renew compared ttl carried
    → IsQueryKept s.declared.failsafe s.leader s.failsafe s.revision s.members q.member (Renew compared ttl carried)
    → OutcomeOk s q (renew_if b s.clock key s.failsafe s.revision q.sent ttl carried)
renew-if-ok false s i q key compared ttl carried e inv is at txn a =
    same-ok s q (Some key) s.revision false inv is (omega arith)
renew-if-ok true s i q key compared ttl carried e inv is at txn a =
    let same : key.revision ≡ compared = eq-from key.revision compared e in
    let new : LeaderKey =
    record { holder = key.holder; revision = s.revision + 1; expiry = max key.expiry (s.clock + ttl) } in
    let fkey : Option FailsafeKey = failsafe_carried (s.revision + 1) carried s.failsafe in
    record {
      off = carry-off s key compared ttl carried q.member inv a;
      onward = record {
        grows = omega arith;
        known = λ k n. inr (
          omega (arith, ap (λ (x : LeaderKey). x.revision) (some-is new k n)),
          omega (arith, ap (λ (x : LeaderKey). x.revision) (some-is new k n)),
        );
      };
      fonward = carry-after s carried;
      keys = λ m until acts g. let k : g.found_key ≡ key = some-is g.found_key key (sym g.key_is ∙ is) in
          record {
            found_key = new;
            key_is = refl;
            holder = ap (λ (x : LeaderKey). x.holder) (sym k) ∙ g.holder;
            lasts = omega (arith, g.lasts, ap (λ (x : LeaderKey). x.expiry) k);
          };
      spans = λ m X acts p. record {
        listed = carry-lists s i q key compared ttl carried m X is same at txn p;
        coming = λ j r c t set k at' txn' k_is same'.
            absurd (no-new-renew s j r c t (Some set) inv at' txn'
            (omega (arith, same', ap (λ (x : LeaderKey). x.revision) (some-is new k k_is))));
      };
      owns = λ m until acts h. let o = carry-owns s q key compared ttl carried m until is same a acts h in (
        o.0,
        o.1,
        λ k n. elim o.2 [
          | inl mine ↦ inl (ap (λ (x : LeaderKey). x.holder) (sym (some-is new k n)) ∙ mine)
          | inr listed ↦ inr (ap (λ (x : LeaderKey). o.0.members x.holder) (sym (some-is new k n)) ∙ listed)
        ],
      );
      presents = λ m grant p none. let k : p.found_key ≡ key = some-is p.found_key key (sym p.key_is ∙ is) in
          absurd (p.alone i q compared ttl carried at txn
          (sym same ∙ ap (λ (x : LeaderKey). x.revision) (sym k) ∙ p.revision));
      granted = λ grant n.
          subst (λ (g : Grant). Granted s q (renew_if true s.clock key s.failsafe s.revision q.sent ttl carried) g)
          (some-is (record { revision = s.revision + 1; sent = q.sent; moment = s.clock; ttl = ttl; failsafe = fkey })
          grant n)
          (record {
            revision = refl;
            risen = omega arith;
            found_key = new;
            key_is = refl;
            held_revision = refl;
            holder =
                (renew-vouched s.declared.failsafe s.leader s.failsafe s.revision s.members q.member compared
                ttl carried a).owner
                key is same;
            lasts = omega arith;
            sent = refl;
            moment = refl;
            listed = refl;
          });
    }

renew-ok : (s : State) (i : ℕ) (q : Question) (key : Option LeaderKey) (compared ttl : ℕ) (carried : Option (ℕ → Bool))
    → IsSound s → s.leader ≡ key → s.flight i ≡ Some (Requested q) → q.query ≡ Renew compared ttl carried
    → IsQueryKept s.declared.failsafe s.leader s.failsafe s.revision s.members q.member (Renew compared ttl carried)
    → OutcomeOk s q (renew_on s.clock key s.failsafe s.revision compared q.sent ttl carried)
renew-ok s i q None compared ttl carried inv is at txn a = same-ok s q None s.revision false inv is (omega arith)
renew-ok s i q (Some key) compared ttl carried inv is at txn a =
    renew-if-ok (key.revision == compared) s i q key compared ttl carried refl inv is at txn a

release-if-ok : (b : Bool) (s : State) (i : ℕ) (q : Question) (key : LeaderKey) (compared : ℕ)
    → (key.revision == compared) ≡ b → IsSound s → s.leader ≡ Some key → s.flight i ≡ Some (Requested q)
    → q.query ≡ Release compared → IsVouched s.leader s.revision q.member compared
    → IsAtRest s.leader (s.members q.member) compared → OutcomeOk s q (release_if b key s.failsafe s.revision)
release-if-ok false s i q key compared e inv is at txn v quiet =
    same-ok s q (Some key) s.revision false inv is (omega arith)
release-if-ok true s i q key compared e inv is at txn v quiet =
    let same : key.revision ≡ compared = eq-from key.revision compared e in
    record {
      off = inv.off;
      onward = record { grows = omega arith; known = λ k n. absurd (none-some k n) };
      fonward = f-same s.failsafe s.revision (s.revision + 1) (omega arith);
      keys = λ m until acts g. let k : g.found_key ≡ key = some-is g.found_key key (sym g.key_is ∙ is) in
          let owner : q.member ≡ m = sym (v.owner key is same) ∙ ap (λ (x : LeaderKey). x.holder) (sym k) ∙ g.holder in
          absurd (quiet key is same (subst (λ (n : ℕ). Acts (s.members n)) (sym owner) acts));
      spans =
          λ m X acts p. record { listed = p.listed; coming = λ j r c t set k at' txn' k_is. absurd (none-some k k_is) };
      owns = λ m until acts h. (h.f, h.is, λ k n. absurd (none-some k n));
      presents = λ m grant p none. let k : p.found_key ≡ key = some-is p.found_key key (sym p.key_is ∙ is) in
          let r : compared ≡ grant.revision = sym same ∙ ap (λ (x : LeaderKey). x.revision) (sym k) ∙ p.revision in
          absurd (none i q at (txn ∙ ap (λ (n : ℕ). Release n) r));
      granted = λ grant n. absurd (none-some grant n);
    }

release-ok : (s : State) (i : ℕ) (q : Question) (key : Option LeaderKey) (compared : ℕ) → IsSound s → s.leader ≡ key
    → s.flight i ≡ Some (Requested q) → q.query ≡ Release compared → IsVouched s.leader s.revision q.member compared
    → IsAtRest s.leader (s.members q.member) compared → OutcomeOk s q (release_on key s.failsafe s.revision compared)
release-ok s i q None compared inv is at txn v quiet = same-ok s q None s.revision false inv is (omega arith)
release-ok s i q (Some key) compared inv is at txn v quiet =
    release-if-ok (key.revision == compared) s i q key compared refl inv is at txn v quiet

write-ok : (granted : Bool) (s : State) (q : Question) → IsSound s
    → OutcomeOk s q (write_if granted s.leader s.failsafe s.revision)
write-ok true s q inv = same-ok s q s.leader (s.revision + 1) true inv refl (omega arith)
write-ok false s q inv = same-ok s q s.leader s.revision false inv refl (omega arith)

outcome-ok : (s : State) (i : ℕ) (granted : Bool) (q : Question) (query : Query) → IsSound s
    → s.flight i ≡ Some (Requested q) → q.query ≡ query
    → IsQueryKept s.declared.failsafe s.leader s.failsafe s.revision s.members q.member query
    → OutcomeOk s q (outcome_of s.clock s.leader s.failsafe s.revision q.member q.sent granted query)
outcome-ok s i granted q (Create ttl expected) inv at is ok = create-ok granted s q s.leader ttl expected inv refl ok
outcome-ok s i granted q (Renew compared ttl carried) inv at is ok =
    renew-ok s i q s.leader compared ttl carried inv refl at is ok
outcome-ok s i granted q (Release compared) inv at is ok = release-ok s i q s.leader compared inv refl at is ok.0 ok.1
outcome-ok s i granted q Write inv at is ok = write-ok granted s q inv
outcome-ok s i granted q Read inv at is ok = same-ok s q s.leader s.revision true inv refl (omega arith)

seen-vouched : (key : Option LeaderKey) (top : ℕ) (z : LeaderSeen) → ((k : LeaderKey) → key ≡ Some k → k.revision ≤ top)
    → seen_of key ≡ Some z → IsVouched key top z.holder z.revision
seen-vouched None top z bounded e = absurd (none-some z e)
seen-vouched (Some key) top z bounded e = subst (λ (y : LeaderSeen). IsVouched (Some key) top y.holder y.revision)
    (some-is (record { holder = key.holder; revision = key.revision }) z e)
    (record {
      bound = bounded key refl;
      owner = λ k is same. ap (λ (x : LeaderKey). x.holder) (sym (some-is key k is));
    })

shown_if-is : {A : Type 0} (b : Bool) (o : Option A) (x : A) → shown_if b o ≡ Some x → o ≡ Some x
shown_if-is true o x e = e
shown_if-is false o x e = absurd (none-some x e)

abbrev Onward : (ℕ → Option Flying) → ℕ → ℕ → Answer → ℕ → Option Flying
Onward flight i j new = put_at (put_at flight i None) j (Some (Answered new))

-- what is in flight after an answer and is none was in flight before
still-requested : (flight : ℕ → Option Flying) (i j : ℕ) (new : Answer) (n : ℕ) (p : Question)
    → Onward flight i j new n ≡ Some (Requested p) → flight n ≡ Some (Requested p)
still-requested flight i j new = put-all (put_at flight i None) j (Some (Answered new))
    (λ n o. (p : Question) → o ≡ Some (Requested p) → flight n ≡ Some (Requested p))
    (λ p e. absurd (answered-requested new p e)) (λ n other p e. dropped flight i n (Requested p) e)

still-failsafe_requested : (flight : ℕ → Option Flying) (i j : ℕ) (new : Answer) (n : ℕ) (p : FailsafeRequest)
    → Onward flight i j new n ≡ Some (FailsafeRequested p) → flight n ≡ Some (FailsafeRequested p)
still-failsafe_requested flight i j new = put-all (put_at flight i None) j (Some (Answered new))
    (λ n o. (p : FailsafeRequest) → o ≡ Some (FailsafeRequested p) → flight n ≡ Some (FailsafeRequested p))
    (λ p e. absurd (answered-failsafe_requested new p e)) (λ n other p e. dropped flight i n (FailsafeRequested p) e)

still-acknowledged : (flight : ℕ → Option Flying) (i j : ℕ) (new : Answer) (n : ℕ) (p : Acknowledgement)
    → Onward flight i j new n ≡ Some (Acknowledged p) → flight n ≡ Some (Acknowledged p)
still-acknowledged flight i j new = put-all (put_at flight i None) j (Some (Answered new))
    (λ n o. (p : Acknowledgement) → o ≡ Some (Acknowledged p) → flight n ≡ Some (Acknowledged p))
    (λ p e. absurd (answered-acknowledged new p e)) (λ n other p e. dropped flight i n (Acknowledged p) e)

-- an answer in flight after it is the new one, or was in flight
answers-all : (flight : ℕ → Option Flying) (i j : ℕ) (new : Answer) (P : ℕ → Answer → Type 0) → P j new
    → ((n : ℕ) (a : Answer) → flight n ≡ Some (Answered a) → P n a) → (n : ℕ) (a : Answer)
    → Onward flight i j new n ≡ Some (Answered a) → P n a
answers-all flight i j new P here there =
    put-all (put_at flight i None) j (Some (Answered new)) (λ n o. (a : Answer) → o ≡ Some (Answered a) → P n a)
    (λ a e. subst (λ (b : Answer). P j b) (answered-is new a e) here)
    (λ n other a e. there n a (dropped flight i n (Answered a) e))

deliver-guard : (s : State) (i j : ℕ) (q : Question) (d : Outcome) (m : ℕ) → OutcomeOk s q d → Acts (s.members m)
    → IsGuarded s.clock s.failsafe s.leader s.flight s.members m (s.members m).deadline (s.members m).by_failsafe
    → IsGuarded s.clock d.failsafe d.leader (Onward s.flight i j (outcome_answer q d)) s.members m
    (s.members m).deadline (s.members m).by_failsafe
deliver-guard s i j q d m ok acts g = record {
  until = g.until;
  is = g.is;
  later = g.later;
  cover = elim g.cover [
    | inl c ↦ inl (c.0, ok.keys m g.until acts c.1)
    | inr c ↦ let h = c.1 in let o = ok.owns m g.until acts h in inr (
      c.0,
      record {
        f = o.0;
        is = o.1;
        owner = o.2;
        spans = spans-fewer d.failsafe d.leader s.flight (Onward s.flight i j (outcome_answer q d)) m
            (λ p. g.until ≤ (s.members p).hold) (still-requested s.flight i j (outcome_answer q d))
            (ok.spans m (λ p. g.until ≤ (s.members p).hold) acts h.spans);
      },
    )
  ];
}

deliver-answer : (s : State) (q : Question) (d : Outcome) → IsSound s
    → IsQuestionKept s.declared.failsafe s.clock s.leader s.failsafe s.revision s.members q → OutcomeOk s q d
    → ((f : FailsafeKey) → d.failsafe ≡ Some f → f.revision ≤ d.revision)
    → IsAnswerKept d.leader d.failsafe d.revision (s.members q.member) (outcome_answer q d)
deliver-answer s q d inv request ok failsafe_bounded = record {
  numbered = request.numbered;
  seen = λ z is. seen-vouched d.leader d.revision z
      (λ k e. elim (ok.onward.known k e) [ inl p ↦ omega (arith, inv.bounded k p, ok.onward.grows) | inr p ↦ p.1 ])
      (shown_if-is d.snapshot (seen_of d.leader) z is);
  grant = λ g is. let h = ok.granted g is in record {
    bound = omega (arith, h.revision);
    owner =
        λ k is' same. ap (λ (x : LeaderKey). x.holder) (sym (some-is h.found_key k (sym h.key_is ∙ is'))) ∙ h.holder;
  };
  order = λ g is. let h = ok.granted g is in omega (arith, h.sent, h.moment, request.sent);
  listed = λ f told. let is : d.failsafe ≡ Some f = shown_if-is d.snapshot d.failsafe f told in record {
    bound = failsafe_bounded f is;
    same = λ g is' same p. ap (λ (x : FailsafeKey). x.members p) (some-is g f (sym is' ∙ is));
    there = record { f = f; is = is };
  };
}

-- a grant in flight after it is the new one's, or was in flight
deliver-token : (s : State) (i j : ℕ) (q : Question) (d : Outcome) → IsSound s → OutcomeOk s q d
    → (n : ℕ) (a : Answer) → Onward s.flight i j (outcome_answer q d) n ≡ Some (Answered a) → (grant : Grant)
    → a.grant ≡ Some grant → IsToken (Onward s.flight i j (outcome_answer q d)) s.members n grant.revision
deliver-token s i j q d inv ok =
    let new : Answer = outcome_answer q d in
    answers-all s.flight i j new
    (λ n a. (grant : Grant) → a.grant ≡ Some grant → IsToken (Onward s.flight i j new) s.members n grant.revision)
    (λ grant is. let h = ok.granted grant is in record {
      released = λ n p is' txn. let old = inv.asked n p (still-requested s.flight i j new n p is') in
          omega (
            arith,
            (release-bound s.declared.failsafe s.leader s.failsafe s.revision s.members p.member p.query
                grant.revision old.query txn).0.bound,
            h.revision,
            h.risen,
          );
      valued =
          λ m agent is' v. omega (arith, ((inv.kept m agent is').lease grant.revision v).bound, h.revision, h.risen);
      single = λ k b g. answers-all s.flight i j new (λ k b. b.grant ≡ Some g → g.revision ≡ grant.revision → k ≡ j)
          (λ is' same. refl)
          (λ k b e is' same. absurd (omega (arith, ((inv.said k b e).grant g is').bound, same, h.revision, h.risen)))
          k b;
    })
    (λ n a e grant is. let t = inv.tokens n a grant e is in record {
      released = λ k p is' txn. t.released k p (still-requested s.flight i j new k p is') txn;
      valued = t.valued;
      single = λ k b g. answers-all s.flight i j new (λ k b. b.grant ≡ Some g → g.revision ≡ grant.revision → k ≡ n)
          (λ is' same. let h = ok.granted g is' in
          absurd (omega (arith, ((inv.said n a e).grant grant is).bound, same, h.revision, h.risen)))
          (λ k b e' is' same. t.single k b g e' is' same) k b;
    })

deliver-fresh : (s : State) (i j : ℕ) (q : Question) (d : Outcome) → IsSound s → OutcomeOk s q d
    → (n : ℕ) (a : Answer) → Onward s.flight i j (outcome_answer q d) n ≡ Some (Answered a) → (grant : Grant)
    → a.grant ≡ Some grant → Waits (s.members a.member) a
    → IsFresh s.clock d.leader d.failsafe (Onward s.flight i j (outcome_answer q d)) a.member grant
deliver-fresh s i j q d inv ok =
    let new : Answer = outcome_answer q d in
    answers-all s.flight i j new
    (λ n a. (grant : Grant) → a.grant ≡ Some grant → Waits (s.members a.member) a →
    IsFresh s.clock d.leader d.failsafe (Onward s.flight i j new) a.member grant)
    (λ grant is waits. let h = ok.granted grant is in inr (record {
      found_key = h.found_key;
      key_is = h.key_is;
      revision = h.held_revision;
      holder = h.holder;
      lasts = h.lasts;
      alone = λ n p compared ttl carried is' txn same. no-new-renew s n p compared ttl carried inv
          (still-requested s.flight i j new n p is') txn (omega (arith, same, h.revision, h.risen));
      listed = h.listed;
    }))
    (λ n a is grant g waits. elim (inv.fresh n a grant is g waits) [
      | inl over ↦ inl over
      | inr p ↦
          inr (present-fewer d.leader d.failsafe s.flight (Onward s.flight i j new) a.member grant
          (still-requested s.flight i j new) (ok.presents a.member grant p (inv.tokens n a grant is g).released))
    ])

deliver-inv : (s : State) (i j : ℕ) (q : Question) (d : Outcome) → IsSound s → s.flight i ≡ Some (Requested q)
    → OutcomeOk s q d → IsSound (with_outcome s i j q d)
deliver-inv s i j q d inv at ok =
    let new : Answer = outcome_answer q d in
    let request = inv.asked i q at in
    let failsafe_bounded : ((f : FailsafeKey) → d.failsafe ≡ Some f → f.revision ≤ d.revision) = λ f is.
    elim (ok.fonward.known f is) [ inl p ↦ omega (arith, inv.failsafe_bounded f p, ok.onward.grows) | inr p ↦ p.1 ] in
    record {
      guarded = λ m acts. deliver-guard s i j q d m ok acts (inv.guarded m acts);
      sole = inv.sole;
      parted = inv.parted;
      ready_by_grant = inv.ready_by_grant;
      off = ok.off;
      bounded =
          λ k is. elim (ok.onward.known k is) [ inl p ↦ omega (arith, inv.bounded k p, ok.onward.grows) | inr p ↦ p.1 ];
      failsafe_bounded = failsafe_bounded;
      asked = λ n p is. request-after s.declared.failsafe s.clock s.clock s.leader d.leader s.failsafe
          d.failsafe s.revision d.revision s.members p (omega arith) ok.onward ok.fonward
          (inv.asked n p (still-requested s.flight i j new n p is));
      said = answers-all s.flight i j new (λ n a. IsAnswerKept d.leader d.failsafe d.revision (s.members a.member) a)
          (deliver-answer s q d inv request ok failsafe_bounded)
          (λ n a is. answer-after s.leader d.leader s.failsafe d.failsafe s.revision d.revision
          (s.members a.member) a ok.onward ok.fonward (inv.said n a is));
      failsafe_requests = λ n p is. inv.failsafe_requests n p (still-failsafe_requested s.flight i j new n p is);
      yeses = λ n p is. inv.yeses n p (still-acknowledged s.flight i j new n p is);
      taken = inv.taken;
      kept = λ m agent is. agent-after s.leader d.leader s.failsafe d.failsafe s.revision d.revision m
          (s.members m).runs agent ok.onward ok.fonward (inv.kept m agent is);
      spans = λ m agent is acts leads. spans-fewer d.failsafe d.leader s.flight (Onward s.flight i j new) m
          (λ p. agent.known p ≡ true) (still-requested s.flight i j new)
          (ok.spans m (λ p. agent.known p ≡ true) acts (inv.spans m agent is acts leads));
      failsafe_check = λ m agent b is e. let old = inv.failsafe_check m agent b is e in record {
        counted = old.counted;
        there = ok.fonward.stays old.there;
        yes = old.yes;
        spans = λ acts. spans-fewer d.failsafe d.leader s.flight (Onward s.flight i j new) m (λ p. b.members p ≡ true)
            (still-requested s.flight i j new) (ok.spans m (λ p. b.members p ≡ true) acts (old.spans acts));
      };
      fresh = λ n a grant is. deliver-fresh s i j q d inv ok n a is grant;
      tokens = λ n a grant is. deliver-token s i j q d inv ok n a is grant;
    }

inv-question : (s : State) (i j : ℕ) (granted : Bool) (o : Option Flying) → IsSound s → s.flight i ≡ o
    → IsSound (with_question s i j granted o)
inv-question s i j granted (Some (Requested q)) inv at =
    deliver-inv s i j q (outcome_of s.clock s.leader s.failsafe s.revision q.member q.sent granted q.query)
    inv at (outcome-ok s i granted q q.query inv at refl (inv.asked i q at).query)
inv-question s i j granted (Some (Answered a)) inv at = inv
inv-question s i j granted (Some (FailsafeRequested a)) inv at = inv
inv-question s i j granted (Some (Acknowledged a)) inv at = inv
inv-question s i j granted None inv at = inv

pub inv-deliver : (s : State) (i j : ℕ) (granted : Bool) → IsSound s → IsSound (delivered s i j granted)
inv-deliver s i j granted inv = inv-question s i j granted (s.flight i) inv refl
