-- Actions in which nobody comes to act: losses, kills, starts, crashes, and a tick.
use Rattle.std.proofs.Common.{◌≡◌, ◌⊎◌, ℕ, ◌+◌, ◌≤◌, ◌<◌, nat_le, Bool, true, false, Option, Some, None, refl, ◌∙◌, ap, sym, subst, arith, inl, inr}
use Rattle.store_keys.specs.declared.txn.Expected.TheVariants.{Absent, Revision}
use Rattle.event_book.specs.Functions.{put_at}
use Rattle.lease_model.specs.Leases.{LeaderKey, FailsafeKey, Query, Create, Renew, Release, Write, Read, Question, Grant, Flying, Requested, Answered, FailsafeRequested, Acknowledged}
use Rattle.event_book.specs.Premises.{Taking}
use Rattle.lease_model.specs.States.{FailsafeCheck, Agent, Machine, State, is_ready, Acts, is_due, tick_machine, kept_if, leader_kept, state_after_tick, deadline_if, fresh_agent, start_machine, kill_machine, crash_machine}
use Rattle.lease_model.proofs.Tools.{some-is, none-some, both, not-false, le-from, gt-from, put-all, dropped}
use Rattle.lease_model.specs.Carried.{Spans, AwaitsIt, IsTakingKept, IsGuarded, IsQueryKept, IsNumbered, IsAgentKept, IsPresent, IsFresh, IsSound}
use Rattle.lease_law.proofs.Onward.{KeyAfter, f-same, request-after, answer-after, agent-after, present-fewer, spans-fewer, holds-grow}

-- an agent that has just started
record NewRun (x y : Machine) (agent : Agent) : Type 0 where
  later : x.runs < agent.incarnation
  known : agent.incarnation ≤ y.runs
  waits : agent.waits ≡ None
  lease : agent.lease ≡ None
  leader : agent.leader ≡ None
  failsafe : agent.failsafe ≡ None
  leads : agent.leads ≡ false
  informed : agent.informed ≡ false
  failsafe_check : agent.failsafe_check ≡ None

-- nothing comes to act that did not
record NobodyActsAnew (x y : Machine) : Type 0 where
  acts : Acts y → Acts x
  deadline : Acts y → x.deadline ≡ y.deadline
  basis : x.by_failsafe ≡ y.by_failsafe
  parted : (is_ready x.agent ≡ true → x.live ≡ false) → is_ready y.agent ≡ true → y.live ≡ false
  ready_by_grant : (is_ready x.agent ≡ true → x.by_failsafe ≡ false) → is_ready y.agent ≡ true → y.by_failsafe ≡ false
  hold : x.hold ≤ y.hold
  runs : x.runs ≤ y.runs
  agent : (g : Agent) → y.agent ≡ Some g → (x.agent ≡ Some g) ⊎ NewRun x y g

numbered-uncontended : (x y : Machine) (incarnation seq : ℕ) → NobodyActsAnew x y
    → IsNumbered x incarnation seq → IsNumbered y incarnation seq
numbered-uncontended x y incarnation seq c n = record {
  run_old = omega (arith, n.run_old, c.runs);
  sequence_old = λ g is same. elim (c.agent g is) [
    | inl p ↦ n.sequence_old g p same
    | inr p ↦ absurd (omega (arith, p.later, same, n.run_old))
  ];
}

asked-uncontended : (mode : Bool) (key : Option LeaderKey) (fkey : Option FailsafeKey) (top : ℕ)
    (members members' : ℕ → Machine) (m : ℕ) (query : Query) → ((n : ℕ) → NobodyActsAnew (members n) (members' n))
    → IsQueryKept mode key fkey top members m query → IsQueryKept mode key fkey top members' m query
asked-uncontended mode key fkey top members members' m (Renew compared ttl None) c a = a
asked-uncontended mode key fkey top members members' m (Renew compared ttl (Some set)) c a =
    (a.0, λ k is same n acts. a.1 k is same n ((c n).acts acts), a.2)
asked-uncontended mode key fkey top members members' m (Release compared) c a =
    (a.0, λ k is same acts. a.1 k is same ((c m).acts acts))
asked-uncontended mode key fkey top members members' m (Create ttl None) c a = a
asked-uncontended mode key fkey top members members' m (Create ttl (Some Absent)) c a = tt
asked-uncontended mode key fkey top members members' m (Create ttl (Some (Revision r))) c a = a
asked-uncontended mode key fkey top members members' m Write c a = tt
asked-uncontended mode key fkey top members members' m Read c a = tt

guarded-uncontended : (clock : ℕ) (fkey : Option FailsafeKey) (key : Option LeaderKey) (flight : ℕ → Option Flying)
    (members members' : ℕ → Machine) (m : ℕ) (deadline deadline' : Option ℕ) (basis basis' : Bool)
    → deadline ≡ deadline' → basis ≡ basis' → ((p : ℕ) → (members p).hold ≤ (members' p).hold)
    → IsGuarded clock fkey key flight members m deadline basis
    → IsGuarded clock fkey key flight members' m deadline' basis'
guarded-uncontended clock fkey key flight members members' m deadline deadline' basis basis' d b grow g = record {
  until = g.until;
  is = sym d ∙ g.is;
  later = g.later;
  cover = elim g.cover [
    | inl c ↦ inl (sym b ∙ c.0, c.1)
    | inr c ↦ inr (sym b ∙ c.0, holds-grow fkey key flight members members' m g.until grow c.1)
  ];
}

matches-uncontended : (x y : Machine) (incarnation seq : ℕ) (b : FailsafeCheck) → NobodyActsAnew x y
    → AwaitsIt y incarnation seq b → AwaitsIt x incarnation seq b
matches-uncontended x y incarnation seq b c w = elim (c.agent w.agent w.is) [
  | inl p ↦ record {
    agent = w.agent;
    is = p;
    run_is = w.run_is;
    failsafe_check = w.failsafe_check;
    sequence_is = w.sequence_is;
  }
  | inr p ↦ absurd (none-some b (sym p.failsafe_check ∙ w.failsafe_check))
]

taken-uncontended : (x y : Machine) (hold hold' : ℕ) (t : Taking) → NobodyActsAnew x y → hold ≤ hold'
    → IsTakingKept x hold t → IsTakingKept y hold' t
taken-uncontended x y hold hold' t c longer old = record {
  numbered = numbered-uncontended x y t.incarnation t.sequence c old.numbered;
  matches = λ b w. let o = old.matches b (matches-uncontended x y t.incarnation t.sequence b c w) in
      (omega (arith, o.0, longer), o.1);
}

agent-uncontended : (s : State) (m : ℕ) (y : Machine) (g : Agent) → IsSound s → NobodyActsAnew (s.members m) y
    → y.agent ≡ Some g → IsAgentKept s.leader s.failsafe s.revision m y.runs g
agent-uncontended s m y g inv c is = elim (c.agent g is) [
  | inl p ↦ let old = inv.kept m g p in record {
    incarnation = omega (arith, old.incarnation, c.runs);
    lease = old.lease;
    seen = old.seen;
    failsafe = old.failsafe;
    informed = old.informed;
  }
  | inr p ↦ record {
    incarnation = p.known;
    lease = λ r e. absurd (none-some r (sym p.lease ∙ e));
    seen = λ z e. absurd (none-some z (sym p.leader ∙ e));
    failsafe = λ f e. absurd (none-some f (sym p.failsafe ∙ e));
    informed = λ e. absurd (not-false g.informed p.informed e);
  }
]

inv-uncontended : (s : State) (members : ℕ → Machine) → ((n : ℕ) → NobodyActsAnew (s.members n) (members n))
    → IsSound s → IsSound (record s { members = members })
inv-uncontended s members uncontended inv = record {
  guarded =
      λ m acts. guarded-uncontended s.clock s.failsafe s.leader s.flight s.members members m (s.members m).deadline
      (members m).deadline (s.members m).by_failsafe (members m).by_failsafe ((uncontended m).deadline acts)
      (uncontended m).basis (λ p. (uncontended p).hold) (inv.guarded m ((uncontended m).acts acts));
  sole = λ m n am an. inv.sole m n ((uncontended m).acts am) ((uncontended n).acts an);
  parted = λ m ready. (uncontended m).parted (inv.parted m) ready;
  ready_by_grant = λ m ready. (uncontended m).ready_by_grant (inv.ready_by_grant m) ready;
  off = inv.off;
  bounded = inv.bounded;
  failsafe_bounded = inv.failsafe_bounded;
  asked = λ i q at. let old = inv.asked i q at in
      record {
        numbered = numbered-uncontended (s.members q.member) (members q.member) q.incarnation q.sequence
            (uncontended q.member) old.numbered;
        sent = old.sent;
        query = asked-uncontended s.declared.failsafe s.leader s.failsafe s.revision s.members members
            q.member q.query uncontended old.query;
      };
  said = λ i a at. let old = inv.said i a at in
      record {
        numbered = numbered-uncontended (s.members a.member) (members a.member) a.incarnation a.sequence
            (uncontended a.member) old.numbered;
        seen = old.seen;
        grant = old.grant;
        order = old.order;
        listed = old.listed;
      };
  failsafe_requests = λ i q at. let old = inv.failsafe_requests i q at in
      record {
        numbered = numbered-uncontended (s.members q.member) (members q.member) q.incarnation q.sequence
            (uncontended q.member) old.numbered;
        sent = old.sent;
        matches = λ b w. old.matches b
            (matches-uncontended (s.members q.member) (members q.member) q.incarnation q.sequence b
            (uncontended q.member) w);
      };
  yeses = inv.yeses;
  taken = λ t at. taken-uncontended (s.members t.from) (members t.from) (s.members t.by).hold
      (members t.by).hold t (uncontended t.from) (uncontended t.by).hold (inv.taken t at);
  kept = λ m g is. agent-uncontended s m (members m) g inv (uncontended m) is;
  spans = λ m g is acts leads. elim ((uncontended m).agent g is) [
    | inl p ↦ inv.spans m g p ((uncontended m).acts acts) leads
    | inr p ↦ absurd (not-false g.leads p.leads leads)
  ];
  failsafe_check = λ m g b is e. elim ((uncontended m).agent g is) [
    | inl p ↦ let old = inv.failsafe_check m g b p e in record {
      counted = old.counted;
      there = old.there;
      spans = λ acts. old.spans ((uncontended m).acts acts);
      yes = old.yes;
    }
    | inr p ↦ absurd (none-some b (sym p.failsafe_check ∙ e))
  ];
  fresh = λ i a grant at is w. elim ((uncontended a.member).agent w.agent w.is) [
    | inl p ↦ inv.fresh i a grant at is
        (record { agent = w.agent; is = p; incarnation = w.incarnation; sequence = w.sequence })
    | inr p ↦ absurd (none-some a.sequence (sym p.waits ∙ w.sequence))
  ];
  tokens = λ i a grant at is. let t = inv.tokens i a grant at is in record {
    released = t.released;
    valued = λ m g e v. elim ((uncontended m).agent g e) [
      | inl p ↦ t.valued m g p v
      | inr p ↦ absurd (none-some grant.revision (sym p.lease ∙ v))
    ];
    single = t.single;
  };
}

same-uncontended : (x : Machine) → NobodyActsAnew x x
same-uncontended x = record {
  acts = λ a. a;
  parted = λ p r. p r;
  ready_by_grant = λ p r. p r;
  deadline = λ a. refl;
  basis = refl;
  hold = omega arith;
  runs = omega arith;
  agent = λ g is. inl is;
}

put-uncontended : (s : State) (m : ℕ) (y : Machine) → NobodyActsAnew (s.members m) y → (n : ℕ)
    → NobodyActsAnew (s.members n) (put_at s.members m y n)
put-uncontended s m y c =
    put-all s.members m y (λ n z. NobodyActsAnew (s.members n) z) c (λ n other. same-uncontended (s.members n))

kill-uncontended : (x : Machine) → NobodyActsAnew x (kill_machine x)
kill-uncontended x = record {
  parted = λ p r. absurd (both r);
  ready_by_grant = λ p r. absurd (both r);
  acts = λ a. elim a [ inl e ↦ inl e | inr e ↦ absurd (both e) ];
  deadline = λ a. refl;
  basis = refl;
  hold = omega arith;
  runs = omega arith;
  agent = λ g is. absurd (none-some g is);
}

crash-uncontended : (x : Machine) → NobodyActsAnew x (crash_machine x)
crash-uncontended x = record {
  parted = λ p r. refl;
  ready_by_grant = λ p r. p r;
  acts = λ a. elim a [ inl e ↦ absurd (both e) | inr e ↦ inr e ];
  deadline = λ a. refl;
  basis = refl;
  hold = omega arith;
  runs = omega arith;
  agent = λ g is. inl is;
}

started-deadline : (b : Bool) (d : Option ℕ) → b ≡ true → d ≡ deadline_if b d
started-deadline true d e = refl
started-deadline false d e = absurd (both e)

start-uncontended : (x : Machine) → NobodyActsAnew x (start_machine x)
start-uncontended x = record {
  parted = λ p r. absurd (both r);
  ready_by_grant = λ p r. absurd (both r);
  acts = λ a. elim a [ inl e ↦ inl e | inr e ↦ absurd (both e) ];
  deadline = λ a. elim a [ inl e ↦ started-deadline x.live x.deadline e | inr e ↦ absurd (both e) ];
  basis = refl;
  hold = omega arith;
  runs = omega arith;
  agent = λ g is. inr (subst (λ (h : Agent). NewRun x (start_machine x) h) (some-is (fresh_agent (x.runs + 1)) g is)
      (record {
        later = omega arith;
        known = omega arith;
        waits = refl;
        lease = refl;
        leader = refl;
        failsafe = refl;
        leads = refl;
        informed = refl;
        failsafe_check = refl;
      }));
}

pub inv-kill : (s : State) (m : ℕ) → IsSound s
    → IsSound (record s { members = put_at s.members m (kill_machine (s.members m)) })
inv-kill s m = inv-uncontended s (put_at s.members m (kill_machine (s.members m)))
    (put-uncontended s m (kill_machine (s.members m)) (kill-uncontended (s.members m)))

pub inv-crash : (s : State) (m : ℕ) → IsSound s
    → IsSound (record s { members = put_at s.members m (crash_machine (s.members m)) })
inv-crash s m = inv-uncontended s (put_at s.members m (crash_machine (s.members m)))
    (put-uncontended s m (crash_machine (s.members m)) (crash-uncontended (s.members m)))

pub inv-started : (s : State) (m : ℕ) → IsSound s
    → IsSound (record s { members = put_at s.members m (start_machine (s.members m)) })
inv-started s m = inv-uncontended s (put_at s.members m (start_machine (s.members m)))
    (put-uncontended s m (start_machine (s.members m)) (start-uncontended (s.members m)))

-- messages that are lost
inv-fewer : (s : State) (flight : ℕ → Option Flying) → ((i : ℕ) (f : Flying) → flight i ≡ Some f → s.flight i ≡ Some f)
    → IsSound s → IsSound (record s { flight = flight })
inv-fewer s flight fewer inv =
    let less : ((i : ℕ) (q : Question) → flight i ≡ Some (Requested q) → s.flight i ≡ Some (Requested q)) =
    λ i q at. fewer i (Requested q) at in
    record {
      guarded = λ m acts. let g = inv.guarded m acts in record {
        until = g.until;
        is = g.is;
        later = g.later;
        cover = elim g.cover [
          | inl c ↦ inl c
          | inr c ↦ let h = c.1 in inr (
            c.0,
            record {
              f = h.f;
              is = h.is;
              owner = h.owner;
              spans =
                  spans-fewer s.failsafe s.leader s.flight flight m (λ p. g.until ≤ (s.members p).hold) less h.spans;
            },
          )
        ];
      };
      sole = inv.sole;
      parted = inv.parted;
      ready_by_grant = inv.ready_by_grant;
      off = inv.off;
      bounded = inv.bounded;
      failsafe_bounded = inv.failsafe_bounded;
      asked = λ i q at. inv.asked i q (fewer i (Requested q) at);
      said = λ i a at. inv.said i a (fewer i (Answered a) at);
      failsafe_requests = λ i q at. inv.failsafe_requests i q (fewer i (FailsafeRequested q) at);
      yeses = λ i h at. inv.yeses i h (fewer i (Acknowledged h) at);
      taken = inv.taken;
      kept = inv.kept;
      spans = λ m g is acts leads.
          spans-fewer s.failsafe s.leader s.flight flight m (λ p. g.known p ≡ true) less (inv.spans m g is acts leads);
      failsafe_check = λ m g b is e. let old = inv.failsafe_check m g b is e in record {
        counted = old.counted;
        there = old.there;
        yes = old.yes;
        spans =
            λ acts. spans-fewer s.failsafe s.leader s.flight flight m (λ p. b.members p ≡ true) less (old.spans acts);
      };
      fresh = λ i a grant at is w. elim (inv.fresh i a grant (fewer i (Answered a) at) is w) [
        | inl over ↦ inl over
        | inr p ↦ inr (present-fewer s.leader s.failsafe s.flight flight a.member grant less p)
      ];
      tokens = λ i a grant at is. let t = inv.tokens i a grant (fewer i (Answered a) at) is in record {
        released = λ j q e is. t.released j q (fewer j (Requested q) e) is;
        valued = t.valued;
        single = λ j b h e g same. t.single j b h (fewer j (Answered b) e) g same;
      };
    }

pub inv-lose : (s : State) (k : ℕ) → IsSound s → IsSound (record s { flight = put_at s.flight k None })
inv-lose s k = inv-fewer s (put_at s.flight k None) (λ i f at. dropped s.flight k i f at)

-- a tick
keep-known : (b : Bool) (at : ℕ) (key k : LeaderKey) → nat_le key.expiry at ≡ b → kept_if b key ≡ Some k
    → ◌≡◌ {A = Option LeaderKey} (Some key) (Some k)
keep-known true at key k e is = absurd (none-some k is)
keep-known false at key k e is = is

pub key-known : (at : ℕ) (key : Option LeaderKey) (k : LeaderKey) → leader_kept at key ≡ Some k → key ≡ Some k
key-known at None k is = is
key-known at (Some key) k is = keep-known (nat_le key.expiry at) at key k refl is

keep-stays : (b : Bool) (at : ℕ) (key : LeaderKey) → nat_le key.expiry at ≡ b → at < key.expiry
    → kept_if b key ≡ Some key
keep-stays true at key e later = absurd (omega (arith, le-from key.expiry at e, later))
keep-stays false at key e later = refl

key-stays : (at : ℕ) (key : Option LeaderKey) (k : LeaderKey) → key ≡ Some k → at < k.expiry
    → leader_kept at key ≡ Some k
key-stays at None k is later = absurd (none-some k is)
key-stays at (Some key) k is later = let same = some-is key k is in
    keep-stays (nat_le key.expiry at) at key refl (omega (arith, later, ap (λ (x : LeaderKey). x.expiry) same)) ∙ is

key-tick : (at : ℕ) (key : Option LeaderKey) (top : ℕ) → KeyAfter key top (leader_kept at key) top
key-tick at key top = record { grows = omega arith; known = λ k is. inl (key-known at key k is) }

fresh-tick : (b : Bool) (at : ℕ) (key : Option LeaderKey) (fkey : Option FailsafeKey)
    (flight : ℕ → Option Flying) (m : ℕ) (grant : Grant) → nat_le (grant.moment + grant.ttl) at ≡ b
    → IsPresent key fkey flight m grant → IsFresh at (leader_kept at key) fkey flight m grant
fresh-tick true at key fkey flight m grant e p = inl (le-from (grant.moment + grant.ttl) at e)
fresh-tick false at key fkey flight m grant e p = inr (record {
  found_key = p.found_key;
  key_is = key-stays at key p.found_key p.key_is (omega (arith, gt-from (grant.moment + grant.ttl) at e, p.lasts));
  revision = p.revision;
  holder = p.holder;
  lasts = p.lasts;
  alone = p.alone;
  listed = p.listed;
})

spans-tick : (at : ℕ) (fkey : Option FailsafeKey) (key : Option LeaderKey) (flight : ℕ → Option Flying)
    (m : ℕ) (X : ℕ → Type 0) → Spans fkey key flight m X → Spans fkey (leader_kept at key) flight m X
spans-tick at fkey key flight m X s = record {
  listed = s.listed;
  coming = λ j q compared ttl set k e e' is. s.coming j q compared ttl set k e e' (key-known at key k is);
}

abbrev Ahead : ℕ → Machine → Type 0
Ahead at x = (d : ℕ) → Acts x → x.deadline ≡ Some d → at < d

inv-pass : (s : State) → ((m : ℕ) → Ahead (s.clock + 1) (s.members m)) → IsSound s
    → IsSound (record s { clock = s.clock + 1; leader = leader_kept (s.clock + 1) s.leader })
inv-pass s ahead inv = let at : ℕ = s.clock + 1 in let a = key-tick at s.leader s.revision in
    let b = f-same s.failsafe s.revision s.revision (omega arith) in record {
      guarded = λ m acts. let g = inv.guarded m acts in let later = ahead m g.until acts g.is in
          record {
            until = g.until;
            is = g.is;
            later = later;
            cover = elim g.cover [
              | inl c ↦ let h = c.1 in inl (
                c.0,
                record {
                  found_key = h.found_key;
                  key_is = key-stays at s.leader h.found_key h.key_is (omega (arith, later, h.lasts));
                  holder = h.holder;
                  lasts = h.lasts;
                },
              )
              | inr c ↦ let h = c.1 in inr (
                c.0,
                record {
                  f = h.f;
                  is = h.is;
                  owner = λ k is. h.owner k (key-known at s.leader k is);
                  spans = spans-tick at s.failsafe s.leader s.flight m (λ p. g.until ≤ (s.members p).hold) h.spans;
                },
              )
            ];
          };
      sole = inv.sole;
      parted = inv.parted;
      ready_by_grant = inv.ready_by_grant;
      off = inv.off;
      bounded = λ k is. inv.bounded k (key-known at s.leader k is);
      failsafe_bounded = inv.failsafe_bounded;
      asked = λ i q e. request-after s.declared.failsafe s.clock at s.leader (leader_kept at s.leader) s.failsafe
          s.failsafe s.revision s.revision s.members q (omega arith) a b (inv.asked i q e);
      said = λ i c e. answer-after s.leader (leader_kept at s.leader) s.failsafe s.failsafe s.revision s.revision
          (s.members c.member) c a b (inv.said i c e);
      failsafe_requests = λ i q e. let old = inv.failsafe_requests i q e in
          record { numbered = old.numbered; sent = omega (arith, old.sent); matches = old.matches };
      yeses = inv.yeses;
      taken = inv.taken;
      kept = λ m g is. agent-after s.leader (leader_kept at s.leader) s.failsafe s.failsafe s.revision s.revision m
          (s.members m).runs g a b (inv.kept m g is);
      spans = λ m g is acts leads.
          spans-tick at s.failsafe s.leader s.flight m (λ p. g.known p ≡ true) (inv.spans m g is acts leads);
      failsafe_check = λ m g c is e. let old = inv.failsafe_check m g c is e in record {
        counted = old.counted;
        there = old.there;
        yes = old.yes;
        spans = λ acts. spans-tick at s.failsafe s.leader s.flight m (λ p. c.members p ≡ true) (old.spans acts);
      };
      fresh = λ i c grant e is w. elim (inv.fresh i c grant e is w) [
        | inl over ↦ inl (omega (arith, over))
        | inr p ↦
            fresh-tick (nat_le (grant.moment + grant.ttl) at) at s.leader s.failsafe s.flight c.member grant refl p
      ];
      tokens = inv.tokens;
    }

tick-uncontended : (due stops : Bool) (x : Machine) → NobodyActsAnew x (tick_machine due stops x)
tick-uncontended true stops x = record {
  parted = λ p r. refl;
  ready_by_grant = λ p r. absurd (both r);
  acts = λ a. elim a [ inl e ↦ absurd (both e) | inr e ↦ absurd (both e) ];
  deadline = λ a. elim a [ inl e ↦ absurd (both e) | inr e ↦ absurd (both e) ];
  basis = refl;
  hold = omega arith;
  runs = omega arith;
  agent = λ g is. absurd (none-some g is);
}
tick-uncontended false true x = crash-uncontended x
tick-uncontended false false x = same-uncontended x

due-some : (at : ℕ) (deadline : Option ℕ) (d : ℕ) → is_due at deadline ≡ false → deadline ≡ Some d → at < d
due-some at None d e is = absurd (none-some d is)
due-some at (Some until) d e is = omega (arith, gt-from until at e, some-is until d is)

tick-ahead : (due stops : Bool) (at : ℕ) (x : Machine) → is_due at x.deadline ≡ due
    → Ahead at (tick_machine due stops x)
tick-ahead true stops at x e d a is = absurd (none-some d is)
tick-ahead false true at x e d a is = due-some at x.deadline d e is
tick-ahead false false at x e d a is = due-some at x.deadline d e is

pub inv-tick : (s : State) (stops : ℕ → Bool) → IsSound s → IsSound (state_after_tick s stops)
inv-tick s stops inv =
    let members : (ℕ → Machine) =
    λ m. tick_machine (is_due (s.clock + 1) (s.members m).deadline) (stops m) (s.members m) in
    inv-pass (record s { members = members })
    (λ m. tick-ahead (is_due (s.clock + 1) (s.members m).deadline) (stops m) (s.clock + 1) (s.members m) refl)
    (inv-uncontended s members
    (λ m. tick-uncontended (is_due (s.clock + 1) (s.members m).deadline) (stops m) (s.members m)) inv)
