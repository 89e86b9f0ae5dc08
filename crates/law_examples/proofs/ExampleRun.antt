-- A lawful, timely run, shown by its events, at the end of which member 0 accepts writes: the law isn't empty.
use Rattle.std.proofs.Common.{◌≡◌, ◌⊎◌, ℕ, true, false, List, [], ◌∷◌, ◌++◌, Option, Some, None, refl, ◌∙◌, sym, subst, arith, inl, inr}
use Rattle.pat_base.specs.declared.name.Name.{Name}
use Rattle.store_keys.specs.declared.value.MemberInfo.{MemberInfo}
use Rattle.store_keys.specs.declared.txn.Txn.{Txn}
use Rattle.store_keys.specs.declared.txn.Txn.TheVariants as txns
use Rattle.store_keys.specs.declared.txn.LeaseTxn.TheVariants as lease_txns
use Rattle.event_book.specs.declared.event.Event.{Event}
use Rattle.event_book.specs.declared.event.EventKind.{EventKind}
use Rattle.event_book.specs.declared.event.EventKind.TheVariants as kinds
use Rattle.event_book.specs.declared.event.MessageEvent.TheVariants as messages
use Rattle.event_book.specs.declared.event.StoreEvent.TheVariants as stores
use Rattle.event_book.specs.declared.event.ServerEvent.TheVariants as servers
use Rattle.event_book.specs.declared.event.WatchdogEvent.TheVariants as watchdogs
use Rattle.event_book.specs.declared.link.LinkEnd.TheVariants as ends
use Rattle.event_book.specs.declared.member.Member.{Member}
use Rattle.event_book.specs.declared.member.ServerOf.{ServerOf}
use Rattle.event_book.specs.declared.message.Body.TheVariants as bodies
use Rattle.event_book.specs.Functions.{put_at}
use Rattle.event_book.specs.Writers.{writes_over, AcceptsWrites}
use Rattle.lease_model.specs.Leases.{Create, Question, Grant, Answer, Flying, Requested, Answered}
use Rattle.lease_model.specs.States.{Agent, Declared, State, Acts, fresh_agent}
use Rattle.lease_model.specs.Inputs.{AgentInput, FedKnown, Removed, SetByGrant, MaySend, IsLawful}
use Rattle.lease_model.specs.Actions.{Deliver, Input, act}
use Rattle.lease_model.specs.Past.{Past, past_of, VolatileState, state_of}
use Rattle.lease_model.specs.Books.{Transition, first_volatile_states, book_of}
use Rattle.event_book.specs.Premises.{IsTimely}
use Rattle.lease_model.specs.Feeds.{ShowsFeed}
use Rattle.lease_model.specs.Claims.{IsArmedIn, AreLawful}
use Rattle.lease_model.specs.Showing.{input_of}
use Rattle.lease_model.proofs.Tools.{some-is, none-some, both, put-all}
use Rattle.lease_law.proofs.Showing.{input-shown-of}

abbrev pub declared : Declared
declared = record { margin = λ m. Some 50; failsafe = false }

abbrev member : Name → Member
member name = record { id = record { number = 0; below = omega arith }; name = name }

abbrev server : Name → ServerOf
server name = record { id = record { number = 0; within = omega arith }; name = name }

abbrev at0 : EventKind → Event
at0 kind = record { tick = record { 0 = 0 }; kind = kind }

abbrev create : MemberInfo → Txn
create info = txns.Lease (lease_txns.Create info (record { 0 = 300 }) None None)

abbrev asking : Name → MemberInfo → List Event
asking name info = at0 (kinds.Message (messages.Sent 1 (record {
  from = ends.Member (member name);
  to = ends.Store;
  incarnation = 1;
  sequence = 1;
  body = bodies.Request (create info);
})))
    ∷ []

abbrev granting : Name → MemberInfo → List Name → List Event
granting name info standbys =
    at0 (kinds.Message (messages.Delivered 1))
    ∷ at0 (kinds.Store (stores.Granted 1 (member name) (create info) standbys))
    ∷ at0 (kinds.Message (messages.Sent 2 (record {
      from = ends.Store;
      to = ends.Member (member name);
      incarnation = 1;
      sequence = 1;
      body = bodies.Granted 1 true;
    })))
    ∷ []

abbrev beginning : Name → List Event
beginning name =
    at0 (kinds.Message (messages.Delivered 2))
    ∷ at0 (kinds.Watchdog (watchdogs.Armed (member name) (record { 0 = 250 }) 2))
    ∷ at0 (kinds.Server (servers.Began (server name) 1))
    ∷ []

abbrev waiting : Agent
waiting = record (fresh_agent 1) { last = 1; waits = Some 1 }

abbrev leading : Agent
leading = record (fresh_agent 1) { last = 1; lease = Some 2; leads = true }

abbrev asked : VolatileState
asked = record { live = false; agent = Some waiting }

abbrev leads : VolatileState
leads = record { live = true; agent = Some leading }

abbrev asked_volatile_states : ℕ → VolatileState
asked_volatile_states = put_at first_volatile_states 0 asked

abbrev past1 : Name → MemberInfo → Past
past1 name info = past_of (asking name info)

abbrev past2 : Name → MemberInfo → List Name → Past
past2 name info standbys = past_of (asking name info ++ granting name info standbys)

abbrev asks : Name → MemberInfo → AgentInput
asks name info = input_of (past_of []) 0 asked None false None (asking name info)

abbrev hears : Name → MemberInfo → List Name → AgentInput
hears name info standbys = input_of (past2 name info standbys) 0 leads (Some 2) true None (beginning name)

abbrev pub transitions : Name → MemberInfo → List Name → List Transition
transitions name info standbys =
    record { action = Input 0 (asks name info); events = asking name info; volatile_states = asked_volatile_states }
    ∷ record {
      action = Deliver 1 2 true;
      events = granting name info standbys;
      volatile_states = asked_volatile_states;
    }
    ∷ record {
      action = Input 0 (hears name info standbys);
      events = beginning name;
      volatile_states = put_at asked_volatile_states 0 leads;
    }
    ∷ []

abbrev s0 : State
s0 = state_of declared (past_of []) first_volatile_states

abbrev s1 : Name → MemberInfo → State
s1 name info = state_of declared (past1 name info) asked_volatile_states

abbrev s2 : Name → MemberInfo → List Name → State
s2 name info standbys = state_of declared (past2 name info standbys) asked_volatile_states

abbrev question : Question
question = record { member = 0; incarnation = 1; sequence = 1; sent = 0; query = Create 300 None }

abbrev grant : Grant
grant = record { revision = 2; sent = 0; moment = 0; ttl = 300; failsafe = None }

abbrev answer : Answer
answer = record {
  member = 0;
  incarnation = 1;
  sequence = 1;
  leader = Some (record { holder = 0; revision = 2 });
  failsafe = None;
  grant = Some grant;
}

at-rest : (name : Name) (info : MemberInfo) → Acts (asks name info).machine → ⊥
at-rest name info (inl e) = both e
at-rest name info (inr e) = both e

asks-lawful : (name : Name) (info : MemberInfo) → IsLawful s0 0 (asks name info)
asks-lawful name info = record {
  was = fresh_agent 1;
  was_is = refl;
  agent = waiting;
  agent_is = refl;
  runs = refl;
  incarnation = refl;
  last = omega arith;
  watchdog = Removed (at-rest name info);
  hold = omega arith;
  takes = λ failsafe_request e. absurd (none-some failsafe_request e);
  parted = λ r. refl;
  ready_by_grant = λ r. refl;
  gone = λ number e. absurd (none-some number e);
  flight = put-all (λ i. None) 1 (Some (Requested question))
      (λ i o. (f : Flying) → o ≡ Some f →
      ◌≡◌ {A = Option Flying} None (Some f) ⊎ MaySend s0 0 (asks name info) (fresh_agent 1) waiting f)
      (λ f e.
      inr (subst (λ (x : Flying). MaySend s0 0 (asks name info) (fresh_agent 1) waiting x)
      (some-is (Requested question) f e) (record {
        member = refl;
        incarnation = refl;
        later = omega arith;
        counted = omega arith;
        sent = refl;
        query = refl;
      })))
      (λ i other f e. inl e);
  failsafe_check = λ b e. absurd (none-some b e);
  known = λ p e. e;
  leads = λ e. absurd (both e);
  informed = λ e. absurd (both e);
  failsafe = λ f e. absurd (none-some f e);
  leader = λ x e. absurd (none-some x e);
  lease = λ r e. absurd (none-some r e);
  waits = λ seq e. inr (omega (arith, some-is 1 seq e));
}

abbrev fed : (name : Name) (info : MemberInfo) (standbys : List Name)
    → FedKnown (s2 name info standbys) 0 (hears name info standbys) leading
fed name info standbys = record {
  fed = record {
    grant = grant;
    hears = record {
      number = 2;
      answer = answer;
      heard_is = refl;
      is = refl;
      member = refl;
      grant_is = refl;
      waited = record { agent = waiting; is = refl; incarnation = refl; sequence = refl };
    };
    deadline = 250;
    deadline_is = (omega arith, omega arith);
  };
  feeds = refl;
  by_grant = refl;
  known = λ f e. absurd (none-some f e);
}

-- nothing is in flight at the end
nothing : (i : ℕ)
    → put_at (put_at (put_at (put_at (λ k. None) 1 (Some (Requested question))) 1 None) 2 (Some (Answered answer)))
    2 None i ≡ None
nothing = put-all (put_at (put_at (put_at (λ k. None) 1 (Some (Requested question))) 1 None) 2 (Some (Answered answer)))
    2 None (λ i o. o ≡ None) refl
    (λ i not-two. put-all (put_at (put_at (λ k. None) 1 (Some (Requested question))) 1 None) 2
    (Some (Answered answer)) (λ k o. (k ≡ 2 → ⊥) → o ≡ None) (λ no. absurd (no refl))
    (λ k other no. put-all (put_at (λ j. None) 1 (Some (Requested question))) 1 None (λ j o. o ≡ None) refl
    (λ j not-one. put-all (λ l. None) 1 (Some (Requested question)) (λ l o. (l ≡ 1 → ⊥) → o ≡ None)
    (λ no. absurd (no refl)) (λ l o no. refl) j not-one)
    k)
    i not-two)

hears-lawful : (name : Name) (info : MemberInfo) (standbys : List Name)
    → IsLawful (s2 name info standbys) 0 (hears name info standbys)
hears-lawful name info standbys = record {
  was = waiting;
  was_is = refl;
  agent = leading;
  agent_is = refl;
  runs = refl;
  incarnation = refl;
  last = omega arith;
  watchdog = SetByGrant (fed name info standbys) refl refl (λ a. inr (omega arith));
  hold = omega arith;
  takes = λ failsafe_request e. absurd (none-some failsafe_request e);
  parted = λ r. absurd (both r);
  ready_by_grant = λ r. absurd (both r);
  gone = λ number e. nothing number;
  flight = λ i f e. absurd (none-some f (sym (nothing i) ∙ e));
  failsafe_check = λ b e. absurd (none-some b e);
  known = λ p e. e;
  leads = λ e. inr (fed name info standbys);
  informed = λ e. absurd (both e);
  failsafe = λ f e. absurd (none-some f e);
  leader = λ x e. absurd (none-some x e);
  lease = λ r e. inr (grant, (fed name info standbys).fed.hears, some-is 2 r e);
  waits = λ seq e. absurd (none-some seq e);
}

-- its second event tells the arming
shown : (name : Name) (info : MemberInfo) (standbys : List Name)
    → ShowsFeed (s2 name info standbys) 0 (hears name info standbys) (at0 (kinds.Message (messages.Delivered 2)) ∷ [])
    (at0 (kinds.Watchdog (watchdogs.Armed (member name) (record { 0 = 250 }) 2)))
shown name info standbys = record {
  by_grant = λ feeds basis number e. ((tt, tt), (refl, some-is 2 number e));
  by_failsafe = λ feeds basis. absurd (both basis);
}

armed : (name : Name)
    → IsArmedIn 0 2
    (at0 (kinds.Message (messages.Delivered 2))
    ∷ at0 (kinds.Watchdog (watchdogs.Armed (member name) (record { 0 = 250 }) 2)) ∷ [])
armed name = record {
  front = at0 (kinds.Message (messages.Delivered 2)) ∷ [];
  event = at0 (kinds.Watchdog (watchdogs.Armed (member name) (record { 0 = 250 }) 2));
  rest = [];
  is = refl;
  aside = (tt, tt);
  fed = (refl, refl);
}

live-there : (name : Name) (info : MemberInfo) (standbys : List Name) (n : ℕ)
    → writes_over (λ k. false) (beginning name) n ≡ true
    → ((act (s2 name info standbys) (Input 0 (hears name info standbys))).members n).live ≡ true
live-there name info standbys = put-all (s2 name info standbys).members 0 (hears name info standbys).machine
    (λ n z. put_at (λ k. false) 0 true n ≡ true → z.live ≡ true) (λ e. refl)
    (λ n other e.
    absurd (put-all (λ m. false) 0 true (λ k b. (k ≡ 0 → ⊥) → b ≡ true → ⊥) (λ not-zero f. not-zero refl)
    (λ k o no-zero f. both f) n other e))

pub lawful : (name : Name) (info : MemberInfo) (standbys : List Name)
    → AreLawful declared [] first_volatile_states (transitions name info standbys)
lawful name info standbys = (
  record { lawful = asks-lawful name info; shows = inl refl; begins = (tt, tt); lives = λ n e. absurd (both e) },
  (
    input-shown-of declared [] first_volatile_states 0 asked None false None (asking name info) (tt, tt) refl,
    (
      record { lawful = tt; shows = tt; begins = (tt, (tt, (tt, tt))); lives = λ n e. absurd (both e) },
      (
        refl,
        (
          record {
            lawful = hears-lawful name info standbys;
            shows = inr (
              at0 (kinds.Message (messages.Delivered 2)) ∷ [],
              at0 (kinds.Watchdog (watchdogs.Armed (member name) (record { 0 = 250 }) 2)),
              at0 (kinds.Server (servers.Began (server name) 1)) ∷ [],
              refl,
              shown name info standbys,
            );
            begins = (
              tt,
              (
                tt,
                (
                  (refl, inr (record { fed = (fed name info standbys).fed; free = omega arith; armed = armed name })),
                  tt,
                ),
              ),
            );
            lives = live-there name info standbys;
          },
          (
            input-shown-of declared (asking name info ++ granting name info standbys) asked_volatile_states 0 leads
                (Some 2) true None (beginning name) (tt, (refl, (tt, tt))) refl,
            tt,
          ),
        ),
      ),
    ),
  ),
)

pub timely : (name : Name) (info : MemberInfo) (standbys : List Name)
    → IsTimely declared.margin (book_of (transitions name info standbys))
timely name info standbys = (tt, (tt, (tt, (tt, (tt, (omega arith, (tt, tt)))))))

pub writes : (name : Name) (info : MemberInfo) (standbys : List Name)
    → AcceptsWrites (book_of (transitions name info standbys)) 0
writes name info standbys = refl
