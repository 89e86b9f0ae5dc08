-- Connections that come one after another: the steps that they bring, and what was sent on each.
use Rattle.std.proofs.Common.{◌≡◌, ◌≢◌, ℕ, ◌+◌, ◌-◌, ◌*◌, ◌^◌, ◌<◌, ◌≤◌, inl, inr, List, [], ◌∷◌, ◌++◌, length, Result, Ok, Err, arith, append_assoc, length-append, refl, ◌∙◌, ap, sym, subst}
use Rattle.std.specs.Prelude.{IsErrOf, ◌⊎◌}
use Rattle.std.proofs.lemmas.Bool.{cases_lt}
use Rattle.std.proofs.lemmas.List.Elements.{All-nil, All-append}
use Rattle.pat_base.specs.declared.member_id.MemberId.{MemberId}
use Rattle.pat_outside.specs.Outside.{Rose}
use Rattle.pat_outside.proofs.Contents.{Rose-earlier}
use Rattle.cluster_model.specs.State.{Cluster}
use Rattle.pat_door.specs.declared.door.Door.{Ghosts}
use Rattle.pat_door.specs.Doors.{DoorFacts, grow_last, grow_last_from}
use Rattle.serve_model.specs.Connections.{Connection, Whole, connection_cost, steps_of_connection}
use Rattle.pat_serve.proofs.Waiting.{connection-few}
use Rattle.run_serving.specs.Served.{AreServed, AreWhole, Came}
use Rattle.run_printing.specs.declared.serve_error.ServeError.{ServeError}
use Rattle.run_printing.specs.declared.serve_error.ServeError.TheVariants.{Door, Memory}
use Rattle.run_model.specs.Visits.{after_steps, visits_steps}
use Rattle.run_player.proofs.Played.{run_events-append}

-- the steps of some connections and then of others
pub visits_steps-append : (cluster : Cluster) (id : MemberId) (first more : List Connection)
    → visits_steps cluster id (first ++ more)
    ≡ visits_steps cluster id first ++ visits_steps (after_steps cluster (visits_steps cluster id first)) id more
visits_steps-append cluster id [] more = refl
visits_steps-append cluster id (visitor ∷ first) more =
    let steps = steps_of_connection cluster id visitor in
    let next = after_steps cluster steps in
    let others = visits_steps next id first in
    ap (λ l. steps ++ l) (visits_steps-append next id first more)
    ∙ sym (append_assoc steps others (visits_steps (after_steps next others) id more))
    ∙ ap (λ c. (steps ++ others) ++ visits_steps c id more) (run_events-append cluster steps others)

-- they are few
pub visits-few : (cluster : Cluster) (id : MemberId) (visitors : List Connection)
    → length (visits_steps cluster id visitors) ≤ connection_cost * length visitors
visits-few cluster id [] = omega arith
visits-few cluster id (visitor ∷ more) =
    let steps = steps_of_connection cluster id visitor in
    let next = after_steps cluster steps in
    omega
    (arith, connection-few cluster id visitor, visits-few next id more, length-append steps (visits_steps next id more))

-- what was sent on some of them and then on others
pub AreServed-append : (cluster : Cluster) (id : MemberId) (first more : List Connection) (was mid now : DoorFacts)
    → AreServed cluster id first was mid
    → AreServed (after_steps cluster (visits_steps cluster id first)) id more mid now
    → AreServed cluster id (first ++ more) was now
AreServed-append cluster id [] more was mid now one two =
    subst (λ (f : DoorFacts). AreServed cluster id more f now) one two
AreServed-append cluster id (visitor ∷ first) more was mid now one two =
    let steps = steps_of_connection cluster id visitor in
    let next = after_steps cluster steps in (
      one.0,
      one.1,
      one.2,
      one.3,
      one.4,
      AreServed-append next id first more _ mid now one.5
          (subst (λ (c : Cluster). AreServed c id more mid now)
          (sym (run_events-append cluster steps (visits_steps next id first))) two),
    )

-- no connection came
pub Came-none : {D X : Type 0} (door : Ghosts D) (was : D) (error : ServeError) (cluster : Cluster)
    (id : MemberId) (count : ℕ) → error ≢ Door → Came {X = X} door was was (Err error) cluster id count []
Came-none door was error cluster id count other = record {
  told = λ not facts there. (facts, there, refl);
  many = tt;
  few = omega arith;
  halts = λ e. absurd (other cc);
  door_grows = omega arith;
  fails = inl (All-nil (λ visitor. visitor.course ≡ Whole));
  grows = omega arith;
  serves = λ more serves. other;
}

-- memory was wanting meanwhile
pub Came-none-since : {D X : Type 0} (door : Ghosts D) (was now : D) (cluster : Cluster) (id : MemberId) (count : ℕ)
    → door.door_faults was ≤ door.door_faults now → door.connection_faults was ≤ door.connection_faults now
    → Came {X = X} door was now (Err Memory) cluster id count []
Came-none-since {X = X} door was now cluster id count grows more = record {
  told = λ not. absurd (not refl);
  many = tt;
  few = omega arith;
  halts = λ e. absurd (no-door e);
  door_grows = grows;
  fails = inl (All-nil (λ visitor. visitor.course ≡ Whole));
  grows = more;
  serves = λ more has e. memory-no-door e;
}
  where
    no-door : IsErrOf {T = X} {E = ServeError} (Err Memory) Door → ⊥
    no-door e = cc

    memory-no-door : Memory ≡ Door → ⊥
    memory-no-door e = cc

-- a door that isn't opened, or brings no connection
pub Came-refused : {D X : Type 0} (door : Ghosts D) (was now : D) (cluster : Cluster) (id : MemberId) (count : ℕ)
    → door.told now ≡ door.told was → Rose (door.door_faults was) (door.door_faults now)
    → door.door_faults was ≤ door.door_faults now
    → door.connection_faults now ≡ door.connection_faults was → ((more : ℕ) → door.serves was (count + more) → ⊥)
    → Came {X = X} door was now (Err Door) cluster id count []
Came-refused door was now cluster id count same rose grows line serves = record {
  told = λ not facts there. (facts, same ∙ there, refl);
  many = tt;
  few = omega arith;
  halts = λ e. rose;
  door_grows = grows;
  fails = inl (All-nil (λ visitor. visitor.course ≡ Whole));
  grows = omega (arith, line);
  serves = λ more has e. serves more has;
}

last-value : (a b c : ℕ) → a ≤ b → b ≤ c → c ≤ a → Rose a b → c ≡ 2 ^ 64 - 1
last-value a b c ab bc ca (inl less) = absurd (omega (arith, less, bc, ca))
last-value a b c ab bc ca (inr last) = omega (arith, ab, bc, ca, last)

-- what rose stays so
Rose-later : (a b c : ℕ) → a ≤ b → b ≤ c → Rose a b → Rose a c
Rose-later a b c ab bc rose = elim (cases_lt a c) [
  | inl less ↦ inl less
  | inr more ↦ inr (last-value a b c ab bc more rose)
]

both-whole : (first more : List Connection) (a b c : ℕ) → a ≤ b → b ≤ c → AreWhole first ⊎ Rose a b
    → AreWhole more ⊎ Rose b c → AreWhole (first ++ more) ⊎ Rose a c
both-whole first more a b c ab bc (inl one) (inl two) =
    inl (All-append (λ visitor. visitor.course ≡ Whole) first more one two)
both-whole first more a b c ab bc (inl one) (inr two) = inr (Rose-earlier a b c ab two)
both-whole first more a b c ab bc (inr one) two = inr (Rose-later a b c ab bc one)

-- some came, and then others
pub Came-then : {D X Y : Type 0} (door : Ghosts D) (was mid now : D) (x : X) (result : Result Y ServeError)
    (cluster : Cluster) (id : MemberId) (some count whole : ℕ) (first more : List Connection) → some + count ≡ whole
    → Came door was mid (Ok x) cluster id some first
    → Came door mid now result (after_steps cluster (visits_steps cluster id first)) id count more
    → Came door was now result cluster id whole (first ++ more)
Came-then door was mid now x (Ok y) cluster id some count whole first more all p q = record {
  told = λ not facts there.
      let a = p.told (λ e. cc) facts there in
      let b = q.told not a.0 a.1 in
      (b.0, b.1, AreServed-append cluster id first more facts a.0 b.0 a.2 b.2);
  many = omega (arith, length-append first more, p.many, q.many, all);
  few = omega (arith, length-append first more, p.few, q.few, all);
  halts = λ e. absurd (q-ok e);
  door_grows = omega (arith, p.door_grows, q.door_grows);
  fails = both-whole first more _ _ _ p.grows q.grows p.fails q.fails;
  grows = omega (arith, p.grows, q.grows);
  serves =
      λ spare serves. q.serves spare (p.serves (count + spare) (subst (door.serves was) (omega (arith, all)) serves));
}
  where
    q-ok : IsErrOf {E = ServeError} (Ok y) Door → ⊥
    q-ok e = cc
Came-then door was mid now x (Err error) cluster id some count whole first more all p q = record {
  told = λ not facts there.
      let a = p.told (λ e. cc) facts there in
      let b = q.told not a.0 a.1 in
      (b.0, b.1, AreServed-append cluster id first more facts a.0 b.0 a.2 b.2);
  many = tt;
  few = omega (arith, length-append first more, p.few, q.few, all);
  halts = λ e. Rose-earlier _ _ _ p.door_grows (q.halts e);
  door_grows = omega (arith, p.door_grows, q.door_grows);
  fails = both-whole first more _ _ _ p.grows q.grows p.fails q.fails;
  grows = omega (arith, p.grows, q.grows);
  serves =
      λ spare serves. q.serves spare (p.serves (count + spare) (subst (door.serves was) (omega (arith, all)) serves));
}

-- more may have been to come
pub Came-stop : {D X Y : Type 0} (door : Ghosts D) (was now : D) (error : ServeError) (final : Result Y ServeError)
    (cluster : Cluster) (id : MemberId) (count whole : ℕ) (visitors : List Connection) → count ≤ whole
    → final ≡ Err error
    → Came {X = X} door was now (Err error) cluster id count visitors
    → Came door was now final cluster id whole visitors
Came-stop door was now error final cluster id count whole visitors fewer stops p = rw stops (record {
  told = λ not. p.told (λ e. not (ap Err cc));
  many = tt;
  few = omega (arith, p.few, fewer);
  halts = λ e. p.halts (ap Err cc);
  door_grows = p.door_grows;
  fails = p.fails;
  grows = p.grows;
  serves = λ more serves. p.serves ((whole - count) + more) (subst (door.serves was) (omega (arith, fewer)) serves);
})

-- what was answered on the last connection
grown-from : (sent : List ℕ) (first : List ℕ) (answered : List (List ℕ))
    → grow_last_from sent first (answered ++ [] ∷ []) ≡ first ∷ (answered ++ sent ∷ [])
grown-from sent first [] = refl
grown-from sent first (second ∷ more) = ap (λ l. first ∷ l) (grown-from sent second more)

pub grown-last : (sent : List ℕ) (answered : List (List ℕ))
    → grow_last sent (answered ++ [] ∷ []) ≡ answered ++ sent ∷ []
grown-last sent [] = refl
grown-last sent (first ∷ more) = grown-from sent first more

pub some-come : (facts : DoorFacts) (told : List (List ℕ)) → facts.coming ≡ told → 0 < length told
    → (bytes : List ℕ) × (coming : List (List ℕ)) × (facts.coming ≡ bytes ∷ coming)
some-come facts [] is some = absurd (omega (arith, some))
some-come facts (bytes ∷ coming) is some = (bytes, coming, is)
