-- Connections that come to a door one after another: each fails for
-- itself, and behind what the door was called for first.
use Rattle.std.proofs.Common.{◌≡◌, ◌≢◌, ℕ, ◌+◌, ◌-◌, ◌≤◌, inl, inr, List, [], ◌∷◌, ◌++◌, length, Result, Ok, Err, arith, append-nil, refl, ◌∙◌, ap, sym, subst}
use Rattle.std.specs.Prelude.{IsErr, OnOk, ◌⊎◌}
use Rattle.std.proofs.lemmas.Bool.{false≢true}
use Rattle.std.proofs.lemmas.List.Elements.{All-nil, All-cons, All-append}
use Rattle.pat_base.specs.declared.member_id.MemberId.{MemberId}
use Rattle.pat_outside.specs.Outside.{Rose}
use Rattle.pat_outside.proofs.Contents.{Rose-earlier}
use Rattle.cluster_model.specs.State.{Cluster}
use Rattle.pat_door.specs.declared.door.Door.{Ghosts}
use Rattle.pat_door.specs.Doors.{Accepted, DoorCall}
use Rattle.serve_model.specs.Connections.{Connection, Whole, bytes_due, steps_of_connection}
use Rattle.pat_serve.specs.Serving.{Serves, calls_by}
use Rattle.run_serving.specs.Served.{AreWhole, ComeApart, FailApart, IsCalledFor, calls_with, due_on}
use Rattle.run_printing.specs.declared.serve_error.ServeError.{ServeError}
use Rattle.run_printing.specs.declared.serve_error.ServeError.TheVariants.{Memory}
use Rattle.run_model.specs.Visits.{after_steps, visits_steps}
use Rattle.run_player.proofs.Played.{run_events-append}

calls-append : (calls : List DoorCall) (first more : List Connection)
    → calls_with calls (first ++ more) ≡ calls_with (calls_with calls first) more
calls-append calls [] more = refl
calls-append calls (visitor ∷ first) more = calls-append (calls_by visitor.course (calls ++ Accepted ∷ [])) first more

apart-earlier : (visitors : List Connection) (a b c : ℕ) → a ≤ b → FailApart visitors b c → FailApart visitors a c
apart-earlier [] a b c ab more = omega (arith, ab, more)
apart-earlier (visitor ∷ visitors) a b c ab more =
    (more.0, omega (arith, ab, more.1), λ other. Rose-earlier a b more.0 ab (more.2 other), more.3)

apart-append : (first more : List Connection) (a b c : ℕ) → FailApart first a b → FailApart more b c
    → FailApart (first ++ more) a c
apart-append [] more a b c one two = apart-earlier more a b c one two
apart-append (visitor ∷ first) more a b c one two =
    (one.0, one.1, one.2, apart-append first more one.0 b c one.3 two)

due-append : (cluster : Cluster) (id : MemberId) (first more : List Connection)
    → due_on cluster id (first ++ more)
    ≡ due_on cluster id first + due_on (after_steps cluster (visits_steps cluster id first)) id more
due-append cluster id [] more =
    let same : due_on (after_steps cluster (visits_steps cluster id [])) id more ≡ due_on cluster id more = refl in
    omega (arith, same)
due-append cluster id (visitor ∷ first) more =
    let steps = steps_of_connection cluster id visitor in
    let next = after_steps cluster steps in
    let later : due_on (after_steps next (visits_steps next id first)) id more
    ≡ due_on (after_steps cluster (steps ++ visits_steps next id first)) id more =
    ap (λ (c : Cluster). due_on c id more) (run_events-append cluster steps (visits_steps next id first)) in
    omega (arith, due-append next id first more, later)

none-whole : AreWhole []
none-whole = All-nil (λ visitor. visitor.course ≡ Whole)

ok-is-no-err : {X : Type 0} (x : X) → IsErr {T = X} {E = ServeError} (Ok x) → ⊥
ok-is-no-err x is = false≢true is

ok-is-no-memory : {X : Type 0} (x : X) → Ok x ≢ Err Memory
ok-is-no-memory x e = cc

other-error : {X Y : Type 0} (error : ServeError) → ◌≡◌ {A = Result X ServeError} (Err error) (Err Memory)
    → ◌≡◌ {A = Result Y ServeError} (Err error) (Err Memory)
other-error error e = let same : error ≡ Memory = cc in ap Err same

-- an error came before the door was called
pub apart-none : {D X : Type 0} (door : Ghosts D) (was : D) (error : ServeError) (cluster : Cluster) (id : MemberId)
    (first : List DoorCall) → ComeApart {X = X} door was was (Err error) cluster id first []
apart-none door was error cluster id first = record {
  heard = λ not calls had. inr (refl, refl, had);
  apart = omega arith;
  whole = λ n can fits. (none-whole, tt);
}

-- memory was wanting meanwhile
pub apart-none-since : {D X : Type 0} (door : Ghosts D) (was now : D) (cluster : Cluster) (id : MemberId)
    (first : List DoorCall) → door.connection_faults was ≤ door.connection_faults now
    → ComeApart {X = X} door was now (Err Memory) cluster id first []
apart-none-since door was now cluster id first grows = record {
  heard = λ not. absurd (not refl);
  apart = grows;
  whole = λ n can fits. (none-whole, tt);
}

-- a door that isn't opened, or brings no connection
pub apart-refused : {D X : Type 0} (door : Ghosts D) (was now : D) (error : ServeError) (cluster : Cluster)
    (id : MemberId) (first : List DoorCall) → door.connection_faults now ≡ door.connection_faults was
    → ((calls : List DoorCall) → door.heard was calls → door.heard now calls)
    → ComeApart {X = X} door was now (Err error) cluster id first []
apart-refused door was now error cluster id first line heard = record {
  heard = λ not calls had. inr (refl, refl, heard calls had);
  apart = omega (arith, line);
  whole = λ n can fits. (none-whole, tt);
}

-- the door is open, and nobody came yet
pub apart-start : {D : Type 0} (door : Ghosts D) (was now : D) (cluster : Cluster) (id : MemberId)
    (first : List DoorCall) → door.connection_faults now ≡ door.connection_faults was
    → ((calls : List DoorCall) → door.heard was calls → door.heard now (calls ++ first))
    → ((n : ℕ) → door.has_room was n → door.has_room now n)
    → ComeApart {X = Unit {0}} door was now (Ok tt) cluster id first []
apart-start door was now cluster id first line heard spare = record {
  heard = λ not calls had. inl (heard calls had);
  apart = omega (arith, line);
  whole = λ n can fits.
      let all : n - 0 ≡ n = omega arith in
      (none-whole, subst (door.has_room now) (sym all) (spare n can));
}

-- a connection was accepted and served
pub apart-one : {D X : Type 0} (door : Ghosts D) (was mid now : D) (cluster : Cluster) (id : MemberId)
    (visitor : Connection) (result : Result X ServeError)
    → door.connection_faults mid ≡ door.connection_faults was
    → door.connection_faults mid ≤ door.connection_faults now
    → ((calls : List DoorCall) → door.heard was calls → door.heard mid (calls ++ Accepted ∷ []))
    → ((n : ℕ) → door.has_room was n → door.has_room mid n × door.takes mid n)
    → Serves door mid now (door.told now) cluster id visitor
    → ComeApart door was now result cluster id [] (visitor ∷ [])
apart-one {D = D} {X = X} door was mid now cluster id visitor result line grows heard room s = record {
  heard = λ not calls had.
      let e : calls ++ [] ≡ calls = append-nil calls in
      inl (subst (λ (l : List DoorCall). door.heard now (calls_by visitor.course (l ++ Accepted ∷ []))) (sym e)
      (s.heard (calls ++ Accepted ∷ []) (heard calls had)));
  apart = (
    door.connection_faults now,
    omega (arith, line, grows),
    λ other. subst (λ (n : ℕ). Rose n (door.connection_faults now)) line (s.fails other),
    omega arith,
  );
  whole = λ n can fits.
      let takes = room n can in
      let due : length (bytes_due cluster id visitor) ≤ n = omega (arith, fits) in
      let is : visitor.course ≡ Whole = s.writes n takes.1 due in
      let all : n - length (bytes_due cluster id visitor) ≡ n - (length (bytes_due cluster id visitor) + 0) =
      omega arith in (
        All-cons (λ (v : Connection). v.course ≡ Whole) visitor [] is none-whole,
        anyhow result (subst (door.has_room now) all (s.spare n takes.0 is)),
      );
}
  where
    anyhow : (r : Result X ServeError) {P : Type 0} → P → OnOk r P
    anyhow (Ok x) p = p
    anyhow (Err e) p = tt

-- some came, and then others
pub apart-then : {D X Y : Type 0} (door : Ghosts D) (was mid now : D) (x : X) (result : Result Y ServeError)
    (cluster : Cluster) (id : MemberId) (opening : List DoorCall) (first more : List Connection)
    → ComeApart door was mid (Ok x) cluster id opening first
    → ComeApart door mid now result (after_steps cluster (visits_steps cluster id first)) id [] more
    → ComeApart door was now result cluster id opening (first ++ more)
apart-then {D = D} {X = X} {Y = Y} door was mid now x result cluster id opening first more p q = record {
  heard = λ not calls had. inl (by-first not calls (p.heard (ok-is-no-memory x) calls had));
  apart = apart-append first more _ _ _ p.apart q.apart;
  whole = λ n can fits.
      let e = due-append cluster id first more in
      let one = p.whole n can (omega (arith, fits, e)) in
      let two = q.whole (n - due_on cluster id first) one.1 (omega (arith, fits, e)) in
      let left : (n - due_on cluster id first)
      - due_on (after_steps cluster (visits_steps cluster id first)) id more ≡ n - due_on cluster id (first ++ more) =
      omega (arith, e) in (
        All-append (λ (v : Connection). v.course ≡ Whole) first more one.0 two.0,
        subst (λ (k : ℕ). OnOk result (door.has_room now k)) left two.1,
      );
}
  where
    by-more : (calls : List DoorCall) → IsCalledFor door now result (calls_with (calls ++ opening) first) [] more
        → door.heard now (calls_with (calls ++ opening) (first ++ more))
    by-more calls (inl two) =
        subst (door.heard now) (sym (calls-append (calls ++ opening) first more))
        (subst (λ (l : List DoorCall). door.heard now (calls_with l more))
        (append-nil (calls_with (calls ++ opening) first)) two)
    by-more calls (inr two) =
        subst (λ (l : List Connection). door.heard now (calls_with (calls ++ opening) l))
        (sym (ap (λ l. first ++ l) two.1 ∙ append-nil first)) two.2

    by-first : result ≢ Err Memory → (calls : List DoorCall)
        → IsCalledFor {X = X} door mid (Ok x) calls opening first
        → door.heard now (calls_with (calls ++ opening) (first ++ more))
    by-first not calls (inl one) = by-more calls (q.heard not (calls_with (calls ++ opening) first) one)
    by-first not calls (inr one) = absurd (ok-is-no-err x one.0)

-- an error is one of another call too
pub apart-stop : {D X Y : Type 0} (door : Ghosts D) (was now : D) (error : ServeError) (final : Result Y ServeError)
    (cluster : Cluster) (id : MemberId) (first : List DoorCall) (visitors : List Connection) → final ≡ Err error
    → ComeApart {X = X} door was now (Err error) cluster id first visitors
    → ComeApart door was now final cluster id first visitors
apart-stop {X = X} {Y = Y} door was now error final cluster id first visitors stops p = rw stops (record {
  heard = λ not calls had. p.heard (λ e. not (other-error error e)) calls had;
  apart = p.apart;
  whole = λ n can fits. ((p.whole n can fits).0, tt);
})

-- all came, whatever is answered
pub apart-all : {D X Y : Type 0} (door : Ghosts D) (was now : D) (x : X) (y : Y) (cluster : Cluster) (id : MemberId)
    (first : List DoorCall) (visitors : List Connection)
    → ComeApart door was now (Ok x) cluster id first visitors
    → ComeApart door was now (Ok y) cluster id first visitors
apart-all door was now x y cluster id first visitors p = record {
  heard = λ not calls had.
      elim (p.heard (ok-is-no-memory x) calls had) [ inl had ↦ inl had | inr none ↦ absurd (ok-is-no-err x none.0) ];
  apart = p.apart;
  whole = p.whole;
}

-- all came, and an error came then
pub apart-closing : {D X Y : Type 0} (door : Ghosts D) (was now : D) (x : X) (error : ServeError)
    (final : Result Y ServeError) (cluster : Cluster) (id : MemberId) (first : List DoorCall)
    (visitors : List Connection) → final ≡ Err error
    → ComeApart door was now (Ok x) cluster id first visitors
    → ComeApart door was now final cluster id first visitors
apart-closing door was now x error final cluster id first visitors stops p = rw stops (record {
  heard = λ not calls had.
      elim (p.heard (ok-is-no-memory x) calls had) [ inl had ↦ inl had | inr none ↦ absurd (ok-is-no-err x none.0) ];
  apart = p.apart;
  whole = λ n can fits. ((p.whole n can fits).0, tt);
})

-- from the same cluster, by another word
pub apart-so : {D X : Type 0} {door : Ghosts D} {was now : D} {result : Result X ServeError} {cluster same : Cluster}
    {id : MemberId} {first : List DoorCall} {visitors : List Connection} → cluster ≡ same
    → ComeApart door was now result cluster id first visitors → ComeApart door was now result same id first visitors
apart-so {door = door} {was = was} {now = now} {result = result} {id = id} {first = first} {visitors = visitors} is p =
    subst (λ (c : Cluster). ComeApart door was now result c id first visitors) is p
