-- Connections that a player served.
use Rattle.std.proofs.Common.{◌≡◌, ◌≢◌, Bool, ℕ, ◌+◌, ◌-◌, ◌*◌, ◌<◌, ◌≤◌, inl, inr, List, [], ◌∷◌, ◌++◌, length, map, Some, None, Result, Ok, Err, arith, append_assoc, append-nil, refl, ◌∙◌, ap, sym, subst}
use Rattle.std.specs.Prelude.{All, IsErrOf, IsOk, IsTrue, OnOk, ◌⊎◌}
use Rattle.std.proofs.lemmas.Bool.{false≢true}
use Rattle.std.proofs.lemmas.List.Elements.{All-nil, All-cons}
use Rattle.pat_base.specs.declared.member_id.MemberId.{MemberId}
use Rattle.pat_outside.specs.declared.outside.Sink.{Ghosts as SinkGhosts}
use Rattle.pat_outside.specs.Outside.{Grew, Rose}
use Rattle.pat_outside.specs.Prints.{Prints}
use Rattle.pat_outside.proofs.Contents.{Grew-Grew, Grew-nothing}
use Rattle.pat_outside.proofs.Printing.{Prints-none, Prints-nothing, Prints-ok, Prints-stop, Prints-then}
use Rattle.event_book.specs.declared.event.Event.{Event}
use Rattle.event_list.specs.Listed.{Listed, traced_list}
use Rattle.summary_model.specs.Sights.{SummaryFacts, noted_steps}
use Rattle.cluster_model.specs.declared.step.Step.{Step}
use Rattle.cluster_model.specs.Next.{run_events}
use Rattle.cluster_model.specs.State.{Cluster}
use Rattle.cluster_model.specs.Steps.{names_in}
use Rattle.event_book.specs.declared.member.Member.{Member}
use Rattle.script_model.specs.Script.{IsMember}
use Rattle.world_model.proofs.Taking.{members-stay}
use Rattle.pat_door.specs.declared.door.Door.{Ghosts as DoorGhosts}
use Rattle.pat_door.specs.Doors.{DoorFacts, Tells, accept_first, after_accept, bytes_here}
use Rattle.serve_model.specs.Connections.{Connection, Course, Unread, Unwritten, Whole, connection_cost, steps_of_connection}
use Rattle.pat_serve.specs.Serving.{Brings, Serves}
use Rattle.run_model.specs.Run.{events_by_step, printed_from}
use Rattle.simulation.specs.Steps.{HasStepsLeft}
use Rattle.simulation.proofs.Stepping.{steps-left-behind, steps-left-fewer}
use Rattle.run_printing.specs.declared.print_error.PrintError.{PrintError}
use Rattle.run_printing.specs.declared.print_error.PrintError.TheVariants as prints
use Rattle.run_player.specs.Playing.{PlayerFacts, Plays}
use Rattle.run_serving.specs.Receiving.{PrintsSteps, Receives}
use Rattle.run_serving.specs.Served.{AreServed, AreWhole, Came}
use Rattle.run_printing.specs.declared.serve_error.ServeError.{ServeError}
use Rattle.run_printing.specs.declared.serve_error.ServeError.TheVariants.{Door, Memory, Write}
use Rattle.run_model.specs.Visits.{visits_steps}
use Rattle.run_printing.specs.Errors.{serve_error}
use Rattle.run_printing.specs.Showing.{Shows, ShowsWhole, lines_by_step}
use Rattle.run_player.proofs.Played.{Plays-nothing, Plays-then, PrintsWholeSteps-none, next-text}
use Rattle.run_serving.proofs.Shown.{connection-visiting, lines-visiting, shows-whole, traced-visiting}
use Rattle.run_serving.proofs.Visiting.{Came-stop, Came-then, grown-last, some-come, visits-few, visits_steps-append}

whole-or : (course : Course) (Rises : Type 0) → ((course ≡ Whole → ⊥) → Rises) → (course ≡ Whole) ⊎ Rises
whole-or Whole Rises rises = inl refl
whole-or Unread Rises rises = inr (rises (λ e. cc))
whole-or Unwritten Rises rises = inr (rises (λ e. cc))

none-failed : (visitor : Connection) (Rises : Type 0) → (visitor.course ≡ Whole) ⊎ Rises
    → AreWhole (visitor ∷ []) ⊎ Rises
none-failed visitor Rises (inl whole) =
    inl (All-cons (λ v. v.course ≡ Whole) visitor [] whole (All-nil (λ v. v.course ≡ Whole)))
none-failed visitor Rises (inr rises) = inr rises

-- a connection was accepted and served
pub record Comes {D : Type 0} (door : DoorGhosts D) (was mid now : D) (cluster : Cluster) (id : MemberId)
    (visitor : Connection) : Type 0 where
  pub some : Tells (door.told was) (λ facts. 0 < length facts.coming)
  pub accepted : Tells (door.told was) (λ facts. door.told mid ≡ Some (after_accept facts))
  pub door_grows : door.door_faults was ≤ door.door_faults mid
  pub same : door.connection_faults mid ≡ door.connection_faults was
  pub accepts : (n : ℕ) → door.serves was n → 0 < n → door.serves mid (n - 1)
  pub serves : Serves door mid now (door.told now) cluster id visitor
  pub grows : door.connection_faults mid ≤ door.connection_faults now
  pub door_same : door.door_faults now ≡ door.door_faults mid
  pub served : (n : ℕ) → door.serves mid n → door.serves now n

came-told : {D : Type 0} {door : DoorGhosts D} {was mid now : D} {cluster : Cluster} {id : MemberId}
    {visitor : Connection} → Comes door was mid now cluster id visitor
    → Tells (door.told was)
    (λ facts. (then : DoorFacts) × (door.told now ≡ Some then) × AreServed cluster id (visitor ∷ []) facts then)
came-told {door = door} {mid = mid} {now = now} {cluster = cluster} {id = id} {visitor = visitor} c facts there =
    let come = some-come facts facts.coming refl (c.some facts there) in
    let bytes : List ℕ = come.0 in
    let coming : List (List ℕ) = come.1 in
    let begun : DoorFacts = record { coming = coming; here = Some bytes; answered = facts.answered ++ [] ∷ [] } in
    let accepted : door.told mid ≡ Some begun = c.accepted facts there ∙ ap (λ l. Some (accept_first l facts)) come.2 in
    let sent = c.serves.sends begun accepted in
    let left : DoorFacts = record { coming = coming; here = None; answered = facts.answered ++ sent.0 ∷ [] } in (
      left,
      sent.2
          ∙ ap (λ (answered : List (List ℕ)). Some (record { coming = coming; here = None; answered = answered }))
          (grown-last sent.0 facts.answered),
      (
        bytes,
        coming,
        sent.0,
        come.2,
        record { asks = λ not. c.serves.asks not bytes (ap bytes_here accepted); sends = sent.1 },
        refl,
      ),
    )

came-spare : {D : Type 0} {door : DoorGhosts D} {was mid now : D} {cluster : Cluster} {id : MemberId}
    {visitor : Connection} → Comes door was mid now cluster id visitor → (more : ℕ)
    → door.serves was (1 + more) → door.serves now more
came-spare {door = door} {mid = mid} c more serves =
    let one : (1 + more) - 1 ≡ more = omega arith in
    c.served more (subst (door.serves mid) one (c.accepts (1 + more) serves (omega arith)))

came-fails : {D : Type 0} {door : DoorGhosts D} {was mid now : D} {cluster : Cluster} {id : MemberId}
    {visitor : Connection} → Comes door was mid now cluster id visitor
    → AreWhole (visitor ∷ []) ⊎ Rose (door.connection_faults was) (door.connection_faults now)
came-fails {door = door} {was = was} {now = now} {visitor = visitor} c =
    none-failed visitor _
    (whole-or visitor.course _
    (λ other. subst (λ (n : ℕ). Rose n (door.connection_faults now)) c.same (c.serves.fails other)))

pub Came-one : {D X : Type 0} {door : DoorGhosts D} {was mid now : D} {cluster : Cluster} {id : MemberId}
    {visitor : Connection} (result : Result X ServeError) → Comes door was mid now cluster id visitor
    → (IsErrOf result Door → ⊥) → Came door was now result cluster id 1 (visitor ∷ [])
Came-one (Ok x) c never = record {
  told = λ not. came-told c;
  many = refl;
  few = omega arith;
  halts = λ e. absurd (never e);
  door_grows = omega (arith, c.door_grows, c.door_same);
  fails = came-fails c;
  grows = omega (arith, c.same, c.grows);
  serves = λ more serves. came-spare c more serves;
}
Came-one (Err error) c never = record {
  told = λ not. came-told c;
  many = tt;
  few = omega arith;
  halts = λ e. absurd (never e);
  door_grows = omega (arith, c.door_grows, c.door_same);
  fails = came-fails c;
  grows = omega (arith, c.same, c.grows);
  serves = λ more serves is. never (ap Err is);
}

-- what a connection brought was shown: all, or as far as that went
module _ {K : Type 0} (sink : SinkGhosts K) (before after : PlayerFacts) (out then : K) (id : MemberId)
    (visitor : Connection) (had brought : List Listed) where
  abbrev visits : List Step
  visits = steps_of_connection before.world.cluster id visitor

  only-these : visits_steps before.world.cluster id (visitor ∷ []) ≡ visits
  only-these = append-nil visits

  -- what was brought, without whether messages are traced
  abbrev seen : List (List Event)
  seen = map (λ (l : Listed). l.items) brought

  items-back : (steps : List (List Event)) → map (λ (l : Listed). l.items) (map traced_list steps) ≡ steps
  items-back [] = refl
  items-back (events ∷ steps) = ap (λ (l : List (List Event)). events ∷ l) (items-back steps)

  are-traced : (steps : List (List Event)) → All (λ (l : Listed). IsTrue l.traced) (map traced_list steps)
  are-traced [] = All-nil (λ (l : Listed). IsTrue l.traced)
  are-traced (events ∷ steps) =
      All-cons (λ (l : Listed). IsTrue l.traced) (traced_list events) (map traced_list steps) refl (are-traced steps)

  brought-as : had ≡ [] → Brings before.world after.world had brought visits
      → brought ≡ map traced_list (events_by_step before.world.cluster visits)
  brought-as none b = b.events ∙ ap (λ l. l ++ map traced_list (events_by_step before.world.cluster visits)) none

  brought-is : had ≡ [] → Brings before.world after.world had brought visits
      → seen ≡ events_by_step before.world.cluster visits
  brought-is none b =
      ap (map (λ (l : Listed). l.items)) (brought-as none b) ∙ items-back (events_by_step before.world.cluster visits)

  -- messages were traced in each step
  pub all-traced : had ≡ [] → Brings before.world after.world had brought visits
      → All (λ (l : Listed). IsTrue l.traced) brought
  all-traced none b = subst (All (λ (l : Listed). IsTrue l.traced)) (sym (brought-as none b))
      (are-traced (events_by_step before.world.cluster visits))

  lines-are : had ≡ [] → Brings before.world after.world had brought visits
      → lines_by_step before.trace seen ≡ printed_from before.world.cluster before.trace visits
  lines-are none b = ap (lines_by_step before.trace) (brought-is none b)
      ∙ sym (lines-visiting before.world.cluster before.trace visits
      (connection-visiting before.world.cluster id visitor))

  pub plays-visit : {x : Unit {0}} → had ≡ [] → Brings before.world after.world had brought visits
      → after.trace ≡ before.trace
      → Shows {X = Unit {0}} sink before.summary after.summary before.trace out then (Ok x) seen
      → Plays {X = Unit {0}} sink before after out then (Ok tt) (visits_steps before.world.cluster id (visitor ∷ []))
  plays-visit none b trace s =
      subst (λ (l : List Step). Plays {X = Unit {0}} sink before after out then (Ok tt) l) (sym only-these) (record {
        world = b.cluster;
        trace = trace ∙ sym (traced-visiting before.trace visits (connection-visiting before.world.cluster id visitor));
        summary = s.noted ∙ ap (noted_steps before.summary) (brought-is none b);
        taken = b.taken;
        printed = subst (λ (t : List ℕ). Prints {X = Unit {0}} sink out then prints.Write (Ok tt) t)
            (lines-are none b) (Prints-ok prints.Write tt s.printed);
        whole = λ e. absurd (no-error e);
      })
    where
      no-error : IsErrOf {T = Unit {0}} {E = PrintError} (Ok tt) prints.Memory → ⊥
      no-error e = cc

  pub prints-visit : {x : Unit {0}} → had ≡ [] → Brings before.world after.world had brought visits
      → Shows {X = Unit {0}} sink before.summary after.summary before.trace out then (Ok x) seen
      → PrintsSteps {X = Unit {0}} sink before out then (Ok tt) (visits_steps before.world.cluster id (visitor ∷ []))
  prints-visit none b s =
      subst (λ (l : List Step). PrintsSteps {X = Unit {0}} sink before out then (Ok tt) l) (sym only-these) (record {
        printed = subst (λ (t : List ℕ). Prints {X = Unit {0}} sink out then Write (Ok tt) t) (lines-are none b)
            (Prints-ok Write tt s.printed);
        whole = λ e. absurd (no-memory e);
        halted = λ e. absurd (no-door e);
      })
    where
      no-memory : IsErrOf {T = Unit {0}} {E = ServeError} (Ok tt) Memory → ⊥
      no-memory e = cc

      no-door : IsErrOf {T = Unit {0}} {E = ServeError} (Ok tt) Door → ⊥
      no-door e = cc

  pub prints-part : (error : PrintError) (final : Result (Unit {0}) ServeError) → had ≡ []
      → Brings before.world after.world had brought visits
      → Shows {X = Unit {0}} sink before.summary after.summary before.trace out then (Err error) seen
      → final ≡ Err (serve_error error)
      → PrintsSteps {X = Unit {0}} sink before out then final (visits_steps before.world.cluster id (visitor ∷ []))
  prints-part error final none b s stops =
      subst (λ (l : List Step). PrintsSteps {X = Unit {0}} sink before out then final l) (sym only-these) (record {
        printed = subst (λ (t : List ℕ). Prints {X = Unit {0}} sink out then Write final t)
            (append-nil (lines_by_step before.trace seen) ∙ lines-are none b)
            (Prints-stop Write (serve_error error) final [] s.printed stops (write-is error));
        whole = λ e. shows-whole sink out then before.world.cluster before.trace visits
            (connection-visiting before.world.cluster id visitor)
            (subst (λ (l : List (List Event)). ShowsWhole sink out then before.trace l) (brought-is none b)
            (s.whole (memory-is error (stops-by stops e))));
        halted = λ e. absurd (door-is error (stops-by stops e));
      })
    where
      write-is : (error : PrintError) → serve_error error ≡ Write → error ≡ prints.Write
      write-is prints.Write e = refl
      write-is prints.Memory e = cc

      stops-by : {other : ServeError} → final ≡ Err (serve_error error) → IsErrOf final other
          → serve_error error ≡ other
      stops-by is e = cc

      memory-is : (error : PrintError) → serve_error error ≡ Memory → IsErrOf {T = Unit {0}} (Err error) prints.Memory
      memory-is prints.Write e = cc
      memory-is prints.Memory e = refl

      door-is : (error : PrintError) → serve_error error ≡ Door → ⊥
      door-is prints.Write e = cc
      door-is prints.Memory e = cc

-- no connection came
pub Receives-none : {K D : Type 0} (sink : SinkGhosts K) (door : DoorGhosts D) (before after : PlayerFacts)
    (out : K) (was now : D) (error : ServeError) (final : Result (Unit {0}) ServeError) (id : MemberId) (count : ℕ)
    → final ≡ Err error → error ≢ Write
    → Came {X = Unit {0}} door was now (Err error) before.world.cluster id count []
    → Receives sink door before after out out was now final id count []
Receives-none sink door before after out was now error final id count stops other came = rw stops (record {
  plays = tt;
  prints = record {
    printed = Prints-none sink out Write error (Err error) [] refl other;
    whole = λ e. PrintsWholeSteps-none sink out before.world.cluster before.trace [];
    halted = λ e. Grew-nothing (sink.content out);
  };
  came = came;
})

-- more may have been to come
pub Receives-stop : {K D : Type 0} {sink : SinkGhosts K} {door : DoorGhosts D} {before after : PlayerFacts}
    {out then : K} {was now : D} {id : MemberId} {count whole : ℕ} {visitors : List Connection}
    (error : ServeError) (final : Result (Unit {0}) ServeError) → count ≤ whole → final ≡ Err error
    → Receives {X = Unit {0}} sink door before after out then was now (Err error) id count visitors
    → Receives sink door before after out then was now final id whole visitors
Receives-stop {door = door} {before = before} {was = was} {now = now} {id = id} {count = count} {whole = whole}
    {visitors = visitors} error final fewer stops r =
    rw stops (record {
      plays = tt;
      prints = r.prints;
      came = Came-stop door was now error (Err error) before.world.cluster id count whole visitors fewer refl r.came;
    })

-- the door is open, and nobody came yet
pub Receives-start : {K D : Type 0} (sink : SinkGhosts K) (door : DoorGhosts D) (before : PlayerFacts)
    (out : K) (was now : D) (id : MemberId) → door.told now ≡ door.told was
    → door.door_faults was ≤ door.door_faults now → door.connection_faults now ≡ door.connection_faults was
    → ((n : ℕ) → door.serves was n → door.serves now n)
    → Receives {X = Unit {0}} sink door before before out out was now (Ok tt) id 0 []
Receives-start sink door before out was now id same grows line serves = record {
  plays = Plays-nothing sink before out;
  prints = record {
    printed = Prints-nothing sink out Write tt;
    whole = λ e. absurd (no-memory e);
    halted = λ e. absurd (no-door e);
  };
  came = record {
    told = λ not facts there. (facts, same ∙ there, refl);
    many = refl;
    few = omega arith;
    halts = λ e. absurd (no-door e);
    door_grows = grows;
    fails = inl (All-nil (λ v. v.course ≡ Whole));
    grows = omega (arith, line);
    serves = λ more has. serves more (subst (door.serves was) (omega arith) has);
  };
}
  where
    no-memory : IsErrOf {T = Unit {0}} {E = ServeError} (Ok tt) Memory → ⊥
    no-memory e = cc

    no-door : IsErrOf {T = Unit {0}} {E = ServeError} (Ok tt) Door → ⊥
    no-door e = cc

-- some came, and then others
pub Receives-then : {K D : Type 0} {sink : SinkGhosts K} {door : DoorGhosts D} {start between after : PlayerFacts}
    {out mid then : K} {was during now : D} {id : MemberId} {some count whole : ℕ}
    {first more : List Connection} (result : Result (Unit {0}) ServeError) → some + count ≡ whole
    → Receives {X = Unit {0}} sink door start between out mid was during (Ok tt) id some first
    → Receives sink door between after mid then during now result id count more
    → Receives sink door start after out then was now result id whole (first ++ more)
Receives-then {sink = sink} {door = door} {start = start} {between = between} {after = after} {out = out} {mid = mid}
    {then = then} {was = was} {during = during} {now = now} {id = id} {some = some} {count = count} {whole = whole}
    {first = first} {more = more} result all p q =
    record {
      plays = both result q.plays;
      prints = record {
        printed = subst (λ (t : List ℕ). Prints sink out then Write result t) lines
            (Prints-then result p.prints.printed q.prints.printed);
        whole = λ e.
            let w = q.prints.whole e in
            record {
              done = had ++ w.done;
              more = w.more;
              parts = append_assoc had w.done w.more ∙ ap (λ l. had ++ l) w.parts ∙ sym steps-are;
              grew = subst (λ (t : List ℕ). Grew (sink.content out) (sink.content then) t)
                  (next-text start between had w.done p.plays.world p.plays.trace)
                  (Grew-Grew (sink.content out) (sink.content mid) (sink.content then) _ _ p.prints.printed.ok w.grew);
            };
        halted = λ e. subst (λ (t : List ℕ). Grew (sink.content out) (sink.content then) t) lines
            (Grew-Grew (sink.content out) (sink.content mid) (sink.content then) _ _ p.prints.printed.ok
            (q.prints.halted e));
      };
      came = Came-then door was during now tt result start.world.cluster id some count whole first more all p.came
          (subst (λ (c : Cluster). Came door during now result c id count more) p.plays.world q.came);
    }
  where
    had : List Step
    had = visits_steps start.world.cluster id first

    steps-are : visits_steps start.world.cluster id (first ++ more) ≡ had ++ visits_steps between.world.cluster id more
    steps-are = visits_steps-append start.world.cluster id first more
        ∙ ap (λ (c : Cluster). had ++ visits_steps c id more) (sym p.plays.world)

    lines : printed_from start.world.cluster start.trace had
        ++ printed_from between.world.cluster between.trace (visits_steps between.world.cluster id more)
        ≡ printed_from start.world.cluster start.trace (visits_steps start.world.cluster id (first ++ more))
    lines = next-text start between had (visits_steps between.world.cluster id more) p.plays.world p.plays.trace
        ∙ ap (printed_from start.world.cluster start.trace) (sym steps-are)

    both : (r : Result (Unit {0}) ServeError)
        → OnOk r (Plays {X = Unit {0}} sink between after mid then (Ok tt) (visits_steps between.world.cluster id more))
        → OnOk r
        (Plays {X = Unit {0}} sink start after out then (Ok tt) (visits_steps start.world.cluster id (first ++ more)))
    both (Ok tt) plays = subst (λ (l : List Step). Plays {X = Unit {0}} sink start after out then (Ok tt) l)
        (sym steps-are) (Plays-then p.plays plays)
    both (Err e) plays = tt

-- as many steps are left as the connections that are still to come bring at most
pub room-behind : {K D : Type 0} {sink : SinkGhosts K} {door : DoorGhosts D} {start now : PlayerFacts}
    {out then : K} {was during : D} {id : MemberId} {visitors : List Connection} (some count : ℕ) → some ≤ count
    → Receives {X = Unit {0}} sink door start now out then was during (Ok tt) id some visitors
    → HasStepsLeft start.world (connection_cost * count) → HasStepsLeft now.world (connection_cost * (count - some))
room-behind {start = start} {now = now} {id = id} {visitors = visitors} some count fewer r room =
    let steps : List Step = visits_steps start.world.cluster id visitors in
    let few : length steps ≤ connection_cost * length visitors = visits-few start.world.cluster id visitors in
    steps-left-behind start.world now.world (length steps) (connection_cost * (count - some)) r.plays.taken
    (steps-left-fewer start.world (connection_cost * count) (length steps + connection_cost * (count - some))
    (omega (arith, few, fewer, r.came.many)) room)

-- errors, each apart
pub door-is-no-write : Door ≡ Write → ⊥
door-is-no-write e = cc

pub memory-is-no-write : Memory ≡ Write → ⊥
memory-is-no-write e = cc

pub err-is-not-ok : (X : Type 0) {E : Type 0} (e : E) → IsOk {T = X} {E = E} (Err e) → ⊥
err-is-not-ok X e is = false≢true is

pub not-door : (error : PrintError) (final : Result (Unit {0}) ServeError) → final ≡ Err (serve_error error)
    → IsErrOf final Door → ⊥
not-door prints.Write final is e = stops (sym is ∙ e)
  where
    stops : ◌≡◌ {A = Result (Unit {0}) ServeError} (Err Write) (Err Door) → ⊥
    stops e = cc
not-door prints.Memory final is e = stops (sym is ∙ e)
  where
    stops : ◌≡◌ {A = Result (Unit {0}) ServeError} (Err Memory) (Err Door) → ⊥
    stops e = cc

-- a connection was accepted, and served
pub accepted : {D : Type 0} (door : DoorGhosts D) (was mid now : D) (cluster : Cluster) (id : MemberId)
    (visitor : Connection) → Tells (door.told was) (λ facts. 0 < length facts.coming)
    → Tells (door.told was) (λ facts. door.told mid ≡ Some (after_accept facts))
    → door.door_faults was ≤ door.door_faults mid → door.connection_faults mid ≡ door.connection_faults was
    → ((n : ℕ) → door.serves was n → 0 < n → door.serves mid (n - 1))
    → Serves door mid now (door.told now) cluster id visitor
    → door.connection_faults mid ≤ door.connection_faults now → door.door_faults now ≡ door.door_faults mid
    → ((n : ℕ) → door.serves mid n → door.serves now n) → Comes door was mid now cluster id visitor
accepted door was mid now cluster id visitor some after grows line accepts serves more same served = record {
  some = some;
  accepted = after;
  door_grows = grows;
  same = line;
  accepts = accepts;
  serves = serves;
  grows = more;
  door_same = same;
  served = served;
}

-- what it brought was printed in part
pub receives-one : {K D : Type 0} (sink : SinkGhosts K) (door : DoorGhosts D) (before after : PlayerFacts)
    (out then : K) (was now : D) (id : MemberId) (visitor : Connection) (final : Result (Unit {0}) ServeError)
    → (IsErrOf final Door → ⊥)
    → PrintsSteps {X = Unit {0}} sink before out then final (visits_steps before.world.cluster id (visitor ∷ []))
    → OnOk final
    (Plays {X = Unit {0}} sink before after out then (Ok tt) (visits_steps before.world.cluster id (visitor ∷ [])))
    → {mid : D} → Comes door was mid now before.world.cluster id visitor
    → Receives sink door before after out then was now final id 1 (visitor ∷ [])
receives-one sink door before after out then was now id visitor final never printed plays come =
    record { plays = plays; prints = printed; came = Came-one final come never }

pub ok-is-no-door : IsErrOf {T = Unit {0}} {E = ServeError} (Ok tt) Door → ⊥
ok-is-no-door e = cc

pub no-plays : {X : Type 0} (final : Result X ServeError) {error : ServeError} (P : Type 0)
    → final ≡ Err error → OnOk final P
no-plays final P is = rw is tt

-- what was shown, by another word
pub shows-so : {K X : Type 0} {sink : SinkGhosts K} {before after : SummaryFacts} {trace : Bool} {out then : K}
    {result : Result X PrintError} {V : Type 0} (items : V → List Event) {brought same : List V}
    → brought ≡ same → Shows sink before after trace out then result (map items brought)
    → Shows sink before after trace out then result (map items same)
shows-so {sink = sink} {before = before} {after = after} {trace = trace} {out = out} {then = then} {result = result}
    items is shown =
    subst (λ l. Shows sink before after trace out then result (map items l)) is shown

-- so many, by another word
pub Receives-so : {K D X : Type 0} {sink : SinkGhosts K} {door : DoorGhosts D} {before after : PlayerFacts}
    {out then : K} {was now : D} {result : Result X ServeError} {id : MemberId} {count same : ℕ}
    {visitors : List Connection} → count ≡ same
    → Receives sink door before after out then was now result id count visitors
    → Receives sink door before after out then was now result id same visitors
Receives-so {sink = sink} {door = door} {before = before} {after = after} {out = out} {then = then} {was = was}
    {now = now} {result = result} {id = id} {visitors = visitors} is r =
    subst (λ (n : ℕ). Receives sink door before after out then was now result id n visitors) is r

-- meanwhile the members stay
pub received-members : {K D : Type 0} {sink : SinkGhosts K} {door : DoorGhosts D} {start now : PlayerFacts}
    {out then : K} {was during : D} {id : MemberId} {some : ℕ} {visitors : List Connection}
    → Receives {X = Unit {0}} sink door start now out then was during (Ok tt) id some visitors
    → IsMember (names_in start.world.cluster.facts.members) id → IsMember (names_in now.world.cluster.facts.members) id
received-members {start = start} {id = id} {visitors = visitors} r is =
    subst (λ (l : List Member). IsMember (names_in l) id)
    (sym (ap (λ (c : Cluster). c.facts.members) r.plays.world
    ∙ members-stay start.world.cluster (run_events start.world.cluster (visits_steps start.world.cluster id visitors))))
    is
