-- A script that was played, connections that were served, and the closing summary.
use Rattle.std.proofs.Common.{◌≡◌, Bool, false, ℕ, ◌+◌, ◌*◌, ◌≤◌, List, [], ◌++◌, length, Result, Ok, Err, arith, append_assoc, append-nil, length-append, refl, ◌∙◌, ap, sym, subst}
use Rattle.std.specs.Prelude.{IsErrOf}
use Rattle.pat_base.specs.declared.member_id.MemberId.{MemberId}
use Rattle.pat_outside.specs.declared.outside.Sink.{Ghosts as SinkGhosts}
use Rattle.pat_outside.specs.Outside.{Grew}
use Rattle.pat_outside.specs.Prints.{Prints}
use Rattle.pat_outside.proofs.Contents.{Grew-Grew}
use Rattle.pat_outside.proofs.Printing.{Prints-none, Prints-ok, Prints-stop, Prints-then}
use Rattle.cluster_model.specs.declared.step.Step.{Step}
use Rattle.cluster_model.specs.Starting.{cluster_of}
use Rattle.cluster_model.specs.State.{Cluster}
use Rattle.cluster_model.specs.Next.{run_events}
use Rattle.cluster_model.specs.Steps.{names_in, steps_of}
use Rattle.pat_base.specs.declared.name.Name.{Name}
use Rattle.script_model.specs.Script.{IsMember, ScriptText}
use Rattle.world_model.proofs.Taking.{members-stay}
use Rattle.pat_door.specs.declared.door.Door.{Ghosts as DoorGhosts}
use Rattle.serve_model.specs.Connections.{Connection, connection_cost}
use Rattle.simulation.specs.Steps.{HasStepsLeft, IsCounted, TookSteps, WorldFacts}
use Rattle.summary_model.specs.declared.answers.Closing.{Closing}
use Rattle.summary_model.specs.Sights.{SummaryFacts}
use Rattle.summary_model.specs.SummaryText.{closing_text}
use Rattle.world_model.specs.Room.{most_steps}
use Rattle.run_printing.specs.declared.print_error.PrintError.{PrintError}
use Rattle.run_printing.specs.declared.print_error.PrintError.TheVariants as prints
use Rattle.run_player.specs.Playing.{PlayerFacts, Plays, PrintsWholeSteps}
use Rattle.run_serving.specs.Receiving.{Receives, ReceivesAll}
use Rattle.run_serving.specs.Served.{Came, Serves}
use Rattle.run_printing.specs.declared.serve_error.ServeError.{ServeError}
use Rattle.run_printing.specs.declared.serve_error.ServeError.TheVariants.{Door, Memory, Write}
use Rattle.run_model.specs.Run.{lines_of_run, noted_from, printed_from, text_of_run}
use Rattle.run_model.specs.Visits.{after_steps, served_of, served_steps, visits_steps}
use Rattle.run_printing.specs.Errors.{serve_error}
use Rattle.run_model.specs.Watches.{first_summary}
use Rattle.run_player.proofs.Played.{Plays-then, PrintsWholeSteps-none, next-text}
use Rattle.run_serving.proofs.Visiting.{Came-none, Came-stop, visits-few}
use Rattle.run_player.proofs.Whole.{left-by, text-is}

-- errors of printing are errors of serving
pub write-is : (error : PrintError) → serve_error error ≡ Write → error ≡ prints.Write
write-is prints.Write e = refl
write-is prints.Memory e = cc

pub memory-is : (error : PrintError) → serve_error error ≡ Memory → error ≡ prints.Memory
memory-is prints.Write e = cc
memory-is prints.Memory e = refl

pub no-door : (error : PrintError) → serve_error error ≡ Door → ⊥
no-door prints.Write e = cc
no-door prints.Memory e = cc

module _ {K D : Type 0} (sink : SinkGhosts K) (door : DoorGhosts D) (start : PlayerFacts) (out : K) (was : D)
    (steps : List Step) (id : MemberId) (count : ℕ) where
  abbrev all : List Connection → List Step
  all visitors = served_steps start.world.cluster steps id visitors

  abbrev lines : List Step → List ℕ
  lines some = printed_from start.world.cluster start.trace some

  abbrev closing : List Step → List ℕ
  closing some = closing_text (noted_from start.summary start.world.cluster some).watch.closing

  all-none : all [] ≡ steps
  all-none = append-nil steps

  -- the script stops in its midst: no connection comes
  pub stops-in-script : (now : PlayerFacts) (then : K) (error : PrintError) (final : Result (Unit {0}) ServeError)
      → Plays {X = Unit {0}} sink start now out then (Err error) steps → final ≡ Err (serve_error error)
      → ReceivesAll sink door start now out then was was final steps id count []
  stops-in-script now then error final p stops = rw stops (record {
    world = tt;
    taken = tt;
    printed =
        subst (λ (l : List Step).
        Prints {X = Unit {0}} sink out then Write (Err (serve_error error)) (lines l ++ closing (all [])))
        (sym all-none)
        (Prints-stop Write (serve_error error) (Err (serve_error error)) (closing (all [])) p.printed refl
        (write-is error));
    whole = λ e. subst (PrintsWholeSteps sink out then start.world.cluster start.trace) (sym all-none)
        (p.whole (ap Err (memory-is error (same e))));
    halted = λ e. absurd (no-door error (same e));
    came =
        Came-none door was (serve_error error) (after_steps start.world.cluster steps) id count (λ e. no-door error e);
  })
    where
      same : {other : ServeError} → IsErrOf {T = Unit {0}} (Err (serve_error error)) other → serve_error error ≡ other
      same e = cc

  module _ (between now : PlayerFacts) (mid then : K) (later : D) (visitors : List Connection)
      (p : Plays {X = Unit {0}} sink start between out mid (Ok tt) steps) where
    abbrev visits : List Step
    visits = visits_steps between.world.cluster id visitors

    all-are : steps ++ visits ≡ all visitors
    all-are = ap (λ (c : Cluster). steps ++ visits_steps c id visitors) p.world

    lines-are : lines steps ++ printed_from between.world.cluster between.trace visits ≡ lines (all visitors)
    lines-are = next-text start between steps visits p.world p.trace ∙ ap lines all-are

    came-behind : {X : Type 0} (result : Result X ServeError)
        → Came door was later result between.world.cluster id count visitors
        → Came door was later result (after_steps start.world.cluster steps) id count visitors
    came-behind result came = subst (λ (c : Cluster). Came door was later result c id count visitors) p.world came

    whole-behind : PrintsWholeSteps sink mid then between.world.cluster between.trace visits
        → PrintsWholeSteps sink out then start.world.cluster start.trace (all visitors)
    whole-behind w = record {
      done = steps ++ w.done;
      more = w.more;
      parts = append_assoc steps w.done w.more ∙ ap (λ l. steps ++ l) w.parts ∙ all-are;
      grew = subst (λ (t : List ℕ). Grew (sink.content out) (sink.content then) t)
          (next-text start between steps w.done p.world p.trace)
          (Grew-Grew (sink.content out) (sink.content mid) (sink.content then) _ _ p.printed.ok w.grew);
    }

    -- serving stops: memory is wanting, a write fails, or no connection comes
    pub stops-in-serving : (error : ServeError) (final : Result (Unit {0}) ServeError)
        → Receives {X = Unit {0}} sink door between now mid then was later (Err error) id count visitors
        → final ≡ Err error
        → ReceivesAll sink door start now out then was later final steps id count visitors
    stops-in-serving error final r stops = rw stops (record {
      world = tt;
      taken = tt;
      printed = subst (λ (t : List ℕ). Prints {X = Unit {0}} sink out then Write (Err error) t)
          (sym (append_assoc (lines steps) _ _) ∙ ap (λ l. l ++ closing (all visitors)) lines-are)
          (Prints-then (Err error) (Prints-ok {Y = Unit {0}} Write tt p.printed)
          (Prints-stop Write error (Err error) (closing (all visitors)) r.prints.printed refl (λ e. e)));
      whole = λ e. whole-behind (r.prints.whole e);
      halted = λ e. subst (λ (t : List ℕ). Grew (sink.content out) (sink.content then) t) lines-are
          (Grew-Grew (sink.content out) (sink.content mid) (sink.content then) _ _ p.printed.ok (r.prints.halted e));
      came = came-behind (Err error) r.came;
    })

  -- all connections were served: then the closing summary is printed
  module _ (between now last : PlayerFacts) (mid then end : K) (later : D) (visitors : List Connection)
      (p : Plays {X = Unit {0}} sink start between out mid (Ok tt) steps)
      (r : Receives {X = Unit {0}} sink door between now mid then was later (Ok tt) id count visitors) where
    abbrev played : Plays {X = Unit {0}} sink start now out then (Ok tt)
        (steps ++ visits_steps between.world.cluster id visitors)
    played = Plays-then p r.plays

    whole-is : steps ++ visits_steps between.world.cluster id visitors ≡ all visitors
    whole-is = ap (λ (c : Cluster). steps ++ visits_steps c id visitors) p.world

    plays-all : Plays {X = Unit {0}} sink start now out then (Ok tt) (all visitors)
    plays-all = subst (λ (l : List Step). Plays {X = Unit {0}} sink start now out then (Ok tt) l) whole-is played

    came-all : Came {X = Unit {0}} door was later (Ok tt) (after_steps start.world.cluster steps) id count visitors
    came-all = subst (λ (c : Cluster). Came {X = Unit {0}} door was later (Ok tt) c id count visitors) p.world r.came

    closes : (told : Closing) (result : Result (Unit {0}) PrintError) → told ≡ now.summary.watch.closing
        → Prints sink then end prints.Write result (closing_text told)
        → Prints sink then end prints.Write result (closing (all visitors))
    closes told result is q = subst (λ (c : Closing). Prints sink then end prints.Write result (closing_text c))
        (is ∙ ap (λ (s : SummaryFacts). s.watch.closing) plays-all.summary) q

    -- it is printed
    pub closes-all : {x : Unit {0}} (told : Closing) → last ≡ now → told ≡ now.summary.watch.closing
        → Prints {X = Unit {0}} sink then end prints.Write (Ok x) (closing_text told)
        → ReceivesAll {X = Unit {0}} sink door start last out end was later (Ok tt) steps id count visitors
    closes-all {x = x} told same is q = rw same (record {
      world = plays-all.world;
      taken = plays-all.taken;
      printed = Prints-ok Write tt (Prints-then (Ok x) plays-all.printed (closes told (Ok x) is q));
      whole = λ e. absurd (no-memory e);
      halted = λ e. absurd (no-fault e);
      came = came-all;
    })
      where
        no-memory : IsErrOf {T = Unit {0}} {E = ServeError} (Ok tt) Memory → ⊥
        no-memory e = cc

        no-fault : IsErrOf {T = Unit {0}} {E = ServeError} (Ok tt) Door → ⊥
        no-fault e = cc

    -- or not
    pub stops-in-closing : (told : Closing) (error : PrintError) (final : Result (Unit {0}) ServeError)
        → told ≡ now.summary.watch.closing
        → Prints {X = Unit {0}} sink then end prints.Write (Err error) (closing_text told)
        → (IsErrOf {T = Unit {0}} (Err error) prints.Memory → end ≡ then)
        → final ≡ Err (serve_error error)
        → ReceivesAll sink door start last out end was later final steps id count visitors
    stops-in-closing told error final is q unwritten stops = rw stops (record {
      world = tt;
      taken = tt;
      printed = subst (λ (t : List ℕ). Prints {X = Unit {0}} sink out end Write (Err (serve_error error)) t)
          (append-nil (lines (all visitors) ++ closing (all visitors)))
          (Prints-stop Write (serve_error error) (Err (serve_error error)) []
          (Prints-then (Err error) plays-all.printed (closes told (Err error) is q)) refl (write-is error));
      whole = λ e. record {
        done = all visitors;
        more = [];
        parts = append-nil (all visitors);
        grew = subst (λ (k : K). Grew (sink.content out) (sink.content k) (lines (all visitors)))
            (sym (unwritten (ap Err (memory-is error (same e))))) plays-all.printed.ok;
      };
      halted = λ e. absurd (no-door error (same e));
      came = Came-err came-all;
    })
      where
        same : {other : ServeError} → IsErrOf {T = Unit {0}} (Err (serve_error error)) other → serve_error error ≡ other
        same e = cc

        Came-err : Came {X = Unit {0}} door was later (Ok tt) (after_steps start.world.cluster steps) id count visitors
            → Came {X = Unit {0}} door was later (Err (serve_error error))
            (after_steps start.world.cluster steps) id count visitors
        Came-err c = record {
          told = λ not. c.told (λ e. cc);
          many = tt;
          few = c.few;
          halts = λ e. absurd (no-door error (same e));
          door_grows = c.door_grows;
          fails = c.fails;
          grows = c.grows;
          serves = λ more serves e. no-door error e;
        }

-- all steps are few
pub served-few : (cluster : Cluster) (steps : List Step) (id : MemberId) (count : ℕ) (visitors : List Connection)
    → length steps + connection_cost * count ≤ most_steps → length visitors ≤ count
    → length (served_steps cluster steps id visitors) ≤ most_steps
served-few cluster steps id count visitors room few =
    let visits : List Step = visits_steps (after_steps cluster steps) id visitors in
    omega (arith, room, few, length-append steps visits, visits-few (after_steps cluster steps) id visitors)

-- a player that has just begun did so: the run is the whole
module _ {K D W : Type 0} (sink : SinkGhosts K) (door : DoorGhosts D) (facts : W → WorldFacts)
    (first last : PlayerFacts) (out then : K) (was now : D) (script : ScriptText) (id : MemberId) (count : ℕ)
    (visitors : List Connection)
    (begins : first.world.cluster ≡ cluster_of script.head) (untraced : first.trace ≡ false)
    (noted : first.summary ≡ first_summary script.head) where
  steps-are : served_steps first.world.cluster (steps_of script.body) id visitors ≡ (served_of script id visitors).steps
  steps-are = ap (λ (c : Cluster). served_steps c (steps_of script.body) id visitors) begins

  text-of : printed_from first.world.cluster first.trace
      (served_steps first.world.cluster (steps_of script.body) id visitors)
      ++ closing_text (noted_from first.summary first.world.cluster
      (served_steps first.world.cluster (steps_of script.body) id visitors)).watch.closing
      ≡ text_of_run (served_of script id visitors)
  text-of =
      ap (λ l. printed_from first.world.cluster first.trace l
      ++ closing_text (noted_from first.summary first.world.cluster l).watch.closing)
      steps-are
      ∙ text-is script.head
      (served_of script id visitors).steps first.world.cluster first.trace first.summary begins untraced noted

  lines-of : printed_from first.world.cluster first.trace
      (served_steps first.world.cluster (steps_of script.body) id visitors)
      ≡ lines_of_run (served_of script id visitors)
  lines-of = ap (λ l. printed_from first.world.cluster first.trace l) steps-are
      ∙ ap (λ t. printed_from first.world.cluster t (served_of script id visitors).steps) untraced
      ∙ ap (λ (c : Cluster). printed_from c false (served_of script id visitors).steps) begins

  whole-of : PrintsWholeSteps sink out then first.world.cluster first.trace
      (served_steps first.world.cluster (steps_of script.body) id visitors)
      → PrintsWholeSteps sink out then (cluster_of script.head) false (served_of script id visitors).steps
  whole-of w =
      subst (λ (c : Cluster). PrintsWholeSteps sink out then c false (served_of script id visitors).steps) begins
      (subst (λ (t : Bool). PrintsWholeSteps sink out then first.world.cluster t (served_of script id visitors).steps)
      untraced
      (subst (λ (l : List Step). PrintsWholeSteps sink out then first.world.cluster first.trace l) steps-are w))

  came-of : {X : Type 0} (result : Result X ServeError)
      → Came door was now result (after_steps first.world.cluster (steps_of script.body)) id count visitors
      → Came door was now result (after_steps (cluster_of script.head) (steps_of script.body)) id count visitors
  came-of result came = subst
      (λ (c : Cluster). Came door was now result (after_steps c (steps_of script.body)) id count visitors) begins came

  -- all of it was done
  pub serves-all : (world : W) → first.world.steps ≡ 0 → HasStepsLeft first.world most_steps → IsCounted first.world
      → length (steps_of script.body) + connection_cost * count ≤ most_steps → facts world ≡ last.world
      → ReceivesAll {X = Unit {0}} sink door first last out then was now (Ok tt)
      (steps_of script.body) id count visitors
      → Serves sink door facts out then was now (Ok world) script id count visitors
  serves-all world none room counted fits is r = record {
    printed = subst (λ (t : List ℕ). Prints {X = W} sink out then Write (Ok world) t) text-of
        (Prints-ok Write world r.printed);
    whole = λ e. absurd (no-memory e);
    halted = λ e. absurd (no-fault e);
    world = left-by script.head (served_of script id visitors).steps first.world last.world (facts world)
        (subst (λ (l : List Step). length l ≤ most_steps) steps-are
        (served-few first.world.cluster (steps_of script.body) id count visitors fits r.came.few))
        begins none room counted
        (subst (λ (l : List Step). last.world.cluster ≡ after_steps first.world.cluster l) steps-are r.world)
        (subst (λ (l : List Step). TookSteps first.world last.world (length l)) steps-are r.taken) is;
    came = came-ok (came-of (Ok tt) r.came);
  }
    where
      no-memory : IsErrOf {E = ServeError} (Ok world) Memory → ⊥
      no-memory e = cc

      no-fault : IsErrOf {E = ServeError} (Ok world) Door → ⊥
      no-fault e = cc

      came-ok : Came {X = Unit {0}} door was now (Ok tt)
          (after_steps (cluster_of script.head) (steps_of script.body)) id count visitors
          → Came door was now (Ok world) (after_steps (cluster_of script.head) (steps_of script.body)) id count visitors
      came-ok c = record {
        told = λ not. c.told (λ e. cc);
        many = c.many;
        few = c.few;
        halts = λ e. absurd (no-fault e);
        door_grows = c.door_grows;
        fails = c.fails;
        grows = c.grows;
        serves = c.serves;
      }

  -- or a part of it
  pub serves-part : (error : ServeError)
      → ReceivesAll {X = Unit {0}} sink door first last out then was now (Err error)
      (steps_of script.body) id count visitors
      → Serves sink door facts out then was now (Err error) script id count visitors
  serves-part error r = record {
    printed = subst (λ (t : List ℕ). Prints {X = W} sink out then Write (Err error) t) text-of (Prints-other r.printed);
    whole = λ e. whole-of (r.whole (other e));
    halted = λ e. subst (λ (t : List ℕ). Grew (sink.content out) (sink.content then) t) lines-of (r.halted (other e));
    world = tt;
    came = came-err (came-of (Err error) r.came);
  }
    where
      other : {X Y : Type 0} {fault : ServeError} → IsErrOf {T = X} (Err error) fault
          → IsErrOf {T = Y} (Err error) fault
      other e = ap Err cc

      Prints-other : {bytes : List ℕ} → Prints {X = Unit {0}} sink out then Write (Err error) bytes
          → Prints {X = W} sink out then Write (Err error) bytes
      Prints-other p =
          record { ok = tt; part = p.part; write = λ e. p.write (ap Err cc); grows = p.grows; room = p.room }

      came-err : Came {X = Unit {0}} door was now (Err error)
          (after_steps (cluster_of script.head) (steps_of script.body)) id count visitors
          → Came {X = W} door was now (Err error)
          (after_steps (cluster_of script.head) (steps_of script.body)) id count visitors
      came-err c = Came-stop door was now error (Err error)
          (after_steps (cluster_of script.head) (steps_of script.body)) id count count visitors (omega arith) refl c

-- who is declared in a script is so in a player that played it
pub plays-declared : {K : Type 0} {sink : SinkGhosts K} {start now : PlayerFacts} {out then : K} {steps : List Step}
    {names : List Name} (id : MemberId) → Plays {X = Unit {0}} sink start now out then (Ok tt) steps
    → names_in start.world.cluster.facts.members ≡ names → IsMember names id
    → IsMember (names_in now.world.cluster.facts.members) id
plays-declared {start = start} {steps = steps} id p named is =
    subst (λ (l : List Name). IsMember l id)
    (sym (ap (λ (c : Cluster). names_in c.facts.members) p.world
    ∙ ap (λ l. names_in l) (members-stay start.world.cluster (run_events start.world.cluster steps)) ∙ named))
    is

-- memory was wanting before anything was played
pub serves-none : {K D W : Type 0} (sink : SinkGhosts K) (door : DoorGhosts D) (facts : W → WorldFacts)
    (out : K) (was : D) (final : Result W ServeError) (script : ScriptText) (id : MemberId) (count : ℕ)
    → final ≡ Err Memory → Serves sink door facts out out was was final script id count []
serves-none {W = W} sink door facts out was final script id count stops = rw stops (record {
  printed = Prints-none sink out Write Memory (Err Memory) (text_of_run (served_of script id [])) refl memory-no-write;
  whole = λ e. PrintsWholeSteps-none sink out (cluster_of script.head) false (served_of script id []).steps;
  halted = λ e. absurd (memory-no-door e);
  world = tt;
  came = Came-none door was Memory
      (after_steps (cluster_of script.head) (steps_of script.body)) id count memory-is-no-door;
})
  where
    memory-no-write : Memory ≡ Write → ⊥
    memory-no-write e = cc

    memory-no-door : IsErrOf {T = W} {E = ServeError} (Err Memory) Door → ⊥
    memory-no-door e = cc

    memory-is-no-door : Memory ≡ Door → ⊥
    memory-is-no-door e = cc
