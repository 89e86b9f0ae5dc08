-- How a command was carried out, for each way in which it may go.
use Rattle.std.proofs.Common.{◌≡◌, ◌≢◌, ◌<◌, ◌*◌, ◌+◌, ℕ, Bool, false, true, List, [], ◌∷◌, Option, Some, None, Result, Ok, Err, append-nil, arith, nat_lt, refl, sym, subst, ap, ◌∙◌}
use Rattle.std.proofs.lemmas.Bool.Decides.{nat_tests}
use Rattle.pat_base.specs.declared.member_id.MemberId.{MemberId}
use Rattle.pat_outside.specs.declared.outside.Sink.{Ghosts as SinkGhosts}
use Rattle.pat_outside.specs.declared.outside.Source.{Ghosts as SourceGhosts}
use Rattle.pat_outside.specs.Outside.{Consumed, Grew, Known, Rose}
use Rattle.pat_outside.specs.Prints.{Prints}
use Rattle.pat_outside.proofs.Contents.{Grew-nothing}
use Rattle.pat_outside.proofs.Printing.{Prints-stop}
use Rattle.pat_door.specs.declared.door.Door.{Ghosts as DoorGhosts}
use Rattle.script_grammar.specs.Limits.{limit_of}
use Rattle.script_grammar.specs.Reading.{script_of}
use Rattle.generator_model.specs.Generating.{generated_script}
use Rattle.generator_model.specs.declared.bounds.TheConstants.{MOST_GENERATED}
use Rattle.script_model.specs.Script.{ScriptText, spelling_of}
use Rattle.cluster_model.specs.Starting.{cluster_of}
use Rattle.cluster_model.specs.State.{Cluster}
use Rattle.cluster_model.specs.Steps.{steps_of}
use Rattle.serve_model.specs.Connections.{Connection, most_waiting}
use Rattle.simulation.specs.Steps.{WorldFacts}
use Rattle.run_printing.specs.declared.print_error.PrintError.{PrintError}
use Rattle.run_printing.specs.declared.print_error.PrintError.TheVariants as prints
use Rattle.run_player.specs.Left.{IsLeftBy}
use Rattle.run_player.specs.Playing.{PrintsWholeSteps}
use Rattle.pat_door.specs.Doors.{Opened}
use Rattle.run_serving.specs.Served.{Came, ComeApart, Serves as ServedSo}
use Rattle.run_serving.proofs.Apart.{apart-all, apart-stop}
use Rattle.run_serving.proofs.Closing.{memory-is, no-door}
use Rattle.run_printing.specs.declared.serve_error.ServeError.{ServeError}
use Rattle.run_printing.specs.declared.serve_error.ServeError.TheVariants as serves
use Rattle.run_model.specs.Run.{Played, played_of, summary_of_run, text_of_run}
use Rattle.run_model.specs.Visits.{after_steps, served_of}
use Rattle.run_printing.specs.Errors.{serve_error}
use Rattle.command_line.specs.Limits.{most_read}
use Rattle.command_line.specs.declared.ending.Ending.{Ending}
use Rattle.command_line.specs.declared.ending.Ending.TheVariants as endings
use Rattle.command_line.specs.declared.status.Status.{Status}
use Rattle.command_line.specs.declared.status.Status.TheVariants as statuses
use Rattle.command_line.specs.Commands.{Command, Drill, Generate, Print, Run, Serve, heeded, plays, reads}
use Rattle.command_line.specs.Members.{member_named}
use Rattle.program_commands.specs.Verdicts.{Drills, EndsWhole, Formats, Makes, NoCommand, PastCount, Plan, Plays, Says, Serves, UnknownMember, Verdict, plan_run, plan_text, service_of, verdict_in, verdict_of, verdict_of_count, verdict_on}
use Rattle.command_line.specs.Drawing.{CanBeDrawn, RefusesToDraw}
use Rattle.program_commands.specs.Carried.{Carries, EndedFacts, GoesBy, IsCarriedOut, LeavesWorld, ended_by}
use Rattle.program_commands.specs.Ends.{Ends, IsApart, IsCut, IsVisited, address_in, serving_of}
use Rattle.command_line.specs.Status.{IsRefusal, Refuses, ending_of_print, ending_of_serve, status_of}
use Rattle.program_commands.proofs.Endings.{Ends-done, Ends-faulty, Ends-past, Ends-refused, Ends-stopped, Ends-wanting, IsQuiet, Reads, plays-only, prints-so, quiet, refusal-says, refusal-unserved, script-makes, steps-cut, unapart}

-- an ending in which the input gives no script
refusal-is : (ending : Ending) → IsRefusal ending
    → (status_of ending ≢ statuses.Usage) × (status_of ending ≢ statuses.Done)
refusal-is (endings.NotScript line fault) is = (λ e. cc, λ e. cc)
refusal-is (endings.Limit limit) is = (λ e. cc, λ e. cc)
refusal-is endings.ReadFault is = (λ e. cc, λ e. cc)
refusal-is endings.Memory is = (λ e. cc, λ e. cc)
refusal-is endings.Done is = absurd is
refusal-is endings.Usage is = absurd is
refusal-is endings.UnknownMember is = absurd is
refusal-is endings.WriteFault is = absurd is
refusal-is endings.DoorFault is = absurd is
refusal-is endings.PastCount is = absurd is

-- an ending in which something was printed
stop-no-usage : (error : ServeError) → status_of (ending_of_serve error) ≢ statuses.Usage
stop-no-usage serves.Write e = cc
stop-no-usage serves.Memory e = cc
stop-no-usage serves.Door e = cc

stop-not-done : (error : ServeError) → status_of (ending_of_serve error) ≢ statuses.Done
stop-not-done serves.Write e = cc
stop-not-done serves.Memory e = cc
stop-not-done serves.Door e = cc

stop-says : (error : ServeError) (verdict : Verdict) → Says (ending_of_serve error) verdict
stop-says serves.Write verdict = tt
stop-says serves.Memory verdict = tt
stop-says serves.Door verdict = tt

print-ends : (error : PrintError) → ending_of_print error ≡ ending_of_serve (serve_error error)
print-ends prints.Write = refl
print-ends prints.Memory = refl

serving-back : (error : ServeError) → serving_of (status_of (ending_of_serve error)) ≡ Err error
serving-back serves.Write = refl
serving-back serves.Memory = refl
serving-back serves.Door = refl

done-unserved : {X : Type 0} (x : X) (error : ServeError) → Ok x ≢ Err error
done-unserved x error e = cc

same-error : {X : Type 0} {a b : ServeError} {r : Result X ServeError} → r ≡ Err a → r ≡ Err b → a ≡ b
same-error is so = cc

no-world : false ≡ true → ⊥
no-world e = cc

-- what reads nothing goes by no bytes
pub no-bytes : Known (Some []) (λ all. [] ≡ all)
no-bytes all is = cc

pub goes-by-none : (words : Option Command) (rest : Option (List ℕ)) → words ≡ None → GoesBy words rest []
goes-by-none words rest is = subst (λ (o : Option Command). GoesBy o rest []) (sym is) (λ all none. cc)

-- what a call answers where all connections came tells nothing of them
came-all : {D X : Type 0} (door : DoorGhosts D) (was now : D) (x : X) (cluster : Cluster) (id : MemberId)
    (count : ℕ) (visitors : List Connection) → Came door was now (Ok x) cluster id count visitors
    → Came {X = Unit {0}} door was now (Ok tt) cluster id count visitors
came-all door was now x cluster id count visitors c = record {
  told = λ no. c.told (done-unserved x serves.Memory);
  many = c.many;
  few = c.few;
  halts = λ e. absurd (done-unserved tt serves.Door e);
  door_grows = c.door_grows;
  fails = c.fails;
  grows = c.grows;
  serves = c.serves;
}

came-part : {D X : Type 0} (door : DoorGhosts D) (was now : D) (error : ServeError) (cluster : Cluster) (id : MemberId)
    (count : ℕ) (visitors : List Connection) → Came {X = X} door was now (Err error) cluster id count visitors
    → Came {X = Unit {0}} door was now (Err error) cluster id count visitors
came-part door was now error cluster id count visitors c = record {
  told = λ no. c.told (λ e. no (ap Err (same-error refl e)));
  many = c.many;
  few = c.few;
  halts = λ e. c.halts (ap Err (same-error refl e));
  door_grows = c.door_grows;
  fails = c.fails;
  grows = c.grows;
  serves = c.serves;
}

-- so many lines may be drawn, or else too many
drawn-so : (count : ℕ) (plan : Plan) → CanBeDrawn count → verdict_of_count count plan ≡ Makes plan
drawn-so count plan few = let may : nat_lt MOST_GENERATED count ≡ false = grind (arith, nat_tests) in rw may refl

past-so : (count : ℕ) (plan : Plan) → MOST_GENERATED < count → verdict_of_count count plan ≡ PastCount
past-so count plan many = let over : nat_lt MOST_GENERATED count ≡ true = grind (arith, nat_tests) in rw over refl

-- what is left whose facts are itself
pub ended-same : (left : Option WorldFacts)
    → ended_by (λ (w : WorldFacts). w) (Ok left) ≡ record { status = statuses.Done; world = left }
ended-same None = refl
ended-same (Some world) = refl

module _ {S K D W : Type 0} (source : SourceGhosts S) (sink : SinkGhosts K) (door : DoorGhosts D)
    (facts : W → WorldFacts) where
  leaves-nothing : (played : Bool) (verdict : Verdict) (ending : Ending)
      → status_of ending ≢ statuses.Done → LeavesWorld played verdict (ended_by facts (Err ending))
  leaves-nothing played verdict ending not =
      record { done = ((λ some. absurd (no-world some)), λ done. absurd (not done.0)); stands = tt }

  -- something was printed, and then a stop came
  stopped : (input left : S) (out then : K) (was now : D) (command : Command) (bytes : List ℕ) (error : ServeError)
      → ((visitors : List Connection) × Carries source sink door input left out then was now
      (Some command) bytes visitors (ended_by facts (Err (ending_of_serve error))))
      → IsCarriedOut source sink door facts input left out then was now command bytes (Err (ending_of_serve error))
  stopped input left out then was now command bytes error carries = record {
    usage = stop-no-usage error;
    carries = carries;
    says = λ visitors. stop-says error (verdict_on command visitors bytes);
  }

  -- a command that has nothing to do with the door makes this plan of the bytes that it goes by
  module _ (input left : S) (out then : K) (was : D) (command : Command) (bytes : List ℕ) (plan : Plan)
      (makes : verdict_on command [] bytes ≡ Makes plan)
      (read : Reads source sink door input left out was (reads (Some command)) (verdict_on command []) bytes)
      (visited : (status : Status) → IsVisited source sink door input left out then was was
      (reads (Some command)) (verdict_on command []) bytes status (Makes plan))
      (apart : (status : Status) → IsApart door was was (address_in (Some command)) status (Makes plan)) where
    apart-so-far : (status : Status)
        → IsApart door was was (address_in (Some command)) status (verdict_on command [] bytes)
    apart-so-far status =
        subst (IsApart door was was (address_in (Some command)) status) (sym makes) (apart status)

    -- all of it was printed
    pub planned-whole : {X E : Type 0} {x : X} {fault : E} (world : Option W)
        → (reads (Some command) ≡ true → Known (source.rest input) (λ all. source.rest left ≡ Some []))
        → Prints sink out then fault (Ok x) (plan_text plan)
        → LeavesWorld (plays (Some command)) (verdict_on command [] bytes) (ended_by facts (Ok world))
        → IsCarriedOut source sink door facts input left out then was was command bytes (Ok world)
    planned-whole world end printed leaves = record {
      usage = λ e. cc;
      carries = (
        [],
        record {
          ends = Ends-done source sink door input left out then was was (reads (Some command))
              (verdict_on command []) bytes plan makes read end printed (visited statuses.Done);
          world = leaves;
          apart = apart-so-far statuses.Done;
        },
      );
      says = λ visitors. tt;
    }

    -- or a part of it
    pub planned-part : {X : Type 0} (error : PrintError)
        → Prints {X = X} sink out then prints.Write (Err error) (plan_text plan)
        → (error ≡ prints.Memory →
        IsCut source sink door input left out then was was (reads (Some command)) (verdict_on command []) bytes
        (Makes plan))
        → IsCarriedOut source sink door facts input left out then was was command bytes (Err (ending_of_print error))
    planned-part error printed whole =
        let how : ServeError = serve_error error in
        subst (λ (e : Ending). IsCarriedOut source sink door facts input left out then was was command bytes (Err e))
        (sym (print-ends error)) (stopped input left out then was was command bytes how (
          [],
          record {
            ends = Ends-stopped source sink door input left out then was was (reads (Some command))
                (verdict_on command []) bytes plan makes read how (record {
                  printed = prints-so error printed;
                  whole = λ memory. whole (memory-is error memory);
                  halted = λ e. absurd (no-door error e);
                  opens = λ opens e. no-door error e;
                  visited = visited (status_of (ending_of_serve how));
                });
            world = leaves-nothing (plays (Some command)) (verdict_on command [] bytes) (ending_of_serve how)
                (stop-not-done how);
            apart = apart-so-far (status_of (ending_of_serve how));
          },
        ))

  -- a world that a run left
  leaves-run : (verdict : Verdict) (plan : Plan) (played : Played) (world : W)
      → verdict ≡ Makes plan → plan_run plan ≡ Some played
      → IsLeftBy played (facts world) → LeavesWorld true verdict (ended_by facts (Ok (Some world)))
  leaves-run verdict plan played world makes run stands = record {
    done = ((λ some. (refl, refl)), λ done. refl);
    stands = plays-only (λ (p : Played). IsLeftBy p (facts world)) verdict plan played makes run stands;
  }

  -- nothing was played
  leaves-none : (verdict : Verdict) → LeavesWorld false verdict (ended_by facts (Ok None))
  leaves-none verdict =
      record { done = ((λ some. absurd (no-world some)), λ done. absurd (no-world done.1)); stands = tt }

  -- nothing was written of what is told whole or not at all
  untold : {out then : K} (plan : Plan) → EndsWhole plan [] → then ≡ out
      → (text : List ℕ) × EndsWhole plan text × Grew (sink.content out) (sink.content then) text
  untold {out = out} plan none same =
      subst (λ (k : K). (text : List ℕ) × EndsWhole plan text × Grew (sink.content out) (sink.content k) text)
      (sym same) ([], none, Grew-nothing (sink.content out))

  -- a command that goes by a script of the input
  module _ (input left : S) (bytes : List ℕ) (taken : Consumed (source.rest input) (source.rest left) most_read) where
    -- the script can't be read
    pub refused : (out : K) (was : D) (command : Command) (waited : ℕ) (makes : List Connection → ScriptText → Verdict)
        → reads (Some command) ≡ true
        → ((visitors : List Connection) (bytes : List ℕ) →
        verdict_in waited (makes visitors) bytes ≡ verdict_on command visitors bytes)
        → ((script : ScriptText) → IsQuiet (makes [] script))
        → (result : Result (Option W) Ending) (ending : Ending) → result ≡ Err ending → IsRefusal ending
        → Refuses waited ending bytes
        → (ending ≡ endings.ReadFault → Rose (source.faults input) (source.faults left))
        → (source.is_reliable input → ending ≢ endings.ReadFault)
        → IsCarriedOut source sink door facts input left out out was was command bytes result
    refused out was command waited makes goes same quiets result ending is refusal refuses rose unfailing =
        let says : (visitors : List Connection) → Says ending (verdict_on command visitors bytes) =
        λ visitors. subst (Says ending) (same visitors bytes)
        (refusal-says waited (makes visitors) ending bytes refusal refuses) in
        subst (IsCarriedOut source sink door facts input left out out was was command bytes) (sym is) (record {
          usage = (refusal-is ending refusal).0;
          carries = (
            [],
            record {
              ends =
                  subst (λ (b : Bool).
                  Ends source sink door input left out out was was b (verdict_on command []) bytes (status_of ending))
                  (sym goes)
                  (Ends-refused source sink door input left out was
                  (verdict_on command []) bytes taken ending refusal (says [])
                  (subst IsQuiet (same [] bytes) (quiet waited (makes []) bytes quiets)) rose unfailing);
              world = leaves-nothing (plays (Some command)) (verdict_on command [] bytes) ending
                  (refusal-is ending refusal).1;
              apart = unapart door was (address_in (Some command)) (status_of ending)
                  (verdict_on command [] bytes) (refusal-unserved ending refusal)
                  (subst IsQuiet (same [] bytes) (quiet waited (makes []) bytes quiets));
            },
          );
          says = says;
        })

    reads-so : (out : K) (was : D) (verdict : List ℕ → Verdict)
        → Reads source sink door input left out was true verdict bytes
    reads-so out was verdict = record { unread = λ e. cc; consumed = taken }

    -- a script was read
    module _ (script : ScriptText) (end : Known (source.rest input) (λ all. source.rest left ≡ Some [])) where
      abbrev IsRead : ℕ → Type 0
      IsRead waited = (limit_of waited bytes ≡ None) × (script_of bytes ≡ Ok script)

      -- and its run is printed, or the script
      module _ (out then : K) (was : D) (read : IsRead 0) (result : Result (Option W) Ending) where
        plays-so : verdict_on Run [] bytes ≡ Makes (Plays (played_of script))
        plays-so = script-makes 0 (λ script. Makes (Plays (played_of script))) bytes script read.0 read.1

        formats-so : verdict_on Print [] bytes ≡ Makes (Formats script)
        formats-so = script-makes 0 (λ script. Makes (Formats script)) bytes script read.0 read.1

        pub printed-whole : (world : W) → result ≡ Ok (Some world)
            → Prints sink out then prints.Write (Ok world) (text_of_run (played_of script))
            → IsLeftBy (played_of script) (facts world)
            → IsCarriedOut source sink door facts input left out then was was Run bytes result
        printed-whole world is printed stands =
            subst (IsCarriedOut source sink door facts input left out then was was Run bytes) (sym is)
            (planned-whole input left out then was Run bytes (Plays (played_of script)) plays-so
            (reads-so out was (verdict_on Run [])) (λ status. refl) (λ status. tt) (Some world) (λ e. end) printed
            (leaves-run (verdict_on Run [] bytes) (Plays (played_of script)) (played_of script) world plays-so refl
            stands))

        pub printed-part : (error : PrintError) → result ≡ Err (ending_of_print error)
            → Prints {X = W} sink out then prints.Write (Err error) (text_of_run (played_of script))
            → (error ≡ prints.Memory →
            PrintsWholeSteps sink out then (cluster_of script.head) false (steps_of script.body))
            → IsCarriedOut source sink door facts input left out then was was Run bytes result
        printed-part error is printed whole =
            subst (IsCarriedOut source sink door facts input left out then was was Run bytes) (sym is)
            (planned-part input left out then was Run bytes (Plays (played_of script)) plays-so
            (reads-so out was (verdict_on Run [])) (λ status. refl) (λ status. tt) error printed
            (λ memory. steps-cut source sink door script.head (steps_of script.body) (whole memory)))

        pub formatted-whole : result ≡ Ok None
            → Prints {X = Unit {0}} sink out then prints.Write (Ok tt) (spelling_of script)
            → IsCarriedOut source sink door facts input left out then was was Print bytes result
        formatted-whole is printed =
            subst (IsCarriedOut source sink door facts input left out then was was Print bytes) (sym is)
            (planned-whole input left out then was Print bytes (Formats script) formats-so
            (reads-so out was (verdict_on Print [])) (λ status. refl) (λ status. tt) None (λ e. end) printed
            (leaves-none (verdict_on Print [] bytes)))

        pub formatted-part : (error : PrintError) → result ≡ Err (ending_of_print error)
            → Prints {X = Unit {0}} sink out then prints.Write (Err error) (spelling_of script)
            → (error ≡ prints.Memory → then ≡ out)
            → IsCarriedOut source sink door facts input left out then was was Print bytes result
        formatted-part error is printed memory =
            subst (IsCarriedOut source sink door facts input left out then was was Print bytes) (sym is)
            (planned-part input left out then was Print bytes (Formats script) formats-so
            (reads-so out was (verdict_on Print [])) (λ status. refl) (λ status. tt) error printed
            (λ wanting. untold (Formats script) refl (memory wanting)))

      module _ (member address : List ℕ) (count : ℕ) (read : IsRead (most_waiting * count)) where
        abbrev service : Command
        service = Serve member address count

        abbrev makes : List Connection → ScriptText → Verdict
        makes visitors script = service_of script count visitors (member_named script.head member)

        makes-so : (visitors : List Connection) (found : Option MemberId) → member_named script.head member ≡ found
            → verdict_on service visitors bytes ≡ service_of script count visitors found
        makes-so visitors found is = script-makes (most_waiting * count) (makes visitors) bytes script read.0 read.1
            ∙ ap (service_of script count visitors) is

        -- it declares no member of the name that is to be served
        pub unknown : (out : K) (was : D) (result : Result (Option W) Ending)
            → result ≡ Err endings.UnknownMember → member_named script.head member ≡ None
            → IsCarriedOut source sink door facts input left out out was was service bytes result
        unknown out was result is none =
            let says : (visitors : List Connection) → verdict_on service visitors bytes ≡ UnknownMember =
            λ visitors. makes-so visitors None none in
            subst (IsCarriedOut source sink door facts input left out out was was service bytes) (sym is) (record {
              usage = λ e. cc;
              carries = (
                [],
                record {
                  ends = Ends-faulty source sink door input left out was true (verdict_on service []) bytes
                      (reads-so out was (verdict_on service [])) UnknownMember tt tt (says []);
                  world = leaves-nothing true (verdict_on service [] bytes) endings.UnknownMember (λ e. cc);
                  apart = subst (IsApart door was was address statuses.NotScript) (sym (says [])) tt;
                },
              );
              says = says;
            })

        module _ (id : MemberId) (found : member_named script.head member ≡ Some id) (out then : K)
            (was now : D) (visitors : List Connection) where
          abbrev served : Plan
          served = Serves script id count visitors

          serves-so : verdict_on service visitors bytes ≡ Makes served
          serves-so = makes-so visitors (Some id) found

          -- or connections came behind its run, and all was printed
          pub served-whole : (result : Result (Option W) Ending) (world : W) → result ≡ Ok (Some world)
              → ServedSo sink door facts out then was now (Ok world) script id count visitors
              → ComeApart door was now (Ok world) (after_steps (cluster_of script.head) (steps_of script.body)) id
              (Opened address ∷ []) visitors
              → IsCarriedOut source sink door facts input left out then was now service bytes result
          served-whole result world is s apart =
              subst (IsCarriedOut source sink door facts input left out then was now service bytes) (sym is) (record {
                usage = λ e. cc;
                carries = (
                  visitors,
                  record {
                    ends =
                        Ends-done source sink door input left out then was now true (verdict_on service visitors) bytes
                        served serves-so (reads-so out was (verdict_on service visitors)) (λ e. end) s.printed
                        (came-all door was now world
                        (after_steps (cluster_of script.head) (steps_of script.body)) id count visitors s.came);
                    world = leaves-run (verdict_on service visitors bytes) served
                        (served_of script id visitors) world serves-so refl s.world;
                    apart = subst (IsApart door was now address statuses.Done) (sym serves-so)
                        (apart-all door was now world tt
                        (after_steps (cluster_of script.head) (steps_of script.body)) id (Opened address ∷ []) visitors
                        apart);
                  },
                );
                says = λ others. tt;
              })

          -- or a part of it
          pub served-part : (result : Result (Option W) Ending) (error : ServeError)
              → result ≡ Err (ending_of_serve error)
              → ServedSo sink door facts out then was now (Err error) script id count visitors
              → ComeApart {X = W} door was now (Err error)
              (after_steps (cluster_of script.head) (steps_of script.body)) id (Opened address ∷ []) visitors
              → IsCarriedOut source sink door facts input left out then was now service bytes result
          served-part result error is s apart =
              let start : Cluster = after_steps (cluster_of script.head) (steps_of script.body) in
              subst (IsCarriedOut source sink door facts input left out then was now service bytes) (sym is)
              (stopped input left out then was now service bytes error (
                visitors,
                record {
                  ends =
                      Ends-stopped source sink door input left out then was now true (verdict_on service visitors) bytes
                      served serves-so (reads-so out was (verdict_on service visitors)) error (record {
                        printed = subst (λ (t : List ℕ). Prints {X = Unit {0}} sink out then serves.Write (Err error) t)
                            (append-nil (text_of_run (served_of script id visitors)))
                            (Prints-stop serves.Write error (Err error) [] s.printed refl (λ e. e));
                        whole = λ memory. steps-cut source sink door (served_of script id visitors).head
                            (served_of script id visitors).steps (s.whole (ap Err memory));
                        halted = λ e. (s.came.halts (ap Err e), s.halted (ap Err e));
                        opens = λ opens. s.came.serves 0 (subst (door.serves was) (sym (plus-nothing count)) opens);
                        visited =
                            subst (λ (r : Result (Unit {0}) ServeError). Came door was now r start id count visitors)
                            (sym (serving-back error)) (came-part door was now error start id count visitors s.came);
                      });
                  world = leaves-nothing true (verdict_on service visitors bytes) (ending_of_serve error)
                      (stop-not-done error);
                  apart = subst (IsApart door was now address (status_of (ending_of_serve error))) (sym serves-so)
                      (subst (λ (r : Result (Unit {0}) ServeError).
                      ComeApart door was now r start id (Opened address ∷ []) visitors)
                      (sym (serving-back error))
                      (apart-stop door was now error (Err error) start id (Opened address ∷ []) visitors refl apart));
                },
              ))
            where
              plus-nothing : (n : ℕ) → n + 0 ≡ n
              plus-nothing n = omega arith

  -- a command that reads nothing
  module _ (input : S) (bytes : List ℕ) where
    unread : (out : K) (was : D) (verdict : List ℕ → Verdict)
        → Reads source sink door input input out was false verdict bytes
    unread out was verdict =
        record { unread = λ e. refl; consumed = record { some = λ all told. (0, omega arith, told) } }

    -- so many lines were to be drawn
    module _ (seed count : ℕ) (out : K) (was : D) (result : Result (Option W) Ending) where
      not-drawn : (command : Command) (plan : Plan) → reads (Some command) ≡ false
          → ((visitors : List Connection) (bytes : List ℕ) →
          verdict_of_count count plan ≡ verdict_on command visitors bytes)
          → IsQuiet (Makes plan)
          → (ending : Ending) → result ≡ Err ending → RefusesToDraw count ending
          → IsCarriedOut source sink door facts input input out out was was command bytes result
      not-drawn command plan goes same none endings.PastCount is many =
          let says : (visitors : List Connection) → verdict_on command visitors bytes ≡ PastCount =
          λ visitors. sym (same visitors bytes) ∙ past-so count plan many in
          subst (IsCarriedOut source sink door facts input input out out was was command bytes) (sym is) (record {
            usage = λ e. cc;
            carries = (
              [],
              record {
                ends =
                    subst (λ (b : Bool).
                    Ends source sink door input input out out was was b (verdict_on command []) bytes statuses.Limit)
                    (sym goes)
                    (Ends-past source sink door input input out was false (verdict_on command []) bytes
                    (unread out was (verdict_on command [])) PastCount tt tt (says []));
                world = leaves-nothing (plays (Some command)) (verdict_on command [] bytes) endings.PastCount (λ e. cc);
                apart = subst (IsApart door was was (address_in (Some command)) statuses.Limit) (sym (says [])) tt;
              },
            );
            says = says;
          })
      not-drawn command plan goes same none endings.Memory is few =
          subst (IsCarriedOut source sink door facts input input out out was was command bytes) (sym is) (record {
            usage = λ e. cc;
            carries = (
              [],
              record {
                ends =
                    subst (λ (b : Bool).
                    Ends source sink door input input out out was was b (verdict_on command []) bytes statuses.Memory)
                    (sym goes)
                    (Ends-wanting source sink door input input out was false (verdict_on command []) bytes
                    (unread out was (verdict_on command []))
                    (subst IsQuiet (sym (drawn-so count plan few) ∙ same [] bytes) none));
                world = leaves-nothing (plays (Some command)) (verdict_on command [] bytes) endings.Memory (λ e. cc);
                apart = unapart door was (address_in (Some command)) statuses.Memory
                    (verdict_on command [] bytes) refl
                    (subst IsQuiet (sym (drawn-so count plan few) ∙ same [] bytes) none);
              },
            );
            says = λ visitors. tt;
          })
      not-drawn command plan goes same none endings.Done is never = absurd never
      not-drawn command plan goes same none endings.Usage is never = absurd never
      not-drawn command plan goes same none endings.UnknownMember is never = absurd never
      not-drawn command plan goes same none endings.ReadFault is never = absurd never
      not-drawn command plan goes same none endings.WriteFault is never = absurd never
      not-drawn command plan goes same none endings.DoorFault is never = absurd never
      not-drawn command plan goes same none (endings.NotScript line fault) is never = absurd never
      not-drawn command plan goes same none (endings.Limit limit) is never = absurd never

      pub not-generated : (ending : Ending) → result ≡ Err ending → RefusesToDraw count ending
          → IsCarriedOut source sink door facts input input out out was was (Generate seed count) bytes result
      not-generated =
          not-drawn (Generate seed count) (Formats (generated_script seed count)) refl (λ visitors bytes. refl) tt

      pub not-drilled : (ending : Ending) → result ≡ Err ending → RefusesToDraw count ending
          → IsCarriedOut source sink door facts input input out out was was (Drill seed count) bytes result
      not-drilled = not-drawn (Drill seed count) (Drills (played_of (generated_script seed count))) refl
          (λ visitors bytes. refl) tt

      -- and the script is printed, or the summary of its run
      module _ (few : CanBeDrawn count) (then : K) where
        abbrev script : ScriptText
        script = generated_script seed count

        pub generated-whole : result ≡ Ok None
            → Prints {X = Unit {0}} sink out then prints.Write (Ok tt) (spelling_of script)
            → IsCarriedOut source sink door facts input input out then was was (Generate seed count) bytes result
        generated-whole is printed =
            subst (IsCarriedOut source sink door facts input input out then was was (Generate seed count) bytes)
            (sym is)
            (planned-whole input input out then was (Generate seed count) bytes (Formats script)
            (drawn-so count (Formats script) few) (unread out was (verdict_on (Generate seed count) []))
            (λ status. refl) (λ status. tt) None (λ e. absurd (no-world e)) printed
            (leaves-none (verdict_on (Generate seed count) [] bytes)))

        pub generated-part : (error : PrintError) → result ≡ Err (ending_of_print error)
            → Prints {X = Unit {0}} sink out then prints.Write (Err error) (spelling_of script)
            → (error ≡ prints.Memory → then ≡ out)
            → IsCarriedOut source sink door facts input input out then was was (Generate seed count) bytes result
        generated-part error is printed memory =
            subst (IsCarriedOut source sink door facts input input out then was was (Generate seed count) bytes)
            (sym is)
            (planned-part input input out then was (Generate seed count) bytes (Formats script)
            (drawn-so count (Formats script) few) (unread out was (verdict_on (Generate seed count) []))
            (λ status. refl) (λ status. tt) error printed (λ wanting. untold (Formats script) refl (memory wanting)))

        pub drilled-whole : (world : W) → result ≡ Ok (Some world)
            → Prints sink out then prints.Write (Ok world) (summary_of_run (played_of script))
            → IsLeftBy (played_of script) (facts world)
            → IsCarriedOut source sink door facts input input out then was was (Drill seed count) bytes result
        drilled-whole world is printed stands =
            subst (IsCarriedOut source sink door facts input input out then was was (Drill seed count) bytes) (sym is)
            (planned-whole input input out then was (Drill seed count) bytes (Drills (played_of script))
            (drawn-so count (Drills (played_of script)) few)
            (unread out was (verdict_on (Drill seed count) [])) (λ status. refl) (λ status. tt) (Some world)
            (λ e. absurd (no-world e)) printed
            (leaves-run (verdict_on (Drill seed count) [] bytes) (Drills (played_of script))
            (played_of script) world (drawn-so count (Drills (played_of script)) few) refl stands))

        pub drilled-part : (error : PrintError) → result ≡ Err (ending_of_print error)
            → Prints {X = W} sink out then prints.Write (Err error) (summary_of_run (played_of script))
            → (error ≡ prints.Memory → then ≡ out)
            → IsCarriedOut source sink door facts input input out then was was (Drill seed count) bytes result
        drilled-part error is printed memory =
            subst (IsCarriedOut source sink door facts input input out then was was (Drill seed count) bytes) (sym is)
            (planned-part input input out then was (Drill seed count) bytes (Drills (played_of script))
            (drawn-so count (Drills (played_of script)) few)
            (unread out was (verdict_on (Drill seed count) [])) (λ status. refl) (λ status. tt) error printed
            (λ wanting. untold (Drills (played_of script)) refl (memory wanting)))

  -- words that are this command
  pub asked : (input left : S) (out then : K) (was now : D) (command : Command) (words : Option Command)
      (bytes : List ℕ) (result : Result (Option W) Ending) (ended : EndedFacts) → Some command ≡ words
      → ended_by facts result ≡ ended
      → IsCarriedOut source sink door facts input left out then was now command bytes result
      → (visitors : List Connection) × Carries source sink door input left out then was now words bytes visitors ended
  asked input left out then was now command words bytes result ended is so carried =
      rw (sym is, sym so) carried.carries

-- what is said of a command is said of the words that it stands for
pub asked-by : (command : Command) (words : Option Command) (rest : Option (List ℕ)) (bytes : List ℕ)
    → Some command ≡ words → GoesBy (Some command) rest bytes → GoesBy words rest bytes
asked-by command words rest bytes is goes = subst (λ (o : Option Command). GoesBy o rest bytes) is goes

pub asked-says : (command : Command) (words : Option Command) (bytes : List ℕ) (ending : Ending)
    → Some command ≡ words → ((visitors : List Connection) → Says ending (verdict_on command visitors bytes))
    → (visitors : List Connection) → Says ending (verdict_of words visitors bytes)
asked-says command words bytes ending is says visitors =
    subst (λ (o : Option Command). Says ending (verdict_of o visitors bytes)) is (says visitors)

module _ {S K D : Type 0} (source : SourceGhosts S) (sink : SinkGhosts K) (door : DoorGhosts D) where
  -- words that are no command
  pub unasked : (input : S) (out : K) (was : D) (words : Option Command) (bytes : List ℕ) → words ≡ None
      → (visitors : List Connection) × Carries source sink door input input out out was was words bytes visitors
      (record { status = statuses.Usage; world = None })
  unasked input out was words bytes is =
      subst (λ (o : Option Command). (visitors : List Connection) × Carries source sink door input input out
      out was was o bytes visitors (record { status = statuses.Usage; world = None }))
      (sym is) (
        [],
        record {
          ends = record {
            means = refl;
            unread = λ e. refl;
            visited = refl;
            past_limit = λ reliable past. absurd past;
            faulty = λ reliable faulty. absurd faulty;
            complete = λ reliable plan makes. absurd (no-plan plan makes);
            consumed = record { some = λ all told. (0, omega arith, told) };
          };
          world = record { done = ((λ some. absurd (no-world some)), λ done. absurd (not-so done.0)); stands = tt };
          apart = tt;
        },
      )
    where
      no-plan : (plan : Plan) → NoCommand ≡ Makes plan → ⊥
      no-plan plan e = cc

      not-so : statuses.Usage ≡ statuses.Done → ⊥
      not-so e = cc
