-- What is said of how a command ends, for each way in which it does.
use Rattle.std.proofs.Common.{◌≡◌, ◌≢◌, ◌≤◌, ℕ, Bool, true, false, List, [], ◌∷◌, length, Option, Some, None, Result, Ok, Err, append-nil, refl, inl, inr, sym, subst, ◌∙◌}
use Rattle.pat_base.specs.declared.member_id.MemberId.{MemberId}
use Rattle.pat_outside.specs.declared.outside.Sink.{Ghosts as SinkGhosts}
use Rattle.pat_outside.specs.declared.outside.Source.{Ghosts as SourceGhosts}
use Rattle.pat_outside.specs.Outside.{Grew, Known, Rose, Consumed}
use Rattle.pat_outside.specs.Prints.{Prints}
use Rattle.pat_outside.proofs.Contents.{Grew-nothing}
use Rattle.pat_outside.proofs.Printing.{Prints-stop}
use Rattle.pat_door.specs.declared.door.Door.{Ghosts as DoorGhosts}
use Rattle.script_grammar.specs.declared.limit.Limit.{Limit}
use Rattle.script_grammar.specs.Limits.{limit_of}
use Rattle.script_grammar.specs.Reading.{script_of}
use Rattle.script_model.specs.Script.{HeadText, ScriptText}
use Rattle.script_words.specs.declared.fault.Fault.{Fault}
use Rattle.cluster_model.specs.Starting.{cluster_of}
use Rattle.cluster_model.specs.declared.step.Step.{Step}
use Rattle.cluster_model.specs.Steps.{steps_of}
use Rattle.serve_model.specs.Connections.{Connection}
use Rattle.run_printing.specs.declared.print_error.PrintError.{PrintError}
use Rattle.run_printing.specs.declared.print_error.PrintError.TheVariants as prints
use Rattle.run_player.specs.Playing.{PrintsWholeSteps}
use Rattle.pat_door.specs.Doors.{Opened}
use Rattle.run_serving.specs.Served.{Came, ComeApart}
use Rattle.run_serving.proofs.Apart.{apart-none}
use Rattle.run_serving.proofs.Closing.{write-is}
use Rattle.run_serving.proofs.Visiting.{Came-none}
use Rattle.run_printing.specs.declared.serve_error.ServeError.{ServeError}
use Rattle.run_printing.specs.declared.serve_error.ServeError.TheVariants as serves
use Rattle.run_model.specs.Run.{EndsAtStep, Played}
use Rattle.run_model.specs.Visits.{after_steps, served_of}
use Rattle.run_printing.specs.Errors.{serve_error}
use Rattle.command_line.specs.Limits.{most_read}
use Rattle.command_line.specs.declared.ending.Ending.{Ending}
use Rattle.command_line.specs.declared.ending.Ending.TheVariants as endings
use Rattle.command_line.specs.declared.status.Status.{Status}
use Rattle.command_line.specs.declared.status.Status.TheVariants as statuses
use Rattle.command_line.specs.Commands.{heeded}
use Rattle.program_commands.specs.Verdicts.{Drills, EndsWhole, Faulty, Formats, IfPlayed, Makes, NoCommand, PastCount, PastLimit, Plan, Plays, Says, Serves, UnknownMember, Verdict, plan_run, plan_text, service_of, verdict_by, verdict_in}
use Rattle.program_commands.specs.Ends.{Ends, IsApart, IsBroken, IsCut, IsDone, IsFaulty, IsHalted, IsPastLimit, IsServedBy, IsVisited, serving_of}
use Rattle.command_line.specs.Status.{status_of, ending_of_print, ending_of_serve, Refuses, IsRefusal}

-- an ending that refuses bytes says what comes of them
pub refusal-says : (waited : ℕ) (makes : ScriptText → Verdict) (ending : Ending) (bytes : List ℕ)
    → IsRefusal ending → Refuses waited ending bytes → Says ending (verdict_in waited makes bytes)
refusal-says waited makes (endings.NotScript line fault) bytes is refuses = rw (refuses.0, refuses.1) refl
refusal-says waited makes (endings.Limit limit) bytes is refuses = rw refuses refl
refusal-says waited makes endings.Done bytes is refuses = tt
refusal-says waited makes endings.Usage bytes is refuses = tt
refusal-says waited makes endings.UnknownMember bytes is refuses = absurd is
refusal-says waited makes endings.ReadFault bytes is refuses = tt
refusal-says waited makes endings.WriteFault bytes is refuses = tt
refusal-says waited makes endings.Memory bytes is refuses = tt
refusal-says waited makes endings.DoorFault bytes is refuses = tt
refusal-says waited makes endings.PastCount bytes is refuses = absurd is

-- of a script within the limits comes what is made of it
pub script-makes : (waited : ℕ) (makes : ScriptText → Verdict) (bytes : List ℕ) (script : ScriptText)
    → limit_of waited bytes ≡ None → script_of bytes ≡ Ok script → verdict_in waited makes bytes ≡ makes script
script-makes waited makes bytes script none is = rw (none, is) refl

-- what is played is the run of the plan
pub plays-only : (P : Played → Type 0) (verdict : Verdict) (plan : Plan) (played : Played)
    → verdict ≡ Makes plan → plan_run plan ≡ Some played → P played → IfPlayed P verdict
plays-only P verdict plan played is run holds = rw (is, run) holds

-- no connection came
abbrev pub IsQuiet : Verdict → Type 0
IsQuiet (Makes (Serves script id count visitors)) = visitors ≡ []
IsQuiet _ = Unit {0}

pub quiet-service : (script : ScriptText) (count : ℕ) (found : Option MemberId)
    → IsQuiet (service_of script count [] found)
quiet-service script count None = tt
quiet-service script count (Some id) = refl

quiet-by : (makes : ScriptText → Verdict) (limit : Option Limit) (read : Result ScriptText (ℕ × Fault))
    → ((script : ScriptText) → IsQuiet (makes script)) → IsQuiet (verdict_by makes limit read)
quiet-by makes (Some limit) read each = tt
quiet-by makes None (Err (line, fault)) each = tt
quiet-by makes None (Ok script) each = each script

-- where no connection came
pub quiet : (waited : ℕ) (makes : ScriptText → Verdict) (bytes : List ℕ)
    → ((script : ScriptText) → IsQuiet (makes script)) → IsQuiet (verdict_in waited makes bytes)
quiet waited makes bytes each = quiet-by makes (limit_of waited bytes) (script_of bytes) each

-- no steps were played
none-played : (plan : Plan) → EndsWhole plan []
none-played (Plays played) = record { done = []; more = played.steps; parts = refl; lines = refl }
none-played (Serves script id count visitors) =
    record { done = []; more = (served_of script id visitors).steps; parts = refl; lines = refl }
none-played (Drills played) = refl
none-played (Formats script) = refl

-- and so nothing came apart
pub unapart : {D : Type 0} (door : DoorGhosts D) (was : D) (address : List ℕ) (status : Status) (found : Verdict)
    → serving_of status ≡ Err serves.Memory → IsQuiet found → IsApart door was was address status found
unapart {D = D} door was address status (Makes (Serves script id count visitors)) stops none =
    subst (λ (l : List Connection).
    ComeApart door was was (serving_of status) (after_steps (cluster_of script.head) (steps_of script.body)) id
    (Opened address ∷ []) l)
    (sym none)
    (subst (λ (r : Result (Unit {0}) ServeError).
    ComeApart door was was r (after_steps (cluster_of script.head) (steps_of script.body)) id (Opened address ∷ []) [])
    (sym stops)
    (apart-none door was serves.Memory (after_steps (cluster_of script.head) (steps_of script.body)) id
    (Opened address ∷ [])))
unapart door was address status (Makes (Plays played)) stops none = tt
unapart door was address status (Makes (Drills played)) stops none = tt
unapart door was address status (Makes (Formats script)) stops none = tt
unapart door was address status NoCommand stops none = tt
unapart door was address status PastCount stops none = tt
unapart door was address status (PastLimit limit) stops none = tt
unapart door was address status (Faulty line fault) stops none = tt
unapart door was address status UnknownMember stops none = tt

-- where the input gives no script nothing is served
pub refusal-unserved : (ending : Ending) → IsRefusal ending → serving_of (status_of ending) ≡ Err serves.Memory
refusal-unserved (endings.NotScript line fault) is = refl
refusal-unserved (endings.Limit limit) is = refl
refusal-unserved endings.ReadFault is = refl
refusal-unserved endings.Memory is = refl
refusal-unserved endings.Done is = absurd is
refusal-unserved endings.Usage is = absurd is
refusal-unserved endings.UnknownMember is = absurd is
refusal-unserved endings.WriteFault is = absurd is
refusal-unserved endings.DoorFault is = absurd is
refusal-unserved endings.PastCount is = absurd is

module _ {S K D : Type 0} (source : SourceGhosts S) (sink : SinkGhosts K) (door : DoorGhosts D) where
  module _ (input left : S) (out : K) (was : D) (read : Bool) (verdict : List ℕ → Verdict) (bytes : List ℕ) where
    -- nothing was written for want of memory
    nothing-cut : (found : Verdict) → IsCut source sink door input left out out was was read verdict bytes found
    nothing-cut (Makes plan) = ([], none-played plan, Grew-nothing (sink.content out))
    nothing-cut NoCommand = refl
    nothing-cut PastCount = refl
    nothing-cut (PastLimit limit) = refl
    nothing-cut (Faulty line fault) = refl
    nothing-cut UnknownMember = refl

    -- no connection came to a door, since nothing was played
    unvisited : (status : Status) (found : Verdict) → serving_of status ≡ Err serves.Memory → IsQuiet found
        → IsVisited source sink door input left out out was was read verdict bytes status found
    unvisited status (Makes (Serves script id count visitors)) stops none =
        subst (λ (l : List Connection).
        Came door was was (serving_of status) (after_steps (cluster_of script.head) (steps_of script.body)) id count l)
        (sym none)
        (subst (λ (r : Result (Unit {0}) ServeError).
        Came door was was r (after_steps (cluster_of script.head) (steps_of script.body)) id count [])
        (sym stops)
        (Came-none door was serves.Memory
        (after_steps (cluster_of script.head) (steps_of script.body)) id count no-door))
      where
        no-door : serves.Memory ≡ serves.Door → ⊥
        no-door e = cc
    unvisited status (Makes (Plays played)) stops none = refl
    unvisited status (Makes (Drills played)) stops none = refl
    unvisited status (Makes (Formats script)) stops none = refl
    unvisited status NoCommand stops none = refl
    unvisited status PastCount stops none = refl
    unvisited status (PastLimit limit) stops none = refl
    unvisited status (Faulty line fault) stops none = refl
    unvisited status UnknownMember stops none = refl

    -- what isn't read is left as it was, and of what is read no more than a script may have was taken
    pub record Reads : Type 0 where
      pub unread : read ≡ false → left ≡ input
      pub consumed : Consumed (source.rest input) (source.rest left) most_read

    -- the input is no script, or declares no such member
    pub Ends-faulty : Reads → (found : Verdict) → IsFaulty found → IsQuiet found
        → verdict bytes ≡ found
        → Ends source sink door input left out out was was read verdict bytes statuses.NotScript
    Ends-faulty reads found faulty none is = record {
      means = (subst IsFaulty (sym is) faulty, refl);
      unread = reads.unread;
      visited =
          subst (IsVisited source sink door input left out out was was read verdict bytes statuses.NotScript)
          (sym is) (unvisited statuses.NotScript found refl none);
      past_limit = λ reliable past. absurd (not-past found faulty (subst IsPastLimit is past));
      faulty = λ reliable not. inl refl;
      complete = λ reliable plan so. absurd (subst IsFaulty (sym is ∙ so) faulty);
      consumed = reads.consumed;
    }
      where
        not-past : (found : Verdict) → IsFaulty found → IsPastLimit found → ⊥
        not-past (PastLimit limit) faulty past = faulty
        not-past PastCount faulty past = faulty
        not-past NoCommand faulty past = past
        not-past (Faulty line fault) faulty past = past
        not-past UnknownMember faulty past = past
        not-past (Makes plan) faulty past = past

    -- a limit is passed
    pub Ends-past : Reads → (found : Verdict) → IsPastLimit found → IsQuiet found
        → verdict bytes ≡ found
        → Ends source sink door input left out out was was read verdict bytes statuses.Limit
    Ends-past reads found past none is = record {
      means = (subst IsPastLimit (sym is) past, refl);
      unread = reads.unread;
      visited = subst (IsVisited source sink door input left out out was was read verdict bytes statuses.Limit)
          (sym is) (unvisited statuses.Limit found refl none);
      past_limit = λ reliable passed. inl refl;
      faulty = λ reliable faulty. absurd (not-faulty found past (subst IsFaulty is faulty));
      complete = λ reliable plan so. absurd (subst IsPastLimit (sym is ∙ so) past);
      consumed = reads.consumed;
    }
      where
        not-faulty : (found : Verdict) → IsPastLimit found → IsFaulty found → ⊥
        not-faulty (PastLimit limit) past faulty = faulty
        not-faulty PastCount past faulty = faulty
        not-faulty NoCommand past faulty = past
        not-faulty (Faulty line fault) past faulty = past
        not-faulty UnknownMember past faulty = past
        not-faulty (Makes plan) past faulty = past

    -- memory was wanting before anything was written
    pub Ends-wanting : Reads → IsQuiet (verdict bytes)
        → Ends source sink door input left out out was was read verdict bytes statuses.Memory
    Ends-wanting reads none = record {
      means = nothing-cut (verdict bytes);
      unread = reads.unread;
      visited = unvisited statuses.Memory (verdict bytes) refl none;
      past_limit = λ reliable past. inr refl;
      faulty = λ reliable faulty. inr refl;
      complete = λ reliable plan is n can fits opens. inr refl;
      consumed = reads.consumed;
    }

  -- an input that gives no script
  module _ (input left : S) (out : K) (was : D) (verdict : List ℕ → Verdict) (bytes : List ℕ)
      (consumed : Consumed (source.rest input) (source.rest left) most_read) where
    reads-so : Reads input left out was true verdict bytes
    reads-so = record { unread = λ e. cc; consumed = consumed }

    pub Ends-refused : (ending : Ending) → IsRefusal ending
        → Says ending (verdict bytes)
        → IsQuiet (verdict bytes)
        → (ending ≡ endings.ReadFault → Rose (source.faults input) (source.faults left))
        → (source.is_reliable input → ending ≢ endings.ReadFault)
        → Ends source sink door input left out out was was true verdict bytes (status_of ending)
    Ends-refused endings.Done refusal says none rose unfailing = absurd refusal
    Ends-refused endings.Usage refusal says none rose unfailing = absurd refusal
    Ends-refused endings.WriteFault refusal says none rose unfailing = absurd refusal
    Ends-refused endings.UnknownMember refusal says none rose unfailing = absurd refusal
    Ends-refused endings.DoorFault refusal says none rose unfailing = absurd refusal
    Ends-refused endings.PastCount refusal says none rose unfailing = absurd refusal
    Ends-refused (endings.NotScript line fault) refusal says none rose unfailing =
        Ends-faulty input left out was true verdict bytes reads-so (Faulty line fault) tt tt says
    Ends-refused (endings.Limit limit) refusal says none rose unfailing =
        Ends-past input left out was true verdict bytes reads-so (PastLimit limit) tt tt says
    Ends-refused endings.ReadFault refusal says none rose unfailing = record {
      means = (refl, rose refl, refl);
      unread = reads-so.unread;
      visited =
          unvisited input left out was true verdict bytes statuses.ReadFault (verdict bytes) refl none;
      past_limit = λ reliable. absurd (unfailing (reliable refl) refl);
      faulty = λ reliable. absurd (unfailing (reliable refl) refl);
      complete = λ reliable. absurd (unfailing (reliable refl) refl);
      consumed = consumed;
    }
    Ends-refused endings.Memory refusal says none rose unfailing =
        Ends-wanting input left out was true verdict bytes reads-so none

  -- a plan of which all was printed, or a front
  module _ (input left : S) (out then : K) (was now : D) (read : Bool) (verdict : List ℕ → Verdict) (bytes : List ℕ)
      (plan : Plan) (is : verdict bytes ≡ Makes plan)
      (reads : Reads input left out was read verdict bytes) where
    abbrev Visited : Status → Type 0
    Visited status = IsVisited source sink door input left out then was now read verdict bytes status (Makes plan)

    no-limit : IsPastLimit (verdict bytes) → ⊥
    no-limit past = subst IsPastLimit is past

    no-fault : IsFaulty (verdict bytes) → ⊥
    no-fault faulty = subst IsFaulty is faulty

    one-plan : (other : Plan) → verdict bytes ≡ Makes other → plan ≡ other
    one-plan other so = same-plan (sym is ∙ so)
      where
        same-plan : Makes plan ≡ Makes other → plan ≡ other
        same-plan e = cc

    came : (status : Status) → Visited status
        → IsVisited source sink door input left out then was now read verdict bytes status (verdict bytes)
    came status visited =
        subst (IsVisited source sink door input left out then was now read verdict bytes status) (sym is) visited

    pub Ends-done : {X E : Type 0} {x : X} {fault : E}
        → (read ≡ true → Known (source.rest input) (λ all. source.rest left ≡ Some []))
        → Prints sink out then fault (Ok x) (plan_text plan) → Visited statuses.Done
        → Ends source sink door input left out then was now read verdict bytes statuses.Done
    Ends-done end printed visited = record {
      means = (
        subst (IsDone source sink door input left out then was now read verdict bytes) (sym is) printed.ok,
        end,
      );
      unread = reads.unread;
      visited = came statuses.Done visited;
      past_limit = λ reliable past. absurd (no-limit past);
      faulty = λ reliable faulty. absurd (no-fault faulty);
      complete = λ reliable other so n can fits opens. inl refl;
      consumed = reads.consumed;
    }

    -- what a stop leaves on the sink
    pub record Stops (error : ServeError) : Type 0 where
      pub printed : Prints {X = Unit {0}} sink out then serves.Write (Err error) (plan_text plan)
      pub whole : error ≡ serves.Memory
          → IsCut source sink door input left out then was now read verdict bytes (Makes plan)
      pub halted : error ≡ serves.Door
          → Rose (door.door_faults was) (door.door_faults now)
          × IsHalted source sink door input left out then was now read verdict bytes (Makes plan)
      pub opens : IsServedBy source sink door input left out then was now read verdict bytes plan → error ≢ serves.Door
      pub visited : Visited (status_of (ending_of_serve error))

    pub Ends-stopped : (error : ServeError) → Stops error
        → Ends source sink door input left out then was now read verdict bytes (status_of (ending_of_serve error))
    Ends-stopped serves.Write s = record {
      means = (
        s.printed.write refl,
        subst (IsBroken source sink door input left out then was now read verdict bytes)
            (sym is) s.printed.part,
      );
      unread = reads.unread;
      visited = came statuses.WriteFault s.visited;
      past_limit = λ reliable past. absurd (no-limit past);
      faulty = λ reliable faulty. absurd (no-fault faulty);
      complete = λ reliable other so n can fits opens.
          absurd (s.printed.room n can
          (subst (λ (p : Plan). length (plan_text p) ≤ n) (sym (one-plan other so)) fits) refl);
      consumed = reads.consumed;
    }
    Ends-stopped serves.Memory s = record {
      means = subst (IsCut source sink door input left out then was now read verdict bytes) (sym is) (s.whole refl);
      unread = reads.unread;
      visited = came statuses.Memory s.visited;
      past_limit = λ reliable past. inr refl;
      faulty = λ reliable faulty. inr refl;
      complete = λ reliable other so n can fits opens. inr refl;
      consumed = reads.consumed;
    }
    Ends-stopped serves.Door s = record {
      means = (
        (s.halted refl).0,
        subst (IsHalted source sink door input left out then was now read verdict bytes)
            (sym is) (s.halted refl).1,
      );
      unread = reads.unread;
      visited = came statuses.DoorFault s.visited;
      past_limit = λ reliable past. absurd (no-limit past);
      faulty = λ reliable faulty. absurd (no-fault faulty);
      complete = λ reliable other so n can fits opens.
          absurd (s.opens (subst (IsServedBy source sink door input left out then was now read verdict bytes)
          (sym (one-plan other so)) opens)
          refl);
      consumed = reads.consumed;
    }

  -- what was printed of a run when memory was wanting are the lines of whole steps
  pub steps-cut : {out then : K} (head : HeadText) (steps : List Step)
      → PrintsWholeSteps sink out then (cluster_of head) false steps
      → (text : List ℕ) × EndsAtStep (record { head = head; steps = steps }) text
      × Grew (sink.content out) (sink.content then) text
  steps-cut head steps whole =
      (_, record { done = whole.done; more = whole.more; parts = whole.parts; lines = refl }, whole.grew)

-- an error of printing ends a command as the like error of serving
pub same-status : (error : PrintError)
    → status_of (ending_of_print error) ≡ status_of (ending_of_serve (serve_error error))
same-status prints.Write = refl
same-status prints.Memory = refl

pub prints-so : {K X : Type 0} {sink : SinkGhosts K} {out then : K} {text : List ℕ} (error : PrintError)
    → Prints {X = X} sink out then prints.Write (Err error) text
    → Prints {X = Unit {0}} sink out then serves.Write (Err (serve_error error)) text
prints-so {sink = sink} {out = out} {then = then} {text = text} error p =
    subst (λ (t : List ℕ). Prints {X = Unit {0}} sink out then serves.Write (Err (serve_error error)) t)
    (append-nil text)
    (Prints-stop serves.Write (serve_error error) (Err (serve_error error)) [] p refl (write-is error))
