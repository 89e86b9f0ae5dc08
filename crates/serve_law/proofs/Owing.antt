-- While a reply is owed, parts of a step bring none but that one.
use Rattle.std.proofs.Common.{ℕ, ◌≡◌, ◌==◌, ◌⊎◌, Bool, true, false, cond, List, [], ◌∷◌, ◌++◌, slice_get, Option, Some, None, option_and_then, option_map, refl, ◌∙◌, ap, sym, subst, inl, inr, append_assoc}
use Rattle.std.proofs.lemmas.Option.{none-some}
use Rattle.std.specs.Option.{option_or}
use Rattle.pat_base.specs.Changes.{with_changed}
use Rattle.pat_base.specs.declared.member_id.MemberId.{MemberId}
use Rattle.pat_base.specs.declared.ticks.Ticks.{Ticks}
use Rattle.wal_model.specs.declared.entry.HistoryPoint.{HistoryPoint}
use Rattle.event_book.specs.declared.event.AgentEvent.TheVariants as agents
use Rattle.event_book.specs.declared.event.Event.{Event}
use Rattle.event_book.specs.declared.event.EventKind.{EventKind}
use Rattle.event_book.specs.declared.event.EventKind.TheVariants as kinds
use Rattle.event_book.specs.declared.event.MessageEvent.TheVariants as messages
use Rattle.event_book.specs.declared.event.WatchdogEvent.TheVariants as watchdogs
use Rattle.event_book.specs.declared.member.Member.{Member}
use Rattle.event_book.specs.Kinds.{AllAre}
use Rattle.rest_message.specs.Replies.{ReplyText}
use Rattle.agent_model.specs.declared.heard.Heard.{Heard}
use Rattle.agent_model.specs.declared.machine.Machine.{Machine}
use Rattle.agent_model.specs.declared.operating.Operating.{Operating}
use Rattle.agent_model.specs.declared.operating.Told.{Told}
use Rattle.agent_model.specs.declared.output.Output.{Output}
use Rattle.agent_model.specs.declared.output.Output.TheVariants as outputs
use Rattle.agent_model.specs.declared.output.Telling.TheVariants as tellings
use Rattle.agent_model.specs.Agents.{AgentFacts, Outcome, outcome_from}
use Rattle.agent_model.specs.Table.{step}
use Rattle.agent_answers.specs.OperatorAnswers.{AnswersAtOnce, AnswersOneAtMost, AnswersWaiting, WaitsForHeard, told_in}
use Rattle.agent_answers.proofs.OperatorAnswers.{step-right}
use Rattle.cluster_model.specs.declared.heard_message.HeardMessage.{HeardMessage}
use Rattle.cluster_model.specs.Cluster.{agent_after, agent_facts_with, cluster_after, cluster_over}
use Rattle.cluster_model.specs.Commands.{kinds_of}
use Rattle.cluster_model.specs.Inputs.{agent_at, moment_of, outcome_at, outcome_of, outputs_of}
use Rattle.cluster_model.specs.Machines.{machine_of, points_of}
use Rattle.cluster_model.specs.Messages.{input_events, output_events}
use Rattle.cluster_model.specs.Parts.{each, for_some}
use Rattle.cluster_model.specs.Requests.{told_kind}
use Rattle.cluster_model.specs.State.{Cluster}
use Rattle.cluster_model.proofs.Founds.{told-holds}
use Rattle.cluster_model.proofs.Lists.{all-both, all-kinds, all-more, one-kind}
use Rattle.cluster_model.proofs.Places.{get-changed}
use Rattle.std.proofs.lemmas.Bool.{eq-eqb, eqb-true}
use Rattle.run_promise.proofs.Upholding.{over-append}
use Rattle.serve_model.specs.Connections.{reply_by, reply_in}
use Rattle.serve_model.proofs.Replies.{reply_in-append}
use Rattle.serve_law.specs.Owing.{HearsBy, IsTold, Tells}
use Rattle.serve_law.proofs.Apart.{IsApart, IsUnheard, apart-silent, apart-unheard, output-apart}
use Rattle.serve_law.proofs.Telling.{IsAmong, each-noted, each-silent}

true-false : true ≡ false → ⊥
true-false e = cc

-- what waits is the request of this number, if anything waits
abbrev pub OwedBy : ℕ → Option Operating → Type 0
OwedBy number None = Unit {0}
OwedBy number (Some waiting) = waiting.request ≡ number

-- the agent owes an answer to that request alone, if there is an agent
abbrev pub OwesOf : ℕ → Option AgentFacts → Type 0
OwesOf number None = Unit {0}
OwesOf number (Some agent) = OwedBy number agent.knows.operating

-- so does the agent of the member of this number
abbrev pub Owes : ℕ → ℕ → Cluster → Type 0
Owes number k cluster = OwesOf number (agent_at cluster.agents k)

pub owed-by : (number : ℕ) (found : Option Operating)
    → ((waiting : Operating) → found ≡ Some waiting → waiting.request ≡ number) → OwedBy number found
owed-by number None all = tt
owed-by number (Some waiting) all = all waiting refl

pub owed-as : (number : ℕ) (found : Option Operating) (waiting : Operating) → OwedBy number found
    → found ≡ Some waiting → waiting.request ≡ number
owed-as number found waiting owed is = subst (OwedBy number) is owed

-- what an agent makes of an input leaves it so
abbrev pub KeepsOwing : ℕ → Option AgentFacts → Option Outcome → Type 0
KeepsOwing number agent outcome = OwesOf number agent → OwesOf number (agent_after outcome agent)

abbrev the_agent : Option (Option AgentFacts) → Option AgentFacts
the_agent found = option_and_then (λ agent. agent) found

changed-owes : (number : ℕ) (xs : List (Option AgentFacts)) (j k : ℕ)
    (change : Option AgentFacts → Option AgentFacts) (same : Bool) → (k == j) ≡ same
    → (k ≡ j → OwesOf number (the_agent (option_map change (slice_get xs k))))
    → OwesOf number (the_agent (slice_get xs k))
    → OwesOf number (the_agent (cond same (option_map change (slice_get xs k)) (slice_get xs k)))
changed-owes number xs j k change true is here before = here (eqb-true k j is)
changed-owes number xs j k change false is here before = before

-- the agent at a place changes
pub owes-with : (number : ℕ) (xs : List (Option AgentFacts)) (j k : ℕ) (change : Option AgentFacts → Option AgentFacts)
    → (k ≡ j → OwesOf number (the_agent (option_map change (slice_get xs k)))) → OwesOf number (agent_at xs k)
    → OwesOf number (agent_at (with_changed xs j change) k)
owes-with number xs j k change here before =
    subst (λ (o : Option (Option AgentFacts)). OwesOf number (the_agent o)) (sym (get-changed xs j k change))
    (changed-owes number xs j k change (k == j) refl here before)

none-owes : (number : ℕ) (found : Option (Option AgentFacts))
    → OwesOf number
    (the_agent (option_map (λ (agent : Option AgentFacts). let none : Option AgentFacts = None in none) found))
none-owes number None = tt
none-owes number (Some agent) = tt

fresh-owes : (number : ℕ) (found : Option (Option AgentFacts)) (started : AgentFacts) → started.knows.operating ≡ None
    → OwesOf number (the_agent (option_map (λ (agent : Option AgentFacts). Some started) found))
fresh-owes number None started fresh = tt
fresh-owes number (Some agent) started fresh = subst (OwedBy number) (sym fresh) tt

pub after-owes : (number : ℕ) (found : Option (Option AgentFacts)) (outcome : Option Outcome)
    → KeepsOwing number (the_agent found) outcome → OwesOf number (the_agent found)
    → OwesOf number (the_agent (option_map (agent_after outcome) found))
after-owes number None outcome keeps owes = tt
after-owes number (Some agent) outcome keeps owes = keeps owes

-- an event at which no agent hears anything leaves it so
unheard-owes : (number k : ℕ) (cluster : Cluster) (kind : EventKind) → IsUnheard kind → Owes number k cluster
    → Owes number k (cluster_after cluster kind)
unheard-owes number k cluster (kinds.Message (messages.Delivered n)) is owes = absurd is
unheard-owes number k cluster (kinds.Agent (agents.Woken by)) is owes = absurd is
unheard-owes number k cluster (kinds.Agent (agents.Operated by action)) is owes = absurd is
unheard-owes number k cluster (kinds.Agent (agents.Killed by)) is owes =
    owes-with number cluster.agents by.id.number k _ (λ same. none-owes number (slice_get cluster.agents k)) owes
unheard-owes number k cluster (kinds.Agent (agents.Started by incarnation)) is owes = owes-with number
    cluster.agents by.id.number k _ (λ same. fresh-owes number (slice_get cluster.agents k) _ refl) owes
unheard-owes number k cluster (kinds.Watchdog (watchdogs.Reset by)) is owes =
    owes-with number cluster.agents by.id.number k _ (λ same. none-owes number (slice_get cluster.agents k)) owes
unheard-owes number k cluster _ is owes = owes

pub unheards-owe : (number k : ℕ) (cluster : Cluster) (events : List Event) → AllAre IsUnheard events
    → Owes number k cluster → Owes number k (cluster_over cluster events)
unheards-owe number k cluster [] all owes = owes
unheards-owe number k cluster (event ∷ events) all owes = unheards-owe number k
    (cluster_after cluster event.kind) events all.1 (unheard-owes number k cluster event.kind all.0 owes)

-- what outputs come to is heard by no agent
output-unheard : (member : Member) (heard : HeardMessage) (cluster : Cluster) (output : Output)
    → AllAre IsUnheard (output_events member heard cluster output)
output-unheard member heard cluster (outputs.Tell (tellings.Told request told)) =
    let found = told_kind member (agent_at cluster.agents member.id.number) told in
    all-kinds IsUnheard cluster (kinds_of found)
    (one-kind IsUnheard found
    (told-holds IsUnheard member (agent_at cluster.agents member.id.number) told (λ reply. tt)))
output-unheard member heard cluster output = all-more IsApart IsUnheard
    (output_events member heard cluster output) apart-unheard (output-apart member heard cluster output tt)

outputs-unheard : (member : Member) (heard : HeardMessage) (cluster : Cluster) (outs : List Output)
    → AllAre IsUnheard (each (output_events member heard) cluster outs)
outputs-unheard member heard cluster [] = tt
outputs-unheard member heard cluster (output ∷ more) =
    let xs = output_events member heard cluster output in
    all-both IsUnheard xs (each (output_events member heard) (cluster_over cluster xs) more)
    (output-unheard member heard cluster output) (outputs-unheard member heard (cluster_over cluster xs) more)

-- the event by which an agent hears is no reply
hearing-silent : (id : MemberId) (cluster : Cluster) (member : Member) (opening : EventKind) (heard : Heard)
    → HearsBy cluster member opening heard → reply_by id opening ≡ None
hearing-silent id cluster member (kinds.Agent (agents.Woken by)) heard hears = refl
hearing-silent id cluster member (kinds.Agent (agents.Operated by action)) heard hears = refl
hearing-silent id cluster member (kinds.Message (messages.Delivered number)) heard hears = refl
hearing-silent id cluster member _ heard hears = absurd hears

-- what an input makes of what is owed, of one agent with its machine
pub step-owes : (number : ℕ) (now : Ticks) (points : List HistoryPoint) (heard : Heard)
    (agent : Option AgentFacts) (machine : Option Machine)
    → ((o after : Outcome) (waiting : Operating) → WaitsForHeard now heard o after waiting → waiting.request ≡ number)
    → KeepsOwing number agent (outcome_at now points heard agent machine)
step-owes number now points heard None machine new owes = tt
step-owes number now points heard (Some agent) None new owes = owes
step-owes number now points heard (Some agent) (Some machine) new owes =
    let after = step now points heard (outcome_from agent.role agent.knows machine []) in
    owed-by number after.knows.operating
    (λ waiting is. elim ((step-right now points heard agent.role agent.knows machine).waits waiting is) [
      | inl before ↦ owed-as number agent.knows.operating waiting owes before
      | inr asked ↦ new (outcome_from agent.role agent.knows machine []) after waiting asked
    ])

-- what it tells operators is one answer at most, to the request of this number
only-one : (number : ℕ) (now : Ticks) (heard : Heard) (o after : Outcome) (told : List (ℕ × Told)) (answer : ℕ × Told)
    → AnswersOneAtMost now heard o after told → IsAmong answer told
    → (AnswersWaiting now heard o after answer → answer.0 ≡ number)
    → (AnswersAtOnce heard after answer → answer.0 ≡ number) → told ≡ (number, answer.1) ∷ []
only-one number now heard o after [] answer one among waited once = absurd among
only-one number now heard o after (first ∷ second ∷ others) answer one among waited once = absurd one
only-one number now heard o after (first ∷ []) answer one (inr among) waited once = absurd among
only-one number now heard o after (first ∷ []) answer one (inl same) waited once =
    ap (λ (a : ℕ × Told). a ∷ [])
    (sym same ∙ ap (λ (n : ℕ). (n, answer.1))
    (numbered (subst (λ (a : ℕ × Told). AnswersWaiting now heard o after a ⊎ AnswersAtOnce heard after a)
    (sym same) one)))
  where
    numbered : AnswersWaiting now heard o after answer ⊎ AnswersAtOnce heard after answer → answer.0 ≡ number
    numbered (inl at) = waited at
    numbered (inr at) = once at

-- the answer that waited is the one that is owed
pub owed-answer : (number : ℕ) (now : Ticks) (heard : Heard) (o after : Outcome) (answer : ℕ × Told)
    → OwedBy number o.knows.operating → AnswersWaiting now heard o after answer → answer.0 ≡ number
owed-answer number now heard o after answer owed waited =
    waited.request ∙ owed-as number o.knows.operating waited.waiting owed waited.waited

module _ (number : ℕ) (id : MemberId) where
  -- behind these events the agent owes nothing else, and what it replied in them it told that request
  pub record Settles (cluster : Cluster) (events : List Event) : Type 0 where
    pub owes : Owes number id.number (cluster_over cluster events)
    pub told : (reply : ReplyText) → reply_in id events ≡ Some reply → IsTold number id cluster events reply

  -- events settle what is owed, where nothing else is owed before
  abbrev pub SettlesWhereOwed : Cluster → List Event → Type 0
  SettlesWhereOwed cluster events = Owes number id.number cluster → Settles cluster events

  pub told-behind : (cluster : Cluster) (xs ys : List Event) (reply : ReplyText)
      → IsTold number id (cluster_over cluster xs) ys reply → IsTold number id cluster (xs ++ ys) reply
  told-behind cluster xs ys reply t =
      let hears = t.hearing ∷ t.meanwhile in
      record {
        member = t.member;
        is_it = t.is_it;
        before = xs ++ t.before;
        hearing = t.hearing;
        meanwhile = t.meanwhile;
        answer = t.answer;
        later = t.later;
        parts = append_assoc xs t.before (t.hearing ∷ (t.meanwhile ++ t.answer ∷ t.later))
            ∙ ap (λ (es : List Event). xs ++ es) t.parts;
        told =
            subst (λ (c : Cluster). Tells number t.member c
            (cluster_over cluster ((xs ++ t.before) ++ hears)) t.hearing.kind t.answer.kind reply)
            (sym (over-append cluster xs t.before))
            (subst (λ (c : Cluster). Tells number t.member
            (cluster_over (cluster_over cluster xs) t.before) c t.hearing.kind t.answer.kind reply)
            (sym (ap (cluster_over cluster) (append_assoc xs t.before hears)
            ∙ over-append cluster xs (t.before ++ hears)))
            t.told);
      }

  pub told-before : (cluster : Cluster) (xs ys : List Event) (reply : ReplyText)
      → IsTold number id cluster xs reply → IsTold number id cluster (xs ++ ys) reply
  told-before cluster xs ys reply t = record {
    member = t.member;
    is_it = t.is_it;
    before = t.before;
    hearing = t.hearing;
    meanwhile = t.meanwhile;
    answer = t.answer;
    later = t.later ++ ys;
    parts =
        ap (λ (es : List Event). t.before ++ t.hearing ∷ es) (sym (append_assoc t.meanwhile (t.answer ∷ t.later) ys))
        ∙ sym (append_assoc t.before (t.hearing ∷ (t.meanwhile ++ t.answer ∷ t.later)) ys)
        ∙ ap (λ (es : List Event). es ++ ys) t.parts;
    told = t.told;
  }

  pub told-either : (cluster : Cluster) (xs ys : List Event) (reply : ReplyText) (first : Option ReplyText)
      → reply_in id xs ≡ first
      → ((r : ReplyText) → reply_in id xs ≡ Some r → IsTold number id cluster xs r)
      → ((r : ReplyText) → reply_in id ys ≡ Some r → IsTold number id (cluster_over cluster xs) ys r)
      → option_or first (reply_in id ys) ≡ Some reply → IsTold number id cluster (xs ++ ys) reply
  told-either cluster xs ys reply None is one other e = told-behind cluster xs ys reply (other reply e)
  told-either cluster xs ys reply (Some r) is one other e = told-before cluster xs ys reply (one reply (is ∙ e))

  pub settles-none : (cluster : Cluster) → SettlesWhereOwed cluster []
  settles-none cluster owes = record { owes = owes; told = λ reply e. absurd (none-some _ e) }

  pub settles-then : (cluster : Cluster) (xs ys : List Event) → SettlesWhereOwed cluster xs
      → SettlesWhereOwed (cluster_over cluster xs) ys → SettlesWhereOwed cluster (xs ++ ys)
  settles-then cluster xs ys first second owes =
      let one = first owes in
      let other = second one.owes in
      record {
        owes = subst (Owes number id.number) (sym (over-append cluster xs ys)) other.owes;
        told = λ reply e. told-either cluster xs ys reply (reply_in id xs) refl one.told other.told
            (sym (reply_in-append id xs ys) ∙ e);
      }

  pub settles-each : {X : Type 0} (part : Cluster → X → List Event)
      → ((cluster : Cluster) (x : X) → SettlesWhereOwed cluster (part cluster x))
      → (cluster : Cluster) (xs : List X) → SettlesWhereOwed cluster (each part cluster xs)
  settles-each part all cluster [] = settles-none cluster
  settles-each part all cluster (x ∷ xs) =
      settles-then cluster (part cluster x) (each part (cluster_over cluster (part cluster x)) xs)
      (all cluster x) (settles-each part all (cluster_over cluster (part cluster x)) xs)

  pub settles-for_some : {X : Type 0} (cluster : Cluster) (found : Option X) (part : X → List Event)
      → ((x : X) → found ≡ Some x → SettlesWhereOwed cluster (part x)) → SettlesWhereOwed cluster (for_some found part)
  settles-for_some cluster None part all = settles-none cluster
  settles-for_some cluster (Some x) part all = all x refl

  pub settles-if : (cluster : Cluster) (test : Bool) (xs ys : List Event) → SettlesWhereOwed cluster xs
      → SettlesWhereOwed cluster ys → SettlesWhereOwed cluster (cond test xs ys)
  settles-if cluster true xs ys first second = first
  settles-if cluster false xs ys first second = second

  pub settles-apart : (cluster : Cluster) (events : List Event) → AllAre IsApart events
      → SettlesWhereOwed cluster events
  settles-apart cluster events all owes = record {
    owes = unheards-owe number id.number cluster events (all-more IsApart IsUnheard events apart-unheard all) owes;
    told = λ reply e. absurd (none-some _ (sym (apart-silent id events all) ∙ e));
  }

  -- ---- an input of an agent
  module _ (cluster : Cluster) (member : Member) (heard : Heard) (message : HeardMessage)
      (opening : EventKind) (hears : HearsBy cluster member opening heard) where
    abbrev Later : Cluster
    Later = cluster_after cluster opening

    abbrev Opening : Event
    Opening = record { tick = record { 0 = Later.facts.clock }; kind = opening }

    abbrev Made : Option AgentFacts → Option Machine → Option Outcome
    Made agent machine = outcome_at (moment_of cluster) (points_of cluster member) heard agent machine

    module _ (once : (after : Outcome) (answer : ℕ × Told) → AnswersAtOnce heard after answer → answer.0 ≡ number) where
      -- a request that waits is answered with this number
      abbrev pub AnswersRight : Option AgentFacts → Type 0
      AnswersRight agent =
          (found : AgentFacts) → agent ≡ Some found → (machine : Machine) (after : Outcome) (answer : ℕ × Told)
          → AnswersWaiting (moment_of cluster) heard (outcome_from found.role found.knows machine []) after answer
          → answer.0 ≡ number

      -- its outputs come of one agent with its machine
      outputs-told : (agent : Option AgentFacts) (machine : Option Machine) (reply : ReplyText)
          → member.id.number ≡ id.number → AnswersRight agent → outcome_of cluster member heard ≡ Made agent machine
          → reply_in id (input_events Later member message (Made agent machine)) ≡ Some reply
          → IsTold number id cluster (Opening ∷ input_events Later member message (Made agent machine)) reply
      outputs-told None machine reply same right is e = absurd (none-some _ e)
      outputs-told (Some agent) None reply same right is e = absurd (none-some _ e)
      outputs-told (Some agent) (Some machine) reply same right is e =
          let o = outcome_from agent.role agent.knows machine [] in
          let after = step (moment_of cluster) (points_of cluster member) heard o in
          let noted = each-noted id member message same Later after.outputs reply e in
          record {
            member = member;
            is_it = same;
            before = [];
            hearing = Opening;
            meanwhile = noted.meanwhile;
            answer = noted.answer;
            later = noted.later;
            parts = ap (λ (es : List Event). Opening ∷ es) noted.parts;
            told = record {
              heard = heard;
              hears = hears;
              outcome = after;
              acts = is;
              told = noted.told.1;
              tells = only-one number (moment_of cluster) heard o after (told_in after.outputs) noted.told
                  (step-right (moment_of cluster)
                  (points_of cluster member) heard agent.role agent.knows machine).answers
                  noted.tells
                  (right agent refl machine after noted.told) (once after noted.told);
              says = noted.says;
              notes = noted.notes;
            };
          }

      told-if : (same : Bool) → (member.id.number == id.number) ≡ same
          → (member.id.number ≡ id.number → AnswersRight (agent_at cluster.agents member.id.number))
          → (reply : ReplyText)
          → reply_in id (input_events Later member message (outcome_of cluster member heard)) ≡ Some reply
          → IsTold number id cluster
          (Opening ∷ input_events Later member message (outcome_of cluster member heard)) reply
      told-if true is right reply e =
          let same = eqb-true member.id.number id.number is in
          outputs-told (agent_at cluster.agents member.id.number) (machine_of cluster member) reply same
          (right same) refl e
      told-if false is right reply e =
          absurd (none-some _
          (sym (each-silent id member message (λ same. true-false (sym (eq-eqb member.id.number id.number same) ∙ is))
          Later (outputs_of (outcome_of cluster member heard)))
          ∙ e))

      -- what its agent replies it told that request
      pub input-told : (member.id.number ≡ id.number → AnswersRight (agent_at cluster.agents member.id.number))
          → (reply : ReplyText)
          → reply_in id (Opening ∷ input_events Later member message (outcome_of cluster member heard)) ≡ Some reply
          → IsTold number id cluster
          (Opening ∷ input_events Later member message (outcome_of cluster member heard)) reply
      input-told right reply e =
          told-if (member.id.number == id.number) refl right reply
          (ap (λ (r : Option ReplyText).
          option_or r (reply_in id (input_events Later member message (outcome_of cluster member heard))))
          (sym (hearing-silent id cluster member opening heard hears)) ∙ e)

    -- what is owed behind the event is owed behind what it brings
    pub input-owes : Owes number id.number Later
        → Owes number id.number
        (cluster_over Later (input_events Later member message (outcome_of cluster member heard)))
    input-owes owes =
        unheards-owe number id.number Later (input_events Later member message (outcome_of cluster member heard))
        (outputs-unheard member message Later (outputs_of (outcome_of cluster member heard))) owes

    -- where what it hears is no request of an operator
    pub settles-input : (cluster_after cluster opening).agents
        ≡ agent_facts_with cluster.agents member (outcome_of cluster member heard)
        → ((o after : Outcome) (waiting : Operating) → WaitsForHeard (moment_of cluster) heard o after waiting → ⊥)
        → ((after : Outcome) (answer : ℕ × Told) → AnswersAtOnce heard after answer → ⊥)
        → SettlesWhereOwed cluster (Opening ∷ input_events Later member message (outcome_of cluster member heard))
    settles-input acts new once owes =
        let outcome = outcome_of cluster member heard in
        record {
          owes = input-owes
              (subst (λ (xs : List (Option AgentFacts)). OwesOf number (agent_at xs id.number)) (sym acts)
              (owes-with number cluster.agents member.id.number id.number (agent_after outcome)
              (λ same. after-owes number (slice_get cluster.agents id.number) outcome
              (subst (λ (k : ℕ). KeepsOwing number (agent_at cluster.agents k) outcome) (sym same)
              (step-owes number (moment_of cluster) (points_of cluster member) heard
              (agent_at cluster.agents member.id.number) (machine_of cluster member)
              (λ o after waiting is. absurd (new o after waiting is))))
              owes)
              owes));
          told = input-told (λ after answer at. absurd (once after answer at))
              (λ same found is machine after answer waited.
              owed-answer number (moment_of cluster) heard (outcome_from found.role found.knows machine []) after answer
              (subst (OwesOf number) is (subst (λ (k : ℕ). OwesOf number (agent_at cluster.agents k)) (sym same) owes))
              waited);
        }
