-- A reply that is waited for.
use Rattle.std.proofs.Common.{ℕ, ◌≡◌, ◌+◌, ◌-◌, ◌<◌, ◌≤◌, arith, length, length-append, zero, List, [], ◌∷◌, ◌++◌, Option, Some, None, suc, refl, ap, sym, subst, ◌∙◌, append-nil, append_assoc}
use Rattle.std.specs.Prelude.{unwrap_or}
use Rattle.pat_base.specs.declared.member_id.MemberId.{MemberId}
use Rattle.event_list.specs.Listed.{Listed}
use Rattle.cluster_model.specs.declared.step.Step.{Step}
use Rattle.cluster_model.specs.declared.step.Step.TheVariants as steps
use Rattle.cluster_model.specs.declared.step.Visit.TheVariants as visits
use Rattle.cluster_model.specs.Cluster.{cluster_over}
use Rattle.cluster_model.specs.Next.{next_events, run_events}
use Rattle.cluster_model.specs.State.{Cluster}
use Rattle.rest_answer.specs.declared.refusal.Refusal.TheVariants as refusals
use Rattle.rest_answer.specs.Refusals.{refusal_reply}
use Rattle.rest_message.specs.Replies.{ReplyText}
use Rattle.cluster_model.specs.Steps.{names_in}
use Rattle.script_model.specs.Script.{IsMember}
use Rattle.simulation.specs.Steps.{HasStepsLeft, WorldFacts}
use Rattle.serve_model.specs.Connections.{Connection, Course, Unread, Unwritten, Whole, connection_cost, failure_steps, first_visit, most_waiting, read_steps, replied, reply_in, steps_by, steps_of_connection, unless_replied, waiting_steps}
use Rattle.pat_serve.specs.Serving.{Brings}
use Rattle.pat_serve.proofs.Bringing.{Brings-none, Brings-then, brings-declared, room-behind}
use Rattle.pat_serve.proofs.Replied.{reply-behind}

-- of the ticks in which a reply is waited for, so many are left, and there was none in the others
pub record Waiting (start now : WorldFacts) (had has : List Listed) (id : MemberId) (left : ℕ) : Type 0 where
  pub done : List Step
  pub parts : done ++ waiting_steps now.cluster id left ≡ waiting_steps start.cluster id most_waiting
  pub brings : Brings start now had has done
  pub silent : reply_in id (run_events start.cluster done) ≡ None
  pub count : length done + left ≡ most_waiting

pub Waiting-start : (start : WorldFacts) (had : List Listed) (id : MemberId)
    → Waiting start start had had id most_waiting
Waiting-start start had id =
    record { done = []; parts = refl; brings = Brings-none start had; silent = refl; count = refl }

-- one more tick without a reply
pub Waiting-more : (start now then : WorldFacts) (had mid has : List Listed) (id : MemberId) (left : ℕ)
    → Waiting start now had mid id (suc left) → Brings now then mid has (steps.Scheduled ∷ [])
    → reply_in id (next_events now.cluster steps.Scheduled) ≡ None
    → Waiting start then had has id left
Waiting-more start now then had mid has id left w b none =
    let next = cluster_over now.cluster (next_events now.cluster steps.Scheduled) in
    let comes : then.cluster ≡ next = b.cluster
    ∙ ap (cluster_over now.cluster) (append-nil (next_events now.cluster steps.Scheduled)) in
    let goes : waiting_steps now.cluster id (suc left) ≡ steps.Scheduled ∷ waiting_steps next id left =
    ap (λ (r : Option ReplyText). steps.Scheduled ∷ unless_replied r (waiting_steps next id left)) none in
    record {
      done = w.done ++ steps.Scheduled ∷ [];
      parts = append_assoc w.done (steps.Scheduled ∷ []) (waiting_steps then.cluster id left)
          ∙ ap (λ (c : Cluster). w.done ++ steps.Scheduled ∷ waiting_steps c id left) comes
          ∙ ap (λ l. w.done ++ l) (sym goes) ∙ w.parts;
      brings = Brings-then start now then had mid has w.done (steps.Scheduled ∷ []) w.brings b;
      silent = reply-behind id start.cluster now.cluster w.done steps.Scheduled w.brings.cluster w.silent ∙ none;
      count = omega (arith, w.count, length-append w.done (steps.Scheduled ∷ []));
    }

-- the last of these steps: all were taken
pub Waiting-brings : (start now then : WorldFacts) (had mid has : List Listed) (id : MemberId) (left : ℕ) (step : Step)
    → Waiting start now had mid id left → waiting_steps now.cluster id left ≡ step ∷ []
    → Brings now then mid has (step ∷ [])
    → Brings start then had has (waiting_steps start.cluster id most_waiting)
Waiting-brings start now then had mid has id left step w last b =
    subst (Brings start then had has) (ap (λ l. w.done ++ l) (sym last) ∙ w.parts)
    (Brings-then start now then had mid has w.done (step ∷ []) w.brings b)

-- and what is replied in all of them is what is replied in it
pub Waiting-reply : (start now : WorldFacts) (had mid : List Listed) (id : MemberId) (left : ℕ) (step : Step)
    → Waiting start now had mid id left → waiting_steps now.cluster id left ≡ step ∷ []
    → reply_in id (run_events start.cluster (waiting_steps start.cluster id most_waiting))
    ≡ reply_in id (next_events now.cluster step)
Waiting-reply start now had mid id left step w last =
    ap (λ l. reply_in id (run_events start.cluster l)) (sym (ap (λ l. w.done ++ l) (sym last) ∙ w.parts))
    ∙ reply-behind id start.cluster now.cluster w.done step w.brings.cluster w.silent

-- a reply in a tick is the last of them
pub last-tick : (cluster : Cluster) (id : MemberId) (left : ℕ) (reply : ReplyText)
    → reply_in id (next_events cluster steps.Scheduled) ≡ Some reply
    → waiting_steps cluster id (suc left) ≡ steps.Scheduled ∷ []
last-tick cluster id left reply is =
    ap (λ (r : Option ReplyText). steps.Scheduled
    ∷ unless_replied r (waiting_steps (cluster_over cluster (next_events cluster steps.Scheduled)) id left))
    is

unless-few : (reply : Option ReplyText) (more : List Step) (most : ℕ) → length more ≤ most
    → length (unless_replied reply more) ≤ most
unless-few None more most few = few
unless-few (Some reply) more most few = omega arith

-- no more ticks than a reply is waited for, and the step that says so
waiting-few : (cluster : Cluster) (id : MemberId) (left : ℕ) → length (waiting_steps cluster id left) ≤ left + 1
waiting-few cluster id zero = omega arith
waiting-few cluster id (suc left) =
    let events = next_events cluster steps.Scheduled in
    omega (
      arith,
      unless-few (reply_in id events) (waiting_steps (cluster_over cluster events) id left) (left + 1)
          (waiting-few (cluster_over cluster events) id left),
    )

-- so many at most bring a reply
pub read-few : (cluster : Cluster) (id : MemberId) (connection : Connection)
    → length (read_steps cluster id connection) ≤ most_waiting + 2
read-few cluster id connection =
    let events = next_events cluster (steps.Connection id (first_visit connection.asks)) in
    omega (
      arith,
      unless-few (reply_in id events) (waiting_steps (cluster_over cluster events) id most_waiting)
          (most_waiting + 1) (waiting-few (cluster_over cluster events) id most_waiting),
    )

few-by : (course : Course) (cluster : Cluster) (id : MemberId) (connection : Connection)
    → length (steps_by course cluster id connection) ≤ connection_cost
few-by Whole cluster id connection = omega (arith, read-few cluster id connection)
few-by Unread cluster id connection = omega arith
few-by Unwritten cluster id connection =
    omega (arith, read-few cluster id connection, length-append (read_steps cluster id connection) (failure_steps id))

-- a connection brings few steps
pub connection-few : (cluster : Cluster) (id : MemberId) (connection : Connection)
    → length (steps_of_connection cluster id connection) ≤ connection_cost
connection-few cluster id connection = few-by connection.course cluster id connection

-- as many steps are left as ticks, and one
pub Waiting-room : (start now : WorldFacts) (had has : List Listed) (id : MemberId) (left more : ℕ)
    → Waiting start now had has id left → more ≤ left + 1 → HasStepsLeft start (most_waiting + 1)
    → HasStepsLeft now more
Waiting-room start now had has id left more w fits room =
    room-behind start now had has w.done (most_waiting + 1) more w.brings (omega (arith, fits, w.count)) room

-- the members stay meanwhile
pub Waiting-declared : (start now : WorldFacts) (had has : List Listed) (id : MemberId) (left : ℕ)
    → Waiting start now had has id left → IsMember (names_in start.cluster.facts.members) id
    → IsMember (names_in now.cluster.facts.members) id
Waiting-declared start now had has id left w is = brings-declared start now had has w.done id w.brings is

-- a number above zero is one more than the number below it
pub one-less : (n : ℕ) → 0 < n → n ≡ suc (n - 1)
one-less zero above = absurd (omega (arith, above))
one-less (suc n) above = ap suc (sub-one n)
  where
    sub-one : (n : ℕ) → n ≡ suc n - 1
    sub-one n = omega arith

-- a tick with a reply: it is the last
pub ticked-brings : (start now then : WorldFacts) (had mid has : List Listed) (id : MemberId) (left : ℕ)
    (reply : ReplyText) → 0 < left → Waiting start now had mid id left
    → reply_in id (next_events now.cluster steps.Scheduled) ≡ Some reply
    → Brings now then mid has (steps.Scheduled ∷ [])
    → Brings start then had has (waiting_steps start.cluster id most_waiting)
ticked-brings start now then had mid has id left reply some w is b =
    Waiting-brings start now then had mid has id left steps.Scheduled w
    (ap (waiting_steps now.cluster id) (one-less left some) ∙ last-tick now.cluster id (left - 1) reply is) b

pub ticked-reply : (start now : WorldFacts) (had mid : List Listed) (id : MemberId) (left : ℕ) (reply : ReplyText)
    → 0 < left → Waiting start now had mid id left → reply_in id (next_events now.cluster steps.Scheduled) ≡ Some reply
    → replied start.cluster id (waiting_steps start.cluster id most_waiting) ≡ reply
ticked-reply start now had mid id left reply some w is =
    ap (λ (r : Option ReplyText). unwrap_or r (refusal_reply refusals.NoResult))
    (Waiting-reply start now had mid id left steps.Scheduled w
    (ap (waiting_steps now.cluster id) (one-less left some) ∙ last-tick now.cluster id (left - 1) reply is) ∙ is)

-- a tick without one
pub ticked-none : (start now then : WorldFacts) (had mid has : List Listed) (id : MemberId) (left : ℕ)
    → 0 < left → Waiting start now had mid id left → Brings now then mid has (steps.Scheduled ∷ [])
    → reply_in id (next_events now.cluster steps.Scheduled) ≡ None
    → Waiting start then had has id (left - 1)
ticked-none start now then had mid has id left some w b none = Waiting-more start now then had mid has id
    (left - 1) (subst (Waiting start now had mid id) (one-less left some) w) b none

-- no tick is left: that there was no result in time is the last step
abbrev pub late : MemberId → Step
late id = steps.Connection id (visits.Refusal refusals.NoResult)

pub late-brings : (start now then : WorldFacts) (had mid has : List Listed) (id : MemberId) (left : ℕ)
    → left ≡ 0 → Waiting start now had mid id left → Brings now then mid has (late id ∷ [])
    → Brings start then had has (waiting_steps start.cluster id most_waiting)
late-brings start now then had mid has id left none w b =
    Waiting-brings start now then had mid has id left (late id) w (ap (waiting_steps now.cluster id) none) b

pub late-reply : (start now : WorldFacts) (had mid : List Listed) (id : MemberId) (left : ℕ) (told : Option ReplyText)
    → left ≡ 0 → Waiting start now had mid id left → reply_in id (next_events now.cluster (late id)) ≡ told
    → replied start.cluster id (waiting_steps start.cluster id most_waiting)
    ≡ unwrap_or told (refusal_reply refusals.NoResult)
late-reply start now had mid id left told none w is =
    ap (λ (r : Option ReplyText). unwrap_or r (refusal_reply refusals.NoResult))
    (Waiting-reply start now had mid id left (late id) w (ap (waiting_steps now.cluster id) none) ∙ is)
