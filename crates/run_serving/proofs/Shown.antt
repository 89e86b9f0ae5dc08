-- What the steps of connections brought, as it is printed.
use Rattle.std.proofs.Common.{◌≡◌, Bool, ℕ, ◌+◌, List, [], ◌∷◌, ◌++◌, zero, suc, Option, Some, None, refl, ◌∙◌, ap, sym, subst}
use Rattle.std.specs.Prelude.{All}
use Rattle.std.proofs.lemmas.List.Elements.{All-nil, All-cons, All-append, All-head, All-tail}
use Rattle.pat_base.specs.declared.member_id.MemberId.{MemberId}
use Rattle.pat_outside.specs.declared.outside.Sink.{Ghosts}
use Rattle.pat_outside.specs.Outside.{Grew}
use Rattle.event_book.specs.declared.event.Event.{Event}
use Rattle.event_book.specs.Text.{lines_of}
use Rattle.cluster_model.specs.declared.step.Step.{Step}
use Rattle.cluster_model.specs.declared.step.Step.TheVariants as steps
use Rattle.cluster_model.specs.Cluster.{cluster_over}
use Rattle.cluster_model.specs.Next.{next_events}
use Rattle.cluster_model.specs.State.{Cluster}
use Rattle.serve_model.specs.Connections.{Connection, Course, Unread, Unwritten, Whole, failure_steps, first_visit, most_waiting, read_steps, reply_in, steps_by, steps_of_connection, unless_replied, waiting_steps}
use Rattle.rest_message.specs.Replies.{ReplyText}
use Rattle.run_model.specs.Run.{events_by_step, printed_from, traced_after, traced_over}
use Rattle.run_player.specs.Playing.{PrintsWholeSteps}
use Rattle.run_printing.specs.Showing.{ShowsWhole, lines_by_step}

-- a step of a connection: a tick of the default schedule, or what the connection brings
abbrev pub IsVisiting : Step → Type 0
IsVisiting steps.Scheduled = Unit {0}
IsVisiting (steps.Connection id visit) = Unit {0}
IsVisiting _ = ⊥

traced-same : (trace : Bool) (step : Step) → IsVisiting step → traced_after trace step ≡ trace
traced-same trace steps.Scheduled is = refl
traced-same trace steps.Tick is = absurd is
traced-same trace (steps.Command command) is = absurd is
traced-same trace (steps.Connection id visit) is = refl

unless-visiting : (reply : Option ReplyText) (more : List Step) → All IsVisiting more
    → All IsVisiting (unless_replied reply more)
unless-visiting None more all = all
unless-visiting (Some reply) more all = All-nil IsVisiting

waiting-visiting : (cluster : Cluster) (id : MemberId) (left : ℕ) → All IsVisiting (waiting_steps cluster id left)
waiting-visiting cluster id zero = All-cons IsVisiting _ [] tt (All-nil IsVisiting)
waiting-visiting cluster id (suc left) =
    let events = next_events cluster steps.Scheduled in
    All-cons IsVisiting _ _ tt
    (unless-visiting (reply_in id events) _ (waiting-visiting (cluster_over cluster events) id left))

read-visiting : (cluster : Cluster) (id : MemberId) (visitor : Connection)
    → All IsVisiting (read_steps cluster id visitor)
read-visiting cluster id visitor =
    let events = next_events cluster (steps.Connection id (first_visit visitor.asks)) in
    All-cons IsVisiting _ _ tt
    (unless-visiting (reply_in id events) _ (waiting-visiting (cluster_over cluster events) id most_waiting))

failure-visiting : (id : MemberId) → All IsVisiting (failure_steps id)
failure-visiting id = All-cons IsVisiting _ [] tt (All-nil IsVisiting)

by-course : (course : Course) (cluster : Cluster) (id : MemberId) (visitor : Connection)
    → All IsVisiting (steps_by course cluster id visitor)
by-course Whole cluster id visitor = read-visiting cluster id visitor
by-course Unread cluster id visitor = failure-visiting id
by-course Unwritten cluster id visitor = All-append IsVisiting (read_steps cluster id visitor)
    (failure_steps id) (read-visiting cluster id visitor) (failure-visiting id)

pub connection-visiting : (cluster : Cluster) (id : MemberId) (visitor : Connection)
    → All IsVisiting (steps_of_connection cluster id visitor)
connection-visiting cluster id visitor = by-course visitor.course cluster id visitor

-- none of them changes whether messages are traced
pub traced-visiting : (trace : Bool) (visits : List Step) → All IsVisiting visits → traced_over trace visits ≡ trace
traced-visiting trace [] all = refl
traced-visiting trace (step ∷ visits) all =
    ap (λ (t : Bool). traced_over t visits) (traced-same trace step (All-head IsVisiting step visits all))
    ∙ traced-visiting trace visits (All-tail IsVisiting step visits all)

-- so their lines are those of what they brought
pub lines-visiting : (cluster : Cluster) (trace : Bool) (visits : List Step) → All IsVisiting visits
    → printed_from cluster trace visits ≡ lines_by_step trace (events_by_step cluster visits)
lines-visiting cluster trace [] all = refl
lines-visiting cluster trace (step ∷ visits) all =
    let events = next_events cluster step in
    let later = cluster_over cluster events in
    ap (λ (t : Bool). lines_of trace events ++ printed_from later t visits)
    (traced-same trace step (All-head IsVisiting step visits all))
    ∙ ap (λ l. lines_of trace events ++ l) (lines-visiting later trace visits (All-tail IsVisiting step visits all))

all-front : {X : Type 0} (P : X → Type 0) (first rest : List X) → All P (first ++ rest) → All P first
all-front P [] rest all = All-nil P
all-front P (x ∷ first) rest all =
    All-cons P x first (All-head P x (first ++ rest) all) (all-front P first rest (All-tail P x (first ++ rest) all))

-- the first of what steps brought is what the first of them brought
split-events : (cluster : Cluster) (visits : List Step) (done more : List (List Event))
    → done ++ more ≡ events_by_step cluster visits
    → (first : List Step) × (rest : List Step) × (first ++ rest ≡ visits) × (done ≡ events_by_step cluster first)
split-events cluster visits [] more is = ([], visits, refl, refl)
split-events cluster [] (events ∷ done) more is = absurd (some-none is)
  where
    some-none : ◌≡◌ {A = List (List Event)} (events ∷ (done ++ more)) [] → ⊥
    some-none e = cc
split-events cluster (step ∷ visits) (events ∷ done) more is =
    let next = next_events cluster step in
    let later = cluster_over cluster next in
    let r = split-events later visits done more (tails is) in
    (step ∷ r.0, r.1, ap (λ l. step ∷ l) r.2, heads is ∙ ap (λ l. next ∷ l) r.3)
  where
    tails : events ∷ (done ++ more)
        ≡ next_events cluster step ∷ events_by_step (cluster_over cluster (next_events cluster step)) visits
        → done ++ more ≡ events_by_step (cluster_over cluster (next_events cluster step)) visits
    tails e = cc

    heads : events ∷ (done ++ more)
        ≡ next_events cluster step ∷ events_by_step (cluster_over cluster (next_events cluster step)) visits
        → events ∷ done ≡ next_events cluster step ∷ done
    heads e = cc

-- whole steps were printed
pub shows-whole : {K : Type 0} (sink : Ghosts K) (out then : K) (cluster : Cluster) (trace : Bool) (visits : List Step)
    → All IsVisiting visits → ShowsWhole sink out then trace (events_by_step cluster visits)
    → PrintsWholeSteps sink out then cluster trace visits
shows-whole sink out then cluster trace visits all w =
    let s = split-events cluster visits w.done w.more w.parts in
    let front = all-front IsVisiting s.0 s.1 (subst (All IsVisiting) (sym s.2) all) in
    record {
      done = s.0;
      more = s.1;
      parts = s.2;
      grew = subst (λ (t : List ℕ). Grew (sink.content out) (sink.content then) t)
          (ap (lines_by_step trace) s.3 ∙ sym (lines-visiting cluster trace s.0 front)) w.grew;
    }
