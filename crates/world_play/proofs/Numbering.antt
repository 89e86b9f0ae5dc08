-- What messages bring has greater numbers than what is in flight.
use Rattle.std.proofs.Common.{◌≡◌, ℕ, ◌+◌, ◌≤◌, ◌<◌, nat_le, Bool, true, false, List, [], ◌∷◌, length, Option, Some, None, arith, refl, ap, ◌∙◌, cond}
use Rattle.std.specs.BTreeMap.{insert_entry, is_at}
use Rattle.std.specs.Map.{remove_entry}
use Rattle.std.specs.Ordering.{nat_cmp, is_eq, match_ordering, MatchOrdering}
use Rattle.std.specs.declared.cmp.Ordering.{Ordering}
use Rattle.std.specs.declared.cmp.Ordering.TheVariants.{Less, Equal, Greater}
use Rattle.std.proofs.lemmas.Cmp.{ranked}
use Rattle.store_keys.specs.declared.txn.Txn.{Txn}
use Rattle.lease_store.specs.Decision.{Decision, Grant, Refusal, decision_on}
use Rattle.lease_store.specs.Keys.{Keys}
use Rattle.event_book.specs.declared.event.Event.{Event}
use Rattle.event_book.specs.declared.event.EventKind.{EventKind}
use Rattle.event_book.specs.declared.event.EventKind.TheVariants as kinds
use Rattle.event_book.specs.declared.event.MessageEvent.TheVariants.{Sent, Delivered, Lost}
use Rattle.event_book.specs.declared.link.LinkEnd.{LinkEnd}
use Rattle.event_book.specs.declared.link.LinkEnd.TheVariants as ends
use Rattle.event_book.specs.declared.member.Member.{Member}
use Rattle.event_book.specs.declared.message.Body.{Body}
use Rattle.event_book.specs.declared.message.Body.TheVariants as bodies
use Rattle.event_book.specs.declared.message.Message.{Message}
use Rattle.event_book.specs.Flight.{Flight, InFlightFacts, flight_after, in_flight, sent_after}
use Rattle.agent_model.specs.declared.output.Output.{Output}
use Rattle.cluster_model.specs.declared.delivery.Delivery.{Delivery}
use Rattle.cluster_model.specs.declared.delivery.Delivery.TheVariants as deliveries
use Rattle.cluster_model.specs.declared.heard_message.HeardMessage.{HeardMessage}
use Rattle.cluster_model.specs.Cluster.{cluster_after, cluster_over}
use Rattle.cluster_model.specs.Deliveries.{delivery_of}
use Rattle.cluster_model.specs.Hearing.{heard_from}
use Rattle.cluster_model.specs.Inputs.{outcome_of_heard, outputs_of}
use Rattle.cluster_model.specs.Limits.{most_in_flight}
use Rattle.cluster_model.specs.Messages.{answer_events_by, answer_message, arrival_events_at, decision_body, decision_events, heard_message, lost_at_once, message_events, message_events_by, output_events, send_events}
use Rattle.cluster_model.specs.Parts.{each, for_some}
use Rattle.cluster_model.specs.State.{Cluster}
use Rattle.event_book.specs.Kinds.{AllAre}
use Rattle.cluster_model.proofs.Lists.{AllKinds, all-both, all-kinds}
use Rattle.cluster_model.proofs.Outputs.{HoldsOfOutputs, output-holds}

-- ---- the messages in flight
no-yes : false ≡ true → ⊥
no-yes e = cc

some-none : {X : Type 0} (x : X) → Some x ≡ None → ⊥
some-none x e = cc

equal-only : (o : Ordering) (n k : ℕ) → MatchOrdering o (n < k) (n ≡ k) (k < n) → n < k → is_eq o ≡ false
equal-only Less n k m below = refl
equal-only Equal n k m below = absurd (omega (arith, m, below))
equal-only Greater n k m below = refl

-- a lesser number is another one
pub lesser-apart : (n k : ℕ) → n < k → is_at (nat_cmp n) k ≡ false
lesser-apart n k below = equal-only (nat_cmp n k) n k (ranked n k (nat_cmp n k) refl) below

-- an entry that isn't found isn't the first one
pub record IsAbsent {X : Type 0} (here : Bool) (rest : Option X) : Type 0 where
  pub other : here ≡ false
  pub later : rest ≡ None

absent-parts : {X : Type 0} (here : Bool) (x : X) (rest : Option X) → cond here (Some x) rest ≡ None
    → IsAbsent here rest
absent-parts true x rest is = absurd (some-none x is)
absent-parts false x rest is = record { other = refl; later = is }

pub absent-more : {X : Type 0} (here : Bool) (x : X) (rest : Option X) → here ≡ false → rest ≡ None
    → cond here (Some x) rest ≡ None
absent-more here x rest other later = ap (λ b. cond b (Some x) rest) other ∙ later

put-in : (flight : Flight) (entry : ℕ × InFlightFacts) (more : Flight) (number n : ℕ) (x : InFlightFacts) (o : Ordering)
    → n < number → in_flight (entry ∷ more) n ≡ None → in_flight more n ≡ None
    → in_flight flight n ≡ None
    → in_flight (match_ordering o ((number, x) ∷ entry ∷ more) ((entry.0, x) ∷ more) (entry ∷ flight)) n ≡ None
put-in flight entry more number n x Less below whole rest later =
    absent-more (is_at (nat_cmp n) number) x (in_flight (entry ∷ more) n) (lesser-apart n number below) whole
put-in flight entry more number n x Equal below whole rest later = absent-more (is_at (nat_cmp n) entry.0) x
    (in_flight more n) (absent-parts (is_at (nat_cmp n) entry.0) entry.1 (in_flight more n) whole).other rest
put-in flight entry more number n x Greater below whole rest later = absent-more (is_at (nat_cmp n) entry.0) entry.1
    (in_flight flight n) (absent-parts (is_at (nat_cmp n) entry.0) entry.1 (in_flight more n) whole).other later

absent-put : (flight : Flight) (number n : ℕ) (x : InFlightFacts) → n < number → in_flight flight n ≡ None
    → in_flight (insert_entry nat_cmp flight number x) n ≡ None
absent-put [] number n x below none = absent-more (is_at (nat_cmp n) number) x None (lesser-apart n number below) refl
absent-put (entry ∷ more) number n x below none =
    let rest = (absent-parts (is_at (nat_cmp n) entry.0) entry.1 (in_flight more n) none).later in
    put-in (insert_entry nat_cmp more number x) entry more number n x (nat_cmp number entry.0) below none rest
    (absent-put more number n x below rest)

taken-out : (test : Bool) (entry : ℕ × InFlightFacts) (more without : Flight) (n : ℕ)
    → in_flight more n ≡ None → is_at (nat_cmp n) entry.0 ≡ false → in_flight without n ≡ None
    → in_flight (cond test more (entry ∷ without)) n ≡ None
taken-out true entry more without n rest other later = rest
taken-out false entry more without n rest other later =
    absent-more (is_at (nat_cmp n) entry.0) entry.1 (in_flight without n) other later

absent-taken : (test : ℕ → Bool) (flight : Flight) (n : ℕ) → in_flight flight n ≡ None
    → in_flight (remove_entry test flight) n ≡ None
absent-taken test [] n none = refl
absent-taken test (entry ∷ more) n none =
    let parts = absent-parts (is_at (nat_cmp n) entry.0) entry.1 (in_flight more n) none in
    taken-out (test entry.0) entry more (remove_entry test more) n parts.later parts.other
    (absent-taken test more n parts.later)

-- ---- events that send messages with greater numbers only
abbrev pub IsAbove : ℕ → EventKind → Type 0
IsAbove last (kinds.Message (Sent number message)) = last < number
IsAbove last _ = Unit {0}

sent-one : (last sent : ℕ) (kind : EventKind) → IsAbove last kind → last ≤ sent → last ≤ sent_after sent kind
sent-one last sent (kinds.Message (Sent number message)) above low = omega (arith, above)
sent-one last sent (kinds.Message _) above low = low
sent-one last sent _ above low = low

-- the last number grows
pub sent-over : (last : ℕ) (cluster : Cluster) (events : List Event) → AllAre (IsAbove last) events
    → last ≤ cluster.facts.sent → last ≤ (cluster_over cluster events).facts.sent
sent-over last cluster [] all low = low
sent-over last cluster (event ∷ events) all low = sent-over last
    (cluster_after cluster event.kind) events all.1 (sent-one last cluster.facts.sent event.kind all.0 low)

absent-one : (last now : ℕ) (known : Keys) (flight : Flight) (kind : EventKind) (n : ℕ) → IsAbove last kind
    → n ≤ last → in_flight flight n ≡ None → in_flight (flight_after now known flight kind) n ≡ None
absent-one last now known flight (kinds.Message (Sent number message)) n above low none =
    absent-put flight number n _ (omega (arith, above, low)) none
absent-one last now known flight (kinds.Message (Delivered number)) n above low none =
    absent-taken (is_at (nat_cmp number)) flight n none
absent-one last now known flight (kinds.Message (Lost number)) n above low none =
    absent-taken (is_at (nat_cmp number)) flight n none
absent-one last now known flight _ n above low none = none

-- and what wasn't in flight below it still isn't
pub absent-over : (last : ℕ) (cluster : Cluster) (events : List Event) (n : ℕ) → AllAre (IsAbove last) events → n ≤ last
    → in_flight cluster.facts.flight n ≡ None → in_flight (cluster_over cluster events).facts.flight n ≡ None
absent-over last cluster [] n all low none = none
absent-over last cluster (event ∷ events) n all low none =
    absent-over last (cluster_after cluster event.kind) events n all.1 low
    (absent-one last cluster.facts.clock cluster.facts.keys cluster.facts.flight event.kind n all.0 low none)

-- ---- what outputs of agents bring
lost-above : (last : ℕ) (test : Bool) (number : ℕ) → AllKinds (IsAbove last) (lost_at_once test number)
lost-above last true number = (tt, tt)
lost-above last false number = tt

send-above : (last : ℕ) (cluster : Cluster) (message : Message) → last ≤ cluster.facts.sent
    → AllAre (IsAbove last) (send_events cluster message)
send-above last cluster message low =
    all-kinds (IsAbove last) cluster
    (kinds.Message (Sent (cluster.facts.sent + 1) message)
    ∷ lost_at_once (nat_le most_in_flight (length cluster.facts.flight)) (cluster.facts.sent + 1))
    (omega (arith, low), lost-above last (nat_le most_in_flight (length cluster.facts.flight)) (cluster.facts.sent + 1))

-- only a message has a number
holds-above : (last : ℕ) (cluster : Cluster) (member : Member) → last ≤ cluster.facts.sent
    → HoldsOfOutputs (IsAbove last) cluster member
holds-above last cluster member low = record {
  messages = record { sent = λ target to found incarnation sequence body. omega (arith, low); lost = tt };
  orders = λ order. record {
    begins = λ is timeline. tt;
    lacks = λ is. tt;
    starts_as_primary = λ is. tt;
    starts_as_replica = tt;
    follows = λ leader. tt;
    says = λ reason. tt;
    ends = λ is. tt;
    stops = λ is. tt;
    wiped = λ is. tt;
    rewound = λ is leader r. tt;
    copied = λ is leader. tt;
  };
  feedings = record {
    measured = λ since. tt;
    armed = λ until answer. tt;
    fed = λ until basis. tt;
    disarmed = tt;
  };
  required = λ required names. tt;
  tellings = λ telling. record {
    answers = λ is reply. tt;
    holds = λ until incarnation sequence from. tt;
    passes = λ is. tt;
  };
  notes = λ note noted. tt;
}

output-above : (last : ℕ) (cluster : Cluster) (member : Member) (heard : HeardMessage) (output : Output)
    → last ≤ cluster.facts.sent → AllAre (IsAbove last) (output_events member heard cluster output)
output-above last cluster member heard output low =
    output-holds (IsAbove last) cluster member heard (holds-above last cluster member low) output

outputs-above : (last : ℕ) (cluster : Cluster) (member : Member) (heard : HeardMessage) (outs : List Output)
    → last ≤ cluster.facts.sent → AllAre (IsAbove last) (each (output_events member heard) cluster outs)
outputs-above last cluster member heard [] low = tt
outputs-above last cluster member heard (output ∷ more) low =
    let events = output_events member heard cluster output in
    let first = output-above last cluster member heard output low in
    all-both (IsAbove last) events (each (output_events member heard) (cluster_over cluster events) more) first
    (outputs-above last (cluster_over cluster events) member heard more (sent-over last cluster events first low))

-- ---- what a message brings
decided-above : (last : ℕ) (cluster : Cluster) (number : ℕ) (message : Message) (txn : Txn)
    (decision : Decision) (by : LinkEnd) → last ≤ cluster.facts.sent
    → AllAre (IsAbove last) (decision_events cluster number message txn decision by)
decided-above last cluster number message txn decision ends.Store low = tt
decided-above last cluster number message txn Grant (ends.Member by) low =
    (tt, send-above last _ (answer_message message (decision_body number txn Grant)) low)
decided-above last cluster number message txn (Refusal key found) (ends.Member by) low =
    (tt, send-above last _ (answer_message message (decision_body number txn (Refusal key found))) low)

answer-above : (last : ℕ) (cluster : Cluster) (number : ℕ) (message : Message) (body : Body)
    → last ≤ cluster.facts.sent → AllAre (IsAbove last) (answer_events_by cluster number message body)
answer-above last cluster number message bodies.Read low =
    send-above last cluster (answer_message message bodies.Snapshot) low
answer-above last cluster number message (bodies.Request txn) low = decided-above last cluster number message txn
    (decision_on cluster.facts.keys cluster.facts.clock txn) message.from low
answer-above last cluster number message _ low = tt

arrival-above : (last : ℕ) (cluster : Cluster) (number : ℕ) (message : InFlightFacts) (to : LinkEnd)
    → last ≤ cluster.facts.sent → AllAre (IsAbove last) (arrival_events_at cluster number message to)
arrival-above last cluster number message ends.Store low =
    (tt, answer-above last _ number message.message message.message.body low)
arrival-above last cluster number message (ends.Member member) low = (
  tt,
  outputs-above last _ member (heard_message number message)
      (outputs_of (outcome_of_heard cluster member (heard_from cluster message))) low,
)

moved-above : (last : ℕ) (cluster : Cluster) (number : ℕ) (message : InFlightFacts) (delivery : Delivery)
    → last ≤ cluster.facts.sent → AllAre (IsAbove last) (message_events_by cluster number message delivery)
moved-above last cluster number message deliveries.Open low =
    arrival-above last cluster number message message.message.to low
moved-above last cluster number message deliveries.Cut low = (tt, tt)
moved-above last cluster number message deliveries.Suspended low = tt
moved-above last cluster number message deliveries.Gone low = (tt, tt)

found-above : (last : ℕ) (cluster : Cluster) (number : ℕ) (found : Option InFlightFacts) → last ≤ cluster.facts.sent
    → AllAre (IsAbove last)
    (for_some found
    (λ message.
    message_events_by cluster number message (delivery_of cluster.facts.cuts cluster.facts.processes message.message)))
found-above last cluster number None low = tt
found-above last cluster number (Some message) low =
    moved-above last cluster number message (delivery_of cluster.facts.cuts cluster.facts.processes message.message) low

-- it sends nothing with a number up to the last one's
pub message-above : (last : ℕ) (cluster : Cluster) (number : ℕ) → last ≤ cluster.facts.sent
    → AllAre (IsAbove last) (message_events cluster number)
message-above last cluster number low = found-above last cluster number (in_flight cluster.facts.flight number) low
