-- Events at which no agent hears anything, and none replies to an operator.
use Rattle.std.proofs.Common.{ℕ, ◌≡◌, ◌∙◌, ◌+◌, nat_le, Bool, true, false, cond, List, [], ◌∷◌, ◌++◌, length, slice_get, Option, Some, None, option_and_then, refl, ap}
use Rattle.std.specs.Option.{option_or}
use Rattle.pat_base.specs.declared.lsn.Lsn.{Lsn}
use Rattle.pat_base.specs.declared.member_id.MemberId.{MemberId}
use Rattle.store_keys.specs.declared.key.Key.{Key}
use Rattle.store_keys.specs.declared.key.Key.TheVariants as keys
use Rattle.store_keys.specs.declared.txn.Txn.{Txn}
use Rattle.lease_store.specs.Answers.{expired_holder, expired_keys}
use Rattle.lease_store.specs.Decision.{Decision, Grant, Refusal, decision_on}
use Rattle.wal_model.specs.declared.entry.Entry.{Entry}
use Rattle.wal_model.specs.Lacking.{lacks_in}
use Rattle.pg_model.specs.declared.answers.Streamed.{Streamed}
use Rattle.pg_model.specs.declared.answers.Streamed.TheVariants as streams
use Rattle.pg_model.specs.Facts.{ServerFacts, entries_of}
use Rattle.pg_cluster.specs.Servers.{news_at}
use Rattle.event_book.specs.declared.event.AgentEvent.TheVariants as agents
use Rattle.event_book.specs.declared.event.Event.{Event}
use Rattle.event_book.specs.declared.event.EventKind.{EventKind}
use Rattle.event_book.specs.declared.event.EventKind.TheVariants as kinds
use Rattle.event_book.specs.declared.event.MessageEvent.TheVariants as messages
use Rattle.event_book.specs.declared.event.Note.{Note}
use Rattle.event_book.specs.declared.event.Note.TheVariants as notes
use Rattle.event_book.specs.declared.event.WatchdogEvent.TheVariants as watchdogs
use Rattle.event_book.specs.declared.link.LinkEnd.{LinkEnd}
use Rattle.event_book.specs.declared.link.LinkEnd.TheVariants as ends
use Rattle.event_book.specs.declared.member.Member.{Member}
use Rattle.event_book.specs.declared.message.Body.{Body}
use Rattle.event_book.specs.declared.message.Body.TheVariants as bodies
use Rattle.event_book.specs.declared.message.Message.{Message}
use Rattle.event_book.specs.Kinds.{AllAre}
use Rattle.rest_message.specs.Replies.{ReplyText}
use Rattle.agent_model.specs.declared.output.Output.{Output}
use Rattle.agent_model.specs.declared.output.Output.TheVariants as outputs
use Rattle.agent_model.specs.declared.output.Telling.TheVariants as tellings
use Rattle.agent_model.specs.declared.output.ServerOrder.{ServerOrder}
use Rattle.agent_model.specs.declared.output.Telling.{Telling}
use Rattle.cluster_model.specs.declared.beginning.Completion.{Completion}
use Rattle.cluster_model.specs.declared.beginning.Completion.TheVariants as completions
use Rattle.cluster_model.specs.declared.heard_message.HeardMessage.{HeardMessage}
use Rattle.cluster_model.specs.Acknowledging.{acknowledge_kinds, acknowledgements, ready_commits}
use Rattle.cluster_model.specs.Beginnings.{completed_by, completion_kinds, completion_of}
use Rattle.cluster_model.specs.Cluster.{cluster_after, cluster_over}
use Rattle.cluster_model.specs.Commands.{kinds_of}
use Rattle.cluster_model.specs.Limits.{most_in_flight}
use Rattle.cluster_model.specs.Losing.{is_lacking, loss_if, loss_of, losses_of}
use Rattle.cluster_model.specs.Messages.{answer_events_by, answer_message, decision_body, decision_events, lost_at_once, output_events, send_events, feeding_kinds, telling_kind}
use Rattle.cluster_model.specs.Next.{acknowledge_events, all_entries, confirm_events, receive_events, receive_events_at_most, receive_events_of}
use Rattle.cluster_model.specs.Orders.{declared_member}
use Rattle.cluster_model.specs.Parts.{each, events_of, for_some}
use Rattle.cluster_model.specs.State.{Cluster}
use Rattle.cluster_model.specs.Streaming.{confirm_of, source_of, unconfirmed_end}
use Rattle.cluster_model.specs.Ticking.{completion_events, expiries_of, expiry_of, leader_expiry, next_expiries, reset_events, reset_of, tick_events}
use Rattle.leader_key.specs.Watchdog.{is_due_at}
use Rattle.cluster_model.proofs.Founds.{holds-if, holds-then}
use Rattle.cluster_model.proofs.Lists.{AllKinds, HoldsIf, all-both, all-kinds, kinds-both, one-kind}
use Rattle.cluster_model.proofs.Outputs.{HoldsOfFeedings, HoldsOfOrder, IsAnswer, IsNoted, feeding-holds, kind-holds, message-holds, noting-holds, order-holds, required-holds, telling-holds}
use Rattle.serve_model.specs.Connections.{reply_by, reply_in}

-- no agent hears by such an event
abbrev pub IsUnheard : EventKind → Type 0
IsUnheard (kinds.Message (messages.Delivered number)) = ⊥
IsUnheard (kinds.Agent (agents.Woken by)) = ⊥
IsUnheard (kinds.Agent (agents.Operated by action)) = ⊥
IsUnheard _ = Unit {0}

-- and none replies
abbrev pub IsApart : EventKind → Type 0
IsApart (kinds.Message (messages.Delivered number)) = ⊥
IsApart (kinds.Agent (agents.Woken by)) = ⊥
IsApart (kinds.Agent (agents.Operated by action)) = ⊥
IsApart (kinds.Note (notes.Answered by status json body)) = ⊥
IsApart _ = Unit {0}

pub apart-unheard : (kind : EventKind) → IsApart kind → IsUnheard kind
apart-unheard (kinds.Message (messages.Delivered number)) is = absurd is
apart-unheard (kinds.Agent (agents.Woken by)) is = absurd is
apart-unheard (kinds.Agent (agents.Operated by action)) is = absurd is
apart-unheard _ is = tt

silent-one : (id : MemberId) (kind : EventKind) → IsApart kind → reply_by id kind ≡ None
silent-one id (kinds.Note (notes.Answered by status json body)) is = absurd is
silent-one id (kinds.Note note) is = refl
silent-one id _ is = refl

-- nothing is replied at such events
pub apart-silent : (id : MemberId) (events : List Event) → AllAre IsApart events → reply_in id events ≡ None
apart-silent id [] all = refl
apart-silent id (event ∷ events) all =
    ap (λ (r : Option ReplyText). option_or r (reply_in id events)) (silent-one id event.kind all.0)
    ∙ apart-silent id events all.1

pub apart-each : {X : Type 0} (part : Cluster → X → List Event)
    → ((cluster : Cluster) (x : X) → AllAre IsApart (part cluster x)) → (cluster : Cluster) (xs : List X)
    → AllAre IsApart (each part cluster xs)
apart-each part all cluster [] = tt
apart-each part all cluster (x ∷ xs) =
    all-both IsApart (part cluster x) (each part (cluster_over cluster (part cluster x)) xs) (all cluster x)
    (apart-each part all (cluster_over cluster (part cluster x)) xs)

apart-if : (cluster : Cluster) (found : Option EventKind) → HoldsIf IsApart found
    → AllAre IsApart (events_of cluster (kinds_of found))
apart-if cluster found is = all-kinds IsApart cluster (kinds_of found) (one-kind IsApart found is)

-- ---- messages that are sent
lost-apart : (test : Bool) (number : ℕ) → AllKinds IsApart (lost_at_once test number)
lost-apart true number = (tt, tt)
lost-apart false number = tt

send-apart : (cluster : Cluster) (message : Message) → AllAre IsApart (send_events cluster message)
send-apart cluster message =
    all-kinds IsApart cluster
    (kinds.Message (messages.Sent (cluster.facts.sent + 1) message)
    ∷ lost_at_once (nat_le most_in_flight (length cluster.facts.flight)) (cluster.facts.sent + 1))
    (tt, lost-apart (nat_le most_in_flight (length cluster.facts.flight)) (cluster.facts.sent + 1))

-- the key store answers
decision-apart : (cluster : Cluster) (number : ℕ) (message : Message) (txn : Txn) (decision : Decision) (from : LinkEnd)
    → AllAre IsApart (decision_events cluster number message txn decision from)
decision-apart cluster number message txn decision ends.Store = tt
decision-apart cluster number message txn Grant (ends.Member by) =
    (tt, send-apart _ (answer_message message (decision_body number txn Grant)))
decision-apart cluster number message txn (Refusal key found) (ends.Member by) =
    (tt, send-apart _ (answer_message message (decision_body number txn (Refusal key found))))

pub answer-apart : (cluster : Cluster) (number : ℕ) (message : Message) (body : Body)
    → AllAre IsApart (answer_events_by cluster number message body)
answer-apart cluster number message bodies.Read = send-apart cluster (answer_message message bodies.Snapshot)
answer-apart cluster number message (bodies.Request txn) =
    decision-apart cluster number message txn (decision_on cluster.facts.keys cluster.facts.clock txn) message.from
answer-apart cluster number message _ = tt

-- ---- that a server lacks commits
loss-apart : (member : Member) (test : Bool) → AllKinds IsApart (kinds_of (loss_if member test))
loss-apart member true = (tt, tt)
loss-apart member false = tt

-- ---- what an output of an agent comes to that tells no operator anything
abbrev pub IsSilent : Output → Type 0
IsSilent (outputs.Tell (tellings.Told request told)) = ⊥
IsSilent _ = Unit {0}

silent-answer : (telling : Telling) → IsSilent (outputs.Tell telling) → IsAnswer telling → ⊥
silent-answer (tellings.Told request told) is answers = is
silent-answer tellings.ClaimsOutsideSync is answers = answers
silent-answer _ is answers = answers

noted-apart : (note : Note) → IsNoted note → IsApart (kinds.Note note)
noted-apart (notes.Answered by status json body) noted = absurd noted
noted-apart _ noted = tt

orders-apart : (member : Member) (order : ServerOrder) → HoldsOfOrder IsApart member order
orders-apart member order = record {
  begins = λ is timeline. tt;
  lacks = λ is. tt;
  starts_as_primary = λ is. tt;
  starts_as_replica = tt;
  follows = λ leader. tt;
  says = λ reason. tt;
  ends = λ is. tt;
  stops = λ is. tt;
  wiped = λ is. tt;
  rewound = λ is leader r. tt;
  copied = λ is leader. tt;
}

feedings-apart : (member : Member) → HoldsOfFeedings IsApart member
feedings-apart member = record {
  measured = λ since. tt;
  armed = λ until answer. tt;
  fed = λ until basis. tt;
  disarmed = tt;
}

pub output-apart : (member : Member) (heard : HeardMessage) (cluster : Cluster) (output : Output)
    → IsSilent output → AllAre IsApart (output_events member heard cluster output)
output-apart member heard cluster (outputs.Message written) is = message-holds IsApart cluster member
    (record { sent = λ target to found incarnation sequence body. tt; lost = tt }) written
output-apart member heard cluster (outputs.Server order) is =
    order-holds IsApart cluster member order (orders-apart member order)
output-apart member heard cluster (outputs.Watchdog fed) is =
    all-kinds IsApart cluster (feeding_kinds member heard fed)
    (feeding-holds IsApart cluster member heard (feedings-apart member) fed)
output-apart member heard cluster (outputs.Require required) is = required-holds IsApart cluster member required tt
output-apart member heard cluster (outputs.Tell telling) is =
    kind-holds IsApart cluster member (telling_kind cluster member heard telling)
    (telling-holds IsApart cluster member heard telling (record {
      answers = λ answers reply. absurd (silent-answer telling is answers);
      holds = λ until incarnation sequence from. tt;
      passes = λ passes. tt;
    }))
output-apart member heard cluster (outputs.Note noting) is =
    (noting-holds IsApart cluster member noted-apart noting, tt)

-- ---- a tick
reset-apart : (cluster : Cluster) (member : Member) → AllAre IsApart (reset_events cluster member)
reset-apart cluster member =
    let found = slice_get cluster.facts.deadlines member.id.number in
    apart-if cluster (option_and_then (reset_of cluster.facts.clock member) found)
    (holds-then IsApart (reset_of cluster.facts.clock member) found
    (λ deadline.
    holds-if IsApart (is_due_at cluster.facts.clock deadline) (kinds.Watchdog (watchdogs.Reset member)) tt))

leader-apart : (holder : Option Member) → AllKinds IsApart (leader_expiry holder)
leader-apart None = tt
leader-apart (Some holder) = (tt, tt)

expiry-apart : (holder : Option Member) (key : Key) → AllKinds IsApart (expiry_of holder key)
expiry-apart holder keys.Leader = leader-apart holder
expiry-apart holder _ = (tt, tt)

expiries-apart : (holder : Option Member) (keys : List Key) → AllKinds IsApart (expiries_of holder keys)
expiries-apart holder [] = tt
expiries-apart holder (key ∷ more) = kinds-both IsApart (expiry_of holder key) (expiries_of holder more)
    (expiry-apart holder key) (expiries-apart holder more)

completed-apart : (member : Member) (acknowledged : List ℕ) (log : Option (List Entry)) (found : Option Completion)
    → AllKinds IsApart (completed_by member acknowledged log found)
completed-apart member acknowledged log None = tt
completed-apart member acknowledged log (Some (completions.Begins timeline)) =
    (tt, loss-apart member (lacks_in (entries_of log) acknowledged))
completed-apart member acknowledged log (Some completions.Ends) = (tt, tt)

completes-apart : (cluster : Cluster) (member : Member) (found : Option ServerFacts)
    → AllAre IsApart
    (for_some found (λ s. events_of cluster (completion_kinds cluster.facts.clock member cluster.facts.acknowledged s)))
completes-apart cluster member None = tt
completes-apart cluster member (Some s) =
    all-kinds IsApart cluster (completion_kinds cluster.facts.clock member cluster.facts.acknowledged s)
    (completed-apart member cluster.facts.acknowledged s.log (completion_of cluster.facts.clock s))

pub tick-apart : (cluster : Cluster) → AllAre IsApart (tick_events cluster)
tick-apart cluster =
    let ticked : Cluster = cluster_after cluster kinds.Tick in
    let resets : List Event = each reset_events ticked ticked.facts.members in
    let reset : Cluster = cluster_over ticked resets in
    let expiries : List Event = events_of reset (next_expiries cluster) in
    let expired : Cluster = cluster_over reset expiries in (
      tt,
      all-both IsApart resets (expiries ++ each completion_events expired expired.facts.members)
          (apart-each reset_events reset-apart ticked ticked.facts.members)
          (all-both IsApart expiries (each completion_events expired expired.facts.members)
          (all-kinds IsApart reset (next_expiries cluster)
          (expiries-apart (declared_member cluster.facts.members
          (expired_holder cluster.facts.keys (cluster.facts.clock + 1)))
          (expired_keys cluster.facts.keys (cluster.facts.clock + 1))))
          (apart-each completion_events
          (λ later member. completes-apart later member (slice_get later.facts.servers member.id.number))
          expired expired.facts.members)),
    )

-- ---- streams
confirm-apart : (cluster : Cluster) (member from : Member) (end : Option Lsn)
    → HoldsIf IsApart (confirm_of member from end)
confirm-apart cluster member from None = tt
confirm-apart cluster member from (Some end) = tt

confirms-apart : (cluster : Cluster) (member from : Member) → AllAre IsApart (confirm_events cluster member from)
confirms-apart cluster member from =
    let end = unconfirmed_end member (slice_get cluster.facts.servers member.id.number)
    (slice_get cluster.facts.servers from.id.number) in
    apart-if cluster (confirm_of member from end) (confirm-apart cluster member from end)

received-apart : (cluster : Cluster) (member from : Member) (news : Option Streamed)
    → AllAre IsApart (receive_events cluster member from news)
received-apart cluster member from None = confirms-apart cluster member from
received-apart cluster member from (Some streams.NotConnected) = tt
received-apart cluster member from (Some (streams.Diverged at)) = (tt, tt)
received-apart cluster member from (Some (streams.Received count)) = (tt, confirms-apart _ member from)

most-apart : (cluster : Cluster) (most : ℕ) (member : Member) (source : Option Member)
    → AllAre IsApart
    (for_some source
    (λ from. receive_events cluster member from (news_at cluster.facts.servers member.id.number from.id.number most)))
most-apart cluster most member None = tt
most-apart cluster most member (Some from) =
    received-apart cluster member from (news_at cluster.facts.servers member.id.number from.id.number most)

thawed-apart : (cluster : Cluster) (member : Member) (found : Option Bool)
    → AllAre IsApart (for_some found (λ frozen. cond frozen [] (receive_events_at_most cluster all_entries member)))
thawed-apart cluster member None = tt
thawed-apart cluster member (Some true) = tt
thawed-apart cluster member (Some false) = most-apart cluster all_entries member
    (source_of cluster.facts.members cluster.facts.servers cluster.facts.cuts member)

pub receive-apart : (cluster : Cluster) (member : Member) → AllAre IsApart (receive_events_of cluster member)
receive-apart cluster member = thawed-apart cluster member (slice_get cluster.facts.frozen member.id.number)

-- ---- acknowledgements
lacked-apart : (commit : ℕ) (member : Member) (found : Option ServerFacts)
    → AllKinds IsApart (loss_of commit member found)
lacked-apart commit member None = tt
lacked-apart commit member (Some s) = loss-apart member (is_lacking commit s)

losses-apart : (commit : ℕ) (known : List ServerFacts) (members : List Member)
    → AllKinds IsApart (losses_of commit known members)
losses-apart commit known [] = tt
losses-apart commit known (member ∷ members) =
    kinds-both IsApart (loss_of commit member (slice_get known member.id.number)) (losses_of commit known members)
    (lacked-apart commit member (slice_get known member.id.number)) (losses-apart commit known members)

commits-apart : (known : List ServerFacts) (members : List Member) (member : Member) (commits : List ℕ)
    → AllKinds IsApart (acknowledgements known members member commits)
commits-apart known members member [] = tt
commits-apart known members member (commit ∷ commits) = (
  tt,
  kinds-both IsApart (losses_of commit known members) (acknowledgements known members member commits)
      (losses-apart commit known members) (commits-apart known members member commits),
)

all-apart : (known : List ServerFacts) (members : List Member) (member : Member) (found : Option ServerFacts)
    → AllKinds IsApart (acknowledge_kinds known members member found)
all-apart known members member None = tt
all-apart known members member (Some s) = commits-apart known members member (ready_commits s)

pub acknowledge-apart : (cluster : Cluster) (member : Member) → AllAre IsApart (acknowledge_events cluster member)
acknowledge-apart cluster member =
    let found = slice_get cluster.facts.servers member.id.number in
    all-kinds IsApart cluster (acknowledge_kinds cluster.facts.servers cluster.facts.members member found)
    (all-apart cluster.facts.servers cluster.facts.members member found)
