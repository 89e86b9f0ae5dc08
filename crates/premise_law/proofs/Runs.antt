-- In each run whoever is fed by a grant acts on its own, and whoever
-- leads outside the sync key has read that this doesn't name it.
use Rattle.std.proofs.Common.{ℕ, ◌≡◌, ◌⊎◌, ◌++◌, Bool, true, false, List, [], ◌∷◌, refl, ◌∙◌, ap, sym, subst, append_assoc, append-nil, inl, inr}
use Rattle.pat_base.specs.declared.name.Name.{Name}
use Rattle.pat_base.specs.declared.ticks.Ticks.{Ticks}
use Rattle.store_keys.specs.declared.txn.Txn.{Txn}
use Rattle.lease_store.specs.Decision.{Decision, Grant, Refusal, decision_on}
use Rattle.lease_store.specs.Writes.{is_lease}
use Rattle.lease_store.specs.declared.granted.Granted.{Granted}
use Rattle.script_model.specs.Script.{HeadText}
use Rattle.event_book.specs.declared.event.AgentEvent.TheVariants as agents
use Rattle.event_book.specs.declared.event.Event.{Event}
use Rattle.event_book.specs.declared.event.EventKind.{EventKind}
use Rattle.event_book.specs.declared.event.EventKind.TheVariants as kinds
use Rattle.event_book.specs.declared.event.MessageEvent.TheVariants as messages
use Rattle.event_book.specs.declared.event.StoreEvent.TheVariants as stores
use Rattle.event_book.specs.declared.event.WatchdogEvent.TheVariants as watchdogs
use Rattle.event_book.specs.declared.link.LinkEnd.{LinkEnd}
use Rattle.event_book.specs.declared.link.LinkEnd.TheVariants as ends
use Rattle.event_book.specs.declared.member.Member.{Member}
use Rattle.event_book.specs.declared.message.Body.{Body}
use Rattle.event_book.specs.declared.message.Body.TheVariants as bodies
use Rattle.event_book.specs.declared.message.Message.{Message}
use Rattle.agent_model.specs.Table.{step}
use Rattle.cluster_model.specs.Cluster.{cluster_over}
use Rattle.cluster_model.specs.Messages.{answer_events_by, answer_message, decision_body, decision_events, lost_at_once, send_events}
use Rattle.cluster_model.specs.Parts.{each, events_of}
use Rattle.cluster_model.specs.Starting.{cluster_of}
use Rattle.cluster_model.specs.State.{Cluster}
use Rattle.run_promise.specs.Promise.{IsComposable, Promise, Upholds}
use Rattle.run_promise.proofs.Upholding.{over-append}
use Rattle.sync_order.specs.Order.{has}
use Rattle.premise_law.specs.Feeding.{FeedsOnItsGrant}
use Rattle.premise_law.specs.Passing.{PassesOutside}
use Rattle.premise_law.proofs.Untold.{AreUntold, IsUntold}

-- ---- a message that tells that a request was granted stands behind that grant
pub record IsOfGrant (front : List Event) (message : Message) (request : ℕ) (leased : Bool) : Type 0 where
  pub earlier : List Event
  pub tick : Ticks
  pub by : Member
  pub txn : Txn
  pub standbys : List Name
  pub is : front ≡ earlier ++ record { tick = tick; kind = kinds.Store (stores.Granted request by txn standbys) } ∷ []
  pub from : message.from ≡ ends.Store
  pub to : message.to ≡ ends.Member by
  pub leases : is_lease txn ≡ leased

abbrev pub TellsGrant : List Event → Message → Body → Type 0
TellsGrant front message (bodies.Granted request leased) = IsOfGrant front message request leased
TellsGrant front message _ = Unit {0}

abbrev pub SendsGrant : List Event → EventKind → Type 0
SendsGrant front (kinds.Message (messages.Sent number message)) = TellsGrant front message message.body
SendsGrant front _ = Unit {0}

-- ---- what is said of an event behind the others
pub record Says (head : HeadText) (front : List Event) (kind : EventKind) : Type 0 where
  pub feeds : FeedsOnItsGrant front kind
  pub passes : PassesOutside head front kind
  pub sends : SendsGrant front kind

-- and of each of these events, behind those
abbrev pub AreSaid : HeadText → List Event → List Event → Type 0
AreSaid head front [] = Unit {0}
AreSaid head front (event ∷ events) = Says head front event.kind × AreSaid head (front ++ event ∷ []) events

-- and of each event of a book
abbrev pub AllSaid : HeadText → List Event → Type 0
AllSaid head book = (front rest : List Event) (event : Event) → front ++ event ∷ rest ≡ book
    → Says head front event.kind

first-is : (x y : Event) (xs ys : List Event) → x ∷ xs ≡ y ∷ ys → x ≡ y
first-is x y xs ys e = cc

tail-is : (x y : Event) (xs ys : List Event) → x ∷ xs ≡ y ∷ ys → xs ≡ ys
tail-is x y xs ys e = cc

no-cons : (x : Event) (xs : List Event) → x ∷ xs ≡ [] → ⊥
no-cons x xs e = cc

pub no-more : (xs : List Event) (x : Event) (ys : List Event) → xs ++ x ∷ ys ≡ [] → ⊥
no-more [] x ys e = no-cons x ys e
no-more (y ∷ xs) x ys e = no-cons y (xs ++ x ∷ ys) e

-- an event of a book with one more behind it stands before that, or is it
last-or : (front rest book : List Event) (event last : Event) → front ++ event ∷ rest ≡ book ++ last ∷ []
    → ((before : List Event) × (front ++ event ∷ before ≡ book)) ⊎ ((front ≡ book) × (event ≡ last))
last-or [] rest [] event last e = inr (refl, first-is event last rest [] e)
last-or [] rest (b ∷ book) event last e =
    inl (book, ap (λ (x : Event). x ∷ book) (first-is event b rest (book ++ last ∷ []) e))
last-or (f ∷ front) rest [] event last e =
    absurd (no-more front event rest (tail-is f last (front ++ event ∷ rest) [] e))
last-or (f ∷ front) rest (b ∷ book) event last e =
    let heads : f ≡ b = first-is f b (front ++ event ∷ rest) (book ++ last ∷ []) e in
    elim (last-or front rest book event last (tail-is f b (front ++ event ∷ rest) (book ++ last ∷ []) e)) [
      | inl found ↦ inl (
        found.0,
        ap (λ (x : Event). x ∷ (front ++ event ∷ found.0)) heads
            ∙ ap (λ (l : List Event). b ∷ l) found.1,
      )
      | inr here ↦ inr (ap (λ (x : Event). x ∷ front) heads ∙ ap (λ (l : List Event). b ∷ l) here.0, here.1)
    ]

all-one : (head : HeadText) (book : List Event) (last : Event) → AllSaid head book → Says head book last.kind
    → AllSaid head (book ++ last ∷ [])
all-one head book last all said front rest event e = elim (last-or front rest book event last e) [
  | inl found ↦ all front found.0 event found.1
  | inr here ↦ subst (λ (x : Event). Says head front x.kind) (sym here.1)
      (subst (λ (l : List Event). Says head l last.kind) (sym here.0) said)
]

all-more-said : (head : HeadText) (book events : List Event) → AllSaid head book → AreSaid head book events
    → AllSaid head (book ++ events)
all-more-said head book [] all said =
    subst (AllSaid head) (sym (append-nil book)) all
all-more-said head book (event ∷ events) all said =
    subst (AllSaid head) (append_assoc book (event ∷ []) events)
    (all-more-said head (book ++ event ∷ []) events (all-one head book event all said.0) said.1)

pub said-both : (head : HeadText) (front xs ys : List Event) → AreSaid head front xs → AreSaid head (front ++ xs) ys
    → AreSaid head front (xs ++ ys)
said-both head front [] ys first second = subst (λ (l : List Event). AreSaid head l ys) (append-nil front) second
said-both head front (x ∷ xs) ys first second = (
  first.0,
  said-both head (front ++ x ∷ []) xs ys first.1
      (subst (λ (l : List Event). AreSaid head l ys) (sym (append_assoc front (x ∷ []) xs)) second),
)

-- ---- events of which there is nothing to say
untold-says : (head : HeadText) (front : List Event) (kind : EventKind) → IsUntold kind → Says head front kind
untold-says head front (kinds.Message (messages.Sent number message)) is = absurd is
untold-says head front (kinds.Watchdog (watchdogs.Armed member until answer)) is = absurd is
untold-says head front (kinds.Watchdog (watchdogs.Fed member until basis)) is = absurd is
untold-says head front (kinds.Agent (agents.Passed member)) is = absurd is
untold-says head front _ is = record { feeds = tt; passes = tt; sends = tt }

pub untold-said : (head : HeadText) (front events : List Event) → AreUntold events → AreSaid head front events
untold-said head front [] all = tt
untold-said head front (event ∷ events) all =
    (untold-says head front event.kind all.0, untold-said head (front ++ event ∷ []) events all.1)

-- ---- the key store
lost-said : (head : HeadText) (front : List Event) (cluster : Cluster) (test : Bool) (number : ℕ)
    → AreUntold (events_of cluster (lost_at_once test number))
lost-said head front cluster true number = (tt, tt)
lost-said head front cluster false number = tt

sends-said : (head : HeadText) (front : List Event) (cluster : Cluster) (message : Message)
    → TellsGrant front message message.body → AreSaid head front (send_events cluster message)
sends-said head front cluster message tells = (
  record { feeds = tt; passes = tt; sends = tells },
  untold-said head _ _ (lost-said head front _ _ _),
)

decision-said : (head : HeadText) (front : List Event) (cluster : Cluster) (number : ℕ) (message : Message) (txn : Txn)
    (decision : Decision) (from : LinkEnd) → message.from ≡ from
    → AreSaid head front (decision_events cluster number message txn decision from)
decision-said head front cluster number message txn decision ends.Store is = tt
decision-said head front cluster number message txn Grant (ends.Member by) is = (
  record { feeds = tt; passes = tt; sends = tt },
  sends-said head _ _ (answer_message message (decision_body number txn Grant)) (record {
    earlier = front;
    tick = _;
    by = by;
    txn = txn;
    standbys = _;
    is = refl;
    from = refl;
    to = is;
    leases = refl;
  }),
)
decision-said head front cluster number message txn (Refusal key found) (ends.Member by) is = (
  record { feeds = tt; passes = tt; sends = tt },
  sends-said head _ _ (answer_message message (decision_body number txn (Refusal key found))) tt,
)

pub answer-said : (head : HeadText) (front : List Event) (cluster : Cluster) (number : ℕ) (message : Message)
    (body : Body)
    → AreSaid head front (answer_events_by cluster number message body)
answer-said head front cluster number message bodies.Read =
    sends-said head front cluster (answer_message message bodies.Snapshot) tt
answer-said head front cluster number message (bodies.Request txn) =
    decision-said head front cluster number message txn
    (decision_on cluster.facts.keys cluster.facts.clock txn) message.from refl
answer-said head front cluster number message _ = tt

-- ---- what holds between two parts of a step
pub record SaidSoFar (head : HeadText) (book : List Event) (cluster : Cluster) : Type 0 where
  pub all : AllSaid head book
  pub left : cluster ≡ cluster_over (cluster_of head) book

abbrev pub said : HeadText → Promise
said head = record { premises = λ book. Unit {0}; moment = λ book. Unit {0}; between = SaidSoFar head }

pub composable : (head : HeadText) → IsComposable (said head)
composable head = record { front = λ front rest meets. tt; now = λ book cluster good. tt }

pub upheld-said : (head : HeadText) (book : List Event) (cluster : Cluster) (events : List Event)
    → SaidSoFar head book cluster → AreSaid head book events → Upholds (said head) book cluster events
upheld-said head book cluster events good are = record {
  inside = λ front rest e meets. tt;
  behind = λ meets. record {
    all = all-more-said head book events good.all are;
    left = ap (λ (c : Cluster). cluster_over c events) good.left ∙ sym (over-append (cluster_of head) book events);
  };
}

pub upheld-untold : (head : HeadText) (book : List Event) (cluster : Cluster) (events : List Event)
    → SaidSoFar head book cluster → AreUntold events → Upholds (said head) book cluster events
upheld-untold head book cluster events good untold =
    upheld-said head book cluster events good (untold-said head book events untold)
