-- A round, or a message, that brings nothing.
use Rattle.std.proofs.Common.{◌≡◌, ℕ, ◌<◌, Bool, true, false, List, [], ◌∷◌, ◌++◌, Option, Some, None, refl, ap, sym, ◌∙◌, subst, cond}
use Rattle.std.specs.BTreeMap.{is_at}
use Rattle.std.specs.Map.{keys_of}
use Rattle.std.specs.Ordering.{nat_cmp, is_eq, MatchOrdering}
use Rattle.std.specs.declared.cmp.Ordering.{Ordering}
use Rattle.std.specs.declared.cmp.Ordering.TheVariants.{Less, Equal, Greater}
use Rattle.std.proofs.lemmas.Cmp.{ranked}
use Rattle.std.proofs.lemmas.Option.{none-some}
use Rattle.event_book.specs.declared.event.Event.{Event}
use Rattle.event_book.specs.declared.link.LinkEnd.{LinkEnd}
use Rattle.event_book.specs.declared.link.LinkEnd.TheVariants as link_ends
use Rattle.event_book.specs.Flight.{Flight, InFlightFacts, in_flight}
use Rattle.cluster_model.specs.declared.delivery.Delivery.{Delivery}
use Rattle.cluster_model.specs.declared.delivery.Delivery.TheVariants as deliveries
use Rattle.cluster_model.specs.Cluster.{cluster_over}
use Rattle.cluster_model.specs.Deliveries.{delivery_of}
use Rattle.cluster_model.specs.Messages.{arrival_events_at, message_events_by, message_events, wake_events}
use Rattle.cluster_model.specs.Next.{round_events}
use Rattle.cluster_model.specs.Parts.{for_some, each}
use Rattle.cluster_model.specs.State.{Cluster}

pub no-events : {X : Type 0} (event : Event) (events : List Event) → event ∷ events ≡ [] → X
no-events event events e = absurd (clash e)
  where
    clash : event ∷ events ≡ [] → ⊥
    clash e = cc

pub first-empty : (xs ys : List Event) → xs ++ ys ≡ [] → (xs ≡ []) × (ys ≡ [])
first-empty [] ys e = (refl, e)
first-empty (x ∷ xs) ys e = no-events x (xs ++ ys) e

comes-some : (X : Type 0) (cluster : Cluster) (number : ℕ) (message : InFlightFacts) (to : LinkEnd)
    → arrival_events_at cluster number message to ≡ [] → X
comes-some X cluster number message link_ends.Store e = no-events _ _ e
comes-some X cluster number message (link_ends.Member member) e = no-events _ _ e

held-if : (cluster : Cluster) (number : ℕ) (message : InFlightFacts) (delivery : Delivery)
    → message_events_by cluster number message delivery ≡ [] → delivery ≡ deliveries.Suspended
held-if cluster number message deliveries.Suspended e = refl
held-if cluster number message deliveries.Open e =
    comes-some (deliveries.Open ≡ deliveries.Suspended) cluster number message message.message.to e
held-if cluster number message deliveries.Cut e = no-events _ _ e
held-if cluster number message deliveries.Gone e = no-events _ _ e

-- a message that doesn't move is kept for a receiver that is suspended
still-held : (cluster : Cluster) (number : ℕ) (message : InFlightFacts)
    → in_flight cluster.facts.flight number ≡ Some message → message_events cluster number ≡ []
    → delivery_of cluster.facts.cuts cluster.facts.processes message.message ≡ deliveries.Suspended
still-held cluster number message is none =
    held-if cluster number message (delivery_of cluster.facts.cuts cluster.facts.processes message.message)
    (subst (λ (o : Option InFlightFacts). for_some o
    (λ m. message_events_by cluster number m (delivery_of cluster.facts.cuts cluster.facts.processes m.message)) ≡ [])
    is none)

kept-if : (cluster : Cluster) (number : ℕ) (found : Option InFlightFacts)
    → in_flight cluster.facts.flight number ≡ found
    → ((message : InFlightFacts) → in_flight cluster.facts.flight number ≡ Some message →
    delivery_of cluster.facts.cuts cluster.facts.processes message.message ≡ deliveries.Suspended)
    → for_some found
    (λ m. message_events_by cluster number m (delivery_of cluster.facts.cuts cluster.facts.processes m.message))
    ≡ []
kept-if cluster number None is kept = refl
kept-if cluster number (Some message) is kept = ap (message_events_by cluster number message) (kept message is)

-- and one that is kept doesn't move
pub kept-still : (cluster : Cluster) (number : ℕ)
    → ((message : InFlightFacts) → in_flight cluster.facts.flight number ≡ Some message →
    delivery_of cluster.facts.cuts cluster.facts.processes message.message ≡ deliveries.Suspended)
    → message_events cluster number ≡ []
kept-still cluster number kept = kept-if cluster number (in_flight cluster.facts.flight number) refl kept

no-yes : false ≡ true → ⊥
no-yes e = cc

same-number : (n k : ℕ) (test : Bool) → is_at (nat_cmp n) k ≡ test → test ≡ true → n ≡ k
same-number n k test is passes = by_equal (nat_cmp n k) (ranked n k (nat_cmp n k) refl) (is ∙ passes)
  where
    by_equal : (o : Ordering) → MatchOrdering o (n < k) (n ≡ k) (k < n) → is_eq o ≡ true → n ≡ k
    by_equal Less m e = absurd (no-yes e)
    by_equal Equal m e = m
    by_equal Greater m e = absurd (no-yes e)

found-still : (cluster : Cluster) (entry : ℕ × InFlightFacts) (rest : Option InFlightFacts) (n : ℕ)
    (message : InFlightFacts) (test : Bool) → is_at (nat_cmp n) entry.0 ≡ test
    → message_events cluster entry.0 ≡ [] → (rest ≡ Some message → message_events cluster n ≡ [])
    → cond test (Some entry.1) rest ≡ Some message → message_events cluster n ≡ []
found-still cluster entry rest n message true at none more is =
    ap (message_events cluster) (same-number n entry.0 true at refl) ∙ none
found-still cluster entry rest n message false at none more is = more is

entries-still : (cluster : Cluster) (entries : Flight) → each message_events cluster (keys_of entries) ≡ []
    → (n : ℕ) (message : InFlightFacts) → in_flight entries n ≡ Some message → message_events cluster n ≡ []
entries-still cluster [] none n message is = absurd (none-some message is)
entries-still cluster (entry ∷ entries) none n message is =
    let both = first-empty (message_events cluster entry.0)
    (each message_events (cluster_over cluster (message_events cluster entry.0)) (keys_of entries)) none in
    let rest : each message_events cluster (keys_of entries) ≡ [] =
    ap (λ (es : List Event). each message_events (cluster_over cluster es) (keys_of entries)) (sym both.0) ∙ both.1 in
    found-still cluster entry (in_flight entries n) n message (is_at (nat_cmp n) entry.0) refl both.0
    (λ there. entries-still cluster entries rest n message there) is

-- after a round in which nothing happens all that is in flight is kept
pub round_events-kept : (cluster : Cluster) → round_events cluster ≡ [] → (n : ℕ) (message : InFlightFacts)
    → in_flight cluster.facts.flight n ≡ Some message
    → delivery_of cluster.facts.cuts cluster.facts.processes message.message ≡ deliveries.Suspended
round_events-kept cluster none n message is =
    let woken = each wake_events cluster cluster.facts.members in
    let both = first-empty woken
    (each message_events (cluster_over cluster woken) (keys_of (cluster_over cluster woken).facts.flight)) none in
    let rest : each message_events cluster (keys_of cluster.facts.flight) ≡ [] =
    ap (λ (es : List Event).
    each message_events (cluster_over cluster es) (keys_of (cluster_over cluster es).facts.flight))
    (sym both.0) ∙ both.1 in
    still-held cluster n message is (entries-still cluster cluster.facts.flight rest n message is)
