-- A round passes over messages that are kept.
use Rattle.std.proofs.Common.{◌≡◌, ℕ, ◌+◌, ◌*◌, ◌≤◌, ◌<◌, nat_le, Bool, true, false, List, [], ◌∷◌, ◌++◌, length, filter, Option, Some, None, is_some, arith, refl, ap, sym, ◌∙◌, subst, cond}
use Rattle.std.specs.Prelude.{IfSome}
use Rattle.std.specs.BTreeMap.{is_at}
use Rattle.std.specs.List.{AllByRecursion as ByRecursion}
use Rattle.std.specs.List.Sorted.{IsStrictlySortedBy}
use Rattle.std.specs.Map.{keys_of}
use Rattle.std.specs.Ordering.{nat_cmp, is_eq, MatchOrdering}
use Rattle.std.specs.declared.cmp.Ordering.{Ordering}
use Rattle.std.specs.declared.cmp.Ordering.TheVariants.{Less, Equal, Greater}
use Rattle.std.proofs.lemmas.Bool.Decides.{nat_tests}
use Rattle.std.proofs.lemmas.Cmp.{ranked}
use Rattle.std.proofs.lemmas.Option.{none-some}
use Rattle.event_book.specs.declared.event.Event.{Event}
use Rattle.event_book.specs.Flight.{Flight, InFlightFacts, in_flight}
use Rattle.event_list.specs.Listed.{Listed, ◌+++◌}
use Rattle.event_list.proofs.Appended.{appended-nil}
use Rattle.cluster_model.specs.Cluster.{cluster_over}
use Rattle.cluster_model.specs.Deliveries.{delivery_of}
use Rattle.cluster_model.specs.Limits.{most_in_flight}
use Rattle.cluster_model.specs.Messages.{message_events, message_events_by}
use Rattle.cluster_model.specs.Parts.{each, for_some}
use Rattle.cluster_model.specs.State.{Cluster}
use Rattle.world_model.specs.Emits.{Emits}
use Rattle.world_flight.specs.FlightIndex.{AreNumbered}
use Rattle.world_model.specs.Room.{HasRoom, message_cost}
use Rattle.world_play.proofs.Numbering.{absent-more, absent-over, lesser-apart, message-above, sent-over}
use Rattle.world_model.proofs.Rest.{Left, Left-end, Left-more}
use Rattle.world_model.proofs.Rooms.{HasRoom-fewer}

-- the numbers of the messages in flight from this one on
abbrev pub numbers_from : ℕ → Flight → List ℕ
numbers_from from flight = keys_of (filter (λ entry. nat_le from entry.0) flight)

-- ---- tests
at-most : (a b : ℕ) → nat_le a b ≡ true → a ≤ b
at-most a b e = grind (arith, nat_tests)

above-test : (a b : ℕ) → nat_le a b ≡ false → b < a
above-test a b e = grind (arith, nat_tests)

passes : (a b : ℕ) → a ≤ b → nat_le a b ≡ true
passes a b h = grind (arith, nat_tests)

fails : (a b : ℕ) → b < a → nat_le a b ≡ false
fails a b h = grind (arith, nat_tests)

no-yes : false ≡ true → ⊥
no-yes e = cc

not-less : Equal ≡ Less → ⊥
not-less e = cc

greater : Greater ≡ Less → ⊥
greater e = cc

-- ---- entries in the order of their numbers
by-less : (n y : ℕ) (o : Ordering) → MatchOrdering o (n < y) (n ≡ y) (y < n) → o ≡ Less → n < y
by-less n y Less m e = m
by-less n y Equal m e = absurd (not-less e)
by-less n y Greater m e = absurd (greater e)

behind : (from n : ℕ) (more : List ℕ) → from ≤ n + 1 → ByRecursion (λ y. nat_cmp n y ≡ Less) more
    → ByRecursion (λ y. from ≤ y) more
behind from n [] low all = tt
behind from n (y ∷ more) low all =
    let later = by-less n y (nat_cmp n y) (ranked n y (nat_cmp n y) refl) all.0 in
    (omega (arith, low, later), behind from n more low all.1)

all-from : (from : ℕ) (entries : Flight) → ByRecursion (λ y. from ≤ y) (keys_of entries)
    → filter (λ entry. nat_le from entry.0) entries ≡ entries
all-from from [] above = refl
all-from from (entry ∷ entries) above =
    ap (λ (b : Bool). cond b (entry ∷ filter (λ e. nat_le from e.0) entries) (filter (λ e. nat_le from e.0) entries))
    (passes from entry.0 above.0)
    ∙ ap (λ (es : Flight). entry ∷ es) (all-from from entries above.1)

from-zero : (numbers : List ℕ) → ByRecursion (λ y. 0 ≤ y) numbers
from-zero [] = tt
from-zero (n ∷ numbers) = (omega arith, from-zero numbers)

keys-long : (entries : Flight) → length (keys_of entries) ≡ length entries
keys-long [] = refl
keys-long (entry ∷ entries) = omega (arith, keys-long entries)

fewer-if : (entry : ℕ × InFlightFacts) (more less : Flight) (first second : Bool)
    → (second ≡ true → first ≡ true) → length (keys_of less) ≤ length (keys_of more)
    → length (keys_of (cond second (entry ∷ less) less)) ≤ length (keys_of (cond first (entry ∷ more) more))
fewer-if entry more less true true both few = omega (arith, few)
fewer-if entry more less true false both few = omega (arith, few)
fewer-if entry more less false true both few = absurd (no-yes (both refl))
fewer-if entry more less false false both few = few

-- of those from a greater number on there are fewer
numbers-fewer : (from upto : ℕ) (entries : Flight) → from ≤ upto
    → length (numbers_from upto entries) ≤ length (numbers_from from entries)
numbers-fewer from upto [] low = omega arith
numbers-fewer from upto (entry ∷ entries) low =
    fewer-if entry (filter (λ e. nat_le from e.0) entries) (filter (λ e. nat_le upto e.0) entries)
    (nat_le from entry.0) (nat_le upto entry.0)
    (λ e. let above = at-most upto entry.0 e in passes from entry.0 (omega (arith, low, above)))
    (numbers-fewer from upto entries low)

-- ---- messages that stay where they are
one-still : (cluster : Cluster) (number : ℕ) (more : List ℕ) → message_events cluster number ≡ []
    → each message_events cluster (number ∷ more) ≡ each message_events cluster more
one-still cluster number more none =
    ap (λ (es : List Event). es ++ each message_events (cluster_over cluster es) more) none

skip-if : (cluster : Cluster) (from upto : ℕ) (entry : ℕ × InFlightFacts) (entries : Flight) (first second : Bool)
    → nat_le from entry.0 ≡ first → nat_le upto entry.0 ≡ second → from ≤ upto
    → ByRecursion (λ y. nat_cmp entry.0 y ≡ Less) (keys_of entries)
    → ((k : ℕ) → from ≤ k → k < upto → message_events cluster k ≡ [])
    → each message_events cluster (numbers_from from entries) ≡ each message_events cluster (numbers_from upto entries)
    → each message_events cluster
    (keys_of (cond first (entry ∷ filter (λ e. nat_le from e.0) entries) (filter (λ e. nat_le from e.0) entries)))
    ≡ each message_events cluster
    (keys_of (cond second (entry ∷ filter (λ e. nat_le upto e.0) entries) (filter (λ e. nat_le upto e.0) entries)))
skip-if cluster from upto entry entries true true is is_too low sorted still rest =
    let a = at-most from entry.0 is in
    let b = at-most upto entry.0 is_too in
    ap (λ (es : Flight). each message_events cluster (entry.0 ∷ keys_of es))
    (all-from from entries (behind from entry.0 (keys_of entries) (omega (arith, a)) sorted)
    ∙ sym (all-from upto entries (behind upto entry.0 (keys_of entries) (omega (arith, b)) sorted)))
skip-if cluster from upto entry entries true false is is_too low sorted still rest =
    one-still cluster entry.0 (numbers_from from entries)
    (still entry.0 (at-most from entry.0 is) (above-test upto entry.0 is_too))
    ∙ rest
skip-if cluster from upto entry entries false true is is_too low sorted still rest =
    let a = above-test from entry.0 is in
    let b = at-most upto entry.0 is_too in
    absurd (omega (arith, low, a, b))
skip-if cluster from upto entry entries false false is is_too low sorted still rest = rest

-- needn't be looked at
skip : (cluster : Cluster) (from upto : ℕ) (entries : Flight) → IsStrictlySortedBy nat_cmp (keys_of entries)
    → from ≤ upto → ((k : ℕ) → from ≤ k → k < upto → message_events cluster k ≡ [])
    → each message_events cluster (numbers_from from entries) ≡ each message_events cluster (numbers_from upto entries)
unfolding IsStrictlySortedBy
skip cluster from upto [] sorted low still = refl
skip cluster from upto (entry ∷ entries) sorted low still =
    skip-if cluster from upto entry entries (nat_le from entry.0)
    (nat_le upto entry.0) refl refl low sorted.0 still (skip cluster from upto entries sorted.1 low still)

-- ---- the next number
abbrev Here : ℕ → ℕ × InFlightFacts → Flight → Bool → Bool → Bool → Type 0
Here n entry more at low high =
    let rest =
    keys_of (cond high (entry ∷ filter (λ e. nat_le (n + 1) e.0) more) (filter (λ e. nat_le (n + 1) e.0) more)) in
    keys_of (cond low (entry ∷ filter (λ e. nat_le n e.0) more) (filter (λ e. nat_le n e.0) more))
    ≡ cond (is_some (cond at (Some entry.1) (in_flight more n))) (n ∷ rest) rest

here-at : (n : ℕ) (entry : ℕ × InFlightFacts) (more : Flight) (at low high a b c : Bool) → a ≡ at → b ≡ low
    → c ≡ high → Here n entry more at low high → Here n entry more a b c
here-at n entry more at low high a b c first second third is =
    subst (λ x. Here n entry more x b c) (sym first)
    (subst (λ x. Here n entry more at x c) (sym second) (subst (λ x. Here n entry more at low x) (sym third) is))

absent-behind : (n : ℕ) (entries : Flight) → ByRecursion (λ y. n + 1 ≤ y) (keys_of entries) → in_flight entries n ≡ None
absent-behind n [] above = refl
absent-behind n (entry ∷ entries) above = absent-more (is_at (nat_cmp n) entry.0) entry.1
    (in_flight entries n) (lesser-apart n entry.0 (omega (arith, above.0))) (absent-behind n entries above.1)

is-equal : (o : Ordering) (n k : ℕ) → MatchOrdering o (n < k) (n ≡ k) (k < n) → n ≡ k → is_eq o ≡ true
is-equal Less n k m e = absurd (omega (arith, m, e))
is-equal Equal n k m e = refl
is-equal Greater n k m e = absurd (omega (arith, m, e))

at-itself : (n k : ℕ) → n ≡ k → is_at (nat_cmp n) k ≡ true
at-itself n k e = is-equal (nat_cmp n k) n k (ranked n k (nat_cmp n k) refl) e

greater-apart : (o : Ordering) (n k : ℕ) → MatchOrdering o (n < k) (n ≡ k) (k < n) → k < n → is_eq o ≡ false
greater-apart Less n k m above = refl
greater-apart Equal n k m above = absurd (omega (arith, m, above))
greater-apart Greater n k m above = refl

here-by : (n : ℕ) (entry : ℕ × InFlightFacts) (more : Flight) (o : Ordering)
    → MatchOrdering o (n < entry.0) (n ≡ entry.0) (entry.0 < n)
    → ByRecursion (λ y. nat_cmp entry.0 y ≡ Less) (keys_of more)
    → numbers_from n more
    ≡ cond (is_some (in_flight more n)) (n ∷ numbers_from (n + 1) more) (numbers_from (n + 1) more)
    → Here n entry more (is_at (nat_cmp n) entry.0) (nat_le n entry.0) (nat_le (n + 1) entry.0)
here-by n entry more Less m sorted later =
    let above = behind (n + 1) entry.0 (keys_of more) (omega (arith, m)) sorted in
    let none = absent-behind n more above in
    let both : ◌≡◌ {A = List ℕ} (entry.0 ∷ numbers_from n more) (entry.0 ∷ numbers_from (n + 1) more) =
    ap (λ (es : Flight). entry.0 ∷ keys_of es)
    (all-from n more (behind n entry.0 (keys_of more) (omega (arith, m)) sorted) ∙ sym (all-from (n + 1) more above)) in
    here-at n entry more false true true _ _ _ (lesser-apart n entry.0 m)
    (passes n entry.0 (omega (arith, m))) (passes (n + 1) entry.0 (omega (arith, m)))
    (both
    ∙ ap (λ (o : Option InFlightFacts).
    cond (is_some o) (n ∷ entry.0 ∷ numbers_from (n + 1) more) (entry.0 ∷ numbers_from (n + 1) more))
    (sym none))
here-by n entry more Equal m sorted later =
    let both = all-from n more (behind n entry.0 (keys_of more) (omega (arith, m)) sorted)
    ∙ sym (all-from (n + 1) more (behind (n + 1) entry.0 (keys_of more) (omega (arith, m)) sorted)) in
    here-at n entry more true true false _ _ _ (at-itself n entry.0 m) (passes n entry.0 (omega (arith, m)))
    (fails (n + 1) entry.0 (omega (arith, m)))
    (ap (λ (es : Flight). entry.0 ∷ keys_of es) both ∙ ap (λ (k : ℕ). k ∷ numbers_from (n + 1) more) (sym m))
here-by n entry more Greater m sorted later =
    here-at n entry more false false false _ _ _
    (greater-apart (nat_cmp n entry.0) n entry.0 (ranked n entry.0 (nat_cmp n entry.0) refl) m)
    (fails n entry.0 m) (fails (n + 1) entry.0 (omega (arith, m))) later

-- it is the first of those from it on, if there is a message of this number
first-here : (n : ℕ) (entries : Flight) → IsStrictlySortedBy nat_cmp (keys_of entries)
    → numbers_from n entries
    ≡ cond (is_some (in_flight entries n)) (n ∷ numbers_from (n + 1) entries) (numbers_from (n + 1) entries)
unfolding IsStrictlySortedBy
first-here n [] sorted = refl
first-here n (entry ∷ entries) sorted = here-by n entry entries (nat_cmp n entry.0)
    (ranked n entry.0 (nat_cmp n entry.0) refl) sorted.0 (first-here n entries sorted.1)

-- ---- past the last number
numbered-tail : (last : ℕ) (entry : ℕ × InFlightFacts) (entries : Flight) → AreNumbered last (entry ∷ entries)
    → AreNumbered last entries
numbered-tail last entry entries numbered n message is = by (is_at (nat_cmp n) entry.0) refl
  where
    by : (test : Bool) → is_at (nat_cmp n) entry.0 ≡ test → n ≤ last
    by true e = numbered n entry.1 (ap (λ b. cond b (Some entry.1) (in_flight entries n)) e)
    by false e = numbered n message (ap (λ b. cond b (Some entry.1) (in_flight entries n)) e ∙ is)

none-past : (last : ℕ) (entries : Flight) → AreNumbered last entries → numbers_from (last + 1) entries ≡ []
none-past last [] numbered = refl
none-past last (entry ∷ entries) numbered =
    let low = numbered entry.0 entry.1
    (ap (λ b. cond b (Some entry.1) (in_flight entries entry.0)) (at-itself entry.0 entry.0 refl)) in
    ap (λ (b : Bool). keys_of
    (cond b (entry ∷ filter (λ e. nat_le (last + 1) e.0) entries) (filter (λ e. nat_le (last + 1) e.0) entries)))
    (fails (last + 1) entry.0 (omega (arith, low)))
    ∙ none-past last entries (numbered-tail last entry entries numbered)

-- ---- a round on its way
-- the messages with numbers from this one on are still to move; those
-- that were sent meanwhile have greater numbers than the last
pub record IsPassing (start cluster : Cluster) (had has : Listed) (from last : ℕ) : Type 0 where
  pub left : Left start cluster had has (each message_events start (keys_of start.facts.flight))
      (each message_events cluster (numbers_from from start.facts.flight)) (message_cost * most_in_flight)
      (message_cost * length (numbers_from from start.facts.flight))
  pub within : from ≤ last + 1
  pub low : last ≤ cluster.facts.sent
  pub absent : (n : ℕ) → n ≤ last → in_flight start.facts.flight n ≡ None → in_flight cluster.facts.flight n ≡ None

pub passing-start : (start : Cluster) (had : Listed) (last : ℕ) → last ≡ start.facts.sent
    → length start.facts.flight ≤ most_in_flight → IsPassing start start had had 0 last
passing-start start had last is few =
    let all : numbers_from 0 start.facts.flight ≡ keys_of start.facts.flight =
    ap keys_of (all-from 0 start.facts.flight (from-zero (keys_of start.facts.flight))) in
    let count : length (numbers_from 0 start.facts.flight) ≡ length start.facts.flight = ap length all
    ∙ keys-long start.facts.flight in
    record {
      left = record {
        state = ap (λ ns. cluster_over start (each message_events start ns)) all;
        event = ap (λ ns. had +++ each message_events start ns) all;
        room = λ more room. HasRoom-fewer start (message_cost * most_in_flight + more)
            (message_cost * length (numbers_from 0 start.facts.flight) + more) (omega (arith, count, few)) room;
      };
      within = omega arith;
      low = omega (arith, is);
      absent = λ n low none. none;
    }

-- those before the next one are passed over
pub passing-skip : (start cluster : Cluster) (had has : Listed) (from upto last : ℕ)
    → IsPassing start cluster had has from last → IsStrictlySortedBy nat_cmp (keys_of start.facts.flight)
    → from ≤ upto → upto ≤ last + 1
    → ((k : ℕ) → from ≤ k → k < upto → message_events cluster k ≡ []) → IsPassing start cluster had has upto last
passing-skip start cluster had has from upto last p sorted low high still =
    let same = skip cluster from upto start.facts.flight sorted low still in
    let few = numbers-fewer from upto start.facts.flight low in
    record {
      left = record {
        state = ap (cluster_over cluster) (sym same) ∙ p.left.state;
        event = ap (λ es. has +++ es) (sym same) ∙ p.left.event;
        room = λ more room. HasRoom-fewer cluster (message_cost * length (numbers_from from start.facts.flight) + more)
            (message_cost * length (numbers_from upto start.facts.flight) + more) (omega (arith, few))
            (p.left.room more room);
      };
      within = high;
      low = p.low;
      absent = p.absent;
    }

-- the message of a number, or none, and then those behind it
here-found : (n : ℕ) (entries : Flight) (found : Option InFlightFacts)
    → IsStrictlySortedBy nat_cmp (keys_of entries) → in_flight entries n ≡ found
    → numbers_from n entries ≡ cond (is_some found) (n ∷ numbers_from (n + 1) entries) (numbers_from (n + 1) entries)
here-found n entries found sorted is = first-here n entries sorted
    ∙ ap (λ (o : Option InFlightFacts).
    cond (is_some o) (n ∷ numbers_from (n + 1) entries) (numbers_from (n + 1) entries))
    is

room-if : (start cluster : Cluster) (had has : Listed) (n last : ℕ) (found later : Option InFlightFacts)
    → in_flight start.facts.flight n ≡ found → IsPassing start cluster had has n last
    → IsStrictlySortedBy nat_cmp (keys_of start.facts.flight)
    → HasRoom start (message_cost * most_in_flight) → (found ≡ None → later ≡ None)
    → IfSome later (λ m. HasRoom cluster message_cost)
room-if start cluster had has n last found None is p sorted room gone = tt
room-if start cluster had has n last None (Some m) is p sorted room gone = absurd (none-some m (sym (gone refl)))
room-if start cluster had has n last (Some message) (Some m) is p sorted room gone =
    let here = here-found n start.facts.flight (Some message) sorted is in
    HasRoom-fewer cluster (message_cost * length (numbers_from n start.facts.flight) + 0) message_cost
    (omega (arith, ap length here))
    (p.left.room 0
    (HasRoom-fewer start (message_cost * most_in_flight) (message_cost * most_in_flight + 0) (omega arith) room))

-- there is room for one that is in flight
pub passing-room : (start cluster : Cluster) (had has : Listed) (n last : ℕ) → IsPassing start cluster had has n last
    → IsStrictlySortedBy nat_cmp (keys_of start.facts.flight) → n ≤ last → HasRoom start (message_cost * most_in_flight)
    → IfSome (in_flight cluster.facts.flight n) (λ m. HasRoom cluster message_cost)
passing-room start cluster had has n last p sorted low room =
    room-if start cluster had has n last (in_flight start.facts.flight n)
    (in_flight cluster.facts.flight n) refl p sorted room (λ none. p.absent n low none)

moved-if : (start cluster next : Cluster) (had has longer : Listed) (n last : ℕ) (found : Option InFlightFacts)
    → in_flight start.facts.flight n ≡ found → IsPassing start cluster had has n last
    → IsStrictlySortedBy nat_cmp (keys_of start.facts.flight) → n ≤ last
    → Emits cluster next has longer (message_events cluster n) message_cost
    → Left start next had longer (each message_events start (keys_of start.facts.flight))
    (each message_events next (numbers_from (n + 1) start.facts.flight)) (message_cost * most_in_flight)
    (message_cost * length (numbers_from (n + 1) start.facts.flight))
moved-if start cluster next had has longer n last (Some message) is p sorted low took =
    let here = here-found n start.facts.flight (Some message) sorted is in
    Left-more start cluster next had has longer (each message_events start (keys_of start.facts.flight))
    (message_events cluster n) (λ later. each message_events later (numbers_from (n + 1) start.facts.flight))
    (each message_events cluster (numbers_from n start.facts.flight)) (message_cost * most_in_flight)
    (message_cost * length (numbers_from n start.facts.flight)) message_cost
    (message_cost * length (numbers_from (n + 1) start.facts.flight)) p.left
    (ap (each message_events cluster) here) took (omega (arith, ap length here))
moved-if start cluster next had has longer n last None is p sorted low took =
    let here = here-found n start.facts.flight None sorted is in
    let nothing : message_events cluster n ≡ [] =
    ap (λ (o : Option InFlightFacts).
    for_some o (λ m. message_events_by cluster n m (delivery_of cluster.facts.cuts cluster.facts.processes m.message)))
    (p.absent n low is) in
    let same : next ≡ cluster = took.state ∙ ap (cluster_over cluster) nothing in
    let written : longer ≡ has = took.event ∙ ap (λ es. has +++ es) nothing ∙ appended-nil has in
    subst (λ (c : Cluster). Left start c had longer (each message_events start (keys_of start.facts.flight))
    (each message_events c (numbers_from (n + 1) start.facts.flight)) (message_cost * most_in_flight)
    (message_cost * length (numbers_from (n + 1) start.facts.flight)))
    (sym same)
    (subst (λ (es : Listed). Left start cluster had es (each message_events start (keys_of start.facts.flight))
    (each message_events cluster (numbers_from (n + 1) start.facts.flight)) (message_cost * most_in_flight)
    (message_cost * length (numbers_from (n + 1) start.facts.flight)))
    (sym written)
    (subst (λ (ns : List ℕ). Left start cluster had has (each message_events start (keys_of start.facts.flight))
    (each message_events cluster ns) (message_cost * most_in_flight) (message_cost * length ns))
    here p.left))

-- and it moves
pub passing-more : (start cluster next : Cluster) (had has longer : Listed) (n last : ℕ)
    → IsPassing start cluster had has n last → IsStrictlySortedBy nat_cmp (keys_of start.facts.flight) → n ≤ last
    → Emits cluster next has longer (message_events cluster n) message_cost
    → IsPassing start next had longer (n + 1) last
passing-more start cluster next had has longer n last p sorted low took =
    let above = message-above last cluster n p.low in
    record {
      left = moved-if start cluster next had has longer n last (in_flight start.facts.flight n) refl p sorted low took;
      within = omega (arith, low);
      low = subst (λ (c : Cluster). last ≤ c.facts.sent) (sym took.state)
          (sent-over last cluster (message_events cluster n) above p.low);
      absent = λ k below none. subst (λ (c : Cluster). in_flight c.facts.flight k ≡ None) (sym took.state)
          (absent-over last cluster (message_events cluster n) k above below (p.absent k below none));
    }

-- none is left that may move
pub passing-end : (start cluster : Cluster) (had has : Listed) (from last : ℕ)
    → IsPassing start cluster had has from last → IsStrictlySortedBy nat_cmp (keys_of start.facts.flight)
    → AreNumbered last start.facts.flight
    → ((k : ℕ) → from ≤ k → k ≤ last → message_events cluster k ≡ [])
    → Emits start cluster had has (each message_events start (keys_of start.facts.flight))
    (message_cost * most_in_flight)
passing-end start cluster had has from last p sorted numbered still =
    let past = passing-skip start cluster had has from (last + 1) last p sorted p.within (omega arith)
    (λ k low high. still k low (omega (arith, high))) in
    Left-end _ _ _ _ _ _ _ _ past.left (ap (each message_events cluster) (none-past last start.facts.flight numbered))
