-- Messages in flight.
use Rattle.std.proofs.Common.{◌≡◌, ℕ, ◌+◌, ◌≤◌, ◌<◌, ◌++◌, Bool, true, false, cond, [], ◌∷◌, All, length, length-append, append_assoc, get_or, position, Option, Some, None, IfSome, nat_le, if◌then◌else◌, arith, ap, sym, subst, ◌∙◌}
use Rattle.std.specs.BTreeMap.{insert_entry, is_at}
use Rattle.std.specs.List.{remove}
use Rattle.std.specs.Map.{remove_entry, values_of}
use Rattle.std.specs.Ordering.{nat_cmp}
use Rattle.std.proofs.lemmas.Bool.Decides.{nat_tests}
use Rattle.std.proofs.lemmas.Map.Views.{All-map-remove_entry, All-values-insert_entry, IfSome-lookup_from_All}
use Rattle.event_book.specs.Flight.{Flight, InFlightFacts, in_flight, without_message}
use Rattle.cluster_model.specs.Limits.{most_in_flight}
use Rattle.world_model.specs.Short.{IsSent}
use Rattle.world_flight.specs.Launches.{IsFlight, launched_into}
use Rattle.world_flight.specs.Rising.{RiseTo}
use Rattle.world_flight.proofs.Rising.{first-rest, insert-behind, placed, position-none, rise-append, rise-below, rise-parts, rise-without, without-behind, without-last, without-others, at-itself}

without-shorter : (test : ℕ → Bool) (es : Flight) → length (remove_entry test es) ≤ length es
without-shorter test [] = omega arith
without-shorter test (e ∷ es) = by_test (test e.0) (without-shorter test es)
  where
    by_test : (b : Bool) → length (remove_entry test es) ≤ length es
        → length (cond b es (e ∷ remove_entry test es)) ≤ length (e ∷ es)
    by_test true shorter = omega arith
    by_test false shorter = omega (arith, shorter)

-- without one of them
pub flight-without : (flight : Flight) (n : ℕ) → IsFlight flight → IsFlight (without_message flight n)
flight-without flight n is =
    let shorter = without-shorter (is_at (nat_cmp n)) flight in
    record {
      few = omega (arith, shorter, is.few);
      sent = All-map-remove_entry (is_at (nat_cmp n)) _ IsSent flight is.sent;
      rise = (is.rise.0, rise-without (is_at (nat_cmp n)) 0 is.rise.0 flight is.rise.1);
    }

-- with one more behind them
pub more-flight : (flight : Flight) (n : ℕ) (message : InFlightFacts) → IsFlight flight
    → nat_le most_in_flight (length flight) ≡ false → IsSent message → RiseTo 0 flight n
    → IsFlight (flight ++ (n, message) ∷ [])
more-flight flight n message is room sent rise = record {
  few =
      let fewer : length flight < most_in_flight = grind (arith, nat_tests) in
      omega (arith, fewer, length-append flight ((n, message) ∷ []));
  sent = subst (λ (more : Flight). All IsSent (values_of more)) (insert-behind n 0 n message flight rise (omega arith))
      (All-values-insert_entry nat_cmp n message IsSent flight is.sent sent);
  rise = (n + 1, rise-append 0 n (n + 1) flight ((n, message) ∷ []) rise (omega arith, omega arith));
}

-- the first of the latest goes behind the earlier ones; where it isn't put there it is lost
pub moved-on : (earlier latest rest : Flight) (x : ℕ × InFlightFacts) → IsFlight (earlier ++ latest)
    → 0 < length latest → x ≡ get_or latest 0 x → rest ≡ remove latest 0
    → (insert_entry nat_cmp earlier x.0 x.1 ++ rest ≡ earlier ++ latest)
    × (without_message (earlier ++ latest) x.0 ≡ earlier ++ rest)
moved-on earlier latest rest x is some first others =
    let begins : latest ≡ x ∷ rest = first-rest latest x some first ∙ ap (λ (more : Flight). x ∷ more) (sym others) in
    let parts = rise-parts 0 is.rise.0 earlier (x ∷ rest)
    (subst (λ (row : Flight). RiseTo 0 (earlier ++ row) is.rise.0) begins is.rise.1) in (
      ap (λ (more : Flight). more ++ rest) (insert-behind x.0 0 parts.0 x.1 earlier parts.1.0 parts.1.1.0)
          ∙ append_assoc earlier (x ∷ []) rest ∙ ap (λ (row : Flight). earlier ++ row) (sym begins),
      ap (λ (row : Flight). without_message (earlier ++ row) x.0) begins
          ∙ without-behind x.0 0 parts.0 earlier (x ∷ rest) parts.1.0 parts.1.1.0
          ∙ ap (λ (b : Bool). earlier ++ cond b rest (x ∷ remove_entry (is_at (nat_cmp x.0)) rest)) (at-itself x.0),
    )

pub others-left : (flight : Flight) (n k : ℕ) (message : InFlightFacts) → IsFlight flight
    → in_flight (without_message flight n) k ≡ Some message → in_flight flight k ≡ Some message
others-left flight n k message is there = without-others n k 0 is.rise.0 message flight is.rise.1 there

-- what is found was sent
pub is-sent : (flight : Flight) (n : ℕ) → IsFlight flight → IfSome (in_flight flight n) IsSent
is-sent flight n is = IfSome-lookup_from_All IsSent (is_at (nat_cmp n)) flight is.sent

-- a message that stands in the row of the latest
pub taken-latest : (earlier latest row : Flight) (n place : ℕ) (x : ℕ × InFlightFacts) (found : Option ℕ)
    → IsFlight (earlier ++ latest) → row ≡ latest → found ≡ position (λ e. is_at (nat_cmp n) e.0) row
    → found ≡ Some place → x ≡ get_or latest place x
    → (without_message (earlier ++ latest) n ≡ earlier ++ remove latest place)
    × (in_flight (earlier ++ latest) n ≡ Some x.1)
taken-latest earlier latest row n place x found is same looked here value =
    let at = placed n 0 is.rise.0 earlier latest place x is.rise.1
    (ap (λ (r : Flight). position (λ e. is_at (nat_cmp n) e.0) r) (sym same) ∙ sym looked ∙ here) in
    (at.1, at.0 ∙ ap (λ (entry : ℕ × InFlightFacts). Some entry.1) (sym value))

-- one that doesn't
pub not-latest : (latest row : Flight) (n : ℕ) (found : Option ℕ) → row ≡ latest
    → found ≡ position (λ e. is_at (nat_cmp n) e.0) row → found ≡ None → in_flight latest n ≡ None
not-latest latest row n found same looked none = position-none (is_at (nat_cmp n)) latest
    (ap (λ (r : Flight). position (λ e. is_at (nat_cmp n) e.0) r) (sym same) ∙ sym looked ∙ none)

-- one more behind them is what is launched
pub launched-behind : (flight : Flight) (n : ℕ) (message : InFlightFacts)
    → nat_le most_in_flight (length flight) ≡ false → RiseTo 0 flight n
    → launched_into flight n message ≡ flight ++ (n, message) ∷ []
launched-behind flight n message room rise =
    ap (λ (b : Bool). if b then without_message (insert_entry nat_cmp flight n message) n
    else insert_entry nat_cmp flight n message)
    room
    ∙ insert-behind n 0 n message flight rise (omega arith)

-- where as many are in flight as may be, it is lost
pub launched-full : (flight : Flight) (n : ℕ) (message : InFlightFacts)
    → nat_le most_in_flight (length flight) ≡ true → RiseTo 0 flight n → launched_into flight n message ≡ flight
launched-full flight n message full rise =
    ap (λ (b : Bool). if b then without_message (insert_entry nat_cmp flight n message) n
    else insert_entry nat_cmp flight n message)
    full
    ∙ ap (λ (more : Flight). without_message more n) (insert-behind n 0 n message flight rise (omega arith))
    ∙ without-last n 0 message flight rise

pub newest-rise : (flight : Flight) (n : ℕ) → IsFlight flight
    → ((k : ℕ) (message : InFlightFacts) → in_flight flight k ≡ Some message → k < n) → RiseTo 0 flight n
newest-rise flight n is newest = rise-below 0 is.rise.0 n flight is.rise.1 (omega arith) newest
