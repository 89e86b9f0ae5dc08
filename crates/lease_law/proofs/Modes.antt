-- Failsafe mode is as it is declared: what is carried from event to event.
use Rattle.std.proofs.Common.{ℕ, ◌+◌, Bool, true, false, cond, List, [], ◌∷◌, Option, Some, None, refl, ap, sym, subst}
use Rattle.std.specs.FinMap.{find}
use Rattle.std.specs.Ordering.{nat_cmp, match_ordering}
use Rattle.std.specs.declared.cmp.Ordering.{Ordering}
use Rattle.std.specs.declared.cmp.Ordering.TheVariants.{Less, Equal, Greater}
use Rattle.std.specs.BTreeMap.{insert_entry, is_at}
use Rattle.std.specs.Map.{remove_entry}
use Rattle.pat_base.specs.declared.name.Name.{Name}
use Rattle.pat_base.specs.declared.member_id.MemberId.{MemberId}
use Rattle.store_keys.specs.declared.key.Key.{Key}
use Rattle.store_keys.specs.declared.key.Key.TheVariants as keys
use Rattle.store_keys.specs.declared.txn.Txn.{Txn}
use Rattle.store_keys.specs.declared.txn.Txn.TheVariants as txns
use Rattle.store_keys.specs.declared.txn.OperatorTxn.TheVariants as operator_txns
use Rattle.store_keys.specs.declared.value.KeyEntry.{KeyEntry}
use Rattle.lease_store.specs.KeyOrder.{key_cmp}
use Rattle.lease_store.specs.Keys.{Keys, present}
use Rattle.lease_store.specs.Kept.{IsKept, IsLasting}
use Rattle.lease_store.specs.Answers.{present_pairs}
use Rattle.lease_store.specs.Writes.{keys_after_grant, writes_of}
use Rattle.store_keys.specs.Settings.{Settings}
use Rattle.lease_store.proofs.Keeping.{kept_after, kept_present, find_present}
use Rattle.lease_store.proofs.Fences.{kept_first}
use Rattle.lease_store.proofs.OneKey.{find_all_written}
use Rattle.event_book.specs.declared.event.EventKind.{EventKind}
use Rattle.event_book.specs.declared.event.EventKind.TheVariants as kinds
use Rattle.event_book.specs.declared.event.MessageEvent.{MessageEvent}
use Rattle.event_book.specs.declared.event.MessageEvent.TheVariants as messages
use Rattle.event_book.specs.declared.event.StoreEvent.TheVariants as stores
use Rattle.event_book.specs.declared.message.Body.{Body}
use Rattle.event_book.specs.declared.message.Body.TheVariants as bodies
use Rattle.event_book.specs.Flight.{InFlightFacts, Flight, snapshot_for, launched, flight_by}
use Rattle.event_book.specs.Facts.{Facts, facts_after, start_of}
use Rattle.lease_law.proofs.Configurations.{SetsConfig, config-after}
use Rattle.lease_model.specs.Modes.{IsModeHeld, IsModeIn, IsModeTold, TellMode, IsDeclaredMode, IsModeSet, LeavesMode}

pub mode-first : (first : Settings) (names : List Name) (base : ℕ)
    → IsDeclaredMode first.config.failsafe_mode (start_of first names base)
mode-first first names base = record { store = refl; flight = tt; kept = kept_first first }

-- what is there for good is present at each moment
lasting-held : (mode : Bool) (now : ℕ) (found : Option KeyEntry) → IsLasting found → IsModeHeld mode found
    → IsModeHeld mode (present now found)
lasting-held mode now None lasting is = absurd lasting
lasting-held mode now (Some stored) lasting is = subst (λ (o : Option KeyEntry). IsModeHeld mode o)
    (sym (ap (λ expiry. present now (Some (record stored { expiry = expiry }))) lasting)) is

mode-present : (mode : Bool) (now : ℕ) (pairs : List (Key × KeyEntry)) → IsKept pairs → IsModeIn mode pairs
    → IsModeIn mode (present_pairs now pairs)
mode-present mode now pairs kept is =
    subst (λ (o : Option KeyEntry). IsModeHeld mode o) (sym (find_present now keys.Config pairs kept.order))
    (lasting-held mode now (find key_cmp keys.Config pairs) kept.config is)

-- a granted transaction
mode-set : (mode : Bool) (revision now : ℕ) (by : MemberId) (txn : Txn) (found : Option KeyEntry)
    → IsModeSet mode txn → SetsConfig (IsModeHeld mode) revision now by found txn
mode-set mode revision now by (txns.Operators (operator_txns.SetConfig compared config)) found is = is
mode-set mode revision now by _ found is = tt

mode-granted : (mode : Bool) (store : Keys) (now : ℕ) (by : MemberId) (txn : Txn) → IsModeSet mode txn
    → IsModeIn mode store.pairs → IsModeIn mode (keys_after_grant store now by txn).pairs
mode-granted mode store now by txn is old =
    let found = find key_cmp keys.Config store.pairs in
    subst (λ (o : Option KeyEntry). IsModeHeld mode o)
    (sym (find_all_written (store.revision + 1) now keys.Config store.pairs (writes_of by txn)))
    (config-after (IsModeHeld mode) (store.revision + 1) now by txn found
    (mode-set mode (store.revision + 1) now by txn found is) old)

-- messages
abbrev TellsMode : Bool → InFlightFacts → Type 0
TellsMode mode f = IsModeTold mode f.message.body f.snapshot

mode-placed : (mode : Bool) (r : Ordering) (number : ℕ) (f : InFlightFacts) (entry : ℕ × InFlightFacts)
    (entries : Flight) → TellsMode mode entry.1 → TellMode mode entries → TellsMode mode f
    → TellMode mode (insert_entry nat_cmp entries number f)
    → TellMode mode
    (match_ordering r ((number, f) ∷ entry ∷ entries) ((entry.0, f) ∷ entries)
    (entry ∷ insert_entry nat_cmp entries number f))
mode-placed mode Less number f entry entries first rest new more = (new, (first, rest))
mode-placed mode Equal number f entry entries first rest new more = (new, rest)
mode-placed mode Greater number f entry entries first rest new more = (first, more)

mode-with : (mode : Bool) (entries : Flight) (number : ℕ) (f : InFlightFacts) → TellMode mode entries
    → TellsMode mode f → TellMode mode (insert_entry nat_cmp entries number f)
mode-with mode [] number f old new = (new, tt)
mode-with mode (entry ∷ entries) number f old new = mode-placed mode
    (nat_cmp number entry.0) number f entry entries old.0 old.1 new (mode-with mode entries number f old.1 new)

mode-chosen : (mode : Bool) (b : Bool) (entry : ℕ × InFlightFacts) (entries rest : Flight) → TellsMode mode entry.1
    → TellMode mode entries → TellMode mode rest → TellMode mode (cond b entries (entry ∷ rest))
mode-chosen mode true entry entries rest first old less = old
mode-chosen mode false entry entries rest first old less = (first, less)

mode-without : (mode : Bool) (entries : Flight) (number : ℕ) → TellMode mode entries
    → TellMode mode (remove_entry (is_at (nat_cmp number)) entries)
mode-without mode [] number old = tt
mode-without mode (entry ∷ entries) number old = mode-chosen mode (is_at (nat_cmp number) entry.0) entry entries
    (remove_entry (is_at (nat_cmp number)) entries) old.0 old.1 (mode-without mode entries number old.1)

mode-body : (mode : Bool) (body : Body) (pairs : List (Key × KeyEntry)) → IsModeIn mode pairs
    → IsModeTold mode body (snapshot_for body pairs)
mode-body mode bodies.Snapshot pairs is = is
mode-body mode (bodies.Granted request leased) pairs is = is
mode-body mode _ pairs is = tt

mode-message : (mode : Bool) (facts : Facts) (e : MessageEvent) → IsDeclaredMode mode facts
    → TellMode mode (flight_by facts.clock facts.keys facts.flight e)
mode-message mode facts (messages.Sent number message) old =
    mode-with mode facts.flight number (launched facts.clock facts.keys message) old.flight
    (mode-body mode message.body (present_pairs facts.clock facts.keys.pairs)
    (mode-present mode facts.clock facts.keys.pairs old.kept old.store))
mode-message mode facts (messages.Delivered number) old = mode-without mode facts.flight number old.flight
mode-message mode facts (messages.Lost number) old = mode-without mode facts.flight number old.flight

pub mode-by : (mode : Bool) (facts : Facts) (kind : EventKind) → LeavesMode mode kind
    → IsDeclaredMode mode facts → IsDeclaredMode mode (facts_after facts kind)
mode-by mode facts kinds.Tick is old = record {
  store = mode-present mode (facts.clock + 1) facts.keys.pairs old.kept old.store;
  flight = old.flight;
  kept = kept_present (facts.clock + 1) facts.keys.pairs old.kept;
}
mode-by mode facts (kinds.Store (stores.Granted number by txn standbys)) is old = record {
  store = mode-granted mode facts.keys facts.clock by.id txn is old.store;
  flight = old.flight;
  kept = kept_after (facts.keys.revision + 1) facts.clock by.id txn facts.keys.pairs old.kept;
}
mode-by mode facts (kinds.Message e) is old =
    record { store = old.store; flight = mode-message mode facts e old; kept = old.kept }
mode-by mode facts _ is old = record { store = old.store; flight = old.flight; kept = old.kept }
