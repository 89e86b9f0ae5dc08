-- Nobody pauses: what is carried from event to event.
use Rattle.std.proofs.Common.{◌≡◌, ℕ, ◌+◌, Bool, true, false, cond, List, [], ◌∷◌, Option, Some, None, sym, subst}
use Rattle.std.specs.FinMap.{find}
use Rattle.std.specs.Ordering.{nat_cmp, match_ordering}
use Rattle.std.specs.declared.cmp.Ordering.{Ordering}
use Rattle.std.specs.declared.cmp.Ordering.TheVariants.{Less, Equal, Greater}
use Rattle.std.specs.BTreeMap.{insert_entry, is_at}
use Rattle.std.specs.Map.{remove_entry}
use Rattle.pat_base.specs.declared.name.Name.{Name}
use Rattle.pat_base.specs.declared.member_id.MemberId.{MemberId}
use Rattle.store_keys.specs.declared.key.Key.{Key}
use Rattle.store_keys.specs.declared.key.Key.TheVariants as keys
use Rattle.store_keys.specs.declared.txn.Txn.{Txn}
use Rattle.store_keys.specs.declared.txn.Txn.TheVariants as txns
use Rattle.store_keys.specs.declared.txn.OperatorTxn.TheVariants as operator_txns
use Rattle.store_keys.specs.declared.value.KeyEntry.{KeyEntry}
use Rattle.lease_store.specs.KeyOrder.{key_cmp}
use Rattle.lease_store.specs.Keys.{Keys, is_present, present}
use Rattle.lease_store.specs.Kept.{IsKept}
use Rattle.lease_store.specs.Answers.{present_pairs}
use Rattle.lease_store.specs.Writes.{keys_after_grant, writes_of}
use Rattle.store_keys.specs.Settings.{Settings}
use Rattle.lease_store.proofs.Keeping.{kept_after, kept_present, find_present}
use Rattle.lease_store.proofs.Fences.{kept_first}
use Rattle.lease_store.proofs.OneKey.{found_after_all, find_all_written}
use Rattle.event_book.specs.declared.event.EventKind.{EventKind}
use Rattle.event_book.specs.declared.event.EventKind.TheVariants as kinds
use Rattle.event_book.specs.declared.event.MessageEvent.{MessageEvent}
use Rattle.event_book.specs.declared.event.MessageEvent.TheVariants as messages
use Rattle.event_book.specs.declared.event.StoreEvent.TheVariants as stores
use Rattle.event_book.specs.declared.message.Body.{Body}
use Rattle.event_book.specs.declared.message.Body.TheVariants as bodies
use Rattle.event_book.specs.Flight.{InFlightFacts, Flight, snapshot_for, launched, flight_by}
use Rattle.event_book.specs.Facts.{Facts, facts_after, start_of}
use Rattle.lease_law.proofs.Configurations.{SetsConfig, config-after}
use Rattle.event_book.specs.Premises.{IsUnpaused, IsHandsOffKind}
use Rattle.lease_model.specs.Pauses.{IsUnpausedHeld, IsUnpausedIn, AreUnpaused, NobodyPauses}

pub pauses-first : (first : Settings) (names : List Name) (base : ℕ) → first.config.pause ≡ false
    → NobodyPauses (start_of first names base)
pauses-first first names base unpaused = record { store = unpaused; flight = tt; kept = kept_first first }

unpaused-if : (b : Bool) (o : Option KeyEntry) → IsUnpausedHeld o → IsUnpausedHeld (cond b o None)
unpaused-if true o is = is
unpaused-if false o is = tt

unpaused-present : (now : ℕ) (found : Option KeyEntry) → IsUnpausedHeld found → IsUnpausedHeld (present now found)
unpaused-present now None is = is
unpaused-present now (Some found_key) is = unpaused-if (is_present now found_key.expiry) (Some found_key) is

unpaused-snapshot : (now : ℕ) (pairs : List (Key × KeyEntry)) → IsKept pairs → IsUnpausedIn pairs
    → IsUnpausedIn (present_pairs now pairs)
unpaused-snapshot now pairs kept is = subst (λ (o : Option KeyEntry). IsUnpausedHeld o)
    (sym (find_present now keys.Config pairs kept.order)) (unpaused-present now (find key_cmp keys.Config pairs) is)

-- a granted transaction
unpaused-set : (revision now : ℕ) (by : MemberId) (txn : Txn) (found : Option KeyEntry) → IsUnpaused txn
    → SetsConfig IsUnpausedHeld revision now by found txn
unpaused-set revision now by (txns.Operators (operator_txns.SetConfig compared config)) found is = is
unpaused-set revision now by _ found is = tt

config-written : (revision now : ℕ) (by : MemberId) (txn : Txn) (found : Option KeyEntry) → IsUnpaused txn
    → IsUnpausedHeld found → IsUnpausedHeld (found_after_all revision now keys.Config found (writes_of by txn))
config-written revision now by txn found is old =
    config-after IsUnpausedHeld revision now by txn found (unpaused-set revision now by txn found is) old

unpaused-granted : (store : Keys) (now : ℕ) (by : MemberId) (txn : Txn) → IsUnpaused txn
    → IsUnpausedIn store.pairs → IsUnpausedIn (keys_after_grant store now by txn).pairs
unpaused-granted store now by txn is old = subst (λ (o : Option KeyEntry). IsUnpausedHeld o)
    (sym (find_all_written (store.revision + 1) now keys.Config store.pairs (writes_of by txn)))
    (config-written (store.revision + 1) now by txn (find key_cmp keys.Config store.pairs) is old)

-- messages
unpaused-placed : (r : Ordering) (number : ℕ) (f : InFlightFacts) (entry : ℕ × InFlightFacts) (entries : Flight)
    → IsUnpausedIn entry.1.snapshot → AreUnpaused entries → IsUnpausedIn f.snapshot
    → AreUnpaused (insert_entry nat_cmp entries number f)
    → AreUnpaused (match_ordering r ((number, f) ∷ entry ∷ entries) ((entry.0, f) ∷ entries)
    (entry ∷ insert_entry nat_cmp entries number f))
unpaused-placed Less number f entry entries first rest new more = (new, (first, rest))
unpaused-placed Equal number f entry entries first rest new more = (new, rest)
unpaused-placed Greater number f entry entries first rest new more = (first, more)

unpaused-with : (entries : Flight) (number : ℕ) (f : InFlightFacts) → AreUnpaused entries
    → IsUnpausedIn f.snapshot → AreUnpaused (insert_entry nat_cmp entries number f)
unpaused-with [] number f old new = (new, tt)
unpaused-with (entry ∷ entries) number f old new = unpaused-placed (nat_cmp number entry.0) number f entry
    entries old.0 old.1 new (unpaused-with entries number f old.1 new)

unpaused-chosen : (b : Bool) (entry : ℕ × InFlightFacts) (entries rest : Flight) → IsUnpausedIn entry.1.snapshot
    → AreUnpaused entries → AreUnpaused rest → AreUnpaused (cond b entries (entry ∷ rest))
unpaused-chosen true entry entries rest first old less = old
unpaused-chosen false entry entries rest first old less = (first, less)

unpaused-without : (entries : Flight) (number : ℕ) → AreUnpaused entries
    → AreUnpaused (remove_entry (is_at (nat_cmp number)) entries)
unpaused-without [] number old = tt
unpaused-without (entry ∷ entries) number old = unpaused-chosen (is_at (nat_cmp number) entry.0) entry entries
    (remove_entry (is_at (nat_cmp number)) entries) old.0 old.1 (unpaused-without entries number old.1)

unpaused-body : (body : Body) (snapshot : List (Key × KeyEntry)) → IsUnpausedIn snapshot
    → IsUnpausedIn (snapshot_for body snapshot)
unpaused-body bodies.Snapshot snapshot is = is
unpaused-body (bodies.Granted request leased) snapshot is = is
unpaused-body _ snapshot is = tt

unpaused-message : (facts : Facts) (e : MessageEvent) → NobodyPauses facts
    → AreUnpaused (flight_by facts.clock facts.keys facts.flight e)
unpaused-message facts (messages.Sent number message) old =
    unpaused-with facts.flight number (launched facts.clock facts.keys message) old.flight
    (unpaused-body message.body (present_pairs facts.clock facts.keys.pairs)
    (unpaused-snapshot facts.clock facts.keys.pairs old.kept old.store))
unpaused-message facts (messages.Delivered number) old = unpaused-without facts.flight number old.flight
unpaused-message facts (messages.Lost number) old = unpaused-without facts.flight number old.flight

pub pauses-by : (facts : Facts) (kind : EventKind) → IsHandsOffKind kind → NobodyPauses facts
    → NobodyPauses (facts_after facts kind)
pauses-by facts kinds.Tick is old = record {
  store = unpaused-snapshot (facts.clock + 1) facts.keys.pairs old.kept old.store;
  flight = old.flight;
  kept = kept_present (facts.clock + 1) facts.keys.pairs old.kept;
}
pauses-by facts (kinds.Store (stores.Granted number by txn standbys)) is old = record {
  store = unpaused-granted facts.keys facts.clock by.id txn is old.store;
  flight = old.flight;
  kept = kept_after (facts.keys.revision + 1) facts.clock by.id txn facts.keys.pairs old.kept;
}
pauses-by facts (kinds.Message e) is old =
    record { store = old.store; flight = unpaused-message facts e old; kept = old.kept }
pauses-by facts _ is old = record { store = old.store; flight = old.flight; kept = old.kept }
