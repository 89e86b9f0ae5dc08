-- Synchronous mode stays on.
use Rattle.std.proofs.Common.{ℕ, ◌≡◌, ◌+◌, true, List, Option, Some, None, ap, sym, subst}
use Rattle.std.specs.FinMap.{find}
use Rattle.pat_base.specs.declared.member_id.MemberId.{MemberId}
use Rattle.pat_base.specs.declared.name.Name.{Name}
use Rattle.lease_store.specs.Answers.{present_pairs}
use Rattle.store_keys.specs.declared.key.Key.{Key}
use Rattle.store_keys.specs.declared.key.Key.TheVariants as keys
use Rattle.store_keys.specs.declared.txn.Txn.{Txn}
use Rattle.store_keys.specs.declared.txn.Txn.TheVariants as txns
use Rattle.store_keys.specs.declared.txn.OperatorTxn.TheVariants as operator_txns
use Rattle.store_keys.specs.declared.value.KeyEntry.{KeyEntry}
use Rattle.lease_store.specs.Kept.{IsKept, IsLasting}
use Rattle.lease_store.specs.KeyOrder.{key_cmp}
use Rattle.lease_store.specs.Keys.{Keys, present}
use Rattle.store_keys.specs.Settings.{Settings}
use Rattle.lease_store.specs.Writes.{keys_after_grant, writes_of}
use Rattle.lease_store.proofs.Fences.{kept_first}
use Rattle.lease_store.proofs.Keeping.{find_present, kept_after, kept_present}
use Rattle.lease_store.proofs.OneKey.{find_all_written}
use Rattle.event_book.specs.declared.event.EventKind.{EventKind}
use Rattle.event_book.specs.declared.event.EventKind.TheVariants as kinds
use Rattle.event_book.specs.declared.event.MessageEvent.TheVariants.{Sent}
use Rattle.event_book.specs.declared.event.StoreEvent.TheVariants as stores
use Rattle.event_book.specs.declared.message.Body.{Body}
use Rattle.event_book.specs.declared.message.Body.TheVariants as bodies
use Rattle.event_book.specs.Facts.{Facts, facts_after, start_of}
use Rattle.event_book.specs.Flight.{InFlightFacts, in_flight, snapshot_for}
use Rattle.lease_law.proofs.Configurations.{SetsConfig, config-after}
use Rattle.lease_model.proofs.Tools.{none-some}
use Rattle.lease_book.specs.Flights.{Rises}
use Rattle.summary_model.specs.Claims.{HasMode, KeepsMode}
use Rattle.commit_parts.specs.Modes.{IsSynchronousEntry, IsSynchronousIn, IsSynchronousTold, IsSynchronous}
use Rattle.commit_parts.proofs.Flights.{HoldsAsSent, all-after}

pub synchronous-first : (first : Settings) (names : List Name) (base : ℕ)
    → first.config.synchronous_mode ≡ true → IsSynchronous (start_of first names base)
synchronous-first first names base on =
    record { kept = kept_first first; store = on; flight = λ i carried e. absurd (none-some carried e) }

-- what is there for good is present at each moment
lasting-present : (now : ℕ) (found : Option KeyEntry) → IsLasting found → IsSynchronousEntry found
    → IsSynchronousEntry (present now found)
lasting-present now None lasting on = absurd lasting
lasting-present now (Some stored) lasting on = subst (λ (o : Option KeyEntry). IsSynchronousEntry o)
    (sym (ap (λ expiry. present now (Some (record stored { expiry = expiry }))) lasting)) on

on-present : (now : ℕ) (pairs : List (Key × KeyEntry)) → IsKept pairs → IsSynchronousIn pairs
    → IsSynchronousIn (present_pairs now pairs)
on-present now pairs kept on =
    subst (λ (o : Option KeyEntry). IsSynchronousEntry o) (sym (find_present now keys.Config pairs kept.order))
    (lasting-present now (find key_cmp keys.Config pairs) kept.config on)

on-set : (revision now : ℕ) (by : MemberId) (txn : Txn) (found : Option KeyEntry) → HasMode true txn
    → SetsConfig IsSynchronousEntry revision now by found txn
on-set revision now by (txns.Operators (operator_txns.SetConfig compared config)) found is = is
on-set revision now by _ found is = tt

on-granted : (store : Keys) (now : ℕ) (by : MemberId) (txn : Txn) → HasMode true txn
    → IsSynchronousIn store.pairs → IsSynchronousIn (keys_after_grant store now by txn).pairs
on-granted store now by txn is old =
    let found = find key_cmp keys.Config store.pairs in
    subst (λ (o : Option KeyEntry). IsSynchronousEntry o)
    (sym (find_all_written (store.revision + 1) now keys.Config store.pairs (writes_of by txn)))
    (config-after IsSynchronousEntry (store.revision + 1) now by txn found
    (on-set (store.revision + 1) now by txn found is) old)

on-told : (body : Body) (pairs : List (Key × KeyEntry)) → IsSynchronousIn pairs
    → IsSynchronousTold body (snapshot_for body pairs)
on-told bodies.Snapshot pairs on = on
on-told (bodies.Granted request leased) pairs on = on
on-told _ pairs on = tt

-- a message in flight tells the mode
abbrev TellsOn : InFlightFacts → Type 0
TellsOn carried = IsSynchronousTold carried.message.body carried.snapshot

told-as-sent : (facts : Facts) (kind : EventKind) → IsSynchronous facts → HoldsAsSent TellsOn facts kind
told-as-sent facts (kinds.Message (Sent number message)) old = on-told message.body
    (present_pairs facts.clock facts.keys.pairs) (on-present facts.clock facts.keys.pairs old.kept old.store)
told-as-sent facts _ old = tt

pub synchronous-by : (facts : Facts) (kind : EventKind) → Rises 0 facts.flight → KeepsMode true kind
    → IsSynchronous facts → IsSynchronous (facts_after facts kind)
synchronous-by facts kind order is old =
    by-kind kind is (all-after TellsOn facts order old.flight kind (told-as-sent facts kind old))
  where
    by-kind : (kind : EventKind) → KeepsMode true kind
        → ((i : ℕ) (carried : InFlightFacts) → in_flight (facts_after facts kind).flight i ≡ Some carried →
        TellsOn carried)
        → IsSynchronous (facts_after facts kind)
    by-kind kinds.Tick is flight = record {
      kept = kept_present (facts.clock + 1) facts.keys.pairs old.kept;
      store = on-present (facts.clock + 1) facts.keys.pairs old.kept old.store;
      flight = flight;
    }
    by-kind (kinds.Store (stores.Granted number by txn standbys)) is flight = record {
      kept = kept_after (facts.keys.revision + 1) facts.clock by.id txn facts.keys.pairs old.kept;
      store = on-granted facts.keys facts.clock by.id txn is old.store;
      flight = flight;
    }
    by-kind _ is flight = record { kept = old.kept; store = old.store; flight = flight }
