-- Each event leaves the same of servers by the law's definitions as by the book's.
use Rattle.std.proofs.Common.{ℕ, ◌≡◌, ◌<◌, ◌≤◌, zero, suc, Bool, true, false, List, [], ◌∷◌, length, replicate, Option, refl, ◌∙◌, ap, sym, ◌⊎◌, inl, inr, arith}
use Rattle.std.proofs.lemmas.Option.{slice_get_cases, slice_get_past}
use Rattle.pat_base.specs.declared.name.Name.{Name}
use Rattle.store_keys.specs.Settings.{Settings}
use Rattle.pg_model.specs.Facts.{ServerFacts, fresh}
use Rattle.event_book.specs.declared.event.Event.{Event}
use Rattle.event_book.specs.declared.event.EventKind.{EventKind}
use Rattle.event_book.specs.declared.event.EventKind.TheVariants as kinds
use Rattle.event_book.specs.declared.event.ServerEvent.{ServerEvent}
use Rattle.event_book.specs.declared.event.ServerEvent.TheVariants as servers
use Rattle.event_book.specs.declared.event.WatchdogEvent.{WatchdogEvent}
use Rattle.event_book.specs.declared.event.WatchdogEvent.TheVariants as watchdogs
use Rattle.event_book.specs.Clock.{now_after}
use Rattle.event_book.specs.Facts.{Facts, facts_after, start_of}
use Rattle.event_book.specs.Functions.{put_at}
use Rattle.event_book.specs.Logs.{logs_in, logs_after}
use Rattle.event_book.specs.Required.{required_in, required_after, confirmed_in, confirmed_after}
use Rattle.event_book.specs.Servers.{servers_after}
use Rattle.event_book.specs.Acknowledged.{acknowledged_after}
use Rattle.event_book.specs.Writers.{writes_in, writes_now, writes_after, writes_by_server, writes_by_watchdog, BeginsKind, BeginsServer}
use Rattle.event_book.proofs.Told.{count-of, logs-of, required-of, confirmed-of, writes-of, writes-same}
use Rattle.lease_model.proofs.Tools.{put-all}
use Rattle.commit_actions.specs.Past.{Past, first_past, past_after}
use Rattle.commit_servers.specs.Matching.{IsSameServers}

-- who accepts no writes, and doesn't begin, accepts none then
put-false : (before : ℕ → Bool) (k n : ℕ) (value : Bool) → ((k ≡ n → ⊥) ⊎ (value ≡ false)) → before n ≡ false
    → put_at before k value n ≡ false
put-false before k n value (inl other) none =
    put-all before k value (λ m b. m ≡ n → b ≡ false) (λ e. absurd (other e)) (λ m aside e. ap before e ∙ none) n refl
put-false before k n value (inr is) none =
    put-all before k value (λ m b. m ≡ n → b ≡ false) (λ e. is) (λ m aside e. ap before e ∙ none) n refl

no-writes-server : (before : ℕ → Bool) (happening : ServerEvent) (n : ℕ)
    → BeginsServer (λ server. server ≡ n → ⊥) happening → before n ≡ false → writes_by_server before happening n ≡ false
no-writes-server before (servers.Began server timeline) n aside none =
    put-false before server.id.number n true (inl aside) none
no-writes-server before (servers.Ended server) n aside none = put-false before server.id.number n false (inr refl) none
no-writes-server before (servers.Crashed server) n aside none =
    put-false before server.id.number n false (inr refl) none
no-writes-server before _ n aside none = none

no-writes-watchdog : (before : ℕ → Bool) (happening : WatchdogEvent) (n : ℕ) → before n ≡ false
    → writes_by_watchdog before happening n ≡ false
no-writes-watchdog before (watchdogs.Reset member) n none = put-false before member.id.number n false (inr refl) none
no-writes-watchdog before _ n none = none

no-writes : (before : ℕ → Bool) (kind : EventKind) (n : ℕ) → BeginsKind (λ server. server ≡ n → ⊥) kind
    → before n ≡ false → writes_after before kind n ≡ false
no-writes before (kinds.Server happening) n aside none = no-writes-server before happening n aside none
no-writes before (kinds.Watchdog happening) n aside none = no-writes-watchdog before happening n none
no-writes before _ n aside none = none

below-not : (k n count : ℕ) → k < count → count ≤ n → k ≡ n → ⊥
below-not k n count small past e = omega (arith, small, past, e)

aside-server : (count n : ℕ) (happening : ServerEvent) → count ≤ n
    → BeginsServer (λ server. server < count) happening → BeginsServer (λ server. server ≡ n → ⊥) happening
aside-server count n (servers.Began server timeline) past is = below-not server.id.number n count is past
aside-server count n _ past is = tt

aside-past : (count n : ℕ) (kind : EventKind) → count ≤ n → BeginsKind (λ server. server < count) kind
    → BeginsKind (λ server. server ≡ n → ⊥) kind
aside-past count n (kinds.Server happening) past is = aside-server count n happening past is
aside-past count n _ past is = tt

writes-past : (known : List ServerFacts) (n : ℕ) → length known ≤ n → writes_in known n ≡ false
writes-past known n past = ap writes_now (slice_get_past known n past)

writes-kind : (before after : ℕ → Bool) (kind : EventKind) (n : ℕ) → before n ≡ after n
    → writes_after before kind n ≡ writes_after after kind n
writes-kind before after kind n same =
    let event : Event = record { tick = record { 0 = 0 }; kind = kind } in writes-same before after (event ∷ []) n same

writes-in : (before : ℕ → Bool) (now : ℕ) (known : List ServerFacts) (remote : Option ServerFacts) (kind : EventKind)
    → BeginsKind (λ server. server < length known) kind
    → ((n : ℕ) → before n ≡ writes_in known n) → (n : ℕ)
    → writes_after before kind n ≡ writes_in (servers_after now known remote kind) n
writes-in before now known remote kind is same n = elim (slice_get_cases known n).1 [
  | inl found ↦ writes-kind before (writes_in known) kind n (same n) ∙ sym (writes-of now known remote kind n found.1)
  | inr past ↦
      no-writes before kind n (aside-past (length known) n kind past.0 is) (same n ∙ writes-past known n past.0)
      ∙ sym (writes-past (servers_after now known remote kind) n (rw (count-of now known remote kind) past.0))
]

pub same-by : (past : Past) (facts : Facts) (kind : EventKind)
    → BeginsKind (λ server. server < length facts.servers) kind → IsSameServers past facts
    → IsSameServers (past_after past kind) (facts_after facts kind)
same-by past facts kind is old =
    let now : ℕ = now_after facts.clock kind in
    record {
      logs = ap (λ known. logs_after known kind) old.logs ∙ sym (logs-of facts kind);
      required =
          ap (λ known. required_after known kind) old.required ∙ sym (required-of now facts.servers facts.remote kind);
      confirmed = ap (λ known. confirmed_after known kind) old.confirmed
          ∙ sym (confirmed-of now facts.servers facts.remote kind);
      writes = writes-in past.lease.writes now facts.servers facts.remote kind is old.writes;
      acknowledged = ap (λ told. acknowledged_after told kind) old.acknowledged;
    }

fresh-writes : (count base n : ℕ) → false ≡ writes_in (replicate count (fresh base)) n
fresh-writes zero base n = refl
fresh-writes (suc count) base zero = refl
fresh-writes (suc count) base (suc n) = fresh-writes count base n

pub same-first : (first : Settings) (names : List Name) (base : ℕ) →
    let facts = start_of first names base in
    IsSameServers (first_past (logs_in facts) (required_in facts.servers) (confirmed_in facts.servers)) facts
same-first first names base = record {
  logs = refl;
  required = refl;
  confirmed = refl;
  writes = λ n. fresh-writes (length names) base n;
  acknowledged = refl;
}
