-- What is kept of the events of a step prints what all of them do.
use Rattle.std.proofs.Common.{◌≡◌, ℕ, cond, not, Bool, true, false, true≢false, IsTrue, List, [], ◌∷◌, ◌++◌, Option, None, refl, ap, sym, ◌∙◌}
use Rattle.store_keys.specs.declared.txn.Txn.{Txn}
use Rattle.store_keys.specs.declared.txn.Txn.TheVariants as txns
use Rattle.store_keys.specs.declared.txn.LeaseTxn.TheVariants as lease_txns
use Rattle.pat_base.specs.declared.name.Name.{Name}
use Rattle.event_book.specs.declared.event.AgentEvent.TheVariants as agents
use Rattle.event_book.specs.declared.event.Event.{Event}
use Rattle.event_book.specs.declared.event.EventKind.{EventKind}
use Rattle.event_book.specs.declared.event.EventKind.TheVariants as kinds
use Rattle.event_book.specs.declared.event.LogEvent.TheVariants as logs
use Rattle.event_book.specs.declared.event.MessageEvent.{MessageEvent}
use Rattle.event_book.specs.declared.event.MessageEvent.TheVariants as messages
use Rattle.event_book.specs.declared.event.ReplicationEvent.TheVariants as replications
use Rattle.event_book.specs.declared.event.StoreEvent.TheVariants as stores
use Rattle.event_book.specs.StoreText.{granted_line}
use Rattle.event_book.specs.Text.{bytes_or_none, kind_line, line_of, lines_of, message_line}
use Rattle.event_list.specs.Kept.{kept_of, without_silent}
use Rattle.event_list.specs.Silence.{is_silent, is_silent_grant}

untraced-message : (tick : ℕ) (happening : MessageEvent) → message_line false tick happening ≡ None
untraced-message tick (messages.Sent number message) = refl
untraced-message tick (messages.Delivered number) = refl
untraced-message tick (messages.Lost number) = refl

silent-message : (traced trace : Bool) (tick : ℕ) (happening : MessageEvent) → (IsTrue trace → IsTrue traced)
    → not traced ≡ true → message_line trace tick happening ≡ None
silent-message true trace tick happening keeps is = absurd (true≢false (sym is))
silent-message false true tick happening keeps is = absurd (true≢false (sym (keeps refl)))
silent-message false false tick happening keeps is = untraced-message tick happening

silent-grant : (tick : ℕ) (name : List ℕ) (txn : Txn) (standbys : List Name) → is_silent_grant txn ≡ true
    → granted_line tick name txn standbys ≡ None
silent-grant tick name (txns.Touch info ttl) standbys is = refl
silent-grant tick name (txns.Lease (lease_txns.Renew revision info ttl status row failsafe)) standbys is = refl
silent-grant tick name _ standbys is = absurd (true≢false (sym is))

-- what is silent has no line
silent-line : (traced trace : Bool) (tick : ℕ) (kind : EventKind) → (IsTrue trace → IsTrue traced)
    → is_silent traced kind ≡ true → kind_line trace tick kind ≡ None
silent-line traced trace tick (kinds.Message happening) keeps is = silent-message traced trace tick happening keeps is
silent-line traced trace tick (kinds.Store (stores.Granted number by txn standbys)) keeps is =
    silent-grant tick _ txn standbys is
silent-line traced trace tick (kinds.Log (logs.Received server from count)) keeps is = refl
silent-line traced trace tick (kinds.Replication (replications.Confirmed server by end)) keeps is = refl
silent-line traced trace tick (kinds.Agent (agents.Woken agent)) keeps is = refl
silent-line traced trace tick _ keeps is = absurd (true≢false (sym is))

-- these events without the first, where that is silent
pub silent-out : (traced : Bool) (event : Event) (events : List Event) → is_silent traced event.kind ≡ true
    → without_silent traced (event ∷ events) ≡ without_silent traced events
silent-out traced event events is =
    ap (λ (b : Bool). cond (not b) (event ∷ without_silent traced events) (without_silent traced events)) is

-- and with it, where it isn't
pub silent-in : (traced : Bool) (event : Event) (events : List Event) → is_silent traced event.kind ≡ false
    → without_silent traced (event ∷ events) ≡ event ∷ without_silent traced events
silent-in traced event events is =
    ap (λ (b : Bool). cond (not b) (event ∷ without_silent traced events) (without_silent traced events)) is

lines-without : (traced trace : Bool) (events : List Event) → (IsTrue trace → IsTrue traced)
    → lines_of trace (without_silent traced events) ≡ lines_of trace events
lines-without traced trace [] keeps = refl
lines-without traced trace (event ∷ events) keeps =
    by-test (is_silent traced event.kind) refl (lines-without traced trace events keeps)
  where
    by-test : (test : Bool) → is_silent traced event.kind ≡ test
        → lines_of trace (without_silent traced events) ≡ lines_of trace events
        → lines_of trace (without_silent traced (event ∷ events)) ≡ lines_of trace (event ∷ events)
    by-test true is others =
        ap (lines_of trace) (silent-out traced event events is) ∙ others
        ∙ ap (λ (line : Option (List ℕ)). bytes_or_none line ++ lines_of trace events)
        (sym (silent-line traced trace event.tick.0 event.kind keeps is))
    by-test false is others = ap (lines_of trace) (silent-in traced event events is)
        ∙ ap (λ (rest : List ℕ). bytes_or_none (line_of trace event) ++ rest) others

-- what is kept of these events prints what they print; where messages are traced, they have to be kept too
pub kept-lines : (traced trace : Bool) (events : List Event) → (IsTrue trace → IsTrue traced)
    → lines_of trace (kept_of traced events) ≡ lines_of trace events
kept-lines traced trace [] keeps = refl
kept-lines traced trace (event ∷ events) keeps =
    ap (λ (rest : List ℕ). bytes_or_none (line_of trace event) ++ rest) (lines-without traced trace events keeps)
