-- Synchronous mode, event by event.
use Rattle.std.proofs.Common.{◌≡◌, List, [], ◌∷◌, ◌++◌, Bool, true, false, refl, sym, subst, ◌∙◌}
use Rattle.pat_base.specs.declared.ticks.Ticks.{Ticks}
use Rattle.store_keys.specs.Settings.{Settings}
use Rattle.store_keys.specs.declared.txn.Txn.TheVariants as txns
use Rattle.store_keys.specs.declared.txn.OperatorTxn.TheVariants as operator_txns
use Rattle.event_book.specs.declared.event.AgentEvent.{AgentEvent}
use Rattle.event_book.specs.declared.event.AgentEvent.TheVariants as agents
use Rattle.event_book.specs.declared.event.Event.{Event}
use Rattle.event_book.specs.declared.event.EventKind.{EventKind}
use Rattle.event_book.specs.declared.event.EventKind.TheVariants as kinds
use Rattle.event_book.specs.declared.event.StoreEvent.{StoreEvent}
use Rattle.event_book.specs.declared.event.StoreEvent.TheVariants as stores
use Rattle.lease_model.proofs.Tools.{both}
use Rattle.summary_model.specs.declared.answers.Synchronous.{Synchronous}
use Rattle.summary_model.specs.declared.answers.Synchronous.TheVariants as synchronous
use Rattle.summary_model.specs.Claims.{KeepsMode, KeepMode, IsToldOfMode}
use Rattle.summary_model.specs.Heads.{declared_mode}
use Rattle.summary_model.specs.Moments.{now_over, AreAllFronts, IsFirstBreak}
use Rattle.summary_model.specs.Noting.{has_mode, keeps_mode_in_store, keeps_mode_in_agent, keeps_mode, broken_unless, synchronous_after}
use Rattle.summary_law.proofs.Fronts.{fronts-start, fronts-more, whole-front, breaks-now, breaks-more}

mode-is : (on mode : Bool) → has_mode on mode ≡ true → mode ≡ on
mode-is true mode is = is
mode-is false true is = sym is
mode-is false false is = refl

mode-other : (on mode : Bool) → has_mode on mode ≡ false → mode ≡ on → ⊥
mode-other true mode other is = both (sym other ∙ is)
mode-other false true other is = both (sym is)
mode-other false false other is = both (sym other)

store-keeps : (on : Bool) (happening : StoreEvent) → keeps_mode_in_store on happening ≡ true
    → KeepsMode on (kinds.Store happening)
store-keeps on (stores.Granted number by (txns.Operators (operator_txns.SetConfig revision config)) standbys) keeps =
    mode-is on config.config.synchronous_mode keeps
store-keeps on _ keeps = tt

store-breaks : (on : Bool) (happening : StoreEvent) → keeps_mode_in_store on happening ≡ false
    → KeepsMode on (kinds.Store happening) → ⊥
store-breaks on (stores.Granted number by (txns.Operators (operator_txns.SetConfig revision config)) standbys) breaks
    keeps =
    mode-other on config.config.synchronous_mode breaks keeps
store-breaks on _ breaks keeps = both (sym breaks)

agent-keeps : (on : Bool) (happening : AgentEvent) → keeps_mode_in_agent happening ≡ true
    → KeepsMode on (kinds.Agent happening)
agent-keeps on (agents.Passed agent) keeps = both keeps
agent-keeps on _ keeps = tt

agent-breaks : (on : Bool) (happening : AgentEvent) → keeps_mode_in_agent happening ≡ false
    → KeepsMode on (kinds.Agent happening) → ⊥
agent-breaks on (agents.Passed agent) breaks keeps = keeps
agent-breaks on _ breaks keeps = both (sym breaks)

kind-keeps : (on : Bool) (kind : EventKind) → keeps_mode on kind ≡ true → KeepsMode on kind
kind-keeps on (kinds.Store happening) keeps = store-keeps on happening keeps
kind-keeps on (kinds.Agent happening) keeps = agent-keeps on happening keeps
kind-keeps on _ keeps = tt

kind-breaks : (on : Bool) (kind : EventKind) → keeps_mode on kind ≡ false → KeepsMode on kind → ⊥
kind-breaks on (kinds.Store happening) breaks keeps = store-breaks on happening breaks keeps
kind-breaks on (kinds.Agent happening) breaks keeps = agent-breaks on happening breaks keeps
kind-breaks on _ breaks keeps = both (sym breaks)

keep-more : (on : Bool) (book : List Event) (event : Event) → KeepMode on book → KeepsMode on event.kind
    → KeepMode on (book ++ event ∷ [])
keep-more on [] event keep one = (one, tt)
keep-more on (x ∷ book) event keep one = (keep.0, keep-more on book event keep.1 one)

keep-last : (on : Bool) (book : List Event) (event : Event) → KeepMode on (book ++ event ∷ []) → KeepsMode on event.kind
keep-last on [] event keep = keep.0
keep-last on (x ∷ book) event keep = keep-last on book event keep.1

on-more : (first : Settings) (book : List Event) (event : Event) (test : Bool) (now : Ticks)
    → keeps_mode true event.kind ≡ test → now.0 ≡ now_over 0 (book ++ event ∷ [])
    → (first.config.synchronous_mode ≡ true) × AreAllFronts (KeepMode true) book
    → IsToldOfMode first (book ++ event ∷ []) (broken_unless test now synchronous.On)
on-more first book event true now is end told = (
  told.0,
  fronts-more (KeepMode true) book event told.1
      (keep-more true book event (whole-front (KeepMode true) book told.1) (kind-keeps true event.kind is)),
)
on-more first book event false now is end told =
    subst (λ on. IsFirstBreak (KeepMode on) (book ++ event ∷ []) now.0) (sym told.0)
    (breaks-now (KeepMode true) book event now.0 told.1
    (λ keep. kind-breaks true event.kind is (keep-last true book event keep)) end)

off-more : (first : Settings) (book : List Event) (event : Event) (test : Bool) (now : Ticks)
    → keeps_mode false event.kind ≡ test → now.0 ≡ now_over 0 (book ++ event ∷ [])
    → (first.config.synchronous_mode ≡ false) × AreAllFronts (KeepMode false) book
    → IsToldOfMode first (book ++ event ∷ []) (broken_unless test now synchronous.Off)
off-more first book event true now is end told = (
  told.0,
  fronts-more (KeepMode false) book event told.1
      (keep-more false book event (whole-front (KeepMode false) book told.1) (kind-keeps false event.kind is)),
)
off-more first book event false now is end told =
    subst (λ on. IsFirstBreak (KeepMode on) (book ++ event ∷ []) now.0) (sym told.0)
    (breaks-now (KeepMode false) book event now.0 told.1
    (λ keep. kind-breaks false event.kind is (keep-last false book event keep)) end)

pub mode-more : (first : Settings) (book : List Event) (event : Event) (now : Ticks) (told : Synchronous)
    → now.0 ≡ now_over 0 (book ++ event ∷ []) → IsToldOfMode first book told
    → IsToldOfMode first (book ++ event ∷ []) (synchronous_after told now event.kind)
mode-more first book event now synchronous.On end told =
    on-more first book event (keeps_mode true event.kind) now refl end told
mode-more first book event now synchronous.Off end told =
    off-more first book event (keeps_mode false event.kind) now refl end told
mode-more first book event now (synchronous.Broken tick) end told =
    breaks-more (KeepMode first.config.synchronous_mode) book event tick.0 told

pub mode-first : (first : Settings) (on : Bool) → first.config.synchronous_mode ≡ on
    → IsToldOfMode first [] (declared_mode on)
mode-first first true is = (is, fronts-start (KeepMode true) tt)
mode-first first false is = (is, fronts-start (KeepMode false) tt)
