-- What an outside in memory holds.
use Rattle.std.specs.Prelude.{ℕ, List}
use Rattle.live_outside.specs.declared.deed.Deed.{Deed}
use Rattle.live_outside.specs.declared.deed.Deed.TheVariants as deeds
use Rattle.live_outside.specs.declared.deed.Done.{Done}
use Rattle.live_outside.specs.Arrivals.{DeedText, DoneText, HungUp, OutsideFacts, Sent}

-- its facts, the numbers of the calls that are to fail, and how many calls and faults there were
pub record OutsideState : Type 0 where
  pub facts : OutsideFacts
  pub fails : List ℕ
  pub calls : ℕ
  pub faults : ℕ

-- what a deed tells
abbrev pub deed_text : Deed → DeedText
deed_text (deeds.Sent client bytes last) = Sent client bytes.items last
deed_text (deeds.HungUp client) = HungUp client

abbrev pub done_text : Done → DoneText
done_text done = record { behind = done.behind; deed = deed_text done.deed }
