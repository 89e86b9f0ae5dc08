use Rattle.std.proofs.Common.{refl}
use Rattle.lease_model.specs.Past.{state_of}
use Rattle.lease_model.specs.Inputs.{MaySend}
use Rattle.lease_book.proofs.Sends.{old-or-sent, heard-gone}
use Rattle.lease_book.proofs.laws.inputs_send.Goals as goal

pub returns : goal.returns
returns c = record {
  flight = λ declared past volatile_states m input was agent events all.
      old-or-sent (MaySend (state_of declared past volatile_states) m input was agent) past.clock past events refl all;
  gone = heard-gone;
}
