use Rattle.lease_store.proofs.Expiring.{forgotten}
use Rattle.lease_store.proofs.expiries.forget.Goals as goal

pub returns : goal.returns
returns c = forgotten c.args.key c.args.expiries.now.items _ c.requires.rise c.requires.once c.take_out.ensures.expiries
