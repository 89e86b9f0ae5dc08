use Rattle.serve_law.proofs.Acting.{reply-owed}
use Rattle.serve_law.proofs.laws.a_waiting_reply_is_owed.Goals as goal

pub returns : goal.returns
returns c cluster id member connection request process stands asked found same asks runs may stand answers =
    reply-owed cluster id member request process stands asked found same runs may stand answers connection asks
