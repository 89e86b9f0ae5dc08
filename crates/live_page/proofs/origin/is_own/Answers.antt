use Rattle.live_page.proofs.origin.is_own.Goals as goal

pub returns : goal.returns
returns c = rw c.head_room-room.ensures at c.is_own_in.ensures
