use Rattle.world_model.proofs.Rooms.{HasRoom-cluster_after}
use Rattle.world_model.proofs.laws.what_comes_fits_the_room.Goals as goal

pub returns : goal.returns
returns c cluster kind events counts room = HasRoom-cluster_after cluster kind events counts room
