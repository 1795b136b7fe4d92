use Rattle.sdf_times.proofs.FirstBlock.{more_room_is_no_longer}
use Rattle.sdf_times.proofs.laws.more_room_is_no_longer.Goals as goal

pub returns : goal.returns
returns c = more_room_is_no_longer
