use Rattle.std.proofs.Common.{arith}
use Rattle.sdf_draw.proofs.depths.depth_of.Goals as goal

pub overflow_add-result : goal.overflow_add-result
overflow_add-result c = let low = c.deepest.ensures.small 65536 c.requires.small in omega (arith, low)
