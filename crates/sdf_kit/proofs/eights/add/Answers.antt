use Rattle.std.proofs.Common.{w32}
use Rattle.sdf_kit.proofs.LaneTotals.{passed, made}
use Rattle.sdf_kit.proofs.TileSums.{added_lanes, added_is}
use Rattle.sdf_kit.proofs.eights.add.Goals as goal

pub plus-requires-clause-b : goal.plus-requires-clause-b
plus-requires-clause-b c =
    passed w32 8 c.products.result
    (made c.args.h c.args.x c.products.result c.requires.h c.requires.x c.products.ensures).0

pub returns-clause-lanes : goal.returns-clause-lanes
returns-clause-lanes c =
    passed w32 8 c.plus.result
    (added_lanes c.args.sums c.args.h c.args.x c.products.result c.plus.result c.requires.sums c.requires.h
    c.requires.x c.products.ensures c.plus.ensures)

pub returns-clause-value : goal.returns-clause-value
returns-clause-value c =
    added_is c.args.sums c.args.h c.args.x c.products.result c.plus.result c.requires.sums c.requires.h
    c.requires.x c.products.ensures c.plus.ensures
