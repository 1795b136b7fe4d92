use Rattle.std.proofs.Common.{w32, ap, ◌∙◌}
use Rattle.sdf_kit.specs.Dots.{wrap, total, dot}
use Rattle.sdf_kit.proofs.LaneTotals.{passed, same_lanes, made, joined}
use Rattle.sdf_kit.proofs.LaneSums.{more_exact}
use Rattle.sdf_kit.proofs.dots.mac.Goals as goal

pub plus-requires-clause-b : goal.plus-requires-clause-b
plus-requires-clause-b c = passed w32 8 c.products.result
    (made c.args.h c.args.x c.products.result c.requires.h c.requires.x c.products.ensures).0

pub returns-clause-lanes : goal.returns-clause-lanes
returns-clause-lanes c =
    let m = made c.args.h c.args.x c.products.result c.requires.h c.requires.x c.products.ensures in
    passed w32 8 c.plus.result (joined c.args.sums c.products.result c.plus.result (dot c.args.h c.args.x)
    c.requires.sums m.0 m.1 c.plus.ensures).0

pub returns-clause-value : goal.returns-clause-value
returns-clause-value c =
    let m = made c.args.h c.args.x c.products.result c.requires.h c.requires.x c.products.ensures in
    let j = joined c.args.sums c.products.result c.plus.result (dot c.args.h c.args.x) c.requires.sums m.0 m.1
    c.plus.ensures in
    ap (λ z. wrap (total z)) (same_lanes w32 c.plus.result j.0.fits) ∙ j.1

pub returns-clause-exact : goal.returns-clause-exact
returns-clause-exact c m within few =
    more_exact c.args.sums c.args.h c.args.x c.products.result c.plus.result m c.requires.sums c.requires.h c.requires.x
    c.products.ensures c.plus.ensures within few
