use Rattle.std.proofs.Common.{FitsSigned}
use Rattle.std.specs.Int.{w16}
use Rattle.std.specs.Simd.Lanes.{chunk}
use Rattle.std.proofs.lemmas.Simd.{Each1-chunk, length-chunk}
use Rattle.sdf_kit.proofs.LaneTotals.{passed, same_lanes}
use Rattle.sdf_kit.proofs.dots.load.Goals as goal

pub returns-clause-value : goal.returns-clause-value
returns-clause-value c = same_lanes w16 (chunk c.args.at 16 c.args.x.now)
    (Each1-chunk (FitsSigned w16) c.args.at 16 c.args.x.now c.requires.short)

pub returns-clause-lanes : goal.returns-clause-lanes
returns-clause-lanes c =
    passed w16 16 (chunk c.args.at 16 c.args.x.now) (record {
      many = length-chunk c.args.at 16 c.args.x.now
          c.requires.room;
      fits = Each1-chunk (FitsSigned w16) c.args.at 16 c.args.x.now c.requires.short;
    })
