use Rattle.std.proofs.Common.{map, to_z, w32, arith}
use Rattle.sdf_kit.proofs.LaneSums.{so_far_nothing, so_far_on, so_far_all}
use Rattle.sdf_kit.proofs.dots.sums.Goals as goal

pub chunks-init : goal.chunks-init
chunks-init c = record {
  within = omega arith;
  whole = omega arith;
  a = so_far_nothing c.args.h.now c.args.x.now;
}

pub chunks-preserved : goal.chunks-preserved
chunks-preserved c = record {
  within = omega (arith, c.requires.whole, c.chunks.invariant.whole, c.chunks-test.true);
  whole = omega (arith, c.chunks.invariant.whole);
  a = so_far_on c.args.h.now c.args.x.now (map (to_z w32) c.chunks.a) c.load.result c.load-in-chunks.result
      c.mac-a.result c.chunks.at c.chunks.invariant.whole c.chunks.invariant.a
      c.load.ensures.lanes c.load.ensures.value c.load-in-chunks.ensures.lanes c.load-in-chunks.ensures.value
      c.mac-a.ensures.lanes c.mac-a.ensures.value c.mac-a.ensures.exact;
}

pub mac-a-requires-clause-sums : goal.mac-a-requires-clause-sums
mac-a-requires-clause-sums c = c.chunks.invariant.a.some.lanes

pub returns : goal.returns
returns c =
    so_far_all c.args.h.now c.args.x.now (map (to_z w32) c.chunks.a) c.chunks.at c.requires.whole c.chunks-test.false
    c.chunks.invariant.within c.requires.x c.chunks.invariant.a
