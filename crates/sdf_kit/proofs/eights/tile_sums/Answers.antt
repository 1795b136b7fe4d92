use Rattle.std.proofs.Common.{map, to_z, w32, arith}
use Rattle.sdf_kit.proofs.TileSums.{tile_nothing, tile_on}
use Rattle.sdf_kit.proofs.eights.tile_sums.Goals as goal

pub pairs-init : goal.pairs-init
pairs-init c = record {
  within = omega arith;
  even = omega arith;
  a = tile_nothing c.args.taps.now c.args.x.now;
  b = tile_nothing c.args.taps.now c.args.y.now;
  c = tile_nothing c.args.taps.now c.args.z.now;
  d = tile_nothing c.args.taps.now c.args.w.now;
}

pub pairs-preserved : goal.pairs-preserved
pairs-preserved c = record {
  within = omega (arith, c.requires.even, c.pairs.invariant.even, c.pairs-test.true);
  even = omega (arith, c.pairs.invariant.even);
  a = tile_on c.args.taps.now c.args.x.now (map (to_z w32) c.pairs.a) c.load-h.result c.pair.result c.add-a.result
      c.pairs.at c.pairs.invariant.even c.pairs.invariant.a c.load-h.ensures.lanes c.load-h.ensures.value
      c.pair.ensures.lanes c.pair.ensures.value c.add-a.ensures.lanes c.add-a.ensures.value;
  b = tile_on c.args.taps.now c.args.y.now (map (to_z w32) c.pairs.b) c.load-h.result
      c.pair-in-pairs.result c.add-b.result
      c.pairs.at c.pairs.invariant.even c.pairs.invariant.b c.load-h.ensures.lanes c.load-h.ensures.value
      c.pair-in-pairs.ensures.lanes c.pair-in-pairs.ensures.value c.add-b.ensures.lanes c.add-b.ensures.value;
  c = tile_on c.args.taps.now c.args.z.now (map (to_z w32) c.pairs.c) c.load-h.result
      c.pair-in-pairs-2.result c.add-c.result
      c.pairs.at c.pairs.invariant.even c.pairs.invariant.c c.load-h.ensures.lanes c.load-h.ensures.value
      c.pair-in-pairs-2.ensures.lanes c.pair-in-pairs-2.ensures.value c.add-c.ensures.lanes c.add-c.ensures.value;
  d = tile_on c.args.taps.now c.args.w.now (map (to_z w32) c.pairs.d) c.load-h.result
      c.pair-in-pairs-3.result c.add-d.result
      c.pairs.at c.pairs.invariant.even c.pairs.invariant.d c.load-h.ensures.lanes c.load-h.ensures.value
      c.pair-in-pairs-3.ensures.lanes c.pair-in-pairs-3.ensures.value c.add-d.ensures.lanes c.add-d.ensures.value;
}
