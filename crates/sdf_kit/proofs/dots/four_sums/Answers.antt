use Rattle.std.proofs.Common.{map, to_z, w32, arith}
use Rattle.sdf_kit.proofs.LaneSums.{so_far_nothing, so_far_on, so_far_all}
use Rattle.sdf_kit.proofs.dots.four_sums.Goals as goal

pub chunks-init : goal.chunks-init
chunks-init c = record {
  within = omega arith;
  whole = omega arith;
  a = so_far_nothing c.args.h.now c.args.x.now;
  b = so_far_nothing c.args.h.now c.args.y.now;
  c = so_far_nothing c.args.h.now c.args.z.now;
  d = so_far_nothing c.args.h.now c.args.w.now;
}

pub chunks-preserved : goal.chunks-preserved
chunks-preserved c = record {
  within = omega (arith, c.requires.whole, c.chunks.invariant.whole, c.chunks-test.true);
  whole = omega (arith, c.chunks.invariant.whole);
  a = so_far_on c.args.h.now c.args.x.now (map (to_z w32) c.chunks.a)
      c.load-taps.result c.load.result c.mac-a.result c.chunks.at c.chunks.invariant.whole
      c.chunks.invariant.a c.load-taps.ensures.lanes c.load-taps.ensures.value
      c.load.ensures.lanes c.load.ensures.value c.mac-a.ensures.lanes c.mac-a.ensures.value
      c.mac-a.ensures.exact;
  b = so_far_on c.args.h.now c.args.y.now (map (to_z w32) c.chunks.b)
      c.load-taps.result c.load-in-chunks.result c.mac-b.result c.chunks.at c.chunks.invariant.whole
      c.chunks.invariant.b c.load-taps.ensures.lanes c.load-taps.ensures.value
      c.load-in-chunks.ensures.lanes c.load-in-chunks.ensures.value c.mac-b.ensures.lanes c.mac-b.ensures.value
      c.mac-b.ensures.exact;
  c = so_far_on c.args.h.now c.args.z.now (map (to_z w32) c.chunks.c)
      c.load-taps.result c.load-in-chunks-2.result c.mac-c.result c.chunks.at c.chunks.invariant.whole
      c.chunks.invariant.c c.load-taps.ensures.lanes c.load-taps.ensures.value
      c.load-in-chunks-2.ensures.lanes c.load-in-chunks-2.ensures.value c.mac-c.ensures.lanes c.mac-c.ensures.value
      c.mac-c.ensures.exact;
  d = so_far_on c.args.h.now c.args.w.now (map (to_z w32) c.chunks.d)
      c.load-taps.result c.load-in-chunks-3.result c.mac-d.result c.chunks.at c.chunks.invariant.whole
      c.chunks.invariant.d c.load-taps.ensures.lanes c.load-taps.ensures.value
      c.load-in-chunks-3.ensures.lanes c.load-in-chunks-3.ensures.value c.mac-d.ensures.lanes c.mac-d.ensures.value
      c.mac-d.ensures.exact;
}

pub mac-a-requires-clause-sums : goal.mac-a-requires-clause-sums
mac-a-requires-clause-sums c = c.chunks.invariant.a.some.lanes

pub mac-b-requires-clause-sums : goal.mac-b-requires-clause-sums
mac-b-requires-clause-sums c = c.chunks.invariant.b.some.lanes

pub mac-c-requires-clause-sums : goal.mac-c-requires-clause-sums
mac-c-requires-clause-sums c = c.chunks.invariant.c.some.lanes

pub mac-d-requires-clause-sums : goal.mac-d-requires-clause-sums
mac-d-requires-clause-sums c = c.chunks.invariant.d.some.lanes

pub returns-clause-a : goal.returns-clause-a
returns-clause-a c =
    so_far_all c.args.h.now c.args.x.now (map (to_z w32) c.chunks.a) c.chunks.at c.requires.whole c.chunks-test.false
    c.chunks.invariant.within c.requires.x c.chunks.invariant.a

pub returns-clause-b : goal.returns-clause-b
returns-clause-b c =
    so_far_all c.args.h.now c.args.y.now (map (to_z w32) c.chunks.b) c.chunks.at c.requires.whole c.chunks-test.false
    c.chunks.invariant.within c.requires.y c.chunks.invariant.b

pub returns-clause-c : goal.returns-clause-c
returns-clause-c c =
    so_far_all c.args.h.now c.args.z.now (map (to_z w32) c.chunks.c) c.chunks.at c.requires.whole c.chunks-test.false
    c.chunks.invariant.within c.requires.z c.chunks.invariant.c

pub returns-clause-d : goal.returns-clause-d
returns-clause-d c =
    so_far_all c.args.h.now c.args.w.now (map (to_z w32) c.chunks.d) c.chunks.at c.requires.whole c.chunks-test.false
    c.chunks.invariant.within c.requires.w c.chunks.invariant.d
