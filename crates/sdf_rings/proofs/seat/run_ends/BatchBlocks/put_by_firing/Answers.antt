use Rattle.std.proofs.Common.{slice_index, length, arith, refl}
use Rattle.rtrb.specs.Ring.{known_free}
use Rattle.sdf_rings.specs.Ends.{Gave}
use Rattle.sdf_rings.proofs.Looks.{gave_join, gave_less}
use Rattle.sdf_rings.proofs.RunEnds.{place, fits, moved_next, left_next}
use Rattle.sdf_rings.proofs.seat.run_ends.BatchBlocks.put_by_firing.Goals as goal

pub loop-preserved : goal.loop-preserved
loop-preserved g c =
    let r = c.args.self.now in
    let i = c.loop.counter in
    let inside = fits r.size r.many i c.loop.at (length c.args.put.now) (omega arith) c.loop.invariant.at
    c.requires.length in
    record {
      at = place r.size i c.loop.at c.loop.invariant.at;
      gave = moved_next Gave (slice_index r.sizes.now) r.size r.many i c.loop.at (omega arith)
          c.loop.invariant.at gave_join c.args.ends.now c.loop.ends c.put_firing.new.ends
          c.args.put.now c.args.put.now (omega arith) c.loop.invariant.gave c.put_firing.ensures (λ n l. refl);
      room = left_next Gave (slice_index r.sizes.now) r.size r.many i c.loop.at (omega arith)
          c.loop.invariant.at known_free gave_less c.loop.ends c.put_firing.new.ends
          c.args.put.now (length c.args.ends.now) (omega arith) (omega arith) c.requires.ports.size_is (omega arith)
          c.put_firing.ensures c.loop.invariant.room;
    }
