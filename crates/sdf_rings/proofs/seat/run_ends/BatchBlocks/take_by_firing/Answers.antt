use Rattle.std.proofs.Common.{◌≡◌, slice_index, length, subst, arith}
use Rattle.rtrb.specs.Ring.{known_items}
use Rattle.sdf_node.specs.Many.{nth_block, joined}
use Rattle.sdf_rings.specs.Blocks.{block_of}
use Rattle.sdf_rings.specs.Ends.{Drew, DrewEach}
use Rattle.sdf_rings.proofs.Looks.{drew_join, drew_less}
use Rattle.sdf_rings.proofs.RunEnds.{place, fits, moved_next, left_next}
use Rattle.sdf_rings.proofs.seat.run_ends.BatchBlocks.take_by_firing.Goals as goal

pub loop-preserved : goal.loop-preserved
loop-preserved g c =
    let r = c.args.self.now in
    let i = c.loop.counter in
    let inside = fits r.size r.many i c.loop.at (length c.args.taken.now) (omega arith) c.loop.invariant.at
    c.requires.length in
    record {
      at = place r.size i c.loop.at c.loop.invariant.at;
      drew = moved_next Drew (slice_index r.sizes.now) r.size r.many i c.loop.at (omega arith)
          c.loop.invariant.at drew_join c.args.ends.now c.loop.ends c.take_firing.new.ends
          c.loop.taken c.take_firing.new.taken (omega arith) c.loop.invariant.drew c.take_firing.ensures.drew
          c.take_firing.ensures.before;
      holds = left_next Drew (slice_index r.sizes.now) r.size r.many i c.loop.at (omega arith)
          c.loop.invariant.at (λ e. length (known_items e)) drew_less c.loop.ends c.take_firing.new.ends
          c.take_firing.new.taken (length c.args.ends.now) (omega arith) (omega arith)
          c.requires.ports.size_is (omega arith)
          c.take_firing.ensures.drew c.loop.invariant.holds;
    }

pub returns : goal.returns
returns g c =
    let r = c.args.self.now in
    let e : c.loop.counter ≡ r.many = omega arith in
    subst (λ m. DrewEach c.args.ends.now c.loop.ends
    (λ p. joined (λ i. block_of (slice_index r.sizes.now) p (nth_block r.size c.loop.taken i)) m)) e
    c.loop.invariant.drew
