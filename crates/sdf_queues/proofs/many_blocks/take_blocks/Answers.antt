use Rattle.std.proofs.Common.{◌≡◌, ℕ, ◌+◌, ◌*◌, take, drop, get_or, slice_index, arith, ap, ◌∙◌}
use Rattle.std.specs.List.{sum_by}
use Rattle.std.proofs.lemmas.List.{drop_all, take_all}
use Rattle.std.proofs.lemmas.List.Sums.{sum_by-drop_more}
use Rattle.sdf_queues.specs.Blocks.{samples, front_at}
use Rattle.sdf_node.specs.Many.{nth_block}
use Rattle.sdf_queues.proofs.Ports.{turn_at, whole, holds, rooms_more, taken_more}
use Rattle.sdf_queues.proofs.ManyPorts.{front_more, blocks_whole}
use Rattle.sdf_queues.proofs.TwoPorts.{pair_size}
use Rattle.sdf_queues.proofs.many_blocks.take_blocks.Goals as goal

pub take_pairs-requires-clause-length : goal.take_pairs-requires-clause-length
take_pairs-requires-clause-length g c =
    let two = pair_size (c.are_pairs.ensures c.if-are_pairs.true) in
    let turn : c.args.times * 2 ≡ 2 * c.args.times = omega arith in
    c.requires.length ∙ (ap (λ n. c.args.times * n) (c.requires.size ∙ two) ∙ turn)

pub take_row-requires-clause-held : goal.take_row-requires-clause-held
take_row-requires-clause-held g c =
    let turn = turn_at c.args.queues.now c.loop-c.queues c.loop-c.c-index c.requires.ports c.loop-c.auto.queues
    c.loop-c-test.true in
    holds turn (λ d. c.args.times * slice_index turn.sizes d) c.index-queues-c.result c.requires.held
    c.loop-c.invariant.queues

pub loop-c-preserved : goal.loop-c-preserved
loop-c-preserved g c =
    let turn = turn_at c.args.queues.now c.loop-c.queues c.loop-c.c-index c.requires.ports c.loop-c.auto.queues
    c.loop-c-test.true in
    let d : ℕ = get_or turn.ports turn.i 0 in
    let width = slice_index turn.sizes in
    let size = λ (e : ℕ). c.args.times * width e in
    let x = c.index-queues-c.result in
    let q = c.take_row.new.queue in
    let inv = c.loop-c.invariant in
    let old = whole turn size x inv.queues in
    record {
      at = omega (arith, sum_by-drop_more width turn.ports turn.i 0 turn.known, inv.at);
      blocks = λ j m. front_more
          (λ e. take (width e) (drop (j * width e) (samples turn.was e))) turn.ports turn.i
          (take c.loop-c.at (nth_block c.args.size c.loop-c.blocks j))
          (take (c.loop-c.at + width d) (nth_block c.args.size c.take_row.new.blocks j))
          (take (width d) (drop (j * width d) (get_or turn.now d x).samples)) turn.known (inv.blocks j m)
          (ap (λ xs. take (width d) (drop (j * width d) xs)) old)
          (c.take_row.ensures.blocks j m);
      queues = taken_more turn size x q (ap (λ q. q.samples) c.take_row.ensures.queue) inv.queues;
      rooms = rooms_more turn x q (ap (λ q. q.room) c.take_row.ensures.queue) inv.rooms;
    }

pub returns-clause-blocks : goal.returns-clause-blocks
returns-clause-blocks g c =
    let ports = c.args.ports.now.channels.now in
    let sizes = c.args.ports.now.sizes.now in
    let i = c.loop-c.c-index in
    let past = c.loop-c-test.false in
    let none : sum_by (slice_index sizes) (drop i ports) ≡ 0 =
    ap (sum_by (slice_index sizes)) (drop_all i ports past) in
    blocks_whole (front_at sizes ports c.args.queues.now) c.args.size c.args.times c.loop-c.at
    c.loop-c.blocks (c.loop-c.auto.blocks ∙ c.requires.length) (omega (arith, none, c.loop-c.invariant.at))
    (λ j m. c.loop-c.invariant.blocks j m
    ∙ ap (λ ps. front_at sizes ps c.args.queues.now j) (take_all i ports past))
