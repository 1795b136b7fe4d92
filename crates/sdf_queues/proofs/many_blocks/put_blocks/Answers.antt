use Rattle.std.proofs.Common.{◌≡◌, ℕ, ◌*◌, ◌++◌, take, drop, get_or, slice_index, arith, ap, sym, ◌∙◌}
use Rattle.std.proofs.lemmas.List.{append-nil, drop_all}
use Rattle.std.proofs.lemmas.List.Sums.{sum_by-drop_more}
use Rattle.sdf_actor.specs.Histories.{spread}
use Rattle.sdf_queues.specs.Blocks.{samples, dealt}
use Rattle.sdf_queues.proofs.Ports.{turn_at, untouched_more, rooms_more}
use Rattle.sdf_queues.proofs.ManyPorts.{puts_more, row_put, joined_none}
use Rattle.sdf_queues.proofs.TwoPorts.{pair_size}
use Rattle.sdf_queues.proofs.many_blocks.put_blocks.Goals as goal

pub put_on_pairs-requires-clause-length : goal.put_on_pairs-requires-clause-length
put_on_pairs-requires-clause-length g c =
    let two = pair_size (c.are_pairs.ensures c.if-are_pairs.true) in
    let turn : c.args.times * 2 ≡ 2 * c.args.times = omega arith in
    c.requires.length ∙ (ap (λ n. c.args.times * n) (c.requires.size ∙ two) ∙ turn)

pub returns-then-are_pairs-clause-queues : goal.returns-then-are_pairs-clause-queues
returns-then-are_pairs-clause-queues g c = λ d k.
    let ports = c.args.ports.now.channels.now in
    let sizes = c.args.ports.now.sizes.now in
    let two = pair_size (c.are_pairs.ensures c.if-are_pairs.true) in
    c.put_on_pairs.ensures.queues d k ∙ ap (λ n. samples c.args.queues.now d
    ++ dealt sizes ports n c.args.block.now d c.args.times) (sym (c.requires.size ∙ two))

pub loop-c-preserved : goal.loop-c-preserved
loop-c-preserved g c =
    let turn = turn_at c.args.queues.now c.loop-c.queues c.loop-c.c-index c.requires.ports c.loop-c.auto.queues
    c.loop-c-test.true in
    let x = c.index-queues-c.result in
    let q = c.put_row.new.self in
    let d : ℕ = get_or turn.ports turn.i 0 in
    let inv = c.loop-c.invariant in
    record {
      at = omega (arith, sum_by-drop_more (slice_index turn.sizes) turn.ports turn.i 0 turn.known, inv.at);
      untouched = untouched_more turn q inv.untouched;
      queues = puts_more turn x q (λ j. take c.args.size (drop (j * c.args.size) c.args.block.now))
          c.args.times c.loop-c.at
          (ap (λ q. q.samples) c.put_row.ensures
          ∙ ap (λ ys. (get_or turn.now d x).samples ++ ys)
          (row_put c.args.block.now c.loop-c.at (slice_index turn.sizes d) c.args.size c.args.times))
          (λ e. dealt turn.sizes turn.ports c.args.size c.args.block.now e c.args.times) inv.queues;
      rooms = rooms_more turn x q (ap (λ q. q.room) c.put_row.ensures) inv.rooms;
    }

pub returns-clause-queues : goal.returns-clause-queues
returns-clause-queues g c = λ e k.
    let ports = c.args.ports.now.channels.now in
    let size = slice_index c.args.ports.now.sizes.now in
    let i = c.loop-c.c-index in
    let part = λ (j : ℕ). drop c.loop-c.at (take c.args.size (drop (j * c.args.size) c.args.block.now)) in
    let none = joined_none (λ j. spread size (drop i ports) (part j) e) c.args.times
    (λ j. ap (λ ds. spread size ds (part j) e) (drop_all i ports c.loop-c-test.false)) in
    sym (append-nil (samples c.loop-c.queues e))
    ∙ (ap (λ ys. samples c.loop-c.queues e ++ ys) (sym none) ∙ c.loop-c.invariant.queues e k)
