use Rattle.std.proofs.Common.{◌≡◌, ℕ, ◌*◌, ◌++◌, take, drop, get_or, set, slice_index, sym, ap, ◌∙◌}
use Rattle.std.proofs.Common.{arith}
use Rattle.sdf_queues.specs.Blocks.{front_at}
use Rattle.sdf_node.specs.Many.{nth_block}
use Rattle.sdf_queues.proofs.ManyPorts.{same_joined}
use Rattle.sdf_queues.proofs.Ports.{same_x}
use Rattle.sdf_queues.proofs.TwoPorts.{pair_front, pair_taken, pair_rooms}
use Rattle.sdf_queues.proofs.many_blocks.take_pairs.Goals as goal

pub returns-clause-blocks : goal.returns-clause-blocks
returns-clause-blocks g c =
    let ports = c.args.ports.now.channels.now in
    let sizes = c.args.ports.now.sizes.now in
    let was = c.args.queues.now in
    let times = c.args.times in
    let pairs = c.requires.pairs in
    let left = c.oldest.ensures ∙ ap (take times) (ap (λ q. q.samples) c.index-queues-first.is
    ∙ sym (same_x was (get_or ports 0 0) c.index-queues-first.result
    (c.requires.ports.known 0 (omega (arith, pairs.two))))) in
    let right = c.oldest-2.ensures ∙ ap (take times) (ap (λ q. q.samples) c.index-queues-second.is
    ∙ sym (same_x was (get_or ports 1 0) c.index-queues-second.result
    (c.requires.ports.known 1 (omega (arith, pairs.two))))) in
    c.interleave.ensures ∙ same_joined (λ i. nth_block 1 c.oldest.result.now i ++ nth_block 1 c.oldest-2.result.now i)
    (front_at sizes ports was) times
    (λ i l. pair_front pairs was c.requires.ports times i c.oldest.result.now
    c.oldest-2.result.now l left right)

-- each gives a sample for each firing
all_of : (times size : ℕ) → size ≡ 1 → times ≡ times * size
all_of times size one = let e : times ≡ times * 1 = omega arith in e ∙ ap (λ n. times * n) (sym one)

pub returns-clause-queues : goal.returns-clause-queues
returns-clause-queues g c =
    let ports = c.args.ports.now.channels.now in
    let sizes = c.args.ports.now.sizes.now in
    let was = c.args.queues.now in
    let one = c.requires.pairs.one in
    pair_taken c.requires.pairs was c.requires.ports (λ d. c.args.times * slice_index sizes d)
    c.index-queues-first-2.result c.index-queues-second-2.result
    c.release.new.self c.release-2.new.self
    (ap (λ q. q.samples) c.release.ensures ∙ ap (λ n. drop n (get_or was (get_or ports 0 0)
    c.index-queues-first-2.result).samples) (all_of c.args.times (slice_index sizes (get_or ports 0 0))
    (one 0 (omega (arith, c.requires.pairs.two)))))
    (ap (λ q. q.samples) c.release-2.ensures ∙ ap (λ n. drop n (get_or (set was (get_or ports 0 0) c.release.new.self)
    (get_or ports 1 0) c.index-queues-second-2.result).samples) (all_of c.args.times
    (slice_index sizes (get_or ports 1 0)) (one 1 (omega (arith, c.requires.pairs.two)))))

pub returns-clause-rooms : goal.returns-clause-rooms
returns-clause-rooms g c =
    pair_rooms c.requires.pairs c.args.queues.now c.requires.ports c.index-queues-first-2.result
    c.index-queues-second-2.result c.release.new.self c.release-2.new.self
    (ap (λ q. q.room) c.release.ensures) (ap (λ q. q.room) c.release-2.ensures)
