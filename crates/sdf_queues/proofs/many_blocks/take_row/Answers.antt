use Rattle.std.proofs.Common.{ap, ◌∙◌}
use Rattle.sdf_node.specs.Many.{nth_block}
use Rattle.sdf_queues.proofs.ManyPorts.{row_taken}
use Rattle.sdf_queues.proofs.many_blocks.take_row.Goals as goal

pub returns-clause-blocks : goal.returns-clause-blocks
returns-clause-blocks g c =
    row_taken c.args.queue.now.samples c.deal_row.new.blocks c.args.blocks.now c.args.at c.args.width c.args.times
    c.args.size
    (λ i l. c.deal_row.ensures.dealt i l ∙ ap (λ xs. nth_block c.args.width xs i) c.oldest.ensures)
    c.deal_row.ensures.before
