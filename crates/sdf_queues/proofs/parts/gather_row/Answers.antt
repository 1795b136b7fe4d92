use Rattle.std.proofs.Common.{◌+◌, ◌∙◌, sym, slice_range, length, arith}
use Rattle.sdf_node.specs.Many.{nth_block}
use Rattle.sdf_queues.proofs.Gathers.{part_is, parts_inside, row_inside, row_joined, whole_part}
use Rattle.sdf_queues.proofs.parts.gather_row.Goals as goal

pub copy_parts-requires : goal.copy_parts-requires
copy_parts-requires g c = record {
  from_holds = λ i. parts_inside c.args.size c.args.at c.args.width c.args.many (length c.args.blocks.now) i
      c.requires.inside c.requires.blocks;
  to_holds = row_inside c.args.width c.args.many (length c.args.row.now) c.requires.row;
  apart = omega arith;
}

pub returns-then-width-size : goal.returns-then-width-size
returns-then-width-size g c =
    row_joined (λ i. slice_range (nth_block c.args.size c.args.blocks.now i) c.args.at (c.args.at + c.args.width))
    c.args.width c.args.many c.copy_from_slice.new.self
    (omega (arith, c.copy_from_slice.ensures.len, c.requires.row))
    (λ i l. whole_part c.copy_from_slice.new.self c.args.blocks.now c.args.size c.args.at c.args.width
    c.requires.inside c.if-width-size.true (sym c.copy_from_slice.ensures.after) i)

pub returns-else-width-size : goal.returns-else-width-size
returns-else-width-size g c =
    row_joined (λ i. slice_range (nth_block c.args.size c.args.blocks.now i) c.args.at (c.args.at + c.args.width))
    c.args.width c.args.many c.copy_parts.new.to (omega (arith, c.copy_parts.auto.to, c.requires.row))
    (λ i l. c.copy_parts.ensures.copied i l
    ∙ part_is c.args.blocks.now c.args.size i c.args.at c.args.width c.requires.inside)
