use Rattle.std.proofs.Common.{◌∙◌, sym, length, arith}
use Rattle.sdf_queues.proofs.Gathers.{part_is, row_is, parts_inside, row_inside, before_kept, whole_part}
use Rattle.sdf_queues.proofs.parts.deal_row.Goals as goal

pub copy_parts-requires : goal.copy_parts-requires
copy_parts-requires g c = record {
  from_holds = row_inside c.args.width c.args.many (length c.args.row.now) c.requires.row;
  to_holds = λ i. parts_inside c.args.size c.args.at c.args.width c.args.many (length c.args.blocks.now) i
      c.requires.inside c.requires.blocks;
  apart = omega (arith, c.requires.inside);
}

pub returns-then-width-size-clause-dealt : goal.returns-then-width-size-clause-dealt
returns-then-width-size-clause-dealt g c = λ i l.
    sym (whole_part c.args.row.now c.copy_from_slice.new.self c.args.size c.args.at c.args.width c.requires.inside
    c.if-width-size.true c.copy_from_slice.ensures.after i)
    ∙ row_is c.args.row.now c.args.width i

pub returns-else-width-size-clause-dealt : goal.returns-else-width-size-clause-dealt
returns-else-width-size-clause-dealt g c = λ i l.
    sym (part_is c.copy_parts.new.to c.args.size i c.args.at c.args.width c.requires.inside)
    ∙ (c.copy_parts.ensures.copied i l ∙ row_is c.args.row.now c.args.width i)

pub returns-else-width-size-clause-before : goal.returns-else-width-size-clause-before
returns-else-width-size-clause-before g c = λ i a w l below.
    before_kept c.args.size c.args.many c.args.at c.args.width c.requires.inside c.args.blocks.now c.copy_parts.new.to
    c.copy_parts.ensures.others i a w below
