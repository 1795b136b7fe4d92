use Rattle.std.proofs.Common.{ℕ, ◌+◌, ◌*◌, ◌≤◌, ◌∙◌, drop, slice_range, subst, sym, ap, arith}
use Rattle.std.proofs.Math.Nat.{mul-le-mul_right}
use Rattle.std.proofs.lemmas.List.{take_at, length-take-le}
use Rattle.sdf_node.specs.Many.{nth_block}
use Rattle.sdf_node.proofs.Theorems.{blocks_join}
use Rattle.sdf_rings.specs.Ends.{Drew}
use Rattle.sdf_rings.proofs.RunEnds.{same_joined}
use Rattle.sdf_rings.proofs.seat.run_ends.BatchBlocks.take_part.Goals as goal

pub returns-clause-drew : goal.returns-clause-drew
returns-clause-drew g c =
    let r = c.args.self.now in
    let all = c.args.width * r.many in
    let block = c.take_block.new.block in
    let rest = drop all c.args.scratch.now in
    let fits : all ≤ r.size * r.many = mul-le-mul_right r.many (omega arith) in
    let long = length-take-le all c.args.scratch.now (omega arith) in
    let row = take_at block rest all (omega (arith, long)) in
    subst (Drew c.args.end.now c.take_block.new.end)
    (sym ((blocks_join c.args.width r.many block (omega (arith, long))).1)
    ∙ same_joined (nth_block c.args.width block)
    (λ (i : ℕ). slice_range (nth_block r.size c.deal_row.new.blocks i) c.args.at (c.args.at + c.args.width))
    r.many
    (λ i l. ap (λ xs. nth_block c.args.width xs i) (sym row) ∙ sym (c.deal_row.ensures.dealt i l)))
    c.take_block.ensures
