use Rattle.std.proofs.Common.{◌++◌, ◌∷◌, [], cond, eqb, get_or, sym, ap, ◌∙◌}
use Rattle.sdf_rings.specs.Begun.{place}
use Rattle.sdf_rings.proofs.Dealing.{dealt_more}
use Rattle.sdf_rings.proofs.setup.assignment.Assignment.block_of.Goals as goal

pub loop-actor-preserved : goal.loop-actor-preserved
loop-actor-preserved c =
    let places = c.args.self.now.places.now in
    let order = c.args.self.now.order.now in
    let i = c.loop-actor.actor-index in
    let more = cond (eqb (place places (get_or order i 0)).0 c.args.seat)
    ((place places (get_or order i 0)).1 ∷ []) [] in
    c.in_ok-add_if_here.ensures ∙
    (ap (λ xs. xs ++ more) c.loop-actor.invariant ∙ sym (dealt_more places c.args.seat order i c.loop-actor-test.true))
