use Rattle.std.proofs.Common.{◌++◌, ◌∷◌, [], map, sym, ap, ◌∙◌, zero-add}
use Rattle.std.specs.List.{range_with_len}
use Rattle.std.proofs.lemmas.List.FromFn.{map-range_with_len_more}
use Rattle.sdf_actor.specs.Graphs.{rate_of}
use Rattle.sdf_actor.proofs.node.Node.rates.Goals as goal

pub loop-phase-preserved : goal.loop-phase-preserved
loop-phase-preserved g c =
    let f = rate_of g.A.Actor.steps c.args.side c.args.self.now c.args.port in
    c.in_ok-push.ensures.items ∙ (ap (λ xs. xs ++ c.rate.result ∷ []) c.loop-phase.invariant ∙
    (ap (λ x. map f (range_with_len 0 c.loop-phase.phase) ++ x ∷ []) c.rate.ensures
    ∙ sym (map-range_with_len_more f 0 c.loop-phase.phase c.loop-phase.phase (zero-add c.loop-phase.phase))))
