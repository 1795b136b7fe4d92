use Rattle.std.proofs.Common.{◌++◌, ◌∷◌, [], map, sym, ap, ◌∙◌, zero-add}
use Rattle.std.specs.List.{range_with_len}
use Rattle.std.proofs.lemmas.List.FromFn.{map-range_with_len_more}
use Rattle.sdf_kit.specs.Ports.{moved}
use Rattle.sdf_why.proofs.channels.rates.Goals as goal

pub loop-phase-preserved : goal.loop-phase-preserved
loop-phase-preserved c =
    let f = moved c.args.side c.args.port in
    c.in_ok-push.ensures.items ∙ (ap (λ xs. xs ++ c.moved.result ∷ []) c.loop-phase.invariant ∙
    (ap (λ x. map f (range_with_len 0 c.loop-phase.phase) ++ x ∷ []) c.moved.ensures
    ∙ sym (map-range_with_len_more f 0 c.loop-phase.phase c.loop-phase.phase (zero-add c.loop-phase.phase))))
