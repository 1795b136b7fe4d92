use Rattle.std.proofs.Common.{arith, below_more, ◌≡◌, ◌++◌, ◌∷◌, [], sym, ap, ◌∙◌, ℕ}
use Rattle.std.proofs.lemmas.List.FromFn.{map-range_with_len_more}
use Rattle.sdf_actor.specs.Sides.{channel_at}
use Rattle.sdf_actor.specs.Wires.{netlist}
use Rattle.sdf_actor.proofs.Readings.{length-wires}
use Rattle.sdf_actor.proofs.checks.ports.channels_at.Goals as goal

pub loop-port-preserved : goal.loop-port-preserved
loop-port-preserved g c =
    let first = c.in-Some.ensures in
    record {
      made =
          c.in_ok-push.ensures.items ∙
          (ap (λ xs. xs ++ c.in-Some.channel ∷ []) c.loop-port.invariant.made ∙
          (ap (λ x. Rattle.std.proofs.Common.map (channel_at (netlist {A = ℕ} [] c.args.links.now) c.args.side
          c.args.node) (Rattle.std.specs.List.range_with_len 0 c.loop-port.port) ++ x ∷ []) first.0 ∙
          sym (map-range_with_len_more (channel_at (netlist {A = ℕ} [] c.args.links.now) c.args.side c.args.node) 0
          c.loop-port.port c.loop-port.port (omega arith))));
      joined = below_more _ _ c.loop-port.invariant.joined
          (omega (arith, first.0, first.1, length-wires c.args.links.now));
    }
