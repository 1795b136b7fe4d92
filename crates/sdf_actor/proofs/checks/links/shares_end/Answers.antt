use Rattle.std.proofs.Common.{arith, below_more, ◌<◌, length, sym, ap, ◌∙◌}
use Rattle.sdf_actor.specs.Nets.{Wire}
use Rattle.sdf_actor.proofs.Readings.{wire_read, ends_apart}
use Rattle.sdf_actor.proofs.checks.links.shares_end.Goals as goal

pub loop-d-preserved : goal.loop-d-preserved
loop-d-preserved g c =
    let low : c.loop-d.d < length c.args.links.now = omega arith in
    let read = wire_read c.args.links.now c.loop-d.d c.index-links-d.result low c.index-links-d.is in
    let here = c.loop-d.invariant.here in
    record {
      here = here;
      from = below_more _ _ c.loop-d.invariant.from
          (λ e. ends_apart c.index-links-d.result.from c.index-links-c.result.from c.if-eq.ensures
          (sym (ap (λ (w : Wire g.row.T.Denot). w.from) read)
          ∙ (e ∙ sym (ap (λ (w : Wire g.row.T.Denot). w.from) here))));
      to = below_more _ _ c.loop-d.invariant.to
          (λ e. ends_apart c.index-links-d.result.to c.index-links-c.result.to c.if-eq-2.ensures
          (sym (ap (λ (w : Wire g.row.T.Denot). w.to) read) ∙ (e ∙ sym (ap (λ (w : Wire g.row.T.Denot). w.to) here))));
    }
