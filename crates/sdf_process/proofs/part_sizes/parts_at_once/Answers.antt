use Rattle.std.proofs.Common.{◌≡◌, ◌∙◌, max, min, ap, sym, subst, arith}
use Rattle.std.specs.Int.{div_ceil}
use Rattle.sdf_graph.specs.Periods.{IsLeastPeriod}
use Rattle.sdf_graph.specs.Rates.{rates}
use Rattle.sdf_actor.specs.Graphs.{graph_of}
use Rattle.sdf_kit.specs.Kit.{kit_steps}
use Rattle.sdf_process.specs.Cuts.{AreAtOnce, IsLeastPart}
use Rattle.sdf_process.specs.Output.{io_rates_of}
use Rattle.sdf_process.proofs.part_sizes.parts_at_once.Goals as goal

pub returns-clause-few : goal.returns-clause-few
returns-clause-few c = omega (arith, c.min.ensures, c.max.ensures)

pub returns-clause-parts : goal.returns-clause-parts
returns-clause-parts c = λ q period.
    let least : IsLeastPeriod (rates (graph_of kit_steps c.net.result.now)) q =
    subst (λ n. IsLeastPeriod (rates (graph_of kit_steps n)) q) (sym c.net.ensures.value) period in
    let same : c.of_net-io.result ≡ io_rates_of c.args.design.now.net q =
    c.of_net-io.ensures.value q least ∙ ap (λ n. io_rates_of n q) c.net.ensures.value in
    let periods : c.min-periods.result ≡ min (div_ceil c.args.frames c.of_net-io.result.made) 4294967295 =
    c.min-periods.ensures ∙ (ap (min c.div_ceil.result) c.from.ensures ∙
    ap (λ k. min k 4294967295) c.div_ceil.ensures) in
    let piece = c.min-piece.ensures ∙ ap (min c.piece_periods.result) periods in
    subst (λ x. AreAtOnce x (record { parts = c.args.workers; warm = c.args.warm }) c.args.frames c.min.result)
    same (
      c.piece_periods.result,
      c.piece_periods.ensures.piece,
      c.least_part-part.result,
      subst (λ k. IsLeastPart c.of_net-io.result (record { parts = c.args.workers; warm = c.args.warm }) k
          c.least_part-part.result) piece c.least_part-part.ensures.part,
      c.min.ensures ∙ (ap (λ k. min k c.max.result)
          (c.div_ceil-2.ensures ∙ ap (λ k. div_ceil k c.least_part-part.result) piece)
          ∙ ap (min _) (let z : c.max.result ≡ max 1 c.args.workers = omega (arith, c.max.ensures) in z)),
    )
