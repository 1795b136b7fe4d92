use Rattle.std.proofs.Common.{◌≡◌, ◌∙◌, ap, subst, max, min, arith}
use Rattle.std.specs.Int.{div_ceil}
use Rattle.sdf_warm_up.specs.Warm.{IsLeast}
use Rattle.sdf_parallel.specs.Sizes.{IsPartSize}
use Rattle.sdf_process.proofs.part_sizes.Partition.least_part.Goals as goal

pub returns-clause-part : goal.returns-clause-part
returns-clause-part c =
    let workers : c.max.result ≡ max 1 c.args.self.parts = omega (arith, c.max.ensures) in
    let share : c.div_ceil-share.result ≡ div_ceil c.args.periods (max 1 c.args.self.parts) =
    c.div_ceil-share.ensures ∙ ap (div_ceil c.args.periods) workers in
    subst (λ k. IsLeast (IsPartSize k 1 c.args.self.warm) c.part_size.result)
    (c.min.ensures ∙ (ap (λ k. min k c.periods_in.result) share
    ∙ ap (min (div_ceil c.args.periods (max 1 c.args.self.parts))) c.periods_in.ensures))
    c.part_size.ensures
