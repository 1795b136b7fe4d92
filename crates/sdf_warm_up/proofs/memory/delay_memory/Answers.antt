use Rattle.std.proofs.Common.{sym, subst}
use Rattle.sdf_kit.specs.Kit.{kit_steps}
use Rattle.sdf_kit.specs.declared.kit.Kit.TheVariants.{Delay}
use Rattle.sdf_warm_up.specs.Warm.{Forgets, IsLeast}
use Rattle.sdf_warm_up.proofs.KeptSamples.{delay_memory}
use Rattle.sdf_warm_up.proofs.memory.delay_memory.Goals as goal

pub returns : goal.returns
returns c = subst (IsLeast (Forgets kit_steps (Delay c.args.delay.now))) (sym c.length.ensures.is)
    (delay_memory c.args.delay.now)
