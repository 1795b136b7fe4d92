use Rattle.std.proofs.Common.{◌≡◌, ◌≤◌, ◌∙◌, ap, arith, sym, subst}
use Rattle.std.specs.Int.{div_ceil}
use Rattle.sdf_kit.specs.Fir.{kept_len}
use Rattle.sdf_kit.specs.Kit.{kit_steps}
use Rattle.sdf_kit.specs.Ports.{moved, rate}
use Rattle.sdf_kit.specs.declared.kit.Kit.TheVariants.{Fir}
use Rattle.sdf_warm_up.specs.Warm.{Forgets, IsLeast}
use Rattle.sdf_warm_up.proofs.KeptSamples.{fir_memory}
use Rattle.sdf_warm_up.proofs.memory.fir_memory.Goals as goal

pub returns : goal.returns
returns c =
    let f = c.args.fir.now in
    let down : c.moved-rate.result ≡ f.down = c.moved-rate.ensures ∙ ap (λ p. moved p.inputs 0 0) c.ports.ensures.is in
    let is : c.div_ceil.result ≡ div_ceil (kept_len f) f.down =
    c.div_ceil.ensures ∙ (λ κ. div_ceil (c.kept_len.ensures.is κ) (down κ)) in
    let some : 1 ≤ f.down = subst (λ p. 1 ≤ rate p.inputs) c.ports.ensures.is c.ports.ensures.limits.inputs.some in
    subst (IsLeast (Forgets kit_steps (Fir f))) (sym is) (fir_memory f (omega arith))
