use Rattle.sdf_warm_up.proofs.KeptSamples.{others_forget}
use Rattle.sdf_warm_up.proofs.memory.KitForgetful.memory.Goals as goal

pub returns-in_default : goal.returns-in_default
returns-in_default c = others_forget c.args.self.now c.in_default.not-Fir c.in_default.not-Delay
