use Rattle.std.proofs.Common.{subst}
use Rattle.sdf_actor.specs.NetFaults.{WasAccepted}
use Rattle.sdf_queues.proofs.Theorems.{nets_have_facts}
use Rattle.sdf_kit.specs.Kit.{kit_steps}
use Rattle.sdf_process.proofs.Outputs.{one_output_of}
use Rattle.sdf_process.proofs.laws.one_output.Goals as goal

pub returns : goal.returns
returns c =
    let accepted = subst (WasAccepted kit_steps) c.net-net.ensures.value
    c.graph.ensures.accepted in
    let facts = nets_have_facts kit_steps c.args.design.now.net accepted in
    one_output_of c.args.design.now facts.net facts.graph facts.alike accepted.1.lists
    c.one_history.ensures.is_unique
