use Rattle.std.proofs.Common.{◌≡◌, ◌++◌, string_bytes, take}
use Rattle.std.specs.List.{flat_map}
use Rattle.sdf_actor.specs.Graphs.{graph_of}
use Rattle.sdf_kit.specs.Kit.{kit_steps}
use Rattle.sdf_why.specs.Loops.{arrow_to}
use Rattle.sdf_why.proofs.loops.push_arrows.Given as goal

abbrev pub invariant-loop-number : goal.invariant-loop-number
invariant-loop-number l = string_bytes l.text ≡ string_bytes l.initial.text
    ++ flat_map (arrow_to l.design.names (graph_of kit_steps l.design.net)) (take l.number-index l.numbers)
