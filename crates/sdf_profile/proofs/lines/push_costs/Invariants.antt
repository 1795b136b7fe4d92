use Rattle.std.proofs.Common.{◌≡◌, ◌++◌, string_bytes}
use Rattle.sdf_profile.specs.Times.{costs_to}
use Rattle.sdf_profile.proofs.lines.push_costs.Given as goal

abbrev pub invariant-loop-actor : goal.invariant-loop-actor
invariant-loop-actor l = string_bytes l.text ≡ string_bytes l.initial.text ++ costs_to l.design.names l.costs l.actor
