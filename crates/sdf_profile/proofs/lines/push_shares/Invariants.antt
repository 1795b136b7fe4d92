use Rattle.std.proofs.Common.{◌≡◌, ◌++◌, string_bytes}
use Rattle.sdf_profile.specs.Times.{shares_to}
use Rattle.sdf_profile.proofs.lines.push_shares.Given as goal

abbrev pub invariant-loop-actor : goal.invariant-loop-actor
invariant-loop-actor l = string_bytes l.text ≡ string_bytes l.initial.text ++ shares_to l.design.names l.spent l.actor
