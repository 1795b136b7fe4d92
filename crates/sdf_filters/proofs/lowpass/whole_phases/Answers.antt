use Rattle.std.proofs.Common.{◌-◌, ◌%◌, ◌<◌, arith}
use Rattle.std.proofs.Math.Nat.{mod-lt}
use Rattle.sdf_filters.proofs.lowpass.whole_phases.Goals as goal

pub next_multiple_of-whole-requires-clause-fits : goal.next_multiple_of-whole-requires-clause-fits
next_multiple_of-whole-requires-clause-fits c =
    let less : (c.args.up - c.max-least.result % c.args.up) % c.args.up < c.args.up =
    mod-lt (c.args.up - c.max-least.result % c.args.up) c.requires.some in
    omega arith
