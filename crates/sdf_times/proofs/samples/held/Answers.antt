use Rattle.std.proofs.Common.{ℕ, ◌<◌, length, ap, arith}
use Rattle.sdf_times.proofs.Caps.{cap_small, sum_more}
use Rattle.sdf_times.proofs.samples.held.Goals as goal

pub overflow_add-held : goal.overflow_add-held
overflow_add-held c =
    let g = c.args.graph.now in
    let shape = c.channels-channel-end.ensures.shape in
    let known : c.loop-channel.channel < length g.channels =
    omega (
      arith,
      c.loop-channel-test.true,
      c.loop-channel.auto.channel-end,
      ap length c.channels-channel-end.ensures.list,
    ) in
    let low = cap_small g shape c.requires.0 c.args.table.now
    c.requires.1 c.loop-channel.channel known in
    omega (arith, low, c.cap-held.ensures, c.loop-channel.invariant.small, shape.narrow, known)

pub loop-channel-preserved : goal.loop-channel-preserved
loop-channel-preserved c =
    let g = c.args.graph.now in
    let i : ℕ = c.loop-channel.channel in
    let shape = c.channels-channel-end.ensures.shape in
    let known : i < length g.channels = omega (
      arith,
      c.loop-channel-test.true,
      c.loop-channel.auto.channel-end,
      ap length c.channels-channel-end.ensures.list,
    ) in
    let low = cap_small g shape c.requires.0 c.args.table.now
    c.requires.1 i known in
    let more = sum_more c.args.table.now.caps i (omega (arith, known, c.requires.1.table.exact.caps_all)) in
    record {
      held = omega (arith, c.loop-channel.invariant.held, c.cap-held.ensures, more);
      small = omega (arith, c.loop-channel.invariant.small, c.cap-held.ensures, low);
    }
