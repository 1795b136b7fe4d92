use Rattle.std.proofs.Common.{sym, ◌∙◌}
use Rattle.sdf_process.proofs.streaming.Stream.run.Goals as goal

pub run_in_turn-requires-clause-waits : goal.run_in_turn-requires-clause-waits
run_in_turn-requires-clause-waits g c κs within =
    let h = c.requires.step in
    h.3.ready.waits (sym c.is_in_parts.ensures ∙ c.if-is_in_parts.false)
