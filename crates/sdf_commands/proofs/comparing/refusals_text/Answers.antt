use Rattle.std.proofs.Common.{◌+◌, [], string_bytes}
use Rattle.sdf_commands.specs.Refusals.{refusal_of}
use Rattle.sdf_why.proofs.Theorems.{line_added}
use Rattle.sdf_commands.proofs.comparing.refusals_text.Goals as goal

pub loop-number-preserved : goal.loop-number-preserved
loop-number-preserved c =
    line_added (λ before. refusal_of c.args.entries.now (before + 1))
    c.loop-number.number [] (string_bytes c.loop-number.text)
    _ c.loop-number.invariant c.in_ok-push_refusal.ensures
