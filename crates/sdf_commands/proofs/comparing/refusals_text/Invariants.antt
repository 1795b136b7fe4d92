use Rattle.std.proofs.Common.{◌≡◌, ◌+◌, string_bytes}
use Rattle.std.specs.List.{flat_map, range_with_len}
use Rattle.sdf_commands.specs.Refusals.{refusal_of}
use Rattle.sdf_commands.proofs.comparing.refusals_text.Given as goal

-- the lines of the faults so far
abbrev pub invariant-loop-number : goal.invariant-loop-number
invariant-loop-number l = string_bytes l.text ≡
    flat_map (λ before. refusal_of l.entries (before + 1)) (range_with_len 0 l.number)
