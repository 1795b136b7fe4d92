use Rattle.std.proofs.Common.{ℕ, ◌+◌, ◌<◌, ◌≤◌, get_or}
use Rattle.sdf_times.proofs.starts.Starts.are_in_turn.Given as goal

abbrev pub invariant-loop-next : goal.invariant-loop-next
invariant-loop-next l = (k : ℕ) → k + 1 < l.next → get_or l.self k 0 + l.pause ≤ get_or l.self (k + 1) 0
