use Rattle.std.proofs.Common.{◌≡◌, ◌++◌, string_bytes}
use Rattle.sdf_analyze.specs.Texts.{worker_line, lines_to}
use Rattle.sdf_analyze.proofs.lines.push_workers.Given as goal

abbrev pub invariant-loop-worker : goal.invariant-loop-worker
invariant-loop-worker l = string_bytes l.text ≡ string_bytes l.initial.text ++ lines_to (worker_line l.figures) l.worker
