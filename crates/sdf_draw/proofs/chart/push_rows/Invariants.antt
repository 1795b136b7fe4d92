use Rattle.std.proofs.Common.{◌≡◌, ◌++◌, string_bytes}
use Rattle.sdf_draw.specs.Charts.{rows_text}
use Rattle.sdf_draw.proofs.chart.push_rows.Given as goal

abbrev pub invariant-loop-worker : goal.invariant-loop-worker
invariant-loop-worker l = string_bytes l.text ≡ string_bytes l.initial.text
    ++ rows_text l.design l.table l.figures.starts l.worker
