use Rattle.std.proofs.Common.{◌≡◌, ◌++◌, string_bytes, take}
use Rattle.std.specs.List.{flat_map}
use Rattle.sdf_draw.specs.Charts.{bar_text}
use Rattle.sdf_draw.proofs.chart.push_bars.Given as goal

abbrev pub invariant-loop-bar : goal.invariant-loop-bar
invariant-loop-bar l = string_bytes l.text ≡ string_bytes l.initial.text
    ++ flat_map (bar_text l.design l.worker) (take l.bar-index l.bars)
