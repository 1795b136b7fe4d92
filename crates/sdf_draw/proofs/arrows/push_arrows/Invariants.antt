use Rattle.std.proofs.Common.{◌≡◌, ◌++◌, string_bytes}
use Rattle.sdf_analyze.specs.Texts.{lines_to}
use Rattle.sdf_draw.specs.Arrows.{arrow_text}
use Rattle.sdf_draw.proofs.arrows.push_arrows.Given as goal

abbrev pub invariant-loop-link : goal.invariant-loop-link
invariant-loop-link l = string_bytes l.text ≡ string_bytes l.initial.text
    ++ lines_to (arrow_text l.design l.table.caps l.layout.places.items l.layout.routes.items) l.link
