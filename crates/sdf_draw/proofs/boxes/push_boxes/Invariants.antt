use Rattle.std.proofs.Common.{◌≡◌, ◌++◌, string_bytes}
use Rattle.std.specs.Prelude.{slice_index}
use Rattle.sdf_analyze.specs.Texts.{lines_to}
use Rattle.sdf_draw.specs.Layouts.{place}
use Rattle.sdf_draw.specs.Boxes.{box_text}
use Rattle.sdf_draw.proofs.boxes.push_boxes.Given as goal

abbrev pub invariant-loop-actor : goal.invariant-loop-actor
invariant-loop-actor l = string_bytes l.text ≡ string_bytes l.initial.text
    ++ lines_to (λ a. box_text l.design a (place l.layout.places.items a) (slice_index l.period.repetitions a)) l.actor
