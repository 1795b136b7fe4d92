use Rattle.std.proofs.Common.{[], ℕ, List, string_bytes}
use Rattle.std.specs.Prelude.{slice_index, slice_index_or}
use Rattle.sdf_texts.specs.Texts.{q_line}
use Rattle.sdf_texts.proofs.Lines.{line_added}
use Rattle.sdf_texts.proofs.texts.push_q_lines.Goals as goal

pub loop-actor-preserved : goal.loop-actor-preserved
loop-actor-preserved c =
    let line : ℕ → List ℕ = λ a. q_line (slice_index_or c.args.design.now.names a [])
    (slice_index c.args.repetitions.now a) in
    line_added line c.loop-actor.actor (string_bytes c.args.text.now) (string_bytes c.loop-actor.text)
    _ c.loop-actor.invariant
    (rw (c.name.ensures, c.of.ensures) at c.in_ok-push_q_line.ensures)
