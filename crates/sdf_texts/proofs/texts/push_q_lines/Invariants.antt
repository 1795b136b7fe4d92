use Rattle.std.proofs.Common.{◌≡◌, ◌++◌, string_bytes}
use Rattle.sdf_texts.specs.Texts.{q_lines}
use Rattle.sdf_texts.proofs.texts.push_q_lines.Given as goal

abbrev pub invariant-loop-actor : goal.invariant-loop-actor
invariant-loop-actor l = string_bytes l.text ≡ string_bytes l.initial.text ++ q_lines l.design l.repetitions l.actor
