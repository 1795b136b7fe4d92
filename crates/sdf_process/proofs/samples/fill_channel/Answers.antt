use Rattle.std.proofs.Common.{◌≤◌, ◌+◌, ◌*◌, ◌∙◌, ℕ, length, pos, sym, inl, inr, arith}
use Rattle.std.specs.Int.{div_ceil}
use Rattle.std.proofs.Math.Nat.{mul-le-mul_right}
use Rattle.std.proofs.lemmas.Bool.{cases_lt}
use Rattle.std.proofs.lemmas.Grind.{div_ceil_times}
use Rattle.std.proofs.lemmas.List.{get_or_past}
use Rattle.sdf_process.proofs.samples.fill_channel.Goals as goal

pub returns-else-channels-eq1-clause-copied : goal.returns-else-channels-eq1-clause-copied
returns-else-channels-eq1-clause-copied c = λ at l.
    let channels : ℕ = c.args.channels in
    let left : ℕ = c.saturating_sub-left.result in
    let all : ℕ = div_ceil left channels in
    elim (cases_lt at c.min-many.result) [
      | inl below ↦ c.copy_channel-else-channels-eq1.ensures.copied at below
      | inr past ↦
          let reached : all ≤ at = omega (arith, c.min-many.ensures, c.div_ceil.ensures, past, l) in
          let over : all * channels ≤ at * channels = mul-le-mul_right channels reached in
          let most : left ≤ all * channels = (div_ceil_times left channels c.requires.channels).0 in
          let none : length c.args.samples.now ≤ c.args.start + at * channels =
          omega (arith, over, most, c.saturating_sub-left.ensures) in
          c.copy_channel-else-channels-eq1.ensures.kept at past ∙ (c.silence.ensures.silent at past
          ∙ sym (get_or_past c.args.samples.now (c.args.start + at * channels) (pos 0) none))
    ]
