use Rattle.std.proofs.Common.{◌∙◌, ◌^◌, pos, ap, FitsSigned, w32}
use Rattle.std.proofs.lemmas.Int.{to_z-of_z}
use Rattle.std.proofs.lemmas.Result.{MatchResult-weaker}
use Rattle.sdf_filters.specs.LowpassValue.{LowpassValue}
use Rattle.sdf_filters.specs.Differences.{impulse}
use Rattle.sdf_filters.proofs.Differing.{high_taps}
use Rattle.sdf_filters.proofs.lowpass.Lowpass.highpass.Goals as goal

pub returns : goal.returns
returns c =
    let fits : FitsSigned w32 c.height.result = record { sfits = c.height.type_inv } in
    let top = c.in_ok-impulse.ensures ∙ ap (impulse c.args.count)
    (to_z-of_z w32 c.height.result fits ∙ (c.height.ensures
    ∙ ap (λ (f : LowpassValue). pos (2 ^ f.shift)) c.self.view_is)) in
    MatchResult-weaker c.differences.result c.differences.ensures
    (λ taps. high_taps c.args.self.now c.args.count c.in_ok-low.low.items c.in_ok-impulse.impulse.items
    c.deref.result.now c.deref-2.result.now taps.items c.deref.ensures.value c.deref-2.ensures.value
    top c.requires.up c.requires.odd c.in_ok-low.ensures)
    (λ _ fault. fault)
