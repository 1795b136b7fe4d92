use Rattle.std.proofs.lemmas.Result.{MatchResult-weaker}
use Rattle.sdf_filters.proofs.Differing.{band_taps}
use Rattle.sdf_filters.proofs.lowpass.Lowpass.bandpass.Goals as goal

pub returns : goal.returns
returns c = MatchResult-weaker c.differences.result c.differences.ensures
    (λ taps. band_taps c.args.self.now c.args.narrow.now c.args.count c.in_ok-wide.wide.items
    c.in_ok-narrow.narrow.items c.deref.result.now c.deref-2.result.now taps.items c.deref.ensures.value
    c.deref-2.ensures.value c.requires.up c.requires.shift c.in_ok-wide.ensures c.in_ok-narrow.ensures)
    (λ _ fault. fault)
