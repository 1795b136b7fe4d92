use Rattle.std.proofs.Common.{◌≡◌, ◌+◌, length, refl, sym, ap, ◌∙◌, rules, arith}
use Rattle.std.proofs.lemmas.Option.{slice_get_read}
use Rattle.sdf_filters.specs.Delays.{stage_delay, delay_before}
use Rattle.sdf_filters.proofs.DelaySums.{delay_before-zero, delay_before_more}
use Rattle.sdf_filters.proofs.delay.stages_delay.Goals as goal

pub loop-place-init : goal.loop-place-init
loop-place-init c = (delay_before-zero c.args.to c.args.files.now, omega arith)

pub loop-place-preserved : goal.loop-place-preserved
loop-place-preserved c =
    let more : delay_before c.args.to c.args.files.now (c.loop-place.place + 1)
    ≡ delay_before c.args.to c.args.files.now c.loop-place.place + stage_delay c.args.to c.index-files-place.result =
    delay_before_more c.args.to c.args.files.now c.loop-place.place c.index-files-place.result
    (slice_get_read c.args.files.now (length c.args.files.now) c.loop-place.place c.index-files-place.result refl
    (search rules) c.index-files-place.is) in
    let same : c.from-sum.result ≡ stage_delay c.args.to c.index-files-place.result = search rules in (
      ap (λ n. n + c.from-sum.result) c.loop-place.invariant.0
          ∙ (ap (λ n. delay_before c.args.to c.args.files.now c.loop-place.place + n) same ∙ sym more),
      omega (arith, c.loop-place.invariant.1, c.stage_delay.ensures.few, c.from-sum.ensures),
    )
