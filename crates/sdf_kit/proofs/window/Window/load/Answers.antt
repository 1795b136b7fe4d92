use Rattle.std.proofs.Common.{arith}
use Rattle.sdf_kit.proofs.Windows.{quiet_loaded, wide_loaded, short_fit, whole_samples, split_loaded, split_samples}
use Rattle.sdf_kit.proofs.window.Window.load.Goals as goal

pub invariant_of-self : goal.invariant_of-self
invariant_of-self c =
    quiet_loaded c.write_all.new.to c.self.inside.low c.args.pad c.args.kept.now c.args.taken.now c.args.limits
    (omega (arith, c.write_all.ensures.len, c.self.told.0)) c.self.told.1 c.requires.room c.requires.peak
    c.max_abs.result c.max_abs-2.result c.max_abs.ensures c.max_abs-2.ensures
    (omega (arith, c.max-max_abs.ensures, c.if-max_abs-peak.true))
    (omega (arith, c.max-max_abs.ensures, c.if-max_abs-peak.true)) c.write_all.ensures.written

pub returns-then-max_abs-peak-clause-samples : goal.returns-then-max_abs-peak-clause-samples
returns-then-max_abs-peak-clause-samples c =
    λ e. whole_samples c.write_all.new.to c.self.inside.low c.args.pad c.args.kept.now c.args.taken.now c.args.limits
    (omega (arith, c.write_all.ensures.len, c.self.told.0)) c.self.told.1 c.requires.room c.requires.peak
    c.write_all.ensures.written

pub invariant_of-self-then-are_short-2 : goal.invariant_of-self-then-are_short-2
invariant_of-self-then-are_short-2 c =
    wide_loaded c.write_all-then-are_short-2.new.to c.self.inside.low c.args.pad c.args.kept.now c.args.taken.now
    c.args.limits (omega (arith, c.write_all-then-are_short-2.ensures.len, c.self.told.0)) c.self.told.1
    c.requires.room c.requires.peak c.if-limits.true
    (short_fit c.args.kept.now c.max_abs.result c.max_abs.ensures
    (omega (arith, c.max-max_abs.ensures, c.if-max_abs-le32768.true))
    (c.are_short.ensures c.if-are_short.true))
    (short_fit c.args.taken.now c.max_abs-2.result c.max_abs-2.ensures
    (omega (arith, c.max-max_abs.ensures, c.if-max_abs-le32768.true))
    (c.are_short-then-are_short.ensures c.if-are_short-2.true)) c.write_all-then-are_short-2.ensures.written

pub returns-then-are_short-2-clause-samples : goal.returns-then-are_short-2-clause-samples
returns-then-are_short-2-clause-samples c =
    λ e. whole_samples c.write_all-then-are_short-2.new.to c.self.inside.low c.args.pad c.args.kept.now
    c.args.taken.now c.args.limits (omega (arith, c.write_all-then-are_short-2.ensures.len, c.self.told.0))
    c.self.told.1 c.requires.room c.requires.peak c.write_all-then-are_short-2.ensures.written

pub invariant_of-self-then-max_abs-peak-2 : goal.invariant_of-self-then-max_abs-peak-2
invariant_of-self-then-max_abs-peak-2 c =
    split_loaded c.write_all-then-max_abs-peak-2.new.to c.write_all-then-max_abs-peak-2-2.new.to c.args.pad
    c.args.kept.now
    c.args.taken.now c.args.limits
    (omega (arith, c.write_all-then-max_abs-peak-2.ensures.len, c.self.told.0))
    (omega (arith, c.write_all-then-max_abs-peak-2-2.ensures.len, c.self.told.1)) c.requires.room c.requires.peak
    c.max_abs.result c.max_abs-2.result c.max_abs.ensures c.max_abs-2.ensures
    (omega (arith, c.max-max_abs.ensures, c.if-max_abs-peak-2.true))
    (omega (arith, c.max-max_abs.ensures, c.if-max_abs-peak-2.true)) c.if-peak-ge-LEAST_PEAK_TO_SPLIT.true
    c.write_all-then-max_abs-peak-2.ensures.written c.write_all-then-max_abs-peak-2-2.ensures.written

pub returns-then-max_abs-peak-2-clause-samples : goal.returns-then-max_abs-peak-2-clause-samples
returns-then-max_abs-peak-2-clause-samples c =
    λ e. split_samples c.write_all-then-max_abs-peak-2.new.to c.write_all-then-max_abs-peak-2-2.new.to c.args.pad
    c.args.kept.now c.args.taken.now c.args.limits
    (omega (arith, c.write_all-then-max_abs-peak-2.ensures.len, c.self.told.0))
    (omega (arith, c.write_all-then-max_abs-peak-2-2.ensures.len, c.self.told.1)) c.requires.room c.requires.peak
    c.write_all-then-max_abs-peak-2.ensures.written c.write_all-then-max_abs-peak-2-2.ensures.written
