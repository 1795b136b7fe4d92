use Rattle.std.proofs.Common.{subst, rules}
use Rattle.std.specs.Io.KnownBytes.{Appends}
use Rattle.sdf_wav.specs.Device.{AppendsFront}
use Rattle.std.proofs.lemmas.Result.{err_from_is_err_and}
use Rattle.sdf_wav.proofs.Written.{samples_written, samples_begun, piece_is}
use Rattle.sdf_wav.proofs.writing.put_samples.Goals as goal

pub loop-at-preserved : goal.loop-at-preserved
loop-at-preserved g c = record {
  within = search rules;
  written = samples_written _ _ _ c.loop-at.at c.min-count.result c.args.samples.now c.loop-at.invariant.written
      (subst (Appends _ _) (piece_is c.args.samples.now c.loop-at.at c.min-count.result c.write_i16_into.new.dst
      c.write_i16_into.ensures) c.in_ok-put_all.ensures.ok);
  counted = search rules;
}

pub returns-in_err-put_all-clause-err : goal.returns-in_err-put_all-clause-err
returns-in_err-put_all-clause-err g c =
    let p = err_from_is_err_and c.from_residual.result c.from_residual.ensures.1 in
    rw p.1 (samples_begun _ _ _ c.loop-at.at c.min-count.result c.args.samples.now c.loop-at.invariant.written
    (subst (AppendsFront _ _) (piece_is c.args.samples.now c.loop-at.at c.min-count.result
    c.write_i16_into.new.dst c.write_i16_into.ensures) c.in_err-put_all.ensures.err))
