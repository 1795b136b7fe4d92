use Rattle.std.proofs.Common.{rules}
use Rattle.sdf_wav.proofs.Moves.{Appends-more}
use Rattle.sdf_wav.proofs.Written.{AppendsFront-kept, AppendsFront-none}
use Rattle.sdf_wav.proofs.moving.put_all.Goals as goal

pub loop-at-preserved : goal.loop-at-preserved
loop-at-preserved g c = record {
  within = search rules;
  written = Appends-more _ _ _ c.loop-at.at c.in-Ok.taken c.args.bytes.now c.loop-at.invariant.within (search rules)
      c.loop-at.invariant.written c.in-Ok.ensures.bytes;
  counted = search rules;
}

pub returns-in-Ok-eq0-clause-err : goal.returns-in-Ok-eq0-clause-err
returns-in-Ok-eq0-clause-err g c = AppendsFront-none _ _ _ c.loop-at.at c.args.bytes.now c.in-Ok-eq0.field-0
    _ (search rules) c.loop-at.invariant.written c.in-Ok-eq0.ensures.bytes

pub returns-in-Err-clause-err : goal.returns-in-Err-clause-err
returns-in-Err-clause-err g c = AppendsFront-kept _ _ _ c.loop-at.at c.args.bytes.now c.loop-at.invariant.written
    c.in-Err.ensures.bytes
