use Rattle.std.proofs.Common.{◌-◌, ◌∙◌, rules, length}
use Rattle.sdf_wav.proofs.Moves.{Consumes-into, Consumes-past, LosesFront-consumed}
use Rattle.sdf_wav.proofs.moving.fill.Goals as goal

pub loop-at-preserved : goal.loop-at-preserved
loop-at-preserved g c = record {
  same_length = search rules;
  within = search rules;
  read = Consumes-into _ _ _ c.loop-at.at c.in-Ok.count c.loop-at.buf c.read.new.buf c.loop-at.invariant.within
      c.in-Ok.ensures.bound.0 c.loop-at.invariant.read c.in-Ok.ensures.bytes.0;
  counted = c.in-Ok.ensures.counted ∙ c.loop-at.invariant.counted;
}

pub returns-in-Err-clause-err : goal.returns-in-Err-clause-err
returns-in-Err-clause-err g c =
    LosesFront-consumed _ _ _ (Consumes-past _ _ _ c.loop-at.at (length c.loop-at.buf - c.loop-at.at) c.loop-at.buf
    c.read.new.buf c.loop-at.invariant.within c.loop-at.invariant.read c.in-Err.ensures.bytes)
