use Rattle.std.proofs.Common.{◌∙◌, None, sym, subst, rules}
use Rattle.std.proofs.lemmas.Result.{err_from_is_err_and}
use Rattle.sdf_wav.specs.Steps.{Explains, last_at, data_at}
use Rattle.sdf_wav.proofs.Known.{Known-then, Known-weaker, LosesFront-then, Reads-last}
use Rattle.sdf_wav.proofs.DataAt.{data_at_data, data_at_passed, data_at_fault, data_at_last}
use Rattle.sdf_wav.proofs.chunks.find_data.Goals as goal

pub returns-in_err-start-clause-bytes : goal.returns-in_err-start-clause-bytes
returns-in_err-start-clause-bytes g c =
    let p = err_from_is_err_and c.from_residual.result c.from_residual.ensures.1 in
    rw (p.1, p.2) (Known-then c.loop.invariant.read c.in_err-start.ensures.bytes
    (λ x y z p q. (
      subst (Explains c.in_err-start.field-0.0) (sym p.0)
          (data_at_fault 65536 c.loop.counter c.loop.seen y c.in_err-start.field-0.0 c.loop-test.true q.0),
      LosesFront-then x y z p.1 q.1,
    )))

pub returns-in-Data-clause-bytes : goal.returns-in-Data-clause-bytes
returns-in-Data-clause-bytes g c =
    Known-then c.loop.invariant.read (rw c.in-Data.is at c.in_ok-start.ensures.bytes)
    (λ x y z p q. (
      p.0 ∙ data_at_data 65536 c.loop.counter c.loop.seen y c.in-Data.start z c.loop-test.true q.0,
      LosesFront-then x y z p.1 q.1,
    ))

pub loop-preserved : goal.loop-preserved
loop-preserved g c = record {
  read = Known-then c.loop.invariant.read (rw c.in-Passed.is at c.in_ok-start.ensures.bytes)
      (λ x y z p q. (
        p.0 ∙ data_at_passed 65536 c.loop.counter c.loop.seen c.in-Passed.now y z c.loop-test.true q.0,
        LosesFront-then x y z p.1 q.1,
      ));
  known = rw c.in-Passed.is at c.in_ok-start.ensures.valid;
  counted = search rules;
}

pub returns-clause-bytes : goal.returns-clause-bytes
returns-clause-bytes g c =
    Reads-last (λ x. x) _ (data_at 65536 None) (last_at c.loop.seen) c.read_data_header.result
    (Known-weaker c.loop.invariant.read (λ x y p. (
      p.0
          ∙ data_at_last 65536 c.loop.counter c.loop.seen y c.loop-test.false,
      p.1,
    )))
    c.read_data_header.ensures.bytes
