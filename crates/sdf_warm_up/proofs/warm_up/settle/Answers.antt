use Rattle.std.proofs.Common.{[], inr, arith}
use Rattle.sdf_graph.specs.Rates.{rates}
use Rattle.sdf_warm_up.specs.WarmUps.{start}
use Rattle.sdf_warm_up.proofs.Walks.{long_loops}
use Rattle.sdf_warm_up.proofs.warm_up.settle.Goals as goal

pub loop-init : goal.loop-init
loop-init c =
    let g = c.args.graph.now in
    record {
      since = c.requires.since;
      early = c.requires.early;
      behind = λ i known. inr (record {
        past = [];
        long = omega arith;
        walk = start _ (c.channels.ensures.shape.from_in i known);
      });
      walked = λ some. absurd (omega arith);
    }

pub returns-clause-end : goal.returns-clause-end
returns-clause-end c =
    let g = c.args.graph.now in
    let walked = c.loop.invariant.walked (omega (arith, c.loop-test.false)) in
    long_loops (rates g) (λ i known. c.channels.ensures.shape.to_in i known) c.loop.counter walked.0
    (omega (arith, c.loop-test.false, c.actors-end.ensures.count)) walked.1
