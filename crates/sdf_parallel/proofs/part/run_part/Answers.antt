use Rattle.std.proofs.Common.{◌≡◌, ◌-◌, ◌≤◌, ◌<◌, arith, refl, subst}
use Rattle.sdf_queues.specs.RunResults.{HasInputs}
use Rattle.sdf_queues.specs.Feeds.{AreFull}
use Rattle.sdf_parallel.specs.Parts.{read_by}
use Rattle.sdf_parallel.proofs.Cutting.{are_full, are_given, matched}
use Rattle.sdf_parallel.proofs.part.run_part.Goals as goal

pub stretches-requires-2-clause-begin : goal.stretches-requires-2-clause-begin
stretches-requires-2-clause-begin g c κs within =
    let w = c.args.split in
    let n = w.net.now in
    let q = w.period.now.repetitions in
    let inputs = g.E.PartIo.inputs c.args.io.now in
    let at = c.args.part.from in
    let start = at - w.warm in
    let tail = read_by n q inputs start at in
    let some : 0 < at = omega (arith, c.if-part-eq0.false) in
    let below : at ≤ w.periods = omega (arith, c.requires.order, c.requires.within) in
    let size : at - start ≡ w.warm = omega (arith, c.requires.warm some) in
    record {
      periods = w.warm;
      inputs = tail;
      outputs = c.in_ok-begin.ensures.0;
      given = subst (λ k. HasInputs n q k tail) size
          (are_given n q inputs w.periods c.requires.split.given c.requires.split.full start at (omega arith)
          below);
      full = subst (λ k. AreFull n q k tail) size
          (are_full n q inputs w.periods c.requires.split.given c.requires.split.full start at (omega arith)
          below);
      run = c.in_ok-begin.ensures.1;
    }

pub returns-then-part-eq0 : goal.returns-then-part-eq0
returns-then-part-eq0 g c =
    matched _ _ _ (λ m all. record {
      begin = c.args.rest.now;
      first = λ none. refl;
      late = λ some. absurd (omega (arith, c.if-part-eq0.true));
      stretches = all;
    }) c.stretches.result c.stretches.ensures

pub returns : goal.returns
returns g c =
    matched _ _ _ (λ m all. record {
      begin = c.in_ok-begin.begin;
      first = λ none. absurd (c.if-part-eq0.false none);
      late = λ some. c.in_ok-begin.ensures;
      stretches = all;
    }) c.stretches-2.result c.stretches-2.ensures
