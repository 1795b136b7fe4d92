use Rattle.std.proofs.Common.{◌≡◌, ℕ, suc, ◌+◌, ◌*◌, get_or, sym, ap, ◌∙◌, arith}
use Rattle.sdf_graph.specs.Rates.{sum_to}
use Rattle.sdf_prec.specs.Blocks.{block}
use Rattle.sdf_times.proofs.Spans.{block_at, firings_few, term_small}
use Rattle.sdf_times.proofs.bounds.work.Goals as goal

pub loop-actor-preserved : goal.loop-actor-preserved
loop-actor-preserved c =
    let reps = c.args.reps.now in
    let costs = c.args.costs.now in
    let blocking : ℕ = c.args.blocking in
    let i : ℕ = c.loop-actor.actor in
    let f : ℕ → ℕ = λ a. get_or (block blocking reps) a 0 * get_or costs a 0 in
    let step : i + 1 ≡ suc i = omega arith in
    let more : sum_to f (i + 1) ≡ sum_to f i + f i = ap (sum_to f) step in
    let at : get_or (block blocking reps) i 0 ≡ blocking * get_or reps i 0 = block_at blocking reps i in
    let fires : c.from.result * c.from-in-loop-actor.result ≡ get_or (block blocking reps) i 0 =
    (λ k. c.from.ensures k * c.from-in-loop-actor.ensures k) ∙ sym at in
    let paid : c.from-in-loop-actor-2.result ≡ get_or costs i 0 = c.from-in-loop-actor-2.ensures ∙ c.of.ensures.is in
    let term : c.from.result * c.from-in-loop-actor.result * c.from-in-loop-actor-2.result ≡ f i =
    (λ k. fires k * paid k) in
    let low = term_small (get_or (block blocking reps) i 0) (get_or costs i 0)
    (omega (arith, at, firings_few blocking reps i c.requires.short))
    (omega (arith, c.of.ensures.is, c.of.ensures.cost.1)) in
    record {
      work = omega (arith, c.loop-actor.invariant.work, more, term);
      small = omega (arith, c.loop-actor.invariant.small, term, low);
    }
