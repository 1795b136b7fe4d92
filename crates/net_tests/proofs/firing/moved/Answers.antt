use Rattle.std.proofs.Common.{◌≡◌, ℕ, ◌+◌, ◌%◌, ap, ◌∙◌, arith, add-one}
use Rattle.sdf_actor.specs.Steps.{phase, total_in, total_out, sum_in, sum_out}
use Rattle.net_tests.proofs.firing.moved.Goals as goal

pub loop-firing-preserved : goal.loop-firing-preserved
loop-firing-preserved g c =
    let s = g.A.Actor.steps in
    let x = c.args.actor.now in
    let n : ℕ = c.loop-firing.firing in
    let here : n ≡ 0 + n = omega arith in
    let at : n % c.cycle.result ≡ phase s x (0 + n) = (λ k. here k % c.cycle.ensures k) in
    let reads : c.samples_in-reads.result ≡ total_in s x (phase s x (0 + n)) =
    c.samples_in-reads.ensures ∙ ap (total_in s x) at in
    let writes : c.samples_out-writes.result ≡ total_out s x (phase s x (0 + n)) =
    c.samples_out-writes.ensures ∙ ap (total_out s x) at in
    record {
      taken = omega (arith, c.loop-firing.invariant.taken, reads, ap (sum_in s x 0) (add-one n));
      put = omega (arith, c.loop-firing.invariant.put, writes, ap (sum_out s x 0) (add-one n));
    }
