use Rattle.std.proofs.Common.{◌≡◌, ◌+◌, ◌*◌, ℕ, subst, arith}
use Rattle.std.proofs.lemmas.List.{take-set-le, drop-set-lt}
use Rattle.sdf_queues.specs.Parts.{AreCopied}
use Rattle.sdf_queues.proofs.Gathers.{one_copied, copied_more}
use Rattle.sdf_queues.proofs.parts.copy_each.Goals as goal

pub loop-i-preserved : goal.loop-i-preserved
loop-i-preserved g c =
    let i = c.loop-i.i in
    let at : ℕ = c.args.into.first + c.args.into.step * i in
    let start : ℕ = c.args.out.first + c.args.out.step * i in
    let v = c.index-from-out.result in
    let there = c.requires.from_holds i c.loop-i-test.true in
    let here = c.requires.to_holds i c.loop-i-test.true in
    let before = take-set-le at c.loop-i.to at v (omega arith) in
    let behind = drop-set-lt (at + 1) c.loop-i.to at v (omega arith) in
    let new = one_copied c.args.from.now c.loop-i.to start at v (omega arith) (omega arith) c.index-from-out.is in
    copied_more c.requires.apart before behind new c.loop-i.invariant

pub returns : goal.returns
returns g c =
    let all : c.loop-i.i ≡ c.args.many = omega (arith, c.loop-i-test.false, c.loop-i.auto.i-end) in
    subst (λ many. AreCopied c.args.out c.args.into 1 many c.args.from.now c.args.to.now c.loop-i.to) all
    c.loop-i.invariant
