use Rattle.std.proofs.Common.{◌≡◌, ◌+◌, ◌*◌, ◌≤◌, ◌<◌, ◌∙◌, ℤ, pos, length, set, get_or, sym, subst, FitsSigned, w32}
use Rattle.std.proofs.Common.{arith, rules}
use Rattle.std.proofs.lemmas.Int.{to_z-of_z}
use Rattle.std.proofs.lemmas.List.{length-set}
use Rattle.std.proofs.lemmas.List.FromFn.{fill_by_all}
use Rattle.std.proofs.Math.Nat.{mul-le-mul_right, add-mul}
use Rattle.sdf_kit.specs.Samples.{upsampled}
use Rattle.sdf_kit.proofs.Upsampled.{IsSpread, spread_more}
use Rattle.sdf_kit.proofs.interpolate.Interpolate.run.Goals as goal

pub loop-i-preserved : goal.loop-i-preserved
loop-i-preserved c =
    let x : ℤ = get_or c.args.taken.now c.loop-i.i (pos 0) in
    let fits : FitsSigned w32 x = search rules in
    let inv = c.loop-i.invariant in
    let one : c.loop-i.i + 1 ≤ length c.args.taken.now = omega (arith, c.loop-i-test.true) in
    let next : (c.loop-i.i + 1) * c.args.self.now ≡ c.loop-i.i * c.args.self.now + 1 * c.args.self.now =
    add-mul c.loop-i.i 1 c.args.self.now in
    let some : 1 ≤ c.args.self.now = subst (λ m. 1 ≤ m) c.self.view_is c.self.invariant.0 in
    let room : c.loop-i.i * c.args.self.now < length c.loop-i.put =
    omega (arith, inv.0, c.requires, next, some, mul-le-mul_right c.args.self.now one) in
    rw (to_z-of_z w32 x fits) (
      length-set c.loop-i.put (c.loop-i.i * c.self.inside.factor) x ∙ inv.0,
      subst (λ m. IsSpread c.args.self.now c.args.taken.now (set c.loop-i.put (c.loop-i.i * m) x) (c.loop-i.i + 1))
          (sym c.self.view_is)
          (spread_more c.args.self.now c.args.taken.now c.loop-i.put c.loop-i.i some room inv.1),
    )

pub returns : goal.returns
returns c =
    fill_by_all (upsampled c.args.self.now c.args.taken.now) c.loop-i.put (length c.args.put.now) (pos 0)
    c.loop-i.invariant.0
    (λ n l. c.loop-i.invariant.1.done n (omega (
      arith,
      l,
      c.requires,
      mul-le-mul_right c.args.self.now c.loop-i-test.false,
    )))
