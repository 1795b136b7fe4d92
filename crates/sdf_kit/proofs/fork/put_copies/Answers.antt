use Rattle.std.proofs.Common.{◌≡◌, ◌+◌, ◌-◌, ◌*◌, ◌/◌, ◌≤◌, ◌<◌, ◌∙◌, ◌⊎◌, inl, inr, ℕ, ℤ, length, FitsSigned, w32, pos}
use Rattle.std.proofs.Common.{sym, ap, arith, rules}
use Rattle.std.proofs.lemmas.Bool.{cases_lt}
use Rattle.std.proofs.lemmas.Int.{to_z-of_z}
use Rattle.std.proofs.lemmas.List.FromFn.{fill_by_all}
use Rattle.std.proofs.lemmas.Nat.{div-mul-add}
use Rattle.std.proofs.Math.Nat.{mul-le-mul_right, add-mul}
use Rattle.sdf_kit.specs.Samples.{sample}
use Rattle.sdf_kit.proofs.fork.put_copies.Goals as goal

pub put_same-requires : goal.put_same-requires
put_same-requires c =
    let ways : ℕ = c.args.ways in
    let one : c.loop-i.i + 1 ≤ length c.args.taken.now = omega (arith, c.loop-i-test.true) in
    let next : (c.loop-i.i + 1) * ways ≡ c.loop-i.i * ways + 1 * ways = add-mul c.loop-i.i 1 ways in
    omega (arith, c.loop-i.invariant.0, c.requires.put, next, mul-le-mul_right ways one)

pub loop-i-preserved : goal.loop-i-preserved
loop-i-preserved c = (c.put_same.ensures.len ∙ c.loop-i.invariant.0, λ k l. go k l (cases_lt k (i * ways)))
  where
    i : ℕ
    i = c.loop-i.i

    ways : ℕ
    ways = c.args.ways

    go : (k : ℕ) → k < (i + 1) * ways → (k < i * ways) ⊎ (i * ways ≤ k) →
        sample c.put_same.new.to k ≡ sample c.args.taken.now (k / ways)
    go k l (inl before) = c.put_same.ensures.before k before ∙ c.loop-i.invariant.1 k before
    go k l (inr later) =
        let x : ℤ = sample c.args.taken.now i in
        let fits : FitsSigned w32 x = search rules in
        let q : ℕ = k - i * ways in
        let next : (i + 1) * ways ≡ i * ways + 1 * ways = add-mul i 1 ways in
        let inside : q < ways = omega (arith, l, next) in
        let at : i * ways + q ≡ k = omega (arith, later) in
        let row : k / ways ≡ i = ap (λ n. n / ways) (sym at) ∙ div-mul-add i ways q inside in
        ap (sample c.put_same.new.to) (sym at) ∙ (c.put_same.ensures.put q inside
        ∙ (to_z-of_z w32 x fits ∙ ap (sample c.args.taken.now) (sym row)))

pub returns : goal.returns
returns c =
    fill_by_all (λ n. sample c.args.taken.now (n / c.args.ways)) c.loop-i.put (length c.args.put.now) (pos 0)
    c.loop-i.invariant.0
    (λ n l. c.loop-i.invariant.1 n (omega (arith, l, c.requires.put, mul-le-mul_right c.args.ways c.loop-i-test.false)))
