use Rattle.std.proofs.Common.{◌≡◌, ◌+◌, ◌*◌, ◌≤◌, ◌<◌, ℕ, arith, subst, sym, ⊎_elim}
use Rattle.std.specs.Int.{div_ceil}
use Rattle.std.proofs.Math.Nat.{mul-le-mul_right, mul-le-mul_left}
use Rattle.std.proofs.lemmas.Bool.{cases_lt}
use Rattle.std.proofs.lemmas.Grind.{div_ceil_times}
use Rattle.sdf_warm_up.proofs.warm_up.periods_with.Goals as goal

-- so many periods have these firings
enough : (firings q wanted : ℕ) → 0 < q → wanted ≡ div_ceil firings q → firings ≤ wanted * q
enough firings q wanted some is = subst (λ w. firings ≤ w * q) (sym is) (div_ceil_times firings q some).0

-- and no more than there are firings
few : (firings q wanted : ℕ) → 0 < q → wanted ≡ div_ceil firings q → wanted ≤ firings
few firings q wanted some is = ⊎_elim above (λ h. h) (cases_lt firings wanted)
  where
    above : firings < wanted → wanted ≤ firings
    above h =
        let less : wanted * q < firings + q =
        subst (λ w. w * q < firings + q) (sym is) (div_ceil_times firings q some).1 in
        let more : (firings + 1) * q ≤ wanted * q = mul-le-mul_right q (omega arith) in
        let once : firings * 1 ≤ firings * q = mul-le-mul_left firings some in
        absurd (omega arith)

pub returns-then-wanted-periods-clause-enough : goal.returns-then-wanted-periods-clause-enough
returns-then-wanted-periods-clause-enough c =
    enough c.args.firings c.args.in_period c.div_ceil-wanted.result c.requires c.div_ceil-wanted.ensures

pub returns-else-wanted-periods-clause-enough : goal.returns-else-wanted-periods-clause-enough
returns-else-wanted-periods-clause-enough c =
    let more : c.div_ceil-wanted.result * c.args.in_period ≤ c.args.periods * c.args.in_period =
    mul-le-mul_right c.args.in_period c.if-wanted-periods.false in
    omega (arith, enough c.args.firings c.args.in_period c.div_ceil-wanted.result c.requires c.div_ceil-wanted.ensures)

pub returns-then-wanted-periods-clause-few : goal.returns-then-wanted-periods-clause-few
returns-then-wanted-periods-clause-few c = λ p f. omega (
  arith,
  f,
  few c.args.firings c.args.in_period c.div_ceil-wanted.result c.requires c.div_ceil-wanted.ensures,
)
