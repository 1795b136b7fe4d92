use Rattle.std.proofs.Common.{◌≡◌, ◌*◌, ◌/◌, ◌≤◌, ◌<◌, ℕ, subst, sym, arith, ⊎_elim}
use Rattle.std.proofs.Math.Nat.{mul-le-mul_left, mul-le-mul_right, div-mul-le_self}
use Rattle.std.proofs.lemmas.Bool.{cases_lt}
use Rattle.std.proofs.lemmas.Nat.{le-div}
use Rattle.sdf_one.proofs.lengths.block_of.Goals as goal

pub returns-clause-block : goal.returns-clause-block
returns-clause-block c =
    let read : ℕ = c.args.read in
    let put : ℕ = c.args.put in
    let some : 0 < read = c.requires in
    let at_least = c.max.ensures in
    let by_read : 4096 / read * read ≤ 4096 = div-mul-le_self 4096 read in
    let by_put : 65536 / c.max.result * c.max.result ≤ 65536 = div-mul-le_self 65536 c.max.result in
    record {
      some = omega (arith, c.max-2.ensures);
      fit = λ l.
          let below : c.max-2.result ≤ 4096 / read = omega (
            arith,
            l,
            c.max-2.ensures,
            c.min.ensures,
            c.min-most.ensures,
          ) in
          let few : c.max-2.result ≤ 65536 / c.max.result = omega (
            arith,
            l,
            c.max-2.ensures,
            c.min.ensures,
            c.min-most.ensures,
          ) in
          let more : put ≤ c.max.result = omega (arith, at_least) in
          record {
            within = omega (arith, l, c.max-2.ensures, c.min.ensures);
            reads = omega (arith, mul-le-mul_right read below, by_read);
            puts = omega (arith, mul-le-mul_left c.max-2.result more, mul-le-mul_right c.max.result few, by_put);
          };
      most = λ more f.
          let one : 1 ≤ read = some in
          let short : more * 1 ≤ more * read = mul-le-mul_left more one in
          let puts : more * c.max.result ≤ 65536 = ⊎_elim
          (λ l. let is : c.max.result ≡ put = omega (arith, l, at_least) in
          subst (λ m. more * m ≤ 65536) (sym is) f.puts)
          (λ none. let is : c.max.result ≡ 1 = omega (arith, none, at_least) in
          subst (λ m. more * m ≤ 65536) (sym is) (omega (arith, short, f.reads)))
          (cases_lt 0 put) in
          let reads : more ≤ 4096 / read = le-div more 4096 read some f.reads in
          let on : more ≤ 65536 / c.max.result = le-div more 65536 c.max.result (omega (arith, at_least)) puts in
          omega (arith, reads, on, f.within, c.max-2.ensures, c.min.ensures, c.min-most.ensures);
    }
