use Rattle.std.proofs.Common.{◌≡◌, ℕ, ◌+◌, get_or, ◌∙◌, arith}
use Rattle.std.proofs.lemmas.List.{length-set}
use Rattle.sdf_prec.proofs.Starts.{starting_more, starting_skips}
use Rattle.sdf_prec.proofs.hu.floor.start.Goals.{in-Some, in_default}
use Rattle.sdf_prec.proofs.hu.floor.start.Goals as goal

pub loop-column-preserved : goal.loop-column-preserved
loop-column-preserved c =
    let i : ℕ = c.loop-column.column in
    let v = c.loop-column.invariant in
    let cost : ℕ → ℕ = λ a. get_or c.args.costs.now a 0 in
    let s0 : ℕ → ℕ = λ a. get_or c.args.started.now a 0 in
    let w0 : ℕ → ℕ = λ j. get_or c.args.whose.now j 0 in
    let u0 : ℕ → ℕ = λ a. get_or c.args.until.now a 0 in
    elim c.match-cells-column.branch [
      | in-Some w ↦
          let known = c.requires.known i w.in-Some.firing w.in-Some.is in
          let end : c.args.now + w.from.result ≡ c.args.now + cost w.in-Some.firing.actor =
          omega (arith, w.from.ensures, w.of.ensures.is) in
          let begun = starting_more cost c.args.now i c.args.cells.now s0 w0 u0 c.loop-column.started
          c.loop-column.whose c.loop-column.until v.begun w.in-Some.firing (c.args.now + w.from.result) w.in-Some.is end
          (omega (arith, known, v.actors))
          (omega (arith, c.loop-column-test.true, v.all, c.requires.whose, c.requires.wide))
          (omega (arith, c.loop-column-test.true, v.columns, c.requires.wide)) c.requires.once in
          rw (w.started-is, w.whose-is, w.until-is) (record {
            begun = begun;
            actors = length-set c.loop-column.started w.in-Some.firing.actor (w.in-Some.firing.number + 1) ∙ v.actors;
            all = length-set c.loop-column.whose i w.in-Some.firing.actor ∙ v.all;
            columns = length-set c.loop-column.until i (c.args.now + w.from.result) ∙ v.columns;
          })
      | in_default w ↦
          rw (w.started-is, w.whose-is, w.until-is) (record {
            begun = starting_skips cost c.args.now i c.args.cells.now s0 w0 u0 c.loop-column.started c.loop-column.whose
                c.loop-column.until v.begun w.in_default.is;
            actors = v.actors;
            all = v.all;
            columns = v.columns;
          })
    ]
