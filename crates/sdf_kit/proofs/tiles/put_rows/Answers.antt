use Rattle.std.proofs.Common.{◌≡◌, ◌≤◌, ◌+◌, ◌-◌, ◌*◌, ◌/◌, ◌<◌, ◌++◌, ◌∙◌, ℕ, List, ℤ, length, take, drop, ap, get_or}
use Rattle.std.proofs.Common.{pos, subst, sym, arith}
use Rattle.std.proofs.lemmas.Nat.{row_fits}
use Rattle.std.proofs.lemmas.List.{length-take-le, length-drop}
use Rattle.sdf_kit.specs.Tiles.{lane_place, tile_tap}
use Rattle.sdf_kit.proofs.TileRows.{written_long, rows_more, rows_short}
use Rattle.sdf_kit.proofs.tiles.put_rows.Goals as goal

pub loop-vector-preserved : goal.loop-vector-preserved
loop-vector-preserved c =
    let row : ℕ = 16 * c.args.pairs in
    let at : ℕ = c.loop-vector.vector * (16 * c.args.pairs) in
    let cut : at + row - at ≡ row = omega arith in
    let fits : c.loop-vector.vector * (16 * c.args.pairs) + 16 * c.args.pairs ≤ c.args.vectors * (16 * c.args.pairs) =
    row_fits c.loop-vector.vector (16 * c.args.pairs) c.args.vectors (16 * c.args.pairs) c.loop-vector-test.true
    (omega arith) in
    let room : at + row ≤ length c.loop-vector.table = omega (arith, c.loop-vector.invariant.len, c.requires.room) in
    let was : length (take (at + row - at) (drop at c.loop-vector.table)) ≡ row =
    ap (λ n. length (take n (drop at c.loop-vector.table))) cut
    ∙ length-take-le row (drop at c.loop-vector.table) (omega (arith, length-drop at c.loop-vector.table)) in
    let long : length c.put_row.new.row ≡ row = c.put_row.ensures.len ∙ was in
    let eighth : length c.put_row.new.row / 8 ≡ length (take (at + row - at) (drop at c.loop-vector.table)) / 8 =
    ap (λ n. n / 8) c.put_row.ensures.len in
    let same : take at c.loop-vector.table ++ (c.put_row.new.row ++ drop row (drop at c.loop-vector.table)) ≡
    take at c.loop-vector.table ++ (c.put_row.new.row ++ drop (at + row - at) (drop at c.loop-vector.table)) =
    ap (λ n. take at c.loop-vector.table ++ (c.put_row.new.row ++ drop n (drop at c.loop-vector.table))) (sym cut) in
    record {
      len = sym (ap length same) ∙ (written_long at row c.loop-vector.table c.put_row.new.row room long
          ∙ c.loop-vector.invariant.len);
      done = subst (λ (xs : List ℤ). (v k i : ℕ) → v < c.loop-vector.vector + 1 → k < 8 → i < 2 * c.args.pairs →
          get_or xs (v * (16 * c.args.pairs) + lane_place k i) (pos 0) ≡
          tile_tap c.args.taps.now c.args.up c.args.down v k i) same
          (rows_more c.args.taps.now c.loop-vector.table c.put_row.new.row c.args.up c.args.down c.args.vectors
          c.args.pairs c.loop-vector.vector c.loop-vector-test.true
          (c.loop-vector.invariant.len ∙ c.requires.room) long c.loop-vector.invariant.done
          (λ l i low few. c.put_row.ensures.done l i low (subst (λ n. i < n) eighth few)));
    }

pub returns-clause-short : goal.returns-clause-short
returns-clause-short c =
    rows_short c.args.taps.now c.loop-vector.table c.args.up c.args.down c.args.vectors c.args.pairs c.requires.taps
    (c.loop-vector.invariant.len ∙ c.requires.room)
    (λ v l i h m few. c.loop-vector.invariant.done v l i (omega (arith, h, c.loop-vector-test.false)) m few)
