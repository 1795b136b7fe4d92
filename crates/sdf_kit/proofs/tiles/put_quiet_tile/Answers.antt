use Rattle.std.proofs.Common.{◌≡◌, ◌≤◌, ◌+◌, ◌*◌, ◌/◌, ◌∙◌, length, unsigned_abs, ap}
use Rattle.std.proofs.Common.{subst, sym, refl}
use Rattle.std.proofs.Common.{arith}
use Rattle.sdf_kit.specs.Samples.{rescaled}
use Rattle.sdf_kit.specs.Tiles.{tile_sum}
use Rattle.sdf_kit.proofs.FourTiles.{sent_sum, piece_pairs, four_put}
use Rattle.sdf_kit.proofs.tiles.put_quiet_tile.Goals as goal

pub put_sums-requires-clause-small : goal.put_sums-requires-clause-small
put_sums-requires-clause-small c l low =
    let pairs : length c.piece.result.now / 2 ≡ length c.args.taps.now / 16 =
    piece_pairs c.args.x.now c.piece.result.now c.args.four.first (length c.args.taps.now / 8) (length c.args.taps.now)
    (omega (arith, c.requires.whole)) refl (omega (arith, c.requires.room)) c.piece.ensures in
    let there : c.args.four.first + 0 * c.args.four.step ≡ c.args.four.first = omega arith in
    let small : unsigned_abs (tile_sum c.args.taps.now c.args.x.now c.args.four.first l) ≤ 2147467263 =
    subst (λ n. unsigned_abs (tile_sum c.args.taps.now c.args.x.now n l) ≤ 2147467263) there
    (c.requires.small 0 l (omega arith) low) in
    subst (λ z. unsigned_abs z ≤ 2147467263) (sym (sent_sum c.args.taps.now c.args.x.now c.piece.result.now
    c.args.four.first (length c.piece.result.now / 2)
    (length c.args.taps.now / 8) l c.tile_sums-sums.result.a c.tile_sums-sums.ensures.a c.piece.ensures pairs
    (omega (arith, pairs)) low small))
    small

pub put_sums-requires-2-clause-small : goal.put_sums-requires-2-clause-small
put_sums-requires-2-clause-small c l low =
    let pairs : length c.piece.result.now / 2 ≡ length c.args.taps.now / 16 =
    piece_pairs c.args.x.now c.piece.result.now c.args.four.first (length c.args.taps.now / 8) (length c.args.taps.now)
    (omega (arith, c.requires.whole)) refl (omega (arith, c.requires.room)) c.piece.ensures in
    let there : c.args.four.first + 1 * c.args.four.step ≡ c.args.four.first + c.args.four.step = omega arith in
    let small : unsigned_abs (tile_sum c.args.taps.now c.args.x.now (c.args.four.first + c.args.four.step)
    l) ≤ 2147467263 =
    subst (λ n. unsigned_abs (tile_sum c.args.taps.now c.args.x.now n l) ≤ 2147467263) there
    (c.requires.small 1 l (omega arith) low) in
    subst (λ z. unsigned_abs z ≤ 2147467263) (sym (sent_sum c.args.taps.now c.args.x.now c.piece-2.result.now
    (c.args.four.first + c.args.four.step) (length c.piece.result.now / 2)
    (length c.args.taps.now / 8) l c.tile_sums-sums.result.b c.tile_sums-sums.ensures.b c.piece-2.ensures pairs
    (omega (arith, pairs)) low small))
    small

pub put_sums-requires-3-clause-small : goal.put_sums-requires-3-clause-small
put_sums-requires-3-clause-small c l low =
    let pairs : length c.piece.result.now / 2 ≡ length c.args.taps.now / 16 =
    piece_pairs c.args.x.now c.piece.result.now c.args.four.first (length c.args.taps.now / 8) (length c.args.taps.now)
    (omega (arith, c.requires.whole)) refl (omega (arith, c.requires.room)) c.piece.ensures in
    let there : c.args.four.first + 2 * c.args.four.step ≡ c.args.four.first + 2 * c.args.four.step = omega arith in
    let small : unsigned_abs (tile_sum c.args.taps.now c.args.x.now (c.args.four.first + 2 * c.args.four.step)
    l) ≤ 2147467263 =
    subst (λ n. unsigned_abs (tile_sum c.args.taps.now c.args.x.now n l) ≤ 2147467263) there
    (c.requires.small 2 l (omega arith) low) in
    subst (λ z. unsigned_abs z ≤ 2147467263) (sym (sent_sum c.args.taps.now c.args.x.now c.piece-3.result.now
    (c.args.four.first + 2 * c.args.four.step) (length c.piece.result.now / 2)
    (length c.args.taps.now / 8) l c.tile_sums-sums.result.c c.tile_sums-sums.ensures.c c.piece-3.ensures pairs
    (omega (arith, pairs)) low small))
    small

pub put_sums-requires-4-clause-small : goal.put_sums-requires-4-clause-small
put_sums-requires-4-clause-small c l low =
    let pairs : length c.piece.result.now / 2 ≡ length c.args.taps.now / 16 =
    piece_pairs c.args.x.now c.piece.result.now c.args.four.first (length c.args.taps.now / 8) (length c.args.taps.now)
    (omega (arith, c.requires.whole)) refl (omega (arith, c.requires.room)) c.piece.ensures in
    let there : c.args.four.first + 3 * c.args.four.step ≡ c.args.four.first + 3 * c.args.four.step = omega arith in
    let small : unsigned_abs (tile_sum c.args.taps.now c.args.x.now (c.args.four.first + 3 * c.args.four.step)
    l) ≤ 2147467263 =
    subst (λ n. unsigned_abs (tile_sum c.args.taps.now c.args.x.now n l) ≤ 2147467263) there
    (c.requires.small 3 l (omega arith) low) in
    subst (λ z. unsigned_abs z ≤ 2147467263) (sym (sent_sum c.args.taps.now c.args.x.now c.piece-4.result.now
    (c.args.four.first + 3 * c.args.four.step) (length c.piece.result.now / 2)
    (length c.args.taps.now / 8) l c.tile_sums-sums.result.d c.tile_sums-sums.ensures.d c.piece-4.ensures pairs
    (omega (arith, pairs)) low small))
    small

pub returns-clause-done : goal.returns-clause-done
returns-clause-done c =
    four_put (λ w l. rescaled (tile_sum c.args.taps.now c.args.x.now (c.args.four.first + w * c.args.four.step) l)
    c.args.four.shift)
    c.args.four.at c.args.four.stride c.args.put.now c.put_sums.new.put c.put_sums-2.new.put c.put_sums-3.new.put
    c.put_sums-4.new.put c.requires.apart
    (λ l low.
    let pairs : length c.piece.result.now / 2 ≡ length c.args.taps.now / 16 =
    piece_pairs c.args.x.now c.piece.result.now c.args.four.first (length c.args.taps.now / 8) (length c.args.taps.now)
    (omega (arith, c.requires.whole)) refl (omega (arith, c.requires.room)) c.piece.ensures in
    let there : c.args.four.first + 0 * c.args.four.step ≡ c.args.four.first = omega arith in
    let small : unsigned_abs (tile_sum c.args.taps.now c.args.x.now c.args.four.first l) ≤ 2147467263 =
    subst (λ n. unsigned_abs (tile_sum c.args.taps.now c.args.x.now n l) ≤ 2147467263) there
    (c.requires.small 0 l (omega arith) low) in
    c.put_sums.ensures.done l low ∙ (ap (λ z. rescaled z c.args.four.shift)
    (sent_sum c.args.taps.now c.args.x.now c.piece.result.now c.args.four.first (length c.piece.result.now / 2)
    (length c.args.taps.now / 8) l c.tile_sums-sums.result.a c.tile_sums-sums.ensures.a c.piece.ensures pairs
    (omega (arith, pairs)) low small)
    ∙ ap (λ n. rescaled (tile_sum c.args.taps.now c.args.x.now n l) c.args.four.shift) (sym there)))
    (λ l low.
    let pairs : length c.piece.result.now / 2 ≡ length c.args.taps.now / 16 =
    piece_pairs c.args.x.now c.piece.result.now c.args.four.first (length c.args.taps.now / 8) (length c.args.taps.now)
    (omega (arith, c.requires.whole)) refl (omega (arith, c.requires.room)) c.piece.ensures in
    let there : c.args.four.first + 1 * c.args.four.step ≡ c.args.four.first + c.args.four.step = omega arith in
    let small : unsigned_abs (tile_sum c.args.taps.now c.args.x.now (c.args.four.first + c.args.four.step)
    l) ≤ 2147467263 =
    subst (λ n. unsigned_abs (tile_sum c.args.taps.now c.args.x.now n l) ≤ 2147467263) there
    (c.requires.small 1 l (omega arith) low) in
    c.put_sums-2.ensures.done l low ∙ (ap (λ z. rescaled z c.args.four.shift)
    (sent_sum c.args.taps.now c.args.x.now c.piece-2.result.now (c.args.four.first + c.args.four.step)
    (length c.piece.result.now / 2)
    (length c.args.taps.now / 8) l c.tile_sums-sums.result.b c.tile_sums-sums.ensures.b c.piece-2.ensures pairs
    (omega (arith, pairs)) low small)
    ∙ ap (λ n. rescaled (tile_sum c.args.taps.now c.args.x.now n l) c.args.four.shift) (sym there)))
    c.put_sums-2.ensures.others
    (λ l low.
    let pairs : length c.piece.result.now / 2 ≡ length c.args.taps.now / 16 =
    piece_pairs c.args.x.now c.piece.result.now c.args.four.first (length c.args.taps.now / 8) (length c.args.taps.now)
    (omega (arith, c.requires.whole)) refl (omega (arith, c.requires.room)) c.piece.ensures in
    let there : c.args.four.first + 2 * c.args.four.step ≡ c.args.four.first + 2 * c.args.four.step = omega arith in
    let small : unsigned_abs (tile_sum c.args.taps.now c.args.x.now (c.args.four.first + 2 * c.args.four.step)
    l) ≤ 2147467263 =
    subst (λ n. unsigned_abs (tile_sum c.args.taps.now c.args.x.now n l) ≤ 2147467263) there
    (c.requires.small 2 l (omega arith) low) in
    c.put_sums-3.ensures.done l low ∙ (ap (λ z. rescaled z c.args.four.shift)
    (sent_sum c.args.taps.now c.args.x.now c.piece-3.result.now (c.args.four.first + 2 * c.args.four.step)
    (length c.piece.result.now / 2)
    (length c.args.taps.now / 8) l c.tile_sums-sums.result.c c.tile_sums-sums.ensures.c c.piece-3.ensures pairs
    (omega (arith, pairs)) low small)
    ∙ ap (λ n. rescaled (tile_sum c.args.taps.now c.args.x.now n l) c.args.four.shift) (sym there)))
    c.put_sums-3.ensures.others
    (λ l low.
    let pairs : length c.piece.result.now / 2 ≡ length c.args.taps.now / 16 =
    piece_pairs c.args.x.now c.piece.result.now c.args.four.first (length c.args.taps.now / 8) (length c.args.taps.now)
    (omega (arith, c.requires.whole)) refl (omega (arith, c.requires.room)) c.piece.ensures in
    let there : c.args.four.first + 3 * c.args.four.step ≡ c.args.four.first + 3 * c.args.four.step = omega arith in
    let small : unsigned_abs (tile_sum c.args.taps.now c.args.x.now (c.args.four.first + 3 * c.args.four.step)
    l) ≤ 2147467263 =
    subst (λ n. unsigned_abs (tile_sum c.args.taps.now c.args.x.now n l) ≤ 2147467263) there
    (c.requires.small 3 l (omega arith) low) in
    c.put_sums-4.ensures.done l low ∙ (ap (λ z. rescaled z c.args.four.shift)
    (sent_sum c.args.taps.now c.args.x.now c.piece-4.result.now (c.args.four.first + 3 * c.args.four.step)
    (length c.piece.result.now / 2)
    (length c.args.taps.now / 8) l c.tile_sums-sums.result.d c.tile_sums-sums.ensures.d c.piece-4.ensures pairs
    (omega (arith, pairs)) low small)
    ∙ ap (λ n. rescaled (tile_sum c.args.taps.now c.args.x.now n l) c.args.four.shift) (sym there)))
    c.put_sums-4.ensures.others
