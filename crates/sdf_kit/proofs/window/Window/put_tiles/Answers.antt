use Rattle.std.proofs.Common.{◌≡◌, ◌≤◌, ◌+◌, ◌*◌, ◌∙◌, ℤ, List, length, take, drop, map, get_or, pos}
use Rattle.std.proofs.Common.{FitsSigned, unsigned_abs, ap, subst, sym, refl, rules, arith}
use Rattle.std.specs.Int.{w16}
use Rattle.std.specs.List.{range_with_len}
use Rattle.sdf_kit.specs.Samples.{rescaled}
use Rattle.sdf_kit.specs.Tiles.{whole_output}
use Rattle.sdf_kit.specs.Window.{WindowValue}
use Rattle.sdf_kit.proofs.Windows.{length_held, high_fits}
use Rattle.sdf_kit.proofs.TileWindows.{tail_is, tail_short, quiet_samples, wide_samples, quiet_within}
use Rattle.sdf_kit.proofs.window.Window.put_tiles.Goals as goal

pub put_tiles-requires-clause-short : goal.put_tiles-requires-clause-short
put_tiles-requires-clause-short c =
    let long : length c.args.self.now.samples ≡ c.self.inside.len =
    ap (λ (w : WindowValue). length w.samples) (sym c.self.view_is)
    ∙ length_held c.self.inside.form c.self.inside.high c.self.inside.low c.self.inside.len c.self.inside.limits
    c.self.invariant in
    let low : c.args.pad ≤ c.self.inside.len = omega (arith, long, c.requires.samples) in
    let few : c.self.inside.len ≤ 2048 = omega (arith, long, c.requires.room) in
    let a : FitsSigned w16 (get_or c.self.inside.high c.self.inside.len (pos 0)) = search rules in
    let b : FitsSigned w16 (get_or c.self.inside.high (c.self.inside.len + 1) (pos 0)) = search rules in
    tail_short c.self.inside.high c.args.pad c.self.inside.len c.self.told.0 low few
    (high_fits c.self.invariant refl) a b

pub put_tiles-requires-clause-small : goal.put_tiles-requires-clause-small
put_tiles-requires-clause-small c quiet n l =
    let held_is : c.args.self.now.samples ≡ take c.self.inside.len c.self.inside.high =
    quiet_samples c.self.inside.form c.self.inside.high c.self.inside.low c.self.inside.len c.self.inside.limits
    c.args.self.now c.self.view_is c.in-Quiet.is in
    let long : length c.args.self.now.samples ≡ c.self.inside.len =
    ap (λ (w : WindowValue). length w.samples) (sym c.self.view_is)
    ∙ length_held c.self.inside.form c.self.inside.high c.self.inside.low c.self.inside.len c.self.inside.limits
    c.self.invariant in
    let low : c.args.pad ≤ c.self.inside.len = omega (arith, long, c.requires.samples) in
    let few : c.self.inside.len ≤ 2048 = omega (arith, long, c.requires.room) in
    let same = tail_is c.self.inside.high c.args.pad c.self.inside.len c.self.told.0 low few
    ∙ ap (drop c.args.pad) (sym held_is) in
    subst (λ xs. unsigned_abs (whole_output c.args.taps.now c.args.firings.up c.args.firings.down xs n) ≤ 2147467263)
    (sym same) (c.requires.small (quiet_within c.self.invariant c.self.view_is c.in-Quiet.is) n l)

pub returns-in-Quiet-clause-put : goal.returns-in-Quiet-clause-put
returns-in-Quiet-clause-put c _ =
    let held_is : c.args.self.now.samples ≡ take c.self.inside.len c.self.inside.high =
    quiet_samples c.self.inside.form c.self.inside.high c.self.inside.low c.self.inside.len c.self.inside.limits
    c.args.self.now c.self.view_is c.in-Quiet.is in
    let long : length c.args.self.now.samples ≡ c.self.inside.len =
    ap (λ (w : WindowValue). length w.samples) (sym c.self.view_is)
    ∙ length_held c.self.inside.form c.self.inside.high c.self.inside.low c.self.inside.len c.self.inside.limits
    c.self.invariant in
    let low : c.args.pad ≤ c.self.inside.len = omega (arith, long, c.requires.samples) in
    let few : c.self.inside.len ≤ 2048 = omega (arith, long, c.requires.room) in
    let same = tail_is c.self.inside.high c.args.pad c.self.inside.len c.self.told.0 low few
    ∙ ap (drop c.args.pad) (sym held_is) in
    c.put_tiles.ensures ∙ ap (λ (xs : List ℤ). map (λ n. rescaled (whole_output c.args.taps.now c.args.firings.up
    c.args.firings.down xs n) c.args.firings.shift) (range_with_len 0 (c.args.firings.many * c.args.firings.up))) same

pub put_tiles-requires-in-Wide-clause-short : goal.put_tiles-requires-in-Wide-clause-short
put_tiles-requires-in-Wide-clause-short c =
    let long : length c.args.self.now.samples ≡ c.self.inside.len =
    ap (λ (w : WindowValue). length w.samples) (sym c.self.view_is)
    ∙ length_held c.self.inside.form c.self.inside.high c.self.inside.low c.self.inside.len c.self.inside.limits
    c.self.invariant in
    let low : c.args.pad ≤ c.self.inside.len = omega (arith, long, c.requires.samples) in
    let few : c.self.inside.len ≤ 2048 = omega (arith, long, c.requires.room) in
    let a : FitsSigned w16 (get_or c.self.inside.high c.self.inside.len (pos 0)) = search rules in
    let b : FitsSigned w16 (get_or c.self.inside.high (c.self.inside.len + 1) (pos 0)) = search rules in
    tail_short c.self.inside.high c.args.pad c.self.inside.len c.self.told.0 low few
    (high_fits c.self.invariant refl) a b

pub returns-in-Wide-clause-put : goal.returns-in-Wide-clause-put
returns-in-Wide-clause-put c _ =
    let held_is : c.args.self.now.samples ≡ take c.self.inside.len c.self.inside.high =
    wide_samples c.self.inside.form c.self.inside.high c.self.inside.low c.self.inside.len c.self.inside.limits
    c.args.self.now c.self.view_is c.in-Wide.is in
    let long : length c.args.self.now.samples ≡ c.self.inside.len =
    ap (λ (w : WindowValue). length w.samples) (sym c.self.view_is)
    ∙ length_held c.self.inside.form c.self.inside.high c.self.inside.low c.self.inside.len c.self.inside.limits
    c.self.invariant in
    let low : c.args.pad ≤ c.self.inside.len = omega (arith, long, c.requires.samples) in
    let few : c.self.inside.len ≤ 2048 = omega (arith, long, c.requires.room) in
    let same = tail_is c.self.inside.high c.args.pad c.self.inside.len c.self.told.0 low few
    ∙ ap (drop c.args.pad) (sym held_is) in
    c.put_tiles-in-Wide.ensures ∙ ap (λ (xs : List ℤ). map
    (λ n. rescaled (whole_output c.args.taps.now c.args.firings.up
    c.args.firings.down xs n) c.args.firings.shift) (range_with_len 0 (c.args.firings.many * c.args.firings.up))) same
