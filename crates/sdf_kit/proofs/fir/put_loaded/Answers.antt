use Rattle.std.proofs.Common.{◌-◌, ◌*◌, ◌∙◌, List, ℤ, map, drop, unsigned_abs}
use Rattle.std.proofs.Common.{◌≤◌, refl, ap, sym, subst}
use Rattle.std.specs.List.{range_with_len}
use Rattle.sdf_kit.specs.Samples.{rescaled}
use Rattle.sdf_kit.specs.Fir.{Filter}
use Rattle.sdf_kit.specs.Branches.{branch_output}
use Rattle.sdf_kit.specs.Dots.{AreWithin}
use Rattle.sdf_kit.specs.Tiles.{keep_of, whole_output}
use Rattle.sdf_kit.specs.declared.branches.Limits.{Limits}
use Rattle.sdf_kit.proofs.Blocks.{block_is}
use Rattle.sdf_kit.proofs.TileBlocks.{small, tiled}
use Rattle.sdf_kit.proofs.fir.put_loaded.Goals as goal

pub put_tiles-requires-clause-small : goal.put_tiles-requires-clause-small
put_tiles-requires-clause-small c within n l =
    subst (λ k. unsigned_abs (whole_output c.args.layout.taps.now c.args.firings.up c.args.firings.down
    (drop (c.args.layout.branches.now.width - 1 - k) c.args.window.now.samples) n) ≤ 2147467263) (sym c.requires.kept)
    (small c.args.layout.taps.now c.args.layout.branches.now c.args.firings.up c.args.firings.down c.args.firings.shift
    c.args.firings.many c.args.block.kept.now c.args.block.taken.now c.args.window.now.samples c.requires.branches
    c.requires.firings.up.0 c.requires.firings.down.0 c.requires.kept c.requires.taken c.requires.samples
    (subst (λ (limits : Limits). AreWithin limits.peak c.args.window.now.samples) c.requires.limits within) n l)

pub returns-then-put_tiles : goal.returns-then-put_tiles
returns-then-put_tiles c =
    c.put_tiles.ensures.put c.if-put_tiles.true
    ∙ (ap (λ k. map (λ n. rescaled (whole_output c.args.layout.taps.now c.args.firings.up c.args.firings.down
    (drop (c.args.layout.branches.now.width - 1 - k) c.args.window.now.samples) n) c.args.firings.shift)
    (range_with_len 0 (c.args.firings.many * c.args.firings.up))) c.requires.kept
    ∙ tiled c.args.layout.taps.now c.args.layout.branches.now c.args.firings.up c.args.firings.down c.args.firings.shift
    c.args.firings.many c.args.block.kept.now c.args.block.taken.now c.args.window.now.samples c.requires.branches
    c.requires.firings.up.0 c.requires.firings.down.0 c.requires.kept c.requires.taken c.requires.samples)

pub returns : goal.returns
returns c =
    let f : Filter = record {
      up = c.args.firings.up;
      down = c.args.firings.down;
      taps = c.args.layout.taps.now;
      shift = c.args.firings.shift;
    } in
    c.put_branches.ensures
    ∙ (ap (λ (s : List ℤ). map (branch_output c.args.layout.branches.now c.args.firings.up c.args.firings.down
    c.args.firings.shift s) (range_with_len 0 (c.args.firings.many * c.args.firings.up))) c.requires.samples
    ∙ block_is f c.args.layout.branches.now c.args.block.kept.now c.args.block.taken.now c.args.firings.many
    (c.args.layout.branches.now.width - 1 - keep_of c.args.layout.taps.now c.args.firings.up)
    (record {
      up = c.requires.firings.up;
      down = c.requires.firings.down;
      shift = c.requires.firings.shift;
      some_taps = c.requires.some;
      taps = c.requires.taps;
    })
    c.requires.branches c.requires.kept refl c.requires.taken)
