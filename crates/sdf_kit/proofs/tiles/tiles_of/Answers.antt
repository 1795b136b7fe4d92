use Rattle.sdf_kit.proofs.tiles.tiles_of.Goals as goal

pub returns-then-wanted-clause-tiles : goal.returns-then-wanted-clause-tiles
returns-then-wanted-clause-tiles c =
    c.widened.ensures.same c.args.taps.now c.args.firings.up c.args.firings.down c.in_ok-tiles.ensures.tiles
