use Rattle.std.proofs.Common.{◌∙◌}
use Rattle.sdf_file.proofs.Limits.{filter_passes}
use Rattle.sdf_file.proofs.parts.filter_of.Goals as goal

pub returns : goal.returns
returns c =
    c.fir.ensures ∙ filter_passes c.args.up c.args.down c.args.shift c.args.taps.items c.requires.up c.requires.down
    c.requires.shift c.requires.taps
