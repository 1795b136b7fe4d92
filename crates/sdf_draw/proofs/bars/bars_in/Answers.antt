use Rattle.std.proofs.Common.{◌≡◌, List, get_or, subst, Option, Some, None}
use Rattle.sdf_prec.specs.declared.firing.Firing.{Firing}
use Rattle.sdf_draw.proofs.bars.bars_in.Goals as goal

pub add_cell-requires : goal.add_cell-requires
add_cell-requires c = λ f e.
    c.requires.each c.loop-i.i f (subst (λ (cells : List (Option Firing)). get_or cells c.args.column None ≡ Some f)
    c.row.ensures e)
