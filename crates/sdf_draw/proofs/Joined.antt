-- Lists of bars.
use Rattle.std.proofs.Common.{◌≡◌, List, [], ◌∷◌, ◌++◌, ap, refl, Bool}
use Rattle.sdf_draw.specs.declared.bars.Bar.{Bar}
use Rattle.sdf_draw.specs.Bars.{two_bars, with_bar}

-- the last bar and a new one
pub with_bar_last : (joined : Bool) (bars : List Bar) (a b : Bar) →
    with_bar joined (bars ++ a ∷ []) b ≡ bars ++ two_bars joined a b
with_bar_last joined [] a b = refl
with_bar_last joined (x ∷ []) a b = refl
with_bar_last joined (x ∷ y ∷ bars) a b = ap (λ zs. x ∷ zs) (with_bar_last joined (y ∷ bars) a b)
