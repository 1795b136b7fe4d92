use Rattle.std.proofs.Common.{◌≡◌, true, take}
use Rattle.std.specs.List.{list_all}
use Rattle.sdf_document.specs.Lists.{fits}
use Rattle.sdf_document.proofs.list.all_of.Given as goal

abbrev pub invariant-loop-number : goal.invariant-loop-number
invariant-loop-number l = (l.values.items ≡ take l.number-index l.numbers)
    × (list_all (fits l.width) (take l.number-index l.numbers) ≡ true)
