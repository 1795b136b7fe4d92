use Rattle.std.proofs.Common.{◌≡◌, ◌∙◌, rules, sym, ◌++◌, [], ◌∷◌}
use Rattle.sdf_document.proofs.Lists.{integers_more, integers_fail}
use Rattle.sdf_document.proofs.value.integers_in.Goals as goal

pub returns-in-None : goal.returns-in-None
returns-in-None c =
    (sym (integers_fail c.loop-item.numbers.items c.args.items.now c.loop-item.item-index c.item-item.result
    (search rules) (search rules)) ∙ c.loop-item.invariant)

pub loop-item-preserved : goal.loop-item-preserved
loop-item-preserved c =
    let more = integers_more c.loop-item.numbers.items c.args.items.now c.loop-item.item-index c.item-item.result
    c.in-Some.number (search rules) (search rules) in
    let pushed : c.push.new.self.items ≡ c.loop-item.numbers.items ++ c.in-Some.number ∷ [] = search rules in
    rw pushed (more ∙ c.loop-item.invariant)
