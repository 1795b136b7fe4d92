use Rattle.std.proofs.Common.{◌≡◌, ℕ, List, [], map, get_or, sym, ap, ◌∙◌, get_or-set_same, get_or-set_other}
use Rattle.std.proofs.Math.ListN.{get_or-map}
use Rattle.std.specs.declared.vec.Vec.{Vec}
use Rattle.sdf_queues.specs.Lists.{list}
use Rattle.sdf_queues.proofs.outputs.take_spare.Goals as goal

-- a list by its vector, where an empty one stands for those past the end
list_is : {T Z : Type 0} (none : Vec T Z) → none.items ≡ [] → (vs : List (Vec T Z)) (e : ℕ) →
    list vs e ≡ (get_or vs e none).items
list_is none empty vs e = ap (λ d. get_or (map (λ v. v.items) vs) e d) (sym empty) ∙ get_or-map (λ v. v.items) vs e none

pub returns-then-place-spares-clause-left : goal.returns-then-place-spares-clause-left
returns-then-place-spares-clause-left g c =
    let none = c.new.result in
    list_is none c.new.ensures.items _ c.args.place
    ∙ (ap (λ v. v.items) (get_or-set_same c.args.spares.now c.args.place c.replace.new.dest none c.if-place-spares.true)
    ∙ (ap (λ v. v.items) c.replace.ensures.after ∙ c.new.ensures.items))

pub returns-then-place-spares-clause-others : goal.returns-then-place-spares-clause-others
returns-then-place-spares-clause-others g c = λ other apart.
    let none = c.new.result in
    list_is none c.new.ensures.items _ other
    ∙ (ap (λ v. v.items) (get_or-set_other c.args.spares.now c.args.place other c.replace.new.dest none
    apart)
    ∙ sym (list_is none c.new.ensures.items c.args.spares.now other))
