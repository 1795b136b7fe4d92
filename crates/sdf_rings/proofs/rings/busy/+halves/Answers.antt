use Rattle.std.proofs.Common.{◌/◌, ◌++◌, length, sym, subst}
use Rattle.std.specs.Fork.{AcceptsAt, ChangesAt}
use Rattle.sdf_rings.specs.Busy.{HoldsFrom, BecameFrom}
use Rattle.sdf_rings.proofs.Parted.{second_holds, both_became}
use Rattle.sdf_rings.proofs.rings.busy.+halves.Goals as goal

pub for_each_busy-join_halves-requires-clause-back : goal.for_each_busy-join_halves-requires-clause-back
for_each_busy-join_halves-requires-clause-back g t c κs within =
    let cut = c.split_at_mut-front in
    second_holds c.args.base (length c.args.s.now / 2) cut.result.0.now cut.result.1.now cut.ensures.front_len
    (AcceptsAt g.F.Fn c.args.f.now) (subst (HoldsFrom (AcceptsAt g.F.Fn c.args.f.now) c.args.base) cut.ensures.value
    c.requires)

pub for_each_busy-for_each_busy-requires-else-some_busy-after_bounds :
    goal.for_each_busy-for_each_busy-requires-else-some_busy-after_bounds
for_each_busy-for_each_busy-requires-else-some_busy-after_bounds g t c κs within =
    let cut = c.split_at_mut-front in
    second_holds c.args.base (length c.args.s.now / 2) cut.result.0.now cut.result.1.now cut.ensures.front_len
    (AcceptsAt g.F.Fn c.args.f.now) (subst (HoldsFrom (AcceptsAt g.F.Fn c.args.f.now) c.args.base) cut.ensures.value
    c.requires)

pub for_each_busy-returns-then-some_busy-2 : goal.for_each_busy-returns-then-some_busy-2
for_each_busy-returns-then-some_busy-2 g t c =
    let cut = c.split_at_mut-front in
    let R = ChangesAt g.F.Fn c.args.f.now in
    let first = c.join_halves.new.front in
    let second = c.join_halves.new.back in
    subst (λ xs. BecameFrom R c.args.base xs (first ++ second)) (sym cut.ensures.value)
    (both_became c.args.base (length c.args.s.now / 2) cut.result.0.now cut.result.1.now cut.ensures.front_len R
    first second c.join_halves.ensures.front c.join_halves.ensures.back)

pub for_each_busy-returns-else-some_busy : goal.for_each_busy-returns-else-some_busy
for_each_busy-returns-else-some_busy g t c =
    let cut = c.split_at_mut-front in
    let R = ChangesAt g.F.Fn c.args.f.now in
    let first = c.for_each_busy.new.s in
    let second = c.for_each_busy-else-some_busy.new.s in
    subst (λ xs. BecameFrom R c.args.base xs (first ++ second)) (sym cut.ensures.value)
    (both_became c.args.base (length c.args.s.now / 2) cut.result.0.now cut.result.1.now cut.ensures.front_len R
    first second c.for_each_busy.ensures c.for_each_busy-else-some_busy.ensures)
