use Rattle.std.proofs.Common.{◌≡◌, ◌++◌, length, take, drop, slice_index, subst, sym, arith}
use Rattle.std.proofs.lemmas.List.{take_at}
use Rattle.sdf_warm_up.specs.WarmUps.{AreFirings, AreLate, AreEarly}
use Rattle.sdf_warm_up.proofs.warm_up.since_of.Goals as goal

pub returns-in-Stays : goal.returns-in-Stays
returns-in-Stays c =
    let g = c.args.graph.now in
    let memory = slice_index c.args.memory.now in
    let new = c.settle.new.since in
    let was = c.in_ok-since.since.items in
    let many : length c.deref_mut.result.now ≡ g.actors =
    omega (arith, c.in_ok-since.ensures.len, c.deref_mut.ensures.len, c.actors.ensures.count) in
    let back : take c.in_ok-since.since.len (new ++ drop (length new) was) ≡ new =
    take_at new (drop (length new) was) c.in_ok-since.since.len
    (omega (arith, many, c.settle.ensures.since.all, c.deref_mut.ensures.len)) in
    subst (λ xs. AreFirings g.actors xs × AreLate g memory (slice_index xs) × AreEarly g memory xs) (sym back)
    (subst (λ n. AreFirings n new) many c.settle.ensures.since, c.in-Stays.ensures.end, c.settle.ensures.early)
