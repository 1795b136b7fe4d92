use Rattle.std.proofs.Common.{◌≡◌, vec_capacity, arith}
use Rattle.std.specs.List.{insert}
use Rattle.sdf_sched.proofs.Updates.{absent_at, put_in, room}
use Rattle.sdf_sched.proofs.class_s.insert.Goals as goal

pub unwrap-requires : goal.unwrap-requires
unwrap-requires c =
    let place = absent_at c.args.runnable.now.items c.deref.result.now c.deref.ensures.value c.requires.rising
    c.args.actor c.binary_search.result c.binary_search.ensures.position c.in-Err.at c.in-Err.is in
    let less = room c.args.runnable.now.items c.requires.rising c.args.actor c.in-Err.at place.0 place.1 place.2
    (vec_capacity c.args.runnable.now) c.requires.known c.requires.below in
    c.insert.ensures.succeeds (omega (arith, c.args.runnable.now.ok.0))

pub returns-in-Err-clause-list : goal.returns-in-Err-clause-list
returns-in-Err-clause-list c =
    let place = absent_at c.args.runnable.now.items c.deref.result.now c.deref.ensures.value c.requires.rising
    c.args.actor c.binary_search.result c.binary_search.ensures.position c.in-Err.at c.in-Err.is in
    let longer : c.insert.new.self.items ≡ insert c.args.runnable.now.items c.in-Err.at c.args.actor =
    rw c.unwrap.ensures at c.insert.ensures.items in
    rw longer (put_in c.args.runnable.now.items c.requires.rising c.args.actor c.in-Err.at place.0 place.1 place.2
    _ tt)

pub returns-in-Err-clause-capacity : goal.returns-in-Err-clause-capacity
returns-in-Err-clause-capacity c =
    let place = absent_at c.args.runnable.now.items c.deref.result.now c.deref.ensures.value c.requires.rising
    c.args.actor c.binary_search.result c.binary_search.ensures.position c.in-Err.at c.in-Err.is in
    let less = room c.args.runnable.now.items c.requires.rising c.args.actor c.in-Err.at place.0 place.1 place.2
    (vec_capacity c.args.runnable.now) c.requires.known c.requires.below in
    (c.insert.ensures.in_place (omega (arith, c.args.runnable.now.ok.0))).1.0
