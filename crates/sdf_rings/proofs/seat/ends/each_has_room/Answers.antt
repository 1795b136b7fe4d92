use Rattle.std.proofs.Common.{slice_index, rules, arith}
use Rattle.rtrb.specs.Ring.{known_free}
use Rattle.sdf_rings.proofs.Each.{found_short}
use Rattle.sdf_rings.proofs.seat.ends.each_has_room.Goals as goal

pub returns-then-not-has_room-clause-no : goal.returns-then-not-has_room-clause-no
returns-then-not-has_room-clause-no g c = λ f. found_short (slice_index c.args.sizes.now) (λ e. known_free e)
    c.loop-i.ends c.loop-i.i c.has_room.new.end (omega arith)
    (λ h. let v = c.has_room.ensures.value.1 (h) in search rules)
