use Rattle.std.proofs.Common.{◌∙◌, arith}
use Rattle.sdf_rings.proofs.Lists.{vec_long}
use Rattle.sdf_rings.proofs.Seating.{filled_begin, filled_there, filled_more}
use Rattle.sdf_rings.proofs.setup.seats.seats.Goals as goal

pub loop-seat-init : goal.loop-seat-init
loop-seat-init g c = record {
  len = c.in_ok-seats.ensures.len;
  filled = rw c.in_ok-seats.ensures.items filled_begin;
}

pub begin_seat-requires-clause-ends : goal.begin_seat-requires-clause-ends
begin_seat-requires-clause-ends g c = λ κs within. λ a l e.
    filled_there c.loop-seat.invariant.filled a e (c.requires.ends a l)

pub loop-seat-preserved : goal.loop-seat-preserved
loop-seat-preserved g c = record {
  len = omega (arith, c.in_ok-push.ensures.len, c.loop-seat.invariant.len);
  filled = filled_more c.loop-seat.invariant.filled c.begin_seat.new.ends.producers.items
      c.begin_seat.new.ends.consumers.items (vec_long c.loop-seat.seats ∙ c.loop-seat.invariant.len)
      c.in_ok-push.ensures.items c.in_ok-begin_seat.ensures.begun c.in_ok-begin_seat.ensures.producers
      c.in_ok-begin_seat.ensures.consumers;
}

pub returns : goal.returns
returns g c = record {
  all = omega (arith, c.loop-seat-test.false, c.loop-seat.auto.seat-end, c.loop-seat.invariant.len);
  each = λ i e h. c.loop-seat.invariant.filled.each i e (omega (arith, c.loop-seat-test.false, h));
}
