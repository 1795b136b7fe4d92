use Rattle.std.proofs.Common.{◌≡◌, ◌<◌, ℕ, length, slice_index, slice_index_or, refl, sym, ◌∙◌, subst, ap, arith}
use Rattle.sdf_graph.specs.Sequences.{repeated}
use Rattle.sdf_actor.specs.Wires.{lists}
use Rattle.sdf_actor.proofs.Theorems.{nets_are_wired}
use Rattle.sdf_rings.specs.Begun.{place, IsBegun}
use Rattle.sdf_rings.specs.Prepared.{IsPrepared}
use Rattle.sdf_rings.proofs.Lists.{vec_long}
use Rattle.sdf_rings.proofs.Openings.{has_ends}
use Rattle.sdf_rings.proofs.Planning as plans
use Rattle.sdf_rings.proofs.Planning.{AskedPlan}
use Rattle.sdf_rings.proofs.Prepared as begun
use Rattle.sdf_rings.proofs.Prepared.{AreLaidOut}
use Rattle.sdf_rings.proofs.prepare.build_rings.Given.{Over}
use Rattle.sdf_rings.proofs.prepare.build_rings.Goals.{After-len, In_ok-seats}
use Rattle.sdf_rings.proofs.prepare.build_rings.Goals as goal

asked : (g : Over) (c : After-len g) →
    AskedPlan g.A.Actor.steps c.args.start.now.net.now c.args.table.now c.args.blocks
    (slice_index c.args.start.now.asked.items)
asked g c = record {
  wired = nets_are_wired g.A.Actor.steps c.args.start.now.net.now c.requires.start.can.net;
  is = c.requires.plan;
}

many : (g : Over) (c : In_ok-seats g) → length c.in_ok-seats.seats.items ≡ c.columns.result
many g c = vec_long c.in_ok-seats.seats ∙ c.in_ok-seats.ensures.all

laid : (g : Over) (c : In_ok-seats g) →
    AskedPlan g.A.Actor.steps c.args.start.now.net.now c.args.table.now c.args.blocks
    (slice_index c.args.start.now.asked.items) →
    AreLaidOut g.A.Actor.steps c.args.start.now.net.now (lists c.args.start.now.inputs.now)
    (slice_index c.args.start.now.asked.items)
    (slice_index c.args.table.now.caps)
    (repeated c.args.blocks c.args.table.now.order) c.in_ok-seats.seats.items
    c.in_ok-places.places.items
laid g c plan =
    let s = g.A.Actor.steps in
    let x = c.args.start.now in
    let n = x.net.now in
    let inputs = lists x.inputs.now in
    let counts = slice_index x.asked.items in
    let ps = c.in_ok-ends.ends.producers.items in
    let xs = c.in_ok-ends.ends.consumers.items in
    let b = c.args.blocks in
    let places = c.in_ok-places.places.items in
    let seats = c.in_ok-seats.seats.items in
    let wide = many g c in
    record {
      good = c.requires.start.can.net;
      ps = ps;
      xs = xs;
      rings = c.in_ok-ends.ensures;
      all = vec_long c.in_ok-places.places ∙ (c.in_ok-places.ensures.all ∙ c.len.ensures);
      known = plans.known plan;
      counts = plans.counts plan;
      seated = λ a l. omega (
        arith,
        wide,
        plans.home_below plan c.columns.result c.columns.ensures a (place places a).0 l
            (c.in_ok-places.ensures.homes a (omega (arith, c.len.ensures, l))),
      );
      each = λ i e h. subst
          (λ zs. IsBegun s n inputs counts ps xs zs (repeated b c.args.table.now.order) i
          (slice_index_or seats i e)) c.deref.ensures.value
          (subst (λ w. IsBegun s n inputs counts ps xs c.deref.result.now (repeated b w) i (slice_index_or seats i e))
          c.order.ensures (c.in_ok-seats.ensures.each i e (omega (arith, wide, h))));
    }

pub open_rings-requires-clause-held : goal.open_rings-requires-clause-held
open_rings-requires-clause-held g c κs within =
    plans.held (asked g (goal.at.open_rings-requires-clause-held g c).After-len)

pub columns-requires : goal.columns-requires
columns-requires g c =
    let plan = asked g (goal.at.columns-requires g c).After-len in
    (plan.is.plan.width, plans.wide plan)

pub seats-requires-clause-assigned : goal.seats-requires-clause-assigned
seats-requires-clause-assigned g c κs within =
    let plan = asked g (goal.at.seats-requires-clause-assigned g c).After-len in
    let long = ap length c.deref.ensures.value ∙ (vec_long c.in_ok-places.places
    ∙ (c.in_ok-places.ensures.all ∙ c.len.ensures)) in
    subst (λ w. (i : ℕ) → i < length w → slice_index w i < length c.deref.result.now) (sym c.order.ensures)
    (λ i h. omega (arith, long, plans.order_known plan i h))

pub seats-requires-clause-ends : goal.seats-requires-clause-ends
seats-requires-clause-ends g c κs within = λ a h.
    has_ends g.A.Actor.steps c.args.start.now.net.now
    (slice_index c.args.table.now.caps)
    c.in_ok-ends.ends.producers.items c.in_ok-ends.ends.consumers.items c.in_ok-ends.ensures a

pub new-requires-clause-rings : goal.new-requires-clause-rings
new-requires-clause-rings g c κs within =
    let here = goal.at.new-requires-clause-rings g c in
    begun.are_rings (laid g here.In_ok-seats (asked g here.After-len))

pub returns : goal.returns
returns g c =
    let here = goal.at.returns g c in
    let plan = asked g here.After-len in
    let all = laid g here.In_ok-seats plan in
    subst (λ r. IsPrepared g.A.Actor.steps c.args.start.now.net.now (lists c.args.start.now.inputs.now)
    c.args.table.now c.args.blocks r) (sym c.new.ensures)
    (record {
      net_is = refl;
      accepted = c.requires.start.accepted;
      rings = begun.are_rings all;
      inputs_are = refl;
      columns = λ i h. c.columns.ensures i h ∙ sym (many g here.In_ok-seats);
      processors = λ i e h. (all.each i e h).processor_is;
      homes = λ a l. c.in_ok-places.ensures.homes a (omega (arith, c.len.ensures, l));
      undone = begun.undone all;
      first = λ i e h. (all.each i e h).first;
      met = begun.have_met all;
      planned = begun.is_planned all (plans.admissible plan) (plans.fits plan);
    })
