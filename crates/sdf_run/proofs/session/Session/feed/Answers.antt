use Rattle.std.proofs.Common.{◌≡◌, ◌+◌, ◌*◌, ◌∙◌, Some, None, refl, sym, ap, subst, arith}
use Rattle.sdf_actor.specs.Sides.{list_count, period_samples}
use Rattle.sdf_actor.specs.Wires.{lists}
use Rattle.sdf_actor.specs.declared.sides.Lists.TheVariants.{Inputs}
use Rattle.sdf_one.proofs.Theorems.{samples_have_lists}
use Rattle.sdf_run.specs.Sessions.{SessionValue, FeedsBlocks, IsFeedFault, HasFed, after_fault, counted}
use Rattle.sdf_run.proofs.Feeding.{rest_of, blocks_same, feed_fault, has_fed, stands_still}
use Rattle.sdf_run.proofs.session.Session.feed.Given.{Over}
use Rattle.sdf_run.proofs.session.Session.feed.Goals.{In-Some-blocks_in}
use Rattle.sdf_run.proofs.session.Session.feed.Goals as goal

-- the session before the feed
abbrev value : (g : Over) → In-Some-blocks_in g → SessionValue g.row.A.Denot g.row.A-State.Denot g.row.A-Token.Denot
value g c = record {
  net = c.self.inside.net.now;
  period = c.self.inside.table.now.period;
  blocking = c.self.inside.table.now.blocking;
  table = c.self.inside.table.now.table;
  mode = c.self.inside.mode;
  rest = c.self.inside.rest;
  blocks = c.self.inside.blocks;
  rounds = c.self.inside.rounds;
}

-- the lists are its blocks
are : (g : Over) (c : In-Some-blocks_in g) →
    FeedsBlocks (value g c) c.in-Some-blocks_in.blocks (lists c.args.inputs.now)
are g c =
    let n = c.self.inside.net.now in
    let q = c.self.inside.table.now.period.repetitions in
    subst (λ X. X) (blocks_same c.inputs.result (list_count Inputs n.nodes) c.self.inside.table.now.blocking
    c.samples_in.result (period_samples n.nodes Inputs q) c.in-Some-blocks_in.blocks (lists c.args.inputs.now)
    c.inputs.ensures (c.samples_in.ensures.value q c.self.invariant.period.least))
    c.in-Some-blocks_in.ensures.some

pub blocks_in-requires-clause-many : goal.blocks_in-requires-clause-many
blocks_in-requires-clause-many g c =
    let n = c.self.inside.net.now in
    let q = c.self.inside.table.now.period.repetitions in
    let each = c.samples_in.ensures.value q c.self.invariant.period.least in
    omega (
      arith,
      c.inputs.ensures,
      samples_have_lists n.nodes q (omega (arith, c.samples_in.ensures.some, each)),
    )

pub returns-in_default-blocks_in : goal.returns-in_default-blocks_in
returns-in_default-blocks_in g c =
    let n = c.self.inside.net.now in
    let q = c.self.inside.table.now.period.repetitions in
    let each = c.samples_in.ensures.value q c.self.invariant.period.least in
    let inputs = lists c.args.inputs.now in (
      (
        (c.in-Some.rest, sym (ap (λ v. v.rest) c.self.view_is) ∙ c.in-Some.is),
        λ blocks are. c.in_default-blocks_in.ensures.none blocks (subst (λ X. X)
            (sym (blocks_same c.inputs.result (list_count Inputs n.nodes) c.self.inside.table.now.blocking
            c.samples_in.result
            (period_samples n.nodes Inputs q) blocks inputs c.inputs.ensures each))
            (subst (λ v. FeedsBlocks v blocks inputs) (sym c.self.view_is) are)),
      ),
      refl,
    )

pub resume-fed-requires-clause-fits : goal.resume-fed-requires-clause-fits
resume-fed-requires-clause-fits g c κs within =
    record { period = c.self.invariant.period; table = c.self.invariant.table }

pub resume-fed-requires-clause-rest : goal.resume-fed-requires-clause-rest
resume-fed-requires-clause-rest g c κs within =
    let stood = c.self.invariant.stands (c.in-Some.rest, c.in-Some.is) in (
      stood.1,
      stood.0 * c.self.inside.table.now.blocking,
      rest_of g.A.Actor.steps _ c.in-Some.rest c.in-Some.is stood.0 stood.1
          stood.2 stood.3,
    )

pub invariant_of-self : goal.invariant_of-self
invariant_of-self g c = record {
  period = c.self.invariant.period;
  table = c.self.invariant.table;
  may = c.self.invariant.may;
  stands = λ live. stands_still g.A.Actor.steps _ c.in-Some.rest c.in-Ok.last c.in-Some.is c.in-Some-blocks_in.blocks
      (lists c.args.inputs.now) (lists c.in-Ok.ran.outputs.items)
      (are g (goal.at.invariant_of-self g c).In-Some-blocks_in) c.in-Ok.ensures.0
      c.saturating_add-self-inside.result c.saturating_add-self-inside-in-Ok.result
      (c.self.invariant.stands (c.in-Some.rest, c.in-Some.is));
}

pub returns-in-Ok : goal.returns-in-Ok
returns-in-Ok g c =
    let here = (goal.at.returns-in-Ok g c).In-Some-blocks_in in
    let v = value g here in
    let blocks = c.in-Some-blocks_in.blocks in
    let inputs = lists c.args.inputs.now in
    let made = lists c.in-Ok.ran.outputs.items in (
      blocks,
      subst (λ u. HasFed g.A.Actor.steps u (record v {
        rest = Some c.in-Ok.last;
        blocks = c.saturating_add-self-inside.result;
        rounds = c.saturating_add-self-inside-in-Ok.result;
      }) blocks inputs made c.in-Ok.ran.rounds)
          c.self.view_is
          (has_fed g.A.Actor.steps v c.in-Some.rest c.in-Ok.last c.in-Some.is blocks c.in-Ok.ran.rounds
          c.saturating_add-self-inside.result c.saturating_add-self-inside-in-Ok.result inputs made (are g here)
          c.in-Ok.ensures.0 c.in-Ok.ensures.1 (c.saturating_add-self-inside.ensures
          ∙ ap (λ b. counted (c.self.inside.blocks + b)) c.from.ensures)
          c.saturating_add-self-inside-in-Ok.ensures),
    )

pub returns-in-Err : goal.returns-in-Err
returns-in-Err g c =
    let here = (goal.at.returns-in-Err g c).In-Some-blocks_in in
    let v = value g here in
    let inputs = lists c.args.inputs.now in
    subst (λ u. IsFeedFault u inputs c.in-Err.fault
    × (record v { rest = None } ≡ after_fault u c.in-Err.fault)) c.self.view_is
    (feed_fault v c.in-Some-blocks_in.blocks inputs (c.in-Some.rest, c.in-Some.is) (are g here) c.in-Err.fault
    c.in-Err.ensures)
