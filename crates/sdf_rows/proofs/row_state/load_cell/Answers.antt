use Rattle.std.proofs.Common.{◌+◌, length, set, refl, sym, subst}
use Rattle.sdf_rows.specs.Loading.{CanLoad, HasLoaded}
use Rattle.sdf_rows.proofs.Loads.{has_loaded}
use Rattle.sdf_rows.proofs.row_state.load_cell.Goals as goal

pub bounds-jobs-many : goal.bounds-jobs-many
bounds-jobs-many g c = (subst (λ cell. CanLoad cell (length c.args.done.now) (length c.args.states.now)
    (length c.args.jobs.now) c.args.many) c.in-Some.is c.requires).2

pub bounds-states-actor : goal.bounds-states-actor
bounds-states-actor g c = (subst (λ cell. CanLoad cell (length c.args.done.now) (length c.args.states.now)
    (length c.args.jobs.now) c.args.many) c.in-Some.is c.requires).1

pub bounds-done-actor : goal.bounds-done-actor
bounds-done-actor g c = (subst (λ cell. CanLoad cell (length c.args.done.now) (length c.args.states.now)
    (length c.args.jobs.now) c.args.many) c.in-Some.is c.requires).0

pub returns-in-Some : goal.returns-in-Some
returns-in-Some g c =
    let can = subst (λ cell. CanLoad cell (length c.args.done.now) (length c.args.states.now) (length c.args.jobs.now)
    c.args.many) c.in-Some.is c.requires in
    subst (λ cell. HasLoaded cell c.args.column c.args.done.now c.args.states.now
    (set c.args.states.now c.in-Some.firing.actor c.load.new.state)
    c.args.jobs.now (set c.args.jobs.now c.args.many c.load.new.job) c.args.many (c.args.many + 1))
    (sym c.in-Some.is)
    (has_loaded c.args.states.now c.args.jobs.now c.in-Some.firing c.args.many c.args.column
    c.args.done.now c.index-states-actor.result c.load.new.state
    c.index-jobs-many.result c.load.new.job can.1 can.2 c.load.ensures)

pub returns-in-None : goal.returns-in-None
returns-in-None g c = subst (λ cell. HasLoaded cell c.args.column c.args.done.now c.args.states.now c.args.states.now
    c.args.jobs.now c.args.jobs.now c.args.many c.args.many) (sym c.in-None.is) (refl, refl, refl)
