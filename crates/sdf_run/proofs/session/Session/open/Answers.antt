use Rattle.std.proofs.Common.{refl}
use Rattle.sdf_run.proofs.Feeding.{stands_first, session_first}
use Rattle.sdf_run.proofs.session.Session.open.Goals as goal

pub invariant_of-result : goal.invariant_of-result
invariant_of-result g c =
    session_first g.A.Actor.steps c.args.net.now c.args.table.now.period c.args.table.now.blocking
    c.args.table.now.table
    c.args.mode c.in_ok-initial_state.field-0 c.in_ok-initial_state.ensures c.requires.fits.period c.requires.fits.table
    c.in_ok-check_mode.ensures

pub returns-clause-value : goal.returns-clause-value
returns-clause-value g c = ((c.in_ok-initial_state.field-0, refl), refl)

pub returns-clause-stands : goal.returns-clause-stands
returns-clause-stands g c =
    stands_first g.A.Actor.steps c.args.net.now c.args.table.now.period c.args.table.now.blocking c.args.table.now.table
    c.args.mode c.in_ok-initial_state.field-0 c.in_ok-initial_state.ensures
