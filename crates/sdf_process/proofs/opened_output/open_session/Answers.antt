use Rattle.std.proofs.Common.{ap}
use Rattle.sdf_faults.specs.Faults.{of_run}
use Rattle.sdf_process.proofs.Fed.{opened_refused, stands_first}
use Rattle.sdf_process.proofs.Refusals.{fails_by}
use Rattle.sdf_process.proofs.opened_output.open_session.Goals as goal

pub returns-in_err-session-clause-stands : goal.returns-in_err-session-clause-stands
returns-in_err-session-clause-stands c =
    fails_by c.from_residual.result (of_run c.in_err-session.field-0.0) _ _ c.from_residual.ensures.1
    (opened_refused c.args.terms.table.now.table c.args.terms.mode c.requires.may
    c.in_err-session.field-0.0 c.in_err-session.ensures.tests)

pub returns-clause-stands : goal.returns-clause-stands
returns-clause-stands c = λ s.
    stands_first c.args.terms.net.now c.args.terms.table.now.period c.args.terms.table.now.blocking
    c.in_ok-session.session
    (ap (λ z. z.net) c.in_ok-session.ensures.value.1)
    (ap (λ z. z.period) c.in_ok-session.ensures.value.1)
    (ap (λ z. z.blocking) c.in_ok-session.ensures.value.1)
    c.in_ok-session.ensures.stands s

pub returns-clause-is : goal.returns-clause-is
returns-clause-is c = (
  ap (λ z. z.net) c.in_ok-session.ensures.value.1,
  ap (λ z. z.period) c.in_ok-session.ensures.value.1,
  ap (λ z. z.blocking) c.in_ok-session.ensures.value.1,
)

pub returns-clause-mode : goal.returns-clause-mode
returns-clause-mode c = ap (λ z. z.mode) c.in_ok-session.ensures.value.1
