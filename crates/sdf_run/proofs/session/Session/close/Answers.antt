use Rattle.std.proofs.Common.{ap, sym, ◌∙◌}
use Rattle.sdf_run.proofs.session.Session.close.Goals as goal

pub returns-in-Some : goal.returns-in-Some
returns-in-Some g c = (
  (c.in-Some.field-0, sym (ap (λ v. v.rest) c.self.view_is) ∙ c.in-Some.is),
  ap (λ v. v.blocks) c.self.view_is,
  ap (λ v. v.rounds) c.self.view_is,
)
