use Rattle.sdf_times.proofs.CertificateLaws.{certificates_hold}
use Rattle.sdf_times.proofs.search.period.Goals as goal

pub returns-then-is_certificate-clause-period : goal.returns-then-is_certificate-clause-period
returns-then-is_certificate-clause-period c =
    certificates_hold c.args.graph.now c.args.reps.now c.args.blocking c.requires.run.0 c.args.table.now
    c.args.costs.now
    c.in-Some.certificate c.channels.ensures.shape c.requires.run.1
    (c.is_certificate.ensures.0 c.if-is_certificate.true)
