use Rattle.sdf_times.proofs.CertificateLaws.{certificates_hold}
use Rattle.sdf_times.proofs.laws.certificates_hold.Goals as goal

pub returns : goal.returns
returns c = certificates_hold
