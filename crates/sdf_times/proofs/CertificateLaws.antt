-- What a certificate says is the period.
use Rattle.sdf_prec.specs.Blocks.{block}
use Rattle.sdf_times.specs.Checks.{plan_of, schedule_of}
use Rattle.sdf_times.specs.Certificates.{CertificatesHold}
use Rattle.sdf_times.proofs.Settings.{is_plan}
use Rattle.sdf_times.proofs.Attaining.{attains}
use Rattle.sdf_times.proofs.Certified.{periods_are_certified}

pub certificates_hold : CertificatesHold
certificates_hold g reps j width t costs c shape run is end ends =
    let ok = is_plan g shape reps j width t costs run in
    periods_are_certified (plan_of g (block j reps) t costs) end c.time c.blocks (schedule_of c.time c.starts) ok ends
    is.some is.periodic (attains (plan_of g (block j reps) t costs) ok c.steps c.time c.blocks is.round)
