use Rattle.std.proofs.Common.{◌≡◌, ◌*◌, ◌≤◌, ◌∙◌, ap, subst, rules}
use Rattle.std.specs.Io.KnownBytes.{Appends}
use Rattle.sdf_wav.specs.Canonical.{header}
use Rattle.sdf_wav.proofs.PiecesOut.{no_start_fault}
use Rattle.sdf_wav.proofs.content_out.ContentOut.start.Goals as goal

pub returns-in-Ok-clause-writes : goal.returns-in-Ok-clause-writes
returns-in-Ok-clause-writes g c =
    let fits : c.args.rate * (2 * c.args.channels) ≤ 4294967295 = search rules in
    let few : c.args.frames * c.args.channels ≤ 2147483629 = search rules in
    let count : c.saturating_mul-samples.result ≡ c.args.frames * c.args.channels = search rules in (
      no_start_fault c.args.rate c.args.channels c.args.frames (search rules) (search rules) (search rules) fits few,
      subst (Appends _ _) (c.header-header.ensures ∙ ap (λ n. header c.args.rate c.args.channels (2 * n)) count)
          c.in-Ok.ensures.ok,
    )
