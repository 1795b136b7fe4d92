use Rattle.std.proofs.Common.{◌≡◌, None, subst, rules}
use Rattle.std.specs.Io.KnownBytes.{Appends}
use Rattle.sdf_wav.specs.PiecesOut.{start_fault, file_header, Puts}
use Rattle.sdf_wav.specs.Canonical.{sample_bytes}
use Rattle.sdf_wav.proofs.Canonical.{is_canonical}
use Rattle.sdf_wav.proofs.PiecesOut.{start_by_size, samples_put}
use Rattle.sdf_wav.proofs.writing.write_wav.Goals as goal

pub returns-in_err-content-clause-canonical : goal.returns-in_err-content-clause-canonical
returns-in_err-content-clause-canonical g c = is_canonical c.args.wav.now (search rules) (search rules) (search rules)
    (search rules) (search rules)

pub returns-clause-canonical : goal.returns-clause-canonical
returns-clause-canonical g c = is_canonical c.args.wav.now (search rules) (search rules) (search rules)
    (search rules) (search rules)

pub returns-clause-writes : goal.returns-clause-writes
returns-clause-writes g c =
    let s = c.args.wav.now in
    let none : start_fault s.rate s.channels c.frames.result ≡ None = search rules in
    let front : Appends (g.W.Writer.state c.args.writer.now).contents (g.W.Writer.state c.start.new.writer).contents
    (file_header s.rate s.channels c.frames.result) = search rules in
    samples_put _ _ _ s c.frames.result c.put_content.result
    (start_by_size s.rate s.channels c.frames.result _ (search rules) (search rules) (search rules) (search rules)
    none) (search rules) front
    (subst (λ zs. Puts (g.W.Writer.state c.start.new.writer).contents
    (g.W.Writer.state c.put_content.new.writer).contents
    (sample_bytes zs) c.put_content.result) c.samples-samples.ensures.value c.put_content.ensures.writes)
