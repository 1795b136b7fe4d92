use Rattle.std.proofs.Common.{rules}
use Rattle.sdf_wav.specs.PiecesIn.{ContentInValue}
use Rattle.sdf_wav.proofs.PiecesIn.{next_by_sized, next_by_open}
use Rattle.sdf_wav.proofs.content_in.ContentIn.read.Goals as goal

pub returns-then-self-clause-bytes : goal.returns-then-self-clause-bytes
returns-then-self-clause-bytes g c =
    let f = c.self.inside in
    let r : ContentInValue = record {
      rate = f.format.rate;
      channels = f.format.channels;
      size = f.size;
      gone = f.gone;
      fault = f.fault;
    } in
    rw (← c.self.view_is) (next_by_open (λ v. v.items) _ _ r c.args.frames c.min-asked.result c.read_unsized.result
    (search rules) (search rules) c.read_unsized.ensures.bytes)

pub returns-clause-bytes : goal.returns-clause-bytes
returns-clause-bytes g c =
    let f = c.self.inside in
    let r : ContentInValue = record {
      rate = f.format.rate;
      channels = f.format.channels;
      size = f.size;
      gone = f.gone;
      fault = f.fault;
    } in
    rw (← c.self.view_is) (next_by_sized (λ v. v.items) _ _ r c.args.frames c.min-asked.result c.min.result
    c.read_sized.result (search rules) (search rules) (search rules) (search rules) c.read_sized.ensures.bytes)
