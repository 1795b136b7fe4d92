use Rattle.std.proofs.Common.{length, rules}
use Rattle.sdf_wav.specs.PiecesIn.{ContentInValue}
use Rattle.sdf_wav.proofs.PiecesIn.{next_is_reading}
use Rattle.sdf_wav.proofs.content_in.ContentIn.next.Goals as goal

pub invariant_of-self : goal.invariant_of-self
invariant_of-self g c =
    let f = c.self.inside in
    let r : ContentInValue = record {
      rate = f.format.rate;
      channels = f.format.channels;
      size = f.size;
      gone = f.gone;
      fault = f.fault;
    } in
    next_is_reading r c.args.self.now c.len.result (length c.in-Ok.samples.items) c.args.frames c.self.view_is
    (search rules) c.self.invariant c.in-Ok.ensures.piece c.in-Ok.ensures.within

pub returns-in-Ok-clause-sound : goal.returns-in-Ok-clause-sound
returns-in-Ok-clause-sound g c = invariant_of-self g c
