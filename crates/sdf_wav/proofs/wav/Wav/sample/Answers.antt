use Rattle.std.proofs.Common.{◌∙◌, ◌<◌, ◌+◌, ◌*◌, Some, length, ap, sym, rules}
use Rattle.std.proofs.lemmas.Int.{to_z-of_z}
use Rattle.std.proofs.lemmas.Option.{slice_get-get_or}
use mir.Val.{SFits}
use mir.Syntax.{w16}
use Rattle.sdf_wav.proofs.wav.Wav.sample.Goals as goal

pub returns : goal.returns
returns c =
    let samples = c.self.inside.samples.items in
    let place = c.args.frame * c.self.inside.channels + c.args.channel in
    let within : place < length samples = search rules in
    let fits : SFits w16 c.index.result.now = search rules in
    rw (← c.self.view_is)
    (slice_get-get_or samples place c.index.result.now within
    ∙ ap Some (sym c.index.ensures ∙ sym (to_z-of_z w16 c.index.result.now fits)))
