use Rattle.std.proofs.Common.{◌≡◌, subst, sym, arith}
use Rattle.std.specs.Prelude.{IfOk}
use Rattle.sdf_actor.specs.Wires.{lists as items_of}
use Rattle.sdf_process.proofs.InParts.{first_cut, within_piece}
use Rattle.sdf_process.proofs.Sizes.{frames_fit}
use Rattle.sdf_process.proofs.portion.PortionPartIoI32.read.Goals as goal

pub channel_lists-requires-clause-len : goal.channel_lists-requires-clause-len
channel_lists-requires-clause-len c =
    let p = c.args.self.now in
    let within = within_piece 0 p.periods p.io p.input.now c.args.to p.some c.requires.within in
    let fits = frames_fit 0 p.periods p.io.taken (omega arith) p.fits
    p.limits.few_taken in
    omega (arith, within, fits, c.requires.order)

pub returns : goal.returns
returns c =
    let p = c.args.self.now in
    let within = within_piece 0 p.periods p.io p.input.now c.args.to p.some c.requires.within in
    subst (λ z. IfOk c.channel_lists.result (λ v. items_of v.items ≡ z))
    (sym (first_cut p.periods p.io p.input.now c.args.from c.args.to c.requires.order within))
    c.channel_lists.ensures
