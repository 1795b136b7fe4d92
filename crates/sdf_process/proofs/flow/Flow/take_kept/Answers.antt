use Rattle.std.proofs.Common.{◌≡◌, ◌%◌, length, refl, sym, ap, subst, ◌∙◌}
use Rattle.std.specs.Prelude.{IsOk}
use Rattle.sdf_process.proofs.Contents.{sound_made}
use Rattle.sdf_process.proofs.Sounds.{sound_is}
use Rattle.sdf_process.proofs.flow.Flow.take_kept.Goals as goal

pub unwrap-requires : goal.unwrap-requires
unwrap-requires c =
    let same = ap (λ (z : _). z.items) c.replace-kept.ensures.value in
    subst IsOk (sym (c.new-2.ensures ∙ sound_is c.args.rate c.args.channels c.replace-kept.result.items
    c.requires.rate c.requires.one c.requires.few
    (subst (λ l. length l % c.args.channels ≡ 0) (sym same) c.requires.whole))) refl

pub returns-clause-sound : goal.returns-clause-sound
returns-clause-sound c =
    let same = ap (λ (z : _). z.items) c.replace-kept.ensures.value in
    sound_made c.unwrap.result c.new-2.result c.args.rate c.args.channels c.replace-kept.result.items
    c.new-2.ensures c.unwrap.ensures c.requires.rate c.requires.one c.requires.few
    (subst (λ l. length l % c.args.channels ≡ 0) (sym same) c.requires.whole)
    ∙ ap (λ l. record { rate = c.args.rate; channels = c.args.channels; samples = l }) same
