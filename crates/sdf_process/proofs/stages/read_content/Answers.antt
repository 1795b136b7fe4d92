use Rattle.std.proofs.Common.{◌≡◌, ◌*◌, ◌≤◌, length, refl, sym, ap, ◌∙◌, subst}
use Rattle.sdf_wav.specs.PiecesIn.{ContentInValue}
use Rattle.sdf_wav.specs.Sound.{Sound, sound_of}
use Rattle.sdf_process.proofs.Contents.{content_failed, content_read, few_read, sound_made}
use Rattle.sdf_process.proofs.stages.read_content.Given.{Over}
use Rattle.sdf_wav.proofs.Theorems.{few_end, pieces_fall, pieces_go_on}
use Rattle.sdf_process.proofs.stages.read_content.Goals as goal

pub returns-in_err-samples-clause-reads : goal.returns-in_err-samples-clause-reads
returns-in_err-samples-clause-reads g c =
    content_failed (g.R.Reader.state c.args.reader.now) (g.R.Reader.state c.next.new.reader)
    c.args.content 18446744073709551615 pieces_fall c.in_err-samples.field-0.0 c.from_residual.result
    (c.in_err-samples.ensures.bytes c.requires.unspoilt) (c.in_err-samples.ensures.counted c.requires.unspoilt)
    (c.in_err-samples.ensures.cut c.requires.unspoilt) c.from_residual.ensures.1

rate_same : (g : Over) (c : goal.In_ok-new g) → c.rate.result ≡ c.args.content.rate
rate_same g c = c.rate.ensures.value ∙ ap (λ (r : ContentInValue). r.rate) c.in_ok-samples.ensures.goes_on

channels_same : (g : Over) (c : goal.In_ok-new g) → c.channels.result ≡ c.args.content.channels
channels_same g c = c.channels.ensures.value ∙ ap (λ (r : ContentInValue). r.channels) c.in_ok-samples.ensures.goes_on

sound_read : (g : Over) (c : goal.In_ok-new g) → c.in_ok-new.field-0 ≡
    record { rate = c.args.content.rate; channels = c.args.content.channels; samples = c.in_ok-samples.samples.items }
sound_read g c =
    sound_made c.in_ok-new.field-0 c.new.result c.args.content.rate c.args.content.channels
    c.in_ok-samples.samples.items
    (c.new.ensures ∙ (ap (λ z. sound_of z c.channels.result c.in_ok-samples.samples.items) (rate_same g c)
    ∙ ap (λ z. sound_of c.args.content.rate z c.in_ok-samples.samples.items) (channels_same g c)))
    c.in_ok-new.was (subst (λ z. 1 ≤ z) (rate_same g c) c.rate.ensures.above_0)
    (subst (λ z. 1 ≤ z) (channels_same g c) c.channels.ensures.above_0)
    (subst (λ z. z ≤ 8) (channels_same g c) c.channels.ensures.few) c.in_ok-samples.ensures.piece.whole

pub returns-clause-reads : goal.returns-clause-reads
returns-clause-reads g c =
    content_read (g.R.Reader.state c.args.reader.now) (g.R.Reader.state c.next.new.reader)
    c.args.content 18446744073709551615 refl c.requires.unread pieces_go_on few_end
    c.in_ok-samples.samples
    (c.in_ok-samples.ensures.bytes c.requires.unspoilt) (c.in_ok-samples.ensures.counted c.requires.unspoilt)
    c.in_ok-samples.ensures.piece c.next.new.self
    c.in_ok-samples.ensures.goes_on c.in_ok-samples.ensures.sound c.in_ok-new.field-0 (sound_read g c)

pub returns-clause-few : goal.returns-clause-few
returns-clause-few g c =
    subst (λ (s : Sound). 2 * length s.samples ≤ 0xFFFFFFFF) (sym (sound_read g c))
    (few_read c.args.content (length c.in_ok-samples.samples.items) c.requires.unread c.next.new.self
    c.in_ok-samples.ensures.goes_on c.in_ok-samples.ensures.sound)
