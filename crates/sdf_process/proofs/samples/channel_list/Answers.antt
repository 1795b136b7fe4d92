use Rattle.std.proofs.Common.{◌≡◌, ℕ, ◌+◌, ◌*◌, ◌∙◌, List, ℤ, ap, arith, drop, get_or, length, pos, rules, sym}
use Rattle.std.proofs.lemmas.List.{take_at}
use Rattle.sdf_process.proofs.Channels.{channel_copied}
use Rattle.sdf_process.proofs.samples.channel_list.Goals as goal

pub returns : goal.returns
returns c =
    let sound = c.args.input.now in
    let list = c.fill_channel.new.list in
    let apart = c.from-channels.result in
    let count : length list ≡ c.args.len = search rules in
    let same : apart ≡ sound.channels = c.from-channels.ensures ∙ c.channels.ensures.value in
    take_at list (drop (length list) c.resize.new.self.items) c.resize.new.self.len
    (count ∙ sym c.in_ok-resize.ensures.len)
    ∙ channel_copied sound c.args.from c.args.len c.args.channel list count
    (λ i lt. c.fill_channel.ensures.copied i (omega (arith, lt, count, c.fill_channel.ensures.count))
    ∙ ap (λ (l : List ℤ). get_or l (c.args.from * apart + c.args.channel + i * apart) (pos 0)) c.samples.ensures.value
    ∙ ap (λ (n : ℕ). get_or sound.samples (c.args.from * n + c.args.channel + i * n) (pos 0)) same)
