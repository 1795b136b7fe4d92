use Rattle.std.proofs.Common.{◌≡◌, ◌∙◌, ◌++◌, ◌-◌, ◌/◌, ◌+◌, length, replicate, pos, ap, rules, arith}
use Rattle.std.proofs.lemmas.List.{take_all}
use Rattle.std.specs.Vec.{vec_len}
use Rattle.sdf_wav.proofs.Samples.{tail_written, samples_read}
use Rattle.sdf_wav.proofs.content.push_samples.Goals as goal

pub returns-clause-ok : goal.returns-clause-ok
returns-clause-ok c =
    let old = c.args.samples.now.items in
    let bytes = c.args.bytes.now in
    let new = c.read_i16_into.new.dst in
    let count = length bytes / 2 in
    let zeros = replicate (c.len-start.result + count - vec_len c.args.samples.now) (pos 0) in
    let at_end : c.len-start.result ≡ length old = search rules in
    let new_count : length new ≡ count = search rules in
    let filled : c.deref_mut.result.now ≡ old ++ zeros =
    c.deref_mut.ensures.value ∙ c.in_ok-resize.ensures.items
    ∙ ap (λ l. l ++ zeros) (take_all (c.len-start.result + count) old (omega (arith, at_end))) in
    tail_written old zeros new c.deref_mut.result.now c.len-start.result c.resize.new.self.len _ _ filled
    at_end (search rules)
    ∙ ap (λ l. old ++ l) (samples_read bytes new new_count c.read_i16_into.ensures)
