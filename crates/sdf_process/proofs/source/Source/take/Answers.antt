use Rattle.std.proofs.Common.{◌≡◌, ◌+◌, ◌-◌, ◌*◌, ◌++◌, take, drop, refl, sym, ap, ◌∙◌, rules, arith}
use Rattle.std.proofs.Math.Facts.{Fits-of_lt}
use Rattle.sdf_process.proofs.Taken.{content_more, heard_enough, heard_more, heard_short}
use Rattle.sdf_process.proofs.source.Source.take.Goals as goal

pub overflow_mul-end : goal.overflow_mul-end
overflow_mul-end g c = Fits-of_lt (omega (
  arith,
  heard_enough c.args.self.now c.in-Decoded.sound c.in-Decoded.taken c.args.frames c.from.result c.in-Decoded.is
      (c.from.ensures ∙ c.channels.ensures.value) c.requires.enough,
  heard_short c.args.self.now c.in-Decoded.sound c.in-Decoded.taken c.in-Decoded.is c.requires.short,
))

pub overflow_add-end : goal.overflow_add-end
overflow_add-end g c = Fits-of_lt (omega (
  arith,
  heard_enough c.args.self.now c.in-Decoded.sound c.in-Decoded.taken c.args.frames c.from.result c.in-Decoded.is
      (c.from.ensures ∙ c.channels.ensures.value) c.requires.enough,
  heard_short c.args.self.now c.in-Decoded.sound c.in-Decoded.taken c.in-Decoded.is c.requires.short,
))

pub returns-in-Content : goal.returns-in-Content
returns-in-Content g c = λ first before r is takes same.
    content_more r first before c.args.frames c.args.kept.items (g.R.Reader.state c.args.reader.now)
    (g.R.Reader.state c.read_more.new.reader) c.in-Content.content c.read_more.new.content c.read_more.result
    c.read_more.ensures (sym c.in-Content.is ∙ is) takes same

pub returns-in_ok-extend_from_slice-in-Decoded : goal.returns-in_ok-extend_from_slice-in-Decoded
returns-in_ok-extend_from_slice-in-Decoded g c = λ first before r is takes same.
    let s = c.in-Decoded.sound in
    let taken = c.in-Decoded.taken in
    let count = c.from.ensures ∙ c.channels.ensures.value in
    let end = taken + c.args.frames * c.from.result in
    let there : end ≡ taken + c.args.frames * s.channels = ap (λ k. taken + c.args.frames * k) count in
    let added : c.extend_from_slice.new.self.items ≡
    c.args.kept.items ++ take (end - taken) (drop taken c.samples.result.now) = search rules in
    let many : end - taken ≡ c.args.frames * s.channels = omega (arith, there) in
    heard_more r first before c.args.frames c.args.kept.items (g.R.Reader.state c.args.reader.now) s taken end
    (take (c.args.frames * s.channels) (drop taken s.samples))
    c.extend_from_slice.new.self.items (sym c.in-Decoded.is ∙ is) takes same there
    (heard_enough c.args.self.now s taken c.args.frames c.from.result c.in-Decoded.is count c.requires.enough) refl
    (added ∙ (ap (λ l. c.args.kept.items ++ take (end - taken) (drop taken l)) c.samples.ensures.value
    ∙ ap (λ k. c.args.kept.items ++ take k (drop taken s.samples)) many))
