use Rattle.std.proofs.Common.{◌++◌, ◌∙◌, sym, ap, rules}
use Rattle.std.proofs.lemmas.Bool.{eqb-true}
use Rattle.sdf_process.proofs.Readings.{more_failed, more_read, none_kept}
use Rattle.sdf_wav.proofs.Theorems.{pieces_fall, pieces_go_on}
use Rattle.sdf_process.proofs.source.read_more.Goals as goal

pub returns-in_err-samples : goal.returns-in_err-samples
returns-in_err-samples g c = λ d before r here reads counted.
    more_failed d c.args.content.now before here c.args.frames r
    (g.R.Reader.state c.args.reader.now) (g.R.Reader.state c.next.new.reader) reads counted
    c.in_err-samples.field-0.0 c.from_residual.result _ pieces_fall
    (c.in_err-samples.ensures.bytes c.requires.unspoilt) (c.in_err-samples.ensures.counted c.requires.unspoilt)
    (c.in_err-samples.ensures.cut c.requires.unspoilt c.requires.sized) c.from_residual.ensures.1

pub returns-then-is_empty : goal.returns-then-is_empty
returns-then-is_empty g c = λ d before r here reads counted.
    let none = none_kept c.args.kept.items
    (sym c.args.kept.ok.0 ∙ eqb-true c.args.kept.len 0 (sym c.if-is_empty.ensures)) in
    more_read d c.args.content.now before here c.args.frames r
    (g.R.Reader.state c.args.reader.now) (g.R.Reader.state c.next.new.reader) reads counted
    pieces_go_on c.in_ok-samples.samples.items c.args.kept.items c.in_ok-samples.samples.items
    (c.in_ok-samples.ensures.bytes c.requires.unspoilt) (c.in_ok-samples.ensures.counted c.requires.unspoilt)
    c.in_ok-samples.ensures.piece c.requires.sized c.requires.enough c.next.new.self
    c.in_ok-samples.ensures.goes_on (ap (λ l. l ++ c.in_ok-samples.samples.items) (sym none))

pub returns : goal.returns
returns g c = λ d before r here reads counted.
    more_read d c.args.content.now before here c.args.frames r
    (g.R.Reader.state c.args.reader.now) (g.R.Reader.state c.next.new.reader) reads counted
    pieces_go_on c.in_ok-samples.samples.items c.args.kept.items c.extend_from_slice.new.self.items
    (c.in_ok-samples.ensures.bytes c.requires.unspoilt) (c.in_ok-samples.ensures.counted c.requires.unspoilt)
    c.in_ok-samples.ensures.piece c.requires.sized c.requires.enough c.next.new.self
    c.in_ok-samples.ensures.goes_on (search rules)
