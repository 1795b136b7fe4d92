use Rattle.std.proofs.Common.{◌≡◌, ◌++◌, ◌∙◌, ap, refl, rules}
use Rattle.sdf_process.proofs.Flowing.{asks_enough, short_size, sized, taking_failed, took, unspoilt_here}
use Rattle.sdf_process.proofs.Refusals.{fails_by}
use Rattle.sdf_process.proofs.flow.Flow.take.Goals as goal

pub take-requires-clause-unspoilt : goal.take-requires-clause-unspoilt
take-requires-clause-unspoilt g c = let h = c.requires in unspoilt_here h.0 h.3 h.1 h.4

pub take-requires-clause-sized : goal.take-requires-clause-sized
take-requires-clause-sized g c = let h = c.requires in sized h.0 h.3 h.1 h.4

pub take-requires-clause-short : goal.take-requires-clause-short
take-requires-clause-short g c = let h = c.requires in short_size h.0 h.3 h.1 h.4

pub take-requires-clause-enough : goal.take-requires-clause-enough
take-requires-clause-enough g c =
    let h = c.requires in
    asks_enough h.0 h.3 h.1 h.4 c.min-many.result (search rules)

pub returns-in_err-self : goal.returns-in_err-self
returns-in_err-self g c = λ b p w can here.
    fails_by c.from_residual.result c.in_err-self.field-0.0 _ _ c.from_residual.ensures.1
    (taking_failed b can p here (g.R.Reader.state c.take.new.reader)
    c.in_err-self.field-0.0 c.in_err-self.field-0.0 refl
    (c.in_err-self.ensures b.source p.samples b.reader here.source_is here.takes here.reader))

pub returns : goal.returns
returns g c = λ b p w can here.
    let t = took b can p here c.min-many.result (search rules) (g.R.Reader.state c.take.new.reader) c.take.new.self
    c.replace-kept.result.items c.in_ok-self.field-0.items
    (c.in_ok-self.ensures b.source p.samples b.reader here.source_is here.takes here.reader) in
    let same : c.replace-kept.result ≡ c.args.self.now.kept = search rules in
    record {
      more = t.0;
      flows = t.2;
      kept = t.1 ∙ ap (λ (z : _). z.items ++ t.0) same;
      made = refl;
      left = search rules;
      most = refl;
    }
