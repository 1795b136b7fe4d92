use Rattle.std.proofs.Common.{ℕ, ◌-◌, ◌++◌, ◌∙◌, ap}
use Rattle.std.specs.Prelude.{min}
use Rattle.sdf_actor.specs.Wires.{lists as items_of}
use Rattle.sdf_process.proofs.Refusals.{fails_by}
use Rattle.sdf_process.proofs.Steps.{answered}
use Rattle.sdf_process.proofs.flow.Flow.write_and_take.Goals as goal

pub write-requires : goal.write-requires
write-requires g c =
    let h = c.requires in
    (h.0, h.1, g.R.Reader.state c.args.reader.now, h.2, h.3)

pub returns-in_err-write : goal.returns-in_err-write
returns-in_err-write g c = record {
  turns = λ b p can ahead.
      fails_by c.from_residual.result c.in_err-write.field-0.0 _ _ c.from_residual.ensures.1
      (c.in_err-write.ensures b p (g.R.Reader.state c.args.reader.now) can
      ahead);
}

pub take-requires : goal.take-requires
take-requires g c =
    let h = c.requires in
    let w = c.in_ok-write.ensures h.0 h.1 (g.R.Reader.state c.args.reader.now) h.2 h.3 in
    (h.0, h.1, g.W.Writer.state c.write.new.writer, h.2, w.flows)

pub returns : goal.returns
returns g c = record {
  turns = λ b p can ahead.
      let w = c.in_ok-write.ensures b p (g.R.Reader.state c.args.reader.now) can ahead in
      answered c.take.result _ _ _
      (λ x t. record {
        more = t.more;
        flows = t.flows;
        kept = t.kept ∙ ap (λ (k : _). k.items ++ t.more) w.kept;
        none = ap (λ (k : _). items_of k.items) t.made ∙ w.none;
        left = t.left ∙ (ap (λ (k : ℕ). k - min c.write.new.self.most k) w.left
            ∙ ap (λ (k : ℕ). c.args.self.now.left - min k c.args.self.now.left) w.most);
        most = t.most ∙ w.most;
      })
      (c.take.ensures b p (g.W.Writer.state c.write.new.writer) can w.flows);
}
