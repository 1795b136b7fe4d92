use Rattle.std.proofs.Common.{subst, sym}
use Rattle.std.specs.Prelude.{IfSome}
use Rattle.std.proofs.lemmas.List.Elements.{All-pop}
use Rattle.sdf_parallel.specs.Parts.{AreResults, IsFinishedPart, IsResult}
use Rattle.sdf_parallel.proofs.Places.{placed}
use Rattle.sdf_parallel.proofs.split.place.Goals as goal
use Rattle.sdf_parallel.proofs.split.place.Goals.{in-Some+in-Ok-1, in-Some+in-Err-1, in_default}

pub loop-preserved : goal.loop-preserved
loop-preserved g c =
    let s = g.A.Actor.steps in
    let w = c.args.split in
    let inputs = g.E.PartIo.inputs c.args.io.now in
    let makes = g.E.PartIo.makes c.args.io.now in
    let bounds = c.args.queue.now.bounds.items in
    let rest = c.args.rest.now in
    let popped = All-pop (IsFinishedPart s inputs makes w bounds rest) c.loop.done.items
    c.pop.new.self.items c.pop.result
    c.pop.ensures.items c.loop.invariant.done in
    record {
      done = popped.0;
      made = elim c.match-pop.branch [
        | in-Some+in-Ok-1 b ↦ subst (AreResults s inputs makes w bounds rest) (sym b.places-is)
            (placed (IsResult s inputs makes w bounds rest) c.loop.places b.in-Some.field-0.number
            b.in-Some.field-0.made
            c.loop.invariant.made (subst (λ r. IfSome r (IsFinishedPart s inputs makes w bounds rest))
            b.in-Some.is popped.1).1)
        | in-Some+in-Err-1 b ↦ subst (AreResults s inputs makes w bounds rest) (sym b.places-is)
            (placed (IsResult s inputs makes w bounds rest) c.loop.places b.in-Some.field-0.number
            b.in-Some.field-0.made
            c.loop.invariant.made (subst (λ r. IfSome r (IsFinishedPart s inputs makes w bounds rest))
            b.in-Some.is popped.1).1)
        | in_default b ↦ subst (AreResults s inputs makes w bounds rest) (sym b.places-is) c.loop.invariant.made
      ];
    }
