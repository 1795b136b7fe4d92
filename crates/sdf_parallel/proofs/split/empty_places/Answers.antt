use Rattle.std.proofs.Common.{Err, [], ◌∷◌, length, ap, refl, subst, sym, arith}
use Rattle.std.proofs.lemmas.List.{length-append}
use Rattle.sdf_queues.specs.declared.fault.RunFault.TheVariants.{OutOfMemory}
use Rattle.sdf_parallel.specs.Parts.{AreResults, IsResult}
use Rattle.sdf_parallel.proofs.Places.{put_behind}
use Rattle.sdf_parallel.proofs.split.empty_places.Goals as goal

pub loop-preserved : goal.loop-preserved
loop-preserved g c =
    let s = g.A.Actor.steps in
    let inputs = g.E.PartIo.inputs c.args.io.now in
    let makes = g.E.PartIo.makes c.args.io.now in
    record {
      made = subst (AreResults s inputs makes c.args.split c.args.queue.now.bounds.items c.args.rest.now)
          (sym c.in_ok-push.ensures.items)
          (put_behind (IsResult s inputs makes c.args.split c.args.queue.now.bounds.items c.args.rest.now)
          c.loop.places.items (Err OutOfMemory)
          c.loop.invariant.made refl);
      count = omega (
        arith,
        ap length c.in_ok-push.ensures.items,
        length-append c.loop.places.items (Err OutOfMemory ∷ []),
        c.loop.invariant.count,
      );
    }
