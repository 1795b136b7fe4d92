use Rattle.std.proofs.Common.{◌∙◌, ℕ, get_or, subst, sym, arith, get_or-set_other}
use Rattle.std.proofs.lemmas.List.{length-set}
use Rattle.sdf_parallel.specs.declared.part_workers.Worker.{Worker}
use Rattle.sdf_parallel.specs.Parts.{AreFinished}
use Rattle.sdf_parallel.proofs.split.place_all.Goals as goal

pub loop-i-preserved : goal.loop-i-preserved
loop-i-preserved g c =
    let i : ℕ = c.loop-i.i in
    let was = c.loop-i.workers in
    let new : Worker _ _ _ = record {
      memory = (get_or was i c.index-workers-i.result).memory;
      done = c.place.new.done;
    } in
    record {
      left = λ k d low l. subst (λ u. AreFinished g.A.Actor.steps (g.E.PartIo.inputs c.args.io.now)
          (g.E.PartIo.makes c.args.io.now) c.args.split c.args.queue.now.bounds.items c.args.rest.now u.done.items)
          (sym (get_or-set_other was i k new d (λ same. omega (arith, same))))
          (c.loop-i.invariant.left k d (omega arith) (omega (arith, l, length-set was i new)));
      made = c.place.ensures.made;
      all = c.place.ensures.count ∙ c.loop-i.invariant.all;
    }
