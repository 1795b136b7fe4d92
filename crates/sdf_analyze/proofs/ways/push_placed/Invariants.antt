use Rattle.std.proofs.Common.{◌≡◌, ◌++◌, [], ◌∷◌, take, map}
use Rattle.std.specs.Prelude.{nat_le}
use Rattle.std.specs.List.{filter}
use Rattle.sdf_analyze.specs.Ways.{way}
use Rattle.sdf_analyze.proofs.ways.push_placed.Given as goal

abbrev pub invariant-loop-workers : goal.invariant-loop-workers
invariant-loop-workers l = record {
  crews : l.workers-items ≡ 1 ∷ 2 ∷ 4 ∷ 8 ∷ 16 ∷ [];
  so_far : l.ways.items ≡ l.initial.ways.items ++ map (way l.options l.policy l.placement)
      (filter (λ workers. nat_le workers l.options.workers) (take l.workers-index l.workers-items));
}
