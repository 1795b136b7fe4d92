-- The numbers of the schedules that are compared are within their limits.
use Rattle.std.proofs.Common.{ℕ, [], ◌∷◌, arith}
use Rattle.std.specs.Prelude.{nat_le}
use Rattle.std.specs.List.{All}
use Rattle.std.proofs.lemmas.List.Elements.{All-nil, All-cons, All-append, All-map, All-weaker, All-filter}
use Rattle.sdf_options.specs.declared.options.Options.{Options}
use Rattle.sdf_options.specs.declared.options.Policy.{Policy}
use Rattle.sdf_options.specs.declared.options.Policy.TheVariants.{Round, Lean, Runs}
use Rattle.sdf_options.specs.declared.options.Placement.{Placement}
use Rattle.sdf_options.specs.declared.options.Placement.TheVariants.{Hu, Homed, File, Spread}
use Rattle.sdf_plan.specs.Plans.{IsWorkers, AreSizes}
use Rattle.sdf_analyze.specs.Ways.{way, crews, ways_placed, ways_by, ways}

few_workers : (most : ℕ) → All IsWorkers (crews most)
few_workers most =
    All-filter (λ workers. nat_le workers most) IsWorkers (1 ∷ 2 ∷ 4 ∷ 8 ∷ 16 ∷ [])
    (All-cons IsWorkers 1 (2 ∷ 4 ∷ 8 ∷ 16 ∷ []) (omega arith, omega arith)
    (All-cons IsWorkers 2 (4 ∷ 8 ∷ 16 ∷ []) (omega arith, omega arith)
    (All-cons IsWorkers 4 (8 ∷ 16 ∷ []) (omega arith, omega arith)
    (All-cons IsWorkers 8 (16 ∷ []) (omega arith, omega arith)
    (All-cons IsWorkers 16 [] (omega arith, omega arith) (All-nil IsWorkers))))))

sizes_placed : (o : Options) (policy : Policy) (placement : Placement) → AreSizes o →
    All AreSizes (ways_placed o policy placement)
sizes_placed o policy placement sizes =
    All-map AreSizes (way o policy placement) (crews o.workers)
    (All-weaker IsWorkers (λ workers. AreSizes (way o policy placement workers)) (λ workers few. (sizes.0, few))
    (crews o.workers) (few_workers o.workers))

sizes_by : (o : Options) (policy : Policy) → AreSizes o → All AreSizes (ways_by o policy)
sizes_by o policy sizes =
    All-append AreSizes _ (ways_placed o policy Spread)
    (All-append AreSizes _ (ways_placed o policy File)
    (All-append AreSizes (ways_placed o policy Hu) (ways_placed o policy Homed)
    (sizes_placed o policy Hu sizes) (sizes_placed o policy Homed sizes)) (sizes_placed o policy File sizes))
    (sizes_placed o policy Spread sizes)

pub sizes_of_ways : (o : Options) → AreSizes o → All AreSizes (ways o)
sizes_of_ways o sizes =
    All-append AreSizes _ (ways_by o Runs)
    (All-append AreSizes (ways_by o Round) (ways_by o Lean) (sizes_by o Round sizes) (sizes_by o Lean sizes))
    (sizes_by o Runs sizes)
