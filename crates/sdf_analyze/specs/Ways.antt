-- The schedules that are compared: by each policy and placement, for 1, 2, 4, .. workers.
use Rattle.std.specs.Prelude.{ℕ, List, [], ◌∷◌, ◌++◌, map, nat_le}
use Rattle.std.specs.List.{filter}
use Rattle.sdf_options.specs.declared.options.Options.{Options}
use Rattle.sdf_options.specs.declared.options.Policy.{Policy}
use Rattle.sdf_options.specs.declared.options.Policy.TheVariants.{Round, Lean, Runs}
use Rattle.sdf_options.specs.declared.options.Placement.{Placement}
use Rattle.sdf_options.specs.declared.options.Placement.TheVariants.{Hu, Homed, File, Spread}

-- the options with another policy, placement and number of workers
abbrev pub way : Options → Policy → Placement → ℕ → Options
way o policy placement workers = record o { policy = policy; placement = placement; workers = workers }

-- 1, 2, 4, .. up to most
abbrev pub crews : ℕ → List ℕ
crews most = filter (λ workers. nat_le workers most) (1 ∷ 2 ∷ 4 ∷ 8 ∷ 16 ∷ [])

abbrev pub ways_placed : Options → Policy → Placement → List Options
ways_placed o policy placement = map (way o policy placement) (crews o.workers)

abbrev pub ways_by : Options → Policy → List Options
ways_by o policy =
    ways_placed o policy Hu ++ ways_placed o policy Homed ++ ways_placed o policy File ++ ways_placed o policy Spread

-- all options in their order: by policy first, then by placement
abbrev pub ways : Options → List Options
ways o = ways_by o Round ++ ways_by o Lean ++ ways_by o Runs
