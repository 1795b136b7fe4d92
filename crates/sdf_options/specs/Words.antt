-- The words of policies, placements and runners on the command line.
use Rattle.std.specs.Prelude.{ℕ, List, codes}
use Rattle.sdf_options.specs.declared.options.Policy.{Policy}
use Rattle.sdf_options.specs.declared.options.Policy.TheVariants.{Round, Lean, Runs}
use Rattle.sdf_options.specs.declared.options.Placement.{Placement}
use Rattle.sdf_options.specs.declared.options.Placement.TheVariants.{Hu, Homed, File, Spread}
use Rattle.sdf_options.specs.declared.options.Runner.{Runner}
use Rattle.sdf_options.specs.declared.options.Runner.TheVariants.{One, Rows, Rings}

abbrev pub policy_word : Policy → List ℕ
policy_word Round = codes "round"
policy_word Lean = codes "lean"
policy_word Runs = codes "runs"

abbrev pub placement_word : Placement → List ℕ
placement_word Hu = codes "hu"
placement_word Homed = codes "homed"
placement_word File = codes "file"
placement_word Spread = codes "spread"

abbrev pub runner_word : Runner → List ℕ
runner_word One = codes "one"
runner_word Rows = codes "rows"
runner_word Rings = codes "rings"
