-- The batch that a parsed command line asks for.
use Rattle.std.specs.Prelude.{◌≡◌, ◌≤◌, ℕ, Bool, true, false, List, Option, Some, None, codes, map, is_some}
use Rattle.std.specs.Prelude.{IfSome}
use Rattle.std.specs.Str.Parse.{IsNumeral, digits_value, without_leading_plus}
use Rattle.clap.specs.Words.{first_value, matched_of, one_text}
use Rattle.clap.specs.declared.parser.matches.Found.{Found}
use Rattle.sdf_limits.specs.declared.TheConstants.{MAX_WORKERS}
use Rattle.sdf_options.specs.Words.{placement_word, policy_word, runner_word}
use Rattle.sdf_options.specs.declared.options.Options.{Options}
use Rattle.sdf_cli.specs.declared.requests.BatchRequest.{BatchRequest}
use Rattle.sdf_cli.specs.declared.requests.ParallelWorkers.{ParallelWorkers}
use Rattle.sdf_cli.specs.declared.requests.ParallelWorkers.TheVariants.{Processors, Workers}
use Rattle.sdf_cli.specs.declared.requests.Why.{Why}
use Rattle.sdf_cli.specs.declared.requests.Why.TheVariants.{AtTerminal, Always, Never}
use Rattle.sdf_cli.specs.declared.requests.Words.{Words}
use Rattle.sdf_cli.specs.declared.requests.Words.TheVariants.{Batch}

-- a flag without a value, by the text that a parse gives it
pub record IsFlag (found : Found) (id : List ℕ) (flag : Bool) : Type 0 where
  pub absent : one_text found id ≡ None → flag ≡ false
  pub set : one_text found id ≡ Some (codes "true") → flag ≡ true
  pub unset : one_text found id ≡ Some (codes "false") → flag ≡ false

-- the text of an argument is a numeral of this number
pub record IsNumberOf (found : Found) (id : List ℕ) (number : ℕ) : Type 0 where
  pub text : List ℕ
  pub given : one_text found id ≡ Some text
  pub numeral : IsNumeral 10 (without_leading_plus text)
  pub value : digits_value 10 (without_leading_plus text) ≡ number

-- the options of a plan are the numbers and the words of their arguments
pub record ArePlanOptionsOf (found : Found) (options : Options) : Type 0 where
  pub blocking : IsNumberOf found (codes "blocking") options.blocking
  pub workers : IsNumberOf found (codes "workers") options.workers
  pub policy : first_value found (codes "policy") ≡ Some (policy_word options.policy)
  pub placement : first_value found (codes "placement") ≡ Some (placement_word options.placement)

-- so are those of a run
pub record AreOptionsOf (found : Found) (options : Options) : Type 0 where
  pub plan : ArePlanOptionsOf found options
  pub runner : first_value found (codes "runner") ≡ Some (runner_word options.runner)
  pub patience : IsNumberOf found (codes "patience") options.patience

-- a parallel run has the number of workers that is given, and only without one within the limits one a processor
abbrev pub AreWorkersOf : Found → ParallelWorkers → Type 0
AreWorkersOf found (Workers workers) = IsNumberOf found (codes "parallel") workers
AreWorkersOf found Processors = (workers : ℕ) → 1 ≤ workers → workers ≤ MAX_WORKERS →
    IsNumberOf found (codes "parallel") workers → ⊥

-- a run is parallel if that argument is there
pub record IsParallelOf (found : Found) (parallel : Option ParallelWorkers) : Type 0 where
  pub given : is_some parallel ≡ is_some (matched_of found (codes "parallel"))
  pub workers : IfSome parallel (AreWorkersOf found)

-- when a diagnostic is printed, by two flags of which the first wins
pub record IsWhyOf (found : Found) (why : Why) : Type 0 where
  pub always : one_text found (codes "why") ≡ Some (codes "true") → why ≡ Always
  pub never : one_text found (codes "why") ≡ Some (codes "false") →
      one_text found (codes "no-why") ≡ Some (codes "true") → why ≡ Never
  pub terminal : one_text found (codes "why") ≡ Some (codes "false") →
      one_text found (codes "no-why") ≡ Some (codes "false") → why ≡ AtTerminal

-- a batch reads the files at these paths, and the other fields are those of its arguments
pub record IsBatchOf (found : Found) (paths : List (List ℕ)) (batch : BatchRequest) : Type 0 where
  pub inputs : map (λ input. input.now) batch.inputs.items ≡ paths
  pub folder : first_value found (codes "into") ≡ Some batch.folder.now
  pub options : AreOptionsOf found batch.options
  pub parallel : IsParallelOf found batch.parallel
  pub open_ended : IsFlag found (codes "open-ended") batch.open_ended

-- the words ask for a batch of the design at GRAPH
abbrev pub AskForBatch : Found → List (List ℕ) → Words → Type 0
AskForBatch found paths (Batch graph batch why) =
    (first_value found (codes "GRAPH") ≡ Some graph.now) × IsBatchOf found paths batch × IsWhyOf found why
AskForBatch found paths words = ⊥
