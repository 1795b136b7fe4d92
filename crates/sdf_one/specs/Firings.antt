-- The runtimes of nodes, and what their firings add to the output lists.
use Rattle.std.specs.Prelude.{ℕ, ◌==◌, cond, List, []}
use Rattle.sdf_one.specs.declared.work.Work.{Work}
use Rattle.sdf_one.specs.declared.work.Work.TheVariants.{Source, Sink, Inner}

-- the phase of the next firing
abbrev pub phase_at : {A S T : Type 0} → Work A T S → ℕ
phase_at (Source ext next block) = 0
phase_at (Sink ext) = 0
phase_at (Inner actor phase state taken put) = phase

-- what is added to output list e if block b is taken
abbrev pub added : {A S T : Type 0} → Work A T S → List T → ℕ → List T
added (Sink ext) b e = cond (ext == e) b []
added w b e = []

-- an actor, which fires by copies if its firings cannot be batched
abbrev pub IsActor : {A S T : Type 0} → Work A T S → Type 0
IsActor (Source ext next block) = ⊥
IsActor (Sink ext) = ⊥
IsActor (Inner actor phase state taken put) = Unit {0}
