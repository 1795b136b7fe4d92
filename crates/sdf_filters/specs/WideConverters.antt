-- The design that converts between two rates with wide taps.
use Rattle.std.specs.Prelude.{◌≡◌, ℕ, ◌+◌, ◌*◌, ◌/◌, ◌%◌, ◌≤◌, ◌<◌, ◌^◌, ◌⊎◌, ℤ, pos, List, [], ◌∷◌, ◌++◌, length}
use Rattle.std.specs.Prelude.{codes, string_bytes, slice_get, Some, Ok, Err}
use Rattle.sdf_limits.specs.declared.TheConstants.{MAX_TAPS}
use Rattle.sdf_filters.specs.declared.wide_converter.TheConstants.{WIDE_SHIFT}
use Rattle.sdf_filters.specs.declared.wide_converter.WideSpec.{WideSpec}
use Rattle.sdf_filters.specs.declared.fault.FilterFault.{FilterFault}
use Rattle.sdf_filters.specs.declared.fault.FilterFault.TheVariants.{TooManyActors, TooLate}
use Rattle.sdf_filters.specs.declared.stage.Stage.{Stage}
use Rattle.sdf_filters.specs.declared.stage.WideStage.{WideStage}
use Rattle.sdf_filters.specs.declared.stage.StageFile.{StageFile}
use Rattle.sdf_filters.specs.declared.ends.Part.{Part}
use Rattle.sdf_filters.specs.declared.ends.Part.TheVariants.{High, Low}
use Rattle.sdf_filters.specs.Lowpass.{IsTapFault, IsCountFault}
use Rattle.sdf_filters.specs.Stages.{IsSplit, IsSplitFault}
use Rattle.sdf_filters.specs.Coefficients.{coefficient_text}
use Rattle.sdf_filters.specs.Graphs.{part_name}
use Rattle.sdf_filters.specs.Wide.{AreWholeTaps, AreParts}
use Rattle.sdf_filters.specs.WideGraphs.{wide_graph_text}
use Rattle.sdf_filters.specs.Converters.{channels_test}

-- the coefficient file of a part of a stage
pub record IsPartFile (part : Part) (number : ℕ) (taps : List ℤ) (f : StageFile) : Type 0 where
  pub name : string_bytes f.name ≡ part_name part number ++ codes ".toml"
  pub text : string_bytes f.text ≡ coefficient_text taps

-- A stage and its two files. Its taps are odd in number and have zeros in front; each of their phases sums to 1, which
-- is 2^21 here. The files have the parts of these taps.
pub record IsWideStage (number : ℕ) (s : Stage) (w : WideStage) (high low : StageFile) : Type 0 where
  pub stage : w.stage ≡ s
  pub odd : w.taps % 2 ≡ 1
  pub few : w.zeros + w.taps ≤ MAX_TAPS
  pub taps : List ℤ
  pub whole : AreWholeTaps s.up (pos (2 ^ WIDE_SHIFT)) (w.zeros + w.taps) taps
  pub highs : List ℤ
  pub lows : List ℤ
  pub parts : AreParts s.up w.bits w.wait taps highs lows
  pub high_file : IsPartFile High number highs high
  pub low_file : IsPartFile Low number lows low

-- The first n stages, their files, and the delay of their output. It is a whole number of frames after each stage. A
-- filter is late by its zeros and by half the steps from its first tap to its last, at the rate of its input times
-- `up`.
pub data AreMade (stages : List Stage) : ℕ → List WideStage → List StageFile → ℕ → Type 0 where
  none : AreMade stages 0 [] [] 0
  more : (n : ℕ) (ws : List WideStage) (fs : List StageFile) (late : ℕ) → AreMade stages n ws fs late →
      (s : Stage) → slice_get stages n ≡ Some s → (w : WideStage) (high low : StageFile) →
      IsWideStage (n + 1) s w high low → (later : ℕ) → later * s.down ≡ late * s.up + w.taps / 2 + w.zeros →
      AreMade stages (n + 1) (ws ++ w ∷ []) ((fs ++ high ∷ []) ++ low ∷ []) later

-- The channels are 1 to 8, and their actors at most 64: 4 for each channel and 6 for each of its stages, less one. The
-- graph file and the coefficient files are made for stages whose product is the ratio of the rates. The output is late
-- by whole frames.
pub record IsWideConverter (wanted : WideSpec) (graph : List ℕ) (files : List StageFile) (late : ℕ) : Type 0 where
  pub allowed : channels_test wanted.channels ≡ Ok tt
  pub stages : List Stage
  pub split : IsSplit wanted.from wanted.to stages
  pub fits : wanted.channels ≤ 65 / (4 + 6 * length stages)
  pub wides : List WideStage
  pub made : AreMade stages (length stages) wides files late
  pub graph_is : graph ≡ wide_graph_text wanted.from wanted.to wanted.channels wides

-- why stages have no filters: too many taps or actors, too large taps, a too long delay, or no memory
abbrev pub IsWideStageFault : FilterFault → Type 0
IsWideStageFault (TooManyActors channels fit) = fit < channels
IsWideStageFault TooLate = Unit {0}
IsWideStageFault fault = IsCountFault fault ⊎ IsTapFault fault

-- why there is no design: the channels, then the ratio of the rates, or its stages
abbrev pub IsWideFault : WideSpec → FilterFault → Type 0
IsWideFault wanted fault =
    (channels_test wanted.channels ≡ Err fault)
    ⊎ ((channels_test wanted.channels ≡ Ok tt)
    × (IsSplitFault wanted.from wanted.to fault ⊎ IsWideStageFault fault))
