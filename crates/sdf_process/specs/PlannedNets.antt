-- What is run, and on what.
use Rattle.std.specs.Prelude.{◌≡◌, ℕ, ℤ, ◌*◌, ◌≤◌, List, Option, None, Some, IfSome, false}
use Rattle.sdf_graph.specs.Rates.{rates}
use Rattle.sdf_actor.specs.Graphs.{graph_of}
use Rattle.sdf_actor.specs.Sides.{list_count}
use Rattle.sdf_actor.specs.declared.sides.Lists.TheVariants.{Inputs, Outputs}
use Rattle.sdf_actor.specs.Nets.{Netlist}
use Rattle.sdf_warm_up.specs.WarmUps.{WarmsIn}
use Rattle.sdf_kit.specs.Kit.{kit_steps}
use Rattle.sdf_kit.specs.declared.kit.Kit.{Kit}
use Rattle.sdf_prec.specs.BlockTables.{IsBlockTableOf}
use Rattle.sdf_run.specs.Sessions.{MayRun}
use Rattle.sdf_run.specs.declared.session.SessionTerms.{SessionTerms}
use Rattle.sdf_sched.specs.Period.{IsPeriodOf}
use Rattle.sdf_wav.specs.PiecesIn.{ContentInValue, known_frames, IsReading}
use Rattle.sdf_wav.specs.declared.wav.TheConstants.{MAX_CHANNELS}
use Rattle.sdf_process.specs.declared.part_sizes.Partition.{Partition}
use Rattle.sdf_process.specs.declared.player.Manner.{Manner}
use Rattle.sdf_process.specs.declared.player.Manner.TheVariants as manner
use Rattle.sdf_process.specs.declared.player.Player.{Player}
use Rattle.sdf_process.specs.declared.player.PlayerPlan.{PlayerPlan}
use Rattle.sdf_process.specs.declared.opened_output.OpenedOutput.{OpenedOutput}
use Rattle.sdf_process.specs.declared.io_rates.OutputSize.{OutputSize}
use Rattle.sdf_process.specs.declared.planned_net.PlannedNet.{PlannedNet}
use Rattle.sdf_process.specs.Output.{io_rates_of, IsOutputSize}
use Rattle.sdf_process.specs.Sources.{reading_of}
use Rattle.sdf_plan.specs.Plans.{Suits}

-- the plan suits the net, and a WAV file can have the channels of the net
pub record IsPlannedNet (t : PlannedNet) : Type 0 where
  pub suits : Suits t.net.now t.plan.now
  pub inputs : list_count Inputs t.net.now.nodes ≤ MAX_CHANNELS
  pub outputs : list_count Outputs t.net.now.nodes ≤ MAX_CHANNELS

-- the table is of blocks of the net and can be run in this mode, and a WAV file can have the channels of the net
pub record AreSessionTerms (t : SessionTerms Kit ℤ (List ℤ)) : Type 0 where
  pub table : IsBlockTableOf (rates (graph_of kit_steps t.net.now)) t.table.now
  pub may : MayRun t.table.now.table t.mode
  pub inputs : list_count Inputs t.net.now.nodes ≤ MAX_CHANNELS
  pub outputs : list_count Outputs t.net.now.nodes ≤ MAX_CHANNELS

-- the period is a period of the net
abbrev pub IsPlayerPlan : PlayerPlan → Type 0
IsPlayerPlan t = IsPeriodOf (rates (graph_of kit_steps t.net.now)) t.period.now

-- the net is warm after the periods of warm-up of the partition, if there is one
abbrev pub IsPartition : Netlist Kit ℤ → List ℕ → Option Partition → Type 0
IsPartition n q cut = IfSome cut (λ (c : Partition). WarmsIn kit_steps n q c.warm)

-- the partition of a player's sound, unless one thread plays it
abbrev pub partition_by : Manner → Option Partition
partition_by (manner.Whole memory) = None
partition_by (manner.Parts cut workers) = Some cut

-- a player of a net by one of its periods
pub record IsPlayer (v : Player) : Type 0 where
  pub period : IsPeriodOf (rates (graph_of kit_steps v.net.now)) v.period.now
  pub cut : IsPartition v.net.now v.period.now.repetitions (partition_by v.manner)

-- nothing was read yet of a content of this many frames
pub record IsUnreadContent (c : ContentInValue) (frames : ℕ) : Type 0 where
  pub sound : IsReading c
  pub unread : c.gone ≡ 0
  pub unspoilt : c.fault ≡ None
  pub known : known_frames c ≡ Some frames

-- Nothing was taken from the source of a run of net n, and only the header of its output is written.
pub record IsOpenedOutput (n : Netlist Kit ℤ) (q : List ℕ) (b : OpenedOutput) : Type 0 where
  pub unread_content : IsUnreadContent (reading_of b.source) b.frames
  pub output_size : OutputSize
  pub output_size_is : IsOutputSize (io_rates_of n q) (record {
    rate = (reading_of b.source).rate;
    channels = (reading_of b.source).channels;
    frames = b.frames;
  }) output_size
  pub owed : b.output ≡ record {
    channels = (io_rates_of n q).outputs;
    missing = output_size.periods * (io_rates_of n q).made;
    spent = false;
  }
