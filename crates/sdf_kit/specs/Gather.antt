-- Several ways gathered into one, a run of samples from each in turn.
use Rattle.std.specs.Prelude.{◌+◌, ◌*◌, ◌/◌, ◌%◌, map}
use Rattle.std.specs.List.{range_with_len}
use Rattle.sdf_kit.specs.Samples.{sample}
use Rattle.sdf_kit.specs.Behaviour.{Behaviour}
use Rattle.sdf_kit.specs.Turns.{Turns}
use Rattle.sdf_kit.specs.declared.ports.PortRates.TheVariants.{Every, InTurn}

-- a firing at phase j puts all that it takes at port j; run n / run is run n / (ways * run) of port n / run % ways
abbrev pub gather : Turns → Behaviour
gather t = record {
  ports = record { cycle = t.ways; inputs = InTurn t.ways t.run; outputs = Every 1 t.run };
  kept = 0;
  next = λ kept taken. kept;
  puts = λ j kept taken. map (sample taken) (range_with_len 0 t.run);
  formula = λ x p n. sample (x (n / t.run % t.ways)) (n / (t.ways * t.run) * t.run + n % t.run);
}
