-- One way dealt out to several, a run of samples to each in turn.
use Rattle.std.specs.Prelude.{◌+◌, ◌*◌, ◌/◌, ◌%◌, ◌==◌, cond, []}
use Rattle.std.specs.List.{flat_map, range_with_len}
use Rattle.sdf_kit.specs.Samples.{sample}
use Rattle.sdf_kit.specs.Behaviour.{Behaviour}
use Rattle.sdf_kit.specs.Turns.{Turns}
use Rattle.sdf_kit.specs.declared.ports.PortRates.TheVariants.{Every, InTurn}

-- a firing at phase j puts all that it takes at port j; run n / run of a port is run n / run * ways + p of x
abbrev pub deal : Turns → Behaviour
deal t = record {
  ports = record { cycle = t.ways; inputs = Every 1 t.run; outputs = InTurn t.ways t.run };
  kept = 0;
  next = λ kept taken. kept;
  puts = λ j kept taken. flat_map (λ p. cond (p == j) taken []) (range_with_len 0 t.ways);
  formula = λ x p n. sample (x 0) ((n / t.run * t.ways + p) * t.run + n % t.run);
}
