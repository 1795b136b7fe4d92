use Rattle.std.proofs.Common.{ℕ, ◌<◌, slice_index, subst, sym}
use Rattle.sdf_graph.specs.Rates.{rates}
use Rattle.sdf_prec.specs.Blocks.{block}
use Rattle.sdf_prec.specs.ByHomes.{HasHome, AreRunsByHomes}
use Rattle.sdf_prec.specs.Long.{IsLongSize}
use Rattle.sdf_prec.proofs.table.Table.spread.Goals as goal

pub in_runs-requires-clause-some : goal.in_runs-requires-clause-some
in_runs-requires-clause-some c = c.in_default.ensures.some

pub in_runs-requires-clause-short : goal.in_runs-requires-clause-short
in_runs-requires-clause-short c =
    let size : IsLongSize c.args.blocking c.args.m c.args.period.now.repetitions =
    subst (IsLongSize c.args.blocking c.args.m) c.repetitions.ensures c.in_default.ensures in
    size.short

pub in_runs-requires-clause-homed : goal.in_runs-requires-clause-homed
in_runs-requires-clause-homed c = subst (λ homes. (a : ℕ) → a < c.args.graph.now.actors → HasHome homes c.args.m a)
    (sym c.deref.ensures.value) c.in_ok-homes.ensures.homed

pub returns : goal.returns
returns c = record {
  size = subst (IsLongSize c.args.blocking c.args.m) c.repetitions.ensures c.in_default.ensures;
  table = c.in_ok-table.ensures.table;
  homed = c.in_ok-table.ensures.homed;
  homes = c.in_ok-homes.homes.items;
  spread = c.in_ok-homes.ensures.spread;
  in_runs = subst (λ homes. AreRunsByHomes (rates c.args.graph.now)
      (slice_index (block c.args.blocking c.args.period.now.repetitions)) homes c.args.m c.in_ok-table.table.rows)
      c.deref.ensures.value c.in_ok-table.ensures.runs;
}
