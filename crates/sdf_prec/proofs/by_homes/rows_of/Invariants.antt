use Rattle.std.proofs.Common.{◌≡◌, ℕ, ◌<◌, length, get_or, take, replicate, None}
use Rattle.sdf_graph.specs.Sequences.{times}
use Rattle.sdf_prec.specs.ByHomes.{AreByHomes}
use Rattle.sdf_prec.proofs.by_homes.rows_of.Given as goal

abbrev pub invariant-loop-actor : goal.invariant-loop-actor
invariant-loop-actor l = record {
  each : length l.done.items ≡ l.fn.actors;
  done : (a : ℕ) → a < l.fn.actors → get_or l.done.items a 0 ≡ times (take l.actor-index l.order) a;
  rows : AreByHomes l.homes l.m (take l.actor-index l.order) l.rows.rows;
  wide : l.rows.width ≡ l.m;
  empty : l.row.items ≡ replicate l.m None;
}
