use Rattle.sdf_kit.proofs.fir.Fir.put_each.Goals as goal

pub put_plain-requires-clause-firings : goal.put_plain-requires-clause-firings
put_plain-requires-clause-firings c = record {
  up = c.self.invariant.filter.up;
  down = c.self.invariant.filter.down;
  shift = c.self.invariant.filter.shift;
}
