use Rattle.std.proofs.Common.{◌≡◌, length}
use Rattle.sdf_times.proofs.search.sweep.Sweep.certificate.Given as goal

abbrev pub invariant-loop : goal.invariant-loop
invariant-loop l = (l.self ≡ l.initial.self) × (length l.marks.items ≡ l.self.events.total)
