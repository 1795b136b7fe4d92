use Rattle.std.proofs.Common.{◌+◌, ◌-◌, ◌*◌, ◌≤◌, length, take, drop}
use Rattle.sdf_kit.specs.Samples.{rescaled}
use Rattle.sdf_kit.specs.Dots.{dot}
use Rattle.sdf_kit.proofs.Written.{IsPut}
use Rattle.sdf_kit.proofs.polyphase.put_branch.Given as goal

abbrev pub invariant-fours : goal.invariant-fours
invariant-fours l = record {
  put : IsPut (λ i. rescaled (dot l.branch.taps.now (take (length l.branch.taps.now)
      (drop (l.first + i * l.firings.down) l.window.samples)))
      l.firings.shift) l.firings.up l.at l.initial.put l.put l.done;
  few : l.done ≤ l.firings.many;
}

abbrev pub decreases-fours : goal.decreases-fours
decreases-fours l = l.firings.many - l.done

abbrev pub invariant-ones : goal.invariant-ones
invariant-ones l = record {
  put : IsPut (λ i. rescaled (dot l.branch.taps.now (take (length l.branch.taps.now)
      (drop (l.first + i * l.firings.down) l.window.samples)))
      l.firings.shift) l.firings.up l.at l.fn.put l.put l.done;
  few : l.done ≤ l.firings.many;
}

abbrev pub decreases-ones : goal.decreases-ones
decreases-ones l = l.firings.many - l.done
