-- The pair's puts and takes, one by one.
use Rattle.std.proofs.Common.{◌≡◌, ℕ, zero, suc, ◌+◌, ◌*◌, ◌≤◌, ◌<◌, refl, arith}
use Rattle.sdf_actor.specs.Steps.{Steps}
use Rattle.sdf_actor.specs.Nets.{wiring}
use Rattle.sdf_rings.specs.Machine.{Machine, CanPut, CanTake, HasTaken, HasPut}
use Rattle.sdf_rings.specs.MachineLaws.{firings, capacity}
use Rattle.sdf_rings.specs.Pair.{pair, plan, PairFills, PairGoesOn}

module _ {A S T : Type 0} (s : Steps A S T) where
  can_put : (m : Machine T) → m.gave 0 < 6 → 2 * (m.gave 0 + 1) ≤ 6 + 3 * m.took 0 →
      CanPut (wiring s pair) (firings (plan s) 2) (capacity (plan s)) m 0
  can_put m left room = record {
    known = omega arith;
    left = left;
    taken = no_way_in;
    put = all_out;
    room = omega arith;
    own = λ apart c l e t. absurd (kept c l t e);
  }
    where
      no_way_in : HasTaken (wiring s pair) m 0 (m.gave 0 + 1)
      no_way_in zero l e = absurd (omega arith)
      no_way_in (suc c) l e = absurd (omega arith)

      all_out : HasPut (wiring s pair) m 0 (m.gave 0)
      all_out zero l e = omega arith
      all_out (suc c) l e = absurd (omega arith)

      kept : (c : ℕ) → c < 1 → (wiring s pair).rates.target c ≡ 0 → (wiring s pair).rates.source c ≡ 0 → ⊥
      kept zero l e t = omega arith
      kept (suc c) l e t = omega arith

  can_take : (m : Machine T) → m.took 0 < 4 → 3 * (m.took 0 + 1) ≤ 2 * m.gave 0 →
      CanTake (wiring s pair) (firings (plan s) 2) m 0
  can_take m left holds = record {
    known = omega arith;
    left = left;
    taken = all_in;
    put = no_way_out;
    holds = omega arith;
    own = λ e. absurd (omega arith);
  }
    where
      all_in : HasTaken (wiring s pair) m 1 (m.took 0)
      all_in zero l e = omega arith
      all_in (suc c) l e = absurd (omega arith)

      no_way_out : HasPut (wiring s pair) m 1 (m.took 0)
      no_way_out zero l e = absurd (omega arith)
      no_way_out (suc c) l e = absurd (omega arith)

  pub pair_fills : PairFills s
  pair_fills inputs = record {
    run = (
      can_put _ (omega arith) (omega arith),
      (
        can_put _ (omega arith) (omega arith),
        (can_put _ (omega arith) (omega arith), tt),
      ),
    );
    full = refl;
    no_more = λ h. omega (arith, h.room);
  }

  pub pair_goes_on : PairGoesOn s
  pair_goes_on inputs = record {
    run = (
      can_put _ (omega arith) (omega arith),
      (
        can_put _ (omega arith) (omega arith),
        (can_put _ (omega arith) (omega arith), (can_take _ (omega arith) (omega arith), tt)),
      ),
    );
    half = refl;
    more = can_put _ (omega arith) (omega arith);
  }
