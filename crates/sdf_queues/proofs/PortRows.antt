-- The sizes at a node's ports, phase by phase.
use Rattle.std.proofs.Common.{◌≡◌, ℕ, ◌+◌, ◌<◌, List, length, map, get_or, ap, ◌∙◌, subst, arith}
use Rattle.std.proofs.Math.Nat.{mod-eq_of_lt}
use Rattle.std.proofs.lemmas.List.{get_or-map, length-map}
use Rattle.std.proofs.lemmas.List.FromFn.{get_or-map-range_with_len, length-map-range_with_len}
use Rattle.std.proofs.lemmas.Nat.{mod_below}
use Rattle.sdf_actor.specs.declared.sides.Side.{Side}
use Rattle.sdf_actor.specs.declared.sides.Side.TheVariants.{Input, Output}
use Rattle.sdf_actor.specs.Steps.{Steps}
use Rattle.sdf_actor.specs.Nets.{Netlist, node, to_port, from_port, cycle_of, consumed_at, produced_at, IsNet}
use Rattle.sdf_actor.specs.Sides.{ports_of, channel_at, channels_at}
use Rattle.sdf_actor.proofs.Theorems.{nets_are_wired, ports_have_channels}
use Rattle.sdf_queues.specs.Sizes.{SizesValue, AreSizes, AreRows, IsPlan, at_phase, phase_of, rows_on, sizes}
use Rattle.sdf_queues.proofs.Routes.{at_end}

module _ {A S T : Type 0} {s : Steps A S T} {n : Netlist A T} {z : SizesValue} (good : IsNet s n) (are : AreSizes s n z)
    (a : ℕ) (known : a < length n.nodes) where
  -- the firings of the first cycle are at the phases of their numbers
  turn : (j : ℕ) → j < cycle_of s (node n a) → phase_of s (node n a) j ≡ j
  turn j h = mod-eq_of_lt h

  pub phase_known : (side : Side) (j : ℕ) → j < cycle_of s (node n a) → j < length (rows_on side z)
  phase_known Input j h = omega (arith, turn j h, are.takes_known a j known)
  phase_known Output j h = omega (arith, turn j h, are.puts_known a j known)

  plan : (j : ℕ) → j < cycle_of s (node n a) → IsPlan s n a j (at_phase z.takes j) (at_phase z.puts j)
  plan j h = subst (λ i. IsPlan s n a j (at_phase z.takes i) (at_phase z.puts i)) (turn j h) (are.plan a j known)

  -- each channel at a port has a size
  pub sized : (side : Side) (j p : ℕ) → j < cycle_of s (node n a) → p < length (channels_at s n side a) →
      get_or (channels_at s n side a) p 0 < length (at_phase (rows_on side z) j)
  sized Input j p h l = omega (arith, (plan j h).takes_all, ((nets_are_wired s n good).ins_are a p known l).0)
  sized Output j p h l = omega (arith, (plan j h).puts_all, ((nets_are_wired s n good).outs_are a p known l).0)

  -- which is what the port's firings move
  moves : (side : Side) (k p : ℕ) → p < ports_of s side (node n a) →
      get_or (at_phase (rows_on side z) (phase_of s (node n a) k)) (channel_at n side a p) 0 ≡
      sizes s side (node n a) k p
  moves Input k p h =
      let is = (ports_have_channels s n a p good known).0 h in
      let all = (are.plan a k known).taken (to_port n a p) (good.to_all a p known h) is.0 in
      omega (arith, all, at_end n (consumed_at s) is (k + 1), at_end n (consumed_at s) is k)
  moves Output k p h =
      let is = (ports_have_channels s n a p good known).1 h in
      let all = (are.plan a k known).put (from_port n a p) (good.from_all a p known h) is.0 in
      omega (arith, all, at_end n (produced_at s) is (k + 1), at_end n (produced_at s) is k)

  pub are_rows : (side : Side) (rows : List (List ℕ)) → length rows ≡ cycle_of s (node n a) →
      ((j : ℕ) → j < cycle_of s (node n a) → at_phase rows j ≡
      map (λ c. get_or (at_phase (rows_on side z) j) c 0) (channels_at s n side a)) →
      AreRows s side (node n a) rows
  are_rows side rows all each =
      let below : (k : ℕ) → phase_of s (node n a) k < cycle_of s (node n a) =
      λ k. mod_below k (cycle_of s (node n a)) (are.some a known) in
      let long : length (channels_at s n side a) ≡ ports_of s side (node n a) =
      length-map-range_with_len (channel_at n side a) 0 (ports_of s side (node n a)) in
      record {
        known = λ k. omega (arith, below k, all);
        long = λ k. ap length (each (phase_of s (node n a) k) (below k))
            ∙ (length-map (channels_at s n side a) (λ c. get_or
            (at_phase (rows_on side z) (phase_of s (node n a) k)) c 0) ∙ long);
        each = λ k p h.
            let size : ℕ → ℕ = λ c. get_or (at_phase (rows_on side z) (phase_of s (node n a) k)) c 0 in
            ap (λ xs. get_or xs p 0) (each (phase_of s (node n a) k) (below k)) ∙
            (get_or-map size (channels_at s n side a) p 0 0 (omega (arith, long)) ∙
            (ap size (get_or-map-range_with_len (channel_at n side a) 0 (ports_of s side (node n a)) p p 0 h
            (omega arith)) ∙ moves side k p h));
      }
