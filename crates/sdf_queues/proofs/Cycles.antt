-- Each node of a net has phases, and each firing moves the sizes of its phase.
use Rattle.std.proofs.Common.{◌≡◌, ℕ, zero, suc, ◌+◌, ◌*◌, ◌%◌, ◌≤◌, ◌<◌, List, length, map, get_or, refl, sym, ap, ◌∙◌}
use Rattle.std.proofs.Common.{arith, add-one}
use Rattle.std.proofs.Math.Nat.{mod-mod}
use Rattle.std.proofs.lemmas.Nat.{mod_below}
use Rattle.std.proofs.lemmas.List.{get_or-map, length-map}
use Rattle.std.proofs.lemmas.List.FromFn.{length-map-range_with_len}
use Rattle.sdf_graph.specs.Periods.{Divides}
use Rattle.sdf_graph.specs.Rates.{ChannelValue, IsShape, IsAlike, rates, rate_at, sum_to, channel, no_channel}
use Rattle.sdf_actor.specs.declared.sides.Side.TheVariants.{Input, Output}
use Rattle.sdf_actor.specs.Steps.{Steps}
use Rattle.sdf_actor.specs.Nets.{Netlist, node, wire, no_wire, wiring, cycle_of, IsNet}
use Rattle.sdf_actor.specs.Graphs.{graph_of, channel_of, rate_of}
use Rattle.sdf_actor.specs.GoingOn.{PeriodsAreWhole}
use Rattle.sdf_actor.specs.NetFaults.{IsAccepted}
use Rattle.sdf_queues.specs.Sizes.{AreSizes, at_phase, phase_of}

-- each node has phases: a period is whole cycles of it, and some
pub phases : {A S T : Type 0} (s : Steps A S T) → PeriodsAreWhole s → (n : Netlist A T) (q : List ℕ) → IsNet s n →
    IsShape (graph_of s n) → IsAlike (rates (graph_of s n)) (wiring s n).rates → IsAccepted s n q →
    (a : ℕ) → a < length n.nodes → 0 < cycle_of s (node n a)
phases s whole n q good shape alike accepted a l =
    go (cycle_of s (node n a)) ((whole n q 1 good shape alike accepted).cycles a l)
  where
    go : (m : ℕ) → Divides m (1 * get_or q a 0) → 0 < m
    go zero cycles = let none : cycles.0 * 0 ≡ 0 = omega arith in
        absurd (omega (arith, cycles.1, accepted.period.is.positive a l))
    go (suc m) cycles = omega arith

module _ {A S T : Type 0} (s : Steps A S T) (n : Netlist A T) where
  wires_all : length (graph_of s n).channels ≡ length n.wires
  wires_all = length-map n.wires (channel_of s n.nodes)

  channel_is : (c : ℕ) → c < length n.wires → channel (graph_of s n) c ≡ channel_of s n.nodes (wire n c)
  channel_is c l = get_or-map (channel_of s n.nodes) n.wires c no_wire no_channel l

  put_long : (c : ℕ) → c < length n.wires → length (channel (graph_of s n) c).put ≡
      cycle_of s (node n (wire n c).from.0)
  put_long c l = ap (λ (e : ChannelValue). length e.put) (channel_is c l)
      ∙ length-map-range_with_len (rate_of s Output (node n (wire n c).from.0) (wire n c).from.1) 0
      (cycle_of s (node n (wire n c).from.0))

  take_long : (c : ℕ) → c < length n.wires → length (channel (graph_of s n) c).take ≡
      cycle_of s (node n (wire n c).to.0)
  take_long c l = ap (λ (e : ChannelValue). length e.take) (channel_is c l)
      ∙ length-map-range_with_len (rate_of s Input (node n (wire n c).to.0) (wire n c).to.1) 0
      (cycle_of s (node n (wire n c).to.0))

  -- a firing moves on a channel what the row of its phase says
  moved_more : (on : ChannelValue → List ℕ) (row : List ℕ) (many i c : ℕ) → c < length (graph_of s n).channels →
      row ≡ map (λ (e : ChannelValue). rate_at (on e) (i % many)) (graph_of s n).channels →
      length (on (channel (graph_of s n) c)) ≡ many →
      sum_to (rate_at (on (channel (graph_of s n) c))) (i + 1) ≡
      sum_to (rate_at (on (channel (graph_of s n) c))) i + get_or row c 0
  moved_more on row many i c known is all =
      let cycle : List ℕ = on (channel (graph_of s n) c) in
      let size : get_or row c 0 ≡ rate_at cycle (i % many) = ap (λ xs. get_or xs c 0) is
      ∙ get_or-map (λ (e : ChannelValue). rate_at (on e) (i % many)) (graph_of s n).channels c no_channel 0 known in
      let turn : rate_at cycle i ≡ rate_at cycle (i % many) =
      ap (λ k. get_or cycle k 0) (sym (mod-mod i (length cycle)) ∙ ap (λ m. i % m % length cycle) all) in
      let more : sum_to (rate_at cycle) (i + 1) ≡ sum_to (rate_at cycle) i + rate_at cycle i = rw add-one refl in
      omega (arith, more, size, turn)

  module _ (alike : IsAlike (rates (graph_of s n)) (wiring s n).rates)
      (some : (a : ℕ) → a < length n.nodes → 0 < cycle_of s (node n a))
      (most : ℕ) (longest : (a : ℕ) → a < length n.nodes → cycle_of s (node n a) ≤ most) (takes puts : List (List ℕ))
      (takes_all : length takes ≡ most) (puts_all : length puts ≡ most)
      (takes_are : (j : ℕ) → j < most → at_phase takes j ≡
      map (λ (e : ChannelValue). rate_at e.take j) (graph_of s n).channels)
      (puts_are : (j : ℕ) → j < most → at_phase puts j ≡
      map (λ (e : ChannelValue). rate_at e.put j) (graph_of s n).channels) where
    below : (a i : ℕ) → a < length n.nodes → phase_of s (node n a) i < most
    below a i l = omega (arith, mod_below i (cycle_of s (node n a)) (some a l), longest a l)

    -- the sizes made of a net's graph are its sizes
    pub are_sizes : AreSizes s n (record { takes = takes; puts = puts })
    are_sizes = record {
      some = some;
      takes_known = λ a i l. omega (arith, takes_all, below a i l);
      puts_known = λ a i l. omega (arith, puts_all, below a i l);
      plan = λ a i l.
          let j : ℕ = phase_of s (node n a) i in
          record {
            takes_all = ap length (takes_are j (below a i l))
                ∙ (length-map (graph_of s n).channels (λ (e : ChannelValue). rate_at e.take j) ∙ wires_all);
            puts_all = ap length (puts_are j (below a i l))
                ∙ (length-map (graph_of s n).channels (λ (e : ChannelValue). rate_at e.put j) ∙ wires_all);
            taken = λ c h e.
                let known : c < length (graph_of s n).channels = omega (arith, wires_all, h) in
                omega (
                  arith,
                  alike.consumed c i known,
                  alike.consumed c (i + 1) known,
                  moved_more (λ (d : ChannelValue). d.take) (at_phase takes j) (cycle_of s (node n a)) i c known
                      (takes_are j (below a i l)) (take_long c h ∙ ap (λ b. cycle_of s (node n b)) e),
                );
            put = λ c h e.
                let known : c < length (graph_of s n).channels = omega (arith, wires_all, h) in
                omega (
                  arith,
                  alike.produced c i known,
                  alike.produced c (i + 1) known,
                  moved_more (λ (d : ChannelValue). d.put) (at_phase puts j) (cycle_of s (node n a)) i c known
                      (puts_are j (below a i l)) (put_long c h ∙ ap (λ b. cycle_of s (node n b)) e),
                );
          };
    }
