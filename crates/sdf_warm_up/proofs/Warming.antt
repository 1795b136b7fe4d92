-- A net whose channels are late and whose actors have come there is warm, and no net is warm before.
use Rattle.std.proofs.Common.{◌≡◌, ℕ, ◌+◌, ◌≤◌, ◌<◌, List, length, get_or, ap, ◌∙◌, arith}
use Rattle.std.specs.Prelude.{slice_index}
use Rattle.std.proofs.lemmas.List.{length-map}
use Rattle.sdf_graph.specs.Rates.{rates, channel, rate_at, IsAlike}
use Rattle.sdf_graph.proofs.Theorems.{sums_rise}
use Rattle.sdf_actor.specs.Graphs.{graph_of, channel_of}
use Rattle.sdf_actor.specs.Nets.{Netlist, wiring}
use Rattle.sdf_actor.specs.Steps.{Steps}
use Rattle.sdf_queues.specs.RunResults.{periods_of}
use Rattle.sdf_warm_up.specs.Warm.{IsWarm, StaysCold}
use Rattle.sdf_warm_up.specs.WarmUps.{WarmsIn, AreMemories, AreLate, AreEarly, NoneIsLate, AreWithin}

module _ {A S T : Type 0} (s : Steps A S T) (n : Netlist A T)
    (alike : IsAlike (rates (graph_of s n)) (wiring s n).rates)
    (memory : List ℕ) (all : AreMemories s n memory) where
  pub warms : (q since : List ℕ) (periods : ℕ) → length q ≡ length n.nodes →
      AreLate (graph_of s n) (slice_index memory) (slice_index since) → AreWithin q periods memory since →
      WarmsIn s n q periods
  warms q since periods long late within = record {
    memory = slice_index memory;
    since = slice_index since;
    is = record {
      forgets = λ a l. (all a l).is;
      takes = λ c l.
          let r = rates (graph_of s n) in
          let t = (wiring s n).rates in
          let w : ℕ → ℕ = (λ a. get_or since a 0 + get_or memory a 0) in
          let known : c < length (graph_of s n).channels = omega (arith, length-map n.wires (channel_of s n.nodes)) in
          let put : r.produced c (w (r.source c)) ≡ t.produced c (w (t.source c)) =
          alike.produced c (w (r.source c)) known ∙ ap (λ b. t.produced c (w b)) (alike.source c known) in
          let taken : r.consumed c (get_or since (r.target c) 0) ≡ t.consumed c (get_or since (t.target c) 0) =
          alike.consumed c (get_or since (r.target c) 0) known ∙ ap (λ b. t.consumed c (get_or since b 0))
          (alike.target c known) in
          let here : r.initial c + r.produced c (w (r.source c)) ≤ r.consumed c (get_or since (r.target c) 0) =
          late c known in
          omega (arith, here, alike.initial c known, put, taken);
      within = λ a l. within a (omega arith);
    };
  }

  module _ (sources : (c : ℕ) → c < length (graph_of s n).channels →
      (channel (graph_of s n) c).from < length n.nodes) (k other since : ℕ → ℕ) (warm : IsWarm s n k other since) where
    -- where the net is warm, all channels are late, also by the least memory
    pub are_late : AreLate (graph_of s n) (slice_index memory) since
    are_late c known =
        let r = rates (graph_of s n) in
        let t = (wiring s n).rates in
        let a : ℕ = r.source c in
        let l : c < length n.wires = omega (arith, length-map n.wires (channel_of s n.nodes)) in
        let from : a < length n.nodes = sources c known in
        let less = (all a from).least (other a) (warm.forgets a from) in
        let fewer = sums_rise (rate_at (channel (graph_of s n) c).put) (since a + get_or memory a 0) (since a + other a)
        (omega (arith, less)) in
        let put : r.produced c (since a + other a)
        ≡ t.produced c (since (t.source c) + other (t.source c)) =
        alike.produced c (since a + other a) known ∙ ap (λ b. t.produced c (since b + other b))
        (alike.source c known) in
        let taken : r.consumed c (since (r.target c)) ≡ t.consumed c (since (t.target c)) =
        alike.consumed c (since (r.target c)) known ∙ ap (λ b. t.consumed c (since b)) (alike.target c known) in
        let least : r.produced c (since a + get_or memory a 0) ≤ r.produced c (since a + other a) = fewer in
        omega (arith, least, put, taken, alike.initial c known, warm.takes c l)

    -- each node has fired as often before as it has at least
    pub fired : (firings : List ℕ) → AreEarly (graph_of s n) (slice_index memory) firings → (a : ℕ) →
        a < length n.nodes → get_or firings a 0 + get_or memory a 0 ≤ k a
    fired firings early a known =
        omega (
          arith,
          early since are_late a known,
          (all a known).least (other a) (warm.forgets a known),
          warm.within a known,
        )

  -- so fewer periods do not warm the net up
  pub warms_no_sooner : ((c : ℕ) → c < length (graph_of s n).channels →
      (channel (graph_of s n) c).from < length n.nodes) → (q firings : List ℕ) (periods : ℕ) →
      length q ≡ length n.nodes → AreEarly (graph_of s n) (slice_index memory) firings → WarmsIn s n q periods →
      AreWithin q periods memory firings
  warms_no_sooner sources q firings periods long early w a known =
      fired sources (periods_of q periods) w.memory w.since w.is firings early a (omega arith)

  -- nor do few firings, if none of these is late
  pub stays_cold : ((c : ℕ) → c < length (graph_of s n).channels →
      (channel (graph_of s n) c).from < length n.nodes) → (most : ℕ) →
      NoneIsLate (graph_of s n) (slice_index memory) most → StaysCold s n most
  stays_cold sources most none k other since warm few =
      none since (are_late sources k other since warm)
      (λ a known. omega (arith, warm.within a known, few a known))
