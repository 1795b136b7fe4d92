-- A cycle's block, channel by channel, and its firings' blocks, one after another, where its ports are served in turn.
use Rattle.std.proofs.Common.{◌≡◌, ℕ, suc, ◌+◌, ◌-◌, ◌*◌, ◌%◌, ◌≤◌, ◌<◌, List, [], length}
use Rattle.std.proofs.Common.{get_or, take, drop, refl, sym, ap, ◌∙◌, inl, inr, ◌⊎◌, arith}
use Rattle.std.proofs.Common.{add-one}
use Rattle.std.specs.List.{flat_map, sum_by}
use Rattle.std.proofs.Math.Nat.{suc-mul, mul-le-mul_right}
use Rattle.std.proofs.lemmas.Nat.{mod-mul-add}
use Rattle.sdf_actor.specs.Steps.{total_out}
use Rattle.sdf_actor.specs.Histories.{spread}
use Rattle.sdf_actor.specs.Nets.{wiring}
use Rattle.sdf_queues.specs.QueueValue.{QueueValue}
use Rattle.sdf_queues.specs.Blocks.{samples}
use Rattle.sdf_queues.specs.Sizes.{at_phase}
use Rattle.sdf_one.specs.Cycles.{IsInTurn}
use Rattle.sdf_node.specs.Many.{joined}
use Rattle.sdf_queues.specs.Blocks.{front_at, dealt}
use Rattle.sdf_one.proofs.ManyWorks.{place}
use Rattle.sdf_one.proofs.WholeCycles as cycle
use Rattle.sdf_one.proofs.Joined.{joined_none, joined_part}
use Rattle.sdf_one.proofs.Holding.{ActorOf}
use Rattle.sdf_one.proofs.Parts.{flat_map_same, none_of, spread_none}
use Rattle.sdf_one.proofs.Turns.{turned, joined_same, grouped, joined_reach, consecutive, spread_whole}
use Rattle.sdf_one.proofs.Turns.{spread_long, spread_parts}

module _ {A S T : Type 0} (its : ActorOf A S T) (times : ℕ) where
  open its use {s, n, net, z, y, a, known, x}

  abbrev ins : List ℕ
  ins = (wiring s n).ins a

  abbrev outs : List ℕ
  outs = (wiring s n).outs a

  abbrev takes : List ℕ
  takes = y.takes.items

  abbrev puts : List ℕ
  puts = y.puts.items

  -- how many firings a cycle has, and all of them
  abbrev turns : ℕ
  turns = s.cycle x

  abbrev firings : ℕ
  firings = times * s.cycle x

  abbrev takes_at : ℕ → List ℕ
  takes_at i = at_phase z.takes (i % s.cycle x)

  abbrev puts_at : ℕ → List ℕ
  puts_at i = at_phase z.puts (i % s.cycle x)

  abbrev taken_by : ℕ → ℕ → ℕ
  taken_by c i = (wiring s n).rates.consumed c i

  abbrev put_by : ℕ → ℕ → ℕ
  put_by c i = (wiring s n).rates.produced c i

  abbrev more : ℕ
  more = sum_by (λ c. get_or puts c 0) outs

  row_of : (rows : List (List ℕ)) (t i c : ℕ) → i < turns →
      get_or (at_phase rows ((t * turns + i) % turns)) c 0 ≡ get_or (at_phase rows i) c 0
  row_of rows t i c l = ap (λ v. get_or (at_phase rows v) c 0) (mod-mul-add t turns i l)

  next_taken : (i c : ℕ) → c < length n.wires → (wiring s n).rates.target c ≡ a →
      taken_by c i + get_or (takes_at i) c 0 ≡ taken_by c (suc i)
  next_taken i c l e = sym (ap (taken_by c) (sym (add-one i)) ∙ (cycle.plan its i).taken c l e)

  next_put : (i c : ℕ) → c < length n.wires → (wiring s n).rates.source c ≡ a →
      put_by c i + get_or (puts_at i) c 0 ≡ put_by c (suc i)
  next_put i c l e = sym (ap (put_by c) (sym (add-one i)) ∙ (cycle.plan its i).put c l e)

  -- what they take
  module _ (qs : List (QueueValue T)) (turn_in : IsInTurn ((wiring s n).ins a) z.takes (s.cycle x)) where
    -- what firing i takes
    abbrev f : ℕ → List T
    f i = flat_map (λ c. take (get_or (takes_at i) c 0) (drop (taken_by c i) (samples qs c))) ins

    cycle_taken : (t : ℕ) → t < times → joined (λ i. f (t * turns + i)) turns ≡ front_at takes ins qs t
    cycle_taken t l =
        turned g ins turns (λ u v p r h i j o. in_turn u v p r h i (turn_in u v p r h i j o)) ∙
        flat_map_same (λ c. joined (λ i. g i c) turns)
        (λ c. take (get_or takes c 0) (drop (t * get_or takes c 0) (samples qs c))) ins one
      where
        g : ℕ → ℕ → List T
        g i c = take (get_or (takes_at (t * turns + i)) c 0) (drop (taken_by c (t * turns + i)) (samples qs c))

        no_samples : (i c : ℕ) → i < turns → get_or (at_phase z.takes i) c 0 ≡ 0 → g i c ≡ []
        no_samples i c h none = ap (λ v. take v (drop (taken_by c (t * turns + i)) (samples qs c)))
            (row_of z.takes t i c h ∙ none)

        in_turn : (u v p r : ℕ) → u < v → v < turns → (get_or (at_phase z.takes u) (get_or ins r 0) 0 ≡ 0)
            ⊎ (get_or (at_phase z.takes v) (get_or ins p 0) 0 ≡ 0) →
            (g u (get_or ins r 0) ≡ []) ⊎ (g v (get_or ins p 0) ≡ [])
        in_turn u v p r h i (inl none) = inl (no_samples u (get_or ins r 0) (omega arith) none)
        in_turn u v p r h i (inr none) = inr (no_samples v (get_or ins p 0) i none)

        one : (p : ℕ) → p < length ins → joined (λ i. g i (get_or ins p 0)) turns ≡
            take (get_or takes (get_or ins p 0) 0)
            (drop (t * get_or takes (get_or ins p 0) 0) (samples qs (get_or ins p 0)))
        one p h =
            (consecutive (samples qs c) (λ i. taken_by c (t * turns + i))
            (λ i. get_or (takes_at (t * turns + i)) c 0) turns
            (λ i j. next_taken (t * turns + i) c at.0 at.1
            ∙ ap (taken_by c) (let v : suc (t * turns + i) ≡ t * turns + suc i = omega arith in v))).1 ∙
            (λ κ. take (wide κ) (drop (from κ) (samples qs c)))
          where
            c : ℕ
            c = get_or ins p 0

            at : (c < length n.wires) × ((wiring s n).rates.target c ≡ a)
            at = net.wired.ins_are a p known h

            from : taken_by c (t * turns + 0) ≡ t * get_or takes c 0
            from = ap (taken_by c) (let v : t * turns + 0 ≡ t * turns = omega arith in v)
                ∙ cycle.taken_by its c at.0 at.1 t

            wide : taken_by c (t * turns + turns) - taken_by c (t * turns + 0) ≡ get_or takes c 0
            wide =
                let next : taken_by c (t * turns + turns) ≡ taken_by c (suc t * turns) =
                ap (taken_by c) (let v : t * turns + turns ≡ suc t * turns =
                omega (arith, suc-mul t turns) in v) in
                omega (
                  arith,
                  next,
                  from,
                  cycle.taken_by its c at.0 at.1 (suc t),
                  suc-mul t (get_or takes c 0),
                )

    pub all_taken : joined (front_at takes ins qs) times ≡ joined f firings
    all_taken = sym (grouped f turns times ∙
        joined_same (λ t. joined (λ i. f (t * turns + i)) turns) (front_at takes ins qs) times cycle_taken)

  -- what they put is dealt out cycle by cycle, channel by channel
  module _ (turn_out : IsInTurn ((wiring s n).outs a) z.puts (s.cycle x)) (piece : ℕ → List T)
      (long : (e : ℕ) → e < firings → length (piece e) ≡ total_out s x (e % turns)) where
    abbrev cycle_piece : ℕ → List T
    cycle_piece t = joined (λ i. piece (t * turns + i)) turns

    in_all : (t i : ℕ) → t < times → i < turns → t * turns + i < firings
    in_all t i l h =
        let next : suc t * turns ≡ t * turns + turns = omega (arith, suc-mul t turns) in
        let up : suc t * turns ≤ times * turns = mul-le-mul_right turns l in
        omega (arith, next, up, h)

    whole_long : (e : ℕ) → e < firings → length (piece e) ≡ sum_by (λ c. get_or (puts_at e) c 0) outs
    whole_long e l = long e l ∙ cycle.out_is its e

    cycle_long : (t : ℕ) → t < times → length (cycle_piece t) ≡ more
    cycle_long t l =
        let reach = joined_reach (λ i. piece (t * turns + i)) (λ i. sum_by (λ c. put_by c (t * turns + i)) outs) turns
        (λ i h. let split = cycle.sum_split (λ c. put_by c (t * turns + suc i)) (λ c. put_by c (t * turns + i))
        (λ c. get_or (puts_at (t * turns + i)) c 0) outs
        (λ p g. let at = net.wired.outs_are a p known g in
        ap (put_by (get_or outs p 0)) (let v : t * turns + suc i ≡ suc (t * turns + i) = omega arith in v)
        ∙ sym (next_put (t * turns + i) (get_or outs p 0) at.0 at.1)) in
        omega (arith, split, whole_long (t * turns + i) (in_all t i l h))) in
        let none : sum_by (λ c. put_by c (t * turns + 0)) outs ≡ sum_by (λ c. put_by c (t * turns)) outs =
        ap (λ v. sum_by (λ c. put_by c v) outs) (let v : t * turns + 0 ≡ t * turns = omega arith in v) in
        omega (
          arith,
          reach,
          none,
          cycle.put_ahead its t,
        )

    outs_once : (u v : ℕ) → u < length outs → v < length outs → get_or outs u 0 ≡ get_or outs v 0 → u ≡ v
    outs_once = (cycle.fits_ports its 0).outs_are.once

    module _ (t : ℕ) (l : t < times) where
      abbrev g : ℕ → ℕ → List T
      g i c = spread (λ d. get_or (puts_at (t * turns + i)) d 0) outs (piece (t * turns + i)) c

      part_long : (i p : ℕ) → i < turns → p < length outs → length (g i (get_or outs p 0)) ≡
          get_or (puts_at (t * turns + i)) (get_or outs p 0) 0
      part_long i p h j = spread_long (λ d. get_or (puts_at (t * turns + i)) d 0) outs (piece (t * turns + i))
          (whole_long (t * turns + i) (in_all t i l h)) p (get_or outs p 0) j refl

      no_samples : (i p : ℕ) → i < turns → p < length outs → get_or (at_phase z.puts i) (get_or outs p 0) 0 ≡ 0 →
          g i (get_or outs p 0) ≡ []
      no_samples i p h j none = none_of (g i (get_or outs p 0))
          (part_long i p h j ∙ (row_of z.puts t i (get_or outs p 0) h ∙ none))

      in_turn : (u v p r : ℕ) → u < v → v < turns → p < r → r < length outs →
          (get_or (at_phase z.puts u) (get_or outs r 0) 0 ≡ 0)
          ⊎ (get_or (at_phase z.puts v) (get_or outs p 0) 0 ≡ 0) →
          (g u (get_or outs r 0) ≡ []) ⊎ (g v (get_or outs p 0) ≡ [])
      in_turn u v p r h i j o (inl none) = inl (no_samples u r (omega arith) o none)
      in_turn u v p r h i j o (inr none) = inr (no_samples v p i (omega arith) none)

      by_ports : cycle_piece t ≡ flat_map (λ c. joined (λ i. g i c) turns) outs
      by_ports =
          joined_same (λ i. piece (t * turns + i)) (λ i. flat_map (g i) outs) turns
          (λ i h. sym (spread_whole (λ d. get_or (puts_at (t * turns + i)) d 0) outs (piece (t * turns + i)) outs_once
          (whole_long (t * turns + i) (in_all t i l h)))) ∙
          turned g outs turns (λ u v p r h i j o. in_turn u v p r h i j o (turn_out u v p r h i j o))

      port_long : (p : ℕ) → p < length outs → length (joined (λ i. g i (get_or outs p 0)) turns) ≡
          get_or puts (get_or outs p 0) 0
      port_long p h =
          let c : ℕ = get_or outs p 0 in
          let at = net.wired.outs_are a p known h in
          let reach = joined_reach (λ i. g i c) (λ i. put_by c (t * turns + i)) turns
          (λ i j. ap (λ v. put_by c (t * turns + i) + v) (part_long i p j h)
          ∙ (next_put (t * turns + i) c at.0 at.1
          ∙ ap (put_by c) (let v : suc (t * turns + i) ≡ t * turns + suc i = omega arith in v))) in
          let none : put_by c (t * turns + 0) ≡ put_by c (t * turns) =
          ap (put_by c) (let v : t * turns + 0 ≡ t * turns = omega arith in v) in
          let next : put_by c (t * turns + turns) ≡ put_by c (suc t * turns) =
          ap (put_by c) (let v : t * turns + turns ≡ suc t * turns =
          omega (arith, suc-mul t turns) in v) in
          omega (
            arith,
            reach,
            none,
            next,
            cycle.put_by its c at.0 at.1 t,
            cycle.put_by its c at.0 at.1 (suc t),
            suc-mul t (get_or puts c 0),
          )

      cycle_dealt : (c : ℕ) → joined (λ i. g i c) turns ≡
          spread (λ d. get_or puts d 0) outs (cycle_piece t) c
      cycle_dealt c = go (place outs c)
        where
          go : ((p : ℕ) × (p < length outs) × (get_or outs p 0 ≡ c))
              ⊎ ((p : ℕ) → p < length outs → get_or outs p 0 ≡ c → ⊥) →
              joined (λ i. g i c) turns ≡ spread (λ d. get_or puts d 0) outs (cycle_piece t) c
          go (inl at) = sym (ap (λ ys. spread (λ d. get_or puts d 0) outs ys c) by_ports ∙
              spread_parts (λ d. get_or puts d 0) (λ c. joined (λ i. g i c) turns) outs port_long at.0 c at.1 at.2)
          go (inr none) =
              joined_none (λ i. g i c) turns (λ i h. spread_none (λ d. get_or (puts_at (t * turns + i)) d 0) outs
              (piece (t * turns + i)) c none) ∙
              sym (spread_none (λ d. get_or puts d 0) outs (cycle_piece t) c none)

    part_is : (t : ℕ) → t < times → take more (drop (t * more) (joined piece firings)) ≡ cycle_piece t
    part_is t l =
        ap (λ ys. take more (drop (t * more) ys)) (grouped piece turns times) ∙
        joined_part cycle_piece more times t (λ u h. cycle_long u (omega arith)) l

    pub all_dealt : (c : ℕ) → joined (λ e. spread (λ d. get_or (puts_at e) d 0) outs (piece e) c) firings ≡
        dealt puts outs more (joined piece firings) c times
    all_dealt c =
        grouped (λ e. spread (λ d. get_or (puts_at e) d 0) outs (piece e) c) turns times ∙
        joined_same (λ t. joined (λ i. spread (λ d. get_or (puts_at (t * turns + i)) d 0) outs
        (piece (t * turns + i)) c) turns)
        (λ t. spread (λ d. get_or puts d 0) outs (take more (drop (t * more) (joined piece firings))) c) times
        (λ t l. cycle_dealt t l c ∙ ap (λ ys. spread (λ d. get_or puts d 0) outs ys c) (sym (part_is t l)))
