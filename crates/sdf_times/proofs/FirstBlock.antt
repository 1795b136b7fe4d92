-- What the first block of a run says of the makespan and of the period; and more room.
use Rattle.std.proofs.Common.{◌≡◌, ℕ, suc, ◌+◌, ◌*◌, ◌≤◌, ◌<◌, ◌⊎◌, inl, inr, sym, ap, ◌∙◌, subst}
use Rattle.std.proofs.Common.{arith, refl, Some}
use Rattle.std.proofs.Math.Nat.{mul-le-mul_left, mul-le-mul_right}
use Rattle.sdf_prec.specs.declared.firing.Firing.{Firing}
use Rattle.sdf_prec.specs.Precedence.{WaitsFor}
use Rattle.sdf_prec.specs.Tables.{cell, IsOfBlock}
use Rattle.sdf_times.specs.Times.{IsInTable, ComesBefore, end_of}
use Rattle.sdf_times.specs.SelfTimed.{Plan, later, IsAt, IsSooner, WaitsForRoom, HoldsBack, AreSelfTimed}
use Rattle.sdf_times.specs.SelfTimed.{IsBlockEnd, IsPlan}
use Rattle.sdf_times.specs.Periods.{with_caps, MakespanIsWithinFirst, PeriodIsWithinFirst, FirstIsWithinRows}
use Rattle.sdf_times.specs.Periods.{MoreRoomIsNoLonger}
use Rattle.sdf_times.proofs.Cells.{place}
use Rattle.sdf_times.proofs.Greatest.{greatest_least}
use Rattle.sdf_times.proofs.Laters.{later_none, later_same, waits_sooner, room_sooner}
use Rattle.sdf_times.proofs.Least.{starts_are_least}
use Rattle.sdf_times.proofs.OnePeriod.{half}
use Rattle.sdf_times.proofs.Ranks.{cells, size, at_once, rank_parts, place_in_block}
use Rattle.sdf_times.proofs.Certified.{self_timed_are_least}
use Rattle.sdf_times.proofs.Within.{period_within, ends_by_rows, within}

module _ (p : Plan) (ok : IsPlan p) (start : Firing → ℕ) (run : AreSelfTimed p start) where
  -- what comes before a firing in its table holds it back
  before_holds : (f g : Firing) → IsInTable p.rows f → ComesBefore p.rates p.rows g f → end_of p.cost start g ≤ start f
  before_holds f g (i, j, e) b = go b
    where
      known : f.actor < p.rates.actors
      known = ((cells p ok).known i j f e).0

      holds : HoldsBack p g f (p.cost g.actor) → end_of p.cost start g ≤ start f
      holds h = (run f known).above (start g + p.cost g.actor) (g, p.cost g.actor, h, refl)

      go : ComesBefore p.rates p.rows g f → end_of p.cost start g ≤ start f
      go (inl waits) = holds (inl (refl, inl waits))
      go (inr (k, i', j', low, one, two)) =
          holds (inl (refl, inr (0, k, 0, i', j', inr (refl, low), (g, one, later_none p g), (f, two, later_none p f))))

  -- the end of a firing of the first block
  first_end : (end : ℕ) → IsBlockEnd p start 0 end → (f : Firing) → IsOfBlock p.rates p.firings f →
      end_of p.cost start f ≤ end
  first_end end ends f of =
      let high = ends.above (end_of p.cost start (later p 0 f)) (f, of, refl) in
      omega (arith, high, ap (end_of p.cost start) (later_none p f))

  module _ (end : ℕ) (first : IsBlockEnd p start 0 end) where
    wait_within : (g f : Firing) (w : ℕ) → HoldsBack p g f w → w ≤ p.cost g.actor
    wait_within g f w (inl (is, _)) = omega arith
    wait_within g f w (inr (is, _)) = omega arith

    -- in the first block as in this one
    same_block : (g f : Firing) (w : ℕ) (b k m i j : ℕ) (y : IsAt p b k m g) (z : IsAt p b i j f) →
        HoldsBack p g f w → HoldsBack p y.0 z.0 w
    same_block g f w b k m i j (g', eg, isg) (f', ef, isf) holds = go holds
      where
        cost_is : p.cost g'.actor ≡ p.cost g.actor
        cost_is = ap (λ (f : Firing). p.cost f.actor) isg

        go : HoldsBack p g f w → HoldsBack p g' f' w
        go (inl (is, inl waits)) =
            inl (
              omega (arith, cost_is),
              inl (waits_sooner p ok b f' g' (subst (λ g. WaitsFor p.rates (later p b f') g) (sym isg)
                  (subst (λ f. WaitsFor p.rates f g) (sym isf) waits))),
            )
        go (inl (is, inr (d, k', b', i', j', sooner, one, two))) =
            let first = at_once p ok d k' j' b k m g one (g', eg, isg) in
            let last = at_once p ok b' i' j' b i j f two (f', ef, isf) in
            inl (
              omega (arith, cost_is),
              inr (
                0,
                k,
                0,
                i,
                j,
                as_first d k' b' i' sooner first.0 first.1 last.0 last.1,
                (g', subst (λ m. cell p.rows k m ≡ Some g') (sym first.2 ∙ last.2) eg, later_none p g'),
                (f', ef, later_none p f'),
              ),
            )
          where
            as_first : (d k' b' i' : ℕ) → IsSooner d k' b' i' → d ≡ b → k' ≡ k → b' ≡ b → i' ≡ i → IsSooner 0 k 0 i
            as_first d k' b' i' (inl low) ed ek eb ei = absurd (omega arith)
            as_first d k' b' i' (inr (same, low)) ed ek eb ei = inr (refl, omega arith)
        go (inr (is, room)) =
            inr (
              is,
              room_sooner p ok b f' g' (subst (λ g. WaitsForRoom p (later p b f') g) (sym isg)
                  (subst (λ f. WaitsForRoom p f g) (sym isf) room)),
            )

    step : (g f : Firing) (w : ℕ) → g.actor < p.rates.actors → HoldsBack p g f w → (d k m b i j : ℕ) →
        (y : IsAt p d k m g) (z : IsAt p b i j f) →
        d * size p ok + place p.rows k m < b * size p ok + place p.rows i j →
        d * end + start y.0 + w ≤ b * end + start z.0
    step g f w known holds d k m b i j (g', eg, isg) z less =
        go (rank_parts p ok d b (place p.rows k m) (place p.rows i j) (place_in_block p ok d k m g (g', eg, isg))
        (place_in_block p ok b i j f z) less)
      where
        go : (d < b) ⊎ ((d ≡ b) × (place p.rows k m < place p.rows i j)) →
            d * end + start g' + w ≤ b * end + start z.0
        go (inl low) =
            let up : suc d * end ≤ b * end = mul-le-mul_right end low in
            let last = first_end end first g' ((cells p ok).known k m g' eg) in
            let cost_is : p.cost g'.actor ≡ p.cost g.actor = ap (λ (f : Firing). p.cost f.actor) isg in
            omega (arith, up, last, wait_within g f w holds, cost_is)
        go (inr (same, low)) =
            let block_is : d * end ≡ b * end = ap (λ b. b * end) same in
            let its : later p b g' ≡ g = later_same p b d g' (sym same) ∙ isg in
            let in_block : HoldsBack p g' z.0 w = same_block g f w b k m i j (g', eg, its) z holds in
            let early = (run z.0 ((cells p ok).known i j z.0 z.1).0).above (start g' + w) (g', w, in_block, refl) in
            omega (arith, early, block_is)

    ends_by_first : (last : ℕ) (b : ℕ) → IsBlockEnd p start b last → last ≤ suc b * end
    ends_by_first last b ends = go ends.reached
      where
        go : (last ≡ 0) ⊎ ((f : Firing) × IsOfBlock p.rates p.firings f
            × (end_of p.cost start (later p b f) ≡ last)) → last ≤ suc b * end
        go (inl z) = omega arith
        go (inr (f, of, is)) =
            let c = (cells p ok).all f of in
            let low = within p ok start run (λ b i j f z. b * end + start z.0) step (later p b f) b c.0 c.1 of.0
            (f, c.2, refl) in
            omega (arith, is, low, first_end end first f of)

pub makespan_is_within_first : MakespanIsWithinFirst
makespan_is_within_first p end start makespan ok ends starts last =
    greatest_least (λ u. (f : Firing) × IsInTable p.rows f × (end_of p.cost start f ≡ u)) makespan (end 0) last
    (λ u w. go u w.0 w.1 w.2)
  where
    go : (u : ℕ) (f : Firing) → IsInTable p.rows f → end_of p.cost start f ≡ u → u ≤ end 0
    go u f at is =
        let low = starts_are_least p.rates p.firings p.cost p.rows start ends.start ok.valid starts
        (λ f g in_table b. before_holds p ok ends.start ends.run f g in_table b) f at in
        let high = first_end p ok ends.start ends.run (end 0) (ends.ends 0) f
        ((cells p ok).known at.0 at.1 f at.2) in
        omega arith

pub period_is_within_first : PeriodIsWithinFirst
period_is_within_first p end t q ok ends period =
    period_within end t q (end 0) period
    (λ b. ends_by_first p ok ends.start ends.run (end 0) (ends.ends 0) (end b) b (ends.ends b))

pub first_is_within_rows : FirstIsWithinRows
first_is_within_rows p end ok ends =
    let low = ends_by_rows p ok ends.start ends.run (end 0) 0 (ends.ends 0) in
    omega arith

module _ (p : Plan) (ok : IsPlan p) (caps : ℕ → ℕ)
    (wide : (c : ℕ) → c < p.rates.channels → p.caps c ≤ caps c) where
  wider : IsPlan (with_caps p caps)
  wider = record {
    sound = ok.sound;
    period = ok.period;
    fires = ok.fires;
    valid = ok.valid;
    room = λ c l. let h = ok.room c l in (h.0, h.1, omega (arith, h.2, wide c l));
  }

  still_holds : (g f : Firing) (w : ℕ) → HoldsBack (with_caps p caps) g f w → HoldsBack p g f w
  still_holds g f w (inl (is, inl waits)) = inl (is, inl waits)
  still_holds g f w (inl (is, inr ahead)) = inl (is, inr ahead)
  still_holds g f w (inr (is, (c, l, from, into, apart, low))) =
      inr (is, (c, l, from, into, apart, omega (arith, low, wide c l)))

  ends_sooner : (start other : Firing → ℕ) → AreSelfTimed p start → AreSelfTimed (with_caps p caps) other → (b : ℕ)
      (end more : ℕ) → IsBlockEnd p start b end → IsBlockEnd (with_caps p caps) other b more → more ≤ end
  ends_sooner start other run runs b end more ends early = go early.reached
    where
      go : (more ≡ 0) ⊎ ((f : Firing) × IsOfBlock p.rates p.firings f
          × (end_of p.cost other (later (with_caps p caps) b f) ≡ more)) → more ≤ end
      go (inl z) = omega arith
      go (inr (f, of, is)) =
          let low = self_timed_are_least (with_caps p caps) other start wider runs
          (λ g f w in_graph known holds. (run f known).above (start g + w) (g, w, still_holds g f w holds, refl))
          (later p b f) of.0 in
          let high = ends.above (end_of p.cost start (later p b f)) (f, of, refl) in
          omega arith

pub more_room_is_no_longer : MoreRoomIsNoLonger
more_room_is_no_longer p caps end more t q u v ok wide ends less one two =
    half end u v t q two.bound one.bound
    (λ b. let low = ends_sooner p ok caps wide ends.start less.start ends.run less.run b (end b) (more b) (ends.ends b)
    (less.ends b) in
    let much : v * more b ≤ v * end b = mul-le-mul_left v low in
    omega (arith, two.soon b, much)) one.late
