-- Boxes in columns do not overlap.
use Rattle.std.proofs.Common.{◌≡◌, ℕ, ◌+◌, ◌≤◌, ◌<◌, ◌⊎◌, List, length, get_or, take, inl, inr, ap, arith}
use Rattle.std.proofs.Common.{subst, eq-eqb}
use Rattle.std.specs.Prelude.{if◌then◌else◌}
use Rattle.std.specs.List.{sum_by}
use Rattle.std.proofs.lemmas.Bool.{cases_lt}
use Rattle.std.proofs.lemmas.List.{take-take, get_or-take, length-take-le}
use Rattle.std.proofs.lemmas.List.Sums.{sum_by_more_le}
use Rattle.sdf_file.specs.Designs.{DesignValue}
use Rattle.sdf_draw.specs.declared.layout.BoxPlace.{BoxPlace}
use Rattle.sdf_draw.specs.Layouts.{place, no_place, room_in, stack_height, ArePlaces, IsClear, AreApart}

-- the room of a box in its own column
room_here : (k : ℕ) (p : BoxPlace) → p.depth ≡ k → room_in k p ≡ p.height + 26
room_here k p e = ap (λ b. if b then p.height + 26 else 0) (eq-eqb p.depth k e)

-- the boxes before a later one take the room of the earlier one too
stacked_more : (ps : List BoxPlace) (k a b : ℕ) → a < b → b ≤ length ps → (place ps a).depth ≡ k →
    stack_height (take a ps) k + ((place ps a).height + 26) ≤ stack_height (take b ps) k
stacked_more ps k a b low within here =
    let more : sum_by (room_in k) (take a (take b ps)) + room_in k (get_or (take b ps) a no_place)
    ≤ sum_by (room_in k) (take b ps) =
    sum_by_more_le (room_in k) (take b ps) a no_place (omega (arith, length-take-le b ps within)) in
    let front : sum_by (room_in k) (take a (take b ps)) ≡ sum_by (room_in k) (take a ps) =
    ap (sum_by (room_in k)) (take-take a b ps (omega arith)) in
    let same : room_in k (get_or (take b ps) a no_place) ≡ room_in k (place ps a) =
    ap (room_in k) (get_or-take b ps a no_place low) in
    let room = room_here k (place ps a) here in
    omega (arith, more, front, same, room)

pub apart : (d : DesignValue) (depths : List ℕ) (top : ℕ) (ps : List BoxPlace) → ArePlaces d depths top ps → AreApart ps
apart d depths top ps are a b low within =
    go (cases_lt (place ps a).depth (place ps b).depth) (cases_lt (place ps b).depth (place ps a).depth)
  where
    go : ((place ps a).depth < (place ps b).depth) ⊎ ((place ps b).depth ≤ (place ps a).depth) →
        ((place ps b).depth < (place ps a).depth) ⊎ ((place ps a).depth ≤ (place ps b).depth) →
        IsClear (place ps a) (place ps b) ⊎ IsClear (place ps b) (place ps a)
    go (inl left) w = inl (inl (omega arith))
    go (inr _) (inl right) = inr (inl (omega arith))
    go (inr above) (inr below) =
        let pa = are.each a (omega arith) in
        let pb = are.each b within in
        let ea : (place ps a).depth ≡ get_or depths a 0 = pa.depth in
        let eb : (place ps b).depth ≡ get_or depths b 0 = pb.depth in
        let here : (place ps a).depth ≡ get_or depths b 0 = omega (arith, eb) in
        let same : get_or depths a 0 ≡ get_or depths b 0 = omega (arith, ea, here) in
        let ya : (place ps a).y ≡ top + stack_height (take a ps) (get_or depths b 0) =
        subst (λ k. (place ps a).y ≡ top + stack_height (take a ps) k) same pa.y in
        let yb : (place ps b).y ≡ top + stack_height (take b ps) (get_or depths b 0) = pb.y in
        let more = stacked_more ps (get_or depths b 0) a b low (omega arith) here in
        inl (inr (omega (arith, ya, yb, more)))
