use Rattle.std.proofs.Common.{◌≡◌, ℕ, ℤ, List, ap, get_or, map, of_z, pos, to_z, w32}
use Rattle.sdf_kit.proofs.LaneSums.{wide_total}
use Rattle.sdf_kit.proofs.dots.wide_totals.Goals as goal

-- lane k of equal arrays is the same
lane : {xs ys : List ℤ} (k : ℕ) → xs ≡ ys →
    get_or (map (to_z w32) (map (of_z w32) xs)) k (pos 0) ≡ get_or (map (to_z w32) (map (of_z w32) ys)) k (pos 0)
lane k same = ap (λ xs. get_or (map (to_z w32) (map (of_z w32) xs)) k (pos 0)) same

pub returns-clause-a : goal.returns-clause-a
returns-clause-a c =
    wide_total c.requires.a c.upper.ensures.value c.upper.ensures.lanes c.lower.ensures.value
    c.lower.ensures.lanes (lane 0 c.totals.ensures) (lane 0 c.totals-2.ensures) c.join.ensures
    (record { sfits = c.join.type_inv })

pub returns-clause-b : goal.returns-clause-b
returns-clause-b c =
    wide_total c.requires.b c.upper-2.ensures.value c.upper-2.ensures.lanes c.lower-2.ensures.value
    c.lower-2.ensures.lanes (lane 1 c.totals.ensures) (lane 1 c.totals-2.ensures) c.join-2.ensures
    (record { sfits = c.join-2.type_inv })

pub returns-clause-c : goal.returns-clause-c
returns-clause-c c =
    wide_total c.requires.c c.upper-3.ensures.value c.upper-3.ensures.lanes c.lower-3.ensures.value
    c.lower-3.ensures.lanes (lane 2 c.totals.ensures) (lane 2 c.totals-2.ensures) c.join-3.ensures
    (record { sfits = c.join-3.type_inv })

pub returns-clause-d : goal.returns-clause-d
returns-clause-d c =
    wide_total c.requires.d c.upper-4.ensures.value c.upper-4.ensures.lanes c.lower-4.ensures.value
    c.lower-4.ensures.lanes (lane 3 c.totals.ensures) (lane 3 c.totals-2.ensures) c.join-4.ensures
    (record { sfits = c.join-4.type_inv })
