-- The order of firings, block after block, and in a block by row, then by column. What holds a firing back comes before
-- it.
use Rattle.std.proofs.Common.{◌≡◌, ℕ, zero, suc, ◌+◌, ◌-◌, ◌*◌, ◌≤◌, ◌<◌, ◌⊎◌, List, [], ◌∷◌, length, inl, inr, sym, ap}
use Rattle.std.proofs.Common.{◌∙◌, subst, arith, refl, Option, Some}
use Rattle.std.proofs.Math.Nat.{mul-le-mul_right}
use Rattle.std.proofs.lemmas.Nat.{same_from_place}
use Rattle.std.proofs.lemmas.Option.{none-some, same_Some}
use Rattle.std.proofs.lemmas.Bool.{cases_lt, cases_eq}
use Rattle.sdf_prec.specs.declared.firing.Firing.{Firing}
use Rattle.sdf_prec.specs.Precedence.{WaitsFor}
use Rattle.sdf_prec.specs.Tables.{cell, order}
use Rattle.sdf_times.specs.SelfTimed.{Plan, later, IsAt, IsSooner, IsAheadOf, WaitsForRoom, HoldsBack, IsPlan}
use Rattle.sdf_times.proofs.Cells.{AreCells, are_cells, place, at_place, at_place_in, once_at}
use Rattle.sdf_times.proofs.Laters.{split, later_more, later_same, waits_sooner, room_sooner}
use Rattle.sdf_times.proofs.Counts.{held_then, held_first}

pub place_less : (rows : List (List (Option Firing))) (k m i j : ℕ) (g f : Firing) → cell rows k m ≡ Some g →
    cell rows i j ≡ Some f → k < i → place rows k m < place rows i j
place_less [] k m i j g f e d l = absurd (none-some g e)
place_less (cells ∷ rows) zero m zero j g f e d l = absurd (omega arith)
place_less (cells ∷ rows) zero m (suc i) j g f e d l = omega (arith, (at_place_in cells m g e).0)
place_less (cells ∷ rows) (suc k) m zero j g f e d l = absurd (omega arith)
place_less (cells ∷ rows) (suc k) m (suc i) j g f e d l = omega (arith, place_less rows k m i j g f e d (omega arith))

pub block_less : (size d x b y : ℕ) → d < b → x < size → d * size + x < b * size + y
block_less size d x b y l m = let up : suc d * size ≤ b * size = mul-le-mul_right size (omega arith) in omega arith

module _ (p : Plan) (ok : IsPlan p) where
  pub cells : AreCells p.rates p.firings p.rows
  cells = are_cells p.rates p.firings p.rows ok.valid

  abbrev pub size : ℕ
  size = length (order p.rows)

  abbrev pub IsRank : ℕ → Firing → Type 0
  IsRank m f = (b : ℕ) × (i : ℕ) × (j : ℕ) × IsAt p b i j f × (m ≡ b * size + place p.rows i j)

  -- each firing has a cell in some block, and so a rank
  pub at : (f : Firing) → f.actor < p.rates.actors → (b : ℕ) × (i : ℕ) × (j : ℕ) × IsAt p b i j f
  at f known =
      let s = split p f known (ok.fires f.actor known) in
      let c = cells.all s.1 s.2 in
      (s.0, c.0, c.1, (s.1, c.2, s.3))

  pub rank_of : (f : Firing) → f.actor < p.rates.actors → (m : ℕ) × IsRank m f
  rank_of f known = let x = at f known in (x.0 * size + place p.rows x.1 x.2, (x.0, x.1, x.2, x.3, refl))

  pub place_in_block : (b i j : ℕ) (f : Firing) → IsAt p b i j f → place p.rows i j < size
  place_in_block b i j f (g, e, is) = (at_place p.rows i j g e).0

  -- and no other
  pub at_once : (b i j d k m : ℕ) (f : Firing) → IsAt p b i j f → IsAt p d k m f → (b ≡ d) × (i ≡ k) × (j ≡ m)
  at_once b i j d k m f (g, e, is) (h, e', is') =
      let same : g.actor ≡ h.actor = ap (λ (f : Firing). f.actor) is ∙ sym (ap (λ (f : Firing). f.actor) is') in
      let fires : p.firings g.actor ≡ p.firings h.actor = ap p.firings same in
      let low : g.number < p.firings h.actor = subst (λ n. g.number < n) fires (cells.known i j g e).1 in
      let count : d * p.firings h.actor + h.number ≡ b * p.firings g.actor + g.number =
      ap (λ (f : Firing). f.number) is' ∙ sym (ap (λ (f : Firing). f.number) is) in
      let rest : b * p.firings g.actor + g.number ≡ b * p.firings h.actor + g.number =
      ap (λ n. b * n + g.number) fires in
      let two = same_from_place b g.number d h.number (p.firings h.actor) low (cells.known k m h e').1
      (sym rest ∙ sym count) in
      let one : g ≡ h = λ x. record { actor = same x; number = two.1 x } in
      let here = cells.once i j k m h (e ∙ ap Some one) e' in
      (two.0, here.0, here.1)

  module _ (g f : Firing) (known : g.actor < p.rates.actors) (b i j : ℕ) (f' : Firing) (e : cell p.rows i j ≡ Some f')
      (is : later p b f' ≡ f) where
    abbrev Before : Type 0
    Before = (m : ℕ) × IsRank m g × (m < b * size + place p.rows i j)

    -- a firing of an earlier block
    of_earlier : (d k m : ℕ) → IsAt p d k m g → d < b → Before
    of_earlier d k m at l = (
      d * size + place p.rows k m,
      (d, k, m, at, refl),
      block_less size d (place p.rows k m) b (place p.rows i j) l (place_in_block d k m g at),
    )

    -- a firing of the same block, at an earlier place
    of_same : (k m : ℕ) (h : Firing) → cell p.rows k m ≡ Some h → later p b h ≡ g →
        place p.rows k m < place p.rows i j → Before
    of_same k m h d its l = (b * size + place p.rows k m, (b, k, m, (h, d, its), refl), omega arith)

    -- a firing of this or a later block as one of those from this block on
    as_later : (d k m : ℕ) → (x : IsAt p d k m g) → b ≤ d → later p b (later p (d - b) x.0) ≡ g
    as_later d k m (h, at, its) l =
        later_more p b (d - b) h ∙ (later_same p ((d - b) + b) d h (omega arith) ∙ its)

    -- a firing of an earlier row
    abbrev Sooner : Type 0
    Sooner = (d : ℕ) × (k : ℕ) × (m : ℕ) × IsAt p d k m g × IsSooner d k b i

    pub sooner_before : Sooner → Before
    sooner_before (d, k, m, x, inl low) = of_earlier d k m x low
    sooner_before (d, k, m, (h, at, its), inr (same, low)) =
        of_same k m h at (later_same p b d h (omega arith) ∙ its) (place_less p.rows k m i j h f' at e low)

    pub for_waits : WaitsFor p.rates f g → Sooner
    for_waits waits = let x = at g known in go x.0 x.1 x.2 x.3 (cases_lt x.0 b)
      where
        go : (d k m : ℕ) → IsAt p d k m g → (d < b) ⊎ (b ≤ d) → Sooner
        go d k m x (inl low) = (d, k, m, x, inl low)
        go d k m x (inr high) =
            let its : later p b (later p (d - b) x.0) ≡ g = as_later d k m x high in
            let need : WaitsFor p.rates f' (later p (d - b) x.0) = waits_sooner p ok b f' (later p (d - b) x.0)
            (subst (λ g. WaitsFor p.rates (later p b f') g) (sym its)
            (subst (λ f. WaitsFor p.rates f g) (sym is) waits)) in
            let y = cells.earlier i j f' (later p (d - b) x.0) e need in
            (b, y.0, y.1, (later p (d - b) x.0, y.3, its), inr (refl, y.2))

    pub for_ahead : IsAheadOf p g f → Sooner
    for_ahead (d, k, b', i', j', sooner, one, two) =
        let same = at_once b' i' j' b i j f two (f', e, is) in
        (d, k, j', one, go sooner same.0 same.1)
      where
        go : IsSooner d k b' i' → b' ≡ b → i' ≡ i → IsSooner d k b i
        go (inl low) eb ei = inl (omega arith)
        go (inr (same, low)) eb ei = inr (omega arith, omega arith)

    for_room : WaitsForRoom p f g → Before
    for_room room = let x = at g known in go x.0 x.1 x.2 x.3 (cases_lt x.0 b)
      where
        block_of : (h : Firing) → h.actor < p.rates.actors → later p b h ≡ g → WaitsForRoom p f' h →
            (h.number < p.firings h.actor) ⊎ (p.firings h.actor ≤ h.number) → Before
        block_of h in_graph its (c, l, from, into, apart, low) (inl of) =
            let y = cells.all h (in_graph, of) in
            stands y.0 y.1 y.2 (cases_lt (place p.rows y.0 y.1) (place p.rows i j))
          where
            stands : (k m : ℕ) → cell p.rows k m ≡ Some h →
                (place p.rows k m < place p.rows i j) ⊎ (place p.rows i j ≤ place p.rows k m) → Before
            stands k m d (inl before) = of_same k m h d its before
            stands k m d (inr after) = apart_from (cases_eq (place p.rows i j) (place p.rows k m))
              where
                apart_from : (place p.rows i j ≡ place p.rows k m) ⊎ (place p.rows i j ≡ place p.rows k m → ⊥) → Before
                apart_from (inl same) =
                    let here = once_at p.rows i j k m f' h e d same in
                    let at_one : cell p.rows i j ≡ cell p.rows k m = λ x. cell p.rows (here.0 x) (here.1 x) in
                    let one : f' ≡ h = same_Some f' h (sym e ∙ (at_one ∙ d)) in
                    absurd (apart (from ∙ (ap (λ (f : Firing). f.actor) one ∙ sym into)))
                apart_from (inr ne) =
                    let most = ok.room c l in
                    absurd (omega (
                      arith,
                      most.2,
                      low,
                      held_then p.rates p.firings p.rows ok.sound ok.valid c most.0
                          most.1 i j k m f' h e d from into (omega arith),
                    ))
        block_of h in_graph its (c, l, from, into, apart, low) (inr past) =
            let most = ok.room c l in
            let first = held_first p.rates p.firings p.rows ok.sound ok.valid c most.0 most.1 in
            let put = ok.sound.produced_rises c (f'.number + 1) (p.firings (p.rates.source c))
            (subst (λ a. f'.number + 1 ≤ p.firings a) (sym from) (omega (arith, (cells.known i j f' e).1))) in
            let taken = ok.sound.consumed_rises c (p.firings (p.rates.target c)) h.number
            (subst (λ a. p.firings a ≤ h.number) (sym into) past) in
            absurd (omega (arith, most.2, first, put, taken, ok.period.balanced c l, low))

        go : (d k m : ℕ) → IsAt p d k m g → (d < b) ⊎ (b ≤ d) → Before
        go d k m x (inl low) = of_earlier d k m x low
        go d k m x (inr high) =
            let its : later p b (later p (d - b) x.0) ≡ g = as_later d k m x high in
            let in_graph : x.0.actor < p.rates.actors = (cells.known k m x.0 x.1).0 in
            block_of (later p (d - b) x.0) in_graph its
            (room_sooner p ok b f' (later p (d - b) x.0) (subst (λ g. WaitsForRoom p (later p b f') g) (sym its)
            (subst (λ f. WaitsForRoom p f g) (sym is) room)))
            (cases_lt ((d - b) * p.firings x.0.actor + x.0.number) (p.firings x.0.actor))

  -- what holds a firing back has a lower rank
  pub earlier : (g f : Firing) (w : ℕ) → g.actor < p.rates.actors → HoldsBack p g f w → (m : ℕ) → IsRank m f →
      (k : ℕ) × IsRank k g × (k < m)
  earlier g f w known holds m (b, i, j, (f', e, is), rank) = go holds
    where
      pick : Before g f known b i j f' e is → (k : ℕ) × IsRank k g × (k < m)
      pick (k, its, low) = (k, its, omega arith)

      go : HoldsBack p g f w → (k : ℕ) × IsRank k g × (k < m)
      go (inl (_, inl waits)) = pick (sooner_before g f known b i j f' e is (for_waits g f known b i j f' e is waits))
      go (inl (_, inr ahead)) = pick (sooner_before g f known b i j f' e is (for_ahead g f known b i j f' e is ahead))
      go (inr (_, room)) = pick (for_room g f known b i j f' e is room)

  -- and where its end is waited for, it stands in an earlier row
  pub row_earlier : (g f : Firing) → g.actor < p.rates.actors → WaitsFor p.rates f g ⊎ IsAheadOf p g f →
      (b i j : ℕ) → IsAt p b i j f → (d : ℕ) × (k : ℕ) × (m : ℕ) × IsAt p d k m g × IsSooner d k b i
  row_earlier g f known (inl waits) b i j (f', e, is) = for_waits g f known b i j f' e is waits
  row_earlier g f known (inr ahead) b i j (f', e, is) = for_ahead g f known b i j f' e is ahead

  pub rank_once : (m k : ℕ) (f : Firing) → IsRank m f → IsRank k f → m ≡ k
  rank_once m k f (b, i, j, x, e) (d, y, z, x', e') =
      let same = at_once b i j d y z f x x' in
      let place_is : place p.rows i j ≡ place p.rows y z = λ u. place p.rows (same.1 u) (same.2 u) in
      let block_is : b * size ≡ d * size = ap (λ b. b * size) same.0 in
      omega arith

  -- of two ranks the lower one is of an earlier block, or of an earlier place in the block
  pub rank_parts : (d b x y : ℕ) → x < size → y < size → d * size + x < b * size + y →
      (d < b) ⊎ ((d ≡ b) × (x < y))
  rank_parts d b x y l m low = go (cases_lt d b) (cases_lt b d)
    where
      go : (d < b) ⊎ (b ≤ d) → (b < d) ⊎ (d ≤ b) → (d < b) ⊎ ((d ≡ b) × (x < y))
      go (inl less) z = inl less
      go (inr high) (inl more) = absurd (omega (arith, block_less size b y d x more m))
      go (inr high) (inr less) =
          let same : d ≡ b = omega arith in
          let block_is : d * size ≡ b * size = ap (λ b. b * size) same in
          inr (same, omega arith)
