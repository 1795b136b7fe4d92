-- How many samples the ports of a side move, in a firing and in several.
use Rattle.std.proofs.Common.{◌≡◌, ℕ, zero, suc, ◌+◌, ◌*◌, ◌/◌, ◌%◌, ◌<◌, ◌≤◌, cond, ltb, eqb, refl, sym, ◌∙◌, ap}
use Rattle.std.proofs.Common.{arith, ⊎_elim}
use Rattle.std.specs.List.{sum_by, range_with_len}
use Rattle.std.proofs.lemmas.Bool.{cases_lt, lt-ltb, le-ltb, eq-eqb, ne_eqb}
use Rattle.std.proofs.lemmas.Nat.{div-add-mod', mod_below, mod-mul-add}
use Rattle.std.proofs.Math.Nat.{zero-mul, suc-mul}
use Rattle.sdf_kit.specs.Ports.{moved}
use Rattle.sdf_kit.specs.Formulas.{before, moved_in}
use Rattle.sdf_kit.specs.declared.ports.PortRates.TheVariants.{InTurn}
use Rattle.sdf_kit.proofs.Totals.{sum_suc}

-- one number more below a bound
one_more : (p c r : ℕ) → cond (ltb p c) r 0 + cond (eqb p c) r 0 ≡ cond (ltb p (suc c)) r 0
one_more p c r = ⊎_elim low (λ h. ⊎_elim (here h) high (cases_lt p (suc c))) (cases_lt p c)
  where
    low : p < c → cond (ltb p c) r 0 + cond (eqb p c) r 0 ≡ cond (ltb p (suc c)) r 0
    low h = rw (lt-ltb p c h, ne_eqb p c (λ e. absurd (omega arith)), lt-ltb p (suc c) (omega arith)) (omega arith)

    here : c ≤ p → p < suc c → cond (ltb p c) r 0 + cond (eqb p c) r 0 ≡ cond (ltb p (suc c)) r 0
    here h l = rw (le-ltb p c h, eq-eqb p c (omega arith), lt-ltb p (suc c) l) (omega arith)

    high : suc c ≤ p → cond (ltb p c) r 0 + cond (eqb p c) r 0 ≡ cond (ltb p (suc c)) r 0
    high h = rw (le-ltb p c (omega arith), ne_eqb p c (λ e. absurd (omega arith)), le-ltb p (suc c) h) (omega arith)

-- in a whole turns and c firings more, port p of w moves r samples in each turn of its own
turns : (p w r a c : ℕ) → p < w → c ≤ w → sum_by (λ i. cond (eqb p (i % w)) r 0) (range_with_len 0 (a * w + c)) ≡
    a * r + cond (ltb p c) r 0
turns p w r zero zero l few =
    let none : zero * w + zero ≡ zero = omega (arith, zero-mul w) in
    ap (λ n. sum_by (λ i. cond (eqb p (i % w)) r 0) (range_with_len 0 n)) none ∙
    rw (le-ltb p zero (omega arith)) (omega (arith, zero-mul r))
turns p w r (suc a) zero l few =
    let whole : suc a * w + zero ≡ a * w + w = omega (arith, suc-mul a w) in
    let ih : sum_by (λ i. cond (eqb p (i % w)) r 0) (range_with_len 0 (a * w + w)) ≡ a * r + cond (ltb p w) r 0 =
    turns p w r a w l (omega arith) in
    let mine : cond (ltb p w) r 0 ≡ r = rw (lt-ltb p w l) refl in
    let none : cond (ltb p zero) r 0 ≡ zero = rw (le-ltb p zero (omega arith)) refl in
    let more : suc a * r ≡ a * r + r = suc-mul a r in
    ap (λ n. sum_by (λ i. cond (eqb p (i % w)) r 0) (range_with_len 0 n)) whole ∙ omega arith
turns p w r a (suc c) l few =
    let next : a * w + suc c ≡ suc (a * w + c) = omega arith in
    let ih : sum_by (λ i. cond (eqb p (i % w)) r 0) (range_with_len 0 (a * w + c)) ≡ a * r + cond (ltb p c) r 0 =
    turns p w r a c l (omega arith) in
    let at : (a * w + c) % w ≡ c = mod-mul-add a w c (omega arith) in
    let last : cond (eqb p ((a * w + c) % w)) r 0 ≡ cond (eqb p c) r 0 = ap (λ n. cond (eqb p n) r 0) at in
    let more : sum_by (λ i. cond (eqb p (i % w)) r 0) (range_with_len 0 (suc (a * w + c))) ≡
    sum_by (λ i. cond (eqb p (i % w)) r 0) (range_with_len 0 (a * w + c)) + cond (eqb p ((a * w + c) % w)) r 0 =
    sum_suc (λ i. cond (eqb p (i % w)) r 0) (a * w + c) in
    let both : cond (ltb p c) r 0 + cond (eqb p c) r 0 ≡ cond (ltb p (suc c)) r 0 = one_more p c r in
    ap (λ n. sum_by (λ i. cond (eqb p (i % w)) r 0) (range_with_len 0 n)) next ∙ omega arith

-- before firing i, of the port whose turn it is
pub turn_moved_in : (w r i : ℕ) → 0 < w → moved_in (moved (InTurn w r)) w (i % w) i ≡ i / w * r
turn_moved_in w r i some =
    let whole : i / w * w + i % w ≡ i = div-add-mod' i w in
    let low : i % w < w = mod_below i w some in
    let all : sum_by (λ n. cond (eqb (i % w) (n % w)) r 0) (range_with_len 0 (i / w * w + i % w)) ≡
    i / w * r + cond (ltb (i % w) (i % w)) r 0 = turns (i % w) w r (i / w) (i % w) low (omega arith) in
    let none : cond (ltb (i % w) (i % w)) r 0 ≡ zero = rw (le-ltb (i % w) (i % w) (omega arith)) refl in
    ap (λ m. sum_by (λ n. cond (eqb (i % w) (n % w)) r 0) (range_with_len 0 m)) (sym whole) ∙ omega arith

eqb_turned : (m n : ℕ) → eqb m n ≡ eqb n m
eqb_turned m n = ⊎_elim (λ l. apart (λ e. absurd (omega arith)))
    (λ l. ⊎_elim (λ h. apart (λ e. absurd (omega arith))) (λ h. let e : m ≡ n = omega arith in rw e refl)
    (cases_lt n m)) (cases_lt m n)
  where
    apart : (m ≡ n → ⊥) → eqb m n ≡ eqb n m
    apart h = ne_eqb m n h ∙ sym (ne_eqb n m (λ e. h (sym e)))

-- in a firing at phase j: the ports before n
turn_below : (r j n : ℕ) → sum_by (λ p. cond (eqb p j) r 0) (range_with_len 0 n) ≡ cond (ltb j n) r 0
turn_below r j zero = rw (le-ltb j zero (omega arith)) refl
turn_below r j (suc n) =
    let more : sum_by (λ p. cond (eqb p j) r 0) (range_with_len 0 (suc n)) ≡
    sum_by (λ p. cond (eqb p j) r 0) (range_with_len 0 n) + cond (eqb n j) r 0 =
    sum_suc (λ p. cond (eqb p j) r 0) n in
    let ih : sum_by (λ p. cond (eqb p j) r 0) (range_with_len 0 n) ≡ cond (ltb j n) r 0 = turn_below r j n in
    let both : cond (ltb j n) r 0 + cond (eqb j n) r 0 ≡ cond (ltb j (suc n)) r 0 = one_more j n r in
    let turned : cond (eqb n j) r 0 ≡ cond (eqb j n) r 0 = ap (λ b. cond b r 0) (eqb_turned n j) in
    omega arith

pub turn_before : (w r j : ℕ) → before (moved (InTurn w r)) j j ≡ 0
turn_before w r j = turn_below r j j ∙ rw (le-ltb j j (omega arith)) refl

pub turn_total : (w r j : ℕ) → j < w → sum_by (λ p. cond (eqb p j) r 0) (range_with_len 0 w) ≡ r
turn_total w r j l = turn_below r j w ∙ rw (lt-ltb j w l) refl
