-- Blocks one after another.
use Rattle.std.proofs.Common.{◌≡◌, ℕ, zero, suc, ◌+◌, ◌*◌, ◌<◌, List, get_or, sym, ap, ◌∙◌, subst, arith}
use Rattle.std.proofs.Math.ListN.{get_or-map}
use Rattle.sdf_graph.specs.Rates.{Rates, IsSound}
use Rattle.sdf_graph.specs.Sequences.{IsPass, IsPeriod}
use Rattle.sdf_graph.proofs.Theorems.{capacities_repeat, periods_repeat}
use Rattle.sdf_prec.specs.Blocks.{block}
use Rattle.sdf_prec.specs.Laws.{TablesRepeat}
use Rattle.sdf_prec.proofs.Orders.{orders_are_admissible, orders_fit}

-- what grows by the same in each period grows by so many times that in so many periods
grows_by : (f : ℕ → ℕ) (p : ℕ) → ((i : ℕ) → f (i + p) ≡ f i + f p) → (i j : ℕ) → f (i + j * p) ≡ f i + j * f p
grows_by f p anew i zero = let e : i + zero * p ≡ i = omega arith in ap f e ∙ omega arith
grows_by f p anew i (suc j) =
    let more : i + suc j * p ≡ (i + j * p) + p = omega arith in
    let ih : f (i + j * p) ≡ f i + j * f p = grows_by f p anew i j in
    let next : f ((i + j * p) + p) ≡ f (i + j * p) + f p = anew (i + j * p) in
    let is : f (i + suc j * p) ≡ f ((i + j * p) + p) = ap f more in
    let all : suc j * f p ≡ j * f p + f p = omega arith in
    is ∙ (next ∙ (ap (λ n. n + f p) ih ∙ (let e : (f i + j * f p) + f p ≡ f i + (j * f p + f p) = omega arith in
    e ∙ ap (λ n. f i + n) (sym all))))

module _ (r : Rates) (sound : IsSound r) (q : List ℕ) (period : IsPeriod r (λ a. get_or q a 0)) where
  at_block : (j a : ℕ) → get_or (block j q) a 0 ≡ j * get_or q a 0
  at_block j a = let none : j * 0 ≡ 0 = omega arith in
      ap (get_or (block j q) a) (sym none) ∙ get_or-map (λ n. j * n) q a 0

  put_in : (j c i : ℕ) → c < r.channels → r.produced c (i + get_or (block j q) (r.source c) 0) ≡
      r.produced c i + j * r.produced c (get_or q (r.source c) 0)
  put_in j c i l = ap (λ n. r.produced c (i + n)) (at_block j (r.source c))
      ∙ grows_by (r.produced c) (get_or q (r.source c) 0) (λ n. period.produced_anew c n l) i j

  taken_in : (j c i : ℕ) → c < r.channels → r.consumed c (i + get_or (block j q) (r.target c) 0) ≡
      r.consumed c i + j * r.consumed c (get_or q (r.target c) 0)
  taken_in j c i l = ap (λ n. r.consumed c (i + n)) (at_block j (r.target c))
      ∙ grows_by (r.consumed c) (get_or q (r.target c) 0) (λ n. period.consumed_anew c n l) i j

  put_all : (j c : ℕ) → c < r.channels → r.produced c (get_or (block j q) (r.source c) 0) ≡
      j * r.produced c (get_or q (r.source c) 0)
  put_all j c l =
      let from : 0 + get_or (block j q) (r.source c) 0 ≡ get_or (block j q) (r.source c) 0 = omega arith in
      ap (r.produced c) (sym from) ∙ (put_in j c 0 l
      ∙ ap (λ n. n + j * r.produced c (get_or q (r.source c) 0)) (sound.produced_none c)) ∙ omega arith

  taken_all : (j c : ℕ) → c < r.channels → r.consumed c (get_or (block j q) (r.target c) 0) ≡
      j * r.consumed c (get_or q (r.target c) 0)
  taken_all j c l =
      let from : 0 + get_or (block j q) (r.target c) 0 ≡ get_or (block j q) (r.target c) 0 = omega arith in
      ap (r.consumed c) (sym from) ∙ (taken_in j c 0 l
      ∙ ap (λ n. n + j * r.consumed c (get_or q (r.target c) 0)) (sound.consumed_none c)) ∙ omega arith

  -- so many periods are a period
  pub block_is_period : (j : ℕ) → IsPeriod r (λ a. get_or (block j q) a 0)
  block_is_period j = record {
    balanced = λ c l. put_all j c l ∙ (ap (λ n. j * n) (period.balanced c l) ∙ sym (taken_all j c l));
    produced_anew = λ c i l. put_in j c i l ∙ ap (λ n. r.produced c i + n) (sym (put_all j c l));
    consumed_anew = λ c i l. taken_in j c i l ∙ ap (λ n. r.consumed c i + n) (sym (taken_all j c l));
  }

pub tables_repeat : TablesRepeat
tables_repeat r q j width t b sound period table =
    let n : ℕ → ℕ = λ a. get_or (block j q) a 0 in
    let whole : IsPeriod r n = block_is_period r sound q period j in
    let pass : IsPass r n t.order =
    subst (IsPass r n) (sym table.exact.order_is) (orders_are_admissible r n t.rows table.valid) in
    let all = periods_repeat r n t.order b sound whole pass in
    record {
      admissible = all.0;
      within = capacities_repeat r n (λ c. get_or t.caps c 0) t.order b sound whole pass
          (orders_fit r (λ c. get_or t.caps c 0) t.order table.exact.caps_each);
      counts = all.1;
    }
