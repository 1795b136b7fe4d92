-- A firing keeps the numbers that are held.
use Rattle.std.proofs.Common.{◌≡◌, ℕ, ◌+◌, ◌-◌, ◌*◌, ◌^◌, ◌≤◌, ◌<◌, List, length, get_or, set, cond, eqb, refl, sym, ap}
use Rattle.std.proofs.Common.{◌∙◌, subst, inl, inr, ◌⊎◌, arith}
use Rattle.std.proofs.lemmas.List.{get_or-set_same, get_or-set_other, length-set}
use Rattle.std.proofs.lemmas.Bool.{cases_eq, eq-eqb, ne_eqb}
use Rattle.sdf_graph.specs.Rates.{rates, channel, sum_to, rate_at}
use Rattle.sdf_graph.proofs.Cycles.{sum_to_more}
use Rattle.sdf_graph.proofs.Shapes.{moved_small, rate_small}
use Rattle.sdf_graph.specs.Sequences.{IsEnabled}
use Rattle.sdf_graph.specs.Moved.{moved}
use Rattle.sdf_graph.specs.CountsValue.{CountsValue, IsKept, counts}

-- what the firings of x move once a has fired once more
advance : (f : ℕ → ℕ) (k : ℕ → ℕ) (x a : ℕ) → sum_to f (k x + cond (eqb x a) 1 0) ≡
    sum_to f (k x) + cond (eqb x a) (f (k a)) 0
advance f k x a = go (cases_eq x a)
  where
    go : (x ≡ a) ⊎ (x ≡ a → ⊥) → sum_to f (k x + cond (eqb x a) 1 0) ≡ sum_to f (k x) + cond (eqb x a) (f (k a)) 0
    go (inl e) = subst (λ a. sum_to f (k x + cond (eqb x a) 1 0) ≡ sum_to f (k x) + cond (eqb x a) (f (k a)) 0) e
        (rw (eq-eqb x x refl) (sum_to_more f (k x)))
    go (inr ne) = rw (ne_eqb x a ne) (let z : k x + 0 ≡ k x = omega arith in ap (sum_to f) z ∙ omega arith)

pub count_after : (fired : List ℕ) (a b : ℕ) → a < length fired →
    get_or (set fired a (get_or fired a 0 + 1)) b 0 ≡ get_or fired b 0 + cond (eqb b a) 1 0
count_after fired a b l = go (cases_eq b a)
  where
    go : (b ≡ a) ⊎ (b ≡ a → ⊥) → get_or (set fired a (get_or fired a 0 + 1)) b 0 ≡ get_or fired b 0 + cond (eqb b a) 1 0
    go (inl e) = subst (λ b. get_or (set fired a (get_or fired a 0 + 1)) b 0 ≡
        get_or fired b 0 + cond (eqb b a) 1 0) (sym e)
        (get_or-set_same fired a (get_or fired a 0 + 1) 0 l
        ∙ ap (λ t. get_or fired a 0 + cond t 1 0) (sym (eq-eqb a a refl)))
    go (inr ne) =
        let same : get_or (set fired a (get_or fired a 0 + 1)) b 0 ≡ get_or fired b 0 =
        get_or-set_other fired a b (get_or fired a 0 + 1) 0 ne in
        let none : get_or fired b 0 + cond (eqb b a) 1 0 ≡ get_or fired b 0 + 0 =
        ap (λ t. get_or fired b 0 + cond t 1 0) (ne_eqb b a ne) in
        omega arith

-- what the next firing of a takes from channel c, and puts on it
abbrev takes : CountsValue → ℕ → ℕ → ℕ
takes t a c = cond (eqb (channel t.graph c).to a) (rate_at (channel t.graph c).take (get_or t.fired a 0)) 0

abbrev puts : CountsValue → ℕ → ℕ → ℕ
puts t a c = cond (eqb (channel t.graph c).from a) (rate_at (channel t.graph c).put (get_or t.fired a 0)) 0

pub fire_keeps : (t : CountsValue) (kept new : List ℕ) (a : ℕ) → IsKept t kept → a < t.graph.actors →
    IsEnabled (rates t.graph) (counts t) a → counts t a + 1 < 2 ^ 32 →
    length new ≡ length kept → ((c : ℕ) → c < length kept →
    get_or new c 0 ≡ moved (channel t.graph c) a (counts t a) (get_or kept c 0)) →
    IsKept (record { graph = t.graph; fired = set t.fired a (counts t a + 1) }) new
unfolding moved
fire_keeps t kept new a k known on room e all = record {
  shape = k.shape;
  all = length-set t.fired a (counts t a + 1) ∙ k.all;
  each = e ∙ k.each;
  small = λ b. rw (after b) (small_after b (cases_eq b a));
  enough = λ c l. omega (arith, taken c, put c, held c l);
  same = λ c l.
      let here : c < length kept = omega (arith, k.each) in
      let is : get_or new c 0 ≡ get_or kept c 0 - takes t a c + puts t a c = all c here in
      omega (arith, taken c, put c, held c l, k.same c l, k.enough c l, is);
}
  where
    after : (b : ℕ) → get_or (set t.fired a (get_or t.fired a 0 + 1)) b 0 ≡ get_or t.fired b 0 + cond (eqb b a) 1 0
    after b = count_after t.fired a b (omega (arith, k.all))

    small_after : (b : ℕ) → (b ≡ a) ⊎ (b ≡ a → ⊥) → get_or t.fired b 0 + cond (eqb b a) 1 0 < 2 ^ 32
    small_after b (inl e) = subst (λ b. get_or t.fired b 0 + cond (eqb b a) 1 0 < 2 ^ 32) (sym e) (rw eq-eqb room)
    small_after b (inr ne) = rw (ne_eqb b a ne) (omega (arith, k.small b))

    -- and what all firings do then
    taken : (c : ℕ) → sum_to (rate_at (channel t.graph c).take)
        (get_or (set t.fired a (get_or t.fired a 0 + 1)) (channel t.graph c).to 0) ≡
        sum_to (rate_at (channel t.graph c).take) (get_or t.fired (channel t.graph c).to 0) + takes t a c
    taken c = ap (sum_to (rate_at (channel t.graph c).take)) (after (channel t.graph c).to)
        ∙ advance (rate_at (channel t.graph c).take) (λ b. get_or t.fired b 0) (channel t.graph c).to a

    put : (c : ℕ) → sum_to (rate_at (channel t.graph c).put)
        (get_or (set t.fired a (get_or t.fired a 0 + 1)) (channel t.graph c).from 0) ≡
        sum_to (rate_at (channel t.graph c).put) (get_or t.fired (channel t.graph c).from 0) + puts t a c
    put c = ap (sum_to (rate_at (channel t.graph c).put)) (after (channel t.graph c).from)
        ∙ advance (rate_at (channel t.graph c).put) (λ b. get_or t.fired b 0) (channel t.graph c).from a

    -- the channel holds what is taken
    held : (c : ℕ) → c < length t.graph.channels →
        sum_to (rate_at (channel t.graph c).take) (get_or t.fired (channel t.graph c).to 0) + takes t a c ≤
        (channel t.graph c).initial + sum_to (rate_at (channel t.graph c).put)
        (get_or t.fired (channel t.graph c).from 0)
    held c l = go (cases_eq (channel t.graph c).to a)
      where
        go : ((channel t.graph c).to ≡ a) ⊎ ((channel t.graph c).to ≡ a → ⊥) →
            sum_to (rate_at (channel t.graph c).take) (get_or t.fired (channel t.graph c).to 0)
            + cond (eqb (channel t.graph c).to a) (rate_at (channel t.graph c).take (get_or t.fired a 0)) 0 ≤
            (channel t.graph c).initial + sum_to (rate_at (channel t.graph c).put)
            (get_or t.fired (channel t.graph c).from 0)
        go (inl at) =
            let is : rate_at (channel t.graph c).take (get_or t.fired (channel t.graph c).to 0) ≡
            rate_at (channel t.graph c).take (get_or t.fired a 0) =
            ap (λ b. rate_at (channel t.graph c).take (get_or t.fired b 0)) at in
            rw (eq-eqb (channel t.graph c).to a at) (omega (
              arith,
              is,
              on c l at,
              sum_to_more (rate_at (channel t.graph c).take)
                  (get_or t.fired (channel t.graph c).to 0),
            ))
        go (inr other) = rw (ne_eqb (channel t.graph c).to a other) (omega (arith, k.enough c l))

-- what a channel holds is small
pub held_small : (t : CountsValue) (kept : List ℕ) (c i : ℕ) → IsKept t kept → c < length t.graph.channels →
    get_or kept c 0 + rate_at (channel t.graph c).put i < 2 ^ 64
held_small t kept c i k l =
    let s : ℕ = counts t (channel t.graph c).from in
    let put : sum_to (rate_at (channel t.graph c).put) s ≤ 1024 * s = moved_small _ _ (k.shape.put c l) s in
    omega (
      arith,
      put,
      k.small (channel t.graph c).from,
      k.same c l,
      k.shape.initial_small c l,
      rate_small _ _ (k.shape.put c l) i,
    )
