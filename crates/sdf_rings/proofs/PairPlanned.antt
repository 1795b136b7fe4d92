-- The pair's table is a valid one.
use Rattle.std.proofs.Common.{◌≡◌, ℕ, zero, suc, ◌+◌, ◌*◌, ◌≤◌, ◌<◌, ◌↔◌, List, [], ◌∷◌, length, take, get_or, Option}
use Rattle.std.proofs.Common.{Some, None, refl, sym, ap, ◌∙◌, subst, inl, inr, arith, rules}
use Rattle.std.proofs.lemmas.Option.{none-some}
use Rattle.sdf_graph.specs.Sequences.{times, tokens, IsPeriod}
use Rattle.sdf_prec.specs.Blocks.{block}
use Rattle.sdf_prec.specs.declared.firing.Firing.{Firing}
use Rattle.sdf_prec.specs.Precedence.{WaitsFor}
use Rattle.sdf_prec.specs.Tables.{firing, firings, row, cell_of, cell, order, Stands, IsOfBlock, IsValid}
use Rattle.sdf_prec.specs.Tables.{IsGreatestHeld, IsHome, IsTable}
use Rattle.sdf_actor.specs.Steps.{Steps}
use Rattle.sdf_actor.specs.Nets.{wiring, IsNet, node, wire, from_port, to_port, inputs_of, outputs_of}
use Rattle.sdf_actor.proofs.Theorems.{nets_are_wired}
use Rattle.sdf_rings.specs.Pair.{pair, plan, first, second, PairIsPlanned}

abbrev put_firing : ℕ → Firing
put_firing i = record { actor = 0; number = i }

abbrev take_firing : ℕ → Firing
take_firing i = record { actor = 1; number = i }

same_firing : (a k : ℕ) (g : Firing) → a ≡ g.actor → k ≡ g.number → record { actor = a; number = k } ≡ g
same_firing a k g e h = λ i. record { actor = e i; number = h i }

some_is : {X : Type 0} {x y : X} → Some x ≡ Some y → x ≡ y
some_is e = search rules

-- one of the three puts
one_of_three : (rest : List Firing) (g : Firing) → 0 ≡ g.actor → (k : ℕ) → k ≡ g.number → k < 3 →
    Stands (put_firing 0 ∷ put_firing 1 ∷ put_firing 2 ∷ rest) g
one_of_three rest g e zero h l = (0, omega arith, same_firing 0 0 g e h)
one_of_three rest g e (suc zero) h l = (1, omega arith, same_firing 0 1 g e h)
one_of_three rest g e (suc (suc zero)) h l = (2, omega arith, same_firing 0 2 g e h)
one_of_three rest g e (suc (suc (suc k))) h l = absurd (omega arith)

-- the firing of a row that has one
only : (x f : Firing) → Stands (x ∷ []) f → x ≡ f
only x f (zero, l, e) = e
only x f (suc p, l, e) = absurd (omega arith)

-- each actor's column has its number
first_column : (i m : ℕ) (f : Firing) → cell_of (first i) m ≡ Some f → f.actor ≡ m
first_column i zero f e = sym (ap (λ (g : Firing). g.actor) (some_is e))
first_column i (suc zero) f e = absurd (none-some f e)
first_column i (suc (suc m)) f e = absurd (none-some f e)

second_column : (i m : ℕ) (f : Firing) → cell_of (second i) m ≡ Some f → f.actor ≡ m
second_column i zero f e = absurd (none-some f e)
second_column i (suc zero) f e = sym (ap (λ (g : Firing). g.actor) (some_is e))
second_column i (suc (suc m)) f e = absurd (none-some f e)

module _ {A S T : Type 0} (s : Steps A S T) where
  net : IsNet s (pair {A = A} {T = T})
  net = record {
    from_in = λ c l. from_in c l;
    to_in = λ c l. to_in c l;
    from_once = λ c d l m e. omega arith;
    to_once = λ c d l m e. omega arith;
    from_all = λ a p l m. from_all a p l m;
    to_all = λ a p l m. to_all a p l m;
  }
    where
      from_in : (c : ℕ) → c < 1 → ((wiring s (pair {A = A} {T = T})).rates.source c < 2)
          × ((wire (pair {A = A} {T = T}) c).from.1 < outputs_of s
          (node (pair {A = A} {T = T}) ((wiring s (pair {A = A} {T = T})).rates.source c)))
      from_in zero l = (omega arith, omega arith)
      from_in (suc c) l = absurd (omega arith)

      to_in : (c : ℕ) → c < 1 → ((wiring s (pair {A = A} {T = T})).rates.target c < 2)
          × ((wire (pair {A = A} {T = T}) c).to.1 < inputs_of s
          (node (pair {A = A} {T = T}) ((wiring s (pair {A = A} {T = T})).rates.target c)))
      to_in zero l = (omega arith, omega arith)
      to_in (suc c) l = absurd (omega arith)

      from_all : (a p : ℕ) → a < 2 → p < outputs_of s (node (pair {A = A} {T = T}) a) →
          from_port (pair {A = A} {T = T}) a p < 1
      from_all zero zero l m = omega arith
      from_all zero (suc p) l m = absurd (omega arith)
      from_all (suc zero) p l m = absurd (omega arith)
      from_all (suc (suc a)) p l m = absurd (omega arith)

      to_all : (a p : ℕ) → a < 2 → p < inputs_of s (node (pair {A = A} {T = T}) a) →
          to_port (pair {A = A} {T = T}) a p < 1
      to_all zero p l m = absurd (omega arith)
      to_all (suc zero) zero l m = omega arith
      to_all (suc zero) (suc p) l m = absurd (omega arith)
      to_all (suc (suc a)) p l m = absurd (omega arith)

  is_period : IsPeriod (wiring s (pair {A = A} {T = T})).rates (λ a. get_or (3 ∷ 2 ∷ []) a 0)
  is_period = record {
    balanced = balanced;
    produced_anew = produced_anew;
    consumed_anew = consumed_anew;
  }
    where
      balanced : (c : ℕ) → c < 1 → (wiring s (pair {A = A} {T = T})).rates.produced c
          (get_or (3 ∷ 2 ∷ []) ((wiring s (pair {A = A} {T = T})).rates.source c) 0) ≡
          (wiring s (pair {A = A} {T = T})).rates.consumed c
          (get_or (3 ∷ 2 ∷ []) ((wiring s (pair {A = A} {T = T})).rates.target c) 0)
      balanced zero l = refl
      balanced (suc c) l = absurd (omega arith)

      produced_anew : (c i : ℕ) → c < 1 → (wiring s (pair {A = A} {T = T})).rates.produced c
          (i + get_or (3 ∷ 2 ∷ []) ((wiring s (pair {A = A} {T = T})).rates.source c) 0) ≡
          (wiring s (pair {A = A} {T = T})).rates.produced c i
          + (wiring s (pair {A = A} {T = T})).rates.produced c
          (get_or (3 ∷ 2 ∷ []) ((wiring s (pair {A = A} {T = T})).rates.source c) 0)
      produced_anew zero i l = let e : 2 * (i + 3) ≡ 2 * i + 2 * 3 = omega arith in e
      produced_anew (suc c) i l = absurd (omega arith)

      consumed_anew : (c i : ℕ) → c < 1 → (wiring s (pair {A = A} {T = T})).rates.consumed c
          (i + get_or (3 ∷ 2 ∷ []) ((wiring s (pair {A = A} {T = T})).rates.target c) 0) ≡
          (wiring s (pair {A = A} {T = T})).rates.consumed c i
          + (wiring s (pair {A = A} {T = T})).rates.consumed c
          (get_or (3 ∷ 2 ∷ []) ((wiring s (pair {A = A} {T = T})).rates.target c) 0)
      consumed_anew zero i l = let e : 3 * (i + 2) ≡ 3 * i + 3 * 2 = omega arith in e
      consumed_anew (suc c) i l = absurd (omega arith)

  abbrev rows : List (List (Option Firing))
  rows = (plan s).table.rows

  abbrev n : ℕ → ℕ
  n = λ a. get_or (block 1 (3 ∷ 2 ∷ [])) a 0

  -- the place of a firing
  abbrev place : Firing → ℕ
  place f = get_or (0 ∷ 3 ∷ []) f.actor 0 + f.number

  placed : (p : ℕ) → p < 5 → place (firing (order rows) p) ≡ p
  placed zero l = refl
  placed (suc zero) l = refl
  placed (suc (suc zero)) l = refl
  placed (suc (suc (suc zero))) l = refl
  placed (suc (suc (suc (suc zero)))) l = refl
  placed (suc (suc (suc (suc (suc p))))) l = absurd (omega arith)

  known : (p : ℕ) → p < 5 → IsOfBlock (wiring s (pair {A = A} {T = T})).rates n (firing (order rows) p)
  known zero l = (omega arith, omega arith)
  known (suc zero) l = (omega arith, omega arith)
  known (suc (suc zero)) l = (omega arith, omega arith)
  known (suc (suc (suc zero))) l = (omega arith, omega arith)
  known (suc (suc (suc (suc zero)))) l = (omega arith, omega arith)
  known (suc (suc (suc (suc (suc p))))) l = absurd (omega arith)

  all : (f : Firing) (a k : ℕ) → a ≡ f.actor → k ≡ f.number → a < 2 → k < n a → Stands (order rows) f
  all f zero k e h l m = one_of_three (take_firing 0 ∷ take_firing 1 ∷ []) f e k h (omega arith)
  all f (suc zero) zero e h l m = (3, omega arith, same_firing 1 0 f e h)
  all f (suc zero) (suc zero) e h l m = (4, omega arith, same_firing 1 1 f e h)
  all f (suc zero) (suc (suc k)) e h l m = absurd (omega arith)
  all f (suc (suc a)) k e h l m = absurd (omega arith)

  -- what the puts wait for, and what the takes wait for
  put_waits : (i : ℕ) (g : Firing) → WaitsFor (wiring s (pair {A = A} {T = T})).rates (put_firing i) g →
      (0 ≡ g.actor) × (g.number + 1 ≡ i)
  put_waits i g (inl (e, h)) = (sym e, h)
  put_waits i g (inr (zero, l, t, o, w)) = absurd (omega arith)
  put_waits i g (inr (suc c, l, t, o, w)) = absurd (omega arith)

  first_take_waits : (g : Firing) → WaitsFor (wiring s (pair {A = A} {T = T})).rates (take_firing 0) g →
      (0 ≡ g.actor) × (g.number < 3)
  first_take_waits g (inl (e, h)) = absurd (omega arith)
  first_take_waits g (inr (zero, l, t, o, w)) = (o, omega arith)
  first_take_waits g (inr (suc c, l, t, o, w)) = absurd (omega arith)

  second_take_stands : (g : Firing) → WaitsFor (wiring s (pair {A = A} {T = T})).rates (take_firing 1) g →
      Stands (order (take 4 rows)) g
  second_take_stands g (inl (e, h)) = let k : 0 ≡ g.number = omega arith in
      (3, omega arith, same_firing 1 0 g (sym e) k)
  second_take_stands g (inr (zero, l, t, o, w)) = one_of_three (take_firing 0 ∷ []) g o g.number refl (omega arith)
  second_take_stands g (inr (suc c, l, t, o, w)) = absurd (omega arith)

  earlier : (i : ℕ) → i < 5 → (f g : Firing) → Stands (firings (row rows i)) f →
      WaitsFor (wiring s (pair {A = A} {T = T})).rates f g → Stands (order (take i rows)) g
  earlier zero l f g st w =
      let is = put_waits 0 g (subst (λ x. WaitsFor (wiring s (pair {A = A} {T = T})).rates x g)
      (sym (only (put_firing 0) f st)) w) in absurd (omega (arith, is.1))
  earlier (suc zero) l f g st w =
      let is = put_waits 1 g (subst (λ x. WaitsFor (wiring s (pair {A = A} {T = T})).rates x g)
      (sym (only (put_firing 1) f st)) w) in
      let k : 0 ≡ g.number = omega (arith, is.1) in (0, omega arith, same_firing 0 0 g is.0 k)
  earlier (suc (suc zero)) l f g st w =
      let is = put_waits 2 g (subst (λ x. WaitsFor (wiring s (pair {A = A} {T = T})).rates x g)
      (sym (only (put_firing 2) f st)) w) in
      let k : 1 ≡ g.number = omega (arith, is.1) in (1, omega arith, same_firing 0 1 g is.0 k)
  earlier (suc (suc (suc zero))) l f g st w =
      let is = first_take_waits g (subst (λ x. WaitsFor (wiring s (pair {A = A} {T = T})).rates x g)
      (sym (only (take_firing 0) f st)) w) in
      one_of_three [] g is.0 g.number refl is.1
  earlier (suc (suc (suc (suc zero)))) l f g st w =
      second_take_stands g (subst (λ x. WaitsFor (wiring s (pair {A = A} {T = T})).rates x g)
      (sym (only (take_firing 1) f st)) w)
  earlier (suc (suc (suc (suc (suc i))))) l f g st w = absurd (omega arith)

  valid : IsValid (wiring s (pair {A = A} {T = T})).rates n rows
  valid = record {
    known = known;
    all = λ f of. all f f.actor f.number refl refl of.0 of.1;
    once = λ p m l k e. sym (placed p l) ∙ (ap place e ∙ placed m k);
    earlier = earlier;
  }

  wide : (i : ℕ) → i < 5 → length (row rows i) ≡ 2
  wide zero l = refl
  wide (suc zero) l = refl
  wide (suc (suc zero)) l = refl
  wide (suc (suc (suc zero))) l = refl
  wide (suc (suc (suc (suc zero)))) l = refl
  wide (suc (suc (suc (suc (suc i))))) l = absurd (omega arith)

  some : (i : ℕ) → i < 5 → 0 < length (firings (row rows i))
  some zero l = omega arith
  some (suc zero) l = omega arith
  some (suc (suc zero)) l = omega arith
  some (suc (suc (suc zero))) l = omega arith
  some (suc (suc (suc (suc zero)))) l = omega arith
  some (suc (suc (suc (suc (suc i))))) l = absurd (omega arith)

  own_column : (i m : ℕ) (f : Firing) → cell rows i m ≡ Some f → f.actor ≡ m
  own_column zero m f e = first_column 0 m f e
  own_column (suc zero) m f e = first_column 1 m f e
  own_column (suc (suc zero)) m f e = first_column 2 m f e
  own_column (suc (suc (suc zero))) m f e = second_column 0 m f e
  own_column (suc (suc (suc (suc zero)))) m f e = second_column 1 m f e
  own_column (suc (suc (suc (suc (suc i))))) m f e = absurd (none-some f e)

  home_of : (a : ℕ) → a < 2 → IsHome rows a a
  home_of zero l = record {
    some = (0, put_firing 0, omega arith, refl, refl);
    all = λ i m f e h. sym (own_column i m f e) ∙ h;
  }
  home_of (suc zero) l = record {
    some = (3, take_firing 0, omega arith, refl, refl);
    all = λ i m f e h. sym (own_column i m f e) ∙ h;
  }
  home_of (suc (suc a)) l = absurd (omega arith)

  home_is : (a : ℕ) → a < 2 → get_or (plan s).table.homes a None ≡ Some a
  home_is zero l = refl
  home_is (suc zero) l = refl
  home_is (suc (suc a)) l = absurd (omega arith)

  homes_each : (a j : ℕ) → a < 2 → (get_or (plan s).table.homes a None ≡ Some j) ↔ IsHome rows a j
  homes_each a j l = (
    λ e. subst (IsHome rows a) (some_is (sym (home_is a l) ∙ e)) (home_of a l),
    λ home. home_is a l ∙ ap Some (let at = home.some in sym (at.4) ∙ own_column at.0 j at.1 at.3),
  )

  held_to : (m : ℕ) → m ≤ 5 → tokens (wiring s (pair {A = A} {T = T})).rates (times (take m (plan s).table.order)) 0 ≤ 6
  held_to zero l = omega arith
  held_to (suc zero) l = omega arith
  held_to (suc (suc zero)) l = omega arith
  held_to (suc (suc (suc zero))) l = omega arith
  held_to (suc (suc (suc (suc zero)))) l = omega arith
  held_to (suc (suc (suc (suc (suc zero))))) l = omega arith
  held_to (suc (suc (suc (suc (suc (suc m)))))) l = absurd (omega arith)

  caps_each : (c : ℕ) → c < 1 → IsGreatestHeld (wiring s (pair {A = A} {T = T})).rates (plan s).table.order c
      (get_or (6 ∷ []) c 0)
  caps_each zero l = record { above = held_to; reached = (3, omega arith, refl) }
  caps_each (suc c) l = absurd (omega arith)

  table : IsTable (wiring s (pair {A = A} {T = T})).rates n 2 (plan s).table
  table = record {
    valid = valid;
    wide = wide;
    some = some;
    exact = record {
      order_is = refl;
      homes_all = refl;
      homes_each = homes_each;
      caps_all = refl;
      caps_each = caps_each;
    };
  }

  pub pair_is_planned : PairIsPlanned s
  pair_is_planned = record {
    net = net;
    alike = record {
      actors = refl;
      channels = refl;
      source = λ c l. refl;
      target = λ c l. refl;
      initial = λ c l. refl;
      produced = λ c i l. refl;
      consumed = λ c i l. refl;
    };
    sound = (nets_are_wired s pair net).sound;
    period = is_period;
    table = table;
  }
