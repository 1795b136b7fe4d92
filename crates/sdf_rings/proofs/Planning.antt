-- What a plan says of the seats of its run.
use Rattle.std.proofs.Common.{◌≡◌, ℕ, ◌≤◌, ◌<◌, length, get_or, Some, None, sym, ap, ◌∙◌, subst, arith}
use Rattle.sdf_graph.specs.Sequences.{times, repeated, IsAdmissible, FitsIn}
use Rattle.sdf_prec.specs.Tables.{TableValue, row, home_in}
use Rattle.sdf_actor.specs.Steps.{Steps}
use Rattle.sdf_actor.specs.Histories.{IsWired}
use Rattle.sdf_actor.specs.Nets.{Netlist, wire, wiring}
use Rattle.sdf_rings.specs.MachineLaws.{firings, capacity}
use Rattle.sdf_rings.specs.Prepared.{IsAsked}
use Rattle.sdf_rings.proofs.Begun.{some_in, is_some}
use Rattle.sdf_rings.proofs.Plans.{IsSequence, plan_sequence, room_first}

-- a plan that is asked of a wired net
pub record AskedPlan {A S T : Type 0} (s : Steps A S T) (n : Netlist A T) (t : TableValue) (blocks : ℕ)
    (asked : ℕ → ℕ) : Type 0 where
  pub wired : IsWired (wiring s n)
  pub is : IsAsked s n t blocks asked

module _ {A S T : Type 0} {s : Steps A S T} {n : Netlist A T} {t : TableValue} {blocks : ℕ} {asked : ℕ → ℕ}
    (x : AskedPlan s n t blocks asked) where
  abbrev is : IsAsked s n t blocks asked
  is = x.is

  sequence : (b : ℕ) → IsSequence (wiring s n).rates (firings is.plan b) (capacity is.plan)
      (repeated b is.plan.table.order)
  sequence b = plan_sequence s n is.plan b is.is

  pub admissible : IsAdmissible (wiring s n).rates (repeated blocks t.order)
  admissible = subst (λ (z : TableValue). IsAdmissible (wiring s n).rates (repeated blocks z.order)) is.table_is
      (sequence blocks).admissible

  -- what the rings take is what the plan's channels may hold
  caps_are : (c : ℕ) → capacity is.plan c ≡ get_or t.caps c 0
  caps_are c = ap (λ (z : TableValue). get_or z.caps c 0) is.table_is

  pub fits : FitsIn (wiring s n).rates (λ c. get_or t.caps c 0) (repeated blocks t.order)
  fits = subst (λ (z : TableValue). FitsIn (wiring s n).rates (λ c. get_or t.caps c 0)
      (repeated blocks z.order)) is.table_is
      (λ m h c l. let r = (sequence blocks).room m h c l in let e = caps_are c in omega arith)

  pub known : (i : ℕ) → i < length (repeated blocks t.order) → get_or (repeated blocks t.order) i 0 < length n.nodes
  known i h = (admissible i h).0

  pub counts : (a : ℕ) → a < length n.nodes → times (repeated blocks t.order) a ≡ asked a
  counts a l = ap (λ (z : TableValue). times (repeated blocks z.order) a) (sym is.table_is)
      ∙ ((sequence blocks).counts a l ∙ sym (is.asked_are a l))

  -- the firings of one block
  pub order_known : (i : ℕ) → i < length t.order → get_or t.order i 0 < length n.nodes
  order_known = subst (λ (z : TableValue). (i : ℕ) → i < length z.order →
      get_or z.order i 0 < length n.nodes) is.table_is
      (λ i h. ((sequence 1).admissible i h).0)

  pub held : (c : ℕ) → c < length n.wires → length (wire n c).initial ≤ get_or t.caps c 0
  held c l = subst (λ m. length (wire n c).initial ≤ m) (caps_are c)
      (room_first (wiring s n).rates (firings is.plan 0) (capacity is.plan)
      (repeated 0 is.plan.table.order) x.wired.sound
      (sequence 0) c l)

  pub caps_all : length t.caps ≡ length n.wires
  caps_all = ap (λ (z : TableValue). length z.caps) (sym is.table_is)
      ∙ (is.is.table.exact.caps_all ∙ is.is.alike.channels)

  pub homes_all : length t.homes ≡ length n.nodes
  homes_all = ap (λ (z : TableValue). length z.homes) (sym is.table_is)
      ∙ (is.is.table.exact.homes_all ∙ is.is.alike.actors)

  pub wide : (i : ℕ) → i < length t.rows → length (row t.rows i) ≡ is.plan.width
  wide = subst (λ (z : TableValue). (i : ℕ) → i < length z.rows → length (row z.rows i) ≡ is.plan.width) is.table_is
      is.is.table.wide

  -- a home is a column
  pub home_below : (width : ℕ) → ((i : ℕ) → i < length t.rows → length (row t.rows i) ≡ width) → (a j : ℕ) →
      a < length n.nodes → home_in t a ≡ Some j → j < width
  home_below width all a j l at =
      let l' : a < is.plan.rates.actors = omega (arith, is.is.alike.actors, l) in
      let home = (is.is.table.exact.homes_each a j l').0 (ap (λ (z : TableValue). home_in z a) is.table_is ∙ at) in
      let i : ℕ = home.some.0 in
      let inside : i < length t.rows = subst (λ (z : TableValue). i < length z.rows) is.table_is home.some.2 in
      let there = ap (λ (z : TableValue). get_or (row z.rows i) j None) (sym is.table_is) ∙ home.some.3 in
      let k = some_in (row t.rows i) j (is_some (get_or (row t.rows i) j None) home.some.1 there) in
      omega (arith, k, all i inside)
