-- Rings with what their channels begin with.
use Rattle.std.proofs.Common.{◌≡◌, ℕ, ◌+◌, ◌-◌, ◌%◌, ◌≤◌, ◌<◌, ◌⊎◌, inl, inr, List, [], ◌∷◌, ◌++◌, length, get_or}
use Rattle.std.proofs.Common.{Option, Some, None, sym, ap, ◌∙◌, subst, arith}
use Rattle.std.specs.Global.{Global}
use Rattle.std.proofs.Math.Nat.{mod-eq_of_lt}
use Rattle.std.proofs.lemmas.Nat.{mod_below}
use Rattle.std.proofs.lemmas.Bool.{cases_lt, cases_eq}
use Rattle.std.proofs.lemmas.List.{get_or_append_left, get_or_push}
use Rattle.std.proofs.lemmas.Option.{same_Some}
use Rattle.rtrb.specs.Ring.{producer_capacity, IsPair}
use Rattle.rtrb.specs.declared.producer.Producer.{Producer}
use Rattle.rtrb.specs.declared.consumer.Consumer.{Consumer}
use Rattle.rtrb.specs.declared.AnyItems.{AnyItems}
use Rattle.sdf_graph.specs.Rates.{Rates, GraphValue, rates, channel, rate_at, IsAlike}
use Rattle.sdf_graph.proofs.Theorems.{sums_grow}
use Rattle.sdf_actor.specs.Steps.{Steps}
use Rattle.sdf_actor.specs.Nets.{Netlist, wire, wiring}
use Rattle.sdf_rings.specs.Asks.{IsGreatestPut, IsRoomOf}
use Rattle.sdf_rings.specs.Openings.{IsOpened, IsGreatestOf, HasRing, HaveRings, HasEnds}

-- the greatest rate of a channel's source is the greatest number that a firing puts
pub greatest_is : (g : GraphValue) (t : Rates) → IsAlike (rates g) t → (c m : ℕ) → c < length g.channels →
    0 < length (channel g c).put → IsGreatestOf (channel g c).put m → IsGreatestPut t c m
greatest_is g t alike c m l some is =
    let put : List ℕ = (channel g c).put in
    let step : (k : ℕ) → t.produced c (k + 1) - t.produced c k ≡ get_or put (k % length put) 0 = λ k.
    (let a = alike.produced c (k + 1) l in let b = alike.produced c k l in let e = sums_grow (rate_at put) k in
    omega arith) in
    record {
      above = λ k. let h = is.above (k % length put) (mod_below k (length put) some) in let e = step k in omega arith;
      reached = (
        is.reached.0,
        step is.reached.0 ∙ (ap (λ i. get_or put i 0) (mod-eq_of_lt is.reached.1)
            ∙ is.reached.2),
      );
    }

-- a ring takes what the channel may hold
pub room_enough : (r : Rates) (cap : ℕ → ℕ) (c room : ℕ) → IsRoomOf r cap c room → cap c ≤ room
room_enough r cap c room is = elim (cases_eq (r.source c) (r.target c)) as (λ _. cap c ≤ room) [
  | inl own ↦ let m = is.own own in let e = m.2 in omega arith
  | inr apart ↦ let e = is.between_two apart in omega arith
]

module _ {A S T : Type 0} (s : Steps A S T) (n : Netlist A T) (cap : ℕ → ℕ) where
  pub rings_more : (i : ℕ) (ps qs : List (Option (Producer T Global AnyItems)))
      (xs ys : List (Option (Consumer T Global AnyItems))) (p : Producer T Global AnyItems)
      (x : Consumer T Global AnyItems) →
      length ps ≡ i → length xs ≡ i → ((k : ℕ) → k < i → HasRing s n cap k ps xs) → IsOpened p x (wire n i).initial →
      IsRoomOf (wiring s n).rates cap i (producer_capacity p) →
      qs ≡ ps ++ Some p ∷ [] → ys ≡ xs ++ Some x ∷ [] → (k : ℕ) → k < i + 1 → HasRing s n cap k qs ys
  rings_more i ps qs xs ys p x ps_long xs_long before opened room qs_are ys_are k h = go (cases_lt k i)
    where
      go : (k < i) ⊎ (i ≤ k) → HasRing s n cap k qs ys
      go (inl below) =
          let r = before k below in
          record {
            producer = r.producer;
            consumer = r.consumer;
            puts = ap (λ zs. get_or zs k None) qs_are ∙ (get_or_append_left ps (Some p ∷ []) None k
                (omega arith) ∙ r.puts);
            takes = ap (λ zs. get_or zs k None) ys_are ∙ (get_or_append_left xs (Some x ∷ []) None k
                (omega arith) ∙ r.takes);
            opened = r.opened;
            room = r.room;
          }
      go (inr above) =
          let at : i ≡ k = omega arith in
          subst (λ j. HasRing s n cap j qs ys) at
          (record {
            producer = p;
            consumer = x;
            puts = ap (λ zs. get_or zs i None) qs_are ∙ get_or_push ps (Some p) None i ps_long;
            takes = ap (λ zs. get_or zs i None) ys_are ∙ get_or_push xs (Some x) None i xs_long;
            opened = opened;
            room = room;
          })

  -- the ends at a node are there before any is taken out
  pub has_ends : (ps : List (Option (Producer T Global AnyItems))) (xs : List (Option (Consumer T Global AnyItems))) →
      HaveRings s n cap ps xs → (a : ℕ) → HasEnds n a ps xs
  has_ends ps xs rings a = record {
    into = λ c l e. let r = rings.each c l in (r.consumer, r.takes, r.opened.untaken);
    out_of = λ c l e. let r = rings.each c l in (r.producer, r.puts, r.opened.put);
    own = λ c p x l from to p_is x_is.
        let r = rings.each c l in
        subst (λ q. IsPair q x) (same_Some r.producer p (sym r.puts ∙ p_is))
        (subst (λ y. IsPair r.producer y) (same_Some r.consumer x (sym r.takes ∙ x_is)) r.opened.met.pair);
  }
