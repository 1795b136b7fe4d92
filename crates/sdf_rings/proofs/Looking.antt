-- A node that looked at its ends, and moves one after another.
use Rattle.std.proofs.Common.{◌≡◌, ℕ, ◌+◌, ◌<◌, ◌≤◌, List, [], ◌∷◌, ◌++◌, length, get_or, refl, ap, ◌∙◌, subst, arith}
use Rattle.std.proofs.Common.{vec_len, append-nil, length-append}
use Rattle.std.specs.Global.{Global}
use Rattle.std.specs.declared.vec.Vec.{Vec}
use mathlib.Core.List.{IsPrefix}
use Rattle.rtrb.specs.Ring.{sent, received, known_items, known_free}
use Rattle.rtrb.specs.declared.producer.Producer.{Producer}
use Rattle.rtrb.specs.declared.consumer.Consumer.{Consumer}
use Rattle.rtrb.specs.declared.AnyItems.{AnyItems}
use Rattle.sdf_actor.specs.Steps.{Steps}
use Rattle.sdf_actor.specs.Nets.{Netlist, node}
use Rattle.sdf_actor.specs.Sides.{moved_at}
use Rattle.sdf_actor.specs.declared.sides.Side.TheVariants.{Input, Output}
use Rattle.sdf_rings.specs.declared.seat.ring_node.RingNode.{RingNode}
use Rattle.sdf_rings.specs.Ends.{DrewEach, GaveEach}
use Rattle.sdf_rings.specs.RingNodes.{IsRingNode, CanFire, HasMoved}
use Rattle.sdf_rings.proofs.OwnEnds.{own_pairs_kept}
use Rattle.sdf_rings.proofs.Looks.{drew_join, gave_join, drew_none, gave_none}

pub vec_in : {X Z : Type 0} (v : Vec X Z) (i : ℕ) → i < vec_len v → i < length v.items
vec_in v i h = omega arith

vec_out : {X Z : Type 0} (v : Vec X Z) (i : ℕ) → i < length v.items → i < vec_len v
vec_out v i h = omega arith

pub items_long : {X Z : Type 0} (v w : Vec X Z) → vec_len v ≡ vec_len w → length v.items ≡ length w.items
items_long v w h = omega arith

-- a list of no samples
nil : {X : Type 0} (xs : List X) (m : ℕ) → length xs + m ≡ m → xs ≡ []
nil [] m e = refl
nil (x ∷ xs) m e = absurd (omega arith)

module _ {A S T : Type 0} {s : Steps A S T} {n : Netlist A T} where
  pub moved_none : {x : RingNode A T S} → HasMoved s n x x
  moved_none {x} = record {
    actor_kept = refl;
    asked_kept = refl;
    more = omega arith;
    ins_kept = refl;
    outs_kept = refl;
    taken = λ i. [];
    put = λ i. [];
    drew = λ i d h. drew_none (get_or x.ins.items i d);
    gave = λ i d h. gave_none (get_or x.outs.items i d);
    taken_count = λ i h. omega arith;
    put_count = λ i h. omega arith;
  }

  pub moved_join : {x y z : RingNode A T S} → HasMoved s n x y → HasMoved s n y z → HasMoved s n x z
  moved_join {x} {y} {z} p q =
      let same_node = ap (node n) p.actor_kept in
      record {
        actor_kept = q.actor_kept ∙ p.actor_kept;
        asked_kept = q.asked_kept ∙ p.asked_kept;
        more = omega (arith, p.more, q.more);
        ins_kept = q.ins_kept ∙ p.ins_kept;
        outs_kept = q.outs_kept ∙ p.outs_kept;
        taken = λ i. p.taken i ++ q.taken i;
        put = λ i. p.put i ++ q.put i;
        drew = λ i d h. drew_join (get_or x.ins.items i d) (get_or y.ins.items i d) (get_or z.ins.items i d) (p.taken i)
            (q.taken i) (p.drew i d h)
            (q.drew i d (vec_in y.ins i (let l = vec_out x.ins i h in let e = p.ins_kept in omega arith)));
        gave = λ i d h. gave_join (get_or x.outs.items i d) (get_or y.outs.items i d) (get_or z.outs.items i d)
            (p.put i) (q.put i) (p.gave i d h)
            (q.gave i d (vec_in y.outs i (let l = vec_out x.outs i h in let e = p.outs_kept in omega arith)));
        taken_count = λ i h.
            let a = p.taken_count i h in
            let b : length (q.taken i) + moved_at s Input (node n x.actor) i y.done ≡
            moved_at s Input (node n x.actor) i z.done =
            subst (λ w. length (q.taken i) + moved_at s Input w i y.done ≡ moved_at s Input w i z.done) same_node
            (q.taken_count i (let e = p.ins_kept in omega arith)) in
            omega (arith, a, b, length-append (p.taken i) (q.taken i));
        put_count = λ i h.
            let a = p.put_count i h in
            let b : length (q.put i) + moved_at s Output (node n x.actor) i y.done ≡
            moved_at s Output (node n x.actor) i z.done =
            subst (λ w. length (q.put i) + moved_at s Output w i y.done ≡ moved_at s Output w i z.done) same_node
            (q.put_count i (let e = p.outs_kept in omega arith)) in
            omega (arith, a, b, length-append (p.put i) (q.put i));
      }

  module _ (x : RingNode A T S) (ins : Vec (Consumer T Global AnyItems) Global)
      (outs : Vec (Producer T Global AnyItems) Global)
      (drew : DrewEach x.ins.items ins.items (λ _. [])) (gave : GaveEach x.outs.items outs.items (λ _. []))
      (ins_is : vec_len ins ≡ vec_len x.ins) (outs_is : vec_len outs ≡ vec_len x.outs) where
    pub looked_ring_node : {inputs : List (List T)} → IsRingNode s n inputs x →
        IsRingNode s n inputs (record x { ins = ins; outs = outs })
    looked_ring_node {inputs} st = record {
      known = st.known;
      own_pairs = own_pairs_kept n x.actor x.ins.items ins.items x.outs.items outs.items (λ _. []) (λ _. [])
          (items_long ins x.ins ins_is) (items_long outs x.outs outs_is) drew gave st.own_pairs;
      within = st.within;
      own = st.own;
      local = st.local;
      at = st.at;
      ins_all = ins_is ∙ st.ins_all;
      outs_all = outs_is ∙ st.outs_all;
      took = λ i d h. let l : i < vec_len x.ins = omega arith in
          (drew i d (vec_in x.ins i l)).received_then ∙ (append-nil (received (get_or x.ins.items i d))
          ∙ st.took i d l);
      gave = λ i d h. let l : i < vec_len x.outs = omega arith in
          (gave i d (vec_in x.outs i l)).sent_then ∙ (append-nil (sent (get_or x.outs.items i d)) ∙ st.gave i d l);
      phases = st.phases;
      takes = st.takes;
      puts = st.puts;
      taken_long = st.taken_long;
      put_long = st.put_long;
    }

    pub looked_moved : HasMoved s n x (record x { ins = ins; outs = outs })
    looked_moved = record {
      actor_kept = refl;
      asked_kept = refl;
      more = omega arith;
      ins_kept = ins_is;
      outs_kept = outs_is;
      taken = λ i. [];
      put = λ i. [];
      drew = drew;
      gave = gave;
      taken_count = λ i h. omega arith;
      put_count = λ i h. omega arith;
    }

  -- what was possible stays so while nothing fires
  pub can_kept : {x y : RingNode A T S} → HasMoved s n x y → y.done ≡ x.done → CanFire s n x → CanFire s n y
  can_kept {x} {y} m same can = record {
    holds = λ i d h.
        let l : i < vec_len x.ins = (let k = vec_out y.ins i h in let e = m.ins_kept in omega arith) in
        let o = can.holds i d (vec_in x.ins i l) in
        let none : m.taken i ≡ [] = nil (m.taken i) (moved_at s Input (node n x.actor) i x.done)
        (m.taken_count i l ∙ ap (moved_at s Input (node n x.actor) i) same) in
        let k : IsPrefix (known_items (get_or x.ins.items i d)) (known_items (get_or y.ins.items i d)) =
        subst (λ xs. IsPrefix (known_items (get_or x.ins.items i d)) (xs ++ known_items (get_or y.ins.items i d)))
        none (m.drew i d (vec_in x.ins i l)).known_then in
        let longer = ap length k.1 in
        let z = length-append (known_items (get_or x.ins.items i d)) k.0 in
        rw (m.actor_kept, same) (omega arith);
    has_room = λ i d h.
        let l : i < vec_len x.outs = (let k = vec_out y.outs i h in let e = m.outs_kept in omega arith) in
        let o = can.has_room i d (vec_in x.outs i l) in
        let none : m.put i ≡ [] = nil (m.put i) (moved_at s Output (node n x.actor) i x.done)
        (m.put_count i l ∙ ap (moved_at s Output (node n x.actor) i) same) in
        let k : known_free (get_or x.outs.items i d) ≤ known_free (get_or y.outs.items i d) + 0 =
        subst (λ xs. known_free (get_or x.outs.items i d) ≤ known_free (get_or y.outs.items i d) + length xs) none
        (m.gave i d (vec_in x.outs i l)).free_then in
        rw (m.actor_kept, same) (omega arith);
  }
