-- What a node knows of its own channels after many firings more, where it has one phase and no channel to itself.
use Rattle.std.proofs.Common.{◌≡◌, ℕ, zero, suc, ◌+◌, ◌<◌, List, [], ◌∷◌, ◌++◌, length, take, get_or, sym, ap, ◌∙◌}
use Rattle.std.proofs.Common.{subst, arith, append_assoc, append-nil, add-zero}
use Rattle.sdf_actor.specs.Steps.{Steps}
use Rattle.sdf_actor.specs.Histories.{taken_before}
use Rattle.sdf_actor.specs.Locals.{IsLocal}
use Rattle.sdf_actor.specs.Nets.{Netlist, wire, node, wiring, answers, answer_of, inputs_of, outputs_of, IsNet}
use Rattle.sdf_actor.specs.declared.sides.Side.TheVariants.{Input, Output}
use Rattle.sdf_actor.proofs.Theorems.{nets_are_wired}
use Rattle.sdf_node.specs.Many.{listed, joined}
use Rattle.sdf_queues.specs.Sizes.{sizes}
use Rattle.sdf_rings.specs.Blocks.{start_at, block_of}
use Rattle.sdf_rings.proofs.Spreads.{start_at_same, block_same}
use Rattle.sdf_rings.proofs.Knowing.{IsOneMore, one_more}
use Rattle.sdf_rings.proofs.PortBlocks.{outs_long, out_block, port_of}

-- from V to W it took the blocks t and put the blocks b in so many firings from firing k on
pub record IsManyMore {A S T : Type 0} (s : Steps A S T) (n : Netlist A T) (inputs : List (List T)) (a k : ℕ)
    (g h : ℕ → ℕ) (V W : ℕ → List T) (t b : ℕ → List T) (many : ℕ) : Type 0 where
  pub local : IsLocal (wiring s n) (answers s n inputs) a (k + many) W
  pub past : taken_before (wiring s n) W a (k + many) ≡ taken_before (wiring s n) V a k ++ listed t many
  pub out : (i : ℕ) → i < outputs_of s (node n a) →
      W (get_or ((wiring s n).outs a) i 0) ≡ V (get_or ((wiring s n).outs a) i 0)
      ++ joined (λ j. block_of h i (b j)) many
  pub into : (c : ℕ) → c < length n.wires → (wire n c).to.0 ≡ a →
      take ((wiring s n).rates.consumed c (k + many)) (W c) ≡
      take ((wiring s n).rates.consumed c k) (V c) ++ joined (λ j. block_of g (wire n c).to.1 (t j)) many

module _ {A S T : Type 0} {s : Steps A S T} {n : Netlist A T} (good : IsNet s n) {inputs : List (List T)} {a : ℕ}
    (known : a < length n.nodes)
    (apart : (c : ℕ) → c < length n.wires → (wire n c).from.0 ≡ a → (wire n c).to.0 ≡ a → ⊥)
    -- each firing moves the same
    {g h : ℕ → ℕ} (ins_same : (k p : ℕ) → p < inputs_of s (node n a) → sizes s Input (node n a) k p ≡ g p)
    (outs_same : (k p : ℕ) → p < outputs_of s (node n a) → sizes s Output (node n a) k p ≡ h p)
    {k : ℕ} {V : ℕ → List T} (local : IsLocal (wiring s n) (answers s n inputs) a k V) (t b : ℕ → List T) where
  pub many_more : (many : ℕ) → ((i : ℕ) → i < many → length (t i) ≡ start_at g (inputs_of s (node n a))) →
      ((i : ℕ) → i < many → length (b i) ≡ start_at h (outputs_of s (node n a))) →
      ((i : ℕ) → i < many → b i ≡ answer_of s inputs (node n a) (taken_before (wiring s n) V a k ++ listed t i) (t i)) →
      (W : ℕ → List T) × IsManyMore s n inputs a k g h V W t b many
  many_more zero t_long b_long answered = (
    V,
    record {
      local = subst (λ i. IsLocal (wiring s n) (answers s n inputs) a i V) (sym (add-zero k)) local;
      past = ap (taken_before (wiring s n) V a) (add-zero k) ∙ sym (append-nil (taken_before (wiring s n) V a k));
      out = λ i p. sym (append-nil (V (get_or ((wiring s n).outs a) i 0)));
      into = λ c l e. ap (λ i. take ((wiring s n).rates.consumed c i) (V c)) (add-zero k)
          ∙ sym (append-nil (take ((wiring s n).rates.consumed c k) (V c)));
    },
  )
  many_more (suc many) t_long b_long answered = next
      (many_more many (λ i l. t_long i (omega arith)) (λ i l. b_long i (omega arith)) (λ i l. answered i (omega arith)))
    where
      further : k + suc many ≡ k + many + 1
      further = omega arith

      next : ((W : ℕ → List T) × IsManyMore s n inputs a k g h V W t b many) →
          (X : ℕ → List T) × IsManyMore s n inputs a k g h V X t b (suc many)
      next (W, m) =
          let one : (X : ℕ → List T) × IsOneMore s n inputs a (k + many) W X (t many) (b many) =
          one_more good known m.local (record {
            t_long = t_long many (omega arith) ∙ start_at_same g (sizes s Input (node n a) (k + many))
                (inputs_of s (node n a)) (λ p l. sym (ins_same (k + many) p l));
            b_long = b_long many (omega arith) ∙ start_at_same h (sizes s Output (node n a) (k + many))
                (outputs_of s (node n a)) (λ p l. sym (outs_same (k + many) p l));
            answered = answered many (omega arith)
                ∙ ap (λ past. answer_of s inputs (node n a) past (t many)) (sym m.past);
            own = λ c l f e. absurd (apart c l f e);
          }) in (
            one.0,
            record {
              local = subst (λ i. IsLocal (wiring s n) (answers s n inputs) a i one.0) (sym further) one.1.local;
              past =
                  ap (taken_before (wiring s n) one.0 a) further
                  ∙ (one.1.past ∙ (ap (λ past. past ++ t many ∷ []) m.past ∙
                  append_assoc (taken_before (wiring s n) V a k) (listed t many) (t many ∷ [])));
              out = λ i p.
                  let c : ℕ = get_or ((wiring s n).outs a) i 0 in
                  let q : i < length ((wiring s n).outs a) =
                  omega (arith, outs_long good known) in
                  let is = (nets_are_wired s n good).outs_are a i known q in
                  one.1.out c is.1 ∙
                  ((λ j. m.out i p j ++ (out_block good known (k + many) i (b many) p ∙
                  block_same (sizes s Output (node n a) (k + many)) h i (b many)
                  (λ r l. outs_same (k + many) r (omega arith))) j) ∙
                  append_assoc (V c) (joined (λ j. block_of h i (b j)) many) (block_of h i (b many)));
              into = λ c l e.
                  let port = port_of good known c l e in
                  let was : List T = take ((wiring s n).rates.consumed c k) (V c) in
                  ap (λ i. take ((wiring s n).rates.consumed c i) (one.0 c)) further ∙ (one.1.into c l e ∙
                  ((λ j. m.into c l e j ++ block_same (sizes s Input (node n a) (k + many)) g (wire n c).to.1 (t many)
                  (λ r q. ins_same (k + many) r (omega arith)) j) ∙
                  append_assoc was (joined (λ j. block_of g (wire n c).to.1 (t j)) many)
                  (block_of g (wire n c).to.1 (t many))));
            },
          )
