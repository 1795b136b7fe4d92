-- What a node knows of its own channels after one firing more.
use Rattle.std.proofs.Common.{◌≡◌, ℕ, zero, suc, ◌+◌, ◌-◌, ◌≤◌, ◌<◌, List, [], ◌∷◌, ◌++◌, length, take, drop, cond, eqb}
use Rattle.std.proofs.Common.{refl, sym, ap, ◌∙◌, arith, add-one, inl, inr, ◌⊎◌}
use Rattle.std.specs.List.{between, range_with_len}
use Rattle.std.proofs.lemmas.List.{drop_at, take_at, length-append, length-take-le, length_push, append_assoc}
use Rattle.std.proofs.lemmas.List.{append-nil}
use Rattle.std.proofs.lemmas.List.Edits.{length-between}
use Rattle.std.proofs.lemmas.Slice.{between_is}
use Rattle.std.proofs.lemmas.List.Folds.{flat_map-map}
use Rattle.std.proofs.lemmas.Bool.{cases_eq, cond-true, cond-false, eq-eqb, ne_eqb}
use mathlib.Core.List.{IsPrefix}
use Rattle.sdf_actor.specs.Steps.{Steps}
use Rattle.sdf_actor.specs.Histories.{Wiring, IsWired, taken, taken_before, spread}
use Rattle.sdf_actor.specs.Locals.{IsLocal}
use Rattle.sdf_actor.specs.Nets.{Netlist, wire, node, wiring, answers, answer_of, inputs_of, outputs_of, to_port, IsNet}
use Rattle.sdf_actor.specs.declared.sides.Side.TheVariants.{Input, Output}
use Rattle.sdf_actor.proofs.Theorems.{locals_grow, nets_are_wired, ports_have_channels, taken_stays}
use Rattle.sdf_rings.specs.Blocks.{start_at, block_of}
use Rattle.sdf_queues.specs.Sizes.{sizes}
use Rattle.sdf_rings.proofs.Blocks.{block_in}
use Rattle.sdf_rings.proofs.Spreads.{blocks_joined}
use Rattle.sdf_rings.proofs.PortBlocks.{size_at, port_of, consumed_is, all_out}

-- one block a firing
pub length_taken_before : {A : Type 0} (f : Wiring A) (V : ℕ → List A) (a i : ℕ) → length (taken_before f V a i) ≡ i
length_taken_before f V a zero = refl
length_taken_before f V a (suc i) = length_push (taken_before f V a i) (taken f V a i)
    ∙ (ap (λ n. n + 1) (length_taken_before f V a i) ∙ add-one i)

-- from V to W it took t and put b, the blocks of its firing k
pub record IsOneMore {A S T : Type 0} (s : Steps A S T) (n : Netlist A T) (inputs : List (List T)) (a k : ℕ)
    (V W : ℕ → List T) (t b : List T) : Type 0 where
  pub local : IsLocal (wiring s n) (answers s n inputs) a (k + 1) W
  pub past : taken_before (wiring s n) W a (k + 1) ≡ taken_before (wiring s n) V a k ++ t ∷ []
  pub out : (c : ℕ) → (wire n c).from.0 ≡ a → W c ≡ V c ++ spread (size_at (wiring s n) k) ((wiring s n).outs a) b c
  pub into : (c : ℕ) → c < length n.wires → (wire n c).to.0 ≡ a → take ((wiring s n).rates.consumed c (k + 1)) (W c) ≡
      take ((wiring s n).rates.consumed c k) (V c) ++ block_of (sizes s Input (node n a) k) (wire n c).to.1 t

-- t and b are as long as the blocks of node a's firing k, and b is its answer to t
pub record AreBlocks {A S T : Type 0} (s : Steps A S T) (n : Netlist A T) (inputs : List (List T)) (a k : ℕ)
    (V : ℕ → List T) (t b : List T) : Type 0 where
  pub t_long : length t ≡ start_at (sizes s Input (node n a) k) (inputs_of s (node n a))
  pub b_long : length b ≡ start_at (sizes s Output (node n a) k) (outputs_of s (node n a))
  pub answered : b ≡ answer_of s inputs (node n a) (taken_before (wiring s n) V a k) t
  -- what it takes of a channel to itself it had put there
  pub own : (c : ℕ) → c < length n.wires → (wire n c).from.0 ≡ a → (wire n c).to.0 ≡ a →
      IsPrefix (take ((wiring s n).rates.consumed c k) (V c)
      ++ block_of (sizes s Input (node n a) k) (wire n c).to.1 t) (V c)

module _ {A S T : Type 0} {s : Steps A S T} {n : Netlist A T} (good : IsNet s n) {inputs : List (List T)} {a k : ℕ}
    (known : a < length n.nodes) {V : ℕ → List T} (local : IsLocal (wiring s n) (answers s n inputs) a k V)
    {t b : List T} (blocks : AreBlocks s n inputs a k V t b) where
  open blocks use {t_long, b_long, answered, own}

  abbrev f : Wiring T
  f = wiring s n

  wired : IsWired f
  wired = nets_are_wired s n good

  abbrev g : ℕ → ℕ
  g = sizes s Input (node n a) k

  -- what was taken of a channel before, and what its block is now
  abbrev old : ℕ → List T
  old c = take (f.rates.consumed c k) (V c)

  abbrev now : ℕ → List T
  now c = block_of g (wire n c).to.1 t

  abbrev W : ℕ → List T
  W c = cond (eqb (f.rates.source c) a) (V c ++ spread (size_at f k) (f.outs a) b c) (old c ++ now c)

  W_out : (c : ℕ) → f.rates.source c ≡ a → W c ≡ V c ++ spread (size_at f k) (f.outs a) b c
  W_out c e = cond-true _ _ _ (eq-eqb (f.rates.source c) a e)

  old_long : (c : ℕ) → c < length n.wires → f.rates.target c ≡ a → length (old c) ≡ f.rates.consumed c k
  old_long c l e = length-take-le (f.rates.consumed c k) (V c) (local.got c l e)

  rise_in : (c : ℕ) → f.rates.consumed c k ≤ f.rates.consumed c (k + 1)
  rise_in c = wired.sound.consumed_rises c k (k + 1) (omega arith)

  block_long : (p : ℕ) → p < inputs_of s (node n a) → length (block_of g p t) ≡ g p
  block_long p h =
      let inside = block_in g p (inputs_of s (node n a)) h in
      let long = length-between t (start_at g p) (start_at g p + g p) (omega arith) in
      omega arith

  now_long : (c : ℕ) → c < length n.wires → f.rates.target c ≡ a →
      length (now c) ≡ f.rates.consumed c (k + 1) - f.rates.consumed c k
  now_long c l e =
      let p : ℕ = (wire n c).to.1 in
      let h = port_of good known c l e in
      let before = consumed_is good known c k e in
      let after = consumed_is good known c (k + 1) e in
      omega (arith, block_long p h)

  all_long : (c : ℕ) → c < length n.wires → f.rates.target c ≡ a →
      length (old c ++ now c) ≡ f.rates.consumed c (k + 1)
  all_long c l e =
      let long = old_long c l e in
      let part = now_long c l e in
      let rise = rise_in c in
      length-append (old c) (now c) ∙ omega arith

  -- a channel into it begins with what was taken
  W_begins : (c : ℕ) → c < length n.wires → f.rates.target c ≡ a → IsPrefix (old c ++ now c) (W c)
  W_begins c l into = go (cases_eq (f.rates.source c) a)
    where
      go : (f.rates.source c ≡ a) ⊎ (f.rates.source c ≡ a → ⊥) → IsPrefix (old c ++ now c) (W c)
      go (inl e) =
          let more : List T = spread (size_at f k) (f.outs a) b c in
          let begins = own c l e into in (
            begins.0 ++ more,
            sym (append_assoc (old c ++ now c) begins.0 more) ∙ (ap (λ xs. xs ++ more) begins.1 ∙ sym (W_out c e)),
          )
      go (inr ne) = (
        [],
        append-nil (old c ++ now c) ∙ sym (cond-false _ _ _ (ne_eqb (f.rates.source c) a ne)),
      )

  W_in : (c : ℕ) → c < length n.wires → f.rates.target c ≡ a →
      take (f.rates.consumed c (k + 1)) (W c) ≡ old c ++ now c
  W_in c l e =
      let begins = W_begins c l e in
      ap (take (f.rates.consumed c (k + 1))) (sym begins.1)
      ∙ take_at (old c ++ now c) begins.0 (f.rates.consumed c (k + 1)) (all_long c l e)

  W_long : (c : ℕ) → c < length n.wires → f.rates.target c ≡ a → f.rates.consumed c (k + 1) ≤ length (W c)
  W_long c l e =
      let begins = W_begins c l e in
      let all : length (old c ++ now c) + length begins.0 ≡ length (W c) =
      sym (length-append (old c ++ now c) begins.0) ∙ ap length begins.1 in
      omega (arith, all_long c l e)

  kept : (c : ℕ) → c < length n.wires → f.rates.target c ≡ a →
      take (f.rates.consumed c k) (V c) ≡ take (f.rates.consumed c k) (W c)
  kept c l e =
      let j : ℕ = f.rates.consumed c k in
      let more : List T = (W_begins c l e).0 in
      sym (ap (take j) (sym (W_begins c l e).1) ∙ (ap (take j) (append_assoc (old c) (now c) more)
      ∙ take_at (old c) (now c ++ more) j (old_long c l e)))

  now_t : taken f W a k ≡ t
  now_t =
      let part : ℕ → List T = λ c. between (f.rates.consumed c k) (f.rates.consumed c (k + 1)) (W c) in
      flat_map-map part (to_port n a) (range_with_len 0 (inputs_of s (node n a))) ∙
      blocks_joined (λ p. part (to_port n a p)) g t (inputs_of s (node n a)) (λ p h.
      let c : ℕ = to_port n a p in
      let l = good.to_all a p known h in
      let is = (ports_have_channels s n a p good known).0 h in
      let j : ℕ = f.rates.consumed c k in
      let m : ℕ = f.rates.consumed c (k + 1) in
      between_is (W c) j m ∙ (ap (drop j) (W_in c l is.0)
      ∙ (drop_at (old c) (now c) j (old_long c l is.0) ∙ ap (λ q. block_of g q t) is.1)))
      t_long

  -- what it has taken, and nothing else
  abbrev front : ℕ → List T
  front c = cond (eqb (f.rates.target c) a) (old c) []

  front_is : (c : ℕ) → f.rates.target c ≡ a → front c ≡ old c
  front_is c e = cond-true _ _ _ (eq-eqb (f.rates.target c) a e)

  begins : (X : ℕ → List T) → ((c : ℕ) → c < length n.wires → f.rates.target c ≡ a →
      old c ≡ take (f.rates.consumed c k) (X c)) →
      (c : ℕ) → c < length n.wires → front c ≡ take (length (front c)) (X c)
  begins X same c l = go (cases_eq (f.rates.target c) a)
    where
      go : (f.rates.target c ≡ a) ⊎ (f.rates.target c ≡ a → ⊥) → front c ≡ take (length (front c)) (X c)
      go (inl e) = front_is c e ∙ (same c l e ∙ ap (λ m. take m (X c))
          (sym (ap length (front_is c e) ∙ old_long c l e)))
      go (inr ne) =
          let none : front c ≡ [] = cond-false _ _ _ (ne_eqb (f.rates.target c) a ne) in
          none ∙ ap (λ ys. take (length ys) (X c)) (sym none)

  enough : (c : ℕ) → c < length n.wires → f.rates.target c ≡ a → f.rates.consumed c k ≤ length (front c)
  enough c l e = let long : length (front c) ≡ f.rates.consumed c k =
      ap length (front_is c e) ∙ old_long c l e in omega arith

  past_same : taken_before f V a k ≡ taken_before f W a k
  past_same =
      sym (taken_stays s n front V a k good known enough (begins V (λ c l e. refl))) ∙
      taken_stays s n front W a k good known enough (begins W kept)

  grown : IsLocal f (answers s n inputs) a (k + 1) W
  grown = locals_grow s n inputs a k V W b good known local (record {
    kept = kept;
    more = W_long;
    given = λ c l e. W_out c e;
    answers_it = answered ∙ (ap (λ p. answer_of s inputs (node n a) p t) past_same
        ∙ ap (λ u. answer_of s inputs (node n a) (taken_before f W a k) u) (sym now_t));
    long = b_long ∙ all_out good known k;
  })

  past_is : taken_before f W a (k + 1) ≡ taken_before f V a k ++ t ∷ []
  past_is =
      ap (taken_before f W a) (add-one k) ∙ (ap (λ p. p ++ taken f W a k ∷ []) (sym past_same)
      ∙ ap (λ u. taken_before f V a k ++ u ∷ []) now_t)

  pub one_more : (W : ℕ → List T) × IsOneMore s n inputs a k V W t b
  one_more = (W, record { local = grown; past = past_is; out = W_out; into = W_in })
