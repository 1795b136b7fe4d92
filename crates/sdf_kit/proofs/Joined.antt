-- With one port on each side the blocks, joined, are the list at the port.
use Rattle.std.proofs.Common.{◌≡◌, ℕ, suc, ◌+◌, ◌*◌, ◌/◌, ◌%◌, ◌<◌, ℤ, pos, List, [], ◌∷◌, length, take, drop, get_or}
use Rattle.std.proofs.Common.{refl, sym, ◌∙◌, ap, subst, arith}
use Rattle.std.specs.List.{flat_map, range_with_len, sum_by}
use Rattle.std.proofs.lemmas.List.{take_all}
use Rattle.std.proofs.lemmas.List.FromFn.{fill_by_all, length-map-range_with_len, get_or-map-range_with_len}
use Rattle.std.proofs.lemmas.Nat.{mod_below}
use Rattle.sdf_kit.specs.Samples.{saturated, sample, upsampled}
use Rattle.sdf_kit.specs.Ports.{ArePorts}
use Rattle.sdf_kit.specs.Fir.{filtered}
use Rattle.sdf_kit.specs.Gain.{scaled}
use Rattle.sdf_kit.specs.Table.{looked_up}
use Rattle.sdf_kit.specs.Clip.{clipped}
use Rattle.sdf_kit.specs.Offset.{raised}
use Rattle.sdf_kit.specs.Kit.{behaviour, kit_steps}
use Rattle.sdf_kit.specs.Formulas.{at_port, moved_in, joined, formula_list, PutsItsFormulaJoined}
use Rattle.sdf_kit.specs.declared.kit.Kit.{Kit}
use Rattle.sdf_kit.specs.declared.kit.Kit.TheVariants.{Fir, Decimate, Interpolate, Add, Fork, Gain, Delay, Table, Deal}
use Rattle.sdf_kit.specs.declared.kit.Kit.TheVariants.{Gather, Clip, Offset}
use Rattle.sdf_kit.proofs.Sums.{sum_below_same}
use Rattle.sdf_kit.proofs.Fired.{length-blocks_put, get_or-blocks_put}
use Rattle.sdf_kit.proofs.Formulas.{taken, blocks, put_long, puts_its_formula}

-- pieces that are the blocks
pieces : {T : Type 0} (f : ℕ → List T) (a : ℕ) (bs : List (List T)) →
    ((i n : ℕ) → i < length bs → a + i ≡ n → f n ≡ get_or bs i []) →
    flat_map f (range_with_len a (length bs)) ≡ joined bs
pieces f a [] each = refl
pieces f a (b ∷ bs) each =
    let here : f a ≡ b = each 0 a (omega arith) (omega arith) in
    let rest : flat_map f (range_with_len (a + 1) (length bs)) ≡ joined bs =
    pieces f (a + 1) bs (λ i n l e. each (suc i) n (omega arith) (omega arith)) in
    cc

-- the only port of a side has all of each block
only_port : {T : Type 0} (rate : ℕ → ℕ → ℕ) (cycle : ℕ) (bs : List (List T)) →
    ((i : ℕ) → i < length bs → length (get_or bs i []) ≡ rate 0 (i % cycle)) → at_port rate cycle 0 bs ≡ joined bs
only_port rate cycle bs size =
    pieces (λ i. take (rate 0 (i % cycle)) (drop 0 (get_or bs i []))) 0 bs
    (λ i n l e.
    let same : i ≡ n = omega arith in
    subst (λ n. take (rate 0 (n % cycle)) (drop 0 (get_or bs n [])) ≡ get_or bs i []) same
    (take_all (rate 0 (i % cycle)) (get_or bs i []) (omega (arith, size i l))))

-- a formula reads no lists but those of the input ports
reads : (k : Kit) → ArePorts (behaviour k).ports → (x y : ℕ → List ℤ) → ((q : ℕ) → q < kit_steps.inputs k → x q ≡ y q) →
    (p n : ℕ) → (behaviour k).formula x p n ≡ (behaviour k).formula y p n
reads (Fir f) are x y same p n = ap (λ z. filtered f z n) (same 0 (omega arith))
reads (Decimate m) are x y same p n = ap (λ z. sample z (n * m)) (same 0 (omega arith))
reads (Interpolate u) are x y same p n = ap (λ z. upsampled u z n) (same 0 (omega arith))
reads (Add w) are x y same p n = ap saturated (sum_below_same w (λ q. sample (x q) n) (λ q. sample (y q) n)
    (λ q l. ap (λ z. sample z n) (same q l)))
reads (Fork w) are x y same p n = ap (λ z. sample z n) (same 0 (omega arith))
reads (Gain g) are x y same p n = ap (λ z. scaled g (sample z n)) (same 0 (omega arith))
reads (Delay d) are x y same p n = ap (λ z. (behaviour (Delay d)).formula (λ q. z) p n) (same 0 (omega arith))
reads (Table t) are x y same p n = ap (λ z. looked_up t (sample z n)) (same 0 (omega arith))
reads (Clip c) are x y same p n = ap (λ z. clipped c (sample z n)) (same 0 (omega arith))
reads (Offset v) are x y same p n = ap (λ z. raised v (sample z n)) (same 0 (omega arith))
reads (Deal t) are x y same p n = ap (λ z. (behaviour (Deal t)).formula (λ q. z) p n) (same 0 (omega arith))
reads (Gather t) are x y same p n =
    ap (λ z. sample z (n / (t.ways * t.run) * t.run + n % t.run))
    (same (n / t.run % t.ways) (mod_below (n / t.run) t.ways are.cycle))

same_lists_put : (k : Kit) → ArePorts (behaviour k).ports → (x y : ℕ → List ℤ) →
    ((q : ℕ) → q < kit_steps.inputs k → x q ≡ y q) → (p m : ℕ) → formula_list k x p m ≡ formula_list k y p m
same_lists_put k are x y same p m =
    let n : ℕ = moved_in (kit_steps.put k) (kit_steps.cycle k) p m in
    fill_by_all ((behaviour k).formula y p) (formula_list k x p m) n (pos 0)
    (length-map-range_with_len ((behaviour k).formula x p) 0 n)
    (λ i l. get_or-map-range_with_len ((behaviour k).formula x p) 0 n i i (pos 0) l (omega arith)
    ∙ reads k are x y same p i)

-- one port moves all that is moved
alone : (rate : ℕ → ℕ) (n : ℕ) → n ≡ 1 → sum_by rate (range_with_len 0 n) ≡ rate 0
alone rate n e = ap (λ n. sum_by rate (range_with_len 0 n)) e ∙ omega arith

pub puts_its_formula_joined : PutsItsFormulaJoined
puts_its_formula_joined k are in_one out_one bs each =
    sym (only_port (kit_steps.put k) (kit_steps.cycle k) (blocks k bs) put_size) ∙
    (puts_its_formula k are bs each 0 (omega arith)
    ∙ same_lists_put k are (taken k bs) (λ q. joined bs) all_taken 0 (length bs))
  where
    as_many : length (blocks k bs) ≡ length bs
    as_many = length-blocks_put kit_steps k 0 (kit_steps.start k) bs

    put_size : (i : ℕ) → i < length (blocks k bs) →
        length (get_or (blocks k bs) i []) ≡ kit_steps.put k 0 (i % kit_steps.cycle k)
    put_size i l =
        let h : i < length bs = omega (arith, as_many) in
        ap length (get_or-blocks_put kit_steps k (kit_steps.start k) bs i h)
        ∙ (put_long k bs i each h ∙ alone (λ p. kit_steps.put k p (i % kit_steps.cycle k))
        (kit_steps.outputs k) out_one)

    first : taken k bs 0 ≡ joined bs
    first = only_port (kit_steps.take k) (kit_steps.cycle k) bs
        (λ i l. each i l ∙ alone (λ p. kit_steps.take k p (i % kit_steps.cycle k)) (kit_steps.inputs k) in_one)

    all_taken : (q : ℕ) → q < kit_steps.inputs k → taken k bs q ≡ joined bs
    all_taken q l = let e : q ≡ 0 = omega arith in ap (taken k bs) e ∙ first
