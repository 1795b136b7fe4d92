-- The kinds: what many firings leave and put.
use Rattle.std.proofs.Common.{◌≡◌, ℕ, zero, suc, ◌+◌, ◌*◌, ◌/◌, ◌≤◌, ◌<◌, List, [], ◌∷◌, ◌++◌, length, map, replicate}
use Rattle.std.proofs.Common.{take, drop, ℤ, pos, refl, sym, ◌∙◌, ap, subst, arith}
use Rattle.std.specs.List.{range_with_len}
use Rattle.std.proofs.lemmas.Nat.{div_below, div-mul-add, mod_below}
use Rattle.std.proofs.lemmas.List.{length-append, length-drop, append_assoc, append-nil, map-append, drop-drop}
use Rattle.std.proofs.lemmas.List.{take-append-le, drop-append-le, get_or-drop, get_or_append_left, get_or-append-add}
use Rattle.std.proofs.lemmas.List.FromFn.{length-map-range_with_len, get_or-map-range_with_len}
use Rattle.std.proofs.Math.Nat.{zero-mul, suc-mul, mul-le-mul_right}
use Rattle.std.proofs.Math.Seq.{take-add}
use Rattle.sdf_actor.specs.Steps.{phase, total_in, total_out, sum_in, sum_out, state_at, puts_to}
use Rattle.sdf_kit.specs.Samples.{sample, saturated, sum_below, upsampled}
use Rattle.sdf_kit.specs.Add.{sum_at}
use Rattle.sdf_kit.specs.PutsFit.{sum_ones}
use Rattle.sdf_kit.specs.Kept.{kept_next}
use Rattle.sdf_kit.specs.Fir.{Filter, kept_len, block_put, run_put}
use Rattle.sdf_kit.specs.Gain.{Scale, scaled}
use Rattle.sdf_kit.specs.Table.{Lookup, looked_up}
use Rattle.sdf_kit.specs.Clip.{Limits, clipped}
use Rattle.sdf_kit.specs.Offset.{raised}
use Rattle.sdf_kit.specs.Turns.{Turns}
use Rattle.sdf_kit.specs.Ports.{ArePorts}
use Rattle.sdf_kit.specs.declared.ports.Ports.{Ports}
use Rattle.sdf_kit.specs.Kit.{behaviour, kit_steps}
use Rattle.sdf_kit.specs.declared.kit.Kit.{Kit}
use Rattle.sdf_kit.specs.declared.kit.Kit.TheVariants.{Fir, Decimate, Interpolate, Add, Fork, Gain, Delay, Table, Deal}
use Rattle.sdf_kit.specs.declared.kit.Kit.TheVariants.{Gather, Clip, Offset}
use Rattle.sdf_kit.proofs.TurnTotals.{turn_total}
use Rattle.sdf_kit.proofs.Dealt.{dealt_is, gathered_is}
use Rattle.sdf_kit.proofs.Upsampled.{upsampled_moved}
use Rattle.sdf_kit.proofs.Blocks.{IsDone, done_begins, output, output_is}
use Rattle.sdf_kit.proofs.Sums.{sum_below_same}
use Rattle.sdf_kit.proofs.Runs.{IsRun, seam, same_sums, run_state, run_puts}

-- each sample by itself
map_more : (f : ℤ → ℤ) (xs b : List ℤ) → length b ≡ 1 → map f xs ++ (f (sample b 0) ∷ []) ≡ map f (xs ++ b)
map_more f xs [] l = absurd (omega arith)
map_more f xs (y ∷ []) l = sym (map-append f xs (y ∷ []))
map_more f xs (y ∷ z ∷ b) l = absurd (omega arith)

mapped_run : (k : Kit) (f : ℤ → ℤ) (kept : List ℤ) → ((n : ℕ) → total_in kit_steps k n ≡ 1) →
    ((n : ℕ) (b : List ℤ) → kit_steps.next k n kept b ≡ kept) →
    ((n : ℕ) (b : List ℤ) → kit_steps.puts k n kept b ≡ f (sample b 0) ∷ []) →
    IsRun kit_steps k 1 kept (λ _. kept) (λ _ xs. map f xs)
mapped_run k f kept rate next puts = record {
  rate = λ n. rate (phase kit_steps k n);
  begins = refl;
  none = refl;
  next = λ n _ _ b _ _. next (phase kit_steps k n) b;
  more = λ n _ xs b _ one. ap (λ put. map f xs ++ put) (puts (phase kit_steps k n) b) ∙ map_more f xs b one;
}

pub gain_run : (g : Scale) (kept : List ℤ) → IsRun kit_steps (Gain g) 1 kept (λ _. kept) (λ _ xs. map (scaled g) xs)
gain_run g kept = mapped_run (Gain g) (scaled g) kept (λ _. refl) (λ _ _. refl) (λ _ _. refl)

pub table_run : (t : Lookup) (kept : List ℤ) → IsRun kit_steps (Table t) 1 kept (λ _. kept)
    (λ _ xs. map (looked_up t) xs)
table_run t kept = mapped_run (Table t) (looked_up t) kept (λ _. refl) (λ _ _. refl) (λ _ _. refl)

pub clip_run : (c : Limits) (kept : List ℤ) → IsRun kit_steps (Clip c) 1 kept (λ _. kept) (λ _ xs. map (clipped c) xs)
clip_run c kept = mapped_run (Clip c) (clipped c) kept (λ _. refl) (λ _ _. refl) (λ _ _. refl)

pub offset_run : (value : ℤ) (kept : List ℤ) → IsRun kit_steps (Offset value) 1 kept (λ _. kept)
    (λ _ xs. map (raised value) xs)
offset_run value kept = mapped_run (Offset value) (raised value) kept (λ _. refl) (λ _ _. refl) (λ _ _. refl)

decimate_run : (m : ℕ) (kept : List ℤ) → 1 ≤ m →
    IsRun kit_steps (Decimate m) m kept (λ _. kept) (λ i xs. map (λ n. sample xs (n * m)) (range_with_len 0 i))
decimate_run m kept some = record {
  rate = λ _. omega arith;
  begins = refl;
  none = refl;
  next = λ _ _ _ _ _ _. refl;
  more = λ _ i xs b long one.
      seam (λ n. sample xs (n * m)) (λ n. sample (xs ++ b) (n * m)) (λ _. sample b 0) i 1 (suc i) (omega arith)
      (λ n l. sym (get_or_append_left xs b (pos 0) (n * m) (omega (arith, long, suc-mul n m, mul-le-mul_right m l))))
      (λ q l.
      let here : i + q ≡ i = omega arith in
      let place : (i + q) * m ≡ length xs + 0 = omega (arith, long, ap (λ n. n * m) here) in
      sym (ap (sample (xs ++ b)) place ∙ get_or-append-add xs b 0 (pos 0)));
}

interpolate_run : (up : ℕ) (kept : List ℤ) → 1 ≤ up →
    IsRun kit_steps (Interpolate up) 1 kept (λ _. kept) (λ i xs. map (upsampled up xs) (range_with_len 0 (i * up)))
interpolate_run up kept some = record {
  rate = λ _. refl;
  begins = refl;
  none = ap (λ n. map (upsampled up []) (range_with_len 0 n)) (zero-mul up);
  next = λ _ _ _ _ _ _. refl;
  more = λ _ i xs b long one.
      seam (upsampled up xs) (upsampled up (xs ++ b)) (upsampled up b) (i * up) up (suc i * up) (suc-mul i up)
      (λ n l.
      let same : n / up ≡ n / up + 0 = omega arith in
      upsampled_moved xs (xs ++ b) up 0 n n some (omega (arith, zero-mul up))
      (sym (get_or_append_left xs b (pos 0) (n / up) (omega (arith, long, div_below n up i some l)))
      ∙ ap (sample (xs ++ b)) same))
      (λ q l.
      let place : length xs + q / up ≡ q / up + i = omega (arith, long) in
      upsampled_moved b (xs ++ b) up i q (i * up + q) some (omega arith)
      (sym (get_or-append-add xs b (q / up) (pos 0)) ∙ ap (sample (xs ++ b)) place));
}

-- sums of a part of the samples, firing by firing
pub add_run : (ways : ℕ) (kept : List ℤ) → IsRun kit_steps (Add ways) ways kept (λ _. kept)
    (λ i xs. map (sum_at ways xs) (range_with_len 0 i))
add_run ways kept = record {
  rate = λ _. sum_ones 0 ways;
  begins = refl;
  none = refl;
  next = λ _ _ _ _ _ _. refl;
  more = λ _ i xs b long one.
      seam (sum_at ways xs) (sum_at ways (xs ++ b)) (λ _. saturated (sum_below ways (sample b))) i 1
      (suc i) (omega arith)
      (λ n l.
      ap saturated (sum_below_same ways (λ q. sample xs (n * ways + q)) (λ q. sample (xs ++ b) (n * ways + q))
      (λ q h. sym (get_or_append_left xs b (pos 0) (n * ways + q)
      (omega (arith, h, long, suc-mul n ways, mul-le-mul_right ways l))))))
      (λ r l.
      let here : i + r ≡ i = omega arith in
      ap saturated (sum_below_same ways (sample b) (λ q. sample (xs ++ b) ((i + r) * ways + q))
      (λ q h.
      let place : (i + r) * ways + q ≡ length xs + q = omega (arith, long, ap (λ n. n * ways) here) in
      sym (ap (sample (xs ++ b)) place ∙ get_or-append-add xs b q (pos 0)))));
}

-- a sample on each way
same_all : (x : ℤ) (a n : ℕ) → replicate n x ≡ map (λ _. x) (range_with_len a n)
same_all x a zero = refl
same_all x a (suc n) = ap (λ ys. x ∷ ys) (same_all x (a + 1) n)

some_of : (n i ways : ℕ) → n < i * ways → 0 < ways
some_of n i zero l = let none : i * 0 ≡ 0 = omega arith in absurd (omega (arith, l, none))
some_of n i (suc ways) l = omega arith

pub fork_run : (ways : ℕ) (kept : List ℤ) → IsRun kit_steps (Fork ways) 1 kept (λ _. kept)
    (λ i xs. map (λ n. sample xs (n / ways)) (range_with_len 0 (i * ways)))
fork_run ways kept = record {
  rate = λ _. refl;
  begins = refl;
  none = ap (λ n. map (λ k. sample [] (k / ways)) (range_with_len 0 n)) (zero-mul ways);
  next = λ _ _ _ _ _ _. refl;
  more = λ _ i xs b long one.
      ap (λ ys. map (λ n. sample xs (n / ways)) (range_with_len 0 (i * ways)) ++ ys) (same_all (sample b 0) 0 ways) ∙
      seam (λ n. sample xs (n / ways)) (λ n. sample (xs ++ b) (n / ways)) (λ _. sample b 0) (i * ways) ways
      (suc i * ways) (suc-mul i ways)
      (λ n l. sym (get_or_append_left xs b (pos 0) (n / ways)
      (omega (arith, long, div_below n ways i (some_of n i ways l) l))))
      (λ q l.
      let row : (i * ways + q) / ways ≡ i = div-mul-add i ways q l in
      let place : (i * ways + q) / ways ≡ length xs + 0 = omega (arith, long, row) in
      sym (ap (sample (xs ++ b)) place ∙ get_or-append-add xs b 0 (pos 0)));
}

-- what is kept after some samples and then some more
slides_on : (kept xs b : List ℤ) → kept_next (kept_next kept xs) b ≡ kept_next kept (xs ++ b)
slides_on kept xs b =
    ap (drop (length b)) (sym (drop-append-le (length xs) (kept ++ xs) b (omega (arith, length-append kept xs)))) ∙
    (drop-drop (length b) (length xs) ((kept ++ xs) ++ b)
    ∙ λ k. drop (sym (length-append xs b) k) (append_assoc kept xs b k))

pub delay_run : (d : ℕ) (kept : List ℤ) → IsRun kit_steps (Delay d) 1 kept (kept_next kept)
    (λ _ xs. take (length xs) (kept ++ xs))
delay_run d kept = record {
  rate = λ _. refl;
  begins = append-nil kept;
  none = refl;
  next = λ _ _ xs b _ _. slides_on kept xs b;
  more = λ _ _ xs b _ one.
      let w : List ℤ = (kept ++ xs) ++ b in
      let reach : length xs ≤ length (kept ++ xs) = omega (arith, length-append kept xs) in
      let count : length xs + 1 ≡ length (xs ++ b) = omega (arith, one, length-append xs b) in
      (λ k. sym (take-append-le (length xs) (kept ++ xs) b reach) k
      ++ take 1 (sym (drop-append-le (length xs) (kept ++ xs) b reach) k)) ∙
      (sym (take-add (length xs) 1 w) ∙ λ k. take (count k) (append_assoc kept xs b k));
}

module _ (f : Filter) (kept : List ℤ) (some_up : 1 ≤ f.up) (some_down : 1 ≤ f.down)
    (keeps : length kept ≡ kept_len f) where
  module _ (i : ℕ) (xs b : List ℤ) (long : length xs ≡ i * f.down) (one : length b ≡ f.down) where
    abbrev outputs : ℕ → List ℤ
    outputs many = map (output f kept (xs ++ b)) (range_with_len 0 (many * f.up))

    -- the block changes no output before it
    earlier : (n : ℕ) → n < i * f.up → output f kept xs n ≡ output f kept (xs ++ b) n
    earlier n l =
        let place : 0 * f.up + n ≡ n = omega (arith, zero-mul f.up) in
        output_is f some_up some_down kept (xs ++ b) kept (outputs i) xs i 0 i n
        (done_begins f some_up some_down kept (xs ++ b) (outputs i) i keeps
        (length-map-range_with_len (output f kept (xs ++ b)) 0 (i * f.up))) keeps long
        (λ q h. let there : q ≡ 0 * f.down + q = omega (arith, zero-mul f.down) in
        sym (get_or_append_left xs b (pos 0) q (omega (arith, long))) ∙ ap (sample (xs ++ b)) there) l ∙
        ap (output f kept (xs ++ b)) place

    -- i firings are done
    done : IsDone f kept (xs ++ b) (kept_next kept xs) (outputs (suc i)) (suc i) i
    done = record {
      few = omega arith;
      kept_long = omega (arith, keeps, length-append kept xs, length-drop (length xs) (kept ++ xs));
      put_long = length-map-range_with_len (output f kept (xs ++ b)) 0 (suc i * f.up);
      kept_are = λ r l.
          let place : length xs + r ≡ r + i * f.down = omega (arith, long) in
          get_or-drop (length xs) (kept ++ xs) r (pos 0) ∙
          (sym (get_or_append_left (kept ++ xs) b (pos 0) (length xs + r) (omega (arith, keeps, length-append kept xs)))
          ∙ λ k. sample (append_assoc kept xs b k) (place k));
      put_are = λ n l. get_or-map-range_with_len (output f kept (xs ++ b)) 0 (suc i * f.up) n n (pos 0)
          (omega (arith, suc-mul i f.up)) (omega arith);
    }

    fir_more : run_put f i kept xs ++ block_put f (kept_next kept xs) b ≡ run_put f (suc i) kept (xs ++ b)
    fir_more =
        seam (output f kept xs) (output f kept (xs ++ b)) (output f (kept_next kept xs) b) (i * f.up) f.up
        (suc i * f.up) (suc-mul i f.up) earlier
        (λ q l.
        output_is f some_up some_down kept (xs ++ b) (kept_next kept xs) (outputs (suc i)) b (suc i) i 1 q done keeps
        (omega (arith, one))
        (λ r h. sym (ap (sample (xs ++ b)) (let place : i * f.down + r ≡ length xs + r = omega (arith, long) in place)
        ∙ get_or-append-add xs b r (pos 0))) (omega arith))

  fir_run : IsRun kit_steps (Fir f) f.down kept (kept_next kept) (λ i xs. run_put f i kept xs)
  fir_run = record {
    rate = λ _. omega arith;
    begins = append-nil kept;
    none = ap (λ n. map (output f kept []) (range_with_len 0 n)) (zero-mul f.up);
    next = λ _ _ xs b _ _. slides_on kept xs b;
    more = λ _ i xs b long one. fir_more i xs b long one;
  }

-- what is dealt or gathered goes on as it is
pub deal_run : (t : Turns) (kept : List ℤ) → 0 < t.ways → IsRun kit_steps (Deal t) t.run kept (λ _. kept) (λ _ xs. xs)
deal_run t kept some = record {
  rate = λ _. omega arith;
  begins = refl;
  none = refl;
  next = λ _ _ _ _ _ _. refl;
  more = λ n _ xs b _ _. ap (λ put. xs ++ put)
      (dealt_is b (phase kit_steps (Deal t) n) t.ways (mod_below n t.ways some));
}

turn_rate : (t : Turns) → 0 < t.ways → (n : ℕ) → total_in kit_steps (Gather t) (phase kit_steps (Gather t) n) ≡ t.run
turn_rate t some n = turn_total t.ways t.run (phase kit_steps (Gather t) n) (mod_below n t.ways some)

pub gather_run : (t : Turns) (kept : List ℤ) → 0 < t.ways →
    IsRun kit_steps (Gather t) t.run kept (λ _. kept) (λ _ xs. xs)
gather_run t kept some = record {
  rate = turn_rate t some;
  begins = refl;
  none = refl;
  next = λ _ _ _ _ _ _. refl;
  more = λ _ _ xs b _ one. ap (λ put. xs ++ put) (sym (gathered_is b t.run one));
}

-- a kit that is of a kind: how many samples its firings take and put, and what they leave and put
module _ {k x : Kit} (is : k ≡ x) (j many : ℕ) where
  pub takes : (r : ℕ) {n : ℕ} → ((i : ℕ) → total_in kit_steps x (phase kit_steps x i) ≡ r) →
      n ≡ sum_in kit_steps k j many → n ≡ many * r
  takes r rate e =
      e ∙ (ap (λ y. sum_in kit_steps y j many) is ∙ same_sums (λ i. total_in kit_steps x (phase kit_steps x (j + i))) r
      (λ i. rate (j + i)) many)

  pub gives : (r : ℕ) {n : ℕ} → ((i : ℕ) → total_out kit_steps x (phase kit_steps x i) ≡ r) →
      n ≡ sum_out kit_steps k j many → n ≡ many * r
  gives r rate e =
      e ∙ (ap (λ y. sum_out kit_steps y j many) is ∙ same_sums (λ i. total_out kit_steps x (phase kit_steps x (j + i)))
      r (λ i. rate (j + i)) many)

  -- where each firing takes one sample, or puts one
  pub takes_one : {n : ℕ} → ((i : ℕ) → total_in kit_steps x (phase kit_steps x i) ≡ 1) →
      n ≡ sum_in kit_steps k j many → n ≡ many
  takes_one rate e = omega (arith, takes 1 rate e)

  pub gives_one : {n : ℕ} → ((i : ℕ) → total_out kit_steps x (phase kit_steps x i) ≡ 1) →
      n ≡ sum_out kit_steps k j many → n ≡ many
  gives_one rate e = omega (arith, gives 1 rate e)

  module _ {size : ℕ} {kept taken : List ℤ} {after : List ℤ → List ℤ} {all : ℕ → List ℤ → List ℤ}
      (run : IsRun kit_steps x size kept after all) (long : length taken ≡ sum_in kit_steps k j many) where
    pub leaves : after taken ≡ state_at kit_steps k j kept taken many
    leaves =
        sym (ap (λ y. state_at kit_steps y j kept taken many) is
        ∙ run_state kit_steps x size kept after all run j taken many
        (long ∙ ap (λ y. sum_in kit_steps y j many) is))

    pub puts : all many taken ≡ puts_to kit_steps k j kept taken many
    puts =
        sym (ap (λ y. puts_to kit_steps y j kept taken many) is
        ∙ run_puts kit_steps x size kept after all run j taken many
        (long ∙ ap (λ y. sum_in kit_steps y j many) is))

-- the values at the first n numbers are those at the first m, if n is m
pub counts : (f : ℕ → ℤ) {n m : ℕ} {xs : List ℤ} → xs ≡ map f (range_with_len 0 n) → n ≡ m →
    xs ≡ map f (range_with_len 0 m)
counts f are same = are ∙ ap (λ n. map f (range_with_len 0 n)) same

-- a cycle with a phase has one
pub some_ways : {k x : Kit} {j : ℕ} → k ≡ x → j < kit_steps.cycle k → 0 < kit_steps.cycle x
some_ways {k} {x} {j} is below =
    let here : j < kit_steps.cycle x = subst (λ y. j < kit_steps.cycle y) is below in
    omega (arith, here)

-- of what is dealt or gathered as much is put as taken
module _ {k : Kit} (t : Turns) (j many : ℕ) {n m : ℕ} (below : j < kit_steps.cycle k)
    (taken : n ≡ sum_in kit_steps k j many) (put : m ≡ sum_out kit_steps k j many) where
  pub deals_all : k ≡ Deal t → m ≡ n
  deals_all is =
      gives is j many t.run
      (λ i. turn_total t.ways t.run (phase kit_steps (Deal t) i) (mod_below i t.ways (some_ways is below))) put ∙
      sym (takes is j many t.run (λ _. omega arith) taken)

  pub gathers_all : k ≡ Gather t → m ≡ n
  gathers_all is =
      gives is j many t.run (λ _. omega arith) put
      ∙ sym (takes is j many t.run (turn_rate t (some_ways is below)) taken)

-- the runs of kinds whose rates are known by the ports of a kit
module _ {k x : Kit} (is : k ≡ x) {p : Ports} (same : p ≡ (behaviour k).ports) (are : ArePorts p) where
  ports : ArePorts (behaviour x).ports
  ports = subst (λ y. ArePorts (behaviour y).ports) is (subst ArePorts same are)

module _ {k : Kit} {p : Ports} (same : p ≡ (behaviour k).ports) (are : ArePorts p) (kept : List ℤ) where
  pub fir_runs : {f : Filter} → k ≡ Fir f → length kept ≡ (behaviour k).kept →
      IsRun kit_steps (Fir f) f.down kept (kept_next kept) (λ i xs. run_put f i kept xs)
  fir_runs {f} is keeps = let x = ports is same are in
      fir_run f kept x.outputs.some x.inputs.some (keeps ∙ ap (λ y. (behaviour y).kept) is)

  pub decimate_runs : {m : ℕ} → k ≡ Decimate m → IsRun kit_steps (Decimate m) m kept (λ _. kept)
      (λ i xs. map (λ n. sample xs (n * m)) (range_with_len 0 i))
  decimate_runs {m} is = let x = ports is same are in decimate_run m kept x.inputs.some

  pub interpolate_runs : {up : ℕ} → k ≡ Interpolate up →
      IsRun kit_steps (Interpolate up) 1 kept (λ _. kept) (λ i xs. map (upsampled up xs) (range_with_len 0 (i * up)))
  interpolate_runs {up} is = let x = ports is same are in interpolate_run up kept x.outputs.some
