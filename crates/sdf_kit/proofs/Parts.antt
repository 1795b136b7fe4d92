-- The parts of a port in blocks, one after another.
use Rattle.std.proofs.Common.{◌≡◌, ℕ, zero, suc, ◌+◌, ◌%◌, ◌<◌, ◌≤◌, List, [], ◌++◌, length, map, take, drop, get_or}
use Rattle.std.proofs.Common.{refl, ◌∙◌, ap, subst, arith, ⊎_elim}
use Rattle.std.specs.List.{range_with_len, flat_map, sum_by}
use Rattle.std.proofs.lemmas.Bool.{cases_lt}
use Rattle.std.proofs.lemmas.List.{length-append, length-drop, length-take-le, get_or-take, get_or-drop}
use Rattle.std.proofs.lemmas.List.{get_or_append_left, get_or-append-add}
use Rattle.std.proofs.lemmas.List.FromFn.{fill_by_all}
use Rattle.sdf_kit.specs.Formulas.{before, moved_in, at_port}
use Rattle.sdf_kit.proofs.Totals.{sum_suc, flat_suc, sum_reaches, Place, place}

module _ {T : Type 0} (rate : ℕ → ℕ → ℕ) (cycle p : ℕ) (bs : List (List T)) where
  -- the samples of this port in firing i, and its part of block i
  abbrev size : ℕ → ℕ
  size i = rate p (i % cycle)

  abbrev part : ℕ → List T
  part i = take (size i) (drop (before rate p (i % cycle)) (get_or bs i []))

  -- the parts of the first m blocks
  abbrev parts : ℕ → List T
  parts m = flat_map part (range_with_len 0 m)

  -- each block has a part of this port
  abbrev pub HaveParts : Type 0
  HaveParts = (i : ℕ) → i < length bs → before rate p (i % cycle) + rate p (i % cycle) ≤ length (get_or bs i [])

  length-part : HaveParts → (i : ℕ) → i < length bs → length (part i) ≡ size i
  length-part have i l =
      let h = have i l in
      length-take-le (size i) (drop (before rate p (i % cycle)) (get_or bs i []))
      (omega (arith, length-drop (before rate p (i % cycle)) (get_or bs i [])))

  length-parts : HaveParts → (m : ℕ) → m ≤ length bs → length (parts m) ≡ moved_in rate cycle p m
  length-parts have zero l = refl
  length-parts have (suc m) l =
      let more : sum_by size (range_with_len 0 (suc m)) ≡ sum_by size (range_with_len 0 m) + size m = sum_suc size m in
      let ih : length (parts m) ≡ sum_by size (range_with_len 0 m) = length-parts have m (omega arith) in
      let one : length (part m) ≡ size m = length-part have m (omega arith) in
      ap length (flat_suc part m) ∙ (length-append (parts m) (part m) ∙ omega arith)

  newest : (d : T) (m i j : ℕ) → m ≡ i → length (parts m) ≡ sum_by size (range_with_len 0 m) → j < size i →
      get_or (parts m ++ part m) (moved_in rate cycle p i + j) d ≡
      get_or (get_or bs i []) (before rate p (i % cycle) + j) d
  newest d m i j e long h =
      let there : sum_by size (range_with_len 0 m) ≡ sum_by size (range_with_len 0 i) =
      ap (λ n. sum_by size (range_with_len 0 n)) e in
      let at : sum_by size (range_with_len 0 i) + j ≡ length (parts m) + j = omega arith in
      ap (λ n. get_or (parts m ++ part m) n d) at ∙
      (get_or-append-add (parts m) (part m) j d ∙
      (ap (λ n. get_or (part n) j d) e ∙
      (get_or-take (size i) (drop (before rate p (i % cycle)) (get_or bs i [])) j d h
      ∙ get_or-drop (before rate p (i % cycle)) (get_or bs i []) j d)))

  get_or-parts : HaveParts → (d : T) (m i j : ℕ) → m ≤ length bs → i < m → j < size i →
      get_or (parts m) (moved_in rate cycle p i + j) d ≡ get_or (get_or bs i []) (before rate p (i % cycle) + j) d
  get_or-parts have d zero i j l few h = absurd (omega arith)
  get_or-parts have d (suc m) i j l few h =
      let long : length (parts m) ≡ sum_by size (range_with_len 0 m) = length-parts have m (omega arith) in
      ap (λ ys. get_or ys (moved_in rate cycle p i + j) d) (flat_suc part m) ∙
      ⊎_elim
      (λ k.
      let reach : sum_by size (range_with_len 0 i) + size i ≤ sum_by size (range_with_len 0 m) =
      sum_reaches size i m k in
      get_or_append_left (parts m) (part m) d (moved_in rate cycle p i + j) (omega arith)
      ∙ get_or-parts have d m i j (omega arith) k h)
      (λ k. newest d m i j (omega arith) long h)
      (cases_lt i m)

  -- sample j of the part of block i
  pub get_or-at_port : HaveParts → (d : T) (i j : ℕ) → i < length bs → j < rate p (i % cycle) →
      get_or (at_port rate cycle p bs) (moved_in rate cycle p i + j) d ≡
      get_or (get_or bs i []) (before rate p (i % cycle) + j) d
  get_or-at_port have d i j l h = get_or-parts have d (length bs) i j (omega arith) l h

  -- a list at a port, given place by place
  pub at_port_by : HaveParts → (d : T) (g : ℕ → T) →
      ((i j : ℕ) → i < length bs → j < rate p (i % cycle) →
      get_or (get_or bs i []) (before rate p (i % cycle) + j) d ≡ g (moved_in rate cycle p i + j)) →
      at_port rate cycle p bs ≡ map g (range_with_len 0 (moved_in rate cycle p (length bs)))
  at_port_by have d g each =
      fill_by_all g (at_port rate cycle p bs) (moved_in rate cycle p (length bs)) d
      (length-parts have (length bs) (omega arith))
      (λ n l.
      let at : Place size (length bs) n = place size (length bs) n l in
      subst (λ n. get_or (at_port rate cycle p bs) n d ≡ g n) at.is
      (get_or-at_port have d at.i at.j at.i_in at.j_in ∙ each at.i at.j at.i_in at.j_in))
