-- Rows in one list of cells.
use Rattle.std.proofs.Common.{◌≡◌, ℕ, ◌+◌, ◌*◌, ◌≤◌, ◌<◌, List, [], ◌∷◌, ◌++◌, length, take, drop, map, Option, sym, ap}
use Rattle.std.proofs.Common.{◌∙◌}
use Rattle.std.proofs.Common.{zero, suc, set, replicate, None, refl, arith, mul-le-mul_left, length-drop}
use Rattle.std.specs.List.{range_with_len}
use Rattle.std.proofs.lemmas.List.{take_all, drop_at, drop-append-le, take-append-le}
use Rattle.std.proofs.lemmas.List.FromFn.{length-map-range_with_len, get_or-map-range_with_len, map-range_with_len_more}
use Rattle.std.proofs.lemmas.List.FromFn.{fill_by_all}
use Rattle.sdf_prec.specs.declared.firing.Firing.{Firing}
use Rattle.sdf_prec.specs.Tables.{row, firings}
use Rattle.sdf_prec.specs.Rows.{rows_in}

-- a row's cells are among all
pub row_within : (width count i : ℕ) → i < count → i * width + width ≤ count * width
row_within width count i l = let up : i + 1 ≤ count = omega arith in
    let h : width * (i + 1) ≤ width * count = mul-le-mul_left width up in omega arith

pub rows_long : (width count : ℕ) (cells : List (Option Firing)) → length (rows_in width count cells) ≡ count
rows_long width count cells = length-map-range_with_len (λ i. take width (drop (i * width) cells)) 0 count

-- and a row that there is
pub row_fits : (width count i : ℕ) (cells : List (Option Firing)) (rows : List (List (Option Firing))) →
    rows_in width count cells ≡ rows → length cells ≡ count * width → i < length rows →
    (i < count) × (i * width + width ≤ length cells)
row_fits width count i cells rows is all l =
    let known : i < count = omega (arith, ap length is, rows_long width count cells) in
    (known, omega (arith, row_within width count i known))

pub row_is : (width count : ℕ) (cells : List (Option Firing)) (i : ℕ) → i < count →
    row (rows_in width count cells) i ≡ take width (drop (i * width) cells)
row_is width count cells i l =
    get_or-map-range_with_len (λ i. take width (drop (i * width) cells)) 0 count i i [] l (omega arith)

-- one row more
pub rows_more : (width count : ℕ) (cells new : List (Option Firing)) → length cells ≡ count * width →
    length new ≡ width → rows_in width (count + 1) (cells ++ new) ≡ rows_in width count cells ++ new ∷ []
rows_more width count cells new all wide =
    map-range_with_len_more then 0 count count (omega arith) ∙ (λ n. sym before n ++ last n ∷ [])
  where
    then : ℕ → List (Option Firing)
    then i = take width (drop (i * width) (cells ++ new))

    same : (i : ℕ) → i < count → take width (drop (i * width) cells) ≡ then i
    same i l =
        let within = row_within width count i l in
        let low : i * width ≤ length cells = omega arith in
        let rest : width ≤ length (drop (i * width) cells) = omega (arith, length-drop (i * width) cells) in
        sym (ap (take width) (drop-append-le (i * width) cells new low)
        ∙ take-append-le width (drop (i * width) cells) new rest)

    before : rows_in width count cells ≡ map then (range_with_len 0 count)
    before = fill_by_all then (rows_in width count cells) count [] (rows_long width count cells)
        (λ i l. row_is width count cells i l ∙ same i l)

    last : then count ≡ new
    last = ap (take width) (drop_at cells new (count * width) all) ∙ take_all width new (omega arith)

-- where a firing stands there is a cell
pub some_cells : (cells : List (Option Firing)) → 0 < length (firings cells) → 0 < length cells
some_cells [] h = h
some_cells (cell ∷ cells) h = omega arith

-- a row without firings, with one that is taken out again
pub cleared : (width j : ℕ) (cell : Option Firing) →
    set (set (replicate width None) j cell) j None ≡ replicate width None
cleared zero j cell = refl
cleared (suc width) zero cell = refl
cleared (suc width) (suc j) cell = ap (λ cells. None ∷ cells) (cleared width j cell)
