-- How much is taken from a channel, where it is one of some ports.
use Rattle.std.proofs.Common.{◌≡◌, ℕ, zero, suc, ◌+◌, ◌<◌, List, [], ◌∷◌, length, get_or}
use Rattle.std.proofs.Common.{cond, eqb, Bool, true, false, refl, ap, arith}
use Rattle.std.proofs.lemmas.Bool.{eq-eqb}
use Rattle.sdf_queues.specs.Blocks.{at_ports}

-- at a port there is so much
pub at_one : (ds : List ℕ) (n many c : ℕ) → n < length ds → get_or ds n 0 ≡ c → at_ports ds many c ≡ many
at_one [] n many c l e = absurd (omega arith)
at_one (d ∷ ds) zero many c l e = ap (λ t. cond t many (at_ports ds many c)) (eq-eqb d c e)
at_one (d ∷ ds) (suc n) many c l e = go (eqb d c) (at_one ds n many c (omega arith) e)
  where
    go : (t : Bool) → at_ports ds many c ≡ many → cond t many (at_ports ds many c) ≡ many
    go true ih = refl
    go false ih = ih

pub at_sum : (ds : List ℕ) (x y c : ℕ) → at_ports ds x c + at_ports ds y c ≡ at_ports ds (x + y) c
at_sum [] x y c = refl
at_sum (d ∷ ds) x y c = go (eqb d c) (at_sum ds x y c)
  where
    go : (t : Bool) → at_ports ds x c + at_ports ds y c ≡ at_ports ds (x + y) c →
        cond t x (at_ports ds x c) + cond t y (at_ports ds y c) ≡ cond t (x + y) (at_ports ds (x + y) c)
    go true rest = refl
    go false rest = rest

pub at_zero : (ds : List ℕ) (c : ℕ) → at_ports ds 0 c ≡ 0
at_zero [] c = refl
at_zero (d ∷ ds) c = go (eqb d c) (at_zero ds c)
  where
    go : (t : Bool) → at_ports ds 0 c ≡ 0 → cond t 0 (at_ports ds 0 c) ≡ 0
    go true rest = refl
    go false rest = rest
