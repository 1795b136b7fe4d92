-- The blocks put in firings one after another.
use Rattle.std.proofs.Common.{◌≡◌, ℕ, zero, suc, ◌+◌, ◌<◌, List, [], ◌∷◌, length, take, get_or, refl, ◌∙◌, ap, arith}
use Rattle.sdf_actor.specs.Steps.{Steps, phase, state_from}
use Rattle.sdf_kit.specs.Formulas.{blocks_put}

pub length-blocks_put : {A S T : Type 0} (s : Steps A S T) (x : A) (first : ℕ) (state : S) (bs : List (List T)) →
    length (blocks_put s x first state bs) ≡ length bs
length-blocks_put s x first state [] = refl
length-blocks_put s x first state (b ∷ bs) = ap (λ n. suc n)
    (length-blocks_put s x (first + 1) (s.next x (phase s x first) state b) bs)

from_first : {A S T : Type 0} (s : Steps A S T) (x : A) (first : ℕ) (state : S) (bs : List (List T)) (i : ℕ) →
    i < length bs →
    get_or (blocks_put s x first state bs) i [] ≡ s.puts x (phase s x (first + i))
    (state_from s x first state (take i bs)) (get_or bs i [])
from_first s x first state [] i l = absurd (omega arith)
from_first s x first state (b ∷ bs) zero l = let e : first ≡ first + zero = omega arith in
    ap (λ n. s.puts x (phase s x n) state b) e
from_first s x first state (b ∷ bs) (suc i) l =
    let e : first + 1 + i ≡ first + suc i = omega arith in
    from_first s x (first + 1) (s.next x (phase s x first) state b) bs i (omega arith) ∙
    ap (λ n. s.puts x (phase s x n) (state_from s x (first + 1) (s.next x (phase s x first) state b) (take i bs))
    (get_or bs i [])) e

-- block i is put from the state after those before it
pub get_or-blocks_put : {A S T : Type 0} (s : Steps A S T) (x : A) (state : S) (bs : List (List T)) (i : ℕ) →
    i < length bs →
    get_or (blocks_put s x 0 state bs) i [] ≡ s.puts x (phase s x i) (state_from s x 0 state (take i bs))
    (get_or bs i [])
get_or-blocks_put s x state bs i l =
    let e : 0 + i ≡ i = omega arith in
    from_first s x 0 state bs i l ∙ ap (λ n. s.puts x (phase s x n) (state_from s x 0 state (take i bs))
    (get_or bs i [])) e
