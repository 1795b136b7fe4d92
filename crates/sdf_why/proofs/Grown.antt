-- A text that grows part by part.
use Rattle.std.proofs.Common.{◌≡◌, ◌∙◌, List, ℕ, ◌++◌, ap, append_assoc}

after : (t x y u v : List ℕ) → u ≡ t ++ x → v ≡ u ++ y → v ≡ t ++ (x ++ y)
after t x y u v h k = k ∙ (ap (λ w. w ++ y) h ∙ append_assoc t x y)

-- by four parts
pub four_parts : (t a b c d t1 t2 t3 t4 : List ℕ) → t1 ≡ t ++ a → t2 ≡ t1 ++ b → t3 ≡ t2 ++ c → t4 ≡ t3 ++ d →
    t4 ≡ t ++ (a ++ b ++ c ++ d)
four_parts t a b c d t1 t2 t3 t4 h1 h2 h3 h4 =
    after t (a ++ b ++ c) d t3 t4 (after t (a ++ b) c t2 t3 (after t a b t1 t2 h1 h2) h3) h4

-- by five parts
pub five_parts : (t a b c d e t1 t2 t3 t4 t5 : List ℕ) → t1 ≡ t ++ a → t2 ≡ t1 ++ b → t3 ≡ t2 ++ c → t4 ≡ t3 ++ d →
    t5 ≡ t4 ++ e → t5 ≡ t ++ (a ++ b ++ c ++ d ++ e)
five_parts t a b c d e t1 t2 t3 t4 t5 h1 h2 h3 h4 h5 =
    after t (a ++ b ++ c ++ d) e t4 t5 (four_parts t a b c d t1 t2 t3 t4 h1 h2 h3 h4) h5
