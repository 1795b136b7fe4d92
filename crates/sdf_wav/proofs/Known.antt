-- What holds of known bytes, through one call after another.
use Rattle.std.proofs.Common.{◌≡◌, ℕ, ◌+◌, List, drop, Option, Result, Ok, Err, sym, subst, ap, ◌∙◌}
use Rattle.std.proofs.lemmas.List.{drop-drop}
use Rattle.sdf_wav.specs.declared.fault.FormatFault.{FormatFault}
use Rattle.sdf_wav.specs.declared.fault.ReadFault.{ReadFault}
use Rattle.sdf_wav.specs.Device.{Known, LosesFront}
use Rattle.sdf_wav.specs.Steps.{Explains, Reads}

pub Known-then : {a b c : Option (List ℕ)} {P Q S : List ℕ → List ℕ → Type 0} → Known a b P → Known b c Q →
    ((x y z : List ℕ) → P x y → Q y z → S x z) → Known a c S
Known-then p q h = record {
  at = λ input e.
      let m = p.at input e in
      let l = q.at m.0 m.1 in
      (l.0, l.1, h input m.0 l.0 m.2 l.2);
}

pub Known-weaker : {a b : Option (List ℕ)} {P S : List ℕ → List ℕ → Type 0} → Known a b P →
    ((x y : List ℕ) → P x y → S x y) → Known a b S
Known-weaker p h = record { at = λ input e. let m = p.at input e in (m.0, m.1, h input m.0 m.2) }

pub LosesFront-then : (x y z : List ℕ) → LosesFront x y → LosesFront y z → LosesFront x z
LosesFront-then x y z p q = (p.0 + q.0, q.1 ∙ ap (drop q.0) p.1 ∙ drop-drop q.0 p.0 x)

-- a last call that reads what is left to read
pub Reads-last : {X Y : Type 0} (view : X → Y) {a b : Option (List ℕ)} (c : Option (List ℕ))
    (read rest : List ℕ → Result (Y × List ℕ) FormatFault) (r : Result X ReadFault)
    → Known a b (λ x y. (read x ≡ rest y) × LosesFront x y) → Reads view b c rest r → Reads view a c read r
Reads-last view c read rest (Ok x) p q = Known-then p q (λ x y z p q. (p.0 ∙ q.0, LosesFront-then x y z p.1 q.1))
Reads-last view c read rest (Err e) p q = Known-then p q
    (λ x y z p q. (subst (Explains e) (sym p.0) q.0, LosesFront-then x y z p.1 q.1))

-- the same reading in other words
pub Reads-same : {X Y : Type 0} (view : X → Y) (a b : Option (List ℕ))
    (read again : List ℕ → Result (Y × List ℕ) FormatFault) (r : Result X ReadFault)
    → ((bytes : List ℕ) → read bytes ≡ again bytes) → Reads view a b read r → Reads view a b again r
Reads-same view a b read again (Ok x) same p = Known-weaker p (λ x y q. (sym (same x) ∙ q.0, q.1))
Reads-same view a b read again (Err e) same p = Known-weaker p (λ x y q. (subst (Explains e) (same x) q.0, q.1))
