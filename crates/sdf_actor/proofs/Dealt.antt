-- What a node puts, channel by channel.
use Rattle.std.proofs.Common.{◌≡◌, ℕ, ◌+◌, ◌-◌, ◌≤◌, ◌<◌, List, length, get_or, refl, subst, arith}
use Rattle.std.proofs.lemmas.List.Edits.{length-between}
use Rattle.sdf_actor.specs.Histories.{Wiring, IsWired, put, spread}
use Rattle.sdf_actor.proofs.Pieces.{spread_of_joined}
use Rattle.sdf_actor.proofs.Agree.{part, port}

pub put_is_dealt : {A : Type 0} (f : Wiring A) → IsWired f → (V : ℕ → List A) (c i : ℕ) → c < f.rates.channels →
    ((d : ℕ) → d < f.rates.channels → f.rates.source d ≡ f.rates.source c →
    f.rates.initial d + f.rates.produced d (i + 1) ≤ length (V d)) →
    spread (λ d. f.rates.produced d (i + 1) - f.rates.produced d i) (f.outs (f.rates.source c))
    (put f V (f.rates.source c) i) c ≡ part f V i c
put_is_dealt f wired V c i l long =
    let a : ℕ = f.rates.source c in
    let at = port f wired c l a refl in
    let size : ℕ → ℕ = λ d. f.rates.produced d (i + 1) - f.rates.produced d i in
    let sizes : (m : ℕ) → m < length (f.outs a) → length (part f V i (get_or (f.outs a) m 0)) ≡
    size (get_or (f.outs a) m 0) =
    (λ m h.
    let d : ℕ = get_or (f.outs a) m 0 in
    let is = wired.outs_are a m (wired.sound.source_in c l) h in
    let all = long d is.0 is.1 in
    let rise : f.rates.produced d i ≤ f.rates.produced d (i + 1) =
    wired.sound.produced_rises d i (i + 1) (omega arith) in
    let len : length (part f V i d) ≡ (f.rates.initial d + f.rates.produced d (i + 1))
    - (f.rates.initial d + f.rates.produced d i) =
    length-between (V d) (f.rates.initial d + f.rates.produced d i) (f.rates.initial d + f.rates.produced d (i + 1))
    (omega arith) in
    omega arith) in
    subst (λ d. spread size (f.outs a) (put f V a i) d ≡ part f V i d) at.2
    (spread_of_joined size (part f V i) (f.outs a) at.0 at.1 sizes)
