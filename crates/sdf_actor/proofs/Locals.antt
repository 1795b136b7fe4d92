-- A node's own equations, one firing more, and all of them together.
use Rattle.std.proofs.Common.{◌≡◌, ℕ, ◌+◌, ◌≤◌, ◌<◌, List, length, get_or, take, refl, sym, ap, ◌∙◌, subst}
use Rattle.std.proofs.Common.{◌-◌, inl, inr, ◌⊎◌, arith}
use Rattle.std.specs.List.{between}
use Rattle.std.proofs.lemmas.List.{take_all, length-append, take-append-le}
use Rattle.std.proofs.lemmas.Bool.{cases_lt}
use Rattle.sdf_actor.specs.Histories.{Wiring, Answers, taken, put, taken_before, spread, IsHistory, IsWired}
use Rattle.sdf_actor.proofs.Pieces.{flat_map_same, length_spread, spread_joined, between_after}
use Rattle.sdf_actor.proofs.Agree.{part, port, SameInput, SameOutput, taken_agrees, taken_before_agrees, put_agrees}
use Rattle.sdf_actor.specs.Locals.{IsLocal, IsFiredOnce}

-- the size of what a node puts on channel c in firing i
abbrev pub size_at : {A : Type 0} → Wiring A → ℕ → ℕ → ℕ
size_at f i c = f.rates.produced c (i + 1) - f.rates.produced c i

-- a node's equations stay where its channels have the same samples
pub steps_stay : {A : Type 0} {f : Wiring A} → IsWired f → {x : Answers A} {a k : ℕ} {V W : ℕ → List A} →
    IsLocal f x a k V → SameInput f V W a k → SameOutput f V W a k →
    (i : ℕ) → i < k → put f W a i ≡ x a (taken_before f W a i) (taken f W a i)
steps_stay {A} {f} wired {x} {a} {k} {V} {W} r input output i h =
    let p : put f V a i ≡ put f W a i = put_agrees wired output i h in
    let t : taken f V a i ≡ taken f W a i = taken_agrees wired input i h in
    let u : taken_before f V a i ≡ taken_before f W a i = taken_before_agrees wired input i (omega arith) in
    let s : put f V a i ≡ x a (taken_before f V a i) (taken f V a i) = r.steps i h in
    cc

-- one firing more, of the block b
module _ {A : Type 0} {f : Wiring A} (wired : IsWired f) {x : Answers A} {a k : ℕ} (known : a < f.rates.actors)
    {V W : ℕ → List A} (r : IsLocal f x a k V) {b : List A} (once : IsFiredOnce f x a k V W b) where
  spread_long : (c : ℕ) → c < f.rates.channels → f.rates.source c ≡ a →
      length (spread (size_at f k) (f.outs a) b c) ≡ size_at f k c
  spread_long c l e =
      let at = port f wired c l a e in
      subst (λ d. length (spread (size_at f k) (f.outs a) b d) ≡ size_at f k d) at.2
      (length_spread (size_at f k) (f.outs a) b at.0 at.1 once.long)

  input : SameInput f V W a k
  input = record { known = known; agree = once.kept }

  output : SameOutput f V W a k
  output = record {
    known = known;
    agree = λ c l e.
        let all = r.given c l e in
        sym (ap (take (f.rates.initial c + f.rates.produced c k)) (once.given c l e)
        ∙ take-append-le (f.rates.initial c + f.rates.produced c k) (V c)
        (spread (size_at f k) (f.outs a) b c) (omega arith));
  }

  new_put : put f W a k ≡ b
  new_put =
      flat_map_same (part f W k) (spread (size_at f k) (f.outs a) b) (f.outs a)
      (λ n l.
      let c : ℕ = get_or (f.outs a) n 0 in
      let is = wired.outs_are a n known l in
      let all = r.given c is.0 is.1 in
      let grew = spread_long c is.0 is.1 in
      ap (between (f.rates.initial c + f.rates.produced c k) (f.rates.initial c + f.rates.produced c (k + 1)))
      (once.given c is.0 is.1) ∙
      between_after (V c) (spread (size_at f k) (f.outs a) b c) (f.rates.initial c + f.rates.produced c k)
      (f.rates.initial c + f.rates.produced c (k + 1)) all (omega arith)) ∙
      spread_joined (size_at f k) (f.outs a) b (λ m n. wired.outs_once a m n known) once.long

  pub local_grows : IsLocal f x a (k + 1) W
  local_grows = record {
    begins = λ c l e.
        let all = r.given c l e in
        ap (take (f.rates.initial c)) (once.given c l e)
        ∙ (take-append-le (f.rates.initial c) (V c) (spread (size_at f k) (f.outs a) b c) (omega arith)
        ∙ r.begins c l e);
    given = λ c l e.
        let all = r.given c l e in
        let rise : f.rates.produced c k ≤ f.rates.produced c (k + 1) =
        wired.sound.produced_rises c k (k + 1) (omega arith) in
        ap length (once.given c l e) ∙ (length-append (V c) (spread (size_at f k) (f.outs a) b c)
        ∙ omega (arith, spread_long c l e));
    got = once.more;
    steps = λ i h. go i h (cases_lt i k);
  }
    where
      go : (i : ℕ) → i < k + 1 → (i < k) ⊎ (k ≤ i) → put f W a i ≡ x a (taken_before f W a i) (taken f W a i)
      go i h (inl below) = steps_stay wired r input output i below
      go i h (inr above) =
          let e : k ≡ i = omega arith in
          subst (λ i. put f W a i ≡ x a (taken_before f W a i) (taken f W a i)) e (new_put ∙ once.answers_it)

-- the nodes' own equations are a history, where what each node took of a channel is what was put there
pub locals_are_history : {A : Type 0} {f : Wiring A} → IsWired f → {x : Answers A} (k : ℕ → ℕ) (own : ℕ → ℕ → List A) →
    ((a : ℕ) → a < f.rates.actors → IsLocal f x a (k a) (own a)) →
    ((c : ℕ) → c < f.rates.channels → f.rates.consumed c (k (f.rates.target c)) ≤ length (own (f.rates.source c) c)) →
    ((c : ℕ) → c < f.rates.channels → take (f.rates.consumed c (k (f.rates.target c))) (own (f.rates.target c) c) ≡
    take (f.rates.consumed c (k (f.rates.target c))) (own (f.rates.source c) c)) →
    IsHistory f x k (λ c. own (f.rates.source c) c)
locals_are_history {A} {f} wired k own each enough met = record {
  begins = λ c l. (each (f.rates.source c) (wired.sound.source_in c l)).begins c l refl;
  lengths = λ c l. (each (f.rates.source c) (wired.sound.source_in c l)).given c l refl;
  enough = λ c l. let all = (each (f.rates.source c) (wired.sound.source_in c l)).given c l refl in
      omega (arith, enough c l);
  steps = λ a i known h.
      let V : ℕ → List A = λ c. own (f.rates.source c) c in
      let input : SameInput f (own a) V a (k a) = record {
        known = known;
        agree = λ c l e. subst (λ d. take (f.rates.consumed c (k d)) (own d c) ≡
            take (f.rates.consumed c (k d)) (V c)) e (met c l);
      } in
      let output : SameOutput f (own a) V a (k a) = record {
        known = known;
        agree = λ c l e. ap (λ d. take (f.rates.initial c + f.rates.produced c (k a)) (own d c)) (sym e);
      } in
      steps_stay wired (each a known) input output i h;
}

pub local_begins : {A : Type 0} {f : Wiring A} → IsWired f → (x : Answers A) (a : ℕ) → IsLocal f x a 0 f.starts
local_begins {A} {f} wired x a = record {
  begins = λ c l e. take_all (f.rates.initial c) (f.starts c) (omega (arith, wired.starts_fit c l));
  given = λ c l e. omega (arith, wired.starts_fit c l, wired.sound.produced_none c);
  got = λ c l e. omega (arith, wired.sound.consumed_none c);
  steps = λ i h. absurd (omega arith);
}
