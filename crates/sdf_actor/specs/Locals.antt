-- What a node knows of its own channels, whatever the others do.
use Rattle.std.specs.Prelude.{◌≡◌, ℕ, ◌+◌, ◌-◌, ◌≤◌, ◌<◌, List, ◌++◌, length, take}
use Rattle.sdf_actor.specs.Histories.{Wiring, Answers, taken, put, taken_before, spread, size_out}
use Rattle.sdf_actor.specs.Steps.{Steps}
use Rattle.sdf_actor.specs.Nets.{Netlist, wiring, answers, IsNet, IsHistoryOf}

-- node a has fired k times. For a channel c out of it, V c is the initial samples and then what it put; for a channel
-- into it, V c has at least what it took. Each block put is its answer to what it took: the equations of a history at
-- this node alone
pub record IsLocal {A : Type 0} (f : Wiring A) (answer : Answers A) (a k : ℕ) (V : ℕ → List A) : Type 0 where
  pub begins : (c : ℕ) → c < f.rates.channels → f.rates.source c ≡ a → take (f.rates.initial c) (V c) ≡ f.starts c
  pub given : (c : ℕ) → c < f.rates.channels → f.rates.source c ≡ a →
      length (V c) ≡ f.rates.initial c + f.rates.produced c k
  pub got : (c : ℕ) → c < f.rates.channels → f.rates.target c ≡ a → f.rates.consumed c k ≤ length (V c)
  pub steps : (i : ℕ) → i < k → put f V a i ≡ answer a (taken_before f V a i) (taken f V a i)

-- from V to W node a fires once more after k firings: what it took stays, what it now takes is there, and it puts block
-- b, its answer to what it takes
pub record IsFiredOnce {A : Type 0} (f : Wiring A) (answer : Answers A) (a k : ℕ) (V W : ℕ → List A)
    (b : List A) : Type 0 where
  pub kept : (c : ℕ) → c < f.rates.channels → f.rates.target c ≡ a →
      take (f.rates.consumed c k) (V c) ≡ take (f.rates.consumed c k) (W c)
  pub more : (c : ℕ) → c < f.rates.channels → f.rates.target c ≡ a → f.rates.consumed c (k + 1) ≤ length (W c)
  pub given : (c : ℕ) → c < f.rates.channels → f.rates.source c ≡ a →
      W c ≡ V c ++ spread (λ d. f.rates.produced d (k + 1) - f.rates.produced d k) (f.outs a) b c
  pub answers_it : b ≡ answer a (taken_before f W a k) (taken f W a k)
  pub long : length b ≡ size_out f a k

-- before its first firing a node knows what its channels begin with
abbrev pub LocalsBegin : {A S T : Type 0} → Steps A S T → Type 0
LocalsBegin {A} {S} {T} s =
    (n : Netlist A T) (inputs : List (List T)) (a : ℕ) → IsNet s n →
    IsLocal (wiring s n) (answers s n inputs) a 0 (wiring s n).starts

-- what a node knows grows with each firing of its own
abbrev pub LocalsGrow : {A S T : Type 0} → Steps A S T → Type 0
LocalsGrow {A} {S} {T} s =
    (n : Netlist A T) (inputs : List (List T)) (a k : ℕ) (V W : ℕ → List T) (b : List T) → IsNet s n →
    a < length n.nodes →
    IsLocal (wiring s n) (answers s n inputs) a k V → IsFiredOnce (wiring s n) (answers s n inputs) a k V W b →
    IsLocal (wiring s n) (answers s n inputs) a (k + 1) W

-- each node a has fired k a times and knows its own channels as own a says. If what each node took from a channel is
-- what was put there, then what was put is the history
abbrev pub LocalsMeet : {A S T : Type 0} → Steps A S T → Type 0
LocalsMeet {A} {S} {T} s =
    (n : Netlist A T) (inputs : List (List T)) (k : ℕ → ℕ) (own : ℕ → ℕ → List T) → IsNet s n →
    ((a : ℕ) → a < length n.nodes → IsLocal (wiring s n) (answers s n inputs) a (k a) (own a)) →
    ((c : ℕ) → c < length n.wires → (wiring s n).rates.consumed c (k ((wiring s n).rates.target c)) ≤
    length (own ((wiring s n).rates.source c) c)) →
    ((c : ℕ) → c < length n.wires →
    take ((wiring s n).rates.consumed c (k ((wiring s n).rates.target c))) (own ((wiring s n).rates.target c) c) ≡
    take ((wiring s n).rates.consumed c (k ((wiring s n).rates.target c))) (own ((wiring s n).rates.source c) c)) →
    IsHistoryOf s n inputs k (λ c. own ((wiring s n).rates.source c) c)
