-- The ring machine: actors that fire when they can, over channels of bounded capacity. A block is what one firing moves
-- at one channel, and its length is the rate of that firing. If the rate is 0 the block is empty, and moves all the
-- same. Blocks move one at a time, in any order that is allowed. An actor takes one block from each channel into it,
-- computes, and puts one on each channel out of it.
--
-- What an actor is doing follows from how many blocks have moved at its channels. It has completed i firings when i
-- blocks have moved at its end of each of them. It is idle when none has moved more; taking, when some channels into it
-- have given block i and others have not; putting, when all have. Its state and the blocks that it is putting are what
-- its steps make of all that it took.
use Rattle.std.specs.Prelude.{◌≡◌, ◌≢◌, ℕ, ◌+◌, ◌-◌, ◌≤◌, ◌<◌, cond, List, [], ◌∷◌, ◌++◌, ◌==◌}
use Rattle.sdf_actor.specs.Histories.{Wiring, Answers, taken, taken_before, spread}

-- how many blocks were taken from each channel and put on it, and all the samples that it was given
pub record Machine (A : Type 0) : Type 0 where
  pub took : ℕ → ℕ
  pub gave : ℕ → ℕ
  pub lists : ℕ → List A

-- one block moves at one end of a channel
pub data Event : Type 0 where
  Take : (c : ℕ) → Event
  Put : (c : ℕ) → Event

-- how many samples were put on channel c so far, those that it began with among them, and how many were taken from it
abbrev pub put_on : {A : Type 0} → Wiring A → Machine A → ℕ → ℕ
put_on f s c = f.rates.initial c + f.rates.produced c (s.gave c)

abbrev pub taken_from : {A : Type 0} → Wiring A → Machine A → ℕ → ℕ
taken_from f s c = f.rates.consumed c (s.took c)

-- the block that firing i of its source puts on channel c, by what the source has taken of the lists V
abbrev pub block : {A : Type 0} → Wiring A → Answers A → (ℕ → List A) → ℕ → ℕ → List A
block f answer V i c =
    spread (λ d. f.rates.produced d (i + 1) - f.rates.produced d i) (f.outs (f.rates.source c))
    (answer (f.rates.source c) (taken_before f V (f.rates.source c) i) (taken f V (f.rates.source c) i)) c

-- nothing has moved
abbrev pub at_start : {A : Type 0} → Wiring A → Machine A
at_start f = record { took = λ _. 0; gave = λ _. 0; lists = f.starts }

abbrev pub happens : {A : Type 0} → Wiring A → Answers A → Machine A → Event → Machine A
happens f answer s (Take c) = record {
  took = λ d. cond (c == d) (s.took d + 1) (s.took d);
  gave = s.gave;
  lists = s.lists;
}
happens f answer s (Put c) = record {
  took = s.took;
  gave = λ d. cond (c == d) (s.gave d + 1) (s.gave d);
  lists = λ d. cond (c == d) (s.lists d ++ block f answer s.lists (s.gave d) d) (s.lists d);
}

-- each channel into the actor has given it i blocks. For HasReceived: each from another actor has
abbrev pub HasTaken : {A : Type 0} → Wiring A → Machine A → ℕ → ℕ → Type 0
HasTaken f s a i = (c : ℕ) → c < f.rates.channels → f.rates.target c ≡ a → i ≤ s.took c

abbrev pub HasReceived : {A : Type 0} → Wiring A → Machine A → ℕ → ℕ → Type 0
HasReceived f s a i = (c : ℕ) → c < f.rates.channels → f.rates.target c ≡ a → f.rates.source c ≢ a → i ≤ s.took c

-- each channel out of the actor was given i blocks. For HasKept: each that leads back to it was
abbrev pub HasPut : {A : Type 0} → Wiring A → Machine A → ℕ → ℕ → Type 0
HasPut f s a i = (c : ℕ) → c < f.rates.channels → f.rates.source c ≡ a → i ≤ s.gave c

abbrev pub HasKept : {A : Type 0} → Wiring A → Machine A → ℕ → ℕ → Type 0
HasKept f s a i = (c : ℕ) → c < f.rates.channels → f.rates.source c ≡ a → f.rates.target c ≡ a → i ≤ s.gave c

-- the target of channel c takes its next block there: it has taken fewer than its k blocks, completed all earlier
-- firings, and finds the block. From itself it takes last of all, as it computes
pub record CanTake {A : Type 0} (f : Wiring A) (k : ℕ → ℕ) (s : Machine A) (c : ℕ) : Type 0 where
  pub known : c < f.rates.channels
  pub left : s.took c < k (f.rates.target c)
  pub taken : HasTaken f s (f.rates.target c) (s.took c)
  pub put : HasPut f s (f.rates.target c) (s.took c)
  pub holds : f.rates.consumed c (s.took c + 1) ≤ put_on f s c
  pub own : f.rates.source c ≡ f.rates.target c → HasReceived f s (f.rates.target c) (s.took c + 1)

-- the source of channel c puts its next block there: it has taken all blocks of this firing, completed all earlier
-- ones, and finds room. To itself it puts first of all, as it computes
pub record CanPut {A : Type 0} (f : Wiring A) (k cap : ℕ → ℕ) (s : Machine A) (c : ℕ) : Type 0 where
  pub known : c < f.rates.channels
  pub left : s.gave c < k (f.rates.source c)
  pub taken : HasTaken f s (f.rates.source c) (s.gave c + 1)
  pub put : HasPut f s (f.rates.source c) (s.gave c)
  pub room : f.rates.initial c + f.rates.produced c (s.gave c + 1) ≤ cap c + taken_from f s c
  pub own : f.rates.target c ≢ f.rates.source c → HasKept f s (f.rates.source c) (s.gave c + 1)

-- what may happen next if each actor a fires k a times and each channel c holds at most cap c samples
abbrev pub IsAllowed : {A : Type 0} → Wiring A → (ℕ → ℕ) → (ℕ → ℕ) → Machine A → Event → Type 0
IsAllowed f k cap s (Take c) = CanTake f k s c
IsAllowed f k cap s (Put c) = CanPut f k cap s c

-- events one after another, each allowed when it happens
abbrev pub IsRun : {A : Type 0} → Wiring A → Answers A → (ℕ → ℕ) → (ℕ → ℕ) → Machine A → List Event → Type 0
IsRun f answer k cap s [] = Unit {0}
IsRun f answer k cap s (e ∷ es) = IsAllowed f k cap s e × IsRun f answer k cap (happens f answer s e) es

abbrev pub after : {A : Type 0} → Wiring A → Answers A → Machine A → List Event → Machine A
after f answer s [] = s
after f answer s (e ∷ es) = after f answer (happens f answer s e) es
