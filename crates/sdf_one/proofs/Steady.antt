-- A node of one phase, each of whose firings moves the same.
use Rattle.std.proofs.Common.{◌≡◌, ℕ, zero, suc, ◌+◌, ◌*◌, ◌%◌, ◌<◌, List, length, get_or, sym, ap, ◌∙◌, subst}
use Rattle.std.proofs.Common.{arith}
use Rattle.std.proofs.Math.Nat.{mod-one}
use Rattle.sdf_actor.specs.Nets as nets
use Rattle.sdf_actor.specs.Nets.{wiring, cycle_of}
use Rattle.sdf_one.specs.declared.work.Work.{Work}
use Rattle.sdf_queues.specs.Sizes.{IsPlan, at_phase, phase_of}
use Rattle.sdf_one.specs.Firings.{phase_at}
use Rattle.sdf_one.proofs.Holding.{Holding}
use Rattle.sdf_one.proofs.Standing as standing

module _ {A S T Z : Type 0} (g : Holding A S T Z) (d : Work A T S)
    (one_phase : cycle_of g.s (nets.node g.n g.a) ≡ 1) where
  open g use {s, n, net, z, sizes, k, a, known, works, qs}

  abbrev pub takes : List ℕ
  takes = at_phase z.takes (phase_at (get_or works a d))

  abbrev pub puts : List ℕ
  puts = at_phase z.puts (phase_at (get_or works a d))

  same_phase : (i : ℕ) → phase_of s (nets.node n a) i ≡ phase_at (get_or works a d)
  same_phase i =
      let none : (j : ℕ) → phase_of s (nets.node n a) j ≡ 0 = (λ j. at_zero j) in
      none i ∙ sym (standing.at g d ∙ none (k a))
    where
      at_zero : (j : ℕ) → phase_of s (nets.node n a) j ≡ 0
      at_zero j = ap (λ c. j % c) one_phase ∙ mod-one j

  pub plan : (i : ℕ) → IsPlan s n a i takes puts
  plan i = subst (λ j. IsPlan s n a i (at_phase z.takes j) (at_phase z.puts j)) (same_phase i) (sizes.plan a i known)

  pub all_taken : (c : ℕ) → c < length n.wires → (wiring s n).rates.target c ≡ a → (t : ℕ) →
      (wiring s n).rates.consumed c (k a + t) ≡ (wiring s n).rates.consumed c (k a) + t * get_or takes c 0
  all_taken c l e zero = ap ((wiring s n).rates.consumed c) (let y : k a + 0 ≡ k a = omega arith in y) ∙
      (let y : (wiring s n).rates.consumed c (k a) ≡ (wiring s n).rates.consumed c (k a) + 0 * get_or takes c 0 =
      omega arith in y)
  all_taken c l e (suc t) =
      let next : (wiring s n).rates.consumed c (k a + suc t) ≡ (wiring s n).rates.consumed c (k a + t + 1) =
      ap ((wiring s n).rates.consumed c) (let y : k a + suc t ≡ k a + t + 1 = omega arith in y) in
      let split : suc t * get_or takes c 0 ≡ t * get_or takes c 0 + get_or takes c 0 = omega arith in
      omega (arith, all_taken c l e t, (plan (k a + t)).taken c l e)

  pub all_put : (c : ℕ) → c < length n.wires → (wiring s n).rates.source c ≡ a → (t : ℕ) →
      (wiring s n).rates.produced c (k a + t) ≡ (wiring s n).rates.produced c (k a) + t * get_or puts c 0
  all_put c l e zero = ap ((wiring s n).rates.produced c) (let y : k a + 0 ≡ k a = omega arith in y) ∙
      (let y : (wiring s n).rates.produced c (k a) ≡ (wiring s n).rates.produced c (k a) + 0 * get_or puts c 0 =
      omega arith in y)
  all_put c l e (suc t) =
      let next : (wiring s n).rates.produced c (k a + suc t) ≡ (wiring s n).rates.produced c (k a + t + 1) =
      ap ((wiring s n).rates.produced c) (let y : k a + suc t ≡ k a + t + 1 = omega arith in y) in
      let split : suc t * get_or puts c 0 ≡ t * get_or puts c 0 + get_or puts c 0 = omega arith in
      omega (arith, all_put c l e t, (plan (k a + t)).put c l e)
