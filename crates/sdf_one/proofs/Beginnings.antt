-- An actor's work before its first firing.
use Rattle.std.proofs.Common.{◌≡◌, ℕ, zero, suc, ◌+◌, ◌%◌, ◌≤◌, ◌<◌, length, get_or, refl, sym, ap, ◌∙◌, subst, inl}
use Rattle.std.proofs.Common.{inr}
use Rattle.std.proofs.Common.{◌⊎◌, arith, vec_len}
use Rattle.std.specs.List.{sum_by}
use Rattle.std.specs.Borrow.{Bor}
use Rattle.std.specs.Global.{Global}
use Rattle.std.specs.declared.vec.Vec.{Vec}
use Rattle.std.proofs.Math.Nat.{mod-eq_of_lt}
use Rattle.std.proofs.lemmas.Bool.{cases_lt}
use Rattle.sdf_graph.specs.Rates.{sum_to}
use Rattle.sdf_actor.specs.declared.node.Node.TheVariants as node
use Rattle.sdf_actor.specs.Steps.{Steps, total_in, total_out, sum_in, sum_out}
use Rattle.sdf_actor.specs.Nets as nets
use Rattle.sdf_actor.specs.Nets.{Netlist, wiring, IsNet}
use Rattle.sdf_queues.proofs.Theorems.{plans_fit}
use Rattle.sdf_queues.specs.Sizes.{SizesValue, IsPlan, AreSizes, at_phase, phase_of, in_all, out_all}
use Rattle.sdf_one.specs.declared.work.Work.TheVariants.{Inner}
use Rattle.sdf_one.specs.Cycles.{AreRowsAt}
use Rattle.sdf_one.specs.Runs.{HasBlocks, BeginsWork}
use Rattle.sdf_one.proofs.Readings.{vec_long, vec_room}

-- sums of the same terms, and one term of a sum
sum_alike : (f g : ℕ → ℕ) (many : ℕ) → ((i : ℕ) → i < many → f i ≡ g i) → sum_to f many ≡ sum_to g many
sum_alike f g zero same = refl
sum_alike f g (suc many) same =
    omega (arith, sum_alike f g many (λ i l. same i (omega arith)), same many (omega arith))

one_of_sum : (f : ℕ → ℕ) (many i : ℕ) → i < many → f i ≤ sum_to f many
one_of_sum f zero i l = absurd (omega arith)
one_of_sum f (suc many) i l = go (λ less. one_of_sum f many i less) (cases_lt i many)
  where
    go : (i < many → f i ≤ sum_to f many) → (i < many) ⊎ (many ≤ i) → f i ≤ sum_to f many + f many
    go before (inl less) = omega (arith, before less)
    go before (inr last) =
        let same : f i ≡ f many = ap f (let e : i ≡ many = omega arith in e) in omega (arith, same)

module _ {A S T : Type 0} (s : Steps A S T) (n : Netlist A T) (good : IsNet s n) (z : SizesValue)
    (sizes : AreSizes s n z)
    (a : ℕ) (known : a < length n.nodes) (x : A) (is : nets.node n a ≡ node.Inner x) where
  -- firing j of the first cycle is at phase j
  turn : (j : ℕ) → j < s.cycle x → phase_of s (nets.node n a) j ≡ j
  turn j h = ap (λ y. phase_of s y j) is ∙ mod-eq_of_lt h

  pub first_plan : (j : ℕ) → j < s.cycle x → IsPlan s n a j (at_phase z.takes j) (at_phase z.puts j)
  first_plan j h = subst (λ i. IsPlan s n a j (at_phase z.takes i) (at_phase z.puts i)) (turn j h)
      (sizes.plan a j known)

  -- each of its phases has its sizes
  pub rows_in : AreRowsAt ((wiring s n).ins a) z.takes (s.cycle x)
  rows_in j h =
      let at = first_plan j h in
      let ports = plans_fit s n a j (at_phase z.takes j) (at_phase z.puts j) good known at in (
        omega (arith, turn j h, sizes.takes_known a j known),
        λ p l. omega (arith, at.takes_all, ports.ins_are.known p l),
      )

  pub rows_out : AreRowsAt ((wiring s n).outs a) z.puts (s.cycle x)
  rows_out j h =
      let at = first_plan j h in
      let ports = plans_fit s n a j (at_phase z.takes j) (at_phase z.puts j) good known at in (
        omega (arith, turn j h, sizes.puts_known a j known),
        λ p l. omega (arith, at.puts_all, ports.outs_are.known p l),
      )

  pub some_phases : 0 < s.cycle x
  some_phases = subst (λ y. 0 < nets.cycle_of s y) is (sizes.some a known)

  all_in : (j : ℕ) → j < s.cycle x → sum_by (λ c. get_or (at_phase z.takes j) c 0) ((wiring s n).ins a) ≡ total_in s x j
  all_in j h = (plans_fit s n a j (at_phase z.takes j) (at_phase z.puts j) good known (first_plan j h)).taken
      ∙ (ap (λ y. in_all s y j) is ∙ ap (total_in s x) (mod-eq_of_lt h))

  all_out : (j : ℕ) → j < s.cycle x → sum_by (λ c. get_or (at_phase z.puts j) c 0) ((wiring s n).outs a) ≡
      total_out s x j
  all_out j h = (plans_fit s n a j (at_phase z.takes j) (at_phase z.puts j) good known (first_plan j h)).put
      ∙ (ap (λ y. out_all s y j) is ∙ ap (total_out s x) (mod-eq_of_lt h))

  cycle_in : sum_in s x 0 (s.cycle x) ≡
      sum_to (λ j. sum_by (λ c. get_or (at_phase z.takes j) c 0) ((wiring s n).ins a)) (s.cycle x)
  cycle_in = sum_alike (λ j. total_in s x ((0 + j) % s.cycle x))
      (λ j. sum_by (λ c. get_or (at_phase z.takes j) c 0) ((wiring s n).ins a)) (s.cycle x)
      (λ j h. ap (total_in s x) (ap (λ v. v % s.cycle x) (let v : 0 + j ≡ j = omega arith in v) ∙ mod-eq_of_lt h)
      ∙ sym (all_in j h))

  cycle_out : sum_out s x 0 (s.cycle x) ≡
      sum_to (λ j. sum_by (λ c. get_or (at_phase z.puts j) c 0) ((wiring s n).outs a)) (s.cycle x)
  cycle_out = sum_alike (λ j. total_out s x ((0 + j) % s.cycle x))
      (λ j. sum_by (λ c. get_or (at_phase z.puts j) c 0) ((wiring s n).outs a)) (s.cycle x)
      (λ j h. ap (total_out s x) (ap (λ v. v % s.cycle x) (let v : 0 + j ≡ j = omega arith in v) ∙ mod-eq_of_lt h)
      ∙ sym (all_out j h))

  pub blocks : (taken put : Vec T Global) (cycle : ℕ) → cycle ≡ s.cycle x →
      sum_to (λ j. sum_by (λ c. get_or (at_phase z.takes j) c 0) ((wiring s n).ins a)) cycle ≤ vec_len taken →
      sum_to (λ j. sum_by (λ c. get_or (at_phase z.puts j) c 0) ((wiring s n).outs a)) cycle ≤ vec_len put →
      HasBlocks s x taken put
  blocks taken put cycle own fits_in fits_out =
      let ins : ℕ → ℕ = λ j. sum_by (λ c. get_or (at_phase z.takes j) c 0) ((wiring s n).ins a) in
      let outs : ℕ → ℕ = λ j. sum_by (λ c. get_or (at_phase z.puts j) c 0) ((wiring s n).outs a) in
      let all_taken : sum_to ins (s.cycle x) ≤ vec_len taken = subst (λ m. sum_to ins m ≤ vec_len taken) own fits_in in
      let all_put : sum_to outs (s.cycle x) ≤ vec_len put = subst (λ m. sum_to outs m ≤ vec_len put) own fits_out in
      record {
        some = some_phases;
        taken_fits = λ j h. omega (arith, all_in j h, one_of_sum ins (s.cycle x) j h, all_taken, vec_room taken);
        put_fits = λ j h. omega (arith, all_out j h, one_of_sum outs (s.cycle x) j h, all_put, vec_long put);
        taken_cycle = omega (arith, cycle_in, all_taken, vec_room taken);
        put_cycle = omega (arith, cycle_out, all_put, vec_long put);
      }

  pub begun : (actor : Bor A) (state : S) (taken put : Vec T Global) → actor.now ≡ x →
      state ≡ s.start x → HasBlocks s x taken put →
      BeginsWork s (nets.node n a) (Inner actor 0 state taken put)
  begun actor state taken put actor_is state_is has =
      subst (λ y. BeginsWork s y (Inner actor 0 state taken put)) (sym is) (actor_is, refl, state_is, has)
