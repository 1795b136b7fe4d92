-- A run of no period, and the lists of a net whose periods read samples.
use Rattle.std.proofs.Common.{◌≡◌, ℕ, ◌+◌, ◌*◌, ◌≤◌, ◌<◌, List, [], ◌∷◌, length, get_or, take, refl, sym, ap, ◌∙◌}
use Rattle.std.proofs.Common.{suc, subst, arith, zero-mul, ⊎_elim}
use Rattle.std.specs.Prelude.{max}
use Rattle.std.specs.List.{fold}
use Rattle.std.specs.Option.{option_map_or}
use Rattle.std.proofs.lemmas.Bool.{cases_lt}
use Rattle.std.proofs.Math.Nat.{mul-le-mul_left}
use Rattle.sdf_actor.specs.declared.node.Node.{Node}
use Rattle.sdf_actor.specs.declared.node.Node.TheVariants.{Source, Sink, Inner}
use Rattle.sdf_actor.specs.declared.net_state.NetState.{NetState}
use Rattle.sdf_actor.specs.declared.sides.Lists.TheVariants.{Inputs, Outputs}
use Rattle.sdf_actor.specs.Nets.{Netlist, node, wire, to_port, consumed_at}
use Rattle.sdf_actor.specs.NetStates.{IsNetState}
use Rattle.sdf_actor.specs.Sides.{list_count, list_of, block_of, first_with, period_samples}
use Rattle.sdf_actor.specs.Steps.{Steps}
use Rattle.sdf_queues.specs.RunResults.{HasInputs, periods_of}
use Rattle.sdf_queues.specs.Feeds.{HasRun}

-- a node that has not fired has taken nothing
none_taken : {A S T : Type 0} (s : Steps A S T) (x : Node A) (port : ℕ) → consumed_at s x port 0 ≡ 0
none_taken s (Source ext block) port = refl
none_taken s (Sink ext block) port = omega arith
none_taken s (Inner x) port = refl

-- so no period is a run that makes empty lists
pub no_period_runs : {A S T : Type 0} (s : Steps A S T) (n : Netlist A T) (q : List ℕ) (given made : List (List T))
    (rest : NetState T S) → length made ≡ list_count Outputs n.nodes → ((e : ℕ) → get_or made e [] ≡ []) →
    IsNetState s n given (λ _. 0) rest → HasRun s n given (periods_of q 0) made rest
no_period_runs s n q given made rest count empty is =
    subst (λ k. HasRun s n given k made rest) (λ κ a. sym (zero-mul (get_or q a 0)) κ)
    (record {
      history = is.history;
      is = is.is;
      count = count;
      each = λ a e block l sink.
          let c : ℕ = to_port n a 0 in
          empty e ∙ sym (ap (λ i. take i (is.history c)) (none_taken s (node n (wire n c).to.0) (wire n c).to.1));
      left = is.left;
    })

module _ {A : Type 0} where
  abbrev up_to : ℕ → Node A → ℕ
  up_to m x = max m (option_map_or (λ e. e + 1) (list_of Inputs x) 0)

  rises : (xs : List (Node A)) (m : ℕ) → m ≤ fold up_to m xs
  rises [] m = omega arith
  rises (x ∷ xs) m = omega (arith, rises xs (up_to m x))

  later : (x : Node A) (xs : List (Node A)) (k : ℕ) → 0 < block_of (get_or (x ∷ xs) (1 + k) (Sink 0 0)) →
      0 < block_of (get_or xs k (Sink 0 0))
  later x xs k h = subst (λ i. 0 < block_of (get_or (x ∷ xs) i (Sink 0 0)))
      (let e : 1 + k ≡ suc k = omega arith in e) h

  read : (xs : List (Node A)) (m : ℕ) → 0 < block_of (get_or xs (first_with Inputs xs) (Sink 0 0)) → 0 < fold up_to m xs
  read [] m h = absurd (omega (arith, h))
  read (Source ext block ∷ xs) m h = omega (arith, rises xs (max m (ext + 1)))
  read (Sink ext block ∷ xs) m h = read xs (max m 0) (later (Sink ext block) xs (first_with Inputs xs) h)
  read (Inner x ∷ xs) m h = read xs (max m 0) (later (Inner x) xs (first_with Inputs xs) h)

  -- a net whose periods read samples has an input list
  pub samples_have_lists : (xs : List (Node A)) (q : List ℕ) → 0 < period_samples xs Inputs q →
      0 < list_count Inputs xs
  samples_have_lists xs q some =
      let block : ℕ = block_of (get_or xs (first_with Inputs xs) (Sink 0 0)) in
      ⊎_elim (λ here. read xs 0 here)
      (λ none. let gone : block * get_or q (first_with Inputs xs) 0 ≡ 0 =
      ap (λ b. b * get_or q (first_with Inputs xs) 0) (let z : block ≡ 0 = omega arith in z)
      ∙ zero-mul (get_or q (first_with Inputs xs) 0) in
      absurd (omega (arith, gone, some)))
      (cases_lt 0 block)

-- inputs without a sample hold no period
pub no_periods : {A T : Type 0} (n : Netlist A T) (q : List ℕ) (periods : ℕ) (inputs : List (List T)) →
    HasInputs n q periods inputs → 0 < period_samples n.nodes Inputs q → length (get_or inputs 0 []) ≡ 0 →
    periods ≡ 0
no_periods n q periods inputs has some empty =
    let many : 0 < length inputs = omega (arith, has.count, samples_have_lists n.nodes q some) in
    let least : periods * 1 ≤ periods * period_samples n.nodes Inputs q =
    mul-le-mul_left periods (omega (arith, some)) in
    omega (arith, least, has.enough 0 many, empty)
