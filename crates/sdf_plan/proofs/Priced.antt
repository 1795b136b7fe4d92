-- Lawful costs of a graph's actors are accepted.
use Rattle.std.proofs.Common.{◌≡◌, ◌∙◌, ℕ, List, Result, Ok, Err, inl, inr, subst, sym, arith}
use Rattle.std.specs.Prelude.{MatchResult}
use Rattle.sdf_prec.specs.declared.fault.PrecFault.{PrecFault}
use Rattle.sdf_prec.specs.declared.fault.PrecFault.TheVariants.{OutOfMemory, BadCost}
use Rattle.sdf_prec.specs.Costs.{AreCosts, IsBadCost, IsCostFault}
use Rattle.sdf_file.specs.Designs.{HaveCosts}

none_bad : (n : ℕ) (costs : List ℕ) (a : ℕ) → AreCosts n costs → IsBadCost n costs a → ⊥
none_bad n costs a are is = elim is.bad [
  | inl low ↦ low.1 (are.each a low.0)
  | inr long ↦ absurd (omega (arith, long.1, are.all))
]

lawful : (n : ℕ) (costs : List ℕ) → HaveCosts n costs → AreCosts n costs
lawful n costs are = record { all = are.all; each = are.each }

-- costs that are those of a design, by the number of actors of its graph
pub accepted : (n m : ℕ) (costs own : List ℕ) (r : Result (List ℕ) PrecFault) → n ≡ m → costs ≡ own → HaveCosts m own →
    MatchResult r (λ c. (c ≡ costs) × AreCosts n costs) (IsCostFault n costs) →
    MatchResult r (λ c. c ≡ own) (λ fault. fault ≡ OutOfMemory)
accepted n m costs own (Ok c) actors same are is = is.0 ∙ same
accepted n m costs own (Err OutOfMemory) actors same are is = absurd is
accepted n m costs own (Err (BadCost a)) actors same are is = absurd (none_bad n costs a
    (lawful n costs (subst (λ k. HaveCosts k costs) (sym actors) (subst (HaveCosts m) (sym same) are))) is)
accepted n m costs own (Err _) actors same are is = absurd is
