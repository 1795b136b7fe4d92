-- Jobs that keep their blocks.
use Rattle.std.proofs.Common.{◌≡◌, ℕ, ◌<◌, List, length, get_or, set, vec_capacity, sym, ap, ◌∙◌, subst, inl, inr, ◌⊎◌}
use Rattle.std.proofs.Common.{arith}
use Rattle.std.proofs.lemmas.List.{get_or-set_same, get_or-set_other, get_or_default, length-set}
use Rattle.std.proofs.lemmas.Bool.{cases_eq}
use Rattle.sdf_actor.specs.Steps.{Steps}
use Rattle.sdf_actor.specs.Nets.{Netlist}
use Rattle.sdf_rows.specs.declared.row_firing.RowFiring.{RowFiring}
use Rattle.sdf_rows.specs.RowStates.{HaveBlocks, KeepBlocks}

pub keep_twice : {A S T : Type 0} (x y z : List (RowFiring A T S)) → KeepBlocks x y → KeepBlocks y z → KeepBlocks x z
keep_twice x y z one two = record {
  all = two.all ∙ one.all;
  taken = λ i j h. two.taken i j (omega (arith, one.all)) ∙ one.taken i j h;
  put = λ i j h. two.put i j (omega (arith, one.all)) ∙ one.put i j h;
}

pub keep_have : {A S T : Type 0} (s : Steps A S T) (n : Netlist A T) (x y : List (RowFiring A T S)) → HaveBlocks s n x →
    KeepBlocks x y → HaveBlocks s n y
keep_have s n x y have keeps i j h =
    let l : i < length x = omega (arith, keeps.all) in
    let was = have i j l in
    record {
      taken = λ a p k. omega (arith, was.taken a p k, keeps.taken i j l);
      put = λ a p k. omega (arith, was.put a p k, keeps.put i j l);
    }

-- one job is changed, and keeps them
pub kept_set : {A S T : Type 0} (was jobs : List (RowFiring A T S)) (i : ℕ) (job' d : RowFiring A T S) →
    KeepBlocks was jobs →
    i < length jobs → job'.taken ≡ (get_or jobs i d).taken → job'.put ≡ (get_or jobs i d).put →
    KeepBlocks was (set jobs i job')
kept_set {A} {S} {T} was jobs i job' d keeps h taken_is put_is = record {
  all = length-set jobs i job' ∙ keeps.all;
  taken = λ p j l. cap p j (cases_eq i p) ∙ keeps.taken p j l;
  put = λ p j l. long p j (cases_eq i p) ∙ keeps.put p j l;
}
  where
    cap : (p : ℕ) (j : RowFiring A T S) → (i ≡ p) ⊎ (i ≡ p → ⊥) →
        vec_capacity (get_or (set jobs i job') p j).taken ≡ vec_capacity (get_or jobs p j).taken
    cap p j (inl e) =
        subst (λ p. vec_capacity (get_or (set jobs i job') p j).taken ≡ vec_capacity (get_or jobs p j).taken) e
        (ap (λ (x : RowFiring A T S). vec_capacity x.taken) (get_or-set_same jobs i job' j h)
        ∙ (ap (λ v. vec_capacity v) taken_is ∙ ap (λ (x : RowFiring A T S). vec_capacity x.taken)
        (get_or_default jobs i d j h)))
    cap p j (inr ne) = ap (λ (x : RowFiring A T S). vec_capacity x.taken)
        (get_or-set_other jobs i p job' j (λ e. ne (sym e)))

    long : (p : ℕ) (j : RowFiring A T S) → (i ≡ p) ⊎ (i ≡ p → ⊥) →
        length (get_or (set jobs i job') p j).put.items ≡ length (get_or jobs p j).put.items
    long p j (inl e) =
        subst (λ p. length (get_or (set jobs i job') p j).put.items ≡ length (get_or jobs p j).put.items) e
        (ap (λ (x : RowFiring A T S). length x.put.items) (get_or-set_same jobs i job' j h)
        ∙ (ap (λ v. length v.items) put_is ∙ ap (λ (x : RowFiring A T S). length x.put.items)
        (get_or_default jobs i d j h)))
    long p j (inr ne) = ap (λ (x : RowFiring A T S). length x.put.items)
        (get_or-set_other jobs i p job' j (λ e. ne (sym e)))
