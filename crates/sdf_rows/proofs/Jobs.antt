-- The firings of one row.
use Rattle.std.proofs.Common.{◌≡◌, ℕ, suc, ◌<◌, List, [], ◌∷◌, ◌++◌, length, get_or, take, refl, sym, ap, ◌∙◌, subst}
use Rattle.std.proofs.Common.{arith}
use Rattle.std.specs.List.{sum_by}
use Rattle.std.proofs.lemmas.List.{length-append, length-take-le, same_lists, get_or-map, length-map, get_or_default}
use Rattle.std.proofs.lemmas.List.Sums.{sum_by-cons}
use Rattle.sdf_actor.specs.Steps.{Steps}
use Rattle.sdf_actor.specs.declared.node.Node.{Node}
use Rattle.sdf_actor.specs.declared.node.Node.TheVariants.{Source, Sink, Inner}
use Rattle.sdf_actor.specs.Nets.{Netlist, node, wiring}
use Rattle.sdf_node.specs.Nodes.{takes_of, puts_of, CanStep}
use Rattle.sdf_rows.specs.declared.row_firing.RowFiring.{RowFiring}
use Rattle.sdf_queues.specs.QueueValue.{QueueValue}
use Rattle.sdf_queues.specs.Blocks.{samples, HoldBlocks, front}
use Rattle.sdf_queues.specs.Sizes.{SizesValue, at_phase, phase_of, in_all, out_all}
use Rattle.sdf_rows.specs.Jobs.{JobFits}
use Rattle.sdf_rows.specs.Loading.{actors_of}

-- what a firing moves in all is that of its phase
pub in_is : {A S T : Type 0} (s : Steps A S T) (x : Node A) (i : ℕ) → in_all s x i ≡ takes_of s x (phase_of s x i)
in_is s (Source ext block) i = refl
in_is s (Sink ext block) i = omega arith
in_is s (Inner x) i = refl

pub out_is : {A S T : Type 0} (s : Steps A S T) (x : Node A) (i : ℕ) → out_all s x i ≡ puts_of s x (phase_of s x i)
out_is s (Source ext block) i = omega arith
out_is s (Sink ext block) i = refl
out_is s (Inner x) i = refl

-- jobs of these actors
pub actors_are : {A S T : Type 0} (jobs : List (RowFiring A T S)) (acts : List ℕ) → length jobs ≡ length acts →
    ((i : ℕ) (d : RowFiring A T S) → i < length jobs → (get_or jobs i d).actor ≡ get_or acts i 0) →
    actors_of jobs ≡ acts
actors_are {A} {S} {T} jobs acts all each =
    same_lists (actors_of jobs) acts (length-map jobs (λ j. j.actor) ∙ all)
    (λ i d h.
    let l : i < length jobs = omega (arith, length-map jobs (λ j. j.actor)) in
    let j : RowFiring A T S = some_job jobs i l in
    get_or-map (λ (j : RowFiring A T S). j.actor) jobs i j d l ∙ (each i j l ∙ get_or_default acts i 0 d (omega arith)))
  where
    some_job : (js : List (RowFiring A T S)) (i : ℕ) → i < length js → RowFiring A T S
    some_job [] i h = absurd (omega arith)
    some_job (j ∷ js) i h = j

-- a block at the front has its length
pub length_fronts : {T : Type 0} (takes ins : List ℕ) (ls : List (QueueValue T)) → HoldBlocks ins takes ls →
    length (front takes ins ls) ≡ sum_by (λ c. get_or takes c 0) ins
length_fronts takes [] ls held = refl
length_fronts takes (c ∷ cs) ls held =
    let one : length (take (get_or takes c 0) (samples ls c)) ≡ get_or takes c 0 =
    length-take-le (get_or takes c 0) (samples ls c) (held 0 (omega arith)) in
    let rest : length (front takes cs ls) ≡ sum_by (λ c. get_or takes c 0) cs =
    length_fronts takes cs ls (λ n l. held (suc n) (omega arith)) in
    omega (
      arith,
      length-append (take (get_or takes c 0) (samples ls c)) (front takes cs ls),
      sum_by-cons (λ c. get_or takes c 0) c cs,
    )

-- what is read is the block that the firing takes
pub read_is : {T : Type 0} (ins ins' takes takes' : List ℕ) (ls : List (QueueValue T)) (was items : List T) →
    ins ≡ ins' →
    takes ≡ takes' → was ≡ [] → items ≡ was ++ front takes ins ls → items ≡ front takes' ins' ls
read_is ins ins' takes takes' ls was items is ts none all =
    all ∙ (ap (λ xs. xs ++ front takes ins ls) none ∙ (λ i. front (ts i) (is i) ls))

module _ {A S T : Type 0} (s : Steps A S T) (n : Netlist A T) (inputs : List (List T)) (z : SizesValue)
    (ls : List (QueueValue T))
    (j : RowFiring A T S) (fits : JobFits s n inputs z ls j) where
  pub can_here : (x : Node A) (items : List T) (many : ℕ) → x ≡ node n j.actor →
      items ≡ front (at_phase z.takes j.phase) ((wiring s n).ins j.actor) ls → many ≡ puts_of s x j.phase →
      CanStep s inputs x j.state (length items) many
  can_here x items many x_is items_is many_is =
      let total : ℕ = sum_by (λ c. get_or (at_phase z.takes j.phase) c 0) ((wiring s n).ins j.actor) in
      let long : total ≡ length items = sym (ap length items_is
      ∙ length_fronts (at_phase z.takes j.phase) ((wiring s n).ins j.actor) ls fits.held) in
      let more : puts_of s (node n j.actor) j.phase ≡ many = sym (many_is ∙ ap (λ y. puts_of s y j.phase) x_is) in
      subst (λ y. CanStep s inputs y j.state (length items) many) (sym x_is)
      (subst (λ l. CanStep s inputs (node n j.actor) j.state l many) long
      (subst (λ m. CanStep s inputs (node n j.actor) j.state total m) more fits.can))
