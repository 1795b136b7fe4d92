-- What the outputs of the first parts became grows by a part, stretch by stretch.
use Rattle.std.proofs.Common.{◌≡◌, ℕ, ◌+◌, ◌-◌, ◌≤◌, ◌<◌, List, [], ◌∷◌, ◌++◌, length, get_or, Option}
use Rattle.std.proofs.Common.{Some, sym, ap, ◌∙◌, arith, subst, ⊎_elim, refl, append_assoc}
use Rattle.std.proofs.lemmas.Bool.{cases_lt}
use Rattle.std.proofs.lemmas.List.{length-replicate}
use Rattle.sdf_actor.specs.declared.net_state.NetState.{NetState}
use Rattle.sdf_actor.specs.declared.sides.Lists.TheVariants.{Outputs}
use Rattle.sdf_actor.specs.Sides.{list_count}
use Rattle.sdf_actor.specs.Steps.{Steps}
use Rattle.sdf_queues.specs.Feeds.{GoesOnBy}
use Rattle.sdf_queues.specs.Periods.{HasPeriod}
use Rattle.sdf_parallel.specs.Cuts.{join}
use Rattle.sdf_parallel.specs.declared.part.Split.{Split}
use Rattle.sdf_parallel.specs.Parts.{AreStretches, IsStretch, IsSplit, IsPart, IsWarmedUp, HasParts, GoesOnInParts}
use Rattle.sdf_parallel.specs.Parts.{read_by, none as no_part, more as one_part}
use Rattle.sdf_parallel.specs.Parts.{first as first_stretch, next as next_stretch}
use Rattle.sdf_parallel.proofs.Bounding.{AreMarks}
use Rattle.sdf_parallel.proofs.Joining.{one_more, stretch_more, all_read}
use Rattle.sdf_parallel.proofs.Joined.{joined_is, joined_long, same_lists}
use Rattle.sdf_parallel.proofs.Warmed.{blank, blank_at}

-- a run came as far as this: what was made, and what it leaves
pub record Reached {A S T M : Type 0} (s : Steps A S T) (inputs : List (List T))
    (makes : ℕ → List (List T) → M → Type 0) (w : Split A T S) (rest : NetState T S) (to : ℕ) (made : List M)
    (last : NetState T S) : Type 0 where
  pub outputs : List (List T)
  pub parts : HasParts s w.net.now w.period.now.repetitions inputs makes rest to outputs made
  pub goes : GoesOnBy s w.net.now w.period.now.repetitions rest to
      (read_by w.net.now w.period.now.repetitions inputs 0 to) outputs last

-- what is known once the first parts are taken out
pub record Grown {A S T M : Type 0} (s : Steps A S T) (inputs : List (List T)) (makes : ℕ → List (List T) → M → Type 0)
    (w : Split A T S) (bounds : List ℕ) (rest : NetState T S) (j : ℕ) (made : List M)
    (last : Option (NetState T S)) : Type 0 where
  pub none : j ≡ 0 → made ≡ []
  pub some : 0 < j → (r : NetState T S) × (last ≡ Some r) × Reached s inputs makes w rest (get_or bounds j 0) made r

module _ {A S T M : Type 0} (s : Steps A S T) (inputs : List (List T))
    (makes : ℕ → List (List T) → M → Type 0) (w : Split A T S) (is : IsSplit s inputs w)
    (has : HasPeriod s w.net.now w.period.now) (rest : NetState T S) where
  abbrev q : List ℕ
  q = w.period.now.repetitions

  abbrev lists : ℕ
  lists = list_count Outputs w.net.now.nodes

  abbrev front : ℕ → List (List T)
  front to = read_by w.net.now q inputs 0 to

  abbrev Finishes : NetState T S → ℕ → ℕ → M → NetState T S → Type 0
  Finishes begin from to m last = IsStretch s w.net.now q inputs makes begin from to m last

  abbrev Comes : ℕ → List M → NetState T S → Type 0
  Comes to made last = Reached s inputs makes w rest to made last

  -- ---- a stretch more

  -- the first one of all
  pub begun : (to : ℕ) (m : M) (last : NetState T S) → Finishes rest 0 to m last → Comes to (m ∷ []) last
  begun to m last fin =
      let own : List (List T) = fin.outputs in
      let long : length (blank {T = T} lists) ≡ lists = length-replicate lists [] in
      let many : length (blank {T = T} lists) ≡ length own = long ∙ sym fin.goes.count in
      let same : own ≡ join (blank lists) own = sym (same_lists (join (blank lists) own) own
      (joined_long (blank lists) own ∙ many)
      (λ e. joined_is (blank lists) own (omega (arith, many)) e
      ∙ ap (λ ys. ys ++ get_or own e []) (blank_at lists e))) in
      let goes : GoesOnBy s w.net.now q rest to (front to) (join (blank lists) own) last =
      subst (λ ys. GoesOnBy s w.net.now q rest to (front to) ys last) same
      (subst (λ k. GoesOnBy s w.net.now q rest k (front to) own last) (let e : to - 0 ≡ to = omega arith in e)
      fin.goes) in
      record {
        outputs = join (blank lists) own;
        parts = one_part 0 to (blank lists) own [] m last (no_part (blank lists) long (λ e. blank_at lists e))
            (omega arith) fin.goes.count fin.becomes goes;
        goes = goes;
      }

  module _ (at to : ℕ) (order : at ≤ to) (within : to ≤ w.periods) (made : List M) (b : NetState T S)
      (before : Comes at made b) (begin : NetState T S) (m : M) (last : NetState T S)
      (fin : Finishes begin at to m last) where
    abbrev own : List (List T)
    own = fin.outputs

    many : length own ≤ length before.outputs
    many = omega (arith, before.goes.count, fin.goes.count)

    grow : GoesOnBy s w.net.now q rest to (front to) (join before.outputs own) last → Comes to (made ++ m ∷ []) last
    grow goes = record {
      outputs = join before.outputs own;
      parts = one_part at to before.outputs own made m last before.parts order fin.goes.count fin.becomes goes;
      goes = goes;
    }

    -- after a warm-up
    pub late : w.warm ≤ at → IsWarmedUp s w.net.now q inputs w.warm at begin → Comes to (made ++ m ∷ []) last
    late enough warm = grow
        (one_more s w.net.now w.period.now inputs w.periods w.warm rest has is.warm_up is.given is.full at to enough
        order within before.outputs own (join before.outputs own) b begin last before.goes warm fin.goes
        (joined_is before.outputs own many) (joined_long before.outputs own))

    -- from what the one before it leaves
    pub going_on : begin ≡ b → Comes to (made ++ m ∷ []) last
    going_on same = grow
        (stretch_more s w.net.now w.period.now inputs w.periods w.warm rest has is.warm_up is.given is.full at to order
        within before.outputs own (join before.outputs own) b last before.goes
        (subst (λ r. GoesOnBy s w.net.now q r (to - at) (read_by w.net.now q inputs at to) own last) same fin.goes)
        (joined_is before.outputs own many) (joined_long before.outputs own))

  -- ---- the stretches of a part, behind what was made before it

  module _ (from : ℕ) (begin : NetState T S) (made : List M)
      (base : (to : ℕ) (m : M) (last : NetState T S) → from ≤ to → to ≤ w.periods → Finishes begin from to m last →
      Comes to (made ++ m ∷ []) last) where
    pub all_stretches : (to : ℕ) (more : List M) (last : NetState T S) → to ≤ w.periods →
        AreStretches s w.net.now q inputs makes begin from to more last → Comes to (made ++ more) last
    all_stretches to more last within (first_stretch to' m last' order fin) = base to m last order within fin
    all_stretches to more last within (next_stretch at to' ms m mid last' before order fin) =
        subst (λ xs. Comes to xs last) (append_assoc made ms (m ∷ []))
        (going_on at to order within (made ++ ms) mid
        (all_stretches at ms mid (omega (arith, order, within)) before) mid m
        last fin refl)

  module _ (bounds : List ℕ) (are : AreMarks w bounds) where
    module _ (j : ℕ) (l : j + 1 < length bounds) (made : List M) (last : Option (NetState T S))
        (before : Grown s inputs makes w bounds rest j made last) (ms : List M) (r : NetState T S)
        (part : IsPart s w.net.now q inputs makes rest w.warm (get_or bounds j 0) (get_or bounds (j + 1) 0) ms r) where
      abbrev at : ℕ
      at = get_or bounds j 0

      abbrev to : ℕ
      to = get_or bounds (j + 1) 0

      short : to ≤ w.periods
      short = are.within (j + 1) l

      first_part : j ≡ 0 → Comes to (made ++ ms) r
      first_part z =
          let start : at ≡ 0 = ap (λ k. get_or bounds k 0) z ∙ are.first in
          let none : [] ≡ made = sym (before.none z) in
          all_stretches at part.begin made
          (λ to m last order short fin. subst (λ xs. Comes to (xs ++ m ∷ []) last) none
          (begun to m last (subst (λ b. Finishes b 0 to m last) (part.first start)
          (subst (λ k. Finishes part.begin k to m last) start fin))))
          to ms r short part.stretches

      later_part : 0 < j → Comes to (made ++ ms) r
      later_part some =
          let e : w.least ≤ at = are.late j some l in
          let known = before.some some in
          all_stretches at part.begin made
          (λ to m last order short fin. late at to order short made known.0 known.2 part.begin m last fin
          (omega (arith, is.long, e)) (part.late (omega (arith, is.some, e))))
          to ms r short part.stretches

      pub grown : Grown s inputs makes w bounds rest (j + 1) (made ++ ms) (Some r)
      grown = record {
        none = λ z. absurd (omega arith);
        some = λ some. (
          r,
          refl,
          ⊎_elim (λ z. first_part (omega arith)) later_part (cases_lt j 1),
        );
      }

    -- after all of them
    pub all_parts : (j : ℕ) → j ≡ length bounds - 1 → (made : List M) (last : Option (NetState T S))
        (r : NetState T S) → last ≡ Some r → Grown s inputs makes w bounds rest j made last →
        GoesOnInParts s w.net.now q inputs makes rest w.periods made r
    all_parts j all made last r is_last g =
        let known = g.some (omega (arith, all, are.some)) in
        let b : NetState T S = known.0 in
        let end : get_or bounds j 0 ≡ w.periods = ap (λ k. get_or bounds k 0) all ∙ are.last in
        let same : b ≡ r = (let z : Some b ≡ Some r = sym known.1 ∙ is_last in cc) in
        let came : Comes w.periods made r =
        subst (λ x. Comes w.periods made x) same (subst (λ k. Comes k made b) end known.2) in
        record {
          outputs = came.outputs;
          goes = subst (λ xs. GoesOnBy s w.net.now q rest w.periods xs came.outputs r)
              (all_read s w.net.now w.period.now inputs w.periods w.warm rest has is.warm_up is.given is.full)
              came.goes;
          parts = came.parts;
        }
