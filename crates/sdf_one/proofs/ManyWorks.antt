-- An actor's work over so many cycles, and what its firings take and put.
use Rattle.std.proofs.Common.{◌≡◌, ℕ, zero, suc, ◌+◌, ◌*◌, ◌%◌, ◌<◌, List, [], ◌∷◌, length}
use Rattle.std.proofs.Common.{get_or, refl, sym, ap, ◌∙◌, subst, inl, inr, ◌⊎◌, arith}
use Rattle.std.specs.Borrow.{Bor}
use Rattle.std.specs.Global.{Global}
use Rattle.std.specs.List.{flat_map, sum_by}
use Rattle.std.proofs.lemmas.Bool.{cases_eq}
use Rattle.std.proofs.lemmas.List.{length-append}
use Rattle.std.proofs.lemmas.List.Sums.{sum_by-cons}
use Rattle.std.specs.declared.vec.Vec.{Vec}
use Rattle.sdf_actor.specs.declared.node.Node.{Node}
use Rattle.sdf_actor.specs.declared.node.Node.TheVariants as node
use Rattle.sdf_actor.specs.Steps.{Steps, phase, sum_in, sum_out, state_at}
use Rattle.sdf_actor.specs.Steps.{state_after}
use Rattle.sdf_actor.specs.Histories.{taken, taken_before}
use Rattle.sdf_actor.specs.Nets as nets
use Rattle.sdf_actor.specs.Nets.{wiring}
use Rattle.sdf_one.specs.declared.work.Work.{Work}
use Rattle.sdf_one.specs.declared.work.Work.TheVariants.{Source, Sink, Inner}
use Rattle.sdf_one.specs.Many.{HasRows, FitsCycles, HaveWorkedInParts}
use Rattle.sdf_one.specs.Runs.{HasBlocks, IsWork}
use Rattle.sdf_one.proofs.WholeCycles as cycle
use Rattle.sdf_one.proofs.Holding.{Holding, HasWork, actor_of}

-- what an actor's work says of its node
inner_of : {A S T Z : Type 0} (s : Steps A S T) (inputs : List (List T)) (outputs : List (Vec T Z)) (many : ℕ)
    (x : Node A) (past : List (List T)) (actor : Bor A) (j : ℕ) (state : S) (taken put : Vec T Global) →
    IsWork s inputs outputs many x past (Inner actor j state taken put) →
    (x ≡ node.Inner actor.now) × (j ≡ phase s actor.now (length past)) × (state ≡ state_after s actor.now past)
    × HasBlocks s actor.now taken put
inner_of s inputs outputs many (node.Source ext block) past actor j state taken put is = absurd is
inner_of s inputs outputs many (node.Sink ext block) past actor j state taken put is = absurd is
inner_of s inputs outputs many (node.Inner x) past actor j state taken put is = (
  ap node.Inner (sym is.0),
  is.1 ∙ ap (λ y. phase s y (length past)) (sym is.0),
  is.2 ∙ ap (λ y. state_after s y past) (sym is.0),
  subst (λ y. HasBlocks s y taken put) (sym is.0) is.3,
)

-- and it stays where its blocks keep their room
pub worked_of : {A S T Z : Type 0} (s : Steps A S T) (inputs : List (List T)) (outputs : List (Vec T Z))
    (many firings : ℕ) (x : Node A) (past : List (List T)) (actor : Bor A) (j : ℕ) (state : S)
    (taken put : Vec T Global)
    (b : List T) (y : Work A T S) → HaveWorkedInParts s firings (Inner actor j state taken put) b y →
    IsWork s inputs outputs many x past
    (Inner actor ((j + firings) % s.cycle actor.now) (state_at s actor.now j state b firings) taken put) →
    IsWork s inputs outputs many x past y
worked_of s inputs outputs many firings (node.Inner x) past actor j state taken put b
    (Inner actor' j' state' taken' put') worked is =
    let blocks = is.3 in (
      ap (λ y. y.now) worked.0 ∙ is.0,
      worked.1 ∙ is.1,
      worked.2 ∙ is.2,
      record {
        some = blocks.some;
        taken_fits = λ i h. omega (arith, blocks.taken_fits i h, worked.3);
        put_fits = λ i h. omega (arith, blocks.put_fits i h, worked.4);
        taken_cycle = omega (arith, blocks.taken_cycle, worked.3);
        put_cycle = omega (arith, blocks.put_cycle, worked.4);
      },
    )
worked_of s inputs outputs many firings (node.Source ext block) past actor j state taken put b y worked is = absurd is
worked_of s inputs outputs many firings (node.Sink ext block) past actor j state taken put b y worked is = absurd is
worked_of s inputs outputs many firings (node.Inner x) past actor j state taken put b (Source ext next block) worked
    is = absurd worked
worked_of s inputs outputs many firings (node.Inner x) past actor j state taken put b (Sink ext) worked is =
    absurd worked

-- where a runner holds a node's work
module _ {A S T Z : Type 0} (g : Holding A S T Z) where
  open g use {s, n, z, y, inputs, many, k, a, works, qs, outputs, st}

  abbrev past : List (List T)
  past = taken_before (wiring s n) st.history a (k a)

  pub inner_work : (actor : Bor A) (j : ℕ) (state : S) (taken put : Vec T Global) →
      HasWork g a (Inner actor j state taken put) →
      (nets.node n a ≡ node.Inner actor.now) × (j ≡ phase s actor.now (length past))
      × (state ≡ state_after s actor.now past) × HasBlocks s actor.now taken put
  inner_work = inner_of s inputs outputs (many a) (nets.node n a) past

  -- an actor's blocks have room for a cycle, and its phases have their rows
  pub its_blocks : (w : Work A T S) → HasWork g a w →
      FitsCycles w (sum_by (λ c. get_or y.takes.items c 0) ((wiring s n).ins a))
      (sum_by (λ c. get_or y.puts.items c 0) ((wiring s n).outs a)) 1
  its_blocks (Source ext next block) is = tt
  its_blocks (Sink ext) is = tt
  its_blocks (Inner actor j state taken put) is =
      let it = inner_work actor j state taken put is in
      let its = actor_of g actor.now it.0 in
      let turn : 1 * s.cycle actor.now ≡ s.cycle actor.now = omega arith in (
        omega (arith, it.3.taken_cycle, cycle.all_in its 1, ap (sum_in s actor.now 0) turn),
        omega (arith, it.3.put_cycle, cycle.all_out its 1, ap (sum_out s actor.now 0) turn),
      )

  pub has_rows : (w : Work A T S) → HasWork g a w → HasRows s z w ((wiring s n).ins a) ((wiring s n).outs a)
  has_rows (Source ext next block) is = tt
  has_rows (Sink ext) is = tt
  has_rows (Inner actor j state taken put) is =
      let it = inner_work actor j state taken put is in
      let its = actor_of g actor.now it.0 in
      (cycle.rows_in its, cycle.rows_out its)

-- parts that have their lengths, joined
pub parts_long : {T : Type 0} (g : ℕ → List T) (size : ℕ → ℕ) (ds : List ℕ) →
    ((i : ℕ) → i < length ds → length (g (get_or ds i 0)) ≡ size (get_or ds i 0)) →
    length (flat_map g ds) ≡ sum_by size ds
parts_long g size [] long = refl
parts_long g size (d ∷ ds) long =
    let one : length (g d) ≡ size d = long 0 (omega arith) in
    let rest : length (flat_map g ds) ≡ sum_by size ds = parts_long g size ds (λ i l. long (suc i) (omega arith)) in
    omega (arith, length-append (g d) (flat_map g ds), sum_by-cons size d ds)

-- a channel is at one of the ports, or at none
pub place : (ds : List ℕ) (c : ℕ) → ((p : ℕ) × (p < length ds) × (get_or ds p 0 ≡ c))
    ⊎ ((p : ℕ) → p < length ds → get_or ds p 0 ≡ c → ⊥)
place [] c = inr (λ p l e. absurd (omega arith))
place (d ∷ ds) c = go (cases_eq d c) (place ds c)
  where
    go : (d ≡ c) ⊎ (d ≡ c → ⊥) → ((p : ℕ) × (p < length ds) × (get_or ds p 0 ≡ c))
        ⊎ ((p : ℕ) → p < length ds → get_or ds p 0 ≡ c → ⊥) →
        ((p : ℕ) × (p < length (d ∷ ds)) × (get_or (d ∷ ds) p 0 ≡ c))
        ⊎ ((p : ℕ) → p < length (d ∷ ds) → get_or (d ∷ ds) p 0 ≡ c → ⊥)
    go (inl e) later = inl (0, (let l : 0 < length (d ∷ ds) = omega arith in l), e)
    go (inr ne) (inl at) = inl (suc at.0, (let l : suc at.0 < length (d ∷ ds) = omega (arith, at.1) in l), at.2)
    go (inr ne) (inr none) = inr others
      where
        others : (p : ℕ) → p < length (d ∷ ds) → get_or (d ∷ ds) p 0 ≡ c → ⊥
        others zero l e = ne e
        others (suc p) l e = none p (omega arith) e
