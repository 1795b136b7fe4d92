-- A chain that comes round leads from a firing to itself some blocks later.
use Rattle.std.proofs.Common.{◌≡◌, ℕ, zero, suc, ◌+◌, ◌-◌, ◌≤◌, List, length, sym, ap, ◌∙◌, subst, arith, refl}
use Rattle.std.proofs.Common.{inl, inr}
use Rattle.sdf_prec.specs.declared.firing.Firing.{Firing}
use Rattle.sdf_times.specs.declared.step.Hold.{Hold}
use Rattle.sdf_times.specs.declared.step.Hold.TheVariants.{Worker, Samples, Room}
use Rattle.sdf_times.specs.declared.step.Step.{Step}
use Rattle.sdf_times.specs.SelfTimed.{Plan, later, HoldsBack, IsPlan, Leads, here, on, Attains}
use Rattle.sdf_times.specs.Rounds.{IsHeld, IsRound, wait_of, step_at, before_step, blocks_to, time_to}
use Rattle.sdf_times.proofs.Laters.{later_none, later_more, holds_later}

-- a step as what holds its firing back
held_back : (p : Plan) (g f : Firing) (d : ℕ) (hold : Hold) → IsHeld p g f d hold →
    HoldsBack p g (later p d f) (wait_of p.cost g hold)
held_back p g f d (Worker column from to) (one, two, sooner) =
    inl (refl, inr (0, from, d, to, column, sooner, (g, one, later_none p g), (f, two, refl)))
held_back p g f d (Samples c) (l, into, source, low) = inl (refl, inl (inr (c, l, into, source, low)))
held_back p g f d (Room c) (l, source, into, apart, low) = inr (refl, (c, l, source, into, apart, low))

module _ (p : Plan) (ok : IsPlan p) (steps : List Step) (t q : ℕ) (round : IsRound p steps t q) where
  abbrev first : Firing
  first = before_step steps 0

  leads_to : (i : ℕ) → i ≤ length steps →
      Leads p first (later p (blocks_to steps i) (before_step steps i)) (time_to p.cost steps i)
  leads_to zero l = subst (λ f. Leads p first f 0) (sym (later_none p first)) here
  leads_to (suc i) l =
      let ih = leads_to i (omega arith) in
      let step = round.each i (omega arith) in
      let held = held_back p (before_step steps i) (step_at steps i).firing (step_at steps i).blocks
      (step_at steps i).hold step.held in
      let on_to = holds_later p ok (blocks_to steps i) (before_step steps i)
      (later p (step_at steps i).blocks (step_at steps i).firing)
      (wait_of p.cost (before_step steps i) (step_at steps i).hold) held in
      let is : later p (blocks_to steps i) (later p (step_at steps i).blocks (step_at steps i).firing) ≡
      later p (blocks_to steps (suc i)) (before_step steps (suc i)) =
      later_more p (blocks_to steps i) (step_at steps i).blocks (step_at steps i).firing
      ∙ ap (λ b. later p b (step_at steps i).firing)
      (let e : (step_at steps i).blocks + blocks_to steps i ≡ blocks_to steps (suc i) = omega arith in e) in
      subst (λ f. Leads p first f (time_to p.cost steps (suc i))) is
      (on (later p (blocks_to steps i) (before_step steps i))
      (later p (blocks_to steps i) (later p (step_at steps i).blocks (step_at steps i).firing))
      (time_to p.cost steps i) (wait_of p.cost (before_step steps i) (step_at steps i).hold) ih step.from
      step.known on_to)

  pub attains : Attains p t q
  attains =
      let last : suc (length steps - 1) ≡ length steps = omega (arith, round.some) in
      let same : before_step steps (length steps) ≡ first = ap (before_step steps) (sym last) in
      record {
        firing = first;
        known = (round.each 0 round.some).from;
        blocks = blocks_to steps (length steps);
        time = time_to p.cost steps (length steps);
        leads = subst (λ f. Leads p first (later p (blocks_to steps (length steps)) f)
            (time_to p.cost steps (length steps))) same (leads_to (length steps) (omega arith));
        some = round.later;
        is = round.is;
      }
