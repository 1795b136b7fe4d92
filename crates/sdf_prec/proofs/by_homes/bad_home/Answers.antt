use Rattle.std.proofs.Common.{◌≡◌, ℕ, ◌+◌, ◌<◌, subst, sym, inl, inr, ◌⊎◌, arith, refl}
use Rattle.std.proofs.lemmas.Bool.{cases_eq}
use Rattle.sdf_prec.specs.ByHomes.{HasHome}
use Rattle.sdf_prec.proofs.by_homes.bad_home.Goals as goal

pub loop-actor-preserved : goal.loop-actor-preserved
loop-actor-preserved c = λ b l. go b l (cases_eq b c.loop-actor.actor)
  where
    here : HasHome c.args.homes.now c.args.m c.loop-actor.actor
    here = c.if-not-has_home.ensures.0 refl

    go : (b : ℕ) → b < c.loop-actor.actor + 1 → (b ≡ c.loop-actor.actor) ⊎ (b ≡ c.loop-actor.actor → ⊥) →
        HasHome c.args.homes.now c.args.m b
    go b l (inl e) = subst (HasHome c.args.homes.now c.args.m) (sym e) here
    go b l (inr ne) = c.loop-actor.invariant b (omega arith)
