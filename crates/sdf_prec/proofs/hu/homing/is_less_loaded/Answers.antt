use Rattle.std.proofs.Common.{◌≡◌, ◌<◌, ℕ, length, get_or, sym, ◌∙◌, subst, None}
use Rattle.std.proofs.lemmas.Bool.{ltb-true, lt-ltb}
use Rattle.std.proofs.lemmas.Option.{same_Some}
use Rattle.sdf_prec.specs.Trying.{load}
use Rattle.sdf_prec.proofs.hu.homing.is_less_loaded.Goals as goal

pub returns-in-Some : goal.returns-in-Some
returns-in-Some c =
    let weigh : ℕ → ℕ = λ j. load (length c.args.homes.now) (λ a. get_or c.args.weights.now a 0)
    (λ a. get_or c.args.homes.now a None) j in
    let one : c.load_of.result ≡ weigh c.args.column = c.load_of.ensures in
    let other : c.load_of-in-Some.result ≡ weigh c.in-Some.other = c.load_of-in-Some.ensures in (
      λ t b e.
          let less : c.load_of.result < c.load_of-in-Some.result = ltb-true _ _ t in
          subst (λ b. weigh c.args.column < weigh b) (same_Some c.in-Some.other b (sym c.in-Some.is ∙ e))
          (subst (λ x. x < weigh c.in-Some.other) one (subst (λ x. c.load_of.result < x) other less)),
      λ h. lt-ltb _ _ (subst (λ x. x < c.load_of-in-Some.result) (sym one)
          (subst (λ x. weigh c.args.column < x) (sym other) (h c.in-Some.other c.in-Some.is))),
    )
