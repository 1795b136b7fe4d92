-- The firings in a valid table are those of the block.
use Rattle.std.proofs.Common.{◌≡◌, ℕ, zero, suc, ◌+◌, ◌<◌, List, [], ◌∷◌, length, get_or, subst, arith}
use Rattle.std.proofs.Common.{◌∙◌, Option, Some, None}
use Rattle.std.proofs.lemmas.List.{get_or_append_left, get_or-append-add, length-append}
use Rattle.std.proofs.lemmas.Option.{none-some, same_Some}
use Rattle.sdf_graph.specs.Rates.{Rates}
use Rattle.sdf_prec.specs.declared.firing.Firing.{Firing}
use Rattle.sdf_prec.specs.Tables.{firings, no_firing, cell, order, IsValid, Stands}
use Rattle.sdf_times.specs.Times.{IsInTable}

stands_in : (cells : List (Option Firing)) (j : ℕ) (f : Firing) → get_or cells j None ≡ Some f →
    Stands (firings cells) f
stands_in [] j f e = absurd (none-some f e)
stands_in (None ∷ cells) zero f e = absurd (none-some f e)
stands_in (Some g ∷ cells) zero f e = (0, omega arith, same_Some g f e)
stands_in (None ∷ cells) (suc j) f e = stands_in cells j f e
stands_in (Some g ∷ cells) (suc j) f e = let at = stands_in cells j f e in (suc at.0, omega (arith, at.1), at.2)

stands : (rows : List (List (Option Firing))) (i j : ℕ) (f : Firing) → cell rows i j ≡ Some f → Stands (order rows) f
stands [] i j f e = absurd (none-some f e)
stands (cells ∷ rows) zero j f e =
    let at = stands_in cells j f e in (
      at.0,
      omega (arith, at.1, length-append (firings cells) (order rows)),
      get_or_append_left (firings cells) (order rows) no_firing at.0 at.1 ∙ at.2,
    )
stands (cells ∷ rows) (suc i) j f e =
    let at = stands rows i j f e in (
      length (firings cells) + at.0,
      omega (arith, at.1, length-append (firings cells) (order rows)),
      get_or-append-add (firings cells) (order rows) at.0 no_firing ∙ at.2,
    )

pub known_firing : (r : Rates) (n : ℕ → ℕ) (rows : List (List (Option Firing))) (f : Firing) → IsValid r n rows →
    IsInTable rows f → f.actor < r.actors
known_firing r n rows f valid w =
    let at = stands rows w.0 w.1 f w.2 in
    let of = valid.known at.0 at.1 in
    let known : f.actor < r.actors = subst (λ (g : Firing). g.actor < r.actors) at.2 of.0 in known
