use Rattle.std.proofs.Common.{◌≡◌, ℕ, ◌+◌, List, get_or, sym, subst, ◌∙◌, arith}
use Rattle.std.proofs.lemmas.List.{get_or-set_same}
use Rattle.sdf_graph.specs.Rates.{rates}
use Rattle.sdf_times.specs.Times.{IsGreatest}
use Rattle.sdf_draw.specs.Feeds.{IsInDepth}
use Rattle.sdf_draw.proofs.depths.fire.Goals as goal

pub returns-clause-first : goal.returns-clause-first
returns-clause-first c = λ none w e.
    subst (λ (ds : List ℕ). get_or ds c.args.actor 0 ≡ 0 → (w : ℕ) → c.depth_of-depth.result ≡ w + 1 →
    IsGreatest (IsInDepth (rates c.args.graph.now) ds c.args.actor) w) c.as_slice.ensures.value
    c.depth_of-depth.ensures.first none w
    (sym (get_or-set_same c.args.depths.now.items c.args.actor c.depth_of-depth.result 0
    (omega (arith, c.requires.known, c.requires.all))) ∙ e)
