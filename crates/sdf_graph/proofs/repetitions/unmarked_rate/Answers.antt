use Rattle.std.proofs.Common.{ℕ, Bool, List, ◌<◌, ◌≡◌, ◌⊎◌, length, arith, sym, subst}
use Rattle.sdf_graph.specs.Rates.{GraphValue, IsShape, channel}
use Rattle.sdf_graph.specs.Marks.{IsAcross, IsBorder}
use Rattle.sdf_graph.specs.RelativeRates.{IsRatio, totals}
use Rattle.sdf_graph.specs.declared.channel.Totals.{Totals}
use Rattle.sdf_graph.specs.declared.repetitions.Ratio.{Ratio}
use Rattle.sdf_graph.proofs.Marks.{border_in, end_in, beyond_from, beyond_to}
use Rattle.sdf_graph.proofs.RatioLaws.{share_to, share_from}
use Rattle.sdf_graph.proofs.Ties.{even_from, even_to}
use Rattle.sdf_graph.proofs.repetitions.unmarked_rate.Goals as goal

ends_of : (g : GraphValue) (marked : List Bool) (c a : ℕ) (t : Totals) → IsBorder g.channels marked c a →
    t ≡ totals (channel g c) → IsAcross marked t.from t.to a ⊎ IsAcross marked t.to t.from a
ends_of g marked c a t border is =
    subst (λ (t : Totals). IsAcross marked t.from t.to a ⊎ IsAcross marked t.to t.from a) (sym is) border.ends

has_share : (g : GraphValue) (shape : IsShape g) (marked : List Bool) (c a : ℕ) (ratios : List Ratio) →
    length ratios ≡ g.actors → IsBorder g.channels marked c a → a < length ratios
has_share g shape marked c a ratios all border = omega (arith, border_in g shape marked c a border, all)

pub bounds-marked-totals : goal.bounds-marked-totals
bounds-marked-totals c =
    let t = c.totals_at-totals in
    let border = c.requires.border.1 in
    end_in c.args.marked.now t.result.from t.result.to c.requires.border.0 border.within
    (ends_of c.args.graph.now c.args.marked.now c.args.channel c.requires.border.0 t.result border t.ensures.value)

pub returns-then-marked-totals-clause-share : goal.returns-then-marked-totals-clause-share
returns-then-marked-totals-clause-share c a border =
    let t = c.totals_at-totals in
    let ends = ends_of c.args.graph.now c.args.marked.now c.args.channel a t.result border t.ensures.value in
    subst (λ b. IsRatio c.args.graph.now b c.rate_across.result)
    (beyond_to c.args.marked.now _ _ a border.fresh ends c.if-marked-totals.true)
    (share_to c.args.graph.now t.ensures.shape c.args.ratios.now c.args.marked.now c.requires.walk c.args.channel
    border.known t.result (sym t.ensures.value) c.rate_across.result c.if-marked-totals.true c.rate_across.ensures)

pub returns-then-marked-totals-clause-even : goal.returns-then-marked-totals-clause-even
returns-then-marked-totals-clause-even c a border =
    let t = c.totals_at-totals in
    even_from c.args.graph.now c.args.ratios.now c.args.marked.now c.args.channel a c.rate_across.result border
    (has_share c.args.graph.now t.ensures.shape c.args.marked.now c.args.channel a c.args.ratios.now
    c.requires.walk.all border) t.result t.ensures.value c.if-marked-totals.true c.rate_across.ensures

pub returns-else-marked-totals-clause-share : goal.returns-else-marked-totals-clause-share
returns-else-marked-totals-clause-share c a border =
    let t = c.totals_at-totals in
    let ends = ends_of c.args.graph.now c.args.marked.now c.args.channel a t.result border t.ensures.value in
    let far = beyond_from c.args.marked.now _ _ a ends c.if-marked-totals.false in
    subst (λ b. IsRatio c.args.graph.now b c.rate_across-else-marked-totals.result) far.0
    (share_from c.args.graph.now t.ensures.shape c.args.ratios.now c.args.marked.now c.requires.walk c.args.channel
    border.known t.result (sym t.ensures.value) c.rate_across-else-marked-totals.result far.1
    c.rate_across-else-marked-totals.ensures)

pub returns-else-marked-totals-clause-even : goal.returns-else-marked-totals-clause-even
returns-else-marked-totals-clause-even c a border =
    let t = c.totals_at-totals in
    even_to c.args.graph.now c.args.ratios.now c.args.marked.now c.args.channel a
    c.rate_across-else-marked-totals.result
    border (has_share c.args.graph.now t.ensures.shape c.args.marked.now c.args.channel a c.args.ratios.now
    c.requires.walk.all border) t.result t.ensures.value c.if-marked-totals.false
    c.rate_across-else-marked-totals.ensures
