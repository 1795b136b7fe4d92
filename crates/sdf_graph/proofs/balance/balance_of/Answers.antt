use Rattle.std.proofs.Common.{◌*◌, sym, ap, ◌∙◌}
use Rattle.sdf_graph.proofs.Meets.{meets, evenly}
use Rattle.sdf_graph.proofs.balance.balance_of.Goals as goal

pub returns-clause-balance : goal.returns-clause-balance
returns-clause-balance c =
    let turns = c.cycle_ratio-turns.result in
    meets c.args.graph.now c.totals_at-totals.ensures.shape c.args.ratios.now c.requires.shares c.args.channel
    c.requires.known c.totals_at-totals.result c.totals_at-totals.ensures.value turns
    c.cycle_ratio-turns.ensures.fewest _
    (ap (λ n. turns.num * n) (c.from.ensures ∙ c.cycle.ensures))
    (ap (λ n. turns.den * n) (c.from-3.ensures ∙ c.cycle-2.ensures))
    (ap (λ n. turns.num * n) c.from-2.ensures) (ap (λ n. turns.den * n) c.from-4.ensures)

pub returns-clause-even : goal.returns-clause-even
returns-clause-even c same =
    let turns = c.cycle_ratio-turns.result in
    evenly c.args.graph.now c.args.ratios.now c.args.channel c.totals_at-totals.result c.totals_at-totals.ensures.value
    turns c.cycle_ratio-turns.ensures.fewest
    (sym (ap (λ n. turns.num * n) c.from-2.ensures) ∙ (same ∙ ap (λ n. turns.den * n) c.from-4.ensures))
