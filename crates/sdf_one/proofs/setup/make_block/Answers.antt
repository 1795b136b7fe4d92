use Rattle.std.proofs.Common.{◌≡◌, ◌+◌, ℕ, get_or, vec_len, ap, ◌∙◌, arith, add-one, length}
use Rattle.std.specs.List.{sum_by}
use Rattle.sdf_graph.specs.Rates.{sum_to}
use Rattle.sdf_queues.specs.Sizes.{at_phase, rows_on}
use Rattle.sdf_one.proofs.setup.make_block.Goals as goal

pub on-requires : goal.on-requires
on-requires g c = (c.requires.rows c.loop-phase.phase c.loop-phase-test.true).0

pub extend_by-requires : goal.extend_by-requires
extend_by-requires g c = λ i h. omega (
  arith,
  (c.requires.rows c.loop-phase.phase c.loop-phase-test.true).1 i h,
  ap length c.on.ensures,
)

pub loop-phase-preserved : goal.loop-phase-preserved
loop-phase-preserved g c =
    let i = c.loop-phase.phase in
    let sum : ℕ → ℕ = λ j. sum_by (λ e. get_or (at_phase (rows_on c.args.side c.args.sizes.now) j) e 0)
    c.args.ports.now in
    let same : sum_by (λ e. get_or c.on.result.now e 0) c.args.ports.now ≡ sum i =
    ap (λ z. sum_by (λ e. get_or z e 0) c.args.ports.now) c.on.ensures in
    let more : sum_to sum (i + 1) ≡ sum_to sum i + sum i = ap (sum_to sum) (add-one i) in
    omega (arith, c.in_ok-extend_by.ensures, same, more, c.loop-phase.invariant)

pub returns : goal.returns
returns g c =
    let sum : ℕ → ℕ = λ j. sum_by (λ e. get_or (at_phase (rows_on c.args.side c.args.sizes.now) j) e 0)
    c.args.ports.now in
    let all : c.loop-phase.phase ≡ c.args.cycle = omega (arith, c.loop-phase-test.false, c.loop-phase.auto.phase-end) in
    let total : vec_len c.loop-phase.block ≡ sum_to sum c.args.cycle = c.loop-phase.invariant ∙ ap (sum_to sum) all in
    omega (arith, total, c.in_ok-extend.ensures)
