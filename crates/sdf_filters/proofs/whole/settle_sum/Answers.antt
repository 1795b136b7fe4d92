use Rattle.std.proofs.Common.{◌∙◌, arith}
use Rattle.std.proofs.lemmas.Int.{ints}
use Rattle.sdf_filters.proofs.WholeSums.{other_sums, lacking_added}
use Rattle.sdf_filters.proofs.whole.settle_sum.Goals as goal

pub returns-clause-exact : goal.returns-clause-exact
returns-clause-exact c =
    lacking_added c.spread.new.taps c.add_at.new.taps c.args.up c.args.phase c.central-place.result _
    c.phase_sum.result c.args.total (omega arith) c.central-place.ensures.of c.phase_sum.ensures.sum
    (omega (arith, ints)) c.in_ok-add_at.ensures.moves

pub returns-clause-others : goal.returns-clause-others
returns-clause-others c = λ q other.
    other_sums c.spread.new.taps c.add_at.new.taps c.args.up c.args.phase c.central-place.result _
    c.central-place.ensures.of c.in_ok-add_at.ensures.moves q other ∙ c.in_ok-spread.ensures.others q other
