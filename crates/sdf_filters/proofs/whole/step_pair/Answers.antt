use Rattle.std.proofs.Common.{◌∙◌, rules}
use Rattle.sdf_filters.proofs.WholeSums.{other_sums}
use Rattle.sdf_filters.proofs.whole.step_pair.Goals as goal

pub returns-clause-others : goal.returns-clause-others
returns-clause-others c = λ q other.
    other_sums c.add_at.new.taps c.add_at-2.new.taps c.args.up c.args.phase _ _ (search rules)
    c.in_ok-add_at-2.ensures.moves q other
    ∙ other_sums c.args.taps.now c.add_at.new.taps c.args.up c.args.phase c.args.place _ c.requires.of
    c.in_ok-add_at.ensures.moves q other

pub returns-then-other-place-clause-others : goal.returns-then-other-place-clause-others
returns-then-other-place-clause-others c = λ q other.
    other_sums c.args.taps.now c.add_at.new.taps c.args.up c.args.phase c.args.place _ c.requires.of
    c.in_ok-add_at.ensures.moves q other
