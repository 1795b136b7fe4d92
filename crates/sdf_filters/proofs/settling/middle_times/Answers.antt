use Rattle.sdf_filters.proofs.Mirrored.{even_left, all_alone, few_middle}
use Rattle.sdf_filters.proofs.settling.middle_times.Goals as goal

pub returns-clause-even : goal.returns-clause-even
returns-clause-even c = even_left c.args.times c.args.many c.requires

pub returns-clause-few : goal.returns-clause-few
returns-clause-few c = few_middle c.args.times c.args.many c.requires

pub returns-clause-alone : goal.returns-clause-alone
returns-clause-alone c one = all_alone c.args.times c.args.many one
