use Rattle.std.proofs.Common.{rules, ◌≡◌}
use Rattle.sdf_cli.proofs.Named.{one_name}
use Rattle.sdf_cli.proofs.explain.is_named.Goals as goal

pub returns-in-Some-clause-other : goal.returns-in-Some-clause-other
returns-in-Some-clause-other c = λ differs named.
    let same : c.in-Some.known.now ≡ c.args.name.now = one_name _ _ _ c.in-Some.ensures.named named in
    search (rules, same, differs)
