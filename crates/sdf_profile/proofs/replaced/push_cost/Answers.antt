use Rattle.std.proofs.Common.{rules, ◌≡◌, ◌++◌, string_bytes, take}
use Rattle.sdf_profile.specs.Written.{IsReplaced, kept, cost}
use Rattle.sdf_profile.proofs.Ranges.{take-range}
use Rattle.sdf_profile.proofs.replaced.push_cost.Goals as goal

pub returns-clause-cost : goal.returns-clause-cost
returns-clause-cost c ns begun =
    let graph = c.args.graph.now in
    let first = c.in-Some.ensures.lookup.0 in
    let second = c.in-Some-get.ensures.lookup.0 in
    let upto : take c.args.place.start graph ≡ take c.args.read graph ++ c.in-Some.kept.now =
    rw first.2 (take-range c.args.read c.args.place.start graph first.0) in
    let whole : take c.saturating_add-end.result graph ≡ take c.args.place.start graph ++ c.in-Some-get.old.now =
    rw second.2 (take-range c.args.place.start c.saturating_add-end.result graph second.0) in
    let more : c.extend_from_slice.new.self.items ≡ c.args.text.now.items ++ c.in-Some.kept.now = search rules in
    let written : c.extend_from_slice-2.new.self.items ≡
    c.extend_from_slice.new.self.items ++ string_bytes c.in-Some-2.new = search rules in
    let replaced : IsReplaced c.args.cost c.in-Some-get.old.now (string_bytes c.in-Some-2.new) = search rules in
    rw (whole, upto, written, more) (cost ns _ _ c.args.cost _ _ (kept ns _ _ _ begun) replaced)
