use Rattle.sdf_why.specs.More.{firings_line}
use Rattle.sdf_why.proofs.Grown.{five_parts}
use Rattle.sdf_why.proofs.more.push_firings.Goals as goal

pub returns : goal.returns
unfolding firings_line
returns c = five_parts _ _ _ _ _ _ _ _ _ _ _ c.in_ok-push_str.ensures.bytes c.in_ok-push_count_of.ensures
    c.in_ok-push_str-2.ensures.bytes c.in_ok-push_count_of-2.ensures c.in_ok-push_str-3.ensures.bytes
