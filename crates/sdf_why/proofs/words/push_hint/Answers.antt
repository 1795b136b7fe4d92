use Rattle.sdf_why.specs.Words.{hint_line}
use Rattle.sdf_why.proofs.Grown.{four_parts}
use Rattle.sdf_why.proofs.words.push_hint.Goals as goal

pub returns : goal.returns
unfolding hint_line
returns c = four_parts _ _ _ _ _ _ _ _ _ c.in_ok-push_str.ensures.bytes c.in_ok-push_quoted.ensures
    c.in_ok-push_str-2.ensures.bytes c.in_ok-push_str-3.ensures.bytes
