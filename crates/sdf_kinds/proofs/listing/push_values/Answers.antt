use Rattle.std.proofs.Common.{append_assoc}
use Rattle.sdf_kinds.proofs.listing.push_values.Goals as goal

pub returns : goal.returns
returns c = rw (c.in_ok-write.ensures.bytes, c.width_text.ensures, append_assoc) at c.in_ok-push_str.ensures.bytes
