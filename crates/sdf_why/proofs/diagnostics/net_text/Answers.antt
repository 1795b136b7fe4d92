use Rattle.std.proofs.Common.{rules, string_bytes}
use Rattle.sdf_why.proofs.diagnostics.net_text.Goals as goal

pub returns : goal.returns
returns c = record { more = string_bytes c.in_ok-more.more; is_more = c.in_ok-more.ensures; told = search rules }
