use Rattle.std.proofs.Common.{◌≡◌, Ok}
use Rattle.sdf_profile.specs.Places.{costed_text_of}
use Rattle.sdf_profile.proofs.Unread.{unread}
use Rattle.sdf_profile.proofs.costing.costed_text.Goals as goal

pub returns-in-Err-clause-exactly : goal.returns-in-Err-clause-exactly
returns-in-Err-clause-exactly c =
    let made : costed_text_of c.args.costs.now c.args.graph.now ≡ Ok c.deref.result.now =
    rw c.deref.ensures.value c.in_ok-text.ensures.exactly in
    unread c.args.costs.now c.args.graph.now _ c.in-Err.fault c.deref.result.now made c.in-Err.ensures
