use Rattle.sdf_why.proofs.messages.error_text.Goals as goal

pub returns : goal.returns
returns c = (_, c.in_ok-text.ensures)
