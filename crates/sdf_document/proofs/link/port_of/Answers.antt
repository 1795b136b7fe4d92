use Rattle.std.proofs.Common.{◌∙◌, sym, ap}
use Rattle.std.specs.Prelude.{bytes_eq}
use Rattle.std.specs.List.{position}
use Rattle.sdf_document.proofs.Names.{position_texts}
use Rattle.sdf_document.proofs.link.port_of.Goals as goal

pub returns : goal.returns
returns c =
    c.position_of.ensures ∙ sym (position_texts c.args.text.now c.ports.result.now)
    ∙ ap (position (bytes_eq c.args.text.now)) c.ports.ensures
