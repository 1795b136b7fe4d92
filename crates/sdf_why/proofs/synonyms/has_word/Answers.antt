use Rattle.std.proofs.Common.{◌∙◌, sym, ap}
use Rattle.std.specs.Prelude.{bytes_eq}
use Rattle.std.specs.List.{list_any}
use Rattle.sdf_why.proofs.Lists.{is_among}
use Rattle.sdf_why.proofs.synonyms.has_word.Goals as goal

pub returns : goal.returns
returns c =
    c.is_among.ensures ∙ (sym (is_among c.args.word.now c.words_of.result.now)
    ∙ ap (list_any (bytes_eq c.args.word.now)) c.words_of.ensures)
