use Rattle.sdf_texts.proofs.texts.check_text.Goals as goal

pub returns : goal.returns
returns c = record {
  period = c.repetitions-repetitions.result.now;
  least = rw c.net.ensures.value at c.repetitions-repetitions.ensures.least;
  is = c.in_ok-text_with.ensures;
}
