use Rattle.sdf_texts.proofs.schedule.schedule_text.Goals as goal

pub returns : goal.returns
returns c = record {
  period = c.repetitions-repetitions.result.now;
  least = rw c.net.ensures.value at c.repetitions-repetitions.ensures.least;
  is = rw c.order.ensures at c.in_ok-text_with.ensures;
}
