use Rattle.std.proofs.Common.{arith, rules}
use Rattle.sdf_process.proofs.io_rates.IoRates.of_net.Goals as goal

pub returns-clause-limits : goal.returns-clause-limits
returns-clause-limits c = record {
  some_taken = c.samples_in.ensures.some;
  some_made = c.samples_out.ensures.some;
  few_taken = c.samples_in.ensures.few;
  few_made = c.samples_out.ensures.few;
  few_inputs = search rules;
  one_output = omega (arith, c.outputs.ensures.count, c.outputs.ensures.accepted.1.lists.output);
  few_outputs = search rules;
}
