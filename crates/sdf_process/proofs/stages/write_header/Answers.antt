use Rattle.std.proofs.Common.{◌*◌, rules}
use Rattle.sdf_process.proofs.Contents.{begin_failed_as}
use Rattle.sdf_process.proofs.Sounds.{start_allowed}
use Rattle.sdf_process.proofs.stages.write_header.Goals as goal

pub returns-in_err-start-clause-puts : goal.returns-in_err-start-clause-puts
returns-in_err-start-clause-puts g c =
    begin_failed_as (g.W.Writer.state c.args.writer.now) (g.W.Writer.state c.start.new.writer)
    c.args.output_size.rate c.from-2.result c.args.io.outputs (c.args.output_size.periods * c.args.io.made)
    (c.from.result * c.args.io.made) c.in_err-start.field-0.0 c.from_residual.result
    (search rules) (search rules)
    (start_allowed c.args.output_size.rate c.args.io.outputs (c.args.output_size.periods * c.args.io.made)
    c.requires.some_rate c.requires.limits.one_output c.requires.limits.few_outputs
    c.requires.few_bytes_a_second c.requires.few_bytes)
    c.in_err-start.ensures.writes c.in_err-start.ensures.counted c.from_residual.ensures.1
