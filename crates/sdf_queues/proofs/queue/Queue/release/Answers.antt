use Rattle.std.proofs.Common.{drop, ap, ◌∙◌}
use Rattle.sdf_queues.proofs.Buffers.{released}
use Rattle.sdf_queues.proofs.queue.Queue.release.Goals as goal

pub returns : goal.returns
returns g c =
    let i = c.self.inside in
    ap (λ xs. record { samples = xs; room = i.room }) (released i.items.items i.start i.end c.args.many)
    ∙ ap (λ q. record { samples = drop c.args.many q.samples; room = q.room }) c.self.view_is
