use Rattle.std.proofs.Common.{◌*◌, ◌∙◌, length, ap, sym, arith}
use Rattle.sdf_kit.specs.PutsFit.{sum_ones}
use Rattle.sdf_kit.proofs.KindRuns.{takes, gives, takes_one, gives_one, leaves, puts, counts, fir_runs, decimate_runs}
use Rattle.sdf_kit.proofs.KindRuns.{interpolate_runs, add_run, fork_run, gain_run, delay_run, table_run, clip_run}
use Rattle.sdf_kit.proofs.KindRuns.{offset_run, deal_run, gather_run, deals_all, gathers_all, some_ways}
use Rattle.sdf_kit.proofs.kit.KitActor.fire_at_once.Goals as goal

pub run-requires-clause-taken : goal.run-requires-clause-taken
run-requires-clause-taken c = takes c.in-Fir.is _ _ c.in-Fir.f.down (λ _. omega arith) c.requires.taken

pub run-requires-clause-put : goal.run-requires-clause-put
run-requires-clause-put c = gives c.in-Fir.is _ _ c.in-Fir.f.up (λ _. omega arith) c.requires.put

pub run-requires-in-Decimate : goal.run-requires-in-Decimate
run-requires-in-Decimate c =
    takes c.in-Decimate.is _ _ c.in-Decimate.d (λ _. omega arith) c.requires.taken
    ∙ ap (λ n. n * c.in-Decimate.d) (sym (gives_one c.in-Decimate.is _ _ (λ _. omega arith) c.requires.put))

pub run-requires-in-Interpolate : goal.run-requires-in-Interpolate
run-requires-in-Interpolate c =
    gives c.in-Interpolate.is _ _ c.in-Interpolate.i (λ _. omega arith) c.requires.put
    ∙ ap (λ n. n * c.in-Interpolate.i) (sym (takes_one c.in-Interpolate.is _ _ (λ _. omega arith) c.requires.taken))

pub run-requires-in-Add : goal.run-requires-in-Add
run-requires-in-Add c =
    takes c.in-Add.is _ _ c.in-Add.a (λ _. sum_ones 0 c.in-Add.a) c.requires.taken
    ∙ ap (λ n. n * c.in-Add.a) (sym (gives_one c.in-Add.is _ _ (λ _. omega arith) c.requires.put))

pub run-requires-in-Fork : goal.run-requires-in-Fork
run-requires-in-Fork c =
    gives c.in-Fork.is _ _ c.in-Fork.f (λ _. sum_ones 0 c.in-Fork.f) c.requires.put
    ∙ ap (λ n. n * c.in-Fork.f) (sym (takes_one c.in-Fork.is _ _ (λ _. omega arith) c.requires.taken))

pub run-requires-in-Deal : goal.run-requires-in-Deal
run-requires-in-Deal c =
    deals_all c.in-Deal.d _ _ c.requires.phase c.requires.taken c.requires.put c.in-Deal.is

pub run-requires-in-Gather : goal.run-requires-in-Gather
run-requires-in-Gather c =
    gathers_all c.in-Gather.g _ _ c.requires.phase c.requires.taken c.requires.put c.in-Gather.is

pub returns-in-Fir-clause-state : goal.returns-in-Fir-clause-state
returns-in-Fir-clause-state c =
    c.run.ensures.kept ∙ leaves c.in-Fir.is _ _ (fir_runs c.ports.ensures.is c.ports.ensures.limits c.args.state.now
    c.in-Fir.is (ap length (sym c.items.ensures.all) ∙ (c.if-items-kept_len.false ∙ c.kept_len.ensures.is)))
    c.requires.taken

pub returns-in-Fir-clause-put : goal.returns-in-Fir-clause-put
returns-in-Fir-clause-put c =
    c.run.ensures.put ∙ puts c.in-Fir.is _ _ (fir_runs c.ports.ensures.is c.ports.ensures.limits c.args.state.now
    c.in-Fir.is (ap length (sym c.items.ensures.all) ∙ (c.if-items-kept_len.false ∙ c.kept_len.ensures.is)))
    c.requires.taken

pub returns-in-Delay-clause-state : goal.returns-in-Delay-clause-state
returns-in-Delay-clause-state c =
    c.run-in-Delay.ensures.kept ∙ leaves c.in-Delay.is _ _ (delay_run c.in-Delay.d c.args.state.now) c.requires.taken

pub returns-in-Delay-clause-put : goal.returns-in-Delay-clause-put
returns-in-Delay-clause-put c =
    c.run-in-Delay.ensures.put ∙ puts c.in-Delay.is _ _ (delay_run c.in-Delay.d c.args.state.now) c.requires.taken

pub returns-in-Gain-clause-state : goal.returns-in-Gain-clause-state
returns-in-Gain-clause-state c = leaves c.in-Gain.is _ _ (gain_run c.in-Gain.g c.args.state.now) c.requires.taken

pub returns-in-Gain-clause-put : goal.returns-in-Gain-clause-put
returns-in-Gain-clause-put c =
    c.run-in-Gain.ensures ∙ puts c.in-Gain.is _ _ (gain_run c.in-Gain.g c.args.state.now) c.requires.taken

pub returns-in-Table-clause-state : goal.returns-in-Table-clause-state
returns-in-Table-clause-state c = leaves c.in-Table.is _ _ (table_run c.in-Table.t c.args.state.now) c.requires.taken

pub returns-in-Table-clause-put : goal.returns-in-Table-clause-put
returns-in-Table-clause-put c =
    c.run-in-Table.ensures ∙ puts c.in-Table.is _ _ (table_run c.in-Table.t c.args.state.now) c.requires.taken

pub returns-in-Clip-clause-state : goal.returns-in-Clip-clause-state
returns-in-Clip-clause-state c = leaves c.in-Clip.is _ _ (clip_run c.in-Clip.c c.args.state.now) c.requires.taken

pub returns-in-Clip-clause-put : goal.returns-in-Clip-clause-put
returns-in-Clip-clause-put c =
    c.run-in-Clip.ensures ∙ puts c.in-Clip.is _ _ (clip_run c.in-Clip.c c.args.state.now) c.requires.taken

pub returns-in-Offset-clause-state : goal.returns-in-Offset-clause-state
returns-in-Offset-clause-state c =
    leaves c.in-Offset.is _ _ (offset_run c.in-Offset.o c.args.state.now) c.requires.taken

pub returns-in-Offset-clause-put : goal.returns-in-Offset-clause-put
returns-in-Offset-clause-put c =
    c.run-in-Offset.ensures ∙ puts c.in-Offset.is _ _ (offset_run c.in-Offset.o c.args.state.now) c.requires.taken

pub returns-in-Deal-clause-state : goal.returns-in-Deal-clause-state
returns-in-Deal-clause-state c =
    leaves c.in-Deal.is _ _ (deal_run c.in-Deal.d c.args.state.now (some_ways c.in-Deal.is c.requires.phase))
    c.requires.taken

pub returns-in-Deal-clause-put : goal.returns-in-Deal-clause-put
returns-in-Deal-clause-put c =
    c.run-in-Deal.ensures
    ∙ puts c.in-Deal.is _ _ (deal_run c.in-Deal.d c.args.state.now (some_ways c.in-Deal.is c.requires.phase))
    c.requires.taken

pub returns-in-Gather-clause-state : goal.returns-in-Gather-clause-state
returns-in-Gather-clause-state c =
    leaves c.in-Gather.is _ _ (gather_run c.in-Gather.g c.args.state.now (some_ways c.in-Gather.is c.requires.phase))
    c.requires.taken

pub returns-in-Gather-clause-put : goal.returns-in-Gather-clause-put
returns-in-Gather-clause-put c =
    c.run-in-Gather.ensures
    ∙ puts c.in-Gather.is _ _ (gather_run c.in-Gather.g c.args.state.now (some_ways c.in-Gather.is c.requires.phase))
    c.requires.taken

pub returns-in-Decimate-clause-state : goal.returns-in-Decimate-clause-state
returns-in-Decimate-clause-state c =
    leaves c.in-Decimate.is _ _ (decimate_runs c.ports.ensures.is c.ports.ensures.limits c.args.state.now
    c.in-Decimate.is) c.requires.taken

pub returns-in-Decimate-clause-put : goal.returns-in-Decimate-clause-put
returns-in-Decimate-clause-put c =
    counts _ c.run-in-Decimate.ensures (gives_one c.in-Decimate.is _ _ (λ _. omega arith) c.requires.put)
    ∙ puts c.in-Decimate.is _ _ (decimate_runs c.ports.ensures.is c.ports.ensures.limits c.args.state.now
    c.in-Decimate.is) c.requires.taken

pub returns-in-Interpolate-clause-state : goal.returns-in-Interpolate-clause-state
returns-in-Interpolate-clause-state c =
    leaves c.in-Interpolate.is _ _ (interpolate_runs c.ports.ensures.is c.ports.ensures.limits c.args.state.now
    c.in-Interpolate.is) c.requires.taken

pub returns-in-Interpolate-clause-put : goal.returns-in-Interpolate-clause-put
returns-in-Interpolate-clause-put c =
    counts _ c.run-in-Interpolate.ensures
    (gives c.in-Interpolate.is _ _ c.in-Interpolate.i (λ _. omega arith) c.requires.put)
    ∙ puts c.in-Interpolate.is _ _ (interpolate_runs c.ports.ensures.is c.ports.ensures.limits c.args.state.now
    c.in-Interpolate.is) c.requires.taken

pub returns-in-Add-clause-state : goal.returns-in-Add-clause-state
returns-in-Add-clause-state c = leaves c.in-Add.is _ _ (add_run c.in-Add.a c.args.state.now) c.requires.taken

pub returns-in-Add-clause-put : goal.returns-in-Add-clause-put
returns-in-Add-clause-put c =
    counts _ c.run-in-Add.ensures (gives_one c.in-Add.is _ _ (λ _. omega arith) c.requires.put)
    ∙ puts c.in-Add.is _ _ (add_run c.in-Add.a c.args.state.now) c.requires.taken

pub returns-in-Fork-clause-state : goal.returns-in-Fork-clause-state
returns-in-Fork-clause-state c = leaves c.in-Fork.is _ _ (fork_run c.in-Fork.f c.args.state.now) c.requires.taken

pub returns-in-Fork-clause-put : goal.returns-in-Fork-clause-put
returns-in-Fork-clause-put c =
    counts _ c.run-in-Fork.ensures (gives c.in-Fork.is _ _ c.in-Fork.f (λ _. sum_ones 0 c.in-Fork.f) c.requires.put)
    ∙ puts c.in-Fork.is _ _ (fork_run c.in-Fork.f c.args.state.now) c.requires.taken
