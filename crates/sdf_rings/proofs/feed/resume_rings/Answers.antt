use Rattle.std.proofs.Common.{◌*◌, ℕ, List, sym, subst}
use Rattle.std.proofs.lemmas.Result.{MatchResult-weaker}
use Rattle.sdf_graph.specs.Rates.{rates}
use Rattle.sdf_prec.specs.Tables.{TableValue}
use Rattle.sdf_actor.specs.Nets.{Netlist}
use Rattle.sdf_actor.specs.Wires.{lists}
use Rattle.sdf_queues.specs.RunResults.{HasInputs, periods_of}
use Rattle.sdf_prec.specs.BlockTables.{IsBlockTableOf}
use Rattle.sdf_queues.proofs.Theorems.{begun_nets_ask, begun_runs_go_on, periods_may_leave}
use Rattle.sdf_queues.specs.declared.fault.RunFault.{RunFault}
use Rattle.sdf_queues.specs.declared.fault.RunFault.TheVariants.{OutOfMemory, InputLength, NotHomed, Patience, NoWorker}
use Rattle.sdf_queues.specs.declared.fault.RunFault.TheVariants.{SessionFailed}
use Rattle.sdf_rings.specs.Outcome.{IsRingsFault}
use Rattle.sdf_rings.proofs.feed.resume_rings.Goals as goal

pub begun-requires-clause-rest : goal.begun-requires-clause-rest
begun-requires-clause-rest g c κs within =
    let q = c.args.table.now.period.repetitions in (
      c.requires.rest.0,
      periods_of q c.requires.rest.1,
      periods_may_leave g.A.Actor.steps c.args.net.now c.args.table.now.period c.requires.rest.1
          (c.nets_have_periods.ensures c.args.table.now.period c.requires.fits.period),
      c.requires.rest.2,
    )

pub feed_rings-requires-clause-fits : goal.feed_rings-requires-clause-fits
feed_rings-requires-clause-fits g c κs within =
    subst (λ x. IsBlockTableOf (rates x) c.args.table.now) (sym c.in_ok-begun.ensures.graph) c.requires.fits

-- a fault of the one net is one of the other, where they are given the same inputs
fault_of : {A B T : Type 0} (m : Netlist B T) (n : Netlist A T) (q : List ℕ) (periods : ℕ) (inputs : List (List T))
    (t : TableValue) (patience : ℕ) → (HasInputs n q periods inputs → HasInputs m q periods inputs) →
    (fault : RunFault) → IsRingsFault m q periods inputs t patience fault →
    IsRingsFault n q periods inputs t patience fault
fault_of m n q periods inputs t patience back OutOfMemory h = tt
fault_of m n q periods inputs t patience back InputLength h = (h.0, h.1, λ given. h.2 (back given))
fault_of m n q periods inputs t patience back NotHomed h = h
fault_of m n q periods inputs t patience back Patience h = h
fault_of m n q periods inputs t patience back NoWorker h = h
fault_of m n q periods inputs t patience back SessionFailed h = h

pub returns : goal.returns
returns g c =
    let n = c.args.net.now in
    let m = c.in_ok-begun.begun in
    let q = c.args.table.now.period.repetitions in
    let periods : ℕ = c.args.blocks * c.args.table.now.blocking in
    let later = lists c.args.inputs.now in
    let begins = c.in_ok-begun.ensures.begins in
    let asks = begun_nets_ask g.A.Actor.steps _ n c.args.rest.now m q periods later begins in
    MatchResult-weaker c.feed_rings.result c.feed_rings.ensures
    (λ fed made. record {
      homed = made.0.homed;
      patient = made.0.patient;
      goes_on = begun_runs_go_on g.A.Actor.steps _ n m c.args.table.now.period periods later
          (lists fed.0.outputs.items)
          c.args.rest.now fed.1 (c.nets_have_periods.ensures c.args.table.now.period
          c.requires.fits.period) begins
          made.0.has made.1;
      rounds_few = made.0.rounds_few;
      rounds_some = made.0.rounds_some;
    })
    (fault_of m n q periods later c.args.table.now.table c.args.workers.patience asks.1)
