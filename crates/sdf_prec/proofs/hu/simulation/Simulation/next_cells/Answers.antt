use Rattle.std.proofs.Common.{◌≡◌, ℕ, ◌*◌, ◌≤◌, Bool, length, get_or, drop, refl, sym, ◌∙◌, subst, None}
use Rattle.std.proofs.lemmas.List.{take_at}
use Rattle.sdf_graph.specs.Rates.{rates}
use Rattle.sdf_prec.specs.Numbers.{number}
use Rattle.sdf_prec.specs.Floor.{IsDue}
use Rattle.sdf_prec.specs.Placing.{IsPlacing}
use Rattle.sdf_prec.specs.Simulations.{SimulationValue, AreInputsFor, IsDueTo, IsQueued, IsRowAt, IsRowFor}
use Rattle.sdf_prec.proofs.Rules.{queue_once}
use Rattle.sdf_prec.proofs.SimulationLaws.{row_free, row_homed}
use Rattle.sdf_prec.proofs.InputLaws.{job_dear}
use Rattle.sdf_prec.proofs.hu.simulation.Simulation.next_cells.Goals as goal

pub place-requires-clause-once : goal.place-requires-clause-once
place-requires-clause-once c =
    let q = subst (λ (x : SimulationValue). IsQueued c.args.inputs.now x) (sym c.self.view_is) c.requires.queue in
    rw c.deref.ensures.value (queue_once q)

pub returns-in_ok-place-clause-row : goal.returns-in_ok-place-clause-row
returns-in_ok-place-clause-row c =
    let i = c.self.inside in
    let inputs = c.args.inputs.now in
    let k = c.self.invariant in
    let r = rates i.counts.graph in
    let n : ℕ → ℕ = λ a. get_or inputs.firings.now a 0 in
    let cost : ℕ → ℕ = λ a. get_or inputs.costs.now a 0 in
    let level = number inputs.levels.now in
    let ended : ℕ → ℕ = λ a. get_or i.counts.fired a 0 in
    let started : ℕ → ℕ = λ a. get_or i.started.items a 0 in
    let whose : ℕ → ℕ = λ j. get_or i.whose.items j 0 in
    let until : ℕ → ℕ = λ a. get_or i.until.items a 0 in
    let weight : ℕ → ℕ = λ a. get_or inputs.weights.now a 0 in
    let weight_is : weight ≡ (λ a. n a * cost a) = (λ i a. c.requires.inputs.weights_are a i) in
    let width : ℕ = length i.until.items in
    let queue = i.queue.items in
    let cells = c.place.new.cells.items in
    let new = c.place.new.homes in
    let q = subst (λ (x : SimulationValue). IsQueued inputs x) (sym c.self.view_is) c.requires.queue in
    let found = rw (c.deref.ensures.value, c.deref-then-inputs.ensures.value, c.deref_mut.ensures.value) at
    c.in_ok-place.ensures.placed in
    let placed = subst (λ m. IsPlacing m width weight (λ j. get_or i.until.items j 0 ≤ i.time)
    (λ a. get_or i.homes.items a None) queue (length queue) cells new) k.homes_all found in
    let waiting = rw (c.deref.ensures.value, c.deref-then-inputs.ensures.value) at
    c.in_ok-place.ensures.waiting in
    let len : length new ≡ i.homes.len = placed.all ∙ (sym k.homes_all ∙ sym i.homes.ok.0) in
    let is = take_at new (drop (length new) i.homes.items) i.homes.len len in
    let its = subst (λ (x : SimulationValue). AreInputsFor x.counts.graph inputs) (sym c.self.view_is)
    c.requires.inputs in
    rw is (λ past due. let d = subst (λ (x : SimulationValue). IsDueTo inputs x past) (sym c.self.view_is) due in
    subst (λ (h : Bool). IsRowAt r n cost level width h past i.time ended started whose until
    (λ a. get_or new a None) cells) (sym c.if-inputs.true)
    (row_homed i.until.items k.sound (job_dear its) q i.homes.items
    (subst (λ (h : Bool). IsDue r n cost level width h past i.time ended started whose until
    (λ a. get_or i.homes.items a None)) c.if-inputs.true d) weight_is refl placed waiting))

pub returns-in_ok-fill-clause-row : goal.returns-in_ok-fill-clause-row
returns-in_ok-fill-clause-row c =
    let i = c.self.inside in
    let inputs = c.args.inputs.now in
    let k = c.self.invariant in
    let r = rates i.counts.graph in
    let n : ℕ → ℕ = λ a. get_or inputs.firings.now a 0 in
    let cost : ℕ → ℕ = λ a. get_or inputs.costs.now a 0 in
    let level = number inputs.levels.now in
    let ended : ℕ → ℕ = λ a. get_or i.counts.fired a 0 in
    let started : ℕ → ℕ = λ a. get_or i.started.items a 0 in
    let whose : ℕ → ℕ = λ j. get_or i.whose.items j 0 in
    let until : ℕ → ℕ = λ a. get_or i.until.items a 0 in
    let width : ℕ = length i.until.items in
    let cells = c.fill.new.cells.items in
    let q = subst (λ (x : SimulationValue). IsQueued inputs x) (sym c.self.view_is) c.requires.queue in
    let fill = rw (c.deref-else-inputs.ensures.value, c.deref-else-inputs-2.ensures.value) at c.in_ok-fill.ensures in
    let its = subst (λ (x : SimulationValue). AreInputsFor x.counts.graph inputs) (sym c.self.view_is)
    c.requires.inputs in
    (λ past due. let d = subst (λ (x : SimulationValue). IsDueTo inputs x past) (sym c.self.view_is) due in
    subst (λ (x : SimulationValue). IsRowFor inputs x past cells) c.self.view_is
    (subst (λ (h : Bool). IsRowAt r n cost level width h past i.time ended started whose until
    (λ a. get_or i.homes.items a None) cells) (sym c.if-inputs.false)
    (row_free i.until.items k.sound (job_dear its) q
    (subst (λ (h : Bool). IsDue r n cost level width h past i.time ended started whose until
    (λ a. get_or i.homes.items a None)) c.if-inputs.false d) fill.1)))
