-- Going over chunks, as a loop does.
use Rattle.std.proofs.Common.{◌≡◌, ℕ, suc, ◌+◌, ◌-◌, ◌<◌, ◌≤◌, List, Option, Ok, refl, arith}
use Rattle.sdf_wav.specs.declared.fault.ReadFault.{ReadFault}
use Rattle.sdf_wav.specs.declared.fault.ReadFault.TheVariants as read_faults
use Rattle.sdf_wav.specs.declared.format.Format.{Format}
use Rattle.sdf_wav.specs.declared.parts.DataStart.{DataStart}
use Rattle.sdf_wav.specs.declared.chunks.Step.TheVariants as steps
use Rattle.sdf_wav.specs.Steps.{Explains, step_at, last_at, data_at}

pub data_at_data : (count i : ℕ) (seen : Option Format) (bytes : List ℕ) (start : DataStart) (rest : List ℕ) →
    i < count → step_at seen bytes ≡ Ok (steps.Data start, rest)
    → data_at (count - i) seen bytes ≡ Ok (start, rest)
unfolding data_at
data_at_data count i seen bytes start rest lt h =
    let k : count - i ≡ suc (count - (i + 1)) = omega arith in
    rw (k, h) refl

pub data_at_passed : (count i : ℕ) (seen now : Option Format) (bytes rest : List ℕ) → i < count →
    step_at seen bytes ≡ Ok (steps.Passed now, rest)
    → data_at (count - i) seen bytes ≡ data_at (count - (i + 1)) now rest
unfolding data_at
data_at_passed count i seen now bytes rest lt h =
    let k : count - i ≡ suc (count - (i + 1)) = omega arith in
    rw (k, h) refl

pub data_at_fault : (count i : ℕ) (seen : Option Format) (bytes : List ℕ) (e : ReadFault) → i < count →
    Explains e (step_at seen bytes) → Explains e (data_at (count - i) seen bytes)
unfolding data_at
data_at_fault count i seen bytes (read_faults.Format r) lt h =
    let k : count - i ≡ suc (count - (i + 1)) = omega arith in
    rw (k, h) refl
data_at_fault count i seen bytes read_faults.OutOfMemory lt h = tt
data_at_fault count i seen bytes read_faults.Device lt h = tt

pub data_at_last : (count i : ℕ) (seen : Option Format) (bytes : List ℕ) → count ≤ i →
    data_at (count - i) seen bytes ≡ last_at seen bytes
unfolding data_at
data_at_last count i seen bytes le =
    let k : count - i ≡ 0 = omega arith in
    rw k refl
