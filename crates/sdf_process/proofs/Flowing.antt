-- A run that takes and writes as it goes: what it may take, what it took, and where it stops.
use Rattle.std.proofs.Common.{◌≡◌, ◌≢◌, inr, Ok, Err, ℕ, ◌+◌, ◌-◌, ◌*◌, ◌≤◌, ℤ, List, ◌++◌, length, None}
use Rattle.std.proofs.Common.{sym, ap, ◌∙◌, subst, arith}
use Rattle.std.proofs.Math.Nat.{mul-le-mul_right}
use Rattle.std.proofs.lemmas.List.{length-append}
use Rattle.sdf_wav.specs.Device.{ReaderState, WriterState}
use Rattle.sdf_wav.specs.PiecesIn.{ContentInValue}
use Rattle.sdf_wav.specs.PiecesOut.{ContentOutValue}
use Rattle.sdf_faults.specs.declared.fault.Fault.{Fault}
use Rattle.sdf_faults.specs.declared.fault.Fault.TheVariants.{OutOfMemory}
use Rattle.sdf_process.specs.declared.io_rates.IoRates.{IoRates}
use Rattle.sdf_process.specs.declared.source.Source.{Source}
use Rattle.sdf_process.specs.Flows.{CanFlow, Flows, Progress, Start, StreamsFrom, io_rates_in, reading_in, samples_on}
use Rattle.sdf_process.specs.Sources.{reading_of, TakesAll, TakesMore}
use Rattle.sdf_process.specs.Streams.{IsStream}
use Rattle.sdf_process.proofs.Came.{came_to}
use Rattle.sdf_process.proofs.Streamed.{stands_on}
use Rattle.sdf_process.proofs.Taken.{reading_behind, takes_refused}

module _ (b : Start) (can : CanFlow b) (g : Progress) {unread : ℕ} {source : Source} {o : ContentOutValue}
    {r : ReaderState} {w : WriterState} (here : Flows b g unread source o r w) where
  abbrev c : ContentInValue
  c = reading_in b

  abbrev x : IoRates
  x = io_rates_in b

  behind_here : reading_of source ≡ record c { gone = c.gone + 2 * length g.samples }
  behind_here = ap reading_of here.source_is ∙ reading_behind b.source g.samples

  pub within_size : 2 * length g.samples ≤ c.size
  within_size =
      let some : (b.frames - unread) * c.channels ≤ b.frames * c.channels =
      mul-le-mul_right c.channels (let z : b.frames - unread ≤ b.frames = omega arith in z) in
      omega (arith, here.count, can.size, some)

  -- what may be read
  pub asks_enough : (many : ℕ) → many ≤ unread →
      (reading_of source).gone + 2 * (many * (reading_of source).channels) ≤ (reading_of source).size
  asks_enough many less =
      let fits : (b.frames - unread + many) * c.channels ≤ b.frames * c.channels =
      mul-le-mul_right c.channels (let z : b.frames - unread + many ≤ b.frames =
      omega (arith, here.within, less) in z) in
      let split : (b.frames - unread + many) * c.channels ≡ (b.frames - unread) * c.channels + many * c.channels =
      omega arith in
      subst (λ (y : ContentInValue). y.gone + 2 * (many * y.channels) ≤ y.size) (sym behind_here)
      (omega (arith, can.unread, here.count, can.size, fits, split))

  pub unspoilt_here : (reading_of source).fault ≡ None
  unspoilt_here = ap (λ (y : ContentInValue). y.fault) behind_here ∙ can.unspoilt

  pub sized : (reading_of source).size ≢ 0xFFFFFFFF
  sized is = can.known (sym (ap (λ (y : ContentInValue). y.size) behind_here) ∙ is)

  pub short_size : (reading_of source).size ≤ 0xFFFFFFFF
  short_size = subst (λ (y : ContentInValue). y.size ≤ 0xFFFFFFFF) (sym behind_here) can.fits

  pub came_here : IsStream b.net b.period.repetitions c g.samples (g.blocks * b.blocking) g.bytes
  came_here = came_to can.runs b.net b.period can.has b.blocking c g.samples g.blocks g.bytes g.left within_size can.one
      here.came.there here.came.stands

  -- no more was taken
  pub taking_failed : (r' : ReaderState) (e f : Fault) → f ≡ e → TakesAll b.source b.reader r' (Err e) →
      StreamsFrom b r' w (Err f)
  taking_failed r' e f same takes = (
    g.samples,
    g.blocks * b.blocking,
    g.bytes,
    r.remaining,
    came_here,
    here.takes,
    inr (
      subst (λ (z : Fault). TakesAll b.source b.reader r' (Err z)) (sym same) takes,
      here.written,
      here.writer,
    ),
  )

  -- memory was refused
  pub memory_refused : (f : Fault) → f ≡ OutOfMemory → StreamsFrom b r w (Err f)
  memory_refused f is = (
    g.samples,
    g.blocks * b.blocking,
    g.bytes,
    r.remaining,
    came_here,
    here.takes,
    inr (
      takes_refused b.source g.samples b.reader r f is here.takes here.reader,
      here.written,
      here.writer,
    ),
  )

  -- some more was taken
  pub took : (many : ℕ) → many ≤ unread → (r' : ReaderState) (next : Source) (kept all : List ℤ) →
      TakesMore b.source g.samples many kept b.reader r' next (Ok all) →
      (more : List ℤ) × (all ≡ kept ++ more) × Flows b (samples_on g more) (unread - many) next o r' w
  took many fewer r' next kept all takes = (
    takes.0,
    takes.1,
    record {
      came = record {
        stands = stands_on b.net b.period b.blocking c g.samples takes.0 g.blocks (g.blocks * b.blocking * x.made)
            g.bytes g.left can.lower here.came.there here.came.stands;
        there = omega (arith, here.came.there, length-append g.samples takes.0);
      };
      takes = takes.3;
      source_is = takes.4;
      within = omega (arith, here.within);
      count = omega (arith, length-append g.samples takes.0, here.count, takes.2, split);
      written = here.written;
      owed = here.owed;
      reader = takes.5;
      writer = here.writer;
    },
  )
    where
      rest : b.frames - (unread - many) ≡ b.frames - unread + many
      rest = omega (arith, here.within, fewer)

      split : (b.frames - (unread - many)) * c.channels ≡ (b.frames - unread) * c.channels + many * c.channels
      split = ap (λ (k : ℕ). k * c.channels) rest
          ∙ (let z : (b.frames - unread + many) * c.channels ≡ (b.frames - unread) * c.channels + many * c.channels =
          omega arith in z)
