-- The reading answers what the grammar and the rules of faults say, and nothing else.
use Rattle.std.proofs.Common.{◌≡◌, ◌⊎◌, inl, inr, refl, ℕ, List, Option, Some, Result, Ok, Err, sym, ap, subst, ◌∙◌}
use Rattle.sdf_wav.specs.declared.fault.FormatFault.{FormatFault}
use Rattle.sdf_wav.specs.declared.fault.WavFault.{WavFault}
use Rattle.sdf_wav.specs.declared.fault.WavFault.TheVariants as faults
use Rattle.sdf_wav.specs.Sound.{Sound}
use Rattle.sdf_wav.specs.Steps.{wav_at}
use Rattle.sdf_wav.specs.Grammar.{IsWav}
use Rattle.sdf_wav.specs.Fault.{HasFault, Answers, Accepts, Refuses}
use Rattle.sdf_wav.proofs.Walk.{wav_reads}
use Rattle.sdf_wav.proofs.FaultsRead.{fault_reads}
use Rattle.sdf_wav.proofs.Total.{Outcome, faulty, sounds, outcome}

abbrev answer : Sound → List ℕ → Result (Sound × List ℕ) FormatFault
answer s rest = Ok (s, rest)

abbrev fault : FormatFault → Result (Sound × List ℕ) FormatFault
fault f = Err f

pub fault_of : (bytes : List ℕ) (r : FormatFault) → Outcome bytes → wav_at bytes ≡ Err r → HasFault bytes r
fault_of bytes r (sounds t after is) e = let h : answer t after ≡ fault r = sym (wav_reads bytes t after is) ∙ e in
    absurd cc
fault_of bytes r (faulty x at) e =
    let h : fault x ≡ fault r = sym (fault_reads bytes x at) ∙ e in
    let same : x ≡ r = cc in
    subst (HasFault bytes) same at

-- every input has one outcome
pub some_outcome : (bytes : List ℕ) → ((s : Sound) × (rest : List ℕ) × IsWav bytes s rest)
    ⊎ ((f : FormatFault) × HasFault bytes f)
some_outcome bytes =
    elim (outcome bytes) [
      | faulty f has ↦ inr (f, has)
      | sounds s rest is ↦ inl (s, rest, is)
    ]

pub one_sound : (bytes : List ℕ) (s t : Sound) (x y : List ℕ) → IsWav bytes s x → IsWav bytes t y → (s ≡ t) × (x ≡ y)
one_sound bytes s t x y p q =
    let h : answer s x ≡ answer t y = sym (wav_reads bytes s x p) ∙ wav_reads bytes t y q in
    let both : ◌≡◌ {A = Sound × List ℕ} (s, x) (t, y) = cc in
    (ap (λ (z : Sound × List ℕ). z.0) both, ap (λ (z : Sound × List ℕ). z.1) both)

pub one_fault : (bytes : List ℕ) (r q : FormatFault) → HasFault bytes r → HasFault bytes q → r ≡ q
one_fault bytes r q a b =
    let h : fault r ≡ fault q = sym (fault_reads bytes r a) ∙ fault_reads bytes q b in
    cc

pub not_both : (bytes : List ℕ) (s : Sound) (x : List ℕ) (r : FormatFault) → IsWav bytes s x → HasFault bytes r → ⊥
not_both bytes s x r p q =
    let h : answer s x ≡ fault r = sym (wav_reads bytes s x p) ∙ fault_reads bytes r q in
    cc

-- ---- what an answer that is so settles

-- what is so is answered, unless memory or the reader failed
pub accepts : (a b : Option (List ℕ)) (r : Result Sound WavFault) → Answers a b r
    → (input : List ℕ) (s : Sound) (rest : List ℕ) → a ≡ Some input → IsWav input s rest → Accepts b s rest r
accepts a b (Ok t) h input s rest e is =
    let m = h.at input e in
    let same = one_sound input t s m.0 rest m.2 is in
    (same.0, m.1 ∙ ap Some same.1)
accepts a b (Err (faults.Format f)) h input s rest e is =
    let m = h.at input e in
    absurd (not_both input s rest f is m.2.0)
accepts a b (Err faults.OutOfMemory) h input s rest e is = inl refl
accepts a b (Err faults.Read) h input s rest e is = inr refl
accepts a b (Err faults.Write) h input s rest e is = absurd h

pub refuses : (a b : Option (List ℕ)) (r : Result Sound WavFault) → Answers a b r
    → (input : List ℕ) (f : FormatFault) → a ≡ Some input → HasFault input f → Refuses f r
refuses a b (Ok t) h input f e has =
    let m = h.at input e in
    not_both input t m.0 f m.2 has
refuses a b (Err (faults.Format g)) h input f e has =
    let m = h.at input e in
    inl (ap faults.Format (one_fault input g f m.2.0 has))
refuses a b (Err faults.OutOfMemory) h input f e has = inr (inl refl)
refuses a b (Err faults.Read) h input f e has = inr (inr refl)
refuses a b (Err faults.Write) h input f e has = absurd h
