-- What is common to all answers of a run.
use Rattle.std.proofs.Common.{◌≡◌, ◌⊎◌, inl, inr, ℕ, ◌+◌, ◌*◌, ◌%◌, nat_lt, eqb, not, true, false, Bool, List, ◌++◌}
use Rattle.std.proofs.Common.{Option, Some, None, Err, refl, sym, ap, ◌∙◌, append_assoc}
use Rattle.std.specs.Prelude.{if◌then◌else◌, option_map, drop}
use Rattle.std.specs.Io.KnownBytes.{Appends, Keeps}
use Rattle.std.proofs.lemmas.List.{drop-drop}
use Rattle.sdf_wav.specs.Device.{AppendsFront, LosesFront}
use Rattle.sdf_wav.specs.Canonical.{size_fault}
use Rattle.sdf_wav.specs.declared.fault.FormatFault.{FormatFault}
use Rattle.sdf_wav.specs.declared.fault.FormatFault.TheVariants as format
use Rattle.sdf_process.specs.declared.io_rates.StreamInfo.{StreamInfo}
use Rattle.sdf_process.specs.declared.io_rates.IoRates.{IoRates}
use Rattle.sdf_faults.specs.declared.fault.Fault.{Fault}
use Rattle.sdf_faults.specs.declared.fault.Fault.TheVariants as fault
use Rattle.sdf_process.specs.Output.{info_fault, frames_for, rate_for}
use Rattle.sdf_process.specs.Run.{IsFromOutside, Refuses, WritesFile}

-- bytes that are not touched stay as they were
pub keeps_same : (known : Option (List ℕ)) → Keeps known known
keeps_same None = tt
keeps_same (Some xs) = refl

-- bytes that are written in turn are written as one list
pub appends_join : (a b c : Option (List ℕ)) (x y : List ℕ) → Appends a b x → Appends b c y → Appends a c (x ++ y)
appends_join None b c x y p q = tt
appends_join (Some l) None c x y p q = absurd p
appends_join (Some l) (Some m) None x y p q = absurd q
appends_join (Some l) (Some m) (Some z) x y p q = q ∙ (ap (λ v. v ++ y) p ∙ append_assoc l x y)

pub front_join : (a b c : Option (List ℕ)) (x y : List ℕ) → Appends a b x → AppendsFront b c y →
    AppendsFront a c (x ++ y)
front_join a b c x y p f = record {
  front = x ++ f.front;
  rest = f.rest;
  whole = ap (λ z. x ++ z) f.whole ∙ sym (append_assoc x f.front f.rest);
  written = appends_join a b c x f.front p f.written;
}

-- a front is gone that went in turns
pub lost_twice : (a b c : List ℕ) → LosesFront a b → LosesFront b c → LosesFront a c
lost_twice a b c (k, first) (j, next) = (k + j, next ∙ (ap (drop j) first ∙ drop-drop j k a))

-- which is what any fault of a file allows
pub kept : (held : Option (List ℕ)) (g : FormatFault) → WritesFile {X = Unit {0}} held held (Err (fault.Wav g))
kept held format.Truncated = inl (keeps_same held)
kept held format.NotRiff = keeps_same held
kept held format.NotWave = keeps_same held
kept held format.NoFormat = keeps_same held
kept held format.ShortFormat = keeps_same held
kept held format.NotPcm16 = keeps_same held
kept held format.Channels = keeps_same held
kept held format.RateZero = keeps_same held
kept held format.BadAlign = keeps_same held
kept held format.NoData = keeps_same held
kept held format.PartialFrame = keeps_same held
kept held format.TooLong = keeps_same held
kept held format.RateTooLarge = keeps_same held

-- what the fault of an output is
abbrev pub IsOfOutput : Fault → Type 0
IsOfOutput e = (e ≡ fault.ChannelsMissing) ⊎ ((e ≡ fault.RateNotWhole) ⊎ ((g : FormatFault) × (e ≡ fault.Wav g)))

of_output : (b c : Bool) (o : Option FormatFault) (e : Fault) →
    (if b then Some fault.ChannelsMissing else (if c then Some fault.RateNotWhole else option_map fault.Wav o)) ≡
    Some e → IsOfOutput e
of_output true c o e is = inl (let same : Some fault.ChannelsMissing ≡ Some e = is in cc)
of_output false true o e is = inr (inl (let same : Some fault.RateNotWhole ≡ Some e = is in cc))
of_output false false (Some g) e is = inr (inr (g, let same : Some (fault.Wav g) ≡ Some e = is in cc))
of_output false false None e is = absurd (let none : None ≡ Some e = is in cc)

pub fault_of_announced : (x : IoRates) (a : StreamInfo) (e : Fault) → info_fault x a ≡ Some e → IsOfOutput e
fault_of_announced x a e is =
    of_output (nat_lt a.channels x.inputs) (not (eqb (a.rate * x.made % x.taken) 0))
    (size_fault (rate_for x a.rate) x.outputs (frames_for x a.frames * x.outputs)) e is

-- a fault from outside fits any answer
pub refuses_outside : (o : Option Fault) (f : Fault) → IsFromOutside f → Refuses o (Err f)
refuses_outside None f h = h
refuses_outside (Some g) f h = inr h
