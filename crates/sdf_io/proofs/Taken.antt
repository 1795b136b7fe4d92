-- What a writer has taken that holds some of its bytes back.
use Rattle.std.proofs.Common.{◌≡◌, ℕ, List, [], ◌++◌, sym, ap, ◌∙◌, subst, append-nil, take, drop, take-append-drop}
use Rattle.std.specs.Prelude.{Option}
use Rattle.std.specs.Io.KnownBytes.{append_known, Appends, Keeps}
use Rattle.std.proofs.KnownBytes.{Keeps-refl, Keeps-trans}
use Rattle.std.proofs.KnownBytes.{append_known-grown, append_known-kept, append_known-moved, append_known-passed}

-- nothing is written yet
pub unchanged : (a : Option (List ℕ)) → Keeps a a
unchanged a = Keeps-refl a

-- the device took n of the bytes that were held
pub handed_on : (first a b : Option (List ℕ)) (all held rest : List ℕ) (n : ℕ) →
    Keeps (append_known first all) (append_known a held) → Appends a b (take n held) → rest ≡ drop n held →
    Keeps (append_known first all) (append_known b rest)
handed_on first a b all held rest n kept taken is =
    Keeps-trans _ _ _ kept (append_known-moved a b (take n held) rest held taken
    (sym (take-append-drop n held) ∙ ap (λ l. take n held ++ l) (sym is)))

-- the device took none of them
pub refused : (first a b : Option (List ℕ)) (all held : List ℕ) →
    Keeps (append_known first all) (append_known a held) → Keeps a b →
    Keeps (append_known first all) (append_known b held)
refused first a b all held kept same = Keeps-trans _ _ _ kept (append_known-kept a b held same)

-- more bytes are held
pub held_more : (a : Option (List ℕ)) (old new bytes : List ℕ) → new ≡ old ++ bytes →
    Appends (append_known a old) (append_known a new) bytes
held_more a old new bytes is = append_known-grown _ a old new bytes (Keeps-refl _) is

-- none are held any more, and the device took others
pub passed_on : (first a b : Option (List ℕ)) (all held bytes : List ℕ) →
    Keeps (append_known first all) (append_known a held) → held ≡ [] → Appends a b bytes →
    Appends (append_known first all) (append_known b held) bytes
passed_on first a b all held bytes kept none taken = subst (Appends _ _) (append-nil bytes)
    (append_known-passed _ a b held held bytes [] kept none taken (sym (append-nil held)))
