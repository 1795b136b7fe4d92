-- Texts as they are printed, character by character.
use Rattle.std.proofs.Common.{◌≡◌, ◌++◌, ℕ, List, [], length, chars, encode_utf8, IsUtf8, ap, ◌∙◌}
use Rattle.std.proofs.lemmas.Str.{chars_past_char, chars-nil}
use Rattle.std.proofs.lemmas.List.{nil_from_length}
use Rattle.std.specs.List.{flat_map}

pub chars_step : (shown : ℕ → List ℕ) (text rest : List ℕ) (c : ℕ) → IsUtf8 text → text ≡ encode_utf8 c ++ rest →
    flat_map shown (chars text) ≡ shown c ++ flat_map shown (chars rest)
chars_step shown text rest c utf8 parts = ap (flat_map shown) (chars_past_char text rest c utf8 parts)

pub chars_empty : (shown : ℕ → List ℕ) (text : List ℕ) → length text ≡ 0 → flat_map shown (chars text) ≡ []
chars_empty shown text none = ap (flat_map shown) (ap chars (nil_from_length text none) ∙ chars-nil)
